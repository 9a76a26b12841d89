-- What is noted of a line: which words it leaves, and that it is so of the nodes and policies with the line. Assumes nothing.
use mathlib.Core.Path.{◌≡◌, refl, sym, ap, ap₂, subst, ◌∙◌}
use mathlib.Core.List.{List, [], ◌∷◌, ◌++◌}
use Prim.Native.Nat.{ℕ, ◌+◌, ◌-◌, ◌≤◌, ◌<◌}
use native.Mathlib.Omega.{arith}
use native.Mathlib.Decide.{ℕ_discrete}
use borrow.Author.Tests.{eq-eqb, ne_eqb}
use lib.ListN.{length, get_or, take, drop, set, length-set}
use lib.Seq.{take-set-le, drop-set-lt, get_or-drop}
use Rattle.sheet.specs.Forms.{NODE, POLICY}
use Rattle.table.specs.Layout.{part, TOP, USES, SIZES, SLOTS, SPENT, rows_of, limits, limit}
use Rattle.uses.specs.declared.Under as U
use Rattle.uses.specs.Under.{under_row, spent_on, Noted}
use Rattle.uses.proofs.NotedLaws.{stored, noted_other, noted_policy, noted_node}
use Rattle.take.specs.Steps.{with_depth, with_under, notes_of, with_notes}
use Rattle.take.proofs.Committing.{line_words}

-- ---- words that agree

-- past a place
pub past_same : (b b' : List ℕ) (i : ℕ) → drop i b' ≡ drop i b → (j : ℕ) → i ≤ j → get_or b' j 0 ≡ get_or b j 0
past_same b b' i e j h =
    let z : i + (j - i) ≡ j = omega arith in
    ap (λ (n : ℕ). get_or b' n 0) (sym z) ∙ sym (get_or-drop i b' (j - i) 0) ∙ ap (λ (l : List ℕ). get_or l (j - i) 0) e ∙ get_or-drop i b (j - i) 0 ∙ ap (λ (n : ℕ). get_or b n 0) z

-- in what is noted
pub noted_near : (a b b' : List ℕ) → Noted a b → get_or a NODE 0 ≤ 1024 → ((j : ℕ) → SIZES ≤ j → j ≤ SPENT → get_or b' j 0 ≡ get_or b j 0) → Noted a b'
noted_near a b b' i few w =
    record {
      sizes = λ n h. w (SIZES + n) (omega arith) (omega (arith, h, few)) ∙ i.sizes n h;
      slots = λ n h. w (SLOTS + n) (omega arith) (omega (arith, h, few)) ∙ i.slots n h;
      spent = w SPENT (omega arith) (omega arith) ∙ i.spent;
    }

-- ---- which words are noted

module _ (b : List ℕ) (n : ℕ) (u : U.Under) where
  under_below : take SIZES (with_under b n u) ≡ take SIZES b
  unfolding with_under
  under_below = take-set-le SIZES (set b (SIZES + n) u.size) (SLOTS + n) u.slots (omega arith) ∙ take-set-le SIZES b (SIZES + n) u.size (omega arith)

  under_rest : n ≤ 1024 → drop 16384 (with_under b n u) ≡ drop 16384 b
  unfolding with_under
  under_rest h = drop-set-lt 16384 (set b (SIZES + n) u.size) (SLOTS + n) u.slots (omega arith) ∙ drop-set-lt 16384 b (SIZES + n) u.size (omega arith)

  under_long : length (with_under b n u) ≡ length b
  unfolding with_under
  under_long = length-set (set b (SIZES + n) u.size) (SLOTS + n) u.slots ∙ length-set b (SIZES + n) u.size

module _ (a b : List ℕ) (k e : ℕ) where
  notes_node : k ≡ NODE → notes_of a b k e ≡ with_under b (get_or a NODE 0) (under_row a b (part a (get_or a TOP 0) e))
  unfolding notes_of
  notes_node h = rw (eq-eqb k NODE h) refl

  notes_policy : k ≡ POLICY → notes_of a b k e ≡ set b SPENT (spent_on a b (part a (get_or a TOP 0) e))
  unfolding notes_of
  notes_policy h = rw (ne_eqb k NODE (λ q. absurd (omega (arith, h, q))), eq-eqb k POLICY h) refl

  notes_none : (k ≡ NODE → ⊥) → (k ≡ POLICY → ⊥) → notes_of a b k e ≡ b
  unfolding notes_of
  notes_none n p = rw (ne_eqb k NODE n, ne_eqb k POLICY p) refl

  pub notes_below : take SIZES (notes_of a b k e) ≡ take SIZES b
  notes_below = go (ℕ_discrete k NODE) (ℕ_discrete k POLICY)
    where
      go : Dec (k ≡ NODE) → Dec (k ≡ POLICY) → take SIZES (notes_of a b k e) ≡ take SIZES b
      go (yes h) y = ap (take SIZES) (notes_node h) ∙ under_below b (get_or a NODE 0) (under_row a b (part a (get_or a TOP 0) e))
      go (no n) (yes h) = ap (take SIZES) (notes_policy h) ∙ take-set-le SIZES b SPENT (spent_on a b (part a (get_or a TOP 0) e)) (omega arith)
      go (no n) (no p) = ap (take SIZES) (notes_none n p)

  pub notes_rest : get_or a NODE 0 ≤ 1024 → drop 16384 (notes_of a b k e) ≡ drop 16384 b
  notes_rest few = go (ℕ_discrete k NODE) (ℕ_discrete k POLICY)
    where
      go : Dec (k ≡ NODE) → Dec (k ≡ POLICY) → drop 16384 (notes_of a b k e) ≡ drop 16384 b
      go (yes h) y = ap (drop 16384) (notes_node h) ∙ under_rest b (get_or a NODE 0) (under_row a b (part a (get_or a TOP 0) e)) few
      go (no n) (yes h) = ap (drop 16384) (notes_policy h) ∙ drop-set-lt 16384 b SPENT (spent_on a b (part a (get_or a TOP 0) e)) (omega arith)
      go (no n) (no p) = ap (drop 16384) (notes_none n p)

  pub notes_long : length (notes_of a b k e) ≡ length b
  notes_long = go (ℕ_discrete k NODE) (ℕ_discrete k POLICY)
    where
      go : Dec (k ≡ NODE) → Dec (k ≡ POLICY) → length (notes_of a b k e) ≡ length b
      go (yes h) y = ap length (notes_node h) ∙ under_long b (get_or a NODE 0) (under_row a b (part a (get_or a TOP 0) e))
      go (no n) (yes h) = ap length (notes_policy h) ∙ length-set b SPENT (spent_on a b (part a (get_or a TOP 0) e))
      go (no n) (no p) = ap length (notes_none n p)

-- ---- with its depth

pub notes_depth : (a b b' : List ℕ) (k e d : ℕ) → b' ≡ with_notes a b k e d → b' ≡ with_depth (notes_of a b k e) k (get_or a k 0) d
unfolding with_notes
notes_depth a b b' k e d p = p

node_words : (a b : List ℕ) (e d : ℕ) → with_notes a b NODE e d ≡ stored b (get_or a NODE 0) (under_row a b (part a (get_or a TOP 0) e)).size (under_row a b (part a (get_or a TOP 0) e)).slots d
unfolding with_notes with_depth notes_of with_under
node_words a b e d = refl

policy_words : (a b : List ℕ) (e d : ℕ) → with_notes a b POLICY e d ≡ set b SPENT (spent_on a b (part a (get_or a TOP 0) e))
unfolding with_notes with_depth notes_of
policy_words a b e d = refl

nodes_most : limit NODE ≡ 1024
unfolding limit limits
nodes_most = refl

-- ---- it is so with the line, the words from the heap's end up to e

module _ (a b a' b' : List ℕ) (k e d : ℕ) (i : Noted a b) (few : get_or a NODE 0 ≤ 1024) (long : 16384 ≤ length b) (room : get_or a k 0 < limit k)
    (own : rows_of a' k ≡ rows_of a k ++ (part a (get_or a TOP 0) e ∷ [])) (other : (j : ℕ) → j < TOP → (j ≡ k → ⊥) → rows_of a' j ≡ rows_of a j)
    (none : k ≡ NODE → (get_or a' POLICY 0 ≡ 0) × (get_or a POLICY 0 ≡ 0)) (put : b' ≡ with_notes a b k e d) where
  abbrev r : List ℕ
  r = part a (get_or a TOP 0) e

  of_node : k ≡ NODE → Noted a' b'
  of_node h =
      noted_node a b a' b' i r (subst (λ (j : ℕ). rows_of a' j ≡ rows_of a j ++ (r ∷ [])) h own) (none h).0 (none h).1
      (get_or a NODE 0) d refl (subst (λ (n : ℕ). get_or a NODE 0 < n) nodes_most (subst (λ (j : ℕ). get_or a j 0 < limit j) h room)) long
      (put ∙ ap (λ (j : ℕ). with_notes a b j e d) h ∙ node_words a b e d)

  of_policy : k ≡ POLICY → Noted a' b'
  of_policy h =
      noted_policy a b a' b' i (other NODE (omega arith) (λ q. absurd (omega (arith, h, q)))) r (subst (λ (j : ℕ). rows_of a' j ≡ rows_of a j ++ (r ∷ [])) h own) few long
      (put ∙ ap (λ (j : ℕ). with_notes a b j e d) h ∙ policy_words a b e d)

  of_other : (k ≡ NODE → ⊥) → (k ≡ POLICY → ⊥) → Noted a' b'
  of_other n p =
      let c : b' ≡ with_depth b k (get_or a k 0) d = notes_depth a b b' k e d put ∙ ap (λ (x : List ℕ). with_depth x k (get_or a k 0) d) (notes_none a b k e n p) in
      noted_other a b a' b' i (other NODE (omega arith) (λ q. n (sym q))) (other POLICY (omega arith) (λ q. p (sym q))) few
      (λ j h. past_same b b' (USES + 1024) (line_words b b' k (get_or a k 0) d room c).1 j h)

  pub noted_line : Noted a' b'
  noted_line = go (ℕ_discrete k NODE) (ℕ_discrete k POLICY)
    where
      go : Dec (k ≡ NODE) → Dec (k ≡ POLICY) → Noted a' b'
      go (yes h) y = of_node h
      go (no n) (yes h) = of_policy h
      go (no n) (no p) = of_other n p

-- ---- `put_under`, `put_uses`, `put_notes` and `commit`

module _ (a b : List ℕ) (top e : ℕ) (q : List ℕ) (ht : top ≡ get_or a TOP 0) (hq : q ≡ part a top e) where
  row_is : q ≡ part a (get_or a TOP 0) e
  row_is = hq ∙ ap (λ (t : ℕ). part a t e) ht

  pub put_under : (n : ℕ) (u : U.Under) → u ≡ under_row a b q → (b₁ b₂ : List ℕ) → b₁ ≡ set b (SIZES + n) u.size → b₂ ≡ set b₁ (SLOTS + n) u.slots
      → b₂ ≡ with_under b n (under_row a b (part a (get_or a TOP 0) e))
  unfolding with_under
  put_under n u hu b₁ b₂ h₁ h₂ =
      h₂ ∙ ap (λ (x : List ℕ). set x (SLOTS + n) u.slots) h₁
      ∙ ap (λ (v : U.Under). set (set b (SIZES + n) v.size) (SLOTS + n) v.slots) (hu ∙ ap (under_row a b) row_is)

  pub put_uses_law : (n : ℕ) → n ≡ spent_on a b q → (b₁ : List ℕ) → b₁ ≡ set b SPENT n → b₁ ≡ set b SPENT (spent_on a b (part a (get_or a TOP 0) e))
  put_uses_law n hn b₁ h₁ = h₁ ∙ ap (set b SPENT) (hn ∙ ap (spent_on a b) row_is)

module _ (a b b₁ : List ℕ) (k e : ℕ) where
  pub note_node : k ≡ NODE → (n : ℕ) → n ≡ get_or a NODE 0 → b₁ ≡ with_under b n (under_row a b (part a (get_or a TOP 0) e)) → b₁ ≡ notes_of a b k e
  note_node h n hn p = p ∙ ap (λ (x : ℕ). with_under b x (under_row a b (part a (get_or a TOP 0) e))) hn ∙ sym (notes_node a b k e h)

  pub note_policy : k ≡ POLICY → b₁ ≡ set b SPENT (spent_on a b (part a (get_or a TOP 0) e)) → b₁ ≡ notes_of a b k e
  note_policy h p = p ∙ sym (notes_policy a b k e h)

  pub commit_notes : (n d : ℕ) → n ≡ get_or a k 0 → b₁ ≡ notes_of a b k e → (b₂ : List ℕ) → b₂ ≡ with_depth b₁ k n d → b₂ ≡ with_notes a b k e d
  unfolding with_notes
  commit_notes n d hn h₁ b₂ h₂ = h₂ ∙ ap₂ (λ (x : List ℕ) (y : ℕ). with_depth x k y d) h₁ hn

pub note_none : (a b : List ℕ) (k e : ℕ) → (k ≡ NODE → ⊥) → (k ≡ POLICY → ⊥) → b ≡ notes_of a b k e
note_none a b k e n p = sym (notes_none a b k e n p)

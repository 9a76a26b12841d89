-- After the last line: a line missing, the lowest policy that has a slot and no link line, the lowest node never used, or accepted. Assumes nothing.
use mathlib.Core.Path.{◌≡◌, refl, sym, ap, ap₂, subst, ◌∙◌}
use mathlib.Core.Bool.{Bool, true, false, cond, not, ◌&&◌, ◌||◌}
use mathlib.Core.List.{List, [], ◌∷◌}
use Prim.Native.Nat.{ℕ, suc, ◌+◌, ◌-◌, ◌*◌, ◌≤◌, ◌<◌}
use native.Mathlib.Numerals.{add-one}
use native.Mathlib.Omega.{arith}
use borrow.Author.Tests.{eq-eqb, ne_eqb, lt-ltb, le-ltb, ltb-true, ltb-false, not-true, not-false}
use Rattle.std.specs.Prelude.{Some, None}
use Rattle.std.specs.List.{position, position_or_len}
use Rattle.std.proofs.lemmas.Option.{none-some, cond_some}
use Rattle.std.proofs.lemmas.List.Recursion.{is_position_or_len}
use lib.Dec.{ltb, eqb}
use lib.ListN.{length, get_or, take, drop, set, length-drop, drop_of_length-le}
use lib.Seq.{drop-cons, length-take-le}
use Rattle.cedar.specs.Numbered.{mem_n}
use Rattle.sheet.specs.Forms.{at, KIND, SHAPE, NODE, POLICY, LINK, no_key}
use Rattle.sheet.specs.State.{State, empty, lines_of, sum, before}
use Rattle.sheet.specs.Typing.{under_from, nodes_under, is_slot}
use Rattle.sheet.specs.Sheet.{Reading, least, reach, enough, firsts, has_slot, any_slot, first_unused, first_unlinked, reads, all_used, all_linked, ending}
use Rattle.table.specs.Layout.{USES, rows_of, held}
use Rattle.table.proofs.Rows.{count_held, count_rows, lines_held_law}
use Rattle.table.proofs.Counts.{count_at}
use Rattle.table.proofs.Held.{counts_in, counts_held, length_tab, used_of}
use Rattle.uses.specs.Uses.{uses_in}
use Rattle.uses.specs.Under.{NO_SLOT, FOR_PRINCIPAL, FOR_RESOURCE, FOR_BOTH, slots_of, slots_at, Noted}
use Rattle.uses.proofs.NotedLaws.{noted_slots}
use Rattle.judge.proofs.Alike.{count_alike}

-- ---- the lowest node that is not used

-- it is the place of the first 0
unused_at : (l : List ℕ) → first_unused l ≡ position_or_len (λ x. eqb x 0) l
unused_at l = is_position_or_len first_unused (λ x. eqb x 0) refl (λ x xs. ap (cond (eqb x 0) 0) (omega arith)) l

module _ (a b : List ℕ) (long : USES + get_or a NODE 0 ≤ length b) where
  -- the uses are noted of all nodes
  uses_long : length (uses_in a b) ≡ get_or a NODE 0
  uses_long = length-take-le (get_or a NODE 0) (drop USES b) (rw (length-drop USES b) (omega arith))

  pub unused_some : (u : ℕ) → Some u ≡ position (λ x. eqb x 0) (uses_in a b) → (u ≡ first_unused (uses_in a b)) × (u < get_or a NODE 0)
  unused_some u e =
      let h = cond_some _ _ u (sym e) in
      (sym h.1 ∙ sym (unused_at (uses_in a b)), omega (arith, uses_long, ltb-true _ _ h.0, h.1))

  pub unused_none : None ≡ position (λ x. eqb x 0) (uses_in a b) → get_or a NODE 0 ≤ first_unused (uses_in a b)
  unused_none e = go (ltb (position_or_len (λ x. eqb x 0) (uses_in a b)) (length (uses_in a b))) refl e
    where
      go : (t : Bool) → ltb (position_or_len (λ x. eqb x 0) (uses_in a b)) (length (uses_in a b)) ≡ t → None ≡ cond t (Some (position_or_len (λ x. eqb x 0) (uses_in a b))) None → get_or a NODE 0 ≤ first_unused (uses_in a b)
      go true p q = absurd (none-some _ q)
      go false p q = omega (arith, uses_long, unused_at (uses_in a b), ltb-false _ _ p)

-- ---- the lowest policy that has a slot and no link line

any_has : (rs : List (List ℕ)) → any_slot rs ≡ (has_slot 0 rs || has_slot 1 rs)
any_has [] = refl
any_has (r ∷ rs) = ap (λ (x : Bool). is_slot r || x) (any_has rs) ∙ go (is_slot r) (eqb (at r 1) 0) (has_slot 0 rs) (has_slot 1 rs)
  where
    go : (p q x y : Bool) → (p || (x || y)) ≡ (((p && eqb (cond q 0 1) 0) || x) || ((p && eqb (cond q 0 1) 1) || y))
    go true true x y = refl
    go true false true y = refl
    go true false false y = refl
    go false q x y = refl

slots_any : (rs : List (List ℕ)) (n : ℕ) → n ≡ slots_of rs → any_slot rs ≡ not (eqb n NO_SLOT)
unfolding slots_of
slots_any rs n e = any_has rs ∙ go (has_slot 0 rs) (has_slot 1 rs) ∙ ap (λ (x : ℕ). not (eqb x NO_SLOT)) (sym e)
  where
    go : (x y : Bool) → (x || y) ≡ not (eqb (cond x (cond y FOR_BOTH FOR_PRINCIPAL) (cond y FOR_RESOURCE NO_SLOT)) NO_SLOT)
    go true true = refl
    go true false = refl
    go false true = refl
    go false false = refl

-- a policy's row, its root, and the slots noted there
module _ (a b : List ℕ) (i : Noted a b) (k : ℕ) (q : List ℕ) (hq : q ≡ get_or (rows_of a POLICY) k []) (root : ℕ) (hr : root ≡ get_or q 3 0) (n : ℕ) (hn : n ≡ slots_at a b root) where
  root_slots : any_slot (nodes_under (held [] a []) (at (get_or (rows_of a POLICY) k []) 2)) ≡ not (eqb n NO_SLOT)
  root_slots =
      ap (λ (x : ℕ). any_slot (nodes_under (held [] a []) x)) (sym (hr ∙ ap (λ (r : List ℕ). get_or r 3 0) hq))
      ∙ slots_any (nodes_under (held [] a []) root) n (hn ∙ noted_slots a b i root)

  pub unlinked_not : n ≡ NO_SLOT → false ≡ (any_slot (nodes_under (held [] a []) (at (get_or (rows_of a POLICY) k []) 2)) && not (mem_n k (firsts (rows_of a LINK))))
  unlinked_not e = sym (rw (root_slots, eq-eqb n NO_SLOT e) refl)

  pub unlinked_by : (n ≡ NO_SLOT → ⊥) → (f : Bool) → f ≡ mem_n k (firsts (rows_of a LINK)) → not f ≡ (any_slot (nodes_under (held [] a []) (at (get_or (rows_of a POLICY) k []) 2)) && not (mem_n k (firsts (rows_of a LINK))))
  unlinked_by e f hf = sym (rw (root_slots, ne_eqb n NO_SLOT e, ← hf) refl)

-- none before number i is
abbrev pub LinkedBelow : List ℕ → ℕ → Type 0
LinkedBelow a i = first_unlinked (held [] a []) 0 (rows_of a POLICY) ≡ first_unlinked (held [] a []) i (drop i (rows_of a POLICY))

module _ (a : List ℕ) (i : ℕ) (s : LinkedBelow a i) where
  module _ (h : i < get_or a POLICY 0) (u : Bool) (hu : u ≡ (any_slot (nodes_under (held [] a []) (at (get_or (rows_of a POLICY) i []) 2)) && not (mem_n i (firsts (rows_of a LINK))))) where
    policy_at : first_unlinked (held [] a []) i (drop i (rows_of a POLICY)) ≡ cond u i (first_unlinked (held [] a []) (suc i) (drop (suc i) (rows_of a POLICY)))
    policy_at =
        ap (first_unlinked (held [] a []) i) (drop-cons (rows_of a POLICY) i [] (rw (count_rows a POLICY) (omega arith)))
        ∙ ap (λ (t : Bool). cond t i (first_unlinked (held [] a []) (suc i) (drop (suc i) (rows_of a POLICY)))) (links_as ∙ sym hu)
      where
        links_as : (any_slot (nodes_under (held [] a []) (at (get_or (rows_of a POLICY) i []) 2)) && not (mem_n i (firsts (lines_of (held [] a []) LINK))))
            ≡ (any_slot (nodes_under (held [] a []) (at (get_or (rows_of a POLICY) i []) 2)) && not (mem_n i (firsts (rows_of a LINK))))
        links_as = ap (λ (l : List (List ℕ)). any_slot (nodes_under (held [] a []) (at (get_or (rows_of a POLICY) i []) 2)) && not (mem_n i (firsts l))) (lines_held_law [] a [] LINK (omega arith) (λ q. absurd (omega arith)))

    pub linking_here : u ≡ true → i ≡ first_unlinked (held [] a []) 0 (rows_of a POLICY)
    linking_here e = sym (s ∙ policy_at ∙ rw e refl)

    pub linking_on : u ≡ false → LinkedBelow a (i + 1)
    linking_on e = subst (LinkedBelow a) (sym (add-one i)) (s ∙ policy_at ∙ rw e refl)

  pub linking_none : get_or a POLICY 0 ≤ i → i ≡ first_unlinked (held [] a []) 0 (rows_of a POLICY)
  linking_none h = sym (s ∙ ap (first_unlinked (held [] a []) i) (drop_of_length-le (rows_of a POLICY) {i = i} (rw (count_rows a POLICY) (omega arith))))

-- it looks at the nodes and the links of a state
pub unlinked_same : (s u : State) → lines_of s NODE ≡ lines_of u NODE → lines_of s LINK ≡ lines_of u LINK → (n : ℕ) (rs : List (List ℕ)) → first_unlinked s n rs ≡ first_unlinked u n rs
unfolding nodes_under
unlinked_same s u p q n [] = refl
unlinked_same s u p q n (r ∷ rs) = λ i. cond (any_slot (get_or (under_from [] (p i)) (at r 2) []) && not (mem_n n (firsts (q i)))) n (unlinked_same s u p q (suc n) rs i)

unlinked_held : (a b : List ℕ) → first_unlinked (held [] a b) 0 (lines_of (held [] a b) POLICY) ≡ first_unlinked (held [] a []) 0 (rows_of a POLICY)
unlinked_held a b =
    ap (first_unlinked (held [] a b) 0) (lines_held_law [] a b POLICY (omega arith) (λ q. absurd (omega arith)))
    ∙ unlinked_same (held [] a b) (held [] a []) nodes links 0 (rows_of a POLICY)
  where
    nodes : lines_of (held [] a b) NODE ≡ lines_of (held [] a []) NODE
    nodes = lines_held_law [] a b NODE (omega arith) (λ q. absurd (omega arith)) ∙ sym (lines_held_law [] a [] NODE (omega arith) (λ q. absurd (omega arith)))

    links : lines_of (held [] a b) LINK ≡ lines_of (held [] a []) LINK
    links = lines_held_law [] a b LINK (omega arith) (λ q. absurd (omega arith)) ∙ sym (lines_held_law [] a [] LINK (omega arith) (λ q. absurd (omega arith)))

-- ---- lines before those of a key

pub record Summed (a : List ℕ) (k s i : ℕ) : Type 0 where
  pub left : sum (take k (counts_in a)) ≡ s + sum (take (k - i) (drop i (counts_in a)))
  pub low : s ≤ i * 4294967295
  pub near : i ≤ k
  pub early : k ≤ POLICY

module _ (a : List ℕ) (k s i : ℕ) (t : Summed a k s i) where
  pub summed_on : (x : ℕ) → i < k → x ≡ get_or a i 0 → x < 4294967296 → Summed a k (s + x) (i + 1)
  summed_on x h e l =
      let p : k - i ≡ suc (k - (i + 1)) = omega arith in
      let q : drop i (counts_in a) ≡ x ∷ drop (suc i) (counts_in a) = drop-cons (counts_in a) i 0 (rw (length_tab (λ (k : ℕ). get_or a k 0) 0 no_key) (omega (arith, t.early)))
      ∙ ap (λ (y : ℕ). y ∷ drop (suc i) (counts_in a)) (count_at a i (omega (arith, t.early)) ∙ sym e) in
      let w : sum (take (k - i) (drop i (counts_in a))) ≡ x + sum (take (k - (i + 1)) (drop (suc i) (counts_in a))) = ap₂ (λ (c : ℕ) (y : List ℕ). sum (take c y)) p q in
      let v : sum (take (k - (i + 1)) (drop (suc i) (counts_in a))) ≡ sum (take (k - (i + 1)) (drop (i + 1) (counts_in a))) = ap (λ (c : ℕ). sum (take (k - (i + 1)) (drop c (counts_in a)))) (sym (add-one i)) in
      record { left = omega (arith, t.left, w, v); low = omega (arith, t.low); near = omega arith; early = t.early }

  pub summed_end : k ≤ i → (s ≡ before (held [] a []) k) × (s ≤ 55834574835)
  summed_end h =
      let p : k - i ≡ 0 = omega arith in
      let q : sum (take (k - i) (drop i (counts_in a))) ≡ 0 = ap (λ (c : ℕ). sum (take c (drop i (counts_in a)))) p in
      let w : before (held [] a []) k ≡ sum (take k (counts_in a)) = ap (λ (c : List ℕ). sum (take k c)) (counts_held [] a []) in
      (omega (arith, t.left, q, w), omega (arith, t.low, t.near, t.early))

-- ---- `finish`

enough_alike : (a b : List ℕ) → enough (held [] a []) no_key ≡ enough (held [] a b) no_key
enough_alike a b =
    ap₂ (λ (c : List ℕ) (n : ℕ). reach (take no_key c) (set (least empty) SHAPE n))
    (counts_held [] a [] ∙ sym (counts_held [] a b)) (count_alike a [] b KIND)

before_alike : (a b : List ℕ) (k : ℕ) → before (held [] a b) k ≡ before (held [] a []) k
before_alike a b k = ap (λ (c : List ℕ). sum (take k c)) (counts_held [] a b ∙ sym (counts_held [] a []))

module _ (a b : List ℕ) (k : ℕ) (o : Bool) (ho : o ≡ enough (held [] a []) no_key) where
  abbrev s : State
  s = held [] a b

  missing_is : not o ≡ true → ending s k ≡ reads s 3 k
  missing_is h = ap (λ (x : Bool). cond x (all_linked s (first_unlinked s 0 (lines_of s POLICY))) (reads s 3 k)) (sym (enough_alike a b) ∙ sym ho ∙ not-true o h)

  pub missing : not o ≡ true → (3 ≡ (ending s k).number) × (k ≡ (ending s k).line)
  missing h = (sym (ap (λ (x : Reading). x.number) (missing_is h)), sym (ap (λ (x : Reading). x.line) (missing_is h)))

  module _ (po : not o ≡ false) (p : ℕ) (hp : p ≡ first_unlinked (held [] a []) 0 (rows_of a POLICY)) (c : ℕ) (hc : c ≡ get_or a POLICY 0) where
    linked_is : ending s k ≡ cond (ltb p c) (reads s 5 (suc (before s POLICY + p))) (all_used s (first_unused s.used))
    linked_is =
        ap (λ (x : Bool). cond x (all_linked s (first_unlinked s 0 (lines_of s POLICY))) (reads s 3 k)) (sym (enough_alike a b) ∙ sym ho ∙ not-false o po)
        ∙ ap (all_linked s) (unlinked_held a b ∙ sym hp)
        ∙ ap (λ (x : ℕ). cond (ltb p x) (reads s 5 (suc (before s POLICY + p))) (all_used s (first_unused s.used))) (count_held [] a b POLICY (omega arith) ∙ sym hc)

    pub unlinked : p < c → (m : ℕ) → (m ≡ before (held [] a []) POLICY) × (m ≤ 55834574835) → (5 ≡ (ending s k).number) × (m + p + 1 ≡ (ending s k).line)
    unlinked h m hm =
        let e : ending s k ≡ reads s 5 (suc (before s POLICY + p)) = linked_is ∙ rw (lt-ltb p c h) refl in
        (sym (ap (λ (x : Reading). x.number) e), omega (arith, before_alike a b POLICY, hm.0, ap (λ (x : Reading). x.line) e))

    module _ (all : c ≤ p) (u : ℕ) (hu : u ≡ first_unused (uses_in a b)) (n : ℕ) (hn : n ≡ get_or a NODE 0) where
      all_is : ending s k ≡ cond (ltb u n) (reads s 8 (suc (before s NODE + u))) (reads s 0 0)
      all_is =
          linked_is ∙ ap (λ (x : Bool). cond x (reads s 5 (suc (before s POLICY + p))) (all_used s (first_unused s.used))) (le-ltb p c all)
          ∙ ap (all_used s) (ap first_unused (used_of [] a b) ∙ sym hu)
          ∙ ap (λ (x : ℕ). cond (ltb u x) (reads s 8 (suc (before s NODE + u))) (reads s 0 0)) (count_held [] a b NODE (omega arith) ∙ sym hn)

      pub unused : u < n → (m : ℕ) → (m ≡ before (held [] a []) NODE) × (m ≤ 55834574835) → (8 ≡ (ending s k).number) × (m + u + 1 ≡ (ending s k).line)
      unused h m hm =
          let e : ending s k ≡ reads s 8 (suc (before s NODE + u)) = all_is ∙ rw (lt-ltb u n h) refl in
          (sym (ap (λ (x : Reading). x.number) e), omega (arith, before_alike a b NODE, hm.0, ap (λ (x : Reading). x.line) e))

      pub accepted : n ≤ u → (0 ≡ (ending s k).number) × (0 ≡ (ending s k).line)
      accepted h =
          let e : ending s k ≡ reads s 0 0 = all_is ∙ rw (le-ltb u n h) refl in
          (sym (ap (λ (x : Reading). x.number) e), sym (ap (λ (x : Reading). x.line) e))

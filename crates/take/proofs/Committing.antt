-- The stores that add a line: the state with the line. Assumes nothing.
use mathlib.Core.Path.{◌≡◌, refl, sym, ap, subst, ◌∙◌}
use mathlib.Core.Bool.{Bool, true, false, cond, ◌&&◌, not, and-eq-true_iff}
use mathlib.Core.List.{List, [], ◌∷◌, ◌++◌}
use Prim.Native.Nat.{ℕ, zero, suc, ◌+◌, ◌-◌, ◌%◌, ◌≤◌, ◌<◌}
use native.Mathlib.Nat.{le_refl}
use native.Mathlib.Omega.{arith}
use native.Mathlib.Decide.{ℕ_discrete}
use borrow.Author.Tests.{eq-eqb, ne_eqb}
use lib.Dec.{ltb, eqb}
use lib.ListN.{length, get_or, take, drop, set, replicate, length-set, length-drop}
use lib.Seq.{drop-set-lt, drop-set-add, take-set-le, take-suc-set, get_or-set_other}
use Rattle.sheet.specs.Forms.{Slot, nothing, Form, forms, form_of, no_form, slot_at, slot_in, is_line, tag, items, key_of, refs_from, refs, TYPE, VALUE, NODE, no_key}
use Rattle.sheet.specs.State.{State, lines_of, depths_of}
use Rattle.sheet.specs.Sheet.{deepest, depth, marked, more}
use Rattle.table.specs.Layout.{TYPEDEPTHS, VALUEDEPTHS, NODEDEPTHS, USES, depths_at, rows_of, held, limits, limit, depth_base, depth_bases, depths_in, row_in}
use Rattle.table.proofs.Held.{used_of, held_more}
use Rattle.depths.proofs.DepthLaws.{no_base}
use Rattle.uses.specs.Uses.{BY_NODE, BY_POLICY, mark_of, uses_in}
use Rattle.take.specs.Steps.{with_depth}

-- ---- stores in regions

put_before : (b : List ℕ) (p x i n : ℕ) → p < i → depths_at (set b p x) i n ≡ depths_at b i n
put_before b p x i n h = ap (take n) (drop-set-lt i b p x h)

put_after : (b : List ℕ) (p x i n : ℕ) → i + n ≤ p → depths_at (set b p x) i n ≡ depths_at b i n
put_after b p x i n h =
    let z : i + (p - i) ≡ p = omega arith in
    ap (λ (q : ℕ). take n (drop i (set b q x))) (sym z) ∙ ap (take n) (drop-set-add i b (p - i) x) ∙ take-set-le n (drop i b) (p - i) x (omega arith)

put_next : (b : List ℕ) (i n x : ℕ) → i + n < length b → depths_at (set b (i + n) x) i (suc n) ≡ depths_at b i n ++ (x ∷ [])
put_next b i n x h = ap (take (suc n)) (drop-set-add i b n x) ∙ take-suc-set (drop i b) n x (rw (length-drop i b) (omega arith))

ones_next : (n : ℕ) → replicate {A = ℕ} (suc n) 1 ≡ replicate n 1 ++ (1 ∷ [])
ones_next zero = refl
ones_next (suc n) = ap (λ (l : List ℕ). 1 ∷ l) (ones_next n)

-- ---- lines of other keys than type, value and node refer to none of their own key

all_slots : (Slot → Bool) → List Slot → Bool
all_slots p [] = true
all_slots p (s ∷ l) = p s && all_slots p l

slot_has : (p : Slot → Bool) (l : List Slot) (i : ℕ) → p nothing ≡ true → all_slots p l ≡ true → p (get_or l i nothing) ≡ true
unfolding all_slots
slot_has p [] i d e = d
slot_has p (s ∷ l) zero d e = ((and-eq-true_iff (p s) (all_slots p l)).0 e).0
slot_has p (s ∷ l) (suc i) d e = slot_has p l i d ((and-eq-true_iff (p s) (all_slots p l)).0 e).1

-- no slot of the form is a line of its own key, or the key has depths
leafy : Form → Bool
leafy f = cond (eqb f.key TYPE) true (cond (eqb f.key VALUE) true (cond (eqb f.key NODE) true
    (all_slots (λ (s : Slot). not (is_line f.key s)) f.items && all_slots (λ (s : Slot). not (is_line f.key s)) f.group)))

all_leafy : List Form → Bool
all_leafy [] = true
all_leafy (f ∷ fs) = leafy f && all_leafy fs

form_leafy : (fs : List Form) (t : ℕ) → leafy no_form ≡ true → all_leafy fs ≡ true → leafy (get_or fs t no_form) ≡ true
unfolding all_leafy
form_leafy [] t d e = d
form_leafy (f ∷ fs) zero d e = ((and-eq-true_iff (leafy f) (all_leafy fs)).0 e).0
form_leafy (f ∷ fs) (suc t) d e = form_leafy fs t d ((and-eq-true_iff (leafy f) (all_leafy fs)).0 e).1

all_leafy_law : (t : ℕ) → leafy (form_of t) ≡ true
unfolding form_of forms leafy all_leafy all_slots
all_leafy_law t = form_leafy forms t refl refl

not_is : (b : Bool) → not b ≡ true → b ≡ false
not_is false e = refl
not_is true e = let z : ◌≡◌ {A = ℕ} 0 1 = cc in absurd (omega arith)

slot_in_law : (p : Slot → Bool) (f : Form) (j : ℕ) → p nothing ≡ true → all_slots p f.items ≡ true → all_slots p f.group ≡ true → p (slot_in f j) ≡ true
slot_in_law p f j d e g = go (ltb j (length f.items))
  where
    go : (b : Bool) → p (cond b (get_or f.items j nothing) (get_or f.group ((j - length f.items) % length f.group) nothing)) ≡ true
    go true = slot_has p f.items j d e
    go false = slot_has p f.group ((j - length f.items) % length f.group) d g

module _ (t : ℕ) (n₃ : (form_of t).key ≡ TYPE → ⊥) (n₅ : (form_of t).key ≡ VALUE → ⊥) (n₁₁ : (form_of t).key ≡ NODE → ⊥) where
  leaf_slots : (all_slots (λ (s : Slot). not (is_line (form_of t).key s)) (form_of t).items && all_slots (λ (s : Slot). not (is_line (form_of t).key s)) (form_of t).group) ≡ true
  unfolding leafy
  leaf_slots = rw (ne_eqb (form_of t).key TYPE n₃, ne_eqb (form_of t).key VALUE n₅, ne_eqb (form_of t).key NODE n₁₁) at (all_leafy_law t)

  leaf_slot : (j : ℕ) → is_line (form_of t).key (slot_at t j) ≡ false
  unfolding slot_at
  leaf_slot j =
      let p = (and-eq-true_iff (all_slots (λ (s : Slot). not (is_line (form_of t).key s)) (form_of t).items) (all_slots (λ (s : Slot). not (is_line (form_of t).key s)) (form_of t).group)).0 leaf_slots in
      not_is (is_line (form_of t).key (slot_in (form_of t) j)) (slot_in_law (λ (s : Slot). not (is_line (form_of t).key s)) (form_of t) j refl p.0 p.1)

  no_refs : (j : ℕ) (l : List ℕ) → refs_from (form_of t).key t j l ≡ []
  no_refs j [] = refl
  no_refs j (x ∷ l) = rw (leaf_slot j) (no_refs (suc j) l)

leaf_depth : (s : State) (r : List ℕ) → (key_of r ≡ TYPE → ⊥) → (key_of r ≡ VALUE → ⊥) → (key_of r ≡ NODE → ⊥) → depth s (key_of r) r ≡ 1
unfolding depth refs key_of
leaf_depth s r n₃ n₅ n₁₁ = ap (λ (l : List ℕ). suc (deepest s (form_of (tag r)).key l)) (no_refs (tag r) n₃ n₅ n₁₁ 0 (items r))

-- ---- the state with the line

-- a line marks the nodes that it uses by its key
marks_are : (t : Bool) (u l : List ℕ)
    → cond t (marked (cond t BY_NODE BY_POLICY) u l ++ (0 ∷ [])) (marked (cond t BY_NODE BY_POLICY) u l) ≡ cond t (marked BY_NODE u l ++ (0 ∷ [])) (marked BY_POLICY u l)
marks_are true u l = refl
marks_are false u l = refl

-- over any state, so that no state is written out
more_as : (s : State) (k d : ℕ) (r u : List ℕ) → key_of r ≡ k → d ≡ depth s k r → s.used ≡ u
    → record {
      lines = set s.lines k (lines_of s k ++ (r ∷ []));
      depths = set s.depths k (depths_of s k ++ (d ∷ []));
      used = cond (eqb k NODE) (marked BY_NODE u (refs NODE r) ++ (0 ∷ [])) (marked BY_POLICY u (refs NODE r));
    } ≡ more s r
unfolding more
more_as s k d r u key deep e = rw (key, deep, e) refl

more_is : (s : State) (k d : ℕ) (r u : List ℕ) → key_of r ≡ k → d ≡ depth s k r → s.used ≡ u
    → record {
      lines = set s.lines k (lines_of s k ++ (r ∷ []));
      depths = set s.depths k (depths_of s k ++ (d ∷ []));
      used = cond (eqb k NODE) (marked (mark_of k) u (refs NODE r) ++ (0 ∷ [])) (marked (mark_of k) u (refs NODE r));
    } ≡ more s r
more_is s k d r u key deep e =
    ap (λ (v : List ℕ). record { lines = set s.lines k (lines_of s k ++ (r ∷ [])); depths = set s.depths k (depths_of s k ++ (d ∷ [])); used = v }) (marks_are (eqb k NODE) u (refs NODE r))
    ∙ more_as s k d r u key deep e

-- what the stores leave, for each key
pub data Put (b b' : List ℕ) (k n d : ℕ) : Type 0 where
  type : k ≡ TYPE → b' ≡ set b (TYPEDEPTHS + n) d → Put b b' k n d
  value : k ≡ VALUE → b' ≡ set b (VALUEDEPTHS + n) d → Put b b' k n d
  node : k ≡ NODE → b' ≡ set (set b (NODEDEPTHS + n) d) (USES + n) 0 → Put b b' k n d
  leaf : (k ≡ TYPE → ⊥) → (k ≡ VALUE → ⊥) → (k ≡ NODE → ⊥) → b' ≡ b → Put b b' k n d

put_is : (b b' : List ℕ) (k n d : ℕ) → b' ≡ with_depth b k n d → Put b b' k n d
unfolding with_depth
put_is b b' k n d put = go (ℕ_discrete k TYPE) (ℕ_discrete k VALUE) (ℕ_discrete k NODE)
  where
    go : Dec (k ≡ TYPE) → Dec (k ≡ VALUE) → Dec (k ≡ NODE) → Put b b' k n d
    go (yes e) v w = type e (put ∙ rw (eq-eqb k TYPE e) refl)
    go (no u) (yes e) w = value e (put ∙ rw (ne_eqb k TYPE u, eq-eqb k VALUE e) refl)
    go (no u) (no v) (yes e) = node e (put ∙ rw (ne_eqb k TYPE u, ne_eqb k VALUE v, eq-eqb k NODE e) refl)
    go (no u) (no v) (no w) = leaf u v w (put ∙ rw (ne_eqb k TYPE u, ne_eqb k VALUE v, ne_eqb k NODE w) refl)

limits_are : (limit TYPE ≡ 128) × (limit VALUE ≡ 1024) × (limit NODE ≡ 1024)
unfolding limit limits
limits_are = (refl, refl, refl)

bases_are : (depth_base TYPE ≡ TYPEDEPTHS) × (depth_base VALUE ≡ VALUEDEPTHS) × (depth_base NODE ≡ NODEDEPTHS)
unfolding depth_base depth_bases
bases_are = (refl, refl, refl)

depth_in : (j i : ℕ) (l : List ℕ) (m : ℕ) → depth_base j ≡ i → (i ≡ 0 → ⊥) → get_or l j 0 ≡ m → (c : List ℕ) → depths_in l c j ≡ depths_at c i m
depth_in j i l m e z q c = rw (e, ne_eqb i 0 z, q) refl

not_zero : (i : ℕ) → TYPEDEPTHS ≤ i → i ≡ 0 → ⊥
not_zero i h e = omega arith

-- as many as the key may have
at_most : (j k n m : ℕ) → j ≡ k → limit k ≡ m → n ≤ limit j → n ≤ m
at_most j k n m e q h = subst (λ (x : ℕ). n ≤ x) (ap limit e ∙ q) h

-- the three regions of depths, each below the uses
type_in : (n : ℕ) → n ≤ 128 → (TYPEDEPTHS ≤ TYPEDEPTHS) × (TYPEDEPTHS + n ≤ USES)
type_in n h = (omega arith, omega arith)

value_in : (n : ℕ) → n ≤ 1024 → (TYPEDEPTHS ≤ VALUEDEPTHS) × (VALUEDEPTHS + n ≤ USES)
value_in n h = (omega arith, omega arith)

node_in : (n : ℕ) → n ≤ 1024 → (TYPEDEPTHS ≤ NODEDEPTHS) × (NODEDEPTHS + n ≤ USES)
node_in n h = (omega arith, omega arith)

node_key : NODE < no_key
node_key = omega arith

uses_past : NODEDEPTHS ≤ USES
uses_past = omega arith

type_node : TYPE ≡ NODE → ⊥
type_node e = omega arith

value_node : VALUE ≡ NODE → ⊥
value_node e = omega arith

module _ (b b' : List ℕ) (k n d : ℕ) where
  -- the new depth follows those of its key
  own_type : n < 128 → 16384 ≤ length b → b' ≡ set b (TYPEDEPTHS + n) d → depths_at b' TYPEDEPTHS (suc n) ≡ depths_at b TYPEDEPTHS n ++ (d ∷ [])
  own_type h l p = rw p (put_next b TYPEDEPTHS n d (omega arith))

  own_value : n < 1024 → 16384 ≤ length b → b' ≡ set b (VALUEDEPTHS + n) d → depths_at b' VALUEDEPTHS (suc n) ≡ depths_at b VALUEDEPTHS n ++ (d ∷ [])
  own_value h l p = rw p (put_next b VALUEDEPTHS n d (omega arith))

  own_node : n < 1024 → 16384 ≤ length b → b' ≡ set (set b (NODEDEPTHS + n) d) (USES + n) 0 → depths_at b' NODEDEPTHS (suc n) ≡ depths_at b NODEDEPTHS n ++ (d ∷ [])
  own_node h l p = rw p (put_after (set b (NODEDEPTHS + n) d) (USES + n) 0 NODEDEPTHS (suc n) (omega arith) ∙ put_next b NODEDEPTHS n d (omega arith))

  own_use : n < 1024 → 16384 ≤ length b → b' ≡ set (set b (NODEDEPTHS + n) d) (USES + n) 0 → depths_at b' USES (suc n) ≡ depths_at b USES n ++ (0 ∷ [])
  own_use h l p =
      rw p (put_next (set b (NODEDEPTHS + n) d) USES n 0 (omega (arith, length-set b (NODEDEPTHS + n) d))
      ∙ ap (λ (x : List ℕ). x ++ (0 ∷ [])) (put_before b (NODEDEPTHS + n) d USES n (omega arith)))

  -- the depths of the other keys stay
  keeps_type : (k ≡ TYPE → ⊥) → (m : ℕ) → m ≤ 128 → Put b b' k n d → depths_at b' TYPEDEPTHS m ≡ depths_at b TYPEDEPTHS m
  keeps_type ne m s (type f p) = absurd (ne f)
  keeps_type ne m s (value f p) = rw p (put_after b (VALUEDEPTHS + n) d TYPEDEPTHS m (omega arith))
  keeps_type ne m s (node f p) = rw p (put_after (set b (NODEDEPTHS + n) d) (USES + n) 0 TYPEDEPTHS m (omega arith) ∙ put_after b (NODEDEPTHS + n) d TYPEDEPTHS m (omega arith))
  keeps_type ne m s (leaf u v w p) = rw p refl

  keeps_value : (k ≡ VALUE → ⊥) → n < limit k → (m : ℕ) → m ≤ 1024 → Put b b' k n d → depths_at b' VALUEDEPTHS m ≡ depths_at b VALUEDEPTHS m
  keeps_value ne h m s (type f p) = let l : suc n ≤ 128 = at_most k TYPE (suc n) 128 f limits_are.0 h in rw p (put_before b (TYPEDEPTHS + n) d VALUEDEPTHS m (omega arith))
  keeps_value ne h m s (value f p) = absurd (ne f)
  keeps_value ne h m s (node f p) = rw p (put_after (set b (NODEDEPTHS + n) d) (USES + n) 0 VALUEDEPTHS m (omega arith) ∙ put_after b (NODEDEPTHS + n) d VALUEDEPTHS m (omega arith))
  keeps_value ne h m s (leaf u v w p) = rw p refl

  -- what stands past the depths of types and values stays, where the line is no node
  keeps_past : (k ≡ NODE → ⊥) → n < limit k → (i m : ℕ) → NODEDEPTHS ≤ i → Put b b' k n d → depths_at b' i m ≡ depths_at b i m
  keeps_past ne h i m s (type f p) = let l : suc n ≤ 128 = at_most k TYPE (suc n) 128 f limits_are.0 h in rw p (put_before b (TYPEDEPTHS + n) d i m (omega arith))
  keeps_past ne h i m s (value f p) = let l : suc n ≤ 1024 = at_most k VALUE (suc n) 1024 f limits_are.1 h in rw p (put_before b (VALUEDEPTHS + n) d i m (omega arith))
  keeps_past ne h i m s (node f p) = absurd (ne f)
  keeps_past ne h i m s (leaf u v w p) = rw p refl

  -- words below the depths, and those past the uses, are as they were
  low_kept : Put b b' k n d → (i : ℕ) → i < TYPEDEPTHS → get_or b' i 0 ≡ get_or b i 0
  low_kept (type f p) i h = rw p (get_or-set_other b (TYPEDEPTHS + n) i d 0 (omega arith))
  low_kept (value f p) i h = rw p (get_or-set_other b (VALUEDEPTHS + n) i d 0 (omega arith))
  low_kept (node f p) i h = rw (p, get_or-set_other (set b (NODEDEPTHS + n) d) (USES + n) i 0 0 (omega arith)) (get_or-set_other b (NODEDEPTHS + n) i d 0 (omega arith))
  low_kept (leaf x y z p) i h = rw p refl

  rest_kept : n < limit k → Put b b' k n d → drop (USES + 1024) b' ≡ drop (USES + 1024) b
  rest_kept h (type f p) = let l : suc n ≤ 128 = at_most k TYPE (suc n) 128 f limits_are.0 h in rw p (drop-set-lt (USES + 1024) b (TYPEDEPTHS + n) d (omega arith))
  rest_kept h (value f p) = let l : suc n ≤ 1024 = at_most k VALUE (suc n) 1024 f limits_are.1 h in rw p (drop-set-lt (USES + 1024) b (VALUEDEPTHS + n) d (omega arith))
  rest_kept h (node f p) =
      let l : suc n ≤ 1024 = at_most k NODE (suc n) 1024 f limits_are.2 h in
      rw (p, drop-set-lt (USES + 1024) (set b (NODEDEPTHS + n) d) (USES + n) 0 (omega arith)) (drop-set-lt (USES + 1024) b (NODEDEPTHS + n) d (omega arith))
  rest_kept h (leaf x y z p) = rw p refl

  pub line_words : n < limit k → b' ≡ with_depth b k n d → ((i : ℕ) → i < TYPEDEPTHS → get_or b' i 0 ≡ get_or b i 0) × (drop (USES + 1024) b' ≡ drop (USES + 1024) b)
  line_words h put = let p = put_is b b' k n d put in (low_kept p, rest_kept h p)

-- words a with n lines of key k become words a' with one more; words b become b₁ with the same depths and the nodes of the line marked, then b'
module _ (a a' b b₁ b' : List ℕ) (k d : ℕ) (low : k < no_key)
    (room : get_or a k 0 < limit k) (few : (j : ℕ) → j < no_key → get_or a j 0 ≤ limit j)
    (own : get_or a' k 0 ≡ suc (get_or a k 0)) (other : (j : ℕ) → j < no_key → (j ≡ k → ⊥) → get_or a' j 0 ≡ get_or a j 0)
    (long : 16384 ≤ length b₁) (kept : (i n : ℕ) → TYPEDEPTHS ≤ i → i + n ≤ USES → depths_at b₁ i n ≡ depths_at b i n)
    (put : b' ≡ with_depth b₁ k (get_or a k 0) d) where
  own_at : (i : ℕ) → depth_base k ≡ i → (TYPEDEPTHS ≤ i) × (i + get_or a k 0 ≤ USES) → depths_at b' i (suc (get_or a k 0)) ≡ depths_at b₁ i (get_or a k 0) ++ (d ∷ []) → depths_in a' b' k ≡ depths_in a b k ++ (d ∷ [])
  own_at i e h q =
      depth_in k i a' (suc (get_or a k 0)) e (not_zero i h.0) own b' ∙ q
      ∙ ap (λ (x : List ℕ). x ++ (d ∷ [])) (kept i (get_or a k 0) h.0 h.1 ∙ sym (depth_in k i a (get_or a k 0) e (not_zero i h.0) refl b))

  depth_own : ((k ≡ TYPE → ⊥) → (k ≡ VALUE → ⊥) → (k ≡ NODE → ⊥) → d ≡ 1) → Put b₁ b' k (get_or a k 0) d → depths_in a' b' k ≡ depths_in a b k ++ (d ∷ [])
  depth_own one (type e p) = own_at TYPEDEPTHS (ap depth_base e ∙ bases_are.0) (type_in (get_or a k 0) (at_most k TYPE (get_or a k 0) 128 e limits_are.0 (few k low)))
      (own_type b₁ b' k (get_or a k 0) d (at_most k TYPE (suc (get_or a k 0)) 128 e limits_are.0 room) long p)
  depth_own one (value e p) = own_at VALUEDEPTHS (ap depth_base e ∙ bases_are.1) (value_in (get_or a k 0) (at_most k VALUE (get_or a k 0) 1024 e limits_are.1 (few k low)))
      (own_value b₁ b' k (get_or a k 0) d (at_most k VALUE (suc (get_or a k 0)) 1024 e limits_are.1 room) long p)
  depth_own one (node e p) = own_at NODEDEPTHS (ap depth_base e ∙ bases_are.2) (node_in (get_or a k 0) (at_most k NODE (get_or a k 0) 1024 e limits_are.2 (few k low)))
      (own_node b₁ b' k (get_or a k 0) d (at_most k NODE (suc (get_or a k 0)) 1024 e limits_are.2 room) long p)
  depth_own one (leaf u v w p) = rw (no_base k u v w, own, one u v w) (ones_next (get_or a k 0))

  other_at : (j : ℕ) → j < no_key → (j ≡ k → ⊥) → (i : ℕ) → depth_base j ≡ i → (TYPEDEPTHS ≤ i) × (i + get_or a j 0 ≤ USES) → depths_at b' i (get_or a j 0) ≡ depths_at b₁ i (get_or a j 0) → depths_in a' b' j ≡ depths_in a b j
  other_at j l ne i e h q =
      depth_in j i a' (get_or a j 0) e (not_zero i h.0) (other j l ne) b' ∙ q ∙ kept i (get_or a j 0) h.0 h.1 ∙ sym (depth_in j i a (get_or a j 0) e (not_zero i h.0) refl b)

  depth_other : Put b₁ b' k (get_or a k 0) d → (j : ℕ) → j < no_key → (j ≡ k → ⊥) → depths_in a' b' j ≡ depths_in a b j
  depth_other p j l ne = go (ℕ_discrete j TYPE) (ℕ_discrete j VALUE) (ℕ_discrete j NODE)
    where
      go : Dec (j ≡ TYPE) → Dec (j ≡ VALUE) → Dec (j ≡ NODE) → depths_in a' b' j ≡ depths_in a b j
      go (yes e) y z =
          let s = at_most j TYPE (get_or a j 0) 128 e limits_are.0 (few j l) in
          other_at j l ne TYPEDEPTHS (ap depth_base e ∙ bases_are.0) (type_in (get_or a j 0) s) (keeps_type b₁ b' k (get_or a k 0) d (λ q. ne (e ∙ sym q)) (get_or a j 0) s p)
      go (no x) (yes e) z =
          let s = at_most j VALUE (get_or a j 0) 1024 e limits_are.1 (few j l) in
          other_at j l ne VALUEDEPTHS (ap depth_base e ∙ bases_are.1) (value_in (get_or a j 0) s) (keeps_value b₁ b' k (get_or a k 0) d (λ q. ne (e ∙ sym q)) room (get_or a j 0) s p)
      go (no x) (no y) (yes e) =
          let s = at_most j NODE (get_or a j 0) 1024 e limits_are.2 (few j l) in
          other_at j l ne NODEDEPTHS (ap depth_base e ∙ bases_are.2) (node_in (get_or a j 0) s) (keeps_past b₁ b' k (get_or a k 0) d (λ q. ne (e ∙ sym q)) room NODEDEPTHS (get_or a j 0) (le_refl NODEDEPTHS) p)
      go (no x) (no y) (no z) = rw (no_base j x y z, other j l ne) refl

  used_same : (k ≡ NODE → ⊥) → (u : List ℕ) → uses_in a b₁ ≡ u → Put b₁ b' k (get_or a k 0) d → depths_at b' USES (get_or a' NODE 0) ≡ cond (eqb k NODE) (u ++ (0 ∷ [])) u
  used_same ne u e p =
      rw (other NODE node_key (λ z. ne (sym z)), ne_eqb k NODE ne) (keeps_past b₁ b' k (get_or a k 0) d ne room USES (get_or a NODE 0) uses_past p ∙ e)

  used_new : (u : List ℕ) → uses_in a b₁ ≡ u → Put b₁ b' k (get_or a k 0) d → depths_at b' USES (get_or a' NODE 0) ≡ cond (eqb k NODE) (u ++ (0 ∷ [])) u
  used_new u e (type f p) = used_same (λ z. type_node (sym f ∙ z)) u e (type f p)
  used_new u e (value f p) = used_same (λ z. value_node (sym f ∙ z)) u e (value f p)
  used_new u e (node f p) =
      let c : get_or a' NODE 0 ≡ suc (get_or a k 0) = ap (λ (j : ℕ). get_or a' j 0) (sym f) ∙ own in
      let w : get_or a NODE 0 ≡ get_or a k 0 = ap (λ (j : ℕ). get_or a j 0) (sym f) in
      rw (c, eq-eqb k NODE f)
      (own_use b₁ b' k (get_or a k 0) d (at_most k NODE (suc (get_or a k 0)) 1024 f limits_are.2 room) long p
      ∙ ap (λ (x : List ℕ). x ++ (0 ∷ [])) (ap (depths_at b₁ USES) (sym w) ∙ e))
  used_new u e (leaf x y z p) = used_same z u e (leaf x y z p)

  module _ (sheet r : List ℕ) (rows_own : rows_of a' k ≡ rows_of a k ++ (r ∷ [])) (rows_other : (j : ℕ) → j < no_key → (j ≡ k → ⊥) → rows_of a' j ≡ rows_of a j)
      (key : key_of (row_in sheet k r) ≡ k) (deep : d ≡ depth (held sheet a b) k (row_in sheet k r)) (uses : uses_in a b₁ ≡ marked (mark_of k) (uses_in a b) (refs NODE (row_in sheet k r))) where
    one_deep : (k ≡ TYPE → ⊥) → (k ≡ VALUE → ⊥) → (k ≡ NODE → ⊥) → d ≡ 1
    one_deep x y z =
        deep ∙ ap (λ (j : ℕ). depth (held sheet a b) j (row_in sheet k r)) (sym key)
        ∙ leaf_depth (held sheet a b) (row_in sheet k r) (λ q. x (sym key ∙ q)) (λ q. y (sym key ∙ q)) (λ q. z (sym key ∙ q))

    stores : Put b₁ b' k (get_or a k 0) d
    stores = put_is b₁ b' k (get_or a k 0) d put

    pub state_more : held sheet a' b' ≡ more (held sheet a b) (row_in sheet k r)
    state_more =
        held_more sheet a a' b b' k d r (cond (eqb k NODE) (marked (mark_of k) (uses_in a b) (refs NODE (row_in sheet k r)) ++ (0 ∷ [])) (marked (mark_of k) (uses_in a b) (refs NODE (row_in sheet k r)))) low
        rows_own rows_other (depth_own one_deep stores) (depth_other stores) (used_new (marked (mark_of k) (uses_in a b) (refs NODE (row_in sheet k r))) uses stores)
        ∙ more_is (held sheet a b) k d (row_in sheet k r) (uses_in a b) key deep (used_of sheet a b)

-- ---- `put_depth`

module _ (b : List ℕ) (k n d : ℕ) (b₁ : List ℕ) where
  pub put_type : k ≡ TYPE → b₁ ≡ set b (TYPEDEPTHS + n) d → b₁ ≡ with_depth b k n d
  unfolding with_depth
  put_type e p = p ∙ sym (rw (eq-eqb k TYPE e) refl)

  pub put_value : (k ≡ TYPE → ⊥) → k ≡ VALUE → b₁ ≡ set b (VALUEDEPTHS + n) d → b₁ ≡ with_depth b k n d
  unfolding with_depth
  put_value u e p = p ∙ sym (rw (ne_eqb k TYPE u, eq-eqb k VALUE e) refl)

  pub put_node : (k ≡ TYPE → ⊥) → (k ≡ VALUE → ⊥) → k ≡ NODE → b₁ ≡ set b (NODEDEPTHS + n) d → (b₂ : List ℕ) → b₂ ≡ set b₁ (USES + n) 0 → b₂ ≡ with_depth b k n d
  unfolding with_depth
  put_node u v e p b₂ q = q ∙ ap (λ (x : List ℕ). set x (USES + n) 0) p ∙ sym (rw (ne_eqb k TYPE u, ne_eqb k VALUE v, eq-eqb k NODE e) refl)

pub put_leaf : (b : List ℕ) (k n d : ℕ) → (k ≡ TYPE → ⊥) → (k ≡ VALUE → ⊥) → (k ≡ NODE → ⊥) → b ≡ with_depth b k n d
unfolding with_depth
put_leaf b k n d u v w = sym (rw (ne_eqb k TYPE u, ne_eqb k VALUE v, ne_eqb k NODE w) refl)

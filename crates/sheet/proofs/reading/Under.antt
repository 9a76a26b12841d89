-- The nodes under a node: itself, and the nodes under those that it refers to. For a walk over the rows.
use mathlib.Core.Path.{◌≡◌, refl, sym, ◌∙◌, ap, ap₂, subst}
use mathlib.Core.Bool.{Bool, true, false, ◌&&◌, ◌||◌, not}
use mathlib.Core.List.{List, [], ◌∷◌, ◌++◌}
use Prim.Native.Nat.{ℕ, zero, suc, ◌<◌, ◌≤◌, ◌+◌}
use native.Mathlib.Nat.{le_of_suc-le-suc}
use native.Mathlib.Omega.{arith}
use lib.Dec.{eqb}
use lib.ListN.{length, get_or, take, drop, length-append, get_or-append, get_or-eq_default}
use Rattle.cedar.proofs.TableLaws.{InN, now', later'}
use Rattle.sheet.specs.Forms.{Mode, refs, tag, items, at, NODE}
use Rattle.sheet.specs.State.{State, lines_of, line_at, count}
use Rattle.sheet.specs.Typing.{gathered, under_from, nodes_under, is_slot, fits, slot_value, slots_fit}
use Rattle.sheet.specs.Sheet.{has_slot, any_slot}
use Rattle.sheet.proofs.reading.Lines.{and_both, History}
use Rattle.sheet.proofs.content.PoliciesRead.{all_there_law}
use Rattle.sheet.proofs.running.Uses.{AllBelow, refs_below}

under_append : (us : List (List (List ℕ))) (a b : List (List ℕ)) → under_from us (a ++ b) ≡ under_from (under_from us a) b
under_append us [] b = refl
under_append us (r ∷ a) b = under_append (us ++ ((r ∷ gathered us (refs NODE r)) ∷ [])) a b

under_size : (us : List (List (List ℕ))) (rs : List (List ℕ)) → length (under_from us rs) ≡ length us + length rs
under_size us [] = omega arith
under_size us (r ∷ rs) = let a = under_size (us ++ ((r ∷ gathered us (refs NODE r)) ∷ [])) rs in let b = length-append us ((r ∷ gathered us (refs NODE r)) ∷ []) in omega (arith, a, b)

-- what stands there stays
under_keeps : (us : List (List (List ℕ))) (rs : List (List ℕ)) (n : ℕ) → n < length us → get_or (under_from us rs) n [] ≡ get_or us n []
under_keeps us [] n lt = refl
under_keeps us (r ∷ rs) n lt = let x = length-append us ((r ∷ gathered us (refs NODE r)) ∷ []) in
    under_keeps (us ++ ((r ∷ gathered us (refs NODE r)) ∷ [])) rs n (omega (arith, x, lt)) ∙ get_or-append us ((r ∷ gathered us (refs NODE r)) ∷ []) [] n lt

at_end : (us : List (List (List ℕ))) (u : List (List ℕ)) → get_or (us ++ (u ∷ [])) (length us) [] ≡ u
at_end [] u = refl
at_end (x ∷ us) u = at_end us u

gathered_same : (us vs : List (List (List ℕ))) (l : List ℕ) → AllBelow (length us) l → ((n : ℕ) → n < length us → get_or vs n [] ≡ get_or us n []) → gathered us l ≡ gathered vs l
gathered_same us vs [] b k = refl
gathered_same us vs (n ∷ l) b k = ap₂ (λ x y. x ++ y) (sym (k n b.0)) (gathered_same us vs l b.1 k)

split_index : {X : Type 0} (l : List (List ℕ)) (n : ℕ) → n < length l → ((pre rest : List (List ℕ)) → l ≡ pre ++ (get_or l n [] ∷ rest) → length pre ≡ n → X) → X
split_index [] n lt f = absurd (omega arith)
split_index (x ∷ l) zero lt f = f [] l refl refl
split_index (x ∷ l) (suc n) lt f = split_index l n (le_of_suc-le-suc lt) (λ pre rest e q. f (x ∷ pre) rest (ap (λ z. x ∷ z) e) (ap suc q))

-- ---- of any rows, with no word about a reading: a walk that goes to lower numbers alone

module _ (s : State) where
  -- what is under the nodes before node c
  abbrev pub lower : ℕ → List (List (List ℕ))
  lower c = under_from [] (take c (lines_of s NODE))

  take_pre : (pre rest : List (List ℕ)) → take (length pre) (pre ++ rest) ≡ pre
  take_pre [] rest = refl
  take_pre (x ∷ pre) rest = ap (λ z. x ∷ z) (take_pre pre rest)

  -- itself, and what is under its references that are lower
  pub under_lower : (c : ℕ) → c < count s NODE → nodes_under s c ≡ line_at s NODE c ∷ gathered (lower c) (refs NODE (line_at s NODE c))
  unfolding nodes_under
  under_lower c lt = split_index (lines_of s NODE) c lt (λ pre rest e q. go pre rest e q)
    where
      go : (pre rest : List (List ℕ)) → lines_of s NODE ≡ pre ++ (line_at s NODE c ∷ rest) → length pre ≡ c → get_or (under_from [] (lines_of s NODE)) c [] ≡ line_at s NODE c ∷ gathered (lower c) (refs NODE (line_at s NODE c))
      go pre rest e q =
          let r = line_at s NODE c in
          let us = under_from [] pre in
          let u = r ∷ gathered us (refs NODE r) in
          let n : length us ≡ c = under_size [] pre ∙ omega (arith, q) in
          let a : under_from [] (lines_of s NODE) ≡ under_from (us ++ (u ∷ [])) rest = ap (under_from []) e ∙ under_append [] pre (r ∷ rest) in
          let x = length-append us (u ∷ []) in
          let t : take c (lines_of s NODE) ≡ pre = ap₂ take (sym q) e ∙ take_pre pre (r ∷ rest) in
          ap (λ z. get_or z c []) a ∙ under_keeps (us ++ (u ∷ [])) rest c (omega (arith, x, n)) ∙ ap (λ i. get_or (us ++ (u ∷ [])) i []) (sym n) ∙ at_end us u ∙ ap (λ z. r ∷ gathered (under_from [] z) (refs NODE r)) (sym t)

  -- a lower node has there what is under it, another nothing
  pub lower_is : (c x : ℕ) → x < c → c ≤ count s NODE → get_or (lower c) x [] ≡ nodes_under s x
  unfolding nodes_under
  lower_is c x lt le =
      let a : under_from [] (lines_of s NODE) ≡ under_from (lower c) (drop c (lines_of s NODE)) = ap (under_from []) (sym (take_drop c (lines_of s NODE))) ∙ under_append [] (take c (lines_of s NODE)) (drop c (lines_of s NODE)) in
      let n = under_size [] (take c (lines_of s NODE)) in
      let k = take_length c (lines_of s NODE) le in
      sym (ap (λ z. get_or z x []) a ∙ under_keeps (lower c) (drop c (lines_of s NODE)) x (omega (arith, n, k, lt)))
    where
      take_drop : (n : ℕ) (l : List (List ℕ)) → take n l ++ drop n l ≡ l
      take_drop zero l = refl
      take_drop (suc n) [] = refl
      take_drop (suc n) (x ∷ l) = ap (λ z. x ∷ z) (take_drop n l)

      take_length : (n : ℕ) (l : List (List ℕ)) → n ≤ length l → length (take n l) ≡ n
      take_length zero l h = refl
      take_length (suc n) [] h = absurd (omega arith)
      take_length (suc n) (x ∷ l) h = ap suc (take_length n l (le_of_suc-le-suc h))

  pub lower_none : (c x : ℕ) → c ≤ x → get_or (lower c) x [] ≡ []
  lower_none c x le =
      let n = under_size [] (take c (lines_of s NODE)) in
      let k = take_most c (lines_of s NODE) in
      get_or-eq_default (lower c) [] {n = x} (omega (arith, n, k, le))
    where
      take_most : (n : ℕ) (l : List (List ℕ)) → length (take n l) ≤ n
      take_most zero l = omega arith
      take_most (suc n) [] = omega arith
      take_most (suc n) (x ∷ l) = let a = take_most n l in omega (arith, a)

module _ (m : Mode) (s : State) (h : History m s) where
  -- the nodes under each node
  abbrev pub under : List (List (List ℕ))
  under = under_from [] (lines_of s NODE)

  -- ITSELF, AND WHAT IS UNDER ITS REFERENCES
  pub under_is : (c : ℕ) → c < count s NODE → nodes_under s c ≡ line_at s NODE c ∷ gathered under (refs NODE (line_at s NODE c))
  unfolding nodes_under refs
  under_is c lt = split_index (lines_of s NODE) c lt (λ pre rest e q. go pre rest e q)
    where
      go : (pre rest : List (List ℕ)) → lines_of s NODE ≡ pre ++ (line_at s NODE c ∷ rest) → length pre ≡ c → get_or under c [] ≡ line_at s NODE c ∷ gathered under (refs NODE (line_at s NODE c))
      go pre rest e q =
          let r = line_at s NODE c in
          let us = under_from [] pre in
          let u = r ∷ gathered us (refs NODE r) in
          let w = h NODE pre r rest e in
          let n : length us ≡ c = under_size [] pre ∙ omega (arith, q) in
          let a : under ≡ under_from (us ++ (u ∷ [])) rest = ap (under_from []) e ∙ under_append [] pre (r ∷ rest) in
          let x = length-append us (u ∷ []) in
          let keeps : (i : ℕ) → i < length us → get_or under i [] ≡ get_or us i [] = λ i l. ap (λ z. get_or z i []) a ∙ under_keeps (us ++ (u ∷ [])) rest i (omega (arith, x, l)) ∙ get_or-append us (u ∷ []) [] i l in
          let b : AllBelow (length us) (refs NODE r) = subst (λ z. AllBelow z (refs NODE r)) (ap length w.mine ∙ q ∙ sym n) (refs_below w.was NODE (tag r) 0 (items r) (all_there_law w.was NODE r w.pass.refers)) in
          ap (λ z. get_or z c []) a ∙ under_keeps (us ++ (u ∷ [])) rest c (omega (arith, x, n)) ∙ ap (λ i. get_or (us ++ (u ∷ [])) i []) (sym n) ∙ at_end us u ∙ ap (λ z. r ∷ z) (gathered_same us under (refs NODE r) b keeps)

-- ---- what a walk asks of the nodes under a node, over lists of them

pub has_append : (x : ℕ) (a b : List (List ℕ)) → has_slot x (a ++ b) ≡ (has_slot x a || has_slot x b)
has_append x [] b = refl
has_append x (r ∷ a) b = ap (λ z. (is_slot r && eqb (slot_value 0 1 (at r 1)) x) || z) (has_append x a b) ∙ or_assoc (is_slot r && eqb (slot_value 0 1 (at r 1)) x) (has_slot x a) (has_slot x b)
  where
    or_assoc : (p q r : Bool) → (p || (q || r)) ≡ ((p || q) || r)
    or_assoc true q r = refl
    or_assoc false q r = refl

pub any_append : (a b : List (List ℕ)) → any_slot (a ++ b) ≡ (any_slot a || any_slot b)
any_append [] b = refl
any_append (r ∷ a) b = ap (λ z. is_slot r || z) (any_append a b) ∙ or_assoc (is_slot r) (any_slot a) (any_slot b)
  where
    or_assoc : (p q r : Bool) → (p || (q || r)) ≡ ((p || q) || r)
    or_assoc true q r = refl
    or_assoc false q r = refl

pub fit_append : (s : State) (p q : ℕ) (a b : List (List ℕ)) → slots_fit s p q (a ++ b) ≡ (slots_fit s p q a && slots_fit s p q b)
fit_append s p q [] b = refl
fit_append s p q (r ∷ a) b = ap (λ z. (not (is_slot r) || fits s (slot_value p q (at r 1)) (at r 0)) && z) (fit_append s p q a b) ∙ and_assoc (not (is_slot r) || fits s (slot_value p q (at r 1)) (at r 0)) (slots_fit s p q a) (slots_fit s p q b)
  where
    and_assoc : (x y z : Bool) → (x && (y && z)) ≡ ((x && y) && z)
    and_assoc true y z = refl
    and_assoc false y z = refl

fit_gathered : (s : State) (p q : ℕ) (us : List (List (List ℕ))) {y : ℕ} {l : List ℕ} → slots_fit s p q (gathered us l) ≡ true → InN y l → slots_fit s p q (get_or us y []) ≡ true
fit_gathered s p q us {y = y} e (now' {l = l}) = and_both (slots_fit s p q (get_or us y [])) (slots_fit s p q (gathered us l)) (sym (fit_append s p q (get_or us y []) (gathered us l)) ∙ e) (λ a b. a)
fit_gathered s p q us {y = y} e (later' {m = n} {l = l} i) = and_both (slots_fit s p q (get_or us n [])) (slots_fit s p q (gathered us l)) (sym (fit_append s p q (get_or us n []) (gathered us l)) ∙ e) (λ a b. fit_gathered s p q us b i)

-- a link that fits a tree fits the trees under it
pub fit_child : (m : Mode) (s : State) → History m s → (p q c y : ℕ) → c < count s NODE → slots_fit s p q (nodes_under s c) ≡ true → InN y (refs NODE (line_at s NODE c)) → slots_fit s p q (nodes_under s y) ≡ true
unfolding nodes_under
fit_child m s h p q c y lt e i =
    let f : slots_fit s p q (line_at s NODE c ∷ gathered (under_from [] (lines_of s NODE)) (refs NODE (line_at s NODE c))) ≡ true = subst (λ z. slots_fit s p q z ≡ true) (under_is m s h c lt) e in
    and_both (not (is_slot (line_at s NODE c)) || fits s (slot_value p q (at (line_at s NODE c) 1)) (at (line_at s NODE c) 0)) (slots_fit s p q (gathered (under_from [] (lines_of s NODE)) (refs NODE (line_at s NODE c)))) f (λ a b. fit_gathered s p q (under_from [] (lines_of s NODE)) b i)

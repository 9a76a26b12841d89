-- Items that ascend, order and repeats, as the code looks for them. Assumes nothing.
use mathlib.Core.Path.{◌≡◌, refl, sym, ap, ap₂, ◌∙◌}
use mathlib.Core.Bool.{Bool, true, false, cond, not, ◌&&◌, and-eq-true_iff}
use mathlib.Core.List.{List, [], ◌∷◌}
use Prim.Native.Nat.{ℕ, zero, suc, ◌+◌, ◌-◌, ◌≤◌, ◌<◌}
use native.Mathlib.Numerals.{add-one}
use native.Mathlib.Omega.{arith}
use borrow.Author.Tests.{ne_eqb, lt-leb, le-leb, leb-true}
use lib.Dec.{leb, ltb}
use lib.ListN.{length, get_or}
use Rattle.cedar.specs.Numbered.{mem_n}
use Rattle.std.specs.Prelude.{Some, None}
use Rattle.std.proofs.lemmas.Option.{none-some}
use Rattle.sheet.specs.Forms.{Form, forms, form_of, no_form, tag, items, at, every_from, ascendings, TEXT, KIND, TYPE, VALUE, ENTITY, NODE, POLICY, LINK, TERM, no_key}
use Rattle.sheet.specs.State.{line_at, count}
use Rattle.sheet.specs.Sheet.{all_there, ascend, among, firsts, above, new_type, slot_given, term_goes, fresh, found, depth}
use Rattle.table.specs.Layout.{held, rows_of}
use Rattle.table.proofs.Rows.{count_held, lines_held_law}
use Rattle.forms.specs.declared.Form as F
use Rattle.forms.specs.Rows.{FLAT, coded}
use Rattle.forms.specs.Tags.{LIT, SET_OF}
use Rattle.forms.proofs.Table.{group_are, flat_are, rising_are}
use Rattle.depths.specs.Depths.{there_depth}
use Rattle.depths.proofs.FormTable.{flat_node}
use Rattle.order.proofs.OrderLaws.{rows_held}

-- ---- items that ascend

every_on : (m : ℕ) (l : List ℕ) (j : ℕ) → 1 ≤ m → j < length l → every_from m j l ≡ get_or l j 0 ∷ every_from m (j + m) l
every_on m [] j p h = absurd (omega arith)
every_on zero (x ∷ l) j p h = absurd (omega arith)
every_on (suc m) (x ∷ l) zero p h =
    let e : suc m - 1 ≡ m = omega arith in
    let f : 0 + suc m ≡ suc m = omega arith in
    rw (e, f) refl
every_on (suc m) (x ∷ l) (suc j) p h =
    let f : suc j + suc m ≡ suc (j + suc m) = omega arith in
    rw (f) (every_on (suc m) l j p (omega arith))

every_end : (m : ℕ) (l : List ℕ) (j : ℕ) → length l ≤ j → every_from m j l ≡ []
every_end m [] j h = refl
every_end m (x ∷ l) zero h = absurd (omega arith)
every_end m (x ∷ l) (suc j) h = every_end m l j (omega arith)

all_forms : (Form → Bool) → List Form → Bool
all_forms p [] = true
all_forms p (f ∷ fs) = p f && all_forms p fs

form_has : (p : Form → Bool) (fs : List Form) (t : ℕ) → p no_form ≡ true → all_forms p fs ≡ true → p (get_or fs t no_form) ≡ true
unfolding all_forms
form_has p [] t d e = d
form_has p (f ∷ fs) zero d e = ((and-eq-true_iff (p f) (all_forms p fs)).0 e).0
form_has p (f ∷ fs) (suc t) d e = form_has p fs t d ((and-eq-true_iff (p f) (all_forms p fs)).0 e).1

grouped : Form → Bool
grouped f = cond f.ascends (leb 1 (length f.group)) true

all_grouped : (t : ℕ) → grouped (form_of t) ≡ true
unfolding form_of forms grouped all_forms
all_grouped t = form_has grouped forms t refl refl

has_group : (t : ℕ) → (form_of t).ascends ≡ true → 1 ≤ length (form_of t).group
unfolding grouped
has_group t e = leb-true 1 (length (form_of t).group) (ap (λ (b : Bool). cond b (leb 1 (length (form_of t).group)) true) (sym e) ∙ all_grouped t)

pub record Rising (r : List ℕ) (m lo j : ℕ) : Type 0 where
  pub left : ascend 0 (ascendings r) ≡ ascend lo (every_from m j (items r))
  pub step : 1 ≤ m

rises_none : (r : List ℕ) (t : ℕ) → t ≡ tag r → (form_of t).ascends ≡ false → true ≡ ascend 0 (ascendings r)
unfolding ascendings
rises_none r t ht e = sym (rw (← ht, e) refl)

pub rises_node : (r : List ℕ) (t : ℕ) → t ≡ tag r → LIT ≤ t → t < SET_OF → true ≡ ascend 0 (ascendings r)
rises_node r t ht l h = rises_none r t ht (flat_node t l h)

-- by the row of the table
module _ (r : List ℕ) (t : ℕ) (q : F.Form) (ht : t ≡ tag r) (e : q ≡ coded (form_of t)) where
  pub rises_flat : q.from ≡ FLAT → true ≡ ascend 0 (ascendings r)
  rises_flat h = rises_none r t ht (flat_are t q e h)

  pub rising_start : (q.from ≡ FLAT → ⊥) → Rising r q.group 0 q.from
  unfolding ascendings
  rising_start h =
      let s = rising_are t q e h in
      let g = group_are t q e in
      record {
        left = rw (← ht, s.0, ← g.0, ← s.1) refl;
        step = omega (arith, g.0, has_group t s.0);
      }

module _ (r : List ℕ) (m lo j : ℕ) (i : Rising r m lo j) where
  module _ (x : ℕ) (h : j < length (items r)) (hx : x ≡ get_or (items r) j 0) where
    rising_at : ascend 0 (ascendings r) ≡ (leb lo x && ascend (x + 1) (every_from m (j + m) (items r)))
    rising_at = i.left ∙ rw (every_on m (items r) j i.step h, ← hx, add-one x) refl

    pub rising_off : x < lo → false ≡ ascend 0 (ascendings r)
    rising_off l = sym (rising_at ∙ rw (lt-leb lo x l) refl)

    pub rising_on : lo ≤ x → Rising r m (x + 1) (j + m)
    rising_on l = record { left = rising_at ∙ rw (le-leb lo x l) refl; step = i.step }

  pub rising_end : length (items r) ≤ j → true ≡ ascend 0 (ascendings r)
  rising_end h = sym (i.left ∙ ap (ascend lo) (every_end m (items r) j h))

-- ---- order of entities, links and terms

module _ (a : List ℕ) (k : ℕ) (r : List ℕ) (hk : (k ≡ TEXT → ⊥) × (k < no_key)) (n : ℕ) (e : n ≡ get_or a k 0) where
  count_is : count (rows_held a) k ≡ n
  count_is = count_held [] a [] k hk.1 ∙ sym e

  pub above_first : n ≡ 0 → true ≡ above (rows_held a) k r
  above_first z = sym (rw (count_is, z) refl)

  pub above_last : (q : List ℕ) (x y : ℕ) → (n ≡ 0 → ⊥) → q ≡ get_or (rows_of a k) (n - 1) [] → x ≡ get_or q 1 0 → y ≡ get_or r 1 0 → ltb x y ≡ above (rows_held a) k r
  above_last q x y z hq hx hy =
      let f : x ≡ at (line_at (rows_held a) k (count (rows_held a) k - 1)) 0 =
      hx ∙ ap (λ (w : List ℕ). get_or w 1 0) (hq ∙ ap₂ (λ (rs : List (List ℕ)) (i : ℕ). get_or rs (i - 1) []) (sym (lines_held_law [] a [] k hk.1 hk.0)) (sym count_is)) in
      sym (rw (← f, count_is, ne_eqb n 0 z, ← hy) refl)

pub goes_days : (r : List ℕ) (x y : ℕ) → x ≡ get_or r 2 0 → y ≡ get_or r 3 0 → leb x y ≡ term_goes r
goes_days r x y hx hy = ap₂ leb hx hy

module _ (a r : List ℕ) (b : Bool) (hb : b ≡ above (rows_held a) TERM r) where
  pub term_below : b ≡ false → false ≡ (above (rows_held a) TERM r && term_goes r)
  term_below n = sym (rw (← hb, n) refl)

  pub term_above : b ≡ true → (v : Bool) → v ≡ term_goes r → v ≡ (above (rows_held a) TERM r && term_goes r)
  term_above n v hv = hv ∙ sym (rw (← hb, n) refl)

-- ---- new lines

module _ (a : List ℕ) (k : ℕ) (r : List ℕ) where
  pub fresh_type : (b : Bool) → b ≡ new_type (rows_held a) r → k ≡ TYPE → b ≡ fresh (rows_held a) k r
  fresh_type b hb e = hb ∙ sym (rw e refl)

  module _ (b : Bool) (hb : b ≡ not (among r (rows_of a k))) where
    pub fresh_value : k ≡ VALUE → b ≡ fresh (rows_held a) k r
    fresh_value e = sym (rw e (ap (λ (l : List (List ℕ)). not (among r l)) (lines_held_law [] a [] VALUE (omega arith) (λ q. absurd (omega arith)) ∙ ap (rows_of a) (sym e)) ∙ sym hb))

  module _ (b : Bool) (x : ℕ) (hx : x ≡ get_or r 1 0) (hb : b ≡ mem_n x (firsts (rows_of a k))) where
    pub fresh_kind : k ≡ KIND → not b ≡ fresh (rows_held a) k r
    fresh_kind e = sym (rw e (ap₂ (λ (y : ℕ) (l : List (List ℕ)). not (mem_n y (firsts l))) (sym hx) (lines_held_law [] a [] KIND (omega arith) (λ q. absurd (omega arith)) ∙ ap (rows_of a) (sym e)) ∙ ap not (sym hb)))

    pub fresh_policy : k ≡ POLICY → not b ≡ fresh (rows_held a) k r
    fresh_policy e = sym (rw e (ap₂ (λ (y : ℕ) (l : List (List ℕ)). not (mem_n y (firsts l))) (sym hx) (lines_held_law [] a [] POLICY (omega arith) (λ q. absurd (omega arith)) ∙ ap (rows_of a) (sym e)) ∙ ap not (sym hb)))

  pub fresh_entity : (b : Bool) → b ≡ above (rows_held a) ENTITY r → k ≡ ENTITY → b ≡ fresh (rows_held a) k r
  fresh_entity b hb e = hb ∙ sym (rw e refl)

  fresh_node : k ≡ NODE → true ≡ fresh (rows_held a) k r
  fresh_node e = sym (rw e refl)

  pub fresh_term : (b : Bool) → b ≡ (above (rows_held a) TERM r && term_goes r) → k ≡ TERM → b ≡ fresh (rows_held a) k r
  fresh_term b hb e = hb ∙ sym (rw e refl)

  pub fresh_link : (b : Bool) → b ≡ (above (rows_held a) LINK r && (slot_given (rows_held a) r 0 && slot_given (rows_held a) r 1)) → k ≡ LINK → b ≡ fresh (rows_held a) k r
  fresh_link b hb e = hb ∙ sym (rw e refl)

  pub fresh_other : (k ≡ TEXT → ⊥) → (k ≡ TYPE → ⊥) → (k ≡ VALUE → ⊥) → (k ≡ KIND → ⊥) → (k ≡ POLICY → ⊥) → (k ≡ ENTITY → ⊥) → (k ≡ LINK → ⊥) → (k ≡ TERM → ⊥) → true ≡ fresh (rows_held a) k r
  fresh_other text type value kind policy entity link term =
      sym (rw (ne_eqb k TYPE type, ne_eqb k TEXT text, ne_eqb k VALUE value, ne_eqb k KIND kind, ne_eqb k POLICY policy, ne_eqb k ENTITY entity, ne_eqb k LINK link, ne_eqb k TERM term) refl)

  -- ---- all of 5, with the depth of 6

  module _ (b : List ℕ) where
    pub new_absent : None ≡ there_depth a b k r → None ≡ cond (found (rows_held a) k r) (Some (depth (held [] a b) k r)) None
    unfolding there_depth found
    new_absent e = go (all_there (rows_held a) (tag r) 0 (items r)) e
      where
        go : (t : Bool) → None ≡ cond t (Some (depth (held [] a b) k r)) None → None ≡ cond (t && ascend 0 (ascendings r) && fresh (rows_held a) k r) (Some (depth (held [] a b) k r)) None
        go true e = absurd (none-some _ e)
        go false e = refl

    module _ (d : ℕ) (hd : Some d ≡ there_depth a b k r) where
      all_there_law : all_there (rows_held a) (tag r) 0 (items r) ≡ true
      unfolding there_depth
      all_there_law = go (all_there (rows_held a) (tag r) 0 (items r)) hd
        where
          go : (t : Bool) → Some d ≡ cond t (Some (depth (held [] a b) k r)) None → t ≡ true
          go true e = refl
          go false e = absurd (none-some _ (sym e))

      pub new_falls : ascend 0 (ascendings r) ≡ false → None ≡ cond (found (rows_held a) k r) (Some (depth (held [] a b) k r)) None
      unfolding found
      new_falls u = sym (rw (all_there_law, u) refl)

      module _ (u : ascend 0 (ascendings r) ≡ true) where
        pub new_again : fresh (rows_held a) k r ≡ false → None ≡ cond (found (rows_held a) k r) (Some (depth (held [] a b) k r)) None
        unfolding found
        new_again v = sym (rw (all_there_law, u, v) refl)

        pub new_deep : fresh (rows_held a) k r ≡ true → Some d ≡ cond (found (rows_held a) k r) (Some (depth (held [] a b) k r)) None
        unfolding found there_depth
        new_deep v = hd ∙ rw (all_there_law, u, v) refl

-- a node may repeat another
pub node_deep : (a r b : List ℕ) (d : ℕ) → Some d ≡ there_depth a b NODE r → ascend 0 (ascendings r) ≡ true → Some d ≡ cond (found (rows_held a) NODE r) (Some (depth (held [] a b) NODE r)) None
node_deep a r b d hd u = new_deep a NODE r b d hd u (sym (fresh_node a NODE r refl))

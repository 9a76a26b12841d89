-- Entity lines of two sheets, both ascending, gone through side by side: what is left of both gives what the whole gives. Assumes nothing.
use mathlib.Core.Path.{◌≡◌, refl, sym, ap, ap₂, subst, ◌∙◌}
use mathlib.Core.Bool.{Bool, true, false, cond, not, ◌||◌}
use mathlib.Core.Option.{Option, none, some}
use mathlib.Core.List.{List, [], ◌∷◌}
use Prim.Native.Nat.{ℕ, zero, suc, ◌+◌, ◌≤◌, ◌<◌}
use native.Mathlib.Nat.{le_refl}
use native.Mathlib.Numerals.{add-one}
use native.Mathlib.Omega.{arith}
use borrow.Author.Tests.{ne_eqb, eqb-false, ltb-true, ltb-false, not-true, not-false}
use lib.Dec.{ltb, eqb}
use lib.ListN.{length, get_or, drop, drop_of_length-le}
use lib.Seq.{drop-cons, drop-drop}
use Rattle.cedar.proofs.Tools.{no_true}
use Rattle.cedar.specs.Value.{on_some}
use Rattle.sheet.specs.Forms.{at, ENTITY}
use Rattle.sheet.specs.Parents.{line_for}
use Rattle.sheet.specs.Agreement.{entity_same}
use Rattle.table.specs.Layout.{rows_of}
use Rattle.table.proofs.Rows.{count_rows}
use Rattle.finished.specs.ByKey.{entity_break, unlisted_in}
use Rattle.finished.specs.Rising.{Rising}
use Rattle.agree.specs.Breaks.{counted, Ordered, below, first_for}

-- ---- ascending lines

any_start : (b : ℕ) (p : List (List ℕ)) → Rising b p → Rising 0 p
any_start b [] h = tt
any_start b (r ∷ p) h = (omega arith, h.1)

rising_drop : (b j : ℕ) (p : List (List ℕ)) → Rising b p → Rising 0 (drop j p)
rising_drop b zero p h = any_start b p h
rising_drop b (suc j) [] h = tt
rising_drop b (suc j) (r ∷ p) h = rising_drop (suc (at r 0)) j p h.1

-- no line is that of an entity with a smaller number
none_below : (v b : ℕ) (p : List (List ℕ)) → v < b → Rising b p → line_for v p ≡ none
none_below v b [] h k = refl
none_below v b (r ∷ p) h k =
    let z : b ≤ at r 0 = k.0 in
    rw (ne_eqb (at r 0) v (λ e. omega (arith, e, z, h))) (none_below v (suc (at r 0)) p (omega (arith, z, h)) k.1)

-- ---- lines passed over

-- the lines of entities below b do not count for one of at least b
lows_for : (b v : ℕ) (p : List (List ℕ)) → b ≤ v → line_for v p ≡ line_for v (drop (below b p) p)
lows_for b v [] h = refl
lows_for b v (r ∷ p) h = go (ltb (at r 0) b) refl (lows_for b v p h)
  where
    go : (t : Bool) → ltb (at r 0) b ≡ t → line_for v p ≡ line_for v (drop (below b p) p) → line_for v (r ∷ p) ≡ line_for v (drop (cond t (suc (below b p)) 0) (r ∷ p))
    go true e f = let z = ltb-true (at r 0) b e in rw (ne_eqb (at r 0) v (λ q. omega (arith, q, z, h))) f
    go false e f = refl

-- after them the first line decides
after_lows : (v : ℕ) (p : List (List ℕ)) → below v (drop (below v p) p) ≡ 0
after_lows v [] = refl
after_lows v (r ∷ p) = go (ltb (at r 0) v) refl (after_lows v p)
  where
    go : (t : Bool) → ltb (at r 0) v ≡ t → below v (drop (below v p) p) ≡ 0 → below v (drop (cond t (suc (below v p)) 0) (r ∷ p)) ≡ 0
    go true e f = f
    go false e f = rw e

first_is : (v b : ℕ) (p : List (List ℕ)) → Rising b p → below v p ≡ 0 → line_for v p ≡ first_for v p
first_is v b [] h z = refl
first_is v b (r ∷ p) h z = go (eqb (at r 0) v) refl (ltb (at r 0) v) refl z
  where
    go : (t : Bool) → eqb (at r 0) v ≡ t → (u : Bool) → ltb (at r 0) v ≡ u → cond u (suc (below v p)) 0 ≡ 0 → cond t (some r) (line_for v p) ≡ cond t (some r) none
    go true e u f z = refl
    go false e true f z = absurd (omega arith)
    go false e false f z = let x = ltb-false (at r 0) v f in none_below v (suc (at r 0)) p (omega (arith, x, eqb-false (at r 0) v e)) h.1

-- the line of entity v is the first one after those below v, if it is v's
found_first : (v b : ℕ) (p : List (List ℕ)) → Rising b p → line_for v p ≡ first_for v (drop (below v p) p)
found_first v b p h = lows_for v v p (le_refl v) ∙ first_is v 0 (drop (below v p) p) (rising_drop b (below v p) p h) (after_lows v p)

-- where all of c are at least b, the lines of p below b count for none of them
entity_lows : (b d l : ℕ) (p c : List (List ℕ)) → b ≤ d → Rising d c → entity_break p c l ≡ entity_break (drop (below b p) p) c l
entity_lows b d l p [] h k = refl
entity_lows b d l p (q ∷ c) h k =
    let z : d ≤ at q 0 = k.0 in
    ap₂ (λ (o : Option (List ℕ)) (x : Option ℕ). cond (on_some true o (λ r. entity_same r q)) x (some l)) (lows_for b (at q 0) p (omega (arith, z, h)))
    (entity_lows b (suc (at q 0)) (suc l) p c (omega (arith, z, h)) k.1)

unlisted_lows : (b d : ℕ) (p c : List (List ℕ)) → b ≤ d → Rising d p → unlisted_in p c ≡ unlisted_in p (drop (below b c) c)
unlisted_lows b d [] c h k = refl
unlisted_lows b d (r ∷ p) c h k =
    let z : d ≤ at r 0 = k.0 in
    ap₂ (λ (o : Option (List ℕ)) (x : Bool). on_some true o (λ q. false) || x) (lows_for b (at r 0) c (omega (arith, z, h)))
    (unlisted_lows b (suc (at r 0)) p c (omega (arith, z, h)) k.1)

-- ---- one line of the asking sheet

-- the first line of c: p's lines below it are passed over, and the first one left is asked
module _ (p c : List (List ℕ)) (q : List ℕ) (l b d : ℕ) (hp : Rising b p) (hc : Rising d (q ∷ c)) where
  entity_here : entity_break p (q ∷ c) l ≡ cond (on_some true (first_for (at q 0) (drop (below (at q 0) p) p)) (λ r. entity_same r q)) (entity_break (drop (below (at q 0) p) p) c (suc l)) (some l)
  entity_here =
      ap₂ (λ (o : Option (List ℕ)) (x : Option ℕ). cond (on_some true o (λ r. entity_same r q)) x (some l)) (found_first (at q 0) b p hp)
      (entity_lows (at q 0) (suc (at q 0)) (suc l) p c (omega arith) hc.1)

  unlisted_here : unlisted_in (q ∷ c) p ≡ (on_some true (first_for (at q 0) (drop (below (at q 0) p) p)) (λ r. false) || unlisted_in c (drop (below (at q 0) p) p))
  unlisted_here =
      ap₂ (λ (o : Option (List ℕ)) (x : Bool). on_some true o (λ r. false) || x) (found_first (at q 0) b p hp)
      (unlisted_lows (at q 0) (suc (at q 0)) c p (omega arith) hc.1)

-- ---- the loops

-- the search for the first entity of at least v, from line `from` on, stands at line i of n
pub record Seeking (v : ℕ) (rs : List (List ℕ)) (from n i : ℕ) : Type 0 where
  pub all : n ≡ length rs
  pub left : from + below v (drop from rs) ≡ i + below v (drop i rs)

module _ (a : List ℕ) (v from n : ℕ) where
  pub seek_start : n ≡ get_or a ENTITY 0 → Seeking v (rows_of a ENTITY) from n from
  seek_start e = record { all = e ∙ sym (count_rows a ENTITY); left = refl }

-- line n of the entities, if it is that of entity v
module _ (a : List ℕ) (v n m : ℕ) (em : m ≡ get_or a ENTITY 0) where
  first_none : m ≤ n → first_for v (drop n (rows_of a ENTITY)) ≡ none
  first_none h = let l : length (rows_of a ENTITY) ≤ n = omega (arith, em, count_rows a ENTITY) in rw (drop_of_length-le (rows_of a ENTITY) l)

  first_at : n < m → first_for v (drop n (rows_of a ENTITY)) ≡ cond (eqb (at (get_or (rows_of a ENTITY) n []) 0) v) (some (get_or (rows_of a ENTITY) n [])) none
  first_at h = let l : n < length (rows_of a ENTITY) = omega (arith, em, count_rows a ENTITY) in rw (drop-cons (rows_of a ENTITY) n [])

  pub no_line : m ≤ n → false ≡ on_some false (first_for v (drop n (rows_of a ENTITY))) (λ r. true)
  no_line h = rw (first_none h)

  pub own_line : (r : List ℕ) (x : ℕ) → n < m → r ≡ get_or (rows_of a ENTITY) n [] → x ≡ get_or r 1 0 → eqb x v ≡ on_some false (first_for v (drop n (rows_of a ENTITY))) (λ r. true)
  own_line r x h er ex = rw (first_at h, ← er, ← ex) (go (eqb x v))
    where
      go : (t : Bool) → t ≡ on_some false (cond t (some r) none) (λ r. true)
      go true = refl
      go false = refl

-- and whether it agrees with a line of that entity
first_some : (v n : ℕ) (rs : List (List ℕ)) → on_some false (first_for v (drop n rs)) (λ r. true) ≡ true → first_for v (drop n rs) ≡ some (get_or rs n [])
first_some v zero [] e = no_true e
first_some v zero (r ∷ rs) e = go (eqb (at r 0) v) e
  where
    go : (t : Bool) → on_some false (cond t (some r) none) (λ r. true) ≡ true → cond t (some r) none ≡ some r
    go true e = refl
    go false e = no_true e
first_some v (suc n) [] e = no_true e
first_some v (suc n) (r ∷ rs) e = first_some v n rs e

module _ (a q : List ℕ) (n v : ℕ) (b : Bool) (ev : v ≡ get_or q 1 0) (e : b ≡ on_some false (first_for v (drop n (rows_of a ENTITY))) (λ r. true)) where
  pub agrees_listed : (r : List ℕ) (t : Bool) → not b ≡ false → r ≡ get_or (rows_of a ENTITY) n [] → t ≡ entity_same r q → t ≡ on_some true (first_for (at q 0) (drop n (rows_of a ENTITY))) (λ r. entity_same r q)
  agrees_listed r t h er et = et ∙ rw (first_some (at q 0) n (rows_of a ENTITY) (rw ev at (sym e ∙ not-false b h)), er) refl

-- ---- side by side: line i of the asking lines c, and line j of the lines p that are asked

module _ (p c : List (List ℕ)) (hp : Rising 0 p) (hc : Rising 0 c) (i j j' : ℕ) (q : List ℕ) (h : i < length c) (eq : q ≡ get_or c i []) (v : ℕ) (ev : v ≡ get_or q 1 0) (ej : j' ≡ j + below v (drop j p)) where
  ask_next : drop i c ≡ q ∷ drop (i + 1) c
  ask_next = rw (eq, add-one i, drop-cons c i [] h) refl

  asked_left : drop (below (at q 0) (drop j p)) (drop j p) ≡ drop j' p
  asked_left = drop-drop (below (at q 0) (drop j p)) j p ∙ rw (ej, ev) refl

  asking : Rising 0 (q ∷ drop (i + 1) c)
  asking = subst (Rising 0) ask_next (rising_drop 0 i c hc)

  entity_step : (l : ℕ) (b : Bool) → b ≡ on_some true (first_for (at q 0) (drop j' p)) (λ r. entity_same r q) → entity_break (drop j p) (drop i c) l ≡ cond b (entity_break (drop j' p) (drop (i + 1) c) (suc l)) (some l)
  entity_step l b e =
      ap (λ (x : List (List ℕ)). entity_break (drop j p) x l) ask_next
      ∙ entity_here (drop j p) (drop (i + 1) c) q l 0 0 (rising_drop 0 j p hp) asking
      ∙ ap (λ (x : List (List ℕ)). cond (on_some true (first_for (at q 0) x) (λ r. entity_same r q)) (entity_break x (drop (i + 1) c) (suc l)) (some l)) asked_left
      ∙ ap (λ (t : Bool). cond t (entity_break (drop j' p) (drop (i + 1) c) (suc l)) (some l)) (sym e)

  unlisted_step : (b : Bool) → b ≡ on_some false (first_for (at q 0) (drop j' p)) (λ r. true) → unlisted_in (drop i c) (drop j p) ≡ cond b (unlisted_in (drop (i + 1) c) (drop j' p)) true
  unlisted_step b e =
      ap (λ (x : List (List ℕ)). unlisted_in x (drop j p)) ask_next
      ∙ unlisted_here (drop j p) (drop (i + 1) c) q 0 0 0 (rising_drop 0 j p hp) asking
      ∙ ap (λ (x : List (List ℕ)). on_some true (first_for (at q 0) x) (λ r. false) || unlisted_in (drop (i + 1) c) x) asked_left
      ∙ go (first_for (at q 0) (drop j' p)) (unlisted_in (drop (i + 1) c) (drop j' p))
      ∙ ap (λ (t : Bool). cond t (unlisted_in (drop (i + 1) c) (drop j' p)) true) (sym e)
    where
      go : (o : Option (List ℕ)) (x : Bool) → (on_some true o (λ r. false) || x) ≡ cond (on_some false o (λ r. true)) x true
      go none x = refl
      go (some r) x = refl

-- line i of n of the complete sheet is asked next, and the partial sheet's lines before line j count no more
pub record Breaking (a d : List ℕ) (n i j : ℕ) : Type 0 where
  pub all : n ≡ length (rows_of d ENTITY)
  pub left : entity_break (rows_of a ENTITY) (rows_of d ENTITY) 0 ≡ entity_break (drop j (rows_of a ENTITY)) (drop i (rows_of d ENTITY)) i

module _ (a d : List ℕ) (n : ℕ) where
  pub break_start : n ≡ get_or d ENTITY 0 → Breaking a d n 0 0
  break_start e = record { all = e ∙ sym (count_rows d ENTITY); left = refl }

  module _ (i j : ℕ) (g : Breaking a d n i j) where
    module _ (o : Ordered a d) (h : i < n) (q : List ℕ) (eq : q ≡ get_or (rows_of d ENTITY) i []) (v j' : ℕ) (ev : v ≡ get_or q 1 0) (ej : j' ≡ j + below v (drop j (rows_of a ENTITY)))
        (b : Bool) (e : b ≡ on_some true (first_for (at q 0) (drop j' (rows_of a ENTITY))) (λ r. entity_same r q)) where
      break_here : entity_break (rows_of a ENTITY) (rows_of d ENTITY) 0 ≡ cond b (entity_break (drop j' (rows_of a ENTITY)) (drop (i + 1) (rows_of d ENTITY)) (suc i)) (some i)
      break_here = g.left ∙ entity_step (rows_of a ENTITY) (rows_of d ENTITY) o.partial_rows o.complete_rows i j j' q (omega (arith, g.all)) eq v ev ej i b e

      pub break_off : not b ≡ true → i + 1 ≡ counted (entity_break (rows_of a ENTITY) (rows_of d ENTITY) 0)
      break_off k = let z : entity_break (rows_of a ENTITY) (rows_of d ENTITY) 0 ≡ some i = break_here ∙ rw (not-true b k) refl in add-one i ∙ sym (ap counted z)

      pub break_on : not b ≡ false → Breaking a d n (i + 1) j'
      break_on k = record { all = g.all; left = break_here ∙ rw (not-false b k, add-one i) refl }

-- line i of n of the partial sheet is asked next, and the complete sheet's lines before line j count no more
pub record Listing (a d : List ℕ) (n i j : ℕ) : Type 0 where
  pub all : n ≡ length (rows_of a ENTITY)
  pub left : unlisted_in (rows_of a ENTITY) (rows_of d ENTITY) ≡ unlisted_in (drop i (rows_of a ENTITY)) (drop j (rows_of d ENTITY))

module _ (a d : List ℕ) (n : ℕ) where
  pub list_start : n ≡ get_or a ENTITY 0 → Listing a d n 0 0
  list_start e = record { all = e ∙ sym (count_rows a ENTITY); left = refl }

  module _ (i j : ℕ) (g : Listing a d n i j) where
    module _ (o : Ordered a d) (h : i < n) (r : List ℕ) (er : r ≡ get_or (rows_of a ENTITY) i []) (v j' : ℕ) (ev : v ≡ get_or r 1 0) (ej : j' ≡ j + below v (drop j (rows_of d ENTITY)))
        (b : Bool) (e : b ≡ on_some false (first_for v (drop j' (rows_of d ENTITY))) (λ q. true)) where
      list_here : unlisted_in (rows_of a ENTITY) (rows_of d ENTITY) ≡ cond b (unlisted_in (drop (i + 1) (rows_of a ENTITY)) (drop j' (rows_of d ENTITY))) true
      list_here = g.left ∙ unlisted_step (rows_of d ENTITY) (rows_of a ENTITY) o.complete_rows o.partial_rows i j j' r (omega (arith, g.all)) er v ev ej b (rw ev at e)

      pub list_off : not b ≡ true → true ≡ unlisted_in (rows_of a ENTITY) (rows_of d ENTITY)
      list_off k = sym (list_here ∙ rw (not-true b k) refl)

      pub list_on : not b ≡ false → Listing a d n (i + 1) j'
      list_on k = record { all = g.all; left = list_here ∙ rw (not-false b k) refl }

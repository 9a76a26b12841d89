-- The slots under a policy's root: one law for each answer of the code. Assumes nothing.
use mathlib.Core.Path.{◌≡◌, refl, sym, ap, ap₂, ◌∙◌}
use mathlib.Core.Bool.{Bool, true, false, cond, not, ◌&&◌}
use mathlib.Core.List.{List, [], ◌∷◌, ◌++◌}
use Prim.Native.Nat.{ℕ, zero, suc, ◌+◌, ◌-◌, ◌%◌, ◌≤◌, ◌<◌}
use Prim.Native.String.{String}
use native.Mathlib.Nat.{mod-lt}
use native.Mathlib.Omega.{arith}
use native.Mathlib.Decide.{ℕ_discrete, dec_lt}
use borrow.Author.Tests.{eq-eqb, ne_eqb, lt-ltb, le-ltb, ltb-false, not-true, not-false}
use lib.Dec.{eqb, ltb}
use lib.ListN.{length, get_or, drop, drop_of_length-le, get_or-append, get_or-eq_default, length-drop}
use lib.Seq.{get_or-take}
use Rattle.std.proofs.lemmas.List.{drop_more, length-take, get_or-drop}
use lib.Seq.{get_or-append-add}
use Rattle.sheet.specs.Ascii.{ascii}
use Rattle.sheet.specs.Bytes.{same}
use Rattle.sheet.specs.Forms.{Slot, entry, line, line_or, line_unknown, word, number, day, nothing, dash, Form, forms, form_of, slot_in, slot_at, is_line, keep, refs_from, refs, tag, NODE, POLICY}
use Rattle.sheet.specs.Typing.{slot_value}
use Rattle.sheet.proofs.reading.Slots.{like_slot, path_slot}
use Rattle.forms.specs.declared.Form as F
use Rattle.forms.specs.Rows.{NONE, KIND_LETTER, FIELD_LETTER, BIT, PART_LETTER, EFFECT, SLOT_LETTER, LINE, UNKNOWN, DASH, STAR, OF_NODE, word_code, code, places, coded, place_in, code_in}
use Rattle.forms.specs.Tags.{LIKE, HASPATH, SLOT, SLOT_P}
use Rattle.forms.proofs.Table.{both_small}
use Rattle.forms.proofs.Places.{place_first, place_none, place_again}
use Rattle.table.specs.Layout.{rows_of, TYPEDEPTHS}
use Rattle.fits.specs.Fit.{full, SettledIn, Known, Answered}
use Rattle.words.specs.Log.{part}
use Rattle.typing.specs.Links.{child_in, seen_below, seen_from, NodesEnd, slot_fits, slots_fit_in, link_rule}

-- ---- what may stand at a place of a line, by its code

word_code_law : (w : String) (ws : List String) → eqb (word_code w ws) OF_NODE ≡ false
word_code_law w ws = go (same (ascii w) (ascii "e")) (same (ascii w) (ascii "o")) (same (ascii w) (ascii "0")) (same (ascii w) (ascii "p")) (eqb (length ws) 1)
  where
    go : (a b c d e : Bool) → eqb (cond a KIND_LETTER (cond b FIELD_LETTER (cond c BIT (cond d (cond e SLOT_LETTER PART_LETTER) EFFECT)))) OF_NODE ≡ false
    go true b c d e = refl
    go false true c d e = refl
    go false false true d e = refl
    go false false false true true = refl
    go false false false true false = refl
    go false false false false e = refl

-- only a line of key NODE has the code of a node
node_code : (s : Slot) → is_line NODE s ≡ eqb (code s) OF_NODE
unfolding code
node_code entry = refl
node_code (line k) = go (ℕ_discrete NODE k)
  where
    go : Dec (NODE ≡ k) → eqb NODE k ≡ eqb (LINE + k) OF_NODE
    go (yes e) = eq-eqb NODE k e ∙ sym (eq-eqb (LINE + k) OF_NODE (omega (arith, e)))
    go (no n) = ne_eqb NODE k n ∙ sym (ne_eqb (LINE + k) OF_NODE (λ e. n (omega (arith, e))))
node_code (line_or b k) = go (eqb b dash)
  where
    go : (x : Bool) → false ≡ eqb (cond x DASH STAR + k) OF_NODE
    go true = sym (ne_eqb (DASH + k) OF_NODE (λ e. absurd (omega (arith, e))))
    go false = sym (ne_eqb (STAR + k) OF_NODE (λ e. absurd (omega (arith, e))))
node_code (line_unknown k) = sym (ne_eqb (UNKNOWN + k) OF_NODE (λ e. absurd (omega (arith, e))))
node_code (word []) = refl
node_code (word (w ∷ ws)) = sym (word_code_law w ws)
node_code number = refl
node_code day = refl
node_code nothing = refl

abbrev four_of : List Slot → List ℕ
four_of l = code (get_or l 0 nothing) ∷ code (get_or l 1 nothing) ∷ code (get_or l 2 nothing) ∷ code (get_or l 3 nothing) ∷ []

four_at : (l : List Slot) (i : ℕ) → i < 4 → get_or (four_of l) i NONE ≡ code (get_or l i nothing)
four_at l zero h = refl
four_at l (suc zero) h = refl
four_at l (suc (suc zero)) h = refl
four_at l (suc (suc (suc zero))) h = refl
four_at l (suc (suc (suc (suc i)))) h = absurd (omega arith)

nothing_code : NONE ≡ code nothing
unfolding code
nothing_code = refl

-- the row of a form says what may stand at every place of a line
code_is : (f : Form) (j : ℕ) → length f.items + length f.group ≤ 4 → code_in (coded f) j ≡ code (slot_in f j)
unfolding code_in coded
code_is f j few = go (dec_lt j (length f.items)) (ℕ_discrete (length f.group) 0)
  where
    at : (i : ℕ) → i ≡ place_in (coded f) j → get_or (four_of (places f)) (place_in (coded f) j) NONE ≡ get_or (four_of (places f)) i NONE
    at i e = ap (λ (x : ℕ). get_or (four_of (places f)) x NONE) (sym e)

    go : Dec (j < length f.items) → Dec (length f.group ≡ 0) → get_or (four_of (places f)) (place_in (coded f) j) NONE ≡ code (slot_in f j)
    go (yes l) g =
        at j (place_first (coded f) j l) ∙ four_at (places f) j (omega (arith, l, few)) ∙ ap code (get_or-append f.items f.group nothing j l)
        ∙ sym (ap (λ (b : Bool). code (cond b (get_or f.items j nothing) (get_or f.group ((j - length f.items) % length f.group) nothing))) (lt-ltb j (length f.items) l))
    go (no n) (yes z) =
        at 4 (place_none (coded f) j (omega (arith, n)) z) ∙ nothing_code
        ∙ sym (ap (λ (b : Bool). code (cond b (get_or f.items j nothing) (get_or f.group ((j - length f.items) % length f.group) nothing))) (le-ltb j (length f.items) (omega (arith, n)))
        ∙ ap code (get_or-eq_default f.group nothing {n = (j - length f.items) % length f.group} (omega (arith, z))))
    go (no n) (no z) =
        let k = (j - length f.items) % length f.group in
        let l : k < length f.group = mod-lt (j - length f.items) {m = length f.group} (omega (arith, z)) in
        at (length f.items + k) (place_again (coded f) j (omega (arith, n)) z) ∙ four_at (places f) (length f.items + k) (omega (arith, l, few)) ∙ ap code (get_or-append-add f.items f.group k nothing)
        ∙ sym (ap (λ (b : Bool). code (cond b (get_or f.items j nothing) (get_or f.group k nothing))) (le-ltb j (length f.items) (omega (arith, n))))

-- place j of a line of form t refers to a node
refers : (t j : ℕ) → is_line NODE (slot_at t j) ≡ eqb (code_in (coded (form_of t)) j) OF_NODE
unfolding slot_at
refers t j = node_code (slot_at t j) ∙ ap (λ (c : ℕ). eqb c OF_NODE) (sym (code_is (form_of t) j (both_small t)))

-- ---- `slot_value`

module _ (p q x : ℕ) where
  pub value_principal : x ≡ SLOT_P → p ≡ slot_value p q x
  value_principal h = rw (eq-eqb x SLOT_P h)

  pub value_resource : (x ≡ SLOT_P → ⊥) → q ≡ slot_value p q x
  value_resource h = rw (ne_eqb x SLOT_P h)

-- ---- `slot_fits`

module _ (a r : List ℕ) (p q t : ℕ) (et : t ≡ tag r) where
  pub slot_none : (m : List ℕ) → Known a m → (t ≡ SLOT → ⊥) → Answered a m m (slot_fits a p q r) true
  unfolding slot_fits
  slot_none m k h = record { is = λ s. rw (← et, ne_eqb t SLOT h); known = k; rest = refl }

  slot_as : (v x y : ℕ) → t ≡ SLOT → x ≡ get_or r 2 0 → v ≡ slot_value p q x → y ≡ get_or r 1 0 → full a v y ≡ slot_fits a p q r
  unfolding slot_fits
  slot_as v x y h ex ev ey = rw (← et, eq-eqb t SLOT h, ← ex, ← ev, ← ey)

  pub slot_some : (m n : List ℕ) (v x y : ℕ) (b : Bool) → t ≡ SLOT → x ≡ get_or r 2 0 → v ≡ slot_value p q x → y ≡ get_or r 1 0 → Answered a m n (full a v y) b → Answered a m n (slot_fits a p q r) b
  slot_some m n v x y b h ex ev ey g = record { is = λ s. g.is s ∙ slot_as v x y h ex ev ey; known = g.known; rest = g.rest }

-- ---- `nodes_end`

-- a form whose places from the third item on hold no node
abbrev Texts : ℕ → Type 0
Texts t = (j : ℕ) → is_line NODE (slot_at t (suc (suc j))) ≡ false

like_texts : Texts LIKE
like_texts j = ap (is_line NODE) (like_slot j)

path_texts : Texts HASPATH
unfolding slot_at form_of forms
path_texts zero = refl
path_texts (suc j) = ap (is_line NODE) (path_slot j)

texts_none : (t : ℕ) → Texts t → (j : ℕ) (l : List ℕ) → refs_from NODE t (suc (suc j)) l ≡ []
texts_none t f j [] = refl
texts_none t f j (x ∷ l) = ap (λ (b : Bool). keep b x (refs_from NODE t (suc (suc (suc j))) l)) (f j) ∙ texts_none t f (suc j) l

module _ (r : List ℕ) where
  -- behind the last item nothing stands
  pub end_all : NodesEnd r (length r)
  end_all = record { within = omega arith; none = λ j h. rw (drop_of_length-le r h) }

  end_texts : (u : ℕ) → Texts u → tag r ≡ u → 3 < length r → NodesEnd r 3
  end_texts u f e l = record {
    within = omega (arith, l);
    none = λ j h. let k : j ≡ suc (suc (j - 2)) = omega (arith, h) in
        ap (λ (y : ℕ). refs_from NODE y j (drop (j + 1) r)) e ∙ ap (λ (y : ℕ). refs_from NODE u y (drop (j + 1) r)) k ∙ texts_none u f (j - 2) (drop (j + 1) r);
  }

  module _ (t : ℕ) (et : t ≡ tag r) where
    pub end_like : t ≡ LIKE → 3 < length r → NodesEnd r 3
    end_like e = end_texts LIKE like_texts (sym et ∙ e)

    pub end_path : t ≡ HASPATH → 3 < length r → NodesEnd r 3
    end_path e = end_texts HASPATH path_texts (sym et ∙ e)

-- ---- the slots of rows that follow one another

and_assoc : (x y z : Bool) → (x && (y && z)) ≡ ((x && y) && z)
and_assoc true y z = refl
and_assoc false y z = refl

module _ (a : List ℕ) (p q : ℕ) where
  fit_append : (l k : List (List ℕ)) → slots_fit_in a p q (l ++ k) ≡ (slots_fit_in a p q l && slots_fit_in a p q k)
  unfolding slots_fit_in
  fit_append [] k = refl
  fit_append (r ∷ l) k = ap (λ (b : Bool). slot_fits a p q r && b) (fit_append l k) ∙ and_assoc (slot_fits a p q r) (slots_fit_in a p q l) (slots_fit_in a p q k)

  module _ (f : ℕ → List (List ℕ)) (n : ℕ) where
    abbrev fit : List ℕ → Bool
    fit l = slots_fit_in a p q (seen_below f n l)

    -- of the nodes to which a row refers, the first and those after it
    fit_keep : (b : Bool) (x : ℕ) (l : List ℕ) → fit (keep b x l) ≡ (fit (keep b x []) && fit l)
    unfolding slots_fit_in seen_below
    fit_keep true x l =
        fit_append (cond (ltb x n) (f x) []) (seen_below f n l)
        ∙ ap (λ (c : Bool). c && fit l) (sym (fit_append (cond (ltb x n) (f x) []) [] ∙ and_true (slots_fit_in a p q (cond (ltb x n) (f x) []))))
      where
        and_true : (c : Bool) → (c && true) ≡ c
        and_true true = refl
        and_true false = refl
    fit_keep false x l = refl

-- ---- `child_fits`

module _ (a : List ℕ) (p q n d c x : ℕ) where
  abbrev child_fits : Bool
  child_fits = slots_fit_in a p q (seen_below (seen_from (rows_of a NODE) d) n (child_in c x))

  pub child_none : (m : List ℕ) → Known a m → (c ≡ OF_NODE → ⊥) → Answered a m m child_fits true
  unfolding slots_fit_in seen_below child_in
  child_none m k h = record { is = λ s. rw (ne_eqb c OF_NODE h); known = k; rest = refl }

  pub child_later : (m : List ℕ) → Known a m → c ≡ OF_NODE → n ≤ x → Answered a m m child_fits true
  unfolding slots_fit_in seen_below child_in
  child_later m k h l = record { is = λ s. rw (eq-eqb c OF_NODE h, le-ltb x n l); known = k; rest = refl }

  child_as : c ≡ OF_NODE → x < n → slots_fit_in a p q (seen_from (rows_of a NODE) d x) ≡ child_fits
  unfolding seen_below child_in
  child_as h l = rw (eq-eqb c OF_NODE h, lt-ltb x n l) (ap (slots_fit_in a p q) (sym (append_nil (seen_from (rows_of a NODE) d x))))
    where
      append_nil : (l : List (List ℕ)) → l ++ [] ≡ l
      append_nil [] = refl
      append_nil (r ∷ l) = ap (λ (z : List (List ℕ)). r ∷ z) (append_nil l)

  pub child_some : (m o : List ℕ) (b : Bool) → c ≡ OF_NODE → x < n → Answered a m o (slots_fit_in a p q (seen_from (rows_of a NODE) d x)) b → Answered a m o child_fits b
  child_some m o b h l g = record { is = λ s. g.is s ∙ child_as h l; known = g.known; rest = g.rest }

-- ---- `below_fits`

module _ (a r : List ℕ) (p q n d : ℕ) where
  abbrev below_fits : Bool
  below_fits = slots_fit_in a p q (seen_below (seen_from (rows_of a NODE) d) n (refs NODE r))

  -- the same from place j of the row on
  abbrev below_from : ℕ → Bool
  below_from j = slots_fit_in a p q (seen_below (seen_from (rows_of a NODE) d) n (refs_from NODE (tag r) j (drop (j + 1) r)))

  -- what is left of the row, from place j on, decides the whole
  pub record Below (m o : List ℕ) (j : ℕ) : Type 0 where
    pub left : SettledIn a → below_fits ≡ below_from j
    pub known : Known a o
    pub rest : drop TYPEDEPTHS o ≡ drop TYPEDEPTHS m

  pub below_start : (m : List ℕ) → Known a m → Below m m 0
  unfolding refs
  below_start m k = record { left = λ s. refl; known = k; rest = refl }

  -- l are the items at which nodes may stand
  module _ (m o : List ℕ) (j : ℕ) (w : Below m o j) (e : ℕ) (z : NodesEnd r e) (l : List ℕ) (el : l ≡ part r 1 e) where
    many : length l ≡ e - 1
    many = rw el (let h = z.within in simp (length-take, length-drop) (omega arith))

    pub below_end : length l ≤ j → Answered a m o below_fits true
    unfolding slots_fit_in seen_below
    below_end h = record { is = λ s. sym (w.left s ∙ rw (z.none j (omega (arith, many)))); known = w.known; rest = w.rest }

    module _ (u : List ℕ) (t c : ℕ) (f : F.Form) (b : Bool) (h : j < length l) (et : t ≡ tag r) (ef : f ≡ coded (form_of t)) (ec : c ≡ code_in f j)
        (g : Answered a o u (slots_fit_in a p q (seen_below (seen_from (rows_of a NODE) d) n (child_in c (get_or l j 0)))) b) where
      abbrev x : ℕ
      x = get_or l j 0

      refers_so : is_line NODE (slot_at (tag r) j) ≡ eqb c OF_NODE
      refers_so = refers (tag r) j ∙ ap (λ (y : F.Form). eqb (code_in y j) OF_NODE) (ap (λ (y : ℕ). coded (form_of y)) (sym et) ∙ sym ef) ∙ ap (λ (y : ℕ). eqb y OF_NODE) (sym ec)

      item_is : get_or r (j + 1) 0 ≡ x
      item_is = sym (rw el (get_or-take (e - 1) (drop 1 r) j 0 (omega (arith, many)) ∙ get_or-drop 1 r j 0 ∙ ap (λ (i : ℕ). get_or r i 0) (omega arith)))

      step : below_from j ≡ (slots_fit_in a p q (seen_below (seen_from (rows_of a NODE) d) n (child_in c x)) && below_from (j + 1))
      unfolding child_in
      step =
          ap (λ (l : List ℕ). slots_fit_in a p q (seen_below F n (refs_from NODE (tag r) j l))) (drop_more r (j + 1) 0 (omega (arith, h, many, z.within)) ∙ ap (λ (y : ℕ). y ∷ drop (j + 1 + 1) r) item_is)
          ∙ ap₂ (λ (y : Bool) (i : ℕ). slots_fit_in a p q (seen_below F n (keep y x (refs_from NODE (tag r) i (drop (j + 1 + 1) r))))) refers_so (omega arith)
          ∙ fit_keep a p q F n (eqb c OF_NODE) x (refs_from NODE (tag r) (j + 1) (drop (j + 1 + 1) r))
        where
          F : ℕ → List (List ℕ)
          F = seen_from (rows_of a NODE) d

      pub below_on : b ≡ true → Below m u (j + 1)
      below_on nb = record {
        left = λ s. w.left s ∙ step ∙ ap (λ (y : Bool). y && below_from (j + 1)) (sym (g.is s) ∙ nb);
        known = g.known;
        rest = g.rest ∙ w.rest;
      }

      pub below_off : b ≡ false → Answered a m u below_fits false
      below_off nb = record {
        is = λ s. sym (w.left s ∙ step ∙ ap (λ (y : Bool). y && below_from (j + 1)) (sym (g.is s) ∙ nb));
        known = g.known;
        rest = g.rest ∙ w.rest;
      }

-- ---- `under_fits`

module _ (a : List ℕ) (p q n d : ℕ) where
  abbrev under_fits : Bool
  under_fits = slots_fit_in a p q (seen_from (rows_of a NODE) d n)

  pub under_deep : (m : List ℕ) → Known a m → d ≡ 0 → Answered a m m under_fits true
  unfolding slots_fit_in seen_from
  under_deep m k h = record { is = λ s. rw h; known = k; rest = refl }

  module _ (r : List ℕ) (nd : d ≡ 0 → ⊥) (er : r ≡ get_or (rows_of a NODE) n []) where
    abbrev row_fits : List ℕ → Bool
    row_fits l = slot_fits a p q l && slots_fit_in a p q (seen_below (seen_from (rows_of a NODE) (d - 1)) n (refs NODE l))

    row_none : true ≡ row_fits []
    unfolding slot_fits slots_fit_in seen_below refs
    row_none = refl

    -- a node that is not there has no slot
    under_as : under_fits ≡ row_fits r
    unfolding slots_fit_in seen_from
    under_as = let e : d ≡ suc (d - 1) = omega (arith, nd) in
        ap (λ (y : ℕ). slots_fit_in a p q (seen_from (rows_of a NODE) y n)) e ∙ go (ltb n (length (rows_of a NODE))) refl ∙ ap row_fits (sym er)
      where
        go : (b : Bool) → ltb n (length (rows_of a NODE)) ≡ b
            → slots_fit_in a p q (cond b (get_or (rows_of a NODE) n [] ∷ seen_below (seen_from (rows_of a NODE) (d - 1)) n (refs NODE (get_or (rows_of a NODE) n []))) []) ≡ row_fits (get_or (rows_of a NODE) n [])
        go true h = refl
        go false h = row_none ∙ ap row_fits (sym (get_or-eq_default (rows_of a NODE) [] {n = n} (ltb-false n (length (rows_of a NODE)) h)))

    module _ (m o : List ℕ) (b : Bool) (g : Answered a m o (slot_fits a p q r) b) where
      pub under_no : not b ≡ true → Answered a m o under_fits false
      under_no nb = record {
        is = λ s. sym (under_as ∙ ap (λ (y : Bool). y && slots_fit_in a p q (seen_below (seen_from (rows_of a NODE) (d - 1)) n (refs NODE r))) (sym (g.is s) ∙ not-true b nb));
        known = g.known;
        rest = g.rest;
      }

      pub under_yes : (u : List ℕ) (c : Bool) → not b ≡ false → Answered a o u (slots_fit_in a p q (seen_below (seen_from (rows_of a NODE) (d - 1)) n (refs NODE r))) c → Answered a m u under_fits c
      under_yes u c nb h = record {
        is = λ s. h.is s ∙ sym (under_as ∙ ap (λ (y : Bool). y && slots_fit_in a p q (seen_below (seen_from (rows_of a NODE) (d - 1)) n (refs NODE r))) (sym (g.is s) ∙ not-false b nb));
        known = h.known;
        rest = h.rest ∙ g.rest;
      }

-- ---- `link_typed`

module _ (a r l : List ℕ) (v x p q : ℕ) (ev : v ≡ get_or r 1 0) (el : l ≡ get_or (rows_of a POLICY) v []) (ex : x ≡ get_or l 3 0) (ep : p ≡ get_or r 2 0) (eq : q ≡ get_or r 3 0) where
  link_as : slots_fit_in a p q (seen_from (rows_of a NODE) 64 x) ≡ link_rule a r
  unfolding link_rule
  link_as = rw (← ep, ← eq, ← ev, ← el, ← ex)

  pub link_is : (m n : List ℕ) (b : Bool) → Answered a m n (slots_fit_in a p q (seen_from (rows_of a NODE) 64 x)) b → Answered a m n (link_rule a r) b
  link_is m n b g = record { is = λ s. g.is s ∙ link_as; known = g.known; rest = g.rest }

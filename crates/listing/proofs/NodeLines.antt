-- The lines of residual rows, run by run. Assumes nothing.
use mathlib.Core.Path.{◌≡◌, refl, sym, ap, ap₂, ◌∙◌}
use mathlib.Core.Bool.{true, cond, ◌||◌}
use mathlib.Core.List.{List, [], ◌∷◌, ◌++◌, append-nil, append_assoc}
use Prim.Native.Nat.{ℕ, zero, suc, ◌+◌, ◌-◌, ◌*◌, ◌/◌, ◌≤◌, ◌<◌}
use native.Mathlib.Omega.{arith}
use native.Mathlib.Decide.{dec_le, ℕ_discrete}
use borrow.Author.Tests.{eq-eqb, ne_eqb, le-leb, lt-leb}
use lib.Dec.{leb, eqb}
use lib.ListN.{length, get_or, drop, length-drop}
use lib.Seq.{take_all, drop-drop}
use Rattle.sheet.specs.Ascii.{ascii}
use Rattle.sheet.specs.Bytes.{digits}
use Rattle.sheet.specs.Forms.{tag}
use Rattle.sheet.specs.Answer.{concat, numbers}
use Rattle.forms.specs.Tags.{VAR, IS, LIKE, GET, HAS, HASPATH, RECORD_OF}
use Rattle.words.specs.Log.{part}
use Rattle.residual.specs.Rows.{word_at, stage_at, start_at}
use Rattle.residual.specs.declared.Stage.{Stage}
use Rattle.residual.specs.declared.Stage.TheVariants.{Value, Error, Open}
use Rattle.residual.proofs.Steps.{start_less}
use Rattle.print.specs.declared.Out.{Out}
use Rattle.print.specs.Out.{Prints}
use Rattle.print.proofs.Outs.{prints_none, prints_as, prints_two}
use Rattle.listing.specs.Values.{after}
use Rattle.listing.specs.Names.{op_name_def}
use Rattle.listing.specs.Nodes.{number_of, children_by, children_to, fields_to, letter, pieces, rest_items, left_items, left_said, left_at, said_as, said_at, node_line, lines_by, log_lines}
use Rattle.listing.proofs.Printing.{Printing, printing_on, printing_end}
use Rattle.listing.proofs.Made.{commas_after}

-- ---- runs of items

pub after_append : (k l : List (List ℕ)) → after (k ++ l) ≡ after k ++ after l
after_append [] l = refl
after_append (x ∷ k) l = ap (λ (m : List ℕ). (44 ∷ x) ++ m) (after_append k l) ∙ sym (append_assoc (44 ∷ x) (after k) (after l))

pub numbers_append : (k l : List ℕ) → numbers (k ++ l) ≡ numbers k ++ numbers l
numbers_append [] l = refl
numbers_append (x ∷ k) l = ap (λ (m : List (List ℕ)). digits x ∷ m) (numbers_append k l)

after_one : (k : List ℕ) (x : ℕ) → after (numbers (k ++ (x ∷ []))) ≡ after (numbers k) ++ (44 ∷ digits x)
after_one k x = ap after (numbers_append k (x ∷ [])) ∙ after_append (numbers k) (digits x ∷ []) ∙ ap (λ (m : List ℕ). after (numbers k) ++ m) (append-nil (44 ∷ digits x))

-- ---- words of a row

pub words_from : (r : List ℕ) (i : ℕ) (q : List ℕ) → q ≡ part r i (length r) → q ≡ drop i r
words_from r i q e = e ∙ take_all (length r - i) (drop i r) (rw (length-drop i r) (omega arith))

-- ---- children

module _ (l : List ℕ) (start : ℕ) where
  -- as many blocks as words are enough
  enough : (m n p : ℕ) → p ≤ m → p ≤ n → children_by l start m p ≡ children_by l start n p
  unfolding children_by
  enough zero zero p h k = refl
  enough zero (suc n) p h k = let z : p ≤ start = omega arith in rw (le-leb p start z)
  enough (suc m) zero p h k = let z : p ≤ start = omega arith in rw (le-leb p start z)
  enough (suc m) (suc n) p h k = go (dec_le p start) (enough m n (start_at l p))
    where
      go : Dec (p ≤ start) → (start_at l p ≤ m → start_at l p ≤ n → children_by l start m (start_at l p) ≡ children_by l start n (start_at l p))
          → cond (leb p start) [] (children_by l start m (start_at l p) ++ (number_of p ∷ [])) ≡ cond (leb p start) [] (children_by l start n (start_at l p) ++ (number_of p ∷ []))
      go (yes d) ih = rw (le-leb p start d)
      go (no d) ih =
          let s = start_less l p (start_at l p) (omega arith) refl in
          rw (lt-leb p start (omega arith)) (ap (λ (x : List ℕ). x ++ (number_of p ∷ [])) (ih (omega arith) (omega arith)))

  pub children_end : (p : ℕ) → p ≤ start → children_to l start p ≡ []
  unfolding children_to children_by
  children_end zero h = refl
  children_end (suc p) h = rw (le-leb (suc p) start h)

  pub children_step : (p : ℕ) → start < p → children_to l start p ≡ children_to l start (start_at l p) ++ (number_of p ∷ [])
  unfolding children_to children_by
  children_step zero h = absurd (omega arith)
  children_step (suc p) h =
      let s = start_less l (suc p) (start_at l (suc p)) (omega arith) refl in
      rw (lt-leb (suc p) start h) (ap (λ (x : List ℕ). x ++ (number_of (suc p) ∷ [])) (enough p (start_at l (suc p)) (start_at l (suc p)) (omega arith) (omega arith)))

pub children_none : {a : Out} (l : List ℕ) (start p : ℕ) → p ≤ start → Prints a (after (numbers (children_to l start p))) a
children_none {a} l start p h = prints_as (prints_none a) (ap (λ (x : List ℕ). after (numbers x)) (sym (children_end l start p h)))

pub children_more : {a b c : Out} (l : List ℕ) (start p q x : ℕ) → start < p → q ≡ start_at l p → x ≡ number_of p
    → Prints a (after (numbers (children_to l start q))) b → Prints b (44 ∷ digits x) c → Prints a (after (numbers (children_to l start p))) c
children_more l start p q x h eq ex v w =
    prints_as (prints_two v w)
    (ap₂ (λ (i j : ℕ). after (numbers (children_to l start i)) ++ (44 ∷ digits j)) eq ex ∙ sym (after_one (children_to l start (start_at l p)) (number_of p))
    ∙ ap (λ (y : List ℕ). after (numbers y)) (sym (children_step l start p h)))

-- ---- fields

module _ (r : List ℕ) (l : List ℕ) (start : ℕ) where
  pub fields_end : (i p : ℕ) → p ≤ start → fields_to r i l start p ≡ []
  unfolding fields_to
  fields_end zero p h = refl
  fields_end (suc zero) p h = refl
  fields_end (suc (suc i)) p h = rw (le-leb p start h)

  fields_short : (i p : ℕ) → i < 2 → fields_to r i l start p ≡ []
  unfolding fields_to
  fields_short zero p h = refl
  fields_short (suc zero) p h = refl
  fields_short (suc (suc i)) p h = absurd (omega arith)

  pub fields_step : (i p : ℕ) → start < p → fields_to r (suc (suc i)) l start p ≡ fields_to r i l start (start_at l p) ++ (get_or r i 0 ∷ number_of p ∷ [])
  unfolding fields_to
  fields_step i p h = rw (lt-leb p start h)

  fields_back : (i p : ℕ) → 2 ≤ i → start < p → fields_to r i l start p ≡ fields_to r (i - 2) l start (start_at l p) ++ (get_or r (i - 2) 0 ∷ number_of p ∷ [])
  fields_back i p g h =
      let z : i ≡ suc (suc (i - 2)) = omega arith in
      ap (λ (j : ℕ). fields_to r j l start p) z ∙ fields_step (i - 2) p h

pub fields_few : {a : Out} (r l : List ℕ) (i start p : ℕ) → i < 2 → Prints a (after (numbers (fields_to r i l start p))) a
fields_few {a} r l i start p h = prints_as (prints_none a) (ap (λ (x : List ℕ). after (numbers x)) (sym (fields_short r l start i p h)))

pub fields_none : {a : Out} (r l : List ℕ) (i start p : ℕ) → p ≤ start → Prints a (after (numbers (fields_to r i l start p))) a
fields_none {a} r l i start p h = prints_as (prints_none a) (ap (λ (x : List ℕ). after (numbers x)) (sym (fields_end r l start i p h)))

after_two : (k : List ℕ) (x y : ℕ) → after (numbers (k ++ (x ∷ y ∷ []))) ≡ after (numbers k) ++ ((44 ∷ digits x) ++ (44 ∷ digits y))
after_two k x y =
    ap after (numbers_append k (x ∷ y ∷ [])) ∙ after_append (numbers k) (digits x ∷ digits y ∷ [])
    ∙ ap (λ (m : List ℕ). after (numbers k) ++ ((44 ∷ digits x) ++ m)) (append-nil (44 ∷ digits y))

pub fields_more : {a b c : Out} (r l : List ℕ) (i start p q t x : ℕ) → 2 ≤ i → start < p → q ≡ start_at l p → t ≡ get_or r (i - 2) 0 → x ≡ number_of p
    → Prints a (after (numbers (fields_to r (i - 2) l start q))) b → Prints b ((44 ∷ digits t) ++ (44 ∷ digits x)) c → Prints a (after (numbers (fields_to r i l start p))) c
fields_more r l i start p q t x g h eq et ex u v =
    prints_as (prints_two u v)
    (ap (λ (j : ℕ). after (numbers (fields_to r (i - 2) l start j)) ++ ((44 ∷ digits t) ++ (44 ∷ digits x))) eq
    ∙ ap₂ (λ (j k : ℕ). after (numbers (fields_to r (i - 2) l start (start_at l p))) ++ ((44 ∷ digits j) ++ (44 ∷ digits k))) et ex
    ∙ sym (after_two (fields_to r (i - 2) l start (start_at l p)) (get_or r (i - 2) 0) (number_of p))
    ∙ ap (λ (y : List ℕ). after (numbers y)) (sym (fields_back r l start i p g h)))

-- ---- a variable, a pattern, a path

-- bytes by the word that has them
pub word_is : {a b : Out} (xs q : List ℕ) → q ≡ xs → Prints a q b → Prints a xs b
word_is xs q e w = prints_as w e

pub steps_are : {a b c : Out} (r q : List ℕ) (k x : ℕ) → x ≡ get_or r (k + 3) 0 → q ≡ part r (k + 3 + 1) (length r) → Prints a (44 ∷ digits x) b → Prints b (after (numbers q)) c
    → Prints a (after (digits (get_or r (3 + k) 0) ∷ numbers (drop (4 + k) r))) c
steps_are r q k x ex eq v w =
    let f : k + 3 ≡ 3 + k = omega arith in
    let g : k + 3 + 1 ≡ 4 + k = omega arith in
    prints_as (prints_two v w)
    (ap₂ (λ (i : ℕ) (l : List ℕ). (44 ∷ digits i) ++ after (numbers l)) (ex ∙ ap (λ (j : ℕ). get_or r j 0) f) (words_from r (k + 3 + 1) q eq ∙ ap (λ (j : ℕ). drop j r) g))

-- ---- a node that is left

seconds : (t : ℕ) → IS ≤ t → t ≤ HAS → (t ≡ LIKE → ⊥) → (eqb t IS || (eqb t GET || eqb t HAS)) ≡ true
seconds t lo hi n = go (ℕ_discrete t IS) (ℕ_discrete t GET)
  where
    go : Dec (t ≡ IS) → Dec (t ≡ GET) → (eqb t IS || (eqb t GET || eqb t HAS)) ≡ true
    go (yes e) d = rw (eq-eqb t IS e)
    go (no m) (yes e) = rw (ne_eqb t IS m, eq-eqb t GET e)
    go (no m) (no l) = let e : t ≡ HAS = omega arith in rw (ne_eqb t IS m, ne_eqb t GET l, eq-eqb t HAS e)

module _ (t : ℕ) (r : List ℕ) (k : ℕ) (et : t ≡ tag r) where
  module _ {a b : Out} where
    pub rest_second : IS ≤ t → t ≤ HAS → (t ≡ LIKE → ⊥) → Prints a (44 ∷ digits (get_or r 3 0)) b → Prints a (after (rest_items (tag r) r k)) b
    unfolding rest_items
    rest_second lo hi n w = prints_as w (sym (append-nil (44 ∷ digits (get_or r 3 0))) ∙ rw (← et, seconds t lo hi n))

    pub rest_like : (q : List ℕ) → t ≡ LIKE → q ≡ part r 3 (length r) → Prints a (after (pieces q)) b → Prints a (after (rest_items (tag r) r k)) b
    unfolding rest_items
    rest_like q e f w = prints_as w (ap (λ (x : List ℕ). after (pieces x)) (words_from r 3 q f ∙ sym (drop-drop 2 1 r)) ∙ rw (← et, e))

    pub rest_path : t ≡ HASPATH → Prints a (after (digits (get_or r (3 + k) 0) ∷ numbers (drop (4 + k) r))) b → Prints a (after (rest_items (tag r) r k)) b
    unfolding rest_items
    rest_path e w =
        let f : 3 + k ≡ suc (2 + k) = omega arith in
        let g : 1 + (3 + k) ≡ 4 + k = omega arith in
        let d : drop (4 + k) r ≡ drop (3 + k) (drop 1 r) = sym (drop-drop (3 + k) 1 r ∙ ap (λ (i : ℕ). drop i r) g) in
        prints_as w (rw (← et, e) (ap₂ (λ (i : ℕ) (l : List ℕ). (44 ∷ digits (get_or r i 0)) ++ after (numbers l)) f d))

  pub rest_over : {a : Out} → (t ≡ IS → ⊥) → (t ≡ GET → ⊥) → (t ≡ HAS → ⊥) → (t ≡ LIKE → ⊥) → (t ≡ HASPATH → ⊥) → Prints a (after (rest_items (tag r) r k)) a
  unfolding rest_items
  rest_over {a} x y z u v = prints_as (prints_none a) (rw (← et, ne_eqb t IS x, ne_eqb t GET y, ne_eqb t HAS z, ne_eqb t LIKE u, ne_eqb t HASPATH v))

  module _ (cs fs : List ℕ) {a b : Out} where
    pub items_var : (x : ℕ) → t ≡ VAR → x ≡ get_or r 2 0 → Prints a (44 ∷ letter x) b → Prints a (after (left_items (tag r) r k cs fs)) b
    unfolding left_items
    items_var x e f w = prints_as w (rw (← et, e) (ap (λ (y : ℕ). 44 ∷ letter y) f ∙ sym (append-nil (44 ∷ letter (get_or r 2 0)))))

    pub items_record : t ≡ RECORD_OF → Prints a (after (numbers fs)) b → Prints a (after (left_items (tag r) r k cs fs)) b
    unfolding left_items
    items_record e w = prints_as w (rw (← et, e))

    pub items_others : {c : Out} → (t ≡ VAR → ⊥) → (t ≡ RECORD_OF → ⊥) → Prints a (after (numbers cs)) b → Prints b (after (rest_items (tag r) r k)) c → Prints a (after (left_items (tag r) r k cs fs)) c
    unfolding left_items
    items_others x y v w = prints_as (prints_two v w) (rw (← et, ne_eqb t VAR x, ne_eqb t RECORD_OF y) (sym (after_append (numbers cs) (rest_items t r k))))

pub left_said_law : {a b c d : Out} (r : List ℕ) (k : ℕ) (l : List ℕ) (start p t : ℕ) (q : List ℕ) → t ≡ tag r → q ≡ ascii (op_name_def t) → Prints a (44 ∷ []) b → Prints b q c
    → Prints c (after (left_items (tag r) r k (children_to l start p) (fields_to r (length r) l start p))) d → Prints a (after (left_said r k l start p)) d
left_said_law r k l start p t q e n u v w =
    prints_as (prints_two u (prints_two v w))
    (ap (λ (x : List ℕ). 44 ∷ (x ++ after (left_items (tag r) r k (children_to l start p) (fields_to r (length r) l start p)))) (n ∙ ap (λ (i : ℕ). ascii (op_name_def i)) e))

pub left_at_law : {a b : Out} (ns : List (List ℕ)) (l : List ℕ) (e x t k s p : ℕ) (r : List ℕ) → x ≡ word_at l e 1 → r ≡ get_or ns x [] → t ≡ word_at l e 0 → k ≡ t - 2 → s ≡ start_at l e → p ≡ e - 4
    → Prints a (after (left_said r k l s p)) b → Prints a (after (left_at ns l e)) b
unfolding left_at
left_at_law ns l e x t k s p r ex er et ek es ep w =
    prints_as w
    (ap₂ (λ (i : List ℕ) (j : ℕ). after (left_said i j l s p)) (er ∙ ap (λ (i : ℕ). get_or ns i []) ex) (ek ∙ ap (λ (i : ℕ). i - 2) et)
    ∙ ap₂ (λ (i j : ℕ). after (left_said (get_or ns (word_at l e 1) []) (word_at l e 0 - 2) l i j)) es ep)

module _ (nodes : List (List ℕ)) (l : List ℕ) (e : ℕ) (s : Stage) (es : s ≡ stage_at l e) where
  said_as_law : after (said_as nodes l e s) ≡ after (said_at nodes l e)
  unfolding said_at
  said_as_law = ap (λ (x : Stage). after (said_as nodes l e x)) es

  pub said_value : {a b c : Out} (v : ℕ) → s ≡ Value v → Prints a (44 ∷ 108 ∷ 105 ∷ 116 ∷ []) b → Prints b (44 ∷ digits v) c → Prints a (after (said_at nodes l e)) c
  said_value v h u w =
      prints_as (prints_two u w)
      (ap (λ (x : List ℕ). (44 ∷ 108 ∷ 105 ∷ 116 ∷ []) ++ x) (sym (append-nil (44 ∷ digits v))) ∙ ap (λ (x : Stage). after (said_as nodes l e x)) (sym h) ∙ said_as_law)

  pub said_error : {a b : Out} → s ≡ Error → Prints a (44 ∷ 101 ∷ 114 ∷ 114 ∷ []) b → Prints a (after (said_at nodes l e)) b
  said_error h w = prints_as w (ap (λ (x : Stage). after (said_as nodes l e x)) (sym h) ∙ said_as_law)

  pub said_left : {a b : Out} → s ≡ Open → Prints a (after (left_at nodes l e)) b → Prints a (after (said_at nodes l e)) b
  said_left h w = prints_as w (ap (λ (x : Stage). after (said_as nodes l e x)) (sym h) ∙ said_as_law)

-- ---- lines

pub node_line_law : {a b c d e : Out} (ns : List (List ℕ)) (l : List ℕ) (z y : ℕ) → y ≡ word_at l z 3 → Prints a (110 ∷ 111 ∷ 100 ∷ 101 ∷ []) b → Prints b (61 ∷ digits y) c → Prints c (after (said_at ns l z)) d → Prints d (10 ∷ []) e
    → Prints a (node_line ns l z) e
unfolding node_line
node_line_law ns l z y ey p q r s =
    prints_as (prints_two p (prints_two q (prints_two r s)))
    (ap (λ (x : ℕ). (110 ∷ 111 ∷ 100 ∷ 101 ∷ []) ++ ((61 ∷ digits x) ++ (after (said_at ns l z) ++ (10 ∷ [])))) ey
    ∙ ap (λ (x : List ℕ). (110 ∷ 111 ∷ 100 ∷ 101 ∷ 61 ∷ []) ++ x)
    (sym (append_assoc (digits (word_at l z 3)) (after (said_at ns l z)) (10 ∷ []))
    ∙ ap (λ (x : List ℕ). x ++ (10 ∷ [])) (sym (commas_after (digits (word_at l z 3)) (said_at ns l z)))))

module _ (nodes : List (List ℕ)) (l : List ℕ) where
  -- the rows from number i on
  abbrev pub lines_from : ℕ → List ℕ
  lines_from i = concat (lines_by nodes l (length l / 4 - i) (4 * i))

  pub lines_start : concat (log_lines nodes l) ≡ lines_from 0
  unfolding log_lines
  lines_start = let z : length l / 4 ≡ length l / 4 - 0 = omega arith in ap (λ (n : ℕ). concat (lines_by nodes l n 0)) z

  module _ (i : ℕ) {a b : Out} (p : Printing (concat (log_lines nodes l)) (lines_from i) a b) where
    pub lines_more : {c : Out} → i < length l / 4 → Prints b (node_line nodes l (4 * i + 4)) c → Printing (concat (log_lines nodes l)) (lines_from (i + 1)) a c
    unfolding lines_by
    lines_more h w =
        let z : length l / 4 - i ≡ suc (length l / 4 - (i + 1)) = omega arith in
        let y : 4 * i + 4 ≡ 4 * (i + 1) = omega arith in
        printing_on p (node_line nodes l (4 * i + 4)) (lines_from (i + 1))
        (ap (λ (n : ℕ). concat (lines_by nodes l n (4 * i))) z ∙ ap (λ (n : ℕ). node_line nodes l (4 * i + 4) ++ concat (lines_by nodes l (length l / 4 - (i + 1)) n)) y) w

    pub lines_end : length l / 4 ≤ i → Prints a (concat (log_lines nodes l)) b
    unfolding lines_by
    lines_end h = let z : length l / 4 - i ≡ 0 = omega arith in printing_end p (ap (λ (n : ℕ). concat (lines_by nodes l n (4 * i))) z)

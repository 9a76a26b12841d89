-- Look-ups of entities and of fields, as the code does them. Assumes nothing.
use mathlib.Core.Path.{◌≡◌, refl, sym, ap, ◌∙◌}
use mathlib.Core.Bool.{Bool, true, false, not, cond, ◌||◌}
use mathlib.Core.Option.{Option, none, some}
use mathlib.Core.List.{List, [], ◌∷◌}
use Prim.Native.Nat.{ℕ, zero, suc, ◌+◌, ◌-◌, ◌*◌, ◌≤◌, ◌<◌}
use native.Mathlib.Numerals.{add-one}
use native.Mathlib.Omega.{arith}
use native.Mathlib.Decide.{dec_lt}
use borrow.Author.Tests.{eq-eqb, ne_eqb, eqb-true, eqb-false, not-true}
use lib.Dec.{eqb}
use lib.ListN.{length, get_or, take, drop, get_or-eq_default}
use types.Run.{OneOf, miss}
use denote.Enum.Declared.{tag_of}
use Rattle.value.specs.contracts.Shape.{the_type}
use Rattle.cedar.proofs.TableLaws.{same_row_true, same_row_refl}
use Rattle.cedar.specs.Rows.{Row, rbool, rlong, rtext, rent, rset, rrec, same_row}
use Rattle.cedar.specs.Numbered.{r_rec, entry_of}
use Rattle.words.specs.Log.{part}
use Rattle.words.proofs.Stores.{part_at}
use Rattle.sheet.specs.Bytes.{long_at}
use Rattle.sheet.specs.Forms.{tag, items, at, mark, first_value, VALUE, ENTITY}
use Rattle.sheet.specs.State.{value_row, entries_of}
use Rattle.sheet.specs.Content.{entity_line}
use Rattle.table.specs.Layout.{base, rows_of, held, lines_held, heap}
use Rattle.table.proofs.Rows.{count_rows, row_none, row_some, row_at_is}
use Rattle.value.specs.Lines.{value_lines}
use Rattle.value.specs.Shapes.{shape_of, shape_row, value_found}
use Rattle.value.specs.declared.Shape.{Shape}
use Rattle.value.specs.declared.Shape.TheVariants.{Bool as Boolˢ, Long, Text, Entity, Set, Record}
use Rattle.std.specs.Prelude.{Option as Maybe, Some, None}
use Rattle.value.proofs.Shaped.{shape_row_law}
use Rattle.value.proofs.Lists.{uncons, spent}
use Rattle.lookup.specs.Lookups.{value_in, state_in, text_there, is_entity_at, line_at, line_in, line_by, part_of, part_of_line, part_in, part_by, look_found, look_row, look_in, look_over, look_attr, look_by}
use Rattle.lookup.specs.declared.Part.{Part}
use Rattle.lookup.specs.declared.Part.TheVariants.{Known, Unknown}
use Rattle.lookup.specs.declared.Look.{Look}
use Rattle.lookup.specs.declared.Look.TheVariants.{At as Atˡ, Missing, Bad}
use Rattle.lookup.proofs.Shapes.{value_shape, other_record}

-- ---- an entity's line

pub not_same : (p q : Row) → (p ≡ q → ⊥) → false ≡ same_row p q
not_same p q n = go (same_row p q) refl
  where
    go : (b : Bool) → same_row p q ≡ b → false ≡ b
    go true e = absurd (n (same_row_true p q e))
    go false e = refl

no_entity : (s : Shape) (l : List ℕ) (k t : ℕ) → OneOf (0 ∷ 1 ∷ 2 ∷ 4 ∷ 5 ∷ []) (tag_of the_type s) → shape_row s l ≡ rent k t → ⊥
no_entity (Boolˢ b) l k t h e = let z : ◌≡◌ {A = ℕ} 0 1 = cc in omega arith
no_entity (Long w) l k t h e = let z : ◌≡◌ {A = ℕ} 0 1 = cc in omega arith
no_entity (Text u) l k t h e = let z : ◌≡◌ {A = ℕ} 0 1 = cc in omega arith
no_entity (Entity j u) l k t h e = miss (0 ∷ 1 ∷ 2 ∷ 4 ∷ 5 ∷ []) 3 tt h
no_entity Set l k t h e = let z : ◌≡◌ {A = ℕ} 0 1 = cc in omega arith
no_entity Record l k t h e = let z : ◌≡◌ {A = ℕ} 0 1 = cc in omega arith

-- ---- by the word of its text

module _ (a : List ℕ) (v t : ℕ) where
  pub text_free : t ≡ 0 → true ≡ text_there a v t
  unfolding text_there
  text_free h = sym (rw (eq-eqb t 0 h))

  pub text_read : (b s x : ℕ) → (b ≡ base VALUE) × (b < heap) → (t ≡ 0 → ⊥) → s ≡ get_or a (b + v) 0 → x ≡ get_or a (s + 2) 0 → eqb x t ≡ text_there a v t
  unfolding text_there
  text_read b s x hb n es ex = rw (ne_eqb t 0 n, ← hb.0, ← es, ← ex)

-- a word of the row from s to e
module _ (a : List ℕ) (s e : ℕ) where
  pub word_none : (j : ℕ) → e ≤ s + j → 0 ≡ get_or (part a s e) j 0
  word_none j h = sym (get_or-eq_default (part a s e) 0 (omega (arith, length_take_le' (e - s) (drop s a))))
    where
      length_take_le' : (n : ℕ) (l : List ℕ) → length (take n l) ≤ n
      length_take_le' zero l = omega arith
      length_take_le' (suc n) [] = omega arith
      length_take_le' (suc n) (x ∷ l) = omega (arith, length_take_le' n l)

  word_other : (t : ℕ) → (t ≡ 0 → ⊥) → (get_or a (s + 2) 0 ≡ t → ⊥) → get_or (part a s e) 2 0 ≡ t → ⊥
  word_other t n m z = go (dec_lt (s + 2) e)
    where
      go : Dec (s + 2 < e) → ⊥
      go (yes h) = m (sym (part_at a s e 2 (omega arith)) ∙ z)
      go (no h) = n (sym (word_none 2 (omega arith) ∙ z))

pub not_entity : (q : List ℕ) (k t : ℕ) → (get_or q 2 0 ≡ t → ⊥) → value_row q ≡ rent k t → ⊥
not_entity q k t n e = go (tag q - first_value) e
  where
    go : (j : ℕ) → get_or (rbool (eqb (at q 0) 1) ∷ rlong (long_at (at q 0 * 4294967296 + at q 1)) ∷ rtext (at q 0) ∷ rent (at q 0) (at q 1) ∷ rset (items q) ∷ rrec (entries_of (items q)) ∷ []) j (rbool false)
        ≡ rent k t → ⊥
    go zero z = let y : ◌≡◌ {A = ℕ} 0 1 = cc in omega arith
    go (suc zero) z = let y : ◌≡◌ {A = ℕ} 0 1 = cc in omega arith
    go (suc (suc zero)) z = let y : ◌≡◌ {A = ℕ} 0 1 = cc in omega arith
    go (suc (suc (suc zero))) z = n cc
    go (suc (suc (suc (suc zero)))) z = let y : ◌≡◌ {A = ℕ} 0 1 = cc in omega arith
    go (suc (suc (suc (suc (suc zero))))) z = let y : ◌≡◌ {A = ℕ} 0 1 = cc in omega arith
    go (suc (suc (suc (suc (suc (suc j)))))) z = let y : ◌≡◌ {A = ℕ} 0 1 = cc in omega arith

pub entity_far : (a : List ℕ) (v k t : ℕ) (b : Bool) → b ≡ text_there a v t → not b ≡ true → false ≡ is_entity_at a v k t
unfolding text_there is_entity_at
entity_far a v k t b eb f = not_same (value_row (get_or (rows_of a VALUE) v [])) (rent k t) (not_entity (get_or (rows_of a VALUE) v []) k t (other (dec_lt v (get_or a VALUE 0))))
  where
    far : (eqb t 0 || eqb (get_or a (get_or a (base VALUE + v) 0 + 2) 0) t) ≡ false
    far = sym eb ∙ not-true b f

    free : t ≡ 0 → ⊥
    free z = let y : ◌≡◌ {A = Bool} true false = sym (rw (eq-eqb t 0 z)) ∙ far in let w : ◌≡◌ {A = ℕ} 0 1 = cc in omega arith

    apart : get_or a (get_or a (base VALUE + v) 0 + 2) 0 ≡ t → ⊥
    apart z = let y : eqb (get_or a (get_or a (base VALUE + v) 0 + 2) 0) t ≡ false = or_right (eqb t 0) (eqb (get_or a (get_or a (base VALUE + v) 0 + 2) 0) t) far in eqb-false (get_or a (get_or a (base VALUE + v) 0 + 2) 0) t y z
      where
        or_right : (c d : Bool) → (c || d) ≡ false → d ≡ false
        or_right true d e = let w : ◌≡◌ {A = ℕ} 0 1 = cc in absurd (omega arith)
        or_right false d e = e

    other : Dec (v < get_or a VALUE 0) → get_or (get_or (rows_of a VALUE) v []) 2 0 ≡ t → ⊥
    other (yes h) z =
        word_other a (get_or a (base VALUE + v) 0) (get_or a (base VALUE + v + 1) 0) t free apart
        (ap (λ (l : List ℕ). get_or l 2 0) (row_some a VALUE v (get_or a VALUE 0) (base VALUE) (part a (get_or a (base VALUE + v) 0) (get_or a (base VALUE + v + 1) 0)) refl h refl (row_at_is a (base VALUE + v) (get_or a (base VALUE + v) 0) (get_or a (base VALUE + v + 1) 0) (part a (get_or a (base VALUE + v) 0) (get_or a (base VALUE + v + 1) 0)) refl refl refl)) ∙ z)
    other (no h) z = free (sym (ap (λ (l : List ℕ). get_or l 2 0) (row_none a VALUE v (get_or a VALUE 0) refl (omega arith)) ∙ z))

-- ---- by its row

module _ (a : List ℕ) (v : ℕ) (q : List ℕ) (s : Shape) (eq : q ≡ get_or (rows_of a VALUE) v []) (es : s ≡ shape_of q) where
  row_is : value_row (get_or (rows_of a VALUE) v []) ≡ shape_row s (items q)
  row_is = ap value_row (sym eq) ∙ shape_row_law q ∙ ap (λ (x : Shape). shape_row x (items q)) (sym es)

  pub entity_other : (k t : ℕ) → OneOf (0 ∷ 1 ∷ 2 ∷ 4 ∷ 5 ∷ []) (tag_of the_type s) → false ≡ is_entity_at a v k t
  unfolding is_entity_at
  entity_other k t h = not_same (shape_row s (items q)) (rent k t) (no_entity s (items q) k t h) ∙ ap (λ (x : Row). same_row x (rent k t)) (sym row_is)

  module _ (k t l u : ℕ) (e : s ≡ Entity l u) where
    entity_row : value_row (get_or (rows_of a VALUE) v []) ≡ rent l u
    entity_row = row_is ∙ ap (λ (x : Shape). shape_row x (items q)) e

    pub entity_kind : (l ≡ k → ⊥) → false ≡ is_entity_at a v k t
    unfolding is_entity_at
    entity_kind n = not_same (rent l u) (rent k t) (λ z. n cc) ∙ ap (λ (x : Row). same_row x (rent k t)) (sym entity_row)

    pub entity_text : l ≡ k → eqb u t ≡ is_entity_at a v k t
    unfolding is_entity_at
    entity_text p = go (eqb u t) refl ∙ ap (λ (x : Row). same_row x (rent k t)) (sym entity_row)
      where
        go : (b : Bool) → eqb u t ≡ b → b ≡ same_row (rent l u) (rent k t)
        go true z =
            let w : u ≡ t = eqb-true u t z in
            let y : rent l u ≡ rent k t = cc in
            sym (ap (λ (x : Row). same_row x (rent k t)) y ∙ same_row_refl (rent k t))
        go false z = not_same (rent l u) (rent k t) (λ w. let y : u ≡ t = cc in no_false z (eq-eqb u t y))
          where
            no_false : {b : Bool} → b ≡ false → b ≡ true → ⊥
            no_false f g = let m : ◌≡◌ {A = ℕ} 0 1 = cc in omega arith

-- from a line on
unfoldable pub entity_from : List ℕ → ℕ → ℕ → List (List ℕ) → Option (List ℕ)
entity_from a k t [] = none
entity_from a k t (r ∷ rs) = cond (is_entity_at a (at r 0) k t) (some r) (entity_from a k t rs)

entity_lines : (a : List ℕ) (k t : ℕ) (rs : List (List ℕ)) → entity_line (state_in a) (rent k t) rs ≡ entity_from a k t rs
unfolding entity_from is_entity_at state_in held lines_held
entity_lines a k t [] = refl
entity_lines a k t (r ∷ rs) = ap (λ (o : Option (List ℕ)). cond (same_row (value_row (get_or (rows_of a VALUE) (at r 0) [])) (rent k t)) (some r) o) (entity_lines a k t rs)

line_from : (a : List ℕ) (k t : ℕ) → line_in a k t ≡ entity_from a k t (rows_of a ENTITY)
unfolding line_in state_in held lines_held
line_from a k t = entity_lines a k t (rows_of a ENTITY)

pub record Seeking (a : List ℕ) (k t n i : ℕ) : Type 0 where
  pub all : n ≡ get_or a ENTITY 0
  pub near : i ≤ n
  pub left : line_in a k t ≡ entity_from a k t (drop i (rows_of a ENTITY))

pub seek_start : (a : List ℕ) (k t n : ℕ) → n ≡ get_or a ENTITY 0 → Seeking a k t n 0
seek_start a k t n e = record { all = e; near = omega arith; left = line_from a k t }

module _ (a : List ℕ) (k t n i : ℕ) (g : Seeking a k t n i) where
  pub seek_end : n ≤ i → line_at (rows_of a ENTITY) None ≡ line_in a k t
  unfolding entity_from
  seek_end h = sym (g.left ∙ ap (entity_from a k t) (spent (rows_of a ENTITY) i (omega (arith, g.all, count_rows a ENTITY))))

  module _ (h : i < n) (r : List ℕ) (er : r ≡ get_or (rows_of a ENTITY) i []) (x : ℕ) (ex : x ≡ get_or r 1 0) (b : Bool) (eb : b ≡ is_entity_at a x k t) where
    at_line_law : entity_from a k t (drop i (rows_of a ENTITY)) ≡ cond b (some r) (entity_from a k t (drop (i + 1) (rows_of a ENTITY)))
    unfolding entity_from
    at_line_law = rw (uncons (rows_of a ENTITY) [] i (omega (arith, g.all, count_rows a ENTITY)), ← er, ← ex, ← eb)

    pub seek_hit : b ≡ true → line_at (rows_of a ENTITY) (Some i) ≡ line_in a k t
    seek_hit z = sym (g.left ∙ at_line_law ∙ rw (z, er))

    pub seek_on : b ≡ false → Seeking a k t n (i + 1)
    seek_on z = record { all = g.all; near = omega arith; left = g.left ∙ at_line_law ∙ rw z }

-- the same, with where the next line begins
pub record Walking (a : List ℕ) (k t n i s : ℕ) : Type 0 where
  pub seeking : Seeking a k t n i
  pub start : s ≡ get_or a (base ENTITY + i) 0

pub walk_start : (a : List ℕ) (k t n b s : ℕ) → n ≡ get_or a ENTITY 0 → (b ≡ base ENTITY) × (b < heap) → s ≡ get_or a b 0 → Walking a k t n 0 s
walk_start a k t n b s en hb es =
    let z : b ≡ base ENTITY + 0 = omega (arith, hb.0) in
    record { seeking = seek_start a k t n en; start = es ∙ ap (λ (j : ℕ). get_or a j 0) z }

module _ (a : List ℕ) (k t n i s : ℕ) (g : Walking a k t n i s) where
  pub walk_end : n ≤ i → line_at (rows_of a ENTITY) None ≡ line_in a k t
  walk_end = seek_end a k t n i g.seeking

  module _ (h : i < n) (b e x : ℕ) (c : Bool) (hb : (b ≡ base ENTITY) × (b < heap)) (ee : e ≡ get_or a (b + i + 1) 0) (ex : x ≡ get_or (part a s e) 1 0) (ec : c ≡ is_entity_at a x k t) where
    next : e ≡ get_or a (base ENTITY + i + 1) 0
    next = ee ∙ ap (λ (j : ℕ). get_or a (j + i + 1) 0) hb.0

    line_here : part a s e ≡ get_or (rows_of a ENTITY) i []
    line_here = row_some a ENTITY i n (base ENTITY) (part a s e) g.seeking.all h refl (row_at_is a (base ENTITY + i) s e (part a s e) g.start next refl)

    pub walk_hit : c ≡ true → line_at (rows_of a ENTITY) (Some i) ≡ line_in a k t
    walk_hit = seek_hit a k t n i g.seeking h (part a s e) line_here x ex c ec

    pub walk_on : c ≡ false → Walking a k t n (i + 1) e
    walk_on z =
        let y : base ENTITY + i + 1 ≡ base ENTITY + (i + 1) = omega arith in
        record { seeking = seek_on a k t n i g.seeking h (part a s e) line_here x ex c ec z; start = next ∙ ap (λ (j : ℕ). get_or a j 0) y }

-- ---- a part of a line

module _ (c : Bool) (a : List ℕ) (j : ℕ) (e : Maybe ℕ) where
  module _ (i : ℕ) (z : e ≡ Some i) (r : List ℕ) (er : r ≡ get_or (rows_of a ENTITY) i []) (x : ℕ) (ex : x ≡ get_or r (j + 1) 0) where
    part_item : part_of_line c (line_at (rows_of a ENTITY) e) j ≡ cond (eqb x mark) none (some (some x))
    part_item =
        let w : x ≡ at (get_or (rows_of a ENTITY) i []) j = ex ∙ ap (λ (m : ℕ). get_or r m 0) (add-one j) ∙ ap (λ (l : List ℕ). at l j) er in
        ap (λ (o : Maybe ℕ). part_of_line c (line_at (rows_of a ENTITY) o) j) z ∙ rw (← w)

    pub part_unknown : x ≡ mark → part_of Unknown ≡ part_of_line c (line_at (rows_of a ENTITY) e) j
    part_unknown y = sym (part_item ∙ rw (eq-eqb x mark y))

    pub part_known : (x ≡ mark → ⊥) → part_of (Known x) ≡ part_of_line c (line_at (rows_of a ENTITY) e) j
    part_known y = sym (part_item ∙ rw (ne_eqb x mark y))

pub part_line : (c : Bool) (a : List ℕ) (k t j : ℕ) (e : Maybe ℕ) (p : Part) → line_at (rows_of a ENTITY) e ≡ line_in a k t → part_of p ≡ part_of_line c (line_at (rows_of a ENTITY) e) j → part_of p ≡ part_in c a k t j
unfolding part_in
part_line c a k t j e p el ep = ep ∙ ap (λ (o : Option (List ℕ)). part_of_line c o j) el

pub part_by_law : (c : Bool) (a : List ℕ) (v k t j : ℕ) (e : Maybe ℕ) (p : Part) → line_at (rows_of a ENTITY) e ≡ line_by a v k t → part_of p ≡ part_of_line c (line_at (rows_of a ENTITY) e) j → part_of p ≡ part_by c a v k t j
unfolding part_by
part_by_law c a v k t j e p el ep = ep ∙ ap (λ (o : Option (List ℕ)). part_of_line c o j) el

-- ---- a text in a record

module _ (a : List ℕ) (v : ℕ) (q : List ℕ) (s : Shape) (eq : q ≡ get_or (value_lines a) v []) (es : s ≡ shape_of q) (u : ℕ) where
  pub look_bad : OneOf (0 ∷ 1 ∷ 2 ∷ 3 ∷ 4 ∷ []) (tag_of the_type s) → Bad ≡ look_row (value_in a v) u
  unfolding look_row
  look_bad h = rw (value_shape a v q s eq es) (sym (other_record Bad (items q) s (λ e. look_found (entry_of u e)) h))

  module _ (z : s ≡ Record) (l : List ℕ) (el : l ≡ items q) (e : Maybe ℕ) (ee : value_found e ≡ entry_of u (entries_of l)) where
    look_row_law : look_row (value_in a v) u ≡ look_found (entry_of u (entries_of l))
    unfolding look_row
    look_row_law = rw (value_shape a v q s eq es, z, el)

    pub look_missing : e ≡ None → Missing ≡ look_row (value_in a v) u
    look_missing y = sym (look_row_law ∙ ap look_found (sym ee ∙ ap value_found y))

    pub look_found_law : (x : ℕ) → e ≡ Some x → Atˡ x ≡ look_row (value_in a v) u
    look_found_law x y = sym (look_row_law ∙ ap look_found (sym ee ∙ ap value_found y))

  -- or among the attributes of an entity, which p gives
  over_other : (p : ℕ → ℕ → Option (Option ℕ)) (r : Look) → OneOf (0 ∷ 1 ∷ 2 ∷ 4 ∷ 5 ∷ []) (tag_of the_type s) → r ≡ look_row (value_in a v) u → r ≡ look_over p a (value_in a v) u
  unfolding look_row
  over_other p r h e = e ∙ rw (value_shape a v q s eq es) (go s h)
    where
      go : (x : Shape) → OneOf (0 ∷ 1 ∷ 2 ∷ 4 ∷ 5 ∷ []) (tag_of the_type x) → r_rec Bad (shape_row x (items q)) (λ m. look_found (entry_of u m)) ≡ look_over p a (shape_row x (items q)) u
      go (Boolˢ b) y = refl
      go (Long w) y = refl
      go (Text t) y = refl
      go (Entity k t) y = absurd (miss (0 ∷ 1 ∷ 2 ∷ 4 ∷ 5 ∷ []) 3 tt y)
      go Set y = refl
      go Record y = refl

  over_entity : (p : ℕ → ℕ → Option (Option ℕ)) (k t : ℕ) (o : Option (Option ℕ)) (r : Look) → s ≡ Entity k t → o ≡ p k t → r ≡ look_in a k o u → r ≡ look_over p a (value_in a v) u
  over_entity p k t o r z ep e = e ∙ ap (λ (x : Option (Option ℕ)). look_in a k x u) ep ∙ rw (value_shape a v q s eq es, z)

  pub attr_other : (c : Bool) (r : Look) → OneOf (0 ∷ 1 ∷ 2 ∷ 4 ∷ 5 ∷ []) (tag_of the_type s) → r ≡ look_row (value_in a v) u → r ≡ look_attr c a v u
  unfolding look_attr
  attr_other c r h e = over_other (λ k t. part_in c a k t 1) r h e

  pub attr_entity : (c : Bool) (k t : ℕ) (p : Part) (r : Look) → s ≡ Entity k t → part_of p ≡ part_in c a k t 1 → r ≡ look_in a k (part_of p) u → r ≡ look_attr c a v u
  unfolding look_attr
  attr_entity c k t p r z ep e = over_entity (λ i j. part_in c a i j 1) k t (part_of p) r z ep e

  pub by_other : (c : Bool) (r : Look) → OneOf (0 ∷ 1 ∷ 2 ∷ 4 ∷ 5 ∷ []) (tag_of the_type s) → r ≡ look_row (value_in a v) u → r ≡ look_by c a v u
  unfolding look_by
  by_other c r h e = over_other (λ k t. part_by c a v k t 1) r h e

  pub by_entity : (c : Bool) (k t : ℕ) (p : Part) (r : Look) → s ≡ Entity k t → part_of p ≡ part_by c a v k t 1 → r ≡ look_in a k (part_of p) u → r ≡ look_by c a v u
  unfolding look_by
  by_entity c k t p r z ep e = over_entity (λ i j. part_by c a v i j 1) k t (part_of p) r z ep e

module _ (a : List ℕ) (k u : ℕ) (p : Part) where
  pub look_known : (n : ℕ) (r : Look) → p ≡ Known n → r ≡ look_row (value_in a n) u → r ≡ look_in a k (part_of p) u
  look_known n r e h = rw e h

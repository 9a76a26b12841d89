-- Attributes of entities, as the code notes them in cells and follows them. Assumes nothing.
use mathlib.Core.Path.{◌≡◌, refl, sym, ap, subst, ◌∙◌}
use mathlib.Core.Bool.{Bool, true, false}
use mathlib.Core.List.{List, [], ◌∷◌}
use Prim.Native.Nat.{ℕ, zero, suc, ◌+◌, ◌/◌, ◌≤◌, ◌<◌}
use native.Mathlib.Numerals.{add-one}
use native.Mathlib.Omega.{arith}
use native.Mathlib.Decide.{dec_lt}
use borrow.Author.Tests.{eq-eqb, ne_eqb, eqb-true, eqb-false}
use lib.Dec.{eqb}
use lib.ListN.{length, get_or, drop, set, replicate, length-set}
use lib.Seq.{get_or-set_same, get_or-set_other}
use types.Run.{OneOf}
use denote.Enum.Declared.{tag_of}
use Rattle.std.specs.Prelude.{Some}
use Rattle.std.specs.Simd.{first_chunks}
use Rattle.value.specs.contracts.Shape.{the_type}
use Rattle.cedar.specs.Rows.{rbool, rent, same_row}
use Rattle.words.specs.Log.{part}
use Rattle.sheet.specs.Forms.{items, at, mark, VALUE, ENTITY}
use Rattle.sheet.specs.State.{value_row}
use Rattle.table.specs.Layout.{base, heap, rows_of}
use Rattle.table.proofs.Rows.{count_rows, row_none, row_some, row_at_is}
use Rattle.value.specs.Lines.{value_lines}
use Rattle.value.specs.Shapes.{shape_of}
use Rattle.value.specs.declared.Shape.{Shape}
use Rattle.value.specs.declared.Shape.TheVariants.{Entity, Record}
use Rattle.value.proofs.Shaped.{row_given}
use Rattle.value.proofs.Lists.{entry_among, entry_hit, entry_on, entry_pairs}
use Rattle.lookup.specs.Lookups.{value_in, is_entity_at, line_at, line_in, part_of, part_in, look_row, look_attr}
use Rattle.firsts.specs.Firsts.{Tells, Firsts, Kept, KeptAll, Sourced, Entered}
use Rattle.firsts.specs.declared.Cell.{Cell}
use Rattle.firsts.specs.declared.TheConstants.{BLANK}
use Rattle.cedar.specs.Numbered.{entry_of}
use Rattle.sheet.specs.State.{entries_of}
use mathlib.Core.Option.{some}
use Rattle.lookup.specs.declared.Look.TheVariants.{At as Atˡ}
use Rattle.lookup.specs.declared.Part.TheVariants.{Known}
use Rattle.lookup.proofs.Finds.{not_same, entity_other, entity_kind, entity_text, Seeking, seek_start, seek_hit, seek_on, part_known, part_line, look_found_law, attr_entity}

-- ---- cells

blank : (n h : ℕ) → get_or (replicate n BLANK) h BLANK ≡ BLANK
blank zero h = refl
blank (suc n) zero = refl
blank (suc n) (suc h) = blank n h

tells_none : (a : List ℕ) → Tells a BLANK
tells_none a = record { is = λ c u e. absurd (omega (arith, e)) }

pub firsts_none : (a : List ℕ) (n : ℕ) → Firsts a (replicate n BLANK)
firsts_none a n = record { is = λ h. subst (Tells a) (sym (blank n h)) (tells_none a) }

-- ---- one attribute noted

pub kept_none : (v t x : ℕ) (cells : List Cell) → Kept v t x cells cells
kept_none v t x cells = record { is = λ a g f. g }

abbrev pub cell_with : ℕ → ℕ → ℕ → Cell
cell_with v t x = record { owner = v; text = t + 1; next = x }

-- ---- those of a record

-- the texts of the pairs before number i are below `low`, and those pairs are noted
pub record Keeping (l : List ℕ) (s : List (List ℕ)) (v : ℕ) (cells₀ cells : List Cell) (low i : ℕ) : Type 0 where
  pub left : (u : ℕ) → low ≤ u → entry_among u s ≡ entry_among u (drop i s)
  pub kept : KeptAll l v cells₀ cells

pub keeping_on : (l : List ℕ) (s : List (List ℕ)) (v : ℕ) (cells₀ cells : List Cell) (low i : ℕ) → Keeping l s v cells₀ cells low i → s ≡ first_chunks 2 (length l / 2) l → i < length s
    → (d : List ℕ) → low ≤ get_or (get_or s i d) 0 0 → (cells' : List Cell) → Kept v (get_or (get_or s i d) 0 0) (get_or (get_or s i d) 1 0) cells cells' → Keeping l s v cells₀ cells' (get_or (get_or s i d) 0 0 + 1) (i + 1)
keeping_on l s v cells₀ cells low i g es h d m cells' k = record {
  left = λ u y. entry_on u s i (g.left u (omega (arith, y, m))) d h (λ e. omega (arith, e, y));
  kept = record { is = λ a f e. k.is a (g.kept.is a f e) (λ c. e (get_or (get_or s i d) 0 0) (get_or (get_or s i d) 1 0) found c) };
}
  where
    found : entry_of (get_or (get_or s i d) 0 0) (entries_of l) ≡ some (get_or (get_or s i d) 1 0)
    found =
        sym (entry_hit (get_or (get_or s i d) 0 0) s i (g.left (get_or (get_or s i d) 0 0) m) d h refl ∙ ap (entry_among (get_or (get_or s i d) 0 0)) es
        ∙ entry_pairs (get_or (get_or s i d) 0 0) (length l / 2) l refl)

module _ (a : List ℕ) (v m : ℕ) (cells : List Cell) where
  pub sourced_all : (cells' : List Cell) (q : List ℕ) (s : Shape) (l : List ℕ) → q ≡ get_or (value_lines a) m [] → s ≡ shape_of q → s ≡ Record → l ≡ items q → (m ≡ mark → ⊥) → KeptAll l v cells cells' → Sourced a v m cells cells'
  sourced_all cells' q s l eq es z el n p = record { is = λ g f. p.is a g (λ u x e c. f n c u x (look_found_law a m q s eq es u z l el (Some x) (sym e) x refl)) }

-- ---- one more line

no_row : (k t : ℕ) → rbool false ≡ rent k t → ⊥
no_row k t e = let y : ◌≡◌ {A = ℕ} 0 1 = cc in omega arith

pub enter_start : (a seen : List ℕ) (cells : List Cell) → Firsts a cells → Entered a 0 seen cells
enter_start a seen cells g = record { unseen = λ k t j l z m. absurd (omega (arith, m)); noted = g }

module _ (a : List ℕ) (i : ℕ) (seen : List ℕ) (cells : List Cell) (near : i < length (rows_of a ENTITY)) (g : Entered a i seen cells) (r : List ℕ) (er : r ≡ get_or (rows_of a ENTITY) i []) (v : ℕ) (ev : v ≡ get_or r 1 0) where
  -- a text that has 0 in `seen'` had it before, and is another one
  enter_more : (seen' : List ℕ) (cells' : List Cell) → Firsts a cells' → ((k t : ℕ) → t < length seen' → get_or seen' t 0 ≡ 0 → (t < length seen) × (get_or seen t 0 ≡ 0)) → ((k t : ℕ) → t < length seen' → get_or seen' t 0 ≡ 0 → is_entity_at a v k t ≡ false)
      → Entered a (i + 1) seen' cells'
  enter_more seen' cells' f before other = record { unseen = λ k t j l z m. go k t j l z m (dec_lt j i); noted = f }
    where
      go : (k t j : ℕ) → t < length seen' → get_or seen' t 0 ≡ 0 → j < i + 1 → Dec (j < i) → is_entity_at a (at (get_or (rows_of a ENTITY) j []) 0) k t ≡ false
      go k t j l z m (yes h) = g.unseen k t j (before k t l z).0 (before k t l z).1 h
      go k t j l z m (no h) =
          let y : j ≡ i = omega (arith, m, h) in
          ap (λ (x : ℕ). is_entity_at a (at (get_or (rows_of a ENTITY) x []) 0) k t) y
          ∙ ap (λ (x : List ℕ). is_entity_at a (at x 0) k t) (sym er)
          ∙ ap (λ (x : ℕ). is_entity_at a x k t) (sym ev)
          ∙ other k t l z

  skipped : ((k t : ℕ) → t < length seen → get_or seen t 0 ≡ 0 → is_entity_at a v k t ≡ false) → Entered a (i + 1) seen cells
  skipped other = enter_more seen cells g.noted (λ k t l z. (l, z)) other

  pub enter_past : (n : ℕ) → n ≡ get_or a VALUE 0 → n ≤ v → Entered a (i + 1) seen cells
  unfolding is_entity_at
  enter_past n en h = skipped (λ k t l z. ap (λ (x : List ℕ). same_row (value_row x) (rent k t)) (sym (row_none a VALUE v n en h)) ∙ sym (not_same (rbool false) (rent k t) (no_row k t)))

  module _ (q : List ℕ) (s : Shape) (eq : q ≡ get_or (rows_of a VALUE) v []) (es : s ≡ shape_of q) where
    pub enter_other : OneOf (0 ∷ 1 ∷ 2 ∷ 4 ∷ 5 ∷ []) (tag_of the_type s) → Entered a (i + 1) seen cells
    enter_other h = skipped (λ k t l z. sym (entity_other a v q s eq es k t h))

    module _ (k t : ℕ) (z : s ≡ Entity k t) where
      other_text : (j u : ℕ) → (t ≡ u → ⊥) → is_entity_at a v j u ≡ false
      other_text j u n = go (eqb k j) refl
        where
          go : (b : Bool) → eqb k j ≡ b → is_entity_at a v j u ≡ false
          go true e = sym (entity_text a v q s eq es j u k t z (eqb-true k j e)) ∙ ne_eqb t u n
          go false e = sym (entity_kind a v q s eq es j u k t z (eqb-false k j e))

      pub enter_far : length seen ≤ t → Entered a (i + 1) seen cells
      enter_far h = skipped (λ j u l y. other_text j u (λ w. omega (arith, w, l, h)))

      pub enter_seen : (x : ℕ) → x ≡ get_or seen t 0 → (x ≡ 0 → ⊥) → Entered a (i + 1) seen cells
      enter_seen x ex n = skipped (λ j u l y. other_text j u (λ w. n (ex ∙ ap (λ (p : ℕ). get_or seen p 0) w ∙ y)))

      module _ (h : t < length seen) (x : ℕ) (ex : x ≡ get_or seen t 0) (free : x ≡ 0) where
        seek_to : (m : ℕ) → m ≤ i → Seeking a k t (get_or a ENTITY 0) m
        seek_to zero l = seek_start a k t (get_or a ENTITY 0) refl
        seek_to (suc m) l = rw (← (add-one m)) (seek_on a k t (get_or a ENTITY 0) m (seek_to m (omega (arith, l))) (omega (arith, l, near, count_rows a ENTITY)) (get_or (rows_of a ENTITY) m []) refl (at (get_or (rows_of a ENTITY) m []) 0) refl false (sym (g.unseen k t m h (sym ex ∙ free) (omega (arith, l)))) refl)

        line : line_at (rows_of a ENTITY) (Some i) ≡ line_in a k t
        line = seek_hit a k t (get_or a ENTITY 0) i (seek_to i (omega arith)) (omega (arith, near, count_rows a ENTITY)) r er v ev true (sym (eq-eqb t t refl) ∙ entity_text a v q s eq es k t k t z refl) refl

        pub enter_new : (n m : ℕ) (seen' : List ℕ) (cells' : List Cell) → n ≡ get_or a VALUE 0 → v < n → seen' ≡ set seen t 1 → m ≡ get_or r 2 0 → Sourced a v m cells cells' → Entered a (i + 1) seen' cells'
        enter_new n m seen' cells' en l eseen em p = enter_more seen' cells' (p.is g.noted leads) (λ j u y f. (omega (arith, y, long), before u y f (eqb u t) refl)) (λ j u y f. other_text j u (λ w. apart u w f))
          where
            long : length seen' ≡ length seen
            long = ap length eseen ∙ length-set seen t 1

            here : get_or seen' t 0 ≡ 1
            here = ap (λ (w : List ℕ). get_or w t 0) eseen ∙ get_or-set_same seen t 1 0 h

            apart : (u : ℕ) → t ≡ u → get_or seen' u 0 ≡ 0 → ⊥
            apart u w f =
                let y : get_or seen' t 0 ≡ 0 = ap (λ (j : ℕ). get_or seen' j 0) w ∙ f in
                omega (arith, here, y)

            before : (u : ℕ) → u < length seen' → get_or seen' u 0 ≡ 0 → (b : Bool) → eqb u t ≡ b → get_or seen u 0 ≡ 0
            before u y f true e = absurd (apart u (sym (eqb-true u t e)) f)
            before u y f false e = sym (ap (λ (w : List ℕ). get_or w u 0) eseen ∙ get_or-set_other seen t u 1 0 (eqb-false u t e)) ∙ f

            known : (c : Bool) → (m ≡ mark → ⊥) → part_of (Known m) ≡ part_in c a k t 1
            known c y = part_line c a k t 1 (Some i) (Known m) line (part_known c a 1 (Some i) i refl r er m em y)

            leads : (m ≡ mark → ⊥) → (c : Bool) (u w : ℕ) → Atˡ w ≡ look_row (value_in a m) u → Atˡ w ≡ look_attr c a v u
            leads y c u w e = attr_entity a v q s (row_given a n en v q l eq) es u c k t (Known m) (Atˡ w) z (known c y) e

pub enter_last : (a : List ℕ) (i : ℕ) (seen : List ℕ) (cells : List Cell) → i < length (rows_of a ENTITY) → Entered a i seen cells → (r : List ℕ) → r ≡ get_or (rows_of a ENTITY) i [] → (v : ℕ) → v ≡ get_or r 1 0 → (q : List ℕ) (s : Shape) → q ≡ get_or (rows_of a VALUE) v [] → s ≡ shape_of q
    → (t x : ℕ) → t < length seen → x ≡ get_or seen t 0 → x ≡ 0 → (n m : ℕ) (seen' : List ℕ) (cells' : List Cell) → n ≡ get_or a VALUE 0 → v < n → seen' ≡ set seen t 1 → m ≡ get_or r 2 0 → Sourced a v m cells cells' → (k : ℕ) → s ≡ Entity k t → Entered a (i + 1) seen' cells'
enter_last a i seen cells near g r er v ev q s eq es t x h ex free n m seen' cells' en l eseen em p k z = enter_new a i seen cells near g r er v ev q s eq es k t z h x ex free n m seen' cells' en l eseen em p

-- ---- all lines

pub record Entering (a seen : List ℕ) (cells : List Cell) (n i s : ℕ) : Type 0 where
  pub all : n ≡ get_or a ENTITY 0
  pub start : s ≡ get_or a (base ENTITY + i) 0
  pub entered : Entered a i seen cells

pub entering_start : (a seen : List ℕ) (cells : List Cell) (n b s : ℕ) → n ≡ get_or a ENTITY 0 → (b ≡ base ENTITY) × (b < heap) → s ≡ get_or a b 0 → Firsts a cells → Entering a seen cells n 0 s
entering_start a seen cells n b s en hb es g =
    let z : b ≡ base ENTITY + 0 = omega (arith, hb.0) in
    record { all = en; start = es ∙ ap (λ (j : ℕ). get_or a j 0) z; entered = enter_start a seen cells g }

module _ (a seen : List ℕ) (cells : List Cell) (n i s : ℕ) (g : Entering a seen cells n i s) where
  pub entering_near : i < n → i < length (rows_of a ENTITY)
  entering_near h = omega (arith, h, g.all, count_rows a ENTITY)

  module _ (b e : ℕ) (hb : (b ≡ base ENTITY) × (b < heap)) (ee : e ≡ get_or a (b + i + 1) 0) where
    next : e ≡ get_or a (base ENTITY + i + 1) 0
    next = ee ∙ ap (λ (j : ℕ). get_or a (j + i + 1) 0) hb.0

    pub entering_line : i < n → (l : List ℕ) → l ≡ part a s e → l ≡ get_or (rows_of a ENTITY) i []
    entering_line h l el = el ∙ row_some a ENTITY i n (base ENTITY) (part a s e) g.all h refl (row_at_is a (base ENTITY + i) s e (part a s e) g.start next refl)

    pub entering_on : (seen' : List ℕ) (cells' : List Cell) → Entered a (i + 1) seen' cells'
        → Entering a seen' cells' n (i + 1) e
    entering_on seen' cells' f =
        let y : base ENTITY + i + 1 ≡ base ENTITY + (i + 1) = omega arith in
        record { all = g.all; start = next ∙ ap (λ (j : ℕ). get_or a j 0) y; entered = f }

  pub entering_end : Firsts a cells
  entering_end = g.entered.noted

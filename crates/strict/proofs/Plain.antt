-- The operations that look at no entity, as the code does them. Assumes nothing.
use mathlib.Core.Path.{◌≡◌, refl, sym, ap, ◌∙◌}
use mathlib.Core.Bool.{Bool, true, false, not, cond}
use mathlib.Core.Option.{none, some}
use mathlib.Core.List.{List, [], ◌∷◌}
use Prim.Native.Nat.{ℕ, suc}
use native.Mathlib.Omega.{arith}
use borrow.Author.Tests.{ne_eqb}
use lib.Dec.{eqb}
use lib.ListN.{get_or, length}
use lib.IntN.{ℤ, neg_ℤ, ◌+ℤ◌, ◌-ℤ◌, ◌*ℤ◌}
use lib.Signed.{lt_z, le_z}
use types.Run.{OneOf}
use denote.Enum.Declared.{tag_of}
use Rattle.value.specs.contracts.Shape.{the_type}
use Rattle.cedar.specs.Evaluate.{matches, is_nil, in_range}
use Rattle.cedar.specs.Numbered.{r_long, r_set, truly, nlong, fails, give, made, mem_n, all_n, any_n, NOut}
use Rattle.cedar.specs.Rows.{rlong}
use Rattle.forms.specs.Tags.{LT, LE, ADD, SUB}
use Rattle.sheet.specs.Bytes.{long_at}
use Rattle.sheet.specs.Forms.{items}
use Rattle.sheet.specs.Content.{pattern_of}
use Rattle.table.specs.Layout.{text_at}
use Rattle.long.specs.Ranged.{number_of, ranged}
use Rattle.std.specs.Prelude.{Option}
use Rattle.value.specs.Lines.{value_lines}
use Rattle.value.specs.Shapes.{shape_of}
use Rattle.value.specs.declared.Shape.{Shape}
use Rattle.value.specs.declared.Shape.TheVariants.{Bool as Boolˢ, Long, Text, Entity, Set}
use Rattle.strict.specs.Gives.{out_of, long_out, longs_out, not_out, neg_out, empty_out, is_out, like_out, arith_out, contains_out, all_out, any_out}
use Rattle.lookup.specs.Lookups.{value_in}
use Rattle.strict.specs.declared.Given.{Given}
use Rattle.strict.specs.declared.Given.TheVariants.{Bool as Boolᵍ, Fails}
use Rattle.lookup.proofs.Shapes.{value_shape, other_bool, other_long, other_text, other_entity, other_set}

-- ---- longs in range

pub in_range_law : (z : ℤ) → long_out (ranged z) ≡ nlong z
unfolding ranged
in_range_law z = go (in_range z)
  where
    go : (b : Bool) → long_out (cond b (some z) none) ≡ cond b (give (made (rlong z))) fails
    go true = refl
    go false = refl

pub arith_out_law : (g : Given) (c : Option ℕ) (z : ℤ) → number_of c ≡ ranged z → out_of g ≡ long_out (number_of c) → out_of g ≡ nlong z
arith_out_law g c z e h = h ∙ ap long_out e ∙ in_range_law z

module _ (op x y : ℕ) where
  pub arith_lt : (b : Bool) → op ≡ LT → b ≡ lt_z (long_at x) (long_at y) → out_of (Boolᵍ b) ≡ longs_out op (long_at x) (long_at y)
  unfolding longs_out
  arith_lt b e h = rw (e, h)

  pub arith_le : (b : Bool) → op ≡ LE → b ≡ le_z (long_at x) (long_at y) → out_of (Boolᵍ b) ≡ longs_out op (long_at x) (long_at y)
  unfolding longs_out
  arith_le b e h = rw (e, h)

  pub arith_add : (g : Given) (c : Option ℕ) → op ≡ ADD → number_of c ≡ ranged (long_at x +ℤ long_at y) → out_of g ≡ long_out (number_of c) → out_of g ≡ longs_out op (long_at x) (long_at y)
  unfolding longs_out
  arith_add g c e p h = rw e (arith_out_law g c (long_at x +ℤ long_at y) p h)

  pub arith_sub : (g : Given) (c : Option ℕ) → op ≡ SUB → number_of c ≡ ranged (long_at x -ℤ long_at y) → out_of g ≡ long_out (number_of c) → out_of g ≡ longs_out op (long_at x) (long_at y)
  unfolding longs_out
  arith_sub g c e p h = rw e (arith_out_law g c (long_at x -ℤ long_at y) p h)

  pub arith_mul : (g : Given) (c : Option ℕ) → (op ≡ LT → ⊥) → (op ≡ LE → ⊥) → (op ≡ ADD → ⊥) → (op ≡ SUB → ⊥)
      → number_of c ≡ ranged (long_at x *ℤ long_at y) → out_of g ≡ long_out (number_of c) → out_of g ≡ longs_out op (long_at x) (long_at y)
  unfolding longs_out
  arith_mul g c i j k l p h = rw (ne_eqb op LT i, ne_eqb op LE j, ne_eqb op ADD k, ne_eqb op SUB l) (arith_out_law g c (long_at x *ℤ long_at y) p h)

nil_length : (l : List ℕ) → eqb (length l) 0 ≡ is_nil l
nil_length [] = refl
nil_length (x ∷ l) = ne_eqb (suc (length l)) 0 (λ e. omega arith)

-- ---- one operand

module _ (a : List ℕ) (v : ℕ) (q : List ℕ) (s : Shape) (eq : q ≡ get_or (value_lines a) v []) (es : s ≡ shape_of q) where
  pub not_is : (b : Bool) → s ≡ Boolˢ b → out_of (Boolᵍ (not b)) ≡ not_out (value_in a v)
  unfolding not_out
  not_is b e = rw (value_shape a v q s eq es, e)

  pub not_other : OneOf (1 ∷ 2 ∷ 3 ∷ 4 ∷ 5 ∷ []) (tag_of the_type s) → out_of Fails ≡ not_out (value_in a v)
  unfolding not_out
  not_other h = rw (value_shape a v q s eq es) (sym (other_bool fails (items q) s (λ c. truly (not c)) h))

  pub neg_is : (x : ℕ) (g : Given) (c : Option ℕ) → s ≡ Long x → number_of c ≡ ranged (neg_ℤ (long_at x)) → out_of g ≡ long_out (number_of c) → out_of g ≡ neg_out (value_in a v)
  unfolding neg_out
  neg_is x g c e p h = rw (value_shape a v q s eq es, e) (arith_out_law g c (neg_ℤ (long_at x)) p h)

  pub neg_other : OneOf (0 ∷ 2 ∷ 3 ∷ 4 ∷ 5 ∷ []) (tag_of the_type s) → out_of Fails ≡ neg_out (value_in a v)
  unfolding neg_out
  neg_other h = rw (value_shape a v q s eq es) (sym (other_long fails (items q) s (λ n. nlong (neg_ℤ n)) h))

  pub empty_is : (l : List ℕ) → s ≡ Set → l ≡ items q → out_of (Boolᵍ (eqb (length l) 0)) ≡ empty_out (value_in a v)
  unfolding empty_out
  empty_is l e h = rw (value_shape a v q s eq es, e, ← h, nil_length l)

  pub empty_other : OneOf (0 ∷ 1 ∷ 2 ∷ 3 ∷ 5 ∷ []) (tag_of the_type s) → out_of Fails ≡ empty_out (value_in a v)
  unfolding empty_out
  empty_other h = rw (value_shape a v q s eq es) (sym (other_set fails (items q) s (λ m. truly (is_nil m)) h))

  pub is_is : (k l t : ℕ) → s ≡ Entity l t → out_of (Boolᵍ (eqb k l)) ≡ is_out k (value_in a v)
  unfolding is_out
  is_is k l t e = rw (value_shape a v q s eq es, e)

  pub is_other : (k : ℕ) → OneOf (0 ∷ 1 ∷ 2 ∷ 4 ∷ 5 ∷ []) (tag_of the_type s) → out_of Fails ≡ is_out k (value_in a v)
  unfolding is_out
  is_other k h = rw (value_shape a v q s eq es) (sym (other_entity fails (items q) s (λ m u. truly (eqb k m)) h))

  module _ (sheet pattern : List ℕ) where
    abbrev liked : ℕ → NOut
    liked t = truly (matches (text_at sheet a) (pattern_of pattern) (text_at sheet a t))

    pub like_is : (t : ℕ) (w : List ℕ) (b : Bool) → s ≡ Text t → w ≡ text_at sheet a t → b ≡ matches (text_at sheet a) (pattern_of pattern) w
        → out_of (Boolᵍ b) ≡ like_out (text_at sheet a) pattern (value_in a v)
    unfolding like_out
    like_is t w b e h p = rw (value_shape a v q s eq es, e, p, h)

    pub like_other : OneOf (0 ∷ 1 ∷ 3 ∷ 4 ∷ 5 ∷ []) (tag_of the_type s) → out_of Fails ≡ like_out (text_at sheet a) pattern (value_in a v)
    unfolding like_out
    like_other h = rw (value_shape a v q s eq es) (sym (other_text fails (items q) s liked h))

  pub contains_is : (n : ℕ) (l : List ℕ) (b : Bool) → s ≡ Set → l ≡ items q → b ≡ mem_n n l → out_of (Boolᵍ b) ≡ contains_out n (value_in a v)
  unfolding contains_out
  contains_is n l b e h p = rw (value_shape a v q s eq es, e, p, h)

  pub contains_other : (n : ℕ) → OneOf (0 ∷ 1 ∷ 2 ∷ 3 ∷ 5 ∷ []) (tag_of the_type s) → out_of Fails ≡ contains_out n (value_in a v)
  unfolding contains_out
  contains_other n h = rw (value_shape a v q s eq es) (sym (other_set fails (items q) s (λ m. truly (mem_n n m)) h))

  -- ---- two operands

  module _ (w : ℕ) where
    pub longs_first : (op : ℕ) → OneOf (0 ∷ 2 ∷ 3 ∷ 4 ∷ 5 ∷ []) (tag_of the_type s) → out_of Fails ≡ arith_out op (value_in a v) (value_in a w)
    unfolding arith_out
    longs_first op h = rw (value_shape a v q s eq es) (sym (other_long fails (items q) s (λ x. r_long fails (value_in a w) (λ y. longs_out op x y)) h))

    pub all_first : OneOf (0 ∷ 1 ∷ 2 ∷ 3 ∷ 5 ∷ []) (tag_of the_type s) → out_of Fails ≡ all_out (value_in a v) (value_in a w)
    unfolding all_out
    all_first h = rw (value_shape a v q s eq es) (sym (other_set fails (items q) s (λ l. r_set fails (value_in a w) (λ k. truly (all_n k l))) h))

    pub any_first : OneOf (0 ∷ 1 ∷ 2 ∷ 3 ∷ 5 ∷ []) (tag_of the_type s) → out_of Fails ≡ any_out (value_in a v) (value_in a w)
    unfolding any_out
    any_first h = rw (value_shape a v q s eq es) (sym (other_set fails (items q) s (λ l. r_set fails (value_in a w) (λ k. truly (any_n k l))) h))

    module _ (p : List ℕ) (t : Shape) (ep : p ≡ get_or (value_lines a) w []) (et : t ≡ shape_of p) where
      pub longs_second : (op x : ℕ) → s ≡ Long x → OneOf (0 ∷ 2 ∷ 3 ∷ 4 ∷ 5 ∷ []) (tag_of the_type t) → out_of Fails ≡ arith_out op (value_in a v) (value_in a w)
      unfolding arith_out
      longs_second op x e h = rw (value_shape a v q s eq es, e, value_shape a w p t ep et) (sym (other_long fails (items p) t (λ n. longs_out op (long_at x) n) h))

      pub longs_both : (op x y : ℕ) (g : Given) → s ≡ Long x → t ≡ Long y → out_of g ≡ longs_out op (long_at x) (long_at y)
          → out_of g ≡ arith_out op (value_in a v) (value_in a w)
      unfolding arith_out
      longs_both op x y g e f h = rw (value_shape a v q s eq es, e, value_shape a w p t ep et, f) h

      pub all_second : s ≡ Set → OneOf (0 ∷ 1 ∷ 2 ∷ 3 ∷ 5 ∷ []) (tag_of the_type t) → out_of Fails ≡ all_out (value_in a v) (value_in a w)
      unfolding all_out
      all_second e h = rw (value_shape a v q s eq es, e, value_shape a w p t ep et) (sym (other_set fails (items p) t (λ n. truly (all_n n (items q))) h))

      pub all_both : (b : Bool) (k l : List ℕ) → s ≡ Set → t ≡ Set → l ≡ items q → k ≡ items p → b ≡ all_n k l
          → out_of (Boolᵍ b) ≡ all_out (value_in a v) (value_in a w)
      unfolding all_out
      all_both b k l e f hl hk h = rw (value_shape a v q s eq es, e, value_shape a w p t ep et, f, h, hl, hk)

      pub any_second : s ≡ Set → OneOf (0 ∷ 1 ∷ 2 ∷ 3 ∷ 5 ∷ []) (tag_of the_type t) → out_of Fails ≡ any_out (value_in a v) (value_in a w)
      unfolding any_out
      any_second e h = rw (value_shape a v q s eq es, e, value_shape a w p t ep et) (sym (other_set fails (items p) t (λ n. truly (any_n n (items q))) h))

      pub any_both : (b : Bool) (k l : List ℕ) → s ≡ Set → t ≡ Set → l ≡ items q → k ≡ items p → b ≡ any_n k l
          → out_of (Boolᵍ b) ≡ any_out (value_in a v) (value_in a w)
      unfolding any_out
      any_both b k l e f hl hk h = rw (value_shape a v q s eq es, e, value_shape a w p t ep et, f, h, hl, hk)

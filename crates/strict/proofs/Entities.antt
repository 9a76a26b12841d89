-- Operations on entities: what the look-ups give is what the numbered definitions give. Assumes nothing.
use mathlib.Core.Path.{◌≡◌, refl, sym, ap, ◌∙◌}
use mathlib.Core.Bool.{Bool, true, false, not, cond, ◌&&◌}
use mathlib.Core.Option.{Option, none, some}
use mathlib.Core.List.{List, [], ◌∷◌}
use Prim.Native.Nat.{ℕ, ◌+◌, ◌<◌}
use native.Mathlib.Omega.{arith}
use borrow.Author.Tests.{not-true, not-false}
use lib.Dec.{eqb}
use lib.ListN.{get_or, length, drop}
use types.Run.{OneOf, miss}
use denote.Enum.Declared.{tag_of}
use Rattle.value.specs.contracts.Shape.{the_type}
use Rattle.cedar.specs.Evaluate.{is_nil}
use Rattle.cedar.specs.Rows.{stop, Row, rbool, rlong, rtext, rent, rset, rrec}
use Rattle.cedar.specs.Numbered.{NEnv, Give, made, old, NOut, fails, stays, truly, r_ent, r_text, r_rec, give_row, mem_n, entry_of, is_some, or_fail, all_rent, nentity, n_in, n_targets, on_entries, nline_or}
use Rattle.cedar.specs.Value.{on_some}
use Rattle.sheet.specs.Forms.{items, at, mark}
use Rattle.sheet.specs.Content.{look_up, n_env, line_given}
use Rattle.table.specs.Layout.{held}
use Rattle.value.specs.Lines.{value_lines}
use Rattle.value.specs.Shapes.{shape_of, shape_row}
use Rattle.value.specs.declared.Shape.{Shape}
use Rattle.value.specs.declared.Shape.TheVariants.{Bool as Boolˢ, Long, Text, Entity, Set, Record}
use Rattle.value.proofs.Lists.{Going, uncons}
use Rattle.strict.specs.Gives.{out_of, mode_of, env_in}
use Rattle.lookup.specs.Lookups.{values, value_in, ATTRIBUTES, TAGS, state_in, line_in, line_by, env_by, part_of, part_of_line, part_in, part_by, look_found, look_row, look_in, look_over, look_value, look_by}
use Rattle.strict.specs.Entities.{taken_of, present_of, get_out, has_out, tag_look, gettag_out, hastag_out, is_rent_at, in_unknown_out, in_list_out, in_out}
use Rattle.strict.specs.declared.Given.{Given}
use Rattle.strict.specs.declared.Given.TheVariants.{Bool as Boolᵍ, Fails, Stays}
use Rattle.lookup.specs.declared.Part.{Part}
use Rattle.lookup.specs.declared.Look.{Look}
use Rattle.lookup.specs.declared.Look.TheVariants.{At as Atˡ, Missing, Unknown as Unknownˡ, Bad}
use Rattle.lookup.proofs.Shapes.{value_shape, other_text, other_entity}

-- ---- known parts: what stands for one, where e does for nothing at all

abbrev part_give : Give → Option (Option ℕ) → Option Give
part_give e (some (some n)) = some (old n)
part_give e (some none) = some e
part_give e none = none

given_or : (e : Give) (x : ℕ) (b : Bool) → cond b none (some (old x)) ≡ part_give e (cond b none (some (some x)))
given_or e x true = refl
given_or e x false = refl

attrs_given : (a : List ℕ) (c : Bool) (o : Option (List ℕ)) → (nline_or (line_given (mode_of c) (held [] a []) o)).attrs ≡ part_give (made (rrec stop)) (part_of_line c o ATTRIBUTES)
attrs_given a true none = refl
attrs_given a false none = refl
attrs_given a c (some r) = given_or (made (rrec stop)) (at r ATTRIBUTES) (eqb (at r ATTRIBUTES) mark)

tags_given : (a : List ℕ) (c : Bool) (o : Option (List ℕ)) → (nline_or (line_given (mode_of c) (held [] a []) o)).tags ≡ part_give (made (rrec stop)) (part_of_line c o TAGS)
tags_given a true none = refl
tags_given a false none = refl
tags_given a c (some r) = given_or (made (rrec stop)) (at r TAGS) (eqb (at r TAGS) mark)

module _ (c : Bool) (a : List ℕ) where
  attrs_is : (k t : ℕ) → (nentity (env_in c a) k t).attrs ≡ part_give (made (rrec stop)) (part_in c a k t ATTRIBUTES)
  unfolding env_in n_env part_in line_in state_in
  attrs_is k t = attrs_given a c (look_up (held [] a []) k t)

  -- and as look-ups for value v find them
  attrs_by : (v k t : ℕ) → (nentity (env_by (mode_of c) a v) k t).attrs ≡ part_give (made (rrec stop)) (part_by c a v k t ATTRIBUTES)
  unfolding env_by part_by state_in
  attrs_by v k t = attrs_given a c (line_by a v k t)

  tags_by : (v k t : ℕ) → (nentity (env_by (mode_of c) a v) k t).tags ≡ part_give (made (rrec stop)) (part_by c a v k t TAGS)
  unfolding env_by part_by state_in
  tags_by v k t = tags_given a c (line_by a v k t)

-- ---- fields

-- what is made of a look-up
abbrev pub look_as : {A : Type 0} → A → (ℕ → A) → (Option ℕ → A) → Look → A
look_as d w g (Atˡ x) = g (some x)
look_as d w g Missing = g none
look_as d w g (Unknownˡ k) = w k
look_as d w g Bad = d

module _ (a : List ℕ) {A : Type 0} (d : A) (w : ℕ → A) (g : Option ℕ → A) (u : ℕ) where
  found_as : (o : Option ℕ) → g o ≡ look_as d w g (look_found o)
  found_as none = refl
  found_as (some x) = refl

  in_record : (r : Row) → r_rec d r (λ e. g (entry_of u e)) ≡ look_as d w g (look_row r u)
  unfolding look_row
  in_record (rbool b) = refl
  in_record (rlong n) = refl
  in_record (rtext t) = refl
  in_record (rent k t) = refl
  in_record (rset l) = refl
  in_record (rrec e) = found_as (entry_of u e)

  in_part : (k : ℕ) (p : Option (Option ℕ)) → on_some (w k) (part_give (made (rrec stop)) p) (λ x. r_rec d (give_row (values a) x) (λ e. g (entry_of u e))) ≡ look_as d w g (look_in a k p u)
  unfolding value_in
  in_part k (some (some n)) = in_record (value_in a n)
  in_part k (some none) = refl
  in_part k none = refl

  -- where p gives the attributes of entities
  in_over : (N : NEnv) (p : ℕ → ℕ → Option (Option ℕ)) → ((k t : ℕ) → (nentity N k t).attrs ≡ part_give (made (rrec stop)) (p k t))
      → (r : Row) → on_entries N (values a) d (λ k i. w k) r (λ e. g (entry_of u e)) ≡ look_as d w g (look_over p a r u)
  in_over N p h (rbool b) = refl
  in_over N p h (rlong n) = refl
  in_over N p h (rtext t) = refl
  in_over N p h (rent k t) = ap (λ (o : Option Give). on_some (w k) o (λ x. r_rec d (give_row (values a) x) (λ e. g (entry_of u e)))) (h k t) ∙ in_part k (p k t)
  in_over N p h (rset l) = refl
  in_over N p h (rrec e) = found_as (entry_of u e)

pub in_value : (c : Bool) (a : List ℕ) {A : Type 0} (d : A) (w : ℕ → A) (g : Option ℕ → A) (u : ℕ) (r : Row) → on_entries (env_in c a) (values a) d (λ k i. w k) r (λ e. g (entry_of u e)) ≡ look_as d w g (look_value c a r u)
in_value c a d w g u r = in_over a d w g u (env_in c a) (λ k t. part_in c a k t ATTRIBUTES) (attrs_is c a) r

in_by : (c : Bool) (a : List ℕ) (v : ℕ) (g : Option ℕ → NOut) (u : ℕ) → on_entries (env_by (mode_of c) a v) (values a) fails (λ k i. stays) (value_in a v) (λ e. g (entry_of u e)) ≡ look_as fails (λ k. stays) g (look_by c a v u)
unfolding look_by
in_by c a v g u = in_over a fails (λ k. stays) g u (env_by (mode_of c) a v) (λ k t. part_by c a v k t ATTRIBUTES) (attrs_by c a v) (value_in a v)

taken_as : (l : Look) → out_of (taken_of l) ≡ look_as fails (λ k. stays) or_fail l
taken_as (Atˡ x) = refl
taken_as Missing = refl
taken_as (Unknownˡ k) = refl
taken_as Bad = refl

present_as : (l : Look) → out_of (present_of l) ≡ look_as fails (λ k. stays) (λ o. truly (is_some o)) l
present_as (Atˡ x) = refl
present_as Missing = refl
present_as (Unknownˡ k) = refl
present_as Bad = refl

module _ (c : Bool) (a : List ℕ) (v t : ℕ) (l : Look) (el : l ≡ look_by c a v t) (r : Given) where
  pub get_is : r ≡ taken_of l → out_of r ≡ get_out c a v t
  unfolding get_out
  get_is e = ap out_of e ∙ taken_as l ∙ ap (look_as fails (λ k. stays) or_fail) el ∙ sym (in_by c a v or_fail t)

  pub has_is : r ≡ present_of l → out_of r ≡ has_out c a v t
  unfolding has_out
  has_is e = ap out_of e ∙ present_as l ∙ ap (look_as fails (λ k. stays) (λ o. truly (is_some o))) el ∙ sym (in_by c a v (λ o. truly (is_some o)) t)

-- ---- tags

module _ (c : Bool) (a : List ℕ) (m : ℕ) (q : List ℕ) (s : Shape) (eq : q ≡ get_or (value_lines a) m []) (es : s ≡ shape_of q) (n : ℕ) where
  pub tag_first : OneOf (0 ∷ 1 ∷ 2 ∷ 4 ∷ 5 ∷ []) (tag_of the_type s) → Bad ≡ tag_look c a m n
  unfolding tag_look
  tag_first h = rw (value_shape a m q s eq es) (sym (other_entity Bad (items q) s (λ k t. r_text Bad (value_in a n) (λ u. look_in a k (part_by c a m k t TAGS) u)) h))

  module _ (k t : ℕ) (z : s ≡ Entity k t) (p : List ℕ) (d : Shape) (ep : p ≡ get_or (value_lines a) n []) (ed : d ≡ shape_of p) where
    pub tag_second : OneOf (0 ∷ 1 ∷ 3 ∷ 4 ∷ 5 ∷ []) (tag_of the_type d) → Bad ≡ tag_look c a m n
    unfolding tag_look
    tag_second h = rw (value_shape a m q s eq es, z, value_shape a n p d ep ed) (sym (other_text Bad (items p) d (λ u. look_in a k (part_by c a m k t TAGS) u) h))

    pub tag_both : (u : ℕ) (f : Part) (r : Look) → d ≡ Text u → part_of f ≡ part_by c a m k t TAGS → r ≡ look_in a k (part_of f) u → r ≡ tag_look c a m n
    unfolding tag_look
    tag_both u f r y ef e = e ∙ ap (λ (o : Option (Option ℕ)). look_in a k o u) ef ∙ rw (value_shape a m q s eq es, z, value_shape a n p d ep ed, y)

module _ (c : Bool) (a : List ℕ) (m : ℕ) (g : Option ℕ → NOut) where
  in_tag : (r s : Row) → r_ent fails r (λ k t. r_text fails s (λ u. on_some stays (nentity (env_by (mode_of c) a m) k t).tags (λ x. r_rec fails (give_row (values a) x) (λ e. g (entry_of u e)))))
      ≡ look_as fails (λ k. stays) g (r_ent Bad r (λ k t. r_text Bad s (λ u. look_in a k (part_by c a m k t TAGS) u)))
  in_tag (rbool b) s = refl
  in_tag (rlong n) s = refl
  in_tag (rtext t) s = refl
  in_tag (rent k t) (rbool b) = refl
  in_tag (rent k t) (rlong n) = refl
  in_tag (rent k t) (rtext u) = ap (λ (o : Option Give). on_some stays o (λ x. r_rec fails (give_row (values a) x) (λ e. g (entry_of u e)))) (tags_by c a m k t) ∙ in_part a fails (λ i. stays) g u k (part_by c a m k t TAGS)
  in_tag (rent k t) (rent l u) = refl
  in_tag (rent k t) (rset l) = refl
  in_tag (rent k t) (rrec e) = refl
  in_tag (rset l) s = refl
  in_tag (rrec e) s = refl

module _ (c : Bool) (a : List ℕ) (m n : ℕ) (l : Look) (el : l ≡ tag_look c a m n) (r : Given) where
  pub gettag_is : r ≡ taken_of l → out_of r ≡ gettag_out c a m n
  unfolding gettag_out tag_look
  gettag_is e = ap out_of e ∙ taken_as l ∙ ap (look_as fails (λ k. stays) or_fail) el ∙ sym (in_tag c a m or_fail (value_in a m) (value_in a n))

  pub hastag_is : r ≡ present_of l → out_of r ≡ hastag_out c a m n
  unfolding hastag_out tag_look
  hastag_is e = ap out_of e ∙ present_as l ∙ ap (look_as fails (λ k. stays) (λ o. truly (is_some o))) el ∙ sym (in_tag c a m (λ o. truly (is_some o)) (value_in a m) (value_in a n))

-- ---- in

module _ (a : List ℕ) (v : ℕ) (q : List ℕ) (s : Shape) (eq : q ≡ get_or (value_lines a) v []) (es : s ≡ shape_of q) where
  pub one_is : (k t : ℕ) → s ≡ Entity k t → true ≡ is_rent_at a v
  unfolding is_rent_at
  one_is k t z = rw (value_shape a v q s eq es, z)

  pub one_other : OneOf (0 ∷ 1 ∷ 2 ∷ 4 ∷ 5 ∷ []) (tag_of the_type s) → false ≡ is_rent_at a v
  unfolding is_rent_at
  one_other h = rw (value_shape a v q s eq es) (sym (other_entity false (items q) s (λ k t. true) h))

module _ (m : ℕ) (l : List ℕ) (b : Bool) (eb : b ≡ mem_n m l) where
  pub unknown_here : b ≡ true → out_of (Boolᵍ true) ≡ in_unknown_out m l
  unfolding in_unknown_out
  unknown_here h = rw (← eb, h)

  pub unknown_none : b ≡ false → length l ≡ 0 → out_of (Boolᵍ false) ≡ in_unknown_out m l
  unfolding in_unknown_out
  unknown_none h e = rw (← eb, h) (go l e)
    where
      go : (k : List ℕ) → length k ≡ 0 → truly false ≡ cond (is_nil k) (truly false) stays
      go [] y = refl
      go (x ∷ k) y = absurd (omega arith)

  pub unknown_stays : b ≡ false → (length l ≡ 0 → ⊥) → out_of Stays ≡ in_unknown_out m l
  unfolding in_unknown_out
  unknown_stays h e = rw (← eb, h) (go l e)
    where
      go : (k : List ℕ) → (length k ≡ 0 → ⊥) → stays ≡ cond (is_nil k) (truly false) stays
      go [] y = absurd (y refl)
      go (x ∷ k) y = refl

module _ (a l : List ℕ) (i : ℕ) (g : Going (all_rent (values a) l) (all_rent (values a) (drop i l)) i (length l)) where
  module _ (b : Bool) (h : i < length l) (e : b ≡ is_rent_at a (get_or l i 0)) where
    step : all_rent (values a) (drop i l) ≡ (b && all_rent (values a) (drop (i + 1) l))
    unfolding is_rent_at value_in
    step = ap (all_rent (values a)) (uncons l 0 i h) ∙ ap (λ (x : Bool). x && all_rent (values a) (drop (i + 1) l)) (sym e)

    pub ents_off : not b ≡ true → false ≡ all_rent (values a) l
    ents_off f = sym (g.left ∙ step ∙ ap (λ (x : Bool). x && all_rent (values a) (drop (i + 1) l)) (not-true b f))

    pub ents_on : not b ≡ false → Going (all_rent (values a) l) (all_rent (values a) (drop (i + 1) l)) (i + 1) (length l)
    ents_on f = record { near = omega arith; left = g.left ∙ step ∙ ap (λ (x : Bool). x && all_rent (values a) (drop (i + 1) l)) (not-false b f) }

module _ (c : Bool) (a : List ℕ) (m n : ℕ) (q : List ℕ) (s : Shape) (eq : q ≡ get_or (value_lines a) m []) (es : s ≡ shape_of q) where
  abbrev in_for : Row → ℕ → ℕ → NOut
  in_for r k t = on_some fails (n_targets (values a) n r) (n_in (values a) m (nentity (env_by (mode_of c) a m) k t).ancestors)

  pub in_first : OneOf (0 ∷ 1 ∷ 2 ∷ 4 ∷ 5 ∷ []) (tag_of the_type s) → out_of Fails ≡ in_out c a m n
  unfolding in_out
  in_first h = rw (value_shape a m q s eq es) (sym (other_entity fails (items q) s (in_for (value_in a n)) h))

  module _ (k t : ℕ) (z : s ≡ Entity k t) (p : List ℕ) (d : Shape) (ep : p ≡ get_or (value_lines a) n []) (ed : d ≡ shape_of p) where
    in_both : in_out c a m n ≡ in_for (shape_row d (items p)) k t
    unfolding in_out
    in_both = rw (value_shape a m q s eq es, z, value_shape a n p d ep ed)

    pub in_entity : (j i : ℕ) (g : Given) → d ≡ Entity j i → out_of g ≡ in_list_out c a m k t (n ∷ []) → out_of g ≡ in_out c a m n
    unfolding in_list_out
    in_entity j i g y e = e ∙ sym (in_both ∙ ap (λ (x : Shape). in_for (shape_row x (items p)) k t) y)

    module _ (y : d ≡ Set) (l : List ℕ) (el : l ≡ items p) (b : Bool) (eb : b ≡ all_rent (values a) l) where
      in_members : in_out c a m n ≡ on_some fails (cond b (some l) none) (n_in (values a) m (nentity (env_by (mode_of c) a m) k t).ancestors)
      in_members = in_both ∙ rw (y, ← el, ← eb)

      pub in_mixed : not b ≡ true → out_of Fails ≡ in_out c a m n
      in_mixed h = sym (in_members ∙ rw (not-true b h))

      pub in_set : (g : Given) → not b ≡ false → out_of g ≡ in_list_out c a m k t l → out_of g ≡ in_out c a m n
      unfolding in_list_out
      in_set g h e = e ∙ sym (in_members ∙ rw (not-false b h))

    pub in_other : OneOf (0 ∷ 1 ∷ 2 ∷ 5 ∷ []) (tag_of the_type d) → out_of Fails ≡ in_out c a m n
    in_other h = sym (in_both ∙ go d h)
      where
        go : (x : Shape) → OneOf (0 ∷ 1 ∷ 2 ∷ 5 ∷ []) (tag_of the_type x) → in_for (shape_row x (items p)) k t ≡ fails
        go (Boolˢ b) y = refl
        go (Long w) y = refl
        go (Text u) y = refl
        go (Entity i u) y = absurd (miss (0 ∷ 1 ∷ 2 ∷ 5 ∷ []) 3 tt y)
        go Set y = absurd (miss (0 ∷ 1 ∷ 2 ∷ 5 ∷ []) 4 tt y)
        go Record y = refl

-- `in` over ancestors found through parents: what the marks say is what the numbered definitions give. Assumes nothing.
use mathlib.Core.Path.{◌≡◌, refl, sym, ap, ◌∙◌}
use mathlib.Core.Bool.{Bool, true, false, not, cond, ◌&&◌, ◌||◌}
use mathlib.Core.Option.{Option, none, some}
use mathlib.Core.List.{List, [], ◌∷◌}
use Prim.Native.Nat.{ℕ}
use native.Mathlib.Omega.{arith}
use lib.Dec.{eqb}
use lib.ListN.{get_or, length, take}
use Rattle.cedar.specs.Evaluate.{is_nil}
use Rattle.cedar.specs.Rows.{rset}
use Rattle.cedar.specs.Numbered.{Give, made, stays, truly, mem_n, any_n, nline_or, nentity, n_in}
use Rattle.sheet.specs.Forms.{VALUE, ENTITY}
use Rattle.sheet.specs.Content.{line_given, known_above, map_some}
use Rattle.sheet.specs.Parents.{ancestors, unknown_above}
use Rattle.table.specs.Layout.{held, lines_held, rows_of}
use Rattle.std.specs.Prelude.{Option as Maybe, Some, None}
use Rattle.reach.specs.Marks.{LINES, HIDDEN, line_rows, Found, any_met}
use Rattle.reach.proofs.Asking.{meets_is, open_is}
use Rattle.reach.proofs.Steps.{any_none}
use Rattle.strict.specs.Gives.{out_of, mode_of}
use Rattle.lookup.specs.Lookups.{values, state_in, line_by, env_by, line_at}
use Rattle.strict.specs.Entities.{above_in, Unknowns, Above, in_line_out, in_unlisted_out, in_unknown_out, in_list_out}
use Rattle.strict.specs.declared.Given.{Given}
use Rattle.strict.specs.declared.Given.TheVariants.{Bool as Boolᵍ, Stays}

-- the ancestors of a line that is found, and of an unlisted entity
ancestors_by : (c : Bool) (a : List ℕ) (v k t : ℕ) (o : Option (List ℕ)) → line_by a v k t ≡ o → (nentity (env_by (mode_of c) a v) k t).ancestors ≡ (nline_or (line_given (mode_of c) (state_in a) o)).ancestors
unfolding env_by
ancestors_by c a v k t o e = ap (λ (x : Option (List ℕ)). (nline_or (line_given (mode_of c) (state_in a) x)).ancestors) e

or_end : (b : Bool) → (b || false) ≡ b
or_end true = refl
or_end false = refl

-- ---- unknown ancestors, and known ones

module _ (c : Bool) (a : List ℕ) (v : ℕ) where
  above_is : above_in c a v ≡ cond (not c && unknown_above (rows_of a VALUE) (line_rows a) v) none (some (made (rset (ancestors (rows_of a VALUE) (line_rows a) v))))
  unfolding state_in held lines_held line_rows
  above_is = go c
    where
      pick : (x : Bool) (l : List ℕ) → map_some (λ (l : List ℕ). made (rset l)) (cond x none (some l)) ≡ cond x none (some (made (rset l)))
      pick true l = refl
      pick false l = refl

      go : (b : Bool) → map_some (λ (l : List ℕ). made (rset l)) (known_above (mode_of b) (held [] a []) v) ≡ cond (not b && unknown_above (rows_of a VALUE) (take LINES (rows_of a ENTITY)) v) none (some (made (rset (ancestors (rows_of a VALUE) (take LINES (rows_of a ENTITY)) v))))
      go true = refl
      go false = pick (unknown_above (rows_of a VALUE) (take LINES (rows_of a ENTITY)) v) (ancestors (rows_of a VALUE) (take LINES (rows_of a ENTITY)) v)

  module _ (marks : List ℕ) where
    pub unknown_complete : c ≡ true → Unknowns c a v marks false
    unknown_complete e = record { is = λ h. sym (ap (λ (b : Bool). not b && unknown_above (rows_of a VALUE) (line_rows a) v) e) }

    pub unknown_open : c ≡ false → (r : Bool) → r ≡ (not (eqb (get_or marks HIDDEN 0) 0) || not (eqb (get_or marks (length (line_rows a)) 0) 0)) → Unknowns c a v marks r
    unknown_open e r er = record { is = λ h. er ∙ open_is (rows_of a VALUE) (line_rows a) v marks h ∙ sym (ap (λ (b : Bool). not b && unknown_above (rows_of a VALUE) (line_rows a) v) e) }

    module _ (met : List ℕ) (h : Found (rows_of a VALUE) (line_rows a) v met marks) (u : Bool) (eu : Unknowns c a v marks u) (m : ℕ) (l : List ℕ) where
      out_by : in_line_out c a m v l ≡ n_in (values a) m (cond u none (some (made (rset (ancestors (rows_of a VALUE) (line_rows a) v))))) l
      unfolding in_line_out
      out_by = ap (λ (o : Option Give). n_in (values a) m o l) (above_is ∙ ap (λ (b : Bool). cond b none (some (made (rset (ancestors (rows_of a VALUE) (line_rows a) v))))) (sym (eu.is h.reached)))

      pub above_unknown : u ≡ true → Above c a m v l Stays
      above_unknown e = record { is = λ n k. sym (out_by ∙ ap (λ (b : Bool). n_in (values a) m (cond b none (some (made (rset (ancestors (rows_of a VALUE) (line_rows a) v))))) l) e ∙ rw (n, k)) }

      pub above_known : u ≡ false → (d : Bool) → d ≡ any_met (rows_of a VALUE) (line_rows a) met marks l → Above c a m v l (Boolᵍ d)
      above_known e d ed = record {
        is = λ n k. sym (out_by ∙ ap (λ (b : Bool). n_in (values a) m (cond b none (some (made (rset (ancestors (rows_of a VALUE) (line_rows a) v))))) l) e
            ∙ ap (λ (b : Bool). truly (b || any_n l (ancestors (rows_of a VALUE) (line_rows a) v))) n ∙ ap truly (sym (ed ∙ meets_is (rows_of a VALUE) (line_rows a) v met marks h l)));
      }

  module _ (m : ℕ) (l : List ℕ) (b : Bool) (eb : b ≡ mem_n m l) where
    pub line_here : b ≡ true → out_of (Boolᵍ true) ≡ in_line_out c a m v l
    unfolding in_line_out
    line_here e = sym (ap (λ (o : Option Give). n_in (values a) m o l) above_is ∙ go (not c && unknown_above (rows_of a VALUE) (line_rows a) v) (sym eb ∙ e))
      where
        go : (x : Bool) → mem_n m l ≡ true → n_in (values a) m (cond x none (some (made (rset (ancestors (rows_of a VALUE) (line_rows a) v))))) l ≡ truly true
        go true z = rw z
        go false z = rw z

    pub line_none : b ≡ false → length l ≡ 0 → out_of (Boolᵍ false) ≡ in_line_out c a m v l
    unfolding in_line_out
    line_none e z = sym (ap (λ (o : Option Give). n_in (values a) m o l) above_is ∙ go (not c && unknown_above (rows_of a VALUE) (line_rows a) v) l z)
      where
        go : (x : Bool) (l : List ℕ) → length l ≡ 0 → n_in (values a) m (cond x none (some (made (rset (ancestors (rows_of a VALUE) (line_rows a) v))))) l ≡ truly false
        go true [] z = refl
        go false [] z = refl
        go x (y ∷ l) z = absurd (omega (arith, z))

    pub line_above : b ≡ false → (length l ≡ 0 → ⊥) → (g : Given) → Above c a m v l g → out_of g ≡ in_line_out c a m v l
    line_above e z g h = h.is (sym eb ∙ e) (go l z)
      where
        go : (l : List ℕ) → (length l ≡ 0 → ⊥) → is_nil l ≡ false
        go [] z = absurd (z refl)
        go (y ∷ l) z = refl

module _ (c : Bool) (m : ℕ) (l : List ℕ) where
  pub unlisted_complete : c ≡ true → (b : Bool) → b ≡ mem_n m l → out_of (Boolᵍ b) ≡ in_unlisted_out c m l
  unfolding in_unlisted_out
  unlisted_complete e b eb = ap truly eb ∙ sym (ap (λ (x : Bool). cond x (truly (mem_n m l)) (in_unknown_out m l)) e)

  pub unlisted_partial : c ≡ false → (g : Given) → out_of g ≡ in_unknown_out m l → out_of g ≡ in_unlisted_out c m l
  unfolding in_unlisted_out
  unlisted_partial e g h = h ∙ sym (ap (λ (x : Bool). cond x (truly (mem_n m l)) (in_unknown_out m l)) e)

module _ (c : Bool) (a : List ℕ) (m k t : ℕ) (l : List ℕ) (x : Maybe ℕ) (ex : line_at (rows_of a ENTITY) x ≡ line_by a m k t) where
  pub list_none : x ≡ None → (g : Given) → out_of g ≡ in_unlisted_out c m l → out_of g ≡ in_list_out c a m k t l
  unfolding in_list_out in_unlisted_out in_unknown_out
  list_none z g e = e ∙ sym (ap (λ (o : Option Give). n_in (values a) m o l) (ancestors_by c a m k t none (sym ex ∙ ap (line_at (rows_of a ENTITY)) z)) ∙ go c)
    where
      go : (b : Bool) → n_in (values a) m (nline_or (line_given (mode_of b) (state_in a) none)).ancestors l ≡ cond b (truly (mem_n m l)) (cond (mem_n m l) (truly true) (cond (is_nil l) (truly false) stays))
      go true = ap truly (ap (λ (y : Bool). mem_n m l || y) (any_none l) ∙ or_end (mem_n m l))
      go false = refl

  pub list_line : (i : ℕ) → x ≡ Some i → (r : List ℕ) (v : ℕ) → r ≡ get_or (rows_of a ENTITY) i [] → v ≡ get_or r 1 0 → (g : Given) → out_of g ≡ in_line_out c a m v l → out_of g ≡ in_list_out c a m k t l
  unfolding in_list_out in_line_out
  list_line i z r v er ev g e = e ∙ ap (λ (y : ℕ). n_in (values a) m (above_in c a y) l) (ev ∙ ap (λ (q : List ℕ). get_or q 1 0) er)
      ∙ sym (ap (λ (o : Option Give). n_in (values a) m o l) (ancestors_by c a m k t (some (get_or (rows_of a ENTITY) i [])) (sym ex ∙ ap (line_at (rows_of a ENTITY)) z)))

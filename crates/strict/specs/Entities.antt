-- What the operations on entities give, by the look-ups of entities and of the fields of records.
use Rattle.std.specs.Prelude.{◌≡◌, Bool, true, false, cond, not, ◌&&◌, List, ℕ}
use Rattle.std.proofs.Math.Option.{Option}
use Rattle.cedar.specs.Residual.{rin, rgettag, rhastag}
use Rattle.cedar.specs.Evaluate.{is_nil}
use Rattle.cedar.specs.Rows.{rset}
use Rattle.cedar.specs.Numbered.{Give, made, NOut, stays, truly, r_ent, r_text, mem_n, is_rent, nentity, n_in, n_rel, n_get, n_has}
use Rattle.sheet.specs.Forms.{VALUE}
use Rattle.sheet.specs.Content.{known_above, map_some}
use Rattle.sheet.specs.Parents.{unknown_above}
use Rattle.table.specs.Layout.{rows_of}
use Rattle.reach.specs.Marks.{line_rows, Reached}
use Rattle.lookup.specs.Lookups.{values, value_in, state_in, env_by, TAGS, part_by, look_in}
use Rattle.strict.specs.Gives.{mode_of, out_of}
use Rattle.strict.specs.declared.Given.{Given}
use Rattle.strict.specs.declared.Given.TheVariants.{Bool as Boolᵍ, Old, Fails, Stays}
use Rattle.lookup.specs.declared.Look.{Look}
use Rattle.lookup.specs.declared.Look.TheVariants.{At as Atˡ, Missing, Unknown as Unknownˡ, Bad}

abbrev pub taken_of : Look → Given
taken_of (Atˡ x) = Old x
taken_of Missing = Fails
taken_of (Unknownˡ k) = Stays
taken_of Bad = Fails

abbrev pub present_of : Look → Given
present_of (Atˡ x) = Boolᵍ true
present_of Missing = Boolᵍ false
present_of (Unknownˡ k) = Stays
present_of Bad = Fails

-- ---- operations, as `n_get`, `n_has` and `n_rel` have them

unfoldable pub get_out : Bool → List ℕ → ℕ → ℕ → NOut
get_out c a v t = n_get (env_by (mode_of c) a v) (values a) t (value_in a v)

unfoldable pub has_out : Bool → List ℕ → ℕ → ℕ → NOut
has_out c a v t = n_has (env_by (mode_of c) a v) (values a) t (value_in a v)

unfoldable pub tag_look : Bool → List ℕ → ℕ → ℕ → Look
tag_look c a m n = r_ent Bad (value_in a m) (λ k t. r_text Bad (value_in a n) (λ u. look_in a k (part_by c a m k t TAGS) u))

unfoldable pub gettag_out : Bool → List ℕ → ℕ → ℕ → NOut
gettag_out c a m n = n_rel (env_by (mode_of c) a m) (values a) rgettag m n (value_in a m) (value_in a n)

unfoldable pub hastag_out : Bool → List ℕ → ℕ → ℕ → NOut
hastag_out c a m n = n_rel (env_by (mode_of c) a m) (values a) rhastag m n (value_in a m) (value_in a n)

unfoldable pub is_rent_at : List ℕ → ℕ → Bool
is_rent_at a v = is_rent (value_in a v)

unfoldable pub in_unknown_out : ℕ → List ℕ → NOut
in_unknown_out m l = cond (mem_n m l) (truly true) (cond (is_nil l) (truly false) stays)

-- the ancestors of the entity with value number v, as a look-up of its line gives them
abbrev pub above_in : Bool → List ℕ → ℕ → Option Give
above_in c a v = map_some (λ l. made (rset l)) (known_above (mode_of c) (state_in a) v)

-- where the marks say what v reaches
pub record Unknowns (c : Bool) (a : List ℕ) (v : ℕ) (marks : List ℕ) (r : Bool) : Type 0 where
  pub is : Reached (rows_of a VALUE) (line_rows a) v marks → r ≡ (not c && unknown_above (rows_of a VALUE) (line_rows a) v)

unfoldable pub in_line_out : Bool → List ℕ → ℕ → ℕ → List ℕ → NOut
in_line_out c a m v l = n_in (values a) m (above_in c a v) l

-- where m is not among the targets, and there is one
pub record Above (c : Bool) (a : List ℕ) (m v : ℕ) (l : List ℕ) (r : Given) : Type 0 where
  pub is : mem_n m l ≡ false → is_nil l ≡ false → out_of r ≡ in_line_out c a m v l

unfoldable pub in_unlisted_out : Bool → ℕ → List ℕ → NOut
in_unlisted_out c m l = cond c (truly (mem_n m l)) (in_unknown_out m l)

unfoldable pub in_list_out : Bool → List ℕ → ℕ → ℕ → ℕ → List ℕ → NOut
in_list_out c a m k t l = n_in (values a) m (nentity (env_by (mode_of c) a m) k t).ancestors l

unfoldable pub in_out : Bool → List ℕ → ℕ → ℕ → NOut
in_out c a m n = n_rel (env_by (mode_of c) a m) (values a) rin m n (value_in a m) (value_in a n)

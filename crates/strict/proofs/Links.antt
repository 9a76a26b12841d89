-- What the contracts name is what the numbered definitions give: operation by operation, and over the state of a sheet. Assumes nothing.
use mathlib.Core.Path.{◌≡◌, refl, sym, ap, ◌∙◌}
use mathlib.Core.Bool.{Bool, cond}
use mathlib.Core.Option.{Option, none, some}
use mathlib.Core.List.{List, [], ◌∷◌}
use Prim.Native.Nat.{ℕ}
use lib.Dec.{eqb}
use lib.ListN.{get_or}
use Rattle.cedar.specs.Types.{Schema, Var, principal, action, resource, context}
use Rattle.cedar.specs.Residual.{unot, uneg, uempty, uis, ulike, beq, blt, ble, badd, bsub, bmul, bcontains, ball, bany, rin, rgettag, rhastag}
use Rattle.cedar.specs.Rows.{Row, rent, same_row}
use Rattle.cedar.specs.Numbered.{row_at, truly, n_un, n_bin, n_rel, n_get, n_has}
use Rattle.forms.specs.Tags.{LT, LE, ADD, SUB, MUL}
use Rattle.sheet.specs.Content.{pattern_of, schema, given, entity_line, look_up, line_given, n_env}
use Rattle.sheet.specs.Forms.{Mode, partial, complete, at, VALUE, ENTITY}
use Rattle.sheet.specs.State.{value_row}
use Rattle.table.specs.Layout.{rows_of, text_at, held, lines_held}
use Rattle.table.proofs.Rows.{text_held}
use Rattle.lookup.specs.Lookups.{values, value_in, env_by}
use Rattle.strict.specs.Gives.{mode_of, env_in, longs_out, not_out, neg_out, empty_out, is_out, like_out, arith_out, contains_out, all_out, any_out}
use Rattle.strict.specs.Entities.{get_out, has_out, gettag_out, hastag_out, in_out}

-- ---- one operand

module _ (S : Schema) (r : Row) where
  pub not_link : not_out r ≡ n_un S unot r
  unfolding not_out
  not_link = refl

  pub neg_link : neg_out r ≡ n_un S uneg r
  unfolding neg_out
  neg_link = refl

  pub empty_link : empty_out r ≡ n_un S uempty r
  unfolding empty_out
  empty_link = refl

  pub is_link : (k : ℕ) → is_out k r ≡ n_un S (uis k) r
  unfolding is_out
  is_link k = refl

  pub like_link : (p : List ℕ) → like_out S.bytes p r ≡ n_un S (ulike (pattern_of p)) r
  unfolding like_out
  like_link p = refl

-- ---- two operands

module _ (m n : ℕ) (r s : Row) where
  pub eq_link : truly (eqb m n) ≡ n_bin beq m n r s
  eq_link = refl

  pub lt_link : arith_out LT r s ≡ n_bin blt m n r s
  unfolding arith_out longs_out
  lt_link = refl

  pub le_link : arith_out LE r s ≡ n_bin ble m n r s
  unfolding arith_out longs_out
  le_link = refl

  pub add_link : arith_out ADD r s ≡ n_bin badd m n r s
  unfolding arith_out longs_out
  add_link = refl

  pub sub_link : arith_out SUB r s ≡ n_bin bsub m n r s
  unfolding arith_out longs_out
  sub_link = refl

  pub mul_link : arith_out MUL r s ≡ n_bin bmul m n r s
  unfolding arith_out longs_out
  mul_link = refl

  pub contains_link : contains_out n r ≡ n_bin bcontains m n r s
  unfolding contains_out
  contains_link = refl

  pub all_link : all_out r s ≡ n_bin ball m n r s
  unfolding all_out
  all_link = refl

  pub any_link : any_out r s ≡ n_bin bany m n r s
  unfolding any_out
  any_link = refl

-- ---- entities

module _ (c : Bool) (a : List ℕ) where
  pub value_link : (v : ℕ) → value_in a v ≡ row_at (values a) v
  unfolding value_in
  value_link v = refl

  pub get_link : (v t : ℕ) → get_out c a v t ≡ n_get (env_by (mode_of c) a v) (values a) t (row_at (values a) v)
  unfolding get_out value_in
  get_link v t = refl

  pub has_link : (v t : ℕ) → has_out c a v t ≡ n_has (env_by (mode_of c) a v) (values a) t (row_at (values a) v)
  unfolding has_out value_in
  has_link v t = refl

  pub gettag_link : (m n : ℕ) → gettag_out c a m n ≡ n_rel (env_by (mode_of c) a m) (values a) rgettag m n (row_at (values a) m) (row_at (values a) n)
  unfolding gettag_out value_in
  gettag_link m n = refl

  pub hastag_link : (m n : ℕ) → hastag_out c a m n ≡ n_rel (env_by (mode_of c) a m) (values a) rhastag m n (row_at (values a) m) (row_at (values a) n)
  unfolding hastag_out value_in
  hastag_link m n = refl

  pub in_link : (m n : ℕ) → in_out c a m n ≡ n_rel (env_by (mode_of c) a m) (values a) rin m n (row_at (values a) m) (row_at (values a) n)
  unfolding in_out value_in
  in_link m n = refl

  -- the request and the entities of the state that the words hold, whatever the sheet's bytes and the other slice
  module _ (sheet b : List ℕ) where
    same_request : (x : Var) → given (held [] a []) x ≡ given (held sheet a b) x
    unfolding held lines_held
    same_request principal = refl
    same_request action = refl
    same_request resource = refl
    same_request context = refl

    pub same_lines : (e : Row) (rs : List (List ℕ)) → entity_line (held [] a []) e rs ≡ entity_line (held sheet a b) e rs
    unfolding held lines_held
    same_lines e [] = refl
    same_lines e (r ∷ rs) = ap (λ (o : Option (List ℕ)). cond (same_row (value_row (get_or (rows_of a VALUE) (at r 0) [])) e) (some r) o) (same_lines e rs)

    -- the ancestors of a line look only at the rows of values and entities
    given_alike : (m : Mode) (o : Option (List ℕ)) → line_given m (held [] a []) o ≡ line_given m (held sheet a b) o
    unfolding held lines_held
    given_alike partial none = refl
    given_alike partial (some r) = refl
    given_alike complete none = refl
    given_alike complete (some r) = refl

    same_line : (k t : ℕ) → line_given (mode_of c) (held [] a []) (look_up (held [] a []) k t) ≡ line_given (mode_of c) (held sheet a b) (look_up (held sheet a b) k t)
    unfolding held lines_held
    same_line k t = given_alike (mode_of c) (look_up (held [] a []) k t) ∙ ap (line_given (mode_of c) (held sheet a b)) (same_lines (rent k t) (rows_of a ENTITY))

    pub env_link : env_in c a ≡ n_env (mode_of c) (held sheet a b)
    unfolding env_in n_env
    env_link = λ i. record { request = λ x. same_request x i; line = λ k t. same_line k t i }

  -- the bytes of its texts
  pub bytes_link : (sheet b : List ℕ) (t : ℕ) → (schema (held sheet a b)).bytes t ≡ text_at sheet a t
  unfolding schema
  bytes_link sheet b t = sym (text_held sheet a b t)

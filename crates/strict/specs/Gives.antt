-- What the strict operations give, as the numbered definitions say it, over the values and entities that the words hold.
use Rattle.std.specs.Prelude.{Bool, true, false, not, cond, List, [], ℕ, eqb, ℤ, neg_ℤ, ◌+ℤ◌, ◌-ℤ◌, ◌*ℤ◌}
use Rattle.std.proofs.Math.Option.{Option, none, some}
use Rattle.std.specs.Int.Signed.{lt_z, le_z}
use Rattle.cedar.specs.Rows.{Row, rlong}
use Rattle.cedar.specs.Evaluate.{matches, is_nil}
use Rattle.cedar.specs.Numbered.{NEnv, NOut, give, fails, stays, made, old, truly, nlong, mem_n, all_n, any_n, r_bool, r_long, r_text, r_ent, r_set}
use Rattle.forms.specs.Tags.{LT, LE, ADD, SUB}
use Rattle.sheet.specs.Bytes.{long_at}
use Rattle.sheet.specs.Forms.{Mode, partial, complete}
use Rattle.sheet.specs.Content.{pattern_of, n_env}
use Rattle.table.specs.Layout.{held}
use Rattle.strict.specs.declared.Given.{Given}
use Rattle.strict.specs.declared.Given.TheVariants.{Bool as Boolᵍ, Long, Old, Fails, Stays}

abbrev pub out_of : Given → NOut
out_of (Boolᵍ b) = truly b
out_of (Long w) = give (made (rlong (long_at w)))
out_of (Old n) = give (old n)
out_of Fails = fails
out_of Stays = stays

abbrev pub mode_of : Bool → Mode
mode_of true = complete
mode_of false = partial

-- the request and the entities; what a text is and how deep a line is does not matter
unfoldable pub env_in : Bool → List ℕ → NEnv
env_in c a = n_env (mode_of c) (held [] a [])

-- a long that is in range, or an error
abbrev pub long_out : Option ℤ → NOut
long_out none = fails
long_out (some z) = give (made (rlong z))

-- two longs, by the operation's tag: lt, le, add, sub, and mul
unfoldable pub longs_out : ℕ → ℤ → ℤ → NOut
longs_out op x y =
    cond (eqb op LT) (truly (lt_z x y))
    (cond (eqb op LE) (truly (le_z x y)) (cond (eqb op ADD) (nlong (x +ℤ y)) (cond (eqb op SUB) (nlong (x -ℤ y)) (nlong (x *ℤ y)))))

-- ---- operations over rows, as `nUn` and `nBin` have them

unfoldable pub not_out : Row → NOut
not_out r = r_bool fails r (λ b. truly (not b))

unfoldable pub neg_out : Row → NOut
neg_out r = r_long fails r (λ n. nlong (neg_ℤ n))

unfoldable pub empty_out : Row → NOut
empty_out r = r_set fails r (λ l. truly (is_nil l))

unfoldable pub is_out : ℕ → Row → NOut
is_out k r = r_ent fails r (λ l t. truly (eqb k l))

unfoldable pub like_out : (ℕ → List ℕ) → List ℕ → Row → NOut
like_out bytes p r = r_text fails r (λ t. truly (matches bytes (pattern_of p) (bytes t)))

unfoldable pub arith_out : ℕ → Row → Row → NOut
arith_out op r s = r_long fails r (λ x. r_long fails s (λ y. longs_out op x y))

unfoldable pub contains_out : ℕ → Row → NOut
contains_out n r = r_set fails r (λ l. truly (mem_n n l))

unfoldable pub all_out : Row → Row → NOut
all_out r s = r_set fails r (λ l. r_set fails s (λ k. truly (all_n k l)))

unfoldable pub any_out : Row → Row → NOut
any_out r s = r_set fails r (λ l. r_set fails s (λ k. truly (any_n k l)))

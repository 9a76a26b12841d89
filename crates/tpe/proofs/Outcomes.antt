-- What the strict operations give has words: a bool, a long of 64 bits, an entity or a value that has a number. Assumes nothing.
use mathlib.Core.Path.{◌≡◌, refl, ◌∙◌, ap}
use mathlib.Core.Bool.{Bool, true, false}
use Prim.Native.Nat.{◌+◌, ◌-◌, ◌≤◌}
use native.Mathlib.Omega.{arith}
use borrow.Author.Tests.{le-leb, lt-leb}
use lib.ListN.{length}
use lib.IntN.{ℤ, pos, negsuc}
use Rattle.cedar.specs.Rows.{Row, rbool, rlong, rtext, rent, rset, rrec}
use Rattle.cedar.specs.Numbered.{Give, NOut}
use Rattle.sheet.specs.Bytes.{long_at, half}
use Rattle.sheet.specs.State.{value_row}
use Rattle.sheet.proofs.answer.DigitsBack.{IsLong, in_range_law}
use Rattle.cedar.proofs.Outcomes.{Basic, GiveIs, OutIs}
use Rattle.value.proofs.Interned.{Formed, formed_bool, formed_long, formed_entity, long_row_law}
use Rattle.value.specs.Made.{bool_row}
use Rattle.tpe.specs.Run.{long_word, words_of}

-- ---- rows that an operation may make

abbrev pub RowFine : Row → Type 0
RowFine (rbool b) = Unit {0}
RowFine (rlong z) = IsLong z
RowFine (rtext t) = ⊥
RowFine (rent k t) = Unit {0}
RowFine (rset l) = ⊥
RowFine (rrec e) = ⊥

long_at_law : (z : ℤ) → IsLong z → long_at (long_word z) ≡ z
long_at_law (pos n) h = rw (le-leb half (half + n) (omega arith)) (ap pos (omega arith))
long_at_law (negsuc n) h = rw (lt-leb half (half - n - 1) (omega (arith, h))) (ap negsuc (omega (arith, h)))

pub bool_row_law : (b : Bool) → value_row (bool_row b) ≡ rbool b
bool_row_law true = refl
bool_row_law false = refl

pub words_row : (r : Row) → RowFine r → value_row (words_of r) ≡ r
words_row (rbool b) h = bool_row_law b
words_row (rlong z) h = long_row_law (long_word z) ∙ ap rlong (long_at_law z h)
words_row (rtext t) h = absurd h
words_row (rent k t) h = refl
words_row (rset l) h = absurd h
words_row (rrec e) h = absurd h

pub words_formed : (r : Row) → RowFine r → Formed (words_of r)
words_formed (rbool b) h = formed_bool b
words_formed (rlong z) h = formed_long (long_word z)
words_formed (rtext t) h = absurd h
words_formed (rent k t) h = formed_entity k t
words_formed (rset l) h = absurd h
words_formed (rrec e) h = absurd h

pub words_short : (r : Row) → RowFine r → length (words_of r) ≤ 3
words_short (rbool b) h = omega arith
words_short (rlong z) h = omega arith
words_short (rtext t) h = absurd h
words_short (rent k t) h = omega arith
words_short (rset l) h = absurd h
words_short (rrec e) h = absurd h

-- ---- outcomes

abbrev pub GiveFine : Give → Type 0
GiveFine g = GiveIs RowFine g

abbrev pub Fine : NOut → Type 0
Fine o = OutIs RowFine o

pub row_fine : Basic RowFine
row_fine = record { bools = λ b. tt; longs = in_range_law }

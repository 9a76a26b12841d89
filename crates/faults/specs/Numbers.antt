-- The numbers of refusals, and what callers read from a result that may be one.
use Rattle.std.specs.Prelude.{ℕ, Result, Ok, Err}
use Rattle.faults.specs.declared.Fault.{Fault}
use Rattle.faults.specs.declared.Fault.TheVariants.{ShortWork, LongSheet, Form, TooMany, Reference, Depth, Typing, Uses, ShortBuffer, Agreement, Preview, PolicyCount, ManyRows, Texts}
use Rattle.faults.specs.declared.Refusal.{Refusal}

-- the number in the table that callers know
abbrev pub number_at : Fault → ℕ
number_at ShortWork = 1
number_at LongSheet = 2
number_at Form = 3
number_at TooMany = 4
number_at Reference = 5
number_at Depth = 6
number_at Typing = 7
number_at Uses = 8
number_at ShortBuffer = 10
number_at Agreement = 11
number_at Preview = 12
number_at PolicyCount = 13
number_at ManyRows = 14
number_at Texts = 15

-- number and line of a result, 0 and 0 where nothing is refused
abbrev pub number_of : {T : Type 0} → Result T Refusal → ℕ
number_of (Ok x) = 0
number_of (Err r) = number_at r.fault

abbrev pub line_of : {T : Type 0} → Result T Refusal → ℕ
line_of (Ok x) = 0
line_of (Err r) = r.line

-- the number alone, of a result that names no line
abbrev pub fault_number : {T : Type 0} → Result T Fault → ℕ
fault_number (Ok x) = 0
fault_number (Err f) = number_at f

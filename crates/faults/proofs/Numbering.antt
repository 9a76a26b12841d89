-- No refusal has the number 0, and what is not refused has it. Assumes nothing.
use Rattle.std.proofs.Common.{◌≡◌, refl, Result, Ok, Err, is_ok, true, false, OnOk}
use Rattle.faults.specs.declared.Fault.{Fault}
use Rattle.faults.specs.declared.Fault.TheVariants.{ShortWork, LongSheet, Form, TooMany, Reference, Depth, Typing, Uses, ShortBuffer, Agreement, Preview, PolicyCount, ManyRows, Texts}
use Rattle.faults.specs.Numbers.{number_at, fault_number}

pub number_some : (f : Fault) → number_at f ≡ 0 → ⊥
number_some ShortWork e = cc
number_some LongSheet e = cc
number_some Form e = cc
number_some TooMany e = cc
number_some Reference e = cc
number_some Depth e = cc
number_some Typing e = cc
number_some Uses e = cc
number_some ShortBuffer e = cc
number_some Agreement e = cc
number_some Preview e = cc
number_some PolicyCount e = cc
number_some ManyRows e = cc
number_some Texts e = cc

module _ {T : Type 0} where
  pub fault_none : (r : Result T Fault) → true ≡ is_ok r → 0 ≡ fault_number r
  fault_none (Ok x) e = refl
  fault_none (Err f) e = cc

  pub fault_some : (r : Result T Fault) → false ≡ is_ok r → (f : Fault) × (r ≡ Err f)
  fault_some (Ok x) e = cc
  fault_some (Err f) e = (f, refl)

  -- what holds where nothing is refused
  pub on_ok : {P : Type 0} (r : Result T Fault) → true ≡ is_ok r → OnOk r P → P
  on_ok (Ok x) e h = h
  on_ok (Err f) e h = cc

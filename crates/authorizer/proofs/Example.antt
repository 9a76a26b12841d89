-- The hypotheses of demand 3 for the calls can be met: a partial sheet that leaves a policy open, and two complete sheets that agree with
-- it and settle the policy in different ways, each in work slices and a buffer of its own. Assumes nothing.
use mathlib.Core.Path.{◌≡◌, refl, ◌∙◌, ap}
use mathlib.Core.List.{List}
use Prim.Native.Nat.{ℕ}
use lib.ListN.{length}
use Rattle.cedar.specs.Canonical.{order, same, place, insert, ascending, make_set}
use Rattle.sheet.specs.Forms.{Mode, keys, partial, complete, forms, form_of, slot_at, counted, tag_of, row_of, key_of, refs, ascendings}
use Rattle.sheet.specs.Parents.{ancestors, unknown_above}
use Rattle.sheet.specs.Typing.{fits_in, nodes_under, typed}
use Rattle.sheet.specs.Sheet.{found, depth, fault, more, read}
use Rattle.sheet.specs.Content.{types, value_rows, contents, schema, trees, exprs, on_term, n_policies, policies, n_env, env}
use Rattle.sheet.specs.Answer.{run, results, answer}
use Rattle.sheet.specs.Call.{returned, written, worked}
use Rattle.sheet.specs.Demand3.{Demand3}
use Rattle.samples.proofs.ExampleBytes.{open_sheet, low, high, low_agrees, high_agrees}
use Rattle.authorizer.specs.Calls.{Run, bytes_in}
use Rattle.authorizer.proofs.Demand3.{demand_3_calls}

-- what a call leaves of what it is lent
abbrev pub run_of : (m : Mode) (sheet work₁ work₂ buffer : List ℕ) → Run m sheet
run_of m sheet work₁ work₂ buffer = record {
  work₁ = work₁;
  work₂ = work₂;
  buffer = buffer;
  number = (returned m (length work₁) (length work₂) (length buffer) sheet).number;
  line = (returned m (length work₁) (length work₂) (length buffer) sheet).line;
  len = (returned m (length work₁) (length work₂) (length buffer) sheet).length;
  buffer' = written m (length work₁) (length work₂) buffer sheet;
  work₁' = worked work₁ (length work₂);
  work₂' = worked work₂ (length work₁);
  called = record { number_is = refl; line_is = refl; length_is = refl; buffer = refl; first = refl; second = refl };
}

-- the sheets of the sheet's example, in lengths of their own
open_accepted : (returned partial 16384 20000 300 open_sheet).number ≡ 0
unfolding open_sheet keys forms form_of slot_at counted tag_of row_of key_of refs ascendings fits_in nodes_under typed found depth fault more read types value_rows contents schema trees exprs on_term n_policies policies n_env env run results answer returned ancestors unknown_above order same place insert ascending make_set
open_accepted = refl

low_accepted : (returned complete 20000 16384 300 low).number ≡ 0
unfolding low keys forms form_of slot_at counted tag_of row_of key_of refs ascendings fits_in nodes_under typed found depth fault more read types value_rows contents schema trees exprs on_term n_policies policies n_env env run results answer returned ancestors unknown_above order same place insert ascending make_set
low_accepted = refl

high_accepted : (returned complete 16384 16384 300 high).number ≡ 0
unfolding high keys forms form_of slot_at counted tag_of row_of key_of refs ascendings fits_in nodes_under typed found depth fault more read types value_rows contents schema trees exprs on_term n_policies policies n_env env run results answer returned ancestors unknown_above order same place insert ascending make_set
high_accepted = refl

-- whatever the lent words and bytes are
pub at_lengths : (m : Mode) (sheet : List ℕ) (i j k : ℕ) → (returned m i j k sheet).number ≡ 0 → (w v o : List ℕ) → length w ≡ i → length v ≡ j → length o ≡ k → (returned m (length w) (length v) (length o) sheet).number ≡ 0
at_lengths m sheet i j k e w v o hw hv ho =
    ap (λ (n : ℕ). (returned m n (length v) (length o) sheet).number) hw
    ∙ ap (λ (n : ℕ). (returned m i n (length o) sheet).number) hv
    ∙ ap (λ (n : ℕ). (returned m i j n sheet).number) ho ∙ e

three : (w v o : List ℕ) → length w ≡ 16384 → length v ≡ 20000 → length o ≡ 300
    → Demand3 open_sheet low high (bytes_in (run_of partial open_sheet w v o)) (bytes_in (run_of complete low v w o)) (bytes_in (run_of complete high w w o))
three w v o hw hv ho =
    demand_3_calls open_sheet low high (run_of partial open_sheet w v o) (run_of complete low v w o) (run_of complete high w w o)
    (at_lengths partial open_sheet 16384 20000 300 open_accepted w v o hw hv ho) (at_lengths complete low 20000 16384 300 low_accepted v w o hv hw ho)
    (at_lengths complete high 16384 16384 300 high_accepted w w o hw hw ho) low_agrees high_agrees

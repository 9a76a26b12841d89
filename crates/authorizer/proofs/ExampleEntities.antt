-- The hypotheses of demand 3 for the calls can be met where an entity is listed with unknown attributes and ancestors: the sheets of the sheet's
-- example, of which one complete sheet fills them and lists one entity more. Assumes nothing.
use mathlib.Core.Path.{◌≡◌, refl}
use mathlib.Core.List.{List}
use Prim.Native.Nat.{ℕ}
use lib.ListN.{length}
use Rattle.cedar.specs.Canonical.{order, same, place, insert, ascending, make_set}
use Rattle.sheet.specs.Forms.{keys, partial, complete, forms, form_of, slot_at, counted, tag_of, row_of, key_of, refs, ascendings}
use Rattle.sheet.specs.Parents.{ancestors, unknown_above}
use Rattle.sheet.specs.Typing.{fits_in, nodes_under, typed}
use Rattle.sheet.specs.Sheet.{found, depth, fault, more, read}
use Rattle.sheet.specs.Content.{types, value_rows, contents, schema, trees, exprs, on_term, n_policies, policies, n_env, env}
use Rattle.sheet.specs.Answer.{run, results, answer}
use Rattle.sheet.specs.Call.{returned}
use Rattle.sheet.specs.Demand3.{Demand3}
use Rattle.samples.proofs.ExampleEntities.{part_known, without, with_more, without_agrees, with_more_agrees}
use Rattle.authorizer.specs.Calls.{bytes_in}
use Rattle.authorizer.proofs.Demand3.{demand_3_calls}
use Rattle.authorizer.proofs.Example.{run_of, at_lengths}

part_known_accepted : (returned partial 16384 20000 300 part_known).number ≡ 0
unfolding part_known keys forms form_of slot_at counted tag_of row_of key_of refs ascendings fits_in nodes_under typed found depth fault more read types value_rows contents schema trees exprs on_term n_policies policies n_env env run results answer returned ancestors unknown_above order same place insert ascending make_set
part_known_accepted = refl

without_accepted : (returned complete 20000 16384 300 without).number ≡ 0
unfolding without keys forms form_of slot_at counted tag_of row_of key_of refs ascendings fits_in nodes_under typed found depth fault more read types value_rows contents schema trees exprs on_term n_policies policies n_env env run results answer returned ancestors unknown_above order same place insert ascending make_set
without_accepted = refl

with_more_accepted : (returned complete 16384 16384 300 with_more).number ≡ 0
unfolding with_more keys forms form_of slot_at counted tag_of row_of key_of refs ascendings fits_in nodes_under typed found depth fault more read types value_rows contents schema trees exprs on_term n_policies policies n_env env run results answer returned ancestors unknown_above order same place insert ascending make_set
with_more_accepted = refl

three : (w v o : List ℕ) → length w ≡ 16384 → length v ≡ 20000 → length o ≡ 300
    → Demand3 part_known without with_more (bytes_in (run_of partial part_known w v o)) (bytes_in (run_of complete without v w o)) (bytes_in (run_of complete with_more w w o))
three w v o hw hv ho =
    demand_3_calls part_known without with_more (run_of partial part_known w v o) (run_of complete without v w o) (run_of complete with_more w w o)
    (at_lengths partial part_known 16384 20000 300 part_known_accepted w v o hw hv ho) (at_lengths complete without 20000 16384 300 without_accepted v w o hv hw ho)
    (at_lengths complete with_more 16384 16384 300 with_more_accepted w w o hw hw ho) without_agrees with_more_agrees

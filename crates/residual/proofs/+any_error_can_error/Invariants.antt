-- What the search of `any_error` keeps, and the measures of the cycle {any_error, can_error}.
use mathlib.Core.Path.{◌≡◌}
use Prim.Native.Nat.{◌+◌, ◌*◌}
use Rattle.sheet.specs.Forms.{NODE}
use Rattle.table.specs.Layout.{rows_of}
use Rattle.residual.specs.Errs.{blocks_err, errs_by}
use Rattle.residual.proofs.+any_error_can_error.Given as goal

abbrev pub decreases-any_error : goal.decreases-any_error
decreases-any_error l = l.depth * 2 + 1

abbrev pub decreases-can_error : goal.decreases-can_error
decreases-can_error l = l.depth * 2

abbrev pub invariant-any_error-loop-p : goal.invariant-any_error-loop-p
invariant-any_error-loop-p l =
    let f = errs_by (rows_of l.rows NODE) l.log l.depth in
    blocks_err f l.log l.start l.end ≡ blocks_err f l.log l.start l.p

abbrev pub decreases-any_error-loop-p : goal.decreases-any_error-loop-p
decreases-any_error-loop-p l = l.p

-- `line::row_from` meets its contract. Assumes nothing.
use native.Mathlib.Omega.{arith}
use Rattle.std.proofs.Common.{refl}
use Rattle.line.proofs.LawsRow.{from_bad, from_good}
use Rattle.line.proofs.row_from.Goals as goal

pub returns-in_err-end : goal.returns-in_err-end
returns-in_err-end c = let a = c.args in rw c.from_residual.ensures (from_bad a.tag a.j a.top a.cursor.at _ _ a.rows.now (omega arith) (omega arith) (omega arith) (omega arith) c.requires.2 _ 0 c.in_err-end.ensures refl)

pub returns : goal.returns
returns c =
    let a = c.args in
    (from_good a.tag a.j a.top a.cursor.at _ _ a.rows.now (omega arith) (omega arith) (omega arith) (omega arith) c.requires.2 _ c.in_ok-end.end c.put_items.auto.rows c.in_ok-end.ensures.0 (λ z. omega (arith, c.in_ok-end.ensures.1, z)), omega (arith, c.in_ok-end.ensures.0.grows c.in_ok-end.ensures.1))

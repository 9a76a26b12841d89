-- `scan::find` meets its contract. Assumes nothing.
use Rattle.std.proofs.Common.{◌≡◌, ◌+◌, ◌∙◌, ap, length}
use Rattle.std.specs.Option.{unwrap_or}
use Rattle.sheet.specs.Bytes.{up_to}
use Rattle.scan.proofs.Scans.{up_to_found}
use Rattle.scan.proofs.find.Goals as goal

pub returns : goal.returns
returns c =
    let l = c.rest-left.result.now in
    let q : c.unwrap_or.result ≡ up_to c.args.byte l = c.unwrap_or.ensures ∙ ap (λ o. unwrap_or o (length l)) c.first.ensures ∙ up_to_found c.args.byte l in
    ap (λ n. c.args.from + n) (q ∙ ap (up_to c.args.byte) c.rest-left.ensures)

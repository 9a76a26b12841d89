-- `page::paged` meets its contract. Assumes nothing.
use Rattle.std.proofs.Common.{◌≡◌}
use Rattle.faults.specs.Numbers.{number_of}
use Rattle.page.proofs.Paging.{refused, shown}
use borrow.Author.Rules.{rules}
use Rattle.page.proofs.paged.Goals as goal

pub returns-in-Err : goal.returns-in-Err
returns-in-Err c = search (refused, rules)

pub returns : goal.returns
returns c = let z : number_of c.open.result ≡ 0 = search rules in search (shown, rules)

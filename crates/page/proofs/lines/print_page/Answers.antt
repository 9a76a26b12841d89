-- `page::lines::print_page` meets its contract. Assumes nothing.
use Rattle.page.proofs.Rows.{page_is}
use borrow.Author.Rules.{rules}
use Rattle.page.proofs.lines.print_page.Goals as goal

pub returns : goal.returns
returns c = search (page_is, rules)

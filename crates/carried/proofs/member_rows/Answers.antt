-- `carried::member_rows` meets its contract. Assumes nothing.
use Rattle.carried.proofs.Carrying.{members_more, members_end}
use borrow.Author.Rules.{rules}
use Rattle.carried.proofs.member_rows.Goals as goal

pub loop-member-preserved : goal.loop-member-preserved
loop-member-preserved c = search (members_more, rules)

pub returns : goal.returns
returns c = search (members_end, rules)

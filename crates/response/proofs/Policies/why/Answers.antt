-- `response::Policies::why` meets its contract. Assumes nothing.
use Rattle.response.proofs.Naming.{why_allow, why_deny, why_open}
use borrow.Author.Rules.{rules}
use Rattle.response.proofs.Policies.why.Goals as goal

pub returns-in-Allow : goal.returns-in-Allow
returns-in-Allow c = search (why_allow, rules)

pub returns-in-Deny : goal.returns-in-Deny
returns-in-Deny c = search (why_deny, rules)

pub returns-in-Open : goal.returns-in-Open
returns-in-Open c = search (why_open, rules)

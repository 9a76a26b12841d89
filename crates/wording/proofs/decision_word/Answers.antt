-- `wording::decision_word` meets its contract. Assumes nothing.
use Rattle.wording.proofs.Lines.{word_allow, word_deny, word_open}
use borrow.Author.Rules.{rules}
use Rattle.wording.proofs.decision_word.Goals as goal

pub returns-then-decision-eq-ALLOW : goal.returns-then-decision-eq-ALLOW
returns-then-decision-eq-ALLOW c = search (word_allow, rules)

pub returns-then-decision-eq-DENY : goal.returns-then-decision-eq-DENY
returns-then-decision-eq-DENY c = search (word_deny, rules)

pub returns : goal.returns
returns c = search (word_open, rules)

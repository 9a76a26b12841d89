-- `take::put_notes` meets its contract. Assumes nothing.
use Rattle.take.proofs.Noting.{note_node, note_policy, note_none}
use borrow.Author.Rules.{rules}
use Rattle.take.proofs.put_notes.Goals as goal

pub returns-then-key-eq-NODE : goal.returns-then-key-eq-NODE
returns-then-key-eq-NODE c = search (note_node, rules)

pub returns-then-key-eq-POLICY : goal.returns-then-key-eq-POLICY
returns-then-key-eq-POLICY c = search (note_policy, rules)

pub returns-else-key-eq-POLICY : goal.returns-else-key-eq-POLICY
returns-else-key-eq-POLICY c = search (note_none, rules)

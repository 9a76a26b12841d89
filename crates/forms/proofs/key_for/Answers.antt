-- `forms::key_for` meets its contract. Assumes nothing.
use Rattle.forms.proofs.Bytes.{key_word}
use borrow.Author.Rules.{rules}
use Rattle.forms.proofs.key_for.Goals as goal

pub returns : goal.returns
returns c = search (key_word, rules)

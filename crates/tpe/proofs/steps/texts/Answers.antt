-- `tpe::steps::texts` meets its contract. Assumes nothing.
use Rattle.tpe.proofs.Operated.{texts_none, texts_some}
use Rattle.tpe.proofs.steps.texts.Goals as goal

pub returns-then-line-lt3 : goal.returns-then-line-lt3
returns-then-line-lt3 c = search texts_none

pub returns : goal.returns
returns c = search texts_some

-- `element_of`: by the tag.
use Rattle.typerows.proofs.Typings.{element_is, element_not}
use Rattle.typerows.proofs.element_of.Goals as goal

pub returns-then-tag-eq-SET_TYPE : goal.returns-then-tag-eq-SET_TYPE
returns-then-tag-eq-SET_TYPE c = search element_is

pub returns : goal.returns
returns c = search element_not

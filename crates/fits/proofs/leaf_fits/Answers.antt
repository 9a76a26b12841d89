-- `leaf_fits`: one law for each tag of the type.
use Rattle.fits.proofs.Sorts.{leaf_bool, leaf_entity, leaf_long, leaf_no_entity, leaf_text}
use Rattle.fits.proofs.leaf_fits.Goals as goal

pub returns-in-4 : goal.returns-in-4
returns-in-4 c = search leaf_long

pub returns-in-5 : goal.returns-in-5
returns-in-5 c = search leaf_text

pub returns-in-13 : goal.returns-in-13
returns-in-13 c = search leaf_entity

pub returns-in_default-k : goal.returns-in_default-k
returns-in_default-k c = search leaf_no_entity

pub returns-in_default : goal.returns-in_default
returns-in_default c = search leaf_bool

-- `after`: one law for each answer.
use Rattle.fits.proofs.Walks.{after_end, after_hit, after_off}
use Rattle.fits.proofs.after.Goals as goal

pub returns-in-len2-up : goal.returns-in-len2-up
returns-in-len2-up c = search after_hit

pub returns-in_default : goal.returns-in_default
returns-in_default c = search after_end

pub returns-in_default-2 : goal.returns-in_default-2
returns-in_default-2 c = search after_off

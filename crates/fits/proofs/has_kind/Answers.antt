-- `has_kind`: the kinds are searched.
use Rattle.fits.proofs.KindLaws.{kind_is}
use Rattle.fits.proofs.has_kind.Goals as goal

pub returns : goal.returns
returns c = search kind_is

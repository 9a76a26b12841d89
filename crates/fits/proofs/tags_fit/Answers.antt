-- `tags_fit`: what is left of the tags decides.
use Rattle.fits.proofs.Search.{tags_start}
use borrow.Author.Rules.{rules}
use Rattle.fits.proofs.tags_fit.Goals as goal

pub loop-rest-init : goal.loop-rest-init
loop-rest-init c = (search tags_start, search rules)

-- `scan::listed_key` meets its contract. Assumes nothing.
use Rattle.scan.proofs.Wordlists.{key_number}
use Rattle.scan.proofs.listed_key.Goals as goal

pub returns : goal.returns
returns c = search key_number

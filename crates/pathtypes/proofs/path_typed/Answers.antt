-- `path_typed`: what is left of the path decides.
use Rattle.pathtypes.proofs.PathLaws.{path_many, single_nowhere, single_left, single_end, single_free, single_on}
use borrow.Author.Rules.{rules}
use Rattle.pathtypes.proofs.path_typed.Goals as goal

pub returns-then-count-gt-TYPES : goal.returns-then-count-gt-TYPES
returns-then-count-gt-TYPES c = search path_many

pub loop-y-preserved : goal.loop-y-preserved
loop-y-preserved c = let l = c in search (single_on _ _ _ _ l.count.ensures l.if-count-gt-TYPES.false _ _ l.loop-y.invariant _ c.place_of-p.ensures, c.in-Some.ensures, rules)

pub returns-in-Nowhere : goal.returns-in-Nowhere
returns-in-Nowhere c = search single_nowhere

pub returns-in-Group : goal.returns-in-Group
returns-in-Group c = search single_left

pub returns-then-i-line : goal.returns-then-i-line
returns-then-i-line c = search single_end

pub returns-then-is_searched_once : goal.returns-then-is_searched_once
returns-then-is_searched_once c = search single_left

pub returns-in_default : goal.returns-in_default
returns-in_default c = search (single_free, c.in_default.ensures)

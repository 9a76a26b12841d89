-- `yielding::over` meets its contract. Assumes nothing.
use Rattle.yielding.proofs.Turning.{over_logic, over_two, over_if, over_one, over_past}
use Rattle.yielding.proofs.over.Goals as goal

pub returns-then-tag-lt-EQ : goal.returns-then-tag-lt-EQ
returns-then-tag-lt-EQ c = search over_logic

pub returns-then-tag-lt-IF : goal.returns-then-tag-lt-IF
returns-then-tag-lt-IF c = search over_two

pub returns-then-tag-lt-IS : goal.returns-then-tag-lt-IS
returns-then-tag-lt-IS c = search over_if

pub returns-then-tag-lt-SET_OF : goal.returns-then-tag-lt-SET_OF
returns-then-tag-lt-SET_OF c = search over_one

pub returns : goal.returns
returns c = search over_past

-- The rows of a sheet and of its policies that run, as words: a run has room for what it makes beside them.
use Rattle.std.specs.Prelude.{List, ℕ, ◌+◌, ◌*◌, ◌≤◌, get_or}
use Rattle.sheet.specs.Forms.{NODE}
use Rattle.table.specs.Layout.{RUN, TOP, RUN_WORDS, heap, limit}

-- of the 16,384 bytes of a sheet each item of a row takes two at least, and a node's line six more; then come the rows of the policies that run
abbrev pub Fits : List ℕ → Type 0
Fits a = 2 * get_or a TOP 0 + 6 * get_or a NODE 0 ≤ 2 * heap + 16384 + 2 * (RUN_WORDS * limit RUN)

-- What is noted of each policy after a run: its class and the number of its root's row, in two runs of words of b.
use Rattle.std.specs.Prelude.{cond, ◌&&◌, List, [], ◌∷◌, ℕ, zero, suc, ◌+◌, ◌-◌, ◌/◌, leb, get_or, set}
use Rattle.cedar.specs.Runs.{NVerdict}
use Rattle.residual.specs.Rows.{ROW, stage_at, start_at}
use Rattle.residual.specs.Classes.{class_number}
use Rattle.table.specs.Layout.{RUN}
use Rattle.tpe.specs.Run.{class_by}

-- where they stand
abbrev pub CLASSES : ℕ
CLASSES = 8192

abbrev pub ROOTS : ℕ
ROOTS = 8256

-- of k policies, the last one first: its block ends at e, and a row has four words
unfoldable pub lines_from : List ℕ → ℕ → ℕ → List ℕ → List ℕ
lines_from a zero e b = b
lines_from a (suc k) e b = lines_from a k (start_at b e) (set (set b (CLASSES + k) (class_number (class_by a (stage_at b e)))) (ROOTS + k) (e / ROW - 1))

-- of all policies, whose blocks end at bt; nothing where there are too many
unfoldable pub lines_of : List ℕ → List ℕ → ℕ → List ℕ
lines_of a b bt = cond (leb (get_or a RUN 0) 64 && leb bt 16384) (lines_from a (get_or a RUN 0) bt b) b

-- ---- the classes of the lines of a run

abbrev pub classes_of : List NVerdict → List ℕ
classes_of [] = []
classes_of (l ∷ ls) = class_number l.class ∷ classes_of ls

-- What is asked before a line: whether an entity line reaches a kind that is not above its own.
use Rattle.std.specs.Prelude.{cond, List, [], ℕ, suc, ◌+◌, ltb, eqb, get_or, Option, Some, None}
use Rattle.sheet.specs.Ascii.{ascii}
use Rattle.sheet.specs.Bytes.{starts}
use Rattle.sheet.specs.Forms.{ENTITY, PRINCIPAL}
use Rattle.sheet.specs.State.{before}
use Rattle.table.specs.Layout.{rows_of, held}
use Rattle.above.specs.Fitting.{unfit_from}

-- the number of entity line n, where there is one
abbrev pub entity_line : List ℕ → ℕ → Option ℕ
entity_line a n = cond (ltb n (get_or a ENTITY 0)) (Some (suc (before (held [] a []) ENTITY + n))) None

-- the first such line of the rows a, if there is one; entity lines go on where the bytes that are left begin with `entity=`, and where there is a
-- principal line it was asked before
unfoldable pub unfit_line : List ℕ → List ℕ → Option ℕ
unfit_line a bytes = cond (eqb (get_or a PRINCIPAL 0) 0) (cond (starts (ascii "entity=") bytes) None (entity_line a (unfit_from a (rows_of a ENTITY)))) None

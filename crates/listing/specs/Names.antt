-- The names of operations.
use Rattle.std.specs.Prelude.{cond, ℕ, ltb}
use Prim.Native.String.{String}
use Rattle.sheet.specs.Forms.{form_of, first_node}

-- the name of an operation; the forms before them have none here
unfoldable pub op_name_def : ℕ → String
op_name_def t = cond (ltb t first_node) "" (form_of t).name

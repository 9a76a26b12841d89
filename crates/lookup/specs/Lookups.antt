-- Look-ups of entities and of the fields of records, by number.
use Rattle.std.specs.Prelude.{Option as Maybe, Some, None, Bool, cond, ◌&&◌, ◌||◌, List, [], ℕ, zero, suc, ◌+◌, ◌/◌, eqb, leb, ltb, get_or, length}
use Rattle.std.proofs.Math.Option.{Option, none, some}
use Rattle.cedar.specs.Rows.{Row, rbool, rlong, rtext, rent, rset, rrec, same_row}
use Rattle.cedar.specs.Numbered.{NEnv, r_rec, entry_of, row_at}
use Rattle.sheet.specs.Forms.{Mode, at, mark, VALUE, ENTITY}
use Rattle.sheet.specs.State.{State, value_row}
use Rattle.sheet.specs.Content.{given, look_up, line_given, rows_in}
use Rattle.table.specs.Layout.{base, held, rows_of}
use Rattle.value.specs.Lines.{value_lines}
use Rattle.lookup.specs.declared.Part.{Part}
use Rattle.lookup.specs.declared.Part.TheVariants.{Known, Empty, Unknown}
use Rattle.lookup.specs.declared.Look.{Look}
use Rattle.lookup.specs.declared.Look.TheVariants.{At as Atˡ, Missing, Unknown as Unknownˡ, Bad}

-- the values by number
unfoldable pub values : List ℕ → List Row
values a = rows_in (value_lines a)

unfoldable pub value_in : List ℕ → ℕ → Row
value_in a v = row_at (values a) v

-- the lines that the words hold, without the bytes of texts
unfoldable pub state_in : List ℕ → State
state_in a = held [] a []

-- whether the word that would be the text of entity v of the sheet is t; a missing word is 0
unfoldable pub text_there : List ℕ → ℕ → ℕ → Bool
text_there a v t = eqb t 0 || eqb (get_or a (get_or a (base VALUE + v) 0 + 2) 0) t

-- whether value v of the sheet is this entity
unfoldable pub is_entity_at : List ℕ → ℕ → ℕ → ℕ → Bool
is_entity_at a v k t = same_row (value_row (get_or (rows_of a VALUE) v [])) (rent k t)

-- the line of an entity
unfoldable pub line_in : List ℕ → ℕ → ℕ → Option (List ℕ)
line_in a k t = look_up (state_in a) k t

abbrev pub line_at : List (List ℕ) → Maybe ℕ → Option (List ℕ)
line_at rows (Some i) = some (get_or rows i [])
line_at rows None = none

-- ---- the line of an entity by its value number, which lines ascend by

-- of line i and a later one the later, where it is there and its entity's number is at most v
unfoldable pub nearer : List (List ℕ) → ℕ → ℕ → ℕ → ℕ
nearer E v i j = cond (ltb j (length E)) (cond (leb (at (get_or E j []) 0) v) j i) i

-- where n steps lead from line i, each half as long as the one before
unfoldable pub led_from : List (List ℕ) → ℕ → ℕ → ℕ → ℕ → ℕ
led_from E v zero step i = i
led_from E v (suc n) step i = led_from E v n (step / 2) (nearer E v i (i + step))

-- the first step, and how many steps pass over all lines: "`entity=` 128"
abbrev pub HALF : ℕ
HALF = 64

abbrev pub HALVINGS : ℕ
HALVINGS = 7

-- whether line i names value v, which is this entity
unfoldable pub is_line : List ℕ → ℕ → ℕ → ℕ → ℕ → Bool
is_line a v k t i = ltb i (length (rows_of a ENTITY)) && (eqb (at (get_or (rows_of a ENTITY) i []) 0) v && is_entity_at a v k t)

-- the line of the entity with value number v: that which halving leads to, or else the first
abbrev pub line_or : List ℕ → ℕ → ℕ → ℕ → ℕ → Option (List ℕ)
line_or a v k t i = cond (is_line a v k t i) (some (get_or (rows_of a ENTITY) i [])) (line_in a k t)

unfoldable pub line_by : List ℕ → ℕ → ℕ → ℕ → Option (List ℕ)
line_by a v k t = line_or a v k t (led_from (rows_of a ENTITY) v HALVINGS HALF 0)

-- the request, and the entities as look-ups for value v find them
unfoldable pub env_by : Mode → List ℕ → ℕ → NEnv
env_by m a v = record { request = given (state_in a); line = λ k t. line_given m (state_in a) (line_by a v k t) }

-- where an entity's attributes and tags stand in its line
abbrev pub ATTRIBUTES : ℕ
ATTRIBUTES = 1

abbrev pub TAGS : ℕ
TAGS = 2

-- what is known of a part of an entity: none where it is unknown, else nothing at all or a value; as the code answers it
abbrev pub part_of : Part → Option (Option ℕ)
part_of (Known v) = some (some v)
part_of Empty = some none
part_of Unknown = none

-- item j of a line; of an unlisted entity, nothing on a complete sheet
abbrev pub part_of_line : Bool → Option (List ℕ) → ℕ → Option (Option ℕ)
part_of_line c none j = cond c (some none) none
part_of_line c (some r) j = cond (eqb (at r j) mark) none (some (some (at r j)))

unfoldable pub part_in : Bool → List ℕ → ℕ → ℕ → ℕ → Option (Option ℕ)
part_in c a k t j = part_of_line c (line_in a k t) j

-- the same by value number
unfoldable pub part_by : Bool → List ℕ → ℕ → ℕ → ℕ → ℕ → Option (Option ℕ)
part_by c a v k t j = part_of_line c (line_by a v k t) j

abbrev pub look_found : Option ℕ → Look
look_found none = Missing
look_found (some x) = Atˡ x

-- text u in a record
unfoldable pub look_row : Row → ℕ → Look
look_row r u = r_rec Bad r (λ e. look_found (entry_of u e))

-- and in a part of the line of an entity of kind k
abbrev pub look_in : List ℕ → ℕ → Option (Option ℕ) → ℕ → Look
look_in a k (some (some n)) u = look_row (value_in a n) u
look_in a k (some none) u = Missing
look_in a k none u = Unknownˡ k

-- and among the attributes of a record or an entity, where p gives the record of an entity
abbrev pub look_over : (ℕ → ℕ → Option (Option ℕ)) → List ℕ → Row → ℕ → Look
look_over p a (rbool b) u = Bad
look_over p a (rlong n) u = Bad
look_over p a (rtext t) u = Bad
look_over p a (rent k t) u = look_in a k (p k t) u
look_over p a (rset l) u = Bad
look_over p a (rrec e) u = look_found (entry_of u e)

abbrev pub look_value : Bool → List ℕ → Row → ℕ → Look
look_value c a r u = look_over (λ k t. part_in c a k t ATTRIBUTES) a r u

unfoldable pub look_attr : Bool → List ℕ → ℕ → ℕ → Look
look_attr c a v u = look_value c a (value_in a v) u

-- the same by value number
unfoldable pub look_by : Bool → List ℕ → ℕ → ℕ → Look
look_by c a v u = look_over (λ k t. part_by c a v k t ATTRIBUTES) a (value_in a v) u

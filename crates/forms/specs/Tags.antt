-- The tags of the forms by name, in the table's order; the code's constants have the same names.
use Rattle.std.specs.Prelude.{ℕ, ◌+◌}

abbrev pub SHEET_LINE : ℕ
SHEET_LINE = 0

abbrev pub TEXT_LINE : ℕ
TEXT_LINE = SHEET_LINE + 1

abbrev pub KIND_LINE : ℕ
KIND_LINE = TEXT_LINE + 1

abbrev pub BOOL_TYPE : ℕ
BOOL_TYPE = KIND_LINE + 1

abbrev pub LONG_TYPE : ℕ
LONG_TYPE = BOOL_TYPE + 1

abbrev pub STRING_TYPE : ℕ
STRING_TYPE = LONG_TYPE + 1

abbrev pub ENTITY_TYPE : ℕ
ENTITY_TYPE = STRING_TYPE + 1

abbrev pub SET_TYPE : ℕ
SET_TYPE = ENTITY_TYPE + 1

abbrev pub RECORD_TYPE : ℕ
RECORD_TYPE = SET_TYPE + 1

abbrev pub SHAPE_LINE : ℕ
SHAPE_LINE = RECORD_TYPE + 1

abbrev pub BOOL_VALUE : ℕ
BOOL_VALUE = SHAPE_LINE + 1

abbrev pub LONG_VALUE : ℕ
LONG_VALUE = BOOL_VALUE + 1

abbrev pub TEXT_VALUE : ℕ
TEXT_VALUE = LONG_VALUE + 1

abbrev pub ENTITY_VALUE : ℕ
ENTITY_VALUE = TEXT_VALUE + 1

abbrev pub SET_VALUE : ℕ
SET_VALUE = ENTITY_VALUE + 1

abbrev pub RECORD_VALUE : ℕ
RECORD_VALUE = SET_VALUE + 1

abbrev pub ENTITY_LINE : ℕ
ENTITY_LINE = RECORD_VALUE + 1

abbrev pub PRINCIPAL_LINE : ℕ
PRINCIPAL_LINE = ENTITY_LINE + 1

abbrev pub ACTION_LINE : ℕ
ACTION_LINE = PRINCIPAL_LINE + 1

abbrev pub RESOURCE_LINE : ℕ
RESOURCE_LINE = ACTION_LINE + 1

abbrev pub CONTEXT_LINE : ℕ
CONTEXT_LINE = RESOURCE_LINE + 1

abbrev pub LIT : ℕ
LIT = CONTEXT_LINE + 1

abbrev pub ERR : ℕ
ERR = LIT + 1

abbrev pub VAR : ℕ
VAR = ERR + 1

abbrev pub AND : ℕ
AND = VAR + 1

abbrev pub OR : ℕ
OR = AND + 1

abbrev pub EQ : ℕ
EQ = OR + 1

abbrev pub LT : ℕ
LT = EQ + 1

abbrev pub LE : ℕ
LE = LT + 1

abbrev pub ADD : ℕ
ADD = LE + 1

abbrev pub SUB : ℕ
SUB = ADD + 1

abbrev pub MUL : ℕ
MUL = SUB + 1

abbrev pub IN : ℕ
IN = MUL + 1

abbrev pub GETTAG : ℕ
GETTAG = IN + 1

abbrev pub HASTAG : ℕ
HASTAG = GETTAG + 1

abbrev pub CONTAINS : ℕ
CONTAINS = HASTAG + 1

abbrev pub ALL : ℕ
ALL = CONTAINS + 1

abbrev pub ANY : ℕ
ANY = ALL + 1

abbrev pub IF : ℕ
IF = ANY + 1

abbrev pub IS : ℕ
IS = IF + 1

abbrev pub LIKE : ℕ
LIKE = IS + 1

abbrev pub GET : ℕ
GET = LIKE + 1

abbrev pub HAS : ℕ
HAS = GET + 1

abbrev pub HASPATH : ℕ
HASPATH = HAS + 1

abbrev pub NOT : ℕ
NOT = HASPATH + 1

abbrev pub NEG : ℕ
NEG = NOT + 1

abbrev pub EMPTY : ℕ
EMPTY = NEG + 1

abbrev pub SET_OF : ℕ
SET_OF = EMPTY + 1

abbrev pub RECORD_OF : ℕ
RECORD_OF = SET_OF + 1

abbrev pub SLOT : ℕ
SLOT = RECORD_OF + 1

abbrev pub POLICY_LINE : ℕ
POLICY_LINE = SLOT + 1

abbrev pub DAY_LINE : ℕ
DAY_LINE = POLICY_LINE + 1

abbrev pub LINK_LINE : ℕ
LINK_LINE = DAY_LINE + 1

abbrev pub TERM_LINE : ℕ
TERM_LINE = LINK_LINE + 1

-- ---- words at a place: what each is in a row

-- `e` and `a` of a kind
abbrev pub ORDINARY : ℕ
ORDINARY = 0

abbrev pub OF_ACTIONS : ℕ
OF_ACTIONS = 1

-- `o` and `r` of an attribute
abbrev pub OPTIONAL : ℕ
OPTIONAL = 0

abbrev pub REQUIRED : ℕ
REQUIRED = 1

-- `p`, `a`, `r` and `c` of a variable
abbrev pub PART_P : ℕ
PART_P = 0

abbrev pub PART_A : ℕ
PART_A = 1

abbrev pub PART_R : ℕ
PART_R = 2

abbrev pub PART_C : ℕ
PART_C = 3

-- `p` and `r` of a slot
abbrev pub SLOT_P : ℕ
SLOT_P = 0

abbrev pub SLOT_R : ℕ
SLOT_R = 1

-- the effects of a policy
abbrev pub PERMIT : ℕ
PERMIT = 0

abbrev pub FORBID : ℕ
FORBID = 1

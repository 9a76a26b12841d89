-- Document 01, "The answer" and Cedar's rule: the decision that the policies give, and the choices that make it open.
use Rattle.std.specs.Prelude.{Bool, true, false, cond, ◌||◌, ◌&&◌, List, [], ◌∷◌}
use Rattle.cedar.specs.Residual.{Class, ctrue, cfalse, cerror, copen}

pub data Effect : Type 0 where
  permit forbid : Effect

-- A policy's line in an answer: its effect and what it is called.
pub record Verdict : Type 0 where
  pub effect : Effect
  pub class : Class

-- "allow|deny|open"
pub data Decision : Type 0 where
  allow deny undecided : Decision

abbrev pub is_permit : Effect → Bool
is_permit permit = true
is_permit forbid = false

abbrev pub is_forbid : Effect → Bool
is_forbid permit = false
is_forbid forbid = true

abbrev pub is_true : Class → Bool
is_true ctrue = true
is_true cfalse = false
is_true cerror = false
is_true copen = false

abbrev pub is_open : Class → Bool
is_open ctrue = false
is_open cfalse = false
is_open cerror = false
is_open copen = true

-- Whether there is a line of this effect and class.
abbrev pub any_line : (Effect → Bool) → (Class → Bool) → List Verdict → Bool
any_line f g [] = false
any_line f g (l ∷ ls) = (f l.effect && g l.class) || any_line f g ls

-- `decide` of tpe/response.rs, told whether there are true forbids, true permits, open permits and open forbids.
abbrev pub decide : Bool → Bool → Bool → Bool → Decision
decide true tp op of = deny
decide false false false of = deny
decide false true op true = undecided
decide false false true true = undecided
decide false false true false = undecided
decide false true op false = allow

abbrev pub decision : List Verdict → Decision
decision ls = decide (any_line is_forbid is_true ls) (any_line is_permit is_true ls) (any_line is_permit is_open ls) (any_line is_forbid is_open ls)

-- Cedar's rule: "deny if a forbid is true, else allow if a permit is true, else deny; errors are skipped."
abbrev pub cedar : List Verdict → Decision
cedar ls = cond (any_line is_forbid is_true ls) deny (cond (any_line is_permit is_true ls) allow deny)

-- "some choice of true, false or error for each open policy"; the others keep what they are called.
pub data Choice : Class → Class → Type 0 where
  keep_true : Choice ctrue ctrue
  keep_false : Choice cfalse cfalse
  keep_error : Choice cerror cerror
  take_true : Choice copen ctrue
  take_false : Choice copen cfalse
  take_error : Choice copen cerror

pub data Choices : List Verdict → List Verdict → Type 0 where
  done : Choices [] []
  also : {e : Effect} {c d : Class} {ls ms : List Verdict} → Choice c d → Choices ls ms → Choices (record { effect = e; class = c } ∷ ls) (record { effect = e; class = d } ∷ ms)

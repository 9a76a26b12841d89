-- Document 02, 2.2: "After `counts` comes `why=` with the text number of a policy's id: a true forbid for a deny, a true permit for an
-- allow. It is `why=none` for open and for a deny without a true forbid." 2.8: "`why` is the first such policy in the sheet's order."
use Rattle.std.specs.Prelude.{Bool, cond, ◌&&◌, List, [], ◌∷◌, ℕ}
use Rattle.std.proofs.Math.Option.{Option, none, some}
use Rattle.cedar.specs.Response.{Effect, is_permit, is_forbid, is_true, Verdict, Decision, allow, deny, undecided, decision}
use Rattle.sheet.specs.Ascii.{ascii}
use Rattle.sheet.specs.Bytes.{digits}

-- a name: the text number of a policy's id, or none
abbrev pub Name : Type 0
Name = Option ℕ

-- the ids of the policies of an effect that are called true, in the sheet's order
abbrev pub true_ones : (Effect → Bool) → List ℕ → List Verdict → List ℕ
true_ones f [] ls = []
true_ones f (i ∷ is) [] = []
true_ones f (i ∷ is) (l ∷ ls) = cond (f l.effect && is_true l.class) (i ∷ true_ones f is ls) (true_ones f is ls)

-- "a true forbid for a deny, a true permit for an allow": the ids of all of them; nobody for open
abbrev pub reasons_for : Decision → List ℕ → List Verdict → List ℕ
reasons_for allow is ls = true_ones is_permit is ls
reasons_for deny is ls = true_ones is_forbid is ls
reasons_for undecided is ls = []

abbrev pub reasons : List ℕ → List Verdict → List ℕ
reasons is ls = reasons_for (decision ls) is ls

-- "the first such policy"; none where there is none
abbrev pub first_name : List ℕ → Name
first_name [] = none
first_name (i ∷ l) = some i

-- the name of an answer whose policies, of these ids, are called so. A partial sheet does not settle it: "an open policy of its effect before
-- it may still turn true."
abbrev pub why : List ℕ → List Verdict → Name
why is ls = first_name (reasons is ls)

-- the item of the line
abbrev pub why_item : Name → List ℕ
why_item none = ascii "none"
why_item (some i) = digits i

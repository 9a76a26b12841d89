-- Document 01, "Cases K1 to K10 form one list", and beside it the cases of "What students would write":
-- what is asked and what is told, over literals that are values or their numbers.
use Rattle.std.specs.Prelude.{Bool, true, false, cond, ◌&&◌, List, [], ◌∷◌, ℕ, eqb, pos, negsuc}
use Rattle.std.proofs.Math.Option.{Option, none, some}
use Rattle.cedar.specs.Value.{Value, vbool, vlong, vtext, vent, vset, vnil, fnil}
use Rattle.cedar.specs.Types.{Ty, tbool, tlong, tstr, tent, tset, trec, anil, acons, Schema, Var, principal, action, resource, context}
use Rattle.cedar.specs.Residual.{Node, lit, err, var, and, or, ite, un, bin, rel, get, has, uneg, ulike, badd, beq, rin, rhastag}
use Rattle.cedar.specs.Entities.{PEnv, PLine}
use Rattle.cedar.specs.Interpret.{interpret}
use Rattle.cedar.specs.Response.{Effect, permit, forbid, Decision, deny, undecided, decision}
use Rattle.cedar.specs.Rows.{Row, rbool, rlong, rtext, rent, rset, rrec, stop}
use Rattle.cedar.specs.Numbered.{NEnv, NLine, old, n_interpret}
use Rattle.cedar.specs.Runs.{Policy, NPolicy, n_run, verdicts}
use Rattle.cedar.specs.ContentRun.{partial_answer}

-- Kind 0 has an optional bool, text 2, and is above itself. Kind 1 is the action's. Text 0 is empty, the others are `a`.
-- The context has a required bool, text 2.
abbrev pub bytes : ℕ → List ℕ
bytes ℕ.zero = []
bytes (ℕ.suc n) = 97 ∷ []

abbrev pub request : Var → Ty
request principal = tent 0 []
request action = tent 1 []
request resource = tent 0 []
request context = trec (acons 2 true tbool anil)

abbrev pub schema : Schema
schema = record { shape = λ k. record { is_action = eqb k 1; attrs = cond (eqb k 0) (acons 2 false tbool anil) anil; tags = none; above = cond (eqb k 0) (0 ∷ []) [] }; bytes = bytes; request = request }

-- The request is unknown. Entity 0,1 is listed, its attributes are known, its tags and ancestors unknown. No other is listed.
abbrev pub broker : Bool → Option PLine
broker true = some (record { attrs = some fnil; tags = none; ancestors = none })
broker false = none

abbrev pub unknown : PEnv
unknown = record { request = λ x. none; line = λ k t. broker (eqb k 0 && eqb t 1) }

-- The values that the cases name.
pub record Literals (L : Type 0) : Type 0 where
  pub is_false : L
  pub is_true : L
  pub least : L
  pub most : L
  pub one : L
  pub entity : L
  pub unlisted : L
  pub act : L
  pub empty_set : L
  pub empty_text : L
  pub text_a : L

pub record Rule (L : Type 0) : Type 0 where
  pub effect : Effect
  pub tree : Node L

-- A tree is asked for what is left of it, a list of policies for the decision.
pub data Asked (L : Type 0) : Type 0 where
  tree : Node L → Asked L
  policies : List (Rule L) → Asked L

pub data Told (L : Type 0) : Type 0 where
  leaves : Node L → Told L
  decides : Decision → Told L

pub record Case (L : Type 0) : Type 0 where
  pub asked : Asked L
  pub told : Told L

module _ {L : Type 0} (l : Literals L) where
  abbrev pub nay : Node L
  nay = lit tbool l.is_false

  abbrev pub yea : Node L
  yea = lit tbool l.is_true

  -- An open test that cannot err, and an open one that can.
  abbrev pub open_test : Node L
  open_test = bin tbool beq (var (tent 0 []) principal) (lit (tent 0 []) l.entity)

  abbrev pub open_get : Node L
  open_get = get tbool (var (request context) context) 2

  abbrev pub long : L → Node L
  long n = lit tlong n

  abbrev pub left_of : Node L → Node L → Case L
  left_of e r = record { asked = tree e; told = leaves r }

  abbrev pub decision_of : List (Rule L) → Decision → Case L
  decision_of rs d = record { asked = policies rs; told = decides d }

  abbrev pub cases : List (Case L)
  cases =
      -- "K1 open and false, left cannot err: false."
      left_of (and tbool open_test nay) nay
      -- "K2 the same with a left `get` on an unknown context: stays `and`."
      ∷ left_of (and tbool open_get nay) (and tbool open_get nay)
      -- "K3 neg of -9223372036854775808: err."
      ∷ left_of (un tlong uneg (long l.least)) (err tlong)
      -- "K4 9223372036854775807 + 1: err."
      ∷ left_of (bin tlong badd (long l.most) (long l.one)) (err tlong)
      -- "K5 entity in an empty set, ancestors unknown: false."
      ∷ left_of (rel tbool rin (lit (tent 0 []) l.entity) (lit (tset (tent 0 [])) l.empty_set)) nay
      -- "K6 entity in itself, ancestors unknown: true."
      ∷ left_of (rel tbool rin (lit (tent 0 []) l.entity) (lit (tent 0 []) l.entity)) yea
      -- "K7 no policies: deny."
      ∷ decision_of [] deny
      -- "K8 true permit, open forbid: open."
      ∷ decision_of (record { effect = permit; tree = yea } ∷ record { effect = forbid; tree = open_test } ∷ []) undecided
      -- "K9 open forbid only: deny."
      ∷ decision_of (record { effect = forbid; tree = open_test } ∷ []) deny
      -- "K10 `like` without items: true on the empty text, false on `a`."
      ∷ left_of (un tbool (ulike []) (lit tstr l.empty_text)) yea
      ∷ left_of (un tbool (ulike []) (lit tstr l.text_a)) nay
      ∷ []

  abbrev pub students : List (Case L)
  students =
      -- "Unlisted entity on a partial sheet: "has no attributes". It is unknown." The listed one is known to have none.
      left_of (has tbool (lit (tent 0 []) l.unlisted) 2) (has tbool (lit (tent 0 []) l.unlisted) 2)
      ∷ left_of (has tbool (lit (tent 0 []) l.entity) 2) nay
      -- "Type rule for `has` or `hastag` on an action kind: not applied." On an `e` kind it is.
      ∷ left_of (has tbool (lit (tent 1 []) l.act) 3) (has tbool (lit (tent 1 []) l.act) 3)
      ∷ left_of (has tbool (lit (tent 0 []) l.unlisted) 3) nay
      ∷ left_of (rel tbool rhastag (lit (tent 1 []) l.act) (lit tstr l.text_a)) (rel tbool rhastag (lit (tent 1 []) l.act) (lit tstr l.text_a))
      ∷ left_of (rel tbool rhastag (lit (tent 0 []) l.unlisted) (lit tstr l.text_a)) nay
      -- "Dropping an error operand because the other side is open: only and, or and if keep it."
      ∷ left_of (bin tbool beq open_test (err tbool)) (err tbool)
      ∷ left_of (and tbool open_test (err tbool)) (and tbool open_test (err tbool))
      ∷ left_of (or tbool open_test (err tbool)) (or tbool open_test (err tbool))
      ∷ left_of (ite tbool open_test nay (err tbool)) (ite tbool open_test nay (err tbool))
      ∷ []

abbrev pub told_in : {L : Type 0} → List (Case L) → List (Told L)
told_in [] = []
told_in (c ∷ cs) = c.told ∷ told_in cs

module _ {L : Type 0} (answer : Asked L → Told L) where
  abbrev pub answers : List (Case L) → List (Told L)
  answers [] = []
  answers (c ∷ cs) = answer c.asked ∷ answers cs

-- By content.
abbrev pub values : Literals Value
values = record {
  is_false = vbool false;
  is_true = vbool true;
  least = vlong (negsuc 9223372036854775807);
  most = vlong (pos 9223372036854775807);
  one = vlong (pos 1);
  entity = vent 0 1;
  unlisted = vent 0 2;
  act = vent 1 0;
  empty_set = vset vnil;
  empty_text = vtext 0;
  text_a = vtext 1;
}

abbrev pub by_content : List (Rule Value) → List Policy
by_content [] = []
by_content (r ∷ rs) = record { effect = r.effect; tree = r.tree } ∷ by_content rs

abbrev pub answer : Asked Value → Told Value
answer (tree e) = leaves (interpret schema unknown e)
answer (policies rs) = decides (decision (partial_answer schema unknown (by_content rs)))

-- By number: the same values as rows, and the record of the listed entity's attributes as row 9.
abbrev pub rows : List Row
rows = rbool false ∷ rbool true ∷ rlong (negsuc 9223372036854775807) ∷ rlong (pos 9223372036854775807) ∷ rlong (pos 1) ∷ rent 0 1 ∷ rset [] ∷ rtext 0 ∷ rtext 1 ∷ rrec stop ∷ rent 0 2 ∷ rent 1 0 ∷ []

abbrev pub numbers : Literals ℕ
numbers = record { is_false = 0; is_true = 1; least = 2; most = 3; one = 4; entity = 5; unlisted = 10; act = 11; empty_set = 6; empty_text = 7; text_a = 8 }

abbrev pub n_broker : Bool → Option NLine
n_broker true = some (record { attrs = some (old 9); tags = none; ancestors = none })
n_broker false = none

abbrev pub n_unknown : NEnv
n_unknown = record { request = λ x. none; line = λ k t. n_broker (eqb k 0 && eqb t 1) }

abbrev pub by_number : List (Rule ℕ) → List NPolicy
by_number [] = []
by_number (r ∷ rs) = record { effect = r.effect; tree = r.tree } ∷ by_number rs

abbrev pub n_answer : Asked ℕ → Told ℕ
n_answer (tree e) = leaves (n_interpret schema n_unknown e rows).tree
n_answer (policies rs) = decides (decision (verdicts (n_run schema n_unknown (by_number rs) rows).lines))

-- DEMAND 3, over the bytes of answers. Document 01: "Demand 3 compares the answers of three runs, each in whatever work slices and answer
-- buffer it was lent."
use Rattle.std.specs.Prelude.{◌≡◌, Bool, true, false, List, [], ◌∷◌, ℕ, length, get_or, take}
use Rattle.std.proofs.Math.Option.{some}
use Rattle.cedar.specs.Value.{Value, vbool}
use Rattle.cedar.specs.Residual.{Expr}
use Rattle.cedar.specs.Evaluate.{eval}
use Rattle.cedar.specs.Response.{is_open, Verdict, Decision, allow, deny, undecided, cedar}
use Rattle.cedar.specs.Runs.{Policy, result_class}
use Rattle.sheet.specs.Forms.{Mode, partial, complete}
use Rattle.sheet.specs.State.{State}
use Rattle.sheet.specs.Sheet.{read}
use Rattle.sheet.specs.Content.{contents, values_from, schema, env, policies}
use Rattle.sheet.specs.Answer.{counts_of, ids, results}
use Rattle.sheet.specs.Call.{returned, written}
use Rattle.sheet.specs.ReadAnswer.{Said, PolicyLine, read_answer, tree_under}

-- "Settled are a decision `allow` or `deny` and a policy called `true`, `false` or `error`, nothing else."
abbrev pub is_settled : Decision → Bool
is_settled allow = true
is_settled deny = true
is_settled undecided = false

-- "`lit` numbers read among the partial sheet's values and the made ones": their contents
abbrev pub value_in : State → Said → ℕ → Value
value_in p a n = get_or (values_from (contents p) a.made) n (vbool false)

-- counts: "they count the policy lines"
abbrev pub called : List PolicyLine → List Verdict
called [] = []
called (x ∷ xs) = record { effect = x.effect; class = x.class } ∷ called xs

abbrev pub Counted : Said → Type 0
Counted a = a.counts ≡ counts_of (called a.policies)

-- a policy's line x in the partial answer a, its line y in the complete one, and the policy on the complete sheet with its id
pub record LineConfirmed (p c : State) (a : Said) (x y : PolicyLine) (id : ℕ) (q : Policy) : Type 0 where
  pub partial_id : x.id ≡ id
  pub complete_id : y.id ≡ id
  pub partial_effect : x.effect ≡ q.effect
  pub complete_effect : y.effect ≡ q.effect
  -- "The policy's result there is true, false or error as it yields"
  pub specified : y.class ≡ result_class (eval (schema c) (env c) q.tree)
  pub not_open : is_open y.class ≡ false
  pub settled : is_open x.class ≡ false → y.class ≡ x.class
  -- "What a residual yields there is the same for the tree under its root in the partial answer": the value or error that the policy yields
  pub residual : Expr
  pub under_root : tree_under p (value_in p a) a x ≡ some residual
  pub yields : eval (schema c) (env c) residual ≡ eval (schema c) (env c) q.tree

-- policy by policy: a line for each in both answers, and no other
pub data LinesConfirmed (p c : State) (a : Said) : List PolicyLine → List PolicyLine → List ℕ → List Policy → Type 0 where
  none : LinesConfirmed p c a [] [] [] []
  more : {x y : PolicyLine} {i : ℕ} {q : Policy} {xs ys : List PolicyLine} {is : List ℕ} {qs : List Policy} → LineConfirmed p c a x y i q → LinesConfirmed p c a xs ys is qs → LinesConfirmed p c a (x ∷ xs) (y ∷ ys) (i ∷ is) (q ∷ qs)

-- what the complete answer b must say, given what the partial answer a says
pub record Confirmed (p c : State) (a b : Said) : Type 0 where
  -- "the decision that the specification gives is Cedar's rule over these results"
  pub specified : b.decision ≡ cedar (results c)
  pub settled : is_settled a.decision ≡ true → b.decision ≡ a.decision
  pub lines : LinesConfirmed p c a a.policies b.policies (ids c) (policies c)

-- "A sheet is accepted when its run returns number 0", with the words of the work slices and the answer buffer that it was lent
pub record Answered (m : Mode) (sheet : List ℕ) : Type 0 where
  pub work₁ : ℕ
  pub work₂ : ℕ
  pub buffer : List ℕ
  pub zero_number : (returned m work₁ work₂ (length buffer) sheet).number ≡ 0

-- the bytes of the answer: so many as the returned length says, of the buffer after the call
abbrev pub bytes_of : {m : Mode} {sheet : List ℕ} → Answered m sheet → List ℕ
bytes_of {m} {sheet} x = take (returned m x.work₁ x.work₂ (length x.buffer) sheet).length (written m x.work₁ x.work₂ x.buffer sheet)

-- of a partial sheet and two complete ones, and of the bytes of their three answers: what the first settles, the second and the third say
-- alike. Nothing is said of the names in these: a partial sheet does not settle the name
pub record Demand3 (p c d : List ℕ) (answer₁ answer₂ answer₃ : List ℕ) : Type 0 where
  pub first : Said
  pub second : Said
  pub third : Said
  pub first_reads : read_answer partial answer₁ ≡ some first
  pub second_reads : read_answer complete answer₂ ≡ some second
  pub third_reads : read_answer complete answer₃ ≡ some third
  pub first_counts : Counted first
  pub second_counts : Counted second
  pub third_counts : Counted third
  pub second_confirms : Confirmed (read partial p).state (read complete c).state first second
  pub third_confirms : Confirmed (read partial p).state (read complete d).state first third

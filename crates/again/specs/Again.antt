-- Document 02, 2.13: "interpreting a residual again, with the same request, entities and schema, gives the same residual, class and
-- decision. This holds for every accepted partial sheet, linked, grouped and on term, within the depth limit." Said of the bytes of a
-- partial answer.
use Rattle.std.specs.Prelude.{◌≡◌, List, [], ◌∷◌, ◌++◌, ℕ, ◌≤◌}
use Rattle.std.proofs.Math.Option.{Option, none, some}
use Rattle.cedar.specs.Value.{on_some}
use Rattle.cedar.specs.Residual.{Node, Expr}
use Rattle.cedar.specs.Response.{decision}
use Rattle.cedar.specs.Rows.{Row}
use Rattle.cedar.specs.Numbered.{Out, n_class, n_interpret}
use Rattle.cedar.specs.Runs.{NPolicy, Run, n_run, verdicts}
use Rattle.sheet.specs.Forms.{partial}
use Rattle.sheet.specs.State.{State}
use Rattle.sheet.specs.Sheet.{read}
use Rattle.sheet.specs.Content.{value_rows, schema, n_env, n_policies}
use Rattle.sheet.specs.Answer.{partial_of}
use Rattle.sheet.specs.ReadAnswer.{Said, PolicyLine, read_answer, tree_under}
use Rattle.sheet.specs.Demand3.{value_in}
use Rattle.again.specs.TreeDepth.{tree_depth}

-- the values that an answer's `lit` numbers are read among: the sheet's, then the made ones
abbrev pub all_values : State → Said → List Row
all_values s a = value_rows s ++ a.made

-- the residual of a policy's line: the tree under its root, its `lit` numbers as they stand
abbrev pub residual_of : State → Said → PolicyLine → Option (Node ℕ)
residual_of s a x = tree_under s (λ n. n) a x

-- a tree interpreted "with the same request, entities and schema"
abbrev pub interpreted : State → Said → Node ℕ → Out
interpreted s a t = n_interpret (schema s) (n_env partial s) t (all_values s a)

-- of a policy that runs on the sheet, as it is linked, and its line x in the answer a
pub record LineAgain (s : State) (a : Said) (p : NPolicy) (x : PolicyLine) : Type 0 where
  pub residual : Node ℕ
  pub under_root : residual_of s a x ≡ some residual
  -- each of its `lit` numbers has a content among the sheet's values and the made ones: the same tree, read by content
  pub content : Expr
  pub literals : tree_under s (value_in s a) a x ≡ some content
  -- "the same residual", with its types and its literals' numbers; no value is made
  pub same_residual : (interpreted s a residual).tree ≡ residual
  pub none_made : (interpreted s a residual).rows ≡ all_values s a
  -- the same "class"
  pub same_class : n_class (interpreted s a residual) ≡ x.class
  -- "within the depth limit": it is no deeper than the policy's tree, and "a tree is never deeper than 64"
  pub no_deeper : tree_depth residual ≤ tree_depth p.tree
  pub within : tree_depth residual ≤ 64

-- policy by policy: there is a line for each, and no other
pub data LinesAgain (s : State) (a : Said) : List NPolicy → List PolicyLine → Type 0 where
  end : LinesAgain s a [] []
  also : {p : NPolicy} {ps : List NPolicy} {x : PolicyLine} {xs : List PolicyLine} → LineAgain s a p x → LinesAgain s a ps xs → LinesAgain s a (p ∷ ps) (x ∷ xs)

-- the policies of an answer, to be run: each line's effect with its residual
abbrev pub policies_in : State → Said → List PolicyLine → Option (List NPolicy)
policies_in s a [] = some []
policies_in s a (x ∷ xs) = on_some none (residual_of s a x) (λ t. on_some none (policies_in s a xs) (λ ps. some (record { effect = x.effect; tree = t } ∷ ps)))

-- the partial run over them
abbrev pub run_again : State → Said → List NPolicy → Run
run_again s a ps = n_run (schema s) (n_env partial s) ps (all_values s a)

-- of a partial sheet and the bytes of its answer: "interpreting a residual again .. gives the same residual, class and decision"
pub record Again (sheet answer : List ℕ) : Type 0 where
  pub said : Said
  pub reads : read_answer partial answer ≡ some said
  pub lines : LinesAgain (read partial sheet).state said (n_policies (read partial sheet).state) said.policies
  -- all of them handed back
  pub residuals : List NPolicy
  pub handed_back_law : policies_in (read partial sheet).state said said.policies ≡ some residuals
  -- the same "decision"
  pub same_decision : decision (verdicts (run_again (read partial sheet).state said residuals).lines) ≡ said.decision
  -- what is printed of that run is the answer, byte for byte: the same counts, name and made values too
  pub same_answer : partial_of (read partial sheet).state (run_again (read partial sheet).state said residuals) ≡ answer

-- DOCUMENT 02, 2.13, ON THE BYTES OF AN ANSWER: the residuals of a partial answer, interpreted again, give that answer.
use mathlib.Core.Path.{◌≡◌, refl, sym, ◌∙◌, ap, subst}
use mathlib.Core.Bool.{true}
use mathlib.Core.Option.{some}
use mathlib.Core.List.{List, [], ◌∷◌}
use Prim.Native.Nat.{ℕ, suc, ◌+◌}
use native.Mathlib.Omega.{arith}
use lib.ListN.{length, get_elem?}
use Rattle.cedar.specs.Value.{Value}
use Rattle.cedar.specs.Residual.{Node, Expr, err}
use Rattle.cedar.specs.Response.{decision}
use Rattle.cedar.specs.Table.{Table}
use Rattle.cedar.specs.Reads.{EnvRead}
use Rattle.cedar.specs.Runs.{Policy, NPolicy, NVerdict, verdicts}
use Rattle.cedar.specs.ContentRun.{partial_answer}
use Rattle.cedar.proofs.SettledByNumber.{Residuals, RunReads, run_reads}
use Rattle.cedar.proofs.ReadsOps.{keep_env}
use Rattle.sheet.specs.Forms.{partial}
use Rattle.sheet.specs.State.{State}
use Rattle.sheet.specs.Sheet.{read}
use Rattle.sheet.specs.Content.{types, value_rows, contents, values_from, schema, n_env, p_env, n_policies, policies, trees_from}
use Rattle.sheet.specs.Answer.{size, root, ids, run, answer, partial_of}
use Rattle.sheet.specs.Call.{Accepted}
use Rattle.sheet.specs.ReadAnswer.{Said, PolicyLine, all_stand}
use Rattle.sheet.specs.Literals.{valued}
use Rattle.sheet.specs.Demand3.{value_in, Answered, bytes_of}
use Rattle.sheet.proofs.content.ValueRows.{values_table}
use Rattle.sheet.proofs.content.Environment.{Facts, env_read}
use Rattle.sheet.proofs.content.OwnPolicies.{read_own}
use Rattle.sheet.proofs.demand3.Demand3Bytes.{facts}
use Rattle.sheet.proofs.content.SheetSmall.{Under, policies_under, asked_under}
use Rattle.sheet.proofs.running.LeftOver.{LeftLines, no_lines, one_line, run_leaves}
use Rattle.sheet.proofs.answer.NodesStand.{tree_there}
use Rattle.sheet.proofs.answer.AnswerBack.{line_with, partial_policies}
use Rattle.sheet.proofs.answer.AnswerRead.{Standing, partial_said, partial_answer_back, all_stand_law, roots_stand, residuals_back, as_many, rows_are, values_of}
use Rattle.sheet.proofs.demand3.Demand3Answers.{accepted}
use Rattle.sheet.proofs.answer.Buffers.{bytes_are}
use Rattle.again.specs.Again.{all_values, residual_of, LinesAgain, policies_in, run_again, Again}
use Rattle.again.proofs.DepthKept.{left_deep}
use Rattle.again.proofs.DepthLimit.{AllWithin, policies_within}
use Rattle.again.proofs.RunAgain.{handed_back, first_called, rest_called, again_tree, again_class, lines_again}
use Rattle.cedar.proofs.SettledByNumber as R
use Rattle.sheet.proofs.answer.AnswerRead as A
use Rattle.again.specs.Again as G

-- nothing is said of fewer lines than there are policies, nor of more
pub as_many_lines : {s : State} {a : Said} {ps : List NPolicy} {xs : List PolicyLine} → LinesAgain s a ps xs → length ps ≡ length xs
as_many_lines G.end = refl
as_many_lines (G.also h hs) = ap suc (as_many_lines hs)

-- the policies that an answer hands back are its run's lines
module _ (s : State) (stand : all_stand s (partial_said s) ≡ true) where
  abbrev a : Said
  a = partial_said s

  abbrev trees : List (Node ℕ)
  trees = trees_from (types s) (λ n. n) (λ A x. err A) [] a.nodes

  -- by content
  abbrev exprs : List Expr
  exprs = trees_from (types s) (value_in s a) (λ A x. err A) [] a.nodes

  under : (x : PolicyLine) (t : Node ℕ) → get_elem? trees x.root ≡ some t → residual_of s a x ≡ some t
  under x t u = tree_there s a stand (λ n. n) x t u

  handed : (n : ℕ) (is : List ℕ) (ls : List NVerdict) → Standing trees (λ l. l.root) (partial_policies n is ls) ls → length is ≡ length ls → policies_in s a (partial_policies n is ls) ≡ some (handed_back ls)
  handed n [] [] A.none e = refl
  handed n (i ∷ is) [] A.none e = absurd (omega (arith, e))
  handed n [] (l ∷ ls) st e = absurd (omega (arith, e))
  handed n (i ∷ is) (l ∷ ls) (A.more u st) e = rw (under (line_with i l.effect l.class (root n l.root)) l.root u) (rw (handed (n + size l.root) is ls st (omega (arith, e))) refl)

  module _ (t : Table (all_values s a) (values_from (contents s) a.made)) (env : EnvRead (values_from (contents s) a.made) (n_env partial s) (p_env s)) where
    -- line by line, with the policy, its residual and its content
    each_again : (n : ℕ) (is : List ℕ) {ls : List NVerdict} {ps : List NPolicy} {qs : List Policy} → Residuals (schema s) (n_env partial s) (p_env s) (values_from (contents s) a.made) ls qs → verdicts ls ≡ partial_answer (schema s) (p_env s) qs
        → LeftLines ps ls → AllWithin ps → Standing trees (λ l. l.root) (partial_policies n is ls) ls → Standing exprs (λ l. valued (value_in s a) l.root) (partial_policies n is ls) ls → length is ≡ length ls → LinesAgain s a ps (partial_policies n is ls)
    each_again n [] R.none c no_lines w st sc e = G.end
    each_again n (i ∷ is) R.none c no_lines w st sc e = absurd (omega (arith, e))
    each_again n [] (R.more h hs) c (one_line k ks) w st sc e = absurd (omega (arith, e))
    each_again n (i ∷ is) (R.more {l = l} {ls = ls} {p = q} {ps = qs} h hs) c (one_line k ks) w (A.more u st) (A.more v sc) e =
        let d = left_deep k in
        let m = w.0 in
        G.also (record {
          residual = l.root;
          under_root = under (line_with i l.effect l.class (root n l.root)) l.root u;
          content = valued (value_in s a) l.root;
          literals = tree_there s a stand (value_in s a) (line_with i l.effect l.class (root n l.root)) (valued (value_in s a) l.root) v;
          same_residual = ap (λ o. o.tree) (again_tree (schema s) (n_env partial s) (p_env s) t env l.root q.tree h);
          none_made = ap (λ o. o.rows) (again_tree (schema s) (n_env partial s) (p_env s) t env l.root q.tree h);
          same_class = again_class (schema s) (n_env partial s) (p_env s) t env l.root q.tree h ∙ sym (first_called (schema s) (p_env s) l ls q qs c);
          no_deeper = d;
          within = omega (arith, d, m);
        }) (each_again (n + size l.root) is hs (rest_called (schema s) (p_env s) l ls q qs c) ks w.1 st sc (omega (arith, e)))

module _ (sheet : List ℕ) (acc : Accepted partial sheet) where
  abbrev s : State
  s = (read partial sheet).state

  -- the contents that the answer's `lit` numbers are read among
  abbrev among : List Value
  among = values_from (contents s) (partial_said s).made

  f : Facts partial s
  f = facts partial sheet acc

  read_back : RunReads (schema s) (n_env partial s) (p_env s) (contents s) (run partial s) (policies s)
  unfolding run
  read_back = run_reads (schema s) (n_env partial s) (p_env s) (n_policies s) (values_table partial s f.history) (env_read s f) (read_own partial s f.history f.ends)

  -- the contents of all values are those that the answer's are read among
  same_contents : among ≡ read_back.contents
  same_contents = values_of sheet acc read_back.table

  the_table : Table (all_values s (partial_said s)) among
  the_table = subst (λ C. Table (all_values s (partial_said s)) C) (sym same_contents) (subst (λ R. Table R read_back.contents) (rows_are sheet acc) read_back.table)

  the_env : EnvRead among (n_env partial s) (p_env s)
  the_env = subst (λ C. EnvRead C (n_env partial s) (p_env s)) (sym same_contents) (keep_env read_back.keeps (env_read s f))

  the_residuals : Residuals (schema s) (n_env partial s) (p_env s) among (run partial s).lines (policies s)
  the_residuals = subst (λ C. Residuals (schema s) (n_env partial s) (p_env s) C (run partial s).lines (policies s)) (sym same_contents) read_back.residuals

  the_left : LeftLines (n_policies s) (run partial s).lines
  unfolding run
  the_left = (run_leaves (Under s) (schema s) (n_env partial s) (asked_under s f) (n_policies s) (policies_under partial s f.history) (value_rows s)).lines

  -- the run again
  run_again_law : run_again s (partial_said s) (handed_back (run partial s).lines) ≡ run partial s
  run_again_law = lines_again (schema s) (n_env partial s) (p_env s) the_table the_env the_residuals read_back.classes ∙ ap (λ R. record { rows = R; lines = (run partial s).lines }) (sym (rows_are sheet acc))

  said_again : Again sheet (answer partial s)
  unfolding answer
  said_again = record {
    said = partial_said s;
    reads = partial_answer_back sheet acc;
    lines = each_again s (all_stand_law sheet acc) the_table the_env 0 (ids s) the_residuals read_back.classes the_left (policies_within sheet) (residuals_back sheet acc) (roots_stand sheet acc (value_in s (partial_said s))) (as_many sheet acc);
    residuals = handed_back (run partial s).lines;
    handed_back_law = handed s (all_stand_law sheet acc) 0 (ids s) (run partial s).lines (residuals_back sheet acc) (as_many sheet acc);
    same_decision = ap (λ r. decision (verdicts r.lines)) run_again_law;
    same_answer = ap (partial_of s) run_again_law;
  }

-- THE THEOREM: of every accepted partial sheet, whatever work slices and answer buffer it was lent
pub answer_again : (sheet : List ℕ) (x : Answered partial sheet) → Again sheet (bytes_of x)
answer_again sheet x = subst (Again sheet) (sym (bytes_are x)) (said_again sheet (accepted x))

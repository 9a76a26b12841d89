-- DEMAND 3 ON THE BYTES OF ANSWERS: for every partial sheet accepted and every two complete sheets accepted that agree with it.
use mathlib.Core.Path.{◌≡◌, refl, sym, ◌∙◌, ap, subst}
use mathlib.Core.Bool.{true, false}
use mathlib.Core.List.{List, [], ◌∷◌}
use Prim.Native.Nat.{ℕ, ◌+◌}
use native.Mathlib.Omega.{arith}
use lib.ListN.{length, get_or}
use Rattle.cedar.proofs.Tools.{no_true}
use Rattle.cedar.specs.Value.{Value, vbool}
use Rattle.cedar.specs.Types.{Schema}
use Rattle.cedar.specs.Entities.{Env}
use Rattle.cedar.specs.Residual.{Node, Expr, err}
use Rattle.cedar.specs.Evaluate.{eval}
use Rattle.cedar.specs.Response.{Verdict, Decision, allow, deny, undecided, decision, Choice, Choices, also}
use Rattle.cedar.specs.Reads.{Reads}
use Rattle.cedar.specs.Runs.{Policy, NVerdict, result_class, complete_answer, verdicts}
use Rattle.cedar.proofs.SettledByNumber.{Residuals, Yielding}
use Rattle.sheet.specs.Forms.{Mode, partial, complete}
use Rattle.sheet.specs.State.{State}
use Rattle.sheet.specs.Sheet.{firsts, read}
use Rattle.sheet.specs.Content.{types, schema, env, n_env, p_env, exprs, policies, on_term, trees_from}
use Rattle.sheet.specs.Answer.{size, root, counts_of, ids, residual_rows, run, results}
use Rattle.sheet.specs.Call.{Accepted}
use Rattle.sheet.specs.Agreement.{agrees}
use Rattle.sheet.specs.ReadAnswer.{read_answer}
use Rattle.sheet.specs.Demand3.{is_settled, value_in, called, Counted, LinesConfirmed, Confirmed, Answered, bytes_of, Demand3}
use Rattle.sheet.proofs.demand3.TwoSheets.{common}
use Rattle.sheet.proofs.demand3.Demand3Bytes.{Settles, demand_3, choice_closed, decision_closed}
use Rattle.sheet.proofs.answer.TreesBack.{valued}
use Rattle.sheet.proofs.answer.AnswerBack.{line_with, partial_policies, complete_policies}
use Rattle.sheet.proofs.answer.AnswerRead.{values_of, reads_valued, Standing, partial_said, complete_said, partial_answer_back, as_many, roots_stand, all_stand_law, firsts_length, complete_answer_back}
use Rattle.sheet.proofs.answer.NodesStand.{tree_there}
use Rattle.sheet.proofs.running.Counts.{content_length}
use Rattle.sheet.proofs.answer.Buffers.{bytes_are}
use Rattle.cedar.proofs.SettledByNumber as R
use Rattle.cedar.proofs.Settled.{choice_settled}
use Rattle.sheet.proofs.answer.AnswerRead as A
use Rattle.sheet.specs.Demand3 as D

pub choices_parts : {u w : Verdict} {us ws : List Verdict} → Choices (u ∷ us) (w ∷ ws) → (w.effect ≡ u.effect) × Choice u.class w.class × Choices us ws
choices_parts (also h hs) = (refl, h, hs)

module _ (p c : List ℕ) (ap' : Accepted partial p) (ac : Accepted complete c) (ag : agrees (read partial p).state (read complete c).state ≡ true) where
  abbrev P : State
  P = (read partial p).state

  abbrev C : State
  C = (read complete c).state

  s : Settles P C
  s = demand_3 p c ap' ac ag

  as_content : {a : Node ℕ} {d : Expr} → Reads s.values a d → valued (value_in P (partial_said P)) a ≡ d
  as_content {a} r = ap (λ (l : List Value). valued (λ n. get_or l n (vbool false)) a) (values_of p ap' s.table) ∙ reads_valued s.values r

  abbrev trees : List Expr
  trees = trees_from (types P) (value_in P (partial_said P)) (λ A x. err A) [] (residual_rows (types P) 0 (run partial P).lines)

  lines_from : (n : ℕ) (is : List ℕ) {ls : List NVerdict} {qs : List Policy} → Residuals (schema C) (n_env partial P) (p_env P) s.values ls qs → Yielding (schema C) (n_env partial P) (p_env P) s.values (env C) ls qs
      → Choices (verdicts ls) (complete_answer (schema C) (env C) qs) → Standing trees (λ l. valued (value_in P (partial_said P)) l.root) (partial_policies n is ls) ls → length is ≡ length ls
      → LinesConfirmed P C (partial_said P) (partial_policies n is ls) (complete_policies is (complete_answer (schema C) (env C) qs)) is qs
  lines_from n [] R.none R.none h st e = D.none
  lines_from n (i ∷ is) R.none R.none h st e = absurd (omega (arith, e))
  lines_from n [] (R.more r rs) (R.more y ys) h st e = absurd (omega (arith, e))
  lines_from n (i ∷ is) (R.more {l = l} {p = q} r rs) (R.more y ys) h (A.more u st) e =
      let (g, k, hs) = choices_parts h in
      D.more (record {
        partial_id = refl;
        complete_id = refl;
        partial_effect = sym g;
        complete_effect = refl;
        specified = refl;
        not_open = choice_closed k;
        settled = choice_settled k;
        residual = valued (value_in P (partial_said P)) l.root;
        under_root = tree_there P (partial_said P) (all_stand_law p ap') (value_in P (partial_said P)) (line_with i l.effect l.class (root n l.root)) (valued (value_in P (partial_said P)) l.root) u;
        yields = ap (eval (schema C) (env C)) (as_content r) ∙ y _ r;
      }) (lines_from (n + size l.root) is rs ys hs st (omega (arith, e)))

  settled_decision : (d : Decision) → (d ≡ allow → decision (results C) ≡ allow) → (d ≡ deny → decision (results C) ≡ deny) → is_settled d ≡ true → decision (results C) ≡ d
  settled_decision allow f g e = f refl
  settled_decision deny f g e = g refl
  settled_decision undecided f g e = no_true e

  -- for one complete sheet
  pub confirmed : Confirmed P C (partial_said P) (complete_said C)
  unfolding results
  confirmed = record {
    specified = decision_closed s.lines;
    settled = settled_decision (decision (verdicts (run partial P).lines)) s.allowed s.denied;
    lines = subst (λ (r : List (List ℕ)). LinesConfirmed P C (partial_said P) (partial_policies 0 (ids P) (run partial P).lines) (complete_policies (firsts r) (results C)) (firsts r) (policies C)) (common P C ag).rules
        (lines_from 0 (ids P) s.readable s.residuals s.lines (roots_stand p ap' (value_in P (partial_said P))) (as_many p ap'));
  }

-- ---- counts

called_partial : (n : ℕ) (is : List ℕ) (ls : List NVerdict) → length is ≡ length ls → called (partial_policies n is ls) ≡ verdicts ls
called_partial n [] [] e = refl
called_partial n [] (l ∷ ls) e = absurd (omega (arith, e))
called_partial n (i ∷ is) [] e = absurd (omega (arith, e))
called_partial n (i ∷ is) (l ∷ ls) e = ap (λ vs. record { effect = l.effect; class = l.class } ∷ vs) (called_partial (n + size l.root) is ls (omega (arith, e)))

called_complete : (S : Schema) (E : Env) (is : List ℕ) (qs : List Policy) → length is ≡ length qs → called (complete_policies is (complete_answer S E qs)) ≡ complete_answer S E qs
called_complete S E [] [] e = refl
called_complete S E [] (q ∷ qs) e = absurd (omega (arith, e))
called_complete S E (i ∷ is) [] e = absurd (omega (arith, e))
called_complete S E (i ∷ is) (q ∷ qs) e = ap (λ vs. record { effect = q.effect; class = result_class (eval S E q.tree) } ∷ vs) (called_complete S E is qs (omega (arith, e)))

pub partial_counted : (p : List ℕ) → Accepted partial p → Counted (partial_said (read partial p).state)
partial_counted p a = let s = (read partial p).state in sym (ap counts_of (called_partial 0 (ids s) (run partial s).lines (as_many p a)))

pub complete_counted : (s : State) → Counted (complete_said s)
unfolding results policies
complete_counted s = sym (ap counts_of (called_complete (schema s) (env s) (ids s) (policies s) (firsts_length (on_term s) ∙ sym (content_length (exprs s) (on_term s)))))

-- ---- three answers

pub accepted : {m : Mode} {sheet : List ℕ} → Answered m sheet → Accepted m sheet
accepted x = record { work₁ = x.work₁; work₂ = x.work₂; out = length x.buffer; zero_number = x.zero_number }

-- THE THEOREM
pub demand_3_bytes : (p c d : List ℕ) (x : Answered partial p) (y : Answered complete c) (z : Answered complete d)
    → agrees (read partial p).state (read complete c).state ≡ true → agrees (read partial p).state (read complete d).state ≡ true → Demand3 p c d (bytes_of x) (bytes_of y) (bytes_of z)
demand_3_bytes p c d x y z e f =
    let h = confirmed p c (accepted x) (accepted y) e in
    let k = confirmed p d (accepted x) (accepted z) f in
    record {
      first = partial_said (read partial p).state;
      second = complete_said (read complete c).state;
      third = complete_said (read complete d).state;
      first_reads = ap (read_answer partial) (bytes_are x) ∙ partial_answer_back p (accepted x);
      second_reads = ap (read_answer complete) (bytes_are y) ∙ complete_answer_back c (accepted y);
      third_reads = ap (read_answer complete) (bytes_are z) ∙ complete_answer_back d (accepted z);
      first_counts = partial_counted p (accepted x);
      second_counts = complete_counted (read complete c).state;
      third_counts = complete_counted (read complete d).state;
      second_confirms = h;
      third_confirms = k;
    }

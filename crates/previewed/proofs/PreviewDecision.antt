-- DOCUMENT 02, 2.11: "If the kept and the edited sheet are accepted and an accepted complete sheet agrees with the edited one, a decision given
-- before is never the opposite one after."
use mathlib.Core.Path.{◌≡◌, refl, sym, ◌∙◌, ap, subst}
use mathlib.Core.Bool.{Bool, true, false}
use mathlib.Core.List.{List}
use Prim.Native.Nat.{ℕ}
use Rattle.cedar.proofs.Tools.{no_true}
use Rattle.cedar.specs.Response.{Decision, allow, deny, undecided, decision}
use Rattle.cedar.specs.Runs.{verdicts}
use Rattle.sheet.specs.Forms.{partial, complete}
use Rattle.sheet.specs.Sheet.{read}
use Rattle.sheet.specs.Answer.{run}
use Rattle.sheet.specs.Call.{Accepted}
use Rattle.sheet.specs.ReadAnswer.{read_answer}
use Rattle.sheet.specs.Demand3.{Answered, bytes_of}
use Rattle.sheet.specs.Agreement.{agrees}
use Rattle.previewed.specs.Preview.{edited, may_edit}
use Rattle.previewed.specs.Tried.{Tried, bytes_tried, Opposite, allow_deny, deny_allow, NeverOpposite}
use Rattle.sheet.proofs.answer.AnswerRead.{partial_said, partial_answer_back}
use Rattle.sheet.proofs.answer.Buffers.{bytes_are}
use Rattle.sheet.proofs.reading.Checked.{accepted_read}
use Rattle.sheet.proofs.demand3.Demand3Answers.{accepted}
use Rattle.sheet.proofs.demand3.Demand3Bytes.{Settles, demand_3}
use Rattle.previewed.proofs.PreviewCall.{tried_may, answered, tried_bytes}
use Rattle.previewed.proofs.PreviewSheets.{edited_filled, kept_agrees}

abbrev is_allow : Decision → Bool
is_allow allow = true
is_allow deny = false
is_allow undecided = false

allow_not_deny : {X : Type 0} → allow ≡ deny → X
allow_not_deny e = no_true (sym (ap is_allow e))

module _ (sheet : List ℕ) (n : ℕ) (new c : List ℕ) (may : may_edit sheet n new ≡ true) (x : Answered partial sheet) (y : Answered partial (edited sheet n new)) (whole : Accepted complete c) (ag : agrees (read partial (edited sheet n new)).state (read complete c).state ≡ true) where
  -- the complete sheet agrees with the kept one too
  pub agrees_kept : agrees (read partial sheet).state (read complete c).state ≡ true
  agrees_kept = kept_agrees (read partial sheet).state (read partial (edited sheet n new)).state (read complete c).state (edited_filled sheet n new may (accepted_read partial sheet (accepted x)) (accepted_read partial (edited sheet n new) (accepted y))) ag

  before : Settles (read partial sheet).state (read complete c).state
  before = demand_3 sheet c (accepted x) whole agrees_kept

  after : Settles (read partial (edited sheet n new)).state (read complete c).state
  after = demand_3 (edited sheet n new) c (accepted y) whole ag

  -- both decisions are the complete sheet's
  not_both : {d e : Decision} → decision (verdicts (run partial (read partial sheet).state).lines) ≡ d → decision (verdicts (run partial (read partial (edited sheet n new)).state).lines) ≡ e → Opposite d e → ⊥
  not_both p q allow_deny = allow_not_deny (sym (before.allowed p) ∙ after.denied q)
  not_both p q deny_allow = allow_not_deny (sym (after.allowed q) ∙ before.denied p)

  -- THE DECISION READ BEFORE AND THE ONE READ AFTER ARE NEVER OPPOSITE
  pub never_opposite : NeverOpposite (bytes_of x) (bytes_of y)
  never_opposite = record {
    first = partial_said (read partial sheet).state;
    second = partial_said (read partial (edited sheet n new)).state;
    first_reads = ap (read_answer partial) (bytes_are x) ∙ partial_answer_back sheet (accepted x);
    second_reads = ap (read_answer partial) (bytes_are y) ∙ partial_answer_back (edited sheet n new) (accepted y);
    never = not_both refl refl;
  }

-- THE SAME OF THE PREVIEW'S OWN ANSWER
pub preview_never_opposite : (sheet : List ℕ) (n : ℕ) (new c : List ℕ) (x : Answered partial sheet) (y : Tried sheet n new) → Accepted complete c → agrees (read partial (edited sheet n new)).state (read complete c).state ≡ true → NeverOpposite (bytes_of x) (bytes_tried y)
preview_never_opposite sheet n new c x y whole ag = subst (NeverOpposite (bytes_of x)) (sym (tried_bytes y)) (never_opposite sheet n new c (tried_may y) x (answered y) whole ag)

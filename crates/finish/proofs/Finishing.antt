-- Both sheets refused or opened, and the residuals answered on the complete one. Assumes nothing.
use mathlib.Core.Path.{◌≡◌, refl, sym, ◌∙◌, ap, ap₂, subst}
use mathlib.Core.Bool.{Bool, true, cond}
use mathlib.Core.List.{List, [], ◌∷◌}
use Prim.Native.Nat.{ℕ, zero, suc, ◌+◌, ◌≤◌, ◌<◌}
use native.Mathlib.Omega.{arith}
use native.Mathlib.Decide.{dec_le}
use borrow.Author.Tests.{ne_eqb, le-leb, lt-ltb}
use lib.ListN.{length}
use lib.Seq.{sets}
use Rattle.words.specs.Log.{part, has_room, Appended}
use Rattle.words.proofs.Logs.{room_left}
use Rattle.words.proofs.Stores.{part_sets}
use Rattle.cedar.specs.Types.{Schema}
use Rattle.cedar.specs.Residual.{Class, Node}
use Rattle.cedar.specs.Response.{Verdict}
use Rattle.cedar.specs.Rows.{Row}
use Rattle.cedar.specs.Numbered.{NEnv}
use Rattle.cedar.specs.Runs.{n_run}
use Rattle.sheet.specs.Forms.{Mode, partial, complete, at}
use Rattle.sheet.specs.State.{State}
use Rattle.sheet.specs.Sheet.{read}
use Rattle.sheet.specs.Content.{effect_of, schema, n_env, trees, value_rows, numbered_policies, n_policies, on_term}
use Rattle.sheet.specs.Answer.{run, complete_of}
use Rattle.sheet.specs.Call.{Returned, returns, refused_then, read_then, checked_then, over}
use Rattle.sheet.proofs.reading.Checked.{accepted_from}
use Rattle.table.specs.Layout.{RUN, MADE, rows_of, held}
use Rattle.table.proofs.Held.{held_same}
use Rattle.tpe.specs.Run.{run_of}
use Rattle.tpe.specs.Leaves.{Leaves}
use Rattle.interpret.specs.Nodes.{ended}
use Rattle.interpret.proofs.Answered.{ran, log_short}
use Rattle.evaluator.specs.Run.{class_numbers}
use Rattle.evaluator.specs.Gave.{Done}
use Rattle.yielding.specs.Yields.{yielded_of}
use Rattle.response.specs.Verdicts.{verdicts_of, verdicts_in}
use Rattle.response.specs.Naming.{why_in}
use Rattle.response.specs.Printed.{complete_bytes}
use Rattle.response.specs.Runs.{Gives, Sends, Holding}
use Rattle.response.proofs.Counting.{class_back}
use Rattle.response.proofs.Printing.{complete_held}
use Rattle.response.proofs.Sending.{gives_as, sends_as}
use Rattle.response.proofs.Completing.{part_front}
use Rattle.response.proofs.PartialRun.{holding_ready}
use Rattle.opening.specs.Opens.{Opens}
use Rattle.finished.specs.Finish.{yields_of, finished_results, finished_answer, at_line}
use Rattle.finished.specs.ByKey.{passed_line}
use Rattle.agree.specs.Breaks.{Ordered}
use Rattle.agree.proofs.Accepted.{Kept, kept, ordered, breaking_read}
use Rattle.finish.specs.Parts.{line_of, answer_of, after_both, after_partial, after_lengths, Answers, Stands, Left, Leaving, Finishes}
use Rattle.finish.proofs.Yields.{yields_results}

-- ---- a sheet refused

-- 2 to 8, whatever is returned where they are passed
refuses : (m : Mode) (sheet : List ℕ) (number line : ℕ) (a b : List ℕ) → Opens m sheet number line a b → (number ≡ 0 → ⊥) → (r : Returned) (bytes out : List ℕ) → Gives (checked_then m sheet r) bytes out number line 0 out
refuses m sheet number line a b x f r bytes out =
    gives_as (go number refl ∙ sym (x.checked r)) (record {
      number_is = refl;
      line_is = refl;
      length_is = refl;
      buffer = sym (ap (λ (t : Bool). cond t (over bytes out) out) (ne_eqb number 0 f));
    })
  where
    go : (n : ℕ) → number ≡ n → returns number line 0 ≡ refused_then n line r
    go zero e = absurd (f e)
    go (suc n) e = ap (λ (t : ℕ). returns t line 0) e

-- opened
passed : (m : Mode) (sheet : List ℕ) (number line : ℕ) (a b : List ℕ) → Opens m sheet number line a b → number ≡ 0 → (r : Returned) → r ≡ checked_then m sheet r
passed m sheet number line a b x z r = sym (x.checked r ∙ ap (λ (t : ℕ). refused_then t line r) z)

opened : (m : Mode) (sheet : List ℕ) (number line : ℕ) (a b : List ℕ) → Opens m sheet number line a b → number ≡ 0 → Stands m sheet a b
opened m sheet number line a b x z = record { accepted = accepted_from m sheet short (x.holds z).accepted; holding = x.holds z }
  where
    short : length sheet ≤ 16384
    short = go (dec_le (length sheet) 16384)
      where
        go : Dec (length sheet ≤ 16384) → length sheet ≤ 16384
        go (yes h) = h
        go (no h) =
            let e = passed m sheet number line a b x z (returns 0 0 0) ∙ ap (λ (t : Bool). cond t (returns 2 0 0) (read_then m sheet (returns 0 0 0))) (lt-ltb 16384 (length sheet) (omega arith)) in
            let n : ◌≡◌ {A = ℕ} 0 2 = ap (λ (r : Returned). r.number) e in
            absurd (omega (arith, n))

-- ---- what the partial run leaves

-- its words hold the sheet's rows as before
module _ (p residuals kept₁ : List ℕ) (x : Left p residuals kept₁) where
  h : Holding partial p x.words x.depths
  h = x.stands.holding

  rows_same : (k : ℕ) → k < MADE → rows_of kept₁ k ≡ rows_of x.words k
  rows_same k lt =
      ap (λ (a : List ℕ). rows_of a k) x.kept_is ∙ (ran p p x.words x.depths (holding_ready p x.words x.depths h)).hold.same k lt

  partial_kept : Kept partial p kept₁
  partial_kept = kept partial p x.words x.depths kept₁ h.accepted h.state (λ k lt. rows_same k (omega (arith, lt)))

  held_kept : held p kept₁ x.depths ≡ held p x.words x.depths
  held_kept = held_same p x.words kept₁ x.depths x.depths (λ k lt. rows_same k (omega (arith, lt))) refl

  runs_kept : rows_of kept₁ RUN ≡ on_term (held p kept₁ x.depths)
  runs_kept = rows_same RUN (omega arith) ∙ h.runs ∙ ap on_term (sym held_kept)

  state_kept : held p kept₁ x.depths ≡ (read partial p).state
  state_kept = held_kept ∙ sym h.state

-- the rows of the residuals, copied
copied : (zs l ws : List ℕ) (n : ℕ) → 4096 ≤ length zs → length l ≤ 4096 → Appended zs 0 l ws n → part ws 0 n ≡ l
copied zs l ws n e short a =
    let t : has_room (length zs) 0 (length l) ≡ true = sym (room_left (length zs) 0 (length l) (omega arith) (omega (arith, short))) ∙ le-leb (0 + length l) (length zs) (omega (arith, e, short)) in
    let s : ws ≡ sets zs 0 l = a.words ∙ ap (λ (b : Bool). cond b (sets zs 0 l) zs) t in
    let m : n ≡ 0 + length l = a.end ∙ ap (λ (b : Bool). cond b (0 + length l) 0) t in
    ap₂ (λ (w : List ℕ) (k : ℕ). part w 0 k) s m ∙ part_sets l zs 0 (0 + length l) refl (omega (arith, e, short))

pub left_run : (p a b a' b' : List ℕ) (e : ℕ) (l zs ws : List ℕ) (n : ℕ) → Leaves 0 a' b' e (ended (run_of partial p a [])) → l ≡ part b' 0 e → 4096 ≤ length zs → Appended zs 0 l ws n → Leaving p a b a' ws n
left_run p a b a' b' e l zs ws n q el z ap' s₀ =
    let h = s₀.holding in
    let k : l ≡ (run_of partial p a []).log = el ∙ part_front b' e ∙ q.log.is in
    let s : length l ≤ 4096 = subst (λ (y : List ℕ). length y ≤ 4096) (sym k) (log_short p p a b (holding_ready p a b h)) in
    record {
      words = a;
      depths = b;
      stands = s₀;
      kept_is = q.words;
      residuals_is = copied zs l ws n z s ap' ∙ k;
    }

-- ---- the answer on a complete sheet that agrees

-- classes by their numbers
verdicts_back : (s t : State) (S : Schema) (N : NEnv) (ns : ℕ → ℕ → List (Node ℕ)) (rs : List (List ℕ)) (R : List Row)
    → verdicts_of rs (class_numbers (yields_of s t (n_run S N (numbered_policies ns rs) R).lines)) ≡ yields_of s t (n_run S N (numbered_policies ns rs) R).lines
verdicts_back s t S N ns [] R = refl
verdicts_back s t S N ns (r ∷ rs) R = ap₂ (λ (c : Class) (vs : List Verdict). record { effect = effect_of (at r 1); class = c } ∷ vs) (class_back _) (verdicts_back s t S N ns rs _)

results_back : (s t : State) → verdicts_of (on_term s) (class_numbers (finished_results s t)) ≡ finished_results s t
unfolding finished_results run n_policies
results_back s t = verdicts_back s t (schema s) (n_env partial s) (trees s) (on_term s) (value_rows s)

module _ (p residuals kept₁ : List ℕ) (x : Left p residuals kept₁) (c : List ℕ) where
  abbrev results : List Verdict
  results = finished_results (read partial p).state (read complete c).state

  verdicts_kept : verdicts_in kept₁ (class_numbers results) ≡ results
  unfolding verdicts_in
  verdicts_kept = ap (λ (rs : List (List ℕ)). verdicts_of rs (class_numbers results)) (runs_kept p residuals kept₁ x ∙ ap on_term (state_kept p residuals kept₁ x)) ∙ results_back (read partial p).state (read complete c).state

  bytes_are : (cs : List ℕ) → cs ≡ class_numbers results → complete_bytes (why_in kept₁ cs) kept₁ cs ≡ answer_of p c
  unfolding finished_answer
  bytes_are cs e =
      ap (λ (l : List ℕ). complete_bytes (why_in kept₁ l) kept₁ l) e ∙ complete_held p kept₁ x.depths (runs_kept p residuals kept₁ x) (class_numbers results)
      ∙ ap₂ complete_of (state_kept p residuals kept₁ x) verdicts_kept

pub finishes : (c residuals kept₁ rows log ns rows' log' cs out : List ℕ) (n number len : ℕ) (out' : List ℕ) → 1024 ≡ length ns → Done (yielded_of c residuals kept₁ rows ns) rows' log' n → cs ≡ part log' 0 n
    → Sends (complete_bytes (why_in kept₁ cs) kept₁ cs) out number len out' → Finishes c residuals kept₁ rows log out number 0 len out'
finishes c residuals kept₁ rows log ns rows' log' cs out n number len out' l d e s p x g z =
    let y : cs ≡ (yielded_of c residuals kept₁ rows ns).log = e ∙ part_front log' n ∙ d.log in
    let q : (yielded_of c residuals kept₁ rows ns).log ≡ class_numbers (results p residuals kept₁ x c) =
    ap₂ (λ (r k : List ℕ). (yielded_of c r k rows ns).log) x.residuals_is x.kept_is
    ∙ yields_results p c x.words x.depths rows log ns x.stands g z (omega (arith, l)) in
    sends_as (bytes_are p residuals kept₁ x c cs (y ∙ q)) s

-- ---- both sheets

module _ (p c residuals kept₁ rows log : List ℕ) (x : Left p residuals kept₁) (g : Stands complete c rows log) where
  complete_kept : Kept complete c rows
  complete_kept = kept complete c rows log rows g.holding.accepted g.holding.state (λ k lt. refl)

  pub both_ordered : Ordered kept₁ rows
  both_ordered = ordered p c kept₁ rows (partial_kept p residuals kept₁ x) complete_kept

  module _ (l : ℕ) (e : l ≡ passed_line (held p kept₁ []) (held c rows [])) (out : List ℕ) where
    line_is : l ≡ line_of p c
    line_is = e ∙ breaking_read p c kept₁ rows (partial_kept p residuals kept₁ x) complete_kept

    -- 11
    pub breaks_at : (l ≡ 0 → ⊥) → Answers (after_both (length out) p c) p c out 11 l 0 out
    breaks_at f = gives_as (go (line_of p c) line_is) (record { number_is = refl; line_is = refl; length_is = refl; buffer = refl })
      where
        go : (k : ℕ) → l ≡ k → returns 11 l 0 ≡ at_line (read partial p).state (read complete c).state (length out) k
        go zero q = absurd (f q)
        go (suc k) q = ap (λ (j : ℕ). returns 11 j 0) q

    -- they agree
    pub agreed_on : l ≡ 0 → (number line len : ℕ) (out' : List ℕ) → Finishes c residuals kept₁ rows log out number line len out' → Answers (after_both (length out) p c) p c out number line len out'
    agreed_on z number line len out' f =
        let k : line_of p c ≡ 0 = sym line_is ∙ z in
        gives_as (sym (ap (at_line (read partial p).state (read complete c).state (length out)) k)) (f p x g k)

-- ---- their own checks

module _ (p c : List ℕ) (number line : ℕ) (a b : List ℕ) (out : List ℕ) where
  pub complete_refused : Opens complete c number line a b → (number ≡ 0 → ⊥) → Answers (after_partial (length out) p c) p c out number line 0 out
  complete_refused x f = refuses complete c number line a b x f (after_both (length out) p c) (answer_of p c) out

  pub complete_stands : Opens complete c number line a b → number ≡ 0 → Stands complete c a b
  complete_stands x z = opened complete c number line a b x z

  pub complete_passed : Opens complete c number line a b → number ≡ 0 → (n k len : ℕ) (out' : List ℕ) → Answers (after_both (length out) p c) p c out n k len out' → Answers (after_partial (length out) p c) p c out n k len out'
  complete_passed x z n k len out' g = gives_as (passed complete c number line a b x z (after_both (length out) p c)) g

  pub partial_refused : Opens partial p number line a b → (number ≡ 0 → ⊥) → Answers (after_lengths (length out) p c) p c out number line 0 out
  partial_refused x f = refuses partial p number line a b x f (after_partial (length out) p c) (answer_of p c) out

  pub partial_passed : Opens partial p number line a b → number ≡ 0 → (n k len : ℕ) (out' : List ℕ) → Answers (after_partial (length out) p c) p c out n k len out' → Answers (after_lengths (length out) p c) p c out n k len out'
  partial_passed x z n k len out' g = gives_as (passed partial p number line a b x z (after_partial (length out) p c)) g

-- the partial sheet opened, then run
pub left_open : (p : List ℕ) (number line : ℕ) (a b a' ws qs : List ℕ) (n : ℕ) → Opens partial p number line a b → number ≡ 0 → Leaving p a b a' ws n → qs ≡ part ws 0 n → Left p qs a'
left_open p number line a b a' ws qs n x z f e = subst (λ (l : List ℕ). Left p l a') (sym e) (f (opened partial p number line a b x z))

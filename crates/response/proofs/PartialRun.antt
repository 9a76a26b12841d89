-- The partial answer: what is printed of the run over words is what the definition says. Assumes nothing.
use mathlib.Core.Path.{◌≡◌, refl, sym, ◌∙◌, ap, ap₂, subst}
use mathlib.Core.List.{List, [], ◌∷◌}
use Prim.Native.Nat.{ℕ, zero, suc, ◌-◌, ◌≤◌, ◌<◌}
use native.Mathlib.Omega.{arith}
use lib.ListN.{length, get_or, take, drop, length-take}
use lib.Seq.{get_or-take}
use Rattle.words.specs.Log.{part}
use Rattle.cedar.specs.Residual.{Node, copen}
use Rattle.cedar.specs.Runs.{NVerdict, Run, verdicts}
use Rattle.sheet.specs.Forms.{partial}
use Rattle.sheet.specs.State.{State}
use Rattle.table.specs.Layout.{RUN}
use Rattle.sheet.specs.Sheet.{read}
use Rattle.sheet.specs.Answer.{run, partial_of, answer}
use Rattle.sheet.specs.Call.{room}
use Rattle.sheet.proofs.reading.Lines.{History, accepted_history}
use Rattle.sheet.proofs.answer.AnswerLength.{most_answer, answer_most}
use Rattle.residual.specs.Classes.{roots_of}
use Rattle.listing.proofs.LogTrees.{trees_in}
use Rattle.tpe.specs.Run.{Ran, run_of}
use Rattle.tpe.specs.Leaves.{Leaves}
use Rattle.tpe.proofs.Policies.{RunIs}
use Rattle.tpe.proofs.Accepted.{Ready, ready}
use Rattle.interpret.specs.Nodes.{ended}
use Rattle.interpret.proofs.Answered.{Lined, ran, lined, log_stays, few}
use Rattle.interpret.specs.Lines.{CLASSES, ROOTS, classes_of, lines_of}
use Rattle.response.specs.Verdicts.{class_in, verdicts_in}
use Rattle.response.specs.Naming.{why_in}
use Rattle.response.specs.Printed.{partial_bytes}
use Rattle.response.proofs.Counting.{class_back}
use Rattle.response.proofs.Partial.{classes_in, verdicts_run, RunWords, partial_held}
use Rattle.response.specs.Runs.{Holding, Sends, Prints, Runs}
use Rattle.response.proofs.Sending.{sends_as}
use Rattle.response.proofs.Completing.{part_front}
use Rattle.tpe.proofs.Policies as P

-- ---- the same lists by two names

trees_same : (vs : List NVerdict) → P.roots_of vs ≡ trees_in vs
trees_same [] = refl
trees_same (v ∷ vs) = ap (λ (l : List (Node ℕ)). v.root ∷ l) (trees_same vs)

classes_back : (vs : List NVerdict) (i : ℕ) → i < length vs → class_in (get_or (classes_of vs) i 0) ≡ get_or (classes_in vs) i copen
classes_back [] i h = absurd (omega arith)
classes_back (v ∷ vs) zero h = class_back v.class
classes_back (v ∷ vs) (suc i) h = classes_back vs i (omega arith)

-- a longer part begins with a shorter one
longer : (n m : ℕ) (w : List ℕ) (i : ℕ) → i < n → n ≤ m → get_or (take m w) i 0 ≡ get_or (take n w) i 0
longer n m w i h k = get_or-take m w i 0 (omega arith) ∙ sym (get_or-take n w i 0 h)

-- words that hold a sheet are ready for its run
pub holding_ready : (sheet a b : List ℕ) → Holding partial sheet a b → Ready sheet sheet a b
holding_ready sheet a b h = ready sheet a b h.accepted h.state h.sound h.none h.runs h.fits

-- ---- what the run leaves

module _ (text sheet a b : List ℕ) (h : Ready text sheet a b) where
  abbrev x : Run
  x = run partial (read partial text).state

  abbrev r : Ran
  r = run_of partial sheet a []

  is_ran : RunIs partial sheet a 64 [] x r
  is_ran = ran text sheet a b h

  most : length x.lines ≤ 64
  most = few text sheet a b h

  -- the lines are noted in w
  module _ (v w : List ℕ) (n : Lined x.lines v w) where
    class_at : (i : ℕ) → i < length x.lines → class_in (get_or (part w CLASSES room) i 0) ≡ get_or (classes_in x.lines) i copen
    class_at i lt = ap class_in (longer (length x.lines) (room - CLASSES) (drop CLASSES w) i lt (omega (arith, most)) ∙ ap (λ (l : List ℕ). get_or l i 0) n.classes) ∙ classes_back x.lines i lt

    root_at : (i : ℕ) → i < length x.lines → get_or (part w ROOTS room) i 0 ≡ get_or (roots_of 0 x.lines) i 0
    root_at i lt = longer (length x.lines) (room - ROOTS) (drop ROOTS w) i lt (omega (arith, most)) ∙ ap (λ (l : List ℕ). get_or l i 0) n.roots

    said : verdicts_in r.words (part w CLASSES room) ≡ verdicts x.lines
    said =
        subst (λ (s : State). ((i : ℕ) → i < length (run partial s).lines → class_in (get_or (part w CLASSES room) i 0) ≡ get_or (classes_in (run partial s).lines) i copen)
        → verdicts_in r.words (part w CLASSES room) ≡ verdicts (run partial s).lines)
        (sym h.state) (verdicts_run sheet a b r.words (part w CLASSES room) (is_ran.hold.same RUN (omega arith) ∙ h.runs)) class_at

    words : RunWords sheet a x r.words r.log (part w CLASSES room) (part w ROOTS room)
    words = record {
      levels = 64;
      ress = is_ran.ress;
      log = is_ran.log;
      trees = is_ran.trees ∙ trees_same x.lines;
      wholes = is_ran.wholes;
      same = is_ran.hold.same;
      rows = is_ran.rows;
      verdicts = said;
      roots = root_at;
    }

    run_bytes : partial_bytes (why_in r.words (part w CLASSES room)) r.words r.log (part w CLASSES room) (part w ROOTS room) ≡ answer partial (read partial text).state
    unfolding answer
    run_bytes =
        let (k, g) = accepted_history partial text h.accepted in
        partial_held sheet a b (subst (History partial) h.state k) h.runs x r.words r.log (part w CLASSES room) (part w ROOTS room) words
        ∙ ap (λ (s : State). partial_of s x) (sym h.state)

-- ---- the run, the lines, then the printing

pub log_fits : (l b : List ℕ) (e : ℕ) → l ≡ part b 0 e → length b ≡ room → length l ≤ room
log_fits l b e el h = omega (arith, ap length (el ∙ part_front b e), length-take e b)

-- the run's words a' and b', and its lines noted in b''
module _ (text sheet a b : List ℕ) (h : Ready text sheet a b) (a' b' b'' : List ℕ) (e : ℕ) (q : Leaves 0 a' b' e (ended (run_of partial sheet a []))) (lb : length b' ≡ room)
    (eb : b'' ≡ lines_of a' b' e) where
  abbrev t : Ran
  t = run_of partial sheet a []

  long : room ≤ length b'
  long = omega (arith, lb)

  lines_in : b'' ≡ lines_of t.words b' e
  lines_in = eb ∙ ap (λ (y : List ℕ). lines_of y b' e) q.words

  noted : Lined (run partial (read partial text).state).lines b' b''
  noted = subst (Lined (run partial (read partial text).state).lines b') (sym lines_in) (lined text sheet a b h b' e q.log long)

  log_kept : take e b'' ≡ t.log
  log_kept = ap (take e) lines_in ∙ log_stays text sheet a b h b' e q.log long

  -- WHAT THE RUN LEAVES IN WORDS
  pub ready_words : RunWords sheet a (run partial (read partial text).state) a' t.log (part b'' CLASSES room) (part b'' ROOTS room)
  ready_words = subst (λ (y : List ℕ). RunWords sheet a (run partial (read partial text).state) y t.log (part b'' CLASSES room) (part b'' ROOTS room)) (sym q.words) (words text sheet a b h b' b'' noted)

pub run_words : (sheet a b : List ℕ) (h : Holding partial sheet a b) (a' b' b'' : List ℕ) (e : ℕ) (q : Leaves 0 a' b' e (ended (run_of partial sheet a []))) (lb : length b ≡ room) (lb' : length b' ≡ length b)
    (eb : b'' ≡ lines_of a' b' e) → RunWords sheet a (run partial (read partial sheet).state) a' (run_of partial sheet a []).log (part b'' CLASSES room) (part b'' ROOTS room)
run_words sheet a b h a' b' b'' e q lb lb' eb = ready_words sheet sheet a b (holding_ready sheet a b h) a' b' b'' e q (lb' ∙ lb) eb

-- what is then printed
module _ (sheet a b a' b' b'' l cs es out : List ℕ) (e number len : ℕ) (out' : List ℕ) (q : Leaves 0 a' b' e (ended (run_of partial sheet a []))) (lb : length b ≡ room) (lb' : length b' ≡ length b)
    (eb : b'' ≡ lines_of a' b' e) (el : l ≡ part b'' 0 e) (ec : cs ≡ part b'' CLASSES room) (ee : es ≡ part b'' ROOTS room) where
  abbrev bytes : List ℕ
  bytes = partial_bytes (why_in a' cs) a' l cs es

  answer_is : Holding partial sheet a b → bytes ≡ answer partial (read partial sheet).state
  answer_is h =
      let r : Ran = run_of partial sheet a [] in
      let y : Ready sheet sheet a b = holding_ready sheet a b h in
      let g : l ≡ r.log = el ∙ part_front b'' e ∙ log_kept sheet sheet a b y a' b' b'' e q (lb' ∙ lb) eb in
      let i : bytes ≡ partial_bytes (why_in r.words (part b'' CLASSES room)) r.words r.log (part b'' CLASSES room) (part b'' ROOTS room) =
      ap₂ (λ (y z : List ℕ). partial_bytes (why_in y cs) y z cs es) q.words g ∙ ap₂ (λ (y z : List ℕ). partial_bytes (why_in r.words y) r.words r.log y z) ec ee in
      i ∙ run_bytes sheet sheet a b y b' b'' (noted sheet sheet a b y a' b' b'' e q (lb' ∙ lb) eb)

  pub partial_runs : Sends bytes out number len out' → Runs partial sheet a b out number len out'
  partial_runs s h = sends_as (answer_is h) s

  -- into a buffer that has room for every answer
  pub partial_prints : most_answer ≤ length out → length sheet ≤ room → Prints bytes out number len out' → Runs partial sheet a b out number len out'
  partial_prints m k p h =
      let i = answer_is h in
      sends_as i (p (omega (arith, m, ap length i, answer_most partial sheet k h.accepted)))

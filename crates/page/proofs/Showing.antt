-- A page printed of a run over words is the page of the sheet, and it is sent where the buffer has room for it. Assumes nothing.
use mathlib.Core.Path.{◌≡◌, refl, sym, ◌∙◌, ap, ap₂}
use mathlib.Core.Bool.{Bool, cond}
use mathlib.Core.List.{List, [], ◌∷◌}
use Prim.Native.Nat.{ℕ, suc, ◌+◌, ◌≤◌, ◌<◌}
use native.Mathlib.Omega.{arith}
use borrow.Author.Tests.{lt-ltb, le-ltb}
use lib.ListN.{length, get_or, drop}
use Rattle.words.specs.Log.{part}
use Rattle.cedar.specs.Residual.{Class}
use Rattle.cedar.specs.Response.{Effect, Decision, decision}
use Rattle.cedar.specs.Runs.{NVerdict, verdicts}
use Rattle.sheet.specs.Forms.{partial, items, at, TEXT}
use Rattle.sheet.specs.State.{State, lines_of}
use Rattle.sheet.specs.Content.{on_term}
use Rattle.sheet.specs.Sheet.{firsts, read}
use Rattle.sheet.specs.Answer.{size, ids, run}
use Rattle.sheet.specs.ReadAnswer.{PolicyLine}
use Rattle.sheet.specs.Call.{room, returns, fitted}
use Rattle.sheet.proofs.answer.AnswerBack.{line_with, partial_policies}
use Rattle.table.specs.Layout.{RUN, rows_of, text_rows, text_at, lines_held, held}
use Rattle.residual.specs.Classes.{roots_of}
use Rattle.print.specs.Written.{Written}
use Rattle.print.proofs.Writing.{written_over}
use Rattle.tpe.specs.Run.{run_of}
use Rattle.tpe.specs.Leaves.{Leaves}
use Rattle.interpret.specs.Nodes.{ended}
use Rattle.interpret.specs.Lines as I
use Rattle.interpret.specs.Lines.{CLASSES, ROOTS}
use Rattle.response.specs.Verdicts.{verdicts_of, verdicts_in}
use Rattle.response.specs.Runs.{Holding, Sends}
use Rattle.response.proofs.Partial.{effect_first, class_first, second_of, RunWords}
use Rattle.response.proofs.PartialRun.{run_words}
use Rattle.print.proofs.Sending.{gives_as, sends_as}
use Rattle.paged.specs.Page.{id_text, page, page_of}
use Rattle.paged.proofs.PageLength.{page_length}
use Rattle.paged.proofs.PageSays.{page_said}
use Rattle.page.specs.Said.{policies_of, policies_in, page_in}
use Rattle.page.specs.Parts.{Shows}

-- ---- the policies that the words hold are those that an answer says

policies_words : (n : ℕ) (rs : List (List ℕ)) (cs es : List ℕ) (ls : List NVerdict) → verdicts_of rs cs ≡ verdicts ls → ((i : ℕ) → i < length ls → get_or es i 0 ≡ get_or (roots_of n ls) i 0)
    → policies_of rs cs es ≡ partial_policies n (firsts rs) ls
policies_words n [] cs es ls e f = refl
policies_words n (r ∷ rs) cs es [] e f = let z : suc (length (verdicts_of rs (drop 1 cs))) ≡ 0 = ap length e in absurd (omega arith)
policies_words n (r ∷ rs) cs es (l ∷ ls) e f =
    ap₂ (λ (x : Effect) (y : Class). line_with (at r 0) x y (get_or es 0 0) ∷ policies_of rs (drop 1 cs) (drop 1 es)) (ap effect_first e) (ap class_first e)
    ∙ ap₂ (λ (x : ℕ) (m : List PolicyLine). line_with (at r 0) l.effect l.class x ∷ m) (f 0 (omega arith))
    (policies_words (n + size l.root) rs (drop 1 cs) (drop 1 es) ls (ap (drop 1) e) (λ i h. second_of es i ∙ f (suc i) (omega arith)))

texts_held : (sheet a b : List ℕ) → text_rows sheet (rows_of a TEXT) ≡ lines_of (held sheet a b) TEXT
unfolding held lines_held
texts_held sheet a b = refl

module _ (sheet a b : List ℕ) (h : Holding partial sheet a b) (a' l cs es : List ℕ) (w : RunWords sheet a (run partial (read partial sheet).state) a' l cs es) where
  abbrev s : State
  s = (read partial sheet).state

  policies_are : policies_in a' cs es ≡ partial_policies 0 (ids s) (run partial s).lines
  unfolding policies_in verdicts_in
  policies_are =
      policies_words 0 (rows_of a' RUN) cs es (run partial s).lines w.verdicts w.roots
      ∙ ap (λ (rs : List (List ℕ)). partial_policies 0 (firsts rs) (run partial s).lines) (w.same RUN (omega arith) ∙ h.runs ∙ ap on_term (sym h.state))

  text_is : (t : ℕ) → text_at sheet a' t ≡ id_text s t
  unfolding text_at
  text_is t =
      ap (λ (rs : List (List ℕ)). items (get_or (text_rows sheet rs) t [])) (w.same TEXT (omega arith))
      ∙ ap (λ (rs : List (List ℕ)). items (get_or rs t [])) (texts_held sheet a b) ∙ ap (λ (x : State). id_text x t) (sym h.state)

  texts_are : text_at sheet a' ≡ id_text s
  texts_are = λ i t. text_is t i

  -- THE BYTES ARE THOSE OF THE DEFINITION
  page_held : page_in sheet a' cs es ≡ page s
  unfolding page_in
  page_held =
      ap₂ (λ (d : Decision) (ps : List PolicyLine). page_of (text_at sheet a') d ps) (ap decision w.verdicts) policies_are
      ∙ ap (λ (t : ℕ → List ℕ). page_of t (decision (verdicts (run partial s).lines)) (partial_policies 0 (ids s) (run partial s).lines)) texts_are
      ∙ sym (page_said s)

-- ---- sent, or 10

module _ (bytes out : List ℕ) (e : length bytes ≡ 4380) where
  send_short : length out < 4380 → Sends bytes out 10 4380 out
  send_short h =
      gives_as (sym (ap (fitted (length out)) e ∙ ap (λ (t : Bool). cond t (returns 10 0 4380) (returns 0 0 4380)) (lt-ltb (length out) 4380 h)))
      (record { number_is = refl; line_is = refl; length_is = refl; buffer = refl })

  send_whole : (out' : List ℕ) (k : ℕ) → 4380 ≤ length out → Written out 0 bytes out' k → Sends bytes out 0 4380 out'
  send_whole out' k h w =
      let (o, j) = written_over out bytes out' k w (omega (arith, e, h)) in
      gives_as (sym (ap (fitted (length out)) e ∙ ap (λ (t : Bool). cond t (returns 10 0 4380) (returns 0 0 4380)) (le-ltb (length out) 4380 h)))
      (record { number_is = refl; line_is = refl; length_is = refl; buffer = o })

pub shows_short : (sheet a b out : List ℕ) → length out < 4380 → Shows sheet a b out 10 4380 out
shows_short sheet a b out h x = send_short (page (read partial sheet).state) out (page_length (read partial sheet).state) h

pub shows_whole : (sheet a b a' b' b'' cs es out : List ℕ) (e : ℕ) (out' : List ℕ) (k : ℕ) → Leaves 0 a' b' e (ended (run_of partial sheet a [])) → length b ≡ room → length b' ≡ length b
    → b'' ≡ I.lines_of a' b' e → cs ≡ part b'' CLASSES room → es ≡ part b'' ROOTS room → 4380 ≤ length out → Written out 0 (page_in sheet a' cs es) out' k → Shows sheet a b out 0 4380 out'
shows_whole sheet a b a' b' b'' cs es out e out' k q lb lb' eb ec ee lo w h =
    let r = run_words sheet a b h a' b' b'' e q lb lb' eb in
    let p : page_in sheet a' cs es ≡ page (read partial sheet).state =
    ap₂ (λ (y z : List ℕ). page_in sheet a' y z) ec ee ∙ page_held sheet a b h a' (run_of partial sheet a []).log (part b'' CLASSES room) (part b'' ROOTS room) r in
    sends_as p (send_whole (page_in sheet a' cs es) out (ap length p ∙ page_length (read partial sheet).state) out' k lo w)

-- THE DECISION OF A ROW: words laid for it hold what the reading of the sheet with its texts leaves, so that their run gives the decision on that sheet.
use mathlib.Core.Path.{◌≡◌, sym, ap, ◌∙◌, subst}
use mathlib.Core.Bool.{true, cond, ◌||◌}
use mathlib.Core.List.{List, [], ◌∷◌}
use Prim.Native.Nat.{ℕ, ◌+◌, ◌≤◌, ◌<◌}
use native.Mathlib.Omega.{arith}
use lib.Dec.{ltb, eqb}
use lib.ListN.{length, get_or, set, replicate}
use Rattle.cedar.specs.Response.{decision}
use Rattle.sheet.specs.Forms.{partial, at, mark, no_key, TEXT, PRINCIPAL, RESOURCE, DAY, NODE, POLICY, LINK, TERM, SHEET, KIND, TYPE, SHAPE, VALUE, ENTITY, ACTION, CONTEXT}
use Rattle.sheet.specs.State.{State, lines_of, line_at, count}
use Rattle.sheet.specs.Sheet.{read, least}
use Rattle.sheet.specs.Content.{on_term}
use Rattle.sheet.specs.Call.{Accepted}
use Rattle.sheet.proofs.reading.Lines.{and_both, Was}
use Rattle.sheet.proofs.content.Environment.{Facts, a_line, the_line}
use Rattle.sheet.proofs.demand3.Demand3Bytes.{facts}
use Rattle.sheet.proofs.content.OnTerm.{same_term}
use Rattle.words.specs.Log.{part, room}
use Rattle.table.specs.Layout.{RUN, MADE, TOP, USES, heap, limit, limits, rows_of, text_rows, lines_held, depth_base, depths_at, depths_in, depths_held, held}
use Rattle.table.proofs.Rows.{count_rows, lines_held_law, tab_same}
use Rattle.table.proofs.Held.{depths_tab}
use Rattle.tpe.specs.Run.{run_of}
use Rattle.tpe.specs.Leaves.{Leaves}
use Rattle.tpe.proofs.Accepted.{Ready}
use Rattle.interpret.specs.Nodes.{ended}
use Rattle.interpret.specs.Lines as I
use Rattle.response.specs.Runs.{Holding}
use Rattle.response.specs.Verdicts.{verdicts_in, decision_of}
use Rattle.response.specs.declared.Decision as C
use Rattle.response.proofs.PartialRun.{ready_words}
use Rattle.staff.specs.Firm.{set_texts, with_texts, text_fits, ask_fits, filled_sheet, row_decision}
use Rattle.staff.proofs.FirmBytes.{filled_sheet_law}
use Rattle.laid.specs.Laid.{AHEAD, LINE, line_with, Stands, Laid, Roomy}
use Rattle.firm.specs.Parts.{asks, Decides}
use Rattle.firm.proofs.Texts.{principal_size, resource_size, texts_set}
use Rattle.laid.proofs.Standing.{one_principal, one_resource, top_is, rows_kept, row_laid, sound_laid}

-- ---- room

module _ (sheet a b : List ℕ) (h : Holding partial sheet a b) where
  few : get_or a TOP 0 + AHEAD + 12 + 3072 ≤ room
  unfolding limit limits
  few = let f = h.fits in omega (arith, f)

  pub roomy : Roomy a
  roomy = record { over = h.sound.over; under = omega (arith, few); long = h.sound.long }

-- ---- what the words hold

module _ (sheet a b w : List ℕ) (p q : ℕ) (acc : Accepted partial sheet) (h : Holding partial sheet a b) (fits : ask_fits (read partial sheet).state (asks p q) ≡ true) (l : Laid a p q w) where
  abbrev s : State
  s = (read partial sheet).state

  f : Facts partial s
  f = facts partial sheet acc

  under : get_or a TOP 0 + AHEAD ≤ room
  under = omega (arith, few sheet a b h)

  own : (k : ℕ) → k < no_key → (k ≡ TEXT → ⊥) → lines_of s k ≡ rows_of a k
  own k lt n = ap (λ (x : State). lines_of x k) h.state ∙ lines_held_law sheet a b k lt n

  a_row : (k : ℕ) → k < no_key → (k ≡ TEXT → ⊥) → 1 ≤ get_or (least s) k 0 → 1 ≤ get_or a k 0
  a_row k lt n one = let x = a_line partial s f k lt one in let y = ap length (own k lt n) ∙ count_rows a k in omega (arith, x, y)

  one_row : (k : ℕ) → k < no_key → (k ≡ TEXT → ⊥) → 1 ≤ get_or (least s) k 0 → limit k ≡ 1 → get_or a k 0 ≡ 1
  one_row k lt n one most = let x = a_row k lt n one in let y = h.sound.few k (omega (arith, lt)) in omega (arith, x, y, most)

  text_fits_law : (k t : ℕ) → k < no_key → (k ≡ TEXT → ⊥) → text_fits s k t ≡ true → (eqb (at (get_or (rows_of a k) 0 []) 1) mark || eqb (at (get_or (rows_of a k) 0 []) 1) t) ≡ true
  text_fits_law k t lt n e =
      and_both (ltb t (count s TEXT)) (eqb (at (line_at s k 0) 1) mark || eqb (at (line_at s k 0) 1) t) e (λ x y.
      subst (λ (rs : List (List ℕ)). (eqb (at (get_or rs 0 []) 1) mark || eqb (at (get_or rs 0 []) 1) t) ≡ true) (own k lt n) y)

  -- the row of key k, which stands at place b with the text t
  line_is : (k b t : ℕ) → k < no_key → (k ≡ TEXT → ⊥) → 1 ≤ get_or (least s) k 0 → limit k ≡ 1 → (Was partial s k [] (line_at s k 0) → length (line_at s k 0) ≡ 3) → text_fits s k t ≡ true
      → Stands k b (line_with (get_or (rows_of a k) 0 []) t) w → rows_of w k ≡ set_texts t (rows_of a k)
  line_is k b t lt n one most size fit stands =
      let c = one_row k lt n one most in
      row_laid a w p q h.sound l under k b (line_with (get_or (rows_of a k) 0 []) t) (omega (arith, lt)) c stands
      ∙ sym (texts_set (rows_of a k) t (count_rows a k ∙ c) (subst (λ (rs : List (List ℕ)). length (get_or rs 0 []) ≡ 3) (own k lt n) (size (the_line partial s f k lt one))) (text_fits_law k t lt n fit))

  principal_is : rows_of w PRINCIPAL ≡ set_texts p (rows_of a PRINCIPAL)
  principal_is =
      line_is PRINCIPAL heap p (omega arith) (λ x. absurd (omega (arith, x))) (omega arith) one_principal (principal_size partial s [] (line_at s PRINCIPAL 0))
      (and_both (text_fits s PRINCIPAL p) (text_fits s RESOURCE q) fits (λ x y. x)) l.principal

  resource_is : rows_of w RESOURCE ≡ set_texts q (rows_of a RESOURCE)
  resource_is =
      line_is RESOURCE (heap + LINE) q (omega arith) (λ x. absurd (omega (arith, x))) (omega arith) one_resource (resource_size partial s [] (line_at s RESOURCE 0))
      (and_both (text_fits s PRINCIPAL p) (text_fits s RESOURCE q) fits (λ x y. y)) l.resource

  kept : (k : ℕ) → k < TOP → (k ≡ PRINCIPAL → ⊥) → (k ≡ RESOURCE → ⊥) → rows_of w k ≡ rows_of a k
  kept = rows_kept a w p q h.sound l under

  lines_are : lines_held sheet w ≡ set (set (lines_held sheet a) PRINCIPAL (set_texts p (rows_of a PRINCIPAL))) RESOURCE (set_texts q (rows_of a RESOURCE))
  unfolding lines_held
  lines_are =
      let same : (k : ℕ) → k < TOP → (k ≡ PRINCIPAL → ⊥) → (k ≡ RESOURCE → ⊥) → rows_of w k ≡ rows_of a k = kept in
      let r0 = same SHEET (omega arith) (λ x. absurd (omega (arith, x))) (λ x. absurd (omega (arith, x))) in
      let r1 = same TEXT (omega arith) (λ x. absurd (omega (arith, x))) (λ x. absurd (omega (arith, x))) in
      let r2 = same KIND (omega arith) (λ x. absurd (omega (arith, x))) (λ x. absurd (omega (arith, x))) in
      let r3 = same TYPE (omega arith) (λ x. absurd (omega (arith, x))) (λ x. absurd (omega (arith, x))) in
      let r4 = same SHAPE (omega arith) (λ x. absurd (omega (arith, x))) (λ x. absurd (omega (arith, x))) in
      let r5 = same VALUE (omega arith) (λ x. absurd (omega (arith, x))) (λ x. absurd (omega (arith, x))) in
      let r6 = same ENTITY (omega arith) (λ x. absurd (omega (arith, x))) (λ x. absurd (omega (arith, x))) in
      let r8 = same ACTION (omega arith) (λ x. absurd (omega (arith, x))) (λ x. absurd (omega (arith, x))) in
      let r10 = same CONTEXT (omega arith) (λ x. absurd (omega (arith, x))) (λ x. absurd (omega (arith, x))) in
      let r11 = same DAY (omega arith) (λ x. absurd (omega (arith, x))) (λ x. absurd (omega (arith, x))) in
      let r12 = same NODE (omega arith) (λ x. absurd (omega (arith, x))) (λ x. absurd (omega (arith, x))) in
      let r13 = same POLICY (omega arith) (λ x. absurd (omega (arith, x))) (λ x. absurd (omega (arith, x))) in
      let r14 = same LINK (omega arith) (λ x. absurd (omega (arith, x))) (λ x. absurd (omega (arith, x))) in
      let r15 = same TERM (omega arith) (λ x. absurd (omega (arith, x))) (λ x. absurd (omega (arith, x))) in
      λ i. r0 i ∷ text_rows sheet (r1 i) ∷ r2 i ∷ r3 i ∷ r4 i ∷ r5 i ∷ r6 i ∷ principal_is i ∷ r8 i ∷ resource_is i ∷ r10 i ∷ r11 i ∷ r12 i ∷ r13 i ∷ r14 i ∷ r15 i ∷ []

  depths_are : depths_held w b ≡ depths_held a b
  depths_are =
      depths_tab w b
      ∙ tab_same (depths_in w b) (depths_in a b) 0 no_key (λ k lo hi. ap (λ (n : ℕ). cond (eqb (depth_base k) 0) (replicate n 1) (depths_at b (depth_base k) n)) (l.counts k (omega (arith, hi))))
      ∙ sym (depths_tab a b)

  state_is : held sheet w b ≡ with_texts (held sheet a b) (asks p q)
  unfolding held lines_held with_texts
  state_is = λ i. record { lines = lines_are i; depths = depths_are i; used = depths_at b USES (l.counts NODE (omega arith) i) }

  runs_are : rows_of w RUN ≡ on_term (held sheet w b)
  runs_are =
      let same : (k : ℕ) → k < no_key → (k ≡ TEXT → ⊥) → (k ≡ PRINCIPAL → ⊥) → (k ≡ RESOURCE → ⊥) → lines_of (held sheet a b) k ≡ lines_of (held sheet w b) k =
      λ k lt n np nr. lines_held_law sheet a b k lt n ∙ sym (kept k (omega (arith, lt)) np nr) ∙ sym (lines_held_law sheet w b k lt n) in
      kept RUN (omega arith) (λ x. absurd (omega (arith, x))) (λ x. absurd (omega (arith, x))) ∙ h.runs
      ∙ same_term (held sheet a b) (held sheet w b)
      (same DAY (omega arith) (λ x. absurd (omega (arith, x))) (λ x. absurd (omega (arith, x))) (λ x. absurd (omega (arith, x))))
      (same TERM (omega arith) (λ x. absurd (omega (arith, x))) (λ x. absurd (omega (arith, x))) (λ x. absurd (omega (arith, x))))
      (same LINK (omega arith) (λ x. absurd (omega (arith, x))) (λ x. absurd (omega (arith, x))) (λ x. absurd (omega (arith, x))))
      (same POLICY (omega arith) (λ x. absurd (omega (arith, x))) (λ x. absurd (omega (arith, x))) (λ x. absurd (omega (arith, x))))

  -- the words are ready for the run of the sheet with the row's texts
  laid_ready : Ready (filled_sheet sheet (asks p q)) sheet w b
  laid_ready =
      let filled = filled_sheet_law sheet (asks p q) acc fits in
      record {
        accepted = filled.0;
        state = filled.1 ∙ ap (λ (x : State). with_texts x (asks p q)) h.state ∙ sym state_is;
        sound = sound_laid a w p q h.sound l under (a_row DAY (omega arith) (λ x. absurd (omega (arith, x))) (omega arith));
        none = l.counts MADE (omega arith) ∙ h.none;
        runs = runs_are;
        top = let t = top_is a w p q h.sound l under in let z = few sheet a b h in omega (arith, t, z);
      }

-- ---- the code: laid in w, run to w' and b', noted in b''

pub decides : (sheet a w w' b b' b'' cs : List ℕ) (p q e : ℕ) (d : C.Decision) → (Roomy a → Laid a p q w) → Leaves 0 w' b' e (ended (run_of partial sheet w [])) → length b ≡ 16384 → length b' ≡ length b
    → b'' ≡ I.lines_of w' b' e → cs ≡ part b'' I.CLASSES room → decision_of d ≡ decision (verdicts_in w' cs) → Decides sheet a p q d
unfolding row_decision
decides sheet a w w' b b' b'' cs p q e d lay run lb lb' noted classes said work acc h fits =
    let y = laid_ready sheet a work w p q acc h fits (lay (roomy sheet a work h)) in
    said ∙ ap (λ (c : List ℕ). decision (verdicts_in w' c)) classes
    ∙ ap decision (ready_words (filled_sheet sheet (asks p q)) sheet w work y w' b' b'' e run (lb' ∙ lb) noted).verdicts

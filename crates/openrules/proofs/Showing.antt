-- What the program's functions give, from what their calls promise. Assumes nothing.
use mathlib.Core.Path.{◌≡◌, refl, sym, ap, ◌∙◌, subst}
use mathlib.Core.Bool.{Bool, true, false, cond}
use mathlib.Core.List.{List, ◌++◌}
use Prim.Native.Nat.{ℕ, zero, suc}
use native.Mathlib.Omega.{arith}
use borrow.Author.Tests.{eq-eqb, ne_eqb}
use lib.Dec.{ltb}
use lib.ListN.{length, take, drop, length-append}
use lib.Seq.{take-append_seam}
use Rattle.streams.specs.Filled.{IsPrefixLen}
use Rattle.sheet.specs.Forms.{partial, complete}
use Rattle.sheet.specs.State.{State}
use Rattle.sheet.specs.Sheet.{read}
use Rattle.sheet.specs.Answer.{answer}
use Rattle.sheet.specs.Call.{Returned, returns, room, short_then, checked_then, returned, over, outputs, written}
use Rattle.sheet.proofs.reading.Lines.{zero_not_suc}
use Rattle.sheet.proofs.reading.Checked.{lent_by, short_by, checked_by}
use Rattle.sheet.proofs.answer.Buffers.{accepted_whole}
use Rattle.print.specs.Written.{Written}
use Rattle.print.proofs.Writing.{written_over}
use Rattle.authorizer.specs.Called.{Called}
use Rattle.finished.specs.Finish.{breaking_line, finished_answer, at_line, finish_returned, finish_written}
use Rattle.finished.specs.Promise.{Finished}
use Rattle.paged.specs.Page.{page, page_returned, page_written}
use Rattle.paged.specs.Promise.{Paged}
use Rattle.paged.proofs.PageLength.{page_length}
use Rattle.paged.proofs.PageGoesOut.{goes_out, page_out}
use Rattle.previewed.specs.Preview.{edited, may_edit, edit_then, preview_returned, preview_written}
use Rattle.previewed.specs.Promise.{Previewed}
use Rattle.wording.specs.Worded.{says_complete, entry_of, refusal}
use Rattle.wording.proofs.Lines.{refusal_short}
use Rattle.openrules.specs.Shown.{space, text_of, back, shown, finish_back, shown_finished, page_back, shown_page, preview_back, shown_preview, Shows}

-- ---- the entry

module _ (s a b out a' b' out' : List ℕ) (number line len : ℕ) (t : Bool) (says : t ≡ says_complete s) where
  pub call_complete : t ≡ true → Called complete s a b out number line len out' a' b' → Called (entry_of s) s a b out number line len out' a' b'
  call_complete h c = rw (← says, h) c

  pub call_partial : t ≡ false → Called partial s a b out number line len out' a' b' → Called (entry_of s) s a b out number line len out' a' b'
  call_partial h c = rw (← says, h) c

-- ---- what is shown

pub counts_front : (bytes rest : List ℕ) → IsPrefixLen (length bytes) (bytes ++ rest)
counts_front bytes rest = (omega (arith, length-append bytes rest), sym (ap length (take-append_seam bytes rest)))

-- a call that returned r, whose answer has these bytes
module _ (r : Returned) (bytes out out' : List ℕ) (number line len : ℕ) (lo : length out ≡ space) (number_is : number ≡ r.number) (line_is : line ≡ r.line) (length_is : len ≡ r.length)
    (buffer : out' ≡ outputs r.number bytes out) (whole : r.number ≡ 0 → r.length ≡ length bytes) where
  pub shows_text : number ≡ 0 → Shows (text_of r bytes) out' len
  shows_text h =
      let z : r.number ≡ 0 = sym number_is ∙ h in
      let n : len ≡ length bytes = length_is ∙ whole z in
      let w : out' ≡ bytes ++ drop (length bytes) out = buffer ∙ ap (λ (b : Bool). cond b (over bytes out) out) (eq-eqb r.number 0 z) in
      let t : take len out' ≡ bytes = rw (n, w) (take-append_seam bytes (drop (length bytes) out)) in
      record {
        front = t ∙ rw (eq-eqb r.number 0 z);
        within = rw (n, w) (counts_front bytes (drop (length bytes) out));
      }

  pub shows_line : (number ≡ 0 → ⊥) → (is : List ℕ) (next : ℕ) → Written out' 0 (refusal number line len) is next → Shows (text_of r bytes) is next
  shows_line h is next w =
      let f : r.number ≡ 0 → ⊥ = λ e. h (number_is ∙ e) in
      let o : out' ≡ out = buffer ∙ ap (λ (b : Bool). cond b (over bytes out) out) (ne_eqb r.number 0 f) in
      let d = refusal_short number line len in
      let (e, k) = written_over out' (refusal number line len) is next w (omega (arith, ap length o)) in
      let t : take next is ≡ refusal number line len = rw (k, e) (take-append_seam (refusal number line len) (drop (length (refusal number line len)) out')) in
      record {
        front = t ∙ rw (ne_eqb r.number 0 f, number_is, line_is, length_is);
        within = rw (k, e) (counts_front (refusal number line len) (drop (length (refusal number line len)) out'));
      }

-- ---- a sheet

module _ (s a b out a' b' out' : List ℕ) (number line len : ℕ) (la : 16384 ≡ length a) (lb : 16384 ≡ length b) (lo : length out ≡ space) (c : Called (entry_of s) s a b out number line len out' a' b') where
  abbrev bytes : List ℕ
  bytes = answer (entry_of s) (read (entry_of s) s).state

  here : returned (entry_of s) (length a) (length b) (length out) s ≡ back s
  here = rw (← la, ← lb, lo)

  whole : (back s).number ≡ 0 → (back s).length ≡ length bytes
  whole z =
      ap (λ (r : Returned). r.length) (sym here) ∙ (accepted_whole (entry_of s) (length a) (length b) out s (ap (λ (r : Returned). r.number) here ∙ z)).1

  went : out' ≡ outputs (back s).number bytes out
  unfolding written
  went = c.buffer ∙ ap (λ (r : Returned). outputs r.number bytes out) here

  pub shows_answer : number ≡ 0 → Shows (shown s) out' len
  unfolding shown
  shows_answer h =
      shows_text (back s) bytes out out' number line len lo (c.number_is ∙ ap (λ (r : Returned). r.number) here) (c.line_is ∙ ap (λ (r : Returned). r.line) here) (c.length_is ∙ ap (λ (r : Returned). r.length) here) went whole h

  pub shows_refusal : (number ≡ 0 → ⊥) → (is : List ℕ) (next : ℕ) → Written out' 0 (refusal number line len) is next → Shows (shown s) is next
  unfolding shown
  shows_refusal h is next w =
      shows_line (back s) bytes out out' number line len lo (c.number_is ∙ ap (λ (r : Returned). r.number) here) (c.line_is ∙ ap (λ (r : Returned). r.line) here) (c.length_is ∙ ap (λ (r : Returned). r.length) here) went whole h is next w

-- ---- a partial and a complete sheet

abbrev Whole : ℕ → Returned → Type 0
Whole n r = r.number ≡ 0 → r.length ≡ n

line_whole : (s t : State) (out l : ℕ) → Whole (length (finished_answer s t)) (at_line s t out l)
line_whole s t out zero = go (ltb out (length (finished_answer s t)))
  where
    go : (b : Bool) → Whole (length (finished_answer s t)) (cond b (returns 10 0 (length (finished_answer s t))) (returns 0 0 (length (finished_answer s t))))
    go true e = zero_not_suc e
    go false e = refl
line_whole s t out (suc l) = λ e. zero_not_suc e

finish_whole : (p c : List ℕ) → Whole (length (finished_answer (read partial p).state (read complete c).state)) (finish_back p c)
unfolding finish_returned
finish_whole p c =
    let s = (read partial p).state in
    let t = (read complete c).state in
    let r = at_line s t space (breaking_line s t) in
    let W = Whole (length (finished_answer s t)) in
    lent_by W room room (checked_then partial p (checked_then complete c r)) (λ h e. zero_not_suc e)
    (λ h. checked_by W partial p (checked_then complete c r) (λ e. zero_not_suc e) (λ n q e. zero_not_suc e)
    (λ h' q. checked_by W complete c r (λ e. zero_not_suc e) (λ n q' e. zero_not_suc e) (λ h'' q'. line_whole s t space (breaking_line s t))))

module _ (p c a b out a' b' out' : List ℕ) (number line len : ℕ) (la : 16384 ≡ length a) (lb : 16384 ≡ length b) (lo : length out ≡ space) (x : Finished p c a b out number line len out' a' b') where
  abbrev finish_bytes : List ℕ
  finish_bytes = finished_answer (read partial p).state (read complete c).state

  finish_here : finish_returned (length a) (length b) (length out) p c ≡ finish_back p c
  finish_here = rw (← la, ← lb, lo)

  finish_went : out' ≡ outputs (finish_back p c).number finish_bytes out
  unfolding finish_written
  finish_went = x.buffer ∙ ap (λ (r : Returned). outputs r.number finish_bytes out) finish_here

  pub finish_answer : number ≡ 0 → Shows (shown_finished p c) out' len
  unfolding shown_finished
  finish_answer h =
      shows_text (finish_back p c) finish_bytes out out' number line len lo (x.number_is ∙ ap (λ (r : Returned). r.number) finish_here) (x.line_is ∙ ap (λ (r : Returned). r.line) finish_here)
      (x.length_is ∙ ap (λ (r : Returned). r.length) finish_here) finish_went (finish_whole p c) h

  pub finish_refusal : (number ≡ 0 → ⊥) → (is : List ℕ) (next : ℕ) → Written out' 0 (refusal number line len) is next → Shows (shown_finished p c) is next
  unfolding shown_finished
  finish_refusal h is next w =
      shows_line (finish_back p c) finish_bytes out out' number line len lo (x.number_is ∙ ap (λ (r : Returned). r.number) finish_here) (x.line_is ∙ ap (λ (r : Returned). r.line) finish_here)
      (x.length_is ∙ ap (λ (r : Returned). r.length) finish_here) finish_went (finish_whole p c) h is next w

-- ---- the page of a partial sheet

page_whole : (s : List ℕ) → Whole (length (page (read partial s).state)) (page_back s)
page_whole s z = ap (λ (r : Returned). r.length) (page_out room room space s (goes_out room room space s z)) ∙ sym (page_length (read partial s).state)

module _ (s a b out a' b' out' : List ℕ) (number line len : ℕ) (la : 16384 ≡ length a) (lb : 16384 ≡ length b) (lo : length out ≡ space) (x : Paged s a b out number line len out' a' b') where
  abbrev page_bytes : List ℕ
  page_bytes = page (read partial s).state

  page_here : page_returned (length a) (length b) (length out) s ≡ page_back s
  page_here = rw (← la, ← lb, lo)

  page_went : out' ≡ outputs (page_back s).number page_bytes out
  unfolding page_written
  page_went = x.buffer ∙ ap (λ (r : Returned). outputs r.number page_bytes out) page_here

  pub page_answer : number ≡ 0 → Shows (shown_page s) out' len
  unfolding shown_page
  page_answer h =
      shows_text (page_back s) page_bytes out out' number line len lo (x.number_is ∙ ap (λ (r : Returned). r.number) page_here) (x.line_is ∙ ap (λ (r : Returned). r.line) page_here)
      (x.length_is ∙ ap (λ (r : Returned). r.length) page_here) page_went (page_whole s) h

  pub page_refusal : (number ≡ 0 → ⊥) → (is : List ℕ) (next : ℕ) → Written out' 0 (refusal number line len) is next → Shows (shown_page s) is next
  unfolding shown_page
  page_refusal h is next w =
      shows_line (page_back s) page_bytes out out' number line len lo (x.number_is ∙ ap (λ (r : Returned). r.number) page_here) (x.line_is ∙ ap (λ (r : Returned). r.line) page_here)
      (x.length_is ∙ ap (λ (r : Returned). r.length) page_here) page_went (page_whole s) h is next w

-- ---- a partial sheet with one line replaced

module _ (s : List ℕ) (n : ℕ) (new a b out a' b' out' : List ℕ) (number line len : ℕ) (la : 16384 ≡ length a) (lb : 16384 ≡ length b) (lo : length out ≡ space)
    (x : Previewed s n new a b out number line len out' a' b') where
  abbrev copy : List ℕ
  copy = edited s n new

  abbrev preview_bytes : List ℕ
  preview_bytes = answer partial (read partial copy).state

  preview_here : preview_returned (length a) (length b) (length out) s n new ≡ preview_back s n new
  preview_here = rw (← la, ← lb, lo)

  preview_whole : Whole (length preview_bytes) (preview_returned (length a) (length b) (length out) s n new)
  unfolding preview_returned
  preview_whole =
      let r = returned partial (length a) (length b) (length out) copy in
      lent_by (Whole (length preview_bytes)) (length a) (length b) (short_then s (edit_then s n new r)) (λ h e. zero_not_suc e)
      (λ h. short_by (Whole (length preview_bytes)) s (edit_then s n new r) (λ e. zero_not_suc e) (λ h'. go (may_edit s n new)))
    where
      go : (t : Bool) → Whole (length preview_bytes) (cond t (returned partial (length a) (length b) (length out) copy) (returns 12 n 0))
      go true = λ z. (accepted_whole partial (length a) (length b) out copy z).1
      go false = λ e. zero_not_suc e

  preview_went : out' ≡ outputs (preview_back s n new).number preview_bytes out
  unfolding preview_written
  preview_went = x.buffer ∙ ap (λ (r : Returned). outputs r.number preview_bytes out) preview_here

  pub preview_answer : number ≡ 0 → Shows (shown_preview s n new) out' len
  unfolding shown_preview
  preview_answer h =
      shows_text (preview_back s n new) preview_bytes out out' number line len lo (x.number_is ∙ ap (λ (r : Returned). r.number) preview_here) (x.line_is ∙ ap (λ (r : Returned). r.line) preview_here)
      (x.length_is ∙ ap (λ (r : Returned). r.length) preview_here) preview_went (subst (Whole (length preview_bytes)) preview_here preview_whole) h

  pub preview_refusal : (number ≡ 0 → ⊥) → (is : List ℕ) (next : ℕ) → Written out' 0 (refusal number line len) is next → Shows (shown_preview s n new) is next
  unfolding shown_preview
  preview_refusal h is next w =
      shows_line (preview_back s n new) preview_bytes out out' number line len lo (x.number_is ∙ ap (λ (r : Returned). r.number) preview_here) (x.line_is ∙ ap (λ (r : Returned). r.line) preview_here)
      (x.length_is ∙ ap (λ (r : Returned). r.length) preview_here) preview_went (subst (Whole (length preview_bytes)) preview_here preview_whole) h is next w

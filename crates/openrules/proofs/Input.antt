-- Of what is read the first 16,385 bytes matter: a longer input is refused as those are. Of rows the first 65 do. Assumes nothing.
use mathlib.Core.Path.{◌≡◌, sym, ap, ◌∙◌}
use mathlib.Core.Bool.{Bool, cond}
use mathlib.Core.List.{List}
use Prim.Native.Nat.{ℕ, ◌≤◌, ◌<◌}
use native.Mathlib.Omega.{arith}
use native.Mathlib.Decide.{dec_le}
use borrow.Author.Tests.{lt-ltb, ne_eqb}
use lib.ListN.{length, take, length-take}
use lib.Seq.{take_all}
use Rattle.sheet.specs.Forms.{Mode, partial, complete}
use Rattle.sheet.specs.Sheet.{read}
use Rattle.sheet.specs.Call.{Returned, returns, room, lent_then, short_then, read_then, checked_then, returned}
use Rattle.sheet.proofs.reading.Lines.{zero_not_suc}
use Rattle.sheet.proofs.reading.Checked.{lent_by, short_by, checked_by}
use Rattle.finished.specs.Finish.{breaking_line, finished_answer, at_line, finish_returned}
use Rattle.paged.specs.Page.{page_returned}
use Rattle.previewed.specs.Preview.{preview_returned}
use Rattle.staff.specs.Firm.{Row, fit_then, firm_returned}
use Rattle.wording.specs.Worded.{entry_of, refusal}
use Rattle.openrules.specs.Shown.{space, text_of, shown, finish_back, shown_finished, shown_page, shown_preview, firm_back, firm_text, shown_firm}

-- what is printed is the same for all inputs that are too long
module _ (f : List ℕ → List ℕ) (alike : (s t : List ℕ) → 16384 < length s → 16384 < length t → f s ≡ f t) where
  front : (input : List ℕ) → f (take 16385 input) ≡ f input
  front input = go (dec_le (length input) 16385)
    where
      go : Dec (length input ≤ 16385) → f (take 16385 input) ≡ f input
      go (yes h) = ap f (take_all 16385 input h)
      go (no h) = alike (take 16385 input) input (omega (arith, length-take 16385 input)) (omega arith)

-- ---- a sheet alone

too_long : (m : Mode) (s : List ℕ) → 16384 < length s → returned m room room space s ≡ returns 2 0 0
unfolding returned
too_long m s h = rw (lt-ltb room (length s) h)

shown_long : (s : List ℕ) → 16384 < length s → shown s ≡ refusal 2 0 0
unfolding shown
shown_long s h = rw (too_long (entry_of s) s h)

pub first_bytes : (input : List ℕ) → shown (take 16385 input) ≡ shown input
first_bytes = front shown (λ s t h k. shown_long s h ∙ sym (shown_long t k))

-- ---- a page

page_long : (s : List ℕ) → 16384 < length s → shown_page s ≡ refusal 2 0 0
unfolding shown_page page_returned
page_long s h = rw (lt-ltb room (length s) h)

pub first_bytes_of_page : (input : List ℕ) → shown_page (take 16385 input) ≡ shown_page input
first_bytes_of_page = front shown_page (λ s t h k. page_long s h ∙ sym (page_long t k))

-- ---- both sheets

shown_first : (p c : List ℕ) → 16384 < length p → shown_finished p c ≡ refusal 2 0 0
unfolding shown_finished finish_returned
shown_first p c h = rw (lt-ltb room (length p) h)

-- a complete sheet too long: the refusal of the partial one, or 2
abbrev second_long : List ℕ → Returned
second_long p = lent_then room room (checked_then partial p (returns 2 0 0))

second_long_law : (p c : List ℕ) → 16384 < length c → finish_back p c ≡ second_long p
unfolding finish_returned
second_long_law p c h =
    let r = at_line (read partial p).state (read complete c).state space (breaking_line (read partial p).state (read complete c).state) in
    ap (λ (b : Bool). lent_then room room (checked_then partial p (cond b (returns 2 0 0) (read_then complete c r)))) (lt-ltb room (length c) h)

abbrev Refused : Returned → Type 0
Refused r = r.number ≡ 0 → ⊥

long_refused : (p : List ℕ) → (second_long p).number ≡ 0 → ⊥
long_refused p =
    lent_by Refused room room (checked_then partial p (returns 2 0 0)) (λ h e. zero_not_suc e)
    (λ h. checked_by Refused partial p (returns 2 0 0) (λ e. zero_not_suc e) (λ n q e. zero_not_suc e) (λ h' q e. zero_not_suc e))

-- a refusal's text has no bytes of an answer
refused_text : (r : Returned) (bytes bytes' : List ℕ) → (r.number ≡ 0 → ⊥) → text_of r bytes ≡ text_of r bytes'
refused_text r bytes bytes' f =
    let e = ne_eqb r.number 0 f in
    ap (λ (b : Bool). cond b bytes (refusal r.number r.line r.length)) e ∙ sym (ap (λ (b : Bool). cond b bytes' (refusal r.number r.line r.length)) e)

shown_second : (p c d : List ℕ) → 16384 < length c → 16384 < length d → shown_finished p c ≡ shown_finished p d
unfolding shown_finished
shown_second p c d h k =
    let x = finished_answer (read partial p).state (read complete c).state in
    let y = finished_answer (read partial p).state (read complete d).state in
    ap (λ (r : Returned). text_of r x) (second_long_law p c h) ∙ refused_text (second_long p) x y (long_refused p) ∙ sym (ap (λ (r : Returned). text_of r y) (second_long_law p d k))

pub first_bytes_of_both : (p c : List ℕ) → shown_finished (take 16385 p) (take 16385 c) ≡ shown_finished p c
first_bytes_of_both p c =
    front (λ (l : List ℕ). shown_finished l (take 16385 c)) (λ s t h k. shown_first s (take 16385 c) h ∙ sym (shown_first t (take 16385 c) k)) p
    ∙ front (shown_finished p) (shown_second p) c

-- ---- a line replaced

shown_kept : (s : List ℕ) (n : ℕ) (new : List ℕ) → 16384 < length s → shown_preview s n new ≡ refusal 2 0 0
unfolding shown_preview preview_returned
shown_kept s n new h = rw (lt-ltb room (length s) h)

pub first_bytes_of_kept : (s : List ℕ) (n : ℕ) (new : List ℕ) → shown_preview (take 16385 s) n new ≡ shown_preview s n new
first_bytes_of_kept s n new = front (λ (l : List ℕ). shown_preview l n new) (λ q r h k. shown_kept q n new h ∙ sym (shown_kept r n new k)) s

-- ---- a whole firm

firm_long : (s : List ℕ) (rows : List Row) → 16384 < length s → shown_firm s rows ≡ refusal 2 0 0
unfolding shown_firm firm_returned
firm_long s rows h = rw (lt-ltb room (length s) h)

pub first_bytes_of_firm : (s : List ℕ) (rows : List Row) → shown_firm (take 16385 s) rows ≡ shown_firm s rows
first_bytes_of_firm s rows = front (λ (l : List ℕ). shown_firm l rows) (λ q r h k. firm_long q rows h ∙ sym (firm_long r rows k)) s

-- too many rows: 2 of the sheet, or 14
abbrev many_rows : List ℕ → Returned
many_rows s = lent_then room room (short_then s (returns 14 0 0))

rows_many : (s : List ℕ) (rows : List Row) → 64 < length rows → firm_back s rows ≡ many_rows s
unfolding firm_returned
rows_many s rows h =
    let r = read_then partial s (fit_then (read partial s).state rows (returns 0 0 0)) in
    ap (λ (b : Bool). lent_then room room (short_then s (cond b (returns 14 0 0) r))) (lt-ltb 64 (length rows) h)

many_refused : (s : List ℕ) → Refused (many_rows s)
many_refused s = lent_by Refused room room (short_then s (returns 14 0 0)) (λ h e. zero_not_suc e) (λ h. short_by Refused s (returns 14 0 0) (λ e. zero_not_suc e) (λ h' e. zero_not_suc e))

many_alike : (s : List ℕ) (p q : List Row) → 64 < length p → 64 < length q → shown_firm s p ≡ shown_firm s q
unfolding shown_firm
many_alike s p q h k =
    ap (λ (r : Returned). text_of r (firm_text s p)) (rows_many s p h) ∙ refused_text (many_rows s) (firm_text s p) (firm_text s q) (many_refused s) ∙ sym (ap (λ (r : Returned). text_of r (firm_text s q)) (rows_many s q k))

pub first_rows : (s : List ℕ) (rows : List Row) → shown_firm s (take 65 rows) ≡ shown_firm s rows
first_rows s rows = go (dec_le (length rows) 65)
  where
    go : Dec (length rows ≤ 65) → shown_firm s (take 65 rows) ≡ shown_firm s rows
    go (yes h) = ap (shown_firm s) (take_all 65 rows h)
    go (no h) = many_alike s (take 65 rows) rows (omega (arith, length-take 65 rows)) (omega arith)

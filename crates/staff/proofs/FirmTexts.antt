-- THE SHEET WITH THE TWO TEXTS FILLED IN HAS THESE TEXTS: its principal and its resource are the row's, known before or not.
use mathlib.Core.Path.{◌≡◌, refl, sym, ◌∙◌, ap, subst}
use mathlib.Core.Bool.{Bool, true, false, cond, ◌||◌}
use mathlib.Core.List.{List, [], ◌∷◌}
use Prim.Native.Nat.{ℕ, ◌≤◌, ◌<◌}
use native.Mathlib.Omega.{arith}
use lib.Dec.{ltb, eqb}
use lib.ListN.{length, get_or, set}
use Rattle.cedar.proofs.Tools.{eqb_true, and_both}
use Rattle.sheet.specs.Forms.{partial, forms, form_of, tag, items, at, mark, key_of, TEXT, PRINCIPAL, RESOURCE, no_key, no_tag}
use Rattle.sheet.specs.State.{State, count, lines_of, line_at}
use Rattle.sheet.specs.Sheet.{read, least}
use Rattle.sheet.specs.Call.{Accepted}
use Rattle.staff.specs.Firm.{Asked, filled_sheet, set_texts, with_texts, text_fits, ask_fits}
use Rattle.sheet.proofs.demand3.Demand3Bytes.{facts}
use Rattle.sheet.proofs.content.Environment.{Facts, a_line, the_line}
use Rattle.sheet.proofs.reading.NodeRows.{row_read}
use Rattle.sheet.proofs.reading.Parsed.{all_below, between, tags_between, request_tags}
use Rattle.staff.proofs.FirmState.{Lines, listed, principal_tag, resource_tag}
use Rattle.staff.proofs.FirmBytes.{filled_sheet_law}

-- the first of these lines has the text
text_set : (t : ℕ) (p : Lines) → 1 ≤ length p → 2 ≤ length (items (get_or p 0 [])) → (eqb (at (get_or p 0 []) 1) mark || eqb (at (get_or p 0 []) 1) t) ≡ true → at (get_or (set_texts t p) 0 []) 1 ≡ t
text_set t [] h k e = absurd (omega (arith, h))
text_set t ([] ∷ p) h k e = absurd (omega (arith, k))
text_set t ((a ∷ []) ∷ p) h k e = absurd (omega (arith, k))
text_set t ((a ∷ b ∷ []) ∷ p) h k e = absurd (omega (arith, k))
text_set t ((a ∷ b ∷ x ∷ l) ∷ p) h k e = go (eqb x mark) e
  where
    go : (c : Bool) → (c || eqb x t) ≡ true → at (cond c (a ∷ b ∷ t ∷ l) (a ∷ b ∷ x ∷ l)) 1 ≡ t
    go true e = refl
    go false e = eqb_true x t e

with_lines : (s : State) (q : Asked) → length s.lines ≡ no_key → (lines_of (with_texts s q) PRINCIPAL ≡ set_texts q.principal (lines_of s PRINCIPAL)) × (lines_of (with_texts s q) RESOURCE ≡ set_texts q.resource (lines_of s RESOURCE))
unfolding with_texts
with_lines s q e = listed s.lines e (λ a0 a1 a2 a3 a4 a5 a6 a7 a8 a9 a10 a11 a12 a13 a14 a15 g. subst Both (sym g) (refl, refl))
  where
    filled : List Lines → List Lines
    filled ls = set (set ls PRINCIPAL (set_texts q.principal (get_or ls PRINCIPAL []))) RESOURCE (set_texts q.resource (get_or ls RESOURCE []))

    Both : List Lines → Type 0
    Both ls = (get_or (filled ls) PRINCIPAL [] ≡ set_texts q.principal (get_or ls PRINCIPAL [])) × (get_or (filled ls) RESOURCE [] ≡ set_texts q.resource (get_or ls RESOURCE []))

-- the line of a key of one form, whose tag is t, has as many items as the form
row_items : (s : State) → Facts partial s → (k t : ℕ) → k < no_key → 2 ≤ t → t < no_tag → (t ≡ 11 → ⊥) → all_below (between k t t) no_tag ≡ true → 1 ≤ get_or (least s) k 0 → length (form_of t).items ≤ length (items (line_at s k 0))
unfolding key_of
row_items s f k t lt lo hi other only one =
    let w = the_line partial s f k lt one in
    let (a, b) = tags_between k t t (tag (line_at s k 0)) lt only w.key in
    (row_read partial (line_at s k 0) w.line t w.row (omega (arith, a, b)) lo hi other).least

module _ (sheet : List ℕ) (q : Asked) (acc : Accepted partial sheet) (fits : ask_fits (read partial sheet).state q ≡ true) where
  abbrev s : State
  s = (read partial sheet).state

  abbrev filled : State
  filled = (read partial (filled_sheet sheet q)).state

  is_filled : filled ≡ with_texts s q
  is_filled = (filled_sheet_law sheet q acc fits).1

  f : Facts partial s
  f = facts partial sheet acc

  not_other : (k t : ℕ) → text_fits s k t ≡ true → (eqb (at (line_at s k 0) 1) mark || eqb (at (line_at s k 0) 1) t) ≡ true
  not_other k t e = and_both (ltb t (count s TEXT)) (eqb (at (line_at s k 0) 1) mark || eqb (at (line_at s k 0) 1) t) e (λ x y. y)

  pub principal_is : at (line_at filled PRINCIPAL 0) 1 ≡ q.principal
  unfolding form_of forms
  principal_is =
      ap (λ (u : State). at (line_at u PRINCIPAL 0) 1) is_filled ∙ ap (λ (ls : Lines). at (get_or ls 0 []) 1) (with_lines s q f.keys).0
      ∙ text_set q.principal (lines_of s PRINCIPAL) (a_line partial s f PRINCIPAL (omega arith) (omega arith)) (row_items s f PRINCIPAL principal_tag (omega arith) (omega arith) (omega arith) (λ z. omega (arith, z)) request_tags.0 (omega arith))
      (and_both (text_fits s PRINCIPAL q.principal) (text_fits s RESOURCE q.resource) fits (λ a b. not_other PRINCIPAL q.principal a))

  pub resource_is : at (line_at filled RESOURCE 0) 1 ≡ q.resource
  unfolding form_of forms
  resource_is =
      ap (λ (u : State). at (line_at u RESOURCE 0) 1) is_filled ∙ ap (λ (ls : Lines). at (get_or ls 0 []) 1) (with_lines s q f.keys).1
      ∙ text_set q.resource (lines_of s RESOURCE) (a_line partial s f RESOURCE (omega arith) (omega arith)) (row_items s f RESOURCE resource_tag (omega arith) (omega arith) (omega arith) (λ z. omega (arith, z)) request_tags.2 (omega arith))
      (and_both (text_fits s PRINCIPAL q.principal) (text_fits s RESOURCE q.resource) fits (λ a b. not_other RESOURCE q.resource b))

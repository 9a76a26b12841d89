-- The rows of principal and resource with a text set. Assumes nothing.
use mathlib.Core.Path.{◌≡◌, refl, sym, ap, ◌∙◌, subst}
use mathlib.Core.Bool.{Bool, true, false, cond, ◌||◌}
use mathlib.Core.Option.{some}
use mathlib.Core.List.{List, [], ◌∷◌}
use Prim.Native.Nat.{ℕ, suc, ◌<◌}
use native.Mathlib.Omega.{arith}
use borrow.Author.Tests.{eqb-true}
use lib.Dec.{eqb}
use lib.ListN.{length, get_or}
use Rattle.sheet.specs.Forms.{Mode, forms, form_of, counted, items_from, tag, key_of, row_of, no_tag, at, mark, PRINCIPAL, RESOURCE}
use Rattle.sheet.specs.State.{State}
use Rattle.sheet.proofs.reading.Lines.{Was}
use Rattle.sheet.proofs.reading.Parsed.{parsed, counted_plain, tags_between, request_tags}
use Rattle.sheet.proofs.reading.NodeRows.{plain_slots}
use Rattle.sheet.proofs.content.ValueRows.{items_length}
use Rattle.forms.specs.Tags.{PRINCIPAL_LINE, RESOURCE_LINE}
use Rattle.staff.specs.Firm.{set_text, set_texts}
use Rattle.laid.specs.Laid.{line_with}

-- ---- a row of principal or resource has its tag, its kind and its text

line_size : (m : Mode) (t : ℕ) → t < no_tag → (t ≡ 11 → ⊥) → (t ≡ no_tag → ⊥) → (t ≡ 1 → ⊥) → (form_of t).group ≡ [] → length (form_of t).items ≡ 2 → (r l : List ℕ) → r ≡ row_of m l → tag r ≡ t → length r ≡ 3
unfolding counted
line_size m t lt n d o g two r l e k = parsed m r (λ q. absurd (d (sym k ∙ ap tag q))) (λ v q. absurd (o (sym k ∙ ap tag q)))
    (λ u fs ys c i q. let z : u ≡ t = sym (ap tag q) ∙ k in
    ap length q ∙ ap suc (items_length m t (plain_slots t lt n) 0 fs (subst (λ x. items_from m x 0 fs ≡ some ys) z i)
    ∙ counted_plain (form_of t) (length fs) g (subst (λ x. counted x (length fs) ≡ true) z c) ∙ two))
    l e

pub principal_size : (m : Mode) (s : State) (pre : List (List ℕ)) (r : List ℕ) → Was m s PRINCIPAL pre r → length r ≡ 3
unfolding key_of form_of forms
principal_size m s pre r w =
    let (lo, hi) = tags_between PRINCIPAL PRINCIPAL_LINE PRINCIPAL_LINE (tag r) (omega arith) request_tags.0 w.key in
    line_size m PRINCIPAL_LINE (omega arith) (λ x. absurd (omega (arith, x))) (λ x. absurd (omega (arith, x))) (λ x. absurd (omega (arith, x))) refl refl r w.line w.row (omega (arith, lo, hi))

pub resource_size : (m : Mode) (s : State) (pre : List (List ℕ)) (r : List ℕ) → Was m s RESOURCE pre r → length r ≡ 3
unfolding key_of form_of forms
resource_size m s pre r w =
    let (lo, hi) = tags_between RESOURCE RESOURCE_LINE RESOURCE_LINE (tag r) (omega arith) request_tags.2 w.key in
    line_size m RESOURCE_LINE (omega arith) (λ x. absurd (omega (arith, x))) (λ x. absurd (omega (arith, x))) (λ x. absurd (omega (arith, x))) refl refl r w.line w.row (omega (arith, lo, hi))

-- ---- a text that fits, set

set_text_law : (r : List ℕ) (t : ℕ) → length r ≡ 3 → (eqb (at r 1) mark || eqb (at r 1) t) ≡ true → set_text t r ≡ line_with r t
set_text_law [] t e f = absurd (omega (arith, e))
set_text_law (x ∷ []) t e f = absurd (omega (arith, e))
set_text_law (x ∷ y ∷ []) t e f = absurd (omega (arith, e))
set_text_law (x ∷ y ∷ z ∷ []) t e f = go (eqb z mark) f
  where
    go : (b : Bool) → (b || eqb z t) ≡ true → cond b (x ∷ y ∷ t ∷ []) (x ∷ y ∷ z ∷ []) ≡ x ∷ y ∷ t ∷ []
    go true g = refl
    go false g = ap (λ n. x ∷ y ∷ n ∷ []) (eqb-true z t g)
set_text_law (x ∷ y ∷ z ∷ u ∷ r) t e f = absurd (omega (arith, e))

one_only : (l : List (List ℕ)) → length l ≡ 1 → l ≡ get_or l 0 [] ∷ []
one_only [] e = absurd (omega (arith, e))
one_only (r ∷ []) e = refl
one_only (r ∷ q ∷ l) e = absurd (omega (arith, e))

pub texts_set : (l : List (List ℕ)) (t : ℕ) → length l ≡ 1 → length (get_or l 0 []) ≡ 3 → (eqb (at (get_or l 0 []) 1) mark || eqb (at (get_or l 0 []) 1) t) ≡ true
    → set_texts t l ≡ line_with (get_or l 0 []) t ∷ []
texts_set l t e h f = ap (set_texts t) (one_only l e) ∙ ap (λ r. r ∷ []) (set_text_law (get_or l 0 []) t h f)

-- Of a sheet that the words hold: the rows of its policies, and the policies on term. Assumes nothing.
use mathlib.Core.Path.{◌≡◌, refl, sym, ◌∙◌, ap, subst}
use mathlib.Core.Bool.{true}
use mathlib.Core.Option.{some}
use mathlib.Core.List.{List, []}
use Prim.Native.Nat.{ℕ, zero, suc, ◌<◌}
use native.Mathlib.Omega.{arith}
use lib.ListN.{length, get_or}
use Rattle.sheet.specs.Forms.{Mode, forms, form_of, counted, items_from, tag, key_of, row_of, no_tag, DAY, POLICY, LINK, TERM}
use Rattle.sheet.specs.State.{State, lines_of}
use Rattle.sheet.specs.Sheet.{read}
use Rattle.sheet.specs.Content.{on_term}
use Rattle.sheet.proofs.reading.Lines.{Was, accepted_history}
use Rattle.sheet.proofs.reading.Parsed.{parsed, counted_plain, tags_between}
use Rattle.sheet.proofs.reading.NodeRows.{plain_slots}
use Rattle.sheet.proofs.content.ValueRows.{items_length}
use Rattle.sheet.proofs.content.PoliciesRead.{policy_tags}
use Rattle.sheet.proofs.content.OnTerm.{Each, none, more, each_line, same_term}
use Rattle.forms.specs.Tags.{POLICY_LINE}
use Rattle.table.specs.Layout.{POLICY_WORDS, rows_of, held}
use Rattle.table.proofs.Rows.{lines_held_law, count_rows}

-- a policy's row has its tag, id, effect and node
policy_size : (m : Mode) (r l : List ℕ) → r ≡ row_of m l → tag r ≡ POLICY_LINE → length r ≡ POLICY_WORDS
unfolding counted form_of forms
policy_size m r l e k = parsed m r (λ q. let z : no_tag ≡ POLICY_LINE = sym (ap tag q) ∙ k in absurd (omega (arith, z))) (λ v q. let z : 1 ≡ POLICY_LINE = sym (ap tag q) ∙ k in absurd (omega (arith, z)))
    (λ t fs l c i q. let z : t ≡ POLICY_LINE = sym (ap tag q) ∙ k in
    ap length q ∙ ap suc (items_length m POLICY_LINE (plain_slots POLICY_LINE (omega arith) (λ x. absurd (omega (arith, x)))) 0 fs (subst (λ x. items_from m x 0 fs ≡ some l) z i)
    ∙ counted_plain (form_of POLICY_LINE) (length fs) refl (subst (λ x. counted x (length fs) ≡ true) z c)))
    l e

each_at : {P : List ℕ → Type 0} {rs : List (List ℕ)} → Each P rs → (n : ℕ) → n < length rs → P (get_or rs n [])
each_at none n h = absurd (omega arith)
each_at (more p ps) zero h = p
each_at (more p ps) (suc n) h = each_at ps n (omega arith)

policy_was : (m : Mode) (s : State) (pre : List (List ℕ)) (r : List ℕ) → Was m s POLICY pre r → length r ≡ POLICY_WORDS
unfolding key_of
policy_was m s pre r w =
    let (lo, hi) = tags_between POLICY POLICY_LINE POLICY_LINE (tag r) (omega arith) policy_tags w.key in
    policy_size m r w.line w.row (omega (arith, lo, hi))

pub policy_rows : (m : Mode) (sheet a b : List ℕ) → (read m sheet).number ≡ 0 → held sheet a b ≡ (read m sheet).state
    → (n : ℕ) → n < get_or a POLICY 0 → length (get_or (rows_of a POLICY) n []) ≡ POLICY_WORDS
policy_rows m sheet a b e h n lt =
    let (hi, fu) = accepted_history m sheet e in
    let own : lines_of (read m sheet).state POLICY ≡ rows_of a POLICY = ap (λ (s : State). lines_of s POLICY) (sym h) ∙ lines_held_law sheet a b POLICY (omega arith) (λ x. absurd (omega arith)) in
    let all : Each (λ r. length r ≡ POLICY_WORDS) (rows_of a POLICY) = subst (Each (λ r. length r ≡ POLICY_WORDS)) own
    (each_line (λ r. length r ≡ POLICY_WORDS) (lines_of (read m sheet).state POLICY) (λ pre r rest q. policy_was m (read m sheet).state pre r (hi POLICY pre r rest q))) in
    each_at all n (omega (arith, count_rows a POLICY))

-- texts and depths do not matter for the policies on term
pub term_alike : (a sheet b : List ℕ) → on_term (held [] a []) ≡ on_term (held sheet a b)
term_alike a sheet b =
    same_term (held [] a []) (held sheet a b)
    (lines_held_law [] a [] DAY (omega arith) (λ x. absurd (omega arith)) ∙ sym (lines_held_law sheet a b DAY (omega arith) (λ x. absurd (omega arith))))
    (lines_held_law [] a [] TERM (omega arith) (λ x. absurd (omega arith)) ∙ sym (lines_held_law sheet a b TERM (omega arith) (λ x. absurd (omega arith))))
    (lines_held_law [] a [] LINK (omega arith) (λ x. absurd (omega arith)) ∙ sym (lines_held_law sheet a b LINK (omega arith) (λ x. absurd (omega arith))))
    (lines_held_law [] a [] POLICY (omega arith) (λ x. absurd (omega arith)) ∙ sym (lines_held_law sheet a b POLICY (omega arith) (λ x. absurd (omega arith))))

-- The policies of a partial answer, with the roots of their residuals, and the whole of it. Assumes nothing.
use mathlib.Core.Path.{◌≡◌, refl, sym, ap, ap₂, ◌∙◌}
use mathlib.Core.List.{List, [], ◌∷◌, ◌++◌, append_assoc}
use Prim.Native.Nat.{ℕ, ◌+◌, ◌≤◌, ◌<◌}
use native.Mathlib.Numerals.{add-one}
use native.Mathlib.Omega.{arith}
use lib.ListN.{length, get_or, drop}
use Rattle.sheet.specs.Ascii.{ascii}
use Rattle.sheet.specs.Bytes.{digits, commas}
use Rattle.sheet.specs.Forms.{at, NODE}
use Rattle.sheet.specs.Answer.{printed, concat, effect_word, class_word, policy_items, head_lines}
use Rattle.sheet.specs.Why.{Name}
use Rattle.table.specs.Layout.{RUN, rows_of}
use Rattle.table.proofs.Rows.{count_rows}
use Rattle.value.proofs.Lists.{uncons, spent}
use Rattle.print.specs.declared.Out.{Out}
use Rattle.print.specs.Out.{Prints}
use Rattle.print.proofs.Outs.{prints_as, prints_two}
use Rattle.listing.specs.Values.{made_lines}
use Rattle.listing.specs.Nodes.{log_lines}
use Rattle.listing.proofs.Printing.{Printing, printing_on, printing_end}
use Rattle.response.specs.Verdicts.{class_in, effect_in, verdicts_in}
use Rattle.response.specs.Printed.{policy_of, policy_at, rooted_of, rooted_lines, partial_bytes}
use Rattle.response.proofs.Counting.{first_of, next_of}

commas_snoc : (x : List ℕ) (l : List (List ℕ)) (y : List ℕ) → commas ((x ∷ l) ++ (y ∷ [])) ≡ commas (x ∷ l) ++ (44 ∷ y)
commas_snoc x [] y = refl
commas_snoc x (z ∷ l) y = ap (λ (m : List ℕ). x ++ (44 ∷ m)) (commas_snoc z l y) ∙ sym (append_assoc x (44 ∷ commas (z ∷ l)) (44 ∷ y))

-- a policy's line is its beginning, and the root after a comma
rooted_text : (r : List ℕ) (c x : ℕ) → printed "policy" (policy_items (at r 0) (effect_in r) (class_in c) (digits x ∷ [])) ≡ policy_of r c ++ ((44 ∷ digits x) ++ (10 ∷ []))
rooted_text r c x =
    let i : List (List ℕ) = ascii (effect_word (effect_in r)) ∷ ascii (class_word (class_in c)) ∷ [] in
    ap (λ (m : List ℕ). ascii "policy" ++ (61 ∷ (m ++ (10 ∷ [])))) (commas_snoc (digits (at r 0)) i (digits x))
    ∙ ap (λ (m : List ℕ). ascii "policy" ++ (61 ∷ m)) (append_assoc (commas (digits (at r 0) ∷ i)) (44 ∷ digits x) (10 ∷ []))

abbrev pub rooted_from : List ℕ → List ℕ → List ℕ → ℕ → List ℕ
rooted_from a cs es i = concat (rooted_of (drop i (rows_of a RUN)) (drop i cs) (drop i es))

pub next : (l : List ℕ) (i : ℕ) → drop 1 (drop i l) ≡ drop (i + 1) l
next l i = next_of l i ∙ ap (λ (j : ℕ). drop j l) (sym (add-one i))

rooted_step : (a cs es : List ℕ) (i : ℕ) → i < length (rows_of a RUN) → rooted_from a cs es i ≡ (policy_at a cs i ++ ((44 ∷ digits (get_or es i 0)) ++ (10 ∷ []))) ++ rooted_from a cs es (i + 1)
unfolding policy_at
rooted_step a cs es i h =
    ap (λ (l : List (List ℕ)). concat (rooted_of l (drop i cs) (drop i es))) (uncons (rows_of a RUN) [] i h)
    ∙ ap₂ (λ (c x : ℕ). printed "policy" (policy_items (at (get_or (rows_of a RUN) i []) 0) (effect_in (get_or (rows_of a RUN) i [])) (class_in c) (digits x ∷ []))
    ++ concat (rooted_of (drop (i + 1) (rows_of a RUN)) (drop 1 (drop i cs)) (drop 1 (drop i es)))) (first_of cs i) (first_of es i)
    ∙ ap₂ (λ (p q : List ℕ). printed "policy" (policy_items (at (get_or (rows_of a RUN) i []) 0) (effect_in (get_or (rows_of a RUN) i [])) (class_in (get_or cs i 0)) (digits (get_or es i 0) ∷ []))
    ++ concat (rooted_of (drop (i + 1) (rows_of a RUN)) p q)) (next cs i) (next es i)
    ∙ ap (λ (m : List ℕ). m ++ rooted_from a cs es (i + 1)) (rooted_text (get_or (rows_of a RUN) i []) (get_or cs i 0) (get_or es i 0))

pub rooted_line_law : {b c d e : Out} (a cs : List ℕ) (i x : ℕ) → Prints b (policy_at a cs i) c → Prints c (44 ∷ digits x) d → Prints d (10 ∷ []) e → Prints b (policy_at a cs i ++ ((44 ∷ digits x) ++ (10 ∷ []))) e
rooted_line_law a cs i x u v w = prints_two u (prints_two v w)

module _ (a cs es : List ℕ) (n : ℕ) (en : n ≡ get_or a RUN 0) where
  many : n ≡ length (rows_of a RUN)
  many = en ∙ sym (count_rows a RUN)

  module _ (i : ℕ) {a₀ b : Out} (p : Printing (concat (rooted_lines a cs es)) (rooted_from a cs es i) a₀ b) where
    pub rooted_on : {c : Out} (x : ℕ) → i < n → x ≡ get_or es i 0 → Prints b (policy_at a cs i ++ ((44 ∷ digits x) ++ (10 ∷ []))) c → Printing (concat (rooted_lines a cs es)) (rooted_from a cs es (i + 1)) a₀ c
    rooted_on x h e w =
        printing_on p (policy_at a cs i ++ ((44 ∷ digits (get_or es i 0)) ++ (10 ∷ []))) (rooted_from a cs es (i + 1)) (rooted_step a cs es i (omega (arith, many)))
        (prints_as w (ap (λ (y : ℕ). policy_at a cs i ++ ((44 ∷ digits y) ++ (10 ∷ []))) e))

    pub rooted_end : n ≤ i → Prints a₀ (concat (rooted_lines a cs es)) b
    rooted_end h = printing_end p (ap (λ (l : List (List ℕ)). concat (rooted_of l (drop i cs) (drop i es))) (spent (rows_of a RUN) i (omega (arith, many))))

-- ---- a partial answer

pub partial_is : {b c d e f : Out} (name : Name) (a l cs es : List ℕ) → Prints b (concat (head_lines name (verdicts_in a cs))) c → Prints c (made_lines a) d → Prints d (concat (log_lines (rows_of a NODE) l)) e → Prints e (concat (rooted_lines a cs es)) f
    → Prints b (partial_bytes name a l cs es) f
unfolding partial_bytes
partial_is name a l cs es p q r s = prints_two p (prints_two q (prints_two r s))

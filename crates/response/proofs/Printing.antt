-- The head of an answer and its policies, run by run. Assumes nothing.
use mathlib.Core.Path.{◌≡◌, refl, sym, ap, ap₂, ◌∙◌}
use mathlib.Core.List.{List, [], ◌∷◌, ◌++◌, append-nil, append_assoc}
use Prim.Native.Nat.{ℕ, ◌+◌, ◌≤◌, ◌<◌}
use native.Mathlib.Omega.{arith}
use lib.ListN.{length, get_or, drop}
use Rattle.cedar.specs.Residual.{Class, ctrue, cfalse, cerror, copen}
use Rattle.cedar.specs.Response.{Effect, permit, forbid, Verdict, decision}
use Rattle.sheet.specs.Ascii.{ascii}
use Rattle.sheet.specs.Bytes.{digits, commas}
use Rattle.sheet.specs.Sheet.{firsts}
use Rattle.sheet.specs.Content.{on_term}
use Rattle.sheet.specs.Answer.{printed, concat, numbers, counts_of, effect_word, class_word, complete_lines, head_lines, complete_of}
use Rattle.sheet.specs.Why.{Name, why, why_item}
use Rattle.forms.specs.Tags.{PERMIT, FORBID}
use Rattle.table.specs.Layout.{RUN, rows_of, held}
use Rattle.table.proofs.Rows.{count_rows}
use Rattle.value.proofs.Lists.{uncons, spent}
use Rattle.print.specs.declared.Out.{Out}
use Rattle.print.specs.Out.{Prints}
use Rattle.print.proofs.Outs.{prints_as, prints_two}
use Rattle.residual.specs.Classes.{class_number}
use Rattle.sheet.proofs.answer.LinesBack.{concat_append}
use Rattle.listing.proofs.Printing.{Printing, printing_on, printing_end}
use Rattle.response.specs.Verdicts.{class_in, effect_in, effect_number, verdicts_in, decision_of}
use Rattle.response.specs.Naming.{ids_in, why_in}
use Rattle.response.specs.Printed.{id_bytes, decision_bytes, effect_bytes, class_bytes, listed, four_of, policy_at, policy_lines, complete_bytes}
use Rattle.response.specs.declared.Decision as D
use Rattle.response.proofs.Counting.{counts_are, verdicts_from, verdicts_on}

-- ---- straight runs

pub counts_four : {a₀ a₁ a₂ a₃ a₄ : Out} (b e : ℕ) (ls : List Verdict) (c₀ c₁ c₂ c₃ : ℕ) → c₀ ≡ get_or (four_of e ls) 0 0 → c₁ ≡ get_or (four_of e ls) 1 0 → c₂ ≡ get_or (four_of e ls) 2 0 → c₃ ≡ get_or (four_of e ls) 3 0
    → Prints a₀ (b ∷ digits c₀) a₁ → Prints a₁ (44 ∷ digits c₁) a₂ → Prints a₂ (44 ∷ digits c₂) a₃ → Prints a₃ (44 ∷ digits c₃) a₄ → Prints a₀ (listed b (four_of e ls)) a₄
counts_four b e ls c₀ c₁ c₂ c₃ e₀ e₁ e₂ e₃ v₀ v₁ v₂ v₃ =
    prints_as (prints_two v₀ (prints_two v₁ (prints_two v₂ v₃)))
    (rw (← e₀, ← e₁, ← e₂, ← e₃) (ap (λ (l : List ℕ). (b ∷ digits c₀) ++ ((44 ∷ digits c₁) ++ ((44 ∷ digits c₂) ++ l))) (sym (append-nil (44 ∷ digits c₃)))))

-- numbers printed between commas, by one list and by two
listed_numbers : (b n : ℕ) (l : List ℕ) → listed b (n ∷ l) ≡ b ∷ commas (numbers (n ∷ l))
listed_numbers b n [] = append-nil (b ∷ digits n)
listed_numbers b n (m ∷ l) = ap (λ (x : List ℕ). (b ∷ digits n) ++ x) (listed_numbers 44 m l)

listed_append : (b n : ℕ) (k l : List ℕ) → listed b ((n ∷ k) ++ l) ≡ listed b (n ∷ k) ++ listed 44 l
listed_append b n [] l = ap (λ (x : List ℕ). x ++ listed 44 l) (sym (append-nil (b ∷ digits n)))
listed_append b n (m ∷ k) l = ap (λ (x : List ℕ). (b ∷ digits n) ++ x) (listed_append 44 m k l) ∙ sym (append_assoc (b ∷ digits n) (listed 44 (m ∷ k)) (listed 44 l))

counts_text : (ls : List Verdict) → (99 ∷ 111 ∷ 117 ∷ 110 ∷ 116 ∷ 115 ∷ []) ++ (listed 61 (four_of PERMIT ls) ++ (listed 44 (four_of FORBID ls) ++ (10 ∷ []))) ≡ printed "counts" (numbers (counts_of ls))
counts_text ls =
    ap (λ (l : List ℕ). (99 ∷ 111 ∷ 117 ∷ 110 ∷ 116 ∷ 115 ∷ []) ++ l)
    (sym (append_assoc (listed 61 (four_of PERMIT ls)) (listed 44 (four_of FORBID ls)) (10 ∷ []))
    ∙ ap (λ (l : List ℕ). l ++ (10 ∷ [])) (sym (all (four_of PERMIT ls) (four_of FORBID ls) refl) ∙ ap (listed 61) (counts_are ls) ∙ last))
  where
    all : (k l : List ℕ) → k ≡ four_of PERMIT ls → listed 61 (four_of PERMIT ls ++ l) ≡ listed 61 (four_of PERMIT ls) ++ listed 44 l
    all k l e = listed_append 61 (get_or (four_of PERMIT ls) 0 0) (drop 1 (four_of PERMIT ls)) l

    last : listed 61 (counts_of ls) ≡ 61 ∷ commas (numbers (counts_of ls))
    last = listed_numbers 61 (get_or (counts_of ls) 0 0) (drop 1 (counts_of ls))

module _ (ls : List Verdict) where
  pub counts_line_law : {a b c d e : Out} → Prints a (99 ∷ 111 ∷ 117 ∷ 110 ∷ 116 ∷ 115 ∷ []) b → Prints b (listed 61 (four_of PERMIT ls)) c → Prints c (listed 44 (four_of FORBID ls)) d → Prints d (10 ∷ []) e
      → Prints a (printed "counts" (numbers (counts_of ls))) e
  counts_line_law u v w x = prints_as (prints_two u (prints_two v (prints_two w x))) (counts_text ls)

  pub head_lines_law : {a b c f : Out} (name : Name) (d : D.Decision) → decision_of d ≡ decision ls → Prints a (decision_bytes (decision_of d)) b → Prints b (printed "counts" (numbers (counts_of ls))) c → Prints c (printed "why" (why_item name ∷ [])) f
      → Prints a (concat (head_lines name ls)) f
  head_lines_law name d e u v w =
      prints_as (prints_two u (prints_two v w))
      (ap₂ (λ (k l : List ℕ). k ++ (printed "counts" (numbers (counts_of ls)) ++ l)) (ap decision_bytes e) (sym (append-nil (printed "why" (why_item name ∷ [])))))

-- ---- a policy

effect_text : (e : Effect) → effect_bytes (effect_number e) ≡ 44 ∷ ascii (effect_word e)
effect_text permit = refl
effect_text forbid = refl

class_text : (c : Class) → class_bytes (class_number c) ≡ 44 ∷ ascii (class_word c)
class_text ctrue = refl
class_text cfalse = refl
class_text cerror = refl
class_text copen = refl

pub policy_id_law : {b c d : Out} (a : List ℕ) (i x : ℕ) (r : List ℕ) → r ≡ get_or (rows_of a RUN) i [] → x ≡ get_or r 1 0 → Prints b (112 ∷ 111 ∷ 108 ∷ 105 ∷ 99 ∷ 121 ∷ []) c → Prints c (61 ∷ digits x) d
    → Prints b (id_bytes (get_or (rows_of a RUN) i [])) d
policy_id_law a i x r er ex v w =
    prints_as (prints_two v w) (ap (λ (n : ℕ). (112 ∷ 111 ∷ 108 ∷ 105 ∷ 99 ∷ 121 ∷ 61 ∷ []) ++ digits n) (ex ∙ ap (λ (q : List ℕ). get_or q 1 0) er))

pub policy_start_law : {b d f g : Out} (a cs : List ℕ) (i : ℕ) (e : Effect) (c : Class) → e ≡ effect_in (get_or (rows_of a RUN) i []) → c ≡ class_in (get_or cs i 0)
    → Prints b (id_bytes (get_or (rows_of a RUN) i [])) d → Prints d (effect_bytes (effect_number e)) f → Prints f (class_bytes (class_number c)) g → Prints b (policy_at a cs i) g
unfolding policy_at
policy_start_law a cs i e c ee ec v₁ v₂ v₃ =
    prints_as (prints_two v₁ (prints_two v₂ v₃))
    (ap₂ (λ (k l : List ℕ). id_bytes (get_or (rows_of a RUN) i []) ++ (k ++ l)) (effect_text e ∙ ap (λ (x : Effect). 44 ∷ ascii (effect_word x)) ee) (class_text c ∙ ap (λ (x : Class). 44 ∷ ascii (class_word x)) ec))

-- ---- all of them

abbrev pub lines_from : List ℕ → List ℕ → ℕ → List (List ℕ)
lines_from a cs i = complete_lines (firsts (drop i (rows_of a RUN))) (verdicts_from a cs i)

lines_on : (a cs : List ℕ) (i : ℕ) → i < length (rows_of a RUN) → concat (lines_from a cs i) ≡ (policy_at a cs i ++ (10 ∷ [])) ++ concat (lines_from a cs (i + 1))
unfolding policy_at
lines_on a cs i h =
    ap₂ (λ (rs : List (List ℕ)) (vs : List Verdict). concat (complete_lines (firsts rs) vs)) (uncons (rows_of a RUN) [] i h) (verdicts_on a cs i h)

module _ (a cs : List ℕ) (n : ℕ) (en : n ≡ get_or a RUN 0) where
  many : n ≡ length (rows_of a RUN)
  many = en ∙ sym (count_rows a RUN)

  module _ (i : ℕ) {a₀ b : Out} (p : Printing (concat (policy_lines a cs)) (concat (lines_from a cs i)) a₀ b) where
    pub policies_on : {c d : Out} → i < n → Prints b (policy_at a cs i) c → Prints c (10 ∷ []) d → Printing (concat (policy_lines a cs)) (concat (lines_from a cs (i + 1))) a₀ d
    policies_on h v w = printing_on p (policy_at a cs i ++ (10 ∷ [])) (concat (lines_from a cs (i + 1))) (lines_on a cs i (omega (arith, many))) (prints_two v w)

    pub policies_end : n ≤ i → Prints a₀ (concat (policy_lines a cs)) b
    policies_end h = printing_end p (rw (spent (rows_of a RUN) i (omega (arith, many))))

pub complete_is : {b c d : Out} (name : Name) (a cs : List ℕ) → Prints b (concat (head_lines name (verdicts_in a cs))) c → Prints c (concat (policy_lines a cs)) d → Prints b (complete_bytes name a cs) d
unfolding complete_bytes
complete_is name a cs v w = prints_as (prints_two v w) (sym (concat_append (head_lines name (verdicts_in a cs)) (policy_lines a cs)))

-- the bytes are those of the definition, over the state that the words hold
pub complete_held : (sheet a b : List ℕ) → rows_of a RUN ≡ on_term (held sheet a b) → (cs : List ℕ) → complete_bytes (why_in a cs) a cs ≡ complete_of (held sheet a b) (verdicts_in a cs)
unfolding complete_bytes policy_lines why_in ids_in
complete_held sheet a b runs cs = ap (λ (l : List (List ℕ)). concat (head_lines (why (firsts l) (verdicts_in a cs)) (verdicts_in a cs) ++ complete_lines (firsts l) (verdicts_in a cs))) runs

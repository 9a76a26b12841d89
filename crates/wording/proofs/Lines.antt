-- The lines that the program prints, and the entry that a sheet is for, from what calls promise. Assumes nothing.
use mathlib.Core.Path.{◌≡◌, refl, sym, ap, ◌∙◌, subst}
use mathlib.Core.Bool.{Bool}
use mathlib.Core.List.{List, [], ◌∷◌, ◌++◌, append_assoc, append-nil}
use Prim.Native.Nat.{ℕ, zero, suc, ◌+◌, ◌*◌, ◌/◌, ◌≤◌, ◌<◌}
use native.Mathlib.Omega.{arith}
use lib.ListN.{length, get_or, take, drop, length-append}
use lib.Seq.{take_all}
use Rattle.sheet.specs.Ascii.{ascii}
use Rattle.sheet.specs.Bytes.{up_to, same, digits}
use Rattle.sheet.specs.Answer.{decision_word}
use Rattle.print.specs.declared.Out.{Out}
use Rattle.print.specs.Out.{Prints}
use Rattle.print.proofs.Outs.{prints_none, prints_two, prints_as}
use Rattle.print.proofs.Writing.{digits_few}
use Rattle.firm.specs.declared.Row as R
use Rattle.firm.specs.Parts.{decision_in, rows_in}
use Rattle.firm.specs.Words.{rows_of_words, row_from_def}
use Rattle.firm.proofs.Wording.{rows_count, row_of_words}
use Rattle.wording.specs.Worded.{says_complete, refusal, decided, rows_text, quote_text}

-- ---- the entry

pub says : (s line : List ℕ) (n : ℕ) (r : Bool) → n ≡ 0 + up_to 10 (drop 0 s) → line ≡ take n s
    → r ≡ same line (115 ∷ 104 ∷ 101 ∷ 101 ∷ 116 ∷ 61 ∷ 99 ∷ 111 ∷ 109 ∷ 112 ∷ 108 ∷ 101 ∷ 116 ∷ 101 ∷ []) → r ≡ says_complete s
unfolding says_complete
says s line n r e f g =
    let k : n ≡ up_to 10 s = omega arith in
    rw (g, f, k)

-- ---- the refusal

refusal_text : (n line len : ℕ)
    → (114 ∷ 101 ∷ 102 ∷ 117 ∷ 115 ∷ 101 ∷ 100 ∷ 61 ∷ []) ++ (digits n ++ ((44 ∷ []) ++ (digits line ++ ((44 ∷ []) ++ (digits len ++ (10 ∷ [])))))) ≡ refusal n line len
unfolding refusal
refusal_text n line len = simp append_assoc

pub refused_line : {o₀ o₁ o₂ o₃ o₄ o₅ o₆ o₇ : Out} (n line len : ℕ) → Prints o₀ (114 ∷ 101 ∷ 102 ∷ 117 ∷ 115 ∷ 101 ∷ 100 ∷ 61 ∷ []) o₁ → Prints o₁ (digits n) o₂ → Prints o₂ (44 ∷ []) o₃
    → Prints o₃ (digits line) o₄ → Prints o₄ (44 ∷ []) o₅ → Prints o₅ (digits len) o₆ → Prints o₆ (10 ∷ []) o₇ → Prints o₀ (refusal n line len) o₇
refused_line n line len w₀ w₁ w₂ w₃ w₄ w₅ w₆ =
    prints_as (prints_two w₀ (prints_two w₁ (prints_two w₂ (prints_two w₃ (prints_two w₄ (prints_two w₅ w₆)))))) (refusal_text n line len)

pub refusal_short : (n line len : ℕ) → length (refusal n line len) ≤ 71
refusal_short n line len =
    let a = digits_few n in
    let b = digits_few line in
    let c = digits_few len in
    subst (λ (l : List ℕ). length l ≤ 71) (refusal_text n line len) (simp length-append (omega arith))

-- ---- a decision's word and line

module _ (o p : Out) (n : ℕ) where
  abbrev Worded : ℕ → Type 0
  Worded k = Prints o (ascii (decision_word (decision_in k))) p

  pub word_allow : n ≡ 0 → Prints o (97 ∷ 108 ∷ 108 ∷ 111 ∷ 119 ∷ []) p → Worded n
  word_allow e w = subst Worded (sym e) w

  pub word_deny : n ≡ 1 → Prints o (100 ∷ 101 ∷ 110 ∷ 121 ∷ []) p → Worded n
  word_deny e w = subst Worded (sym e) w

  pub word_open : (n ≡ 0 → ⊥) → (n ≡ 1 → ⊥) → Prints o (111 ∷ 112 ∷ 101 ∷ 110 ∷ []) p → Worded n
  word_open a d w = go n a d
    where
      go : (k : ℕ) → (k ≡ 0 → ⊥) → (k ≡ 1 → ⊥) → Worded k
      go zero a d = absurd (a refl)
      go (suc zero) a d = absurd (d refl)
      go (suc (suc k)) a d = w

pub decision_line_law : {o₀ o₁ o₂ o₃ o₄ : Out} (key : List ℕ) (n : ℕ) → Prints o₀ key o₁ → Prints o₁ (61 ∷ []) o₂ → Prints o₂ (ascii (decision_word (decision_in n))) o₃ → Prints o₃ (10 ∷ []) o₄
    → Prints o₀ (key ++ (61 ∷ ascii (decision_word (decision_in n)) ++ (10 ∷ []))) o₄
decision_line_law key n w₀ w₁ w₂ w₃ = prints_two w₀ (prints_two w₁ (prints_two w₂ w₃))

-- ---- the rows' lines: the first i are written

rows_one_more : (rs : List R.Row) (i : ℕ) (d : R.Row) → i < length rs → rows_text (rows_in (take (suc i) rs)) ≡ rows_text (rows_in (take i rs)) ++ decided "row" (decision_in (get_or rs i d).decision)
rows_one_more [] i d h = absurd (omega arith)
rows_one_more (r ∷ rs) zero d h = append-nil (decided "row" (decision_in r.decision))
rows_one_more (r ∷ rs) (suc i) d h =
    let x = decided "row" (decision_in r.decision) in
    ap (λ (l : List ℕ). x ++ l) (rows_one_more rs i d (omega arith)) ∙ sym (append_assoc x (rows_text (rows_in (take i rs))) (decided "row" (decision_in (get_or rs i d).decision)))

pub record Lining (ws : List ℕ) (was is : Out) (i : ℕ) : Type 0 where
  pub near : i ≤ length ws / 3
  pub printed : Prints was (rows_text (rows_in (take i (rows_of_words ws)))) is

pub lining_start : (ws : List ℕ) (o : Out) → Lining ws o o 0
lining_start ws o = record { near = omega arith; printed = prints_none o }

module _ (ws : List ℕ) (was is : Out) (i : ℕ) (k : Lining ws was is i) where
  nothing : R.Row
  nothing = record { principal = 0; resource = 0; decision = 0 }

  pub lining_on : (next : Out) → i < length ws / 3 → Prints is ((114 ∷ 111 ∷ 119 ∷ []) ++ (61 ∷ ascii (decision_word (decision_in (get_or ws (i * 3 + 2) 0))) ++ (10 ∷ []))) next → Lining ws was next (i + 1)
  unfolding row_from_def
  lining_on next h w =
      let n : suc i ≡ i + 1 = omega arith in
      let e : get_or ws (i * 3 + 2) 0 ≡ (get_or (rows_of_words ws) i nothing).decision = ap (λ (r : R.Row). r.decision) (row_of_words ws i nothing h) in
      record {
        near = omega (arith, h);
        printed =
            prints_as (prints_two k.printed w)
            (ap (λ (d : ℕ). rows_text (rows_in (take i (rows_of_words ws))) ++ decided "row" (decision_in d)) e
            ∙ sym (rows_one_more (rows_of_words ws) i nothing (omega (arith, h, rows_count ws))) ∙ ap (λ (m : ℕ). rows_text (rows_in (take m (rows_of_words ws)))) n);
      }

  pub lining_end : length ws / 3 ≤ i → Prints was (rows_text (rows_in (rows_of_words ws))) is
  lining_end h = prints_as k.printed (ap (λ (l : List R.Row). rows_text (rows_in l)) (take_all i (rows_of_words ws) (omega (arith, h, rows_count ws))))

-- ---- the group's line and the rows'

pub quote_lines_law : {o₀ o₁ o₂ : Out} (group : ℕ) (ws : List ℕ) → Prints o₀ ((103 ∷ 114 ∷ 111 ∷ 117 ∷ 112 ∷ []) ++ (61 ∷ ascii (decision_word (decision_in group)) ++ (10 ∷ []))) o₁
    → Prints o₁ (rows_text (rows_in (rows_of_words ws))) o₂ → Prints o₀ (quote_text (decision_in group) (rows_in (rows_of_words ws))) o₂
quote_lines_law group ws w₀ w₁ = prints_two w₀ w₁

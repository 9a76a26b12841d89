-- The lines of a page, run by run. Assumes nothing.
use mathlib.Core.Path.{◌≡◌, refl, sym, ap, ap₂, ◌∙◌}
use mathlib.Core.Bool.{Bool, cond}
use mathlib.Core.List.{List, [], ◌∷◌, ◌++◌, append-nil, append_assoc}
use Prim.Native.Nat.{ℕ, zero, suc, ◌+◌, ◌-◌, ◌≤◌, ◌<◌}
use native.Mathlib.Numerals.{add-one}
use native.Mathlib.Omega.{arith}
use borrow.Author.Tests.{lt-ltb, le-ltb}
use lib.ListN.{length, get_or, take, drop, length-append}
use lib.Seq.{take_all, length-take-le}
use Rattle.cedar.specs.Residual.{Class, ctrue, cfalse, cerror, copen}
use Rattle.cedar.specs.Response.{Effect, permit, forbid, Decision, decision}
use Rattle.sheet.specs.Ascii.{ascii}
use Rattle.sheet.specs.Bytes.{digits}
use Rattle.sheet.specs.Forms.{at}
use Rattle.sheet.specs.Answer.{concat, effect_word, class_word}
use Rattle.sheet.specs.ReadAnswer.{PolicyLine}
use Rattle.sheet.proofs.answer.LinesBack.{concat_append}
use Rattle.forms.specs.Tags.{PERMIT}
use Rattle.table.specs.Layout.{RUN, rows_of, text_at}
use Rattle.table.proofs.Rows.{count_rows}
use Rattle.value.proofs.Lists.{uncons}
use Rattle.residual.specs.Classes.{class_number, CLASS_TRUE, CLASS_FALSE, CLASS_ERROR}
use Rattle.print.specs.declared.Out.{Out}
use Rattle.print.specs.Out.{Prints}
use Rattle.print.proofs.Outs.{prints_as, prints_two}
use Rattle.listing.proofs.Printing.{Printing, printing_start, printing_on, printing_end}
use Rattle.response.specs.Verdicts.{class_in, effect_in, effect_number, effect_said, verdicts_in, decision_of}
use Rattle.response.specs.declared.Decision as D
use Rattle.response.specs.declared.Effect as E
use Rattle.tpe.specs.declared.Class as T
use Rattle.tpe.specs.Classes as Called
use Rattle.response.proofs.Counting.{first_of}
use Rattle.response.proofs.Rooted.{next}
use Rattle.paged.specs.Page.{spaces, cell, right_cell, first_row, policy_row, left_off, shown_rows, page_line, page_lines, said_rows, page_of}
use Rattle.paged.proofs.PageLength.{cell_length, right_length}
use Rattle.page.specs.Said.{first_cell, effect_cell, class_cell, line_at, policies_of, policies_in, rows_in, first_lines, shown_lines, blank_lines_def, page_in}

-- ---- words

module _ {a b : Out} where
  pub decided : (d x : D.Decision) → d ≡ x → Prints a (first_cell (decision_of x)) b → Prints a (first_cell (decision_of d)) b
  decided d x e w = prints_as w (ap (λ (y : D.Decision). first_cell (decision_of y)) (sym e))

  pub effected : (d x : E.Effect) → d ≡ x → Prints a (effect_cell (effect_number (effect_said x))) b → Prints a (effect_cell (effect_number (effect_said d))) b
  effected d x e w = prints_as w (ap (λ (y : E.Effect). effect_cell (effect_number (effect_said y))) (sym e))

  pub classed : (d x : T.Class) → d ≡ x → Prints a (class_cell (class_number (Called.class_in x))) b → Prints a (class_cell (class_number (Called.class_in d))) b
  classed d x e w = prints_as w (ap (λ (y : T.Class). class_cell (class_number (Called.class_in y))) (sym e))

effect_text : (e : Effect) → effect_cell (effect_number e) ≡ cell 8 (ascii (effect_word e))
effect_text permit = refl
effect_text forbid = refl

class_text : (c : Class) → class_cell (class_number c) ≡ cell 8 (ascii (class_word c))
class_text ctrue = refl
class_text cfalse = refl
class_text cerror = refl
class_text copen = refl

-- ---- the line of a policy

-- columns that are full
cell_full : (n : ℕ) (t : List ℕ) → length t ≡ n → cell n t ≡ t
cell_full n t e = let z : n - length t ≡ 0 = omega (arith, e) in ap₂ (λ (k l : List ℕ). k ++ l) (take_all n t (omega (arith, e))) (ap spaces z) ∙ append-nil t

row_length : (id : List ℕ) (e : Effect) (c : Class) (n : ℕ) → length (policy_row id e c n) ≡ 72
row_length id e c n =
    let x = cell 8 (ascii (effect_word e)) in
    let y = cell 8 (ascii (class_word c)) in
    let z = right_cell 16 (digits n) in
    omega (arith, length-append (cell 40 id) (x ++ (y ++ z)), length-append x (y ++ z), length-append y z, cell_length 40 id, cell_length 8 (ascii (effect_word e)), cell_length 8 (ascii (class_word c)), right_length 16 (digits n))

-- its cells one after the other, and the line's end
row_text : (a b c d e : List ℕ) → a ++ (b ++ (c ++ (d ++ e))) ≡ (a ++ (b ++ (c ++ d))) ++ e
row_text a b c d e =
    sym (append_assoc a (b ++ (c ++ d)) e ∙ ap (λ (l : List ℕ). a ++ l) (append_assoc b (c ++ d) e ∙ ap (λ (l : List ℕ). b ++ l) (append_assoc c d e)))

pub policy_line_law : {o o₁ o₂ o₃ o₄ o₅ : Out} → (sheet a cs : List ℕ) (i nodes x : ℕ) (E : Effect) (C : Class) (r t : List ℕ) → r ≡ get_or (rows_of a RUN) i [] → x ≡ get_or r 1 0 → t ≡ text_at sheet a x
    → E ≡ effect_in (get_or (rows_of a RUN) i []) → C ≡ class_in (get_or cs i 0)
    → Prints o (cell 40 t) o₁ → Prints o₁ (effect_cell (effect_number E)) o₂ → Prints o₂ (class_cell (class_number C)) o₃ → Prints o₃ (right_cell 16 (digits nodes)) o₄ → Prints o₄ (10 ∷ []) o₅
    → Prints o (line_at sheet a cs i nodes) o₅
unfolding line_at
policy_line_law sheet a cs i nodes x E₀ C₀ r t er ex et ee ec v₁ v₂ v₃ v₄ v₅ =
    let q : List ℕ = get_or (rows_of a RUN) i [] in
    let id : List ℕ = text_at sheet a (get_or q 1 0) in
    let E : Effect = effect_in q in
    let C : Class = class_in (get_or cs i 0) in
    let u₁ = prints_as v₁ (ap (cell 40) (et ∙ ap (text_at sheet a) (ex ∙ ap (λ (l : List ℕ). get_or l 1 0) er))) in
    let u₂ = prints_as v₂ (ap (λ (e : Effect). effect_cell (effect_number e)) ee ∙ effect_text E) in
    let u₃ = prints_as v₃ (ap (λ (c : Class). class_cell (class_number c)) ec ∙ class_text C) in
    prints_as (prints_two u₁ (prints_two u₂ (prints_two u₃ (prints_two v₄ v₅))))
    (row_text (cell 40 id) (cell 8 (ascii (effect_word E))) (cell 8 (ascii (class_word C))) (right_cell 16 (digits nodes)) (10 ∷ [])
    ∙ ap (λ (l : List ℕ). l ++ (10 ∷ [])) (sym (cell_full 72 (policy_row id E C nodes) (row_length id E C nodes))))

-- ---- the first n policies

-- from policy i on, after so many nodes
abbrev pub said_from : List ℕ → List ℕ → List ℕ → List ℕ → ℕ → ℕ → List (List ℕ)
said_from sheet a cs es i before = said_rows (text_at sheet a) before (policies_of (drop i (rows_of a RUN)) (drop i cs) (drop i es))

abbrev row_at : List ℕ → List ℕ → List ℕ → ℕ → ℕ → List ℕ
row_at sheet a cs i nodes = policy_row (text_at sheet a (at (get_or (rows_of a RUN) i []) 0)) (effect_in (get_or (rows_of a RUN) i [])) (class_in (get_or cs i 0)) nodes

said_on : (sheet a cs es : List ℕ) (i before : ℕ) → i < length (rows_of a RUN)
    → said_from sheet a cs es i before ≡ row_at sheet a cs i (suc (get_or es i 0) - before) ∷ said_from sheet a cs es (i + 1) (suc (get_or es i 0))
said_on sheet a cs es i before h =
    let q : List ℕ = get_or (rows_of a RUN) i [] in
    let T = text_at sheet a in
    ap (λ (l : List (List ℕ)). said_rows T before (policies_of l (drop i cs) (drop i es))) (uncons (rows_of a RUN) [] i h)
    ∙ ap₂ (λ (c x : ℕ). policy_row (T (at q 0)) (effect_in q) (class_in c) (suc x - before) ∷ said_rows T (suc x) (policies_of (drop (i + 1) (rows_of a RUN)) (drop 1 (drop i cs)) (drop 1 (drop i es)))) (first_of cs i) (first_of es i)
    ∙ ap₂ (λ (k l : List ℕ). policy_row (T (at q 0)) (effect_in q) (class_in (get_or cs i 0)) (suc (get_or es i 0) - before) ∷ said_rows T (suc (get_or es i 0)) (policies_of (drop (i + 1) (rows_of a RUN)) k l)) (next cs i) (next es i)

unfoldable pub left_from : List ℕ → List ℕ → List ℕ → List ℕ → ℕ → ℕ → ℕ → List ℕ
left_from sheet a cs es n i before = concat (page_lines (n - i) (said_from sheet a cs es i before))

left_on : (sheet a cs es : List ℕ) (n i before : ℕ) → i < n → i < length (rows_of a RUN)
    → left_from sheet a cs es n i before ≡ line_at sheet a cs i (suc (get_or es i 0) - before) ++ left_from sheet a cs es n (i + 1) (suc (get_or es i 0))
unfolding left_from line_at
left_on sheet a cs es n i before h k =
    let e : n - i ≡ suc (n - (i + 1)) = omega arith in
    ap₂ (λ (m : ℕ) (l : List (List ℕ)). concat (page_lines m l)) e (said_on sheet a cs es i before k)

pub policies_start : (sheet a cs es : List ℕ) (n : ℕ) (o : Out) → Printing (first_lines sheet a cs es n) (left_from sheet a cs es n 0 0) o o
unfolding policies_in first_lines left_from
policies_start sheet a cs es n o =
    let e : n ≡ n - 0 = omega arith in
    printing_start (first_lines sheet a cs es n) (left_from sheet a cs es n 0 0) o
    (ap (λ (m : ℕ). concat (page_lines m (said_rows (text_at sheet a) 0 (policies_in a cs es)))) e)

module _ (sheet a cs es : List ℕ) (n : ℕ) (few : n ≤ get_or a RUN 0) (i before : ℕ) {o o₁ : Out} (p : Printing (first_lines sheet a cs es n) (left_from sheet a cs es n i before) o o₁) where
  pub policies_on : {o₂ : Out} → (x nodes : ℕ) → i < n → x ≡ get_or es i 0 → nodes ≡ suc x - before → Prints o₁ (line_at sheet a cs i nodes) o₂
      → Printing (first_lines sheet a cs es n) (left_from sheet a cs es n (i + 1) (x + 1)) o o₂
  policies_on x nodes h e f w =
      let g : suc (get_or es i 0) ≡ x + 1 = ap suc (sym e) ∙ sym (add-one x) in
      let k : nodes ≡ suc (get_or es i 0) - before = f ∙ ap (λ (y : ℕ). suc y - before) e in
      printing_on p (line_at sheet a cs i nodes) (left_from sheet a cs es n (i + 1) (x + 1))
      (left_on sheet a cs es n i before h (omega (arith, few, count_rows a RUN))
      ∙ ap₂ (λ (y z : ℕ). line_at sheet a cs i y ++ left_from sheet a cs es n (i + 1) z) (sym k) g) w

  pub policies_end : n ≤ i → Prints o (first_lines sheet a cs es n) o₁
  unfolding left_from
  policies_end h = let e : n - i ≡ 0 = omega arith in printing_end p (ap (λ (m : ℕ). concat (page_lines m (said_from sheet a cs es i before))) e)

-- ---- lines of spaces

-- those left after i of n
unfoldable pub blank_left : ℕ → ℕ → List ℕ
blank_left n i = blank_lines_def (n - i)

pub blank_start : (n : ℕ) (o : Out) → Printing (blank_lines_def n) (blank_left n 0) o o
unfolding blank_lines_def blank_left
blank_start n o = let e : n ≡ n - 0 = omega arith in printing_start (blank_lines_def n) (blank_left n 0) o (ap (λ (m : ℕ). concat (page_lines m [])) e)

module _ (n i : ℕ) {o o₁ : Out} (p : Printing (blank_lines_def n) (blank_left n i) o o₁) where
  pub blank_on : {o₂ o₃ : Out} → i < n → Prints o₁ (cell 72 []) o₂ → Prints o₂ (10 ∷ []) o₃ → Printing (blank_lines_def n) (blank_left n (i + 1)) o o₃
  unfolding blank_lines_def blank_left
  blank_on h v w =
      let e : n - i ≡ suc (n - (i + 1)) = omega arith in
      printing_on p (page_line []) (blank_left n (i + 1)) (ap (λ (j : ℕ). concat (page_lines j [])) e) (prints_two v w)

  pub blank_end : n ≤ i → Prints o (blank_lines_def n) o₁
  unfolding blank_lines_def blank_left
  blank_end h = let e : n - i ≡ 0 = omega arith in printing_end p (ap (λ (j : ℕ). concat (page_lines j [])) e)

-- ---- the lines after the first

-- the lines of rows, and of those after them
lines_split : (rs ss : List (List ℕ)) (m : ℕ) → page_lines (length rs + m) (rs ++ ss) ≡ page_lines (length rs) rs ++ page_lines m ss
lines_split [] ss m = let e : 0 + m ≡ m = omega arith in ap (λ (j : ℕ). page_lines j ss) e
lines_split (r ∷ rs) ss m =
    let e : suc (length rs) + m ≡ suc (length rs + m) = omega arith in
    ap (λ (j : ℕ). page_lines j (r ∷ (rs ++ ss))) e ∙ ap (λ (l : List (List ℕ)). page_line r ∷ l) (lines_split rs ss m)

-- of the first rows
lines_first : (k : ℕ) (rs : List (List ℕ)) → k ≤ length rs → page_lines k (take k rs) ≡ page_lines k rs
lines_first zero rs h = refl
lines_first (suc k) [] h = absurd (omega arith)
lines_first (suc k) (r ∷ rs) h = ap (λ (l : List (List ℕ)). page_line r ∷ l) (lines_first k rs (omega arith))

-- k of them, and one row more
lines_more : (k : ℕ) (rs : List (List ℕ)) (r : List ℕ) → k ≤ length rs → concat (page_lines (k + 1) (take k rs ++ (r ∷ []))) ≡ concat (page_lines k rs) ++ page_line r
lines_more k rs r h =
    let e : length (take k rs) ≡ k = length-take-le k rs h in
    ap (λ (j : ℕ). concat (page_lines (j + 1) (take k rs ++ (r ∷ [])))) (sym e) ∙ ap concat (lines_split (take k rs) (r ∷ []) 1)
    ∙ concat_append (page_lines (length (take k rs)) (take k rs)) (page_line r ∷ [])
    ∙ ap₂ (λ (x : List (List ℕ)) (y : List ℕ). concat x ++ y) (ap (λ (j : ℕ). page_lines j (take k rs)) e ∙ lines_first k rs h) (append-nil (page_line r))

-- all of them, and lines of spaces
lines_all : (m n : ℕ) (rs : List (List ℕ)) → length rs ≡ n → n ≤ m → concat (page_lines m rs) ≡ concat (page_lines n rs) ++ concat (page_lines (m - n) [])
lines_all m n rs e h =
    let j : m ≡ length rs + (m - n) = omega (arith, e, h) in
    ap₂ (λ (x : ℕ) (l : List (List ℕ)). concat (page_lines x l)) j (sym (append-nil rs)) ∙ ap concat (lines_split rs [] (m - n))
    ∙ concat_append (page_lines (length rs) rs) (page_lines (m - n) []) ∙ ap (λ (x : ℕ). concat (page_lines x rs) ++ concat (page_lines (m - n) [])) e

said_length : (text : ℕ → List ℕ) (n : ℕ) (ps : List PolicyLine) → length (said_rows text n ps) ≡ length ps
said_length text n [] = refl
said_length text n (p ∷ ps) = ap suc (said_length text (suc p.root) ps)

policies_length : (rs : List (List ℕ)) (cs es : List ℕ) → length (policies_of rs cs es) ≡ length rs
policies_length [] cs es = refl
policies_length (r ∷ rs) cs es = ap suc (policies_length rs (drop 1 cs) (drop 1 es))

module _ (sheet a cs es : List ℕ) (n : ℕ) (en : n ≡ get_or a RUN 0) where
  abbrev all_rows : List (List ℕ)
  all_rows = rows_in sheet a cs es

  rows_length : length all_rows ≡ n
  unfolding policies_in
  rows_length = said_length (text_at sheet a) 0 (policies_in a cs es) ∙ policies_length (rows_of a RUN) cs es ∙ count_rows a RUN ∙ sym en

  pub shown_few : {o o₁ m : Out} → n ≤ 59 → Prints o (first_lines sheet a cs es n) m → Prints m (blank_lines_def (59 - n)) o₁ → Prints o (shown_lines sheet a cs es) o₁
  unfolding first_lines blank_lines_def shown_lines
  shown_few h v w =
      let k : length all_rows ≤ 59 = omega (arith, rows_length, h) in
      prints_as (prints_two v w)
      (sym (ap (λ (b : Bool). concat (page_lines 59 (cond b (take 58 all_rows ++ (left_off (length all_rows - 58) ∷ [])) all_rows))) (le-ltb 59 (length all_rows) k) ∙ lines_all 59 n all_rows rows_length h))

  pub shown_many : {o o₁ m m₂ : Out} → 59 < n → Prints o (first_lines sheet a cs es 58) m → Prints m (cell 72 (left_off (n - 58))) m₂ → Prints m₂ (10 ∷ []) o₁ → Prints o (shown_lines sheet a cs es) o₁
  unfolding first_lines shown_lines
  shown_many h u v w =
      let k : 59 < length all_rows = omega (arith, rows_length, h) in
      prints_as (prints_two u (prints_two v w))
      (sym (ap (λ (b : Bool). concat (page_lines 59 (cond b (take 58 all_rows ++ (left_off (length all_rows - 58) ∷ [])) all_rows))) (lt-ltb 59 (length all_rows) k)
      ∙ lines_more 58 all_rows (left_off (length all_rows - 58)) (omega (arith, k)) ∙ ap (λ (j : ℕ). concat (page_lines 58 all_rows) ++ page_line (left_off (j - 58))) rows_length))

-- ---- the whole page

pub page_is : {o o₁ o₂ o₃ : Out} → (sheet a cs es : List ℕ) (d : D.Decision) → decision_of d ≡ decision (verdicts_in a cs)
    → Prints o (first_cell (decision_of d)) o₁ → Prints o₁ (10 ∷ []) o₂ → Prints o₂ (shown_lines sheet a cs es) o₃ → Prints o (page_in sheet a cs es) o₃
unfolding shown_lines page_in page_of
page_is sheet a cs es d e u v w =
    prints_as (prints_two (prints_two u v) w) (ap (λ (y : Decision). page_line (first_row y) ++ concat (page_lines 59 (shown_rows (rows_in sheet a cs es)))) e)

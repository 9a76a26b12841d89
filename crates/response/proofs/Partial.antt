-- The lines of a partial answer are those of the definition, where the words hold what the run gives. Assumes nothing.
use mathlib.Core.Path.{◌≡◌, refl, sym, ap, ap₂, ◌∙◌, subst}
use mathlib.Core.List.{List, [], ◌∷◌, ◌++◌, append_assoc}
use Prim.Native.Nat.{ℕ, zero, suc, ◌+◌, ◌<◌}
use native.Mathlib.Omega.{arith}
use lib.ListN.{length, get_or, drop}
use Rattle.cedar.specs.Types.{Ty, tbool, Schema}
use Rattle.cedar.specs.Residual.{Node, Class, copen}
use Rattle.cedar.specs.Response.{Effect, permit, Verdict}
use Rattle.cedar.specs.Rows.{Row}
use Rattle.cedar.specs.Numbered.{NEnv, n_interpret}
use Rattle.cedar.specs.Runs.{NVerdict, Run, n_run, verdicts}
use Rattle.sheet.specs.Bytes.{digits}
use Rattle.sheet.specs.Forms.{partial, at, VALUE, NODE, no_key}
use Rattle.sheet.specs.State.{State, lines_of, count}
use Rattle.sheet.specs.Content.{types, rows_in, numbered_policies, on_term, n_policies, schema, n_env, trees, value_rows}
use Rattle.sheet.specs.Sheet.{firsts}
use Rattle.sheet.specs.Answer.{printed, concat, policy_items, partial_lines, value_lines, size, type_number, residual_rows, node_lines, ids, run, head_lines, partial_of, answer}
use Rattle.sheet.specs.Why.{why}
use Rattle.sheet.proofs.reading.Lines.{History}
use Rattle.sheet.proofs.content.TypeNumbers.{types_length, number_again}
use Rattle.table.specs.Layout.{RUN, rows_of, lines_held, held, MADE}
use Rattle.table.proofs.Rows.{count_rows, count_held, lines_held_law}
use Rattle.residual.specs.Classes.{roots_of}
use Rattle.residual.specs.Trees.{Ress, flats, trees_of, Wholes}
use Rattle.value.specs.Lines.{value_lines as all_rows}
use Rattle.listing.specs.Values.{made_lines}
use Rattle.listing.specs.Nodes.{log_lines}
use Rattle.sheet.proofs.answer.LinesBack.{concat_append}
use Rattle.listing.proofs.TreeRows.{rows_all}
use Rattle.listing.proofs.LogTrees.{trees_in, residual_rows_law, log_lines_law}
use Rattle.response.specs.Verdicts.{class_in, effect_in, verdicts_of, verdicts_in}
use Rattle.response.specs.Naming.{ids_in, why_in}
use Rattle.response.specs.Printed.{rooted_of, rooted_lines, partial_bytes}

-- ---- values: the rows after the sheet's

rows_after : (k l : List (List ℕ)) → drop (length k) (rows_in (k ++ l)) ≡ rows_in l
rows_after [] l = refl
rows_after (x ∷ k) l = rows_after k l

pub made_held : (sheet a b : List ℕ) → made_lines a ≡ concat (value_lines (drop (count (held sheet a b) VALUE) (rows_in (all_rows a))))
unfolding made_lines all_rows
made_held sheet a b =
    ap (λ (q : List Row). concat (value_lines q))
    (sym (rows_after (rows_of a VALUE) (rows_of a MADE)) ∙ ap (λ (n : ℕ). drop n (rows_in (all_rows a))) (count_rows a VALUE ∙ sym (count_held sheet a b VALUE (omega arith))))

-- ---- policies

abbrev pub effect_first : List Verdict → Effect
effect_first [] = permit
effect_first (v ∷ vs) = v.effect

abbrev pub class_first : List Verdict → Class
class_first [] = copen
class_first (v ∷ vs) = v.class

pub second_of : (l : List ℕ) (i : ℕ) → get_or (drop 1 l) i 0 ≡ get_or l (suc i) 0
second_of [] zero = refl
second_of [] (suc i) = refl
second_of (x ∷ l) i = refl

-- the words es begin with the roots of the run's lines
pub rooted_words : (n : ℕ) (rs : List (List ℕ)) (cs es : List ℕ) (ls : List NVerdict) → verdicts_of rs cs ≡ verdicts ls → ((i : ℕ) → i < length ls → get_or es i 0 ≡ get_or (roots_of n ls) i 0)
    → rooted_of rs cs es ≡ partial_lines n (firsts rs) ls
rooted_words n [] cs es ls e f = refl
rooted_words n (r ∷ rs) cs es [] e f = let z : suc (length (verdicts_of rs (drop 1 cs))) ≡ 0 = ap length e in absurd (omega arith)
rooted_words n (r ∷ rs) cs es (l ∷ ls) e f =
    ap₂ (λ (x : Effect) (y : Class). printed "policy" (policy_items (at r 0) x y (digits (get_or es 0 0) ∷ [])) ∷ rooted_of rs (drop 1 cs) (drop 1 es)) (ap effect_first e) (ap class_first e)
    ∙ ap₂ (λ (x : ℕ) (m : List (List ℕ)). printed "policy" (policy_items (at r 0) l.effect l.class (digits x ∷ [])) ∷ m) (f 0 (omega arith))
    (rooted_words (n + size l.root) rs (drop 1 cs) (drop 1 es) ls (ap (drop 1) e) (λ i h. second_of es i ∙ f (suc i) (omega arith)))

pub rooted_run : (n : ℕ) (rs : List (List ℕ)) (cs : List ℕ) (ls : List NVerdict) → verdicts_of rs cs ≡ verdicts ls → rooted_of rs cs (roots_of n ls) ≡ partial_lines n (firsts rs) ls
rooted_run n rs cs ls e = rooted_words n rs cs (roots_of n ls) ls e (λ i h. refl)

-- the classes of a run's lines
abbrev pub classes_in : List NVerdict → List Class
classes_in [] = []
classes_in (v ∷ vs) = v.class ∷ classes_in vs

-- policies of these rows have the run's classes where the words cs begin with them: their effects are those of the rows
module _ (S : Schema) (M : NEnv) (ns : ℕ → ℕ → List (Node ℕ)) where
  abbrev lines_over : List (List ℕ) → List Row → List NVerdict
  lines_over rs R = (n_run S M (numbered_policies ns rs) R).lines

  verdicts_from : (rs : List (List ℕ)) (cs : List ℕ) (R : List Row) → ((i : ℕ) → i < length (lines_over rs R) → class_in (get_or cs i 0) ≡ get_or (classes_in (lines_over rs R)) i copen)
      → verdicts_of rs cs ≡ verdicts (lines_over rs R)
  verdicts_from [] cs R f = refl
  verdicts_from (r ∷ rs) cs R f =
      let R₁ : List Row = (n_interpret S M (get_or (ns (at r 3) (at r 4)) (at r 2) (Node.err tbool)) R).rows in
      ap₂ (λ (c : Class) (l : List Verdict). record { effect = effect_in r; class = c } ∷ l) (f 0 (omega arith))
      (verdicts_from rs (drop 1 cs) R₁ (λ i h. ap class_in (second_of cs i) ∙ f (suc i) (omega arith)))

pub verdicts_run : (sheet a₀ b₀ a cs : List ℕ) → rows_of a RUN ≡ on_term (held sheet a₀ b₀)
    → ((i : ℕ) → i < length (run partial (held sheet a₀ b₀)).lines → class_in (get_or cs i 0) ≡ get_or (classes_in (run partial (held sheet a₀ b₀)).lines) i copen)
    → verdicts_in a cs ≡ verdicts (run partial (held sheet a₀ b₀)).lines
unfolding run n_policies verdicts_in
verdicts_run sheet a₀ b₀ a cs e f =
    ap (λ (rs : List (List ℕ)). verdicts_of rs cs) e
    ∙ verdicts_from (schema (held sheet a₀ b₀)) (n_env partial (held sheet a₀ b₀)) (trees (held sheet a₀ b₀)) (on_term (held sheet a₀ b₀)) cs (value_rows (held sheet a₀ b₀)) f

-- ---- the whole answer

-- what a run x of the sheet that the words a₀ hold leaves in words: a the words, l the log, cs and es a class and a root for each policy
pub record RunWords (sheet a₀ : List ℕ) (x : Run) (a l cs es : List ℕ) : Type 0 where
  pub levels : ℕ
  pub ress : Ress
  pub log : l ≡ flats ress
  pub trees : trees_of (types (held sheet a₀ [])) (rows_of a₀ NODE) ress ≡ trees_in x.lines
  pub wholes : Wholes (types (held sheet a₀ [])) (rows_of a₀ NODE) levels ress
  pub same : (k : ℕ) → k < MADE → rows_of a k ≡ rows_of a₀ k
  pub rows : rows_in (all_rows a) ≡ x.rows
  pub verdicts : verdicts_in a cs ≡ verdicts x.lines
  pub roots : (i : ℕ) → i < length x.lines → get_or es i 0 ≡ get_or (roots_of 0 x.lines) i 0

module _ (sheet a₀ b₀ : List ℕ) (h : History partial (held sheet a₀ b₀)) (runs : rows_of a₀ RUN ≡ on_term (held sheet a₀ b₀)) (x : Run) (a l cs es : List ℕ)
    (w : RunWords sheet a₀ x a l cs es) where
  abbrev s : State
  s = held sheet a₀ b₀

  types_are : types (held sheet a₀ []) ≡ types s
  unfolding types held lines_held
  types_are = refl

  kept : (k : ℕ) → k < no_key → (k ≡ 1 → ⊥) → rows_of a k ≡ lines_of s k
  kept k lt n = w.same k (omega arith) ∙ sym (lines_held_law sheet a₀ b₀ k lt n)

  made_are : made_lines a ≡ concat (value_lines (drop (count s VALUE) x.rows))
  made_are =
      made_held sheet a []
      ∙ ap₂ (λ (n : ℕ) (R : List Row). concat (value_lines (drop n R)))
      (count_held sheet a [] VALUE (omega arith) ∙ sym (count_rows a VALUE) ∙ ap length (kept VALUE (omega arith) (λ e. absurd (omega arith)))) w.rows

  -- a type's number is the one that its content is found by
  type_is : (y : ℕ) → y < length (types s) → type_number (types s) (get_or (types s) y tbool) ≡ y
  type_is y lt = let n = types_length partial s h in number_again partial s h y (omega (arith, lt, n))

  nodes_are : log_lines (rows_of a NODE) l ≡ node_lines (residual_rows (types s) 0 x.lines)
  nodes_are =
      ap₂ (λ (ns : List (List ℕ)) (m : List ℕ). log_lines ns m) (w.same NODE (omega arith)) w.log
      ∙ log_lines_law (types s) (rows_of a₀ NODE) type_is w.ress (subst (λ (ts : List Ty). Wholes ts (rows_of a₀ NODE) w.levels w.ress) types_are w.wholes)
      ∙ ap (λ (ts : List (Node ℕ)). node_lines (rows_all (types s) 0 ts)) (subst (λ (ts : List Ty). trees_of ts (rows_of a₀ NODE) w.ress ≡ trees_in x.lines) types_are w.trees)
      ∙ ap node_lines (sym (residual_rows_law (types s) 0 x.lines))

  policies_are : rooted_lines a cs es ≡ partial_lines 0 (ids s) x.lines
  unfolding rooted_lines verdicts_in
  policies_are =
      rooted_words 0 (rows_of a RUN) cs es x.lines w.verdicts w.roots
      ∙ ap (λ (rs : List (List ℕ)). partial_lines 0 (firsts rs) x.lines) (w.same RUN (omega arith) ∙ runs)

  ids_are : ids_in a ≡ ids s
  unfolding ids_in
  ids_are = ap firsts (w.same RUN (omega arith) ∙ runs)

  -- THE BYTES ARE THOSE OF THE DEFINITION
  pub partial_held : partial_bytes (why_in a cs) a l cs es ≡ partial_of s x
  unfolding partial_bytes why_in
  partial_held =
      let H : List (List ℕ) = head_lines (why (ids s) (verdicts x.lines)) (verdicts x.lines) in
      let M : List (List ℕ) = value_lines (drop (count s VALUE) x.rows) in
      let N : List (List ℕ) = node_lines (residual_rows (types s) 0 x.lines) in
      let P : List (List ℕ) = partial_lines 0 (ids s) x.lines in
      ap₂ (λ (k m : List ℕ). k ++ (m ++ (concat (log_lines (rows_of a NODE) l) ++ concat (rooted_lines a cs es)))) (ap₂ (λ (is : List ℕ) (v : List Verdict). concat (head_lines (why is v) v)) ids_are w.verdicts) made_are
      ∙ ap₂ (λ (k m : List (List ℕ)). concat H ++ (concat M ++ (concat k ++ concat m))) nodes_are policies_are
      ∙ sym (concat_append (H ++ M ++ N) P ∙ ap (λ (k : List ℕ). k ++ concat P) (concat_append (H ++ M) N ∙ ap (λ (k : List ℕ). k ++ concat N) (concat_append H M))
      ∙ append_assoc (concat H ++ concat M) (concat N) (concat P) ∙ append_assoc (concat H) (concat M) (concat N ++ concat P))

-- of the sheet's own run they are the answer
pub partial_answer : (sheet a₀ b₀ : List ℕ) → History partial (held sheet a₀ b₀) → rows_of a₀ RUN ≡ on_term (held sheet a₀ b₀) → (a l cs es : List ℕ) → RunWords sheet a₀ (run partial (held sheet a₀ b₀)) a l cs es
    → partial_bytes (why_in a cs) a l cs es ≡ answer partial (held sheet a₀ b₀)
unfolding answer
partial_answer sheet a₀ b₀ h runs a l cs es w = partial_held sheet a₀ b₀ h runs (run partial (held sheet a₀ b₀)) a l cs es w

-- How long an answer can be: all of it can be counted, so that a call returns its length. Assumes nothing.
use mathlib.Core.Path.{◌≡◌, ◌∙◌, ap}
use mathlib.Core.Option.{none, some}
use mathlib.Core.List.{List, [], ◌∷◌, ◌++◌}
use Prim.Native.Nat.{ℕ, ◌+◌, ◌*◌, ◌≤◌, ◌<◌}
use native.Mathlib.Omega.{arith}
use lib.ListN.{length, get_or, drop, length-append}
use Rattle.cedar.specs.Residual.{Class, ctrue, cfalse, cerror, copen}
use Rattle.cedar.specs.Response.{Effect, permit, forbid, Verdict, Decision, allow, deny, undecided, decision}
use Rattle.sheet.specs.Ascii.{ascii}
use Rattle.sheet.specs.Bytes.{digits}
use Rattle.sheet.specs.Forms.{at, NODE}
use Rattle.sheet.specs.Sheet.{firsts}
use Rattle.sheet.specs.Answer.{printed, concat, numbers, decision_word, effect_word, class_word, counts_of, policy_items, complete_lines, head_lines}
use Rattle.sheet.specs.Why.{Name, why_item}
use Rattle.sheet.proofs.answer.AnswerRead.{firsts_length}
use Rattle.table.specs.Layout.{RUN, rows_of, MADE}
use Rattle.table.proofs.Rows.{count_rows}
use Rattle.print.specs.Written.{greatest}
use Rattle.print.proofs.Writing.{digits_few}
use Rattle.listing.specs.Values.{made_lines}
use Rattle.listing.specs.Nodes.{log_lines}
use Rattle.sheet.proofs.answer.LinesBack.{concat_append}
use Rattle.listing.proofs.Lengths.{weigh, printed_most, numbers_most, made_most, log_most}
use Rattle.response.specs.Verdicts.{class_in, effect_in, verdicts_in}
use Rattle.response.specs.Printed.{policy_lines, complete_bytes, rooted_of, rooted_lines, partial_bytes}

-- ---- the lines that every answer begins with

decision_most : (d : Decision) → length (ascii (decision_word d)) ≤ 5
decision_most allow = omega arith
decision_most deny = omega arith
decision_most undecided = omega arith

name_most : (name : Name) → length (why_item name) ≤ 20
name_most none = omega arith
name_most (some i) = digits_few i

head_most : (name : Name) (ls : List Verdict) → length (concat (head_lines name ls)) ≤ 230
head_most name ls =
    let d : List (List ℕ) = ascii (decision_word (decision ls)) ∷ [] in
    let n : List (List ℕ) = numbers (counts_of ls) in
    let w : List (List ℕ) = why_item name ∷ [] in
    let a : length (printed "decision" d) ≤ 8 + weigh d + 2 = printed_most "decision" d in
    let b : length (printed "counts" n) ≤ 6 + weigh n + 2 = printed_most "counts" n in
    let c : weigh n ≤ 21 * 8 = numbers_most (counts_of ls) in
    let e = decision_most (decision ls) in
    let f : length (printed "why" w) ≤ 3 + weigh w + 2 = printed_most "why" w in
    let g = name_most name in
    omega (arith, a, b, c, e, f, g, length-append (printed "decision" d) (printed "counts" n ++ (printed "why" w ++ [])), length-append (printed "counts" n) (printed "why" w ++ []), length-append (printed "why" w) [])

-- ---- policies

effect_most : (e : Effect) → length (ascii (effect_word e)) ≤ 6
effect_most permit = omega arith
effect_most forbid = omega arith

class_most : (c : Class) → length (ascii (class_word c)) ≤ 5
class_most ctrue = omega arith
class_most cfalse = omega arith
class_most cerror = omega arith
class_most copen = omega arith

policy_most : (i : ℕ) (e : Effect) (c : Class) (l : List (List ℕ)) → length (printed "policy" (policy_items i e c l)) ≤ 42 + weigh l
policy_most i e c l =
    let a : length (printed "policy" (policy_items i e c l)) ≤ 6 + weigh (policy_items i e c l) + 2 = printed_most "policy" (policy_items i e c l) in
    omega (arith, a, digits_few i, effect_most e, class_most c)

complete_most : (is : List ℕ) (ls : List Verdict) → length (concat (complete_lines is ls)) ≤ 63 * length is
complete_most [] ls = omega arith
complete_most (i ∷ is) [] = omega arith
complete_most (i ∷ is) (l ∷ ls) =
    let a = policy_most i l.effect l.class [] in
    let h = complete_most is ls in
    omega (arith, a, h, length-append (printed "policy" (policy_items i l.effect l.class [])) (concat (complete_lines is ls)))

-- a complete answer: a head, and a line for each policy
pub complete_within : (name : Name) (a cs : List ℕ) → length (complete_bytes name a cs) ≤ 230 + 63 * get_or a RUN 0
unfolding complete_bytes policy_lines
complete_within name a cs =
    let p : length (firsts (rows_of a RUN)) ≡ get_or a RUN 0 = firsts_length (rows_of a RUN) ∙ count_rows a RUN in
    let b = head_most name (verdicts_in a cs) in
    let d = complete_most (firsts (rows_of a RUN)) (verdicts_in a cs) in
    omega (arith, p, b, d, ap length (concat_append (head_lines name (verdicts_in a cs)) (complete_lines (firsts (rows_of a RUN)) (verdicts_in a cs))), length-append (concat (head_lines name (verdicts_in a cs))) (concat (complete_lines (firsts (rows_of a RUN)) (verdicts_in a cs))))

-- A COMPLETE ANSWER CAN BE COUNTED: the word that says how many policies there are has 32 bits
pub complete_counted : (name : Name) (a cs : List ℕ) → get_or a RUN 0 < 4294967296 → length (complete_bytes name a cs) ≤ greatest
complete_counted name a cs h = omega (arith, h, complete_within name a cs)

-- ---- policies with roots

rooted_most : (rs : List (List ℕ)) (cs es : List ℕ) → length (concat (rooted_of rs cs es)) ≤ 63 * length rs
rooted_most [] cs es = omega arith
rooted_most (r ∷ rs) cs es =
    let d : List (List ℕ) = digits (get_or es 0 0) ∷ [] in
    let p = policy_most (at r 0) (effect_in r) (class_in (get_or cs 0 0)) d in
    let i = rooted_most rs (drop 1 cs) (drop 1 es) in
    omega (arith, p, i, digits_few (get_or es 0 0), length-append (printed "policy" (policy_items (at r 0) (effect_in r) (class_in (get_or cs 0 0)) d)) (concat (rooted_of rs (drop 1 cs) (drop 1 es))))

-- A PARTIAL ANSWER CAN BE COUNTED: a slice of 16,384 words at most, a log of as many, and words of 32 bits that say how many values and policies there are
pub partial_counted : (name : Name) (a l cs es : List ℕ) → length a ≤ 16384 → length l ≤ 16384 → get_or a RUN 0 < 4294967296 → get_or a MADE 0 < 4294967296 → length (partial_bytes name a l cs es) ≤ greatest
unfolding partial_bytes rooted_lines
partial_counted name a l cs es h k p q =
    let n : List ℕ = concat (log_lines (rows_of a NODE) l) in
    let o : List ℕ = concat (rooted_lines a cs es) in
    let b = head_most name (verdicts_in a cs) in
    let d = made_most a h in
    let e = log_most a h l k in
    let f = rooted_most (rows_of a RUN) cs es in
    omega (arith, b, d, e, f, k, count_rows a RUN, length-append (concat (head_lines name (verdicts_in a cs))) (made_lines a ++ (n ++ o)), length-append (made_lines a) (n ++ o), length-append n o)

-- The head of a test load is read without refusal: its id texts are distinct, and what follows them refers to the first five.
use mathlib.Core.Path.{◌≡◌, refl, sym, ◌∙◌, ap, subst}
use mathlib.Core.Bool.{Bool, true, false, cond, ◌&&◌}
use mathlib.Core.List.{List, [], ◌∷◌, ◌++◌}
use Prim.Native.Nat.{ℕ, zero, suc, ◌+◌, ◌≤◌, ◌<◌}
use native.Mathlib.Omega.{arith}
use lib.Dec.{ltb, eqb}
use lib.ListN.{length}
use borrow.Author.Tests.{eqb-true}
use Rattle.cedar.proofs.Tools.{and_both, no_true}
use Rattle.sheet.specs.Ascii.{ascii}
use Rattle.sheet.specs.Bytes.{digits, same}
use Rattle.sheet.specs.Forms.{partial, keys, forms, form_of, slot_at, counted, tag_of, row_of, key_of, refs, refs_from, ascendings, Slot, nothing, mark, TEXT, ENTITY, NODE}
use Rattle.sheet.specs.Typing.{fits_in, typed, nodes_under}
use Rattle.sheet.specs.State.{State, empty, lines_of}
use Rattle.sheet.specs.Sheet.{found, depth, fault, more, reads, reading, go_on, first_unfit}
use Rattle.forms.specs.Tags.{SHEET_LINE, TEXT_LINE, KIND_LINE, BOOL_TYPE, STRING_TYPE, RECORD_TYPE, SHAPE_LINE, BOOL_VALUE, PRINCIPAL_LINE, ACTION_LINE, RESOURCE_LINE, CONTEXT_LINE, DAY_LINE, ORDINARY, OF_ACTIONS, REQUIRED}
use Rattle.sheet.proofs.reading.Lines.{AllFit}
use Rattle.sheet.proofs.reading.EntitiesEnd.{fit_passes}
use Rattle.sheet.proofs.reading.RowTests.{same_is}
use Rattle.sheet.proofs.reading.Parsed.{all_below, all_below_law}

-- ---- lines that are read on from a state, accepted, and leave the state w

abbrev pub Good : State → List (List ℕ) → State → Type 0
Good w ls s = (k : ℕ) → reading partial (ls ++ ([] ∷ [])) s k ≡ reads w 0 0

-- one line more, with its row and the state after it
pub step : {w : State} (l : List ℕ) (ls : List (List ℕ)) (s u : State) (r : List ℕ) → AllFit s → row_of partial l ≡ r → fault s r ≡ 0 → more s r ≡ u → Good w ls u → Good w (l ∷ ls) s
step {w} l ls s u r a e f q g k = go ls g
  where
    one : (xs : List (List ℕ)) → reading partial xs u (suc k) ≡ reads w 0 0 → go_on s k (row_of partial l) (fault s (row_of partial l)) (reading partial xs) ≡ reads w 0 0
    one xs h = ap (λ r. go_on s k r (fault s r) (reading partial xs)) e ∙ ap (λ n. go_on s k r n (reading partial xs)) f ∙ ap (λ s. reading partial xs s (suc k)) q ∙ h

    go : (ls : List (List ℕ)) → Good w ls u → reading partial ((l ∷ ls) ++ ([] ∷ [])) s k ≡ reads w 0 0
    go [] g = fit_passes l s _ a ∙ one ([] ∷ []) (g (suc k))
    go (x ∷ ls) g = fit_passes l s _ a ∙ one (x ∷ (ls ++ ([] ∷ []))) (g (suc k))

-- ---- the texts

-- the state with these texts
abbrev pub text_state : List (List ℕ) → List ℕ → State
text_state t d = record {
  lines = ((SHEET_LINE ∷ 0 ∷ []) ∷ []) ∷ t ∷ [] ∷ [] ∷ [] ∷ [] ∷ [] ∷ [] ∷ [] ∷ [] ∷ [] ∷ [] ∷ [] ∷ [] ∷ [] ∷ [] ∷ [];
  depths = (1 ∷ []) ∷ d ∷ [] ∷ [] ∷ [] ∷ [] ∷ [] ∷ [] ∷ [] ∷ [] ∷ [] ∷ [] ∷ [] ∷ [] ∷ [] ∷ [] ∷ [];
  used = [];
}

abbrev pub id_row : ℕ → List ℕ
id_row i = TEXT_LINE ∷ 112 ∷ digits i

-- the five first, and i ids
abbrev pub text_rows : ℕ → List (List ℕ)
text_rows zero = (TEXT_LINE ∷ ascii "Client") ∷ (TEXT_LINE ∷ ascii "Action") ∷ (TEXT_LINE ∷ ascii "Tariff") ∷ (TEXT_LINE ∷ ascii "quote") ∷ (TEXT_LINE ∷ ascii "name") ∷ []
text_rows (suc i) = text_rows i ++ (id_row i ∷ [])

abbrev pub text_depths : ℕ → List ℕ
text_depths zero = 1 ∷ 1 ∷ 1 ∷ 1 ∷ 1 ∷ []
text_depths (suc i) = text_depths i ++ (1 ∷ [])

abbrev pub texts : ℕ → State
texts i = text_state (text_rows i) (text_depths i)

text_slot : (j : ℕ) → slot_at TEXT_LINE j ≡ nothing
unfolding slot_at form_of forms
text_slot j = go (ltb j 0)
  where
    go : (b : Bool) → cond {A = Slot} b nothing nothing ≡ nothing
    go true = refl
    go false = refl

-- a text refers to no line
text_refs : (k j : ℕ) (l : List ℕ) → refs_from k TEXT_LINE j l ≡ []
text_refs k j [] = refl
text_refs k j (x ∷ l) = rw (text_slot j) (text_refs k (suc j) l)

id_more : (i : ℕ) → more (texts i) (id_row i) ≡ texts (suc i)
unfolding more key_of form_of forms depth refs
id_more i = rw (text_refs TEXT 0 (112 ∷ digits i), text_refs NODE 0 (112 ∷ digits i))

abbrev id_passes : ℕ → Bool
id_passes i = eqb (fault (texts i) (id_row i)) 0

abbrev id_comes : ℕ → Bool
id_comes i = same (row_of partial (ascii "text=p" ++ digits i)) (id_row i)

-- the ids are distinct, and no text is too many
ids_pass : all_below id_passes 64 ≡ true
unfolding keys forms form_of slot_at counted tag_of key_of refs ascendings fits_in nodes_under typed found depth fault
ids_pass = refl

id_rows : all_below id_comes 64 ≡ true
unfolding keys forms form_of slot_at counted tag_of row_of key_of
id_rows = refl

abbrev pub id_lines_of : ℕ → ℕ → List (List ℕ)
id_lines_of i zero = []
id_lines_of i (suc n) = (ascii "text=p" ++ digits i) ∷ id_lines_of (suc i) n

ids_read : {w : State} (n i : ℕ) (ls : List (List ℕ)) → i + n ≤ 64 → Good w ls (texts (i + n)) → Good w (id_lines_of i n ++ ls) (texts i)
ids_read {w} zero i ls h g = let z : i + 0 ≡ i = omega arith in subst (λ n. Good w ls (texts n)) z g
ids_read {w} (suc n) i ls h g =
    let lt : i < 64 = omega arith in
    let z : i + suc n ≡ suc i + n = omega arith in
    step (ascii "text=p" ++ digits i) (id_lines_of (suc i) n ++ ls) (texts i) (texts (suc i)) (id_row i) refl
    (same_is (row_of partial (ascii "text=p" ++ digits i)) (id_row i) (all_below_law id_comes 64 i id_rows lt))
    (eqb-true (fault (texts i) (id_row i)) 0 (all_below_law id_passes 64 i ids_pass lt))
    (id_more i)
    (ids_read n (suc i) ls (omega (arith, h)) (subst (λ n. Good w ls (texts n)) z g))

-- ---- the first lines, and those after the ids

-- rows that pass one after another, and the state after them
abbrev is_nil : List (List ℕ) → Bool
is_nil [] = true
is_nil (x ∷ l) = false

abbrev rows_of_lines : List (List ℕ) → List (List ℕ)
rows_of_lines [] = []
rows_of_lines (l ∷ ls) = row_of partial l ∷ rows_of_lines ls

abbrev after : State → List (List ℕ) → State
after s [] = s
after s (r ∷ rs) = after (more s r) rs

abbrev pass : State → List (List ℕ) → Bool
pass s [] = true
pass s (r ∷ rs) = (eqb (fault s r) 0 && is_nil (lines_of s ENTITY)) && pass (more s r) rs

nil_is : (l : List (List ℕ)) → is_nil l ≡ true → l ≡ []
nil_is [] e = refl
nil_is (x ∷ l) e = no_true e

lines_read : {w : State} (hs : List (List ℕ)) (ls : List (List ℕ)) (s : State) → pass s (rows_of_lines hs) ≡ true → Good w ls (after s (rows_of_lines hs)) → Good w (hs ++ ls) s
lines_read [] ls s e g = g
lines_read (h ∷ hs) ls s e g = and_both (eqb (fault s (row_of partial h)) 0 && is_nil (lines_of s ENTITY)) (pass (more s (row_of partial h)) (rows_of_lines hs)) e (λ e q. and_both (eqb (fault s (row_of partial h)) 0) (is_nil (lines_of s ENTITY)) e (λ f n.
    step h (hs ++ ls) s (more s (row_of partial h)) (row_of partial h) (ap (λ l. ltb (first_unfit s l) (length l)) (nil_is (lines_of s ENTITY) n)) refl (eqb-true (fault s (row_of partial h)) 0 f) refl (lines_read hs ls (more s (row_of partial h)) q g)))

abbrev pub first_lines : List (List ℕ)
first_lines = ascii "sheet=partial" ∷ ascii "text=Client" ∷ ascii "text=Action" ∷ ascii "text=Tariff" ∷ ascii "text=quote" ∷ ascii "text=name" ∷ []

abbrev pub rest_lines : List (List ℕ)
rest_lines =
    ascii "kind=0,e" ∷ ascii "kind=1,a" ∷ ascii "kind=2,e" ∷ ascii "type=bool" ∷ ascii "type=string" ∷ ascii "type=record" ∷ ascii "type=record,4,r,1"
    ∷ ascii "shape=2,-" ∷ ascii "shape=2,-" ∷ ascii "shape=2,-" ∷ ascii "value=bool,0" ∷ ascii "value=bool,1"
    ∷ ascii "principal=0,?" ∷ ascii "action=1,3" ∷ ascii "resource=2,?" ∷ ascii "context=3,?" ∷ ascii "day=2000-01-01" ∷ []

-- the state after the head: these texts, nodes, policies, their depths, and the uses
abbrev pub load_state : List (List ℕ) → List ℕ → List (List ℕ) → List ℕ → List ℕ → List (List ℕ) → List ℕ → State
load_state t d ns es us ps fs = record {
  lines =
      ((SHEET_LINE ∷ 0 ∷ []) ∷ [])
      ∷ t
      ∷ ((KIND_LINE ∷ 0 ∷ ORDINARY ∷ []) ∷ (KIND_LINE ∷ 1 ∷ OF_ACTIONS ∷ []) ∷ (KIND_LINE ∷ 2 ∷ ORDINARY ∷ []) ∷ [])
      ∷ ((BOOL_TYPE ∷ []) ∷ (STRING_TYPE ∷ []) ∷ (RECORD_TYPE ∷ []) ∷ (RECORD_TYPE ∷ 4 ∷ REQUIRED ∷ 1 ∷ []) ∷ [])
      ∷ ((SHAPE_LINE ∷ 2 ∷ mark ∷ []) ∷ (SHAPE_LINE ∷ 2 ∷ mark ∷ []) ∷ (SHAPE_LINE ∷ 2 ∷ mark ∷ []) ∷ [])
      ∷ ((BOOL_VALUE ∷ 0 ∷ []) ∷ (BOOL_VALUE ∷ 1 ∷ []) ∷ [])
      ∷ []
      ∷ ((PRINCIPAL_LINE ∷ 0 ∷ mark ∷ []) ∷ [])
      ∷ ((ACTION_LINE ∷ 1 ∷ 3 ∷ []) ∷ [])
      ∷ ((RESOURCE_LINE ∷ 2 ∷ mark ∷ []) ∷ [])
      ∷ ((CONTEXT_LINE ∷ 3 ∷ mark ∷ []) ∷ [])
      ∷ ((DAY_LINE ∷ 20000101 ∷ []) ∷ [])
      ∷ ns
      ∷ ps
      ∷ []
      ∷ []
      ∷ [];
  depths = (1 ∷ []) ∷ d ∷ (1 ∷ 1 ∷ 1 ∷ []) ∷ (1 ∷ 1 ∷ 1 ∷ 2 ∷ []) ∷ (1 ∷ 1 ∷ 1 ∷ []) ∷ (1 ∷ 1 ∷ []) ∷ [] ∷ (1 ∷ []) ∷ (1 ∷ []) ∷ (1 ∷ []) ∷ (1 ∷ []) ∷ (1 ∷ []) ∷ es ∷ fs ∷ [] ∷ [] ∷ [];
  used = us;
}

first_pass : pass empty (rows_of_lines first_lines) ≡ true
unfolding keys forms form_of slot_at counted tag_of row_of key_of refs ascendings fits_in nodes_under typed found depth fault more
first_pass = refl

first_after : after empty (rows_of_lines first_lines) ≡ texts 0
unfolding keys forms form_of slot_at counted tag_of row_of key_of refs ascendings depth more
first_after = refl

abbrev rest_passes : ℕ → Bool
rest_passes i = pass (texts i) (rows_of_lines rest_lines)

rest_pass : all_below rest_passes 65 ≡ true
unfolding keys forms form_of slot_at counted tag_of row_of key_of refs ascendings fits_in nodes_under typed found depth fault more
rest_pass = refl

rest_after : (t : List (List ℕ)) (d : List ℕ) → after (text_state t d) (rows_of_lines rest_lines) ≡ load_state t d [] [] [] [] []
unfolding keys forms form_of slot_at counted tag_of row_of key_of refs ascendings depth more
rest_after t d = refl

-- THE HEAD: what follows it is read from the state after it
pub head_read : {w : State} (n : ℕ) (ls : List (List ℕ)) → n ≤ 64 → Good w ls (load_state (text_rows n) (text_depths n) [] [] [] [] []) → Good w (first_lines ++ (id_lines_of 0 n ++ (rest_lines ++ ls))) empty
head_read {w} n ls h g =
    let a : Good w (rest_lines ++ ls) (texts n) = lines_read rest_lines ls (texts n) (all_below_law rest_passes 65 n rest_pass (omega (arith, h))) (subst (Good w ls) (sym (rest_after (text_rows n) (text_depths n))) g) in
    let z : n ≡ 0 + n = omega arith in
    let b : Good w (id_lines_of 0 n ++ (rest_lines ++ ls)) (texts 0) = ids_read n 0 (rest_lines ++ ls) (omega (arith, h)) (subst (λ n. Good w (rest_lines ++ ls) (texts n)) z a) in
    lines_read first_lines (id_lines_of 0 n ++ (rest_lines ++ ls)) empty first_pass (subst (Good w (id_lines_of 0 n ++ (rest_lines ++ ls))) (sym first_after) b)

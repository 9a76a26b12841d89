-- A sheet with one line filled, where both are accepted: the same lines but for one, whose known parts are the same; so what agrees with the
-- edited sheet agrees with the kept one.
use mathlib.Core.Path.{◌≡◌, refl, sym, ◌∙◌, ap, subst}
use mathlib.Core.Bool.{Bool, true, false, cond, not, ◌&&◌, ◌||◌}
use mathlib.Core.Option.{Option, none, some}
use mathlib.Core.List.{List, [], ◌∷◌, ◌++◌}
use Prim.Native.Nat.{ℕ, zero, suc, ◌-◌}
use native.Mathlib.Omega.{arith}
use borrow.Author.Tests.{eq-eqb}
use lib.Dec.{eqb}
use lib.ListN.{length, get_or, set, length-set}
use Rattle.cedar.proofs.Tools.{no_true, eqb_true, and_both, both, either}
use Rattle.cedar.specs.Value.{on_some}
use Rattle.cedar.specs.Types.{among}
use Rattle.sheet.specs.Bytes.{split, same}
use Rattle.sheet.specs.Typing.{unknown_or}
use Rattle.sheet.specs.Forms.{partial, row_of, key_of, at, mark, TEXT, KIND, TYPE, SHAPE, VALUE, ENTITY, PRINCIPAL, ACTION, RESOURCE, CONTEXT, DAY, NODE, POLICY, LINK, TERM}
use Rattle.sheet.specs.State.{State, empty, lines_of, line_at}
use Rattle.sheet.specs.Sheet.{Reading, reads, fault, more, ending, go_on, line_read, reading, read}
use Rattle.sheet.specs.Parents.{line_for}
use Rattle.sheet.specs.Agreement.{begins, part_same, request_same, entity_same, listed, all_listed, agrees}
use Rattle.previewed.specs.Preview.{edited, fills, may_edit}
use Rattle.sheet.proofs.reading.Lines.{ended, entities_passed, line_passed, zero_not_suc}
use Rattle.sheet.proofs.demand3.TwoSheets.{common}
use Rattle.finished.proofs.FinishAgrees.{lines_are}
use Rattle.previewed.proofs.PreviewLines.{edited_lines}
use Rattle.previewed.proofs.PreviewRows.{fillable, FillRow, fills_row}

-- ---- two readings

-- lines of key k: the same, but for those that were filled
pub data Fill (k : ℕ) : List (List ℕ) → List (List ℕ) → Type 0 where
  fill_none : Fill k [] []
  as_is : {r : List ℕ} {rs qs : List (List ℕ)} → Fill k rs qs → Fill k (r ∷ rs) (r ∷ qs)
  filled : {r q : List ℕ} {rs qs : List (List ℕ)} → fillable k ≡ true → FillRow r q → Fill k rs qs → Fill k (r ∷ rs) (q ∷ qs)

pub record Filled (s u : State) : Type 0 where
  pub keys : length s.lines ≡ length u.lines
  pub lines : (k : ℕ) → Fill k (lines_of s k) (lines_of u k)

fill_refl : (k : ℕ) (l : List (List ℕ)) → Fill k l l
fill_refl k [] = fill_none
fill_refl k (r ∷ l) = as_is (fill_refl k l)

fill_snoc : {k : ℕ} {rs qs : List (List ℕ)} {r q : List ℕ} → Fill k rs qs → Fill k (r ∷ []) (q ∷ []) → Fill k (rs ++ (r ∷ [])) (qs ++ (q ∷ []))
fill_snoc fill_none h = h
fill_snoc (as_is f) h = as_is (fill_snoc f h)
fill_snoc (filled m g f) h = filled m g (fill_snoc f h)

-- a line of the one and of the other
data Line : List ℕ → List ℕ → Type 0 where
  same_line : {l : List ℕ} → Line l l
  fill_line : {l n : List ℕ} → fills l n ≡ true → Line l n

data Lines : List (List ℕ) → List (List ℕ) → Type 0 where
  no_lines : Lines [] []
  one_line : {l n : List ℕ} {ls ns : List (List ℕ)} → Line l n → Lines ls ns → Lines (l ∷ ls) (n ∷ ns)

lines_refl : (l : List (List ℕ)) → Lines l l
lines_refl [] = no_lines
lines_refl (r ∷ l) = one_line same_line (lines_refl l)

lines_set : (ls : List (List ℕ)) (i : ℕ) (new : List ℕ) → fills (get_or ls i []) new ≡ true → Lines ls (set ls i new)
lines_set [] i new e = no_lines
lines_set (l ∷ ls) zero new e = one_line (fill_line e) (lines_refl ls)
lines_set (l ∷ ls) (suc i) new e = one_line same_line (lines_set ls i new e)

-- the rows of two such lines, both taken
data RowsTaken (r q : List ℕ) : Type 0 where
  equal : r ≡ q → RowsTaken r q
  fill : FillRow r q → RowsTaken r q

taken : (s u : State) {l n : List ℕ} → Line l n → fault s (row_of partial l) ≡ 0 → fault u (row_of partial n) ≡ 0 → RowsTaken (row_of partial l) (row_of partial n)
unfolding fault
taken s u same_line a b = equal refl
taken s u (fill_line {l = l} {n = n} e) a b = go (row_of partial l) (row_of partial n) refl refl a b
  where
    go : (r q : List ℕ) → row_of partial l ≡ r → row_of partial n ≡ q → fault s r ≡ 0 → fault u q ≡ 0 → RowsTaken r q
    go [] q x y a b = zero_not_suc a
    go (t ∷ xs) [] x y a b = zero_not_suc b
    go (t ∷ xs) (v ∷ ys) x y a b = fill (fills_row l n e t xs v ys x y)

-- two lists with an entry set
set_both : {A : Type 0} (Q : ℕ → A → A → Type 0) (d : A) (ls us : List A) → length ls ≡ length us → ((j : ℕ) → Q j (get_or ls j d) (get_or us j d)) → (k : ℕ) (x y : A) → Q k x y → (j : ℕ) → Q j (get_or (set ls k x) j d) (get_or (set us k y) j d)
set_both Q d [] [] e h k x y q j = h j
set_both Q d [] (u ∷ us) e h k x y q j = zero_not_suc (sym e)
set_both Q d (l ∷ ls) [] e h k x y q j = zero_not_suc e
set_both Q d (l ∷ ls) (u ∷ us) e h zero x y q zero = q
set_both Q d (l ∷ ls) (u ∷ us) e h zero x y q (suc j) = h (suc j)
set_both Q d (l ∷ ls) (u ∷ us) e h (suc k) x y q zero = h 0
set_both Q d (l ∷ ls) (u ∷ us) e h (suc k) x y q (suc j) = set_both (λ i. Q (suc i)) d ls us (omega (arith, e)) (λ i. h (suc i)) k x y q j

one_row : {r q : List ℕ} → RowsTaken r q → (key_of r ≡ key_of q) × Fill (key_of r) (r ∷ []) (q ∷ [])
one_row {r} (equal e) = (ap key_of e, subst (λ z. Fill (key_of r) (r ∷ []) (z ∷ [])) e (as_is fill_none))
one_row (fill h) = (h.key, filled h.may h fill_none)

filled_more : (s u : State) (r q : List ℕ) → Filled s u → RowsTaken r q → Filled (more s r) (more u q)
unfolding more
filled_more s u r q h t =
    let (e, f) = one_row t in
    record {
      keys = length-set s.lines (key_of r) (lines_of s (key_of r) ++ (r ∷ [])) ∙ h.keys ∙ sym (length-set u.lines (key_of q) (lines_of u (key_of q) ++ (q ∷ [])));
      lines = λ j. subst (λ z. Fill j (get_or (set s.lines (key_of r) (lines_of s (key_of r) ++ (r ∷ []))) j []) (get_or (set u.lines z (lines_of u z ++ (q ∷ []))) j [])) e
          (set_both (λ k. Fill k) [] s.lines u.lines h.keys h.lines (key_of r) (lines_of s (key_of r) ++ (r ∷ [])) (lines_of u (key_of r) ++ (q ∷ [])) (fill_snoc (h.lines (key_of r)) f) j);
    }

-- at the end the states are as they were
end_filled : (s u : State) (i j : ℕ) → Filled s u → (ending s i).number ≡ 0 → (ending u j).number ≡ 0 → Filled (ending s i).state (ending u j).state
end_filled s u i j h a b = let (p, x) = ended s i a in let (q, y) = ended u j b in subst (λ z. Filled z (ending u j).state) (sym p) (subst (λ z. Filled s z) (sym q) h)

last_filled : (s u : State) (i j : ℕ) (b c : Bool) → Filled s u → (cond b (ending s i) (reads s 3 i)).number ≡ 0 → (cond c (ending u j) (reads u 3 j)).number ≡ 0 → Filled (cond b (ending s i) (reads s 3 i)).state (cond c (ending u j) (reads u 3 j)).state
last_filled s u i j true true h a b = end_filled s u i j h a b
last_filled s u i j true false h a b = zero_not_suc b
last_filled s u i j false c h a b = zero_not_suc a

step_filled : (s u : State) (i j : ℕ) (l n : List ℕ) (f g : ℕ) (rest more' : State → ℕ → Reading) → fault s (row_of partial l) ≡ f → fault u (row_of partial n) ≡ g → Line l n → Filled s u
    → (Filled (more s (row_of partial l)) (more u (row_of partial n)) → (rest (more s (row_of partial l)) (suc i)).number ≡ 0 → (more' (more u (row_of partial n)) (suc j)).number ≡ 0 → Filled (rest (more s (row_of partial l)) (suc i)).state (more' (more u (row_of partial n)) (suc j)).state)
    → (go_on s i (row_of partial l) f rest).number ≡ 0 → (go_on u j (row_of partial n) g more').number ≡ 0 → Filled (go_on s i (row_of partial l) f rest).state (go_on u j (row_of partial n) g more').state
step_filled s u i j l n zero zero rest more' p q t h k a b = k (filled_more s u (row_of partial l) (row_of partial n) h (taken s u t p q)) a b
step_filled s u i j l n zero (suc g) rest more' p q t h k a b = zero_not_suc b
step_filled s u i j l n (suc f) g rest more' p q t h k a b = zero_not_suc a

-- two readings that are others
as_others : {x x' y y' : Reading} → x ≡ x' → y ≡ y' → (x'.number ≡ 0 → y'.number ≡ 0 → Filled x'.state y'.state) → x.number ≡ 0 → y.number ≡ 0 → Filled x.state y.state
as_others {x' = x'} {y = y} p q f a b = subst (λ z. Filled z.state y.state) (sym p) (subst (λ z. Filled x'.state z.state) (sym q) (f (sym (ap (λ z. z.number) p) ∙ a) (sym (ap (λ z. z.number) q) ∙ b)))

readings_filled : (ls ns : List (List ℕ)) → Lines ls ns → (s u : State) (i j : ℕ) → Filled s u → (reading partial ls s i).number ≡ 0 → (reading partial ns u j).number ≡ 0 → Filled (reading partial ls s i).state (reading partial ns u j).state
readings_filled [] [] t s u i j h a b = as_others (entities_passed s (ending s i) a).0 (entities_passed u (ending u j) b).0 (λ a b. end_filled s u i j h a b) a b
readings_filled [] (n ∷ ns) t s u i j h a b = elim t [ ]
readings_filled (l ∷ ls) [] t s u i j h a b = elim t [ ]
readings_filled (l ∷ []) (n ∷ []) t s u i j h a b =
    as_others (line_passed l s (cond (same l []) (ending s i) (reads s 3 i)) a) (line_passed n u (cond (same n []) (ending u j) (reads u 3 j)) b) (λ a b. last_filled s u i j (same l []) (same n []) h a b) a b
readings_filled (l ∷ []) (n ∷ m ∷ ns) t s u i j h a b = one_more t
  where
    one_more : {X : Type 0} → Lines (l ∷ []) (n ∷ m ∷ ns) → X
    one_more (one_line x y) = elim y [ ]
readings_filled (l ∷ k ∷ ls) (n ∷ []) t s u i j h a b = one_more t
  where
    one_more : {X : Type 0} → Lines (l ∷ k ∷ ls) (n ∷ []) → X
    one_more (one_line x y) = elim y [ ]
readings_filled (l ∷ k ∷ ls) (n ∷ m ∷ ns) t s u i j h a b =
    let (x, y) = head_tail t in
    as_others (line_passed l s (line_read s i (row_of partial l) (reading partial (k ∷ ls))) a) (line_passed n u (line_read u j (row_of partial n) (reading partial (m ∷ ns))) b)
    (λ a b. step_filled s u i j l n (fault s (row_of partial l)) (fault u (row_of partial n)) (reading partial (k ∷ ls)) (reading partial (m ∷ ns)) refl refl x h
    (λ h' a' b'. readings_filled (k ∷ ls) (m ∷ ns) y (more s (row_of partial l)) (more u (row_of partial n)) (suc i) (suc j) h' a' b') a b) a b
  where
    head_tail : Lines (l ∷ k ∷ ls) (n ∷ m ∷ ns) → Line l n × Lines (k ∷ ls) (m ∷ ns)
    head_tail (one_line x y) = (x, y)

-- ---- what agrees with the one agrees with the other

keeps_lines : {k : ℕ} {rs qs : List (List ℕ)} → fillable k ≡ false → Fill k rs qs → rs ≡ qs
keeps_lines e fill_none = refl
keeps_lines e (as_is {r = r} h) = ap (λ z. r ∷ z) (keeps_lines e h)
keeps_lines e (filled m f h) = no_true (sym e ∙ m)

-- a part that is the same as the edited one's is the same as the kept one's, where that is known
part_kept : (r q c : ℕ) → unknown_or r (eqb r q) ≡ true → unknown_or q (eqb q c) ≡ true → unknown_or r (eqb r c) ≡ true
part_kept r q c a b = go (eqb r mark) refl a
  where
    go : (x : Bool) → eqb r mark ≡ x → (x || eqb r q) ≡ true → (x || eqb r c) ≡ true
    go true e a = refl
    go false e a = let z = eqb_true r q a in
        either (eqb q mark) (eqb q c) b (λ w. no_true (sym e ∙ eq-eqb r mark (z ∙ eqb_true q mark w))) (λ w. eq-eqb r c (z ∙ eqb_true q c w))

request_kept : (r q c : List ℕ) → FillRow r q → request_same q c ≡ true → request_same r c ≡ true
request_kept r q c h e = and_both (eqb (at q 0) (at c 0)) (part_same q c 1) e (λ a b. both (eq-eqb (at r 0) (at c 0) (h.first ∙ eqb_true (at q 0) (at c 0) a)) (part_kept (at r 1) (at q 1) (at c 1) (h.parts 1) b))

head_kept : {k : ℕ} {rs qs : List (List ℕ)} (c : List ℕ) → Fill k rs qs → request_same (get_or qs 0 []) c ≡ true → request_same (get_or rs 0 []) c ≡ true
head_kept c fill_none e = e
head_kept c (as_is h) e = e
head_kept c (filled {r = r} {q = q} m f h) e = request_kept r q c f e

entity_kept : (r q c : List ℕ) → FillRow r q → entity_same q c ≡ true → entity_same r c ≡ true
entity_kept r q c h e = and_both (part_same q c 1 && part_same q c 2) (part_same q c 3) e (λ a b. and_both (part_same q c 1) (part_same q c 2) a (λ x y.
    both (both (part_kept (at r 1) (at q 1) (at c 1) (h.parts 1) x) (part_kept (at r 2) (at q 2) (at c 2) (h.parts 2) y)) (part_kept (at r 3) (at q 3) (at c 3) (h.parts 3) b)))

listed_kept : (r q : List ℕ) (c : List (List ℕ)) → FillRow r q → listed q c ≡ true → listed r c ≡ true
listed_kept r q c h e = ap (λ n. on_some false (line_for n c) (entity_same r)) h.first ∙ go (line_for (at q 0) c) e
  where
    go : (o : Option (List ℕ)) → on_some false o (entity_same q) ≡ true → on_some false o (entity_same r) ≡ true
    go none e = e
    go (some x) e = entity_kept r q x h e

all_kept : {k : ℕ} {rs qs : List (List ℕ)} (c : List (List ℕ)) → Fill k rs qs → all_listed qs c ≡ true → all_listed rs c ≡ true
all_kept c fill_none e = refl
all_kept c (as_is {r = r} {qs = qs} h) e = and_both (listed r c) (all_listed qs c) e (λ a b. both a (all_kept c h b))
all_kept c (filled {r = r} {q = q} {qs = qs} m f h) e = and_both (listed q c) (all_listed qs c) e (λ a b. both (listed_kept r q c f a) (all_kept c h b))

-- WHAT AGREES WITH THE EDITED SHEET AGREES WITH THE KEPT ONE
pub kept_agrees : (p q c : State) → Filled p q → agrees q c ≡ true → agrees p c ≡ true
unfolding agrees
kept_agrees p q c h e =
    let k = common q c e in
    let same : (i : ℕ) → fillable i ≡ false → lines_of p i ≡ lines_of q i = λ i f. keeps_lines f (h.lines i) in
    both (both (both (both (both (both (both (both (both (both (both (both (both (both
    (subst (λ z. begins z (lines_of c TEXT) ≡ true) (sym (same TEXT refl)) k.texts)
    (subst (λ z. begins z (lines_of c VALUE) ≡ true) (sym (same VALUE refl)) k.values))
    (lines_are (same KIND refl ∙ k.kinds)))
    (lines_are (same TYPE refl ∙ k.types_same)))
    (lines_are (same SHAPE refl ∙ k.shapes)))
    (lines_are (same NODE refl ∙ k.nodes)))
    (lines_are (same POLICY refl ∙ k.policy_lines)))
    (lines_are (same DAY refl ∙ k.days)))
    (lines_are (same TERM refl ∙ k.terms)))
    (lines_are (same LINK refl ∙ k.links)))
    (head_kept (line_at c PRINCIPAL 0) (h.lines PRINCIPAL) k.who))
    (head_kept (line_at c ACTION 0) (h.lines ACTION) k.does))
    (head_kept (line_at c RESOURCE 0) (h.lines RESOURCE) k.whom))
    (head_kept (line_at c CONTEXT 0) (h.lines CONTEXT) k.where'))
    (all_kept (lines_of c ENTITY) (h.lines ENTITY) k.entities)

-- the kept and the edited sheet, both read
pub edited_filled : (sheet : List ℕ) (n : ℕ) (new : List ℕ) → may_edit sheet n new ≡ true → (read partial sheet).number ≡ 0 → (read partial (edited sheet n new)).number ≡ 0 → Filled (read partial sheet).state (read partial (edited sheet n new)).state
unfolding read may_edit fills
edited_filled sheet zero new e a b = and_both (not (among 10 new)) false e (λ x y. no_true y)
edited_filled sheet (suc i) new e a b =
    let z : suc i - 1 ≡ i = omega arith in
    let g = edited_lines sheet (suc i) new (no_ends (get_or (split 10 sheet) i []) new e) ∙ ap (λ (j : ℕ). set (split 10 sheet) j new) z in
    subst (λ z. (reading partial z empty 1).number ≡ 0 → Filled (reading partial (split 10 sheet) empty 1).state (reading partial z empty 1).state) (sym g)
    (λ b'. readings_filled (split 10 sheet) (set (split 10 sheet) i new) (lines_set (split 10 sheet) i new e) empty empty 1 1 (record { keys = refl; lines = λ k. fill_refl k (lines_of empty k) }) a b') b
  where
    no_ends : (old new : List ℕ) → fills old new ≡ true → not (among 10 new) ≡ true
    no_ends old new e = and_both (not (among 10 new)) _ e (λ a b. a)

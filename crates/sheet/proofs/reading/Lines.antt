-- What an accepted reading says of each line: the state it was read in, and that it had no fault there.
use mathlib.Core.Path.{◌≡◌, refl, sym, ◌∙◌, ap, ap₂, subst}
use mathlib.Core.Bool.{Bool, true, false, cond}
use mathlib.Core.List.{List, [], ◌∷◌, ◌++◌}
use Prim.Native.Nat.{ℕ, zero, suc, ◌<◌}
use native.Mathlib.Nat.{le_of_suc-le-suc}
use native.Mathlib.Omega.{arith}
use lib.Dec.{leb, ltb, eqb}
use lib.ListN.{length, get_or, drop, set, replicate}
use Rattle.cedar.proofs.Tools.{eqb_true, neither}
pub use Rattle.cedar.proofs.Tools.{and_both}
use Rattle.sheet.specs.Bytes.{split, starts}
use Rattle.sheet.specs.Forms.{Mode, row_of, key_of, refs, NODE, no_key, POLICY, ENTITY}
use Rattle.sheet.specs.State.{State, empty, lines_of, count, counts, lengths}
use Rattle.sheet.specs.Typing.{typed}
use Rattle.sheet.proofs.reading.Refusals.{in_number_order}
use Rattle.sheet.specs.Sheet.{fault, fault_of, found, in_order, all_zero, enough, greatest, depth, used_twice, more, Reading, reads, ending, first_unused, go_on, reading, read, overused, first_unlinked, first_unfit, entities_fit, before_line, line_read}
use Rattle.sheet.specs.Ascii.{ascii}

-- ---- tests

pub zero_not_suc : {X : Type 0} {n : ℕ} → suc n ≡ 0 → X
zero_not_suc {n = n} e = absurd (omega (arith, e))

-- a line without fault
pub record Passed (s : State) (k : ℕ) (r : List ℕ) : Type 0 where
  pub order : in_order s k ≡ true
  pub room : leb (get_or (greatest s) k 0) (count s k) ≡ false
  pub within : overused s k r ≡ false
  pub refers : found s k r ≡ true
  pub shallow : ltb 64 (depth s k r) ≡ false
  pub types : typed s r k ≡ true
  pub unused : used_twice s.used (refs NODE r) ≡ false

passed_of : (s : State) (k : ℕ) (r : List ℕ) → fault_of s k r ≡ 0 → Passed s k r
passed_of s k r e = let o = in_number_order s k r in
    let (few, used) = neither (leb (get_or (greatest s) k 0) (count s k)) (overused s k r) (o.room (λ h. absurd (h e))) in
    record {
      order = o.order (λ h. absurd (h e));
      room = few;
      within = used;
      refers = o.refers (λ h. absurd (h e));
      shallow = o.shallow (λ h. absurd (h e));
      types = o.types (λ h. absurd (h e));
      unused = o.unused (λ h. absurd (h e));
    }

pub passed : (s : State) (r : List ℕ) → fault s r ≡ 0 → Passed s (key_of r) r
unfolding fault
passed s [] e = zero_not_suc e
passed s (t ∷ l) e = passed_of s (key_of (t ∷ l)) (t ∷ l) e

-- ---- an accepted reading, by induction over its lines

-- no line missing, and no policy has a slot and no link line
pub record Ended (s : State) : Type 0 where
  pub full : enough s no_key ≡ true
  pub linked : ltb (first_unlinked s 0 (lines_of s POLICY)) (count s POLICY) ≡ false

end_with : (s : State) (k n i : ℕ) (a b c : Bool) → (cond a (cond b (reads s 5 i) (cond c (reads s 8 n) (reads s 0 0))) (reads s 3 k)).number ≡ 0
    → ((cond a (cond b (reads s 5 i) (cond c (reads s 8 n) (reads s 0 0))) (reads s 3 k)).state ≡ s) × (a ≡ true) × (b ≡ false)
end_with s k n i true true c q = zero_not_suc q
end_with s k n i true false true q = zero_not_suc q
end_with s k n i true false false q = (refl, refl, refl)
end_with s k n i false b c q = zero_not_suc q

pub ended : (s : State) (k : ℕ) → (ending s k).number ≡ 0 → ((ending s k).state ≡ s) × Ended s
ended s k e = let (p, a, b) = end_with s k _ _ (enough s no_key) (ltb (first_unlinked s 0 (lines_of s POLICY)) (count s POLICY)) (ltb (first_unused s.used) (count s NODE)) e in (p, record { full = a; linked = b })

-- the kinds that each entity line reaches are above it
abbrev pub AllFit : State → Type 0
AllFit s = ltb (first_unfit s (lines_of s ENTITY)) (count s ENTITY) ≡ false

pub entities_passed : (s : State) (x : Reading) → (entities_fit s x).number ≡ 0 → (entities_fit s x ≡ x) × AllFit s
entities_passed s x e = go (ltb (first_unfit s (lines_of s ENTITY)) (count s ENTITY)) _ e
  where
    go : (b : Bool) (k : ℕ) → (cond b (reads s 7 k) x).number ≡ 0 → (cond b (reads s 7 k) x ≡ x) × (b ≡ false)
    go true k q = zero_not_suc q
    go false k q = (refl, refl)

pub line_passed : (l : List ℕ) (s : State) (x : Reading) → (before_line l s x).number ≡ 0 → before_line l s x ≡ x
line_passed l s x e = go (starts (ascii "entity=") l) e
  where
    go : (b : Bool) → (cond b x (entities_fit s x)).number ≡ 0 → cond b x (entities_fit s x) ≡ x
    go true q = refl
    go false q = (entities_passed s x q).0

module _ (m : Mode) (Holds : State → Type 0) (step : (s : State) (l : List ℕ) → Holds s → fault s (row_of m l) ≡ 0 → Holds (more s (row_of m l))) where
  -- at the end: it holds, no line is missing, and what entities reach is above them
  Final : Reading → Type 0
  Final x = Holds x.state × Ended x.state × AllFit x.state

  at_end : (s : State) (k : ℕ) → Holds s → (entities_fit s (ending s k)).number ≡ 0 → Final (entities_fit s (ending s k))
  unfolding Final
  at_end s k h e = let (a, b) = entities_passed s (ending s k) e in let (p, q) = ended s k (sym (ap (λ x. x.number) a) ∙ e) in rw (a, p) (h, q, b)

  go_on_law : (s : State) (k : ℕ) (l : List ℕ) (n : ℕ) (rest : State → ℕ → Reading) → fault s (row_of m l) ≡ n → Holds s
      → (Holds (more s (row_of m l)) → (rest (more s (row_of m l)) (suc k)).number ≡ 0 → Final (rest (more s (row_of m l)) (suc k)))
      → (go_on s k (row_of m l) n rest).number ≡ 0 → Final (go_on s k (row_of m l) n rest)
  go_on_law s k l zero rest f h next e = next (step s l h f) e
  go_on_law s k l (suc n) rest f h next e = zero_not_suc e

  last_part : (l : List ℕ) (s : State) (k : ℕ) → Holds s → (reading m (l ∷ []) s k).number ≡ 0 → Final (reading m (l ∷ []) s k)
  last_part [] s k h e = at_end s k h e
  last_part (x ∷ l) s k h e = zero_not_suc (sym (ap (λ y. y.number) (line_passed (x ∷ l) s (reads s 3 k) e)) ∙ e)

  holds_after : (ls : List (List ℕ)) (s : State) (k : ℕ) → Holds s → (reading m ls s k).number ≡ 0 → Final (reading m ls s k)
  holds_after [] s k h e = at_end s k h e
  holds_after (l ∷ []) s k h e = last_part l s k h e
  holds_after (l ∷ n ∷ ls) s k h e = let p = line_passed l s (line_read s k (row_of m l) (reading m (n ∷ ls))) e in
      subst Final (sym p) (go_on_law s k l (fault s (row_of m l)) (reading m (n ∷ ls)) refl h (λ h e. holds_after (n ∷ ls) (more s (row_of m l)) (suc k) h e) (sym (ap (λ x. x.number) p) ∙ e))

  pub holds_read : (sheet : List ℕ) → Holds empty → (read m sheet).number ≡ 0 → Holds (read m sheet).state × Ended (read m sheet).state
  unfolding read Final
  holds_read sheet h e = let (a, b, c) = holds_after (split 10 sheet) empty 1 h e in (a, b)

  fit_read : (sheet : List ℕ) → Holds empty → (read m sheet).number ≡ 0 → AllFit (read m sheet).state
  unfolding read Final
  fit_read sheet h e = let (a, b, c) = holds_after (split 10 sheet) empty 1 h e in c

-- ---- the lines of a state with one more

pub set_cases : {A X : Type 0} (l : List A) (k j : ℕ) (a d : A) → (get_or (set l k a) j d ≡ get_or l j d → X) → (j ≡ k → get_or (set l k a) j d ≡ a → X) → X
set_cases [] k j a d f g = f refl
set_cases (x ∷ l) zero zero a d f g = g refl refl
set_cases (x ∷ l) zero (suc j) a d f g = f refl
set_cases (x ∷ l) (suc k) zero a d f g = f refl
set_cases (x ∷ l) (suc k) (suc j) a d f g = set_cases l k j a d f (λ e q. g (ap suc e) q)

pub lines_more : {X : Type 0} (s : State) (r : List ℕ) (j : ℕ) → (lines_of (more s r) j ≡ lines_of s j → X) → (j ≡ key_of r → lines_of (more s r) j ≡ lines_of s j ++ (r ∷ []) → X) → X
unfolding more
lines_more s r j f g = set_cases s.lines (key_of r) j (lines_of s (key_of r) ++ (r ∷ [])) [] f (λ e q. g e (q ∙ ap (λ i. lines_of s i ++ (r ∷ [])) (sym e)))

-- a list with one more at its end, split at an item
pub cons_tail : {A : Type 0} {x y : A} {k l : List A} → x ∷ k ≡ y ∷ l → k ≡ l
cons_tail e = ap (drop 1) e

pub cons_head : {A : Type 0} {x y : A} {k l : List A} → x ∷ k ≡ y ∷ l → x ≡ y
cons_head {x = x} e = ap (λ z. get_or z 0 x) e

pub not_empty : {A X : Type 0} (pre : List A) (r : A) (rest : List A) → [] ≡ pre ++ (r ∷ rest) → X
not_empty [] r rest e = zero_not_suc (sym (ap length e))
not_empty (x ∷ pre) r rest e = zero_not_suc (sym (ap length e))

pub snoc_split : {A X : Type 0} (l pre : List A) (x r : A) (rest : List A) → l ++ (x ∷ []) ≡ pre ++ (r ∷ rest) → (l ≡ pre → x ≡ r → X) → ((after : List A) → l ≡ pre ++ (r ∷ after) → X) → X
snoc_split [] [] x r rest e f g = f refl (cons_head e)
snoc_split [] (y ∷ pre) x r rest e f g = not_empty pre r rest (cons_tail e)
snoc_split (z ∷ l) [] x r rest e f g = g l (ap (λ i. i ∷ l) (cons_head e))
snoc_split (z ∷ l) (y ∷ pre) x r rest e f g = snoc_split l pre x r rest (cons_tail e) (λ p q. f (ap₂ ◌∷◌ (cons_head e) p) q) (λ a p. g a (ap₂ ◌∷◌ (cons_head e) p))

-- ---- what is after key k is still empty when a line of key k is read

zero_lengths : (ls : List (List (List ℕ))) (k j : ℕ) → all_zero (drop (suc k) (lengths ls)) ≡ true → k < j → get_or ls j [] ≡ []
zero_lengths [] k j e h = refl
zero_lengths (l ∷ ls) zero zero e h = absurd (omega arith)
zero_lengths (l ∷ ls) zero (suc j) e h = all_zero_law ls j e
  where
    nothing_in : (l : List (List ℕ)) → eqb (length l) 0 ≡ true → l ≡ []
    nothing_in [] e = refl
    nothing_in (x ∷ l) e = zero_not_suc (eqb_true (suc (length l)) 0 e)

    all_zero_law : (ls : List (List (List ℕ))) (j : ℕ) → all_zero (lengths ls) ≡ true → get_or ls j [] ≡ []
    all_zero_law [] j e = refl
    all_zero_law (l ∷ ls) zero e = and_both (eqb (length l) 0) (all_zero (lengths ls)) e (λ p q. nothing_in l p)
    all_zero_law (l ∷ ls) (suc j) e = and_both (eqb (length l) 0) (all_zero (lengths ls)) e (λ p q. all_zero_law ls j q)
zero_lengths (l ∷ ls) (suc k) zero e h = absurd (omega arith)
zero_lengths (l ∷ ls) (suc k) (suc j) e h = zero_lengths ls k j e (le_of_suc-le-suc h)

pub later_empty : (s : State) (k j : ℕ) → in_order s k ≡ true → k < j → lines_of s j ≡ []
later_empty s k j e h = and_both (all_zero (drop (suc k) (counts s))) (enough s k) e (λ p q. zero_lengths s.lines k j p h)

-- ---- the state in which a line was read

pub record Was (m : Mode) (s : State) (k : ℕ) (pre : List (List ℕ)) (r : List ℕ) : Type 0 where
  pub was : State
  pub line : List ℕ
  pub row : r ≡ row_of m line
  pub key : key_of r ≡ k
  pub pass : Passed was k r
  pub mine : lines_of was k ≡ pre
  pub earlier : (j : ℕ) → j < k → lines_of was j ≡ lines_of s j

abbrev pub History : Mode → State → Type 0
History m s = (k : ℕ) (pre : List (List ℕ)) (r : List ℕ) (rest : List (List ℕ)) → lines_of s k ≡ pre ++ (r ∷ rest) → Was m s k pre r

module _ (m : Mode) (s : State) (l : List ℕ) (old : History m s) (f : fault s (row_of m l) ≡ 0) where
  new : List ℕ
  new = row_of m l

  now : Passed s (key_of new) new
  unfolding new
  now = passed s (row_of m l) f

  -- a line read before, whose key's lines begin as they did
  still : (k : ℕ) (pre : List (List ℕ)) (r : List ℕ) → Was m s k pre r → ((j : ℕ) → j < k → lines_of s j ≡ lines_of (more s new) j) → Was m (more s new) k pre r
  still k pre r w h = record { was = w.was; line = w.line; row = w.row; key = w.key; pass = w.pass; mine = w.mine; earlier = λ j q. w.earlier j q ∙ h j q }

  other_key : (k : ℕ) (pre : List (List ℕ)) (r : List ℕ) (rest : List (List ℕ)) → lines_of s k ≡ pre ++ (r ∷ rest) → (j : ℕ) → j < k → lines_of s j ≡ lines_of (more s new) j
  other_key k pre r rest e j q = lines_more s new j sym
      (λ p d. not_empty pre r rest (sym (later_empty s (key_of new) k now.order (subst (λ i. i < k) p q)) ∙ e))

  same_key : (k : ℕ) → k ≡ key_of new → (j : ℕ) → j < k → lines_of s j ≡ lines_of (more s new) j
  same_key k e j q = lines_more s new j sym (λ p d. absurd (omega (arith, q, e, p)))

  pub history_more : History m (more s (row_of m l))
  unfolding new
  history_more k pre r rest e = lines_more s (row_of m l) k
      (λ q. still k pre r (old k pre r rest (sym q ∙ e)) (other_key k pre r rest (sym q ∙ e)))
      (λ p q. snoc_split (lines_of s k) pre (row_of m l) r rest (sym q ∙ e)
      (λ a b. record { was = s; line = l; row = sym b; key = ap key_of (sym b) ∙ sym p; pass = subst (Passed s k) b (subst (λ i. Passed s i (row_of m l)) (sym p) now); mine = a; earlier = same_key k p })
      (λ after a. still k pre r (old k pre r after a) (same_key k p)))

pub no_lines : (k : ℕ) → lines_of empty k ≡ []
no_lines k = go no_key k
  where
    go : (n k : ℕ) → get_or {A = List (List ℕ)} (replicate n []) k [] ≡ []
    go zero k = refl
    go (suc n) zero = refl
    go (suc n) (suc k) = go n k

-- every line of an accepted sheet was read without fault, over the lines before it; and no line is missing
pub accepted_history : (m : Mode) (sheet : List ℕ) → (read m sheet).number ≡ 0 → History m (read m sheet).state × Ended (read m sheet).state
accepted_history m sheet e = holds_read m (History m) (λ s l h f. history_more m s l h f) sheet (λ k pre r rest q. not_empty pre r rest (sym (no_lines k) ∙ q)) e

-- 2.6: each entity line of an accepted sheet reaches only kinds above it
pub accepted_fit : (m : Mode) (sheet : List ℕ) → (read m sheet).number ≡ 0 → AllFit (read m sheet).state
accepted_fit m sheet e = fit_read m (λ s. Unit {0}) (λ s l h f. tt) sheet tt e

-- For the loader: a reading is what is asked before its first line, then that line; whether the line begins with `entity=` is seen from the
-- bytes that are left; and once it is known that all lines reach only kinds above, lines of later keys leave it so.
use mathlib.Core.Path.{◌≡◌, refl, sym, ◌∙◌, ap}
use mathlib.Core.Bool.{Bool, true, false, cond, ◌&&◌}
use mathlib.Core.List.{List, [], ◌∷◌}
use Prim.Native.Nat.{ℕ, suc, ◌<◌, ◌≤◌}
use native.Mathlib.Omega.{arith}
use lib.Dec.{ltb, eqb}
use lib.ListN.{length, get_or, take, drop}
use borrow.Author.Tests.{eqb-true, ne_eqb}
use Rattle.cedar.proofs.Tools.{no_true, neither}
use Rattle.cedar.specs.Numbered.{mem_n, r_ent}
use Rattle.sheet.specs.Ascii.{ascii}
use Rattle.sheet.specs.Bytes.{starts, ahead, split}
use Rattle.sheet.specs.Forms.{Mode, key_of, items, at, ENTITY}
use Rattle.sheet.specs.State.{State, lines_of, count, value_row}
use Rattle.sheet.specs.Typing.{all_in}
use Rattle.sheet.specs.Parents.{ancestors}
use Rattle.sheet.specs.Sheet.{more, Reading, reads, first_unfit, entities_fit, before_line, reading, reading_on}
use Rattle.sheet.proofs.reading.Lines.{AllFit, lines_more}

-- ---- one line more

abbrev pub first_part : List (List ℕ) → List ℕ
first_part [] = []
first_part (l ∷ ls) = l

pub reading_before : (m : Mode) (ls : List (List ℕ)) (s : State) (k : ℕ) → reading m ls s k ≡ before_line (first_part ls) s (reading_on m ls s k)
reading_before m [] s k = refl
reading_before m (l ∷ []) s k = refl
reading_before m (l ∷ n ∷ ls) s k = refl

first_ahead : (y : ℕ) (ps : List (List ℕ)) → first_part (ahead y ps) ≡ y ∷ first_part ps
first_ahead y [] = refl
first_ahead y (p ∷ ps) = refl

-- a word without a line end
pub starts_split : (w rest : List ℕ) → mem_n 10 w ≡ false → starts w (first_part (split 10 rest)) ≡ starts w rest
starts_split [] rest e = refl
starts_split (x ∷ w) [] e = refl
starts_split (x ∷ w) (y ∷ r) e = let (a, b) = neither (eqb 10 x) (mem_n 10 w) e in go (eqb y 10) refl a (starts_split w r b)
  where
    go : (c : Bool) → eqb y 10 ≡ c → eqb 10 x ≡ false → starts w (first_part (split 10 r)) ≡ starts w r → starts (x ∷ w) (first_part (cond c ([] ∷ split 10 r) (ahead y (split 10 r)))) ≡ (eqb x y && starts w r)
    go true q a ih = sym (ap (λ b. b && starts w r) (ne_eqb x y (λ z. no_true (sym a ∙ borrow.Author.Tests.eq-eqb 10 x (sym (z ∙ eqb-true y 10 q))))))
    go false q a ih = ap (starts (x ∷ w)) (first_ahead y (split 10 r)) ∙ ap (λ b. eqb x y && b) ih

-- of the bytes `entity=`
pub starts_entity : (rest : List ℕ) → starts (ascii "entity=") (first_part (split 10 rest)) ≡ starts (ascii "entity=") rest
starts_entity rest = starts_split (ascii "entity=") rest refl

-- ---- asked once

-- the check looks at shapes, values and entities only
unfit_over : (u s : State) → lines_of u 4 ≡ lines_of s 4 → lines_of u 5 ≡ lines_of s 5 → lines_of u 6 ≡ lines_of s 6 → (rs : List (List ℕ)) → first_unfit u rs ≡ first_unfit s rs
unfit_over u s a b c [] = refl
unfit_over u s a b c (r ∷ rs) = λ i. cond (r_ent false (value_row (get_or (b i) (at r 0) [])) (λ k t. all_in (λ v. r_ent false (value_row (get_or (b i) v [])) (λ l t. mem_n l (drop 2 (items (get_or (a i) k []))))) (ancestors (b i) (take 128 (c i)) (at r 0)))) (suc (unfit_over u s a b c rs i)) 0

pub fit_over : (u s : State) → lines_of u 4 ≡ lines_of s 4 → lines_of u 5 ≡ lines_of s 5 → lines_of u 6 ≡ lines_of s 6 → AllFit s → AllFit u
fit_over u s a b c f = (λ i. ltb (first_unfit u (c i)) (length (c i))) ∙ ap (λ n. ltb n (length (lines_of s 6))) (unfit_over u s a b c (lines_of s 6)) ∙ f

earlier : (s : State) (r : List ℕ) (j : ℕ) → j < key_of r → lines_of (more s r) j ≡ lines_of s j
earlier s r j h = lines_more s r j (λ e. e) (λ e q. absurd (omega (arith, e, h)))

-- a line of a key after the entities leaves it so
pub fit_more : (s : State) (r : List ℕ) → 7 ≤ key_of r → AllFit s → AllFit (more s r)
fit_more s r h f = fit_over (more s r) s (earlier s r 4 (omega (arith, h))) (earlier s r 5 (omega (arith, h))) (earlier s r 6 (omega (arith, h))) f

-- and then nothing is refused before a line
pub fit_passes : (l : List ℕ) (s : State) (x : Reading) → AllFit s → before_line l s x ≡ x
fit_passes l s x f = go (starts (ascii "entity=") l)
  where
    none_unfit : (b : Bool) (k : ℕ) → b ≡ false → cond b (reads s 7 k) x ≡ x
    none_unfit true k e = no_true (sym e)
    none_unfit false k e = refl

    go : (b : Bool) → cond b x (entities_fit s x) ≡ x
    go true = refl
    go false = none_unfit (ltb (first_unfit s (lines_of s ENTITY)) (count s ENTITY)) _ f

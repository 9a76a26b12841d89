-- Where a line begins, and the copy by these places. Assumes nothing.
use mathlib.Core.Path.{◌≡◌, refl, sym, ap, ap₂, subst, ◌∙◌}
use mathlib.Core.Bool.{Bool, true, false, cond}
use mathlib.Core.List.{List, [], ◌∷◌, ◌++◌, append-nil}
use Prim.Native.Nat.{ℕ, zero, suc, ◌+◌, ◌-◌, ◌≤◌, ◌<◌}
use native.Mathlib.Omega.{arith}
use borrow.Author.Tests.{eqb-true}
use lib.Dec.{eqb}
use lib.ListN.{length, get_or, take, drop, set, length-drop, drop_of_length-le}
use lib.Seq.{drop-drop}
use Rattle.words.specs.Log.{part}
use Rattle.sheet.specs.Bytes.{up_to, split, ahead}
use Rattle.print.specs.declared.Out.{Out}
use Rattle.print.specs.Out.{Prints}
use Rattle.print.specs.Written.{Written}
use Rattle.print.proofs.Writing.{written_append, written_as}
use Rattle.scan.proofs.Splits.{split_parts}
use Rattle.previewed.specs.Preview.{line_of, join_lines, edited}
use Rattle.edit.specs.Places.{start_of, begin_of, end_from, replaced}

-- ---- the search for a line

-- there is no other line, or the rest begins after a byte 10
start_past : (k : ℕ) (t : List ℕ) → length t ≤ up_to 10 t → start_of (suc k) t ≡ length t
unfolding start_of
start_past k [] h = refl
start_past k (x ∷ t) h = go (eqb x 10) (start_past k t) h
  where
    go : (b : Bool) → (length t ≤ up_to 10 t → start_of (suc k) t ≡ length t) → suc (length t) ≤ cond b 0 (suc (up_to 10 t)) → suc (cond b (start_of k t) (start_of (suc k) t)) ≡ suc (length t)
    go true ih g = absurd (omega arith)
    go false ih g = ap suc (ih (omega arith))

start_on : (k : ℕ) (t : List ℕ) → up_to 10 t < length t → start_of (suc k) t ≡ suc (up_to 10 t) + start_of k (drop (suc (up_to 10 t)) t)
unfolding start_of
start_on k [] h = absurd (omega arith)
start_on k (x ∷ t) h = go (eqb x 10) (start_on k t) h
  where
    go : (b : Bool) → (up_to 10 t < length t → start_of (suc k) t ≡ suc (up_to 10 t) + start_of k (drop (suc (up_to 10 t)) t)) → cond b 0 (suc (up_to 10 t)) < suc (length t)
        → suc (cond b (start_of k t) (start_of (suc k) t)) ≡ suc (cond b 0 (suc (up_to 10 t))) + start_of k (drop (suc (cond b 0 (suc (up_to 10 t)))) (x ∷ t))
    go true ih g = omega arith
    go false ih g = let z = ih (omega arith) in omega (arith, z)

-- where the search for line n stands: line k begins at `at`
pub record Seeking (sheet : List ℕ) (n k at : ℕ) : Type 0 where
  pub near : at ≤ length sheet
  pub left : begin_of sheet n ≡ at + start_of (n - k) (drop at sheet)

module _ (sheet : List ℕ) (n k at : ℕ) (s : Seeking sheet n k at) where
  pub seeking_end : n ≤ k → at ≡ begin_of sheet n
  unfolding start_of
  seeking_end h =
      let z : n - k ≡ 0 = omega arith in
      let y : start_of (n - k) (drop at sheet) ≡ 0 = ap (λ (i : ℕ). start_of i (drop at sheet)) z in
      omega (arith, s.left, y)

  module _ (more : k < n) (e : ℕ) (f : e ≡ at + up_to 10 (drop at sheet)) where
    one_more : start_of (n - k) (drop at sheet) ≡ start_of (suc (n - (k + 1))) (drop at sheet)
    one_more = let z : n - k ≡ suc (n - (k + 1)) = omega arith in ap (λ (i : ℕ). start_of i (drop at sheet)) z

    pub seeking_past : length sheet ≤ e → length sheet ≡ begin_of sheet n
    seeking_past h =
        let l = length-drop at sheet in
        let z = start_past (n - (k + 1)) (drop at sheet) (omega (arith, l, s.near)) in
        omega (arith, s.left, s.near, one_more, z, l)

    pub seeking_on : e < length sheet → Seeking sheet n (k + 1) (e + 1)
    seeking_on h =
        let l = length-drop at sheet in
        let u = up_to 10 (drop at sheet) in
        let z = start_on (n - (k + 1)) (drop at sheet) (omega (arith, l, s.near)) in
        let m : at + suc u ≡ e + 1 = omega arith in
        let d : drop (suc u) (drop at sheet) ≡ drop (e + 1) sheet = drop-drop (suc u) at sheet ∙ ap (λ (i : ℕ). drop i sheet) m in
        let y : start_of (n - (k + 1)) (drop (suc u) (drop at sheet)) ≡ start_of (n - (k + 1)) (drop (e + 1) sheet) = ap (start_of (n - (k + 1))) d in
        record { near = omega arith; left = omega (arith, s.left, one_more, z, y) }

-- ---- the line's bytes

ahead_later : (x : ℕ) (ps : List (List ℕ)) (i : ℕ) → get_or (ahead x ps) (suc i) [] ≡ get_or ps (suc i) []
ahead_later x [] i = refl
ahead_later x (p ∷ ps) i = refl

abbrev first : List ℕ → List ℕ
first l = take (up_to 10 l) l

line_from : (i : ℕ) (s : List ℕ) → get_or (split 10 s) i [] ≡ first (drop (start_of i s) s)
unfolding start_of
line_from zero s = ap (λ (t : List (List ℕ)). get_or t 0 []) (split_parts 10 s)
line_from (suc i) [] = refl
line_from (suc i) (x ∷ s) = go (eqb x 10) (line_from i s) (line_from (suc i) s)
  where
    go : (b : Bool) → get_or (split 10 s) i [] ≡ first (drop (start_of i s) s) → get_or (split 10 s) (suc i) [] ≡ first (drop (start_of (suc i) s) s)
        → get_or (cond b ([] ∷ split 10 s) (ahead x (split 10 s))) (suc i) [] ≡ first (drop (suc (cond b (start_of i s) (start_of (suc i) s))) (x ∷ s))
    go true g h = g
    go false g h = ahead_later x (split 10 s) i ∙ h

-- a line's bytes are those from its begin to its end
pub line_at_law : (sheet : List ℕ) (n : ℕ) → line_of sheet n ≡ part sheet (begin_of sheet n) (end_from sheet (begin_of sheet n))
line_at_law sheet n = go n ∙ ap (λ (i : ℕ). take i (drop (begin_of sheet n) sheet)) (size (begin_of sheet n) (up_to 10 (drop (begin_of sheet n) sheet)))
  where
    size : (a u : ℕ) → u ≡ a + u - a
    size a u = omega arith

    go : (n : ℕ) → line_of sheet n ≡ first (drop (begin_of sheet n) sheet)
    go zero = sym (ap first (drop_of_length-le sheet {i = length sheet} (omega arith)))
    go (suc i) = line_from i sheet

-- ---- the copy

with_parts : (Q : List (List ℕ) → Type 0) (s : List ℕ) → ((p : List ℕ) (ps : List (List ℕ)) → Q (p ∷ ps)) → Q (split 10 s)
with_parts Q s f = subst Q (sym (split_parts 10 s)) (f _ _)

join_ahead : (x : ℕ) (p : List ℕ) (ps : List (List ℕ)) → join_lines ((x ∷ p) ∷ ps) ≡ x ∷ join_lines (p ∷ ps)
join_ahead x p [] = refl
join_ahead x p (q ∷ ps) = refl

join_set : (l p : List ℕ) (ps : List (List ℕ)) (i : ℕ) (new : List ℕ) → join_lines (l ∷ set (p ∷ ps) i new) ≡ l ++ (10 ∷ join_lines (set (p ∷ ps) i new))
join_set l p ps zero new = refl
join_set l p ps (suc i) new = refl

join_split : (s : List ℕ) → join_lines (split 10 s) ≡ s
join_split [] = refl
join_split (x ∷ s) = go (eqb x 10) refl (join_split s)
  where
    go : (b : Bool) → eqb x 10 ≡ b → join_lines (split 10 s) ≡ s → join_lines (cond b ([] ∷ split 10 s) (ahead x (split 10 s))) ≡ x ∷ s
    go true e ih =
        with_parts (λ (t : List (List ℕ)). join_lines ([] ∷ t) ≡ 10 ∷ join_lines t) s (λ p ps. refl)
        ∙ ap₂ (λ (y : ℕ) (l : List ℕ). y ∷ l) (sym (eqb-true x 10 e)) ih
    go false e ih = with_parts (λ (t : List (List ℕ)). join_lines (ahead x t) ≡ x ∷ join_lines t) s (λ p ps. join_ahead x p ps) ∙ ap (λ (l : List ℕ). x ∷ l) ih

-- the first line replaced
copy_first : (s new : List ℕ) → join_lines (set (split 10 s) 0 new) ≡ new ++ drop (up_to 10 s) s
copy_first [] new = sym (append-nil new)
copy_first (x ∷ s) new = go (eqb x 10) refl (copy_first s new)
  where
    go : (b : Bool) → eqb x 10 ≡ b → join_lines (set (split 10 s) 0 new) ≡ new ++ drop (up_to 10 s) s
        → join_lines (set (cond b ([] ∷ split 10 s) (ahead x (split 10 s))) 0 new) ≡ new ++ drop (cond b 0 (suc (up_to 10 s))) (x ∷ s)
    go true e ih =
        with_parts (λ (t : List (List ℕ)). join_lines (new ∷ t) ≡ new ++ (10 ∷ join_lines t)) s (λ p ps. refl)
        ∙ ap₂ (λ (y : ℕ) (l : List ℕ). new ++ (y ∷ l)) (sym (eqb-true x 10 e)) (join_split s)
    go false e ih = with_parts (λ (t : List (List ℕ)). join_lines (set (ahead x t) 0 new) ≡ join_lines (set t 0 new)) s (λ p ps. refl) ∙ ih

-- a copy of s with the line from a on replaced
abbrev copied : List ℕ → ℕ → List ℕ → List ℕ
copied s a new = take a s ++ (new ++ drop (up_to 10 (drop a s)) (drop a s))

copy_from : (i : ℕ) (s new : List ℕ) → start_of i s < length s → join_lines (set (split 10 s) i new) ≡ copied s (start_of i s) new
unfolding start_of
copy_from zero s new h = copy_first s new
copy_from (suc i) [] new h = absurd (omega arith)
copy_from (suc i) (x ∷ s) new h = go (eqb x 10) refl (copy_from i s new) (copy_from (suc i) s new) h
  where
    go : (b : Bool) → eqb x 10 ≡ b → (start_of i s < length s → join_lines (set (split 10 s) i new) ≡ copied s (start_of i s) new)
        → (start_of (suc i) s < length s → join_lines (set (split 10 s) (suc i) new) ≡ copied s (start_of (suc i) s) new)
        → suc (cond b (start_of i s) (start_of (suc i) s)) < suc (length s)
        → join_lines (set (cond b ([] ∷ split 10 s) (ahead x (split 10 s))) (suc i) new) ≡ copied (x ∷ s) (suc (cond b (start_of i s) (start_of (suc i) s))) new
    go true e f g l =
        with_parts (λ (t : List (List ℕ)). join_lines ([] ∷ set t i new) ≡ 10 ∷ join_lines (set t i new)) s (λ p ps. join_set [] p ps i new)
        ∙ ap₂ (λ (y : ℕ) (k : List ℕ). y ∷ k) (sym (eqb-true x 10 e)) (f (omega arith))
    go false e f g l =
        with_parts (λ (t : List (List ℕ)). join_lines (set (ahead x t) (suc i) new) ≡ x ∷ join_lines (set t (suc i) new)) s (λ p ps. join_ahead x p (set ps i new))
        ∙ ap (λ (k : List ℕ). x ∷ k) (g (omega arith))

-- the copy has the new bytes in the place of those of the line
pub copy_is : (sheet : List ℕ) (n : ℕ) (new : List ℕ) → begin_of sheet n < length sheet → edited sheet n new ≡ replaced sheet (begin_of sheet n) (end_from sheet (begin_of sheet n)) new
unfolding edited
copy_is sheet zero new h = absurd (omega arith)
copy_is sheet (suc i) new h =
    let z : suc i - 1 ≡ i = omega arith in
    let a = start_of i sheet in
    ap (λ (j : ℕ). join_lines (set (split 10 sheet) j new)) z ∙ copy_from i sheet new h
    ∙ ap (λ (t : List ℕ). take a sheet ++ (new ++ t)) (drop-drop (up_to 10 (drop a sheet)) a sheet)

-- the copy, printed in three parts into the buffer, which then has what the last print left
pub replaced_printed : {o a b c : Out} {x y : List ℕ} (sheet new : List ℕ) (start end : ℕ) → o.at ≡ 0 → x ≡ take start sheet → y ≡ drop end sheet → Prints o x a → Prints a new b → Prints b y c
    → Written o.buffer.now 0 (replaced sheet start end new) c.buffer.now c.at
replaced_printed {o = o} {c = c} sheet new start end z xp yp p q s =
    let w = written_append (written_as p.written xp) (written_append q.written (written_as s.written yp)) in
    subst (λ (i : ℕ). Written o.buffer.now i (replaced sheet start end new) c.buffer.now c.at) z w

-- Lines put together and taken apart again: the copy of a preview has the sheet's lines, but for the one replaced.
use mathlib.Core.Path.{◌≡◌, refl, sym, ◌∙◌, ap}
use mathlib.Core.Bool.{Bool, true, false, cond, not}
use mathlib.Core.List.{List, [], ◌∷◌}
use Prim.Native.Nat.{ℕ, zero, suc, ◌-◌}
use borrow.Author.Tests.{eq-eqb, ne_eqb, not-true}
use lib.Dec.{eqb}
use lib.ListN.{set}
use Rattle.cedar.proofs.Tools.{no_true, neither}
use Rattle.cedar.specs.Types.{among}
use Rattle.sheet.specs.Bytes.{split, ahead}
use Rattle.previewed.specs.Preview.{join_lines, edited}
use Rattle.sheet.proofs.answer.LinesBack.{lacks, split_one, split_two}

-- no part has a byte 10
abbrev pub all_lack : List (List ℕ) → Type 0
all_lack [] = Unit {0}
all_lack (l ∷ ls) = (lacks 10 l ≡ true) × all_lack ls

pub ahead_lacks : (x : ℕ) (ps : List (List ℕ)) → not (eqb x 10) ≡ true → all_lack ps → all_lack (ahead x ps)
ahead_lacks x [] e h = (rw e refl, tt)
ahead_lacks x (p ∷ ps) e h = (rw e h.0, h.1)

pub split_lacks : (l : List ℕ) → all_lack (split 10 l)
split_lacks [] = (refl, tt)
split_lacks (x ∷ l) = go (eqb x 10) refl (split_lacks l)
  where
    go : (b : Bool) → eqb x 10 ≡ b → all_lack (split 10 l) → all_lack (cond b ([] ∷ split 10 l) (ahead x (split 10 l)))
    go true e h = (refl, h)
    go false e h = ahead_lacks x (split 10 l) (ap not e) h

among_lacks : (l : List ℕ) → not (among 10 l) ≡ true → lacks 10 l ≡ true
among_lacks [] e = refl
among_lacks (x ∷ l) e = let (a, b) = neither (eqb 10 x) (among 10 l) (not-true (among 10 (x ∷ l)) e) in rw (ne_eqb x 10 (λ z. no_true (sym a ∙ eq-eqb 10 x (sym z)))) (among_lacks l (ap not b))

set_lacks : (ls : List (List ℕ)) (i : ℕ) (new : List ℕ) → all_lack ls → lacks 10 new ≡ true → all_lack (set ls i new)
set_lacks [] i new h e = tt
set_lacks (l ∷ ls) zero new h e = (e, h.1)
set_lacks (l ∷ ls) (suc i) new h e = (h.0, set_lacks ls i new h.1 e)

-- at least one line
abbrev pub NotNone : List (List ℕ) → Type 0
NotNone [] = ⊥
NotNone (l ∷ ls) = Unit {0}

pub split_join : (ls : List (List ℕ)) → NotNone ls → all_lack ls → split 10 (join_lines ls) ≡ ls
split_join [] n h = absurd n
split_join (l ∷ []) n h = split_one 10 l h.0
split_join (l ∷ k ∷ ls) n h = split_two 10 l (join_lines (k ∷ ls)) h.0 ∙ ap (λ z. l ∷ z) (split_join (k ∷ ls) tt h.1)

pub split_some : (l : List ℕ) → NotNone (split 10 l)
split_some [] = tt
split_some (x ∷ l) = go (eqb x 10) (split 10 l)
  where
    go : (b : Bool) (ps : List (List ℕ)) → NotNone (cond b ([] ∷ ps) (ahead x ps))
    go true ps = tt
    go false [] = tt
    go false (p ∷ ps) = tt

set_some : (ls : List (List ℕ)) (i : ℕ) (new : List ℕ) → NotNone ls → NotNone (set ls i new)
set_some [] i new n = n
set_some (l ∷ ls) zero new n = tt
set_some (l ∷ ls) (suc i) new n = tt

-- THE COPY HAS THE SHEET'S LINES, BUT FOR THE ONE REPLACED
pub edited_lines : (sheet : List ℕ) (n : ℕ) (new : List ℕ) → not (among 10 new) ≡ true → split 10 (edited sheet n new) ≡ set (split 10 sheet) (n - 1) new
unfolding edited
edited_lines sheet n new e = split_join (set (split 10 sheet) (n - 1) new) (set_some (split 10 sheet) (n - 1) new (split_some sheet)) (set_lacks (split 10 sheet) (n - 1) new (split_lacks sheet) (among_lacks new e))

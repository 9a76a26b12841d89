-- The entries of a record, as words, whose texts ascend, and leaps over them.
use Rattle.std.specs.Prelude.{◌≡◌, Bool, true, false, ◌&&◌, List, [], ◌∷◌, ℕ, suc, ◌+◌, ◌≤◌, leb, length, drop}
use Rattle.cedar.specs.Numbered.{entry_of}
use Rattle.sheet.specs.State.{entries_of}

-- whether the texts ascend, none of them below m
unfoldable pub rising : ℕ → List ℕ → Bool
rising m [] = true
rising m (t ∷ []) = false
rising m (t ∷ v ∷ l) = leb m t && rising (suc t) l

-- the words of some entries
pub record Even (n : ℕ) : Type 0 where
  pub half : ℕ
  pub even : n ≡ half + half
  pub some : 1 ≤ n

-- no entry before word i has text u
pub record Skips (l : List ℕ) (u i : ℕ) : Type 0 where
  pub half : ℕ
  pub even : i ≡ half + half
  pub near : i ≤ length l
  pub is : entry_of u (entries_of l) ≡ entry_of u (entries_of (drop i l))

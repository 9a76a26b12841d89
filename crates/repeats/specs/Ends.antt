-- Rows and texts told apart by their last word or byte.
use Rattle.std.specs.Prelude.{◌≡◌, cond, List, [], ℕ, ◌-◌, ◌<◌, eqb, length, get_or, drop}

-- for each place the entry that n entries from there on end with; nothing where n is 0
abbrev pub ends_of : ℕ → List ℕ → List ℕ
ends_of n l = cond (eqb n 0) [] (drop (n - 1) l)

-- x is the last word of row r, ends has the last word of a row as long as r for each beginning, and word i says that a row begins at word s
pub record RowEnds (a r ends : List ℕ) (x i s : ℕ) : Type 0 where
  pub last : x ≡ get_or r (length r - 1) 0
  pub all : ends ≡ ends_of (length r) a
  pub start : s ≡ get_or a i 0
  pub low : i < 8589934592

-- the same of a text: x is its last byte
pub record TextEnds (sheet a text ends : List ℕ) (x i s : ℕ) : Type 0 where
  pub last : x ≡ get_or text (length text - 1) 0
  pub all : ends ≡ ends_of (length text) sheet
  pub start : s ≡ get_or a i 0
  pub low : i < 8589934592
  pub small : s < 4294967296

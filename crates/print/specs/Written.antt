-- What a writer leaves: the bytes stored from a place on, where there is room, and the place after them.
use Rattle.std.specs.Prelude.{◌≡◌, List, ℕ, ◌+◌, ◌≤◌, min, length}
use Rattle.std.proofs.lemmas.List.Edits.{sets}

-- the greatest place that can be counted: 2^64 - 1
abbrev pub greatest : ℕ
greatest = 18446744073709551615

-- `sets` stores nothing past the end of `was`; no buffer is longer than can be counted
pub record Written (was : List ℕ) (at : ℕ) (bytes is : List ℕ) (next : ℕ) : Type 0 where
  pub held : is ≡ sets was at bytes
  pub place : next ≡ min (at + length bytes) greatest
  pub countable : length was ≤ greatest

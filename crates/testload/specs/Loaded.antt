-- What the call promises: number, line and length, and every byte of the answer buffer, are those of the definition. A variable with a prime is what the call leaves.
use Rattle.std.specs.Prelude.{◌≡◌, ℕ, List, length}
use Rattle.drawn.specs.TestLoad.{next, draw, load_returned, load_written}

pub record Loaded (seed n : ℕ) (out : List ℕ) (number line len : ℕ) (out' : List ℕ) : Type 0 where
  pub number_is : number ≡ (load_returned seed n (length out)).number
  pub line_is : line ≡ (load_returned seed n (length out)).line
  pub length_is : len ≡ (load_returned seed n (length out)).length
  pub buffer : out' ≡ load_written seed n out

-- the draws of one policy, and the state after them
pub record Draws (state effect tree after : ℕ) : Type 0 where
  pub effect_is : effect ≡ draw (next state) 2
  pub tree_is : tree ≡ draw (next (next state)) 3
  pub after_is : after ≡ next (next state)

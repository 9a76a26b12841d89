-- What node n does by a tag t, as the code takes it apart. That this is the step of Run is shown in proofs/.
use Rattle.std.specs.Prelude.{Bool, List, [], ◌∷◌, ℕ, ◌-◌, ◌/◌, length, get_or}
use Rattle.sheet.specs.Forms.{Mode, at, first_node}
use Rattle.tpe.specs.Run.{O, Rec, Ran, left, lit_step, err_step, var_step, slot_step, steps, node_in, kids_of, first_of, branch_of}
use Rattle.tpe.specs.Steps.{two_at, many_at}

-- its first operand is worked: its operands begin at start, and the other ones are read now
unfoldable pub first_in : Bool → Rec → ℕ → ℕ → O → O
first_in z f start n o = first_of z f start n (at (node_in o.words n) 0) (at (node_in o.words n) 2) o

unfoldable pub branch_in : Rec → ℕ → ℕ → O → O
branch_in f start n o = branch_of f start n (at (node_in o.words n) 0) (at (node_in o.words n) 2) (at (node_in o.words n) 3) o

module _ (m : Mode) (sheet : List ℕ) where
  -- the step by any tag, under a link with the values p and q
  unfoldable pub step_by : ℕ → ℕ → ℕ → Rec → List ℕ → List ℕ → ℕ → O
  step_by p q t f a l n = get_or (steps m sheet p q) (t - first_node) (err_step m sheet) f a l n (node_in a n)

  -- a slot
  unfoldable pub slot_of : ℕ → ℕ → List ℕ → List ℕ → ℕ → O
  slot_of p q a l n = slot_step m sheet p q (λ a l n. left a l) a l n (node_in a n)

  -- without operands
  unfoldable pub leaf_of : ℕ → List ℕ → List ℕ → ℕ → O
  leaf_of t a l n = get_or (lit_step m sheet ∷ err_step m sheet ∷ var_step m sheet ∷ []) (t - first_node) (err_step m sheet) (λ a l n. left a l) a l n (node_in a n)

  -- both operands are worked, and the first one ends at mid
  unfoldable pub pair_by : ℕ → ℕ → ℕ → ℕ → O → O
  pair_by t start mid n o = two_at m sheet t start mid n (node_in o.words n) o

  -- its first operand is worked, and the second one now
  unfoldable pub pair_in : ℕ → Rec → ℕ → ℕ → O → O
  pair_in t f start n o = pair_by t start (length o.log) n (f o.words o.log (at (node_in o.words n) 2))

  -- a set or record, whose children are each the last of s words
  unfoldable pub group_of : ℕ → ℕ → Rec → List ℕ → List ℕ → ℕ → O
  group_of t s f a l n = let k = kids_of f n s 2 a l 0 ((length (node_in a n) - 2) / s) in many_at m sheet t (length l) n (node_in k.words n) k

-- what a run leaves of words and log
abbrev pub ended : Ran → O
ended r = left r.words r.log

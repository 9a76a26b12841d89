-- What a node does once its operands are worked, by its tag: the second half of each step of Run. Its operands begin at start.
use Rattle.std.specs.Prelude.{List, [], ◌∷◌, ℕ, ◌-◌, get_or, drop}
use Rattle.cedar.specs.Residual.{unot, uneg, uempty, uis, ulike, beq, blt, ble, badd, bsub, bmul, bcontains, ball, bany, rin, rgettag, rhastag}
use Rattle.forms.specs.Tags.{EQ, IS, SET_OF}
use Rattle.sheet.specs.Forms.{Mode, items, at}
use Rattle.sheet.specs.Content.{pattern_of}
use Rattle.tpe.specs.Run.{O, Kids, un_of, bin_of, rel_of, get_of, has_of, path_of, set_of, rec_of}

module _ (m : Mode) (sheet : List ℕ) where
  -- IS to EMPTY: is, like, get, has, haspath, not, neg, empty
  abbrev pub one_steps : List (ℕ → ℕ → List ℕ → O → O)
  one_steps =
      (λ start n r o. un_of m sheet (uis (at r 2)) start n r o)
      ∷ (λ start n r o. un_of m sheet (ulike (pattern_of (drop 2 (items r)))) start n r o)
      ∷ get_of m sheet ∷ has_of m sheet ∷ path_of m sheet
      ∷ un_of m sheet unot ∷ un_of m sheet uneg ∷ un_of m sheet uempty ∷ []

  unfoldable pub one_at : ℕ → ℕ → ℕ → List ℕ → O → O
  one_at t = get_or one_steps (t - IS) (un_of m sheet uempty)

  -- EQ to ANY: eq, lt, le, add, sub, mul, in, gettag, hastag, contains, all, any; the left operand ends at mid
  abbrev pub two_steps : List (ℕ → ℕ → ℕ → List ℕ → O → O)
  two_steps =
      bin_of m sheet beq ∷ bin_of m sheet blt ∷ bin_of m sheet ble ∷ bin_of m sheet badd ∷ bin_of m sheet bsub ∷ bin_of m sheet bmul
      ∷ rel_of m sheet rin ∷ rel_of m sheet rgettag ∷ rel_of m sheet rhastag
      ∷ bin_of m sheet bcontains ∷ bin_of m sheet ball ∷ bin_of m sheet bany ∷ []

  unfoldable pub two_at : ℕ → ℕ → ℕ → ℕ → List ℕ → O → O
  two_at t = get_or two_steps (t - EQ) (bin_of m sheet bany)

  -- SET-OF and RECORD-OF: set, record
  unfoldable pub many_at : ℕ → ℕ → ℕ → List ℕ → Kids → O
  many_at t = get_or (set_of m sheet ∷ []) (t - SET_OF) (rec_of m sheet)

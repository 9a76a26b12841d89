-- Calls in marked slices, and marks looked for. Assumes nothing.
use mathlib.Core.Path.{◌≡◌, sym, ap, ◌∙◌}
use mathlib.Core.Bool.{Bool, true}
use mathlib.Core.List.{List}
use Prim.Native.Nat.{ℕ, ◌-◌}
use native.Mathlib.Omega.{arith}
use borrow.Author.Tests.{eq-eqb, ne_eqb}
use lib.ListN.{length, take, drop, replicate, length-drop}
use lib.Seq.{take_all}
use Rattle.words.specs.Log.{part}
use Rattle.sheet.specs.Forms.{Mode, partial, complete}
use Rattle.authorizer.specs.Called.{Called}
use Rattle.trial.specs.Lent.{mark, marks, entry_of, every, words_kept}

-- the call of an entry, in slices and a buffer that were marked
module _ (n number line len : ℕ) (s a b out u v o a' b' out' : List ℕ) (x : u ≡ replicate (length a) mark) (y : v ≡ replicate (length b) mark) (z : o ≡ replicate (length out) mark) where
  abbrev Tried : Mode → Type 0
  Tried m = Called m s (marks (length a)) (marks (length b)) (marks (length out)) number line len out' a' b'

  pub tried_complete : n ≡ 1 → Called complete s u v o number line len out' a' b' → Tried (entry_of n)
  unfolding marks entry_of
  tried_complete h c = rw (eq-eqb n 1 h, ← x, ← y, ← z) c

  pub tried_partial : (n ≡ 1 → ⊥) → Called partial s u v o number line len out' a' b' → Tried (entry_of n)
  unfolding marks entry_of
  tried_partial h c = rw (ne_eqb n 1 h, ← x, ← y, ← z) c

-- after a number other than 1, where the first words are 0: so it is by the rest
pub kept_rest : (number : ℕ) (w front back : List ℕ) (f r : Bool) → (number ≡ 1 → ⊥) → front ≡ part w 0 16384 → f ≡ every 0 front → f ≡ true
    → back ≡ part w 16384 (length w) → r ≡ every mark back → r ≡ words_kept number w
unfolding words_kept
kept_rest number w front back f r h a e t b k =
    let c : every 0 (take 16384 w) ≡ true = sym (e ∙ ap (every 0) a) ∙ t in
    let d : part w 16384 (length w) ≡ drop 16384 w = take_all (length w - 16384) (drop 16384 w) (omega (arith, length-drop 16384 w)) in
    k ∙ ap (every mark) (b ∙ d) ∙ rw (ne_eqb number 1 h, c)

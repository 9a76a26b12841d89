-- A pattern matched piece by piece: the items up to the next `*` are one block, which stands at one place of the text.
use Rattle.std.specs.Prelude.{◌≡◌, Bool, true, false, cond, ◌&&◌, List, [], ◌∷◌, ℕ, suc, ◌+◌, ◌-◌, ◌≤◌, ◌<◌, eqb, leb, ltb, length, take, drop}
use Rattle.cedar.specs.Evaluate.{any_suffix, is_nil, matches}
use Rattle.sheet.specs.Forms.{mark}
use Rattle.sheet.specs.Content.{pattern_of}
use Rattle.like.specs.declared.Block.{Block as Blockᶜ}
use Rattle.like.specs.declared.Block.TheVariants.{Misses, Ends, Star}
use Rattle.like.specs.declared.Step.{Step as Stepᶜ}
use Rattle.like.specs.declared.Step.TheVariants.{Holds, Fails, On}
use Rattle.like.specs.declared.Joined.{Joined as Joinedᶜ}
use Rattle.like.specs.declared.Joined.TheVariants.{Long, Last, Inner}

-- a block at a place of the text: it does not stand there; it does, is the last one and ends at place e; or a star follows, before item p,
-- and the text is reached up to place e
pub data Block : Type 0 where
  misses : Block
  ends_at : ℕ → Block
  star_at : ℕ → ℕ → Block

-- a step of the search after a star: the pattern holds, it does not, or it is asked of the items from p on at place e or later
pub data Step : Type 0 where
  holds : Step
  fails : Step
  on_to : ℕ → ℕ → Step

-- as the code answers them
abbrev pub block_in : Blockᶜ → Block
block_in Misses = misses
block_in (Ends e) = ends_at e
block_in (Star p e) = star_at p e

abbrev pub step_in : Stepᶜ → Step
step_in Holds = holds
step_in Fails = fails
step_in (On p e) = on_to p e

-- whether the text begins with the piece
unfoldable pub begins : List ℕ → List ℕ → Bool
begins [] s = true
begins (x ∷ p) [] = false
begins (x ∷ p) (y ∷ s) = eqb x y && begins p s

-- the items p, of which the first is item q, against s, which begins at place t: they miss, they end there, or a star follows
unfoldable pub block_of : (ℕ → List ℕ) → ℕ → ℕ → List ℕ → List ℕ → Block
block_of bytes q t [] s = ends_at t
block_of bytes q t (x ∷ p) s =
    cond (eqb x mark) (star_at (suc q) t)
    (cond (begins (bytes x) s) (block_of bytes (suc q) (t + length (bytes x)) p (drop (length (bytes x)) s)) misses)

-- how many places of the text come before the first one where it has the piece; all of them where it never has
unfoldable pub until_piece : List ℕ → List ℕ → ℕ
until_piece p [] = 0
until_piece p (y ∷ s) = cond (begins p (y ∷ s)) 0 (suc (until_piece p s))

-- the same items one place further on in a text of n bytes
unfoldable pub later_of : ℕ → ℕ → ℕ → Step
later_of n q t = cond (ltb t n) (on_to q (t + 1)) fails

-- what the items from q on, after a star, leave to do at place t
unfoldable pub step_of : ℕ → ℕ → ℕ → Block → Step
step_of n q t misses = later_of n q t
step_of n q t (ends_at e) = cond (leb n e) holds (later_of n q t)
step_of n q t (star_at p e) = on_to p e

-- whether the items from q on, after a star, match at place t of the text or a later one
unfoldable pub after : (ℕ → List ℕ) → List ℕ → List ℕ → ℕ → ℕ → Bool
after bytes pattern s q t = any_suffix (matches bytes (pattern_of (drop q pattern))) (drop t s)

-- whether a text begins with the piece and f holds of what follows
unfoldable pub standing : List ℕ → (List ℕ → Bool) → List ℕ → Bool
standing p f s = begins p s && f (drop (length p) s)

-- whether the items from q on match at some place of the text
unfoldable pub asked : (ℕ → List ℕ) → List ℕ → ℕ → List ℕ → Bool
asked bytes pattern q s = any_suffix (matches bytes (pattern_of (drop q pattern))) s

-- the first bytes of w are a block that stands for the items from q on, after a star: they are sought in a text as it is
unfoldable pub Joins : (ℕ → List ℕ) → List ℕ → ℕ → List ℕ → Joinedᶜ → Type 0
Joins bytes pattern q w Long = (s : List ℕ) → length s ≤ length w → asked bytes pattern q s ≡ false
Joins bytes pattern q w (Last n) = (n ≤ length w) × ((s : List ℕ) → asked bytes pattern q s ≡ any_suffix (standing (take n w) is_nil) s)
Joins bytes pattern q w (Inner k n) =
    (n ≤ length w) × (q < k) × (k ≤ length pattern) × ((s : List ℕ) → asked bytes pattern q s ≡ any_suffix (standing (take n w) (asked bytes pattern k)) s)

-- a block before item k, at its first place in s, which begins at place t
unfoldable pub first_of : List ℕ → List ℕ → ℕ → ℕ → Step
first_of p s t k = cond (begins p (drop (until_piece p s) s)) (on_to k (t + until_piece p s + length p)) fails

-- the last block, at the end of s, from place t on
unfoldable pub last_of : List ℕ → List ℕ → ℕ → Step
last_of p s t = cond (ltb (length s - t) (length p)) fails (cond (begins p (drop (length s - length p) s)) holds fails)

-- a step is right of the items from q on at place t or a later one; where it goes on, it has come nearer to the end
unfoldable pub Steps : (ℕ → List ℕ) → List ℕ → List ℕ → ℕ → ℕ → Step → Type 0
Steps bytes pattern s q t holds = after bytes pattern s q t ≡ true
Steps bytes pattern s q t fails = after bytes pattern s q t ≡ false
Steps bytes pattern s q t (on_to k e) =
    (after bytes pattern s q t ≡ after bytes pattern s k e) × (k ≤ length pattern) × (e ≤ length s)
    × (length pattern - k + (length s - e) < length pattern - q + (length s - t))

-- Sets of types and kinds as bits in words, and what is asked of their members; sets remembered at places, one for each text and each type.
use Rattle.std.specs.Prelude.{◌≡◌, Bool, true, false, List, [], ◌∷◌, ℕ, ◌+◌, ◌*◌, ◌/◌, ◌≤◌, ◌<◌, get_or}
use Rattle.words.specs.Bits.{bit, member, added}
use Rattle.words.specs.Log.{part}

-- a sheet has no more types
abbrev pub TYPES : ℕ
TYPES = 128

-- the words of a set of kinds, and of a set of types
abbrev pub KIND_WORDS : ℕ
KIND_WORDS = 1

abbrev pub TYPE_WORDS : ℕ
TYPE_WORDS = 4

-- each member of a set from n on passes test f
pub record From (set : List ℕ) (n : ℕ) (f : ℕ → Bool) : Type 0 where
  pub at : (x : ℕ) → n ≤ x → member set x ≡ true → f x ≡ true

abbrev pub Each : List ℕ → (ℕ → Bool) → Type 0
Each set f = From set 0 f

-- set w, with all numbers of a list for which it has words
unfoldable pub with_all : List ℕ → List ℕ → List ℕ
with_all w [] = w
with_all w (x ∷ l) = with_all (added w x) l

-- y is the first member from n on, or there is none below the number of types
pub record Next (set : List ℕ) (n y : ℕ) : Type 0 where
  pub low : n ≤ y
  pub none : (x : ℕ) → n ≤ x → x < y → member set x ≡ false
  pub here : y < TYPES → member set y ≡ true

-- what is asked of a test
abbrev pub Asked : Type 1
Asked = (ℕ → Bool) → Type 0

-- members have joined set w, which is now v: to ask them is to ask q, and the members of w as before; where the answer is no, no test passes q
pub record Gathered (w v : List ℕ) (q : Asked) (b : Bool) : Type 0 where
  pub asks : b ≡ true → (f : ℕ → Bool) → Each v f → Each w f × q f
  pub joins : b ≡ true → (f : ℕ → Bool) → Each w f → q f → Each v f
  pub fails : b ≡ false → (f : ℕ → Bool) → Each w f → q f → ⊥

-- ---- sets at places

-- the set at place y
abbrev pub set_at : List ℕ → ℕ → List ℕ
set_at sets y = part sets (y * TYPE_WORDS) (y * TYPE_WORDS + TYPE_WORDS)

-- the texts whose steps are remembered; a place for each of them and each type
abbrev pub SLOTS : ℕ
SLOTS = 8

abbrev pub PLACES : ℕ
PLACES = SLOTS * TYPES

-- the places of all record types of a set, for slot s, are seen, if the answer is yes
pub record AllSeen (seen records : List ℕ) (s : ℕ) (b : Bool) : Type 0 where
  pub at : b ≡ true → (y : ℕ) → member records y ≡ true → member seen (s * TYPES + y) ≡ true

-- of the sets that the bits of word x number, from n on
abbrev pub of_word : List ℕ → ℕ → ℕ → Asked
of_word images n x f = (k : ℕ) → k < 32 → bit k x ≡ true → Each (set_at images (n + k)) f

-- of the sets that the members of a set, from number n on, number in slot s
abbrev pub of_sets : List ℕ → ℕ → List ℕ → ℕ → Asked
of_sets images s records n f = (y : ℕ) → n ≤ y → member records y ≡ true → Each (set_at images (s * TYPES + y)) f

-- slot s has text t now; what is seen was seen before, by the same text
pub record Settled (texts seen newTexts newSeen : List ℕ) (t s : ℕ) : Type 0 where
  pub text : get_or newTexts s 0 ≡ t
  pub kept : (p : ℕ) → member newSeen p ≡ true → (member seen p ≡ true) × (get_or newTexts (p / TYPES) 0 ≡ get_or texts (p / TYPES) 0)

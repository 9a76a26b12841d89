-- The numbers of a reading: 0, or 3 to 8, and on a line in number order.
use mathlib.Core.Path.{◌≡◌, refl}
use mathlib.Core.Bool.{Bool, true, false, cond, not}
use mathlib.Core.List.{List, [], ◌∷◌}
use Prim.Native.Nat.{ℕ, zero, suc, ◌<◌, ◌≤◌}
use native.Mathlib.Omega.{arith}
use lib.Dec.{ltb}
use Rattle.sheet.specs.Bytes.{same, split, starts}
use Rattle.sheet.specs.Forms.{Mode, row_of, key_of, refs, NODE, no_key, POLICY, ENTITY}
use Rattle.sheet.specs.State.{State, empty, count, lines_of}
use Rattle.sheet.specs.Typing.{typed}
use Rattle.sheet.specs.Sheet.{in_order, found, depth, used_twice, fault_of, fault, more, reads, enough, first_unused, ending, go_on, reading, read, too_many, first_unlinked, Reading, first_unfit, entities_fit, before_line, line_read}
use Rattle.sheet.specs.Ascii.{ascii}

-- refused for a later reason than m, or not at all
abbrev pub Past : ℕ → ℕ → Type 0
Past m n = (n ≡ 0 → ⊥) → m < n

not_past : {X : Type 0} (m n : ℕ) → n ≤ m → (n ≡ 0 → ⊥) → Past m n → X
not_past m n le z h = let lt = h z in absurd (omega (arith, lt))

-- "on it 3 to 8 in number order": the tests before a refusal were passed, and all of them where there is none
pub record Ordered (s : State) (k : ℕ) (r : List ℕ) (n : ℕ) : Type 0 where
  pub small : n ≤ 8
  pub order : Past 3 n → in_order s k ≡ true
  pub room : Past 4 n → too_many s k r ≡ false
  pub refers : Past 5 n → found s k r ≡ true
  pub shallow : Past 6 n → ltb 64 (depth s k r) ≡ false
  pub types : Past 7 n → typed s r k ≡ true
  pub unused : Past 8 n → used_twice s.used (refs NODE r) ≡ false

pub in_number_order : (s : State) (k : ℕ) (r : List ℕ) → Ordered s k r (fault_of s k r)
in_number_order s k r = go (in_order s k) (too_many s k r) (found s k r) (ltb 64 (depth s k r)) (typed s r k) (used_twice s.used (refs NODE r)) refl refl refl refl refl refl
  where
    stop : {X : Type 0} (m n : ℕ) → suc n ≤ m → Past m (suc n) → X
    stop m n le h = not_past m (suc n) le (λ e. absurd (omega (arith, e))) h

    go : (a b c d e f : Bool) → in_order s k ≡ a → too_many s k r ≡ b → found s k r ≡ c → ltb 64 (depth s k r) ≡ d → typed s r k ≡ e → used_twice s.used (refs NODE r) ≡ f
        → Ordered s k r (cond (not a) 3 (cond b 4 (cond (not c) 5 (cond d 6 (cond (not e) 7 (cond f 8 0))))))
    go false b c d e f p q u v w x = record { small = omega arith; order = λ h. stop 3 2 (omega arith) h; room = λ h. stop 4 2 (omega arith) h; refers = λ h. stop 5 2 (omega arith) h; shallow = λ h. stop 6 2 (omega arith) h; types = λ h. stop 7 2 (omega arith) h; unused = λ h. stop 8 2 (omega arith) h }
    go true true c d e f p q u v w x = record { small = omega arith; order = λ h. p; room = λ h. stop 4 3 (omega arith) h; refers = λ h. stop 5 3 (omega arith) h; shallow = λ h. stop 6 3 (omega arith) h; types = λ h. stop 7 3 (omega arith) h; unused = λ h. stop 8 3 (omega arith) h }
    go true false false d e f p q u v w x = record { small = omega arith; order = λ h. p; room = λ h. q; refers = λ h. stop 5 4 (omega arith) h; shallow = λ h. stop 6 4 (omega arith) h; types = λ h. stop 7 4 (omega arith) h; unused = λ h. stop 8 4 (omega arith) h }
    go true false true true e f p q u v w x = record { small = omega arith; order = λ h. p; room = λ h. q; refers = λ h. u; shallow = λ h. stop 6 5 (omega arith) h; types = λ h. stop 7 5 (omega arith) h; unused = λ h. stop 8 5 (omega arith) h }
    go true false true false false f p q u v w x = record { small = omega arith; order = λ h. p; room = λ h. q; refers = λ h. u; shallow = λ h. v; types = λ h. stop 7 6 (omega arith) h; unused = λ h. stop 8 6 (omega arith) h }
    go true false true false true true p q u v w x = record { small = omega arith; order = λ h. p; room = λ h. q; refers = λ h. u; shallow = λ h. v; types = λ h. w; unused = λ h. stop 8 7 (omega arith) h }
    go true false true false true false p q u v w x = record { small = omega arith; order = λ h. p; room = λ h. q; refers = λ h. u; shallow = λ h. v; types = λ h. w; unused = λ h. x }

fault_small : (s : State) (r : List ℕ) → fault s r ≤ 8
unfolding fault
fault_small s [] = omega arith
fault_small s (t ∷ l) = (in_number_order s (key_of (t ∷ l)) (t ∷ l)).small

ending_small : (s : State) (k : ℕ) → (ending s k).number ≤ 8
ending_small s k = go (enough s no_key) (ltb (first_unlinked s 0 (lines_of s POLICY)) (count s POLICY)) (ltb (first_unused s.used) (count s NODE)) _ _
  where
    go : (a b c : Bool) (n i : ℕ) → (cond a (cond b (reads s 5 i) (cond c (reads s 8 n) (reads s 0 0))) (reads s 3 k)).number ≤ 8
    go true true c n i = omega arith
    go true false true n i = omega arith
    go true false false n i = omega arith
    go false b c n i = omega arith

-- what is asked before a line and at the end: 7, or what follows
pub entities_then : (P : Reading → Type 0) (s : State) (x : Reading) → ((k : ℕ) → P (reads s 7 k)) → P x → P (entities_fit s x)
entities_then P s x seven p = go (ltb (first_unfit s (lines_of s ENTITY)) (count s ENTITY)) _
  where
    go : (b : Bool) (k : ℕ) → P (cond b (reads s 7 k) x)
    go true k = seven k
    go false k = p

pub line_then : (P : Reading → Type 0) (l : List ℕ) (s : State) (x : Reading) → ((k : ℕ) → P (reads s 7 k)) → P x → P (before_line l s x)
line_then P l s x seven p = go (starts (ascii "entity=") l)
  where
    go : (b : Bool) → P (cond b x (entities_fit s x))
    go true = p
    go false = entities_then P s x seven p

abbrev Small : Reading → Type 0
Small x = x.number ≤ 8

reading_small : (m : Mode) (ls : List (List ℕ)) (s : State) (k : ℕ) → (reading m ls s k).number ≤ 8
reading_small m [] s k = entities_then Small s (ending s k) (λ k. omega arith) (ending_small s k)
reading_small m (l ∷ []) s k = line_then Small l s (cond (same l []) (ending s k) (reads s 3 k)) (λ k. omega arith) (go (same l []))
  where
    go : (b : Bool) → (cond b (ending s k) (reads s 3 k)).number ≤ 8
    go true = ending_small s k
    go false = omega arith
reading_small m (l ∷ n ∷ ls) s k = line_then Small l s (line_read s k (row_of m l) (reading m (n ∷ ls))) (λ k. omega arith) (go (fault s (row_of m l)) (fault_small s (row_of m l)) (reading_small m (n ∷ ls) (more s (row_of m l)) (suc k)))
  where
    go : (f : ℕ) → f ≤ 8 → (reading m (n ∷ ls) (more s (row_of m l)) (suc k)).number ≤ 8 → (go_on s k (row_of m l) f (reading m (n ∷ ls))).number ≤ 8
    go zero h ih = ih
    go (suc f) h ih = h

pub read_small : (m : Mode) (sheet : List ℕ) → (read m sheet).number ≤ 8
unfolding read
read_small m sheet = reading_small m (split 10 sheet) empty 1

-- WHERE THE LINES OF A SHEET STAND: on an accepted sheet number i of the lines of key k, from 0, is line suc (before s k + i), from 1.
use mathlib.Core.Path.{◌≡◌, refl, sym, ◌∙◌, ap}
use mathlib.Core.Bool.{true}
use mathlib.Core.List.{List, [], ◌∷◌, ◌++◌, append_assoc, append-nil}
use Prim.Native.Nat.{ℕ, zero, suc, ◌+◌, ◌<◌, ◌≤◌}
use native.Mathlib.Nat.{le_of_suc-le-suc}
use native.Mathlib.Decide.{dec_le}
use native.Mathlib.Omega.{arith}
use borrow.Author.Tests.{leb-false}
use lib.Dec.{eqb}
use lib.ListN.{length, get_or, take, drop, set, length-append, length-set, get_or-append, get_or-eq_default}
use lib.Seq.{get_or-append-add}
use Rattle.cedar.proofs.Tools.{eqb_true}
use Rattle.sheet.specs.Bytes.{split}
use Rattle.sheet.specs.Forms.{Mode, row_of, key_of, no_key}
use Rattle.sheet.specs.State.{State, empty, lines_of, line_at, count, counts, lengths, before, sum}
use Rattle.sheet.specs.Sheet.{all_zero, enough, greatest, fault, more, Reading, reads, ending, go_on, line_read, reading, read}
use Rattle.sheet.proofs.reading.Lines.{and_both, zero_not_suc, passed, ended, entities_passed, line_passed}

-- ---- the lines of a state, key after key

abbrev joined : List (List (List ℕ)) → List (List ℕ)
joined [] = []
joined (l ∷ ls) = l ++ joined ls

no_lines : (ls : List (List (List ℕ))) → all_zero (lengths ls) ≡ true → joined ls ≡ []
no_lines [] e = refl
no_lines ([] ∷ ls) e = no_lines ls e
no_lines ((r ∷ l) ∷ ls) e = and_both (eqb (suc (length l)) 0) (all_zero (lengths ls)) e (λ a b. zero_not_suc (eqb_true (suc (length l)) 0 a))

-- a line of a key after which no key has lines is the last
joined_more : (ls : List (List (List ℕ))) (k : ℕ) (r : List ℕ) → k < length ls → all_zero (drop (suc k) (lengths ls)) ≡ true → joined (set ls k (get_or ls k [] ++ (r ∷ []))) ≡ joined ls ++ (r ∷ [])
joined_more [] k r h e = absurd (omega (arith, h))
joined_more (l ∷ ls) zero r h e =
    ap (λ z. (l ++ (r ∷ [])) ++ z) (no_lines ls e) ∙ append-nil (l ++ (r ∷ [])) ∙ ap (λ z. z ++ (r ∷ [])) (sym (ap (λ z. l ++ z) (no_lines ls e) ∙ append-nil l))
joined_more (l ∷ ls) (suc k) r h e = ap (λ z. l ++ z) (joined_more ls k r (le_of_suc-le-suc h) e) ∙ sym (append_assoc l (joined ls) (r ∷ []))

-- number i of list k stands after the lists before
joined_at : (ls : List (List (List ℕ))) (k i : ℕ) → i < length (get_or ls k []) → get_or (joined ls) (sum (take k (lengths ls)) + i) [] ≡ get_or (get_or ls k []) i []
joined_at [] k i h = absurd (omega (arith, h))
joined_at (l ∷ ls) zero i h = let z : 0 + i ≡ i = omega arith in ap (λ n. get_or (l ++ joined ls) n []) z ∙ get_or-append l (joined ls) [] i h
joined_at (l ∷ ls) (suc k) i h =
    let z : (length l + sum (take k (lengths ls))) + i ≡ length l + (sum (take k (lengths ls)) + i) = omega arith in
    ap (λ n. get_or (l ++ joined ls) n []) z ∙ get_or-append-add l (joined ls) (sum (take k (lengths ls)) + i) [] ∙ joined_at ls k i h

joined_length : (ls : List (List (List ℕ))) → length (joined ls) ≡ sum (lengths ls)
joined_length [] = refl
joined_length (l ∷ ls) = let z = joined_length ls in length-append l (joined ls) ∙ ap (λ n. length l + n) z

-- ---- the rows of the lines in turn

-- of what a sheet splits into at its line ends all but the last is a line
abbrev pub rows : Mode → List (List ℕ) → List (List ℕ)
rows m [] = []
rows m (l ∷ []) = []
rows m (l ∷ n ∷ ls) = row_of m l ∷ rows m (n ∷ ls)

row_at : (m : Mode) (ls : List (List ℕ)) (n : ℕ) → n < length (rows m ls) → get_or (rows m ls) n [] ≡ row_of m (get_or ls n [])
row_at m [] n h = absurd (omega (arith, h))
row_at m (l ∷ []) n h = absurd (omega (arith, h))
row_at m (l ∷ x ∷ ls) zero h = refl
row_at m (l ∷ x ∷ ls) (suc n) h = row_at m (x ∷ ls) n (le_of_suc-le-suc h)

-- a line without fault has one of the keys
its_key : (s : State) (r : List ℕ) → fault s r ≡ 0 → key_of r < no_key
its_key s r e = go (dec_le (suc (key_of r)) no_key)
  where
    go : Dec (suc (key_of r) ≤ no_key) → key_of r < no_key
    go (yes h) = h
    go (no h) =
        let a = leb-false (get_or (greatest s) (key_of r) 0) (count s (key_of r)) (passed s r e).room in
        let b : get_or (greatest s) (key_of r) 0 ≡ 0 = get_or-eq_default (greatest s) 0 {n = key_of r} (omega (arith, h)) in
        absurd (omega (arith, a, b))

joined_line : (s : State) (r : List ℕ) → length s.lines ≡ no_key → fault s r ≡ 0 → joined (more s r).lines ≡ joined s.lines ++ (r ∷ [])
unfolding more
joined_line s r n e = joined_more s.lines (key_of r) r (let h = its_key s r e in omega (arith, h, n)) (and_both (all_zero (drop (suc (key_of r)) (counts s))) (enough s (key_of r)) (passed s r e).order (λ a b. a))

keys_kept : (s : State) (r : List ℕ) → length s.lines ≡ no_key → length (more s r).lines ≡ no_key
unfolding more
keys_kept s r n = length-set s.lines (key_of r) (lines_of s (key_of r) ++ (r ∷ [])) ∙ n

-- a reading without fault adds the rows of its lines in turn
module _ (m : Mode) where
  Adds : State → List (List ℕ) → Reading → Type 0
  Adds s ls x = joined x.state.lines ≡ joined s.lines ++ rows m ls

  adds_none : (s : State) (ls : List (List ℕ)) (x : Reading) → rows m ls ≡ [] → x.state ≡ s → Adds s ls x
  unfolding Adds
  adds_none s ls x e q = ap (λ (t : State). joined t.lines) q ∙ sym (ap (λ z. joined s.lines ++ z) e ∙ append-nil (joined s.lines))

  adds_end : (s : State) (k : ℕ) (ls : List (List ℕ)) → rows m ls ≡ [] → (x : Reading) → x ≡ ending s k → x.number ≡ 0 → Adds s ls x
  adds_end s k ls q x e z = adds_none s ls x q (ap (λ y. y.state) e ∙ (ended s k (sym (ap (λ y. y.number) e) ∙ z)).0)

  adds_line : (s : State) (k : ℕ) (l n : List ℕ) (ls : List (List ℕ)) (f : ℕ) → fault s (row_of m l) ≡ f → length s.lines ≡ no_key
      → ((reading m (n ∷ ls) (more s (row_of m l)) (suc k)).number ≡ 0 → Adds (more s (row_of m l)) (n ∷ ls) (reading m (n ∷ ls) (more s (row_of m l)) (suc k)))
      → (go_on s k (row_of m l) f (reading m (n ∷ ls))).number ≡ 0 → Adds s (l ∷ n ∷ ls) (go_on s k (row_of m l) f (reading m (n ∷ ls)))
  unfolding Adds
  adds_line s k l n ls zero q h next e = next e ∙ ap (λ z. z ++ rows m (n ∷ ls)) (joined_line s (row_of m l) h q) ∙ append_assoc (joined s.lines) (row_of m l ∷ []) (rows m (n ∷ ls))
  adds_line s k l n ls (suc f) q h next e = zero_not_suc e

  adds : (ls : List (List ℕ)) (s : State) (k : ℕ) → length s.lines ≡ no_key → (reading m ls s k).number ≡ 0 → Adds s ls (reading m ls s k)
  unfolding Adds
  adds [] s k h e = adds_end s k [] refl (reading m [] s k) (entities_passed s (ending s k) e).0 e
  adds ([] ∷ []) s k h e = adds_end s k ([] ∷ []) refl (reading m ([] ∷ []) s k) (line_passed [] s (ending s k) e) e
  adds ((x ∷ l) ∷ []) s k h e = zero_not_suc (sym (ap (λ y. y.number) (line_passed (x ∷ l) s (reads s 3 k) e)) ∙ e)
  adds (l ∷ n ∷ ls) s k h e =
      let p = line_passed l s (line_read s k (row_of m l) (reading m (n ∷ ls))) e in
      ap (λ (y : Reading). joined y.state.lines) p
      ∙ adds_line s k l n ls (fault s (row_of m l)) refl h (adds (n ∷ ls) (more s (row_of m l)) (suc k) (keys_kept s (row_of m l) h)) (sym (ap (λ y. y.number) p) ∙ e)

module _ (m : Mode) (sheet : List ℕ) (e : (read m sheet).number ≡ 0) where
  abbrev s : State
  s = (read m sheet).state

  -- the lines of an accepted sheet, as rows, are those of its state, key after key
  in_turn : joined s.lines ≡ rows m (split 10 sheet)
  unfolding read Adds
  in_turn = adds m (split 10 sheet) empty 1 refl e

  -- the lines of all keys together are as many as the sheet's
  pub lines_all : sum (counts s) ≡ length (rows m (split 10 sheet))
  lines_all = sym (joined_length s.lines) ∙ ap length in_turn

  -- LINE suc (before s k + i) OF THE SHEET IS NUMBER i OF KEY k
  pub line_stands : (k i : ℕ) → i < count s k → row_of m (get_or (split 10 sheet) (before s k + i) []) ≡ line_at s k i
  line_stands k i h =
      let a = joined_at s.lines k i h in
      let n = lines_until s.lines k i h in
      sym (row_at m (split 10 sheet) (before s k + i) (let z = lines_all in omega (arith, n, z))) ∙ ap (λ l. get_or l (before s k + i) []) (sym in_turn) ∙ a
    where
      lines_until : (ls : List (List (List ℕ))) (k i : ℕ) → i < length (get_or ls k []) → sum (take k (lengths ls)) + i < sum (lengths ls)
      lines_until [] k i h = absurd (omega (arith, h))
      lines_until (l ∷ ls) zero i h = omega (arith, h)
      lines_until (l ∷ ls) (suc k) i h = let z = lines_until ls k i h in omega (arith, z)

-- What a call leaves in the answer buffer and in the work slices.
use mathlib.Core.Path.{◌≡◌, refl, sym, ◌∙◌, ap, ap₂}
use mathlib.Core.Bool.{Bool, true, false, cond, not, ◌||◌}
use mathlib.Core.List.{List, [], ◌∷◌, ◌++◌}
use Prim.Native.Nat.{ℕ, zero, suc, ◌≤◌}
use native.Mathlib.Omega.{arith}
use borrow.Author.Tests.{eq-eqb, ne_eqb, ltb-false}
use lib.Dec.{ltb}
use lib.ListN.{length, take, drop, replicate, length-append, length-drop, length-replicate}
use lib.Seq.{take-append_seam, drop-append_seam}
use Rattle.cedar.proofs.Tools.{neither}
use Rattle.sheet.specs.Bytes.{same, split}
use Rattle.sheet.specs.Forms.{Mode, row_of, key_of, refs, NODE, no_key, POLICY}
use Rattle.sheet.specs.State.{State, empty, count, lines_of}
use Rattle.sheet.specs.Typing.{typed}
use Rattle.sheet.specs.Sheet.{in_order, found, depth, used_twice, fault, more, reads, enough, first_unused, ending, go_on, reading, read, first_unlinked, too_many, Reading, line_read}
use Rattle.sheet.proofs.reading.Refusals.{entities_then, line_then}
use Rattle.sheet.specs.Answer.{answer}
use Rattle.sheet.specs.Call.{Returned, returns, room, checked_then, fitted, returned, over, written, zeros, worked}
use Rattle.sheet.specs.Demand3.{Answered, bytes_of}
use Rattle.sheet.proofs.reading.Lines.{zero_not_suc}
use Rattle.sheet.proofs.reading.Checked.{lent_by, checked_by}

-- ---- the answer buffer

module _ (m : Mode) (work₁ work₂ : ℕ) (buffer sheet : List ℕ) where
  abbrev back : Returned
  back = returned m work₁ work₂ (length buffer) sheet

  abbrev bytes : List ℕ
  bytes = answer m (read m sheet).state

  -- EVERY REFUSAL LEAVES THE ANSWER BUFFER AS IT WAS
  pub refusal_leaves : (back.number ≡ 0 → ⊥) → written m work₁ work₂ buffer sheet ≡ buffer
  unfolding written
  refusal_leaves f = ap (λ b. cond b (over bytes buffer) buffer) (ne_eqb back.number 0 f)

  -- "0, 0, written | accepted"
  abbrev Whole : Returned → Type 0
  Whole r = (r.line ≡ 0) × (r.length ≡ length bytes) × (length bytes ≤ length buffer)

  abbrev Shows : Returned → Type 0
  Shows r = r.number ≡ 0 → Whole r

  pub accepted_whole : back.number ≡ 0 → Whole back
  unfolding returned
  accepted_whole =
      lent_by Shows work₁ work₂ (checked_then m sheet (fitted (length buffer) (length bytes))) (λ t e. zero_not_suc e)
      (λ t. checked_by Shows m sheet (fitted (length buffer) (length bytes)) (λ e. zero_not_suc e) (λ n q e. zero_not_suc e) (λ h q. fits (ltb (length buffer) (length bytes)) refl))
    where
      fits : (c : Bool) → ltb (length buffer) (length bytes) ≡ c → Shows (cond c (returns 10 0 (length bytes)) (returns 0 0 (length bytes)))
      fits true q e = zero_not_suc e
      fits false q e = (refl, refl, ltb-false (length buffer) (length bytes) q)

  -- an accepted call writes the answer and nothing else
  pub accepted_written : back.number ≡ 0 → written m work₁ work₂ buffer sheet ≡ bytes ++ drop (length bytes) buffer
  unfolding written
  accepted_written e = ap (λ b. cond b (over bytes buffer) buffer) (eq-eqb back.number 0 e)

  pub answer_written : back.number ≡ 0 → take back.length (written m work₁ work₂ buffer sheet) ≡ bytes
  answer_written e = ap₂ take (accepted_whole e).1 (accepted_written e) ∙ take-append_seam bytes (drop (length bytes) buffer)

  -- THE ANSWER BUFFER CHANGES ONLY IN THE BYTES WRITTEN
  pub rest_unchanged : back.number ≡ 0 → drop back.length (written m work₁ work₂ buffer sheet) ≡ drop back.length buffer
  rest_unchanged e = ap₂ drop (accepted_whole e).1 (accepted_written e) ∙ drop-append_seam bytes (drop (length bytes) buffer) ∙ ap (λ n. drop n buffer) (sym (accepted_whole e).1)

  pub length_unchanged : back.number ≡ 0 → length (written m work₁ work₂ buffer sheet) ≡ length buffer
  length_unchanged e = let h = (accepted_whole e).2 in let k = length-drop (length bytes) buffer in ap length (accepted_written e) ∙ length-append bytes (drop (length bytes) buffer) ∙ omega (arith, h, k)

-- the bytes of an answer are the answer
pub bytes_are : {m : Mode} {sheet : List ℕ} (x : Answered m sheet) → bytes_of x ≡ answer m (read m sheet).state
bytes_are {m} {sheet} x = answer_written m x.work₁ x.work₂ x.buffer sheet x.zero_number

-- ---- the work slices: only a short one gives number 1

abbrev Other : ℕ → Type 0
Other n = n ≡ 1 → ⊥

fault_other : (s : State) (r : List ℕ) → Other (fault s r)
unfolding fault
fault_other s [] = λ z. omega (arith, z)
fault_other s (t ∷ l) = go (not (in_order s (key_of (t ∷ l)))) (too_many s (key_of (t ∷ l)) (t ∷ l)) (not (found s (key_of (t ∷ l)) (t ∷ l)))
    (ltb 64 (depth s (key_of (t ∷ l)) (t ∷ l))) (not (typed s (t ∷ l) (key_of (t ∷ l)))) (used_twice s.used (refs NODE (t ∷ l)))
  where
    go : (a b c d e f : Bool) → Other (cond a 3 (cond b 4 (cond c 5 (cond d 6 (cond e 7 (cond f 8 0))))))
    go true b c d e f = λ z. omega (arith, z)
    go false true c d e f = λ z. omega (arith, z)
    go false false true d e f = λ z. omega (arith, z)
    go false false false true e f = λ z. omega (arith, z)
    go false false false false true f = λ z. omega (arith, z)
    go false false false false false true = λ z. omega (arith, z)
    go false false false false false false = λ z. omega (arith, z)

ending_other : (s : State) (k : ℕ) → Other (ending s k).number
ending_other s k = go (enough s no_key) (ltb (first_unlinked s 0 (lines_of s POLICY)) (count s POLICY)) (ltb (first_unused s.used) (count s NODE)) _ _
  where
    go : (a b c : Bool) (n i : ℕ) → Other (cond a (cond b (reads s 5 i) (cond c (reads s 8 n) (reads s 0 0))) (reads s 3 k)).number
    go true true c n i = λ z. omega (arith, z)
    go true false true n i = λ z. omega (arith, z)
    go true false false n i = λ z. omega (arith, z)
    go false b c n i = λ z. omega (arith, z)

abbrev OtherNumber : Reading → Type 0
OtherNumber x = Other x.number

reading_other : (m : Mode) (ls : List (List ℕ)) (s : State) (k : ℕ) → Other (reading m ls s k).number
reading_other m [] s k = entities_then OtherNumber s (ending s k) (λ k z. omega (arith, z)) (ending_other s k)
reading_other m (l ∷ []) s k = line_then OtherNumber l s (cond (same l []) (ending s k) (reads s 3 k)) (λ k z. omega (arith, z)) (go (same l []))
  where
    go : (b : Bool) → Other (cond b (ending s k) (reads s 3 k)).number
    go true = ending_other s k
    go false = λ z. omega (arith, z)
reading_other m (l ∷ n ∷ ls) s k = line_then OtherNumber l s (line_read s k (row_of m l) (reading m (n ∷ ls))) (λ k z. omega (arith, z)) (go (fault s (row_of m l)) (fault_other s (row_of m l)) (reading_other m (n ∷ ls) (more s (row_of m l)) (suc k)))
  where
    go : (f : ℕ) → Other f → Other (reading m (n ∷ ls) (more s (row_of m l)) (suc k)).number → Other (go_on s k (row_of m l) f (reading m (n ∷ ls))).number
    go zero h ih = ih
    go (suc f) h ih = h

read_other : (m : Mode) (sheet : List ℕ) → Other (read m sheet).number
unfolding read
read_other m sheet = reading_other m (split 10 sheet) empty 1

module _ (m : Mode) (work₁ work₂ out : ℕ) (sheet : List ℕ) where
  -- "1, 0, 0 | either lent work slice has under 16,384 u32 words"
  pub short_one : (ltb work₁ room || ltb work₂ room) ≡ true → returned m work₁ work₂ out sheet ≡ returns 1 0 0
  unfolding returned
  short_one e = ap (λ b. cond b (returns 1 0 0) (checked_then m sheet (fitted out (length (answer m (read m sheet).state))))) e

  abbrev Short : Returned → Type 0
  Short r = r.number ≡ 1 → (ltb work₁ room || ltb work₂ room) ≡ true

  pub one_short : (returned m work₁ work₂ out sheet).number ≡ 1 → (ltb work₁ room || ltb work₂ room) ≡ true
  unfolding returned
  one_short =
      lent_by Short work₁ work₂ (checked_then m sheet (fitted out n)) (λ t e. t)
      (λ t. checked_by Short m sheet (fitted out n) (λ e. absurd (omega (arith, e))) (λ i q e. absurd (read_other m sheet (q ∙ e))) (λ h q. fits (ltb out n)))
    where
      n : ℕ
      n = length (answer m (read m sheet).state)

      fits : (c : Bool) → Short (cond c (returns 10 0 n) (returns 0 0 n))
      fits true e = absurd (omega (arith, e))
      fits false e = absurd (omega (arith, e))

or_swap : (p q : Bool) → (p || q) ≡ (q || p)
or_swap true true = refl
or_swap true false = refl
or_swap false true = refl
or_swap false false = refl

not_or : (b : Bool) → (b ≡ true → ⊥) → b ≡ false
not_or true f = absurd (f refl)
not_or false f = refl

module _ (m : Mode) (w₁ w₂ : List ℕ) (out : ℕ) (sheet : List ℕ) where
  abbrev number : ℕ
  number = (returned m (length w₁) (length w₂) out sheet).number

  -- AFTER 1 THE WORK SLICES ARE UNTOUCHED
  pub untouched : number ≡ 1 → (worked w₁ (length w₂) ≡ w₁) × (worked w₂ (length w₁) ≡ w₂)
  unfolding worked
  untouched e = let q = one_short m (length w₁) (length w₂) out sheet e in
      (ap (λ b. cond b w₁ (zeros room w₁)) q, ap (λ b. cond b w₂ (zeros room w₂)) (or_swap (ltb (length w₂) room) (ltb (length w₁) room) ∙ q))

  -- OTHERWISE THEIR FIRST 16,384 WORDS ARE 0 AND THE REST UNTOUCHED
  pub zeroed : (number ≡ 1 → ⊥) → (worked w₁ (length w₂) ≡ replicate 16384 0 ++ drop 16384 w₁) × (worked w₂ (length w₁) ≡ replicate 16384 0 ++ drop 16384 w₂)
  unfolding worked
  zeroed f = let q : (ltb (length w₁) room || ltb (length w₂) room) ≡ false = not_or _ (λ t. f (ap (λ r. r.number) (short_one m (length w₁) (length w₂) out sheet t))) in
      (ap (λ b. cond b w₁ (zeros room w₁)) q, ap (λ b. cond b w₂ (zeros room w₂)) (or_swap (ltb (length w₂) room) (ltb (length w₁) room) ∙ q))

  pub lengths_kept : (number ≡ 1 → ⊥) → (length (worked w₁ (length w₂)) ≡ length w₁) × (length (worked w₂ (length w₁)) ≡ length w₂)
  lengths_kept f = let (p, q) = zeroed f in
      let t : (ltb (length w₁) room || ltb (length w₂) room) ≡ false = not_or _ (λ t. f (ap (λ r. r.number) (short_one m (length w₁) (length w₂) out sheet t))) in
      let (a, b) = neither (ltb (length w₁) room) (ltb (length w₂) room) t in
      (whole w₁ (ltb-false (length w₁) room a) (worked w₁ (length w₂)) p, whole w₂ (ltb-false (length w₂) room b) (worked w₂ (length w₁)) q)
    where
      whole : (w : List ℕ) → 16384 ≤ length w → (v : List ℕ) → v ≡ replicate 16384 0 ++ drop 16384 w → length v ≡ length w
      whole w h v e = let k = length-drop 16384 w in let z = length-replicate {A = ℕ} 16384 0 in ap length e ∙ length-append (replicate 16384 0) (drop 16384 w) ∙ omega (arith, h, k, z)

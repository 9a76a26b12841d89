-- References to lines, as the code looks for them. Assumes nothing.
use mathlib.Core.Path.{◌≡◌, refl, sym, ap, subst, ◌∙◌}
use mathlib.Core.Bool.{Bool, true, false, cond, not, ◌&&◌, ◌||◌}
use mathlib.Core.List.{List, [], ◌∷◌}
use mathlib.Core.Logic.{◌⊎◌, inl, inr}
use Prim.Native.String.{String}
use Rattle.sheet.specs.Ascii.{ascii}
use Prim.Native.Nat.{ℕ, suc, ◌+◌, ◌%◌, ◌≤◌, ◌<◌}
use native.Mathlib.Numerals.{add-one}
use native.Mathlib.Omega.{arith}
use borrow.Author.Tests.{lt-ltb, le-ltb, not-true, not-false}
use lib.Dec.{eqb}
use lib.ListN.{length, get_or, drop, length-drop, drop_of_length-le}
use lib.Seq.{drop-cons, get_or-drop}
use Rattle.sheet.specs.Bytes.{same}
use Rattle.sheet.specs.Forms.{Slot, entry, line, line_or, line_unknown, word, number, day, nothing, dash, slot_at, tag, items, mark, POLICY}
use Rattle.sheet.specs.State.{count}
use Rattle.sheet.specs.Sheet.{there_is, all_there}
use Rattle.table.specs.Layout.{held}
use Rattle.table.proofs.Rows.{count_held}
use Rattle.forms.specs.Rows.{KIND_LETTER, FIELD_LETTER, BIT, PART_LETTER, EFFECT, SLOT_LETTER, LINE, UNKNOWN, DASH, STAR, word_code, code as code_of}
use Rattle.depths.specs.Codes.{key_in}
use Rattle.depths.specs.Depths.{ThereAs}

-- ---- what an item refers to

word_low : (w : String) (ws : List String) → word_code w ws ≤ SLOT_LETTER
word_low w ws = go (same (ascii w) (ascii "e")) (same (ascii w) (ascii "o")) (same (ascii w) (ascii "0")) (same (ascii w) (ascii "p")) (eqb (length ws) 1)
  where
    go : (a b c d e : Bool) → cond a KIND_LETTER (cond b FIELD_LETTER (cond c BIT (cond d (cond e SLOT_LETTER PART_LETTER) EFFECT))) ≤ SLOT_LETTER
    go true b c d e = omega arith
    go false true c d e = omega arith
    go false false true d e = omega arith
    go false false false true true = omega arith
    go false false false true false = omega arith
    go false false false false e = omega arith

pub words_low : (ws : List String) → code_of (word ws) ≤ SLOT_LETTER
unfolding code_of
words_low [] = omega arith
words_low (w ∷ ws) = word_low w ws

-- a line of key k, or a mark, has the number of a mark and k
pub marks_high : (b k : ℕ) → (code_of (line_or b k) ≡ DASH + k) ⊎ (code_of (line_or b k) ≡ STAR + k)
unfolding code_of
marks_high b k = go (eqb b dash)
  where
    go : (y : Bool) → (cond y DASH STAR + k ≡ DASH + k) ⊎ (cond y DASH STAR + k ≡ STAR + k)
    go true = inl refl
    go false = inr refl

key_mark : (b k : ℕ) → k ≤ POLICY → code_of (line_or b k) % LINE ≡ k
key_mark b k h = go (marks_high b k)
  where
    go : (code_of (line_or b k) ≡ DASH + k) ⊎ (code_of (line_or b k) ≡ STAR + k) → code_of (line_or b k) % LINE ≡ k
    go (inl e) = omega (arith, e)
    go (inr e) = omega (arith, e)

pub mark_high : (b k : ℕ) → DASH ≤ code_of (line_or b k)
mark_high b k = go (marks_high b k)
  where
    go : (code_of (line_or b k) ≡ DASH + k) ⊎ (code_of (line_or b k) ≡ STAR + k) → DASH ≤ code_of (line_or b k)
    go (inl e) = omega (arith, e)
    go (inr e) = omega (arith, e)

or_true : (x : Bool) → (x || true) ≡ true
or_true true = refl
or_true false = refl

pub or_false : (x : Bool) → (x || false) ≡ x
or_false true = refl
or_false false = refl

module _ (a : List ℕ) (x : ℕ) where
  there_none : (s : Slot) → code_of s < LINE → true ≡ there_is (held [] a []) s x
  unfolding code_of
  there_none entry e = refl
  there_none (line k) e = absurd (omega arith)
  there_none (line_or b k) e = absurd (omega (arith, mark_high b k))
  there_none (line_unknown k) e = absurd (omega arith)
  there_none (word ws) e = refl
  there_none number e = refl
  there_none day e = refl
  there_none nothing e = refl

  counted : (n k m : ℕ) → k ≤ POLICY → n ≡ get_or a m 0 → m ≡ k → n ≡ count (held [] a []) k
  counted n k m l e q = e ∙ ap (λ (i : ℕ). get_or a i 0) q ∙ sym (count_held [] a [] k (omega arith))

  there_in : (s : Slot) (n : ℕ) → LINE ≤ code_of s → key_in s ≤ POLICY → n ≡ get_or a (code_of s % LINE) 0 → x < n → true ≡ there_is (held [] a []) s x
  unfolding code_of key_in
  there_in entry n z l e h = absurd (omega arith)
  there_in (line k) n z l e h = sym (rw (← counted n k ((LINE + k) % LINE) l e (omega arith)) (lt-ltb x n h))
  there_in (line_or b k) n z l e h = sym (rw (← counted n k (code_of (line_or b k) % LINE) l e (key_mark b k l), lt-ltb x n h) (or_true (eqb x mark)))
  there_in (line_unknown k) n z l e h = sym (rw (← counted n k ((UNKNOWN + k) % LINE) l e (omega arith), lt-ltb x n h) (or_true (eqb x mark)))
  there_in (word ws) n z l e h = absurd (omega (arith, words_low ws))
  there_in number n z l e h = absurd (omega arith)
  there_in day n z l e h = absurd (omega arith)
  there_in nothing n z l e h = absurd (omega arith)

  there_out : (s : Slot) (n : ℕ) → LINE ≤ code_of s → key_in s ≤ POLICY → n ≡ get_or a (code_of s % LINE) 0 → n ≤ x → code_of s < UNKNOWN → false ≡ there_is (held [] a []) s x
  unfolding code_of key_in
  there_out entry n z l e h o = absurd (omega arith)
  there_out (line k) n z l e h o = sym (rw (← counted n k ((LINE + k) % LINE) l e (omega arith)) (le-ltb x n h))
  there_out (line_or b k) n z l e h o = absurd (omega (arith, mark_high b k))
  there_out (line_unknown k) n z l e h o = absurd (omega arith)
  there_out (word ws) n z l e h o = absurd (omega (arith, words_low ws))
  there_out number n z l e h o = absurd (omega arith)
  there_out day n z l e h o = absurd (omega arith)
  there_out nothing n z l e h o = absurd (omega arith)

  there_mark : (s : Slot) (n : ℕ) → UNKNOWN ≤ code_of s → key_in s ≤ POLICY → n ≡ get_or a (code_of s % LINE) 0 → n ≤ x → eqb x mark ≡ there_is (held [] a []) s x
  unfolding code_of key_in
  there_mark entry n z l e h = absurd (omega arith)
  there_mark (line k) n z l e h = absurd (omega arith)
  there_mark (line_or b k) n z l e h = sym (rw (← counted n k (code_of (line_or b k) % LINE) l e (key_mark b k l), le-ltb x n h) (or_false (eqb x mark)))
  there_mark (line_unknown k) n z l e h = sym (rw (← counted n k ((UNKNOWN + k) % LINE) l e (omega arith), le-ltb x n h) (or_false (eqb x mark)))
  there_mark (word ws) n z l e h = absurd (omega (arith, words_low ws))
  there_mark number n z l e h = absurd (omega arith)
  there_mark day n z l e h = absurd (omega arith)
  there_mark nothing n z l e h = absurd (omega arith)

module _ (a : List ℕ) (c x : ℕ) where
  pub ref_none : c < LINE → ThereAs a c x true
  ref_none z = record { is = λ s hc. there_none a x s (omega (arith, hc.0)) }

  module _ (n : ℕ) (z : LINE ≤ c) (e : n ≡ get_or a (c % LINE) 0) where
    count_code : (s : Slot) → c ≡ code_of s → n ≡ get_or a (code_of s % LINE) 0
    count_code s h = e ∙ ap (λ (y : ℕ). get_or a (y % LINE) 0) h

    pub ref_in : x < n → ThereAs a c x true
    ref_in h = record { is = λ s hc. there_in a x s n (omega (arith, hc.0)) hc.1 (count_code s hc.0) h }

    pub ref_out : n ≤ x → c < UNKNOWN → ThereAs a c x false
    ref_out h o = record { is = λ s hc. there_out a x s n (omega (arith, hc.0)) hc.1 (count_code s hc.0) h (omega (arith, hc.0)) }

    pub ref_mark : n ≤ x → UNKNOWN ≤ c → ThereAs a c x (eqb x mark)
    ref_mark h o = record { is = λ s hc. there_mark a x s n (omega (arith, hc.0)) hc.1 (count_code s hc.0) h }

-- ---- a row's items in turn

-- item j of a row
pub item_at : (r : List ℕ) (j x : ℕ) → j + 1 < length r → x ≡ get_or r (j + 1) 0 → drop (suc j) r ≡ x ∷ drop (suc (suc j)) r
item_at r j x h e =
    let p : j + 1 ≡ suc j = omega arith in
    drop-cons r (suc j) 0 (omega arith) ∙ ap (λ (y : ℕ). y ∷ drop (suc (suc j)) r) (sym (e ∙ ap (λ (i : ℕ). get_or r i 0) p))

-- the same among its items
pub item_in : (r : List ℕ) (j x : ℕ) → j < length (items r) → x ≡ get_or (items r) j 0 → (j + 1 < length r) × (x ≡ get_or r (j + 1) 0)
item_in r j x h e = let q : 1 + j ≡ j + 1 = omega arith in (omega (arith, length-drop 1 r), e ∙ get_or-drop 1 r j 0 ∙ ap (λ (i : ℕ). get_or r i 0) q)

pub items_end : (r : List ℕ) (j : ℕ) → length r ≤ j + 1 → drop (suc j) r ≡ []
items_end r j h = drop_of_length-le r {i = suc j} (omega arith)

pub record There (a r : List ℕ) (j : ℕ) : Type 0 where
  pub left : all_there (held [] a []) (tag r) 0 (items r) ≡ all_there (held [] a []) (tag r) j (drop (suc j) r)
  pub near : j ≤ length r

pub there_start : (a r : List ℕ) → There a r 0
there_start a r = record { left = refl; near = omega arith }

module _ (a r : List ℕ) (j : ℕ) (i : There a r j) where
  module _ (t x : ℕ) (b : Bool) (ht : t ≡ tag r) (h : j + 1 < length r) (hx : x ≡ get_or r (j + 1) 0) (hb : b ≡ there_is (held [] a []) (slot_at t j) x) where
    there_at : all_there (held [] a []) (tag r) 0 (items r) ≡ (b && all_there (held [] a []) (tag r) (suc j) (drop (suc (suc j)) r))
    there_at = i.left ∙ ap (all_there (held [] a []) (tag r) j) (item_at r j x h hx)
        ∙ ap (λ (y : Bool). y && all_there (held [] a []) (tag r) (suc j) (drop (suc (suc j)) r)) (ap (λ (y : ℕ). there_is (held [] a []) (slot_at y j) x) (sym ht) ∙ sym hb)

    pub there_off : not b ≡ true → false ≡ all_there (held [] a []) (tag r) 0 (items r)
    there_off n = sym (there_at ∙ rw (not-true b n) refl)

    pub there_on : not b ≡ false → There a r (j + 1)
    there_on n = subst (There a r) (sym (add-one j)) (record { left = there_at ∙ rw (not-false b n) refl; near = omega arith })

  pub there_end : length r ≤ j + 1 → true ≡ all_there (held [] a []) (tag r) 0 (items r)
  there_end h = sym (i.left ∙ ap (all_there (held [] a []) (tag r) j) (items_end r j h))

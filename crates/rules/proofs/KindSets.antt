-- A set of the kinds of a row, made by one walk, and the pairs of kinds that it decides by another.
use mathlib.Core.Path.{◌≡◌, refl, sym, ap, ◌∙◌}
use mathlib.Core.Bool.{Bool, true, false, ◌||◌}
use mathlib.Core.List.{List, [], ◌∷◌}
use mathlib.Core.Logic.{◌⊎◌, inl, inr}
use Prim.Native.Nat.{ℕ, suc, ◌+◌, ◌/◌, ◌≤◌, ◌<◌}
use native.Mathlib.Numerals.{add-one}
use native.Mathlib.Omega.{arith}
use borrow.Author.Tests.{eq-eqb}
use lib.Dec.{eqb}
use lib.ListN.{length, get_or, drop, replicate, drop_of_length-le}
use lib.Seq.{drop-drop, drop-cons}
use Rattle.cedar.specs.Types.{among, some_kind}
use Rattle.cedar.specs.Numbered.{mem_n}
use Rattle.cedar.proofs.Tools.{eqb_true, either, or_left, or_right, iff}
use Rattle.sheet.specs.Forms.{SHAPE}
use Rattle.sheet.specs.Content.{schema}
use Rattle.words.specs.Bits.{member, added}
use Rattle.words.proofs.Bits.{added_is, length_added}
use Rattle.table.specs.Layout.{rows_of, held, lines_held}
use Rattle.fits.specs.Fit.{kinds_in, kind_in}
use Rattle.typerows.specs.Types.{above_at}
use Rattle.typesets.proofs.Members.{member_zeros}
use Rattle.typesets.specs.Sets.{KIND_WORDS}
use Rattle.rules.specs.Rules.{KINDS, KindSet, schema_at, pair_with}

-- ---- the set

member_added : (w : List ℕ) (p k : ℕ) → k / 32 < length w → member (added w p) k ≡ (member w k || eqb k p)
member_added w p k l = iff (member (added w p) k) (member w k || eqb k p) (λ e. to ((added_is w p).joined k e)) (λ e. either (member w k) (eqb k p) e ((added_is w p).kept k) (λ i. new (eqb_true k p i)))
  where
    to : (member w k ≡ true) ⊎ (k ≡ p) → (member w k || eqb k p) ≡ true
    to (inl m) = or_left (member w k) (eqb k p) m
    to (inr e) = or_right (member w k) (eqb k p) (eq-eqb k p e)

    new : k ≡ p → member (added w p) k ≡ true
    new e = rw e ((added_is w p).here (rw (← e) l))

or_assoc : (p q r : Bool) → ((p || q) || r) ≡ (p || (q || r))
or_assoc true q r = refl
or_assoc false q r = refl

or_end : (p : Bool) → (p || false) ≡ p
or_end true = refl
or_end false = refl

-- what set w has, and what is left of row q's kinds l from kind i on
pub record Adding (q l w : List ℕ) (i : ℕ) : Type 0 where
  pub left : (k : ℕ) → k < KINDS → kind_in q k ≡ (member w k || mem_n k (drop i l))
  pub long : length w ≡ KIND_WORDS

pub adding_start : (q l w : List ℕ) → l ≡ kinds_in q → w ≡ replicate KIND_WORDS 0 → Adding q l w 0
unfolding kind_in
adding_start q l w el e = record { left = λ k h. rw (e, member_zeros KIND_WORDS k, el) refl; long = rw e refl }

module _ (q l w : List ℕ) (i : ℕ) (g : Adding q l w i) where
  pub adding_on : (v : List ℕ) → i < length l → v ≡ added w (get_or l i 0) → Adding q l v (i + 1)
  adding_on v h ev = record {
    left = λ k n. g.left k n ∙ rw (add-one i, drop-cons l i 0 h, ev, member_added w (get_or l i 0) k (let z = g.long in omega (arith, z))) (sym (or_assoc (member w k) (eqb k (get_or l i 0)) (mem_n k (drop (suc i) l))));
    long = rw ev (length_added w (get_or l i 0) ∙ g.long);
  }

  pub adding_over : length l ≤ i → KindSet q w
  adding_over h = record { is = λ k n. sym (g.left k n ∙ rw (drop_of_length-le l h) (or_end (member w k))) }

pub kind_is : (q w : List ℕ) (k : ℕ) (b : Bool) → KindSet q w → k < KINDS → b ≡ member w k → b ≡ kind_in q k
kind_is q w k b s l e = e ∙ s.is k l

-- ---- pairs

or_four : (p q r s : Bool) → ((p || q) || (r || s)) ≡ ((p || r) || (q || s))
or_four true q r s = refl
or_four false true true s = refl
or_four false true false s = refl
or_four false false r s = refl

eqb_swap : (m n : ℕ) → eqb m n ≡ eqb n m
eqb_swap m n = iff (eqb m n) (eqb n m) (λ e. eq-eqb n m (sym (eqb_true m n e))) (λ e. eq-eqb m n (sym (eqb_true n m e)))

some_none : (ks : List ℕ) → some_kind (λ k. false) ks ≡ false
some_none [] = refl
some_none (k ∷ ks) = some_none ks

some_either : (f : ℕ → Bool) (l : ℕ) (ks : List ℕ) → (among l ks || some_kind f ks) ≡ some_kind (λ k. eqb k l || f k) ks
some_either f l [] = refl
some_either f l (k ∷ ks) = or_four (eqb l k) (among l ks) (f k) (some_kind f ks) ∙ rw (eqb_swap l k, some_either f l ks) refl

-- of kind k or of one above it, whether it is among `ls`
pairs_by_law : (k : ℕ) (above ls : List ℕ) → some_kind (λ l. eqb k l || among l above) ls ≡ (mem_n k ls || some_kind (λ m. mem_n m ls) above)
pairs_by_law k above [] = sym (some_none above)
pairs_by_law k above (l ∷ ls) =
    ap (λ (b : Bool). (eqb k l || among l above) || b) (pairs_by_law k above ls)
    ∙ or_four (eqb k l) (among l above) (mem_n k ls) (some_kind (λ m. mem_n m ls) above)
    ∙ ap (λ (b : Bool). (eqb k l || mem_n k ls) || b) (some_either (λ m. mem_n m ls) l above)

module _ (a q : List ℕ) (k : ℕ) where
  abbrev shape_line : List ℕ
  shape_line = get_or (rows_of a SHAPE) k []

  pair_by : pair_with a q k ≡ (kind_in q k || some_kind (kind_in q) (drop 3 shape_line))
  unfolding pair_with kind_in schema_at schema held lines_held
  pair_by = pairs_by_law k (drop 2 (drop 1 shape_line)) (kinds_in q) ∙ ap (λ (l : List ℕ). mem_n k (kinds_in q) || some_kind (λ m. mem_n m (kinds_in q)) l) (drop-drop 2 1 shape_line)

  pub pair_own : (b : Bool) → b ≡ kind_in q k → b ≡ true → b ≡ pair_with a q k
  pair_own b eb h = h ∙ sym (pair_by ∙ rw (← eb, h))

  pub pair_above : (b c : Bool) → b ≡ kind_in q k → b ≡ false → c ≡ some_kind (kind_in q) (above_at a k) → c ≡ pair_with a q k
  pair_above b c eb h ec = ec ∙ sym (pair_by ∙ rw (← eb, h))

-- The laws of the functions that carry values over, one for each way. Assumes nothing.
use mathlib.Core.Path.{◌≡◌, refl, sym, ap, ap₂, ◌∙◌}
use mathlib.Core.List.{List, [], ◌∷◌}
use Prim.Native.Nat.{ℕ, zero, suc, ◌+◌, ◌-◌, ◌/◌, ◌≤◌, ◌<◌}
use native.Mathlib.Omega.{arith}
use native.Mathlib.Numerals.{add-one}
use borrow.Author.Tests.{lt-ltb, le-ltb, eq-eqb, ne_eqb}
use lib.ListN.{length, get_or, take, drop, set}
use Rattle.std.specs.Simd.{first_chunks}
use Rattle.words.specs.Log.{part, Room, Holds, Appended, appended, pushed}
use Rattle.words.proofs.Logs.{append_holds, append_room}
use Rattle.sheet.specs.Forms.{tag, VALUE}
use Rattle.forms.specs.Tags.{SET_VALUE, RECORD_VALUE}
use Rattle.table.specs.Layout.{rows_of, MADE}
use Rattle.table.proofs.Rows.{count_rows}
use Rattle.residual.specs.Rows.{lit_row}
use Rattle.value.specs.Made.{Made, MadeBeside, set_row, written, number_of, with_value}
use Rattle.value.proofs.Lists.{uncons, spent}
use Rattle.carried.specs.Carry.{number_there, member_rows, fields_onto, field_words, row_there, There, carried_from, carried_of, Carried}

-- ---- a number there

pub there_given : (g : ℕ) (ns : List ℕ) (v : ℕ) → v < g → v ≡ number_there g ns v
unfolding number_there
there_given g ns v h = rw (lt-ltb v g h)

pub there_made : (g : ℕ) (ns : List ℕ) (v x : ℕ) → g ≤ v → x ≡ get_or ns (v - g) 0 → x ≡ number_there g ns v
unfolding number_there
there_made g ns v x h e = rw (le-ltb v g h) e

-- ---- the members of a set

-- of the members of a row those from number i on are still to be pushed
pub record Members (list : List ℕ) (f : ℕ → ℕ) (b : List ℕ) (end i : ℕ) : Type 0 where
  pub room : Room b end
  pub left : member_rows f (drop i list) (take end b) ≡ member_rows f list []

pub members_start : (list : List ℕ) (f : ℕ → ℕ) (b : List ℕ) → 16384 ≤ length b → Members list f b 0 0
members_start list f b h = record { room = record { low = omega arith; long = h }; left = refl }

module _ (list : List ℕ) (f : ℕ → ℕ) (b : List ℕ) (end i : ℕ) (m : Members list f b end i) where
  pub members_more : (x : ℕ) (b₁ : List ℕ) (e : ℕ) → i < length list → x ≡ f (get_or list i 0) → Appended b end (lit_row x 0) b₁ e → Members list f b₁ e (i + 1)
  unfolding member_rows
  members_more x b₁ e h ex p = record {
    room = append_room m.room p;
    left =
        ap (member_rows f (drop (i + 1) list)) ((append_holds m.room p).is ∙ ap (λ (y : ℕ). appended (take end b) (lit_row y 0)) ex)
        ∙ sym (ap (λ (l : List ℕ). member_rows f l (take end b)) (uncons list 0 i h)) ∙ m.left;
  }

  pub members_end : length list ≤ i → (line : List ℕ) → list ≡ drop 1 line → Holds 0 b end (member_rows f (drop 1 line) [])
  unfolding member_rows
  members_end h line e = record {
    is = sym (ap (λ (l : List ℕ). member_rows f l (take end b)) (spent list i h)) ∙ m.left ∙ ap (λ (l : List ℕ). member_rows f l []) e;
    low = m.room.low;
    grows = omega arith;
  }

-- ---- the fields of a record

-- the same of pairs of a text and a value
abbrev pub pairs_onto : (ℕ → ℕ) → List (List ℕ) → List ℕ → List ℕ
pairs_onto f [] l = l
pairs_onto f (q ∷ s) l = pairs_onto f s (pushed (pushed l (get_or q 0 0)) (f (get_or q 1 0)))

pairs_are : (f : ℕ → ℕ) (n : ℕ) (xs l : List ℕ) → n ≡ length xs / 2 → pairs_onto f (first_chunks 2 n xs) l ≡ fields_onto f xs l
unfolding fields_onto
pairs_are f n [] l e = let z : n ≡ 0 = omega arith in rw z
pairs_are f n (t ∷ []) l e = let z : n ≡ 0 = omega arith in rw z
pairs_are f zero (t ∷ v ∷ xs) l e = absurd (omega arith)
pairs_are f (suc n) (t ∷ v ∷ xs) l e = pairs_are f n xs (pushed (pushed l t) (f v)) (omega arith)

pub record Fields (s : List (List ℕ)) (f : ℕ → ℕ) (b : List ℕ) (end i : ℕ) : Type 0 where
  pub room : Room b end
  pub left : pairs_onto f (drop i s) (take end b) ≡ pairs_onto f s (pushed [] RECORD_VALUE)

pub fields_start : (s : List (List ℕ)) (f : ℕ → ℕ) (b b₁ : List ℕ) (e : ℕ) → 16384 ≤ length b → Appended b 0 (RECORD_VALUE ∷ []) b₁ e → Fields s f b₁ e 0
fields_start s f b b₁ e h p =
    let room : Room b 0 = record { low = omega arith; long = h } in
    record { room = append_room room p; left = ap (pairs_onto f s) (append_holds room p).is }

module _ (s : List (List ℕ)) (f : ℕ → ℕ) (b : List ℕ) (end i : ℕ) (m : Fields s f b end i) where
  pub fields_more : (d : List ℕ) → i < length s → (b₁ b₂ : List ℕ) (e e₂ v : ℕ) → Appended b end (get_or (get_or s i d) 0 0 ∷ []) b₁ e → v ≡ f (get_or (get_or s i d) 1 0) → Appended b₁ e (v ∷ []) b₂ e₂ → Fields s f b₂ e₂ (i + 1)
  fields_more d h b₁ b₂ e e₂ v p ev q =
      let room₁ = append_room m.room p in
      record {
        room = append_room room₁ q;
        left =
            ap (pairs_onto f (drop (i + 1) s)) ((append_holds room₁ q).is ∙ ap₂ pushed (append_holds m.room p).is ev)
            ∙ sym (ap (λ (l : List (List ℕ)). pairs_onto f l (take end b)) (uncons s d i h)) ∙ m.left;
      }

  pub fields_end : length s ≤ i → (line xs : List ℕ) → s ≡ first_chunks 2 (length xs / 2) xs → xs ≡ drop 1 line → Holds 0 b end (field_words f (drop 1 line))
  unfolding field_words
  fields_end h line xs es ex = record {
    is = sym (ap (λ (l : List (List ℕ)). pairs_onto f l (take end b)) (spent s i h)) ∙ m.left ∙ ap (λ (l : List (List ℕ)). pairs_onto f l (pushed [] RECORD_VALUE)) es
        ∙ pairs_are f (length xs / 2) xs (pushed [] RECORD_VALUE) refl ∙ ap (λ (l : List ℕ). fields_onto f l (pushed [] RECORD_VALUE)) ex;
    low = m.room.low;
    grows = omega arith;
  }

-- ---- one value

from_front : (b : List ℕ) (e : ℕ) → part b 0 e ≡ take e b
from_front b e = let z : e - 0 ≡ e = omega arith in ap (λ (n : ℕ). take n b) z

module _ (a a₁ line : List ℕ) (f : ℕ → ℕ) (t v : ℕ) (et : t ≡ tag line) where
  pub one_set : (b₁ b₂ : List ℕ) (e : ℕ) → t ≡ SET_VALUE → Holds 0 b₁ e (member_rows f (drop 1 line) []) → MadeBeside a a₁ v e b₁ b₂ (set_row (part b₁ 0 e)) → Made a (row_there f line) a₁ v
  unfolding row_there
  one_set b₁ b₂ e z h m =
      let q : written (take e b₁) (set_row (part b₁ 0 e)) ≡ written (member_rows f (drop 1 line) []) (set_row (member_rows f (drop 1 line) [])) =
      ap₂ (λ (x y : List ℕ). written x (set_row y)) h.is (from_front b₁ e ∙ h.is) in
      rw (eq-eqb (tag line) SET_VALUE (sym et ∙ z), ← q) m.made

  pub one_record : (b₁ q : List ℕ) (e : ℕ) → t ≡ RECORD_VALUE → Holds 0 b₁ e (field_words f (drop 1 line)) → q ≡ part b₁ 0 e → Made a q a₁ v → Made a (row_there f line) a₁ v
  unfolding row_there
  one_record b₁ q e z h eq m =
      let w : tag line ≡ RECORD_VALUE = sym et ∙ z in
      rw (w, ← h.is, ← from_front b₁ e, ← eq) m

  pub one_other : (t ≡ SET_VALUE → ⊥) → (t ≡ RECORD_VALUE → ⊥) → Made a line a₁ v → Made a (row_there f line) a₁ v
  unfolding row_there
  one_other n₁ n₂ m = rw (ne_eqb (tag line) SET_VALUE (λ z. n₁ (et ∙ z)), ne_eqb (tag line) RECORD_VALUE (λ z. n₂ (et ∙ z))) m

-- ---- all of them

-- those from number i on are still to be carried
pub record Carrying (kept a₀ ns₀ a ns : List ℕ) (g i : ℕ) : Type 0 where
  pub near : i ≤ length (rows_of kept MADE)
  pub left : carried_from g (drop i (rows_of kept MADE)) i a ns ≡ carried_of kept a₀ ns₀

pub carry_start : (kept a ns : List ℕ) (g : ℕ) → g ≡ get_or kept VALUE 0 → Carrying kept a ns a ns g 0
unfolding carried_of
carry_start kept a ns g e = record { near = omega arith; left = ap (λ (x : ℕ). carried_from x (rows_of kept MADE) 0 a ns) e }

module _ (kept a₀ ns₀ a ns : List ℕ) (g i most : ℕ) (k : Carrying kept a₀ ns₀ a ns g i) (em : most ≡ get_or kept MADE 0) where
  many : most ≡ length (rows_of kept MADE)
  many = em ∙ sym (count_rows kept MADE)

  pub carry_more : (r a₁ ns₁ : List ℕ) (v : ℕ) → i < most → r ≡ get_or (rows_of kept MADE) i [] → Made a (row_there (number_there g ns) r) a₁ v → ns₁ ≡ set ns i v → Carrying kept a₀ ns₀ a₁ ns₁ g (i + 1)
  unfolding carried_from
  carry_more r a₁ ns₁ v h er m en = record {
    near = omega (arith, h, many);
    left =
        let q : List ℕ = row_there (number_there g ns) r in
        let step : carried_from g (drop i (rows_of kept MADE)) i a ns ≡ carried_from g (drop (i + 1) (rows_of kept MADE)) (suc i) (with_value a q) (set ns i (number_of a q)) =
        ap (λ (l : List (List ℕ)). carried_from g l i a ns) (uncons (rows_of kept MADE) [] i (omega (arith, h, many)))
        ∙ ap (λ (x : List ℕ). carried_from g (x ∷ drop (i + 1) (rows_of kept MADE)) i a ns) (sym er) in
        ap (λ (j : ℕ). carried_from g (drop (i + 1) (rows_of kept MADE)) j a₁ ns₁) (add-one i)
        ∙ ap₂ (carried_from g (drop (i + 1) (rows_of kept MADE)) (suc i)) m.words (en ∙ ap (set ns i) m.number)
        ∙ sym step ∙ k.left;
  }

  pub carry_end : most ≤ i → Carried (carried_of kept a₀ ns₀) a ns
  unfolding carried_from
  carry_end h =
      let e : carried_of kept a₀ ns₀ ≡ record { words = a; numbers = ns } = sym k.left ∙ ap (λ (l : List (List ℕ)). carried_from g l i a ns) (spent (rows_of kept MADE) i (omega (arith, h, many))) in
      record { words = sym (ap (λ (t : There). t.words) e); numbers = sym (ap (λ (t : There). t.numbers) e) }

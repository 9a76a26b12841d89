-- A row: its tag, then its items. Assumes nothing.
use Rattle.std.proofs.Common.{Some, None}
use Rattle.std.specs.Prelude as Std
use mathlib.Core.Path.{◌≡◌, refl, sym, ap, ◌∙◌}
use mathlib.Core.Bool.{Bool, true, false, cond}
use mathlib.Core.Option.{Option, none, some}
use mathlib.Core.List.{List, [], ◌∷◌, ◌++◌}
use Prim.Native.Nat.{ℕ, suc, ◌+◌, ◌-◌, ◌*◌, ◌≤◌, ◌<◌}
use native.Mathlib.Omega.{arith}
use native.Mathlib.Decide.{ℕ_discrete, dec_lt}
use native.Mathlib.Numerals.{add-one}
use lib.ListN.{length, take, drop, set, length-set, length-drop}
use lib.Seq.{length-take-le, take-set-le, drop-set-lt, drop-cons, lt-length-set, get_or-set_same}
use Rattle.sheet.specs.Bytes.{index}
use Rattle.sheet.specs.Forms.{Mode, Slot, nothing, slot_at, item, one, joined, items_from, counted, or_empty, tag_of, row_for, no_tag, first_node, NODE}
use Rattle.words.specs.Log.{room}
use Rattle.forms.specs.Tags.{SLOT}
use Rattle.line.specs.Written.{Wrote, counted_from, Kept, Items, Row}
use Rattle.forms.proofs.Table.{no_form_law, node_slot}
use Rattle.line.proofs.LawsTag.{node_tag}
use Rattle.line.proofs.LawsItems.{more_words, kept_both, given_some, counted_cons}

-- ---- refused rows

past_forms : (t : ℕ) → no_tag ≤ t → slot_at t 0 ≡ nothing
unfolding slot_at
past_forms t h = rw (no_form_law t h) refl

none_counted : (t : ℕ) → no_tag ≤ t → counted t 0 ≡ false
unfolding counted
none_counted t h = rw (no_form_law t h) refl

-- no form has a number past the last
pub row_unformed : (m : Mode) (t : ℕ) (fs : List (List ℕ)) → no_tag ≤ t → row_for m t fs ≡ []
row_unformed m t [] h = go (counted t 0) (none_counted t h)
  where
    go : (b : Bool) → b ≡ false → cond b (t ∷ []) [] ≡ []
    go b e = rw e refl
row_unformed m t (f ∷ fs) h = go (counted t (suc (length fs))) (ap (λ (s : Slot). item m s f) (past_forms t h))
  where
    go : (b : Bool) → item m (slot_at t 0) f ≡ none → cond b (or_empty t (joined (item m (slot_at t 0) f) (items_from m t 1 fs))) [] ≡ []
    go true e = rw e refl
    go false e = refl

-- a row is its tag and the items that may stand there
pub row_is : (m : Mode) (t : ℕ) (fs : List (List ℕ)) → row_for m t fs ≡ or_empty t (counted_from m t 0 fs)
row_is m t fs = let z : 0 + length fs ≡ length fs = omega arith in rw z (go (counted t (length fs)) (items_from m t 0 fs))
  where
    go : (b : Bool) (o : Option (List ℕ)) → cond b (or_empty t o) [] ≡ or_empty t (cond b o none)
    go true o = refl
    go false o = refl

-- ---- a row whose first j items, none or one, are written

-- a tag in front of words
tag_first : (w : List ℕ) (top t j : ℕ) → top < length w → take (suc j) (drop top (set w top t)) ≡ t ∷ take j (drop (top + 1) w)
tag_first w top t j h =
    rw (drop-cons (set w top t) top 0 (lt-length-set w top t h), get_or-set_same w top t 0 h, drop-set-lt (suc top) w top t (omega arith), ← add-one top) refl

module _ (t j top e v : ℕ) (o : Option (List ℕ)) (w : List ℕ) (long : room ≤ length w) (fits : 2 * top + v + 16 ≤ 2 * room + e) (near : e ≤ v + 1) (few : j ≤ 1) (node : 1 ≤ j → first_node ≤ t) where
  start : Kept w (set w top t) top
  start = record { below = take-set-le top w top t (omega arith); rest = drop-set-lt room w top t (omega arith) }

  pub from_bad : (w₂ : List ℕ) (r : ℕ) → Items o (set w top t) w₂ t (top + 1 + j) r e v → r ≡ 0 → Row (or_empty t (joined (some (take j (drop (top + 1) w))) o)) w w₂ top 0 (v + 5 - e)
  from_bad w₂ r i y =
      let x = take j (drop (top + 1) w) in
      let none_there : o ≡ none = i.items ∙ rw y refl in
      let row : or_empty t (joined (some x) o) ≡ [] = ap (λ (q : Option (List ℕ)). or_empty t (joined (some x) q)) none_there in
      record { count = sym (ap length row); words = sym row; kept = kept_both (omega arith) start i.kept; tight = omega arith }

  pub from_good : (w₂ : List ℕ) (r : ℕ) → length w₂ ≡ length (set w top t) → Items o (set w top t) w₂ t (top + 1 + j) r e v → (r ≡ 0 → ⊥)
      → Row (or_empty t (joined (some (take j (drop (top + 1) w))) o)) w w₂ top (r - top) (v + 5 - e)
  from_good w₂ r l i ne =
      let k = top + 1 + j in
      let x = take j (drop (top + 1) w) in
      let y = take (r - k) (drop k w₂) in
      let g : k ≤ r = i.grows (omega arith) in
      let row : or_empty t (joined (some x) o) ≡ t ∷ (x ++ y) = ap (λ (q : Option (List ℕ)). or_empty t (joined (some x) q)) (i.items ∙ given_some r y (omega arith)) in
      let n : k - top ≡ suc j = omega arith in
      let q : k + (r - k) - top ≡ r - top = omega arith in
      let first : take (k - top) (drop top (set w top t)) ≡ t ∷ x = ap (λ (z : ℕ). take z (drop top (set w top t))) n ∙ tag_first w top t j (omega arith) in
      let ws : t ∷ (x ++ y) ≡ take (r - top) (drop top w₂) =
      ap (λ (z : List ℕ). z ++ y) (sym first) ∙ more_words (set w top t) w₂ top k (r - k) (omega arith) i.kept.below ∙ ap (λ (z : ℕ). take z (drop top w₂)) q in
      let within : r ≤ room = omega (arith, i.tight) in
      let long₂ : length w₂ ≡ length w = l ∙ length-set w top t in
      record {
        count = sym (ap length (row ∙ ws) ∙ length-take-le (r - top) (drop top w₂) (rw (length-drop top w₂) (omega arith)));
        words = sym (row ∙ ws);
        kept = kept_both (omega arith) start i.kept;
        tight = by_place (ℕ_discrete j 0);
      }
    where
      by_place : Dec (j ≡ 0) → 2 * (r - top) ≤ v + 5 - e
      by_place (yes z) = omega (arith, i.tight, z)
      by_place (no z) = omega (arith, i.close (λ q. absurd (omega (arith, q, node (omega arith)))), z)

-- ---- a node's row: its type stands before its constructor

pub typed : (m : Mode) (t : ℕ) (f : List ℕ) (fs : List (List ℕ)) (o : Option ℕ) → first_node ≤ t → t ≤ SLOT → index f ≡ o → row_for m t (f ∷ fs) ≡ or_empty t (joined (one o) (counted_from m t 1 fs))
typed m t f fs o l h e =
    row_is m t (f ∷ fs) ∙ ap (or_empty t) (counted_cons m t 0 f fs)
    ∙ ap (λ (i : Option (List ℕ)). or_empty t (joined i (counted_from m t 1 fs))) (ap (λ (s : Slot). item m s f) (node_slot t l h) ∙ ap one e)

-- a node whose type is no index has no row
pub untyped : (m : Mode) (name f : List ℕ) (fs : List (List ℕ)) → index f ≡ none → row_for m (tag_of NODE name) (f ∷ fs) ≡ []
untyped m name f fs e = go (dec_lt (tag_of NODE name) no_tag)
  where
    go : Dec (tag_of NODE name < no_tag) → row_for m (tag_of NODE name) (f ∷ fs) ≡ []
    go (yes h) = let n = node_tag name (tag_of NODE name) refl in typed m (tag_of NODE name) f fs none n.low (n.high h) e
    go (no h) = row_unformed m (tag_of NODE name) (f ∷ fs) (omega arith)

-- ---- what was written, by what it says

pub wrote_as : (P Q : ℕ → Type 0) (o : Std.Option ℕ) → ((r : ℕ) → P r → Q r) → Wrote P o → Wrote Q o
wrote_as P Q None f h = f 0 h
wrote_as P Q (Some r) f h = (f r h.0, h.1)

-- The code's table of forms is the definition's. Assumes nothing.
use mathlib.Core.Path.{◌≡◌, refl, sym, ap, ◌∙◌}
use mathlib.Core.Bool.{Bool, true, false, not, ◌&&◌, ◌||◌, and-eq-true_iff}
use mathlib.Core.List.{List, [], ◌∷◌}
use Prim.Native.Nat.{ℕ, zero, suc, ◌+◌, ◌-◌, ◌*◌, ◌/◌, ◌%◌, ◌^◌, ◌≤◌, ◌<◌}
use native.Mathlib.Nat.{zero-mod, mod-lt, mod-eq_of_lt, add-mod_right}
use native.Mathlib.Omega.{arith}
use native.Mathlib.Decide.{ℕ_discrete, dec_lt}
use borrow.Author.Tests.{eqb-true, eq-eqb, ne_eqb, lt-ltb, le-ltb}
use lib.Dec.{eqb}
use lib.ListN.{length, get_or, get_or-append}
use lib.Seq.{get_or-append-add}
use Rattle.cedar.proofs.Tools.{no_true}
use Rattle.sheet.specs.Forms.{Mode, Slot, entry, line, line_or, line_unknown, word, number, day, nothing, Form, forms, form_of, no_tag, slot_at, counted, item, joined, items_from}
use Rattle.words.specs.Bits.{byte_of}
use Rattle.sheet.proofs.reading.Parsed.{all_below, all_below_law}
use Rattle.forms.specs.declared.Form as F
use Rattle.forms.specs.Rows.{slot_of, Shape, places, shape, read, Packed}
use Rattle.forms.specs.Tags.{LONG_VALUE}
use Rattle.forms.proofs.Tests.{other}
use Rattle.forms.proofs.Table.{no_form_law, both_small}
use Rattle.line.specs.Codes.{SlotAt}
use Rattle.line.specs.Written.{counted_from}

-- ---- what may stand at a form's places, four to a word

-- the four bytes of a word stand for a form's first four places
pub record Places (t w : ℕ) : Type 0 where
  pub at : (j : ℕ) → j < 4 → slot_of (byte_of w j) ≡ get_or (places (form_of t)) j nothing

pub places_are : (t w : ℕ) (r : F.Form) → read r ≡ shape (form_of t) → Packed r w → Places t w
unfolding byte_of
places_are t w r e p = record { at = at }
  where
    slot : (i x y : ℕ) → x ≡ y → slot_of y ≡ get_or (read r).slots i nothing → slot_of x ≡ get_or (shape (form_of t)).slots i nothing
    slot i x y q h = ap slot_of q ∙ h ∙ ap (λ (s : Shape). get_or s.slots i nothing) e

    at : (j : ℕ) → j < 4 → slot_of (byte_of w j) ≡ get_or (places (form_of t)) j nothing
    at zero h = slot 0 (w / 1 % 256) r.first (omega (arith, p.one)) refl
    at (suc zero) h = slot 1 (w / 256 % 256) r.second p.two refl
    at (suc (suc zero)) h = slot 2 (w / 65536 % 256) r.third p.three refl
    at (suc (suc (suc zero))) h = slot 3 (w / 16777216 % 256) r.fourth p.four refl
    at (suc (suc (suc (suc j)))) h = absurd (omega arith)

pub byte_low : (w j r : ℕ) → r ≡ byte_of w j → r < 256
unfolding byte_of
byte_low w j r e = let l : byte_of w j < 256 = mod-lt (w / 2 ^ (j % 4 * 8)) {m = 256} (omega arith) in omega (arith, e, l)

-- a long stands in one form only, as its first item
is_number : Slot → Bool
is_number entry = false
is_number (line k) = false
is_number (line_or b k) = false
is_number (line_unknown k) = false
is_number (word ws) = false
is_number number = true
is_number day = false
is_number nothing = false

first_long : ℕ → ℕ → Bool
first_long t j = not (is_number (get_or (places (form_of t)) j nothing)) || (eqb t LONG_VALUE && eqb j 0)

longs_first : all_below (λ (t : ℕ). all_below (first_long t) 4) no_tag ≡ true
unfolding forms form_of is_number first_long
longs_first = refl

long_out : (t j : ℕ) → no_tag ≤ t → is_number (get_or (places (form_of t)) j nothing) ≡ false
unfolding forms form_of is_number
long_out t j h = ap (λ (f : Form). is_number (get_or (places f) j nothing)) (no_form_law t h) ∙ go j
  where
    go : (j : ℕ) → is_number (get_or (nothing ∷ []) j nothing) ≡ false
    go zero = refl
    go (suc j) = refl

number_once : (t j : ℕ) → j < 4 → get_or (places (form_of t)) j nothing ≡ number → (t ≡ LONG_VALUE) × (j ≡ 0)
unfolding is_number first_long
number_once t j h e = go (dec_lt t no_tag)
  where
    is : is_number (get_or (places (form_of t)) j nothing) ≡ true
    is = ap is_number e

    go : Dec (t < no_tag) → (t ≡ LONG_VALUE) × (j ≡ 0)
    go (no l) = no_true (sym (long_out t j (omega arith)) ∙ is)
    go (yes l) =
        let b = other (not (is_number (get_or (places (form_of t)) j nothing))) (eqb t LONG_VALUE && eqb j 0) (ap not is) (all_below_law (first_long t) 4 j (all_below_law (λ (t : ℕ). all_below (first_long t) 4) no_tag t longs_first l) h) in
        let c = (and-eq-true_iff (eqb t LONG_VALUE) (eqb j 0)).0 b in
        (eqb-true t LONG_VALUE c.0, eqb-true j 0 c.1)

one_item : length (form_of LONG_VALUE).items ≡ 1
unfolding forms form_of
one_item = refl

-- the form of a long has one item
pub one_long : (t n : ℕ) → n ≡ length (form_of t).items → t ≡ LONG_VALUE → n ≡ 0 → ⊥
one_long t n e q z = absurd (omega (arith, e, z, one_item, ap (λ (i : ℕ). length (form_of i).items) q))

-- ---- what may stand at a place

module _ (t n g : ℕ) (hn : (n ≡ length (form_of t).items) × (n ≤ 4)) (hg : (g ≡ length (form_of t).group) × (g ≤ 3)) where
  pub few_places : n + g ≤ 4
  few_places = rw (hn.0, hg.0) (both_small t)

  past : (j : ℕ) → n ≤ j → slot_at t j ≡ get_or (form_of t).group ((j - n) % g) nothing
  unfolding slot_at
  past j h = rw (← hn.0, ← hg.0, le-ltb j n h) refl

  -- past its items a form's group comes again
  slot_again : (j : ℕ) → n ≤ j → slot_at t (j + g) ≡ slot_at t j
  slot_again j h =
      let e : j + g - n ≡ j - n + g = omega arith in
      past (j + g) (omega arith) ∙ ap (λ (i : ℕ). get_or (form_of t).group i nothing) (ap (λ (i : ℕ). i % g) e ∙ add-mod_right (j - n) g) ∙ sym (past j h)

  -- the first places are those of the items, then those of the group
  place_is : (j : ℕ) → j < n + g → get_or (places (form_of t)) j nothing ≡ slot_at t j
  unfolding slot_at
  place_is j h = go (dec_lt j n)
    where
      go : Dec (j < n) → get_or (places (form_of t)) j nothing ≡ slot_at t j
      go (yes l) =
          let m : j < length (form_of t).items = omega (arith, hn.0) in
          get_or-append (form_of t).items (form_of t).group nothing j m ∙ sym (rw (lt-ltb j (length (form_of t).items) m) refl)
      go (no l) =
          let m : (j - n) % g ≡ j - n = mod-eq_of_lt {n = j - n} {m = g} (omega arith) in
          let q : length (form_of t).items + (j - n) ≡ j = omega (arith, hn.0) in
          ap (λ (i : ℕ). get_or (places (form_of t)) i nothing) (sym q) ∙ get_or-append-add (form_of t).items (form_of t).group (j - n) nothing
          ∙ ap (λ (i : ℕ). get_or (form_of t).group i nothing) (sym m) ∙ sym (past j (omega arith))

  pub slot_here : (j w r : ℕ) → j < n + g → Places t w → r ≡ byte_of w j → SlotAt t j r
  unfolding slot_of
  slot_here j w r h p q =
      let l : j < 4 = omega (arith, few_places) in
      let e : slot_of r ≡ get_or (places (form_of t)) j nothing = ap slot_of q ∙ p.at j l in
      record {
        is = e ∙ place_is j h;
        first = λ z. (number_once t j l (sym e ∙ ap slot_of z)).1;
        alone = λ z. (number_once t j l (sym e ∙ ap slot_of z)).0;
      }

  -- ---- how many items

  pub counted_equal : counted t n ≡ true
  unfolding counted
  counted_equal = rw (← hn.0, eq-eqb n n refl) refl

  pub counted_less : (i : ℕ) → i < n → counted t i ≡ false
  unfolding counted
  counted_less i h = rw (← hn.0, ne_eqb i n (λ z. absurd (omega arith)), le-ltb n i (omega arith)) refl

  pub counted_alone : (i : ℕ) → n < i → g ≡ 0 → counted t i ≡ false
  unfolding counted
  counted_alone i h e = rw (← hn.0, ← hg.0, ne_eqb i n (λ z. absurd (omega arith)), lt-ltb n i h, e) refl

  counted_group : (i : ℕ) → n ≤ i → (g ≡ 0 → ⊥) → counted t i ≡ eqb ((i - n) % g) 0
  unfolding counted
  counted_group i h e = go (ℕ_discrete i n)
    where
      more : (i ≡ n → ⊥) → counted t i ≡ eqb ((i - n) % g) 0
      more d = rw (← hn.0, ← hg.0, ne_eqb i n d, lt-ltb n i (omega arith), lt-ltb 0 g (omega arith)) refl

      go : Dec (i ≡ n) → counted t i ≡ eqb ((i - n) % g) 0
      go (yes d) = let z : i - n ≡ 0 = omega arith in ap (counted t) d ∙ counted_equal ∙ sym (ap (λ (x : ℕ). eqb (x % g) 0) z ∙ ap (λ (x : ℕ). eqb x 0) (zero-mod g))
      go (no d) = more d

  pub counted_within : (i : ℕ) → n < i → i < n + g → counted t i ≡ false
  counted_within i h l =
      let m : (i - n) % g ≡ i - n = mod-eq_of_lt {n = i - n} {m = g} (omega arith) in
      counted_group i (omega arith) (λ z. absurd (omega arith)) ∙ ap (λ (x : ℕ). eqb x 0) m ∙ ne_eqb (i - n) 0 (λ z. absurd (omega arith))

  counted_again : (i : ℕ) → n ≤ i → (g ≡ 0 → ⊥) → counted t (i + g) ≡ counted t i
  counted_again i h e =
      let q : i + g - n ≡ i - n + g = omega arith in
      counted_group (i + g) (omega arith) e ∙ ap (λ (x : ℕ). eqb x 0) (ap (λ (x : ℕ). x % g) q ∙ add-mod_right (i - n) g) ∙ sym (counted_group i h e)

  items_again : (m : Mode) (fs : List (List ℕ)) (j : ℕ) → n ≤ j → items_from m t (j + g) fs ≡ items_from m t j fs
  items_again m [] j h = refl
  items_again m (f ∷ fs) j h =
      let z : suc (j + g) ≡ suc j + g = omega arith in
      rw (slot_again j h, z) (ap (joined (item m (slot_at t j) f)) (items_again m fs (suc j) (omega arith)))

  -- the place after a group's last is its first
  pub place_again : (m : Mode) (fs : List (List ℕ)) (j : ℕ) → j ≡ n + g → counted_from m t j fs ≡ counted_from m t n fs
  place_again m fs j e = go (ℕ_discrete g 0)
    where
      go : Dec (g ≡ 0) → counted_from m t j fs ≡ counted_from m t n fs
      go (yes z) = let q : j ≡ n = omega arith in rw q refl
      go (no z) =
          let q : n + g + length fs ≡ n + length fs + g = omega arith in
          rw (e, q, counted_again (n + length fs) (omega arith) z, items_again m fs n (omega arith)) refl

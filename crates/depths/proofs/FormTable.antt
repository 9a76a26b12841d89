-- The code's table of forms is the definition's. Assumes nothing.
use mathlib.Core.Path.{◌≡◌, refl, sym, ap, ◌∙◌}
use mathlib.Core.Bool.{Bool, true, false, not, ◌&&◌, and-eq-true_iff}
use mathlib.Core.List.{List, [], ◌∷◌}
use Prim.Native.Nat.{ℕ, zero, suc, ◌+◌, ◌-◌, ◌*◌, ◌/◌, ◌%◌, ◌^◌, ◌≤◌, ◌<◌}
use native.Mathlib.Numerals.{add-one}
use native.Mathlib.Omega.{arith}
use native.Mathlib.Decide.{dec_lt}
use borrow.Author.Tests.{leb-true, eqb-true, eq-eqb, ne_eqb, le-ltb, not-true}
use lib.Dec.{leb, eqb}
use lib.ListN.{length, get_or}
use Rattle.sheet.specs.Forms.{Slot, line, nothing, Form, forms, form_of, no_form, slot_in, slot_at, no_tag, TEXT, TYPE, POLICY}
use Rattle.sheet.proofs.reading.Parsed.{all_below, all_below_law}
use Rattle.forms.specs.declared.Form as F
use Rattle.forms.specs.Rows.{LINE, EFFECT, OF_TYPE, OF_VALUE, OF_NODE, code as code_of, coded, Packed}
use Rattle.forms.specs.Tags.{LIT, ERR, AND, IS, GET, HASPATH, SET_OF, RECORD_OF, POLICY_LINE}
use Rattle.forms.proofs.Tests.{ranged}
use Rattle.forms.proofs.Table.{no_form_law, group_small, both_small, node_slot}
use Rattle.depths.specs.declared.Places.{Places}
use Rattle.depths.specs.Codes.{key_in, packed, packed_from, form_code, again_code, codes_after, codes_at, places_at, place_code, places_after}

-- ---- what items refer to, four to a word

places_same : (p q : Places) → p.slots ≡ q.slots → p.group ≡ q.group → p ≡ q
places_same p q s g i = record { slots = s i; group = g i }

word_packed : (r : F.Form) (w : ℕ) → Packed r w → w < 4294967296 → w ≡ packed r
word_packed r w p h =
    let a : w / 65536 ≡ w / 256 / 256 = omega arith in
    let b : w / 16777216 ≡ w / 65536 / 256 = omega arith in
    let d : w / 65536 ≡ r.third + 256 * r.fourth = omega (arith, b, p.three, p.four) in
    let g : w / 256 ≡ r.second + 256 * (r.third + 256 * r.fourth) = omega (arith, a, d, p.two) in
    omega (arith, g, p.one)

-- all places of a form
pub places_first : (t : ℕ) (r : F.Form) (w : ℕ) (p : Places) → r ≡ coded (form_of t) → Packed r w → w < 4294967296 → p.slots ≡ w → p.group ≡ w / 2 ^ (r.items % 8 * 8) → p ≡ places_at t 0
unfolding codes_at form_code again_code
places_first t r w p e h l hs hg =
    let q = word_packed r w h l in
    places_same p (places_at t 0) (hs ∙ q ∙ ap packed e) (hg ∙ ap (packed_from r.items) q ∙ ap (λ (f : F.Form). packed_from f.items (packed f)) e)

-- past the table's end
codes_out : (t : ℕ) → no_tag ≤ t → 0 ≡ form_code t
unfolding form_code coded code_of
codes_out t h = sym (ap (λ (f : Form). packed (coded f)) (no_form_law t h))

again_out : (t : ℕ) → no_tag ≤ t → 0 ≡ again_code t
unfolding again_code form_code coded code_of
again_out t h = sym (ap (λ (f : Form). packed_from (coded f).items (packed (coded f))) (no_form_law t h))

pub after_rest : (p q : Places) (v : ℕ) → v ≡ p.slots / 256 → (v ≡ 0 → ⊥) → q.slots ≡ v → q.group ≡ p.group → q ≡ places_after p
after_rest p q v e n hs hg = places_same q (places_after p) (hs ∙ sym (rw (← e, ne_eqb v 0 n) refl)) hg

pub after_group : (p q : Places) (v : ℕ) → v ≡ p.slots / 256 → v ≡ 0 → q.slots ≡ p.group → q.group ≡ p.group → q ≡ places_after p
after_group p q v e z hs hg = places_same q (places_after p) (hs ∙ sym (rw (← e, eq-eqb v 0 z) refl)) hg

-- ---- each place stands for one of the first ten: groups have one, two or three items

mod_six : (g x : ℕ) → 1 ≤ g → g ≤ 3 → (x + 6) % g ≡ x % g
mod_six zero x h l = absurd (omega arith)
mod_six (suc zero) x h l = omega arith
mod_six (suc (suc zero)) x h l = omega arith
mod_six (suc (suc (suc zero))) x h l = omega arith
mod_six (suc (suc (suc (suc g)))) x h l = absurd (omega arith)

slot_period : (t j : ℕ) → slot_at t (4 + j + 6) ≡ slot_at t (4 + j)
unfolding slot_at
slot_period t j =
    let b = both_small t in
    let n = length (form_of t).items in
    let p : 4 + j + 6 - n ≡ 4 + j - n + 6 = omega arith in
    rw (le-ltb (4 + j + 6) n (omega arith), le-ltb (4 + j) n (omega arith), p) (go (form_of t).group (group_small t))
  where
    go : (l : List Slot) → length l ≤ 3 → get_or l ((4 + j - length (form_of t).items + 6) % length l) nothing ≡ get_or l ((4 + j - length (form_of t).items) % length l) nothing
    go [] h = refl
    go (x ∷ l) h = ap (λ (i : ℕ). get_or (x ∷ l) i nothing) (mod_six (length (x ∷ l)) (4 + j - length (form_of t).items) (omega arith) h)

codes_none : (t j : ℕ) → no_tag ≤ t → codes_at t j ≡ 0
unfolding codes_at
codes_none t zero h = sym (codes_out t h)
codes_none t (suc j) h = rw (codes_none t j h, ← (again_out t h)) refl

codes_ten : (t : ℕ) → codes_at t 10 ≡ codes_at t 4
unfolding codes_at form_code again_code coded code_of forms form_of
codes_ten t = go (dec_lt t no_tag)
  where
    go : Dec (t < no_tag) → codes_at t 10 ≡ codes_at t 4
    go (yes l) = eqb-true (codes_at t 10) (codes_at t 4) (all_below_law (λ (i : ℕ). eqb (codes_at i 10) (codes_at i 4)) no_tag t refl l)
    go (no l) = codes_none t 10 (omega arith) ∙ sym (codes_none t 4 (omega arith))

codes_period : (t j : ℕ) → codes_at t (4 + j + 6) ≡ codes_at t (4 + j)
unfolding codes_at
codes_period t zero = codes_ten t
codes_period t (suc j) =
    let p : 4 + suc j + 6 ≡ suc (4 + j + 6) = omega arith in
    let q : 4 + suc j ≡ suc (4 + j) = omega arith in
    rw (p, q) (ap (codes_after (again_code t)) (codes_period t j))

record Early (t j : ℕ) : Type 0 where
  place : ℕ
  low : place < 10
  slot : slot_at t j ≡ slot_at t place
  codes : codes_at t j ≡ codes_at t place

early : (n t j : ℕ) → j < 10 + n → Early t j
early zero t j h = record { place = j; low = omega arith; slot = refl; codes = refl }
early (suc n) t j h = go (dec_lt j 10) (λ i l. early n t i l)
  where
    go : Dec (j < 10) → ((i : ℕ) → i < 10 + n → Early t i) → Early t j
    go (yes l) f = record { place = j; low = l; slot = refl; codes = refl }
    go (no l) f =
        let e = f (j - 6) (omega arith) in
        let p : j ≡ 4 + (j - 10) + 6 = omega arith in
        let q : 4 + (j - 10) ≡ j - 6 = omega arith in
        record {
          place = e.place;
          low = e.low;
          slot = ap (slot_at t) p ∙ slot_period t (j - 10) ∙ ap (slot_at t) q ∙ e.slot;
          codes = ap (codes_at t) p ∙ codes_period t (j - 10) ∙ ap (codes_at t) q ∙ e.codes;
        }

-- what holds of the code of each of the first ten places of some forms holds of every place of theirs
module _ (p : ℕ → Slot → Bool) (lo n : ℕ) (e : all_below (λ (t : ℕ). all_below (λ (j : ℕ). p (codes_at (lo + t) j) (slot_at (lo + t) j)) 10) n ≡ true) where
  every_place : (t j : ℕ) → lo ≤ t → t < lo + n → p (codes_at t j) (slot_at t j) ≡ true
  every_place t j l h =
      let y = early j t j (omega arith) in
      rw (y.slot, y.codes) (all_below_law (λ (i : ℕ). p (codes_at t i) (slot_at t i)) 10 y.place (ranged (λ (t : ℕ). all_below (λ (j : ℕ). p (codes_at t j) (slot_at t j)) 10) lo n e t l h) y.low)

is_code : ℕ → Slot → Bool
is_code w s = eqb (w % 256) (code_of s) && leb (key_in s) POLICY

slot_none : (t j : ℕ) → no_tag ≤ t → slot_at t j ≡ nothing
unfolding slot_at
slot_none t j h = ap (λ (x : Form). slot_in x j) (no_form_law t h) ∙ go (dec_lt j 1)
  where
    go : Dec (j < 1) → slot_in no_form j ≡ nothing
    go (yes l) = let z : j ≡ 0 = omega arith in rw z refl
    go (no l) = rw (le-ltb j 1 (omega arith)) refl

code_some : (t j : ℕ) → t < no_tag → is_code (codes_at t j) (slot_at t j) ≡ true
unfolding is_code codes_at form_code again_code coded forms form_of slot_at code_of key_in
code_some t j l = every_place is_code 0 no_tag refl t j (omega arith) l

pub code_at : (t j w c : ℕ) → w ≡ codes_at t j → c ≡ w % 256 → (c ≡ code_of (slot_at t j)) × (key_in (slot_at t j) ≤ POLICY)
unfolding is_code code_of key_in
code_at t j w c hw hc = go (dec_lt t no_tag)
  where
    go : Dec (t < no_tag) → (c ≡ code_of (slot_at t j)) × (key_in (slot_at t j) ≤ POLICY)
    go (yes l) =
        let b = (and-eq-true_iff (eqb (codes_at t j % 256) (code_of (slot_at t j))) (leb (key_in (slot_at t j)) POLICY)).0 (code_some t j l) in
        let q : c ≡ code_of (slot_at t j) = hc ∙ ap (λ (x : ℕ). x % 256) hw ∙ eqb-true (codes_at t j % 256) (code_of (slot_at t j)) b.0 in
        (q, leb-true (key_in (slot_at t j)) POLICY b.1)
    go (no l) =
        let z : w ≡ 0 = hw ∙ codes_none t j (omega arith) in
        let s : slot_at t j ≡ nothing = slot_none t j (omega arith) in
        let q : c ≡ code_of (slot_at t j) = hc ∙ ap (λ (x : ℕ). x % 256) z ∙ sym (ap code_of s) in
        let m : key_in (slot_at t j) ≡ 0 = ap key_in s in
        (q, omega (arith, m))

-- the first of the places from j on, and those after it
pub place_here : (t j : ℕ) (p : Places) (c : ℕ) → p ≡ places_at t j → c ≡ place_code p → (c ≡ code_of (slot_at t j)) × (key_in (slot_at t j) ≤ POLICY)
place_here t j p c hp hc = code_at t j p.slots c (ap (λ (q : Places). q.slots) hp) hc

pub place_next : (t j : ℕ) (p q : Places) → p ≡ places_at t j → q ≡ places_after p → q ≡ places_at t (j + 1)
unfolding codes_at
place_next t j p q hp hq = hq ∙ ap places_after hp ∙ ap (places_at t) (sym (add-one j))

-- the forms before those that work on nodes refer to none, nor do those after a policy's
is_other : ℕ → Slot → Bool
is_other w s = not (eqb (code_of s) OF_NODE)

pub no_node : (t j : ℕ) → t < AND → eqb (code_of (slot_at t j)) OF_NODE ≡ false
unfolding is_other codes_at form_code again_code coded forms form_of slot_at code_of
no_node t j h = not-true (eqb (code_of (slot_at t j)) OF_NODE) (every_place is_other 0 AND refl t j (omega arith) h)

after_some : (t j : ℕ) → POLICY_LINE < t → t < no_tag → eqb (code_of (slot_at t j)) OF_NODE ≡ false
unfolding is_other codes_at form_code again_code coded forms form_of slot_at code_of
after_some t j l h = not-true (eqb (code_of (slot_at t j)) OF_NODE) (every_place is_other (POLICY_LINE + 1) (no_tag - (POLICY_LINE + 1)) refl t j l h)

after_none : (t j : ℕ) → no_tag ≤ t → eqb (code_of (slot_at t j)) OF_NODE ≡ false
unfolding code_of
after_none t j h = ap (λ (s : Slot). eqb (code_of s) OF_NODE) (slot_none t j h)

pub no_node_after : (t j : ℕ) → POLICY_LINE < t → eqb (code_of (slot_at t j)) OF_NODE ≡ false
no_node_after t j h = go (dec_lt t no_tag)
  where
    go : Dec (t < no_tag) → eqb (code_of (slot_at t j)) OF_NODE ≡ false
    go (yes l) = after_some t j h l
    go (no l) = after_none t j (omega arith)

-- of the items of a node that is neither a set nor a record none must ascend
is_flat : ℕ → Bool
is_flat t = not (form_of t).ascends

pub flat_node : (t : ℕ) → LIT ≤ t → t < SET_OF → (form_of t).ascends ≡ false
unfolding is_flat forms form_of
flat_node t l h = not-true (form_of t).ascends (ranged is_flat LIT (SET_OF - LIT) refl t l h)

-- ---- the first places of nodes

is_at : ℕ → Slot → Bool
is_at v s = eqb v (code_of s) && leb (key_in s) POLICY

module _ (t j : ℕ) where
  placed_by : (v i lo n : ℕ) → all_below (λ (x : ℕ). is_at v (slot_at (lo + x) i)) n ≡ true → lo ≤ t → t < lo + n → j ≡ i → (v ≡ code_of (slot_at t j)) × (key_in (slot_at t j) ≤ POLICY)
  unfolding is_at
  placed_by v i lo n e l h q =
      let b = (and-eq-true_iff (eqb v (code_of (slot_at t i))) (leb (key_in (slot_at t i)) POLICY)).0 (ranged (λ (x : ℕ). is_at v (slot_at x i)) lo n e t l h) in
      (eqb-true v (code_of (slot_at t i)) b.0 ∙ ap (λ (x : ℕ). code_of (slot_at t x)) (sym q), rw q (leb-true (key_in (slot_at t i)) POLICY b.1))

  pub node_type : (LIT ≤ t) × (t < RECORD_OF) → j ≡ 0 → (OF_TYPE ≡ code_of (slot_at t j)) × (key_in (slot_at t j) ≤ POLICY)
  unfolding code_of key_in
  node_type b q =
      let s : slot_at t j ≡ line TYPE = ap (slot_at t) q ∙ node_slot t b.0 (omega (arith, b.1)) in
      (sym (ap code_of s), omega (arith, ap key_in s))

  pub node_first : (LIT ≤ t) × (t < RECORD_OF) → AND ≤ t → j ≡ 1 → (OF_NODE ≡ code_of (slot_at t j)) × (key_in (slot_at t j) ≤ POLICY)
  unfolding forms form_of slot_at code_of key_in is_at
  node_first b l = placed_by OF_NODE 1 AND (RECORD_OF - AND) refl l b.1

  pub node_second : AND ≤ t → t < IS → j ≡ 2 → (OF_NODE ≡ code_of (slot_at t j)) × (key_in (slot_at t j) ≤ POLICY)
  unfolding forms form_of slot_at code_of key_in is_at
  node_second = placed_by OF_NODE 2 AND (IS - AND) refl

  pub node_text : GET ≤ t → t < HASPATH → j ≡ 2 → (LINE + TEXT ≡ code_of (slot_at t j)) × (key_in (slot_at t j) ≤ POLICY)
  unfolding forms form_of slot_at code_of key_in is_at
  node_text = placed_by (LINE + TEXT) 2 GET (HASPATH - GET) refl

  pub leaf_value : t ≡ LIT → j ≡ 1 → (OF_VALUE ≡ code_of (slot_at t j)) × (key_in (slot_at t j) ≤ POLICY)
  unfolding forms form_of slot_at code_of key_in is_at
  leaf_value e = placed_by OF_VALUE 1 LIT 1 refl (omega arith) (omega arith)

  pub leaf_other : ERR ≤ t → t < AND → (code_of (slot_at t 1) < LINE) × (key_in (slot_at t 1) ≤ POLICY)
  unfolding forms form_of slot_at code_of key_in
  leaf_other l h =
      let b = (and-eq-true_iff (leb (code_of (slot_at t 1)) EFFECT) (leb (key_in (slot_at t 1)) POLICY)).0 (ranged (λ (x : ℕ). leb (code_of (slot_at x 1)) EFFECT && leb (key_in (slot_at x 1)) POLICY) ERR (AND - ERR) refl t l h) in
      (omega (arith, leb-true (code_of (slot_at t 1)) EFFECT b.0), leb-true (key_in (slot_at t 1)) POLICY b.1)

-- Depths of lines, as the code finds them. Assumes nothing.
use mathlib.Core.Path.{◌≡◌, refl, sym, ap, subst, ◌∙◌}
use mathlib.Core.Bool.{Bool, true, false, cond, not, ◌||◌}
use mathlib.Core.List.{List, [], ◌∷◌}
use Prim.Native.Nat.{ℕ, suc, ◌+◌, ◌%◌, ◌≤◌, ◌<◌, max}
use native.Mathlib.Numerals.{add-one}
use native.Mathlib.Omega.{arith}
use native.Mathlib.Decide.{ℕ_discrete, dec_lt}
use borrow.Author.Tests.{eqb-true, eq-eqb, ne_eqb, ltb-true}
use lib.Dec.{ltb, eqb}
use lib.ListN.{length, get_or, drop, length-take, length-drop, length-replicate, get_or-replicate, get_or-eq_default}
use lib.Seq.{get_or-take, get_or-drop}
use Rattle.sheet.specs.Forms.{Slot, entry, line, line_or, line_unknown, word, number, day, nothing, slot_at, tag, items, is_line, keep, refs_from, refs, no_key, TEXT, TYPE, VALUE, NODE, POLICY}
use Rattle.sheet.specs.State.{State, depths_of}
use Rattle.sheet.specs.Sheet.{all_there, deepest, depth}
use Rattle.table.specs.Layout.{TYPEDEPTHS, VALUEDEPTHS, NODEDEPTHS, held, ones, depths_at, depth_base, depth_bases, depths_in}
use Rattle.table.proofs.Held.{no_depths, depths_of_law}
use Rattle.cedar.specs.Numbered.{mem_n}
use Rattle.sheet.proofs.reading.Parsed.{all_below, all_below_law}
use Rattle.forms.proofs.Tests.{other}
use Rattle.forms.specs.Rows.{NONE, NUMBER, ENTRY, DATE, LINE, UNKNOWN, OF_TYPE, OF_VALUE, OF_NODE, code as code_of}
use Rattle.forms.specs.Tags.{LIT, AND, IF, GET, HASPATH}
use Rattle.std.specs.Prelude.{Some, None}
use Rattle.std.specs.Ordering.{nat_cmp, ord_max}
use Rattle.depths.specs.declared.Places.{Places}
use Rattle.depths.specs.Codes.{key_in, places_at, place_code, places_after}
use Rattle.depths.specs.Depths.{ThereAs, there_depth, OnOne, OnTwo, OnNone}
use Rattle.depths.proofs.FormTable.{place_here, place_next, node_type, node_first, node_second, node_text, leaf_value, leaf_other}
use Rattle.depths.proofs.ThereLaws.{item_at, item_in, items_end, There, there_start, there_off, there_on, there_end, ref_none, ref_in, ref_out, mark_high, words_low}

-- ---- the depth of one line

length_depths : (a b : List ℕ) (k : ℕ) → length (depths_in a b k) ≤ get_or a k 0
length_depths a b k = go (eqb (depth_base k) 0)
  where
    go : (t : Bool) → length (cond t (ones a k) (depths_at b (depth_base k) (get_or a k 0))) ≤ get_or a k 0
    go true = omega (arith, length-replicate {A = ℕ} (get_or a k 0) 1)
    go false = omega (arith, length-take (get_or a k 0) (drop (depth_base k) b))

pub depth_none : (a b : List ℕ) (k n m : ℕ) → m ≡ get_or a k 0 → m ≤ n → 0 ≡ get_or (depths_in a b k) n 0
depth_none a b k n m e h = sym (get_or-eq_default (depths_in a b k) 0 (omega (arith, length_depths a b k)))

module _ (a b : List ℕ) (k n m d : ℕ) (hm : m ≡ get_or a k 0) (h : n < m) where
  depth_word : (i : ℕ) → depth_base k ≡ i → (i ≡ 0 → ⊥) → d ≡ get_or b (i + n) 0 → d ≡ get_or (depths_in a b k) n 0
  depth_word i e z hd = hd ∙ sym (rw (e, ne_eqb i 0 z, get_or-take (get_or a k 0) (drop i b) n 0 (omega arith)) (get_or-drop i b n 0))

  pub depth_type : k ≡ TYPE → d ≡ get_or b (TYPEDEPTHS + n) 0 → d ≡ get_or (depths_in a b k) n 0
  unfolding depth_base depth_bases
  depth_type e hd = depth_word TYPEDEPTHS (ap depth_base e) (λ q. absurd (omega arith)) hd

  pub depth_value : k ≡ VALUE → d ≡ get_or b (VALUEDEPTHS + n) 0 → d ≡ get_or (depths_in a b k) n 0
  unfolding depth_base depth_bases
  depth_value e hd = depth_word VALUEDEPTHS (ap depth_base e) (λ q. absurd (omega arith)) hd

  pub depth_node : k ≡ NODE → d ≡ get_or b (NODEDEPTHS + n) 0 → d ≡ get_or (depths_in a b k) n 0
  unfolding depth_base depth_bases
  depth_node e hd = depth_word NODEDEPTHS (ap depth_base e) (λ q. absurd (omega arith)) hd

based : all_below (λ (i : ℕ). mem_n i (TYPE ∷ VALUE ∷ NODE ∷ []) || eqb (depth_base i) 0) no_key ≡ true
unfolding depth_base depth_bases
based = refl

pub no_base : (k : ℕ) → (k ≡ TYPE → ⊥) → (k ≡ VALUE → ⊥) → (k ≡ NODE → ⊥) → depth_base k ≡ 0
no_base k x y z = go (dec_lt k no_key)
  where
    none_there : mem_n k (TYPE ∷ VALUE ∷ NODE ∷ []) ≡ false
    none_there = rw (ne_eqb k TYPE x, ne_eqb k VALUE y, ne_eqb k NODE z) refl

    go : Dec (k < no_key) → depth_base k ≡ 0
    go (yes h) =
        eqb-true (depth_base k) 0
        (other (mem_n k (TYPE ∷ VALUE ∷ NODE ∷ [])) (eqb (depth_base k) 0) none_there (all_below_law (λ (i : ℕ). mem_n i (TYPE ∷ VALUE ∷ NODE ∷ []) || eqb (depth_base i) 0) no_key k based h))
    go (no h) = no_depths k (omega arith)

pub depth_leaf : (a b : List ℕ) (k n m : ℕ) → m ≡ get_or a k 0 → n < m → (k ≡ TYPE → ⊥) → (k ≡ VALUE → ⊥) → (k ≡ NODE → ⊥) → 1 ≡ get_or (depths_in a b k) n 0
depth_leaf a b k n m hm h x y z = sym (rw (no_base k x y z) (get_or-replicate (get_or a k 0) n 1 0 (omega arith)))

-- ---- the lines that a row refers to

pub line_code : (k : ℕ) → k < LINE → (s : Slot) → is_line k s ≡ eqb (code_of s) (LINE + k)
unfolding code_of
line_code k b entry = sym (ne_eqb ENTRY (LINE + k) (λ q. absurd (omega arith)))
line_code k b (line l) = go (ℕ_discrete k l)
  where
    go : Dec (k ≡ l) → eqb k l ≡ eqb (LINE + l) (LINE + k)
    go (yes d) = eq-eqb k l d ∙ sym (eq-eqb (LINE + l) (LINE + k) (omega arith))
    go (no d) = ne_eqb k l d ∙ sym (ne_eqb (LINE + l) (LINE + k) (λ q. d (omega arith)))
line_code k b (line_or m l) = sym (ne_eqb (code_of (line_or m l)) (LINE + k) (λ q. absurd (omega (arith, q, mark_high m l))))
line_code k b (line_unknown l) = sym (ne_eqb (UNKNOWN + l) (LINE + k) (λ q. absurd (omega arith)))
line_code k b (word ws) = sym (ne_eqb (code_of (word ws)) (LINE + k) (λ q. absurd (omega (arith, q, words_low ws))))
line_code k b number = sym (ne_eqb NUMBER (LINE + k) (λ q. absurd (omega arith)))
line_code k b day = sym (ne_eqb DATE (LINE + k) (λ q. absurd (omega arith)))
line_code k b nothing = sym (ne_eqb NONE (LINE + k) (λ q. absurd (omega arith)))

pub refs_at : (k : ℕ) → k < LINE → (r : List ℕ) (j t x c : ℕ) → t ≡ tag r → j + 1 < length r → x ≡ get_or r (j + 1) 0 → (c ≡ code_of (slot_at t j)) × (key_in (slot_at t j) ≤ POLICY)
    → refs_from k (tag r) j (drop (suc j) r) ≡ keep (eqb c (LINE + k)) x (refs_from k (tag r) (suc j) (drop (suc (suc j)) r))
refs_at k low r j t x c ht h hx hc =
    ap (refs_from k (tag r) j) (item_at r j x h hx)
    ∙ ap (λ (y : Bool). keep y x (refs_from k (tag r) (suc j) (drop (suc (suc j)) r)))
    (ap (λ (y : ℕ). is_line k (slot_at y j)) (sym ht) ∙ line_code k low (slot_at t j) ∙ ap (λ (y : ℕ). eqb y (LINE + k)) (sym hc.0))

deepest_keep : (s : State) (k x : ℕ) (v : Bool) (l : List ℕ) → deepest s k (keep v x l) ≡ max (cond v (get_or (depths_of s k) x 0) 0) (deepest s k l)
deepest_keep s k x true l = refl
deepest_keep s k x false l = omega arith

pub record Deep (a b : List ℕ) (k : ℕ) (r : List ℕ) (j d : ℕ) : Type 0 where
  pub left : deepest (held [] a b) k (refs k r) ≡ max d (deepest (held [] a b) k (refs_from k (tag r) j (drop (suc j) r)))
  pub near : j ≤ length r
  pub low : d < 4294967296

pub deep_start : (a b : List ℕ) (k : ℕ) (r : List ℕ) → Deep a b k r 0 0
unfolding refs
deep_start a b k r = record { left = omega arith; near = omega arith; low = omega arith }

module _ (a b : List ℕ) (k : ℕ) (r : List ℕ) (j d : ℕ) (i : Deep a b k r j d) (low : k < no_key) where
  pub deep_on : (t x c y d' : ℕ) → t ≡ tag r → j + 1 < length r → x ≡ get_or r (j + 1) 0 → (c ≡ code_of (slot_at t j)) × (key_in (slot_at t j) ≤ POLICY)
      → y ≡ cond (eqb c (LINE + k)) (get_or (depths_in a b k) x 0) 0 → d' ≡ max d y → y < 4294967296 → Deep a b k r (j + 1) d'
  deep_on t x c y d' ht h hx hc hy hd small =
      let e : deepest (held [] a b) k (refs_from k (tag r) j (drop (suc j) r)) ≡ max y (deepest (held [] a b) k (refs_from k (tag r) (suc j) (drop (suc (suc j)) r))) =
      ap (deepest (held [] a b) k) (refs_at k (omega arith) r j t x c ht h hx hc)
      ∙ deepest_keep (held [] a b) k x (eqb c (LINE + k)) (refs_from k (tag r) (suc j) (drop (suc (suc j)) r))
      ∙ ap (λ (z : ℕ). max z (deepest (held [] a b) k (refs_from k (tag r) (suc j) (drop (suc (suc j)) r))))
      (ap (λ (l : List ℕ). cond (eqb c (LINE + k)) (get_or l x 0) 0) (depths_of_law [] a b k low) ∙ sym hy) in
      subst (λ (n : ℕ). Deep a b k r n d') (sym (add-one j)) (record { left = omega (arith, e, i.left); near = omega arith; low = omega (arith, i.low) })

  pub deep_end : length r ≤ j + 1 → d + 1 ≡ depth (held [] a b) k r
  unfolding depth
  deep_end h =
      let e : deepest (held [] a b) k (refs_from k (tag r) j (drop (suc j) r)) ≡ 0 = ap (λ (l : List ℕ). deepest (held [] a b) k (refs_from k (tag r) j l)) (items_end r j h) in
      omega (arith, e, i.left)

pub from_other : (a b : List ℕ) (k c x : ℕ) → (c ≡ LINE + k → ⊥) → 0 ≡ cond (eqb c (LINE + k)) (get_or (depths_in a b k) x 0) 0
from_other a b k c x n = sym (rw (ne_eqb c (LINE + k) n) refl)

pub from_line : (a b : List ℕ) (k c x d : ℕ) → c ≡ LINE + k → d ≡ get_or (depths_in a b k) x 0 → d ≡ cond (eqb c (LINE + k)) (get_or (depths_in a b k) x 0) 0
from_line a b k c x d e h = h ∙ sym (rw (eq-eqb c (LINE + k) e) refl)

-- ---- all of a row's items

larger : (x y : ℕ) → ord_max nat_cmp x y ≡ max x y
larger x y = grind arith

pub record Walk (a b : List ℕ) (k : ℕ) (r : List ℕ) (p : Places) (d j : ℕ) : Type 0 where
  pub there : There a r j
  pub deep : Deep a b k r j d
  pub places : p ≡ places_at (tag r) j

pub walk_start : (a b : List ℕ) (k : ℕ) (r : List ℕ) (t : ℕ) (p : Places) → t ≡ tag r → p ≡ places_at t 0 → Walk a b k r p 0 0
walk_start a b k r t p ht hp = record { there = there_start a r; deep = deep_start a b k r; places = hp ∙ ap (λ (x : ℕ). places_at x 0) ht }

there_depth_law : (a b : List ℕ) (k : ℕ) (r : List ℕ) (d : ℕ) → true ≡ all_there (held [] a []) (tag r) 0 (items r) → d ≡ depth (held [] a b) k r → Some d ≡ there_depth a b k r
unfolding there_depth
there_depth_law a b k r d e h = ap (λ (x : ℕ). Some x) h ∙ rw (← e) refl

absent_depth : (a b : List ℕ) (k : ℕ) (r : List ℕ) → false ≡ all_there (held [] a []) (tag r) 0 (items r) → None ≡ there_depth a b k r
unfolding there_depth
absent_depth a b k r e = rw (← e) refl

module _ (a b : List ℕ) (k : ℕ) (r : List ℕ) (p : Places) (d j : ℕ) (i : Walk a b k r p d j) (low : k < no_key) where
  module _ (x c : ℕ) (v : Bool) (h : j < length (items r)) (hc : c ≡ place_code p) (hx : x ≡ get_or (items r) j 0) (hv : ThereAs a c x v) where
    code_here : (c ≡ code_of (slot_at (tag r) j)) × (key_in (slot_at (tag r) j) ≤ POLICY)
    code_here = place_here (tag r) j p c i.places hc

    item_here : (j + 1 < length r) × (x ≡ get_or r (j + 1) 0)
    item_here = item_in r j x h hx

    pub walk_off : not v ≡ true → None ≡ there_depth a b k r
    walk_off n = absent_depth a b k r (there_off a r j i.there (tag r) x v refl item_here.0 item_here.1 (hv.is (slot_at (tag r) j) code_here) n)

    pub walk_on : not v ≡ false → (y d' : ℕ) (q : Places) → y ≡ cond (eqb c (LINE + k)) (get_or (depths_in a b k) x 0) 0 → d' ≡ ord_max nat_cmp d y → y < 4294967296 → q ≡ places_after p → Walk a b k r q d' (j + 1)
    walk_on n y d' q hy hd small hq =
        record {
          there = there_on a r j i.there (tag r) x v refl item_here.0 item_here.1 (hv.is (slot_at (tag r) j) code_here) n;
          deep = deep_on a b k r j d i.deep low (tag r) x c y d' refl item_here.0 item_here.1 code_here hy (hd ∙ larger d y) small;
          places = place_next (tag r) j p q i.places hq;
        }

  pub walk_end : length (items r) ≤ j → Some (d + 1) ≡ there_depth a b k r
  walk_end h =
      let l : length r ≤ j + 1 = omega (arith, length-drop 1 r) in
      there_depth_law a b k r (d + 1) (there_end a r j i.there l) (deep_end a b k r j d i.deep low l)

-- ---- a node's type

module _ (a b r : List ℕ) (long : 1 < length r) (code : (OF_TYPE ≡ code_of (slot_at (tag r) 0)) × (key_in (slot_at (tag r) 0) ≤ POLICY)) (x m : ℕ) (hx : x ≡ get_or r 1 0) (hm : m ≡ get_or a TYPE 0) where
  type_absent : m ≤ x → None ≡ there_depth a b NODE r
  type_absent l = absent_depth a b NODE r (there_off a r 0 (there_start a r) (tag r) x false refl long hx ((ref_out a OF_TYPE x m (omega arith) hm l (omega arith)).is (slot_at (tag r) 0) code) refl)

  type_there : x < m → There a r 1
  type_there l = there_on a r 0 (there_start a r) (tag r) x true refl long hx ((ref_in a OF_TYPE x m (omega arith) hm l).is (slot_at (tag r) 0) code) refl

  type_deep : Deep a b NODE r 1 0
  type_deep = deep_on a b NODE r 0 0 (deep_start a b NODE r) (omega arith) (tag r) x OF_TYPE 0 0 refl long hx code refl (omega arith) (omega arith)

-- ---- a node that works on none

module _ (a r : List ℕ) (leaf : OnNone r) (x m : ℕ) (hx : x ≡ get_or r 1 0) (hm : m ≡ get_or a TYPE 0) where
  leaf_type : (OF_TYPE ≡ code_of (slot_at (tag r) 0)) × (key_in (slot_at (tag r) 0) ≤ POLICY)
  leaf_type = node_type (tag r) 0 (leaf.low, omega (arith, leaf.high)) refl

  pub leaf_untyped : m ≤ x → (b : List ℕ) → None ≡ there_depth a b NODE r
  leaf_untyped l b = type_absent a b r (omega (arith, leaf.long)) leaf_type x m hx hm l

  module _ (lx : x < m) (t : ℕ) (ht : t ≡ tag r) where
    there₁ : There a r 1
    there₁ = type_there a [] r (omega (arith, leaf.long)) leaf_type x m hx hm lx

    -- the second item is there, and no node
    leaf_end : (c : ℕ) → (c ≡ code_of (slot_at (tag r) 1)) × (key_in (slot_at (tag r) 1) ≤ POLICY) → eqb c OF_NODE ≡ false → ThereAs a c (get_or r 2 0) true → (b : List ℕ) → Some 1 ≡ there_depth a b NODE r
    leaf_end c hc e v b =
        let deep₂ : Deep a b NODE r 2 0 = deep_on a b NODE r 1 0 (type_deep a b r (omega (arith, leaf.long)) leaf_type x m hx hm) (omega arith) (tag r) (get_or r 2 0) c 0 0 refl (omega (arith, leaf.long)) refl hc (sym (rw e refl)) (omega arith) (omega arith) in
        let there₂ : There a r 2 = there_on a r 1 there₁ (tag r) (get_or r 2 0) true refl (omega (arith, leaf.long)) refl (v.is (slot_at (tag r) 1) hc) refl in
        there_depth_law a b NODE r 1 (there_end a r 2 there₂ (omega (arith, leaf.long))) (deep_end a b NODE r 2 0 deep₂ (omega arith) (omega (arith, leaf.long)))

    pub leaf_whole : (t ≡ LIT → ⊥) → (b : List ℕ) → Some 1 ≡ there_depth a b NODE r
    leaf_whole n =
        let o = leaf_other (tag r) 1 (omega (arith, leaf.low, ht)) leaf.high in
        let c = code_of (slot_at (tag r) 1) in
        leaf_end c (refl, o.1) (ne_eqb c OF_NODE (λ q. absurd (omega (arith, q, o.0)))) (ref_none a c (get_or r 2 0) o.0)

    module _ (e : t ≡ LIT) (y n : ℕ) (hy : y ≡ get_or r 2 0) (hn : n ≡ get_or a VALUE 0) where
      value_code : (OF_VALUE ≡ code_of (slot_at (tag r) 1)) × (key_in (slot_at (tag r) 1) ≤ POLICY)
      value_code = leaf_value (tag r) 1 (sym ht ∙ e) refl

      pub value_absent : n ≤ y → (b : List ℕ) → None ≡ there_depth a b NODE r
      value_absent l b = absent_depth a b NODE r (there_off a r 1 there₁ (tag r) y false refl (omega (arith, leaf.long)) hy ((ref_out a OF_VALUE y n (omega arith) hn l (omega arith)).is (slot_at (tag r) 1) value_code) refl)

      pub value_there : y < n → (b : List ℕ) → Some 1 ≡ there_depth a b NODE r
      value_there l = leaf_end OF_VALUE value_code refl (rw (← hy) (ref_in a OF_VALUE y n (omega arith) hn l))

pub leaf_row : (r : List ℕ) (t : ℕ) → length r ≡ 3 → t ≡ tag r → LIT ≤ t → ltb t AND ≡ true → OnNone r
leaf_row r t l h low high = record { long = l; low = omega arith; high = omega (arith, ltb-true t AND high) }

-- ---- a node that works on one, with one item more that refers to a line of a key, of code c

module _ (a b r : List ℕ) (long : length r ≡ 4) (at-type : (OF_TYPE ≡ code_of (slot_at (tag r) 0)) × (key_in (slot_at (tag r) 0) ≤ POLICY)) (at_first : (OF_NODE ≡ code_of (slot_at (tag r) 1)) × (key_in (slot_at (tag r) 1) ≤ POLICY))
    (c : ℕ) (at_last : (c ≡ code_of (slot_at (tag r) 2)) × (key_in (slot_at (tag r) 2) ≤ POLICY)) (low : LINE ≤ c) (high : c < UNKNOWN) (x m : ℕ) (hx : x ≡ get_or r 1 0) (hm : m ≡ get_or a TYPE 0) where
  untyped : m ≤ x → None ≡ there_depth a b NODE r
  untyped = type_absent a b r (omega arith) at-type x m hx hm

  module _ (lx : x < m) (y n : ℕ) (hy : y ≡ get_or r 2 0) (hn : n ≡ get_or a NODE 0) where
    typed₁ : There a r 1
    typed₁ = type_there a b r (omega arith) at-type x m hx hm lx

    shallow₁ : Deep a b NODE r 1 0
    shallow₁ = type_deep a b r (omega arith) at-type x m hx hm

    first_absent : n ≤ y → None ≡ there_depth a b NODE r
    first_absent l = absent_depth a b NODE r (there_off a r 1 typed₁ (tag r) y false refl (omega arith) hy ((ref_out a OF_NODE y n (omega arith) hn l (omega arith)).is (slot_at (tag r) 1) at_first) refl)

    module _ (ly : y < n) (z k : ℕ) (hz : z ≡ get_or r 3 0) (hk : k ≡ get_or a (c % LINE) 0) where
      first₂ : There a r 2
      first₂ = there_on a r 1 typed₁ (tag r) y true refl (omega arith) hy ((ref_in a OF_NODE y n (omega arith) hn ly).is (slot_at (tag r) 1) at_first) refl

      last_absent : k ≤ z → None ≡ there_depth a b NODE r
      last_absent l = absent_depth a b NODE r (there_off a r 2 first₂ (tag r) z false refl (omega arith) hz ((ref_out a c z k low hk l high).is (slot_at (tag r) 2) at_last) refl)

      both_there : z < k → (d e m' : ℕ) → d ≡ get_or b (NODEDEPTHS + y) 0 → e ≡ cond (eqb c OF_NODE) (get_or (depths_in a b NODE) z 0) 0 → m' ≡ max d e → d < 4294967296 → e < 4294967296 → Some (m' + 1) ≡ there_depth a b NODE r
      both_there lz d e m' hd he hm' sd se =
          let u : d ≡ get_or (depths_in a b NODE) y 0 = depth_node a b NODE y n d hn ly refl hd in
          let deep₂ : Deep a b NODE r 2 d = deep_on a b NODE r 1 0 shallow₁ (omega arith) (tag r) y OF_NODE d d refl (omega arith) hy at_first u (omega arith) sd in
          let deep₃ : Deep a b NODE r 3 m' = deep_on a b NODE r 2 d deep₂ (omega arith) (tag r) z c e m' refl (omega arith) hz at_last he hm' se in
          let there₃ : There a r 3 = there_on a r 2 first₂ (tag r) z true refl (omega arith) hz ((ref_in a c z k low hk lz).is (slot_at (tag r) 2) at_last) refl in
          there_depth_law a b NODE r (m' + 1) (there_end a r 3 there₃ (omega arith)) (deep_end a b NODE r 3 m' deep₃ (omega arith) (omega arith))

-- ---- a node that works on one and has a text

module _ (a b r : List ℕ) (one : OnOne r) where
  one_type : (OF_TYPE ≡ code_of (slot_at (tag r) 0)) × (key_in (slot_at (tag r) 0) ≤ POLICY)
  one_type = node_type (tag r) 0 (omega (arith, one.low), omega (arith, one.high)) refl

  one_node : (OF_NODE ≡ code_of (slot_at (tag r) 1)) × (key_in (slot_at (tag r) 1) ≤ POLICY)
  one_node = node_first (tag r) 1 (omega (arith, one.low), omega (arith, one.high)) (omega (arith, one.low)) refl

  one_text : (LINE + TEXT ≡ code_of (slot_at (tag r) 2)) × (key_in (slot_at (tag r) 2) ≤ POLICY)
  one_text = node_text (tag r) 2 one.low one.high refl

  module _ (x m : ℕ) (hx : x ≡ get_or r 1 0) (hm : m ≡ get_or a TYPE 0) where
    pub one_untyped : m ≤ x → None ≡ there_depth a b NODE r
    one_untyped = untyped a b r one.long one_type one_node (LINE + TEXT) one_text (omega arith) (omega arith) x m hx hm

    module _ (lx : x < m) (y n : ℕ) (hy : y ≡ get_or r 2 0) (hn : n ≡ get_or a NODE 0) where
      pub one_first : n ≤ y → None ≡ there_depth a b NODE r
      one_first = first_absent a b r one.long one_type one_node (LINE + TEXT) one_text (omega arith) (omega arith) x m hx hm lx y n hy hn

      module _ (ly : y < n) (z k : ℕ) (hz : z ≡ get_or r 3 0) (hk : k ≡ get_or a TEXT 0) where
        pub one_absent : k ≤ z → None ≡ there_depth a b NODE r
        one_absent = last_absent a b r one.long one_type one_node (LINE + TEXT) one_text (omega arith) (omega arith) x m hx hm lx y n hy hn ly z k hz hk

        pub one_deep : z < k → (d : ℕ) → d ≡ get_or b (NODEDEPTHS + y) 0 → d < 4294967296 → Some (d + 1) ≡ there_depth a b NODE r
        one_deep lz d hd sd = both_there a b r one.long one_type one_node (LINE + TEXT) one_text (omega arith) (omega arith) x m hx hm lx y n hy hn ly z k hz hk lz d 0 d hd refl (omega arith) sd (omega arith)

pub one_row : (r : List ℕ) (t : ℕ) → length r ≡ 4 → t ≡ tag r → GET ≤ t → ltb t HASPATH ≡ true → OnOne r
one_row r t l h low high = record { long = l; low = omega arith; high = omega (arith, ltb-true t HASPATH high) }

-- ---- a node that works on two

module _ (a b r : List ℕ) (two : OnTwo r) where
  pub on_type : (OF_TYPE ≡ code_of (slot_at (tag r) 0)) × (key_in (slot_at (tag r) 0) ≤ POLICY)
  on_type = node_type (tag r) 0 (omega (arith, two.low), omega (arith, two.high)) refl

  pub on_first : (OF_NODE ≡ code_of (slot_at (tag r) 1)) × (key_in (slot_at (tag r) 1) ≤ POLICY)
  on_first = node_first (tag r) 1 (omega (arith, two.low), omega (arith, two.high)) two.low refl

  pub on_second : (OF_NODE ≡ code_of (slot_at (tag r) 2)) × (key_in (slot_at (tag r) 2) ≤ POLICY)
  on_second = node_second (tag r) 2 two.low (omega (arith, two.high)) refl

  module _ (x m : ℕ) (hx : x ≡ get_or r 1 0) (hm : m ≡ get_or a TYPE 0) where
    pub two_untyped : m ≤ x → None ≡ there_depth a b NODE r
    two_untyped = untyped a b r two.long on_type on_first OF_NODE on_second (omega arith) (omega arith) x m hx hm

    module _ (lx : x < m) (y n : ℕ) (hy : y ≡ get_or r 2 0) (hn : n ≡ get_or a NODE 0) where
      pub two_first : n ≤ y → None ≡ there_depth a b NODE r
      two_first = first_absent a b r two.long on_type on_first OF_NODE on_second (omega arith) (omega arith) x m hx hm lx y n hy hn

      module _ (ly : y < n) (z : ℕ) (hz : z ≡ get_or r 3 0) where
        pub two_second : n ≤ z → None ≡ there_depth a b NODE r
        two_second = last_absent a b r two.long on_type on_first OF_NODE on_second (omega arith) (omega arith) x m hx hm lx y n hy hn ly z n hz hn

        pub two_deep : z < n → (d e m' : ℕ) → d ≡ get_or b (NODEDEPTHS + y) 0 → e ≡ get_or b (NODEDEPTHS + z) 0 → m' ≡ max d e → d < 4294967296 → e < 4294967296 → Some (m' + 1) ≡ there_depth a b NODE r
        two_deep lz d e m' hd he =
            both_there a b r two.long on_type on_first OF_NODE on_second (omega arith) (omega arith) x m hx hm lx y n hy hn ly z n hz hn lz d e m' hd (depth_node a b NODE z n e hn lz refl he)

pub two_row : (r : List ℕ) (t : ℕ) → length r ≡ 4 → t ≡ tag r → AND ≤ t → ltb t IF ≡ true → OnTwo r
two_row r t l h low high = record { long = l; low = omega arith; high = omega (arith, ltb-true t IF high) }

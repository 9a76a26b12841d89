-- Uses of nodes, as the code marks them. Assumes nothing.
use mathlib.Core.Path.{◌≡◌, refl, sym, ap, ap₂, subst, ◌∙◌}
use mathlib.Core.Bool.{Bool, true, false, ◌||◌}
use mathlib.Core.List.{List, [], ◌∷◌}
use Prim.Native.Nat.{ℕ, suc, ◌+◌, ◌≤◌, ◌<◌}
use native.Mathlib.Numerals.{add-one}
use native.Mathlib.Omega.{arith}
use native.Mathlib.Decide.{dec_lt}
use borrow.Author.Tests.{eq-eqb, ne_eqb, le-ltb}
use lib.Dec.{eqb}
use lib.ListN.{length, get_or, take, drop, set, length-take, length-drop, get_or-eq_default}
use lib.Seq.{get_or-take, get_or-drop, set_out, take-set-lt, take-set-le, drop-set-lt, drop-set-add}
use Rattle.sheet.specs.Forms.{Slot, nothing, forms, form_of, slot_at, tag, items, key_of, is_line, keep, refs_from, refs, NODE, POLICY}
use Rattle.sheet.specs.Sheet.{marked, used_twice}
use Rattle.sheet.proofs.reading.Parsed.{policy_tag, tags_between, policy_tags}
use Rattle.table.specs.Layout.{USES, SIZES}
use Rattle.forms.specs.Rows.{OF_TYPE, OF_NODE, code as code_of}
use Rattle.forms.specs.Tags.{AND, POLICY_LINE}
use Rattle.forms.proofs.Table.{node_key}
use Rattle.depths.specs.declared.Places.{Places}
use Rattle.depths.specs.Codes.{key_in, places_at, place_code, places_after}
use Rattle.depths.specs.Depths.{OnTwo}
use Rattle.depths.proofs.FormTable.{place_here, place_next, no_node, no_node_after}
use Rattle.uses.specs.Uses.{uses_in, BY_NODE, BY_POLICY, Marked}
use Rattle.depths.proofs.ThereLaws.{item_in, items_end, or_false}
use Rattle.depths.proofs.DepthLaws.{line_code, refs_at, on_type, on_first, on_second}

-- ---- one node, marked with m

module _ (m : ℕ) (a b : List ℕ) (c x : ℕ) where
  pub use_other : (c ≡ OF_NODE → ⊥) → Marked m a b (keep (eqb c OF_NODE) x []) b false
  use_other n = rw (ne_eqb c OF_NODE n) (record { twice_is = refl; uses = λ z. refl; below = refl; above = λ z. refl })

  module _ (e : c ≡ OF_NODE) (n : ℕ) (hn : n ≡ get_or a NODE 0) where
    pub use_none : n ≤ x → Marked m a b (keep (eqb c OF_NODE) x []) b false
    use_none h =
        let l : length (uses_in a b) ≤ x = omega (arith, length-take (get_or a NODE 0) (drop USES b)) in
        let z : get_or (uses_in a b) x 0 ≡ 0 = get_or-eq_default (uses_in a b) 0 l in
        rw (eq-eqb c OF_NODE e)
        (record {
          twice_is = sym (rw z refl);
          uses = λ q. sym (set_out (uses_in a b) x m l);
          below = refl;
          above = λ q. refl;
        })

    module _ (h : x < n) (u : ℕ) (hu : u ≡ get_or b (USES + x) 0) where
      use_is : get_or (uses_in a b) x 0 ≡ u
      use_is = get_or-take (get_or a NODE 0) (drop USES b) x 0 (omega arith) ∙ get_or-drop USES b x 0 ∙ sym hu

      pub use_twice : u ≡ BY_NODE → Marked m a b (keep (eqb c OF_NODE) x []) b true
      use_twice o =
          rw (eq-eqb c OF_NODE e)
          (record {
            twice_is = sym (rw (use_is, eq-eqb u BY_NODE o) refl);
            uses = λ q. absurd (never q);
            below = refl;
            above = λ q. refl;
          })
        where
          never : true ≡ false → ⊥
          never q = let z : ◌≡◌ {A = ℕ} 0 1 = cc in omega arith

      pub use_once : (u ≡ BY_NODE → ⊥) → (b' : List ℕ) → b' ≡ set b (USES + x) m → Marked m a b (keep (eqb c OF_NODE) x []) b' false
      use_once o b' hb =
          rw (eq-eqb c OF_NODE e)
          (record {
            twice_is = sym (rw (use_is, ne_eqb u BY_NODE o) refl);
            uses = λ q. rw (hb, drop-set-add USES b x m) (take-set-lt (get_or a NODE 0) (drop USES b) x m (omega arith));
            below = rw hb (take-set-le USES b (USES + x) m (omega arith));
            above = λ q. rw hb (drop-set-lt SIZES b (USES + x) m (omega arith));
          })

-- ---- the nodes of a node's row

pub record Using (a b₀ : List ℕ) (r b : List ℕ) (j : ℕ) : Type 0 where
  pub twice : used_twice (uses_in a b₀) (refs NODE r) ≡ used_twice (uses_in a b) (refs_from NODE (tag r) j (drop (suc j) r))
  pub marks : marked BY_NODE (uses_in a b₀) (refs NODE r) ≡ marked BY_NODE (uses_in a b) (refs_from NODE (tag r) j (drop (suc j) r))
  pub below : take USES b ≡ take USES b₀
  pub above : get_or a NODE 0 ≤ 1024 → drop SIZES b ≡ drop SIZES b₀
  pub long : length b ≡ length b₀
  pub near : j ≤ length r

pub using_start : (a b r : List ℕ) → Using a b r b 0
unfolding refs
using_start a b r = record { twice = refl; marks = refl; below = refl; above = λ z. refl; long = refl; near = omega arith }

twice_keep : (u : List ℕ) (v : Bool) (x : ℕ) (l : List ℕ) → used_twice u (keep v x l) ≡ (used_twice u (keep v x []) || used_twice (marked BY_NODE u (keep v x [])) l)
twice_keep u true x l = sym (ap (λ (y : Bool). y || used_twice (set u x 1) l) (or_false (eqb (get_or u x 0) 1)))
twice_keep u false x l = refl

marked_keep : (u : List ℕ) (v : Bool) (x : ℕ) (l : List ℕ) → marked BY_NODE u (keep v x l) ≡ marked BY_NODE (marked BY_NODE u (keep v x [])) l
marked_keep u true x l = refl
marked_keep u false x l = refl

module _ (a b₀ r b : List ℕ) (j : ℕ) (i : Using a b₀ r b j) where
  module _ (t x c : ℕ) (ht : t ≡ tag r) (h : j + 1 < length r) (hx : x ≡ get_or r (j + 1) 0) (hc : (c ≡ code_of (slot_at t j)) × (key_in (slot_at t j) ≤ POLICY))
      (b' : List ℕ) (w : Bool) (m : Marked BY_NODE a b (keep (eqb c OF_NODE) x []) b' w) where
    abbrev rest : List ℕ
    rest = refs_from NODE (tag r) (suc j) (drop (suc (suc j)) r)

    left_is : refs_from NODE (tag r) j (drop (suc j) r) ≡ keep (eqb c OF_NODE) x rest
    left_is = refs_at NODE (omega arith) r j t x c ht h hx hc

    pub using_twice : w ≡ true → Marked BY_NODE a b₀ (refs NODE r) b' true
    using_twice e =
        record {
          twice_is = sym (i.twice ∙ ap (used_twice (uses_in a b)) left_is ∙ twice_keep (uses_in a b) (eqb c OF_NODE) x rest ∙ rw (← m.twice_is, e) refl);
          uses = λ q. absurd (never q);
          below = m.below ∙ i.below;
          above = λ q. m.above q ∙ i.above q;
        }
      where
        never : true ≡ false → ⊥
        never q = let z : ◌≡◌ {A = ℕ} 0 1 = cc in omega arith

    pub using_on : w ≡ false → length b' ≡ length b → Using a b₀ r b' (j + 1)
    using_on e l =
        subst (Using a b₀ r b') (sym (add-one j))
        (record {
          twice = i.twice ∙ ap (used_twice (uses_in a b)) left_is ∙ twice_keep (uses_in a b) (eqb c OF_NODE) x rest
              ∙ ap₂ (λ (y : Bool) (u : List ℕ). y || used_twice u rest) (sym m.twice_is ∙ e) (sym (m.uses e));
          marks = i.marks ∙ ap (marked BY_NODE (uses_in a b)) left_is ∙ marked_keep (uses_in a b) (eqb c OF_NODE) x rest ∙ ap (λ (u : List ℕ). marked BY_NODE u rest) (sym (m.uses e));
          below = m.below ∙ i.below;
          above = λ q. m.above q ∙ i.above q;
          long = l ∙ i.long;
          near = omega arith;
        })

  pub using_end : length r ≤ j + 1 → Marked BY_NODE a b₀ (refs NODE r) b false
  using_end h =
      let e : refs_from NODE (tag r) j (drop (suc j) r) ≡ [] = ap (refs_from NODE (tag r) j) (items_end r j h) in
      record {
        twice_is = sym (i.twice ∙ ap (used_twice (uses_in a b)) e);
        uses = λ q. sym (i.marks ∙ ap (marked BY_NODE (uses_in a b)) e);
        below = i.below;
        above = i.above;
      }

-- the same, with the places left
pub record Marking (a b₀ r b : List ℕ) (p : Places) (j : ℕ) : Type 0 where
  pub marks : Using a b₀ r b j
  pub places : p ≡ places_at (tag r) j

pub marking_start : (a b r : List ℕ) (t : ℕ) (p : Places) → t ≡ tag r → p ≡ places_at t 0 → Marking a b r b p 0
marking_start a b r t p ht hp = record { marks = using_start a b r; places = hp ∙ ap (λ (x : ℕ). places_at x 0) ht }

module _ (a b₀ r b : List ℕ) (p : Places) (j : ℕ) (i : Marking a b₀ r b p j) where
  module _ (x c : ℕ) (h : j < length (items r)) (hc : c ≡ place_code p) (hx : x ≡ get_or (items r) j 0) (b' : List ℕ) (v : Bool) (m : Marked BY_NODE a b (keep (eqb c OF_NODE) x []) b' v) where
    here : (j + 1 < length r) × (x ≡ get_or r (j + 1) 0)
    here = item_in r j x h hx

    pub marking_twice : v ≡ true → Marked BY_NODE a b₀ (refs NODE r) b' true
    marking_twice = using_twice a b₀ r b j i.marks (tag r) x c refl here.0 here.1 (place_here (tag r) j p c i.places hc) b' v m

    pub marking_on : v ≡ false → length b' ≡ length b → (q : Places) → q ≡ places_after p → Marking a b₀ r b' q (j + 1)
    marking_on e l q hq =
        record {
          marks = using_on a b₀ r b j i.marks (tag r) x c refl here.0 here.1 (place_here (tag r) j p c i.places hc) b' v m e l;
          places = place_next (tag r) j p q i.places hq;
        }

  pub marking_end : length (items r) ≤ j → Marked BY_NODE a b₀ (refs NODE r) b false
  marking_end h = using_end a b₀ r b j i.marks (omega (arith, length-drop 1 r))

-- ---- rows without nodes

no_refs : (t j : ℕ) (l : List ℕ) → ((i : ℕ) → eqb (code_of (slot_at t i)) OF_NODE ≡ false) → refs_from NODE t j l ≡ []
no_refs t j [] h = refl
no_refs t j (x ∷ l) h = rw (line_code NODE (omega arith) (slot_at t j), h j) (no_refs t (suc j) l h)

pub refs_before : (r : List ℕ) (t : ℕ) → t ≡ tag r → t < AND → refs NODE r ≡ []
unfolding refs
refs_before r t e h = no_refs (tag r) 0 (items r) (λ i. no_node (tag r) i (omega arith))

module _ (m : ℕ) (a b r : List ℕ) where
  use_nothing : refs NODE r ≡ [] → Marked m a b (refs NODE r) b false
  use_nothing e = rw e (record { twice_is = refl; uses = λ z. refl; below = refl; above = λ z. refl })

  pub use_before : (t : ℕ) → t ≡ tag r → t < AND → Marked m a b (refs NODE r) b false
  use_before t e h = use_nothing (refs_before r t e h)

  use_after : POLICY_LINE < tag r → Marked m a b (refs NODE r) b false
  unfolding refs
  use_after h = use_nothing (no_refs (tag r) 0 (items r) (λ i. no_node_after (tag r) i h))

-- ---- a policy's root

root_slot : (j : ℕ) → slot_at POLICY_LINE (3 + j) ≡ nothing
unfolding slot_at form_of forms
root_slot j = rw (le-ltb (3 + j) 3 (omega arith)) refl

root_rest : (j : ℕ) (l : List ℕ) → refs_from NODE POLICY_LINE (3 + j) l ≡ []
root_rest j [] = refl
root_rest j (x ∷ l) =
    let e : suc (3 + j) ≡ 3 + suc j = omega arith in
    ap (λ (s : Slot). keep (is_line NODE s) x (refs_from NODE POLICY_LINE (suc (3 + j)) l)) (root_slot j) ∙ ap (λ (i : ℕ). refs_from NODE POLICY_LINE i l) e ∙ root_rest (suc j) l

refs_few : (l : List ℕ) → length l < 3 → refs_from NODE POLICY_LINE 0 l ≡ []
unfolding slot_at form_of forms
refs_few [] h = refl
refs_few (x ∷ []) h = refl
refs_few (x ∷ y ∷ []) h = refl
refs_few (x ∷ y ∷ z ∷ l) h = absurd (omega arith)

refs_root : (l : List ℕ) → 3 ≤ length l → refs_from NODE POLICY_LINE 0 l ≡ get_or l 2 0 ∷ []
unfolding slot_at form_of forms
refs_root [] h = absurd (omega arith)
refs_root (x ∷ []) h = absurd (omega arith)
refs_root (x ∷ y ∷ []) h = absurd (omega arith)
refs_root (x ∷ y ∷ z ∷ l) h = ap (λ (k : List ℕ). z ∷ k) (root_rest 0 l)

module _ (r : List ℕ) (k : ℕ) (hk : k ≡ key_of r) (e : k ≡ POLICY) where
  policy_tag_law : tag r ≡ POLICY_LINE
  unfolding key_of
  policy_tag_law = let (lo, hi) = tags_between POLICY policy_tag policy_tag (tag r) (omega arith) policy_tags (sym hk ∙ e) in omega (arith, lo, hi)

  module _ (a b : List ℕ) where
    pub use_rootless : length r < 4 → Marked BY_POLICY a b (refs NODE r) b false
    unfolding refs
    use_rootless h = use_nothing BY_POLICY a b r (ap (λ (t : ℕ). refs_from NODE t 0 (items r)) policy_tag_law ∙ refs_few (items r) (rw (length-drop 1 r) (omega arith)))

    pub use_root_law : 4 ≤ length r → (x : ℕ) → x ≡ get_or r 3 0 → (b' : List ℕ) (v : Bool) → Marked BY_POLICY a b (keep (eqb OF_NODE OF_NODE) x []) b' v → Marked BY_POLICY a b (refs NODE r) b' v
    unfolding refs
    use_root_law h x hx b' v m =
        let q : refs NODE r ≡ x ∷ [] = ap (λ (t : ℕ). refs_from NODE t 0 (items r)) policy_tag_law ∙ refs_root (items r) (rw (length-drop 1 r) (omega arith)) ∙ ap (λ (y : ℕ). y ∷ []) (get_or-drop 1 r 2 0 ∙ sym hx) in
        rw q m

policy_key : (form_of POLICY_LINE).key ≡ POLICY
unfolding form_of forms
policy_key = refl

-- a row of a key that is neither that of nodes nor that of policies uses no node
pub use_neither : (a b r : List ℕ) (k : ℕ) → k ≡ key_of r → (k ≡ NODE → ⊥) → (k ≡ POLICY → ⊥) → Marked BY_POLICY a b (refs NODE r) b false
unfolding key_of
use_neither a b r k e n p = go (dec_lt (tag r) AND) (dec_lt (tag r) POLICY_LINE) (dec_lt POLICY_LINE (tag r))
  where
    go : Dec (tag r < AND) → Dec (tag r < POLICY_LINE) → Dec (POLICY_LINE < tag r) → Marked BY_POLICY a b (refs NODE r) b false
    go (yes h) y z = use_before BY_POLICY a b r (tag r) refl h
    go (no h) (yes l) z = absurd (n (e ∙ sym (node_key (tag r) (omega arith) (omega arith))))
    go (no h) (no l) (yes u) = use_after BY_POLICY a b r u
    go (no h) (no l) (no u) = let q : tag r ≡ POLICY_LINE = omega arith in absurd (p (e ∙ ap (λ (x : ℕ). (form_of x).key) q ∙ policy_key))

-- ---- a node that works on two

module _ (a b r : List ℕ) (two : OnTwo r) where
  using₁ : Using a b r b 1
  using₁ = using_on a b r b 0 (using_start a b r) (tag r) (get_or r 1 0) OF_TYPE refl (omega (arith, two.long)) refl (on_type a b r two) b false (use_other BY_NODE a b OF_TYPE (get_or r 1 0) (λ q. absurd (omega arith))) refl refl

  module _ (y : ℕ) (hy : y ≡ get_or r 2 0) (b₁ : List ℕ) (u : Bool) (m : Marked BY_NODE a b (keep (eqb OF_NODE OF_NODE) y []) b₁ u) where
    pub first_twice : u ≡ true → Marked BY_NODE a b (refs NODE r) b₁ true
    first_twice = using_twice a b r b 1 using₁ (tag r) y OF_NODE refl (omega (arith, two.long)) hy (on_first a b r two) b₁ u m

    module _ (e : u ≡ false) (l : length b₁ ≡ length b) (z : ℕ) (hz : z ≡ get_or r 3 0) (b₂ : List ℕ) (v : Bool) (n : Marked BY_NODE a b₁ (keep (eqb OF_NODE OF_NODE) z []) b₂ v) (k : length b₂ ≡ length b₁) where
      using₂ : Using a b r b₁ 2
      using₂ = using_on a b r b 1 using₁ (tag r) y OF_NODE refl (omega (arith, two.long)) hy (on_first a b r two) b₁ u m e l

      pub second_marked : Marked BY_NODE a b (refs NODE r) b₂ v
      second_marked = go v n
        where
          go : (v : Bool) → Marked BY_NODE a b₁ (keep (eqb OF_NODE OF_NODE) z []) b₂ v → Marked BY_NODE a b (refs NODE r) b₂ v
          go true n = using_twice a b r b₁ 2 using₂ (tag r) z OF_NODE refl (omega (arith, two.long)) hz (on_second a b r two) b₂ true n refl
          go false n = using_end a b r b₂ 3 (using_on a b r b₁ 2 using₂ (tag r) z OF_NODE refl (omega (arith, two.long)) hz (on_second a b r two) b₂ false n refl k) (omega (arith, two.long))

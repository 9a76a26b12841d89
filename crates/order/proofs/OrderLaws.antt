-- Order of keys and greatest numbers of lines, as the code asks for them. Assumes nothing.
use mathlib.Core.Path.{◌≡◌, refl, sym, ap, subst, ◌∙◌}
use mathlib.Core.Logic.{◌⊎◌, inl, inr}
use mathlib.Core.Bool.{Bool, true, false, not, ◌&&◌, ◌||◌}
use mathlib.Core.List.{List, [], ◌∷◌}
use Prim.Native.Nat.{ℕ, zero, suc, ◌+◌, ◌-◌, ◌≤◌, ◌<◌}
use native.Mathlib.Numerals.{add-one}
use native.Mathlib.Omega.{arith}
use native.Mathlib.Decide.{ℕ_discrete, dec_lt}
use borrow.Author.Tests.{eqb-true, eq-eqb, ne_eqb, lt-leb, le-leb}
use lib.Dec.{leb, eqb}
use lib.ListN.{length, get_or, take, drop, set, drop_of_length-le, get_or-eq_default}
use lib.Seq.{drop-cons, get_or-set_other, get_or-take}
use Rattle.sheet.specs.Forms.{no_key, SHEET, TEXT, KIND, SHAPE, PRINCIPAL, ACTION, RESOURCE, CONTEXT, DAY, NODE, POLICY, LINK, TERM}
use Rattle.sheet.specs.State.{State, count}
use Rattle.sheet.specs.Sheet.{least, greatest, reach, enough, all_zero, in_order, too_many}
use Rattle.sheet.proofs.reading.Parsed.{all_below}
use Rattle.table.specs.Layout.{held, limit}
use Rattle.table.proofs.Counts.{count_at}
use Rattle.table.proofs.Rows.{count_held}
use Rattle.table.proofs.Held.{length_tab, counts_in, counts_held}
use Rattle.forms.specs.declared.Key as K
use Rattle.forms.specs.Keys.{limits, keyed}
use Rattle.forms.proofs.Tests.{ranged}
use Rattle.forms.proofs.Keys.{most_is}

-- the state that words hold, for what asks of it neither texts nor depths
abbrev pub rows_held : List ℕ → State
rows_held a = held [] a []

counts_long : (a : List ℕ) → length (counts_in a) ≡ no_key
counts_long a = length_tab (λ (k : ℕ). get_or a k 0) 0 no_key

-- ---- tables

unfoldable least_table : List ℕ
least_table = 1 ∷ 0 ∷ 0 ∷ 0 ∷ 0 ∷ 0 ∷ 0 ∷ 1 ∷ 1 ∷ 1 ∷ 1 ∷ 1 ∷ 0 ∷ 0 ∷ 0 ∷ 0 ∷ []

module _ (s : State) where
  least_set : least s ≡ set least_table SHAPE (count s KIND)
  unfolding least_table
  least_set = refl

  most_set : greatest s ≡ set (take no_key limits) SHAPE (count s KIND)
  most_set = refl

least_in : (a : List ℕ) (k : ℕ) → (k ≡ SHAPE → ⊥) → get_or least_table k 0 ≡ get_or (least (rows_held a)) k 0
least_in a k h = sym (ap (λ (l : List ℕ). get_or l k 0) (least_set (rows_held a)) ∙ get_or-set_other least_table SHAPE k (count (rows_held a) KIND) 0 h)

module _ (a : List ℕ) where
  least_by : (v lo n : ℕ) → all_below (λ (i : ℕ). eqb v (get_or least_table (lo + i) 0)) n ≡ true → (i : ℕ) → (i ≡ SHAPE → ⊥) → lo ≤ i → i < lo + n → v ≡ get_or (least (rows_held a)) i 0
  least_by v lo n e i d l h = eqb-true v (get_or least_table i 0) (ranged (λ (i : ℕ). eqb v (get_or least_table i 0)) lo n e i l h) ∙ least_in a i d

  least_shape : get_or (least (rows_held a)) SHAPE 0 ≡ get_or a KIND 0
  least_shape = count_held [] a [] KIND (omega arith)

  -- the keys of which a line can be missing: sheet, shape, those of the request, and day
  least_one : (i : ℕ) → (i ≡ SHEET) ⊎ ((PRINCIPAL ≤ i) × (i < NODE)) → 1 ≡ get_or (least (rows_held a)) i 0
  unfolding least_table
  least_one i (inl e) = least_by 1 SHEET 1 refl i (λ q. absurd (omega arith)) (omega arith) (omega arith)
  least_one i (inr e) = least_by 1 PRINCIPAL (NODE - PRINCIPAL) refl i (λ q. absurd (omega arith)) e.0 e.1

  least_none : (i : ℕ) → i < no_key → (i ≡ SHEET → ⊥) → (i ≡ SHAPE → ⊥) → (i < PRINCIPAL) ⊎ (NODE ≤ i) → 0 ≡ get_or (least (rows_held a)) i 0
  unfolding least_table
  least_none i h z d (inl l) = least_by 0 TEXT (PRINCIPAL - TEXT) refl i d (omega arith) l
  least_none i h z d (inr l) = least_by 0 NODE (no_key - NODE) refl i d l h

pub most_shape : (a : List ℕ) (k n : ℕ) → k ≡ SHAPE → n ≡ get_or a KIND 0 → n ≡ get_or (greatest (rows_held a)) k 0
most_shape a k n h e = rw h (e ∙ sym (count_held [] a [] KIND (omega arith)))

-- by the row of the table of keys
pub most_row : (a : List ℕ) (k : ℕ) (r : K.Key) → r ≡ keyed k → (k ≡ SHAPE → ⊥) → k < no_key → r.most ≡ get_or (greatest (rows_held a)) k 0
unfolding limit
most_row a k r e h l =
    most_is k r e
    ∙ sym (ap (λ (m : List ℕ). get_or m k 0) (most_set (rows_held a)) ∙ get_or-set_other (take no_key limits) SHAPE k (count (rows_held a) KIND) 0 h ∙ get_or-take no_key limits k 0 l)

pub most_out : (a : List ℕ) (k : ℕ) → no_key ≤ k → 0 ≡ get_or (greatest (rows_held a)) k 0
most_out a k h = sym (get_or-eq_default (greatest (rows_held a)) 0 h)

-- ---- 4

pub full_none : (a : List ℕ) (k m : ℕ) → m ≡ get_or (greatest (rows_held a)) k 0 → m ≡ 0 → true ≡ leb (get_or (greatest (rows_held a)) k 0) (count (rows_held a) k)
full_none a k m h z = sym (le-leb (get_or (greatest (rows_held a)) k 0) (count (rows_held a) k) (omega arith))

below_most : (a : List ℕ) (k m : ℕ) → m ≡ get_or (greatest (rows_held a)) k 0 → (m ≡ 0 → ⊥) → k < no_key
below_most a k m h z = go (ℕ_discrete (no_key - k) 0)
  where
    go : Dec (no_key - k ≡ 0) → k < no_key
    go (yes d) = absurd (z (h ∙ sym (most_out a k (omega arith))))
    go (no d) = omega arith

pub full_some : (a : List ℕ) (k m n : ℕ) → m ≡ get_or (greatest (rows_held a)) k 0 → (m ≡ 0 → ⊥) → n ≡ get_or a k 0
    → leb m n ≡ leb (get_or (greatest (rows_held a)) k 0) (count (rows_held a) k)
full_some a k m n h z e = sym (rw (← h, count_held [] a [] k (below_most a k m h z), ← e) refl)

-- a limit of nodes is not that of their uses
pub nodes_many : (a : List ℕ) (b : Bool) → b ≡ leb (get_or (greatest (rows_held a)) NODE 0) (count (rows_held a) NODE) → (r : List ℕ) → b ≡ too_many (rows_held a) NODE r
nodes_many a b e r = e ∙ sym (alone (leb (get_or (greatest (rows_held a)) NODE 0) (count (rows_held a) NODE)))
  where
    alone : (x : Bool) → (x || false) ≡ x
    alone true = refl
    alone false = refl

-- ---- 3: the key of the line before

pub turn_again : (a : List ℕ) (k last : ℕ) → in_order (rows_held a) last ≡ true → k ≡ last → true ≡ in_order (rows_held a) k
turn_again a k last h e = sym (rw e h)

-- ---- 3: keys after k

pub record Zeros (a : List ℕ) (k i : ℕ) : Type 0 where
  pub left : all_zero (drop (suc k) (counts_in a)) ≡ all_zero (drop i (counts_in a))

pub zeros_start : (a : List ℕ) (k : ℕ) → Zeros a k (k + 1)
zeros_start a k = record { left = rw (add-one k) }

module _ (a : List ℕ) (k i : ℕ) (z : Zeros a k i) where
  order_is : in_order (rows_held a) k ≡ (all_zero (drop i (counts_in a)) && enough (rows_held a) k)
  order_is = ap (λ (c : List ℕ). all_zero (drop (suc k) c) && enough (rows_held a) k) (counts_held [] a []) ∙ ap (λ (x : Bool). x && enough (rows_held a) k) z.left

  module _ (n : ℕ) (h : i < no_key) (e : n ≡ get_or a i 0) where
    zeros_at : drop i (counts_in a) ≡ n ∷ drop (suc i) (counts_in a)
    zeros_at = drop-cons (counts_in a) i 0 (rw (counts_long a) h) ∙ ap (λ (x : ℕ). x ∷ drop (suc i) (counts_in a)) (count_at a i h ∙ sym e)

    pub zeros_off : (n ≡ 0 → ⊥) → false ≡ in_order (rows_held a) k
    zeros_off d = sym (order_is ∙ rw (zeros_at, ne_eqb n 0 d) refl)

    pub zeros_on : n ≡ 0 → Zeros a k (i + 1)
    zeros_on d = record { left = z.left ∙ rw (zeros_at, eq-eqb n 0 d, add-one i) refl }

  pub zeros_end : (r : Bool) → no_key ≤ i → r ≡ enough (rows_held a) k → r ≡ in_order (rows_held a) k
  zeros_end r h e = e ∙ sym (order_is ∙ ap (λ (l : List ℕ). all_zero l && enough (rows_held a) k) (drop_of_length-le (counts_in a) {i = i} (rw (counts_long a) h)))

-- after the nodes' key there are three keys
pub nodes_off : (a : List ℕ) (k n : ℕ) → k ≡ NODE → n ≡ get_or a POLICY 0 → (n ≡ 0 → ⊥) → false ≡ in_order (rows_held a) k
nodes_off a k n d e z = rw d (zeros_off a NODE POLICY (zeros_start a NODE) n (omega arith) e z)

module _ (a : List ℕ) (k n m : ℕ) (d : k ≡ NODE) (e : n ≡ get_or a POLICY 0) (z : n ≡ 0) (f : m ≡ get_or a LINK 0) where
  no_policies : Zeros a NODE LINK
  no_policies = zeros_on a NODE POLICY (zeros_start a NODE) n (omega arith) e z

  pub links_off : (m ≡ 0 → ⊥) → false ≡ in_order (rows_held a) k
  links_off y = rw d (zeros_off a NODE LINK no_policies m (omega arith) f y)

  module _ (y : m ≡ 0) (l : ℕ) (g : l ≡ get_or a TERM 0) where
    no_links : Zeros a NODE TERM
    no_links = zeros_on a NODE LINK no_policies m (omega arith) f y

    pub terms_off : (l ≡ 0 → ⊥) → false ≡ in_order (rows_held a) k
    terms_off x = rw d (zeros_off a NODE TERM no_links l (omega arith) g x)

    pub nodes_on : (r : Bool) → l ≡ 0 → r ≡ enough (rows_held a) NODE → r ≡ in_order (rows_held a) k
    nodes_on r x h = rw d (zeros_end a NODE no_key (zeros_on a NODE TERM no_links l (omega arith) g x) r (omega arith) h)

-- ---- 3: keys before k

pub record Reached (a : List ℕ) (k i : ℕ) : Type 0 where
  pub near : i ≤ k
  pub left : reach (take k (counts_in a)) (least (rows_held a)) ≡ reach (take (k - i) (drop i (counts_in a))) (drop i (least (rows_held a)))

reached_start : (a : List ℕ) (k : ℕ) → Reached a k 0
reached_start a k = let z : k - 0 ≡ k = omega arith in record { near = omega arith; left = rw z }

module _ (a : List ℕ) (k i : ℕ) (z : Reached a k i) where
  enough_is : enough (rows_held a) k ≡ reach (take (k - i) (drop i (counts_in a))) (drop i (least (rows_held a)))
  enough_is = ap (λ (c : List ℕ). reach (take k c) (least (rows_held a))) (counts_held [] a []) ∙ z.left

  module _ (n m : ℕ) (h : i < k) (top : k ≤ no_key) (e : n ≡ get_or a i 0) (f : m ≡ get_or (least (rows_held a)) i 0) where
    reach_at : reach (take (k - i) (drop i (counts_in a))) (drop i (least (rows_held a)))
        ≡ (leb m n && reach (take (k - (i + 1)) (drop (i + 1) (counts_in a))) (drop (i + 1) (least (rows_held a))))
    reach_at =
        let p : k - i ≡ suc (k - (i + 1)) = omega arith in
        let l : i < no_key = omega arith in
        rw (p, drop-cons (counts_in a) i 0 (rw (counts_long a) l), count_at a i l, ← e, drop-cons (least (rows_held a)) i 0 l, ← f, add-one i) refl

    reached_off : n < m → false ≡ enough (rows_held a) k
    reached_off d = sym (enough_is ∙ reach_at ∙ rw (lt-leb m n d) refl)

    reached_on : m ≤ n → Reached a k (i + 1)
    reached_on d = record { near = omega arith; left = z.left ∙ reach_at ∙ rw (le-leb m n d) refl }

  reached_end : k ≤ i → true ≡ enough (rows_held a) k
  reached_end h = let p : k - i ≡ 0 = omega arith in sym (enough_is ∙ rw p refl)

module _ (a : List ℕ) (k : ℕ) (top : k ≤ no_key) where
  -- a key before k lacks a line
  missing_from : (n i : ℕ) → Reached a k i → i + n < k → get_or a (i + n) 0 < get_or (least (rows_held a)) (i + n) 0 → false ≡ enough (rows_held a) k
  missing_from zero i z h l =
      let e : i + 0 ≡ i = omega arith in
      reached_off a k i z (get_or a i 0) (get_or (least (rows_held a)) i 0) (omega arith) top refl refl (subst (λ (j : ℕ). get_or a j 0 < get_or (least (rows_held a)) j 0) e l)
  missing_from (suc n) i z h l = go (dec_lt (get_or a i 0) (get_or (least (rows_held a)) i 0)) (λ y. missing_from n (i + 1) y (omega arith) (subst (λ (j : ℕ). get_or a j 0 < get_or (least (rows_held a)) j 0) e l))
    where
      e : i + suc n ≡ i + 1 + n
      e = omega arith

      go : Dec (get_or a i 0 < get_or (least (rows_held a)) i 0) → (Reached a k (i + 1) → false ≡ enough (rows_held a) k) → false ≡ enough (rows_held a) k
      go (yes d) f = reached_off a k i z (get_or a i 0) (get_or (least (rows_held a)) i 0) (omega arith) top refl refl d
      go (no d) f = f (reached_on a k i z (get_or a i 0) (get_or (least (rows_held a)) i 0) (omega arith) top refl refl (omega arith))

  all_from : (n i : ℕ) → Reached a k i → i + n ≡ k → ((j : ℕ) → j < k → get_or (least (rows_held a)) j 0 ≤ get_or a j 0) → true ≡ enough (rows_held a) k
  all_from zero i z e h = reached_end a k i z (omega arith)
  all_from (suc n) i z e h = all_from n (i + 1) (reached_on a k i z (get_or a i 0) (get_or (least (rows_held a)) i 0) (omega arith) top refl refl (h i (omega arith))) (omega arith) h

  pub one_missing : (i n : ℕ) → (i ≡ SHEET) ⊎ ((PRINCIPAL ≤ i) × (i < NODE)) → i < k → n ≡ get_or a i 0 → n ≡ 0 → false ≡ enough (rows_held a) k
  one_missing i n o h e z = missing_from i 0 (reached_start a k) (omega arith) (subst (λ (j : ℕ). get_or a j 0 < get_or (least (rows_held a)) j 0) q (omega (arith, least_one a i o)))
    where
      q : i ≡ 0 + i
      q = omega arith

  pub shape_missing : (n m : ℕ) → SHAPE < k → n ≡ get_or a SHAPE 0 → m ≡ get_or a KIND 0 → n < m → false ≡ enough (rows_held a) k
  shape_missing n m h e f l = missing_from SHAPE 0 (reached_start a k) h (omega (arith, least_shape a))

  pub none_missing : (SHEET < k → 1 ≤ get_or a SHEET 0) → (SHAPE < k → get_or a KIND 0 ≤ get_or a SHAPE 0) → (PRINCIPAL < k → 1 ≤ get_or a PRINCIPAL 0) → (ACTION < k → 1 ≤ get_or a ACTION 0)
      → (RESOURCE < k → 1 ≤ get_or a RESOURCE 0) → (CONTEXT < k → 1 ≤ get_or a CONTEXT 0) → (DAY < k → 1 ≤ get_or a DAY 0)
      → true ≡ enough (rows_held a) k
  none_missing sheet shape principal action resource context day = all_from k 0 (reached_start a k) (omega arith) each
    where
      one : (j i : ℕ) → j ≡ i → (i ≡ SHEET) ⊎ ((PRINCIPAL ≤ i) × (i < NODE)) → 1 ≤ get_or a i 0 → get_or (least (rows_held a)) j 0 ≤ get_or a j 0
      one j i e o l = rw e (omega (arith, least_one a i o))

      single : (j : ℕ) → j < k → PRINCIPAL ≤ j → j < NODE → Dec (j ≡ PRINCIPAL) → Dec (j ≡ ACTION) → Dec (j ≡ RESOURCE) → Dec (j ≡ CONTEXT) → get_or (least (rows_held a)) j 0 ≤ get_or a j 0
      single j h l u (yes e) y z w = one j PRINCIPAL e (inr (omega arith, omega arith)) (principal (omega arith))
      single j h l u (no x) (yes e) z w = one j ACTION e (inr (omega arith, omega arith)) (action (omega arith))
      single j h l u (no x) (no y) (yes e) w = one j RESOURCE e (inr (omega arith, omega arith)) (resource (omega arith))
      single j h l u (no x) (no y) (no z) (yes e) = one j CONTEXT e (inr (omega arith, omega arith)) (context (omega arith))
      single j h l u (no x) (no y) (no z) (no w) = let e : j ≡ DAY = omega arith in one j DAY e (inr (omega arith, omega arith)) (day (omega arith))

      go : (j : ℕ) → j < k → Dec (j ≡ SHEET) → Dec (j ≡ SHAPE) → Dec (j < PRINCIPAL) → Dec (j < NODE) → get_or (least (rows_held a)) j 0 ≤ get_or a j 0
      go j h (yes e) d u v = one j SHEET e (inl refl) (sheet (omega arith))
      go j h (no z) (yes e) u v = rw e (omega (arith, least_shape a, shape (omega arith)))
      go j h (no z) (no d) (yes u) v = omega (arith, least_none a j (omega arith) z d (inl u))
      go j h (no z) (no d) (no u) (yes v) = single j h (omega arith) v (ℕ_discrete j PRINCIPAL) (ℕ_discrete j ACTION) (ℕ_discrete j RESOURCE) (ℕ_discrete j CONTEXT)
      go j h (no z) (no d) (no u) (no v) = omega (arith, least_none a j (omega arith) z d (inr (omega arith)))

      each : (j : ℕ) → j < k → get_or (least (rows_held a)) j 0 ≤ get_or a j 0
      each j h = go j h (ℕ_discrete j SHEET) (ℕ_discrete j SHAPE) (dec_lt j PRINCIPAL) (dec_lt j NODE)

  pub day_decides : (n : ℕ) → DAY < k → n ≡ get_or a DAY 0 → 1 ≤ get_or a SHEET 0 → get_or a KIND 0 ≤ get_or a SHAPE 0 → 1 ≤ get_or a PRINCIPAL 0 → 1 ≤ get_or a ACTION 0 → 1 ≤ get_or a RESOURCE 0 → 1 ≤ get_or a CONTEXT 0
      → not (eqb n 0) ≡ enough (rows_held a) k
  day_decides n h e sheet shape principal action resource context = go (ℕ_discrete n 0)
    where
      go : Dec (n ≡ 0) → not (eqb n 0) ≡ enough (rows_held a) k
      go (yes z) = ap not (eq-eqb n 0 z) ∙ one_missing DAY n (inr (omega arith, omega arith)) h e z
      go (no z) = ap not (ne_eqb n 0 z) ∙ none_missing (λ q. sheet) (λ q. shape) (λ q. principal) (λ q. action) (λ q. resource) (λ q. context) (λ q. omega arith)

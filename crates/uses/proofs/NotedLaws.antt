-- What is noted of the nodes and the policies that words hold: what it says of them, and that it stays so with one line more. Assumes nothing.
use mathlib.Core.Path.{◌≡◌, refl, sym, ap, ap₂, ◌∙◌}
use mathlib.Core.Bool.{Bool, true, false, cond, ◌||◌, ◌&&◌}
use mathlib.Core.List.{List, [], ◌∷◌, ◌++◌, append-nil, append_assoc}
use Prim.Native.Nat.{ℕ, suc, ◌+◌, ◌-◌, ◌≤◌, ◌<◌}
use native.Mathlib.Omega.{arith}
use native.Mathlib.Decide.{dec_lt}
use borrow.Author.Tests.{eq-eqb, ne_eqb, lt-ltb, le-ltb}
use lib.Dec.{leb, ltb, eqb}
use lib.ListN.{length, get_or, drop, set, length-append, length-set, get_or-append, get_or-eq_default}
use lib.Seq.{get_or-drop, get_or-append_seam, get_or-set_same, get_or-set_other}
use Rattle.sheet.specs.Forms.{refs, at, NODE, POLICY}
use Rattle.sheet.specs.State.{State, count}
use Rattle.sheet.specs.Typing.{gathered, under_from, nodes_under, is_slot}
use Rattle.sheet.specs.Sheet.{greatest, uses, has_slot, too_many}
use Rattle.sheet.proofs.reading.Under.{has_append}
use Rattle.table.specs.Layout.{NODEDEPTHS, USES, SIZES, SLOTS, SPENT, rows_of, held}
use Rattle.table.proofs.Rows.{count_rows, lines_held_law}
use Rattle.uses.specs.declared.Under as D
use Rattle.uses.specs.Under.{NO_SLOT, FOR_PRINCIPAL, FOR_RESOURCE, FOR_BOTH, MANY, capped, both_of, own_slot, slots_of, size_at, slots_at, under, gathered_on, under_row, spent_on, Noted}
use Rattle.uses.proofs.UnderLaws.{capped_min}

-- ---- the nodes under a node, over rows of nodes

-- those of rows rs, node after node
abbrev pub under_rows : List (List ℕ) → List (List (List ℕ))
under_rows rs = under_from [] rs

under_long : (us : List (List (List ℕ))) (rs : List (List ℕ)) → length (under_from us rs) ≡ length us + length rs
under_long us [] = omega arith
under_long us (r ∷ rs) =
    omega (arith, under_long (us ++ ((r ∷ gathered us (refs NODE r)) ∷ [])) rs, length-append us ((r ∷ gathered us (refs NODE r)) ∷ []))

under_snoc : (us : List (List (List ℕ))) (rs : List (List ℕ)) (r : List ℕ) → under_from us (rs ++ (r ∷ [])) ≡ under_from us rs ++ ((r ∷ gathered (under_from us rs) (refs NODE r)) ∷ [])
under_snoc us [] r = refl
under_snoc us (x ∷ rs) r = under_snoc (us ++ ((x ∷ gathered us (refs NODE x)) ∷ [])) rs r

module _ (rs : List (List ℕ)) where
  rows_long : length (under_rows rs) ≡ length rs
  rows_long = omega (arith, under_long [] rs)

  -- nothing is under a node that is not there
  pub under_none : (n : ℕ) → length rs ≤ n → get_or (under_rows rs) n [] ≡ []
  under_none n h = get_or-eq_default (under_rows rs) [] {n = n} (omega (arith, rows_long))

  module _ (r : List ℕ) where
    -- a node more leaves what is under those before
    pub under_kept : (n : ℕ) → n < length rs → get_or (under_rows (rs ++ (r ∷ []))) n [] ≡ get_or (under_rows rs) n []
    under_kept n h =
        ap (λ (us : List (List (List ℕ))). get_or us n []) (under_snoc [] rs r)
        ∙ get_or-append (under_rows rs) ((r ∷ gathered (under_rows rs) (refs NODE r)) ∷ []) [] n (omega (arith, rows_long))

    -- and has under it itself and what is under those that it refers to
    pub under_new : get_or (under_rows (rs ++ (r ∷ []))) (length rs) [] ≡ r ∷ gathered (under_rows rs) (refs NODE r)
    under_new =
        ap₂ (λ (us : List (List (List ℕ))) (n : ℕ). get_or us n []) (under_snoc [] rs r) (sym rows_long)
        ∙ get_or-append_seam (under_rows rs) (r ∷ gathered (under_rows rs) (refs NODE r)) [] []

-- ---- sizes and slots of rows together

capped_add : (x y : ℕ) → capped (capped x + capped y) ≡ capped (x + y)
capped_add x y = omega (arith, capped_min x, capped_min y, capped_min (capped x + capped y), capped_min (x + y))

capped_full : (n m : ℕ) → n ≡ capped m → eqb n MANY ≡ ltb 1024 m
capped_full n m e = go (dec_lt 1024 m)
  where
    go : Dec (1024 < m) → eqb n MANY ≡ ltb 1024 m
    go (yes h) = eq-eqb n MANY (omega (arith, e, capped_min m)) ∙ sym (lt-ltb 1024 m h)
    go (no h) = ne_eqb n MANY (λ q. absurd (omega (arith, q, e, capped_min m))) ∙ sym (le-ltb 1024 m (omega arith))

slots_both : (p q x y : Bool)
    → both_of (cond p (cond q FOR_BOTH FOR_PRINCIPAL) (cond q FOR_RESOURCE NO_SLOT)) (cond x (cond y FOR_BOTH FOR_PRINCIPAL) (cond y FOR_RESOURCE NO_SLOT))
    ≡ cond (p || x) (cond (q || y) FOR_BOTH FOR_PRINCIPAL) (cond (q || y) FOR_RESOURCE NO_SLOT)
unfolding both_of
slots_both true true true true = refl
slots_both true true true false = refl
slots_both true true false true = refl
slots_both true true false false = refl
slots_both true false true true = refl
slots_both true false true false = refl
slots_both true false false true = refl
slots_both true false false false = refl
slots_both false true true true = refl
slots_both false true true false = refl
slots_both false true false true = refl
slots_both false true false false = refl
slots_both false false true true = refl
slots_both false false true false = refl
slots_both false false false true = refl
slots_both false false false false = refl

slots_append : (rs qs : List (List ℕ)) → both_of (slots_of rs) (slots_of qs) ≡ slots_of (rs ++ qs)
unfolding slots_of
slots_append rs qs = slots_both (has_slot 0 rs) (has_slot 1 rs) (has_slot 0 qs) (has_slot 1 qs) ∙ sym (rw (has_append 0 rs qs, has_append 1 rs qs) refl)

slots_one : (r : List ℕ) → slots_of (r ∷ []) ≡ own_slot r
unfolding slots_of own_slot
slots_one r = go (is_slot r) (eqb (at r 1) 0)
  where
    go : (p q : Bool)
        → cond ((p && eqb (cond q 0 1) 0) || false) (cond ((p && eqb (cond q 0 1) 1) || false) FOR_BOTH FOR_PRINCIPAL) (cond ((p && eqb (cond q 0 1) 1) || false) FOR_RESOURCE NO_SLOT)
        ≡ cond p (cond q FOR_PRINCIPAL FOR_RESOURCE) NO_SLOT
    go true true = refl
    go true false = refl
    go false q = refl

-- what is noted of each node is so: of all of a row's nodes together too
module _ (us : List (List (List ℕ))) (a b : List ℕ)
    (sizes : (x : ℕ) → size_at a b x ≡ capped (length (get_or us x [])))
    (slots : (x : ℕ) → slots_at a b x ≡ slots_of (get_or us x [])) where
  gathered_is : (l : List ℕ) (rs : List (List ℕ)) → gathered_on a b l (under (capped (length rs)) (slots_of rs)) ≡ under (capped (length (rs ++ gathered us l))) (slots_of (rs ++ gathered us l))
  unfolding gathered_on
  gathered_is [] rs = ap (λ (qs : List (List ℕ)). under (capped (length qs)) (slots_of qs)) (sym (append-nil rs))
  gathered_is (x ∷ l) rs =
      let n : capped (capped (length rs) + size_at a b x) ≡ capped (length (rs ++ get_or us x [])) =
      ap (λ (y : ℕ). capped (capped (length rs) + y)) (sizes x) ∙ capped_add (length rs) (length (get_or us x [])) ∙ ap capped (sym (length-append rs (get_or us x []))) in
      let s : both_of (slots_of rs) (slots_at a b x) ≡ slots_of (rs ++ get_or us x []) = ap (both_of (slots_of rs)) (slots x) ∙ slots_append rs (get_or us x []) in
      ap (gathered_on a b l) (ap₂ under n s) ∙ gathered_is l (rs ++ get_or us x [])
      ∙ ap (λ (qs : List (List ℕ)). under (capped (length qs)) (slots_of qs)) (append_assoc rs (get_or us x []) (gathered us l))

  pub row_is : (r : List ℕ) → under_row a b r ≡ under (capped (length (r ∷ gathered us (refs NODE r)))) (slots_of (r ∷ gathered us (refs NODE r)))
  unfolding under_row capped
  row_is r = ap (λ (s : ℕ). gathered_on a b (refs NODE r) (under 1 s)) (sym (slots_one r)) ∙ gathered_is (refs NODE r) (r ∷ [])

-- ---- uses

pub uses_same : (s s' : State) (rs : List (List ℕ)) → ((n : ℕ) → nodes_under s' n ≡ nodes_under s n) → uses s' rs ≡ uses s rs
uses_same s s' [] h = refl
uses_same s s' (r ∷ rs) h = ap₂ (λ (us : List (List ℕ)) (n : ℕ). length us + n) (h (at r 2)) (uses_same s s' rs h)

uses_snoc : (s : State) (rs : List (List ℕ)) (r : List ℕ) → uses s (rs ++ (r ∷ [])) ≡ uses s rs + length (nodes_under s (at r 2))
uses_snoc s [] r = omega arith
uses_snoc s (x ∷ rs) r = omega (arith, uses_snoc s rs r)

-- ---- the nodes under a node that words hold

pub under_held : (sheet a b : List ℕ) (n : ℕ) → nodes_under (held sheet a b) n ≡ get_or (under_rows (rows_of a NODE)) n []
unfolding nodes_under
under_held sheet a b n = ap (λ (rs : List (List ℕ)). get_or (under_rows rs) n []) (lines_held_law sheet a b NODE (omega arith) (λ q. absurd (omega arith)))

-- they are the same where the rows of nodes are
pub under_same : (a a' : List ℕ) → rows_of a' NODE ≡ rows_of a NODE → (n : ℕ) → nodes_under (held [] a' []) n ≡ nodes_under (held [] a []) n
under_same a a' e n = under_held [] a' [] n ∙ ap (λ (rs : List (List ℕ)). get_or (under_rows rs) n []) e ∙ sym (under_held [] a [] n)

-- and for a node before where there is one node more
pub under_more : (a a' r : List ℕ) → rows_of a' NODE ≡ rows_of a NODE ++ (r ∷ []) → (n : ℕ) → n < get_or a NODE 0 → nodes_under (held [] a' []) n ≡ nodes_under (held [] a []) n
under_more a a' r e n h =
    under_held [] a' [] n ∙ ap (λ (rs : List (List ℕ)). get_or (under_rows rs) n []) e ∙ under_kept (rows_of a NODE) r n (omega (arith, count_rows a NODE)) ∙ sym (under_held [] a [] n)

-- ---- what is noted, of every number

module _ (a b : List ℕ) (i : Noted a b) where
  pub noted_size : (x : ℕ) → size_at a b x ≡ capped (length (nodes_under (held [] a []) x))
  unfolding size_at capped
  noted_size x = go (dec_lt x (get_or a NODE 0))
    where
      go : Dec (x < get_or a NODE 0) → cond (ltb x (get_or a NODE 0)) (get_or b (SIZES + x) 0) 0 ≡ capped (length (nodes_under (held [] a []) x))
      go (yes h) = rw (lt-ltb x (get_or a NODE 0) h) (i.sizes x h)
      go (no h) = rw (le-ltb x (get_or a NODE 0) (omega arith), under_held [] a [] x, under_none (rows_of a NODE) x (omega (arith, count_rows a NODE))) refl

  pub noted_slots : (x : ℕ) → slots_at a b x ≡ slots_of (nodes_under (held [] a []) x)
  unfolding slots_at slots_of
  noted_slots x = go (dec_lt x (get_or a NODE 0))
    where
      go : Dec (x < get_or a NODE 0) → cond (ltb x (get_or a NODE 0)) (get_or b (SLOTS + x) 0) NO_SLOT ≡ slots_of (nodes_under (held [] a []) x)
      go (yes h) = rw (lt-ltb x (get_or a NODE 0) h) (i.slots x h)
      go (no h) = rw (le-ltb x (get_or a NODE 0) (omega arith), under_held [] a [] x, under_none (rows_of a NODE) x (omega (arith, count_rows a NODE))) refl

  -- with one policy more
  pub spent_is : (r : List ℕ) → spent_on a b r ≡ capped (uses (held [] a []) (r ∷ rows_of a POLICY))
  unfolding spent_on
  spent_is r =
      let n = uses (held [] a []) (rows_of a POLICY) in
      let m = length (nodes_under (held [] a []) (at r 2)) in
      let e : n + m ≡ m + n = omega arith in
      ap₂ (λ (x y : ℕ). capped (x + y)) i.spent (noted_size (at r 2)) ∙ capped_add n m ∙ ap capped e

  under_row_law : (r : List ℕ) → under_row a b r ≡ under (capped (length (r ∷ gathered (under_rows (rows_of a NODE)) (refs NODE r)))) (slots_of (r ∷ gathered (under_rows (rows_of a NODE)) (refs NODE r)))
  under_row_law =
      row_is (under_rows (rows_of a NODE)) a b (λ x. noted_size x ∙ ap (λ (us : List (List ℕ)). capped (length us)) (under_held [] a [] x))
      (λ x. noted_slots x ∙ ap slots_of (under_held [] a [] x))

  -- ---- 4

  module _ (k : ℕ) (r : List ℕ) (v : Bool) (hv : v ≡ leb (get_or (greatest (held [] a [])) k 0) (count (held [] a []) k)) where
    pub many_full : v ≡ true → true ≡ too_many (held [] a []) k r
    many_full e = sym (rw (← hv, e) refl)

    module _ (e : v ≡ false) where
      pub many_other : (k ≡ POLICY → ⊥) → false ≡ too_many (held [] a []) k r
      many_other n = sym (rw (← hv, e, ne_eqb k POLICY n) refl)

      pub many_uses : k ≡ POLICY → (n : ℕ) → n ≡ spent_on a b r → eqb n MANY ≡ too_many (held [] a []) k r
      many_uses h n hn = capped_full n (uses (held [] a []) (r ∷ rows_of a POLICY)) (hn ∙ spent_is r) ∙ sym (rw (← hv, e, eq-eqb k POLICY h, lines_held_law [] a [] POLICY (omega arith) (λ q. absurd (omega arith))) refl)

-- ---- it is so of words without nodes and policies

no_rows : (a : List ℕ) (k : ℕ) → get_or a k 0 ≡ 0 → rows_of a k ≡ []
no_rows a k e = go (rows_of a k) (count_rows a k ∙ e)
  where
    go : (rs : List (List ℕ)) → length rs ≡ 0 → rs ≡ []
    go [] h = refl
    go (r ∷ rs) h = absurd (omega arith)

pub noted_blank : (a b : List ℕ) → get_or a NODE 0 ≡ 0 → get_or a POLICY 0 ≡ 0 → get_or b SPENT 0 ≡ 0 → Noted a b
unfolding capped
noted_blank a b n p e =
    record {
      sizes = λ i h. absurd (omega arith);
      slots = λ i h. absurd (omega arith);
      spent = e ∙ sym (rw (no_rows a POLICY p) refl);
    }

-- ---- what is stored of a node's line: its size, its slots, its depth, and that it is not used

abbrev pub stored : List ℕ → ℕ → ℕ → ℕ → ℕ → List ℕ
stored b n x y d = set (set (set (set b (SIZES + n) x) (SLOTS + n) y) (NODEDEPTHS + n) d) (USES + n) 0

module _ (b : List ℕ) (n x y d : ℕ) (few : n < 1024) where
  stored_from : (j : ℕ) → SIZES ≤ j → get_or (stored b n x y d) j 0 ≡ get_or (set (set b (SIZES + n) x) (SLOTS + n) y) j 0
  stored_from j h =
      get_or-set_other (set (set (set b (SIZES + n) x) (SLOTS + n) y) (NODEDEPTHS + n) d) (USES + n) j 0 0 (λ q. absurd (omega arith))
      ∙ get_or-set_other (set (set b (SIZES + n) x) (SLOTS + n) y) (NODEDEPTHS + n) j d 0 (λ q. absurd (omega arith))

  stored_size : 16384 ≤ length b → get_or (stored b n x y d) (SIZES + n) 0 ≡ x
  stored_size long =
      stored_from (SIZES + n) (omega arith) ∙ get_or-set_other (set b (SIZES + n) x) (SLOTS + n) (SIZES + n) y 0 (λ q. absurd (omega arith)) ∙ get_or-set_same b (SIZES + n) x 0 (omega arith)

  stored_slots : 16384 ≤ length b → get_or (stored b n x y d) (SLOTS + n) 0 ≡ y
  stored_slots long = stored_from (SLOTS + n) (omega arith) ∙ get_or-set_same (set b (SIZES + n) x) (SLOTS + n) y 0 (omega (arith, length-set b (SIZES + n) x))

  stored_other : (j : ℕ) → SIZES ≤ j → (j ≡ SIZES + n → ⊥) → (j ≡ SLOTS + n → ⊥) → get_or (stored b n x y d) j 0 ≡ get_or b j 0
  stored_other j h p q = stored_from j h ∙ get_or-set_other (set b (SIZES + n) x) (SLOTS + n) j y 0 q ∙ get_or-set_other b (SIZES + n) j x 0 p

-- ---- words that are as they were from the notes on

pub rest_kept : (b b' : List ℕ) → drop SIZES b' ≡ drop SIZES b → (j : ℕ) → SIZES ≤ j → get_or b' j 0 ≡ get_or b j 0
rest_kept b b' e j h =
    let p : SIZES + (j - SIZES) ≡ j = omega arith in
    rw (← p) (sym (get_or-drop SIZES b' (j - SIZES) 0) ∙ ap (λ (w : List ℕ). get_or w (j - SIZES) 0) e ∙ get_or-drop SIZES b (j - SIZES) 0)

pub set_kept : (b : List ℕ) (i x : ℕ) → i < SIZES → (j : ℕ) → SIZES ≤ j → get_or (set b i x) j 0 ≡ get_or b j 0
set_kept b i x l j h = get_or-set_other b i j x 0 (λ q. absurd (omega arith))

-- ---- what is noted stays so

module _ (a b a' b' : List ℕ) (i : Noted a b) where
  count_same : rows_of a' NODE ≡ rows_of a NODE → get_or a' NODE 0 ≡ get_or a NODE 0
  count_same e = sym (count_rows a' NODE) ∙ ap length e ∙ count_rows a NODE

  -- where no node is added
  module _ (nodes : rows_of a' NODE ≡ rows_of a NODE) where
    kept_nodes : ((j : ℕ) → SIZES ≤ j → j < SPENT → get_or b' j 0 ≡ get_or b j 0) → get_or a NODE 0 ≤ 1024 → get_or b' SPENT 0 ≡ capped (uses (held [] a' []) (rows_of a' POLICY)) → Noted a' b'
    kept_nodes w few spent =
        record {
          sizes = λ n h. w (SIZES + n) (omega arith) (omega (arith, count_same nodes)) ∙ i.sizes n (omega (arith, count_same nodes)) ∙ ap (λ (us : List (List ℕ)). capped (length us)) (sym (under_same a a' nodes n));
          slots = λ n h. w (SLOTS + n) (omega arith) (omega (arith, count_same nodes)) ∙ i.slots n (omega (arith, count_same nodes)) ∙ ap slots_of (sym (under_same a a' nodes n));
          spent = spent;
        }

    -- a line of another key
    pub noted_other : rows_of a' POLICY ≡ rows_of a POLICY → get_or a NODE 0 ≤ 1024 → ((j : ℕ) → SIZES ≤ j → get_or b' j 0 ≡ get_or b j 0) → Noted a' b'
    noted_other policies few w =
        kept_nodes (λ j l h. w j l) few
        (w SPENT (omega arith) ∙ i.spent ∙ ap capped (ap (uses (held [] a [])) (sym policies) ∙ sym (uses_same (held [] a []) (held [] a' []) (rows_of a' POLICY) (under_same a a' nodes))))

    -- a policy's line, its uses summed
    pub noted_policy : (r : List ℕ) → rows_of a' POLICY ≡ rows_of a POLICY ++ (r ∷ []) → get_or a NODE 0 ≤ 1024 → 16384 ≤ length b → b' ≡ set b SPENT (spent_on a b r) → Noted a' b'
    noted_policy r policies few long e =
        kept_nodes (λ j l h. ap (λ (w : List ℕ). get_or w j 0) e ∙ get_or-set_other b SPENT j (spent_on a b r) 0 (λ q. absurd (omega arith))) few
        (ap (λ (w : List ℕ). get_or w SPENT 0) e ∙ get_or-set_same b SPENT (spent_on a b r) 0 (omega arith) ∙ spent_is a b i r ∙ ap capped (sym summed))
      where
        summed : uses (held [] a' []) (rows_of a' POLICY) ≡ uses (held [] a []) (r ∷ rows_of a POLICY)
        summed =
            uses_same (held [] a []) (held [] a' []) (rows_of a' POLICY) (under_same a a' nodes) ∙ ap (uses (held [] a [])) policies
            ∙ omega (arith, uses_snoc (held [] a []) (rows_of a POLICY) r)

  -- a node's line, before any policy's
  module _ (r : List ℕ) (nodes : rows_of a' NODE ≡ rows_of a NODE ++ (r ∷ [])) (none : get_or a' POLICY 0 ≡ 0) (none_before : get_or a POLICY 0 ≡ 0) where
    count_more : get_or a' NODE 0 ≡ suc (get_or a NODE 0)
    count_more = omega (arith, count_rows a' NODE, ap length nodes, length-append (rows_of a NODE) (r ∷ []), count_rows a NODE)

    new_under : nodes_under (held [] a' []) (get_or a NODE 0) ≡ r ∷ gathered (under_rows (rows_of a NODE)) (refs NODE r)
    new_under =
        under_held [] a' [] (get_or a NODE 0) ∙ ap₂ (λ (rs : List (List ℕ)) (n : ℕ). get_or (under_rows rs) n []) nodes (sym (count_rows a NODE)) ∙ under_new (rows_of a NODE) r

    module _ (earlier : (n : ℕ) → n < get_or a NODE 0 → (get_or b' (SIZES + n) 0 ≡ get_or b (SIZES + n) 0) × (get_or b' (SLOTS + n) 0 ≡ get_or b (SLOTS + n) 0))
        (size : get_or b' (SIZES + get_or a NODE 0) 0 ≡ (under_row a b r).size) (slot : get_or b' (SLOTS + get_or a NODE 0) 0 ≡ (under_row a b r).slots) (spent : get_or b' SPENT 0 ≡ get_or b SPENT 0) where
      pub noted_new : Noted a' b'
      unfolding capped
      noted_new =
          record {
            sizes = λ n h. size_of n h (dec_lt n (get_or a NODE 0));
            slots = λ n h. slots_of_law n h (dec_lt n (get_or a NODE 0));
            spent = spent ∙ i.spent ∙ rw (no_rows a POLICY none_before, no_rows a' POLICY none) refl;
          }
        where
          size_of : (n : ℕ) → n < get_or a' NODE 0 → Dec (n < get_or a NODE 0) → get_or b' (SIZES + n) 0 ≡ capped (length (nodes_under (held [] a' []) n))
          size_of n h (yes l) = (earlier n l).0 ∙ i.sizes n l ∙ ap (λ (us : List (List ℕ)). capped (length us)) (sym (under_more a a' r nodes n l))
          size_of n h (no l) =
              let e : n ≡ get_or a NODE 0 = omega (arith, count_more) in
              rw e (size ∙ ap (λ (u : D.Under). u.size) (under_row_law a b i r) ∙ ap (λ (us : List (List ℕ)). capped (length us)) (sym new_under))

          slots_of_law : (n : ℕ) → n < get_or a' NODE 0 → Dec (n < get_or a NODE 0) → get_or b' (SLOTS + n) 0 ≡ slots_of (nodes_under (held [] a' []) n)
          slots_of_law n h (yes l) = (earlier n l).1 ∙ i.slots n l ∙ ap slots_of (sym (under_more a a' r nodes n l))
          slots_of_law n h (no l) =
              let e : n ≡ get_or a NODE 0 = omega (arith, count_more) in
              rw e (slot ∙ ap (λ (u : D.Under). u.slots) (under_row_law a b i r) ∙ ap slots_of (sym new_under))

    -- with its notes, its depth and its use stored
    pub noted_node : (n d : ℕ) → n ≡ get_or a NODE 0 → n < 1024 → 16384 ≤ length b → b' ≡ stored b n (under_row a b r).size (under_row a b r).slots d → Noted a' b'
    noted_node n d hn few long e =
        let x = (under_row a b r).size in
        let y = (under_row a b r).slots in
        noted_new
        (λ m h. (
          ap (λ (w : List ℕ). get_or w (SIZES + m) 0) e ∙ stored_other b n x y d few (SIZES + m) (omega arith) (λ q. absurd (omega arith)) (λ q. absurd (omega arith)),
          ap (λ (w : List ℕ). get_or w (SLOTS + m) 0) e ∙ stored_other b n x y d few (SLOTS + m) (omega arith) (λ q. absurd (omega arith)) (λ q. absurd (omega arith)),
        ))
        (ap₂ (λ (w : List ℕ) (m : ℕ). get_or w (SIZES + m) 0) e (sym hn) ∙ stored_size b n x y d few long)
        (ap₂ (λ (w : List ℕ) (m : ℕ). get_or w (SLOTS + m) 0) e (sym hn) ∙ stored_slots b n x y d few long)
        (ap (λ (w : List ℕ). get_or w SPENT 0) e ∙ stored_other b n x y d few SPENT (omega arith) (λ q. absurd (omega arith)) (λ q. absurd (omega arith)))

-- where the words do from the notes on
pub noted_rest : (a b b' : List ℕ) → Noted a b → get_or a NODE 0 ≤ 1024 → drop SIZES b' ≡ drop SIZES b → Noted a b'
noted_rest a b b' i few e = noted_other a b a b' i refl refl few (rest_kept b b' e)

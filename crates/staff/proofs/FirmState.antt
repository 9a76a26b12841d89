-- Reading takes no notice of the texts of principal and resource: a line is refused or not whatever they are.
use mathlib.Core.Path.{◌≡◌, refl, sym, ◌∙◌, ap, ap₂, subst}
use mathlib.Core.Bool.{Bool, true, false, cond, not, ◌&&◌, ◌||◌}
use mathlib.Core.List.{List, [], ◌∷◌, ◌++◌}
use Prim.Native.Nat.{ℕ, zero, suc, ◌+◌, ◌-◌, max}
use native.Mathlib.Omega.{arith}
use lib.Dec.{leb, ltb, eqb}
use Rattle.cedar.proofs.Tools.{no_true, or_right}
use lib.ListN.{length, get_or, take, drop, set}
use Rattle.cedar.specs.Numbered.{mem_n}
use Rattle.sheet.specs.Forms.{forms, form_of, Slot, entry, line, line_or, line_unknown, word, number, nothing, slot_at, tag, items, at, mark, key_of, refs, ascendings, first_node, NODE, TEXT, KIND, no_key, day, POLICY, ENTITY, PRINCIPAL, RESOURCE}
use Rattle.sheet.specs.State.{State, lines_of, count}
use Rattle.sheet.specs.Typing.{is_action, shape_typed, entity_typed, context_typed, declared_in, path_typed, kid, bool_at, rules, policy_typed, typed, fits, each_of, slots_fit, is_slot, slot_value, nodes_under, nodes_of, link_typed}
use Rattle.cedar.specs.Value.{on_some}
use Rattle.sheet.specs.Sheet.{added, greatest, all_zero, reach, enough, in_order, there_is, all_there, ascend, fresh, found, deepest, depth, used_twice, fault_of, fault, uses, overused, first_unlinked, any_slot, firsts, reached_fit, first_unfit}
use Rattle.staff.specs.Firm.{Asked, set_text, set_texts, with_texts}

abbrev pub Lines : Type 0
Lines = List (List ℕ)

-- a state by its lists of lines: the one of principal, the one of resource, and the others
module _ (a0 a1 a2 a3 a4 a5 a6 a8 a10 a11 a12 a13 a14 a15 : Lines) (ds : List (List ℕ)) (us : List ℕ) where
  abbrev pub at_state : Lines → Lines → State
  at_state p r = record { lines = a0 ∷ a1 ∷ a2 ∷ a3 ∷ a4 ∷ a5 ∷ a6 ∷ p ∷ a8 ∷ r ∷ a10 ∷ a11 ∷ a12 ∷ a13 ∷ a14 ∷ a15 ∷ []; depths = ds; used = us }

  -- the number of lines of each key
  count_same : (p q r s : Lines) → length p ≡ length q → length r ≡ length s → (k : ℕ) → count (at_state p r) k ≡ count (at_state q s) k
  count_same p q r s e f zero = refl
  count_same p q r s e f (suc zero) = refl
  count_same p q r s e f (suc (suc zero)) = refl
  count_same p q r s e f (suc (suc (suc zero))) = refl
  count_same p q r s e f (suc (suc (suc (suc zero)))) = refl
  count_same p q r s e f (suc (suc (suc (suc (suc zero))))) = refl
  count_same p q r s e f (suc (suc (suc (suc (suc (suc zero)))))) = refl
  count_same p q r s e f (suc (suc (suc (suc (suc (suc (suc zero))))))) = e
  count_same p q r s e f (suc (suc (suc (suc (suc (suc (suc (suc zero)))))))) = refl
  count_same p q r s e f (suc (suc (suc (suc (suc (suc (suc (suc (suc zero))))))))) = f
  count_same p q r s e f (suc (suc (suc (suc (suc (suc (suc (suc (suc (suc k)))))))))) = refl

  there_same : (p q r s : Lines) → length p ≡ length q → length r ≡ length s → (o : Slot) (x : ℕ) → there_is (at_state p r) o x ≡ there_is (at_state q s) o x
  there_same p q r s e f entry x = refl
  there_same p q r s e f (line k) x = ap (ltb x) (count_same p q r s e f k)
  there_same p q r s e f (line_or b k) x = ap (λ n. eqb x mark || ltb x n) (count_same p q r s e f k)
  there_same p q r s e f (line_unknown k) x = ap (λ n. eqb x mark || ltb x n) (count_same p q r s e f k)
  there_same p q r s e f (word ws) x = refl
  there_same p q r s e f number x = refl
  there_same p q r s e f day x = refl
  there_same p q r s e f nothing x = refl

  all_same : (p q r s : Lines) → length p ≡ length q → length r ≡ length s → (t j : ℕ) (l : List ℕ) → all_there (at_state p r) t j l ≡ all_there (at_state q s) t j l
  all_same p q r s e f t j [] = refl
  all_same p q r s e f t j (x ∷ l) = ap₂ ◌&&◌ (there_same p q r s e f (slot_at t j) x) (all_same p q r s e f t (suc j) l)

  -- the uses of nodes
  uses_same : (p q r s rs : Lines) → uses (at_state p r) rs ≡ uses (at_state q s) rs
  unfolding nodes_under
  uses_same p q r s [] = refl
  uses_same p q r s (x ∷ rs) = ap (λ n. length (nodes_under (at_state p r) (at x 2)) + n) (uses_same p q r s rs)

  over_same : (p q r s : Lines) (k : ℕ) (x : List ℕ) → overused (at_state p r) k x ≡ overused (at_state q s) k x
  over_same p q r s k x = ap (λ n. eqb k POLICY && ltb 1024 n) (uses_same p q r s (x ∷ a13))

  -- policies without a link, entities that reach other kinds
  linked_same : (p q r s : Lines) (n : ℕ) (rs : Lines) → first_unlinked (at_state p r) n rs ≡ first_unlinked (at_state q s) n rs
  unfolding nodes_under
  linked_same p q r s n [] = refl
  linked_same p q r s n (x ∷ rs) = ap (λ m. cond (any_slot (nodes_under (at_state p r) (at x 2)) && not (mem_n n (firsts a14))) n m) (linked_same p q r s (suc n) rs)

  unfit_same : (p q r s rs : Lines) → first_unfit (at_state p r) rs ≡ first_unfit (at_state q s) rs
  unfit_same p q r s [] = refl
  unfit_same p q r s (x ∷ rs) = ap (λ m. cond (reached_fit (at_state p r) x) (suc m) 0) (unfit_same p q r s rs)

  -- repeats and order are asked of other keys
  fresh_same : (p q r s : Lines) (k : ℕ) (x : List ℕ) → fresh (at_state p r) k x ≡ fresh (at_state q s) k x
  unfolding nodes_under
  fresh_same p q r s zero x = refl
  fresh_same p q r s (suc zero) x = refl
  fresh_same p q r s (suc (suc zero)) x = refl
  fresh_same p q r s (suc (suc (suc zero))) x = refl
  fresh_same p q r s (suc (suc (suc (suc zero)))) x = refl
  fresh_same p q r s (suc (suc (suc (suc (suc zero))))) x = refl
  fresh_same p q r s (suc (suc (suc (suc (suc (suc zero)))))) x = refl
  fresh_same p q r s (suc (suc (suc (suc (suc (suc (suc zero))))))) x = refl
  fresh_same p q r s (suc (suc (suc (suc (suc (suc (suc (suc zero)))))))) x = refl
  fresh_same p q r s (suc (suc (suc (suc (suc (suc (suc (suc (suc zero))))))))) x = refl
  fresh_same p q r s (suc (suc (suc (suc (suc (suc (suc (suc (suc (suc k)))))))))) x = refl

  found_same : (p q r s : Lines) → length p ≡ length q → length r ≡ length s → (k : ℕ) (x : List ℕ) → found (at_state p r) k x ≡ found (at_state q s) k x
  unfolding found
  found_same p q r s e f k x = λ i. all_same p q r s e f (tag x) 0 (items x) i && ascend 0 (ascendings x) && fresh_same p q r s k x i

  abbrev numbers : ℕ → ℕ → List ℕ
  numbers n m = length a0 ∷ length a1 ∷ length a2 ∷ length a3 ∷ length a4 ∷ length a5 ∷ length a6 ∷ n ∷ length a8 ∷ m ∷ length a10 ∷ length a11 ∷ length a12 ∷ length a13 ∷ length a14 ∷ length a15 ∷ []

  order_same : (p q r s : Lines) → length p ≡ length q → length r ≡ length s → (k : ℕ) → in_order (at_state p r) k ≡ in_order (at_state q s) k
  order_same p q r s e f k = λ i. all_zero (drop (suc k) (numbers (e i) (f i))) && reach (take k (numbers (e i) (f i))) (1 ∷ 0 ∷ 0 ∷ 0 ∷ length a2 ∷ 0 ∷ 0 ∷ 1 ∷ 1 ∷ 1 ∷ 1 ∷ 1 ∷ 0 ∷ 0 ∷ 0 ∷ 0 ∷ [])

  -- typing asks the first item of the request's lines alone; paths and slots none of these
  path_same : (p q r s : Lines) (l : List ℕ) (t y : ℕ) → path_typed (at_state p r) l t y ≡ path_typed (at_state q s) l t y
  path_same p q r s [] t y = refl
  path_same p q r s (u ∷ us) t y = λ i. each_of (at_state p r) y (λ es. on_some true (declared_in t es) (λ z. path_same p q r s us u z i))

  slots_same : (p q r s : Lines) (a b : ℕ) (rs : Lines) → slots_fit (at_state p r) a b rs ≡ slots_fit (at_state q s) a b rs
  slots_same p q r s a b [] = refl
  slots_same p q r s a b (x ∷ rs) = ap (λ c. (not (is_slot x) || fits (at_state p r) (slot_value a b (at x 1)) (at x 0)) && c) (slots_same p q r s a b rs)

  link_same : (p q r s : Lines) (z : List ℕ) → link_typed (at_state p r) z ≡ link_typed (at_state q s) z
  unfolding nodes_under
  link_same p q r s z = slots_same p q r s (at z 1) (at z 2) (nodes_of (at_state p r) (at z 0))

  -- the rules with the one of haspath replaced, and the keys' with those of nodes and links
  abbrev ruled : State → List ℕ → Bool → Bool → ℕ → Bool
  ruled S z x y j = get_or (true ∷ true ∷ true ∷ true ∷ shape_typed S z ∷ true ∷ entity_typed S z ∷ not (is_action S (at z 0)) ∷ is_action S (at z 0) ∷ not (is_action S (at z 0)) ∷ context_typed S z ∷ true ∷ get_or (set (rules S z) 22 x) (tag z - first_node) false ∷ policy_typed S z ∷ y ∷ true ∷ []) j false

  typed_principal : (t k x y : ℕ) (l : List ℕ) (p q r : Lines) (z : List ℕ) (j : ℕ) → typed (at_state ((t ∷ k ∷ x ∷ l) ∷ p) r) z j ≡ typed (at_state ((t ∷ k ∷ y ∷ l) ∷ q) r) z j
  unfolding typed
  typed_principal t k x y l p q r z j = λ i. ruled (at_state ((t ∷ k ∷ x ∷ l) ∷ p) r) z (bool_at (at_state ((t ∷ k ∷ x ∷ l) ∷ p) r) z (at z 0) && path_same ((t ∷ k ∷ x ∷ l) ∷ p) ((t ∷ k ∷ y ∷ l) ∷ q) r r (drop 3 (items z)) (at z 2) (kid (at_state ((t ∷ k ∷ x ∷ l) ∷ p) r) z 1) i)
      (link_same ((t ∷ k ∷ x ∷ l) ∷ p) ((t ∷ k ∷ y ∷ l) ∷ q) r r z i) j

  typed_resource : (t k x y : ℕ) (l : List ℕ) (p r s : Lines) (z : List ℕ) (j : ℕ) → typed (at_state p ((t ∷ k ∷ x ∷ l) ∷ r)) z j ≡ typed (at_state p ((t ∷ k ∷ y ∷ l) ∷ s)) z j
  unfolding typed
  typed_resource t k x y l p r s z j = λ i. ruled (at_state p ((t ∷ k ∷ x ∷ l) ∷ r)) z (bool_at (at_state p ((t ∷ k ∷ x ∷ l) ∷ r)) z (at z 0) && path_same p p ((t ∷ k ∷ x ∷ l) ∷ r) ((t ∷ k ∷ y ∷ l) ∷ s) (drop 3 (items z)) (at z 2) (kid (at_state p ((t ∷ k ∷ x ∷ l) ∷ r)) z 1) i)
      (link_same p p ((t ∷ k ∷ x ∷ l) ∷ r) ((t ∷ k ∷ y ∷ l) ∷ s) z i) j

  deepest_same : (p q r s : Lines) (k : ℕ) (l : List ℕ) → deepest (at_state p r) k l ≡ deepest (at_state q s) k l
  deepest_same p q r s k [] = refl
  deepest_same p q r s k (n ∷ l) = ap (max (get_or (get_or ds k []) n 0)) (deepest_same p q r s k l)

  depth_same : (p q r s : Lines) (k : ℕ) (z : List ℕ) → depth (at_state p r) k z ≡ depth (at_state q s) k z
  unfolding depth
  depth_same p q r s k z = ap suc (deepest_same p q r s k (refs k z))

  -- a line of the one is refused as a line of the other
  module _ (p q r s : Lines) (e : length p ≡ length q) (f : length r ≡ length s) (g : (z : List ℕ) (j : ℕ) → typed (at_state p r) z j ≡ typed (at_state q s) z j) where
    fault_of_law : (k : ℕ) (z : List ℕ) → fault_of (at_state p r) k z ≡ fault_of (at_state q s) k z
    fault_of_law k z = λ i.
        cond (not (order_same p q r s e f k i)) 3
        (cond (leb (get_or (greatest (at_state p r)) k 0) (count_same p q r s e f k i) || over_same p q r s k z i) 4
        (cond (not (found_same p q r s e f k z i)) 5
        (cond (ltb 64 (depth_same p q r s k z i)) 6
        (cond (not (g z k i)) 7
        (cond (used_twice us (refs NODE z)) 8 0)))))

    pub fault_same : (z : List ℕ) → fault (at_state p r) z ≡ fault (at_state q s) z
    unfolding fault
    fault_same [] = refl
    fault_same (t ∷ l) = fault_of_law (key_of (t ∷ l)) (t ∷ l)

-- ---- lines of principal or resource before and after their texts are set

-- rows of at least two items
abbrev pub LongRow : List ℕ → Type 0
LongRow [] = ⊥
LongRow (t ∷ []) = ⊥
LongRow (t ∷ k ∷ []) = ⊥
LongRow (t ∷ k ∷ x ∷ l) = Unit {0}

abbrev pub Long : Lines → Type 0
Long [] = Unit {0}
Long (r ∷ rs) = LongRow r × Long rs

data Alike : Lines → Lines → Type 0 where
  nothing_yet : Alike [] []
  one_text : {t k x y : ℕ} {l : List ℕ} {p q : Lines} → Alike ((t ∷ k ∷ x ∷ l) ∷ p) ((t ∷ k ∷ y ∷ l) ∷ q)

texts_alike : (n : ℕ) (p : Lines) → Long p → Alike p (set_texts n p)
texts_alike n [] h = nothing_yet
texts_alike n ([] ∷ p) h = absurd h.0
texts_alike n ((t ∷ []) ∷ p) h = absurd h.0
texts_alike n ((t ∷ k ∷ []) ∷ p) h = absurd h.0
texts_alike n ((t ∷ k ∷ x ∷ l) ∷ p) h = go (eqb x mark)
  where
    go : (b : Bool) → Alike ((t ∷ k ∷ x ∷ l) ∷ p) (cond b (t ∷ k ∷ n ∷ l) (t ∷ k ∷ x ∷ l) ∷ set_texts n p)
    go true = one_text
    go false = one_text

texts_length : (n : ℕ) (p : Lines) → length p ≡ length (set_texts n p)
texts_length n [] = refl
texts_length n (r ∷ p) = ap suc (texts_length n p)

module _ (a0 a1 a2 a3 a4 a5 a6 a8 a10 a11 a12 a13 a14 a15 : Lines) (ds : List (List ℕ)) (us : List ℕ) where
  abbrev st : Lines → Lines → State
  st = at_state a0 a1 a2 a3 a4 a5 a6 a8 a10 a11 a12 a13 a14 a15 ds us

  typed_one : {p q : Lines} (r : Lines) → Alike p q → (z : List ℕ) (j : ℕ) → typed (st p r) z j ≡ typed (st q r) z j
  typed_one r nothing_yet z j = refl
  typed_one r (one_text {t} {k} {x} {y} {l} {p} {q}) z j = typed_principal a0 a1 a2 a3 a4 a5 a6 a8 a10 a11 a12 a13 a14 a15 ds us t k x y l p q r z j

  typed_two : {r s : Lines} (p : Lines) → Alike r s → (z : List ℕ) (j : ℕ) → typed (st p r) z j ≡ typed (st p s) z j
  typed_two p nothing_yet z j = refl
  typed_two p (one_text {t} {k} {x} {y} {l} {p = u} {q = v}) z j = typed_resource a0 a1 a2 a3 a4 a5 a6 a8 a10 a11 a12 a13 a14 a15 ds us t k x y l p u v z j

  texts_fault : (q : Asked) (p r : Lines) → Long p → Long r → (z : List ℕ) → fault (st p r) z ≡ fault (st (set_texts q.principal p) (set_texts q.resource r)) z
  texts_fault q p r h k = fault_same a0 a1 a2 a3 a4 a5 a6 a8 a10 a11 a12 a13 a14 a15 ds us p (set_texts q.principal p) r (set_texts q.resource r) (texts_length q.principal p) (texts_length q.resource r)
      (λ z j. typed_one r (texts_alike q.principal p h) z j ∙ typed_two (set_texts q.principal p) (texts_alike q.resource r k) z j)

-- the lists of all keys
pub listed : {X : Type 0} (ls : List Lines) → length ls ≡ no_key → ((a0 a1 a2 a3 a4 a5 a6 a7 a8 a9 a10 a11 a12 a13 a14 a15 : Lines) → ls ≡ a0 ∷ a1 ∷ a2 ∷ a3 ∷ a4 ∷ a5 ∷ a6 ∷ a7 ∷ a8 ∷ a9 ∷ a10 ∷ a11 ∷ a12 ∷ a13 ∷ a14 ∷ a15 ∷ [] → X) → X
listed [] e f = absurd (omega (arith, e))
listed (a0 ∷ []) e f = absurd (omega (arith, e))
listed (a0 ∷ a1 ∷ []) e f = absurd (omega (arith, e))
listed (a0 ∷ a1 ∷ a2 ∷ []) e f = absurd (omega (arith, e))
listed (a0 ∷ a1 ∷ a2 ∷ a3 ∷ []) e f = absurd (omega (arith, e))
listed (a0 ∷ a1 ∷ a2 ∷ a3 ∷ a4 ∷ []) e f = absurd (omega (arith, e))
listed (a0 ∷ a1 ∷ a2 ∷ a3 ∷ a4 ∷ a5 ∷ []) e f = absurd (omega (arith, e))
listed (a0 ∷ a1 ∷ a2 ∷ a3 ∷ a4 ∷ a5 ∷ a6 ∷ []) e f = absurd (omega (arith, e))
listed (a0 ∷ a1 ∷ a2 ∷ a3 ∷ a4 ∷ a5 ∷ a6 ∷ a7 ∷ []) e f = absurd (omega (arith, e))
listed (a0 ∷ a1 ∷ a2 ∷ a3 ∷ a4 ∷ a5 ∷ a6 ∷ a7 ∷ a8 ∷ []) e f = absurd (omega (arith, e))
listed (a0 ∷ a1 ∷ a2 ∷ a3 ∷ a4 ∷ a5 ∷ a6 ∷ a7 ∷ a8 ∷ a9 ∷ []) e f = absurd (omega (arith, e))
listed (a0 ∷ a1 ∷ a2 ∷ a3 ∷ a4 ∷ a5 ∷ a6 ∷ a7 ∷ a8 ∷ a9 ∷ a10 ∷ []) e f = absurd (omega (arith, e))
listed (a0 ∷ a1 ∷ a2 ∷ a3 ∷ a4 ∷ a5 ∷ a6 ∷ a7 ∷ a8 ∷ a9 ∷ a10 ∷ a11 ∷ []) e f = absurd (omega (arith, e))
listed (a0 ∷ a1 ∷ a2 ∷ a3 ∷ a4 ∷ a5 ∷ a6 ∷ a7 ∷ a8 ∷ a9 ∷ a10 ∷ a11 ∷ a12 ∷ []) e f = absurd (omega (arith, e))
listed (a0 ∷ a1 ∷ a2 ∷ a3 ∷ a4 ∷ a5 ∷ a6 ∷ a7 ∷ a8 ∷ a9 ∷ a10 ∷ a11 ∷ a12 ∷ a13 ∷ []) e f = absurd (omega (arith, e))
listed (a0 ∷ a1 ∷ a2 ∷ a3 ∷ a4 ∷ a5 ∷ a6 ∷ a7 ∷ a8 ∷ a9 ∷ a10 ∷ a11 ∷ a12 ∷ a13 ∷ a14 ∷ []) e f = absurd (omega (arith, e))
listed (a0 ∷ a1 ∷ a2 ∷ a3 ∷ a4 ∷ a5 ∷ a6 ∷ a7 ∷ a8 ∷ a9 ∷ a10 ∷ a11 ∷ a12 ∷ a13 ∷ a14 ∷ a15 ∷ []) e f = f a0 a1 a2 a3 a4 a5 a6 a7 a8 a9 a10 a11 a12 a13 a14 a15 refl
listed (a0 ∷ a1 ∷ a2 ∷ a3 ∷ a4 ∷ a5 ∷ a6 ∷ a7 ∷ a8 ∷ a9 ∷ a10 ∷ a11 ∷ a12 ∷ a13 ∷ a14 ∷ a15 ∷ a16 ∷ ls) e f = absurd (omega (arith, e))

-- A LINE IS REFUSED OR NOT WHATEVER TEXTS PRINCIPAL AND RESOURCE HAVE
pub fault_with : (s : State) (q : Asked) → length s.lines ≡ no_key → Long (lines_of s PRINCIPAL) → Long (lines_of s RESOURCE) → (z : List ℕ) → fault s z ≡ fault (with_texts s q) z
unfolding with_texts
fault_with s q e h k z = listed s.lines e (λ a0 a1 a2 a3 a4 a5 a6 a7 a8 a9 a10 a11 a12 a13 a14 a15 g.
    subst (λ ls. Long (get_or ls PRINCIPAL []) → Long (get_or ls RESOURCE []) → fault (record { lines = ls; depths = s.depths; used = s.used }) z ≡ fault (with_texts (record { lines = ls; depths = s.depths; used = s.used }) q) z) (sym g)
    (λ h k. texts_fault a0 a1 a2 a3 a4 a5 a6 a8 a10 a11 a12 a13 a14 a15 s.depths s.used q a7 a9 h k z) h k)

-- ---- one line more

texts_append : (n : ℕ) (p : Lines) (z : List ℕ) → set_texts n (p ++ (z ∷ [])) ≡ set_texts n p ++ (set_text n z ∷ [])
texts_append n [] z = refl
texts_append n (r ∷ p) z = ap (λ l. set_text n r ∷ l) (texts_append n p z)

-- what holds of a row whatever text it has holds of it with a text set
pub of_text : (T k : ℕ) (P : List ℕ → Type 0) → ((y : ℕ) → P (T ∷ k ∷ y ∷ [])) → (t x : ℕ) → P (set_text t (T ∷ k ∷ x ∷ []))
of_text T k P f t x = go (eqb x mark)
  where
    go : (b : Bool) → P (cond b (T ∷ k ∷ t ∷ []) (T ∷ k ∷ x ∷ []))
    go true = f t
    go false = f x

-- the tags of the lines of principal and resource in the table of forms
abbrev pub principal_tag : ℕ
principal_tag = 17

abbrev pub resource_tag : ℕ
resource_tag = 19

-- a line's row, and that of the line with the texts filled in
pub data FilledRow (q : Asked) : List ℕ → List ℕ → Type 0 where
  kept : {z : List ℕ} → eqb (key_of z) PRINCIPAL ≡ false → eqb (key_of z) RESOURCE ≡ false → FilledRow q z z
  principal : {k x : ℕ} → FilledRow q (principal_tag ∷ k ∷ x ∷ []) (set_text q.principal (principal_tag ∷ k ∷ x ∷ []))
  resource : {k x : ℕ} → FilledRow q (resource_tag ∷ k ∷ x ∷ []) (set_text q.resource (resource_tag ∷ k ∷ x ∷ []))

module _ (a0 a1 a2 a3 a4 a5 a6 a7 a8 a9 a10 a11 a12 a13 a14 a15 : Lines) (ds : List (List ℕ)) (us : List ℕ) (q : Asked) where
  abbrev S : State
  S = at_state a0 a1 a2 a3 a4 a5 a6 a8 a10 a11 a12 a13 a14 a15 ds us a7 a9

  abbrev U : State
  U = at_state a0 a1 a2 a3 a4 a5 a6 a8 a10 a11 a12 a13 a14 a15 ds us (set_texts q.principal a7) (set_texts q.resource a9)

  deep : (k : ℕ) (z : List ℕ) → depth U k z ≡ depth S k z
  deep k z = sym (depth_same a0 a1 a2 a3 a4 a5 a6 a8 a10 a11 a12 a13 a14 a15 ds us a7 (set_texts q.principal a7) a9 (set_texts q.resource a9) k z)

  -- of a key that is neither
  pub added_kept : (k : ℕ) (z : List ℕ) → eqb k PRINCIPAL ≡ false → eqb k RESOURCE ≡ false → added U k z ≡ with_texts (added S k z) q
  unfolding with_texts
  added_kept k z e f = at_key k e f
    where
      at_key : (k : ℕ) → eqb k PRINCIPAL ≡ false → eqb k RESOURCE ≡ false → added U k z ≡ with_texts (added S k z) q
      at_key zero e f = λ i. record { lines = (added U 0 z).lines; depths = set ds 0 (get_or ds 0 [] ++ (deep 0 z i ∷ [])); used = (added U 0 z).used }
      at_key (suc zero) e f = λ i. record { lines = (added U 1 z).lines; depths = set ds 1 (get_or ds 1 [] ++ (deep 1 z i ∷ [])); used = (added U 1 z).used }
      at_key (suc (suc zero)) e f = λ i. record { lines = (added U 2 z).lines; depths = set ds 2 (get_or ds 2 [] ++ (deep 2 z i ∷ [])); used = (added U 2 z).used }
      at_key (suc (suc (suc zero))) e f = λ i. record { lines = (added U 3 z).lines; depths = set ds 3 (get_or ds 3 [] ++ (deep 3 z i ∷ [])); used = (added U 3 z).used }
      at_key (suc (suc (suc (suc zero)))) e f = λ i. record { lines = (added U 4 z).lines; depths = set ds 4 (get_or ds 4 [] ++ (deep 4 z i ∷ [])); used = (added U 4 z).used }
      at_key (suc (suc (suc (suc (suc zero))))) e f = λ i. record { lines = (added U 5 z).lines; depths = set ds 5 (get_or ds 5 [] ++ (deep 5 z i ∷ [])); used = (added U 5 z).used }
      at_key (suc (suc (suc (suc (suc (suc zero)))))) e f = λ i. record { lines = (added U 6 z).lines; depths = set ds 6 (get_or ds 6 [] ++ (deep 6 z i ∷ [])); used = (added U 6 z).used }
      at_key (suc (suc (suc (suc (suc (suc (suc zero))))))) e f = no_true (sym e)
      at_key (suc (suc (suc (suc (suc (suc (suc (suc zero)))))))) e f = λ i. record { lines = (added U 8 z).lines; depths = set ds 8 (get_or ds 8 [] ++ (deep 8 z i ∷ [])); used = (added U 8 z).used }
      at_key (suc (suc (suc (suc (suc (suc (suc (suc (suc zero))))))))) e f = no_true (sym f)
      at_key (suc (suc (suc (suc (suc (suc (suc (suc (suc (suc zero)))))))))) e f = λ i. record { lines = (added U 10 z).lines; depths = set ds 10 (get_or ds 10 [] ++ (deep 10 z i ∷ [])); used = (added U 10 z).used }
      at_key (suc (suc (suc (suc (suc (suc (suc (suc (suc (suc (suc zero))))))))))) e f = λ i. record { lines = (added U 11 z).lines; depths = set ds 11 (get_or ds 11 [] ++ (deep 11 z i ∷ [])); used = (added U 11 z).used }
      at_key (suc (suc (suc (suc (suc (suc (suc (suc (suc (suc (suc (suc zero)))))))))))) e f = λ i. record { lines = (added U 12 z).lines; depths = set ds 12 (get_or ds 12 [] ++ (deep 12 z i ∷ [])); used = (added U 12 z).used }
      at_key (suc (suc (suc (suc (suc (suc (suc (suc (suc (suc (suc (suc (suc (zero)))))))))))))) e f = λ i. record { lines = (added U 13 z).lines; depths = set ds 13 (get_or ds 13 [] ++ (deep 13 z i ∷ [])); used = (added U 13 z).used }
      at_key (suc (suc (suc (suc (suc (suc (suc (suc (suc (suc (suc (suc (suc (suc (zero))))))))))))))) e f = λ i. record { lines = (added U 14 z).lines; depths = set ds 14 (get_or ds 14 [] ++ (deep 14 z i ∷ [])); used = (added U 14 z).used }
      at_key (suc (suc (suc (suc (suc (suc (suc (suc (suc (suc (suc (suc (suc (suc (suc (zero)))))))))))))))) e f = λ i. record { lines = (added U 15 z).lines; depths = set ds 15 (get_or ds 15 [] ++ (deep 15 z i ∷ [])); used = (added U 15 z).used }
      at_key (suc (suc (suc (suc (suc (suc (suc (suc (suc (suc (suc (suc (suc (suc (suc (suc (k))))))))))))))))) e f = λ i. record { lines = U.lines; depths = set ds (suc (suc (suc (suc (suc (suc (suc (suc (suc (suc (suc (suc (suc (suc (suc (suc (k))))))))))))))))) (get_or ds (suc (suc (suc (suc (suc (suc (suc (suc (suc (suc (suc (suc (suc (suc (suc (suc (k))))))))))))))))) [] ++ (deep (suc (suc (suc (suc (suc (suc (suc (suc (suc (suc (suc (suc (suc (suc (suc (suc (k))))))))))))))))) z i ∷ [])); used = (added U (suc (suc (suc (suc (suc (suc (suc (suc (suc (suc (suc (suc (suc (suc (suc (suc (k))))))))))))))))) z).used }

  -- of principal, and of resource
  abbrev deeper : ℕ → List (List ℕ)
  deeper k = set ds k (get_or ds k [] ++ (1 ∷ []))

  abbrev filled : List (List ℕ) → Lines → Lines → State
  filled ds p r = at_state a0 a1 a2 a3 a4 a5 a6 a8 a10 a11 a12 a13 a14 a15 ds us p r

  one_principal : (k y : ℕ) → added U PRINCIPAL (principal_tag ∷ k ∷ y ∷ []) ≡ filled (deeper PRINCIPAL) (set_texts q.principal a7 ++ ((principal_tag ∷ k ∷ y ∷ []) ∷ [])) (set_texts q.resource a9)
  unfolding depth refs slot_at form_of forms
  one_principal k y = refl

  pub added_principal : (k x : ℕ) → added U PRINCIPAL (set_text q.principal (principal_tag ∷ k ∷ x ∷ [])) ≡ with_texts (added S PRINCIPAL (principal_tag ∷ k ∷ x ∷ [])) q
  unfolding with_texts depth refs slot_at form_of forms
  added_principal k x =
      of_text principal_tag k (λ z. added U PRINCIPAL z ≡ filled (deeper PRINCIPAL) (set_texts q.principal a7 ++ (z ∷ [])) (set_texts q.resource a9)) (one_principal k) q.principal x
      ∙ (λ i. filled (deeper PRINCIPAL) (sym (texts_append q.principal a7 (principal_tag ∷ k ∷ x ∷ [])) i) (set_texts q.resource a9))

  one_resource : (k y : ℕ) → added U RESOURCE (resource_tag ∷ k ∷ y ∷ []) ≡ filled (deeper RESOURCE) (set_texts q.principal a7) (set_texts q.resource a9 ++ ((resource_tag ∷ k ∷ y ∷ []) ∷ []))
  unfolding depth refs slot_at form_of forms
  one_resource k y = refl

  pub added_resource : (k x : ℕ) → added U RESOURCE (set_text q.resource (resource_tag ∷ k ∷ x ∷ [])) ≡ with_texts (added S RESOURCE (resource_tag ∷ k ∷ x ∷ [])) q
  unfolding with_texts depth refs slot_at form_of forms
  added_resource k x =
      of_text resource_tag k (λ z. added U RESOURCE z ≡ filled (deeper RESOURCE) (set_texts q.principal a7) (set_texts q.resource a9 ++ (z ∷ []))) (one_resource k) q.resource x
      ∙ (λ i. filled (deeper RESOURCE) (set_texts q.principal a7) (sym (texts_append q.resource a9 (resource_tag ∷ k ∷ x ∷ [])) i))

-- a text that exists may stand for `?`
module _ (s : State) (k t : ℕ) (there : ltb t (count s TEXT) ≡ true) where
  abbrev refusal : ℕ → Bool → ℕ
  refusal j b = cond (not (in_order s j)) 3 (cond (leb (get_or (greatest s) j 0) (count s j) || false) 4 (cond (not (ltb k (count s KIND) && (b && true) && true && true)) 5 (cond (ltb 64 1) 6 (cond (not (not (is_action s k))) 7 0))))

  fault_principal : (y : ℕ) → fault s (principal_tag ∷ k ∷ y ∷ []) ≡ refusal PRINCIPAL (eqb y mark || ltb y (count s TEXT))
  unfolding fault found depth typed refs key_of slot_at form_of forms ascendings
  fault_principal y = refl

  fault_resource : (y : ℕ) → fault s (resource_tag ∷ k ∷ y ∷ []) ≡ refusal RESOURCE (eqb y mark || ltb y (count s TEXT))
  unfolding fault found depth typed refs key_of slot_at form_of forms ascendings
  fault_resource y = refl

  may_stand : (x : ℕ) → eqb x mark ≡ true → (eqb x mark || ltb x (count s TEXT)) ≡ (eqb t mark || ltb t (count s TEXT))
  may_stand x e = ap (λ b. b || ltb x (count s TEXT)) e ∙ sym (or_right (eqb t mark) (ltb t (count s TEXT)) there)

  fill : (T j : ℕ) → ((y : ℕ) → fault s (T ∷ k ∷ y ∷ []) ≡ refusal j (eqb y mark || ltb y (count s TEXT))) → (x : ℕ) → fault s (T ∷ k ∷ x ∷ []) ≡ 0 → fault s (set_text t (T ∷ k ∷ x ∷ [])) ≡ 0
  fill T j f x e = go (eqb x mark) refl
    where
      go : (b : Bool) → eqb x mark ≡ b → fault s (cond b (T ∷ k ∷ t ∷ []) (T ∷ k ∷ x ∷ [])) ≡ 0
      go true g = f t ∙ ap (refusal j) (sym (may_stand x g)) ∙ sym (f x) ∙ e
      go false g = e

  pub fill_principal : (x : ℕ) → fault s (principal_tag ∷ k ∷ x ∷ []) ≡ 0 → fault s (set_text t (principal_tag ∷ k ∷ x ∷ [])) ≡ 0
  fill_principal = fill principal_tag PRINCIPAL fault_principal

  pub fill_resource : (x : ℕ) → fault s (resource_tag ∷ k ∷ x ∷ []) ≡ 0 → fault s (set_text t (resource_tag ∷ k ∷ x ∷ [])) ≡ 0
  fill_resource = fill resource_tag RESOURCE fault_resource

-- the number of lines of each key stays
pub enough_with : (s : State) (q : Asked) → length s.lines ≡ no_key → enough s no_key ≡ enough (with_texts s q) no_key
unfolding with_texts
enough_with s q e = listed s.lines e (λ a0 a1 a2 a3 a4 a5 a6 a7 a8 a9 a10 a11 a12 a13 a14 a15 g.
    subst (λ ls. enough (record { lines = ls; depths = s.depths; used = s.used }) no_key ≡ enough (with_texts (record { lines = ls; depths = s.depths; used = s.used }) q) no_key) (sym g)
    (λ i. reach (take no_key (numbers a0 a1 a2 a3 a4 a5 a6 a8 a10 a11 a12 a13 a14 a15 s.depths s.used (texts_length q.principal a7 i) (texts_length q.resource a9 i))) (1 ∷ 0 ∷ 0 ∷ 0 ∷ length a2 ∷ 0 ∷ 0 ∷ 1 ∷ 1 ∷ 1 ∷ 1 ∷ 1 ∷ 0 ∷ 0 ∷ 0 ∷ 0 ∷ [])))

pub nodes_with : (s : State) (q : Asked) → length s.lines ≡ no_key → count s NODE ≡ count (with_texts s q) NODE
unfolding with_texts
nodes_with s q e = listed s.lines e (λ a0 a1 a2 a3 a4 a5 a6 a7 a8 a9 a10 a11 a12 a13 a14 a15 g.
    subst (λ ls. count (record { lines = ls; depths = s.depths; used = s.used }) NODE ≡ count (with_texts (record { lines = ls; depths = s.depths; used = s.used }) q) NODE) (sym g) refl)

pub linked_with : (s : State) (q : Asked) → length s.lines ≡ no_key → ltb (first_unlinked s 0 (lines_of s POLICY)) (count s POLICY) ≡ ltb (first_unlinked (with_texts s q) 0 (lines_of (with_texts s q) POLICY)) (count (with_texts s q) POLICY)
unfolding with_texts
linked_with s q e = listed s.lines e (λ a0 a1 a2 a3 a4 a5 a6 a7 a8 a9 a10 a11 a12 a13 a14 a15 g.
    subst (λ ls. ltb (first_unlinked (record { lines = ls; depths = s.depths; used = s.used }) 0 (get_or ls POLICY [])) (length (get_or ls POLICY [])) ≡ ltb (first_unlinked (with_texts (record { lines = ls; depths = s.depths; used = s.used }) q) 0 (lines_of (with_texts (record { lines = ls; depths = s.depths; used = s.used }) q) POLICY)) (count (with_texts (record { lines = ls; depths = s.depths; used = s.used }) q) POLICY)) (sym g)
    (λ i. ltb (linked_same a0 a1 a2 a3 a4 a5 a6 a8 a10 a11 a12 a13 a14 a15 s.depths s.used a7 (set_texts q.principal a7) a9 (set_texts q.resource a9) 0 a13 i) (length a13)))

pub unfit_with : (s : State) (q : Asked) → length s.lines ≡ no_key → ltb (first_unfit s (lines_of s ENTITY)) (count s ENTITY) ≡ ltb (first_unfit (with_texts s q) (lines_of (with_texts s q) ENTITY)) (count (with_texts s q) ENTITY)
unfolding with_texts
unfit_with s q e = listed s.lines e (λ a0 a1 a2 a3 a4 a5 a6 a7 a8 a9 a10 a11 a12 a13 a14 a15 g.
    subst (λ ls. ltb (first_unfit (record { lines = ls; depths = s.depths; used = s.used }) (get_or ls ENTITY [])) (length (get_or ls ENTITY [])) ≡ ltb (first_unfit (with_texts (record { lines = ls; depths = s.depths; used = s.used }) q) (lines_of (with_texts (record { lines = ls; depths = s.depths; used = s.used }) q) ENTITY)) (count (with_texts (record { lines = ls; depths = s.depths; used = s.used }) q) ENTITY)) (sym g)
    (λ i. ltb (unfit_same a0 a1 a2 a3 a4 a5 a6 a8 a10 a11 a12 a13 a14 a15 s.depths s.used a7 (set_texts q.principal a7) a9 (set_texts q.resource a9) a6 i) (length a6)))

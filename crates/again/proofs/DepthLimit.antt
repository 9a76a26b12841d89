-- Document 02, 2.13, "within the depth limit": the tree of a policy that runs, as it is linked, is at most 64 deep.
use mathlib.Core.Path.{◌≡◌, refl, sym, ◌∙◌, ap, subst}
use mathlib.Core.Bool.{Bool, true, false}
use mathlib.Core.List.{List, [], ◌∷◌, ◌++◌, append_assoc}
use Prim.Native.Nat.{ℕ, zero, suc, ◌<◌, ◌≤◌, ◌+◌, ◌-◌, max}
use native.Mathlib.Omega.{arith}
use lib.ListN.{length, get_or, drop, length-append}
use lib.Seq.{get_or-append_seam}
use Rattle.cedar.specs.Types.{Ty, tbool}
use Rattle.cedar.specs.Residual.{Node, err}
use Rattle.cedar.specs.Runs.{NPolicy}
use Rattle.cedar.proofs.TableLaws.{InN, now', later'}
use Rattle.sheet.specs.Forms.{Mode, partial, Slot, line, forms, form_of, slot_at, tag_of, is_line, keep, refs_from, refs, at, key_of, first_node, NODE, no_tag}
use Rattle.sheet.specs.State.{State, lines_of, depths_of}
use Rattle.sheet.specs.Sheet.{read}
use Rattle.sheet.specs.Content.{children_over, args_over, tree_for, tree_over, trees_from, trees, n_policies, numbered_policies, types, on_term, linked}
use Rattle.sheet.specs.Answer.{op}
use Rattle.sheet.proofs.reading.Lines.{Was, History}
use Rattle.sheet.proofs.reading.Parsed.{tags_between, node_tags}
use Rattle.sheet.proofs.reading.NodeRows.{row_read}
use Rattle.sheet.proofs.reading.Slots.{set_slot, field_slot}
use Rattle.sheet.proofs.reading.Depths.{Deep, reached_history, reached_depths, read_reached}
use Rattle.again.specs.TreeDepth.{tree_depth, deepest_of, deepest_arg}

-- the deepest of these
abbrev max_at : (ℕ → ℕ) → List ℕ → ℕ
max_at D [] = 0
max_at D (n ∷ l) = max (D n) (max_at D l)

keep_more : (D : ℕ → ℕ) (b : Bool) (x : ℕ) (l : List ℕ) → max_at D l ≤ max_at D (keep b x l)
keep_more D true x l = omega arith
keep_more D false x l = omega arith

keep_this : (D : ℕ → ℕ) (sl : Slot) (x : ℕ) (l : List ℕ) → sl ≡ line NODE → max_at D (keep (is_line NODE sl) x l) ≡ max (D x) (max_at D l)
keep_this D sl x l e = ap (λ z. max_at D (keep (is_line NODE z) x l)) e

-- a node that a row refers to is among its references
ref_at : (D : ℕ → ℕ) (t i j : ℕ) (l : List ℕ) → j < length l → slot_at t (i + j) ≡ line NODE → D (get_or l j 0) ≤ max_at D (refs_from NODE t i l)
ref_at D t i j [] h p = absurd (omega arith)
ref_at D t i zero (x ∷ l) h p = let a = keep_this D (slot_at t i) x (refs_from NODE t (suc i) l) (subst (λ n. slot_at t n ≡ line NODE) (omega arith) p) in omega (arith, a)
ref_at D t i (suc j) (x ∷ l) h p =
    let a = ref_at D t (suc i) j l (omega arith) (subst (λ n. slot_at t n ≡ line NODE) (omega arith) p) in
    let b = keep_more D (is_line NODE (slot_at t i)) x (refs_from NODE t (suc i) l) in
    omega (arith, a, b)

-- over trees that are no deeper than D says, and for a row's items l
module _ (D : ℕ → ℕ) (ns : List (Node ℕ)) (k : (n : ℕ) → tree_depth (get_or ns n (err tbool)) ≤ D n) (l : List ℕ) where
  abbrev child : ℕ → Node ℕ
  child j = get_or ns (get_or l j 0) (err tbool)

  -- the tree of a row with tag t is at most one deeper than the nodes that the row refers to
  abbrev Low : ℕ → Node ℕ → Type 0
  Low t e = length (form_of t).items ≤ length l → tree_depth e ≤ suc (max_at D (refs NODE (t ∷ l)))

  module _ (t : ℕ) where
    kid : (j : ℕ) → j < length l → slot_at t j ≡ line NODE → tree_depth (child j) ≤ max_at D (refs NODE (t ∷ l))
    unfolding refs
    kid j h p = let a = k (get_or l j 0) in let b = ref_at D t 0 j l h (subst (λ n. slot_at t n ≡ line NODE) (omega arith) p) in omega (arith, a, b)

    one : 2 ≤ length (form_of t).items → slot_at t 1 ≡ line NODE → length (form_of t).items ≤ length l → suc (tree_depth (child 1)) ≤ suc (max_at D (refs NODE (t ∷ l)))
    one n p h = let a = kid 1 (omega (arith, n, h)) p in omega (arith, a)

    two : 3 ≤ length (form_of t).items → slot_at t 1 ≡ line NODE → slot_at t 2 ≡ line NODE → length (form_of t).items ≤ length l → suc (max (tree_depth (child 1)) (tree_depth (child 2))) ≤ suc (max_at D (refs NODE (t ∷ l)))
    two n p q h = let a = kid 1 (omega (arith, n, h)) p in let b = kid 2 (omega (arith, n, h)) q in omega (arith, a, b)

    three : 4 ≤ length (form_of t).items → slot_at t 1 ≡ line NODE → slot_at t 2 ≡ line NODE → slot_at t 3 ≡ line NODE → length (form_of t).items ≤ length l
        → suc (max (tree_depth (child 1)) (max (tree_depth (child 2)) (tree_depth (child 3)))) ≤ suc (max_at D (refs NODE (t ∷ l)))
    three n p q r h = let a = kid 1 (omega (arith, n, h)) p in let b = kid 2 (omega (arith, n, h)) q in let c = kid 3 (omega (arith, n, h)) r in omega (arith, a, b, c)

  module _ (ts : List Ty) where
    children : (j : ℕ) (m : List ℕ) → deepest_of (children_over ts (λ n. n) ns m) ≤ max_at D (refs_from NODE (op "set") (suc j) m)
    unfolding tag_of forms
    children j [] = omega arith
    children j (n ∷ m) = let a = k n in let b = children (suc j) m in let c = keep_this D (slot_at (op "set") (suc j)) n (refs_from NODE (op "set") (suc (suc j)) m) (set_slot j) in omega (arith, a, b, c)

    arguments : (i : ℕ) (m : List ℕ) → deepest_arg (args_over ts (λ n. n) ns m) ≤ max_at D (refs_from NODE (op "record") (suc (i + i)) m)
    unfolding tag_of forms
    arguments i [] = omega arith
    arguments i (t ∷ []) = omega arith
    arguments i (t ∷ n ∷ m) = let a = k n in let b = arguments (suc i) m in
        let c = keep_this D (slot_at (op "record") (suc (suc (i + i)))) n (refs_from NODE (op "record") (suc (suc (suc (i + i)))) m) (field_slot i) in
        let d = keep_more D (is_line NODE (slot_at (op "record") (suc (i + i)))) t (keep (is_line NODE (slot_at (op "record") (suc (suc (i + i))))) n (refs_from NODE (op "record") (suc (suc (suc (i + i)))) m)) in
        let e : refs_from NODE (op "record") (suc (suc i + suc i)) m ≡ refs_from NODE (op "record") (suc (suc (suc (i + i)))) m = ap (λ j. refs_from NODE (op "record") j m) (omega arith) in
        let f = ap (max_at D) e in
        omega (arith, a, b, c, d, f)

  set_kids : (ts : List Ty) (m : List ℕ) → suc (deepest_of (children_over ts (λ n. n) ns (drop 1 m))) ≤ suc (max_at D (refs NODE (op "set" ∷ m)))
  unfolding refs
  set_kids ts [] = omega arith
  set_kids ts (x ∷ m) = let a = children ts 0 m in let b = keep_more D (is_line NODE (slot_at (op "set") 0)) x (refs_from NODE (op "set") 1 m) in omega (arith, a, b)

  record_kids : (ts : List Ty) (m : List ℕ) → suc (deepest_arg (args_over ts (λ n. n) ns (drop 1 m))) ≤ suc (max_at D (refs NODE (op "record" ∷ m)))
  unfolding refs
  record_kids ts [] = omega arith
  record_kids ts (x ∷ m) = let a = arguments ts 0 m in let b = keep_more D (is_line NODE (slot_at (op "record") 0)) x (refs_from NODE (op "record") 1 m) in omega (arith, a, b)

  -- the trees of all operations, from tag t on
  data Lows : ℕ → List (Node ℕ) → Type 0 where
    done : {t : ℕ} → Lows t []
    ◌&◌ : {t : ℕ} {e : Node ℕ} {es : List (Node ℕ)} → Low t e → Lows (suc t) es → Lows t (e ∷ es)

  infixr 5 ◌&◌
  low_at : (t n : ℕ) (es : List (Node ℕ)) → Lows t es → n < length es → Low (t + n) (get_or es n (err tbool))
  low_at t n [] h b = absurd (omega arith)
  low_at t zero (e ∷ es) (h & hs) b = subst (λ x. Low x e) (omega arith) h
  low_at t (suc n) (e ∷ es) (h & hs) b = subst (λ x. Low x (get_or es n (err tbool))) (omega arith) (low_at (suc t) n es hs (omega arith))

  leaf : (t : ℕ) → length (form_of t).items ≤ length l → 1 ≤ suc (max_at D (refs NODE (t ∷ l)))
  leaf t h = omega arith

  -- in the table's order
  all_low : (ts : List Ty) (p q t : ℕ) (T : Ty) → Lows first_node (tree_for ts (λ n. n) (linked (λ n. n) p q) ns (t ∷ l) T child)
  unfolding tag_of slot_at form_of forms
  all_low ts p q t T =
      leaf (op "lit")
      & leaf (op "err")
      & leaf (op "var")
      & two (op "and") (omega arith) refl refl
      & two (op "or") (omega arith) refl refl
      & two (op "eq") (omega arith) refl refl
      & two (op "lt") (omega arith) refl refl
      & two (op "le") (omega arith) refl refl
      & two (op "add") (omega arith) refl refl
      & two (op "sub") (omega arith) refl refl
      & two (op "mul") (omega arith) refl refl
      & two (op "in") (omega arith) refl refl
      & two (op "gettag") (omega arith) refl refl
      & two (op "hastag") (omega arith) refl refl
      & two (op "contains") (omega arith) refl refl
      & two (op "all") (omega arith) refl refl
      & two (op "any") (omega arith) refl refl
      & three (op "if") (omega arith) refl refl refl
      & one (op "is") (omega arith) refl
      & one (op "like") (omega arith) refl
      & one (op "get") (omega arith) refl
      & one (op "has") (omega arith) refl
      & one (op "haspath") (omega arith) refl
      & one (op "not") (omega arith) refl
      & one (op "neg") (omega arith) refl
      & one (op "empty") (omega arith) refl
      & (λ h. set_kids ts l)
      & (λ h. record_kids ts l)
      & leaf (op "slot")
      & done

fit_snoc : (D : ℕ → ℕ) → ((n : ℕ) → 1 ≤ D n) → (ns : List (Node ℕ)) (a : Node ℕ) → ((n : ℕ) → tree_depth (get_or ns n (err tbool)) ≤ D n) → tree_depth a ≤ D (length ns) → (n : ℕ) → tree_depth (get_or (ns ++ (a ∷ [])) n (err tbool)) ≤ D n
fit_snoc D o [] a k h zero = h
fit_snoc D o [] a k h (suc n) = o (suc n)
fit_snoc D o (x ∷ ns) a k h zero = k 0
fit_snoc D o (x ∷ ns) a k h (suc n) = fit_snoc (λ i. D (suc i)) (λ i. o (suc i)) ns a (λ i. k (suc i)) h n

-- all of a list are below b
max_below : (D : ℕ → ℕ) (b : ℕ) (l : List ℕ) → 1 ≤ b → ((y : ℕ) → InN y l → D y < b) → suc (max_at D l) ≤ b
max_below D b [] o f = o
max_below D b (y ∷ l) o f = let a = f y now' in let c = max_below D b l o (λ z i. f z (later' i)) in omega (arith, a, c)

module _ (m : Mode) (s : State) (h : History m s) (d : Deep NODE (lines_of s NODE) (depths_of s NODE)) where
  -- the depth of each node's line; 1 where there is none
  abbrev D : ℕ → ℕ
  D n = max 1 (get_or (depths_of s NODE) n 0)

  least_one : (n : ℕ) → 1 ≤ D n
  least_one n = omega arith

  module _ (p q : ℕ) where
    new_fit : (pre : List (List ℕ)) (r : List ℕ) → Was m s NODE pre r → (ns : List (Node ℕ)) → ((n : ℕ) → tree_depth (get_or ns n (err tbool)) ≤ D n)
        → tree_depth (tree_over (types s) (λ n. n) (linked (λ n. n) p q) ns r) ≤ suc (max_at D (refs NODE r))
    unfolding key_of tag_of forms
    new_fit pre [] w ns k = let (lo, hi) = tags_between NODE first_node (op "slot") no_tag (omega arith) node_tags w.key in absurd (omega (arith, hi))
    new_fit pre (t ∷ l) w ns k =
        let (lo, hi) = tags_between NODE first_node (op "slot") t (omega arith) node_tags w.key in
        let rd = row_read m (t ∷ l) w.line t w.row refl (omega (arith, lo)) (omega (arith, hi)) (λ z. absurd (omega (arith, z, lo))) in
        let es = tree_for (types s) (λ n. n) (linked (λ n. n) p q) ns (t ∷ l) (get_or (types s) (at (t ∷ l) 0) tbool) (child D ns k l) in
        let low : Low D ns k l t (get_or es (t - first_node) (err tbool)) = subst (λ x. Low D ns k l x (get_or es (t - first_node) (err tbool))) (omega (arith, lo))
        (low_at D ns k l first_node (t - first_node) es (all_low D ns k l (types s) p q t (get_or (types s) (at (t ∷ l) 0) tbool)) (omega (arith, lo, hi))) in
        low rd.least

    -- a line is deeper than those that it refers to
    line_deep : (pre : List (List ℕ)) (r : List ℕ) (rest : List (List ℕ)) → lines_of s NODE ≡ pre ++ (r ∷ rest) → suc (max_at D (refs NODE r)) ≤ D (length pre)
    line_deep pre r rest e =
        let g : get_or (lines_of s NODE) (length pre) [] ≡ r = ap (λ l. get_or l (length pre) []) e ∙ get_or-append_seam pre r rest [] in
        let z = ap length e ∙ length-append pre (r ∷ rest) in
        let o = d.least (length pre) (omega (arith, z)) in
        max_below D (D (length pre)) (refs NODE r) (omega arith) (λ y i.
        let (a, b) = d.falls (length pre) y (subst (λ x. InN y (refs NODE x)) (sym g) i) in
        let c = d.least y a in omega (arith, b, c, o))

    fit_from : (pre rest : List (List ℕ)) (ns : List (Node ℕ)) → lines_of s NODE ≡ pre ++ rest → length ns ≡ length pre → ((n : ℕ) → tree_depth (get_or ns n (err tbool)) ≤ D n)
        → (n : ℕ) → tree_depth (get_or (trees_from (types s) (λ n. n) (linked (λ n. n) p q) ns rest) n (err tbool)) ≤ D n
    fit_from pre [] ns e z k = k
    fit_from pre (r ∷ rest) ns e z k =
        let a = tree_over (types s) (λ n. n) (linked (λ n. n) p q) ns r in
        let x = length-append ns (a ∷ []) in
        let y = length-append pre (r ∷ []) in
        let u = new_fit pre r (h NODE pre r rest e) ns k in
        let v = line_deep pre r rest e in
        let w : D (length pre) ≡ D (length ns) = ap D (sym z) in
        fit_from (pre ++ (r ∷ [])) rest (ns ++ (a ∷ [])) (e ∙ sym (append_assoc pre (r ∷ []) rest)) (omega (arith, x, y, z))
        (fit_snoc D least_one ns a k (subst (λ b. tree_depth a ≤ b) w (omega (arith, u, v))))

    -- no tree is deeper than 64
    tree_within : (n : ℕ) → tree_depth (get_or (trees s p q) n (err tbool)) ≤ 64
    unfolding trees
    tree_within n = let a = fit_from [] (lines_of s NODE) [] refl refl (λ i. least_one i) n in let b = d.low n in omega (arith, a, b)

-- of all policies
abbrev pub AllWithin : List NPolicy → Type 0
AllWithin [] = Unit {0}
AllWithin (p ∷ ps) = (tree_depth p.tree ≤ 64) × AllWithin ps

rows_within : (ns : ℕ → ℕ → List (Node ℕ)) → ((p q n : ℕ) → tree_depth (get_or (ns p q) n (err tbool)) ≤ 64) → (rs : List (List ℕ)) → AllWithin (numbered_policies ns rs)
rows_within ns k [] = tt
rows_within ns k (r ∷ rs) = (k (at r 3) (at r 4) (at r 2), rows_within ns k rs)

-- THE POLICIES THAT RUN, AS THEY ARE LINKED, ARE AT MOST 64 DEEP
pub policies_within : (sheet : List ℕ) → AllWithin (n_policies (read partial sheet).state)
unfolding n_policies
policies_within sheet =
    let x = read_reached partial sheet in
    rows_within (trees (read partial sheet).state) (λ p q n. tree_within partial (read partial sheet).state (reached_history x) ((reached_depths x).deep NODE) p q n) (on_term (read partial sheet).state)

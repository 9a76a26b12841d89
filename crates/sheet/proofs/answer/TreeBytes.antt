-- The bytes of the items of `like` and `haspath` in a policy's tree: no more than its sheet has. "Other nodes keep their single use", so none is counted twice.
use mathlib.Core.Path.{◌≡◌, refl, sym, ◌∙◌, ap, subst}
use mathlib.Core.Bool.{Bool, true, false, cond}
use mathlib.Core.List.{List, [], ◌∷◌, ◌++◌, append_assoc}
use Prim.Native.Nat.{ℕ, zero, suc, ◌<◌, ◌≤◌, ◌+◌, ◌-◌, ◌*◌}
use native.Mathlib.Nat.{le_of_suc-le-suc}
use native.Mathlib.Omega.{arith}
use borrow.Author.Tests.{eq-eqb, leb-true}
use lib.Dec.{leb, eqb}
use lib.ListN.{length, get_or, drop, set, length-set, length-append}
use Rattle.cedar.proofs.Tools.{no_true, eqb_true, neither}
use Rattle.cedar.specs.Types.{Ty, tbool}
use Rattle.cedar.specs.Residual as N
use Rattle.cedar.specs.Residual.{star, piece, Node, Nodes, NodeArgs, lit, err, var, and, or, ite, un, bin, rel, get, has, haspath, rec, enil, econs, gnil, gcons, Un, unot, uneg, uempty, uis, ulike}
use Rattle.cedar.specs.Runs.{NPolicy, NVerdict}
use Rattle.sheet.specs.Forms.{Mode, line, forms, form_of, slot_at, is_line, keep, refs_from, refs, mark, tag, items, at, key_of, row_of, NODE, POLICY, no_key, no_tag, first_node}
use Rattle.sheet.specs.State.{State, lines_of, count}
use Rattle.sheet.specs.Sheet.{fault, more, marked, used_twice, read}
use Rattle.sheet.specs.Content.{pattern_of, children_over, args_over, tree_for, tree_over, trees_from, trees, types, linked, numbered_policies, n_policies, on_term}
use Rattle.sheet.specs.Call.{room}
use Rattle.sheet.specs.Answer.{numbers, pattern_items, item_out, items_out}
use Rattle.sheet.proofs.reading.Lines.{Passed, passed, set_cases, lines_more, later_empty, Was, History, holds_read}
use Rattle.sheet.proofs.reading.Parsed.{all_below, all_below_law, tags_between, node_tags, policy_tags, policy_tag}
use Rattle.sheet.proofs.reading.NodeRows.{row_read}
use Rattle.sheet.proofs.reading.Limits.{most_lines}
use Rattle.sheet.proofs.reading.Slots.{path_slot, set_slot, field_slot}
use Rattle.sheet.proofs.content.PoliciesRead.{all_there_law}
use Rattle.sheet.proofs.running.LeftOver.{Along, here, on, Left, as_lit, as_err, as_var, in_and, and_one, and_two, in_or, or_one, or_two, in_if, if_one, if_two, in_un, in_bin, in_rel, in_get, in_has, in_path, on_path, in_set, in_rec, LeftAll, left_nil, left_cons, LeftArgs, left_stop, left_arg, LeftLines, one_line}
use Rattle.sheet.proofs.running.LeftOver as O
use Rattle.sheet.proofs.running.Uses.{sum_at, AllBelow, refs_below, keep_more, keep_this, lines_other, lines_own}
use Rattle.sheet.proofs.content.OnTerm as E
use Rattle.sheet.proofs.content.OnTerm.{Each, on_term_law, on_term_few}
use Rattle.sheet.proofs.answer.ItemBytes.{weigh, like_tag, path_tag, row_bytes, all_bytes, all_snoc, policy_line, read_cost}

-- ---- trees

abbrev pub un_bytes : Un → ℕ
un_bytes unot = 0
un_bytes uneg = 0
un_bytes uempty = 0
un_bytes (uis k) = 0
un_bytes (ulike p) = weigh (items_out like_tag 2 (pattern_items p))

-- the bytes of patterns, and of paths after their first step
abbrev mutual
  pub tree_bytes : Node ℕ → ℕ
  tree_bytes (lit T v) = 0
  tree_bytes (err T) = 0
  tree_bytes (var T x) = 0
  tree_bytes (and T a b) = tree_bytes a + tree_bytes b
  tree_bytes (or T a b) = tree_bytes a + tree_bytes b
  tree_bytes (ite T c a b) = tree_bytes c + tree_bytes a + tree_bytes b
  tree_bytes (un T u a) = un_bytes u + tree_bytes a
  tree_bytes (bin T o a b) = tree_bytes a + tree_bytes b
  tree_bytes (rel T o a b) = tree_bytes a + tree_bytes b
  tree_bytes (get T a t) = tree_bytes a
  tree_bytes (has T a t) = tree_bytes a
  tree_bytes (haspath T a t us) = weigh (numbers us) + tree_bytes a
  tree_bytes (N.set T es) = trees_bytes es
  tree_bytes (rec T gs) = args_bytes gs

  pub trees_bytes : Nodes ℕ → ℕ
  trees_bytes enil = 0
  trees_bytes (econs e es) = tree_bytes e + trees_bytes es

  pub args_bytes : NodeArgs ℕ → ℕ
  args_bytes gnil = 0
  args_bytes (gcons t e gs) = tree_bytes e + args_bytes gs

-- ---- what is left of a tree has no more

along_bytes : {t u : ℕ} {ts us : List ℕ} → Along t ts u us → weigh (numbers us) ≤ weigh (numbers ts)
along_bytes {ts = ts} here = omega arith
along_bytes (on p) = let a = along_bytes p in omega (arith, a)

mutual
  left_bytes : {e r : Node ℕ} → Left e r → tree_bytes r ≤ tree_bytes e
  left_bytes as_lit = omega arith
  left_bytes as_err = omega arith
  left_bytes as_var = omega arith
  left_bytes (in_and a b) = let x = left_bytes a in let y = left_bytes b in omega (arith, x, y)
  left_bytes (and_one a) = let x = left_bytes a in omega (arith, x)
  left_bytes (and_two b) = let x = left_bytes b in omega (arith, x)
  left_bytes (in_or a b) = let x = left_bytes a in let y = left_bytes b in omega (arith, x, y)
  left_bytes (or_one a) = let x = left_bytes a in omega (arith, x)
  left_bytes (or_two b) = let x = left_bytes b in omega (arith, x)
  left_bytes (in_if a b c) = let x = left_bytes a in let y = left_bytes b in let z = left_bytes c in omega (arith, x, y, z)
  left_bytes (if_one b) = let x = left_bytes b in omega (arith, x)
  left_bytes (if_two c) = let x = left_bytes c in omega (arith, x)
  left_bytes (in_un a) = let x = left_bytes a in omega (arith, x)
  left_bytes (in_bin a b) = let x = left_bytes a in let y = left_bytes b in omega (arith, x, y)
  left_bytes (in_rel a b) = let x = left_bytes a in let y = left_bytes b in omega (arith, x, y)
  left_bytes (in_get a) = left_bytes a
  left_bytes (in_has a) = left_bytes a
  left_bytes (in_path a) = let x = left_bytes a in omega (arith, x)
  left_bytes (on_path p) = let x = along_bytes p in omega (arith, x)
  left_bytes (in_set k) = left_all_bytes k
  left_bytes (in_rec k) = left_args_bytes k

  left_all_bytes : {es fs : Nodes ℕ} → LeftAll es fs → trees_bytes fs ≤ trees_bytes es
  left_all_bytes left_nil = omega arith
  left_all_bytes (left_cons a k) = let x = left_bytes a in let y = left_all_bytes k in omega (arith, x, y)

  left_args_bytes : {gs hs : NodeArgs ℕ} → LeftArgs gs hs → args_bytes hs ≤ args_bytes gs
  left_args_bytes left_stop = omega arith
  left_args_bytes (left_arg a k) = let x = left_bytes a in let y = left_args_bytes k in omega (arith, x, y)

-- of all policies, and of their residuals
abbrev pub policy_bytes : List NPolicy → ℕ
policy_bytes [] = 0
policy_bytes (p ∷ ps) = tree_bytes p.tree + policy_bytes ps

abbrev pub residual_bytes : List NVerdict → ℕ
residual_bytes [] = 0
residual_bytes (l ∷ ls) = tree_bytes l.root + residual_bytes ls

pub lines_bytes : {ps : List NPolicy} {ls : List NVerdict} → LeftLines ps ls → residual_bytes ls ≤ policy_bytes ps
lines_bytes O.no_lines = omega arith
lines_bytes (one_line a k) = let x = left_bytes a in let y = lines_bytes k in omega (arith, x, y)

-- ---- a row's tree: the row's bytes, and those of the trees that it refers to

pattern_back : (l : List ℕ) → pattern_items (pattern_of l) ≡ l
pattern_back [] = refl
pattern_back (x ∷ l) = go (eqb x mark) refl (pattern_back l)
  where
    go : (b : Bool) → eqb x mark ≡ b → pattern_items (pattern_of l) ≡ l → pattern_items (cond b star (piece x) ∷ pattern_of l) ≡ x ∷ l
    go true q h = ap (λ z. z ∷ pattern_items (pattern_of l)) (sym (eqb_true x mark q)) ∙ ap (λ z. x ∷ z) h
    go false q h = ap (λ z. x ∷ z) h

like_row_law : (l : List ℕ) → weigh (items_out like_tag 2 (pattern_items (pattern_of (drop 2 l)))) ≤ row_bytes (like_tag ∷ l)
unfolding row_bytes
like_row_law [] = omega arith
like_row_law (x ∷ []) = omega arith
like_row_law (x ∷ y ∷ l) = let a = ap (λ z. weigh (items_out like_tag 2 z)) (pattern_back l) in omega (arith, a)

pub path_out : (j : ℕ) (l : List ℕ) → weigh (numbers l) ≡ weigh (items_out path_tag (suc (suc (suc j))) l)
path_out j [] = refl
path_out j (x ∷ l) = let a = path_out (suc j) l in let b = ap (λ s. length (item_out s x)) (path_slot j) in omega (arith, a, b)

path_row : (l : List ℕ) → weigh (numbers (drop 3 l)) ≤ row_bytes (path_tag ∷ l)
unfolding row_bytes
path_row [] = omega arith
path_row (x ∷ []) = omega arith
path_row (x ∷ y ∷ []) = omega arith
path_row (x ∷ y ∷ z ∷ l) = let a = path_out 0 l in omega (arith, a)

-- one claim for each tree of a list, numbered on from t
data Claims (P : ℕ → Node ℕ → Type 0) : ℕ → List (Node ℕ) → Type 0 where
  end : {t : ℕ} → Claims P t []
  also : {t : ℕ} {x : Node ℕ} {xs : List (Node ℕ)} → P t x → Claims P (suc t) xs → Claims P t (x ∷ xs)

claim_at : (P : ℕ → Node ℕ → Type 0) (d : Node ℕ) → ((t : ℕ) → P t d) → {t : ℕ} {xs : List (Node ℕ)} → Claims P t xs → (i u : ℕ) → u ≡ t + i → P u (get_or xs i d)
claim_at P d h end i u e = h u
claim_at P d h (also {x = x} p c) zero u e = subst (λ z. P z x) (omega (arith, e)) p
claim_at P d h (also p c) (suc i) u e = claim_at P d h c i u (omega (arith, e))

module _ (ts : List Ty) (p q : ℕ) (ws : List ℕ) (ns : List (Node ℕ)) (k : (n : ℕ) → tree_bytes (get_or ns n (err tbool)) ≤ get_or ws n 1) where
  abbrev kid : List ℕ → ℕ → Node ℕ
  kid l j = get_or ns (get_or l j 0) (err tbool)

  module _ (t : ℕ) where
    one_kid : (l : List ℕ) → 2 ≤ length l → slot_at t 1 ≡ line NODE → tree_bytes (kid l 1) ≤ sum_at ws (refs NODE (t ∷ l))
    unfolding refs
    one_kid [] h p = absurd (omega arith)
    one_kid (x ∷ []) h p = absurd (omega arith)
    one_kid (x ∷ y ∷ l) h p = let a = k y in
        let u = keep_more ws (is_line NODE (slot_at t 0)) x (refs_from NODE t 1 (y ∷ l)) in
        let v = keep_this ws (slot_at t 1) y (refs_from NODE t 2 l) p in
        omega (arith, a, u, v)

    two_kids : (l : List ℕ) → 3 ≤ length l → slot_at t 1 ≡ line NODE → slot_at t 2 ≡ line NODE → tree_bytes (kid l 1) + tree_bytes (kid l 2) ≤ sum_at ws (refs NODE (t ∷ l))
    unfolding refs
    two_kids [] h p q = absurd (omega arith)
    two_kids (x ∷ []) h p q = absurd (omega arith)
    two_kids (x ∷ y ∷ []) h p q = absurd (omega arith)
    two_kids (x ∷ y ∷ z ∷ l) h p q = let a = k y in let b = k z in
        let u = keep_more ws (is_line NODE (slot_at t 0)) x (refs_from NODE t 1 (y ∷ z ∷ l)) in
        let v = keep_this ws (slot_at t 1) y (refs_from NODE t 2 (z ∷ l)) p in
        let w = keep_this ws (slot_at t 2) z (refs_from NODE t 3 l) q in
        omega (arith, a, b, u, v, w)

    three_kids : (l : List ℕ) → 4 ≤ length l → slot_at t 1 ≡ line NODE → slot_at t 2 ≡ line NODE → slot_at t 3 ≡ line NODE → tree_bytes (kid l 1) + tree_bytes (kid l 2) + tree_bytes (kid l 3) ≤ sum_at ws (refs NODE (t ∷ l))
    unfolding refs
    three_kids [] h p q r = absurd (omega arith)
    three_kids (x ∷ []) h p q r = absurd (omega arith)
    three_kids (x ∷ y ∷ []) h p q r = absurd (omega arith)
    three_kids (x ∷ y ∷ z ∷ []) h p q r = absurd (omega arith)
    three_kids (x ∷ y ∷ z ∷ o ∷ l) h p q r = let a = k y in let b = k z in let c = k o in
        let u = keep_more ws (is_line NODE (slot_at t 0)) x (refs_from NODE t 1 (y ∷ z ∷ o ∷ l)) in
        let v = keep_this ws (slot_at t 1) y (refs_from NODE t 2 (z ∷ o ∷ l)) p in
        let w = keep_this ws (slot_at t 2) z (refs_from NODE t 3 (o ∷ l)) q in
        let g = keep_this ws (slot_at t 3) o (refs_from NODE t 4 l) r in
        omega (arith, a, b, c, u, v, w, g)

  children : (j : ℕ) (l : List ℕ) → trees_bytes (children_over ts (λ n. n) ns l) ≤ sum_at ws (refs_from NODE 47 (suc j) l)
  children j [] = omega arith
  children j (n ∷ l) = let a = k n in let b = children (suc j) l in let c = keep_this ws (slot_at 47 (suc j)) n (refs_from NODE 47 (suc (suc j)) l) (set_slot j) in omega (arith, a, b, c)

  arguments : (i : ℕ) (l : List ℕ) → args_bytes (args_over ts (λ n. n) ns l) ≤ sum_at ws (refs_from NODE 48 (suc (i + i)) l)
  arguments i [] = omega arith
  arguments i (t ∷ []) = omega arith
  arguments i (t ∷ n ∷ l) = let a = k n in let b = arguments (suc i) l in
      let c = keep_this ws (slot_at 48 (suc (suc (i + i)))) n (refs_from NODE 48 (suc (suc (suc (i + i)))) l) (field_slot i) in
      let d = keep_more ws (is_line NODE (slot_at 48 (suc (i + i)))) t (keep (is_line NODE (slot_at 48 (suc (suc (i + i))))) n (refs_from NODE 48 (suc (suc (suc (i + i)))) l)) in
      let e : refs_from NODE 48 (suc (suc i + suc i)) l ≡ refs_from NODE 48 (suc (suc (suc (i + i)))) l = ap (λ j. refs_from NODE 48 j l) (omega arith) in
      let f = ap (sum_at ws) e in
      omega (arith, a, b, c, d, f)

  set_kids : (l : List ℕ) → trees_bytes (children_over ts (λ n. n) ns (drop 1 l)) ≤ sum_at ws (refs NODE (47 ∷ l))
  unfolding refs
  set_kids [] = omega arith
  set_kids (x ∷ l) = let a = children 0 l in let b = keep_more ws (is_line NODE (slot_at 47 0)) x (refs_from NODE 47 1 l) in omega (arith, a, b)

  record_kids : (l : List ℕ) → args_bytes (args_over ts (λ n. n) ns (drop 1 l)) ≤ sum_at ws (refs NODE (48 ∷ l))
  unfolding refs
  record_kids [] = omega arith
  record_kids (x ∷ l) = let a = arguments 0 l in let b = keep_more ws (is_line NODE (slot_at 48 0)) x (refs_from NODE 48 1 l) in omega (arith, a, b)

  module _ (t : ℕ) (l : List ℕ) (h : length (form_of t).items ≤ length l) where
    abbrev most : ℕ → ℕ
    most u = row_bytes (u ∷ l) + sum_at ws (refs NODE (u ∷ l))

    -- the row's tag is u, and the tree at its place has no more bytes than the row
    Claim : ℕ → Node ℕ → Type 0
    Claim u e = t ≡ u → tree_bytes e ≤ most t

    at_tag : (u x : ℕ) → x ≤ most u → t ≡ u → x ≤ most t
    at_tag u x b e = subst (λ z. x ≤ most z) (sym e) b

    few : (u n : ℕ) → length (form_of u).items ≡ n → t ≡ u → n ≤ length l
    few u n q e = let z = ap (λ z. length (form_of z).items) e in omega (arith, z, q, h)

    leaf : (u : ℕ) (e : Node ℕ) → tree_bytes e ≡ 0 → Claim u e
    unfolding Claim
    leaf u e z q = omega (arith, z)

    one : (u : ℕ) (e : Node ℕ) → tree_bytes e ≡ tree_bytes (kid l 1) → 2 ≤ length (form_of u).items → slot_at u 1 ≡ line NODE → Claim u e
    unfolding Claim
    one u e z n s q = let c = few u (length (form_of u).items) refl q in let a = one_kid u l (omega (arith, c, n)) s in at_tag u (tree_bytes e) (omega (arith, a, z)) q

    plain : (u : ℕ) (e : Node ℕ) → tree_bytes e ≡ 0 + tree_bytes (kid l 1) → 2 ≤ length (form_of u).items → slot_at u 1 ≡ line NODE → Claim u e
    plain u e z n s = one u e (z ∙ omega arith) n s

    two : (u : ℕ) (e : Node ℕ) → tree_bytes e ≡ tree_bytes (kid l 1) + tree_bytes (kid l 2) → 3 ≤ length (form_of u).items → slot_at u 1 ≡ line NODE → slot_at u 2 ≡ line NODE → Claim u e
    unfolding Claim
    two u e z n s r q = let c = few u (length (form_of u).items) refl q in let a = two_kids u l (omega (arith, c, n)) s r in at_tag u (tree_bytes e) (omega (arith, a, z)) q

    three : (u : ℕ) (e : Node ℕ) → tree_bytes e ≡ tree_bytes (kid l 1) + tree_bytes (kid l 2) + tree_bytes (kid l 3) → 4 ≤ length (form_of u).items → slot_at u 1 ≡ line NODE → slot_at u 2 ≡ line NODE → slot_at u 3 ≡ line NODE → Claim u e
    unfolding Claim
    three u e z n s r v q = let c = few u (length (form_of u).items) refl q in let a = three_kids u l (omega (arith, c, n)) s r v in at_tag u (tree_bytes e) (omega (arith, a, z)) q

    like_tree : (e : Node ℕ) → tree_bytes e ≡ weigh (items_out like_tag 2 (pattern_items (pattern_of (drop 2 l)))) + tree_bytes (kid l 1) → 2 ≤ length (form_of like_tag).items → slot_at like_tag 1 ≡ line NODE → Claim like_tag e
    unfolding Claim
    like_tree e z n s q = let c = few like_tag (length (form_of like_tag).items) refl q in let a = one_kid like_tag l (omega (arith, c, n)) s in let b = like_row_law l in at_tag like_tag (tree_bytes e) (omega (arith, a, b, z)) q

    path_tree : (e : Node ℕ) → tree_bytes e ≡ weigh (numbers (drop 3 l)) + tree_bytes (kid l 1) → 2 ≤ length (form_of path_tag).items → slot_at path_tag 1 ≡ line NODE → Claim path_tag e
    unfolding Claim
    path_tree e z n s q = let c = few path_tag (length (form_of path_tag).items) refl q in let a = one_kid path_tag l (omega (arith, c, n)) s in let b = path_row l in at_tag path_tag (tree_bytes e) (omega (arith, a, b, z)) q

    set_tree : (e : Node ℕ) → tree_bytes e ≡ trees_bytes (children_over ts (λ n. n) ns (drop 1 l)) → Claim 47 e
    unfolding Claim
    set_tree e z q = let a = set_kids l in at_tag 47 (tree_bytes e) (omega (arith, a, z)) q

    record_tree : (e : Node ℕ) → tree_bytes e ≡ args_bytes (args_over ts (λ n. n) ns (drop 1 l)) → Claim 48 e
    unfolding Claim
    record_tree e z q = let a = record_kids l in at_tag 48 (tree_bytes e) (omega (arith, a, z)) q

    claims : (T : Ty) → Claims Claim first_node (tree_for ts (λ n. n) (linked (λ n. n) p q) ns (t ∷ l) T (kid l))
    unfolding slot_at form_of forms
    claims T =
        also (leaf _ _ refl) (also (leaf _ _ refl) (also (leaf _ _ refl)
        (also (two 24 _ refl (omega arith) refl refl) (also (two 25 _ refl (omega arith) refl refl) (also (two 26 _ refl (omega arith) refl refl)
        (also (two 27 _ refl (omega arith) refl refl) (also (two 28 _ refl (omega arith) refl refl) (also (two 29 _ refl (omega arith) refl refl)
        (also (two 30 _ refl (omega arith) refl refl) (also (two 31 _ refl (omega arith) refl refl) (also (two 32 _ refl (omega arith) refl refl)
        (also (two 33 _ refl (omega arith) refl refl) (also (two 34 _ refl (omega arith) refl refl) (also (two 35 _ refl (omega arith) refl refl)
        (also (two 36 _ refl (omega arith) refl refl) (also (two 37 _ refl (omega arith) refl refl) (also (three 38 _ refl (omega arith) refl refl refl)
        (also (plain 39 _ refl (omega arith) refl) (also (like_tree _ refl (omega arith) refl) (also (one 41 _ refl (omega arith) refl)
        (also (one 42 _ refl (omega arith) refl) (also (path_tree _ refl (omega arith) refl) (also (plain 44 _ refl (omega arith) refl)
        (also (plain 45 _ refl (omega arith) refl) (also (plain 46 _ refl (omega arith) refl)
        (also (set_tree _ refl) (also (record_tree _ refl) (also (leaf _ _ refl) end))))))))))))))))))))))))))))

    tree_most : first_node ≤ t → tree_bytes (tree_over ts (λ n. n) (linked (λ n. n) p q) ns (t ∷ l)) ≤ most t
    unfolding Claim
    tree_most lo = claim_at Claim (err tbool) (λ u. leaf u (err tbool) refl) (claims (get_or ts (get_or l 0 0) tbool)) (t - first_node) t (omega (arith, lo)) refl

-- ---- the bytes of a node with those under it

abbrev loads_from : List ℕ → List (List ℕ) → List ℕ
loads_from ws [] = ws
loads_from ws (r ∷ rs) = loads_from (ws ++ ((row_bytes r + sum_at ws (refs NODE r)) ∷ [])) rs

abbrev loads : List (List ℕ) → List ℕ
loads rs = loads_from [] rs

loads_snoc : (ws : List ℕ) (rs : List (List ℕ)) (r : List ℕ) → loads_from ws (rs ++ (r ∷ [])) ≡ loads_from ws rs ++ ((row_bytes r + sum_at (loads_from ws rs) (refs NODE r)) ∷ [])
loads_snoc ws [] r = refl
loads_snoc ws (x ∷ rs) r = loads_snoc (ws ++ ((row_bytes x + sum_at ws (refs NODE x)) ∷ [])) rs r

loads_length : (ws : List ℕ) (rs : List (List ℕ)) → length (loads_from ws rs) ≡ length ws + length rs
loads_length ws [] = omega arith
loads_length ws (r ∷ rs) = let a = loads_length (ws ++ ((row_bytes r + sum_at ws (refs NODE r)) ∷ [])) rs in let b = length-append ws ((row_bytes r + sum_at ws (refs NODE r)) ∷ []) in omega (arith, a, b)

load_snoc : (ns : List (Node ℕ)) (ws : List ℕ) (a : Node ℕ) (w : ℕ) → length ns ≡ length ws → ((n : ℕ) → tree_bytes (get_or ns n (err tbool)) ≤ get_or ws n 1) → tree_bytes a ≤ w
    → (n : ℕ) → tree_bytes (get_or (ns ++ (a ∷ [])) n (err tbool)) ≤ get_or (ws ++ (w ∷ [])) n 1
load_snoc [] [] a w e k h zero = h
load_snoc [] [] a w e k h (suc n) = omega arith
load_snoc [] (x ∷ ws) a w e k h n = absurd (omega (arith, e))
load_snoc (x ∷ ns) [] a w e k h n = absurd (omega (arith, e))
load_snoc (x ∷ ns) (y ∷ ws) a w e k h zero = k 0
load_snoc (x ∷ ns) (y ∷ ws) a w e k h (suc n) = load_snoc ns ws a w (omega (arith, e)) (λ i. k (suc i)) h n

module _ (m : Mode) (s : State) (h : History m s) (p q : ℕ) where
  row_load : (pre : List (List ℕ)) (r : List ℕ) → Was m s NODE pre r → (ns : List (Node ℕ)) (ws : List ℕ) → ((n : ℕ) → tree_bytes (get_or ns n (err tbool)) ≤ get_or ws n 1)
      → tree_bytes (tree_over (types s) (λ n. n) (linked (λ n. n) p q) ns r) ≤ row_bytes r + sum_at ws (refs NODE r)
  unfolding key_of
  row_load pre [] w ns ws k = let (lo, hi) = tags_between NODE 21 49 no_tag (omega arith) node_tags w.key in absurd (omega (arith, hi))
  row_load pre (t ∷ l) w ns ws k =
      let (lo, hi) = tags_between NODE 21 49 t (omega arith) node_tags w.key in
      let rd = row_read m (t ∷ l) w.line t w.row refl (omega (arith, lo)) (omega (arith, hi)) (λ z. absurd (omega (arith, z, lo))) in
      tree_most (types s) p q ws ns k t l rd.least lo

  trees_load : (pre rest : List (List ℕ)) (ns : List (Node ℕ)) (ws : List ℕ) → lines_of s NODE ≡ pre ++ rest → length ns ≡ length ws → ((n : ℕ) → tree_bytes (get_or ns n (err tbool)) ≤ get_or ws n 1)
      → (n : ℕ) → tree_bytes (get_or (trees_from (types s) (λ n. n) (linked (λ n. n) p q) ns rest) n (err tbool)) ≤ get_or (loads_from ws rest) n 1
  trees_load pre [] ns ws e d k = k
  trees_load pre (r ∷ rest) ns ws e d k =
      let a = tree_over (types s) (λ n. n) (linked (λ n. n) p q) ns r in
      let w = row_bytes r + sum_at ws (refs NODE r) in
      let x = length-append ns (a ∷ []) in
      let y = length-append ws (w ∷ []) in
      trees_load (pre ++ (r ∷ [])) rest (ns ++ (a ∷ [])) (ws ++ (w ∷ [])) (e ∙ sym (append_assoc pre (r ∷ []) rest)) (omega (arith, x, y, d))
      (load_snoc ns ws a w d k (row_load pre r (h NODE pre r rest e) ns ws k))

-- ---- the nodes that no node uses have all the bytes of the rows, and no more

-- of weights ws with flags us, those that no node uses
abbrev free : List ℕ → List ℕ → ℕ
free [] us = 0
free (w ∷ ws) [] = 0
free (w ∷ ws) (u ∷ us) = cond (eqb u 1) 0 w + free ws us

free_set : (ws us : List ℕ) (n : ℕ) → length ws ≡ length us → n < length us → eqb (get_or us n 0) 1 ≡ false → free ws us ≡ get_or ws n 1 + free ws (set us n 1)
free_set [] us n e lt f = absurd (omega (arith, e, lt))
free_set (w ∷ ws) [] n e lt f = absurd (omega arith)
free_set (w ∷ ws) (u ∷ us) zero e lt f = rw f (omega arith)
free_set (w ∷ ws) (u ∷ us) (suc n) e lt f = let z = free_set ws us n (omega (arith, e)) (le_of_suc-le-suc lt) f in go (cond (eqb u 1) 0 w) z
  where
    go : (x : ℕ) → free ws us ≡ get_or ws n 1 + free ws (set us n 1) → x + free ws us ≡ get_or ws n 1 + (x + free ws (set us n 1))
    go x z = omega (arith, z)

marked_length : (x : ℕ) (us l : List ℕ) → length (marked x us l) ≡ length us
marked_length x us [] = refl
marked_length x us (n ∷ l) = marked_length x (set us n x) l ∙ length-set us n x

free_marked : (ws us l : List ℕ) → length ws ≡ length us → AllBelow (length us) l → used_twice us l ≡ false → free ws us ≡ sum_at ws l + free ws (marked 1 us l)
free_marked ws us [] e h u = omega arith
free_marked ws us (n ∷ l) e h u =
    let (a, b) = neither (eqb (get_or us n 0) 1) (used_twice (set us n 1) l) u in
    let x = free_set ws us n e h.0 a in
    let z = length-set us n 1 in
    let y = free_marked ws (set us n 1) l (e ∙ sym z) (subst (λ k. AllBelow k l) (sym z) h.1) b in
    omega (arith, x, y)

free_snoc : (ws us : List ℕ) (w : ℕ) → length ws ≡ length us → free (ws ++ (w ∷ [])) (us ++ (0 ∷ [])) ≡ free ws us + w
free_snoc [] [] w e = omega arith
free_snoc [] (u ∷ us) w e = absurd (omega (arith, e))
free_snoc (x ∷ ws) [] w e = absurd (omega (arith, e))
free_snoc (x ∷ ws) (u ∷ us) w e = let z = free_snoc ws us w (omega (arith, e)) in go (cond (eqb u 1) 0 x) z
  where
    go : (y : ℕ) → free (ws ++ (w ∷ [])) (us ++ (0 ∷ [])) ≡ free ws us + w → y + free (ws ++ (w ∷ [])) (us ++ (0 ∷ [])) ≡ (y + free ws us) + w
    go y z = omega (arith, z)

-- a policy marks a node with 2: it is as free as before
free_two : (ws us : List ℕ) (n : ℕ) → eqb (get_or us n 0) 1 ≡ false → free ws (set us n 2) ≤ free ws us
free_two [] us n f = omega arith
free_two (w ∷ ws) [] n f = omega arith
free_two (w ∷ ws) (u ∷ us) zero f = rw f (omega arith)
free_two (w ∷ ws) (u ∷ us) (suc n) f = let z = free_two ws us n f in go (cond (eqb u 1) 0 w) z
  where
    go : (x : ℕ) → free ws (set us n 2) ≤ free ws us → x + free ws (set us n 2) ≤ x + free ws us
    go x z = omega (arith, z)

off_two : (us : List ℕ) (n i : ℕ) → eqb (get_or us i 0) 1 ≡ false → eqb (get_or (set us n 2) i 0) 1 ≡ false
off_two us n i f = set_cases us n i 2 0 (λ e. ap (λ z. eqb z 1) e ∙ f) (λ p e. ap (λ z. eqb z 1) e)

off_one : (us : List ℕ) (n i : ℕ) → eqb (get_or (set us n 1) i 0) 1 ≡ false → eqb (get_or us i 0) 1 ≡ false
off_one us n i f = set_cases us n i 1 0 (λ e. sym (ap (λ z. eqb z 1) e) ∙ f) (λ p e. no_true (sym f ∙ ap (λ z. eqb z 1) e))

free_kept : (ws us vs l : List ℕ) → ((i : ℕ) → eqb (get_or vs i 0) 1 ≡ false → eqb (get_or us i 0) 1 ≡ false) → used_twice vs l ≡ false → free ws (marked 2 us l) ≤ free ws us
free_kept ws us vs [] k u = omega arith
free_kept ws us vs (n ∷ l) k u =
    let (a, b) = neither (eqb (get_or vs n 0) 1) (used_twice (set vs n 1) l) u in
    let x = free_two ws us n (k n a) in
    let y = free_kept ws (set us n 2) (set vs n 1) l (λ i f. off_two us n i (k i (off_one vs n i f))) b in
    omega (arith, x, y)

free_at : (ws us : List ℕ) (n : ℕ) → length ws ≡ length us → n < length us → eqb (get_or us n 0) 1 ≡ false → get_or ws n 1 ≤ free ws us
free_at ws us n e lt f = let a = free_set ws us n e lt f in omega (arith, a)

-- ---- for every state that a reading without fault reaches

record Counted (nodes policies : List (List ℕ)) (used : List ℕ) : Type 0 where
  flags : length used ≡ length nodes
  total : free (loads nodes) used ≤ all_bytes nodes
  roots : Each (λ r. get_or (loads nodes) (at r 2) 1 ≤ all_bytes nodes) policies

record Held (s : State) : Type 0 where
  keys : length s.lines ≡ no_key
  counted : Counted (lines_of s NODE) (lines_of s POLICY) s.used

each_snoc : (P : List ℕ → Type 0) {rs : List (List ℕ)} {r : List ℕ} → Each P rs → P r → Each P (rs ++ (r ∷ []))
each_snoc P E.none h = E.more h E.none
each_snoc P (E.more p ps) h = E.more p (each_snoc P ps h)

one_node : (nodes : List (List ℕ)) (used r : List ℕ) → Counted nodes [] used → AllBelow (length nodes) (refs NODE r) → used_twice used (refs NODE r) ≡ false → Counted (nodes ++ (r ∷ [])) [] (marked 1 used (refs NODE r) ++ (0 ∷ []))
one_node nodes used r h b u =
    let ws = loads nodes in
    let us = marked 1 used (refs NODE r) in
    let w = row_bytes r + sum_at (loads nodes) (refs NODE r) in
    let f = h.flags in
    let t = h.total in
    let n : length ws ≡ length nodes = loads_length [] nodes ∙ omega arith in
    let c = marked_length 1 used (refs NODE r) in
    let d = length-append us (0 ∷ []) in
    let e = length-append nodes (r ∷ []) in
    let x = free_marked ws used (refs NODE r) (omega (arith, n, f)) (subst (λ k. AllBelow k (refs NODE r)) (sym f) b) u in
    let y = free_snoc ws us w (omega (arith, n, f, c)) in
    let z : free (loads (nodes ++ (r ∷ []))) (us ++ (0 ∷ [])) ≡ free (ws ++ (w ∷ [])) (us ++ (0 ∷ [])) = ap (λ k. free k (us ++ (0 ∷ []))) (loads_snoc [] nodes r) in
    let g = all_snoc nodes r in
    record { flags = omega (arith, c, d, e, f); total = omega (arith, x, y, z, g, t); roots = E.none }

no_node : (nodes policies : List (List ℕ)) (used r : List ℕ) → Counted nodes policies used → used_twice used (refs NODE r) ≡ false → Counted nodes policies (marked 2 used (refs NODE r))
no_node nodes policies used r h u =
    let f = h.flags in
    let t = h.total in
    let c = marked_length 2 used (refs NODE r) in
    let x = free_kept (loads nodes) used used (refs NODE r) (λ i f. f) u in
    record { flags = omega (arith, c, f); total = omega (arith, x, t); roots = h.roots }

root_free : (us : List ℕ) (n : ℕ) (r : List ℕ) → tag r ≡ policy_tag → length (form_of policy_tag).items ≤ length (items r) → AllBelow n (refs NODE r) → used_twice us (refs NODE r) ≡ false → (at r 2 < n) × (eqb (get_or us (at r 2) 0) 1 ≡ false)
unfolding refs slot_at form_of forms
root_free us n [] q h b u = absurd (omega arith)
root_free us n (t ∷ []) q h b u = absurd (omega arith)
root_free us n (t ∷ x ∷ []) q h b u = absurd (omega arith)
root_free us n (t ∷ x ∷ y ∷ []) q h b u = absurd (omega arith)
root_free us n (t ∷ x ∷ y ∷ z ∷ l) q h b u =
    let c = subst (λ t. AllBelow n (refs_from NODE t 0 (x ∷ y ∷ z ∷ l))) q b in
    let d = subst (λ t. used_twice us (refs_from NODE t 0 (x ∷ y ∷ z ∷ l)) ≡ false) q u in
    (c.0, (neither (eqb (get_or us z 0) 1) (used_twice (set us z 1) (refs_from NODE policy_tag 3 l)) d).0)

module _ (m : Mode) (s : State) (l : List ℕ) (h : Held s) (f : fault s (row_of m l) ≡ 0) where
  new : List ℕ
  new = row_of m l

  same_row_law : new ≡ row_of m l
  unfolding new
  same_row_law = refl

  now : Passed s (key_of new) new
  unfolding new
  now = passed s (row_of m l) f

  keys_more : length (more s new).lines ≡ no_key
  unfolding more
  keys_more = length-set s.lines (key_of new) (lines_of s (key_of new) ++ (new ∷ [])) ∙ h.keys

  below : AllBelow (count s NODE) (refs NODE new)
  unfolding refs
  below = refs_below s NODE (tag new) 0 (items new) (all_there_law s (key_of new) new now.refers)

  node_line_law : key_of new ≡ NODE → Counted (lines_of (more s new) NODE) (lines_of (more s new) POLICY) (more s new).used
  unfolding more
  node_line_law q =
      let k = h.keys in
      let a : lines_of (more s new) NODE ≡ lines_of s NODE ++ (new ∷ []) = subst (λ z. lines_of (more s new) z ≡ lines_of s z ++ (new ∷ [])) q (lines_own s new (omega (arith, q, k))) in
      let c : lines_of s POLICY ≡ [] = later_empty s (key_of new) POLICY now.order (omega (arith, q)) in
      let b : lines_of (more s new) POLICY ≡ [] = lines_other s new POLICY (λ z. absurd (omega (arith, z, q))) ∙ c in
      subst (λ z. Counted z (lines_of (more s new) POLICY) (more s new).used) (sym a) (subst (λ z. Counted (lines_of s NODE ++ (new ∷ [])) z (more s new).used) (sym b)
      (subst (λ z. Counted (lines_of s NODE ++ (new ∷ [])) [] (cond z (marked 1 s.used (refs NODE new) ++ (0 ∷ [])) (marked 2 s.used (refs NODE new)))) (sym (eq-eqb (key_of new) NODE q))
      (one_node (lines_of s NODE) s.used new (subst (λ z. Counted (lines_of s NODE) z s.used) c h.counted) below now.unused)))

  -- a policy's root is used by no node
  root_bytes : POLICY ≡ key_of new → get_or (loads (lines_of s NODE)) (at new 2) 1 ≤ all_bytes (lines_of s NODE)
  unfolding key_of
  root_bytes q =
      let (lo, hi) = tags_between POLICY policy_tag policy_tag (tag new) (omega arith) policy_tags (sym q) in
      let e : tag new ≡ policy_tag = omega (arith, lo, hi) in
      let rd = row_read m new l policy_tag same_row_law e (omega arith) (omega arith) (λ z. absurd (omega (arith, z))) in
      let (lt, off) = root_free s.used (count s NODE) new e rd.least below now.unused in
      let g = h.counted.flags in
      let t = h.counted.total in
      let n : length (loads (lines_of s NODE)) ≡ count s NODE = loads_length [] (lines_of s NODE) ∙ omega arith in
      let x = free_at (loads (lines_of s NODE)) s.used (at new 2) (omega (arith, n, g)) (omega (arith, lt, g)) off in
      omega (arith, x, t)

  other_line : eqb (key_of new) NODE ≡ false → (key_of new ≡ NODE → ⊥) → Counted (lines_of (more s new) NODE) (lines_of (more s new) POLICY) (more s new).used
  unfolding more
  other_line b n =
      let a : lines_of (more s new) NODE ≡ lines_of s NODE = lines_other s new NODE (λ z. n (sym z)) in
      let k = no_node (lines_of s NODE) (lines_of s POLICY) s.used new h.counted now.unused in
      subst (λ z. Counted z (lines_of (more s new) POLICY) (more s new).used) (sym a)
      (subst (λ z. Counted (lines_of s NODE) (lines_of (more s new) POLICY) (cond z (marked 1 s.used (refs NODE new) ++ (0 ∷ [])) (marked 2 s.used (refs NODE new)))) (sym b)
      (lines_more s new POLICY (λ e. subst (λ z. Counted (lines_of s NODE) z (marked 2 s.used (refs NODE new))) (sym e) k)
      (λ q e. record { flags = k.flags; total = k.total; roots = subst (Each (λ r. get_or (loads (lines_of s NODE)) (at r 2) 1 ≤ all_bytes (lines_of s NODE))) (sym e) (each_snoc (λ r. get_or (loads (lines_of s NODE)) (at r 2) 1 ≤ all_bytes (lines_of s NODE)) k.roots (root_bytes q)) })))

  held_more : Held (more s (row_of m l))
  unfolding new
  held_more = record { keys = keys_more; counted = go (eqb (key_of new) NODE) refl }
    where
      go : (b : Bool) → eqb (key_of new) NODE ≡ b → Counted (lines_of (more s new) NODE) (lines_of (more s new) POLICY) (more s new).used
      go true e = node_line_law (eqb_true (key_of new) NODE e)
      go false e = other_line e (λ z. no_true (sym e ∙ eq-eqb (key_of new) NODE z))

-- ---- an accepted sheet

-- a sheet's bytes without those of p policy lines
abbrev pub without : ℕ → ℕ
without p = room - policy_line * p

-- so many for each of 64 policies: fewer have less in sum
abbrev pub most_long : ℕ
most_long = 974848

abbrev long_enough : ℕ → Bool
long_enough p = leb (without p * p) most_long

all_enough : all_below long_enough 65 ≡ true
all_enough = refl

times_more : (k a b : ℕ) → a ≤ b → k * a ≤ k * b
times_more zero a b h = omega arith
times_more (suc k) a b h = let z = times_more k a b h in omega (arith, z, h)

at_last : (x y z : ℕ) → x ≤ y → y ≤ z → x ≤ z
at_last x y z h k = omega (arith, h, k)

few_enough : (n p : ℕ) → n ≤ p → p ≤ 64 → without p * n ≤ most_long
few_enough n p h k = at_last (without p * n) (without p * p) most_long (times_more (without p) n p h) (leb-true (without p * p) most_long (all_below_law long_enough 65 p all_enough (omega (arith, k))))

module _ (m : Mode) (sheet : List ℕ) (e : (read m sheet).number ≡ 0) (few : length sheet ≤ room) (h : History m (read m sheet).state) where
  abbrev s : State
  s = (read m sheet).state

  -- a policy's root has k bytes at most
  abbrev Root : ℕ → List ℕ → Type 0
  Root k r = get_or (loads (lines_of s NODE)) (at r 2) 1 ≤ k

  held : Held s
  held = (holds_read m Held (λ s l h f. held_more m s l h f) sheet (record { keys = refl; counted = record { flags = refl; total = omega arith; roots = E.none } }) e).0

  root_most : Each (Root (without (count s POLICY))) (lines_of s POLICY)
  root_most = go held.counted.roots
    where
      b : all_bytes (lines_of s NODE) + policy_line * count s POLICY ≤ length sheet
      b = read_cost m sheet e

      go : {rs : List (List ℕ)} → Each (Root (all_bytes (lines_of s NODE))) rs → Each (Root (without (count s POLICY))) rs
      go E.none = E.none
      go (E.more {r = r} a bs) = E.more {r = r} (omega (arith, a, b, few)) (go bs)

  each_at : (P : List ℕ → Type 0) (pre : List (List ℕ)) (r : List ℕ) (rest rs : List (List ℕ)) → Each P rs → rs ≡ pre ++ (r ∷ rest) → P r
  each_at P [] r rest rs k q = first (subst (Each P) q k)
    where
      first : {r : List ℕ} {rest : List (List ℕ)} → Each P (r ∷ rest) → P r
      first (E.more a bs) = a
  each_at P (x ∷ pre) r rest rs k q = each_at P pre r rest (pre ++ (r ∷ rest)) (later (subst (Each P) q k)) refl
    where
      later : {r : List ℕ} {rest : List (List ℕ)} → Each P (r ∷ rest) → Each P rest
      later (E.more a bs) = bs

  on_term_most : (k : ℕ) → Each (Root k) (lines_of s POLICY) → Each (Root k) (on_term s)
  on_term_most k a = on_term_law (Root k) s (λ pre r rest q. each_at (Root k) pre r rest (lines_of s POLICY) a q)

  policies_from : (k : ℕ) {rs : List (List ℕ)} → Each (Root k) rs → policy_bytes (numbered_policies (trees s) rs) ≤ k * length rs
  unfolding trees
  policies_from k E.none = omega arith
  policies_from k (E.more {r = r} a bs) =
      let b = trees_load m s h (at r 3) (at r 4) [] (lines_of s NODE) [] [] refl refl (λ n. omega arith) (at r 2) in
      let c = policies_from k bs in
      omega (arith, a, b, c)

  -- ALL POLICIES HAVE TOGETHER NO MORE SUCH BYTES: each no more than the sheet has besides its policy lines
  pub policies_bytes : policy_bytes (n_policies s) ≤ most_long
  unfolding n_policies
  policies_bytes =
      let k = without (count s POLICY) in
      at_last (policy_bytes (numbered_policies (trees s) (on_term s))) (k * length (on_term s)) most_long (policies_from k (on_term_most k root_most)) (few_enough (length (on_term s)) (count s POLICY) (on_term_few s) (most_lines m s h).policies)

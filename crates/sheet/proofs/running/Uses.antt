-- "Node uses summed over all policies may reach 1,024": a policy's tree has no more nodes than stand under its root.
use mathlib.Core.Path.{◌≡◌, refl, sym, ◌∙◌, ap, subst, ap₂}
use mathlib.Core.Bool.{Bool, true, false}
use mathlib.Core.List.{List, [], ◌∷◌, ◌++◌, append_assoc}
use Prim.Native.Nat.{ℕ, zero, suc, ◌<◌, ◌≤◌, ◌+◌, ◌-◌}
use native.Mathlib.Nat.{le_of_suc-le-suc}
use native.Mathlib.Omega.{arith}
use native.Mathlib.Decide.{dec_lt}
use borrow.Author.Tests.{ltb-true, leb-false, ltb-false}
use lib.ListN.{length, get_or, drop, length-append, get_or-eq_default}
use lib.Seq.{get_or-set_same, get_or-set_other}
use Rattle.cedar.specs.Types.{Ty, tbool}
use Rattle.cedar.specs.Residual.{Node, err}
use Rattle.sheet.specs.Forms.{Mode, Slot, line, forms, form_of, slot_at, is_line, keep, refs_from, refs, tag, items, at, key_of, NODE, POLICY, no_key, no_tag}
use Rattle.sheet.specs.State.{State, lines_of, count}
use Rattle.sheet.specs.Typing.{gathered, under_from, nodes_under}
use Rattle.sheet.specs.Sheet.{greatest, there_is, all_there, more, uses}
use Rattle.sheet.specs.Content.{children_over, args_over, tree_over, trees_from, trees, n_policies, numbered_policies, types, on_term, linked}
use Rattle.sheet.specs.Answer.{size, sizes, size_args}
use Rattle.sheet.proofs.reading.Lines.{and_both, Passed, Was, History}
use Rattle.sheet.proofs.reading.Parsed.{tags_between, policy_tag}
use Rattle.sheet.proofs.reading.NodeRows.{row_read}
use Rattle.sheet.proofs.running.MadeCount.{policy_sizes}
use Rattle.sheet.proofs.content.PoliciesRead.{all_there_law, node_tags, policy_tags, item_there}
use Rattle.sheet.proofs.content.TypeNumbers.{is_line_law}
use Rattle.sheet.proofs.reading.Slots.{set_slot, field_slot}
use Rattle.sheet.proofs.content.OnTerm as O
use Rattle.sheet.proofs.content.OnTerm.{total, on_term_total, Each, each_line}
use Rattle.sheet.proofs.reading.Limits.{last_of}

-- ---- weights, as lists of numbers

abbrev pub sum_at : List ℕ → List ℕ → ℕ
sum_at ws [] = 0
sum_at ws (n ∷ l) = get_or ws n 1 + sum_at ws l

-- every number of a list is below k
abbrev pub AllBelow : ℕ → List ℕ → Type 0
AllBelow k [] = Unit {0}
AllBelow k (n ∷ l) = (n < k) × AllBelow k l

-- ---- the weight of a node: itself and the weights of the nodes that it refers to

abbrev pub weights_from : List ℕ → List (List ℕ) → List ℕ
weights_from ws [] = ws
weights_from ws (r ∷ rs) = weights_from (ws ++ (suc (sum_at ws (refs NODE r)) ∷ [])) rs

abbrev pub weights : List (List ℕ) → List ℕ
weights rs = weights_from [] rs

-- the weights of the policies' nodes
abbrev pub root_weights : List ℕ → List (List ℕ) → ℕ
root_weights ws [] = 0
root_weights ws (r ∷ rs) = get_or ws (at r 2) 1 + root_weights ws rs

roots_total : (ws : List ℕ) (rs : List (List ℕ)) → total (λ r. get_or ws (at r 2) 1) (λ r l. refl) rs ≡ root_weights ws rs
roots_total ws [] = refl
roots_total ws (r ∷ rs) = ap (λ z. get_or ws (at r 2) 1 + z) (roots_total ws rs)

-- ---- references are there

pub refs_below : (s : State) (k t j : ℕ) (l : List ℕ) → all_there s t j l ≡ true → AllBelow (count s k) (refs_from k t j l)
refs_below s k t j [] e = tt
refs_below s k t j (x ∷ l) e = and_both (there_is s (slot_at t j) x) (all_there s t (suc j) l) e (λ p q. go (is_line k (slot_at t j)) refl p (refs_below s k t (suc j) l q))
  where
    go : (b : Bool) → is_line k (slot_at t j) ≡ b → there_is s (slot_at t j) x ≡ true → AllBelow (count s k) (refs_from k t (suc j) l) → AllBelow (count s k) (keep b x (refs_from k t (suc j) l))
    go true b p h = (ltb-true x (count s k) (sym (ap (λ z. there_is s z x) (is_line_law k (slot_at t j) b)) ∙ p), h)
    go false b p h = h

-- ---- a tree has at most its node's weight of nodes

pub keep_more : (ws : List ℕ) (b : Bool) (x : ℕ) (l : List ℕ) → sum_at ws l ≤ sum_at ws (keep b x l)
keep_more ws true x l = omega arith
keep_more ws false x l = omega arith

pub keep_this : (ws : List ℕ) (sl : Slot) (x : ℕ) (l : List ℕ) → sl ≡ line NODE → sum_at ws (keep (is_line NODE sl) x l) ≡ get_or ws x 1 + sum_at ws l
keep_this ws sl x l e = ap (λ z. sum_at ws (keep (is_line NODE z) x l)) e

module _ {L : Type 0} (ts : List Ty) (value : ℕ → L) (p q : ℕ) (ws : List ℕ) (ns : List (Node L)) (k : (n : ℕ) → size (get_or ns n (err tbool)) ≤ get_or ws n 1) where
  Small : ℕ → Type 0
  Small t = (l : List ℕ) → length (form_of t).items ≤ length l → size (tree_over ts value (linked value p q) ns (t ∷ l)) ≤ suc (sum_at ws (refs NODE (t ∷ l)))

  module _ (t : ℕ) where
    one_kid : (l : List ℕ) → 2 ≤ length l → slot_at t 1 ≡ line NODE → suc (size (get_or ns (get_or l 1 0) (err tbool))) ≤ suc (sum_at ws (refs NODE (t ∷ l)))
    unfolding refs
    one_kid [] h p = absurd (omega arith)
    one_kid (x ∷ []) h p = absurd (omega arith)
    one_kid (x ∷ y ∷ l) h p = let a = k y in
        let u = keep_more ws (is_line NODE (slot_at t 0)) x (refs_from NODE t 1 (y ∷ l)) in
        let v = keep_this ws (slot_at t 1) y (refs_from NODE t 2 l) p in
        omega (arith, a, u, v)

    two_kids : (l : List ℕ) → 3 ≤ length l → slot_at t 1 ≡ line NODE → slot_at t 2 ≡ line NODE → suc (size (get_or ns (get_or l 1 0) (err tbool)) + size (get_or ns (get_or l 2 0) (err tbool))) ≤ suc (sum_at ws (refs NODE (t ∷ l)))
    unfolding refs
    two_kids [] h p q = absurd (omega arith)
    two_kids (x ∷ []) h p q = absurd (omega arith)
    two_kids (x ∷ y ∷ []) h p q = absurd (omega arith)
    two_kids (x ∷ y ∷ z ∷ l) h p q = let a = k y in let b = k z in
        let u = keep_more ws (is_line NODE (slot_at t 0)) x (refs_from NODE t 1 (y ∷ z ∷ l)) in
        let v = keep_this ws (slot_at t 1) y (refs_from NODE t 2 (z ∷ l)) p in
        let w = keep_this ws (slot_at t 2) z (refs_from NODE t 3 l) q in
        omega (arith, a, b, u, v, w)

    three_kids : (l : List ℕ) → 4 ≤ length l → slot_at t 1 ≡ line NODE → slot_at t 2 ≡ line NODE → slot_at t 3 ≡ line NODE
        → suc (size (get_or ns (get_or l 1 0) (err tbool)) + size (get_or ns (get_or l 2 0) (err tbool)) + size (get_or ns (get_or l 3 0) (err tbool))) ≤ suc (sum_at ws (refs NODE (t ∷ l)))
    unfolding refs
    three_kids [] h p q r = absurd (omega arith)
    three_kids (x ∷ []) h p q r = absurd (omega arith)
    three_kids (x ∷ y ∷ []) h p q r = absurd (omega arith)
    three_kids (x ∷ y ∷ z ∷ []) h p q r = absurd (omega arith)
    three_kids (x ∷ y ∷ z ∷ o ∷ l) h p q r = let a = k y in let b = k z in let c = k o in
        let u = keep_more ws (is_line NODE (slot_at t 0)) x (refs_from NODE t 1 (y ∷ z ∷ o ∷ l)) in
        let v = keep_this ws (slot_at t 1) y (refs_from NODE t 2 (z ∷ o ∷ l)) p in
        let w = keep_this ws (slot_at t 2) z (refs_from NODE t 3 (o ∷ l)) q in
        let g = keep_this ws (slot_at t 3) o (refs_from NODE t 4 l) r in
        omega (arith, a, b, c, u, v, w, g)

  children : (j : ℕ) (l : List ℕ) → sizes (children_over ts value ns l) ≤ sum_at ws (refs_from NODE 47 (suc j) l)
  children j [] = omega arith
  children j (n ∷ l) = let a = k n in let b = children (suc j) l in let c = keep_this ws (slot_at 47 (suc j)) n (refs_from NODE 47 (suc (suc j)) l) (set_slot j) in omega (arith, a, b, c)

  arguments : (i : ℕ) (l : List ℕ) → size_args (args_over ts value ns l) ≤ sum_at ws (refs_from NODE 48 (suc (i + i)) l)
  arguments i [] = omega arith
  arguments i (t ∷ []) = omega arith
  arguments i (t ∷ n ∷ l) = let a = k n in let b = arguments (suc i) l in
      let c = keep_this ws (slot_at 48 (suc (suc (i + i)))) n (refs_from NODE 48 (suc (suc (suc (i + i)))) l) (field_slot i) in
      let d = keep_more ws (is_line NODE (slot_at 48 (suc (i + i)))) t (keep (is_line NODE (slot_at 48 (suc (suc (i + i))))) n (refs_from NODE 48 (suc (suc (suc (i + i)))) l)) in
      let e : refs_from NODE 48 (suc (suc i + suc i)) l ≡ refs_from NODE 48 (suc (suc (suc (i + i)))) l = ap (λ j. refs_from NODE 48 j l) (omega arith) in
      let f = ap (sum_at ws) e in
      omega (arith, a, b, c, d, f)

  set_kids : (l : List ℕ) → suc (sizes (children_over ts value ns (drop 1 l))) ≤ suc (sum_at ws (refs NODE (47 ∷ l)))
  unfolding refs
  set_kids [] = omega arith
  set_kids (x ∷ l) = let a = children 0 l in let b = keep_more ws (is_line NODE (slot_at 47 0)) x (refs_from NODE 47 1 l) in omega (arith, a, b)

  record_kids : (l : List ℕ) → suc (size_args (args_over ts value ns (drop 1 l))) ≤ suc (sum_at ws (refs NODE (48 ∷ l)))
  unfolding refs
  record_kids [] = omega arith
  record_kids (x ∷ l) = let a = arguments 0 l in let b = keep_more ws (is_line NODE (slot_at 48 0)) x (refs_from NODE 48 1 l) in omega (arith, a, b)

  rule_for : (d : ℕ) → d ≤ 28 → Small (21 + d)
  unfolding Small slot_at form_of forms
  rule_for zero b l h = omega arith
  rule_for (suc zero) b l h = omega arith
  rule_for (suc (suc zero)) b l h = omega arith
  rule_for (suc (suc (suc zero))) b l h = two_kids 24 l h refl refl
  rule_for (suc (suc (suc (suc zero)))) b l h = two_kids 25 l h refl refl
  rule_for (suc (suc (suc (suc (suc zero))))) b l h = two_kids 26 l h refl refl
  rule_for (suc (suc (suc (suc (suc (suc zero)))))) b l h = two_kids 27 l h refl refl
  rule_for (suc (suc (suc (suc (suc (suc (suc zero))))))) b l h = two_kids 28 l h refl refl
  rule_for (suc (suc (suc (suc (suc (suc (suc (suc zero)))))))) b l h = two_kids 29 l h refl refl
  rule_for (suc (suc (suc (suc (suc (suc (suc (suc (suc zero))))))))) b l h = two_kids 30 l h refl refl
  rule_for (suc (suc (suc (suc (suc (suc (suc (suc (suc (suc zero)))))))))) b l h = two_kids 31 l h refl refl
  rule_for (suc (suc (suc (suc (suc (suc (suc (suc (suc (suc (suc zero))))))))))) b l h = two_kids 32 l h refl refl
  rule_for (suc (suc (suc (suc (suc (suc (suc (suc (suc (suc (suc (suc zero)))))))))))) b l h = two_kids 33 l h refl refl
  rule_for (suc (suc (suc (suc (suc (suc (suc (suc (suc (suc (suc (suc (suc zero))))))))))))) b l h = two_kids 34 l h refl refl
  rule_for (suc (suc (suc (suc (suc (suc (suc (suc (suc (suc (suc (suc (suc (suc zero)))))))))))))) b l h = two_kids 35 l h refl refl
  rule_for (suc (suc (suc (suc (suc (suc (suc (suc (suc (suc (suc (suc (suc (suc (suc zero))))))))))))))) b l h = two_kids 36 l h refl refl
  rule_for (suc (suc (suc (suc (suc (suc (suc (suc (suc (suc (suc (suc (suc (suc (suc (suc zero)))))))))))))))) b l h = two_kids 37 l h refl refl
  rule_for (suc (suc (suc (suc (suc (suc (suc (suc (suc (suc (suc (suc (suc (suc (suc (suc (suc zero))))))))))))))))) b l h = three_kids 38 l h refl refl refl
  rule_for (suc (suc (suc (suc (suc (suc (suc (suc (suc (suc (suc (suc (suc (suc (suc (suc (suc (suc zero)))))))))))))))))) b l h = one_kid 39 l (omega arith) refl
  rule_for (suc (suc (suc (suc (suc (suc (suc (suc (suc (suc (suc (suc (suc (suc (suc (suc (suc (suc (suc zero))))))))))))))))))) b l h = one_kid 40 l h refl
  rule_for (suc (suc (suc (suc (suc (suc (suc (suc (suc (suc (suc (suc (suc (suc (suc (suc (suc (suc (suc (suc zero)))))))))))))))))))) b l h = one_kid 41 l (omega arith) refl
  rule_for (suc (suc (suc (suc (suc (suc (suc (suc (suc (suc (suc (suc (suc (suc (suc (suc (suc (suc (suc (suc (suc zero))))))))))))))))))))) b l h = one_kid 42 l (omega arith) refl
  rule_for (suc (suc (suc (suc (suc (suc (suc (suc (suc (suc (suc (suc (suc (suc (suc (suc (suc (suc (suc (suc (suc (suc zero)))))))))))))))))))))) b l h = one_kid 43 l (omega arith) refl
  rule_for (suc (suc (suc (suc (suc (suc (suc (suc (suc (suc (suc (suc (suc (suc (suc (suc (suc (suc (suc (suc (suc (suc (suc zero))))))))))))))))))))))) b l h = one_kid 44 l h refl
  rule_for (suc (suc (suc (suc (suc (suc (suc (suc (suc (suc (suc (suc (suc (suc (suc (suc (suc (suc (suc (suc (suc (suc (suc (suc zero)))))))))))))))))))))))) b l h = one_kid 45 l h refl
  rule_for (suc (suc (suc (suc (suc (suc (suc (suc (suc (suc (suc (suc (suc (suc (suc (suc (suc (suc (suc (suc (suc (suc (suc (suc (suc zero))))))))))))))))))))))))) b l h = one_kid 46 l h refl
  rule_for (suc (suc (suc (suc (suc (suc (suc (suc (suc (suc (suc (suc (suc (suc (suc (suc (suc (suc (suc (suc (suc (suc (suc (suc (suc (suc zero)))))))))))))))))))))))))) b l h = set_kids l
  rule_for (suc (suc (suc (suc (suc (suc (suc (suc (suc (suc (suc (suc (suc (suc (suc (suc (suc (suc (suc (suc (suc (suc (suc (suc (suc (suc (suc zero))))))))))))))))))))))))))) b l h = record_kids l
  rule_for (suc (suc (suc (suc (suc (suc (suc (suc (suc (suc (suc (suc (suc (suc (suc (suc (suc (suc (suc (suc (suc (suc (suc (suc (suc (suc (suc (suc zero)))))))))))))))))))))))))))) b l h = omega arith
  rule_for (suc (suc (suc (suc (suc (suc (suc (suc (suc (suc (suc (suc (suc (suc (suc (suc (suc (suc (suc (suc (suc (suc (suc (suc (suc (suc (suc (suc (suc d))))))))))))))))))))))))))))) b l h = absurd (omega arith)

fit_snoc : {L : Type 0} (ns : List (Node L)) (ws : List ℕ) (a : Node L) (w : ℕ) → length ns ≡ length ws → ((n : ℕ) → size (get_or ns n (err tbool)) ≤ get_or ws n 1) → size a ≤ w
    → (n : ℕ) → size (get_or (ns ++ (a ∷ [])) n (err tbool)) ≤ get_or (ws ++ (w ∷ [])) n 1
fit_snoc [] [] a w e k h zero = h
fit_snoc [] [] a w e k h (suc n) = omega arith
fit_snoc [] (x ∷ ws) a w e k h n = absurd (omega (arith, e))
fit_snoc (x ∷ ns) [] a w e k h n = absurd (omega (arith, e))
fit_snoc (x ∷ ns) (y ∷ ws) a w e k h zero = k 0
fit_snoc (x ∷ ns) (y ∷ ws) a w e k h (suc n) = fit_snoc ns ws a w (omega (arith, e)) (λ i. k (suc i)) h n

module _ (m : Mode) (s : State) (h : History m s) where
  module _ (p q : ℕ) where
    new_fit : (pre : List (List ℕ)) (r : List ℕ) → Was m s NODE pre r → (ns : List (Node ℕ)) (ws : List ℕ) → ((n : ℕ) → size (get_or ns n (err tbool)) ≤ get_or ws n 1)
        → size (tree_over (types s) (λ n. n) (linked (λ n. n) p q) ns r) ≤ suc (sum_at ws (refs NODE r))
    unfolding Small key_of
    new_fit pre [] w ns ws k = let (lo, hi) = tags_between NODE 21 49 no_tag (omega arith) node_tags w.key in absurd (omega (arith, hi))
    new_fit pre (t ∷ l) w ns ws k =
        let (lo, hi) = tags_between NODE 21 49 t (omega arith) node_tags w.key in
        let rd = row_read m (t ∷ l) w.line t w.row refl (omega (arith, lo)) (omega (arith, hi)) (λ z. absurd (omega (arith, z, lo))) in
        let rule : Small (types s) (λ n. n) p q ws ns k t = subst (Small (types s) (λ n. n) p q ws ns k) (omega (arith, lo)) (rule_for (types s) (λ n. n) p q ws ns k (t - 21) (omega (arith, lo, hi))) in
        rule l rd.least

    fit_from : (pre rest : List (List ℕ)) (ns : List (Node ℕ)) (ws : List ℕ) → lines_of s NODE ≡ pre ++ rest → length ns ≡ length ws → ((n : ℕ) → size (get_or ns n (err tbool)) ≤ get_or ws n 1)
        → (n : ℕ) → size (get_or (trees_from (types s) (λ n. n) (linked (λ n. n) p q) ns rest) n (err tbool)) ≤ get_or (weights_from ws rest) n 1
    fit_from pre [] ns ws e d k = k
    fit_from pre (r ∷ rest) ns ws e d k =
        let a = tree_over (types s) (λ n. n) (linked (λ n. n) p q) ns r in
        let x = length-append ns (a ∷ []) in
        let y = length-append ws (suc (sum_at ws (refs NODE r)) ∷ []) in
        fit_from (pre ++ (r ∷ [])) rest (ns ++ (a ∷ [])) (ws ++ (suc (sum_at ws (refs NODE r)) ∷ [])) (e ∙ sym (append_assoc pre (r ∷ []) rest)) (omega (arith, x, y, d))
        (fit_snoc ns ws a (suc (sum_at ws (refs NODE r))) d k (new_fit pre r (h NODE pre r rest e) ns ws k))

  weighs : (us : List (List (List ℕ))) (ws : List ℕ) → ((n : ℕ) → n < length us → get_or ws n 1 ≡ length (get_or us n [])) → (l : List ℕ) → AllBelow (length us) l → sum_at ws l ≡ length (gathered us l)
  weighs us ws k [] b = refl
  weighs us ws k (n ∷ l) b = let x = k n b.0 in let y = weighs us ws k l b.1 in let z = length-append (get_or us n []) (gathered us l) in omega (arith, x, y, z)

  weigh_snoc : (us : List (List (List ℕ))) (ws : List ℕ) (u : List (List ℕ)) (w : ℕ) → length ws ≡ length us → ((n : ℕ) → n < length us → get_or ws n 1 ≡ length (get_or us n [])) → w ≡ length u
      → (n : ℕ) → n < length (us ++ (u ∷ [])) → get_or (ws ++ (w ∷ [])) n 1 ≡ length (get_or (us ++ (u ∷ [])) n [])
  weigh_snoc [] [] u w e k x zero lt = x
  weigh_snoc [] [] u w e k x (suc n) lt = absurd (omega arith)
  weigh_snoc [] (y ∷ ws) u w e k x n lt = absurd (omega (arith, e))
  weigh_snoc (v ∷ us) [] u w e k x n lt = absurd (omega (arith, e))
  weigh_snoc (v ∷ us) (y ∷ ws) u w e k x zero lt = k 0 (omega arith)
  weigh_snoc (v ∷ us) (y ∷ ws) u w e k x (suc n) lt = weigh_snoc us ws u w (omega (arith, e)) (λ i l. k (suc i) (omega (arith, l))) x n (le_of_suc-le-suc lt)

  -- a node's weight is the number of the nodes under it
  weigh_from : (pre rest : List (List ℕ)) (us : List (List (List ℕ))) (ws : List ℕ) → lines_of s NODE ≡ pre ++ rest → length us ≡ length pre → length ws ≡ length us → ((n : ℕ) → n < length us → get_or ws n 1 ≡ length (get_or us n []))
      → (n : ℕ) → n < length (under_from us rest) → get_or (weights_from ws rest) n 1 ≡ length (get_or (under_from us rest) n [])
  unfolding refs
  weigh_from pre [] us ws e p q k = k
  weigh_from pre (r ∷ rest) us ws e p q k =
      let w = h NODE pre r rest e in
      let c : count w.was NODE ≡ length us = ap length w.mine ∙ sym p in
      let b : AllBelow (length us) (refs NODE r) = subst (λ z. AllBelow z (refs NODE r)) c (refs_below w.was NODE (tag r) 0 (items r) (all_there_law w.was NODE r w.pass.refers)) in
      let u = r ∷ gathered us (refs NODE r) in
      let v = suc (sum_at ws (refs NODE r)) in
      let x = length-append pre (r ∷ []) in
      let y = length-append us (u ∷ []) in
      let z = length-append ws (v ∷ []) in
      weigh_from (pre ++ (r ∷ [])) rest (us ++ (u ∷ [])) (ws ++ (v ∷ [])) (e ∙ sym (append_assoc pre (r ∷ []) rest)) (omega (arith, x, y, p)) (omega (arith, y, z, q))
      (weigh_snoc us ws u v q k (ap suc (weighs us ws k (refs NODE r) b)))

  under_length : (us : List (List (List ℕ))) (rs : List (List ℕ)) → length (under_from us rs) ≡ length us + length rs
  under_length us [] = omega arith
  under_length us (r ∷ rs) = let a = under_length (us ++ ((r ∷ gathered us (refs NODE r)) ∷ [])) rs in let b = length-append us ((r ∷ gathered us (refs NODE r)) ∷ []) in omega (arith, a, b)

  weight_is : (n : ℕ) → n < count s NODE → get_or (weights (lines_of s NODE)) n 1 ≡ length (nodes_under s n)
  unfolding nodes_under
  weight_is n lt = let a = under_length [] (lines_of s NODE) in weigh_from [] (lines_of s NODE) [] [] refl refl refl (λ i l. absurd (omega (arith, l))) n (omega (arith, a, lt))

  roots_fit : (rs : List (List ℕ)) → policy_sizes (numbered_policies (trees s) rs) ≤ root_weights (weights (lines_of s NODE)) rs
  unfolding trees
  roots_fit [] = omega arith
  roots_fit (r ∷ rs) = let a = fit_from (at r 3) (at r 4) [] (lines_of s NODE) [] [] refl refl (λ n. omega arith) (at r 2) in let b = roots_fit rs in omega (arith, a, b)

  root_there : (pre : List (List ℕ)) (r : List ℕ) (rest : List (List ℕ)) → lines_of s POLICY ≡ pre ++ (r ∷ rest) → at r 2 < count s NODE
  unfolding key_of slot_at form_of forms
  root_there pre r rest e =
      let w = h POLICY pre r rest e in
      let (lo, hi) = tags_between POLICY policy_tag policy_tag (tag r) (omega arith) policy_tags w.key in
      let rd = row_read m r w.line policy_tag w.row (omega (arith, lo, hi)) (omega arith) (omega arith) (λ z. absurd (omega (arith, z))) in
      subst (λ z. at r 2 < length z) (w.earlier NODE (omega arith)) (ltb-true (at r 2) (count w.was NODE) (item_there m s w.was POLICY r policy_tag rd w.pass.refers 2 (ltb-true 2 3 refl)))

  uses_are : {rs : List (List ℕ)} → Each (λ r. at r 2 < count s NODE) rs → root_weights (weights (lines_of s NODE)) rs ≡ uses s rs
  uses_are O.none = refl
  uses_are (O.more {r = r} b bs) = ap₂ (λ x y. x + y) (weight_is (at r 2) b) (uses_are bs)

  -- the trees of the policies on term have no more nodes than all policies use
  pub policies_fit : policy_sizes (n_policies s) ≤ uses s (lines_of s POLICY)
  unfolding n_policies
  policies_fit = let ws = weights (lines_of s NODE) in
      let a = roots_fit (on_term s) in
      let b = on_term_total (λ r. get_or ws (at r 2) 1) (λ r l. refl) s in
      let c = roots_total ws (on_term s) in
      let d = roots_total ws (lines_of s POLICY) in
      let e = uses_are (each_line (λ r. at r 2 < count s NODE) (lines_of s POLICY) root_there) in
      omega (arith, a, b, c, d, e)

  uses_same : (u : State) → lines_of u NODE ≡ lines_of s NODE → (rs : List (List ℕ)) → uses u rs ≡ uses s rs
  unfolding nodes_under
  uses_same u e [] = refl
  uses_same u e (r ∷ rs) = ap₂ (λ x y. x + y) (ap (λ l. length (get_or (under_from [] l) (at r 2) [])) e) (uses_same u e rs)

  uses_snoc : (rs : List (List ℕ)) (r : List ℕ) → uses s (rs ++ (r ∷ [])) ≡ uses s (r ∷ rs)
  uses_snoc [] r = refl
  uses_snoc (x ∷ rs) r = let a = uses_snoc rs r in omega (arith, a)

  -- AT MOST 1,024 USES
  pub uses_most : uses s (lines_of s POLICY) ≤ 1024
  uses_most = last_of (lines_of s POLICY) (λ e. let z = ap (uses s) e in omega (arith, z))
      (λ pre r e. let w = h POLICY pre r [] e in
      let a = ltb-false 1024 (uses w.was (r ∷ lines_of w.was POLICY)) w.pass.within in
      let b = uses_same w.was (w.earlier NODE (omega arith)) (r ∷ lines_of w.was POLICY) in
      let c = ap (λ z. uses s (r ∷ z)) w.mine in
      let d = ap (uses s) e in
      let f = uses_snoc pre r in
      omega (arith, a, b, c, d, f))

-- ---- the lines of a state with one more

pub lines_other : (s : State) (r : List ℕ) (j : ℕ) → (j ≡ key_of r → ⊥) → lines_of (more s r) j ≡ lines_of s j
unfolding more
lines_other s r j n = get_or-set_other s.lines (key_of r) j (lines_of s (key_of r) ++ (r ∷ [])) [] n

pub lines_own : (s : State) (r : List ℕ) → key_of r < length s.lines → lines_of (more s r) (key_of r) ≡ lines_of s (key_of r) ++ (r ∷ [])
unfolding more
lines_own s r lt = get_or-set_same s.lines (key_of r) (lines_of s (key_of r) ++ (r ∷ [])) [] lt

-- a line's key is one of the sheet's
pub key_below : (s : State) (k : ℕ) (r : List ℕ) → Passed s k r → k < no_key
key_below s k r p = go (dec_lt k no_key)
  where
    go : Dec (k < no_key) → k < no_key
    go (yes d) = d
    go (no d) = let a = leb-false (get_or (greatest s) k 0) (count s k) p.room in let b = get_or-eq_default (greatest s) 0 {n = k} (omega arith) in absurd (omega (arith, a, b))

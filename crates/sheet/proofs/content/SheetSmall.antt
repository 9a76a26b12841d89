-- The texts and kinds of an accepted sheet's trees and of its request are there; the policies' ids have at most four digits.
use mathlib.Core.Path.{◌≡◌, refl, sym, ◌∙◌, ap, subst}
use mathlib.Core.Bool.{Bool, true, false, cond, ◌||◌}
use mathlib.Core.Option.{none, some, some-injective}
use mathlib.Core.List.{List, [], ◌∷◌, ◌++◌, append_assoc}
use Prim.Native.Nat.{ℕ, zero, suc, ◌≤◌, ◌<◌, ◌+◌, ◌-◌}
use native.Mathlib.Omega.{arith}
use borrow.Author.Tests.{ltb-true}
use lib.Dec.{ltb, eqb}
use lib.ListN.{length, get_or, drop}
use Rattle.cedar.proofs.Tools.{no_some, all_snoc}
use Rattle.cedar.specs.Types.{Ty, tbool, Var, principal, action, resource, context}
use Rattle.cedar.specs.Residual.{star, piece, Node, err}
use Rattle.cedar.specs.Rows.{rent}
use Rattle.cedar.specs.Numbered.{Give, made, old}
use Rattle.sheet.specs.Forms.{Mode, partial, line, forms, form_of, slot_at, mark, tag, items, at, key_of, TEXT, KIND, PRINCIPAL, ACTION, RESOURCE, CONTEXT, NODE, POLICY, no_key, no_tag}
use Rattle.sheet.specs.State.{State, lines_of, line_at, count}
use Rattle.sheet.specs.Sheet.{firsts, least, there_is, all_there}
use Rattle.sheet.specs.Content.{types, pattern_of, children_over, args_over, tree_for, tree_over, trees_from, trees, numbered_policies, n_policies, known, n_env, on_term, linked}
use Rattle.sheet.specs.Answer.{ids}
use Rattle.sheet.proofs.reading.Lines.{and_both, History}
use Rattle.sheet.proofs.reading.Parsed.{all_below, between, tags_between, policy_tag}
use Rattle.sheet.proofs.reading.NodeRows.{row_read, there_at}
use Rattle.sheet.proofs.reading.Slots.{like_slot, path_slot, name_slot}
use Rattle.sheet.proofs.content.PoliciesRead.{node_tags, policy_tags, request_tags, all_there_law, item_there}
use Rattle.sheet.proofs.content.Environment.{Facts, the_line}
use Rattle.sheet.proofs.reading.Limits.{most_lines}
use Rattle.sheet.proofs.answer.RowsBack.{AllSmall}
use Rattle.sheet.proofs.answer.TreesBack.{SmallPattern, SmallTexts, Small, SmallAll, SmallArgs}
use Rattle.sheet.proofs.running.LeftOver.{Any, GiveMade, PoliciesSmall}
use Rattle.sheet.proofs.content.OnTerm as O
use Rattle.sheet.proofs.content.OnTerm.{Each, on_term_law}

-- a number of a line of key k that the sheet has
abbrev pub Under : State → ℕ → ℕ → Type 0
Under s k n = n < count s k

-- ---- what may follow, where it is there and N holds of the numbers of texts and kinds that are

module _ (u : State) (N : ℕ → ℕ → Type 0) (texts : (x : ℕ) → x < count u TEXT → N TEXT x) where
  pattern_small : (j : ℕ) (l : List ℕ) → all_there u 40 (suc (suc j)) l ≡ true → SmallPattern N (pattern_of l)
  pattern_small j [] e = tt
  pattern_small j (x ∷ l) e = and_both (there_is u (slot_at 40 (suc (suc j))) x) (all_there u 40 (suc (suc (suc j))) l) e (λ a b.
      go (eqb x mark) (sym (ap (λ s. there_is u s x) (like_slot j)) ∙ a) (pattern_small (suc j) l b))
    where
      go : (c : Bool) → (c || ltb x (count u TEXT)) ≡ true → SmallPattern N (pattern_of l) → SmallPattern N (cond c star (piece x) ∷ pattern_of l)
      go true p h = h
      go false p h = (texts x (ltb-true x (count u TEXT) p), h)

  texts_small : (j : ℕ) (l : List ℕ) → all_there u 43 (suc (suc (suc j))) l ≡ true → SmallTexts N l
  texts_small j [] e = tt
  texts_small j (x ∷ l) e = and_both (there_is u (slot_at 43 (suc (suc (suc j)))) x) (all_there u 43 (suc (suc (suc (suc j)))) l) e (λ a b.
      (texts x (ltb-true x (count u TEXT) (sym (ap (λ s. there_is u s x) (path_slot j)) ∙ a)), texts_small (suc j) l b))

-- the items from place n on
there_drop : (u : State) (t n j : ℕ) (l : List ℕ) → all_there u t j l ≡ true → all_there u t (n + j) (drop n l) ≡ true
there_drop u t zero j l e = subst (λ z. all_there u t z l ≡ true) (omega arith) e
there_drop u t (suc n) j [] e = refl
there_drop u t (suc n) j (x ∷ l) e = and_both (there_is u (slot_at t j) x) (all_there u t (suc j) l) e (λ a b. subst (λ z. all_there u t z (drop n l) ≡ true) (omega arith) (there_drop u t n (suc j) l b))

at_item : (r : List ℕ) (j : ℕ) → get_or (items r) j 0 ≡ at r j
at_item [] j = refl
at_item (t ∷ l) j = refl

-- ---- trees

module _ (N : ℕ → ℕ → Type 0) where
  abbrev AllTrees : List (Node ℕ) → Type 0
  AllTrees ns = (n : ℕ) → Small N Any (get_or ns n (err tbool))

  module _ (w : State) (texts : (x : ℕ) → x < count w TEXT → N TEXT x) (kinds : (x : ℕ) → x < count w KIND → N KIND x) (ts : List Ty) (p q : ℕ) (ns : List (Node ℕ)) (k : AllTrees ns) where
    children_small : (l : List ℕ) → SmallAll N Any (children_over ts (λ n. n) ns l)
    children_small [] = tt
    children_small (n ∷ l) = (k n, children_small l)

    args_small : (i : ℕ) (l : List ℕ) → all_there w 48 (suc (i + i)) l ≡ true → SmallArgs N Any (args_over ts (λ n. n) ns l)
    args_small i [] e = tt
    args_small i (t ∷ []) e = tt
    args_small i (t ∷ n ∷ l) e = and_both (there_is w (slot_at 48 (suc (i + i))) t) (all_there w 48 (suc (suc (i + i))) (n ∷ l)) e (λ a b. and_both (there_is w (slot_at 48 (suc (suc (i + i)))) n) (all_there w 48 (suc (suc (suc (i + i)))) l) b (λ c d.
        (texts t (ltb-true t (count w TEXT) (sym (ap (λ s. there_is w s t) (name_slot i)) ∙ a)), k n, args_small (suc i) l (subst (λ z. all_there w 48 z l ≡ true) (omega arith) d))))

    module _ (r : List ℕ) (f : all_there w (tag r) 0 (items r) ≡ true) (least : length (form_of (tag r)).items ≤ length (items r)) where
      there_as : (t : ℕ) → tag r ≡ t → all_there w t 0 (items r) ≡ true
      there_as t e = subst (λ z. all_there w z 0 (items r) ≡ true) e f

      third_there : (t : ℕ) → tag r ≡ t → 3 ≤ length (form_of t).items → there_is w (slot_at t 2) (at r 2) ≡ true
      third_there t e h = let z = ap (λ y. length (form_of y).items) e in subst (λ x. there_is w (slot_at t 2) x ≡ true) (at_item r 2) (there_at w t 0 (items r) (there_as t e) 2 (omega (arith, least, h, z)))

      pattern_of_law : tag r ≡ 40 → SmallPattern N (pattern_of (drop 2 (items r)))
      pattern_of_law e = pattern_small w N texts 0 (drop 2 (items r)) (there_drop w 40 2 0 (items r) (there_as 40 e))

      path_of : tag r ≡ 43 → SmallTexts N (drop 3 (items r))
      path_of e = texts_small w N texts 0 (drop 3 (items r)) (there_drop w 43 3 0 (items r) (there_as 43 e))

      args_of : tag r ≡ 48 → SmallArgs N Any (args_over ts (λ n. n) ns (drop 1 (items r)))
      args_of e = args_small 0 (drop 1 (items r)) (there_drop w 48 1 0 (items r) (there_as 48 e))

      third_text : (t : ℕ) → tag r ≡ t → 3 ≤ length (form_of t).items → slot_at t 2 ≡ line TEXT → N TEXT (at r 2)
      third_text t e h s = texts (at r 2) (ltb-true (at r 2) (count w TEXT) (sym (ap (λ z. there_is w z (at r 2)) s) ∙ third_there t e h))

      third_kind : (t : ℕ) → tag r ≡ t → 3 ≤ length (form_of t).items → slot_at t 2 ≡ line KIND → N KIND (at r 2)
      third_kind t e h s = kinds (at r 2) (ltb-true (at r 2) (count w KIND) (sym (ap (λ z. there_is w z (at r 2)) s) ∙ third_there t e h))

      tree_small : 21 ≤ tag r → (d : ℕ) → tag r - 21 ≡ d → Small N Any (get_or (tree_for ts (λ n. n) (linked (λ n. n) p q) ns r (get_or ts (at r 0) tbool) (λ j. get_or ns (at r j) (err tbool))) d (err tbool))
      unfolding slot_at form_of forms
      tree_small lo zero u = tt
      tree_small lo (suc zero) u = tt
      tree_small lo (suc (suc zero)) u = tt
      tree_small lo (suc (suc (suc zero))) u = (k (at r 1), k (at r 2))
      tree_small lo (suc (suc (suc (suc zero)))) u = (k (at r 1), k (at r 2))
      tree_small lo (suc (suc (suc (suc (suc zero))))) u = (k (at r 1), k (at r 2))
      tree_small lo (suc (suc (suc (suc (suc (suc zero)))))) u = (k (at r 1), k (at r 2))
      tree_small lo (suc (suc (suc (suc (suc (suc (suc zero))))))) u = (k (at r 1), k (at r 2))
      tree_small lo (suc (suc (suc (suc (suc (suc (suc (suc zero)))))))) u = (k (at r 1), k (at r 2))
      tree_small lo (suc (suc (suc (suc (suc (suc (suc (suc (suc zero))))))))) u = (k (at r 1), k (at r 2))
      tree_small lo (suc (suc (suc (suc (suc (suc (suc (suc (suc (suc zero)))))))))) u = (k (at r 1), k (at r 2))
      tree_small lo (suc (suc (suc (suc (suc (suc (suc (suc (suc (suc (suc zero))))))))))) u = (k (at r 1), k (at r 2))
      tree_small lo (suc (suc (suc (suc (suc (suc (suc (suc (suc (suc (suc (suc zero)))))))))))) u = (k (at r 1), k (at r 2))
      tree_small lo (suc (suc (suc (suc (suc (suc (suc (suc (suc (suc (suc (suc (suc zero))))))))))))) u = (k (at r 1), k (at r 2))
      tree_small lo (suc (suc (suc (suc (suc (suc (suc (suc (suc (suc (suc (suc (suc (suc zero)))))))))))))) u = (k (at r 1), k (at r 2))
      tree_small lo (suc (suc (suc (suc (suc (suc (suc (suc (suc (suc (suc (suc (suc (suc (suc zero))))))))))))))) u = (k (at r 1), k (at r 2))
      tree_small lo (suc (suc (suc (suc (suc (suc (suc (suc (suc (suc (suc (suc (suc (suc (suc (suc zero)))))))))))))))) u = (k (at r 1), k (at r 2))
      tree_small lo (suc (suc (suc (suc (suc (suc (suc (suc (suc (suc (suc (suc (suc (suc (suc (suc (suc zero))))))))))))))))) u = (k (at r 1), k (at r 2), k (at r 3))
      tree_small lo (suc (suc (suc (suc (suc (suc (suc (suc (suc (suc (suc (suc (suc (suc (suc (suc (suc (suc zero)))))))))))))))))) u = (third_kind 39 (omega (arith, u, lo)) (omega arith) refl, k (at r 1))
      tree_small lo (suc (suc (suc (suc (suc (suc (suc (suc (suc (suc (suc (suc (suc (suc (suc (suc (suc (suc (suc zero))))))))))))))))))) u = (pattern_of_law (omega (arith, u, lo)), k (at r 1))
      tree_small lo (suc (suc (suc (suc (suc (suc (suc (suc (suc (suc (suc (suc (suc (suc (suc (suc (suc (suc (suc (suc zero)))))))))))))))))))) u = (third_text 41 (omega (arith, u, lo)) (omega arith) refl, k (at r 1))
      tree_small lo (suc (suc (suc (suc (suc (suc (suc (suc (suc (suc (suc (suc (suc (suc (suc (suc (suc (suc (suc (suc (suc zero))))))))))))))))))))) u = (third_text 42 (omega (arith, u, lo)) (omega arith) refl, k (at r 1))
      tree_small lo (suc (suc (suc (suc (suc (suc (suc (suc (suc (suc (suc (suc (suc (suc (suc (suc (suc (suc (suc (suc (suc (suc zero)))))))))))))))))))))) u = ((third_text 43 (omega (arith, u, lo)) (omega arith) refl, path_of (omega (arith, u, lo))), k (at r 1))
      tree_small lo (suc (suc (suc (suc (suc (suc (suc (suc (suc (suc (suc (suc (suc (suc (suc (suc (suc (suc (suc (suc (suc (suc (suc zero))))))))))))))))))))))) u = (tt, k (at r 1))
      tree_small lo (suc (suc (suc (suc (suc (suc (suc (suc (suc (suc (suc (suc (suc (suc (suc (suc (suc (suc (suc (suc (suc (suc (suc (suc zero)))))))))))))))))))))))) u = (tt, k (at r 1))
      tree_small lo (suc (suc (suc (suc (suc (suc (suc (suc (suc (suc (suc (suc (suc (suc (suc (suc (suc (suc (suc (suc (suc (suc (suc (suc (suc zero))))))))))))))))))))))))) u = (tt, k (at r 1))
      tree_small lo (suc (suc (suc (suc (suc (suc (suc (suc (suc (suc (suc (suc (suc (suc (suc (suc (suc (suc (suc (suc (suc (suc (suc (suc (suc (suc zero)))))))))))))))))))))))))) u = children_small (drop 1 (items r))
      tree_small lo (suc (suc (suc (suc (suc (suc (suc (suc (suc (suc (suc (suc (suc (suc (suc (suc (suc (suc (suc (suc (suc (suc (suc (suc (suc (suc (suc zero))))))))))))))))))))))))))) u = args_of (omega (arith, u, lo))
      tree_small lo (suc (suc (suc (suc (suc (suc (suc (suc (suc (suc (suc (suc (suc (suc (suc (suc (suc (suc (suc (suc (suc (suc (suc (suc (suc (suc (suc (suc zero)))))))))))))))))))))))))))) u = tt
      tree_small lo (suc (suc (suc (suc (suc (suc (suc (suc (suc (suc (suc (suc (suc (suc (suc (suc (suc (suc (suc (suc (suc (suc (suc (suc (suc (suc (suc (suc (suc d))))))))))))))))))))))))))))) u = tt

    pub node_small : (r : List ℕ) → all_there w (tag r) 0 (items r) ≡ true → length (form_of (tag r)).items ≤ length (items r) → 21 ≤ tag r → Small N Any (tree_over ts (λ n. n) (linked (λ n. n) p q) ns r)
    node_small r f least lo = tree_small r f least lo (tag r - 21) refl

module _ (m : Mode) (s : State) (h : History m s) where
  module _ (N : ℕ → ℕ → Type 0) (texts : (x : ℕ) → x < count s TEXT → N TEXT x) (kinds : (x : ℕ) → x < count s KIND → N KIND x) where
    trees_from_law : (p q : ℕ) (pre rest : List (List ℕ)) → lines_of s NODE ≡ pre ++ rest → (ns : List (Node ℕ)) → AllTrees N ns → AllTrees N (trees_from (types s) (λ n. n) (linked (λ n. n) p q) ns rest)
    unfolding key_of
    trees_from_law p q pre [] e ns k = k
    trees_from_law p q pre (r ∷ rest) e ns k =
        let w = h NODE pre r rest e in
        let (lo, hi) = tags_between NODE 21 49 (tag r) (omega arith) node_tags w.key in
        let rd = row_read m r w.line (tag r) w.row refl (omega (arith, lo)) (omega (arith, hi)) (λ z. absurd (omega (arith, z, lo))) in
        trees_from_law p q (pre ++ (r ∷ [])) rest (e ∙ sym (append_assoc pre (r ∷ []) rest)) (ns ++ (tree_over (types s) (λ n. n) (linked (λ n. n) p q) ns r ∷ []))
        (all_snoc (Small N Any) (err tbool) tt ns (tree_over (types s) (λ n. n) (linked (λ n. n) p q) ns r) k
        (node_small N w.was (λ x lt. texts x (subst (λ l. x < length l) (w.earlier TEXT (omega arith)) lt)) (λ x lt. kinds x (subst (λ l. x < length l) (w.earlier KIND (omega arith)) lt))
        (types s) p q ns k r (all_there_law w.was NODE r w.pass.refers) rd.least lo))

    policies_from : (S : List (List ℕ)) → ((p q : ℕ) → AllTrees N (trees s p q)) → PoliciesSmall N (numbered_policies (trees s) S)
    policies_from [] k = tt
    policies_from (r ∷ rs) k = (k (at r 3) (at r 4) (at r 2), policies_from rs k)

    policies_named : PoliciesSmall N (n_policies s)
    unfolding n_policies trees
    policies_named = policies_from (on_term s) (λ p q. trees_from_law p q [] (lines_of s NODE) refl [] (λ n. tt))

  -- THE SHEET'S OWN TREES: their texts and kinds are there
  pub policies_under : PoliciesSmall (Under s) (n_policies s)
  policies_under = policies_named (Under s) (λ x lt. lt) (λ x lt. lt)

  -- ---- the policies' ids
  id_small : (pre : List (List ℕ)) (r : List ℕ) (rest : List (List ℕ)) → lines_of s POLICY ≡ pre ++ (r ∷ rest) → at r 0 ≤ 9999
  unfolding key_of slot_at form_of forms
  id_small pre r rest e =
      let w = h POLICY pre r rest e in
      let (lo, hi) = tags_between POLICY policy_tag policy_tag (tag r) (omega arith) policy_tags w.key in
      let rd = row_read m r w.line policy_tag w.row (omega (arith, lo, hi)) (omega arith) (omega arith) (λ z. absurd (omega (arith, z))) in
      let a = ltb-true (at r 0) (count w.was TEXT) (item_there m s w.was POLICY r policy_tag rd w.pass.refers 0 (omega arith)) in
      let b = subst (λ l. at r 0 < length l) (w.earlier TEXT (omega arith)) a in
      let c = (most_lines m s h).texts in
      omega (arith, b, c)

  ids_each : {rs : List (List ℕ)} → Each (λ r. at r 0 ≤ 9999) rs → AllSmall (firsts rs)
  ids_each O.none = tt
  ids_each (O.more a as') = (a, ids_each as')

  pub ids_small : AllSmall (ids s)
  ids_small = ids_each (on_term_law (λ r. at r 0 ≤ 9999) s id_small)

-- ---- the request

module _ (s : State) (f : Facts partial s) where
  -- item j, the number of a line of key l, of the one row of a key k with one tag t
  item_under : (k t j l : ℕ) → k < no_key → 1 ≤ get_or (least s) k 0 → 12 ≤ t → t < no_tag → all_below (between k t t) no_tag ≡ true → j < length (form_of t).items → l < k
      → ((u : State) → there_is u (slot_at t j) (at (line_at s k 0) j) ≡ true → ltb (at (line_at s k 0) j) (count u l) ≡ true) → at (line_at s k 0) j < count s l
  unfolding key_of
  item_under k t j l lt one lo hi e le before there =
      let r = line_at s k 0 in
      let w = the_line partial s f k lt one in
      let (a, b) = tags_between k t t (tag r) lt e w.key in
      let rd = row_read partial r w.line t w.row (omega (arith, a, b)) (omega (arith, lo)) hi (λ z. absurd (omega (arith, z, lo))) in
      let c = ltb-true (at r j) (count w.was l) (there w.was (item_there partial s w.was k r t rd w.pass.refers j le)) in
      subst (λ z. at r j < length z) (w.earlier l before) c

  known_made : (n : ℕ) (a g : Give) → (eqb n mark ≡ false → GiveMade (Under s) a) → known n a ≡ some g → GiveMade (Under s) g
  known_made n a g h e = go (eqb n mark) refl e
    where
      go : (b : Bool) → eqb n mark ≡ b → cond b none (some a) ≡ some g → GiveMade (Under s) g
      go true q e = no_some e
      go false q e = subst (GiveMade (Under s)) (some-injective a g e) (h q)

  -- WHAT IS ASKED
  pub asked_under : (x : Var) (g : Give) → (n_env partial s).request x ≡ some g → GiveMade (Under s) g
  unfolding n_env slot_at form_of forms
  asked_under principal g e = let r = line_at s PRINCIPAL 0 in known_made (at r 1) (made (rent (at r 0) (at r 1))) g (λ n. (
    item_under 7 17 0 KIND (omega arith) (omega arith) (omega arith) (omega arith) request_tags.0 (omega arith) (omega arith) (λ u h. h),
    item_under 7 17 1 TEXT (omega arith) (omega arith) (omega arith) (omega arith) request_tags.0 (omega arith) (omega arith) (λ u h. subst (λ b. (b || ltb (at r 1) (count u TEXT)) ≡ true) n h),
  )) e
  asked_under action g e = let r = line_at s ACTION 0 in known_made (at r 1) (made (rent (at r 0) (at r 1))) g (λ n. (
    item_under 8 18 0 KIND (omega arith) (omega arith) (omega arith) (omega arith) request_tags.1 (omega arith) (omega arith) (λ u h. h),
    item_under 8 18 1 TEXT (omega arith) (omega arith) (omega arith) (omega arith) request_tags.1 (omega arith) (omega arith) (λ u h. h),
  )) e
  asked_under resource g e = let r = line_at s RESOURCE 0 in known_made (at r 1) (made (rent (at r 0) (at r 1))) g (λ n. (
    item_under 9 19 0 KIND (omega arith) (omega arith) (omega arith) (omega arith) request_tags.2 (omega arith) (omega arith) (λ u h. h),
    item_under 9 19 1 TEXT (omega arith) (omega arith) (omega arith) (omega arith) request_tags.2 (omega arith) (omega arith) (λ u h. subst (λ b. (b || ltb (at r 1) (count u TEXT)) ≡ true) n h),
  )) e
  asked_under context g e = known_made (at (line_at s CONTEXT 0) 1) (old (at (line_at s CONTEXT 0) 1)) g (λ n. tt) e

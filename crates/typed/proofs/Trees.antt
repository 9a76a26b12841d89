-- The trees of the node lines read so far: each has the type that its line says, and passes the typing test.
use mathlib.Core.Path.{◌≡◌, refl, sym, ◌∙◌, ap, subst}
use mathlib.Core.Bool.{Bool, true, false, ◌&&◌, ◌||◌}
use mathlib.Core.List.{List, [], ◌∷◌, ◌++◌, append_assoc, append-nil}
use Prim.Native.Nat.{ℕ, zero, suc, ◌<◌, ◌≤◌, ◌+◌, ◌-◌}
use native.Mathlib.Omega.{arith}
use native.Mathlib.Decide.{dec_lt}
use borrow.Author.Tests.{ltb-true, le-ltb}
use lib.Dec.{ltb}
use lib.ListN.{length, get_or, drop, length-append, get_or-append, get_or-eq_default}
use Rattle.cedar.proofs.Tools.{no_true, both, and_both}
use Rattle.cedar.proofs.TypingTestComplete.{check_complete}
use Rattle.cedar.specs.Types.{Ty, tbool}
use Rattle.cedar.specs.Residual.{Expr, err, ty_of}
use Rattle.cedar.specs.Typing.{Typed, terr}
use Rattle.cedar.specs.TypingTest.{check}
use Rattle.sheet.specs.Forms.{Mode, is_line, line, forms, form_of, slot_at, tag, items, at, key_of, row_of, TYPE, NODE, no_tag}
use Rattle.sheet.specs.State.{State, lines_of, count, line_at}
use Rattle.sheet.specs.Typing.{type_of_node, typed}
use Rattle.sheet.specs.Sheet.{found, there_is}
use Rattle.sheet.specs.Content.{types, content_of, schema, children_over, args_over, tree_for, tree_over, trees_from}
use Rattle.sheet.proofs.reading.Lines.{Was}
use Rattle.sheet.proofs.reading.Parsed.{all_below, all_below_law, tags_between, node_tags}
use Rattle.sheet.proofs.reading.NodeRows.{row_read}
use Rattle.sheet.proofs.content.NodeTyped.{node_typed}
use Rattle.sheet.proofs.content.PoliciesRead.{all_there_law, item_there}
use Rattle.sheet.proofs.content.TypeNumbers.{is_line_law, split_at}
use Rattle.sheet.proofs.reading.Depths.{Reached, reached_history}
use Rattle.typed.specs.ByContent.{type_in, drafts}
use Rattle.typed.proofs.Parts.{each_of_all, each_of_args, each_child}

-- ---- a node's first item is its type, which is there

type_first : ℕ → Bool
type_first t = ltb t 21 || ltb 49 t || (is_line 3 (slot_at t 0) && ltb 0 (length (form_of t).items))

types_first : all_below type_first no_tag ≡ true
unfolding type_first slot_at form_of forms
types_first = refl

first_is : (t : ℕ) → 21 ≤ t → t ≤ 49 → (slot_at t 0 ≡ line 3) × (0 < length (form_of t).items)
unfolding type_first
first_is t lo hi = go (ltb t 21) (ltb 49 t) (le-ltb t 21 lo) (le-ltb 49 t hi) (all_below_law type_first no_tag t types_first (omega arith))
  where
    go : (a b : Bool) → a ≡ false → b ≡ false → (a || b || (is_line 3 (slot_at t 0) && ltb 0 (length (form_of t).items))) ≡ true → (slot_at t 0 ≡ line 3) × (0 < length (form_of t).items)
    go true b p q e = no_true (sym p)
    go false true p q e = no_true (sym q)
    go false false p q e = and_both (is_line 3 (slot_at t 0)) (ltb 0 (length (form_of t).items)) e (λ x y. (is_line_law 3 (slot_at t 0) x, ltb-true 0 (length (form_of t).items) y))

pub type_there : (m : Mode) (u : State) (r l : List ℕ) → r ≡ row_of m l → key_of r ≡ NODE → found u NODE r ≡ true → at r 0 < count u TYPE
unfolding key_of
type_there m u r l e k f =
    let (lo, hi) = tags_between NODE 21 49 (tag r) (omega arith) node_tags k in
    let (sl, le) = first_is (tag r) lo hi in
    let rd = row_read m r l (tag r) e refl (omega (arith, lo)) (omega (arith, hi)) (λ z. absurd (omega (arith, z, lo))) in
    ltb-true (at r 0) (count u TYPE) (sym (ap (λ z. there_is u z (at r 0)) sl) ∙ item_there m u u NODE r (tag r) rd f 0 le)

module _ {m : Mode} {s : State} (h : Reached m s) where
  pub node_type_there : (n : ℕ) → n < count s NODE → type_of_node s n < count s TYPE
  node_type_there n lt = split_at (lines_of s NODE) n lt (λ pre rest e.
      let w = reached_history h NODE pre (line_at s NODE n) rest e in
      subst (λ l. at (line_at s NODE n) 0 < length l) (w.earlier TYPE (omega arith)) (type_there m w.was (line_at s NODE n) w.line w.row w.key w.pass.refers))

-- ---- what holds of each tree over the trees before holds of all

get_d_seam : {A : Type 0} (pre : List A) (r d : A) → get_or (pre ++ (r ∷ [])) (length pre) d ≡ r
get_d_seam [] r d = refl
get_d_seam (x ∷ pre) r d = get_d_seam pre r d

module _ (s : State) (sl : Ty → ℕ → Expr) (P : List ℕ → Expr → Type 0) where
  abbrev pub HoldAll : List (List ℕ) → List Expr → Type 0
  HoldAll pre es = (length es ≡ length pre) × ((n : ℕ) → n < length pre → P (get_or pre n []) (get_or es n (err tbool)))

  abbrev tree : List Expr → List ℕ → Expr
  tree es r = tree_over (types s) (content_of s) sl es r

  module _ (step : (pre : List (List ℕ)) (r : List ℕ) (rest : List (List ℕ)) (es : List Expr) → lines_of s NODE ≡ pre ++ (r ∷ rest) → HoldAll pre es → P r (tree es r)) where
    one_more : (pre : List (List ℕ)) (r : List ℕ) (rest : List (List ℕ)) (es : List Expr) → lines_of s NODE ≡ pre ++ (r ∷ rest) → HoldAll pre es → HoldAll (pre ++ (r ∷ [])) (es ++ (tree es r ∷ []))
    one_more pre r rest es e k = (length-append es (tree es r ∷ []) ∙ ap (λ n. n + 1) k.0 ∙ sym (length-append pre (r ∷ [])), λ n lt. go n lt (dec_lt n (length pre)))
      where
        go : (n : ℕ) → n < length (pre ++ (r ∷ [])) → Dec (n < length pre) → P (get_or (pre ++ (r ∷ [])) n []) (get_or (es ++ (tree es r ∷ [])) n (err tbool))
        go n lt (yes d) = let a = get_or-append es (tree es r ∷ []) (err tbool) n (omega (arith, d, k.0)) in let b = get_or-append pre (r ∷ []) [] n d in
            subst (P (get_or (pre ++ (r ∷ [])) n [])) (sym a) (subst (λ z. P z (get_or es n (err tbool))) (sym b) (k.1 n d))
        go n lt (no d) = let z = length-append pre (r ∷ []) in let q : n ≡ length pre = omega (arith, z, lt) in
            let a : get_or (es ++ (tree es r ∷ [])) n (err tbool) ≡ tree es r = ap (λ i. get_or (es ++ (tree es r ∷ [])) i (err tbool)) (q ∙ sym k.0) ∙ get_d_seam es (tree es r) (err tbool) in
            let b : get_or (pre ++ (r ∷ [])) n [] ≡ r = ap (λ i. get_or (pre ++ (r ∷ [])) i []) q ∙ get_d_seam pre r [] in
            subst (P (get_or (pre ++ (r ∷ [])) n [])) (sym a) (subst (λ z. P z (tree es r)) (sym b) (step pre r rest es e k))

    hold_from : (pre rest : List (List ℕ)) (es : List Expr) → lines_of s NODE ≡ pre ++ rest → HoldAll pre es → HoldAll (pre ++ rest) (trees_from (types s) (content_of s) sl es rest)
    hold_from pre [] es e k = subst (λ z. HoldAll z es) (sym (append-nil pre)) k
    hold_from pre (r ∷ rest) es e k =
        let q : pre ++ (r ∷ rest) ≡ (pre ++ (r ∷ [])) ++ rest = sym (append_assoc pre (r ∷ []) rest) in
        subst (λ z. HoldAll z (trees_from (types s) (content_of s) sl (es ++ (tree es r ∷ [])) rest)) (sym q)
        (hold_from (pre ++ (r ∷ [])) rest (es ++ (tree es r ∷ [])) (e ∙ q) (one_more pre r rest es e k))

    pub all_hold : HoldAll (lines_of s NODE) (trees_from (types s) (content_of s) sl [] (lines_of s NODE))
    all_hold = hold_from [] (lines_of s NODE) [] refl (refl, λ n lt. absurd (omega arith))

-- ---- types, whatever stands for a slot

module _ (s : State) (sl : Ty → ℕ → Expr) (own : (A : Ty) (x : ℕ) → ty_of (sl A x) ≡ A) where
  tree_ty : (es : List Expr) (r : List ℕ) (d : ℕ) → d ≤ 28 → ty_of (get_or (tree_for (types s) (content_of s) sl es r (type_in s (at r 0)) (λ j. get_or es (at r j) (err tbool))) d (err tbool)) ≡ type_in s (at r 0)
  tree_ty es r zero b = refl
  tree_ty es r (suc zero) b = refl
  tree_ty es r (suc (suc zero)) b = refl
  tree_ty es r (suc (suc (suc zero))) b = refl
  tree_ty es r (suc (suc (suc (suc zero)))) b = refl
  tree_ty es r (suc (suc (suc (suc (suc zero))))) b = refl
  tree_ty es r (suc (suc (suc (suc (suc (suc zero)))))) b = refl
  tree_ty es r (suc (suc (suc (suc (suc (suc (suc zero))))))) b = refl
  tree_ty es r (suc (suc (suc (suc (suc (suc (suc (suc zero)))))))) b = refl
  tree_ty es r (suc (suc (suc (suc (suc (suc (suc (suc (suc zero))))))))) b = refl
  tree_ty es r (suc (suc (suc (suc (suc (suc (suc (suc (suc (suc zero)))))))))) b = refl
  tree_ty es r (suc (suc (suc (suc (suc (suc (suc (suc (suc (suc (suc zero))))))))))) b = refl
  tree_ty es r (suc (suc (suc (suc (suc (suc (suc (suc (suc (suc (suc (suc zero)))))))))))) b = refl
  tree_ty es r (suc (suc (suc (suc (suc (suc (suc (suc (suc (suc (suc (suc (suc zero))))))))))))) b = refl
  tree_ty es r (suc (suc (suc (suc (suc (suc (suc (suc (suc (suc (suc (suc (suc (suc zero)))))))))))))) b = refl
  tree_ty es r (suc (suc (suc (suc (suc (suc (suc (suc (suc (suc (suc (suc (suc (suc (suc zero))))))))))))))) b = refl
  tree_ty es r (suc (suc (suc (suc (suc (suc (suc (suc (suc (suc (suc (suc (suc (suc (suc (suc zero)))))))))))))))) b = refl
  tree_ty es r (suc (suc (suc (suc (suc (suc (suc (suc (suc (suc (suc (suc (suc (suc (suc (suc (suc zero))))))))))))))))) b = refl
  tree_ty es r (suc (suc (suc (suc (suc (suc (suc (suc (suc (suc (suc (suc (suc (suc (suc (suc (suc (suc zero)))))))))))))))))) b = refl
  tree_ty es r (suc (suc (suc (suc (suc (suc (suc (suc (suc (suc (suc (suc (suc (suc (suc (suc (suc (suc (suc zero))))))))))))))))))) b = refl
  tree_ty es r (suc (suc (suc (suc (suc (suc (suc (suc (suc (suc (suc (suc (suc (suc (suc (suc (suc (suc (suc (suc zero)))))))))))))))))))) b = refl
  tree_ty es r (suc (suc (suc (suc (suc (suc (suc (suc (suc (suc (suc (suc (suc (suc (suc (suc (suc (suc (suc (suc (suc zero))))))))))))))))))))) b = refl
  tree_ty es r (suc (suc (suc (suc (suc (suc (suc (suc (suc (suc (suc (suc (suc (suc (suc (suc (suc (suc (suc (suc (suc (suc zero)))))))))))))))))))))) b = refl
  tree_ty es r (suc (suc (suc (suc (suc (suc (suc (suc (suc (suc (suc (suc (suc (suc (suc (suc (suc (suc (suc (suc (suc (suc (suc zero))))))))))))))))))))))) b = refl
  tree_ty es r (suc (suc (suc (suc (suc (suc (suc (suc (suc (suc (suc (suc (suc (suc (suc (suc (suc (suc (suc (suc (suc (suc (suc (suc zero)))))))))))))))))))))))) b = refl
  tree_ty es r (suc (suc (suc (suc (suc (suc (suc (suc (suc (suc (suc (suc (suc (suc (suc (suc (suc (suc (suc (suc (suc (suc (suc (suc (suc zero))))))))))))))))))))))))) b = refl
  tree_ty es r (suc (suc (suc (suc (suc (suc (suc (suc (suc (suc (suc (suc (suc (suc (suc (suc (suc (suc (suc (suc (suc (suc (suc (suc (suc (suc zero)))))))))))))))))))))))))) b = refl
  tree_ty es r (suc (suc (suc (suc (suc (suc (suc (suc (suc (suc (suc (suc (suc (suc (suc (suc (suc (suc (suc (suc (suc (suc (suc (suc (suc (suc (suc zero))))))))))))))))))))))))))) b = refl
  tree_ty es r (suc (suc (suc (suc (suc (suc (suc (suc (suc (suc (suc (suc (suc (suc (suc (suc (suc (suc (suc (suc (suc (suc (suc (suc (suc (suc (suc (suc zero)))))))))))))))))))))))))))) b = own (type_in s (at r 0)) (at r 1)
  tree_ty es r (suc (suc (suc (suc (suc (suc (suc (suc (suc (suc (suc (suc (suc (suc (suc (suc (suc (suc (suc (suc (suc (suc (suc (suc (suc (suc (suc (suc (suc d))))))))))))))))))))))))))))) b = absurd (omega arith)

module _ {m : Mode} {s : State} (h : Reached m s) where
  module _ (sl : Ty → ℕ → Expr) (own : (A : Ty) (x : ℕ) → ty_of (sl A x) ≡ A) where
    -- EACH NODE'S TREE HAS THE TYPE OF ITS LINE
    pub trees_ty : (n : ℕ) → n < count s NODE → ty_of (get_or (trees_from (types s) (content_of s) sl [] (lines_of s NODE)) n (err tbool)) ≡ type_in s (type_of_node s n)
    unfolding key_of
    trees_ty = (all_hold s sl (λ r e. ty_of e ≡ type_in s (at r 0)) (λ pre r rest es e k.
        let w = reached_history h NODE pre r rest e in
        let (lo, hi) = tags_between NODE 21 49 (tag r) (omega arith) node_tags w.key in
        tree_ty s sl own es r (tag r - 21) (omega (arith, lo, hi)))).1

  abbrev blank_slot : Ty → ℕ → Expr
  blank_slot A x = err A

  new_typed : (pre : List (List ℕ)) (r : List ℕ) (es : List Expr) → Was m s NODE pre r → HoldAll s blank_slot (λ r e. Typed (schema s) e (type_in s (at r 0))) pre es → Typed (schema s) (tree_over (types s) (content_of s) blank_slot es r) (type_in s (at r 0))
  unfolding typed key_of
  new_typed pre [] es w k = let (lo, hi) = tags_between NODE 21 49 no_tag (omega arith) node_tags w.key in absurd (omega (arith, hi))
  new_typed pre (t ∷ l) es w k =
      let (lo, hi) = tags_between NODE 21 49 t (omega arith) node_tags w.key in
      node_typed m s (reached_history h) w.was w.earlier blank_slot (λ A x. terr) es
      (λ n lt. subst (λ z. Typed (schema s) (get_or es n (err tbool)) (type_in s (at (get_or z n []) 0))) (sym w.mine) (k.1 n (subst (λ z. n < length z) w.mine lt)))
      t lo hi l (row_read m (t ∷ l) w.line t w.row refl (omega (arith, lo)) (omega (arith, hi)) (λ z. absurd (omega (arith, z, lo)))) (all_there_law w.was NODE (t ∷ l) w.pass.refers) w.pass.types

  drafts_all : HoldAll s blank_slot (λ r e. Typed (schema s) e (type_in s (at r 0))) (lines_of s NODE) (drafts s)
  unfolding drafts
  drafts_all = all_hold s blank_slot (λ r e. Typed (schema s) e (type_in s (at r 0))) (λ pre r rest es e k. new_typed pre r es (reached_history h NODE pre r rest e) k)

  -- EACH DRAFT IS TYPED
  pub drafts_check : (n : ℕ) → check (schema s) (get_or (drafts s) n (err tbool)) ≡ true
  drafts_check n = go (dec_lt n (count s NODE))
    where
      go : Dec (n < count s NODE) → check (schema s) (get_or (drafts s) n (err tbool)) ≡ true
      go (yes d) = check_complete (schema s) (drafts_all.1 n d)
      go (no d) = ap (check (schema s)) (get_or-eq_default (drafts s) (err tbool) (omega (arith, drafts_all.0)))

  pub drafts_ty : (n : ℕ) → n < count s NODE → ty_of (get_or (drafts s) n (err tbool)) ≡ type_in s (type_of_node s n)
  unfolding drafts
  drafts_ty = trees_ty blank_slot (λ A x. refl)

-- ---- a row's tree, where every tree before passes a test

module _ (s : State) (c : Expr → Bool) (es : List Expr) (k : (n : ℕ) → c (get_or es n (err tbool)) ≡ true) where
  all_pass : (l : List ℕ) → each_of_all c (children_over (types s) (content_of s) es l) ≡ true
  all_pass [] = refl
  all_pass (n ∷ l) = both (k n) (all_pass l)

  args_pass : (l : List ℕ) → each_of_args c (args_over (types s) (content_of s) es l) ≡ true
  args_pass [] = refl
  args_pass (t ∷ []) = refl
  args_pass (t ∷ n ∷ l) = both (k n) (args_pass l)

  kids_pass : (sl : Ty → ℕ → Expr) → ((A : Ty) (x : ℕ) → each_child c (sl A x) ≡ true) → (r : List ℕ) (d : ℕ) → each_child c (get_or (tree_for (types s) (content_of s) sl es r (type_in s (at r 0)) (λ j. get_or es (at r j) (err tbool))) d (err tbool)) ≡ true
  kids_pass sl f r zero = refl
  kids_pass sl f r (suc zero) = refl
  kids_pass sl f r (suc (suc zero)) = refl
  kids_pass sl f r (suc (suc (suc zero))) = both (k (at r 1)) (k (at r 2))
  kids_pass sl f r (suc (suc (suc (suc zero)))) = both (k (at r 1)) (k (at r 2))
  kids_pass sl f r (suc (suc (suc (suc (suc zero))))) = both (k (at r 1)) (k (at r 2))
  kids_pass sl f r (suc (suc (suc (suc (suc (suc zero)))))) = both (k (at r 1)) (k (at r 2))
  kids_pass sl f r (suc (suc (suc (suc (suc (suc (suc zero))))))) = both (k (at r 1)) (k (at r 2))
  kids_pass sl f r (suc (suc (suc (suc (suc (suc (suc (suc zero)))))))) = both (k (at r 1)) (k (at r 2))
  kids_pass sl f r (suc (suc (suc (suc (suc (suc (suc (suc (suc zero))))))))) = both (k (at r 1)) (k (at r 2))
  kids_pass sl f r (suc (suc (suc (suc (suc (suc (suc (suc (suc (suc zero)))))))))) = both (k (at r 1)) (k (at r 2))
  kids_pass sl f r (suc (suc (suc (suc (suc (suc (suc (suc (suc (suc (suc zero))))))))))) = both (k (at r 1)) (k (at r 2))
  kids_pass sl f r (suc (suc (suc (suc (suc (suc (suc (suc (suc (suc (suc (suc zero)))))))))))) = both (k (at r 1)) (k (at r 2))
  kids_pass sl f r (suc (suc (suc (suc (suc (suc (suc (suc (suc (suc (suc (suc (suc zero))))))))))))) = both (k (at r 1)) (k (at r 2))
  kids_pass sl f r (suc (suc (suc (suc (suc (suc (suc (suc (suc (suc (suc (suc (suc (suc zero)))))))))))))) = both (k (at r 1)) (k (at r 2))
  kids_pass sl f r (suc (suc (suc (suc (suc (suc (suc (suc (suc (suc (suc (suc (suc (suc (suc zero))))))))))))))) = both (k (at r 1)) (k (at r 2))
  kids_pass sl f r (suc (suc (suc (suc (suc (suc (suc (suc (suc (suc (suc (suc (suc (suc (suc (suc zero)))))))))))))))) = both (k (at r 1)) (k (at r 2))
  kids_pass sl f r (suc (suc (suc (suc (suc (suc (suc (suc (suc (suc (suc (suc (suc (suc (suc (suc (suc zero))))))))))))))))) = both (k (at r 1)) (both (k (at r 2)) (k (at r 3)))
  kids_pass sl f r (suc (suc (suc (suc (suc (suc (suc (suc (suc (suc (suc (suc (suc (suc (suc (suc (suc (suc zero)))))))))))))))))) = k (at r 1)
  kids_pass sl f r (suc (suc (suc (suc (suc (suc (suc (suc (suc (suc (suc (suc (suc (suc (suc (suc (suc (suc (suc zero))))))))))))))))))) = k (at r 1)
  kids_pass sl f r (suc (suc (suc (suc (suc (suc (suc (suc (suc (suc (suc (suc (suc (suc (suc (suc (suc (suc (suc (suc zero)))))))))))))))))))) = k (at r 1)
  kids_pass sl f r (suc (suc (suc (suc (suc (suc (suc (suc (suc (suc (suc (suc (suc (suc (suc (suc (suc (suc (suc (suc (suc zero))))))))))))))))))))) = k (at r 1)
  kids_pass sl f r (suc (suc (suc (suc (suc (suc (suc (suc (suc (suc (suc (suc (suc (suc (suc (suc (suc (suc (suc (suc (suc (suc zero)))))))))))))))))))))) = k (at r 1)
  kids_pass sl f r (suc (suc (suc (suc (suc (suc (suc (suc (suc (suc (suc (suc (suc (suc (suc (suc (suc (suc (suc (suc (suc (suc (suc zero))))))))))))))))))))))) = k (at r 1)
  kids_pass sl f r (suc (suc (suc (suc (suc (suc (suc (suc (suc (suc (suc (suc (suc (suc (suc (suc (suc (suc (suc (suc (suc (suc (suc (suc zero)))))))))))))))))))))))) = k (at r 1)
  kids_pass sl f r (suc (suc (suc (suc (suc (suc (suc (suc (suc (suc (suc (suc (suc (suc (suc (suc (suc (suc (suc (suc (suc (suc (suc (suc (suc zero))))))))))))))))))))))))) = k (at r 1)
  kids_pass sl f r (suc (suc (suc (suc (suc (suc (suc (suc (suc (suc (suc (suc (suc (suc (suc (suc (suc (suc (suc (suc (suc (suc (suc (suc (suc (suc zero)))))))))))))))))))))))))) = all_pass (drop 1 (items r))
  kids_pass sl f r (suc (suc (suc (suc (suc (suc (suc (suc (suc (suc (suc (suc (suc (suc (suc (suc (suc (suc (suc (suc (suc (suc (suc (suc (suc (suc (suc zero))))))))))))))))))))))))))) = args_pass (drop 1 (items r))
  kids_pass sl f r (suc (suc (suc (suc (suc (suc (suc (suc (suc (suc (suc (suc (suc (suc (suc (suc (suc (suc (suc (suc (suc (suc (suc (suc (suc (suc (suc (suc zero)))))))))))))))))))))))))))) = f (type_in s (at r 0)) (at r 1)
  kids_pass sl f r (suc (suc (suc (suc (suc (suc (suc (suc (suc (suc (suc (suc (suc (suc (suc (suc (suc (suc (suc (suc (suc (suc (suc (suc (suc (suc (suc (suc (suc d))))))))))))))))))))))))))))) = refl

  pub children_pass : (sl : Ty → ℕ → Expr) → ((A : Ty) (x : ℕ) → each_child c (sl A x) ≡ true) → (r : List ℕ) → each_child c (tree_over (types s) (content_of s) sl es r) ≡ true
  children_pass sl f r = kids_pass sl f r (tag r - 21)

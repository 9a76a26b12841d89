-- The policies of an accepted sheet: typed by content, and read from their numbered trees.
use mathlib.Core.Path.{◌≡◌, refl, sym, ◌∙◌, ap, subst, ap₂}
use mathlib.Core.Bool.{true, false, ◌&&◌, Bool, cond}
use mathlib.Core.List.{List, [], ◌∷◌, ◌++◌, append_assoc, append-nil}
use Prim.Native.Nat.{ℕ, zero, suc, ◌<◌, ◌+◌, ◌-◌}
use native.Mathlib.Omega.{arith}
use native.Mathlib.Decide.{dec_lt}
use borrow.Author.Tests.{ltb-true, lt-ltb}
use lib.Dec.{ltb}
use lib.ListN.{length, get_or, drop, length-append, get_or-append, get_or-eq_default}
use Rattle.cedar.specs.Value.{Value, vbool}
use Rattle.cedar.specs.Types.{Ty, tbool}
use Rattle.cedar.specs.Residual.{Node, Expr, lit, err}
use Rattle.cedar.specs.Typing.{Typed, tlit, terr}
use Rattle.cedar.proofs.Tools.{no_true, eqb_true}
use Rattle.cedar.proofs.Theorems.{fits_test}
use Rattle.cedar.specs.TypingTest as Y
use Rattle.cedar.specs.Table.{At}
use Rattle.cedar.specs.Reads.{Reads, xlit, xerr, xvar, xand, xor, xite, xun, xbin, xrel, xget, xhas, xpath, xset, xrec, ReadsAll, xnil, xcons, ReadsArgs, xstop, xarg}
use Rattle.cedar.proofs.Settled.{Policies, no_policy, one_policy}
use Rattle.cedar.proofs.SettledByNumber.{ReadPolicies, done, also}
use Rattle.sheet.specs.Forms.{Mode, forms, form_of, slot_at, tag, items, at, key_of, ascendings, NODE, POLICY, no_tag, LINK, VALUE}
use Rattle.sheet.specs.State.{State, lines_of, count, type_row, type_at, value_row}
use Rattle.sheet.specs.Typing.{type_of_node, typed, on_entity, row_fits, fits_by, fits, fits_in, rules, nodes_under, is_slot, slot_value, slots_fit}
use Rattle.sheet.specs.Sheet.{found, all_there, there_is, ascend, fresh}
use Rattle.sheet.specs.Content.{types, contents, schema, children_over, args_over, tree_for, tree_over, trees_from, effect_of, numbered_policies, content_policies, exprs, policies, linked, link_of, on_term}
use Rattle.sheet.proofs.reading.Lines.{and_both, Was, History, Ended}
use Rattle.sheet.proofs.reading.Parsed.{tags_between, policy_tag}
pub use Rattle.sheet.proofs.reading.Parsed.{node_tags, policy_tags, request_tags}
use Rattle.sheet.proofs.reading.NodeRows.{Read, row_read, there_at}
use Rattle.sheet.proofs.reading.RowTests.{is_bool_law, on_entity_law}
use Rattle.sheet.proofs.content.NodeTyped.{node_typed, to_ty}
use Rattle.sheet.proofs.content.FitsSound.{fits_sound}
use Rattle.sheet.proofs.content.Linked.{under_each, same_under, Fitting, fit_each, link_fits}
use Rattle.sheet.proofs.content.OnTerm as O
use Rattle.sheet.proofs.content.OnTerm.{Each, on_term_law, each_line}

-- the references of a row that was found
pub all_there_law : (s : State) (k : ℕ) (r : List ℕ) → found s k r ≡ true → all_there s (tag r) 0 (items r) ≡ true
unfolding found
all_there_law s k r e = and_both (all_there s (tag r) 0 (items r) && ascend 0 (ascendings r)) (fresh s k r) e (λ p q. and_both (all_there s (tag r) 0 (items r)) (ascend 0 (ascendings r)) p (λ a b. a))

-- item j of a row of tag t, where the form has one: it is there
pub item_there : (m : Mode) (s u : State) (k : ℕ) (r : List ℕ) (t : ℕ) → Read m r t → found u k r ≡ true → (j : ℕ) → j < length (form_of t).items → there_is u (slot_at t j) (at r j) ≡ true
item_there m s u k [] t rd e j lt = let z = rd.least in absurd (omega (arith, z, lt))
item_there m s u k (x ∷ l) t rd e j lt = let z = rd.least in
    subst (λ y. there_is u (slot_at y j) (get_or l j 0) ≡ true) rd.tag_is (subst (λ y. there_is u (slot_at x y) (get_or l j 0) ≡ true) (omega arith) (there_at u x 0 l (all_there_law u k (x ∷ l) e) j (omega (arith, z, lt))))

module _ (m : Mode) (s : State) (h : History m s) where
  abbrev T : ℕ → Ty
  T y = get_or (types s) y tbool

  abbrev V' : ℕ → Value
  V' n = get_or (contents s) n (vbool false)

  -- a tree for a slot that has its slot's type
  module _ (sl : Ty → ℕ → Expr) (slots : (A : Ty) (x : ℕ) → Typed (schema s) (sl A x) A) where
    TypedAll : List (List ℕ) → List Expr → Type 0
    TypedAll pre es = (length es ≡ length pre) × ((n : ℕ) → n < length pre → Typed (schema s) (get_or es n (err tbool)) (T (at (get_or pre n []) 0)))

    new_typed : (pre : List (List ℕ)) (r : List ℕ) (es : List Expr) → Was m s NODE pre r → TypedAll pre es → Typed (schema s) (tree_over (types s) V' sl es r) (T (at r 0))
    unfolding TypedAll typed key_of
    new_typed pre [] es w k = let (lo, hi) = tags_between NODE 21 49 no_tag (omega arith) node_tags w.key in absurd (omega (arith, hi))
    new_typed pre (t ∷ l) es w k =
        let (lo, hi) = tags_between NODE 21 49 t (omega arith) node_tags w.key in
        node_typed m s h w.was w.earlier sl slots es
        (λ n lt. subst (λ z. Typed (schema s) (get_or es n (err tbool)) (T (at (get_or z n []) 0))) (sym w.mine) (k.1 n (subst (λ z. n < length z) w.mine lt)))
        t lo hi l (row_read m (t ∷ l) w.line t w.row refl (omega (arith, lo)) (omega (arith, hi)) (λ z. absurd (omega (arith, z, lo)))) (all_there_law w.was NODE (t ∷ l) w.pass.refers) w.pass.types

    get_d_seam : {A : Type 0} (pre : List A) (r d : A) → get_or (pre ++ (r ∷ [])) (length pre) d ≡ r
    get_d_seam [] r d = refl
    get_d_seam (x ∷ pre) r d = get_d_seam pre r d

    one_typed : (pre : List (List ℕ)) (r : List ℕ) (es : List Expr) → Was m s NODE pre r → TypedAll pre es → TypedAll (pre ++ (r ∷ [])) (es ++ (tree_over (types s) V' sl es r ∷ []))
    unfolding TypedAll
    one_typed pre r es w k = (length-append es (tree_over (types s) V' sl es r ∷ []) ∙ ap (λ n. n + 1) k.0 ∙ sym (length-append pre (r ∷ [])), λ n lt. go n lt (dec_lt n (length pre)))
      where
        go : (n : ℕ) → n < length (pre ++ (r ∷ [])) → Dec (n < length pre) → Typed (schema s) (get_or (es ++ (tree_over (types s) V' sl es r ∷ [])) n (err tbool)) (T (at (get_or (pre ++ (r ∷ [])) n []) 0))
        go n lt (yes d) = let a = get_or-append es (tree_over (types s) V' sl es r ∷ []) (err tbool) n (omega (arith, d, k.0)) in let b = get_or-append pre (r ∷ []) [] n d in
            subst (λ z. Typed (schema s) z (T (at (get_or (pre ++ (r ∷ [])) n []) 0))) (sym a) (subst (λ z. Typed (schema s) (get_or es n (err tbool)) (T (at z 0))) (sym b) (k.1 n d))
        go n lt (no d) = let z = length-append pre (r ∷ []) in let q : n ≡ length pre = omega (arith, z, lt) in
            let a : get_or (es ++ (tree_over (types s) V' sl es r ∷ [])) n (err tbool) ≡ tree_over (types s) V' sl es r = ap (λ i. get_or (es ++ (tree_over (types s) V' sl es r ∷ [])) i (err tbool)) (q ∙ sym k.0) ∙ get_d_seam es (tree_over (types s) V' sl es r) (err tbool) in
            let b : get_or (pre ++ (r ∷ [])) n [] ≡ r = ap (λ i. get_or (pre ++ (r ∷ [])) i []) q ∙ get_d_seam pre r [] in
            subst (λ z. Typed (schema s) z (T (at (get_or (pre ++ (r ∷ [])) n []) 0))) (sym a) (subst (λ z. Typed (schema s) (tree_over (types s) V' sl es r) (T (at z 0))) (sym b) (new_typed pre r es w k))

    typed_from : (pre rest : List (List ℕ)) (es : List Expr) → lines_of s NODE ≡ pre ++ rest → TypedAll pre es → TypedAll (pre ++ rest) (trees_from (types s) V' sl es rest)
    typed_from pre [] es e k = subst (λ z. TypedAll z es) (sym (append-nil pre)) k
    typed_from pre (r ∷ rest) es e k =
        let q : pre ++ (r ∷ rest) ≡ (pre ++ (r ∷ [])) ++ rest = sym (append_assoc pre (r ∷ []) rest) in
        subst (λ z. TypedAll z (trees_from (types s) V' sl (es ++ (tree_over (types s) V' sl es r ∷ [])) rest)) (sym q)
        (typed_from (pre ++ (r ∷ [])) rest (es ++ (tree_over (types s) V' sl es r ∷ [])) (e ∙ q) (one_typed pre r es (h NODE pre r rest e) k))

    nodes_typed : TypedAll (lines_of s NODE) (trees_from (types s) V' sl [] (lines_of s NODE))
    unfolding TypedAll
    nodes_typed = typed_from [] (lines_of s NODE) [] refl (refl, λ n lt. absurd (omega arith))

    node_with : (c : ℕ) → c < length (lines_of s NODE) → Typed (schema s) (get_or (trees_from (types s) V' sl [] (lines_of s NODE)) c (err tbool)) (T (at (get_or (lines_of s NODE) c []) 0))
    unfolding TypedAll
    node_with c lt = nodes_typed.1 c lt

  module _ (p q : ℕ) where
    -- a slot's value where it fits, else an error
    guarded : Ty → ℕ → Expr
    guarded A x = cond (Y.fits (V' (slot_value p q x)) A) (lit A (V' (slot_value p q x))) (err A)

    guarded_typed : (A : Ty) (x : ℕ) → Typed (schema s) (guarded A x) A
    unfolding guarded
    guarded_typed A x = go (Y.fits (V' (slot_value p q x)) A) refl
      where
        go : (b : Bool) → Y.fits (V' (slot_value p q x)) A ≡ b → Typed (schema s) (cond b (lit A (V' (slot_value p q x))) (err A)) A
        go true e = tlit ((fits_test (V' (slot_value p q x)) A).0 e)
        go false e = terr

    guarded_is : (r : List ℕ) → Fitting s p q r → is_slot r ≡ true → linked V' p q (T (at r 0)) (at r 1) ≡ guarded (T (at r 0)) (at r 1)
    unfolding guarded
    guarded_is r f e = ap (λ b. cond b (lit (T (at r 0)) (V' (slot_value p q (at r 1)))) (err (T (at r 0)))) (sym ((fits_test (V' (slot_value p q (at r 1))) (T (at r 0))).1 (fits_sound m s h (slot_value p q (at r 1)) (at r 0) (f e))))

    alike : {rs : List (List ℕ)} → Each (Fitting s p q) rs → Each (λ r. is_slot r ≡ true → linked V' p q (T (at r 0)) (at r 1) ≡ guarded (T (at r 0)) (at r 1)) rs
    alike O.none = O.none
    alike (O.more {r = r} f fs) = O.more (λ e. guarded_is r f e) (alike fs)

    -- THE TREE UNDER A NODE, LINKED, IS TYPED WHERE THE LINK FITS ITS SLOTS
    pub every_node : (c : ℕ) → c < length (lines_of s NODE) → slots_fit s p q (nodes_under s c) ≡ true → Typed (schema s) (get_or (exprs s p q) c (err tbool)) (T (at (get_or (lines_of s NODE) c []) 0))
    unfolding exprs
    every_node c lt f = subst (λ z. Typed (schema s) z (T (at (get_or (lines_of s NODE) c []) 0))) (sym (same_under m s h (types s) V' (linked V' p q) guarded c (alike (fit_each s p q (nodes_under s c) f)))) (node_with guarded guarded_typed c lt)

  module _ (f : Ended s) where
    -- a policy's node is a bool
    root_typed : (pre : List (List ℕ)) (r : List ℕ) (rest : List (List ℕ)) → lines_of s POLICY ≡ pre ++ (r ∷ rest)
        → Typed (schema s) (get_or (exprs s (get_or (link_of (lines_of s LINK) (length pre)) 0 0) (get_or (link_of (lines_of s LINK) (length pre)) 1 0)) (at r 2) (err tbool)) tbool
    unfolding typed key_of slot_at form_of forms
    root_typed pre r rest e =
        let w = h POLICY pre r rest e in
        let x = get_or (link_of (lines_of s LINK) (length pre)) 0 0 in
        let y = get_or (link_of (lines_of s LINK) (length pre)) 1 0 in
        let (lo, hi) = tags_between POLICY policy_tag policy_tag (tag r) (omega arith) policy_tags w.key in
        let q : tag r ≡ policy_tag = omega (arith, lo, hi) in
        let rd = row_read m r w.line policy_tag w.row q (omega arith) (omega arith) (λ z. absurd (omega (arith, z))) in
        let same : lines_of w.was NODE ≡ lines_of s NODE = w.earlier NODE (omega arith) in
        let lt = ltb-true (at r 2) (count w.was NODE) (item_there m s w.was POLICY r policy_tag rd w.pass.refers 2 (ltb-true 2 3 refl)) in
        to_ty m s h w.was (λ j l. w.earlier j (omega (arith, l))) (Typed (schema s) (get_or (exprs s x y) (at r 2) (err tbool))) (type_of_node w.was (at r 2)) (is_bool_law _ w.pass.types)
        (subst (λ z. Typed (schema s) (get_or (exprs s x y) (at r 2) (err tbool)) (T (at (get_or z (at r 2) []) 0))) (sym same) (every_node x y (at r 2) (subst (λ z. at r 2 < length z) same lt) (link_fits m s h f pre r rest e)))

    policies_each : {rs : List (List ℕ)} → Each (λ r. Typed (schema s) (get_or (exprs s (at r 3) (at r 4)) (at r 2) (err tbool)) tbool) rs → Policies (schema s) (content_policies (exprs s) rs)
    policies_each O.none = no_policy
    policies_each (O.more {r = r} t ts) = one_policy {p = record { effect = effect_of (at r 1); tree = get_or (exprs s (at r 3) (at r 4)) (at r 2) (err tbool) }} t (policies_each ts)

    -- TYPED POLICIES
    pub policies_typed : Policies (schema s) (policies s)
    unfolding policies
    policies_typed = policies_each (on_term_law (λ r. Typed (schema s) (get_or (exprs s (at r 3) (at r 4)) (at r 2) (err tbool)) tbool) s root_typed)

-- ---- numbered trees and trees by content over the same lines

-- slN, slV: what stands for a slot in the one and in the other
module _ (C : List Value) (ts : List Ty) (value : ℕ → Value) (slN : Ty → ℕ → Node ℕ) (slV : Ty → ℕ → Expr) (both : (A : Ty) (x : ℕ) → Reads C (slN A x) (slV A x)) where
  abbrev Alike : List (Node ℕ) → List Expr → Type 0
  Alike ns es = (length ns ≡ length es) × ((n : ℕ) → Reads C (get_or ns n (err tbool)) (get_or es n (err tbool)))

  module _ (ns : List (Node ℕ)) (es : List Expr) (k : (n : ℕ) → Reads C (get_or ns n (err tbool)) (get_or es n (err tbool))) where
    reads_children : (l : List ℕ) → ReadsAll C (children_over ts (λ n. n) ns l) (children_over ts value es l)
    reads_children [] = xnil
    reads_children (n ∷ l) = xcons (k n) (reads_children l)

    reads_args : (l : List ℕ) → ReadsArgs C (args_over ts (λ n. n) ns l) (args_over ts value es l)
    reads_args [] = xstop
    reads_args (t ∷ []) = xstop
    reads_args (t ∷ n ∷ l) = xarg (k n) (reads_args l)

    reads_tree : (r : List ℕ) → (tag r - 21 ≡ 0 → At C (at r 1) (value (at r 1))) → (d : ℕ) → tag r - 21 ≡ d
        → Reads C (get_or (tree_for ts (λ n. n) slN ns r (get_or ts (at r 0) tbool) (λ j. get_or ns (at r j) (err tbool))) d (err tbool)) (get_or (tree_for ts value slV es r (get_or ts (at r 0) tbool) (λ j. get_or es (at r j) (err tbool))) d (err tbool))
    reads_tree r f zero q = xlit (f q)
    reads_tree r f (suc zero) q = xerr
    reads_tree r f (suc (suc zero)) q = xvar
    reads_tree r f (suc (suc (suc zero))) q = xand (k (at r 1)) (k (at r 2))
    reads_tree r f (suc (suc (suc (suc zero)))) q = xor (k (at r 1)) (k (at r 2))
    reads_tree r f (suc (suc (suc (suc (suc zero))))) q = xbin (k (at r 1)) (k (at r 2))
    reads_tree r f (suc (suc (suc (suc (suc (suc zero)))))) q = xbin (k (at r 1)) (k (at r 2))
    reads_tree r f (suc (suc (suc (suc (suc (suc (suc zero))))))) q = xbin (k (at r 1)) (k (at r 2))
    reads_tree r f (suc (suc (suc (suc (suc (suc (suc (suc zero)))))))) q = xbin (k (at r 1)) (k (at r 2))
    reads_tree r f (suc (suc (suc (suc (suc (suc (suc (suc (suc zero))))))))) q = xbin (k (at r 1)) (k (at r 2))
    reads_tree r f (suc (suc (suc (suc (suc (suc (suc (suc (suc (suc zero)))))))))) q = xbin (k (at r 1)) (k (at r 2))
    reads_tree r f (suc (suc (suc (suc (suc (suc (suc (suc (suc (suc (suc zero))))))))))) q = xrel (k (at r 1)) (k (at r 2))
    reads_tree r f (suc (suc (suc (suc (suc (suc (suc (suc (suc (suc (suc (suc zero)))))))))))) q = xrel (k (at r 1)) (k (at r 2))
    reads_tree r f (suc (suc (suc (suc (suc (suc (suc (suc (suc (suc (suc (suc (suc zero))))))))))))) q = xrel (k (at r 1)) (k (at r 2))
    reads_tree r f (suc (suc (suc (suc (suc (suc (suc (suc (suc (suc (suc (suc (suc (suc zero)))))))))))))) q = xbin (k (at r 1)) (k (at r 2))
    reads_tree r f (suc (suc (suc (suc (suc (suc (suc (suc (suc (suc (suc (suc (suc (suc (suc zero))))))))))))))) q = xbin (k (at r 1)) (k (at r 2))
    reads_tree r f (suc (suc (suc (suc (suc (suc (suc (suc (suc (suc (suc (suc (suc (suc (suc (suc zero)))))))))))))))) q = xbin (k (at r 1)) (k (at r 2))
    reads_tree r f (suc (suc (suc (suc (suc (suc (suc (suc (suc (suc (suc (suc (suc (suc (suc (suc (suc zero))))))))))))))))) q = xite (k (at r 1)) (k (at r 2)) (k (at r 3))
    reads_tree r f (suc (suc (suc (suc (suc (suc (suc (suc (suc (suc (suc (suc (suc (suc (suc (suc (suc (suc zero)))))))))))))))))) q = xun (k (at r 1))
    reads_tree r f (suc (suc (suc (suc (suc (suc (suc (suc (suc (suc (suc (suc (suc (suc (suc (suc (suc (suc (suc zero))))))))))))))))))) q = xun (k (at r 1))
    reads_tree r f (suc (suc (suc (suc (suc (suc (suc (suc (suc (suc (suc (suc (suc (suc (suc (suc (suc (suc (suc (suc zero)))))))))))))))))))) q = xget (k (at r 1))
    reads_tree r f (suc (suc (suc (suc (suc (suc (suc (suc (suc (suc (suc (suc (suc (suc (suc (suc (suc (suc (suc (suc (suc zero))))))))))))))))))))) q = xhas (k (at r 1))
    reads_tree r f (suc (suc (suc (suc (suc (suc (suc (suc (suc (suc (suc (suc (suc (suc (suc (suc (suc (suc (suc (suc (suc (suc zero)))))))))))))))))))))) q = xpath (k (at r 1))
    reads_tree r f (suc (suc (suc (suc (suc (suc (suc (suc (suc (suc (suc (suc (suc (suc (suc (suc (suc (suc (suc (suc (suc (suc (suc zero))))))))))))))))))))))) q = xun (k (at r 1))
    reads_tree r f (suc (suc (suc (suc (suc (suc (suc (suc (suc (suc (suc (suc (suc (suc (suc (suc (suc (suc (suc (suc (suc (suc (suc (suc zero)))))))))))))))))))))))) q = xun (k (at r 1))
    reads_tree r f (suc (suc (suc (suc (suc (suc (suc (suc (suc (suc (suc (suc (suc (suc (suc (suc (suc (suc (suc (suc (suc (suc (suc (suc (suc zero))))))))))))))))))))))))) q = xun (k (at r 1))
    reads_tree r f (suc (suc (suc (suc (suc (suc (suc (suc (suc (suc (suc (suc (suc (suc (suc (suc (suc (suc (suc (suc (suc (suc (suc (suc (suc (suc zero)))))))))))))))))))))))))) q = xset (reads_children (drop 1 (items r)))
    reads_tree r f (suc (suc (suc (suc (suc (suc (suc (suc (suc (suc (suc (suc (suc (suc (suc (suc (suc (suc (suc (suc (suc (suc (suc (suc (suc (suc (suc zero))))))))))))))))))))))))))) q = xrec (reads_args (drop 1 (items r)))
    reads_tree r f (suc (suc (suc (suc (suc (suc (suc (suc (suc (suc (suc (suc (suc (suc (suc (suc (suc (suc (suc (suc (suc (suc (suc (suc (suc (suc (suc (suc zero)))))))))))))))))))))))))))) q = both (get_or ts (at r 0) tbool) (at r 1)
    reads_tree r f (suc (suc (suc (suc (suc (suc (suc (suc (suc (suc (suc (suc (suc (suc (suc (suc (suc (suc (suc (suc (suc (suc (suc (suc (suc (suc (suc (suc (suc d))))))))))))))))))))))))))))) q = xerr

  get_d_at_end : {A : Type 0} (l : List A) (a d : A) (n : ℕ) → n ≡ length l → get_or (l ++ (a ∷ [])) n d ≡ a
  get_d_at_end [] a d n e = ap (λ i. get_or (a ∷ []) i d) e
  get_d_at_end (x ∷ l) a d n e = ap (λ i. get_or (x ∷ (l ++ (a ∷ []))) i d) e ∙ get_d_at_end l a d (length l) refl

  past : {A : Type 0} (l : List A) (a d : A) (n : ℕ) → length l < n → get_or (l ++ (a ∷ [])) n d ≡ d
  past l a d n h = let z = length-append l (a ∷ []) in get_or-eq_default (l ++ (a ∷ [])) d (omega (arith, z, h))

  reads_more : (ns : List (Node ℕ)) (es : List Expr) (a : Node ℕ) (b : Expr) → Alike ns es → Reads C a b → Alike (ns ++ (a ∷ [])) (es ++ (b ∷ []))
  reads_more ns es a b k r = (length-append ns (a ∷ []) ∙ ap (λ n. n + 1) k.0 ∙ sym (length-append es (b ∷ [])), λ n. go n (dec_lt n (length ns)) (dec_lt (length ns) n))
    where
      go : (n : ℕ) → Dec (n < length ns) → Dec (length ns < n) → Reads C (get_or (ns ++ (a ∷ [])) n (err tbool)) (get_or (es ++ (b ∷ [])) n (err tbool))
      go n (yes d) o = rw (get_or-append ns (a ∷ []) (err tbool) n d, get_or-append es (b ∷ []) (err tbool) n (omega (arith, d, k.0))) (k.1 n)
      go n (no d) (yes e) = rw (past ns a (err tbool) n e, past es b (err tbool) n (omega (arith, e, k.0))) xerr
      go n (no d) (no e) = rw (get_d_at_end ns a (err tbool) n (omega arith), get_d_at_end es b (err tbool) n (omega (arith, k.0))) r

  reads_from : (rows : List (List ℕ)) → ((pre : List (List ℕ)) (r : List ℕ) (rest : List (List ℕ)) → rows ≡ pre ++ (r ∷ rest) → tag r - 21 ≡ 0 → At C (at r 1) (value (at r 1)))
      → (ns : List (Node ℕ)) (es : List Expr) → Alike ns es → Alike (trees_from ts (λ n. n) slN ns rows) (trees_from ts value slV es rows)
  reads_from [] f ns es k = k
  reads_from (r ∷ rows) f ns es k = reads_from rows (λ pre x rest e. f (r ∷ pre) x rest (ap (λ z. r ∷ z) e)) (ns ++ (tree_over ts (λ n. n) slN ns r ∷ [])) (es ++ (tree_over ts value slV es r ∷ []))
      (reads_more ns es (tree_over ts (λ n. n) slN ns r) (tree_over ts value slV es r) k (reads_tree ns es k.1 r (f [] r rows refl) (tag r - 21) refl))

  pub reads_nodes : (rows : List (List ℕ)) → ((pre : List (List ℕ)) (r : List ℕ) (rest : List (List ℕ)) → rows ≡ pre ++ (r ∷ rest) → tag r - 21 ≡ 0 → At C (at r 1) (value (at r 1)))
      → (n : ℕ) → Reads C (get_or (trees_from ts (λ n. n) slN [] rows) n (err tbool)) (get_or (trees_from ts value slV [] rows) n (err tbool))
  reads_nodes rows f = (reads_from rows f [] [] (refl, λ n. xerr)).1

-- ---- linked trees

-- a value that fits an entity type is there
pub fits_there : (s : State) (v y : ℕ) → on_entity false (type_at s y) (λ k. true) ≡ true → fits s v y ≡ true → v < count s VALUE
unfolding fits_in
fits_there s v y e f = go (dec_lt v (count s VALUE))
  where
    go : Dec (v < count s VALUE) → v < count s VALUE
    go (yes d) = d
    go (no d) = on_entity_law (type_at s y) (λ k. true) e (λ k ks p g. no_true (sym (ap₂ (λ r t. row_fits (fits_by (lines_of s 5) (lines_of s 3) 63) (value_row r) t) (get_or-eq_default (lines_of s 5) [] {n = v} (omega arith)) p) ∙ f))

module _ (m : Mode) (s : State) (h : History m s) where
  -- "Operations `slot,p` and `slot,r` have an entity type"
  slot_entity : (pre : List (List ℕ)) (r : List ℕ) (rest : List (List ℕ)) → lines_of s NODE ≡ pre ++ (r ∷ rest) → is_slot r ≡ true → on_entity false (type_at s (at r 0)) (λ k. true) ≡ true
  unfolding typed
  slot_entity pre r rest e q = let w = h NODE pre r rest e in
      subst (λ z. on_entity false (type_row (get_or z (at r 0) [])) (λ k. true) ≡ true) (w.earlier 3 (omega arith)) (subst (λ d. get_or (rules w.was r) d false ≡ true) (ap (λ t. t - 21) (eqb_true (tag r) 49 q)) w.pass.types)

  module _ (C : List Value) (ts : List Ty) (value : ℕ → Value) (there : (n : ℕ) → n < count s VALUE → At C n (value n))
      (lits : (pre : List (List ℕ)) (r : List ℕ) (rest : List (List ℕ)) → lines_of s NODE ≡ pre ++ (r ∷ rest) → tag r - 21 ≡ 0 → At C (at r 1) (value (at r 1))) where
    module _ (p q : ℕ) where
      -- a slot's value where it is there, else an error
      present : {L : Type 0} → (ℕ → L) → Ty → ℕ → Node L
      present f A x = cond (ltb (slot_value p q x) (count s VALUE)) (lit A (f (slot_value p q x))) (err A)

      present_reads : (A : Ty) (x : ℕ) → Reads C (present (λ n. n) A x) (present value A x)
      unfolding present
      present_reads A x = go (ltb (slot_value p q x) (count s VALUE)) refl
        where
          go : (b : Bool) → ltb (slot_value p q x) (count s VALUE) ≡ b → Reads C (cond b (lit A (slot_value p q x)) (err A)) (cond b (lit A (value (slot_value p q x))) (err A))
          go true e = xlit (there (slot_value p q x) (ltb-true (slot_value p q x) (count s VALUE) e))
          go false e = xerr

      there_is_law : {L : Type 0} (f : ℕ → L) (r : List ℕ) → Fitting s p q r → (is_slot r ≡ true → on_entity false (type_at s (at r 0)) (λ k. true) ≡ true)
          → is_slot r ≡ true → linked f p q (get_or ts (at r 0) tbool) (at r 1) ≡ present f (get_or ts (at r 0) tbool) (at r 1)
      unfolding present
      there_is_law f r g k e = ap (λ b. cond b (lit (get_or ts (at r 0) tbool) (f (slot_value p q (at r 1)))) (err (get_or ts (at r 0) tbool)))
          (sym (lt-ltb (slot_value p q (at r 1)) (count s VALUE) (fits_there s (slot_value p q (at r 1)) (at r 0) (k e) (g e))))

      all_there_is : {L : Type 0} (f : ℕ → L) {rs : List (List ℕ)} → Each (Fitting s p q) rs → Each (λ r. is_slot r ≡ true → on_entity false (type_at s (at r 0)) (λ k. true) ≡ true) rs
          → Each (λ r. is_slot r ≡ true → linked f p q (get_or ts (at r 0) tbool) (at r 1) ≡ present f (get_or ts (at r 0) tbool) (at r 1)) rs
      all_there_is f O.none O.none = O.none
      all_there_is f (O.more {r = r} g gs) (O.more k ks) = O.more (λ e. there_is_law f r g k e) (all_there_is f gs ks)

      -- A NUMBERED TREE, LINKED, READS AS THE TREE BY CONTENT WHERE THE LINK FITS ITS SLOTS
      pub node_reads : (c : ℕ) → slots_fit s p q (nodes_under s c) ≡ true
          → Reads C (get_or (trees_from ts (λ n. n) (linked (λ n. n) p q) [] (lines_of s NODE)) c (err tbool)) (get_or (trees_from ts value (linked value p q) [] (lines_of s NODE)) c (err tbool))
      node_reads c f =
          let a = fit_each s p q (nodes_under s c) f in
          let b = under_each (λ r. is_slot r ≡ true → on_entity false (type_at s (at r 0)) (λ k. true) ≡ true) s c (each_line (λ r. is_slot r ≡ true → on_entity false (type_at s (at r 0)) (λ k. true) ≡ true) (lines_of s NODE) slot_entity) in
          subst (λ z. Reads C z (get_or (trees_from ts value (linked value p q) [] (lines_of s NODE)) c (err tbool))) (sym (same_under m s h ts (λ n. n) (linked (λ n. n) p q) (present (λ n. n)) c (all_there_is (λ n. n) a b)))
          (subst (Reads C (get_or (trees_from ts (λ n. n) (present (λ n. n)) [] (lines_of s NODE)) c (err tbool))) (sym (same_under m s h ts value (linked value p q) (present value) c (all_there_is value a b)))
          (reads_nodes C ts value (present (λ n. n)) (present value) present_reads (lines_of s NODE) lits c))

    policies_read : {rs : List (List ℕ)} → Each (λ r. slots_fit s (at r 3) (at r 4) (nodes_under s (at r 2)) ≡ true) rs
        → ReadPolicies C (numbered_policies (λ p q. trees_from ts (λ n. n) (linked (λ n. n) p q) [] (lines_of s NODE)) rs) (content_policies (λ p q. trees_from ts value (linked value p q) [] (lines_of s NODE)) rs)
    policies_read O.none = done
    policies_read (O.more {r = r} f fs) = also (node_reads (at r 3) (at r 4) (at r 2) f) (policies_read fs)

    pub read_policies : Ended s → ReadPolicies C (numbered_policies (λ p q. trees_from ts (λ n. n) (linked (λ n. n) p q) [] (lines_of s NODE)) (on_term s)) (content_policies (λ p q. trees_from ts value (linked value p q) [] (lines_of s NODE)) (on_term s))
    read_policies f = policies_read (on_term_law (λ r. slots_fit s (at r 3) (at r 4) (nodes_under s (at r 2)) ≡ true) s (link_fits m s h f))

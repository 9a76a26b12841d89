-- The nodes of a sheet that was read: each is the tree that its row says over the trees of its children, which are nodes of less depth.
use mathlib.Core.Path.{◌≡◌, refl, sym, ◌∙◌, ap, ap₂, subst}
use mathlib.Core.Bool.{Bool, true, false, ◌&&◌, ◌||◌}
use mathlib.Core.Option.{some}
use mathlib.Core.List.{List, [], ◌∷◌, ◌++◌}
use Prim.Native.Nat.{ℕ, zero, suc, ◌<◌, ◌≤◌, ◌+◌, ◌-◌, ◌*◌, ◌%◌}
use native.Mathlib.Nat.{le_of_suc-le-suc}
use native.Mathlib.Omega.{arith}
use borrow.Author.Tests.{ltb-true, le-ltb}
use lib.Dec.{eqb, ltb}
use lib.ListN.{length, get_or, drop, length-append, get_or-append}
use Rattle.cedar.proofs.Tools.{and_both, no_true, eqb_true}
use Rattle.cedar.proofs.TableLaws.{InN, now', later', nowhere}
use Rattle.cedar.specs.Types.{Ty, tbool}
use Rattle.cedar.specs.Residual.{Node, err, and, or, ite, un, bin, rel, get, has, haspath, set, rec, econs, gcons, unot, uneg, uempty, uis, ulike, beq, blt, ble, badd, bsub, bmul, bcontains, ball, bany, rin, rgettag, rhastag}
use Rattle.forms.specs.Tags.{TEXT_LINE, SET_OF, RECORD_OF, SLOT}
use Rattle.sheet.specs.Forms.{Mode, line, forms, form_of, slot_at, is_line, refs_from, refs, counted, items_from, tag, items, at, key_of, row_of, TYPE, NODE, no_tag, first_node}
use Rattle.sheet.specs.State.{State, lines_of, count}
use Rattle.sheet.specs.Content.{types, children_over, args_over, tree_for, tree_over, trees_from, linked, trees, pattern_of}
use Rattle.sheet.specs.Sheet.{there_is}
use Rattle.sheet.proofs.reading.Lines.{Was, History}
use Rattle.sheet.proofs.reading.Parsed.{parsed, all_below, all_below_law, tags_between}
use Rattle.sheet.proofs.reading.NodeRows.{row_read, plain_slots}
use Rattle.sheet.proofs.content.ValueRows.{items_length}
use Rattle.sheet.proofs.content.PoliciesRead.{all_there_law, item_there, node_tags}
use Rattle.sheet.proofs.reading.Slots.{set_slot, field_slot}
use Rattle.sheet.proofs.content.TypeNumbers.{is_line_law, types_length}
use Rattle.sheet.proofs.running.Uses.{refs_below}
use Rattle.sheet.proofs.reading.Depths.{in_below}
use Rattle.sheet.proofs.reading.Shallow.{in_keep, this_kept}
use Rattle.tpe.specs.Run.{others}
use Rattle.tpe.proofs.EachStep.{kids_for}
use Rattle.tpe.proofs.Depth.{children_of}

in_cons : {X : Type 0} {j x : ℕ} {l : List ℕ} → InN j (x ∷ l) → (j ≡ x → X) → (InN j l → X) → X
in_cons now' f g = f refl
in_cons (later' i) f g = g i

-- ---- a tree depends on the trees of its row's children alone

-- sl: what stands for a slot
module _ (ts : List Ty) (sl : Ty → ℕ → Node ℕ) (ns ms : List (Node ℕ)) where
  abbrev Alike : List ℕ → Type 0
  Alike l = (j : ℕ) → InN j l → get_or ns j (err tbool) ≡ get_or ms j (err tbool)

  children_same : (l : List ℕ) → Alike l → children_over ts (λ n. n) ns l ≡ children_over ts (λ n. n) ms l
  children_same [] h = refl
  children_same (n ∷ l) h = ap₂ econs (h n now') (children_same l (λ j i. h j (later' i)))

  args_same : (l : List ℕ) → Alike (others l) → args_over ts (λ n. n) ns l ≡ args_over ts (λ n. n) ms l
  args_same [] h = refl
  args_same (t ∷ []) h = refl
  args_same (t ∷ n ∷ l) h = ap₂ (gcons t) (h n now') (args_same l (λ j i. h j (later' i)))

  module _ (r : List ℕ) where
    abbrev T : Ty
    T = get_or ts (at r 0) tbool

    tree_same : (x : ℕ) → Alike (get_or (kids_for r) x [])
        → get_or (tree_for ts (λ n. n) sl ns r T (λ j. get_or ns (at r j) (err tbool))) x (err tbool) ≡ get_or (tree_for ts (λ n. n) sl ms r T (λ j. get_or ms (at r j) (err tbool))) x (err tbool)
    tree_same zero h = refl
    tree_same (suc zero) h = refl
    tree_same (suc (suc zero)) h = refl
    tree_same (suc (suc (suc zero))) h = ap₂ (and T) (h (at r 1) now') (h (at r 2) (later' now'))
    tree_same (suc (suc (suc (suc zero)))) h = ap₂ (or T) (h (at r 1) now') (h (at r 2) (later' now'))
    tree_same (suc (suc (suc (suc (suc zero))))) h = ap₂ (bin T beq) (h (at r 1) now') (h (at r 2) (later' now'))
    tree_same (suc (suc (suc (suc (suc (suc zero)))))) h = ap₂ (bin T blt) (h (at r 1) now') (h (at r 2) (later' now'))
    tree_same (suc (suc (suc (suc (suc (suc (suc zero))))))) h = ap₂ (bin T ble) (h (at r 1) now') (h (at r 2) (later' now'))
    tree_same (suc (suc (suc (suc (suc (suc (suc (suc zero)))))))) h = ap₂ (bin T badd) (h (at r 1) now') (h (at r 2) (later' now'))
    tree_same (suc (suc (suc (suc (suc (suc (suc (suc (suc zero))))))))) h = ap₂ (bin T bsub) (h (at r 1) now') (h (at r 2) (later' now'))
    tree_same (suc (suc (suc (suc (suc (suc (suc (suc (suc (suc zero)))))))))) h = ap₂ (bin T bmul) (h (at r 1) now') (h (at r 2) (later' now'))
    tree_same (suc (suc (suc (suc (suc (suc (suc (suc (suc (suc (suc zero))))))))))) h = ap₂ (rel T rin) (h (at r 1) now') (h (at r 2) (later' now'))
    tree_same (suc (suc (suc (suc (suc (suc (suc (suc (suc (suc (suc (suc zero)))))))))))) h = ap₂ (rel T rgettag) (h (at r 1) now') (h (at r 2) (later' now'))
    tree_same (suc (suc (suc (suc (suc (suc (suc (suc (suc (suc (suc (suc (suc zero))))))))))))) h = ap₂ (rel T rhastag) (h (at r 1) now') (h (at r 2) (later' now'))
    tree_same (suc (suc (suc (suc (suc (suc (suc (suc (suc (suc (suc (suc (suc (suc zero)))))))))))))) h = ap₂ (bin T bcontains) (h (at r 1) now') (h (at r 2) (later' now'))
    tree_same (suc (suc (suc (suc (suc (suc (suc (suc (suc (suc (suc (suc (suc (suc (suc zero))))))))))))))) h = ap₂ (bin T ball) (h (at r 1) now') (h (at r 2) (later' now'))
    tree_same (suc (suc (suc (suc (suc (suc (suc (suc (suc (suc (suc (suc (suc (suc (suc (suc zero)))))))))))))))) h = ap₂ (bin T bany) (h (at r 1) now') (h (at r 2) (later' now'))
    tree_same (suc (suc (suc (suc (suc (suc (suc (suc (suc (suc (suc (suc (suc (suc (suc (suc (suc zero))))))))))))))))) h = λ v. ite T (h (at r 1) now' v) (h (at r 2) (later' now') v) (h (at r 3) (later' (later' now')) v)
    tree_same (suc (suc (suc (suc (suc (suc (suc (suc (suc (suc (suc (suc (suc (suc (suc (suc (suc (suc zero)))))))))))))))))) h = ap (un T (uis (at r 2))) (h (at r 1) now')
    tree_same (suc (suc (suc (suc (suc (suc (suc (suc (suc (suc (suc (suc (suc (suc (suc (suc (suc (suc (suc zero))))))))))))))))))) h = ap (un T (ulike (pattern_of (drop 2 (items r))))) (h (at r 1) now')
    tree_same (suc (suc (suc (suc (suc (suc (suc (suc (suc (suc (suc (suc (suc (suc (suc (suc (suc (suc (suc (suc zero)))))))))))))))))))) h = ap (λ (t : Node ℕ). get T t (at r 2)) (h (at r 1) now')
    tree_same (suc (suc (suc (suc (suc (suc (suc (suc (suc (suc (suc (suc (suc (suc (suc (suc (suc (suc (suc (suc (suc zero))))))))))))))))))))) h = ap (λ (t : Node ℕ). has T t (at r 2)) (h (at r 1) now')
    tree_same (suc (suc (suc (suc (suc (suc (suc (suc (suc (suc (suc (suc (suc (suc (suc (suc (suc (suc (suc (suc (suc (suc zero)))))))))))))))))))))) h = ap (λ (t : Node ℕ). haspath T t (at r 2) (drop 3 (items r))) (h (at r 1) now')
    tree_same (suc (suc (suc (suc (suc (suc (suc (suc (suc (suc (suc (suc (suc (suc (suc (suc (suc (suc (suc (suc (suc (suc (suc zero))))))))))))))))))))))) h = ap (un T unot) (h (at r 1) now')
    tree_same (suc (suc (suc (suc (suc (suc (suc (suc (suc (suc (suc (suc (suc (suc (suc (suc (suc (suc (suc (suc (suc (suc (suc (suc zero)))))))))))))))))))))))) h = ap (un T uneg) (h (at r 1) now')
    tree_same (suc (suc (suc (suc (suc (suc (suc (suc (suc (suc (suc (suc (suc (suc (suc (suc (suc (suc (suc (suc (suc (suc (suc (suc (suc zero))))))))))))))))))))))))) h = ap (un T uempty) (h (at r 1) now')
    tree_same (suc (suc (suc (suc (suc (suc (suc (suc (suc (suc (suc (suc (suc (suc (suc (suc (suc (suc (suc (suc (suc (suc (suc (suc (suc (suc zero)))))))))))))))))))))))))) h = ap (set T) (children_same (drop 1 (items r)) h)
    tree_same (suc (suc (suc (suc (suc (suc (suc (suc (suc (suc (suc (suc (suc (suc (suc (suc (suc (suc (suc (suc (suc (suc (suc (suc (suc (suc (suc zero))))))))))))))))))))))))))) h = ap (rec T) (args_same (drop 1 (items r)) h)
    tree_same (suc (suc (suc (suc (suc (suc (suc (suc (suc (suc (suc (suc (suc (suc (suc (suc (suc (suc (suc (suc (suc (suc (suc (suc (suc (suc (suc (suc zero)))))))))))))))))))))))))))) h = refl
    tree_same (suc (suc (suc (suc (suc (suc (suc (suc (suc (suc (suc (suc (suc (suc (suc (suc (suc (suc (suc (suc (suc (suc (suc (suc (suc (suc (suc (suc (suc y))))))))))))))))))))))))))))) h = refl

-- ---- the children of a row are its references

item_ref : (t j i : ℕ) (l : List ℕ) → i < length l → slot_at t (j + i) ≡ line NODE → InN (get_or l i 0) (refs_from NODE t j l)
item_ref t j i [] lt e = absurd (omega arith)
item_ref t j zero (x ∷ l) lt e = this_kept (is_line NODE (slot_at t j)) x (refs_from NODE t (suc j) l) (ap (is_line NODE) (ap (slot_at t) (omega arith) ∙ e))
item_ref t j (suc i) (x ∷ l) lt e = in_keep (is_line NODE (slot_at t j)) x (get_or l i 0) (refs_from NODE t (suc j) l) (item_ref t (suc j) i l (le_of_suc-le-suc lt) (ap (slot_at t) (omega arith) ∙ e))

module _ (t : ℕ) (l : List ℕ) where
  ref_at : (i : ℕ) → i < length l → slot_at t i ≡ line NODE → (j : ℕ) → j ≡ get_or l i 0 → InN j (refs NODE (t ∷ l))
  unfolding refs
  ref_at i lt e j q = subst (λ z. InN z (refs_from NODE t 0 l)) (sym q) (item_ref t 0 i l lt (ap (slot_at t) (omega arith) ∙ e))

  one_refs : 2 ≤ length l → slot_at t 1 ≡ line NODE → (j : ℕ) → InN j (get_or l 1 0 ∷ []) → InN j (refs NODE (t ∷ l))
  one_refs h p j i = in_cons i (ref_at 1 (omega arith) p j) nowhere

  two_refs : 3 ≤ length l → slot_at t 1 ≡ line NODE → slot_at t 2 ≡ line NODE → (j : ℕ) → InN j (get_or l 1 0 ∷ get_or l 2 0 ∷ []) → InN j (refs NODE (t ∷ l))
  two_refs h p q j i = in_cons i (ref_at 1 (omega arith) p j) (λ k. in_cons k (ref_at 2 (omega arith) q j) nowhere)

  three_refs : 4 ≤ length l → slot_at t 1 ≡ line NODE → slot_at t 2 ≡ line NODE → slot_at t 3 ≡ line NODE → (j : ℕ) → InN j (get_or l 1 0 ∷ get_or l 2 0 ∷ get_or l 3 0 ∷ []) → InN j (refs NODE (t ∷ l))
  three_refs h p q r j i = in_cons i (ref_at 1 (omega arith) p j) (λ k. in_cons k (ref_at 2 (omega arith) q j) (λ k. in_cons k (ref_at 3 (omega arith) r j) nowhere))

set_from : (i : ℕ) (l : List ℕ) (j : ℕ) → InN j l → InN j (refs_from NODE SET_OF (suc i) l)
set_from i [] j k = k
set_from i (x ∷ l) j k = in_cons k (λ e. subst (λ z. InN z (refs_from NODE SET_OF (suc i) (x ∷ l))) (sym e) (this_kept (is_line NODE (slot_at SET_OF (suc i))) x (refs_from NODE SET_OF (suc (suc i)) l) (ap (is_line NODE) (set_slot i))))
    (λ n. in_keep (is_line NODE (slot_at SET_OF (suc i))) x j (refs_from NODE SET_OF (suc (suc i)) l) (set_from (suc i) l j n))

record_from : (i : ℕ) (l : List ℕ) (j : ℕ) → InN j (others l) → InN j (refs_from NODE RECORD_OF (suc (i + i)) l)
record_from i [] j k = k
record_from i (t ∷ []) j k = nowhere k
record_from i (t ∷ x ∷ l) j k = in_keep (is_line NODE (slot_at RECORD_OF (suc (i + i)))) t j _
    (in_cons k (λ e. subst (λ z. InN z (refs_from NODE RECORD_OF (suc (suc (i + i))) (x ∷ l))) (sym e) (this_kept (is_line NODE (slot_at RECORD_OF (suc (suc (i + i))))) x (refs_from NODE RECORD_OF (suc (suc (suc (i + i)))) l) (ap (is_line NODE) (field_slot i))))
    (λ n. in_keep (is_line NODE (slot_at RECORD_OF (suc (suc (i + i))))) x j (refs_from NODE RECORD_OF (suc (suc (suc (i + i)))) l) (subst (λ z. InN j (refs_from NODE RECORD_OF z l)) (omega arith) (record_from (suc i) l j n))))

set_refs : (l : List ℕ) (j : ℕ) → InN j (drop 1 l) → InN j (refs NODE (SET_OF ∷ l))
unfolding refs
set_refs [] j i = nowhere i
set_refs (x ∷ l) j i = in_keep (is_line NODE (slot_at SET_OF 0)) x j (refs_from NODE SET_OF 1 l) (set_from 0 l j i)

record_refs : (l : List ℕ) (j : ℕ) → InN j (others (drop 1 l)) → InN j (refs NODE (RECORD_OF ∷ l))
unfolding refs
record_refs [] j i = nowhere i
record_refs (x ∷ l) j i = in_keep (is_line NODE (slot_at RECORD_OF 0)) x j (refs_from NODE RECORD_OF 1 l) (record_from 0 l j i)

kid_refs : (x : ℕ) → x ≤ SLOT - first_node → (l : List ℕ) → length (form_of (first_node + x)).items ≤ length l → (j : ℕ) → InN j (get_or (kids_for ((first_node + x) ∷ l)) x []) → InN j (refs NODE ((first_node + x) ∷ l))
unfolding slot_at form_of forms
kid_refs zero small l h j i = nowhere i
kid_refs (suc zero) small l h j i = nowhere i
kid_refs (suc (suc zero)) small l h j i = nowhere i
kid_refs (suc (suc (suc zero))) small l h j i = two_refs _ l h refl refl j i
kid_refs (suc (suc (suc (suc zero)))) small l h j i = two_refs _ l h refl refl j i
kid_refs (suc (suc (suc (suc (suc zero))))) small l h j i = two_refs _ l h refl refl j i
kid_refs (suc (suc (suc (suc (suc (suc zero)))))) small l h j i = two_refs _ l h refl refl j i
kid_refs (suc (suc (suc (suc (suc (suc (suc zero))))))) small l h j i = two_refs _ l h refl refl j i
kid_refs (suc (suc (suc (suc (suc (suc (suc (suc zero)))))))) small l h j i = two_refs _ l h refl refl j i
kid_refs (suc (suc (suc (suc (suc (suc (suc (suc (suc zero))))))))) small l h j i = two_refs _ l h refl refl j i
kid_refs (suc (suc (suc (suc (suc (suc (suc (suc (suc (suc zero)))))))))) small l h j i = two_refs _ l h refl refl j i
kid_refs (suc (suc (suc (suc (suc (suc (suc (suc (suc (suc (suc zero))))))))))) small l h j i = two_refs _ l h refl refl j i
kid_refs (suc (suc (suc (suc (suc (suc (suc (suc (suc (suc (suc (suc zero)))))))))))) small l h j i = two_refs _ l h refl refl j i
kid_refs (suc (suc (suc (suc (suc (suc (suc (suc (suc (suc (suc (suc (suc zero))))))))))))) small l h j i = two_refs _ l h refl refl j i
kid_refs (suc (suc (suc (suc (suc (suc (suc (suc (suc (suc (suc (suc (suc (suc zero)))))))))))))) small l h j i = two_refs _ l h refl refl j i
kid_refs (suc (suc (suc (suc (suc (suc (suc (suc (suc (suc (suc (suc (suc (suc (suc zero))))))))))))))) small l h j i = two_refs _ l h refl refl j i
kid_refs (suc (suc (suc (suc (suc (suc (suc (suc (suc (suc (suc (suc (suc (suc (suc (suc zero)))))))))))))))) small l h j i = two_refs _ l h refl refl j i
kid_refs (suc (suc (suc (suc (suc (suc (suc (suc (suc (suc (suc (suc (suc (suc (suc (suc (suc zero))))))))))))))))) small l h j i = three_refs _ l h refl refl refl j i
kid_refs (suc (suc (suc (suc (suc (suc (suc (suc (suc (suc (suc (suc (suc (suc (suc (suc (suc (suc zero)))))))))))))))))) small l h j i = one_refs _ l (omega arith) refl j i
kid_refs (suc (suc (suc (suc (suc (suc (suc (suc (suc (suc (suc (suc (suc (suc (suc (suc (suc (suc (suc zero))))))))))))))))))) small l h j i = one_refs _ l h refl j i
kid_refs (suc (suc (suc (suc (suc (suc (suc (suc (suc (suc (suc (suc (suc (suc (suc (suc (suc (suc (suc (suc zero)))))))))))))))))))) small l h j i = one_refs _ l (omega arith) refl j i
kid_refs (suc (suc (suc (suc (suc (suc (suc (suc (suc (suc (suc (suc (suc (suc (suc (suc (suc (suc (suc (suc (suc zero))))))))))))))))))))) small l h j i = one_refs _ l (omega arith) refl j i
kid_refs (suc (suc (suc (suc (suc (suc (suc (suc (suc (suc (suc (suc (suc (suc (suc (suc (suc (suc (suc (suc (suc (suc zero)))))))))))))))))))))) small l h j i = one_refs _ l (omega arith) refl j i
kid_refs (suc (suc (suc (suc (suc (suc (suc (suc (suc (suc (suc (suc (suc (suc (suc (suc (suc (suc (suc (suc (suc (suc (suc zero))))))))))))))))))))))) small l h j i = one_refs _ l h refl j i
kid_refs (suc (suc (suc (suc (suc (suc (suc (suc (suc (suc (suc (suc (suc (suc (suc (suc (suc (suc (suc (suc (suc (suc (suc (suc zero)))))))))))))))))))))))) small l h j i = one_refs _ l h refl j i
kid_refs (suc (suc (suc (suc (suc (suc (suc (suc (suc (suc (suc (suc (suc (suc (suc (suc (suc (suc (suc (suc (suc (suc (suc (suc (suc zero))))))))))))))))))))))))) small l h j i = one_refs _ l h refl j i
kid_refs (suc (suc (suc (suc (suc (suc (suc (suc (suc (suc (suc (suc (suc (suc (suc (suc (suc (suc (suc (suc (suc (suc (suc (suc (suc (suc zero)))))))))))))))))))))))))) small l h j i = set_refs l j i
kid_refs (suc (suc (suc (suc (suc (suc (suc (suc (suc (suc (suc (suc (suc (suc (suc (suc (suc (suc (suc (suc (suc (suc (suc (suc (suc (suc (suc zero))))))))))))))))))))))))))) small l h j i = record_refs l j i
kid_refs (suc (suc (suc (suc (suc (suc (suc (suc (suc (suc (suc (suc (suc (suc (suc (suc (suc (suc (suc (suc (suc (suc (suc (suc (suc (suc (suc (suc zero)))))))))))))))))))))))))))) small l h j i = nowhere i
kid_refs (suc (suc (suc (suc (suc (suc (suc (suc (suc (suc (suc (suc (suc (suc (suc (suc (suc (suc (suc (suc (suc (suc (suc (suc (suc (suc (suc (suc (suc y))))))))))))))))))))))))))))) small l h j i = absurd (omega (arith, small))

-- ---- a record's row has a node for each text

record_odd : (n : ℕ) → counted RECORD_OF n ≡ true → (n - 1) % 2 ≡ 0
unfolding counted form_of forms
record_odd n e = go (eqb n 1) refl e
  where
    rest : (p : Bool) → (p && true && eqb ((n - 1) % 2) 0) ≡ true → (n - 1) % 2 ≡ 0
    rest true h = eqb_true ((n - 1) % 2) 0 h
    rest false h = no_true h

    go : (x : Bool) → eqb n 1 ≡ x → (x || (ltb 1 n && true && eqb ((n - 1) % 2) 0)) ≡ true → (n - 1) % 2 ≡ 0
    go true p h = let z = eqb_true n 1 p in omega (arith, z)
    go false p h = rest (ltb 1 n) h

others_half : (l : List ℕ) → length l % 2 ≡ 0 → length l ≡ 2 * length (others l)
others_half [] e = refl
others_half (t ∷ []) e = absurd (omega (arith, e))
others_half (t ∷ n ∷ l) e = let h = others_half l (omega (arith, e)) in omega (arith, h)

length_rest : (l : List ℕ) → length (drop 1 l) ≡ length l - 1
length_rest [] = refl
length_rest (x ∷ l) = omega arith

pub even_row : (m : Mode) (r l : List ℕ) → r ≡ row_of m l → tag r ≡ RECORD_OF → length (drop 1 (items r)) ≡ 2 * length (others (drop 1 (items r)))
even_row m r l e k = parsed m r (λ q. let z : no_tag ≡ RECORD_OF = sym (ap tag q) ∙ k in absurd (omega (arith, z))) (λ v q. let z : TEXT_LINE ≡ RECORD_OF = sym (ap tag q) ∙ k in absurd (omega (arith, z)))
    (λ t fs xs c i q. let z : t ≡ RECORD_OF = sym (ap tag q) ∙ k in
    let c' : counted RECORD_OF (length fs) ≡ true = subst (λ x. counted x (length fs) ≡ true) z c in
    let i' : items_from m RECORD_OF 0 fs ≡ some xs = subst (λ x. items_from m x 0 fs ≡ some xs) z i in
    let b : length xs ≡ length fs = items_length m RECORD_OF (plain_slots RECORD_OF (omega arith) (λ w. absurd (omega (arith, w)))) 0 fs i' in
    let o = record_odd (length fs) c' in
    let d = length_rest xs in
    let f : length (drop 1 (items r)) ≡ length (drop 1 xs) = ap (λ x. length (drop 1 (items x))) q in
    others_half (drop 1 (items r)) (omega (arith, b, o, d, f)))
    l e

-- ---- the trees of a list of rows

module _ (ts : List Ty) (sl : Ty → ℕ → Node ℕ) where
  abbrev from : List (Node ℕ) → List (List ℕ) → List (Node ℕ)
  from ns rows = trees_from ts (λ n. n) sl ns rows

  from_append : (ns : List (Node ℕ)) (a b : List (List ℕ)) → from ns (a ++ b) ≡ from (from ns a) b
  from_append ns [] b = refl
  from_append ns (r ∷ a) b = from_append (ns ++ (tree_over ts (λ n. n) sl ns r ∷ [])) a b

  from_length : (ns : List (Node ℕ)) (rows : List (List ℕ)) → length (from ns rows) ≡ length ns + length rows
  from_length ns [] = omega arith
  from_length ns (r ∷ rows) = let a = from_length (ns ++ (tree_over ts (λ n. n) sl ns r ∷ [])) rows in let b = length-append ns (tree_over ts (λ n. n) sl ns r ∷ []) in omega (arith, a, b)

  -- those before stay
  from_before : (ns : List (Node ℕ)) (rows : List (List ℕ)) (j : ℕ) → j < length ns → get_or (from ns rows) j (err tbool) ≡ get_or ns j (err tbool)
  from_before ns [] j lt = refl
  from_before ns (r ∷ rows) j lt = let z = length-append ns (tree_over ts (λ n. n) sl ns r ∷ []) in
      from_before (ns ++ (tree_over ts (λ n. n) sl ns r ∷ [])) rows j (omega (arith, z, lt)) ∙ get_or-append ns (tree_over ts (λ n. n) sl ns r ∷ []) (err tbool) j lt

  last_at : (ns : List (Node ℕ)) (a : Node ℕ) (n : ℕ) → n ≡ length ns → get_or (ns ++ (a ∷ [])) n (err tbool) ≡ a
  last_at [] a n e = ap (λ (i : ℕ). get_or (a ∷ []) i (err tbool)) e
  last_at (x ∷ ns) a n e = ap (λ (i : ℕ). get_or (x ∷ (ns ++ (a ∷ []))) i (err tbool)) e ∙ last_at ns a (length ns) refl

  -- the tree of the row after pre, if its children come before it
  pub tree_of : (pre : List (List ℕ)) (r : List ℕ) (rest : List (List ℕ)) → ((j : ℕ) → InN j (children_of r) → j < length pre)
      → get_or (from [] (pre ++ (r ∷ rest))) (length pre) (err tbool) ≡ tree_over ts (λ n. n) sl (from [] (pre ++ (r ∷ rest))) r
  tree_of pre r rest below =
      let ns = from [] pre in
      let a = tree_over ts (λ n. n) sl ns r in
      let e : from [] (pre ++ (r ∷ rest)) ≡ from (ns ++ (a ∷ [])) rest = from_append [] pre (r ∷ rest) in
      let n = from_length [] pre in
      let z = length-append ns (a ∷ []) in
      ap (λ (x : List (Node ℕ)). get_or x (length pre) (err tbool)) e ∙ from_before (ns ++ (a ∷ [])) rest (length pre) (omega (arith, n, z)) ∙ last_at ns a (length pre) (omega (arith, n))
      ∙ tree_same ts sl ns (from [] (pre ++ (r ∷ rest))) r (tag r - first_node)
      (λ j i. let lt = below j i in sym (ap (λ (x : List (Node ℕ)). get_or x j (err tbool)) e ∙ from_before (ns ++ (a ∷ [])) rest j (omega (arith, n, z, lt)) ∙ get_or-append ns (a ∷ []) (err tbool) j (omega (arith, n, lt))))

-- ---- a node's row as it was read

-- under a link with the values p and q
pub record Fact (s : State) (p q c : ℕ) : Type 0 where
  pub low : first_node ≤ tag (get_or (lines_of s NODE) c [])
  pub high : tag (get_or (lines_of s NODE) c []) ≤ SLOT
  pub typed : at (get_or (lines_of s NODE) c []) 0 < length (types s)
  pub even : tag (get_or (lines_of s NODE) c []) ≡ RECORD_OF → length (drop 1 (items (get_or (lines_of s NODE) c []))) ≡ 2 * length (others (drop 1 (items (get_or (lines_of s NODE) c []))))
  pub kids : (j : ℕ) → InN j (children_of (get_or (lines_of s NODE) c [])) → InN j (refs NODE (get_or (lines_of s NODE) c []))
  pub tree : get_or (trees s p q) c (err tbool) ≡ tree_over (types s) (λ n. n) (linked (λ n. n) p q) (trees s p q) (get_or (lines_of s NODE) c [])

-- a node's first item is its type
type_first : ℕ → Bool
type_first t = ltb t first_node || ltb SLOT t || (is_line TYPE (slot_at t 0) && ltb 0 (length (form_of t).items))

types_first : all_below type_first no_tag ≡ true
unfolding type_first slot_at form_of forms
types_first = refl

first_is : (t : ℕ) → first_node ≤ t → t ≤ SLOT → (slot_at t 0 ≡ line TYPE) × (0 < length (form_of t).items)
unfolding type_first
first_is t lo hi = go (ltb t first_node) (ltb SLOT t) (le-ltb t first_node lo) (le-ltb SLOT t hi) (all_below_law type_first no_tag t types_first (omega arith))
  where
    go : (a b : Bool) → a ≡ false → b ≡ false → (a || b || (is_line TYPE (slot_at t 0) && ltb 0 (length (form_of t).items))) ≡ true → (slot_at t 0 ≡ line TYPE) × (0 < length (form_of t).items)
    go true b p q e = no_true (sym p)
    go false true p q e = no_true (sym q)
    go false false p q e = and_both (is_line TYPE (slot_at t 0)) (ltb 0 (length (form_of t).items)) e (λ x y. (is_line_law TYPE (slot_at t 0) x, ltb-true 0 (length (form_of t).items) y))

split_here : {X : Type 0} (l : List (List ℕ)) (c : ℕ) → c < length l → ((pre rest : List (List ℕ)) → length pre ≡ c → l ≡ pre ++ (get_or l c [] ∷ rest) → X) → X
split_here [] c lt f = absurd (omega arith)
split_here (x ∷ l) zero lt f = f [] l refl refl
split_here (x ∷ l) (suc c) lt f = split_here l c (le_of_suc-le-suc lt) (λ pre rest n e. f (x ∷ pre) rest (ap suc n) (ap (λ z. x ∷ z) e))

kids_of : (t : ℕ) (l : List ℕ) → first_node ≤ t → t ≤ SLOT → length (form_of t).items ≤ length l → (j : ℕ) → InN j (get_or (kids_for (t ∷ l)) (t - first_node) []) → InN j (refs NODE (t ∷ l))
kids_of t l lo hi =
    let e : first_node + (t - first_node) ≡ t = omega (arith, lo) in
    subst (λ z. length (form_of z).items ≤ length l → (j : ℕ) → InN j (get_or (kids_for (z ∷ l)) (t - first_node) []) → InN j (refs NODE (z ∷ l))) e (kid_refs (t - first_node) (omega (arith, hi)) l)

module _ (m : Mode) (s : State) where
  row_kids : (pre : List (List ℕ)) (r : List ℕ) → Was m s NODE pre r → first_node ≤ tag r → tag r ≤ SLOT → (j : ℕ) → InN j (children_of r) → InN j (refs NODE r)
  row_kids pre [] w lo hi = absurd (omega (arith, hi))
  row_kids pre (t ∷ l) w lo hi = kids_of t l lo hi (row_read m (t ∷ l) w.line t w.row refl (omega (arith, lo)) (omega (arith, hi)) (λ z. absurd (omega (arith, z, lo)))).least

  row_below : (pre : List (List ℕ)) (r : List ℕ) → Was m s NODE pre r → (j : ℕ) → InN j (refs NODE r) → j < length pre
  unfolding refs
  row_below pre r w j i = subst (λ z. j < length z) w.mine (in_below (count w.was NODE) (refs_from NODE (tag r) 0 (items r)) j (refs_below w.was NODE (tag r) 0 (items r) (all_there_law w.was NODE r w.pass.refers)) i)

  row_type : History m s → (pre : List (List ℕ)) (r : List ℕ) → Was m s NODE pre r → first_node ≤ tag r → tag r ≤ SLOT → at r 0 < length (types s)
  row_type h pre r w lo hi =
      let (sl, le) = first_is (tag r) lo hi in
      let rd = row_read m r w.line (tag r) w.row refl (omega (arith, lo)) (omega (arith, hi)) (λ z. absurd (omega (arith, z, lo))) in
      let there = item_there m s w.was NODE r (tag r) rd w.pass.refers 0 le in
      let lt = ltb-true (at r 0) (count w.was TYPE) (sym (ap (λ z. there_is w.was z (at r 0)) sl) ∙ there) in
      let n = ap length (w.earlier TYPE (omega arith)) in
      let k = types_length m s h in
      omega (arith, lt, n, k)

  pub node_fact : History m s → (p q c : ℕ) → c < count s NODE → Fact s p q c
  unfolding key_of trees
  node_fact h p q c lt = split_here (lines_of s NODE) c lt (λ pre rest n e. go pre (get_or (lines_of s NODE) c []) rest n e (h NODE pre (get_or (lines_of s NODE) c []) rest e) refl)
    where
      tree_here : (pre : List (List ℕ)) (r : List ℕ) (rest : List (List ℕ)) → length pre ≡ c → lines_of s NODE ≡ pre ++ (r ∷ rest) → ((j : ℕ) → InN j (children_of r) → j < length pre)
          → get_or (trees_from (types s) (λ n. n) (linked (λ n. n) p q) [] (lines_of s NODE)) c (err tbool) ≡ tree_over (types s) (λ n. n) (linked (λ n. n) p q) (trees_from (types s) (λ n. n) (linked (λ n. n) p q) [] (lines_of s NODE)) r
      tree_here pre r rest n e below =
          subst (λ (l : List (List ℕ)). get_or (trees_from (types s) (λ n. n) (linked (λ n. n) p q) [] l) c (err tbool) ≡ tree_over (types s) (λ n. n) (linked (λ n. n) p q) (trees_from (types s) (λ n. n) (linked (λ n. n) p q) [] l) r) (sym e)
          (subst (λ (k : ℕ). get_or (trees_from (types s) (λ n. n) (linked (λ n. n) p q) [] (pre ++ (r ∷ rest))) k (err tbool) ≡ tree_over (types s) (λ n. n) (linked (λ n. n) p q) (trees_from (types s) (λ n. n) (linked (λ n. n) p q) [] (pre ++ (r ∷ rest))) r) n (tree_of (types s) (linked (λ n. n) p q) pre r rest below))

      go : (pre : List (List ℕ)) (r : List ℕ) (rest : List (List ℕ)) → length pre ≡ c → lines_of s NODE ≡ pre ++ (r ∷ rest) → Was m s NODE pre r → get_or (lines_of s NODE) c [] ≡ r → Fact s p q c
      go pre r rest n e w x =
          let (lo, hi) = tags_between NODE first_node SLOT (tag r) (omega arith) node_tags w.key in
          record {
            low = subst (λ z. first_node ≤ tag z) (sym x) lo;
            high = subst (λ z. tag z ≤ SLOT) (sym x) hi;
            typed = subst (λ z. at z 0 < length (types s)) (sym x) (row_type h pre r w lo hi);
            even = subst (λ z. tag z ≡ RECORD_OF → length (drop 1 (items z)) ≡ 2 * length (others (drop 1 (items z)))) (sym x) (even_row m r w.line w.row);
            kids = subst (λ z. (j : ℕ) → InN j (children_of z) → InN j (refs NODE z)) (sym x) (row_kids pre r w lo hi);
            tree = subst (λ z. get_or (trees_from (types s) (λ n. n) (linked (λ n. n) p q) [] (lines_of s NODE)) c (err tbool) ≡ tree_over (types s) (λ n. n) (linked (λ n. n) p q) (trees_from (types s) (λ n. n) (linked (λ n. n) p q) [] (lines_of s NODE)) z) (sym x)
                (tree_here pre r rest n e (λ j i. row_below pre r w j (row_kids pre r w lo hi j i)));
          }

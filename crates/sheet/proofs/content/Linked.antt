-- Linked trees: a tree depends on the slots under its node alone, and on an accepted sheet the link of a policy fits all of them.
use mathlib.Core.Path.{◌≡◌, refl, sym, ◌∙◌, ap, ap₂, subst}
use mathlib.Core.Bool.{Bool, true, false, cond, ◌&&◌, ◌||◌, not}
use mathlib.Core.List.{List, [], ◌∷◌, ◌++◌, append_assoc}
use Prim.Native.Nat.{ℕ, zero, suc, ◌≤◌, ◌+◌, ◌-◌}
use native.Mathlib.Omega.{arith}
use lib.Dec.{ltb, eqb}
use lib.ListN.{length, get_or, drop, length-append}
use borrow.Author.Tests.{lt-ltb}
use Rattle.cedar.proofs.Tools.{no_true, eqb_true, neither}
use Rattle.cedar.proofs.TableLaws.{InN, now', later'}
use Rattle.cedar.specs.Types.{Ty, tbool}
use Rattle.cedar.specs.Residual.{Node, econs, gcons, err, and, or, ite, un, bin, rel, get, has, haspath, set, rec, unot, uneg, uempty, uis, ulike, beq, blt, ble, badd, bsub, bmul, bcontains, ball, bany, rin, rgettag, rhastag}
use Rattle.cedar.specs.Numbered.{mem_n}
use Rattle.sheet.specs.Forms.{Mode, forms, form_of, slot_at, is_line, keep, refs_from, refs, at, key_of, mark, NODE, POLICY, LINK, VALUE, TYPE, no_tag}
use Rattle.sheet.specs.State.{State, lines_of, line_at}
use Rattle.sheet.specs.Typing.{fits, fits_in, gathered, under_from, nodes_under, nodes_of, is_slot, slot_value, slots_fit, typed}
use Rattle.sheet.specs.Sheet.{firsts, any_slot, first_unlinked}
use Rattle.sheet.specs.Content.{pattern_of, children_over, args_over, tree_over, trees_from, link_of}
use Rattle.sheet.proofs.reading.Lines.{and_both, not_empty, cons_head, cons_tail, Was, History, Ended}
use Rattle.sheet.proofs.reading.Parsed.{tags_between, node_tags}
use Rattle.sheet.proofs.reading.NodeRows.{row_read}
use Rattle.sheet.proofs.reading.Slots.{set_slot, field_slot}
use Rattle.sheet.proofs.content.OnTerm.{Each, none, more}

-- ---- a row's children are among its references

pub in_keep : (b : Bool) (x y : ℕ) (l : List ℕ) → InN y l → InN y (keep b x l)
in_keep true x y l i = later' i
in_keep false x y l i = i

pub this_kept : (b : Bool) (x : ℕ) (l : List ℕ) → b ≡ true → InN x (keep b x l)
this_kept b x l e = subst (λ z. InN x (keep z x l)) (sym e) now'

-- ---- the trees of a row over ns and over ms, which agree at its references; slots stand for sl and for sm

module _ {L : Type 0} (ts : List Ty) (value : ℕ → L) (sl sm : Ty → ℕ → Node L) (ns ms : List (Node L)) where
  abbrev Agree : List ℕ → Type 0
  Agree l = (y : ℕ) → InN y l → get_or ns y (err tbool) ≡ get_or ms y (err tbool)

  one : (g : ℕ) (l : List ℕ) → 2 ≤ length l → is_line NODE (slot_at g 1) ≡ true → Agree (refs_from NODE g 0 l) → get_or ns (get_or l 1 0) (err tbool) ≡ get_or ms (get_or l 1 0) (err tbool)
  one g [] c p h = absurd (omega arith)
  one g (x ∷ []) c p h = absurd (omega arith)
  one g (x ∷ y ∷ l) c p h = h y (in_keep (is_line NODE (slot_at g 0)) x y (refs_from NODE g 1 (y ∷ l)) (this_kept (is_line NODE (slot_at g 1)) y (refs_from NODE g 2 l) p))

  two : (g : ℕ) (l : List ℕ) → 3 ≤ length l → is_line NODE (slot_at g 1) ≡ true → is_line NODE (slot_at g 2) ≡ true → Agree (refs_from NODE g 0 l)
      → (get_or ns (get_or l 1 0) (err tbool) ≡ get_or ms (get_or l 1 0) (err tbool)) × (get_or ns (get_or l 2 0) (err tbool) ≡ get_or ms (get_or l 2 0) (err tbool))
  two g [] c p q h = absurd (omega arith)
  two g (x ∷ []) c p q h = absurd (omega arith)
  two g (x ∷ y ∷ []) c p q h = absurd (omega arith)
  two g (x ∷ y ∷ z ∷ l) c p q h = (
    one g (x ∷ y ∷ z ∷ l) (omega arith) p h,
    h z (in_keep (is_line NODE (slot_at g 0)) x z (refs_from NODE g 1 (y ∷ z ∷ l)) (in_keep (is_line NODE (slot_at g 1)) y z (refs_from NODE g 2 (z ∷ l)) (this_kept (is_line NODE (slot_at g 2)) z (refs_from NODE g 3 l) q))),
  )

  three : (g : ℕ) (l : List ℕ) → 4 ≤ length l → is_line NODE (slot_at g 1) ≡ true → is_line NODE (slot_at g 2) ≡ true → is_line NODE (slot_at g 3) ≡ true → Agree (refs_from NODE g 0 l)
      → (get_or ns (get_or l 1 0) (err tbool) ≡ get_or ms (get_or l 1 0) (err tbool)) × (get_or ns (get_or l 2 0) (err tbool) ≡ get_or ms (get_or l 2 0) (err tbool)) × (get_or ns (get_or l 3 0) (err tbool) ≡ get_or ms (get_or l 3 0) (err tbool))
  three g [] c p q r h = absurd (omega arith)
  three g (x ∷ []) c p q r h = absurd (omega arith)
  three g (x ∷ y ∷ []) c p q r h = absurd (omega arith)
  three g (x ∷ y ∷ z ∷ []) c p q r h = absurd (omega arith)
  three g (x ∷ y ∷ z ∷ w ∷ l) c p q r h = let (a, b) = two g (x ∷ y ∷ z ∷ w ∷ l) (omega arith) p q h in (
    a,
    b,
    h w (in_keep (is_line NODE (slot_at g 0)) x w (refs_from NODE g 1 (y ∷ z ∷ w ∷ l)) (in_keep (is_line NODE (slot_at g 1)) y w (refs_from NODE g 2 (z ∷ w ∷ l))
        (in_keep (is_line NODE (slot_at g 2)) z w (refs_from NODE g 3 (w ∷ l)) (this_kept (is_line NODE (slot_at g 3)) w (refs_from NODE g 4 l) r)))),
  )

  kids_same : (j : ℕ) (l : List ℕ) → Agree (refs_from NODE 47 (suc j) l) → children_over ts value ns l ≡ children_over ts value ms l
  kids_same j [] h = refl
  kids_same j (n ∷ l) h = ap₂ econs (h n (this_kept (is_line NODE (slot_at 47 (suc j))) n (refs_from NODE 47 (suc (suc j)) l) (ap (is_line NODE) (set_slot j))))
      (kids_same (suc j) l (λ y i. h y (in_keep (is_line NODE (slot_at 47 (suc j))) n y (refs_from NODE 47 (suc (suc j)) l) i)))

  args_same : (i : ℕ) (l : List ℕ) → Agree (refs_from NODE 48 (suc (i + i)) l) → args_over ts value ns l ≡ args_over ts value ms l
  args_same i [] h = refl
  args_same i (x ∷ []) h = refl
  args_same i (x ∷ n ∷ l) h =
      let e : refs_from NODE 48 (suc (suc i + suc i)) l ≡ refs_from NODE 48 (suc (suc (suc (i + i)))) l = ap (λ j. refs_from NODE 48 j l) (omega arith) in
      ap₂ (gcons x)
      (h n (in_keep (is_line NODE (slot_at 48 (suc (i + i)))) x n (refs_from NODE 48 (suc (suc (i + i))) (n ∷ l)) (this_kept (is_line NODE (slot_at 48 (suc (suc (i + i))))) n (refs_from NODE 48 (suc (suc (suc (i + i)))) l) (ap (is_line NODE) (field_slot i)))))
      (args_same (suc i) l (λ y k. h y (in_keep (is_line NODE (slot_at 48 (suc (i + i)))) x y (refs_from NODE 48 (suc (suc (i + i))) (n ∷ l))
      (in_keep (is_line NODE (slot_at 48 (suc (suc (i + i))))) n y (refs_from NODE 48 (suc (suc (suc (i + i)))) l) (subst (InN y) e k)))))

  set_same : (l : List ℕ) → Agree (refs_from NODE 47 0 l) → children_over ts value ns (drop 1 l) ≡ children_over ts value ms (drop 1 l)
  set_same [] h = refl
  set_same (x ∷ l) h = kids_same 0 l (λ y i. h y (in_keep (is_line NODE (slot_at 47 0)) x y (refs_from NODE 47 1 l) i))

  record_same : (l : List ℕ) → Agree (refs_from NODE 48 0 l) → args_over ts value ns (drop 1 l) ≡ args_over ts value ms (drop 1 l)
  record_same [] h = refl
  record_same (x ∷ l) h = args_same 0 l (λ y i. h y (in_keep (is_line NODE (slot_at 48 0)) x y (refs_from NODE 48 1 l) i))

  Same : ℕ → Type 0
  Same g = (l : List ℕ) → length (form_of g).items ≤ length l → (is_slot (g ∷ l) ≡ true → sl (get_or ts (get_or l 0 0) tbool) (get_or l 1 0) ≡ sm (get_or ts (get_or l 0 0) tbool) (get_or l 1 0))
      → Agree (refs_from NODE g 0 l) → tree_over ts value sl ns (g ∷ l) ≡ tree_over ts value sm ms (g ∷ l)

  rule_for : (d : ℕ) → d ≤ 28 → Same (21 + d)
  unfolding Same slot_at form_of forms
  rule_for zero b l c e h = refl
  rule_for (suc zero) b l c e h = refl
  rule_for (suc (suc zero)) b l c e h = refl
  rule_for (suc (suc (suc zero))) b l c e h = let (p, q) = two 24 l c refl refl h in ap₂ (and (get_or ts (get_or l 0 0) tbool)) p q
  rule_for (suc (suc (suc (suc zero)))) b l c e h = let (p, q) = two 25 l c refl refl h in ap₂ (or (get_or ts (get_or l 0 0) tbool)) p q
  rule_for (suc (suc (suc (suc (suc zero))))) b l c e h = let (p, q) = two 26 l c refl refl h in ap₂ (bin (get_or ts (get_or l 0 0) tbool) beq) p q
  rule_for (suc (suc (suc (suc (suc (suc zero)))))) b l c e h = let (p, q) = two 27 l c refl refl h in ap₂ (bin (get_or ts (get_or l 0 0) tbool) blt) p q
  rule_for (suc (suc (suc (suc (suc (suc (suc zero))))))) b l c e h = let (p, q) = two 28 l c refl refl h in ap₂ (bin (get_or ts (get_or l 0 0) tbool) ble) p q
  rule_for (suc (suc (suc (suc (suc (suc (suc (suc zero)))))))) b l c e h = let (p, q) = two 29 l c refl refl h in ap₂ (bin (get_or ts (get_or l 0 0) tbool) badd) p q
  rule_for (suc (suc (suc (suc (suc (suc (suc (suc (suc zero))))))))) b l c e h = let (p, q) = two 30 l c refl refl h in ap₂ (bin (get_or ts (get_or l 0 0) tbool) bsub) p q
  rule_for (suc (suc (suc (suc (suc (suc (suc (suc (suc (suc zero)))))))))) b l c e h = let (p, q) = two 31 l c refl refl h in ap₂ (bin (get_or ts (get_or l 0 0) tbool) bmul) p q
  rule_for (suc (suc (suc (suc (suc (suc (suc (suc (suc (suc (suc zero))))))))))) b l c e h = let (p, q) = two 32 l c refl refl h in ap₂ (rel (get_or ts (get_or l 0 0) tbool) rin) p q
  rule_for (suc (suc (suc (suc (suc (suc (suc (suc (suc (suc (suc (suc zero)))))))))))) b l c e h = let (p, q) = two 33 l c refl refl h in ap₂ (rel (get_or ts (get_or l 0 0) tbool) rgettag) p q
  rule_for (suc (suc (suc (suc (suc (suc (suc (suc (suc (suc (suc (suc (suc zero))))))))))))) b l c e h = let (p, q) = two 34 l c refl refl h in ap₂ (rel (get_or ts (get_or l 0 0) tbool) rhastag) p q
  rule_for (suc (suc (suc (suc (suc (suc (suc (suc (suc (suc (suc (suc (suc (suc zero)))))))))))))) b l c e h = let (p, q) = two 35 l c refl refl h in ap₂ (bin (get_or ts (get_or l 0 0) tbool) bcontains) p q
  rule_for (suc (suc (suc (suc (suc (suc (suc (suc (suc (suc (suc (suc (suc (suc (suc zero))))))))))))))) b l c e h = let (p, q) = two 36 l c refl refl h in ap₂ (bin (get_or ts (get_or l 0 0) tbool) ball) p q
  rule_for (suc (suc (suc (suc (suc (suc (suc (suc (suc (suc (suc (suc (suc (suc (suc (suc zero)))))))))))))))) b l c e h = let (p, q) = two 37 l c refl refl h in ap₂ (bin (get_or ts (get_or l 0 0) tbool) bany) p q
  rule_for (suc (suc (suc (suc (suc (suc (suc (suc (suc (suc (suc (suc (suc (suc (suc (suc (suc zero))))))))))))))))) b l c e h = let (p, q, z) = three 38 l c refl refl refl h in λ j. ite (get_or ts (get_or l 0 0) tbool) (p j) (q j) (z j)
  rule_for (suc (suc (suc (suc (suc (suc (suc (suc (suc (suc (suc (suc (suc (suc (suc (suc (suc (suc zero)))))))))))))))))) b l c e h = ap (un (get_or ts (get_or l 0 0) tbool) (uis (get_or l 2 0))) (one 39 l (omega arith) refl h)
  rule_for (suc (suc (suc (suc (suc (suc (suc (suc (suc (suc (suc (suc (suc (suc (suc (suc (suc (suc (suc zero))))))))))))))))))) b l c e h = ap (un (get_or ts (get_or l 0 0) tbool) (ulike (pattern_of (drop 2 l)))) (one 40 l c refl h)
  rule_for (suc (suc (suc (suc (suc (suc (suc (suc (suc (suc (suc (suc (suc (suc (suc (suc (suc (suc (suc (suc zero)))))))))))))))))))) b l c e h = ap (λ (x : Node L). get (get_or ts (get_or l 0 0) tbool) x (get_or l 2 0)) (one 41 l (omega arith) refl h)
  rule_for (suc (suc (suc (suc (suc (suc (suc (suc (suc (suc (suc (suc (suc (suc (suc (suc (suc (suc (suc (suc (suc zero))))))))))))))))))))) b l c e h = ap (λ (x : Node L). has (get_or ts (get_or l 0 0) tbool) x (get_or l 2 0)) (one 42 l (omega arith) refl h)
  rule_for (suc (suc (suc (suc (suc (suc (suc (suc (suc (suc (suc (suc (suc (suc (suc (suc (suc (suc (suc (suc (suc (suc zero)))))))))))))))))))))) b l c e h = ap (λ (x : Node L). haspath (get_or ts (get_or l 0 0) tbool) x (get_or l 2 0) (drop 3 l)) (one 43 l (omega arith) refl h)
  rule_for (suc (suc (suc (suc (suc (suc (suc (suc (suc (suc (suc (suc (suc (suc (suc (suc (suc (suc (suc (suc (suc (suc (suc zero))))))))))))))))))))))) b l c e h = ap (un (get_or ts (get_or l 0 0) tbool) unot) (one 44 l c refl h)
  rule_for (suc (suc (suc (suc (suc (suc (suc (suc (suc (suc (suc (suc (suc (suc (suc (suc (suc (suc (suc (suc (suc (suc (suc (suc zero)))))))))))))))))))))))) b l c e h = ap (un (get_or ts (get_or l 0 0) tbool) uneg) (one 45 l c refl h)
  rule_for (suc (suc (suc (suc (suc (suc (suc (suc (suc (suc (suc (suc (suc (suc (suc (suc (suc (suc (suc (suc (suc (suc (suc (suc (suc zero))))))))))))))))))))))))) b l c e h = ap (un (get_or ts (get_or l 0 0) tbool) uempty) (one 46 l c refl h)
  rule_for (suc (suc (suc (suc (suc (suc (suc (suc (suc (suc (suc (suc (suc (suc (suc (suc (suc (suc (suc (suc (suc (suc (suc (suc (suc (suc zero)))))))))))))))))))))))))) b l c e h = ap (set (get_or ts (get_or l 0 0) tbool)) (set_same l h)
  rule_for (suc (suc (suc (suc (suc (suc (suc (suc (suc (suc (suc (suc (suc (suc (suc (suc (suc (suc (suc (suc (suc (suc (suc (suc (suc (suc (suc zero))))))))))))))))))))))))))) b l c e h = ap (rec (get_or ts (get_or l 0 0) tbool)) (record_same l h)
  rule_for (suc (suc (suc (suc (suc (suc (suc (suc (suc (suc (suc (suc (suc (suc (suc (suc (suc (suc (suc (suc (suc (suc (suc (suc (suc (suc (suc (suc zero)))))))))))))))))))))))))))) b l c e h = e refl
  rule_for (suc (suc (suc (suc (suc (suc (suc (suc (suc (suc (suc (suc (suc (suc (suc (suc (suc (suc (suc (suc (suc (suc (suc (suc (suc (suc (suc (suc (suc d))))))))))))))))))))))))))))) b l c e h = absurd (omega arith)

  tree_same : (g : ℕ) → 21 ≤ g → g ≤ 49 → Same g
  tree_same g lo hi = subst Same (omega (arith, lo)) (rule_for (g - 21) (omega (arith, lo, hi)))

-- ---- the nodes under a node

each_left : {P : List ℕ → Type 0} (a b : List (List ℕ)) → Each P (a ++ b) → Each P a
each_left [] b h = none
each_left (x ∷ a) b (more h hs) = more h (each_left a b hs)

each_right : {P : List ℕ → Type 0} (a b : List (List ℕ)) → Each P (a ++ b) → Each P b
each_right [] b h = h
each_right (x ∷ a) b (more h hs) = each_right a b hs

each_join : {P : List ℕ → Type 0} {a b : List (List ℕ)} → Each P a → Each P b → Each P (a ++ b)
each_join none k = k
each_join (more h hs) k = more h (each_join hs k)

each_gathered : {P : List ℕ → Type 0} (us : List (List (List ℕ))) (y : ℕ) {l : List ℕ} → Each P (gathered us l) → InN y l → Each P (get_or us y [])
each_gathered us y h (now' {l = l}) = each_left (get_or us y []) (gathered us l) h
each_gathered us y h (later' {m = n} {l = l} i) = each_gathered us y (each_right (get_or us n []) (gathered us l) h) i

-- what holds of each node line holds of the nodes under every node
module _ (P : List ℕ → Type 0) where
  abbrev EachAll : List (List (List ℕ)) → Type 0
  EachAll us = (n : ℕ) → Each P (get_or us n [])

  all_gathered : (us : List (List (List ℕ))) → EachAll us → (l : List ℕ) → Each P (gathered us l)
  all_gathered us k [] = none
  all_gathered us k (n ∷ l) = each_join (k n) (all_gathered us k l)

  each_snoc : (us : List (List (List ℕ))) (x : List (List ℕ)) → EachAll us → Each P x → EachAll (us ++ (x ∷ []))
  each_snoc [] x k h zero = h
  each_snoc [] x k h (suc n) = none
  each_snoc (u ∷ us) x k h zero = k 0
  each_snoc (u ∷ us) x k h (suc n) = each_snoc us x (λ i. k (suc i)) h n

  each_from : {rs : List (List ℕ)} → Each P rs → (us : List (List (List ℕ))) → EachAll us → EachAll (under_from us rs)
  each_from none us k = k
  each_from (more {r = r} h hs) us k = each_from hs (us ++ ((r ∷ gathered us (refs NODE r)) ∷ [])) (each_snoc us (r ∷ gathered us (refs NODE r)) k (more h (all_gathered us k (refs NODE r))))

  pub under_each : (s : State) (n : ℕ) → Each P (lines_of s NODE) → Each P (nodes_under s n)
  unfolding nodes_under
  under_each s n h = each_from h [] (λ i. none) n

-- ---- a tree depends on the slots under its node alone

module _ {L : Type 0} (m : Mode) (s : State) (h : History m s) (ts : List Ty) (value : ℕ → L) (sl sm : Ty → ℕ → Node L) where
  -- both read the slots among these nodes alike
  abbrev pub Alike : List (List ℕ) → Type 0
  Alike rs = Each (λ r. is_slot r ≡ true → sl (get_or ts (at r 0) tbool) (at r 1) ≡ sm (get_or ts (at r 0) tbool) (at r 1)) rs

  new_same : (pre : List (List ℕ)) (r : List ℕ) → Was m s NODE pre r → (us : List (List (List ℕ))) (ns ms : List (Node L)) → ((n : ℕ) → Alike (get_or us n []) → get_or ns n (err tbool) ≡ get_or ms n (err tbool))
      → Alike (r ∷ gathered us (refs NODE r)) → tree_over ts value sl ns r ≡ tree_over ts value sm ms r
  unfolding Same key_of refs
  new_same pre [] w us ns ms k a = let (lo, hi) = tags_between NODE 21 49 no_tag (omega arith) node_tags w.key in absurd (omega (arith, hi))
  new_same pre (t ∷ l) w us ns ms k (more x xs) =
      let (lo, hi) = tags_between NODE 21 49 t (omega arith) node_tags w.key in
      let rd = row_read m (t ∷ l) w.line t w.row refl (omega (arith, lo)) (omega (arith, hi)) (λ z. absurd (omega (arith, z, lo))) in
      tree_same ts value sl sm ns ms t lo hi l rd.least x (λ y i. k y (each_gathered us y xs i))

  same_snoc : (us : List (List (List ℕ))) (ns ms : List (Node L)) (u : List (List ℕ)) (a b : Node L) → length ns ≡ length us → length ms ≡ length us
      → ((n : ℕ) → Alike (get_or us n []) → get_or ns n (err tbool) ≡ get_or ms n (err tbool)) → (Alike u → a ≡ b)
      → (n : ℕ) → Alike (get_or (us ++ (u ∷ [])) n []) → get_or (ns ++ (a ∷ [])) n (err tbool) ≡ get_or (ms ++ (b ∷ [])) n (err tbool)
  same_snoc [] [] [] u a b e f k g zero x = g x
  same_snoc [] [] [] u a b e f k g (suc n) x = refl
  same_snoc [] [] (z ∷ ms) u a b e f k g n x = absurd (omega (arith, f))
  same_snoc [] (y ∷ ns) ms u a b e f k g n x = absurd (omega (arith, e))
  same_snoc (v ∷ us) [] ms u a b e f k g n x = absurd (omega (arith, e))
  same_snoc (v ∷ us) (y ∷ ns) [] u a b e f k g n x = absurd (omega (arith, f))
  same_snoc (v ∷ us) (y ∷ ns) (z ∷ ms) u a b e f k g zero x = k 0 x
  same_snoc (v ∷ us) (y ∷ ns) (z ∷ ms) u a b e f k g (suc n) x = same_snoc us ns ms u a b (omega (arith, e)) (omega (arith, f)) (λ i. k (suc i)) g n x

  same_from : (pre rest : List (List ℕ)) (us : List (List (List ℕ))) (ns ms : List (Node L)) → lines_of s NODE ≡ pre ++ rest → length ns ≡ length us → length ms ≡ length us
      → ((n : ℕ) → Alike (get_or us n []) → get_or ns n (err tbool) ≡ get_or ms n (err tbool))
      → (n : ℕ) → Alike (get_or (under_from us rest) n []) → get_or (trees_from ts value sl ns rest) n (err tbool) ≡ get_or (trees_from ts value sm ms rest) n (err tbool)
  same_from pre [] us ns ms e p q k = k
  same_from pre (r ∷ rest) us ns ms e p q k =
      let a = tree_over ts value sl ns r in
      let b = tree_over ts value sm ms r in
      let u = r ∷ gathered us (refs NODE r) in
      let x = length-append ns (a ∷ []) in
      let y = length-append ms (b ∷ []) in
      let z = length-append us (u ∷ []) in
      same_from (pre ++ (r ∷ [])) rest (us ++ (u ∷ [])) (ns ++ (a ∷ [])) (ms ++ (b ∷ [])) (e ∙ sym (append_assoc pre (r ∷ []) rest)) (omega (arith, x, z, p)) (omega (arith, y, z, q))
      (same_snoc us ns ms u a b p q k (new_same pre r (h NODE pre r rest e) us ns ms k))

  pub same_under : (n : ℕ) → Alike (nodes_under s n) → get_or (trees_from ts value sl [] (lines_of s NODE)) n (err tbool) ≡ get_or (trees_from ts value sm [] (lines_of s NODE)) n (err tbool)
  unfolding nodes_under
  same_under n a = same_from [] (lines_of s NODE) [] [] [] refl refl refl (λ i x. refl) n a

-- ---- slots that fit

module _ (s : State) (p q : ℕ) where
  abbrev pub Fitting : List ℕ → Type 0
  Fitting r = is_slot r ≡ true → fits s (slot_value p q (at r 1)) (at r 0) ≡ true

  pub fit_each : (rs : List (List ℕ)) → slots_fit s p q rs ≡ true → Each Fitting rs
  fit_each [] e = none
  fit_each (r ∷ rs) e = and_both (not (is_slot r) || fits s (slot_value p q (at r 1)) (at r 0)) (slots_fit s p q rs) e (λ a b. more (go (is_slot r) (fits s (slot_value p q (at r 1)) (at r 0)) a) (fit_each rs b))
    where
      go : (x y : Bool) → (not x || y) ≡ true → x ≡ true → y ≡ true
      go true y a c = a
      go false y a c = no_true c

  -- where there is no slot
  pub none_fits : (rs : List (List ℕ)) → any_slot rs ≡ false → slots_fit s p q rs ≡ true
  none_fits [] e = refl
  none_fits (r ∷ rs) e = let (a, b) = neither (is_slot r) (any_slot rs) e in rw (a, none_fits rs b) refl

same_fits : (s u : State) (p q : ℕ) → lines_of u VALUE ≡ lines_of s VALUE → lines_of u TYPE ≡ lines_of s TYPE → (rs : List (List ℕ)) → slots_fit u p q rs ≡ slots_fit s p q rs
same_fits s u p q v t [] = refl
same_fits s u p q v t (r ∷ rs) = λ i. (not (is_slot r) || fits_at i) && same_fits s u p q v t rs i
  where
    fits_at : fits u (slot_value p q (at r 1)) (at r 0) ≡ fits s (slot_value p q (at r 1)) (at r 0)
    fits_at = ap₂ (λ vs ts. fits_in vs ts (slot_value p q (at r 1)) (at r 0)) v t

-- ---- the link of a policy

-- the link line of policy n, or none
find_link : (X : List ℕ → Type 0) (n : ℕ) (ls : List (List ℕ)) → ((pre : List (List ℕ)) (r : List ℕ) (rest : List (List ℕ)) → ls ≡ pre ++ (r ∷ rest) → n ≡ at r 0 → X (at r 1 ∷ at r 2 ∷ []))
    → (mem_n n (firsts ls) ≡ false → X (mark ∷ mark ∷ [])) → X (link_of ls n)
find_link X n [] f g = g refl
find_link X n (r ∷ ls) f g = go (eqb n (at r 0)) refl (λ k. find_link X n ls (λ pre x rest e. f (r ∷ pre) x rest (ap (λ z. r ∷ z) e)) k)
  where
    go : (b : Bool) → eqb n (at r 0) ≡ b → ((mem_n n (firsts ls) ≡ false → X (mark ∷ mark ∷ [])) → X (link_of ls n)) → X (cond b (at r 1 ∷ at r 2 ∷ []) (link_of ls n))
    go true e k = f [] r ls refl (eqb_true n (at r 0) e)
    go false e k = k (λ z. g (rw (e, z) refl))

-- no policy line has a slot and no link line
unlinked_none : (s : State) (n : ℕ) (rs : List (List ℕ)) → ltb (first_unlinked s n rs) (n + length rs) ≡ false
    → (pre : List (List ℕ)) (r : List ℕ) (rest : List (List ℕ)) → rs ≡ pre ++ (r ∷ rest) → (any_slot (nodes_under s (at r 2)) && not (mem_n (n + length pre) (firsts (lines_of s LINK)))) ≡ false
unlinked_none s n [] e pre r rest q = not_empty pre r rest q
unlinked_none s n (x ∷ rs) e pre r rest q = go (any_slot (nodes_under s (at x 2)) && not (mem_n n (firsts (lines_of s LINK)))) refl e pre q (λ e pre q. unlinked_none s (suc n) rs e pre r rest q)
  where
    go : (b : Bool) → (any_slot (nodes_under s (at x 2)) && not (mem_n n (firsts (lines_of s LINK)))) ≡ b → ltb (cond b n (first_unlinked s (suc n) rs)) (n + suc (length rs)) ≡ false
        → (pre : List (List ℕ)) → x ∷ rs ≡ pre ++ (r ∷ rest) → (ltb (first_unlinked s (suc n) rs) (suc n + length rs) ≡ false → (pre : List (List ℕ)) → rs ≡ pre ++ (r ∷ rest) → (any_slot (nodes_under s (at r 2)) && not (mem_n (suc n + length pre) (firsts (lines_of s LINK)))) ≡ false)
        → (any_slot (nodes_under s (at r 2)) && not (mem_n (n + length pre) (firsts (lines_of s LINK)))) ≡ false
    go true b e pre q ih = no_true (sym e ∙ lt-ltb n (n + suc (length rs)) (omega arith))
    go false b e [] q ih = subst (λ z. (any_slot (nodes_under s (at z 2)) && not (mem_n (n + 0) (firsts (lines_of s LINK)))) ≡ false) (cons_head q) (subst (λ i. (any_slot (nodes_under s (at x 2)) && not (mem_n i (firsts (lines_of s LINK)))) ≡ false) (omega arith) b)
    go false b e (y ∷ pre) q ih = subst (λ i. (any_slot (nodes_under s (at r 2)) && not (mem_n i (firsts (lines_of s LINK)))) ≡ false) (omega arith) (ih (subst (λ i. ltb (first_unlinked s (suc n) rs) i ≡ false) (omega arith) e) pre (cons_tail q))

seam : (pre : List (List ℕ)) (r : List ℕ) (rest : List (List ℕ)) → get_or (pre ++ (r ∷ rest)) (length pre) [] ≡ r
seam [] r rest = refl
seam (x ∷ pre) r rest = seam pre r rest

no_slot : (a b : Bool) → b ≡ false → (a && not b) ≡ false → a ≡ false
no_slot true true z e = no_true (sym z)
no_slot true false z e = no_true (sym e)
no_slot false b z e = refl

module _ (m : Mode) (s : State) (h : History m s) (f : Ended s) where
  -- THE LINK OF A POLICY FITS ITS SLOTS
  pub link_fits : (pre : List (List ℕ)) (r : List ℕ) (rest : List (List ℕ)) → lines_of s POLICY ≡ pre ++ (r ∷ rest)
      → slots_fit s (get_or (link_of (lines_of s LINK) (length pre)) 0 0) (get_or (link_of (lines_of s LINK) (length pre)) 1 0) (nodes_under s (at r 2)) ≡ true
  unfolding typed nodes_under
  link_fits pre r rest e = find_link (λ l. slots_fit s (get_or l 0 0) (get_or l 1 0) (nodes_under s (at r 2)) ≡ true) (length pre) (lines_of s LINK) given lacking
    where
      here : line_at s POLICY (length pre) ≡ r
      here = ap (λ z. get_or z (length pre) []) e ∙ seam pre r rest

      given : (before : List (List ℕ)) (l : List ℕ) (after : List (List ℕ)) → lines_of s LINK ≡ before ++ (l ∷ after) → length pre ≡ at l 0 → slots_fit s (at l 1) (at l 2) (nodes_under s (at r 2)) ≡ true
      given before l after g n =
          let w = h LINK before l after g in
          let a : slots_fit s (at l 1) (at l 2) (nodes_of w.was (at l 0)) ≡ true = sym (same_fits s w.was (at l 1) (at l 2) (w.earlier VALUE (omega arith)) (w.earlier TYPE (omega arith)) (nodes_of w.was (at l 0))) ∙ w.pass.types in
          let b : nodes_of w.was (at l 0) ≡ nodes_of s (at l 0) = ap₂ (λ ns ps. get_or (under_from [] ns) (at (get_or ps (at l 0) []) 2) []) (w.earlier NODE (omega arith)) (w.earlier POLICY (omega arith)) in
          let c : nodes_of s (at l 0) ≡ nodes_under s (at r 2) = ap (nodes_of s) (sym n) ∙ ap (λ z. nodes_under s (at z 2)) here in
          subst (λ z. slots_fit s (at l 1) (at l 2) z ≡ true) (b ∙ c) a

      lacking : mem_n (length pre) (firsts (lines_of s LINK)) ≡ false → slots_fit s mark mark (nodes_under s (at r 2)) ≡ true
      lacking z =
          let a = unlinked_none s 0 (lines_of s POLICY) (subst (λ i. ltb (first_unlinked s 0 (lines_of s POLICY)) i ≡ false) (omega arith) f.linked) pre r rest e in
          none_fits s mark mark (nodes_under s (at r 2)) (no_slot (any_slot (nodes_under s (at r 2))) (mem_n (length pre) (firsts (lines_of s LINK))) z (subst (λ i. (any_slot (nodes_under s (at r 2)) && not (mem_n i (firsts (lines_of s LINK)))) ≡ false) (omega arith) a))

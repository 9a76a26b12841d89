-- A run of 64 levels sees every tree of an accepted sheet whole: "a tree is never deeper than 64". Assumes nothing.
use mathlib.Core.Path.{◌≡◌, refl, sym, ◌∙◌, ap, ap₂, subst}
use mathlib.Core.Bool.{true}
use mathlib.Core.List.{List, [], ◌∷◌, ◌++◌, append_assoc}
use Prim.Native.Nat.{ℕ, zero, suc, ◌+◌, ◌-◌, ◌≤◌, ◌<◌}
use native.Mathlib.Omega.{arith}
use native.Mathlib.Decide.{dec_lt}
use lib.ListN.{length, get_or, drop, length-append, get_or-append}
use Rattle.cedar.specs.Types.{Ty, tbool}
use Rattle.cedar.specs.Residual.{Node, Nodes, NodeArgs, econs, gcons, err, and, or, ite, un, bin, rel, get, has, haspath, set, rec, unot, uneg, uempty, uis, ulike, beq, blt, ble, badd, bsub, bmul, bcontains, ball, bany, rin, rgettag, rhastag}
use Rattle.cedar.specs.Runs.{NPolicy}
use Rattle.cedar.proofs.TableLaws.{InN, now'}
use Rattle.sheet.specs.Forms.{Mode, forms, form_of, slot_at, is_line, refs_from, refs, tag, items, at, key_of, first_node, no_tag, NODE, POLICY}
use Rattle.forms.specs.Tags.{AND, OR, EQ, LT, LE, ADD, SUB, MUL, IN, GETTAG, HASTAG, CONTAINS, ALL, ANY, IF, IS, LIKE, GET, HAS, HASPATH, NOT, NEG, EMPTY, SET_OF, RECORD_OF, SLOT, POLICY_LINE}
use Rattle.sheet.specs.State.{State, lines_of, count, depths_of}
use Rattle.sheet.specs.Content.{types, pattern_of, children_over, args_over, tree_over, trees_from, trees, linked, effect_of, numbered_policies, n_policies, on_term}
use Rattle.sheet.proofs.reading.Lines.{History}
use Rattle.sheet.proofs.reading.Parsed.{tags_between}
use Rattle.sheet.proofs.reading.NodeRows.{row_read}
use Rattle.sheet.proofs.content.PoliciesRead.{node_tags, policy_tags, all_there_law}
use Rattle.sheet.proofs.running.Uses.{refs_below}
use Rattle.sheet.proofs.reading.Depths.{Deep, in_below}
use Rattle.sheet.proofs.reading.Shallow.{in_keep, this_kept}
use Rattle.sheet.proofs.reading.Slots.{set_slot, field_slot}
use Rattle.sheet.proofs.content.OnTerm as T
use Rattle.sheet.proofs.content.OnTerm.{Each, on_term_law}
use Rattle.evaluator.proofs.Many.{kids_with, args_with}
use Rattle.evaluator.proofs.Evaluates.{trees_of, trees_with, tree_with, tree_at, policies_at}

-- ---- trees of a row over t and over u, which agree at its references; sl is what stands for a slot

module _ (sl : Ty → ℕ → Node ℕ) (t u : ℕ → Node ℕ) where
  abbrev Agree : List ℕ → Type 0
  Agree l = (y : ℕ) → InN y l → t y ≡ u y

  one : (g : ℕ) (l : List ℕ) → 2 ≤ length l → is_line NODE (slot_at g 1) ≡ true → Agree (refs_from NODE g 0 l) → t (get_or l 1 0) ≡ u (get_or l 1 0)
  one g [] c p h = absurd (omega arith)
  one g (x ∷ []) c p h = absurd (omega arith)
  one g (x ∷ y ∷ l) c p h = h y (in_keep (is_line NODE (slot_at g 0)) x y (refs_from NODE g 1 (y ∷ l)) (this_kept (is_line NODE (slot_at g 1)) y (refs_from NODE g 2 l) p))

  two : (g : ℕ) (l : List ℕ) → 3 ≤ length l → is_line NODE (slot_at g 1) ≡ true → is_line NODE (slot_at g 2) ≡ true → Agree (refs_from NODE g 0 l) → (t (get_or l 1 0) ≡ u (get_or l 1 0)) × (t (get_or l 2 0) ≡ u (get_or l 2 0))
  two g [] c p q h = absurd (omega arith)
  two g (x ∷ []) c p q h = absurd (omega arith)
  two g (x ∷ y ∷ []) c p q h = absurd (omega arith)
  two g (x ∷ y ∷ z ∷ l) c p q h = (
    one g (x ∷ y ∷ z ∷ l) (omega arith) p h,
    h z (in_keep (is_line NODE (slot_at g 0)) x z (refs_from NODE g 1 (y ∷ z ∷ l)) (in_keep (is_line NODE (slot_at g 1)) y z (refs_from NODE g 2 (z ∷ l)) (this_kept (is_line NODE (slot_at g 2)) z (refs_from NODE g 3 l) q))),
  )

  three : (g : ℕ) (l : List ℕ) → 4 ≤ length l → is_line NODE (slot_at g 1) ≡ true → is_line NODE (slot_at g 2) ≡ true → is_line NODE (slot_at g 3) ≡ true → Agree (refs_from NODE g 0 l)
      → (t (get_or l 1 0) ≡ u (get_or l 1 0)) × (t (get_or l 2 0) ≡ u (get_or l 2 0)) × (t (get_or l 3 0) ≡ u (get_or l 3 0))
  three g [] c p q r h = absurd (omega arith)
  three g (x ∷ []) c p q r h = absurd (omega arith)
  three g (x ∷ y ∷ []) c p q r h = absurd (omega arith)
  three g (x ∷ y ∷ z ∷ []) c p q r h = absurd (omega arith)
  three g (x ∷ y ∷ z ∷ w ∷ l) c p q r h = let (a, b) = two g (x ∷ y ∷ z ∷ w ∷ l) (omega arith) p q h in (
    a,
    b,
    h w (in_keep (is_line NODE (slot_at g 0)) x w (refs_from NODE g 1 (y ∷ z ∷ w ∷ l)) (in_keep (is_line NODE (slot_at g 1)) y w (refs_from NODE g 2 (z ∷ w ∷ l))
        (in_keep (is_line NODE (slot_at g 2)) z w (refs_from NODE g 3 (w ∷ l)) (this_kept (is_line NODE (slot_at g 3)) w (refs_from NODE g 4 l) r)))),
  )

  kids_same : (j : ℕ) (l : List ℕ) → Agree (refs_from NODE SET_OF (suc j) l) → kids_with t l ≡ kids_with u l
  kids_same j [] h = refl
  kids_same j (n ∷ l) h = ap₂ econs (h n (this_kept (is_line NODE (slot_at SET_OF (suc j))) n (refs_from NODE SET_OF (suc (suc j)) l) (ap (is_line NODE) (set_slot j))))
      (kids_same (suc j) l (λ y i. h y (in_keep (is_line NODE (slot_at SET_OF (suc j))) n y (refs_from NODE SET_OF (suc (suc j)) l) i)))

  args_same : (i : ℕ) (l : List ℕ) → Agree (refs_from NODE RECORD_OF (suc (i + i)) l) → args_with t l ≡ args_with u l
  args_same i [] h = refl
  args_same i (x ∷ []) h = refl
  args_same i (x ∷ n ∷ l) h =
      let e : refs_from NODE RECORD_OF (suc (suc i + suc i)) l ≡ refs_from NODE RECORD_OF (suc (suc (suc (i + i)))) l = ap (λ j. refs_from NODE RECORD_OF j l) (omega arith) in
      ap₂ (gcons x)
      (h n (in_keep (is_line NODE (slot_at RECORD_OF (suc (i + i)))) x n (refs_from NODE RECORD_OF (suc (suc (i + i))) (n ∷ l)) (this_kept (is_line NODE (slot_at RECORD_OF (suc (suc (i + i))))) n (refs_from NODE RECORD_OF (suc (suc (suc (i + i)))) l) (ap (is_line NODE) (field_slot i)))))
      (args_same (suc i) l (λ y k. h y (in_keep (is_line NODE (slot_at RECORD_OF (suc (i + i)))) x y (refs_from NODE RECORD_OF (suc (suc (i + i))) (n ∷ l))
      (in_keep (is_line NODE (slot_at RECORD_OF (suc (suc (i + i))))) n y (refs_from NODE RECORD_OF (suc (suc (suc (i + i)))) l) (subst (InN y) e k)))))

  set_same : (l : List ℕ) → Agree (refs_from NODE SET_OF 0 l) → kids_with t (drop 1 l) ≡ kids_with u (drop 1 l)
  set_same [] h = refl
  set_same (x ∷ l) h = kids_same 0 l (λ y i. h y (in_keep (is_line NODE (slot_at SET_OF 0)) x y (refs_from NODE SET_OF 1 l) i))

  record_same : (l : List ℕ) → Agree (refs_from NODE RECORD_OF 0 l) → args_with t (drop 1 l) ≡ args_with u (drop 1 l)
  record_same [] h = refl
  record_same (x ∷ l) h = args_same 0 l (λ y i. h y (in_keep (is_line NODE (slot_at RECORD_OF 0)) x y (refs_from NODE RECORD_OF 1 l) i))

  Same : ℕ → Type 0
  Same g = (l : List ℕ) → length (form_of g).items ≤ length l → (T : Ty) → Agree (refs_from NODE g 0 l) → get_or (trees_with sl t (g ∷ l) T) (g - first_node) (err tbool) ≡ get_or (trees_with sl u (g ∷ l) T) (g - first_node) (err tbool)

  rule_for : (d : ℕ) → first_node + d ≤ SLOT → Same (first_node + d)
  unfolding Same slot_at form_of forms
  rule_for zero b l c T h = refl
  rule_for (suc zero) b l c T h = refl
  rule_for (suc (suc zero)) b l c T h = refl
  rule_for (suc (suc (suc zero))) b l c T h = let (p, q) = two AND l c refl refl h in ap₂ (and T) p q
  rule_for (suc (suc (suc (suc zero)))) b l c T h = let (p, q) = two OR l c refl refl h in ap₂ (or T) p q
  rule_for (suc (suc (suc (suc (suc zero))))) b l c T h = let (p, q) = two EQ l c refl refl h in ap₂ (bin T beq) p q
  rule_for (suc (suc (suc (suc (suc (suc zero)))))) b l c T h = let (p, q) = two LT l c refl refl h in ap₂ (bin T blt) p q
  rule_for (suc (suc (suc (suc (suc (suc (suc zero))))))) b l c T h = let (p, q) = two LE l c refl refl h in ap₂ (bin T ble) p q
  rule_for (suc (suc (suc (suc (suc (suc (suc (suc zero)))))))) b l c T h = let (p, q) = two ADD l c refl refl h in ap₂ (bin T badd) p q
  rule_for (suc (suc (suc (suc (suc (suc (suc (suc (suc zero))))))))) b l c T h = let (p, q) = two SUB l c refl refl h in ap₂ (bin T bsub) p q
  rule_for (suc (suc (suc (suc (suc (suc (suc (suc (suc (suc zero)))))))))) b l c T h = let (p, q) = two MUL l c refl refl h in ap₂ (bin T bmul) p q
  rule_for (suc (suc (suc (suc (suc (suc (suc (suc (suc (suc (suc zero))))))))))) b l c T h = let (p, q) = two IN l c refl refl h in ap₂ (rel T rin) p q
  rule_for (suc (suc (suc (suc (suc (suc (suc (suc (suc (suc (suc (suc zero)))))))))))) b l c T h = let (p, q) = two GETTAG l c refl refl h in ap₂ (rel T rgettag) p q
  rule_for (suc (suc (suc (suc (suc (suc (suc (suc (suc (suc (suc (suc (suc zero))))))))))))) b l c T h = let (p, q) = two HASTAG l c refl refl h in ap₂ (rel T rhastag) p q
  rule_for (suc (suc (suc (suc (suc (suc (suc (suc (suc (suc (suc (suc (suc (suc zero)))))))))))))) b l c T h = let (p, q) = two CONTAINS l c refl refl h in ap₂ (bin T bcontains) p q
  rule_for (suc (suc (suc (suc (suc (suc (suc (suc (suc (suc (suc (suc (suc (suc (suc zero))))))))))))))) b l c T h = let (p, q) = two ALL l c refl refl h in ap₂ (bin T ball) p q
  rule_for (suc (suc (suc (suc (suc (suc (suc (suc (suc (suc (suc (suc (suc (suc (suc (suc zero)))))))))))))))) b l c T h = let (p, q) = two ANY l c refl refl h in ap₂ (bin T bany) p q
  rule_for (suc (suc (suc (suc (suc (suc (suc (suc (suc (suc (suc (suc (suc (suc (suc (suc (suc zero))))))))))))))))) b l c T h = let (p, q, z) = three IF l c refl refl refl h in λ j. ite T (p j) (q j) (z j)
  rule_for (suc (suc (suc (suc (suc (suc (suc (suc (suc (suc (suc (suc (suc (suc (suc (suc (suc (suc zero)))))))))))))))))) b l c T h = ap (un T (uis (get_or l 2 0))) (one IS l (omega arith) refl h)
  rule_for (suc (suc (suc (suc (suc (suc (suc (suc (suc (suc (suc (suc (suc (suc (suc (suc (suc (suc (suc zero))))))))))))))))))) b l c T h = ap (un T (ulike (pattern_of (drop 2 l)))) (one LIKE l c refl h)
  rule_for (suc (suc (suc (suc (suc (suc (suc (suc (suc (suc (suc (suc (suc (suc (suc (suc (suc (suc (suc (suc zero)))))))))))))))))))) b l c T h = ap (λ (x : Node ℕ). get T x (get_or l 2 0)) (one GET l (omega arith) refl h)
  rule_for (suc (suc (suc (suc (suc (suc (suc (suc (suc (suc (suc (suc (suc (suc (suc (suc (suc (suc (suc (suc (suc zero))))))))))))))))))))) b l c T h = ap (λ (x : Node ℕ). has T x (get_or l 2 0)) (one HAS l (omega arith) refl h)
  rule_for (suc (suc (suc (suc (suc (suc (suc (suc (suc (suc (suc (suc (suc (suc (suc (suc (suc (suc (suc (suc (suc (suc zero)))))))))))))))))))))) b l c T h = ap (λ (x : Node ℕ). haspath T x (get_or l 2 0) (drop 3 l)) (one HASPATH l (omega arith) refl h)
  rule_for (suc (suc (suc (suc (suc (suc (suc (suc (suc (suc (suc (suc (suc (suc (suc (suc (suc (suc (suc (suc (suc (suc (suc zero))))))))))))))))))))))) b l c T h = ap (un T unot) (one NOT l c refl h)
  rule_for (suc (suc (suc (suc (suc (suc (suc (suc (suc (suc (suc (suc (suc (suc (suc (suc (suc (suc (suc (suc (suc (suc (suc (suc zero)))))))))))))))))))))))) b l c T h = ap (un T uneg) (one NEG l c refl h)
  rule_for (suc (suc (suc (suc (suc (suc (suc (suc (suc (suc (suc (suc (suc (suc (suc (suc (suc (suc (suc (suc (suc (suc (suc (suc (suc zero))))))))))))))))))))))))) b l c T h = ap (un T uempty) (one EMPTY l c refl h)
  rule_for (suc (suc (suc (suc (suc (suc (suc (suc (suc (suc (suc (suc (suc (suc (suc (suc (suc (suc (suc (suc (suc (suc (suc (suc (suc (suc zero)))))))))))))))))))))))))) b l c T h = ap (set T) (set_same l h)
  rule_for (suc (suc (suc (suc (suc (suc (suc (suc (suc (suc (suc (suc (suc (suc (suc (suc (suc (suc (suc (suc (suc (suc (suc (suc (suc (suc (suc zero))))))))))))))))))))))))))) b l c T h = ap (rec T) (record_same l h)
  rule_for (suc (suc (suc (suc (suc (suc (suc (suc (suc (suc (suc (suc (suc (suc (suc (suc (suc (suc (suc (suc (suc (suc (suc (suc (suc (suc (suc (suc zero)))))))))))))))))))))))))))) b l c T h = refl
  rule_for (suc (suc (suc (suc (suc (suc (suc (suc (suc (suc (suc (suc (suc (suc (suc (suc (suc (suc (suc (suc (suc (suc (suc (suc (suc (suc (suc (suc (suc d))))))))))))))))))))))))))))) b l c T h = absurd (omega arith)

  pub tree_same : (ts : List Ty) (g : ℕ) (l : List ℕ) → first_node ≤ g → g ≤ SLOT → length (form_of g).items ≤ length l → Agree (refs_from NODE g 0 l) → tree_with ts sl t (g ∷ l) ≡ tree_with ts sl u (g ∷ l)
  unfolding Same
  tree_same ts g l lo hi c h =
      let rule : Same g = subst Same (omega (arith, lo)) (rule_for (g - first_node) (omega (arith, lo, hi))) in
      rule l c (get_or ts (get_or l 0 0) tbool) h

-- ---- the trees read line by line

module _ (ts : List Ty) (sl : Ty → ℕ → Node ℕ) (ns : List (Node ℕ)) where
  kids_over : (l : List ℕ) → kids_with (λ x. get_or ns x (err tbool)) l ≡ children_over ts (λ n. n) ns l
  kids_over [] = refl
  kids_over (n ∷ l) = ap (econs (get_or ns n (err tbool))) (kids_over l)

  args_over_law : (l : List ℕ) → args_with (λ x. get_or ns x (err tbool)) l ≡ args_over ts (λ n. n) ns l
  args_over_law [] = refl
  args_over_law (x ∷ []) = refl
  args_over_law (x ∷ n ∷ l) = ap (gcons x (get_or ns n (err tbool))) (args_over_law l)

  tree_over_law : (r : List ℕ) → tree_with ts sl (λ x. get_or ns x (err tbool)) r ≡ tree_over ts (λ n. n) sl ns r
  tree_over_law r = ap₂ (λ (ks : Nodes ℕ) (gs : NodeArgs ℕ). get_or (trees_of sl (λ x. get_or ns x (err tbool)) r (get_or ts (at r 0) tbool) ks gs) (tag r - first_node) (err tbool)) (kids_over (drop 1 (items r))) (args_over_law (drop 1 (items r)))

get_d_end : {A : Type 0} (l : List A) (a d : A) (rest : List A) → get_or (l ++ (a ∷ rest)) (length l) d ≡ a
get_d_end [] a d rest = refl
get_d_end (x ∷ l) a d rest = get_d_end l a d rest

module _ (m : Mode) (s : State) (h : History m s) (dp : Deep NODE (lines_of s NODE) (depths_of s NODE)) where
  abbrev rows : List (List ℕ)
  rows = lines_of s NODE

  abbrev depth_of : ℕ → ℕ
  depth_of n = get_or (depths_of s NODE) n 0

  -- a row's references are above it and less deep
  parts : (pre rest : List (List ℕ)) (r : List ℕ) → rows ≡ pre ++ (r ∷ rest) → (y : ℕ) → InN y (refs NODE r) → (y < length pre) × (depth_of y < depth_of (length pre))
  unfolding refs
  parts pre rest r e y i =
      let w = h NODE pre r rest e in
      let z : count w.was NODE ≡ length pre = ap length w.mine in
      let a = in_below (count w.was NODE) (refs NODE r) y (refs_below w.was NODE (tag r) 0 (items r) (all_there_law w.was NODE r w.pass.refers)) i in
      let q : get_or rows (length pre) [] ≡ r = ap (λ (l : List (List ℕ)). get_or l (length pre) []) e ∙ get_d_end pre r [] rest in
      let b = (dp.falls (length pre) y (subst (λ (l : List ℕ). InN y (refs NODE l)) (sym q) i)).1 in
      (omega (arith, a, z), b)

  -- what stands for a slot
  module _ (sl : Ty → ℕ → Node ℕ) where
    abbrev Claim : List (Node ℕ) → ℕ → Type 0
    Claim ns n = (d : ℕ) → depth_of n ≤ d → tree_at (types s) sl rows d n ≡ get_or ns n (err tbool)

    row_same : (pre rest : List (List ℕ)) (r : List ℕ) (e : rows ≡ pre ++ (r ∷ rest)) (t u : ℕ → Node ℕ) → ((y : ℕ) → InN y (refs NODE r) → t y ≡ u y) → tree_with (types s) sl t r ≡ tree_with (types s) sl u r
    unfolding key_of refs
    row_same pre rest [] e t u f = let (lo, hi) = tags_between NODE first_node SLOT no_tag (omega arith) node_tags (h NODE pre [] rest e).key in absurd (omega (arith, hi))
    row_same pre rest (g ∷ l) e t u f =
        let w = h NODE pre (g ∷ l) rest e in
        let (lo, hi) = tags_between NODE first_node SLOT g (omega arith) node_tags w.key in
        let rd = row_read m (g ∷ l) w.line g w.row refl (omega (arith, lo)) (omega (arith, hi)) (λ z. absurd (omega (arith, z, lo))) in
        tree_same sl t u (types s) g l lo hi rd.least f

    new_claim : (pre rest : List (List ℕ)) (r : List ℕ) → rows ≡ pre ++ (r ∷ rest) → (ns : List (Node ℕ)) → ((n : ℕ) → n < length pre → Claim ns n) → (d : ℕ) → depth_of (length pre) ≤ d
        → tree_at (types s) sl rows d (length pre) ≡ tree_over (types s) (λ n. n) sl ns r
    unfolding tree_at
    new_claim pre rest r e ns k zero c =
        let z = ap length e in
        let y = length-append pre (r ∷ rest) in
        let a = dp.least (length pre) (omega (arith, z, y)) in
        absurd (omega (arith, a, c))
    new_claim pre rest r e ns k (suc d) c =
        let q : get_or rows (length pre) [] ≡ r = ap (λ (l : List (List ℕ)). get_or l (length pre) []) e ∙ get_d_end pre r [] rest in
        ap (tree_with (types s) sl (tree_at (types s) sl rows d)) q
        ∙ row_same pre rest r e (tree_at (types s) sl rows d) (λ x. get_or ns x (err tbool)) (λ y i. let (a, b) = parts pre rest r e y i in k y a d (omega (arith, b, c)))
        ∙ tree_over_law (types s) sl ns r

    claims_from : (pre rest : List (List ℕ)) (ns : List (Node ℕ)) → rows ≡ pre ++ rest → length ns ≡ length pre → ((n : ℕ) → n < length pre → Claim ns n) → (n : ℕ) → n < length rows → Claim (trees_from (types s) (λ n. n) sl ns rest) n
    claims_from pre [] ns e q k n lt = let z = ap length e in let y = length-append pre [] in k n (omega (arith, z, y, lt))
    claims_from pre (r ∷ rest) ns e q k n lt =
        let a : Node ℕ = tree_over (types s) (λ n. n) sl ns r in
        let x = length-append ns (a ∷ []) in
        let y = length-append pre (r ∷ []) in
        claims_from (pre ++ (r ∷ [])) rest (ns ++ (a ∷ [])) (e ∙ sym (append_assoc pre (r ∷ []) rest)) (omega (arith, x, y, q)) (λ j c. more j (dec_lt j (length pre)) (omega (arith, y, c))) n lt
      where
        more : (j : ℕ) → Dec (j < length pre) → j ≤ length pre → Claim (ns ++ (tree_over (types s) (λ n. n) sl ns r ∷ [])) j
        more j (yes c) b = λ d z. k j c d z ∙ sym (get_or-append ns (tree_over (types s) (λ n. n) sl ns r ∷ []) (err tbool) j (omega (arith, c, q)))
        more j (no c) b =
            let p : length ns ≡ j = omega (arith, q) in
            let o : length pre ≡ j = omega arith in
            subst (Claim (ns ++ (tree_over (types s) (λ n. n) sl ns r ∷ []))) o
            (λ d z. new_claim pre rest r e ns k d z ∙ sym (get_d_end ns (tree_over (types s) (λ n. n) sl ns r) (err tbool) []) ∙ ap (λ (i : ℕ). get_or (ns ++ (tree_over (types s) (λ n. n) sl ns r ∷ [])) i (err tbool)) q)

    pub whole_tree : (n : ℕ) → n < length rows → tree_at (types s) sl rows 64 n ≡ get_or (trees_from (types s) (λ n. n) sl [] rows) n (err tbool)
    whole_tree n lt = claims_from [] rows [] refl refl (λ j c. absurd (omega arith)) n lt 64 (dp.low n)

  -- ---- the policies

  last_in : (l : List ℕ) → 3 ≤ length l → InN (get_or l 2 0) (refs_from NODE POLICY_LINE 0 l)
  unfolding slot_at form_of forms
  last_in [] c = absurd (omega arith)
  last_in (x ∷ []) c = absurd (omega arith)
  last_in (x ∷ y ∷ []) c = absurd (omega arith)
  last_in (x ∷ y ∷ z ∷ l) c = now'

  root_there : (pre rest : List (List ℕ)) (r : List ℕ) → lines_of s POLICY ≡ pre ++ (r ∷ rest) → at r 2 < length rows
  unfolding key_of refs form_of forms
  root_there pre rest [] e = let (lo, hi) = tags_between POLICY POLICY_LINE POLICY_LINE no_tag (omega arith) policy_tags (h POLICY pre [] rest e).key in absurd (omega (arith, hi))
  root_there pre rest (g ∷ l) e =
      let w = h POLICY pre (g ∷ l) rest e in
      let (lo, hi) = tags_between POLICY POLICY_LINE POLICY_LINE g (omega arith) policy_tags w.key in
      let q : POLICY_LINE ≡ g = omega (arith, lo, hi) in
      let rd = row_read m (g ∷ l) w.line POLICY_LINE w.row (sym q) (omega arith) (omega arith) (λ z. absurd (omega (arith, z))) in
      let z : count w.was NODE ≡ length rows = ap length (w.earlier NODE (omega arith)) in
      let i : InN (get_or l 2 0) (refs_from NODE g 0 l) = subst (λ (k : ℕ). InN (get_or l 2 0) (refs_from NODE k 0 l)) q (last_in l rd.least) in
      let a = in_below (count w.was NODE) (refs_from NODE g 0 l) (get_or l 2 0) (refs_below w.was NODE g 0 l (all_there_law w.was POLICY (g ∷ l) w.pass.refers)) i in
      omega (arith, a, z)

  policies_each : {rs : List (List ℕ)} → Each (λ r. at r 2 < length rows) rs → policies_at (types s) rows rs ≡ numbered_policies (trees s) rs
  unfolding trees
  policies_each T.none = refl
  policies_each (T.more {r = r} lt lts) = ap₂ (λ (t : Node ℕ) (ps : List NPolicy). record { effect = effect_of (at r 1); tree = t } ∷ ps) (whole_tree (linked (λ n. n) (at r 3) (at r 4)) (at r 2) lt) (policies_each lts)

  pub policies_whole : policies_at (types s) rows (on_term s) ≡ n_policies s
  unfolding n_policies
  policies_whole = policies_each (on_term_law (λ r. at r 2 < length rows) s (λ pre r rest e. root_there pre rest r e))

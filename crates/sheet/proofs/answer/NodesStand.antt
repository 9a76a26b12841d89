-- THE MADE VALUES AND RESIDUAL NODES OF A RUN STAND: what they refer to is there, the texts, kinds, types and values of the sheet, the values made before, the nodes before.
use mathlib.Core.Path.{◌≡◌, refl, ◌∙◌, ap, subst}
use mathlib.Core.Bool.{Bool, true, cond, ◌&&◌}
use mathlib.Core.Option.{none, some}
use mathlib.Core.List.{List, [], ◌∷◌, ◌++◌}
use Prim.Native.Nat.{ℕ, suc, ◌<◌, ◌≤◌, ◌+◌}
use native.Mathlib.Omega.{arith}
use borrow.Author.Tests.{lt-ltb}
use lib.Dec.{ltb, eqb}
use lib.ListN.{length, get_elem?}
use Rattle.cedar.proofs.Tools.{both, and_both, or_right}
use Rattle.cedar.specs.Value.{Value, Values, Fields}
use Rattle.cedar.specs.Types.{Ty, Schema}
use Rattle.cedar.specs.Entities.{PEnv}
use Rattle.cedar.specs.Residual.{Item, star, piece, Node, Nodes, NodeArgs, Expr, Exprs, Args, lit, err, var, and, or, ite, un, bin, rel, get, has, haspath, set, rec, enil, econs, gnil, gcons, Un, unot, uneg, uempty, uis, ulike, Bin, beq, blt, ble, badd, bsub, bmul, bcontains, ball, bany, Rel, rin, rgettag, rhastag}
use Rattle.cedar.specs.Rows.{Entries, stop, entry, Row, rbool, rlong, rtext, rent, rset, rrec}
use Rattle.cedar.specs.Table.{Elems, elem0, elem1, Named, name0, name1, Denotes, dbool, dlong, dtext, dent, dset, drec, Table, start, grow}
use Rattle.cedar.specs.Numbered.{NEnv}
use Rattle.cedar.specs.Reads.{Reads, xlit, xerr, xvar, xand, xor, xite, xun, xbin, xrel, xget, xhas, xpath, xset, xrec, ReadsAll, xnil, xcons, ReadsArgs, xstop, xarg}
use Rattle.cedar.specs.Runs.{Policy, NVerdict}
use Rattle.cedar.proofs.TypesKept.{AllHold, ArgsHold}
use Rattle.cedar.proofs.TableLaws.{same_length}
use Rattle.cedar.proofs.SettledByNumber.{Residuals}
use Rattle.sheet.specs.Forms.{forms, form_of, slot_at, tag_of, mark, TEXT, KIND, TYPE}
use Rattle.sheet.specs.State.{State}
use Rattle.sheet.specs.Typing.{all_in, all_entries}
use Rattle.sheet.specs.Content.{types, trees_from}
use Rattle.sheet.specs.Answer.{size, sizes, size_args, root, roots, arg_roots, op, pattern_items, un_tag, un_items, bin_tag, rel_tag, type_number, tree_rows, all_rows, arg_rows, residual_rows}
use Rattle.sheet.specs.Sheet.{there_of, all_there_of}
use Rattle.sheet.specs.ReadAnswer.{PolicyLine, Said, value_stands, values_stand, lines_for, node_stands, nodes_stand, all_stand, tree_under}
use Rattle.sheet.proofs.content.Fitting.{at_less}
use Rattle.sheet.proofs.reading.Slots.{like_slot, path_slot, set_slot, name_slot, field_slot}
use Rattle.sheet.proofs.content.TypeNumbers.{Listed, TypesIn, LinesIn}
use Rattle.sheet.proofs.answer.TreesBack.{SmallPattern, SmallUn, SmallTexts, Small, SmallAll, SmallArgs}
use Rattle.sheet.proofs.running.LeftOver.{Any, SmallNames, MadeOk, AllMade}
use Rattle.cedar.proofs.SettledByNumber as R

-- ---- made values

-- the values that a row holds are among the n before it
abbrev Holds : ℕ → Row → Type 0
Holds n (rbool b) = Unit {0}
Holds n (rlong x) = Unit {0}
Holds n (rtext t) = Unit {0}
Holds n (rent k t) = Unit {0}
Holds n (rset l) = all_in (λ x. ltb x n) l ≡ true
Holds n (rrec e) = all_entries (λ t x. ltb x n) e ≡ true

abbrev AllHeld : ℕ → List Row → Type 0
AllHeld n [] = Unit {0}
AllHeld n (r ∷ rs) = Holds n r × AllHeld (suc n) rs

elems_held : {C : List Value} {l : List ℕ} {vs : Values} → Elems C l vs → all_in (λ x. ltb x (length C)) l ≡ true
elems_held elem0 = refl
elems_held {C = C} (elem1 {n = n} a e) = both (lt-ltb n (length C) (at_less a)) (elems_held e)

named_held : {C : List Value} {e : Entries} {fs : Fields} → Named C e fs → all_entries (λ t x. ltb x (length C)) e ≡ true
named_held name0 = refl
named_held {C = C} (name1 {n = n} a e) = both (lt-ltb n (length C) (at_less a)) (named_held e)

held : {C : List Value} {r : Row} {v : Value} → Denotes C r v → Holds (length C) r
held dbool = tt
held dlong = tt
held dtext = tt
held dent = tt
held (dset a e q) = elems_held e
held (drec e) = named_held e

held_snoc : (n : ℕ) (T : List Row) (r : Row) → AllHeld n T → Holds (n + length T) r → AllHeld n (T ++ (r ∷ []))
held_snoc n [] r g h = let z : n + 0 ≡ n = omega arith in (subst (λ k. Holds k r) z h, tt)
held_snoc n (x ∷ T) r g h = let z : n + suc (length T) ≡ suc n + length T = omega arith in (g.0, held_snoc (suc n) T r g.1 (subst (λ k. Holds k r) z h))

table_held : {T : List Row} {C : List Value} → Table T C → AllHeld 0 T
table_held start = tt
table_held (grow {T = T} {C = C} {r = r} t d h) = let y = same_length t in let z : length C ≡ 0 + length T = omega (arith, y) in held_snoc 0 T r (table_held t) (subst (λ k. Holds k r) z (held d))

held_after : (n : ℕ) (T more : List Row) → AllHeld n (T ++ more) → AllHeld (n + length T) more
held_after n [] more h = let z : n ≡ n + 0 = omega arith in subst (λ k. AllHeld k more) z h
held_after n (r ∷ T) more h = let z : suc n + length T ≡ n + suc (length T) = omega arith in subst (λ k. AllHeld k more) z (held_after (suc n) T more h.1)

-- and its texts and kinds are among the sheet's
module _ (K : ℕ → ℕ) where
  entries_stand : (n : ℕ) (e : Entries) → all_entries (λ t x. ltb x n) e ≡ true → SmallNames (λ k x. x < K k) e → all_entries (λ t x. ltb t (K TEXT) && ltb x n) e ≡ true
  entries_stand n stop g h = refl
  entries_stand n (entry t x e) g h = and_both (ltb x n) (all_entries (λ t x. ltb x n) e) g (λ p q. both (both (lt-ltb t (K TEXT) h.0) p) (entries_stand n e q h.1))

  value_stands_law : (n : ℕ) (r : Row) → Holds n r → MadeOk (λ k x. x < K k) r → value_stands (lines_for K n 0) r ≡ true
  value_stands_law n (rbool b) g h = refl
  value_stands_law n (rlong x) g h = refl
  value_stands_law n (rtext t) g h = lt-ltb t (K TEXT) h
  value_stands_law n (rent k t) g h = both (lt-ltb k (K KIND) h.0) (lt-ltb t (K TEXT) h.1)
  value_stands_law n (rset l) g h = g
  value_stands_law n (rrec e) g h = entries_stand n e g h

  values_stand_law : (n : ℕ) (rs : List Row) → AllHeld n rs → AllMade (λ k x. x < K k) rs → values_stand K n rs ≡ true
  values_stand_law n [] g h = refl
  values_stand_law n (r ∷ rs) g h = both (value_stands_law n r g.0 h.0) (values_stand_law (suc n) rs g.1 h.1)

  -- of a table, the rows after the first ones
  pub made_stand : {C : List Value} (T more : List Row) → Table (T ++ more) C → AllMade (λ k x. x < K k) more → values_stand K (length T) more ≡ true
  made_stand T more t h = let z : 0 + length T ≡ length T = omega arith in values_stand_law (length T) more (subst (λ k. AllHeld k more) z (held_after 0 T more (table_held t))) h

-- a tree's root stands before n, as there is a node in each tree
size_some : {L : Type 0} (e : Node L) → 0 < size e
size_some (lit T v) = omega arith
size_some (err T) = omega arith
size_some (var T x) = omega arith
size_some (and T a b) = omega arith
size_some (or T a b) = omega arith
size_some (ite T c a b) = omega arith
size_some (un T u a) = omega arith
size_some (bin T o a b) = omega arith
size_some (rel T o a b) = omega arith
size_some (get T a t) = omega arith
size_some (has T a t) = omega arith
size_some (haspath T a t ts) = omega arith
size_some (set T es) = omega arith
size_some (rec T gs) = omega arith

root_under : (n m : ℕ) (e : Node ℕ) → n + size e ≤ m → ltb (root n e) m ≡ true
root_under n m e h = let z = size_some e in lt-ltb (root n e) m (omega (arith, z, h))

-- ---- items that repeat

-- so many lines of each key on the sheet, of values with the made ones
module _ (K : ℕ → ℕ) (W : ℕ) where
  -- the numbers of texts and kinds are below the sheet's
  abbrev Under : ℕ → ℕ → Type 0
  Under k n = n < K k

  abbrev L : ℕ → ℕ → ℕ
  L m = lines_for K W m

  pattern_there : (m j : ℕ) (p : List Item) → SmallPattern Under p → all_there_of (L m) 40 (suc (suc j)) (pattern_items p) ≡ true
  pattern_there m j [] h = refl
  pattern_there m j (star ∷ p) h = both (ap (λ s. there_of (L m) s mark) (like_slot j)) (pattern_there m (suc j) p h)
  pattern_there m j (piece t ∷ p) h = both (ap (λ s. there_of (L m) s t) (like_slot j) ∙ or_right (eqb t mark) (ltb t (K TEXT)) (lt-ltb t (K TEXT) h.0)) (pattern_there m (suc j) p h.1)

  texts_there : (m j : ℕ) (l : List ℕ) → SmallTexts Under l → all_there_of (L m) 43 (suc (suc (suc j))) l ≡ true
  texts_there m j [] h = refl
  texts_there m j (t ∷ l) h = both (ap (λ s. there_of (L m) s t) (path_slot j) ∙ lt-ltb t (K TEXT) h.0) (texts_there m (suc j) l h.1)

  roots_there : (m j n : ℕ) (es : Nodes ℕ) → n + sizes es ≤ m → all_there_of (L m) 47 (suc j) (roots n es) ≡ true
  roots_there m j n enil h = refl
  roots_there m j n (econs e es) h = both (ap (λ s. there_of (L m) s (root n e)) (set_slot j) ∙ root_under n m e (omega (arith, h))) (roots_there m (suc j) (n + size e) es (omega (arith, h)))

  args_there : (m i n : ℕ) (gs : NodeArgs ℕ) → SmallArgs Under Any gs → n + size_args gs ≤ m → all_there_of (L m) 48 (suc (i + i)) (arg_roots n gs) ≡ true
  args_there m i n gnil k h = refl
  args_there m i n (gcons t e gs) k h =
      let z : suc (suc (suc (i + i))) ≡ suc (suc i + suc i) = omega arith in
      both (ap (λ s. there_of (L m) s t) (name_slot i) ∙ lt-ltb t (K TEXT) k.0)
      (both (ap (λ s. there_of (L m) s (root n e)) (field_slot i) ∙ root_under n m e (omega (arith, h))) (ap (λ j. all_there_of (L m) 48 j (arg_roots (n + size e) gs)) z ∙ args_there m (suc i) (n + size e) gs k.2 (omega (arith, h))))

-- ---- rows, one after another

module _ (K : ℕ → ℕ) (W : ℕ) where
  -- rows numbered from n stand, and the next number is m
  abbrev Stand : ℕ → List (List ℕ) → ℕ → Type 0
  Stand n rows m = (nodes_stand K W n rows ≡ true) × (n + length rows ≡ m)

  rows_append : (n : ℕ) (a b : List (List ℕ)) → nodes_stand K W n a ≡ true → nodes_stand K W (n + length a) b ≡ true → nodes_stand K W n (a ++ b) ≡ true
  rows_append n [] b g h = let z : n ≡ n + 0 = omega arith in ap (λ k. nodes_stand K W k b) z ∙ h
  rows_append n (r ∷ a) b g h = let z : suc n + length a ≡ n + suc (length a) = omega arith in and_both (node_stands (lines_for K W n) r) (nodes_stand K W (suc n) a) g (λ p q. both p (rows_append (suc n) a b q (ap (λ k. nodes_stand K W k b) z ∙ h)))

  append_long : (n : ℕ) (a b : List (List ℕ)) → n + length (a ++ b) ≡ n + length a + length b
  append_long n [] b = omega arith
  append_long n (r ∷ a) b = let z = append_long n a b in omega (arith, z)

  then_rows : (n m k : ℕ) (a b : List (List ℕ)) → Stand n a m → Stand m b k → Stand n (a ++ b) k
  then_rows n m k a b g h = let x = g.1 in let y = h.1 in let z = append_long n a b in
      (rows_append n a b g.0 (ap (λ j. nodes_stand K W j b) x ∙ h.0), omega (arith, x, y, z))

  then_row : (n m k : ℕ) (a : List (List ℕ)) (r : List ℕ) → Stand n a m → node_stands (lines_for K W m) r ≡ true → suc m ≡ k → Stand n (a ++ (r ∷ [])) k
  then_row n m k a r g h e = then_rows n m k a (r ∷ []) g (both h refl, omega (arith, e))

-- the texts and kinds of each residual are below so many lines of their keys
abbrev pub NamesThere : (ℕ → ℕ) → List NVerdict → Type 0
NamesThere K [] = Unit {0}
NamesThere K (l ∷ ls) = Small (λ k n. n < K k) Any l.root × NamesThere K ls

-- ---- the rows of a tree

module _ (K : ℕ → ℕ) (ts : List Ty) (C : List Value) (many : length ts ≡ K TYPE) where
  abbrev W : ℕ
  W = length C

  abbrev N : ℕ → ℕ → Type 0
  N k n = n < K k

  abbrev M : ℕ → ℕ → ℕ
  M m = lines_for K W m

  ty : {T : Ty} → Listed ts T → ltb (type_number ts T) (K TYPE) ≡ true
  ty {T} l = let h = l.below in lt-ltb (type_number ts T) (K TYPE) (omega (arith, h, many))

  -- a row of one, two and three items
  one_item : {T : Ty} → Listed ts T → ((ltb (type_number ts T) (K TYPE) && true) && true) ≡ true
  one_item l = both (both (ty l) refl) refl

  two_items : {T : Ty} → Listed ts T → {b : Bool} → b ≡ true → ((ltb (type_number ts T) (K TYPE) && (b && true)) && true) ≡ true
  two_items l e = both (both (ty l) (both e refl)) refl

  three_items : {T : Ty} → Listed ts T → {b c : Bool} → b ≡ true → c ≡ true → ((ltb (type_number ts T) (K TYPE) && (b && (c && true))) && true) ≡ true
  three_items l e f = both (both (ty l) (both e (both f refl))) refl

  un_stands : {T : Ty} → Listed ts T → (u : Un) → SmallUn N u → (m x : ℕ) → ltb x m ≡ true → node_stands (M m) (un_tag u ∷ type_number ts T ∷ x ∷ un_items u) ≡ true
  unfolding tag_of form_of forms slot_at
  un_stands l unot h m x e = two_items l e
  un_stands l uneg h m x e = two_items l e
  un_stands l uempty h m x e = two_items l e
  un_stands l (uis k) h m x e = three_items l e (lt-ltb k (K KIND) h)
  un_stands l (ulike p) h m x e = both (both (ty l) (both e (pattern_there K W m 0 p h))) refl

  bin_stands : {T : Ty} → Listed ts T → (o : Bin) (m x y : ℕ) → ltb x m ≡ true → ltb y m ≡ true → node_stands (M m) (bin_tag o ∷ type_number ts T ∷ x ∷ y ∷ []) ≡ true
  unfolding tag_of form_of forms slot_at
  bin_stands l beq m x y e f = three_items l e f
  bin_stands l blt m x y e f = three_items l e f
  bin_stands l ble m x y e f = three_items l e f
  bin_stands l badd m x y e f = three_items l e f
  bin_stands l bsub m x y e f = three_items l e f
  bin_stands l bmul m x y e f = three_items l e f
  bin_stands l bcontains m x y e f = three_items l e f
  bin_stands l ball m x y e f = three_items l e f
  bin_stands l bany m x y e f = three_items l e f

  rel_stands : {T : Ty} → Listed ts T → (o : Rel) (m x y : ℕ) → ltb x m ≡ true → ltb y m ≡ true → node_stands (M m) (rel_tag o ∷ type_number ts T ∷ x ∷ y ∷ []) ≡ true
  unfolding tag_of form_of forms slot_at
  rel_stands l rin m x y e f = three_items l e f
  rel_stands l rgettag m x y e f = three_items l e f
  rel_stands l rhastag m x y e f = three_items l e f

  abbrev Stands : ℕ → List (List ℕ) → ℕ → Type 0
  Stands n rows m = (nodes_stand K W n rows ≡ true) × (n + length rows ≡ m)

  -- two trees and the row above them
  two : (n k : ℕ) (a b : Node ℕ) (r : List ℕ) → Stands n (tree_rows ts n a) (n + size a) → Stands (n + size a) (tree_rows ts (n + size a) b) (n + size a + size b) → node_stands (M (n + size a + size b)) r ≡ true → suc (n + size a + size b) ≡ k
      → Stands n (tree_rows ts n a ++ tree_rows ts (n + size a) b ++ (r ∷ [])) k
  two n k a b r g h q e = then_row K W n (n + size a + size b) k (tree_rows ts n a ++ tree_rows ts (n + size a) b) r (then_rows K W n (n + size a) (n + size a + size b) (tree_rows ts n a) (tree_rows ts (n + size a) b) g h) q e

  mutual
    unfolding tag_of form_of forms slot_at

    tree_stands : {e : Node ℕ} {d : Expr} → Reads C e d → (n : ℕ) → TypesIn ts e → Small N Any e → Stands n (tree_rows ts n e) (n + size e)
    tree_stands (xlit {n = v} a) n q k = (both (two_items q (lt-ltb v W (at_less a))) refl, omega arith)
    tree_stands xerr n q k = (both (one_item q) refl, omega arith)
    tree_stands xvar n q k = (both (two_items q refl) refl, omega arith)
    tree_stands (xand {T = T} {a = a} {b = b} g h) n q k = two n (n + suc (size a + size b)) a b (op "and" ∷ type_number ts T ∷ root n a ∷ root (n + size a) b ∷ []) (tree_stands g n q.1 k.0) (tree_stands h (n + size a) q.2 k.1)
        (three_items q.0 (root_under n (n + size a + size b) a (omega arith)) (root_under (n + size a) (n + size a + size b) b (omega arith))) (omega arith)
    tree_stands (xor {T = T} {a = a} {b = b} g h) n q k = two n (n + suc (size a + size b)) a b (op "or" ∷ type_number ts T ∷ root n a ∷ root (n + size a) b ∷ []) (tree_stands g n q.1 k.0) (tree_stands h (n + size a) q.2 k.1)
        (three_items q.0 (root_under n (n + size a + size b) a (omega arith)) (root_under (n + size a) (n + size a + size b) b (omega arith))) (omega arith)
    tree_stands (xite {T = T} {c = c} {a = a} {b = b} f g h) n q k =
        let m = n + size c + size a + size b in
        then_row K W n m (n + suc (size c + size a + size b)) (tree_rows ts n c ++ tree_rows ts (n + size c) a ++ tree_rows ts (n + size c + size a) b) (op "if" ∷ type_number ts T ∷ root n c ∷ root (n + size c) a ∷ root (n + size c + size a) b ∷ [])
        (then_rows K W n (n + size c + size a) m (tree_rows ts n c ++ tree_rows ts (n + size c) a) (tree_rows ts (n + size c + size a) b)
        (then_rows K W n (n + size c) (n + size c + size a) (tree_rows ts n c) (tree_rows ts (n + size c) a) (tree_stands f n q.1 k.0) (tree_stands g (n + size c) q.2 k.1)) (tree_stands h (n + size c + size a) q.3 k.2))
        (both (both (ty q.0) (both (root_under n m c (omega arith)) (both (root_under (n + size c) m a (omega arith)) (both (root_under (n + size c + size a) m b (omega arith)) refl)))) refl) (omega arith)
    tree_stands (xun {T = T} {u = u} {a = a} g) n q k = then_row K W n (n + size a) (n + suc (size a)) (tree_rows ts n a) (un_tag u ∷ type_number ts T ∷ root n a ∷ un_items u) (tree_stands g n q.1 k.1) (un_stands q.0 u k.0 (n + size a) (root n a) (root_under n (n + size a) a (omega arith))) (omega arith)
    tree_stands (xbin {T = T} {o = o} {a = a} {b = b} g h) n q k = two n (n + suc (size a + size b)) a b (bin_tag o ∷ type_number ts T ∷ root n a ∷ root (n + size a) b ∷ []) (tree_stands g n q.1 k.0) (tree_stands h (n + size a) q.2 k.1)
        (bin_stands q.0 o (n + size a + size b) (root n a) (root (n + size a) b) (root_under n (n + size a + size b) a (omega arith)) (root_under (n + size a) (n + size a + size b) b (omega arith))) (omega arith)
    tree_stands (xrel {T = T} {o = o} {a = a} {b = b} g h) n q k = two n (n + suc (size a + size b)) a b (rel_tag o ∷ type_number ts T ∷ root n a ∷ root (n + size a) b ∷ []) (tree_stands g n q.1 k.0) (tree_stands h (n + size a) q.2 k.1)
        (rel_stands q.0 o (n + size a + size b) (root n a) (root (n + size a) b) (root_under n (n + size a + size b) a (omega arith)) (root_under (n + size a) (n + size a + size b) b (omega arith))) (omega arith)
    tree_stands (xget {T = T} {a = a} {t = t} g) n q k = then_row K W n (n + size a) (n + suc (size a)) (tree_rows ts n a) (op "get" ∷ type_number ts T ∷ root n a ∷ t ∷ []) (tree_stands g n q.1 k.1) (three_items q.0 (root_under n (n + size a) a (omega arith)) (lt-ltb t (K TEXT) k.0)) (omega arith)
    tree_stands (xhas {T = T} {a = a} {t = t} g) n q k = then_row K W n (n + size a) (n + suc (size a)) (tree_rows ts n a) (op "has" ∷ type_number ts T ∷ root n a ∷ t ∷ []) (tree_stands g n q.1 k.1) (three_items q.0 (root_under n (n + size a) a (omega arith)) (lt-ltb t (K TEXT) k.0)) (omega arith)
    tree_stands (xpath {T = T} {a = a} {t = t} {ts = us} g) n q k = then_row K W n (n + size a) (n + suc (size a)) (tree_rows ts n a) (op "haspath" ∷ type_number ts T ∷ root n a ∷ t ∷ us) (tree_stands g n q.1 k.1) (both (both (ty q.0) (both (root_under n (n + size a) a (omega arith)) (both (lt-ltb t (K TEXT) k.0.0) (texts_there K W (n + size a) 0 us k.0.1)))) refl) (omega arith)
    tree_stands (xset {T = T} {es = es} g) n q k = then_row K W n (n + sizes es) (n + suc (sizes es)) (all_rows ts n es) (op "set" ∷ type_number ts T ∷ roots n es) (all_stand_law g n q.1 k) (both (both (ty q.0) (roots_there K W (n + sizes es) 0 n es (omega arith))) refl) (omega arith)
    tree_stands (xrec {T = T} {gs = gs} g) n q k = then_row K W n (n + size_args gs) (n + suc (size_args gs)) (arg_rows ts n gs) (op "record" ∷ type_number ts T ∷ arg_roots n gs) (args_stand g n q.1 k) (both (both (ty q.0) (args_there K W (n + size_args gs) 0 n gs k (omega arith))) refl) (omega arith)

    all_stand_law : {es : Nodes ℕ} {fs : Exprs} → ReadsAll C es fs → (n : ℕ) → AllHold (Listed ts) es → SmallAll N Any es → Stands n (all_rows ts n es) (n + sizes es)
    all_stand_law xnil n q k = (refl, omega arith)
    all_stand_law (xcons {a = a} {es = es} g gs) n q k = then_rows K W n (n + size a) (n + (size a + sizes es)) (tree_rows ts n a) (all_rows ts (n + size a) es) (tree_stands g n q.0 k.0)
        (let z = all_stand_law gs (n + size a) q.1 k.1 in let y = z.1 in (z.0, omega (arith, y)))

    args_stand : {gs : NodeArgs ℕ} {hs : Args} → ReadsArgs C gs hs → (n : ℕ) → ArgsHold (Listed ts) gs → SmallArgs N Any gs → Stands n (arg_rows ts n gs) (n + size_args gs)
    args_stand xstop n q k = (refl, omega arith)
    args_stand (xarg {a = a} {gs = gs} g hs) n q k = then_rows K W n (n + size a) (n + (size a + size_args gs)) (tree_rows ts n a) (arg_rows ts (n + size a) gs) (tree_stands g n q.0 k.1)
        (let z = args_stand hs (n + size a) q.1 k.2 in let y = z.1 in (z.0, omega (arith, y)))

  pub residuals_stand : {S : Schema} {E : NEnv} {P : PEnv} {ls : List NVerdict} {qs : List Policy} → Residuals S E P C ls qs → LinesIn ts ls → NamesThere K ls → (n : ℕ) → nodes_stand K W n (residual_rows ts n ls) ≡ true
  residuals_stand R.none h k n = refl
  residuals_stand (R.more {l = l} {ls = ls} r rs) h k n =
      let z = tree_stands r n h.0 k.0 in
      rows_append K W n (tree_rows ts n l.root) (residual_rows ts (n + size l.root) ls) z.0 (ap (λ k. nodes_stand K W k (residual_rows ts (n + size l.root) ls)) z.1 ∙ residuals_stand rs h.1 k.1 (n + size l.root))

-- where all stand, the tree under a root is the one that is built there
pub tree_there : {L : Type 0} (s : State) (a : Said) → all_stand s a ≡ true → (value : ℕ → L) (x : PolicyLine) (t : Node L) → get_elem? (trees_from (types s) value (λ A x. err A) [] a.nodes) x.root ≡ some t → tree_under s value a x ≡ some t
unfolding tree_under
tree_there s a h value x t e = ap (λ b. cond b (get_elem? (trees_from (types s) value (λ A x. err A) [] a.nodes) x.root) none) h ∙ e

-- Printed trees read back: the rows of a tree's nodes, children before parents, are built up into the tree again.
use mathlib.Core.Path.{◌≡◌, refl, sym, ◌∙◌, ap, ap₂}
use mathlib.Core.Bool.{cond}
use mathlib.Core.Option.{some}
use mathlib.Core.List.{List, [], ◌∷◌, ◌++◌, append_assoc, append-nil}
use Prim.Native.Nat.{ℕ, suc, ◌≤◌, ◌+◌}
use native.Mathlib.Omega.{arith}
use borrow.Author.Tests.{ne_eqb}
use lib.ListN.{length, get_or, get_elem?, length-append}
use lib.Seq.{get_or_at}
use Rattle.cedar.specs.Types.{Ty, tbool, Var, principal, action, resource, context}
use Rattle.cedar.specs.Residual.{Item, star, piece, Node, Nodes, NodeArgs, lit, err, var, and, or, ite, un, bin, rel, get, has, haspath, set, rec, enil, econs, gnil, gcons, Un, unot, uneg, uempty, uis, ulike, Bin, beq, blt, ble, badd, bsub, bmul, bcontains, ball, bany, Rel, rin, rgettag, rhastag}
use Rattle.cedar.proofs.TypesKept.{AllHold, ArgsHold}
use Rattle.sheet.specs.Forms.{forms, tag_of, mark, TEXT, KIND}
use Rattle.sheet.specs.Content.{var_of, pattern_of, children_over, args_over, tree_over, trees_from}
use Rattle.sheet.proofs.content.TypeNumbers.{Listed, TypesIn}
pub use Rattle.sheet.specs.Literals.{valued, valued_all, valued_args}
use Rattle.sheet.specs.Answer.{size, sizes, size_args, root, roots, arg_roots, op, pattern_items, un_tag, un_items, bin_tag, rel_tag, var_number, type_number, tree_rows, all_rows, arg_rows}

-- ---- N of the numbers of texts and kinds, by their keys, and Q of the numbers of literals

abbrev pub SmallPattern : (ℕ → ℕ → Type 0) → List Item → Type 0
SmallPattern N [] = Unit {0}
SmallPattern N (star ∷ p) = SmallPattern N p
SmallPattern N (piece t ∷ p) = N TEXT t × SmallPattern N p

abbrev pub SmallUn : (ℕ → ℕ → Type 0) → Un → Type 0
SmallUn N unot = Unit {0}
SmallUn N uneg = Unit {0}
SmallUn N uempty = Unit {0}
SmallUn N (uis k) = N KIND k
SmallUn N (ulike p) = SmallPattern N p

abbrev pub SmallTexts : (ℕ → ℕ → Type 0) → List ℕ → Type 0
SmallTexts N [] = Unit {0}
SmallTexts N (t ∷ l) = N TEXT t × SmallTexts N l

abbrev mutual
  pub Small : (ℕ → ℕ → Type 0) → (ℕ → Type 0) → Node ℕ → Type 0
  Small N Q (lit T n) = Q n
  Small N Q (err T) = Unit {0}
  Small N Q (var T x) = Unit {0}
  Small N Q (and T a b) = Small N Q a × Small N Q b
  Small N Q (or T a b) = Small N Q a × Small N Q b
  Small N Q (ite T c a b) = Small N Q c × Small N Q a × Small N Q b
  Small N Q (un T u a) = SmallUn N u × Small N Q a
  Small N Q (bin T o a b) = Small N Q a × Small N Q b
  Small N Q (rel T o a b) = Small N Q a × Small N Q b
  Small N Q (get T a t) = N TEXT t × Small N Q a
  Small N Q (has T a t) = N TEXT t × Small N Q a
  Small N Q (haspath T a t ts) = SmallTexts N (t ∷ ts) × Small N Q a
  Small N Q (set T es) = SmallAll N Q es
  Small N Q (rec T gs) = SmallArgs N Q gs

  pub SmallAll : (ℕ → ℕ → Type 0) → (ℕ → Type 0) → Nodes ℕ → Type 0
  SmallAll N Q enil = Unit {0}
  SmallAll N Q (econs e es) = Small N Q e × SmallAll N Q es

  pub SmallArgs : (ℕ → ℕ → Type 0) → (ℕ → Type 0) → NodeArgs ℕ → Type 0
  SmallArgs N Q gnil = Unit {0}
  SmallArgs N Q (gcons t e gs) = N TEXT t × Small N Q e × SmallArgs N Q gs

-- four digits
abbrev pub Short : ℕ → ℕ → Type 0
Short k n = n ≤ 9999

-- ---- a tree with its literals read

mutual
  pub valued_same : (e : Node ℕ) → valued (λ n. n) e ≡ e
  valued_same (lit T n) = refl
  valued_same (err T) = refl
  valued_same (var T x) = refl
  valued_same (and T a b) = ap₂ (and T) (valued_same a) (valued_same b)
  valued_same (or T a b) = ap₂ (or T) (valued_same a) (valued_same b)
  valued_same (ite T c a b) = λ i. ite T (valued_same c i) (valued_same a i) (valued_same b i)
  valued_same (un T u a) = ap (un T u) (valued_same a)
  valued_same (bin T o a b) = ap₂ (bin T o) (valued_same a) (valued_same b)
  valued_same (rel T o a b) = ap₂ (rel T o) (valued_same a) (valued_same b)
  valued_same (get T a t) = ap (λ x. get T x t) (valued_same a)
  valued_same (has T a t) = ap (λ x. has T x t) (valued_same a)
  valued_same (haspath T a t ts) = ap (λ x. haspath T x t ts) (valued_same a)
  valued_same (set T es) = ap (set T) (all_same es)
  valued_same (rec T gs) = ap (rec T) (args_same gs)

  all_same : (es : Nodes ℕ) → valued_all (λ n. n) es ≡ es
  all_same enil = refl
  all_same (econs e es) = ap₂ econs (valued_same e) (all_same es)

  args_same : (gs : NodeArgs ℕ) → valued_args (λ n. n) gs ≡ gs
  args_same gnil = refl
  args_same (gcons t e gs) = ap₂ (gcons t) (valued_same e) (args_same gs)

-- ---- the trees below a tree, children before parents

abbrev mutual
  pub inner : {L : Type 0} → Node L → List (Node L)
  inner (lit T v) = []
  inner (err T) = []
  inner (var T x) = []
  inner (and T a b) = (inner a ++ (a ∷ [])) ++ (inner b ++ (b ∷ []))
  inner (or T a b) = (inner a ++ (a ∷ [])) ++ (inner b ++ (b ∷ []))
  inner (ite T c a b) = (inner c ++ (c ∷ [])) ++ ((inner a ++ (a ∷ [])) ++ (inner b ++ (b ∷ [])))
  inner (un T u a) = inner a ++ (a ∷ [])
  inner (bin T o a b) = (inner a ++ (a ∷ [])) ++ (inner b ++ (b ∷ []))
  inner (rel T o a b) = (inner a ++ (a ∷ [])) ++ (inner b ++ (b ∷ []))
  inner (get T a t) = inner a ++ (a ∷ [])
  inner (has T a t) = inner a ++ (a ∷ [])
  inner (haspath T a t ts) = inner a ++ (a ∷ [])
  inner (set T es) = inner_all es
  inner (rec T gs) = inner_args gs

  pub inner_all : {L : Type 0} → Nodes L → List (Node L)
  inner_all enil = []
  inner_all (econs e es) = (inner e ++ (e ∷ [])) ++ inner_all es

  pub inner_args : {L : Type 0} → NodeArgs L → List (Node L)
  inner_args gnil = []
  inner_args (gcons t e gs) = (inner e ++ (e ∷ [])) ++ inner_args gs

-- with the tree itself
abbrev pub post : {L : Type 0} → Node L → List (Node L)
post e = inner e ++ (e ∷ [])

module _ {L : Type 0} (value : ℕ → L) where
  abbrev V' : Node ℕ → Node L
  V' e = valued value e

  post_one : (a : Node ℕ) → suc (length (inner (V' a))) ≡ size a → length (post (V' a)) ≡ size a
  post_one a h = length-append (inner (V' a)) (V' a ∷ []) ∙ omega (arith, h)

  two_size : (a b : Node ℕ) → suc (length (inner (V' a))) ≡ size a → suc (length (inner (V' b))) ≡ size b → suc (length (post (V' a) ++ post (V' b))) ≡ suc (size a + size b)
  two_size a b g h = let x = post_one a g in let y = post_one b h in ap suc (length-append (post (V' a)) (post (V' b)) ∙ omega (arith, x, y))

  mutual
    inner_size : (e : Node ℕ) → suc (length (inner (V' e))) ≡ size e
    inner_size (lit T n) = refl
    inner_size (err T) = refl
    inner_size (var T x) = refl
    inner_size (and T a b) = two_size a b (inner_size a) (inner_size b)
    inner_size (or T a b) = two_size a b (inner_size a) (inner_size b)
    inner_size (ite T c a b) = let x = post_one c (inner_size c) in let y = two_size a b (inner_size a) (inner_size b) in
        ap suc (length-append (post (V' c)) (post (V' a) ++ post (V' b))) ∙ omega (arith, x, y)
    inner_size (un T u a) = ap suc (post_one a (inner_size a))
    inner_size (bin T o a b) = two_size a b (inner_size a) (inner_size b)
    inner_size (rel T o a b) = two_size a b (inner_size a) (inner_size b)
    inner_size (get T a t) = ap suc (post_one a (inner_size a))
    inner_size (has T a t) = ap suc (post_one a (inner_size a))
    inner_size (haspath T a t ts) = ap suc (post_one a (inner_size a))
    inner_size (set T es) = ap suc (all_size es)
    inner_size (rec T gs) = ap suc (args_size gs)

    all_size : (es : Nodes ℕ) → length (inner_all (valued_all value es)) ≡ sizes es
    all_size enil = refl
    all_size (econs e es) = let x = post_one e (inner_size e) in let y = all_size es in length-append (post (V' e)) (inner_all (valued_all value es)) ∙ omega (arith, x, y)

    args_size : (gs : NodeArgs ℕ) → length (inner_args (valued_args value gs)) ≡ size_args gs
    args_size gnil = refl
    args_size (gcons t e gs) = let x = post_one e (inner_size e) in let y = args_size gs in length-append (post (V' e)) (inner_args (valued_args value gs)) ∙ omega (arith, x, y)

  pub post_size : (e : Node ℕ) → length (post (V' e)) ≡ size e
  post_size e = post_one e (inner_size e)

  -- a tree stands at its root's number
  seam : (ns : List (Node L)) (e : Node ℕ) (more : List (Node L)) → ns ++ (post (V' e) ++ more) ≡ (ns ++ inner (V' e)) ++ (V' e ∷ more)
  seam ns e more = ap (λ z. ns ++ z) (append_assoc (inner (V' e)) (V' e ∷ []) more) ∙ sym (append_assoc ns (inner (V' e)) (V' e ∷ more))

  before_root : (ns : List (Node L)) (n : ℕ) (e : Node ℕ) → length ns ≡ n → length (ns ++ inner (V' e)) ≡ root n e
  before_root ns n e h = let x = inner_size e in length-append ns (inner (V' e)) ∙ omega (arith, x, h)

  root_at : (ns : List (Node L)) (n : ℕ) (e : Node ℕ) (more : List (Node L)) (d : Node L) → length ns ≡ n → get_or (ns ++ (post (V' e) ++ more)) (root n e) d ≡ V' e
  root_at ns n e more d h = ap (λ l. get_or l (root n e) d) (seam ns e more) ∙ get_or_at (ns ++ inner (V' e)) (V' e) more d (root n e) (before_root ns n e h)

  some_at : {A : Type 0} (p : List A) (y : A) (ys : List A) (n : ℕ) → length p ≡ n → get_elem? (p ++ y ∷ ys) n ≡ some y
  some_at [] y ys n e = ap (get_elem? (y ∷ ys)) (sym e)
  some_at (x ∷ p) y ys n e = ap (get_elem? (x ∷ (p ++ y ∷ ys))) (sym e) ∙ some_at p y ys (length p) refl

  pub root_there : (ns : List (Node L)) (n : ℕ) (e : Node ℕ) (more : List (Node L)) → length ns ≡ n → get_elem? (ns ++ (post (V' e) ++ more)) (root n e) ≡ some (V' e)
  root_there ns n e more h = ap (λ l. get_elem? l (root n e)) (seam ns e more) ∙ some_at (ns ++ inner (V' e)) (V' e) more (root n e) (before_root ns n e h)

-- ---- items read back

pattern_back : (p : List Item) → SmallPattern Short p → pattern_of (pattern_items p) ≡ p
pattern_back [] h = refl
pattern_back (star ∷ p) h = ap (λ z. star ∷ z) (pattern_back p h)
pattern_back (piece t ∷ p) h = let lt = h.0 in ap₂ (λ b z. cond b star (piece t) ∷ z) (ne_eqb t mark (λ z. omega (arith, z))) (pattern_back p h.1)

var_back : (x : Var) → var_of (var_number x) ≡ x
var_back principal = refl
var_back action = refl
var_back resource = refl
var_back context = refl

-- ---- trees from their rows

module _ {L : Type 0} (ts : List Ty) (value : ℕ → L) where
  abbrev W : Node ℕ → Node L
  W e = valued value e

  abbrev Built : List (Node L) → List (List ℕ) → List (Node L) → Type 0
  Built ns rows es = trees_from ts value (λ A x. err A) ns rows ≡ ns ++ es

  pub from_append : (ns : List (Node L)) (a b : List (List ℕ)) → trees_from ts value (λ A x. err A) ns (a ++ b) ≡ trees_from ts value (λ A x. err A) (trees_from ts value (λ A x. err A) ns a) b
  from_append ns [] b = refl
  from_append ns (r ∷ a) b = from_append (ns ++ (tree_over ts value (λ A x. err A) ns r ∷ [])) a b

  pub then_rows : (ns es fs : List (Node L)) (a b : List (List ℕ)) → Built ns a es → Built (ns ++ es) b fs → Built ns (a ++ b) (es ++ fs)
  then_rows ns es fs a b g h = from_append ns a b ∙ ap (λ z. trees_from ts value (λ A x. err A) z b) g ∙ h ∙ append_assoc ns es fs

  -- children and their parent
  then_row : (ns es : List (Node L)) (a : List (List ℕ)) (r : List ℕ) (e : Node L) → Built ns a es → tree_over ts value (λ A x. err A) (ns ++ es) r ≡ e → Built ns (a ++ (r ∷ [])) (es ++ (e ∷ []))
  then_row ns es a r e g h = then_rows ns es (e ∷ []) a (r ∷ []) g (ap (λ z. (ns ++ es) ++ (z ∷ [])) h)

  module _ (ns : List (Node L)) (n : ℕ) (len : length ns ≡ n) where
    lone : (a : Node ℕ) → get_or (ns ++ post (W a)) (root n a) (err tbool) ≡ W a
    lone a = ap (λ z. get_or (ns ++ z) (root n a) (err tbool)) (sym (append-nil (post (W a)))) ∙ root_at value ns n a [] (err tbool) len

    grown : (a : Node ℕ) → length (ns ++ post (W a)) ≡ n + size a
    grown a = length-append ns (post (W a)) ∙ ap₂ (λ x y. x + y) len (post_size value a)

    left : (a : Node ℕ) (more : List (Node L)) → get_or (ns ++ (post (W a) ++ more)) (root n a) (err tbool) ≡ W a
    left a more = root_at value ns n a more (err tbool) len

    right : (a b : Node ℕ) (more : List (Node L)) → get_or (ns ++ (post (W a) ++ (post (W b) ++ more))) (root (n + size a) b) (err tbool) ≡ W b
    right a b more = ap (λ z. get_or z (root (n + size a) b) (err tbool)) (sym (append_assoc ns (post (W a)) (post (W b) ++ more))) ∙ root_at value (ns ++ post (W a)) (n + size a) b more (err tbool) (grown a)

    last : (a b : Node ℕ) → get_or (ns ++ (post (W a) ++ post (W b))) (root (n + size a) b) (err tbool) ≡ W b
    last a b = ap (λ z. get_or (ns ++ (post (W a) ++ z)) (root (n + size a) b) (err tbool)) (sym (append-nil (post (W b)))) ∙ right a b []

    -- two children and their parent; three
    two : (a b : Node ℕ) (r : List ℕ) (e : Node L) → Built ns (tree_rows ts n a) (post (W a)) → Built (ns ++ post (W a)) (tree_rows ts (n + size a) b) (post (W b))
        → tree_over ts value (λ A x. err A) (ns ++ (post (W a) ++ post (W b))) r ≡ e → Built ns (tree_rows ts n a ++ tree_rows ts (n + size a) b ++ (r ∷ [])) (post (W a) ++ post (W b) ++ (e ∷ []))
    two a b r e g h q = then_row ns (post (W a) ++ post (W b)) (tree_rows ts n a ++ tree_rows ts (n + size a) b) r e (then_rows ns (post (W a)) (post (W b)) (tree_rows ts n a) (tree_rows ts (n + size a) b) g h) q

    three : (c a b : Node ℕ) (r : List ℕ) (e : Node L) → Built ns (tree_rows ts n c) (post (W c)) → Built (ns ++ post (W c)) (tree_rows ts (n + size c) a) (post (W a)) → Built ((ns ++ post (W c)) ++ post (W a)) (tree_rows ts (n + size c + size a) b) (post (W b))
        → tree_over ts value (λ A x. err A) (ns ++ (post (W c) ++ (post (W a) ++ post (W b)))) r ≡ e
        → Built ns (tree_rows ts n c ++ tree_rows ts (n + size c) a ++ tree_rows ts (n + size c + size a) b ++ (r ∷ [])) ((post (W c) ++ (post (W a) ++ post (W b))) ++ (e ∷ []))
    three c a b r e f g h q =
        ap (λ z. trees_from ts value (λ A x. err A) ns (z ++ (r ∷ []))) (append_assoc (tree_rows ts n c) (tree_rows ts (n + size c) a) (tree_rows ts (n + size c + size a) b))
        ∙ then_row ns (post (W c) ++ (post (W a) ++ post (W b))) (tree_rows ts n c ++ (tree_rows ts (n + size c) a ++ tree_rows ts (n + size c + size a) b)) r e
        (then_rows ns (post (W c)) (post (W a) ++ post (W b)) (tree_rows ts n c) (tree_rows ts (n + size c) a ++ tree_rows ts (n + size c + size a) b) f
        (then_rows (ns ++ post (W c)) (post (W a)) (post (W b)) (tree_rows ts (n + size c) a) (tree_rows ts (n + size c + size a) b) g h)) q

  third : (ns : List (Node L)) (n : ℕ) → length ns ≡ n → (c a b : Node ℕ) → get_or (ns ++ (post (W c) ++ (post (W a) ++ post (W b)))) (root (n + size c + size a) b) (err tbool) ≡ W b
  third ns n len c a b = ap (λ z. get_or z (root (n + size c + size a) b) (err tbool)) (sym (append_assoc ns (post (W c)) (post (W a) ++ post (W b)))) ∙ last (ns ++ post (W c)) (n + size c) (grown ns n len c) a b

  -- lists of children
  all_at : (es : Nodes ℕ) (ns : List (Node L)) (n : ℕ) → length ns ≡ n → (more : List (Node L)) → children_over ts value (ns ++ (inner_all (valued_all value es) ++ more)) (roots n es) ≡ valued_all value es
  all_at enil ns n len more = refl
  all_at (econs e es) ns n len more = ap₂ econs
      (ap (λ z. get_or (ns ++ z) (root n e) (err tbool)) (append_assoc (post (W e)) (inner_all (valued_all value es)) more) ∙ root_at value ns n e (inner_all (valued_all value es) ++ more) (err tbool) len)
      (ap (λ z. children_over ts value z (roots (n + size e) es)) (ap (λ z. ns ++ z) (append_assoc (post (W e)) (inner_all (valued_all value es)) more) ∙ sym (append_assoc ns (post (W e)) (inner_all (valued_all value es) ++ more)))
      ∙ all_at es (ns ++ post (W e)) (n + size e) (grown ns n len e) more)

  args_at : (gs : NodeArgs ℕ) (ns : List (Node L)) (n : ℕ) → length ns ≡ n → (more : List (Node L)) → args_over ts value (ns ++ (inner_args (valued_args value gs) ++ more)) (arg_roots n gs) ≡ valued_args value gs
  args_at gnil ns n len more = refl
  args_at (gcons t e gs) ns n len more = ap₂ (gcons t)
      (ap (λ z. get_or (ns ++ z) (root n e) (err tbool)) (append_assoc (post (W e)) (inner_args (valued_args value gs)) more) ∙ root_at value ns n e (inner_args (valued_args value gs) ++ more) (err tbool) len)
      (ap (λ z. args_over ts value z (arg_roots (n + size e) gs)) (ap (λ z. ns ++ z) (append_assoc (post (W e)) (inner_args (valued_args value gs)) more) ∙ sym (append_assoc ns (post (W e)) (inner_args (valued_args value gs) ++ more)))
      ∙ args_at gs (ns ++ post (W e)) (n + size e) (grown ns n len e) more)

  module _ (ns : List (Node L)) (n : ℕ) (len : length ns ≡ n) (T : Ty) (q : get_or ts (type_number ts T) tbool ≡ T) where
    un_back : (a : Node ℕ) (u : Un) → SmallUn Short u → tree_over ts value (λ A x. err A) (ns ++ post (W a)) (un_tag u ∷ type_number ts T ∷ root n a ∷ un_items u) ≡ un T u (W a)
    unfolding tag_of forms
    un_back a unot h = ap₂ (λ T x. un T unot x) q (lone ns n len a)
    un_back a uneg h = ap₂ (λ T x. un T uneg x) q (lone ns n len a)
    un_back a uempty h = ap₂ (λ T x. un T uempty x) q (lone ns n len a)
    un_back a (uis k) h = ap₂ (λ T x. un T (uis k) x) q (lone ns n len a)
    un_back a (ulike p) h = λ i. un (q i) (ulike (pattern_back p h i)) (lone ns n len a i)

    bin_back : (a b : Node ℕ) (o : Bin) → tree_over ts value (λ A x. err A) (ns ++ (post (W a) ++ post (W b))) (bin_tag o ∷ type_number ts T ∷ root n a ∷ root (n + size a) b ∷ []) ≡ bin T o (W a) (W b)
    unfolding tag_of forms
    bin_back a b beq = λ i. bin (q i) beq (left ns n len a (post (W b)) i) (last ns n len a b i)
    bin_back a b blt = λ i. bin (q i) blt (left ns n len a (post (W b)) i) (last ns n len a b i)
    bin_back a b ble = λ i. bin (q i) ble (left ns n len a (post (W b)) i) (last ns n len a b i)
    bin_back a b badd = λ i. bin (q i) badd (left ns n len a (post (W b)) i) (last ns n len a b i)
    bin_back a b bsub = λ i. bin (q i) bsub (left ns n len a (post (W b)) i) (last ns n len a b i)
    bin_back a b bmul = λ i. bin (q i) bmul (left ns n len a (post (W b)) i) (last ns n len a b i)
    bin_back a b bcontains = λ i. bin (q i) bcontains (left ns n len a (post (W b)) i) (last ns n len a b i)
    bin_back a b ball = λ i. bin (q i) ball (left ns n len a (post (W b)) i) (last ns n len a b i)
    bin_back a b bany = λ i. bin (q i) bany (left ns n len a (post (W b)) i) (last ns n len a b i)

    rel_back : (a b : Node ℕ) (o : Rel) → tree_over ts value (λ A x. err A) (ns ++ (post (W a) ++ post (W b))) (rel_tag o ∷ type_number ts T ∷ root n a ∷ root (n + size a) b ∷ []) ≡ rel T o (W a) (W b)
    unfolding tag_of forms
    rel_back a b rin = λ i. rel (q i) rin (left ns n len a (post (W b)) i) (last ns n len a b i)
    rel_back a b rgettag = λ i. rel (q i) rgettag (left ns n len a (post (W b)) i) (last ns n len a b i)
    rel_back a b rhastag = λ i. rel (q i) rhastag (left ns n len a (post (W b)) i) (last ns n len a b i)

  module _ (Q : ℕ → Type 0) where
    mutual
      unfolding tag_of forms

      -- THE ROWS OF A TREE ARE BUILT UP INTO THE TREE
      pub tree_back : (e : Node ℕ) (ns : List (Node L)) (n : ℕ) → length ns ≡ n → Small Short Q e → TypesIn ts e → Built ns (tree_rows ts n e) (post (W e))
      tree_back (lit T v) ns n len h q = ap (λ T. ns ++ (lit T (value v) ∷ [])) q.found
      tree_back (err T) ns n len h q = ap (λ T. ns ++ (err T ∷ [])) q.found
      tree_back (var T x) ns n len h q = ap₂ (λ T x. ns ++ (var T x ∷ [])) q.found (var_back x)
      tree_back (and T a b) ns n len h q = two ns n len a b (op "and" ∷ type_number ts T ∷ root n a ∷ root (n + size a) b ∷ []) (and T (W a) (W b)) (tree_back a ns n len h.0 q.1) (tree_back b (ns ++ post (W a)) (n + size a) (grown ns n len a) h.1 q.2)
          (λ i. and (q.0.found i) (left ns n len a (post (W b)) i) (last ns n len a b i))
      tree_back (or T a b) ns n len h q = two ns n len a b (op "or" ∷ type_number ts T ∷ root n a ∷ root (n + size a) b ∷ []) (or T (W a) (W b)) (tree_back a ns n len h.0 q.1) (tree_back b (ns ++ post (W a)) (n + size a) (grown ns n len a) h.1 q.2)
          (λ i. or (q.0.found i) (left ns n len a (post (W b)) i) (last ns n len a b i))
      tree_back (ite T c a b) ns n len h q = three ns n len c a b (op "if" ∷ type_number ts T ∷ root n c ∷ root (n + size c) a ∷ root (n + size c + size a) b ∷ []) (ite T (W c) (W a) (W b))
          (tree_back c ns n len h.0 q.1) (tree_back a (ns ++ post (W c)) (n + size c) (grown ns n len c) h.1 q.2)
          (tree_back b ((ns ++ post (W c)) ++ post (W a)) (n + size c + size a) (grown (ns ++ post (W c)) (n + size c) (grown ns n len c) a) h.2 q.3)
          (λ i. ite (q.0.found i) (left ns n len c (post (W a) ++ post (W b)) i) (right ns n len c a (post (W b)) i) (third ns n len c a b i))
      tree_back (un T u a) ns n len h q = then_row ns (post (W a)) (tree_rows ts n a) (un_tag u ∷ type_number ts T ∷ root n a ∷ un_items u) (un T u (W a)) (tree_back a ns n len h.1 q.1) (un_back ns n len T q.0.found a u h.0)
      tree_back (bin T o a b) ns n len h q = two ns n len a b (bin_tag o ∷ type_number ts T ∷ root n a ∷ root (n + size a) b ∷ []) (bin T o (W a) (W b)) (tree_back a ns n len h.0 q.1) (tree_back b (ns ++ post (W a)) (n + size a) (grown ns n len a) h.1 q.2)
          (bin_back ns n len T q.0.found a b o)
      tree_back (rel T o a b) ns n len h q = two ns n len a b (rel_tag o ∷ type_number ts T ∷ root n a ∷ root (n + size a) b ∷ []) (rel T o (W a) (W b)) (tree_back a ns n len h.0 q.1) (tree_back b (ns ++ post (W a)) (n + size a) (grown ns n len a) h.1 q.2)
          (rel_back ns n len T q.0.found a b o)
      tree_back (get T a t) ns n len h q = then_row ns (post (W a)) (tree_rows ts n a) (op "get" ∷ type_number ts T ∷ root n a ∷ t ∷ []) (get T (W a) t) (tree_back a ns n len h.1 q.1) (λ i. get (q.0.found i) (lone ns n len a i) t)
      tree_back (has T a t) ns n len h q = then_row ns (post (W a)) (tree_rows ts n a) (op "has" ∷ type_number ts T ∷ root n a ∷ t ∷ []) (has T (W a) t) (tree_back a ns n len h.1 q.1) (λ i. has (q.0.found i) (lone ns n len a i) t)
      tree_back (haspath T a t us) ns n len h q = then_row ns (post (W a)) (tree_rows ts n a) (op "haspath" ∷ type_number ts T ∷ root n a ∷ t ∷ us) (haspath T (W a) t us) (tree_back a ns n len h.1 q.1) (λ i. haspath (q.0.found i) (lone ns n len a i) t us)
      tree_back (set T es) ns n len h q = then_row ns (inner_all (valued_all value es)) (all_rows ts n es) (op "set" ∷ type_number ts T ∷ roots n es) (set T (valued_all value es)) (all_back es ns n len h q.1)
          (ap₂ set q.0.found (ap (λ z. children_over ts value (ns ++ z) (roots n es)) (sym (append-nil (inner_all (valued_all value es)))) ∙ all_at es ns n len []))
      tree_back (rec T gs) ns n len h q = then_row ns (inner_args (valued_args value gs)) (arg_rows ts n gs) (op "record" ∷ type_number ts T ∷ arg_roots n gs) (rec T (valued_args value gs)) (args_back gs ns n len h q.1)
          (ap₂ rec q.0.found (ap (λ z. args_over ts value (ns ++ z) (arg_roots n gs)) (sym (append-nil (inner_args (valued_args value gs)))) ∙ args_at gs ns n len []))

      all_back : (es : Nodes ℕ) (ns : List (Node L)) (n : ℕ) → length ns ≡ n → SmallAll Short Q es → AllHold (Listed ts) es → Built ns (all_rows ts n es) (inner_all (valued_all value es))
      all_back enil ns n len h q = sym (append-nil ns)
      all_back (econs e es) ns n len h q = then_rows ns (post (W e)) (inner_all (valued_all value es)) (tree_rows ts n e) (all_rows ts (n + size e) es) (tree_back e ns n len h.0 q.0) (all_back es (ns ++ post (W e)) (n + size e) (grown ns n len e) h.1 q.1)

      args_back : (gs : NodeArgs ℕ) (ns : List (Node L)) (n : ℕ) → length ns ≡ n → SmallArgs Short Q gs → ArgsHold (Listed ts) gs → Built ns (arg_rows ts n gs) (inner_args (valued_args value gs))
      args_back gnil ns n len h q = sym (append-nil ns)
      args_back (gcons t e gs) ns n len h q = then_rows ns (post (W e)) (inner_args (valued_args value gs)) (tree_rows ts n e) (arg_rows ts (n + size e) gs) (tree_back e ns n len h.1 q.0) (args_back gs (ns ++ post (W e)) (n + size e) (grown ns n len e) h.2 q.1)

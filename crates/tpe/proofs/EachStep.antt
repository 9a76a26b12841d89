-- One step of the interpreter over words is the numbered interpretation of the node's tree, if the nodes below work. Assumes nothing.
use mathlib.Core.Path.{◌≡◌, refl, sym, ◌∙◌, ap, subst}
use mathlib.Core.Bool.{Bool, true, false, cond}
use mathlib.Core.Option.{Option, none, some, some-injective}
use mathlib.Core.List.{List, [], ◌∷◌, append-nil}
use Prim.Native.Nat.{ℕ, zero, suc, ◌+◌, ◌-◌, ◌*◌, ◌/◌, ◌≤◌, ◌<◌}
use native.Mathlib.Nat.{div-eq_of_eq-mul_right}
use native.Mathlib.Omega.{arith}
use borrow.Author.Tests.{le-leb, eq-eqb}
use lib.Dec.{eqb}
use lib.ListN.{length, get_or, drop, length-drop}
use Rattle.cedar.specs.Types.{Ty, tbool, Schema, Var, principal, action, resource, context}
use Rattle.cedar.specs.Residual.{Node, lit, err, var, and, or, ite, un, bin, rel, get, has, haspath, econs, gcons, Un, unot, uneg, uempty, uis, ulike, Bin, beq, blt, ble, badd, bsub, bmul, bcontains, ball, bany, Rel, rin, rgettag, rhastag}
use Rattle.cedar.specs.Rows.{Row}
use Rattle.cedar.specs.Numbered.{Give, made, old, NEnv, Out, out, Outs, OutArgs, n_var, give_lit, n_step_un, n_step_get, n_step_has, n_step_path, n_step_set, n_step_rec, then_and, then_or, then_if, then_bin, then_rel, n_interpret, n_interprets, n_interpret_args}
use Rattle.cedar.proofs.Tools.{no_some}
use Rattle.cedar.proofs.TableLaws.{InN, now', later'}
use Rattle.forms.specs.Tags.{VAR, SET_OF, RECORD_OF, SLOT}
use Rattle.sheet.specs.Forms.{Mode, tag, items, at, mark, NODE, PRINCIPAL, ACTION, RESOURCE, CONTEXT, first_node}
use Rattle.sheet.specs.State.{State, line_at}
use Rattle.sheet.specs.Typing.{slot_value}
use Rattle.sheet.specs.Content.{var_of, known, given, n_env, children_over, args_over, tree_for, linked, pattern_of}
use Rattle.sheet.specs.Answer.{size, sizes, size_args}
use Rattle.sheet.proofs.running.MadeCount.{size_least}
use Rattle.sheet.proofs.content.TypeNumbers.{TypesIn}
use Rattle.table.specs.Layout.{rows_of, held}
use Rattle.residual.specs.Trees.{rnil, flats, nodes_of, args_of, left_for, left_tree, suits_for, suits, trees_of, Res, Whole, whole_none}
use Rattle.tpe.specs.Run.{O, Rec, give_of, var_for, others, lit_step, err_step, var_step, lazy_step, if_step, bin_step, rel_step, un_step, get_step, has_step, path_step, set_step, rec_step, slot_step, path_of, steps}
use Rattle.tpe.proofs.Outcomes.{RowFine, GiveFine, words_row, words_formed, words_short}
use Rattle.tpe.proofs.Reach.{asks}
use Rattle.tpe.proofs.Stands.{Hold, values, same_sheet, env_is, Room, tys, nodes, ty, Is, is_as, lit_is, err_is, left_is, drop_here, make_asked}
use Rattle.tpe.proofs.Operations.{sch, env, un_is, get_is, has_is, bin_is, rel_is}
use Rattle.tpe.proofs.Logic.{Works, then_more, and_is, or_is}
use Rattle.tpe.proofs.Branches.{if_is}
use Rattle.tpe.proofs.Paths.{Kinds, path_is}
use Rattle.tpe.proofs.Kids.{results_of, Kid, kid_none, kid_more, Takes, kids_are}
use Rattle.tpe.proofs.Sets.{set_is, rec_is, drop_two}

-- ---- what the request gives

known_fine : (n : ℕ) (x : Give) → GiveFine x → (g : Give) → known n x ≡ some g → GiveFine g
known_fine n x f g e = go (eqb n mark) e
  where
    go : (b : Bool) → cond b none (some x) ≡ some g → GiveFine g
    go true q = no_some q
    go false q = subst GiveFine (some-injective x g q) f

given_fine : (s : State) (x : Var) (g : Give) → given s x ≡ some g → GiveFine g
given_fine s principal g e = known_fine (at (line_at s PRINCIPAL 0) 1) _ tt g e
given_fine s action g e = known_fine (at (line_at s ACTION 0) 1) _ tt g e
given_fine s resource g e = known_fine (at (line_at s RESOURCE 0) 1) _ tt g e
given_fine s context g e = known_fine (at (line_at s CONTEXT 0) 1) _ tt g e

request_fine : (m : Mode) (s : State) (x : Var) (g : Give) → (n_env m s).request x ≡ some g → GiveFine g
unfolding n_env
request_fine m s x g e = given_fine s x g e

-- ---- children in turn, as the numbered interpretation has them

module _ (S : Schema) (N : NEnv) (ts : List Ty) (trs : List (Node ℕ)) where
  abbrev pub works : List ℕ → List (List Row → Out)
  works [] = []
  works (x ∷ xs) = n_interpret S N (get_or trs x (err tbool)) ∷ works xs

  pub all_are : (l : List ℕ) (R : List Row) → n_interprets S N (children_over ts (λ n. n) trs l) R ≡ record { rows = (results_of (works l) R).rows; trees = nodes_of (results_of (works l) R).trees }
  all_are [] R = refl
  all_are (x ∷ l) R =
      ap (λ (o : Outs). record { rows = o.rows; trees = econs (n_interpret S N (get_or trs x (err tbool)) R).tree o.trees }) (all_are l (n_interpret S N (get_or trs x (err tbool)) R).rows)

  pub args_are : (l : List ℕ) (R : List Row) → n_interpret_args S N (args_over ts (λ n. n) trs l) R ≡ record { rows = (results_of (works (others l)) R).rows; trees = args_of l (results_of (works (others l)) R).trees }
  args_are [] R = refl
  args_are (t ∷ []) R = refl
  args_are (t ∷ x ∷ l) R =
      ap (λ (o : OutArgs). record { rows = o.rows; trees = gcons t (n_interpret S N (get_or trs x (err tbool)) R).tree o.trees }) (args_are l (n_interpret S N (get_or trs x (err tbool)) R).rows)

-- ---- rows by tag

-- the children of a node's row, for each operation
abbrev pub kids_for : List ℕ → List (List ℕ)
kids_for r =
    let one : List ℕ = at r 1 ∷ [] in
    let two : List ℕ = at r 1 ∷ at r 2 ∷ [] in
    [] ∷ [] ∷ [] ∷ two ∷ two ∷ two ∷ two ∷ two ∷ two ∷ two ∷ two ∷ two ∷ two ∷ two ∷ two ∷ two ∷ two
    ∷ (at r 1 ∷ at r 2 ∷ at r 3 ∷ []) ∷ one ∷ one ∷ one ∷ one ∷ one ∷ one ∷ one ∷ one ∷ drop 1 (items r) ∷ others (drop 1 (items r)) ∷ [] ∷ []

pub left_at_law : (r : List ℕ) (x : ℕ) → tag r - first_node ≡ x → (k : ℕ) (T : Ty) (cs : List (Node ℕ)) → left_tree r k T cs ≡ get_or (left_for r k T cs (λ j. get_or cs j (err tbool))) x (err tbool)
unfolding left_tree
left_at_law r x e k T cs = ap (λ (z : ℕ). get_or (left_for r k T cs (λ j. get_or cs j (err tbool))) z (err tbool)) e

pub suits_at : (r : List ℕ) (x : ℕ) → first_node ≤ tag r → tag r - first_node ≡ x → (n : ℕ) → suits r n ≡ get_or (suits_for r n) x false
unfolding suits
suits_at r x h e n = rw (le-leb first_node (tag r) h, e)

-- a path over a child of any depth: none is of depth 0
path_any : (m : Mode) (sheet a₀ : List ℕ) (kinds : Kinds sheet a₀)
    (d : ℕ) {n : ℕ} {a l : List ℕ} {X : Out} {o : O} → d ≤ 64 → Is sheet a₀ d n a l X o → (c : ℕ) (r : List ℕ) → at r 0 < length (tys sheet a₀) → Room (suc n) a l → suits (get_or (nodes sheet a₀) c []) 1 ≡ true
    → ((j : ℕ) (t : Node ℕ) → left_tree (get_or (nodes sheet a₀) c []) j (ty sheet a₀ (at r 0)) (t ∷ []) ≡ haspath (ty sheet a₀ (at r 0)) t (at r (2 + j)) (drop (3 + j) (items r)))
    → TypesIn (tys sheet a₀) (n_step_path (sch m sheet a₀) (env m sheet a₀) (ty sheet a₀ (at r 0)) X (at r 2) (drop 3 (items r))).tree
    → Is sheet a₀ (suc d) (suc n) a l (n_step_path (sch m sheet a₀) (env m sheet a₀) (ty sheet a₀ (at r 0)) X (at r 2) (drop 3 (items r))) (path_of m sheet (length l) c r o)
path_any m sheet a₀ kinds zero deep i c r typed room su keep lists = none_flat i.whole
  where
    none_flat : {X : Type 0} {q : Res} → Whole (tys sheet a₀) (nodes sheet a₀) 0 q → X
    none_flat w = elim w [ ]
path_any m sheet a₀ kinds (suc d) deep i c r typed room su keep lists = path_is m sheet a₀ kinds deep i c r typed room su keep lists

-- ---- one step: node c has row r, and the nodes below work

module _ (m : Mode) (sheet a₀ : List ℕ) (kinds : Kinds sheet a₀)
    (trs : List (Node ℕ)) (P : List Row → Type 0) (d : ℕ) (deep : d ≤ 64) (f : Rec) (c : ℕ) (low : first_node ≤ tag (get_or (nodes sheet a₀) c [])) (typed : at (get_or (nodes sheet a₀) c []) 0 < length (tys sheet a₀))
    (a l : List ℕ) (h : Hold a₀ a) (good : P (values a)) where
  abbrev r : List ℕ
  r = get_or (nodes sheet a₀) c []

  abbrev T : Ty
  T = ty sheet a₀ (at r 0)

  abbrev tr : ℕ → Node ℕ
  tr x = get_or trs x (err tbool)

  abbrev K : ℕ → List Row → Out
  K x = n_interpret (sch m sheet a₀) (env m sheet a₀) (tr x)

  -- node x works, and keeps P
  pub record Below (x : ℕ) : Type 0 where
    pub working : Works m sheet a₀ P d (size (tr x)) f x (K x)
    pub keeps : (R : List Row) → P R → P (K x R).rows

  -- the row of node c stays
  same_row_law : (w : List ℕ) → Hold a₀ w → get_or (rows_of w NODE) c [] ≡ r
  same_row_law w k = ap (λ (z : List (List ℕ)). get_or z c []) (k.same NODE (omega arith))

  first : (x n : ℕ) → Below x → Room n a l → size (tr x) ≤ n → Is sheet a₀ d (size (tr x)) a l (K x (values a)) (f a l x)
  first x n b room e = b.working a l h good (record { top = omega (arith, room.top, e); few = omega (arith, room.few, e); log = omega (arith, room.log, e) })

  pub lit_step_law : Room 1 a l → Is sheet a₀ (suc d) 1 a l (out (values a) (lit T (at r 1))) (lit_step m sheet f a l c r)
  unfolding lit_step
  lit_step_law room = lit_is sheet a₀ d 1 (omega arith) a l a room h (record { top = omega arith; few = omega arith }) (at r 0) (at r 1) typed

  pub err_step_law : Room 1 a l → Is sheet a₀ (suc d) 1 a l (out (values a) (err T)) (err_step m sheet f a l c r)
  unfolding err_step
  err_step_law room = err_is sheet a₀ d 1 (omega arith) a l a room h (record { top = omega arith; few = omega arith }) (at r 0) typed

  -- under a link with the values v and w
  pub slot_step_law : (v w : ℕ) → Room 1 a l → Is sheet a₀ (suc d) 1 a l (out (values a) (linked (λ n. n) v w T (at r 1))) (slot_step m sheet v w f a l c r)
  unfolding slot_step
  slot_step_law v w room = lit_is sheet a₀ d 1 (omega arith) a l a room h (record { top = omega arith; few = omega arith }) (at r 0) (slot_value v w (at r 1)) typed

  module _ (e : tag r - first_node ≡ VAR - first_node) (room : Room 1 a l) where
    asked_as : (g : Give) → (env m sheet a₀).request (var_of (at r 1)) ≡ some g → (asks a).request (var_of (at r 1)) ≡ some g
    unfolding n_env
    asked_as g q = ap (λ (s : State). given s (var_of (at r 1))) (same_sheet [] a₀ a h) ∙ q

    var_by : (o : Option Give) → (env m sheet a₀).request (var_of (at r 1)) ≡ o → ((g : Give) → o ≡ some g → GiveFine g)
        → Is sheet a₀ (suc d) 1 a l (n_var (sch m sheet a₀) (env m sheet a₀) T (var T (var_of (at r 1))) o (values a)) (var_for m sheet a l c (at r 0) o)
    unfolding var_for give_of flats trees_of
    var_by none ask fine =
        left_is sheet a₀ d 1 (omega arith) a l a room h (record { top = omega arith; few = omega arith }) l rnil (sym (append-nil l)) (omega arith) whole_none c 0 (at r 0) typed
        (suits_at r (VAR - first_node) low e 0) (var T (var_of (at r 1))) (left_at_law r (VAR - first_node) e 0 T [])
    var_by (some (made q)) ask fine =
        let g : RowFine q = fine (made q) refl in
        is_as sheet a₀
        (make_asked sheet a₀ d 1 (omega arith) a l room h _ (words_formed q g) (words_short q g) (var_of (at r 1)) (asked_as (made q) ask ∙ ap (λ (z : Row). some (made z)) (sym (words_row q g))) (at r 0) typed)
        (ap (λ (z : Row). give_lit T (made z) (values a)) (words_row q g))
    var_by (some (old v)) ask fine = lit_is sheet a₀ d 1 (omega arith) a l a room h (record { top = omega arith; few = omega arith }) (at r 0) v typed

    pub var_step_law : Is sheet a₀ (suc d) 1 a l (n_interpret (sch m sheet a₀) (env m sheet a₀) (var T (var_of (at r 1))) (values a)) (var_step m sheet f a l c r)
    unfolding var_step
    var_step_law = rw (env_is m sheet a₀ a h) (var_by ((env m sheet a₀).request (var_of (at r 1))) refl (request_fine m (held [] a₀ []) (var_of (at r 1))))

  -- one operand
  module _ (b : Below (at r 1)) (room : Room (suc (size (tr (at r 1)))) a l) (su : suits r 1 ≡ true) where
    i₁ : Is sheet a₀ d (size (tr (at r 1))) a l (K (at r 1) (values a)) (f a l (at r 1))
    i₁ = first (at r 1) (suc (size (tr (at r 1)))) b room (omega arith)

    pub un_step_law : (u : List ℕ → Un) → ((t : Node ℕ) → left_tree r 0 T (t ∷ []) ≡ un T (u r) t)
        → Is sheet a₀ (suc d) (suc (size (tr (at r 1)))) a l (n_step_un (sch m sheet a₀) (env m sheet a₀) T (u r) (K (at r 1) (values a))) (un_step m sheet u f a l c r)
    unfolding un_step
    un_step_law u k = rw (same_row_law (f a l (at r 1)).words i₁.hold) (un_is m sheet a₀ deep i₁ c r typed room su (u r) (k _))

    pub get_step_law : ((t : Node ℕ) → left_tree r 0 T (t ∷ []) ≡ get T t (at r 2))
        → Is sheet a₀ (suc d) (suc (size (tr (at r 1)))) a l (n_step_get (sch m sheet a₀) (env m sheet a₀) T (K (at r 1) (values a)) (at r 2)) (get_step m sheet f a l c r)
    unfolding get_step
    get_step_law k = rw (same_row_law (f a l (at r 1)).words i₁.hold) (get_is m sheet a₀ deep i₁ c r typed room su (k _))

    pub has_step_law : ((t : Node ℕ) → left_tree r 0 T (t ∷ []) ≡ has T t (at r 2))
        → Is sheet a₀ (suc d) (suc (size (tr (at r 1)))) a l (n_step_has (sch m sheet a₀) (env m sheet a₀) T (K (at r 1) (values a)) (at r 2)) (has_step m sheet f a l c r)
    unfolding has_step
    has_step_law k = rw (same_row_law (f a l (at r 1)).words i₁.hold) (has_is m sheet a₀ deep i₁ c r typed room su (k _))

  -- two operands
  module _ (b₁ : Below (at r 1)) (b₂ : Below (at r 2)) (room : Room (suc (size (tr (at r 1)) + size (tr (at r 2)))) a l) (su : suits r 2 ≡ true) where
    abbrev p : ℕ
    p = size (tr (at r 1))

    abbrev q : ℕ
    q = size (tr (at r 2))

    left₂ : Is sheet a₀ d p a l (K (at r 1) (values a)) (f a l (at r 1))
    left₂ = first (at r 1) (suc (p + q)) b₁ room (omega arith)

    right₂ : Is sheet a₀ d q (f a l (at r 1)).words (f a l (at r 1)).log (K (at r 2) (K (at r 1) (values a)).rows) (f (f a l (at r 1)).words (f a l (at r 1)).log (at r 2))
    right₂ = then_more m sheet a₀ left₂ (suc (p + q)) room (omega arith) P (b₁.keeps (values a) good) q f (at r 2) (K (at r 2)) (omega arith) b₂.working

    row₁ : get_or (rows_of (f a l (at r 1)).words NODE) c [] ≡ r
    row₁ = same_row_law (f a l (at r 1)).words left₂.hold

    pub bin_step_law : (b : Bin) → ((t u : Node ℕ) → left_tree r 0 T (t ∷ u ∷ []) ≡ bin T b t u)
        → Is sheet a₀ (suc d) (suc (p + q)) a l (then_bin (sch m sheet a₀) (env m sheet a₀) T b (K (at r 1) (values a)) (K (at r 2))) (bin_step m sheet b f a l c r)
    unfolding bin_step
    bin_step_law b k = rw (row₁, same_row_law (f (f a l (at r 1)).words (f a l (at r 1)).log (at r 2)).words right₂.hold) (bin_is m sheet a₀ deep left₂ right₂ c r typed room su b (k _ _))

    pub rel_step_law : (b : Rel) → ((t u : Node ℕ) → left_tree r 0 T (t ∷ u ∷ []) ≡ rel T b t u)
        → Is sheet a₀ (suc d) (suc (p + q)) a l (then_rel (sch m sheet a₀) (env m sheet a₀) T b (K (at r 1) (values a)) (K (at r 2))) (rel_step m sheet b f a l c r)
    unfolding rel_step
    rel_step_law b k = rw (row₁, same_row_law (f (f a l (at r 1)).words (f a l (at r 1)).log (at r 2)).words right₂.hold) (rel_is m sheet a₀ deep left₂ right₂ c r typed room su b (k _ _))

    pub and_step : ((t u : Node ℕ) → left_tree r 0 T (t ∷ u ∷ []) ≡ and T t u)
        → Is sheet a₀ (suc d) (suc (p + q)) a l (then_and (sch m sheet a₀) (env m sheet a₀) T (K (at r 1) (values a)) (K (at r 2))) (lazy_step m sheet false f a l c r)
    unfolding lazy_step
    and_step k = rw row₁ (and_is m sheet a₀ deep left₂ f (at r 2) (K (at r 2)) P b₂.working (b₁.keeps (values a) good) (size_least (tr (at r 2))) c r typed room su k (sch m sheet a₀) (env m sheet a₀))

    pub or_step : ((t u : Node ℕ) → left_tree r 0 T (t ∷ u ∷ []) ≡ or T t u)
        → Is sheet a₀ (suc d) (suc (p + q)) a l (then_or (sch m sheet a₀) (env m sheet a₀) T (K (at r 1) (values a)) (K (at r 2))) (lazy_step m sheet true f a l c r)
    unfolding lazy_step
    or_step k = rw row₁ (or_is m sheet a₀ deep left₂ f (at r 2) (K (at r 2)) P b₂.working (b₁.keeps (values a) good) (size_least (tr (at r 2))) c r typed room su k (sch m sheet a₀) (env m sheet a₀))

  -- if
  module _ (b₁ : Below (at r 1)) (b₂ : Below (at r 2)) (b₃ : Below (at r 3)) (room : Room (suc (size (tr (at r 1)) + size (tr (at r 2)) + size (tr (at r 3)))) a l) (su : suits r 3 ≡ true) where
    pub if_step_law : ((t u v : Node ℕ) → left_tree r 0 T (t ∷ u ∷ v ∷ []) ≡ ite T t u v)
        → Is sheet a₀ (suc d) (suc (size (tr (at r 1)) + size (tr (at r 2)) + size (tr (at r 3)))) a l (then_if (sch m sheet a₀) (env m sheet a₀) T (K (at r 1) (values a)) (K (at r 2)) (K (at r 3))) (if_step m sheet f a l c r)
    unfolding if_step
    if_step_law k =
        let i = first (at r 1) (suc (size (tr (at r 1)) + size (tr (at r 2)) + size (tr (at r 3)))) b₁ room (omega arith) in
        rw (same_row_law (f a l (at r 1)).words i.hold)
        (if_is m sheet a₀ deep i f (at r 2) (at r 3) (K (at r 2)) (K (at r 3)) P b₂.working b₃.working
        (b₁.keeps (values a) good) (b₂.keeps (K (at r 1) (values a)).rows (b₁.keeps (values a) good)) c r typed room su k (sch m sheet a₀) (env m sheet a₀))

  -- sets and records
  kid_all : (xs : List ℕ) → ((x : ℕ) → InN x xs → Below x) → Kid m sheet a₀ P d f xs (works (sch m sheet a₀) (env m sheet a₀) (tys sheet a₀) trs xs) (sizes (children_over (tys sheet a₀) (λ n. n) trs xs))
  kid_all [] b = kid_none
  kid_all (x ∷ xs) b = kid_more (b x now').working (b x now').keeps (kid_all xs (λ y i. b y (later' i)))

  kid_args : (l : List ℕ) → ((x : ℕ) → InN x (others l) → Below x) → Kid m sheet a₀ P d f (others l) (works (sch m sheet a₀) (env m sheet a₀) (tys sheet a₀) trs (others l)) (size_args (args_over (tys sheet a₀) (λ n. n) trs l))
  kid_args [] b = kid_none
  kid_args (t ∷ []) b = kid_none
  kid_args (t ∷ x ∷ l) b = kid_more (b x now').working (b x now').keeps (kid_args l (λ y i. b y (later' i)))

  takes_all : (q : List ℕ) (i : ℕ) → drop i r ≡ q → Takes m sheet a₀ P c 1 i q
  takes_all [] i e = tt
  takes_all (x ∷ q) i e =
      let d = drop_here 0 r i x q e in
      let here : i + 1 - 1 ≡ i = omega arith in
      let next : i + 1 ≡ suc i = omega arith in
      (rw here d.0, takes_all q (i + 1) (rw next d.1))

  takes_args : (q : List ℕ) (i : ℕ) → drop i r ≡ q → Takes m sheet a₀ P c 2 i (others q)
  takes_args [] i e = tt
  takes_args (t ∷ []) i e = tt
  takes_args (t ∷ x ∷ q) i e =
      let d = drop_here 0 r (suc i) x q (drop_here 0 r i t (x ∷ q) e).1 in
      let here : i + 2 - 1 ≡ suc i = omega arith in
      let next : i + 2 ≡ suc (suc i) = omega arith in
      (rw here d.0, takes_args q (i + 2) (rw next d.1))

  less_room : {n : ℕ} → Room (suc n) a l → Room n a l
  less_room room = record { top = omega (arith, room.top); few = omega (arith, room.few); log = omega (arith, room.log) }

  pub set_step_law : ((x : ℕ) → InN x (drop 1 (items r)) → Below x) → Room (suc (sizes (children_over (tys sheet a₀) (λ n. n) trs (drop 1 (items r))))) a l → tag r - first_node ≡ SET_OF - first_node
      → Is sheet a₀ (suc d) (suc (sizes (children_over (tys sheet a₀) (λ n. n) trs (drop 1 (items r))))) a l
      (n_step_set (sch m sheet a₀) (env m sheet a₀) T (n_interprets (sch m sheet a₀) (env m sheet a₀) (children_over (tys sheet a₀) (λ n. n) trs (drop 1 (items r))) (values a))) (set_step m sheet f a l c r)
  unfolding set_step
  set_step_law below room e =
      let k = kids_are m sheet a₀ P deep f c 1 2 (kid_all (drop 1 (items r)) below) (takes_all (drop 1 (items r)) 2 (drop_two r)) a l 0 h good (less_room room) in
      let n : length (drop 1 (items r)) ≡ length r - 2 = simp length-drop (omega arith) in
      rw (← n, same_row_law _ k.hold)
      (is_as sheet a₀
      (set_is m sheet a₀ P k c r typed room (suits_at r (SET_OF - first_node) low e (length (drop 1 (items r)))) (left_at_law r (SET_OF - first_node) e 0 T _))
      (ap (n_step_set (sch m sheet a₀) (env m sheet a₀) T) (sym (all_are (sch m sheet a₀) (env m sheet a₀) (tys sheet a₀) trs (drop 1 (items r)) (values a)))))

  pub rec_step_law : ((x : ℕ) → InN x (others (drop 1 (items r))) → Below x) → Room (suc (size_args (args_over (tys sheet a₀) (λ n. n) trs (drop 1 (items r))))) a l → tag r - first_node ≡ RECORD_OF - first_node
      → length (drop 1 (items r)) ≡ 2 * length (others (drop 1 (items r)))
      → Is sheet a₀ (suc d) (suc (size_args (args_over (tys sheet a₀) (λ n. n) trs (drop 1 (items r))))) a l
      (n_step_rec (sch m sheet a₀) (env m sheet a₀) T (n_interpret_args (sch m sheet a₀) (env m sheet a₀) (args_over (tys sheet a₀) (λ n. n) trs (drop 1 (items r))) (values a))) (rec_step m sheet f a l c r)
  unfolding rec_step
  rec_step_law below room e even =
      let k = kids_are m sheet a₀ P deep f c 2 2 (kid_args (drop 1 (items r)) below) (takes_args (drop 1 (items r)) 2 (drop_two r)) a l 0 h good (less_room room) in
      let w : length (drop 1 (items r)) ≡ length r - 2 = simp length-drop (omega arith) in
      let n : length (others (drop 1 (items r))) ≡ (length r - 2) / 2 = sym (div-eq_of_eq-mul_right (omega arith) (omega (arith, even, w))) in
      rw (← n, same_row_law _ k.hold)
      (is_as sheet a₀
      (rec_is m sheet a₀ P k c r typed room
      (suits_at r (RECORD_OF - first_node) low e (length (others (drop 1 (items r)))) ∙ eq-eqb (length (drop 1 (items r))) (length (others (drop 1 (items r))) + length (others (drop 1 (items r)))) (omega (arith, even)))
      even (left_at_law r (RECORD_OF - first_node) e 0 T _))
      (ap (n_step_rec (sch m sheet a₀) (env m sheet a₀) T) (sym (args_are (sch m sheet a₀) (env m sheet a₀) (tys sheet a₀) trs (drop 1 (items r)) (values a)))))

  pub path_step_law : Below (at r 1) → Room (suc (size (tr (at r 1)))) a l → suits r 1 ≡ true
      → ((j : ℕ) (t : Node ℕ) → left_tree r j T (t ∷ []) ≡ haspath T t (at r (2 + j)) (drop (3 + j) (items r)))
      → TypesIn (tys sheet a₀) (n_step_path (sch m sheet a₀) (env m sheet a₀) T (K (at r 1) (values a)) (at r 2) (drop 3 (items r))).tree
      → Is sheet a₀ (suc d) (suc (size (tr (at r 1)))) a l (n_step_path (sch m sheet a₀) (env m sheet a₀) T (K (at r 1) (values a)) (at r 2) (drop 3 (items r))) (path_step m sheet f a l c r)
  unfolding path_step
  path_step_law b room su k lists =
      let i = first (at r 1) (suc (size (tr (at r 1)))) b room (omega arith) in
      rw (same_row_law (f a l (at r 1)).words i.hold) (path_any m sheet a₀ kinds d deep i c r typed room su k lists)

  -- the tree of the row for operation x, under a link with the values v and w
  abbrev pub tree_at : ℕ → ℕ → ℕ → Node ℕ
  tree_at v w x = get_or (tree_for (tys sheet a₀) (λ n. n) (linked (λ n. n) v w) trs r T (λ j. tr (at r j))) x (err tbool)

  -- EVERY OPERATION
  module _ (v w : ℕ) (even : tag r ≡ RECORD_OF → length (drop 1 (items r)) ≡ 2 * length (others (drop 1 (items r)))) where
    pub step_is : (x : ℕ) → tag r - first_node ≡ x → x ≤ SLOT - first_node → ((j : ℕ) → InN j (get_or (kids_for r) x []) → Below j) → Room (size (tree_at v w x)) a l
        → TypesIn (tys sheet a₀) (n_interpret (sch m sheet a₀) (env m sheet a₀) (tree_at v w x) (values a)).tree
        → Is sheet a₀ (suc d) (size (tree_at v w x)) a l (n_interpret (sch m sheet a₀) (env m sheet a₀) (tree_at v w x) (values a)) (get_or (steps m sheet v w) x (err_step m sheet) f a l c r)
    step_is zero e small below room lists = lit_step_law room
    step_is (suc zero) e small below room lists = err_step_law room
    step_is (suc (suc zero)) e small below room lists = var_step_law e room
    step_is (suc (suc (suc zero))) e small below room lists = and_step (below (at r 1) now') (below (at r 2) (later' now')) room (suits_at r _ low e 2) (λ t u. left_at_law r _ e 0 T (t ∷ u ∷ []))
    step_is (suc (suc (suc (suc zero)))) e small below room lists = or_step (below (at r 1) now') (below (at r 2) (later' now')) room (suits_at r _ low e 2) (λ t u. left_at_law r _ e 0 T (t ∷ u ∷ []))
    step_is (suc (suc (suc (suc (suc zero))))) e small below room lists = bin_step_law (below (at r 1) now') (below (at r 2) (later' now')) room (suits_at r _ low e 2) beq (λ t u. left_at_law r _ e 0 T (t ∷ u ∷ []))
    step_is (suc (suc (suc (suc (suc (suc zero)))))) e small below room lists = bin_step_law (below (at r 1) now') (below (at r 2) (later' now')) room (suits_at r _ low e 2) blt (λ t u. left_at_law r _ e 0 T (t ∷ u ∷ []))
    step_is (suc (suc (suc (suc (suc (suc (suc zero))))))) e small below room lists = bin_step_law (below (at r 1) now') (below (at r 2) (later' now')) room (suits_at r _ low e 2) ble (λ t u. left_at_law r _ e 0 T (t ∷ u ∷ []))
    step_is (suc (suc (suc (suc (suc (suc (suc (suc zero)))))))) e small below room lists = bin_step_law (below (at r 1) now') (below (at r 2) (later' now')) room (suits_at r _ low e 2) badd (λ t u. left_at_law r _ e 0 T (t ∷ u ∷ []))
    step_is (suc (suc (suc (suc (suc (suc (suc (suc (suc zero))))))))) e small below room lists = bin_step_law (below (at r 1) now') (below (at r 2) (later' now')) room (suits_at r _ low e 2) bsub (λ t u. left_at_law r _ e 0 T (t ∷ u ∷ []))
    step_is (suc (suc (suc (suc (suc (suc (suc (suc (suc (suc zero)))))))))) e small below room lists = bin_step_law (below (at r 1) now') (below (at r 2) (later' now')) room (suits_at r _ low e 2) bmul (λ t u. left_at_law r _ e 0 T (t ∷ u ∷ []))
    step_is (suc (suc (suc (suc (suc (suc (suc (suc (suc (suc (suc zero))))))))))) e small below room lists = rel_step_law (below (at r 1) now') (below (at r 2) (later' now')) room (suits_at r _ low e 2) rin (λ t u. left_at_law r _ e 0 T (t ∷ u ∷ []))
    step_is (suc (suc (suc (suc (suc (suc (suc (suc (suc (suc (suc (suc zero)))))))))))) e small below room lists = rel_step_law (below (at r 1) now') (below (at r 2) (later' now')) room (suits_at r _ low e 2) rgettag (λ t u. left_at_law r _ e 0 T (t ∷ u ∷ []))
    step_is (suc (suc (suc (suc (suc (suc (suc (suc (suc (suc (suc (suc (suc zero))))))))))))) e small below room lists = rel_step_law (below (at r 1) now') (below (at r 2) (later' now')) room (suits_at r _ low e 2) rhastag (λ t u. left_at_law r _ e 0 T (t ∷ u ∷ []))
    step_is (suc (suc (suc (suc (suc (suc (suc (suc (suc (suc (suc (suc (suc (suc zero)))))))))))))) e small below room lists = bin_step_law (below (at r 1) now') (below (at r 2) (later' now')) room (suits_at r _ low e 2) bcontains (λ t u. left_at_law r _ e 0 T (t ∷ u ∷ []))
    step_is (suc (suc (suc (suc (suc (suc (suc (suc (suc (suc (suc (suc (suc (suc (suc zero))))))))))))))) e small below room lists = bin_step_law (below (at r 1) now') (below (at r 2) (later' now')) room (suits_at r _ low e 2) ball (λ t u. left_at_law r _ e 0 T (t ∷ u ∷ []))
    step_is (suc (suc (suc (suc (suc (suc (suc (suc (suc (suc (suc (suc (suc (suc (suc (suc zero)))))))))))))))) e small below room lists = bin_step_law (below (at r 1) now') (below (at r 2) (later' now')) room (suits_at r _ low e 2) bany (λ t u. left_at_law r _ e 0 T (t ∷ u ∷ []))
    step_is (suc (suc (suc (suc (suc (suc (suc (suc (suc (suc (suc (suc (suc (suc (suc (suc (suc zero))))))))))))))))) e small below room lists = if_step_law (below (at r 1) now') (below (at r 2) (later' now')) (below (at r 3) (later' (later' now'))) room (suits_at r _ low e 3) (λ t u v. left_at_law r _ e 0 T (t ∷ u ∷ v ∷ []))
    step_is (suc (suc (suc (suc (suc (suc (suc (suc (suc (suc (suc (suc (suc (suc (suc (suc (suc (suc zero)))))))))))))))))) e small below room lists = un_step_law (below (at r 1) now') room (suits_at r _ low e 1) (λ r. uis (at r 2)) (λ t. left_at_law r _ e 0 T (t ∷ []))
    step_is (suc (suc (suc (suc (suc (suc (suc (suc (suc (suc (suc (suc (suc (suc (suc (suc (suc (suc (suc zero))))))))))))))))))) e small below room lists = un_step_law (below (at r 1) now') room (suits_at r _ low e 1) (λ r. ulike (pattern_of (drop 2 (items r)))) (λ t. left_at_law r _ e 0 T (t ∷ []))
    step_is (suc (suc (suc (suc (suc (suc (suc (suc (suc (suc (suc (suc (suc (suc (suc (suc (suc (suc (suc (suc zero)))))))))))))))))))) e small below room lists = get_step_law (below (at r 1) now') room (suits_at r _ low e 1) (λ t. left_at_law r _ e 0 T (t ∷ []))
    step_is (suc (suc (suc (suc (suc (suc (suc (suc (suc (suc (suc (suc (suc (suc (suc (suc (suc (suc (suc (suc (suc zero))))))))))))))))))))) e small below room lists = has_step_law (below (at r 1) now') room (suits_at r _ low e 1) (λ t. left_at_law r _ e 0 T (t ∷ []))
    step_is (suc (suc (suc (suc (suc (suc (suc (suc (suc (suc (suc (suc (suc (suc (suc (suc (suc (suc (suc (suc (suc (suc zero)))))))))))))))))))))) e small below room lists = path_step_law (below (at r 1) now') room (suits_at r _ low e 1) (λ j t. left_at_law r _ e j T (t ∷ [])) lists
    step_is (suc (suc (suc (suc (suc (suc (suc (suc (suc (suc (suc (suc (suc (suc (suc (suc (suc (suc (suc (suc (suc (suc (suc zero))))))))))))))))))))))) e small below room lists = un_step_law (below (at r 1) now') room (suits_at r _ low e 1) (λ r. unot) (λ t. left_at_law r _ e 0 T (t ∷ []))
    step_is (suc (suc (suc (suc (suc (suc (suc (suc (suc (suc (suc (suc (suc (suc (suc (suc (suc (suc (suc (suc (suc (suc (suc (suc zero)))))))))))))))))))))))) e small below room lists = un_step_law (below (at r 1) now') room (suits_at r _ low e 1) (λ r. uneg) (λ t. left_at_law r _ e 0 T (t ∷ []))
    step_is (suc (suc (suc (suc (suc (suc (suc (suc (suc (suc (suc (suc (suc (suc (suc (suc (suc (suc (suc (suc (suc (suc (suc (suc (suc zero))))))))))))))))))))))))) e small below room lists = un_step_law (below (at r 1) now') room (suits_at r _ low e 1) (λ r. uempty) (λ t. left_at_law r _ e 0 T (t ∷ []))
    step_is (suc (suc (suc (suc (suc (suc (suc (suc (suc (suc (suc (suc (suc (suc (suc (suc (suc (suc (suc (suc (suc (suc (suc (suc (suc (suc zero)))))))))))))))))))))))))) e small below room lists = set_step_law below room e
    step_is (suc (suc (suc (suc (suc (suc (suc (suc (suc (suc (suc (suc (suc (suc (suc (suc (suc (suc (suc (suc (suc (suc (suc (suc (suc (suc (suc zero))))))))))))))))))))))))))) e small below room lists = rec_step_law below room e (even (omega (arith, e, low)))
    step_is (suc (suc (suc (suc (suc (suc (suc (suc (suc (suc (suc (suc (suc (suc (suc (suc (suc (suc (suc (suc (suc (suc (suc (suc (suc (suc (suc (suc zero)))))))))))))))))))))))))))) e small below room lists = slot_step_law v w room
    step_is (suc (suc (suc (suc (suc (suc (suc (suc (suc (suc (suc (suc (suc (suc (suc (suc (suc (suc (suc (suc (suc (suc (suc (suc (suc (suc (suc (suc (suc y))))))))))))))))))))))))))))) e small below room lists = absurd (omega (arith, small))

-- `haspath` over words is the numbered one: the walk, and what is left over of it with its types. Assumes nothing.
use mathlib.Core.Path.{◌≡◌, refl, sym, ◌∙◌, ap, subst}
use mathlib.Core.Bool.{Bool, true, false}
use mathlib.Core.Option.{Option, none, some}
use mathlib.Core.List.{List, [], ◌∷◌}
use Prim.Native.Nat.{ℕ, zero, suc, ◌+◌, ◌≤◌, ◌<◌}
use native.Mathlib.Omega.{arith}
use lib.ListN.{length, get_or, take, drop}
use Rattle.words.specs.Log.{appended}
use Rattle.words.proofs.Logs.{appended_is}
use Rattle.cedar.specs.Value.{on_some}
use Rattle.cedar.specs.Types.{Ty}
use Rattle.cedar.specs.Residual.{Node, lit, err, var, and, or, ite, un, bin, rel, get, has, haspath, set, rec, ty_of, can_err, Stage, value, error, open', view}
use Rattle.cedar.specs.Interpret.{alone}
use Rattle.cedar.specs.TypeRules.{has_rule}
use Rattle.cedar.specs.Rows.{Entries, Row, rbool, rlong, rtext, rent, rset, rrec}
use Rattle.cedar.specs.Numbered.{Give, NEnv, give_row, r_rec, nentity, on_entries, row_at, is_some, entry_of, Out, out, make, n_by_rule, n_left, n_walk, n_path, n_step_path}
use Rattle.sheet.specs.Forms.{Mode, items, at, TYPE, alone_row}
use Rattle.sheet.proofs.content.TypeNumbers.{Listed, TypesIn}
use Rattle.table.specs.Layout.{rows_of}
use Rattle.value.specs.Lines.{place_of}
use Rattle.value.specs.Made.{bool_row}
use Rattle.residual.specs.Rows.{lit_row, word_at}
use Rattle.residual.specs.Trees.{rlit, rnil, rcons, flat, flats, left_tree, suits, tree_of, trees_of, whole_lit, whole_none, whole_more}
use Rattle.residual.proofs.Blocks.{flat_length}
use Rattle.residual.proofs.Meaning.{stage_for}
use Rattle.tpe.specs.Run.{O, err_of, left_of, made_of, Walk, lost, says, stuck, walk_from, entity_type, unmoved_of, stuck_of, walked_of, path_by, path_of, ty_in}
use Rattle.tpe.proofs.Stands.{Hold, values, schema_is, types_are, env_is, Room, Space, space_spent, tys, nodes, ty, Is, err_is, left_is, make_bool, cut_back, drop_here}
use Rattle.tpe.proofs.Strict.{Over, over1, over_left, over_ruled, last_stage, last_type, last_errs}
use Rattle.tpe.proofs.Operations.{sch, env}
use Rattle.tpe.proofs.Outcomes.{bool_row_law}

-- two ways to take entries apart, alike
entries_both : {A B : Type 0} (Q : A → B → Type 0) (N : NEnv) (R : List Row) (d : A) (e : B) (u : ℕ → ℕ → A) (v : ℕ → ℕ → B) (f : Entries → A) (g : Entries → B)
    → Q d e → ((k i : ℕ) → Q (u k i) (v k i)) → ((x : Entries) → Q (f x) (g x)) → (r : Row) → Q (on_entries N R d u r f) (on_entries N R e v r g)
entries_both Q N R d e u v f g p q h (rbool b) = p
entries_both Q N R d e u v f g p q h (rlong n) = p
entries_both Q N R d e u v f g p q h (rtext t) = p
entries_both Q N R d e u v f g p q h (rent k t) = go (nentity N k t).attrs
  where
    of : (r : Row) → Q (r_rec d r f) (r_rec e r g)
    of (rbool b) = p
    of (rlong n) = p
    of (rtext t) = p
    of (rent k t) = p
    of (rset l) = p
    of (rrec x) = h x

    go : (o : Option Give) → Q (on_some (u k t) o (λ a. r_rec d (give_row R a) f)) (on_some (v k t) o (λ a. r_rec e (give_row R a) g))
    go none = q k t
    go (some a) = of (give_row R a)
entries_both Q N R d e u v f g p q h (rset l) = p
entries_both Q N R d e u v f g p q h (rrec x) = h x

item_at : (r : List ℕ) (i k : ℕ) → i ≡ k → get_or (items r) i 0 ≡ at r k
item_at [] i k e = refl
item_at (t ∷ l) i k e = ap (λ (j : ℕ). get_or l j 0) e

drop_at : (l : List ℕ) (i k : ℕ) → i ≡ k → drop i l ≡ drop k l
drop_at l i k e = ap (λ (j : ℕ). drop j l) e

-- a tree that is a value is a literal of its own type
abbrev OwnLit : Node ℕ → Stage ℕ → Type 0
OwnLit t (value v) = t ≡ lit (ty_of t) v
OwnLit t error = Unit {0}
OwnLit t open' = Unit {0}

own_lit : (t : Node ℕ) → OwnLit t (view t)
own_lit (lit T v) = refl
own_lit (err T) = tt
own_lit (var T x) = tt
own_lit (and T a b) = tt
own_lit (or T a b) = tt
own_lit (ite T c a b) = tt
own_lit (un T u a) = tt
own_lit (bin T o a b) = tt
own_lit (rel T o a b) = tt
own_lit (get T a t) = tt
own_lit (has T a t) = tt
own_lit (haspath T a t ts) = tt
own_lit (set T es) = tt
own_lit (rec T gs) = tt

-- the type line of a listed entity type of kind k alone is found by its row
abbrev pub Kinds : List ℕ → List ℕ → Type 0
Kinds sheet a₀ = (k : ℕ) → Listed (tys sheet a₀) (alone k) → (place_of (alone_row k) (rows_of a₀ TYPE) < length (tys sheet a₀)) × (ty sheet a₀ (place_of (alone_row k) (rows_of a₀ TYPE)) ≡ alone k)

module _ (m : Mode) (sheet a₀ : List ℕ) (kinds : Kinds sheet a₀) where
  module _ (d n : ℕ) (most : 1 ≤ n) (a l a₁ l₁ : List ℕ) (R : List Row) (room : Room (suc n) a l) (h : Hold a₀ a₁) (space : Space 3 (suc n) a a₁) (rows : values a₁ ≡ R)
      (c : ℕ) (r : List ℕ) (typed : at r 0 < length (tys sheet a₀)) (su : suits (get_or (nodes sheet a₀) c []) 1 ≡ true)
      (keep : (j : ℕ) (t : Node ℕ) → left_tree (get_or (nodes sheet a₀) c []) j (ty sheet a₀ (at r 0)) (t ∷ []) ≡ haspath (ty sheet a₀ (at r 0)) t (at r (2 + j)) (drop (3 + j) (items r)))
      (cut : take (length l) l₁ ≡ l) (A : Ty) (x : ℕ)
      (unmoved : Is sheet a₀ (suc (suc d)) (suc n) a l (n_left (sch m sheet a₀) (env m sheet a₀) (ty sheet a₀ (at r 0)) (lit A x) (at r 2) (drop 3 (items r)) R) (unmoved_of m sheet a₁ l₁ (length l) c r)) where
    abbrev T : Ty
    T = ty sheet a₀ (at r 0)

    entity_type_law : (k : ℕ) → Listed (tys sheet a₀) (alone k) → (entity_type a₁ k < length (tys sheet a₀)) × (ty sheet a₀ (entity_type a₁ k) ≡ alone k)
    unfolding entity_type
    entity_type_law k e = subst (λ (rs : List (List ℕ)). (place_of (alone_row k) rs < length (tys sheet a₀)) × (ty sheet a₀ (place_of (alone_row k) rs) ≡ alone k)) (sym (h.same TYPE (omega arith))) (kinds k e)

    says_is : (b : Bool) → Is sheet a₀ (suc (suc d)) (suc n) a l (make T (rbool b) R) (made_of a₁ l (at r 0) (bool_row b))
    says_is b = rw (← rows, ← bool_row_law b) (make_bool sheet a₀ (suc d) (suc n) (omega arith) a l a₁ room h space b (at r 0) typed)

    lost_is : Is sheet a₀ (suc (suc d)) (suc n) a l (out R (err T)) (err_of a₁ l (at r 0))
    lost_is = rw (← rows) (err_is sheet a₀ (suc d) (suc n) (omega arith) a l a₁ room h (space_spent 3 (suc n) a a₁ space) (at r 0) typed)

    left_over : (j v k : ℕ) → entity_type a₁ k < length (tys sheet a₀) → ty sheet a₀ (entity_type a₁ k) ≡ alone k
        → Is sheet a₀ (suc (suc d)) (suc n) a l (out R (haspath T (lit (alone k) v) (at r (2 + j)) (drop (3 + j) (items r)))) (left_of a₁ (appended l (lit_row v (entity_type a₁ k))) (length l) c j (at r 0))
    unfolding flat flats tree_of trees_of
    left_over j v k t e =
        rw (← rows)
        (left_is sheet a₀ (suc d) (suc n) (omega arith) a l a₁ room h (space_spent 3 (suc n) a a₁ space) (appended l (lit_row v (entity_type a₁ k))) (rcons (rlit v (entity_type a₁ k)) rnil)
        (appended_is l (lit_row v (entity_type a₁ k)) (omega (arith, room.log))) (omega (arith, most)) (whole_more (whole_lit t) whole_none) c j (at r 0) typed su
        (haspath T (lit (alone k) v) (at r (2 + j)) (drop (3 + j) (items r))) (keep j (lit (ty sheet a₀ (entity_type a₁ k)) v) ∙ ap (λ (B : Ty). haspath T (lit B v) (at r (2 + j)) (drop (3 + j) (items r))) e))

    stuck_is : (j v k : ℕ) (o : Option Bool) → TypesIn (tys sheet a₀) (n_by_rule T false o (out R (haspath T (lit (alone k) v) (at r (2 + j)) (drop (3 + j) (items r)))) R).tree
        → Is sheet a₀ (suc (suc d)) (suc n) a l (n_by_rule T false o (out R (haspath T (lit (alone k) v) (at r (2 + j)) (drop (3 + j) (items r)))) R) (stuck_of m sheet a₁ l c r j v k o)
    unfolding stuck_of
    stuck_is j v k none lists = let (t, e) = entity_type_law k lists.1 in left_over j v k t e
    stuck_is j v k (some b) lists = says_is b

    -- what a walk leaves, where its types are listed
    abbrev Walked : Out → Walk → Type 0
    Walked X w = TypesIn (tys sheet a₀) X.tree → Is sheet a₀ (suc (suc d)) (suc n) a l X (walked_of m sheet a₁ l₁ (length l) c r w)

    walked_lost : Walked (out R (err T)) lost
    unfolding walked_of
    walked_lost lists = rw cut lost_is

    walked_says : (b : Bool) → Walked (make T (rbool b) R) (says b)
    unfolding walked_of
    walked_says b lists = rw cut (says_is b)

    -- the type of an entity reached after j steps, by its kind; with no step taken the value is the child's
    abbrev type_for : ℕ → ℕ → Ty
    type_for zero = λ k. A
    type_for (suc j) = alone

    abbrev Reached : ℕ → ℕ → Type 0
    Reached zero v = v ≡ x
    Reached (suc j) v = Unit {0}

    walked_stuck : (j v k t : ℕ) (us : List ℕ) → Reached j v → t ≡ at r (2 + j) → us ≡ drop (3 + j) (items r)
        → Walked (n_left (sch m sheet a₀) (env m sheet a₀) T (lit (type_for j k) v) t us R) (stuck j v k)
    unfolding walked_of
    walked_stuck zero v k t us e et eu = λ lists. rw (e, et, eu) unmoved
    walked_stuck (suc j) v k t us e et eu = rw (et, eu, cut, schema_is m sheet a₀ a₁ h) (stuck_is (suc j) v k (has_rule (sch m sheet a₀) (at r (2 + suc j)) (alone k)))

    walk_is : (us : List ℕ) (t v j : ℕ) → Reached j v → t ≡ at r (2 + j) → us ≡ drop (3 + j) (items r)
        → Walked (n_walk (sch m sheet a₀) (env m sheet a₀) T R (type_for j) us t v) (walk_from (env m sheet a₀) R us t v j)
    unfolding walk_from
    walk_is [] t v j e et eu =
        entries_both Walked (env m sheet a₀) R (out R (err T)) lost (λ k i. n_left (sch m sheet a₀) (env m sheet a₀) T (lit (type_for j k) v) t [] R) (λ k i. stuck j v k)
        (λ e. make T (rbool (is_some (entry_of t e))) R) (λ e. says (is_some (entry_of t e)))
        walked_lost (λ k i. walked_stuck j v k t [] e et eu) (λ e. walked_says (is_some (entry_of t e))) (row_at R v)
    walk_is (u ∷ us) t v j e et eu =
        let (p, q) = drop_here 0 (items r) (3 + j) u us (sym eu) in
        entries_both Walked (env m sheet a₀) R (out R (err T)) lost (λ k i. n_left (sch m sheet a₀) (env m sheet a₀) T (lit (type_for j k) v) t (u ∷ us) R) (λ k i. stuck j v k)
        (λ e. on_some (make T (rbool false) R) (entry_of t e) (n_walk (sch m sheet a₀) (env m sheet a₀) T R alone us u)) (λ e. on_some (says false) (entry_of t e) (λ w. walk_from (env m sheet a₀) R us u w (suc j)))
        walked_lost (λ k i. walked_stuck j v k t (u ∷ us) e et eu) (λ e. go (entry_of t e) (λ w. walk_is us u w (suc j) tt (sym p ∙ item_at r (3 + j) (2 + suc j) (omega arith)) (sym q ∙ drop_at (items r) (suc (3 + j)) (3 + suc j) (omega arith)))) (row_at R v)
      where
        go : (o : Option ℕ) → ((w : ℕ) → Walked (n_walk (sch m sheet a₀) (env m sheet a₀) T R alone us u w) (walk_from (env m sheet a₀) R us u w (suc j)))
            → Walked (on_some (make T (rbool false) R) o (n_walk (sch m sheet a₀) (env m sheet a₀) T R alone us u)) (on_some (says false) o (λ w. walk_from (env m sheet a₀) R us u w (suc j)))
        go none ih = walked_says false
        go (some w) ih = ih w

  module _ {d n : ℕ} {a l : List ℕ} {X : Out} {o : O} (deep : suc d ≤ 64) (i : Is sheet a₀ (suc d) n a l X o) (c : ℕ) (r : List ℕ) (typed : at r 0 < length (tys sheet a₀)) (room : Room (suc n) a l) (su : suits (get_or (nodes sheet a₀) c []) 1 ≡ true)
      (keep : (j : ℕ) (t : Node ℕ) → left_tree (get_or (nodes sheet a₀) c []) j (ty sheet a₀ (at r 0)) (t ∷ []) ≡ haspath (ty sheet a₀ (at r 0)) t (at r (2 + j)) (drop (3 + j) (items r))) where
    abbrev over : Over sheet a₀ (suc d) (suc n) a l o.words o.log X.rows c (at r 0) (haspath (ty sheet a₀ (at r 0)) X.tree (at r 2) (drop 3 (items r)))
    over = over1 sheet a₀ deep i c (at r 0) typed room su (haspath (ty sheet a₀ (at r 0)) X.tree (at r 2) (drop 3 (items r))) (keep 0 X.tree)

    cut : take (length l) o.log ≡ l
    cut = cut_back l (flat i.res) o.log i.log

    block_type : ty_in m sheet o.words (word_at o.log (length o.log) 3) ≡ ty_of X.tree
    block_type = types_are m sheet a₀ o.words i.hold (word_at o.log (length o.log) 3) ∙ last_type sheet a₀ deep i

    -- left over with no step taken
    abbrev Unmoved : Node ℕ → Type 0
    Unmoved t = Is sheet a₀ (suc (suc d)) (suc n) a l (n_left (sch m sheet a₀) (env m sheet a₀) (ty sheet a₀ (at r 0)) t (at r 2) (drop 3 (items r)) X.rows) (unmoved_of m sheet o.words o.log (length l) c r)

    unmoved_is : Unmoved X.tree
    unfolding unmoved_of
    unmoved_is = rw (last_errs sheet a₀ deep i, schema_is m sheet a₀ o.words i.hold, block_type) (over_ruled sheet a₀ over (can_err X.tree) (has_rule (sch m sheet a₀) (at r 2) (ty_of X.tree)) _ _ (over_left sheet a₀ over))

    path_by_law : (s : Stage ℕ) → OwnLit X.tree s → TypesIn (tys sheet a₀) (n_path (sch m sheet a₀) (env m sheet a₀) (ty sheet a₀ (at r 0)) X.tree (at r 2) (drop 3 (items r)) s X.rows).tree
        → Is sheet a₀ (suc (suc d)) (suc n) a l (n_path (sch m sheet a₀) (env m sheet a₀) (ty sheet a₀ (at r 0)) X.tree (at r 2) (drop 3 (items r)) s X.rows) (path_by m sheet o.words o.log (length l) c r (stage_for s))
    unfolding path_by
    path_by_law (value v) e lists =
        rw (env_is m sheet a₀ o.words i.hold, i.rows)
        (walk_is d n (omega (arith, i.short, flat_length i.res)) a l o.words o.log X.rows room i.hold over.space i.rows c r typed su keep cut (ty_of X.tree) v
        (subst Unmoved e unmoved_is) (drop 3 (items r)) (at r 2) v 0 refl refl refl lists)
    path_by_law error e lists = rw (cut, ← i.rows) (err_is sheet a₀ (suc d) (suc n) (omega arith) a l o.words room i.hold (space_spent 3 (suc n) a o.words over.space) (at r 0) typed)
    path_by_law open' e lists = unmoved_is

    pub path_is : TypesIn (tys sheet a₀) (n_step_path (sch m sheet a₀) (env m sheet a₀) (ty sheet a₀ (at r 0)) X (at r 2) (drop 3 (items r))).tree
        → Is sheet a₀ (suc (suc d)) (suc n) a l (n_step_path (sch m sheet a₀) (env m sheet a₀) (ty sheet a₀ (at r 0)) X (at r 2) (drop 3 (items r))) (path_of m sheet (length l) c r o)
    unfolding path_of
    path_is lists = rw (last_stage sheet a₀ deep i) (path_by_law (view X.tree) (own_lit X.tree) lists)

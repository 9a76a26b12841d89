-- The strict operations of one and of two operands, and attributes: each over words is its numbered step. Assumes nothing.
use mathlib.Core.Path.{◌≡◌, refl, sym, ◌∙◌, ap, ap₂}
use mathlib.Core.Bool.{Bool, true, false}
use mathlib.Core.Option.{none}
use mathlib.Core.List.{List, [], ◌∷◌, ◌++◌, append_assoc, append-nil}
use Prim.Native.Nat.{ℕ, suc, ◌+◌, ◌≤◌, ◌<◌}
use native.Mathlib.Omega.{arith}
use lib.ListN.{length, get_or, length-append}
use Rattle.cedar.specs.Types.{Ty, Schema}
use Rattle.cedar.specs.Residual.{Node, un, bin, rel, get, has, Un, Bin, Rel, ty_of, can_err}
use Rattle.cedar.specs.TypeRules.{un_rule, bin_rule, rel_rule, has_rule}
use Rattle.cedar.specs.Rows.{Row}
use Rattle.cedar.specs.Numbered.{NEnv, row_at, Out, n_by_rule, n_un, n_bin, n_rel, n_get, n_has, n_step_un, n_step_bin, n_step_rel, n_step_get, n_step_has}
use Rattle.cedar.proofs.Outcomes.{made_un, made_bin, made_rel, made_get, made_has}
use Rattle.sheet.specs.Forms.{Mode, at}
use Rattle.sheet.specs.Content.{schema, n_env}
use Rattle.table.specs.Layout.{held}
use Rattle.residual.specs.Rows.{word_at}
use Rattle.residual.specs.Trees.{rnil, rcons, flat, flats, left_tree, suits, trees_of, whole_none, whole_more}
use Rattle.tpe.specs.Run.{O, un_of, bin_of, rel_of, get_of, has_of, ty_in}
use Rattle.tpe.proofs.Outcomes.{row_fine}
use Rattle.tpe.proofs.Stands.{Hold, schema_is, types_are, env_by_law, Room, tys, nodes, ty, Is, is_as}
use Rattle.tpe.proofs.Strict.{Over, one_is, two_is, last_stage, last_type, last_errs, first_stage, first_type, first_errs, over1}

-- where no rule is asked
no_rule : (T : Ty) (b : Bool) (X : Out) (R : List Row) → n_by_rule T b none X R ≡ X
no_rule T true X R = refl
no_rule T false X R = refl

module _ (m : Mode) (sheet a₀ : List ℕ) where
  abbrev pub sch : Schema
  sch = schema (held sheet a₀ [])

  abbrev pub env : NEnv
  env = n_env m (held [] a₀ [])

  -- the type of a block by what the words hold
  block_type : (a l : List ℕ) (e : ℕ) → Hold a₀ a → (A : Ty) → ty sheet a₀ (word_at l e 3) ≡ A → ty_in m sheet a (word_at l e 3) ≡ A
  block_type a l e h A q = types_are m sheet a₀ a h (word_at l e 3) ∙ q

  module _ {d n : ℕ} {a l : List ℕ} {X : Out} {o : O} (deep : d ≤ 64) (i : Is sheet a₀ d n a l X o) (c : ℕ) (r : List ℕ) (typed : at r 0 < length (tys sheet a₀)) (room : Room (suc n) a l) (su : suits (get_or (nodes sheet a₀) c []) 1 ≡ true) where
    pub un_is : (u : Un) → left_tree (get_or (nodes sheet a₀) c []) 0 (ty sheet a₀ (at r 0)) (X.tree ∷ []) ≡ un (ty sheet a₀ (at r 0)) u X.tree
        → Is sheet a₀ (suc d) (suc n) a l (n_step_un sch env (ty sheet a₀ (at r 0)) u X) (un_of m sheet u (length l) c r o)
    unfolding un_of
    un_is u k =
        rw (schema_is m sheet a₀ o.words i.hold, i.rows, block_type o.words o.log (length o.log) i.hold (ty_of X.tree) (last_type sheet a₀ deep i))
        (one_is sheet a₀ (over1 sheet a₀ deep i c (at r 0) typed room su (un (ty sheet a₀ (at r 0)) u X.tree) k) X.tree (last_errs sheet a₀ deep i) (last_stage sheet a₀ deep i)
        (un_rule sch u (ty_of X.tree)) (λ v. n_un sch u (row_at X.rows v)) (λ v. made_un row_fine sch u (row_at X.rows v)))

    pub get_is : left_tree (get_or (nodes sheet a₀) c []) 0 (ty sheet a₀ (at r 0)) (X.tree ∷ []) ≡ get (ty sheet a₀ (at r 0)) X.tree (at r 2)
        → Is sheet a₀ (suc d) (suc n) a l (n_step_get sch env (ty sheet a₀ (at r 0)) X (at r 2)) (get_of m sheet (length l) c r o)
    unfolding get_of
    get_is k =
        rw (env_by_law m sheet a₀ o.words i.hold, i.rows)
        (is_as sheet a₀ (one_is sheet a₀ (over1 sheet a₀ deep i c (at r 0) typed room su (get (ty sheet a₀ (at r 0)) X.tree (at r 2)) k) X.tree (last_errs sheet a₀ deep i) (last_stage sheet a₀ deep i)
        none (λ v. n_get env X.rows (at r 2) (row_at X.rows v)) (λ v. made_get row_fine env X.rows (at r 2) (row_at X.rows v)))
        (no_rule _ (can_err X.tree) _ _))

    pub has_is : left_tree (get_or (nodes sheet a₀) c []) 0 (ty sheet a₀ (at r 0)) (X.tree ∷ []) ≡ has (ty sheet a₀ (at r 0)) X.tree (at r 2)
        → Is sheet a₀ (suc d) (suc n) a l (n_step_has sch env (ty sheet a₀ (at r 0)) X (at r 2)) (has_of m sheet (length l) c r o)
    unfolding has_of
    has_is k =
        rw (schema_is m sheet a₀ o.words i.hold, env_by_law m sheet a₀ o.words i.hold, i.rows, block_type o.words o.log (length o.log) i.hold (ty_of X.tree) (last_type sheet a₀ deep i))
        (one_is sheet a₀ (over1 sheet a₀ deep i c (at r 0) typed room su (has (ty sheet a₀ (at r 0)) X.tree (at r 2)) k) X.tree (last_errs sheet a₀ deep i) (last_stage sheet a₀ deep i)
        (has_rule sch (at r 2) (ty_of X.tree)) (λ v. n_has env X.rows (at r 2) (row_at X.rows v)) (λ v. made_has row_fine env X.rows (at r 2) (row_at X.rows v)))

  module _ {d p q : ℕ} {a l : List ℕ} {X Y : Out} {o w : O} (deep : d ≤ 64) (i : Is sheet a₀ d p a l X o) (j : Is sheet a₀ d q o.words o.log Y w)
      (c : ℕ) (r : List ℕ) (typed : at r 0 < length (tys sheet a₀)) (room : Room (suc (p + q)) a l) (su : suits (get_or (nodes sheet a₀) c []) 2 ≡ true) where
    pub over2 : (keep : Node ℕ) → left_tree (get_or (nodes sheet a₀) c []) 0 (ty sheet a₀ (at r 0)) (X.tree ∷ Y.tree ∷ []) ≡ keep
        → Over sheet a₀ d (suc (p + q)) a l w.words w.log Y.rows c (at r 0) keep
    unfolding flats trees_of
    over2 keep k = record {
      room = room;
      hold = j.hold;
      space = record { top = omega (arith, i.top, j.top); few = omega (arith, i.few, j.few) };
      rows = j.rows;
      ress = rcons i.res (rcons j.res rnil);
      log = j.log ∙ ap (λ (z : List ℕ). z ++ flat j.res) i.log ∙ append_assoc l (flat i.res) (flat j.res)
          ∙ ap (λ (z : List ℕ). l ++ (flat i.res ++ z)) (sym (append-nil (flat j.res)));
      short = omega (arith, i.short, j.short, length-append (flat i.res) (flat j.res ++ []), length-append (flat j.res) []);
      wholes = whole_more i.whole (whole_more j.whole whole_none);
      typed = typed;
      suit = su;
      kept = ap₂ (λ (t u : Node ℕ). left_tree (get_or (nodes sheet a₀) c []) 0 (ty sheet a₀ (at r 0)) (t ∷ u ∷ [])) i.tree j.tree ∙ k;
    }

    pub bin_is : (b : Bin) → left_tree (get_or (nodes sheet a₀) c []) 0 (ty sheet a₀ (at r 0)) (X.tree ∷ Y.tree ∷ []) ≡ bin (ty sheet a₀ (at r 0)) b X.tree Y.tree
        → Is sheet a₀ (suc d) (suc (p + q)) a l (n_step_bin sch env (ty sheet a₀ (at r 0)) b X.tree Y) (bin_of m sheet b (length l) (length o.log) c r w)
    unfolding bin_of
    bin_is b k =
        rw (
          schema_is m sheet a₀ w.words j.hold,
          j.rows,
          block_type w.words w.log (length o.log) j.hold (ty_of X.tree) (first_type sheet a₀ deep i j),
          block_type w.words w.log (length w.log) j.hold (ty_of Y.tree) (last_type sheet a₀ deep j),
        )
        (two_is sheet a₀ (over2 (bin (ty sheet a₀ (at r 0)) b X.tree Y.tree) k) (length o.log) X.tree Y.tree
        (first_errs sheet a₀ deep i j) (first_stage sheet a₀ deep i j) (last_errs sheet a₀ deep j) (last_stage sheet a₀ deep j)
        (bin_rule sch b (ty_of X.tree) (ty_of Y.tree)) (λ x z. n_bin b x z (row_at Y.rows x) (row_at Y.rows z)) (λ x z. made_bin row_fine b x z (row_at Y.rows x) (row_at Y.rows z)))

    pub rel_is : (b : Rel) → left_tree (get_or (nodes sheet a₀) c []) 0 (ty sheet a₀ (at r 0)) (X.tree ∷ Y.tree ∷ []) ≡ rel (ty sheet a₀ (at r 0)) b X.tree Y.tree
        → Is sheet a₀ (suc d) (suc (p + q)) a l (n_step_rel sch env (ty sheet a₀ (at r 0)) b X.tree Y) (rel_of m sheet b (length l) (length o.log) c r w)
    unfolding rel_of
    rel_is b k =
        rw (
          schema_is m sheet a₀ w.words j.hold,
          env_by_law m sheet a₀ w.words j.hold,
          j.rows,
          block_type w.words w.log (length o.log) j.hold (ty_of X.tree) (first_type sheet a₀ deep i j),
          block_type w.words w.log (length w.log) j.hold (ty_of Y.tree) (last_type sheet a₀ deep j),
        )
        (two_is sheet a₀ (over2 (rel (ty sheet a₀ (at r 0)) b X.tree Y.tree) k) (length o.log) X.tree Y.tree
        (first_errs sheet a₀ deep i j) (first_stage sheet a₀ deep i j) (last_errs sheet a₀ deep j) (last_stage sheet a₀ deep j)
        (rel_rule sch b (ty_of X.tree) (ty_of Y.tree)) (λ x z. n_rel env Y.rows b x z (row_at Y.rows x) (row_at Y.rows z)) (λ x z. made_rel row_fine env Y.rows b x z (row_at Y.rows x) (row_at Y.rows z)))

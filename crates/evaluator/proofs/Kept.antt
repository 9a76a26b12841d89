-- What every value made keeps is kept by evaluation: P is a property of the words. Assumes nothing.
use mathlib.Core.Path.{sym, subst}
use mathlib.Core.Bool.{Bool, true, false, cond}
use mathlib.Core.Option.{Option, none, some}
use mathlib.Core.List.{List, [], ◌∷◌}
use Prim.Native.Nat.{ℕ, zero, suc, ◌+◌, ◌-◌}
use lib.Dec.{ltb}
use lib.ListN.{length, get_or}
use Rattle.std.specs.Prelude.{Ok, Err}
use Rattle.cedar.specs.Rows.{Row, rbool, rlong, rtext, rent, rset, rrec}
use Rattle.cedar.specs.Numbered.{Give, made, old, NOut, give, fails, stays, row_at, r_bool}
use Rattle.sheet.specs.Forms.{at, first_node}
use Rattle.value.specs.Made.{bool_row, with_value, written}
use Rattle.value.specs.Clear.{Clear}
use Rattle.value.proofs.ClearLaws.{clear_kept}
use Rattle.tpe.proofs.Kept.{Each, done, ◌&◌, each_at}
use Rattle.evaluator.specs.Run.{Yield, failed, E, Rec, Kids, yields, values, node_in, made_of, give_of, settle_of, opt_of, on_yield, next, on_bool, bool_only, side_of, branch_of, next_kid, kids, kids_of, many_of, Step, lit_step, err_step, var_step, lazy_step, if_step, one_step, two_step, set_step, rec_step, slot_step, twos, ones, each, steps, step_at, step_of, eval_of}
use Rattle.evaluator.specs.Gave.{GaveBeside}

module _ (P : List ℕ → Type 0) (keep : (a r : List ℕ) → P a → P (with_value a r)) where
  -- the evaluator at the depth below keeps it
  abbrev pub Keeps : Rec → Type 0
  Keeps f = (a l : List ℕ) (n : ℕ) → P a → P (f a l n).words

  -- ---- what an operation gives

  made_kept : (a r : List ℕ) → P a → P (made_of a r).words
  unfolding made_of
  made_kept a r h = keep a r h

  give_kept : (a : List ℕ) (g : Give) → P a → P (give_of a g).words
  unfolding give_of
  give_kept a (made r) h = made_kept a _ h
  give_kept a (old v) h = h

  pub settle_kept : (a : List ℕ) (g : NOut) → P a → P (settle_of a g).words
  unfolding settle_of
  settle_kept a (give g) h = give_kept a g h
  settle_kept a fails h = h
  settle_kept a stays h = h

  pub opt_kept : (a : List ℕ) (g : Option Give) → P a → P (opt_of a g).words
  unfolding opt_of
  opt_kept a none h = h
  opt_kept a (some g) h = give_kept a g h

  -- ---- a value goes on, and a bool

  on_yield_kept : (a : List ℕ) (y : Yield) (k : ℕ → E) → P a → ((v : ℕ) → P (k v).words) → P (on_yield a y k).words
  unfolding on_yield
  on_yield_kept a (Ok v) k h f = f v
  on_yield_kept a (Err e) k h f = h

  next_kept : (o : E) (k : List ℕ → ℕ → E) → P o.words → ((v : ℕ) → P (k o.words v).words) → P (next o k).words
  unfolding next
  next_kept o k h f = on_yield_kept o.words o.yield (k o.words) h f

  bool_kept : (a : List ℕ) (r : Row) (k : Bool → E) → P a → ((b : Bool) → P (k b).words) → P (r_bool (yields a failed) r k).words
  bool_kept a (rbool b) k h f = f b
  bool_kept a (rlong n) k h f = h
  bool_kept a (rtext t) k h f = h
  bool_kept a (rent n t) k h f = h
  bool_kept a (rset l) k h f = h
  bool_kept a (rrec e) k h f = h

  on_bool_kept : (o : E) (k : List ℕ → Bool → E) → P o.words → ((b : Bool) → P (k o.words b).words) → P (on_bool o k).words
  unfolding on_bool
  on_bool_kept o k h f = next_kept o _ h (λ v. bool_kept o.words (row_at (values o.words) v) (k o.words) h f)

  bool_only_kept : (o : E) → P o.words → P (bool_only o).words
  unfolding bool_only
  bool_only_kept o h = next_kept o _ h (λ v. bool_kept o.words (row_at (values o.words) v) _ h (λ b. h))

  module _ (f : Rec) (e : Keeps f) where
    side_kept : (z : Bool) (l : List ℕ) (x : ℕ) (a : List ℕ) (b : Bool) → P a → P (side_of z f l x a b).words
    unfolding side_of
    side_kept true l x a true h = made_kept a (bool_row true) h
    side_kept true l x a false h = bool_only_kept (f a l x) (e a l x h)
    side_kept false l x a true h = bool_only_kept (f a l x) (e a l x h)
    side_kept false l x a false h = made_kept a (bool_row false) h

    branch_kept : (l : List ℕ) (x w : ℕ) (a : List ℕ) (b : Bool) → P a → P (branch_of f l x w a b).words
    unfolding branch_of
    branch_kept l x w a true h = e a l x h
    branch_kept l x w a false h = e a l w h

    -- ---- children of sets and records

    next_kid_kept : (a l : List ℕ) (y : Yield) (k : List ℕ → Kids) → P a → ((m : List ℕ) → P (k m).words) → P (next_kid a l y k).words
    unfolding next_kid
    next_kid_kept a l (Ok v) k h g = g _
    next_kid_kept a l (Err e) k h g = h

    kids_kept : (n s k i : ℕ) (a l : List ℕ) → P a → P (kids_of f n s k i a l).words
    unfolding kids_of
    kids_kept n s zero i a l h = h
    kids_kept n s (suc k) i a l h = go (ltb i (length (node_in a n))) (λ m. kids_kept n s k (i + s) _ m (e a l _ h))
      where
        o : E
        o = f a l (get_or (node_in a n) i 0)

        go : (b : Bool) → ((m : List ℕ) → P (kids_of f n s k (i + s) o.words m).words) → P (cond b (next_kid o.words l o.yield (λ m. kids_of f n s k (i + s) o.words m)) (kids a l true)).words
        go true g = next_kid_kept o.words l o.yield _ (e a l _ h) g
        go false g = h

  many_kept : (q : List ℕ) (k : Kids) → P k.words → P (many_of q k).words
  unfolding many_of
  many_kept q k h = go k.all
    where
      go : (b : Bool) → P (cond b (made_of k.words (written k.log q)) (yields k.words failed)).words
      go true = made_kept k.words _ h
      go false = h

  -- ---- one step for each operation

  abbrev KeepsStep : Step → Type 0
  KeepsStep s = (f : Rec) → Keeps f → (a l : List ℕ) (n : ℕ) (r : List ℕ) → P a → P (s f a l n r).words

  lit_step_kept : KeepsStep lit_step
  unfolding lit_step
  lit_step_kept f e a l n r h = h

  err_step_kept : KeepsStep err_step
  unfolding err_step
  err_step_kept f e a l n r h = h

  var_step_kept : KeepsStep var_step
  unfolding var_step
  var_step_kept f e a l n r h = opt_kept a _ h

  lazy_step_kept : (z : Bool) → KeepsStep (lazy_step z)
  unfolding lazy_step
  lazy_step_kept z f e a l n r h = on_bool_kept (f a l (at r 1)) _ (e a l (at r 1) h) (λ b. side_kept f e z l (at r 2) _ b (e a l (at r 1) h))

  if_step_kept : KeepsStep if_step
  unfolding if_step
  if_step_kept f e a l n r h = on_bool_kept (f a l (at r 1)) _ (e a l (at r 1) h) (λ b. branch_kept f e l (at r 2) (at r 3) _ b (e a l (at r 1) h))

  one_step_kept : (g : List ℕ → List ℕ → ℕ → NOut) → KeepsStep (one_step g)
  unfolding one_step
  one_step_kept g f e a l n r h = next_kept (f a l (at r 1)) _ (e a l (at r 1) h) (λ v. settle_kept _ _ (e a l (at r 1) h))

  two_step_kept : (g : List ℕ → ℕ → ℕ → NOut) → KeepsStep (two_step g)
  unfolding two_step
  two_step_kept g f e a l n r h =
      let k = e a l (at r 1) h in
      next_kept (f a l (at r 1)) _ k (λ v. next_kept (f (f a l (at r 1)).words l (at r 2)) _ (e _ l (at r 2) k) (λ w. settle_kept _ _ (e _ l (at r 2) k)))

  set_step_kept : KeepsStep set_step
  unfolding set_step
  set_step_kept f e a l n r h = many_kept _ _ (kids_kept f e n 1 _ 2 a l h)

  rec_step_kept : KeepsStep rec_step
  unfolding rec_step
  rec_step_kept f e a l n r h = many_kept _ _ (kids_kept f e n 2 _ 3 a l h)

  slot_step_kept : (p q : ℕ) → KeepsStep (slot_step p q)
  unfolding slot_step
  slot_step_kept p q f e a l n r h = h

  -- the steps of a list of operations, then others
  each_kept : {A : Type 0} (g : A → Step) → ((x : A) → KeepsStep (g x)) → (xs : List A) (ss : List Step) → Each KeepsStep ss → Each KeepsStep (each g xs ss)
  each_kept g k [] ss e = e
  each_kept g k (x ∷ xs) ss e = k x & each_kept g k xs ss e

  module _ (sheet : List ℕ) (p q : ℕ) where
    steps_kept : Each KeepsStep (steps sheet p q)
    steps_kept =
        lit_step_kept & err_step_kept & var_step_kept & lazy_step_kept false & lazy_step_kept true
        & each_kept two_step two_step_kept twos _ (if_step_kept & each_kept one_step one_step_kept (ones sheet) _ (set_step_kept & rec_step_kept & slot_step_kept p q & done))

    step_at_kept : (t : ℕ) → KeepsStep (step_at sheet p q t)
    unfolding step_at
    step_at_kept t = each_at KeepsStep err_step err_step_kept (steps sheet p q) (t - first_node) steps_kept

    pub eval_keeps : (d : ℕ) → Keeps (eval_of sheet p q d)
    unfolding eval_of step_of
    eval_keeps zero a l n h = h
    eval_keeps (suc d) a l n h = step_at_kept _ (eval_of sheet p q d) (eval_keeps d) a l n (node_in a n) h

-- ---- the first values that are no bools stay so

module _ (skip : ℕ) where
  pub eval_clear : (sheet : List ℕ) (p q d : ℕ) (a l : List ℕ) (n : ℕ) (a₁ : List ℕ) (y : Yield) (bt : ℕ) (b b₁ : List ℕ) → Clear a skip → GaveBeside (eval_of sheet p q d a l n) a₁ y bt b b₁ → Clear a₁ skip
  eval_clear sheet p q d a l n a₁ y bt b b₁ c g = subst (λ (w : List ℕ). Clear w skip) (sym g.words) (eval_keeps (λ (w : List ℕ). Clear w skip) (clear_kept skip) sheet p q d a l n c)

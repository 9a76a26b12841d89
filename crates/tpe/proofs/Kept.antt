-- What every value made keeps is kept by interpretation: P is a property of the words. Assumes nothing.
use mathlib.Core.Path.{sym, subst}
use mathlib.Core.Bool.{Bool, true, false}
use mathlib.Core.Option.{Option, none, some}
use mathlib.Core.List.{List, [], ◌∷◌}
use Prim.Native.Nat.{ℕ, zero, suc, ◌+◌, ◌-◌}
use lib.ListN.{length, get_or, take}
use Rattle.cedar.specs.Residual.{Un, uempty, Bin, bany, Rel, Class, ctrue, cfalse, cerror, copen}
use Rattle.cedar.specs.Numbered.{Give, made, old, NOut, give, fails, stays}
use Rattle.forms.specs.Tags.{EQ, IS, SET_OF}
use Rattle.sheet.specs.Forms.{Mode, tag, at, first_node}
use Rattle.value.specs.Made.{bool_row, with_value}
use Rattle.value.specs.Clear.{Clear}
use Rattle.value.proofs.ClearLaws.{clear_kept}
use Rattle.residual.specs.declared.Stage.{Stage}
use Rattle.residual.specs.declared.Stage.TheVariants.{Value, Error, Open}
use Rattle.tpe.specs.Leaves.{Leaves}
use Rattle.tpe.specs.Run.{O, Rec, Kids, node_in, Walk, lost, says, stuck, Side, stops, goes, wrong, unsure, lit_of, err_of, left_of, made_of, words_of, give_of, settle_of, ruled_of, worked1, worked2, one_of, two_of, kids_of, many_of, decided_by, second_by, second_of, first_by, first_of, split_of, branch_by, branch_of, var_for, un_of, bin_of, rel_of, get_of, has_of, unmoved_of, stuck_of, walked_of, path_by, path_of, set_of, rec_of, Step, lit_step, err_step, var_step, lazy_step, if_step, bin_step, rel_step, un_step, get_step, has_step, path_step, set_step, rec_step, slot_step, steps, step_with, step_of, interp_of, ran_from, run_of}
use Rattle.tpe.specs.Steps.{one_steps, one_at, two_steps, two_at, many_at}

-- ---- each of a list, and the one of a number

pub data Each {A : Type 0} (Q : A → Type 0) : List A → Type 0 where
  done : Each Q []
  ◌&◌ : {x : A} {l : List A} → Q x → Each Q l → Each Q (x ∷ l)

infixr 5 ◌&◌
pub each_at : {A : Type 0} (Q : A → Type 0) (d : A) → Q d → (l : List A) (i : ℕ) → Each Q l → Q (get_or l i d)
each_at Q d h [] i e = h
each_at Q d h (x ∷ l) zero (k & e) = k
each_at Q d h (x ∷ l) (suc i) (k & e) = each_at Q d h l i e

module _ (P : List ℕ → Type 0) (keep : (a r : List ℕ) → P a → P (with_value a r)) where
  -- the interpreter at the depth below keeps it
  abbrev pub Keeps : Rec → Type 0
  Keeps f = (a l : List ℕ) (n : ℕ) → P a → P (f a l n).words

  -- ---- a row more

  lit_kept : (a l : List ℕ) (y v : ℕ) → P a → P (lit_of a l y v).words
  unfolding lit_of
  lit_kept a l y v h = h

  err_kept : (a l : List ℕ) (y : ℕ) → P a → P (err_of a l y).words
  unfolding err_of
  err_kept a l y h = h

  left_kept : (a l : List ℕ) (start n k y : ℕ) → P a → P (left_of a l start n k y).words
  unfolding left_of
  left_kept a l start n k y h = h

  pub made_kept : (a l : List ℕ) (y : ℕ) (r : List ℕ) → P a → P (made_of a l y r).words
  unfolding made_of lit_of
  made_kept a l y r h = keep a r h

  pub give_kept : (a l : List ℕ) (y : ℕ) (g : Give) → P a → P (give_of a l y g).words
  unfolding give_of
  give_kept a l y (made r) h = made_kept a l y (words_of r) h
  give_kept a l y (old v) h = lit_kept a l y v h

  pub settle_kept : (a l : List ℕ) (start n y : ℕ) (g : NOut) → P a → P (settle_of a l start n y g).words
  unfolding settle_of
  settle_kept a l start n y (give g) h = give_kept a (take start l) y g h
  settle_kept a l start n y fails h = err_kept a (take start l) y h
  settle_kept a l start n y stays h = left_kept a l start n 0 y h

  -- ---- strict operations

  pub ruled_kept : (a l : List ℕ) (start y : ℕ) (b : Bool) (q : Option Bool) (x : O) → P a → P x.words → P (ruled_of a l start y b q x).words
  unfolding ruled_of
  ruled_kept a l start y true q x h k = k
  ruled_kept a l start y false none x h k = k
  ruled_kept a l start y false (some b) x h k = made_kept a (take start l) y (bool_row b) h

  pub worked1_kept : (g : ℕ → NOut) (a l : List ℕ) (start n y : ℕ) (s : Stage) → P a → P (worked1 g a l start n y s).words
  unfolding worked1
  worked1_kept g a l start n y (Value v) h = settle_kept a l start n y (g v) h
  worked1_kept g a l start n y Error h = err_kept a (take start l) y h
  worked1_kept g a l start n y Open h = left_kept a l start n 0 y h

  pub worked2_kept : (g : ℕ → ℕ → NOut) (a l : List ℕ) (start n y : ℕ) (s u : Stage) → P a → P (worked2 g a l start n y s u).words
  unfolding worked2
  worked2_kept g a l start n y (Value v) (Value w) h = settle_kept a l start n y (g v w) h
  worked2_kept g a l start n y (Value v) Error h = err_kept a (take start l) y h
  worked2_kept g a l start n y (Value v) Open h = left_kept a l start n 0 y h
  worked2_kept g a l start n y Error u h = err_kept a (take start l) y h
  worked2_kept g a l start n y Open (Value w) h = left_kept a l start n 0 y h
  worked2_kept g a l start n y Open Error h = err_kept a (take start l) y h
  worked2_kept g a l start n y Open Open h = left_kept a l start n 0 y h

  pub one_kept : (q : Option Bool) (g : ℕ → NOut) (a l : List ℕ) (start n y : ℕ) → P a → P (one_of q g a l start n y).words
  unfolding one_of
  one_kept q g a l start n y h = ruled_kept a l start y _ q _ h (worked1_kept g a l start n y _ h)

  pub two_kept : (q : Option Bool) (g : ℕ → ℕ → NOut) (a l : List ℕ) (start mid n y : ℕ) → P a → P (two_of q g a l start mid n y).words
  unfolding two_of
  two_kept q g a l start mid n y h = ruled_kept a l start y _ q _ h (worked2_kept g a l start n y _ _ h)

  -- ---- children of sets and records

  pub kids_kept : (f : Rec) → Keeps f → (n s i : ℕ) (a l : List ℕ) (c k : ℕ) → P a → P (kids_of f n s i a l c k).words
  unfolding kids_of
  kids_kept f e n s i a l c zero h = h
  kids_kept f e n s i a l c (suc k) h = kids_kept f e n s (i + s) _ _ _ k (e a l _ h)

  pub many_kept : (q a l : List ℕ) (start n y c : ℕ) → P a → P (many_of q a l start n y c).words
  unfolding many_of
  many_kept q a l start n y zero h = made_kept a (take start l) y _ h
  many_kept q a l start n y (suc zero) h = err_kept a (take start l) y h
  many_kept q a l start n y (suc (suc c)) h = left_kept a l start n 0 y h

  -- ---- and, or

  pub decided_kept : (z : Bool) (start n y mid : ℕ) (a l : List ℕ) (b : Bool) → P a → P (decided_by z start n y mid a l b).words
  unfolding decided_by
  decided_kept z start n y mid a l true h = left_kept (with_value a (bool_row z)) _ start n 0 y (keep a (bool_row z) h)
  decided_kept z start n y mid a l false h = made_kept a (take start l) y (bool_row z) h

  second_by_kept : (z : Bool) (start n y mid : ℕ) (o : O) (s : Side) → P o.words → P (second_by z start n y mid o s).words
  unfolding second_by
  second_by_kept z start n y mid o goes h = h
  second_by_kept z start n y mid o stops h = decided_kept z start n y mid o.words o.log _ h
  second_by_kept z start n y mid o wrong h = left_kept o.words o.log start n 0 y h
  second_by_kept z start n y mid o unsure h = left_kept o.words o.log start n 0 y h

  pub second_kept : (z : Bool) (start n y mid : ℕ) (o : O) → P o.words → P (second_of z start n y mid o).words
  unfolding second_of
  second_kept z start n y mid o h = second_by_kept z start n y mid o _ h

  module _ (f : Rec) (e : Keeps f) where
    first_by_kept : (z : Bool) (start n y x : ℕ) (o : O) (s : Side) → P o.words → P (first_by z f start n y x o s).words
    unfolding first_by
    first_by_kept z start n y x o stops h = made_kept o.words (take start o.log) y (bool_row z) h
    first_by_kept z start n y x o goes h = e o.words (take start o.log) x h
    first_by_kept z start n y x o wrong h = err_kept o.words (take start o.log) y h
    first_by_kept z start n y x o unsure h = second_kept z start n y _ _ (e o.words o.log x h)

    pub first_kept : (z : Bool) (start n y x : ℕ) (o : O) → P o.words → P (first_of z f start n y x o).words
    unfolding first_of
    first_kept z start n y x o h = first_by_kept z start n y x o _ h

    -- ---- if

    pub split_kept : (start n y w : ℕ) (o : O) → P o.words → P (split_of f start n y w o).words
    unfolding split_of
    split_kept start n y w o h = left_kept _ _ start n 0 y (e o.words o.log w h)

    branch_by_kept : (start n y x w : ℕ) (o : O) (c : Class) → P o.words → P (branch_by f start n y x w o c).words
    unfolding branch_by
    branch_by_kept start n y x w o ctrue h = e o.words (take start o.log) x h
    branch_by_kept start n y x w o cfalse h = e o.words (take start o.log) w h
    branch_by_kept start n y x w o cerror h = err_kept o.words (take start o.log) y h
    branch_by_kept start n y x w o copen h = split_kept start n y w _ (e o.words o.log x h)

    pub branch_kept : (start n y x w : ℕ) (o : O) → P o.words → P (branch_of f start n y x w o).words
    unfolding branch_of
    branch_kept start n y x w o h = branch_by_kept start n y x w o _ h

  -- ---- the sheet's part

  module _ (m : Mode) (sheet : List ℕ) where
    pub var_kept : (a l : List ℕ) (n y : ℕ) (g : Option Give) → P a → P (var_for m sheet a l n y g).words
    unfolding var_for
    var_kept a l n y none h = left_kept a l (length l) n 0 y h
    var_kept a l n y (some g) h = give_kept a l y g h

    pub un_kept : (u : Un) (start n : ℕ) (r : List ℕ) (o : O) → P o.words → P (un_of m sheet u start n r o).words
    unfolding un_of
    un_kept u start n r o h = one_kept _ _ o.words o.log start n (at r 0) h

    pub bin_kept : (p : Bin) (start mid n : ℕ) (r : List ℕ) (o : O) → P o.words → P (bin_of m sheet p start mid n r o).words
    unfolding bin_of
    bin_kept p start mid n r o h = two_kept _ _ o.words o.log start mid n (at r 0) h

    pub rel_kept : (p : Rel) (start mid n : ℕ) (r : List ℕ) (o : O) → P o.words → P (rel_of m sheet p start mid n r o).words
    unfolding rel_of
    rel_kept p start mid n r o h = two_kept _ _ o.words o.log start mid n (at r 0) h

    pub get_kept : (start n : ℕ) (r : List ℕ) (o : O) → P o.words → P (get_of m sheet start n r o).words
    unfolding get_of
    get_kept start n r o h = one_kept _ _ o.words o.log start n (at r 0) h

    pub has_kept : (start n : ℕ) (r : List ℕ) (o : O) → P o.words → P (has_of m sheet start n r o).words
    unfolding has_of
    has_kept start n r o h = one_kept _ _ o.words o.log start n (at r 0) h

    pub unmoved_kept : (a l : List ℕ) (start n : ℕ) (r : List ℕ) → P a → P (unmoved_of m sheet a l start n r).words
    unfolding unmoved_of
    unmoved_kept a l start n r h = ruled_kept a l start (at r 0) _ _ _ h (left_kept a l start n 0 (at r 0) h)

    pub stuck_kept : (a l : List ℕ) (n : ℕ) (r : List ℕ) (j v k : ℕ) (q : Option Bool) → P a → P (stuck_of m sheet a l n r j v k q).words
    unfolding stuck_of
    stuck_kept a l n r j v k (some b) h = made_kept a l (at r 0) (bool_row b) h
    stuck_kept a l n r j v k none h = left_kept a _ (length l) n j (at r 0) h

    pub walked_kept : (a l : List ℕ) (start n : ℕ) (r : List ℕ) (w : Walk) → P a → P (walked_of m sheet a l start n r w).words
    unfolding walked_of
    walked_kept a l start n r lost h = err_kept a (take start l) (at r 0) h
    walked_kept a l start n r (says b) h = made_kept a (take start l) (at r 0) (bool_row b) h
    walked_kept a l start n r (stuck zero v k) h = unmoved_kept a l start n r h
    walked_kept a l start n r (stuck (suc j) v k) h = stuck_kept a (take start l) n r (suc j) v k _ h

    path_by_kept : (a l : List ℕ) (start n : ℕ) (r : List ℕ) (s : Stage) → P a → P (path_by m sheet a l start n r s).words
    unfolding path_by
    path_by_kept a l start n r (Value v) h = walked_kept a l start n r _ h
    path_by_kept a l start n r Error h = err_kept a (take start l) (at r 0) h
    path_by_kept a l start n r Open h = unmoved_kept a l start n r h

    pub path_kept : (start n : ℕ) (r : List ℕ) (o : O) → P o.words → P (path_of m sheet start n r o).words
    unfolding path_of
    path_kept start n r o h = path_by_kept o.words o.log start n r _ h

    pub set_kept : (start n : ℕ) (r : List ℕ) (k : Kids) → P k.words → P (set_of m sheet start n r k).words
    unfolding set_of
    set_kept start n r k h = many_kept _ k.words k.log start n (at r 0) k.join h

    pub rec_kept : (start n : ℕ) (r : List ℕ) (k : Kids) → P k.words → P (rec_of m sheet start n r k).words
    unfolding rec_of
    rec_kept start n r k h = many_kept _ k.words k.log start n (at r 0) k.join h

    -- ---- operands worked, by the node's tag

    abbrev KeepsOne : (ℕ → ℕ → List ℕ → O → O) → Type 0
    KeepsOne g = (start n : ℕ) (r : List ℕ) (o : O) → P o.words → P (g start n r o).words

    abbrev KeepsTwo : (ℕ → ℕ → ℕ → List ℕ → O → O) → Type 0
    KeepsTwo g = (start mid n : ℕ) (r : List ℕ) (o : O) → P o.words → P (g start mid n r o).words

    abbrev KeepsMany : (ℕ → ℕ → List ℕ → Kids → O) → Type 0
    KeepsMany g = (start n : ℕ) (r : List ℕ) (k : Kids) → P k.words → P (g start n r k).words

    pub one_at_kept : (t : ℕ) → KeepsOne (one_at m sheet t)
    unfolding one_at
    one_at_kept t =
        each_at KeepsOne (un_of m sheet uempty) (un_kept uempty) (one_steps m sheet) (t - IS)
        (un_kept_by _ & un_kept_by _ & get_kept & has_kept & path_kept & un_kept _ & un_kept _ & un_kept _ & done)
      where
        un_kept_by : (u : List ℕ → Un) → KeepsOne (λ start n r o. un_of m sheet (u r) start n r o)
        un_kept_by u start n r o h = un_kept (u r) start n r o h

    pub two_at_kept : (t : ℕ) → KeepsTwo (two_at m sheet t)
    unfolding two_at
    two_at_kept t =
        each_at KeepsTwo (bin_of m sheet bany) (bin_kept bany) (two_steps m sheet) (t - EQ)
        (bin_kept _ & bin_kept _ & bin_kept _ & bin_kept _ & bin_kept _ & bin_kept _ & rel_kept _ & rel_kept _ & rel_kept _ & bin_kept _ & bin_kept _ & bin_kept _ & done)

    pub many_at_kept : (t : ℕ) → KeepsMany (many_at m sheet t)
    unfolding many_at
    many_at_kept t = each_at KeepsMany (rec_of m sheet) rec_kept (set_of m sheet ∷ []) (t - SET_OF) (set_kept & done)

    -- ---- one step for each operation

    abbrev KeepsStep : Step m sheet → Type 0
    KeepsStep s = (f : Rec) → Keeps f → (a l : List ℕ) (n : ℕ) (r : List ℕ) → P a → P (s f a l n r).words

    lit_step_kept : KeepsStep (lit_step m sheet)
    unfolding lit_step
    lit_step_kept f e a l n r h = lit_kept a l (at r 0) (at r 1) h

    err_step_kept : KeepsStep (err_step m sheet)
    unfolding err_step
    err_step_kept f e a l n r h = err_kept a l (at r 0) h

    var_step_kept : KeepsStep (var_step m sheet)
    unfolding var_step
    var_step_kept f e a l n r h = var_kept a l n (at r 0) _ h

    lazy_step_kept : (z : Bool) → KeepsStep (lazy_step m sheet z)
    unfolding lazy_step
    lazy_step_kept z f e a l n r h = first_kept f e z (length l) n _ _ _ (e a l (at r 1) h)

    if_step_kept : KeepsStep (if_step m sheet)
    unfolding if_step
    if_step_kept f e a l n r h = branch_kept f e (length l) n _ _ _ _ (e a l (at r 1) h)

    bin_step_kept : (p : Bin) → KeepsStep (bin_step m sheet p)
    unfolding bin_step
    bin_step_kept p f e a l n r h = bin_kept p (length l) _ n _ _ (e _ _ _ (e a l (at r 1) h))

    rel_step_kept : (p : Rel) → KeepsStep (rel_step m sheet p)
    unfolding rel_step
    rel_step_kept p f e a l n r h = rel_kept p (length l) _ n _ _ (e _ _ _ (e a l (at r 1) h))

    un_step_kept : (u : List ℕ → Un) → KeepsStep (un_step m sheet u)
    unfolding un_step
    un_step_kept u f e a l n r h = un_kept _ (length l) n _ _ (e a l (at r 1) h)

    get_step_kept : KeepsStep (get_step m sheet)
    unfolding get_step
    get_step_kept f e a l n r h = get_kept (length l) n _ _ (e a l (at r 1) h)

    has_step_kept : KeepsStep (has_step m sheet)
    unfolding has_step
    has_step_kept f e a l n r h = has_kept (length l) n _ _ (e a l (at r 1) h)

    path_step_kept : KeepsStep (path_step m sheet)
    unfolding path_step
    path_step_kept f e a l n r h = path_kept (length l) n _ _ (e a l (at r 1) h)

    set_step_kept : KeepsStep (set_step m sheet)
    unfolding set_step
    set_step_kept f e a l n r h = set_kept (length l) n _ _ (kids_kept f e n 1 2 a l _ _ h)

    rec_step_kept : KeepsStep (rec_step m sheet)
    unfolding rec_step
    rec_step_kept f e a l n r h = rec_kept (length l) n _ _ (kids_kept f e n 2 2 a l _ _ h)

    slot_step_kept : (p q : ℕ) → KeepsStep (slot_step m sheet p q)
    unfolding slot_step
    slot_step_kept p q f e a l n r h = lit_kept a l (at r 0) _ h

    module _ (p q : ℕ) where
      steps_kept : Each KeepsStep (steps m sheet p q)
      steps_kept =
          lit_step_kept & err_step_kept & var_step_kept & lazy_step_kept false & lazy_step_kept true
          & bin_step_kept _ & bin_step_kept _ & bin_step_kept _ & bin_step_kept _ & bin_step_kept _ & bin_step_kept _
          & rel_step_kept _ & rel_step_kept _ & rel_step_kept _
          & bin_step_kept _ & bin_step_kept _ & bin_step_kept _
          & if_step_kept
          & un_step_kept _ & un_step_kept _
          & get_step_kept & has_step_kept & path_step_kept
          & un_step_kept _ & un_step_kept _ & un_step_kept _
          & set_step_kept & rec_step_kept & slot_step_kept p q & done

      -- the step by any tag
      pub step_by_kept : (t : ℕ) → KeepsStep (get_or (steps m sheet p q) t (err_step m sheet))
      step_by_kept t = each_at KeepsStep (err_step m sheet) err_step_kept (steps m sheet p q) t steps_kept

      pub step_kept : (f : Rec) → Keeps f → Keeps (step_of m sheet p q f)
      unfolding step_of step_with
      step_kept f e a l n h = let r = node_in a n in step_by_kept (tag r - first_node) f e a l n r h

      -- INTERPRETATION KEEPS IT
      pub interp_kept : (d : ℕ) → Keeps (interp_of m sheet p q d)
      unfolding interp_of
      interp_kept zero a l n h = err_kept a l 0 h
      interp_kept (suc d) a l n h = step_kept (interp_of m sheet p q d) (interp_kept d) a l n h

  -- ---- the policies in order

  pub ran_kept : (f : ℕ → ℕ → Rec) → ((p q : ℕ) → Keeps (f p q)) → (i k : ℕ) (a l : List ℕ) → P a → P (ran_from f i k a l).words
  unfolding ran_from
  ran_kept f e i zero a l h = h
  ran_kept f e i (suc k) a l h = ran_kept f e (suc i) k _ _ (e _ _ a l _ h)

  pub run_kept : (m : Mode) (sheet a l : List ℕ) → P a → P (run_of m sheet a l).words
  unfolding run_of
  run_kept m sheet a l h = ran_kept _ (λ p q. interp_kept m sheet p q 64) 0 _ a l h

-- ---- the first values that are no bools stay so

module _ (skip : ℕ) where
  pub interp_clear : (m : Mode) (sheet : List ℕ) (p q d : ℕ) (a l : List ℕ) (n was : ℕ) (is b : List ℕ) (e : ℕ) → Clear a skip → Leaves was is b e (interp_of m sheet p q d a l n) → Clear is skip
  interp_clear m sheet p q d a l n was is b e c h = subst (λ (w : List ℕ). Clear w skip) (sym h.words) (interp_kept (λ (w : List ℕ). Clear w skip) (clear_kept skip) m sheet p q d a l n c)

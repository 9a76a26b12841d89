-- One law for each way through the evaluator: what is read and called on the way gives what the definition says. Assumes nothing.
use mathlib.Core.Path.{◌≡◌, refl, sym, ap, ◌∙◌}
use mathlib.Core.Bool.{Bool, true, false, cond, beq}
use mathlib.Core.List.{List, [], ◌∷◌}
use mathlib.Core.Option.{none, some}
use Rattle.std.specs.Result.{IsErr, result_ok}
use Rattle.std.proofs.lemmas.Result.{IfOk-weaker, IfOk-from_err}
use Rattle.std.specs.Prelude.{Option, Result, Ok, Err}
use Prim.Native.Nat.{ℕ, zero, suc, ◌+◌, ◌-◌, ◌≤◌, ◌<◌}
use native.Mathlib.Omega.{arith}
use borrow.Author.Tests.{lt-ltb, le-ltb}
use lib.Dec.{ltb}
use lib.ListN.{length, get_or, take, drop, get_or-eq_default}
use lib.Seq.{take-add, drop_at, length-take-le}
use Rattle.words.specs.Log.{part, Room, Appended, appended, pushed}
use Rattle.words.proofs.Logs.{append_holds, append_room, append_below, holds_same, holds_as, holds_from, log_cut, log_length}
use Rattle.cedar.specs.Residual.{uempty, bany, Class}
use Rattle.cedar.specs.Numbered.{row_at}
use Rattle.sheet.specs.Forms.{tag, at, first_node, NODE}
use Rattle.sheet.specs.Typing.{slot_value}
use Rattle.forms.specs.Tags.{ERR, VAR, AND, OR, EQ, IF, IS, SET_OF, RECORD_OF, SLOT}
use Rattle.sheet.specs.Content.{var_of}
use Rattle.table.specs.Layout.{RUN, rows_of}
use Rattle.table.proofs.Rows.{above}
use Rattle.value.specs.Made.{bool_row, Made, MadeBeside, set_row, record_row, written}
use Rattle.residual.specs.Rows.{lit_row}
use Rattle.residual.specs.Classes.{class_number}
use Rattle.evaluator.specs.Run.{Yield, failed, E, Rec, Step, Kids, Ran, yields, values, node_in, policy_in, made_of, settle_of, opt_of, on_yield, next, on_bool, bool_only, side_of, branch_of, kids, next_kid, kids_of, many_of, env_of, lit_step, err_step, var_step, lazy_step, if_step, one_step, two_step, set_step, rec_step, slot_step, bin_out, un_out, twos, two_out, each, ones, one_out, steps, step_at, step_of, eval_of, class_of, ran_from, run_of}
use Rattle.evaluator.specs.Gave.{Gave, GaveBeside, Left, Done, all_of, truth_of, yield_bool}
use Rattle.evaluator.specs.declared.EvalError.{EvalError}
use Rattle.evaluator.proofs.Settles.{on_is, on_other, is_failed}

-- ---- what was yielded

is_yields : (e : E) (is : List ℕ) (y : Yield) → is ≡ e.words → y ≡ e.yield → e ≡ yields is y
is_yields e is y p q = λ i. record { words = sym p i; yield = sym q i }

gave_end : (o : E) (is : List ℕ) (y : Yield) (bt : ℕ) (b b₁ : List ℕ) → o ≡ yields is y → take bt b₁ ≡ take bt b → GaveBeside o is y bt b b₁
gave_end o is y bt b b₁ h k = record { words = sym (ap (λ (x : E). x.words) h); yield = sym (ap (λ (x : E). x.yield) h); log = k }

-- the same by another name, where the last part left b alone, and where it did not
gave_on : (o e : E) (is : List ℕ) (y : Yield) (bt : ℕ) (b b₁ : List ℕ) → o ≡ e → take bt b₁ ≡ take bt b → Gave e is y → GaveBeside o is y bt b b₁
gave_on o e is y bt b b₁ h k g = gave_end o is y bt b b₁ (h ∙ is_yields e is y g.words g.yield) k

gave_after : (o e : E) (is : List ℕ) (y : Yield) (bt : ℕ) (b b₁ b₂ : List ℕ) → o ≡ e → take bt b₁ ≡ take bt b → GaveBeside e is y bt b₁ b₂ → GaveBeside o is y bt b b₂
gave_after o e is y bt b b₁ b₂ h k g = gave_end o is y bt b b₂ (h ∙ is_yields e is y g.words g.yield) (g.log ∙ k)

truth_on : (is : List ℕ) (y : Yield) (k : List ℕ → Bool → E) (x : Bool) → yield_bool is y ≡ some x → on_bool (yields is y) k ≡ k is x
unfolding on_bool next on_yield yield_bool
truth_on is (Ok v) k x t = on_is (yields is failed) (k is) (row_at (values is) v) x t
truth_on is (Err e) k x t = let z : ◌≡◌ {A = ℕ} 0 1 = cc in absurd (omega arith)

truth_off : (is : List ℕ) (y : Yield) (k : List ℕ → Bool → E) → yield_bool is y ≡ none → on_bool (yields is y) k ≡ yields is failed
unfolding on_bool next on_yield yield_bool
truth_off is (Ok v) k t = on_other (yields is failed) (k is) (row_at (values is) v) t
truth_off is (Err e) k t = refl

side_same : (z x : Bool) (f : Rec) (l : List ℕ) (w : ℕ) (a : List ℕ) → beq x z ≡ true → side_of z f l w a x ≡ made_of a (bool_row z)
unfolding side_of
side_same true true f l w a h = refl
side_same true false f l w a h = cc
side_same false true f l w a h = cc
side_same false false f l w a h = refl

side_other : (z x : Bool) (f : Rec) (l : List ℕ) (w : ℕ) (a : List ℕ) → beq x z ≡ false → side_of z f l w a x ≡ bool_only (f a l w)
unfolding side_of
side_other true true f l w a h = cc
side_other true false f l w a h = refl
side_other false true f l w a h = refl
side_other false false f l w a h = cc

-- a log of the same length has the same room
pub same_room : (b b₁ : List ℕ) (bt : ℕ) → Room b bt → length b₁ ≡ length b → Room b₁ bt
same_room b b₁ bt room len = record { low = room.low; long = omega (arith, room.long, len) }

-- ---- a node and its operands, which are seen to d levels under a link with the values p and q

module _ (sheet : List ℕ) (p q : ℕ) (a b : List ℕ) (bt n d : ℕ) where
  -- the first operand is worked
  module _ (x : ℕ) (ex : x ≡ get_or (node_in a n) 2 0) (a₁ b₁ : List ℕ) (y : Yield) (g : GaveBeside (eval_of sheet p q d a (take bt b) x) a₁ y bt b b₁) where
    first : eval_of sheet p q d a (take bt b) (at (node_in a n) 1) ≡ yields a₁ y
    first = ap (λ (m : ℕ). eval_of sheet p q d a (take bt b) m) (sym ex) ∙ is_yields (eval_of sheet p q d a (take bt b) x) a₁ y g.words g.yield

    pub one_error : (t : ℕ) (f : EvalError) → y ≡ Err f → (r : Yield) → IsErr r → GaveBeside (one_step (one_out sheet t) (eval_of sheet p q d) a (take bt b) n (node_in a n)) a₁ r bt b b₁
    unfolding one_step next on_yield
    one_error t f e r er = gave_end _ a₁ r bt b b₁ (ap (λ (o : E). next o (λ c v. settle_of c (one_out sheet t c (node_in c n) v))) (first ∙ ap (yields a₁) e) ∙ ap (yields a₁) (sym (is_failed r er))) g.log

    pub one_on : (t v : ℕ) (a₂ : List ℕ) (z : Yield) → y ≡ Ok v → Gave (settle_of a₁ (one_out sheet t a₁ (node_in a₁ n) v)) a₂ z → GaveBeside (one_step (one_out sheet t) (eval_of sheet p q d) a (take bt b) n (node_in a n)) a₂ z bt b b₁
    unfolding one_step next on_yield
    one_on t v a₂ z e h = gave_on _ (settle_of a₁ (one_out sheet t a₁ (node_in a₁ n) v)) a₂ z bt b b₁ (ap (λ (o : E). next o (λ c u. settle_of c (one_out sheet t c (node_in c n) u))) (first ∙ ap (yields a₁) e)) g.log h

    pub two_error : (t : ℕ) (f : EvalError) → y ≡ Err f → (r : Yield) → IsErr r → GaveBeside (two_step (two_out t) (eval_of sheet p q d) a (take bt b) n (node_in a n)) a₁ r bt b b₁
    unfolding two_step next on_yield
    two_error t f e r er = gave_end _ a₁ r bt b b₁ (ap (λ (o : E). next o (λ c v. next (eval_of sheet p q d c (take bt b) (at (node_in a n) 2)) (λ c₂ w. settle_of c₂ (two_out t c₂ v w)))) (first ∙ ap (yields a₁) e) ∙ ap (yields a₁) (sym (is_failed r er))) g.log

    -- the second one, beside the log that the first one left as it was
    module _ (w : ℕ) (ew : w ≡ get_or (node_in a n) 3 0) (a₂ b₂ : List ℕ) (z : Yield) (h : GaveBeside (eval_of sheet p q d a₁ (take bt b₁) w) a₂ z bt b₁ b₂) where
      second : eval_of sheet p q d a₁ (take bt b) (at (node_in a n) 2) ≡ yields a₂ z
      second = ap (λ (m : ℕ). eval_of sheet p q d a₁ (take bt b) m) (sym ew) ∙ ap (λ (l : List ℕ). eval_of sheet p q d a₁ l w) (sym g.log) ∙ is_yields (eval_of sheet p q d a₁ (take bt b₁) w) a₂ z h.words h.yield

      two_part : (t v : ℕ) → y ≡ Ok v → two_step (two_out t) (eval_of sheet p q d) a (take bt b) n (node_in a n) ≡ next (yields a₂ z) (λ c u. settle_of c (two_out t c v u))
      unfolding two_step next on_yield
      two_part t v e =
          ap (λ (o : E). next o (λ c u. next (eval_of sheet p q d c (take bt b) (at (node_in a n) 2)) (λ c₂ u₂. settle_of c₂ (two_out t c₂ u u₂)))) (first ∙ ap (yields a₁) e)
          ∙ ap (λ (o : E). next o (λ c u. settle_of c (two_out t c v u))) second

      pub two_right : (t v : ℕ) (f : EvalError) → y ≡ Ok v → z ≡ Err f → (r : Yield) → IsErr r → GaveBeside (two_step (two_out t) (eval_of sheet p q d) a (take bt b) n (node_in a n)) a₂ r bt b b₂
      unfolding next on_yield
      two_right t v f e k r er = gave_end _ a₂ r bt b b₂ (two_part t v e ∙ ap (λ (u : Yield). next (yields a₂ u) (λ c m. settle_of c (two_out t c v m))) k ∙ ap (yields a₂) (sym (is_failed r er))) (h.log ∙ g.log)

      pub two_on : (t v m : ℕ) (a₃ : List ℕ) (u : Yield) → y ≡ Ok v → z ≡ Ok m → Gave (settle_of a₂ (two_out t a₂ v m)) a₃ u → GaveBeside (two_step (two_out t) (eval_of sheet p q d) a (take bt b) n (node_in a n)) a₃ u bt b b₂
      unfolding next on_yield
      two_on t v m a₃ u e k j = gave_on _ (settle_of a₂ (two_out t a₂ v m)) a₃ u bt b b₂ (two_part t v e ∙ ap (λ (u : Yield). next (yields a₂ u) (λ c m. settle_of c (two_out t c v m))) k) (h.log ∙ g.log) j

    -- ---- and, or, if: the first operand as a bool

    module _ (t : Option Bool) (et : truth_of t ≡ yield_bool a₁ y) (u : Result Bool EvalError) (eu : t ≡ result_ok u) where
      pub lazy_other : (z : Bool) → (f : EvalError) → u ≡ Err f → (r : Yield) → IsErr r → GaveBeside (lazy_step z (eval_of sheet p q d) a (take bt b) n (node_in a n)) a₁ r bt b b₁
      unfolding lazy_step
      lazy_other z f e r er = gave_end _ a₁ r bt b b₁ (ap (λ (o : E). on_bool o (side_of z (eval_of sheet p q d) (take bt b) (at (node_in a n) 2))) first ∙ truth_off a₁ y (side_of z (eval_of sheet p q d) (take bt b) (at (node_in a n) 2)) (sym et ∙ ap truth_of (eu ∙ ap result_ok e)) ∙ ap (yields a₁) (sym (is_failed r er))) g.log

      pub if_other : (f : EvalError) → u ≡ Err f → (r : Yield) → IsErr r → GaveBeside (if_step (eval_of sheet p q d) a (take bt b) n (node_in a n)) a₁ r bt b b₁
      unfolding if_step
      if_other f e r er = gave_end _ a₁ r bt b b₁ (ap (λ (o : E). on_bool o (branch_of (eval_of sheet p q d) (take bt b) (at (node_in a n) 2) (at (node_in a n) 3))) first ∙ truth_off a₁ y (branch_of (eval_of sheet p q d) (take bt b) (at (node_in a n) 2) (at (node_in a n) 3)) (sym et ∙ ap truth_of (eu ∙ ap result_ok e)) ∙ ap (yields a₁) (sym (is_failed r er))) g.log

      module _ (x₁ : Bool) (e : u ≡ Ok x₁) where
        lazy_side : (z : Bool) → lazy_step z (eval_of sheet p q d) a (take bt b) n (node_in a n) ≡ side_of z (eval_of sheet p q d) (take bt b) (at (node_in a n) 2) a₁ x₁
        unfolding lazy_step
        lazy_side z = ap (λ (o : E). on_bool o (side_of z (eval_of sheet p q d) (take bt b) (at (node_in a n) 2))) first ∙ truth_on a₁ y (side_of z (eval_of sheet p q d) (take bt b) (at (node_in a n) 2)) x₁ (sym et ∙ ap truth_of (eu ∙ ap result_ok e))

        pub lazy_made : (z : Bool) (a₂ : List ℕ) (v : ℕ) → beq x₁ z ≡ true → Made a₁ (bool_row z) a₂ v → GaveBeside (lazy_step z (eval_of sheet p q d) a (take bt b) n (node_in a n)) a₂ (Ok v) bt b b₁
        unfolding made_of
        lazy_made z a₂ v k m = gave_on _ (made_of a₁ (bool_row z)) a₂ (Ok v) bt b b₁ (lazy_side z ∙ side_same z x₁ (eval_of sheet p q d) (take bt b) (at (node_in a n) 2) a₁ k) g.log (record { words = m.words; yield = ap Ok m.number })

        pub lazy_right : (z : Bool) (w : ℕ) (a₂ b₂ : List ℕ) (y₂ v : Yield) → beq x₁ z ≡ false → w ≡ get_or (node_in a n) 3 0 → GaveBeside (eval_of sheet p q d a₁ (take bt b₁) w) a₂ y₂ bt b₁ b₂
            → Gave (bool_only (yields a₂ y₂)) a₂ v → GaveBeside (lazy_step z (eval_of sheet p q d) a (take bt b) n (node_in a n)) a₂ v bt b b₂
        lazy_right z w a₂ b₂ y₂ v k ew h j =
            gave_on _ (bool_only (yields a₂ y₂)) a₂ v bt b b₂
            (lazy_side z ∙ side_other z x₁ (eval_of sheet p q d) (take bt b) (at (node_in a n) 2) a₁ k ∙ ap bool_only (second w ew a₂ b₂ y₂ h)) (h.log ∙ g.log) j

        if_side : if_step (eval_of sheet p q d) a (take bt b) n (node_in a n) ≡ branch_of (eval_of sheet p q d) (take bt b) (at (node_in a n) 2) (at (node_in a n) 3) a₁ x₁
        unfolding if_step
        if_side = ap (λ (o : E). on_bool o (branch_of (eval_of sheet p q d) (take bt b) (at (node_in a n) 2) (at (node_in a n) 3))) first ∙ truth_on a₁ y (branch_of (eval_of sheet p q d) (take bt b) (at (node_in a n) 2) (at (node_in a n) 3)) x₁ (sym et ∙ ap truth_of (eu ∙ ap result_ok e))

        module _ (w : ℕ) (a₂ b₂ : List ℕ) (z : Yield) (h : GaveBeside (eval_of sheet p q d a₁ (take bt b₁) w) a₂ z bt b₁ b₂) where
          branch_is : (m : ℕ) → w ≡ m → eval_of sheet p q d a₁ (take bt b) m ≡ eval_of sheet p q d a₁ (take bt b₁) w
          branch_is m k = ap (λ (m : ℕ). eval_of sheet p q d a₁ (take bt b) m) (sym k) ∙ ap (λ (l : List ℕ). eval_of sheet p q d a₁ l w) (sym g.log)

          pub if_true : x₁ ≡ true → w ≡ get_or (node_in a n) 3 0 → GaveBeside (if_step (eval_of sheet p q d) a (take bt b) n (node_in a n)) a₂ z bt b b₂
          unfolding branch_of
          if_true k ew = gave_after _ (eval_of sheet p q d a₁ (take bt b₁) w) a₂ z bt b b₁ b₂ (if_side ∙ ap (branch_of (eval_of sheet p q d) (take bt b) (at (node_in a n) 2) (at (node_in a n) 3) a₁) k ∙ branch_is (at (node_in a n) 2) ew) g.log h

          pub if_false : x₁ ≡ false → w ≡ get_or (node_in a n) 4 0 → GaveBeside (if_step (eval_of sheet p q d) a (take bt b) n (node_in a n)) a₂ z bt b b₂
          unfolding branch_of
          if_false k ew = gave_after _ (eval_of sheet p q d a₁ (take bt b₁) w) a₂ z bt b b₁ b₂ (if_side ∙ ap (branch_of (eval_of sheet p q d) (take bt b) (at (node_in a n) 2) (at (node_in a n) 3) a₁) k ∙ branch_is (at (node_in a n) 3) ew) g.log h

  -- ---- a node by its depth and tag

  pub eval_none : d ≡ 0 → GaveBeside (eval_of sheet p q d a (take bt b) n) a failed bt b b
  unfolding eval_of
  eval_none e = gave_end _ a failed bt b b (ap (λ (m : ℕ). eval_of sheet p q m a (take bt b) n) e) refl

by_level : (sheet : List ℕ) (p q d : ℕ) → (d ≡ 0 → ⊥) → eval_of sheet p q d ≡ step_of sheet p q (eval_of sheet p q (d - 1))
unfolding eval_of
by_level sheet p q zero h = absurd (h refl)
by_level sheet p q (suc d) h = let z : d ≡ suc d - 1 = omega arith in ap (λ (m : ℕ). step_of sheet p q (eval_of sheet p q m)) z

pub eval_step : (sheet : List ℕ) (p q : ℕ) (a b : List ℕ) (bt n d : ℕ) (r : List ℕ) (t : ℕ) (a₁ b₁ : List ℕ) (y : Yield) → (d ≡ 0 → ⊥) → r ≡ get_or (rows_of a NODE) n [] → t ≡ tag r
    → GaveBeside (step_at sheet p q t (eval_of sheet p q (d - 1)) a (take bt b) n (node_in a n)) a₁ y bt b b₁ → GaveBeside (eval_of sheet p q d a (take bt b) n) a₁ y bt b b₁
unfolding step_of
eval_step sheet p q a b bt n d r t a₁ b₁ y h er et g =
    gave_after _ _ a₁ y bt b b b₁ (ap (λ (f : Rec). f a (take bt b) n) (by_level sheet p q d h) ∙ ap (λ (m : ℕ). step_at sheet p q m (eval_of sheet p q (d - 1)) a (take bt b) n (node_in a n)) (sym (et ∙ ap tag er))) refl g

-- the steps of a list of operations
each_in : {A : Type 0} (g : A → Step) (xs : List A) (ss : List Step) (i : ℕ) (x : A) → i < length xs → get_or (each g xs ss) i err_step ≡ g (get_or xs i x)
each_in g [] ss i x h = absurd (omega (arith, h))
each_in g (y ∷ xs) ss zero x h = refl
each_in g (y ∷ xs) ss (suc i) x h = each_in g xs ss i x (omega (arith, h))

-- a tag that is none of those before it
pub two_low : (t : ℕ) → (t ≡ ERR → ⊥) → (t ≡ VAR → ⊥) → (t ≡ AND → ⊥) → (t ≡ OR → ⊥) → ERR ≤ t → EQ ≤ t
two_low t n₁ n₂ n₃ n₄ lo = above t OR (above t AND (above t VAR (above t ERR lo n₁) n₂) n₃) n₄

pub one_low : (t : ℕ) → (t ≡ IF → ⊥) → IF ≤ t → IS ≤ t
one_low t n lo = above t IF lo n

module _ (sheet : List ℕ) (p q : ℕ) (a b : List ℕ) (bt n d t : ℕ) where
  abbrev by : Step → E
  by s = s (eval_of sheet p q d) a (take bt b) n (node_in a n)

  is_step : (k : ℕ) → t ≡ k → by (step_at sheet p q t) ≡ by (step_at sheet p q k)
  is_step k e = ap (λ (m : ℕ). by (step_at sheet p q m)) e

  pub step_err : t ≡ ERR → GaveBeside (step_at sheet p q t (eval_of sheet p q d) a (take bt b) n (node_in a n)) a failed bt b b
  unfolding step_at err_step
  step_err e = gave_end _ a failed bt b b (is_step ERR e) refl

  pub step_past : SET_OF ≤ t → (t ≡ SET_OF → ⊥) → (t ≡ RECORD_OF → ⊥) → (t ≡ SLOT → ⊥) → GaveBeside (step_at sheet p q t (eval_of sheet p q d) a (take bt b) n (node_in a n)) a failed bt b b
  unfolding step_at err_step
  step_past h n₁ n₂ n₃ = gave_end _ a failed bt b b (ap by (get_or-eq_default (steps sheet p q) err_step {n = t - first_node} (omega (arith, h)))) refl

  pub step_lit : (x : ℕ) → t < ERR → x ≡ get_or (node_in a n) 2 0 → GaveBeside (step_at sheet p q t (eval_of sheet p q d) a (take bt b) n (node_in a n)) a (Ok x) bt b b
  unfolding step_at lit_step
  step_lit x h ex = let z : t - first_node ≡ 0 = omega (arith, h) in gave_end _ a (Ok x) bt b b (ap (λ (m : ℕ). by (get_or (steps sheet p q) m err_step)) z ∙ ap (λ (m : ℕ). yields a (Ok m)) (sym ex)) refl

  pub step_slot : (x v : ℕ) → t ≡ SLOT → x ≡ get_or (node_in a n) 2 0 → v ≡ slot_value p q x → GaveBeside (step_at sheet p q t (eval_of sheet p q d) a (take bt b) n (node_in a n)) a (Ok v) bt b b
  unfolding step_at slot_step
  step_slot x v e ex ev = gave_end _ a (Ok v) bt b b (is_step SLOT e ∙ ap (λ (m : ℕ). yields a (Ok m)) (ap (slot_value p q) (sym ex) ∙ sym ev)) refl

  pub step_var : (x : ℕ) (a₁ : List ℕ) (y : Yield) → t ≡ VAR → x ≡ get_or (node_in a n) 2 0 → Gave (opt_of a ((env_of a).request (var_of x))) a₁ y → GaveBeside (step_at sheet p q t (eval_of sheet p q d) a (take bt b) n (node_in a n)) a₁ y bt b b
  unfolding step_at var_step
  step_var x a₁ y e ex g = gave_on _ (opt_of a ((env_of a).request (var_of x))) a₁ y bt b b (is_step VAR e ∙ ap (λ (m : ℕ). opt_of a ((env_of a).request (var_of m))) (sym ex)) refl g

  module _ (a₁ b₁ : List ℕ) (y : Yield) where
    pub step_and : t ≡ AND → GaveBeside (lazy_step false (eval_of sheet p q d) a (take bt b) n (node_in a n)) a₁ y bt b b₁ → GaveBeside (step_at sheet p q t (eval_of sheet p q d) a (take bt b) n (node_in a n)) a₁ y bt b b₁
    unfolding step_at
    step_and e g = gave_after _ _ a₁ y bt b b b₁ (is_step AND e) refl g

    pub step_or : t ≡ OR → GaveBeside (lazy_step true (eval_of sheet p q d) a (take bt b) n (node_in a n)) a₁ y bt b b₁ → GaveBeside (step_at sheet p q t (eval_of sheet p q d) a (take bt b) n (node_in a n)) a₁ y bt b b₁
    unfolding step_at
    step_or e g = gave_after _ _ a₁ y bt b b b₁ (is_step OR e) refl g

    pub step_if : t ≡ IF → GaveBeside (if_step (eval_of sheet p q d) a (take bt b) n (node_in a n)) a₁ y bt b b₁ → GaveBeside (step_at sheet p q t (eval_of sheet p q d) a (take bt b) n (node_in a n)) a₁ y bt b b₁
    unfolding step_at
    step_if e g = gave_after _ _ a₁ y bt b b b₁ (is_step IF e) refl g

    pub step_set : t ≡ SET_OF → GaveBeside (set_step (eval_of sheet p q d) a (take bt b) n (node_in a n)) a₁ y bt b b₁ → GaveBeside (step_at sheet p q t (eval_of sheet p q d) a (take bt b) n (node_in a n)) a₁ y bt b b₁
    unfolding step_at
    step_set e g = gave_after _ _ a₁ y bt b b b₁ (is_step SET_OF e) refl g

    pub step_record : t ≡ RECORD_OF → GaveBeside (rec_step (eval_of sheet p q d) a (take bt b) n (node_in a n)) a₁ y bt b b₁ → GaveBeside (step_at sheet p q t (eval_of sheet p q d) a (take bt b) n (node_in a n)) a₁ y bt b b₁
    unfolding step_at
    step_record e g = gave_after _ _ a₁ y bt b b b₁ (is_step RECORD_OF e) refl g

    two_at_law : (i : ℕ) → i < length twos → t ≡ EQ + i → by (step_at sheet p q t) ≡ by (two_step (two_out t))
    unfolding step_at two_out
    two_at_law i h e =
        let k : t - first_node ≡ suc (suc (suc (suc (suc i)))) = omega (arith, e) in
        let j : i ≡ t - EQ = omega (arith, e) in
        ap (λ (m : ℕ). by (get_or (steps sheet p q) m err_step)) k ∙ ap by (each_in two_step twos (if_step ∷ each one_step (ones sheet) (set_step ∷ rec_step ∷ slot_step p q ∷ [])) i (bin_out bany) h) ∙ ap (λ (m : ℕ). by (two_step (get_or twos m (bin_out bany)))) j

    one_at_law : (i : ℕ) → i < length (ones sheet) → t ≡ IS + i → by (step_at sheet p q t) ≡ by (one_step (one_out sheet t))
    unfolding step_at one_out
    one_at_law i h e =
        let k : t - first_node ≡ suc (suc (suc (suc (suc (suc (suc (suc (suc (suc (suc (suc (suc (suc (suc (suc (suc (suc i))))))))))))))))) = omega (arith, e) in
        let j : i ≡ t - IS = omega (arith, e) in
        ap (λ (m : ℕ). by (get_or (steps sheet p q) m err_step)) k ∙ ap by (each_in one_step (ones sheet) (set_step ∷ rec_step ∷ slot_step p q ∷ []) i (un_out sheet (λ r. uempty)) h) ∙ ap (λ (m : ℕ). by (one_step (get_or (ones sheet) m (un_out sheet (λ r. uempty))))) j

    two_here : EQ ≤ t → t < IF → by (step_at sheet p q t) ≡ by (two_step (two_out t))
    two_here lo hi = two_at_law (t - EQ) (omega arith) (omega arith)

    one_here : IS ≤ t → t < SET_OF → by (step_at sheet p q t) ≡ by (one_step (one_out sheet t))
    one_here lo hi = one_at_law (t - IS) (omega arith) (omega arith)

    pub step_two : (t ≡ ERR → ⊥) → (t ≡ VAR → ⊥) → (t ≡ AND → ⊥) → (t ≡ OR → ⊥) → ERR ≤ t → t < IF → GaveBeside (two_step (two_out t) (eval_of sheet p q d) a (take bt b) n (node_in a n)) a₁ y bt b b₁ → GaveBeside (step_at sheet p q t (eval_of sheet p q d) a (take bt b) n (node_in a n)) a₁ y bt b b₁
    step_two n₁ n₂ n₃ n₄ lo hi g =
        gave_after _ _ a₁ y bt b b b₁ (two_here (two_low t n₁ n₂ n₃ n₄ lo) hi) refl g

    pub step_one : (t ≡ IF → ⊥) → IF ≤ t → t < SET_OF → GaveBeside (one_step (one_out sheet t) (eval_of sheet p q d) a (take bt b) n (node_in a n)) a₁ y bt b b₁ → GaveBeside (step_at sheet p q t (eval_of sheet p q d) a (take bt b) n (node_in a n)) a₁ y bt b b₁
    step_one n lo hi g = gave_after _ _ a₁ y bt b b b₁ (one_here (one_low t n lo) hi) refl g

-- ---- children

pub more_room : (b b₁ b₂ xs : List ℕ) (bt e : ℕ) → Room b bt → length b₁ ≡ length b → Appended b₁ bt xs b₂ e → Room b₂ e
more_room b b₁ b₂ xs bt e room len p = append_room (record { low = room.low; long = omega (arith, room.long, len) }) p

module _ (sheet : List ℕ) (p q : ℕ) (a b : List ℕ) (bt n s i k d : ℕ) (room : Room b bt) where
  none_more : (b' : List ℕ) → kids_of (eval_of sheet p q d) n s k i a (take bt b) ≡ kids a (take bt b) true → Left (kids_of (eval_of sheet p q d) n s k i a (take bt b)) a (Ok bt) bt b b
  none_more b' e = record {
    words = sym (ap (λ (x : Kids). x.words) e);
    all = sym (ap (λ (x : Kids). x.all) e);
    log = holds_as (holds_same b bt room) (sym (ap (λ (x : Kids). x.log) e));
    kept = refl;
  }

  pub kids_none : k ≡ 0 → Left (kids_of (eval_of sheet p q d) n s k i a (take bt b)) a (Ok bt) bt b b
  unfolding kids_of
  kids_none e = none_more b (ap (λ (m : ℕ). kids_of (eval_of sheet p q d) n s m i a (take bt b)) e)

  module _ (h : k ≡ 0 → ⊥) (r : List ℕ) (er : r ≡ get_or (rows_of a NODE) n []) where
    more : (j : ℕ) → k ≡ suc j → kids_of (eval_of sheet p q d) n s k i a (take bt b)
        ≡ cond (ltb i (length r)) (next_kid (eval_of sheet p q d a (take bt b) (get_or (node_in a n) i 0)).words (take bt b) (eval_of sheet p q d a (take bt b) (get_or (node_in a n) i 0)).yield
        (λ m. kids_of (eval_of sheet p q d) n s j (i + s) (eval_of sheet p q d a (take bt b) (get_or (node_in a n) i 0)).words m)) (kids a (take bt b) true)
    unfolding kids_of
    more j e = ap (λ (m : ℕ). kids_of (eval_of sheet p q d) n s m i a (take bt b)) e ∙ ap (λ (l : List ℕ). cond (ltb i (length l)) (next_kid (eval_of sheet p q d a (take bt b) (get_or (node_in a n) i 0)).words (take bt b) (eval_of sheet p q d a (take bt b) (get_or (node_in a n) i 0)).yield
        (λ m. kids_of (eval_of sheet p q d) n s j (i + s) (eval_of sheet p q d a (take bt b) (get_or (node_in a n) i 0)).words m)) (kids a (take bt b) true)) (sym er)

    fewer : k ≡ suc (k - 1)
    fewer = omega arith

    pub kids_end : length r ≤ i → Left (kids_of (eval_of sheet p q d) n s k i a (take bt b)) a (Ok bt) bt b b
    kids_end l = none_more b (more (k - 1) fewer ∙ rw (le-ltb i (length r) l))

    module _ (l : i < length r) (x : ℕ) (ex : x ≡ get_or (node_in a n) i 0) (a₁ b₁ : List ℕ) (y : Yield) (g : GaveBeside (eval_of sheet p q d a (take bt b) x) a₁ y bt b b₁) where
      kid : kids_of (eval_of sheet p q d) n s k i a (take bt b) ≡ next_kid a₁ (take bt b) y (λ m. kids_of (eval_of sheet p q d) n s (k - 1) (i + s) a₁ m)
      kid =
          more (k - 1) fewer ∙ rw (lt-ltb i (length r) l)
          (ap (λ (o : E). next_kid o.words (take bt b) o.yield (λ m. kids_of (eval_of sheet p q d) n s (k - 1) (i + s) o.words m))
          (ap (λ (m : ℕ). eval_of sheet p q d a (take bt b) m) (sym ex) ∙ is_yields (eval_of sheet p q d a (take bt b) x) a₁ y g.words g.yield))

      pub kids_error : (f : EvalError) → y ≡ Err f → (r : Result ℕ EvalError) → IsErr r → Left (kids_of (eval_of sheet p q d) n s k i a (take bt b)) a₁ r bt b b₁
      unfolding next_kid
      kids_error f e r er =
          let z : kids_of (eval_of sheet p q d) n s k i a (take bt b) ≡ kids a₁ (take bt b) false = kid ∙ ap (λ (u : Yield). next_kid a₁ (take bt b) u (λ m. kids_of (eval_of sheet p q d) n s (k - 1) (i + s) a₁ m)) e in
          record {
            words = sym (ap (λ (x : Kids). x.words) z);
            all = ap all_of (is_failed r er) ∙ sym (ap (λ (x : Kids). x.all) z);
            log = IfOk-from_err r _ er;
            kept = g.log;
          }

      module _ (len : length b₁ ≡ length b) (v e : ℕ) (b₂ : List ℕ) (ev : y ≡ Ok v) (put : Appended b₁ bt (lit_row v 0) b₂ e) where
        pub kids_more : (a₂ b₃ : List ℕ) (o : Result ℕ EvalError) → Left (kids_of (eval_of sheet p q d) n s (k - 1) (i + s) a₁ (take e b₂)) a₂ o e b₂ b₃ → Left (kids_of (eval_of sheet p q d) n s k i a (take bt b)) a₂ o bt b b₃
        unfolding next_kid
        kids_more a₂ b₃ o f =
            let hold = append_holds (record { low = room.low; long = omega (arith, room.long, len) }) put in
            let z : kids_of (eval_of sheet p q d) n s k i a (take bt b) ≡ kids_of (eval_of sheet p q d) n s (k - 1) (i + s) a₁ (take e b₂)
            = kid ∙ ap (λ (u : Yield). next_kid a₁ (take bt b) u (λ m. kids_of (eval_of sheet p q d) n s (k - 1) (i + s) a₁ m)) ev
            ∙ ap (λ (m : List ℕ). kids_of (eval_of sheet p q d) n s (k - 1) (i + s) a₁ m) (sym (hold.is ∙ ap (λ (m : List ℕ). appended m (lit_row v 0)) g.log)) in
            record {
              words = f.words ∙ sym (ap (λ (x : Kids). x.words) z);
              all = f.all ∙ sym (ap (λ (x : Kids). x.all) z);
              log = IfOk-weaker o _ _ (λ end h. holds_as (holds_from h hold.grows) (sym (ap (λ (x : Kids). x.log) z))) f.log;
              kept = sym (log_cut b₃ e bt hold.grows) ∙ ap (take bt) f.kept ∙ log_cut b₂ e bt hold.grows ∙ append_below put ∙ g.log;
            }

-- ---- sets and records

-- the rows from the log's end on
part_is : (w : List ℕ) (start e : ℕ) → start ≤ e → start ≤ length w → drop start (take e w) ≡ part w start e
part_is w start e h l =
    let z : e ≡ start + (e - start) = omega (arith, h) in
    ap (λ (m : ℕ). drop start (take m w)) z ∙ ap (drop start) (take-add start (e - start) w) ∙ drop_at (take start w) (take (e - start) (drop start w)) start (length-take-le start w l)

module _ (sheet : List ℕ) (p q : ℕ) (a b : List ℕ) (bt n d : ℕ) (room : Room b bt) (a₁ b₁ : List ℕ) where
  module _ (s i : ℕ) where
    abbrev all_kids : Kids
    all_kids = kids_of (eval_of sheet p q d) n s 16384 i a (take bt b)

    many_error : (F : Kids → List ℕ) (f : EvalError) → Left all_kids a₁ (Err f) bt b b₁ → (r : Yield) → IsErr r → GaveBeside (many_of (F all_kids) all_kids) a₁ r bt b b₁
    unfolding many_of
    many_error F f g r er =
        gave_end _ a₁ r bt b b₁
        (ap (λ (x : Bool). cond x (made_of all_kids.words (written all_kids.log (F all_kids))) (yields all_kids.words failed)) (sym g.all) ∙ ap (λ (x : List ℕ). yields x failed) (sym g.words) ∙ ap (yields a₁) (sym (is_failed r er))) g.kept

    module _ (len : length b₁ ≡ length b) (e : ℕ) (g : Left all_kids a₁ (Ok e) bt b b₁) where
      worked : all_kids ≡ kids a₁ (take e b₁) true
      worked = λ j. record { words = sym g.words j; log = sym g.log.is j; all = sym g.all j }

      rows : drop (length (take bt b)) (take e b₁) ≡ part b₁ bt e
      rows =
          let z : length (take bt b) ≡ bt = log_length b bt room in
          ap (λ (m : ℕ). drop m (take e b₁)) z ∙ part_is b₁ bt e g.log.grows (omega (arith, room.low, room.long, len))

      still : (b₂ : List ℕ) → take e b₂ ≡ take e b₁ → take bt b₂ ≡ take bt b
      still b₂ h = sym (log_cut b₂ e bt g.log.grows) ∙ ap (take bt) h ∙ log_cut b₁ e bt g.log.grows ∙ g.kept

      many_made : (F : Kids → List ℕ) (r a₂ b₂ : List ℕ) (v : ℕ) → F (kids a₁ (take e b₁) true) ≡ r → MadeBeside a₁ a₂ v e b₁ b₂ r → GaveBeside (many_of (F all_kids) all_kids) a₂ (Ok v) bt b b₂
      unfolding many_of made_of
      many_made F r a₂ b₂ v er m =
          gave_on _ (made_of a₁ (written (take e b₁) r)) a₂ (Ok v) bt b b₂
          (ap (λ (x : Kids). many_of (F x) x) worked ∙ ap (λ (x : List ℕ). made_of a₁ (written (take e b₁) x)) er)
          (still b₂ m.log) (record { words = m.made.words; yield = ap Ok m.made.number })

  pub set_error : (f : EvalError) → Left (all_kids 1 2) a₁ (Err f) bt b b₁ → (r : Yield) → IsErr r → GaveBeside (set_step (eval_of sheet p q d) a (take bt b) n (node_in a n)) a₁ r bt b b₁
  unfolding set_step
  set_error f g r er = many_error 1 2 (λ k. set_row (drop (length (take bt b)) k.log)) f g r er

  pub record_error : (f : EvalError) → Left (all_kids 2 3) a₁ (Err f) bt b b₁ → (r : Yield) → IsErr r → GaveBeside (rec_step (eval_of sheet p q d) a (take bt b) n (node_in a n)) a₁ r bt b b₁
  unfolding rec_step
  record_error f g r er = many_error 2 3 (λ k. record_row (node_in k.words n) (drop (length (take bt b)) k.log)) f g r er

  module _ (len : length b₁ ≡ length b) (e : ℕ) where
    pub set_made : Left (all_kids 1 2) a₁ (Ok e) bt b b₁ → (a₂ b₂ : List ℕ) (v : ℕ) → MadeBeside a₁ a₂ v e b₁ b₂ (set_row (part b₁ bt e)) → GaveBeside (set_step (eval_of sheet p q d) a (take bt b) n (node_in a n)) a₂ (Ok v) bt b b₂
    unfolding set_step
    set_made g a₂ b₂ v m = many_made 1 2 len e g (λ k. set_row (drop (length (take bt b)) k.log)) (set_row (part b₁ bt e)) a₂ b₂ v (ap set_row (rows 1 2 len e g)) m

    pub record_made : Left (all_kids 2 3) a₁ (Ok e) bt b b₁ → (a₂ b₂ : List ℕ) (v : ℕ) → MadeBeside a₁ a₂ v e b₁ b₂ (record_row (get_or (rows_of a₁ NODE) n []) (part b₁ bt e)) → GaveBeside (rec_step (eval_of sheet p q d) a (take bt b) n (node_in a n)) a₂ (Ok v) bt b b₂
    unfolding rec_step
    record_made g a₂ b₂ v m =
        many_made 2 3 len e g (λ k. record_row (node_in k.words n) (drop (length (take bt b)) k.log)) (record_row (get_or (rows_of a₁ NODE) n []) (part b₁ bt e)) a₂ b₂ v (ap (record_row (node_in a₁ n)) (rows 2 3 len e g)) m

-- ---- the policies in turn

-- a policy's tree under its link, to the depth of the run
abbrev pub under : List ℕ → ℕ → ℕ → Rec
under sheet = λ p q. eval_of sheet p q 64

-- policy i is next, and what is left gives the whole
pub record Running (sheet a₀ : List ℕ) (all : ℕ) (a b : List ℕ) (bt i : ℕ) : Type 0 where
  pub room : Room b bt
  pub near : i ≤ all
  pub left : ran_from (under sheet) (all - i) i a (take bt b) ≡ run_of sheet a₀

pub run_start : (sheet a b : List ℕ) (all : ℕ) → 16384 ≤ length b → all ≡ get_or a RUN 0 → Running sheet a all a b 0 0
unfolding run_of
run_start sheet a b all l e = record { room = record { low = omega arith; long = l }; near = omega arith; left = let z : all - 0 ≡ get_or a RUN 0 = omega (arith, e) in ap (λ (m : ℕ). ran_from (under sheet) m 0 a []) z }

-- the policies after it, where the policy of number i yields o
abbrev onward : (ℕ → ℕ → Rec) → ℕ → ℕ → List ℕ → E → Ran
onward f k i l o = ran_from f k (suc i) o.words (pushed l (class_number (class_of o.words o.yield)))

ran_next : (f : ℕ → ℕ → Rec) (k i : ℕ) (a l : List ℕ) (x p q : ℕ) → x ≡ get_or (policy_in a i) 3 0 → p ≡ get_or (policy_in a i) 4 0 → q ≡ get_or (policy_in a i) 5 0 → 0 < k
    → ran_from f k i a l ≡ onward f (k - 1) i l (f p q a l x)
unfolding ran_from
ran_next f zero i a l x p q ex ep eq h = absurd (omega arith)
ran_next f (suc k) i a l x p q ex ep eq h =
    let z : k ≡ suc k - 1 = omega arith in
    (λ j. onward f k i l (f (sym ep j) (sym eq j) a l (sym ex j))) ∙ ap (λ (m : ℕ). onward f m i l (f p q a l x)) z

module _ (sheet a₀ : List ℕ) (all : ℕ) (a b : List ℕ) (bt i : ℕ) (g : Running sheet a₀ all a b bt i) where
  pub run_end : all ≤ i → Done (run_of sheet a₀) a b bt
  unfolding ran_from
  run_end h =
      let z : all - i ≡ 0 = omega (arith, h) in
      let w : run_of sheet a₀ ≡ record { words = a; log = take bt b } = sym g.left ∙ ap (λ (m : ℕ). ran_from (under sheet) m i a (take bt b)) z in
      record {
        words = sym (ap (λ (t : Ran). t.words) w);
        log = sym (ap (λ (t : Ran). t.log) w);
        end = sym (ap (λ (t : Ran). length t.log) w ∙ log_length b bt g.room);
      }

  pub run_more : (r : List ℕ) (x p q : ℕ) (a₁ b₁ : List ℕ) (y : Yield) (c e : ℕ) (b₂ : List ℕ) (k : Class) → i < all → r ≡ get_or (rows_of a RUN) i [] → x ≡ get_or r 3 0 → p ≡ get_or r 4 0 → q ≡ get_or r 5 0 → GaveBeside (eval_of sheet p q 64 a (take bt b) x) a₁ y bt b b₁
      → length b₁ ≡ length b → k ≡ class_of a₁ y → c ≡ class_number k → Appended b₁ bt (c ∷ []) b₂ e → Running sheet a₀ all a₁ b₂ e (i + 1)
  run_more r x p q a₁ b₁ y c e b₂ k l er ex ep eq v len ek ec put =
      let room₁ : Room b₁ bt = record { low = g.room.low; long = omega (arith, g.room.long, len) } in
      let z : all - (i + 1) ≡ all - i - 1 = omega arith in
      let u : i + 1 ≡ suc i = omega arith in
      let there : (j : ℕ) → get_or r j 0 ≡ get_or (policy_in a i) j 0 = λ j. ap (λ (m : List ℕ). get_or m j 0) er in
      let log : take e b₂ ≡ pushed (take bt b) (class_number (class_of a₁ y)) = (append_holds room₁ put).is ∙ ap (λ (m : List ℕ). pushed m c) v.log ∙ ap (pushed (take bt b)) (ec ∙ ap class_number ek) in
      record {
        room = append_room room₁ put;
        near = omega (arith, l);
        left =
            ap (λ (m : ℕ). ran_from (under sheet) m (i + 1) a₁ (take e b₂)) z ∙ ap (λ (m : ℕ). ran_from (under sheet) (all - i - 1) m a₁ (take e b₂)) u ∙ ap (ran_from (under sheet) (all - i - 1) (suc i) a₁) log
            ∙ sym (ran_next (under sheet) (all - i) i a (take bt b) x p q (ex ∙ there 3) (ep ∙ there 4) (eq ∙ there 5) (omega (arith, l))
            ∙ ap (onward (under sheet) (all - i - 1) i (take bt b)) (is_yields (eval_of sheet p q 64 a (take bt b) x) a₁ y v.words v.yield))
            ∙ g.left;
      }

-- Strict operations over operands that are worked: what they leave stands for what the numbered steps leave. Assumes nothing.
use mathlib.Core.Path.{◌≡◌, sym, ◌∙◌, ap}
use mathlib.Core.Bool.{Bool, true, false, ◌||◌}
use mathlib.Core.Option.{Option, none, some}
use mathlib.Core.List.{List, [], ◌∷◌, ◌++◌, append_assoc, append-nil}
use Prim.Native.Nat.{ℕ, suc, ◌+◌, ◌*◌, ◌≤◌, ◌<◌}
use native.Mathlib.Omega.{arith}
use lib.ListN.{length, get_or, take, length-append}
use Rattle.cedar.specs.Residual.{Node, err, ty_of, can_err, Stage, value, error, open', view}
use Rattle.cedar.specs.Rows.{Row, rbool}
use Rattle.cedar.specs.Numbered.{Give, made, old, NOut, give, fails, stays, Out, out, make, give_lit, n_settle, n_strict1, n_strict2, n_by_rule}
use Rattle.sheet.specs.Forms.{NODE}
use Rattle.table.specs.Layout.{rows_of}
use Rattle.value.specs.Made.{bool_row}
use Rattle.residual.specs.Rows.{word_at, stage_at}
use Rattle.residual.specs.Errs.{errs}
use Rattle.residual.specs.Trees.{Ress, rnil, rcons, flat, flats, count_res, left_tree, suits, trees_of, Wholes, whole_none, whole_more}
use Rattle.residual.proofs.Meaning.{stage_for}
use Rattle.tpe.specs.Run.{O, err_of, left_of, made_of, words_of, give_of, settle_of, ruled_of, worked1, worked2, one_of, two_of}
use Rattle.tpe.proofs.Outcomes.{RowFine, GiveFine, Fine, words_row, words_formed, words_short, bool_row_law}
use Rattle.tpe.proofs.Stands.{Hold, values, Room, Space, Spent, space_spent, tys, nodes, ty, Is, is_as, stage_there, type_there, errs_there, lit_is, err_is, left_is, make_is, make_bool, cut_back}

-- the operands rs stand on the log l₁ from l on, and the words are a₁: node c, of the listed type y, would be left over them as `keep`
pub record Over (sheet a₀ : List ℕ) (d n : ℕ) (a l a₁ l₁ : List ℕ) (R : List Row) (c y : ℕ) (keep : Node ℕ) : Type 0 where
  pub room : Room n a l
  pub hold : Hold a₀ a₁
  pub space : Space 3 n a a₁
  pub rows : values a₁ ≡ R
  pub ress : Ress
  pub log : l₁ ≡ l ++ flats ress
  pub short : length (flats ress) + 4 ≤ 4 * n
  pub wholes : Wholes (tys sheet a₀) (nodes sheet a₀) d ress
  pub typed : y < length (tys sheet a₀)
  pub suit : suits (get_or (nodes sheet a₀) c []) (count_res ress) ≡ true
  pub kept : left_tree (get_or (nodes sheet a₀) c []) 0 (ty sheet a₀ y) (trees_of (tys sheet a₀) (nodes sheet a₀) ress) ≡ keep

module _ (sheet a₀ : List ℕ) {d n : ℕ} {a l a₁ l₁ : List ℕ} {R : List Row} {c y : ℕ} {keep : Node ℕ} (v : Over sheet a₀ d n a l a₁ l₁ R c y keep) where
  one : 1 ≤ n
  one = omega (arith, v.short)

  none_made : Spent n a a₁
  none_made = space_spent 3 n a a₁ v.space

  cut : take (length l) l₁ ≡ l
  cut = cut_back l (flats v.ress) l₁ v.log

  pub over_err : Is sheet a₀ (suc d) n a l (out R (err (ty sheet a₀ y))) (err_of a₁ (take (length l) l₁) y)
  over_err = rw (cut, ← v.rows) (err_is sheet a₀ d n one a l a₁ v.room v.hold none_made y v.typed)

  pub over_left : Is sheet a₀ (suc d) n a l (out R keep) (left_of a₁ l₁ (length l) c 0 y)
  over_left = rw (← v.rows) (left_is sheet a₀ d n one a l a₁ v.room v.hold none_made l₁ v.ress v.log v.short v.wholes c 0 y v.typed v.suit keep v.kept)

  pub over_bool : (b : Bool) → Is sheet a₀ (suc d) n a l (make (ty sheet a₀ y) (rbool b) R) (made_of a₁ (take (length l) l₁) y (bool_row b))
  over_bool b = rw (cut, ← v.rows, ← bool_row_law b) (make_bool sheet a₀ d n one a l a₁ v.room v.hold v.space b y v.typed)

  over_made : (r : Row) → RowFine r → Is sheet a₀ (suc d) n a l (make (ty sheet a₀ y) r R) (made_of a₁ (take (length l) l₁) y (words_of r))
  over_made r f =
      rw (cut, ← v.rows)
      (is_as sheet a₀ (make_is sheet a₀ d n one a l a₁ v.room v.hold 3 v.space (words_of r) (words_formed r f) (words_short r f) y v.typed)
      (ap (λ (q : Row). make (ty sheet a₀ y) q (values a₁)) (words_row r f)))

  over_give : (g : Give) → GiveFine g → Is sheet a₀ (suc d) n a l (give_lit (ty sheet a₀ y) g R) (give_of a₁ (take (length l) l₁) y g)
  unfolding give_of
  over_give (made r) f = over_made r f
  over_give (old x) f = rw (cut, ← v.rows) (lit_is sheet a₀ d n one a l a₁ v.room v.hold none_made y x v.typed)

  over_settle : (x : NOut) → Fine x → Is sheet a₀ (suc d) n a l (n_settle (ty sheet a₀ y) keep x R) (settle_of a₁ l₁ (length l) c y x)
  unfolding settle_of
  over_settle (give g) f = over_give g f
  over_settle fails f = over_err
  over_settle stays f = over_left

  over_one : (g : ℕ → NOut) → ((x : ℕ) → Fine (g x)) → (s : Stage ℕ) → Is sheet a₀ (suc d) n a l (n_strict1 (ty sheet a₀ y) keep g s R) (worked1 g a₁ l₁ (length l) c y (stage_for s))
  unfolding worked1
  over_one g f (value x) = over_settle (g x) (f x)
  over_one g f error = over_err
  over_one g f open' = over_left

  over_two : (g : ℕ → ℕ → NOut) → ((x z : ℕ) → Fine (g x z)) → (s t : Stage ℕ) → Is sheet a₀ (suc d) n a l (n_strict2 (ty sheet a₀ y) keep g s t R) (worked2 g a₁ l₁ (length l) c y (stage_for s) (stage_for t))
  unfolding worked2
  over_two g f (value x) (value z) = over_settle (g x z) (f x z)
  over_two g f (value x) error = over_err
  over_two g f (value x) open' = over_left
  over_two g f error t = over_err
  over_two g f open' (value z) = over_left
  over_two g f open' error = over_err
  over_two g f open' open' = over_left

  pub over_ruled : (b : Bool) (q : Option Bool) (X : Out) (o : O) → Is sheet a₀ (suc d) n a l X o → Is sheet a₀ (suc d) n a l (n_by_rule (ty sheet a₀ y) b q X R) (ruled_of a₁ l₁ (length l) y b q o)
  unfolding ruled_of
  over_ruled true q X o i = i
  over_ruled false none X o i = i
  over_ruled false (some b) X o i = over_bool b

  -- operands of trees t and u
  pub one_is : (t : Node ℕ) → errs (rows_of a₁ NODE) l₁ (length l₁) ≡ can_err t → stage_at l₁ (length l₁) ≡ stage_for (view t)
      → (q : Option Bool) (g : ℕ → NOut) → ((x : ℕ) → Fine (g x))
      → Is sheet a₀ (suc d) n a l (n_by_rule (ty sheet a₀ y) (can_err t) q (n_strict1 (ty sheet a₀ y) keep g (view t) R) R) (one_of q g a₁ l₁ (length l) c y)
  unfolding one_of
  one_is t ee es q g f = rw (ee, es) (over_ruled (can_err t) q _ _ (over_one g f (view t)))

  pub two_is : (mid : ℕ) (t u : Node ℕ) → errs (rows_of a₁ NODE) l₁ mid ≡ can_err t → stage_at l₁ mid ≡ stage_for (view t)
      → errs (rows_of a₁ NODE) l₁ (length l₁) ≡ can_err u → stage_at l₁ (length l₁) ≡ stage_for (view u)
      → (q : Option Bool) (g : ℕ → ℕ → NOut) → ((x z : ℕ) → Fine (g x z))
      → Is sheet a₀ (suc d) n a l (n_by_rule (ty sheet a₀ y) (can_err t || can_err u) q (n_strict2 (ty sheet a₀ y) keep g (view t) (view u) R) R) (two_of q g a₁ l₁ (length l) mid c y)
  unfolding two_of
  two_is mid t u te ts ue us q g f = rw (te, ts, ue, us) (over_ruled (can_err t || can_err u) q _ _ (over_two g f (view t) (view u)))

-- ---- the last block of a log

module _ (sheet a₀ : List ℕ) {d n : ℕ} {a l : List ℕ} {X : Out} {o : O} (deep : d ≤ 64) (i : Is sheet a₀ d n a l X o) where
  last_log : o.log ≡ l ++ (flat i.res ++ [])
  last_log = i.log ∙ ap (λ (z : List ℕ). l ++ z) (sym (append-nil (flat i.res)))

  last_end : length o.log ≡ length l + length (flat i.res)
  last_end = ap length i.log ∙ length-append l (flat i.res)

  pub last_stage : stage_at o.log (length o.log) ≡ stage_for (view X.tree)
  last_stage = stage_there sheet a₀ i.res i.whole deep l [] o.log (length o.log) last_log last_end ∙ ap (λ (t : Node ℕ). stage_for (view t)) i.tree

  pub last_type : ty sheet a₀ (word_at o.log (length o.log) 3) ≡ ty_of X.tree
  last_type = type_there sheet a₀ i.res i.whole deep l [] o.log (length o.log) last_log last_end ∙ ap ty_of i.tree

  pub last_errs : errs (rows_of o.words NODE) o.log (length o.log) ≡ can_err X.tree
  last_errs = errs_there sheet a₀ i.res i.whole deep l [] o.log (length o.log) last_log last_end o.words i.hold ∙ ap can_err i.tree

  -- the same of the block before the last one
  module _ {e p : ℕ} {Y : Out} {u : O} (j : Is sheet a₀ e p o.words o.log Y u) where
    first_log : u.log ≡ l ++ (flat i.res ++ flat j.res)
    first_log = j.log ∙ ap (λ (z : List ℕ). z ++ flat j.res) i.log ∙ append_assoc l (flat i.res) (flat j.res)

    pub first_stage : stage_at u.log (length o.log) ≡ stage_for (view X.tree)
    first_stage = stage_there sheet a₀ i.res i.whole deep l (flat j.res) u.log (length o.log) first_log last_end ∙ ap (λ (t : Node ℕ). stage_for (view t)) i.tree

    pub first_type : ty sheet a₀ (word_at u.log (length o.log) 3) ≡ ty_of X.tree
    first_type = type_there sheet a₀ i.res i.whole deep l (flat j.res) u.log (length o.log) first_log last_end ∙ ap ty_of i.tree

    pub first_errs : errs (rows_of u.words NODE) u.log (length o.log) ≡ can_err X.tree
    first_errs = errs_there sheet a₀ i.res i.whole deep l (flat j.res) u.log (length o.log) first_log last_end u.words j.hold ∙ ap can_err i.tree

  -- ---- one operand

  module _ (c y : ℕ) (typed : y < length (tys sheet a₀)) (room : Room (suc n) a l) (su : suits (get_or (nodes sheet a₀) c []) 1 ≡ true) where
    pub over1 : (keep : Node ℕ) → left_tree (get_or (nodes sheet a₀) c []) 0 (ty sheet a₀ y) (X.tree ∷ []) ≡ keep → Over sheet a₀ d (suc n) a l o.words o.log X.rows c y keep
    unfolding flats trees_of
    over1 keep k = record {
      room = room;
      hold = i.hold;
      space = record { top = omega (arith, i.top); few = omega (arith, i.few) };
      rows = i.rows;
      ress = rcons i.res rnil;
      log = last_log;
      short = omega (arith, i.short, length-append (flat i.res) []);
      wholes = whole_more i.whole whole_none;
      typed = typed;
      suit = su;
      kept = ap (λ (t : Node ℕ). left_tree (get_or (nodes sheet a₀) c []) 0 (ty sheet a₀ y) (t ∷ [])) i.tree ∙ k;
    }

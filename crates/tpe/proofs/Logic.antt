-- and, or, if over words are the numbered ones. Assumes nothing.
use mathlib.Core.Path.{◌≡◌, refl, sym, ◌∙◌, ap, ap₂, subst}
use mathlib.Core.Bool.{Bool, true, false, cond}
use mathlib.Core.List.{List, [], ◌∷◌, ◌++◌, append_assoc}
use Prim.Native.Nat.{ℕ, zero, suc, ◌+◌, ◌≤◌, ◌<◌}
use native.Mathlib.Omega.{arith}
use lib.ListN.{length, get_or, take, length-append}
use Rattle.words.specs.Log.{appended}
use Rattle.words.proofs.Logs.{appended_is}
use Rattle.cedar.specs.Types.{Ty, Schema}
use Rattle.cedar.specs.Residual.{Node, lit, err, and, or, can_err, Stage, value, error, open', view, Class, ctrue, cfalse, cerror, copen}
use Rattle.cedar.specs.Rows.{Row, rbool}
use Rattle.cedar.specs.Making.{intern}
use Rattle.cedar.specs.Numbered.{NEnv, Out, out, make, n_class_of, n_class, n_and_open, n_and, n_or_open, n_or, then_and, then_or}
use Rattle.sheet.specs.Forms.{Mode, at}
use Rattle.value.specs.Made.{bool_row, number_of, with_value}
use Rattle.value.proofs.Interned.{Interning, formed_bool}
use Rattle.residual.specs.Rows.{lit_row}
use Rattle.residual.specs.Trees.{Res, rlit, rnil, rcons, flat, flats, left_tree, suits, tree_of, trees_of, Whole, whole_lit, whole_none, whole_more}
use Rattle.residual.proofs.Meaning.{stage_for}
use Rattle.tpe.specs.Run.{O, left, Rec, err_of, left_of, made_of, stops, goes, wrong, unsure, side_of, class_by, class_of, decided_by, second_by, second_of, first_by, first_of}
use Rattle.tpe.proofs.Reach.{reach_most}
use Rattle.tpe.proofs.Stands.{Hold, values, Room, Space, tys, nodes, ty, Is, is_as, is_up, whole_up, err_is, left_is, make_bool, made, made_hold, cut_back}
use Rattle.tpe.proofs.Strict.{over_left, last_stage, first_errs}
use Rattle.tpe.proofs.Operations.{over2}
use Rattle.tpe.proofs.Outcomes.{bool_row_law}

class_by_law : (a : List ℕ) (s : Stage ℕ) → class_by a (stage_for s) ≡ n_class_of (values a) s
unfolding class_by
class_by_law a (value v) = refl
class_by_law a error = refl
class_by_law a open' = refl

module _ (m : Mode) (sheet a₀ : List ℕ) where
  lit_whole : (d : ℕ) {r : Res} {v y : ℕ} → y < length (tys sheet a₀) → Whole (tys sheet a₀) (nodes sheet a₀) d r → Whole (tys sheet a₀) (nodes sheet a₀) d (rlit v y)
  lit_whole zero t w = elim w [ ]
  lit_whole (suc d) t w = whole_lit t

  pub class_is : {d n : ℕ} {a l : List ℕ} {X : Out} {o : O} → d ≤ 64 → Is sheet a₀ d n a l X o → class_of o.words o.log ≡ n_class X
  unfolding class_of
  class_is {X = X} {o = o} deep i = ap (class_by o.words) (last_stage sheet a₀ deep i) ∙ class_by_law o.words (view X.tree) ∙ ap (λ (R : List Row). n_class_of R (view X.tree)) i.rows

  -- a node worked at d levels: whatever the words and the log, it leaves what K makes of the values
  -- that meet P
  abbrev pub Works : (List Row → Type 0) → ℕ → ℕ → Rec → ℕ → (List Row → Out) → Type 0
  Works P d q f x K = (a l : List ℕ) → Hold a₀ a → P (values a) → Room q a l → Is sheet a₀ d q a l (K (values a)) (f a l x)

  pub works_on : {d q : ℕ} {a l : List ℕ} {R : List Row} (P : List Row → Type 0) (f : Rec) (x : ℕ) (K : List Row → Out) → Works P d q f x K → Hold a₀ a → P R → Room q a l → values a ≡ R → Is sheet a₀ d q a l (K R) (f a l x)
  works_on {d} {q} {a} {l} P f x K g h good room e = is_as sheet a₀ (g a l h (subst P (sym e) good) room) (ap K e)

  -- ---- after the first part, of p nodes out of n

  module _ {d p : ℕ} {a l : List ℕ} {X : Out} {o : O} (i : Is sheet a₀ d p a l X o) (n : ℕ) (room : Room n a l) (more : suc p ≤ n) where
    cut : take (length l) o.log ≡ l
    cut = cut_back l (flat i.res) o.log i.log

    pub then_bool : (b : Bool) (y : ℕ) → y < length (tys sheet a₀) → Is sheet a₀ (suc d) n a l (make (ty sheet a₀ y) (rbool b) X.rows) (made_of o.words (take (length l) o.log) y (bool_row b))
    then_bool b y typed =
        rw (cut, ← i.rows, ← bool_row_law b)
        (make_bool sheet a₀ d n (omega (arith, more)) a l o.words room i.hold (record { top = omega (arith, i.top, more); few = omega (arith, i.few, more) }) b y typed)

    pub then_err : (y : ℕ) → y < length (tys sheet a₀) → Is sheet a₀ (suc d) n a l (out X.rows (err (ty sheet a₀ y))) (err_of o.words (take (length l) o.log) y)
    then_err y typed =
        rw (cut, ← i.rows)
        (err_is sheet a₀ d n (omega (arith, more)) a l o.words room i.hold (record { top = omega (arith, i.top, more); few = omega (arith, i.few, more) }) y typed)

    -- a second part in its place
    pub then_on : (P : List Row → Type 0) → P X.rows → (q : ℕ) (f : Rec) (x : ℕ) (K : List Row → Out) → suc (p + q) ≤ n → Works P d q f x K → Is sheet a₀ (suc d) n a l (K X.rows) (f o.words (take (length l) o.log) x)
    then_on P good q f x K e g =
        rw cut
        (is_up sheet a₀ (works_on P f x K g i.hold good (record { top = omega (arith, room.top, i.top, e); few = omega (arith, room.few, i.few, e); log = omega (arith, room.log, e) }) i.rows)
        (omega arith) (omega (arith, e)) (omega (arith, i.top, e)) (omega (arith, i.few, e)))

    -- a second part after it
    pub then_more : (P : List Row → Type 0) → P X.rows → (q : ℕ) (f : Rec) (x : ℕ) (K : List Row → Out) → suc (p + q) ≤ n → Works P d q f x K → Is sheet a₀ d q o.words o.log (K X.rows) (f o.words o.log x)
    then_more P good q f x K e g =
        works_on P f x K g i.hold good
        (record {
          top = omega (arith, room.top, i.top, e);
          few = omega (arith, room.few, i.few, e);
          log = omega (arith, room.log, e, ap length i.log, length-append l (flat i.res), i.short);
        })
        i.rows

  -- ---- and, or

  module _ {d p q : ℕ} {a l : List ℕ} {X Y : Out} {o w : O} (deep : d ≤ 64) (i : Is sheet a₀ d p a l X o) (j : Is sheet a₀ d q o.words o.log Y w) (least : 1 ≤ q)
      (c : ℕ) (r : List ℕ) (typed : at r 0 < length (tys sheet a₀)) (room : Room (suc (p + q)) a l) (su : suits (get_or (nodes sheet a₀) c []) 2 ≡ true) where
    both_cut : take (length l) w.log ≡ l
    both_cut = cut_back l (flat i.res ++ flat j.res) w.log (j.log ∙ ap (λ (z : List ℕ). z ++ flat j.res) i.log ∙ append_assoc l (flat i.res) (flat j.res))

    space : Space 3 (suc (p + q)) a w.words
    space = record { top = omega (arith, i.top, j.top); few = omega (arith, i.few, j.few) }

    -- the right side is dropped
    pub left_only : Is sheet a₀ (suc d) (suc (p + q)) a l (out Y.rows X.tree) (left w.words (take (length o.log) w.log))
    left_only = record {
      res = i.res;
      log = cut_back o.log (flat j.res) w.log j.log ∙ i.log;
      short = omega (arith, i.short);
      tree = i.tree;
      whole = whole_up sheet a₀ i.whole (suc d) (omega arith);
      rows = j.rows;
      hold = j.hold;
      top = omega (arith, i.top, j.top);
      few = omega (arith, i.few, j.few);
    }

    -- both are kept
    pub both_kept : (keep : Node ℕ) → left_tree (get_or (nodes sheet a₀) c []) 0 (ty sheet a₀ (at r 0)) (X.tree ∷ Y.tree ∷ []) ≡ keep
        → Is sheet a₀ (suc d) (suc (p + q)) a l (out Y.rows keep) (left_of w.words w.log (length l) c 0 (at r 0))
    both_kept keep k = over_left sheet a₀ (over2 m sheet a₀ deep i j c r typed room su keep k)

    -- the right side decides: beside a left side that can err it is kept
    module _ (z : Bool) where
      interned : Interning w.words (bool_row z)
      interned = made sheet a₀ d (suc (p + q)) (omega arith) a l w.words room j.hold 3 space (bool_row z) (formed_bool z) (omega arith)

      number_is : number_of w.words (bool_row z) ≡ (intern Y.rows (rbool z)).number
      number_is = interned.number ∙ ap₂ (λ (R : List Row) (b : Row). (intern R b).number) j.rows (bool_row_law z)

      rows_are : values (with_value w.words (bool_row z)) ≡ (intern Y.rows (rbool z)).rows
      rows_are = interned.rows ∙ ap₂ (λ (R : List Row) (b : Row). (intern R b).rows) j.rows (bool_row_law z)

      decided_log : (y : ℕ) → appended (take (length o.log) w.log) (lit_row (number_of w.words (bool_row z)) y) ≡ l ++ (flat i.res ++ (lit_row (number_of w.words (bool_row z)) y ++ []))
      decided_log y =
          let v : List ℕ = lit_row (number_of w.words (bool_row z)) y in
          ap (λ (x : List ℕ). appended x v) (cut_back o.log (flat j.res) w.log j.log ∙ i.log)
          ∙ appended_is (l ++ flat i.res) v (omega (arith, length-append l (flat i.res), i.short, room.log))
          ∙ append_assoc l (flat i.res) v

      pub decided_is : (two : Node ℕ → Node ℕ → Node ℕ)
          → ((t u : Node ℕ) → left_tree (get_or (nodes sheet a₀) c []) 0 (ty sheet a₀ (at r 0)) (t ∷ u ∷ []) ≡ two t u)
          → (b : Bool)
          → Is sheet a₀ (suc d) (suc (p + q)) a l
          (cond b (out (intern Y.rows (rbool z)).rows (two X.tree (lit (ty sheet a₀ (at r 0)) (intern Y.rows (rbool z)).number))) (make (ty sheet a₀ (at r 0)) (rbool z) Y.rows))
          (decided_by z (length l) c (at r 0) (length o.log) w.words w.log b)
      unfolding decided_by flat flats tree_of trees_of
      decided_is two k true =
          is_as sheet a₀
          (left_is sheet a₀ d (suc (p + q)) (omega arith) a l (with_value w.words (bool_row z)) room
          (made_hold sheet a₀ d (suc (p + q)) (omega arith) a l w.words room j.hold 3 space (bool_row z) (formed_bool z) (omega arith))
          (record { top = omega (arith, reach_most w.words (bool_row z) interned, space.top); few = omega (arith, interned.kept.few, space.few) })
          (appended (take (length o.log) w.log) (lit_row (number_of w.words (bool_row z)) (at r 0)))
          (rcons i.res (rcons (rlit (number_of w.words (bool_row z)) (at r 0)) rnil))
          (decided_log (at r 0))
          (omega (arith, i.short, least, length-append (flat i.res) (lit_row (number_of w.words (bool_row z)) (at r 0) ++ [])))
          (whole_more i.whole (whole_more (lit_whole d typed i.whole) whole_none))
          c 0 (at r 0) typed su (two X.tree (lit (ty sheet a₀ (at r 0)) (intern Y.rows (rbool z)).number))
          (k (tree_of (tys sheet a₀) (nodes sheet a₀) i.res) (lit (ty sheet a₀ (at r 0)) (number_of w.words (bool_row z))) ∙ ap₂ two i.tree (ap (lit (ty sheet a₀ (at r 0))) number_is)))
          (ap (λ (R : List Row). out R (two X.tree (lit (ty sheet a₀ (at r 0)) (intern Y.rows (rbool z)).number))) rows_are)
      decided_is two k false = rw (both_cut, ← j.rows, ← bool_row_law z) (make_bool sheet a₀ d (suc (p + q)) (omega arith) a l w.words room j.hold space z (at r 0) typed)

    -- the second side
    module _ (k : (t u : Node ℕ) → left_tree (get_or (nodes sheet a₀) c []) 0 (ty sheet a₀ (at r 0)) (t ∷ u ∷ []) ≡ and (ty sheet a₀ (at r 0)) t u) where
      and_second : (x : Class) → Is sheet a₀ (suc d) (suc (p + q)) a l (n_and_open (ty sheet a₀ (at r 0)) X.tree Y x) (second_by false (length l) c (at r 0) (length o.log) w (side_of false x))
      unfolding second_by
      and_second ctrue = left_only
      and_second cfalse = rw (first_errs sheet a₀ deep i j) (decided_is false (and (ty sheet a₀ (at r 0))) k (can_err X.tree))
      and_second cerror = both_kept (and (ty sheet a₀ (at r 0)) X.tree Y.tree) (k X.tree Y.tree)
      and_second copen = both_kept (and (ty sheet a₀ (at r 0)) X.tree Y.tree) (k X.tree Y.tree)

      pub and_open : Is sheet a₀ (suc d) (suc (p + q)) a l (n_and_open (ty sheet a₀ (at r 0)) X.tree Y (n_class Y)) (second_of false (length l) c (at r 0) (length o.log) w)
      unfolding second_of
      and_open = rw (class_is deep j) (and_second (n_class Y))

    module _ (k : (t u : Node ℕ) → left_tree (get_or (nodes sheet a₀) c []) 0 (ty sheet a₀ (at r 0)) (t ∷ u ∷ []) ≡ or (ty sheet a₀ (at r 0)) t u) where
      or_second : (x : Class) → Is sheet a₀ (suc d) (suc (p + q)) a l (n_or_open (ty sheet a₀ (at r 0)) X.tree Y x) (second_by true (length l) c (at r 0) (length o.log) w (side_of true x))
      unfolding second_by
      or_second cfalse = left_only
      or_second ctrue = rw (first_errs sheet a₀ deep i j) (decided_is true (or (ty sheet a₀ (at r 0))) k (can_err X.tree))
      or_second cerror = both_kept (or (ty sheet a₀ (at r 0)) X.tree Y.tree) (k X.tree Y.tree)
      or_second copen = both_kept (or (ty sheet a₀ (at r 0)) X.tree Y.tree) (k X.tree Y.tree)

      pub or_open : Is sheet a₀ (suc d) (suc (p + q)) a l (n_or_open (ty sheet a₀ (at r 0)) X.tree Y (n_class Y)) (second_of true (length l) c (at r 0) (length o.log) w)
      unfolding second_of
      or_open = rw (class_is deep j) (or_second (n_class Y))

  module _ {d p q : ℕ} {a l : List ℕ} {X : Out} {o : O} (deep : d ≤ 64) (i : Is sheet a₀ d p a l X o) (f : Rec) (x : ℕ) (K : List Row → Out) (P : List Row → Type 0) (g : Works P d q f x K) (good : P X.rows) (least : 1 ≤ q)
      (c : ℕ) (r : List ℕ) (typed : at r 0 < length (tys sheet a₀)) (room : Room (suc (p + q)) a l) (su : suits (get_or (nodes sheet a₀) c []) 2 ≡ true) where
    abbrev T : Ty
    T = ty sheet a₀ (at r 0)

    first_stops : (z : Bool) → Is sheet a₀ (suc d) (suc (p + q)) a l (make T (rbool z) X.rows) (first_by z f (length l) c (at r 0) x o stops)
    unfolding first_by
    first_stops z = then_bool i (suc (p + q)) room (omega arith) z (at r 0) typed

    first_goes : (z : Bool) → Is sheet a₀ (suc d) (suc (p + q)) a l (K X.rows) (first_by z f (length l) c (at r 0) x o goes)
    unfolding first_by
    first_goes z = then_on i (suc (p + q)) room (omega arith) P good q f x K (omega arith) g

    first_wrong : (z : Bool) → Is sheet a₀ (suc d) (suc (p + q)) a l (out X.rows (err T)) (first_by z f (length l) c (at r 0) x o wrong)
    unfolding first_by
    first_wrong z = then_err i (suc (p + q)) room (omega arith) (at r 0) typed

    first_open : (z : Bool) {Z : Out} → Is sheet a₀ (suc d) (suc (p + q)) a l Z (second_of z (length l) c (at r 0) (length o.log) (f o.words o.log x))
        → Is sheet a₀ (suc d) (suc (p + q)) a l Z (first_by z f (length l) c (at r 0) x o unsure)
    unfolding first_by
    first_open z h = h

    pub and_is : ((t u : Node ℕ) → left_tree (get_or (nodes sheet a₀) c []) 0 T (t ∷ u ∷ []) ≡ and T t u) → (S : Schema) (N : NEnv)
        → Is sheet a₀ (suc d) (suc (p + q)) a l (then_and S N T X K) (first_of false f (length l) c (at r 0) x o)
    unfolding first_of
    and_is k S N = rw (class_is deep i) (go (n_class X))
      where
        go : (y : Class) → Is sheet a₀ (suc d) (suc (p + q)) a l (n_and T X K y) (first_by false f (length l) c (at r 0) x o (side_of false y))
        go cfalse = first_stops false
        go ctrue = first_goes false
        go cerror = first_wrong false
        go copen = first_open false (and_open deep i (then_more i (suc (p + q)) room (omega arith) P good q f x K (omega arith) g) least c r typed room su k)

    pub or_is : ((t u : Node ℕ) → left_tree (get_or (nodes sheet a₀) c []) 0 T (t ∷ u ∷ []) ≡ or T t u) → (S : Schema) (N : NEnv)
        → Is sheet a₀ (suc d) (suc (p + q)) a l (then_or S N T X K) (first_of true f (length l) c (at r 0) x o)
    unfolding first_of
    or_is k S N = rw (class_is deep i) (go (n_class X))
      where
        go : (y : Class) → Is sheet a₀ (suc d) (suc (p + q)) a l (n_or T X K y) (first_by true f (length l) c (at r 0) x o (side_of true y))
        go ctrue = first_stops true
        go cfalse = first_goes true
        go cerror = first_wrong true
        go copen = first_open true (or_open deep i (then_more i (suc (p + q)) room (omega arith) P good q f x K (omega arith) g) least c r typed room su k)

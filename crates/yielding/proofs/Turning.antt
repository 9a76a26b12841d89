-- The laws of the functions of the stack, one for each way. Assumes nothing.
use mathlib.Core.Path.{◌≡◌, refl, sym, ap, ap₂, ◌∙◌}
use mathlib.Core.Bool.{Bool, true, false, cond, beq}
use mathlib.Core.List.{List, [], ◌∷◌, ◌++◌, append_assoc, append-nil}
use Prim.Native.Nat.{ℕ, zero, suc, ◌+◌, ◌-◌, ◌*◌, ◌/◌, ◌≤◌, ◌<◌}
use native.Mathlib.Omega.{arith}
use borrow.Author.Tests.{lt-ltb, le-ltb, eq-eqb, ne_eqb}
use lib.Dec.{eqb}
use lib.ListN.{length, get_or, take, drop, set, length-drop, length-set}
use lib.Seq.{length-take-le, get_or-take, get_or-drop, take-set-lt, drop-set-lt}
use Rattle.std.specs.Prelude.{Option, Result, Ok, Err}
use Rattle.std.specs.Result.{IsErr, result_ok}
use Rattle.std.specs.Simd.{first_chunks}
use Rattle.cedar.specs.Residual.{Class}
use Rattle.value.proofs.Lists.{uncons, spent}
use Rattle.evaluator.specs.declared.EvalError.{EvalError}
use Rattle.evaluator.proofs.Settles.{is_failed}
use mathlib.Core.Option.{some}
use Rattle.words.specs.Log.{part, Room, Holds, Appended, appended}
use Rattle.words.proofs.Logs.{append_holds, log_length, log_cut, holds_from, holds_as}
use Rattle.sheet.specs.Forms.{tag, NODE, VALUE}
use Rattle.forms.specs.Tags.{VAR, AND, OR, EQ, IF, IS, HASPATH, SET_OF, RECORD_OF}
use Rattle.sheet.specs.Content.{var_of}
use Rattle.table.specs.Layout.{rows_of}
use Rattle.value.specs.Made.{MadeBeside, set_row, record_row}
use Rattle.strict.specs.Gives.{out_of}
use Rattle.strict.specs.declared.Given.{Given}
use Rattle.residual.specs.Rows.{ROW, ROW_TYPE, VALUE_ROW, ERROR_ROW, lit_row, err_row}
use Rattle.residual.specs.Classes.{class_number}
use Rattle.valued.specs.Values.{all_values}
use Rattle.evaluator.specs.Run.{failed, Yield, yields, node_in, made_of, settle_of, opt_of, on_yield, bool_only, walk_out, two_out, one_out, env_of, class_of}
use Rattle.evaluator.specs.Gave.{Gave, GaveBeside, Done, truth_of, yield_bool, same_bool}
use Rattle.evaluator.proofs.Given.{to_end}
use Rattle.carried.specs.Carry.{number_there, carried_of, Carried}
use Rattle.yielding.specs.Yields.{yield_row, yield_in, rows_back, start_of, Started, lazy_by, lazy_of, logic_of, branch_by, branch_of, one_of, two_of, over_of, many_of, set_of, record_of, node_by, node_of, Stacked, stacked, leaves, turn_of, ran_of, Turned, classes_in, yielded_of}

-- ---- lists

take_none : (n : ℕ) → ◌≡◌ {A = List ℕ} [] (take n [])
take_none zero = refl
take_none (suc n) = refl

-- a part of a list's beginning
pub part_of : (w : List ℕ) (s e : ℕ) → drop s (take e w) ≡ part w s e
part_of w zero e = let z : e ≡ e - 0 = omega arith in ap (λ (n : ℕ). take n w) z
part_of [] (suc s) zero = take_none (0 - suc s)
part_of [] (suc s) (suc e) = take_none (suc e - suc s)
part_of (x ∷ w) (suc s) zero = let z : 0 ≡ 0 - suc s = omega arith in ap (λ (n : ℕ). take n (drop s w)) z
part_of (x ∷ w) (suc s) (suc e) = let z : e - s ≡ suc e - suc s = omega arith in part_of w s e ∙ ap (λ (n : ℕ). take n (drop s w)) z

from_front : (b : List ℕ) (e : ℕ) → part b 0 e ≡ take e b
from_front b e = sym (part_of b 0 e)

-- the four words of a row
four : (q : List ℕ) (i : ℕ) → i + 4 ≤ length q → drop i q ≡ get_or q i 0 ∷ get_or q (i + 1) 0 ∷ get_or q (i + 2) 0 ∷ get_or q (i + 3) 0 ∷ drop (i + 4) q
four q i h =
    let z : i + 1 + 1 ≡ i + 2 = omega arith in
    let y : i + 2 + 1 ≡ i + 3 = omega arith in
    let x : i + 3 + 1 ≡ i + 4 = omega arith in
    uncons q 0 i (omega (arith, h))
    ∙ ap (λ (l : List ℕ). get_or q i 0 ∷ l) (uncons q 0 (i + 1) (omega (arith, h)) ∙ ap (λ (j : ℕ). get_or q (i + 1) 0 ∷ drop j q) z)
    ∙ ap (λ (l : List ℕ). get_or q i 0 ∷ get_or q (i + 1) 0 ∷ l) (uncons q 0 (i + 2) (omega (arith, h)) ∙ ap (λ (j : ℕ). get_or q (i + 2) 0 ∷ drop j q) y)
    ∙ ap (λ (l : List ℕ). get_or q i 0 ∷ get_or q (i + 1) 0 ∷ get_or q (i + 2) 0 ∷ l) (uncons q 0 (i + 3) (omega (arith, h)) ∙ ap (λ (j : ℕ). get_or q (i + 3) 0 ∷ drop j q) x)

-- ---- a yield read and pushed

module _ (q : List ℕ) (i x : ℕ) (ex : x ≡ get_or q i 0) where
  pub in_value : (v : ℕ) → x ≡ VALUE_ROW → v ≡ get_or q (i + 1) 0 → Ok v ≡ yield_in q i
  unfolding yield_in
  in_value v e ev = rw (eq-eqb (get_or q i 0) VALUE_ROW (sym ex ∙ e)) (ap Ok ev)

  pub in_error : (x ≡ VALUE_ROW → ⊥) → failed ≡ yield_in q i
  unfolding yield_in
  in_error n = rw (ne_eqb (get_or q i 0) VALUE_ROW (λ z. n (ex ∙ z)))

-- ---- where operands begin

pub back_zero : (l : List ℕ) (n m : ℕ) → m ≡ 0 → rows_back l n m ≡ n
unfolding rows_back
back_zero l zero m e = refl
back_zero l (suc n) m e = rw (eq-eqb m 0 e)

back_step : (l : List ℕ) (n m : ℕ) → (n ≡ 0 → ⊥) → (m ≡ 0 → ⊥) → rows_back l n m ≡ rows_back l (n - 1) (m - get_or l (ROW * (n - 1) + ROW_TYPE) 0)
unfolding rows_back
back_step l zero m hn hm = absurd (hn refl)
back_step l (suc n) m hn hm = let z : n ≡ suc n - 1 = omega arith in rw (ne_eqb m 0 hm) (ap (λ (k : ℕ). rows_back l k (m - get_or l (ROW * k + ROW_TYPE) 0)) z)

-- n rows are left, and m words are still to be found
pub record Backing (l : List ℕ) (w n m : ℕ) : Type 0 where
  pub near : n ≤ length l / 4
  pub left : rows_back l n m ≡ rows_back l (length l / 4) w

module _ (l : List ℕ) (w n m : ℕ) (k : Backing l w n m) where
  pub back_none : n ≡ 0 → Started l w 0
  unfolding rows_back
  back_none e = record { start = ap (λ (j : ℕ). 4 * j) (sym (sym k.left ∙ ap (λ (j : ℕ). rows_back l j m) e)); low = omega arith }

  pub back_end : m ≡ 0 → Started l w (4 * n)
  back_end e = record { start = ap (λ (j : ℕ). 4 * j) (sym (back_zero l n m e) ∙ k.left); low = omega (arith, k.near) }

  pub back_more : (n ≡ 0 → ⊥) → (m ≡ 0 → ⊥) → (x d : ℕ) → x ≡ get_or l (4 * (n - 1) + 3) 0 → d ≡ m - x → Backing l w (n - 1) d
  back_more hn hm x d ex ed = record {
    near = omega (arith, k.near);
    left = ap (rows_back l (n - 1)) (ed ∙ ap (λ (y : ℕ). m - y) ex) ∙ sym (back_step l n m hn hm) ∙ k.left;
  }

-- ---- and, or, if

-- the bool that decides
same_true : (x z : Bool) → beq x z ≡ true → same_bool x z ≡ true
unfolding same_bool
same_true true true h = refl
same_true true false h = cc
same_true false true h = cc
same_true false false h = refl

same_false : (x z : Bool) → beq x z ≡ false → same_bool x z ≡ false
unfolding same_bool
same_false true true h = cc
same_false true false h = refl
same_false false true h = refl
same_false false false h = cc

module _ (a : List ℕ) (y : Yield) (t : Option Bool) (et : truth_of t ≡ yield_bool a y) (o : Result Bool EvalError) (eo : t ≡ result_ok o) where
  pub lazy_other : (z : Bool) (u : Yield) (f : EvalError) → o ≡ Err f → (r : Yield) → IsErr r → r ≡ lazy_of z a y u
  unfolding lazy_of lazy_by
  lazy_other z u f e r er = is_failed r er ∙ sym (ap (lazy_by z a y u) (sym et ∙ ap truth_of (eo ∙ ap result_ok e)))

  module _ (x : Bool) (e : o ≡ Ok x) where
    says : yield_bool a y ≡ some x
    says = sym et ∙ ap truth_of (eo ∙ ap result_ok e)

    pub lazy_left : (z : Bool) (u : Yield) → beq x z ≡ true → y ≡ lazy_of z a y u
    unfolding lazy_of lazy_by
    lazy_left z u k = sym (ap (lazy_by z a y u) says ∙ ap (λ (b : Bool). cond b y (bool_only (yields a u)).yield) (same_true x z k))

    pub lazy_right : (z : Bool) (u v : Yield) → beq x z ≡ false → Gave (bool_only (yields a u)) a v → v ≡ lazy_of z a y u
    unfolding lazy_of lazy_by
    lazy_right z u v k g = g.yield ∙ sym (ap (lazy_by z a y u) says ∙ ap (λ (b : Bool). cond b y (bool_only (yields a u)).yield) (same_false x z k))

  module _ (u w : Yield) where
    pub if_other : (f : EvalError) → o ≡ Err f → (r : Yield) → IsErr r → r ≡ branch_of a y u w
    unfolding branch_of branch_by
    if_other f e r er = is_failed r er ∙ sym (ap (branch_by u w) (sym et ∙ ap truth_of (eo ∙ ap result_ok e)))

    pub if_true : (x : Bool) → o ≡ Ok x → x ≡ true → u ≡ branch_of a y u w
    unfolding branch_of branch_by
    if_true x e k = sym (ap (branch_by u w) (says x e) ∙ ap (λ (b : Bool). cond b u w) k)

    pub if_false : (x : Bool) → o ≡ Ok x → x ≡ false → w ≡ branch_of a y u w
    unfolding branch_of branch_by
    if_false x e k = sym (ap (branch_by u w) (says x e) ∙ ap (λ (b : Bool). cond b u w) k)

module _ (t : ℕ) (a : List ℕ) (y u v : Yield) where
  pub logic_and : t ≡ AND → v ≡ lazy_of false a y u → v ≡ logic_of t a y u
  unfolding logic_of
  logic_and e h = rw (eq-eqb t AND e) h

  pub logic_or : t ≡ OR → v ≡ lazy_of true a y u → v ≡ logic_of t a y u
  unfolding logic_of
  logic_or e h = rw e h

pub logic_none : (t : ℕ) (a : List ℕ) (y u : Yield) → (t ≡ AND → ⊥) → (t ≡ OR → ⊥) → failed ≡ logic_of t a y u
unfolding logic_of
logic_none t a y u n₁ n₂ = rw (ne_eqb t AND n₁, ne_eqb t OR n₂)

-- ---- one operand, two operands

module _ (sheet : List ℕ) (t k : ℕ) (a : List ℕ) (n : ℕ) (y : Yield) where
  pub one_error : (f : EvalError) → y ≡ Err f → (r : Yield) → IsErr r → Gave (one_of sheet t k a n y) a r
  unfolding one_of on_yield
  one_error f e r er = rw e (record { words = refl; yield = is_failed r er })

  pub one_path : (v : ℕ) (r q : List ℕ) (g : Given) (a₁ : List ℕ) (u : Yield) → y ≡ Ok v → t ≡ HASPATH → r ≡ get_or (rows_of a NODE) n [] → q ≡ part r k (length r) → out_of g ≡ walk_out a q v
      → Gave (settle_of a (out_of g)) a₁ u → Gave (one_of sheet t k a n y) a₁ u
  unfolding one_of on_yield
  one_path v r q g a₁ u e et er eq eg h =
      let z : out_of g ≡ walk_out a (drop k (node_in a n)) v = eg ∙ ap (λ (x : List ℕ). walk_out a x v) (eq ∙ to_end k r ∙ ap (drop k) er) in
      rw (e, eq-eqb t HASPATH et, ← z) h

  pub one_on : (v : ℕ) (a₁ : List ℕ) (u : Yield) → y ≡ Ok v → (t ≡ HASPATH → ⊥) → Gave (settle_of a (one_out sheet t a (node_in a n) v)) a₁ u → Gave (one_of sheet t k a n y) a₁ u
  unfolding one_of on_yield
  one_on v a₁ u e m h = rw (e, ne_eqb t HASPATH m) h

module _ (t : ℕ) (a : List ℕ) (y u : Yield) where
  pub two_left : (f : EvalError) → y ≡ Err f → (r : Yield) → IsErr r → Gave (two_of t a y u) a r
  unfolding two_of on_yield
  two_left f e r er = rw e (record { words = refl; yield = is_failed r er })

  pub two_right : (v : ℕ) (f : EvalError) → y ≡ Ok v → u ≡ Err f → (r : Yield) → IsErr r → Gave (two_of t a y u) a r
  unfolding two_of on_yield
  two_right v f e k r er = rw (e, k) (record { words = refl; yield = is_failed r er })

  pub two_on : (v w : ℕ) (a₁ : List ℕ) (z : Yield) → y ≡ Ok v → u ≡ Ok w → Gave (settle_of a (two_out t a v w)) a₁ z → Gave (two_of t a y u) a₁ z
  unfolding two_of on_yield
  two_on v w a₁ z e k h = rw (e, k) h

-- ---- a node over its operands, by its tag

module _ (sheet : List ℕ) (t k : ℕ) (a : List ℕ) (n : ℕ) (q : List ℕ) (y u : Yield) (ey : y ≡ yield_in q 0) (eu : u ≡ yield_in q 4) where
  pub over_logic : (v : Yield) → t < EQ → v ≡ logic_of t a y u → Gave (over_of sheet t k a n q) a v
  unfolding over_of
  over_logic v h e = rw (lt-ltb t EQ h, ← ey, ← eu) (record { words = refl; yield = e })

  module _ (lo : EQ ≤ t) where
    pub over_two : (a₁ : List ℕ) (v : Yield) → t < IF → Gave (two_of t a y u) a₁ v → Gave (over_of sheet t k a n q) a₁ v
    unfolding over_of
    over_two a₁ v h g = rw (le-ltb t EQ lo, lt-ltb t IF h, ← ey, ← eu) g

    module _ (mid : IF ≤ t) where
      pub over_if : (w v : Yield) → t < IS → w ≡ yield_in q 8 → v ≡ branch_of a y u w → Gave (over_of sheet t k a n q) a v
      unfolding over_of
      over_if w v h ew e = rw (le-ltb t EQ lo, le-ltb t IF mid, lt-ltb t IS h, ← ey, ← eu, ← ew) (record { words = refl; yield = e })

      module _ (high : IS ≤ t) where
        pub over_one : (a₁ : List ℕ) (v : Yield) → t < SET_OF → Gave (one_of sheet t k a n y) a₁ v → Gave (over_of sheet t k a n q) a₁ v
        unfolding over_of
        over_one a₁ v h g = rw (le-ltb t EQ lo, le-ltb t IF mid, le-ltb t IS high, lt-ltb t SET_OF h, ← ey) g

        pub over_past : SET_OF ≤ t → Gave (over_of sheet t k a n q) a failed
        unfolding over_of
        over_past h = rw (le-ltb t EQ lo, le-ltb t IF mid, le-ltb t IS high, le-ltb t SET_OF h) (record { words = refl; yield = refl })

-- ---- sets and records

module _ (a b : List ℕ) (s e : ℕ) (q : List ℕ) (eq : q ≡ part b s e) (c : Bool) (ec : c ≡ all_values q) where
  all_here : (x : Bool) → c ≡ x → all_values (drop s (take e b)) ≡ x
  all_here x h = ap all_values (part_of b s e ∙ sym eq) ∙ sym ec ∙ h

  module _ (a₁ b₁ : List ℕ) (v : ℕ) (h : c ≡ true) where
    many_made : (r w : List ℕ) → r ≡ w → MadeBeside a a₁ v e b b₁ w → GaveBeside (many_of a (take e b) (drop s (take e b)) r) a₁ (Ok v) e b b₁
    unfolding many_of made_of
    many_made r w er m = rw (all_here true h, er) (record { words = m.made.words; yield = ap Ok m.made.number; log = m.log })

    pub set_made : MadeBeside a a₁ v e b b₁ (set_row (part b s e)) → GaveBeside (set_of a (take e b) s) a₁ (Ok v) e b b₁
    unfolding set_of
    set_made m = many_made (set_row (drop s (take e b))) (set_row (part b s e)) (ap set_row (part_of b s e)) m

    pub record_made : (n : ℕ) → MadeBeside a a₁ v e b b₁ (record_row (get_or (rows_of a NODE) n []) (part b s e)) → GaveBeside (record_of a (take e b) s n) a₁ (Ok v) e b b₁
    unfolding record_of
    record_made n m = many_made (record_row (node_in a n) (drop s (take e b))) (record_row (get_or (rows_of a NODE) n []) (part b s e)) (ap (record_row (node_in a n)) (part_of b s e)) m

  many_error : c ≡ false → (r : List ℕ) → GaveBeside (many_of a (take e b) (drop s (take e b)) r) a failed e b b
  unfolding many_of
  many_error h r = rw (all_here false h) (record { words = refl; yield = refl; log = refl })

  pub set_error : c ≡ false → GaveBeside (set_of a (take e b) s) a failed e b b
  unfolding set_of
  set_error h = many_error h (set_row (drop s (take e b)))

  pub record_error : (n : ℕ) → c ≡ false → GaveBeside (record_of a (take e b) s n) a failed e b b
  unfolding record_of
  record_error n h = many_error h (record_row (node_in a n) (drop s (take e b)))

-- ---- a node left, by its tag

module _ (sheet a b : List ℕ) (e s n k : ℕ) (r : List ℕ) (t : ℕ) (er : r ≡ get_or (rows_of a NODE) n []) (et : t ≡ tag r) (a₁ : List ℕ) (y : Yield) where
  by_tag : node_of sheet a (take e b) s n k ≡ node_by sheet t a (take e b) s n k
  unfolding node_of
  by_tag = ap (λ (m : ℕ). node_by sheet m a (take e b) s n k) (sym (et ∙ ap tag er))

  pub left_var : (x : ℕ) → t ≡ VAR → x ≡ get_or (node_in a n) 2 0 → Gave (opt_of a ((env_of a).request (var_of x))) a₁ y → GaveBeside (node_of sheet a (take e b) s n k) a₁ y e b b
  unfolding node_by
  left_var x h ex g = rw (by_tag, eq-eqb t VAR h, ← ex) (record { words = g.words; yield = g.yield; log = refl })

  pub left_set : (b₁ : List ℕ) → t ≡ SET_OF → GaveBeside (set_of a (take e b) s) a₁ y e b b₁ → GaveBeside (node_of sheet a (take e b) s n k) a₁ y e b b₁
  unfolding node_by
  left_set b₁ h g = rw (by_tag, h) g

  pub left_record : (b₁ : List ℕ) → t ≡ RECORD_OF → GaveBeside (record_of a (take e b) s n) a₁ y e b b₁ → GaveBeside (node_of sheet a (take e b) s n k) a₁ y e b b₁
  unfolding node_by
  left_record b₁ h g = rw (by_tag, h) g

  pub left_over : (q : List ℕ) → (t ≡ VAR → ⊥) → (t ≡ SET_OF → ⊥) → (t ≡ RECORD_OF → ⊥) → q ≡ part b s e → Gave (over_of sheet t k a n q) a₁ y → GaveBeside (node_of sheet a (take e b) s n k) a₁ y e b b
  unfolding node_by
  left_over q n₁ n₂ n₃ eq g =
      let z : q ≡ drop s (take e b) = eq ∙ sym (part_of b s e) in
      rw (by_tag, ne_eqb t VAR n₁, ne_eqb t SET_OF n₂, ne_eqb t RECORD_OF n₃, ← z) (record { words = g.words; yield = g.yield; log = refl })

-- ---- one row

pub start_low : (b l : List ℕ) (top d s : ℕ) → l ≡ part b 0 top → Started l d s → Room b top → s ≤ top
start_low b l top d s el es room = let k : length l ≡ top = ap length (el ∙ from_front b top) ∙ log_length b top room in omega (arith, es.low, k)

module _ (sheet : List ℕ) (g : ℕ) (ns : List ℕ) (t x w : ℕ) (a b : List ℕ) (top : ℕ) (room : Room b top) where
  pub turn_value : (m : ℕ) (b₁ : List ℕ) (e : ℕ) → t ≡ VALUE_ROW → m ≡ number_there g ns x → Appended b top (lit_row m w) b₁ e → Turned (turn_of sheet g ns t x w a (take top b)) a b₁ e
  unfolding turn_of
  turn_value m b₁ e h em p = rw (eq-eqb t VALUE_ROW h, ← em) (record { words = refl; log = holds_from (append_holds room p) (omega arith) })

  pub turn_error : (b₁ : List ℕ) (e : ℕ) → t ≡ ERROR_ROW → Appended b top (err_row w) b₁ e → Turned (turn_of sheet g ns t x w a (take top b)) a b₁ e
  unfolding turn_of
  turn_error b₁ e h p = rw h (record { words = refl; log = holds_from (append_holds room p) (omega arith) })

  module _ (d : ℕ) (l : List ℕ) (s : ℕ) (ed : d ≡ w - 4) (el : l ≡ part b 0 top) (es : Started l d s) where
    begins : start_of (take top b) w ≡ s
    begins = ap₂ (λ (q : List ℕ) (j : ℕ). 4 * rows_back q (length q / 4) j) (sym (el ∙ from_front b top)) (sym ed) ∙ sym es.start

    pub turn_left : (a₁ b₁ : List ℕ) (y : Yield) (b₂ : List ℕ) (e : ℕ) → (t ≡ VALUE_ROW → ⊥) → (t ≡ ERROR_ROW → ⊥) → GaveBeside (node_of sheet a (take top b) s x (t - 2)) a₁ y top b b₁ → length b₁ ≡ length b
        → Appended b₁ s (yield_row y w) b₂ e → Turned (turn_of sheet g ns t x w a (take top b)) a₁ b₂ e
    unfolding turn_of leaves
    turn_left a₁ b₁ y b₂ e n₁ n₂ v len p =
        let low : s ≤ top = start_low b l top d s el es room in
        let room₁ : Room b₁ s = record { low = omega (arith, low, room.low); long = omega (arith, len, room.long) } in
        let back : take s b₁ ≡ take s (take top b) = sym (log_cut b₁ top s low) ∙ ap (take s) v.log in
        rw (ne_eqb t VALUE_ROW n₁, ne_eqb t ERROR_ROW n₂, begins)
        (record {
          words = v.words;
          log = holds_as (holds_from (append_holds room₁ p) (omega arith)) (ap₂ (λ (z : List ℕ) (u : Yield). appended z (yield_row u w)) back v.yield);
        })

-- ---- the rows in turn

module _ (sheet : List ℕ) (g : ℕ) (ns : List ℕ) where
  -- the same, over the rows
  abbrev pub ran_rows : List (List ℕ) → List ℕ → List ℕ → Stacked
  ran_rows [] a l = stacked a l
  ran_rows (q ∷ s) a l = let t = turn_of sheet g ns (get_or q 0 0) (get_or q 1 0) (get_or q 2 0) a l in ran_rows s t.words t.log

  pub rows_law : (n : ℕ) (q a l : List ℕ) → n ≡ length q / 4 → ran_rows (first_chunks 4 n q) a l ≡ ran_of sheet g ns q a l
  unfolding ran_of
  rows_law zero [] a l e = refl
  rows_law (suc n) [] a l e = absurd (omega arith)
  rows_law zero (t ∷ []) a l e = refl
  rows_law (suc n) (t ∷ []) a l e = absurd (omega arith)
  rows_law zero (t ∷ v ∷ []) a l e = refl
  rows_law (suc n) (t ∷ v ∷ []) a l e = absurd (omega arith)
  rows_law zero (t ∷ v ∷ w ∷ []) a l e = refl
  rows_law (suc n) (t ∷ v ∷ w ∷ []) a l e = absurd (omega arith)
  rows_law zero (t ∷ v ∷ w ∷ y ∷ q) a l e = absurd (omega arith)
  rows_law (suc n) (t ∷ v ∷ w ∷ y ∷ q) a l e = let s = turn_of sheet g ns t v w a l in rows_law n q s.words s.log (omega arith)

  pub record Turning (rows : List (List ℕ)) (a₀ a b : List ℕ) (top i : ℕ) : Type 0 where
    pub room : Room b top
    pub left : ran_rows (drop i rows) a (take top b) ≡ ran_rows rows a₀ []

  pub run_start : (rows : List (List ℕ)) (a b : List ℕ) → 16384 ≤ length b → Turning rows a a b 0 0
  run_start rows a b h = record { room = record { low = omega arith; long = h }; left = refl }

  module _ (rows : List (List ℕ)) (a₀ a b : List ℕ) (top i : ℕ) (k : Turning rows a₀ a b top i) where
    pub run_more : (q a₁ b₁ : List ℕ) (e : ℕ) → i < length rows → q ≡ get_or rows i [] → length b₁ ≡ length b → Turned (turn_of sheet g ns (get_or q 0 0) (get_or q 1 0) (get_or q 2 0) a (take top b)) a₁ b₁ e → Turning rows a₀ a₁ b₁ e (i + 1)
    run_more q a₁ b₁ e h eq len t = record {
      room = record { low = t.log.low; long = omega (arith, len, k.room.long) };
      left =
          ap₂ (ran_rows (drop (i + 1) rows)) t.words t.log.is
          ∙ sym (ap (λ (s : List (List ℕ)). ran_rows s a (take top b)) (uncons rows [] i h ∙ ap (λ (p : List ℕ). p ∷ drop (i + 1) rows) (sym eq))) ∙ k.left;
    }

    pub run_end : length rows ≤ i → (residuals : List ℕ) → rows ≡ first_chunks 4 (length residuals / 4) residuals → Turned (ran_of sheet g ns residuals a₀ []) a b top
    run_end h residuals e =
        let z : ran_of sheet g ns residuals a₀ [] ≡ stacked a (take top b)
        = sym (rows_law (length residuals / 4) residuals a₀ [] refl) ∙ ap (λ (s : List (List ℕ)). ran_rows s a₀ []) (sym e) ∙ sym k.left ∙ ap (λ (s : List (List ℕ)). ran_rows s a (take top b)) (spent rows i h) in
        record {
          words = sym (ap (λ (s : Stacked). s.words) z);
          log = record { is = sym (ap (λ (s : Stacked). s.log) z); low = k.room.low; grows = omega arith };
        }

-- ---- classes in the place of yields

few_classes : (a l : List ℕ) → length l < 4 → classes_in a l ≡ []
unfolding classes_in
few_classes a [] h = refl
few_classes a (t ∷ []) h = refl
few_classes a (t ∷ v ∷ []) h = refl
few_classes a (t ∷ v ∷ w ∷ []) h = refl
few_classes a (t ∷ v ∷ w ∷ y ∷ l) h = absurd (omega arith)

-- one word more
take_here : (i : ℕ) (w : List ℕ) (x : ℕ) → i < length w → take (i + 1) (set w i x) ≡ take i w ++ (x ∷ [])
take_here i [] x h = absurd (omega arith)
take_here zero (y ∷ w) x h = refl
take_here (suc i) (y ∷ w) x h = let z : suc i + 1 ≡ suc (i + 1) = omega arith in ap (λ (n : ℕ). take n (y ∷ set w i x)) z ∙ ap (λ (l : List ℕ). y ∷ l) (take_here i w x (omega arith))

-- the rows from number i on are still yields, and before them stand the classes of the rows before
pub record Classing (a b₀ b : List ℕ) (top i : ℕ) : Type 0 where
  pub room : Room b top
  pub left : take i b ++ classes_in a (drop (4 * i) (take top b)) ≡ classes_in a (take top b₀)

module _ (a b₀ b : List ℕ) (top i most : ℕ) (k : Classing a b₀ b top i) (em : most ≡ top / 4) where
  long : length (take top b) ≡ top
  long = log_length b top k.room

  pub classes_end : most ≤ i → i ≤ most → Holds 0 b most (classes_in a (take top b₀))
  classes_end h g =
      let z : i ≡ most = omega (arith, h, g) in
      let f : length (drop (4 * i) (take top b)) < 4 = omega (arith, length-drop (4 * i) (take top b), long, em, h, g) in
      record {
        is = ap (λ (j : ℕ). take j b) (sym z) ∙ sym (append-nil (take i b)) ∙ ap (λ (l : List ℕ). take i b ++ l) (sym (few_classes a (drop (4 * i) (take top b)) f)) ∙ k.left;
        low = omega (arith, em, k.room.low);
        grows = omega arith;
      }

  module _ (lt : i < most) where
    fits : 4 * i + 4 ≤ top
    fits = omega (arith, lt, em)

    rows_here : classes_in a (drop (4 * i) (take top b)) ≡ class_number (class_of a (yield_in (drop (4 * i) (take top b)) 0)) ∷ classes_in a (drop (4 * i + 4) (take top b))
    unfolding classes_in
    rows_here =
        let e = four (take top b) (4 * i) (omega (arith, fits, long)) in
        ap (classes_in a) e ∙ ap (λ (l : List ℕ). class_number (class_of a (yield_in l 0)) ∷ classes_in a (drop (4 * i + 4) (take top b))) (sym e)

    word_here : (j : ℕ) → j < 4 → get_or (drop (4 * i) (take top b)) j 0 ≡ get_or b (4 * i + j) 0
    word_here j h = get_or-drop (4 * i) (take top b) j 0 ∙ get_or-take top b (4 * i + j) 0 (omega (arith, h, fits))

    yield_here : yield_in (drop (4 * i) (take top b)) 0 ≡ yield_in b (4 * i)
    unfolding yield_in
    yield_here =
        let z : get_or b (4 * i + 0) 0 ≡ get_or b (4 * i) 0 = ap (λ (j : ℕ). get_or b j 0) (omega arith) in
        ap₂ (λ (x y : ℕ). cond (eqb x VALUE_ROW) (Ok y) failed) (word_here 0 (omega arith) ∙ z) (word_here 1 (omega arith))

    pub classes_more : (y : Yield) (h : Class) (c : ℕ) → y ≡ yield_in b (4 * i) → h ≡ class_of a y → c ≡ class_number h → Classing a b₀ (set b i c) top (i + 1)
    classes_more y h c ey eh ec =
        let f = fits in
        let n : 4 * (i + 1) ≡ 4 * i + 4 = omega arith in
        let after : drop (4 * i + 4) (take top (set b i c)) ≡ drop (4 * i + 4) (take top b) =
        ap (drop (4 * i + 4)) (take-set-lt top b i c (omega (arith, f))) ∙ drop-set-lt (4 * i + 4) (take top b) i c (omega arith) in
        let before : take (i + 1) (set b i c) ≡ take i b ++ (c ∷ []) = take_here i b c (omega (arith, f, k.room.low, k.room.long)) in
        record {
          room = record { low = k.room.low; long = omega (arith, k.room.long, length-set b i c) };
          left =
              ap (λ (j : ℕ). take (i + 1) (set b i c) ++ classes_in a (drop j (take top (set b i c)))) n
              ∙ ap₂ (λ (p q : List ℕ). p ++ classes_in a q) before after
              ∙ append_assoc (take i b) (c ∷ []) (classes_in a (drop (4 * i + 4) (take top b)))
              ∙ ap (λ (m : ℕ). take i b ++ (m ∷ classes_in a (drop (4 * i + 4) (take top b)))) (ec ∙ ap class_number eh ∙ ap (λ (u : Yield). class_number (class_of a u)) (ey ∙ sym yield_here))
              ∙ ap (λ (l : List ℕ). take i b ++ l) (sym rows_here) ∙ k.left;
        }

-- ---- the whole

pub yielded_is : (sheet residuals kept a ns : List ℕ) (g : ℕ) (a₁ ns₁ a₂ b₂ : List ℕ) (e : ℕ) (b₃ : List ℕ) (n : ℕ) → 16384 ≤ length b₃ → Carried (carried_of kept a ns) a₁ ns₁ → g ≡ get_or kept VALUE 0 → Turned (ran_of sheet g ns₁ residuals a₁ []) a₂ b₂ e → Holds 0 b₃ n (classes_in a₂ (take e b₂)) → Done (yielded_of sheet residuals kept a ns) a₂ b₃ n
unfolding yielded_of
yielded_is sheet residuals kept a ns g a₁ ns₁ a₂ b₂ e b₃ n h c eg t k =
    let s : ran_of sheet g ns₁ residuals a₁ [] ≡ ran_of sheet (get_or kept VALUE 0) (carried_of kept a ns).numbers residuals (carried_of kept a ns).words [] =
    λ i. ran_of sheet (eg i) (c.numbers i) residuals (c.words i) [] in
    let w : a₂ ≡ (ran_of sheet (get_or kept VALUE 0) (carried_of kept a ns).numbers residuals (carried_of kept a ns).words []).words = t.words ∙ ap (λ (x : Stacked). x.words) s in
    let l : take e b₂ ≡ (ran_of sheet (get_or kept VALUE 0) (carried_of kept a ns).numbers residuals (carried_of kept a ns).words []).log = t.log.is ∙ ap (λ (x : Stacked). x.log) s in
    let d : take n b₃ ≡ classes_in (ran_of sheet (get_or kept VALUE 0) (carried_of kept a ns).numbers residuals (carried_of kept a ns).words []).words (ran_of sheet (get_or kept VALUE 0) (carried_of kept a ns).numbers residuals (carried_of kept a ns).words []).log =
    k.is ∙ ap₂ classes_in w l in
    record {
      words = w;
      log = d;
      end = sym (length-take-le n b₃ (omega (arith, k.low, h))) ∙ ap length d;
    }

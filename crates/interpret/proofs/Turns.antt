-- One law for each way through the cycle of calls where the step goes by a node's tag, and for the loops. Assumes nothing.
use mathlib.Core.Path.{◌≡◌, refl, sym, ap, ◌∙◌}
use mathlib.Core.List.{List, []}
use Prim.Native.Nat.{ℕ, suc, ◌+◌, ◌-◌, ◌*◌, ◌/◌, ◌≤◌, ◌<◌}
use native.Mathlib.Omega.{arith}
use native.Mathlib.Nat.{le_refl}
use lib.Dec.{eqb}
use lib.ListN.{length, get_or, take}
use Rattle.words.specs.Log.{Appended, Room}
use Rattle.words.proofs.Logs.{append_holds, log_length}
use Rattle.sheet.specs.Forms.{partial, tag, at, NODE}
use Rattle.forms.specs.Tags.{AND, OR, EQ, IF, IS, SET_OF, RECORD_OF, SLOT}
use Rattle.table.specs.Layout.{RUN, rows_of}
use Rattle.residual.specs.Rows.{err_row, stage_at}
use Rattle.tpe.specs.Run.{O, Rec, Kids, left, err_of, join_of, node_in, kids_of, interp_of, set_of, rec_of, ran_from, run_of}
use Rattle.tpe.specs.Steps.{one_at, many_at}
use Rattle.tpe.specs.Leaves.{Leaves}
use Rattle.interpret.specs.Nodes.{step_by, slot_of, leaf_of, first_in, branch_in, pair_in, group_of, ended}
use Rattle.interpret.proofs.Laws.{view, leaves_as}
use Rattle.interpret.proofs.ByTag.{first_step, pair_step, branch_step, one_step, set_step_law, record_step, leaf_step, slot_step_law, other_step, by_level}

-- ---- `operation`: the first operand is worked

-- under a link with the values u and w
module _ (sheet : List ℕ) (u w : ℕ) (f : Rec) (a b : List ℕ) (bt n t : ℕ) (room : Room b bt) (tags : (AND ≤ t) × (t < SET_OF)) (r : List ℕ) (er : r ≡ get_or (rows_of a NODE) n []) (v : ℕ) (ev : v ≡ get_or r 2 0)
    (a₁ b₁ : List ℕ) (p : ℕ) (h : Leaves bt a₁ b₁ p (f a (take bt b) v)) (a₂ b₂ : List ℕ) (e : ℕ) where
  len : length (take bt b) ≡ bt
  len = log_length b bt room

  worked : left a₁ (take p b₁) ≡ f a (take bt b) (at (node_in a n) 1)
  worked = view h ∙ ap (f a (take bt b)) (ev ∙ ap (λ (q : List ℕ). get_or q 2 0) er)

  pub on_first : t < EQ → Leaves bt a₂ b₂ e (first_in (eqb t OR) f bt n (left a₁ (take p b₁))) → Leaves bt a₂ b₂ e (step_by partial sheet u w t f a (take bt b) n)
  on_first hi g = rw (first_step sheet u w f a (take bt b) n t tags.0 hi, len, ← worked) g

  pub on_pair : EQ ≤ t → t < IF → Leaves bt a₂ b₂ e (pair_in partial sheet t f bt n (left a₁ (take p b₁))) → Leaves bt a₂ b₂ e (step_by partial sheet u w t f a (take bt b) n)
  on_pair lo hi g = rw (pair_step sheet u w f a (take bt b) n t lo hi, len, ← worked) g

  pub on_branch : IF ≤ t → t < IS → Leaves bt a₂ b₂ e (branch_in f bt n (left a₁ (take p b₁))) → Leaves bt a₂ b₂ e (step_by partial sheet u w t f a (take bt b) n)
  on_branch lo hi g = rw (branch_step sheet u w f a (take bt b) n t lo hi, len, ← worked) g

  pub on_one : IS ≤ t → Leaves bt a₂ b₂ e (one_at partial sheet t bt n (get_or (rows_of a₁ NODE) n []) (left a₁ (take p b₁))) → Leaves bt a₂ b₂ e (step_by partial sheet u w t f a (take bt b) n)
  on_one lo g = rw (one_step sheet u w f a (take bt b) n t lo tags.1, len, ← worked) g

-- ---- `interpret`

pub interpret_deep : (sheet : List ℕ) (u w : ℕ) (a b b' : List ℕ) (bt n d e : ℕ) → Room b bt → d ≡ 0 → Appended b bt (err_row 0) b' e → Leaves bt a b' e (interp_of partial sheet u w d a (take bt b) n)
unfolding interp_of err_of
interpret_deep sheet u w a b b' bt n d e room z p = rw z (record { words = refl; log = append_holds room p })

module _ (sheet : List ℕ) (u w : ℕ) (a b a' b' : List ℕ) (bt n d e : ℕ) (deep : d ≡ 0 → ⊥) (r : List ℕ) (er : r ≡ get_or (rows_of a NODE) n []) (t : ℕ) (et : t ≡ tag r) where
  level : interp_of partial sheet u w d a (take bt b) n ≡ step_by partial sheet u w t (interp_of partial sheet u w (d - 1)) a (take bt b) n
  level = by_level sheet u w a (take bt b) d n t deep (et ∙ ap tag er)

  pub interpret_leaf : t < AND → Leaves bt a' b' e (leaf_of partial [] t a (take bt b) n) → Leaves bt a' b' e (interp_of partial sheet u w d a (take bt b) n)
  interpret_leaf h g = leaves_as g (leaf_step sheet u w (interp_of partial sheet u w (d - 1)) a (take bt b) n t h ∙ sym level)

  pub interpret_operation : Leaves bt a' b' e (step_by partial sheet u w t (interp_of partial sheet u w (d - 1)) a (take bt b) n) → Leaves bt a' b' e (interp_of partial sheet u w d a (take bt b) n)
  interpret_operation g = leaves_as g (sym level)

  pub interpret_set : t ≡ SET_OF → Leaves bt a' b' e (group_of partial sheet t 1 (interp_of partial sheet u w (d - 1)) a (take bt b) n) → Leaves bt a' b' e (interp_of partial sheet u w d a (take bt b) n)
  interpret_set h g = leaves_as g (sym (level ∙ set_step_law sheet u w (interp_of partial sheet u w (d - 1)) a (take bt b) n t h))

  pub interpret_record : t ≡ RECORD_OF → Leaves bt a' b' e (group_of partial sheet t 2 (interp_of partial sheet u w (d - 1)) a (take bt b) n) → Leaves bt a' b' e (interp_of partial sheet u w d a (take bt b) n)
  interpret_record h g = leaves_as g (sym (level ∙ record_step sheet u w (interp_of partial sheet u w (d - 1)) a (take bt b) n t h))

  pub interpret_slot : t ≡ SLOT → Leaves bt a' b' e (slot_of partial [] u w a (take bt b) n) → Leaves bt a' b' e (interp_of partial sheet u w d a (take bt b) n)
  interpret_slot h g = leaves_as g (slot_step_law sheet u w (interp_of partial sheet u w (d - 1)) a (take bt b) n t h ∙ sym level)

  pub interpret_other : SET_OF ≤ t → (t ≡ SET_OF → ⊥) → (t ≡ RECORD_OF → ⊥) → (t ≡ SLOT → ⊥) → Leaves bt a' b' e (leaf_of partial [] t a (take bt b) n) → Leaves bt a' b' e (interp_of partial sheet u w d a (take bt b) n)
  interpret_other h i j k g = leaves_as g (other_step sheet u w (interp_of partial sheet u w (d - 1)) a (take bt b) n t h i j k ∙ sym level)

-- ---- `group`

-- of k children i are worked, and what is left of them gives all of them
pub record Turning (f : Rec) (n s bt k : ℕ) (a₀ b₀ a b : List ℕ) (p c i : ℕ) : Type 0 where
  pub whole : kids_of f n s (i * s + 2) a (take p b) c (k - i) ≡ kids_of f n s 2 a₀ (take bt b₀) 0 k
  pub room : Room b p
  pub grows : bt ≤ p

pub turn_start : (f : Rec) (n s bt k : ℕ) (a b : List ℕ) → Room b bt → Turning f n s bt k a b a b bt 0 0
turn_start f n s bt k a b room =
    let e : 0 * s + 2 ≡ 2 = omega arith in
    let z : k - 0 ≡ k = omega arith in
    record { whole = rw (e, z); room = room; grows = le_refl bt }

module _ (f : Rec) (n s bt k : ℕ) (a₀ b₀ a b : List ℕ) (p c i : ℕ) (g : Turning f n s bt k a₀ b₀ a b p c i) where
  pub turn_on : (r : List ℕ) (x : ℕ) (a₁ b₁ : List ℕ) (p₁ c₁ : ℕ) → i < k → r ≡ get_or (rows_of a NODE) n [] → x ≡ get_or r ((i + 1) * s + 1) 0 → Leaves p a₁ b₁ p₁ (f a (take p b) x) → Room b₁ p₁
      → c₁ ≡ join_of c (stage_at (take p₁ b₁) (length (take p₁ b₁))) → Turning f n s bt k a₀ b₀ a₁ b₁ p₁ c₁ (i + 1)
  unfolding kids_of
  turn_on r x a₁ b₁ p₁ c₁ h er ex l room ec =
      let less : k - i ≡ suc (k - (i + 1)) = omega arith in
      let place : (i + 1) * s + 1 ≡ i * s + 2 + s - 1 = omega arith in
      let next : i * s + 2 + s ≡ (i + 1) * s + 2 = omega arith in
      let v : left a₁ (take p₁ b₁) ≡ f a (take p b) (get_or (node_in a n) (i * s + 2 + s - 1) 0) = view l ∙ ap (f a (take p b)) (ex ∙ ap (λ (j : ℕ). get_or r j 0) place ∙ ap (λ (q : List ℕ). get_or q (i * s + 2 + s - 1) 0) er) in
      record {
        whole =
            sym (ap (kids_of f n s (i * s + 2) a (take p b) c) less
            ∙ ap (λ (o : O). kids_of f n s (i * s + 2 + s) o.words o.log (join_of c (stage_at o.log (length o.log))) (k - (i + 1))) (sym v)
            ∙ ap (λ (j : ℕ). kids_of f n s (i * s + 2 + s) a₁ (take p₁ b₁) j (k - (i + 1))) (sym ec)
            ∙ ap (λ (j : ℕ). kids_of f n s j a₁ (take p₁ b₁) c₁ (k - (i + 1))) next)
            ∙ g.whole;
        room = room;
        grows = omega (arith, g.grows, l.log.grows);
      }

  pub turn_end : (sheet a' b' r : List ℕ) (t e w : ℕ) → k ≤ i → r ≡ get_or (rows_of a₀ NODE) n [] → w ≡ length r - 2 → k ≡ w / s → Room b₀ bt
      → Leaves bt a' b' e (many_at partial [] t bt n (get_or (rows_of a NODE) n []) (record { words = a; log = take p b; join = c })) → Leaves bt a' b' e (group_of partial sheet t s f a₀ (take bt b₀) n)
  unfolding group_of kids_of many_at set_of rec_of
  turn_end sheet a' b' r t e w h er ew ek room q =
      let none : k - i ≡ 0 = omega arith in
      let all : record { words = a; log = take p b; join = c } ≡ kids_of f n s 2 a₀ (take bt b₀) 0 ((length (node_in a₀ n) - 2) / s) =
      ap (kids_of f n s (i * s + 2) a (take p b) c) (sym none) ∙ g.whole ∙ ap (kids_of f n s 2 a₀ (take bt b₀) 0) (ek ∙ ap (λ (j : ℕ). j / s) (ew ∙ ap (λ (l : List ℕ). length l - 2) er)) in
      leaves_as q
      (ap (λ (x : Kids). many_at partial sheet t bt n (node_in x.words n) x) all
      ∙ ap (λ (j : ℕ). let x = kids_of f n s 2 a₀ (take bt b₀) 0 ((length (node_in a₀ n) - 2) / s) in many_at partial sheet t j n (node_in x.words n) x) (sym (log_length b₀ bt room)))

-- ---- `run`

-- what is left of the policies gives all of them
pub record Running (sheet : List ℕ) (n : ℕ) (a₀ a b : List ℕ) (p i : ℕ) : Type 0 where
  pub whole : ended (ran_from (λ u w. interp_of partial sheet u w 64) i (n - i) a (take p b)) ≡ ended (ran_from (λ u w. interp_of partial sheet u w 64) 0 n a₀ [])
  pub room : Room b p

module _ (sheet : List ℕ) (n : ℕ) (a₀ a b : List ℕ) (p i : ℕ) (g : Running sheet n a₀ a b p i) where
  abbrev f : ℕ → ℕ → Rec
  f u w = interp_of partial sheet u w 64

  abbrev policy : List ℕ
  policy = get_or (rows_of a RUN) i []

  pub run_on : (r : List ℕ) (x u w : ℕ) (a₁ b₁ : List ℕ) (p₁ m : ℕ) → i < m → m ≡ n → r ≡ get_or (rows_of a RUN) i [] → x ≡ get_or r 3 0 → u ≡ get_or r 4 0 → w ≡ get_or r 5 0
      → Leaves p a₁ b₁ p₁ (interp_of partial sheet u w 64 a (take p b) x) → Room b₁ p₁ → Running sheet n a₀ a₁ b₁ p₁ (i + 1)
  unfolding ran_from
  run_on r x u w a₁ b₁ p₁ m lt em er ex eu ew l room =
      let less : n - i ≡ suc (n - (i + 1)) = omega arith in
      let next : suc i ≡ i + 1 = omega arith in
      let root : x ≡ at policy 2 = ex ∙ ap (λ (q : List ℕ). get_or q 3 0) er in
      let first : u ≡ at policy 3 = eu ∙ ap (λ (q : List ℕ). get_or q 4 0) er in
      let second : w ≡ at policy 4 = ew ∙ ap (λ (q : List ℕ). get_or q 5 0) er in
      let same : f u w a (take p b) x ≡ f (at policy 3) (at policy 4) a (take p b) (at policy 2) = λ j. f (first j) (second j) a (take p b) (root j) in
      let v : left a₁ (take p₁ b₁) ≡ f (at policy 3) (at policy 4) a (take p b) (at policy 2) = view l ∙ same in
      record {
        whole =
            sym (ap (λ (k : ℕ). ended (ran_from f i k a (take p b))) less ∙ ap (λ (o : O). ended (ran_from f (suc i) (n - (i + 1)) o.words o.log)) (sym v) ∙ ap (λ (j : ℕ). ended (ran_from f j (n - (i + 1)) a₁ (take p₁ b₁))) next)
            ∙ g.whole;
        room = room;
      }

pub run_end : (sheet a₀ a b : List ℕ) (p i m : ℕ) → Running sheet (get_or a₀ RUN 0) a₀ a b p i → m ≤ i → m ≡ get_or a₀ RUN 0 → Leaves 0 a b p (ended (run_of partial sheet a₀ []))
unfolding run_of ran_from
run_end sheet a₀ a b p i m g h e =
    let none : get_or a₀ RUN 0 - i ≡ 0 = omega arith in
    let all : left a (take p b) ≡ ended (ran_from (λ u w. interp_of partial sheet u w 64) 0 (get_or a₀ RUN 0) a₀ []) =
    ap (λ (k : ℕ). ended (ran_from (λ u w. interp_of partial sheet u w 64) i k a (take p b))) (sym none) ∙ g.whole in
    record { words = ap (λ (o : O). o.words) all; log = record { is = ap (λ (o : O). o.log) all; low = g.room.low; grows = omega arith } }

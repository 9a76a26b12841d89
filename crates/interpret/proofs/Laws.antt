-- One law for each way through the code. Assumes nothing.
use mathlib.Core.Path.{◌≡◌, refl, sym, ap, ap₂, ◌∙◌, subst}
use mathlib.Core.Bool.{Bool}
use mathlib.Core.List.{List, [], ◌∷◌}
use Prim.Native.Nat.{ℕ, zero, suc, ◌-◌, ◌≤◌, ◌<◌}
use native.Mathlib.Omega.{arith}
use native.Mathlib.Nat.{le_refl}
use lib.ListN.{length, get_or, take}
use Rattle.words.specs.Log.{appended, Appended, Room}
use Rattle.words.proofs.Logs.{append_holds, holds_as, holds_from, log_cut, log_length}
use Rattle.cedar.specs.Residual.{Class, ctrue, cfalse, cerror, copen}
use Rattle.sheet.specs.Forms.{partial, at, first_node, NODE}
use Rattle.forms.specs.Tags.{ERR, VAR}
use Rattle.sheet.specs.Typing.{slot_value}
use Rattle.sheet.specs.Content.{var_of}
use Rattle.table.specs.Layout.{rows_of}
use Rattle.value.specs.Made.{bool_row}
use Rattle.residual.specs.Rows.{lit_row, err_row, left_row, stage_at}
use Rattle.residual.specs.Errs.{errs}
use Rattle.residual.specs.Logs.{held}
use Rattle.residual.specs.declared.Log.{Log}
use Rattle.tpe.specs.Run.{O, Rec, left, lit_of, err_of, left_of, made_of, node_in, Side, stops, goes, wrong, unsure, side_of, class_by, class_of, decided_by, second_by, second_of, first_by, first_of, split_of, branch_by, branch_of, var_for, env_in, lit_step, err_step, var_step, slot_step}
use Rattle.tpe.specs.Steps.{two_at}
use Rattle.tpe.specs.Classes.{class_in}
use Rattle.tpe.specs.Leaves.{Leaves}
use Rattle.tpe.specs.declared.Class.{Class as Classᶜ}
use Rattle.tpe.specs.declared.Class.TheVariants.{True, False, Error as Errorᶜ, Open as Openᶜ}
use Rattle.tpe.proofs.Slices.{stage_log}
use Rattle.tpe.proofs.Worked.{two_sheet}
use Rattle.interpret.specs.Sides.{side_in}
use Rattle.interpret.specs.Nodes.{slot_of, leaf_of, first_in, branch_in, pair_by, pair_in}
use Rattle.interpret.specs.declared.Side.{Side as Sideᶜ}
use Rattle.interpret.specs.declared.Side.TheVariants.{Stops, Goes, Wrong, Unsure}

-- ---- outcomes

-- the slices and the end are the outcome
pub view : {a b : List ℕ} {was e : ℕ} {o : O} → Leaves was a b e o → left a (take e b) ≡ o
view h = ap₂ left h.words h.log.is

pub leaves_as : {a b : List ℕ} {was e : ℕ} {o p : O} → Leaves was a b e o → o ≡ p → Leaves was a b e p
leaves_as {a} {b} {was} {e} h q = subst (λ (x : O). Leaves was a b e x) q h

low_room : {b : List ℕ} {bt : ℕ} (start : ℕ) → Room b bt → start ≤ bt → Room b start
low_room start room h = record { low = omega (arith, room.low, h); long = room.long }

err_leaves : (a b b' : List ℕ) (bt e y : ℕ) → Room b bt → Appended b bt (err_row y) b' e → Leaves bt a b' e (err_of a (take bt b) y)
unfolding err_of
err_leaves a b b' bt e y room p = record { words = refl; log = append_holds room p }

left_leaves : (a b b' : List ℕ) (start bt n e y : ℕ) → Room b bt → start ≤ bt → Appended b bt (left_row n 0 (bt - start) y) b' e → Leaves start a b' e (left_of a (take bt b) start n 0 y)
unfolding left_of
left_leaves a b b' start bt n e y room h p =
    record { words = refl; log = holds_as (holds_from (append_holds room p) h) (ap (λ (j : ℕ). appended (take bt b) (left_row n 0 (j - start) y)) (sym (log_length b bt room))) }

-- the last block of a log, as the code reads it
pub last_stage : (b : List ℕ) (bt : ℕ) → Room b bt → stage_at b bt ≡ stage_at (take bt b) (length (take bt b))
last_stage b bt room = stage_log b bt bt (le_refl bt) ∙ ap (stage_at (take bt b)) (sym (log_length b bt room))

pub class_log : (a b : List ℕ) (bt : ℕ) → Room b bt → class_of a (take bt b) ≡ class_by a (stage_at b bt)
unfolding class_of
class_log a b bt room = ap (class_by a) (sym (last_stage b bt room))

pub class_held : (a : List ℕ) (g : Log) → class_of a (held g) ≡ class_by a (stage_at g.words.now g.top)
class_held a g = class_log a g.words.now g.top g.room

pub last_held : (g : Log) → stage_at g.words.now g.top ≡ stage_at (held g) (length (held g))
last_held g = last_stage g.words.now g.top g.room

-- ---- `leaf`

module _ (a b : List ℕ) (bt n t : ℕ) (room : Room b bt) (r : List ℕ) (er : r ≡ get_or (rows_of a NODE) n []) (y x : ℕ) (ey : y ≡ get_or r 1 0) (ex : x ≡ get_or r 2 0) where
  pub leaf_value : (b' : List ℕ) (e : ℕ) → t < ERR → Appended b bt (lit_row x y) b' e → Leaves bt a b' e (leaf_of partial [] t a (take bt b) n)
  unfolding leaf_of lit_step lit_of
  leaf_value b' e h p = let z : t - first_node ≡ 0 = omega (arith, h) in rw (z, ← er, ← ey, ← ex) (record { words = refl; log = append_holds room p })

  pub leaf_var : (a' b' : List ℕ) (e : ℕ) → t ≡ VAR → Leaves bt a' b' e (var_for partial [] a (take bt b) n y ((env_in partial [] a).request (var_of x))) → Leaves bt a' b' e (leaf_of partial [] t a (take bt b) n)
  unfolding leaf_of var_step
  leaf_var a' b' e h p = rw (h, ← er, ← ey, ← ex) p

  pub leaf_error : (b' : List ℕ) (e : ℕ) → ERR ≤ t → (t ≡ VAR → ⊥) → Appended b bt (err_row y) b' e → Leaves bt a b' e (leaf_of partial [] t a (take bt b) n)
  unfolding leaf_of err_step
  leaf_error b' e h k p = go (t - first_node) refl (rw (← er, ← ey) (err_leaves a b b' bt e y room p))
    where
      go : (j : ℕ) → t - first_node ≡ j → Leaves bt a b' e (err_of a (take bt b) (at (node_in a n) 0))
          → Leaves bt a b' e (get_or (lit_step partial [] ∷ err_step partial [] ∷ var_step partial [] ∷ []) j (err_step partial []) (λ a l n. left a l) a (take bt b) n (node_in a n))
      go zero q z = absurd (omega (arith, q, h))
      go (suc zero) q z = z
      go (suc (suc zero)) q z = absurd (k (omega (arith, q, h)))
      go (suc (suc (suc j))) q z = z

-- ---- `slot`

pub slot_is : (a b b' : List ℕ) (bt n u w e : ℕ) → Room b bt → (r : List ℕ) → r ≡ get_or (rows_of a NODE) n [] → (x y v : ℕ) → x ≡ get_or r 2 0 → v ≡ slot_value u w x → y ≡ get_or r 1 0 → Appended b bt (lit_row v y) b' e
    → Leaves bt a b' e (slot_of partial [] u w a (take bt b) n)
unfolding slot_of slot_step lit_of
slot_is a b b' bt n u w e room r er x y v ex ev ey p = rw (← er, ← ey, ← ex, ← ev) (record { words = refl; log = append_holds room p })

-- ---- `beside`

module _ (a b : List ℕ) (start mid bt n : ℕ) (z : Bool) (y : ℕ) (room : Room b bt) (order : (start ≤ mid) × (mid ≤ bt)) (s : Sideᶜ) (es : side_in s ≡ side_of z (class_of a (take bt b))) where
  by_side : (x : Side) → side_in s ≡ x → second_of z start n y mid (left a (take bt b)) ≡ second_by z start n y mid (left a (take bt b)) x
  unfolding second_of
  by_side x e = ap (second_by z start n y mid (left a (take bt b))) (sym es ∙ e)

  pub beside_stops : (a' b' : List ℕ) (e : ℕ) → s ≡ Stops → Leaves start a' b' e (decided_by z start n y mid a (take bt b) (errs (rows_of a NODE) (take bt b) mid))
      → Leaves start a' b' e (second_of z start n y mid (left a (take bt b)))
  unfolding second_by
  beside_stops a' b' e h p = leaves_as p (sym (by_side stops (ap side_in h)))

  pub beside_goes : (b₁ : List ℕ) (t : ℕ) → s ≡ Goes → b₁ ≡ b → t ≡ mid → Leaves start a b₁ t (second_of z start n y mid (left a (take bt b)))
  unfolding second_by
  beside_goes b₁ t h eb et =
      rw (by_side goes (ap side_in h), eb, et) (record { words = refl; log = record { is = sym (log_cut b bt mid order.1); low = omega (arith, room.low, order.1); grows = order.0 } })

  kept : (x : Side) → side_in s ≡ x → second_by z start n y mid (left a (take bt b)) x ≡ left_of a (take bt b) start n 0 y
      → (b' : List ℕ) (e : ℕ) → Appended b bt (left_row n 0 (bt - start) y) b' e → Leaves start a b' e (second_of z start n y mid (left a (take bt b)))
  kept x h q b' e p = leaves_as (left_leaves a b b' start bt n e y room (omega (arith, order.0, order.1)) p) (sym (by_side x h ∙ q))

  pub beside_wrong : (b' : List ℕ) (e : ℕ) → s ≡ Wrong → Appended b bt (left_row n 0 (bt - start) y) b' e → Leaves start a b' e (second_of z start n y mid (left a (take bt b)))
  unfolding second_by
  beside_wrong b' e h p = kept wrong (ap side_in h) refl b' e p

  pub beside_unsure : (b' : List ℕ) (e : ℕ) → s ≡ Unsure → Appended b bt (left_row n 0 (bt - start) y) b' e → Leaves start a b' e (second_of z start n y mid (left a (take bt b)))
  unfolding second_by
  beside_unsure b' e h p = kept unsure (ap side_in h) refl b' e p

-- ---- `first`

module _ (f : Rec) (a b : List ℕ) (start bt n : ℕ) (z : Bool) (room : Room b bt) (below : start ≤ bt) (r : List ℕ) (er : r ≡ get_or (rows_of a NODE) n [])
    (y x : ℕ) (ey : y ≡ get_or r 1 0) (ex : x ≡ get_or r 3 0) (s : Sideᶜ) (es : side_in s ≡ side_of z (class_of a (take bt b))) where
  by_first : (q : Side) → side_in s ≡ q → first_in z f start n (left a (take bt b)) ≡ first_by z f start n y x (left a (take bt b)) q
  unfolding first_in first_of
  by_first q e = rw (← er, ← ey, ← ex) (ap (first_by z f start n y x (left a (take bt b))) (sym es ∙ e))

  pub first_stops : (a' b' : List ℕ) (e : ℕ) → s ≡ Stops → Leaves start a' b' e (made_of a (take start b) y (bool_row z)) → Leaves start a' b' e (first_in z f start n (left a (take bt b)))
  unfolding first_by
  first_stops a' b' e h p = rw (by_first stops (ap side_in h), log_cut b bt start below) p

  pub first_goes : (b₁ : List ℕ) (t : ℕ) (a' b' : List ℕ) (e : ℕ) → s ≡ Goes → b₁ ≡ b → t ≡ start → Leaves t a' b' e (f a (take t b₁) x) → Leaves start a' b' e (first_in z f start n (left a (take bt b)))
  unfolding first_by
  first_goes b₁ t a' b' e h eb et p = rw (by_first goes (ap side_in h), log_cut b bt start below) (rw (eb, et) at p)

  pub first_wrong : (b' : List ℕ) (e : ℕ) → s ≡ Wrong → Appended b start (err_row y) b' e → Leaves start a b' e (first_in z f start n (left a (take bt b)))
  unfolding first_by
  first_wrong b' e h p = rw (by_first wrong (ap side_in h), log_cut b bt start below) (err_leaves a b b' start e y (low_room start room below) p)

  pub first_unsure : (a' b' : List ℕ) (e : ℕ) → s ≡ Unsure → Leaves start a' b' e (second_of z start n y bt (f a (take bt b) x)) → Leaves start a' b' e (first_in z f start n (left a (take bt b)))
  unfolding first_by
  first_unsure a' b' e h p = rw (by_first unsure (ap side_in h), log_length b bt room) p

-- ---- `second`, `pair`

pub pair_is : (sheet : List ℕ) (f : Rec) (a b : List ℕ) (start mid n t : ℕ) → Room b mid → (r : List ℕ) → r ≡ get_or (rows_of a NODE) n [] → (x : ℕ) → x ≡ get_or r 3 0 → (a₁ b₁ : List ℕ) (p : ℕ) → Leaves mid a₁ b₁ p (f a (take mid b) x)
    → (a₂ b₂ : List ℕ) (e : ℕ) → Leaves start a₂ b₂ e (two_at partial [] t start mid n (get_or (rows_of a₁ NODE) n []) (left a₁ (take p b₁))) → Leaves start a₂ b₂ e (pair_in partial sheet t f start n (left a (take mid b)))
unfolding pair_in pair_by
pair_is sheet f a b start mid n t room r er x ex a₁ b₁ p h a₂ b₂ e q =
    rw (log_length b mid room, ← er, ← ex) (leaves_as q (two_sheet sheet a₁ (take p b₁) start mid n (get_or (rows_of a₁ NODE) n []) t ∙ ap (λ (o : O). two_at partial sheet t start mid n (node_in o.words n) o) (view h)))

-- ---- `branch`, `split`

module _ (f : Rec) (a b : List ℕ) (start bt n : ℕ) (room : Room b bt) (below : start ≤ bt) (r : List ℕ) (er : r ≡ get_or (rows_of a NODE) n [])
    (y x w : ℕ) (ey : y ≡ get_or r 1 0) (ex : x ≡ get_or r 3 0) (ew : w ≡ get_or r 4 0) (c : Classᶜ) (ec : class_in c ≡ class_by a (stage_at b bt)) where
  by_branch : (q : Class) → class_in c ≡ q → branch_in f start n (left a (take bt b)) ≡ branch_by f start n y x w (left a (take bt b)) q
  unfolding branch_in branch_of
  by_branch q e = rw (← er, ← ey, ← ex, ← ew) (ap (branch_by f start n y x w (left a (take bt b))) (sym (ec ∙ sym (class_log a b bt room)) ∙ e))

  pub branch_true : (b₁ : List ℕ) (t : ℕ) (a' b' : List ℕ) (e : ℕ) → c ≡ True → b₁ ≡ b → t ≡ start → Leaves t a' b' e (f a (take t b₁) x) → Leaves start a' b' e (branch_in f start n (left a (take bt b)))
  unfolding branch_by
  branch_true b₁ t a' b' e h eb et p = rw (by_branch ctrue (ap class_in h), log_cut b bt start below) (rw (eb, et) at p)

  pub branch_false : (b₁ : List ℕ) (t : ℕ) (a' b' : List ℕ) (e : ℕ) → c ≡ False → b₁ ≡ b → t ≡ start → Leaves t a' b' e (f a (take t b₁) w) → Leaves start a' b' e (branch_in f start n (left a (take bt b)))
  unfolding branch_by
  branch_false b₁ t a' b' e h eb et p = rw (by_branch cfalse (ap class_in h), log_cut b bt start below) (rw (eb, et) at p)

  pub branch_error : (b' : List ℕ) (e : ℕ) → c ≡ Errorᶜ → Appended b start (err_row y) b' e → Leaves start a b' e (branch_in f start n (left a (take bt b)))
  unfolding branch_by
  branch_error b' e h p = rw (by_branch cerror (ap class_in h), log_cut b bt start below) (err_leaves a b b' start e y (low_room start room below) p)

  pub branch_open : (a' b' : List ℕ) (e : ℕ) → c ≡ Openᶜ → Leaves start a' b' e (split_of f start n y w (f a (take bt b) x)) → Leaves start a' b' e (branch_in f start n (left a (take bt b)))
  unfolding branch_by
  branch_open a' b' e h p = rw (by_branch copen (ap class_in h)) p

pub split_is : (f : Rec) (a₁ b₁ a₂ b₂ b₃ : List ℕ) (start bt p q n y w e : ℕ) (o : O) → start ≤ bt → Leaves bt a₁ b₁ p o → Leaves p a₂ b₂ q (f a₁ (take p b₁) w) → Room b₂ q
    → Appended b₂ q (left_row n 0 (q - start) y) b₃ e → Leaves start a₂ b₃ e (split_of f start n y w o)
unfolding split_of
split_is f a₁ b₁ a₂ b₂ b₃ start bt p q n y w e o below h g room r =
    let up : start ≤ q = omega (arith, below, h.log.grows, g.log.grows) in
    let v : left a₂ (take q b₂) ≡ f o.words o.log w = view g ∙ ap (λ (x : O). f x.words x.log w) (view h) in
    leaves_as (left_leaves a₂ b₂ b₃ start q n e y room up r) (ap (λ (x : O). left_of x.words x.log start n 0 y) v)

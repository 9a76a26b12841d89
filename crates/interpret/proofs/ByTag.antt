-- The step of a node by its tag, as the code takes it apart. Assumes nothing.
use mathlib.Core.Path.{◌≡◌, refl, sym, ap, ◌∙◌, subst}
use mathlib.Core.List.{List, [], ◌∷◌}
use Prim.Native.Nat.{ℕ, zero, suc, ◌+◌, ◌-◌, ◌≤◌, ◌<◌}
use native.Mathlib.Omega.{arith}
use native.Mathlib.Nat.{div-one}
use lib.Dec.{eqb}
use lib.ListN.{length, get_or, get_or-eq_default}
use Rattle.sheet.specs.Forms.{partial, tag, at, first_node}
use Rattle.forms.specs.Tags.{AND, OR, EQ, IF, IS, SET_OF, RECORD_OF, SLOT, POLICY_LINE}
use Rattle.tpe.specs.Run.{O, Rec, Step, steps, left, node_in, lit_step, err_step, var_step, lazy_step, if_step, bin_step, rel_step, un_step, get_step, has_step, path_step, set_step, rec_step, slot_step, env_in, var_for, step_with, step_of, interp_of}
use Rattle.tpe.specs.Steps.{one_at, two_at, many_at}
use Rattle.interpret.specs.Nodes.{step_by, slot_of, leaf_of, first_in, branch_in, pair_by, pair_in, group_of}

above : (m t : ℕ) → m ≤ t → (t ≡ m → ⊥) → suc m ≤ t
above m t h k = omega arith

beyond : (t : ℕ) → POLICY_LINE ≤ t → POLICY_LINE - first_node ≤ t - first_node
beyond t h = omega arith

-- under a link with the values u and w
module _ (sheet : List ℕ) (u w : ℕ) (f : Rec) (a l : List ℕ) (n : ℕ) where
  abbrev r : List ℕ
  r = node_in a n

  abbrev o : O
  o = f a l (at r 1)

  -- a fact of k more than a number is one of every number from there on
  from : (P : ℕ → Type 0) (m t : ℕ) → m ≤ t → P (m + (t - m)) → P t
  from P m t h p = let e : m + (t - m) ≡ t = omega arith in subst P e p

  first_from : (k : ℕ) → AND + k < EQ → step_by partial sheet u w (AND + k) f a l n ≡ first_in (eqb (AND + k) OR) f (length l) n o
  unfolding step_by lazy_step first_in
  first_from zero h = refl
  first_from (suc zero) h = refl
  first_from (suc (suc k)) h = absurd (omega (arith, h))

  pub first_step : (t : ℕ) → AND ≤ t → t < EQ → step_by partial sheet u w t f a l n ≡ first_in (eqb t OR) f (length l) n o
  first_step t h k = from (λ x. step_by partial sheet u w x f a l n ≡ first_in (eqb x OR) f (length l) n o) AND t h (first_from (t - AND) (omega arith))

  pair_from : (k : ℕ) → EQ + k < IF → step_by partial sheet u w (EQ + k) f a l n ≡ pair_in partial sheet (EQ + k) f (length l) n o
  unfolding step_by pair_in pair_by two_at bin_step rel_step
  pair_from zero h = refl
  pair_from (suc zero) h = refl
  pair_from (suc (suc zero)) h = refl
  pair_from (suc (suc (suc zero))) h = refl
  pair_from (suc (suc (suc (suc zero)))) h = refl
  pair_from (suc (suc (suc (suc (suc zero))))) h = refl
  pair_from (suc (suc (suc (suc (suc (suc zero)))))) h = refl
  pair_from (suc (suc (suc (suc (suc (suc (suc zero))))))) h = refl
  pair_from (suc (suc (suc (suc (suc (suc (suc (suc zero)))))))) h = refl
  pair_from (suc (suc (suc (suc (suc (suc (suc (suc (suc zero))))))))) h = refl
  pair_from (suc (suc (suc (suc (suc (suc (suc (suc (suc (suc zero)))))))))) h = refl
  pair_from (suc (suc (suc (suc (suc (suc (suc (suc (suc (suc (suc zero))))))))))) h = refl
  pair_from (suc (suc (suc (suc (suc (suc (suc (suc (suc (suc (suc (suc k)))))))))))) h = absurd (omega (arith, h))

  pub pair_step : (t : ℕ) → EQ ≤ t → t < IF → step_by partial sheet u w t f a l n ≡ pair_in partial sheet t f (length l) n o
  pair_step t h k = from (λ x. step_by partial sheet u w x f a l n ≡ pair_in partial sheet x f (length l) n o) EQ t h (pair_from (t - EQ) (omega arith))

  pub branch_step : (t : ℕ) → IF ≤ t → t < IS → step_by partial sheet u w t f a l n ≡ branch_in f (length l) n o
  unfolding step_by if_step branch_in
  branch_step t h k = let e : t ≡ IF = omega arith in rw e

  one_from : (k : ℕ) → IS + k < SET_OF → step_by partial sheet u w (IS + k) f a l n ≡ one_at partial sheet (IS + k) (length l) n (node_in o.words n) o
  unfolding step_by one_at un_step get_step has_step path_step
  one_from zero h = refl
  one_from (suc zero) h = refl
  one_from (suc (suc zero)) h = refl
  one_from (suc (suc (suc zero))) h = refl
  one_from (suc (suc (suc (suc zero)))) h = refl
  one_from (suc (suc (suc (suc (suc zero))))) h = refl
  one_from (suc (suc (suc (suc (suc (suc zero)))))) h = refl
  one_from (suc (suc (suc (suc (suc (suc (suc zero))))))) h = refl
  one_from (suc (suc (suc (suc (suc (suc (suc (suc k)))))))) h = absurd (omega (arith, h))

  pub one_step : (t : ℕ) → IS ≤ t → t < SET_OF → step_by partial sheet u w t f a l n ≡ one_at partial sheet t (length l) n (node_in o.words n) o
  one_step t h k = from (λ x. step_by partial sheet u w x f a l n ≡ one_at partial sheet x (length l) n (node_in o.words n) o) IS t h (one_from (t - IS) (omega arith))

  pub set_step_law : (t : ℕ) → t ≡ SET_OF → step_by partial sheet u w t f a l n ≡ group_of partial sheet t 1 f a l n
  unfolding step_by group_of many_at set_step
  set_step_law t e = rw (e, div-one (length r - 2))

  pub record_step : (t : ℕ) → t ≡ RECORD_OF → step_by partial sheet u w t f a l n ≡ group_of partial sheet t 2 f a l n
  unfolding step_by group_of many_at rec_step
  record_step t e = rw e

  leaf_from : (k : ℕ) → first_node + k < AND
      → get_or (lit_step partial [] ∷ err_step partial [] ∷ var_step partial [] ∷ []) k (err_step partial []) (λ a l n. left a l) a l n r ≡ get_or (steps partial sheet u w) k (err_step partial sheet) f a l n r
  unfolding lit_step err_step var_step var_for env_in
  leaf_from zero h = refl
  leaf_from (suc zero) h = refl
  leaf_from (suc (suc zero)) h = refl
  leaf_from (suc (suc (suc k))) h = absurd (omega (arith, h))

  pub leaf_step : (t : ℕ) → t < AND → leaf_of partial [] t a l n ≡ step_by partial sheet u w t f a l n
  unfolding step_by leaf_of
  leaf_step t h = leaf_from (t - first_node) (omega arith)

  pub slot_step_law : (t : ℕ) → t ≡ SLOT → slot_of partial [] u w a l n ≡ step_by partial sheet u w t f a l n
  unfolding step_by slot_of slot_step
  slot_step_law t e = rw e

  pub other_step : (t : ℕ) → SET_OF ≤ t → (t ≡ SET_OF → ⊥) → (t ≡ RECORD_OF → ⊥) → (t ≡ SLOT → ⊥) → leaf_of partial [] t a l n ≡ step_by partial sheet u w t f a l n
  unfolding step_by leaf_of err_step
  other_step t h i j k =
      let past : POLICY_LINE - first_node ≤ t - first_node = beyond t (above SLOT t (above RECORD_OF t (above SET_OF t h i) j) k) in
      ap (λ (q : Step partial []). q (λ a l n. left a l) a l n r) (get_or-eq_default (lit_step partial [] ∷ err_step partial [] ∷ var_step partial [] ∷ []) (err_step partial []) {n = t - first_node} (omega arith))
      ∙ sym (ap (λ (q : Step partial sheet). q f a l n r) (get_or-eq_default (steps partial sheet u w) (err_step partial sheet) {n = t - first_node} past))

-- ---- levels

pub by_level : (sheet : List ℕ) (u w : ℕ) (a l : List ℕ) (d n t : ℕ) → (d ≡ 0 → ⊥) → t ≡ tag (node_in a n) → interp_of partial sheet u w d a l n ≡ step_by partial sheet u w t (interp_of partial sheet u w (d - 1)) a l n
unfolding interp_of step_of step_with step_by
by_level sheet u w a l zero n t h e = absurd (h refl)
by_level sheet u w a l (suc d) n t h e = let z : suc d - 1 ≡ d = omega arith in rw (z, e)

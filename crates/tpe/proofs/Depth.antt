-- Interpretation over words, at the depth of a node, is the numbered interpretation of its tree. Assumes nothing.
use mathlib.Core.Path.{◌≡◌, refl, sym, subst}
use mathlib.Core.List.{List, []}
use Prim.Native.Nat.{ℕ, zero, suc, ◌-◌, ◌*◌, ◌≤◌, ◌<◌}
use native.Mathlib.Omega.{arith}
use lib.ListN.{length, get_or, drop}
use Rattle.cedar.specs.Types.{tbool}
use Rattle.cedar.specs.Residual.{Node, err}
use Rattle.cedar.specs.Rows.{Row}
use Rattle.cedar.specs.Numbered.{n_interpret}
use Rattle.cedar.proofs.TableLaws.{InN}
use Rattle.forms.specs.Tags.{RECORD_OF, SLOT}
use Rattle.sheet.specs.Forms.{Mode, tag, items, at, NODE, first_node}
use Rattle.sheet.specs.Content.{tree_over, linked}
use Rattle.sheet.specs.Answer.{size}
use Rattle.sheet.proofs.content.TypeNumbers.{TypesIn}
use Rattle.tpe.specs.Run.{others, err_step, steps, step_with, step_of, interp_of}
use Rattle.tpe.proofs.Stands.{values, Room, tys, nodes, Is}
use Rattle.tpe.proofs.Operations.{sch, env}
use Rattle.tpe.proofs.Logic.{Works}
use Rattle.tpe.proofs.Paths.{Kinds}
use Rattle.tpe.proofs.EachStep.{kids_for, step_is}

-- the children of a node's row
abbrev pub children_of : List ℕ → List ℕ
children_of r = get_or (kids_for r) (tag r - first_node) []

-- F: what is known of the nodes that are worked; p and q: the link's values
module _ (sheet a₀ : List ℕ) (p q : ℕ) (trs : List (Node ℕ)) (F : ℕ → Type 0) where
  -- node c is known, its row is of an operation and of a listed type, and tree c is the one that the row says
  pub record Proper (c : ℕ) : Type 0 where
    pub known : F c
    pub low : first_node ≤ tag (get_or (nodes sheet a₀) c [])
    pub high : tag (get_or (nodes sheet a₀) c []) ≤ SLOT
    pub typed : at (get_or (nodes sheet a₀) c []) 0 < length (tys sheet a₀)
    pub even : tag (get_or (nodes sheet a₀) c []) ≡ RECORD_OF → length (drop 1 (items (get_or (nodes sheet a₀) c []))) ≡ 2 * length (others (drop 1 (items (get_or (nodes sheet a₀) c []))))
    pub tree : get_or trs c (err tbool) ≡ tree_over (tys sheet a₀) (λ n. n) (linked (λ n. n) p q) trs (get_or (nodes sheet a₀) c [])

  -- node c is proper, and so are those below it, which are d levels with it at most
  abbrev pub Deep : ℕ → ℕ → Type 0
  Deep zero c = ⊥
  Deep (suc d) c = Proper c × ((j : ℕ) → InN j (children_of (get_or (nodes sheet a₀) c [])) → Deep d j)

  deep_known : (d c : ℕ) → Deep d c → F c
  deep_known zero c e = absurd e
  deep_known (suc d) c e = e.0.known

module _ (m : Mode) (sheet a₀ : List ℕ) (kinds : Kinds sheet a₀)
    (p q : ℕ) (trs : List (Node ℕ)) (F : ℕ → Type 0) (P : List Row → Type 0)
    (keeps : (c : ℕ) → F c → (R : List Row) → P R → P (n_interpret (sch m sheet a₀) (env m sheet a₀) (get_or trs c (err tbool)) R).rows)
    (lists : (c : ℕ) → F c → (R : List Row) → P R → TypesIn (tys sheet a₀) (n_interpret (sch m sheet a₀) (env m sheet a₀) (get_or trs c (err tbool)) R).tree) where
  -- THE INTERPRETER OVER WORDS IS THE NUMBERED INTERPRETATION
  pub interp_is : (d c : ℕ) → d ≤ 64 → Deep sheet a₀ p q trs F d c → Works m sheet a₀ P d (size (get_or trs c (err tbool))) (interp_of m sheet p q d) c (n_interpret (sch m sheet a₀) (env m sheet a₀) (get_or trs c (err tbool)))
  unfolding interp_of step_of step_with
  interp_is zero c deep e a l h good room = absurd e
  interp_is (suc d) c deep e a l h good room =
      let k = e.0 in
      subst (λ (ns : List (List ℕ)). Is sheet a₀ (suc d) (size (get_or trs c (err tbool))) a l (n_interpret (sch m sheet a₀) (env m sheet a₀) (get_or trs c (err tbool)) (values a)) (step_with m sheet p q (interp_of m sheet p q d) a l c (get_or ns c []))) (sym (h.same NODE (omega arith)))
      (subst
      (λ (t : Node ℕ). Room (size t) a l → TypesIn (tys sheet a₀) (n_interpret (sch m sheet a₀) (env m sheet a₀) t (values a)).tree
      → Is sheet a₀ (suc d) (size t) a l (n_interpret (sch m sheet a₀) (env m sheet a₀) t (values a)) (get_or (steps m sheet p q) (tag (get_or (nodes sheet a₀) c []) - first_node) (err_step m sheet) (interp_of m sheet p q d) a l c (get_or (nodes sheet a₀) c [])))
      (sym k.tree)
      (step_is m sheet a₀ kinds trs P d (omega (arith, deep)) (interp_of m sheet p q d) c k.low k.typed a l h good p q k.even (tag (get_or (nodes sheet a₀) c []) - first_node) refl (omega (arith, k.high))
      (λ j i. record { working = interp_is d j (omega (arith, deep)) (e.1 j i); keeps = keeps j (deep_known sheet a₀ p q trs F d j (e.1 j i)) }))
      room (lists c k.known (values a) good))

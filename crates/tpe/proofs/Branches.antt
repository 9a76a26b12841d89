-- `if` over words is the numbered one. Assumes nothing.
use mathlib.Core.Path.{◌≡◌, sym, ◌∙◌, ap, ap₂}
use mathlib.Core.Bool.{true}
use mathlib.Core.List.{List, [], ◌∷◌, ◌++◌, append_assoc, append-nil}
use Prim.Native.Nat.{ℕ, suc, ◌+◌, ◌*◌, ◌≤◌, ◌<◌}
use native.Mathlib.Omega.{arith}
use lib.ListN.{length, get_or, length-append}
use Rattle.cedar.specs.Types.{Schema}
use Rattle.cedar.specs.Residual.{Node, ite, Class, ctrue, cfalse, cerror, copen}
use Rattle.cedar.specs.Rows.{Row}
use Rattle.cedar.specs.Numbered.{NEnv, Out, out, n_class, n_if, then_if}
use Rattle.sheet.specs.Forms.{Mode, at}
use Rattle.residual.specs.Trees.{rnil, rcons, flat, flats, left_tree, suits, trees_of, whole_none, whole_more}
use Rattle.tpe.specs.Run.{O, Rec, left_of, split_of, branch_by, branch_of}
use Rattle.tpe.proofs.Stands.{Room, tys, nodes, ty, Is, is_as, left_is}
use Rattle.tpe.proofs.Logic.{class_is, Works, works_on, then_err, then_on, then_more}

module _ (m : Mode) (sheet a₀ : List ℕ) where
  -- three blocks are kept
  module _ {d p q s : ℕ} {a l : List ℕ} {X Y Z : Out} {o u w : O} (i : Is sheet a₀ d p a l X o) (j : Is sheet a₀ d q o.words o.log Y u) (k : Is sheet a₀ d s u.words u.log Z w)
      (c : ℕ) (r : List ℕ) (typed : at r 0 < length (tys sheet a₀)) (room : Room (suc (p + q + s)) a l) (su : suits (get_or (nodes sheet a₀) c []) 3 ≡ true) where
    three_log : w.log ≡ l ++ (flat i.res ++ (flat j.res ++ (flat k.res ++ [])))
    three_log =
        k.log ∙ ap (λ (z : List ℕ). z ++ flat k.res) j.log ∙ append_assoc o.log (flat j.res) (flat k.res)
        ∙ ap (λ (z : List ℕ). z ++ (flat j.res ++ flat k.res)) i.log ∙ append_assoc l (flat i.res) (flat j.res ++ flat k.res)
        ∙ ap (λ (z : List ℕ). l ++ (flat i.res ++ (flat j.res ++ z))) (sym (append-nil (flat k.res)))

    three_short : length (flat i.res ++ (flat j.res ++ (flat k.res ++ []))) + 4 ≤ 4 * suc (p + q + s)
    three_short =
        omega (arith, i.short, j.short, k.short, length-append (flat i.res) (flat j.res ++ (flat k.res ++ [])), length-append (flat j.res) (flat k.res ++ []), length-append (flat k.res) [])

    pub three_kept : (keep : Node ℕ) → left_tree (get_or (nodes sheet a₀) c []) 0 (ty sheet a₀ (at r 0)) (X.tree ∷ Y.tree ∷ Z.tree ∷ []) ≡ keep
        → Is sheet a₀ (suc d) (suc (p + q + s)) a l (out Z.rows keep) (left_of w.words w.log (length l) c 0 (at r 0))
    unfolding flats trees_of
    three_kept keep e =
        is_as sheet a₀
        (left_is sheet a₀ d (suc (p + q + s)) (omega arith) a l w.words room k.hold (record { top = omega (arith, i.top, j.top, k.top); few = omega (arith, i.few, j.few, k.few) })
        w.log (rcons i.res (rcons j.res (rcons k.res rnil))) three_log three_short (whole_more i.whole (whole_more j.whole (whole_more k.whole whole_none)))
        c 0 (at r 0) typed su keep
        (ap (left_tree (get_or (nodes sheet a₀) c []) 0 (ty sheet a₀ (at r 0))) (ap₂ (λ (t : Node ℕ) (v : List (Node ℕ)). t ∷ v) i.tree (ap₂ (λ (t v : Node ℕ). t ∷ v ∷ []) j.tree k.tree)) ∙ e))
        (ap (λ (R : List Row). out R keep) k.rows)

  module _ {d p q s : ℕ} {a l : List ℕ} {X : Out} {o : O} (deep : d ≤ 64) (i : Is sheet a₀ d p a l X o) (f : Rec) (x y : ℕ) (K L : List Row → Out)
      (P : List Row → Type 0) (g : Works m sheet a₀ P d q f x K) (h : Works m sheet a₀ P d s f y L) (good : P X.rows) (then-good : P (K X.rows).rows)
      (c : ℕ) (r : List ℕ) (typed : at r 0 < length (tys sheet a₀)) (room : Room (suc (p + q + s)) a l) (su : suits (get_or (nodes sheet a₀) c []) 3 ≡ true)
      (keep : (t u v : Node ℕ) → left_tree (get_or (nodes sheet a₀) c []) 0 (ty sheet a₀ (at r 0)) (t ∷ u ∷ v ∷ []) ≡ ite (ty sheet a₀ (at r 0)) t u v) where
    second : Is sheet a₀ d q o.words o.log (K X.rows) (f o.words o.log x)
    second = then_more m sheet a₀ i (suc (p + q + s)) room (omega arith) P good q f x K (omega arith) g

    third : Is sheet a₀ d s (f o.words o.log x).words (f o.words o.log x).log (L (K X.rows).rows) (f (f o.words o.log x).words (f o.words o.log x).log y)
    third =
        works_on m sheet a₀ P f y L h second.hold then-good
        (record {
          top = omega (arith, room.top, i.top, second.top);
          few = omega (arith, room.few, i.few, second.few);
          log = omega (arith, room.log, ap length i.log, length-append l (flat i.res), i.short, ap length second.log, length-append o.log (flat second.res), second.short);
        })
        second.rows

    go : (z : Class) → Is sheet a₀ (suc d) (suc (p + q + s)) a l (n_if (ty sheet a₀ (at r 0)) X K L z) (branch_by f (length l) c (at r 0) x y o z)
    unfolding branch_by split_of
    go ctrue = then_on m sheet a₀ i (suc (p + q + s)) room (omega arith) P good q f x K (omega arith) g
    go cfalse = then_on m sheet a₀ i (suc (p + q + s)) room (omega arith) P good s f y L (omega arith) h
    go cerror = then_err m sheet a₀ i (suc (p + q + s)) room (omega arith) (at r 0) typed
    go copen = three_kept i second third c r typed room su (ite (ty sheet a₀ (at r 0)) X.tree (K X.rows).tree (L (K X.rows).rows).tree) (keep _ _ _)

    pub if_is : (S : Schema) (N : NEnv) → Is sheet a₀ (suc d) (suc (p + q + s)) a l (then_if S N (ty sheet a₀ (at r 0)) X K L) (branch_of f (length l) c (at r 0) x y o)
    unfolding branch_of
    if_is S N = rw (class_is m sheet a₀ deep i) (go (n_class X))

-- The run over the policies: words, log, classes and where each policy's block ends. Assumes nothing.
use mathlib.Core.Path.{◌≡◌, refl, sym, ◌∙◌, ap, ap₂, subst}
use mathlib.Core.List.{List, [], ◌∷◌, ◌++◌, append_assoc, append-nil}
use Prim.Native.Nat.{ℕ, suc, ◌+◌, ◌*◌, ◌≤◌}
use native.Mathlib.Omega.{arith}
use lib.ListN.{length, get_or, drop, length-append}
use Rattle.cedar.specs.Types.{tbool}
use Rattle.cedar.specs.Residual.{Node, err, Class}
use Rattle.cedar.specs.Response.{Effect}
use Rattle.cedar.specs.Rows.{Row}
use Rattle.cedar.specs.Numbered.{Out, n_interpret}
use Rattle.cedar.specs.Runs.{NVerdict, Run, n_run, then_run}
use Rattle.sheet.specs.Forms.{Mode, at}
use Rattle.sheet.specs.Content.{numbered_policies, effect_of}
use Rattle.sheet.specs.Answer.{size}
use Rattle.sheet.proofs.running.MadeCount.{policy_sizes}
use Rattle.sheet.proofs.content.OnTerm.{Each, none, more}
use Rattle.table.specs.Layout.{RUN, rows_of}
use Rattle.residual.specs.Trees.{Ress, rnil, rcons, flat, flats, trees_of, Wholes, whole_none, whole_more}
use Rattle.residual.proofs.Meaning.{rows_are}
use Rattle.tpe.specs.Run.{O, Rec, Line, Ran, then_ran, ran_from}
use Rattle.tpe.proofs.Stands.{Hold, values, Room, tys, nodes, Is, drop_here}
use Rattle.tpe.proofs.Operations.{sch, env}
use Rattle.tpe.proofs.Logic.{Works, class_is}

-- the trees under the roots
abbrev pub roots_of : List NVerdict → List (Node ℕ)
roots_of [] = []
roots_of (v ∷ vs) = v.root ∷ roots_of vs

-- the classes, and the ends of blocks that begin at word e: a row has four words
abbrev pub lines_for : ℕ → List NVerdict → List Line
lines_for e [] = []
lines_for e (v ∷ vs) = record { class = v.class; end = e + 4 * size v.root } ∷ lines_for (e + 4 * size v.root) vs

module _ (m : Mode) (sheet a₀ : List ℕ) where
  -- what a run leaves is what the numbered run leaves
  pub record RunIs (d : ℕ) (l : List ℕ) (x : Run) (r : Ran) : Type 0 where
    pub ress : Ress
    pub log : r.log ≡ l ++ flats ress
    pub trees : trees_of (tys sheet a₀) (nodes sheet a₀) ress ≡ roots_of x.lines
    pub wholes : Wholes (tys sheet a₀) (nodes sheet a₀) d ress
    pub rows : values r.words ≡ x.rows
    pub hold : Hold a₀ r.words
    pub lines : r.lines ≡ lines_for (length l) x.lines

  -- one policy, then the others
  module _ {d n : ℕ} {a l : List ℕ} {X : Out} {o : O} (deep : d ≤ 64) (i : Is sheet a₀ d n a l X o) where
    end_is : length o.log ≡ length l + 4 * size X.tree
    end_is =
        let z : length (flat i.res) ≡ 4 * size X.tree = rows_are (tys sheet a₀) (nodes sheet a₀) i.res i.whole ∙ ap (λ (t : Node ℕ). 4 * size t) i.tree in
        ap length i.log ∙ length-append l (flat i.res) ∙ ap (λ (x : ℕ). length l + x) z

    then_run_law : (e : Effect) (K : List Row → Run) (k : List ℕ → List ℕ → Ran) → RunIs d o.log (K X.rows) (k o.words o.log) → RunIs d l (then_run (sch m sheet a₀) (env m sheet a₀) e X K) (then_ran o k)
    unfolding flats trees_of
    then_run_law e K k t = record {
      ress = rcons i.res t.ress;
      log = t.log ∙ ap (λ (z : List ℕ). z ++ flats t.ress) i.log ∙ append_assoc l (flat i.res) (flats t.ress);
      trees = ap₂ (λ (y : Node ℕ) (ys : List (Node ℕ)). y ∷ ys) i.tree t.trees;
      wholes = whole_more i.whole t.wholes;
      rows = t.rows;
      hold = t.hold;
      lines =
          ap₂ (λ (y : Line) (ys : List Line). y ∷ ys)
          (ap₂ (λ (c : Class) (z : ℕ). record { class = c; end = z }) (class_is m sheet a₀ deep i) end_is)
          (t.lines ∙ ap (λ (z : ℕ). lines_for z (K X.rows).lines) end_is);
    }

  -- trs and f by the two values of a policy's link
  module _ (trs : ℕ → ℕ → List (Node ℕ)) (P : List Row → Type 0) (d : ℕ) (deep : d ≤ 64) (f : ℕ → ℕ → Rec) where
    -- the tree of a policy's row, and what works its node
    abbrev policy_tree : List ℕ → Node ℕ
    policy_tree r = get_or (trs (at r 3) (at r 4)) (at r 2) (err tbool)

    abbrev worked : List ℕ → List ℕ → List ℕ → O
    worked r a l = f (at r 3) (at r 4) a l (at r 2)

    -- the node of a policy works, and keeps P
    abbrev pub PolicyWorks : List ℕ → Type 0
    PolicyWorks r =
        Works m sheet a₀ P d (size (policy_tree r)) (f (at r 3) (at r 4)) (at r 2) (n_interpret (sch m sheet a₀) (env m sheet a₀) (policy_tree r))
        × ((R : List Row) → P R → P (n_interpret (sch m sheet a₀) (env m sheet a₀) (policy_tree r) R).rows)

    abbrev out_at : List ℕ → List ℕ → Out
    out_at r a = n_interpret (sch m sheet a₀) (env m sheet a₀) (policy_tree r) (values a)

    -- the policies rs, of which the first is number i of those that run
    pub ran_is : (rs : List (List ℕ)) → Each PolicyWorks rs → (i : ℕ) → drop i (rows_of a₀ RUN) ≡ rs → (a l : List ℕ) → Hold a₀ a → P (values a) → Room (policy_sizes (numbered_policies trs rs)) a l
        → RunIs d l (n_run (sch m sheet a₀) (env m sheet a₀) (numbered_policies trs rs) (values a)) (ran_from f i (length rs) a l)
    unfolding ran_from flats trees_of
    ran_is [] none i z a l h good room = record { ress = rnil; log = sym (append-nil l); trees = refl; wholes = whole_none; rows = refl; hold = h; lines = refl }
    ran_is (r ∷ rs) (more w ws) i z a l h good room =
        let e : get_or (rows_of a RUN) i [] ≡ r = ap (λ (q : List (List ℕ)). get_or q i []) (h.same RUN (omega arith)) ∙ (drop_here [] (rows_of a₀ RUN) i r rs z).0 in
        subst (λ (q : List ℕ). RunIs d l (n_run (sch m sheet a₀) (env m sheet a₀) (numbered_policies trs (r ∷ rs)) (values a)) (then_ran (worked q a l) (ran_from f (suc i) (length rs)))) (sym e)
        (go (w.0 a l h good (record { top = omega (arith, room.top); few = omega (arith, room.few); log = omega (arith, room.log) }))
        (λ b j k p e. ran_is rs ws (suc i) (drop_here [] (rows_of a₀ RUN) i r rs z).1 b j k p e))
      where
        go : Is sheet a₀ d (size (policy_tree r)) a l (out_at r a) (worked r a l)
            → ((b j : List ℕ) → Hold a₀ b → P (values b) → Room (policy_sizes (numbered_policies trs rs)) b j → RunIs d j (n_run (sch m sheet a₀) (env m sheet a₀) (numbered_policies trs rs) (values b)) (ran_from f (suc i) (length rs) b j))
            → RunIs d l (then_run (sch m sheet a₀) (env m sheet a₀) (effect_of (at r 1)) (out_at r a) (n_run (sch m sheet a₀) (env m sheet a₀) (numbered_policies trs rs))) (then_ran (worked r a l) (ran_from f (suc i) (length rs)))
        go x ih = then_run_law deep x (effect_of (at r 1)) (n_run (sch m sheet a₀) (env m sheet a₀) (numbered_policies trs rs)) (ran_from f (suc i) (length rs))
            (subst (λ (R : List Row). RunIs d (worked r a l).log (n_run (sch m sheet a₀) (env m sheet a₀) (numbered_policies trs rs) R) (ran_from f (suc i) (length rs) (worked r a l).words (worked r a l).log)) x.rows
            (ih (worked r a l).words (worked r a l).log x.hold (subst P (sym x.rows) (w.1 (values a) good))
            (record {
              top = omega (arith, room.top, x.top);
              few = omega (arith, room.few, x.few);
              log = omega (arith, room.log, ap length x.log, length-append l (flat x.res), x.short);
            })))

-- The run over words yields what `eval` of the Cedar specification gives each tree, node by node and policy by policy. Assumes nothing.
use mathlib.Core.Path.{◌≡◌, refl, sym, ◌∙◌, ap, subst}
use mathlib.Core.List.{List, [], ◌∷◌, ◌++◌, append_assoc, append-nil}
use Prim.Native.Nat.{ℕ, zero, suc, ◌+◌, ◌-◌, ◌*◌, ◌≤◌}
use native.Mathlib.Omega.{arith}
use lib.ListN.{length, get_or, drop, length-append}
use Rattle.words.specs.Log.{pushed}
use Rattle.words.proofs.Logs.{appended_is}
use Rattle.cedar.specs.Value.{Value as Content, Result}
use Rattle.cedar.specs.Types.{Ty, tbool}
use Rattle.cedar.specs.Residual.{Node, Nodes, NodeArgs, Expr, lit, err, var, and, or, ite, un, bin, rel, get, has, haspath, set, rec, unot, uneg, uempty, uis, ulike, beq, blt, ble, badd, bsub, bmul, bcontains, ball, bany, rin, rgettag, rhastag, truth}
use Rattle.cedar.specs.Entities.{Env}
use Rattle.cedar.specs.Evaluate.{eval}
use Rattle.cedar.specs.Runs.{Policy, NPolicy, result_class, complete_answer}
use Rattle.cedar.specs.Reads.{Reads, xerr, ReadPolicies, done, also}
use Rattle.cedar.proofs.ReadsLaws.{Keeps, keep_reads, row_denotes, on_bool_law}
use Rattle.sheet.specs.Forms.{tag, items, at, first_node, NODE}
use Rattle.sheet.specs.Content.{var_of, pattern_of, types, effect_of, linked}
use Rattle.sheet.specs.Answer.{size}
use Rattle.sheet.proofs.running.MadeCount.{policy_sizes}
use Rattle.table.specs.Layout.{RUN, rows_of, held}
use Rattle.residual.specs.Classes.{class_number}
use Rattle.tpe.proofs.Stands.{Hold, Room}
use Rattle.evaluator.specs.Run.{Yield, failed, E, Rec, Step, yields, node_in, policy_in, steps, err_step, step_at, step_of, eval_of, class_of, class_numbers, Ran, ran_from}
use Rattle.evaluator.proofs.Ways.{under}
use Rattle.evaluator.proofs.Gives.{Says, says_value, says_error, Stand, Gives, is_error_law, some_room, rest_room}
use Rattle.evaluator.proofs.Steps.{sch, Meets, lit_meets, slot_meets, err_meets, var_meets, un_meets, get_meets, has_meets, path_meets, bin_meets, rel_meets, and_meets, or_meets, if_meets}
use Rattle.evaluator.proofs.Many.{kids_with, args_with, set_meets, rec_meets}

-- ---- the tree under a node, to a depth

-- one tree for each operation, in the table's order; sl is what stands for a slot
abbrev pub trees_of : (Ty → ℕ → Node ℕ) → (ℕ → Node ℕ) → List ℕ → Ty → Nodes ℕ → NodeArgs ℕ → List (Node ℕ)
trees_of sl t r T ks gs =
    lit T (at r 1) ∷ err T ∷ var T (var_of (at r 1)) ∷ and T (t (at r 1)) (t (at r 2)) ∷ or T (t (at r 1)) (t (at r 2))
    ∷ bin T beq (t (at r 1)) (t (at r 2)) ∷ bin T blt (t (at r 1)) (t (at r 2)) ∷ bin T ble (t (at r 1)) (t (at r 2))
    ∷ bin T badd (t (at r 1)) (t (at r 2)) ∷ bin T bsub (t (at r 1)) (t (at r 2)) ∷ bin T bmul (t (at r 1)) (t (at r 2))
    ∷ rel T rin (t (at r 1)) (t (at r 2)) ∷ rel T rgettag (t (at r 1)) (t (at r 2)) ∷ rel T rhastag (t (at r 1)) (t (at r 2))
    ∷ bin T bcontains (t (at r 1)) (t (at r 2)) ∷ bin T ball (t (at r 1)) (t (at r 2)) ∷ bin T bany (t (at r 1)) (t (at r 2))
    ∷ ite T (t (at r 1)) (t (at r 2)) (t (at r 3))
    ∷ un T (uis (at r 2)) (t (at r 1)) ∷ un T (ulike (pattern_of (drop 2 (items r)))) (t (at r 1))
    ∷ get T (t (at r 1)) (at r 2) ∷ has T (t (at r 1)) (at r 2) ∷ haspath T (t (at r 1)) (at r 2) (drop 3 (items r))
    ∷ un T unot (t (at r 1)) ∷ un T uneg (t (at r 1)) ∷ un T uempty (t (at r 1))
    ∷ set T ks ∷ rec T gs ∷ sl T (at r 1) ∷ []

abbrev pub trees_with : (Ty → ℕ → Node ℕ) → (ℕ → Node ℕ) → List ℕ → Ty → List (Node ℕ)
trees_with sl t r T = trees_of sl t r T (kids_with t (drop 1 (items r))) (args_with t (drop 1 (items r)))

abbrev pub tree_with : List Ty → (Ty → ℕ → Node ℕ) → (ℕ → Node ℕ) → List ℕ → Node ℕ
tree_with ts sl t r = get_or (trees_with sl t r (get_or ts (at r 0) tbool)) (tag r - first_node) (err tbool)

-- the tree of node n, of which d levels are there
unfoldable pub tree_at : List Ty → (Ty → ℕ → Node ℕ) → List (List ℕ) → ℕ → ℕ → Node ℕ
tree_at ts sl rows zero n = err tbool
tree_at ts sl rows (suc d) n = tree_with ts sl (tree_at ts sl rows d) (get_or rows n [])

-- under a link with the values p and q
abbrev pub linked_at : List Ty → List (List ℕ) → ℕ → ℕ → ℕ → ℕ → Node ℕ
linked_at ts rows p q = tree_at ts (linked (λ n. n) p q) rows

-- policies whose trees, each under its link, are there to the depth of the run
abbrev pub policies_at : List Ty → List (List ℕ) → List (List ℕ) → List NPolicy
policies_at ts rows [] = []
policies_at ts rows (r ∷ rs) = record { effect = effect_of (at r 1); tree = linked_at ts rows (at r 3) (at r 4) 64 (at r 2) } ∷ policies_at ts rows rs

here : {A : Type 0} (l : List A) (i : ℕ) (d : A) {x : A} {xs : List A} → drop i l ≡ x ∷ xs → get_or l i d ≡ x
here [] zero d e = let z : ◌≡◌ {A = ℕ} 0 1 = cc in absurd (omega arith)
here [] (suc i) d e = let z : ◌≡◌ {A = ℕ} 0 1 = cc in absurd (omega arith)
here (y ∷ l) zero d e = cc
here (y ∷ l) (suc i) d e = here l i d e

further : {A : Type 0} (l : List A) (i : ℕ) {x : A} {xs : List A} → drop i l ≡ x ∷ xs → drop (suc i) l ≡ xs
further [] zero e = let z : ◌≡◌ {A = ℕ} 0 1 = cc in absurd (omega arith)
further [] (suc i) e = let z : ◌≡◌ {A = ℕ} 0 1 = cc in absurd (omega arith)
further (y ∷ l) zero e = cc
further (y ∷ l) (suc i) e = further l i e

module _ (sheet a₀ : List ℕ) (G : Env) where
  -- steps beside trees
  data Pairs (f : Rec) (m : ℕ) (r : List ℕ) : List Step → List (Node ℕ) → Type 0 where
    pair_none : Pairs f m r [] []
    pair : {s : Step} {e : Node ℕ} {ss : List Step} {es : List (Node ℕ)} → Meets sheet a₀ G (λ a l. s f a l m r) e → Pairs f m r ss es → Pairs f m r (s ∷ ss) (e ∷ es)

  nth_pair : {f : Rec} {m : ℕ} {r : List ℕ} {ss : List Step} {es : List (Node ℕ)} → Pairs f m r ss es → (i : ℕ) → Meets sheet a₀ G (λ a l. get_or ss i (err_step) f a l m r) (get_or es i (err tbool))
  nth_pair {f} {m} {r} pair_none i = err_meets sheet a₀ G f m r tbool
  nth_pair (pair k p) zero = k
  nth_pair (pair k p) (suc i) = nth_pair p i

  module _ (f : Rec) (t : ℕ → Node ℕ) (i : (x : ℕ) → Meets sheet a₀ G (λ a l. f a l x) (t x)) (m : ℕ) (r : List ℕ) (er : node_in a₀ m ≡ r) (T : Ty) (p q : ℕ) where
    all_pairs : Pairs f m r (steps sheet p q) (trees_with (linked (λ n. n) p q) t r T)
    all_pairs =
        let x = i (at r 1) in
        let y = i (at r 2) in
        let z = i (at r 3) in
        pair (lit_meets sheet a₀ G f m r T) (pair (err_meets sheet a₀ G f m r T) (pair (var_meets sheet a₀ G f m r T)
        (pair (and_meets sheet a₀ G f m r er x y T) (pair (or_meets sheet a₀ G f m r er x y T)
        (pair (bin_meets sheet a₀ G f m r er x y beq T) (pair (bin_meets sheet a₀ G f m r er x y blt T) (pair (bin_meets sheet a₀ G f m r er x y ble T)
        (pair (bin_meets sheet a₀ G f m r er x y badd T) (pair (bin_meets sheet a₀ G f m r er x y bsub T) (pair (bin_meets sheet a₀ G f m r er x y bmul T)
        (pair (rel_meets sheet a₀ G f m r er x y rin T) (pair (rel_meets sheet a₀ G f m r er x y rgettag T) (pair (rel_meets sheet a₀ G f m r er x y rhastag T)
        (pair (bin_meets sheet a₀ G f m r er x y bcontains T) (pair (bin_meets sheet a₀ G f m r er x y ball T) (pair (bin_meets sheet a₀ G f m r er x y bany T)
        (pair (if_meets sheet a₀ G f m r er x y z T)
        (pair (un_meets sheet a₀ G f m r er x (λ u. uis (at u 2)) T) (pair (un_meets sheet a₀ G f m r er x (λ u. ulike (pattern_of (drop 2 (items u)))) T)
        (pair (get_meets sheet a₀ G f m r er x T) (pair (has_meets sheet a₀ G f m r er x T) (pair (path_meets sheet a₀ G f m r er x T)
        (pair (un_meets sheet a₀ G f m r er x (λ u. unot) T) (pair (un_meets sheet a₀ G f m r er x (λ u. uneg) T) (pair (un_meets sheet a₀ G f m r er x (λ u. uempty) T)
        (pair (set_meets sheet a₀ G f t i m r er T) (pair (rec_meets sheet a₀ G f t i m r er T) (pair (slot_meets sheet a₀ G f m r p q T) pair_none))))))))))))))))))))))))))))

  abbrev tys : List Ty
  tys = types (held sheet a₀ [])

  abbrev nodes : List (List ℕ)
  nodes = rows_of a₀ NODE

  -- every node, at every depth, under every link
  pub meets : (p q d n : ℕ) → Meets sheet a₀ G (λ a l. eval_of sheet p q d a l n) (linked_at tys nodes p q d n)
  unfolding eval_of step_of step_at tree_at
  meets p q zero n = record { run = λ a l C X s room h. zero_gives a l C X s room h }
    where
      zero_gives : (a l : List ℕ) (C : List Content) (X : Expr) → Stand sheet a₀ G C a → Room 1 a l → Reads C (err tbool) X → Gives sheet a₀ G C 1 a (yields a failed) (eval (sch sheet a₀ G) G X)
      zero_gives a l C X s room xerr = is_error_law sheet a₀ G C C 1 a l room (omega arith) a (λ n x e. e) s (record { top = omega arith; few = omega arith })
  meets p q (suc d) n = record {
    run = λ a l C X s room h. rw (s.hold.same NODE (omega arith))
        ((nth_pair (all_pairs (eval_of sheet p q d) (linked_at tys nodes p q d) (meets p q d) n (get_or nodes n []) refl (get_or tys (at (get_or nodes n []) 0) tbool) p q) (tag (get_or nodes n []) - first_node)).run a l C X s room h);
  }

  -- ---- the policies in order

  pub class_is : {C : List Content} {a : List ℕ} {y : Yield} {r : Result} → Stand sheet a₀ G C a → Says C y r → class_of a y ≡ result_class r
  unfolding class_of
  class_is s (says_value h) = on_bool_law ◌≡◌ refl truth truth (row_denotes s.table h) (λ b. refl)
  class_is s says_error = refl

  keep_policies : {C D : List Content} → Keeps C D → (rs : List (List ℕ)) {ps : List Policy} → ReadPolicies C (policies_at tys nodes rs) ps → ReadPolicies D (policies_at tys nodes rs) ps
  keep_policies k [] done = done
  keep_policies k (r ∷ rs) (also q h) = also (keep_reads k q) (keep_policies k rs h)

  -- row i of the policies that run, which are rs from there on
  policy_here : (a : List ℕ) → Hold a₀ a → (i : ℕ) {r : List ℕ} {rs : List (List ℕ)} → drop i (rows_of a₀ RUN) ≡ r ∷ rs → policy_in a i ≡ r
  policy_here a h i e = ap (λ (rows : List (List ℕ)). get_or rows i []) (h.same RUN (omega arith)) ∙ here (rows_of a₀ RUN) i [] e

  -- what a policy's row yields by f under its link
  abbrev root_by : (ℕ → ℕ → Rec) → List ℕ → List ℕ → List ℕ → E
  root_by f a l r = f (at r 3) (at r 4) a l (at r 2)

  ran_step : (f : ℕ → ℕ → Rec) (k i : ℕ) (a l r : List ℕ) (c : ℕ) → policy_in a i ≡ r → class_number (class_of (root_by f a l r).words (root_by f a l r).yield) ≡ c
      → ran_from f (suc k) i a l ≡ ran_from f k (suc i) (root_by f a l r).words (pushed l c)
  unfolding ran_from
  ran_step f k i a l r c e g =
      ap (λ (q : List ℕ). ran_from f k (suc i) (root_by f a l q).words (pushed l (class_number (class_of (root_by f a l q).words (root_by f a l q).yield)))) e
      ∙ ap (λ (n : ℕ). ran_from f k (suc i) (root_by f a l r).words (pushed l n)) g

  -- the sheet's rows stay, and the log has these words more
  pub record Runs (l cs : List ℕ) (t : Ran) : Type 0 where
    pub hold : Hold a₀ t.words
    pub log : t.log ≡ l ++ cs

  -- the numbers of the classes of the complete answer
  pub run_is : (rs : List (List ℕ)) {ps : List Policy} (i : ℕ) (a l : List ℕ) (C : List Content) → drop i (rows_of a₀ RUN) ≡ rs → Stand sheet a₀ G C a
      → Room (policy_sizes (policies_at tys nodes rs)) a l → length l + length rs + 6 * policy_sizes (policies_at tys nodes rs) ≤ 16384 → ReadPolicies C (policies_at tys nodes rs) ps
      → Runs l (class_numbers (complete_answer (sch sheet a₀ G) G ps)) (ran_from (under sheet) (length rs) i a l)
  unfolding ran_from
  run_is [] i a l C e s room fits done = record { hold = s.hold; log = sym (append-nil l) }
  run_is (r ∷ rs) i a l C e s room fits (also {A = X} q h) =
      let n : ℕ = size (linked_at tys nodes (at r 3) (at r 4) 64 (at r 2)) in
      let m : ℕ = policy_sizes (policies_at tys nodes rs) in
      let k = (meets (at r 3) (at r 4) 64 (at r 2)).run a l C X s (some_room sheet a₀ G n (n + m) a l room (omega arith)) q in
      let c : ℕ = class_number (result_class (eval (sch sheet a₀ G) G X)) in
      let z = rest_room sheet a₀ G k m (n + m) l room (omega arith) in
      let len = length-append l (c ∷ []) in
      let rest = run_is rs (suc i) (root_by (under sheet) a l r).words (l ++ (c ∷ [])) k.contents (further (rows_of a₀ RUN) i e) k.stand
      (record { top = z.top; few = z.few; log = omega (arith, fits, len) }) (omega (arith, fits, len)) (keep_policies k.keeps rs h) in
      subst (Runs l _)
      (sym (ran_step (under sheet) (length rs) i a l r c (policy_here a s.hold i e) (ap class_number (class_is k.stand k.says))
      ∙ ap (ran_from (under sheet) (length rs) (suc i) (root_by (under sheet) a l r).words) (appended_is l (c ∷ []) (omega (arith, fits)))))
      (record { hold = rest.hold; log = rest.log ∙ append_assoc l (c ∷ []) _ })

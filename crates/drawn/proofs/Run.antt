-- The run on a test load: each policy is true, false or open as its tree was drawn; no policy is an error, and no value is made.
use mathlib.Core.Path.{◌≡◌, refl, sym, ◌∙◌, ap, ap₂}
use mathlib.Core.Bool.{Bool, true, false, ◌&&◌, ◌||◌}
use mathlib.Core.List.{List, [], ◌∷◌, ◌++◌, append_assoc, append-nil}
use Prim.Native.Nat.{ℕ, zero, suc, ◌+◌, ◌≤◌}
use lib.ListN.{length, get_or}
use lib.Seq.{get_or_at}
use Rattle.cedar.specs.Types.{Ty, tbool, tstr, trec, anil, acons, context}
use Rattle.cedar.specs.Residual.{star, Node, lit, err, var, get, un, ulike, Class, ctrue, cfalse, copen}
use Rattle.cedar.specs.Response.{Effect, any_line}
use Rattle.cedar.specs.Rows.{Row, rbool}
use Rattle.cedar.specs.Runs.{NPolicy, NVerdict, n_run, verdicts}
use Rattle.sheet.specs.Forms.{partial, mark}
use Rattle.sheet.specs.Sheet.{read}
use Rattle.sheet.specs.Content.{types, value_rows, schema, trees, trees_from, linked, on_term, running, runs_on, link_of, n_policies, numbered_policies, effect_of, n_env}
use Rattle.sheet.specs.Answer.{is_error, run}
use Rattle.drawn.specs.TestLoad.{Drawn, drawn, nodes_in, root_after, load}
use Rattle.drawn.proofs.Nodes.{one_longer, longer, thrice, rows_in, rows_of}
use Rattle.drawn.proofs.Policies.{at_third, effect_number, policy_rows_of}
use Rattle.drawn.proofs.Accepted.{state_of, load_read}

-- ---- trees

abbrev pub context_type : Ty
context_type = trec (acons 4 true tstr anil)

abbrev pub the_types : List Ty
the_types = tbool ∷ tstr ∷ trec anil ∷ context_type ∷ []

abbrev any_name : Node ℕ
any_name = get tstr (var context_type context) 4

-- a drawn tree
abbrev pub tree_as : ℕ → Node ℕ
tree_as zero = lit tbool 1
tree_as (suc zero) = lit tbool 0
tree_as (suc (suc k)) = un tbool (ulike (star ∷ [])) any_name

-- with those of its nodes before it
abbrev trees_in : ℕ → List (Node ℕ)
trees_in zero = tree_as zero ∷ []
trees_in (suc zero) = tree_as (suc zero) ∷ []
trees_in (suc (suc k)) = var context_type context ∷ any_name ∷ tree_as (suc (suc k)) ∷ []

abbrev trees_of : List Drawn → List (Node ℕ)
trees_of [] = []
trees_of (d ∷ ds) = trees_in d.tree ++ trees_of ds

trees_many : (k : ℕ) → length (trees_in k) ≡ nodes_in k
trees_many zero = refl
trees_many (suc zero) = refl
trees_many (suc (suc k)) = refl

module _ (p q : ℕ) where
  abbrev from : List (Node ℕ) → List (List ℕ) → List (Node ℕ)
  from = trees_from the_types (λ n. n) (linked (λ n. n) p q)

  tree_from : (k m : ℕ) (acc : List (Node ℕ)) (r : List (List ℕ)) → length acc ≡ m → from acc (rows_in m k ++ r) ≡ from (acc ++ trees_in k) r
  tree_from zero m acc r e = refl
  tree_from (suc zero) m acc r e = refl
  tree_from (suc (suc k)) m acc r e =
      let v = var context_type context in
      let one = one_longer acc v m e in
      ap (λ x. from (((acc ++ (v ∷ [])) ++ (get tstr x 4 ∷ [])) ++ (un tbool (ulike (star ∷ [])) (get_or ((acc ++ (v ∷ [])) ++ (get tstr x 4 ∷ [])) (suc m) (err tbool)) ∷ [])) r) (get_or_at acc v [] (err tbool) m e)
      ∙ ap (λ x. from (((acc ++ (v ∷ [])) ++ (any_name ∷ [])) ++ (un tbool (ulike (star ∷ [])) x ∷ [])) r) (get_or_at (acc ++ (v ∷ [])) any_name [] (err tbool) (suc m) one)
      ∙ ap (λ l. from l r) (thrice acc v any_name (tree_as (suc (suc k))))

  trees_from_law : (ds : List Drawn) (m : ℕ) (acc : List (Node ℕ)) → length acc ≡ m → from acc (rows_of m ds) ≡ acc ++ trees_of ds
  trees_from_law [] m acc e = sym (append-nil acc)
  trees_from_law (d ∷ ds) m acc e = tree_from d.tree m acc (rows_of (m + nodes_in d.tree) ds) e
      ∙ trees_from_law ds (m + nodes_in d.tree) (acc ++ trees_in d.tree) (longer acc (trees_in d.tree) m (nodes_in d.tree) e (trees_many d.tree))
      ∙ append_assoc acc (trees_in d.tree) (trees_of ds)

root_tree : (k m : ℕ) (l a r : List (Node ℕ)) → length a ≡ m → l ≡ a ++ (trees_in k ++ r) → get_or l (root_after m k) (err tbool) ≡ tree_as k
root_tree zero m l a r e q = ap (λ l. get_or l m (err tbool)) q ∙ get_or_at a (tree_as zero) r (err tbool) m e
root_tree (suc zero) m l a r e q = ap (λ l. get_or l m (err tbool)) q ∙ get_or_at a (tree_as (suc zero)) r (err tbool) m e
root_tree (suc (suc k)) m l a r e q = ap (λ l. get_or l (suc (suc m)) (err tbool)) q ∙ at_third a r (var context_type context) any_name (tree_as (suc (suc k))) (err tbool) m e

-- ---- policies

abbrev policies_of : List Drawn → List NPolicy
policies_of [] = []
policies_of (d ∷ ds) = record { effect = effect_of (effect_number d.effect); tree = tree_as d.tree } ∷ policies_of ds

policies_from : (f : ℕ → ℕ → List (Node ℕ)) (ds : List Drawn) (i m : ℕ) (a : List (Node ℕ)) → length a ≡ m → f mark mark ≡ a ++ trees_of ds
    → numbered_policies f (running (runs_on 20000101 []) (link_of []) i (policy_rows_of i m ds)) ≡ policies_of ds
policies_from f [] i m a e q = refl
policies_from f (d ∷ ds) i m a e q =
    let k = d.tree in
    ap₂ (λ T ps. record { effect = effect_of (effect_number d.effect); tree = T } ∷ ps) (root_tree k m (f mark mark) a (trees_of ds) e q)
    (policies_from f ds (suc i) (m + nodes_in k) (a ++ trees_in k) (longer a (trees_in k) m (nodes_in k) e (trees_many k)) (q ∙ sym (append_assoc a (trees_in k) (trees_of ds))))

the_policies : (ds : List Drawn) → n_policies (state_of ds) ≡ policies_of ds
unfolding n_policies on_term trees types
the_policies ds = policies_from (trees (state_of ds)) ds 0 0 [] refl (trees_from_law mark mark ds 0 [] refl)

-- ---- the run

abbrev pub class_as : ℕ → Class
class_as zero = ctrue
class_as (suc zero) = cfalse
class_as (suc (suc k)) = copen

-- "0 permit", else forbid; true, false or open; and the tree is left as it was
abbrev pub lines_as : List Drawn → List NVerdict
lines_as [] = []
lines_as (d ∷ ds) = record { effect = effect_of (effect_number d.effect); class = class_as d.tree; root = tree_as d.tree } ∷ lines_as ds

abbrev pub the_rows : List Row
the_rows = rbool false ∷ rbool true ∷ []

module _ (s : List Drawn) where
  run_from : (ds : List Drawn) → n_run (schema (state_of s)) (n_env partial (state_of s)) (policies_of ds) the_rows ≡ record { rows = the_rows; lines = lines_as ds }
  unfolding n_env
  run_from [] = refl
  run_from (d ∷ ds) = go d.tree (run_from ds)
    where
      go : (k : ℕ) → n_run (schema (state_of s)) (n_env partial (state_of s)) (policies_of ds) the_rows ≡ record { rows = the_rows; lines = lines_as ds }
          → n_run (schema (state_of s)) (n_env partial (state_of s)) (record { effect = effect_of (effect_number d.effect); tree = tree_as k } ∷ policies_of ds) the_rows
          ≡ record { rows = the_rows; lines = record { effect = effect_of (effect_number d.effect); class = class_as k; root = tree_as k } ∷ lines_as ds }
      go zero h = ap (λ r. record { rows = r.rows; lines = record { effect = effect_of (effect_number d.effect); class = ctrue; root = tree_as zero } ∷ r.lines }) h
      go (suc zero) h = ap (λ r. record { rows = r.rows; lines = record { effect = effect_of (effect_number d.effect); class = cfalse; root = tree_as (suc zero) } ∷ r.lines }) h
      go (suc (suc k)) h = ap (λ r. record { rows = r.rows; lines = record { effect = effect_of (effect_number d.effect); class = copen; root = tree_as (suc (suc k)) } ∷ r.lines }) h

-- THE RUN ON A TEST LOAD: as drawn
pub load_run : (seed n : ℕ) → n ≤ 64 → run partial (read partial (load seed n)).state ≡ record { rows = the_rows; lines = lines_as (drawn seed n) }
unfolding run value_rows
load_run seed n h = ap (λ x. run partial x.state) (load_read seed n h) ∙ ap (λ ps. n_run (schema (state_of (drawn seed n))) (n_env partial (state_of (drawn seed n))) ps the_rows) (the_policies (drawn seed n)) ∙ run_from (drawn seed n) (drawn seed n)

no_error : (f : Effect → Bool) (ds : List Drawn) → any_line f is_error (verdicts (lines_as ds)) ≡ false
no_error f [] = refl
no_error f (d ∷ ds) = go (f (effect_of (effect_number d.effect))) d.tree (no_error f ds)
  where
    go : (b : Bool) (k : ℕ) {c : Bool} → c ≡ false → ((b && is_error (class_as k)) || c) ≡ false
    go true zero e = e
    go true (suc zero) e = e
    go true (suc (suc k)) e = e
    go false k e = e

-- none of its policies is an error
pub load_no_error : (f : Effect → Bool) (seed n : ℕ) → n ≤ 64 → any_line f is_error (verdicts (run partial (read partial (load seed n)).state).lines) ≡ false
load_no_error f seed n h = ap (λ r. any_line f is_error (verdicts r.lines)) (load_run seed n h) ∙ no_error f (drawn seed n)

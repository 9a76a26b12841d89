-- Over values that read as the sheet's contents with those made, every node's interpretation keeps them so, and all its types have lines.
use mathlib.Core.Path.{◌≡◌}
use mathlib.Core.Bool.{true}
use mathlib.Core.List.{List, []}
use Prim.Native.Nat.{ℕ, ◌<◌}
use lib.ListN.{get_or}
use Rattle.cedar.specs.Value.{Value}
use Rattle.cedar.specs.Types.{tbool}
use Rattle.cedar.specs.Residual.{Node, Expr, err}
use Rattle.cedar.specs.Rows.{Row}
use Rattle.cedar.specs.Table.{Table}
use Rattle.cedar.specs.Reads.{Reads}
use Rattle.cedar.specs.Interpret.{interpret}
use Rattle.cedar.specs.Numbered.{n_interpret}
use Rattle.cedar.specs.Typing.{Typed}
use Rattle.cedar.proofs.ReadsLaws.{Refines, Keeps, keep_reads}
use Rattle.cedar.proofs.ReadsOps.{keep_env}
use Rattle.cedar.proofs.Refine.{refine}
use Rattle.cedar.proofs.TypesKept.{reads_hold, types_kept}
use Rattle.sheet.specs.Forms.{partial, at, NODE}
use Rattle.sheet.specs.State.{State, lines_of, count}
use Rattle.sheet.specs.Typing.{nodes_under, slots_fit}
use Rattle.sheet.specs.Content.{types, contents, content_of, trees, exprs, schema, n_env, p_env, value_rows}
use Rattle.sheet.proofs.reading.Lines.{History}
use Rattle.sheet.proofs.content.ValueRows.{values_table}
use Rattle.sheet.proofs.content.PoliciesRead.{node_reads, every_node}
use Rattle.sheet.proofs.content.Environment.{Facts, env_read, there_value}
use Rattle.sheet.proofs.content.EnvFit.{known_fits}
use Rattle.sheet.proofs.content.TypeNumbers.{Listed, TypesIn, below_listed, hold_from, any_listed}
use Rattle.sheet.proofs.content.OwnPolicies.{lit_there}

-- the rows read as contents that begin with the sheet's
pub record Tabled (s : State) (R : List Row) : Type 0 where
  pub all : List Value
  pub table : Table R all
  pub keeps : Keeps (contents s) all

pub own_tabled : (s : State) → History partial s → Tabled s (value_rows s)
own_tabled s h = record { all = contents s; table = values_table partial s h; keeps = λ n v a. a }

-- node c is there, and a link with the values p and q fits the slots under it
pub record Linked (s : State) (p q c : ℕ) : Type 0 where
  pub there : c < count s NODE
  pub fits : slots_fit s p q (nodes_under s c) ≡ true

module _ (s : State) (f : Facts partial s) (p q : ℕ) where
  abbrev numbered : ℕ → Node ℕ
  numbered c = get_or (trees s p q) c (err tbool)

  abbrev by_content : ℕ → Expr
  by_content c = get_or (exprs s p q) c (err tbool)

  -- every node reads
  own_reads : (c : ℕ) → Linked s p q c → Reads (contents s) (numbered c) (by_content c)
  unfolding trees exprs
  own_reads c k = node_reads partial s f.history (contents s) (types s) (content_of s) (there_value partial s f.history) (lit_there partial s f.history) p q c k.fits

  refined : (c : ℕ) → Linked s p q c → (R : List Row) (t : Tabled s R) → Refines t.all (n_interpret (schema s) (n_env partial s) (numbered c) R) (interpret (schema s) (p_env s) (by_content c))
  refined c k R t = refine (schema s) (n_env partial s) (p_env s) (numbered c) t.table (keep_env t.keeps (env_read s f)) (keep_reads t.keeps (own_reads c k))

  pub keeps_tabled : (c : ℕ) → Linked s p q c → (R : List Row) → Tabled s R → Tabled s (n_interpret (schema s) (n_env partial s) (numbered c) R).rows
  keeps_tabled c k R t = let x = refined c k R t in record { all = x.contents; table = x.table; keeps = λ n v a. x.keeps n v (t.keeps n v a) }

  node_typed : (c : ℕ) → Linked s p q c → Typed (schema s) (by_content c) (get_or (types s) (at (get_or (lines_of s NODE) c []) 0) tbool)
  node_typed c k = every_node partial s f.history p q c k.there k.fits

  pub lists_types : Listed (types s) tbool → (c : ℕ) → Linked s p q c → (R : List Row) → Tabled s R → TypesIn (types s) (n_interpret (schema s) (n_env partial s) (numbered c) R).tree
  unfolding exprs
  lists_types b c k R t =
      reads_hold (Listed (types s)) (refined c k R t).reads
      (types_kept (schema s) (p_env s) (known_fits partial s f) (Listed (types s)) (below_listed partial s f.history) (node_typed c k)
      (hold_from (Listed (types s)) b (types s) (content_of s) p q (any_listed partial s f.history b) (lines_of s NODE) [] (λ n. b) c))

-- What numbers stand for: a numbered tree, policy, request or entity line read as one by content, over the contents of the value rows.
use Rattle.std.specs.Prelude.{◌≡◌, List, [], ◌∷◌, ℕ}
use Rattle.std.proofs.Math.Option.{Option, none, some}
use Rattle.cedar.specs.Value.{Value, vset, vrec, Values, Fields, fnil}
use Rattle.cedar.specs.Canonical.{ascending}
use Rattle.cedar.specs.Types.{Ty, Var}
use Rattle.cedar.specs.Residual.{Node, Nodes, NodeArgs, Expr, Exprs, Args, lit, err, var, and, or, ite, un, bin, rel, get, has, haspath, set, rec, enil, econs, gnil, gcons, Un, Bin, Rel}
use Rattle.cedar.specs.Entities.{PEnv, PLine, pentity}
use Rattle.cedar.specs.Response.{Effect}
use Rattle.cedar.specs.Rows.{Row, stop, rset, rrec}
use Rattle.cedar.specs.Table.{At, Elems, Denotes}
use Rattle.cedar.specs.Numbered.{Give, made, old, NLine, NEnv, nentity}
use Rattle.cedar.specs.Runs.{Policy, NPolicy}

-- "its `lit` numbers read among the partial sheet's values and the made ones": C lists the contents of both, by number.
module _ (C : List Value) where
  mutual
    pub data Reads : Node ℕ → Expr → Type 0 where
      xlit : {T : Ty} {n : ℕ} {v : Value} → At C n v → Reads (lit T n) (lit T v)
      xerr : {T : Ty} → Reads (err T) (err T)
      xvar : {T : Ty} {x : Var} → Reads (var T x) (var T x)
      xand : {T : Ty} {a b : Node ℕ} {d e : Expr} → Reads a d → Reads b e → Reads (and T a b) (and T d e)
      xor : {T : Ty} {a b : Node ℕ} {d e : Expr} → Reads a d → Reads b e → Reads (or T a b) (or T d e)
      xite : {T : Ty} {c a b : Node ℕ} {f d e : Expr} → Reads c f → Reads a d → Reads b e → Reads (ite T c a b) (ite T f d e)
      xun : {T : Ty} {u : Un} {a : Node ℕ} {d : Expr} → Reads a d → Reads (un T u a) (un T u d)
      xbin : {T : Ty} {o : Bin} {a b : Node ℕ} {d e : Expr} → Reads a d → Reads b e → Reads (bin T o a b) (bin T o d e)
      xrel : {T : Ty} {o : Rel} {a b : Node ℕ} {d e : Expr} → Reads a d → Reads b e → Reads (rel T o a b) (rel T o d e)
      xget : {T : Ty} {a : Node ℕ} {d : Expr} {t : ℕ} → Reads a d → Reads (get T a t) (get T d t)
      xhas : {T : Ty} {a : Node ℕ} {d : Expr} {t : ℕ} → Reads a d → Reads (has T a t) (has T d t)
      xpath : {T : Ty} {a : Node ℕ} {d : Expr} {t : ℕ} {ts : List ℕ} → Reads a d → Reads (haspath T a t ts) (haspath T d t ts)
      xset : {T : Ty} {es : Nodes ℕ} {fs : Exprs} → ReadsAll es fs → Reads (set T es) (set T fs)
      xrec : {T : Ty} {gs : NodeArgs ℕ} {hs : Args} → ReadsArgs gs hs → Reads (rec T gs) (rec T hs)

    pub data ReadsAll : Nodes ℕ → Exprs → Type 0 where
      xnil : ReadsAll enil enil
      xcons : {a : Node ℕ} {d : Expr} {es : Nodes ℕ} {fs : Exprs} → Reads a d → ReadsAll es fs → ReadsAll (econs a es) (econs d fs)

    pub data ReadsArgs : NodeArgs ℕ → Args → Type 0 where
      xstop : ReadsArgs gnil gnil
      xarg : {t : ℕ} {a : Node ℕ} {d : Expr} {gs : NodeArgs ℕ} {hs : Args} → Reads a d → ReadsArgs gs hs → ReadsArgs (gcons t a gs) (gcons t d hs)

-- Policies, each with its effect.
pub data ReadPolicies (C : List Value) : List NPolicy → List Policy → Type 0 where
  done : ReadPolicies C [] []
  also : {e : Effect} {a : Node ℕ} {A : Expr} {ns : List NPolicy} {ps : List Policy} → Reads C a A → ReadPolicies C ns ps → ReadPolicies C (record { effect = e; tree = a } ∷ ns) (record { effect = e; tree = A } ∷ ps)

-- Attributes and tags, ancestors, parts of the request: unknown on both sides, or one value on both. Ancestors that are found through parents
-- are a row that has no number: their numbers in any order, by content the set of what these stand for.
pub data RecRead (C : List Value) : Option Give → Option Fields → Type 0 where
  rec_unknown : RecRead C none none
  rec_known : {a : ℕ} {fs : Fields} → At C a (vrec fs) → RecRead C (some (old a)) (some fs)
  rec_empty : RecRead C (some (made (rrec stop))) (some fnil)

pub data SetRead (C : List Value) : Option Give → Option Values → Type 0 where
  set_unknown : SetRead C none none
  set_known : {a : ℕ} {vs : Values} → At C a (vset vs) → SetRead C (some (old a)) (some vs)
  set_found : {l : List ℕ} {xs vs : Values} → Elems C l xs → ascending xs ≡ vs → SetRead C (some (made (rset l))) (some vs)

pub data GiveRead (C : List Value) : Option Give → Option Value → Type 0 where
  give_unknown : GiveRead C none none
  give_made : {r : Row} {v : Value} → Denotes C r v → GiveRead C (some (made r)) (some v)
  give_old : {n : ℕ} {v : Value} → At C n v → GiveRead C (some (old n)) (some v)

pub record LineRead (C : List Value) (n : NLine) (p : PLine) : Type 0 where
  pub attrs : RecRead C n.attrs p.attrs
  pub tags : RecRead C n.tags p.tags
  pub ancestors : SetRead C n.ancestors p.ancestors

-- The request and every look-up of an entity.
pub record EnvRead (C : List Value) (M : NEnv) (P : PEnv) : Type 0 where
  pub request : (x : Var) → GiveRead C (M.request x) (P.request x)
  pub line : (k t : ℕ) → LineRead C (nentity M k t) (pentity P k t)

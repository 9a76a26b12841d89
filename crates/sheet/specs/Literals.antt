-- A tree over value numbers with each literal read as what its number stands for.
use Rattle.std.specs.Prelude.{ℕ}
use Rattle.cedar.specs.Residual.{Node, Nodes, NodeArgs, lit, err, var, and, or, ite, un, bin, rel, get, has, haspath, set, rec, enil, econs, gnil, gcons}

module _ {L : Type 0} (value : ℕ → L) where
  abbrev mutual
    pub valued : Node ℕ → Node L
    valued (lit T n) = lit T (value n)
    valued (err T) = err T
    valued (var T x) = var T x
    valued (and T a b) = and T (valued a) (valued b)
    valued (or T a b) = or T (valued a) (valued b)
    valued (ite T c a b) = ite T (valued c) (valued a) (valued b)
    valued (un T u a) = un T u (valued a)
    valued (bin T o a b) = bin T o (valued a) (valued b)
    valued (rel T o a b) = rel T o (valued a) (valued b)
    valued (get T a t) = get T (valued a) t
    valued (has T a t) = has T (valued a) t
    valued (haspath T a t ts) = haspath T (valued a) t ts
    valued (set T es) = set T (valued_all es)
    valued (rec T gs) = rec T (valued_args gs)

    pub valued_all : Nodes ℕ → Nodes L
    valued_all enil = enil
    valued_all (econs e es) = econs (valued e) (valued_all es)

    pub valued_args : NodeArgs ℕ → NodeArgs L
    valued_args gnil = gnil
    valued_args (gcons t e gs) = gcons t (valued e) (valued_args gs)

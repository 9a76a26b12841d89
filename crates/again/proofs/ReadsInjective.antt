-- Over contents that are told apart by their numbers, trees that read as one tree are one tree.
use mathlib.Core.Path.{◌≡◌, refl, ap, ap₂}
use mathlib.Core.List.{List}
use Prim.Native.Nat.{ℕ}
use Rattle.cedar.specs.Value.{Value}
use Rattle.cedar.specs.Residual.{Node, Nodes, NodeArgs, Expr, Exprs, Args, lit, and, or, ite, un, bin, rel, get, has, haspath, set, rec, econs, gcons}
use Rattle.cedar.specs.Reads.{Reads, xlit, xerr, xvar, xand, xor, xite, xun, xbin, xrel, xget, xhas, xpath, xset, xrec, ReadsAll, xnil, xcons, ReadsArgs, xstop, xarg}
use Rattle.cedar.proofs.TableLaws.{Apart}

module _ {C : List Value} (inj : Apart C) where
  mutual
    pub reads_inj : {a b : Node ℕ} {d : Expr} → Reads C a d → Reads C b d → a ≡ b
    reads_inj (xlit {T = T} {v = v} m) (xlit n) = ap (lit T) (inj _ _ v m n)
    reads_inj xerr xerr = refl
    reads_inj xvar xvar = refl
    reads_inj (xand {T = T} p q) (xand x y) = ap₂ (and T) (reads_inj p x) (reads_inj q y)
    reads_inj (xor {T = T} p q) (xor x y) = ap₂ (or T) (reads_inj p x) (reads_inj q y)
    reads_inj (xite {T = T} o p q) (xite w x y) = λ i. ite T (reads_inj o w i) (reads_inj p x i) (reads_inj q y i)
    reads_inj (xun {T = T} {u = u} p) (xun x) = ap (un T u) (reads_inj p x)
    reads_inj (xbin {T = T} {o = o} p q) (xbin x y) = ap₂ (bin T o) (reads_inj p x) (reads_inj q y)
    reads_inj (xrel {T = T} {o = o} p q) (xrel x y) = ap₂ (rel T o) (reads_inj p x) (reads_inj q y)
    reads_inj (xget {T = T} {t = t} p) (xget x) = ap (λ z. get T z t) (reads_inj p x)
    reads_inj (xhas {T = T} {t = t} p) (xhas x) = ap (λ z. has T z t) (reads_inj p x)
    reads_inj (xpath {T = T} {t = t} {ts = ts} p) (xpath x) = ap (λ z. haspath T z t ts) (reads_inj p x)
    reads_inj (xset {T = T} p) (xset x) = ap (set T) (all_inj p x)
    reads_inj (xrec {T = T} p) (xrec x) = ap (rec T) (args_inj p x)

    all_inj : {a b : Nodes ℕ} {d : Exprs} → ReadsAll C a d → ReadsAll C b d → a ≡ b
    all_inj xnil xnil = refl
    all_inj (xcons p q) (xcons x y) = ap₂ econs (reads_inj p x) (all_inj q y)

    args_inj : {a b : NodeArgs ℕ} {d : Args} → ReadsArgs C a d → ReadsArgs C b d → a ≡ b
    args_inj xstop xstop = refl
    args_inj (xarg {t = t} p q) (xarg x y) = ap₂ (gcons t) (reads_inj p x) (args_inj q y)

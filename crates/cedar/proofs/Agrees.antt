-- What the interpreter may rely on: each part that a look-up finds known is the part of the complete side. Agreement gives it.
use mathlib.Core.Path.{◌≡◌, refl}
use mathlib.Core.Option.{Option, none, some}
use Prim.Native.Nat.{ℕ}
use Rattle.cedar.proofs.Tools.{no_some}
use Rattle.cedar.specs.Value.{Value}
use Rattle.cedar.specs.Types.{Var}
use Rattle.cedar.specs.Entities.{Env, PEnv, PLine, Agree, LineAgrees, entity, pentity, pline_or}

pub record Knows (P : PEnv) (C : Env) : Type 0 where
  pub request : (x : Var) (v : Value) → P.request x ≡ some v → C.request x ≡ v
  pub line : (k t : ℕ) → LineAgrees (pentity P k t) (entity C k t)

pub agree_knows : {P : PEnv} {C : Env} → Agree P C → Knows P C
agree_knows {P} {C} ag = record { request = ag.request; line = λ k t. go k t (P.line k t) refl }
  where
    go : (k t : ℕ) (o : Option PLine) → P.line k t ≡ o → LineAgrees (pline_or o) (entity C k t)
    go k t none e = record { attrs = λ fs q. no_some q; tags = λ fs q. no_some q; ancestors = λ vs q. no_some q }
    go k t (some p) e = let (l, q, h) = ag.line k t p e in rw q h

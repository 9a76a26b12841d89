-- A numbered step refines a step by content: what it leaves reads as what is left by content.
use mathlib.Core.Path.{◌≡◌, refl, ap, ap₂}
use mathlib.Core.Bool.{Bool, true, false}
use mathlib.Core.Option.{Option, none, some}
use mathlib.Core.List.{List}
use Prim.Native.Nat.{ℕ}
use lib.IntN.{ℤ}
use lib.ListN.{get_or}
use Rattle.cedar.specs.Value.{Value, ok, fail, vent, vset, Values, on_bool, on_long, on_text, on_ent, on_set}
use Rattle.cedar.specs.Types.{Ty}
use Rattle.cedar.specs.Residual.{Node, Nodes, NodeArgs, Expr, Exprs, Args, lit, and, or, ite, un, bin, rel, get, has, haspath, set, rec, econs, gcons, ty_of, can_err, can_errs, can_err_args, Stage, value, error, open', view}
use Rattle.cedar.specs.Interpret.{View, Outcome, gives, stays, settle, strict1, strict2, by_rule}
use Rattle.cedar.specs.Rows.{Row, rbool, rset}
use Rattle.cedar.specs.Table.{At, now, later, Denotes, dbool, dlong, dtext, dent, dset, drec, Table}
use Rattle.cedar.proofs.TableLaws.{row_of_law, at_fun}
use Rattle.cedar.proofs.MakingLaws.{intern_makes}
use Rattle.cedar.specs.Numbered.{NOut, give, fails, made, old, Out, out, make, n_settle, n_strict1, n_strict2, n_by_rule, row_at, r_bool, r_long, r_text, r_ent, r_set}
use Rattle.cedar.specs.Reads.{Reads, xlit, xerr, xvar, xand, xor, xite, xun, xbin, xrel, xget, xhas, xpath, xset, xrec, ReadsAll, xnil, xcons, ReadsArgs, xstop, xarg}
use Rattle.cedar.specs.Numbered as N

-- how far a tree is worked, by number and by content
pub data StageReads (C : List Value) : Stage ℕ → View → Type 0 where
  svalue : {n : ℕ} {v : Value} → At C n v → StageReads C (value n) (value v)
  serror : StageReads C error error
  sopen : StageReads C open' open'

-- an outcome by number and one by content
pub data OutReads (C : List Value) : NOut → Outcome → Type 0 where
  omade : {r : Row} {v : Value} → Denotes C r v → OutReads C (give (made r)) (gives (ok v))
  oold : {n : ℕ} {v : Value} → At C n v → OutReads C (give (old n)) (gives (ok v))
  ofail : OutReads C fails (gives fail)
  ostay : OutReads C N.stays stays

-- what a numbered step from contents C is to do
pub record Refines (C : List Value) (o : Out) (E : Expr) : Type 0 where
  pub contents : List Value
  pub table : Table o.rows contents
  pub keeps : (n : ℕ) (v : Value) → At C n v → At contents n v
  pub reads : Reads contents o.tree E

abbrev pub Keeps : List Value → List Value → Type 0
Keeps C D = (n : ℕ) (v : Value) → At C n v → At D n v

module _ {C D : List Value} (k : Keeps C D) where
  mutual
    pub keep_reads : {a : Node ℕ} {d : Expr} → Reads C a d → Reads D a d
    keep_reads (xlit {n = n} {v = v} h) = xlit (k n v h)
    keep_reads xerr = xerr
    keep_reads xvar = xvar
    keep_reads (xand a b) = xand (keep_reads a) (keep_reads b)
    keep_reads (xor a b) = xor (keep_reads a) (keep_reads b)
    keep_reads (xite c a b) = xite (keep_reads c) (keep_reads a) (keep_reads b)
    keep_reads (xun a) = xun (keep_reads a)
    keep_reads (xbin a b) = xbin (keep_reads a) (keep_reads b)
    keep_reads (xrel a b) = xrel (keep_reads a) (keep_reads b)
    keep_reads (xget a) = xget (keep_reads a)
    keep_reads (xhas a) = xhas (keep_reads a)
    keep_reads (xpath a) = xpath (keep_reads a)
    keep_reads (xset h) = xset (keep_all h)
    keep_reads (xrec h) = xrec (keep_args h)

    pub keep_all : {es : Nodes ℕ} {fs : Exprs} → ReadsAll C es fs → ReadsAll D es fs
    keep_all xnil = xnil
    keep_all (xcons a h) = xcons (keep_reads a) (keep_all h)

    pub keep_args : {gs : NodeArgs ℕ} {hs : Args} → ReadsArgs C gs hs → ReadsArgs D gs hs
    keep_args xstop = xstop
    keep_args (xarg a h) = xarg (keep_reads a) (keep_args h)

module _ {C : List Value} where
  pub same_ty : {a : Node ℕ} {d : Expr} → Reads C a d → ty_of a ≡ ty_of d
  same_ty (xlit h) = refl
  same_ty xerr = refl
  same_ty xvar = refl
  same_ty (xand a b) = refl
  same_ty (xor a b) = refl
  same_ty (xite c a b) = refl
  same_ty (xun a) = refl
  same_ty (xbin a b) = refl
  same_ty (xrel a b) = refl
  same_ty (xget a) = refl
  same_ty (xhas a) = refl
  same_ty (xpath a) = refl
  same_ty (xset h) = refl
  same_ty (xrec h) = refl

  mutual
    pub same_err : {a : Node ℕ} {d : Expr} → Reads C a d → can_err a ≡ can_err d
    same_err (xlit h) = refl
    same_err xerr = refl
    same_err xvar = refl
    same_err (xand a b) = rw (same_err a, same_err b)
    same_err (xor a b) = rw (same_err a, same_err b)
    same_err (xite c a b) = rw (same_err c, same_err a, same_err b)
    same_err (xun a) = rw (same_err a)
    same_err (xbin a b) = rw (same_err a, same_err b)
    same_err (xrel a b) = rw (same_err a, same_err b)
    same_err (xget a) = let e = same_err a in cc
    same_err (xhas a) = same_err a
    same_err (xpath a) = same_err a
    same_err (xset h) = same_errs h
    same_err (xrec h) = same_err_args h

    same_errs : {es : Nodes ℕ} {fs : Exprs} → ReadsAll C es fs → can_errs es ≡ can_errs fs
    same_errs xnil = refl
    same_errs (xcons a h) = rw (same_err a, same_errs h)

    same_err_args : {gs : NodeArgs ℕ} {hs : Args} → ReadsArgs C gs hs → can_err_args gs ≡ can_err_args hs
    same_err_args xstop = refl
    same_err_args (xarg a h) = rw (same_err a, same_err_args h)

  pub same_stage : {a : Node ℕ} {d : Expr} → Reads C a d → StageReads C (view a) (view d)
  same_stage (xlit h) = svalue h
  same_stage xerr = serror
  same_stage xvar = sopen
  same_stage (xand a b) = sopen
  same_stage (xor a b) = sopen
  same_stage (xite c a b) = sopen
  same_stage (xun a) = sopen
  same_stage (xbin a b) = sopen
  same_stage (xrel a b) = sopen
  same_stage (xget a) = sopen
  same_stage (xhas a) = sopen
  same_stage (xpath a) = sopen
  same_stage (xset h) = sopen
  same_stage (xrec h) = sopen

-- a numbered tree reads as one tree
module _ {C : List Value} where
  mutual
    pub reads_fun : {a : Node ℕ} {d e : Expr} → Reads C a d → Reads C a e → d ≡ e
    reads_fun (xlit {T = T} h) (xlit k) = ap (lit T) (at_fun h k)
    reads_fun xerr xerr = refl
    reads_fun xvar xvar = refl
    reads_fun (xand {T = T} a b) (xand c d) = ap₂ (and T) (reads_fun a c) (reads_fun b d)
    reads_fun (xor {T = T} a b) (xor c d) = ap₂ (or T) (reads_fun a c) (reads_fun b d)
    reads_fun (xite {T = T} a b c) (xite d e f) = λ i. ite T (reads_fun a d i) (reads_fun b e i) (reads_fun c f i)
    reads_fun (xun {T = T} {u = u} a) (xun b) = ap (un T u) (reads_fun a b)
    reads_fun (xbin {T = T} {o = o} a b) (xbin c d) = ap₂ (bin T o) (reads_fun a c) (reads_fun b d)
    reads_fun (xrel {T = T} {o = o} a b) (xrel c d) = ap₂ (rel T o) (reads_fun a c) (reads_fun b d)
    reads_fun (xget {T = T} {t = t} a) (xget b) = ap (λ x. get T x t) (reads_fun a b)
    reads_fun (xhas {T = T} {t = t} a) (xhas b) = ap (λ x. has T x t) (reads_fun a b)
    reads_fun (xpath {T = T} {t = t} {ts = ts} a) (xpath b) = ap (λ x. haspath T x t ts) (reads_fun a b)
    reads_fun (xset {T = T} h) (xset k) = ap (set T) (all_fun h k)
    reads_fun (xrec {T = T} h) (xrec k) = ap (rec T) (args_fun h k)

    all_fun : {es : Nodes ℕ} {fs gs : Exprs} → ReadsAll C es fs → ReadsAll C es gs → fs ≡ gs
    all_fun xnil xnil = refl
    all_fun (xcons a h) (xcons b k) = ap₂ econs (reads_fun a b) (all_fun h k)

    args_fun : {gs : NodeArgs ℕ} {hs ks : Args} → ReadsArgs C gs hs → ReadsArgs C gs ks → hs ≡ ks
    args_fun xstop xstop = refl
    args_fun (xarg {t = t} a h) (xarg b k) = ap₂ (gcons t) (reads_fun a b) (args_fun h k)

-- steps

module _ {C : List Value} {R : List Row} (t : Table R C) where
  pub as_is : {e : Node ℕ} {E : Expr} → Reads C e E → Refines C (out R e) E
  as_is h = record { contents = C; table = t; keeps = λ n v a. a; reads = h }

  pub makes : (T : Ty) {r : Row} {v : Value} → Denotes C r v → Refines C (make T r R) (lit T v)
  makes T d = let m = intern_makes t d in record { contents = m.contents; table = m.table; keeps = m.keeps; reads = xlit m.at }

  module _ (T : Ty) {keep : Node ℕ} {K : Expr} (k : Reads C keep K) where
    pub settles : {x : NOut} {y : Outcome} → OutReads C x y → Refines C (n_settle T keep x R) (settle T K y)
    settles (omade d) = makes T d
    settles (oold a) = as_is (xlit a)
    settles ofail = as_is xerr
    settles ostay = as_is k

    pub stricts1 : {f : ℕ → NOut} {g : Value → Outcome} {s : Stage ℕ} {w : View} → StageReads C s w → ((n : ℕ) (v : Value) → At C n v → OutReads C (f n) (g v)) → Refines C (n_strict1 T keep f s R) (strict1 T K g w)
    stricts1 (svalue {n = n} {v = v} a) h = settles (h n v a)
    stricts1 serror h = as_is xerr
    stricts1 sopen h = as_is k

    pub stricts2 : {f : ℕ → ℕ → NOut} {g : Value → Value → Outcome} {s u : Stage ℕ} {w x : View} → StageReads C s w → StageReads C u x
        → ((m n : ℕ) (v y : Value) → At C m v → At C n y → OutReads C (f m n) (g v y)) → Refines C (n_strict2 T keep f s u R) (strict2 T K g w x)
    stricts2 (svalue {n = m} {v = v} a) (svalue {n = n} {v = y} b) h = settles (h m n v y a b)
    stricts2 (svalue a) serror h = as_is xerr
    stricts2 (svalue a) sopen h = as_is k
    stricts2 serror s h = as_is xerr
    stricts2 sopen (svalue b) h = as_is k
    stricts2 sopen serror h = as_is xerr
    stricts2 sopen sopen h = as_is k

  pub decides : (T : Ty) (c : Bool) (o : Option Bool) {r : Out} {E : Expr} → Refines C r E → Refines C (n_by_rule T c o r R) (by_rule T c o E)
  decides T true o h = h
  decides T false none h = h
  decides T false (some b) h = makes T dbool

-- one step after another
pub and_then : {C : List Value} {o p : Out} {D E : Expr} → (k : Refines C o D) → Refines k.contents p E → Refines C p E
and_then k l = record { contents = l.contents; table = l.table; keeps = λ n v a. l.keeps n v (k.keeps n v a); reads = l.reads }

-- rows

pub at_is : {A : Type 0} {l : List A} {n : ℕ} {a : A} (d : A) → At l n a → get_or l n d ≡ a
at_is d now = refl
at_is d (later h) = at_is d h

pub row_denotes : {C : List Value} {R : List Row} {n : ℕ} {v : Value} → Table R C → At C n v → Denotes C (row_at R n) v
row_denotes t a = let (r, b, d) = row_of_law t a in rw (at_is (rbool false) b) d

-- a row taken apart as its content is; Q relates what the two give
module _ {C : List Value} {X Y : Type 0} (Q : X → Y → Type 0) {d : X} {d' : Y} (q : Q d d') where
  pub on_bool_law : {r : Row} {v : Value} (f : Bool → X) (g : Bool → Y) → Denotes C r v → ((b : Bool) → Q (f b) (g b)) → Q (r_bool d r f) (on_bool d' v g)
  on_bool_law f g (dbool {b = b}) h = h b
  on_bool_law f g dlong h = q
  on_bool_law f g dtext h = q
  on_bool_law f g dent h = q
  on_bool_law f g (dset a e p) h = q
  on_bool_law f g (drec e) h = q

  pub on_long_law : {r : Row} {v : Value} (f : ℤ → X) (g : ℤ → Y) → Denotes C r v → ((n : ℤ) → Q (f n) (g n)) → Q (r_long d r f) (on_long d' v g)
  on_long_law f g dbool h = q
  on_long_law f g (dlong {n = n}) h = h n
  on_long_law f g dtext h = q
  on_long_law f g dent h = q
  on_long_law f g (dset a e p) h = q
  on_long_law f g (drec e) h = q

  pub on_text_law : {r : Row} {v : Value} (f : ℕ → X) (g : ℕ → Y) → Denotes C r v → ((t : ℕ) → Q (f t) (g t)) → Q (r_text d r f) (on_text d' v g)
  on_text_law f g dbool h = q
  on_text_law f g dlong h = q
  on_text_law f g (dtext {t = t}) h = h t
  on_text_law f g dent h = q
  on_text_law f g (dset a e p) h = q
  on_text_law f g (drec e) h = q

  pub on_ent_law : {r : Row} {v : Value} (f : ℕ → ℕ → X) (g : ℕ → ℕ → Y) → Denotes C r v → ((k t : ℕ) → v ≡ vent k t → Q (f k t) (g k t)) → Q (r_ent d r f) (on_ent d' v g)
  on_ent_law f g dbool h = q
  on_ent_law f g dlong h = q
  on_ent_law f g dtext h = q
  on_ent_law f g (dent {k = k} {t = t}) h = h k t refl
  on_ent_law f g (dset a e p) h = q
  on_ent_law f g (drec e) h = q

  pub on_set_law : {r : Row} {v : Value} (f : List ℕ → X) (g : Values → Y) → Denotes C r v → ((l : List ℕ) (vs : Values) → Denotes C (rset l) (vset vs) → Q (f l) (g vs)) → Q (r_set d r f) (on_set d' v g)
  on_set_law f g dbool h = q
  on_set_law f g dlong h = q
  on_set_law f g dtext h = q
  on_set_law f g dent h = q
  on_set_law f g (dset {l = l} {vs = vs} a e p) h = h l vs (dset a e p)
  on_set_law f g (drec e) h = q

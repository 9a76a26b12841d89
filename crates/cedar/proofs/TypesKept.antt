-- What holds of every type in a tree holds of every type in what is left of it, a path's left-over part too:
-- there the type is that of the child, or that of the single kind of an entity reached, which is in a declared group.
use mathlib.Core.Path.{◌≡◌, refl, subst, sym}
use mathlib.Core.Bool.{Bool, true, false, cond, ◌||◌}
use mathlib.Core.Option.{Option, none, some}
use mathlib.Core.List.{List, [], ◌∷◌}
use Prim.Native.Nat.{ℕ}
use Rattle.cedar.specs.Value.{Value, vbool, vent, vrec, Values, Fields, ok, fail, find, found, on_some}
use Rattle.cedar.specs.Canonical.{make_set}
use Rattle.cedar.specs.Types.{Ty, tbool, tlong, tstr, tent, tset, trec, Attrs, among, declared, Schema, Fits, fbool, flong, ftext, fent, fset, frec, FieldsFit}
use Rattle.cedar.specs.Residual.{Node, Nodes, NodeArgs, Expr, Exprs, Args, lit, err, var, and, or, ite, un, bin, rel, get, has, haspath, set, rec, enil, econs, gnil, gcons, ty_of, can_err, value, error, open', view, Class, ctrue, cfalse, cerror, copen, any_error, any_error_arg}
use Rattle.cedar.specs.Typing.{IfDeclared, PathOk, Typed, tlit, terr, tvar, tand, tor, tite, tun, tbin, trel, tget, thas, tpath, tset', trec', AllTyped, nil_typed, cons_typed, ArgsTyped, no_arg, one_arg}
use Rattle.cedar.specs.Entities.{Env, PEnv, EnvFits, pentity}
use Rattle.cedar.specs.TypeRules.{un_rule, bin_rule, rel_rule, has_rule}
use Rattle.cedar.specs.Interpret.{alone, View, Outcome, gives, stays, class, simp_and, simp_or, simp_if, settle, strict1, strict2, by_rule, left_path, walk, simp_path, values, fields, step_var, rel_known, get_known, has_known, interpret, interprets, interpret_args}
use Rattle.cedar.specs.Evaluate.{eval, apply_un, apply_bin}
use Rattle.cedar.specs.Reads.{Reads, xlit, xerr, xvar, xand, xor, xite, xun, xbin, xrel, xget, xhas, xpath, xset, xrec, ReadsAll, xnil, xcons, ReadsArgs, xstop, xarg}
use Rattle.cedar.proofs.Agrees.{Knows, agree_knows}
use Rattle.cedar.proofs.Yields.{entity_fits, step_fits}
use Rattle.cedar.proofs.TypeSound.{yields}
use Rattle.cedar.proofs.Kept.{Means, fitting, ty_of_law, view_means}
use Rattle.cedar.proofs.SoundAttr.{OfKind}
use Rattle.cedar.proofs.Sound.{sound}
use Rattle.cedar.proofs.Completion.{KnownFits, completed}

-- Q of every type in a tree
abbrev mutual
  pub TypesHold : {L : Type 0} → (Ty → Type 0) → Node L → Type 0
  TypesHold Q (lit T v) = Q T
  TypesHold Q (err T) = Q T
  TypesHold Q (var T x) = Q T
  TypesHold Q (and T a b) = Q T × TypesHold Q a × TypesHold Q b
  TypesHold Q (or T a b) = Q T × TypesHold Q a × TypesHold Q b
  TypesHold Q (ite T c a b) = Q T × TypesHold Q c × TypesHold Q a × TypesHold Q b
  TypesHold Q (un T u a) = Q T × TypesHold Q a
  TypesHold Q (bin T o a b) = Q T × TypesHold Q a × TypesHold Q b
  TypesHold Q (rel T o a b) = Q T × TypesHold Q a × TypesHold Q b
  TypesHold Q (get T a t) = Q T × TypesHold Q a
  TypesHold Q (has T a t) = Q T × TypesHold Q a
  TypesHold Q (haspath T a t ts) = Q T × TypesHold Q a
  TypesHold Q (set T es) = Q T × AllHold Q es
  TypesHold Q (rec T gs) = Q T × ArgsHold Q gs

  pub AllHold : {L : Type 0} → (Ty → Type 0) → Nodes L → Type 0
  AllHold Q enil = Unit {0}
  AllHold Q (econs e es) = TypesHold Q e × AllHold Q es

  pub ArgsHold : {L : Type 0} → (Ty → Type 0) → NodeArgs L → Type 0
  ArgsHold Q gnil = Unit {0}
  ArgsHold Q (gcons t e gs) = TypesHold Q e × ArgsHold Q gs

-- a numbered tree has the types of the tree that it reads as
module _ (Q : Ty → Type 0) {C : List Value} where
  mutual
    pub reads_hold : {a : Node ℕ} {d : Expr} → Reads C a d → TypesHold Q d → TypesHold Q a
    reads_hold (xlit n) h = h
    reads_hold xerr h = h
    reads_hold xvar h = h
    reads_hold (xand a b) (q, h, i) = (q, reads_hold a h, reads_hold b i)
    reads_hold (xor a b) (q, h, i) = (q, reads_hold a h, reads_hold b i)
    reads_hold (xite c a b) (q, g, h, i) = (q, reads_hold c g, reads_hold a h, reads_hold b i)
    reads_hold (xun a) (q, h) = (q, reads_hold a h)
    reads_hold (xbin a b) (q, h, i) = (q, reads_hold a h, reads_hold b i)
    reads_hold (xrel a b) (q, h, i) = (q, reads_hold a h, reads_hold b i)
    reads_hold (xget a) (q, h) = (q, reads_hold a h)
    reads_hold (xhas a) (q, h) = (q, reads_hold a h)
    reads_hold (xpath a) (q, h) = (q, reads_hold a h)
    reads_hold (xset es) (q, h) = (q, reads_all_hold es h)
    reads_hold (xrec gs) (q, h) = (q, reads_args_hold gs h)

    reads_all_hold : {es : Nodes ℕ} {fs : Exprs} → ReadsAll C es fs → AllHold Q fs → AllHold Q es
    reads_all_hold xnil h = tt
    reads_all_hold (xcons a es) (h, hs) = (reads_hold a h, reads_all_hold es hs)

    reads_args_hold : {gs : NodeArgs ℕ} {hs : Args} → ReadsArgs C gs hs → ArgsHold Q hs → ArgsHold Q gs
    reads_args_hold xstop h = tt
    reads_args_hold (xarg a gs) (h, hs) = (reads_hold a h, reads_args_hold gs hs)

-- the type at the root
pub root_holds : {L : Type 0} (Q : Ty → Type 0) (e : Node L) → TypesHold Q e → Q (ty_of e)
root_holds Q (lit T v) h = h
root_holds Q (err T) h = h
root_holds Q (var T x) h = h
root_holds Q (and T a b) h = h.0
root_holds Q (or T a b) h = h.0
root_holds Q (ite T c a b) h = h.0
root_holds Q (un T u a) h = h.0
root_holds Q (bin T o a b) h = h.0
root_holds Q (rel T o a b) h = h.0
root_holds Q (get T a t) h = h.0
root_holds Q (has T a t) h = h.0
root_holds Q (haspath T a t ts) h = h.0
root_holds Q (set T es) h = h.0
root_holds Q (rec T gs) h = h.0

-- ---- the steps

module _ (Q : Ty → Type 0) {T : Ty} (q : Q T) where
  h_settle : (keep : Expr) (o : Outcome) → TypesHold Q keep → TypesHold Q (settle T keep o)
  h_settle keep (gives (ok v)) h = q
  h_settle keep (gives fail) h = q
  h_settle keep stays h = h

  h_strict1 : (keep : Expr) (f : Value → Outcome) (w : View) → TypesHold Q keep → TypesHold Q (strict1 T keep f w)
  h_strict1 keep f (value v) h = h_settle keep (f v) h
  h_strict1 keep f error h = q
  h_strict1 keep f open' h = h

  h_strict2 : (keep : Expr) (f : Value → Value → Outcome) (w x : View) → TypesHold Q keep → TypesHold Q (strict2 T keep f w x)
  h_strict2 keep f (value v) (value u) h = h_settle keep (f v u) h
  h_strict2 keep f (value v) error h = q
  h_strict2 keep f (value v) open' h = h
  h_strict2 keep f error x h = q
  h_strict2 keep f open' (value u) h = h
  h_strict2 keep f open' error h = q
  h_strict2 keep f open' open' h = h

  h_decide : (r : Expr) (c : Bool) (o : Option Bool) → TypesHold Q r → TypesHold Q (by_rule T c o r)
  h_decide r true o h = h
  h_decide r false none h = h
  h_decide r false (some b) h = q

  module _ (a b : Expr) (h : TypesHold Q a) (i : TypesHold Q b) where
    h_and : (c d : Class) → TypesHold Q (simp_and T a b c d)
    h_and cfalse d = q
    h_and ctrue d = i
    h_and cerror d = q
    h_and copen ctrue = h
    h_and copen cfalse = go (can_err a)
      where
        go : (e : Bool) → TypesHold Q (cond e (and T a (lit T (vbool false))) (lit T (vbool false)))
        go true = (q, h, q)
        go false = q
    h_and copen cerror = (q, h, i)
    h_and copen copen = (q, h, i)

    h_or : (c d : Class) → TypesHold Q (simp_or T a b c d)
    h_or ctrue d = q
    h_or cfalse d = i
    h_or cerror d = q
    h_or copen cfalse = h
    h_or copen ctrue = go (can_err a)
      where
        go : (e : Bool) → TypesHold Q (cond e (or T a (lit T (vbool true))) (lit T (vbool true)))
        go true = (q, h, q)
        go false = q
    h_or copen cerror = (q, h, i)
    h_or copen copen = (q, h, i)

    h_if : (c : Expr) → TypesHold Q c → (d : Class) → TypesHold Q (simp_if T c a b d)
    h_if c g ctrue = h
    h_if c g cfalse = i
    h_if c g cerror = q
    h_if c g copen = (q, g, h, i)

  h_var : (e : Expr) (S : Schema) (P : PEnv) (o : Option Value) → TypesHold Q e → TypesHold Q (step_var S P T e o)
  h_var e S P none h = h
  h_var e S P (some v) h = q

  h_set : (es : Exprs) (o : Option Values) → AllHold Q es → TypesHold Q (on_some (cond (any_error es) (err T) (set T es)) o (λ vs. lit T (make_set vs)))
  h_set es (some vs) h = q
  h_set es none h = go (any_error es)
    where
      go : (b : Bool) → TypesHold Q (cond b (err T) (set T es))
      go true = q
      go false = (q, h)

  h_rec : (gs : Args) (o : Option Fields) → ArgsHold Q gs → TypesHold Q (on_some (cond (any_error_arg gs) (err T) (rec T gs)) o (λ fs. lit T (vrec fs)))
  h_rec gs (some fs) h = q
  h_rec gs none h = go (any_error_arg gs)
    where
      go : (b : Bool) → TypesHold Q (cond b (err T) (rec T gs))
      go true = q
      go false = (q, h)

-- ---- the walk along a path

-- R is what a kind of an entity type declares, or a record type
abbrev pub Declares : Schema → Ty → Attrs → Type 0
Declares S tbool R = ⊥
Declares S tlong R = ⊥
Declares S tstr R = ⊥
Declares S (tent l ls) R = (k : ℕ) × (among k (l ∷ ls) ≡ true) × ((S.shape k).attrs ≡ R)
Declares S (tset A) R = ⊥
Declares S (trec R') R = R' ≡ R

-- Q passes from an entity or record type to the types of its attributes, and from a group to each kind alone
pub record Passes (S : Schema) (Q : Ty → Type 0) : Type 0 where
  pub below : (A : Ty) (R : Attrs) → Q A → Declares S A R → (t : ℕ) (B : Ty) → declared t R ≡ some B → Q B
  pub single : (k l : ℕ) (ls : List ℕ) → Q (tent l ls) → among k (l ∷ ls) ≡ true → Q (alone k)

module _ (S : Schema) (P : PEnv) (C : Env) (ft : EnvFits S C) (ag : Knows P C) (Q : Ty → Type 0) (pass : Passes S Q) where
  h_left : (T : Ty) (a : Expr) (t : ℕ) (ts : List ℕ) → Q T → TypesHold Q a → TypesHold Q (left_path S T a t ts)
  h_left T a t ts q h = h_decide Q q (haspath T a t ts) (can_err a) (has_rule S t (ty_of a)) (q, h)

  -- from an entity: left over where its attributes are unknown
  h_ent : (T U : Ty) (k i t : ℕ) (ts : List ℕ) (on : Fields → Expr) → Q T → Q U → ((fs : Fields) → FieldsFit fs (S.shape k).attrs → TypesHold Q (on fs))
      → (o : Option Fields) → (pentity P k i).attrs ≡ o → TypesHold Q (on_some (left_path S T (lit U (vent k i)) t ts) o on)
  h_ent T U k i t ts on q p f none e = h_left T (lit U (vent k i)) t ts q p
  h_ent T U k i t ts on q p f (some fs) e = f fs (subst (λ x. FieldsFit x (S.shape k).attrs) ((ag.line k i).attrs fs e) (entity_fits S C ft k i).attrs)

  h_step : (T : Ty) {R : Attrs} (t u : ℕ) (us : List ℕ) {fs : Fields} → Q T → ((B : Ty) → declared t R ≡ some B → Q B) → FieldsFit fs R
      → ((w : Value) (B : Ty) → PathOk S us u B → Fits w B → Q B → TypesHold Q (walk P S T alone us u w))
      → IfDeclared S (declared t R) (λ B. PathOk S us u B) → (o : Option Value) → find t fs ≡ o → TypesHold Q (on_some (lit T (vbool false)) o (walk P S T alone us u))
  h_step T t u us q d h on p none e = q
  h_step T t u us q d h on p (some w) e = let (B, n, g, f) = step_fits S C ft t (λ B. PathOk S us u B) h e p in on w B g f (d B n)

  -- Q of the single kind
  of_single : {v : Value} {A : Ty} → Fits v A → Q A → OfKind v (λ k. Q (alone k))
  of_single fbool q = tt
  of_single flong q = tt
  of_single ftext q = tt
  of_single (fent {k = k} {l = l} {ls = ls} m) q = pass.single k l ls q m
  of_single (fset h) q = tt
  of_single (frec h c) q = tt

  of_own : {v : Value} {A : Ty} → Fits v A → Q A → OfKind v (λ k. Q A)
  of_own fbool q = tt
  of_own flong q = tt
  of_own ftext q = tt
  of_own (fent m) q = q
  of_own (fset h) q = tt
  of_own (frec h c) q = tt

  module _ (T : Ty) (q : Q T) where
    h_end : (U : ℕ → Ty) {v : Value} {A : Ty} (t : ℕ) → PathOk S [] t A → Fits v A → OfKind v (λ k. Q (U k)) → TypesHold Q (walk P S T U [] t v)
    h_end U t e fbool p = absurd e
    h_end U t e flong p = absurd e
    h_end U t e ftext p = absurd e
    h_end U t e (fset h) p = absurd e
    h_end U t e (frec h c) p = q
    h_end U t e (fent {k = k} {t = i} m) p = h_ent T (U k) k i t [] (λ fs. lit T (vbool (found (find t fs)))) q p (λ fs f. q) (pentity P k i).attrs refl

    h_on : (u : ℕ) (us : List ℕ) → ((w : Value) (B : Ty) → PathOk S us u B → Fits w B → Q B → TypesHold Q (walk P S T alone us u w))
        → (U : ℕ → Ty) {v : Value} {A : Ty} (t : ℕ) → PathOk S (u ∷ us) t A → Fits v A → Q A → OfKind v (λ k. Q (U k)) → TypesHold Q (walk P S T U (u ∷ us) t v)
    h_on u us on U t p fbool a x = absurd p
    h_on u us on U t p flong a x = absurd p
    h_on u us on U t p ftext a x = absurd p
    h_on u us on U t p (fset h) a x = absurd p
    h_on u us on U {A = A} t p (frec {fs = fs} {R = R} h c) a x = h_step T t u us q (pass.below A R a refl t) h on p (find t fs) refl
    h_on u us on U {A = A} t p (fent {k = k} {t = i} m) a x = h_ent T (U k) k i t (u ∷ us) (λ fs. on_some (lit T (vbool false)) (find t fs) (walk P S T alone us u)) q x
        (λ fs f. h_step T t u us q (pass.below A (S.shape k).attrs a (k, m, refl) t) f on (p k m) (find t fs) refl) (pentity P k i).attrs refl

    h_walk : (ts : List ℕ) (U : ℕ → Ty) {v : Value} {A : Ty} (t : ℕ) → PathOk S ts t A → Fits v A → Q A → OfKind v (λ k. Q (U k)) → TypesHold Q (walk P S T U ts t v)
    h_walk [] U t p f a x = h_end U t p f x
    h_walk (u ∷ us) U t p f a x = h_on u us (λ w B k g b. h_walk us alone u k g b (of_single g b)) U t p f a x

    h_path : {a : Expr} {A : Ty} (t : ℕ) (ts : List ℕ) → PathOk S ts t A → Typed S a A → TypesHold Q a → (w : View) → Means w (eval S C a) → TypesHold Q (simp_path S P T a t ts w)
    h_path {a = a} t ts p ta h (value v) m =
        let f = fitting (yields S C ft ta) m in
        let b = root_holds Q a h in
        h_walk ts (λ k. ty_of a) t p f (subst Q (ty_of_law ta) b) (subst (λ B. OfKind v (λ k. Q B)) (sym (ty_of_law ta)) (of_own f (subst Q (ty_of_law ta) b)))
    h_path t ts p ta h error m = q
    h_path {a = a} t ts p ta h open' m = h_left T a t ts q h

  mutual
    interpret_hold : {e : Expr} {T : Ty} → Typed S e T → TypesHold Q e → TypesHold Q (interpret S P e)
    interpret_hold (tlit f) h = h
    interpret_hold terr h = h
    interpret_hold (tvar {x = x} e) h = h_var Q h _ S P (P.request x) h
    interpret_hold (tand {a = a} {b = b} ta tb) (q, h, i) = h_and Q q (interpret S P a) (interpret S P b) (interpret_hold ta h) (interpret_hold tb i) (class (interpret S P a)) (class (interpret S P b))
    interpret_hold (tor {a = a} {b = b} ta tb) (q, h, i) = h_or Q q (interpret S P a) (interpret S P b) (interpret_hold ta h) (interpret_hold tb i) (class (interpret S P a)) (class (interpret S P b))
    interpret_hold (tite {c = c} {a = a} {b = b} tc ta tb) (q, g, h, i) = h_if Q q (interpret S P a) (interpret S P b) (interpret_hold ta h) (interpret_hold tb i) (interpret S P c) (interpret_hold tc g) (class (interpret S P c))
    interpret_hold (tun {u = u} {a = a} o ta) (q, h) = h_decide Q q _ (can_err (interpret S P a)) (un_rule S u (ty_of (interpret S P a))) (h_strict1 Q q _ (λ v. gives (apply_un S u v)) (view (interpret S P a)) (q, interpret_hold ta h))
    interpret_hold (tbin {o = o} {a = a} {b = b} k ta tb) (q, h, i) = h_decide Q q _ (can_err (interpret S P a) || can_err (interpret S P b)) (bin_rule S o (ty_of (interpret S P a)) (ty_of (interpret S P b)))
        (h_strict2 Q q _ (λ v w. gives (apply_bin o v w)) (view (interpret S P a)) (view (interpret S P b)) (q, interpret_hold ta h, interpret_hold tb i))
    interpret_hold (trel {o = o} {a = a} {b = b} k ta tb) (q, h, i) = h_decide Q q _ (can_err (interpret S P a) || can_err (interpret S P b)) (rel_rule S o (ty_of (interpret S P a)) (ty_of (interpret S P b)))
        (h_strict2 Q q _ (rel_known P o) (view (interpret S P a)) (view (interpret S P b)) (q, interpret_hold ta h, interpret_hold tb i))
    interpret_hold (tget {a = a} {t = t} e ta) (q, h) = h_strict1 Q q _ (get_known P t) (view (interpret S P a)) (q, interpret_hold ta h)
    interpret_hold (thas {a = a} {t = t} e ta) (q, h) = h_decide Q q _ (can_err (interpret S P a)) (has_rule S t (ty_of (interpret S P a))) (h_strict1 Q q _ (has_known P t) (view (interpret S P a)) (q, interpret_hold ta h))
    interpret_hold (tpath {a = a} {t = t} {ts = ts} p ta) (q, h) = h_path _ q t ts p (sound S P C ft ag ta).typed (interpret_hold ta h) (view (interpret S P a)) (view_means S C (interpret S P a))
    interpret_hold (tset' {es = es} k) (q, h) = h_set Q q (interprets S P es) (values (interprets S P es)) (all_hold k h)
    interpret_hold (trec' {gs = gs} k c) (q, h) = h_rec Q q (interpret_args S P gs) (fields (interpret_args S P gs)) (args_hold k h)

    all_hold : {es : Exprs} {A : Ty} → AllTyped S es A → AllHold Q es → AllHold Q (interprets S P es)
    all_hold nil_typed h = tt
    all_hold (cons_typed k ks) (h, hs) = (interpret_hold k h, all_hold ks hs)

    args_hold : {gs : Args} {R : Attrs} → ArgsTyped S gs R → ArgsHold Q gs → ArgsHold Q (interpret_args S P gs)
    args_hold no_arg h = tt
    args_hold (one_arg d k ks) (h, hs) = (interpret_hold k h, args_hold ks hs)

-- THE THEOREM: over known parts that fit, where Q passes from an entity or record type to the types of its attributes and to a single kind's
pub types_kept : (S : Schema) (P : PEnv) → KnownFits S P → (Q : Ty → Type 0) → Passes S Q
    → {e : Expr} {T : Ty} → Typed S e T → TypesHold Q e → TypesHold Q (interpret S P e)
types_kept S P k Q pass ty h = let (C, ft, ag) = completed S P k in interpret_hold S P C ft (agree_knows ag) Q pass ty h

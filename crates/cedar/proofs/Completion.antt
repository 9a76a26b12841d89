-- Known parts that fit the schema can be completed: every type has a value, and some complete request and entities fit and agree.
use mathlib.Core.Path.{◌≡◌, refl, ◌∙◌, ap, subst}
use mathlib.Core.Bool.{Bool, true, false}
use mathlib.Core.Option.{Option, none, some, some-injective}
use Prim.Native.Nat.{ℕ}
use lib.Dec.{eqb}
use lib.IntN.{pos}
use borrow.Author.Tests.{eq-eqb}
use Rattle.cedar.proofs.Tools.{no_some, or_left, eqb_self}
use Rattle.cedar.specs.Value.{Value, vbool, vlong, vtext, vent, vset, vrec, Values, vnil, Fields, fnil, fcons, find, found, pick}
use Rattle.cedar.specs.Types.{Ty, tbool, tlong, tstr, tent, tset, trec, Attrs, anil, acons, among, declared, pick_ty, Schema, Var, Needed, Complete, Fits, fbool, flong, ftext, fent, fset, frec, nil_fit, FieldsFit, no_field, one_field}
use Rattle.cedar.specs.Entities.{Env, Line, PEnv, PLine, Agree, LineAgrees, EnvFits, LineFits, TagsFit, no_tag, KindsIn, no_kind}

-- ---- every type has a value

found_pick : (b : Bool) (v w : Value) (o p : Option Value) → found o ≡ found p → found (pick b v o) ≡ found (pick b w p)
found_pick true v w o p e = refl
found_pick false v w o p e = e

found_more : (b : Bool) (v : Value) (o : Option Value) → found o ≡ true → found (pick b v o) ≡ true
found_more true v o e = refl
found_more false v o e = e

needed : (r b : Bool) → b ≡ true → Needed r b
needed true b e = e
needed false b e = tt

complete_more : (R : Attrs) (f g : ℕ → Bool) → ((t : ℕ) → f t ≡ true → g t ≡ true) → Complete R f → Complete R g
complete_more anil f g h c = tt
complete_more (acons t r A bs) f g h c = (go r c.0, complete_more bs f g h c.1)
  where
    go : (r : Bool) → Needed r (f t) → Needed r (g t)
    go true n = h t n
    go false n = tt

-- with one attribute more in front: a field of its name gets a value of its type
module _ (t : ℕ) (r : Bool) (A : Ty) (a : Value) (f : Fits a A) where
  under : {fs : Fields} {bs : Attrs} → FieldsFit fs bs → (gs : Fields) × FieldsFit gs (acons t r A bs) × ((u : ℕ) → found (find u gs) ≡ found (find u fs))
  under no_field = (fnil, no_field, λ u. refl)
  under {bs = bs} (one_field {t = u} {v = v} {fs = fs} {A = B} d g h) = go (eqb u t) refl (under h)
    where
      go : (b : Bool) → eqb u t ≡ b → (gs : Fields) × FieldsFit gs (acons t r A bs) × ((u : ℕ) → found (find u gs) ≡ found (find u fs))
          → (gs : Fields) × FieldsFit gs (acons t r A bs) × ((w : ℕ) → found (find w gs) ≡ found (pick (eqb w u) v (find w fs)))
      go true q (gs, k, e) = (fcons u a gs, one_field (ap (λ b. pick_ty b A (declared u bs)) q) f k, λ w. found_pick (eqb w u) a v (find w gs) (find w fs) (e w))
      go false q (gs, k, e) = (fcons u v gs, one_field (ap (λ b. pick_ty b A (declared u bs)) q ∙ d) g k, λ w. found_pick (eqb w u) v v (find w gs) (find w fs) (e w))

mutual
  pub some_value : (T : Ty) → (v : Value) × Fits v T
  some_value tbool = (vbool false, fbool)
  some_value tlong = (vlong (pos 0), flong)
  some_value tstr = (vtext 0, ftext)
  some_value (tent k ks) = (vent k 0, fent (or_left (eqb k k) (among k ks) (eqb_self k)))
  some_value (tset A) = (vset vnil, fset nil_fit)
  some_value (trec R) = let (fs, h, c) = some_fields R in (vrec fs, frec h c)

  some_fields : (R : Attrs) → (fs : Fields) × FieldsFit fs R × Complete R (λ t. found (find t fs))
  some_fields anil = (fnil, no_field, tt)
  some_fields (acons t r A bs) =
      let (v, f) = some_value A in
      let (fs, h, c) = some_fields bs in
      let (gs, k, e) = under t r A v f h in
      let here : eqb t t ≡ true = eq-eqb t t refl in (
        fcons t v gs,
        one_field (ap (λ b. pick_ty b A (declared t bs)) here) f k,
        (needed r (found (pick (eqb t t) v (find t gs))) (ap (λ b. found (pick b v (find t gs))) here), complete_more bs (λ u. found (find u fs)) (λ u. found (pick (eqb u t) v (find u gs))) (λ u q. found_more (eqb u t) v (find u gs) (e u ∙ q)) c),
      )

-- ---- known parts that fit

module _ (S : Schema) where
  pub record PartsFit (k : ℕ) (p : PLine) : Type 0 where
    pub attrs : (fs : Fields) → p.attrs ≡ some fs → FieldsFit fs (S.shape k).attrs
    pub tags : (fs : Fields) → p.tags ≡ some fs → TagsFit (S.shape k).tags fs
    pub ancestors : (vs : Values) → p.ancestors ≡ some vs → KindsIn (S.shape k).above vs

  pub record KnownFits (P : PEnv) : Type 0 where
    pub request : (x : Var) (v : Value) → P.request x ≡ some v → Fits v (S.request x)
    pub line : (k t : ℕ) (p : PLine) → P.line k t ≡ some p → PartsFit k p

or_else : {A : Type 0} → A → Option A → A
or_else d none = d
or_else d (some a) = a

or_fits : {A : Type 0} (F : A → Type 0) (d : A) (o : Option A) → F d → ((a : A) → o ≡ some a → F a) → F (or_else d o)
unfolding or_else
or_fits F d none f h = f
or_fits F d (some a) f h = h a refl

or_same : {A : Type 0} (d a : A) (o : Option A) → o ≡ some a → or_else d o ≡ a
unfolding or_else
or_same d a none e = no_some e
or_same d a (some b) e = some-injective b a e

-- what is unknown is nothing; what is asked and unknown, some value of its type
full_line : PLine → Line
full_line p = record { attrs = or_else fnil p.attrs; tags = or_else fnil p.tags; ancestors = or_else vnil p.ancestors }

full_lines : Option PLine → Option Line
full_lines none = none
full_lines (some p) = some (full_line p)

full : Schema → PEnv → Env
full S P = record { request = λ x. or_else (some_value (S.request x)).0 (P.request x); line = λ k t. full_lines (P.line k t) }

-- THERE IS ONE that fits and agrees
pub completed : (S : Schema) (P : PEnv) → KnownFits S P → (C : Env) × EnvFits S C × Agree P C
unfolding full full_lines full_line
completed S P h = (
  full S P,
  record { request = λ x. or_fits (λ v. Fits v (S.request x)) (some_value (S.request x)).0 (P.request x) (some_value (S.request x)).1 (h.request x); line = λ k t l e. fits k t l (P.line k t) refl e },
  record { request = λ x v e. or_same (some_value (S.request x)).0 v (P.request x) e; line = λ k t p e. agrees k t p e },
)
  where
    fits : (k t : ℕ) (l : Line) (o : Option PLine) → P.line k t ≡ o → full_lines o ≡ some l → LineFits S k l
    fits k t l none q e = no_some e
    fits k t l (some p) q e = subst (LineFits S k) (some-injective _ _ e) (record {
      attrs = or_fits (λ fs. FieldsFit fs (S.shape k).attrs) fnil p.attrs no_field (h.line k t p q).attrs;
      tags = or_fits (λ fs. TagsFit (S.shape k).tags fs) fnil p.tags no_tag (h.line k t p q).tags;
      ancestors = or_fits (λ vs. KindsIn (S.shape k).above vs) vnil p.ancestors no_kind (h.line k t p q).ancestors;
    })

    agrees : (k t : ℕ) (p : PLine) → P.line k t ≡ some p → (l : Line) × ((full S P).line k t ≡ some l) × LineAgrees p l
    agrees k t p e = (full_line p, ap full_lines e, record { attrs = λ fs q. or_same fnil fs p.attrs q; tags = λ fs q. or_same fnil fs p.tags q; ancestors = λ vs q. or_same vnil vs p.ancestors q })

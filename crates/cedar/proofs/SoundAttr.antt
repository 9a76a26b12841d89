-- The steps of get, has and haspath keep type and result, with the type rule of undeclared attributes.
use mathlib.Core.Path.{◌≡◌, refl, subst, sym, ap}
use mathlib.Core.Bool.{Bool, true, false, ◌&&◌}
use mathlib.Core.Option.{Option, none, some}
use mathlib.Core.List.{List, [], ◌∷◌}
use Prim.Native.Nat.{ℕ}
use Rattle.cedar.proofs.Tools.{no_some, no_true, and_right, each_at, only_kind, in_alone}
use Rattle.cedar.specs.Value.{Value, vbool, vlong, vtext, vent, vset, vrec, Fields, Result, ok, fail, bind, ok_bool, find, found, on_some}
use Rattle.cedar.specs.Types.{Ty, tbool, tlong, tstr, tent, tset, trec, Attrs, among, each_kind, declared, Schema, Fits, fbool, flong, ftext, fent, fset, frec, FieldsFit}
use Rattle.cedar.specs.Residual.{Expr, lit, get, has, haspath, ty_of, can_err, value, error, open', view}
use Rattle.cedar.specs.Typing.{Each, IfDeclared, PathOk, Typed, tlit, tget, thas, tpath}
use Rattle.cedar.specs.Entities.{Env, PEnv, EnvFits, entity, pentity}
use Rattle.cedar.proofs.Agrees.{Knows}
use Rattle.cedar.specs.Evaluate.{eval, apply_path, fields_of}
use Rattle.cedar.specs.Interpret.{alone, left_path, View, gives, stays, on_fields, get_known, has_known, walk, simp_path, step_get, step_has, step_path}
use Rattle.cedar.specs.TypeRules.{ordinary, undeclared, has_rule}
use Rattle.cedar.proofs.Yields.{Yields, fields_fit_law, entity_fits, find_none, step_fits}
use Rattle.cedar.proofs.TypeSound.{yields}
use Rattle.cedar.proofs.Kept.{Kept, Means, Tells, ty_of_law, fitting, view_means, kept, k_lit, k_err, k_strict1, k_decide}
use Rattle.cedar.proofs.SoundPlain.{ruled_out, undeclared_none}
use Rattle.cedar.proofs.Yields as Y

-- what is known: no typing is needed

module _ (P : PEnv) (C : Env) (ag : Knows P C) where
  tell_fields : (o : Option Fields) (fs : Fields) (f : Fields → Result) → ((gs : Fields) → o ≡ some gs → fs ≡ gs) → Tells (on_some stays o (λ gs. gives (f gs))) (f fs)
  tell_fields none fs f h = tt
  tell_fields (some gs) fs f h = ap f (h gs refl)

  tell : (f : Fields → Result) (v : Value) → Tells (on_fields P (gives fail) (λ k u. stays) v (λ fs. gives (f fs))) (on_some fail (fields_of C v) f)
  tell f (vbool b) = refl
  tell f (vlong n) = refl
  tell f (vtext t) = refl
  tell f (vent k t) = tell_fields (pentity P k t).attrs (entity C k t).attrs f (ag.line k t).attrs
  tell f (vset vs) = refl
  tell f (vrec fs) = refl

-- ---- an entity of a group, by its kind alone

-- P of the kind, if the value is an entity
abbrev pub OfKind : Value → (ℕ → Type 0) → Type 0
OfKind (vbool b) P = Unit {0}
OfKind (vlong n) P = Unit {0}
OfKind (vtext t) P = Unit {0}
OfKind (vent k i) P = P k
OfKind (vset vs) P = Unit {0}
OfKind (vrec fs) P = Unit {0}

module _ (S : Schema) where
  each_alone : (P : Attrs → Type 0) (k l : ℕ) (ls : List ℕ) → among k (l ∷ ls) ≡ true → Each S (tent l ls) P → Each S (alone k) P
  each_alone P k l ls m e j n = subst (λ z. P (S.shape z).attrs) (sym (only_kind j k n)) (e k m)

  path_alone : (ts : List ℕ) (t k l : ℕ) (ls : List ℕ) → among k (l ∷ ls) ≡ true → PathOk S ts t (tent l ls) → PathOk S ts t (alone k)
  path_alone [] t k l ls m p = each_alone (λ R. Unit {0}) k l ls m p
  path_alone (u ∷ us) t k l ls m p = each_alone (λ R. IfDeclared S (declared t R) (λ B. PathOk S us u B)) k l ls m p

  -- what may be left over: a typed path over an entity of type U of its kind
  abbrev Leads : (ℕ → Ty) → List ℕ → ℕ → Value → Type 0
  Leads U ts t v = OfKind v (λ k. PathOk S ts t (U k) × Fits v (U k))

  leads_alone : (ts : List ℕ) (t : ℕ) {v : Value} {A : Ty} → PathOk S ts t A → Fits v A → Leads alone ts t v
  leads_alone ts t p fbool = tt
  leads_alone ts t p flong = tt
  leads_alone ts t p ftext = tt
  leads_alone ts t p (fent {k = k} {l = l} {ls = ls} m) = (path_alone ts t k l ls m p, fent (in_alone k))
  leads_alone ts t p (fset h) = tt
  leads_alone ts t p (frec h c) = tt

  leads_own : (ts : List ℕ) (t : ℕ) {v : Value} {A : Ty} → PathOk S ts t A → Fits v A → Leads (λ k. A) ts t v
  leads_own ts t p fbool = tt
  leads_own ts t p flong = tt
  leads_own ts t p ftext = tt
  leads_own ts t p (fent m) = (p, fent m)
  leads_own ts t p (fset h) = tt
  leads_own ts t p (frec h c) = tt

module _ (S : Schema) (C : Env) (ft : EnvFits S C) where
  -- the type rule: an undeclared attribute ends has and haspath with false
  has_rule_law : (t : ℕ) (A : Ty) {b : Bool} → has_rule S t A ≡ some b → Each S A (λ R. declared t R ≡ none) × (b ≡ false)
  has_rule_law t tbool e = no_some e
  has_rule_law t tlong e = no_some e
  has_rule_law t tstr e = no_some e
  has_rule_law t (tent l ls) e =
      let (n, f) = ruled_out (each_kind (λ k. ordinary (S.shape k) && undeclared (declared t (S.shape k).attrs)) (l ∷ ls)) e in
      (λ k m. undeclared_none (declared t (S.shape k).attrs) (and_right (ordinary (S.shape k)) _ (each_at (λ k. ordinary (S.shape k) && undeclared (declared t (S.shape k).attrs)) (l ∷ ls) n k m)), f)
  has_rule_law t (tset A) e = no_some e
  has_rule_law t (trec R) e = let (n, f) = ruled_out (undeclared (declared t R)) e in (undeclared_none (declared t R) n, f)

  path_none : (t : ℕ) (ts : List ℕ) (v : Value) {fs : Fields} → fields_of C v ≡ some fs → find t fs ≡ none → apply_path C ts t v ≡ ok_bool false
  path_none t [] v e f = rw (e, f)
  path_none t (u ∷ us) v e f = rw (e, f)

  path_rule : (t : ℕ) (ts : List ℕ) {A : Ty} {p b : Bool} {r : Result} → Yields A p r → p ≡ false → has_rule S t A ≡ some b → bind r (apply_path C ts t) ≡ ok_bool b
  path_rule t ts {A} (Y.value {v = v} f) q e =
      let (a, n) = has_rule_law t A e in
      let (R, d, fs, g, h) = fields_fit_law S C ft (λ R. declared t R ≡ none) a f in
      rw n (path_none t ts v g (find_none t d h))
  path_rule t ts Y.error q e = no_true (sym q)

  k_path : {a : Expr} {A : Ty} (t : ℕ) (ts : List ℕ) → PathOk S ts t A → Typed S a A → Kept S C (haspath tbool a t ts) tbool (left_path S tbool a t ts)
  k_path {a = a} t ts p ta =
      k_decide S C ft (tpath p ta) (can_err a) (has_rule S t (ty_of a)) (λ q b x. path_rule t ts (yields S C ft ta) q (rw (ty_of_law ta) at x)) (kept S C ft (tpath p ta))

  module _ (P : PEnv) (ag : Knows P C) where
    pub sound_get : {a : Expr} {A T : Ty} {t : ℕ} → Each S A (λ R. declared t R ≡ some T) → Typed S a A → Kept S C (get T a t) T (step_get S P T a t)
    sound_get {a = a} {t = t} e ta =
        k_strict1 S C ft (tget e ta) (get_known P t) (eval S C a) (view a) (view_means S C a) (λ v q. rw q (tell P C ag (λ fs. on_some fail (find t fs) ok) v)) (λ q. rw q)

    pub sound_has : {a : Expr} {A : Ty} (t : ℕ) → Each S A (λ R. Unit {0}) → Typed S a A → Kept S C (has tbool a t) tbool (step_has S P tbool a t)
    sound_has {a = a} t e ta =
        k_decide S C ft (thas e ta) (can_err a) (has_rule S t (ty_of a)) (λ q b x. path_rule t [] (yields S C ft ta) q (rw (ty_of_law ta) at x))
        (k_strict1 S C ft (thas e ta) (has_known P t) (eval S C a) (view a) (view_means S C a) (λ v q. rw q (tell P C ag (λ fs. ok_bool (found (find t fs))) v)) (λ q. rw q))

    -- the walk, from a value whose fields are known, to its end or on by one step
    module _ {A : Ty} {v : Value} {t : ℕ} {fs : Fields} (e : fields_of C v ≡ some fs) where
      walk_end : Typed S (haspath tbool (lit A v) t []) tbool → Kept S C (haspath tbool (lit A v) t []) tbool (lit tbool (vbool (found (find t fs))))
      walk_end tk = k_lit S C ft tk (rw e)

      module _ {R : Attrs} {u : ℕ} {us : List ℕ} (h : FieldsFit fs R) (tk : Typed S (haspath tbool (lit A v) t (u ∷ us)) tbool)
          (on : (w : Value) (B : Ty) → PathOk S us u B → Fits w B → Kept S C (haspath tbool (lit B w) u us) tbool (walk P S tbool alone us u w)) where
        walk_on : IfDeclared S (declared t R) (λ B. PathOk S us u B) → (w : Value) → find t fs ≡ some w → Kept S C (haspath tbool (lit A v) t (u ∷ us)) tbool (walk P S tbool alone us u w)
        walk_on d w q = let (B, n, p, f) = step_fits S C ft t (λ B. PathOk S us u B) h q d in let k = on w B p f in record { typed = k.typed; same = rw (e, q) k.same }

        walk_step : IfDeclared S (declared t R) (λ B. PathOk S us u B) → (o : Option Value) → find t fs ≡ o → Kept S C (haspath tbool (lit A v) t (u ∷ us)) tbool (on_some (lit tbool (vbool false)) o (walk P S tbool alone us u))
        walk_step d none q = k_lit S C ft tk (rw (e, q))
        walk_step d (some w) q = walk_on d w q

    known_attrs : (k i : ℕ) (fs : Fields) → (pentity P k i).attrs ≡ some fs → (fields_of C (vent k i) ≡ some fs) × FieldsFit fs (S.shape k).attrs
    known_attrs k i fs q = (ap some ((ag.line k i).attrs fs q), subst (λ x. FieldsFit x (S.shape k).attrs) ((ag.line k i).attrs fs q) (entity_fits S C ft k i).attrs)

    -- from an entity: left over where its attributes are unknown
    walk_ent : {k i : ℕ} {A : Ty} (U : Ty) (t : ℕ) (ts : List ℕ) (on : Fields → Expr) → PathOk S ts t U → Fits (vent k i) U
        → ((fs : Fields) → fields_of C (vent k i) ≡ some fs → FieldsFit fs (S.shape k).attrs → Kept S C (haspath tbool (lit A (vent k i)) t ts) tbool (on fs))
        → (o : Option Fields) → (pentity P k i).attrs ≡ o → Kept S C (haspath tbool (lit A (vent k i)) t ts) tbool (on_some (left_path S tbool (lit U (vent k i)) t ts) o on)
    walk_ent U t ts on p f h none q = let k = k_path t ts p (tlit f) in record { typed = k.typed; same = k.same }
    walk_ent {k = k} {i = i} U t ts on p f h (some fs) q = let (d, g) = known_attrs k i fs q in h fs d g

    walked_end : (U : ℕ → Ty) (t : ℕ) {v : Value} {A : Ty} → PathOk S [] t A → Fits v A → Leads S U [] t v → Kept S C (haspath tbool (lit A v) t []) tbool (walk P S tbool U [] t v)
    walked_end U t p fbool l = absurd p
    walked_end U t p flong l = absurd p
    walked_end U t p ftext l = absurd p
    walked_end U t p (fset h) l = absurd p
    walked_end U t p (frec h c) l = walk_end refl (tpath p (tlit (frec h c)))
    walked_end U t p (fent {k = k} {t = i} m) (d, f) =
        walk_ent (U k) t [] (λ fs. lit tbool (vbool (found (find t fs)))) d f (λ fs d g. walk_end d (tpath p (tlit (fent m)))) (pentity P k i).attrs refl

    module _ {u : ℕ} {us : List ℕ} (on : (w : Value) (B : Ty) → PathOk S us u B → Fits w B → Kept S C (haspath tbool (lit B w) u us) tbool (walk P S tbool alone us u w)) where
      walked_on : (U : ℕ → Ty) (t : ℕ) {v : Value} {A : Ty} → PathOk S (u ∷ us) t A → Fits v A → Leads S U (u ∷ us) t v → Kept S C (haspath tbool (lit A v) t (u ∷ us)) tbool (walk P S tbool U (u ∷ us) t v)
      walked_on U t p fbool l = absurd p
      walked_on U t p flong l = absurd p
      walked_on U t p ftext l = absurd p
      walked_on U t p (fset h) l = absurd p
      walked_on U t p (frec {fs = fs} h c) l = walk_step refl h (tpath p (tlit (frec h c))) on p (find t fs) refl
      walked_on U t p (fent {k = k} {t = i} m) (d, f) =
          walk_ent (U k) t (u ∷ us) (λ fs. on_some (lit tbool (vbool false)) (find t fs) (walk P S tbool alone us u)) d f
          (λ fs e g. walk_step e g (tpath p (tlit (fent m))) on (p k m) (find t fs) refl) (pentity P k i).attrs refl

    walked : (ts : List ℕ) (U : ℕ → Ty) (t : ℕ) {v : Value} {A : Ty} → PathOk S ts t A → Fits v A → Leads S U ts t v → Kept S C (haspath tbool (lit A v) t ts) tbool (walk P S tbool U ts t v)
    walked [] U t p f l = walked_end U t p f l
    walked (u ∷ us) U t p f l = walked_on (λ w B q g. walked us alone u q g (leads_alone S us u q g)) U t p f l

    pub sound_path : {a : Expr} {A : Ty} (t : ℕ) (ts : List ℕ) → PathOk S ts t A → Typed S a A → Kept S C (haspath tbool a t ts) tbool (step_path S P tbool a t ts)
    sound_path {a = a} {A = A} t ts p ta = go (view a) (view_means S C a)
      where
        go : (w : View) → Means w (eval S C a) → Kept S C (haspath tbool a t ts) tbool (simp_path S P tbool a t ts w)
        go (value v) m =
            let f = fitting (yields S C ft ta) m in
            let k = walked ts (λ l. ty_of a) t p f (subst (λ B. Leads S (λ l. B) ts t v) (sym (ty_of_law ta)) (leads_own S ts t p f)) in
            record { typed = k.typed; same = rw m k.same }
        go error m = k_err S C ft (tpath p ta) (rw m)
        go open' m = k_path t ts p ta

-- The steps of in, gettag and hastag keep type and result, with their type rules.
use mathlib.Core.Path.{◌≡◌, refl, sym, ap}
use mathlib.Core.Bool.{Bool, true, false, not, ◌||◌, ◌&&◌, cond}
use mathlib.Core.Option.{Option, none, some}
use mathlib.Core.List.{List, ◌∷◌}
use Prim.Native.Nat.{ℕ}
use borrow.Author.Tests.{not-true}
use lib.Dec.{eqb}
use Rattle.cedar.proofs.Tools.{no_some, no_true, and_right, neither, differ, each_at, no_kind_law}
use Rattle.cedar.proofs.CanonicalLaws.{other_kind}
use Rattle.cedar.specs.Canonical.{member}
use Rattle.cedar.specs.Value.{Value, vbool, vlong, vtext, vent, vset, vrec, Values, vnil, vcons, Result, ok, fail, ok_bool, find, found, on_some}
use Rattle.cedar.specs.Types.{Ty, tent, among, some_kind, each_kind, Schema, Fits, fent, ftext, fset, AllFit, nil_fit, cons_fit}
use Rattle.cedar.specs.Residual.{Expr, rel, ty_of, can_err, Rel, rin, rgettag, rhastag, view}
use Rattle.cedar.specs.Typing.{RelOk, in_ok, in_set_ok, get_tag_ok, has_tag_ok, Typed, trel}
use Rattle.cedar.specs.Entities.{Env, PEnv, EnvFits, entity, pentity, KindsIn, no_kind, one_kind}
use Rattle.cedar.proofs.Agrees.{Knows}
use Rattle.cedar.specs.Evaluate.{eval, apply_rel, bind2, targets, within, any_in, is_empty}
use Rattle.cedar.specs.Interpret.{gives, stays, rel_known, in_known, known, step_rel}
use Rattle.cedar.specs.TypeRules.{ordinary, false_if, undeclared, allows, rel_rule}
use Rattle.cedar.proofs.Yields.{Yields, value, error, ent_all, entity_fits, no_tag_law}
use Rattle.cedar.proofs.TypeSound.{yields}
use Rattle.cedar.proofs.Kept.{Kept, Tells, ty_of_law, fitting, view_means, k_strict2, k_decide}
use Rattle.cedar.proofs.SoundPlain.{ruled_out, undeclared_none, bind2_left, bind2_right}

-- what is known: no typing is needed

module _ (P : PEnv) (C : Env) (ag : Knows P C) where
  tell_in : (v : Value) (o : Option Values) (as' ts : Values) → ((bs : Values) → o ≡ some bs → as' ≡ bs) → Tells (in_known P v o ts) (ok_bool (within v as' ts))
  tell_in v (some bs) as' ts h = rw (h bs refl)
  tell_in v none as' ts h = go (member v ts) ts refl
    where
      empty : (b : Bool) (us : Values) → is_empty us ≡ b → Tells (cond b (gives (ok (vbool false))) stays) (ok_bool (any_in us as'))
      empty true vnil e = refl
      empty true (vcons u us) e = no_true e
      empty false us e = tt

      go : (b : Bool) (us : Values) → member v us ≡ b → Tells (cond b (gives (ok (vbool true))) (cond (is_empty us) (gives (ok (vbool false))) stays)) (ok_bool (b || any_in us as'))
      go true us e = refl
      go false us e = empty (is_empty us) us refl

  tell_known : {A : Type 0} (o : Option A) (a : A) (f : A → Result) → ((b : A) → o ≡ some b → a ≡ b) → Tells (known o f) (f a)
  tell_known none a f h = tt
  tell_known (some b) a f h = ap f (h b refl)

  tell_targets : (k t : ℕ) (o : Option Values) → Tells (on_some (gives fail) o (in_known P (vent k t) (pentity P k t).ancestors)) (on_some fail o (λ ts. ok_bool (within (vent k t) (entity C k t).ancestors ts)))
  tell_targets k t none = refl
  tell_targets k t (some ts) = tell_in (vent k t) (pentity P k t).ancestors (entity C k t).ancestors ts (ag.line k t).ancestors

  tell_tag : (o : Rel) (k t : ℕ) (w : Value) → Tells (rel_known P o (vent k t) w) (apply_rel C o (vent k t) w)
  tell_tag rin k t w = tell_targets k t (targets w)
  tell_tag rgettag k t (vbool b) = refl
  tell_tag rgettag k t (vlong n) = refl
  tell_tag rgettag k t (vtext u) = tell_known (pentity P k t).tags (entity C k t).tags (λ fs. on_some fail (find u fs) ok) (ag.line k t).tags
  tell_tag rgettag k t (vent l u) = refl
  tell_tag rgettag k t (vset vs) = refl
  tell_tag rgettag k t (vrec fs) = refl
  tell_tag rhastag k t (vbool b) = refl
  tell_tag rhastag k t (vlong n) = refl
  tell_tag rhastag k t (vtext u) = tell_known (pentity P k t).tags (entity C k t).tags (λ fs. ok (vbool (found (find u fs)))) (ag.line k t).tags
  tell_tag rhastag k t (vent l u) = refl
  tell_tag rhastag k t (vset vs) = refl
  tell_tag rhastag k t (vrec fs) = refl

-- the type rule of in: entities of other kinds are nowhere above

other_all : (k t : ℕ) {l : ℕ} {ls : List ℕ} {ts : Values} → ((m : ℕ) → among m (l ∷ ls) ≡ true → eqb k m ≡ false) → AllFit ts (tent l ls) → member (vent k t) ts ≡ false
other_all k t e nil_fit = refl
other_all k t e (cons_fit (fent {k = m} {t = u} i) h) = rw (other_kind k m t u (e m i)) (other_all k t e h)

not_above : (l u : ℕ) {ls : List ℕ} {vs : Values} → among l ls ≡ false → KindsIn ls vs → member (vent l u) vs ≡ false
not_above l u e no_kind = refl
not_above l u {ls} e (one_kind {k = m} {t = w} f h) = rw (other_kind l m u w (differ l m ls e f)) (not_above l u e h)

none_above : {l : ℕ} {ls as' : List ℕ} {ts vs : Values} → ((m : ℕ) → among m (l ∷ ls) ≡ true → among m as' ≡ false) → KindsIn as' vs → AllFit ts (tent l ls) → any_in ts vs ≡ false
none_above e h nil_fit = refl
none_above e h (cons_fit (fent {k = m} {t = u} i) g) = rw (not_above m u (e m i) h) (none_above e h g)

module _ (S : Schema) (C : Env) (ft : EnvFits S C) where
  in_rule : (k t : ℕ) (ks : List ℕ) {l : ℕ} {ls : List ℕ} {ts : Values} {b : Bool} → among k ks ≡ true → false_if (not (some_kind (λ m. some_kind (allows S m) (l ∷ ls)) ks)) ≡ some b
      → AllFit ts (tent l ls) → ok_bool (within (vent k t) (entity C k t).ancestors ts) ≡ ok_bool b
  in_rule k t ks {l} {ls} i e h =
      let (x, f) = ruled_out (not (some_kind (λ m. some_kind (allows S m) (l ∷ ls)) ks)) e in
      let none' : some_kind (allows S k) (l ∷ ls) ≡ false = no_kind_law (λ m. some_kind (allows S m) (l ∷ ls)) ks (not-true _ x) k i in
      let no' : (m : ℕ) → among m (l ∷ ls) ≡ true → (eqb k m ≡ false) × (among m (S.shape k).above ≡ false) = λ m j. neither (eqb k m) (among m (S.shape k).above) (no_kind_law (allows S k) (l ∷ ls) none' m j) in
      rw (other_all k t (λ m j. (no' m j).0) h, none_above (λ m j. (no' m j).1) (entity_fits S C ft k t).ancestors h, f)

  tag_rule : (k t u : ℕ) (ks : List ℕ) {b : Bool} → among k ks ≡ true → false_if (each_kind (λ m. ordinary (S.shape m) && undeclared (S.shape m).tags) ks) ≡ some b → ok_bool (found (find u (entity C k t).tags)) ≡ ok_bool b
  tag_rule k t u ks i e =
      let (x, f) = ruled_out (each_kind (λ m. ordinary (S.shape m) && undeclared (S.shape m).tags) ks) e in
      let n = and_right (ordinary (S.shape k)) _ (each_at (λ m. ordinary (S.shape m) && undeclared (S.shape m).tags) ks x k i) in
      rw (no_tag_law (undeclared_none (S.shape k).tags n) (entity_fits S C ft k t).tags, f)

  rel_rule_law : {o : Rel} {A B T : Ty} {p q : Bool} {r s : Result} {b : Bool} → RelOk S o A B T → Yields A p r → Yields B q s → (p || q) ≡ false → rel_rule S o A B ≡ some b → bind2 r s (apply_rel C o) ≡ ok_bool b
  rel_rule_law (in_ok {k = l} {l = m} {ks = ls} {ls = ms}) (value (fent {k = k} {t = t} i)) (value (fent j)) z e = in_rule k t (l ∷ ls) {l = m} {ls = ms} i e (cons_fit (fent j) nil_fit)
  rel_rule_law (in_set_ok {k = l} {l = m} {ks = ls} {ls = ms}) (value (fent {k = k} {t = t} i)) (value (fset h)) z e = rw (ent_all h) (in_rule k t (l ∷ ls) {l = m} {ls = ms} i e h)
  rel_rule_law (get_tag_ok d) (value f) (value g) z e = no_some e
  rel_rule_law (has_tag_ok {k = l} {ks = ls}) (value (fent {k = k} {t = t} i)) (value (ftext {t = u})) z e = tag_rule k t u (l ∷ ls) i e
  rel_rule_law {p = p} h (value f) error z e = no_true (sym (neither p true z).1)
  rel_rule_law h error y z e = no_true (sym z)

  module _ (P : PEnv) (ag : Knows P C) where
    tell_rel : {o : Rel} {A B T : Ty} → RelOk S o A B T → (v w : Value) → Fits v A → Tells (rel_known P o v w) (apply_rel C o v w)
    tell_rel {o = o} in_ok v w (fent {k = k} {t = t} i) = tell_tag P C ag o k t w
    tell_rel {o = o} in_set_ok v w (fent {k = k} {t = t} i) = tell_tag P C ag o k t w
    tell_rel {o = o} (get_tag_ok d) v w (fent {k = k} {t = t} i) = tell_tag P C ag o k t w
    tell_rel {o = o} has_tag_ok v w (fent {k = k} {t = t} i) = tell_tag P C ag o k t w

    pub sound_rel : {o : Rel} {A B T : Ty} {a b : Expr} → RelOk S o A B T → Typed S a A → Typed S b B → Kept S C (rel T o a b) T (step_rel S P T o a b)
    sound_rel {o = o} {a = a} {b = b} h ta tb =
        k_decide S C ft (trel h ta tb) (can_err a || can_err b) (rel_rule S o (ty_of a) (ty_of b)) (λ q d e. rel_rule_law h (yields S C ft ta) (yields S C ft tb) q (rw (ty_of_law ta, ty_of_law tb) at e))
        (k_strict2 S C ft (trel h ta tb) (rel_known P o) (eval S C a) (eval S C b) (view a) (view b) (view_means S C a) (view_means S C b)
        (λ v w e f. rw (e, f) (tell_rel h v w (fitting (yields S C ft ta) e))) (bind2_left (eval S C b) (apply_rel C o)) (bind2_right (eval S C a) (apply_rel C o)))

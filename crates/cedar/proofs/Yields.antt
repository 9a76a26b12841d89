-- Type soundness and the error analysis in one statement: on a complete request and entities that fit the schema a typed tree yields
-- a value of its type, or an error, and this only where `canErr` says so. One lemma an operation.
use mathlib.Core.Path.{◌≡◌, refl, subst, sym, ◌∙◌}
use mathlib.Core.Bool.{Bool, true, false, cond, ◌||◌}
use mathlib.Core.Option.{Option, none, some, some-injective}
use mathlib.Core.List.{List, [], ◌∷◌}
use Prim.Native.Nat.{ℕ}
use lib.IntN.{ℤ, neg_ℤ, ◌+ℤ◌, ◌-ℤ◌, ◌*ℤ◌}
use lib.Dec.{eqb}
use Rattle.cedar.proofs.Tools.{no_some, the_same, eqb_true}
use Rattle.cedar.specs.Value.{Value, vlong, Values, Fields, fnil, Result, ok, fail, bind, find, pick, on_some}
use Rattle.cedar.specs.Types.{Ty, tbool, tlong, tent, Attrs, declared, Schema, Fits, fbool, flong, ftext, fent, fset, frec, AllFit, nil_fit, cons_fit, FieldsFit, no_field, one_field}
use Rattle.cedar.specs.Residual.{Un, Bin, Rel, un_errs, bin_errs, rel_errs}
use Rattle.cedar.specs.Typing.{UnOk, not_ok, neg_ok, empty_ok, is_ok, like_ok, BinOk, eq_ok, eq_ent_ok, lt_ok, le_ok, add_ok, sub_ok, mul_ok, contains_ok, all_ok, any_ok, RelOk, in_ok, in_set_ok, get_tag_ok, has_tag_ok, Each, IfDeclared, PathOk}
use Rattle.cedar.specs.Entities.{Env, Line, entity, line_or, EnvFits, LineFits, no_kind, TagsFit, no_tag, one_tag}
use Rattle.cedar.specs.Evaluate.{apply_un, apply_bin, apply_rel, apply_get, apply_has, apply_path, in_range, ok_long, fields_of, all_ent, eval_and, eval_or, eval_if, bind2}

-- a value of T, or an error where one may be
pub data Yields (T : Ty) : Bool → Result → Type 0 where
  value : {b : Bool} {v : Value} → Fits v T → Yields T b (ok v)
  error : Yields T true fail

pub may : {T : Ty} {b : Bool} {r : Result} → Yields T b r → Yields T true r
may (value f) = value f
may error = error

pub orr : {T : Ty} (p : Bool) {q : Bool} {r : Result} → Yields T q r → Yields T (p || q) r
orr true y = may y
orr false y = y

pub orl : {T : Ty} {p : Bool} (q : Bool) {r : Result} → Yields T p r → Yields T (p || q) r
orl q {r} (value f) = value f
orl q error = error

-- and, or, if

pub y_and : {p q : Bool} {r s : Result} → Yields tbool p r → Yields tbool q s → Yields tbool (p || q) (eval_and r s)
y_and (value (fbool {b = true})) (value fbool) = value fbool
y_and {p = p} (value (fbool {b = true})) error = orr p error
y_and (value (fbool {b = false})) y = value fbool
y_and error y = error

pub y_or : {p q : Bool} {r s : Result} → Yields tbool p r → Yields tbool q s → Yields tbool (p || q) (eval_or r s)
y_or (value (fbool {b = true})) y = value fbool
y_or (value (fbool {b = false})) (value fbool) = value fbool
y_or {p = p} (value (fbool {b = false})) error = orr p error
y_or error y = error

pub y_if : {T : Ty} {c p q : Bool} {t r s : Result} → Yields tbool c t → Yields T p r → Yields T q s → Yields T (c || p || q) (eval_if t r s)
y_if {c = c} {p} {q} (value (fbool {b = true})) y z = orl q (orr c y)
y_if {c = c} {p} {q} (value (fbool {b = false})) y z = orr (c || p) z
y_if error y z = error

-- operations that look at no entity

y_cond : (b : Bool) (n : ℤ) → Yields tlong true (cond b (ok (vlong n)) fail)
y_cond true n = value flong
y_cond false n = error

y_long : (n : ℤ) → Yields tlong true (ok_long n)
y_long n = y_cond (in_range n) n

module _ (S : Schema) where
  pub y_un : {u : Un} {A T : Ty} {p : Bool} {r : Result} → UnOk S u A T → Yields A p r → Yields T (un_errs u || p) (bind r (apply_un S u))
  y_un not_ok (value fbool) = value fbool
  y_un neg_ok (value (flong {n = n})) = y_long (neg_ℤ n)
  y_un empty_ok (value (fset h)) = value fbool
  y_un is_ok (value (fent m)) = value fbool
  y_un like_ok (value ftext) = value fbool
  y_un {u = u} o error = orr (un_errs u) error

  pub y_bin : {o : Bin} {A B T : Ty} {p q : Bool} {r s : Result} → BinOk S o A B T → Yields A p r → Yields B q s → Yields T (bin_errs o || p || q) (bind2 r s (apply_bin o))
  y_bin eq_ok (value f) (value g) = value fbool
  y_bin eq_ent_ok (value f) (value g) = value fbool
  y_bin lt_ok (value flong) (value flong) = value fbool
  y_bin le_ok (value flong) (value flong) = value fbool
  y_bin add_ok (value (flong {n = m})) (value (flong {n = n})) = y_long (m +ℤ n)
  y_bin sub_ok (value (flong {n = m})) (value (flong {n = n})) = y_long (m -ℤ n)
  y_bin mul_ok (value (flong {n = m})) (value (flong {n = n})) = y_long (m *ℤ n)
  y_bin contains_ok (value (fset f)) (value g) = value fbool
  y_bin all_ok (value (fset f)) (value (fset g)) = value fbool
  y_bin any_ok (value (fset f)) (value (fset g)) = value fbool
  y_bin {o = o} {p = p} h (value f) error = orr (bin_errs o || p) error
  y_bin {o = o} {q = q} h error y = orl q (orr (bin_errs o) error)

-- look-ups in what fits

y_pick : {A : Ty} (b : Bool) (v : Value) (o : Option Value) → (b ≡ true → Fits v A) → Yields A true (on_some fail o ok) → Yields A true (on_some fail (pick b v o) ok)
y_pick true v o f y = value (f refl)
y_pick false v o f y = y

-- a declared field has its declared type
pub y_find : {fs : Fields} {R : Attrs} {A : Ty} (t : ℕ) → declared t R ≡ some A → FieldsFit fs R → Yields A true (on_some fail (find t fs) ok)
y_find t d no_field = error
y_find {A = A} t d (one_field {t = u} {v = v} {R = R} e f h) = y_pick (eqb t u) v _ (λ q. subst (Fits v) (the_same e (subst (λ x. declared x R ≡ some A) (eqb_true t u q) d)) f) (y_find t d h)

none_pick : (b : Bool) (v : Value) (o : Option Value) → (b ≡ true → ⊥) → o ≡ none → pick b v o ≡ none
none_pick true v o f e = absurd (f refl)
none_pick false v o f e = e

-- an undeclared one is not there
pub find_none : {fs : Fields} {R : Attrs} (t : ℕ) → declared t R ≡ none → FieldsFit fs R → find t fs ≡ none
find_none t d no_field = refl
find_none t d (one_field {t = u} {v = v} {R = R} e f h) = none_pick (eqb t u) v _ (λ q. no_some (sym (subst (λ x. declared x R ≡ none) (eqb_true t u q) d) ∙ e)) (find_none t d h)

pub y_tag : {o : Option Ty} {fs : Fields} {A : Ty} (t : ℕ) → o ≡ some A → TagsFit o fs → Yields A true (on_some fail (find t fs) ok)
y_tag t e no_tag = error
y_tag t e (one_tag {t = u} {v = v} f h) = y_pick (eqb t u) v _ (λ q. subst (Fits v) (some-injective _ _ e) f) (y_tag t e h)

pub no_tag_law : {o : Option Ty} {fs : Fields} → o ≡ none → TagsFit o fs → fs ≡ fnil
no_tag_law e no_tag = refl
no_tag_law e (one_tag f h) = no_some (sym e)

pub ent_all : {vs : Values} {l : ℕ} {ls : List ℕ} → AllFit vs (tent l ls) → all_ent vs ≡ true
ent_all nil_fit = refl
ent_all (cons_fit (fent m) h) = ent_all h

module _ (S : Schema) (C : Env) (ft : EnvFits S C) where
  pub entity_fits : (k t : ℕ) → LineFits S k (entity C k t)
  entity_fits k t = go (C.line k t) refl
    where
      go : (o : Option Line) → C.line k t ≡ o → LineFits S k (line_or o)
      go none e = record { attrs = no_field; tags = no_tag; ancestors = no_kind }
      go (some l) e = ft.line k t l e

  -- the fields of what fits an entity or record type, with what is said of the attributes of its kind
  pub fields_fit_law : {v : Value} {A : Ty} (P : Attrs → Type 0) → Each S A P → Fits v A → (R : Attrs) × P R × (fs : Fields) × (fields_of C v ≡ some fs) × FieldsFit fs R
  fields_fit_law P e fbool = absurd e
  fields_fit_law P e flong = absurd e
  fields_fit_law P e ftext = absurd e
  fields_fit_law P e (fent {k = k} {t = t} m) = ((S.shape k).attrs, e k m, (entity C k t).attrs, refl, (entity_fits k t).attrs)
  fields_fit_law P e (fset h) = absurd e
  fields_fit_law P e (frec {fs = fs} {R = R} h c) = (R, e, fs, refl, h)

  pub y_rel : {o : Rel} {A B T : Ty} {p q : Bool} {r s : Result} → RelOk S o A B T → Yields A p r → Yields B q s → Yields T (rel_errs o || p || q) (bind2 r s (apply_rel C o))
  y_rel in_ok (value (fent m)) (value (fent n)) = value fbool
  y_rel in_set_ok (value (fent m)) (value (fset h)) = rw (ent_all h) (value fbool)
  y_rel (get_tag_ok e) (value (fent {k = k} {t = t} m)) (value (ftext {t = u})) = y_tag u (e k m) (entity_fits k t).tags
  y_rel has_tag_ok (value (fent m)) (value ftext) = value fbool
  y_rel {o = o} {p = p} h (value f) error = orr (rel_errs o || p) error
  y_rel {o = o} {q = q} h error y = orl q (orr (rel_errs o) error)

  pub y_get : {A T : Ty} (t : ℕ) {p : Bool} {r : Result} → Each S A (λ R. declared t R ≡ some T) → Yields A p r → Yields T true (bind r (apply_get C t))
  y_get {T = T} t e (value f) = let (R, d, fs, q, h) = fields_fit_law (λ R. declared t R ≡ some T) e f in rw q (y_find t d h)
  y_get t e error = error

  pub y_has : {A : Ty} (t : ℕ) {p : Bool} {r : Result} → Each S A (λ R. Unit {0}) → Yields A p r → Yields tbool p (bind r (apply_has C t))
  y_has t e (value f) = let (R, d, fs, q, h) = fields_fit_law (λ R. Unit {0}) e f in rw q (value fbool)
  y_has t e error = error

  y_some : {T : Ty} {b : Bool} {d : Result} {f : Value → Result} (o : Option Value) → Yields T b d → ((w : Value) → o ≡ some w → Yields T b (f w)) → Yields T b (on_some d o f)
  y_some none y g = y
  y_some (some w) y g = g w refl

  pub found_fits : {A : Ty} {o : Option Value} {v : Value} → o ≡ some v → Yields A true (on_some fail o ok) → Fits v A
  found_fits {A = A} e y = go (subst (λ x. Yields A true (on_some fail x ok)) e y)
    where
      go : {v : Value} → Yields A true (ok v) → Fits v A
      go (value f) = f

  -- a field that is there is declared, fits, and is what is said of a declared type
  pub step_fits : {fs : Fields} {R : Attrs} {w : Value} (t : ℕ) (P : Ty → Type 0) → FieldsFit fs R → find t fs ≡ some w → IfDeclared S (declared t R) P → (B : Ty) × (declared t R ≡ some B) × P B × Fits w B
  step_fits {fs} {R} {w} t P h e p = go (declared t R) refl p
    where
      go : (o : Option Ty) → declared t R ≡ o → IfDeclared S o P → (B : Ty) × (declared t R ≡ some B) × P B × Fits w B
      go none d p = no_some (sym (find_none t d h) ∙ e)
      go (some B) d p = (B, d, p, found_fits e (y_find t d h))

  walk_fits : (ts : List ℕ) (t : ℕ) {v : Value} {A : Ty} {b : Bool} → PathOk S ts t A → Fits v A → Yields tbool b (apply_path C ts t v)
  walk_fits [] t p f = let (R, d, fs, q, h) = fields_fit_law (λ R. Unit {0}) p f in rw q (value fbool)
  walk_fits (u ∷ us) t p f =
      let (R, d, fs, q, h) = fields_fit_law (λ R. IfDeclared S (declared t R) (λ B. PathOk S us u B)) p f in
      rw q (y_some (find t fs) (value fbool) (λ w x. let (B, n, g, k) = step_fits t (λ B. PathOk S us u B) h x d in walk_fits us u g k))

  pub y_path : {A : Ty} (t : ℕ) (ts : List ℕ) {p : Bool} {r : Result} → PathOk S ts t A → Yields A p r → Yields tbool p (bind r (apply_path C ts t))
  y_path t ts h (value f) = walk_fits ts t h f
  y_path t ts h error = error

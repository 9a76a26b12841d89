-- The other way round: what is typed passes the typing test, and what fits passes the test of fitting.
use mathlib.Core.Path.{◌≡◌, refl, ◌∙◌, ap, subst}
use mathlib.Core.Bool.{Bool, true, false}
use mathlib.Core.Option.{Option, none, some}
use mathlib.Core.List.{List, [], ◌∷◌}
use Prim.Native.Nat.{ℕ}
use lib.Dec.{compare_is_eq}
use Rattle.cedar.proofs.Tools.{both, or_left, or_right, each_of_law}
use Rattle.cedar.proofs.OrderLaws.{cmp_refl}
use Rattle.cedar.proofs.Kept.{ty_of_law}
use Rattle.cedar.specs.Value.{Value, Values, Fields, find, found, on_some}
use Rattle.cedar.specs.Types.{Ty, tbool, tlong, tstr, tent, tset, trec, Attrs, anil, acons, declared, Schema, Needed, Complete, Fits, fbool, flong, ftext, fent, fset, frec, AllFit, nil_fit, cons_fit, FieldsFit, no_field, one_field, ty_code, ty_same}
use Rattle.cedar.specs.Residual.{Expr, Exprs, Args, ty_of, Un, Bin, Rel}
use Rattle.cedar.specs.Typing.{named, UnOk, not_ok, neg_ok, empty_ok, is_ok, like_ok, BinOk, eq_ok, eq_ent_ok, lt_ok, le_ok, add_ok, sub_ok, mul_ok, contains_ok, all_ok, any_ok, RelOk, in_ok, in_set_ok, get_tag_ok, has_tag_ok, Each, IfDeclared, PathOk, Typed, tlit, terr, tvar, tand, tor, tite, tun, tbin, trel, tget, thas, tpath, tset', trec', AllTyped, nil_typed, cons_typed, ArgsTyped, no_arg, one_arg}
use Rattle.cedar.specs.TypingTest.{need, completed, fits, all_fit, fields_fit, un_ok, three, bin_ok, rel_ok, each, path_ok, check, check_all, check_args}

pub ty_same_refl : (A : Ty) → ty_same A A ≡ true
ty_same_refl A = ap compare_is_eq (cmp_refl (ty_code A))

is_same : {A B : Ty} → A ≡ B → ty_same A B ≡ true
is_same {A = A} e = subst (λ X. ty_same A X ≡ true) e (ty_same_refl A)

on_some_law : {X : Type 0} {o : Option X} {x : X} (f : X → Bool) → o ≡ some x → f x ≡ true → on_some false o f ≡ true
on_some_law f e h = ap (λ o. on_some false o f) e ∙ h

-- fitting

need_complete : (r b : Bool) → Needed r b → need r b ≡ true
need_complete true b h = h
need_complete false b h = refl

completed_complete : (R : Attrs) (there : ℕ → Bool) → Complete R there → completed R there ≡ true
completed_complete anil there h = refl
completed_complete (acons t r A bs) there h = both (need_complete r (there t) h.0) (completed_complete bs there h.1)

mutual
  pub fits_complete : {v : Value} {A : Ty} → Fits v A → fits v A ≡ true
  fits_complete fbool = refl
  fits_complete flong = refl
  fits_complete ftext = refl
  fits_complete (fent m) = m
  fits_complete (fset h) = all_fit_law h
  fits_complete (frec {fs = fs} {R = R} h c) = both (fields_fit_law h) (completed_complete R (λ t. found (find t fs)) c)

  all_fit_law : {vs : Values} {A : Ty} → AllFit vs A → all_fit vs A ≡ true
  all_fit_law nil_fit = refl
  all_fit_law (cons_fit f h) = both (fits_complete f) (all_fit_law h)

  fields_fit_law : {fs : Fields} {R : Attrs} → FieldsFit fs R → fields_fit fs R ≡ true
  fields_fit_law no_field = refl
  fields_fit_law (one_field {v = v} d f h) = both (on_some_law (λ A. fits v A) d (fits_complete f)) (fields_fit_law h)

-- operands

module _ (S : Schema) where
  un_complete : {u : Un} {A U : Ty} → UnOk S u A U → un_ok S u A U ≡ true
  un_complete not_ok = refl
  un_complete neg_ok = refl
  un_complete empty_ok = refl
  un_complete is_ok = refl
  un_complete like_ok = refl

  bin_complete : {o : Bin} {A B U : Ty} → BinOk S o A B U → bin_ok S o A B U ≡ true
  bin_complete (eq_ok {A = A}) = both (or_left (ty_same A A) _ (ty_same_refl A)) refl
  bin_complete (eq_ent_ok {k = k} {l = l} {ks = ks} {ls = ls}) = both (or_right (ty_same (tent k ks) (tent l ls)) true refl) refl
  bin_complete lt_ok = refl
  bin_complete le_ok = refl
  bin_complete add_ok = refl
  bin_complete sub_ok = refl
  bin_complete mul_ok = refl
  bin_complete (contains_ok {A = A}) = both (ty_same_refl (tset A)) refl
  bin_complete (all_ok {A = A}) = both (ty_same_refl (tset A)) refl
  bin_complete (any_ok {A = A}) = both (ty_same_refl (tset A)) refl

  rel_complete : {o : Rel} {A B U : Ty} → RelOk S o A B U → rel_ok S o A B U ≡ true
  rel_complete in_ok = refl
  rel_complete in_set_ok = refl
  rel_complete (get_tag_ok {l = l} {ls = ls} {T = T} e) = both (each_of_law (λ k. on_some false (S.shape k).tags (λ E. ty_same E T)) (l ∷ ls) (λ k m. on_some_law (λ E. ty_same E T) (e k m) (ty_same_refl T))) refl
  rel_complete has_tag_ok = refl

  each_complete : (A : Ty) (f : Attrs → Bool) (P : Attrs → Type 0) → ((R : Attrs) → P R → f R ≡ true) → Each S A P → each S A f ≡ true
  each_complete tbool f P h e = absurd e
  each_complete tlong f P h e = absurd e
  each_complete tstr f P h e = absurd e
  each_complete (tent l ls) f P h e = each_of_law (λ k. f (S.shape k).attrs) (l ∷ ls) (λ k m. h (S.shape k).attrs (e k m))
  each_complete (tset A) f P h e = absurd e
  each_complete (trec R) f P h e = h R e

  path_complete : (ts : List ℕ) (t : ℕ) (A : Ty) → PathOk S ts t A → path_ok S ts t A ≡ true
  path_complete [] t A p = each_complete A (λ R. true) (λ R. Unit {0}) (λ R x. refl) p
  path_complete (u ∷ us) t A p = each_complete A (λ R. on_some true (declared t R) (path_ok S us u)) (λ R. IfDeclared S (declared t R) (λ B. PathOk S us u B)) (λ R x. go (declared t R) (λ B r. path_complete us u B r) x) p
    where
      go : (o : Option Ty) → ((B : Ty) → PathOk S us u B → path_ok S us u B ≡ true) → IfDeclared S o (λ B. PathOk S us u B) → on_some true o (path_ok S us u) ≡ true
      go none ih x = refl
      go (some B) ih x = ih B x

  three_complete : {A B U X Y Z : Ty} → A ≡ X → B ≡ Y → U ≡ Z → three S A B U X Y Z ≡ true
  three_complete a b u = both (both (is_same a) (is_same b)) (is_same u)

  mutual
    pub check_complete : {e : Expr} {T : Ty} → Typed S e T → check S e ≡ true
    check_complete (tlit f) = fits_complete f
    check_complete terr = refl
    check_complete (tvar q) = is_same q
    check_complete (tand a b) = both (three_complete {U = tbool} (ty_of_law a) (ty_of_law b) refl) (both (check_complete a) (check_complete b))
    check_complete (tor a b) = both (three_complete {U = tbool} (ty_of_law a) (ty_of_law b) refl) (both (check_complete a) (check_complete b))
    check_complete (tite c a b) = both (both (three_complete (ty_of_law a) (ty_of_law b) (ty_of_law c)) (both (check_complete a) (check_complete b))) (check_complete c)
    check_complete (tun {u = u} {T = T} o a) = both (ap (λ A. un_ok S u A T) (ty_of_law a) ∙ un_complete o) (check_complete a)
    check_complete (tbin {o = o} {T = T} h a b) = both ((λ i. bin_ok S o (ty_of_law a i) (ty_of_law b i) T) ∙ bin_complete h) (both (check_complete a) (check_complete b))
    check_complete (trel {o = o} {T = T} h a b) = both ((λ i. rel_ok S o (ty_of_law a i) (ty_of_law b i) T) ∙ rel_complete h) (both (check_complete a) (check_complete b))
    check_complete (tget {a = a} {A = A} {T = T} {t = t} e h) = both (ap (λ B. each S B (λ R. on_some false (declared t R) (λ A. ty_same A T))) (ty_of_law h)
        ∙ each_complete A (λ R. on_some false (declared t R) (λ A. ty_same A T)) (λ R. declared t R ≡ some T) (λ R d. on_some_law (λ A. ty_same A T) d (ty_same_refl T)) e) (check_complete h)
    check_complete (thas {A = A} e h) = both (both (ap (λ B. each S B (λ R. true)) (ty_of_law h) ∙ each_complete A (λ R. true) (λ R. Unit {0}) (λ R x. refl) e) refl) (check_complete h)
    check_complete (tpath {A = A} {t = t} {ts = ts} p h) = both (both (ap (path_ok S ts t) (ty_of_law h) ∙ path_complete ts t A p) refl) (check_complete h)
    check_complete (tset' h) = all_complete h
    check_complete (trec' {gs = gs} {R = R} h c) = both (args_complete h) (completed_complete R (λ t. named t gs) c)

    all_complete : {es : Exprs} {A : Ty} → AllTyped S es A → check_all S es A ≡ true
    all_complete nil_typed = refl
    all_complete (cons_typed h hs) = both (both (is_same (ty_of_law h)) (check_complete h)) (all_complete hs)

    args_complete : {gs : Args} {R : Attrs} → ArgsTyped S gs R → check_args S gs R ≡ true
    args_complete no_arg = refl
    args_complete (one_arg {e = e} d h hs) = both (both (on_some_law (ty_same (ty_of e)) d (is_same (ty_of_law h))) (check_complete h)) (args_complete hs)

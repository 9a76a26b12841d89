-- What passes the typing test is typed, and what passes the test of fitting fits.
use mathlib.Core.Path.{◌≡◌, refl, sym, ◌∙◌, ap, ap₂, subst}
use mathlib.Core.Bool.{Bool, true, false, cond, ◌||◌, ◌&&◌}
use mathlib.Core.Option.{Option, none, some}
use mathlib.Core.List.{List, [], ◌∷◌}
use Prim.Native.Nat.{ℕ}
use lib.Dec.{eqb}
use Rattle.cedar.proofs.Tools.{no_true, and_both, either, each_at}
use Rattle.cedar.specs.Order.{Tree, leaf, node, cmp}
use Rattle.cedar.proofs.OrderLaws.{cmp_eq}
use Rattle.cedar.proofs.CanonicalLaws.{is_eq_eq}
use Rattle.cedar.specs.Value.{Value, vbool, vlong, vtext, vent, vset, vrec, Values, vnil, vcons, Fields, fnil, fcons, find, found, on_some}
use Rattle.cedar.specs.Types.{Ty, tbool, tlong, tstr, tent, tset, trec, Attrs, anil, acons, among, each_kind, declared, Schema, Needed, Complete, Fits, fbool, flong, ftext, fent, fset, frec, AllFit, nil_fit, cons_fit, FieldsFit, no_field, one_field, kinds_code, ty_code, attrs_code, ty_same}
use Rattle.cedar.specs.Residual.{Expr, lit, err, var, and, or, ite, un, bin, rel, get, has, haspath, set, rec, Exprs, enil, econs, Args, gnil, gcons, ty_of, Un, unot, uneg, uempty, uis, ulike, Bin, beq, blt, ble, badd, bsub, bmul, bcontains, ball, bany, Rel, rin, rgettag, rhastag}
use Rattle.cedar.specs.TypingTest.{on_ent_ty, on_set_ty, on_rec_ty, need, completed, fits, all_fit, fields_fit, un_ok, three, bin_ok, rel_ok, each, path_ok, check, check_all, check_args}
use Rattle.cedar.specs.Typing.{named, UnOk, not_ok, neg_ok, empty_ok, is_ok, like_ok, BinOk, eq_ok, eq_ent_ok, lt_ok, le_ok, add_ok, sub_ok, mul_ok, contains_ok, all_ok, any_ok, RelOk, in_ok, in_set_ok, get_tag_ok, has_tag_ok, Each, IfDeclared, PathOk, Typed, tlit, terr, tvar, tand, tor, tite, tun, tbin, trel, tget, thas, tpath, tset', trec', AllTyped, nil_typed, cons_typed, ArgsTyped, no_arg, one_arg}

-- equality of types, by codes as for values

num : Tree → ℕ
num (leaf n) = n
num (node a b) = 0

kinds_of_code : Tree → List ℕ
kinds_of_code (leaf n) = []
kinds_of_code (node a b) = num a ∷ kinds_of_code b

kinds_back : (ks : List ℕ) → kinds_of_code (kinds_code ks) ≡ ks
unfolding kinds_of_code num
kinds_back [] = refl
kinds_back (k ∷ ks) = ap (λ l. k ∷ l) (kinds_back ks)

ent_of_code : Tree → Ty
ent_of_code (leaf n) = tbool
ent_of_code (node a b) = tent (num a) (kinds_of_code b)

mutual
  ty_of_code : Tree → Ty
  ty_of_code (leaf n) = cond (eqb n 0) tbool (cond (eqb n 1) tlong tstr)
  ty_of_code (node t b) = cond (eqb (num t) 0) (ent_of_code b) (cond (eqb (num t) 1) (tset (ty_of_code b)) (trec (attrs_of_code b)))

  attrs_of_code : Tree → Attrs
  attrs_of_code (leaf n) = anil
  attrs_of_code (node t (leaf n)) = anil
  attrs_of_code (node t (node r (leaf n))) = anil
  attrs_of_code (node t (node r (node a b))) = acons (num t) (eqb (num r) 1) (ty_of_code a) (attrs_of_code b)

mutual
  unfolding ty_of_code ent_of_code num

  ty_back : (A : Ty) → ty_of_code (ty_code A) ≡ A
  ty_back tbool = refl
  ty_back tlong = refl
  ty_back tstr = refl
  ty_back (tent k ks) = ap (tent k) (kinds_back ks)
  ty_back (tset A) = ap tset (ty_back A)
  ty_back (trec R) = ap trec (attrs_back R)

  attrs_back : (R : Attrs) → attrs_of_code (attrs_code R) ≡ R
  attrs_back anil = refl
  attrs_back (acons t true A bs) = ap₂ (acons t true) (ty_back A) (attrs_back bs)
  attrs_back (acons t false A bs) = ap₂ (acons t false) (ty_back A) (attrs_back bs)

pub ty_same_true : (A B : Ty) → ty_same A B ≡ true → A ≡ B
ty_same_true A B e = sym (ty_back A) ∙ ap ty_of_code (cmp_eq (ty_code A) (ty_code B) (is_eq_eq (cmp (ty_code A) (ty_code B)) e)) ∙ ty_back B

-- what a test says, handed on: a goal X A about the tested type A is proved at what the test found
is_ty : (X : Ty → Type 0) (A B : Ty) → ty_same A B ≡ true → X B → X A
is_ty X A B e h = subst X (sym (ty_same_true A B e)) h

ent_ty : (X : Ty → Type 0) (A : Ty) (f : List ℕ → Bool) → on_ent_ty false A f ≡ true → ((k : ℕ) (ks : List ℕ) → f (k ∷ ks) ≡ true → X (tent k ks)) → X A
ent_ty X tbool f e h = no_true e
ent_ty X tlong f e h = no_true e
ent_ty X tstr f e h = no_true e
ent_ty X (tent k ks) f e h = h k ks e
ent_ty X (tset A) f e h = no_true e
ent_ty X (trec R) f e h = no_true e

set_ty : (X : Ty → Type 0) (A : Ty) (f : Ty → Bool) → on_set_ty false A f ≡ true → ((B : Ty) → f B ≡ true → X (tset B)) → X A
set_ty X tbool f e h = no_true e
set_ty X tlong f e h = no_true e
set_ty X tstr f e h = no_true e
set_ty X (tent k ks) f e h = no_true e
set_ty X (tset A) f e h = h A e
set_ty X (trec R) f e h = no_true e

rec_ty : (X : Ty → Type 0) (A : Ty) (f : Attrs → Bool) → on_rec_ty false A f ≡ true → ((R : Attrs) → f R ≡ true → X (trec R)) → X A
rec_ty X tbool f e h = no_true e
rec_ty X tlong f e h = no_true e
rec_ty X tstr f e h = no_true e
rec_ty X (tent k ks) f e h = no_true e
rec_ty X (tset A) f e h = no_true e
rec_ty X (trec R) f e h = h R e

pub some_test : {X A : Type 0} (o : Option A) (f : A → Bool) → on_some false o f ≡ true → ((a : A) → o ≡ some a → f a ≡ true → X) → X
some_test none f e h = no_true e
some_test (some a) f e h = h a refl e

-- a value fits a type

need_sound : (r b : Bool) → need r b ≡ true → Needed r b
need_sound true b e = e
need_sound false b e = tt

complete_sound : (R : Attrs) (there : ℕ → Bool) → completed R there ≡ true → Complete R there
complete_sound anil there e = tt
complete_sound (acons t r A bs) there e = and_both (need r (there t)) (completed bs there) e (λ p q. (need_sound r (there t) p, complete_sound bs there q))

mutual
  pub fits_sound : (v : Value) (A : Ty) → fits v A ≡ true → Fits v A
  fits_sound (vbool b) A e = is_ty (Fits (vbool b)) A tbool e fbool
  fits_sound (vlong n) A e = is_ty (Fits (vlong n)) A tlong e flong
  fits_sound (vtext t) A e = is_ty (Fits (vtext t)) A tstr e ftext
  fits_sound (vent k t) A e = ent_ty (Fits (vent k t)) A (among k) e (λ l ls m. fent m)
  fits_sound (vset vs) A e = set_ty (Fits (vset vs)) A (λ B. all_fit vs B) e (λ B q. fset (all_fit_sound vs B q))
  fits_sound (vrec fs) A e = rec_ty (Fits (vrec fs)) A (λ R. fields_fit fs R && completed R (λ t. found (find t fs))) e
      (λ R q. and_both (fields_fit fs R) (completed R (λ t. found (find t fs))) q (λ f c. frec (fields_fit_sound fs R f) (complete_sound R (λ t. found (find t fs)) c)))

  all_fit_sound : (vs : Values) (A : Ty) → all_fit vs A ≡ true → AllFit vs A
  all_fit_sound vnil A e = nil_fit
  all_fit_sound (vcons v vs) A e = and_both (fits v A) (all_fit vs A) e (λ p q. cons_fit (fits_sound v A p) (all_fit_sound vs A q))

  fields_fit_sound : (fs : Fields) (R : Attrs) → fields_fit fs R ≡ true → FieldsFit fs R
  fields_fit_sound fnil R e = no_field
  fields_fit_sound (fcons t v fs) R e = and_both (on_some false (declared t R) (λ A. fits v A)) (fields_fit fs R) e
      (λ p q. some_test (declared t R) (λ A. fits v A) p (λ A d f. one_field d (fits_sound v A f) (fields_fit_sound fs R q)))

-- what passes is typed

module _ (S : Schema) where
  un_ok_law : (u : Un) (A U : Ty) → un_ok S u A U ≡ true → UnOk S u A U
  un_ok_law unot A U e = and_both (ty_same A tbool) (ty_same U tbool) e (λ p q. is_ty (λ Z. UnOk S unot A Z) U tbool q (is_ty (λ Z. UnOk S unot Z tbool) A tbool p not_ok))
  un_ok_law uneg A U e = and_both (ty_same A tlong) (ty_same U tlong) e (λ p q. is_ty (λ Z. UnOk S uneg A Z) U tlong q (is_ty (λ Z. UnOk S uneg Z tlong) A tlong p neg_ok))
  un_ok_law uempty A U e = and_both (on_set_ty false A (λ B. true)) (ty_same U tbool) e (λ p q. is_ty (λ Z. UnOk S uempty A Z) U tbool q (set_ty (λ Z. UnOk S uempty Z tbool) A (λ B. true) p (λ B r. empty_ok)))
  un_ok_law (uis k) A U e = and_both (on_ent_ty false A (λ l. true)) (ty_same U tbool) e (λ p q. is_ty (λ Z. UnOk S (uis k) A Z) U tbool q (ent_ty (λ Z. UnOk S (uis k) Z tbool) A (λ l. true) p (λ l ls r. is_ok)))
  un_ok_law (ulike i) A U e = and_both (ty_same A tstr) (ty_same U tbool) e (λ p q. is_ty (λ Z. UnOk S (ulike i) A Z) U tbool q (is_ty (λ Z. UnOk S (ulike i) Z tbool) A tstr p like_ok))

  three_ok : (A B U X Y Z : Ty) (Q : Ty → Ty → Ty → Type 0) → three S A B U X Y Z ≡ true → Q X Y Z → Q A B U
  three_ok A B U X Y Z Q e h = and_both (ty_same A X && ty_same B Y) (ty_same U Z) e (λ p r. and_both (ty_same A X) (ty_same B Y) p
      (λ q s. is_ty (λ u. Q A B u) U Z r (is_ty (λ b. Q A b Z) B Y s (is_ty (λ a. Q a Y Z) A X q h))))

  eq_ok_law : (A B : Ty) → (ty_same A B || on_ent_ty false A (λ k. on_ent_ty false B (λ l. true))) ≡ true → BinOk S beq A B tbool
  eq_ok_law A B e = either (ty_same A B) (on_ent_ty false A (λ k. on_ent_ty false B (λ l. true))) e
      (λ p. is_ty (λ a. BinOk S beq a B tbool) A B p eq_ok)
      (λ p. ent_ty (λ a. BinOk S beq a B tbool) A (λ k. on_ent_ty false B (λ l. true)) p (λ k ks r. ent_ty (λ b. BinOk S beq (tent k ks) b tbool) B (λ l. true) r (λ l ls s. eq_ent_ok)))

  sets_ok : (o : Bin) (A B : Ty) → ((E : Ty) → BinOk S o (tset E) (tset E) tbool) → on_set_ty false A (λ E. ty_same B (tset E)) ≡ true → BinOk S o A B tbool
  sets_ok o A B h e = set_ty (λ a. BinOk S o a B tbool) A (λ E. ty_same B (tset E)) e (λ E q. is_ty (λ b. BinOk S o (tset E) b tbool) B (tset E) q (h E))

  to_bool : (o : Bin) (A B U : Ty) (p : Bool) → (p && ty_same U tbool) ≡ true → (p ≡ true → BinOk S o A B tbool) → BinOk S o A B U
  to_bool o A B U p e h = and_both p (ty_same U tbool) e (λ x q. is_ty (BinOk S o A B) U tbool q (h x))

  bin_ok_law : (o : Bin) (A B U : Ty) → bin_ok S o A B U ≡ true → BinOk S o A B U
  bin_ok_law beq A B U e = to_bool beq A B U _ e (eq_ok_law A B)
  bin_ok_law blt A B U e = three_ok A B U tlong tlong tbool (BinOk S blt) e lt_ok
  bin_ok_law ble A B U e = three_ok A B U tlong tlong tbool (BinOk S ble) e le_ok
  bin_ok_law badd A B U e = three_ok A B U tlong tlong tlong (BinOk S badd) e add_ok
  bin_ok_law bsub A B U e = three_ok A B U tlong tlong tlong (BinOk S bsub) e sub_ok
  bin_ok_law bmul A B U e = three_ok A B U tlong tlong tlong (BinOk S bmul) e mul_ok
  bin_ok_law bcontains A B U e = to_bool bcontains A B U (ty_same A (tset B)) e (λ p. is_ty (λ a. BinOk S bcontains a B tbool) A (tset B) p contains_ok)
  bin_ok_law ball A B U e = to_bool ball A B U (on_set_ty false A (λ E. ty_same B (tset E))) e (sets_ok ball A B (λ E. all_ok))
  bin_ok_law bany A B U e = to_bool bany A B U (on_set_ty false A (λ E. ty_same B (tset E))) e (sets_ok bany A B (λ E. any_ok))

  target_ok : (k : ℕ) (ks : List ℕ) (B : Ty) → on_ent_ty (on_set_ty false B (λ E. on_ent_ty false E (λ l. true))) B (λ l. true) ≡ true → RelOk S rin (tent k ks) B tbool
  target_ok k ks tbool e = no_true e
  target_ok k ks tlong e = no_true e
  target_ok k ks tstr e = no_true e
  target_ok k ks (tent l ls) e = in_ok
  target_ok k ks (tset E) e = ent_ty (λ z. RelOk S rin (tent k ks) (tset z) tbool) E (λ l. true) e (λ l ls q. in_set_ok)
  target_ok k ks (trec R) e = no_true e

  rel_ok_law : (o : Rel) (A B U : Ty) → rel_ok S o A B U ≡ true → RelOk S o A B U
  rel_ok_law rin A B U e = and_both (on_ent_ty false A (λ k. on_ent_ty (on_set_ty false B (λ E. on_ent_ty false E (λ l. true))) B (λ l. true))) (ty_same U tbool) e
      (λ p q. is_ty (RelOk S rin A B) U tbool q (ent_ty (λ a. RelOk S rin a B tbool) A (λ k. on_ent_ty (on_set_ty false B (λ E. on_ent_ty false E (λ l. true))) B (λ l. true)) p (λ k ks s. target_ok k ks B s)))
  rel_ok_law rgettag A B U e = and_both (on_ent_ty false A (each_kind (λ k. on_some false (S.shape k).tags (λ E. ty_same E U)))) (ty_same B tstr) e
      (λ p q. is_ty (λ b. RelOk S rgettag A b U) B tstr q (ent_ty (λ a. RelOk S rgettag a tstr U) A (each_kind (λ k. on_some false (S.shape k).tags (λ E. ty_same E U))) p
      (λ l ls s. get_tag_ok (λ k m. some_test (S.shape k).tags (λ E. ty_same E U) (each_at (λ k. on_some false (S.shape k).tags (λ E. ty_same E U)) (l ∷ ls) s k m) (λ E t u. t ∙ ap some (ty_same_true E U u))))))
  rel_ok_law rhastag A B U e = and_both (on_ent_ty false A (λ k. true) && ty_same B tstr) (ty_same U tbool) e (λ p q. and_both (on_ent_ty false A (λ k. true)) (ty_same B tstr) p
      (λ r s. is_ty (RelOk S rhastag A B) U tbool q (is_ty (λ b. RelOk S rhastag A b tbool) B tstr s (ent_ty (λ a. RelOk S rhastag a tstr tbool) A (λ k. true) r (λ k ks t. has_tag_ok)))))

  each_ok : (A : Ty) (f : Attrs → Bool) (P : Attrs → Type 0) → ((R : Attrs) → f R ≡ true → P R) → each S A f ≡ true → Each S A P
  each_ok tbool f P h e = no_true e
  each_ok tlong f P h e = no_true e
  each_ok tstr f P h e = no_true e
  each_ok (tent l ls) f P h e = λ k m. h (S.shape k).attrs (each_at (λ k. f (S.shape k).attrs) (l ∷ ls) e k m)
  each_ok (tset A) f P h e = no_true e
  each_ok (trec R) f P h e = h R e

  path_ok_law : (ts : List ℕ) (t : ℕ) (A : Ty) → path_ok S ts t A ≡ true → PathOk S ts t A
  path_ok_law [] t A e = each_ok A (λ R. true) (λ R. Unit {0}) (λ R q. tt) e
  path_ok_law (u ∷ us) t A e = each_ok A (λ R. on_some true (declared t R) (path_ok S us u)) (λ R. IfDeclared S (declared t R) (λ B. PathOk S us u B)) (λ R q. go (declared t R) (λ B r. path_ok_law us u B r) q) e
    where
      go : (o : Option Ty) → ((B : Ty) → path_ok S us u B ≡ true → PathOk S us u B) → on_some true o (path_ok S us u) ≡ true → IfDeclared S o (λ B. PathOk S us u B)
      go none ih q = tt
      go (some B) ih q = ih B q

  -- two bool operands
  logic : {a b : Expr} (U : Ty) (Q : Ty → Type 0) → three S (ty_of a) (ty_of b) U tbool tbool tbool ≡ true → Typed S a (ty_of a) → Typed S b (ty_of b) → (Typed S a tbool → Typed S b tbool → Q tbool) → Q U
  logic {a} {b} U Q e ta tb h =
      let r : Typed S a (ty_of a) → Typed S b (ty_of b) → Q U = three_ok (ty_of a) (ty_of b) U tbool tbool tbool (λ x y z. Typed S a x → Typed S b y → Q z) e h in
      r ta tb

  choice : {c a b : Expr} (U : Ty) → three S (ty_of a) (ty_of b) (ty_of c) U U tbool ≡ true → Typed S a (ty_of a) → Typed S b (ty_of b) → Typed S c (ty_of c) → Typed S (ite U c a b) U
  choice {c} {a} {b} U e = three_ok (ty_of a) (ty_of b) (ty_of c) U U tbool (λ x y z. Typed S a x → Typed S b y → Typed S c z → Typed S (ite U c a b) U) e (λ x y z. tite z x y)

  mutual
    pub check_sound : (e : Expr) → check S e ≡ true → Typed S e (ty_of e)
    check_sound (lit U v) e = tlit (fits_sound v U e)
    check_sound (err U) e = terr
    check_sound (var U x) e = tvar (ty_same_true (S.request x) U e)
    check_sound (and U a b) e = and_both (three S (ty_of a) (ty_of b) U tbool tbool tbool) (check S a && check S b) e (λ p q. and_both (check S a) (check S b) q
        (λ r s. logic U (λ z. Typed S (and z a b) z) p (check_sound a r) (check_sound b s) tand))
    check_sound (or U a b) e = and_both (three S (ty_of a) (ty_of b) U tbool tbool tbool) (check S a && check S b) e (λ p q. and_both (check S a) (check S b) q
        (λ r s. logic U (λ z. Typed S (or z a b) z) p (check_sound a r) (check_sound b s) tor))
    check_sound (ite U c a b) e = and_both (three S (ty_of a) (ty_of b) (ty_of c) U U tbool && (check S a && check S b)) (check S c) e (λ p q. and_both (three S (ty_of a) (ty_of b) (ty_of c) U U tbool) (check S a && check S b) p
        (λ r s. and_both (check S a) (check S b) s (λ t u. choice U r (check_sound a t) (check_sound b u) (check_sound c q))))
    check_sound (un U u a) e = and_both (un_ok S u (ty_of a) U) (check S a) e (λ p q. tun (un_ok_law u (ty_of a) U p) (check_sound a q))
    check_sound (bin U o a b) e = and_both (bin_ok S o (ty_of a) (ty_of b) U) (check S a && check S b) e (λ p q. and_both (check S a) (check S b) q (λ r s. tbin (bin_ok_law o (ty_of a) (ty_of b) U p) (check_sound a r) (check_sound b s)))
    check_sound (rel U o a b) e = and_both (rel_ok S o (ty_of a) (ty_of b) U) (check S a && check S b) e (λ p q. and_both (check S a) (check S b) q (λ r s. trel (rel_ok_law o (ty_of a) (ty_of b) U p) (check_sound a r) (check_sound b s)))
    check_sound (get U a t) e = and_both (each S (ty_of a) (λ R. on_some false (declared t R) (λ A. ty_same A U))) (check S a) e
        (λ p q. tget (each_ok (ty_of a) (λ R. on_some false (declared t R) (λ A. ty_same A U)) (λ R. declared t R ≡ some U)
        (λ R r. some_test (declared t R) (λ A. ty_same A U) r (λ A d u. d ∙ ap some (ty_same_true A U u))) p) (check_sound a q))
    check_sound (has U a t) e = and_both (each S (ty_of a) (λ R. true) && ty_same U tbool) (check S a) e (λ p q. and_both (each S (ty_of a) (λ R. true)) (ty_same U tbool) p
        (λ r s. is_ty (λ z. Typed S (has z a t) z) U tbool s (thas (each_ok (ty_of a) (λ R. true) (λ R. Unit {0}) (λ R x. tt) r) (check_sound a q))))
    check_sound (haspath U a t ts) e = and_both (path_ok S ts t (ty_of a) && ty_same U tbool) (check S a) e (λ p q. and_both (path_ok S ts t (ty_of a)) (ty_same U tbool) p
        (λ r s. is_ty (λ z. Typed S (haspath z a t ts) z) U tbool s (tpath (path_ok_law ts t (ty_of a) r) (check_sound a q))))
    check_sound (set U es) e = set_ty (λ z. Typed S (set z es) z) U (λ A. check_all S es A) e (λ A q. tset' (all_sound es A q))
    check_sound (rec U gs) e = rec_ty (λ z. Typed S (rec z gs) z) U (λ R. check_args S gs R && completed R (λ t. named t gs)) e
        (λ R q. and_both (check_args S gs R) (completed R (λ t. named t gs)) q (λ r s. trec' (args_sound gs R r) (complete_sound R (λ t. named t gs) s)))

    all_sound : (es : Exprs) (A : Ty) → check_all S es A ≡ true → AllTyped S es A
    all_sound enil A e = nil_typed
    all_sound (econs x es) A e = and_both (ty_same (ty_of x) A && check S x) (check_all S es A) e (λ p q. and_both (ty_same (ty_of x) A) (check S x) p
        (λ r s. cons_typed (subst (Typed S x) (ty_same_true (ty_of x) A r) (check_sound x s)) (all_sound es A q)))

    args_sound : (gs : Args) (R : Attrs) → check_args S gs R ≡ true → ArgsTyped S gs R
    args_sound gnil R e = no_arg
    args_sound (gcons t x gs) R e = and_both (on_some false (declared t R) (ty_same (ty_of x)) && check S x) (check_args S gs R) e (λ p q. and_both (on_some false (declared t R) (ty_same (ty_of x))) (check S x) p
        (λ r s. some_test (declared t R) (ty_same (ty_of x)) r (λ A d u. one_arg d (subst (Typed S x) (ty_same_true (ty_of x) A u) (check_sound x s)) (args_sound gs R q))))

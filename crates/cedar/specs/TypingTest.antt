-- Document 01, "Typing", as a test that is computed: it accepts a tree exactly if the tree is typed.
use Rattle.std.specs.Prelude.{Bool, true, false, ◌||◌, ◌&&◌, List, [], ◌∷◌, ℕ}
use Rattle.cedar.specs.Value.{Value, vbool, vlong, vtext, vent, vset, vrec, Values, vnil, vcons, Fields, fnil, fcons, find, found, on_some}
use Rattle.cedar.specs.Types.{Ty, tbool, tlong, tstr, tent, tset, trec, Attrs, anil, acons, among, each_kind, declared, Schema, ty_same}
use Rattle.cedar.specs.Residual.{Expr, lit, err, var, and, or, ite, un, bin, rel, get, has, haspath, set, rec, Exprs, enil, econs, Args, gnil, gcons, ty_of, Un, unot, uneg, uempty, uis, ulike, Bin, beq, blt, ble, badd, bsub, bmul, bcontains, ball, bany, Rel, rin, rgettag, rhastag}
use Rattle.cedar.specs.Typing.{named}

-- Taking a type apart; `d` where it is of another sort.
module _ {X : Type 0} (d : X) where
  abbrev pub on_ent_ty : Ty → (List ℕ → X) → X
  on_ent_ty tbool f = d
  on_ent_ty tlong f = d
  on_ent_ty tstr f = d
  on_ent_ty (tent k ks) f = f (k ∷ ks)
  on_ent_ty (tset A) f = d
  on_ent_ty (trec R) f = d

  abbrev pub on_set_ty : Ty → (Ty → X) → X
  on_set_ty tbool f = d
  on_set_ty tlong f = d
  on_set_ty tstr f = d
  on_set_ty (tent k ks) f = d
  on_set_ty (tset A) f = f A
  on_set_ty (trec R) f = d

  abbrev pub on_rec_ty : Ty → (Attrs → X) → X
  on_rec_ty tbool f = d
  on_rec_ty tlong f = d
  on_rec_ty tstr f = d
  on_rec_ty (tent k ks) f = d
  on_rec_ty (tset A) f = d
  on_rec_ty (trec R) f = f R

-- "all required attributes are there"
abbrev pub need : Bool → Bool → Bool
need true b = b
need false b = true

abbrev pub completed : Attrs → (ℕ → Bool) → Bool
completed anil there = true
completed (acons t r A bs) there = need r (there t) && completed bs there

-- A value fits a type.
abbrev mutual
  pub fits : Value → Ty → Bool
  fits (vbool b) A = ty_same A tbool
  fits (vlong n) A = ty_same A tlong
  fits (vtext t) A = ty_same A tstr
  fits (vent k t) A = on_ent_ty false A (among k)
  fits (vset vs) A = on_set_ty false A (λ B. all_fit vs B)
  fits (vrec fs) A = on_rec_ty false A (λ R. fields_fit fs R && completed R (λ t. found (find t fs)))

  pub all_fit : Values → Ty → Bool
  all_fit vnil A = true
  all_fit (vcons v vs) A = fits v A && all_fit vs A

  pub fields_fit : Fields → Attrs → Bool
  fields_fit fnil R = true
  fields_fit (fcons t v fs) R = on_some false (declared t R) (λ A. fits v A) && fields_fit fs R

-- Operands and results.
module _ (S : Schema) where
  abbrev pub un_ok : Un → Ty → Ty → Bool
  un_ok unot A U = ty_same A tbool && ty_same U tbool
  un_ok uneg A U = ty_same A tlong && ty_same U tlong
  un_ok uempty A U = on_set_ty false A (λ B. true) && ty_same U tbool
  un_ok (uis k) A U = on_ent_ty false A (λ l. true) && ty_same U tbool
  un_ok (ulike p) A U = ty_same A tstr && ty_same U tbool

  -- Two operands and the result have given types.
  abbrev pub three : Ty → Ty → Ty → Ty → Ty → Ty → Bool
  three A B U X Y Z = ty_same A X && ty_same B Y && ty_same U Z

  abbrev pub bin_ok : Bin → Ty → Ty → Ty → Bool
  bin_ok beq A B U = (ty_same A B || on_ent_ty false A (λ k. on_ent_ty false B (λ l. true))) && ty_same U tbool
  bin_ok blt A B U = three A B U tlong tlong tbool
  bin_ok ble A B U = three A B U tlong tlong tbool
  bin_ok badd A B U = three A B U tlong tlong tlong
  bin_ok bsub A B U = three A B U tlong tlong tlong
  bin_ok bmul A B U = three A B U tlong tlong tlong
  bin_ok bcontains A B U = ty_same A (tset B) && ty_same U tbool
  bin_ok ball A B U = on_set_ty false A (λ E. ty_same B (tset E)) && ty_same U tbool
  bin_ok bany A B U = on_set_ty false A (λ E. ty_same B (tset E)) && ty_same U tbool

  abbrev pub rel_ok : Rel → Ty → Ty → Ty → Bool
  rel_ok rin A B U = on_ent_ty false A (λ k. on_ent_ty (on_set_ty false B (λ E. on_ent_ty false E (λ l. true))) B (λ l. true)) && ty_same U tbool
  rel_ok rgettag A B U = on_ent_ty false A (each_kind (λ k. on_some false (S.shape k).tags (λ E. ty_same E U))) && ty_same B tstr
  rel_ok rhastag A B U = on_ent_ty false A (λ k. true) && ty_same B tstr && ty_same U tbool

  -- f of what each kind of an entity type declares, or a record type; false of other types.
  abbrev pub each : Ty → (Attrs → Bool) → Bool
  each A f = on_ent_ty (on_rec_ty false A f) A (each_kind (λ k. f (S.shape k).attrs))

  abbrev pub path_ok : List ℕ → ℕ → Ty → Bool
  path_ok [] t A = each A (λ R. true)
  path_ok (u ∷ us) t A = each A (λ R. on_some true (declared t R) (path_ok us u))

  -- A tree has the types that its nodes say.
  abbrev mutual
    pub check : Expr → Bool
    check (lit U v) = fits v U
    check (err U) = true
    check (var U x) = ty_same (S.request x) U
    check (and U a b) = three (ty_of a) (ty_of b) U tbool tbool tbool && (check a && check b)
    check (or U a b) = three (ty_of a) (ty_of b) U tbool tbool tbool && (check a && check b)
    check (ite U c a b) = three (ty_of a) (ty_of b) (ty_of c) U U tbool && (check a && check b) && check c
    check (un U u a) = un_ok u (ty_of a) U && check a
    check (bin U o a b) = bin_ok o (ty_of a) (ty_of b) U && (check a && check b)
    check (rel U o a b) = rel_ok o (ty_of a) (ty_of b) U && (check a && check b)
    check (get U a t) = each (ty_of a) (λ R. on_some false (declared t R) (λ A. ty_same A U)) && check a
    check (has U a t) = each (ty_of a) (λ R. true) && ty_same U tbool && check a
    check (haspath U a t ts) = path_ok ts t (ty_of a) && ty_same U tbool && check a
    check (set U es) = on_set_ty false U (λ A. check_all es A)
    check (rec U gs) = on_rec_ty false U (λ R. check_args gs R && completed R (λ t. named t gs))

    pub check_all : Exprs → Ty → Bool
    check_all enil A = true
    check_all (econs e es) A = (ty_same (ty_of e) A && check e) && check_all es A

    pub check_args : Args → Attrs → Bool
    check_args gnil R = true
    check_args (gcons t e gs) R = (on_some false (declared t R) (ty_same (ty_of e)) && check e) && check_args gs R

-- Types, shapes, the schema, and when a value fits a type.
use Rattle.std.specs.Prelude.{◌≡◌, Bool, true, false, ◌||◌, ◌&&◌, List, [], ◌∷◌, ℕ, eqb, ℤ}
use Rattle.std.proofs.Math.Option.{Option, none, some}
use Rattle.std.proofs.Math.Dec.{compare_is_eq}
use Rattle.cedar.specs.Order.{Tree, leaf, node, cmp}
use Rattle.cedar.specs.Canonical.{bit}
use Rattle.cedar.specs.Value.{Value, vbool, vlong, vtext, vent, vset, vrec, Values, vnil, vcons, Fields, fnil, fcons, find, found}

-- "`bool`, `long`, `string`, `set,type`, `record,text,r|o,type,..`", and "`type=entity` lists one or more ascending kinds":
-- a group has a first kind and perhaps more.
mutual
  pub data Ty : Type 0 where
    tbool tlong tstr : Ty
    tent : ℕ → List ℕ → Ty
    tset : Ty → Ty
    trec : Attrs → Ty

  -- Each attribute has a text, whether it is required, and a type.
  pub data Attrs : Type 0 where
    anil : Attrs
    acons : ℕ → Bool → Ty → Attrs → Attrs

-- Whether a kind is in a list.
abbrev pub among : ℕ → List ℕ → Bool
among k [] = false
among k (l ∷ ls) = eqb k l || among k ls

-- Whether some kind of a list passes a test, and whether each one does.
abbrev pub some_kind : (ℕ → Bool) → List ℕ → Bool
some_kind f [] = false
some_kind f (k ∷ ks) = f k || some_kind f ks

abbrev pub each_kind : (ℕ → Bool) → List ℕ → Bool
each_kind f [] = true
each_kind f (k ∷ ks) = f k && each_kind f ks

abbrev pub pick_ty : Bool → Ty → Option Ty → Option Ty
pick_ty true A r = some A
pick_ty false A r = r

-- The declared type of an attribute, if there is one.
abbrev pub declared : ℕ → Attrs → Option Ty
declared t anil = none
declared t (acons u r A bs) = pick_ty (eqb t u) A (declared t bs)

-- "attributes, tags, and ascending kinds above it"; the kind is "ordinary or action".
pub record Shape : Type 0 where
  pub is_action : Bool
  pub attrs : Attrs
  pub tags : Option Ty
  pub above : List ℕ

pub data Var : Type 0 where
  principal action resource context : Var

-- What a partial sheet and a complete one that agrees with it have in common: shapes by kind, the bytes of texts, the types of the request.
pub record Schema : Type 0 where
  pub shape : ℕ → Shape
  pub bytes : ℕ → List ℕ
  pub request : Var → Ty

-- "all required attributes are there", told by which names are there.
abbrev pub Needed : Bool → Bool → Type 0
Needed true b = b ≡ true
Needed false b = Unit {0}

abbrev pub Complete : Attrs → (ℕ → Bool) → Type 0
Complete anil has = Unit {0}
Complete (acons t r A bs) has = Needed r (has t) × Complete bs has

-- "A value fits a record type if all required attributes are there and each one present is declared and fits; the empty set fits every set type."
-- "An entity fits if its kind is in the group."
mutual
  pub data Fits : Value → Ty → Type 0 where
    fbool : {b : Bool} → Fits (vbool b) tbool
    flong : {n : ℤ} → Fits (vlong n) tlong
    ftext : {t : ℕ} → Fits (vtext t) tstr
    fent : {k t l : ℕ} {ls : List ℕ} → among k (l ∷ ls) ≡ true → Fits (vent k t) (tent l ls)
    fset : {vs : Values} {A : Ty} → AllFit vs A → Fits (vset vs) (tset A)
    frec : {fs : Fields} {R : Attrs} → FieldsFit fs R → Complete R (λ t. found (find t fs)) → Fits (vrec fs) (trec R)

  pub data AllFit : Values → Ty → Type 0 where
    nil_fit : {A : Ty} → AllFit vnil A
    cons_fit : {v : Value} {vs : Values} {A : Ty} → Fits v A → AllFit vs A → AllFit (vcons v vs) A

  pub data FieldsFit : Fields → Attrs → Type 0 where
    no_field : {R : Attrs} → FieldsFit fnil R
    one_field : {t : ℕ} {v : Value} {fs : Fields} {R : Attrs} {A : Ty} → declared t R ≡ some A → Fits v A → FieldsFit fs R → FieldsFit (fcons t v fs) R

-- Equality of types, by trees of numbers as for values.
abbrev pub kinds_code : List ℕ → Tree
kinds_code [] = leaf 0
kinds_code (k ∷ ks) = node (leaf k) (kinds_code ks)

abbrev mutual
  pub ty_code : Ty → Tree
  ty_code tbool = leaf 0
  ty_code tlong = leaf 1
  ty_code tstr = leaf 2
  ty_code (tent k ks) = node (leaf 0) (node (leaf k) (kinds_code ks))
  ty_code (tset A) = node (leaf 1) (ty_code A)
  ty_code (trec R) = node (leaf 2) (attrs_code R)

  pub attrs_code : Attrs → Tree
  attrs_code anil = leaf 0
  attrs_code (acons t r A bs) = node (leaf t) (node (leaf (bit r)) (node (ty_code A) (attrs_code bs)))

abbrev pub ty_same : Ty → Ty → Bool
ty_same A B = compare_is_eq (cmp (ty_code A) (ty_code B))

-- Document 01, "Typing": which trees are typed. The rule of each operation stands in the document's words above its family.
use Rattle.std.specs.Prelude.{◌≡◌, Bool, true, false, ◌||◌, List, [], ◌∷◌, ℕ, eqb}
use Rattle.std.proofs.Math.Option.{Option, none, some}
use Rattle.cedar.specs.Value.{Value}
use Rattle.cedar.specs.Types.{Ty, tbool, tlong, tstr, tent, tset, trec, Attrs, among, declared, Schema, Var, Fits, Complete}
use Rattle.cedar.specs.Residual.{Item, uneg, uis, ulike, uempty, Un, unot, bmul, bany, beq, bsub, ble, blt, ball, bcontains, Bin, badd, rin, Rel, rgettag, rhastag, bin, gnil, rel, get, lit, err, set, var, and, un, or, has, haspath, econs, enil, rec, ite, gcons, Expr, Exprs, Args}

-- Whether a record node has a child of this text.
abbrev pub named : ℕ → Args → Bool
named t gnil = false
named t (gcons u e gs) = eqb t u || named t gs

module _ (S : Schema) where
  -- "entity or record": P of what each kind of the group declares, or the record; of no other type.
  abbrev pub Each : Ty → (Attrs → Type 0) → Type 0
  Each tbool P = ⊥
  Each tlong P = ⊥
  Each tstr P = ⊥
  Each (tent l ls) P = (k : ℕ) → among k (l ∷ ls) ≡ true → P (S.shape k).attrs
  Each (tset A) P = ⊥
  Each (trec R) P = P R

  -- Child and result: "bool for .. not", "long for .. neg", "string for like", "is .. take an entity", "empty a set".
  -- "The other results are bool, or long for arithmetic."
  pub data UnOk : Un → Ty → Ty → Type 0 where
    not_ok : UnOk unot tbool tbool
    neg_ok : UnOk uneg tlong tlong
    empty_ok : {A : Ty} → UnOk uempty (tset A) tbool
    is_ok : {k l : ℕ} {ls : List ℕ} → UnOk (uis k) (tent l ls) tbool
    like_ok : {p : List Item} → UnOk (ulike p) tstr tbool

  -- Children and result: "eq takes one type twice or two entity types", "long for lt, le, add, sub, mul",
  -- "contains a set and its element; all, any two equal set types".
  pub data BinOk : Bin → Ty → Ty → Ty → Type 0 where
    eq_ok : {A : Ty} → BinOk beq A A tbool
    eq_ent_ok : {k l : ℕ} {ks ls : List ℕ} → BinOk beq (tent k ks) (tent l ls) tbool
    lt_ok : BinOk blt tlong tlong tbool
    le_ok : BinOk ble tlong tlong tbool
    add_ok : BinOk badd tlong tlong tlong
    sub_ok : BinOk bsub tlong tlong tlong
    mul_ok : BinOk bmul tlong tlong tlong
    contains_ok : {A : Ty} → BinOk bcontains (tset A) A tbool
    all_ok : {A : Ty} → BinOk ball (tset A) (tset A) tbool
    any_ok : {A : Ty} → BinOk bany (tset A) (tset A) tbool

  -- "in takes an entity and an entity or set of entities", "gettag and hastag take an entity",
  -- "string for .. the second of gettag, hastag", "`get` and `gettag` need the same declared type in every kind".
  pub data RelOk : Rel → Ty → Ty → Ty → Type 0 where
    in_ok : {k l : ℕ} {ks ls : List ℕ} → RelOk rin (tent k ks) (tent l ls) tbool
    in_set_ok : {k l : ℕ} {ks ls : List ℕ} → RelOk rin (tent k ks) (tset (tent l ls)) tbool
    get_tag_ok : {l : ℕ} {ls : List ℕ} {T : Ty} → ((k : ℕ) → among k (l ∷ ls) ≡ true → (S.shape k).tags ≡ some T) → RelOk rgettag (tent l ls) tstr T
    has_tag_ok : {k : ℕ} {ks : List ℕ} → RelOk rhastag (tent k ks) tstr tbool

  -- P of the declared type; "free after an undeclared step"
  abbrev pub IfDeclared : Option Ty → (Ty → Type 0) → Type 0
  IfDeclared none P = Unit {0}
  IfDeclared (some A) P = P A

  -- "A `haspath` step before the last must be an entity or record in each kind or record reached that declares it."
  abbrev pub PathOk : List ℕ → ℕ → Ty → Type 0
  PathOk [] t A = Each A (λ R. Unit {0})
  PathOk (u ∷ us) t A = Each A (λ R. IfDeclared (declared t R) (λ B. PathOk us u B))

  -- "A lit's value fits the node's type; var has its request type; err any." "bool for and, or, .. the test of if",
  -- "branches have the node's type", "get a declared attribute (entity or record) of the node's type", "has an entity or record";
  -- "`get` and `gettag` need the same declared type in every kind".
  mutual
    pub data Typed : Expr → Ty → Type 0 where
      tlit : {T : Ty} {v : Value} → Fits v T → Typed (lit T v) T
      terr : {T : Ty} → Typed (err T) T
      tvar : {T : Ty} {x : Var} → S.request x ≡ T → Typed (var T x) T
      tand : {a b : Expr} → Typed a tbool → Typed b tbool → Typed (and tbool a b) tbool
      tor : {a b : Expr} → Typed a tbool → Typed b tbool → Typed (or tbool a b) tbool
      tite : {c a b : Expr} {T : Ty} → Typed c tbool → Typed a T → Typed b T → Typed (ite T c a b) T
      tun : {u : Un} {a : Expr} {A T : Ty} → UnOk u A T → Typed a A → Typed (un T u a) T
      tbin : {o : Bin} {a b : Expr} {A B T : Ty} → BinOk o A B T → Typed a A → Typed b B → Typed (bin T o a b) T
      trel : {o : Rel} {a b : Expr} {A B T : Ty} → RelOk o A B T → Typed a A → Typed b B → Typed (rel T o a b) T
      tget : {a : Expr} {A T : Ty} {t : ℕ} → Each A (λ R. declared t R ≡ some T) → Typed a A → Typed (get T a t) T
      thas : {a : Expr} {A : Ty} {t : ℕ} → Each A (λ R. Unit {0}) → Typed a A → Typed (has tbool a t) tbool
      tpath : {a : Expr} {A : Ty} {t : ℕ} {ts : List ℕ} → PathOk ts t A → Typed a A → Typed (haspath tbool a t ts) tbool
      tset' : {es : Exprs} {A : Ty} → AllTyped es A → Typed (set (tset A) es) (tset A)
      trec' : {gs : Args} {R : Attrs} → ArgsTyped gs R → Complete R (λ t. named t gs) → Typed (rec (trec R) gs) (trec R)

    -- "Set children have the element type."
    pub data AllTyped : Exprs → Ty → Type 0 where
      nil_typed : {A : Ty} → AllTyped enil A
      cons_typed : {e : Expr} {es : Exprs} {A : Ty} → Typed e A → AllTyped es A → AllTyped (econs e es) A

    -- "record children fit the record type": each is declared and has the declared type; the required ones are there (`Complete` above).
    pub data ArgsTyped : Args → Attrs → Type 0 where
      no_arg : {R : Attrs} → ArgsTyped gnil R
      one_arg : {t : ℕ} {e : Expr} {gs : Args} {R : Attrs} {A : Ty} → declared t R ≡ some A → Typed e A → ArgsTyped gs R → ArgsTyped (gcons t e gs) R

-- Values by content: what document 01 calls a value once its number is read. A text is its number, as texts are distinct.
-- Sets have one form (`Canonical.makeSet`) and the fields of a record ascend by text, so that equal content is equality, `≡`.
use Rattle.std.specs.Prelude.{Bool, true, false, ℕ, ℤ, eqb}
use Rattle.std.proofs.Math.Option.{Option, none, some}

-- "`bool,0|1`, `long,n`, `text,t`, `entity,kind,t`, `set,v..` (ascending), `record,t,v,..` (texts ascending)"
mutual
  pub data Value : Type 0 where
    vbool : Bool → Value
    vlong : ℤ → Value
    vtext : ℕ → Value
    vent : ℕ → ℕ → Value
    vset : Values → Value
    vrec : Fields → Value

  pub data Values : Type 0 where
    vnil : Values
    vcons : Value → Values → Values

  pub data Fields : Type 0 where
    fnil : Fields
    fcons : ℕ → Value → Fields → Fields

-- What evaluation yields: "the value or error that the Cedar specification gives".
pub data Result : Type 0 where
  ok : Value → Result
  fail : Result

-- An error ends the operation; a value is handed on.
abbrev pub bind : Result → (Value → Result) → Result
bind (ok v) f = f v
bind fail f = fail

abbrev pub ok_bool : Bool → Result
ok_bool b = ok (vbool b)

-- The value of a record's field, if it is there.
abbrev pub pick : Bool → Value → Option Value → Option Value
pick true v r = some v
pick false v r = r

abbrev pub find : ℕ → Fields → Option Value
find t fnil = none
find t (fcons u v fs) = pick (eqb t u) v (find t fs)

abbrev pub found : Option Value → Bool
found none = false
found (some v) = true

-- Taking a value apart; `d` is the answer where the value is of another sort.
module _ {A : Type 0} (d : A) where
  abbrev pub on_bool : Value → (Bool → A) → A
  on_bool (vbool b) f = f b
  on_bool (vlong n) f = d
  on_bool (vtext t) f = d
  on_bool (vent k t) f = d
  on_bool (vset vs) f = d
  on_bool (vrec fs) f = d

  abbrev pub on_long : Value → (ℤ → A) → A
  on_long (vbool b) f = d
  on_long (vlong n) f = f n
  on_long (vtext t) f = d
  on_long (vent k t) f = d
  on_long (vset vs) f = d
  on_long (vrec fs) f = d

  abbrev pub on_text : Value → (ℕ → A) → A
  on_text (vbool b) f = d
  on_text (vlong n) f = d
  on_text (vtext t) f = f t
  on_text (vent k t) f = d
  on_text (vset vs) f = d
  on_text (vrec fs) f = d

  abbrev pub on_ent : Value → (ℕ → ℕ → A) → A
  on_ent (vbool b) f = d
  on_ent (vlong n) f = d
  on_ent (vtext t) f = d
  on_ent (vent k t) f = f k t
  on_ent (vset vs) f = d
  on_ent (vrec fs) f = d

  abbrev pub on_set : Value → (Values → A) → A
  on_set (vbool b) f = d
  on_set (vlong n) f = d
  on_set (vtext t) f = d
  on_set (vent k t) f = d
  on_set (vset vs) f = f vs
  on_set (vrec fs) f = d

  abbrev pub on_some {ℓ} : {B : Type ℓ} → Option B → (B → A) → A
  on_some none f = d
  on_some (some b) f = f b

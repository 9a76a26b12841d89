-- What value rows stand for: a table of distinct rows, each over the contents of the rows before it.
use Rattle.std.specs.Prelude.{◌≡◌, Bool, List, [], ◌∷◌, ◌++◌, ℕ, zero, suc, ◌<◌, ℤ}
use Rattle.cedar.specs.Value.{Value, vbool, vlong, vtext, vent, vset, vrec, Values, vnil, vcons, Fields, fnil, fcons}
use Rattle.cedar.specs.Canonical.{ascending}
use Rattle.cedar.specs.Rows.{entry, stop, Entries, rrec, rlong, rbool, rent, Row, rset, rtext}

-- The item of a list at a number.
pub data At {A : Type 0} : List A → ℕ → A → Type 0 where
  now : {a : A} {l : List A} → At (a ∷ l) zero a
  later : {a b : A} {l : List A} {n : ℕ} → At l n a → At (b ∷ l) (suc n) a

-- Numbers that ascend strictly; all of them above n.
pub data Least (n : ℕ) : List ℕ → Type 0 where
  end : Least n []
  less : {m : ℕ} {l : List ℕ} → n < m → Least n l → Least n (m ∷ l)

pub data Asc : List ℕ → Type 0 where
  end : Asc []
  up : {n : ℕ} {l : List ℕ} → Least n l → Asc l → Asc (n ∷ l)

-- What numbers and rows stand for, over the contents C of the rows before.
module _ (C : List Value) where
  pub data Elems : List ℕ → Values → Type 0 where
    elem0 : Elems [] vnil
    elem1 : {n : ℕ} {l : List ℕ} {v : Value} {vs : Values} → At C n v → Elems l vs → Elems (n ∷ l) (vcons v vs)

  pub data Named : Entries → Fields → Type 0 where
    name0 : Named stop fnil
    name1 : {t n : ℕ} {e : Entries} {v : Value} {fs : Fields} → At C n v → Named e fs → Named (entry t n e) (fcons t v fs)

  pub data Denotes : Row → Value → Type 0 where
    dbool : {b : Bool} → Denotes (rbool b) (vbool b)
    dlong : {n : ℤ} → Denotes (rlong n) (vlong n)
    dtext : {t : ℕ} → Denotes (rtext t) (vtext t)
    dent : {k t : ℕ} → Denotes (rent k t) (vent k t)
    dset : {l : List ℕ} {xs vs : Values} → Asc l → Elems l xs → ascending xs ≡ vs → Denotes (rset l) (vset vs)
    drec : {e : Entries} {fs : Fields} → Named e fs → Denotes (rrec e) (vrec fs)

-- "Types, values and nodes refer only to earlier ones of their key", "distinct": each row is over those before it, and new.
pub data Table : List Row → List Value → Type 0 where
  start : Table [] []
  grow : {T : List Row} {C : List Value} {r : Row} {v : Value} → Table T C → Denotes C r v → ((n : ℕ) → At T n r → ⊥) → Table (T ++ (r ∷ [])) (C ++ (v ∷ []))

-- Requests and entities, known in part or whole: look-ups, what fits the schema, and when a complete sheet agrees with a partial one.
use Rattle.std.specs.Prelude.{◌≡◌, true, List, ℕ}
use Rattle.std.proofs.Math.Option.{Option, none, some}
use Rattle.cedar.specs.Value.{Value, vent, Values, vnil, vcons, Fields, fnil, fcons}
use Rattle.cedar.specs.Types.{Ty, Schema, Var, among, Fits, FieldsFit}

-- A complete sheet: each entity's line, by kind and text, and the request. "A look-up of an entity finds its line or finds none."
pub record Line : Type 0 where
  pub attrs : Fields
  pub tags : Fields
  pub ancestors : Values

pub record Env : Type 0 where
  pub request : Var → Value
  pub line : ℕ → ℕ → Option Line

-- A partial sheet: "each of the three may be `?`, unknown", here `none`.
pub record PLine : Type 0 where
  pub attrs : Option Fields
  pub tags : Option Fields
  pub ancestors : Option Values

pub record PEnv : Type 0 where
  pub request : Var → Option Value
  pub line : ℕ → ℕ → Option PLine

-- "In a complete run an unlisted entity has no attributes, tags or ancestors."
abbrev pub line_or : Option Line → Line
line_or none = record { attrs = fnil; tags = fnil; ancestors = vnil }
line_or (some l) = l

abbrev pub entity : Env → ℕ → ℕ → Line
entity C k t = line_or (C.line k t)

-- "Unlisted entity on a partial sheet: .. It is unknown."
abbrev pub pline_or : Option PLine → PLine
pline_or none = record { attrs = none; tags = none; ancestors = none }
pline_or (some l) = l

abbrev pub pentity : PEnv → ℕ → ℕ → PLine
pentity P k t = pline_or (P.line k t)

-- All of a complete sheet as known parts: an unlisted entity is known to have nothing.
abbrev pub whole : Env → PEnv
whole C = record {
  request = λ x. some (C.request x);
  line = λ k t. some (record { attrs = some (entity C k t).attrs; tags = some (entity C k t).tags; ancestors = some (entity C k t).ancestors });
}

-- "each ancestor's kind among those above"
pub data KindsIn (ls : List ℕ) : Values → Type 0 where
  no_kind : KindsIn ls vnil
  one_kind : {k t : ℕ} {vs : Values} → among k ls ≡ true → KindsIn ls vs → KindsIn ls (vcons (vent k t) vs)

-- "no tags where it says `-`, else tags of the tag type"
pub data TagsFit : Option Ty → Fields → Type 0 where
  no_tag : {o : Option Ty} → TagsFit o fnil
  one_tag : {A : Ty} {t : ℕ} {v : Value} {fs : Fields} → Fits v A → TagsFit (some A) fs → TagsFit (some A) (fcons t v fs)

module _ (S : Schema) where
  -- "Entity lines fit their shape."
  pub record LineFits (k : ℕ) (l : Line) : Type 0 where
    pub attrs : FieldsFit l.attrs (S.shape k).attrs
    pub tags : TagsFit (S.shape k).tags l.tags
    pub ancestors : KindsIn (S.shape k).above l.ancestors

  -- "A known context fits its record type", principal, action and resource have their kinds, and every entity line fits.
  pub record EnvFits (C : Env) : Type 0 where
    pub request : (x : Var) → Fits (C.request x) (S.request x)
    pub line : (k t : ℕ) (l : Line) → C.line k t ≡ some l → LineFits k l

-- "every known request or entity part is the same. Each entity listed on the partial sheet is listed on the complete one; more may be."
pub record LineAgrees (p : PLine) (l : Line) : Type 0 where
  pub attrs : (fs : Fields) → p.attrs ≡ some fs → l.attrs ≡ fs
  pub tags : (fs : Fields) → p.tags ≡ some fs → l.tags ≡ fs
  pub ancestors : (vs : Values) → p.ancestors ≡ some vs → l.ancestors ≡ vs

pub record Agree (P : PEnv) (C : Env) : Type 0 where
  pub request : (x : Var) (v : Value) → P.request x ≡ some v → C.request x ≡ v
  pub line : (k t : ℕ) (p : PLine) → P.line k t ≡ some p → (l : Line) × (C.line k t ≡ some l) × LineAgrees p l

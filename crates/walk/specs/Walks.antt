-- Where a path of texts leads.
use Rattle.std.specs.Prelude.{◌≡◌, Bool, true, false, cond, List, [], ◌∷◌, ℕ, suc}
use Rattle.cedar.specs.Evaluate.{is_nil}
use Rattle.lookup.specs.Lookups.{look_attr}
use Rattle.notes.specs.Noted.{Noted}
use Rattle.firsts.specs.Firsts.{Firsts}
use Rattle.notes.specs.declared.Span.{Span}
use Rattle.firsts.specs.declared.Cell.{Cell}
use Rattle.lookup.specs.declared.Look.{Look}
use Rattle.lookup.specs.declared.Look.TheVariants.{At as Atˡ, Missing, Unknown as Unknownˡ, Bad}
use Rattle.walk.specs.declared.Walked.{Walked}
use Rattle.walk.specs.declared.Walked.TheVariants.{Holds, Fails as Failsʷ, Left}

-- ---- a path from value n on, of which i steps were taken

abbrev pub walk_step : ℕ → ℕ → Look → Bool → (ℕ → Walked) → Walked
walk_step n i (Atˡ x) end next = cond end (Holds true) (next x)
walk_step n i Missing end next = Holds false
walk_step n i (Unknownˡ k) end next = Left n k i
walk_step n i Bad end next = Failsʷ

unfoldable pub walk_from : Bool → List ℕ → ℕ → ℕ → List ℕ → Walked
walk_from c a n i [] = Failsʷ
walk_from c a n i (t ∷ ts) = walk_step n i (look_attr c a n t) (is_nil ts) (λ x. walk_from c a x (suc i) ts)

-- text u is looked up in value v, and what is noted of entries and in cells holds
pub record Found (c : Bool) (a : List ℕ) (v u : ℕ) (spans : List Span) (cells : List Cell) (l : Look) : Type 0 where
  pub is : l ≡ look_attr c a v u
  pub noted : Noted c a spans
  pub right : Firsts a cells

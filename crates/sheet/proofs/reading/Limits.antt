-- No key has more lines than its greatest number.
use mathlib.Core.Path.{◌≡◌, refl, ap}
use mathlib.Core.List.{List, [], ◌∷◌, ◌++◌}
use Prim.Native.Nat.{ℕ, zero, suc, ◌<◌, ◌≤◌}
use native.Mathlib.Omega.{arith}
use borrow.Author.Tests.{leb-false}
use lib.ListN.{length, get_or, length-append}
use Rattle.sheet.specs.Forms.{Mode, TEXT, KIND, TYPE, SHAPE, VALUE, ENTITY, NODE, POLICY, LINK, TERM}
use Rattle.sheet.specs.State.{State, lines_of, count}
use Rattle.sheet.specs.Sheet.{greatest}
use Rattle.sheet.proofs.reading.Lines.{History}

pub last_of : {X : Type 0} (l : List (List ℕ)) → (l ≡ [] → X) → ((pre : List (List ℕ)) (r : List ℕ) → l ≡ pre ++ (r ∷ []) → X) → X
last_of [] f g = f refl
last_of (x ∷ l) f g = last_of l (λ e. g [] x (ap (λ z. x ∷ z) e)) (λ pre r e. g (x ∷ pre) r (ap (λ z. x ∷ z) e))

-- the limits look at the kinds only
abbrev with_kinds : List (List ℕ) → State
with_kinds l = record { lines = [] ∷ [] ∷ l ∷ []; depths = []; used = [] }

same_greatest : (u s : State) (k : ℕ) → ((j : ℕ) → j < k → lines_of u j ≡ lines_of s j) → get_or (greatest u) k 0 ≡ get_or (greatest s) k 0
same_greatest u s zero h = refl
same_greatest u s (suc zero) h = refl
same_greatest u s (suc (suc zero)) h = refl
same_greatest u s (suc (suc (suc k))) h = ap (λ l. get_or (greatest (with_kinds l)) (suc (suc (suc k))) 0) (h 2 (omega arith))

-- no key of an accepted sheet has more lines than its greatest number
pub lines_at_most : (m : Mode) (s : State) → History m s → (k : ℕ) → count s k ≤ get_or (greatest s) k 0
lines_at_most m s h k = last_of (lines_of s k) (λ e. let z : count s k ≡ 0 = ap length e in omega (arith, z))
    (λ pre r e. let w = h k pre r [] e in
    let a = leb-false (get_or (greatest w.was) k 0) (count w.was k) w.pass.room in
    let b = same_greatest w.was s k w.earlier in
    let c : count w.was k ≡ length pre = ap length w.mine in
    let d : count s k ≡ length (pre ++ (r ∷ [])) = ap length e in
    let f = length-append pre (r ∷ []) in
    omega (arith, a, b, c, d, f))

-- "with their greatest number of lines"
pub record Most (s : State) : Type 0 where
  pub texts : count s TEXT ≤ 512
  pub kinds : count s KIND ≤ 32
  pub types : count s TYPE ≤ 128
  pub shapes : count s SHAPE ≤ count s KIND
  pub values : count s VALUE ≤ 1024
  pub entities : count s ENTITY ≤ 128
  pub nodes : count s NODE ≤ 1024
  pub policies : count s POLICY ≤ 64
  pub links : count s LINK ≤ 64
  pub terms : count s TERM ≤ 64

pub most_lines : (m : Mode) (s : State) → History m s → Most s
most_lines m s h = record {
  texts = lines_at_most m s h TEXT;
  kinds = lines_at_most m s h KIND;
  types = lines_at_most m s h TYPE;
  shapes = lines_at_most m s h SHAPE;
  values = lines_at_most m s h VALUE;
  entities = lines_at_most m s h ENTITY;
  nodes = lines_at_most m s h NODE;
  policies = lines_at_most m s h POLICY;
  links = lines_at_most m s h LINK;
  terms = lines_at_most m s h TERM;
}

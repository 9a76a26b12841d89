-- A path is typed step by step over the set of types reached: all of them are entities or records, and the rest of the path is typed from all
-- that they declare for the step. Only which types are reached counts, so a program may keep them as a set and need not follow each way
-- alone: a path of n steps over a group of k kinds has up to k^n ways.
use mathlib.Core.Path.{◌≡◌, refl, sym, ◌∙◌, ap, ap₂, subst}
use mathlib.Core.Bool.{Bool, true, false, ◌&&◌}
use mathlib.Core.Option.{Option, none, some}
use mathlib.Core.List.{List, [], ◌∷◌, ◌++◌}
use Prim.Native.Nat.{ℕ}
use lib.Dec.{eqb}
use Rattle.cedar.proofs.Tools.{no_true, eqb_true, eqb_self, or_left, or_right, either, both, and_both, iff}
use Rattle.cedar.specs.Value.{on_some}
use Rattle.cedar.specs.Numbered.{mem_n}
use Rattle.sheet.specs.State.{State, TypeRow, bool, long, string, entity, set', record', type_at}
use Rattle.sheet.specs.Typing.{on_entity, on_record, declared_in, all_in, attributes_of, each_of, path_typed}

-- ---- tests of all members of a list

all_append : (f : ℕ → Bool) (k l : List ℕ) → all_in f (k ++ l) ≡ (all_in f k && all_in f l)
all_append f [] l = refl
all_append f (x ∷ k) l = go (f x) (all_append f k l)
  where
    go : (b : Bool) → all_in f (k ++ l) ≡ (all_in f k && all_in f l) → (b && all_in f (k ++ l)) ≡ ((b && all_in f k) && all_in f l)
    go true e = e
    go false e = refl

member_passes : (f : ℕ → Bool) (l : List ℕ) → all_in f l ≡ true → (x : ℕ) → mem_n x l ≡ true → f x ≡ true
member_passes f [] e x m = no_true m
member_passes f (y ∷ l) e x m = and_both (f y) (all_in f l) e (λ p q. either (eqb x y) (mem_n x l) m (λ z. subst (λ w. f w ≡ true) (sym (eqb_true x y z)) p) (λ z. member_passes f l q x z))

all_pass : (f : ℕ → Bool) (l : List ℕ) → ((x : ℕ) → mem_n x l ≡ true → f x ≡ true) → all_in f l ≡ true
all_pass f [] h = refl
all_pass f (y ∷ l) h = both (h y (or_left (eqb y y) (mem_n y l) (eqb_self y))) (all_pass f l (λ x m. h x (or_right (eqb x y) (mem_n x l) m)))

-- only the members count
pub same_members : (f : ℕ → Bool) (k l : List ℕ) → ((x : ℕ) → mem_n x k ≡ mem_n x l) → all_in f k ≡ all_in f l
same_members f k l e = iff (all_in f k) (all_in f l)
    (λ p. all_pass f l (λ x m. member_passes f k p x (e x ∙ m)))
    (λ p. all_pass f k (λ x m. member_passes f l p x (sym (e x) ∙ m)))

-- ---- the types reached by a step

abbrev pub list_of : Option ℕ → List ℕ
list_of none = []
list_of (some y) = y ∷ []

abbrev pub declared_for : ℕ → TypeRow → List ℕ
declared_for t row = on_record [] row (λ ds. list_of (declared_in t ds))

abbrev pub reached_in : State → ℕ → List ℕ → List ℕ
reached_in s t [] = []
reached_in s t (k ∷ ks) = declared_for t (type_at s (attributes_of s k)) ++ reached_in s t ks

-- from a type, and from all types of a list
abbrev pub reached : State → ℕ → ℕ → List ℕ
reached s t y = on_entity (declared_for t (type_at s y)) (type_at s y) (reached_in s t)

abbrev pub reached_all : State → ℕ → List ℕ → List ℕ
reached_all s t [] = []
reached_all s t (y ∷ ys) = reached s t y ++ reached_all s t ys

-- an entity or a record
abbrev pub is_place : State → ℕ → Bool
is_place s y = each_of s y (λ ds. true)

and_true : (b : Bool) → b ≡ (b && true)
and_true true = refl
and_true false = refl

exchange : (a p b q : Bool) → ((a && p) && (b && q)) ≡ ((a && b) && (p && q))
exchange true true b q = and_one b q
  where
    and_one : (b q : Bool) → (b && q) ≡ (b && (true && q))
    and_one true q = refl
    and_one false q = refl
exchange true false true q = refl
exchange true false false q = refl
exchange false p b q = refl

module _ (s : State) (t : ℕ) (f : ℕ → Bool) where
  of_record : (row : TypeRow) → on_record false row (λ ds. on_some true (declared_in t ds) f) ≡ (on_record false row (λ ds. true) && all_in f (declared_for t row))
  of_record bool = refl
  of_record long = refl
  of_record string = refl
  of_record (entity k ks) = refl
  of_record (set' y) = refl
  of_record (record' ds) = go (declared_in t ds)
    where
      go : (o : Option ℕ) → on_some true o f ≡ all_in f (list_of o)
      go none = refl
      go (some y) = and_true (f y)

  of_kinds : (ks : List ℕ) → all_in (λ k. on_record false (type_at s (attributes_of s k)) (λ ds. on_some true (declared_in t ds) f)) ks
      ≡ (all_in (λ k. on_record false (type_at s (attributes_of s k)) (λ ds. true)) ks && all_in f (reached_in s t ks))
  of_kinds [] = refl
  of_kinds (k ∷ ks) =
      ap₂ ◌&&◌ (of_record (type_at s (attributes_of s k))) (of_kinds ks)
      ∙ exchange (on_record false (type_at s (attributes_of s k)) (λ ds. true)) (all_in f (declared_for t (type_at s (attributes_of s k)))) (all_in (λ k. on_record false (type_at s (attributes_of s k)) (λ ds. true)) ks) (all_in f (reached_in s t ks))
      ∙ ap (λ b. all_in (λ k. on_record false (type_at s (attributes_of s k)) (λ ds. true)) (k ∷ ks) && b) (sym (all_append f (declared_for t (type_at s (attributes_of s k))) (reached_in s t ks)))

  of_type : (y : ℕ) → each_of s y (λ ds. on_some true (declared_in t ds) f) ≡ (is_place s y && all_in f (reached s t y))
  of_type y = go (type_at s y)
    where
      go : (row : TypeRow) → on_entity (on_record false row (λ ds. on_some true (declared_in t ds) f)) row (all_in (λ k. on_record false (type_at s (attributes_of s k)) (λ ds. on_some true (declared_in t ds) f)))
          ≡ (on_entity (on_record false row (λ ds. true)) row (all_in (λ k. on_record false (type_at s (attributes_of s k)) (λ ds. true))) && all_in f (on_entity (declared_for t row) row (reached_in s t)))
      go bool = refl
      go long = refl
      go string = refl
      go (entity k ks) = of_kinds (k ∷ ks)
      go (set' y) = refl
      go (record' ds) = of_record (record' ds)

-- ONE STEP, from every type of a list; the last step asks only for entities or records
pub steps_typed : (s : State) (u : ℕ) (us : List ℕ) (t : ℕ) (ys : List ℕ) → all_in (path_typed s (u ∷ us) t) ys ≡ (all_in (is_place s) ys && all_in (path_typed s us u) (reached_all s t ys))
steps_typed s u us t [] = refl
steps_typed s u us t (y ∷ ys) =
    ap₂ ◌&&◌ (of_type s t (path_typed s us u) y) (steps_typed s u us t ys)
    ∙ exchange (is_place s y) (all_in (path_typed s us u) (reached s t y)) (all_in (is_place s) ys) (all_in (path_typed s us u) (reached_all s t ys))
    ∙ ap (λ b. all_in (is_place s) (y ∷ ys) && b) (sym (all_append (path_typed s us u) (reached s t y) (reached_all s t ys)))

pub last_typed : (s : State) (t : ℕ) (ys : List ℕ) → all_in (path_typed s [] t) ys ≡ all_in (is_place s) ys
last_typed s t ys = refl

-- the whole path, from one type
pub path_from : (s : State) (us : List ℕ) (t y : ℕ) → path_typed s us t y ≡ all_in (path_typed s us t) (y ∷ [])
path_from s us t y = and_true (path_typed s us t y)

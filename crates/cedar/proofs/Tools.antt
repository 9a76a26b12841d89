-- Small tools of the proofs.
use mathlib.Core.Path.{◌≡◌, refl, subst, sym, ◌∙◌}
use mathlib.Core.Bool.{Bool, true, false, true≢false, ◌&&◌, ◌||◌}
use mathlib.Core.Option.{Option, none, some, none-ne-some}
use mathlib.Core.List.{List, [], ◌∷◌, ◌++◌}
use Prim.Native.Nat.{ℕ, zero, suc}
use lib.Dec.{eqb, T, eqb→eq, eqb_refl}
use lib.ListN.{get_or}
use Rattle.cedar.specs.Types.{among, some_kind, each_kind}

-- nothing is both none and some; true is not false
pub no_some : {A X : Type 0} {a : A} → ◌≡◌ {A = Option A} none (some a) → X
no_some {a = a} e = absurd (none-ne-some a e)

pub no_true : {X : Type 0} → false ≡ true → X
no_true e = absurd (true≢false (sym e))

pub the_same : {A : Type 0} {o : Option A} {a b : A} → o ≡ some a → o ≡ some b → a ≡ b
the_same {a = a} {b = b} p q = cc

pub eqb_true : (m n : ℕ) → eqb m n ≡ true → m ≡ n
eqb_true m n e = eqb→eq m n (subst T (sym e) tt)

pub neither : (p q : Bool) → (p || q) ≡ false → (p ≡ false) × (q ≡ false)
neither true q e = no_true (sym e)
neither false q e = (refl, e)

pub or_left : (p q : Bool) → p ≡ true → (p || q) ≡ true
or_left true q e = refl
or_left false q e = no_true e

pub or_right : (p q : Bool) → q ≡ true → (p || q) ≡ true
or_right true q e = refl
or_right false q e = e

pub either : {X : Type 0} (p q : Bool) → (p || q) ≡ true → (p ≡ true → X) → (q ≡ true → X) → X
either true q e f g = f refl
either false q e f g = g e

pub both : {p q : Bool} → p ≡ true → q ≡ true → (p && q) ≡ true
both e f = rw (e, f)

pub and_both : {X : Type 0} (p q : Bool) → (p && q) ≡ true → (p ≡ true → q ≡ true → X) → X
and_both true q e h = h refl e
and_both false q e h = no_true e

pub and_left : (p q : Bool) → (p && q) ≡ true → p ≡ true
and_left p q e = and_both p q e (λ a b. a)

pub and_right : (p q : Bool) → (p && q) ≡ true → q ≡ true
and_right p q e = and_both p q e (λ a b. b)

pub iff : (p q : Bool) → (p ≡ true → q ≡ true) → (q ≡ true → p ≡ true) → p ≡ q
iff true q f g = sym (f refl)
iff false true f g = g refl
iff false false f g = refl

-- ---- groups of kinds

pub eqb_self : (n : ℕ) → eqb n n ≡ true
eqb_self n = go (eqb n n) (eqb_refl n)
  where
    go : (b : Bool) → T b → b ≡ true
    go true h = refl
    go false h = absurd h

-- a test that each kind passes, at one of them; and a test that none passes
pub each_at : (f : ℕ → Bool) (ks : List ℕ) → each_kind f ks ≡ true → (k : ℕ) → among k ks ≡ true → f k ≡ true
each_at f [] e k m = no_true m
each_at f (l ∷ ls) e k m = and_both (f l) (each_kind f ls) e (λ p q. either (eqb k l) (among k ls) m (λ x. subst (λ z. f z ≡ true) (sym (eqb_true k l x)) p) (λ x. each_at f ls q k x))

pub no_kind_law : (f : ℕ → Bool) (ks : List ℕ) → some_kind f ks ≡ false → (k : ℕ) → among k ks ≡ true → f k ≡ false
no_kind_law f [] e k m = no_true m
no_kind_law f (l ∷ ls) e k m = let (p, q) = neither (f l) (some_kind f ls) e in either (eqb k l) (among k ls) m (λ x. subst (λ z. f z ≡ false) (sym (eqb_true k l x)) p) (λ x. no_kind_law f ls q k x)

-- what each kind of a group is, a test of all
pub each_of_law : (f : ℕ → Bool) (ks : List ℕ) → ((k : ℕ) → among k ks ≡ true → f k ≡ true) → each_kind f ks ≡ true
each_of_law f [] h = refl
each_of_law f (l ∷ ls) h = both (h l (or_left (eqb l l) (among l ls) (eqb_self l))) (each_of_law f ls (λ k m. h k (or_right (eqb k l) (among k ls) m)))

-- a kind that is not in a list differs from one that is
pub differ : (l m : ℕ) (ls : List ℕ) → among l ls ≡ false → among m ls ≡ true → eqb l m ≡ false
differ l m ls e f = go (eqb l m) refl
  where
    go : (b : Bool) → eqb l m ≡ b → b ≡ false
    go true q = no_true (sym e ∙ subst (λ x. among x ls ≡ true) (sym (eqb_true l m q)) f)
    go false q = refl

-- a kind of a group of one
pub only_kind : (k l : ℕ) → among k (l ∷ []) ≡ true → k ≡ l
only_kind k l m = either (eqb k l) false m (eqb_true k l) no_true

pub one_kind_law : (P : ℕ → Type 0) (l : ℕ) → P l → (k : ℕ) → among k (l ∷ []) ≡ true → P k
one_kind_law P l p k m = subst P (sym (only_kind k l m)) p

pub in_alone : (k : ℕ) → among k (k ∷ []) ≡ true
in_alone k = or_left (eqb k k) false (eqb_self k)

-- what holds of each entry of a list, and of what is read past its end, holds of the list with one entry more
pub all_snoc : {A : Type 0} (P : A → Type 0) (d : A) → P d → (l : List A) (a : A) → ((n : ℕ) → P (get_or l n d)) → P a → (n : ℕ) → P (get_or (l ++ (a ∷ [])) n d)
all_snoc P d p [] a h k zero = k
all_snoc P d p [] a h k (suc n) = p
all_snoc P d p (x ∷ l) a h k zero = h 0
all_snoc P d p (x ∷ l) a h k (suc n) = all_snoc P d p l a (λ i. h (suc i)) k n

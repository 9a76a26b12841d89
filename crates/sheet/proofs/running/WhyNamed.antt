-- WHAT THE NAME IS, by the decision: the first policy that is called true and has the effect that decides; `none` where there is none. Assumes nothing.
use mathlib.Core.Path.{◌≡◌, refl, sym, ◌∙◌, ap, ap₂, subst}
use mathlib.Core.Bool.{Bool, true, false, cond, ◌&&◌, ◌||◌}
use mathlib.Core.Option.{none, some}
use mathlib.Core.List.{List, [], ◌∷◌}
use Prim.Native.Nat.{ℕ}
use native.Mathlib.Omega.{arith}
use lib.ListN.{length}
use Rattle.cedar.proofs.Tools.{no_some, no_true, the_same, and_both}
use Rattle.cedar.specs.Residual.{Class, ctrue, cfalse, cerror, copen}
use Rattle.cedar.specs.Response.{Effect, permit, forbid, is_permit, is_forbid, is_true, is_open, Verdict, allow, deny, undecided, any_line, decide, decision}
use Rattle.sheet.specs.Why.{true_ones, reasons_for, first_name, why}

-- of the policies that have this effect and are called true, i is the first
pub data FirstTrue (e : Effect) (i : ℕ) : List ℕ → List Verdict → Type 0 where
  here : {is : List ℕ} {ls : List Verdict} → FirstTrue e i (i ∷ is) (record { effect = e; class = ctrue } ∷ ls)
  below : {j : ℕ} {is : List ℕ} {l : Verdict} {ls : List Verdict} → (l ≡ record { effect = e; class = ctrue } → ⊥) → FirstTrue e i is ls → FirstTrue e i (j ∷ is) (l ∷ ls)

-- a test that holds of one effect alone
abbrev Tests : (Effect → Bool) → Effect → Type 0
Tests f e = (f e ≡ true) × ((x : Effect) → f x ≡ true → x ≡ e)

tests_permit : Tests is_permit permit
tests_permit = (refl, only)
  where
    only : (x : Effect) → is_permit x ≡ true → x ≡ permit
    only permit q = refl
    only forbid q = no_true q

tests_forbid : Tests is_forbid forbid
tests_forbid = (refl, only)
  where
    only : (x : Effect) → is_forbid x ≡ true → x ≡ forbid
    only permit q = no_true q
    only forbid q = refl

is_true_law : (c : Class) → is_true c ≡ true → c ≡ ctrue
is_true_law ctrue q = refl
is_true_law cfalse q = no_true q
is_true_law cerror q = no_true q
is_true_law copen q = no_true q

-- ---- the first of the true ones of an effect

module _ (f : Effect → Bool) (e : Effect) (t : Tests f e) where
  first_true : {i : ℕ} (is : List ℕ) (ls : List Verdict) → first_name (true_ones f is ls) ≡ some i → FirstTrue e i is ls
  first_true [] ls q = no_some q
  first_true (j ∷ is) [] q = no_some q
  first_true {i} (j ∷ is) (l ∷ ls) q = go l.effect l.class (f l.effect) refl q (first_true is ls)
    where
      not_so : (x : Effect) (c : Class) → is_true c ≡ false → ◌≡◌ {A = Verdict} (record { effect = x; class = c }) (record { effect = e; class = ctrue }) → ⊥
      not_so x c p z = no_true (sym p ∙ ap (λ (v : Verdict). is_true v.class) z)

      go : (x : Effect) (c : Class) (b : Bool) → f x ≡ b → first_name (cond (b && is_true c) (j ∷ true_ones f is ls) (true_ones f is ls)) ≡ some i → (first_name (true_ones f is ls) ≡ some i → FirstTrue e i is ls)
          → FirstTrue e i (j ∷ is) (record { effect = x; class = c } ∷ ls)
      go x ctrue true p q k = subst (λ n. FirstTrue e i (n ∷ is) (record { effect = x; class = ctrue } ∷ ls)) (the_same q refl) (subst (λ y. FirstTrue e i (i ∷ is) (record { effect = y; class = ctrue } ∷ ls)) (sym (t.1 x p)) here)
      go x cfalse true p q k = below (not_so x cfalse refl) (k q)
      go x cerror true p q k = below (not_so x cerror refl) (k q)
      go x copen true p q k = below (not_so x copen refl) (k q)
      go x c false p q k = below (λ z. no_true (sym p ∙ ap (λ (v : Verdict). f v.effect) z ∙ t.0)) (k q)

  passed : (l : Verdict) → (l ≡ record { effect = e; class = ctrue } → ⊥) → (f l.effect && is_true l.class) ≡ false
  passed l n = go (f l.effect && is_true l.class) refl
    where
      go : (b : Bool) → (f l.effect && is_true l.class) ≡ b → b ≡ false
      go true q = absurd (and_both (f l.effect) (is_true l.class) q (λ x y. n (ap₂ (λ (z : Effect) (c : Class). record { effect = z; class = c }) (t.1 l.effect x) (is_true_law l.class y))))
      go false q = refl

  first_is : {i : ℕ} {is : List ℕ} {ls : List Verdict} → FirstTrue e i is ls → first_name (true_ones f is ls) ≡ some i
  first_is {i} (here {is} {ls}) = ap (λ b. first_name (cond (b && true) (i ∷ true_ones f is ls) (true_ones f is ls))) t.0
  first_is (below {j} {is} {l} {ls} n h) = ap (λ b. first_name (cond b (j ∷ true_ones f is ls) (true_ones f is ls))) (passed l n) ∙ first_is h

none_true : (f : Effect → Bool) (is : List ℕ) (ls : List Verdict) → length is ≡ length ls → first_name (true_ones f is ls) ≡ none → any_line f is_true ls ≡ false
none_true f [] [] h e = refl
none_true f [] (l ∷ ls) h e = absurd (omega (arith, h))
none_true f (i ∷ is) [] h e = refl
none_true f (i ∷ is) (l ∷ ls) h e = go (f l.effect && is_true l.class) e (none_true f is ls (omega (arith, h)))
  where
    go : (b : Bool) → first_name (cond b (i ∷ true_ones f is ls) (true_ones f is ls)) ≡ none → (first_name (true_ones f is ls) ≡ none → any_line f is_true ls ≡ false) → (b || any_line f is_true ls) ≡ false
    go true q k = no_some (sym q)
    go false q k = k q

-- ---- by the decision

allow_permit : (tf tp op of : Bool) → decide tf tp op of ≡ allow → tp ≡ true
allow_permit true tp op of e = cc
allow_permit false false false of e = cc
allow_permit false true op true e = cc
allow_permit false false true true e = cc
allow_permit false false true false e = cc
allow_permit false true op false e = refl

module _ (is : List ℕ) (ls : List Verdict) where
  -- "a true forbid for a deny", the first, and no other
  pub deny_first : {i : ℕ} → decision ls ≡ deny → why is ls ≡ some i → FirstTrue forbid i is ls
  deny_first e q = first_true is_forbid forbid tests_forbid is ls (ap (λ d. first_name (reasons_for d is ls)) (sym e) ∙ q)

  pub deny_is : {i : ℕ} → decision ls ≡ deny → FirstTrue forbid i is ls → why is ls ≡ some i
  deny_is e h = ap (λ d. first_name (reasons_for d is ls)) e ∙ first_is is_forbid forbid tests_forbid h

  -- "a true permit for an allow"
  pub allow_first : {i : ℕ} → decision ls ≡ allow → why is ls ≡ some i → FirstTrue permit i is ls
  allow_first e q = first_true is_permit permit tests_permit is ls (ap (λ d. first_name (reasons_for d is ls)) (sym e) ∙ q)

  pub allow_is : {i : ℕ} → decision ls ≡ allow → FirstTrue permit i is ls → why is ls ≡ some i
  allow_is e h = ap (λ d. first_name (reasons_for d is ls)) e ∙ first_is is_permit permit tests_permit h

  -- "`why=none` for open"
  pub open_none : decision ls ≡ undecided → why is ls ≡ none
  open_none e = ap (λ d. first_name (reasons_for d is ls)) e

  module _ (as_many : length is ≡ length ls) where
    -- "and for a deny without a true forbid"
    pub deny_none : decision ls ≡ deny → why is ls ≡ none → any_line is_forbid is_true ls ≡ false
    deny_none e q = none_true is_forbid is ls as_many (ap (λ d. first_name (reasons_for d is ls)) (sym e) ∙ q)

    -- an allow has a name
    pub allow_some : decision ls ≡ allow → why is ls ≡ none → ⊥
    allow_some e q = no_true (sym (none_true is_permit is ls as_many (ap (λ d. first_name (reasons_for d is ls)) (sym e) ∙ q)) ∙ allow_permit (any_line is_forbid is_true ls) (any_line is_permit is_true ls) (any_line is_permit is_open ls) (any_line is_forbid is_open ls) e)

-- Policies counted one after the other, and the decision by its tests. Assumes nothing.
use mathlib.Core.Path.{◌≡◌, refl, sym, ap, ap₂, subst, ◌∙◌}
use mathlib.Core.Bool.{Bool, true, false, not, ◌&&◌, ◌||◌}
use mathlib.Core.List.{List, [], ◌∷◌}
use Prim.Native.Nat.{ℕ, zero, suc, ◌+◌, ◌≤◌, ◌<◌}
use native.Mathlib.Numerals.{add-one}
use native.Mathlib.Omega.{arith}
use borrow.Author.Tests.{lt-ltb, ne_eqb}
use lib.Dec.{eqb, ltb}
use lib.ListN.{length, get_or, drop}
use Rattle.cedar.specs.Canonical.{bit}
use Rattle.cedar.specs.Residual.{Class, ctrue, cfalse, cerror, copen}
use Rattle.cedar.specs.Response.{Effect, permit, forbid, is_permit, is_forbid, is_true, is_open, Verdict, any_line, decide, decision}
use Rattle.sheet.specs.Answer.{how_many, is_false, is_error, counts_of}
use Rattle.forms.specs.Tags.{PERMIT, FORBID}
use Rattle.table.specs.Layout.{RUN, rows_of}
use Rattle.table.proofs.Rows.{count_rows}
use Rattle.value.proofs.Lists.{uncons, spent}
use Rattle.residual.specs.Classes.{class_number, CLASS_TRUE, CLASS_FALSE, CLASS_ERROR, CLASS_OPEN}
use Rattle.response.specs.Verdicts.{class_in, effect_in, effect_number, effect_said, effect_is, class_is, verdicts_of, verdicts_in, decision_of}
use Rattle.response.specs.declared.Decision as D
use Rattle.response.specs.declared.Effect as E
use Rattle.response.specs.contracts.Effect.{the_type as effect_type}
use Rattle.tpe.specs.declared.Class as T
use Rattle.tpe.specs.contracts.Class.{the_type as class_type}
use Rattle.tpe.specs.Classes as Called
use denote.Enum.Bare.{sameb}
use Rattle.response.specs.declared.Counts.{Counts}

-- ---- one policy

module _ (a : List ℕ) (i x : ℕ) (r : List ℕ) (er : r ≡ get_or (rows_of a RUN) i []) (ex : x ≡ get_or r 2 0) where
  pub effect_forbid : x ≡ FORBID → forbid ≡ effect_in (get_or (rows_of a RUN) i [])
  effect_forbid h = let z : get_or (get_or (rows_of a RUN) i []) 2 0 ≡ FORBID = ap (λ (q : List ℕ). get_or q 2 0) (sym er) ∙ sym ex ∙ h in rw z

  pub effect_permit : (x ≡ FORBID → ⊥) → permit ≡ effect_in (get_or (rows_of a RUN) i [])
  effect_permit h = go (get_or (get_or (rows_of a RUN) i []) 2 0) (λ z. h (ex ∙ ap (λ (q : List ℕ). get_or q 2 0) er ∙ z))
    where
      go : (y : ℕ) → (y ≡ FORBID → ⊥) → permit ≡ get_or (permit ∷ forbid ∷ []) y permit
      go zero n = refl
      go (suc zero) n = absurd (n refl)
      go (suc (suc y)) n = refl

-- effects and classes that are the same for the code
pub effects_same : (x y : E.Effect) → sameb effect_type x y ≡ eqb (effect_number (effect_said x)) (effect_number (effect_said y))
effects_same E.TheVariants.Permit E.TheVariants.Permit = refl
effects_same E.TheVariants.Permit E.TheVariants.Forbid = refl
effects_same E.TheVariants.Forbid E.TheVariants.Permit = refl
effects_same E.TheVariants.Forbid E.TheVariants.Forbid = refl

pub same_effects : (x y : E.Effect) (b : Bool) → b ≡ sameb effect_type x y → eqb (effect_number (effect_said x)) (effect_number (effect_said y)) ≡ b
same_effects x y b e = sym (effects_same x y) ∙ sym e

pub other_effects : (x y : E.Effect) (b : Bool) → b ≡ not (sameb effect_type x y) → eqb (effect_number (effect_said x)) (effect_number (effect_said y)) ≡ not b
other_effects x y b e = sym (effects_same x y) ∙ go (sameb effect_type x y) ∙ ap not (sym e)
  where
    go : (c : Bool) → c ≡ not (not c)
    go true = refl
    go false = refl

pub same_true : (x : T.Class) (b : Bool) → b ≡ sameb class_type x T.TheVariants.True → is_true (Called.class_in x) ≡ b
same_true x b e = go x ∙ sym e
  where
    go : (x : T.Class) → is_true (Called.class_in x) ≡ sameb class_type x T.TheVariants.True
    go T.TheVariants.True = refl
    go T.TheVariants.False = refl
    go T.TheVariants.Error = refl
    go T.TheVariants.Open = refl

-- a class is found again by its number
pub class_back : (c : Class) → class_in (class_number c) ≡ c
class_back ctrue = refl
class_back cfalse = refl
class_back cerror = refl
class_back copen = refl

-- ---- the policies from one on

abbrev pub verdicts_from : List ℕ → List ℕ → ℕ → List Verdict
verdicts_from a cs i = verdicts_of (drop i (rows_of a RUN)) (drop i cs)

pub first_of : (l : List ℕ) (i : ℕ) → get_or (drop i l) 0 0 ≡ get_or l i 0
first_of [] zero = refl
first_of [] (suc i) = refl
first_of (x ∷ l) zero = refl
first_of (x ∷ l) (suc i) = first_of l i

pub next_of : (l : List ℕ) (i : ℕ) → drop 1 (drop i l) ≡ drop (suc i) l
next_of [] zero = refl
next_of [] (suc i) = refl
next_of (x ∷ l) zero = refl
next_of (x ∷ l) (suc i) = next_of l i

abbrev pub verdict_at : List ℕ → List ℕ → ℕ → Verdict
verdict_at a cs i = record { effect = effect_in (get_or (rows_of a RUN) i []); class = class_in (get_or cs i 0) }

pub verdicts_on : (a cs : List ℕ) (i : ℕ) → i < length (rows_of a RUN) → verdicts_from a cs i ≡ verdict_at a cs i ∷ verdicts_from a cs (i + 1)
verdicts_on a cs i h =
    ap (λ (l : List (List ℕ)). verdicts_of l (drop i cs)) (uncons (rows_of a RUN) [] i h)
    ∙ ap₂ (λ (x : ℕ) (l : List ℕ). record { effect = effect_in (get_or (rows_of a RUN) i []); class = class_in x } ∷ verdicts_of (drop (i + 1) (rows_of a RUN)) l)
    (first_of cs i) (next_of cs i ∙ ap (λ (j : ℕ). drop j cs) (sym (add-one i)))

pub verdicts_end : (a cs : List ℕ) (i : ℕ) → length (rows_of a RUN) ≤ i → verdicts_from a cs i ≡ []
verdicts_end a cs i h = ap (λ (l : List (List ℕ)). verdicts_of l (drop i cs)) (spent (rows_of a RUN) i h)

-- m were counted up to place i of n, and the rest gives what is left
pub record Tally (whole m rest i n : ℕ) : Type 0 where
  pub near : i ≤ n
  pub few : m ≤ i
  pub left : whole ≡ m + rest

abbrev pub count_in : ℕ → ℕ → List Verdict → ℕ
count_in e c ls = how_many (effect_is e) (class_is c) ls

hit_small : (b : Bool) → bit b ≤ 1
hit_small true = omega arith
hit_small false = omega arith

module _ (a cs : List ℕ) (effect class n : ℕ) (en : n ≡ get_or a RUN 0) where
  many : n ≡ length (rows_of a RUN)
  many = en ∙ sym (count_rows a RUN)

  pub tally_start : Tally (count_in effect class (verdicts_in a cs)) 0 (count_in effect class (verdicts_from a cs 0)) 0 n
  unfolding verdicts_in
  tally_start = record { near = omega arith; few = omega arith; left = omega arith }

  module _ (i m : ℕ) (t : Tally (count_in effect class (verdicts_in a cs)) m (count_in effect class (verdicts_from a cs i)) i n) where
    -- policy i is called so, or it is not
    pub tally_on : (b : Bool) → (eqb (effect_number (effect_in (get_or (rows_of a RUN) i []))) effect && eqb (class_number (class_in (get_or cs i 0))) class) ≡ b → i < n
        → Tally (count_in effect class (verdicts_in a cs)) (m + bit b) (count_in effect class (verdicts_from a cs (i + 1))) (i + 1) n
    tally_on b e h =
        let s : count_in effect class (verdicts_from a cs i) ≡ bit b + count_in effect class (verdicts_from a cs (i + 1)) = ap (count_in effect class) (verdicts_on a cs i (omega (arith, many))) ∙ rw e in
        let k : bit b ≤ 1 = hit_small b in
        record { near = omega arith; few = omega (arith, t.few); left = omega (arith, t.left) }

    pub tally_end : n ≤ i → m ≡ count_in effect class (verdicts_in a cs)
    tally_end h =
        let s : count_in effect class (verdicts_from a cs i) ≡ 0 = ap (count_in effect class) (verdicts_end a cs i (omega (arith, many))) in
        omega (arith, t.left)

-- the four counts of an effect, each so
pub record Tallies (a cs : List ℕ) (effect n i : ℕ) (k : Counts) : Type 0 where
  pub trues : Tally (count_in effect CLASS_TRUE (verdicts_in a cs)) k.trues (count_in effect CLASS_TRUE (verdicts_from a cs i)) i n
  pub falses : Tally (count_in effect CLASS_FALSE (verdicts_in a cs)) k.falses (count_in effect CLASS_FALSE (verdicts_from a cs i)) i n
  pub errors : Tally (count_in effect CLASS_ERROR (verdicts_in a cs)) k.errors (count_in effect CLASS_ERROR (verdicts_from a cs i)) i n
  pub opens : Tally (count_in effect CLASS_OPEN (verdicts_in a cs)) k.opens (count_in effect CLASS_OPEN (verdicts_from a cs i)) i n

module _ (a cs : List ℕ) (effect n : ℕ) (en : n ≡ get_or a RUN 0) where
  pub tallies_start : (k : Counts) → k.trues ≡ 0 → k.falses ≡ 0 → k.errors ≡ 0 → k.opens ≡ 0 → Tallies a cs effect n 0 k
  tallies_start k p q r s = record { trues = none CLASS_TRUE k.trues p; falses = none CLASS_FALSE k.falses q; errors = none CLASS_ERROR k.errors r; opens = none CLASS_OPEN k.opens s }
    where
      none : (class m : ℕ) → m ≡ 0 → Tally (count_in effect class (verdicts_in a cs)) m (count_in effect class (verdicts_from a cs 0)) 0 n
      none class m e = subst (λ (x : ℕ). Tally (count_in effect class (verdicts_in a cs)) x (count_in effect class (verdicts_from a cs 0)) 0 n) (sym e) (tally_start a cs effect class n en)

  module _ (i : ℕ) (k : Counts) (t : Tallies a cs effect n i k) (h : i < n) (e : Effect) (ee : e ≡ effect_in (get_or (rows_of a RUN) i [])) where
    -- a policy of another effect
    pub tallies_over : eqb (effect_number e) effect ≡ false → Tallies a cs effect n (i + 1) k
    tallies_over f = record {
      trues = same CLASS_TRUE k.trues t.trues;
      falses = same CLASS_FALSE k.falses t.falses;
      errors = same CLASS_ERROR k.errors t.errors;
      opens = same CLASS_OPEN k.opens t.opens;
    }
      where
        same : (class m : ℕ) → Tally (count_in effect class (verdicts_in a cs)) m (count_in effect class (verdicts_from a cs i)) i n → Tally (count_in effect class (verdicts_in a cs)) m (count_in effect class (verdicts_from a cs (i + 1))) (i + 1) n
        same class m s =
            let z : m + 0 ≡ m = omega arith in
            subst (λ (x : ℕ). Tally (count_in effect class (verdicts_in a cs)) x (count_in effect class (verdicts_from a cs (i + 1))) (i + 1) n) z (tally_on a cs effect class n en i m s false (rw (← ee, f)) h)

    -- a policy of this effect, of class c
    module _ (g : eqb (effect_number e) effect ≡ true) (c : Class) (ec : c ≡ class_in (get_or cs i 0)) where
      counted : (class m m' : ℕ) → Tally (count_in effect class (verdicts_in a cs)) m (count_in effect class (verdicts_from a cs i)) i n → m' ≡ m + bit (class_is class c)
          → Tally (count_in effect class (verdicts_in a cs)) m' (count_in effect class (verdicts_from a cs (i + 1))) (i + 1) n
      counted class m m' s z =
          subst (λ (x : ℕ). Tally (count_in effect class (verdicts_in a cs)) x (count_in effect class (verdicts_from a cs (i + 1))) (i + 1) n) (sym z) (tally_on a cs effect class n en i m s (class_is class c) (rw (← ee, ← ec, g)) h)

      pub tallies_on : (k' : Counts) → k'.trues ≡ k.trues + bit (class_is CLASS_TRUE c) → k'.falses ≡ k.falses + bit (class_is CLASS_FALSE c) → k'.errors ≡ k.errors + bit (class_is CLASS_ERROR c) → k'.opens ≡ k.opens + bit (class_is CLASS_OPEN c)
          → Tallies a cs effect n (i + 1) k'
      tallies_on k' p q r s = record {
        trues = counted CLASS_TRUE k.trues k'.trues t.trues p;
        falses = counted CLASS_FALSE k.falses k'.falses t.falses q;
        errors = counted CLASS_ERROR k.errors k'.errors t.errors r;
        opens = counted CLASS_OPEN k.opens k'.opens t.opens s;
      }

  pub tallies_end : (i : ℕ) (k : Counts) → Tallies a cs effect n i k → n ≤ i
      → (k.trues ≡ count_in effect CLASS_TRUE (verdicts_in a cs)) × (k.falses ≡ count_in effect CLASS_FALSE (verdicts_in a cs)) × (k.errors ≡ count_in effect CLASS_ERROR (verdicts_in a cs)) × (k.opens ≡ count_in effect CLASS_OPEN (verdicts_in a cs))
  tallies_end i k t h =
      (tally_end a cs effect CLASS_TRUE n en i k.trues t.trues h, tally_end a cs effect CLASS_FALSE n en i k.falses t.falses h, tally_end a cs effect CLASS_ERROR n en i k.errors t.errors h, tally_end a cs effect CLASS_OPEN n en i k.opens t.opens h)

-- ---- by the number of an effect

-- no policy has another effect
pub other_effect : (n : ℕ) → (n ≡ PERMIT → ⊥) → (n ≡ FORBID → ⊥) → (g : Class → Bool) (ls : List Verdict) → how_many (effect_is n) g ls ≡ 0
other_effect n p q g [] = refl
other_effect n p q g (l ∷ ls) =
    let z : 0 + how_many (effect_is n) g ls ≡ how_many (effect_is n) g ls = omega arith in
    ap (λ (b : Bool). bit (b && g l.class) + how_many (effect_is n) g ls) (none l.effect) ∙ z ∙ other_effect n p q g ls
  where
    none : (e : Effect) → effect_is n e ≡ false
    none permit = ne_eqb PERMIT n (λ z. p (sym z))
    none forbid = ne_eqb FORBID n (λ z. q (sym z))

-- ---- whether there is one

any_many : (f : Effect → Bool) (g : Class → Bool) (ls : List Verdict) → ltb 0 (how_many f g ls) ≡ any_line f g ls
any_many f g [] = refl
any_many f g (l ∷ ls) = go (f l.effect && g l.class) (any_many f g ls)
  where
    go : (b : Bool) → ltb 0 (how_many f g ls) ≡ any_line f g ls → ltb 0 (bit b + how_many f g ls) ≡ (b || any_line f g ls)
    go true e = lt-ltb 0 (1 + how_many f g ls) (omega arith)
    go false e = let z : 0 + how_many f g ls ≡ how_many f g ls = omega arith in rw z e

pub any_of : (m e c : ℕ) (ls : List Verdict) → m ≡ count_in e c ls → ltb 0 m ≡ any_line (effect_is e) (class_is c) ls
any_of m e c ls h = ap (ltb 0) h ∙ any_many (effect_is e) (class_is c) ls

-- ---- the numbers and their names

many_same : (f f' : Effect → Bool) (g g' : Class → Bool) → ((e : Effect) → f e ≡ f' e) → ((c : Class) → g c ≡ g' c) → (ls : List Verdict) → how_many f g ls ≡ how_many f' g' ls
many_same f f' g g' p q [] = refl
many_same f f' g g' p q (l ∷ ls) =
    ap₂ ◌+◌ (ap₂ (λ (x y : Bool). bit (x && y)) (p l.effect) (q l.class)) (many_same f f' g g' p q ls)

any_same : (f f' : Effect → Bool) (g g' : Class → Bool) → ((e : Effect) → f e ≡ f' e) → ((c : Class) → g c ≡ g' c) → (ls : List Verdict) → any_line f g ls ≡ any_line f' g' ls
any_same f f' g g' p q [] = refl
any_same f f' g g' p q (l ∷ ls) =
    ap₂ ◌||◌ (ap₂ ◌&&◌ (p l.effect) (q l.class)) (any_same f f' g g' p q ls)

pub is_permit_law : (e : Effect) → effect_is PERMIT e ≡ is_permit e
is_permit_law permit = refl
is_permit_law forbid = refl

pub is_forbid_law : (e : Effect) → effect_is FORBID e ≡ is_forbid e
is_forbid_law permit = refl
is_forbid_law forbid = refl

pub is_true_law : (c : Class) → class_is CLASS_TRUE c ≡ is_true c
is_true_law ctrue = refl
is_true_law cfalse = refl
is_true_law cerror = refl
is_true_law copen = refl

is_false_law : (c : Class) → class_is CLASS_FALSE c ≡ is_false c
is_false_law ctrue = refl
is_false_law cfalse = refl
is_false_law cerror = refl
is_false_law copen = refl

is_error_law : (c : Class) → class_is CLASS_ERROR c ≡ is_error c
is_error_law ctrue = refl
is_error_law cfalse = refl
is_error_law cerror = refl
is_error_law copen = refl

is_open_law : (c : Class) → class_is CLASS_OPEN c ≡ is_open c
is_open_law ctrue = refl
is_open_law cfalse = refl
is_open_law cerror = refl
is_open_law copen = refl

-- the counts of one effect, in the answer's order
abbrev pub four_of : ℕ → List Verdict → List ℕ
four_of e ls = count_in e CLASS_TRUE ls ∷ count_in e CLASS_FALSE ls ∷ count_in e CLASS_ERROR ls ∷ count_in e CLASS_OPEN ls ∷ []

pub counts_are : (ls : List Verdict) → count_in PERMIT CLASS_TRUE ls ∷ count_in PERMIT CLASS_FALSE ls ∷ count_in PERMIT CLASS_ERROR ls ∷ count_in PERMIT CLASS_OPEN ls ∷ four_of FORBID ls ≡ counts_of ls
counts_are ls =
    rw (
      many_same (effect_is PERMIT) is_permit (class_is CLASS_TRUE) is_true is_permit_law is_true_law ls,
      many_same (effect_is PERMIT) is_permit (class_is CLASS_FALSE) is_false is_permit_law is_false_law ls,
      many_same (effect_is PERMIT) is_permit (class_is CLASS_ERROR) is_error is_permit_law is_error_law ls,
      many_same (effect_is PERMIT) is_permit (class_is CLASS_OPEN) is_open is_permit_law is_open_law ls,
      many_same (effect_is FORBID) is_forbid (class_is CLASS_TRUE) is_true is_forbid_law is_true_law ls,
      many_same (effect_is FORBID) is_forbid (class_is CLASS_FALSE) is_false is_forbid_law is_false_law ls,
      many_same (effect_is FORBID) is_forbid (class_is CLASS_ERROR) is_error is_forbid_law is_error_law ls,
      many_same (effect_is FORBID) is_forbid (class_is CLASS_OPEN) is_open is_forbid_law is_open_law ls,
    )

-- ---- the decision

pub decision_is : (ls : List Verdict) (tf tp op of : Bool) (d : D.Decision) → tf ≡ any_line (effect_is FORBID) (class_is CLASS_TRUE) ls → tp ≡ any_line (effect_is PERMIT) (class_is CLASS_TRUE) ls
    → op ≡ any_line (effect_is PERMIT) (class_is CLASS_OPEN) ls → of ≡ any_line (effect_is FORBID) (class_is CLASS_OPEN) ls → decision_of d ≡ decide tf tp op of → decision_of d ≡ decision ls
decision_is ls tf tp op of d etf etp eop eof ed =
    let a = etf ∙ any_same (effect_is FORBID) is_forbid (class_is CLASS_TRUE) is_true is_forbid_law is_true_law ls in
    let b = etp ∙ any_same (effect_is PERMIT) is_permit (class_is CLASS_TRUE) is_true is_permit_law is_true_law ls in
    let e = eop ∙ any_same (effect_is PERMIT) is_permit (class_is CLASS_OPEN) is_open is_permit_law is_open_law ls in
    let f = eof ∙ any_same (effect_is FORBID) is_forbid (class_is CLASS_OPEN) is_open is_forbid_law is_open_law ls in
    ed ∙ rw (a, b, e, f)

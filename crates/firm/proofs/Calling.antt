-- The parts of the call by their tests. Assumes nothing.
use mathlib.Core.Path.{◌≡◌, refl, sym, ap, ap₂, ◌∙◌, subst}
use mathlib.Core.Bool.{Bool, true, false, cond, not, ◌&&◌, ◌||◌}
use mathlib.Core.List.{List, [], ◌++◌}
use Prim.Native.Nat.{ℕ, ◌≤◌, ◌<◌}
use native.Mathlib.Omega.{arith}
use borrow.Author.Tests.{eq-eqb, ne_eqb, lt-ltb, le-ltb}
use lib.Dec.{ltb, eqb}
use lib.ListN.{length, get_or, take, drop, length-append, length-drop, length-take, take-append-drop}
use lib.Seq.{take_at}
use Rattle.words.specs.Log.{part, cleared}
use Rattle.sheet.specs.Forms.{partial, at, mark, TEXT, PRINCIPAL, RESOURCE}
use Rattle.sheet.specs.Call.{Returned, returns, room, lent_then, short_then, refused_then, read_then, worked}
use Rattle.sheet.proofs.reading.Checked.{accepted_from}
use Rattle.table.specs.Layout.{rows_of}
use Rattle.response.specs.Runs.{Gives, Holding}
use Rattle.response.specs.Verdicts.{decision_of}
use Rattle.response.specs.declared.Decision as C
use Rattle.opening.specs.Opens.{Opens}
use Rattle.opening.proofs.Lent.{part_long, short_first, short_second, long_enough}
use Rattle.firm.specs.declared.Row as R
use Rattle.firm.specs.declared.Quote as Q
use Rattle.firm.specs.Parts.{code_of, joined, Decides, text_in, ask_in, refusal, Opened, many_then, Begins, check_of, Singles, join_of}

or_true : (p : Bool) → (p || true) ≡ true
or_true true = refl
or_true false = refl

-- ---- what is left of the work slices

given : Gives (returns 0 0 0) [] [] 0 0 0 []
given = record { number_is = refl; line_is = refl; length_is = refl; buffer = refl }

module _ (w₁ w₂ : List ℕ) where
  module _ (h₁ : 16384 ≤ length w₁) (h₂ : 16384 ≤ length w₂) where
    -- parts of both were lent, and came back as p₁ and p₂
    pub part_cleared : (p₁ p₂ : List ℕ) → length p₁ ≡ length (take 16384 w₁) → length p₂ ≡ length (take 16384 w₂)
        → (cleared (p₁ ++ drop 16384 w₁) ≡ worked w₁ (length w₂)) × (cleared (p₂ ++ drop 16384 w₂) ≡ worked w₂ (length w₁))
    part_cleared p₁ p₂ l₁ l₂ =
        let x = long_enough (returns 0 0 0) [] w₁ w₂ [] h₁ h₂ 0 0 0 [] p₁ p₂ (cleared (p₁ ++ drop 16384 w₁)) (cleared (p₂ ++ drop 16384 w₂)) given l₁ l₂ refl refl in (x.first, x.second)

    -- all of both
    pub all_cleared : (cleared w₁ ≡ worked w₁ (length w₂)) × (cleared w₂ ≡ worked w₂ (length w₁))
    all_cleared =
        let x = part_cleared (take 16384 w₁) (take 16384 w₂) refl refl in
        (ap cleared (sym (take-append-drop 16384 w₁)) ∙ x.0, ap cleared (sym (take-append-drop 16384 w₂)) ∙ x.1)

    pub now_cleared : (v : List ℕ) → v ≡ cleared w₁ → v ≡ worked w₁ (length w₂)
    now_cleared v e = e ∙ all_cleared.0

  pub own_short : length w₁ < 16384 → w₁ ≡ worked w₁ (length w₂)
  own_short h = (short_first (returns 0 0 0) [] w₁ w₂ [] h).first

  pub other_short : length w₂ < 16384 → w₁ ≡ worked w₁ (length w₂)
  other_short h = (short_second (returns 0 0 0) [] w₁ w₂ [] h).first

pub part_room : (w : List ℕ) → 16384 ≤ length w → 16384 ≤ length (take 16384 w)
part_room w h = let z = part_long w h in omega (arith, z)

-- parts of w₁ and w₂ were lent: what is left in the end is the same
module _ (w₁ w₂ p₁ p₂ : List ℕ) (h₁ : 16384 ≤ length w₁) (h₂ : 16384 ≤ length w₂) (l₁ : length p₁ ≡ length (take 16384 w₁)) (l₂ : length p₂ ≡ length (take 16384 w₂)) where
  back_long : (w p : List ℕ) → 16384 ≤ length w → length p ≡ length (take 16384 w) → length (p ++ drop 16384 w) ≡ length w
  back_long w p h l = let z = part_long w h in omega (arith, l, z, h, length-append p (drop 16384 w), length-drop 16384 w)

  abbrev a : List ℕ
  a = p₁ ++ drop 16384 w₁

  abbrev b : List ℕ
  b = p₂ ++ drop 16384 w₂

  pub parts_worked : (worked a (length w₂) ≡ worked w₁ (length w₂)) × (worked b (length w₁) ≡ worked w₂ (length w₁))
  parts_worked =
      let e₁ = back_long w₁ p₁ h₁ l₁ in
      let e₂ = back_long w₂ p₂ h₂ l₂ in
      let x = part_cleared w₁ w₂ h₁ h₂ p₁ p₂ l₁ l₂ in
      let y = all_cleared a b (omega (arith, e₁, h₁)) (omega (arith, e₂, h₂)) in
      (sym (ap (worked a) e₂) ∙ sym y.0 ∙ x.0, sym (ap (worked b) e₁) ∙ sym y.1 ∙ x.1)

-- ---- the sheet opened

module _ (n : ℕ) (sheet w₁ w₂ : List ℕ) where
  abbrev after : Returned → Returned
  after r = short_then sheet (many_then n (read_then partial sheet r))

  lent : 16384 ≤ length w₁ → 16384 ≤ length w₂ → (r : Returned) → lent_then (length w₁) (length w₂) r ≡ r
  lent h₁ h₂ r = ap₂ (λ (x y : Bool). cond (x || y) (returns 1 0 0) r) (le-ltb (length w₁) 16384 h₁) (le-ltb (length w₂) 16384 h₂)

  short : length sheet ≤ 16384 → (r : Returned) → short_then sheet r ≡ r
  short h r = ap (λ (x : Bool). cond x (returns 2 0 0) r) (le-ltb 16384 (length sheet) h)

  few : n ≤ 64 → (r : Returned) → many_then n r ≡ r
  few h r = ap (λ (x : Bool). cond x (returns 14 0 0) r) (le-ltb 64 n h)

  -- 1
  pub begin_first : (f : Q.Quote) → f ≡ refusal 1 0 → length w₁ < 16384 → Begins n sheet w₁ w₂ f w₁ w₂
  begin_first f e h = subst (λ (x : Q.Quote). Begins n sheet w₁ w₂ x w₁ w₂) (sym e) (record {
    checked = λ r. ap (λ (x : Bool). cond (x || ltb (length w₂) room) (returns 1 0 0) (after r)) (lt-ltb (length w₁) 16384 h);
    line_is = λ z. absurd (omega (arith, z));
    length_is = refl;
    group_is = refl;
    holds = λ z. absurd (omega (arith, z));
    long = λ z. absurd (omega (arith, z));
    first = refl;
    second = refl;
  })

  pub begin_second : (f : Q.Quote) → f ≡ refusal 1 0 → length w₂ < 16384 → Begins n sheet w₁ w₂ f w₁ w₂
  begin_second f e h = subst (λ (x : Q.Quote). Begins n sheet w₁ w₂ x w₁ w₂) (sym e) (record {
    checked = λ r. ap (λ (x : Bool). cond x (returns 1 0 0) (after r)) (ap (λ (x : Bool). ltb (length w₁) room || x) (lt-ltb (length w₂) 16384 h) ∙ or_true (ltb (length w₁) room));
    line_is = λ z. absurd (omega (arith, z));
    length_is = refl;
    group_is = refl;
    holds = λ z. absurd (omega (arith, z));
    long = λ z. absurd (omega (arith, z));
    first = refl;
    second = refl;
  })

  module _ (h₁ : 16384 ≤ length w₁) (h₂ : 16384 ≤ length w₂) where
    -- 2
    pub begin_long : (f : Q.Quote) → f ≡ refusal 2 0 → 16384 < length sheet → Begins n sheet w₁ w₂ f w₁ w₂
    begin_long f e h = subst (λ (x : Q.Quote). Begins n sheet w₁ w₂ x w₁ w₂) (sym e) (record {
      checked = λ r. lent h₁ h₂ (after r) ∙ ap (λ (x : Bool). cond x (returns 2 0 0) (many_then n (read_then partial sheet r))) (lt-ltb 16384 (length sheet) h);
      line_is = λ z. absurd (omega (arith, z));
      length_is = refl;
      group_is = refl;
      holds = λ z. absurd (omega (arith, z));
      long = λ z. absurd (omega (arith, z));
      first = refl;
      second = refl;
    })

    module _ (s : length sheet ≤ 16384) where
      -- 14
      pub begin_many : (f : Q.Quote) → f ≡ refusal 14 0 → 64 < n → Begins n sheet w₁ w₂ f w₁ w₂
      begin_many f e h = subst (λ (x : Q.Quote). Begins n sheet w₁ w₂ x w₁ w₂) (sym e) (record {
        checked = λ r. lent h₁ h₂ (after r) ∙ short s (many_then n (read_then partial sheet r)) ∙ ap (λ (x : Bool). cond x (returns 14 0 0) (read_then partial sheet r)) (lt-ltb 64 n h);
        line_is = λ z. absurd (omega (arith, z));
        length_is = refl;
        group_is = refl;
        holds = λ z. absurd (omega (arith, z));
        long = λ z. absurd (omega (arith, z));
        first = refl;
        second = refl;
      })

      module _ (m : n ≤ 64) (number line : ℕ) (p₁ p₂ : List ℕ) (o : Opens partial sheet number line p₁ p₂) (l₁ : length p₁ ≡ length (take 16384 w₁)) (l₂ : length p₂ ≡ length (take 16384 w₂)) where
        passed : (r : Returned) → lent_then (length w₁) (length w₂) (after r) ≡ refused_then number line r
        passed r = lent h₁ h₂ (after r) ∙ ap (short_then sheet) (few m (read_then partial sheet r)) ∙ o.checked r

        abbrev a' : List ℕ
        a' = p₁ ++ drop 16384 w₁

        abbrev b' : List ℕ
        b' = p₂ ++ drop 16384 w₂

        left : (worked a' (length w₂) ≡ worked w₁ (length w₂)) × (worked b' (length w₁) ≡ worked w₂ (length w₁))
        left = parts_worked w₁ w₂ p₁ p₂ h₁ h₂ l₁ l₂

        -- 3 to 8
        pub begin_refused : (f : Q.Quote) (k : ℕ) → f ≡ refusal k line → k ≡ number → (number ≡ 0 → ⊥) → Begins n sheet w₁ w₂ f a' b'
        begin_refused f k e g z = subst (λ (x : Q.Quote). Begins n sheet w₁ w₂ x a' b') (sym (e ∙ ap (λ (k : ℕ). refusal k line) g)) (record {
          checked = passed;
          line_is = λ y. absurd (z y);
          length_is = refl;
          group_is = sym (ap (λ (x : Bool). cond x 0 2) (ne_eqb number 0 z));
          holds = λ y. absurd (z y);
          long = λ y. absurd (z y);
          first = left.0;
          second = left.1;
        })

        part_back : part a' 0 16384 ≡ p₁
        part_back = take_at p₁ (drop 16384 w₁) 16384 (l₁ ∙ part_long w₁ h₁)

        -- accepted
        pub begin_opened : number ≡ 0 → Begins n sheet w₁ w₂ (record { number = 0; line = 0; length = 0; group = 0 }) a' b'
        begin_opened z = record {
          checked = λ r. passed r ∙ ap (λ (k : ℕ). refused_then k line r) z;
          line_is = λ y. refl;
          length_is = refl;
          group_is = refl;
          holds = λ y. record { depths = p₂; accepted = accepted_from partial sheet s (o.holds z).accepted; holding = subst (λ (x : List ℕ). Holding partial sheet x p₂) (sym part_back) (o.holds z) };
          long = λ y. h₂;
          first = left.0;
          second = left.1;
        }

-- ---- a row checked

module _ (a : List ℕ) (k t : ℕ) where
  abbrev known : ℕ
  known = at (get_or (rows_of a k) 0 []) 1

  pub text_absent : (n : ℕ) → n ≡ get_or a TEXT 0 → n ≤ t → false ≡ text_in a k t
  unfolding text_in
  text_absent n e h = sym (ap (λ (x : Bool). x && (eqb known mark || eqb known t)) (le-ltb t (get_or a TEXT 0) (omega (arith, e, h))))

  module _ (n : ℕ) (e : n ≡ get_or a TEXT 0) (h : t < n) (r : List ℕ) (er : r ≡ get_or (rows_of a k) 0 []) (x : ℕ) (ex : x ≡ get_or r 2 0) where
    is_known : x ≡ known
    is_known = ex ∙ ap (λ (l : List ℕ). get_or l 2 0) er

    there : ltb t (get_or a TEXT 0) ≡ true
    there = lt-ltb t (get_or a TEXT 0) (omega (arith, e, h))

    pub text_open : x ≡ 10000 → true ≡ text_in a k t
    unfolding text_in
    text_open z = sym (ap₂ (λ (b c : Bool). b && (c || eqb known t)) there (eq-eqb known mark (sym is_known ∙ z)))

    pub text_known : (x ≡ 10000 → ⊥) → eqb x t ≡ text_in a k t
    unfolding text_in
    text_known z = ap (λ (y : ℕ). eqb y t) is_known ∙ sym (ap₂ (λ (b c : Bool). b && (c || eqb known t)) there (ne_eqb known mark (λ y. z (is_known ∙ y))))

pub asks_not : (a : List ℕ) (p q : ℕ) (b : Bool) → b ≡ text_in a PRINCIPAL p → not b ≡ true → false ≡ ask_in a p q
unfolding ask_in
asks_not a p q true e n = absurd (let z : ◌≡◌ {A = ℕ} 0 1 = ap (λ (x : Bool). cond x 1 0) n in omega (arith, z))
asks_not a p q false e n = ap (λ (x : Bool). x && text_in a RESOURCE q) e

pub asks_both : (a : List ℕ) (p q : ℕ) (b c : Bool) → b ≡ text_in a PRINCIPAL p → not b ≡ false → c ≡ text_in a RESOURCE q → c ≡ ask_in a p q
unfolding ask_in
asks_both a p q true c e n d = d ∙ ap (λ (x : Bool). x && text_in a RESOURCE q) e
asks_both a p q false c e n d = absurd (let z : ◌≡◌ {A = ℕ} 1 0 = ap (λ (x : Bool). cond x 1 0) n in omega (arith, z))

module _ (a : List ℕ) (f : Q.Quote) (r : R.Row) (i : ℕ) where
  pub check_refused : (f.number ≡ 0 → ⊥) → f ≡ check_of a f r i
  unfolding check_of
  check_refused z = sym (ap (λ (x : Bool). cond x (cond (ask_in (part a 0 room) r.principal r.resource) f (refusal 15 i)) f) (ne_eqb f.number 0 z))

  module _ (z : f.number ≡ 0) (l : List ℕ) (el : l ≡ part a 0 room) (b : Bool) (eb : b ≡ ask_in l r.principal r.resource) where
    by : cond b f (refusal 15 i) ≡ check_of a f r i
    unfolding check_of
    by = ap (λ (x : Bool). cond x f (refusal 15 i)) (eb ∙ ap (λ (m : List ℕ). ask_in m r.principal r.resource) el)
        ∙ sym (ap (λ (x : Bool). cond x (cond (ask_in (part a 0 room) r.principal r.resource) f (refusal 15 i)) f) (eq-eqb f.number 0 z))

    pub check_passed : b ≡ true → f ≡ check_of a f r i
    check_passed t = sym (ap (λ (x : Bool). cond x f (refusal 15 i)) t) ∙ by

    pub check_fails : b ≡ false → (x : Q.Quote) → x ≡ refusal 15 i → x ≡ check_of a f r i
    check_fails t x e = e ∙ sym (ap (λ (y : Bool). cond y f (refusal 15 i)) t) ∙ by

-- ---- a row decided

module _ (sheet a b : List ℕ) (f : Q.Quote) (r : R.Row) where
  pub single_refused : (f.number ≡ 0 → ⊥) → Singles sheet a b f r r b
  single_refused z = record { refused = λ y. refl; decided = λ y. absurd (z y); work = refl }

  -- words that hold a sheet are long enough
  pub single_first : length a < 16384 → Singles sheet a b f r r b
  single_first h = record { refused = λ y. refl; decided = λ y o l t. absurd (short o); work = refl }
    where
      short : Opened sheet a → ⊥
      short o = let z = o.holding.sound.long in let y = length-take 16384 a in omega (arith, z, y, h)

  pub single_second : length b < 16384 → Singles sheet a b f r r b
  single_second h = record { refused = λ y. refl; decided = λ y o l t. absurd (omega (arith, l, h)); work = refl }

  pub single_decided : f.number ≡ 0 → 16384 ≤ length a → 16384 ≤ length b → (p : List ℕ) → length p ≡ length (take 16384 b) → (d : C.Decision) → Decides sheet (take 16384 a) r.principal r.resource d
      → (n : ℕ) → n ≡ code_of (decision_of d) → Singles sheet a b f r (record { principal = r.principal; resource = r.resource; decision = n }) (p ++ drop 16384 b)
  single_decided z h₁ h₂ p l d e n en = record {
    refused = λ y. absurd (y z);
    decided = λ y o k t. λ i. record { principal = r.principal; resource = r.resource; decision = (en ∙ ap code_of (e o.depths o.accepted o.holding t)) i };
    work = (parts_worked a b (take 16384 a) p h₁ h₂ refl l).1;
  }

-- ---- a row joins the group

pub join_allows : (g d : ℕ) → d ≡ 0 → g ≡ joined g d
unfolding joined
join_allows g d e = sym (ap (λ (x : Bool). cond x g (cond (eqb g 1) 1 d)) (eq-eqb d 0 e))

pub join_denied : (g d : ℕ) → (d ≡ 0 → ⊥) → g ≡ 1 → 1 ≡ joined g d
unfolding joined
join_denied g d n e = sym (ap₂ (λ (x y : Bool). cond x g (cond y 1 d)) (ne_eqb d 0 n) (eq-eqb g 1 e))

pub join_takes : (g d : ℕ) → (d ≡ 0 → ⊥) → (g ≡ 1 → ⊥) → d ≡ joined g d
unfolding joined
join_takes g d n e = sym (ap₂ (λ (x y : Bool). cond x g (cond y 1 d)) (ne_eqb d 0 n) (ne_eqb g 1 e))

module _ (f : Q.Quote) (r : R.Row) where
  pub join_refused : (f.number ≡ 0 → ⊥) → f ≡ join_of f r
  unfolding join_of
  join_refused z = sym (ap (λ (x : Bool). cond x (record { number = f.number; line = f.line; length = f.length; group = joined f.group r.decision }) f) (ne_eqb f.number 0 z))

  pub join_more : f.number ≡ 0 → (g : ℕ) → g ≡ joined f.group r.decision → record { number = f.number; line = f.line; length = f.length; group = g } ≡ join_of f r
  unfolding join_of
  join_more z g e =
      (λ i. record { number = f.number; line = f.line; length = f.length; group = e i })
      ∙ sym (ap (λ (x : Bool). cond x (record { number = f.number; line = f.line; length = f.length; group = joined f.group r.decision }) f) (eq-eqb f.number 0 z))

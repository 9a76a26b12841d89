-- The rows in turn: each checked, then each decided and joined to the group. Assumes nothing.
use mathlib.Core.Path.{◌≡◌, refl, sym, ap, ap₂, ◌∙◌, subst}
use mathlib.Core.Bool.{Bool, true, false, cond, ◌&&◌, ◌||◌}
use mathlib.Core.List.{List, [], ◌∷◌}
use Prim.Native.Nat.{ℕ, zero, suc, ◌+◌, ◌≤◌, ◌<◌}
use native.Mathlib.Omega.{arith}
use native.Mathlib.Decide.{ℕ_discrete, dec_lt}
use borrow.Author.Tests.{eq-eqb, ne_eqb, lt-ltb, le-ltb}
use lib.Dec.{ltb, eqb}
use lib.ListN.{length, get_or, drop, set, drop_of_length-le}
use lib.Seq.{drop-cons}
use Rattle.cedar.specs.Response.{Decision, allow, deny, undecided}
use Rattle.sheet.specs.Forms.{partial, no_key, TEXT, PRINCIPAL, RESOURCE, at, mark}
use Rattle.sheet.specs.State.{State}
use Rattle.sheet.specs.Sheet.{read}
use Rattle.sheet.specs.Call.{Returned, returns, room, lent_then, refused_then, worked}
use Rattle.sheet.specs.Call as S
use Rattle.words.specs.Log.{part}
use Rattle.table.proofs.Rows.{count_held, lines_held_law}
use Rattle.response.specs.Runs.{Holding}
use Rattle.staff.specs.Firm.{text_fits, ask_fits, misfit, fit_then, firm_returned, firm_rows, firm_group, filled_rows, row_decision, is_deny, is_undecided, any_row, group}
use Rattle.firm.specs.declared.Row as R
use Rattle.firm.specs.declared.Quote as Q
use Rattle.firm.specs.Parts.{code_of, decision_in, joined, asks, asked_in, filled, filled_all, text_in, ask_in, refusal, Opened, Begins, check_of, Singles, join_of, rows_in}
use Rattle.firm.specs.Promise.{Quotes}

-- ---- what the words say of a row's texts is what the sheet says

module _ (sheet a b : List ℕ) (h : Holding partial sheet a b) where
  text_same : (k t : ℕ) → k < no_key → (k ≡ TEXT → ⊥) → text_in a k t ≡ text_fits (read partial sheet).state k t
  unfolding text_in
  text_same k t lt n =
      ap₂ (λ (c : ℕ) (rs : List (List ℕ)). ltb t c && (eqb (at (get_or rs 0 []) 1) mark || eqb (at (get_or rs 0 []) 1) t))
      (sym (count_held sheet a b TEXT (omega arith))) (sym (lines_held_law sheet a b k lt n)) ∙ ap (λ (s : State). text_fits s k t) (sym h.state)

  pub ask_same : (p q : ℕ) → ask_in a p q ≡ ask_fits (read partial sheet).state (asks p q)
  unfolding ask_in
  ask_same p q = ap₂ (λ (x y : Bool). x && y) (text_same PRINCIPAL p (omega arith) (λ z. absurd (omega (arith, z)))) (text_same RESOURCE q (omega arith) (λ z. absurd (omega (arith, z))))

length_rows : (rs : List R.Row) → length (rows_in rs) ≡ length rs
length_rows [] = refl
length_rows (r ∷ rs) = ap suc (length_rows rs)

less : (m n : ℕ) → ltb m n ≡ ltb (suc m) (suc n)
less m n = go (dec_lt m n)
  where
    go : Dec (m < n) → ltb m n ≡ ltb (suc m) (suc n)
    go (yes d) = lt-ltb m n d ∙ sym (lt-ltb (suc m) (suc n) (omega (arith, d)))
    go (no d) = le-ltb m n (omega (arith, d)) ∙ sym (le-ltb (suc m) (suc n) (omega (arith, d)))

-- ---- all rows checked, from number i on

pub checking : List ℕ → ℕ → List R.Row → Q.Quote → Q.Quote
checking a i [] f = f
checking a i (r ∷ rs) f = checking a (suc i) rs (check_of a f r i)

-- where the first loop stands: g is what it leaves
pub record Checking (a : List ℕ) (rows : List R.Row) (g f : Q.Quote) (i : ℕ) : Type 0 where
  pub most : i ≤ length rows
  pub left : checking a i (drop i rows) f ≡ g

pub checking_start : (a : List ℕ) (rows : List R.Row) (f : Q.Quote) → Checking a rows (checking a 0 rows f) f 0
checking_start a rows f = record { most = omega arith; left = refl }

-- a turn
checks_on : (a : List ℕ) (i : ℕ) (rows : List R.Row) (d : R.Row) (f f₁ g : Q.Quote) → i < length rows → f₁ ≡ check_of a f (get_or rows i d) i → checking a i (drop i rows) f ≡ g → checking a (i + 1) (drop (i + 1) rows) f₁ ≡ g
unfolding checking
checks_on a i rows d f f₁ g h e c =
    let n : i + 1 ≡ suc i = omega arith in
    rw n (ap (checking a (suc i) (drop (suc i) rows)) e ∙ sym (ap (λ (rs : List R.Row). checking a i rs f) (drop-cons rows i d h)) ∙ c)

module _ (a : List ℕ) (rows : List R.Row) (g f : Q.Quote) (i : ℕ) (c : Checking a rows g f i) where
  pub checking_on : (d : R.Row) (f₁ : Q.Quote) → i < length rows → f₁ ≡ check_of a f (get_or rows i d) i → Checking a rows g f₁ (i + 1)
  checking_on d f₁ h e = record { most = omega (arith, h); left = checks_on a i rows d f f₁ g h e c.left }

  pub checking_end : length rows ≤ i → f ≡ g
  unfolding checking
  checking_end h = sym (ap (λ (rs : List R.Row). checking a i rs f) (drop_of_length-le rows h)) ∙ c.left

-- what was refused stays so
refused_stays : (a : List ℕ) (i : ℕ) (rs : List R.Row) (f : Q.Quote) → (f.number ≡ 0 → ⊥) → checking a i rs f ≡ f
unfolding checking check_of
refused_stays a i [] f z = refl
refused_stays a i (r ∷ rs) f z =
    ap (λ (x : Bool). checking a (suc i) rs (cond x (cond (ask_in (part a 0 room) r.principal r.resource) f (refusal 15 i)) f)) (ne_eqb f.number 0 z) ∙ refused_stays a (suc i) rs f z

module _ (sheet a : List ℕ) (o : Opened sheet a) where
  abbrev s : State
  s = (read partial sheet).state

  fits_same : (r : R.Row) → ask_in (part a 0 room) r.principal r.resource ≡ ask_fits s (asked_in r)
  fits_same r = ask_same sheet (part a 0 room) o.depths o.holding r.principal r.resource

  -- the lowest row that does not fit
  checked_rows : (i : ℕ) (rs : List R.Row) (f : Q.Quote) → f.number ≡ 0 → checking a i rs f ≡ cond (ltb (misfit s (rows_in rs)) (length rs)) (refusal 15 (i + misfit s (rows_in rs))) f
  unfolding checking check_of
  checked_rows i [] f z = refl
  checked_rows i (r ∷ rs) f z =
      ap₂ (λ (x y : Bool). checking a (suc i) rs (cond x (cond y f (refusal 15 i)) f)) (eq-eqb f.number 0 z) (fits_same r) ∙ go (ask_fits s (asked_in r)) (checked_rows (suc i) rs f z)
    where
      go : (b : Bool) → checking a (suc i) rs f ≡ cond (ltb (misfit s (rows_in rs)) (length rs)) (refusal 15 (suc i + misfit s (rows_in rs))) f
          → checking a (suc i) rs (cond b f (refusal 15 i)) ≡ cond (ltb (cond b (suc (misfit s (rows_in rs))) 0) (suc (length rs))) (refusal 15 (i + cond b (suc (misfit s (rows_in rs))) 0)) f
      go true ih =
          let e : suc i + misfit s (rows_in rs) ≡ i + suc (misfit s (rows_in rs)) = omega arith in
          ih ∙ ap₂ (λ (x : Bool) (n : ℕ). cond x (refusal 15 n) f) (less (misfit s (rows_in rs)) (length rs)) e
      go false ih =
          let e : i + 0 ≡ i = omega arith in
          refused_stays a (suc i) rs (refusal 15 i) (λ z. absurd (omega (arith, z))) ∙ sym (ap₂ (λ (x : Bool) (n : ℕ). cond x (refusal 15 n) f) (lt-ltb 0 (suc (length rs)) (omega arith)) e)

  -- where all fit, each does
  all_fit_law : (rs : List R.Row) → ltb (misfit s (rows_in rs)) (length rs) ≡ false → (d : R.Row) (j : ℕ) → j < length rs → ask_fits s (asked_in (get_or rs j d)) ≡ true
  all_fit_law [] e d j h = absurd (omega arith)
  all_fit_law (r ∷ rs) e d j h = go (ask_fits s (asked_in r)) refl e j h (λ q. all_fit_law rs q d)
    where
      go : (b : Bool) → ask_fits s (asked_in r) ≡ b → ltb (cond b (suc (misfit s (rows_in rs))) 0) (suc (length rs)) ≡ false → (j : ℕ) → j < suc (length rs)
          → (ltb (misfit s (rows_in rs)) (length rs) ≡ false → (j : ℕ) → j < length rs → ask_fits s (asked_in (get_or rs j d)) ≡ true) → ask_fits s (asked_in (get_or (r ∷ rs) j d)) ≡ true
      go true p q zero k ih = p
      go true p q (suc j) k ih = ih (less (misfit s (rows_in rs)) (length rs) ∙ q) j (omega (arith, k))
      go false p q j k ih = absurd (let z : ◌≡◌ {A = ℕ} 1 0 = ap (λ (x : Bool). cond x 1 0) (sym (lt-ltb 0 (suc (length rs)) (omega arith)) ∙ q) in omega (arith, z))

-- what the checks leave
pub record Checked (sheet : List ℕ) (rows : List R.Row) (w₁ w₂ a : List ℕ) (f : Q.Quote) : Type 0 where
  pub returned : firm_returned (length w₁) (length w₂) sheet (rows_in rows) ≡ returns f.number f.line 0
  pub length_is : f.length ≡ 0
  pub group_is : f.group ≡ cond (eqb f.number 0) 0 2
  pub holds : f.number ≡ 0 → Opened sheet a
  pub long : f.number ≡ 0 → room ≤ length w₂
  pub fit : f.number ≡ 0 → (d : R.Row) (j : ℕ) → j < length rows → ask_fits (read partial sheet).state (asked_in (get_or rows j d)) ≡ true

module _ (sheet : List ℕ) (rows : List R.Row) (w₁ w₂ a b : List ℕ) (f : Q.Quote) (x : Begins (length rows) sheet w₁ w₂ f a b) where
  abbrev fitted : Returned
  fitted = fit_then (read partial sheet).state (rows_in rows) (returns 0 0 0)

  many : firm_returned (length w₁) (length w₂) sheet (rows_in rows) ≡ refused_then f.number f.line fitted
  unfolding firm_returned
  many = subst (λ (n : ℕ). lent_then (length w₁) (length w₂) (S.short_then sheet (cond (ltb 64 n) (returns 14 0 0) (S.read_then partial sheet fitted))) ≡ refused_then f.number f.line fitted) (sym (length_rows rows)) (x.checked fitted)

  -- the lowest row that does not fit
  abbrev lowest : ℕ
  lowest = misfit (read partial sheet).state (rows_in rows)

  passed : f.number ≡ 0 → firm_returned (length w₁) (length w₂) sheet (rows_in rows) ≡ cond (ltb lowest (length rows)) (returns 15 lowest 0) (returns 0 0 0)
  passed z = many ∙ ap (λ (n : ℕ). refused_then n f.line fitted) z ∙ ap (λ (n : ℕ). cond (ltb lowest n) (returns 15 lowest 0) (returns 0 0 0)) (length_rows rows)

  checked_by : f.number ≡ 0 → (t : Bool) → ltb lowest (length rows) ≡ t → Checked sheet rows w₁ w₂ a (cond t (refusal 15 (0 + lowest)) f)
  checked_by z true e = record {
    returned = let n : lowest ≡ 0 + lowest = omega arith in passed z ∙ ap (λ (t : Bool). cond t (returns 15 lowest 0) (returns 0 0 0)) e ∙ ap (λ (k : ℕ). returns 15 k 0) n;
    length_is = refl;
    group_is = refl;
    holds = λ y. absurd (omega (arith, y));
    long = λ y. absurd (omega (arith, y));
    fit = λ y. absurd (omega (arith, y));
  }
  checked_by z false e = record {
    returned = passed z ∙ ap (λ (t : Bool). cond t (returns 15 lowest 0) (returns 0 0 0)) e ∙ (λ i. returns (sym z i) (sym (x.line_is z) i) 0);
    length_is = x.length_is;
    group_is = x.group_is;
    holds = x.holds;
    long = x.long;
    fit = λ y d j h. all_fit_law sheet a (x.holds z) rows e d j h;
  }

  pub checked : Checked sheet rows w₁ w₂ a (checking a 0 rows f)
  checked = go (ℕ_discrete f.number 0)
    where
      refused : (n : ℕ) → (n ≡ 0 → ⊥) → refused_then n f.line fitted ≡ returns n f.line 0
      refused zero z = absurd (z refl)
      refused (suc n) z = refl

      go : Dec (f.number ≡ 0) → Checked sheet rows w₁ w₂ a (checking a 0 rows f)
      go (no z) = subst (Checked sheet rows w₁ w₂ a) (sym (refused_stays a 0 rows f z)) (record {
        returned = many ∙ refused f.number z;
        length_is = x.length_is;
        group_is = x.group_is;
        holds = λ y. absurd (z y);
        long = λ y. absurd (z y);
        fit = λ y. absurd (z y);
      })
      go (yes z) = subst (Checked sheet rows w₁ w₂ a) (sym (checked_rows sheet a (x.holds z) 0 rows f z)) (checked_by z (ltb lowest (length rows)) refl)

-- ---- all rows decided

-- a row by the number that is returned
abbrev pub outcome : List ℕ → ℕ → R.Row → R.Row
outcome sheet n r = cond (eqb n 0) (filled sheet r) r

-- the first j rows
pub done_to : List ℕ → ℕ → ℕ → List R.Row → List R.Row
done_to sheet n zero rs = rs
done_to sheet n (suc j) [] = []
done_to sheet n (suc j) (r ∷ rs) = outcome sheet n r ∷ done_to sheet n j rs

done_length : (sheet : List ℕ) (n j : ℕ) (rs : List R.Row) → length (done_to sheet n j rs) ≡ length rs
unfolding done_to
done_length sheet n zero rs = refl
done_length sheet n (suc j) [] = refl
done_length sheet n (suc j) (r ∷ rs) = ap suc (done_length sheet n j rs)

done_here : (sheet : List ℕ) (n j : ℕ) (rs : List R.Row) (d : R.Row) → get_or (done_to sheet n j rs) j d ≡ get_or rs j d
unfolding done_to
done_here sheet n zero rs d = refl
done_here sheet n (suc j) [] d = refl
done_here sheet n (suc j) (r ∷ rs) d = done_here sheet n j rs d

done_on : (sheet : List ℕ) (n j : ℕ) (rs : List R.Row) (d : R.Row) → j < length rs → set (done_to sheet n j rs) j (outcome sheet n (get_or rs j d)) ≡ done_to sheet n (suc j) rs
unfolding done_to
done_on sheet n j [] d h = absurd (omega arith)
done_on sheet n zero (r ∷ rs) d h = refl
done_on sheet n (suc j) (r ∷ rs) d h = ap (λ (l : List R.Row). outcome sheet n r ∷ l) (done_on sheet n j rs d (omega arith))

done_all : (sheet : List ℕ) (n j : ℕ) (rs : List R.Row) → length rs ≤ j → done_to sheet n j rs ≡ cond (eqb n 0) (filled_all sheet rs) rs
unfolding done_to
done_all sheet n zero [] h = go (eqb n 0)
  where
    go : (b : Bool) → ◌≡◌ {A = List R.Row} [] (cond b [] [])
    go true = refl
    go false = refl
done_all sheet n zero (r ∷ rs) h = absurd (omega arith)
done_all sheet n (suc j) [] h = go (eqb n 0)
  where
    go : (b : Bool) → ◌≡◌ {A = List R.Row} [] (cond b [] [])
    go true = refl
    go false = refl
done_all sheet n (suc j) (r ∷ rs) h = ap (λ (l : List R.Row). outcome sheet n r ∷ l) (done_all sheet n j rs (omega arith)) ∙ go (eqb n 0)
  where
    go : (b : Bool) → cond b (filled sheet r) r ∷ cond b (filled_all sheet rs) rs ≡ cond b (filled sheet r ∷ filled_all sheet rs) (r ∷ rs)
    go true = refl
    go false = refl

-- the group with the rows from j on
pub joins_all : List ℕ → ℕ → Q.Quote → List R.Row → Q.Quote
joins_all sheet n f [] = f
joins_all sheet n f (r ∷ rs) = joins_all sheet n (join_of f (outcome sheet n r)) rs

-- where the second loop stands: f₁ is what the checks left, b₁ the second slice then
pub record Deciding (sheet : List ℕ) (rows₀ : List R.Row) (a b₁ : List ℕ) (f₁ : Q.Quote) (rows : List R.Row) (b : List ℕ) (f : Q.Quote) (j : ℕ) : Type 0 where
  pub most : j ≤ length rows₀
  pub long : length rows ≡ length rows₀
  pub words : length b ≡ length b₁
  pub done : rows ≡ done_to sheet f₁.number j rows₀
  pub number : f.number ≡ f₁.number
  pub joins : joins_all sheet f₁.number f (drop j rows₀) ≡ joins_all sheet f₁.number f₁ rows₀
  pub work : worked b (length a) ≡ worked b₁ (length a)

pub deciding_start : (sheet : List ℕ) (rows : List R.Row) (a b : List ℕ) (f : Q.Quote) → Deciding sheet rows a b f rows b f 0
unfolding done_to
deciding_start sheet rows a b f = record { most = omega arith; long = refl; words = refl; done = refl; number = refl; joins = refl; work = refl }

joined_number : (f : Q.Quote) (r : R.Row) → (join_of f r).number ≡ f.number
unfolding join_of
joined_number f r = go (eqb f.number 0)
  where
    go : (t : Bool) → (cond t (record { number = f.number; line = f.line; length = f.length; group = joined f.group r.decision }) f).number ≡ f.number
    go true = refl
    go false = refl

module _ (sheet : List ℕ) (rows₀ : List R.Row) (w₁ w₂ a b₁ : List ℕ) (f₁ : Q.Quote) (c : Checked sheet rows₀ w₁ w₂ a f₁) (lw : length b₁ ≡ length w₂) (rows : List R.Row) (b : List ℕ) (f : Q.Quote) (j : ℕ) (i : Deciding sheet rows₀ a b₁ f₁ rows b f j) where
  -- a turn
  module _ (d : R.Row) (h : j < length rows₀) (r' : R.Row) (b' : List ℕ) (lb : length b' ≡ length b) (x : Singles sheet a b f (get_or rows j d) r' b') where
    here : get_or rows j d ≡ get_or rows₀ j d
    here = ap (λ (l : List R.Row). get_or l j d) i.done ∙ done_here sheet f₁.number j rows₀ d

    is_outcome : r' ≡ outcome sheet f₁.number (get_or rows₀ j d)
    is_outcome = go (ℕ_discrete f₁.number 0)
      where
        go : Dec (f₁.number ≡ 0) → r' ≡ outcome sheet f₁.number (get_or rows₀ j d)
        go (yes z) =
            x.decided (i.number ∙ z) (c.holds z) (let l = c.long z in let k = i.words in omega (arith, l, k, lw)) (subst (λ (r : R.Row). ask_fits (read partial sheet).state (asked_in r) ≡ true) (sym here) (c.fit z d j h))
            ∙ ap (filled sheet) here ∙ sym (ap (λ (t : Bool). cond t (filled sheet (get_or rows₀ j d)) (get_or rows₀ j d)) (eq-eqb f₁.number 0 z))
        go (no z) = x.refused (λ e. z (sym i.number ∙ e)) ∙ here ∙ sym (ap (λ (t : Bool). cond t (filled sheet (get_or rows₀ j d)) (get_or rows₀ j d)) (ne_eqb f₁.number 0 z))

    pub deciding_on : (f' : Q.Quote) → f' ≡ join_of f r' → Deciding sheet rows₀ a b₁ f₁ (set rows j r') b' f' (j + 1)
    unfolding joins_all
    deciding_on f' e =
        let n : suc j ≡ j + 1 = omega arith in
        let q : set rows j r' ≡ done_to sheet f₁.number (suc j) rows₀ = ap₂ (λ (l : List R.Row) (r : R.Row). set l j r) i.done is_outcome ∙ done_on sheet f₁.number j rows₀ d h in
        record {
          most = omega (arith, h);
          long = ap length q ∙ done_length sheet f₁.number (suc j) rows₀;
          words = lb ∙ i.words;
          done = q ∙ ap (λ (k : ℕ). done_to sheet f₁.number k rows₀) n;
          number = ap (λ (g : Q.Quote). g.number) e ∙ joined_number f r' ∙ i.number;
          joins =
              ap₂ (λ (g : Q.Quote) (k : ℕ). joins_all sheet f₁.number g (drop k rows₀)) (e ∙ ap (join_of f) is_outcome) (sym n)
              ∙ sym (ap (joins_all sheet f₁.number f) (drop-cons rows₀ j d h)) ∙ i.joins;
          work = x.work ∙ i.work;
        }

  pub deciding_end : length rows₀ ≤ j → (rows ≡ cond (eqb f₁.number 0) (filled_all sheet rows₀) rows₀) × (f ≡ joins_all sheet f₁.number f₁ rows₀)
  unfolding joins_all
  deciding_end h = (i.done ∙ done_all sheet f₁.number j rows₀ h, sym (ap (joins_all sheet f₁.number f) (drop_of_length-le rows₀ h)) ∙ i.joins)

-- ---- the group

join_d : Decision → Decision → Decision
join_d g allow = g
join_d g deny = deny
join_d allow undecided = undecided
join_d deny undecided = deny
join_d undecided undecided = undecided

join_code : (g d : Decision) → joined (code_of g) (code_of d) ≡ code_of (join_d g d)
unfolding joined join_d
join_code allow allow = refl
join_code allow deny = refl
join_code allow undecided = refl
join_code deny allow = refl
join_code deny deny = refl
join_code deny undecided = refl
join_code undecided allow = refl
join_code undecided deny = refl
join_code undecided undecided = refl

both : Decision → Bool → Bool → Decision
both g x y = cond (is_deny g || x) deny (cond (is_undecided g || y) undecided allow)

both_on : (g d : Decision) (x y : Bool) → both (join_d g d) x y ≡ both g (is_deny d || x) (is_undecided d || y)
unfolding both join_d
both_on allow allow x y = refl
both_on allow deny x y = refl
both_on allow undecided x y = refl
both_on deny allow x y = refl
both_on deny deny x y = refl
both_on deny undecided x y = refl
both_on undecided allow x y = refl
both_on undecided deny x y = refl
both_on undecided undecided x y = refl

abbrev with_group : Q.Quote → ℕ → Q.Quote
with_group f g = record { number = f.number; line = f.line; length = f.length; group = g }

group_from : (sheet : List ℕ) (n : ℕ) → n ≡ 0 → (f : Q.Quote) → f.number ≡ 0 → (g : Decision) → f.group ≡ code_of g → (rs : List R.Row)
    → joins_all sheet n f rs ≡ with_group f (code_of (both g (any_row is_deny (filled_rows sheet (rows_in rs))) (any_row is_undecided (filled_rows sheet (rows_in rs)))))
unfolding joins_all join_of both
group_from sheet n zn f z allow e [] = λ i. with_group f (e i)
group_from sheet n zn f z deny e [] = λ i. with_group f (e i)
group_from sheet n zn f z undecided e [] = λ i. with_group f (e i)
group_from sheet n zn f z g e (r ∷ rs) =
    let d : Decision = row_decision sheet (asked_in r) in
    let f' : Q.Quote = with_group f (code_of (join_d g d)) in
    let step : join_of f (outcome sheet n r) ≡ f' = ap₂ (λ (t u : Bool). cond u (with_group f (joined f.group (cond t (filled sheet r) r).decision)) f) (eq-eqb n 0 zn) (eq-eqb f.number 0 z)
    ∙ (λ i. with_group f (joined (e i) (code_of d))) ∙ ap (with_group f) (join_code g d) in
    ap (λ (h : Q.Quote). joins_all sheet n h rs) step ∙ group_from sheet n zn f' z (join_d g d) refl rs
    ∙ ap (λ (x : Decision). with_group f (code_of x)) (both_on g d (any_row is_deny (filled_rows sheet (rows_in rs))) (any_row is_undecided (filled_rows sheet (rows_in rs))))

refused_joins : (sheet : List ℕ) (n : ℕ) (f : Q.Quote) → (f.number ≡ 0 → ⊥) → (rs : List R.Row) → joins_all sheet n f rs ≡ f
unfolding joins_all join_of
refused_joins sheet n f z [] = refl
refused_joins sheet n f z (r ∷ rs) = ap (λ (t : Bool). joins_all sheet n (cond t (with_group f (joined f.group (outcome sheet n r).decision)) f) rs) (ne_eqb f.number 0 z) ∙ refused_joins sheet n f z rs

-- ---- rows as the definition has them

decision_back : (d : Decision) → decision_in (code_of d) ≡ d
decision_back allow = refl
decision_back deny = refl
decision_back undecided = refl

rows_filled : (sheet : List ℕ) (rs : List R.Row) → rows_in (filled_all sheet rs) ≡ filled_rows sheet (rows_in rs)
rows_filled sheet [] = refl
rows_filled sheet (r ∷ rs) = λ i. record { asked = asked_in r; decision = decision_back (row_decision sheet (asked_in r)) i } ∷ rows_filled sheet rs i

rows_outcome : (sheet : List ℕ) (t : Bool) (rs : List R.Row) → rows_in (cond t (filled_all sheet rs) rs) ≡ cond t (filled_rows sheet (rows_in rs)) (rows_in rs)
rows_outcome sheet true rs = rows_filled sheet rs
rows_outcome sheet false rs = refl

-- ---- the call

module _ (sheet : List ℕ) (rows₀ : List R.Row) (w₁ w₂ a : List ℕ) (f₁ : Q.Quote) (c : Checked sheet rows₀ w₁ w₂ a f₁) where
  abbrev back : Returned
  back = firm_returned (length w₁) (length w₂) sheet (rows_in rows₀)

  number_is : f₁.number ≡ back.number
  number_is = sym (ap (λ (r : Returned). r.number) c.returned)

  -- the rows joined to what the checks left
  pub record Joined (f : Q.Quote) : Type 0 where
    pub number_as : f.number ≡ f₁.number
    pub line_as : f.line ≡ f₁.line
    pub length_as : f.length ≡ 0
    pub group_as : f.group ≡ code_of (firm_group (length w₁) (length w₂) sheet (rows_in rows₀))

  group_of : (t : Bool) → eqb f₁.number 0 ≡ t → firm_group (length w₁) (length w₂) sheet (rows_in rows₀) ≡ cond t (group (filled_rows sheet (rows_in rows₀))) undecided
  unfolding firm_group
  group_of t e = ap (λ (x : Bool). cond x (group (filled_rows sheet (rows_in rows₀))) undecided) (ap (λ (n : ℕ). eqb n 0) (sym number_is) ∙ e)

  joined_all : Joined (joins_all sheet f₁.number f₁ rows₀)
  unfolding both group
  joined_all = go (ℕ_discrete f₁.number 0)
    where
      go : Dec (f₁.number ≡ 0) → Joined (joins_all sheet f₁.number f₁ rows₀)
      go (yes z) = subst Joined (sym (group_from sheet f₁.number z f₁ z allow (c.group_is ∙ ap (λ (t : Bool). cond t 0 2) (eq-eqb f₁.number 0 z)) rows₀))
          (record { number_as = refl; line_as = refl; length_as = c.length_is; group_as = ap code_of (sym (group_of true (eq-eqb f₁.number 0 z))) })
      go (no z) = subst Joined (sym (refused_joins sheet f₁.number f₁ z rows₀))
          (record { number_as = refl; line_as = refl; length_as = c.length_is; group_as = c.group_is ∙ ap (λ (t : Bool). cond t 0 2) (ne_eqb f₁.number 0 z) ∙ ap code_of (sym (group_of false (ne_eqb f₁.number 0 z))) })

  pub quotes : (rows : List R.Row) (f : Q.Quote) → rows ≡ cond (eqb f₁.number 0) (filled_all sheet rows₀) rows₀ → f ≡ joins_all sheet f₁.number f₁ rows₀
      → (v₁ v₂ : List ℕ) → v₁ ≡ worked w₁ (length w₂) → v₂ ≡ worked w₂ (length w₁) → Quotes sheet rows₀ w₁ w₂ f rows v₁ v₂
  unfolding firm_rows
  quotes rows f er ef v₁ v₂ e₁ e₂ =
      let j : Joined f = subst Joined (sym ef) joined_all in
      let t : eqb f.number 0 ≡ eqb back.number 0 = ap (λ (n : ℕ). eqb n 0) (j.number_as ∙ number_is) in
      let rr : rows ≡ cond (eqb f.number 0) (filled_all sheet rows₀) rows₀ = er ∙ ap (λ (n : ℕ). cond (eqb n 0) (filled_all sheet rows₀) rows₀) (sym j.number_as) in
      record {
        quoted = record {
          number_is = j.number_as ∙ number_is;
          line_is = j.line_as ∙ sym (ap (λ (r : Returned). r.line) c.returned);
          length_is = j.length_as ∙ sym (ap (λ (r : Returned). r.length) c.returned);
          group_is = ap decision_in j.group_as ∙ decision_back (firm_group (length w₁) (length w₂) sheet (rows_in rows₀));
          rows_are = ap rows_in rr ∙ rows_outcome sheet (eqb f.number 0) rows₀ ∙ ap (λ (x : Bool). cond x (filled_rows sheet (rows_in rows₀)) (rows_in rows₀)) t;
          first = e₁;
          second = e₂;
        };
        group_is = j.group_as;
        rows_are = rr;
      }

-- ---- as the code goes through it: the checks left f₁, then the rows were decided up to j

module _ (sheet : List ℕ) (rows₀ : List R.Row) (w₁ w₂ a b₁ : List ℕ) (f₀ : Q.Quote) (g : Begins (length rows₀) sheet w₁ w₂ f₀ a b₁) (l₁ : length a ≡ length w₁) (l₂ : length b₁ ≡ length w₂)
    (f₁ : Q.Quote) (i₁ : ℕ) (k : Checking a rows₀ (checking a 0 rows₀ f₀) f₁ i₁) (e₁ : length rows₀ ≤ i₁) where
  after : Checked sheet rows₀ w₁ w₂ a f₁
  after = subst (Checked sheet rows₀ w₁ w₂ a) (sym (checking_end a rows₀ (checking a 0 rows₀ f₀) f₁ i₁ k e₁)) (checked sheet rows₀ w₁ w₂ a b₁ f₀ g)

  module _ (rows : List R.Row) (b : List ℕ) (f : Q.Quote) (j : ℕ) (i : Deciding sheet rows₀ a b₁ f₁ rows b f j) where
    pub decided_on : (d : R.Row) → j < length rows₀ → (r' : R.Row) (b' : List ℕ) → length b' ≡ length b → Singles sheet a b f (get_or rows j d) r' b' → (f' : Q.Quote) → f' ≡ join_of f r' → Deciding sheet rows₀ a b₁ f₁ (set rows j r') b' f' (j + 1)
    decided_on d h r' b' lb x f' e = deciding_on sheet rows₀ w₁ w₂ a b₁ f₁ after l₂ rows b f j i d h r' b' lb x f' e

    pub decided_all : length rows₀ ≤ j → (x : Q.Quote) → x ≡ f → (v₁ v₂ : List ℕ) → v₁ ≡ worked a (length b) → v₂ ≡ worked b (length a) → Quotes sheet rows₀ w₁ w₂ x rows v₁ v₂
    decided_all h x ex v₁ v₂ p q =
        let z = deciding_end sheet rows₀ w₁ w₂ a b₁ f₁ after l₂ rows b f j i h in
        quotes sheet rows₀ w₁ w₂ a f₁ after rows x z.0 (ex ∙ z.1) v₁ v₂
        (p ∙ ap (worked a) (i.words ∙ l₂) ∙ g.first) (q ∙ i.work ∙ ap (worked b₁) l₁ ∙ g.second)

-- NUMBER 11 NAMES THE FIRST LINE OF THE COMPLETE SHEET THAT BREAKS AGREEMENT, or the line after its last where none does and one is lacking.
use mathlib.Core.Path.{◌≡◌, refl, sym, ◌∙◌, ap, subst}
use mathlib.Core.Bool.{Bool, true, false, cond, not}
use mathlib.Core.Option.{Option, none, some}
use mathlib.Core.List.{List, [], ◌∷◌}
use Prim.Native.Nat.{ℕ, zero, suc, ◌+◌, ◌-◌, ◌<◌, ◌≤◌}
use native.Mathlib.Nat.{le_of_suc-le-suc}
use native.Mathlib.Decide.{dec_le}
use native.Mathlib.Omega.{arith}
use lib.ListN.{length, get_or, take, get_elem?}
use Rattle.cedar.proofs.Tools.{no_some, no_true}
use Rattle.cedar.specs.Value.{on_some}
use Rattle.sheet.specs.Bytes.{same, split}
use Rattle.sheet.specs.Forms.{partial, complete, at, row_of, TEXT, KIND, TYPE, SHAPE, VALUE, ENTITY, PRINCIPAL, ACTION, RESOURCE, CONTEXT, DAY, NODE, POLICY, LINK, TERM, no_key}
use Rattle.sheet.specs.State.{State, lines_of, line_at, count, counts, lengths, before, sum}
use Rattle.sheet.specs.Sheet.{greatest, read}
use Rattle.sheet.specs.Call.{Accepted}
use Rattle.sheet.specs.Parents.{line_for}
use Rattle.sheet.specs.Agreement.{request_same, entity_same, agrees}
use Rattle.sheet.proofs.content.Environment.{Facts, a_line}
use Rattle.sheet.proofs.reading.Limits.{lines_at_most}
use Rattle.sheet.proofs.demand3.Demand3Bytes.{facts}
use Rattle.sheet.proofs.reading.Checked.{accepted_read}
use Rattle.sheet.proofs.reading.LinePlaces.{line_stands}
use Rattle.finished.specs.Finish.{least_below, break_from, breaking_line}
use Rattle.finished.specs.ByKey.{begin_break, same_break, entity_break, request_break, first_some, breaks, lacks, passed_line}
use Rattle.finished.specs.Breaks.{breaks_at, Breaks, Named, the_first, after_last, no_line}
use Rattle.finished.proofs.FinishAgrees.{passed_agrees, agrees_passed, agrees_none}

-- ---- of n places that stand after l others, the first where b holds

data Finds (b : ℕ → Bool) (n l : ℕ) : Option ℕ → Type 0 where
  found : (i : ℕ) → i < n → b i ≡ true → ((j : ℕ) → j < i → b j ≡ false) → Finds b n l (some (l + i))
  nowhere : ((j : ℕ) → j < n → b j ≡ false) → Finds b n l none

finds_here : (b : ℕ → Bool) (n l : ℕ) → b 0 ≡ true → Finds b (suc n) l (some l)
finds_here b n l e = let z : l + 0 ≡ l = omega arith in subst (λ k. Finds b (suc n) l (some k)) z (found 0 (omega arith) e (λ j h. absurd (omega (arith, h))))

none_at_first : (b : ℕ → Bool) (n : ℕ) → b 0 ≡ false → ((j : ℕ) → j < n → b (suc j) ≡ false) → (j : ℕ) → j < suc n → b j ≡ false
none_at_first b n e f zero h = e
none_at_first b n e f (suc j) h = f j (le_of_suc-le-suc h)

finds_later : (b : ℕ → Bool) (n l : ℕ) (o : Option ℕ) → b 0 ≡ false → Finds (λ j. b (suc j)) n (suc l) o → Finds b (suc n) l o
finds_later b n l _ e (found i h t f) = let z : l + suc i ≡ suc l + i = omega arith in subst (λ k. Finds b (suc n) l (some k)) z (found (suc i) (omega (arith, h)) t (none_at_first b i e f))
finds_later b n l _ e (nowhere f) = nowhere (none_at_first b n e f)

-- a line compared, then those after it
finds_at : (b : ℕ → Bool) (n l : ℕ) (same : Bool) (o : Option ℕ) → b 0 ≡ not same → Finds (λ j. b (suc j)) n (suc l) o → Finds b (suc n) l (cond same o (some l))
finds_at b n l true o e h = finds_later b n l o e h
finds_at b n l false o e h = finds_here b n l e

-- it is the least that the definition looks for
least_nowhere : (b : ℕ → Bool) (n : ℕ) → ((j : ℕ) → j < n → b j ≡ false) → least_below b n ≡ none
least_nowhere b zero f = refl
least_nowhere b (suc n) f = rw (least_nowhere b n (λ j h. f j (omega (arith, h))), f n (omega arith)) refl

least_there : (b : ℕ → Bool) (n i : ℕ) → i < n → b i ≡ true → ((j : ℕ) → j < i → b j ≡ false) → least_below b n ≡ some i
least_there b zero i h t f = absurd (omega (arith, h))
least_there b (suc n) i h t f = go (dec_le (suc i) n) (λ lt. least_there b n i lt t f)
  where
    go : Dec (suc i ≤ n) → (suc i ≤ n → least_below b n ≡ some i) → least_below b (suc n) ≡ some i
    go (yes lt) k = rw (k lt) refl
    go (no nlt) k =
        let e : i ≡ n = omega (arith, h, nlt) in
        subst (λ (m : ℕ). least_below b (suc m) ≡ some i) e (rw (least_nowhere b i f, t) refl)

finds_least : (b : ℕ → Bool) (n l : ℕ) (o : Option ℕ) → Finds b n l o → on_some none (least_below b n) (λ i. some (l + i)) ≡ o
finds_least b n l _ (found i h t f) = rw (least_there b n i h t f) refl
finds_least b n l _ (nowhere f) = rw (least_nowhere b n f) refl

-- ---- the lines of one key

begin_finds : (p c : List (List ℕ)) (l : ℕ) → Finds (λ i. on_some false (get_elem? p i) (λ r. not (same r (get_or c i [])))) (length c) l (begin_break p c l)
begin_finds [] c l = nowhere (λ j h. refl)
begin_finds (r ∷ p) [] l = nowhere (λ j h. absurd (omega (arith, h)))
begin_finds (r ∷ p) (q ∷ c) l = finds_at (λ i. on_some false (get_elem? (r ∷ p) i) (λ x. not (same x (get_or (q ∷ c) i [])))) (length c) l (same r q) (begin_break p c (suc l)) refl (begin_finds p c (suc l))

same_finds : (p c : List (List ℕ)) (l : ℕ) → Finds (λ i. on_some true (get_elem? p i) (λ r. not (same r (get_or c i [])))) (length c) l (same_break p c l)
same_finds [] [] l = nowhere (λ j h. absurd (omega (arith, h)))
same_finds [] (q ∷ c) l = finds_here (λ i. true) (length c) l refl
same_finds (r ∷ p) [] l = nowhere (λ j h. absurd (omega (arith, h)))
same_finds (r ∷ p) (q ∷ c) l = finds_at (λ i. on_some true (get_elem? (r ∷ p) i) (λ x. not (same x (get_or (q ∷ c) i [])))) (length c) l (same r q) (same_break p c (suc l)) refl (same_finds p c (suc l))

not_on : (o : Option (List ℕ)) (f : List ℕ → Bool) → on_some false o (λ r. not (f r)) ≡ not (on_some true o f)
not_on none f = refl
not_on (some r) f = refl

entity_finds : (p c : List (List ℕ)) (l : ℕ) → Finds (λ i. on_some false (line_for (at (get_or c i []) 0) p) (λ r. not (entity_same r (get_or c i [])))) (length c) l (entity_break p c l)
entity_finds p [] l = nowhere (λ j h. absurd (omega (arith, h)))
entity_finds p (q ∷ c) l =
    finds_at (λ i. on_some false (line_for (at (get_or (q ∷ c) i []) 0) p) (λ r. not (entity_same r (get_or (q ∷ c) i [])))) (length c) l (on_some true (line_for (at q 0) p) (λ r. entity_same r q)) (entity_break p c (suc l))
    (not_on (line_for (at q 0) p) (λ r. entity_same r q)) (entity_finds p c (suc l))

-- there is one line
request_finds : (p c : List (List ℕ)) (l : ℕ) → 1 ≤ length p → length c ≤ 1 → 1 ≤ length c → Finds (λ i. on_some false (get_elem? p i) (λ r. not (request_same r (get_or c i [])))) (length c) l (request_break (get_or p 0 []) (get_or c 0 []) l)
request_finds [] c l h k m = absurd (omega (arith, h))
request_finds (r ∷ p) [] l h k m = absurd (omega (arith, m))
request_finds (r ∷ p) (q ∷ []) l h k m = finds_at (λ i. on_some false (get_elem? (r ∷ p) i) (λ x. not (request_same x (get_or (q ∷ []) i [])))) 0 l (request_same r q) none refl (nowhere (λ j h. absurd (omega (arith, h))))
request_finds (r ∷ p) (q ∷ x ∷ c) l h k m = absurd (omega (arith, k))

-- ---- the lines of the sheet, key by key

lines_before : (ls : List (List (List ℕ))) (j k : ℕ) → j < k → sum (take j (lengths ls)) + length (get_or ls j []) ≤ sum (take k (lengths ls))
lines_before ls j zero h = absurd (omega (arith, h))
lines_before [] zero (suc k) h = omega arith
lines_before [] (suc j) (suc k) h = omega arith
lines_before (l ∷ ls) zero (suc k) h = omega arith
lines_before (l ∷ ls) (suc j) (suc k) h = let z = lines_before ls j k (le_of_suc-le-suc h) in omega (arith, z)

module _ (p c : State) where
  -- of the lines of the keys from lo on, before hi
  data FirstIn (lo hi : ℕ) : Option ℕ → Type 0 where
    first_at : (k i : ℕ) → lo ≤ k → k < hi → i < count c k → breaks_at p c k i ≡ true
        → ((j x : ℕ) → lo ≤ j → j < hi → x < count c j → before c j + x < before c k + i → breaks_at p c j x ≡ false) → FirstIn lo hi (some (before c k + i))
    none_in : ((j x : ℕ) → lo ≤ j → j < hi → x < count c j → breaks_at p c j x ≡ false) → FirstIn lo hi none

  abbrev AllFind : ℕ → List (Option ℕ) → Type 0
  AllFind k [] = Unit {0}
  AllFind k (o ∷ os) = Finds (breaks_at p c k) (count c k) (before c k) o × AllFind (suc k) os

  -- what holds at a key and at those after it
  from_key : {X : ℕ → ℕ → Type 0} (k : ℕ) → ((x : ℕ) → X k x) → ((j x : ℕ) → suc k ≤ j → X j x) → (j x : ℕ) → k ≤ j → X j x
  from_key {X} k f g j x h = go (dec_le (suc k) j)
    where
      go : Dec (suc k ≤ j) → X j x
      go (yes later) = g j x later
      go (no here) = let e : k ≡ j = omega (arith, h, here) in subst (λ z. X z x) e (f x)

  first_with : (k hi : ℕ) (o : Option ℕ) (os : List (Option ℕ)) → k < hi → Finds (breaks_at p c k) (count c k) (before c k) o → FirstIn (suc k) hi (first_some os) → FirstIn k hi (first_some (o ∷ os))
  first_with k hi _ os lt (found i h t f) r =
      first_at k i (omega arith) lt h t (λ j x a.
      from_key {X = λ j x. j < hi → x < count c j → before c j + x < before c k + i → breaks_at p c j x ≡ false} k (λ x a b e. f x (omega (arith, e)))
      (λ j x l a b e. let z = lines_before c.lines k j l in absurd (omega (arith, h, e, z))) j x a)
  first_with k hi _ os lt (nowhere f) r = after (first_some os) r
    where
      after : (o : Option ℕ) → FirstIn (suc k) hi o → FirstIn k hi o
      after _ (first_at n i a b h t g) = first_at n i (omega (arith, a)) b h t (λ j x y.
          from_key {X = λ j x. j < hi → x < count c j → before c j + x < before c n + i → breaks_at p c j x ≡ false} k (λ x a b e. f x b) (λ j x l a b e. g j x l a b e) j x y)
      after _ (none_in g) = none_in (λ j x y. from_key {X = λ j x. j < hi → x < count c j → breaks_at p c j x ≡ false} k (λ x a b. f x b) (λ j x l a b. g j x l a b) j x y)

  first_in : (k hi : ℕ) (os : List (Option ℕ)) → k + length os ≡ hi → AllFind k os → FirstIn k hi (first_some os)
  first_in k hi [] e h = none_in (λ j x a b d. absurd (omega (arith, a, b, e)))
  first_in k hi (o ∷ os) e h = first_with k hi o os (omega (arith, e)) h.0 (first_in (suc k) hi os (omega (arith, e)) h.1)

  -- key by key the same line is found
  found_from : (k n : ℕ) (os : List (Option ℕ)) → length os ≡ n → AllFind k os → break_from p c k n ≡ first_some os
  found_from k zero [] e h = refl
  found_from k zero (o ∷ os) e h = absurd (omega (arith, e))
  found_from k (suc n) [] e h = absurd (omega (arith, e))
  found_from k (suc n) (o ∷ os) e h = rw (finds_least (breaks_at p c k) (count c k) (before c k) o h.0) (go o (found_from (suc k) n os (omega (arith, e)) h.1))
    where
      go : (o : Option ℕ) → break_from p c (suc k) n ≡ first_some os → on_some (break_from p c (suc k) n) o some ≡ first_some (o ∷ os)
      go none q = q
      go (some m) q = refl

  -- what is named, by the first line that breaks
  named_by : (o : Option ℕ) (b : Bool) → agrees p c ≡ b → (b ≡ true → o ≡ none) → FirstIn TEXT no_key o → Named p c (cond b 0 (on_some (suc (sum (counts c))) o suc))
  named_by _ true e g (first_at k i a d h t f) = no_some (sym (g refl))
  named_by _ false e g (first_at k i a d h t f) =
      the_first (record { key = k; place = i; later = a; is_key = d; there = h; line_is = refl; breaks = t })
      (λ l lt x. let q = x.line_is in no_true (sym (f x.key x.place x.later x.is_key x.there (omega (arith, lt, q))) ∙ x.breaks))
  named_by _ false e g (none_in f) = after_last (λ l x. no_true (sym (f x.key x.place x.later x.is_key x.there) ∙ x.breaks)) e
  named_by _ true e g (none_in f) = no_line (λ l x. no_true (sym (f x.key x.place x.later x.is_key x.there) ∙ x.breaks)) e

  module _ (fp : Facts partial p) (fc : Facts complete c) where
    one_line : (k : ℕ) → get_or (greatest c) k 0 ≡ 1 → count c k ≤ 1
    one_line k e = let z = lines_at_most complete c fc.history k in omega (arith, z, e)

    all_find : AllFind TEXT (breaks p c)
    all_find = (
      begin_finds (lines_of p TEXT) (lines_of c TEXT) (before c TEXT),
      (
        same_finds (lines_of p KIND) (lines_of c KIND) (before c KIND),
        (
          same_finds (lines_of p TYPE) (lines_of c TYPE) (before c TYPE),
          (
            same_finds (lines_of p SHAPE) (lines_of c SHAPE) (before c SHAPE),
            (
              begin_finds (lines_of p VALUE) (lines_of c VALUE) (before c VALUE),
              (
                entity_finds (lines_of p ENTITY) (lines_of c ENTITY) (before c ENTITY),
                (
                  request_finds (lines_of p PRINCIPAL) (lines_of c PRINCIPAL) (before c PRINCIPAL) (a_line partial p fp PRINCIPAL (omega arith) (omega arith)) (one_line PRINCIPAL refl) (a_line complete c fc PRINCIPAL (omega arith) (omega arith)),
                  (
                    request_finds (lines_of p ACTION) (lines_of c ACTION) (before c ACTION) (a_line partial p fp ACTION (omega arith) (omega arith)) (one_line ACTION refl) (a_line complete c fc ACTION (omega arith) (omega arith)),
                    (
                      request_finds (lines_of p RESOURCE) (lines_of c RESOURCE) (before c RESOURCE) (a_line partial p fp RESOURCE (omega arith) (omega arith)) (one_line RESOURCE refl) (a_line complete c fc RESOURCE (omega arith) (omega arith)),
                      (
                        request_finds (lines_of p CONTEXT) (lines_of c CONTEXT) (before c CONTEXT) (a_line partial p fp CONTEXT (omega arith) (omega arith)) (one_line CONTEXT refl) (a_line complete c fc CONTEXT (omega arith) (omega arith)),
                        (
                          same_finds (lines_of p DAY) (lines_of c DAY) (before c DAY),
                          (
                            same_finds (lines_of p NODE) (lines_of c NODE) (before c NODE),
                            (
                              same_finds (lines_of p POLICY) (lines_of c POLICY) (before c POLICY),
                              (
                                same_finds (lines_of p LINK) (lines_of c LINK) (before c LINK),
                                (
                                  same_finds (lines_of p TERM) (lines_of c TERM) (before c TERM),
                                  tt,
                                ),
                              ),
                            ),
                          ),
                        ),
                      ),
                    ),
                  ),
                ),
              ),
            ),
          ),
        ),
      ),
    )

    first_is : break_from p c TEXT (no_key - TEXT) ≡ first_some (breaks p c)
    first_is = found_from TEXT (no_key - TEXT) (breaks p c) refl all_find

    -- THE LINE OF NUMBER 11 IS THE FIRST THAT BREAKS AGREEMENT
    pub first_breaking : Named p c (breaking_line p c)
    unfolding breaking_line
    first_breaking =
        subst (λ (o : Option ℕ). Named p c (cond (agrees p c) 0 (on_some (suc (sum (counts c))) o suc))) (sym first_is)
        (named_by (first_some (breaks p c)) (agrees p c) refl (agrees_none p c fp.history fc.history) (first_in TEXT no_key (breaks p c) refl all_find))

    -- THE LINE THAT THE CODE FINDS KEY BY KEY, AND BY WHAT IS LACKING, IS THAT LINE
    pub passed_is : passed_line p c ≡ breaking_line p c
    unfolding passed_line breaking_line
    passed_is =
        go (agrees p c) (first_some (breaks p c)) (lacks p c) (agrees_passed p c fp.history fc.history) (passed_agrees p c fp.history fc.history)
        ∙ ap (λ (o : Option ℕ). cond (agrees p c) 0 (on_some (suc (sum (counts c))) o suc)) (sym first_is)
      where
        go : (g : Bool) (o : Option ℕ) (b : Bool) → (g ≡ true → on_some (cond b (suc (sum (counts c))) 0) o suc ≡ 0) → (on_some (cond b (suc (sum (counts c))) 0) o suc ≡ 0 → g ≡ true)
            → on_some (cond b (suc (sum (counts c))) 0) o suc ≡ cond g 0 (on_some (suc (sum (counts c))) o suc)
        go true o b h k = h refl
        go false none true h k = refl
        go false none false h k = no_true (k refl)
        go false (some n) b h k = refl

-- for two accepted sheets
pub eleven_names : (p c : List ℕ) → Accepted partial p → Accepted complete c → Named (read partial p).state (read complete c).state (breaking_line (read partial p).state (read complete c).state)
eleven_names p c ap' ac = first_breaking (read partial p).state (read complete c).state (facts partial p ap') (facts complete c ac)

-- the line of the sheet's bytes with the number of a line that breaks is the line that was compared
pub line_of : (p : State) (c : List ℕ) → Accepted complete c → (l : ℕ) (b : Breaks p (read complete c).state l) → row_of complete (get_or (split 10 c) (l - 1) []) ≡ line_at (read complete c).state b.key b.place
line_of p c ac l b =
    let q = b.line_is in
    let z : l - 1 ≡ before (read complete c).state b.key + b.place = omega (arith, q) in
    ap (λ (n : ℕ). row_of complete (get_or (split 10 c) n [])) z ∙ line_stands complete c (accepted_read complete c ac) b.key b.place b.there

-- Key by key, in the keys' order: what is left of the keys gives the line that number 11 names. Assumes nothing.
use mathlib.Core.Path.{◌≡◌, refl, sym, ap, ◌∙◌}
use mathlib.Core.Bool.{Bool, true, false, cond, ◌||◌}
use mathlib.Core.Option.{Option, none, some}
use mathlib.Core.List.{List, [], ◌∷◌}
use Prim.Native.Nat.{ℕ, zero, suc, ◌+◌, ◌-◌, ◌*◌, ◌≤◌, ◌<◌}
use native.Mathlib.Numerals.{add-one}
use native.Mathlib.Omega.{arith}
use borrow.Author.Tests.{eq-eqb, ne_eqb}
use lib.Dec.{ltb, eqb}
use lib.ListN.{length, get_or, take}
use Rattle.cedar.specs.Value.{on_some}
use Rattle.sheet.specs.Forms.{at, no_key, SHEET, TEXT, VALUE, ENTITY}
use Rattle.sheet.specs.State.{counts, before, sum}
use Rattle.sheet.specs.Bytes.{same}
use Rattle.sheet.specs.Parents.{line_for}
use Rattle.sheet.specs.Agreement.{request_same, entity_same}
use Rattle.table.specs.Layout.{rows_of, lines_held, held}
use Rattle.table.proofs.Rows.{tab, tab_same, length_tab, length_texts, count_rows}
use Rattle.table.proofs.Held.{counts_held, counts_in}
use Rattle.table.proofs.Counts.{count_at}
use Rattle.finished.specs.ByKey.{begin_break, same_break, entity_break, request_break, first_some, breaks, unlisted_in, any_of, lacks, passed_line}
use Rattle.agree.specs.Breaks.{lines_in, counted, is_request, break_in, lack_in}

-- ---- one key

module _ (partial a complete d : List ℕ) (k n : ℕ) where
  pub text_key : k ≡ TEXT → n ≡ counted (begin_break (lines_in partial a k) (lines_in complete d k) 0) → n ≡ counted (break_in partial a complete d k 0)
  unfolding break_in
  text_key h e = e ∙ rw (eq-eqb k TEXT h) refl

  module _ (t : k ≡ TEXT → ⊥) where
    pub value_key : k ≡ VALUE → n ≡ counted (begin_break (lines_in partial a k) (lines_in complete d k) 0) → n ≡ counted (break_in partial a complete d k 0)
    unfolding break_in
    value_key h e = e ∙ rw (ne_eqb k TEXT t, eq-eqb k VALUE h) refl

    module _ (v : k ≡ VALUE → ⊥) where
      pub entity_key : k ≡ ENTITY → n ≡ counted (entity_break (rows_of a ENTITY) (rows_of d ENTITY) 0) → n ≡ counted (break_in partial a complete d k 0)
      unfolding break_in
      entity_key h e = e ∙ rw (ne_eqb k TEXT t, ne_eqb k VALUE v, eq-eqb k ENTITY h, ← h) refl

      module _ (y : k ≡ ENTITY → ⊥) (b : Bool) (eb : b ≡ is_request k) where
        pub request_key : b ≡ true → n ≡ counted (request_break (get_or (rows_of a k) 0 []) (get_or (rows_of d k) 0 []) 0) → n ≡ counted (break_in partial a complete d k 0)
        unfolding break_in
        request_key h e = e ∙ rw (ne_eqb k TEXT t, ne_eqb k VALUE v, ne_eqb k ENTITY y, ← eb, h) refl

        pub same_key : b ≡ false → n ≡ counted (same_break (lines_in partial a k) (lines_in complete d k) 0) → n ≡ counted (break_in partial a complete d k 0)
        unfolding break_in
        same_key h e = e ∙ rw (ne_eqb k TEXT t, ne_eqb k VALUE v, ne_eqb k ENTITY y, ← eb, h) refl

module _ (a d : List ℕ) (k : ℕ) where
  pub entity_lack : (b : Bool) → k ≡ ENTITY → b ≡ unlisted_in (rows_of a ENTITY) (rows_of d ENTITY) → b ≡ lack_in a d k
  unfolding lack_in
  entity_lack b h e = e ∙ rw (eq-eqb k ENTITY h, ← h) refl

  module _ (y : k ≡ ENTITY → ⊥) (b : Bool) (eb : b ≡ is_request k) where
    pub request_lack : b ≡ true → false ≡ lack_in a d k
    unfolding lack_in
    request_lack h = rw (ne_eqb k ENTITY y, ← eb, h)

    pub other_lack : b ≡ false → (n m : ℕ) → n ≡ get_or d k 0 → m ≡ get_or a k 0 → ltb n m ≡ lack_in a d k
    unfolding lack_in
    other_lack h n m hn hm = rw (ne_eqb k ENTITY y, ← eb, h, count_rows a k, count_rows d k, hn, hm)

-- ---- the lines before a key

-- so many lines more before it
abbrev later : ℕ → Option ℕ → Option ℕ
later l o = on_some none o (λ n. some (l + n))

suc_later : (l m : ℕ) → suc (l + m) ≡ l + suc m
suc_later l m = omega arith

begin_later : (p c : List (List ℕ)) (l m : ℕ) → begin_break p c (l + m) ≡ later l (begin_break p c m)
begin_later [] c l m = refl
begin_later (r ∷ p) [] l m = refl
begin_later (r ∷ p) (q ∷ c) l m = go (same r q) (ap (begin_break p c) (suc_later l m) ∙ begin_later p c l (suc m))
  where
    go : (b : Bool) → begin_break p c (suc (l + m)) ≡ later l (begin_break p c (suc m)) → cond b (begin_break p c (suc (l + m))) (some (l + m)) ≡ later l (cond b (begin_break p c (suc m)) (some m))
    go true e = e
    go false e = refl

same_later : (p c : List (List ℕ)) (l m : ℕ) → same_break p c (l + m) ≡ later l (same_break p c m)
same_later [] [] l m = refl
same_later [] (q ∷ c) l m = refl
same_later (r ∷ p) [] l m = refl
same_later (r ∷ p) (q ∷ c) l m = go (same r q) (ap (same_break p c) (suc_later l m) ∙ same_later p c l (suc m))
  where
    go : (b : Bool) → same_break p c (suc (l + m)) ≡ later l (same_break p c (suc m)) → cond b (same_break p c (suc (l + m))) (some (l + m)) ≡ later l (cond b (same_break p c (suc m)) (some m))
    go true e = e
    go false e = refl

entity_later : (p c : List (List ℕ)) (l m : ℕ) → entity_break p c (l + m) ≡ later l (entity_break p c m)
entity_later p [] l m = refl
entity_later p (q ∷ c) l m = go (on_some true (line_for (at q 0) p) (λ r. entity_same r q)) (ap (entity_break p c) (suc_later l m) ∙ entity_later p c l (suc m))
  where
    go : (b : Bool) → entity_break p c (suc (l + m)) ≡ later l (entity_break p c (suc m)) → cond b (entity_break p c (suc (l + m))) (some (l + m)) ≡ later l (cond b (entity_break p c (suc m)) (some m))
    go true e = e
    go false e = refl

request_later : (p c : List ℕ) (l m : ℕ) → request_break p c (l + m) ≡ later l (request_break p c m)
request_later p c l m = go (request_same p c)
  where
    go : (b : Bool) → cond b none (some (l + m)) ≡ later l (cond b none (some m))
    go true = refl
    go false = refl

break_later : (partial a complete d : List ℕ) (k l : ℕ) → break_in partial a complete d k l ≡ later l (break_in partial a complete d k 0)
unfolding break_in
break_later partial a complete d k l =
    let z : l ≡ l + 0 = omega arith in
    let p = lines_in partial a k in
    let c = lines_in complete d k in
    go (eqb k TEXT || eqb k VALUE) (eqb k ENTITY) (is_request k) (begin_break p c 0) (entity_break (rows_of a k) (rows_of d k) 0) (request_break (get_or (rows_of a k) 0 []) (get_or (rows_of d k) 0 []) 0) (same_break p c 0) (ap (begin_break p c) z ∙ begin_later p c l 0) (ap (entity_break (rows_of a k) (rows_of d k)) z ∙ entity_later (rows_of a k) (rows_of d k) l 0)
    (ap (request_break (get_or (rows_of a k) 0 []) (get_or (rows_of d k) 0 [])) z ∙ request_later (get_or (rows_of a k) 0 []) (get_or (rows_of d k) 0 []) l 0)
    (ap (same_break p c) z ∙ same_later p c l 0)
  where
    go : (s t u : Bool) (w₀ x₀ y₀ v₀ : Option ℕ) {w x y v : Option ℕ} → w ≡ later l w₀ → x ≡ later l x₀ → y ≡ later l y₀ → v ≡ later l v₀
        → cond s w (cond t x (cond u y v)) ≡ later l (cond s w₀ (cond t x₀ (cond u y₀ v₀)))
    go true t u w₀ x₀ y₀ v₀ e f g h = e
    go false true u w₀ x₀ y₀ v₀ e f g h = f
    go false false true w₀ x₀ y₀ v₀ e f g h = g
    go false false false w₀ x₀ y₀ v₀ e f g h = h

-- ---- all keys

-- a list by places from place k on, up to place n
tab_on : {A : Type 0} (f : ℕ → A) (k n : ℕ) → k < n → tab f k (n - k) ≡ f k ∷ tab f (k + 1) (n - (k + 1))
tab_on f k n h = let z : n - k ≡ suc (n - (k + 1)) = omega arith in rw (z, add-one k) refl

tab_end : {A : Type 0} (f : ℕ → A) (k n : ℕ) → n ≤ k → tab f k (n - k) ≡ []
tab_end f k n h = let z : n - k ≡ 0 = omega arith in rw z refl

-- how many lines words hold of the keys before key k
abbrev pub lines_before : List ℕ → ℕ → ℕ
lines_before d k = sum (take k (counts_in d))

sum_more : (l : List ℕ) (k : ℕ) → k < length l → sum (take (suc k) l) ≡ sum (take k l) + get_or l k 0
sum_more [] k h = absurd (omega arith)
sum_more (x ∷ l) zero h = omega arith
sum_more (x ∷ l) (suc k) h = let e = sum_more l k (omega arith) in omega (arith, e)

before_more : (d : List ℕ) (k : ℕ) → k < no_key → lines_before d (k + 1) ≡ lines_before d k + get_or d k 0
before_more d k h = ap (lines_before d) (add-one k) ∙ sum_more (counts_in d) k (rw (length_tab (λ (i : ℕ). get_or d i 0) 0 no_key) h) ∙ ap (λ (x : ℕ). lines_before d k + x) (count_at d k h)

module _ (partial a complete d : List ℕ) where
  -- the line of key k that breaks agreement
  abbrev broken : ℕ → Option ℕ
  broken k = later (lines_before d k) (break_in partial a complete d k 0)

  breaks_tab : breaks (held partial a []) (held complete d []) ≡ tab (λ (k : ℕ). break_in partial a complete d k (before (held complete d []) k)) TEXT (no_key - TEXT)
  unfolding break_in held lines_held
  breaks_tab = refl

  pub breaks_are : breaks (held partial a []) (held complete d []) ≡ tab broken TEXT (no_key - TEXT)
  breaks_are =
      breaks_tab
      ∙ tab_same (λ (k : ℕ). break_in partial a complete d k (before (held complete d []) k)) broken TEXT (no_key - TEXT)
      (λ k l h. ap (λ (x : List ℕ). break_in partial a complete d k (sum (take k x))) (counts_held complete d []) ∙ break_later partial a complete d k (lines_before d k))

  pub lacks_are : lacks (held partial a []) (held complete d []) ≡ any_of (tab (lack_in a d) TEXT (no_key - TEXT))
  unfolding lack_in held lines_held
  lacks_are = rw (length_texts partial (rows_of a TEXT), length_texts complete (rows_of d TEXT)) refl

-- ---- the loops

-- key k is asked next whether it lacks a line
pub record Lacking (a d : List ℕ) (k : ℕ) : Type 0 where
  pub left : lacks (held [] a []) (held [] d []) ≡ any_of (tab (lack_in a d) k (no_key - k))

module _ (a d : List ℕ) where
  pub lack_start : Lacking a d TEXT
  lack_start = record { left = lacks_are [] a [] d }

  module _ (k : ℕ) (g : Lacking a d k) where
    module _ (h : k < no_key) (b : Bool) (e : b ≡ lack_in a d k) where
      lack_here : lacks (held [] a []) (held [] d []) ≡ (b || any_of (tab (lack_in a d) (k + 1) (no_key - (k + 1))))
      lack_here = g.left ∙ ap any_of (tab_on (lack_in a d) k no_key h) ∙ ap (λ (t : Bool). t || any_of (tab (lack_in a d) (k + 1) (no_key - (k + 1)))) (sym e)

      pub lack_on : b ≡ false → Lacking a d (k + 1)
      lack_on f = record { left = lack_here ∙ rw f refl }

-- key k is asked next for a line that breaks agreement, and l lines stand before it
pub record Passing (partial a complete d : List ℕ) (k l : ℕ) : Type 0 where
  pub before : l ≡ lines_before d k
  pub few : l ≤ k * 4294967296
  pub first : 1 ≤ k
  pub last : k ≤ no_key
  pub left : first_some (breaks (held partial a []) (held complete d [])) ≡ first_some (tab (broken partial a complete d) k (no_key - k))

-- where no line breaks agreement
abbrev at_end : List ℕ → List ℕ → List ℕ → List ℕ → ℕ
at_end partial a complete d = cond (lacks (held partial a []) (held complete d [])) (suc (sum (counts (held complete d [])))) 0

module _ (partial a complete d : List ℕ) where
  pub pass_start : (l : ℕ) → l ≡ get_or d SHEET 0 → l < 4294967296 → Passing partial a complete d TEXT l
  pass_start l e h = record { before = omega (arith, e); few = omega arith; first = omega arith; last = omega arith; left = ap first_some (breaks_are partial a complete d) }

  all_before : lines_before d no_key ≡ sum (counts (held complete d []))
  all_before = sym (ap sum (counts_held complete d []))

  module _ (k l : ℕ) (g : Passing partial a complete d k l) where
    module _ (h : no_key ≤ k) where
      none_breaks : passed_line (held partial a []) (held complete d []) ≡ at_end partial a complete d
      unfolding passed_line
      none_breaks = ap (λ (o : Option ℕ). on_some (at_end partial a complete d) o suc) (g.left ∙ ap first_some (tab_end (broken partial a complete d) k no_key h))

      module _ (b : Bool) (e : b ≡ lacks (held [] a []) (held [] d [])) where
        same_lacks : lacks (held partial a []) (held complete d []) ≡ b
        same_lacks = lacks_are partial a complete d ∙ sym (lacks_are [] a [] d) ∙ sym e

        pub pass_lacks : b ≡ true → l + 1 ≡ passed_line (held partial a []) (held complete d [])
        pass_lacks f =
            let z : k ≡ no_key = omega (arith, g.last) in
            let y : lines_before d k ≡ sum (counts (held complete d [])) = ap (lines_before d) z ∙ all_before in
            let x : l + 1 ≡ suc (sum (counts (held complete d []))) = omega (arith, g.before, y) in
            x ∙ sym (none_breaks ∙ rw (same_lacks, f) refl)

        pub pass_agree : b ≡ false → 0 ≡ passed_line (held partial a []) (held complete d [])
        pass_agree f = sym (none_breaks ∙ rw (same_lacks, f) refl)

    module _ (h : k < no_key) (n : ℕ) (e : n ≡ counted (break_in partial a complete d k 0)) where
      pass_here : first_some (breaks (held partial a []) (held complete d [])) ≡ first_some (broken partial a complete d k ∷ tab (broken partial a complete d) (k + 1) (no_key - (k + 1)))
      pass_here = g.left ∙ ap first_some (tab_on (broken partial a complete d) k no_key h)

      pub pass_break : 1 ≤ n → l + n ≡ passed_line (held partial a []) (held complete d [])
      unfolding passed_line
      pass_break f = sym (ap (λ (o : Option ℕ). on_some (at_end partial a complete d) o suc) pass_here ∙ go (break_in partial a complete d k 0) e)
        where
          go : (o : Option ℕ) → n ≡ counted o → on_some (at_end partial a complete d) (first_some (later (lines_before d k) o ∷ tab (broken partial a complete d) (k + 1) (no_key - (k + 1)))) suc ≡ l + n
          go none e = absurd (omega (arith, e, f))
          go (some m) e = omega (arith, g.before, e)

      pub pass_on : (c : ℕ) → n ≡ 0 → c ≡ get_or d k 0 → c < 4294967296 → Passing partial a complete d (k + 1) (l + c)
      pass_on c f ec hc = record {
        before = omega (arith, g.before, ec, before_more d k h);
        few = omega (arith, g.few);
        first = omega arith;
        last = omega arith;
        left = pass_here ∙ go (break_in partial a complete d k 0) e;
      }
        where
          go : (o : Option ℕ) → n ≡ counted o → first_some (later (lines_before d k) o ∷ tab (broken partial a complete d) (k + 1) (no_key - (k + 1))) ≡ first_some (tab (broken partial a complete d) (k + 1) (no_key - (k + 1)))
          go none e = refl
          go (some m) e = absurd (omega (arith, e, f))

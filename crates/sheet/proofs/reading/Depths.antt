-- "A leaf has depth 1; a tree is never deeper than 64": in every state that a reading reaches, a row's references are there and less deep.
use mathlib.Core.Path.{◌≡◌, refl, sym, ◌∙◌, ap, subst}
use mathlib.Core.Bool.{Bool, true, false, cond}
use mathlib.Core.List.{List, [], ◌∷◌, ◌++◌}
use Prim.Native.Nat.{ℕ, zero, suc, ◌<◌, ◌≤◌, ◌+◌}
use native.Mathlib.Nat.{le-max_left, le-max_right}
use native.Mathlib.Omega.{arith}
use native.Mathlib.Decide.{dec_lt}
use borrow.Author.Tests.{ltb-false}
use lib.Dec.{ltb}
use lib.ListN.{length, get_or, replicate, length-set, length-append}
use lib.Seq.{get_or-set_same, get_or-set_other}
use Rattle.cedar.proofs.TableLaws.{InN, now', later'}
use Rattle.sheet.specs.Bytes.{same, split}
use Rattle.sheet.specs.Forms.{Mode, tag, items, key_of, refs, row_of, NODE, no_key, POLICY}
use Rattle.sheet.specs.State.{State, empty, lines_of, count, depths_of}
use Rattle.sheet.specs.Sheet.{deepest, depth, fault, more, reads, ending, enough, first_unused, go_on, reading, read, first_unlinked, line_read}
use Rattle.sheet.proofs.reading.Refusals.{entities_then, line_then}
use Rattle.sheet.proofs.reading.Lines.{Passed, passed, History, history_more, no_lines, not_empty}
use Rattle.sheet.proofs.content.PoliciesRead.{all_there_law}
use Rattle.sheet.proofs.running.Uses.{AllBelow, refs_below, lines_other, lines_own, key_below}

-- ---- the states that a reading reaches, of accepted sheets and refused ones

pub data Reached (m : Mode) : State → Type 0 where
  start : Reached m empty
  next : {s : State} (l : List ℕ) → Reached m s → fault s (row_of m l) ≡ 0 → Reached m (more s (row_of m l))

module _ (m : Mode) where
  ends : (s : State) (k : ℕ) → Reached m s → Reached m (ending s k).state
  ends s k h = go (enough s no_key) (ltb (first_unlinked s 0 (lines_of s POLICY)) (count s POLICY)) (ltb (first_unused s.used) (count s NODE)) _ _
    where
      go : (a b c : Bool) (n i : ℕ) → Reached m (cond a (cond b (reads s 5 i) (cond c (reads s 8 n) (reads s 0 0))) (reads s 3 k)).state
      go true true c n i = h
      go true false true n i = h
      go true false false n i = h
      go false b c n i = h

  reaches : (ls : List (List ℕ)) (s : State) (k : ℕ) → Reached m s → Reached m (reading m ls s k).state
  reaches [] s k h = entities_then (λ x. Reached m x.state) s (ending s k) (λ k. h) (ends s k h)
  reaches (l ∷ []) s k h = line_then (λ x. Reached m x.state) l s (cond (same l []) (ending s k) (reads s 3 k)) (λ k. h) (go (same l []))
    where
      go : (b : Bool) → Reached m (cond b (ending s k) (reads s 3 k)).state
      go true = ends s k h
      go false = h
  reaches (l ∷ n ∷ ls) s k h = line_then (λ x. Reached m x.state) l s (line_read s k (row_of m l) (reading m (n ∷ ls))) (λ k. h) (go (fault s (row_of m l)) refl (λ h. reaches (n ∷ ls) (more s (row_of m l)) (suc k) h))
    where
      go : (f : ℕ) → fault s (row_of m l) ≡ f → (Reached m (more s (row_of m l)) → Reached m (reading m (n ∷ ls) (more s (row_of m l)) (suc k)).state) → Reached m (go_on s k (row_of m l) f (reading m (n ∷ ls))).state
      go zero e ih = ih (next l h e)
      go (suc f) e ih = h

  -- where the reading ends, accepted or not
  pub read_reached : (sheet : List ℕ) → Reached m (read m sheet).state
  unfolding read
  read_reached sheet = reaches (split 10 sheet) empty 1 start

-- each line of a state reached was read without fault, over the lines before it
pub reached_history : {m : Mode} {s : State} → Reached m s → History m s
reached_history start = λ k pre r rest e. not_empty pre r rest (sym (no_lines k) ∙ e)
reached_history {m = m} (next {s = s} l h f) = history_more m s l (reached_history h) f

-- ---- rows and their depths, as lists

pub record Deep (k : ℕ) (ls : List (List ℕ)) (ds : List ℕ) : Type 0 where
  pub sizes : length ds ≡ length ls
  pub low : (n : ℕ) → get_or ds n 0 ≤ 64
  pub least : (n : ℕ) → n < length ls → 1 ≤ get_or ds n 0
  pub falls : (n y : ℕ) → InN y (refs k (get_or ls n [])) → (y < length ls) × (get_or ds y 0 < get_or ds n 0)

at_snoc : {A X : Type 0} (l : List A) (a d : A) (n : ℕ) → (n < length l → get_or (l ++ (a ∷ [])) n d ≡ get_or l n d → X) → (n ≡ length l → get_or (l ++ (a ∷ [])) n d ≡ a → X) → (length l < n → get_or (l ++ (a ∷ [])) n d ≡ d → X) → X
at_snoc [] a d zero f g h = g refl refl
at_snoc [] a d (suc n) f g h = h (omega arith) refl
at_snoc (x ∷ l) a d zero f g h = f (omega arith) refl
at_snoc (x ∷ l) a d (suc n) f g h = at_snoc l a d n (λ p q. f (omega arith) q) (λ p q. g (ap suc p) q) (λ p q. h (omega arith) q)

no_refs : (k y : ℕ) {X : Type 0} → InN y (refs k []) → X
unfolding refs
no_refs k y i = elim i [ ]

old_at : (ds : List ℕ) (x y : ℕ) → y < length ds → get_or (ds ++ (x ∷ [])) y 0 ≡ get_or ds y 0
old_at ds x y lt = at_snoc ds x 0 y (λ p q. q) (λ p q. absurd (omega arith)) (λ p q. absurd (omega arith))

one_more : (k : ℕ) (ls : List (List ℕ)) (ds r : List ℕ) (x : ℕ) → Deep k ls ds → 1 ≤ x → x ≤ 64 → ((y : ℕ) → InN y (refs k r) → (y < length ls) × (get_or ds y 0 < x)) → Deep k (ls ++ (r ∷ [])) (ds ++ (x ∷ []))
one_more k ls ds r x h lo hi parts = record { sizes = omega (arith, a, b, c); low = low_more; least = least_more; falls = falls_more }
  where
    a : length ds ≡ length ls
    a = h.sizes

    b : length (ls ++ (r ∷ [])) ≡ length ls + 1
    b = length-append ls (r ∷ [])

    c : length (ds ++ (x ∷ [])) ≡ length ds + 1
    c = length-append ds (x ∷ [])

    low_more : (n : ℕ) → get_or (ds ++ (x ∷ [])) n 0 ≤ 64
    low_more n = at_snoc ds x 0 n (λ p q. let z = h.low n in omega (arith, q, z)) (λ p q. omega (arith, q)) (λ p q. omega (arith, q))

    least_more : (n : ℕ) → n < length (ls ++ (r ∷ [])) → 1 ≤ get_or (ds ++ (x ∷ [])) n 0
    least_more n lt = at_snoc ds x 0 n (λ p q. let z = h.least n (omega (arith, p, a)) in omega (arith, q, z)) (λ p q. omega (arith, q)) (λ p q. absurd (omega (arith, p, a, b, lt)))

    falls_more : (n y : ℕ) → InN y (refs k (get_or (ls ++ (r ∷ [])) n [])) → (y < length (ls ++ (r ∷ []))) × (get_or (ds ++ (x ∷ [])) y 0 < get_or (ds ++ (x ∷ [])) n 0)
    falls_more n y i = at_snoc ls r [] n
        (λ p q. let (u, v) = h.falls n y (subst (λ z. InN y (refs k z)) q i) in let e = old_at ds x y (omega (arith, u, a)) in let f = old_at ds x n (omega (arith, p, a)) in (omega (arith, u, b), omega (arith, v, e, f)))
        (λ p q. let (u, v) = parts y (subst (λ z. InN y (refs k z)) q i) in let e = old_at ds x y (omega (arith, u, a)) in
        at_snoc ds x 0 n (λ p' q'. absurd (omega (arith, p, p', a))) (λ p' q'. (omega (arith, u, b), omega (arith, v, e, q'))) (λ p' q'. absurd (omega (arith, p, p', a))))
        (λ p q. no_refs k y (subst (λ z. InN y (refs k z)) q i))

-- ---- in every state reached

pub record Depths (s : State) : Type 0 where
  pub keys : length s.lines ≡ no_key
  pub columns : length s.depths ≡ no_key
  pub deep : (k : ℕ) → Deep k (lines_of s k) (depths_of s k)

pub in_below : (k : ℕ) (l : List ℕ) (y : ℕ) → AllBelow k l → InN y l → y < k
in_below k [] y h x'' = elim x'' [ ]
in_below k (n ∷ l) y h now' = h.0
in_below k (n ∷ l) y h (later' i) = in_below k l y h.1 i

deepest_above : (s : State) (k : ℕ) (l : List ℕ) (y : ℕ) → InN y l → get_or (depths_of s k) y 0 ≤ deepest s k l
deepest_above s k [] y x' = elim x' [ ]
deepest_above s k (n ∷ l) y now' = le-max_left (get_or (depths_of s k) y 0) (deepest s k l)
deepest_above s k (n ∷ l) y (later' i) = let a = deepest_above s k l y i in let b = le-max_right (get_or (depths_of s k) n 0) (deepest s k l) in omega (arith, a, b)

module _ (m : Mode) (s : State) (l : List ℕ) (h : Depths s) (f : fault s (row_of m l) ≡ 0) where
  new : List ℕ
  new = row_of m l

  now : Passed s (key_of new) new
  unfolding new
  now = passed s (row_of m l) f

  key : key_of new < no_key
  key = key_below s (key_of new) new now

  depths_other : (j : ℕ) → (j ≡ key_of new → ⊥) → depths_of (more s new) j ≡ depths_of s j
  unfolding more
  depths_other j n = get_or-set_other s.depths (key_of new) j (depths_of s (key_of new) ++ (depth s (key_of new) new ∷ [])) [] n

  depths_own : depths_of (more s new) (key_of new) ≡ depths_of s (key_of new) ++ (depth s (key_of new) new ∷ [])
  unfolding more
  depths_own = let c = h.columns in let k = key in get_or-set_same s.depths (key_of new) (depths_of s (key_of new) ++ (depth s (key_of new) new ∷ [])) [] (omega (arith, c, k))

  parts : (y : ℕ) → InN y (refs (key_of new) new) → (y < count s (key_of new)) × (get_or (depths_of s (key_of new)) y 0 < depth s (key_of new) new)
  unfolding refs depth
  parts y i = (
    in_below (count s (key_of new)) (refs (key_of new) new) y (refs_below s (key_of new) (tag new) 0 (items new) (all_there_law s (key_of new) new now.refers)) i,
    let a = deepest_above s (key_of new) (refs (key_of new) new) y i in omega (arith, a),
  )

  own_deep : Deep (key_of new) (lines_of (more s new) (key_of new)) (depths_of (more s new) (key_of new))
  unfolding depth
  own_deep =
      let c = h.keys in let k = key in
      subst (λ z. Deep (key_of new) z (depths_of (more s new) (key_of new))) (sym (lines_own s new (omega (arith, c, k)))) (subst (λ z. Deep (key_of new) (lines_of s (key_of new) ++ (new ∷ [])) z) (sym depths_own)
      (one_more (key_of new) (lines_of s (key_of new)) (depths_of s (key_of new)) new (depth s (key_of new) new) (h.deep (key_of new)) (omega arith) (ltb-false 64 (depth s (key_of new) new) now.shallow) parts))

  other_deep : (k : ℕ) → (k ≡ key_of new → ⊥) → Deep k (lines_of (more s new) k) (depths_of (more s new) k)
  other_deep k n = subst (λ z. Deep k z (depths_of (more s new) k)) (sym (lines_other s new k n)) (subst (λ z. Deep k (lines_of s k) z) (sym (depths_other k n)) (h.deep k))

  depths_more : Depths (more s (row_of m l))
  unfolding new more
  depths_more = record {
    keys = length-set s.lines (key_of new) (lines_of s (key_of new) ++ (new ∷ [])) ∙ h.keys;
    columns = length-set s.depths (key_of new) (depths_of s (key_of new) ++ (depth s (key_of new) new ∷ [])) ∙ h.columns;
    deep = λ k. go k (dec_lt k (key_of new)) (dec_lt (key_of new) k);
  }
    where
      go : (k : ℕ) → Dec (k < key_of new) → Dec (key_of new < k) → Deep k (lines_of (more s new) k) (depths_of (more s new) k)
      go k (yes a) b = other_deep k (λ e. absurd (omega (arith, e, a)))
      go k (no a) (yes b) = other_deep k (λ e. absurd (omega (arith, e, b)))
      go k (no a) (no b) = subst (λ z. Deep z (lines_of (more s new) z) (depths_of (more s new) z)) (omega arith) own_deep

nothing_deep : (k : ℕ) → Deep k (lines_of empty k) (depths_of empty k)
nothing_deep k = go no_key no_key k
  where
    none : (k : ℕ) → Deep k [] []
    none k = record { sizes = refl; low = λ n. omega arith; least = λ n lt. absurd (omega arith); falls = λ n y i. no_refs k y i }

    lines_none : (n j : ℕ) → get_or {A = List (List ℕ)} (replicate n []) j [] ≡ []
    lines_none zero j = refl
    lines_none (suc n) zero = refl
    lines_none (suc n) (suc j) = lines_none n j

    depths_none : (n j : ℕ) → get_or {A = List ℕ} (replicate n []) j [] ≡ []
    depths_none zero j = refl
    depths_none (suc n) zero = refl
    depths_none (suc n) (suc j) = depths_none n j

    go : (a b k : ℕ) → Deep k (get_or {A = List (List ℕ)} (replicate a []) k []) (get_or {A = List ℕ} (replicate b []) k [])
    go a b k = subst (λ z. Deep k z (get_or {A = List ℕ} (replicate b []) k [])) (sym (lines_none a k)) (subst (λ z. Deep k [] z) (sym (depths_none b k)) (none k))

-- EVERY STATE REACHED
pub reached_depths : {m : Mode} {s : State} → Reached m s → Depths s
reached_depths start = record { keys = refl; columns = refl; deep = nothing_deep }
reached_depths {m = m} (next {s = s} l h f) = depths_more m s l (reached_depths h) f

-- The walk back over the blocks of the policies notes their classes and root numbers. Assumes nothing.
use mathlib.Core.Path.{◌≡◌, refl, ap, ◌∙◌}
use mathlib.Core.List.{List}
use Prim.Native.Nat.{ℕ, zero, suc, ◌+◌, ◌-◌, ◌/◌, ◌≤◌, ◌<◌}
use native.Mathlib.Omega.{arith}
use native.Mathlib.Decide.{dec_lt}
use lib.ListN.{length, get_or, take, drop, set, length-set, length-take, length-drop}
use lib.Seq.{take-set-le, get_or-set_same, get_or-set_other, ext_get_or, get_or-take, get_or-drop}
use Rattle.residual.specs.Rows.{ROW, stage_at, start_at}
use Rattle.residual.specs.Classes.{class_number}
use Rattle.residual.specs.declared.Stage.{Stage}
use Rattle.tpe.specs.Run.{class_by}
use Rattle.tpe.proofs.Slices.{stage_log, start_log}
use Rattle.interpret.specs.Lines.{CLASSES, ROOTS, lines_from}

-- the first k classes and root numbers are noted, and nothing else is changed
pub record Noted (E C : ℕ → ℕ) (k : ℕ) (b b' : List ℕ) : Type 0 where
  pub log : take CLASSES b' ≡ take CLASSES b
  pub long : length b' ≡ length b
  pub class : (i : ℕ) → i < k → get_or b' (CLASSES + i) 0 ≡ C i
  pub root : (i : ℕ) → i < k → get_or b' (ROOTS + i) 0 ≡ E (suc i) / ROW - 1
  pub between : (j : ℕ) → CLASSES + k ≤ j → j < ROOTS → get_or b' j 0 ≡ get_or b j 0
  pub after : (j : ℕ) → ROOTS + k ≤ j → get_or b' j 0 ≡ get_or b j 0

-- block i of the log l lies from E i to E (i + 1), and its class has the number C i
module _ (a l : List ℕ) (E C : ℕ → ℕ) (m n : ℕ) (few : n ≤ 64) (top : m ≤ CLASSES) (low : (i : ℕ) → i ≤ n → E i ≤ m)
    (starts : (i : ℕ) → i < n → start_at l (E (suc i)) ≡ E i) (classes : (i : ℕ) → i < n → class_number (class_by a (stage_at l (E (suc i)))) ≡ C i) where
  abbrev next : ℕ → List ℕ → List ℕ
  next k b = set (set b (CLASSES + k) (C k)) (ROOTS + k) (E (suc k) / ROW - 1)

  cut_next : (k t : ℕ) (b : List ℕ) → t ≤ CLASSES → take t (next k b) ≡ take t b
  cut_next k t b h = take-set-le t (set b (CLASSES + k) (C k)) (ROOTS + k) (E (suc k) / ROW - 1) (omega arith) ∙ take-set-le t b (CLASSES + k) (C k) (omega arith)

  long_next : (k : ℕ) (b : List ℕ) → length (next k b) ≡ length b
  long_next k b = length-set (set b (CLASSES + k) (C k)) (ROOTS + k) (E (suc k) / ROW - 1) ∙ length-set b (CLASSES + k) (C k)

  one_more : (k : ℕ) (b b' : List ℕ) → k < n → ROOTS + 64 ≤ length b → Noted E C k (next k b) b' → Noted E C (suc k) b b'
  one_more k b b' h len g = record {
    log = g.log ∙ cut_next k CLASSES b (omega arith);
    long = g.long ∙ long_next k b;
    class = λ i lt. class_at i lt (dec_lt i k);
    root = λ i lt. root_at i lt (dec_lt i k);
    between = λ j p q. g.between j (omega arith) q ∙ other j (omega arith) (omega arith);
    after = λ j p. g.after j (omega arith) ∙ other j (omega arith) (omega arith);
  }
    where
      other : (j : ℕ) → (j ≡ CLASSES + k → ⊥) → (j ≡ ROOTS + k → ⊥) → get_or (next k b) j 0 ≡ get_or b j 0
      other j p q = get_or-set_other (set b (CLASSES + k) (C k)) (ROOTS + k) j (E (suc k) / ROW - 1) 0 q ∙ get_or-set_other b (CLASSES + k) j (C k) 0 p

      class_at : (i : ℕ) → i < suc k → Dec (i < k) → get_or b' (CLASSES + i) 0 ≡ C i
      class_at i lt (yes d) = g.class i d
      class_at i lt (no d) =
          let e : i ≡ k = omega arith in
          let z : get_or b' (CLASSES + k) 0 ≡ C k =
          g.between (CLASSES + k) (omega arith) (omega (arith, few))
          ∙ get_or-set_other (set b (CLASSES + k) (C k)) (ROOTS + k) (CLASSES + k) (E (suc k) / ROW - 1) 0 (omega arith) ∙ get_or-set_same b (CLASSES + k) (C k) 0 (omega (arith, few)) in
          rw e z

      root_at : (i : ℕ) → i < suc k → Dec (i < k) → get_or b' (ROOTS + i) 0 ≡ E (suc i) / ROW - 1
      root_at i lt (yes d) = g.root i d
      root_at i lt (no d) =
          let e : i ≡ k = omega arith in
          let z : get_or b' (ROOTS + k) 0 ≡ E (suc k) / ROW - 1 =
          g.after (ROOTS + k) (omega arith) ∙ get_or-set_same (set b (CLASSES + k) (C k)) (ROOTS + k) (E (suc k) / ROW - 1) 0 (omega (arith, few, length-set b (CLASSES + k) (C k))) in
          rw e z

  pub noted : (k : ℕ) → k ≤ n → (b : List ℕ) → take m b ≡ l → ROOTS + 64 ≤ length b → Noted E C k b (lines_from a k (E k) b)
  unfolding lines_from
  noted zero h b t len = record { log = refl; long = refl; class = λ i lt. absurd (omega arith); root = λ i lt. absurd (omega arith); between = λ j p q. refl; after = λ j p. refl }
  noted (suc k) h b t len =
      let s : start_at b (E (suc k)) ≡ E k = start_log b m (E (suc k)) (low (suc k) h) ∙ ap (λ (x : List ℕ). start_at x (E (suc k))) t ∙ starts k (omega arith) in
      let c : class_number (class_by a (stage_at b (E (suc k)))) ≡ C k =
      ap (λ (x : Stage). class_number (class_by a x)) (stage_log b m (E (suc k)) (low (suc k) h) ∙ ap (λ (x : List ℕ). stage_at x (E (suc k))) t) ∙ classes k (omega arith) in
      rw (s, c) (one_more k b (lines_from a k (E k) (next k b)) (omega arith) len (noted k (omega arith) (next k b) (cut_next k m b top ∙ t) (omega (arith, len, long_next k b))))

-- the words noted, as lists
module _ (E C : ℕ → ℕ) (n : ℕ) (b b' : List ℕ) (few : n ≤ 64) (len : ROOTS + 64 ≤ length b) (g : Noted E C n b b') (xs : List ℕ) (same : length xs ≡ n) where
  part_long : (s : ℕ) → s ≤ ROOTS → length (take n (drop s b')) ≡ length xs
  part_long s h = length-take n (drop s b') ∙ omega (arith, same, len, few, h, g.long, length-drop s b')

  part_at : (s i : ℕ) → i < n → get_or (take n (drop s b')) i 0 ≡ get_or b' (s + i) 0
  part_at s i h = get_or-take n (drop s b') i 0 h ∙ get_or-drop s b' i 0

  pub classes_noted : ((i : ℕ) → i < n → C i ≡ get_or xs i 0) → take n (drop CLASSES b') ≡ xs
  classes_noted f =
      ext_get_or 0 (take n (drop CLASSES b')) xs (part_long CLASSES (omega arith))
      (λ i lt. let h : i < n = omega (arith, lt, same, part_long CLASSES (omega arith)) in part_at CLASSES i h ∙ g.class i h ∙ f i h)

  pub roots_noted : ((i : ℕ) → i < n → E (suc i) / ROW - 1 ≡ get_or xs i 0) → take n (drop ROOTS b') ≡ xs
  roots_noted f =
      ext_get_or 0 (take n (drop ROOTS b')) xs (part_long ROOTS (omega arith))
      (λ i lt. let h : i < n = omega (arith, lt, same, part_long ROOTS (omega arith)) in part_at ROOTS i h ∙ g.root i h ∙ f i h)

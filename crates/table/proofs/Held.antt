-- The state that words hold, key by key: what it is where a store leaves it, and with one line more. Assumes nothing.
use mathlib.Core.Path.{◌≡◌, refl, sym, ap, ◌∙◌}
use mathlib.Core.Bool.{Bool, true, false, cond, ◌||◌}
use mathlib.Core.List.{List, [], ◌∷◌, ◌++◌}
use Prim.Native.Nat.{ℕ, zero, suc, ◌+◌, ◌-◌, ◌≤◌, ◌<◌}
use native.Mathlib.Omega.{arith}
use native.Mathlib.Decide.{ℕ_discrete, dec_lt}
use borrow.Author.Tests.{eq-eqb, ne_eqb, leb-true}
use lib.Dec.{leb, eqb}
use lib.ListN.{length, get_or, drop, set, get_or-eq_default}
use lib.Seq.{drop-drop}
use Rattle.sheet.specs.Forms.{no_key, NODE, TEXT}
use Rattle.sheet.specs.State.{lines_of, depths_of, counts, lengths}
use Rattle.sheet.proofs.reading.Parsed.{all_below, all_below_law}
use Rattle.forms.proofs.Tests.{other}
use Rattle.table.specs.Layout.{TYPEDEPTHS, USES, rows_of, row_in, text_row, text_rows, lines_held, depths_at, depth_bases, depth_base, depths_in, depths_held, held}
use Rattle.table.proofs.Rows.{count_rows, set_tab, zero_plus, lines_of_law, length_lines}
pub use Rattle.table.proofs.Rows.{tab, length_tab, get_d_tab, tab_same, lines_in, lines_tab}

-- ---- the parts of the state, key by key

-- no key, no depths
pub no_depths : (k : ℕ) → no_key ≤ k → depth_base k ≡ 0
unfolding depth_base depth_bases
no_depths k h = get_or-eq_default depth_bases 0 h

pub depths_tab : (w b : List ℕ) → depths_held w b ≡ tab (depths_in w b) 0 no_key
unfolding depths_held depth_bases depth_base
depths_tab w b = refl

module _ (sheet w b : List ℕ) where
  pub depths_of_law : (k : ℕ) → k < no_key → depths_of (held sheet w b) k ≡ depths_in w b k
  unfolding held
  depths_of_law k h = ap (λ (l : List (List ℕ)). get_or l k []) (depths_tab w b) ∙ get_d_tab (depths_in w b) 0 no_key k [] h ∙ ap (depths_in w b) (zero_plus k)

  pub used_of : (held sheet w b).used ≡ depths_at b USES (get_or w NODE 0)
  unfolding held
  used_of = refl

lengths_tab : (f : ℕ → List (List ℕ)) (i n : ℕ) → lengths (tab f i n) ≡ tab (λ (k : ℕ). length (f k)) i n
lengths_tab f i zero = refl
lengths_tab f i (suc n) = ap (λ (l : List ℕ). length (f i) ∷ l) (lengths_tab f (suc i) n)

-- how many lines of each key
abbrev pub counts_in : List ℕ → List ℕ
counts_in w = tab (λ (k : ℕ). get_or w k 0) 0 no_key

pub counts_held : (sheet w b : List ℕ) → counts (held sheet w b) ≡ counts_in w
unfolding held
counts_held sheet w b =
    ap lengths (lines_tab sheet w) ∙ lengths_tab (lines_in sheet w) 0 no_key ∙ tab_same (λ (k : ℕ). length (lines_in sheet w k)) (λ (k : ℕ). get_or w k 0) 0 no_key (λ k l h. length_lines sheet w k)

-- ---- words that hold the same rows

same_counts : (w w' : List ℕ) (k : ℕ) → rows_of w' k ≡ rows_of w k → get_or w' k 0 ≡ get_or w k 0
same_counts w w' k e = sym (count_rows w' k) ∙ ap length e ∙ count_rows w k

pub depths_kept : (b b' : List ℕ) (i n : ℕ) → TYPEDEPTHS ≤ i → drop TYPEDEPTHS b' ≡ drop TYPEDEPTHS b → depths_at b' i n ≡ depths_at b i n
depths_kept b b' i n h e =
    let j : TYPEDEPTHS + (i - TYPEDEPTHS) ≡ i = omega arith in
    rw (← j, ← (drop-drop (i - TYPEDEPTHS) TYPEDEPTHS b'), ← (drop-drop (i - TYPEDEPTHS) TYPEDEPTHS b), e)

low_bases : all_below (λ (i : ℕ). eqb (depth_base i) 0 || leb TYPEDEPTHS (depth_base i)) no_key ≡ true
unfolding depth_base depth_bases
low_bases = refl

depth_base_low : (k : ℕ) → (depth_base k ≡ 0 → ⊥) → TYPEDEPTHS ≤ depth_base k
depth_base_low k h = go (dec_lt k no_key)
  where
    go : Dec (k < no_key) → TYPEDEPTHS ≤ depth_base k
    go (yes l) =
        leb-true TYPEDEPTHS (depth_base k)
        (other (eqb (depth_base k) 0) (leb TYPEDEPTHS (depth_base k)) (ne_eqb (depth_base k) 0 h) (all_below_law (λ (i : ℕ). eqb (depth_base i) 0 || leb TYPEDEPTHS (depth_base i)) no_key k low_bases l))
    go (no l) = absurd (h (no_depths k (omega arith)))

depths_in_kept : (w w' b b' : List ℕ) (k : ℕ) → get_or w' k 0 ≡ get_or w k 0 → drop TYPEDEPTHS b' ≡ drop TYPEDEPTHS b → depths_in w' b' k ≡ depths_in w b k
depths_in_kept w w' b b' k c e = go (ℕ_discrete (depth_base k) 0)
  where
    go : Dec (depth_base k ≡ 0) → depths_in w' b' k ≡ depths_in w b k
    go (yes d) = rw (eq-eqb (depth_base k) 0 d, c)
    go (no d) = rw (ne_eqb (depth_base k) 0 d, c) (depths_kept b b' (depth_base k) (get_or w k 0) (depth_base_low k d) e)

pub held_same : (sheet w w' b b' : List ℕ) → ((k : ℕ) → k < no_key → rows_of w' k ≡ rows_of w k) → drop TYPEDEPTHS b' ≡ drop TYPEDEPTHS b → held sheet w' b' ≡ held sheet w b
unfolding held
held_same sheet w w' b b' r e =
    let l : lines_held sheet w' ≡ lines_held sheet w = lines_tab sheet w'
    ∙ tab_same (lines_in sheet w') (lines_in sheet w) 0 no_key (λ k h m. ap (λ (x : List (List ℕ)). cond (eqb k TEXT) (text_rows sheet x) x) (r k m))
    ∙ sym (lines_tab sheet w) in
    let d : depths_held w' b' ≡ depths_held w b = depths_tab w' b'
    ∙ tab_same (depths_in w' b') (depths_in w b) 0 no_key (λ k h m. depths_in_kept w w' b b' k (same_counts w w' k (r k m)) e) ∙ sym (depths_tab w b) in
    let u : depths_at b' USES (get_or w' NODE 0) ≡ depths_at b USES (get_or w NODE 0) = ap (depths_at b' USES) (same_counts w w' NODE (r NODE (omega arith)))
    ∙ depths_kept b b' USES (get_or w NODE 0) (omega arith) e in
    λ i. record { lines = l i; depths = d i; used = u i }

-- ---- one line more

texts_snoc : (sheet : List ℕ) (rs : List (List ℕ)) (r : List ℕ) → text_rows sheet (rs ++ (r ∷ [])) ≡ text_rows sheet rs ++ (text_row sheet r ∷ [])
texts_snoc sheet [] r = refl
texts_snoc sheet (x ∷ rs) r = ap (λ (l : List (List ℕ)). text_row sheet x ∷ l) (texts_snoc sheet rs r)

module _ (sheet w w' b b' : List ℕ) (k d : ℕ) (r u : List ℕ) (h : k < no_key)
    (own : rows_of w' k ≡ rows_of w k ++ (r ∷ []))
    (other : (j : ℕ) → j < no_key → (j ≡ k → ⊥) → rows_of w' j ≡ rows_of w j)
    (depth_own : depths_in w' b' k ≡ depths_in w b k ++ (d ∷ []))
    (depth_other : (j : ℕ) → j < no_key → (j ≡ k → ⊥) → depths_in w' b' j ≡ depths_in w b j)
    (used : depths_at b' USES (get_or w' NODE 0) ≡ u) where
  line_own : lines_in sheet w' k ≡ lines_in sheet w k ++ (row_in sheet k r ∷ [])
  line_own = rw own (go (eqb k TEXT))
    where
      go : (t : Bool) → cond t (text_rows sheet (rows_of w k ++ (r ∷ []))) (rows_of w k ++ (r ∷ [])) ≡ cond t (text_rows sheet (rows_of w k)) (rows_of w k) ++ (cond t (text_row sheet r) r ∷ [])
      go true = texts_snoc sheet (rows_of w k) r
      go false = refl

  pub held_more : held sheet w' b' ≡ record {
    lines = set (held sheet w b).lines k (lines_of (held sheet w b) k ++ (row_in sheet k r ∷ []));
    depths = set (held sheet w b).depths k (depths_of (held sheet w b) k ++ (d ∷ []));
    used = u;
  }
  unfolding held
  held_more =
      let l : lines_held sheet w' ≡ set (lines_held sheet w) k (lines_of (held sheet w b) k ++ (row_in sheet k r ∷ [])) = lines_tab sheet w'
      ∙ sym (set_tab (lines_in sheet w) (lines_in sheet w') 0 no_key k (lines_of (held sheet w b) k ++ (row_in sheet k r ∷ [])) h
      (ap (lines_in sheet w') (zero_plus k) ∙ line_own ∙ ap (λ (x : List (List ℕ)). x ++ (row_in sheet k r ∷ [])) (sym (lines_of_law sheet w b k h)))
      (λ j a m n. ap (λ (x : List (List ℕ)). cond (eqb j TEXT) (text_rows sheet x) x) (other j m (λ q. n (omega arith)))))
      ∙ ap (λ (x : List (List (List ℕ))). set x k (lines_of (held sheet w b) k ++ (row_in sheet k r ∷ []))) (sym (lines_tab sheet w)) in
      let e : depths_held w' b' ≡ set (depths_held w b) k (depths_of (held sheet w b) k ++ (d ∷ [])) = depths_tab w' b'
      ∙ sym (set_tab (depths_in w b) (depths_in w' b') 0 no_key k (depths_of (held sheet w b) k ++ (d ∷ [])) h
      (ap (depths_in w' b') (zero_plus k) ∙ depth_own ∙ ap (λ (x : List ℕ). x ++ (d ∷ [])) (sym (depths_of_law sheet w b k h)))
      (λ j a m n. depth_other j m (λ q. n (omega arith))))
      ∙ ap (λ (x : List (List ℕ)). set x k (depths_of (held sheet w b) k ++ (d ∷ []))) (sym (depths_tab w b)) in
      λ i. record { lines = l i; depths = e i; used = used i }

-- The policies of a test load are read without refusal, and nothing is refused at its end.
use mathlib.Core.Path.{◌≡◌, refl, sym, ◌∙◌, ap, subst}
use mathlib.Core.Bool.{true, false, cond, ◌&&◌}
use mathlib.Core.Option.{some}
use mathlib.Core.List.{List, [], ◌∷◌, ◌++◌, append_assoc, append-nil}
use Prim.Native.Nat.{ℕ, zero, suc, ◌+◌, ◌*◌, ◌≤◌, ◌<◌}
use native.Mathlib.Omega.{arith}
use lib.Dec.{eqb, leb-zero}
use lib.ListN.{length, get_or, set, length-append}
use lib.Seq.{get_or_at, set_at}
use borrow.Author.Tests.{lt-ltb, le-ltb, lt-leb, ne_eqb}
use Rattle.cedar.specs.Numbered.{mem_n}
use Rattle.sheet.specs.Bytes.{digits}
use Rattle.sheet.specs.Forms.{partial, keys, forms, form_of, slot_at, counted, tag_of, row_of, row_headed, heading, headed, key_of, refs, ascendings, at, one, joined, or_empty, NODE, POLICY}
use Rattle.sheet.specs.Typing.{typed, nodes_under, under_from, gathered}
use Rattle.sheet.specs.State.{State, lines_of, line_at, count}
use Rattle.sheet.specs.Sheet.{found, depth, fault, more, uses, firsts, any_slot, first_unlinked, first_unused}
use Rattle.drawn.specs.TestLoad.{Drawn, nodes_in, root_after, effect_as}
use Rattle.sheet.proofs.answer.DigitsBack.{plain_bytes, index_back, number_plain}
use Rattle.sheet.proofs.answer.LinesBack.{all_plain, unended, items_back, items_show}
use Rattle.forms.specs.Tags.{POLICY_LINE, PERMIT, FORBID}
use Rattle.sheet.proofs.reading.Under.{lower, under_lower, lower_is}
use Rattle.drawn.proofs.Head.{Good, step, load_state}
use Rattle.drawn.proofs.Nodes.{longer, lit_row, var_row, get_row, like_row, rows_in, uses_in, rows_of, uses_of, rows_many, few_nodes}

-- ---- a policy's line

abbrev pub effect_number : ℕ → ℕ
effect_number zero = PERMIT
effect_number (suc e) = FORBID

abbrev pub policy_row : ℕ → ℕ → ℕ → List ℕ
policy_row i e n = POLICY_LINE ∷ i ∷ effect_number e ∷ n ∷ []

abbrev pub policy_line : ℕ → ℕ → ℕ → List ℕ
policy_line i e n = unended "policy" (digits i ∷ effect_as e ∷ digits n ∷ [])

effect_plain : (e : ℕ) → plain_bytes (effect_as e) ≡ true
effect_plain zero = refl
effect_plain (suc e) = refl

pub policy_plain : (i e n : ℕ) → i ≤ 9999 → n ≤ 9999 → all_plain (digits i ∷ effect_as e ∷ digits n ∷ []) ≡ true
policy_plain i e n h g = rw (number_plain i (omega (arith, h)), effect_plain e, number_plain n (omega (arith, g)))

policy_headed : (fs : List (List ℕ)) (f : List ℕ) → all_plain (f ∷ fs) ≡ true → row_of partial (unended "policy" (f ∷ fs)) ≡ row_headed partial POLICY (headed [] (f ∷ fs))
unfolding row_of keys
policy_headed fs f e = λ i. cond (items_show (f ∷ fs) e i && lt-ltb 6 (length (unended "policy" (f ∷ fs))) (omega arith) i) (row_headed partial POLICY (heading POLICY (items_back f fs e i))) []

policy_items_law : (i e n : ℕ) → i ≤ 9999 → n ≤ 9999 → row_headed partial POLICY (headed [] (digits i ∷ effect_as e ∷ digits n ∷ [])) ≡ policy_row i e n
unfolding tag_of form_of forms slot_at counted
policy_items_law i zero n h g = λ j. or_empty POLICY_LINE (joined (one (index_back i h j)) (joined (some (PERMIT ∷ [])) (joined (one (index_back n g j)) (some []))))
policy_items_law i (suc e) n h g = λ j. or_empty POLICY_LINE (joined (one (index_back i h j)) (joined (some (FORBID ∷ [])) (joined (one (index_back n g j)) (some []))))

policy_row_law : (i e n : ℕ) → i ≤ 9999 → n ≤ 9999 → row_of partial (policy_line i e n) ≡ policy_row i e n
policy_row_law i e n h g = policy_headed (effect_as e ∷ digits n ∷ []) (digits i) (policy_plain i e n h g) ∙ policy_items_law i e n h g

-- ---- what is under a root

module _ {A : Type 0} where
  at_next : (l k : List A) (x y d : A) (n : ℕ) → length l ≡ n → get_or (l ++ (x ∷ y ∷ k)) (suc n) d ≡ y
  at_next l k x y d n e = subst (λ n. get_or (l ++ (x ∷ y ∷ k)) (suc n) d ≡ y) e (go l)
    where
      go : (l : List A) → get_or (l ++ (x ∷ y ∷ k)) (suc (length l)) d ≡ y
      go [] = refl
      go (z ∷ l) = go l

  pub at_third : (l k : List A) (x y z d : A) (n : ℕ) → length l ≡ n → get_or (l ++ (x ∷ y ∷ z ∷ k)) (suc (suc n)) d ≡ z
  at_third l k x y z d n e = subst (λ n. get_or (l ++ (x ∷ y ∷ z ∷ k)) (suc (suc n)) d ≡ z) e (go l)
    where
      go : (l : List A) → get_or (l ++ (x ∷ y ∷ z ∷ k)) (suc (suc (length l))) d ≡ z
      go [] = refl
      go (w ∷ l) = go l

  set_third : (l k : List A) (x y z b : A) (n : ℕ) → length l ≡ n → set (l ++ (x ∷ y ∷ z ∷ k)) (suc (suc n)) b ≡ l ++ (x ∷ y ∷ b ∷ k)
  set_third l k x y z b n e = subst (λ n. set (l ++ (x ∷ y ∷ z ∷ k)) (suc (suc n)) b ≡ l ++ (x ∷ y ∷ b ∷ k)) e (go l)
    where
      go : (l : List A) → set (l ++ (x ∷ y ∷ z ∷ k)) (suc (suc (length l))) b ≡ l ++ (x ∷ y ∷ b ∷ k)
      go [] = refl
      go (w ∷ l) = ap (λ r. w ∷ r) (go l)

abbrev rows_under : ℕ → ℕ → List (List ℕ)
rows_under m zero = lit_row 1 ∷ []
rows_under m (suc zero) = lit_row 0 ∷ []
rows_under m (suc (suc k)) = like_row m ∷ get_row m ∷ var_row ∷ []

module _ (s : State) where
  leaf_under : (c v : ℕ) → c < count s NODE → line_at s NODE c ≡ lit_row v → nodes_under s c ≡ lit_row v ∷ []
  unfolding refs slot_at form_of forms
  leaf_under c v lt e = under_lower s c lt ∙ ap (λ r. r ∷ gathered (lower s c) (refs NODE r)) e

  var_under : (c : ℕ) → c < count s NODE → line_at s NODE c ≡ var_row → nodes_under s c ≡ var_row ∷ []
  unfolding refs slot_at form_of forms
  var_under c lt e = under_lower s c lt ∙ ap (λ r. r ∷ gathered (lower s c) (refs NODE r)) e

  get_under : (m : ℕ) → suc m < count s NODE → line_at s NODE m ≡ var_row → line_at s NODE (suc m) ≡ get_row m → nodes_under s (suc m) ≡ get_row m ∷ var_row ∷ []
  unfolding refs slot_at form_of forms
  get_under m lt e f = under_lower s (suc m) lt ∙ ap (λ r. r ∷ gathered (lower s (suc m)) (refs NODE r)) f
      ∙ ap (λ l. get_row m ∷ (l ++ [])) (lower_is s (suc m) m (omega arith) (omega (arith, lt)) ∙ var_under m (omega (arith, lt)) e)

  like_under : (m : ℕ) → suc (suc m) < count s NODE → line_at s NODE m ≡ var_row → line_at s NODE (suc m) ≡ get_row m → line_at s NODE (suc (suc m)) ≡ like_row m → nodes_under s (suc (suc m)) ≡ like_row m ∷ get_row m ∷ var_row ∷ []
  unfolding refs slot_at form_of forms
  like_under m lt e f g = under_lower s (suc (suc m)) lt ∙ ap (λ r. r ∷ gathered (lower s (suc (suc m))) (refs NODE r)) g
      ∙ ap (λ l. like_row m ∷ (l ++ [])) (lower_is s (suc (suc m)) (suc m) (omega arith) (omega (arith, lt)) ∙ get_under m (omega (arith, lt)) e f)

-- ---- policies read before: their trees are small and without slots, their ids lower

abbrev under : List (List ℕ) → ℕ → List (List ℕ)
under ns n = get_or (under_from [] ns) n []

abbrev AllOk : List (List ℕ) → ℕ → List (List ℕ) → Type 0
AllOk ns i [] = Unit {0}
AllOk ns i (r ∷ rs) = (length (under ns (at r 2)) ≤ 3) × (any_slot (under ns (at r 2)) ≡ false) × (at r 0 < i) × AllOk ns i rs

ok_more : (ns : List (List ℕ)) (i : ℕ) (rs : List (List ℕ)) (r : List ℕ) → AllOk ns i rs → length (under ns (at r 2)) ≤ 3 → any_slot (under ns (at r 2)) ≡ false → at r 0 ≡ i → AllOk ns (suc i) (rs ++ (r ∷ []))
ok_more ns i [] r o a b c = (a, b, omega (arith, c), tt)
ok_more ns i (q ∷ rs) r o a b c = (o.0, o.1, (let h = o.2 in omega (arith, h)), ok_more ns i rs r o.3 a b c)

ok_new : (ns : List (List ℕ)) (i : ℕ) (rs : List (List ℕ)) → AllOk ns i rs → mem_n i (firsts rs) ≡ false
ok_new ns i [] o = refl
ok_new ns i (r ∷ rs) o = let h = o.2 in rw (ne_eqb i (at r 0) (λ z. omega (arith, z, h))) (ok_new ns i rs o.3)

module _ (t : List (List ℕ)) (d : List ℕ) (ns : List (List ℕ)) (es us : List ℕ) (ps : List (List ℕ)) (fs : List ℕ) where
  abbrev here : State
  here = load_state t d ns es us ps fs

  ok_uses : (i : ℕ) (rs : List (List ℕ)) → AllOk ns i rs → uses here rs ≤ 3 * length rs
  unfolding nodes_under
  ok_uses i [] o = omega arith
  ok_uses i (r ∷ rs) o = let a = o.0 in let b = ok_uses i rs o.3 in omega (arith, a, b)

  ok_linked : (i n : ℕ) (rs : List (List ℕ)) → AllOk ns i rs → first_unlinked here n rs ≡ n + length rs
  unfolding nodes_under
  ok_linked i n [] o = omega arith
  ok_linked i n (r ∷ rs) o = let b = ok_linked i (suc n) rs o.3 in rw o.1 (b ∙ omega arith)

  policy_passes : (i e n : ℕ) → length ps < 64 → length (nodes_under here n) + uses here ps ≤ 1024 → i < length t → n < length ns → mem_n i (firsts ps) ≡ false → get_or (get_or ns n []) 1 0 ≡ 0 → get_or us n 0 ≡ 0
      → fault here (policy_row i e n) ≡ 0
  unfolding forms form_of slot_at key_of refs ascendings typed found depth fault
  policy_passes i e n a b c f g h j = rw (leb-zero (length t), leb-zero (length ns), lt-leb 64 (length ps) a, le-ltb 1024 (length (nodes_under here n) + uses here ps) b, lt-ltb i (length t) c, lt-ltb n (length ns) f, g, h, j)

  policy_more : (i e n : ℕ) → more here (policy_row i e n) ≡ load_state t d ns es (set us n 2) (ps ++ (policy_row i e n ∷ [])) (fs ++ (1 ∷ []))
  unfolding forms form_of slot_at key_of refs depth more
  policy_more i e n = refl

  -- after the last line
  nothing_left : (i : ℕ) → AllOk ns i ps → first_unused us ≡ length ns → Good here [] here
  nothing_left i o u k = rw (leb-zero (length t), leb-zero (length ns), leb-zero (length ps), ok_linked i 0 ps o, u, le-ltb (0 + length ps) (length ps) (omega arith), le-ltb (length ns) (length ns) (omega arith))

-- ---- the root of a tree that stands at place m

abbrev used_in : ℕ → List ℕ
used_in zero = 2 ∷ []
used_in (suc zero) = 2 ∷ []
used_in (suc (suc k)) = 1 ∷ 1 ∷ 2 ∷ []

few_under : (m k : ℕ) → length (rows_under m k) ≤ 3
few_under m zero = omega arith
few_under m (suc zero) = omega arith
few_under m (suc (suc k)) = omega arith

no_slot : (m k : ℕ) → any_slot (rows_under m k) ≡ false
no_slot m zero = refl
no_slot m (suc zero) = refl
no_slot m (suc (suc k)) = refl

used_many : (k : ℕ) → length (used_in k) ≡ nodes_in k
used_many zero = refl
used_many (suc zero) = refl
used_many (suc (suc k)) = refl

pub root_low : (m k : ℕ) → root_after m k < m + nodes_in k
root_low m zero = omega arith
root_low m (suc zero) = omega arith
root_low m (suc (suc k)) = omega arith

root_bool : (k m : ℕ) (ns a r : List (List ℕ)) → length a ≡ m → ns ≡ a ++ (rows_in m k ++ r) → get_or (get_or ns (root_after m k) []) 1 0 ≡ 0
root_bool zero m ns a r e q = ap (λ l. get_or (get_or l m []) 1 0) q ∙ ap (λ l. get_or l 1 0) (get_or_at a (lit_row 1) r [] m e)
root_bool (suc zero) m ns a r e q = ap (λ l. get_or (get_or l m []) 1 0) q ∙ ap (λ l. get_or l 1 0) (get_or_at a (lit_row 0) r [] m e)
root_bool (suc (suc k)) m ns a r e q = ap (λ l. get_or (get_or l (suc (suc m)) []) 1 0) q ∙ ap (λ l. get_or l 1 0) (at_third a r var_row (get_row m) (like_row m) [] m e)

root_free : (k m : ℕ) (us c v : List ℕ) → length c ≡ m → us ≡ c ++ (uses_in k ++ v) → get_or us (root_after m k) 0 ≡ 0
root_free zero m us c v e q = ap (λ l. get_or l m 0) q ∙ get_or_at c 0 v 0 m e
root_free (suc zero) m us c v e q = ap (λ l. get_or l m 0) q ∙ get_or_at c 0 v 0 m e
root_free (suc (suc k)) m us c v e q = ap (λ l. get_or l (suc (suc m)) 0) q ∙ at_third c v 1 1 0 0 m e

set_root : (k m : ℕ) (c v : List ℕ) → length c ≡ m → set (c ++ (uses_in k ++ v)) (root_after m k) 2 ≡ c ++ (used_in k ++ v)
set_root zero m c v e = set_at c 0 v 2 m e
set_root (suc zero) m c v e = set_at c 0 v 2 m e
set_root (suc (suc k)) m c v e = set_third c v 1 1 0 2 m e

root_used : (k m : ℕ) (us c v : List ℕ) → length c ≡ m → us ≡ c ++ (uses_in k ++ v) → set us (root_after m k) 2 ≡ (c ++ used_in k) ++ v
root_used k m us c v e q = ap (λ l. set l (root_after m k) 2) q ∙ set_root k m c v e ∙ sym (append_assoc c (used_in k) v)

root_under : (s : State) (k m : ℕ) (a r : List (List ℕ)) → length a ≡ m → lines_of s NODE ≡ a ++ (rows_in m k ++ r) → root_after m k < count s NODE → nodes_under s (root_after m k) ≡ rows_under m k
root_under s zero m a r e q lt = leaf_under s m 1 lt (ap (λ l. get_or l m []) q ∙ get_or_at a (lit_row 1) r [] m e)
root_under s (suc zero) m a r e q lt = leaf_under s m 0 lt (ap (λ l. get_or l m []) q ∙ get_or_at a (lit_row 0) r [] m e)
root_under s (suc (suc k)) m a r e q lt = like_under s m lt
    (ap (λ l. get_or l m []) q ∙ get_or_at a var_row (get_row m ∷ like_row m ∷ r) [] m e)
    (ap (λ l. get_or l (suc m) []) q ∙ at_next a (like_row m ∷ r) var_row (get_row m) [] m e)
    (ap (λ l. get_or l (suc (suc m)) []) q ∙ at_third a r var_row (get_row m) (like_row m) [] m e)

-- ---- uses: none is 0

abbrev Used : List ℕ → Type 0
Used [] = Unit {0}
Used (x ∷ l) = (eqb x 0 ≡ false) × Used l

used_append : (k l : List ℕ) → Used k → Used l → Used (k ++ l)
used_append [] l a b = b
used_append (x ∷ k) l a b = (a.0, used_append k l a.1 b)

used_all : (l : List ℕ) → Used l → first_unused l ≡ length l
used_all [] u = refl
used_all (x ∷ l) u = rw u.0 (ap suc (used_all l u.1))

tree_used : (k : ℕ) → Used (used_in k)
tree_used zero = (refl, tt)
tree_used (suc zero) = (refl, tt)
tree_used (suc (suc k)) = (refl, (refl, (refl, tt)))

-- ---- all policies

abbrev pub policy_lines_of : ℕ → ℕ → List Drawn → List (List ℕ)
policy_lines_of i m [] = []
policy_lines_of i m (d ∷ ds) = policy_line (5 + i) d.effect (root_after m d.tree) ∷ policy_lines_of (suc i) (m + nodes_in d.tree) ds

abbrev pub policy_rows_of : ℕ → ℕ → List Drawn → List (List ℕ)
policy_rows_of i m [] = []
policy_rows_of i m (d ∷ ds) = policy_row (5 + i) d.effect (root_after m d.tree) ∷ policy_rows_of (suc i) (m + nodes_in d.tree) ds

abbrev pub used_of : List Drawn → List ℕ
used_of [] = []
used_of (d ∷ ds) = used_in d.tree ++ used_of ds

abbrev pub ones_of : List Drawn → List ℕ
ones_of [] = []
ones_of (d ∷ ds) = 1 ∷ ones_of ds

module _ (t : List (List ℕ)) (d : List ℕ) (ns : List (List ℕ)) (es : List ℕ) where
  ok_at : (us : List ℕ) (ps : List (List ℕ)) (fs : List ℕ) (i e n m k : ℕ) → nodes_under (load_state t d ns es us ps fs) n ≡ rows_under m k → AllOk ns i ps → AllOk ns (suc i) (ps ++ (policy_row i e n ∷ []))
  unfolding nodes_under
  ok_at us ps fs i e n m k un o = ok_more ns i ps (policy_row i e n) o (subst (λ l. length l ≤ 3) (sym un) (few_under m k)) (ap any_slot un ∙ no_slot m k) refl

  -- THE POLICIES: they are read to the end
  pub policies_read : (ds : List Drawn) (i m : ℕ) (a : List (List ℕ)) (c us : List ℕ) (ps : List (List ℕ)) (fs : List ℕ)
      → ns ≡ a ++ rows_of m ds → length a ≡ m → us ≡ c ++ uses_of ds → length c ≡ m → Used c → length ps ≡ i → AllOk ns (5 + i) ps → 5 + i + length ds ≤ length t → i + length ds ≤ 64 → m + 3 * length ds ≤ 900
      → Good (load_state t d ns es (c ++ used_of ds) (ps ++ policy_rows_of i m ds) (fs ++ ones_of ds)) (policy_lines_of i m ds) (load_state t d ns es us ps fs)
  policies_read [] i m a c us ps fs q la p lc u lp o ht hi hm =
      let n : length ns ≡ m = ap length q ∙ ap length (append-nil a) ∙ la in
      let v : first_unused us ≡ length ns = ap first_unused (p ∙ append-nil c) ∙ used_all c u ∙ lc ∙ sym n in
      subst (λ w. Good w [] (load_state t d ns es us ps fs)) (λ j. load_state t d ns es (p j) (sym (append-nil ps) j) (sym (append-nil fs) j)) (nothing_left t d ns es us ps fs (5 + i) o v)
  policies_read (x ∷ ds) i m a c us ps fs q la p lc u lp o ht hi hm =
      let k = x.tree in
      let f = few_nodes k in
      let m2 = m + nodes_in k in
      let n = root_after m k in
      let s = load_state t d ns es us ps fs in
      let r = policy_row (5 + i) x.effect n in
      let low = root_low m k in
      let la2 : length (a ++ rows_in m k) ≡ m2 = longer a (rows_in m k) m (nodes_in k) la (rows_many m k) in
      let lc2 : length (c ++ used_in k) ≡ m2 = longer c (used_in k) m (nodes_in k) lc (used_many k) in
      let q2 : ns ≡ (a ++ rows_in m k) ++ rows_of m2 ds = q ∙ sym (append_assoc a (rows_in m k) (rows_of m2 ds)) in
      let ln : length ns ≡ m2 + length (rows_of m2 ds) = ap length q2 ∙ longer (a ++ rows_in m k) (rows_of m2 ds) m2 (length (rows_of m2 ds)) la2 refl in
      let lt : n < length ns = omega (arith, low, ln) in
      let un : nodes_under s n ≡ rows_under m k = root_under s k m a (rows_of m2 ds) la q lt in
      let few : length (nodes_under s n) ≤ 3 = subst (λ l. length l ≤ 3) (sym un) (few_under m k) in
      let sum = ok_uses t d ns es us ps fs (5 + i) ps o in
      let us2 : set us n 2 ≡ (c ++ used_in k) ++ uses_of ds = root_used k m us c (uses_of ds) lc p in
      let o2 : AllOk ns (suc (5 + i)) (ps ++ (r ∷ [])) = ok_at us ps fs (5 + i) x.effect n m k un o in
      let z : suc (5 + i) ≡ 5 + suc i = omega arith in
      let lps = length-append ps (r ∷ []) in
      let last : load_state t d ns es ((c ++ used_in k) ++ used_of ds) ((ps ++ (r ∷ [])) ++ policy_rows_of (suc i) m2 ds) ((fs ++ (1 ∷ [])) ++ ones_of ds) ≡ load_state t d ns es (c ++ used_of (x ∷ ds)) (ps ++ policy_rows_of i m (x ∷ ds)) (fs ++ ones_of (x ∷ ds))
      = λ j. load_state t d ns es (append_assoc c (used_in k) (used_of ds) j) (append_assoc ps (r ∷ []) (policy_rows_of (suc i) m2 ds) j) (append_assoc fs (1 ∷ []) (ones_of ds) j) in
      subst (λ w. Good w (policy_lines_of i m (x ∷ ds)) s) last (step (policy_line (5 + i) x.effect n) (policy_lines_of (suc i) m2 ds) s (load_state t d ns es (set us n 2) (ps ++ (r ∷ [])) (fs ++ (1 ∷ []))) r refl
      (policy_row_law (5 + i) x.effect n (omega (arith, hi)) (omega (arith, hm, low, f)))
      (policy_passes t d ns es us ps fs (5 + i) x.effect n (omega (arith, lp, hi)) (omega (arith, few, sum, lp, hi)) (omega (arith, ht)) lt (ok_new ns (5 + i) ps o)
      (root_bool k m ns a (rows_of m2 ds) la q) (root_free k m us c (uses_of ds) lc p))
      (policy_more t d ns es us ps fs (5 + i) x.effect n)
      (policies_read ds (suc i) m2 (a ++ rows_in m k) (c ++ used_in k) (set us n 2) (ps ++ (r ∷ [])) (fs ++ (1 ∷ [])) q2 la2 us2 lc2 (used_append c (used_in k) u (tree_used k)) (omega (arith, lps, lp))
      (subst (λ j. AllOk ns j (ps ++ (r ∷ []))) z o2) (omega (arith, ht)) (omega (arith, hi)) (omega (arith, hm, f))))

-- The nodes of a test load are read without refusal.
use mathlib.Core.Path.{◌≡◌, refl, sym, ap, subst}
use mathlib.Core.List.{List, [], ◌∷◌, ◌++◌, append_assoc, append-nil}
use Prim.Native.Nat.{ℕ, zero, suc, ◌+◌, ◌*◌, ◌≤◌, ◌<◌}
use native.Mathlib.Omega.{arith}
use lib.Dec.{leb-zero}
use lib.ListN.{length, get_or, set, length-append}
use lib.Seq.{get_or_at, set_at}
use borrow.Author.Tests.{lt-ltb, lt-leb, le-leb}
use Rattle.sheet.specs.Ascii.{ascii}
use Rattle.sheet.specs.Bytes.{digits}
use Rattle.sheet.specs.Forms.{partial, keys, forms, form_of, slot_at, counted, tag_of, row_of, key_of, refs, ascendings, mark}
use Rattle.sheet.specs.Typing.{fits_in, typed, nodes_under}
use Rattle.sheet.specs.State.{State}
use Rattle.sheet.specs.Sheet.{found, depth, fault, more}
use Rattle.drawn.specs.TestLoad.{Drawn, nodes_in}
use Rattle.forms.specs.Tags.{LIT, VAR, LIKE, GET, PART_C}
use Rattle.sheet.proofs.answer.LinesBack.{unended}
use Rattle.sheet.proofs.answer.RowsBack.{node_back}
use Rattle.drawn.proofs.Head.{Good, step, load_state}

pub one_longer : {A : Type 0} (l : List A) (x : A) (n : ℕ) → length l ≡ n → length (l ++ (x ∷ [])) ≡ suc n
one_longer l x n e = let a = length-append l (x ∷ []) in omega (arith, a, e)

-- ---- one node

abbrev pub lit_row : ℕ → List ℕ
lit_row v = LIT ∷ 0 ∷ v ∷ []

abbrev pub var_row : List ℕ
var_row = VAR ∷ 3 ∷ PART_C ∷ []

abbrev pub get_row : ℕ → List ℕ
get_row m = GET ∷ 1 ∷ m ∷ 4 ∷ []

abbrev pub like_row : ℕ → List ℕ
like_row m = LIKE ∷ 0 ∷ suc m ∷ mark ∷ []

module _ (t : List (List ℕ)) (d : List ℕ) (five : 4 < length t) where
  abbrev nodes : List (List ℕ) → List ℕ → List ℕ → State
  nodes ns es us = load_state t d ns es us [] []

  lit_true : (ns : List (List ℕ)) (es us : List ℕ) → length ns < 1024 → fault (nodes ns es us) (lit_row 1) ≡ 0
  unfolding forms form_of slot_at key_of refs ascendings fits_in nodes_under typed found depth fault
  lit_true ns es us h = rw (leb-zero (length t), lt-leb 1024 (length ns) h)

  lit_false : (ns : List (List ℕ)) (es us : List ℕ) → length ns < 1024 → fault (nodes ns es us) (lit_row 0) ≡ 0
  unfolding forms form_of slot_at key_of refs ascendings fits_in nodes_under typed found depth fault
  lit_false ns es us h = rw (leb-zero (length t), lt-leb 1024 (length ns) h)

  var_passes : (ns : List (List ℕ)) (es us : List ℕ) → length ns < 1024 → fault (nodes ns es us) var_row ≡ 0
  unfolding forms form_of slot_at key_of refs ascendings fits_in nodes_under typed found depth fault
  var_passes ns es us h = rw (leb-zero (length t), lt-leb 1024 (length ns) h)

  get_passes : (ns : List (List ℕ)) (es us : List ℕ) (m : ℕ) → length ns < 1024 → m < length ns → get_or ns m [] ≡ var_row → get_or es m 0 ≡ 1 → get_or us m 0 ≡ 0 → fault (nodes ns es us) (get_row m) ≡ 0
  unfolding forms form_of slot_at key_of refs ascendings fits_in nodes_under typed found depth fault
  get_passes ns es us m h l a b c = rw (leb-zero (length t), lt-leb 1024 (length ns) h, lt-ltb 4 (length t) five, lt-ltb m (length ns) l, a, b, c)

  like_passes : (ns : List (List ℕ)) (es us : List ℕ) (m : ℕ) → length ns < 1024 → suc m < length ns → get_or ns (suc m) [] ≡ get_row m → get_or es (suc m) 0 ≡ 2 → get_or us (suc m) 0 ≡ 0 → fault (nodes ns es us) (like_row m) ≡ 0
  unfolding forms form_of slot_at key_of refs ascendings fits_in nodes_under typed found depth fault
  like_passes ns es us m h l a b c = rw (leb-zero (length t), lt-leb 1024 (length ns) h, lt-ltb (suc m) (length ns) l, a, b, c)

  leaf_more : (ns : List (List ℕ)) (es us : List ℕ) (v : ℕ) → more (nodes ns es us) (lit_row v) ≡ nodes (ns ++ (lit_row v ∷ [])) (es ++ (1 ∷ [])) (us ++ (0 ∷ []))
  unfolding forms form_of slot_at key_of refs depth more
  leaf_more ns es us v = refl

  var_more : (ns : List (List ℕ)) (es us : List ℕ) → more (nodes ns es us) var_row ≡ nodes (ns ++ (var_row ∷ [])) (es ++ (1 ∷ [])) (us ++ (0 ∷ []))
  unfolding forms form_of slot_at key_of refs depth more
  var_more ns es us = refl

  get_more : (ns : List (List ℕ)) (es us vs : List ℕ) (m : ℕ) → get_or es m 0 ≡ 1 → set us m 1 ≡ vs → more (nodes ns es us) (get_row m) ≡ nodes (ns ++ (get_row m ∷ [])) (es ++ (2 ∷ [])) (vs ++ (0 ∷ []))
  unfolding forms form_of slot_at key_of refs depth more
  get_more ns es us vs m a b = rw (a, b)

  like_more : (ns : List (List ℕ)) (es us vs : List ℕ) (m : ℕ) → get_or es (suc m) 0 ≡ 2 → set us (suc m) 1 ≡ vs → more (nodes ns es us) (like_row m) ≡ nodes (ns ++ (like_row m ∷ [])) (es ++ (3 ∷ [])) (vs ++ (0 ∷ []))
  unfolding forms form_of slot_at key_of refs depth more
  like_more ns es us vs m a b = rw (a, b)

-- ---- lines

abbrev pub tree_lines_of : ℕ → ℕ → List (List ℕ)
tree_lines_of n zero = ascii "node=0,lit,1" ∷ []
tree_lines_of n (suc zero) = ascii "node=0,lit,0" ∷ []
tree_lines_of n (suc (suc k)) =
    ascii "node=3,var,c"
    ∷ unended "node" (digits 1 ∷ ascii "get" ∷ digits n ∷ digits 4 ∷ [])
    ∷ unended "node" (digits 0 ∷ ascii "like" ∷ digits (suc n) ∷ ascii "*" ∷ []) ∷ []

lit_true_row : row_of partial (ascii "node=0,lit,1") ≡ lit_row 1
unfolding keys forms form_of slot_at counted tag_of row_of
lit_true_row = refl

lit_false_row : row_of partial (ascii "node=0,lit,0") ≡ lit_row 0
unfolding keys forms form_of slot_at counted tag_of row_of
lit_false_row = refl

var_row_law : row_of partial (ascii "node=3,var,c") ≡ var_row
unfolding keys forms form_of slot_at counted tag_of row_of
var_row_law = refl

get_row_law : (m : ℕ) → m ≤ 9999 → row_of partial (unended "node" (digits 1 ∷ ascii "get" ∷ digits m ∷ digits 4 ∷ [])) ≡ get_row m
unfolding forms form_of slot_at counted tag_of
get_row_law m h = node_back partial (get_row m) (rw (le-leb m 9999 h))

like_row_law : (m : ℕ) → suc m ≤ 9999 → row_of partial (unended "node" (digits 0 ∷ ascii "like" ∷ digits (suc m) ∷ ascii "*" ∷ [])) ≡ like_row m
unfolding forms form_of slot_at counted tag_of
like_row_law m h = node_back partial (like_row m) (rw (le-leb (suc m) 9999 h))

-- ---- one tree

abbrev pub rows_in : ℕ → ℕ → List (List ℕ)
rows_in m zero = lit_row 1 ∷ []
rows_in m (suc zero) = lit_row 0 ∷ []
rows_in m (suc (suc k)) = var_row ∷ get_row m ∷ like_row m ∷ []

abbrev pub depths_in : ℕ → List ℕ
depths_in zero = 1 ∷ []
depths_in (suc zero) = 1 ∷ []
depths_in (suc (suc k)) = 1 ∷ 2 ∷ 3 ∷ []

-- the uses after the nodes: its root has none
abbrev pub uses_in : ℕ → List ℕ
uses_in zero = 0 ∷ []
uses_in (suc zero) = 0 ∷ []
uses_in (suc (suc k)) = 1 ∷ 1 ∷ 0 ∷ []

pub thrice : {A : Type 0} (l : List A) (x y z : A) → ((l ++ (x ∷ [])) ++ (y ∷ [])) ++ (z ∷ []) ≡ l ++ (x ∷ y ∷ z ∷ [])
thrice [] x y z = refl
thrice (w ∷ l) x y z = ap (λ r. w ∷ r) (thrice l x y z)

module _ (t : List (List ℕ)) (d : List ℕ) (five : 4 < length t) where
  tree_read : {w : State} (k m : ℕ) (ns : List (List ℕ)) (es us : List ℕ) (ls : List (List ℕ)) → length ns ≡ m → length es ≡ m → length us ≡ m → m < 1000
      → Good w ls (nodes t d five (ns ++ rows_in m k) (es ++ depths_in k) (us ++ uses_in k)) → Good w (tree_lines_of m k ++ ls) (nodes t d five ns es us)
  tree_read {w} zero m ns es us ls a b c h g =
      step (ascii "node=0,lit,1") ls (nodes t d five ns es us) (nodes t d five (ns ++ (lit_row 1 ∷ [])) (es ++ (1 ∷ [])) (us ++ (0 ∷ []))) (lit_row 1) refl lit_true_row
      (lit_true t d five ns es us (omega (arith, a, h))) (leaf_more t d five ns es us 1) g
  tree_read {w} (suc zero) m ns es us ls a b c h g =
      step (ascii "node=0,lit,0") ls (nodes t d five ns es us) (nodes t d five (ns ++ (lit_row 0 ∷ [])) (es ++ (1 ∷ [])) (us ++ (0 ∷ []))) (lit_row 0) refl lit_false_row
      (lit_false t d five ns es us (omega (arith, a, h))) (leaf_more t d five ns es us 0) g
  tree_read {w} (suc (suc k)) m ns es us ls a b c h g =
      let getLine = unended "node" (digits 1 ∷ ascii "get" ∷ digits m ∷ digits 4 ∷ []) in
      let likeLine = unended "node" (digits 0 ∷ ascii "like" ∷ digits (suc m) ∷ ascii "*" ∷ []) in
      let ns1 = ns ++ (var_row ∷ []) in
      let es1 = es ++ (1 ∷ []) in
      let us1 = us ++ (0 ∷ []) in
      let ns2 = ns1 ++ (get_row m ∷ []) in
      let es2 = es1 ++ (2 ∷ []) in
      let us2 = (us ++ (1 ∷ [])) ++ (0 ∷ []) in
      let ns3 = ns2 ++ (like_row m ∷ []) in
      let es3 = es2 ++ (3 ∷ []) in
      let us3 = ((us ++ (1 ∷ [])) ++ (1 ∷ [])) ++ (0 ∷ []) in
      let n1 : length ns1 ≡ suc m = one_longer ns var_row m a in
      let e1 : length es1 ≡ suc m = one_longer es 1 m b in
      let u1 : length (us ++ (1 ∷ [])) ≡ suc m = one_longer us 1 m c in
      let n2 : length ns2 ≡ suc (suc m) = one_longer ns1 (get_row m) (suc m) n1 in
      let last : Good w ls (nodes t d five ns3 es3 us3) = subst (Good w ls) (sym (λ i. nodes t d five (thrice ns var_row (get_row m) (like_row m) i) (thrice es 1 2 3 i) (thrice us 1 1 0 i))) g in
      step (ascii "node=3,var,c") (getLine ∷ likeLine ∷ ls) (nodes t d five ns es us) (nodes t d five ns1 es1 us1) var_row refl var_row_law (var_passes t d five ns es us (omega (arith, a, h))) (var_more t d five ns es us)
      (step getLine (likeLine ∷ ls) (nodes t d five ns1 es1 us1) (nodes t d five ns2 es2 us2) (get_row m) refl (get_row_law m (omega (arith, h)))
      (get_passes t d five ns1 es1 us1 m (omega (arith, n1, h)) (omega (arith, n1)) (get_or_at ns var_row [] [] m a) (get_or_at es 1 [] 0 m b) (get_or_at us 0 [] 0 m c))
      (get_more t d five ns1 es1 us1 (us ++ (1 ∷ [])) m (get_or_at es 1 [] 0 m b) (set_at us 0 [] 1 m c))
      (step likeLine ls (nodes t d five ns2 es2 us2) (nodes t d five ns3 es3 us3) (like_row m) refl (like_row_law m (omega (arith, h)))
      (like_passes t d five ns2 es2 us2 m (omega (arith, n2, h)) (omega (arith, n2)) (get_or_at ns1 (get_row m) [] [] (suc m) n1) (get_or_at es1 2 [] 0 (suc m) e1) (get_or_at (us ++ (1 ∷ [])) 0 [] 0 (suc m) u1))
      (like_more t d five ns2 es2 us2 ((us ++ (1 ∷ [])) ++ (1 ∷ [])) m (get_or_at es1 2 [] 0 (suc m) e1) (set_at (us ++ (1 ∷ [])) 0 [] 1 (suc m) u1))
      last))

-- ---- all trees

abbrev pub node_lines_of : ℕ → List Drawn → List (List ℕ)
node_lines_of m [] = []
node_lines_of m (d ∷ ds) = tree_lines_of m d.tree ++ node_lines_of (m + nodes_in d.tree) ds

abbrev pub rows_of : ℕ → List Drawn → List (List ℕ)
rows_of m [] = []
rows_of m (d ∷ ds) = rows_in m d.tree ++ rows_of (m + nodes_in d.tree) ds

abbrev pub depths_of : List Drawn → List ℕ
depths_of [] = []
depths_of (d ∷ ds) = depths_in d.tree ++ depths_of ds

abbrev pub uses_of : List Drawn → List ℕ
uses_of [] = []
uses_of (d ∷ ds) = uses_in d.tree ++ uses_of ds

pub rows_many : (m k : ℕ) → length (rows_in m k) ≡ nodes_in k
rows_many m zero = refl
rows_many m (suc zero) = refl
rows_many m (suc (suc k)) = refl

depths_many : (k : ℕ) → length (depths_in k) ≡ nodes_in k
depths_many zero = refl
depths_many (suc zero) = refl
depths_many (suc (suc k)) = refl

pub uses_many : (k : ℕ) → length (uses_in k) ≡ nodes_in k
uses_many zero = refl
uses_many (suc zero) = refl
uses_many (suc (suc k)) = refl

pub few_nodes : (k : ℕ) → nodes_in k ≤ 3
few_nodes zero = omega arith
few_nodes (suc zero) = omega arith
few_nodes (suc (suc k)) = omega arith

pub longer : {A : Type 0} (l k : List A) (m n : ℕ) → length l ≡ m → length k ≡ n → length (l ++ k) ≡ m + n
longer l k m n a b = let c = length-append l k in omega (arith, a, b, c)

module _ (t : List (List ℕ)) (d : List ℕ) (five : 4 < length t) where
  -- THE NODES: what follows them is read from the state after them
  pub nodes_read : {w : State} (ds : List Drawn) (m : ℕ) (ns : List (List ℕ)) (es us : List ℕ) (ls : List (List ℕ)) → length ns ≡ m → length es ≡ m → length us ≡ m → m + 3 * length ds ≤ 900
      → Good w ls (load_state t d (ns ++ rows_of m ds) (es ++ depths_of ds) (us ++ uses_of ds) [] []) → Good w (node_lines_of m ds ++ ls) (load_state t d ns es us [] [])
  nodes_read {w} [] m ns es us ls a b c h g = subst (Good w ls) (λ i. load_state t d (append-nil ns i) (append-nil es i) (append-nil us i) [] []) g
  nodes_read {w} (x ∷ ds) m ns es us ls a b c h g =
      let k = x.tree in
      let f = few_nodes k in
      let m2 = m + nodes_in k in
      let ns2 = ns ++ rows_in m k in
      let es2 = es ++ depths_in k in
      let us2 = us ++ uses_in k in
      let last : Good w ls (load_state t d (ns2 ++ rows_of m2 ds) (es2 ++ depths_of ds) (us2 ++ uses_of ds) [] []) =
      subst (Good w ls) (sym (λ i. load_state t d (append_assoc ns (rows_in m k) (rows_of m2 ds) i) (append_assoc es (depths_in k) (depths_of ds) i) (append_assoc us (uses_in k) (uses_of ds) i) [] [])) g in
      let rest : Good w (node_lines_of m2 ds ++ ls) (load_state t d ns2 es2 us2 [] []) =
      nodes_read ds m2 ns2 es2 us2 ls (longer ns (rows_in m k) m (nodes_in k) a (rows_many m k)) (longer es (depths_in k) m (nodes_in k) b (depths_many k)) (longer us (uses_in k) m (nodes_in k) c (uses_many k)) (omega (arith, h, f)) last in
      subst (λ z. Good w z (load_state t d ns es us [] [])) (sym (append_assoc (tree_lines_of m k) (node_lines_of m2 ds) ls))
      (tree_read t d five k m ns es us (node_lines_of m2 ds ++ ls) a b c (omega (arith, h)) rest)

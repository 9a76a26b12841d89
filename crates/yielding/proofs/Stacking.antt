-- The rows of residuals in turn: a residual's rows leave one yield more on the stack, which is what `eval` gives its tree. Assumes nothing.
use mathlib.Core.Path.{◌≡◌, refl, sym, ◌∙◌, ap, ap₂, subst}
use mathlib.Core.Bool.{true}
use mathlib.Core.List.{List, [], ◌∷◌, ◌++◌, append_assoc, append-nil}
use Prim.Native.Nat.{ℕ, suc, ◌+◌, ◌-◌, ◌*◌, ◌/◌, ◌≤◌}
use native.Mathlib.Omega.{arith}
use borrow.Author.Tests.{ne_eqb}
use lib.ListN.{length, get_or, take, length-append}
use lib.Seq.{take-append_seam, drop-append_seam, get_or-append-add}
use Rattle.std.specs.Prelude.{Ok, Err}
use Rattle.words.proofs.Logs.{appended_is}
use Rattle.cedar.specs.Types.{Ty}
use Rattle.cedar.specs.Value.{Value as Content, Result}
use Rattle.cedar.specs.Residual.{Node, Expr, lit, err}
use Rattle.cedar.specs.Runs.{result_class}
use Rattle.cedar.specs.Entities.{Env}
use Rattle.cedar.specs.Evaluate.{eval}
use Rattle.cedar.specs.Table.{At}
use Rattle.cedar.specs.Reads.{Reads, xlit, xerr}
use Rattle.cedar.proofs.ReadsLaws.{Keeps}
use Rattle.sheet.specs.Forms.{tag, NODE}
use Rattle.table.specs.Layout.{rows_of, MADE}
use Rattle.residual.specs.Rows.{ROW, ROW_TYPE, VALUE_ROW, ERROR_ROW, LEFT_ROW, lit_row, err_row, left_row}
use Rattle.residual.specs.Classes.{class_number}
use Rattle.residual.specs.Trees.{Res, rlit, rerr, rleft, Ress, rnil, rcons, flat, flats, count_res, left_tree, suits, ty_at, tree_of, trees_of, Whole, whole_left, Wholes, whole_more}
use Rattle.residual.proofs.Meaning.{trees_count, suited}
use Rattle.tpe.proofs.Reach.{reach}
use Rattle.tpe.proofs.Stands.{Hold}
use Rattle.evaluator.specs.Run.{failed, Yield, E, class_of}
use Rattle.evaluator.proofs.Evaluates.{class_is}
use Rattle.evaluator.proofs.Gives.{Says, says_value, says_error, Stand}
use Rattle.evaluator.proofs.Steps.{sch, same_node}
use Rattle.carried.specs.Carry.{number_there}
use Rattle.yielding.specs.Yields.{yield_row, rows_back, start_of, node_by, node_of, Stacked, stacked, leaves, turn_of, ran_of, yield_in, classes_in}
use Rattle.yielding.proofs.Turning.{back_zero}
use Rattle.yielding.proofs.Accounts.{takes, makes, takes_least}
use Rattle.yielding.proofs.Getting.{Gets}
use Rattle.yielding.proofs.Working.{Slot, yield_rows, row_four, rows_long, takes_sum, makes_sum, eval_each, Say, say_none, say_more, ReadEach, read_none, read_more, Work, left_work}

-- ---- where the operands of a node begin

-- the words of the residuals together
abbrev pub words_sum : List Slot → ℕ
words_sum [] = 0
words_sum (p ∷ ps) = p.words + words_sum ps

-- each residual has a row
pub data Rowed : List Slot → Type 0 where
  rowed_none : Rowed []
  rowed_more : {p : Slot} {ps : List Slot} → 4 ≤ p.words → Rowed ps → Rowed (p ∷ ps)

type_word : (y : Yield) (w : ℕ) (q : List ℕ) → get_or (yield_row y w ++ q) 3 0 ≡ w
type_word (Ok v) w q = refl
type_word (Err e) w q = refl

one_back : (l : List ℕ) (j m w : ℕ) → get_or l (ROW * j + ROW_TYPE) 0 ≡ w → 4 ≤ w → rows_back l (suc j) (m + w) ≡ rows_back l j m
unfolding rows_back
one_back l j m w e h =
    let z : m + w - w ≡ m = omega arith in
    rw (ne_eqb (m + w) 0 (omega (arith, h)), e, z)

rows_back_law : (ps : List Slot) → Rowed ps → (pre post l : List ℕ) (j m : ℕ) → l ≡ pre ++ (yield_rows ps ++ post) → length pre ≡ 4 * j → rows_back l (j + length ps) (m + words_sum ps) ≡ rows_back l j m
unfolding yield_rows
rows_back_law [] rowed_none pre post l j m el ep = ap₂ (rows_back l) (omega arith) (omega arith)
rows_back_law (p ∷ ps) (rowed_more h t) pre post l j m el ep =
    let row : List ℕ = yield_row p.yield p.words in
    let el₂ : l ≡ (pre ++ row) ++ (yield_rows ps ++ post) = el ∙ ap (λ (q : List ℕ). pre ++ q) (append_assoc row (yield_rows ps) post) ∙ sym (append_assoc pre row (yield_rows ps ++ post)) in
    let four : length row ≡ 4 = sym (ap length (append-nil row)) ∙ row_four p.yield p.words [] in
    let ep₂ : length (pre ++ row) ≡ 4 * (j + 1) = length-append pre row ∙ omega (arith, ep, four) in
    let word : get_or l (4 * j + 3) 0 ≡ p.words = ap (λ (q : List ℕ). get_or q (4 * j + 3) 0) el ∙ ap (λ (x : ℕ). get_or (pre ++ ((row ++ yield_rows ps) ++ post)) (x + 3) 0) (sym ep)
    ∙ get_or-append-add pre ((row ++ yield_rows ps) ++ post) 3 0 ∙ ap (λ (q : List ℕ). get_or q 3 0) (append_assoc row (yield_rows ps) post) ∙ type_word p.yield p.words (yield_rows ps ++ post) in
    let one : j + 1 ≡ suc j = omega arith in
    ap₂ (rows_back l) (omega arith) (omega arith) ∙ rows_back_law ps t (pre ++ row) post l (j + 1) (m + p.words) el₂ ep₂ ∙ ap (λ (i : ℕ). rows_back l i (m + p.words)) one ∙ one_back l j m p.words word h

-- the operands of a node whose residual has as many words as theirs, and a row more
pub start_is : (ps : List Slot) → Rowed ps → (l : List ℕ) (j : ℕ) → length l ≡ 4 * j → start_of (l ++ yield_rows ps) (words_sum ps + 4) ≡ length l
start_is ps h l j e =
    let n : length (l ++ yield_rows ps) / 4 ≡ j + length ps = let a = length-append l (yield_rows ps) in let b = rows_long ps in omega (arith, a, b, e) in
    let m : words_sum ps + 4 - 4 ≡ 0 + words_sum ps = omega arith in
    let z : rows_back (l ++ yield_rows ps) (length (l ++ yield_rows ps) / 4) (words_sum ps + 4 - 4) ≡ j =
    ap₂ (rows_back (l ++ yield_rows ps)) n m ∙ rows_back_law ps h l [] (l ++ yield_rows ps) j 0 (ap (λ (q : List ℕ). l ++ q) (sym (append-nil (yield_rows ps)))) e ∙ back_zero (l ++ yield_rows ps) j 0 refl in
    ap (λ (x : ℕ). 4 * x) z ∙ sym e

-- ---- one row of the residuals

module _ (sheet : List ℕ) (g : ℕ) (ns : List ℕ) where
  turn_lit : (v y : ℕ) (rest a l : List ℕ) → length l + 4 ≤ 16384 → ran_of sheet g ns (lit_row v y ++ rest) a l ≡ ran_of sheet g ns rest a (l ++ lit_row (number_there g ns v) 4)
  unfolding ran_of turn_of
  turn_lit v y rest a l h = ap (ran_of sheet g ns rest a) (appended_is l (lit_row (number_there g ns v) 4) h)

  turn_err : (y : ℕ) (rest a l : List ℕ) → length l + 4 ≤ 16384 → ran_of sheet g ns (err_row y ++ rest) a l ≡ ran_of sheet g ns rest a (l ++ err_row 4)
  unfolding ran_of turn_of
  turn_err y rest a l h = ap (ran_of sheet g ns rest a) (appended_is l (err_row 4) h)

  turn_left : (n k m y : ℕ) (rest a l : List ℕ) (ps : List Slot) → start_of (l ++ yield_rows ps) (m + 4) ≡ length l → length l + 4 ≤ 16384
      → ran_of sheet g ns (left_row n k m y ++ rest) a (l ++ yield_rows ps)
      ≡ ran_of sheet g ns rest (node_of sheet a (l ++ yield_rows ps) (length l) n k).words (l ++ yield_row (node_of sheet a (l ++ yield_rows ps) (length l) n k).yield (m + 4))
  unfolding ran_of turn_of leaves
  turn_left n k m y rest a l ps e h =
      let o : E = node_of sheet a (l ++ yield_rows ps) (length l) n k in
      let z : LEFT_ROW + k - LEFT_ROW ≡ k = omega arith in
      let back : take (length l) (l ++ yield_rows ps) ≡ l = take-append_seam l (yield_rows ps) in
      let four : length (yield_row o.yield (m + 4)) ≡ 4 = sym (ap length (append-nil (yield_row o.yield (m + 4)))) ∙ row_four o.yield (m + 4) [] in
      rw (ne_eqb (LEFT_ROW + k) VALUE_ROW (omega arith), ne_eqb (LEFT_ROW + k) ERROR_ROW (omega arith), e, z, back)
      (ap (ran_of sheet g ns rest o.words) (appended_is l (yield_row o.yield (m + 4)) (omega (arith, h, four))))

-- ---- a residual

-- the literals of the residuals are numbers of K's values, each of which has a number there
abbrev pub Maps : List Content → (ℕ → ℕ) → List Content → Type 0
Maps K f C = (v : ℕ) (x : Content) → At K v x → At C (f v) x

module _ (sheet a₀ : List ℕ) (G : Env) (ts : List Ty) (K : List Content) (g : ℕ) (ns : List ℕ) where
  abbrev nodes : List (List ℕ)
  nodes = rows_of a₀ NODE

  abbrev tree : Res → Node ℕ
  tree r = tree_of ts nodes r

  abbrev trees : Ress → List (Node ℕ)
  trees rs = trees_of ts nodes rs

  pub record Block (C : List Content) (a l : List ℕ) (r : Res) (X : Expr) : Type 0 where
    pub words : List ℕ
    pub yield : Yield
    pub contents : List Content
    pub keeps : Keeps C contents
    pub stand : Stand sheet a₀ G contents words
    pub says : Says contents yield (eval (sch sheet a₀ G) G X)
    pub top : reach words + 2 ≤ reach a + takes (tree r)
    pub few : get_or words MADE 0 ≤ get_or a MADE 0 + makes (tree r)
    pub run : (rest : List ℕ) → ran_of sheet g ns (flat r ++ rest) a l ≡ ran_of sheet g ns rest words (l ++ yield_row yield (length (flat r)))

  pub record Blocks (C : List Content) (a l : List ℕ) (rs : Ress) (Xs : List Expr) : Type 0 where
    pub words : List ℕ
    pub slots : List Slot
    pub contents : List Content
    pub keeps : Keeps C contents
    pub stand : Stand sheet a₀ G contents words
    pub says : Say sheet a₀ G contents slots (eval_each sheet a₀ G Xs)
    pub rowed : Rowed slots
    pub sum : words_sum slots ≡ length (flats rs)
    pub many : length slots ≡ count_res rs
    pub top : reach words + 2 * count_res rs ≤ reach a + takes_sum (trees rs)
    pub few : get_or words MADE 0 ≤ get_or a MADE 0 + makes_sum (trees rs)
    pub run : (rest : List ℕ) → ran_of sheet g ns (flats rs ++ rest) a l ≡ ran_of sheet g ns rest words (l ++ yield_rows slots)

  -- room for what evaluating may take
  pub record Room (t m q : ℕ) (a l : List ℕ) : Type 0 where
    pub top : reach a + t ≤ 16384
    pub few : get_or a MADE 0 + m ≤ 1024
    pub log : length l + 2 * q ≤ 16384
    pub rows : (length l) / 4 * 4 ≡ length l

  keep_say : {C D : List Content} {ps : List Slot} {rs : List Result} → Keeps C D → Say sheet a₀ G C ps rs → Say sheet a₀ G D ps rs
  keep_say k say_none = say_none
  keep_say {C} {D} k (say_more {p = p} h t) = say_more (go h) (keep_say k t)
    where
      go : {y : Yield} {r : Result} → Says C y r → Says D y r
      go (says_value {n = n} {v = v} e) = says_value (k n v e)
      go says_error = says_error

  flat_least : (r : Res) → 4 ≤ length (flat r)
  unfolding flat
  flat_least (rlit v y) = omega arith
  flat_least (rerr y) = omega arith
  flat_least (rleft n k y rs) = let z = length-append (flats rs) (left_row n k (length (flats rs)) y) in omega (arith, z)

  -- a node over the blocks of its operands
  module _ (C : List Content) (a l : List ℕ) (n k y : ℕ) (rs : Ress) (X : Expr) (su : suits (get_or nodes n []) (count_res rs) ≡ true)
      (w : Work sheet a₀ G K n k (get_or nodes n []) refl (ty_at ts nodes y) (trees rs) (tag (get_or nodes n [])) (left_tree (get_or nodes n []) k (ty_at ts nodes y) (trees rs)) X)
      (b : Blocks C a l rs w.exprs) (room : Room (takes (tree (rleft n k y rs))) (makes (tree (rleft n k y rs))) (length (flat (rleft n k y rs))) a l) where
    abbrev r : List ℕ
    r = get_or nodes n []

    abbrev e : Node ℕ
    e = left_tree r k (ty_at ts nodes y) (trees rs)

    same_tree : tree (rleft n k y rs) ≡ e
    unfolding tree_of
    same_tree = refl

    long : length (flat (rleft n k y rs)) ≡ length (flats rs) + 4
    unfolding flat
    long = length-append (flats rs) (left_row n k (length (flats rs)) y)

    count_is : length (trees rs) ≡ count_res rs
    count_is = trees_count ts nodes rs

    at_node : (o : List ℕ) (s : ℕ) → node_of sheet b.words o s n k ≡ node_by sheet (tag r) b.words o s n k
    unfolding node_of
    at_node o s = ap (λ (q : List ℕ). node_by sheet (tag q) b.words o s n k) (same_node sheet a₀ G b.words b.stand.hold n)

    rows_most : 4 * count_res rs ≤ length (flats rs)
    rows_most = go b.rowed b.sum b.many
      where
        sums : {ps : List Slot} → Rowed ps → 4 * length ps ≤ words_sum ps
        sums rowed_none = omega arith
        sums (rowed_more h t) = let z = sums t in omega (arith, z, h)

        go : {ps : List Slot} → Rowed ps → words_sum ps ≡ length (flats rs) → length ps ≡ count_res rs → 4 * count_res rs ≤ length (flats rs)
        go t s m = let z = sums t in omega (arith, z, s, m)

    got : Gets sheet a₀ G b.contents w.words w.count b.words (node_by sheet (tag r) b.words (l ++ yield_rows b.slots) (length l) n k) (eval (sch sheet a₀ G) G X)
    got =
        let t = ap takes same_tree in
        let m = ap makes same_tree in
        let len = length-append l (yield_rows b.slots) in
        let rl = rows_long b.slots in
        let rm = rows_most in
        w.goes b.contents b.words (l ++ yield_rows b.slots) (length l) b.slots b.stand
        (record { top = omega (arith, room.top, b.top, w.takes_fit, count_is, t); few = omega (arith, room.few, b.few, w.makes_fit, m) })
        (drop-append_seam l (yield_rows b.slots)) b.says (omega (arith, room.log, len, rl, b.many, count_is, long, rm))

    node_block : Block C a l (rleft n k y rs) X
    unfolding flat
    node_block =
        let t = ap takes same_tree in
        let m = ap makes same_tree in
        let o : List ℕ = l ++ yield_rows b.slots in
        let s : start_of o (length (flats rs) + 4) ≡ length l = ap (λ (j : ℕ). start_of o (j + 4)) (sym b.sum) ∙ start_is b.slots b.rowed l (length l / 4) (omega (arith, room.rows)) in
        record {
          words = (node_by sheet (tag r) b.words o (length l) n k).words;
          yield = (node_by sheet (tag r) b.words o (length l) n k).yield;
          contents = got.contents;
          keeps = λ j v h. got.keeps j v (b.keeps j v h);
          stand = got.stand;
          says = got.says;
          top = omega (arith, got.top, b.top, w.takes_fit, count_is, t);
          few = omega (arith, got.few, b.few, w.makes_fit, m);
          run = λ rest.
              ap (λ (q : List ℕ). ran_of sheet g ns q a l) (append_assoc (flats rs) (left_row n k (length (flats rs)) y) rest)
              ∙ b.run (left_row n k (length (flats rs)) y ++ rest)
              ∙ turn_left sheet g ns n k (length (flats rs)) y rest b.words l b.slots s (omega (arith, room.log, long))
              ∙ ap (λ (z : E). ran_of sheet g ns rest z.words (l ++ yield_row z.yield (length (flats rs) + 4))) (at_node o (length l))
              ∙ ap (λ (j : ℕ). ran_of sheet g ns rest (node_by sheet (tag r) b.words o (length l) n k).words (l ++ yield_row (node_by sheet (tag r) b.words o (length l) n k).yield j)) (sym long);
        }

  module _ (C : List Content) (a l : List ℕ) (st : Stand sheet a₀ G C a) (maps : Maps K (number_there g ns) C) where
    lit_block : (v y : ℕ) (X : Expr) → length l + 8 ≤ 16384 → Reads K (lit (ty_at ts nodes y) v) X → Block C a l (rlit v y) X
    unfolding flat tree_of
    lit_block v y X h (xlit {v = x} e) = record {
      words = a;
      yield = Ok (number_there g ns v);
      contents = C;
      keeps = λ j z q. q;
      stand = st;
      says = says_value (maps v x e);
      top = omega arith;
      few = omega arith;
      run = λ rest. turn_lit sheet g ns v y rest a l (omega (arith, h));
    }

    err_block : (y : ℕ) (X : Expr) → length l + 8 ≤ 16384 → Reads K (err (ty_at ts nodes y)) X → Block C a l (rerr y) X
    unfolding flat tree_of
    err_block y X h xerr = record {
      words = a;
      yield = failed;
      contents = C;
      keeps = λ j z q. q;
      stand = st;
      says = says_error;
      top = omega arith;
      few = omega arith;
      run = λ rest. turn_err sheet g ns y rest a l (omega (arith, h));
    }

    no_blocks : Blocks C a l rnil []
    unfolding flats trees_of yield_rows
    no_blocks = record {
      words = a;
      slots = [];
      contents = C;
      keeps = λ j z q. q;
      stand = st;
      says = say_none;
      rowed = rowed_none;
      sum = refl;
      many = refl;
      top = omega arith;
      few = omega arith;
      run = λ rest. ap (ran_of sheet g ns rest a) (sym (append-nil l));
    }

  -- one block, then the others
  more_blocks : (C : List Content) (a l : List ℕ) (r : Res) (rs : Ress) (X : Expr) (Xs : List Expr) (b : Block C a l r X) → Blocks b.contents b.words (l ++ yield_row b.yield (length (flat r))) rs Xs → Blocks C a l (rcons r rs) (X ∷ Xs)
  unfolding flats trees_of yield_rows
  more_blocks C a l r rs X Xs b t = record {
    words = t.words;
    slots = record { yield = b.yield; words = length (flat r) } ∷ t.slots;
    contents = t.contents;
    keeps = λ j v h. t.keeps j v (b.keeps j v h);
    stand = t.stand;
    says = say_more (go b.says) t.says;
    rowed = rowed_more (flat_least r) t.rowed;
    sum = ap (λ (m : ℕ). length (flat r) + m) t.sum ∙ sym (length-append (flat r) (flats rs));
    many = ap suc t.many;
    top = omega (arith, b.top, t.top);
    few = omega (arith, b.few, t.few);
    run = λ rest. ap (λ (q : List ℕ). ran_of sheet g ns q a l) (append_assoc (flat r) (flats rs) rest) ∙ b.run (flats rs ++ rest) ∙ t.run rest
        ∙ ap (ran_of sheet g ns rest t.words) (append_assoc l (yield_row b.yield (length (flat r))) (yield_rows t.slots));
  }
    where
      go : {y : Yield} {r : Result} → Says b.contents y r → Says t.contents y r
      go (says_value {n = n} {v = v} e) = says_value (t.keeps n v e)
      go says_error = says_error

  -- room for what evaluating residuals in turn may take: the operands of c residuals leave two words for each
  pub record Rooms (t m q c : ℕ) (a l : List ℕ) : Type 0 where
    pub top : reach a + t + 2 ≤ 16384 + 2 * c
    pub few : get_or a MADE 0 + m ≤ 1024
    pub log : length l + 2 * q ≤ 16384
    pub rows : length l / 4 * 4 ≡ length l

  sum_least : (cs : List (Node ℕ)) → 2 * length cs ≤ takes_sum cs
  sum_least [] = omega arith
  sum_least (c ∷ cs) = let a = takes_least c in let b = sum_least cs in omega (arith, a, b)

  module _ (r : Res) (rs : Ress) (a l : List ℕ) (room : Rooms (takes_sum (trees (rcons r rs))) (makes_sum (trees (rcons r rs))) (length (flats (rcons r rs))) (count_res (rcons r rs)) a l) where
    long_both : length (flats (rcons r rs)) ≡ length (flat r) + length (flats rs)
    unfolding flats
    long_both = length-append (flat r) (flats rs)

    takes_both : takes_sum (trees (rcons r rs)) ≡ takes (tree r) + takes_sum (trees rs)
    unfolding trees_of
    takes_both = refl

    makes_both : makes_sum (trees (rcons r rs)) ≡ makes (tree r) + makes_sum (trees rs)
    unfolding trees_of
    makes_both = refl

    first_room : Room (takes (tree r)) (makes (tree r)) (length (flat r)) a l
    first_room =
        let s = sum_least (trees rs) in
        let n = trees_count ts nodes rs in
        record { top = omega (arith, room.top, takes_both, s, n); few = omega (arith, room.few, makes_both); log = omega (arith, room.log, long_both); rows = room.rows }

    rest_room : (C : List Content) (X : Expr) (b : Block C a l r X) → Rooms (takes_sum (trees rs)) (makes_sum (trees rs)) (length (flats rs)) (count_res rs) b.words (l ++ yield_row b.yield (length (flat r)))
    rest_room C X b =
        let row : List ℕ = yield_row b.yield (length (flat r)) in
        let four : length row ≡ 4 = sym (ap length (append-nil row)) ∙ row_four b.yield (length (flat r)) [] in
        let len : length (l ++ row) ≡ length l + 4 = length-append l row ∙ omega (arith, four) in
        let f = flat_least r in
        record {
          top = omega (arith, room.top, takes_both, b.top);
          few = omega (arith, room.few, makes_both, b.few);
          log = omega (arith, room.log, long_both, len, f);
          rows = omega (arith, room.rows, len);
        }

  module _ (a l : List ℕ) (n k y : ℕ) (rs : Ress) (X : Expr)
      (w : Work sheet a₀ G K n k (get_or nodes n []) refl (ty_at ts nodes y) (trees rs) (tag (get_or nodes n [])) (left_tree (get_or nodes n []) k (ty_at ts nodes y) (trees rs)) X)
      (room : Room (takes (tree (rleft n k y rs))) (makes (tree (rleft n k y rs))) (length (flat (rleft n k y rs))) a l) where
    inner_room : Rooms (takes_sum (trees rs)) (makes_sum (trees rs)) (length (flats rs)) (count_res rs) a l
    unfolding tree_of flat
    inner_room =
        let len = length-append (flats rs) (left_row n k (length (flats rs)) y) in
        let c = trees_count ts nodes rs in
        record { top = omega (arith, room.top, w.takes_fit, c); few = omega (arith, room.few, w.makes_fit); log = omega (arith, room.log, len); rows = room.rows }

  left_reads : (n k y : ℕ) (rs : Ress) (X : Expr) → Reads K (tree (rleft n k y rs)) X → Reads K (left_tree (get_or nodes n []) k (ty_at ts nodes y) (trees rs)) X
  unfolding tree_of
  left_reads n k y rs X h = h

  lit_reads : (v y : ℕ) (X : Expr) → Reads K (tree (rlit v y)) X → Reads K (lit (ty_at ts nodes y) v) X
  unfolding tree_of
  lit_reads v y X h = h

  err_reads : (y : ℕ) (X : Expr) → Reads K (tree (rerr y)) X → Reads K (err (ty_at ts nodes y)) X
  unfolding tree_of
  err_reads y X h = h

  split_reads : {Z : Type 0} (r : Res) (rs : Ress) (Xs : List Expr) → ReadEach sheet a₀ G K (trees (rcons r rs)) Xs → ((Y : Expr) (Ys : List Expr) → Xs ≡ Y ∷ Ys → Reads K (tree r) Y → ReadEach sheet a₀ G K (trees rs) Ys → Z) → Z
  unfolding trees_of
  split_reads r rs Xs (read_more {X = Y} {Xs = Ys} q t) f = f Y Ys refl q t

  none_reads : {Z : Type 0} (Xs : List Expr) → ReadEach sheet a₀ G K (trees rnil) Xs → (Xs ≡ [] → Z) → Z
  unfolding trees_of
  none_reads Xs read_none f = f refl

  flat_room : (r : Res) (a l : List ℕ) (t m : ℕ) → Room t m (length (flat r)) a l → length l + 8 ≤ 16384
  flat_room r a l t m room = let f = flat_least r in omega (arith, room.log, f)

  mutual
    pub block : {d : ℕ} (r : Res) → Whole ts nodes d r → (X : Expr) (C : List Content) (a l : List ℕ) → Stand sheet a₀ G C a → Maps K (number_there g ns) C → Room (takes (tree r)) (makes (tree r)) (length (flat r)) a l → Reads K (tree r) X → Block C a l r X
    block (rlit v y) w X C a l st maps room h = lit_block C a l st maps v y X (flat_room (rlit v y) a l _ _ room) (lit_reads v y X h)
    block (rerr y) w X C a l st maps room h = err_block C a l st maps y X (flat_room (rerr y) a l _ _ room) (err_reads y X h)
    block (rleft n k y rs) (whole_left t s ws) X C a l st maps room h =
        let w = left_work sheet a₀ G K n k (get_or nodes n []) refl (ty_at ts nodes y) (trees rs) (suited ts nodes n rs s) X (left_reads n k y rs X h) in
        node_block C a l n k y rs X s w (blocks rs ws w.exprs C a l st maps (inner_room a l n k y rs X w room) w.reads) room

    pub blocks : {d : ℕ} (rs : Ress) → Wholes ts nodes d rs → (Xs : List Expr) (C : List Content) (a l : List ℕ) → Stand sheet a₀ G C a → Maps K (number_there g ns) C
        → Rooms (takes_sum (trees rs)) (makes_sum (trees rs)) (length (flats rs)) (count_res rs) a l → ReadEach sheet a₀ G K (trees rs) Xs → Blocks C a l rs Xs
    blocks rnil ws Xs C a l st maps room h = none_reads Xs h (λ e. subst (Blocks C a l rnil) (sym e) (no_blocks C a l st maps))
    blocks (rcons r rs) (whole_more w ws) Xs C a l st maps room h =
        split_reads r rs Xs h (λ Y Ys e q t.
        let b = block r w Y C a l st maps (first_room r rs a l room) q in
        subst (Blocks C a l (rcons r rs)) (sym e)
        (more_blocks C a l r rs Y Ys b (blocks rs ws Ys b.contents b.words (l ++ yield_row b.yield (length (flat r))) b.stand (λ v x i. b.keeps (number_there g ns v) x (maps v x i)) (rest_room r rs a l room C Y b) t)))

  -- ---- the classes of the policies

  abbrev pub classes_of : List Expr → List ℕ
  classes_of [] = []
  classes_of (X ∷ Xs) = class_number (result_class (eval (sch sheet a₀ G) G X)) ∷ classes_of Xs

  row_class : (a : List ℕ) (y : Yield) (w : ℕ) (q : List ℕ) → classes_in a (yield_row y w ++ q) ≡ class_number (class_of a y) ∷ classes_in a q
  unfolding classes_in yield_in
  row_class a (Ok v) w q = refl
  row_class a (Err e) w q = refl

  classes_are : {C : List Content} {a : List ℕ} (ps : List Slot) (Xs : List Expr) → Stand sheet a₀ G C a → Say sheet a₀ G C ps (eval_each sheet a₀ G Xs) → classes_in a (yield_rows ps) ≡ classes_of Xs
  unfolding yield_rows classes_in
  classes_are [] [] s say_none = refl
  classes_are {C = C} {a = a} [] (X ∷ Xs) s x4 = elim x4 [ ]
  classes_are {C = C} {a = a} (p ∷ ps) [] s x4 = elim x4 [ ]
  classes_are {a = a} (p ∷ ps) (X ∷ Xs) s (say_more h t) = row_class a p.yield p.words (yield_rows ps) ∙ ap₂ (λ (x : ℕ) (xs : List ℕ). x ∷ xs) (ap class_number (class_is sheet a₀ G s h)) (classes_are ps Xs s t)

  -- what is left of the run over all residuals
  pub record Ran (res a : List ℕ) (Xs : List Expr) : Type 0 where
    pub hold : Hold a₀ (ran_of sheet g ns res a []).words
    pub classes : classes_in (ran_of sheet g ns res a []).words (ran_of sheet g ns res a []).log ≡ classes_of Xs

  pub ran_is : {d : ℕ} (rs : Ress) → Wholes ts nodes d rs → (Xs : List Expr) (C : List Content) (a res : List ℕ) → res ≡ flats rs → Stand sheet a₀ G C a → Maps K (number_there g ns) C
      → Rooms (takes_sum (trees rs)) (makes_sum (trees rs)) (length (flats rs)) (count_res rs) a [] → ReadEach sheet a₀ G K (trees rs) Xs → Ran res a Xs
  unfolding ran_of
  ran_is rs ws Xs C a res er st maps room h =
      let b = blocks rs ws Xs C a [] st maps room h in
      let e : ran_of sheet g ns res a [] ≡ stacked b.words (yield_rows b.slots) = ap (λ (q : List ℕ). ran_of sheet g ns q a []) (er ∙ sym (append-nil (flats rs))) ∙ b.run [] in
      record {
        hold = subst (λ (s : Stacked). Hold a₀ s.words) (sym e) b.stand.hold;
        classes = ap (λ (s : Stacked). classes_in s.words s.log) e ∙ classes_are b.slots Xs b.stand b.says;
      }

-- Sets and records: their children are worked in turn, each value leaves a row on the log, and what is made of the rows is what `eval`
-- makes of the contents. Assumes nothing.
use mathlib.Core.Path.{◌≡◌, refl, sym, ◌∙◌, ap, ap₂, subst}
use mathlib.Core.Bool.{Bool, true, false, cond}
use mathlib.Core.Option.{none, some}
use mathlib.Core.List.{List, [], ◌∷◌, ◌++◌, append_assoc, append-nil}
use Prim.Native.Nat.{ℕ, zero, suc, ◌+◌, ◌-◌, ◌*◌, ◌≤◌, ◌<◌}
use native.Mathlib.Omega.{arith}
use native.Mathlib.Decide.{dec_lt}
use borrow.Author.Tests.{lt-ltb, le-ltb}
use lib.Dec.{ltb}
use lib.ListN.{length, get_or, drop, length-append, length-take, length-drop}
use lib.Seq.{drop-append_seam}
use Rattle.words.proofs.Logs.{appended_is}
use Rattle.cedar.specs.Value.{Value as Content, Values, vnil, vcons, Fields, fnil, fcons, vrec, Result, ok, fail, on_some}
use Rattle.cedar.specs.Canonical.{make_set}
use Rattle.cedar.specs.Types.{Ty, Schema}
use Rattle.cedar.specs.Residual.{Node, Nodes, NodeArgs, Expr, Exprs, Args, enil, econs, gnil, gcons, lit, err, var, and, or, ite, un, bin, rel, get, has, haspath, set, rec}
use Rattle.cedar.specs.Entities.{Env}
use Rattle.cedar.specs.Evaluate.{eval, evals, eval_args, cons_r, field_r}
use Rattle.cedar.specs.Making.{sort_n}
use Rattle.cedar.specs.Table.{At, Elems, elem0, elem1, Named, name0, name1, Denotes, drec}
use Rattle.cedar.proofs.MakingLaws.{set_denotes}
use Rattle.cedar.specs.Reads.{Reads, xset, xrec, ReadsAll, xnil, xcons, ReadsArgs, xstop, xarg}
use Rattle.cedar.proofs.ReadsLaws.{Keeps, keep_reads}
use Rattle.sheet.specs.Forms.{items, NODE}
use Rattle.forms.specs.Tags.{SET_VALUE}
use Rattle.sheet.specs.State.{value_row, entries_of}
use Rattle.sheet.specs.Answer.{size, sizes, size_args}
use Rattle.table.specs.Layout.{MADE, TOP, base, row_at, Sound}
use Rattle.table.proofs.Rows.{row_none, row_some}
use Rattle.value.specs.Made.{values_in, set_row, pairs_of, record_row}
use Rattle.value.proofs.Interned.{Formed, formed_record}
use Rattle.value.proofs.Fills.{written_is}
use Rattle.value.proofs.Lists.{uncons, spent}
use Rattle.residual.specs.Rows.{lit_row}
use Rattle.tpe.specs.Run.{others}
use Rattle.tpe.proofs.Reach.{reach}
use Rattle.tpe.proofs.Stands.{Room}
use Rattle.tpe.proofs.Sets.{sort_short, drop_two}
use Rattle.evaluator.specs.Run.{Yield, E, Rec, node_in, Kids, kids, next_kid, kids_of, most, many_of, set_step, rec_step}
use Rattle.evaluator.proofs.Gives.{Says, says_value, says_error, Stand, Gives, is_error_law, is_made, some_room}
use Rattle.evaluator.proofs.Steps.{sch, Meets, same_node}

-- ---- results in turn: all are values, of these numbers; or one fails

pub data Oks (D : List Content) : List Result → List ℕ → Type 0 where
  oks_none : Oks D [] []
  oks_more : {r : Result} {v : Content} {n : ℕ} {rs : List Result} {ns : List ℕ} → r ≡ ok v → At D n v → Oks D rs ns → Oks D (r ∷ rs) (n ∷ ns)

pub data Bad : List Result → Type 0 where
  bad_here : {r : Result} {rs : List Result} → r ≡ fail → Bad (r ∷ rs)
  bad_later : {r : Result} {v : Content} {rs : List Result} → r ≡ ok v → Bad rs → Bad (r ∷ rs)

-- the rows of values
pub lit_rows : List ℕ → List ℕ
lit_rows [] = []
lit_rows (n ∷ ns) = lit_row n 0 ++ lit_rows ns

rows_length : (ns : List ℕ) → length (lit_rows ns) ≡ 4 * length ns
unfolding lit_rows
rows_length [] = refl
rows_length (n ∷ ns) = let h = rows_length ns in omega (arith, h)

values_back : (ns : List ℕ) → values_in (lit_rows ns) ≡ ns
unfolding lit_rows values_in
values_back [] = refl
values_back (n ∷ ns) = ap (λ (l : List ℕ). n ∷ l) (values_back ns)

pub data KidsSay (D : List Content) (a l : List ℕ) (n : ℕ) (k : Kids) (rs : List Result) : Type 0 where
  all_say : {ns : List ℕ} → k.all ≡ true → k.log ≡ l ++ lit_rows ns → Oks D rs ns → length ns ≤ n → reach k.words + 2 * length ns ≤ reach a + 3 * n → KidsSay D a l n k rs
  one_fails : k.all ≡ false → Bad rs → KidsSay D a l n k rs

-- ---- children: x is the tree t x, and every other item of a record is a text

abbrev pub kids_with : (ℕ → Node ℕ) → List ℕ → Nodes ℕ
kids_with t [] = enil
kids_with t (x ∷ xs) = econs (t x) (kids_with t xs)

abbrev pub args_with : (ℕ → Node ℕ) → List ℕ → NodeArgs ℕ
args_with t [] = gnil
args_with t (u ∷ []) = gnil
args_with t (u ∷ x ∷ xs) = gcons u (t x) (args_with t xs)

-- ---- the numbers of the children of a row, as they are read

unfoldable pub kids_from : ℕ → List ℕ → ℕ → ℕ → List ℕ
kids_from s r zero i = []
kids_from s r (suc k) i = cond (ltb i (length r)) (get_or r i 0 ∷ kids_from s r k (i + s)) []

-- of a set
each_word : (r : List ℕ) (k i : ℕ) → length r ≤ k + i → kids_from 1 r k i ≡ drop i r
unfolding kids_from
each_word r zero i h = sym (spent r i (omega (arith, h)))
each_word r (suc k) i h = go (dec_lt i (length r)) (each_word r k (i + 1))
  where
    go : Dec (i < length r) → (length r ≤ k + (i + 1) → kids_from 1 r k (i + 1) ≡ drop (i + 1) r) → cond (ltb i (length r)) (get_or r i 0 ∷ kids_from 1 r k (i + 1)) [] ≡ drop i r
    go (yes d) ih = rw (lt-ltb i (length r) d, ih (omega (arith, h))) (sym (uncons r 0 i d))
    go (no d) ih = rw (le-ltb i (length r) (omega (arith, d))) (sym (spent r i (omega (arith, d))))

-- of a record
no_other : (l : List ℕ) → length l ≤ 1 → [] ≡ others l
no_other [] h = refl
no_other (t ∷ []) h = refl
no_other (t ∷ n ∷ l) h = absurd (omega (arith, h))

each_other : (r : List ℕ) (k i : ℕ) → length r ≤ k + i → kids_from 2 r k (i + 1) ≡ others (drop i r)
unfolding kids_from
each_other r zero i h = rw (spent r i (omega (arith, h)))
each_other r (suc k) i h = go (dec_lt (i + 1) (length r)) (each_other r k (i + 2))
  where
    go : Dec (i + 1 < length r) → (length r ≤ k + (i + 2) → kids_from 2 r k (i + 2 + 1) ≡ others (drop (i + 2) r))
        → cond (ltb (i + 1) (length r)) (get_or r (i + 1) 0 ∷ kids_from 2 r k (i + 1 + 2)) [] ≡ others (drop i r)
    go (yes d) ih =
        let e : i + 1 + 2 ≡ i + 2 + 1 = omega arith in
        let t : i + 1 + 1 ≡ i + 2 = omega arith in
        rw (lt-ltb (i + 1) (length r) d, e, ih (omega (arith, h)), uncons r 0 i (omega (arith, d)), uncons r 0 (i + 1) d, t)
    go (no d) ih = rw (le-ltb (i + 1) (length r) (omega (arith, d))) (no_other (drop i r) (omega (arith, length-drop i r, d)))

-- a row lies in the heap
pub row_short : (a : List ℕ) → Sound a → (m : ℕ) → length (node_in a m) ≤ get_or a TOP 0
unfolding row_at
row_short a s m = go (dec_lt m (get_or a NODE 0))
  where
    go : Dec (m < get_or a NODE 0) → length (node_in a m) ≤ get_or a TOP 0
    go (yes d) =
        let e : length (node_in a m) ≡ length (row_at a (base NODE + m)) = ap length (sym (row_some a NODE m (get_or a NODE 0) (base NODE) (row_at a (base NODE + m)) refl d refl refl)) in
        let h = s.high NODE m (omega arith) d in
        let t = length-take (get_or a (suc (base NODE + m)) 0 - get_or a (base NODE + m) 0) (drop (get_or a (base NODE + m) 0) a) in
        omega (arith, e, h, t)
    go (no d) = let e : length (node_in a m) ≡ 0 = ap length (sym (row_none a NODE m (get_or a NODE 0) refl (omega (arith, d)))) in omega (arith, e)

-- ---- sizes

pairs_short : (l ns : List ℕ) → length (pairs_of l (lit_rows ns)) ≤ 2 * length ns
unfolding pairs_of lit_rows
pairs_short [] ns = omega arith
pairs_short (t ∷ []) ns = omega arith
pairs_short (t ∷ n ∷ l) [] = omega arith
pairs_short (t ∷ n ∷ l) (m ∷ ns) = let h = pairs_short l ns in omega (arith, h)

record_short : (r ns : List ℕ) → length (record_row r (lit_rows ns)) ≤ 1 + 2 * length ns
unfolding record_row
record_short r ns = let h = pairs_short (drop 2 r) ns in omega (arith, h)

record_denotes : (D : List Content) (r ns : List ℕ) {fs : Fields} → Named D (entries_of (pairs_of (drop 2 r) (lit_rows ns))) fs → Denotes D (value_row (record_row r (lit_rows ns))) (vrec fs)
unfolding record_row
record_denotes D r ns m = drec m

pub node_size : (e : Node ℕ) → 1 ≤ size e
node_size (lit T v) = omega arith
node_size (err T) = omega arith
node_size (var T x) = omega arith
node_size (and T a b) = omega arith
node_size (or T a b) = omega arith
node_size (ite T c a b) = omega arith
node_size (un T u a) = omega arith
node_size (bin T o a b) = omega arith
node_size (rel T o a b) = omega arith
node_size (get T a t) = omega arith
node_size (has T a t) = omega arith
node_size (haspath T a t ts) = omega arith
node_size (set T es) = omega arith
node_size (rec T gs) = omega arith

module _ (sheet a₀ : List ℕ) (G : Env) where
  abbrev sc : Schema
  sc = sch sheet a₀ G

  abbrev pub results_of : Exprs → List Result
  results_of enil = []
  results_of (econs e es) = eval sc G e ∷ results_of es

  abbrev pub results_args : Args → List Result
  results_args gnil = []
  results_args (gcons t e gs) = eval sc G e ∷ results_args gs

  pub set_oks : {D : List Content} (fs : Exprs) {ns : List ℕ} → Oks D (results_of fs) ns → (vs : Values) × (evals sc G fs ≡ some vs) × Elems D ns vs
  set_oks enil oks_none = (vnil, refl, elem0)
  set_oks (econs e es) (oks_more {v = v} p h b) = let (vs, q, m) = set_oks es b in (vcons v vs, ap₂ cons_r p q, elem1 h m)

  pub set_bad : (fs : Exprs) → Bad (results_of fs) → evals sc G fs ≡ none
  set_bad enil b = elim b [ ]
  set_bad (econs e es) (bad_here p) = ap (λ (r : Result). cons_r r (evals sc G es)) p
  set_bad (econs e es) (bad_later p b) = ap₂ cons_r p (set_bad es b)

  pub rec_bad : (hs : Args) → Bad (results_args hs) → eval_args sc G hs ≡ none
  rec_bad gnil b = elim b [ ]
  rec_bad (gcons t e gs) (bad_here p) = ap (λ (r : Result). field_r t r (eval_args sc G gs)) p
  rec_bad (gcons t e gs) (bad_later p b) = ap₂ (field_r t) p (rec_bad gs b)

  -- children whose results are rs, of n nodes
  pub data Kin (C : List Content) (f : Rec) : List ℕ → List Result → ℕ → Type 0 where
    kin_none : Kin C f [] [] 0
    kin_more : {x q n : ℕ} {r : Result} {xs : List ℕ} {rs : List Result} → 1 ≤ q → ((a l : List ℕ) (D : List Content) → Keeps C D → Stand sheet a₀ G D a → Room q a l → Gives sheet a₀ G D q a (f a l x) r)
        → Kin C f xs rs n → Kin C f (x ∷ xs) (r ∷ rs) (q + n)

  pub record Worked (D : List Content) (n : ℕ) (a l : List ℕ) (k : Kids) (rs : List Result) : Type 0 where
    pub contents : List Content
    pub keeps : Keeps D contents
    pub stand : Stand sheet a₀ G contents k.words
    pub say : KidsSay contents a l n k rs
    pub top : reach k.words ≤ reach a + 3 * n
    pub few : get_or k.words MADE 0 ≤ get_or a MADE 0 + n

  module _ {D : List Content} {q : ℕ} {a : List ℕ} {o : E} {r : Result} (g : Gives sheet a₀ G D q a o r) (one : 1 ≤ q) (n : ℕ) (l : List ℕ) (room : Room (q + n) a l) (rs : List Result) where
    -- the first child fails
    first_fails : r ≡ fail → Worked D (q + n) a l (record { words = o.words; log = l; all = false }) (r ∷ rs)
    first_fails e = record {
      contents = g.contents;
      keeps = g.keeps;
      stand = g.stand;
      say = one_fails refl (bad_here e);
      top = omega (arith, g.top);
      few = omega (arith, g.few);
    }

    -- it has a value, and the others are worked after it
    module _ {v : ℕ} {x : Content} (e : r ≡ ok x) (h : At g.contents v x) {k : Kids} (w : Worked g.contents n o.words (l ++ lit_row v 0) k rs) where
      says_more : KidsSay w.contents o.words (l ++ lit_row v 0) n k rs → KidsSay w.contents a l (q + n) k (r ∷ rs)
      unfolding lit_rows
      says_more (all_say {ns = ns} p z b c t) = all_say {ns = v ∷ ns} p (z ∙ append_assoc l (lit_row v 0) (lit_rows ns)) (oks_more e (w.keeps v x h) b) (omega (arith, c, one)) (omega (arith, t, g.top))
      says_more (one_fails p b) = one_fails p (bad_later e b)

      first_goes : Worked D (q + n) a l k (r ∷ rs)
      first_goes = record {
        contents = w.contents;
        keeps = λ m y z. w.keeps m y (g.keeps m y z);
        stand = w.stand;
        say = says_more w.say;
        top = omega (arith, w.top, g.top);
        few = omega (arith, w.few, g.few);
      }

    log_room : (v : ℕ) → Room n o.words (l ++ lit_row v 0)
    log_room v = record { top = omega (arith, room.top, g.top); few = omega (arith, room.few, g.few); log = omega (arith, room.log, length-append l (lit_row v 0), one) }

    goes : {y : Yield} {t : Result} → r ≡ t → Says g.contents y t → (K : List ℕ → Kids) → ((v : ℕ) → Room n o.words (l ++ lit_row v 0) → Worked g.contents n o.words (l ++ lit_row v 0) (K (l ++ lit_row v 0)) rs)
        → Worked D (q + n) a l (next_kid o.words l y K) (r ∷ rs)
    unfolding next_kid
    goes e (says_value {n = v} {v = x} h) K f = rw (appended_is l (lit_row v 0) (omega (arith, room.log, one))) (first_goes e h (f v (log_room v)))
    goes e says_error K f = first_fails e

  none_left : {C D : List Content} {ss : List Result} {n : ℕ} {f : Rec} {a : List ℕ} (l : List ℕ) → Kin C f [] ss n → Stand sheet a₀ G D a → Worked D n a l (kids a l true) ss
  unfolding lit_rows
  none_left {D = D} l kin_none s = record {
    contents = D;
    keeps = λ m y z. z;
    stand = s;
    say = all_say {ns = []} refl (sym (append-nil l)) oks_none (omega arith) (omega arith);
    top = omega arith;
    few = omega arith;
  }

  -- child x if there is one, then the others xs
  kid_worked : (C : List Content) (f : Rec) (x : ℕ) (xs : List ℕ) (K : List ℕ → List ℕ → Kids) (t : Bool) {ss : List Result} {n : ℕ} (a l : List ℕ) (D : List Content) → Keeps C D → Stand sheet a₀ G D a → Room n a l
      → ((rs : List Result) (j : ℕ) → Kin C f xs rs j → (b w : List ℕ) (B : List Content) → Keeps C B → Stand sheet a₀ G B b → Room j b w → Worked B j b w (K b w) rs)
      → Kin C f (cond t (x ∷ xs) []) ss n → Worked D n a l (cond t (next_kid (f a l x).words l (f a l x).yield (K (f a l x).words)) (kids a l true)) ss
  kid_worked C f x xs K true a l D kp s room more (kin_more {q = q} {n = j} {rs = rs} one g kin) =
      let o = g a l D kp s (some_room sheet a₀ G q (q + j) a l room (omega arith)) in
      goes o one j l room rs refl o.says (K (f a l x).words) (λ v rm. more rs j kin (f a l x).words (l ++ lit_row v 0) o.contents (λ b y z. o.keeps b y (kp b y z)) o.stand rm)
  kid_worked C f x xs K false a l D kp s room more kin = none_left l kin s

  pub kids_worked : {C : List Content} {ss : List Result} {n : ℕ} (f : Rec) (m s k i : ℕ) → Kin C f (kids_from s (node_in a₀ m) k i) ss n → (a l : List ℕ) (D : List Content) → Keeps C D → Stand sheet a₀ G D a → Room n a l
      → Worked D n a l (kids_of f m s k i a l) ss
  unfolding kids_of kids_from
  kids_worked f m s zero i kin a l D kp st room = none_left l kin st
  kids_worked {C} f m s (suc k) i kin a l D kp st room = rw (same_node sheet a₀ G a st.hold m)
      (kid_worked C f (get_or (node_in a₀ m) i 0) (kids_from s (node_in a₀ m) k (i + s)) (kids_of f m s k (i + s)) (ltb i (length (node_in a₀ m))) a l D kp st room
      (λ rs j more. kids_worked f m s k (i + s) more) kin)

  -- ---- the children of a node: x is worked as the tree t x

  module _ (f : Rec) (t : ℕ → Node ℕ) (i : (x : ℕ) → Meets sheet a₀ G (λ a l. f a l x) (t x)) where
    kin_all : (xs : List ℕ) {C : List Content} {fs : Exprs} → ReadsAll C (kids_with t xs) fs → Kin C f xs (results_of fs) (sizes (kids_with t xs))
    kin_all [] xnil = kin_none
    kin_all (x ∷ xs) (xcons {d = X} q h) = kin_more (node_size (t x)) (λ a l D kp s room. (i x).run a l D X s room (keep_reads kp q)) (kin_all xs h)

    kin_args : (xs : List ℕ) {C : List Content} {hs : Args} → ReadsArgs C (args_with t xs) hs → Kin C f (others xs) (results_args hs) (size_args (args_with t xs))
    kin_args [] xstop = kin_none
    kin_args (u ∷ []) xstop = kin_none
    kin_args (u ∷ x ∷ xs) (xarg {d = X} q h) = kin_more (node_size (t x)) (λ a l D kp s room. (i x).run a l D X s room (keep_reads kp q)) (kin_args xs h)

    -- the fields of a record, of which every other item is a text
    rec_oks : (xs : List ℕ) {C D : List Content} {hs : Args} {ns : List ℕ} → ReadsArgs C (args_with t xs) hs → Oks D (results_args hs) ns → (fs : Fields) × (eval_args sc G hs ≡ some fs) × Named D (entries_of (pairs_of xs (lit_rows ns))) fs
    unfolding lit_rows pairs_of
    rec_oks [] xstop oks_none = (fnil, refl, name0)
    rec_oks (u ∷ []) xstop oks_none = (fnil, refl, name0)
    rec_oks (u ∷ x ∷ xs) (xarg q h) (oks_more {v = v} e z b) = let (fs, p, m) = rec_oks xs h b in (fcons u v fs, ap₂ (field_r u) e p, name1 z m)

    -- ---- made, or an error

    module _ (r : List ℕ) (a l : List ℕ) (C : List Content) (s : Stand sheet a₀ G C a) (n : ℕ) (room : Room (suc n) a l) (k : Kids) (rs : List Result) (w : Worked C n a l k rs) where
      error_gives : k.all ≡ false → (q : List ℕ) → Gives sheet a₀ G C (suc n) a (many_of q k) fail
      unfolding many_of
      error_gives e q = rw e (is_error_law sheet a₀ G C w.contents (suc n) a l room (omega arith) k.words w.keeps w.stand (record { top = omega (arith, w.top); few = omega (arith, w.few) }))

      made_gives : (ns : List ℕ) → k.all ≡ true → k.log ≡ l ++ lit_rows ns → length ns ≤ n → reach k.words + 2 * length ns ≤ reach a + 3 * n
          → (q : List ℕ) → Formed q → length q ≤ 1 + 2 * length ns → {x : Content} → Denotes w.contents (value_row q) x → Gives sheet a₀ G C (suc n) a (many_of q k) (ok x)
      unfolding many_of
      made_gives ns e z c t q f sh d =
          rw (e, written_is k.log q (omega (arith, room.log, ap length z, length-append l (lit_rows ns), rows_length ns, sh, c)))
          (is_made sheet a₀ G C w.contents (suc n) a l room (omega arith) k.words w.keeps w.stand (1 + 2 * length ns) (record { top = omega (arith, t); few = omega (arith, w.few) }) q f sh d)

      rows_there : (ns : List ℕ) → k.log ≡ l ++ lit_rows ns → drop (length l) k.log ≡ lit_rows ns
      rows_there ns z = ap (drop (length l)) z ∙ drop-append_seam l (lit_rows ns)

    set_say : (a l : List ℕ) (C : List Content) (s : Stand sheet a₀ G C a) (n : ℕ) (room : Room (suc n) a l) (k : Kids) (fs : Exprs) (w : Worked C n a l k (results_of fs)) → KidsSay w.contents a l n k (results_of fs)
        → Gives sheet a₀ G C (suc n) a (many_of (set_row (drop (length l) k.log)) k) (on_some fail (evals sc G fs) (λ vs. ok (make_set vs)))
    unfolding set_row
    set_say a l C s n room k fs w (all_say {ns = ns} e z b c t) =
        let (vs, p, m) = set_oks fs b in
        let there : values_in (drop (length l) k.log) ≡ ns = ap values_in (rows_there [] a l C s n room k (results_of fs) w ns z) ∙ values_back ns in
        rw (p, there) (made_gives [] a l C s n room k (results_of fs) w ns e z c t (SET_VALUE ∷ sort_n ns) refl (let h = sort_short ns in omega (arith, h)) (set_denotes m))
    set_say a l C s n room k fs w (one_fails e b) = rw (set_bad fs b) (error_gives [] a l C s n room k (results_of fs) w e _)

    rec_say : (r a l : List ℕ) (C : List Content) (s : Stand sheet a₀ G C a) (n : ℕ) (room : Room (suc n) a l) (k : Kids) (hs : Args) (w : Worked C n a l k (results_args hs)) → ReadsArgs C (args_with t (drop 2 r)) hs → KidsSay w.contents a l n k (results_args hs)
        → Gives sheet a₀ G C (suc n) a (many_of (record_row r (drop (length l) k.log)) k) (on_some fail (eval_args sc G hs) (λ fs. ok (vrec fs)))
    rec_say r a l C s n room k hs w q (all_say {ns = ns} e z b c t) =
        let (fs, p, m) = rec_oks (drop 2 r) q b in
        rw (p, rows_there r a l C s n room k (results_args hs) w ns z)
        (made_gives r a l C s n room k (results_args hs) w ns e z c t (record_row r (lit_rows ns)) (formed_record r (lit_rows ns)) (record_short r ns) (record_denotes w.contents r ns m))
    rec_say r a l C s n room k hs w q (one_fails e b) = rw (rec_bad hs b) (error_gives r a l C s n room k (results_args hs) w e _)

    module _ (m : ℕ) (r : List ℕ) (er : node_in a₀ m ≡ r) where
      short : {C : List Content} {a : List ℕ} {n : ℕ} {l : List ℕ} → Stand sheet a₀ G C a → Room n a l → length r ≤ 16384
      short {a = a} s room = let e : length (node_in a m) ≡ length r = ap length (same_node sheet a₀ G a s.hold m ∙ er) in omega (arith, e, row_short a s.hold.sound m, room.top)

      in_set : {C : List Content} {a : List ℕ} {n : ℕ} {l : List ℕ} → Stand sheet a₀ G C a → Room n a l → kids_from 1 (node_in a₀ m) most 2 ≡ drop 1 (items r)
      in_set s room = ap (λ (q : List ℕ). kids_from 1 q most 2) er ∙ each_word r most 2 (omega (arith, short s room)) ∙ drop_two r

      in_record : {C : List Content} {a : List ℕ} {n : ℕ} {l : List ℕ} → Stand sheet a₀ G C a → Room n a l → kids_from 2 (node_in a₀ m) most 3 ≡ others (drop 1 (items r))
      in_record s room = ap (λ (q : List ℕ). kids_from 2 q most 3) er ∙ each_other r most 2 (omega (arith, short s room)) ∙ ap others (drop_two r)

      set_in : (T : Ty) (a l : List ℕ) (C : List Content) (X : Expr) → Stand sheet a₀ G C a → Room (suc (sizes (kids_with t (drop 1 (items r))))) a l → Reads C (set T (kids_with t (drop 1 (items r)))) X
          → Gives sheet a₀ G C (suc (sizes (kids_with t (drop 1 (items r))))) a (set_step f a l m r) (eval sc G X)
      unfolding set_step
      set_in T a l C X s room (xset {fs = fs} h) =
          let n : ℕ = sizes (kids_with t (drop 1 (items r))) in
          let kin : Kin C f (kids_from 1 (node_in a₀ m) most 2) (results_of fs) n = subst (λ (ys : List ℕ). Kin C f ys (results_of fs) n) (sym (in_set s room)) (kin_all (drop 1 (items r)) h) in
          let w = kids_worked f m 1 most 2 kin a l C (λ b y z. z) s (some_room sheet a₀ G n (suc n) a l room (omega arith)) in
          set_say a l C s n room (kids_of f m 1 most 2 a l) fs w w.say

      rec_in : (T : Ty) (a l : List ℕ) (C : List Content) (X : Expr) → Stand sheet a₀ G C a → Room (suc (size_args (args_with t (drop 1 (items r))))) a l → Reads C (rec T (args_with t (drop 1 (items r)))) X
          → Gives sheet a₀ G C (suc (size_args (args_with t (drop 1 (items r))))) a (rec_step f a l m r) (eval sc G X)
      unfolding rec_step
      rec_in T a l C X s room (xrec {hs = hs} h) =
          let n : ℕ = size_args (args_with t (drop 1 (items r))) in
          let kin : Kin C f (kids_from 2 (node_in a₀ m) most 3) (results_args hs) n = subst (λ (ys : List ℕ). Kin C f ys (results_args hs) n) (sym (in_record s room)) (kin_args (drop 1 (items r)) h) in
          let w = kids_worked f m 2 most 3 kin a l C (λ b y z. z) s (some_room sheet a₀ G n (suc n) a l room (omega arith)) in
          rw (same_node sheet a₀ G (kids_of f m 2 most 3 a l).words w.stand.hold m, er)
          (rec_say r a l C s n room (kids_of f m 2 most 3 a l) hs w (subst (λ (x : List ℕ). ReadsArgs C (args_with t x) hs) (sym (drop_two r)) h) w.say)

      pub set_meets : (T : Ty) → Meets sheet a₀ G (λ a l. set_step f a l m r) (set T (kids_with t (drop 1 (items r))))
      set_meets T = record { run = λ a l C X s room q. set_in T a l C X s room q }

      pub rec_meets : (T : Ty) → Meets sheet a₀ G (λ a l. rec_step f a l m r) (rec T (args_with t (drop 1 (items r))))
      rec_meets T = record { run = λ a l C X s room q. rec_in T a l C X s room q }

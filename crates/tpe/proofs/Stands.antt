-- What interpretation over words leaves stands for what the numbered interpretation leaves: one block more on the log, whose tree it is,
-- and the values with those made. The words a₀ hold the sheet at the start; a and l are the words and the log before a node. Assumes nothing.
use mathlib.Core.Path.{◌≡◌, refl, sym, ◌∙◌, ap, ap₂, subst, fun_ext}
use mathlib.Core.Bool.{Bool, true, false}
use mathlib.Core.List.{List, [], ◌∷◌, ◌++◌, append_assoc}
use Prim.Native.Nat.{ℕ, zero, suc, ◌+◌, ◌-◌, ◌*◌, ◌≤◌, ◌<◌}
use native.Mathlib.Omega.{arith}
use borrow.Author.Tests.{lt-ltb, le-leb}
use lib.ListN.{length, get_or, take, drop, length-append}
use lib.Seq.{take-append_seam}
use Rattle.words.specs.Log.{appended}
use Rattle.words.proofs.Logs.{appended_is}
use mathlib.Core.Option.{some}
use Rattle.cedar.specs.Types.{Ty, Var}
use Rattle.cedar.specs.Residual.{Node, lit, err, ty_of, can_err, view}
use Rattle.cedar.specs.Rows.{Row}
use Rattle.cedar.specs.Numbered.{Out, out, make, made as mk}
use Rattle.sheet.specs.Forms.{Mode, NODE}
use Rattle.sheet.specs.State.{State, value_row}
use Rattle.sheet.specs.Content.{types, rows_in, schema, n_env}
use Rattle.table.specs.Layout.{rows_of, held, MADE, TOP, heap, Sound}
use Rattle.table.proofs.Held.{held_same}
use Rattle.value.specs.Lines.{value_lines}
use Rattle.value.specs.Made.{bool_row, number_of, with_value, room_for}
use Rattle.value.proofs.Interned.{Formed, Formeds, made_is, Interning}
use Rattle.residual.specs.Rows.{lit_row, err_row, left_row, word_at, stage_at}
use Rattle.residual.specs.Errs.{errs}
use Rattle.residual.specs.Trees.{Res, rlit, rerr, rleft, Ress, flat, flats, count_res, left_tree, suits, ty_at, tree_of, trees_of, Whole, whole_lit, whole_err, whole_left, Wholes, whole_none, whole_more}
use Rattle.residual.proofs.Meaning.{stage_for, stage_is, type_is, can_error_is}
use Rattle.lookup.specs.Lookups.{env_by}
use Rattle.lookup.proofs.Halving.{Single, single_env}
use Rattle.tpe.proofs.Reach.{reach, asks, reach_most, reach_asked}
use Rattle.tpe.specs.Run.{O, lit_of, err_of, left_of, made_of, schema_in, ty_in, env_in}

-- what stands at place i of a list, and what is after it
pub drop_here : {A : Type 0} (d : A) (l : List A) (i : ℕ) (x : A) (q : List A) → drop i l ≡ x ∷ q → (get_or l i d ≡ x) × (drop (suc i) l ≡ q)
drop_here d [] zero x q e = let z : ◌≡◌ {A = ℕ} 0 1 = cc in absurd (omega arith)
drop_here d [] (suc i) x q e = let z : ◌≡◌ {A = ℕ} 0 1 = cc in absurd (omega arith)
drop_here d (y ∷ l) zero x q e = (cc, cc)
drop_here d (y ∷ l) (suc i) x q e = drop_here d l i x q e

-- ---- the words

-- the rows of the sheet and of the policies that run are those of a₀, the values are as they should be, and each entity line is the first of its entity
pub record Hold (a₀ a : List ℕ) : Type 0 where
  pub sound : Sound a
  pub formed : Formeds (value_lines a)
  pub same : (k : ℕ) → k < MADE → rows_of a k ≡ rows_of a₀ k
  pub single : Single (held [] a₀ [])

abbrev pub values : List ℕ → List Row
values a = rows_in (value_lines a)

-- the words hold the same sheet
pub same_sheet : (sheet a₀ a : List ℕ) → Hold a₀ a → held sheet a [] ≡ held sheet a₀ []
same_sheet sheet a₀ a h = held_same sheet a₀ a [] [] (λ k lt. h.same k (omega (arith, lt))) refl

module _ (m : Mode) (sheet a₀ a : List ℕ) (h : Hold a₀ a) where
  pub schema_is : schema_in m sheet a ≡ schema (held sheet a₀ [])
  unfolding schema_in
  schema_is = ap schema (same_sheet sheet a₀ a h)

  pub types_are : (y : ℕ) → ty_in m sheet a y ≡ ty_at (types (held sheet a₀ [])) (rows_of a₀ NODE) y
  unfolding ty_in
  types_are y = ap (λ (s : State). ty_at (types s) (rows_of a₀ NODE) y) (same_sheet sheet a₀ a h)

  pub env_is : env_in m sheet a ≡ n_env m (held [] a₀ [])
  unfolding env_in
  env_is = ap (n_env m) (same_sheet [] a₀ a h)

  -- whatever value is looked up
  pub env_at : (v : ℕ) → env_by m a v ≡ n_env m (held [] a₀ [])
  env_at v = single_env a (subst Single (sym (same_sheet [] a₀ a h)) h.single) m v ∙ ap (n_env m) (same_sheet [] a₀ a h)

  pub env_by_law : env_by m a ≡ (λ (v : ℕ). n_env m (held [] a₀ []))
  env_by_law = fun_ext env_at

-- ---- room

-- for n nodes: each makes at most one value, and what they make takes three words for each, beside what the request makes
pub record Room (n : ℕ) (a l : List ℕ) : Type 0 where
  pub top : reach a + 3 * n ≤ 16384
  pub few : get_or a MADE 0 + n ≤ 1024
  pub log : length l + 6 * n ≤ 16384

-- from a to a₁ so little was used that a row of w words more is within n nodes
pub record Space (w n : ℕ) (a a₁ : List ℕ) : Type 0 where
  pub top : reach a₁ + w + 2 ≤ reach a + 3 * n
  pub few : get_or a₁ MADE 0 + 1 ≤ get_or a MADE 0 + n

-- from a to a₁ no more was used than n nodes may
pub record Spent (n : ℕ) (a a₁ : List ℕ) : Type 0 where
  pub top : reach a₁ + 2 ≤ reach a + 3 * n
  pub few : get_or a₁ MADE 0 ≤ get_or a MADE 0 + n

pub space_spent : (w n : ℕ) (a a₁ : List ℕ) → Space w n a a₁ → Spent n a a₁
space_spent w n a a₁ s = record { top = omega (arith, s.top); few = omega (arith, s.few) }

-- ---- what stands on the log

module _ (sheet a₀ : List ℕ) where
  abbrev pub tys : List Ty
  tys = types (held sheet a₀ [])

  abbrev pub nodes : List (List ℕ)
  nodes = rows_of a₀ NODE

  -- the type of number y
  abbrev pub ty : ℕ → Ty
  ty y = ty_at tys nodes y

  -- o is X: a block of at most d levels, of at most n nodes and their room
  pub record Is (d n : ℕ) (a l : List ℕ) (X : Out) (o : O) : Type 0 where
    pub res : Res
    pub log : o.log ≡ l ++ flat res
    pub short : length (flat res) ≤ 4 * n
    pub tree : tree_of tys nodes res ≡ X.tree
    pub whole : Whole tys nodes d res
    pub rows : values o.words ≡ X.rows
    pub hold : Hold a₀ o.words
    pub top : reach o.words + 2 ≤ reach a + 3 * n
    pub few : get_or o.words MADE 0 ≤ get_or a MADE 0 + n

  pub is_as : {d n : ℕ} {a l : List ℕ} {X Y : Out} {o : O} → Is d n a l X o → X ≡ Y → Is d n a l Y o
  is_as {d} {n} {a} {l} {o = o} i e = subst (λ (Z : Out). Is d n a l Z o) e i

  -- ---- a whole residual of d levels has more levels too

  mutual
    pub whole_up : {d : ℕ} {r : Res} → Whole tys nodes d r → (e : ℕ) → d ≤ e → Whole tys nodes e r
    whole_up (whole_lit {d = d} t) zero h = absurd (omega arith)
    whole_up (whole_lit {d = d} t) (suc e) h = whole_lit t
    whole_up (whole_err {d = d} t) zero h = absurd (omega arith)
    whole_up (whole_err {d = d} t) (suc e) h = whole_err t
    whole_up (whole_left {d = d} t s ws) zero h = absurd (omega arith)
    whole_up (whole_left {d = d} t s ws) (suc e) h = whole_left t s (wholes_up ws e (omega arith))

    pub wholes_up : {d : ℕ} {rs : Ress} → Wholes tys nodes d rs → (e : ℕ) → d ≤ e → Wholes tys nodes e rs
    wholes_up whole_none e h = whole_none
    wholes_up (whole_more w ws) e h = whole_more (whole_up w e h) (wholes_up ws e h)

  -- of a part: fewer levels, fewer nodes, and words reached on the way
  pub is_up : {d e n p : ℕ} {a a₁ l : List ℕ} {X : Out} {o : O} → Is d p a₁ l X o → d ≤ e → p ≤ n → reach a₁ + 3 * p ≤ reach a + 3 * n → get_or a₁ MADE 0 + p ≤ get_or a MADE 0 + n → Is e n a l X o
  is_up {e = e} i h k t f = record {
    res = i.res;
    log = i.log;
    short = omega (arith, i.short, k);
    tree = i.tree;
    whole = whole_up i.whole e h;
    rows = i.rows;
    hold = i.hold;
    top = omega (arith, i.top, t);
    few = omega (arith, i.few, f);
  }

  -- ---- a block within a log

  module _ {d : ℕ} (r : Res) (w : Whole tys nodes d r) (deep : d ≤ 64) (pre post log : List ℕ) (e : ℕ) (el : log ≡ pre ++ (flat r ++ post)) (ee : e ≡ length pre + length (flat r)) where
    pub stage_there : stage_at log e ≡ stage_for (view (tree_of tys nodes r))
    stage_there = rw (el, ee) (stage_is tys nodes r w pre post)

    pub type_there : ty (word_at log e 3) ≡ ty_of (tree_of tys nodes r)
    type_there = rw (el, ee) (type_is tys nodes r w pre post)

    pub errs_there : (a : List ℕ) → Hold a₀ a → errs (rows_of a NODE) log e ≡ can_err (tree_of tys nodes r)
    errs_there a h = rw (el, ee, h.same NODE (omega arith)) (can_error_is tys nodes r (whole_up w 64 deep) pre post)

  -- ---- pushes

  module _ (d n : ℕ) (one : 1 ≤ n) (a l a₁ : List ℕ) (room : Room n a l) (h : Hold a₀ a₁) where
    four : (xs : List ℕ) → length xs ≡ 4 → appended l xs ≡ l ++ xs
    four xs e = appended_is l xs (omega (arith, e, room.log))

    pub lit_is : Spent n a a₁ → (y v : ℕ) → y < length tys → Is (suc d) n a l (out (values a₁) (lit (ty y) v)) (lit_of a₁ l y v)
    unfolding lit_of flat tree_of
    lit_is s y v typed = record {
      res = rlit v y;
      log = four (lit_row v y) refl;
      short = omega arith;
      tree = refl;
      whole = whole_lit typed;
      rows = refl;
      hold = h;
      top = s.top;
      few = s.few;
    }

    pub err_is : Spent n a a₁ → (y : ℕ) → y < length tys → Is (suc d) n a l (out (values a₁) (err (ty y))) (err_of a₁ l y)
    unfolding err_of flat tree_of
    err_is s y typed = record {
      res = rerr y;
      log = four (err_row y) refl;
      short = omega arith;
      tree = refl;
      whole = whole_err typed;
      rows = refl;
      hold = h;
      top = s.top;
      few = s.few;
    }

    -- node c over the blocks rs
    pub left_is : Spent n a a₁ → (l₁ : List ℕ) (rs : Ress) → l₁ ≡ l ++ flats rs → length (flats rs) + 4 ≤ 4 * n → Wholes tys nodes d rs
        → (c k y : ℕ) → y < length tys → suits (get_or nodes c []) (count_res rs) ≡ true → (e : Node ℕ) → left_tree (get_or nodes c []) k (ty y) (trees_of tys nodes rs) ≡ e
        → Is (suc d) n a l (out (values a₁) e) (left_of a₁ l₁ (length l) c k y)
    unfolding left_of flat tree_of
    left_is s l₁ rs el sh ws c k y typed su e et = record {
      res = rleft c k y rs;
      log =
          let z : length l₁ ≡ length l + length (flats rs) = ap length el ∙ length-append l (flats rs) in
          let w : length l₁ - length l ≡ length (flats rs) = omega (arith, z) in
          appended_is l₁ (left_row c k (length l₁ - length l) y) (omega (arith, z, sh, room.log))
          ∙ ap₂ (λ (x : List ℕ) (j : ℕ). x ++ left_row c k j y) el w ∙ append_assoc l (flats rs) (left_row c k (length (flats rs)) y);
      short = omega (arith, length-append (flats rs) (left_row c k (length (flats rs)) y), sh);
      tree = et;
      whole = whole_left typed su ws;
      rows = refl;
      hold = h;
      top = s.top;
      few = s.few;
    }

    -- what making a row of at most w words leaves
    module _ (w : ℕ) (s : Space w n a a₁) (q : List ℕ) (f : Formed q) (short : length q ≤ w) where
      pub room_for_law : room_for a₁ (length q) ≡ true
      unfolding room_for
      room_for_law = rw (lt-ltb (get_or a₁ MADE 0) 1024 (omega (arith, s.few, room.few)), le-leb heap (get_or a₁ TOP 0) h.sound.over, le-leb (get_or a₁ TOP 0 + length q) 16384 (omega (arith, s.top, room.top, short)))

      pub made : Interning a₁ q
      made = made_is a₁ q h.sound h.formed f room_for_law

      pub made_hold : Hold a₀ (with_value a₁ q)
      made_hold = record { sound = made.kept.sound; formed = made.formed; same = λ k lt. made.kept.others k lt ∙ h.same k lt; single = h.single }

      pub made_top : reach (with_value a₁ q) + 2 ≤ reach a + 3 * n
      made_top = omega (arith, reach_most a₁ q made, s.top, short)

      pub made_few : get_or (with_value a₁ q) MADE 0 ≤ get_or a MADE 0 + n
      made_few = omega (arith, made.kept.few, s.few)

      pub make_is : (y : ℕ) → y < length tys → Is (suc d) n a l (make (ty y) (value_row q) (values a₁)) (made_of a₁ l y q)
      unfolding made_of lit_of flat tree_of
      make_is y typed = record {
        res = rlit (number_of a₁ q) y;
        log = four (lit_row (number_of a₁ q) y) refl;
        short = omega arith;
        tree = ap (lit (ty y)) made.number;
        whole = whole_lit typed;
        rows = made.rows;
        hold = made_hold;
        top = made_top;
        few = made_few;
      }

    pub make_bool : Space 3 n a a₁ → (b : Bool) (y : ℕ) → y < length tys → Is (suc d) n a l (make (ty y) (value_row (bool_row b)) (values a₁)) (made_of a₁ l y (bool_row b))
    make_bool s true y typed = make_is 3 s (bool_row true) refl (omega arith) y typed
    make_bool s false y typed = make_is 3 s (bool_row false) refl (omega arith) y typed

  -- a row that is asked
  module _ (d n : ℕ) (one : 1 ≤ n) (a l : List ℕ) (room : Room n a l) (h : Hold a₀ a) (q : List ℕ) (f : Formed q) (short : length q ≤ 3) (x : Var) (e : (asks a).request x ≡ some (mk (value_row q))) where
    asked_room : room_for a (length q) ≡ true
    unfolding room_for
    asked_room = rw (lt-ltb (get_or a MADE 0) 1024 (omega (arith, room.few, one)), le-leb heap (get_or a TOP 0) h.sound.over, le-leb (get_or a TOP 0 + length q) 16384 (omega (arith, room.top, one, short))) refl

    asked_made : Interning a q
    asked_made = made_is a q h.sound h.formed f asked_room

    pub make_asked : (y : ℕ) → y < length tys → Is (suc d) n a l (make (ty y) (value_row q) (values a)) (made_of a l y q)
    unfolding made_of lit_of flat tree_of
    make_asked y typed = record {
      res = rlit (number_of a q) y;
      log = four d n one a l a room h (lit_row (number_of a q) y) refl;
      short = omega arith;
      tree = ap (lit (ty y)) asked_made.number;
      whole = whole_lit typed;
      rows = asked_made.rows;
      hold = record { sound = asked_made.kept.sound; formed = asked_made.formed; same = λ k lt. asked_made.kept.others k lt ∙ h.same k lt; single = h.single };
      top = let r = reach_asked a q asked_made h.formed f short x e in omega (arith, r, one);
      few = let w = asked_made.kept.few in omega (arith, w, one);
    }

-- the log before is what is left where the last blocks are cut off
pub cut_back : (l xs log : List ℕ) → log ≡ l ++ xs → take (length l) log ≡ l
cut_back l xs log e = ap (take (length l)) e ∙ take-append_seam l xs

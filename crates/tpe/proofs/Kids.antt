-- The children of a set or record worked in turn. Assumes nothing.
use mathlib.Core.Path.{◌≡◌, refl, sym, ◌∙◌, ap, ap₂, subst}
use mathlib.Core.Bool.{Bool, false, cond, ◌||◌}
use mathlib.Core.Option.{Option, none, some}
use mathlib.Core.List.{List, [], ◌∷◌, ◌++◌, append_assoc, append-nil}
use Prim.Native.Nat.{ℕ, suc, ◌+◌, ◌-◌, ◌*◌, ◌≤◌}
use native.Mathlib.Omega.{arith}
use lib.ListN.{length, get_or, length-append}
use Rattle.cedar.specs.Value.{on_some}
use Rattle.cedar.specs.Residual.{Node, Stage, value, error, open', view, is_error}
use Rattle.cedar.specs.Rows.{Row}
use Rattle.cedar.specs.Numbered.{Out, cons_n}
use Rattle.sheet.specs.Forms.{Mode, NODE}
use Rattle.table.specs.Layout.{MADE}
use Rattle.residual.specs.Rows.{stage_at}
use Rattle.residual.specs.Trees.{Ress, rnil, rcons, flat, flats, count_res, trees_of, Wholes, whole_none, whole_more}
use Rattle.residual.proofs.Blocks.{flat_length}
use Rattle.residual.proofs.Meaning.{stage_for}
use Rattle.tpe.specs.Run.{O, Rec, Kids, join_of, kids_of, all_values, some_error, some_open}
use Rattle.tpe.proofs.Reach.{reach}
use Rattle.tpe.proofs.Stands.{Hold, values, Room, tys, nodes, Is}
use Rattle.tpe.proofs.Strict.{last_stage}
use Rattle.tpe.proofs.Logic.{Works}

-- ---- the results in turn

pub record Results : Type 0 where
  pub rows : List Row
  pub trees : List (Node ℕ)

abbrev pub results_of : List (List Row → Out) → List Row → Results
results_of [] R = record { rows = R; trees = [] }
results_of (K ∷ Ks) R = let o = K R in let t = results_of Ks o.rows in record { rows = t.rows; trees = o.tree ∷ t.trees }

-- ---- what the stages of the children say together

abbrev pub bad : List (Node ℕ) → Bool
bad [] = false
bad (e ∷ es) = is_error (view e) || bad es

abbrev pub vals : List (Node ℕ) → Option (List ℕ)
vals [] = some []
vals (e ∷ es) = cons_n (view e) (vals es)

pub joins : ℕ → List (Node ℕ) → ℕ
joins c [] = c
joins c (e ∷ es) = joins (join_of c (stage_for (view e))) es

join_one : (es : List (Node ℕ)) → joins some_error es ≡ some_error
unfolding joins join_of
join_one [] = refl
join_one (e ∷ es) = go (view e) (join_one es)
  where
    go : (s : Stage ℕ) → joins some_error es ≡ some_error → joins (join_of some_error (stage_for s)) es ≡ some_error
    go (value v) ih = ih
    go error ih = ih
    go open' ih = ih

join_two : (es : List (Node ℕ)) → joins some_open es ≡ cond (bad es) some_error some_open
unfolding joins join_of
join_two [] = refl
join_two (e ∷ es) = go (view e) (join_two es)
  where
    go : (s : Stage ℕ) → joins some_open es ≡ cond (bad es) some_error some_open → joins (join_of some_open (stage_for s)) es ≡ cond (is_error s || bad es) some_error some_open
    go (value v) ih = ih
    go error ih = join_one es
    go open' ih = ih

pub join_none : (es : List (Node ℕ)) → joins all_values es ≡ on_some (cond (bad es) some_error some_open) (vals es) (λ vs. all_values)
unfolding joins join_of
join_none [] = refl
join_none (e ∷ es) = go (view e) (join_none es)
  where
    both : (b : Bool) (v : ℕ) (o : Option (List ℕ)) → ◌≡◌ {A = ℕ} (on_some (cond b some_error some_open) o (λ vs. all_values)) (on_some (cond b some_error some_open) (cons_n (value v) o) (λ vs. all_values))
    both b v none = refl
    both b v (some l) = refl

    go : (s : Stage ℕ) → joins all_values es ≡ on_some (cond (bad es) some_error some_open) (vals es) (λ vs. all_values) → joins (join_of all_values (stage_for s)) es ≡ on_some (cond (is_error s || bad es) some_error some_open) (cons_n s (vals es)) (λ vs. all_values)
    go (value v) ih = ih ∙ both (bad es) v (vals es)
    go error ih = join_one es
    go open' ih = join_two es

-- ---- the children worked

module _ (m : Mode) (sheet a₀ : List ℕ) (P : List Row → Type 0) where
  -- each node works, keeps P, and has so many nodes
  pub data Kid (d : ℕ) (f : Rec) : List ℕ → List (List Row → Out) → ℕ → Type 0 where
    kid_none : Kid d f [] [] 0
    kid_more : {x q n : ℕ} {K : List Row → Out} {xs : List ℕ} {Ks : List (List Row → Out)} → Works m sheet a₀ P d q f x K → ((R : List Row) → P R → P (K R).rows) → Kid d f xs Ks n → Kid d f (x ∷ xs) (K ∷ Ks) (q + n)

  pub record Are (d n : ℕ) (a l : List ℕ) (t : Results) (c count : ℕ) (k : Kids) : Type 0 where
    pub ress : Ress
    pub log : k.log ≡ l ++ flats ress
    pub short : length (flats ress) ≤ 4 * n
    pub trees : trees_of (tys sheet a₀) (nodes sheet a₀) ress ≡ t.trees
    pub wholes : Wholes (tys sheet a₀) (nodes sheet a₀) d ress
    pub rows : values k.words ≡ t.rows
    pub hold : Hold a₀ k.words
    pub counted : count_res ress ≡ count
    pub many : count ≤ n
    pub top : reach k.words + 2 * count ≤ reach a + 3 * n
    pub few : get_or k.words MADE 0 ≤ get_or a MADE 0 + n
    pub join : k.join ≡ joins c t.trees

  pub are_as : {d n c count : ℕ} {a l : List ℕ} {t u : Results} {k : Kids} → Are d n a l t c count k → t ≡ u → Are d n a l u c count k
  are_as {d} {n} {c} {count} {a} {l} {k = k} h e = subst (λ (z : Results). Are d n a l z c count k) e h

  -- the first child, then the others
  module _ {d q n count : ℕ} {a l : List ℕ} {o : O} {k : Kids} (c : ℕ) (K : List Row → Out) (Ks : List (List Row → Out)) (deep : d ≤ 64) (i : Is sheet a₀ d q a l (K (values a)) o)
      (t : Are d n o.words o.log (results_of Ks (values o.words)) (join_of c (stage_at o.log (length o.log))) count k) where
    one_more : Are d (q + n) a l (results_of (K ∷ Ks) (values a)) c (suc count) k
    unfolding flats trees_of joins
    one_more = record {
      ress = rcons i.res t.ress;
      log = t.log ∙ ap (λ (z : List ℕ). z ++ flats t.ress) i.log ∙ append_assoc l (flat i.res) (flats t.ress);
      short = omega (arith, i.short, t.short, length-append (flat i.res) (flats t.ress));
      trees = ap₂ (λ (y : Node ℕ) (ys : List (Node ℕ)). y ∷ ys) i.tree (t.trees ∙ ap (λ (R : List Row). (results_of Ks R).trees) i.rows);
      wholes = whole_more i.whole t.wholes;
      rows = t.rows ∙ ap (λ (R : List Row). (results_of Ks R).rows) i.rows;
      hold = t.hold;
      counted = ap suc t.counted;
      many = omega (arith, t.many, i.short, flat_length i.res);
      top = omega (arith, t.top, i.top);
      few = omega (arith, t.few, i.few);
      join = t.join ∙ ap₂ joins (ap (join_of c) (last_stage sheet a₀ deep i)) (ap (λ (R : List Row). (results_of Ks R).trees) i.rows);
    }

  -- room for the first, and for the others after it
  first_room : (q n : ℕ) {a l : List ℕ} → Room (q + n) a l → Room q a l
  first_room q n room = record { top = omega (arith, room.top); few = omega (arith, room.few); log = omega (arith, room.log) }

  rest_room : {d q n : ℕ} {a l : List ℕ} {X : Out} {o : O} → Is sheet a₀ d q a l X o → Room (q + n) a l → Room n o.words o.log
  rest_room {l = l} i room = record {
    top = omega (arith, room.top, i.top);
    few = omega (arith, room.few, i.few);
    log = omega (arith, room.log, ap length i.log, length-append l (flat i.res), i.short);
  }

  with_first : {d q n count : ℕ} {a l : List ℕ} {o : O} {k : Kids} (c : ℕ) (K : List Row → Out) (Ks : List (List Row → Out)) → d ≤ 64 → Is sheet a₀ d q a l (K (values a)) o
      → (Is sheet a₀ d q a l (K (values a)) o → Are d n o.words o.log (results_of Ks (values o.words)) (join_of c (stage_at o.log (length o.log))) count k)
      → Are d (q + n) a l (results_of (K ∷ Ks) (values a)) c (suc count) k
  with_first c K Ks deep i t = one_more c K Ks deep i (t i)

  -- node c has the children xs: each is the last of s words of its row, from word i on
  abbrev pub Takes : ℕ → ℕ → ℕ → List ℕ → Type 0
  Takes c s i [] = Unit {0}
  Takes c s i (x ∷ xs) = (get_or (get_or (nodes sheet a₀) c []) (i + s - 1) 0 ≡ x) × Takes c s (i + s) xs

  pub kids_are : {d : ℕ} (deep : d ≤ 64) (f : Rec) {n : ℕ} {xs : List ℕ} {Ks : List (List Row → Out)} (c s i : ℕ) → Kid d f xs Ks n → Takes c s i xs → (a l : List ℕ) (j : ℕ) → Hold a₀ a → P (values a) → Room n a l
      → Are d n a l (results_of Ks (values a)) j (length xs) (kids_of f c s i a l j (length xs))
  unfolding kids_of flats trees_of joins
  kids_are deep f c s i kid_none t a l j h good room = record {
    ress = rnil;
    log = sym (append-nil l);
    short = omega arith;
    trees = refl;
    wholes = whole_none;
    rows = refl;
    hold = h;
    counted = refl;
    many = omega arith;
    top = omega arith;
    few = omega arith;
    join = refl;
  }
  kids_are {d} deep f c s i (kid_more {x = x} {q = q} {n = n} {K = K} {xs = xs} {Ks = Ks} g keeps kid) t a l j h good room =
      subst
      (λ (y : ℕ). Are d (q + n) a l (results_of (K ∷ Ks) (values a)) j (suc (length xs)) (kids_of f c s (i + s) (f a l y).words (f a l y).log (join_of j (stage_at (f a l y).log (length (f a l y).log))) (length xs)))
      (sym (ap (λ (z : List (List ℕ)). get_or (get_or z c []) (i + s - 1) 0) (h.same NODE (omega arith)) ∙ t.0))
      (with_first j K Ks deep (g a l h good (first_room q n room))
      (λ o. kids_are deep f c s (i + s) kid t.1 (f a l x).words (f a l x).log (join_of j (stage_at (f a l x).log (length (f a l x).log))) o.hold (subst P (sym o.rows) (keeps (values a) good)) (rest_room o room)))

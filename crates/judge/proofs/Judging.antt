-- The refusals of a row in number order, and what is left of the words. Assumes nothing.
use mathlib.Core.Path.{◌≡◌, refl, sym, ap, ap₂, subst, ◌∙◌}
use mathlib.Core.Bool.{Bool, true, false, cond, not, ◌||◌}
use mathlib.Core.List.{List, [], ◌∷◌, ◌++◌, append-nil}
use Prim.Native.Nat.{ℕ, ◌+◌, ◌-◌, ◌≤◌, ◌<◌}
use native.Mathlib.Omega.{arith}
use native.Mathlib.Decide.{ℕ_discrete, dec_lt}
use borrow.Author.Tests.{ne_eqb, ltb-false, leb-false, not-true, not-false}
use lib.Dec.{leb, ltb}
use lib.ListN.{length, get_or, take, drop, drop_of_length-le, get_or-eq_default}
use lib.Seq.{drop-drop, length-take-le, take_all}
use Rattle.std.specs.Prelude.{Option, Some, None}
use Rattle.std.proofs.lemmas.Option.{none-some, cond_some}
use Rattle.words.specs.Log.{room}
use Rattle.words.proofs.Stores.{get_d_below, part_below}
use Rattle.sheet.specs.Forms.{form_of, first_node, tag, key_of, refs, TEXT, ENTITY, NODE, no_key}
use Rattle.sheet.specs.State.{State, lines_of, count}
use Rattle.sheet.specs.Typing.{typed}
use Rattle.sheet.specs.Sheet.{greatest, overused, in_order, too_many, found, depth, used_twice, marked, fault_of}
use Rattle.table.specs.Layout.{TYPEDEPTHS, USES, depths_at, held, row_in}
use Rattle.table.proofs.Rows.{key_low}
use Rattle.table.proofs.Held.{used_of, depths_kept}
use Rattle.fits.specs.Fit.{SettledIn, Known, Answered}
use Rattle.fits.proofs.Remembered.{cleared, known_words}
use Rattle.seen.specs.Seen.{Unlike}
use Rattle.uses.specs.Under.{Noted}
use Rattle.uses.specs.Uses.{uses_in, BY_NODE, BY_POLICY, mark_of, Marked}
use Rattle.typing.specs.Links.{Shown}
use Rattle.typing.specs.Rules.{node_rule, Typed}
use Rattle.typing.proofs.KeyRules.{line_node}
use Rattle.typing.proofs.Joined.{typed_is}
use Rattle.judge.specs.Verdicts.{NewDepth, TypedLine, Judged}
use Rattle.judge.proofs.Alike.{order_alike, many_alike, refs_alike, new_other}

-- ---- the chain of refusals

module _ (s : State) (k : ℕ) (r : List ℕ) where
  fault_order : in_order s k ≡ false → fault_of s k r ≡ 3
  fault_order e = rw e refl

  module _ (o : in_order s k ≡ true) where
    fault_many : too_many s k r ≡ true → fault_of s k r ≡ 4
    fault_many e = rw (o, e) refl

    module _ (u : too_many s k r ≡ false) where
      fault_found : found s k r ≡ false → fault_of s k r ≡ 5
      fault_found e = rw (o, u, e) refl

      module _ (n : found s k r ≡ true) where
        fault_deep : ltb 64 (depth s k r) ≡ true → fault_of s k r ≡ 6
        fault_deep e = rw (o, u, n, e) refl

        module _ (d : ltb 64 (depth s k r) ≡ false) where
          fault_typed : typed s r k ≡ false → fault_of s k r ≡ 7
          fault_typed e = rw (o, u, n, d, e) refl

          module _ (y : typed s r k ≡ true) where
            fault_used : used_twice s.used (refs NODE r) ≡ true → fault_of s k r ≡ 8
            fault_used e = rw (o, u, n, d, y, e) refl

            fault_none : used_twice s.used (refs NODE r) ≡ false → fault_of s k r ≡ 0
            fault_none e = rw (o, u, n, d, y, e) refl

-- ---- what is remembered of pairs stands in the first words

known_below : (a m m' : List ℕ) → take USES m' ≡ take USES m → Known a m → Known a m'
known_below a m m' e k = known_words a m m' (λ i h. get_d_below USES m m' e i (omega arith)) k

-- the words past the uses of nodes stand past the pairs
later : (b b₁ : List ℕ) → drop TYPEDEPTHS b₁ ≡ drop TYPEDEPTHS b → drop (USES + 1024) b₁ ≡ drop (USES + 1024) b
later b b₁ q = sym (drop-drop 3200 TYPEDEPTHS b₁) ∙ ap (drop 3200) q ∙ drop-drop 3200 TYPEDEPTHS b

-- ---- `typed_line`

-- nothing is remembered in no words
pub known_none : (a b : List ℕ) → Known a (take (0 - 0) (drop 0 b))
known_none a b = cleared a (take (0 - 0) (drop 0 b)) (λ i h. refl)

none_lent : (m b : List ℕ) → length m ≡ 0 → m ++ b ≡ b
none_lent [] b e = refl
none_lent (x ∷ m) b e = absurd (omega arith)

-- no words were lent, so the words are as they were
pub typed_early : (a b m r : List ℕ) (k : ℕ) (v : Bool) → Known a b → Typed a (take (0 - 0) (drop 0 b)) m r k v → length m ≡ 0 → TypedLine a b (m ++ b) r k v
typed_early a b m r k v known t e =
    rw (none_lent m b e) (record { is = t.is; known = known; early = λ h. refl; rest = refl })

pub typed_late : (a b b' r : List ℕ) (k : ℕ) (v : Bool) → Typed a b b' r k v → ENTITY ≤ k → TypedLine a b b' r k v
typed_late a b b' r k v t h =
    record {
      is = t.is;
      known = t.known;
      early = λ l. absurd (omega arith);
      rest = t.rest;
    }

-- ---- `judge_node`

pub typed_node : (a b b' r : List ℕ) (v : Bool) → Answered a b b' (node_rule a r (tag r - first_node)) v → TypedLine a b b' r NODE v
typed_node a b b' r v q = typed_late a b b' r NODE v (typed_is a b b' r NODE v (line_node a r NODE b b' v refl q)) (omega arith)

pub depth_node : (sheet a b r : List ℕ) (d : Option ℕ) → key_of r ≡ NODE → d ≡ cond (found (held [] a []) NODE r) (Some (depth (held [] a b) NODE r)) None → NewDepth sheet a b r NODE d
depth_node sheet a b r d e = new_other sheet a b NODE r d (sym e) (λ q. absurd (omega arith))

module _ (a b r b' : List ℕ) (v : Bool) where
  pub marked_node : key_of r ≡ NODE → Marked BY_NODE a b (refs NODE r) b' v → Marked (mark_of (key_of r)) a b (refs NODE r) b' v
  marked_node e m = rw e m

  pub marked_other : (k : ℕ) → k ≡ key_of r → (k ≡ NODE → ⊥) → Marked BY_POLICY a b (refs NODE r) b' v → Marked (mark_of (key_of r)) a b (refs NODE r) b' v
  marked_other k e n m = rw (ne_eqb (key_of r) NODE (λ q. n (e ∙ q))) m

-- ---- a row's key

pub key_of_row : (r : List ℕ) (t k : ℕ) → t ≡ tag r → k ≡ (form_of t).key → k ≡ key_of r
unfolding key_of
key_of_row r t k ht hk = hk ∙ ap (λ (x : ℕ). (form_of x).key) ht

pub key_in_table : (r : List ℕ) (k : ℕ) → k ≡ key_of r → k ≤ no_key
unfolding key_of
key_in_table r k e = rw e (key_low (tag r))

-- a key that has room is a line's
pub line_key : (s : State) (k : ℕ) → leb (get_or (greatest s) k 0) (count s k) ≡ false → k < no_key
line_key s k e = go (dec_lt k no_key)
  where
    go : Dec (k < no_key) → k < no_key
    go (yes h) = h
    go (no h) = absurd (omega (arith, leb-false (get_or (greatest s) k 0) (count s k) e, get_or-eq_default (greatest s) 0 {n = k} (omega arith)))

pub key_of_line : (a : List ℕ) (k : ℕ) (r : List ℕ) (u : Bool) → u ≡ too_many (held [] a []) k r → u ≡ false → k < no_key
key_of_line a k r u e f = line_key (held [] a []) k (neither (leb (get_or (greatest (held [] a [])) k 0) (count (held [] a []) k)) (overused (held [] a []) k r) (sym e ∙ f))
  where
    neither : (x y : Bool) → (x || y) ≡ false → x ≡ false
    neither true y h = h
    neither false y h = refl

-- a depth that is not too deep is one word
pub depth_low : (g : ℕ) (v : Bool) → v ≡ ltb 64 g → v ≡ false → g < 4294967296
depth_low g v e f = omega (arith, ltb-false 64 g (sym e ∙ f))

-- ---- slices of 16,384 words, cut to so many

-- the slice is its front
pub front : (w : List ℕ) → length w ≡ room → take room w ≡ w
front w l = take_all room w (omega arith)

pub front_long : (w : List ℕ) → length w ≡ room → room ≡ length (take room w)
front_long w l = sym (length-take-le room w (omega arith))

module _ (sheet a b r : List ℕ) (long_a : length a ≡ room) (long_b : length b ≡ room) where
  pub known_front : Known a b → Known (take room a) (take room b)
  known_front h = rw (front a long_a, front b long_b) h

  pub noted_front : Noted a b → Noted (take room a) (take room b)
  noted_front h = rw (front a long_a, front b long_b) h

  pub unlike_front : (new : Bool) → Unlike (row_in sheet (key_of r) r) (lines_of (held sheet a b) (key_of r)) new → Unlike (row_in sheet (key_of r) r) (lines_of (held sheet (take room a) (take room b)) (key_of r)) new
  unlike_front new h = rw (front a long_a, front b long_b) h

  pub order_front : (k : ℕ) → in_order (held sheet a b) k ≡ true → in_order (held [] (take room a) []) k ≡ true
  order_front k h = rw (front a long_a) (order_alike a sheet b k ∙ h)

  -- nothing stands past the front
  judged_back : (q : List ℕ) (f n d : ℕ) → Judged sheet (take room a) (take room b) r q f n d → Judged sheet a b r (q ++ drop room b) f n d
  judged_back q f n d j =
      let e : q ++ drop room b ≡ q = ap (λ (x : List ℕ). q ++ x) (drop_of_length-le b {i = room} (omega arith)) ∙ append-nil q in
      rw e (subst (λ (y : List ℕ). Judged sheet a y r q f n d) (front b long_b) (subst (λ (x : List ℕ). Judged sheet x (take room b) r q f n d) (front a long_a) j))

-- ---- `judge`

module _ (sheet rows work r : List ℕ) (long_a : length rows ≡ room) (long_b : length work ≡ room) (known : Known rows work) (k : ℕ) (key_is : k ≡ key_of r) where
  abbrev a : List ℕ
  a = take room rows

  abbrev b : List ℕ
  b = take room work

  back : (q : List ℕ) (f n d : ℕ) → Judged sheet a b r q f n d → Judged sheet rows work r (q ++ drop room work) f n d
  back = judged_back sheet rows work r long_a long_b

  -- a refusal before the words change
  stop : (f n d : ℕ) → (f ≡ 0 → ⊥) → fault_of (held sheet a b) (key_of r) (row_in sheet (key_of r) r) ≡ f → Judged sheet rows work r (take room work ++ drop room work) f n d
  stop f n d z e =
      back b f n d (record {
        number = λ s w. sym e;
        key = λ q. absurd (z q);
        deep = λ q. absurd (z q);
        uses = λ q. absurd (z q);
        known = known_front sheet rows work r long_a long_b known;
        early = λ h i l. refl;
        depths = λ i m h l. refl;
        rest = λ h. refl;
      })

  module _ (o : Bool) (ho : o ≡ in_order (held [] a []) k) where
    order_is : o ≡ in_order (held sheet a b) (key_of r)
    order_is = ho ∙ order_alike a sheet b k ∙ ap (in_order (held sheet a b)) key_is

    pub judged_3 : not o ≡ true → (f n d : ℕ) → f ≡ 3 → Judged sheet rows work r (take room work ++ drop room work) f n d
    judged_3 h f n d e = stop f n d (λ q. absurd (omega arith)) (fault_order (held sheet a b) (key_of r) (row_in sheet (key_of r) r) (sym order_is ∙ not-true o h) ∙ sym e)

    module _ (po : not o ≡ false) (u : Bool) (hu : u ≡ too_many (held [] a []) k r) where
      many_is : u ≡ too_many (held sheet a b) (key_of r) (row_in sheet (key_of r) r)
      many_is = hu ∙ many_alike a sheet b k r ∙ ap (λ (x : ℕ). too_many (held sheet a b) x (row_in sheet x r)) key_is

      ordered : in_order (held sheet a b) (key_of r) ≡ true
      ordered = sym order_is ∙ not-false o po

      pub judged_4 : u ≡ true → (f n d : ℕ) → f ≡ 4 → Judged sheet rows work r (take room work ++ drop room work) f n d
      judged_4 h f n d e = stop f n d (λ q. absurd (omega arith)) (fault_many (held sheet a b) (key_of r) (row_in sheet (key_of r) r) ordered (sym many_is ∙ h) ∙ sym e)

      module _ (pu : u ≡ false) where
        depth_is : (o : Option ℕ) → NewDepth sheet a b r k o → o ≡ cond (found (held sheet a b) (key_of r) (row_in sheet (key_of r) r)) (Some (depth (held sheet a b) (key_of r) (row_in sheet (key_of r) r))) None
        depth_is o h = h.is ∙ ap (λ (x : ℕ). cond (found (held sheet a b) x (row_in sheet x r)) (Some (depth (held sheet a b) x (row_in sheet x r))) None) key_is

        pub judged_5 : NewDepth sheet a b r k None → (f n d : ℕ) → f ≡ 5 → Judged sheet rows work r (take room work ++ drop room work) f n d
        judged_5 h f n d e =
            stop f n d (λ q. absurd (omega arith))
            (fault_found (held sheet a b) (key_of r) (row_in sheet (key_of r) r) ordered (sym many_is ∙ pu) (go (found (held sheet a b) (key_of r) (row_in sheet (key_of r) r)) (depth_is None h)) ∙ sym e)
          where
            go : (t : Bool) → None ≡ cond t (Some (depth (held sheet a b) (key_of r) (row_in sheet (key_of r) r))) None → t ≡ false
            go true q = absurd (none-some _ q)
            go false q = refl

        module _ (g : ℕ) (hg : NewDepth sheet a b r k (Some g)) where
          there : (found (held sheet a b) (key_of r) (row_in sheet (key_of r) r) ≡ true) × (depth (held sheet a b) (key_of r) (row_in sheet (key_of r) r) ≡ g)
          there = cond_some _ _ g (sym (depth_is (Some g) hg))

          found_is : found (held sheet a b) (key_of r) (row_in sheet (key_of r) r) ≡ true
          found_is = there.0

          deep_is : g ≡ depth (held sheet a b) (key_of r) (row_in sheet (key_of r) r)
          deep_is = sym there.1

          module _ (v : Bool) (hv : v ≡ ltb 64 g) where
            limit_is : ltb 64 (depth (held sheet a b) (key_of r) (row_in sheet (key_of r) r)) ≡ v
            limit_is = ap (ltb 64) (sym deep_is) ∙ sym hv

            pub judged_6 : v ≡ true → (f n d : ℕ) → f ≡ 6 → Judged sheet rows work r (take room work ++ drop room work) f n d
            judged_6 h f n d e =
                stop f n d (λ q. absurd (omega arith))
                (fault_deep (held sheet a b) (key_of r) (row_in sheet (key_of r) r) ordered (sym many_is ∙ pu) found_is (limit_is ∙ h) ∙ sym e)

            module _ (pg : v ≡ false) (b₁ : List ℕ) (y : Bool) (hy : TypedLine a b b₁ r k y) where
              shallow : ltb 64 (depth (held sheet a b) (key_of r) (row_in sheet (key_of r) r)) ≡ false
              shallow = limit_is ∙ pg

              typed_row : (j : ℕ) → typed (held sheet a b) r j ≡ typed (held sheet a b) (row_in sheet j r) j
              unfolding typed
              typed_row j = go (ℕ_discrete j TEXT)
                where
                  go : Dec (j ≡ TEXT) → typed (held sheet a b) r j ≡ typed (held sheet a b) (row_in sheet j r) j
                  go (yes d) = rw d refl
                  go (no d) = rw (ne_eqb j TEXT d) refl

              type_is : SettledIn a → Shown a → y ≡ typed (held sheet a b) (row_in sheet (key_of r) r) (key_of r)
              type_is s w = hy.is sheet b s w ∙ typed_row k ∙ ap (λ (x : ℕ). typed (held sheet a b) (row_in sheet x r) x) key_is

              early₁ : key_of r < ENTITY → b₁ ≡ b
              early₁ h = hy.early (rw key_is h)

              pub judged_7 : not y ≡ true → (f n d : ℕ) → f ≡ 7 → Judged sheet rows work r (b₁ ++ drop room work) f n d
              judged_7 h f n d e =
                  back b₁ f n d (record {
                    number = λ s w. e ∙ sym (fault_typed (held sheet a b) (key_of r) (row_in sheet (key_of r) r) ordered (sym many_is ∙ pu) found_is shallow (sym (type_is s w) ∙ not-true y h));
                    key = λ q. absurd (omega arith);
                    deep = λ q. absurd (omega arith);
                    uses = λ q. absurd (omega arith);
                    known = hy.known;
                    early = λ h i l. ap (λ (x : List ℕ). get_or x i 0) (early₁ h);
                    depths = λ i m h l. depths_kept b b₁ i m h hy.rest;
                    rest = λ h. later b b₁ hy.rest;
                  })

              module _ (py : not y ≡ false) (b₂ : List ℕ) (x : Bool) (hx : Marked (mark_of (key_of r)) a b₁ (refs NODE r) b₂ x) where
                uses_same : uses_in a b₁ ≡ uses_in a b
                uses_same = depths_kept b b₁ USES (get_or a NODE 0) (omega arith) hy.rest

                refs_same : refs NODE r ≡ refs NODE (row_in sheet (key_of r) r)
                refs_same = sym (refs_alike sheet (key_of r) NODE r refl)

                twice_is : x ≡ used_twice (held sheet a b).used (refs NODE (row_in sheet (key_of r) r))
                twice_is = hx.twice_is ∙ ap₂ used_twice uses_same refs_same ∙ ap (λ (l : List ℕ). used_twice l (refs NODE (row_in sheet (key_of r) r))) (sym (used_of sheet a b))

                kept_part : (i m : ℕ) → TYPEDEPTHS ≤ i → i + m ≤ USES → depths_at b₂ i m ≡ depths_at b i m
                kept_part i m h l =
                    let z : i + m - i ≡ m = omega arith in
                    subst (λ (c : ℕ). take c (drop i b₂) ≡ take c (drop i b₁)) z (part_below USES b₁ b₂ hx.below i (i + m) (omega arith) l) ∙ depths_kept b b₁ i m h hy.rest

                early₂ : key_of r < ENTITY → (i : ℕ) → i < TYPEDEPTHS → get_or b₂ i 0 ≡ get_or b i 0
                early₂ h i l = get_d_below USES b₁ b₂ hx.below i (omega arith) ∙ ap (λ (c : List ℕ). get_or c i 0) (early₁ h)

                rest₂ : get_or a NODE 0 ≤ 1024 → drop (USES + 1024) b₂ ≡ drop (USES + 1024) b
                rest₂ h = hx.above h ∙ later b b₁ hy.rest

                pub judged_8 : x ≡ true → (f n d : ℕ) → f ≡ 8 → Judged sheet rows work r (b₂ ++ drop room work) f n d
                judged_8 h f n d e =
                    back b₂ f n d (record {
                      number = λ s w. e ∙ sym (fault_used (held sheet a b) (key_of r) (row_in sheet (key_of r) r) ordered (sym many_is ∙ pu) found_is shallow (sym (type_is s w) ∙ not-false y py) (sym twice_is ∙ h));
                      key = λ q. absurd (omega arith);
                      deep = λ q. absurd (omega arith);
                      uses = λ q. absurd (omega arith);
                      known = known_below a b₁ b₂ hx.below hy.known;
                      early = early₂;
                      depths = kept_part;
                      rest = rest₂;
                    })

                pub judged_0 : x ≡ false → Judged sheet rows work r (b₂ ++ drop room work) 0 k g
                judged_0 h =
                    back b₂ 0 k g (record {
                      number = λ s w. sym (fault_none (held sheet a b) (key_of r) (row_in sheet (key_of r) r) ordered (sym many_is ∙ pu) found_is shallow (sym (type_is s w) ∙ not-false y py) (sym twice_is ∙ h));
                      key = λ q. key_is;
                      deep = λ q. deep_is;
                      uses = λ q. hx.uses h ∙ ap₂ (marked (mark_of (key_of r))) uses_same refs_same;
                      known = known_below a b₁ b₂ hx.below hy.known;
                      early = early₂;
                      depths = kept_part;
                      rest = rest₂;
                    })

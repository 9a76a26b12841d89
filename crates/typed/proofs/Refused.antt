-- What is refused with 7 has no type by content: a line in the state in which it is read, and the end of a reading.
use mathlib.Core.Path.{◌≡◌, refl, sym, ◌∙◌, ap, subst}
use mathlib.Core.Bool.{Bool, true, false, cond, ◌&&◌, ◌||◌, not}
use mathlib.Core.Option.{Option}
use mathlib.Core.List.{List, [], ◌∷◌, ◌++◌, append_assoc}
use Prim.Native.Nat.{ℕ, zero, suc, ◌<◌, ◌+◌}
use native.Mathlib.Nat.{le_of_suc-le-suc}
use native.Mathlib.Omega.{arith}
use borrow.Author.Tests.{ltb-true}
use lib.Dec.{ltb, eqb}
use lib.ListN.{length, get_or, length-append}
use Rattle.cedar.proofs.Tools.{no_true, and_left, both, eqb_self}
use Rattle.cedar.proofs.Kept.{ty_of_law}
use Rattle.cedar.proofs.TypingTestComplete.{check_complete, fits_complete}
use Rattle.cedar.specs.Types.{Ty, tbool, tent, trec, Attrs, anil, Fits, ty_same}
use Rattle.cedar.specs.Value.{vent, vrec, vset, Values, Fields, on_ent, on_set}
use Rattle.cedar.specs.Residual.{Expr, err, ty_of}
use Rattle.cedar.specs.Typing.{Typed}
use Rattle.cedar.specs.Entities.{KindsIn, no_kind, one_kind, TagsFit, no_tag, one_tag}
use Rattle.cedar.specs.TypingTest.{on_ent_ty, on_rec_ty, check}
use Rattle.cedar.specs.TypingTest as Test
use Rattle.sheet.specs.Ascii.{ascii}
use Rattle.sheet.specs.Bytes.{same, split, starts}
use Rattle.sheet.specs.Forms.{Mode, at, key_of, row_of, refs, mark, SHAPE, ENTITY, CONTEXT, NODE, POLICY, no_key, no_tag as pastTags}
use Rattle.sheet.specs.State.{State, empty, lines_of, count, line_at, before}
use Rattle.sheet.specs.Typing.{typed, is_slot, is_action, unknown_or}
use Rattle.sheet.specs.Sheet.{Reading, reads, in_order, too_many, found, depth, used_twice, fault, fault_of, more, go_on, line_read, ending, enough, first_unlinked, first_unused, reached_fit, first_unfit, entities_fit, before_line, reading, read}
use Rattle.sheet.specs.Content.{types, content_of, schema, tree_over, trees_from}
use Rattle.sheet.proofs.reading.Parsed.{tags_between, node_tags}
use Rattle.sheet.proofs.reading.Depths.{Reached, start, next}
use Rattle.typed.specs.ByContent.{type_in, on_rec, each_value, no_attrs, tags_by, kind_by, drafts, by_content, Untyped, of_line, of_entity}
use Rattle.typed.proofs.Parts.{blank, each_child, check_parts}
use Rattle.typed.proofs.Trees.{trees_ty, drafts_ty}
use Rattle.typed.proofs.LinesBoth.{reached_both, root_there}
use Rattle.typed.proofs.SevenByContent.{root_both, slot_passes, typed_both}

-- ---- the checks before 7

seven_says : (a b c d e f : Bool) → ◌≡◌ {A = ℕ} (cond (not a) 3 (cond b 4 (cond (not c) 5 (cond d 6 (cond (not e) 7 (cond f 8 0)))))) 7 → (a ≡ true) × (c ≡ true) × (e ≡ false)
seven_says false b c d e f q = absurd (omega (arith, q))
seven_says true true c d e f q = absurd (omega (arith, q))
seven_says true false false d e f q = absurd (omega (arith, q))
seven_says true false true true e f q = absurd (omega (arith, q))
seven_says true false true false true true q = absurd (omega (arith, q))
seven_says true false true false true false q = absurd (omega (arith, q))
seven_says true false true false false f q = (refl, refl, refl)

of_row : (s : State) (r : List ℕ) → fault s r ≡ 7 → fault_of s (key_of r) r ≡ 7
unfolding fault
of_row s [] e = absurd (omega (arith, e))
of_row s (t ∷ l) e = e

-- a part that may be unknown
known_part : (x : ℕ) (b : Bool) → (eqb x mark ≡ false → b ≡ true) → unknown_or x b ≡ true
known_part x b f = go (eqb x mark) refl
  where
    go : (c : Bool) → eqb x mark ≡ c → (c || b) ≡ true
    go true e = refl
    go false e = f e

tags_pass : {o : Option Ty} {fs : Fields} → TagsFit o fs → tags_by o fs ≡ true
tags_pass no_tag = refl
tags_pass (one_tag f g) = both (fits_complete f) (tags_pass g)

kinds_pass : {ls : List ℕ} {vs : Values} → KindsIn ls vs → each_value (kind_by ls) vs ≡ true
kinds_pass no_kind = refl
kinds_pass (one_kind a g) = both a (kinds_pass g)

module _ {m : Mode} {s : State} (h : Reached m s) (l : List ℕ) (seven : fault s (row_of m l) ≡ 7) where
  abbrev row : List ℕ
  row = row_of m l

  stood : (in_order s (key_of row) ≡ true) × (found s (key_of row) row ≡ true) × (typed s row (key_of row) ≡ false)
  stood = seven_says (in_order s (key_of row)) (too_many s (key_of row) row) (found s (key_of row) row) (ltb 64 (depth s (key_of row) row)) (typed s row (key_of row)) (used_twice s.used (refs NODE row)) (of_row s row seven)

  -- A LINE REFUSED WITH 7 IS UNTYPED BY CONTENT
  pub refused_by_content : by_content s (row_of m l) (key_of (row_of m l)) ≡ false
  refused_by_content = let (o, f, t) = stood in sym (typed_both h l o f) ∙ t

  refused_as : (k : ℕ) → key_of row ≡ k → by_content s row k ≡ false
  refused_as k e = subst (λ z. by_content s row z ≡ false) e refused_by_content

  -- ---- nodes: whatever trees of the slots' types stand for slots

  module _ (sl : Ty → ℕ → Expr) (own : (A : Ty) (x : ℕ) → ty_of (sl A x) ≡ A) where
    abbrev node_trees : List Expr
    node_trees = trees_from (types s) (content_of s) sl [] (lines_of s NODE)

    untyped_row : (r : List ℕ) → r ≡ row_of m l → key_of r ≡ NODE → in_order s NODE ≡ true → found s NODE r ≡ true → typed s r NODE ≡ false → is_slot r ≡ false → (A : Ty) → Typed (schema s) (tree_over (types s) (content_of s) sl node_trees r) A → ⊥
    unfolding typed key_of
    untyped_row [] e q o f refused ns A ty = let (lo, hi) = tags_between NODE 21 49 pastTags (omega arith) node_tags q in absurd (omega (arith, hi))
    untyped_row (t ∷ k) e q o f refused ns A ty =
        let tree = tree_over (types s) (content_of s) sl node_trees (t ∷ k) in
        let passes = and_left (check (schema s) (blank tree)) (each_child (check (schema s)) tree) (sym (check_parts (schema s) tree) ∙ check_complete (schema s) ty) in
        no_true (sym refused ∙ root_both h o sl own t k l e q f ns ∙ passes)

    -- THE TREE OF A NODE REFUSED WITH 7 HAS NO TYPE
    pub node_untyped : key_of (row_of m l) ≡ NODE → is_slot (row_of m l) ≡ false → (A : Ty) → Typed (schema s) (tree_over (types s) (content_of s) sl (trees_from (types s) (content_of s) sl [] (lines_of s NODE)) (row_of m l)) A → ⊥
    node_untyped q ns A ty = let (o, f, t) = stood in
        untyped_row row refl q (subst (λ k. in_order s k ≡ true) q o) (subst (λ k. found s k row ≡ true) q f) (subst (λ k. typed s row k ≡ false) q t) ns A ty

    -- THE ROOT OF A POLICY REFUSED WITH 7 IS NO BOOL
    pub policy_untyped : key_of (row_of m l) ≡ POLICY → Typed (schema s) (get_or (trees_from (types s) (content_of s) sl [] (lines_of s NODE)) (at (row_of m l) 2) (err tbool)) tbool → ⊥
    unfolding by_content
    policy_untyped q ty = let (o, f, t) = stood in
        let lt = root_there h row l refl q (subst (λ k. found s k row ≡ true) q f) in
        let bool_is : ty_of (get_or (drafts s) (at row 2) (err tbool)) ≡ tbool = drafts_ty h (at row 2) lt ∙ sym (trees_ty h sl own (at row 2) lt) ∙ ty_of_law ty in
        no_true (sym (refused_as POLICY q) ∙ ap (λ A. ty_same A tbool) bool_is)

  -- A SLOT REFUSED WITH 7 HAS NO ENTITY TYPE
  pub slot_untyped : key_of (row_of m l) ≡ NODE → is_slot (row_of m l) ≡ true → (k : ℕ) (ks : List ℕ) → type_in s (at (row_of m l) 0) ≡ tent k ks → ⊥
  unfolding by_content
  slot_untyped q e k ks ty = no_true (sym (refused_as NODE q) ∙ both (ap (λ b. not b || on_ent_ty false (type_in s (at row 0)) (λ ks. true)) e ∙ ap (λ A. on_ent_ty false A (λ ks. true)) ty) (slot_passes s row e))

  -- ---- other lines

  -- A CONTEXT REFUSED WITH 7 HAS NO RECORD TYPE, or is known and does not fit it
  pub context_untyped : key_of (row_of m l) ≡ CONTEXT → (R : Attrs) → type_in s (at (row_of m l) 0) ≡ trec R → (eqb (at (row_of m l) 1) mark ≡ false → Fits (content_of s (at (row_of m l) 1)) (trec R)) → ⊥
  unfolding by_content
  context_untyped q R ty fit = no_true (sym (refused_as CONTEXT q) ∙ ap (λ A. on_rec_ty false A (λ R. unknown_or (at row 1) (Test.fits (content_of s (at row 1)) (trec R)))) ty ∙ known_part (at row 1) (Test.fits (content_of s (at row 1)) (trec R)) (λ e. fits_complete (fit e)))

  -- A SHAPE REFUSED WITH 7 has no record type, or is an action kind's and not empty
  pub shape_untyped : key_of (row_of m l) ≡ SHAPE → (R : Attrs) → type_in s (at (row_of m l) 0) ≡ trec R → (is_action s (count s SHAPE) ≡ true → (R ≡ anil) × (at (row_of m l) 1 ≡ mark)) → ⊥
  unfolding by_content
  shape_untyped q R ty ok = no_true (sym (refused_as SHAPE q) ∙ ap (λ A. on_rec_ty false A (λ R. not (is_action s (count s SHAPE)) || (no_attrs R && eqb (at row 1) mark))) ty ∙ go (is_action s (count s SHAPE)) refl)
    where
      go : (b : Bool) → is_action s (count s SHAPE) ≡ b → (not b || (no_attrs R && eqb (at row 1) mark)) ≡ true
      go false e = refl
      go true e = both (ap no_attrs (ok e).0) (ap (λ x. eqb x mark) (ok e).1 ∙ eqb_self mark)

  -- AN ENTITY LINE REFUSED WITH 7 names no entity, or a known part of it does not fit the shape of its kind
  pub entity_untyped : key_of (row_of m l) ≡ ENTITY → (k t : ℕ) → content_of s (at (row_of m l) 0) ≡ vent k t
      → (eqb (at (row_of m l) 1) mark ≡ false → Fits (content_of s (at (row_of m l) 1)) (trec ((schema s).shape k).attrs))
      → (eqb (at (row_of m l) 2) mark ≡ false → (fs : Fields) × (content_of s (at (row_of m l) 2) ≡ vrec fs) × TagsFit ((schema s).shape k).tags fs)
      → (eqb (at (row_of m l) 3) mark ≡ false → (vs : Values) × (content_of s (at (row_of m l) 3) ≡ vset vs) × KindsIn ((schema s).shape k).above vs)
      → ⊥
  unfolding by_content
  entity_untyped q k t e attrs tags parents = no_true (sym (refused_as ENTITY q) ∙ ap (λ v. on_ent false v values) e ∙ both (both
      (known_part (at row 1) (Test.fits (content_of s (at row 1)) (trec ((schema s).shape k).attrs)) (λ z. fits_complete (attrs z)))
      (known_part (at row 2) (on_rec false (content_of s (at row 2)) (tags_by ((schema s).shape k).tags)) (λ z. let (fs, w, g) = tags z in ap (λ v. on_rec false v (tags_by ((schema s).shape k).tags)) w ∙ tags_pass g)))
      (known_part (at row 3) (on_set false (content_of s (at row 3)) (each_value (kind_by ((schema s).shape k).above))) (λ z. let (vs, w, g) = parents z in ap (λ v. on_set false v (each_value (kind_by ((schema s).shape k).above))) w ∙ kinds_pass g)))
    where
      values : ℕ → ℕ → Bool
      values k t = unknown_or (at row 1) (Test.fits (content_of s (at row 1)) (trec ((schema s).shape k).attrs)) && unknown_or (at row 2) (on_rec false (content_of s (at row 2)) (tags_by ((schema s).shape k).tags)) && unknown_or (at row 3) (on_set false (content_of s (at row 3)) (each_value (kind_by ((schema s).shape k).above)))

-- ---- the end of a reading

unfit_at : (s : State) (rs : List (List ℕ)) → first_unfit s rs < length rs → reached_fit s (get_or rs (first_unfit s rs) []) ≡ false
unfit_at s [] lt = absurd (omega arith)
unfit_at s (r ∷ rs) lt = go (reached_fit s r) refl lt (λ z. unfit_at s rs z)
  where
    go : (b : Bool) → reached_fit s r ≡ b → cond b (suc (first_unfit s rs)) 0 < suc (length rs) → (first_unfit s rs < length rs → reached_fit s (get_or rs (first_unfit s rs) []) ≡ false) → reached_fit s (get_or (r ∷ rs) (cond b (suc (first_unfit s rs)) 0) []) ≡ false
    go true e z ih = ih (le_of_suc-le-suc z)
    go false e z ih = e

module _ (m : Mode) where
  ending_else : {X : Type 0} (s : State) (k : ℕ) → (ending s k).number ≡ 7 → X
  ending_else s k e = go (enough s no_key) (ltb (first_unlinked s 0 (lines_of s POLICY)) (count s POLICY)) (ltb (first_unused s.used) (count s NODE)) _ _ e
    where
      go : {X : Type 0} (a b c : Bool) (n i : ℕ) → (cond a (cond b (reads s 5 i) (cond c (reads s 8 n) (reads s 0 0))) (reads s 3 k)).number ≡ 7 → X
      go true true c n i e = absurd (omega (arith, e))
      go true false true n i e = absurd (omega (arith, e))
      go true false false n i e = absurd (omega (arith, e))
      go false b c n i e = absurd (omega (arith, e))

  entities_seven : (lines : List (List ℕ)) (s : State) (x : Reading) → Reached m s → (x.number ≡ 7 → Untyped m lines x) → (entities_fit s x).number ≡ 7 → Untyped m lines (entities_fit s x)
  entities_seven lines s x h f e = go (ltb (first_unfit s (lines_of s ENTITY)) (count s ENTITY)) refl e
    where
      go : (b : Bool) → ltb (first_unfit s (lines_of s ENTITY)) (count s ENTITY) ≡ b → (cond b (reads s 7 (suc (before s ENTITY + first_unfit s (lines_of s ENTITY)))) x).number ≡ 7 → Untyped m lines (cond b (reads s 7 (suc (before s ENTITY + first_unfit s (lines_of s ENTITY)))) x)
      go true q e = let lt = ltb-true (first_unfit s (lines_of s ENTITY)) (count s ENTITY) q in of_entity (first_unfit s (lines_of s ENTITY)) lt refl (sym (reached_both h (line_at s ENTITY (first_unfit s (lines_of s ENTITY)))) ∙ unfit_at s (lines_of s ENTITY) lt)
      go false q e = f e

  before_seven : (lines : List (List ℕ)) (l : List ℕ) (s : State) (x : Reading) → Reached m s → (x.number ≡ 7 → Untyped m lines x) → (before_line l s x).number ≡ 7 → Untyped m lines (before_line l s x)
  before_seven lines l s x h f e = go (starts (ascii "entity=") l) e
    where
      go : (b : Bool) → (cond b x (entities_fit s x)).number ≡ 7 → Untyped m lines (cond b x (entities_fit s x))
      go true e = f e
      go false e = entities_seven lines s x h f e

  seam : (pre rest : List (List ℕ)) (l : List ℕ) → get_or (pre ++ (l ∷ rest)) (length pre) [] ≡ l
  seam [] rest l = refl
  seam (x ∷ pre) rest l = seam pre rest l

  reading_seven : (pre ls : List (List ℕ)) (s : State) → Reached m s → (reading m ls s (suc (length pre))).number ≡ 7 → Untyped m (pre ++ ls) (reading m ls s (suc (length pre)))
  reading_seven pre [] s h e = entities_seven (pre ++ []) s (ending s (suc (length pre))) h (λ z. ending_else s (suc (length pre)) z) e
  reading_seven pre (l ∷ []) s h e = before_seven (pre ++ (l ∷ [])) l s (cond (same l []) (ending s (suc (length pre))) (reads s 3 (suc (length pre)))) h (go (same l [])) e
    where
      go : (b : Bool) → (cond b (ending s (suc (length pre))) (reads s 3 (suc (length pre)))).number ≡ 7 → Untyped m (pre ++ (l ∷ [])) (cond b (ending s (suc (length pre))) (reads s 3 (suc (length pre))))
      go true z = ending_else s (suc (length pre)) z
      go false z = absurd (omega (arith, z))
  reading_seven pre (l ∷ n ∷ ls) s h e =
      before_seven (pre ++ (l ∷ n ∷ ls)) l s (line_read s (suc (length pre)) (row_of m l) (reading m (n ∷ ls))) h
      (go (fault s (row_of m l)) refl (λ g z. reading_seven (pre ++ (l ∷ [])) (n ∷ ls) (more s (row_of m l)) g z)) e
    where
      long : length (pre ++ (l ∷ [])) ≡ suc (length pre)
      long = let z = length-append pre (l ∷ []) in omega (arith, z)

      go : (f : ℕ) → fault s (row_of m l) ≡ f
          → (Reached m (more s (row_of m l)) → (reading m (n ∷ ls) (more s (row_of m l)) (suc (length (pre ++ (l ∷ []))))).number ≡ 7 → Untyped m ((pre ++ (l ∷ [])) ++ (n ∷ ls)) (reading m (n ∷ ls) (more s (row_of m l)) (suc (length (pre ++ (l ∷ []))))))
          → (go_on s (suc (length pre)) (row_of m l) f (reading m (n ∷ ls))).number ≡ 7 → Untyped m (pre ++ (l ∷ n ∷ ls)) (go_on s (suc (length pre)) (row_of m l) f (reading m (n ∷ ls)))
      go zero q ih z = subst (λ k. Untyped m (pre ++ (l ∷ n ∷ ls)) (reading m (n ∷ ls) (more s (row_of m l)) (suc k))) long
          (subst (λ ks. Untyped m ks (reading m (n ∷ ls) (more s (row_of m l)) (suc (length (pre ++ (l ∷ [])))))) (append_assoc pre (l ∷ []) (n ∷ ls))
          (ih (next l h q) (subst (λ k. (reading m (n ∷ ls) (more s (row_of m l)) (suc k)).number ≡ 7) (sym long) z)))
      go (suc f) q ih z = of_line (length pre) refl (subst (λ x. by_content s (row_of m x) (key_of (row_of m x)) ≡ false) (sym (seam pre (n ∷ ls) l)) (refused_by_content h l (q ∙ z)))

  -- A SHEET REFUSED WITH 7: the line named is untyped by content
  pub read_seven : (sheet : List ℕ) → (read m sheet).number ≡ 7 → Untyped m (split 10 sheet) (read m sheet)
  unfolding read
  read_seven sheet e = reading_seven [] (split 10 sheet) empty start e

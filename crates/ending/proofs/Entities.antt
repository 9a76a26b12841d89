-- Before a line: the first entity line that reaches a kind which is not above its own, or none. Assumes nothing.
use mathlib.Core.Path.{◌≡◌, refl, sym, ap, ap₂, subst, ◌∙◌}
use mathlib.Core.Bool.{Bool, true, false, cond, ◌&&◌}
use mathlib.Core.Option as M
use Rattle.std.specs.Prelude.{Option, Some, None}
use mathlib.Core.List.{List, [], ◌∷◌, ◌++◌}
use Prim.Native.Nat.{ℕ, suc, ◌+◌, ◌≤◌, ◌<◌}
use native.Mathlib.Omega.{arith}
use borrow.Author.Tests.{eq-eqb, ne_eqb, eqb-true, eqb-false, lt-ltb, le-ltb, ltb-true, ltb-false}
use lib.Dec.{ltb, eqb}
use lib.ListN.{length, get_or, take}
use Rattle.cedar.proofs.Tools.{no_true, and_both}
use Rattle.sheet.specs.Ascii.{ascii}
use Rattle.sheet.specs.Bytes.{starts, split, printable}
use Rattle.sheet.specs.Forms.{Mode, forms, form_of, tag_of, keys, key_of, counted, items_from, or_empty, row_of, ENTITY, PRINCIPAL}
use Rattle.sheet.specs.State.{State, lines_of, count, before, sum}
use Rattle.sheet.specs.Sheet.{Reading, fault, more, reads, first_unfit, entities_fit, before_line}
use Rattle.sheet.proofs.reading.Lines.{AllFit, passed, later_empty, lines_more}
use Rattle.sheet.proofs.reading.EntitiesEnd.{fit_more, fit_passes}
use Rattle.forms.specs.Tags.{ENTITY_LINE}
use Rattle.table.specs.Layout.{rows_of, held}
use Rattle.table.proofs.Rows.{count_held, lines_held_law}
use Rattle.table.proofs.Held.{counts_held}
use Rattle.take.proofs.Taking.{fault_none}
use Rattle.above.specs.Fitting.{unfit_from}
use Rattle.above.proofs.Fits.{first_is}
use Rattle.std.proofs.lemmas.Option.{none-some, same_Some}
use Rattle.ending.specs.Unfit.{entity_line, unfit_line}

-- ---- a line that begins with `entity=`

-- what begins with a word is that word and a rest
begins_with : {X : Type 0} (w l : List ℕ) → starts w l ≡ true → ((v : List ℕ) → l ≡ w ++ v → X) → X
begins_with [] l e f = f l refl
begins_with (x ∷ w) [] e f = no_true e
begins_with (x ∷ w) (y ∷ l) e f = and_both (eqb x y) (starts w l) e (λ p q. begins_with w l q (λ v r. f v (λ i. sym (eqb-true x y p) i ∷ r i)))

-- its row is none or one of the key `entity`
entity_row : (m : Mode) (v : List ℕ) → (row_of m (ascii "entity=" ++ v) ≡ [] → ⊥) → key_of (row_of m (ascii "entity=" ++ v)) ≡ ENTITY
unfolding row_of keys key_of tag_of form_of forms
entity_row m v h = go (printable v) (ltb 6 (length (ascii "entity=" ++ v))) (counted ENTITY_LINE (length (split 44 v))) (items_from m ENTITY_LINE 0 (split 44 v)) h
  where
    go : (p q t : Bool) (o : M.Option (List ℕ)) → (cond (p && q) (cond t (or_empty ENTITY_LINE o) []) [] ≡ [] → ⊥) → key_of (cond (p && q) (cond t (or_empty ENTITY_LINE o) []) []) ≡ ENTITY
    go true true true M.none h = absurd (h refl)
    go true true true (M.some l) h = refl
    go true true false o h = absurd (h refl)
    go true false t o h = absurd (h refl)
    go false q t o h = absurd (h refl)

entity_key : (m : Mode) (l : List ℕ) → starts (ascii "entity=") l ≡ true → (row_of m l ≡ [] → ⊥) → key_of (row_of m l) ≡ ENTITY
entity_key m l e = begins_with (ascii "entity=") l e (λ v q. subst (λ (z : List ℕ). (row_of m z ≡ [] → ⊥) → key_of (row_of m z) ≡ ENTITY) (sym q) (entity_row m v))

-- ---- `unfit_line`

module _ (a bytes : List ℕ) (n : ℕ) (hn : n ≡ get_or a PRINCIPAL 0) where
  pub unfit_known : (n ≡ 0 → ⊥) → None ≡ unfit_line a bytes
  unfolding unfit_line
  unfit_known h = sym (rw (← hn, ne_eqb n 0 h) refl)

  pub unfit_empty : n ≡ 0 → (k : ℕ) → k ≡ get_or a ENTITY 0 → k ≡ 0 → None ≡ unfit_line a bytes
  unfolding unfit_line
  unfit_empty z k hk e =
      let u = unfit_from a (rows_of a ENTITY) in
      sym (rw (← hn, eq-eqb n 0 z, ← hk, le-ltb u k (omega arith)) (go (starts (ascii "entity=") bytes)))
    where
      go : (t : Bool) → cond {A = Option ℕ} t None None ≡ None
      go true = refl
      go false = refl

  module _ (z : n ≡ 0) (b : Bool) (hb : b ≡ starts (ascii "entity=") bytes) where
    asked : unfit_line a bytes ≡ cond b None (entity_line a (unfit_from a (rows_of a ENTITY)))
    unfolding unfit_line
    asked = rw (← hn, eq-eqb n 0 z, ← hb) refl

    pub unfit_entity : b ≡ true → None ≡ unfit_line a bytes
    unfit_entity h = sym (asked ∙ rw h refl)

    module _ (nb : b ≡ false) (u : ℕ) (hu : u ≡ unfit_from a (rows_of a ENTITY)) (k : ℕ) (hk : k ≡ get_or a ENTITY 0) where
      numbered : unfit_line a bytes ≡ cond (ltb u k) (Some (suc (before (held [] a []) ENTITY + u))) None
      numbered = asked ∙ rw (nb, ← hu, ← hk) refl

      pub unfit_none : k ≤ u → None ≡ unfit_line a bytes
      unfit_none h = sym (numbered ∙ rw (le-ltb u k h) refl)

      pub unfit_first : u < k → (m : ℕ) → (m ≡ before (held [] a []) ENTITY) × (m ≤ 55834574835) → Some (m + u + 1) ≡ unfit_line a bytes
      unfit_first h m hm =
          let e : m + u + 1 ≡ suc (before (held [] a []) ENTITY + u) = omega (arith, hm.0) in
          ap (λ (x : ℕ). Some x) e ∙ sym (numbered ∙ rw (lt-ltb u k h) refl)

-- ---- it is the sheet's check before a line

module _ (sheet a b : List ℕ) where
  abbrev s : State
  s = held sheet a b

  -- the first that does not fit, and whether there is one
  first_held : first_unfit s (lines_of s ENTITY) ≡ unfit_from a (rows_of a ENTITY)
  first_held = ap (first_unfit s) (lines_held_law sheet a b ENTITY (omega arith) (λ q. absurd (omega arith))) ∙ sym (first_is sheet a b)

  fit_held : ltb (first_unfit s (lines_of s ENTITY)) (count s ENTITY) ≡ ltb (unfit_from a (rows_of a ENTITY)) (get_or a ENTITY 0)
  fit_held = ap₂ ltb first_held (count_held sheet a b ENTITY (omega arith))

  before_held : before s ENTITY ≡ before (held [] a []) ENTITY
  before_held = ap (λ (c : List ℕ). sum (take ENTITY c)) (counts_held sheet a b ∙ sym (counts_held [] a []))

  unfit_held : (x : Reading) → ltb (unfit_from a (rows_of a ENTITY)) (get_or a ENTITY 0) ≡ true → entities_fit s x ≡ reads s 7 (suc (before (held [] a []) ENTITY + unfit_from a (rows_of a ENTITY)))
  unfit_held x e = ap (λ (t : Bool). cond t (reads s 7 (suc (before s ENTITY + first_unfit s (lines_of s ENTITY)))) x) (fit_held ∙ e) ∙ ap₂ (λ (i j : ℕ). reads s 7 (suc (i + j))) before_held first_held

  module _ (closed : 1 ≤ get_or a PRINCIPAL 0 → AllFit s) (bytes : List ℕ) where
    -- all fit where none is found and entity lines do not go on
    pub all_fit_law : unfit_line a bytes ≡ None → starts (ascii "entity=") bytes ≡ false → AllFit s
    unfolding unfit_line
    all_fit_law e t = go (eqb (get_or a PRINCIPAL 0) 0) (ltb (unfit_from a (rows_of a ENTITY)) (get_or a ENTITY 0)) refl refl e
      where
        go : (p f : Bool) → eqb (get_or a PRINCIPAL 0) 0 ≡ p → ltb (unfit_from a (rows_of a ENTITY)) (get_or a ENTITY 0) ≡ f
            → cond p (cond (starts (ascii "entity=") bytes) None (cond f (Some (suc (before (held [] a []) ENTITY + unfit_from a (rows_of a ENTITY)))) None)) None ≡ None → AllFit s
        go false f p q e = closed (let z = eqb-false (get_or a PRINCIPAL 0) 0 p in omega (arith, z))
        go true true p q e =
            let z : Some (suc (before (held [] a []) ENTITY + unfit_from a (rows_of a ENTITY))) ≡ None =
            ap (λ (x : Bool). cond x None (Some (suc (before (held [] a []) ENTITY + unfit_from a (rows_of a ENTITY))))) (sym t) ∙ e in
            absurd (none-some _ (sym z))
        go true false p q e = fit_held ∙ q

    module _ (l : List ℕ) (same_start : starts (ascii "entity=") l ≡ starts (ascii "entity=") bytes) (x : Reading) where
      pub line_passes : unfit_line a bytes ≡ None → before_line l s x ≡ x
      line_passes e = go (starts (ascii "entity=") l) refl
        where
          go : (t : Bool) → starts (ascii "entity=") l ≡ t → before_line l s x ≡ x
          go true q = ap (λ (y : Bool). cond y x (entities_fit s x)) q
          go false q = fit_passes l s x (all_fit_law e (sym same_start ∙ q))

      pub line_unfit : (v : ℕ) → unfit_line a bytes ≡ Some v → before_line l s x ≡ reads s 7 v
      unfolding unfit_line
      line_unfit v n = go (eqb (get_or a PRINCIPAL 0) 0) (starts (ascii "entity=") bytes) (ltb (unfit_from a (rows_of a ENTITY)) (get_or a ENTITY 0)) same_start refl n
        where
          go : (p t f : Bool) → starts (ascii "entity=") l ≡ t → ltb (unfit_from a (rows_of a ENTITY)) (get_or a ENTITY 0) ≡ f
              → cond p (cond t None (cond f (Some (suc (before (held [] a []) ENTITY + unfit_from a (rows_of a ENTITY)))) None)) None ≡ Some v
              → before_line l s x ≡ reads s 7 v
          go false t f q e n = absurd (none-some v n)
          go true true f q e n = absurd (none-some v n)
          go true false false q e n = absurd (none-some v n)
          go true false true q e n = ap (λ (y : Bool). cond y x (entities_fit s x)) q ∙ unfit_held x e ∙ ap (reads s 7) (same_Some _ v n)

    -- and so it is after a line without fault, once there is a principal line
    module _ (m : Mode) (l : List ℕ) (same_start : starts (ascii "entity=") l ≡ starts (ascii "entity=") bytes) (e : unfit_line a bytes ≡ None) (f : fault s (row_of m l) ≡ 0) where
      there : row_of m l ≡ [] → ⊥
      there z = absurd (omega (arith, fault_none s (row_of m l) z, f))

      fit_first : PRINCIPAL ≤ key_of (row_of m l) → AllFit s
      fit_first h = go (starts (ascii "entity=") bytes) refl
        where
          go : (t : Bool) → starts (ascii "entity=") bytes ≡ t → AllFit s
          go true q = absurd (omega (arith, h, entity_key m l (same_start ∙ q) there))
          go false q = all_fit_law e q

      pub closed_after : 1 ≤ count (more s (row_of m l)) PRINCIPAL → AllFit (more s (row_of m l))
      closed_after h = go (ltb (key_of (row_of m l)) PRINCIPAL) refl
        where
          go : (t : Bool) → ltb (key_of (row_of m l)) PRINCIPAL ≡ t → AllFit (more s (row_of m l))
          go true q =
              let k = ltb-true (key_of (row_of m l)) PRINCIPAL q in
              let z : lines_of s PRINCIPAL ≡ [] = later_empty s (key_of (row_of m l)) PRINCIPAL (passed s (row_of m l) f).order k in
              lines_more s (row_of m l) PRINCIPAL (λ y. absurd (omega (arith, h, ap length (y ∙ z)))) (λ y w. absurd (omega (arith, k, y)))
          go false q = let k = ltb-false (key_of (row_of m l)) PRINCIPAL q in fit_more s (row_of m l) k (fit_first k)

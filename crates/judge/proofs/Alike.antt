-- What the checks ask of the state is the same whatever the sheet's bytes and the other words are; and a text's words stand for its row. Assumes nothing.
use mathlib.Core.Path.{◌≡◌, refl, sym, ap, ap₂, subst, ◌∙◌}
use mathlib.Core.Bool.{Bool, true, false, cond, not, ◌&&◌, ◌||◌}
use mathlib.Core.List.{List, [], ◌∷◌}
use Prim.Native.Nat.{ℕ, suc, ◌+◌, ◌-◌, ◌≤◌, ◌<◌, max}
use native.Mathlib.Omega.{arith}
use native.Mathlib.Decide.{ℕ_discrete, dec_lt}
use borrow.Author.Tests.{eq-eqb, ne_eqb, le-ltb}
use lib.Dec.{leb, ltb, eqb}
use lib.ListN.{length, get_or, take, drop, set, get_or-eq_default}
use Rattle.cedar.specs.Numbered.{mem_n}
use Rattle.std.specs.Prelude.{Option, Some, None}
use Rattle.sheet.specs.Forms.{Slot, entry, line, line_or, line_unknown, word, number, day, nothing, forms, form_of, slot_at, tag, items, at, key_of, refs_from, refs, ascendings, mark, TEXT, KIND, TYPE, SHAPE, VALUE, ENTITY, POLICY, LINK, TERM, no_key}
use Rattle.sheet.specs.State.{State, empty, lines_of, count, depths_of, type_row}
use Rattle.sheet.specs.Typing.{nodes_under, on_entity}
use Rattle.sheet.specs.Sheet.{least, greatest, reach, all_zero, in_order, uses, too_many, has_slot, slot_given, there_is, all_there, ascend, among, firsts, each_alone, new_type, term_goes, fresh, found, deepest, depth}
use Rattle.sheet.proofs.reading.Parsed.{tags_between}
use Rattle.forms.specs.Tags.{TEXT_LINE}
use Rattle.table.specs.Layout.{part, rows_of, text_rows, lines_held, held, row_in}
use Rattle.table.proofs.Rows.{count_held, lines_held_law, texts_held}
use Rattle.table.proofs.Held.{counts_held}
use Rattle.seen.specs.Seen.{unseen, Seen, Unlike}
use Rattle.uses.proofs.NotedLaws.{under_held, uses_same}
use Rattle.seen.proofs.SeenLaws.{key_alike, unlike_seen}
use Rattle.judge.specs.Verdicts.{NewDepth}

module _ (a sheet b : List ℕ) where
  count_past : (k : ℕ) → no_key ≤ k → count (held sheet a b) k ≡ 0
  unfolding held lines_held
  count_past k h = ap length (get_or-eq_default (lines_held sheet a) [] {n = k} h)

module _ (a sheet b : List ℕ) where
  pub count_alike : (k : ℕ) → count (held [] a []) k ≡ count (held sheet a b) k
  count_alike k = go (dec_lt k no_key)
    where
      go : Dec (k < no_key) → count (held [] a []) k ≡ count (held sheet a b) k
      go (yes h) = count_held [] a [] k h ∙ sym (count_held sheet a b k h)
      go (no h) = count_past a [] [] k (omega arith) ∙ sym (count_past a sheet b k (omega arith))

  lines_alike : (k : ℕ) → (k ≡ TEXT → ⊥) → lines_of (held [] a []) k ≡ lines_of (held sheet a b) k
  unfolding held lines_held
  lines_alike k n = go (dec_lt k no_key)
    where
      go : Dec (k < no_key) → lines_of (held [] a []) k ≡ lines_of (held sheet a b) k
      go (yes h) = lines_held_law [] a [] k h n ∙ sym (lines_held_law sheet a b k h n)
      go (no h) = get_or-eq_default (lines_held [] a) [] {n = k} (omega arith) ∙ sym (get_or-eq_default (lines_held sheet a) [] {n = k} (omega arith))

  pub order_alike : (k : ℕ) → in_order (held [] a []) k ≡ in_order (held sheet a b) k
  order_alike k =
      ap₂ (λ (c : List ℕ) (n : ℕ). all_zero (drop (suc k) c) && reach (take k c) (set (least empty) SHAPE n))
      (counts_held [] a [] ∙ sym (counts_held sheet a b)) (count_alike KIND)

  full_alike : (k : ℕ) → leb (get_or (greatest (held [] a [])) k 0) (count (held [] a []) k) ≡ leb (get_or (greatest (held sheet a b)) k 0) (count (held sheet a b) k)
  full_alike k = ap₂ (λ (n m : ℕ). leb (get_or (set (greatest empty) SHAPE n) k 0) m) (count_alike KIND) (count_alike k)

  under_alike : (n : ℕ) → nodes_under (held [] a []) n ≡ nodes_under (held sheet a b) n
  under_alike n = under_held [] a [] n ∙ sym (under_held sheet a b n)

  uses_alike : (r : List ℕ) → uses (held [] a []) (r ∷ lines_of (held [] a []) POLICY) ≡ uses (held sheet a b) (r ∷ lines_of (held sheet a b) POLICY)
  uses_alike r =
      ap (λ (l : List (List ℕ)). uses (held [] a []) (r ∷ l)) (lines_alike POLICY (λ q. absurd (omega arith)))
      ∙ uses_same (held sheet a b) (held [] a []) (r ∷ lines_of (held sheet a b) POLICY) under_alike

  pub many_alike : (k : ℕ) (r : List ℕ) → too_many (held [] a []) k r ≡ too_many (held sheet a b) k (row_in sheet k r)
  many_alike k r = ap₂ (λ (x : Bool) (n : ℕ). x || (eqb k POLICY && ltb 1024 n)) (full_alike k) (uses_alike r) ∙ go (ℕ_discrete k TEXT)
    where
      go : Dec (k ≡ TEXT) → too_many (held sheet a b) k r ≡ too_many (held sheet a b) k (row_in sheet k r)
      go (yes d) = rw d refl
      go (no d) = rw (ne_eqb k TEXT d) refl

  given_alike : (r : List ℕ) (x : ℕ) → slot_given (held [] a []) r x ≡ slot_given (held sheet a b) r x
  given_alike r x =
      ap (λ (rs : List (List ℕ)). cond (has_slot x rs) (not (eqb (at r (suc x)) mark)) (eqb (at r (suc x)) mark))
      (ap (λ (l : List (List ℕ)). nodes_under (held [] a []) (at (get_or l (at r 0) []) 2)) (lines_alike POLICY (λ q. absurd (omega arith))) ∙ under_alike (at (get_or (lines_of (held sheet a b) POLICY) (at r 0) []) 2))

  slot_alike : (s : Slot) (x : ℕ) → there_is (held [] a []) s x ≡ there_is (held sheet a b) s x
  slot_alike entry x = refl
  slot_alike (line k) x = ap (ltb x) (count_alike k)
  slot_alike (line_or w k) x = ap (λ (n : ℕ). eqb x mark || ltb x n) (count_alike k)
  slot_alike (line_unknown k) x = ap (λ (n : ℕ). eqb x mark || ltb x n) (count_alike k)
  slot_alike (word ws) x = refl
  slot_alike number x = refl
  slot_alike day x = refl
  slot_alike nothing x = refl

  there_alike : (t j : ℕ) (l : List ℕ) → all_there (held [] a []) t j l ≡ all_there (held sheet a b) t j l
  there_alike t j [] = refl
  there_alike t j (x ∷ l) = ap₂ ◌&&◌ (slot_alike (slot_at t j) x) (there_alike t (suc j) l)

  fresh_alike : (k : ℕ) (r : List ℕ) → (k ≡ TEXT → ⊥) → fresh (held [] a []) k r ≡ fresh (held sheet a b) k r
  fresh_alike k r n =
      let type : new_type (held [] a []) r ≡ new_type (held sheet a b) r =
      ap (λ (l : List (List ℕ)). not (among r l) && on_entity true (type_row r) (each_alone l)) (lines_alike TYPE (λ q. absurd (omega arith))) in
      let rest : fresh_else (lines_of (held [] a []) k) (slot_given (held [] a []) r 0 && slot_given (held [] a []) r 1) ≡ fresh_else (lines_of (held sheet a b) k) (slot_given (held sheet a b) r 0 && slot_given (held sheet a b) r 1) =
      ap₂ fresh_else (lines_alike k n) (ap₂ ◌&&◌ (given_alike r 0) (given_alike r 1)) in
      ap₂ (λ (x y : Bool). cond (eqb k TYPE) x y) type rest
    where
      last_below : List (List ℕ) → Bool
      last_below l = eqb (length l) 0 || ltb (at (get_or l (length l - 1) []) 0) (at r 0)

      -- of keys that are not that of types, by the lines of the key and whether slots are given
      fresh_else : List (List ℕ) → Bool → Bool
      fresh_else l g =
          cond (eqb k TEXT || eqb k VALUE) (not (among r l)) (cond (eqb k KIND || eqb k POLICY) (not (mem_n (at r 0) (firsts l)))
          (cond (eqb k ENTITY) (last_below l) (cond (eqb k LINK) (last_below l && g) (cond (eqb k TERM) (last_below l && term_goes r) true))))

  pub found_alike : (k : ℕ) (r : List ℕ) → (k ≡ TEXT → ⊥) → found (held [] a []) k r ≡ found (held sheet a b) k r
  unfolding found
  found_alike k r n = ap₂ (λ (x y : Bool). x && ascend 0 (ascendings r) && y) (there_alike (tag r) 0 (items r)) (fresh_alike k r n)

-- depths do not ask for the sheet's bytes
pub deep_alike : (sheet a b : List ℕ) (k : ℕ) (l : List ℕ) → deepest (held [] a b) k l ≡ deepest (held sheet a b) k l
unfolding held
deep_alike sheet a b k [] = refl
deep_alike sheet a b k (x ∷ l) = ap (max (get_or (depths_of (held sheet a b) k) x 0)) (deep_alike sheet a b k l)

-- ---- texts

pub text_tag : (r : List ℕ) → key_of r ≡ TEXT → tag r ≡ TEXT_LINE
unfolding key_of form_of forms
text_tag r e = let b = tags_between TEXT TEXT_LINE TEXT_LINE (tag r) (omega arith) refl e in omega (arith, b.0, b.1)

text_slot : (j : ℕ) → slot_at TEXT_LINE j ≡ nothing
unfolding slot_at form_of forms
text_slot j = rw (le-ltb j 0 (omega arith)) refl

text_refs : (k j : ℕ) (l : List ℕ) → refs_from k TEXT_LINE j l ≡ []
text_refs k j [] = refl
text_refs k j (x ∷ l) = rw (text_slot j) (text_refs k (suc j) l)

text_there : (s : State) (j : ℕ) (l : List ℕ) → all_there s TEXT_LINE j l ≡ true
text_there s j [] = refl
text_there s j (x ∷ l) = rw (text_slot j) (text_there s (suc j) l)

-- what a row refers to is what its words refer to
pub refs_alike : (sheet : List ℕ) (k j : ℕ) (r : List ℕ) → k ≡ key_of r → refs j (row_in sheet k r) ≡ refs j r
unfolding refs
refs_alike sheet k j r e = go (ℕ_discrete k TEXT)
  where
    go : Dec (k ≡ TEXT) → refs j (row_in sheet k r) ≡ refs j r
    go (yes d) =
        let t = text_tag r (sym e ∙ d) in
        rw (eq-eqb k TEXT d, t) (text_refs j 0 (part sheet (at r 0) (at r 0 + at r 1)) ∙ sym (text_refs j 0 (items r)))
    go (no d) = rw (ne_eqb k TEXT d) refl

pub depth_alike : (sheet a b : List ℕ) (k : ℕ) (r : List ℕ) → k ≡ key_of r → depth (held [] a b) k r ≡ depth (held sheet a b) k (row_in sheet k r)
unfolding depth
depth_alike sheet a b k r e =
    ap suc (deep_alike sheet a b k (refs k r) ∙ ap (deepest (held sheet a b) k) (sym (refs_alike sheet k k r e)))

-- ---- `depth_of`

pub new_other : (sheet a b : List ℕ) (k : ℕ) (r : List ℕ) (d : Option ℕ) → k ≡ key_of r → (k ≡ TEXT → ⊥) → d ≡ cond (found (held [] a []) k r) (Some (depth (held [] a b) k r)) None → NewDepth sheet a b r k d
new_other sheet a b k r d e n h =
    let row : row_in sheet k r ≡ r = rw (ne_eqb k TEXT n) refl in
    record { is = h ∙ ap₂ (λ (x : Bool) (y : ℕ). cond x (Some y) None) (found_alike a sheet b k r n ∙ ap (found (held sheet a b) k) (sym row)) (depth_alike sheet a b k r e) }

module _ (sheet a b : List ℕ) (k : ℕ) (r : List ℕ) (e : k ≡ key_of r) (d : k ≡ TEXT) where
  text_depth : depth (held sheet a b) k (row_in sheet k r) ≡ 1
  unfolding depth refs
  text_depth =
      let t : tag r ≡ TEXT_LINE = text_tag r (sym e ∙ d) in
      sym (depth_alike sheet a b k r e) ∙ ap (λ (l : List ℕ). suc (deepest (held [] a b) k l)) (ap (λ (x : ℕ). refs_from k x 0 (items r)) t ∙ text_refs k 0 (items r))

  module _ (s n : ℕ) (x : List ℕ) (v : Bool) (hs : s ≡ get_or r 1 0) (hn : n ≡ get_or r 2 0) (hx : x ≡ part sheet s (s + n)) (hv : v ≡ among (TEXT_LINE ∷ x) (text_rows sheet (rows_of a TEXT))) where
    text_found : found (held sheet a b) k (row_in sheet k r) ≡ not v
    unfolding found ascendings form_of forms
    text_found =
        let t : tag r ≡ TEXT_LINE = text_tag r (sym e ∙ d) in
        let row : row_in sheet k r ≡ TEXT_LINE ∷ x = rw (eq-eqb k TEXT d, t, hx, hs, hn) refl in
        ap (found (held sheet a b) k) row ∙ rw (d, text_there (held sheet a b) 0 x) (ap not (ap (among (TEXT_LINE ∷ x)) (texts_held sheet a b) ∙ sym hv))

    pub text_again : v ≡ true → NewDepth sheet a b r k None
    text_again q = record { is = sym (rw (text_found, q) refl) }

    pub text_new : v ≡ false → NewDepth sheet a b r k (Some 1)
    text_new q = record { is = sym (rw (text_found, q) (ap (λ (x : ℕ). Some x) text_depth)) }

-- ---- rows that are new

module _ (sheet a b r : List ℕ) (k : ℕ) (e : k ≡ key_of r) (new : Bool) (u : Unlike (row_in sheet (key_of r) r) (lines_of (held sheet a b) (key_of r)) new) where
  pub text_sure : k ≡ TEXT → new ≡ true → NewDepth sheet a b r k (Some 1)
  text_sure d q =
      let t : tag r ≡ TEXT_LINE = text_tag r (sym e ∙ d) in
      let row : row_in sheet (key_of r) r ≡ TEXT_LINE ∷ part sheet (get_or r 1 0) (get_or r 1 0 + get_or r 2 0) = rw (eq-eqb (key_of r) TEXT (sym e ∙ d), t) refl in
      let rows : lines_of (held sheet a b) (key_of r) ≡ text_rows sheet (rows_of a TEXT) = ap (lines_of (held sheet a b)) (sym e ∙ d) ∙ texts_held sheet a b in
      text_new sheet a b k r e d (get_or r 1 0) (get_or r 2 0) (part sheet (get_or r 1 0) (get_or r 1 0 + get_or r 2 0))
      (among (TEXT_LINE ∷ part sheet (get_or r 1 0) (get_or r 1 0 + get_or r 2 0)) (text_rows sheet (rows_of a TEXT))) refl refl refl refl
      (sym (ap₂ among row rows) ∙ u.none q)

  pub unlike_other : (k ≡ TEXT → ⊥) → k < no_key → Unlike r (rows_of a k) new
  unlike_other n l =
      let row : row_in sheet (key_of r) r ≡ r = rw (ne_eqb (key_of r) TEXT (λ q. n (e ∙ q))) refl in
      record { none = λ q. sym (ap₂ among row (ap (lines_of (held sheet a b)) (sym e) ∙ lines_held_law sheet a b k l n)) ∙ u.none q }

-- a row that the set lacks
pub unlike_line : (sheet a b r m : List ℕ) (new : Bool) → Seen (held sheet a b) m → new ≡ unseen m (row_in sheet (key_of r) r) → Unlike (row_in sheet (key_of r) r) (lines_of (held sheet a b) (key_of r)) new
unlike_line sheet a b r m new s e =
    subst (λ (k : ℕ). Unlike (row_in sheet (key_of r) r) (lines_of (held sheet a b) k) new) (key_alike sheet r) (unlike_seen (held sheet a b) m (row_in sheet (key_of r) r) new s e)

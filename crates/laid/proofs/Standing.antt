-- Words laid for a row hold the rows of the sheet, those of principal and resource with the row's texts. Assumes nothing.
use mathlib.Core.Path.{◌≡◌, refl, sym, ap, ◌∙◌, subst}
use mathlib.Core.List.{List, [], ◌∷◌}
use Prim.Native.Nat.{ℕ, suc, ◌+◌, ◌-◌, ◌≤◌, ◌<◌}
use native.Mathlib.Omega.{arith}
use native.Mathlib.Decide.{ℕ_discrete, dec_le, dec_lt}
use lib.ListN.{length, get_or}
use lib.Seq.{ext_get_or}
use Rattle.words.specs.Log.{part, room}
use Rattle.words.proofs.Stores.{part_at, length_part}
use Rattle.forms.proofs.Keys.{regions_rise}
use Rattle.sheet.specs.Forms.{PRINCIPAL, RESOURCE, DAY}
use Rattle.table.specs.Layout.{TOP, heap, base, row_at, rows_of, limits, limit, Last, Sound}
use Rattle.table.proofs.Rows.{count_rows, row_some}
use Rattle.laid.specs.Laid.{AHEAD, moved, Stands, Others, Laid}
use Rattle.laid.proofs.Copying.{moved_far, moved_near}

part_none : (w : List ℕ) (i j : ℕ) → j ≤ i → part w i j ≡ []
part_none w i j h = let z : j - i ≡ 0 = omega arith in rw z

-- ---- no word of another key says where the rows of principal and resource are

pub one_principal : limit PRINCIPAL ≡ 1
unfolding limit limits
one_principal = refl

pub one_resource : limit RESOURCE ≡ 1
unfolding limit limits
one_resource = refl

away : (j k i : ℕ) → j < TOP → k < TOP → limit j ≡ 1 → (k ≡ j → ⊥) → i ≤ limit k → (base k + i ≡ base j → ⊥) × (base k + i ≡ suc (base j) → ⊥)
away j k i hj hk one n l = go (dec_lt k j)
  where
    go : Dec (k < j) → (base k + i ≡ base j → ⊥) × (base k + i ≡ suc (base j) → ⊥)
    go (yes d) = let z = regions_rise j k (omega (arith, hj)) d in (omega (arith, z, l), omega (arith, z, l))
    go (no d) = let z = regions_rise k j (omega (arith, hk)) (omega (arith, d, n)) in (omega (arith, z, one), omega (arith, z, one))

others : (k i : ℕ) → k < TOP → (k ≡ PRINCIPAL → ⊥) → (k ≡ RESOURCE → ⊥) → i ≤ limit k → Others (base k + i)
others k i h np nr l =
    let x = away PRINCIPAL k i (omega arith) h one_principal np l in
    let y = away RESOURCE k i (omega arith) h one_resource nr l in
    record { principal = x.0; principal_end = x.1; resource = y.0; resource_end = y.1 }

-- ---- a place moved

moved_least : (x : ℕ) → x ≤ moved x
moved_least x = go (dec_le x 16384)
  where
    go : Dec (x ≤ 16384) → x ≤ moved x
    go (yes d) = let z = moved_near x d in omega (arith, z)
    go (no d) = let z = moved_far x (omega (arith, d)) in omega (arith, z)

module _ (a w : List ℕ) (p q : ℕ) (s : Sound a) (l : Laid a p q w) (under : get_or a TOP 0 + AHEAD ≤ room) where
  abbrev top : ℕ
  top = get_or a TOP 0

  pub top_is : get_or w TOP 0 ≡ top + AHEAD
  top_is = l.top ∙ sym (moved_near top (omega (arith, under)))

  -- a part of the rows stands so many words further on
  part_moved : (i j : ℕ) → heap ≤ i → j ≤ top → part w (moved i) (moved j) ≡ part a i j
  part_moved i j lo hi = go (dec_le i j)
    where
      ej : moved j ≡ j + AHEAD
      ej = sym (moved_near j (omega (arith, hi, under)))

      go : Dec (i ≤ j) → part w (moved i) (moved j) ≡ part a i j
      go (yes d) =
          let ei : moved i ≡ i + AHEAD = sym (moved_near i (omega (arith, d, hi, under))) in
          let lw : length (part w (i + AHEAD) (j + AHEAD)) ≡ j + AHEAD - (i + AHEAD) = length_part w (i + AHEAD) (j + AHEAD) (omega (arith, l.long, hi, under)) in
          let la : length (part a i j) ≡ j - i = length_part a i j (omega (arith, s.long, hi, under)) in
          (λ k. part w (ei k) (ej k)) ∙ ext_get_or 0 (part w (i + AHEAD) (j + AHEAD)) (part a i j) (omega (arith, lw, la)) (λ n h.
          let e : i + AHEAD + n ≡ i + n + AHEAD = omega arith in
          part_at w (i + AHEAD) (j + AHEAD) n (omega (arith, h, lw)) ∙ ap (λ (x : ℕ). get_or w x 0) e ∙ l.rows (i + n) (omega (arith, lo)) (omega (arith, h, lw, hi)) ∙ sym (part_at a i j n (omega (arith, h, lw))))
      go (no d) = part_none w (moved i) (moved j) (far (dec_le i 16384)) ∙ sym (part_none a i j (omega (arith, d)))
        where
          far : Dec (i ≤ 16384) → moved j ≤ moved i
          far (yes c) = let ei = moved_near i c in omega (arith, ei, ej, d)
          far (no c) = let ei = moved_least i in omega (arith, ei, ej, c, hi, under)

  -- ---- the rows of another key

  module _ (k : ℕ) (h : k < TOP) (np : k ≡ PRINCIPAL → ⊥) (nr : k ≡ RESOURCE → ⊥) where
    place : (i : ℕ) → i ≤ get_or a k 0 → get_or w (base k + i) 0 ≡ moved (get_or a (base k + i) 0)
    place i le = let few = s.few k h in l.places k i h le (omega (arith, le, few)) (others k i h np nr (omega (arith, le, few)))

    row_moved : (i : ℕ) → i < get_or a k 0 → row_at w (base k + i) ≡ row_at a (base k + i)
    unfolding row_at
    row_moved i lt =
        let e : suc (base k + i) ≡ base k + suc i = omega arith in
        let z : get_or w (suc (base k + i)) 0 ≡ moved (get_or a (suc (base k + i)) 0) = subst (λ (x : ℕ). get_or w x 0 ≡ moved (get_or a x 0)) (sym e) (place (suc i) (omega (arith, lt))) in
        (λ j. part w (place i (omega (arith, lt)) j) (z j)) ∙ part_moved (get_or a (base k + i) 0) (get_or a (suc (base k + i)) 0) (s.low k i h lt) (s.high k i h lt)

    pub rows_kept : rows_of w k ≡ rows_of a k
    rows_kept =
        let c = l.counts k h in
        ext_get_or [] (rows_of w k) (rows_of a k) (count_rows w k ∙ c ∙ sym (count_rows a k)) (λ i lt.
        let n : i < get_or w k 0 = omega (arith, lt, count_rows w k) in
        let m : i < get_or a k 0 = omega (arith, n, c) in
        sym (row_some w k i (get_or w k 0) (base k) (row_at w (base k + i)) refl n refl refl) ∙ row_moved i m ∙ row_some a k i (get_or a k 0) (base k) (row_at a (base k + i)) refl m refl refl)

  -- ---- the row of principal or resource

  module _ (k b : ℕ) (r : List ℕ) (h : k < TOP) (one : get_or a k 0 ≡ 1) (x : Stands k b r w) where
    pub row_laid : rows_of w k ≡ r ∷ []
    unfolding row_at
    row_laid =
        let c = l.counts k h ∙ one in
        ext_get_or [] (rows_of w k) (r ∷ []) (count_rows w k ∙ c) (λ i lt.
        let n : i < get_or w k 0 = omega (arith, lt, count_rows w k) in
        let z : i ≡ 0 = omega (arith, n, c) in
        let e : base k + 0 ≡ base k = omega arith in
        subst (λ (j : ℕ). get_or (rows_of w k) j [] ≡ get_or (r ∷ []) j []) (sym z)
        (sym (row_some w k 0 (get_or w k 0) (base k) (row_at w (base k + 0)) refl (omega (arith, c)) refl refl) ∙ ap (row_at w) e ∙ (λ j. part w (x.first j) (x.next j)) ∙ x.row))

  -- ---- they are as writers keep them

  module _ (day : 1 ≤ get_or a DAY 0) where
    pub sound_laid : Sound w
    sound_laid = record {
      few = λ k h. let c = l.counts k h in let f = s.few k h in omega (arith, c, f);
      low = λ k i h lt. low k i h lt (ℕ_discrete k PRINCIPAL) (ℕ_discrete k RESOURCE);
      high = λ k i h lt. high k i h lt (ℕ_discrete k PRINCIPAL) (ℕ_discrete k RESOURCE);
      ends = λ k h one last. ends k h one last (ℕ_discrete k PRINCIPAL) (ℕ_discrete k RESOURCE);
      over = let o = s.over in omega (arith, o, top_is);
      long = omega (arith, l.long);
    }
      where
        first_only : (k i : ℕ) → k < TOP → limit k ≡ 1 → i < get_or w k 0 → i ≡ 0
        first_only k i h one lt = let c = l.counts k h in let f = s.few k h in omega (arith, c, f, one, lt)

        low : (k i : ℕ) → k < TOP → i < get_or w k 0 → Dec (k ≡ PRINCIPAL) → Dec (k ≡ RESOURCE) → heap ≤ get_or w (base k + i) 0
        low k i h lt (yes d) e =
            let z = first_only PRINCIPAL i (omega arith) one_principal (subst (λ (x : ℕ). i < get_or w x 0) d lt) in
            subst (λ (x : ℕ). heap ≤ get_or w (base x + i) 0) (sym d) (let n : base PRINCIPAL + i ≡ base PRINCIPAL = omega (arith, z) in rw n (let f = l.principal.first in omega (arith, f)))
        low k i h lt (no d) (yes e) =
            let z = first_only RESOURCE i (omega arith) one_resource (subst (λ (x : ℕ). i < get_or w x 0) e lt) in
            subst (λ (x : ℕ). heap ≤ get_or w (base x + i) 0) (sym e) (let n : base RESOURCE + i ≡ base RESOURCE = omega (arith, z) in rw n (let f = l.resource.first in omega (arith, f)))
        low k i h lt (no d) (no e) =
            let c = l.counts k h in
            let m : i < get_or a k 0 = omega (arith, lt, c) in
            let z = place k h d e i (omega (arith, m)) in
            let g = moved_least (get_or a (base k + i) 0) in
            let o = s.low k i h m in
            omega (arith, z, g, o)

        high : (k i : ℕ) → k < TOP → i < get_or w k 0 → Dec (k ≡ PRINCIPAL) → Dec (k ≡ RESOURCE) → get_or w (suc (base k + i)) 0 ≤ get_or w TOP 0
        high k i h lt (yes d) e =
            let z = first_only PRINCIPAL i (omega arith) one_principal (subst (λ (x : ℕ). i < get_or w x 0) d lt) in
            subst (λ (x : ℕ). get_or w (suc (base x + i)) 0 ≤ get_or w TOP 0) (sym d)
            (let n : suc (base PRINCIPAL + i) ≡ suc (base PRINCIPAL) = omega (arith, z) in rw n (let f = l.principal.next in let o = s.over in omega (arith, f, o, top_is)))
        high k i h lt (no d) (yes e) =
            let z = first_only RESOURCE i (omega arith) one_resource (subst (λ (x : ℕ). i < get_or w x 0) e lt) in
            subst (λ (x : ℕ). get_or w (suc (base x + i)) 0 ≤ get_or w TOP 0) (sym e)
            (let n : suc (base RESOURCE + i) ≡ suc (base RESOURCE) = omega (arith, z) in rw n (let f = l.resource.next in let o = s.over in omega (arith, f, o, top_is)))
        high k i h lt (no d) (no e) =
            let c = l.counts k h in
            let m : i < get_or a k 0 = omega (arith, lt, c) in
            let p : suc (base k + i) ≡ base k + suc i = omega arith in
            let z : get_or w (suc (base k + i)) 0 ≡ moved (get_or a (suc (base k + i)) 0) = subst (λ (x : ℕ). get_or w x 0 ≡ moved (get_or a x 0)) (sym p) (place k h d e (suc i) (omega (arith, m))) in
            let o = s.high k i h m in
            let g = moved_near (get_or a (suc (base k + i)) 0) (omega (arith, o, under)) in
            omega (arith, z, g, o, top_is)

        ends : (k : ℕ) → k < TOP → 1 ≤ get_or w k 0 → Last w k → Dec (k ≡ PRINCIPAL) → Dec (k ≡ RESOURCE) → get_or w (base k + get_or w k 0) 0 ≡ get_or w TOP 0
        ends k h one last (yes d) e = let z = last.last DAY (omega (arith, d)) (omega arith) in let c = l.counts DAY (omega arith) in absurd (omega (arith, z, c, day))
        ends k h one last (no d) (yes e) = let z = last.last DAY (omega (arith, e)) (omega arith) in let c = l.counts DAY (omega arith) in absurd (omega (arith, z, c, day))
        ends k h one last (no d) (no e) =
            let c = l.counts k h in
            ap (λ (n : ℕ). get_or w (base k + n) 0) c ∙ place k h d e (get_or a k 0) (omega arith)
            ∙ ap moved (s.ends k h (omega (arith, one, c)) (record { last = λ j lo hi. sym (l.counts j hi) ∙ last.last j lo hi })) ∙ sym l.top

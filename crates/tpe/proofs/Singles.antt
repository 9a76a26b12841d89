-- Each entity line of an accepted sheet is the first of its entity: lines ascend by the numbers of their entities, and values are distinct. Assumes nothing.
use mathlib.Core.Path.{◌≡◌, refl, sym, ◌∙◌, ap, subst}
use mathlib.Core.Bool.{Bool, true, false, cond}
use mathlib.Core.Option.{some}
use mathlib.Core.List.{List, [], ◌∷◌, ◌++◌, append_assoc}
use Prim.Native.Nat.{ℕ, zero, suc, ◌<◌}
use native.Mathlib.Omega.{arith}
use borrow.Author.Tests.{ltb-true}
use lib.ListN.{length, get_or}
use Rattle.cedar.specs.Rows.{rent, same_row}
use Rattle.cedar.specs.Table.{At}
use Rattle.cedar.proofs.TableLaws.{number_inj, same_row_true}
use Rattle.sheet.specs.Forms.{Mode, forms, form_of, slot_at, at, VALUE, ENTITY}
use Rattle.sheet.specs.State.{State, lines_of, count, value_at}
use Rattle.sheet.specs.Content.{value_over, contents, entity_line}
use Rattle.sheet.proofs.reading.Lines.{Was, History}
use Rattle.sheet.proofs.reading.EntityOrder.{above_of, above_last}
use Rattle.sheet.proofs.content.ValueRows.{values_table}
use Rattle.sheet.proofs.content.Fitting.{val, val_eq}
use Rattle.sheet.proofs.content.PoliciesRead.{item_there}
use Rattle.sheet.proofs.content.Environment.{there_value, entity_read}
use Rattle.table.specs.Layout.{rows_of, held, lines_held}
use Rattle.strict.proofs.Links.{same_lines}
use Rattle.lookup.proofs.Halving.{Single}

module _ (m : Mode) (s : State) (h : History m s) where
  -- a value has one number
  same_number : (i j : ℕ) → i < count s VALUE → j < count s VALUE → value_at s i ≡ value_at s j → i ≡ j
  same_number i j li lj e =
      let z : val m s h i ≡ val m s h j = val_eq m s h i ∙ ap (value_over (contents s)) e ∙ sym (val_eq m s h j) in
      number_inj (values_table m s h) i j (val m s h j) (subst (At (contents s) i) z (there_value m s h i li)) (there_value m s h j lj)

  -- the number that a line names is that of a value
  named : (pre : List (List ℕ)) (x : List ℕ) → Was m s ENTITY pre x → at x 0 < count s VALUE
  unfolding slot_at form_of forms
  named pre x w =
      let l = ltb-true (at x 0) (count w.was 5) (item_there m s w.was ENTITY x 16 (entity_read m s pre x w) w.pass.refers 0 (ltb-true 0 4 refl)) in
      subst (λ (q : List (List ℕ)). at x 0 < length q) (w.earlier 5 (omega arith)) l

  one_on : (pre : List (List ℕ)) (x : List ℕ) (rs : List (List ℕ)) → lines_of s ENTITY ≡ pre ++ (x ∷ rs) → lines_of s ENTITY ≡ (pre ++ (x ∷ [])) ++ rs
  one_on pre x rs e = e ∙ sym (append_assoc pre (x ∷ []) rs)

  all_named : (pre rs : List (List ℕ)) → lines_of s ENTITY ≡ pre ++ rs → (i : ℕ) → i < length rs → at (get_or rs i []) 0 < count s VALUE
  all_named pre [] e i l = absurd (omega (arith, l))
  all_named pre (x ∷ rs) e zero l = named pre x (h ENTITY pre x rs e)
  all_named pre (x ∷ rs) e (suc i) l = all_named (pre ++ (x ∷ [])) rs (one_on pre x rs e) i (omega (arith, l))

  next_above : (pre : List (List ℕ)) (x y : List ℕ) (rs : List (List ℕ)) → lines_of s ENTITY ≡ pre ++ (x ∷ y ∷ rs) → at x 0 < at y 0
  next_above pre x y rs e = let w = h ENTITY (pre ++ (x ∷ [])) y rs (one_on pre x (y ∷ rs) e) in above_last w.was pre x y w.mine (above_of w.was y w.pass.refers)

  later_above : (pre : List (List ℕ)) (x : List ℕ) (rs : List (List ℕ)) → lines_of s ENTITY ≡ pre ++ (x ∷ rs) → (i : ℕ) → i < length rs → at x 0 < at (get_or rs i []) 0
  later_above pre x [] e i l = absurd (omega (arith, l))
  later_above pre x (y ∷ rs) e zero l = next_above pre x y rs e
  later_above pre x (y ∷ rs) e (suc i) l =
      let a = next_above pre x y rs e in
      let b = later_above (pre ++ (x ∷ [])) y rs (one_on pre x (y ∷ rs) e) i (omega (arith, l)) in
      omega (arith, a, b)

  first_of : (pre rs : List (List ℕ)) → lines_of s ENTITY ≡ pre ++ rs → (i k t : ℕ) → i < length rs → same_row (value_at s (at (get_or rs i []) 0)) (rent k t) ≡ true → entity_line s (rent k t) rs ≡ some (get_or rs i [])
  first_of pre [] e i k t l q = absurd (omega (arith, l))
  first_of pre (x ∷ rs) e zero k t l q = ap (λ (b : Bool). cond b (some x) (entity_line s (rent k t) rs)) q
  first_of pre (x ∷ rs) e (suc i) k t l q =
      ap (λ (b : Bool). cond b (some x) (entity_line s (rent k t) rs)) (go (same_row (value_at s (at x 0)) (rent k t)) refl)
      ∙ first_of (pre ++ (x ∷ [])) rs (one_on pre x rs e) i k t (omega (arith, l)) q
    where
      go : (b : Bool) → same_row (value_at s (at x 0)) (rent k t) ≡ b → same_row (value_at s (at x 0)) (rent k t) ≡ false
      go true p =
          let z = same_number (at x 0) (at (get_or rs i []) 0) (named pre x (h ENTITY pre x rs e)) (all_named (pre ++ (x ∷ [])) rs (one_on pre x rs e) i (omega (arith, l)))
          (same_row_true (value_at s (at x 0)) (rent k t) p ∙ sym (same_row_true (value_at s (at (get_or rs i []) 0)) (rent k t) q)) in
          let y = later_above pre x rs e i (omega (arith, l)) in
          absurd (omega (arith, z, y))
      go false p = p

  pub single : Single s
  single = record { is = λ i k t l q. first_of [] (lines_of s ENTITY) refl i k t l q }

-- whatever the bytes of texts and the depths
pub single_words : (sheet a b : List ℕ) → Single (held sheet a b) → Single (held [] a [])
unfolding held lines_held
single_words sheet a b s = record { is = λ i k t l q. same_lines false a sheet b (rent k t) (rows_of a ENTITY) ∙ s.is i k t l q }

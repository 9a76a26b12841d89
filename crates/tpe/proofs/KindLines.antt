-- The type line `entity,k`, of kind k alone, is found by its row, if there is one; and the value rows of a sheet that was read are formed.
use mathlib.Core.Path.{◌≡◌, refl, sym, ◌∙◌, ap, ap₂, subst}
use mathlib.Core.Bool.{Bool, true, false, cond}
use mathlib.Core.List.{List, [], ◌∷◌, ◌++◌, append_assoc}
use Prim.Native.Nat.{ℕ, zero, suc, ◌<◌}
use native.Mathlib.Nat.{le_of_suc-le-suc}
use native.Mathlib.Omega.{arith}
use lib.ListN.{length, get_or}
use Rattle.cedar.specs.Types.{Ty, tbool, tlong, tstr, tent, tset, trec}
use Rattle.cedar.specs.Interpret.{alone}
use Rattle.sheet.specs.Bytes.{same}
use Rattle.sheet.specs.Forms.{Mode, TYPE, VALUE, alone_row}
use Rattle.sheet.specs.State.{State, lines_of, count, TypeRow, bool, long, string, entity, set', record', type_row}
use Rattle.sheet.specs.Answer.{type_number}
use Rattle.sheet.specs.Content.{types, ty_over}
use Rattle.sheet.proofs.reading.Lines.{History}
use Rattle.sheet.proofs.content.ValueRows.{same_refl, value_back}
use Rattle.sheet.proofs.content.Fitting.{ty_eq}
use Rattle.sheet.proofs.content.TypeNumbers.{Listed, split_at, type_back, types_length}
use Rattle.sheet.proofs.demand3.TwoSheets.{same_is}
use Rattle.value.specs.Lines.{place_of}
use Rattle.value.proofs.Interned.{Formeds, none_formed, one_formed}

-- a row that is there is found
place_found : (q : List ℕ) (rows : List (List ℕ)) (y : ℕ) → y < length rows → get_or rows y [] ≡ q → (place_of q rows < length rows) × (get_or rows (place_of q rows) [] ≡ q)
unfolding place_of
place_found q [] y lt e = absurd (omega arith)
place_found q (r ∷ rows) zero lt e = let z : same r q ≡ true = ap (λ x. same x q) e ∙ same_refl q in rw z (omega arith, e)
place_found q (r ∷ rows) (suc y) lt e = go (same r q) refl (place_found q rows y (le_of_suc-le-suc lt) e)
  where
    go : (b : Bool) → same r q ≡ b → (place_of q rows < length rows) × (get_or rows (place_of q rows) [] ≡ q)
        → (cond b 0 (suc (place_of q rows)) < suc (length rows)) × (get_or (r ∷ rows) (cond b 0 (suc (place_of q rows))) [] ≡ q)
    go true p ih = (omega arith, same_is r q p)
    go false p ih = (let z = ih.0 in omega (arith, z), ih.1)

abbrev IsEnt : ℕ → Ty → Type 0
IsEnt k tbool = ⊥
IsEnt k tlong = ⊥
IsEnt k tstr = ⊥
IsEnt k (tent l ls) = (l ≡ k) × (ls ≡ [])
IsEnt k (tset A) = ⊥
IsEnt k (trec R) = ⊥

entity_of : (ts : List Ty) (k : ℕ) (r : TypeRow) → IsEnt k (ty_over ts r) → r ≡ entity k []
entity_of ts k bool e = absurd e
entity_of ts k long e = absurd e
entity_of ts k string e = absurd e
entity_of ts k (entity l ls) e = ap₂ entity e.0 e.1
entity_of ts k (set' y) e = absurd e
entity_of ts k (record' ds) e = absurd e

module _ (m : Mode) (s : State) (h : History m s) where
  pub kind_found : (k : ℕ) → Listed (types s) (alone k) → (place_of (alone_row k) (lines_of s TYPE) < length (types s)) × (get_or (types s) (place_of (alone_row k) (lines_of s TYPE)) tbool ≡ alone k)
  kind_found k e =
      let y = type_number (types s) (alone k) in
      let n = types_length m s h in
      let lt : y < count s TYPE = let b = e.below in omega (arith, b, n) in
      let q : alone k ≡ ty_over (types s) (type_row (get_or (lines_of s TYPE) y [])) = sym e.found ∙ ty_eq m s h y in
      let r : type_row (get_or (lines_of s TYPE) y []) ≡ entity k [] = entity_of (types s) k (type_row (get_or (lines_of s TYPE) y [])) (subst (IsEnt k) q (refl, refl)) in
      let row : get_or (lines_of s TYPE) y [] ≡ alone_row k = split_at (lines_of s TYPE) y lt (λ pre rest z. let w = h TYPE pre (get_or (lines_of s TYPE) y []) rest z in let b = type_back m w.line (get_or (lines_of s TYPE) y []) w.row w.key in sym (rw r at b)) in
      let p = place_found (alone_row k) (lines_of s TYPE) y lt row in
      let b = p.0 in
      (omega (arith, b, n), ty_eq m s h (place_of (alone_row k) (lines_of s TYPE)) ∙ ap (λ x. ty_over (types s) (type_row x)) p.1)

  formeds_from : (pre rest : List (List ℕ)) → lines_of s VALUE ≡ pre ++ rest → Formeds rest
  formeds_from pre [] e = none_formed
  formeds_from pre (r ∷ rest) e = let w = h VALUE pre r rest e in one_formed (value_back m w.line r w.row w.key) (formeds_from (pre ++ (r ∷ [])) rest (e ∙ sym (append_assoc pre (r ∷ []) rest)))

  pub rows_formed : Formeds (lines_of s VALUE)
  rows_formed = formeds_from [] (lines_of s VALUE) refl

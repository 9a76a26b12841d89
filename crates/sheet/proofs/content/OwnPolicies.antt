-- The policies of an accepted sheet, by number and by content: the trees over value numbers read as the trees over values.
use mathlib.Core.Path.{◌≡◌, refl, subst}
use mathlib.Core.Bool.{false}
use mathlib.Core.List.{List, ◌∷◌, ◌++◌}
use Prim.Native.Nat.{ℕ, ◌<◌, ◌-◌}
use native.Mathlib.Omega.{arith}
use borrow.Author.Tests.{ltb-true}
use lib.ListN.{length, get_or}
use Rattle.cedar.specs.Value.{vbool}
use Rattle.cedar.specs.Table.{At}
use Rattle.cedar.proofs.SettledByNumber.{ReadPolicies}
use Rattle.sheet.specs.Forms.{Mode, forms, form_of, slot_at, tag, at, key_of, NODE}
use Rattle.sheet.specs.State.{State, lines_of, count}
use Rattle.sheet.specs.Content.{types, contents, trees, exprs, n_policies, policies, content_of}
use Rattle.sheet.proofs.reading.Lines.{History, Ended}
use Rattle.sheet.proofs.reading.Parsed.{tags_between}
use Rattle.sheet.proofs.reading.NodeRows.{row_read}
use Rattle.sheet.proofs.content.PoliciesRead.{item_there, node_tags, read_policies}
use Rattle.sheet.proofs.content.Environment.{there_value}

module _ (m : Mode) (s : State) (h : History m s) where
  pub lit_there : (pre : List (List ℕ)) (r : List ℕ) (rest : List (List ℕ)) → lines_of s NODE ≡ pre ++ (r ∷ rest) → tag r - 21 ≡ 0 → At (contents s) (at r 1) (get_or (contents s) (at r 1) (vbool false))
  unfolding key_of slot_at form_of forms
  lit_there pre r rest e z =
      let w = h NODE pre r rest e in
      let (lo, hi) = tags_between NODE 21 49 (tag r) (omega arith) node_tags w.key in
      let rd = row_read m r w.line 21 w.row (omega (arith, lo, z)) (omega arith) (omega arith) (λ z. absurd (omega (arith, z))) in
      let lt = ltb-true (at r 1) (count w.was 5) (item_there m s w.was NODE r 21 rd w.pass.refers 1 (ltb-true 1 2 refl)) in
      there_value m s h (at r 1) (subst (λ l. at r 1 < length l) (w.earlier 5 (omega arith)) lt)

  pub read_own : Ended s → ReadPolicies (contents s) (n_policies s) (policies s)
  unfolding n_policies policies trees exprs
  read_own f = read_policies m s h (contents s) (types s) (content_of s) (there_value m s h) lit_there f

-- The complete answer, which the Cedar specification defines, is what the numbered run gives over the complete sheet: one interpreter serves both runs.
use mathlib.Core.Path.{◌≡◌, refl, sym, subst}
use mathlib.Core.Bool.{true, ◌||◌}
use mathlib.Core.Option.{Option, none, some}
use mathlib.Core.List.{List, [], ◌∷◌, ◌++◌}
use Prim.Native.Nat.{ℕ, ◌<◌, ◌≤◌}
use native.Mathlib.Omega.{arith}
use borrow.Author.Tests.{ltb-true, ne_eqb}
use lib.Dec.{ltb}
use lib.ListN.{length}
use Rattle.cedar.specs.Value.{vent}
use Rattle.cedar.specs.Types.{Var, principal, action, resource, context}
use Rattle.cedar.specs.Entities.{PLine, line_or}
use Rattle.cedar.specs.Rows.{rent}
use Rattle.cedar.specs.Table.{dent}
use Rattle.cedar.specs.Numbered.{made, old}
use Rattle.cedar.proofs.ReadsOps.{EnvRead, LineRead, GiveRead, give_made, give_old, rec_empty, set_empty}
use Rattle.cedar.proofs.BothRuns.{whole, complete_classes}
use Rattle.sheet.specs.Forms.{complete, forms, form_of, slot_at, tag, at, mark, key_of, PRINCIPAL, ACTION, RESOURCE, CONTEXT, ENTITY, no_key, no_tag}
use Rattle.sheet.specs.State.{State, lines_of, count, line_at}
use Rattle.sheet.specs.Sheet.{read}
use Rattle.sheet.specs.Content.{contents, schema, known, given, requested, content_in, fields_in, set_over, above, parts_given, line_found, line_given, look_up, n_env, env}
use Rattle.sheet.specs.Answer.{run, results}
use Rattle.sheet.specs.Call.{Accepted}
use Rattle.sheet.proofs.reading.Lines.{Was}
use Rattle.sheet.proofs.reading.Parsed.{all_below, between, tags_between}
use Rattle.sheet.proofs.content.ValueRows.{values_table}
use Rattle.sheet.proofs.reading.NodeRows.{Read, row_read, line_small, known_small}
use Rattle.sheet.proofs.content.PoliciesRead.{item_there, policies_typed, request_tags}
use Rattle.sheet.proofs.content.Environment.{Facts, the_line, there_value, entity_found, entity_read, context_read, parts_read}
use Rattle.sheet.proofs.content.EnvFit.{env_fits, known_some}
use Rattle.sheet.proofs.content.OwnPolicies.{read_own}
use Rattle.sheet.proofs.demand3.Demand3Bytes.{facts}
use Rattle.cedar.specs.Runs.{verdicts}
use Rattle.cedar.specs.Numbered as N

module _ (s : State) (f : Facts complete s) where
  row_of_key : (k t : ℕ) → k < no_key → 2 ≤ t → t < no_tag → (t ≡ 11 → ⊥) → all_below (between k t t) no_tag ≡ true → Was complete s k [] (line_at s k 0) → Read complete (line_at s k 0) t
  unfolding key_of
  row_of_key k t lt lo hi n e w = let (a, b) = tags_between k t t (tag (line_at s k 0)) lt e w.key in row_read complete (line_at s k 0) w.line t w.row (omega (arith, a, b)) lo hi n

  -- what is asked is known
  asked_small : (at (line_at s PRINCIPAL 0) 1 ≤ 9999) × (at (line_at s ACTION 0) 1 ≤ 9999) × (at (line_at s RESOURCE 0) 1 ≤ 9999) × (at (line_at s CONTEXT 0) 1 ≤ 9999)
  unfolding slot_at form_of forms
  asked_small =
      let p = row_of_key 7 17 (omega arith) (omega arith) (omega arith) (λ z. absurd (omega (arith, z))) request_tags.0 (the_line complete s f PRINCIPAL (omega arith) (omega arith)) in
      let a = row_of_key 8 18 (omega arith) (omega arith) (omega arith) (λ z. absurd (omega (arith, z))) request_tags.1 (the_line complete s f ACTION (omega arith) (omega arith)) in
      let r = row_of_key 9 19 (omega arith) (omega arith) (omega arith) (λ z. absurd (omega (arith, z))) request_tags.2 (the_line complete s f RESOURCE (omega arith) (omega arith)) in
      let c = context_read complete s [] (line_at s CONTEXT 0) (the_line complete s f CONTEXT (omega arith) (omega arith)) in (
        known_small (slot_at 17 1) 1 (p.field 1) (at (line_at s PRINCIPAL 0) 1) refl (p.reads 1 (ltb-true 1 2 refl)),
        line_small complete (slot_at 18 1) 1 (a.field 1) (at (line_at s ACTION 0) 1) refl (a.reads 1 (ltb-true 1 2 refl)),
        known_small (slot_at 19 1) 1 (r.field 1) (at (line_at s RESOURCE 0) 1) refl (r.reads 1 (ltb-true 1 2 refl)),
        known_small (slot_at 20 1) 5 (c.field 1) (at (line_at s CONTEXT 0) 1) refl (c.reads 1 (ltb-true 1 2 refl)),
      )

  entity_asked : (r : List ℕ) → at r 1 ≤ 9999 → GiveRead (contents s) (known (at r 1) (made (rent (at r 0) (at r 1)))) (some (vent (at r 0) (at r 1)))
  entity_asked r h = subst (λ o. GiveRead (contents s) o (some (vent (at r 0) (at r 1)))) (sym (known_some (at r 1) (made (rent (at r 0) (at r 1))) h)) (give_made dent)

  context_there : at (line_at s CONTEXT 0) 1 < count s 5
  unfolding slot_at form_of forms
  context_there =
      let w = the_line complete s f CONTEXT (omega arith) (omega arith) in
      let small = asked_small.3 in
      let a = item_there complete s w.was CONTEXT (line_at s CONTEXT 0) 20 (context_read complete s [] (line_at s CONTEXT 0) w) w.pass.refers 1 (ltb-true 1 2 refl) in
      ltb-true (at (line_at s CONTEXT 0) 1) (count s 5) (subst (λ l. ltb (at (line_at s CONTEXT 0) 1) (length l) ≡ true) (w.earlier 5 (omega arith))
      (subst (λ z. (z || ltb (at (line_at s CONTEXT 0) 1) (count w.was 5)) ≡ true) (ne_eqb (at (line_at s CONTEXT 0) 1) mark (λ z. absurd (omega (arith, z, small)))) a))

  all_asked : (x : Var) → GiveRead (contents s) (given s x) (some (requested s (contents s) x))
  all_asked principal = entity_asked (line_at s PRINCIPAL 0) asked_small.0
  all_asked action = entity_asked (line_at s ACTION 0) asked_small.1
  all_asked resource = entity_asked (line_at s RESOURCE 0) asked_small.2
  all_asked context = subst (λ o. GiveRead (contents s) o (some (content_in (contents s) (at (line_at s CONTEXT 0) 1)))) (sym (known_some (at (line_at s CONTEXT 0) 1) (old (at (line_at s CONTEXT 0) 1)) asked_small.3))
      (give_old (there_value complete s f.history (at (line_at s CONTEXT 0) 1) context_there))

  whole_line : List ℕ → PLine
  whole_line r = record { attrs = some (fields_in (content_in (contents s) (at r 1))); tags = some (fields_in (content_in (contents s) (at r 2))); ancestors = some (set_over (contents s) (above s (at r 0))) }

  line_whole : (pre : List (List ℕ)) (r : List ℕ) (rest : List (List ℕ)) → lines_of s ENTITY ≡ pre ++ (r ∷ rest) → LineRead (contents s) (parts_given complete s r) (whole_line r)
  unfolding whole_line slot_at form_of forms
  line_whole pre r rest a =
      let rd = entity_read complete s pre r (f.history ENTITY pre r rest a) in
      let n1 = known_small (slot_at 16 1) 5 (rd.field 1) (at r 1) refl (rd.reads 1 (ltb-true 1 4 refl)) in
      let n2 = known_small (slot_at 16 2) 5 (rd.field 2) (at r 2) refl (rd.reads 2 (ltb-true 2 4 refl)) in
      subst (LineRead (contents s) (parts_given complete s r)) (λ i. record {
        attrs = known_some (at r 1) (fields_in (content_in (contents s) (at r 1))) n1 i;
        tags = known_some (at r 2) (fields_in (content_in (contents s) (at r 2))) n2 i;
        ancestors = some (set_over (contents s) (above s (at r 0)));
      }) (parts_read complete s f pre r rest a)

  pub whole_read : EnvRead (contents s) (n_env complete s) (whole (env s))
  unfolding n_env env whole_line
  whole_read = record { request = all_asked; line = λ k t. go k t (look_up s k t) refl }
    where
      go : (k t : ℕ) (o : Option (List ℕ)) → look_up s k t ≡ o → LineRead (contents s) (N.nline_or (line_given complete s o)) (record { attrs = some (line_or (line_found s (contents s) o)).attrs; tags = some (line_or (line_found s (contents s) o)).tags; ancestors = some (line_or (line_found s (contents s) o)).ancestors })
      go k t none q = record { attrs = rec_empty; tags = rec_empty; ancestors = set_empty }
      go k t (some r) q = entity_found s (rent k t) (lines_of s ENTITY) r q (λ pre rest a b. line_whole pre r rest a)

  pub one_interpreter : verdicts (run complete s).lines ≡ results s
  unfolding run results
  one_interpreter = complete_classes (schema s) (env s) (env_fits s f) (n_env complete s) (values_table complete s f.history) whole_read (read_own complete s f.history f.ends) (policies_typed complete s f.history f.ends)

-- for every accepted complete sheet
pub complete_by_number : (sheet : List ℕ) → Accepted complete sheet → verdicts (run complete (read complete sheet).state).lines ≡ results (read complete sheet).state
complete_by_number sheet a = one_interpreter (read complete sheet).state (facts complete sheet a)

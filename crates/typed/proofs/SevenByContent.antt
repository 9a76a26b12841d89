-- REFUSAL 7 BOTH WAYS: in every state that a reading reaches, a line that stood every check before is typed over numbers exactly if it is typed by content.
-- So the refusal of a line is the same with either rule, and what is refused with 7 has no type by content.
use mathlib.Core.Path.{◌≡◌, refl, sym, ◌∙◌, ap, subst}
use mathlib.Core.Bool.{Bool, true, false, cond, ◌&&◌, ◌||◌, not}
use mathlib.Core.List.{List, [], ◌∷◌}
use Prim.Native.Nat.{ℕ, zero, suc, ◌<◌, ◌≤◌, ◌-◌}
use native.Mathlib.Omega.{arith}
use native.Mathlib.Decide.{dec_lt}
use lib.Dec.{ltb, eqb}
use lib.ListN.{get_or}
use Rattle.cedar.proofs.Tools.{no_true, eqb_true}
use Rattle.cedar.specs.Types.{Ty}
use Rattle.cedar.specs.Residual.{Expr, err, ty_of}
use Rattle.cedar.specs.TypingTest.{on_ent_ty, check}
use Rattle.sheet.specs.Forms.{Mode, at, key_of, row_of, refs, NODE, no_tag}
use Rattle.sheet.specs.State.{State, lines_of}
use Rattle.sheet.specs.Typing.{typed, node_typed, rules, is_slot, nodes_of}
use Rattle.sheet.specs.Sheet.{in_order, too_many, found, depth, used_twice, fault_of}
use Rattle.sheet.specs.Content.{types, content_of, schema, tree_over, trees_from}
use Rattle.sheet.proofs.reading.Parsed.{tags_between, node_tags}
use Rattle.sheet.proofs.reading.NodeRows.{row_read}
use Rattle.sheet.proofs.content.PoliciesRead.{all_there_law}
use Rattle.sheet.proofs.reading.Depths.{Reached}
use Rattle.typed.specs.ByContent.{type_in, drafts, draft, node_by, by_content, fault_by}
use Rattle.typed.proofs.ShapesBoth.{kinds_shaped}
use Rattle.typed.proofs.RulesBoth.{is_entity}
use Rattle.typed.proofs.Parts.{blank, check_parts}
use Rattle.typed.proofs.Trees.{type_there, trees_ty, drafts_check, children_pass}
use Rattle.typed.proofs.NodeRule.{node_rule_law}
use Rattle.typed.proofs.LinesBoth.{shape_both, entity_line_both, context_both, context_placed, policy_both, slots_both}
use Rattle.typed.proofs.FitsBoth.{and_one}

-- a slot stands as an error, which passes
pub slot_passes : (s : State) (r : List ℕ) → is_slot r ≡ true → check (schema s) (draft s r) ≡ true
slot_passes s [] e = no_true e
slot_passes s (t ∷ k) e = subst (λ z. check (schema s) (draft s (z ∷ k)) ≡ true) (sym (eqb_true t 49 e)) refl

module _ {m : Mode} {s : State} (h : Reached m s) where
  -- ---- nodes

  module _ (order : in_order s NODE ≡ true) where
    -- the root of a tree that is no slot, whatever typed trees stand for slots
    pub root_both : (sl : Ty → ℕ → Expr) → ((A : Ty) (x : ℕ) → ty_of (sl A x) ≡ A) → (t : ℕ) (k l : List ℕ) → (t ∷ k) ≡ row_of m l → key_of (t ∷ k) ≡ NODE → found s NODE (t ∷ k) ≡ true → is_slot (t ∷ k) ≡ false
        → get_or (rules s (t ∷ k)) (t - 21) false ≡ check (schema s) (blank (tree_over (types s) (content_of s) sl (trees_from (types s) (content_of s) sl [] (lines_of s NODE)) (t ∷ k)))
    unfolding key_of
    root_both sl own t k l e q f ns =
        let (lo, hi) = tags_between NODE 21 49 t (omega arith) node_tags q in
        let rd = row_read m (t ∷ k) l t e refl (omega (arith, lo)) (omega (arith, hi)) (λ z. absurd (omega (arith, z, lo))) in
        node_rule_law h (kinds_shaped h NODE (omega arith) order) (context_placed h order) sl (trees_from (types s) (content_of s) sl [] (lines_of s NODE)) (trees_ty h sl own) t lo (below hi) k rd (all_there_law s NODE (t ∷ k) f) (type_there m s (t ∷ k) l e q f)
      where
        below : t ≤ 49 → t ≤ 48
        below le = go (dec_lt t 49)
          where
            go : Dec (t < 49) → t ≤ 48
            go (yes d) = omega (arith, d)
            go (no d) = let z : t ≡ 49 = omega (arith, d, le) in no_true (sym ns ∙ ap (λ x. eqb x 49) z)

    slot_rule : (t : ℕ) (k : List ℕ) → is_slot (t ∷ k) ≡ true → get_or (rules s (t ∷ k)) (t - 21) false ≡ on_ent_ty false (type_in s (get_or k 0 0)) (λ ks. true)
    slot_rule t k e = subst (λ z. get_or (rules s (z ∷ k)) (z - 21) false ≡ on_ent_ty false (type_in s (get_or k 0 0)) (λ ks. true)) (sym (eqb_true t 49 e)) (is_entity h (get_or k 0 0))

    node_row : (t : ℕ) (k l : List ℕ) → (t ∷ k) ≡ row_of m l → key_of (t ∷ k) ≡ NODE → found s NODE (t ∷ k) ≡ true → (b : Bool) → is_slot (t ∷ k) ≡ b
        → get_or (rules s (t ∷ k)) (t - 21) false ≡ ((not b || on_ent_ty false (type_in s (get_or k 0 0)) (λ ks. true)) && check (schema s) (draft s (t ∷ k)))
    unfolding drafts
    node_row t k l e q f true b = slot_rule t k b ∙ and_one (on_ent_ty false (type_in s (get_or k 0 0)) (λ ks. true)) ∙ ap (λ c. on_ent_ty false (type_in s (get_or k 0 0)) (λ ks. true) && c) (sym (slot_passes s (t ∷ k) b))
    node_row t k l e q f false b =
        root_both (λ A x. err A) (λ A x. refl) t k l e q f b
        ∙ and_one (check (schema s) (blank (draft s (t ∷ k))))
        ∙ ap (λ c. check (schema s) (blank (draft s (t ∷ k))) && c) (sym (children_pass s (check (schema s)) (drafts s) (drafts_check h) (λ A x. err A) (λ A x. refl) (t ∷ k)))
        ∙ sym (check_parts (schema s) (draft s (t ∷ k)))

    pub node_both : (r l : List ℕ) → r ≡ row_of m l → key_of r ≡ NODE → found s NODE r ≡ true → node_typed s r ≡ node_by s r
    unfolding key_of
    node_both [] l e q f = let (lo, hi) = tags_between NODE 21 49 no_tag (omega arith) node_tags q in absurd (omega (arith, hi))
    node_both (t ∷ k) l e q f = node_row t k l e q f (is_slot (t ∷ k)) refl

  -- ---- one line of any key

  typed_at : (k : ℕ) (r l : List ℕ) → r ≡ row_of m l → key_of r ≡ k → in_order s k ≡ true → found s k r ≡ true → typed s r k ≡ by_content s r k
  unfolding typed by_content
  typed_at zero r l e q o f = refl
  typed_at (suc zero) r l e q o f = refl
  typed_at (suc (suc zero)) r l e q o f = refl
  typed_at (suc (suc (suc zero))) r l e q o f = refl
  typed_at (suc (suc (suc (suc zero)))) r l e q o f = shape_both h r
  typed_at (suc (suc (suc (suc (suc zero))))) r l e q o f = refl
  typed_at (suc (suc (suc (suc (suc (suc zero)))))) r l e q o f = entity_line_both h (kinds_shaped h 6 (omega arith) o) r
  typed_at (suc (suc (suc (suc (suc (suc (suc zero))))))) r l e q o f = refl
  typed_at (suc (suc (suc (suc (suc (suc (suc (suc zero)))))))) r l e q o f = refl
  typed_at (suc (suc (suc (suc (suc (suc (suc (suc (suc zero))))))))) r l e q o f = refl
  typed_at (suc (suc (suc (suc (suc (suc (suc (suc (suc (suc zero)))))))))) r l e q o f = context_both h r
  typed_at (suc (suc (suc (suc (suc (suc (suc (suc (suc (suc (suc zero))))))))))) r l e q o f = refl
  typed_at (suc (suc (suc (suc (suc (suc (suc (suc (suc (suc (suc (suc zero)))))))))))) r l e q o f = node_both o r l e q f
  typed_at (suc (suc (suc (suc (suc (suc (suc (suc (suc (suc (suc (suc (suc zero))))))))))))) r l e q o f = policy_both h r l e q f
  typed_at (suc (suc (suc (suc (suc (suc (suc (suc (suc (suc (suc (suc (suc (suc zero)))))))))))))) r l e q o f = slots_both h (at r 1) (at r 2) (nodes_of s (at r 0))
  typed_at (suc (suc (suc (suc (suc (suc (suc (suc (suc (suc (suc (suc (suc (suc (suc zero))))))))))))))) r l e q o f = refl
  typed_at (suc (suc (suc (suc (suc (suc (suc (suc (suc (suc (suc (suc (suc (suc (suc (suc k)))))))))))))))) r l e q o f = refl

  -- A LINE THAT STANDS IS TYPED OVER NUMBERS EXACTLY IF IT IS TYPED BY CONTENT
  pub typed_both : (l : List ℕ) → in_order s (key_of (row_of m l)) ≡ true → found s (key_of (row_of m l)) (row_of m l) ≡ true → typed s (row_of m l) (key_of (row_of m l)) ≡ by_content s (row_of m l) (key_of (row_of m l))
  typed_both l o f = typed_at (key_of (row_of m l)) (row_of m l) l refl refl o f

  -- THE REFUSAL OF A LINE IS THE SAME WITH 7 BY CONTENT
  pub fault_both : (l : List ℕ) → fault_of s (key_of (row_of m l)) (row_of m l) ≡ fault_by s (key_of (row_of m l)) (row_of m l)
  fault_both l = go (in_order s k) (found s k r) refl refl
    where
      r : List ℕ
      r = row_of m l

      k : ℕ
      k = key_of (row_of m l)

      go : (a c : Bool) → in_order s k ≡ a → found s k r ≡ c
          → ◌≡◌ {A = ℕ} (cond (not a) 3 (cond (too_many s k r) 4 (cond (not c) 5 (cond (ltb 64 (depth s k r)) 6 (cond (not (typed s r k)) 7 (cond (used_twice s.used (refs NODE r)) 8 0))))))
          (cond (not a) 3 (cond (too_many s k r) 4 (cond (not c) 5 (cond (ltb 64 (depth s k r)) 6 (cond (not (by_content s r k)) 7 (cond (used_twice s.used (refs NODE r)) 8 0))))))
      go false c o f = refl
      go true false o f = refl
      go true true o f = ap (λ b. cond (too_many s k r) 4 (cond (ltb 64 (depth s k r)) 6 (cond (not b) 7 (cond (used_twice s.used (refs NODE r)) 8 0)))) (typed_both l o f)

-- A node's rule over numbers is cedar's typing test of its tree without what its children hold.
use mathlib.Core.Path.{◌≡◌, refl, sym, ◌∙◌, ap, ap₂, subst}
use mathlib.Core.Bool.{Bool, true, false, ◌&&◌, ◌||◌}
use mathlib.Core.Option.{Option}
use mathlib.Core.List.{List, [], ◌∷◌}
use Prim.Native.Nat.{ℕ, zero, suc, ◌<◌, ◌≤◌, ◌+◌, ◌-◌}
use native.Mathlib.Omega.{arith}
use borrow.Author.Tests.{ltb-true}
use lib.Dec.{eqb}
use lib.ListN.{length, get_or, drop}
use Rattle.cedar.proofs.Tools.{and_both}
use Rattle.cedar.specs.Value.{on_some}
use Rattle.cedar.specs.Types.{Ty, tbool, declared, ty_same}
use Rattle.cedar.specs.Residual.{Expr, err, and, or, ite, un, bin, rel, get, has, haspath, ty_of, unot, uneg, uempty, uis, ulike, beq, blt, ble, badd, bsub, bmul, bcontains, ball, bany, rin, rgettag, rhastag}
use Rattle.cedar.specs.Typing.{named}
use Rattle.cedar.specs.TypingTest.{on_set_ty, on_rec_ty, completed, check, check_all, check_args}
use Rattle.cedar.specs.Numbered.{entry_of, is_some, pick_n}
use Rattle.sheet.specs.Forms.{Mode, Slot, line, forms, form_of, slot_at, at, TYPE, NODE, KIND, SHAPE, CONTEXT}
use Rattle.sheet.specs.State.{State, count, line_at, Declared, record', type_at}
use Rattle.sheet.specs.Typing.{on_set_of, on_record, declared_in, all_in, all_entries, entries_fit, type_of_node, arg_types, rules}
use Rattle.sheet.specs.Sheet.{all_there, there_is}
use Rattle.sheet.specs.Content.{types, content_of, schema, attrs_over, pattern_of, children_over, args_over, tree_over}
use Rattle.sheet.proofs.reading.NodeRows.{Read, there_at}
use Rattle.sheet.proofs.reading.Slots.{set_slot, field_slot}
use Rattle.sheet.proofs.reading.Shallow.{Part, elem, attr}
use Rattle.sheet.proofs.reading.Depths.{Reached}
use Rattle.typed.specs.ByContent.{type_in}
use Rattle.typed.proofs.FitsBoth.{required_same, and_turn, and_one}
use Rattle.typed.proofs.TypesBoth.{set_both, record_both, number_both, part_there}
use Rattle.typed.proofs.ShapesBoth.{declared_both}
use Rattle.typed.proofs.RulesBoth.{rule_lit, rule_var, rule_and, rule_or, rule_eq, rule_lt, rule_le, rule_add, rule_sub, rule_mul, rule_in, rule_gettag, rule_hastag, rule_contains, rule_all, rule_any, rule_if, rule_is, rule_like, rule_get, rule_has, rule_path, rule_not, rule_neg, rule_empty}
use Rattle.typed.proofs.Parts.{bare_all, bare_args, blank}
use Rattle.typed.proofs.Trees.{node_type_there}

-- where every kind has a shape and the context has its type
module _ {m : Mode} {s : State} (h : Reached m s) (full : count s KIND ≤ count s SHAPE) (placed : at (line_at s CONTEXT 0) 0 < count s TYPE) where
  -- sl: what stands for a slot; es: trees that have the types of the node lines
  module _ (sl : Ty → ℕ → Expr) (es : List Expr) (kids : (n : ℕ) → n < count s NODE → ty_of (get_or es n (err tbool)) ≡ type_in s (type_of_node s n)) where
    there : (sl : Slot) (n : ℕ) → sl ≡ line NODE → there_is s sl n ≡ true → n < count s NODE
    there sl n e p = ltb-true n (count s NODE) (sym (ap (λ z. there_is s z n) e) ∙ p)

    -- ---- the children of a set

    all_both : (z j : ℕ) (l : List ℕ) → z < count s TYPE → all_there s 47 (suc j) l ≡ true → all_in (λ n. eqb (type_of_node s n) z) l ≡ check_all (schema s) (bare_all (children_over (types s) (content_of s) es l)) (type_in s z)
    all_both z j [] lt a = refl
    all_both z j (n ∷ l) lt a = and_both (there_is s (slot_at 47 (suc j)) n) (all_there s 47 (suc (suc j)) l) a (λ p q.
        let i = there (slot_at 47 (suc j)) n (set_slot j) p in
        ap₂ ◌&&◌ (number_both h (type_of_node s n) z (node_type_there h n i) lt ∙ ap (λ A. ty_same A (type_in s z)) (sym (kids n i)) ∙ and_one (ty_same (ty_of (get_or es n (err tbool))) (type_in s z))) (all_both z (suc j) l lt q))

    -- ---- the children of a record

    arg_both : (ds : List Declared) (y t n : ℕ) → type_at s y ≡ record' ds → n < count s NODE → on_some false (declared_in t ds) (eqb (type_of_node s n)) ≡ on_some false (declared t (attrs_over (types s) ds)) (ty_same (ty_of (get_or es n (err tbool))))
    arg_both ds y t n e i = declared_both h full false t ds (eqb (type_of_node s n)) (ty_same (ty_of (get_or es n (err tbool)))) (λ x d.
        number_both h (type_of_node s n) x (node_type_there h n i) (part_there h y x (subst (λ w. Part w x) (sym e) (attr t d))) ∙ ap (λ A. ty_same A (type_in s x)) (sym (kids n i)))

    args_both : (r : List ℕ) (ds : List Declared) (y i : ℕ) (l : List ℕ) → type_at s y ≡ record' ds → all_there s 48 (suc (i + i)) l ≡ true
        → all_entries (λ t x. on_some false (declared_in t ds) (eqb x)) (arg_types s r l) ≡ check_args (schema s) (bare_args (args_over (types s) (content_of s) es l)) (attrs_over (types s) ds)
    args_both r ds y i [] e a = refl
    args_both r ds y i (t ∷ []) e a = refl
    args_both r ds y i (t ∷ n ∷ l) e a =
        and_both (there_is s (slot_at 48 (suc (i + i))) t) (there_is s (slot_at 48 (suc (suc (i + i)))) n && all_there s 48 (suc (suc (suc (i + i)))) l) a (λ p q.
        and_both (there_is s (slot_at 48 (suc (suc (i + i)))) n) (all_there s 48 (suc (suc (suc (i + i)))) l) q (λ v w.
        ap₂ ◌&&◌ (arg_both ds y t n e (there (slot_at 48 (suc (suc (i + i)))) n (field_slot i) v) ∙ and_one (on_some false (declared t (attrs_over (types s) ds)) (ty_same (ty_of (get_or es n (err tbool))))))
        (args_both r ds y (suc i) l e (subst (λ k. all_there s 48 k l ≡ true) (omega arith) w))))

    pick_named : (b c : Bool) (n : ℕ) (o : Option ℕ) → is_some o ≡ c → is_some (pick_n b n o) ≡ (b || c)
    pick_named true c n o e = refl
    pick_named false c n o e = e

    named_both : (r : List ℕ) (t : ℕ) (l : List ℕ) → is_some (entry_of t (arg_types s r l)) ≡ named t (bare_args (args_over (types s) (content_of s) es l))
    named_both r t [] = refl
    named_both r t (x ∷ []) = refl
    named_both r t (x ∷ n ∷ l) = pick_named (eqb t x) (named t (bare_args (args_over (types s) (content_of s) es l))) (type_of_node s n) (entry_of t (arg_types s r l)) (named_both r t l)

    record_rule : (r : List ℕ) (y : ℕ) (l : List ℕ) → all_there s 48 1 l ≡ true → on_record false (type_at s y) (λ ds. entries_fit eqb ds (arg_types s r l))
        ≡ on_rec_ty false (type_in s y) (λ R. check_args (schema s) (bare_args (args_over (types s) (content_of s) es l)) R && completed R (λ t. named t (bare_args (args_over (types s) (content_of s) es l))))
    record_rule r y l a = record_both h y (λ ds. entries_fit eqb ds (arg_types s r l)) (λ R. check_args (schema s) (bare_args (args_over (types s) (content_of s) es l)) R && completed R (λ t. named t (bare_args (args_over (types s) (content_of s) es l)))) (λ ds e.
        ap₂ ◌&&◌ (required_same (types s) ds (λ t. is_some (entry_of t (arg_types s r l))) (λ t. named t (bare_args (args_over (types s) (content_of s) es l))) (λ t. named_both r t l)) (args_both r ds y 0 l e a)
        ∙ and_turn (completed (attrs_over (types s) ds) (λ t. named t (bare_args (args_over (types s) (content_of s) es l)))) (check_args (schema s) (bare_args (args_over (types s) (content_of s) es l)) (attrs_over (types s) ds)))

    -- ---- one rule for each operation

    Rule : ℕ → Type 0
    Rule t = (l : List ℕ) → Read m (t ∷ l) t → all_there s t 0 l ≡ true → get_or l 0 0 < count s TYPE → get_or (rules s (t ∷ l)) (t - 21) false ≡ check (schema s) (blank (tree_over (types s) (content_of s) sl es (t ∷ l)))

    kid_there : (t : ℕ) (l : List ℕ) → Read m (t ∷ l) t → all_there s t 0 l ≡ true → (j : ℕ) → j < length (form_of t).items → slot_at t j ≡ line NODE → get_or l j 0 < count s NODE
    kid_there t l rd a j lt e = let z = rd.least in there (slot_at t (0 + j)) (get_or l j 0) (ap (slot_at t) (omega arith) ∙ e) (there_at s t 0 l a j (omega (arith, z, lt)))

    abbrev ty : List ℕ → ℕ → ℕ
    ty l j = type_of_node s (get_or l j 0)

    abbrev kid : List ℕ → ℕ → Expr
    kid l j = get_or es (get_or l j 0) (err tbool)

    rule21 : Rule 21
    unfolding Rule slot_at form_of forms
    rule21 l rd a own = rule_lit h (get_or l 0 0) (get_or l 1 0)

    rule22 : Rule 22
    unfolding Rule slot_at form_of forms
    rule22 l rd a own = refl

    rule23 : Rule 23
    unfolding Rule slot_at form_of forms
    rule23 l rd a own = rule_var h (get_or l 0 0) (get_or l 1 0) own placed

    rule24 : Rule 24
    unfolding Rule slot_at form_of forms
    rule24 l rd a own = let i = kid_there 24 l rd a 1 (ltb-true 1 (length (form_of 24).items) refl) refl in let j = kid_there 24 l rd a 2 (ltb-true 2 (length (form_of 24).items) refl) refl in
        rule_and h (get_or l 0 0) (ty l 1) (ty l 2)
        ∙ ap₂ (λ A B. check (schema s) (and (type_in s (get_or l 0 0)) (err A) (err B))) (sym (kids (get_or l 1 0) i)) (sym (kids (get_or l 2 0) j))

    rule25 : Rule 25
    unfolding Rule slot_at form_of forms
    rule25 l rd a own = let i = kid_there 25 l rd a 1 (ltb-true 1 (length (form_of 25).items) refl) refl in let j = kid_there 25 l rd a 2 (ltb-true 2 (length (form_of 25).items) refl) refl in
        rule_or h (get_or l 0 0) (ty l 1) (ty l 2)
        ∙ ap₂ (λ A B. check (schema s) (or (type_in s (get_or l 0 0)) (err A) (err B))) (sym (kids (get_or l 1 0) i)) (sym (kids (get_or l 2 0) j))

    rule26 : Rule 26
    unfolding Rule slot_at form_of forms
    rule26 l rd a own = let i = kid_there 26 l rd a 1 (ltb-true 1 (length (form_of 26).items) refl) refl in let j = kid_there 26 l rd a 2 (ltb-true 2 (length (form_of 26).items) refl) refl in
        rule_eq h (get_or l 0 0) (ty l 1) (ty l 2) (node_type_there h (get_or l 1 0) i) (node_type_there h (get_or l 2 0) j)
        ∙ ap₂ (λ A B. check (schema s) (bin (type_in s (get_or l 0 0)) beq (err A) (err B))) (sym (kids (get_or l 1 0) i)) (sym (kids (get_or l 2 0) j))

    rule27 : Rule 27
    unfolding Rule slot_at form_of forms
    rule27 l rd a own = let i = kid_there 27 l rd a 1 (ltb-true 1 (length (form_of 27).items) refl) refl in let j = kid_there 27 l rd a 2 (ltb-true 2 (length (form_of 27).items) refl) refl in
        rule_lt h (get_or l 0 0) (ty l 1) (ty l 2)
        ∙ ap₂ (λ A B. check (schema s) (bin (type_in s (get_or l 0 0)) blt (err A) (err B))) (sym (kids (get_or l 1 0) i)) (sym (kids (get_or l 2 0) j))

    rule28 : Rule 28
    unfolding Rule slot_at form_of forms
    rule28 l rd a own = let i = kid_there 28 l rd a 1 (ltb-true 1 (length (form_of 28).items) refl) refl in let j = kid_there 28 l rd a 2 (ltb-true 2 (length (form_of 28).items) refl) refl in
        rule_le h (get_or l 0 0) (ty l 1) (ty l 2)
        ∙ ap₂ (λ A B. check (schema s) (bin (type_in s (get_or l 0 0)) ble (err A) (err B))) (sym (kids (get_or l 1 0) i)) (sym (kids (get_or l 2 0) j))

    rule29 : Rule 29
    unfolding Rule slot_at form_of forms
    rule29 l rd a own = let i = kid_there 29 l rd a 1 (ltb-true 1 (length (form_of 29).items) refl) refl in let j = kid_there 29 l rd a 2 (ltb-true 2 (length (form_of 29).items) refl) refl in
        rule_add h (get_or l 0 0) (ty l 1) (ty l 2)
        ∙ ap₂ (λ A B. check (schema s) (bin (type_in s (get_or l 0 0)) badd (err A) (err B))) (sym (kids (get_or l 1 0) i)) (sym (kids (get_or l 2 0) j))

    rule30 : Rule 30
    unfolding Rule slot_at form_of forms
    rule30 l rd a own = let i = kid_there 30 l rd a 1 (ltb-true 1 (length (form_of 30).items) refl) refl in let j = kid_there 30 l rd a 2 (ltb-true 2 (length (form_of 30).items) refl) refl in
        rule_sub h (get_or l 0 0) (ty l 1) (ty l 2)
        ∙ ap₂ (λ A B. check (schema s) (bin (type_in s (get_or l 0 0)) bsub (err A) (err B))) (sym (kids (get_or l 1 0) i)) (sym (kids (get_or l 2 0) j))

    rule31 : Rule 31
    unfolding Rule slot_at form_of forms
    rule31 l rd a own = let i = kid_there 31 l rd a 1 (ltb-true 1 (length (form_of 31).items) refl) refl in let j = kid_there 31 l rd a 2 (ltb-true 2 (length (form_of 31).items) refl) refl in
        rule_mul h (get_or l 0 0) (ty l 1) (ty l 2)
        ∙ ap₂ (λ A B. check (schema s) (bin (type_in s (get_or l 0 0)) bmul (err A) (err B))) (sym (kids (get_or l 1 0) i)) (sym (kids (get_or l 2 0) j))

    rule32 : Rule 32
    unfolding Rule slot_at form_of forms
    rule32 l rd a own = let i = kid_there 32 l rd a 1 (ltb-true 1 (length (form_of 32).items) refl) refl in let j = kid_there 32 l rd a 2 (ltb-true 2 (length (form_of 32).items) refl) refl in
        rule_in h (get_or l 0 0) (ty l 1) (ty l 2)
        ∙ ap₂ (λ A B. check (schema s) (rel (type_in s (get_or l 0 0)) rin (err A) (err B))) (sym (kids (get_or l 1 0) i)) (sym (kids (get_or l 2 0) j))

    rule33 : Rule 33
    unfolding Rule slot_at form_of forms
    rule33 l rd a own = let i = kid_there 33 l rd a 1 (ltb-true 1 (length (form_of 33).items) refl) refl in let j = kid_there 33 l rd a 2 (ltb-true 2 (length (form_of 33).items) refl) refl in
        rule_gettag h full (get_or l 0 0) (ty l 1) (ty l 2) own
        ∙ ap₂ (λ A B. check (schema s) (rel (type_in s (get_or l 0 0)) rgettag (err A) (err B))) (sym (kids (get_or l 1 0) i)) (sym (kids (get_or l 2 0) j))

    rule34 : Rule 34
    unfolding Rule slot_at form_of forms
    rule34 l rd a own = let i = kid_there 34 l rd a 1 (ltb-true 1 (length (form_of 34).items) refl) refl in let j = kid_there 34 l rd a 2 (ltb-true 2 (length (form_of 34).items) refl) refl in
        rule_hastag h (get_or l 0 0) (ty l 1) (ty l 2)
        ∙ ap₂ (λ A B. check (schema s) (rel (type_in s (get_or l 0 0)) rhastag (err A) (err B))) (sym (kids (get_or l 1 0) i)) (sym (kids (get_or l 2 0) j))

    rule35 : Rule 35
    unfolding Rule slot_at form_of forms
    rule35 l rd a own = let i = kid_there 35 l rd a 1 (ltb-true 1 (length (form_of 35).items) refl) refl in let j = kid_there 35 l rd a 2 (ltb-true 2 (length (form_of 35).items) refl) refl in
        rule_contains h (get_or l 0 0) (ty l 1) (ty l 2) (node_type_there h (get_or l 2 0) j)
        ∙ ap₂ (λ A B. check (schema s) (bin (type_in s (get_or l 0 0)) bcontains (err A) (err B))) (sym (kids (get_or l 1 0) i)) (sym (kids (get_or l 2 0) j))

    rule36 : Rule 36
    unfolding Rule slot_at form_of forms
    rule36 l rd a own = let i = kid_there 36 l rd a 1 (ltb-true 1 (length (form_of 36).items) refl) refl in let j = kid_there 36 l rd a 2 (ltb-true 2 (length (form_of 36).items) refl) refl in
        rule_all h (get_or l 0 0) (ty l 1) (ty l 2) (node_type_there h (get_or l 1 0) i) (node_type_there h (get_or l 2 0) j)
        ∙ ap₂ (λ A B. check (schema s) (bin (type_in s (get_or l 0 0)) ball (err A) (err B))) (sym (kids (get_or l 1 0) i)) (sym (kids (get_or l 2 0) j))

    rule37 : Rule 37
    unfolding Rule slot_at form_of forms
    rule37 l rd a own = let i = kid_there 37 l rd a 1 (ltb-true 1 (length (form_of 37).items) refl) refl in let j = kid_there 37 l rd a 2 (ltb-true 2 (length (form_of 37).items) refl) refl in
        rule_any h (get_or l 0 0) (ty l 1) (ty l 2) (node_type_there h (get_or l 1 0) i) (node_type_there h (get_or l 2 0) j)
        ∙ ap₂ (λ A B. check (schema s) (bin (type_in s (get_or l 0 0)) bany (err A) (err B))) (sym (kids (get_or l 1 0) i)) (sym (kids (get_or l 2 0) j))

    rule38 : Rule 38
    unfolding Rule slot_at form_of forms
    rule38 l rd a own = let i = kid_there 38 l rd a 1 (ltb-true 1 (length (form_of 38).items) refl) refl in let j = kid_there 38 l rd a 2 (ltb-true 2 (length (form_of 38).items) refl) refl in let k = kid_there 38 l rd a 3 (ltb-true 3 (length (form_of 38).items) refl) refl in
        rule_if h (get_or l 0 0) (ty l 2) (ty l 3) (ty l 1) own (node_type_there h (get_or l 2 0) j) (node_type_there h (get_or l 3 0) k)
        ∙ ap (λ A. check (schema s) (ite (type_in s (get_or l 0 0)) (err A) (err (type_in s (ty l 2))) (err (type_in s (ty l 3))))) (sym (kids (get_or l 1 0) i))
        ∙ ap₂ (λ A B. check (schema s) (ite (type_in s (get_or l 0 0)) (err (ty_of (kid l 1))) (err A) (err B))) (sym (kids (get_or l 2 0) j)) (sym (kids (get_or l 3 0) k))

    rule39 : Rule 39
    unfolding Rule slot_at form_of forms
    rule39 l rd a own = let i = kid_there 39 l rd a 1 (ltb-true 1 (length (form_of 39).items) refl) refl in
        rule_is h (get_or l 0 0) (ty l 1) (get_or l 2 0)
        ∙ ap (λ A. check (schema s) (un (type_in s (get_or l 0 0)) (uis (get_or l 2 0)) (err A))) (sym (kids (get_or l 1 0) i))

    rule40 : Rule 40
    unfolding Rule slot_at form_of forms
    rule40 l rd a own = let i = kid_there 40 l rd a 1 (ltb-true 1 (length (form_of 40).items) refl) refl in
        rule_like h (get_or l 0 0) (ty l 1) (pattern_of (drop 2 l))
        ∙ ap (λ A. check (schema s) (un (type_in s (get_or l 0 0)) (ulike (pattern_of (drop 2 l))) (err A))) (sym (kids (get_or l 1 0) i))

    rule41 : Rule 41
    unfolding Rule slot_at form_of forms
    rule41 l rd a own = let i = kid_there 41 l rd a 1 (ltb-true 1 (length (form_of 41).items) refl) refl in
        rule_get h full (get_or l 0 0) (ty l 1) (get_or l 2 0) own
        ∙ ap (λ A. check (schema s) (get (type_in s (get_or l 0 0)) (err A) (get_or l 2 0))) (sym (kids (get_or l 1 0) i))

    rule42 : Rule 42
    unfolding Rule slot_at form_of forms
    rule42 l rd a own = let i = kid_there 42 l rd a 1 (ltb-true 1 (length (form_of 42).items) refl) refl in
        rule_has h full (get_or l 0 0) (ty l 1) (get_or l 2 0)
        ∙ ap (λ A. check (schema s) (has (type_in s (get_or l 0 0)) (err A) (get_or l 2 0))) (sym (kids (get_or l 1 0) i))

    rule43 : Rule 43
    unfolding Rule slot_at form_of forms
    rule43 l rd a own = let i = kid_there 43 l rd a 1 (ltb-true 1 (length (form_of 43).items) refl) refl in
        rule_path h full (get_or l 0 0) (ty l 1) (get_or l 2 0) (drop 3 l)
        ∙ ap (λ A. check (schema s) (haspath (type_in s (get_or l 0 0)) (err A) (get_or l 2 0) (drop 3 l))) (sym (kids (get_or l 1 0) i))

    rule44 : Rule 44
    unfolding Rule slot_at form_of forms
    rule44 l rd a own = let i = kid_there 44 l rd a 1 (ltb-true 1 (length (form_of 44).items) refl) refl in
        rule_not h (get_or l 0 0) (ty l 1)
        ∙ ap (λ A. check (schema s) (un (type_in s (get_or l 0 0)) unot (err A))) (sym (kids (get_or l 1 0) i))

    rule45 : Rule 45
    unfolding Rule slot_at form_of forms
    rule45 l rd a own = let i = kid_there 45 l rd a 1 (ltb-true 1 (length (form_of 45).items) refl) refl in
        rule_neg h (get_or l 0 0) (ty l 1)
        ∙ ap (λ A. check (schema s) (un (type_in s (get_or l 0 0)) uneg (err A))) (sym (kids (get_or l 1 0) i))

    rule46 : Rule 46
    unfolding Rule slot_at form_of forms
    rule46 l rd a own = let i = kid_there 46 l rd a 1 (ltb-true 1 (length (form_of 46).items) refl) refl in
        rule_empty h (get_or l 0 0) (ty l 1)
        ∙ ap (λ A. check (schema s) (un (type_in s (get_or l 0 0)) uempty (err A))) (sym (kids (get_or l 1 0) i))

    set_rule : (y : ℕ) (l : List ℕ) → all_there s 47 1 l ≡ true → on_set_of false (type_at s y) (λ e. all_in (λ n. eqb (type_of_node s n) e) l) ≡ on_set_ty false (type_in s y) (λ A. check_all (schema s) (bare_all (children_over (types s) (content_of s) es l)) A)
    set_rule y l a = set_both h y (λ e. all_in (λ n. eqb (type_of_node s n) e) l) (λ A. check_all (schema s) (bare_all (children_over (types s) (content_of s) es l)) A) (λ z e. all_both z 0 l (part_there h y z (subst (λ w. Part w z) (sym e) elem)) a)

    rule47 : Rule 47
    unfolding Rule
    rule47 [] rd a own = set_rule 0 [] refl
    rule47 (y ∷ l) rd a own = and_both (there_is s (slot_at 47 0) y) (all_there s 47 1 l) a (λ p q. set_rule y l q)

    rule48 : Rule 48
    unfolding Rule
    rule48 [] rd a own = record_rule (48 ∷ []) 0 [] refl
    rule48 (y ∷ l) rd a own = and_both (there_is s (slot_at 48 0) y) (all_there s 48 1 l) a (λ p q. record_rule (48 ∷ y ∷ l) y l q)

    rule_for : (d : ℕ) → d ≤ 27 → Rule (21 + d)
    rule_for zero b = rule21
    rule_for (suc zero) b = rule22
    rule_for (suc (suc zero)) b = rule23
    rule_for (suc (suc (suc zero))) b = rule24
    rule_for (suc (suc (suc (suc zero)))) b = rule25
    rule_for (suc (suc (suc (suc (suc zero))))) b = rule26
    rule_for (suc (suc (suc (suc (suc (suc zero)))))) b = rule27
    rule_for (suc (suc (suc (suc (suc (suc (suc zero))))))) b = rule28
    rule_for (suc (suc (suc (suc (suc (suc (suc (suc zero)))))))) b = rule29
    rule_for (suc (suc (suc (suc (suc (suc (suc (suc (suc zero))))))))) b = rule30
    rule_for (suc (suc (suc (suc (suc (suc (suc (suc (suc (suc zero)))))))))) b = rule31
    rule_for (suc (suc (suc (suc (suc (suc (suc (suc (suc (suc (suc zero))))))))))) b = rule32
    rule_for (suc (suc (suc (suc (suc (suc (suc (suc (suc (suc (suc (suc zero)))))))))))) b = rule33
    rule_for (suc (suc (suc (suc (suc (suc (suc (suc (suc (suc (suc (suc (suc zero))))))))))))) b = rule34
    rule_for (suc (suc (suc (suc (suc (suc (suc (suc (suc (suc (suc (suc (suc (suc zero)))))))))))))) b = rule35
    rule_for (suc (suc (suc (suc (suc (suc (suc (suc (suc (suc (suc (suc (suc (suc (suc zero))))))))))))))) b = rule36
    rule_for (suc (suc (suc (suc (suc (suc (suc (suc (suc (suc (suc (suc (suc (suc (suc (suc zero)))))))))))))))) b = rule37
    rule_for (suc (suc (suc (suc (suc (suc (suc (suc (suc (suc (suc (suc (suc (suc (suc (suc (suc zero))))))))))))))))) b = rule38
    rule_for (suc (suc (suc (suc (suc (suc (suc (suc (suc (suc (suc (suc (suc (suc (suc (suc (suc (suc zero)))))))))))))))))) b = rule39
    rule_for (suc (suc (suc (suc (suc (suc (suc (suc (suc (suc (suc (suc (suc (suc (suc (suc (suc (suc (suc zero))))))))))))))))))) b = rule40
    rule_for (suc (suc (suc (suc (suc (suc (suc (suc (suc (suc (suc (suc (suc (suc (suc (suc (suc (suc (suc (suc zero)))))))))))))))))))) b = rule41
    rule_for (suc (suc (suc (suc (suc (suc (suc (suc (suc (suc (suc (suc (suc (suc (suc (suc (suc (suc (suc (suc (suc zero))))))))))))))))))))) b = rule42
    rule_for (suc (suc (suc (suc (suc (suc (suc (suc (suc (suc (suc (suc (suc (suc (suc (suc (suc (suc (suc (suc (suc (suc zero)))))))))))))))))))))) b = rule43
    rule_for (suc (suc (suc (suc (suc (suc (suc (suc (suc (suc (suc (suc (suc (suc (suc (suc (suc (suc (suc (suc (suc (suc (suc zero))))))))))))))))))))))) b = rule44
    rule_for (suc (suc (suc (suc (suc (suc (suc (suc (suc (suc (suc (suc (suc (suc (suc (suc (suc (suc (suc (suc (suc (suc (suc (suc zero)))))))))))))))))))))))) b = rule45
    rule_for (suc (suc (suc (suc (suc (suc (suc (suc (suc (suc (suc (suc (suc (suc (suc (suc (suc (suc (suc (suc (suc (suc (suc (suc (suc zero))))))))))))))))))))))))) b = rule46
    rule_for (suc (suc (suc (suc (suc (suc (suc (suc (suc (suc (suc (suc (suc (suc (suc (suc (suc (suc (suc (suc (suc (suc (suc (suc (suc (suc zero)))))))))))))))))))))))))) b = rule47
    rule_for (suc (suc (suc (suc (suc (suc (suc (suc (suc (suc (suc (suc (suc (suc (suc (suc (suc (suc (suc (suc (suc (suc (suc (suc (suc (suc (suc zero))))))))))))))))))))))))))) b = rule48
    rule_for (suc (suc (suc (suc (suc (suc (suc (suc (suc (suc (suc (suc (suc (suc (suc (suc (suc (suc (suc (suc (suc (suc (suc (suc (suc (suc (suc (suc d)))))))))))))))))))))))))))) b = absurd (omega arith)

    -- THE RULE OF A NODE, slots apart
    pub node_rule_law : (t : ℕ) → 21 ≤ t → t ≤ 48 → (l : List ℕ) → Read m (t ∷ l) t → all_there s t 0 l ≡ true → get_or l 0 0 < count s TYPE → get_or (rules s (t ∷ l)) (t - 21) false ≡ check (schema s) (blank (tree_over (types s) (content_of s) sl es (t ∷ l)))
    unfolding Rule
    node_rule_law t lo hi = subst Rule (omega arith) (rule_for (t - 21) (omega arith))

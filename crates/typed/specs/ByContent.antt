-- Refusal 7 by content: the rule of each line over types, values and trees by content, where sheet/specs/Typing has it over their numbers.
-- Values and trees are judged by cedar's own test (cedar/specs/TypingTest), which accepts exactly what fits and what is typed.
use Rattle.std.specs.Prelude.{◌≡◌, Bool, true, false, cond, ◌&&◌, ◌||◌, not, List, [], ◌∷◌, ℕ, suc, ◌<◌, ◌+◌, ltb, eqb, get_or}
use Rattle.std.proofs.Math.Option.{Option}
use Rattle.cedar.specs.Value.{Value, vbool, vlong, vtext, vent, vset, vrec, Values, vnil, vcons, Fields, fnil, fcons, on_ent, on_set, on_some}
use Rattle.cedar.specs.Types.{Ty, tbool, trec, Attrs, anil, acons, among, ty_same}
use Rattle.cedar.specs.Residual.{Expr, err, ty_of}
use Rattle.cedar.specs.TypingTest.{on_ent_ty, on_rec_ty, check}
use Rattle.cedar.specs.TypingTest as Test
use Rattle.sheet.specs.Forms.{Mode, at, mark, key_of, row_of, refs, SHAPE, ENTITY, NODE}
use Rattle.sheet.specs.State.{State, count, lines_of, line_at, before}
use Rattle.sheet.specs.Typing.{is_action, unknown_or, nodes_of, is_slot, slot_value}
use Rattle.sheet.specs.Sheet.{Reading, in_order, too_many, found, depth, used_twice}
use Rattle.sheet.specs.Content.{types, contents, content_of, schema, tree_over, trees_from, above, set_over}

-- the type that a type number stands for
abbrev pub type_in : State → ℕ → Ty
type_in s y = get_or (types s) y tbool

-- the fields of a record; `d` for other values
abbrev pub on_rec : {A : Type 0} → A → Value → (Fields → A) → A
on_rec d (vbool b) f = d
on_rec d (vlong n) f = d
on_rec d (vtext t) f = d
on_rec d (vent k t) f = d
on_rec d (vset vs) f = d
on_rec d (vrec fs) f = f fs

abbrev pub each_value : (Value → Bool) → Values → Bool
each_value f vnil = true
each_value f (vcons v vs) = f v && each_value f vs

-- ---- shapes: a record type; "Action kinds: empty record and `-`"

abbrev pub no_attrs : Attrs → Bool
no_attrs anil = true
no_attrs (acons t r A bs) = false

abbrev pub shape_by : State → List ℕ → Bool
shape_by s r = on_rec_ty false (type_in s (at r 0)) (λ R. not (is_action s (count s SHAPE)) || (no_attrs R && eqb (at r 1) mark))

-- ---- entities

-- "no tags where it says `-`, else tags of the tag type"
abbrev pub tags_by : Option Ty → Fields → Bool
tags_by o fnil = true
tags_by o (fcons t v fs) = on_some false o (λ A. Test.fits v A) && tags_by o fs

-- "each ancestor's kind among those above"
abbrev pub kind_by : List ℕ → Value → Bool
kind_by ls v = on_ent false v (λ k t. among k ls)

-- an entity; attributes, tags and parents of its kind's shape, each of which may be unknown
abbrev pub entity_by : State → List ℕ → Bool
entity_by s r = on_ent false (content_of s (at r 0)) (λ k t.
    unknown_or (at r 1) (Test.fits (content_of s (at r 1)) (trec ((schema s).shape k).attrs))
    && unknown_or (at r 2) (on_rec false (content_of s (at r 2)) (tags_by ((schema s).shape k).tags))
    && unknown_or (at r 3) (on_set false (content_of s (at r 3)) (each_value (kind_by ((schema s).shape k).above))))

-- of an entity line and all that it reaches, after the entity lines (`reachedFit` of sheet/specs/Sheet)
abbrev pub reached_by : State → List ℕ → Bool
reached_by s r = on_ent false (content_of s (at r 0)) (λ k t. each_value (kind_by ((schema s).shape k).above) (set_over (contents s) (above s (at r 0))))

-- ---- "A known context fits its record type"

abbrev pub context_by : State → List ℕ → Bool
context_by s r = on_rec_ty false (type_in s (at r 0)) (λ R. unknown_or (at r 1) (Test.fits (content_of s (at r 1)) (trec R)))

-- ---- nodes

-- the trees of the nodes read so far; a slot, which has a value only by a link line, stands as `err` of its type, since "err any"
unfoldable pub drafts : State → List Expr
drafts s = trees_from (types s) (content_of s) (λ A x. err A) [] (lines_of s NODE)

-- the tree of a new node
abbrev pub draft : State → List ℕ → Expr
draft s r = tree_over (types s) (content_of s) (λ A x. err A) (drafts s) r

-- the tree is typed; a slot has an entity type
abbrev pub node_by : State → List ℕ → Bool
node_by s r = (not (is_slot r) || on_ent_ty false (type_in s (at r 0)) (λ ks. true)) && check (schema s) (draft s r)

-- ---- policies: "bool for .. policies"

abbrev pub policy_by : State → List ℕ → Bool
policy_by s r = ty_same (ty_of (get_or (drafts s) (at r 2) (err tbool))) tbool

-- ---- links: "a value that does not fit the slot's type 7"

abbrev pub slots_by : State → ℕ → ℕ → List (List ℕ) → Bool
slots_by s p q [] = true
slots_by s p q (r ∷ rs) = (not (is_slot r) || Test.fits (content_of s (slot_value p q (at r 1))) (type_in s (at r 0))) && slots_by s p q rs

abbrev pub link_by : State → List ℕ → Bool
link_by s r = slots_by s (at r 1) (at r 2) (nodes_of s (at r 0))

-- ---- one rule for each key, as `typed` of sheet/specs/Typing has them

unfoldable pub by_content : State → List ℕ → ℕ → Bool
by_content s r k = get_or (
    true  -- sheet
    ∷ true  -- text
    ∷ true  -- kind
    ∷ true  -- type
    ∷ shape_by s r  -- shape
    ∷ true  -- value
    ∷ entity_by s r  -- entity
    ∷ not (is_action s (at r 0))  -- principal
    ∷ is_action s (at r 0)  -- action
    ∷ not (is_action s (at r 0))  -- resource
    ∷ context_by s r  -- context
    ∷ true  -- day
    ∷ node_by s r  -- node
    ∷ policy_by s r  -- policy
    ∷ link_by s r  -- link
    ∷ true  -- term
    ∷ []) k false

-- the refusal of a line with 7 by content, the others as in sheet/specs/Sheet (`faultOf`)
abbrev pub fault_by : State → ℕ → List ℕ → ℕ
fault_by s k r =
    cond (not (in_order s k)) 3
    (cond (too_many s k r) 4
    (cond (not (found s k r)) 5
    (cond (ltb 64 (depth s k r)) 6
    (cond (not (by_content s r k)) 7
    (cond (used_twice s.used (refs NODE r)) 8 0)))))

-- ---- a reading that ended with 7

-- of the lines of a sheet and the end of its reading: the line that ended it, or the entity line that is named, is untyped by content
pub data Untyped (m : Mode) (lines : List (List ℕ)) (x : Reading) : Type 0 where
  of_line : (n : ℕ) → x.line ≡ suc n → by_content x.state (row_of m (get_or lines n [])) (key_of (row_of m (get_or lines n []))) ≡ false → Untyped m lines x
  of_entity : (n : ℕ) → n < count x.state ENTITY → x.line ≡ suc (before x.state ENTITY + n) → reached_by x.state (line_at x.state ENTITY n) ≡ false → Untyped m lines x

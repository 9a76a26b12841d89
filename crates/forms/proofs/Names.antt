-- The names of tags, and of words at a place, are those of the definition's table. Assumes nothing.
use mathlib.Core.Path.{◌≡◌, refl}
use mathlib.Core.List.{List, [], ◌∷◌, map}
use Prim.Native.Nat.{ℕ, zero, suc, ◌+◌}
use Prim.Native.String.{String}
use Rattle.sheet.specs.Ascii.{ascii}
use Rattle.sheet.specs.Forms.{Slot, entry, line, line_or, line_unknown, word, number, day, nothing, forms, form_of, slot_at, place_in, no_tag, first_type, first_value, first_node, SHEET, TEXT, KIND, TYPE, SHAPE, VALUE, ENTITY, PRINCIPAL, ACTION, RESOURCE, CONTEXT, DAY, NODE, POLICY, LINK, TERM}
use Rattle.forms.specs.Tags.{SHEET_LINE, TEXT_LINE, KIND_LINE, BOOL_TYPE, LONG_TYPE, STRING_TYPE, ENTITY_TYPE, SET_TYPE, RECORD_TYPE, SHAPE_LINE, BOOL_VALUE, LONG_VALUE, TEXT_VALUE, ENTITY_VALUE, SET_VALUE, RECORD_VALUE, ENTITY_LINE, PRINCIPAL_LINE, ACTION_LINE, RESOURCE_LINE, CONTEXT_LINE, LIT, ERR, VAR, AND, OR, EQ, LT, LE, ADD, SUB, MUL, IN, GETTAG, HASTAG, CONTAINS, ALL, ANY, IF, IS, LIKE, GET, HAS, HASPATH, NOT, NEG, EMPTY, SET_OF, RECORD_OF, SLOT, POLICY_LINE, DAY_LINE, LINK_LINE, TERM_LINE, ORDINARY, OF_ACTIONS, OPTIONAL, REQUIRED, PART_P, PART_A, PART_R, PART_C, SLOT_P, SLOT_R, PERMIT, FORBID}

-- ---- tags

-- a tag, its key and its constructor
record Named : Type 0 where
  tag : ℕ
  key : ℕ
  name : String

abbrev named : ℕ → ℕ → String → Named
named t k w = record { tag = t; key = k; name = w }

abbrev tags : List Named
tags =
    named SHEET_LINE SHEET ""
    ∷ named TEXT_LINE TEXT ""
    ∷ named KIND_LINE KIND ""
    ∷ named BOOL_TYPE TYPE "bool"
    ∷ named LONG_TYPE TYPE "long"
    ∷ named STRING_TYPE TYPE "string"
    ∷ named ENTITY_TYPE TYPE "entity"
    ∷ named SET_TYPE TYPE "set"
    ∷ named RECORD_TYPE TYPE "record"
    ∷ named SHAPE_LINE SHAPE ""
    ∷ named BOOL_VALUE VALUE "bool"
    ∷ named LONG_VALUE VALUE "long"
    ∷ named TEXT_VALUE VALUE "text"
    ∷ named ENTITY_VALUE VALUE "entity"
    ∷ named SET_VALUE VALUE "set"
    ∷ named RECORD_VALUE VALUE "record"
    ∷ named ENTITY_LINE ENTITY ""
    ∷ named PRINCIPAL_LINE PRINCIPAL ""
    ∷ named ACTION_LINE ACTION ""
    ∷ named RESOURCE_LINE RESOURCE ""
    ∷ named CONTEXT_LINE CONTEXT ""
    ∷ named LIT NODE "lit"
    ∷ named ERR NODE "err"
    ∷ named VAR NODE "var"
    ∷ named AND NODE "and"
    ∷ named OR NODE "or"
    ∷ named EQ NODE "eq"
    ∷ named LT NODE "lt"
    ∷ named LE NODE "le"
    ∷ named ADD NODE "add"
    ∷ named SUB NODE "sub"
    ∷ named MUL NODE "mul"
    ∷ named IN NODE "in"
    ∷ named GETTAG NODE "gettag"
    ∷ named HASTAG NODE "hastag"
    ∷ named CONTAINS NODE "contains"
    ∷ named ALL NODE "all"
    ∷ named ANY NODE "any"
    ∷ named IF NODE "if"
    ∷ named IS NODE "is"
    ∷ named LIKE NODE "like"
    ∷ named GET NODE "get"
    ∷ named HAS NODE "has"
    ∷ named HASPATH NODE "haspath"
    ∷ named NOT NODE "not"
    ∷ named NEG NODE "neg"
    ∷ named EMPTY NODE "empty"
    ∷ named SET_OF NODE "set"
    ∷ named RECORD_OF NODE "record"
    ∷ named SLOT NODE "slot"
    ∷ named POLICY_LINE POLICY ""
    ∷ named DAY_LINE DAY ""
    ∷ named LINK_LINE LINK ""
    ∷ named TERM_LINE TERM ""
    ∷ []

abbrev up_from : ℕ → ℕ → List ℕ
up_from i zero = []
up_from i (suc n) = i ∷ up_from (suc i) n

pub tags_are : map (λ (t : ℕ). named t (form_of t).key (form_of t).name) (up_from 0 no_tag) ≡ tags
unfolding form_of forms
tags_are = refl

pub no_more : TERM_LINE + 1 ≡ no_tag
no_more = refl

pub firsts_are : (first_type ∷ first_value ∷ first_node ∷ []) ≡ (BOOL_TYPE ∷ BOOL_VALUE ∷ LIT ∷ [])
firsts_are = refl

-- ---- words

abbrev words_in : Slot → List String
words_in entry = []
words_in (line k) = []
words_in (line_or b k) = []
words_in (line_unknown k) = []
words_in (word ws) = ws
words_in number = []
words_in day = []
words_in nothing = []

-- a word's number, and where it may stand: a form and a place
abbrev placed : ℕ → ℕ → String → ℕ
placed t j w = place_in (ascii w) (words_in (slot_at t j))

pub words_are : (ORDINARY ∷ OF_ACTIONS ∷ OPTIONAL ∷ REQUIRED ∷ PART_P ∷ PART_A ∷ PART_R ∷ PART_C ∷ SLOT_P ∷ SLOT_R ∷ PERMIT ∷ FORBID ∷ [])
    ≡ (placed KIND_LINE 1 "e" ∷ placed KIND_LINE 1 "a" ∷ placed RECORD_TYPE 1 "o" ∷ placed RECORD_TYPE 1 "r" ∷ placed VAR 1 "p" ∷ placed VAR 1 "a" ∷ placed VAR 1 "r"
    ∷ placed VAR 1 "c" ∷ placed SLOT 1 "p" ∷ placed SLOT 1 "r" ∷ placed POLICY_LINE 1 "permit" ∷ placed POLICY_LINE 1 "forbid" ∷ [])
unfolding slot_at form_of forms
words_are = refl

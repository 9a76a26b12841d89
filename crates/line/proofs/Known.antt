-- Known lines and their rows, computed.
use mathlib.Core.Path.{◌≡◌, refl}
use mathlib.Core.List.{List, [], ◌∷◌}
use Prim.Native.Nat.{ℕ}
use Prim.Native.String.{String}
use Rattle.sheet.specs.Ascii.{ascii}
use Rattle.sheet.specs.Forms.{Mode, partial, complete, keys, forms, form_of, slot_at, counted, tag_of, row_of, mark}
use Rattle.forms.specs.Tags.{SHEET_LINE, TEXT_LINE, KIND_LINE, RECORD_TYPE, SHAPE_LINE, LONG_VALUE, PRINCIPAL_LINE, EQ, LIKE, SLOT, POLICY_LINE, DAY_LINE, LINK_LINE, TERM_LINE, OF_ACTIONS, OPTIONAL, REQUIRED, SLOT_R, FORBID}

unfoldable pub rows : Mode → List String → List (List ℕ)
rows m [] = []
rows m (l ∷ ls) = row_of m (ascii l) ∷ rows m ls

pub good : rows partial ("sheet=partial" ∷ "text=a,b" ∷ "kind=0,a" ∷ "type=record,0,r,1,2,o,3" ∷ "shape=1,-,0" ∷ "value=long,-1" ∷ "principal=0,?" ∷ "node=0,eq,0,1" ∷ "node=7,like,3,*,4" ∷ "node=2,slot,r" ∷ "policy=5,forbid,2" ∷ "day=2024-02-29" ∷ "link=0,-,7" ∷ "term=0,1900-01-01,2199-12-31" ∷ [])
    ≡ (SHEET_LINE ∷ 0 ∷ []) ∷ (TEXT_LINE ∷ 97 ∷ 44 ∷ 98 ∷ []) ∷ (KIND_LINE ∷ 0 ∷ OF_ACTIONS ∷ []) ∷ (RECORD_TYPE ∷ 0 ∷ REQUIRED ∷ 1 ∷ 2 ∷ OPTIONAL ∷ 3 ∷ []) ∷ (SHAPE_LINE ∷ 1 ∷ mark ∷ 0 ∷ []) ∷ (LONG_VALUE ∷ 2147483647 ∷ 4294967295 ∷ []) ∷ (PRINCIPAL_LINE ∷ 0 ∷ mark ∷ [])
    ∷ (EQ ∷ 0 ∷ 0 ∷ 1 ∷ []) ∷ (LIKE ∷ 7 ∷ 3 ∷ mark ∷ 4 ∷ []) ∷ (SLOT ∷ 2 ∷ SLOT_R ∷ []) ∷ (POLICY_LINE ∷ 5 ∷ FORBID ∷ 2 ∷ []) ∷ (DAY_LINE ∷ 20240229 ∷ []) ∷ (LINK_LINE ∷ 0 ∷ mark ∷ 7 ∷ []) ∷ (TERM_LINE ∷ 0 ∷ 19000101 ∷ 21991231 ∷ []) ∷ []
unfolding rows keys forms form_of slot_at counted tag_of row_of
good = refl

pub wrong : rows complete ("sheet=partial" ∷ "principal=0,?" ∷ "node=0" ∷ "node=0,eq,0" ∷ "value=long,-0" ∷ "type=record," ∷ "kind=01,e" ∷ "nodes=0,err" ∷ "text" ∷ "value=set,10000" ∷ "day=2100-02-29" ∷ "node=2,slot,a" ∷ "link=0,?,7" ∷ "term=0,2024-01-01" ∷ [])
    ≡ [] ∷ [] ∷ [] ∷ [] ∷ [] ∷ [] ∷ [] ∷ [] ∷ [] ∷ [] ∷ [] ∷ [] ∷ [] ∷ [] ∷ []
unfolding rows keys forms form_of slot_at counted tag_of row_of
wrong = refl

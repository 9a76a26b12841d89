-- The rule of an operation by its form's number.
use mathlib.Core.Path.{◌≡◌, refl, sym}
use mathlib.Core.Bool.{Bool, false}
use mathlib.Core.List.{List}
use Prim.Native.Nat.{ℕ, ◌-◌, ◌≤◌, ◌<◌}
use native.Mathlib.Omega.{arith}
use lib.ListN.{get_or, get_or-eq_default}
use Rattle.sheet.specs.Forms.{tag, first_node}
use Rattle.forms.specs.Tags.{LIT, ERR, VAR, AND, OR, EQ, LT, LE, ADD, SUB, MUL, IN, GETTAG, HASTAG, CONTAINS, ALL, ANY, IF, IS, LIKE, GET, HAS, HASPATH, NOT, NEG, EMPTY, SET_OF, RECORD_OF, SLOT}
use Rattle.fits.specs.Fit.{full, Known, Answered}
use Rattle.typing.specs.Rules.{contains_rule, slot_rule, node_rule, node_rules}
use Rattle.table.proofs.Rows.{above}

pinned : (n x : ℕ) → n ≤ x → x ≤ n → x ≡ n
pinned n x l u = omega arith

-- the rule of operation n
pub op_at : (n : ℕ) (a r : List ℕ) (op : ℕ) (b : Bool) → op ≡ n → b ≡ node_rule a r (n - first_node) → b ≡ node_rule a r (op - first_node)
op_at n a r op b h e = rw h e

module _ (a r : List ℕ) (op : ℕ) where
  -- the last operation of a run: none of the others
  pub op_contains : (b : Bool) → ERR ≤ op → op ≤ CONTAINS → (op ≡ ERR → ⊥) → (op ≡ VAR → ⊥) → (op ≡ AND → ⊥) → (op ≡ OR → ⊥) → (op ≡ EQ → ⊥) → (op ≡ LT → ⊥) → (op ≡ LE → ⊥) → (op ≡ ADD → ⊥) → (op ≡ SUB → ⊥) → (op ≡ MUL → ⊥) → (op ≡ IN → ⊥) → (op ≡ GETTAG → ⊥) → (op ≡ HASTAG → ⊥) → b ≡ contains_rule a r → b ≡ node_rule a r (op - first_node)
  unfolding node_rule node_rules
  op_contains b l u n-err n-var n-and n-or n-eq n-lt n-le n-add n-sub n-mul n-in n-gettag n-hastag e = let h : op ≡ CONTAINS = pinned CONTAINS op (above op HASTAG (above op GETTAG (above op IN (above op MUL (above op SUB (above op ADD (above op LE (above op LT (above op EQ (above op OR (above op AND (above op VAR (above op ERR l n-err) n-var) n-and) n-or) n-eq) n-lt) n-le) n-add) n-sub) n-mul) n-in) n-gettag) n-hastag) u in rw h e

  pub op_slot : (b : Bool) → ALL ≤ op → op ≤ SLOT → (op ≡ ALL → ⊥) → (op ≡ ANY → ⊥) → (op ≡ IF → ⊥) → (op ≡ IS → ⊥) → (op ≡ LIKE → ⊥) → (op ≡ GET → ⊥) → (op ≡ HAS → ⊥) → (op ≡ HASPATH → ⊥) → (op ≡ NOT → ⊥) → (op ≡ NEG → ⊥) → (op ≡ EMPTY → ⊥) → (op ≡ SET_OF → ⊥) → (op ≡ RECORD_OF → ⊥) → b ≡ slot_rule a r → b ≡ node_rule a r (op - first_node)
  unfolding node_rule node_rules
  op_slot b l u n-all n-any n-if n-is n-like n-get n-has n-haspath n-not n-neg n-empty n-set-of n-record-of e = let h : op ≡ SLOT = pinned SLOT op (above op RECORD_OF (above op SET_OF (above op EMPTY (above op NEG (above op NOT (above op HASPATH (above op HAS (above op GET (above op LIKE (above op IS (above op IF (above op ANY (above op ALL l n-all) n-any) n-if) n-is) n-like) n-get) n-has) n-haspath) n-not) n-neg) n-empty) n-set-of) n-record-of) u in rw h e

-- ---- any form

module _ (a r : List ℕ) (op : ℕ) (eo : op ≡ tag r) where
  pub node_lit : (m n : List ℕ) (b : Bool) (v t : ℕ) → op ≤ LIT → v ≡ get_or r 2 0 → t ≡ get_or r 1 0 → Answered a m n (full a v t) b → Answered a m n (node_rule a r (tag r - first_node)) b
  unfolding node_rule node_rules
  node_lit m n b v t h ev et q =
      let e : tag r - first_node ≡ 0 = omega arith in
      rw (e, ← ev, ← et) q

  pub node_rule_law : (m : List ℕ) (b : Bool) → Known a m → b ≡ node_rule a r (op - first_node) → Answered a m m (node_rule a r (tag r - first_node)) b
  node_rule_law m b k e = record { is = λ s. rw (← eo) e; known = k; rest = refl }

  past : (j : ℕ) → SLOT - first_node < j → false ≡ node_rule a r j
  unfolding node_rule node_rules
  past j h = sym (get_or-eq_default (node_rules a r) false h)

  pub node_past : (m : List ℕ) → Known a m → SLOT < op → Answered a m m (node_rule a r (tag r - first_node)) false
  node_past m k h = record { is = λ s. past (tag r - first_node) (omega arith); known = k; rest = refl }

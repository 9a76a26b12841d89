-- The code's table of forms is the definition's, and what is in it. Assumes nothing.
use mathlib.Core.Path.{◌≡◌, refl, sym, ap, ◌∙◌}
use mathlib.Core.Bool.{Bool, true, false, cond, ◌&&◌, and-eq-true_iff}
use mathlib.Core.List.{List, map}
use Prim.Native.Nat.{ℕ, ◌+◌, ◌-◌, ◌≤◌, ◌<◌}
use native.Mathlib.Omega.{arith}
use borrow.Author.Tests.{leb-true, eqb-true}
use lib.Dec.{leb, eqb}
use lib.ListN.{length, get_or, get_or-map, get_or-eq_default}
use Rattle.cedar.proofs.Tools.{no_true}
use Rattle.sheet.specs.Forms.{Slot, entry, line, line_or, line_unknown, word, number, day, nothing, Form, forms, form_of, no_form, no_key, no_tag, slot_at, is_line, first_node, TYPE, NODE}
use Rattle.sheet.proofs.reading.Parsed.{all_below}
use Rattle.forms.specs.declared.Form as D
use Rattle.forms.specs.Rows.{Shape, shape, read, code, coded, slot_of, FLAT, rises_from}
use Rattle.forms.specs.Tags.{SLOT, POLICY_LINE}
use Rattle.forms.proofs.Tests.{ranged, small, entry_small, NoneOf, below, past}

abbrev pub row_at : ℕ → D.Form
row_at t = coded (form_of t)

-- past the table's end
pub no_form_law : (t : ℕ) → no_tag ≤ t → form_of t ≡ no_form
unfolding form_of forms
no_form_law t h = get_or-eq_default forms no_form h

pub row_out : (t : ℕ) → NoneOf (below no_tag) t → coded no_form ≡ row_at t
row_out t h = ap coded (sym (no_form_law t (past no_tag t h)))

-- ---- what a row says of its form

rows_read : map (λ (f : Form). read (coded f)) forms ≡ map shape forms
unfolding forms slot_of code coded
rows_read = refl

-- a number of a form that is small in the whole table
form_small : (p : Form → ℕ) (n : ℕ) → p no_form ≤ n → small n (map p forms) ≡ true → (t : ℕ) → p (form_of t) ≤ n
unfolding form_of
form_small p n h e t = rw (← get_or-map p forms t no_form) (entry_small n (map p forms) t (p no_form) h e)

pub group_small : (t : ℕ) → length (form_of t).group ≤ 3
unfolding forms small
group_small = form_small (λ f. length f.group) 3 (omega arith) refl

pub both_small : (t : ℕ) → length (form_of t).items + length (form_of t).group ≤ 4
unfolding forms small
both_small = form_small (λ f. length f.items + length f.group) 4 (omega arith) refl

from_small : (t : ℕ) → (form_of t).from < FLAT
unfolding forms small
from_small t = omega (arith, form_small (λ f. f.from) 4 (omega arith) refl t)

-- no key is past the last but that of no form
pub key_low : (t : ℕ) → (form_of t).key ≤ no_key
unfolding forms small
key_low = form_small (λ f. f.key) no_key (omega arith) refl

module _ (t : ℕ) (r : D.Form) (e : r ≡ row_at t) where
  pub reads_as : read r ≡ shape (form_of t)
  unfolding form_of slot_of code coded
  reads_as =
      ap read e ∙ sym (get_or-map (λ (f : Form). read (coded f)) forms t no_form) ∙ ap (λ (l : List Shape). get_or l t (shape no_form)) rows_read
      ∙ get_or-map shape forms t no_form

  pub key_is : r.key ≡ (form_of t).key
  unfolding coded
  key_is = ap (λ (f : D.Form). f.key) e

  pub items_are : (r.items ≡ length (form_of t).items) × (r.items ≤ 4)
  unfolding coded
  items_are = let p : r.items ≡ length (form_of t).items = ap (λ (f : D.Form). f.items) e in (p, omega (arith, p, both_small t))

  pub group_are : (r.group ≡ length (form_of t).group) × (r.group ≤ 3)
  unfolding coded
  group_are = let p : r.group ≡ length (form_of t).group = ap (λ (f : D.Form). f.group) e in (p, omega (arith, p, group_small t))

  pub few_are : r.items + r.group ≤ 4
  few_are = omega (arith, items_are.0, group_are.0, both_small t)

  from_is : r.from ≡ rises_from (form_of t)
  unfolding coded
  from_is = ap (λ (f : D.Form). f.from) e

  pub flat_are : r.from ≡ FLAT → (form_of t).ascends ≡ false
  flat_are h = go (form_of t).ascends from_is
    where
      go : (b : Bool) → r.from ≡ cond b (form_of t).from FLAT → b ≡ false
      go true p = absurd (omega (arith, p, h, from_small t))
      go false p = refl

  pub rising_are : (r.from ≡ FLAT → ⊥) → ((form_of t).ascends ≡ true) × (r.from ≡ (form_of t).from) × (r.from < FLAT)
  rising_are h = go (form_of t).ascends from_is
    where
      go : (b : Bool) → r.from ≡ cond b (form_of t).from FLAT → (b ≡ true) × (r.from ≡ (form_of t).from) × (r.from < FLAT)
      go true p = (refl, p, omega (arith, p, from_small t))
      go false p = absurd (h p)

-- ---- nodes: their key; a type stands first

keyed_so : ℕ → Bool
keyed_so t = eqb (form_of t).key NODE

all_keyed : all_below (λ (i : ℕ). keyed_so (first_node + i)) (POLICY_LINE - first_node) ≡ true
unfolding forms form_of keyed_so
all_keyed = refl

pub node_key : (t : ℕ) → first_node ≤ t → t ≤ SLOT → NODE ≡ (form_of t).key
unfolding keyed_so
node_key t l h = sym (eqb-true (form_of t).key NODE (ranged keyed_so first_node (POLICY_LINE - first_node) all_keyed t l (omega arith)))

abbrev typed : ℕ → Bool
typed t = is_line TYPE (slot_at t 0) && leb 1 (length (form_of t).items)

all_typed : all_below (λ (i : ℕ). typed (first_node + i)) (POLICY_LINE - first_node) ≡ true
unfolding forms form_of slot_at
all_typed = refl

is_line_law : (k : ℕ) (s : Slot) → is_line k s ≡ true → s ≡ line k
is_line_law k entry e = no_true e
is_line_law k (line l) e = ap line (sym (eqb-true k l e))
is_line_law k (line_or b l) e = no_true e
is_line_law k (line_unknown l) e = no_true e
is_line_law k (word ws) e = no_true e
is_line_law k number e = no_true e
is_line_law k day e = no_true e
is_line_law k nothing e = no_true e

module _ (t : ℕ) (l : first_node ≤ t) (h : t ≤ SLOT) where
  node_typed : typed t ≡ true
  node_typed = ranged typed first_node (POLICY_LINE - first_node) all_typed t l (omega arith)

  pub node_items : 1 ≤ length (form_of t).items
  node_items = leb-true 1 (length (form_of t).items) ((and-eq-true_iff (is_line TYPE (slot_at t 0)) (leb 1 (length (form_of t).items))).0 node_typed).1

  pub node_slot : slot_at t 0 ≡ line TYPE
  node_slot = is_line_law TYPE (slot_at t 0) ((and-eq-true_iff (is_line TYPE (slot_at t 0)) (leb 1 (length (form_of t).items))).0 node_typed).0

-- The tags of a line's key and constructor. Assumes nothing.
use mathlib.Core.Path.{◌≡◌, refl, sym, ap, ◌∙◌}
use mathlib.Core.Bool.{Bool, true, false, cond, not, ◌&&◌, ◌||◌}
use mathlib.Core.Option.{Option, none, some, some-injective}
use mathlib.Core.List.{List, [], ◌∷◌}
use Prim.Native.Nat.{ℕ, suc, ◌≤◌, ◌<◌}
use native.Mathlib.Omega.{arith}
use native.Mathlib.Decide.{dec_lt}
use borrow.Author.Tests.{leb-true, eqb-true, eq-eqb}
use lib.Dec.{leb, eqb}
use lib.ListN.{length, get_or}
use Rattle.sheet.specs.Ascii.{ascii}
use Rattle.sheet.specs.Bytes.{same}
use Rattle.sheet.specs.Forms.{Form, forms, form_of, no_form, form_in, tag_of, no_key, no_tag, first_node, NODE}
use Rattle.sheet.proofs.reading.Parsed.{all_below, all_below_law, tags_between, node_tags}
use Rattle.scan.specs.Numbers.{following, placed}
use Rattle.forms.specs.Tags.{SLOT}
use Rattle.forms.proofs.Table.{no_form_law}

-- ---- a word of a list has as many bytes as the one at its place

both : (a b : Bool) → (a && b) ≡ true → (a ≡ true) × (b ≡ true)
both true b e = (refl, e)
both false b e = let z : ◌≡◌ {A = ℕ} 0 1 = cc in absurd (omega arith)

same_long : (f x : List ℕ) → same f x ≡ true → length f ≡ length x
same_long [] [] e = refl
same_long [] (y ∷ x) e = let z : ◌≡◌ {A = ℕ} 0 1 = cc in absurd (omega arith)
same_long (a ∷ f) [] e = let z : ◌≡◌ {A = ℕ} 0 1 = cc in absurd (omega arith)
same_long (a ∷ f) (y ∷ x) e = ap suc (same_long f x (both (eqb a y) (same f x) e).1)

pub placed_long : (f : List ℕ) (l : List (List ℕ)) (k : ℕ) → placed f l ≡ some k → length f ≡ length (get_or l k [])
placed_long f [] k h = let z : ◌≡◌ {A = ℕ} 0 1 = cc in absurd (omega arith)
placed_long f (x ∷ l) k h = go (same f x) refl (placed f l) (placed_long f l) h
  where
    go : (t : Bool) → same f x ≡ t → (o : Option ℕ) → ((m : ℕ) → o ≡ some m → length f ≡ length (get_or l m []))
        → cond t (some 0) (following o) ≡ some k → length f ≡ length (get_or (x ∷ l) k [])
    go true p o ih q = same_long f x p ∙ ap (λ (i : ℕ). length (get_or (x ∷ l) i [])) (some-injective 0 k q)
    go false p none ih q = let z : ◌≡◌ {A = ℕ} 0 1 = cc in absurd (omega arith)
    go false p (some m) ih q = ih m refl ∙ ap (λ (i : ℕ). length (get_or (x ∷ l) i [])) (some-injective (suc m) k q)

-- ---- the form of a tag

forms_long : length forms ≡ no_tag
unfolding forms
forms_long = refl

-- the form that was found has the key and the name
form_in_is : (k : ℕ) (w : List ℕ) (fs : List Form) → form_in k w fs < length fs
    → ((get_or fs (form_in k w fs) no_form).key ≡ k) × (same w (ascii (get_or fs (form_in k w fs) no_form).name) ≡ true)
form_in_is k w [] h = absurd (omega arith)
form_in_is k w (f ∷ fs) h = go (eqb k f.key) (same w (ascii f.name)) refl refl (form_in_is k w fs) h
  where
    go : (a b : Bool) → eqb k f.key ≡ a → same w (ascii f.name) ≡ b
        → (form_in k w fs < length fs → ((get_or fs (form_in k w fs) no_form).key ≡ k) × (same w (ascii (get_or fs (form_in k w fs) no_form).name) ≡ true))
        → cond (a && b) 0 (suc (form_in k w fs)) < suc (length fs)
        → ((get_or (f ∷ fs) (cond (a && b) 0 (suc (form_in k w fs))) no_form).key ≡ k) × (same w (ascii (get_or (f ∷ fs) (cond (a && b) 0 (suc (form_in k w fs))) no_form).name) ≡ true)
    go true true e g ih h = (sym (eqb-true k f.key e), g)
    go true false e g ih h = ih (omega arith)
    go false b e g ih h = ih (omega arith)

found : (k : ℕ) (w : List ℕ) → tag_of k w < no_tag → ((form_of (tag_of k w)).key ≡ k) × (same w (ascii (form_of (tag_of k w)).name) ≡ true)
unfolding tag_of form_of
found k w h = form_in_is k w forms (omega (arith, forms_long))

pub tag_key : (k j : ℕ) (w : List ℕ) → j < no_key → (form_of (tag_of k w)).key ≡ j → k ≡ j
tag_key k j w h e = go (dec_lt (tag_of k w) no_tag)
  where
    go : Dec (tag_of k w < no_tag) → k ≡ j
    go (yes d) = sym (found k w d).0 ∙ e
    go (no d) = absurd (omega (arith, ap (λ (f : Form). f.key) (no_form_law (tag_of k w) (omega arith)), e))

-- ---- nodes: their tags, and names of at least two letters

named : ℕ → Bool
named t = not (eqb (form_of t).key NODE) || leb 2 (length (ascii (form_of t).name))

node_names_law : all_below named no_tag ≡ true
unfolding named form_of forms
node_names_law = refl

-- what a node's tag says
pub record NodeTag (name : List ℕ) (t : ℕ) : Type 0 where
  pub is : t ≡ tag_of NODE name
  pub low : first_node ≤ t
  pub high : t < no_tag → t ≤ SLOT
  pub wide : t < no_tag → 2 ≤ length name

pub node_tag : (name : List ℕ) (t : ℕ) → t ≡ tag_of NODE name → NodeTag name t
unfolding named
node_tag name t e = record { is = e; low = low (dec_lt t no_tag); high = λ h. (tags_between NODE first_node SLOT t (omega arith) node_tags (key h)).1; wide = wide }
  where
    key : t < no_tag → (form_of t).key ≡ NODE
    key h = rw e (found NODE name (omega (arith, e))).0

    low : Dec (t < no_tag) → first_node ≤ t
    low (yes h) = (tags_between NODE first_node SLOT t (omega arith) node_tags (key h)).0
    low (no h) = omega arith

    pick : (a b : Bool) → a ≡ true → (not a || b) ≡ true → b ≡ true
    pick true b p q = q
    pick false b p q = let z : ◌≡◌ {A = ℕ} 0 1 = cc in absurd (omega arith)

    letters : t < no_tag → 2 ≤ length (ascii (form_of t).name)
    letters h =
        leb-true 2 (length (ascii (form_of t).name))
        (pick (eqb (form_of t).key NODE) (leb 2 (length (ascii (form_of t).name))) (eq-eqb (form_of t).key NODE (key h)) (all_below_law named no_tag t node_names_law h))

    wide : t < no_tag → 2 ≤ length name
    wide h = omega (arith, letters h, same_long name (ascii (form_of t).name) (rw e (found NODE name (omega (arith, e))).1))

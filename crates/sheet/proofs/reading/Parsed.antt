-- What a row says of the line that it was read from: it is empty, a text, or a tag with as many items as its form has.
use mathlib.Core.Path.{◌≡◌, refl, sym, ◌∙◌, ap, subst}
use mathlib.Core.Bool.{Bool, true, false, cond, not, ◌&&◌, ◌||◌}
use mathlib.Core.Option.{Option, none, some}
use mathlib.Core.List.{List, [], ◌∷◌}
use Prim.Native.Nat.{ℕ, zero, suc, ◌<◌, ◌≤◌, ◌-◌, ◌%◌}
use native.Mathlib.Omega.{arith}
use native.Mathlib.Decide.{dec_lt}
use borrow.Author.Tests.{eq-eqb, leb-true}
use lib.Dec.{leb, ltb, eqb}
use lib.ListN.{length, take, drop, get_or-eq_default}
use Rattle.cedar.proofs.Tools.{no_true, eqb_true}
use Rattle.sheet.specs.Bytes.{up_to, split, printable}
use Rattle.sheet.specs.Forms.{Mode, Form, forms, form_of, counted_in, no_form, counted, items_from, or_empty, row_headed, row_of_text, row_of_value, row_of, heading, tag_of, place_in, keys, TEXT, no_key, no_tag, NODE, POLICY}
use Rattle.sheet.proofs.reading.Lines.{and_both}

module _ {X : Type 0} (m : Mode) (r : List ℕ) (empty : r ≡ [] → X) (text : (v : List ℕ) → r ≡ 1 ∷ v → X)
    (form : (t : ℕ) (fs : List (List ℕ)) (l : List ℕ) → counted t (length fs) ≡ true → items_from m t 0 fs ≡ some l → r ≡ t ∷ l → X) where
  items_of : (t : ℕ) (fs : List (List ℕ)) (o : Option (List ℕ)) → counted t (length fs) ≡ true → items_from m t 0 fs ≡ o → r ≡ or_empty t o → X
  items_of t fs none c e q = empty q
  items_of t fs (some l) c e q = form t fs l c e q

  row_for : (t : ℕ) (fs : List (List ℕ)) (b : Bool) → counted t (length fs) ≡ b → r ≡ cond b (or_empty t (items_from m t 0 fs)) [] → X
  row_for t fs true c q = items_of t fs (items_from m t 0 fs) c refl q
  row_for t fs false c q = empty q

  text_row_law : (v : List ℕ) (b : Bool) → r ≡ cond b (1 ∷ v) [] → X
  text_row_law v true q = text v q
  text_row_law v false q = empty q

  value_row : (k : ℕ) (v : List ℕ) (b : Bool) → r ≡ cond b (row_of_text v) (row_headed m k (heading k (split 44 v))) → X
  value_row k v true q = text_row_law v (leb (length v) 128) q
  value_row k v false q = row_for (tag_of k (heading k (split 44 v)).name) (heading k (split 44 v)).items (counted (tag_of k (heading k (split 44 v)).name) (length (heading k (split 44 v)).items)) refl q

  cut_row : (l : List ℕ) (e : ℕ) (b : Bool) → r ≡ cond b (row_of_value m (place_in (take e l) keys) (drop (suc e) l)) [] → X
  cut_row l e true q = value_row (place_in (take e l) keys) (drop (suc e) l) (eqb (place_in (take e l) keys) TEXT) q
  cut_row l e false q = empty q

  pub parsed : (l : List ℕ) → r ≡ row_of m l → X
  unfolding row_of
  parsed l q = cut_row l (up_to 61 l) (printable l && ltb (up_to 61 l) (length l)) q

-- the form of `policy=`
abbrev pub policy_tag : ℕ
policy_tag = 50

-- a test of all numbers below n
abbrev pub all_below : (ℕ → Bool) → ℕ → Bool
all_below f zero = true
all_below f (suc n) = f n && all_below f n

pub all_below_law : (f : ℕ → Bool) (n t : ℕ) → all_below f n ≡ true → t < n → f t ≡ true
all_below_law f zero t e h = absurd (omega arith)
all_below_law f (suc n) t e h = and_both (f n) (all_below f n) e (λ p q. go (dec_lt t n) p (all_below_law f n t q))
  where
    go : Dec (t < n) → f n ≡ true → (t < n → f t ≡ true) → f t ≡ true
    go (yes d) p ih = ih d
    go (no d) p ih = subst (λ i. f i ≡ true) (omega arith) p

-- a tag past the table is no form's
pub past_table : (t : ℕ) → no_tag ≤ t → form_of t ≡ no_form
unfolding form_of forms
past_table t h = get_or-eq_default forms no_form h

-- the tags of a key lie between a and b, where a test of the table says so
abbrev pub between : ℕ → ℕ → ℕ → ℕ → Bool
between k a b t = not (eqb (form_of t).key k) || (leb a t && leb t b)

pub tags_between : (k a b t : ℕ) → k < no_key → all_below (between k a b) no_tag ≡ true → (form_of t).key ≡ k → (a ≤ t) × (t ≤ b)
tags_between k a b t lt e q = go (dec_lt t no_tag)
  where
    inside : (x y : Bool) → x ≡ true → (not x || y) ≡ true → y ≡ true
    inside x true p h = refl
    inside true false p h = h
    inside false false p h = no_true p

    go : Dec (t < no_tag) → (a ≤ t) × (t ≤ b)
    go (yes d) = and_both (leb a t) (leb t b) (inside (eqb (form_of t).key k) (leb a t && leb t b) (eq-eqb (form_of t).key k q) (all_below_law (between k a b) no_tag t e d)) (λ x y. (leb-true a t x, leb-true t b y))
    go (no d) = let z : no_key ≡ k = sym (ap (λ f. f.key) (past_table t (omega arith))) ∙ q in absurd (omega (arith, z))

-- the tags of nodes, policies and requests
pub node_tags : all_below (between NODE 21 49) no_tag ≡ true
unfolding form_of forms
node_tags = refl

pub policy_tags : all_below (between POLICY policy_tag policy_tag) no_tag ≡ true
unfolding form_of forms
policy_tags = refl

pub request_tags : (all_below (between 7 17 17) no_tag ≡ true) × (all_below (between 8 18 18) no_tag ≡ true) × (all_below (between 9 19 19) no_tag ≡ true)
unfolding form_of forms
request_tags = (refl, refl, refl)

-- a form without groups has just its items
pub counted_plain : (f : Form) (n : ℕ) → f.group ≡ [] → counted_in f n ≡ true → n ≡ length f.items
counted_plain f n g e = go (eqb n (length f.items)) refl (rw g at e)
  where
    none_after : (p : Bool) → (p && ltb 0 0 && eqb ((n - length f.items) % 0) 0) ≡ true → n ≡ length f.items
    none_after true h = no_true h
    none_after false h = no_true h

    go : (x : Bool) → eqb n (length f.items) ≡ x → (x || (ltb (length f.items) n && ltb 0 0 && eqb ((n - length f.items) % 0) 0)) ≡ true → n ≡ length f.items
    go true p h = eqb_true n (length f.items) p
    go false p h = none_after (ltb (length f.items) n) h

-- A line whose lone `?` are filled: its row has the same key and entity or kind, and each part is the same where it was known.
use mathlib.Core.Path.{◌≡◌, refl, sym, ◌∙◌, ap, subst}
use mathlib.Core.Bool.{Bool, true, false, cond, not, ◌&&◌, ◌||◌}
use mathlib.Core.Option.{Option, none, some, some-injective}
use mathlib.Core.List.{List, [], ◌∷◌, ◌++◌}
use Prim.Native.Nat.{ℕ, zero, suc, ◌%◌, ◌-◌}
use Prim.Native.String.{String}
use borrow.Author.Tests.{eq-eqb}
use lib.Dec.{ltb, eqb}
use lib.ListN.{length, get_or, drop}
use Rattle.cedar.proofs.Tools.{no_some, no_true, and_both, either}
use Rattle.cedar.specs.Types.{among}
use Rattle.sheet.specs.Ascii.{ascii}
use Rattle.sheet.specs.Bytes.{up_to, split, same, printable, index}
use Rattle.sheet.specs.Typing.{unknown_or}
use Rattle.sheet.specs.Forms.{partial, Slot, entry, line, line_or, line_unknown, word, number, day, nothing, keys, forms, form_of, slot_at, counted, tag_of, item, one, joined, items_from, or_empty, row_for, row_of_value, row_of, place_in, mark_or, mark, at, key_of, TYPE, KIND, VALUE, ENTITY, PRINCIPAL, RESOURCE, CONTEXT}
use Rattle.previewed.specs.Preview.{fills_only, key_in, items_in, may_fill, fills}
use Rattle.sheet.proofs.reading.Lines.{not_empty}
use Rattle.sheet.proofs.demand3.TwoSheets.{same_is}

-- keys of lines that may be filled
abbrev pub fillable : ℕ → Bool
fillable k = among k (ENTITY ∷ PRINCIPAL ∷ RESOURCE ∷ CONTEXT ∷ [])

pub record FillRow (r q : List ℕ) : Type 0 where
  pub key : key_of r ≡ key_of q
  pub may : fillable (key_of r) ≡ true
  pub first : at r 0 ≡ at q 0
  pub parts : (j : ℕ) → unknown_or (at r j) (eqb (at r j) (at q j)) ≡ true

-- ---- items of such lines: a number of a line, or `?`

abbrev askable : Slot → Bool
askable entry = false
askable (line k) = true
askable (line_or b k) = false
askable (line_unknown k) = true
askable (word ws) = false
askable number = false
askable day = false
askable nothing = true

abbrev all_askable : List Slot → Bool
all_askable [] = true
all_askable (s ∷ l) = askable s && all_askable l

ask_in : (l : List Slot) (j : ℕ) → all_askable l ≡ true → askable (get_or l j nothing) ≡ true
ask_in [] j e = refl
ask_in (s ∷ l) zero e = and_both (askable s) (all_askable l) e (λ a b. a)
ask_in (s ∷ l) (suc j) e = and_both (askable s) (all_askable l) e (λ a b. ask_in l j b)

ask_slot : (T : ℕ) → all_askable (form_of T).items ≡ true → (form_of T).group ≡ [] → (j : ℕ) → askable (slot_at T j) ≡ true
unfolding slot_at
ask_slot T a g j = go (ltb j (length (form_of T).items))
  where
    go : (b : Bool) → askable (cond b (get_or (form_of T).items j nothing) (get_or (form_of T).group ((j - length (form_of T).items) % length (form_of T).group) nothing)) ≡ true
    go true = ask_in (form_of T).items j a
    go false = ap (λ z. askable (get_or z ((j - length (form_of T).items) % length (form_of T).group) nothing)) g

pub one_some : {X : Type 0} (o : Option ℕ) (x : List ℕ) → one o ≡ some x → ((n : ℕ) → x ≡ n ∷ [] → X) → X
one_some none x e f = no_some e
one_some (some n) x e f = f n (sym (some-injective (n ∷ []) x e))

item_one : {X : Type 0} (s : Slot) → askable s ≡ true → (f x : List ℕ) → item partial s f ≡ some x → ((n : ℕ) → x ≡ n ∷ [] → X) → X
item_one entry a f x e g = no_true a
item_one (line k) a f x e g = one_some (index f) x e g
item_one (line_or b k) a f x e g = no_true a
item_one (line_unknown k) a f x e g = one_some (mark_or (same f (ascii "?")) (index f)) x e g
item_one (word ws) a f x e g = no_true a
item_one number a f x e g = no_true a
item_one day a f x e g = no_true a
item_one nothing a f x e g = no_some e

item_ask : (s : Slot) → askable s ≡ true → (x : List ℕ) → item partial s (ascii "?") ≡ some x → x ≡ mark ∷ []
item_ask entry a x e = no_true a
item_ask (line k) a x e = no_some e
item_ask (line_or b k) a x e = no_true a
item_ask (line_unknown k) a x e = sym (some-injective (mark ∷ []) x e)
item_ask (word ws) a x e = no_true a
item_ask number a x e = no_true a
item_ask day a x e = no_true a
item_ask nothing a x e = no_some e

pub joined_some : {X : Type 0} (o p : Option (List ℕ)) (x : List ℕ) → joined o p ≡ some x → ((a b : List ℕ) → o ≡ some a → p ≡ some b → x ≡ a ++ b → X) → X
joined_some none p x e f = no_some e
joined_some (some a) none x e f = no_some e
joined_some (some a) (some b) x e f = f a b refl refl (sym (some-injective (a ++ b) x e))

abbrev Parts : List ℕ → List ℕ → Type 0
Parts xs ys = (i : ℕ) → unknown_or (get_or xs i 0) (eqb (get_or xs i 0) (get_or ys i 0)) ≡ true

part_same : (x : ℕ) → unknown_or x (eqb x x) ≡ true
part_same x = rw (eq-eqb x x refl) (go (eqb x mark))
  where
    go : (b : Bool) → (b || true) ≡ true
    go true = refl
    go false = refl

-- one item, and the others
parts_cons : (x y : ℕ) (xs ys : List ℕ) → unknown_or x (eqb x y) ≡ true → Parts xs ys → Parts (x ∷ xs) (y ∷ ys)
parts_cons x y xs ys e h zero = e
parts_cons x y xs ys e h (suc i) = h i

one_part : (s : Slot) → askable s ≡ true → (f g x y : List ℕ) → (same f g || same f (ascii "?")) ≡ true → item partial s f ≡ some x → item partial s g ≡ some y → (m n : ℕ) → x ≡ m ∷ [] → y ≡ n ∷ [] → unknown_or m (eqb m n) ≡ true
one_part s a f g x y e p q m n u w = either (same f g) (same f (ascii "?")) e
    (λ t. let z : x ≡ y = some-injective x y (sym p ∙ ap (item partial s) (same_is f g t) ∙ q) in
    let v : m ≡ n = ap (λ l. get_or l 0 0) (sym u ∙ z ∙ w) in
    subst (λ k. unknown_or m (eqb m k) ≡ true) v (part_same m))
    (λ t. let z : x ≡ mark ∷ [] = item_ask s a x (sym (ap (item partial s) (same_is f (ascii "?") t)) ∙ p) in
    let v : mark ≡ m = ap (λ l. get_or l 0 0) (sym z ∙ u) in
    subst (λ k. unknown_or k (eqb k n) ≡ true) v refl)

items_parts : (T : ℕ) → ((j : ℕ) → askable (slot_at T j) ≡ true) → (j : ℕ) (fs gs : List (List ℕ)) (xs ys : List ℕ) → fills_only fs gs ≡ true → items_from partial T j fs ≡ some xs → items_from partial T j gs ≡ some ys → Parts xs ys
items_parts T a j [] [] xs ys e p q = λ i. subst (λ z. unknown_or (get_or z i 0) (eqb (get_or z i 0) (get_or ys i 0)) ≡ true) (some-injective [] xs p) (subst (λ z. unknown_or 0 (eqb 0 (get_or z i 0)) ≡ true) (some-injective [] ys q) refl)
items_parts T a j [] (g ∷ gs) xs ys e p q = no_true e
items_parts T a j (f ∷ fs) [] xs ys e p q = no_true e
items_parts T a j (f ∷ fs) (g ∷ gs) xs ys e p q = and_both (same f g || same f (ascii "?")) (fills_only fs gs) e (λ t h.
    joined_some (item partial (slot_at T j) f) (items_from partial T (suc j) fs) xs p (λ x xr ix ir ex.
    joined_some (item partial (slot_at T j) g) (items_from partial T (suc j) gs) ys q (λ y yr iy jr ey.
    item_one (slot_at T j) (a j) f x ix (λ m u. item_one (slot_at T j) (a j) g y iy (λ n w.
    let rest : Parts xr yr = items_parts T a (suc j) fs gs xr yr h ir jr in
    subst (λ z. Parts z ys) (sym (ex ∙ ap (λ l. l ++ xr) u)) (subst (λ z. Parts (m ∷ xr) z) (sym (ey ∙ ap (λ l. l ++ yr) w))
    (parts_cons m n xr yr (one_part (slot_at T j) (a j) f g x y t ix iy m n u w) rest)))))))

-- ---- the first item is a number of a line: no `?` stands there

first_same : (T k : ℕ) → slot_at T 0 ≡ line k → (fs gs : List (List ℕ)) (xs ys : List ℕ) → fills_only fs gs ≡ true → items_from partial T 0 fs ≡ some xs → items_from partial T 0 gs ≡ some ys → get_or xs 0 0 ≡ get_or ys 0 0
first_same T k s [] [] xs ys e p q = ap (λ l. get_or l 0 0) (sym (some-injective [] xs p) ∙ some-injective [] ys q)
first_same T k s [] (g ∷ gs) xs ys e p q = no_true e
first_same T k s (f ∷ fs) [] xs ys e p q = no_true e
first_same T k s (f ∷ fs) (g ∷ gs) xs ys e p q = and_both (same f g || same f (ascii "?")) (fills_only fs gs) e (λ t h.
    joined_some (item partial (slot_at T 0) f) (items_from partial T 1 fs) xs p (λ x xr ix ir ex.
    joined_some (item partial (slot_at T 0) g) (items_from partial T 1 gs) ys q (λ y yr iy jr ey.
    either (same f g) (same f (ascii "?")) t
    (λ u. let z : x ≡ y = some-injective x y (sym ix ∙ ap (item partial (slot_at T 0)) (same_is f g u) ∙ iy) in
    item_one (line k) refl f x (sym (ap (λ w. item partial w f) s) ∙ ix) (λ m a.
    ap (λ l. get_or l 0 0) (ex ∙ ap (λ l. l ++ xr) a) ∙ sym (ap (λ l. get_or l 0 0) (ey ∙ ap (λ l. l ++ yr) (sym z ∙ a)))))
    (λ u. no_some (sym (ap (λ w. item partial w (ascii "?")) s) ∙ sym (ap (item partial (slot_at T 0)) (same_is f (ascii "?") u)) ∙ ix)))))

-- ---- rows

-- a row that is not empty comes from its items
pub row_items : {X : Type 0} (T : ℕ) (fs : List (List ℕ)) (b c : Bool) (t : ℕ) (xs : List ℕ) → cond b (cond c (or_empty T (items_from partial T 0 fs)) []) [] ≡ t ∷ xs → (t ≡ T → items_from partial T 0 fs ≡ some xs → X) → X
row_items {X} T fs true true t xs e f = go (items_from partial T 0 fs) refl e
  where
    go : (o : Option (List ℕ)) → items_from partial T 0 fs ≡ o → or_empty T o ≡ t ∷ xs → X
    go none p e = not_empty [] t xs e
    go (some l) p e = f (ap (λ z. get_or z 0 0) (sym e)) (p ∙ ap (λ z. some (drop 1 z)) e)
row_items T fs true false t xs e f = not_empty [] t xs e
row_items T fs false c t xs e f = not_empty [] t xs e

-- both rows are of form T, whose first item is a number of a line and whose others may be `?`
form_row : (T k : ℕ) → slot_at T 0 ≡ line k → ((j : ℕ) → askable (slot_at T j) ≡ true) → fillable (form_of T).key ≡ true → (fs gs : List (List ℕ)) (b c b' c' : Bool) (t : ℕ) (xs : List ℕ) (u : ℕ) (ys : List ℕ) → fills_only fs gs ≡ true
    → cond b (cond c (or_empty T (items_from partial T 0 fs)) []) [] ≡ t ∷ xs → cond b' (cond c' (or_empty T (items_from partial T 0 gs)) []) [] ≡ u ∷ ys → FillRow (t ∷ xs) (u ∷ ys)
unfolding key_of
form_row T k s a m fs gs b c b' c' t xs u ys e p q = row_items T fs b c t xs p (λ tt' ix. row_items T gs b' c' u ys q (λ uu iy. record {
  key = ap (λ z. (form_of z).key) (tt' ∙ sym uu);
  may = ap (λ z. fillable (form_of z).key) tt' ∙ m;
  first = first_same T k s fs gs xs ys e ix iy;
  parts = items_parts T a 0 fs gs xs ys e ix iy;
}))

-- the tag of a key without constructors
abbrev pub tag_for : ℕ → ℕ
tag_for k = tag_of k []

-- bytes 32 to 126, with `=`
abbrev pub shown : List ℕ → Bool
shown l = printable l && ltb (up_to 61 l) (length l)

-- the row of a line of such a key
pub row_of_key : (w : String) (k : ℕ) → place_in (ascii w) keys ≡ k → ((v : List ℕ) → row_of_value partial k v ≡ row_for partial (tag_for k) (split 44 v)) → (l : List ℕ) → key_in l ≡ ascii w → row_of partial l ≡ cond (shown l) (row_for partial (tag_for k) (items_in l)) []
unfolding row_of
row_of_key w k c h l d = ap (λ z. cond (shown l) (row_of_value partial z (drop (suc (up_to 61 l)) l)) []) (ap (λ z. place_in z keys) d ∙ c) ∙ ap (λ z. cond (shown l) z []) (h (drop (suc (up_to 61 l)) l))

-- the rows of two lines of one key, whose first item is the number of a line of key f
module _ (old new : List ℕ) (e : fills_only (items_in old) (items_in new) ≡ true) (t : ℕ) (xs : List ℕ) (u : ℕ) (ys : List ℕ) (p : row_of partial old ≡ t ∷ xs) (q : row_of partial new ≡ u ∷ ys) where
  as_key : (w : String) (k f : ℕ) → place_in (ascii w) keys ≡ k → ((v : List ℕ) → row_of_value partial k v ≡ row_for partial (tag_for k) (split 44 v)) → slot_at (tag_for k) 0 ≡ line f → all_askable (form_of (tag_for k)).items ≡ true → (form_of (tag_for k)).group ≡ []
      → fillable (form_of (tag_for k)).key ≡ true → key_in old ≡ ascii w → key_in new ≡ ascii w → FillRow (t ∷ xs) (u ∷ ys)
  as_key w k f c h s a g m d d' =
      form_row (tag_for k) f s (ask_slot (tag_for k) a g) m (items_in old) (items_in new) (shown old) (counted (tag_for k) (length (items_in old))) (shown new) (counted (tag_for k) (length (items_in new))) t xs u ys e
      (sym (row_of_key w k c h old d) ∙ p) (sym (row_of_key w k c h new d') ∙ q)

  as_principal : key_in old ≡ ascii "principal" → key_in new ≡ ascii "principal" → FillRow (t ∷ xs) (u ∷ ys)
  unfolding keys tag_of forms form_of slot_at
  as_principal = as_key "principal" PRINCIPAL KIND refl (λ v. refl) refl refl refl refl

  as_resource : key_in old ≡ ascii "resource" → key_in new ≡ ascii "resource" → FillRow (t ∷ xs) (u ∷ ys)
  unfolding keys tag_of forms form_of slot_at
  as_resource = as_key "resource" RESOURCE KIND refl (λ v. refl) refl refl refl refl

  as_context : key_in old ≡ ascii "context" → key_in new ≡ ascii "context" → FillRow (t ∷ xs) (u ∷ ys)
  unfolding keys tag_of forms form_of slot_at
  as_context = as_key "context" CONTEXT TYPE refl (λ v. refl) refl refl refl refl

  as_entity : key_in old ≡ ascii "entity" → key_in new ≡ ascii "entity" → FillRow (t ∷ xs) (u ∷ ys)
  unfolding keys tag_of forms form_of slot_at
  as_entity = as_key "entity" ENTITY VALUE refl (λ v. refl) refl refl refl refl

-- one of four words
one_of : {X : Type 0} (w : List ℕ) → ltb (place_in w ("principal" ∷ "resource" ∷ "context" ∷ "entity" ∷ [])) 4 ≡ true → (w ≡ ascii "principal" → X) → (w ≡ ascii "resource" → X) → (w ≡ ascii "context" → X) → (w ≡ ascii "entity" → X) → X
one_of {X} w e f g h k = go (same w (ascii "principal")) (same w (ascii "resource")) (same w (ascii "context")) (same w (ascii "entity")) refl refl refl refl e
  where
    go : (a b c d : Bool) → same w (ascii "principal") ≡ a → same w (ascii "resource") ≡ b → same w (ascii "context") ≡ c → same w (ascii "entity") ≡ d → ltb (cond a 0 (suc (cond b 0 (suc (cond c 0 (suc (cond d 0 (suc 0)))))))) 4 ≡ true → X
    go true b c d p q r s e = f (same_is w (ascii "principal") p)
    go false true c d p q r s e = g (same_is w (ascii "resource") q)
    go false false true d p q r s e = h (same_is w (ascii "context") r)
    go false false false true p q r s e = k (same_is w (ascii "entity") s)
    go false false false false p q r s e = no_true e

-- A LINE THAT FILLS ANOTHER
pub fills_row : (old new : List ℕ) → fills old new ≡ true → (t : ℕ) (xs : List ℕ) (u : ℕ) (ys : List ℕ) → row_of partial old ≡ t ∷ xs → row_of partial new ≡ u ∷ ys → FillRow (t ∷ xs) (u ∷ ys)
unfolding fills
fills_row old new e t xs u ys p q =
    and_both (not (among 10 new)) (may_fill old && (may_fill new && (same (key_in old) (key_in new) && (fills_only (items_in old) (items_in new) && not (same old new))))) e (λ a e.
    and_both (may_fill old) (may_fill new && (same (key_in old) (key_in new) && (fills_only (items_in old) (items_in new) && not (same old new)))) e (λ b e.
    and_both (may_fill new) (same (key_in old) (key_in new) && (fills_only (items_in old) (items_in new) && not (same old new))) e (λ c e.
    and_both (same (key_in old) (key_in new)) (fills_only (items_in old) (items_in new) && not (same old new)) e (λ d e.
    and_both (fills_only (items_in old) (items_in new)) (not (same old new)) e (λ f g.
    let k = same_is (key_in old) (key_in new) d in
    and_both (ltb (place_in (key_in old) ("principal" ∷ "resource" ∷ "context" ∷ "entity" ∷ [])) 4) (ltb (up_to 61 old) (length old)) b (λ w z.
    one_of (key_in old) w
    (λ x. as_principal old new f t xs u ys p q x (sym k ∙ x)) (λ x. as_resource old new f t xs u ys p q x (sym k ∙ x))
    (λ x. as_context old new f t xs u ys p q x (sym k ∙ x)) (λ x. as_entity old new f t xs u ys p q x (sym k ∙ x))))))))

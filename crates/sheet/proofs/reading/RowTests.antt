-- Tests on rows, taken apart: what a passed test says.
use mathlib.Core.Path.{◌≡◌, refl, sym, ap, ap₂, subst}
use mathlib.Core.Bool.{Bool, true, false, ◌||◌}
use mathlib.Core.List.{List, [], ◌∷◌}
use Prim.Native.Nat.{ℕ}
use lib.Dec.{eqb}
use lib.IntN.{ℤ}
use Rattle.cedar.proofs.Tools.{no_true, eqb_true, and_both, either}
use Rattle.cedar.specs.Types.{among}
use Rattle.cedar.specs.Rows.{Entries, Row, rbool, rlong, rtext, rent, rset, rrec}
use Rattle.cedar.specs.Numbered.{r_bool, r_long, r_text, r_ent, r_set, r_rec, mem_n}
use Rattle.sheet.specs.Bytes.{same}
use Rattle.sheet.specs.State.{Declared, TypeRow, bool, long, string, entity, set', record'}
use Rattle.sheet.specs.Typing.{on_entity, on_set_of, on_record, is_bool, is_long, is_string, all_in}

pub on_bool_law : {X : Type 0} (r : Row) (f : Bool → Bool) → r_bool false r f ≡ true → ((b : Bool) → r ≡ rbool b → f b ≡ true → X) → X
on_bool_law (rbool b) f e h = h b refl e
on_bool_law (rlong n) f e h = no_true e
on_bool_law (rtext t) f e h = no_true e
on_bool_law (rent k t) f e h = no_true e
on_bool_law (rset l) f e h = no_true e
on_bool_law (rrec es) f e h = no_true e

pub on_long_law : {X : Type 0} (r : Row) (f : ℤ → Bool) → r_long false r f ≡ true → ((n : ℤ) → r ≡ rlong n → f n ≡ true → X) → X
on_long_law (rbool b) f e h = no_true e
on_long_law (rlong n) f e h = h n refl e
on_long_law (rtext t) f e h = no_true e
on_long_law (rent k t) f e h = no_true e
on_long_law (rset l) f e h = no_true e
on_long_law (rrec es) f e h = no_true e

pub on_text_law : {X : Type 0} (r : Row) (f : ℕ → Bool) → r_text false r f ≡ true → ((t : ℕ) → r ≡ rtext t → f t ≡ true → X) → X
on_text_law (rbool b) f e h = no_true e
on_text_law (rlong n) f e h = no_true e
on_text_law (rtext t) f e h = h t refl e
on_text_law (rent k t) f e h = no_true e
on_text_law (rset l) f e h = no_true e
on_text_law (rrec es) f e h = no_true e

pub on_ent_law : {X : Type 0} (r : Row) (f : ℕ → ℕ → Bool) → r_ent false r f ≡ true → ((k t : ℕ) → r ≡ rent k t → f k t ≡ true → X) → X
on_ent_law (rbool b) f e h = no_true e
on_ent_law (rlong n) f e h = no_true e
on_ent_law (rtext t) f e h = no_true e
on_ent_law (rent k t) f e h = h k t refl e
on_ent_law (rset l) f e h = no_true e
on_ent_law (rrec es) f e h = no_true e

pub on_set_law : {X : Type 0} (r : Row) (f : List ℕ → Bool) → r_set false r f ≡ true → ((l : List ℕ) → r ≡ rset l → f l ≡ true → X) → X
on_set_law (rbool b) f e h = no_true e
on_set_law (rlong n) f e h = no_true e
on_set_law (rtext t) f e h = no_true e
on_set_law (rent k t) f e h = no_true e
on_set_law (rset l) f e h = h l refl e
on_set_law (rrec es) f e h = no_true e

pub on_rec : {X : Type 0} (r : Row) (f : Entries → Bool) → r_rec false r f ≡ true → ((es : Entries) → r ≡ rrec es → f es ≡ true → X) → X
on_rec (rbool b) f e h = no_true e
on_rec (rlong n) f e h = no_true e
on_rec (rtext t) f e h = no_true e
on_rec (rent k t) f e h = no_true e
on_rec (rset l) f e h = no_true e
on_rec (rrec es) f e h = h es refl e

pub on_entity_law : {X : Type 0} (y : TypeRow) (f : List ℕ → Bool) → on_entity false y f ≡ true → ((k : ℕ) (ks : List ℕ) → y ≡ entity k ks → f (k ∷ ks) ≡ true → X) → X
on_entity_law bool f e h = no_true e
on_entity_law long f e h = no_true e
on_entity_law string f e h = no_true e
on_entity_law (entity k ks) f e h = h k ks refl e
on_entity_law (set' t) f e h = no_true e
on_entity_law (record' ds) f e h = no_true e

pub on_set_of_law : {X : Type 0} (y : TypeRow) (f : ℕ → Bool) → on_set_of false y f ≡ true → ((t : ℕ) → y ≡ set' t → f t ≡ true → X) → X
on_set_of_law bool f e h = no_true e
on_set_of_law long f e h = no_true e
on_set_of_law string f e h = no_true e
on_set_of_law (entity k ks) f e h = no_true e
on_set_of_law (set' t) f e h = h t refl e
on_set_of_law (record' ds) f e h = no_true e

pub on_record_law : {X : Type 0} (y : TypeRow) (f : List Declared → Bool) → on_record false y f ≡ true → ((ds : List Declared) → y ≡ record' ds → f ds ≡ true → X) → X
on_record_law bool f e h = no_true e
on_record_law long f e h = no_true e
on_record_law string f e h = no_true e
on_record_law (entity k ks) f e h = no_true e
on_record_law (set' t) f e h = no_true e
on_record_law (record' ds) f e h = h ds refl e

pub is_bool_law : (y : TypeRow) → is_bool y ≡ true → y ≡ bool
is_bool_law bool e = refl
is_bool_law long e = no_true e
is_bool_law string e = no_true e
is_bool_law (entity k ks) e = no_true e
is_bool_law (set' t) e = no_true e
is_bool_law (record' ds) e = no_true e

pub is_long_law : (y : TypeRow) → is_long y ≡ true → y ≡ long
is_long_law bool e = no_true e
is_long_law long e = refl
is_long_law string e = no_true e
is_long_law (entity k ks) e = no_true e
is_long_law (set' t) e = no_true e
is_long_law (record' ds) e = no_true e

pub is_string_law : (y : TypeRow) → is_string y ≡ true → y ≡ string
is_string_law bool e = no_true e
is_string_law long e = no_true e
is_string_law string e = refl
is_string_law (entity k ks) e = no_true e
is_string_law (set' t) e = no_true e
is_string_law (record' ds) e = no_true e

-- equal lists
pub same_is : (k l : List ℕ) → same k l ≡ true → k ≡ l
same_is [] [] e = refl
same_is [] (y ∷ l) e = no_true e
same_is (x ∷ k) [] e = no_true e
same_is (x ∷ k) (y ∷ l) e = and_both (eqb x y) (same k l) e (λ p q. ap₂ ◌∷◌ (eqb_true x y p) (same_is k l q))

-- a test that each kind of a group passes, at one of them
pub all_at : (f : ℕ → Bool) (ks : List ℕ) → all_in f ks ≡ true → (k : ℕ) → among k ks ≡ true → f k ≡ true
all_at f [] e k m = no_true m
all_at f (l ∷ ls) e k m = and_both (f l) (all_in f ls) e (λ p q. either (eqb k l) (among k ls) m (λ x. subst (λ z. f z ≡ true) (sym (eqb_true k l x)) p) (λ x. all_at f ls q k x))

pub mem_among : (k : ℕ) (l : List ℕ) → mem_n k l ≡ among k l
mem_among k [] = refl
mem_among k (x ∷ l) = ap (λ b. eqb k x || b) (mem_among k l)

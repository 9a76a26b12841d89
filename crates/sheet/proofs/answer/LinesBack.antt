-- Printed lines are taken apart again: lines at byte 10, items at commas, keys at the first `=`.
use mathlib.Core.Path.{◌≡◌, refl, sym, ◌∙◌, ap}
use mathlib.Core.Bool.{Bool, true, cond, not, ◌&&◌}
use mathlib.Core.List.{List, [], ◌∷◌, ◌++◌, append_assoc}
use Prim.Native.Nat.{ℕ, ◌≤◌}
use Prim.Native.String.{String}
use native.Mathlib.Omega.{arith}
use borrow.Author.Tests.{leb-true, lt-ltb, eq-eqb, ne_eqb, not-true}
use lib.Dec.{leb, eqb}
use lib.ListN.{length}
use Rattle.sheet.specs.Ascii.{ascii}
use Rattle.sheet.specs.Bytes.{split, printable, commas}
use Rattle.sheet.specs.Forms.{Mode, Slot, keys, row_of, row_headed, heading, name_first, name_second, VALUE, NODE}
use Rattle.sheet.specs.Answer.{printed, concat}
use Rattle.sheet.specs.ReadAnswer.{items_by, line_by}
use Rattle.sheet.proofs.reading.Lines.{and_both}
use Rattle.sheet.proofs.answer.DigitsBack.{plain_byte, plain_bytes}

-- ---- parts between bytes c

abbrev pub lacks : ℕ → List ℕ → Bool
lacks c [] = true
lacks c (x ∷ l) = not (eqb x c) && lacks c l

pub split_one : (c : ℕ) (l : List ℕ) → lacks c l ≡ true → split c l ≡ l ∷ []
split_one c [] e = refl
split_one c (x ∷ l) e = and_both (not (eqb x c)) (lacks c l) e (λ p q. rw (not-true (eqb x c) p, split_one c l q))

pub split_two : (c : ℕ) (l k : List ℕ) → lacks c l ≡ true → split c (l ++ (c ∷ k)) ≡ l ∷ split c k
split_two c [] k e = rw (eqb_same c)
  where
    eqb_same : (c : ℕ) → eqb c c ≡ true
    eqb_same c = eq-eqb c c refl
split_two c (x ∷ l) k e = and_both (not (eqb x c)) (lacks c l) e (λ p q. rw (not-true (eqb x c) p, split_two c l k q))

pub lacks_append : (c : ℕ) (k l : List ℕ) → lacks c k ≡ true → lacks c l ≡ true → lacks c (k ++ l) ≡ true
lacks_append c [] l a b = b
lacks_append c (x ∷ k) l a b = and_both (not (eqb x c)) (lacks c k) a (λ p q. rw p (lacks_append c k l q b))

-- ---- items

abbrev pub all_plain : List (List ℕ) → Bool
all_plain [] = true
all_plain (f ∷ fs) = plain_bytes f && all_plain fs

plain_is : {X : Type 0} (x : ℕ) → plain_byte x ≡ true → (32 ≤ x → leb 32 x ≡ true → leb x 126 ≡ true → not (eqb x 44) ≡ true → X) → X
plain_is x e f = and_both (leb 32 x && leb x 126) (not (eqb x 44)) e (λ p q. and_both (leb 32 x) (leb x 126) p (λ a b. f (leb-true 32 x a) a b q))

no_comma : (l : List ℕ) → plain_bytes l ≡ true → lacks 44 l ≡ true
no_comma [] e = refl
no_comma (x ∷ l) e = and_both (plain_byte x) (plain_bytes l) e (λ p q. plain_is x p (λ lo a b c. rw c (no_comma l q)))

pub no_end : (l : List ℕ) → plain_bytes l ≡ true → lacks 10 l ≡ true
no_end [] e = refl
no_end (x ∷ l) e = and_both (plain_byte x) (plain_bytes l) e (λ p q. plain_is x p (λ lo a b c. rw (ne_eqb x 10 (λ z. omega (arith, z))) (no_end l q)))

shows : (l : List ℕ) → plain_bytes l ≡ true → printable l ≡ true
shows [] e = refl
shows (x ∷ l) e = and_both (plain_byte x) (plain_bytes l) e (λ p q. plain_is x p (λ lo a b c. rw (a, b) (shows l q)))

shows_append : (k l : List ℕ) → printable k ≡ true → printable l ≡ true → printable (k ++ l) ≡ true
shows_append [] l a b = b
shows_append (x ∷ k) l a b = and_both (leb 32 x && leb x 126) (printable k) a (λ p q. rw p (shows_append k l q b))

pub items_back : (f : List ℕ) (fs : List (List ℕ)) → all_plain (f ∷ fs) ≡ true → split 44 (commas (f ∷ fs)) ≡ f ∷ fs
items_back f [] e = and_both (plain_bytes f) true e (λ p q. split_one 44 f (no_comma f p))
items_back f (g ∷ fs) e = and_both (plain_bytes f) (all_plain (g ∷ fs)) e (λ p q. split_two 44 f (commas (g ∷ fs)) (no_comma f p) ∙ ap (λ z. f ∷ z) (items_back g fs q))

items_end : (fs : List (List ℕ)) → all_plain fs ≡ true → lacks 10 (commas fs) ≡ true
items_end [] e = refl
items_end (f ∷ []) e = and_both (plain_bytes f) true e (λ p q. no_end f p)
items_end (f ∷ g ∷ fs) e = and_both (plain_bytes f) (all_plain (g ∷ fs)) e (λ p q. lacks_append 10 f (44 ∷ commas (g ∷ fs)) (no_end f p) (items_end (g ∷ fs) q))

pub items_show : (fs : List (List ℕ)) → all_plain fs ≡ true → printable (commas fs) ≡ true
items_show [] e = refl
items_show (f ∷ []) e = and_both (plain_bytes f) true e (λ p q. shows f p)
items_show (f ∷ g ∷ fs) e = and_both (plain_bytes f) (all_plain (g ∷ fs)) e (λ p q. shows_append f (44 ∷ commas (g ∷ fs)) (shows f p) (items_show (g ∷ fs) q))

-- ---- lines

-- a line without its end, and lines with theirs
abbrev pub unended : String → List (List ℕ) → List ℕ
unended key fs = ascii key ++ (61 ∷ commas fs)

abbrev pub end_all : List (List ℕ) → List (List ℕ)
end_all [] = []
end_all (l ∷ ls) = (l ++ (10 ∷ [])) ∷ end_all ls

pub printed_ends : (key : String) (fs : List (List ℕ)) → printed key fs ≡ unended key fs ++ (10 ∷ [])
printed_ends key fs = sym (append_assoc (ascii key) (61 ∷ commas fs) (10 ∷ []))

pub end_append : (k l : List (List ℕ)) → end_all (k ++ l) ≡ end_all k ++ end_all l
end_append [] l = refl
end_append (x ∷ k) l = ap (λ z. (x ++ (10 ∷ [])) ∷ z) (end_append k l)

pub concat_append : (k l : List (List ℕ)) → concat (k ++ l) ≡ concat k ++ concat l
concat_append [] l = refl
concat_append (x ∷ k) l = ap (λ z. x ++ z) (concat_append k l) ∙ sym (append_assoc x (concat k) (concat l))

abbrev pub all_lack : List (List ℕ) → Bool
all_lack [] = true
all_lack (l ∷ ls) = lacks 10 l && all_lack ls

pub lack_append : (k l : List (List ℕ)) → all_lack k ≡ true → all_lack l ≡ true → all_lack (k ++ l) ≡ true
lack_append [] l a b = b
lack_append (x ∷ k) l a b = and_both (lacks 10 x) (all_lack k) a (λ p q. rw p (lack_append k l q b))

pub lines_back : (ls : List (List ℕ)) → all_lack ls ≡ true → split 10 (concat (end_all ls)) ≡ ls ++ ([] ∷ [])
lines_back [] e = refl
lines_back (l ∷ ls) e = and_both (lacks 10 l) (all_lack ls) e (λ p q.
    ap (split 10) (append_assoc l (10 ∷ []) (concat (end_all ls))) ∙ split_two 10 l (concat (end_all ls)) p ∙ ap (λ z. l ∷ z) (lines_back ls q))

pub line_lacks : (key : String) (fs : List (List ℕ)) → lacks 10 (ascii key) ≡ true → all_plain fs ≡ true → lacks 10 (unended key fs) ≡ true
line_lacks key fs a e = lacks_append 10 (ascii key) (61 ∷ commas fs) a (items_end fs e)

-- ---- a line's key and items

pub value_line_law : (m : Mode) (f : List ℕ) (fs : List (List ℕ)) → all_plain (f ∷ fs) ≡ true → row_of m (unended "value" (f ∷ fs)) ≡ row_headed m VALUE (name_first (f ∷ fs))
unfolding row_of keys
value_line_law m f fs e = λ i. cond (items_show (f ∷ fs) e i && lt-ltb 5 (length (unended "value" (f ∷ fs))) (omega arith) i) (row_headed m VALUE (heading VALUE (items_back f fs e i))) []

pub node_line_law : (m : Mode) (f : List ℕ) (fs : List (List ℕ)) → all_plain (f ∷ fs) ≡ true → row_of m (unended "node" (f ∷ fs)) ≡ row_headed m NODE (name_second (f ∷ fs))
unfolding row_of keys
node_line_law m f fs e = λ i. cond (items_show (f ∷ fs) e i && lt-ltb 4 (length (unended "node" (f ∷ fs))) (omega arith) i) (row_headed m NODE (heading NODE (items_back f fs e i))) []

pub decision_line_law : (ss : List Slot) (f : List ℕ) (fs : List (List ℕ)) → all_plain (f ∷ fs) ≡ true → line_by "decision" ss (unended "decision" (f ∷ fs)) ≡ items_by ss (f ∷ fs)
decision_line_law ss f fs e = ap (items_by ss) (items_back f fs e)

pub why_line_law : (ss : List Slot) (f : List ℕ) (fs : List (List ℕ)) → all_plain (f ∷ fs) ≡ true → line_by "why" ss (unended "why" (f ∷ fs)) ≡ items_by ss (f ∷ fs)
why_line_law ss f fs e = ap (items_by ss) (items_back f fs e)

pub counts_line_law : (ss : List Slot) (f : List ℕ) (fs : List (List ℕ)) → all_plain (f ∷ fs) ≡ true → line_by "counts" ss (unended "counts" (f ∷ fs)) ≡ items_by ss (f ∷ fs)
counts_line_law ss f fs e = ap (items_by ss) (items_back f fs e)

pub policy_line_law : (ss : List Slot) (f : List ℕ) (fs : List (List ℕ)) → all_plain (f ∷ fs) ≡ true → line_by "policy" ss (unended "policy" (f ∷ fs)) ≡ items_by ss (f ∷ fs)
policy_line_law ss f fs e = ap (items_by ss) (items_back f fs e)

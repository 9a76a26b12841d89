-- Values printed from their rows. Assumes nothing.
use mathlib.Core.Path.{◌≡◌, refl, sym, ap, ap₂, ◌∙◌}
use mathlib.Core.List.{List, [], ◌∷◌, ◌++◌, append-nil, append_assoc}
use Prim.Native.Nat.{ℕ, zero, suc, ◌+◌, ◌/◌, ◌≤◌, ◌<◌}
use native.Mathlib.Omega.{arith}
use lib.ListN.{length, get_or, drop}
use Rattle.cedar.specs.Canonical.{bit}
use Rattle.cedar.specs.Rows.{Row}
use Rattle.sheet.specs.Ascii.{ascii}
use Rattle.sheet.specs.Bytes.{digits, signed, long_at, commas}
use Rattle.sheet.specs.Forms.{items}
use Rattle.sheet.specs.State.{entries_of}
use Rattle.sheet.specs.Content.{rows_in}
use Rattle.sheet.specs.Answer.{concat, numbers, entry_items, value_items, value_lines}
use Rattle.table.specs.Layout.{rows_of, MADE}
use Rattle.table.proofs.Rows.{count_rows}
use Rattle.value.specs.Shapes.{shape_of, shape_row}
use Rattle.value.specs.declared.Shape.{Shape}
use Rattle.value.specs.declared.Shape.TheVariants.{Bool as Boolˢ, Long, Text, Entity, Set, Record}
use Rattle.value.proofs.Lists.{uncons, spent}
use Rattle.value.proofs.Shaped.{shape_row_law}
use Rattle.std.specs.Simd.{first_chunks}
use Rattle.print.specs.declared.Out.{Out}
use Rattle.print.specs.Out.{Prints}
use Rattle.print.proofs.Outs.{prints_as, prints_two, prints_three}
use Rattle.listing.specs.Values.{after, value_line, made_lines}
use Rattle.listing.proofs.Printing.{Printing, printing_on, printing_end}

-- ---- items after commas

pub commas_after : (x : List ℕ) (l : List (List ℕ)) → commas (x ∷ l) ≡ x ++ after l
commas_after x [] = sym (append-nil x)
commas_after x (y ∷ l) = ap (λ (m : List ℕ). x ++ (44 ∷ m)) (commas_after y l)

-- ---- a record's pairs

abbrev pub pairs_out : List (List ℕ) → List ℕ
pairs_out [] = []
pairs_out (q ∷ s) = ((44 ∷ digits (get_or q 0 0)) ++ (44 ∷ digits (get_or q 1 0))) ++ pairs_out s

pub pairs_law : (n : ℕ) (l : List ℕ) → n ≡ length l / 2 → pairs_out (first_chunks 2 n l) ≡ after (entry_items (entries_of l))
pairs_law zero [] e = refl
pairs_law (suc n) [] e = absurd (omega arith)
pairs_law zero (t ∷ []) e = refl
pairs_law (suc n) (t ∷ []) e = absurd (omega arith)
pairs_law zero (t ∷ v ∷ l) e = absurd (omega arith)
pairs_law (suc n) (t ∷ v ∷ l) e =
    append_assoc (44 ∷ digits t) (44 ∷ digits v) (pairs_out (first_chunks 2 n l)) ∙ ap (λ (m : List ℕ). (44 ∷ digits t) ++ ((44 ∷ digits v) ++ m)) (pairs_law n l (omega arith))

-- ---- one value

pub items_long : {a b c : Out} (s : Shape) (l : List ℕ) (x : ℕ) → s ≡ Long x → Prints a (44 ∷ []) b → Prints b (signed (long_at x)) c → Prints a (after (drop 1 (value_items (shape_row s l)))) c
items_long s l x e v w = prints_as (prints_two v w) (sym (append-nil (44 ∷ signed (long_at x))) ∙ ap (λ (y : Shape). after (drop 1 (value_items (shape_row y l)))) (sym e))

-- a shape's name
pub shaped : (s x : Shape) (q : List ℕ) → s ≡ x → q ≡ get_or (value_items (shape_row x [])) 0 [] → q ≡ get_or (value_items (shape_row s [])) 0 []
shaped s x q e p = p ∙ ap (λ (y : Shape). get_or (value_items (shape_row y [])) 0 []) (sym e)

-- and the items after it
name_items : (s : Shape) (l : List ℕ) → get_or (value_items (shape_row s [])) 0 [] ++ after (drop 1 (value_items (shape_row s l))) ≡ commas (value_items (shape_row s l))
name_items (Boolˢ b) l = sym (commas_after (ascii "bool") (digits (bit b) ∷ []))
name_items (Long w) l = sym (commas_after (ascii "long") (signed (long_at w) ∷ []))
name_items (Text t) l = sym (commas_after (ascii "text") (digits t ∷ []))
name_items (Entity k t) l = sym (commas_after (ascii "entity") (digits k ∷ digits t ∷ []))
name_items Set l = sym (commas_after (ascii "set") (numbers l))
name_items Record l = sym (commas_after (ascii "record") (entry_items (entries_of l)))

pub said_is : {a b c : Out} (s : Shape) (l q : List ℕ) → q ≡ get_or (value_items (shape_row s [])) 0 [] → Prints a q b → Prints b (after (drop 1 (value_items (shape_row s l)))) c → Prints a (commas (value_items (shape_row s l))) c
said_is s l q e v w = prints_as (prints_two v w) (ap (λ (x : List ℕ). x ++ after (drop 1 (value_items (shape_row s l)))) e ∙ name_items s l)

pub value_line_law : {a b c d : Out} (r l : List ℕ) (s : Shape) → s ≡ shape_of r → l ≡ items r → Prints a (118 ∷ 97 ∷ 108 ∷ 117 ∷ 101 ∷ 61 ∷ []) b → Prints b (commas (value_items (shape_row s l))) c → Prints c (10 ∷ []) d
    → Prints a (value_line r) d
unfolding value_line
value_line_law r l s es el u v w =
    prints_as (prints_three u v w)
    (append_assoc (118 ∷ 97 ∷ 108 ∷ 117 ∷ 101 ∷ 61 ∷ []) (commas (value_items (shape_row s l))) (10 ∷ [])
    ∙ ap (λ (q : Row). (118 ∷ 97 ∷ 108 ∷ 117 ∷ 101 ∷ 61 ∷ []) ++ (commas (value_items q) ++ (10 ∷ []))) (ap₂ shape_row es el ∙ sym (shape_row_law r)))

-- ---- all of them

abbrev pub made_out : List (List ℕ) → List ℕ
made_out rs = concat (value_lines (rows_in rs))

module _ (a : List ℕ) (n : ℕ) (en : n ≡ get_or a MADE 0) where
  many : n ≡ length (rows_of a MADE)
  many = en ∙ sym (count_rows a MADE)

  module _ (i : ℕ) {was is : Out} (p : Printing (made_lines a) (made_out (drop i (rows_of a MADE))) was is) where
    pub made_on : {out : Out} (r : List ℕ) → i < n → r ≡ get_or (rows_of a MADE) i [] → Prints is (value_line r) out → Printing (made_lines a) (made_out (drop (i + 1) (rows_of a MADE))) was out
    unfolding value_line
    made_on r h e w =
        printing_on p (value_line r) (made_out (drop (i + 1) (rows_of a MADE)))
        (ap made_out (uncons (rows_of a MADE) [] i (omega (arith, many))) ∙ ap (λ (q : List ℕ). value_line q ++ made_out (drop (i + 1) (rows_of a MADE))) (sym e)) w

    pub made_end : n ≤ i → Prints was (made_lines a) is
    made_end h = printing_end p (ap made_out (spent (rows_of a MADE) i (omega (arith, many))))

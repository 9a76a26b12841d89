-- What is printed by one call after the other. Assumes nothing.
use Prim.Native.Nat.{ℕ, ◌+◌, ◌-◌, ◌/◌, ◌%◌, ◌≤◌, ◌<◌}
use mathlib.Core.Path.{◌≡◌, refl, ◌∙◌}
use mathlib.Core.List.{List, [], ◌∷◌, ◌++◌}
use lib.ListN.{length, get_or, take}
use Rattle.sheet.specs.Bytes.{long_at, digits, signed}
use Rattle.print.specs.declared.Out.{Out}
use Rattle.print.specs.Out.{Prints}
use Rattle.print.proofs.Writing.{written_none, written_append, written_as, written_next, digits_one, digits_more, signed_negative, signed_positive}

-- nothing printed
pub prints_none : (o : Out) → Prints o [] o
prints_none o = record { same = refl; written = written_none o.buffer.now o.at o.countable.0 o.countable.1 }

-- the same bytes by another name
pub prints_as : {a b : Out} {xs ys : List ℕ} → Prints a xs b → xs ≡ ys → Prints a ys b
prints_as p e = record { same = p.same; written = written_as p.written e }

-- two calls
pub prints_two : {a b c : Out} {xs ys : List ℕ} → Prints a xs b → Prints b ys c → Prints a (xs ++ ys) c
prints_two p q = record { same = q.same ∙ p.same; written = written_append p.written q.written }

-- three, four and five
pub prints_three : {a b c d : Out} {xs ys zs : List ℕ} → Prints a xs b → Prints b ys c → Prints c zs d → Prints a (xs ++ ys ++ zs) d
prints_three p q r = prints_two (prints_two p q) r

pub prints_four : {a b c d e : Out} {xs ys zs us : List ℕ} → Prints a xs b → Prints b ys c → Prints c zs d → Prints d us e → Prints a (xs ++ ys ++ zs ++ us) e
prints_four p q r s = prints_two (prints_three p q r) s

pub prints_five : {a b c d e f : Out} {xs ys zs us vs : List ℕ} → Prints a xs b → Prints b ys c → Prints c zs d → Prints d us e → Prints e vs f → Prints a (xs ++ ys ++ zs ++ us ++ vs) f
prints_five p q r s t = prints_two (prints_four p q r s) t

-- one item more of a list, each printed by a call
pub prints_next : {a b c : Out} → (text : List ℕ) (i : ℕ) → Prints a (take i text) b → i < length text → Prints b (get_or text i 0 ∷ []) c → Prints a (take (i + 1) text) c
prints_next text i p h q = record { same = q.same ∙ p.same; written = written_next text i p.written h q.written }

-- ---- numbers

pub number_one : {a b : Out} (n : ℕ) → n < 10 → Prints a ((48 + n) ∷ []) b → Prints a (digits n) b
number_one n h p = prints_as p (digits_one n h)

pub number_more : {a b c : Out} (n : ℕ) → n < 18446744073709551616 → 10 ≤ n → Prints a (digits (n / 10)) b → Prints b ((48 + n % 10) ∷ []) c → Prints a (digits n) c
number_more n l h p q = prints_as (prints_two p q) (digits_more n h l)

pub long_less : {a b c : Out} (w : ℕ) → w < 9223372036854775808 → Prints a (45 ∷ []) b → Prints b (digits (9223372036854775808 - w)) c → Prints a (signed (long_at w)) c
long_less w h p q = prints_as (prints_two p q) (signed_negative w h)

pub long_more : {a b : Out} (w : ℕ) → 9223372036854775808 ≤ w → Prints a (digits (w - 9223372036854775808)) b → Prints a (signed (long_at w)) b
long_more w h p = prints_as p (signed_positive w h)

-- Items and numbers, by the tests of the code. Assumes nothing.
use Rattle.std.proofs.Common.{◌≡◌, ℕ, ◌+◌, ◌<◌, ◌≤◌, List, length, drop, sym, refl, ap, ◌∙◌, arith, length-drop, le-leb, Some, None}
use mathlib.Core.Option.{Option, none, some}
use borrow.Author.Tests.{lt-leb}
use Rattle.sheet.specs.Bytes.{up_to, index}
use Rattle.scan.specs.declared.Cursor.{Cursor}
use Rattle.scan.specs.Places.{place, item_at, lead, told, index_in, handed, number_at, lead_of, LeadingRead, Leading}
use Rattle.scan.proofs.Splits.{up_to_le, some_pair}

-- ---- the item at a cursor

module _ (s : List ℕ) (c : Cursor) where
  pub item_none : length s < c.at → None ≡ item_at s c
  unfolding item_at
  item_none h = rw (lt-leb c.at (length s) h)

  pub item_part : (e : ℕ) → c.at ≤ length s → e ≡ c.at + up_to 44 (drop c.at s) → Some (e, place c.line (e + 1)) ≡ item_at s c
  unfolding item_at
  item_part e h f = rw (le-leb c.at (length s) h, f)

-- ---- an index before the first comma

told_some : (k : ℕ) (o : Option ℕ) (n m : ℕ) → Some (n, m) ≡ told k o → (o ≡ some n) × (m ≡ k)
told_some k none n m q = let z : ◌≡◌ {A = ℕ} 0 1 = cc in absurd (omega arith)
told_some k (some i) n m q = let p = some_pair q in (ap some (sym p.0), p.1)

pub leading_read : (s : List ℕ) (r : Leading) → r ≡ index_in s → LeadingRead s r
leading_read s r e = record { is = e; index_is = ap lead_of e ∙ by_index (index (lead s)) }
  where
    by_index : (o : Option ℕ) → lead_of (told (up_to 44 s) o) ≡ o
    by_index none = refl
    by_index (some n) = refl

-- ---- the item at a cursor as an index

module _ (s : List ℕ) (c : Cursor) where
  pub number_over : length s < c.at → None ≡ number_at s c
  unfolding number_at
  number_over h = rw (lt-leb c.at (length s) h)

  module _ (h : c.at ≤ length s) (q : List ℕ) (p : q ≡ drop c.at s) (d : Leading) (f : LeadingRead q d) where
    number_is : number_at s c ≡ handed c d
    unfolding number_at
    number_is = rw (le-leb c.at (length s) h) (ap (handed c) (ap index_in (sym p) ∙ sym f.is))

    pub number_other : d ≡ None → None ≡ number_at s c
    number_other v = sym (number_is ∙ ap (handed c) v)

    module _ (n k : ℕ) (v : d ≡ Some (n, k)) where
      pub number_value : Some (n, place c.line (c.at + k + 1)) ≡ number_at s c
      number_value = sym (number_is ∙ ap (handed c) v)

      -- its digits stand within the bytes
      pub number_room : c.at + k ≤ length s
      number_room = omega (arith, (told_some (up_to 44 q) (index (lead q)) n k (sym v ∙ f.is)).1, up_to_le 44 q, ap length p, length-drop c.at s)

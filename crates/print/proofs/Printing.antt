-- A run of printing that has come so far. Assumes nothing.
use mathlib.Core.Path.{◌≡◌, sym, ap, ◌∙◌}
use mathlib.Core.List.{List, [], ◌++◌, append-nil, append_assoc}
use Prim.Native.Nat.{ℕ, ◌≤◌}
use lib.ListN.{length}
use Rattle.print.specs.Written.{Written}
use Rattle.print.proofs.Writing.{written_none, written_append, written_as}

-- what was written, and what is left to write
pub record Printing (whole left was : List ℕ) (at : ℕ) (is : List ℕ) (next : ℕ) : Type 0 where
  pub done : List ℕ
  pub written : Written was at done is next
  pub joins : whole ≡ done ++ left

pub printing_start : (whole left was : List ℕ) (at : ℕ) → whole ≡ left → at ≤ 18446744073709551615 → length was ≤ 18446744073709551615 → Printing whole left was at was at
printing_start whole left was at e h l = record { done = []; written = written_none was at h l; joins = e }

pub printing_on : {whole left was is : List ℕ} {at next : ℕ} → Printing whole left was at is next → (xs rest out : List ℕ) (then : ℕ) → left ≡ xs ++ rest → Written is next xs out then
    → Printing whole rest was at out then
printing_on {whole} {left} {was} {is} {at} {next} p xs rest out then e w =
    record {
      done = p.done ++ xs;
      written = written_append p.written w;
      joins = p.joins ∙ ap (λ (l : List ℕ). p.done ++ l) e ∙ sym (append_assoc p.done xs rest);
    }

pub printing_end : {whole left was is : List ℕ} {at next : ℕ} → Printing whole left was at is next → left ≡ [] → Written was at whole is next
printing_end {whole} {left} {was} {is} {at} {next} p e =
    written_as p.written (sym (p.joins ∙ ap (λ (l : List ℕ). p.done ++ l) e ∙ append-nil p.done))

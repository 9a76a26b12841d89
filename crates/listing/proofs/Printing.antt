-- A run of printing that has come so far. Assumes nothing.
use mathlib.Core.Path.{◌≡◌, sym, ap, ◌∙◌}
use mathlib.Core.List.{List, [], ◌∷◌, ◌++◌, append-nil, append_assoc}
use Prim.Native.Nat.{ℕ, ◌+◌, ◌≤◌, ◌<◌}
use lib.ListN.{length, get_or, drop}
use Rattle.value.proofs.Lists.{uncons, spent}
use Rattle.print.specs.declared.Out.{Out}
use Rattle.print.specs.Out.{Prints}
use Rattle.print.proofs.Outs.{prints_none, prints_as, prints_two}

-- what was printed, and what is left to print
pub record Printing (whole left : List ℕ) (was is : Out) : Type 0 where
  pub done : List ℕ
  pub prints : Prints was done is
  pub joins : whole ≡ done ++ left

pub printing_start : (whole left : List ℕ) (o : Out) → whole ≡ left → Printing whole left o o
printing_start whole left o e = record { done = []; prints = prints_none o; joins = e }

pub printing_on : {whole left : List ℕ} {a b c : Out} → Printing whole left a b → (xs rest : List ℕ) → left ≡ xs ++ rest → Prints b xs c → Printing whole rest a c
printing_on {whole} {left} p xs rest e w =
    record {
      done = p.done ++ xs;
      prints = prints_two p.prints w;
      joins = p.joins ∙ ap (λ (l : List ℕ). p.done ++ l) e ∙ sym (append_assoc p.done xs rest);
    }

pub printing_end : {whole left : List ℕ} {a b : Out} → Printing whole left a b → left ≡ [] → Prints a whole b
printing_end p e = prints_as p.prints (sym (p.joins ∙ ap (λ (l : List ℕ). p.done ++ l) e ∙ append-nil p.done))

-- a list whose items are printed one after the other, each as g says
module _ {A : Type 0} (F : List A → List ℕ) (l : List A) {a b : Out} (i : ℕ) (p : Printing (F l) (F (drop i l)) a b) where
  pub each_on : (g : A → List ℕ) → ((x : A) (m : List A) → F (x ∷ m) ≡ g x ++ F m) → (d : A) → i < length l → {c : Out} → Prints b (g (get_or l i d)) c → Printing (F l) (F (drop (i + 1) l)) a c
  each_on g h d k w = printing_on p (g (get_or l i d)) (F (drop (i + 1) l)) (ap F (uncons l d i k) ∙ h (get_or l i d) (drop (i + 1) l)) w

  pub each_end : F [] ≡ [] → length l ≤ i → Prints a (F l) b
  each_end h k = printing_end p (ap F (spent l i k) ∙ h)

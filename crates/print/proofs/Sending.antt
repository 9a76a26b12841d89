-- An answer counted without room, then printed where the buffer has room for it. Assumes nothing.
use mathlib.Core.Path.{◌≡◌, refl, ap, subst}
use mathlib.Core.List.{List, [], ◌++◌}
use Prim.Native.Nat.{ℕ, ◌≤◌, ◌<◌}
use native.Mathlib.Omega.{arith}
use borrow.Author.Tests.{lt-ltb, le-ltb}
use lib.ListN.{length}
use Rattle.sheet.specs.Call.{Returned, returns, fitted}
use Rattle.print.specs.Written.{greatest, Written}
use Rattle.print.proofs.Writing.{written_over, written_counted}
use Rattle.print.specs.Sent.{Gives, Sends}

-- what is to be returned by another name
pub gives_as : {r s : Returned} {bytes out out' : List ℕ} {number line len : ℕ} → r ≡ s → Gives r bytes out number line len out' → Gives s bytes out number line len out'
gives_as {bytes = bytes} {out = out} {out' = out'} {number = number} {line = line} {len = len} e g = subst (λ (r : Returned). Gives r bytes out number line len out') e g

-- an answer of the same bytes
pub sends_as : {bytes bytes' out out' : List ℕ} {number len : ℕ} → bytes ≡ bytes' → Sends bytes out number len out' → Sends bytes' out number len out'
sends_as {out = out} {out' = out'} {number = number} {len = len} e s = subst (λ (l : List ℕ). Sends l out number len out') e s

-- counted in a part without room, w, which comes back in front of the buffer
module _ (bytes out w : List ℕ) (n : ℕ) (p : Written [] 0 bytes w n) (l : length bytes ≤ greatest) where
  pub send_short : length (w ++ out) < n → Sends bytes out 10 n (w ++ out)
  send_short h =
      let (e, k) = written_counted [] bytes w n p refl l in
      let f : w ++ out ≡ out = ap (λ (x : List ℕ). x ++ out) e in
      let g : length out < length bytes = omega (arith, h, k, ap length f) in
      let r : returns 10 0 (length bytes) ≡ fitted (length out) (length bytes) = rw (lt-ltb (length out) (length bytes) g) in
      gives_as r (record { number_is = refl; line_is = refl; length_is = k; buffer = f })

  pub send_whole : (v : List ℕ) (k : ℕ) → n ≤ length (w ++ out) → Written (w ++ out) 0 bytes v k → Sends bytes out 0 n v
  send_whole v k h q =
      let (e, i) = written_counted [] bytes w n p refl l in
      let f : w ++ out ≡ out = ap (λ (x : List ℕ). x ++ out) e in
      let g : length bytes ≤ length out = omega (arith, h, i, ap length f) in
      let r : returns 0 0 (length bytes) ≡ fitted (length out) (length bytes) = rw (le-ltb (length out) (length bytes) g) in
      let (o, j) = written_over out bytes v k (subst (λ (x : List ℕ). Written x 0 bytes v k) f q) g in
      gives_as r (record { number_is = refl; line_is = refl; length_is = i; buffer = o })

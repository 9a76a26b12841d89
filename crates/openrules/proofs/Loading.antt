-- What the program shows for a test load, from what its call promises. Assumes nothing.
use mathlib.Core.Path.{◌≡◌, ap, sym, ◌∙◌, subst}
use mathlib.Core.List.{List}
use Prim.Native.Nat.{ℕ, ◌≤◌, ◌<◌, min}
use native.Mathlib.Omega.{arith}
use native.Mathlib.Decide.{dec_le}
use borrow.Author.Tests.{lt-ltb, le-ltb}
use lib.ListN.{length}
use Rattle.sheet.specs.Call.{Returned, outputs}
use Rattle.print.specs.Written.{Written}
use Rattle.drawn.specs.TestLoad.{load, load_returned, load_written}
use Rattle.testload.specs.Loaded.{Loaded}
use Rattle.testload.proofs.Accepted.{zero_says}
use Rattle.wording.specs.Worded.{refusal}
use Rattle.openrules.specs.Shown.{space, load_back, shown_load, Shows}
use Rattle.openrules.proofs.Showing.{shows_text, shows_line}

-- ---- more policies than a call can be asked for

many : (seed n : ℕ) → 64 < n → shown_load seed n ≡ refusal 13 0 0
unfolding shown_load load_returned
many seed n h = rw (le-ltb n 1 (omega (arith, h)), lt-ltb 64 n h)

asked : (seed policies n : ℕ) → n ≡ min policies 4294967295 → shown_load seed n ≡ shown_load seed policies
asked seed policies n e = go (dec_le policies 4294967295)
  where
    go : Dec (policies ≤ 4294967295) → shown_load seed n ≡ shown_load seed policies
    go (yes h) = ap (shown_load seed) (omega (arith, e, h))
    go (no h) = many seed n (omega (arith, e, h)) ∙ sym (many seed policies (omega (arith, h)))

-- ---- what is shown

module _ (seed policies n : ℕ) (out out' : List ℕ) (number line len : ℕ) (e : n ≡ min policies 4294967295) (lo : length out ≡ space) (x : Loaded seed n out number line len out') where
  here : load_returned seed n (length out) ≡ load_back seed n
  here = ap (load_returned seed n) lo

  went : out' ≡ outputs (load_back seed n).number (load seed n) out
  unfolding load_written
  went = x.buffer ∙ ap (λ (r : Returned). outputs r.number (load seed n) out) here

  pub load_answer : number ≡ 0 → Shows (shown_load seed policies) out' len
  unfolding shown_load
  load_answer h =
      subst (λ (t : List ℕ). Shows t out' len) (asked seed policies n e)
      (shows_text (load_back seed n) (load seed n) out out' number line len lo (x.number_is ∙ ap (λ (r : Returned). r.number) here) (x.line_is ∙ ap (λ (r : Returned). r.line) here)
      (x.length_is ∙ ap (λ (r : Returned). r.length) here) went (λ z. (zero_says seed n space z).1) h)

  pub load_refusal : (number ≡ 0 → ⊥) → (is : List ℕ) (next : ℕ) → Written out' 0 (refusal number line len) is next → Shows (shown_load seed policies) is next
  unfolding shown_load
  load_refusal h is next w =
      subst (λ (t : List ℕ). Shows t is next) (asked seed policies n e)
      (shows_line (load_back seed n) (load seed n) out out' number line len lo (x.number_is ∙ ap (λ (r : Returned). r.number) here) (x.line_is ∙ ap (λ (r : Returned). r.line) here)
      (x.length_is ∙ ap (λ (r : Returned). r.length) here) went (λ z. (zero_says seed n space z).1) h is next w)

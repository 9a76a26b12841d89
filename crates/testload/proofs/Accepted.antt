-- What a call leaves with number 0 is a sheet that is accepted. Assumes nothing.
use Rattle.std.proofs.Common.{◌≡◌, ℕ, ◌≤◌, Bool, true, false, cond, ◌||◌, ltb, List, length, take, drop, sym, refl, ap, ◌∙◌, subst, ap₂, arith, take_at, ltb-false}
use Rattle.sheet.specs.Forms.{partial}
use Rattle.sheet.specs.Call.{Accepted, returns, outputs}
use Rattle.drawn.specs.TestLoad.{load, load_returned, load_written}
use Rattle.drawn.proofs.Accepted.{load_accepts}
use Rattle.testload.specs.Loaded.{Loaded}

-- number 0: so many policies, and the sheet's length
pub zero_says : (seed n out : ℕ) → (load_returned seed n out).number ≡ 0 → (n ≤ 64) × ((load_returned seed n out).length ≡ length (load seed n))
unfolding load_returned
zero_says seed n out e = go (ltb n 1) (ltb 64 n) (ltb out (length (load seed n))) refl e
  where
    go : (a b c : Bool) → ltb 64 n ≡ b → (cond (a || b) (returns 13 0 0) (cond c (returns 10 0 (length (load seed n))) (returns 0 0 (length (load seed n))))).number ≡ 0
        → (n ≤ 64) × ((cond (a || b) (returns 13 0 0) (cond c (returns 10 0 (length (load seed n))) (returns 0 0 (length (load seed n))))).length ≡ length (load seed n))
    go true b c q e = absurd (omega arith)
    go false true c q e = absurd (omega arith)
    go false false true q e = absurd (omega arith)
    go false false false q e = (ltb-false 64 n q, refl)

-- THE SHEET IN THE BUFFER IS ACCEPTED
pub loaded_accepted : (seed n : ℕ) (out : List ℕ) (line len : ℕ) (out' : List ℕ) → Loaded seed n out 0 line len out' → Accepted partial (take len out')
unfolding load_written
loaded_accepted seed n out line len out' l =
    let z : (load_returned seed n (length out)).number ≡ 0 = sym l.number_is in
    let (few, long) = zero_says seed n (length out) z in
    let b : out' ≡ outputs 0 (load seed n) out = l.buffer ∙ ap (λ k. outputs k (load seed n) out) z in
    let t : take len out' ≡ load seed n = ap₂ take (l.length_is ∙ long) b ∙ take_at (load seed n) (drop (length (load seed n)) out) (length (load seed n)) refl in
    subst (Accepted partial) (sym t) (load_accepts seed n few)

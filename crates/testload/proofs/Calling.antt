-- The whole sheet, and the call that sends it. Assumes nothing.
use Rattle.std.proofs.Common.{◌≡◌, ℕ, ◌<◌, ◌≤◌, List, ◌++◌, length, sym, ap, ◌∙◌, append_assoc, arith, le-ltb, lt-ltb}
use Rattle.sheet.specs.Answer.{concat}
use Rattle.sheet.specs.Call.{Returned, fitted, outputs}
use Rattle.print.specs.declared.Out.{Out}
use Rattle.print.specs.Out.{Prints}
use Rattle.print.specs.Sent.{Sends}
use Rattle.print.proofs.Outs.{prints_as, prints_five}
use Rattle.drawn.specs.TestLoad.{drawn, head_texts, head_rest, id_lines, nodes_from, policies_from, load, load_returned, load_written}
use Rattle.drawn.proofs.Lengths.{drawn_many, load_short}
use Rattle.testload.specs.Loaded.{Loaded}

regroup : (h i r n p : List ℕ) → (((h ++ i) ++ r) ++ n) ++ p ≡ h ++ (i ++ (r ++ (n ++ p)))
regroup h i r n p = simp append_assoc

sheet_bytes : (seed n : ℕ) → (((head_texts ++ concat (id_lines 0 n)) ++ head_rest) ++ concat (nodes_from 0 (drawn seed n))) ++ concat (policies_from 0 0 (drawn seed n)) ≡ load seed n
unfolding load
sheet_bytes seed n = regroup head_texts (concat (id_lines 0 n)) head_rest (concat (nodes_from 0 (drawn seed n))) (concat (policies_from 0 0 (drawn seed n)))
    ∙ ap (λ k. head_texts ++ (concat (id_lines 0 k) ++ (head_rest ++ (concat (nodes_from 0 (drawn seed n)) ++ concat (policies_from 0 0 (drawn seed n)))))) (sym (drawn_many seed n))

pub whole_sheet : {o a b c d is : Out} (seed n : ℕ) → Prints o head_texts a → Prints a (concat (id_lines 0 n)) b → Prints b head_rest c
    → Prints c (concat (nodes_from 0 (drawn seed n))) d → Prints d (concat (policies_from 0 0 (drawn seed n))) is → Prints o (load seed n) is
whole_sheet seed n s t u v w = prints_as (prints_five s t u v w) (sheet_bytes seed n)

-- ---- the call

pub counted : (seed n : ℕ) → n ≤ 64 → length (load seed n) ≤ 18446744073709551615
counted seed n h = let l = load_short seed n h in omega arith

module _ (seed n : ℕ) (out : List ℕ) where
  pub load_none : n < 1 → Loaded seed n out 13 0 0 out
  unfolding load_returned load_written
  load_none h = let e = lt-ltb n 1 h in record { number_is = rw e; line_is = rw e; length_is = rw e; buffer = rw e }

  pub load_many : 64 < n → Loaded seed n out 13 0 0 out
  unfolding load_returned load_written
  load_many h =
      let z : 1 ≤ n = omega arith in
      let e = le-ltb n 1 z in
      let f = lt-ltb 64 n h in
      record { number_is = rw (e, f); line_is = rw (e, f); length_is = rw (e, f); buffer = rw (e, f) }

  sent : 1 ≤ n → n ≤ 64 → load_returned seed n (length out) ≡ fitted (length out) (length (load seed n))
  unfolding load_returned
  sent h g = rw (le-ltb n 1 h, le-ltb 64 n g)

  pub load_sent : (number len : ℕ) (out' : List ℕ) → 1 ≤ n → n ≤ 64 → Sends (load seed n) out number len out' → Loaded seed n out number 0 len out'
  unfolding load_written
  load_sent number len out' h g s =
      let e = sym (sent h g) in
      let q = s.number_is ∙ ap (λ (r : Returned). r.number) e in
      record {
        number_is = q;
        line_is = s.line_is ∙ ap (λ (r : Returned). r.line) e;
        length_is = s.length_is ∙ ap (λ (r : Returned). r.length) e;
        buffer = s.buffer ∙ ap (λ k. outputs k (load seed n) out) q;
      }

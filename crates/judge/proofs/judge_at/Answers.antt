-- `judge::judge_at` meets its contract. Assumes nothing.
use mathlib.Core.Path.{◌≡◌, sym, ap, subst, ◌∙◌}
use mathlib.Core.List.{List}
use Prim.Native.Nat.{ℕ}
use native.Mathlib.Omega.{arith}
use Rattle.sheet.specs.Forms.{key_of, NODE}
use Rattle.seen.proofs.SeenLaws.{see_other}
use Rattle.faults.specs.Numbers.{fault_number}
use Rattle.judge.specs.Verdicts.{Judged, key_in, depth_in, seen_at}
use Rattle.judge.proofs.Alike.{unlike_line}
use Rattle.judge.proofs.Judging.{key_of_row}
use Rattle.judge.proofs.judge_at.Goals as goal

pub judge_node-requires : goal.judge_node-requires
judge_node-requires c = let s = c in
    let r = c.cut-line in
    let t = c.tag in
    let k = c.key_of-key in
    let e : k.result ≡ key_of r.result.now = key_of_row r.result.now t.result k.result t.ensures k.ensures in
    record { line_value = (sym e ∙ c.if-key-eq-NODE.true, s.requires.rows_len.0, s.requires.rows_len.1, s.requires.rows_len.2); known = (s.requires.known.0, s.requires.known.1) }

pub returns-then-key-eq-NODE : goal.returns-then-key-eq-NODE
returns-then-key-eq-NODE c = let z = c.args in
    let r = c.cut-line in
    let t = c.tag in
    let k = c.key_of-key in
    let j = c.judge_node in
    let e : k.result ≡ key_of r.result.now = key_of_row r.result.now t.result k.result t.ensures k.ensures in
    let n : NODE ≡ key_of r.result.now = sym c.if-key-eq-NODE.true ∙ e in record {
      verdict = subst (λ (x : List ℕ). Judged z.sheet.now z.rows.now z.work.now x j.new.work (fault_number j.result) (key_in j.result) (depth_in j.result)) r.ensures j.ensures;
      seen = (see_other z.sheet.now r.result.now z.seen.now NODE n (λ q. absurd (omega arith)) (λ q. absurd (omega arith)) (λ q. absurd (omega arith))).1 ∙ ap (seen_at z.sheet.now z.seen.now) r.ensures;
    }

pub see_line-new-requires : goal.see_line-new-requires
see_line-new-requires c = let r = c.cut-line in
    let t = c.tag in
    let k = c.key_of-key in
    key_of_row r.result.now t.result k.result t.ensures k.ensures

pub judge-requires : goal.judge-requires
judge-requires c = let s = c in
    let z = s.args in
    let r = c.cut-line in
    let t = c.tag in
    let k = c.key_of-key in
    let n = c.see_line-new in record {
      key_value = (key_of_row r.result.now t.result k.result t.ensures k.ensures, c.if-key-eq-NODE.false, s.requires.rows_len.0, s.requires.rows_len.1, s.requires.rows_len.2);
      known = (s.requires.known.0, s.requires.known.1, unlike_line z.sheet.now z.rows.now z.work.now r.result.now z.seen.now n.result s.requires.known.2 n.ensures.new);
    }

pub returns : goal.returns
returns c = let z = c.args in
    let r = c.cut-line in
    let n = c.see_line-new in
    let j = c.judge in record {
      verdict = subst (λ (x : List ℕ). Judged z.sheet.now z.rows.now z.work.now x j.new.work (fault_number j.result) (key_in j.result) (depth_in j.result)) r.ensures j.ensures;
      seen = n.ensures.with ∙ ap (seen_at z.sheet.now z.seen.now) r.ensures;
    }

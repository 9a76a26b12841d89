-- `take::take_line` meets its contract. Assumes nothing.
use Rattle.std.proofs.Common.{Some, None}
use mathlib.Core.Path.{◌≡◌, refl, sym, ◌∙◌}
use Prim.Native.Nat.{◌+◌, ◌-◌}
use native.Mathlib.Omega.{arith}
use lib.ListN.{take}
use lib.Seq.{length-take-le, length_front}
use Rattle.words.specs.Log.{part, room}
use Rattle.sheet.specs.Forms.{row_of_value}
use Rattle.line.specs.Codes.{mode_of}
use Rattle.line.proofs.LawsLine.{value_long, entered_line}
use Rattle.faults.specs.Numbers.{number_at}
use Rattle.faults.proofs.Numbering.{number_some}
use Rattle.std.proofs.lemmas.Result.{err_from_is_err_and}
use Rattle.take.proofs.Front.{fronts, taken_back}
use Rattle.take.proofs.Taking.{judge_needs, line_malformed, line_refused, commit_room, line_added, line_seen}
use Rattle.take.proofs.take_line.Goals as goal

pub slice_bounds-rows-end-2 : goal.slice_bounds-rows-end-2
slice_bounds-rows-end-2 c = sym (length-take-le room c.args.rows.now c.requires.0.sound.long)

pub slice_bounds-work-end-2 : goal.slice_bounds-work-end-2
slice_bounds-work-end-2 c = sym (length-take-le room c.args.work.now c.requires.0.long)

pub row_entry-requires : goal.row_entry-requires
row_entry-requires c = let e = c.args in
    let v = c.value-value in
    let long = value_long e.sheet.now v.result.now e.equals.at e.end v.ensures c.requires.2 c.requires.3 in
    let g = fronts e.sheet.now e.rows.now e.work.now (e.end + 4 - e.equals.at) c.requires.0 c.requires.5 (mode_of e.partial) c.requires.1 in
    omega (arith, long, g.ready.sound.long, g.fits, c.read-top.ensures)

pub shape_of-rows-in_err-n : goal.shape_of-rows-in_err-n
shape_of-rows-in_err-n c = let r = c.row_entry in
    length_front c.args.rows.now r.new.rows room r.auto.rows

pub shape_of-work-in_err-n : goal.shape_of-work-in_err-n
shape_of-work-in_err-n c = length_front c.args.work.now (take room c.args.work.now) room refl

pub returns-in_err-n : goal.returns-in_err-n
returns-in_err-n c = let e = c.args in
    let row = row_of_value (mode_of e.partial) e.key (part e.sheet.now (e.equals.at + 1) e.end) in
    let bytes = e.end + 4 - e.equals.at in
    let a = take room e.rows.now in
    let g = fronts e.sheet.now e.rows.now e.work.now bytes c.requires.0 c.requires.5 (mode_of e.partial) c.requires.1 in
    let n : c.row_entry.result ≡ None = grind arith in
    let w = rw n at c.row_entry.ensures in
    let l = entered_line e.sheet.now c.value-value.result.now e.equals.at e.end c.value-value.ensures c.requires.2 c.requires.3 e.partial e.key c.read-top.result 0 a c.row_entry.new.rows w in
    let p = err_from_is_err_and c.from_residual.result c.from_residual.ensures.1 in
    let q : number_at c.in_err-n.field-0.0 ≡ 3 = grind arith in
    rw (p.1, p.2, q) (record {
      line = taken_back e.sheet.now e.rows.now e.work.now bytes c.requires.0 c.requires.5 row c.row_entry.new.rows (take room e.work.now) 3 c.row_entry.auto.rows refl
          (line_malformed e.sheet.now row a (take room e.work.now) bytes (mode_of e.partial) g.ready g.reached g.fits
          c.read-top.result c.read-top.ensures c.row_entry.new.rows 0 l c.row_entry.auto.rows refl);
      seen = tt;
    })

pub overflow_add-next : goal.overflow_add-next
overflow_add-next c = let e = c.args in
    let a = take room e.rows.now in
    let s : c.row_entry.result ≡ Some c.in_ok-n.n = grind arith in
    let put = rw s at c.row_entry.ensures in
    let l = entered_line e.sheet.now c.value-value.result.now e.equals.at e.end c.value-value.ensures c.requires.2 c.requires.3 e.partial e.key c.read-top.result c.in_ok-n.n a c.row_entry.new.rows put.0 in
    omega (arith, l.tight, c.requires.3, c.requires.4)

pub judge_at-requires : goal.judge_at-requires
judge_at-requires c = let e = c.args in
    let row = row_of_value (mode_of e.partial) e.key (part e.sheet.now (e.equals.at + 1) e.end) in
    let bytes = e.end + 4 - e.equals.at in
    let a = take room e.rows.now in
    let g = fronts e.sheet.now e.rows.now e.work.now bytes c.requires.0 c.requires.5 (mode_of e.partial) c.requires.1 in
    let s : c.row_entry.result ≡ Some c.in_ok-n.n = grind arith in
    let put = rw s at c.row_entry.ensures in
    let l = entered_line e.sheet.now c.value-value.result.now e.equals.at e.end c.value-value.ensures c.requires.2 c.requires.3 e.partial e.key c.read-top.result c.in_ok-n.n a c.row_entry.new.rows put.0 in
    let q = judge_needs e.sheet.now row a (take room e.work.now) bytes (mode_of e.partial) g.ready g.reached g.fits
    c.read-top.result c.read-top.ensures c.row_entry.new.rows c.in_ok-n.n l c.row_entry.auto.rows g.long_a g.long_b e.seen.now (g.seen e.seen.now c.requires.6) e.last (g.order e.last c.requires.7) in
    record { rows_len = q.0; known = q.1 }

pub shape_of-rows-in_err-v : goal.shape_of-rows-in_err-v
shape_of-rows-in_err-v c = let r = c.row_entry in
    length_front c.args.rows.now r.new.rows room r.auto.rows

pub shape_of-work-in_err-v : goal.shape_of-work-in_err-v
shape_of-work-in_err-v c = let j = c.judge_at in
    length_front c.args.work.now j.new.work room j.auto.work

pub returns-in_err-v : goal.returns-in_err-v
returns-in_err-v c = let e = c.args in
    let row = row_of_value (mode_of e.partial) e.key (part e.sheet.now (e.equals.at + 1) e.end) in
    let bytes = e.end + 4 - e.equals.at in
    let a = take room e.rows.now in
    let g = fronts e.sheet.now e.rows.now e.work.now bytes c.requires.0 c.requires.5 (mode_of e.partial) c.requires.1 in
    let s : c.row_entry.result ≡ Some c.in_ok-n.n = grind arith in
    let put = rw s at c.row_entry.ensures in
    let l = entered_line e.sheet.now c.value-value.result.now e.equals.at e.end c.value-value.ensures c.requires.2 c.requires.3 e.partial e.key c.read-top.result c.in_ok-n.n a c.row_entry.new.rows put.0 in
    let f = c.in_err-v.field-0.0 in
    let p = err_from_is_err_and c.from_residual-in_err-v.result c.from_residual-in_err-v.ensures.1 in
    rw (p.1, p.2) (record {
      line = taken_back e.sheet.now e.rows.now e.work.now bytes c.requires.0 c.requires.5 row c.row_entry.new.rows c.judge_at.new.work (number_at f) c.row_entry.auto.rows c.judge_at.auto.work
          (line_refused e.sheet.now row a (take room e.work.now) bytes (mode_of e.partial) g.ready g.reached g.fits
          c.read-top.result c.read-top.ensures c.row_entry.new.rows c.in_ok-n.n l c.row_entry.auto.rows
          (λ z. absurd (omega (arith, put.1, z))) (c.read-top.result + c.in_ok-n.n) refl c.judge_at.new.work (number_at f) 0 0 c.in_err-v.ensures.verdict c.judge_at.auto.work (number_some f));
      seen = tt;
    })

pub overflow_cast-next : goal.overflow_cast-next
overflow_cast-next c = let e = c.args in
    let bytes = e.end + 4 - e.equals.at in
    let a = take room e.rows.now in
    let g = fronts e.sheet.now e.rows.now e.work.now bytes c.requires.0 c.requires.5 (mode_of e.partial) c.requires.1 in
    let s : c.row_entry.result ≡ Some c.in_ok-n.n = grind arith in
    let put = rw s at c.row_entry.ensures in
    let l = entered_line e.sheet.now c.value-value.result.now e.equals.at e.end c.value-value.ensures c.requires.2 c.requires.3 e.partial e.key c.read-top.result c.in_ok-n.n a c.row_entry.new.rows put.0 in
    omega (arith, l.tight, c.requires.3, c.requires.4, g.fits, c.read-top.ensures)

pub commit-requires : goal.commit-requires
commit-requires c = let e = c.args in
    let row = row_of_value (mode_of e.partial) e.key (part e.sheet.now (e.equals.at + 1) e.end) in
    let bytes = e.end + 4 - e.equals.at in
    let a = take room e.rows.now in
    let g = fronts e.sheet.now e.rows.now e.work.now bytes c.requires.0 c.requires.5 (mode_of e.partial) c.requires.1 in
    let s : c.row_entry.result ≡ Some c.in_ok-n.n = grind arith in
    let put = rw s at c.row_entry.ensures in
    let l = entered_line e.sheet.now c.value-value.result.now e.equals.at e.end c.value-value.ensures c.requires.2 c.requires.3 e.partial e.key c.read-top.result c.in_ok-n.n a c.row_entry.new.rows put.0 in
    let v = c.in_ok-v.v in
    commit_room e.sheet.now row a (take room e.work.now) bytes (mode_of e.partial) g.ready g.reached g.fits
    c.read-top.result c.read-top.ensures c.row_entry.new.rows c.in_ok-n.n l c.row_entry.auto.rows
    (λ z. absurd (omega (arith, put.1, z))) (c.read-top.result + c.in_ok-n.n) refl c.judge_at.new.work 0 v.key v.depth c.in_ok-v.ensures.verdict c.judge_at.auto.work refl

pub shape_of-rows : goal.shape_of-rows
shape_of-rows c = let r = c.row_entry in
    let w = c.commit in
    length_front c.args.rows.now w.new.rows room (w.auto.rows ∙ r.auto.rows)

pub shape_of-work : goal.shape_of-work
shape_of-work c = let j = c.judge_at in
    let w = c.commit in
    length_front c.args.work.now w.new.work room (w.auto.work ∙ j.auto.work)

pub returns : goal.returns
returns c = let e = c.args in
    let row = row_of_value (mode_of e.partial) e.key (part e.sheet.now (e.equals.at + 1) e.end) in
    let bytes = e.end + 4 - e.equals.at in
    let a = take room e.rows.now in
    let g = fronts e.sheet.now e.rows.now e.work.now bytes c.requires.0 c.requires.5 (mode_of e.partial) c.requires.1 in
    let s : c.row_entry.result ≡ Some c.in_ok-n.n = grind arith in
    let put = rw s at c.row_entry.ensures in
    let l = entered_line e.sheet.now c.value-value.result.now e.equals.at e.end c.value-value.ensures c.requires.2 c.requires.3 e.partial e.key c.read-top.result c.in_ok-n.n a c.row_entry.new.rows put.0 in
    let v = c.in_ok-v.v in
    let w = c.commit in record {
      line = taken_back e.sheet.now e.rows.now e.work.now bytes c.requires.0 c.requires.5 row w.new.rows w.new.work 0 (w.auto.rows ∙ c.row_entry.auto.rows) (w.auto.work ∙ c.judge_at.auto.work)
          (line_added e.sheet.now row a (take room e.work.now) bytes (mode_of e.partial) g.ready g.reached g.fits
          c.read-top.result c.read-top.ensures c.row_entry.new.rows c.in_ok-n.n l c.row_entry.auto.rows
          (λ z. absurd (omega (arith, put.1, z))) (c.read-top.result + c.in_ok-n.n) refl c.judge_at.new.work 0 v.key v.depth c.in_ok-v.ensures.verdict c.judge_at.auto.work refl
          w.new.rows w.new.work w.ensures.row w.ensures.depths w.auto.work);
      seen = line_seen e.sheet.now row a (take room e.work.now) bytes (mode_of e.partial) g.ready g.reached g.fits
          c.read-top.result c.read-top.ensures c.row_entry.new.rows c.in_ok-n.n l c.row_entry.auto.rows
          (λ z. absurd (omega (arith, put.1, z))) (c.read-top.result + c.in_ok-n.n) refl e.seen.now c.judge_at.new.seen c.judge_at.ensures.seen;
    }

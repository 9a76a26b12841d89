-- `load::load` meets its contract. Assumes nothing.
use Rattle.std.proofs.Common.{◌≡◌, refl, sym, ◌∙◌}
use native.Mathlib.Omega.{arith}
use Rattle.load.proofs.Loading.{none_seen, none_before, progress_first, from_entry, finish_needs, line_unfits, all_read, line_faulty, line_fits, line_falls, line_stops, line_joins, line_orders, line_goes}
use borrow.Author.Rules.{rules}
use Rattle.std.proofs.lemmas.Result.{err_from_is_err_and, MatchResult-at_err}
use Rattle.faults.specs.Numbers.{number_at}
use Rattle.faults.proofs.Numbering.{number_some, fault_none, fault_some, on_ok}
use Rattle.load.proofs.load.Goals as goal

pub lines-init : goal.lines-init
lines-init c = (
  progress_first _ _ c.args.rows.now c.args.work.now _ _ _ _ c.new-c.result c.new-c.ensures.0 c.new-c.ensures.1 c.requires.1 c.requires.2 c.zero.ensures c.zero-2.ensures c.put.ensures c.put-2.ensures,
  none_seen _ c.args.rows.now c.args.work.now _ _ _ _ c.requires.1 c.requires.2 c.zero.ensures c.zero-2.ensures c.put.ensures c.put-2.ensures _ (search rules),
  search rules,
  none_before _ c.args.rows.now c.args.work.now _ _ _ _ c.requires.1 c.requires.2 c.zero.ensures c.zero-2.ensures c.put.ensures c.put-2.ensures _ refl,
)

pub slice_bounds-take_line-end : goal.slice_bounds-take_line-end
slice_bounds-take_line-end c = c.lines.invariant.2

pub returns-in-Some : goal.returns-in-Some
returns-in-Some c =
    from_entry _ _ _ _ _ _ _ _ _ _ _ _ c.requires.1 c.requires.2 c.zero.ensures c.zero-2.ensures c.put.ensures c.put-2.ensures
    (line_unfits _ _ _ _ _ _ c.lines.c c.lines.invariant.0 c.in-Some.unfit c.in-Some.ensures)

pub take_line-requires : goal.take_line-requires
take_line-requires c =
    let v = c.in-Entry in
    line_fits _ _ _ _ _ _ c.lines.c c.lines.invariant.0 c.in_default.ensures c.next_line.result c.next_line.ensures v.key v.equals v.end v.next v.is c.requires.0 c.lines.seen c.lines.invariant.1 c.lines.last c.lines.invariant.3

pub returns-in_err-map_err-in-Entry : goal.returns-in_err-map_err-in-Entry
returns-in_err-map_err-in-Entry c =
    let v = c.in-Entry in
    let h = c.in_err-map_err-in-Entry in
    let g = fault_some c.take_line.result h.ensures.variant in
    let w : h.field-0.0 ≡ record { fault = g.0; line = c.lines.c.line } =
    let q = MatchResult-at_err _ _ g.0 g.1 h.ensures.cases in search (rules, q) in
    let p = err_from_is_err_and c.from_residual.result c.from_residual.ensures.1 in
    rw (p.1, p.2, w)
    (from_entry _ _ _ _ _ _ _ _ _ _ _ _ c.requires.1 c.requires.2 c.zero.ensures c.zero-2.ensures c.put.ensures c.put-2.ensures
    (line_stops _ _ _ _ _ _ c.lines.c c.lines.invariant.0 c.in_default.ensures c.next_line.result c.next_line.ensures v.key v.equals v.end v.next v.is
    c.take_line.new.rows c.take_line.new.work (number_at g.0) (rw g.1 at c.take_line.ensures.line) (number_some g.0)))

pub lines-smaller : goal.lines-smaller
lines-smaller c =
    let v = c.in-Entry in
    line_falls _ _ _ _ _ _ c.lines.c c.lines.invariant.0 c.in_default.ensures c.next_line.result c.next_line.ensures v.key v.equals v.end v.next v.is

pub lines-preserved : goal.lines-preserved
lines-preserved c =
    let v = c.in-Entry in
    let t = c.take_line in
    let z = sym (fault_none t.result c.in_ok-map_err-in-Entry.ensures.variant) in (
      line_goes _ _ _ _ _ _ c.lines.c c.lines.invariant.0 c.in_default.ensures c.next_line.result c.next_line.ensures v.key v.equals v.end v.next v.is
          t.new.rows t.new.work _ t.ensures.line z c.requires.0 (omega (arith, t.auto.rows)) (omega (arith, t.auto.work)),
      line_joins _ _ _ _ _ _ c.lines.c c.lines.invariant.0 c.in_default.ensures c.next_line.result c.next_line.ensures v.key v.equals v.end v.next v.is
          t.new.rows t.new.work _ t.ensures.line z c.lines.seen t.new.seen c.lines.invariant.1 (on_ok t.result c.in_ok-map_err-in-Entry.ensures.variant t.ensures.seen),
      c.lines.invariant.2 ∙ sym t.auto.seen,
      line_orders _ _ _ _ _ _ c.lines.c c.lines.invariant.0 c.in_default.ensures c.next_line.result c.next_line.ensures v.key v.equals v.end v.next v.is
          t.new.rows t.new.work _ t.ensures.line z _ refl,
    )

pub returns-in-Faulty : goal.returns-in-Faulty
returns-in-Faulty c =
    from_entry _ _ _ _ _ _ _ _ _ _ _ _ c.requires.1 c.requires.2 c.zero.ensures c.zero-2.ensures c.put.ensures c.put-2.ensures
    (line_faulty _ _ _ _ _ _ c.lines.c c.lines.invariant.0 c.in_default.ensures c.next_line.result c.next_line.ensures c.in-Faulty.is)

pub returns-in-End : goal.returns-in-End
returns-in-End c =
    from_entry _ _ _ _ _ _ _ _ _ _ _ _ c.requires.1 c.requires.2 c.zero.ensures c.zero-2.ensures c.put.ensures c.put-2.ensures
    (all_read _ _ _ _ _ _ c.lines.c c.lines.invariant.0 c.in_default.ensures c.next_line.result c.next_line.ensures c.in-End.is _ _ c.finish.ensures.number c.finish.ensures.line)

pub finish-requires : goal.finish-requires
finish-requires c = finish_needs _ _ _ _ _ _ c.lines.c c.lines.invariant.0

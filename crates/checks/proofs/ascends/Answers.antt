-- `checks::ascends` meets its contract. Assumes nothing.
use Rattle.std.proofs.Common.{arith, ap, List, ℕ, ◌<◌, length, get_or, rules}
use Rattle.sheet.specs.Forms.{items}
use Rattle.checks.proofs.FoundLaws.{rises_node, rises_flat, rising_start, rising_off, rising_on, rising_end}
use Rattle.checks.proofs.ascends.Goals as goal

pub returns-then-t-lt-SET_OF : goal.returns-then-t-lt-SET_OF
returns-then-t-lt-SET_OF c = search (rises_node, rules)

pub returns-then-form-eq-FLAT : goal.returns-then-form-eq-FLAT
returns-then-form-eq-FLAT c = search (rises_flat, rules)

pub nonzero_div-j-step : goal.nonzero_div-j-step
nonzero_div-j-step c = let h = rising_start c.args.line.now _ _ c.tag-t.ensures c.form_of-form.ensures c.if-form-eq-FLAT.false in omega (arith, h.step)

pub loop-j-init : goal.loop-j-init
loop-j-init c = search (rising_start, rules)

pub returns-then-x-least : goal.returns-then-x-least
returns-then-x-least c =
    let e = c.items-items.ensures in
    let j = c.loop-j.j in
    let h : j < length (items c.args.line.now) = omega (arith, ap length e) in
    rising_off _ _ _ _ c.loop-j.invariant _ h (ap (λ (l : List ℕ). get_or l j 0) e) c.if-x-least.true

pub loop-j-smaller : goal.loop-j-smaller
loop-j-smaller c = omega (arith, c.loop-j.invariant.step)

pub loop-j-preserved : goal.loop-j-preserved
loop-j-preserved c =
    let e = c.items-items.ensures in
    let j = c.loop-j.j in
    let h : j < length (items c.args.line.now) = omega (arith, ap length e) in
    rising_on _ _ _ _ c.loop-j.invariant _ h (ap (λ (l : List ℕ). get_or l j 0) e) c.if-x-least.false

pub returns-else-form-eq-FLAT : goal.returns-else-form-eq-FLAT
returns-else-form-eq-FLAT c = rising_end _ _ _ _ c.loop-j.invariant (omega (arith, ap length c.items-items.ensures))

-- no item is left where the group is longer than the rest
pub returns-else-x-least : goal.returns-else-x-least
returns-else-x-least c =
    let e = c.items-items.ensures in
    let j = c.loop-j.j in
    let h : j < length (items c.args.line.now) = omega (arith, ap length e) in
    rising_end _ _ _ _ (rising_on _ _ _ _ c.loop-j.invariant _ h (ap (λ (l : List ℕ). get_or l j 0) e) c.if-x-least.false) (omega (arith, ap length e))

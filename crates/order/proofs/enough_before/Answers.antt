-- `order::enough_before` meets its contract. Assumes nothing.
use mathlib.Core.Logic.{inl, inr}
use mathlib.Core.Path.{refl}
use native.Mathlib.Omega.{arith}
use Rattle.order.proofs.OrderLaws.{none_missing, one_missing, shape_missing, day_decides}
use Rattle.sheet.specs.Forms.{SHEET, PRINCIPAL, ACTION, RESOURCE, CONTEXT}
use Rattle.order.proofs.enough_before.Goals as goal

pub returns-then-count-eq0 : goal.returns-then-count-eq0
returns-then-count-eq0 c = let s = c in one_missing s.args.rows.now s.args.key s.requires SHEET c.count.result (inl refl) (omega arith) c.count.ensures c.if-count-eq0.true

pub returns-then-key-le-SHAPE : goal.returns-then-key-le-SHAPE
returns-then-key-le-SHAPE c = let s = c in none_missing s.args.rows.now s.args.key s.requires (λ h. omega arith) (λ h. omega arith) (λ h. omega arith) (λ h. omega arith) (λ h. omega arith) (λ h. omega arith) (λ h. omega arith)

pub returns-then-count : goal.returns-then-count
returns-then-count c = let s = c in shape_missing s.args.rows.now s.args.key s.requires c.count-2.result c.count-3.result (omega arith) c.count-2.ensures c.count-3.ensures c.if-count.true

pub returns-then-key-le-PRINCIPAL : goal.returns-then-key-le-PRINCIPAL
returns-then-key-le-PRINCIPAL c = let s = c in none_missing s.args.rows.now s.args.key s.requires (λ h. omega arith) (λ h. omega arith) (λ h. omega arith) (λ h. omega arith) (λ h. omega arith) (λ h. omega arith) (λ h. omega arith)

pub returns-then-count-eq0-2 : goal.returns-then-count-eq0-2
returns-then-count-eq0-2 c = let s = c in one_missing s.args.rows.now s.args.key s.requires PRINCIPAL c.count-4.result (inr (omega arith, omega arith)) (omega arith) c.count-4.ensures c.if-count-eq0-2.true

pub returns-then-key-le-ACTION : goal.returns-then-key-le-ACTION
returns-then-key-le-ACTION c = let s = c in none_missing s.args.rows.now s.args.key s.requires (λ h. omega arith) (λ h. omega arith) (λ h. omega arith) (λ h. omega arith) (λ h. omega arith) (λ h. omega arith) (λ h. omega arith)

pub returns-then-count-eq0-3 : goal.returns-then-count-eq0-3
returns-then-count-eq0-3 c = let s = c in one_missing s.args.rows.now s.args.key s.requires ACTION c.count-5.result (inr (omega arith, omega arith)) (omega arith) c.count-5.ensures c.if-count-eq0-3.true

pub returns-then-key-le-RESOURCE : goal.returns-then-key-le-RESOURCE
returns-then-key-le-RESOURCE c = let s = c in none_missing s.args.rows.now s.args.key s.requires (λ h. omega arith) (λ h. omega arith) (λ h. omega arith) (λ h. omega arith) (λ h. omega arith) (λ h. omega arith) (λ h. omega arith)

pub returns-then-count-eq0-4 : goal.returns-then-count-eq0-4
returns-then-count-eq0-4 c = let s = c in one_missing s.args.rows.now s.args.key s.requires RESOURCE c.count-6.result (inr (omega arith, omega arith)) (omega arith) c.count-6.ensures c.if-count-eq0-4.true

pub returns-then-key-le-CONTEXT : goal.returns-then-key-le-CONTEXT
returns-then-key-le-CONTEXT c = let s = c in none_missing s.args.rows.now s.args.key s.requires (λ h. omega arith) (λ h. omega arith) (λ h. omega arith) (λ h. omega arith) (λ h. omega arith) (λ h. omega arith) (λ h. omega arith)

pub returns-then-count-eq0-5 : goal.returns-then-count-eq0-5
returns-then-count-eq0-5 c = let s = c in one_missing s.args.rows.now s.args.key s.requires CONTEXT c.count-7.result (inr (omega arith, omega arith)) (omega arith) c.count-7.ensures c.if-count-eq0-5.true

pub returns-then-key-le-DAY : goal.returns-then-key-le-DAY
returns-then-key-le-DAY c = let s = c in none_missing s.args.rows.now s.args.key s.requires (λ h. omega arith) (λ h. omega arith) (λ h. omega arith) (λ h. omega arith) (λ h. omega arith) (λ h. omega arith) (λ h. omega arith)

pub returns : goal.returns
returns c = let s = c in
    day_decides s.args.rows.now s.args.key s.requires c.count-8.result (omega arith) c.count-8.ensures (omega arith) (omega arith) (omega arith) (omega arith) (omega arith) (omega arith)

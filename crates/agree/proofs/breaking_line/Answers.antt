-- `agree::breaking_line` meets its contract. Assumes nothing.
use Prim.Native.Nat.{◌≤◌}
use native.Mathlib.Omega.{arith}
use Rattle.agree.proofs.Keys.{pass_start, pass_break, pass_on, pass_lacks, pass_agree}
use borrow.Author.Rules.{rules}
use Rattle.agree.proofs.breaking_line.Goals as goal

pub loop-key-init : goal.loop-key-init
loop-key-init c = search (pass_start, rules)

pub returns-then-n-ne0 : goal.returns-then-n-ne0
returns-then-n-ne0 c = let h : 1 ≤ c.key_break-n.result = omega arith in search (pass_break, rules)

pub loop-key-preserved : goal.loop-key-preserved
loop-key-preserved c = search (pass_on, rules)

pub returns-then-lacks : goal.returns-then-lacks
returns-then-lacks c = search (pass_lacks, rules)

pub returns : goal.returns
returns c = search (pass_agree, rules)

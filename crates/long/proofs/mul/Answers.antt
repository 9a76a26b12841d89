-- `long::mul` meets its contract. Assumes nothing.
use mathlib.Core.Path.{refl}
use Rattle.long.specs.Ranged.{opposite}
use native.Mathlib.Omega.{arith}
use Prim.Native.Nat.{◌*◌, ◌≤◌}
use Rattle.long.proofs.Longs.{product_low, product_high, product_fits, product_opposed, product_alike}
use Rattle.long.proofs.ProductWords.{product_out, product_inside}
use borrow.Author.Rules.{rules}
use Rattle.long.proofs.mul.Goals as goal

pub returns-then-product_outside : goal.returns-then-product_outside
returns-then-product_outside c = search (product_out, rules)

pub overflow_mul-size : goal.overflow_mul-size
overflow_mul-size c = let l : c.size.result * c.size-2.result ≤ 9223372036854775808 = product_fits c.args.a c.args.b c.size.result c.size-2.result c.size.ensures c.size-2.ensures (opposite c.args.a c.args.b) refl (search (product_inside, rules)) in omega (arith, l)

pub overflow_sub-result : goal.overflow_sub-result
overflow_sub-result c = search (product_low, product_inside, rules)

pub returns-then-opposed : goal.returns-then-opposed
returns-then-opposed c = search (product_opposed, product_inside, rules)

pub overflow_add-result : goal.overflow_add-result
overflow_add-result c = let l : c.size.result * c.size-2.result ≤ 9223372036854775807 = search (product_high, product_inside, rules) in omega (arith, l)

pub returns : goal.returns
returns c = search (product_alike, product_inside, rules)

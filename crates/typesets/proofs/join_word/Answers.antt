-- `join_word`: what is left of the word is asked.
use native.Mathlib.Omega.{arith}
use lib.Count.{count_trailing_zeros, trailing_le}
use Prim.Native.Nat.{◌-◌, ◌*◌, ◌%◌, ◌^◌}
use mathlib.Core.Path.{refl}
use Rattle.typesets.proofs.SlotLaws.{low_in, low_one, low_room, low_less, word_start, word_on, word_end}
use borrow.Author.Rules.{rules}
use Rattle.typesets.proofs.join_word.Goals as goal

pub loop-x-init : goal.loop-x-init
loop-x-init c = (search word_start, search rules, search rules)

pub overflow_cast-y : goal.overflow_cast-y
overflow_cast-y c = let m = trailing_le 32 c.loop-x.x in record { fits = omega (arith, m) }

pub overflow_add-y : goal.overflow_add-y
overflow_add-y c = let m = trailing_le 32 c.loop-x.x in let p = c.requires.2 in record { fits = omega (arith, m, p) }

pub overflow_mul-y : goal.overflow_mul-y
overflow_mul-y c = let m = trailing_le 32 c.loop-x.x in let p = c.requires.2 in record { fits = omega (arith, m, p) }

pub overflow_mul-y-in-loop-x : goal.overflow_mul-y-in-loop-x
overflow_mul-y-in-loop-x c = let m = trailing_le 32 c.loop-x.x in let p = c.requires.2 in record { fits = omega (arith, m, p) }

pub overflow_add-y-in-loop-x : goal.overflow_add-y-in-loop-x
overflow_add-y-in-loop-x c = let m = trailing_le 32 c.loop-x.x in let p = c.requires.2 in record { fits = omega (arith, m, p) }

pub overflow_shl-x : goal.overflow_shl-x
overflow_shl-x c = low_in c.loop-x.x c.loop-x-test.true c.loop-x.invariant.2

pub overflow_sub-x : goal.overflow_sub-x
overflow_sub-x c = low_room c.loop-x.x c.loop-x-test.true c.loop-x.invariant.2

pub loop-x-smaller : goal.loop-x-smaller
loop-x-smaller c = low_less c.loop-x.x c.loop-x-test.true c.loop-x.invariant.2

pub loop-x-preserved : goal.loop-x-preserved
loop-x-preserved c = let l = low_in c.loop-x.x c.loop-x-test.true c.loop-x.invariant.2 in let z = c in let p = z.requires.2 in let q = z.requires.0 in let b = c.loop-x.invariant.2 in (word_on z.args.images.now z.args.first z.args.word c.loop-x.own c.loop-x.x c.loop-x.invariant.0 (count_trailing_zeros 32 c.loop-x.x) refl c.loop-x-test.true b ((1 * 2 ^ count_trailing_zeros 32 c.loop-x.x) % 4294967296) (c.loop-x.x - ((1 * 2 ^ count_trailing_zeros 32 c.loop-x.x) % 4294967296)) c.cut.result.now c.join.new.words l (low_one c.loop-x.x c.loop-x-test.true c.loop-x.invariant.2) refl c.cut.ensures c.join.ensures c.loop-x.invariant.1 (omega (arith, l, p, q)), c.own-in-loop-x-1.given, omega (arith, b))

pub returns : goal.returns
returns c = search word_end

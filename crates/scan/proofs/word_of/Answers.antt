-- `scan::word_of` meets its contract. Assumes nothing.
use Rattle.std.proofs.Common.{refl, arith}
use Rattle.scan.proofs.Packing.{packed_join, word_read, word_none}
use Rattle.scan.proofs.word_of.Goals as goal

pub returns-in-2 : goal.returns-in-2
returns-in-2 c = word_read c.args.bytes.now 2 c.two.result c.in-2.is c.two.ensures refl _ refl

pub returns-in-3 : goal.returns-in-3
returns-in-3 c = word_read c.args.bytes.now 3 c.three.result c.in-3.is c.three.ensures refl _ refl

pub returns-in-4 : goal.returns-in-4
returns-in-4 c = word_read c.args.bytes.now 4 c.four.result c.in-4.is c.four.ensures refl _ refl

pub returns-in-5 : goal.returns-in-5
returns-in-5 c = let s = c.args.bytes.now in let a = c.four-in-5 in let b = c.one in word_read s 5 _ c.in-5.is (packed_join s 0 4 1 a.result b.result (omega arith) a.ensures b.ensures) refl _ refl

pub returns-in-6 : goal.returns-in-6
returns-in-6 c = let s = c.args.bytes.now in let a = c.four-in-6 in let b = c.two-in-6 in word_read s 6 _ c.in-6.is (packed_join s 0 4 2 a.result b.result (omega arith) a.ensures b.ensures) refl _ refl

pub returns-in-7 : goal.returns-in-7
returns-in-7 c = let s = c.args.bytes.now in let a = c.four-in-7 in let b = c.three-in-7 in word_read s 7 _ c.in-7.is (packed_join s 0 4 3 a.result b.result (omega arith) a.ensures b.ensures) refl _ refl

pub returns-in_default : goal.returns-in_default
returns-in_default c = let r = c.in_default.in_default-own.rest in word_none c.args.bytes.now r.0.0.0.0.0.1 r.0.0.0.0.1 r.0.0.0.1 r.0.0.1 r.0.1 r.1

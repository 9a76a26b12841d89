-- Test loads by computation. The texts are those of an executable reading of the document.
use mathlib.Core.Path.{◌≡◌, refl}
use mathlib.Core.List.{List, [], ◌∷◌, ◌++◌}
use Prim.Native.Nat.{ℕ}
use Prim.Native.String.{String}
use native.Mathlib.Omega.{arith}
use lib.ListN.{replicate}
use Rattle.sheet.specs.Ascii.{ascii}
use Rattle.sheet.specs.Forms.{partial}
use Rattle.sheet.specs.Call.{returns, Accepted}
use Rattle.drawn.specs.TestLoad.{drawn, line_ends, head_texts, head_rest, load, load_returned, load_written}
use Rattle.drawn.proofs.Accepted.{load_accepts}

abbrev bytes : String → List ℕ
bytes s = line_ends (ascii s)

-- ---- sheets

first_load : load 0 1 ≡ bytes "sheet=partial/text=Client/text=Action/text=Tariff/text=quote/text=name/text=p0/kind=0,e/kind=1,a/kind=2,e/type=bool/type=string/type=record/type=record,4,r,1/shape=2,-/shape=2,-/shape=2,-/value=bool,0/value=bool,1/principal=0,?/action=1,3/resource=2,?/context=3,?/day=2000-01-01/node=3,var,c/node=1,get,0,4/node=0,like,1,*/policy=5,forbid,2/"
unfolding load head_texts head_rest
first_load = refl

-- the three trees and both effects
three_trees : load 13487958864562975641 3 ≡ bytes "sheet=partial/text=Client/text=Action/text=Tariff/text=quote/text=name/text=p0/text=p1/text=p2/kind=0,e/kind=1,a/kind=2,e/type=bool/type=string/type=record/type=record,4,r,1/shape=2,-/shape=2,-/shape=2,-/value=bool,0/value=bool,1/principal=0,?/action=1,3/resource=2,?/context=3,?/day=2000-01-01/node=0,lit,0/node=0,lit,1/node=3,var,c/node=1,get,2,4/node=0,like,3,*/policy=5,forbid,0/policy=6,permit,1/policy=7,forbid,4/"
unfolding load head_texts head_rest
three_trees = refl

all_draws : load 12345678901234567890 6 ≡ bytes "sheet=partial/text=Client/text=Action/text=Tariff/text=quote/text=name/text=p0/text=p1/text=p2/text=p3/text=p4/text=p5/kind=0,e/kind=1,a/kind=2,e/type=bool/type=string/type=record/type=record,4,r,1/shape=2,-/shape=2,-/shape=2,-/value=bool,0/value=bool,1/principal=0,?/action=1,3/resource=2,?/context=3,?/day=2000-01-01/node=0,lit,1/node=3,var,c/node=1,get,1,4/node=0,like,2,*/node=3,var,c/node=1,get,4,4/node=0,like,5,*/node=3,var,c/node=1,get,7,4/node=0,like,8,*/node=3,var,c/node=1,get,10,4/node=0,like,11,*/node=0,lit,0/policy=5,permit,0/policy=6,forbid,3/policy=7,permit,6/policy=8,forbid,9/policy=9,permit,12/policy=10,forbid,13/"
unfolding load head_texts head_rest
all_draws = refl

last_seed : load 18446744073709551615 5 ≡ bytes "sheet=partial/text=Client/text=Action/text=Tariff/text=quote/text=name/text=p0/text=p1/text=p2/text=p3/text=p4/kind=0,e/kind=1,a/kind=2,e/type=bool/type=string/type=record/type=record,4,r,1/shape=2,-/shape=2,-/shape=2,-/value=bool,0/value=bool,1/principal=0,?/action=1,3/resource=2,?/context=3,?/day=2000-01-01/node=3,var,c/node=1,get,0,4/node=0,like,1,*/node=3,var,c/node=1,get,3,4/node=0,like,4,*/node=3,var,c/node=1,get,6,4/node=0,like,7,*/node=3,var,c/node=1,get,9,4/node=0,like,10,*/node=0,lit,0/policy=5,forbid,2/policy=6,permit,5/policy=7,forbid,8/policy=8,permit,11/policy=9,forbid,12/"
unfolding load head_texts head_rest
last_seed = refl

-- only the upper 32 bits of a state decide a draw: near seeds may name the same sheet
near_seeds : load 1 64 ≡ load 0 64
unfolding load head_texts head_rest
near_seeds = refl

near_across : load 18446744073709551615 64 ≡ load 0 64
unfolding load head_texts head_rest
near_across = refl

-- yet each of the numbers counts: the first sums of these two seeds, past 18446744073709551616, are 4294967295 and 4294967296
sum_below : drawn 7046029258681320426 2 ≡ record { effect = 0; tree = 1 } ∷ record { effect = 1; tree = 1 } ∷ []
sum_below = refl

sum_at : drawn 7046029258681320427 2 ≡ record { effect = 1; tree = 1 } ∷ record { effect = 1; tree = 1 } ∷ []
sum_at = refl

-- ---- what is returned

one_policy : load_returned 0 1 341 ≡ returns 0 0 341
unfolding load load_returned head_texts head_rest
one_policy = refl

most_policies : load_returned 7 64 100000 ≡ returns 0 0 3668
unfolding load load_returned head_texts head_rest
most_policies = refl

no_policy : load_returned 7 0 100000 ≡ returns 13 0 0
unfolding load_returned
no_policy = refl

-- before 10
one_too_many : load_returned 7 65 0 ≡ returns 13 0 0
unfolding load_returned
one_too_many = refl

one_byte_short : load_returned 0 1 340 ≡ returns 10 0 341
unfolding load load_returned head_texts head_rest
one_byte_short = refl

-- ---- what is written

rest_stays : load_written 0 1 (replicate 344 33) ≡ load 0 1 ++ replicate 3 33
unfolding load load_returned load_written head_texts head_rest
rest_stays = refl

too_short_stays : load_written 0 1 (replicate 340 33) ≡ replicate 340 33
unfolding load load_returned load_written head_texts head_rest
too_short_stays = refl

refused_stays : load_written 0 65 (replicate 10000 33) ≡ replicate 10000 33
unfolding load_returned load_written
refused_stays = refl

-- ---- the hypothesis of the theorems is met

most_accepted : Accepted partial (load 18446744073709551615 64)
most_accepted = load_accepts 18446744073709551615 64 (omega arith)

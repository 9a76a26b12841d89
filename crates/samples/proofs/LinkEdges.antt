-- Links and terms at their edges, by computation: 64 lines of each and a 65th, an order that is not ascending, a repeat.
use mathlib.Core.Path.{◌≡◌, refl}
use mathlib.Core.List.{List, ◌++◌}
use Prim.Native.Nat.{ℕ}
use Rattle.sheet.specs.Forms.{keys, forms, form_of, slot_at, counted, tag_of, row_of, key_of, refs, ascendings}
use Rattle.sheet.specs.Parents.{ancestors, unknown_above}
use Rattle.sheet.specs.Typing.{fits_in, nodes_under, typed}
use Rattle.sheet.specs.Sheet.{found, depth, fault, more, read}
use Rattle.sheet.specs.Content.{types, value_rows, contents, schema, trees, exprs, on_term, n_policies, policies, n_env, env}
use Rattle.sheet.specs.Answer.{run, results, answer}
use Rattle.sheet.specs.Call.{returned}
use Rattle.cedar.specs.Canonical.{order, same, place, insert, ascending, make_set}
use Rattle.sheet.proofs.answer.Shown.{bytes, shown}

-- up to the nodes: a rule with a slot
head : List ℕ
head = bytes "sheet=partial/text=E/text=A/text=p0/text=p1/text=p2/text=p3/text=p4/text=p5/text=p6/text=p7/text=p8/text=p9/text=p10/text=p11/text=p12/text=p13/text=p14/text=p15/text=p16/text=p17/text=p18/text=p19/text=p20/text=p21/text=p22/text=p23/text=p24/text=p25/text=p26/text=p27/text=p28/text=p29/text=p30/text=p31/text=p32/text=p33/text=p34/text=p35/text=p36/text=p37/text=p38/text=p39/text=p40/text=p41/text=p42/text=p43/text=p44/text=p45/text=p46/text=p47/text=p48/text=p49/text=p50/text=p51/text=p52/text=p53/text=p54/text=p55/text=p56/text=p57/text=p58/text=p59/text=p60/text=p61/text=p62/text=p63/kind=0,e/kind=1,a/type=bool/type=record/type=entity,0/shape=1,-,0/shape=1,-/value=bool,1/value=entity,0,0/principal=0,?/action=1,0/resource=0,?/context=1,?/day=2000-01-01/node=2,slot,p/node=0,is,0,0/"

-- two policies
two : List ℕ
two = bytes "policy=2,permit,1/policy=3,permit,1/"

-- 64 policies over the one root
all : List ℕ
all = bytes "policy=2,permit,1/policy=3,permit,1/policy=4,permit,1/policy=5,permit,1/policy=6,permit,1/policy=7,permit,1/policy=8,permit,1/policy=9,permit,1/policy=10,permit,1/policy=11,permit,1/policy=12,permit,1/policy=13,permit,1/policy=14,permit,1/policy=15,permit,1/policy=16,permit,1/policy=17,permit,1/policy=18,permit,1/policy=19,permit,1/policy=20,permit,1/policy=21,permit,1/policy=22,permit,1/policy=23,permit,1/policy=24,permit,1/policy=25,permit,1/policy=26,permit,1/policy=27,permit,1/policy=28,permit,1/policy=29,permit,1/policy=30,permit,1/policy=31,permit,1/policy=32,permit,1/policy=33,permit,1/policy=34,permit,1/policy=35,permit,1/policy=36,permit,1/policy=37,permit,1/policy=38,permit,1/policy=39,permit,1/policy=40,permit,1/policy=41,permit,1/policy=42,permit,1/policy=43,permit,1/policy=44,permit,1/policy=45,permit,1/policy=46,permit,1/policy=47,permit,1/policy=48,permit,1/policy=49,permit,1/policy=50,permit,1/policy=51,permit,1/policy=52,permit,1/policy=53,permit,1/policy=54,permit,1/policy=55,permit,1/policy=56,permit,1/policy=57,permit,1/policy=58,permit,1/policy=59,permit,1/policy=60,permit,1/policy=61,permit,1/policy=62,permit,1/policy=63,permit,1/policy=64,permit,1/policy=65,permit,1/"

-- a link for each
links : List ℕ
links = bytes "link=0,1,-/link=1,1,-/link=2,1,-/link=3,1,-/link=4,1,-/link=5,1,-/link=6,1,-/link=7,1,-/link=8,1,-/link=9,1,-/link=10,1,-/link=11,1,-/link=12,1,-/link=13,1,-/link=14,1,-/link=15,1,-/link=16,1,-/link=17,1,-/link=18,1,-/link=19,1,-/link=20,1,-/link=21,1,-/link=22,1,-/link=23,1,-/link=24,1,-/link=25,1,-/link=26,1,-/link=27,1,-/link=28,1,-/link=29,1,-/link=30,1,-/link=31,1,-/link=32,1,-/link=33,1,-/link=34,1,-/link=35,1,-/link=36,1,-/link=37,1,-/link=38,1,-/link=39,1,-/link=40,1,-/link=41,1,-/link=42,1,-/link=43,1,-/link=44,1,-/link=45,1,-/link=46,1,-/link=47,1,-/link=48,1,-/link=49,1,-/link=50,1,-/link=51,1,-/link=52,1,-/link=53,1,-/link=54,1,-/link=55,1,-/link=56,1,-/link=57,1,-/link=58,1,-/link=59,1,-/link=60,1,-/link=61,1,-/link=62,1,-/link=63,1,-/"

-- a term for each, of one day
terms : List ℕ
terms = bytes "term=0,2000-01-01,2000-01-01/term=1,2000-01-01,2000-01-01/term=2,2000-01-01,2000-01-01/term=3,2000-01-01,2000-01-01/term=4,2000-01-01,2000-01-01/term=5,2000-01-01,2000-01-01/term=6,2000-01-01,2000-01-01/term=7,2000-01-01,2000-01-01/term=8,2000-01-01,2000-01-01/term=9,2000-01-01,2000-01-01/term=10,2000-01-01,2000-01-01/term=11,2000-01-01,2000-01-01/term=12,2000-01-01,2000-01-01/term=13,2000-01-01,2000-01-01/term=14,2000-01-01,2000-01-01/term=15,2000-01-01,2000-01-01/term=16,2000-01-01,2000-01-01/term=17,2000-01-01,2000-01-01/term=18,2000-01-01,2000-01-01/term=19,2000-01-01,2000-01-01/term=20,2000-01-01,2000-01-01/term=21,2000-01-01,2000-01-01/term=22,2000-01-01,2000-01-01/term=23,2000-01-01,2000-01-01/term=24,2000-01-01,2000-01-01/term=25,2000-01-01,2000-01-01/term=26,2000-01-01,2000-01-01/term=27,2000-01-01,2000-01-01/term=28,2000-01-01,2000-01-01/term=29,2000-01-01,2000-01-01/term=30,2000-01-01,2000-01-01/term=31,2000-01-01,2000-01-01/term=32,2000-01-01,2000-01-01/term=33,2000-01-01,2000-01-01/term=34,2000-01-01,2000-01-01/term=35,2000-01-01,2000-01-01/term=36,2000-01-01,2000-01-01/term=37,2000-01-01,2000-01-01/term=38,2000-01-01,2000-01-01/term=39,2000-01-01,2000-01-01/term=40,2000-01-01,2000-01-01/term=41,2000-01-01,2000-01-01/term=42,2000-01-01,2000-01-01/term=43,2000-01-01,2000-01-01/term=44,2000-01-01,2000-01-01/term=45,2000-01-01,2000-01-01/term=46,2000-01-01,2000-01-01/term=47,2000-01-01,2000-01-01/term=48,2000-01-01,2000-01-01/term=49,2000-01-01,2000-01-01/term=50,2000-01-01,2000-01-01/term=51,2000-01-01,2000-01-01/term=52,2000-01-01,2000-01-01/term=53,2000-01-01,2000-01-01/term=54,2000-01-01,2000-01-01/term=55,2000-01-01,2000-01-01/term=56,2000-01-01,2000-01-01/term=57,2000-01-01,2000-01-01/term=58,2000-01-01,2000-01-01/term=59,2000-01-01,2000-01-01/term=60,2000-01-01,2000-01-01/term=61,2000-01-01,2000-01-01/term=62,2000-01-01,2000-01-01/term=63,2000-01-01,2000-01-01/"

-- "ascending"
links_descend : shown (head ++ two ++ bytes "link=1,1,-/link=0,1,-/") ≡ bytes "refused=5,87,0/"
unfolding head two shown keys forms form_of slot_at counted tag_of row_of key_of refs ascendings fits_in nodes_under typed found depth fault more read types value_rows contents schema trees exprs on_term n_policies policies n_env env run results answer returned ancestors unknown_above order same place insert ascending make_set
links_descend = refl

-- "at most one each"
links_repeat : shown (head ++ two ++ bytes "link=0,1,-/link=0,1,-/") ≡ bytes "refused=5,87,0/"
unfolding head two shown keys forms form_of slot_at counted tag_of row_of key_of refs ascendings fits_in nodes_under typed found depth fault more read types value_rows contents schema trees exprs on_term n_policies policies n_env env run results answer returned ancestors unknown_above order same place insert ascending make_set
links_repeat = refl

-- "Up to 64 lines"
links_most : shown (head ++ all ++ links) ≡ bytes "decision=allow/counts=64,0,0,0,0,0,0,0/why=2/node=0,lit,0/node=0,lit,0/node=0,lit,0/node=0,lit,0/node=0,lit,0/node=0,lit,0/node=0,lit,0/node=0,lit,0/node=0,lit,0/node=0,lit,0/node=0,lit,0/node=0,lit,0/node=0,lit,0/node=0,lit,0/node=0,lit,0/node=0,lit,0/node=0,lit,0/node=0,lit,0/node=0,lit,0/node=0,lit,0/node=0,lit,0/node=0,lit,0/node=0,lit,0/node=0,lit,0/node=0,lit,0/node=0,lit,0/node=0,lit,0/node=0,lit,0/node=0,lit,0/node=0,lit,0/node=0,lit,0/node=0,lit,0/node=0,lit,0/node=0,lit,0/node=0,lit,0/node=0,lit,0/node=0,lit,0/node=0,lit,0/node=0,lit,0/node=0,lit,0/node=0,lit,0/node=0,lit,0/node=0,lit,0/node=0,lit,0/node=0,lit,0/node=0,lit,0/node=0,lit,0/node=0,lit,0/node=0,lit,0/node=0,lit,0/node=0,lit,0/node=0,lit,0/node=0,lit,0/node=0,lit,0/node=0,lit,0/node=0,lit,0/node=0,lit,0/node=0,lit,0/node=0,lit,0/node=0,lit,0/node=0,lit,0/node=0,lit,0/node=0,lit,0/node=0,lit,0/policy=2,permit,true,0/policy=3,permit,true,1/policy=4,permit,true,2/policy=5,permit,true,3/policy=6,permit,true,4/policy=7,permit,true,5/policy=8,permit,true,6/policy=9,permit,true,7/policy=10,permit,true,8/policy=11,permit,true,9/policy=12,permit,true,10/policy=13,permit,true,11/policy=14,permit,true,12/policy=15,permit,true,13/policy=16,permit,true,14/policy=17,permit,true,15/policy=18,permit,true,16/policy=19,permit,true,17/policy=20,permit,true,18/policy=21,permit,true,19/policy=22,permit,true,20/policy=23,permit,true,21/policy=24,permit,true,22/policy=25,permit,true,23/policy=26,permit,true,24/policy=27,permit,true,25/policy=28,permit,true,26/policy=29,permit,true,27/policy=30,permit,true,28/policy=31,permit,true,29/policy=32,permit,true,30/policy=33,permit,true,31/policy=34,permit,true,32/policy=35,permit,true,33/policy=36,permit,true,34/policy=37,permit,true,35/policy=38,permit,true,36/policy=39,permit,true,37/policy=40,permit,true,38/policy=41,permit,true,39/policy=42,permit,true,40/policy=43,permit,true,41/policy=44,permit,true,42/policy=45,permit,true,43/policy=46,permit,true,44/policy=47,permit,true,45/policy=48,permit,true,46/policy=49,permit,true,47/policy=50,permit,true,48/policy=51,permit,true,49/policy=52,permit,true,50/policy=53,permit,true,51/policy=54,permit,true,52/policy=55,permit,true,53/policy=56,permit,true,54/policy=57,permit,true,55/policy=58,permit,true,56/policy=59,permit,true,57/policy=60,permit,true,58/policy=61,permit,true,59/policy=62,permit,true,60/policy=63,permit,true,61/policy=64,permit,true,62/policy=65,permit,true,63/"
unfolding head all links shown keys forms form_of slot_at counted tag_of row_of key_of refs ascendings fits_in nodes_under typed found depth fault more read types value_rows contents schema trees exprs on_term n_policies policies n_env env run results answer returned ancestors unknown_above order same place insert ascending make_set
links_most = refl

-- one more: 4, though it repeats a policy
links_over : shown (head ++ all ++ links ++ bytes "link=63,1,-/") ≡ bytes "refused=4,212,0/"
unfolding head all links shown keys forms form_of slot_at counted tag_of row_of key_of refs ascendings fits_in nodes_under typed found depth fault more read types value_rows contents schema trees exprs on_term n_policies policies n_env env run results answer returned ancestors unknown_above order same place insert ascending make_set
links_over = refl

-- the same of terms
terms_descend : shown (head ++ two ++ bytes "link=0,1,-/link=1,1,-/term=1,2000-01-01,2000-01-01/term=0,2000-01-01,2000-01-01/") ≡ bytes "refused=5,89,0/"
unfolding head two shown keys forms form_of slot_at counted tag_of row_of key_of refs ascendings fits_in nodes_under typed found depth fault more read types value_rows contents schema trees exprs on_term n_policies policies n_env env run results answer returned ancestors unknown_above order same place insert ascending make_set
terms_descend = refl

terms_repeat : shown (head ++ two ++ bytes "link=0,1,-/link=1,1,-/term=0,2000-01-01,2000-01-01/term=0,2000-01-01,2000-01-01/") ≡ bytes "refused=5,89,0/"
unfolding head two shown keys forms form_of slot_at counted tag_of row_of key_of refs ascendings fits_in nodes_under typed found depth fault more read types value_rows contents schema trees exprs on_term n_policies policies n_env env run results answer returned ancestors unknown_above order same place insert ascending make_set
terms_repeat = refl

terms_most : shown (head ++ all ++ links ++ terms) ≡ bytes "decision=allow/counts=64,0,0,0,0,0,0,0/why=2/node=0,lit,0/node=0,lit,0/node=0,lit,0/node=0,lit,0/node=0,lit,0/node=0,lit,0/node=0,lit,0/node=0,lit,0/node=0,lit,0/node=0,lit,0/node=0,lit,0/node=0,lit,0/node=0,lit,0/node=0,lit,0/node=0,lit,0/node=0,lit,0/node=0,lit,0/node=0,lit,0/node=0,lit,0/node=0,lit,0/node=0,lit,0/node=0,lit,0/node=0,lit,0/node=0,lit,0/node=0,lit,0/node=0,lit,0/node=0,lit,0/node=0,lit,0/node=0,lit,0/node=0,lit,0/node=0,lit,0/node=0,lit,0/node=0,lit,0/node=0,lit,0/node=0,lit,0/node=0,lit,0/node=0,lit,0/node=0,lit,0/node=0,lit,0/node=0,lit,0/node=0,lit,0/node=0,lit,0/node=0,lit,0/node=0,lit,0/node=0,lit,0/node=0,lit,0/node=0,lit,0/node=0,lit,0/node=0,lit,0/node=0,lit,0/node=0,lit,0/node=0,lit,0/node=0,lit,0/node=0,lit,0/node=0,lit,0/node=0,lit,0/node=0,lit,0/node=0,lit,0/node=0,lit,0/node=0,lit,0/node=0,lit,0/node=0,lit,0/node=0,lit,0/node=0,lit,0/policy=2,permit,true,0/policy=3,permit,true,1/policy=4,permit,true,2/policy=5,permit,true,3/policy=6,permit,true,4/policy=7,permit,true,5/policy=8,permit,true,6/policy=9,permit,true,7/policy=10,permit,true,8/policy=11,permit,true,9/policy=12,permit,true,10/policy=13,permit,true,11/policy=14,permit,true,12/policy=15,permit,true,13/policy=16,permit,true,14/policy=17,permit,true,15/policy=18,permit,true,16/policy=19,permit,true,17/policy=20,permit,true,18/policy=21,permit,true,19/policy=22,permit,true,20/policy=23,permit,true,21/policy=24,permit,true,22/policy=25,permit,true,23/policy=26,permit,true,24/policy=27,permit,true,25/policy=28,permit,true,26/policy=29,permit,true,27/policy=30,permit,true,28/policy=31,permit,true,29/policy=32,permit,true,30/policy=33,permit,true,31/policy=34,permit,true,32/policy=35,permit,true,33/policy=36,permit,true,34/policy=37,permit,true,35/policy=38,permit,true,36/policy=39,permit,true,37/policy=40,permit,true,38/policy=41,permit,true,39/policy=42,permit,true,40/policy=43,permit,true,41/policy=44,permit,true,42/policy=45,permit,true,43/policy=46,permit,true,44/policy=47,permit,true,45/policy=48,permit,true,46/policy=49,permit,true,47/policy=50,permit,true,48/policy=51,permit,true,49/policy=52,permit,true,50/policy=53,permit,true,51/policy=54,permit,true,52/policy=55,permit,true,53/policy=56,permit,true,54/policy=57,permit,true,55/policy=58,permit,true,56/policy=59,permit,true,57/policy=60,permit,true,58/policy=61,permit,true,59/policy=62,permit,true,60/policy=63,permit,true,61/policy=64,permit,true,62/policy=65,permit,true,63/"
unfolding head all links terms shown keys forms form_of slot_at counted tag_of row_of key_of refs ascendings fits_in nodes_under typed found depth fault more read types value_rows contents schema trees exprs on_term n_policies policies n_env env run results answer returned ancestors unknown_above order same place insert ascending make_set
terms_most = refl

terms_over : shown (head ++ all ++ links ++ terms ++ bytes "term=63,2000-01-01,2000-01-01/") ≡ bytes "refused=4,276,0/"
unfolding head all links terms shown keys forms form_of slot_at counted tag_of row_of key_of refs ascendings fits_in nodes_under typed found depth fault more read types value_rows contents schema trees exprs on_term n_policies policies n_env env run results answer returned ancestors unknown_above order same place insert ascending make_set
terms_over = refl

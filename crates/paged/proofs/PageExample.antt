-- The counter page, by computation.
use mathlib.Core.Path.{◌≡◌, refl}
use mathlib.Core.List.{List, [], ◌∷◌, ◌++◌}
use Prim.Native.Nat.{ℕ, ◌*◌}
use lib.ListN.{take, drop, replicate}
use Rattle.cedar.specs.Canonical.{order, same, place, insert, ascending, make_set}
use Rattle.cedar.specs.Response.{allow}
use Rattle.sheet.specs.Ascii.{ascii}
use Rattle.sheet.specs.Parents.{ancestors, unknown_above}
use Rattle.sheet.specs.Forms.{keys, partial, forms, form_of, slot_at, counted, tag_of, row_of, key_of, refs, ascendings}
use Rattle.sheet.specs.Typing.{fits_in, typed, nodes_under}
use Rattle.sheet.specs.Sheet.{found, depth, fault, more, read}
use Rattle.sheet.specs.Content.{types, value_rows, contents, schema, trees, exprs, n_policies, policies, n_env, env, on_term}
use Rattle.sheet.specs.Answer.{run}
use Rattle.paged.specs.Page.{shown_rows, page_with, page}
use Rattle.sheet.proofs.answer.Shown.{line_ends}

unfoldable sample : List ℕ
sample = line_ends (ascii "sheet=partial/text=Broker/text=Action/text=Tariff/text=quote/text=T1/text=b7/text=b8/text=p0/text=an id of more than forty bytes is cut off here/kind=0,e/kind=1,a/kind=2,e/type=bool/type=record/type=entity,0/type=entity,2/shape=1,-/shape=1,-/shape=1,-/value=entity,0,5/value=bool,1/principal=0,?/action=1,3/resource=2,?/context=1,?/day=2000-01-01/node=2,var,p/node=2,lit,0/node=0,eq,0,1/node=0,lit,1/policy=7,permit,2/policy=8,forbid,3/")

first_lines : take 292 (page (read partial sample).state) ≡ line_ends (ascii "decision=deny                                                           /p0                                      permit  open                   3/an id of more than forty bytes is cut offorbid  true                   1/                                                                        /")
unfolding sample page keys forms form_of slot_at counted tag_of row_of key_of refs ascendings fits_in nodes_under typed found depth fault more read types value_rows contents schema trees exprs on_term n_policies policies n_env env run ancestors unknown_above order same place insert ascending make_set
first_lines = refl

-- 70 policies: 58 and a line `+12`; 59: all
many : shown_rows (replicate 70 (65 ∷ [])) ≡ replicate 58 (65 ∷ []) ++ (ascii "+12" ∷ [])
many = refl

most : shown_rows (replicate 59 (65 ∷ [])) ≡ replicate 59 (65 ∷ [])
most = refl

-- 60: 58 and a line `+2`; 61: `+3`
sixty : shown_rows (replicate 60 (65 ∷ [])) ≡ replicate 58 (65 ∷ []) ++ (ascii "+2" ∷ [])
sixty = refl

sixty_one : shown_rows (replicate 61 (65 ∷ [])) ≡ replicate 58 (65 ∷ []) ++ (ascii "+3" ∷ [])
sixty_one = refl

-- 59, 60 and 61 policies on a page: its last line
last_line : ℕ → List ℕ
last_line n = drop (59 * 73) (page_with allow (replicate n (65 ∷ [])))

last_lines : last_line 59 ∷ last_line 60 ∷ last_line 61 ∷ [] ≡ (65 ∷ replicate 71 32 ++ (10 ∷ [])) ∷ (ascii "+2" ++ replicate 70 32 ++ (10 ∷ [])) ∷ (ascii "+3" ++ replicate 70 32 ++ (10 ∷ [])) ∷ []
unfolding last_line
last_lines = refl

-- a rule for two brokers, the second off term
unfoldable template : List ℕ
template = line_ends (ascii "sheet=partial/text=Broker/text=Action/text=Tariff/text=quote/text=T1/text=low/text=high/text=b7/text=b9/kind=0,e/kind=1,a/kind=2,e/type=bool/type=record/type=entity,0/shape=1,-/shape=1,-/shape=1,-/value=entity,0,7/value=entity,0,8/principal=0,?/action=1,3/resource=2,4/context=1,?/day=2024-02-29/node=2,var,p/node=2,slot,p/node=0,eq,0,1/policy=5,permit,2/policy=6,permit,2/link=0,0,-/link=1,1,-/term=1,2024-03-01,2199-12-31/")

-- a policy off term has no line
on_term_law : take 219 (page (read partial template).state) ≡ line_ends (ascii "decision=open                                                           /low                                     permit  open                   3/                                                                        /")
unfolding template page keys forms form_of slot_at counted tag_of row_of key_of refs ascendings fits_in nodes_under typed found depth fault more read types value_rows contents schema trees exprs on_term n_policies policies n_env env run ancestors unknown_above order same place insert ascending make_set
on_term_law = refl

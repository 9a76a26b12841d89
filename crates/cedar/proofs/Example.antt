-- No theorem is empty: a schema, a partial and a complete request and entities, policies, and each theorem with hypotheses applied to them once.
use mathlib.Core.Path.{◌≡◌, refl, subst}
use mathlib.Core.Bool.{Bool, true, false}
use mathlib.Core.Option.{Option, none, some, some-injective}
use mathlib.Core.List.{List, [], ◌∷◌}
use Prim.Native.Nat.{ℕ}
use lib.Dec.{eqb}
use Rattle.cedar.proofs.Tools.{no_some, one_kind_law}
use Rattle.cedar.specs.Value.{Value, vbool, vent, vset, vrec, vnil, vcons, Fields, fnil, fcons, ok, fail}
use Rattle.cedar.specs.Canonical.{order, same, insert, ascending, make_set}
use Rattle.cedar.specs.Types.{Ty, tbool, tlong, tent, trec, anil, acons, declared, Shape, Schema, Var, principal, action, resource, context, Fits, fbool, fent, frec, no_field, one_field}
use Rattle.cedar.specs.Residual.{Expr, Node, lit, var, and, bin, rel, get, beq, rin, ctrue}
use Rattle.cedar.specs.Typing.{Typed, tlit, tvar, tand, tbin, trel, tget, eq_ok, in_ok}
use Rattle.cedar.specs.TypingTest.{check}
use Rattle.cedar.specs.Entities.{Line, Env, PLine, PEnv, line_or, pline_or, EnvFits, LineFits, no_kind, one_kind, no_tag, Agree, LineAgrees, whole}
use Rattle.cedar.specs.Evaluate.{eval}
use Rattle.cedar.specs.Interpret.{class, interpret}
use Rattle.cedar.specs.Response.{Effect, permit, forbid, Verdict, allow, deny, undecided, decision, cedar, Choices, take_true, take_false, keep_true}
use Rattle.cedar.specs.Rows.{Row, rbool, rent, rset, rrec, stop, entry}
use Rattle.cedar.specs.Table.{At, now, later, end, up, elem0, elem1, name0, name1, Denotes, Table, start, grow, dbool, dent, dset, drec}
use Rattle.cedar.specs.Making.{intern, sort_n}
use Rattle.cedar.specs.Numbered.{NLine, NEnv, Give, made, old, nline_or, n_interpret}
use Rattle.cedar.specs.Reads.{Reads, xlit, xvar, xand, xbin, xrel, xget, ReadPolicies, done, also, EnvRead, LineRead, GiveRead, give_unknown, give_made, rec_unknown, rec_known, rec_empty, set_unknown, set_known}
use Rattle.cedar.proofs.ReadsOps.{set_empty}
use Rattle.cedar.specs.Runs.{Policy, complete_answer, NPolicy, NVerdict, n_run, verdicts}
use Rattle.cedar.specs.ContentRun.{Policies, no_policy, one_policy, partial_answer}
use Rattle.cedar.specs.Response as R
use Rattle.cedar.proofs.Theorems as T

-- Kind 0 has a required bool (text 2), tags of long, and is above itself. Kind 1 is the action's.
abbrev shape : ℕ → Shape
shape ℕ.zero = record { is_action = false; attrs = acons 2 true tbool anil; tags = some tlong; above = 0 ∷ [] }
shape (ℕ.suc ℕ.zero) = record { is_action = true; attrs = anil; tags = none; above = [] }
shape (ℕ.suc (ℕ.suc k)) = record { is_action = false; attrs = anil; tags = none; above = [] }

abbrev request : Var → Ty
request principal = tent 0 []
request action = tent 1 []
request resource = tent 2 []
request context = trec anil

abbrev S : Schema
S = record { shape = shape; bytes = λ t. []; request = request }

-- The partial sheet: action and resource are known. Entity 0,7 is listed, its attributes known, its tags and ancestors unknown.
abbrev known : Var → Option Value
known principal = none
known action = some (vent 1 3)
known resource = some (vent 2 4)
known context = none

abbrev on : Fields
on = fcons 2 (vbool true) fnil

abbrev listed : PLine
listed = record { attrs = some on; tags = none; ancestors = none }

abbrev pline : Bool → Option PLine
pline true = some listed
pline false = none

abbrev plines : ℕ → ℕ → Option PLine
plines ℕ.zero t = pline (eqb t 7)
plines (ℕ.suc k) t = none

abbrev P : PEnv
P = record { request = known; line = plines }

-- The complete sheet: the principal is 0,9. It lists 0,7 with the rest, and 0,9, which the partial sheet does not list.
abbrev filled : Var → Value
filled principal = vent 0 9
filled action = vent 1 3
filled resource = vent 2 4
filled context = vrec fnil

abbrev seven : Line
seven = record { attrs = on; tags = fnil; ancestors = vcons (vent 0 8) vnil }

abbrev nine : Line
nine = record { attrs = fcons 2 (vbool false) fnil; tags = fnil; ancestors = vnil }

abbrev cline : Bool → Bool → Option Line
cline true b = some seven
cline false true = some nine
cline false false = none

abbrev clines : ℕ → ℕ → Option Line
clines ℕ.zero t = cline (eqb t 7) (eqb t 9)
clines (ℕ.suc k) t = none

abbrev C : Env
C = record { request = filled; line = clines }

filled_fits : (x : Var) → Fits (filled x) (request x)
filled_fits principal = fent refl
filled_fits action = fent refl
filled_fits resource = fent refl
filled_fits context = frec no_field tt

seven_fits : LineFits S 0 seven
seven_fits = record { attrs = one_field refl fbool no_field; tags = no_tag; ancestors = one_kind refl no_kind }

nine_fits : LineFits S 0 nine
nine_fits = record { attrs = one_field refl fbool no_field; tags = no_tag; ancestors = no_kind }

cline_fits : (a b : Bool) (l : Line) → cline a b ≡ some l → LineFits S 0 l
cline_fits true b l e = subst (LineFits S 0) (some-injective _ _ e) seven_fits
cline_fits false true l e = subst (LineFits S 0) (some-injective _ _ e) nine_fits
cline_fits false false l e = no_some e

clines_fit : (k t : ℕ) (l : Line) → clines k t ≡ some l → LineFits S k l
clines_fit ℕ.zero t l e = cline_fits (eqb t 7) (eqb t 9) l e
clines_fit (ℕ.suc k) t l e = no_some e

env_fits : EnvFits S C
env_fits = record { request = filled_fits; line = clines_fit }

filled_agrees : (x : Var) (v : Value) → known x ≡ some v → filled x ≡ v
filled_agrees principal v e = no_some e
filled_agrees action v e = some-injective _ _ e
filled_agrees resource v e = some-injective _ _ e
filled_agrees context v e = no_some e

seven_agrees : LineAgrees listed seven
seven_agrees = record { attrs = λ fs e. some-injective _ _ e; tags = λ fs e. no_some e; ancestors = λ vs e. no_some e }

line_agrees : (a b : Bool) (p : PLine) → pline a ≡ some p → (l : Line) × (cline a b ≡ some l) × LineAgrees p l
line_agrees true b p e = (seven, refl, subst (λ q. LineAgrees q seven) (some-injective _ _ e) seven_agrees)
line_agrees false b p e = no_some e

lines_agree : (k t : ℕ) (p : PLine) → plines k t ≡ some p → (l : Line) × (clines k t ≡ some l) × LineAgrees p l
lines_agree ℕ.zero t p e = line_agrees (eqb t 7) (eqb t 9) p e
lines_agree (ℕ.suc k) t p e = no_some e

agrees : Agree P C
agrees = record { request = filled_agrees; line = lines_agree }

-- Trees: an open test; a known attribute; unknown ancestors beside it, of which only the right side is left over.
module _ {L : Type 0} (v7 v8 : L) where
  abbrev open_eq : Node L
  open_eq = bin tbool beq (var (tent 0 []) principal) (lit (tent 0 []) v7)

  abbrev attribute : Node L
  attribute = get tbool (lit (tent 0 []) v7) 2

  abbrev within : Node L
  within = rel tbool rin (lit (tent 0 []) v7) (lit (tent 0 []) v8)

  abbrev both : Node L
  both = and tbool attribute within

abbrev E : Expr
E = both (vent 0 7) (vent 0 8)

eq_typed : Typed S (open_eq (vent 0 7) (vent 0 8)) tbool
eq_typed = tbin eq_ok (tvar {x = principal} refl) (tlit (fent refl))

attribute_typed : Typed S (attribute (vent 0 7) (vent 0 8)) tbool
attribute_typed = tget {A = tent 0 []} (one_kind_law (λ k. declared 2 (S.shape k).attrs ≡ some tbool) 0 refl) (tlit (fent refl))

both_typed : Typed S E tbool
both_typed = tand attribute_typed (trel in_ok (tlit (fent refl)) (tlit (fent refl)))

-- Three lists of policies: one is allowed, one denied, one open.
abbrev one : Effect → Expr → Policy
one e a = record { effect = e; tree = a }

abbrev allowed : List Policy
allowed = one permit (open_eq (vent 0 7) (vent 0 8)) ∷ one permit (attribute (vent 0 7) (vent 0 8)) ∷ []

abbrev denied : List Policy
denied = one permit (open_eq (vent 0 7) (vent 0 8)) ∷ one forbid (attribute (vent 0 7) (vent 0 8)) ∷ []

abbrev opened : List Policy
opened = one permit (attribute (vent 0 7) (vent 0 8)) ∷ one forbid E ∷ []

typed_list : (e f : Effect) {a b : Expr} → Typed S a tbool → Typed S b tbool → Policies S (one e a ∷ one f b ∷ [])
typed_list e f {a} {b} h k = one_policy {p = one e a} h (one_policy {p = one f b} k no_policy)

allowed_typed : Policies S allowed
allowed_typed = typed_list permit permit eq_typed attribute_typed

denied_typed : Policies S denied
denied_typed = typed_list permit forbid eq_typed attribute_typed

opened_typed : Policies S opened
opened_typed = typed_list permit forbid attribute_typed both_typed

-- The theorems by content.

equal_contents : vent 0 7 ≡ vent 0 7
unfolding same order
equal_contents = (T.content_equality (vent 0 7) (vent 0 7)).0 refl

passes : check S E ≡ true
passes = (T.typing_test S E).1 both_typed

typed_again : Typed S E tbool
typed_again = (T.typing_test S E).0 passes

record_fits : Fits (vrec on) (trec (acons 2 true tbool anil))
record_fits = (T.fits_test (vrec on) (trec (acons 2 true tbool anil))).0 refl

says_its_type : tbool ≡ tbool
says_its_type = T.one_type S E tbool both_typed

yields_true : eval S C E ≡ ok (vbool true)
unfolding same order
yields_true = refl

value_fits : Fits (vbool true) tbool
value_fits = T.type_soundness S C env_fits E tbool (vbool true) both_typed yields_true

cannot_err : (v : Value) × (eval S C (open_eq (vent 0 7) (vent 0 8)) ≡ ok v) × Fits v tbool
cannot_err = T.no_error S C env_fits (open_eq (vent 0 7) (vent 0 8)) tbool eq_typed refl

all_left : interpret S (whole C) E ≡ lit tbool (vbool true)
unfolding same order
all_left = T.complete_leaves S C env_fits E tbool both_typed

all_known : class (interpret S (whole C) E) ≡ ctrue
unfolding same order
all_known = T.complete_is_evaluation S C env_fits E tbool both_typed

all_known_list : partial_answer S (whole C) opened ≡ complete_answer S C opened
all_known_list = T.complete_answer_law S C env_fits opened opened_typed

-- a residual that is neither the tree nor a value
left_over : interpret S P E ≡ within (vent 0 7) (vent 0 8)
unfolding same order
left_over = refl

left_over_typed : Typed S (interpret S P E) tbool
left_over_typed = T.same_type S C env_fits P agrees E tbool both_typed

left_over_yields : eval S C (interpret S P E) ≡ eval S C E
left_over_yields = T.interpretation_sound S C env_fits P agrees E tbool both_typed

-- a tree that errs, and what is left of it
missing : Expr
missing = get tbool (lit (tent 0 []) (vent 0 8)) 2

missing_typed : Typed S missing tbool
unfolding missing
missing_typed = tget {A = tent 0 []} (one_kind_law (λ k. declared 2 (S.shape k).attrs ≡ some tbool) 0 refl) (tlit (fent refl))

errs : eval S C (interpret S P missing) ≡ fail
unfolding missing
errs = (T.errs_alike S C env_fits P agrees missing tbool missing_typed).1 refl

settled : Choices (partial_answer S P opened) (complete_answer S C opened)
settled = T.policies_settled S C env_fits P agrees opened opened_typed

abbrev permitted : Verdict
permitted = record { effect = permit; class = ctrue }

first_settled : permitted ≡ permitted
first_settled = T.policy_settled S C env_fits P agrees opened opened_typed 0 permitted permitted now now refl

final_allow : cedar (complete_answer S C allowed) ≡ allow
final_allow = T.allow_is_final S C env_fits P agrees allowed allowed_typed refl

final_deny : cedar (complete_answer S C denied) ≡ deny
final_deny = T.deny_is_final S C env_fits P agrees denied denied_typed refl

second_yields : eval S C (interpret S P E) ≡ eval S C E
second_yields = T.residuals_yield S C env_fits P agrees opened opened_typed 1 (one forbid E) (later now)

is_open_law : decision (partial_answer S P opened) ≡ undecided
unfolding same order
is_open_law = refl

two_choices : ((ms : List Verdict) × Choices (partial_answer S P opened) ms × (cedar ms ≡ allow)) × ((ns : List Verdict) × Choices (partial_answer S P opened) ns × (cedar ns ≡ deny))
two_choices = T.open_has_both (partial_answer S P opened) is_open_law

open_again : decision (partial_answer S P opened) ≡ undecided
unfolding same order
open_again = T.both_is_open (partial_answer S P opened) _ _ (R.also keep_true (R.also take_false R.done)) (R.also keep_true (R.also take_true R.done)) refl refl

-- Value rows of the partial sheet and their contents.
abbrev rows : List Row
rows = rent 0 7 ∷ rbool true ∷ rent 0 8 ∷ rrec (entry 2 1 stop) ∷ []

abbrev contents : List Value
contents = vent 0 7 ∷ vbool true ∷ vent 0 8 ∷ vrec on ∷ []

new1 : (n : ℕ) → At (rent 0 7 ∷ []) n (rbool true) → ⊥
new1 n (later a) = elim a [ ]

new2 : (n : ℕ) → At (rent 0 7 ∷ rbool true ∷ []) n (rent 0 8) → ⊥
new2 n (later (later a)) = elim a [ ]

new3 : (n : ℕ) → At (rent 0 7 ∷ rbool true ∷ rent 0 8 ∷ []) n (rrec (entry 2 1 stop)) → ⊥
new3 n (later (later (later a))) = elim a [ ]

table : Table rows contents
table = grow (grow (grow (grow start (dent {k = 0} {t = 7}) (λ n a. elim a [ ])) (dbool {b = true}) new1) (dent {k = 0} {t = 8}) new2) (drec (name1 (later now) name0)) new3

-- Known parts by number.
abbrev given : Var → Option Give
given principal = none
given action = some (made (rent 1 3))
given resource = some (made (rent 2 4))
given context = none

abbrev nline : Bool → Option NLine
nline true = some (record { attrs = some (old 3); tags = none; ancestors = none })
nline false = none

abbrev nlines : ℕ → ℕ → Option NLine
nlines ℕ.zero t = nline (eqb t 7)
nlines (ℕ.suc k) t = none

abbrev M : NEnv
M = record { request = given; line = nlines }

given_reads : (x : Var) → GiveRead contents (given x) (known x)
given_reads principal = give_unknown
given_reads action = give_made dent
given_reads resource = give_made dent
given_reads context = give_unknown

line_reads : (a : Bool) → LineRead contents (nline_or (nline a)) (pline_or (pline a))
line_reads true = record { attrs = rec_known (later (later (later now))); tags = rec_unknown; ancestors = set_unknown }
line_reads false = record { attrs = rec_unknown; tags = rec_unknown; ancestors = set_unknown }

lines_read : (k t : ℕ) → LineRead contents (nline_or (nlines k t)) (pline_or (plines k t))
lines_read ℕ.zero t = line_reads (eqb t 7)
lines_read (ℕ.suc k) t = record { attrs = rec_unknown; tags = rec_unknown; ancestors = set_unknown }

env_reads : EnvRead contents M P
env_reads = record { request = given_reads; line = lines_read }

-- Policies by number.
abbrev n_one : Effect → Node ℕ → NPolicy
n_one e a = record { effect = e; tree = a }

abbrev n_allowed : List NPolicy
n_allowed = n_one permit (open_eq 0 2) ∷ n_one permit (attribute 0 2) ∷ []

abbrev n_denied : List NPolicy
n_denied = n_one permit (open_eq 0 2) ∷ n_one forbid (attribute 0 2) ∷ []

abbrev n_opened : List NPolicy
n_opened = n_one permit (attribute 0 2) ∷ n_one forbid (both 0 2) ∷ []

module _ {D : List Value} (a7 : At D 0 (vent 0 7)) (a8 : At D 2 (vent 0 8)) where
  reads_both : Reads D (both 0 2) E
  reads_both = xand (xget (xlit a7)) (xrel (xlit a7) (xlit a8))

  reads_allowed : ReadPolicies D n_allowed allowed
  reads_allowed = also (xbin xvar (xlit a7)) (also (xget (xlit a7)) done)

  reads_denied : ReadPolicies D n_denied denied
  reads_denied = also (xbin xvar (xlit a7)) (also (xget (xlit a7)) done)

  reads_opened : ReadPolicies D n_opened opened
  reads_opened = also (xget (xlit a7)) (also reads_both done)

-- The theorems by number.

only_number : (n : ℕ) → At contents n (vent 0 7) → n ≡ 0
only_number n a = (T.number_equality rows contents table n 0 (vent 0 7) (vent 0 7) a now).1 refl

made_false : (D : List Value) × Table (intern rows (rbool false)).rows D × ((m : ℕ) (w : Value) → At contents m w → At D m w) × At D (intern rows (rbool false)).number (vbool false)
made_false = T.made_if_absent rows contents table (rbool false) (vbool false) dbool

-- a set of two members, one of them given twice, out of order
made_pair : Denotes contents (rset (sort_n (2 ∷ 0 ∷ 2 ∷ []))) (make_set (vcons (vent 0 8) (vcons (vent 0 7) (vcons (vent 0 8) vnil))))
made_pair = T.made_set contents (2 ∷ 0 ∷ 2 ∷ []) (vcons (vent 0 8) (vcons (vent 0 7) (vcons (vent 0 8) vnil))) (elem1 (later (later now)) (elem1 now (elem1 (later (later now)) elem0)))

tree_reads : (D : List Value) × Table (n_interpret S M (both 0 2) rows).rows D × ((m : ℕ) (v : Value) → At contents m v → At D m v) × Reads D (n_interpret S M (both 0 2) rows).tree (interpret S P E)
tree_reads = T.numbers_read_as_content S M P rows contents table env_reads (both 0 2) E (reads_both now (later (later now)))

n_settled : Choices (verdicts (n_run S M n_opened rows).lines) (complete_answer S C opened)
n_settled = T.numbered_policies_settled S M P rows contents table env_reads n_opened opened (reads_opened now (later (later now))) opened_typed C env_fits agrees

n_final_allow : cedar (complete_answer S C allowed) ≡ allow
n_final_allow = T.numbered_allow_is_final S M P rows contents table env_reads n_allowed allowed (reads_allowed now (later (later now))) allowed_typed C env_fits agrees refl

n_final_deny : cedar (complete_answer S C denied) ≡ deny
n_final_deny = T.numbered_deny_is_final S M P rows contents table env_reads n_denied denied (reads_denied now (later (later now))) denied_typed C env_fits agrees refl

n_residuals : (D : List Value) × Table (n_run S M n_opened rows).rows D × ((m : ℕ) (v : Value) → At contents m v → At D m v)
    × ((n : ℕ) (l : NVerdict) (p : Policy) → At (n_run S M n_opened rows).lines n l → At opened n p → (e : Expr) × Reads D l.root e × (eval S C e ≡ eval S C p.tree))
n_residuals = T.numbered_residuals_yield S M P rows contents table env_reads n_opened opened (reads_opened now (later (later now))) opened_typed C env_fits agrees

-- Value rows of the complete sheet: those of the partial one, then its own.
abbrev crows : List Row
crows = rent 0 7 ∷ rbool true ∷ rent 0 8 ∷ rrec (entry 2 1 stop) ∷ rset (2 ∷ []) ∷ rbool false ∷ rrec (entry 2 5 stop) ∷ []

abbrev ccontents : List Value
ccontents = vent 0 7 ∷ vbool true ∷ vent 0 8 ∷ vrec on ∷ vset (vcons (vent 0 8) vnil) ∷ vbool false ∷ vrec (fcons 2 (vbool false) fnil) ∷ []

new4 : (n : ℕ) → At rows n (rset (2 ∷ [])) → ⊥
new4 n (later (later (later (later a)))) = elim a [ ]

new5 : (n : ℕ) → At (rent 0 7 ∷ rbool true ∷ rent 0 8 ∷ rrec (entry 2 1 stop) ∷ rset (2 ∷ []) ∷ []) n (rbool false) → ⊥
new5 n (later (later (later (later (later a))))) = elim a [ ]

new6 : (n : ℕ) → At (rent 0 7 ∷ rbool true ∷ rent 0 8 ∷ rrec (entry 2 1 stop) ∷ rset (2 ∷ []) ∷ rbool false ∷ []) n (rrec (entry 2 5 stop)) → ⊥
new6 n (later (later (later (later (later (later a)))))) = elim a [ ]

eighth : ascending (vcons (vent 0 8) vnil) ≡ vcons (vent 0 8) vnil
unfolding ascending insert
eighth = refl

ctable : Table crows ccontents
ctable = grow (grow (grow table (dset (up end end) (elem1 (later (later now)) elem0) eighth) new4) (dbool {b = false}) new5) (drec (name1 (later (later (later (later (later now))))) name0)) new6

abbrev all : Var → Give
all principal = made (rent 0 9)
all action = made (rent 1 3)
all resource = made (rent 2 4)
all context = made (rrec stop)

abbrev empty : NLine
empty = record { attrs = some (made (rrec stop)); tags = some (made (rrec stop)); ancestors = some (made (rset [])) }

abbrev ncline : Bool → Bool → NLine
ncline true b = record { attrs = some (old 3); tags = some (made (rrec stop)); ancestors = some (old 4) }
ncline false true = record { attrs = some (old 6); tags = some (made (rrec stop)); ancestors = some (made (rset [])) }
ncline false false = empty

abbrev nclines : ℕ → ℕ → NLine
nclines ℕ.zero t = ncline (eqb t 7) (eqb t 9)
nclines (ℕ.suc k) t = empty

abbrev N : NEnv
N = record { request = λ x. some (all x); line = λ k t. some (nclines k t) }

abbrev whole_line : Line → PLine
whole_line l = record { attrs = some l.attrs; tags = some l.tags; ancestors = some l.ancestors }

all_reads : (x : Var) → GiveRead ccontents (some (all x)) (some (filled x))
all_reads principal = give_made dent
all_reads action = give_made dent
all_reads resource = give_made dent
all_reads context = give_made (drec name0)

cline_reads : (a b : Bool) → LineRead ccontents (ncline a b) (whole_line (line_or (cline a b)))
cline_reads true b = record { attrs = rec_known (later (later (later now))); tags = rec_empty; ancestors = set_known (later (later (later (later now)))) }
cline_reads false true = record { attrs = rec_known (later (later (later (later (later (later now)))))); tags = rec_empty; ancestors = set_empty }
cline_reads false false = record { attrs = rec_empty; tags = rec_empty; ancestors = set_empty }

clines_read : (k t : ℕ) → LineRead ccontents (nclines k t) (whole_line (line_or (clines k t)))
clines_read ℕ.zero t = cline_reads (eqb t 7) (eqb t 9)
clines_read (ℕ.suc k) t = record { attrs = rec_empty; tags = rec_empty; ancestors = set_empty }

whole_reads : EnvRead ccontents N (whole C)
whole_reads = record { request = all_reads; line = clines_read }

complete_results : verdicts (n_run S N n_opened crows).lines ≡ complete_answer S C opened
complete_results = T.numbered_complete_run S C env_fits opened opened_typed N crows ccontents ctable whole_reads n_opened (reads_opened now (later (later now)))

runs_settled : Choices (verdicts (n_run S M n_opened rows).lines) (verdicts (n_run S N n_opened crows).lines)
runs_settled = T.both_runs_policies S C env_fits opened opened_typed N crows ccontents ctable whole_reads n_opened (reads_opened now (later (later now))) P agrees M rows contents table env_reads n_opened (reads_opened now (later (later now)))

runs_allow : cedar (verdicts (n_run S N n_allowed crows).lines) ≡ allow
runs_allow = T.both_runs_allow S C env_fits allowed allowed_typed N crows ccontents ctable whole_reads n_allowed (reads_allowed now (later (later now))) P agrees M rows contents table env_reads n_allowed (reads_allowed now (later (later now))) refl

runs_deny : cedar (verdicts (n_run S N n_denied crows).lines) ≡ deny
runs_deny = T.both_runs_deny S C env_fits denied denied_typed N crows ccontents ctable whole_reads n_denied (reads_denied now (later (later now))) P agrees M rows contents table env_reads n_denied (reads_denied now (later (later now))) refl

-- A decision that is given holds for every choice, and it is open exactly where one choice allows and another denies.
use mathlib.Core.Path.{◌≡◌, refl}
use mathlib.Core.Bool.{Bool, true, false, cond, ◌||◌, ◌&&◌}
use mathlib.Core.List.{List, [], ◌∷◌}
use Rattle.cedar.proofs.Tools.{no_true, neither, or_left, or_right}
use Rattle.cedar.specs.Residual.{Class, ctrue, cfalse, cerror, copen}
use Rattle.cedar.specs.Response.{permit, Effect, forbid, Verdict, deny, undecided, allow, is_permit, is_forbid, is_true, is_open, any_line, decide, decision, cedar, take_true, take_error, keep_false, take_false, keep_error, keep_true, Choice, done, Choices, also}

-- what is true stays true; what turns true was true or open

or_step : (p q p' q' : Bool) → (p ≡ true → p' ≡ true) → (q ≡ true → q' ≡ true) → (p || q) ≡ true → (p' || q') ≡ true
or_step true q p' q' f g e = or_left p' q' (f refl)
or_step false q p' q' f g e = or_right p' q' (g e)

stays_true : (b : Bool) {c d : Class} → Choice c d → (b && is_true c) ≡ true → (b && is_true d) ≡ true
stays_true b keep_true e = e
stays_true b keep_false e = e
stays_true b keep_error e = e
stays_true true take_true e = refl
stays_true false take_true e = e
stays_true b take_false e = e
stays_true b take_error e = e

stay : (f : Effect → Bool) {ls ms : List Verdict} → Choices ls ms → any_line f is_true ls ≡ true → any_line f is_true ms ≡ true
stay f done e = e
stay f (also {e = x} {c = c} {d = d} {ls = ls} {ms = ms} h hs) e =
    or_step (f x && is_true c) (any_line f is_true ls) (f x && is_true d) (any_line f is_true ms) (stays_true (f x) h) (λ q. stay f hs q) e

never_true : (b : Bool) {c d : Class} → Choice c d → (b && is_true c) ≡ false → (b && is_open c) ≡ false → (b && is_true d) ≡ false
never_true b keep_true e o = e
never_true b keep_false e o = e
never_true b keep_error e o = e
never_true b take_true e o = o
never_true b take_false e o = e
never_true b take_error e o = e

never : (f : Effect → Bool) {ls ms : List Verdict} → Choices ls ms → any_line f is_true ls ≡ false → any_line f is_open ls ≡ false → any_line f is_true ms ≡ false
never f done e o = e
never f (also {e = x} {c = c} {ls = ls} h hs) e o =
    let (p, q) = neither (f x && is_true c) (any_line f is_true ls) e in
    let (r, s) = neither (f x && is_open c) (any_line f is_open ls) o in
    rw (never_true (f x) h p r, never f hs q s)

-- a decision that is given holds for every choice

deny_if : (b : Bool) → cond b deny deny ≡ deny
deny_if true = refl
deny_if false = refl

deny_holds : (tf tp op of tf' tp' : Bool) → (tf ≡ true → tf' ≡ true) → (tp ≡ false → op ≡ false → tp' ≡ false) → decide tf tp op of ≡ deny → cond tf' deny (cond tp' allow deny) ≡ deny
deny_holds true tp op of tf' tp' f g e = rw (f refl)
deny_holds false false false of tf' tp' f g e = rw (g refl refl) (deny_if tf')
deny_holds false true op true tf' tp' f g e = cc
deny_holds false false true true tf' tp' f g e = cc
deny_holds false false true false tf' tp' f g e = cc
deny_holds false true op false tf' tp' f g e = cc

allow_holds : (tf tp op of tf' tp' : Bool) → (tp ≡ true → tp' ≡ true) → (tf ≡ false → of ≡ false → tf' ≡ false) → decide tf tp op of ≡ allow → cond tf' deny (cond tp' allow deny) ≡ allow
allow_holds true tp op of tf' tp' f g e = cc
allow_holds false false false of tf' tp' f g e = cc
allow_holds false true op true tf' tp' f g e = cc
allow_holds false false true true tf' tp' f g e = cc
allow_holds false false true false tf' tp' f g e = cc
allow_holds false true op false tf' tp' f g e = rw (g refl refl, f refl)

pub deny_settled : {ls ms : List Verdict} → Choices ls ms → decision ls ≡ deny → cedar ms ≡ deny
deny_settled {ls} {ms} h = deny_holds (any_line is_forbid is_true ls) (any_line is_permit is_true ls) (any_line is_permit is_open ls) (any_line is_forbid is_open ls)
    (any_line is_forbid is_true ms) (any_line is_permit is_true ms) (stay is_forbid h) (never is_permit h)

pub allow_settled : {ls ms : List Verdict} → Choices ls ms → decision ls ≡ allow → cedar ms ≡ allow
allow_settled {ls} {ms} h = allow_holds (any_line is_forbid is_true ls) (any_line is_permit is_true ls) (any_line is_permit is_open ls) (any_line is_forbid is_open ls)
    (any_line is_forbid is_true ms) (any_line is_permit is_true ms) (stay is_permit h) (never is_forbid h)

-- where it is open, one choice gives allow and another deny: open policies of one effect true, the others false

abbrev pub fill : Bool → Class → Class
fill b ctrue = ctrue
fill b cfalse = cfalse
fill b cerror = cerror
fill b copen = cond b ctrue cfalse

abbrev pub fill_all : (Effect → Bool) → List Verdict → List Verdict
fill_all f [] = []
fill_all f (l ∷ ls) = record { effect = l.effect; class = fill (f l.effect) l.class } ∷ fill_all f ls

fill_choice : (b : Bool) (c : Class) → Choice c (fill b c)
fill_choice b ctrue = keep_true
fill_choice b cfalse = keep_false
fill_choice b cerror = keep_error
fill_choice true copen = take_true
fill_choice false copen = take_false

pub fill_choices : (f : Effect → Bool) (ls : List Verdict) → Choices ls (fill_all f ls)
fill_choices f [] = done
fill_choices f (l ∷ ls) = also (fill_choice (f l.effect) l.class) (fill_choices f ls)

fill_on : (b : Bool) (c : Class) → (b && is_open c) ≡ true → (b && is_true (fill b c)) ≡ true
fill_on true ctrue e = no_true e
fill_on true cfalse e = no_true e
fill_on true cerror e = no_true e
fill_on true copen e = refl
fill_on false c e = no_true e

turned : (f : Effect → Bool) (ls : List Verdict) → any_line f is_open ls ≡ true → any_line f is_true (fill_all f ls) ≡ true
turned f [] e = no_true e
turned f (l ∷ ls) e = or_step (f l.effect && is_open l.class) (any_line f is_open ls) _ (any_line f is_true (fill_all f ls)) (fill_on (f l.effect) l.class) (turned f ls) e

fill_off : (b : Bool) (c : Class) → (b && is_true (fill false c)) ≡ (b && is_true c)
fill_off b ctrue = refl
fill_off b cfalse = refl
fill_off b cerror = refl
fill_off b copen = refl

untouched : (f g : Effect → Bool) (ls : List Verdict) → ((e : Effect) → f e ≡ true → g e ≡ false) → any_line f is_true (fill_all g ls) ≡ any_line f is_true ls
untouched f g [] h = refl
untouched f g (l ∷ ls) h = λ i. line (f l.effect) refl i || untouched f g ls h i
  where
    line : (b : Bool) → f l.effect ≡ b → (b && is_true (fill (g l.effect) l.class)) ≡ (b && is_true l.class)
    line false e = refl
    line true e = rw (h l.effect e) (fill_off true l.class)

no_permit : (e : Effect) → is_forbid e ≡ true → is_permit e ≡ false
no_permit permit e = no_true e
no_permit forbid e = refl

no_forbid : (e : Effect) → is_permit e ≡ true → is_forbid e ≡ false
no_forbid permit e = refl
no_forbid forbid e = no_true e

open_deny : (tf tp op of tf' tp' : Bool) → tp' ≡ tp → (of ≡ true → tf' ≡ true) → decide tf tp op of ≡ undecided → cond tf' deny (cond tp' allow deny) ≡ deny
open_deny true tp op of tf' tp' a f e = cc
open_deny false false false of tf' tp' a f e = cc
open_deny false true op true tf' tp' a f e = rw (f refl)
open_deny false false true true tf' tp' a f e = rw (f refl)
open_deny false false true false tf' tp' a f e = rw a (deny_if tf')
open_deny false true op false tf' tp' a f e = cc

open_allow : (tf tp op of tf' tp' : Bool) → tf' ≡ tf → (tp ≡ true → tp' ≡ true) → (op ≡ true → tp' ≡ true) → decide tf tp op of ≡ undecided → cond tf' deny (cond tp' allow deny) ≡ allow
open_allow true tp op of tf' tp' a f g e = cc
open_allow false false false of tf' tp' a f g e = cc
open_allow false true op true tf' tp' a f g e = rw (a, f refl)
open_allow false false true true tf' tp' a f g e = rw (a, g refl)
open_allow false false true false tf' tp' a f g e = rw (a, g refl)
open_allow false true op false tf' tp' a f g e = cc

pub open_both : (ls : List Verdict) → decision ls ≡ undecided → (cedar (fill_all is_permit ls) ≡ allow) × (cedar (fill_all is_forbid ls) ≡ deny)
open_both ls e = (
  open_allow (any_line is_forbid is_true ls) (any_line is_permit is_true ls) (any_line is_permit is_open ls) (any_line is_forbid is_open ls)
      (any_line is_forbid is_true (fill_all is_permit ls)) (any_line is_permit is_true (fill_all is_permit ls)) (untouched is_forbid is_permit ls no_permit)
      (stay is_permit (fill_choices is_permit ls)) (turned is_permit ls) e,
  open_deny (any_line is_forbid is_true ls) (any_line is_permit is_true ls) (any_line is_permit is_open ls) (any_line is_forbid is_open ls)
      (any_line is_forbid is_true (fill_all is_forbid ls)) (any_line is_permit is_true (fill_all is_forbid ls)) (untouched is_permit is_forbid ls no_forbid)
      (turned is_forbid ls) e,
)

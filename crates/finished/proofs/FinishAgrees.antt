-- NUMBER 11 ARISES EXACTLY WHERE TWO ACCEPTED SHEETS DO NOT AGREE: no line breaks agreement and none is lacking exactly if they agree.
use mathlib.Core.Path.{◌≡◌, refl, sym, ◌∙◌, ap, ap₂, subst}
use mathlib.Core.Bool.{Bool, true, false, cond}
use mathlib.Core.Option.{Option, none, some, some-injective}
use mathlib.Core.List.{List, [], ◌∷◌, ◌++◌, append_assoc}
use Prim.Native.Nat.{ℕ, suc, ◌≤◌, ◌-◌}
use native.Mathlib.Omega.{arith}
use borrow.Author.Tests.{ltb-false, le-ltb, eq-eqb, ne_eqb}
use lib.Dec.{eqb}
use lib.ListN.{length}
use Rattle.cedar.proofs.Tools.{no_some, no_true, eqb_true, and_both, both, neither}
use Rattle.cedar.specs.Value.{on_some}
use Rattle.sheet.specs.Bytes.{same}
use Rattle.sheet.specs.Forms.{Mode, partial, complete, at, TEXT, KIND, TYPE, SHAPE, VALUE, ENTITY, PRINCIPAL, ACTION, RESOURCE, CONTEXT, DAY, NODE, POLICY, LINK, TERM, no_key}
use Rattle.sheet.specs.State.{State, lines_of, line_at, counts, before, sum}
use Rattle.sheet.specs.Parents.{line_for}
use Rattle.sheet.specs.Agreement.{begins, same_lines, request_same, entity_same, listed, all_listed, agrees}
use Rattle.finished.specs.Finish.{break_from, breaking_line}
use Rattle.finished.specs.ByKey.{begin_break, same_break, entity_break, request_break, first_some, breaks, shorter, unlisted_in, any_of, lacking, lacks, passed_line}
use Rattle.finished.specs.Rising.{Rising}
use Rattle.sheet.proofs.reading.Lines.{History}
use Rattle.sheet.proofs.reading.EntityOrder.{above_of, above_last}
use Rattle.sheet.proofs.demand3.TwoSheets.{common}
use Rattle.sheet.proofs.content.ValueRows.{same_refl}

-- ---- lines compared one by one

-- at a line: the same, and so on; else a break
at_line_law : {X : Type 0} (b : Bool) (o : Option ℕ) (l : ℕ) → cond b o (some l) ≡ none → (b ≡ true → o ≡ none → X) → X
at_line_law true o l e f = f refl e
at_line_law false o l e f = no_some (sym e)

-- texts and values

begin_none : (p c : List (List ℕ)) (l : ℕ) → begin_break p c l ≡ none → length p ≤ length c → begins p c ≡ true
begin_none [] c l e f = refl
begin_none (r ∷ p) [] l e f = absurd (omega (arith, f))
begin_none (r ∷ p) (q ∷ c) l e f = at_line_law (same r q) (begin_break p c (suc l)) l e (λ a b. both a (begin_none p c (suc l) b (omega (arith, f))))

none_begin : (p c : List (List ℕ)) (l : ℕ) → begins p c ≡ true → (begin_break p c l ≡ none) × (length p ≤ length c)
none_begin [] c l e = (refl, omega arith)
none_begin (r ∷ p) [] l e = no_true e
none_begin (r ∷ p) (q ∷ c) l e = and_both (same r q) (begins p c) e (λ a b. let (x, y) = none_begin p c (suc l) b in (rw a x, omega (arith, y)))

-- keys that must be the same

same_none : (p c : List (List ℕ)) (l : ℕ) → same_break p c l ≡ none → length p ≤ length c → same_lines p c ≡ true
same_none [] [] l e f = refl
same_none [] (q ∷ c) l e f = no_some (sym e)
same_none (r ∷ p) [] l e f = absurd (omega (arith, f))
same_none (r ∷ p) (q ∷ c) l e f = at_line_law (same r q) (same_break p c (suc l)) l e (λ a b. both a (same_none p c (suc l) b (omega (arith, f))))

none_same : (p c : List (List ℕ)) (l : ℕ) → same_lines p c ≡ true → (same_break p c l ≡ none) × (length p ≤ length c)
none_same [] [] l e = (refl, omega arith)
none_same [] (q ∷ c) l e = no_true e
none_same (r ∷ p) [] l e = no_true e
none_same (r ∷ p) (q ∷ c) l e = and_both (same r q) (same_lines p c) e (λ a b. let (x, y) = none_same p c (suc l) b in (rw a x, omega (arith, y)))

-- the request

request_none : (p c : List ℕ) (l : ℕ) → request_break p c l ≡ none → request_same p c ≡ true
request_none p c l e = at_line_law (request_same p c) none l e (λ a b. a)

none_request : (p c : List ℕ) (l : ℕ) → request_same p c ≡ true → request_break p c l ≡ none
none_request p c l e = rw e refl

-- ---- entities: lines ascend, so an entity has one line

-- r is among the lines
data In (r : List ℕ) : List (List ℕ) → Type 0 where
  here : {l : List (List ℕ)} → In r (r ∷ l)
  there : {q : List ℕ} {l : List (List ℕ)} → In r l → In r (q ∷ l)

rising_in : {r : List ℕ} (b : ℕ) {l : List (List ℕ)} → In r l → Rising b l → b ≤ at r 0
rising_in b here h = h.0
rising_in b (there {q = q} i) h = let z = rising_in (suc (at q 0)) i h.1 in let y = h.0 in omega (arith, y, z)

-- it is the one that is found
one_line : {r : List ℕ} (b : ℕ) {l : List (List ℕ)} → In r l → Rising b l → line_for (at r 0) l ≡ some r
one_line {r = r} b (here {l = l}) h = rw (eq-eqb (at r 0) (at r 0) refl) refl
one_line {r = r} b (there {q = q} {l = l} i) h =
    let z = rising_in (suc (at q 0)) i h.1 in
    ap (λ b. cond b (some q) (line_for (at r 0) l)) (ne_eqb (at q 0) (at r 0) (λ e. omega (arith, e, z))) ∙ one_line (suc (at q 0)) i h.1

-- what is found is among the lines, with that number
found_in : {X : Type 0} (n : ℕ) (l : List (List ℕ)) (r : List ℕ) → line_for n l ≡ some r → (In r l → at r 0 ≡ n → X) → X
found_in n [] r e f = no_some e
found_in {X} n (q ∷ l) r e f = go (eqb (at q 0) n) refl e (λ g. found_in n l r g (λ i z. f (there i) z))
  where
    go : (b : Bool) → eqb (at q 0) n ≡ b → cond b (some q) (line_for n l) ≡ some r → (line_for n l ≡ some r → X) → X
    go true g e ih = let z : q ≡ r = some-injective q r e in f (subst (λ x. In x (q ∷ l)) z here) (ap (λ x. at x 0) (sym z) ∙ eqb_true (at q 0) n g)
    go false g e ih = ih e

entity_none : (p c : List (List ℕ)) (l : ℕ) → entity_break p c l ≡ none → (q : List ℕ) → In q c → on_some true (line_for (at q 0) p) (λ r. entity_same r q) ≡ true
entity_none p [] l e q x'' = elim x'' [ ]
entity_none p (x ∷ c) l e q here = at_line_law (on_some true (line_for (at q 0) p) (λ r. entity_same r q)) (entity_break p c (suc l)) l e (λ a b. a)
entity_none p (x ∷ c) l e q (there i) = at_line_law (on_some true (line_for (at x 0) p) (λ r. entity_same r x)) (entity_break p c (suc l)) l e (λ a b. entity_none p c (suc l) b q i)

none_entity : (p c : List (List ℕ)) (l : ℕ) → ((q : List ℕ) → In q c → on_some true (line_for (at q 0) p) (λ r. entity_same r q) ≡ true) → entity_break p c l ≡ none
none_entity p [] l f = refl
none_entity p (q ∷ c) l f = rw (f q here) (none_entity p c (suc l) (λ x i. f x (there i)))

-- ---- entity lines of an accepted sheet

-- after the lines pre, each of rs is above the one before it
rising_from : (m : Mode) (s : State) → History m s → (pre rs : List (List ℕ)) → lines_of s ENTITY ≡ pre ++ rs → (b : ℕ) → ((r : List ℕ) (rest : List (List ℕ)) → rs ≡ r ∷ rest → b ≤ at r 0) → Rising b rs
rising_from m s h pre [] e b f = tt
rising_from m s h pre (r ∷ rs) e b f = (f r rs refl, rising_from m s h (pre ++ (r ∷ [])) rs (e ∙ sym (append_assoc pre (r ∷ []) rs)) (suc (at r 0)) next)
  where
    next : (q : List ℕ) (rest : List (List ℕ)) → rs ≡ q ∷ rest → suc (at r 0) ≤ at q 0
    next q rest g =
        let w = h ENTITY (pre ++ (r ∷ [])) q rest (e ∙ ap (λ z. pre ++ (r ∷ z)) g ∙ sym (append_assoc pre (r ∷ []) (q ∷ rest))) in
        above_last w.was pre r q w.mine (above_of w.was q w.pass.refers)

pub rising : (m : Mode) (s : State) → History m s → Rising 0 (lines_of s ENTITY)
rising m s h = rising_from m s h [] (lines_of s ENTITY) refl 0 (λ r rest e. omega arith)

-- ---- entities

known_line : {X : Type 0} (o : Option (List ℕ)) → on_some true o (λ q. false) ≡ false → ((q : List ℕ) → o ≡ some q → X) → X
known_line none e f = no_true (sym e)
known_line (some q) e f = f q refl

entities_none : (p c : List (List ℕ)) → Rising 0 p → ((q : List ℕ) → In q c → on_some true (line_for (at q 0) p) (λ r. entity_same r q) ≡ true) → (rs : List (List ℕ)) → ((r : List ℕ) → In r rs → In r p) → unlisted_in rs c ≡ false → all_listed rs c ≡ true
entities_none p c h f [] sub u = refl
entities_none p c h f (r ∷ rs) sub u =
    let (a, b) = neither (on_some true (line_for (at r 0) c) (λ q. false)) (unlisted_in rs c) u in
    known_line (line_for (at r 0) c) a (λ q e. found_in (at r 0) c q e (λ i z.
    both (ap (λ o. on_some false o (entity_same r)) e ∙ subst (λ o. on_some true o (λ x. entity_same x q) ≡ true) (ap (λ n. line_for n p) z ∙ one_line 0 (sub r here) h) (f q i))
    (entities_none p c h f rs (λ x j. sub x (there j)) b)))

listed_found : {X : Type 0} (r : List ℕ) (o : Option (List ℕ)) → on_some false o (entity_same r) ≡ true → ((q : List ℕ) → o ≡ some q → entity_same r q ≡ true → X) → X
listed_found r none e f = no_true e
listed_found r (some q) e f = f q refl e

all_listed_law : (p c : List (List ℕ)) → all_listed p c ≡ true → (r : List ℕ) → In r p → listed r c ≡ true
all_listed_law [] c e r x'' = elim x'' [ ]
all_listed_law (x ∷ p) c e r here = and_both (listed r c) (all_listed p c) e (λ a b. a)
all_listed_law (x ∷ p) c e r (there i) = and_both (listed x c) (all_listed p c) e (λ a b. all_listed_law p c b r i)

none_entities : (p c : List (List ℕ)) → Rising 0 c → all_listed p c ≡ true → (q : List ℕ) → In q c → on_some true (line_for (at q 0) p) (λ r. entity_same r q) ≡ true
none_entities p c h e q i = go (line_for (at q 0) p) refl
  where
    go : (o : Option (List ℕ)) → line_for (at q 0) p ≡ o → on_some true o (λ r. entity_same r q) ≡ true
    go none g = refl
    go (some r) g = found_in (at q 0) p r g (λ j z. listed_found r (line_for (at r 0) c) (all_listed_law p c e r j) (λ x a b.
        subst (λ y. entity_same r y ≡ true) (some-injective x q (sym a ∙ ap (λ n. line_for n c) z ∙ one_line 0 i h)) b))

none_unlisted : (p c : List (List ℕ)) → all_listed p c ≡ true → unlisted_in p c ≡ false
none_unlisted [] c e = refl
none_unlisted (r ∷ p) c e = and_both (listed r c) (all_listed p c) e (λ a b. listed_found r (line_for (at r 0) c) a (λ q f g. rw f (none_unlisted p c b)))

-- ---- the whole

abbrev AllNone : List (Option ℕ) → Type 0
AllNone [] = Unit {0}
AllNone (o ∷ l) = (o ≡ none) × AllNone l

all_none : (l : List (Option ℕ)) → first_some l ≡ none → AllNone l
all_none [] e = tt
all_none (none ∷ l) e = (refl, all_none l e)
all_none (some n ∷ l) e = no_some (sym e)

none_all : (l : List (Option ℕ)) → AllNone l → first_some l ≡ none
none_all [] h = refl
none_all (none ∷ l) h = none_all l h.1
none_all (some n ∷ l) h = no_some (sym h.0)

abbrev AllFalse : List Bool → Type 0
AllFalse [] = Unit {0}
AllFalse (b ∷ l) = (b ≡ false) × AllFalse l

all_false : (l : List Bool) → any_of l ≡ false → AllFalse l
all_false [] e = tt
all_false (b ∷ l) e = let (x, y) = neither b (any_of l) e in (x, all_false l y)

false_all : (l : List Bool) → AllFalse l → any_of l ≡ false
false_all [] h = refl
false_all (true ∷ l) h = no_true (sym h.0)
false_all (false ∷ l) h = false_all l h.1

short_no : (p c : List (List ℕ)) → shorter p c ≡ false → length p ≤ length c
short_no p c e = ltb-false (length c) (length p) e

no_short : (p c : List (List ℕ)) → length p ≤ length c → shorter p c ≡ false
no_short p c h = le-ltb (length c) (length p) h

-- no line: none breaks agreement, and none is lacking
no_line : (p c : State) → passed_line p c ≡ 0 → (first_some (breaks p c) ≡ none) × (lacks p c ≡ false)
unfolding passed_line
no_line p c e = go (first_some (breaks p c)) (lacks p c) e
  where
    go : (o : Option ℕ) (b : Bool) → on_some (cond b (suc (sum (counts c))) 0) o suc ≡ 0 → (o ≡ none) × (b ≡ false)
    go none true e = absurd (omega (arith, e))
    go none false e = (refl, refl)
    go (some n) b e = absurd (omega (arith, e))

lines_refl : (p : List (List ℕ)) → same_lines p p ≡ true
lines_refl [] = refl
lines_refl (r ∷ p) = both (same_refl r) (lines_refl p)

pub lines_are : {p c : List (List ℕ)} → p ≡ c → same_lines p c ≡ true
lines_are {p} e = subst (λ z. same_lines p z ≡ true) e (lines_refl p)

module _ (p c : State) (hp : History partial p) (hc : History complete c) where
  -- no line breaks agreement and none is lacking: they agree
  pub passed_agrees : passed_line p c ≡ 0 → agrees p c ≡ true
  unfolding agrees
  passed_agrees e =
      let (f, l) = no_line p c e in
      let b = all_none (breaks p c) f in
      let g = all_false (lacking p c) l in
      both (both (both (both (both (both (both (both (both (both (both (both (both (both
      (begin_none (lines_of p TEXT) (lines_of c TEXT) (before c TEXT) b.0 (short_no (lines_of p TEXT) (lines_of c TEXT) g.0))
      (begin_none (lines_of p VALUE) (lines_of c VALUE) (before c VALUE) b.1.1.1.1.0 (short_no (lines_of p VALUE) (lines_of c VALUE) g.1.1.1.1.0)))
      (same_none (lines_of p KIND) (lines_of c KIND) (before c KIND) b.1.0 (short_no (lines_of p KIND) (lines_of c KIND) g.1.0)))
      (same_none (lines_of p TYPE) (lines_of c TYPE) (before c TYPE) b.1.1.0 (short_no (lines_of p TYPE) (lines_of c TYPE) g.1.1.0)))
      (same_none (lines_of p SHAPE) (lines_of c SHAPE) (before c SHAPE) b.1.1.1.0 (short_no (lines_of p SHAPE) (lines_of c SHAPE) g.1.1.1.0)))
      (same_none (lines_of p NODE) (lines_of c NODE) (before c NODE) b.1.1.1.1.1.1.1.1.1.1.1.0 (short_no (lines_of p NODE) (lines_of c NODE) g.1.1.1.1.1.1.1.0)))
      (same_none (lines_of p POLICY) (lines_of c POLICY) (before c POLICY) b.1.1.1.1.1.1.1.1.1.1.1.1.0 (short_no (lines_of p POLICY) (lines_of c POLICY) g.1.1.1.1.1.1.1.1.0)))
      (same_none (lines_of p DAY) (lines_of c DAY) (before c DAY) b.1.1.1.1.1.1.1.1.1.1.0 (short_no (lines_of p DAY) (lines_of c DAY) g.1.1.1.1.1.1.0)))
      (same_none (lines_of p TERM) (lines_of c TERM) (before c TERM) b.1.1.1.1.1.1.1.1.1.1.1.1.1.1.0 (short_no (lines_of p TERM) (lines_of c TERM) g.1.1.1.1.1.1.1.1.1.1.0)))
      (same_none (lines_of p LINK) (lines_of c LINK) (before c LINK) b.1.1.1.1.1.1.1.1.1.1.1.1.1.0 (short_no (lines_of p LINK) (lines_of c LINK) g.1.1.1.1.1.1.1.1.1.0)))
      (request_none (line_at p PRINCIPAL 0) (line_at c PRINCIPAL 0) (before c PRINCIPAL) b.1.1.1.1.1.1.0))
      (request_none (line_at p ACTION 0) (line_at c ACTION 0) (before c ACTION) b.1.1.1.1.1.1.1.0))
      (request_none (line_at p RESOURCE 0) (line_at c RESOURCE 0) (before c RESOURCE) b.1.1.1.1.1.1.1.1.0))
      (request_none (line_at p CONTEXT 0) (line_at c CONTEXT 0) (before c CONTEXT) b.1.1.1.1.1.1.1.1.1.0))
      (entities_none (lines_of p ENTITY) (lines_of c ENTITY) (rising partial p hp) (entity_none (lines_of p ENTITY) (lines_of c ENTITY) (before c ENTITY) b.1.1.1.1.1.0) (lines_of p ENTITY) (λ r i. i) g.1.1.1.1.1.0)

  -- they agree: no line breaks agreement, and none is lacking
  pub agrees_passed : agrees p c ≡ true → passed_line p c ≡ 0
  unfolding passed_line
  agrees_passed e =
      let k = common p c e in
      let (b1, l1) = none_begin (lines_of p TEXT) (lines_of c TEXT) (before c TEXT) k.texts in
      let (b2, l2) = none_same (lines_of p KIND) (lines_of c KIND) (before c KIND) (lines_are k.kinds) in
      let (b3, l3) = none_same (lines_of p TYPE) (lines_of c TYPE) (before c TYPE) (lines_are k.types_same) in
      let (b4, l4) = none_same (lines_of p SHAPE) (lines_of c SHAPE) (before c SHAPE) (lines_are k.shapes) in
      let (b5, l5) = none_begin (lines_of p VALUE) (lines_of c VALUE) (before c VALUE) k.values in
      let (b11, l6) = none_same (lines_of p DAY) (lines_of c DAY) (before c DAY) (lines_are k.days) in
      let (b12, l7) = none_same (lines_of p NODE) (lines_of c NODE) (before c NODE) (lines_are k.nodes) in
      let (b13, l8) = none_same (lines_of p POLICY) (lines_of c POLICY) (before c POLICY) (lines_are k.policy_lines) in
      let (b14, l9) = none_same (lines_of p LINK) (lines_of c LINK) (before c LINK) (lines_are k.links) in
      let (b15, l10) = none_same (lines_of p TERM) (lines_of c TERM) (before c TERM) (lines_are k.terms) in
      let b6 = none_entity (lines_of p ENTITY) (lines_of c ENTITY) (before c ENTITY) (none_entities (lines_of p ENTITY) (lines_of c ENTITY) (rising complete c hc) k.entities) in
      let f = none_all (breaks p c) (
        b1,
        (
          b2,
          (
            b3,
            (
              b4,
              (
                b5,
                (
                  b6,
                  (
                    none_request (line_at p PRINCIPAL 0) (line_at c PRINCIPAL 0) (before c PRINCIPAL) k.who,
                    (
                      none_request (line_at p ACTION 0) (line_at c ACTION 0) (before c ACTION) k.does,
                      (none_request (line_at p RESOURCE 0) (line_at c RESOURCE 0) (before c RESOURCE) k.whom, (none_request (line_at p CONTEXT 0) (line_at c CONTEXT 0) (before c CONTEXT) k.where', (b11, (b12, (b13, (b14, (b15, tt))))))),
                    ),
                  ),
                ),
              ),
            ),
          ),
        ),
      ) in
      let g = false_all (lacking p c) (
        no_short (lines_of p TEXT) (lines_of c TEXT) l1,
        (
          no_short (lines_of p KIND) (lines_of c KIND) l2,
          (
            no_short (lines_of p TYPE) (lines_of c TYPE) l3,
            (
              no_short (lines_of p SHAPE) (lines_of c SHAPE) l4,
              (
                no_short (lines_of p VALUE) (lines_of c VALUE) l5,
                (none_unlisted (lines_of p ENTITY) (lines_of c ENTITY) k.entities, (no_short (lines_of p DAY) (lines_of c DAY) l6, (no_short (lines_of p NODE) (lines_of c NODE) l7, (no_short (lines_of p POLICY) (lines_of c POLICY) l8, (no_short (lines_of p LINK) (lines_of c LINK) l9, (no_short (lines_of p TERM) (lines_of c TERM) l10, tt)))))),
              ),
            ),
          ),
        ),
      ) in
      ap₂ (λ o b. on_some (cond b (suc (sum (counts c))) 0) o suc) f g

  -- where they agree no line breaks agreement
  pub agrees_none : agrees p c ≡ true → first_some (breaks p c) ≡ none
  agrees_none e = (no_line p c (agrees_passed e)).0

-- the line is 0 exactly where they agree
pub no_break_agrees : (p c : State) → breaking_line p c ≡ 0 → agrees p c ≡ true
unfolding breaking_line
no_break_agrees p c e = go (agrees p c) (break_from p c TEXT (no_key - TEXT)) e
  where
    go : (b : Bool) (o : Option ℕ) → cond b 0 (on_some (suc (sum (counts c))) o suc) ≡ 0 → b ≡ true
    go true o e = refl
    go false none e = absurd (omega (arith, e))
    go false (some n) e = absurd (omega (arith, e))

pub agrees_no_break : (p c : State) → agrees p c ≡ true → breaking_line p c ≡ 0
unfolding breaking_line
agrees_no_break p c e = rw e refl

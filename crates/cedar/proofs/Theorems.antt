-- The theorems of this crate in document 01's order, each under a plain name with the sentence that it states.
-- Every word of a statement is defined in specs/. `Example` meets the hypotheses of each once.
use mathlib.Core.Path.{◌≡◌, refl, subst, sym, ◌∙◌, ap}
use mathlib.Core.Bool.{true, false}
use mathlib.Core.List.{List}
use Prim.Native.Nat.{ℕ}
use Rattle.cedar.specs.Value.{Value, Values, ok, fail}
use Rattle.cedar.specs.Canonical.{same, order, make_set}
use Rattle.cedar.specs.Types.{Ty, tbool, Schema, Fits}
use Rattle.cedar.specs.Residual.{Node, Expr, ty_of, can_err}
use Rattle.cedar.specs.Typing.{Typed}
use Rattle.cedar.specs.TypingTest.{fits, check}
use Rattle.cedar.specs.Entities.{Env, PEnv, EnvFits, Agree, whole}
use Rattle.cedar.specs.Evaluate.{eval}
use Rattle.cedar.specs.Interpret.{class, gives, settle, interpret}
use Rattle.cedar.specs.Response.{Verdict, Decision, allow, deny, undecided, is_permit, is_forbid, is_open, decision, cedar, Choices}
use Rattle.cedar.specs.Runs.{Policy, result_class, complete_answer, NPolicy, NVerdict, n_run, verdicts}
use Rattle.cedar.specs.ContentRun.{Policies, partial_answer, handed_back}
use Rattle.cedar.specs.Rows.{Row, rset}
use Rattle.cedar.specs.Table.{At, Elems, Denotes, Table}
use Rattle.cedar.specs.Making.{intern, sort_n}
use Rattle.cedar.specs.Numbered.{NEnv, n_interpret}
use Rattle.cedar.specs.Reads.{Reads, ReadPolicies, EnvRead}
use Rattle.cedar.specs.Known.{cases, students, told_in, answers, values, answer, numbers, n_answer}
use Rattle.cedar.proofs.CanonicalLaws.{same_true, same_refl}
use Rattle.cedar.proofs.TypeSound.{yields}
use Rattle.cedar.proofs.Kept.{ty_of_law, must, fitting}
use Rattle.cedar.proofs.Agrees.{agree_knows}
use Rattle.cedar.proofs.Sound.{sound}
use Rattle.cedar.proofs.TypingTest.{fits_sound, check_sound}
use Rattle.cedar.proofs.TypingTestComplete.{fits_complete, check_complete}
use Rattle.cedar.proofs.Decisions.{allow_settled, deny_settled, fill_all, fill_choices, open_both}
use Rattle.cedar.proofs.Settled.{lines_settled, line_settled, policy_typed, allow_final, deny_final}
use Rattle.cedar.proofs.Again.{again, again_lines}
use Rattle.cedar.proofs.TableLaws.{number_inj, at_fun}
use Rattle.cedar.proofs.MakingLaws.{intern_makes, set_denotes}
use Rattle.cedar.proofs.Refine.{refine}
use Rattle.cedar.proofs.SettledByNumber.{n_lines, n_allow, n_deny, n_yields}
use Rattle.cedar.proofs.Total.{complete_run, complete_left}
use Rattle.cedar.proofs.BothRuns.{whole_total, whole_answer, complete_classes, both_lines, both_allow, both_deny}

-- "Values are equal by content, whatever their numbers."
pub content_equality : (v w : Value) → (same v w ≡ true → v ≡ w) × (v ≡ w → same v w ≡ true)
content_equality v w = (same_true v w, λ e. subst (λ x. same v x ≡ true) e (same_refl v))

-- "A value fits a record type if ..": the computed test of fitting accepts what fits and nothing else.
pub fits_test : (v : Value) (T : Ty) → (fits v T ≡ true → Fits v T) × (Fits v T → fits v T ≡ true)
fits_test v T = (fits_sound v T, λ f. fits_complete f)

-- "Typing": the computed typing test accepts what is typed and nothing else.
pub typing_test : (S : Schema) (e : Expr) → (check S e ≡ true → Typed S e (ty_of e)) × (Typed S e (ty_of e) → check S e ≡ true)
typing_test S e = (check_sound S e, λ h. check_complete S h)

-- "node=type,operation,..": a tree has one type, the one that its root says.
pub one_type : (S : Schema) (e : Expr) (T : Ty) → Typed S e T → ty_of e ≡ T
one_type S e T h = ty_of_law h

-- A complete request and entities that fit the schema.
module _ (S : Schema) (C : Env) (ft : EnvFits S C) where
  -- "Typing": what a typed tree yields fits its type.
  pub type_soundness : (e : Expr) (T : Ty) (v : Value) → Typed S e T → eval S C e ≡ ok v → Fits v T
  type_soundness e T v h q = fitting (yields S C ft h) q

  -- "add, sub, mul, neg, gettag, get and err can err; lit and var cannot; others err if a child can": nothing else errs.
  pub no_error : (e : Expr) (T : Ty) → Typed S e T → can_err e ≡ false → (v : Value) × (eval S C e ≡ ok v) × Fits v T
  no_error e T h q = must (yields S C ft h) q

  -- "complete run, defined by the Cedar specification": where all is known, interpretation leaves the value or error that evaluation gives, with the tree's type.
  pub complete_leaves : (e : Expr) (T : Ty) → Typed S e T → interpret S (whole C) e ≡ settle T e (gives (eval S C e))
  complete_leaves e T h = complete_left S (whole C) C ft (whole_total C) h

  -- "The policy's result there is true, false or error as it yields": it is what the complete run calls the policy.
  pub complete_is_evaluation : (e : Expr) (T : Ty) → Typed S e T → class (interpret S (whole C) e) ≡ result_class (eval S C e)
  complete_is_evaluation e T h = complete_run S (whole C) C ft (whole_total C) h

  -- The same for all policies: one interpreter serves the partial and the complete run.
  pub complete_answer_law : (ps : List Policy) → Policies S ps → partial_answer S (whole C) ps ≡ complete_answer S C ps
  complete_answer_law ps h = whole_answer S C ft h

  -- A partial request and entities with which they agree.
  module _ (P : PEnv) (ag : Agree P C) where
    -- "A decided answer keeps its node's type. A left side kept alone, or a right side or branch taken, keeps its own."
    pub same_type : (e : Expr) (T : Ty) → Typed S e T → Typed S (interpret S P e) T
    same_type e T h = (sound S P C ft (agree_knows ag) h).typed

    -- "an unknown part leaves the node": what is left yields what the tree yields, a value or an error.
    pub interpretation_sound : (e : Expr) (T : Ty) → Typed S e T → eval S C (interpret S P e) ≡ eval S C e
    interpretation_sound e T h = (sound S P C ft (agree_knows ag) h).same

    -- It errs exactly where the tree errs.
    pub errs_alike : (e : Expr) (T : Ty) → Typed S e T → (eval S C (interpret S P e) ≡ fail → eval S C e ≡ fail) × (eval S C e ≡ fail → eval S C (interpret S P e) ≡ fail)
    errs_alike e T h = let q = interpretation_sound e T h in (λ p. sym q ∙ p, λ p. q ∙ p)

    -- Demand 3. "Settled are .. a policy called `true`, `false` or `error`": an open one may turn into any of them, the others stay.
    pub policies_settled : (ps : List Policy) → Policies S ps → Choices (partial_answer S P ps) (complete_answer S C ps)
    policies_settled ps h = lines_settled S P C ft ag h

    -- The same for one policy: the complete line of a policy that is not open is its partial line.
    pub policy_settled : (ps : List Policy) → Policies S ps → (n : ℕ) (p c : Verdict) → At (partial_answer S P ps) n p → At (complete_answer S C ps) n c → is_open p.class ≡ false → c ≡ p
    policy_settled ps h n p c a b q = line_settled (policies_settled ps h) a b q

    -- "Settled are a decision `allow` ..": Cedar's rule over the results allows.
    pub allow_is_final : (ps : List Policy) → Policies S ps → decision (partial_answer S P ps) ≡ allow → cedar (complete_answer S C ps) ≡ allow
    allow_is_final ps h = allow_final S P C ft ag h

    -- ".. or `deny`": Cedar's rule over the results denies.
    pub deny_is_final : (ps : List Policy) → Policies S ps → decision (partial_answer S P ps) ≡ deny → cedar (complete_answer S C ps) ≡ deny
    deny_is_final ps h = deny_final S P C ft ag h

    -- "What a residual yields there is the same for the tree under its root in the partial answer."
    pub residuals_yield : (ps : List Policy) → Policies S ps → (n : ℕ) (p : Policy) → At ps n p → eval S C (interpret S P p.tree) ≡ eval S C p.tree
    residuals_yield ps h n p a = interpretation_sound p.tree tbool (policy_typed h a)

-- "Open" is given where some choice of true, false or error for each open policy yields allow and another deny,
pub open_has_both : (ls : List Verdict) → decision ls ≡ undecided → ((ms : List Verdict) × Choices ls ms × (cedar ms ≡ allow)) × ((ns : List Verdict) × Choices ls ns × (cedar ns ≡ deny))
open_has_both ls e = let (a, d) = open_both ls e in ((fill_all is_permit ls, fill_choices is_permit ls, a), (fill_all is_forbid ls, fill_choices is_forbid ls, d))

-- "and nowhere else."
pub both_is_open : (ls ms ns : List Verdict) → Choices ls ms → Choices ls ns → cedar ms ≡ allow → cedar ns ≡ deny → decision ls ≡ undecided
both_is_open ls ms ns h k p q = go (decision ls) refl
  where
    go : (d : Decision) → decision ls ≡ d → d ≡ undecided
    go allow e = let a = allow_settled k e in cc
    go deny e = let d = deny_settled h e in cc
    go undecided e = refl

-- Document 02, 2.13: "interpreting a residual again, with the same request, entities and schema, gives the same residual, class and decision".
pub idempotence : (S : Schema) (P : PEnv) (e : Expr) → interpret S P (interpret S P e) ≡ interpret S P e
idempotence S P e = again S P e

-- The same of an answer handed back: lines and decision.
pub idempotence_answer : (S : Schema) (P : PEnv) (ps : List Policy) → (partial_answer S P (handed_back S P ps) ≡ partial_answer S P ps) × (decision (partial_answer S P (handed_back S P ps)) ≡ decision (partial_answer S P ps))
idempotence_answer S P ps = (again_lines S P ps, ap decision (again_lines S P ps))

-- "value= .. distinct": in a table of distinct rows, numbers are equal exactly if their contents are.
pub number_equality : (R : List Row) (D : List Value) → Table R D → (m n : ℕ) (v w : Value) → At D m v → At D n w → (m ≡ n → v ≡ w) × (v ≡ w → m ≡ n)
number_equality R D t m n v w a b = (λ e. at_fun (subst (λ k. At D k v) e a) b, λ e. number_inj t m n w (subst (At D m) e a) b)

-- "A made value is added to the sheet's only if absent": the rows stay distinct, old numbers keep their contents, and the number has the content wanted.
pub made_if_absent : (R : List Row) (D : List Value) → Table R D → (r : Row) (v : Value) → Denotes D r v
    → (E : List Value) × Table (intern R r).rows E × ((m : ℕ) (w : Value) → At D m w → At E m w) × At E (intern R r).number v
made_if_absent R D t r v d = let k = intern_makes t d in (k.contents, k.table, k.keeps, k.at)

-- "a made set .. is ascending and without repeats": its row, sorted by number, stands for the set of its members' contents.
pub made_set : (D : List Value) (l : List ℕ) (vs : Values) → Elems D l vs → Denotes D (rset (sort_n l)) (make_set vs)
made_set D l vs h = set_denotes h

-- A numbered request and entities that read as the partial ones P, over the contents D of the value rows R.
module _ (S : Schema) (M : NEnv) (P : PEnv) (R : List Row) (D : List Value) (t : Table R D) (env : EnvRead D M P) where
  -- "made values .. numbered on from the sheet's": the numbered run leaves what interpretation by content leaves, read over all rows it ends with.
  pub numbers_read_as_content : (n : Node ℕ) (e : Expr) → Reads D n e
      → (E : List Value) × Table (n_interpret S M n R).rows E × ((m : ℕ) (v : Value) → At D m v → At E m v) × Reads E (n_interpret S M n R).tree (interpret S P e)
  numbers_read_as_content n e h = let k = refine S M P n t env h in (k.contents, k.table, k.keeps, k.reads)

  -- Policies that read as ps, typed as bool, and a complete request and entities that fit and agree: demand 3 for the numbered run.
  module _ (ns : List NPolicy) (ps : List Policy) (rd : ReadPolicies D ns ps) (ty : Policies S ps) (C : Env) (ft : EnvFits S C) (ag : Agree P C) where
    -- "Settled are .. a policy called `true`, `false` or `error`."
    pub numbered_policies_settled : Choices (verdicts (n_run S M ns R).lines) (complete_answer S C ps)
    numbered_policies_settled = n_lines S M P t env rd ty C ft ag

    -- "a decision `allow`"
    pub numbered_allow_is_final : decision (verdicts (n_run S M ns R).lines) ≡ allow → cedar (complete_answer S C ps) ≡ allow
    numbered_allow_is_final = n_allow S M P t env rd ty C ft ag

    -- "or `deny`"
    pub numbered_deny_is_final : decision (verdicts (n_run S M ns R).lines) ≡ deny → cedar (complete_answer S C ps) ≡ deny
    numbered_deny_is_final = n_deny S M P t env rd ty C ft ag

    -- "What a residual yields there .., with its `lit` numbers read among the partial sheet's values and the made ones."
    pub numbered_residuals_yield : (E : List Value) × Table (n_run S M ns R).rows E × ((m : ℕ) (v : Value) → At D m v → At E m v)
        × ((n : ℕ) (l : NVerdict) (p : Policy) → At (n_run S M ns R).lines n l → At ps n p → (e : Expr) × Reads E l.root e × (eval S C e ≡ eval S C p.tree))
    numbered_residuals_yield = n_yields S M P t env rd ty C ft ag

-- The complete run over numbers: all of C as known parts, over rows of its own.
module _ (S : Schema) (C : Env) (ft : EnvFits S C) (ps : List Policy) (ty : Policies S ps) (M' : NEnv) (R' : List Row) (D' : List Value) (t' : Table R' D') (env' : EnvRead D' M' (whole C)) (ns' : List NPolicy) (rd' : ReadPolicies D' ns' ps) where
  -- "What a policy yields on a complete sheet is the value or error that the Cedar specification gives its tree."
  pub numbered_complete_run : verdicts (n_run S M' ns' R').lines ≡ complete_answer S C ps
  numbered_complete_run = complete_classes S C ft M' t' env' rd' ty

  -- "Demand 3 compares the answers of three runs": a partial and a complete run, each over its own rows, numbers and made values.
  module _ (P : PEnv) (ag : Agree P C) (M : NEnv) (R : List Row) (D : List Value) (t : Table R D) (env : EnvRead D M P) (ns : List NPolicy) (rd : ReadPolicies D ns ps) where
    -- Policies that are not open are called the same.
    pub both_runs_policies : Choices (verdicts (n_run S M ns R).lines) (verdicts (n_run S M' ns' R').lines)
    both_runs_policies = both_lines S C ft P ag ty M t env rd M' t' env' rd'

    -- A decision `allow` is that of the complete run.
    pub both_runs_allow : decision (verdicts (n_run S M ns R).lines) ≡ allow → cedar (verdicts (n_run S M' ns' R').lines) ≡ allow
    both_runs_allow = both_allow S C ft P ag ty M t env rd M' t' env' rd'

    -- A decision `deny` is that of the complete run.
    pub both_runs_deny : decision (verdicts (n_run S M ns R).lines) ≡ deny → cedar (verdicts (n_run S M' ns' R').lines) ≡ deny
    both_runs_deny = both_deny S C ft P ag ty M t env rd M' t' env' rd'

-- "Cases K1 to K10 form one list with one theorem, over the definitions themselves."
pub K1_to_K10 : answers answer (cases values) ≡ told_in (cases values)
unfolding same order
K1_to_K10 = refl

-- The same list over value numbers.
pub K1_to_K10_by_number : answers n_answer (cases numbers) ≡ told_in (cases numbers)
unfolding same order
K1_to_K10_by_number = refl

-- "What students would write": the right answer to each.
pub students_cases : answers answer (students values) ≡ told_in (students values)
unfolding same order
students_cases = refl

-- The same list over value numbers.
pub students_cases_by_number : answers n_answer (students numbers) ≡ told_in (students numbers)
unfolding same order
students_cases_by_number = refl

-- The theorems of this crate in the documents' order, each under a plain name with the sentence that it states. A word of a statement that is not
-- defined in specs/ stands in the file that proves it. `samples` meets the hypotheses on sheets.
use mathlib.Core.Path.{◌≡◌}
use mathlib.Core.Bool.{false, true}
use mathlib.Core.Option.{some}
use mathlib.Core.List.{List, [], ◌++◌}
use Prim.Native.Nat.{ℕ, ◌≤◌, ◌<◌, ◌+◌}
use lib.ListN.{length, get_or, drop}
use Rattle.cedar.specs.Types.{Ty}
use Rattle.cedar.specs.Residual.{Node, can_err}
use Rattle.cedar.specs.Table.{Table}
use Rattle.cedar.specs.Entities.{EnvFits}
use Rattle.cedar.specs.Numbered.{mem_n}
use Rattle.cedar.specs.Response.{Verdict, permit, forbid, allow, deny, undecided, decision, cedar, is_permit, is_forbid, Choices}
use Rattle.cedar.specs.Runs.{verdicts}
use Rattle.cedar.specs.ContentRun.{Policies}
use Rattle.cedar.proofs.Decisions.{fill_all}
use Rattle.cedar.proofs.Completion.{KnownFits}
use Rattle.sheet.specs.Bytes.{split}
use Rattle.sheet.specs.Forms.{Mode, partial, complete, row_of}
use Rattle.sheet.specs.State.{State, count, line_at, sum, before}
use Rattle.sheet.specs.Parents.{Reaches, parents, ancestors, is_open, unknown_above}
use Rattle.sheet.specs.Sheet.{fault_of, read}
use Rattle.sheet.specs.Content.{types, value_rows, contents, schema, policies, p_env, env, on_term}
use Rattle.sheet.specs.Answer.{tree_rows, counts_of, run, results, answer}
use Rattle.sheet.specs.Call.{returned, written, Accepted}
use Rattle.sheet.specs.Why.{why}
use Rattle.sheet.specs.WhySaid.{Explained}
use Rattle.sheet.specs.Agreement.{agrees}
use Rattle.sheet.specs.ReadAnswer.{read_answer}
use Rattle.sheet.specs.Demand3.{Answered, bytes_of, Demand3}
use Rattle.sheet.proofs.reading.Refusals.{Ordered, in_number_order}
use Rattle.sheet.proofs.reading.Limits.{Most, most_lines}
use Rattle.sheet.proofs.reading.Depths.{Depths, read_reached, reached_history, reached_depths}
use Rattle.sheet.proofs.reading.LinePlaces.{line_stands}
use Rattle.sheet.proofs.reading.Checked.{accepted_read}
use Rattle.sheet.proofs.content.ValueRows.{values_table}
use Rattle.sheet.proofs.content.TypeNumbers.{Distinct, types_distinct}
use Rattle.sheet.proofs.content.EnvFit.{known_fits, env_fits}
use Rattle.sheet.proofs.content.Reaching.{reached_are, are_reached, same_above}
use Rattle.sheet.proofs.content.PoliciesRead.{policies_typed}
use Rattle.sheet.proofs.running.CanErr.{any_errs, can_err_law}
use Rattle.sheet.proofs.running.CompleteRun.{complete_by_number}
use Rattle.sheet.proofs.running.Counts.{partial_counts, open_both_ways, not_open}
use Rattle.sheet.proofs.running.NeverNine.{rows_at_most, never_nine}
use Rattle.sheet.proofs.running.WhyNamed.{FirstTrue, deny_first, deny_is, allow_first, allow_is}
use Rattle.sheet.proofs.answer.AnswerLength.{most_answer, never_ten}
use Rattle.sheet.proofs.answer.AnswerRead.{partial_said, complete_said, partial_answer_back, complete_answer_back}
use Rattle.sheet.proofs.answer.Buffers.{refusal_leaves, accepted_written}
use Rattle.sheet.proofs.answer.WhyRead.{name_explained}
use Rattle.sheet.proofs.demand3.Demand3Bytes.{facts}
use Rattle.sheet.proofs.demand3.Demand3Answers.{demand_3_bytes}

-- ---- reading

-- "with their greatest number of lines": of every sheet, as far as it was read.
pub greatest_numbers : (m : Mode) (sheet : List ℕ) → Most (read m sheet).state
greatest_numbers m sheet = most_lines m (read m sheet).state (reached_history (read_reached m sheet))

-- "on it 3 to 8 in number order": the tests before a line's refusal were passed, and all of them where there is none.
pub number_order : (s : State) (k : ℕ) (row : List ℕ) → Ordered s k row (fault_of s k row)
number_order s k row = in_number_order s k row

-- "A leaf has depth 1; a tree is never deeper than 64": of types, values and nodes, as far as a sheet was read.
pub depth_64 : (m : Mode) (sheet : List ℕ) → Depths (read m sheet).state
depth_64 m sheet = reached_depths (read_reached m sheet)

-- "its line is counted from 1": line i of a key stands after the lines of the keys before it.
pub where_lines_stand : (m : Mode) (sheet : List ℕ) → Accepted m sheet → (k i : ℕ) → i < count (read m sheet).state k → row_of m (get_or (split 10 sheet) (before (read m sheet).state k + i) []) ≡ line_at (read m sheet).state k i
where_lines_stand m sheet a k i h = line_stands m sheet (accepted_read m sheet a) k i h

-- ---- content

module _ (m : Mode) (sheet : List ℕ) (a : Accepted m sheet) where
  -- "Values are equal by content, whatever their numbers": the value lines are a table, no content twice.
  pub distinct_values : Table (value_rows (read m sheet).state) (contents (read m sheet).state)
  distinct_values = values_table m (read m sheet).state (facts m sheet a).history

  -- "types are distinct": by content.
  pub distinct_types : Distinct (types (read m sheet).state)
  distinct_types = types_distinct m (read m sheet).state (facts m sheet a).history

  -- "Typing": the policies of an accepted sheet are typed by content, with what their links put into the slots.
  pub typed_policies : Policies (schema (read m sheet).state) (policies (read m sheet).state)
  typed_policies = policies_typed m (read m sheet).state (facts m sheet a).history (facts m sheet a).ends

  -- "A value fits ..": what is known of the request and the entities fits the schema.
  pub fitting_parts : KnownFits (schema (read m sheet).state) (p_env (read m sheet).state)
  fitting_parts = known_fits m (read m sheet).state (facts m sheet a)

-- All of them on a complete sheet.
pub fitting_environment : (sheet : List ℕ) → Accepted complete sheet → EnvFits (schema (read complete sheet).state) (env (read complete sheet).state)
fitting_environment sheet a = env_fits (read complete sheet).state (facts complete sheet a)

-- "an entity's ancestors are all entities reached through parents, circles allowed"
pub all_reached : (values entities : List (List ℕ)) (n m : ℕ) → (Reaches (parents values entities) n m → mem_n m (ancestors values entities n) ≡ true) × (mem_n m (ancestors values entities n) ≡ true → Reaches (parents values entities) n m)
all_reached values entities n m = (λ h. reached_are values entities h, λ i. are_reached values entities n m i)

-- Ancestors that a sheet knows are the same on every sheet that has the same parents wherever they are known.
pub known_ancestors_stay : (values entities values' entities' : List (List ℕ)) → ((x : ℕ) → is_open values entities x ≡ false → parents values' entities' x ≡ parents values entities x)
    → (n : ℕ) → unknown_above values entities n ≡ false → (y : ℕ) → mem_n y (ancestors values' entities' n) ≡ mem_n y (ancestors values entities n)
known_ancestors_stay values entities values' entities' h n k y = same_above values entities values' entities' h n k y

-- ---- runs

-- "add, sub, mul, neg, gettag, get and err can err; lit and var cannot; others err if a child can": exactly the trees with a node of the seven.
pub errs_exactly : (ts : List Ty) (tree : Node ℕ) (n : ℕ) → can_err tree ≡ any_errs (tree_rows ts n tree)
errs_exactly ts tree n = can_err_law ts tree n

-- "a complete run, defined by the Cedar specification": the numbered run over a complete sheet gives its results.
pub complete_is_specified : (sheet : List ℕ) → Accepted complete sheet → verdicts (run complete (read complete sheet).state).lines ≡ results (read complete sheet).state
complete_is_specified sheet a = complete_by_number sheet a

-- "the eight counts sum to the policies on term"
pub eight_counts : (m : Mode) (s : State) → sum (counts_of (verdicts (run m s).lines)) ≡ length (on_term s)
eight_counts m s = partial_counts m s

-- "open" where some choice of the open results yields allow and another deny, and nowhere else.
pub open_where_both : (s : State) → decision (verdicts (run partial s).lines) ≡ undecided
    → (cedar (fill_all is_permit (verdicts (run partial s).lines)) ≡ allow) × (cedar (fill_all is_forbid (verdicts (run partial s).lines)) ≡ deny)
open_where_both s e = open_both_ways s e

pub settled_for_all : (s : State) (choice : List Verdict) → Choices (verdicts (run partial s).lines) choice
    → (decision (verdicts (run partial s).lines) ≡ allow → cedar choice ≡ allow) × (decision (verdicts (run partial s).lines) ≡ deny → cedar choice ≡ deny)
settled_for_all s choice h = not_open s h

-- "the first in the sheet's order": the name beside deny is the first true forbid's, beside allow the first true permit's.
module _ (ids : List ℕ) (lines : List Verdict) (i : ℕ) where
  pub first_forbid : decision lines ≡ deny → (why ids lines ≡ some i → FirstTrue forbid i ids lines) × (FirstTrue forbid i ids lines → why ids lines ≡ some i)
  first_forbid e = (deny_first ids lines e, deny_is ids lines e)

  pub first_permit : decision lines ≡ allow → (why ids lines ≡ some i → FirstTrue permit i ids lines) × (FirstTrue permit i ids lines → why ids lines ≡ some i)
  first_permit e = (allow_first ids lines e, allow_is ids lines e)

-- ---- answers and calls

-- "1,024 given and 1,024 made always fit": so 9 is never returned.
pub values_fit : (m : Mode) (sheet : List ℕ) → Accepted m sheet → length (run m (read m sheet).state).rows ≤ 2048
values_fit m sheet a = rows_at_most m sheet (accepted_read m sheet a)

pub nine_is_free : (m : Mode) (work₁ work₂ out : ℕ) (sheet : List ℕ) → (returned m work₁ work₂ out sheet).number ≡ 9 → ⊥
nine_is_free m work₁ work₂ out sheet e = never_nine m work₁ work₂ out sheet e

-- A buffer of 1,048,576 bytes never meets 10.
pub room_for_all : (m : Mode) (work₁ work₂ out : ℕ) (sheet : List ℕ) → most_answer ≤ out → (returned m work₁ work₂ out sheet).number ≤ 8
room_for_all m work₁ work₂ out sheet h = never_ten m work₁ work₂ out sheet h

-- "Every faulty sheet ..: its answer buffer stays untouched"; an accepted one's answer is written and nothing after it.
pub refused_untouched : (m : Mode) (work₁ work₂ : ℕ) (buffer sheet : List ℕ) → ((returned m work₁ work₂ (length buffer) sheet).number ≡ 0 → ⊥) → written m work₁ work₂ buffer sheet ≡ buffer
refused_untouched m work₁ work₂ buffer sheet f = refusal_leaves m work₁ work₂ buffer sheet f

pub accepted_only_answer : (m : Mode) (work₁ work₂ : ℕ) (buffer sheet : List ℕ) → (returned m work₁ work₂ (length buffer) sheet).number ≡ 0
    → written m work₁ work₂ buffer sheet ≡ answer m (read m sheet).state ++ drop (length (answer m (read m sheet).state)) buffer
accepted_only_answer m work₁ work₂ buffer sheet e = accepted_written m work₁ work₂ buffer sheet e

-- The bytes of an answer read back as what the run says.
pub partial_reads_back : (sheet : List ℕ) → Accepted partial sheet → read_answer partial (answer partial (read partial sheet).state) ≡ some (partial_said (read partial sheet).state)
partial_reads_back sheet a = partial_answer_back sheet a

pub complete_reads_back : (sheet : List ℕ) → Accepted complete sheet → read_answer complete (answer complete (read complete sheet).state) ≡ some (complete_said (read complete sheet).state)
complete_reads_back sheet a = complete_answer_back sheet a

-- The name in an answer's bytes is explained by its own policy lines.
pub explained_name : (m : Mode) (sheet : List ℕ) (x : Answered m sheet) → Explained m (bytes_of x)
explained_name m sheet x = name_explained m sheet x

-- ---- demand 3

-- "Demand 3 compares the answers of three runs": what the answer of a partial sheet settles, those of any two complete sheets that agree with it say.
pub demand_3 : (p c d : List ℕ) (x : Answered partial p) (y : Answered complete c) (z : Answered complete d)
    → agrees (read partial p).state (read complete c).state ≡ true → agrees (read partial p).state (read complete d).state ≡ true → Demand3 p c d (bytes_of x) (bytes_of y) (bytes_of z)
demand_3 p c d x y z e f = demand_3_bytes p c d x y z e f

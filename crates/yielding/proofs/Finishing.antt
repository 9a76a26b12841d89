-- THE RESIDUALS OF AN ACCEPTED PARTIAL SHEET ON AN ACCEPTED COMPLETE SHEET THAT AGREES: the classes that are left are those of what `eval` gives
-- them there, with their literals read among the partial sheet's values and the made ones.
use mathlib.Core.Path.{◌≡◌, refl, sym, ◌∙◌, ap, subst}
use mathlib.Core.Bool.{true, false}
use mathlib.Core.List.{List, [], ◌∷◌, ◌++◌}
use Prim.Native.Nat.{ℕ, ◌+◌, ◌*◌, ◌≤◌, ◌<◌}
use native.Mathlib.Omega.{arith}
use lib.ListN.{length, get_or, length-append}
use Rattle.cedar.specs.Value.{Value as Content, vbool}
use Rattle.cedar.specs.Residual.{Node, Expr}
use Rattle.cedar.specs.Entities.{Env}
use Rattle.cedar.specs.Rows.{Row}
use Rattle.cedar.specs.Table.{At, Table}
use Rattle.cedar.specs.Runs.{NVerdict, Run, Policy}
use Rattle.cedar.proofs.TableLaws.{at_fun}
use Rattle.cedar.proofs.SettledByNumber.{Residuals}
use Rattle.cedar.proofs.SettledByNumber as Q
use Rattle.sheet.specs.Forms.{partial, complete, VALUE, NODE}
use Rattle.sheet.specs.State.{State, lines_of, count, value_row}
use Rattle.sheet.specs.Sheet.{read}
use Rattle.sheet.specs.Content.{rows_in, value_rows, contents, schema, env, n_env, p_env, n_policies, on_term}
use Rattle.sheet.specs.Answer.{run}
use Rattle.sheet.specs.Call.{Accepted}
use Rattle.sheet.specs.Agreement.{agrees}
use Rattle.sheet.proofs.content.Fitting.{contents_length}
use Rattle.sheet.proofs.content.ValueRows.{at_get_d, rows_length}
use Rattle.sheet.proofs.running.MadeWords.{words_of, missing_most, budget}
use Rattle.sheet.proofs.answer.AnswerLength.{asked_words}
use Rattle.sheet.proofs.running.NeverNine.{policy_sizes_law}
use Rattle.sheet.proofs.demand3.TwoSheets.{Common, common, begins_with, val_same}
use Rattle.sheet.proofs.demand3.Demand3Bytes.{Settles, demand_3, facts}
use Rattle.table.specs.Layout.{rows_of, held, lines_held, RUN, MADE, limit, limits, Sound}
use Rattle.table.proofs.Rows.{count_rows}
use Rattle.value.specs.Lines.{value_lines}
use Rattle.value.proofs.Interned.{Formeds, one_formed}
use Rattle.residual.specs.Trees.{Ress, flats, count_res, trees_of, Wholes}
use Rattle.tpe.specs.Fits.{Fits}
use Rattle.tpe.specs.Run.{Ran, run_of}
use Rattle.tpe.proofs.Reach.{reach, reach_start}
use Rattle.tpe.proofs.Stands.{Hold, tys}
use Rattle.tpe.proofs.Policies.{roots_of, RunIs}
use Rattle.tpe.proofs.Accepted.{ready, run_fits}
use Rattle.interpret.proofs.Answered.{log_short}
use Rattle.evaluator.proofs.Gives.{Stand}
use Rattle.carried.specs.Carry.{number_there, There, carried_from, carried_of}
use Rattle.yielding.specs.Yields.{ran_of, classes_in, yielded_of}
use Rattle.yielding.proofs.Accounts.{takes_in, makes_in, budgets, run_words, run_count}
use Rattle.yielding.proofs.Working.{takes_sum, makes_sum, ReadEach, read_none, read_more}
use Rattle.yielding.proofs.Stacking.{Rooms, ran_is, classes_of}
use Rattle.yielding.proofs.Stacking as M
use Rattle.yielding.proofs.Bringing.{Brought, brought, words_in, words_are, here_there}

-- ---- lists

formeds_later : (a b : List (List ℕ)) → Formeds (a ++ b) → Formeds b
formeds_later [] b f = f
formeds_later (x ∷ a) b (one_formed h t) = formeds_later a b t

rows_both : (a b : List (List ℕ)) → rows_in (a ++ b) ≡ rows_in a ++ rows_in b
rows_both [] b = refl
rows_both (x ∷ a) b = ap (λ (l : List Row). value_row x ∷ l) (rows_both a b)

words_both : (a b : List Row) → words_of (a ++ b) ≡ words_of a + words_of b
words_both [] b = omega arith
words_both (x ∷ a) b = let h = words_both a b in omega (arith, h)

takes_roots : (vs : List NVerdict) → takes_sum (roots_of vs) ≡ takes_in vs
takes_roots [] = refl
takes_roots (v ∷ vs) = let h = takes_roots vs in omega (arith, h)

makes_roots : (vs : List NVerdict) → makes_sum (roots_of vs) ≡ makes_in vs
makes_roots [] = refl
makes_roots (v ∷ vs) = let h = makes_roots vs in omega (arith, h)

module _ (p pa pb : List ℕ) (xp : Accepted partial p) (ep : (read partial p).number ≡ 0) (hp : (read partial p).state ≡ held p pa pb) (soundp : Sound pa) (nonep : get_or pa MADE 0 ≡ 0) (runsp : rows_of pa RUN ≡ on_term (held p pa pb)) (fitsp : Fits pa) where
  abbrev S : State
  S = (read partial p).state

  abbrev x : Run
  x = run partial S

  abbrev t : Ran
  t = run_of partial p pa []

  is_run : RunIs partial p pa 64 [] x t
  is_run = run_fits p pa pb ep hp soundp nonep runsp fitsp

  abbrev kept : List ℕ
  kept = t.words

  values_kept : rows_of kept VALUE ≡ lines_of S VALUE
  unfolding held lines_held
  values_kept = is_run.hold.same VALUE (omega arith) ∙ sym (ap (λ (s : State). lines_of s VALUE) hp)

  nodes_kept : rows_of pa NODE ≡ lines_of S NODE
  unfolding held lines_held
  nodes_kept = sym (ap (λ (s : State). lines_of s NODE) hp)

  -- the rows of the values, and of those made
  rows_are : rows_in (rows_of kept VALUE ++ rows_of kept MADE) ≡ x.rows
  unfolding value_lines
  rows_are = is_run.rows

  formed_made : Formeds (rows_of kept MADE)
  unfolding value_lines
  formed_made = formeds_later (rows_of kept VALUE) (rows_of kept MADE) is_run.hold.formed

  rows_split : x.rows ≡ value_rows S ++ rows_in (rows_of kept MADE)
  unfolding value_rows
  rows_split = sym rows_are ∙ rows_both (rows_of kept VALUE) (rows_of kept MADE) ∙ ap (λ (l : List (List ℕ)). rows_in l ++ rows_in (rows_of kept MADE)) values_kept

  -- what was made and what evaluating the residuals may make
  made_words : words_in (rows_of kept MADE) + takes_in x.lines ≤ 12 + 3 * 1024
  unfolding run
  made_words =
      let N = n_env partial S in
      let a = run_words (schema S) N (budget N (asked_words partial S)) (budgets N (asked_words partial S)) (n_policies S) (value_rows S) in
      let b = ap words_of rows_split in
      let c = words_both (value_rows S) (rows_in (rows_of kept MADE)) in
      let d = words_are formed_made in
      let m = missing_most N (value_rows S) in
      let u = policy_sizes_law partial p ep in
      omega (arith, a, b, c, d, m, u)

  made_count : length (rows_of kept MADE) + makes_in x.lines ≤ 1024
  unfolding run
  made_count =
      let N = n_env partial S in
      let a = run_count (schema S) N (budget N (asked_words partial S)) (budgets N (asked_words partial S)) (n_policies S) (value_rows S) in
      let b = ap length rows_split in
      let c = length-append (value_rows S) (rows_in (rows_of kept MADE)) in
      let d = rows_length (rows_of kept MADE) in
      let u = policy_sizes_law partial p ep in
      omega (arith, a, b, c, d, u)

  module _ (c ca cb : List ℕ) (xc : Accepted complete c) (hc : (read complete c).state ≡ held c ca cb) (nonec : get_or ca MADE 0 ≡ 0) (fitsc : Fits ca) (ag : agrees S (read complete c).state ≡ true)
      (st : Stand c ca (env (read complete c).state) (contents (read complete c).state) ca) (ns : List ℕ) (long : 1024 ≤ length ns) where
    abbrev T : State
    T = (read complete c).state

    abbrev G : Env
    G = env T

    pub settled : Settles S T
    settled = demand_3 p c xp xc ag

    abbrev K : List Content
    K = settled.values

    agreed : Common S T
    agreed = common S T ag

    same_nodes : rows_of pa NODE ≡ rows_of ca NODE
    unfolding held lines_held
    same_nodes = nodes_kept ∙ agreed.nodes ∙ ap (λ (s : State). lines_of s NODE) hc

    table_kept : Table (rows_in (rows_of kept VALUE ++ rows_of kept MADE)) K
    table_kept = subst (λ (R : List Row). Table R K) (sym rows_are) settled.table

    -- the given values are values there
    given_there : (v : ℕ) (y : Content) → v < length (rows_of kept VALUE) → At K v y → At (contents T) (number_there (length (rows_of kept VALUE)) ns v) y
    given_there v y lt h =
        let fp = facts partial p xp in
        let fc = facts complete c xc in
        let n : length (rows_of kept VALUE) ≡ count S VALUE = ap length values_kept in
        let lp = contents_length partial S fp.history in
        let lc = contents_length complete T fc.history in
        let more : count S VALUE ≤ count T VALUE = begins_with (lines_of S VALUE) (lines_of T VALUE) agreed.values (λ rest e. let z = ap length e ∙ length-append (lines_of S VALUE) rest in omega (arith, z)) in
        let a : At K v (get_or (contents S) v (vbool false)) = settled.begin v (get_or (contents S) v (vbool false)) (at_get_d (contents S) v (vbool false) (omega (arith, lt, n, lp))) in
        let b : At (contents T) v (get_or (contents T) v (vbool false)) = at_get_d (contents T) v (vbool false) (omega (arith, lt, n, lc, more)) in
        let e : get_or (contents T) v (vbool false) ≡ y = val_same S T fp fc agreed v (omega (arith, lt, n)) ∙ at_fun a h in
        subst (λ (m : ℕ). At (contents T) m y) (sym (here_there (length (rows_of kept VALUE)) ns v lt)) (subst (At (contents T) v) e b)

    room_ca : reach ca ≤ 12792
    unfolding limit limits
    room_ca = let r = reach_start ca in omega (arith, r, fitsc)

    abbrev carried : There
    carried = carried_from (length (rows_of kept VALUE)) (rows_of kept MADE) 0 ca ns

    all_brought : Brought c ca G K (rows_of kept VALUE) (rows_of kept MADE) table_kept (contents T) ca (words_in (rows_of kept MADE)) (length (rows_of kept MADE)) carried
    all_brought =
        let w = made_words in
        let m = made_count in
        let r = room_ca in
        brought c ca G K (rows_of kept VALUE) (rows_of kept MADE) table_kept [] (rows_of kept MADE) refl formed_made (contents T) ca ns st
        (λ v y lt h. given_there v y (omega (arith, lt)) h) (omega (arith, r, w)) (omega (arith, nonec, m)) (omega (arith, w)) (omega (arith, m, long))

    -- the residuals can be read
    read_roots : {ls : List NVerdict} {qs : List Policy} → Residuals (schema T) (n_env partial S) (p_env S) K ls qs → (Xs : List Expr) × ReadEach c ca G K (roots_of ls) Xs
    read_roots Q.none = ([], read_none)
    read_roots (Q.more r rs) = let (Xs, h) = read_roots rs in (_ ∷ Xs, read_more r h)

    pub readable : (Xs : List Expr) × ReadEach c ca G K (roots_of x.lines) Xs
    readable = read_roots settled.readable

    abbrev ress : Ress
    ress = is_run.ress

    trees_there : trees_of (tys p pa) (rows_of ca NODE) ress ≡ roots_of x.lines
    trees_there = ap (λ (l : List (List ℕ)). trees_of (tys p pa) l ress) (sym same_nodes) ∙ is_run.trees

    wholes_there : Wholes (tys p pa) (rows_of ca NODE) 64 ress
    wholes_there = subst (λ (l : List (List ℕ)). Wholes (tys p pa) l 64 ress) same_nodes is_run.wholes

    log_long : length (flats ress) ≤ 4096
    log_long = let a = log_short p p pa pb (ready p pa pb ep hp soundp nonep runsp fitsp) in let b = ap length is_run.log in omega (arith, a, b)

    rooms : Rooms c ca G (tys p pa) K (length (rows_of kept VALUE)) carried.numbers (takes_sum (trees_of (tys p pa) (rows_of ca NODE) ress)) (makes_sum (trees_of (tys p pa) (rows_of ca NODE) ress)) (length (flats ress)) (count_res ress) carried.words []
    rooms =
        let w = made_words in
        let m = made_count in
        let r = room_ca in
        let b = all_brought in
        let u = ap takes_sum trees_there ∙ takes_roots x.lines in
        let v = ap makes_sum trees_there ∙ makes_roots x.lines in
        let l = log_long in
        record { top = omega (arith, w, r, b.top, u); few = omega (arith, m, nonec, b.few, v); log = omega (arith, l); rows = refl }

    -- THE THEOREM
    module _ (Xs : List Expr) (reads : ReadEach c ca G K (roots_of x.lines) Xs) where
      abbrev ran : M.Ran c ca G (tys p pa) K (length (rows_of kept VALUE)) carried.numbers t.log carried.words Xs
      ran =
          ran_is c ca G (tys p pa) K (length (rows_of kept VALUE)) carried.numbers ress wholes_there Xs all_brought.contents carried.words t.log is_run.log all_brought.stand all_brought.maps rooms
          (subst (λ (ts : List (Node ℕ)). ReadEach c ca G K ts Xs) (sym trees_there) reads)

      carried_as : carried_of kept ca ns ≡ carried
      unfolding carried_of
      carried_as = ap (λ (g : ℕ). carried_from g (rows_of kept MADE) 0 ca ns) (sym (count_rows kept VALUE))

      pub yielded_classes : (yielded_of c t.log kept ca ns).log ≡ classes_of c ca G (tys p pa) K (length (rows_of kept VALUE)) carried.numbers Xs
      unfolding yielded_of
      yielded_classes =
          (λ i. classes_in (ran_of c (sym (count_rows kept VALUE) i) (carried_as i).numbers t.log (carried_as i).words []).words (ran_of c (sym (count_rows kept VALUE) i) (carried_as i).numbers t.log (carried_as i).words []).log) ∙ ran.classes

      pub yielded_hold : Hold ca (yielded_of c t.log kept ca ns).words
      unfolding yielded_of
      yielded_hold =
          let e : (ran_of c (get_or kept VALUE 0) (carried_of kept ca ns).numbers t.log (carried_of kept ca ns).words []).words ≡ (ran_of c (length (rows_of kept VALUE)) carried.numbers t.log carried.words []).words =
          λ i. (ran_of c (sym (count_rows kept VALUE) i) (carried_as i).numbers t.log (carried_as i).words []).words in
          subst (Hold ca) (sym e) ran.hold

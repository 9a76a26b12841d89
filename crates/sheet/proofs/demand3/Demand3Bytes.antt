-- DEMAND 3 ON BYTES: what an accepted partial sheet's answer settles, every accepted complete sheet that agrees confirms.
use mathlib.Core.Path.{◌≡◌, refl, sym, ◌∙◌, ap, ap₂, subst}
use mathlib.Core.Bool.{Bool, true, false, cond, ◌&&◌, ◌||◌}
use mathlib.Core.Option.{none, some, some-injective}
use mathlib.Core.List.{List, [], ◌∷◌, ◌++◌}
use Prim.Native.Nat.{ℕ, zero, suc, ◌<◌, ◌+◌, ◌-◌, ◌*◌}
use native.Mathlib.Omega.{arith}
use borrow.Author.Tests.{ltb-true}
use lib.Dec.{ltb, eqb}
use lib.ListN.{length, get_or, drop, get_or-append}
use Rattle.cedar.proofs.Tools.{no_some, all_snoc}
use Rattle.cedar.specs.Value.{Value}
use Rattle.cedar.specs.Types.{Ty, tbool, Var, principal, action, resource, context}
use Rattle.cedar.specs.Residual.{star, piece, Node, err, Class}
use Rattle.cedar.specs.Response.{Effect, Verdict, allow, deny, is_permit, is_forbid, is_true, is_open, any_line, decide, decision, cedar, Choice, keep_true, keep_false, keep_error, take_true, take_false, take_error, Choices, done, also}
use Rattle.cedar.specs.Rows.{rbool, rlong, rtext, rent, rset, rrec}
use Rattle.cedar.specs.Table.{At, Table}
use Rattle.cedar.specs.Numbered.{Give, made, old}
use Rattle.cedar.proofs.SettledByNumber.{Yielding, Residuals, run_reads, n_lines, n_allow, n_deny, n_residuals}
use Rattle.sheet.specs.Forms.{Mode, partial, complete, forms, form_of, slot_at, tag, items, at, mark, key_of, TEXT, VALUE, NODE, PRINCIPAL, ACTION, RESOURCE, CONTEXT}
use Rattle.sheet.specs.State.{State, lines_of, count, line_at, entries_of, value_row}
use Rattle.sheet.specs.Bytes.{long_at}
use Rattle.sheet.specs.Sheet.{all_there, there_is, read}
use Rattle.sheet.specs.Content.{types, rows_in, value_rows, contents, schema, pattern_of, children_over, args_over, tree_for, tree_over, trees_from, trees, numbered_policies, n_policies, policies, known, n_env, p_env, env, on_term, linked}
use Rattle.sheet.specs.Answer.{run, results}
use Rattle.sheet.specs.Call.{Accepted}
use Rattle.sheet.specs.Agreement.{agrees}
use Rattle.sheet.proofs.reading.Lines.{and_both, Was, History, accepted_history, accepted_fit}
use Rattle.sheet.proofs.reading.Checked.{accepted_read}
use Rattle.sheet.proofs.content.ValueRows.{values_table}
use Rattle.sheet.proofs.reading.NodeRows.{row_read}
use Rattle.sheet.proofs.reading.Slots.{like_slot}
use Rattle.sheet.proofs.content.PoliciesRead.{all_there_law, item_there, policies_typed}
use Rattle.sheet.proofs.content.Environment.{Facts, all_keys, env_read}
use Rattle.sheet.proofs.content.EnvFit.{env_fits}
use Rattle.sheet.proofs.demand3.TwoSheets.{Common, common, begins_with, schema_eq, read_as, env_agrees}
use Rattle.cedar.proofs.TextsOnly.{RowOk, RowsOk, Pieces, Texts, xlit, xerr, xvar, xand, xor, xite, xun, xbin, xrel, xget, xhas, xpath, xset, xrec, AllTexts, xnil, xcons, ArgTexts, xstop, xarg, GiveOk, PolicyTexts, none_left, one_more, same_run}
use Rattle.cedar.specs.Runs.{n_run, verdicts}

-- ---- the texts of a sheet's own rows and patterns

rows_all : (N : ℕ) (l : List (List ℕ)) → ((pre : List (List ℕ)) (r : List ℕ) (rest : List (List ℕ)) → l ≡ pre ++ (r ∷ rest) → RowOk N (value_row r)) → RowsOk N (rows_in l)
rows_all N [] f n = tt
rows_all N (r ∷ l) f zero = f [] r l refl
rows_all N (r ∷ l) f (suc n) = rows_all N l (λ pre x rest e. f (r ∷ pre) x rest (ap (λ z. r ∷ z) e)) n

pieces_of : (u : State) (N : ℕ) → count u TEXT ≡ N → (j : ℕ) (l : List ℕ) → all_there u 40 (suc (suc j)) l ≡ true → Pieces N (pattern_of l)
pieces_of u N e j [] a = tt
pieces_of u N e j (x ∷ l) a = and_both (there_is u (slot_at 40 (suc (suc j))) x) (all_there u 40 (suc (suc (suc j))) l) a (λ p q.
    go (eqb x mark) (sym (ap (λ z. there_is u z x) (like_slot j)) ∙ p) (pieces_of u N e (suc j) l q))
  where
    go : (b : Bool) → (b || ltb x (count u 1)) ≡ true → Pieces N (pattern_of l) → Pieces N (cond b star (piece x) ∷ pattern_of l)
    go true p h = h
    go false p h = let z = ltb-true x (count u 1) p in (omega (arith, z, e), h)

module _ (m : Mode) (s : State) (h : History m s) where
  texts : ℕ
  texts = count s TEXT

  text_row_law : (pre : List (List ℕ)) (r : List ℕ) → Was m s VALUE pre r → RowOk texts (value_row r)
  unfolding texts slot_at form_of forms key_of
  text_row_law pre [] w = tt
  text_row_law pre (t ∷ l) w = go (t - 10) refl
    where
      go : (d : ℕ) → t - 10 ≡ d → RowOk (count s 1) (get_or (rbool (eqb (get_or l 0 0) 1) ∷ rlong (long_at (get_or l 0 0 * 4294967296 + get_or l 1 0)) ∷ rtext (get_or l 0 0) ∷ rent (get_or l 0 0) (get_or l 1 0) ∷ rset l ∷ rrec (entries_of l) ∷ []) d (rbool false))
      go zero q = tt
      go (suc zero) q = tt
      go (suc (suc zero)) q =
          let rd = row_read m (t ∷ l) w.line 12 w.row (omega (arith, q)) (omega arith) (omega arith) (λ z. absurd (omega (arith, z))) in
          subst (λ z. get_or l 0 0 < length z) (w.earlier 1 (omega arith)) (ltb-true (get_or l 0 0) (count w.was 1) (item_there m s w.was VALUE (t ∷ l) 12 rd w.pass.refers 0 (ltb-true 0 1 refl)))
      go (suc (suc (suc zero))) q = tt
      go (suc (suc (suc (suc zero)))) q = tt
      go (suc (suc (suc (suc (suc zero))))) q = tt
      go (suc (suc (suc (suc (suc (suc d)))))) q = tt

  rows_ok : RowsOk texts (value_rows s)
  unfolding value_rows
  rows_ok = rows_all texts (lines_of s VALUE) (λ pre r rest e. text_row_law pre r (h VALUE pre r rest e))

  abbrev AllOk : List (Node ℕ) → Type 0
  AllOk ns = (n : ℕ) → Texts texts (get_or ns n (err tbool))

  module _ (ts : List Ty) (p q : ℕ) where
    module _ (ns : List (Node ℕ)) (k : AllOk ns) where
      all_texts : (l : List ℕ) → AllTexts texts (children_over ts (λ n. n) ns l)
      all_texts [] = xnil
      all_texts (n ∷ l) = xcons (k n) (all_texts l)

      arg_texts : (l : List ℕ) → ArgTexts texts (args_over ts (λ n. n) ns l)
      arg_texts [] = xstop
      arg_texts (t ∷ []) = xstop
      arg_texts (t ∷ n ∷ l) = xarg (k n) (arg_texts l)

      tree_texts : (r : List ℕ) → (tag r - 21 ≡ 19 → Pieces texts (pattern_of (drop 2 (items r)))) → (d : ℕ) → tag r - 21 ≡ d → Texts texts (get_or (tree_for ts (λ n. n) (linked (λ n. n) p q) ns r (get_or ts (at r 0) tbool) (λ j. get_or ns (at r j) (err tbool))) d (err tbool))
      tree_texts r f zero u = xlit
      tree_texts r f (suc zero) u = xerr
      tree_texts r f (suc (suc zero)) u = xvar
      tree_texts r f (suc (suc (suc zero))) u = xand (k (at r 1)) (k (at r 2))
      tree_texts r f (suc (suc (suc (suc zero)))) u = xor (k (at r 1)) (k (at r 2))
      tree_texts r f (suc (suc (suc (suc (suc zero))))) u = xbin (k (at r 1)) (k (at r 2))
      tree_texts r f (suc (suc (suc (suc (suc (suc zero)))))) u = xbin (k (at r 1)) (k (at r 2))
      tree_texts r f (suc (suc (suc (suc (suc (suc (suc zero))))))) u = xbin (k (at r 1)) (k (at r 2))
      tree_texts r f (suc (suc (suc (suc (suc (suc (suc (suc zero)))))))) u = xbin (k (at r 1)) (k (at r 2))
      tree_texts r f (suc (suc (suc (suc (suc (suc (suc (suc (suc zero))))))))) u = xbin (k (at r 1)) (k (at r 2))
      tree_texts r f (suc (suc (suc (suc (suc (suc (suc (suc (suc (suc zero)))))))))) u = xbin (k (at r 1)) (k (at r 2))
      tree_texts r f (suc (suc (suc (suc (suc (suc (suc (suc (suc (suc (suc zero))))))))))) u = xrel (k (at r 1)) (k (at r 2))
      tree_texts r f (suc (suc (suc (suc (suc (suc (suc (suc (suc (suc (suc (suc zero)))))))))))) u = xrel (k (at r 1)) (k (at r 2))
      tree_texts r f (suc (suc (suc (suc (suc (suc (suc (suc (suc (suc (suc (suc (suc zero))))))))))))) u = xrel (k (at r 1)) (k (at r 2))
      tree_texts r f (suc (suc (suc (suc (suc (suc (suc (suc (suc (suc (suc (suc (suc (suc zero)))))))))))))) u = xbin (k (at r 1)) (k (at r 2))
      tree_texts r f (suc (suc (suc (suc (suc (suc (suc (suc (suc (suc (suc (suc (suc (suc (suc zero))))))))))))))) u = xbin (k (at r 1)) (k (at r 2))
      tree_texts r f (suc (suc (suc (suc (suc (suc (suc (suc (suc (suc (suc (suc (suc (suc (suc (suc zero)))))))))))))))) u = xbin (k (at r 1)) (k (at r 2))
      tree_texts r f (suc (suc (suc (suc (suc (suc (suc (suc (suc (suc (suc (suc (suc (suc (suc (suc (suc zero))))))))))))))))) u = xite (k (at r 1)) (k (at r 2)) (k (at r 3))
      tree_texts r f (suc (suc (suc (suc (suc (suc (suc (suc (suc (suc (suc (suc (suc (suc (suc (suc (suc (suc zero)))))))))))))))))) u = xun tt (k (at r 1))
      tree_texts r f (suc (suc (suc (suc (suc (suc (suc (suc (suc (suc (suc (suc (suc (suc (suc (suc (suc (suc (suc zero))))))))))))))))))) u = xun (f u) (k (at r 1))
      tree_texts r f (suc (suc (suc (suc (suc (suc (suc (suc (suc (suc (suc (suc (suc (suc (suc (suc (suc (suc (suc (suc zero)))))))))))))))))))) u = xget (k (at r 1))
      tree_texts r f (suc (suc (suc (suc (suc (suc (suc (suc (suc (suc (suc (suc (suc (suc (suc (suc (suc (suc (suc (suc (suc zero))))))))))))))))))))) u = xhas (k (at r 1))
      tree_texts r f (suc (suc (suc (suc (suc (suc (suc (suc (suc (suc (suc (suc (suc (suc (suc (suc (suc (suc (suc (suc (suc (suc zero)))))))))))))))))))))) u = xpath (k (at r 1))
      tree_texts r f (suc (suc (suc (suc (suc (suc (suc (suc (suc (suc (suc (suc (suc (suc (suc (suc (suc (suc (suc (suc (suc (suc (suc zero))))))))))))))))))))))) u = xun tt (k (at r 1))
      tree_texts r f (suc (suc (suc (suc (suc (suc (suc (suc (suc (suc (suc (suc (suc (suc (suc (suc (suc (suc (suc (suc (suc (suc (suc (suc zero)))))))))))))))))))))))) u = xun tt (k (at r 1))
      tree_texts r f (suc (suc (suc (suc (suc (suc (suc (suc (suc (suc (suc (suc (suc (suc (suc (suc (suc (suc (suc (suc (suc (suc (suc (suc (suc zero))))))))))))))))))))))))) u = xun tt (k (at r 1))
      tree_texts r f (suc (suc (suc (suc (suc (suc (suc (suc (suc (suc (suc (suc (suc (suc (suc (suc (suc (suc (suc (suc (suc (suc (suc (suc (suc (suc zero)))))))))))))))))))))))))) u = xset (all_texts (drop 1 (items r)))
      tree_texts r f (suc (suc (suc (suc (suc (suc (suc (suc (suc (suc (suc (suc (suc (suc (suc (suc (suc (suc (suc (suc (suc (suc (suc (suc (suc (suc (suc zero))))))))))))))))))))))))))) u = xrec (arg_texts (drop 1 (items r)))
      tree_texts r f (suc (suc (suc (suc (suc (suc (suc (suc (suc (suc (suc (suc (suc (suc (suc (suc (suc (suc (suc (suc (suc (suc (suc (suc (suc (suc (suc (suc zero)))))))))))))))))))))))))))) u = xlit
      tree_texts r f (suc (suc (suc (suc (suc (suc (suc (suc (suc (suc (suc (suc (suc (suc (suc (suc (suc (suc (suc (suc (suc (suc (suc (suc (suc (suc (suc (suc (suc d))))))))))))))))))))))))))))) u = xerr

    texts_from : (rows : List (List ℕ)) → ((pre : List (List ℕ)) (r : List ℕ) (rest : List (List ℕ)) → rows ≡ pre ++ (r ∷ rest) → tag r - 21 ≡ 19 → Pieces texts (pattern_of (drop 2 (items r)))) → (ns : List (Node ℕ)) → AllOk ns → AllOk (trees_from ts (λ n. n) (linked (λ n. n) p q) ns rows)
    texts_from [] f ns k = k
    texts_from (r ∷ rows) f ns k = texts_from rows (λ pre x rest e. f (r ∷ pre) x rest (ap (λ z. r ∷ z) e)) (ns ++ (tree_over ts (λ n. n) (linked (λ n. n) p q) ns r ∷ [])) (all_snoc (Texts texts) (err tbool) xerr ns (tree_over ts (λ n. n) (linked (λ n. n) p q) ns r) k (tree_texts ns k r (f [] r rows refl) (tag r - 21) refl))

  pattern_ok : (pre : List (List ℕ)) (r : List ℕ) (rest : List (List ℕ)) → lines_of s NODE ≡ pre ++ (r ∷ rest) → tag r - 21 ≡ 19 → Pieces texts (pattern_of (drop 2 (items r)))
  unfolding texts
  pattern_ok pre r rest e q = let w = h NODE pre r rest e in go r q w.was (ap length (w.earlier 1 (omega arith))) (all_there_law w.was NODE r w.pass.refers)
    where
      go : (r : List ℕ) → tag r - 21 ≡ 19 → (u : State) → count u 1 ≡ count s 1 → all_there u (tag r) 0 (items r) ≡ true → Pieces (count s 1) (pattern_of (drop 2 (items r)))
      go [] q u c a = tt
      go (t ∷ []) q u c a = tt
      go (t ∷ x ∷ []) q u c a = tt
      go (t ∷ x ∷ y ∷ l) q u c a = and_both (there_is u (slot_at t 0) x) (there_is u (slot_at t 1) y && all_there u t 2 l) a (λ p b. and_both (there_is u (slot_at t 1) y) (all_there u t 2 l) b (λ p b.
          pieces_of u (count s 1) c 0 l (subst (λ z. all_there u z 2 l ≡ true) (omega (arith, q)) b)))

-- ---- the decision over results that are not open

pub choice_closed : {c d : Class} → Choice c d → is_open d ≡ false
choice_closed keep_true = refl
choice_closed keep_false = refl
choice_closed keep_error = refl
choice_closed take_true = refl
choice_closed take_false = refl
choice_closed take_error = refl

and_false : (b : Bool) → (b && false) ≡ false
and_false true = refl
and_false false = refl

closed : (f : Effect → Bool) {ls ms : List Verdict} → Choices ls ms → any_line f is_open ms ≡ false
closed f done = refl
closed f (also {e = e} h hs) = rw (choice_closed h, and_false (f e)) (closed f hs)

decide_closed : (tf tp : Bool) → decide tf tp false false ≡ cond tf deny (cond tp allow deny)
decide_closed true tp = refl
decide_closed false true = refl
decide_closed false false = refl

pub decision_closed : {ls ms : List Verdict} → Choices ls ms → decision ms ≡ cedar ms
decision_closed {ms = ms} h = ap₂ (λ x y. decide (any_line is_forbid is_true ms) (any_line is_permit is_true ms) x y) (closed is_permit h) (closed is_forbid h) ∙ decide_closed (any_line is_forbid is_true ms) (any_line is_permit is_true ms)

-- ---- what two states give

-- what the partial answer settles, the complete one says too
pub record Settles (p c : State) : Type 0 where
  -- each policy's line: true, false and error are final
  pub lines : Choices (verdicts (run partial p).lines) (results c)
  -- the decision, where it is given
  pub allowed : decision (verdicts (run partial p).lines) ≡ allow → decision (results c) ≡ allow
  pub denied : decision (verdicts (run partial p).lines) ≡ deny → decision (results c) ≡ deny
  -- each residual can be read, its numbers among the sheet's values and the made ones, and so read yields what its policy yields
  pub values : List Value
  pub table : Table (run partial p).rows values
  pub begin : (n : ℕ) (v : Value) → At (contents p) n v → At values n v
  pub readable : Residuals (schema c) (n_env partial p) (p_env p) values (run partial p).lines (policies c)
  pub residuals : Yielding (schema c) (n_env partial p) (p_env p) values (env c) (run partial p).lines (policies c)

module _ (p c : State) (fp : Facts partial p) (fc : Facts complete c) (k : Common p c) where
  bytes_agree : (t : ℕ) → t < count p TEXT → (schema p).bytes t ≡ (schema c).bytes t
  unfolding schema
  bytes_agree t lt = begins_with (lines_of p TEXT) (lines_of c TEXT) k.texts (λ rest e. ap items (sym (get_or-append (lines_of p TEXT) rest [] t lt)) ∙ ap (λ l. items (get_or l t [])) (sym e))

  known_ok : (n : ℕ) (a g : Give) → GiveOk (count p TEXT) a → known n a ≡ some g → GiveOk (count p TEXT) g
  known_ok n a g h e = go (eqb n mark) e
    where
      go : (b : Bool) → cond b none (some a) ≡ some g → GiveOk (count p TEXT) g
      go true e = no_some e
      go false e = subst (GiveOk (count p TEXT)) (some-injective a g e) h

  asked : (x : Var) (g : Give) → (n_env partial p).request x ≡ some g → GiveOk (count p TEXT) g
  unfolding n_env
  asked principal g e = known_ok (at (line_at p PRINCIPAL 0) 1) (made (rent (at (line_at p PRINCIPAL 0) 0) (at (line_at p PRINCIPAL 0) 1))) g tt e
  asked action g e = known_ok (at (line_at p ACTION 0) 1) (made (rent (at (line_at p ACTION 0) 0) (at (line_at p ACTION 0) 1))) g tt e
  asked resource g e = known_ok (at (line_at p RESOURCE 0) 1) (made (rent (at (line_at p RESOURCE 0) 0) (at (line_at p RESOURCE 0) 1))) g tt e
  asked context g e = known_ok (at (line_at p CONTEXT 0) 1) (old (at (line_at p CONTEXT 0) 1)) g tt e

  policy_texts : (rs : List (List ℕ)) → PolicyTexts (count p TEXT) (schema c) (schema p).bytes bytes_agree (n_env partial p) asked (numbered_policies (trees p) rs)
  unfolding trees texts
  policy_texts [] = none_left
  policy_texts (r ∷ rs) = one_more (texts_from partial p fp.history (types p) (at r 3) (at r 4) (lines_of p NODE) (pattern_ok partial p fp.history) [] (λ n. xerr) (at r 2)) (policy_texts rs)

  -- the run with the complete sheet's texts is the same
  run_same : run partial p ≡ n_run (schema c) (n_env partial p) (n_policies p) (value_rows p)
  unfolding run n_policies texts
  run_same = ap (λ S. n_run S (n_env partial p) (n_policies p) (value_rows p)) (schema_eq p c fp fc k)
      ∙ same_run (count p TEXT) (schema c) (schema p).bytes bytes_agree (n_env partial p) asked (policy_texts (on_term p)) (value_rows p) (rows_ok partial p fp.history)

  t : Table (value_rows p) (contents p)
  t = values_table partial p fp.history

  lines_choices : Choices (verdicts (run partial p).lines) (results c)
  unfolding results
  lines_choices = subst (λ r. Choices (verdicts r.lines) (results c)) (sym run_same)
      (n_lines (schema c) (n_env partial p) (p_env p) t (env_read p fp) (read_as p c fp fc k) (policies_typed complete c fc.history fc.ends) (env c) (env_fits c fc) (env_agrees p c fp fc k))

  pub settles : Settles p c
  unfolding results
  settles =
      let reads = run_reads (schema c) (n_env partial p) (p_env p) (n_policies p) t (env_read p fp) (read_as p c fp fc k) in
      record {
        lines = lines_choices;
        allowed = λ e. decision_closed lines_choices ∙ n_allow (schema c) (n_env partial p) (p_env p) t (env_read p fp) (read_as p c fp fc k) (policies_typed complete c fc.history fc.ends) (env c) (env_fits c fc) (env_agrees p c fp fc k) (subst (λ r. decision (verdicts r.lines) ≡ allow) run_same e);
        denied = λ e. decision_closed lines_choices ∙ n_deny (schema c) (n_env partial p) (p_env p) t (env_read p fp) (read_as p c fp fc k) (policies_typed complete c fc.history fc.ends) (env c) (env_fits c fc) (env_agrees p c fp fc k) (subst (λ r. decision (verdicts r.lines) ≡ deny) run_same e);
        values = reads.contents;
        table = subst (λ r. Table r.rows reads.contents) (sym run_same) reads.table;
        begin = reads.keeps;
        readable = subst (λ r. Residuals (schema c) (n_env partial p) (p_env p) reads.contents r.lines (policies c)) (sym run_same) reads.residuals;
        residuals = subst (λ r. Yielding (schema c) (n_env partial p) (p_env p) reads.contents (env c) r.lines (policies c)) (sym run_same)
            (n_residuals (schema c) (n_env partial p) (p_env p) t (env_read p fp) (read_as p c fp fc k) (policies_typed complete c fc.history fc.ends) (env c) (env_fits c fc) (env_agrees p c fp fc k));
      }

-- ---- from bytes

pub facts_read : (m : Mode) (sheet : List ℕ) → (read m sheet).number ≡ 0 → Facts m (read m sheet).state
facts_read m sheet e = let (h, f) = accepted_history m sheet e in record { history = h; ends = f; keys = all_keys m sheet e; fit = accepted_fit m sheet e }

pub facts : (m : Mode) (sheet : List ℕ) → Accepted m sheet → Facts m (read m sheet).state
facts m sheet a = facts_read m sheet (accepted_read m sheet a)

-- THE THEOREM, for one complete sheet, and for two
pub demand_3 : (p c : List ℕ) → Accepted partial p → Accepted complete c → agrees (read partial p).state (read complete c).state ≡ true → Settles (read partial p).state (read complete c).state
demand_3 p c ap' ac e = settles (read partial p).state (read complete c).state (facts partial p ap') (facts complete c ac) (common (read partial p).state (read complete c).state e)

pub demand_3_both : (p c₁ c₂ : List ℕ) → Accepted partial p → Accepted complete c₁ → Accepted complete c₂ → agrees (read partial p).state (read complete c₁).state ≡ true → agrees (read partial p).state (read complete c₂).state ≡ true
    → Settles (read partial p).state (read complete c₁).state × Settles (read partial p).state (read complete c₂).state
demand_3_both p c₁ c₂ a a₁ a₂ e₁ e₂ = (demand_3 p c₁ a a₁ e₁, demand_3 p c₂ a a₂ e₂)

-- A path over words: the laws of its walk and of what is left over of it. Assumes nothing.
use mathlib.Core.Path.{◌≡◌, refl, sym, ap, ◌∙◌, subst}
use mathlib.Core.Bool.{Bool, true, false}
use mathlib.Core.Option.{Option, none, some}
use mathlib.Core.List.{List, [], ◌∷◌}
use Prim.Native.Nat.{ℕ, zero, suc, ◌+◌, ◌-◌, ◌≤◌, ◌<◌}
use native.Mathlib.Nat.{le_refl}
use native.Mathlib.Numerals.{add-one}
use native.Mathlib.Omega.{arith}
use native.Mathlib.Decide.{dec_lt}
use lib.ListN.{get_or, take, drop, length, length-take, length-drop}
use Rattle.cedar.specs.Value.{on_some}
use Rattle.cedar.specs.Interpret.{alone}
use Rattle.cedar.specs.TypeRules.{has_rule}
use Rattle.cedar.specs.Rows.{Entries, Row, rbool, rlong, rtext, rent, rset, rrec}
use Rattle.cedar.specs.Numbered.{Give, NEnv, nentity, give_row, r_rec, entry_of, is_some, on_entries, stays}
use Rattle.forms.specs.Tags.{HAS}
use Rattle.sheet.specs.Bytes.{same}
use Rattle.sheet.specs.Forms.{partial, items, at, TYPE, NODE, alone_row}
use Rattle.sheet.specs.Content.{rows_in}
use Rattle.words.specs.Log.{appended, Appended, Room}
use Rattle.words.proofs.Logs.{append_holds, append_room, log_cut, log_length}
use Rattle.table.specs.Layout.{base, row_at, rows_of}
use Rattle.table.proofs.Rows.{row_none, row_some, count_rows}
use Rattle.value.specs.Lines.{value_lines}
use Rattle.value.proofs.Makes.{Finding, find_start, find_end, find_hit, find_on}
use Rattle.value.specs.Made.{bool_row}
use Rattle.residual.specs.Rows.{lit_row, err_row, left_row, word_at, stage_at}
use Rattle.residual.specs.Errs.{errs}
use Rattle.residual.specs.declared.Stage.{Stage}
use Rattle.residual.specs.declared.Stage.TheVariants.{Value, Error, Open}
use Rattle.rules.specs.Rules.{rule_in, schema_at}
use Rattle.std.specs.Prelude.{Some, None}
use Rattle.rules.proofs.Same.{has_same, has_kind_same}
use Rattle.strict.specs.Gives.{out_of}
use Rattle.lookup.specs.Lookups.{values, value_in, look_attr}
use Rattle.strict.specs.Gives as G
use Rattle.walk.specs.Walks.{walk_step}
use Rattle.walk.specs.Walks as S
use Rattle.strict.proofs.Entities.{look_as, in_value}
use Rattle.strict.specs.declared.Given.{Given}
use Rattle.lookup.specs.declared.Look.{Look}
use Rattle.lookup.specs.declared.Look.TheVariants.{At, Missing, Unknown as Unknownˡ, Bad}
use Rattle.walk.specs.declared.Walked.{Walked}
use Rattle.walk.specs.declared.Walked.TheVariants.{Holds, Fails, Left}
use Rattle.tpe.specs.Run.{left, left_of, made_of, Walk, lost, says, stuck, walk_from, entity_type, schema_in, ty_in, env_in, unmoved_of, stuck_of, walked_of, path_by, path_of, settle_of}
use Rattle.tpe.specs.Leaves.{Leaves}
use Rattle.tpe.specs.Gives.{one_rule, unless_err, walk_in, Taken, rule_or}
use Rattle.tpe.proofs.Slices.{word_log, stage_log, errs_log}
use Rattle.tpe.proofs.Settling.{error_put, left_put}
use Rattle.tpe.proofs.Worked.{Ruled, ruled_settles}

-- ---- the type line of a kind

abbrev pub Seeking : List ℕ → ℕ → ℕ → ℕ → Type 0
Seeking a k n i = Finding (alone_row k) (rows_of a TYPE) n i

module _ (a : List ℕ) (k n : ℕ) where
  pub seek_start : n ≡ get_or a TYPE 0 → Seeking a k n 0
  seek_start e = find_start (alone_row k) (rows_of a TYPE) n (e ∙ sym (count_rows a TYPE))

  module _ (i : ℕ) (g : Seeking a k n i) where
    pub seek_end : n ≤ i → n ≡ entity_type a k
    unfolding entity_type
    seek_end h = find_end (alone_row k) (rows_of a TYPE) n i g h

    module _ (h : i < n) (q l : List ℕ) (el : l ≡ alone_row k) (eq : q ≡ get_or (rows_of a TYPE) i []) (b : Bool) (eb : b ≡ same q l) where
      is_same : b ≡ same q (alone_row k)
      is_same = eb ∙ ap (same q) el

      pub seek_hit : b ≡ true → i ≡ entity_type a k
      unfolding entity_type
      seek_hit e = find_hit (alone_row k) (rows_of a TYPE) n i g h q eq b is_same e

      pub seek_on : b ≡ false → Seeking a k n (i + 1)
      seek_on e = find_on (alone_row k) (rows_of a TYPE) n i g h q eq b is_same e

-- ---- the walk

walk_link : (a ts : List ℕ) (t v j : ℕ) → walk_in (S.walk_from false a v j (t ∷ ts)) ≡ walk_from (env_in partial [] a) (rows_in (value_lines a)) ts t v j
unfolding S.walk_from walk_from look_attr value_in values env_in G.env_in
walk_link a [] t v j = sym (in_value false a lost (λ k. stuck j v k) (λ o. says (is_some o)) t (value_in a v) ∙ go (look_attr false a v t))
  where
    go : (l : Look) → look_as lost (λ k. stuck j v k) (λ o. says (is_some o)) l ≡ walk_in (walk_step v j l true (λ x. S.walk_from false a x (suc j) []))
    go (At x) = refl
    go Missing = refl
    go (Unknownˡ k) = refl
    go Bad = refl
walk_link a (u ∷ us) t v j = sym (in_value false a lost (λ k. stuck j v k) next t (value_in a v) ∙ go (λ x. walk_link a us u x (suc j)) (look_attr false a v t))
  where
    next : Option ℕ → Walk
    next o = on_some (says false) o (λ w. walk_from (env_in partial [] a) (rows_in (value_lines a)) us u w (suc j))

    go : ((x : ℕ) → walk_in (S.walk_from false a x (suc j) (u ∷ us)) ≡ walk_from (env_in partial [] a) (rows_in (value_lines a)) us u x (suc j))
        → (l : Look) → look_as lost (λ k. stuck j v k) next l ≡ walk_in (walk_step v j l false (λ x. S.walk_from false a x (suc j) (u ∷ us)))
    go ih (At x) = sym (ih x)
    go ih Missing = refl
    go ih (Unknownˡ k) = refl
    go ih Bad = refl

-- a row's texts, of which there is one at least; else the first one is read as 0
no_texts : (r : List ℕ) → length (drop 2 (items r)) ≡ 0 → (at r 2 ≡ 0) × (drop 3 (items r) ≡ [])
no_texts [] h = (refl, refl)
no_texts (x ∷ []) h = (refl, refl)
no_texts (x ∷ y ∷ []) h = (refl, refl)
no_texts (x ∷ y ∷ z ∷ []) h = (refl, refl)
no_texts (x ∷ y ∷ z ∷ w ∷ r) h = absurd (omega (arith, h))

some_texts : (r : List ℕ) → (length (drop 2 (items r)) ≡ 0 → ⊥) → drop 2 (items r) ≡ at r 2 ∷ drop 3 (items r)
some_texts [] h = absurd (h refl)
some_texts (x ∷ []) h = absurd (h refl)
some_texts (x ∷ y ∷ []) h = absurd (h refl)
some_texts (x ∷ y ∷ z ∷ []) h = absurd (h refl)
some_texts (x ∷ y ∷ z ∷ w ∷ r) h = refl

module _ (a : List ℕ) (n v : ℕ) (r l : List ℕ) (w : Walked) (er : r ≡ get_or (rows_of a NODE) n []) (el : l ≡ drop 2 (items r)) where
  abbrev Walked₁ : Type 0
  Walked₁ = walk_in w ≡ walk_from (env_in partial [] a) (rows_in (value_lines a)) (drop 3 (items (get_or (rows_of a NODE) n []))) (at (get_or (rows_of a NODE) n []) 2) v 0

  pub walked_none : length l ≡ 0 → w ≡ S.walk_from false a v 0 (0 ∷ []) → Walked₁
  walked_none h e =
      let z = no_texts r (ap length (sym el) ∙ h) in
      rw (← er, z.0, z.1, e) (walk_link a [] 0 v 0)

  pub walked_some : (length l ≡ 0 → ⊥) → w ≡ S.walk_from false a v 0 l → Walked₁
  walked_some h e =
      let z = some_texts r (λ q. h (ap length el ∙ q)) in
      rw (← er, e, el, z) (walk_link a (drop 3 (items r)) (at r 2) v 0)

-- ---- how many steps

abbrev Low : ℕ → Walk → Type 0
Low n lost = Unit {0}
Low n (says b) = Unit {0}
Low n (stuck j v k) = j ≤ n

low_entries : (n : ℕ) (N : NEnv) (R : List Row) (u : ℕ → ℕ → Walk) (f : Entries → Walk) → ((k i : ℕ) → Low n (u k i)) → ((x : Entries) → Low n (f x)) → (r : Row) → Low n (on_entries N R lost u r f)
low_entries n N R u f p q (rbool b) = tt
low_entries n N R u f p q (rlong z) = tt
low_entries n N R u f p q (rtext t) = tt
low_entries n N R u f p q (rent k t) = go (nentity N k t).attrs
  where
    of : (r : Row) → Low n (r_rec lost r f)
    of (rbool b) = tt
    of (rlong z) = tt
    of (rtext t) = tt
    of (rent k t) = tt
    of (rset l) = tt
    of (rrec x) = q x

    go : (o : Option Give) → Low n (on_some (u k t) o (λ a. r_rec lost (give_row R a) f))
    go none = p k t
    go (some a) = of (give_row R a)
low_entries n N R u f p q (rset l) = tt
low_entries n N R u f p q (rrec x) = q x

low_walk : (n : ℕ) (N : NEnv) (R : List Row) (us : List ℕ) (t v j : ℕ) → j + length us ≤ n → Low n (walk_from N R us t v j)
unfolding walk_from
low_walk n N R [] t v j h = low_entries n N R (λ k i. stuck j v k) (λ e. says (is_some (entry_of t e))) (λ k i. omega (arith, h)) (λ x. tt) (get_or R v (rbool false))
low_walk n N R (u ∷ us) t v j h =
    low_entries n N R (λ k i. stuck j v k) (λ e. on_some (says false) (entry_of t e) (λ w. walk_from N R us u w (suc j))) (λ k i. omega (arith, h)) (λ x. go (λ w. low_walk n N R us u w (suc j) (omega (arith, h))) (entry_of t x)) (get_or R v (rbool false))
  where
    go : ((w : ℕ) → Low n (walk_from N R us u w (suc j))) → (o : Option ℕ) → Low n (on_some (says false) o (λ w. walk_from N R us u w (suc j)))
    go f none = tt
    go f (some w) = f w

few_steps : (a r : List ℕ) (v x k j : ℕ) → walk_from (env_in partial [] a) (rows_in (value_lines a)) (drop 3 (items r)) (at r 2) v 0 ≡ stuck j x k → j ≤ length r - 4
few_steps a r v x k j e =
    subst (Low (length r - 4)) e
    (low_walk (length r - 4) (env_in partial [] a) (rows_in (value_lines a)) (drop 3 (items r)) (at r 2) v 0 (omega (arith, length-drop 3 (items r), length-drop 1 r)))

-- a row ends where its word says
row_ends : (a : List ℕ) (i : ℕ) → length (row_at a i) ≤ get_or a (i + 1) 0
unfolding row_at
row_ends a i = rw (add-one i) (omega (arith, length-take (get_or a (suc i) 0 - get_or a i 0) (drop (get_or a i 0) a)))

row_short : (a : List ℕ) (n : ℕ) → length (get_or (rows_of a NODE) n []) ≤ get_or a (base NODE + n + 1) 0
row_short a n = go (dec_lt n (get_or a NODE 0))
  where
    go : Dec (n < get_or a NODE 0) → length (get_or (rows_of a NODE) n []) ≤ get_or a (base NODE + n + 1) 0
    go (yes h) = rw (← row_some a NODE n (get_or a NODE 0) (base NODE) (row_at a (base NODE + n)) refl h refl refl) (row_ends a (base NODE + n))
    go (no h) = rw (← row_none a NODE n (get_or a NODE 0) refl (omega (arith, h))) (omega arith)

module _ (a : List ℕ) (n b end j : ℕ) (eb : b ≡ base NODE) (ee : end ≡ get_or a (b + n + 1) 0) where
  row_end : length (get_or (rows_of a NODE) n []) ≤ end
  row_end = rw (ee, eb) (row_short a n)

  pub taken_none : end < 2 → Taken (length (get_or (rows_of a NODE) n [])) j 0
  taken_none h = record { is = λ q. omega (arith, q, row_end); low = omega arith }

  pub taken_over : 2 ≤ end → end - 2 ≤ j → Taken (length (get_or (rows_of a NODE) n [])) j 0
  taken_over h i = record { is = λ q. omega (arith, q, row_end, h, i); low = omega arith }

-- ---- what is left over

pub rest_put : (a b b₁ b₂ : List ℕ) (start bt p e n y j v k T : ℕ) → Room b bt → start ≤ bt → T ≡ entity_type a k → Appended b start (lit_row v T) b₁ p → Appended b₁ p (left_row n j (p - start) y) b₂ e
    → Leaves start a b₂ e (left_of a (appended (take start b) (lit_row v (entity_type a k))) (length (take start b)) n j y)
rest_put a b b₁ b₂ start bt p e n y j v k T room le et w u =
    let low : Room b start = record { low = omega (arith, room.low); long = room.long } in
    rw (← et, ← (append_holds low w).is, log_length b start low) (left_put a b₁ b₂ start p e y (append_room low w) (append_holds low w).grows n j u)

module _ (a b b' : List ℕ) (start n j v k e y u : ℕ) (r : List ℕ) (q : Ruled) (er : r ≡ get_or (rows_of a NODE) n []) (ey : y ≡ get_or r 1 0) (eu : u ≡ get_or r (3 + j) 0) (eq : rule_in q ≡ has_rule (schema_at a) u (alone k)) where
  next_text : has_rule (schema_at a) (at r (2 + j)) (alone k) ≡ rule_in q
  next_text = let z : suc (2 + j) ≡ 3 + j = omega arith in rw (z, ← eu) (sym eq)

  pub stuck_left : q ≡ None → Leaves start a b' e (left_of a (appended (take start b) (lit_row v (entity_type a k))) (length (take start b)) n j y)
      → Leaves start a b' e (stuck_of partial [] a (take start b) n (get_or (rows_of a NODE) n []) j v k (has_rule (schema_at a) (at (get_or (rows_of a NODE) n []) (2 + j)) (alone k)))
  unfolding stuck_of
  stuck_left s h = rw (← er, next_text, s, ← ey) h

  pub stuck_said : (a' : List ℕ) (x : Bool) → q ≡ Some x → Leaves start a' b' e (made_of a (take start b) y (bool_row x))
      → Leaves start a' b' e (stuck_of partial [] a (take start b) n (get_or (rows_of a NODE) n []) j v k (has_rule (schema_at a) (at (get_or (rows_of a NODE) n []) (2 + j)) (alone k)))
  unfolding stuck_of
  stuck_said a' x s h = rw (← er, next_text, s, ← ey) h

-- ---- from a value

module _ (a b b' : List ℕ) (start bt n v e y : ℕ) (w : Walked) (le : start ≤ bt) (ey : y ≡ at (get_or (rows_of a NODE) n []) 0)
    (ew : walk_in w ≡ walk_from (env_in partial [] a) (rows_in (value_lines a)) (drop 3 (items (get_or (rows_of a NODE) n []))) (at (get_or (rows_of a NODE) n []) 2) v 0) where
  abbrev From : List ℕ → Type 0
  From a₁ = Leaves start a₁ b' e (walked_of partial [] a (take bt b) start n (get_or (rows_of a NODE) n [])
      (walk_from (env_in partial [] a) (rows_in (value_lines a)) (drop 3 (items (get_or (rows_of a NODE) n []))) (at (get_or (rows_of a NODE) n []) 2) v 0))

  pub from_holds : (a' : List ℕ) (x : Bool) → w ≡ Holds x → Leaves start a' b' e (made_of a (take start b) y (bool_row x)) → From a'
  unfolding walked_of
  from_holds a' x q h = rw (← ew, q, log_cut b bt start le, ← ey) h

  pub from_fails : Room b bt → w ≡ Fails → Appended b start (err_row y) b' e → From a
  unfolding walked_of
  from_fails room q p = rw (← ew, q, ← ey) (error_put a b b' start bt e y room le p)

  module _ (a' : List ℕ) (x k j : ℕ) (q : w ≡ Left x k j) where
    pub from_here : j ≡ 0 → Leaves start a' b' e (unmoved_of partial [] a (take bt b) start n (get_or (rows_of a NODE) n [])) → From a'
    unfolding walked_of
    from_here z h = rw (← ew, q, z) h

    -- what is left after some steps
    abbrev Rest : ℕ → Type 0
    Rest i = Leaves start a' b' e (stuck_of partial [] a (take start b) n (get_or (rows_of a NODE) n []) i x k (has_rule (schema_at a) (at (get_or (rows_of a NODE) n []) (2 + i)) (alone k)))

    after : (i : ℕ) → (i ≡ 0 → ⊥) → Rest i → Leaves start a' b' e (walked_of partial [] a (take bt b) start n (get_or (rows_of a NODE) n []) (stuck i x k))
    unfolding walked_of schema_in
    after zero z h = absurd (z refl)
    after (suc i) z h = rw (log_cut b bt start le, has_kind_same [] a (at (get_or (rows_of a NODE) n []) (2 + suc i)) k) h

    pub from_left : (i : ℕ) → (j ≡ 0 → ⊥) → Taken (length (get_or (rows_of a NODE) n [])) j i → Rest i → From a'
    from_left i z t h =
        let s : i ≡ j = t.is (few_steps a (get_or (rows_of a NODE) n []) v x k j (sym ew ∙ ap walk_in q)) in
        rw (← ew, q) (after j z (subst Rest s h))

-- ---- with no step taken

pub unmoved_settled : (a b a' b' : List ℕ) (start bt n e y : ℕ) (q : Ruled) (g : Given) → Room b bt → y ≡ at (get_or (rows_of a NODE) n []) 0
    → rule_in q ≡ unless_err (errs (rows_of a NODE) b bt) (one_rule HAS a (get_or (rows_of a NODE) n []) (word_at b bt 3)) → out_of g ≡ rule_or (rule_in q) stays
    → Leaves start a' b' e (settle_of a (take bt b) start n y (out_of g))
    → Leaves start a' b' e (unmoved_of partial [] a (take bt b) start n (get_or (rows_of a NODE) n []))
unfolding settle_of unmoved_of schema_in ty_in one_rule
unmoved_settled a b a' b' start bt n e y q g room ey eq eg z =
    rw (
      log_length b bt room,
      ← errs_log b bt (rows_of a NODE) bt (le_refl bt),
      ← word_log b bt bt 3 (le_refl bt) (omega arith),
      has_same [] a (at (get_or (rows_of a NODE) n []) 2) (word_at b bt 3),
      ← ey,
      ruled_settles a (take bt b) start n y (errs (rows_of a NODE) b bt) (one_rule HAS a (get_or (rows_of a NODE) n []) (word_at b bt 3)) stays,
      ← eq,
      ← eg,
    ) z

-- ---- `path`

module _ (a b b' : List ℕ) (start bt n e : ℕ) (s : Stage) (room : Room b bt) (le : start ≤ bt) (es : s ≡ stage_at b bt) where
  abbrev OnPath : List ℕ → Type 0
  OnPath a' = Leaves start a' b' e (path_of partial [] start n (get_or (rows_of a NODE) n []) (left a (take bt b)))

  as_path : (a' : List ℕ) → Leaves start a' b' e (path_by partial [] a (take bt b) start n (get_or (rows_of a NODE) n []) s) → OnPath a'
  unfolding path_of
  as_path a' h = rw (log_length b bt room, ← stage_log b bt bt (le_refl bt), ← es) h

  pub path_value : (a' : List ℕ) (v : ℕ) → s ≡ Value v
      → Leaves start a' b' e (walked_of partial [] a (take bt b) start n (get_or (rows_of a NODE) n []) (walk_from (env_in partial [] a) (rows_in (value_lines a)) (drop 3 (items (get_or (rows_of a NODE) n []))) (at (get_or (rows_of a NODE) n []) 2) v 0))
      → OnPath a'
  unfolding path_by
  path_value a' v q h = as_path a' (rw q h)

  pub path_error : (y : ℕ) → s ≡ Error → y ≡ at (get_or (rows_of a NODE) n []) 0 → Appended b start (err_row y) b' e → OnPath a
  unfolding path_by
  path_error y q ey p = as_path a (rw (q, ← ey) (error_put a b b' start bt e y room le p))

  pub path_open : (a' : List ℕ) → s ≡ Open → Leaves start a' b' e (unmoved_of partial [] a (take bt b) start n (get_or (rows_of a NODE) n [])) → OnPath a'
  unfolding path_by
  path_open a' q h = as_path a' (rw q h)

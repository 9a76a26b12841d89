-- One line: its row is written past the heap's end, judged there, and added. Assumes nothing.
use mathlib.Core.Path.{◌≡◌, refl, sym, ap, ap₂, subst, ◌∙◌}
use mathlib.Core.Bool.{true, cond}
use mathlib.Core.List.{List, [], ◌∷◌, ◌++◌}
use Prim.Native.Nat.{ℕ, suc, ◌+◌, ◌-◌, ◌*◌, ◌≤◌, ◌<◌}
use native.Mathlib.Omega.{arith}
use native.Mathlib.Decide.{ℕ_discrete, dec_lt}
use borrow.Author.Tests.{eq-eqb, ne_eqb, leb-true, leb-false}
use lib.Dec.{leb, eqb}
use lib.ListN.{length, get_or, take, drop}
use lib.Seq.{drop-drop, get_or-set_other}
use Rattle.sheet.specs.Forms.{Mode, forms, form_of, key_of, refs, TEXT, KIND, TYPE, SHAPE, VALUE, ENTITY, DAY, NODE, POLICY, no_key}
use Rattle.sheet.specs.State.{State, empty, count}
use Rattle.sheet.specs.Sheet.{greatest, in_order, fault, fault_of, more, depth, marked}
use Rattle.sheet.proofs.reading.Parsed.{all_below, all_below_law}
use Rattle.sheet.proofs.reading.Lines.{Passed, passed, later_empty}
use Rattle.sheet.proofs.reading.Shallow.{reached_settled}
use Rattle.sheet.proofs.reading.Depths as D
use Rattle.forms.specs.Tags.{TEXT_LINE}
use Rattle.words.specs.Log.{room}
use Rattle.words.proofs.Stores.{get_d_below, part_below}
use Rattle.table.specs.Layout.{part, heap, RUN, MADE, TOP, TYPEDEPTHS, USES, SIZES, depths_at, rows_of, text_row, held, with_row, limits, limit, Last, Sound, row_in}
use Rattle.table.proofs.Rows.{count_held, limit_small}
use Rattle.table.proofs.Frame.{rows_kept, word_kept, sound_kept, top_new, count_new, count_other, rest_new, rows_own, rows_other, sound_new}
use Rattle.table.proofs.Held.{held_same}
use Rattle.fits.specs.Fit.{SettledIn, Known}
use Rattle.fits.proofs.Remembered.{cleared, settled_held, known_kept, known_words}
use Rattle.uses.specs.Uses.{mark_of, uses_in}
use Rattle.uses.specs.Under.{Noted}
use Rattle.seen.specs.Seen.{with_seen, Seen}
use Rattle.uses.proofs.NotedLaws.{noted_other}
use Rattle.seen.proofs.SeenLaws.{key_alike}
use Rattle.typing.specs.Links.{Shown}
use Rattle.typing.proofs.Levels.{shown_reached}
use Rattle.judge.specs.Verdicts.{Judged, seen_at}
use Rattle.judge.proofs.Alike.{text_tag}
use Rattle.judge.proofs.Judging.{line_key}
use Rattle.line.specs.Written.{row_from_def, Line}
use Rattle.take.specs.Steps.{with_depth, notes_of, with_notes, Reached, before_any, after_line, Ready, taken, Taken}
use Rattle.take.proofs.Committing.{line_words, state_more}
use Rattle.take.proofs.Noting.{past_same, notes_below, notes_rest, notes_long, notes_depth, noted_line}

-- ---- rows of words and rows of the definition

row_alike : (sheet q : List ℕ) → (q ≡ [] → ⊥) → row_in sheet (key_of q) q ≡ row_from_def sheet q
unfolding key_of form_of forms
row_alike sheet [] n = absurd (n refl)
row_alike sheet (t ∷ l) n = go (ℕ_discrete t TEXT_LINE) (ℕ_discrete (key_of (t ∷ l)) TEXT)
  where
    go : Dec (t ≡ TEXT_LINE) → Dec (key_of (t ∷ l) ≡ TEXT) → cond (eqb (key_of (t ∷ l)) TEXT) (text_row sheet (t ∷ l)) (t ∷ l) ≡ cond (eqb t TEXT) (text_row sheet (t ∷ l)) (t ∷ l)
    go (yes e) (yes k) = rw (eq-eqb t TEXT_LINE e, eq-eqb (key_of (t ∷ l)) TEXT k) refl
    go (yes e) (no k) = absurd (k (ap (λ (x : ℕ). (form_of x).key) e))
    go (no e) (yes k) = absurd (e (text_tag (t ∷ l) k))
    go (no e) (no k) = rw (ne_eqb t TEXT_LINE e, ne_eqb (key_of (t ∷ l)) TEXT k) refl

fault_some : (s : State) (r : List ℕ) → (r ≡ [] → ⊥) → fault s r ≡ fault_of s (key_of r) r
unfolding fault
fault_some s [] n = absurd (n refl)
fault_some s (t ∷ l) n = refl

pub fault_none : (s : State) (r : List ℕ) → r ≡ [] → 3 ≡ fault s r
unfolding fault
fault_none s r e = rw e refl

-- ---- the words past those that a sheet uses

past_uses : (b b' : List ℕ) → drop (USES + 1024) b' ≡ drop (USES + 1024) b → drop 16384 b' ≡ drop 16384 b
past_uses b b' e = sym (drop-drop 9088 (USES + 1024) b') ∙ ap (drop 9088) e ∙ drop-drop 9088 (USES + 1024) b

-- ---- limits

-- but for shapes the greatest numbers are those of the table
most_else : all_below (λ (k : ℕ). leb (get_or (greatest empty) k 0) (limit k)) no_key ≡ true
unfolding limit limits
most_else = refl

most_low : (s : State) (k : ℕ) → k < no_key → count s KIND ≤ 32 → get_or (greatest s) k 0 ≤ limit k
unfolding limit limits
most_low s k h c = go (ℕ_discrete k SHAPE)
  where
    go : Dec (k ≡ SHAPE) → get_or (greatest s) k 0 ≤ limit k
    go (yes e) = rw e c
    go (no n) =
        subst (λ (x : ℕ). x ≤ limit k) (sym (get_or-set_other (greatest empty) SHAPE k (count s KIND) 0 n))
        (leb-true (get_or (greatest empty) k 0) (limit k) (all_below_law (λ (i : ℕ). leb (get_or (greatest empty) i 0) (limit i)) no_key k most_else h))

kinds : limit KIND ≡ 32
unfolding limit limits
kinds = refl

nodes : limit NODE ≡ 1024
unfolding limit limits
nodes = refl

-- ---- the whole depth is enough in every state that is reached

reached_as : {m : Mode} {s : State} → Reached m s → D.Reached m s
reached_as before_any = D.start
reached_as (after_line l r e) = D.next l (reached_as r) e

settled_rows : {m : Mode} (sheet a b : List ℕ) → Reached m (held sheet a b) → SettledIn a
settled_rows sheet a b r = settled_held sheet a b (record { closes = (reached_settled (reached_as r)).closes })

-- ---- `take_line`

module _ (sheet row a b : List ℕ) (bytes : ℕ) (m : Mode) (ready : Ready a b) (reached : Reached m (held sheet a b)) (fits : 2 * get_or a TOP 0 + bytes ≤ 2 * heap + 16400)
    (top : ℕ) (ht : top ≡ get_or a TOP 0) (a₁ : List ℕ) (n : ℕ) (l : Line sheet row a a₁ top n (bytes)) (long₁ : length a₁ ≡ length a) where
  below : take (get_or a TOP 0) a₁ ≡ take (get_or a TOP 0) a
  below = subst (λ (x : ℕ). take x a₁ ≡ take x a) ht l.kept.below

  rows_as : (k : ℕ) → k < TOP → rows_of a₁ k ≡ rows_of a k
  rows_as = rows_kept a ready.sound a₁ below

  state_as : held sheet a₁ b ≡ held sheet a b
  state_as = held_same sheet a a₁ b b (λ k h. rows_as k (omega arith)) refl

  sound₁ : Sound a₁
  sound₁ = sound_kept a ready.sound a₁ below (omega (arith, ready.sound.long))

  known₁ : Known a₁ b
  known₁ = known_kept a a₁ b (rows_as VALUE (omega arith)) (rows_as TYPE (omega arith)) ready.known

  word_as : (i : ℕ) → i < TOP + 1 → get_or a₁ i 0 ≡ get_or a i 0
  word_as i h = word_kept a ready.sound a₁ below i (omega arith)

  few_nodes : get_or a₁ NODE 0 ≤ 1024
  few_nodes = omega (arith, sound₁.few NODE (omega arith), nodes)

  few_before : get_or a NODE 0 ≤ 1024
  few_before = omega (arith, ready.sound.few NODE (omega arith), nodes)

  noted₁ : Noted a₁ b
  noted₁ = noted_other a b a₁ b ready.noted (rows_as NODE (omega arith)) (rows_as POLICY (omega arith)) few_before (λ i h. refl)

  pub judge_needs : length a ≡ room → length b ≡ room → (seen : List ℕ) → Seen (held sheet a b) seen → (last : ℕ) → in_order (held sheet a b) last ≡ true
      → ((length a₁ ≡ room) × (length b ≡ room) × (in_order (held sheet a₁ b) last ≡ true)) × (Known a₁ b × Noted a₁ b × Seen (held sheet a₁ b) seen)
  judge_needs la lb seen h last o = ((long₁ ∙ la, lb, ap (λ (s : State). in_order s last) state_as ∙ o), (known₁, noted₁, subst (λ (s : State). Seen s seen) (sym state_as) h))

  pub line_malformed : n ≡ 0 → Taken sheet row a b a₁ b bytes 3
  line_malformed z =
      record {
        number = fault_none (held sheet a b) row (l.empty z);
        state = λ q. absurd (omega arith);
        ready = λ q. absurd (omega arith);
        room = λ q. absurd (omega arith);
        day = λ e q. absurd (omega arith);
        rest_a = l.kept.rest;
        rest_b = refl;
      }

  module _ (nz : n ≡ 0 → ⊥) (end : ℕ) (he : end ≡ top + n) where
    r₁ : List ℕ
    r₁ = part a₁ top end

    words_are : row_from_def sheet r₁ ≡ row
    unfolding r₁
    words_are = let z : end - top ≡ n = omega arith in ap (λ (x : ℕ). row_from_def sheet (take x (drop top a₁))) z ∙ l.words

    some_words : r₁ ≡ [] → ⊥
    some_words e = nz (l.full (sym words_are ∙ ap (row_from_def sheet) e))

    some_row : row ≡ [] → ⊥
    some_row e = nz (l.full e)

    row_is : row_in sheet (key_of r₁) r₁ ≡ row
    row_is = row_alike sheet r₁ some_words ∙ words_are

    key_is : key_of row ≡ key_of r₁
    key_is = ap key_of (sym row_is) ∙ key_alike sheet r₁

    -- the line's row joins those seen
    pub line_seen : (m m' : List ℕ) → m' ≡ seen_at sheet m (part a₁ top end) → m' ≡ with_seen m row
    unfolding r₁
    line_seen m m' e = e ∙ ap (with_seen m) row_is

    settled₁ : SettledIn a₁
    settled₁ = settled_rows sheet a₁ b (subst (Reached m) (sym state_as) reached)

    shown₁ : Shown a₁
    shown₁ = shown_reached sheet a₁ b (reached_as (subst (Reached m) (sym state_as) reached))

    module _ (b₁ : List ℕ) (f k d : ℕ) (j : Judged sheet a₁ b (part a₁ top end) b₁ f k d) (long_b₁ : length b₁ ≡ length b) where
      number_is : f ≡ fault (held sheet a b) row
      unfolding r₁
      number_is = j.number settled₁ shown₁ ∙ ap₂ (λ (s : State) (x : List ℕ). fault_of s (key_of r₁) x) state_as row_is
          ∙ ap (λ (x : ℕ). fault_of (held sheet a b) x row) (sym key_is) ∙ sym (fault_some (held sheet a b) row some_row)

      rest_b₁ : drop 16384 b₁ ≡ drop 16384 b
      rest_b₁ = past_uses b b₁ (j.rest few_nodes)

      pub line_refused : (f ≡ 0 → ⊥) → Taken sheet row a b a₁ b₁ bytes f
      line_refused z =
          record {
            number = number_is;
            state = λ q. absurd (z q);
            ready = λ q. absurd (z q);
            room = λ q. absurd (z q);
            day = λ e q. absurd (z q);
            rest_a = l.kept.rest;
            rest_b = rest_b₁;
          }

      module _ (z : f ≡ 0) where
        clean : fault (held sheet a b) row ≡ 0
        clean = sym number_is ∙ z

        key_row : k ≡ key_of r₁
        unfolding r₁
        key_row = j.key z

        pass : Passed (held sheet a₁ b) k (row_in sheet k r₁)
        pass = subst (λ (s : State). Passed s k (row_in sheet k r₁)) (sym state_as)
            (subst (λ (x : ℕ). Passed (held sheet a b) x (row_in sheet x r₁)) (sym key_row)
            (subst (Passed (held sheet a b) (key_of r₁)) (sym row_is) (subst (λ (x : ℕ). Passed (held sheet a b) x row) key_is (passed (held sheet a b) row clean))))

        low : k < no_key
        low = line_key (held sheet a₁ b) k pass.room

        room₁ : get_or a₁ k 0 < limit k
        room₁ =
            let c = count_held sheet a₁ b k low in
            let s : count (held sheet a₁ b) KIND ≤ 32 = omega (arith, count_held sheet a₁ b KIND (omega arith), sound₁.few KIND (omega arith), kinds) in
            omega (arith, leb-false (get_or (greatest (held sheet a₁ b)) k 0) (count (held sheet a₁ b) k) pass.room, most_low (held sheet a₁ b) k low s)

        made₁ : get_or a₁ MADE 0 ≡ 0
        made₁ = word_as MADE (omega arith) ∙ ready.made

        none₁ : get_or a₁ RUN 0 ≡ 0
        none₁ = word_as RUN (omega arith) ∙ ready.none

        last₁ : Last a₁ k
        last₁ = record { last = λ i h t. go i h (dec_lt i no_key) t }
          where
            go : (i : ℕ) → k < i → Dec (i < no_key) → i < TOP → get_or a₁ i 0 ≡ 0
            go i h (yes t) u = sym (count_held sheet a₁ b i t) ∙ ap length (later_empty (held sheet a₁ b) k i pass.order h)
            go i h (no t) u = past (ℕ_discrete i MADE)
              where
                past : Dec (i ≡ MADE) → get_or a₁ i 0 ≡ 0
                past (yes e) = rw e made₁
                past (no e) = let q : i ≡ RUN = omega arith in rw q none₁

        pub commit_room : get_or a₁ k 0 < 4294967295
        commit_room = omega (arith, room₁, limit_small k)

        module _ (a₂ b₂ : List ℕ) (pa : a₂ ≡ with_row a₁ k end) (pb : b₂ ≡ with_notes a₁ b₁ k end d) (long_b₂ : length b₂ ≡ length b₁) where
          -- the work words with what is noted of the line, before its depth
          c : List ℕ
          c = notes_of a₁ b₁ k end

          depth_put : b₂ ≡ with_depth c k (get_or a₁ k 0) d
          unfolding c
          depth_put = notes_depth a₁ b₁ b₂ k end d pb

          long_c : length c ≡ length b₁
          unfolding c
          long_c = notes_long a₁ b₁ k end

          depths_c : (i m : ℕ) → i + m ≤ SIZES → depths_at c i m ≡ depths_at b₁ i m
          unfolding c
          depths_c i m h =
              let z : i + m - i ≡ m = omega arith in
              subst (λ (x : ℕ). take x (drop i (notes_of a₁ b₁ k end)) ≡ take x (drop i b₁)) z (part_below SIZES b₁ (notes_of a₁ b₁ k end) (notes_below a₁ b₁ k end) i (i + m) (omega arith) h)

          words_c : (i : ℕ) → i < SIZES → get_or c i 0 ≡ get_or b₁ i 0
          unfolding c
          words_c i h = get_d_below SIZES b₁ (notes_of a₁ b₁ k end) (notes_below a₁ b₁ k end) i h

          top₁ : get_or a₁ TOP 0 ≡ top
          top₁ = word_as TOP (omega arith) ∙ sym ht

          lo : get_or a₁ TOP 0 ≤ end
          lo = omega (arith, top₁)

          in_range_law : k < TOP
          in_range_law = omega (arith, low)

          own₂ : get_or a₂ k 0 ≡ suc (get_or a₁ k 0)
          own₂ = rw pa (count_new a₁ sound₁ k end in_range_law room₁ last₁ lo)

          other₂ : (i : ℕ) → i < TOP → (i ≡ k → ⊥) → get_or a₂ i 0 ≡ get_or a₁ i 0
          other₂ i h ne = rw pa (count_other a₁ sound₁ k end in_range_law room₁ last₁ lo i h ne)

          rows₂ : rows_of a₂ k ≡ rows_of a₁ k ++ (r₁ ∷ [])
          unfolding r₁
          rows₂ = rw pa (rows_own a₁ sound₁ k end in_range_law room₁ last₁ lo ∙ ap (λ (x : ℕ). rows_of a₁ k ++ (part a₁ x end ∷ [])) top₁)

          rows_same₂ : (i : ℕ) → i < TOP → (i ≡ k → ⊥) → rows_of a₂ i ≡ rows_of a₁ i
          rows_same₂ i h ne = rw pa (rows_other a₁ sound₁ k end in_range_law room₁ last₁ lo i h ne)

          row_k : row_in sheet k r₁ ≡ row
          row_k = ap (λ (x : ℕ). row_in sheet x r₁) key_row ∙ row_is

          long_b : 16384 ≤ length b₁
          long_b = omega (arith, ready.long)

          noted_b₁ : Noted a₁ b₁
          noted_b₁ = noted_other a₁ b a₁ b₁ noted₁ refl refl few_nodes (λ i h. past_same b b₁ (USES + 1024) (j.rest few_nodes) i h)

          state₂ : held sheet a₂ b₂ ≡ more (held sheet a b) row
          unfolding r₁
          state₂ =
              state_more a₁ a₂ b c b₂ k d low room₁ (λ i h. sound₁.few i (omega arith)) own₂ (λ i h ne. other₂ i (omega arith) ne) (omega (arith, long_c, long_b))
              (λ i n l h. depths_c i n (omega arith) ∙ j.depths i n l h) depth_put
              sheet r₁ rows₂ (λ i h ne. rows_same₂ i (omega arith) ne)
              (ap key_of row_k ∙ key_is ∙ sym key_row)
              (j.deep z ∙ ap (λ (x : ℕ). depth_of x) (sym key_row))
              (depths_c USES (get_or a₁ NODE 0) (omega (arith, few_nodes)) ∙ j.uses z ∙ ap (λ (x : ℕ). marked_of x) (sym key_row))
              ∙ ap₂ more state_as row_k
            where
              depth_of : ℕ → ℕ
              depth_of x = depth (held sheet a₁ b) x (row_in sheet x (part a₁ top end))

              marked_of : ℕ → List ℕ
              marked_of x = marked (mark_of x) (uses_in a₁ b) (refs NODE (row_in sheet x (part a₁ top end)))

          put₂ : ((i : ℕ) → i < TYPEDEPTHS → get_or b₂ i 0 ≡ get_or c i 0) × (drop (USES + 1024) b₂ ≡ drop (USES + 1024) c)
          put₂ = line_words c b₂ k (get_or a₁ k 0) d room₁ depth_put

          words₂ : (i : ℕ) → i < TYPEDEPTHS → get_or b₂ i 0 ≡ get_or b₁ i 0
          words₂ i h = put₂.0 i h ∙ words_c i (omega arith)

          rest₂ : drop 16384 b₂ ≡ drop 16384 b₁
          unfolding c
          rest₂ = past_uses (notes_of a₁ b₁ k end) b₂ put₂.1 ∙ notes_rest a₁ b₁ k end few_nodes

          noted₂ : Noted a₂ b₂
          noted₂ =
              noted_line a₁ b₁ a₂ b₂ k end d noted_b₁ few_nodes long_b room₁ (rw pa (rows_own a₁ sound₁ k end in_range_law room₁ last₁ lo)) rows_same₂
              (λ q. let p : get_or a₁ POLICY 0 ≡ 0 = last₁.last POLICY (omega (arith, q)) (omega arith) in
              (other₂ POLICY (omega arith) (λ x. absurd (omega (arith, q, x))) ∙ p, p)) pb

          -- before the entities nothing is remembered
          blank₁ : k < ENTITY → (i : ℕ) → i < TYPEDEPTHS → get_or b₂ i 0 ≡ 0
          unfolding r₁
          blank₁ h i t =
              let q : Last a VALUE = record { last = λ x y w. sym (word_as x (omega arith)) ∙ last₁.last x (omega arith) w } in
              words₂ i t ∙ j.early (subst (λ (x : ℕ). x < ENTITY) key_row h) i t ∙ ready.blank q i t

          known₂ : Dec (k < ENTITY) → Known a₂ b₂
          known₂ (yes h) = cleared a₂ b₂ (blank₁ h)
          known₂ (no h) = known_words a₂ b₁ b₂ words₂ (known_kept a₁ a₂ b₁ (rows_same₂ VALUE (omega arith) (λ q. h (omega arith))) (rows_same₂ TYPE (omega arith) (λ q. h (omega arith))) j.known)

          blank₂ : Dec (k < ENTITY) → Last a₂ VALUE → (i : ℕ) → i < TYPEDEPTHS → get_or b₂ i 0 ≡ 0
          blank₂ (yes h) q i t = blank₁ h i t
          blank₂ (no h) q i t = absurd (omega (arith, own₂, q.last k (omega arith) in_range_law))

          room₂ : Dec (k ≡ NODE) → taken a₂ ≤ taken a + bytes + 1
          room₂ (yes e) =
              let t : get_or a₂ TOP 0 ≡ end = rw pa (top_new a₁ sound₁ k end in_range_law room₁ last₁ lo) in
              let c : get_or a₂ NODE 0 ≡ suc (get_or a₁ NODE 0) = subst (λ (x : ℕ). get_or a₂ x 0 ≡ suc (get_or a₁ x 0)) e own₂ in
              let w : 2 * n + 6 ≤ bytes + 1 = l.node (key_is ∙ sym key_row ∙ e) in
              omega (arith, t, c, w, word_as NODE (omega arith))
          room₂ (no e) =
              let t : get_or a₂ TOP 0 ≡ end = rw pa (top_new a₁ sound₁ k end in_range_law room₁ last₁ lo) in
              let c : get_or a₂ NODE 0 ≡ get_or a₁ NODE 0 = other₂ NODE (omega arith) (λ q. e (sym q)) in
              omega (arith, t, c, l.tight, word_as NODE (omega arith))

          day₂ : key_of row ≡ DAY → taken a₂ ≤ taken a + bytes
          day₂ e =
              let q : k ≡ DAY = key_row ∙ sym key_is ∙ e in
              let t : get_or a₂ TOP 0 ≡ end = rw pa (top_new a₁ sound₁ k end in_range_law room₁ last₁ lo) in
              let c : get_or a₂ NODE 0 ≡ get_or a₁ NODE 0 = other₂ NODE (omega arith) (λ x. absurd (omega (arith, q, x))) in
              omega (arith, t, c, l.short (λ x. absurd (omega (arith, e, x))), word_as NODE (omega arith))

          pub line_added : Taken sheet row a b a₂ b₂ bytes 0
          line_added =
              record {
                number = sym clean;
                state = λ q. state₂;
                ready = λ q. record {
                  sound = rw pa (sound_new a₁ sound₁ k end in_range_law room₁ last₁ lo);
                  none = other₂ RUN (omega arith) (λ x. absurd (omega (arith, low, x))) ∙ none₁;
                  made = other₂ MADE (omega arith) (λ x. absurd (omega (arith, low, x))) ∙ made₁;
                  known = known₂ (dec_lt k ENTITY);
                  noted = noted₂;
                  blank = blank₂ (dec_lt k ENTITY);
                  long = omega (arith, ready.long);
                };
                room = λ q. room₂ (ℕ_discrete k NODE);
                day = λ e q. day₂ e;
                rest_a = rw pa (rest_new a₁ sound₁ k end in_range_law room₁ last₁ lo) ∙ l.kept.rest;
                rest_b = rest₂ ∙ rest_b₁;
              }

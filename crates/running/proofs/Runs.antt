-- The rows of the policies that run: one more, and what is left to choose. Assumes nothing.
use mathlib.Core.Path.{◌≡◌, refl, sym, ap, ap₂, ◌∙◌}
use mathlib.Core.Bool.{Bool, true, false}
use mathlib.Core.List.{List, [], ◌∷◌, ◌++◌, append-nil, append_assoc}
use Prim.Native.Nat.{ℕ, suc, ◌+◌, ◌*◌, ◌≤◌, ◌<◌}
use native.Mathlib.Numerals.{add-one}
use native.Mathlib.Omega.{arith}
use lib.ListN.{length, get_or, take, drop, drop_of_length-le}
use lib.Seq.{sets, length-sets, drop-cons}
use Rattle.words.specs.Log.{room}
use Rattle.words.proofs.Stores.{take_sets, drop_sets, part_sets}
use Rattle.sheet.specs.Forms.{at, keep, no_key, DAY, POLICY, LINK, TERM}
use Rattle.sheet.specs.Content.{runs_on, link_of, with_link, running, on_term}
use Rattle.table.specs.Layout.{part, limits, limit, RUN, MADE, TOP, POLICY_WORDS, RUN_WORDS, rows_at, rows_of, held, with_row, Last, Sound}
use Rattle.table.proofs.Rows.{count_rows, limit_small, lines_held_law}
use Rattle.table.proofs.Frame.{word_kept, rows_kept, sound_kept, length_new, top_new, count_new, count_other, rest_new, rows_other, rows_own, sound_new}
use Rattle.running.proofs.Looking.{link_two}
use Rattle.running.specs.Chosen.{Choosable, Chosen, Runnable, with_run}

-- ---- one row more

-- what row r more leaves of words that hold no made value
record Grown (a r a' : List ℕ) : Type 0 where
  own : rows_of a' RUN ≡ rows_of a RUN ++ (r ∷ [])
  others : (k : ℕ) → k < no_key → rows_of a' k ≡ rows_of a k
  sound : Sound a'
  made : get_or a' MADE 0 ≡ 0
  count : get_or a' RUN 0 ≡ suc (get_or a RUN 0)
  top : get_or a' TOP 0 ≡ get_or a TOP 0 + length r
  long : length a' ≡ length a
  rest : drop room a' ≡ drop room a

module _ (a : List ℕ) (s : Sound a) (r : List ℕ) where
  abbrev stored : List ℕ
  stored = sets a (get_or a TOP 0) r

  below : take (get_or a TOP 0) stored ≡ take (get_or a TOP 0) a
  below = take_sets r a (get_or a TOP 0) (get_or a TOP 0) (omega arith)

  count_stored : (k : ℕ) → k ≤ TOP → get_or stored k 0 ≡ get_or a k 0
  count_stored k h = word_kept a s stored below k (omega arith)

  -- storing past the heap's end leaves the count, which a word can hold one more of
  few_stored : get_or stored RUN 0 < 4294967295
  few_stored = omega (arith, count_stored RUN (omega arith), s.few RUN (omega arith), limit_small RUN)

  stored_sound : Sound stored
  stored_sound = sound_kept a s stored below (omega (arith, length-sets a (get_or a TOP 0) r, s.long))

  module _ (free : get_or a RUN 0 < limit RUN) (made : get_or a MADE 0 ≡ 0) (fits : get_or a TOP 0 + length r ≤ room) where
    abbrev end : ℕ
    end = get_or a TOP 0 + length r

    free_stored : get_or stored RUN 0 < limit RUN
    free_stored = omega (arith, count_stored RUN (omega arith))

    last_stored : Last stored RUN
    last_stored =
        record {
          last = λ j l m.
              let e : j ≡ MADE = omega arith in
              rw e (count_stored MADE (omega arith) ∙ made);
        }

    over : get_or stored TOP 0 ≤ end
    over = omega (arith, count_stored TOP (omega arith))

    row_stored : part stored (get_or stored TOP 0) end ≡ r
    row_stored = rw (count_stored TOP (omega arith)) (part_sets r a (get_or a TOP 0) end refl (omega (arith, s.long)))

    grown : Grown a r (with_run a r)
    unfolding with_run
    grown =
        record {
          own = rows_own stored stored_sound RUN end (omega arith) free_stored last_stored over
              ∙ ap₂ (λ (xs : List (List ℕ)) (x : List ℕ). xs ++ (x ∷ [])) (rows_kept a s stored below RUN (omega arith)) row_stored;
          others = λ k h. rows_other stored stored_sound RUN end (omega arith) free_stored last_stored over k (omega arith) (omega arith) ∙ rows_kept a s stored below k (omega arith);
          sound = sound_new stored stored_sound RUN end (omega arith) free_stored last_stored over;
          made = count_other stored stored_sound RUN end (omega arith) free_stored last_stored over MADE (omega arith) (omega arith) ∙ count_stored MADE (omega arith) ∙ made;
          count = count_new stored stored_sound RUN end (omega arith) free_stored last_stored over ∙ ap suc (count_stored RUN (omega arith));
          top = top_new stored stored_sound RUN end (omega arith) free_stored last_stored over;
          long = length_new stored stored_sound RUN end (omega arith) free_stored last_stored over ∙ length-sets a (get_or a TOP 0) r;
          rest = rest_new stored stored_sound RUN end (omega arith) free_stored last_stored over ∙ drop_sets r a room (get_or a TOP 0) (omega arith);
        }

-- ---- the row of a policy once more

linked_words : (r l : List ℕ) (x y z u v w : ℕ) → length r ≡ POLICY_WORDS → x ≡ get_or r 0 0 → y ≡ get_or r 1 0 → z ≡ get_or r 2 0 → u ≡ get_or r 3 0
    → v ∷ w ∷ [] ≡ l → x ∷ y ∷ z ∷ u ∷ v ∷ w ∷ [] ≡ with_link r l
linked_words [] l x y z u v w h ex ey ez eu el = absurd (omega arith)
linked_words (a ∷ r) l x y z u v w h ex ey ez eu el = rw (ex, ey, ez, eu, ← el)

module _ (a : List ℕ) (p : ℕ) (f : Runnable a p) (top : ℕ) (et : top ≡ get_or a TOP 0) where
  abbrev linked_row : List ℕ
  linked_row = with_link (get_or (rows_of a POLICY) p []) (link_of (rows_of a LINK) p)

  pub run_few : (x y z u v v' : ℕ) (w : List ℕ) → w ≡ sets a top (x ∷ y ∷ z ∷ u ∷ v ∷ v' ∷ []) → get_or w RUN 0 < 4294967295
  run_few x y z u v v' w e = rw (e, et) (few_stored a f.sound (x ∷ y ∷ z ∷ u ∷ v ∷ v' ∷ []))

  pub run_is : (line : List ℕ) (x y z u v v' : ℕ) (w w' : List ℕ) → line ≡ get_or (rows_of a POLICY) p []
      → x ≡ get_or line 0 0 → y ≡ get_or line 1 0 → z ≡ get_or line 2 0 → u ≡ get_or line 3 0 → v ∷ v' ∷ [] ≡ link_of (rows_of a LINK) p
      → w ≡ sets a top (x ∷ y ∷ z ∷ u ∷ v ∷ v' ∷ []) → w' ≡ with_row w RUN (top + RUN_WORDS) → w' ≡ with_run a linked_row
  unfolding with_run
  run_is line x y z u v v' w w' el ex ey ez eu ev e e' =
      let six : x ∷ y ∷ z ∷ u ∷ v ∷ v' ∷ [] ≡ linked_row
      = linked_words line (link_of (rows_of a LINK) p) x y z u v v' (ap length el ∙ f.row) ex ey ez eu ev
      ∙ ap (λ (r : List ℕ). with_link r (link_of (rows_of a LINK) p)) el in
      let m : top + RUN_WORDS ≡ get_or a TOP 0 + length linked_row = omega (arith, ap length six) in
      e' ∙ ap₂ (λ (v : List ℕ) (t : ℕ). with_row v RUN t) (e ∙ ap₂ (sets a) et six) m

-- ---- what is left to choose

-- policy i is next: the rows so far, which words w hold, and those of what is left, are the rows of all that run of what words a held
pub record Choosing (a w : List ℕ) (day i : ℕ) : Type 0 where
  pub near : i ≤ get_or a POLICY 0
  pub left : rows_of w RUN ++ running (runs_on day (rows_of a TERM)) (link_of (rows_of a LINK)) i (drop i (rows_of a POLICY)) ≡ on_term (held [] a [])
  pub same : (k : ℕ) → k < no_key → rows_of w k ≡ rows_of a k
  pub sound : Sound w
  pub made : get_or w MADE 0 ≡ 0
  pub few : get_or w RUN 0 ≤ i
  pub top : get_or w TOP 0 ≤ get_or a TOP 0 + RUN_WORDS * i
  pub long : length w ≡ length a
  pub rest : drop room w ≡ drop room a

no_rows : (a : List ℕ) (k : ℕ) → get_or a k 0 ≡ 0 → rows_of a k ≡ []
unfolding rows_of rows_at
no_rows a k e = rw e

on_term_held : (a : List ℕ) → running (runs_on (at (get_or (rows_of a DAY) 0 []) 0) (rows_of a TERM)) (link_of (rows_of a LINK)) 0 (rows_of a POLICY) ≡ on_term (held [] a [])
unfolding on_term
on_term_held a =
    let d = lines_held_law [] a [] DAY (omega arith) (omega arith) in
    let t = lines_held_law [] a [] TERM (omega arith) (omega arith) in
    let l = lines_held_law [] a [] LINK (omega arith) (omega arith) in
    let p = lines_held_law [] a [] POLICY (omega arith) (omega arith) in
    sym (λ i. running (runs_on (at (get_or (d i) 0 []) 0) (t i)) (link_of (l i)) 0 (p i))

-- there is room for as many policies that run as for policies
run_limit : limit POLICY ≡ limit RUN
unfolding limit limits
run_limit = refl

module _ {a : List ℕ} (f : Choosable a) {n : ℕ} (en : n ≡ get_or a POLICY 0) {day : ℕ} where
  pub choose_start : {line : List ℕ} → line ≡ get_or (rows_of a DAY) 0 [] → day ≡ get_or line 1 0 → Choosing a a day 0
  choose_start el ed =
      record {
        near = omega arith;
        left = rw (no_rows a RUN f.none, ed, el) (on_term_held a);
        same = λ k h. refl;
        sound = f.sound;
        made = f.made;
        few = omega (arith, f.none);
        top = omega arith;
        long = refl;
        rest = refl;
      }

  module _ {w : List ℕ} {i : ℕ} (g : Choosing a w day i) where
    pub choose_end : n ≤ i → Chosen a w
    choose_end h =
        let e : i ≡ get_or a POLICY 0 = omega (arith, g.near) in
        let l : length (rows_of a POLICY) ≤ i = omega (arith, count_rows a POLICY) in
        record {
          runs = sym (append-nil (rows_of w RUN)) ∙ rw (drop_of_length-le (rows_of a POLICY) l) at g.left;
          same = g.same;
          sound = g.sound;
          made = g.made;
          top = omega (arith, g.top);
          long = g.long;
          rest = g.rest;
        }

    module _ (h : i < n) where
      pub runnable : Runnable w i
      runnable =
          record {
            sound = g.sound;
            row = rw (g.same POLICY (omega arith)) (f.rows i (omega arith));
            space = omega (arith, g.top, f.space);
          }

      module _ {b : Bool} (eb : b ≡ runs_on day (rows_of w TERM) i) where
        abbrev row : List ℕ
        row = with_link (get_or (rows_of a POLICY) i []) (link_of (rows_of a LINK) i)

        row_words : length row ≡ RUN_WORDS
        row_words = omega (arith, link_two (rows_of a LINK) i)

        -- the rows of those that run after it
        abbrev others : List (List ℕ)
        others = running (runs_on day (rows_of a TERM)) (link_of (rows_of a LINK)) (i + 1) (drop (i + 1) (rows_of a POLICY))

        next : running (runs_on day (rows_of a TERM)) (link_of (rows_of a LINK)) i (drop i (rows_of a POLICY)) ≡ keep b row others
        next =
            let l : i < length (rows_of a POLICY) = omega (arith, count_rows a POLICY) in
            rw (eb, g.same TERM (omega arith), add-one, drop-cons (rows_of a POLICY) i [])

        pub choose_skip : {w' : List ℕ} → b ≡ false → w' ≡ w → Choosing a w' day (i + 1)
        choose_skip e ew =
            rw ew
            record {
              near = omega arith;
              left = ap (λ (l : List (List ℕ)). rows_of w RUN ++ l) (sym (next ∙ rw e)) ∙ g.left;
              same = g.same;
              sound = g.sound;
              made = g.made;
              few = omega (arith, g.few);
              top = omega (arith, g.top);
              long = g.long;
              rest = g.rest;
            }

        pub choose_run : {w' : List ℕ} → b ≡ true → w' ≡ with_run w (with_link (get_or (rows_of w POLICY) i []) (link_of (rows_of w LINK) i)) → Choosing a w' day (i + 1)
        choose_run e ew = rw (ew, g.same POLICY (omega arith), g.same LINK (omega arith)) more
          where
            free : get_or w RUN 0 < limit RUN
            free = omega (arith, g.few, f.sound.few POLICY (omega arith), run_limit)

            fits : get_or w TOP 0 + length row ≤ room
            fits = omega (arith, g.top, row_words, f.space)

            more : Choosing a (with_run w row) day (i + 1)
            more =
                let m = grown w g.sound row free g.made fits in
                record {
                  near = omega arith;
                  left = ap (λ (l : List (List ℕ)). l ++ others) m.own ∙ append_assoc (rows_of w RUN) (row ∷ []) others
                      ∙ ap (λ (l : List (List ℕ)). rows_of w RUN ++ l) (sym (next ∙ rw e)) ∙ g.left;
                  same = λ k l. m.others k l ∙ g.same k l;
                  sound = m.sound;
                  made = m.made;
                  few = omega (arith, m.count, g.few);
                  top = omega (arith, m.top, row_words, g.top);
                  long = m.long ∙ g.long;
                  rest = m.rest ∙ g.rest;
                }

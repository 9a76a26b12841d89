-- The lines in turn. Assumes nothing.
use mathlib.Core.Path.{◌≡◌, refl, sym, ap, ap₂, subst, ◌∙◌}
use mathlib.Core.Bool.{Bool, true, false, cond}
use mathlib.Core.List.{List, []}
use Prim.Native.Nat.{ℕ, zero, suc, ◌+◌, ◌-◌, ◌*◌, ◌≤◌, ◌<◌}
use native.Mathlib.Omega.{arith}
use native.Mathlib.Decide.{ℕ_discrete}
use lib.Dec.{ltb, eqb}
use lib.ListN.{length, get_or, take, drop, set, replicate, length-set}
use lib.Seq.{get_or-set_same, get_or-set_other, drop-set-lt, drop-drop}
use Rattle.std.specs.Prelude.{Some, None}
use Rattle.words.specs.Log.{zeros}
use Rattle.words.proofs.Stores.{length_part, get_d_zeros, drop_zeros, length_zeros}
use Rattle.scan.specs.declared.Cursor.{Cursor}
use Rattle.scan.specs.declared.Line as L
use Rattle.scan.specs.Places.{reading_by, LineRead}
use Rattle.scan.proofs.Readings.{Entered, line_entered}
use Rattle.sheet.specs.Ascii.{ascii}
use Rattle.sheet.specs.Bytes.{starts, split}
use Rattle.sheet.specs.Forms.{Mode, key_of, row_of, row_of_value, TEXT, KIND, SHAPE, PRINCIPAL, DAY, NODE, POLICY, LINK, no_key}
use Rattle.sheet.specs.State.{State, empty, lines_of, count, before, sum}
use Rattle.sheet.specs.Sheet.{Reading, least, enough, reach, first_unused, first_unlinked, in_order, reads, ending, fault, more, go_on, before_line, reading, reading_on, read}
use Rattle.sheet.proofs.reading.Lines.{AllFit, no_lines as empty-lines}
use Rattle.sheet.proofs.reading.EntitiesEnd.{first_part, reading_before, starts_entity}
use Rattle.table.specs.Layout.{part, RUN, MADE, TOP, TYPEDEPTHS, USES, SPENT, heap, rows_at, rows_of, lines_held, depths_held, depths_at, held, depth_base, depths_in}
use Rattle.table.proofs.Rows.{limit_small, lines_held_law, count_held}
use Rattle.table.proofs.Held.{tab_same, lines_in, lines_tab, depths_tab, counts_held}
use Rattle.fits.proofs.Remembered as R
use Rattle.seen.specs.Seen.{PLACE_WORDS, with_seen, Seen}
use Rattle.uses.specs.Under.{Noted}
use Rattle.uses.proofs.NotedLaws.{noted_blank}
use Rattle.seen.proofs.SeenLaws.{seen_first, seen_more}
use Rattle.judge.proofs.Alike.{count_alike}
use Rattle.line.proofs.LawsLine.{entry_wide, entry_wider}
use Rattle.take.specs.Steps.{Reached, before_any, after_line, Ready, taken, Taken}
use Rattle.load.specs.Result.{Read}
use Rattle.ending.specs.Unfit.{unfit_line}
use Rattle.ending.proofs.Entities.{line_passes, line_unfit, closed_after}
use Rattle.ending.proofs.Finishing.{unlinked_same}
use Rattle.load.proofs.Turns.{order_first, own_key, order_after}

-- ---- the definition after a line

go_stops : (s : State) (k : ℕ) (r : List ℕ) (f : ℕ) (rest : State → ℕ → Reading) → (f ≡ 0 → ⊥) → go_on s k r f rest ≡ reads s f k
go_stops s k r zero rest n = absurd (n refl)
go_stops s k r (suc f) rest n = refl

go_on_law : (s : State) (k : ℕ) (r : List ℕ) (f : ℕ) (rest : State → ℕ → Reading) → f ≡ 0 → go_on s k r f rest ≡ rest (more s r) (suc k)
go_on_law s k r f rest e = rw e refl

-- ---- the end

-- its number and line, by what is looked at: all lines there, the lowest policy without a link and how many there are, the lowest node never used likewise
end_number : Bool → Bool → Bool → ℕ
end_number x y z = cond x (cond y 5 (cond z 8 0)) 3

end_line : Bool → Bool → Bool → ℕ → ℕ → ℕ → ℕ
end_line x y z p n k = cond x (cond y (suc p) (cond z (suc n) 0)) k

module _ (s : State) (k : ℕ) where
  abbrev p : ℕ
  p = first_unlinked s 0 (lines_of s POLICY)

  abbrev u : ℕ
  u = first_unused s.used

  end_is : (x y z : Bool) → let e = cond x (cond y (reads s 5 (suc (before s POLICY + p))) (cond z (reads s 8 (suc (before s NODE + u))) (reads s 0 0))) (reads s 3 k) in
      (e.number ≡ end_number x y z) × (e.line ≡ end_line x y z (before s POLICY + p) (before s NODE + u) k) × (e.state ≡ s)
  unfolding end_number end_line
  end_is true true z = (refl, refl, refl)
  end_is true false true = (refl, refl, refl)
  end_is true false false = (refl, refl, refl)
  end_is false y z = (refl, refl, refl)

  end_number_law : (ending s k).number ≡ end_number (enough s no_key) (ltb p (count s POLICY)) (ltb u (count s NODE))
  end_number_law = (end_is (enough s no_key) (ltb p (count s POLICY)) (ltb u (count s NODE))).0

  end_line_law : (ending s k).line ≡ end_line (enough s no_key) (ltb p (count s POLICY)) (ltb u (count s NODE)) (before s POLICY + p) (before s NODE + u) k
  end_line_law = (end_is (enough s no_key) (ltb p (count s POLICY)) (ltb u (count s NODE))).1

  end_state : (ending s k).state ≡ s
  end_state = (end_is (enough s no_key) (ltb p (count s POLICY)) (ltb u (count s NODE))).2

module _ (sheet a b : List ℕ) where
  pub counts_same : (k : ℕ) → count (held [] a b) k ≡ count (held sheet a b) k
  counts_same k = sym (count_alike a [] b k) ∙ count_alike a sheet b k

  enough_same : enough (held [] a b) no_key ≡ enough (held sheet a b) no_key
  enough_same =
      ap₂ (λ (c : List ℕ) (n : ℕ). reach (take no_key c) (set (least empty) SHAPE n))
      (counts_held [] a b ∙ sym (counts_held sheet a b)) (counts_same KIND)

  before_same : (k : ℕ) → before (held [] a b) k ≡ before (held sheet a b) k
  before_same k = ap (λ (c : List ℕ). sum (take k c)) (counts_held [] a b ∙ sym (counts_held sheet a b))

  used_same : (held [] a b).used ≡ (held sheet a b).used
  unfolding held
  used_same = refl

  lines_same : (k : ℕ) → k < no_key → (k ≡ TEXT → ⊥) → lines_of (held [] a b) k ≡ lines_of (held sheet a b) k
  lines_same k h n = lines_held_law [] a b k h n ∙ sym (lines_held_law sheet a b k h n)

  policy_same : first_unlinked (held [] a b) 0 (lines_of (held [] a b) POLICY) ≡ first_unlinked (held sheet a b) 0 (lines_of (held sheet a b) POLICY)
  policy_same =
      unlinked_same (held [] a b) (held sheet a b) (lines_same NODE (omega arith) (λ q. absurd (omega arith))) (lines_same LINK (omega arith) (λ q. absurd (omega arith))) 0 (lines_of (held [] a b) POLICY)
      ∙ ap (first_unlinked (held sheet a b) 0) (lines_same POLICY (omega arith) (λ q. absurd (omega arith)))

  end_same : (k : ℕ) → ((ending (held [] a b) k).number ≡ (ending (held sheet a b) k).number) × ((ending (held [] a b) k).line ≡ (ending (held sheet a b) k).line)
  end_same k =
      let y : ltb (first_unlinked (held [] a b) 0 (lines_of (held [] a b) POLICY)) (count (held [] a b) POLICY) ≡ ltb (first_unlinked (held sheet a b) 0 (lines_of (held sheet a b) POLICY)) (count (held sheet a b) POLICY) =
      ap₂ ltb policy_same (counts_same POLICY) in
      let z : ltb (first_unused (held [] a b).used) (count (held [] a b) NODE) ≡ ltb (first_unused (held sheet a b).used) (count (held sheet a b) NODE) =
      ap₂ (λ (u : List ℕ) (n : ℕ). ltb (first_unused u) n) used_same (counts_same NODE) in
      let p : before (held [] a b) POLICY + first_unlinked (held [] a b) 0 (lines_of (held [] a b) POLICY) ≡ before (held sheet a b) POLICY + first_unlinked (held sheet a b) 0 (lines_of (held sheet a b) POLICY) =
      ap₂ ◌+◌ (before_same POLICY) policy_same in
      let n : before (held [] a b) NODE + first_unused (held [] a b).used ≡ before (held sheet a b) NODE + first_unused (held sheet a b).used = ap₂ ◌+◌ (before_same NODE) (ap first_unused used_same) in (
        end_number_law (held [] a b) k ∙ (λ i. end_number (enough_same i) (y i) (z i)) ∙ sym (end_number_law (held sheet a b) k),
        end_line_law (held [] a b) k ∙ (λ i. end_line (enough_same i) (y i) (z i) (p i) (n i) k) ∙ sym (end_line_law (held sheet a b) k),
      )

-- ---- before the first line

-- what stands past the words that become 0
drop_past : (n m : ℕ) (w : List ℕ) → drop (n + m) (zeros n w) ≡ drop (n + m) w
drop_past n m w = sym (drop-drop m n (zeros n w)) ∙ ap (drop m) (drop_zeros n w) ∙ drop-drop m n w

module _ (sheet a b a₁ b₁ b₂ a₂ : List ℕ) (la : 16384 ≤ length a) (lb : 16384 ≤ length b) (ha : a₁ ≡ zeros TOP a) (hb : b₁ ≡ zeros TYPEDEPTHS b) (hs : b₂ ≡ set b₁ SPENT 0) (h₂ : a₂ ≡ set a₁ TOP heap) where
  long_a₁ : length a₁ ≡ length a
  long_a₁ = ap length ha ∙ length_zeros TOP a (omega arith)

  long_b₁ : length b₁ ≡ length b
  long_b₁ = ap length hb ∙ length_zeros TYPEDEPTHS b (omega arith)

  long_b₂ : length b₂ ≡ length b
  long_b₂ = ap length hs ∙ length-set b₁ SPENT 0 ∙ long_b₁

  none_yet : (k : ℕ) → k < TOP → get_or a₂ k 0 ≡ 0
  none_yet k h = ap (λ (x : List ℕ). get_or x k 0) h₂ ∙ get_or-set_other a₁ TOP k heap 0 (omega arith) ∙ ap (λ (x : List ℕ). get_or x k 0) ha ∙ get_d_zeros TOP a k h

  top_first : get_or a₂ TOP 0 ≡ heap
  top_first = ap (λ (x : List ℕ). get_or x TOP 0) h₂ ∙ get_or-set_same a₁ TOP heap 0 (omega (arith, long_a₁))

  long_a₂ : length a₂ ≡ length a
  long_a₂ = ap length h₂ ∙ length-set a₁ TOP heap ∙ long_a₁

  no_rows : (k : ℕ) → k < TOP → rows_of a₂ k ≡ []
  unfolding rows_of rows_at
  no_rows k h = rw (none_yet k h) refl

  state_empty : held sheet a₂ b₂ ≡ empty
  unfolding held
  state_empty =
      let l : lines_held sheet a₂ ≡ replicate no_key [] = lines_tab sheet a₂ ∙ tab_same (lines_in sheet a₂) (λ (k : ℕ). []) 0 no_key (λ k x h. no_lines k h) in
      let d : depths_held a₂ b₂ ≡ replicate no_key [] = depths_tab a₂ b₂ ∙ tab_same (depths_in a₂ b₂) (λ (k : ℕ). []) 0 no_key (λ k x h. no_depths k h) in
      let u : depths_at b₂ USES (get_or a₂ NODE 0) ≡ [] = rw (none_yet NODE (omega arith)) refl in
      λ i. record { lines = l i; depths = d i; used = u i }
    where
      no_lines : (k : ℕ) → k < no_key → lines_in sheet a₂ k ≡ []
      no_lines k h = rw (no_rows k (omega arith)) (go (eqb k TEXT))
        where
          go : (t : Bool) → ◌≡◌ {A = List (List ℕ)} (cond t [] []) []
          go true = refl
          go false = refl

      no_depths : (k : ℕ) → k < no_key → depths_in a₂ b₂ k ≡ []
      no_depths k h = rw (none_yet k (omega arith)) (go (eqb (depth_base k) 0))
        where
          go : (t : Bool) → ◌≡◌ {A = List ℕ} (cond t [] []) []
          go true = refl
          go false = refl

  pub none_seen : (seen : List ℕ) → PLACE_WORDS ≤ length seen → Seen (held sheet a₂ b₂) seen
  none_seen seen l = subst (λ (s : State). Seen s seen) (sym state_empty) (seen_first empty seen empty-lines l)

  pub none_before : (k : ℕ) → k ≡ 0 → in_order (held sheet a₂ b₂) k ≡ true
  none_before k h = rw h (ap (λ (s : State). in_order s 0) state_empty ∙ order_first)

  blank : (i : ℕ) → i < TYPEDEPTHS → get_or b₂ i 0 ≡ 0
  blank i h = ap (λ (x : List ℕ). get_or x i 0) hs ∙ get_or-set_other b₁ SPENT i 0 0 (omega arith) ∙ ap (λ (x : List ℕ). get_or x i 0) hb ∙ get_d_zeros TYPEDEPTHS b i h

  none_spent : get_or b₂ SPENT 0 ≡ 0
  none_spent = ap (λ (x : List ℕ). get_or x SPENT 0) hs ∙ get_or-set_same b₁ SPENT 0 0 (omega (arith, long_b₁))

  ready_first : Ready a₂ b₂
  ready_first =
      record {
        sound = record {
          few = λ k h. omega (arith, none_yet k h);
          low = λ k i h l. absurd (omega (arith, none_yet k h));
          high = λ k i h l. absurd (omega (arith, none_yet k h));
          ends = λ k h l z. absurd (omega (arith, none_yet k h));
          over = omega (arith, top_first);
          long = omega (arith, long_a₂);
        };
        none = none_yet RUN (omega arith);
        made = none_yet MADE (omega arith);
        known = R.cleared a₂ b₂ blank;
        noted = noted_blank a₂ b₂ (none_yet NODE (omega arith)) (none_yet POLICY (omega arith)) none_spent;
        blank = λ l. blank;
        long = omega (arith, long_b₂);
      }

  rest_first : (drop 16384 a₂ ≡ drop 16384 a) × (drop 16384 b₂ ≡ drop 16384 b)
  rest_first = (
    ap (drop 16384) h₂ ∙ drop-set-lt 16384 a₁ TOP heap (omega arith) ∙ ap (drop 16384) ha ∙ drop_past TOP (16384 - TOP) a,
    ap (drop 16384) hs ∙ drop-set-lt 16384 b₁ SPENT 0 (omega arith) ∙ ap (drop 16384) hb ∙ drop_past TYPEDEPTHS 12288 b,
  )

-- ---- the lines

-- what is left to read from byte `at` and line k gives what the whole does
pub record Progress (m : Mode) (sheet a₀ b₀ a b : List ℕ) (at k : ℕ) : Type 0 where
  pub left : read m sheet ≡ reading m (split 10 (drop at sheet)) (held sheet a b) k
  pub in_sheet : at ≤ length sheet
  pub ready : Ready a b
  pub reached : Reached m (held sheet a b)
  pub closed : 1 ≤ get_or a PRINCIPAL 0 → AllFit (held sheet a b)
  pub room : taken a ≤ 2 * heap + at
  pub near : k ≤ at + 1
  pub long_a : length a ≡ length a₀
  pub long_b : length b ≡ length b₀
  pub rest_a : drop 16384 a ≡ drop 16384 a₀
  pub rest_b : drop 16384 b ≡ drop 16384 b₀

progress_start : (m : Mode) (sheet a b a₁ b₁ b₂ a₂ : List ℕ) → 16384 ≤ length a → 16384 ≤ length b → a₁ ≡ zeros TOP a → b₁ ≡ zeros TYPEDEPTHS b → b₂ ≡ set b₁ SPENT 0 → a₂ ≡ set a₁ TOP heap → Progress m sheet a₂ b₂ a₂ b₂ 0 1
unfolding read
progress_start m sheet a b a₁ b₁ b₂ a₂ la lb ha hb hs h₂ =
    record {
      left = ap (λ (s : State). reading m (split 10 sheet) s 1) (sym (state_empty sheet a b a₁ b₁ b₂ a₂ la lb ha hb hs h₂));
      in_sheet = omega arith;
      ready = ready_first sheet a b a₁ b₁ b₂ a₂ la lb ha hb hs h₂;
      reached = subst (Reached m) (sym (state_empty sheet a b a₁ b₁ b₂ a₂ la lb ha hb hs h₂)) before_any;
      closed = λ h. absurd (omega (arith, none_yet sheet a b a₁ b₁ b₂ a₂ la lb ha hb hs h₂ PRINCIPAL (omega arith)));
      room = omega (arith, top_first sheet a b a₁ b₁ b₂ a₂ la lb ha hb hs h₂, none_yet sheet a b a₁ b₁ b₂ a₂ la lb ha hb hs h₂ NODE (omega arith));
      near = omega arith;
      long_a = refl;
      long_b = refl;
      rest_a = refl;
      rest_b = refl;
    }

-- the same at the sheet's first cursor
pub progress_first : (m : Mode) (sheet a b a₁ b₁ b₂ a₂ : List ℕ) (c : Cursor) → c.line ≡ 1 → c.at ≡ 0 → 16384 ≤ length a → 16384 ≤ length b → a₁ ≡ zeros TOP a → b₁ ≡ zeros TYPEDEPTHS b → b₂ ≡ set b₁ SPENT 0 → a₂ ≡ set a₁ TOP heap
    → Progress m sheet a₂ b₂ a₂ b₂ c.at c.line
progress_first m sheet a b a₁ b₁ b₂ a₂ c hl hc la lb ha hb hs h₂ =
    subst (λ (x : ℕ). Progress m sheet a₂ b₂ a₂ b₂ x c.line) (sym hc)
    (subst (Progress m sheet a₂ b₂ a₂ b₂ 0) (sym hl) (progress_start m sheet a b a₁ b₁ b₂ a₂ la lb ha hb hs h₂))

-- what the words at entry, the loop's first words and its last ones leave
pub from_entry : (x : Reading) (sheet a b a₁ b₁ b₂ a₂ a₃ b₃ : List ℕ) (n l : ℕ) → 16384 ≤ length a → 16384 ≤ length b → a₁ ≡ zeros TOP a → b₁ ≡ zeros TYPEDEPTHS b → b₂ ≡ set b₁ SPENT 0 → a₂ ≡ set a₁ TOP heap
    → Read x sheet a₂ b₂ a₃ b₃ n l → Read x sheet a b a₃ b₃ n l
from_entry x sheet a b a₁ b₁ b₂ a₂ a₃ b₃ n l la lb ha hb hs h₂ r =
    let q = rest_first sheet a b a₁ b₁ b₂ a₂ la lb ha hb hs h₂ in
    record { number_is = r.number_is; line_is = r.line_is; state_is = r.state_is; ready = r.ready; room = r.room; rest_a = r.rest_a ∙ q.0; rest_b = r.rest_b ∙ q.1 }

module _ (m : Mode) (sheet a₀ b₀ a b : List ℕ) (c : Cursor) (i : Progress m sheet a₀ b₀ a b c.at c.line) where
  pub finish_needs : (USES + get_or a NODE 0 ≤ length b) × Noted a b
  finish_needs = (omega (arith, i.ready.long, i.ready.sound.few NODE (omega arith), limit_small NODE), i.ready.noted)

  -- what is left of the sheet
  abbrev bytes : List ℕ
  bytes = drop c.at sheet

  asked : read m sheet ≡ before_line (first_part (split 10 bytes)) (held sheet a b) (reading_on m (split 10 bytes) (held sheet a b) c.line)
  asked = i.left ∙ reading_before m (split 10 bytes) (held sheet a b) c.line

  -- an entity line reaches a kind that is not above its own
  pub line_unfits : (u : ℕ) → Some u ≡ unfit_line a (drop c.at sheet) → Read (read m sheet) sheet a₀ b₀ a b 7 u
  line_unfits u hu =
      let x : read m sheet ≡ reads (held sheet a b) 7 u =
      asked ∙ line_unfit sheet a b i.closed bytes (first_part (split 10 bytes)) (starts_entity bytes) (reading_on m (split 10 bytes) (held sheet a b) c.line) u (sym hu) in
      record {
        number_is = sym (ap (λ (z : Reading). z.number) x);
        line_is = sym (ap (λ (z : Reading). z.line) x);
        state_is = λ z. absurd (omega arith);
        ready = λ z. i.ready;
        room = λ z. absurd (omega arith);
        rest_a = i.rest_a;
        rest_b = i.rest_b;
      }

  -- none does
  module _ (none_unfit : None ≡ unfit_line a (drop c.at sheet)) (r : L.Line) (q : LineRead sheet c r) where
    by_line : (o : L.Line) → r ≡ o → read m sheet ≡ reading_by m (held sheet a b) c.line sheet o
    by_line o e =
        asked
        ∙ line_passes sheet a b i.closed bytes (first_part (split 10 bytes)) (starts_entity bytes) (reading_on m (split 10 bytes) (held sheet a b) c.line) (sym none_unfit)
        ∙ q.reads_on m (held sheet a b) c.line
        ∙ ap (reading_by m (held sheet a b) c.line sheet) e

    pub all_read : r ≡ L.TheVariants.End → (n l : ℕ) → n ≡ (ending (held [] a b) c.line).number → l ≡ (ending (held [] a b) c.line).line → Read (read m sheet) sheet a₀ b₀ a b n l
    all_read e n l hn hl =
        let x : read m sheet ≡ ending (held sheet a b) c.line = by_line L.TheVariants.End e in
        let y = end_same sheet a b c.line in
        record {
          number_is = hn ∙ y.0 ∙ sym (ap (λ (z : Reading). z.number) x);
          line_is = hl ∙ y.1 ∙ sym (ap (λ (z : Reading). z.line) x);
          state_is = λ z. sym (ap (λ (z : Reading). z.state) x ∙ end_state (held sheet a b) c.line);
          ready = λ z. i.ready;
          room = λ z. omega (arith, i.room, i.in_sheet);
          rest_a = i.rest_a;
          rest_b = i.rest_b;
        }

    pub line_faulty : r ≡ L.TheVariants.Faulty → Read (read m sheet) sheet a₀ b₀ a b 3 c.line
    line_faulty e =
        let x : read m sheet ≡ reads (held sheet a b) 3 c.line = by_line L.TheVariants.Faulty e in
        record {
          number_is = sym (ap (λ (z : Reading). z.number) x);
          line_is = sym (ap (λ (z : Reading). z.line) x);
          state_is = λ z. absurd (omega arith);
          ready = λ z. i.ready;
          room = λ z. absurd (omega arith);
          rest_a = i.rest_a;
          rest_b = i.rest_b;
        }

    module _ (j : ℕ) (equals : Cursor) (e : ℕ) (next : Cursor) (o : r ≡ L.TheVariants.Entry j equals e next) where
      entry : Entered sheet c j equals e next
      entry = line_entered sheet c j equals e next (sym o ∙ q.is)

      -- a key has at least three letters, and every key but `day` one more
      wide : c.at + 3 ≤ equals.at
      wide = entry_wide sheet c j equals e next (sym o ∙ q.is)

      wider : (j ≡ DAY → ⊥) → c.at + 4 ≤ equals.at
      wider = entry_wider sheet c j equals e next (sym o ∙ q.is)

      line_long : (c.at + length (part sheet c.at e) ≡ e) × (e < length sheet) × (next.at ≡ e + 1)
      line_long = let w = entry in (omega (arith, length_part sheet c.at e (omega (arith, w.ends)), w.begins, w.equals_in), w.ends, w.next_at)

      pub line_falls : length sheet - next.at < length sheet - c.at
      line_falls = omega (arith, line_long.0, line_long.1, line_long.2)

      row : List ℕ
      row = row_of_value m j (part sheet (equals.at + 1) e)

      pub line_fits : length sheet ≤ 16384 → (seen : List ℕ) → Seen (held sheet a b) seen → (last : ℕ) → in_order (held sheet a b) last ≡ true
          → Ready a b × Reached m (held sheet a b) × (equals.at < e) × (e ≤ length sheet) × (length sheet ≤ 16384) × (2 * get_or a TOP 0 + (e + 4 - equals.at) ≤ 2 * heap + 16400) × Seen (held sheet a b) seen × (in_order (held sheet a b) last ≡ true)
      line_fits s seen h last o =
          let w = entry in
          (i.ready, i.reached, w.equals_in, omega (arith, w.ends), s, omega (arith, i.room, wide, w.equals_in, w.ends), h, o)

      module _ (a' b' : List ℕ) (n : ℕ) (t : Taken sheet (row_of_value m j (part sheet (equals.at + 1) e)) a b a' b' (e + 4 - equals.at) n) where
        line_does : read m sheet ≡ go_on (held sheet a b) c.line row n (reading m (split 10 (drop next.at sheet)))
        unfolding row
        line_does = by_line (L.TheVariants.Entry j equals e next) o ∙ ap (λ (y : ℕ). go_on (held sheet a b) c.line row y (reading m (split 10 (drop next.at sheet)))) (sym t.number)

        pub line_stops : (n ≡ 0 → ⊥) → Read (read m sheet) sheet a₀ b₀ a' b' n c.line
        line_stops z =
            let s : read m sheet ≡ reads (held sheet a b) n c.line = line_does ∙ go_stops (held sheet a b) c.line row n (reading m (split 10 (drop next.at sheet))) z in
            record {
              number_is = sym (ap (λ (x : Reading). x.number) s);
              line_is = sym (ap (λ (x : Reading). x.line) s);
              state_is = λ y. absurd (z y);
              ready = λ y. absurd (z y);
              room = λ y. absurd (z y);
              rest_a = t.rest_a ∙ i.rest_a;
              rest_b = t.rest_b ∙ i.rest_b;
            }

        pub line_joins : n ≡ 0 → (seen seen' : List ℕ) → Seen (held sheet a b) seen → seen' ≡ with_seen seen (row_of_value m j (part sheet (equals.at + 1) e)) → Seen (held sheet a' b') seen'
        line_joins z seen seen' h e' =
            let r = row_of_value m j (part sheet (equals.at + 1) e) in
            subst (Seen (held sheet a' b')) (sym e') (subst (λ (s : State). Seen s (with_seen seen r)) (sym (t.state z)) (seen_more (held sheet a b) seen r h))

        pub line_orders : n ≡ 0 → (k : ℕ) → k ≡ j → in_order (held sheet a' b') k ≡ true
        line_orders z k h =
            rw h (ap (λ (s : State). in_order s j) (t.state z) ∙ order_after m j (part sheet (equals.at + 1) e) (held sheet a b) (sym t.number ∙ z))

        line_reached : n ≡ 0 → Reached m (more (held sheet a b) (row_of_value m j (part sheet (equals.at + 1) e)))
        line_reached z =
            let w : row_of m (part sheet c.at e) ≡ row_of_value m j (part sheet (equals.at + 1) e) = entry.row m in
            subst (λ (x : List ℕ). Reached m (more (held sheet a b) x)) w (after_line (part sheet c.at e) i.reached (ap (fault (held sheet a b)) w ∙ sym t.number ∙ z))

        line_closed : n ≡ 0 → 1 ≤ get_or a' PRINCIPAL 0 → AllFit (held sheet a' b')
        line_closed z h =
            let w : row_of m (part sheet c.at e) ≡ row_of_value m j (part sheet (equals.at + 1) e) = entry.row m in
            let y : starts (ascii "entity=") (part sheet c.at e) ≡ starts (ascii "entity=") bytes = ap (λ (ls : List (List ℕ)). starts (ascii "entity=") (first_part ls)) (sym entry.lines) ∙ starts_entity bytes in
            let f = closed_after sheet a b i.closed bytes m (part sheet c.at e) y (sym none_unfit) (ap (fault (held sheet a b)) w ∙ sym t.number ∙ z) in
            let g : held sheet a' b' ≡ more (held sheet a b) (row_of m (part sheet c.at e)) = t.state z ∙ ap (more (held sheet a b)) (sym w) in
            subst AllFit (sym g) (f (omega (arith, h, count_held sheet a' b' PRINCIPAL (omega arith), ap (λ (x : State). count x PRINCIPAL) g)))

        line_room : n ≡ 0 → Dec (j ≡ DAY) → taken a' ≤ 2 * heap + next.at
        line_room z (yes d) =
            let k : key_of (row_of_value m j (part sheet (equals.at + 1) e)) ≡ DAY = own_key m j (part sheet (equals.at + 1) e) (held sheet a b) (sym t.number ∙ z) ∙ d in
            omega (arith, t.day k z, i.room, wide, entry.equals_in, line_long.2)
        line_room z (no d) = omega (arith, t.room z, i.room, wider d, entry.equals_in, line_long.2)

        pub line_goes : n ≡ 0 → length sheet ≤ 16384 → length a' ≡ length a → length b' ≡ length b → Progress m sheet a₀ b₀ a' b' next.at next.line
        unfolding row
        line_goes z s la lb =
            let v : suc c.line ≡ next.line = omega (arith, entry.next_line, i.near, line_long.0, line_long.1) in
            record {
              left = line_does
                  ∙ go_on_law (held sheet a b) c.line row n (reading m (split 10 (drop next.at sheet))) z
                  ∙ ap₂ (reading m (split 10 (drop next.at sheet))) (sym (t.state z)) v;
              in_sheet = omega (arith, line_long.1, line_long.2);
              ready = t.ready z;
              reached = subst (Reached m) (sym (t.state z)) (line_reached z);
              closed = line_closed z;
              room = line_room z (ℕ_discrete j DAY);
              near = omega (arith, i.near, line_long.0, line_long.2);
              long_a = la ∙ i.long_a;
              long_b = lb ∙ i.long_b;
              rest_a = t.rest_a ∙ i.rest_a;
              rest_b = t.rest_b ∙ i.rest_b;
            }

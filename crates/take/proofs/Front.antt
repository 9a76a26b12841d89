-- Slices that agree in their first 16,384 words hold the same state, so a line may be taken in their fronts alone. Assumes nothing.
use mathlib.Core.Path.{◌≡◌, refl, sym, ap, subst, ◌∙◌}
use mathlib.Core.Bool.{true}
use mathlib.Core.List.{List, ◌++◌}
use Prim.Native.Nat.{ℕ, ◌+◌, ◌-◌, ◌*◌, ◌≤◌, ◌<◌}
use native.Mathlib.Nat.{le_refl}
use native.Mathlib.Omega.{arith}
use lib.ListN.{length, get_or, take, drop, length-append}
use lib.Seq.{length-take-le, take-take, take-append-le, drop-append_seam}
use Rattle.sheet.specs.Forms.{Mode, key_of, TYPE, VALUE, DAY, NODE, POLICY}
use Rattle.sheet.specs.State.{State}
use Rattle.sheet.specs.Sheet.{in_order, fault, more}
use Rattle.words.specs.Log.{room}
use Rattle.words.proofs.Stores.{get_d_below, take_below, part_below}
use Rattle.table.specs.Layout.{TOP, heap, TYPEDEPTHS, VALUEDEPTHS, NODEDEPTHS, USES, rows_of, depths_at, depths_held, held, limits, limit, Sound}
use Rattle.table.proofs.Frame.{rows_kept, word_kept, last_was, sound_kept}
use Rattle.table.proofs.Held.{held_same}
use Rattle.fits.proofs.Remembered.{known_kept, known_words}
use Rattle.seen.specs.Seen.{Seen}
use Rattle.uses.specs.Under.{Noted}
use Rattle.uses.proofs.NotedLaws.{noted_other}
use Rattle.take.specs.Steps.{Reached, Ready, taken, Taken}
use Rattle.take.proofs.Noting.{noted_near}

most : (limit TYPE ≡ 128) × (limit VALUE ≡ 1024) × (limit NODE ≡ 1024)
unfolding limit limits
most = (refl, refl, refl)

-- ---- slices that agree in their first words

module _ (b b' : List ℕ) (e : take room b' ≡ take room b) where
  depths_alike : (i n : ℕ) → i + n ≤ room → depths_at b' i n ≡ depths_at b i n
  depths_alike i n h =
      let z : i + n - i ≡ n = omega arith in
      subst (λ (m : ℕ). take m (drop i b') ≡ take m (drop i b)) z (part_below room b b' e i (i + n) (omega arith) h)

  work_alike : (sheet w : List ℕ) → Sound w → held sheet w b' ≡ held sheet w b
  unfolding held depths_held
  work_alike sheet w s =
      let t = depths_alike TYPEDEPTHS (get_or w TYPE 0) (omega (arith, s.few TYPE (omega arith), most.0)) in
      let v = depths_alike VALUEDEPTHS (get_or w VALUE 0) (omega (arith, s.few VALUE (omega arith), most.1)) in
      let n = depths_alike NODEDEPTHS (get_or w NODE 0) (omega (arith, s.few NODE (omega arith), most.2)) in
      let u = depths_alike USES (get_or w NODE 0) (omega (arith, s.few NODE (omega arith), most.2)) in
      rw (t, v, n, u) refl

module _ (sheet a b a' b' : List ℕ) (ea : take room a' ≡ take room a) (eb : take room b' ≡ take room b) (ready : Ready a b) (low : get_or a TOP 0 ≤ room) where
  below : take (get_or a TOP 0) a' ≡ take (get_or a TOP 0) a
  below = take_below room a a' ea (get_or a TOP 0) low

  rows_alike : (k : ℕ) → k < TOP → rows_of a' k ≡ rows_of a k
  rows_alike = rows_kept a ready.sound a' below

  word_alike : (i : ℕ) → i < TOP + 1 → get_or a' i 0 ≡ get_or a i 0
  word_alike i h = word_kept a ready.sound a' below i (omega arith)

  held_alike : held sheet a' b' ≡ held sheet a b
  held_alike = held_same sheet a a' b' b' (λ k h. rows_alike k (omega arith)) refl ∙ work_alike b b' eb sheet a ready.sound

  taken_alike : taken a' ≡ taken a
  taken_alike = rw (word_alike TOP (omega arith), word_alike NODE (omega arith)) refl

  noted_alike : Noted a' b'
  noted_alike =
      let few : get_or a NODE 0 ≤ 1024 = omega (arith, ready.sound.few NODE (omega arith), most.2) in
      noted_near a' b b' (noted_other a b a' b ready.noted (rows_alike NODE (omega arith)) (rows_alike POLICY (omega arith)) few (λ j h. refl)) (omega (arith, few, word_alike NODE (omega arith)))
      (λ j l h. get_d_below room b b' eb j (omega arith))

  ready_alike : room ≤ length a' → room ≤ length b' → Ready a' b'
  ready_alike la lb =
      record {
        sound = sound_kept a ready.sound a' below la;
        none = word_alike _ (omega arith) ∙ ready.none;
        made = word_alike _ (omega arith) ∙ ready.made;
        known = known_words a' b b' (λ i h. get_d_below room b b' eb i (omega arith)) (known_kept a a' b (rows_alike VALUE (omega arith)) (rows_alike TYPE (omega arith)) ready.known);
        noted = noted_alike;
        blank = λ q i h. get_d_below room b b' eb i (omega arith) ∙ ready.blank (last_was a ready.sound a' below VALUE q) i h;
        long = lb;
      }

-- ---- the front, and the slice with a front as long in its place

front : (w : List ℕ) → take room (take room w) ≡ take room w
front w = take-take room room w (le_refl room)

module _ (w p : List ℕ) (long : length p ≡ room) where
  back : take room (p ++ drop room w) ≡ take room p
  back = take-append-le room p (drop room w) (omega arith)

  back_rest : drop room (p ++ drop room w) ≡ drop room w
  back_rest = subst (λ (n : ℕ). drop n (p ++ drop room w) ≡ drop room w) long (drop-append_seam p (drop room w))

  back_long : room ≤ length (p ++ drop room w)
  back_long = omega (arith, length-append p (drop room w))

-- what a line needs of the slices, of their fronts
pub record Fronts (sheet a b : List ℕ) (bytes : ℕ) (m : Mode) : Type 0 where
  pub long_a : length (take room a) ≡ room
  pub long_b : length (take room b) ≡ room
  pub ready : Ready (take room a) (take room b)
  pub reached : Reached m (held sheet (take room a) (take room b))
  pub fits : 2 * get_or (take room a) TOP 0 + bytes ≤ 2 * heap + 16400
  pub seen : (m : List ℕ) → Seen (held sheet a b) m → Seen (held sheet (take room a) (take room b)) m
  pub order : (k : ℕ) → in_order (held sheet a b) k ≡ true → in_order (held sheet (take room a) (take room b)) k ≡ true

module _ (sheet a b : List ℕ) (bytes : ℕ) (ready : Ready a b) (fits : 2 * get_or a TOP 0 + bytes ≤ 2 * heap + 16400) where
  long_a : length (take room a) ≡ room
  long_a = length-take-le room a ready.sound.long

  long_b : length (take room b) ≡ room
  long_b = length-take-le room b ready.long

  state_front : held sheet (take room a) (take room b) ≡ held sheet a b
  state_front = held_alike sheet a b (take room a) (take room b) (front a) (front b) ready (omega arith)

  pub fronts : (m : Mode) → Reached m (held sheet a b) → Fronts sheet a b bytes m
  fronts m r =
      record {
        long_a = long_a;
        long_b = long_b;
        ready = ready_alike sheet a b (take room a) (take room b) (front a) (front b) ready (omega arith) (omega (arith, long_a)) (omega (arith, long_b));
        reached = subst (Reached m) (sym state_front) r;
        seen = λ m h. subst (λ (s : State). Seen s m) (sym state_front) h;
        order = λ k h. ap (λ (s : State). in_order s k) state_front ∙ h;
        fits = rw (word_alike sheet a b (take room a) (take room b) (front a) (front b) ready (omega arith) TOP (omega arith)) fits;
      }

  module _ (row p q : List ℕ) (f : ℕ) (lp : length p ≡ length (take room a)) (lq : length q ≡ length (take room b)) (t : Taken sheet row (take room a) (take room b) p q bytes f) where
    room_front : f ≡ 0 → taken p ≤ taken a + bytes + 1
    room_front z = subst (λ (n : ℕ). taken p ≤ n + bytes + 1) (taken_alike sheet a b (take room a) (take room b) (front a) (front b) ready (omega arith)) (t.room z)

    day_front : key_of row ≡ DAY → f ≡ 0 → taken p ≤ taken a + bytes
    day_front e z = subst (λ (n : ℕ). taken p ≤ n + bytes) (taken_alike sheet a b (take room a) (take room b) (front a) (front b) ready (omega arith)) (t.day e z)

    low : f ≡ 0 → get_or p TOP 0 ≤ room
    low z = omega (arith, room_front z, ready.sound.few NODE (omega arith), most.2)

    pub taken_back : Taken sheet row a b (p ++ drop room a) (q ++ drop room b) bytes f
    taken_back =
        let ka = lp ∙ long_a in
        let kb = lq ∙ long_b in
        record {
          number = t.number ∙ ap (λ (s : State). fault s row) state_front;
          state = λ z.
              held_alike sheet p q (p ++ drop room a) (q ++ drop room b) (back a p ka) (back b q kb) (t.ready z) (low z)
              ∙ t.state z ∙ ap (λ (s : State). more s row) state_front;
          ready = λ z. ready_alike sheet p q (p ++ drop room a) (q ++ drop room b) (back a p ka) (back b q kb) (t.ready z) (low z) (back_long a p ka) (back_long b q kb);
          room = λ z. subst (λ (n : ℕ). n ≤ taken a + bytes + 1) (sym (taken_alike sheet p q (p ++ drop room a) (q ++ drop room b) (back a p ka) (back b q kb) (t.ready z) (low z))) (room_front z);
          day = λ e z. subst (λ (n : ℕ). n ≤ taken a + bytes) (sym (taken_alike sheet p q (p ++ drop room a) (q ++ drop room b) (back a p ka) (back b q kb) (t.ready z) (low z))) (day_front e z);
          rest_a = back_rest a p ka;
          rest_b = back_rest b q kb;
        }

-- A line found by its key and by the first byte that is not printable. Assumes nothing.
use Rattle.std.proofs.Common.{◌≡◌, ℕ, zero, suc, ◌+◌, ◌-◌, ◌<◌, ◌≤◌, Bool, true, false, cond, ◌&&◌, eqb, ltb, List, [], ◌∷◌, map, length, get_or, take, drop, sym, refl, ap, ◌∙◌, add-one, arith, length-drop, drop_of_length-le, length-take-le, get_or-drop, drop-cons, take-take, ltb-true, le-ltb, lt-ltb, eq-eqb, ne_eqb, Some, None}
use mathlib.Core.Option.{Option, none, some}
use native.Mathlib.Decide.{dec_lt}
use lib.ListN.{get_or-eq_default}
use Rattle.cedar.proofs.Tools.{no_true, eqb_true}
use Rattle.words.specs.Log.{part}
use Rattle.sheet.specs.Ascii.{ascii}
use Rattle.sheet.specs.Bytes.{up_to, same, printable}
use Rattle.sheet.specs.Forms.{keys, word_number}
use Rattle.sheet.proofs.reading.Lines.{and_both}
use Rattle.sheet.proofs.demand3.TwoSheets.{same_is}
use Rattle.scan.specs.declared.Cursor.{Cursor}
use Rattle.scan.specs.declared.Line as L
use Rattle.scan.specs.Numbers.{number_of, following, placed, Number}
use Rattle.scan.specs.Places.{place, keyed, heading_of, start_of, is_printable, plain_to, line_after, line_to, line_at, HeadingRead, Heading}
use Rattle.scan.proofs.Scans.{rest_is}
use Rattle.scan.proofs.Splits.{some_pair}
use Rattle.scan.proofs.Wordlists.{word_number_law}
use Rattle.scan.proofs.Readings.{row_keyed, row_malformed}

-- ---- the first byte that is not printable

plain_not_ten : (x : ℕ) → is_printable x ≡ true → x ≡ 10 → ⊥
plain_not_ten x p q = no_true (ap is_printable (sym q) ∙ p)

-- where it is byte 10, the line ends there
pub plain_line : (d : List ℕ) → get_or d (plain_to d) 0 ≡ 10 → (up_to 10 d ≡ plain_to d) × (plain_to d < length d) × (printable (take (plain_to d) d) ≡ true)
plain_line [] e = absurd (omega arith)
plain_line (x ∷ d) e = go (is_printable x) refl (plain_line d) e
  where
    go : (t : Bool) → is_printable x ≡ t → (get_or d (plain_to d) 0 ≡ 10 → (up_to 10 d ≡ plain_to d) × (plain_to d < length d) × (printable (take (plain_to d) d) ≡ true))
        → get_or (x ∷ d) (cond t (suc (plain_to d)) 0) 0 ≡ 10
        → (up_to 10 (x ∷ d) ≡ cond t (suc (plain_to d)) 0) × (cond t (suc (plain_to d)) 0 < suc (length d)) × (printable (take (cond t (suc (plain_to d)) 0) (x ∷ d)) ≡ true)
    go true p f q = let r = f q in (rw (ne_eqb x 10 (plain_not_ten x p)) (ap suc r.0), omega (arith, r.1), rw p r.2)
    go false p f q = (rw (eq-eqb x 10 q) refl, omega arith, refl)

-- where it is another, the line is not printable
pub plain_broken : (d : List ℕ) → (get_or d (plain_to d) 0 ≡ 10 → ⊥) → up_to 10 d < length d → printable (take (up_to 10 d) d) ≡ false
plain_broken [] n h = absurd (omega arith)
plain_broken (x ∷ d) n h = go (is_printable x) refl (eqb x 10) refl (plain_broken d) n h
  where
    go : (t : Bool) → is_printable x ≡ t → (u : Bool) → eqb x 10 ≡ u → ((get_or d (plain_to d) 0 ≡ 10 → ⊥) → up_to 10 d < length d → printable (take (up_to 10 d) d) ≡ false)
        → (get_or (x ∷ d) (cond t (suc (plain_to d)) 0) 0 ≡ 10 → ⊥) → cond u 0 (suc (up_to 10 d)) < suc (length d) → printable (take (cond u 0 (suc (up_to 10 d))) (x ∷ d)) ≡ false
    go true p true q f n h = absurd (plain_not_ten x p (eqb_true x 10 q))
    go true p false q f n h = rw p (f n (omega arith))
    go false p true q f n h = absurd (n (eqb_true x 10 q))
    go false p false q f n h = rw p refl

-- printable bytes before it
pub plain_past : (i : ℕ) (d : List ℕ) → i ≤ length d → printable (take i d) ≡ true → plain_to d ≡ i + plain_to (drop i d)
plain_past zero d h e = omega arith
plain_past (suc i) [] h e = absurd (omega arith)
plain_past (suc i) (x ∷ d) h e = and_both (is_printable x) (printable (take i d)) e (λ p q. rw p (omega (arith, plain_past i d (omega arith) q)))

-- ---- the first `=`

up_to_at : (c : ℕ) (d : List ℕ) → up_to c d < length d → get_or d (up_to c d) 0 ≡ c
up_to_at c [] h = absurd (omega arith)
up_to_at c (x ∷ d) h = go (eqb x c) refl (up_to_at c d) h
  where
    go : (t : Bool) → eqb x c ≡ t → (up_to c d < length d → get_or d (up_to c d) 0 ≡ c) → cond t 0 (suc (up_to c d)) < suc (length d) → get_or (x ∷ d) (cond t 0 (suc (up_to c d))) 0 ≡ c
    go true p f h = eqb_true x c p
    go false p f h = f (omega arith)

up_to_before : (c m : ℕ) (d : List ℕ) → up_to c (take m d) < length (take m d) → up_to c (take m d) ≡ up_to c d
up_to_before c zero d h = absurd (omega arith)
up_to_before c (suc m) [] h = refl
up_to_before c (suc m) (x ∷ d) h = go (eqb x c) (up_to_before c m d) h
  where
    go : (t : Bool) → (up_to c (take m d) < length (take m d) → up_to c (take m d) ≡ up_to c d) → cond t 0 (suc (up_to c (take m d))) < suc (length (take m d)) → cond t 0 (suc (up_to c (take m d))) ≡ cond t 0 (suc (up_to c d))
    go true f h = refl
    go false f h = ap suc (f (omega arith))

up_to_within : (c m : ℕ) (d : List ℕ) → up_to c d < m → up_to c (take m d) ≡ up_to c d
up_to_within c zero d h = absurd (omega arith)
up_to_within c (suc m) [] h = refl
up_to_within c (suc m) (x ∷ d) h = go (eqb x c) (up_to_within c m d) h
  where
    go : (t : Bool) → (up_to c d < m → up_to c (take m d) ≡ up_to c d) → cond t 0 (suc (up_to c d)) < suc m → cond t 0 (suc (up_to c (take m d))) ≡ cond t 0 (suc (up_to c d))
    go true f h = refl
    go false f h = ap suc (f (omega arith))

take_short : (m : ℕ) (d : List ℕ) → (length (take m d) ≤ length d) × (length (take m d) ≤ m)
take_short zero d = (omega arith, omega arith)
take_short (suc m) [] = (omega arith, omega arith)
take_short (suc m) (x ∷ d) = let r = take_short m d in (omega (arith, r.0), omega (arith, r.1))

-- ---- the keys are printable

printables : List (List ℕ) → Bool
printables [] = true
printables (x ∷ l) = printable x && printables l

placed_printable : (w : List ℕ) (l : List (List ℕ)) (n : ℕ) → printables l ≡ true → placed w l ≡ some n → printable w ≡ true
unfolding printables
placed_printable w [] n t e = let z : ◌≡◌ {A = ℕ} 0 1 = cc in absurd (omega arith)
placed_printable w (x ∷ l) n t e = and_both (printable x) (printables l) t (λ p q. go (same w x) refl (placed w l) (λ k r. placed_printable w l k q r) p e)
  where
    go : (u : Bool) → same w x ≡ u → (o : Option ℕ) → ((k : ℕ) → o ≡ some k → printable w ≡ true) → printable x ≡ true → cond u (some 0) (following o) ≡ some n → printable w ≡ true
    go true s o f p e = ap printable (same_is w x s) ∙ p
    go false s (some k) f p e = f k refl
    go false s none f p e = let z : ◌≡◌ {A = ℕ} 0 1 = cc in absurd (omega arith)

keys_printable : printables (map ascii keys) ≡ true
unfolding printables keys
keys_printable = refl

key_printable : (w : List ℕ) (k : ℕ) → word_number w keys ≡ some k → printable w ≡ true
key_printable w k e = placed_printable w (map ascii keys) k keys_printable (sym (word_number_law w keys) ∙ e)

-- ---- the key of the bytes from a place on

-- a key that was found
pub record Started (d : List ℕ) (k n : ℕ) : Type 0 where
  pub equals : n ≡ up_to 61 d
  pub within : n < length d
  pub key : word_number (take n d) keys ≡ some k

pub started : (d : List ℕ) (k n : ℕ) → Some (k, n) ≡ start_of d → Started d k n
unfolding start_of
started d k n e = go (ltb (up_to 61 d) (length d)) refl (word_number (take (up_to 61 d) d) keys) refl e
  where
    none_of : ◌≡◌ {A = Heading} (Some (k, n)) None → Started d k n
    none_of q = let z : ◌≡◌ {A = ℕ} 0 1 = cc in absurd (omega arith)

    go : (t : Bool) → ltb (up_to 61 d) (length d) ≡ t → (o : Option ℕ) → word_number (take (up_to 61 d) d) keys ≡ o
        → Some (k, n) ≡ cond t (keyed (up_to 61 d) o) None → Started d k n
    go false p o q e = none_of e
    go true p none q e = none_of e
    go true p (some j) q e =
        let r = some_pair e in
        let z : n ≡ up_to 61 d = r.1 in
        let y : k ≡ j = r.0 in
        record { equals = z; within = omega (arith, ltb-true (up_to 61 d) (length d) p); key = rw (z, y) q }

-- in a line's own bytes it is the same key
pub start_heading : (d : List ℕ) (k n m : ℕ) → Started d k n → n < m → m ≤ length d → printable (take m d) ≡ true → heading_of (take m d) ≡ Some (k, n)
unfolding heading_of
start_heading d k n m s lt le p =
    let u : up_to 61 (take m d) ≡ n = up_to_within 61 m d (omega (arith, s.equals)) ∙ sym s.equals in
    let l : length (take m d) ≡ m = length-take-le m d le in
    rw (p, u, l, lt-ltb n m lt, take-take n m d (omega arith), s.key) refl

pub start_malformed : (d : List ℕ) (m : ℕ) → None ≡ start_of d → heading_of (take m d) ≡ None
unfolding heading_of start_of
start_malformed d m e = go (printable l) (ltb (up_to 61 l) (length l)) refl
  where
    l : List ℕ
    l = take m d

    go : (t u : Bool) → ltb (up_to 61 l) (length l) ≡ u → cond (t && u) (keyed (up_to 61 l) (word_number (take (up_to 61 l) l) keys)) None ≡ None
    go false u p = refl
    go true false p = refl
    go true true p =
        let h : up_to 61 l < length l = ltb-true (up_to 61 l) (length l) p in
        let s = take_short m d in
        let u : up_to 61 l ≡ up_to 61 d = up_to_before 61 m d h in
        let w : take (up_to 61 d) l ≡ take (up_to 61 d) d = take-take (up_to 61 d) m d (omega (arith, s.1)) in
        let q = rw (lt-ltb (up_to 61 d) (length d) (omega (arith, s.0))) at e in
        rw (u, w) (sym q)

pub heading_read : (d : List ℕ) (r : Heading) → r ≡ start_of d → HeadingRead d r
heading_read d (Some (k, n)) e =
    let s = started d k n e in
    record { is = e; row = λ m i lt le p. (row_keyed m (take i d) k n (sym (start_heading d k n i s (omega (arith, s.equals)) le p))).1 }
heading_read d None e = record { is = e; row = λ m i lt le p. row_malformed m (take i d) (sym (start_malformed d i e)) }

-- bytes that begin with a key and `=`
pub start_known : (d w : List ℕ) (k n : ℕ) → w ≡ take (n + 1) d → n < length d → up_to 61 w ≡ n → n < length w → word_number (take n w) keys ≡ some k → Some (k, n) ≡ start_of d
unfolding start_of
start_known d w k n e h u lt q =
    let v : up_to 61 (take (n + 1) d) ≡ n = ap (up_to 61) (sym e) ∙ u in
    let b : up_to 61 d ≡ n = sym (up_to_before 61 (n + 1) d (omega (arith, ap length e))) ∙ v in
    let t : take n d ≡ take n w = sym (take-take n (n + 1) d (omega arith)) ∙ ap (take n) (sym e) in
    rw (b, lt-ltb n (length d) h, t, q) refl

-- ---- the line at a cursor

module _ (s : List ℕ) (c : Cursor) where
  pub line_over : length s ≤ c.at → L.TheVariants.End ≡ line_at s c
  unfolding line_to
  line_over h = rw (drop_of_length-le s h, le-ltb (c.at + 0) (length s) (omega arith), le-ltb c.at (length s) h) refl

  module _ (lt : c.at < length s) (d : List ℕ) (hd : d ≡ drop c.at s) where
    long : length d + c.at ≡ length s
    long = omega (arith, ap length hd, length-drop c.at s)

    line_part : (n e : ℕ) → e ≡ c.at + n → part s c.at e ≡ take n d
    line_part n e h = let z : e - c.at ≡ n = omega arith in rw (z, hd) refl

    faulty : (up_to 10 d < length d → heading_of (take (up_to 10 d) d) ≡ None) → L.TheVariants.Faulty ≡ line_at s c
    unfolding line_to
    faulty f = go (dec_lt (up_to 10 d) (length d))
      where
        u : up_to 10 (drop c.at s) ≡ up_to 10 d
        u = ap (up_to 10) (sym hd)

        go : Dec (up_to 10 d < length d) → L.TheVariants.Faulty ≡ line_to s c (c.at + up_to 10 (drop c.at s))
        go (yes h) = rw (u, lt-ltb (c.at + up_to 10 d) (length s) (omega (arith, long)), line_part (up_to 10 d) (c.at + up_to 10 d) refl, f h) refl
        go (no h) = rw (u, le-ltb (c.at + up_to 10 d) (length s) (omega (arith, long)), lt-ltb c.at (length s) lt) refl

    module _ (h : Heading) (hh : h ≡ start_of d) where
      pub line_unkeyed : h ≡ None → L.TheVariants.Faulty ≡ line_at s c
      line_unkeyed v = faulty (λ lt. start_malformed d (up_to 10 d) (sym v ∙ hh))

      module _ (k n : ℕ) (v : h ≡ Some (k, n)) where
        keyed_at : Started d k n
        keyed_at = started d k n (sym v ∙ hh)

        pub line_room : (n < length d) × (length d + c.at ≡ length s)
        line_room = (keyed_at.within, long)

        -- the key and its `=` are printable
        key_past : plain_to d ≡ n + 1 + plain_to (drop (n + 1) d)
        key_past =
            let t = keyed_at in
            let b : get_or d n 0 ≡ 61 = ap (λ (i : ℕ). get_or d i 0) t.equals ∙ up_to_at 61 d (omega (arith, t.equals, t.within)) in
            let e : plain_to (drop n d) ≡ suc (plain_to (drop (n + 1) d)) = rw (add-one n, drop-cons d n 0 t.within, b) refl in
            omega (arith, plain_past n d (omega (arith, t.within)) (key_printable (take n d) k t.key), e)

        module _ (w : List ℕ) (hw : w ≡ take (length d - (n + 1)) (drop (n + 1) d)) (e : ℕ) (he : e ≡ plain_to w) where
          value_is : w ≡ drop (n + 1) d
          value_is = hw ∙ rest_is d (n + 1)

          -- the line ends within the sheet
          pub line_inside : e < length w → c.at + n + 1 + e < length s
          line_inside h = omega (arith, long, keyed_at.within, ap length value_is, length-drop (n + 1) d)

          ends_at : plain_to d ≡ n + 1 + e
          ends_at = key_past ∙ ap (λ (x : List ℕ). n + 1 + plain_to x) (sym value_is) ∙ ap (λ (x : ℕ). n + 1 + x) (sym he)

          end_byte : get_or d (plain_to d) 0 ≡ get_or w e 0
          end_byte = ap (λ (x : ℕ). get_or d x 0) ends_at ∙ sym (get_or-drop (n + 1) d e 0) ∙ ap (λ (x : List ℕ). get_or x e 0) (sym value_is)

          pub line_broken : (get_or w e 0 ≡ 10 → ⊥) → L.TheVariants.Faulty ≡ line_at s c
          unfolding heading_of
          line_broken b = faulty (λ lt. rw (plain_broken d (λ q. b (sym end_byte ∙ q)) lt) refl)

          pub line_unclosed : length w ≤ e → L.TheVariants.Faulty ≡ line_at s c
          line_unclosed l = line_broken (λ q. absurd (omega (arith, get_or-eq_default w 0 {n = e} l)))

          pub line_found_law : get_or w e 0 ≡ 10 → (i : ℕ) → i ≡ line_after c.line
              → L.TheVariants.Entry k (place c.line (c.at + n)) (c.at + n + 1 + e) (place i (c.at + n + 1 + e + 1)) ≡ line_at s c
          unfolding line_to
          line_found_law b i hi =
              let r = plain_line d (end_byte ∙ b) in
              let q : heading_of (take (plain_to d) d) ≡ Some (k, n) =
              start_heading d k n (plain_to d) keyed_at (omega (arith, ends_at)) (omega (arith, r.1)) r.2 in
              let z : c.at + up_to 10 (drop c.at s) ≡ c.at + n + 1 + e = omega (arith, ap (up_to 10) hd, r.0, ends_at) in
              rw (z, lt-ltb (c.at + n + 1 + e) (length s) (omega (arith, r.1, ends_at, long)), line_part (plain_to d) (c.at + n + 1 + e) (omega (arith, ends_at)), q, hi) refl

-- ---- the key by the first `=`

module _ (d : List ℕ) (n : ℕ) (f : n ≡ 0 + up_to 61 (drop 0 d)) where
  pub key_none : length d ≤ n → None ≡ start_of d
  unfolding start_of
  key_none h = rw (le-ltb (up_to 61 d) (length d) (omega arith)) refl

  module _ (q : List ℕ) (pq : q ≡ take n d) (r : Number) (e : number_of r ≡ word_number q keys) (h : n < length d) where
    start_is : start_of d ≡ keyed n (number_of r)
    unfolding start_of
    start_is = let m : up_to 61 d ≡ n = omega arith in rw (m, lt-ltb n (length d) h, ← pq, ← e) refl

    pub key_keyed : (k : ℕ) → r ≡ Some k → Some (k, n) ≡ start_of d
    key_keyed k v = sym (start_is ∙ ap (λ (x : Number). keyed n (number_of x)) v)

    pub key_unkeyed : r ≡ None → None ≡ start_of d
    key_unkeyed v = sym (start_is ∙ ap (λ (x : Number). keyed n (number_of x)) v)

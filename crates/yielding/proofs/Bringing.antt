-- The values that a run made, among the values of another sheet: each number of the one has a number there that stands for the same content.
-- Assumes nothing.
use mathlib.Core.Path.{◌≡◌, refl, sym, ◌∙◌, ap, ap₂, subst}
use mathlib.Core.List.{List, [], ◌∷◌, ◌++◌, append_assoc, append-nil}
use Prim.Native.Nat.{ℕ, suc, ◌+◌, ◌-◌, ◌*◌, ◌≤◌, ◌<◌}
use native.Mathlib.Omega.{arith}
use native.Mathlib.Decide.{dec_lt}
use borrow.Author.Tests.{lt-ltb, le-ltb}
use lib.ListN.{length, get_or, set, length-append, length-set}
use lib.Seq.{get_or-set_same, get_or-set_other}
use Rattle.std.specs.Prelude.{Ok}
use Rattle.words.specs.Log.{pushed}
use Rattle.words.proofs.Logs.{appended_is}
use Rattle.cedar.specs.Value.{Value as Content, Values, Fields, vset, ok}
use Rattle.cedar.specs.Canonical.{make_set}
use Rattle.cedar.specs.Entities.{Env}
use Rattle.cedar.specs.Rows.{Entries, stop, entry, Row, rbool, rlong, rtext, rent, rset, rrec}
use Rattle.cedar.specs.Making.{sort_n}
use Rattle.cedar.specs.Table.{At, now, later, Elems, elem0, elem1, Named, name0, name1, Denotes, dbool, dlong, dtext, dent, dset, drec, Table, start, grow}
use Rattle.cedar.proofs.TableLaws.{at_append, at_last, at_snoc, same_length, at_fun}
use Rattle.cedar.proofs.MakingLaws.{content_of, set_denotes}
use Rattle.cedar.proofs.ReadsLaws.{Keeps}
use Rattle.sheet.specs.State.{value_row, entries_of}
use Rattle.sheet.specs.Content.{rows_in}
use Rattle.sheet.proofs.content.ValueRows.{back, flat, rows_length}
use Rattle.sheet.proofs.running.MadeWords.{fields_in, row_words, words_of}
use Rattle.table.specs.Layout.{MADE}
use Rattle.value.specs.Made.{values_in, set_row, written, number_of, with_value}
use Rattle.value.proofs.Interned.{Formed, Formeds, none_formed, one_formed}
use Rattle.value.proofs.Fills.{written_is}
use Rattle.residual.specs.Rows.{lit_row}
use Rattle.tpe.proofs.Reach.{reach}
use Rattle.tpe.proofs.Sets.{sort_short}
use Rattle.evaluator.specs.Run.{made_of}
use Rattle.evaluator.proofs.Gives.{Says, says_value, Stand}
use Rattle.carried.specs.Carry.{number_there, member_rows, fields_onto, field_words, row_there, There, carried_from}
use Rattle.yielding.proofs.Getting.{Gets, Space, gets_made}
use Rattle.yielding.proofs.Stacking.{Maps}

-- ---- a row with other numbers

abbrev map_n : (ℕ → ℕ) → List ℕ → List ℕ
map_n f [] = []
map_n f (x ∷ l) = f x ∷ map_n f l

abbrev map_entries : (ℕ → ℕ) → Entries → Entries
map_entries f stop = stop
map_entries f (entry t v e) = entry t (f v) (map_entries f e)

abbrev map_row : (ℕ → ℕ) → Row → Row
map_row f (rbool b) = rbool b
map_row f (rlong z) = rlong z
map_row f (rtext t) = rtext t
map_row f (rent k t) = rent k t
map_row f (rset l) = rset (sort_n (map_n f l))
map_row f (rrec e) = rrec (map_entries f e)

map_long : (f : ℕ → ℕ) (l : List ℕ) → length (map_n f l) ≡ length l
map_long f [] = refl
map_long f (x ∷ l) = ap suc (map_long f l)

module _ (C D : List Content) (f : ℕ → ℕ) (m : ℕ) (h : (v : ℕ) (x : Content) → v < m → At C v x → At D (f v) x) (below : (v : ℕ) (x : Content) → At C v x → v < m) where
  map_elems : {l : List ℕ} {vs : Values} → Elems C l vs → Elems D (map_n f l) vs
  map_elems elem0 = elem0
  map_elems (elem1 {n = n} {v = v} a e) = elem1 (h n v (below n v a) a) (map_elems e)

  map_named : {e : Entries} {fs : Fields} → Named C e fs → Named D (map_entries f e) fs
  map_named name0 = name0
  map_named (name1 {n = n} {v = v} a e) = name1 (h n v (below n v a) a) (map_named e)

  map_denotes : {ρ : Row} {x : Content} → Denotes C ρ x → Denotes D (map_row f ρ) x
  unfolding make_set
  map_denotes dbool = dbool
  map_denotes dlong = dlong
  map_denotes dtext = dtext
  map_denotes dent = dent
  map_denotes (dset {l = l} {xs = xs} {vs = vs} a e q) = subst (λ (z : Values). Denotes D (rset (sort_n (map_n f l))) (vset z)) q (set_denotes (map_elems e))
  map_denotes (drec e) = drec (map_named e)

at_below : {A : Type 0} {l : List A} {n : ℕ} {x : A} → At l n x → n < length l
at_below now = omega arith
at_below (later h) = let z = at_below h in omega (arith, z)

-- the row of a number is over the numbers before it
pub over_before : {T : List Row} {K : List Content} {m : ℕ} {x : Content} → Table T K → At K m x → (ρ : Row) × At T m ρ × ((f : ℕ → ℕ) (D : List Content) → ((v : ℕ) (y : Content) → v < m → At K v y → At D (f v) y) → Denotes D (map_row f ρ) x)
over_before start a = elim a [ ]
over_before {m = m} {x = x} (grow {T = T} {C = C} {r = r} {v = w} t d h) a =
    at_snoc C a
    (λ b. let (ρ, c, k) = over_before t b in (ρ, at_append (r ∷ []) c, λ f D g. k f D (λ v y lt q. g v y lt (at_append (w ∷ []) q))))
    (λ p q. (
      r,
      subst (λ z. At (T ++ (r ∷ [])) z r) (same_length t ∙ sym p) (at_last T r),
      λ f D g. subst (Denotes D (map_row f r)) (sym q) (map_denotes C D f m (λ v y lt c. g v y lt (at_append (w ∷ []) c)) (λ v y c. let z = at_below c in omega (arith, z, p)) d),
    ))

-- ---- a row by its words

abbrev lit_rows : List ℕ → List ℕ
lit_rows [] = []
lit_rows (x ∷ l) = lit_row x 0 ++ lit_rows l

lits_long : (l : List ℕ) → length (lit_rows l) ≡ 4 * length l
lits_long [] = refl
lits_long (x ∷ l) = let h = lits_long l in omega (arith, h)

lits_back : (l : List ℕ) → values_in (lit_rows l) ≡ l
unfolding values_in
lits_back [] = refl
lits_back (x ∷ l) = ap (λ (k : List ℕ). x ∷ k) (lits_back l)

members_are : (f : ℕ → ℕ) (l pre : List ℕ) → length pre + 4 * length l ≤ 16384 → member_rows f l pre ≡ pre ++ lit_rows (map_n f l)
unfolding member_rows
members_are f [] pre h = sym (append-nil pre)
members_are f (x ∷ l) pre h =
    let z = length-append pre (lit_row (f x) 0) in
    ap (member_rows f l) (appended_is pre (lit_row (f x) 0) (omega (arith, h))) ∙ members_are f l (pre ++ lit_row (f x) 0) (omega (arith, h, z)) ∙ append_assoc pre (lit_row (f x) 0) (lit_rows (map_n f l))

fields_are : (f : ℕ → ℕ) (e : Entries) (l : List ℕ) → length l + 2 * fields_in e ≤ 16384 → fields_onto f (flat e) l ≡ l ++ flat (map_entries f e)
unfolding fields_onto
fields_are f stop l h = sym (append-nil l)
fields_are f (entry t v e) l h =
    let a = length-append l (t ∷ []) in
    let b = length-append (l ++ (t ∷ [])) (f v ∷ []) in
    ap (λ (x : List ℕ). fields_onto f (flat e) (pushed x (f v))) (appended_is l (t ∷ []) (omega (arith, h)))
    ∙ ap (fields_onto f (flat e)) (appended_is (l ++ (t ∷ [])) (f v ∷ []) (omega (arith, h, a)))
    ∙ fields_are f e ((l ++ (t ∷ [])) ++ (f v ∷ [])) (omega (arith, h, a, b))
    ∙ append_assoc (l ++ (t ∷ [])) (f v ∷ []) (flat (map_entries f e)) ∙ append_assoc l (t ∷ []) (f v ∷ flat (map_entries f e))

flat_entries : (e : Entries) → entries_of (flat e) ≡ e
flat_entries stop = refl
flat_entries (entry t v e) = ap (entry t v) (flat_entries e)

flat_long : (e : Entries) → length (flat e) ≡ fields_in e + fields_in e
flat_long stop = refl
flat_long (entry t v e) = let h = flat_long e in omega (arith, h)

map_fields : (f : ℕ → ℕ) (e : Entries) → fields_in (map_entries f e) ≡ fields_in e
map_fields f stop = refl
map_fields f (entry t v e) = ap suc (map_fields f e)

back_long : (ρ : Row) → length (back ρ) ≡ row_words ρ
back_long (rbool b) = refl
back_long (rlong z) = refl
back_long (rtext t) = refl
back_long (rent k t) = refl
back_long (rset l) = refl
back_long (rrec e) = ap suc (flat_long e)

pub row_long : (r : List ℕ) → Formed r → length r ≡ row_words (value_row r)
row_long r h = sym (ap length h) ∙ back_long (value_row r)

-- the row there of a formed row
record There' (f : ℕ → ℕ) (r : List ℕ) : Type 0 where
  value : value_row (row_there f r) ≡ map_row f (value_row r)
  formed : Formed (row_there f r)
  short : length (row_there f r) ≤ length r

module _ (f : ℕ → ℕ) where
  there_set : (l : List ℕ) → 5 * suc (length l) ≤ 16384 → row_there f (14 ∷ l) ≡ 14 ∷ sort_n (map_n f l)
  unfolding row_there set_row
  there_set l h =
      let m : member_rows f l [] ≡ lit_rows (map_n f l) = members_are f l [] (omega (arith, h)) in
      let s = sort_short (map_n f l) in
      let n = map_long f l in
      let k = lits_long (map_n f l) in
      ap₂ (λ (x y : List ℕ). written x (14 ∷ sort_n (values_in y))) m m ∙ ap (λ (z : List ℕ). written (lit_rows (map_n f l)) (14 ∷ sort_n z)) (lits_back (map_n f l))
      ∙ written_is (lit_rows (map_n f l)) (14 ∷ sort_n (map_n f l)) (omega (arith, h, s, n, k))

  there_record : (e : Entries) → 5 * suc (fields_in e + fields_in e) ≤ 16384 → row_there f (15 ∷ flat e) ≡ 15 ∷ flat (map_entries f e)
  unfolding row_there field_words
  there_record e h = ap (fields_onto f (flat e)) (appended_is [] (15 ∷ []) (omega arith)) ∙ fields_are f e (15 ∷ []) (omega (arith, h))

  plain : (r : List ℕ) → row_there f r ≡ r → map_row f (value_row r) ≡ value_row r → Formed r → There' f r
  plain r e m h = record { value = ap value_row e ∙ sym m; formed = ap (λ (q : List ℕ). back (value_row q)) e ∙ h ∙ sym e; short = let z = ap length e in omega (arith, z) }

  there_for : (ρ : Row) (r : List ℕ) → value_row r ≡ ρ → back ρ ≡ r → 5 * length r ≤ 16384 → There' f r
  unfolding row_there
  there_for (rbool b) r v e h = plain r (subst (λ (q : List ℕ). row_there f q ≡ q) e refl) (ap (map_row f) v ∙ sym v) (ap back v ∙ e)
  there_for (rlong z) r v e h = plain r (subst (λ (q : List ℕ). row_there f q ≡ q) e refl) (ap (map_row f) v ∙ sym v) (ap back v ∙ e)
  there_for (rtext t) r v e h = plain r (subst (λ (q : List ℕ). row_there f q ≡ q) e refl) (ap (map_row f) v ∙ sym v) (ap back v ∙ e)
  there_for (rent k t) r v e h = plain r (subst (λ (q : List ℕ). row_there f q ≡ q) e refl) (ap (map_row f) v ∙ sym v) (ap back v ∙ e)
  there_for (rset l) r v e h =
      let n : length r ≡ suc (length l) = sym (ap length e) in
      let z : row_there f r ≡ 14 ∷ sort_n (map_n f l) = ap (row_there f) (sym e) ∙ there_set l (omega (arith, h, n)) in
      let s = sort_short (map_n f l) in
      let k = map_long f l in
      record { value = ap value_row z ∙ ap (map_row f) (sym v); formed = ap (λ (q : List ℕ). back (value_row q)) z ∙ sym z; short = let w = ap length z in omega (arith, w, s, k, n) }
  there_for (rrec x) r v e h =
      let n : length r ≡ suc (fields_in x + fields_in x) = sym (ap length e) ∙ ap suc (flat_long x) in
      let z : row_there f r ≡ 15 ∷ flat (map_entries f x) = ap (row_there f) (sym e) ∙ there_record x (omega (arith, h, n)) in
      let k = flat_long (map_entries f x) in
      let j = map_fields f x in
      record {
        value = ap value_row z ∙ ap rrec (flat_entries (map_entries f x)) ∙ ap (map_row f) (sym v);
        formed = ap (λ (q : List ℕ). back (value_row q)) z ∙ ap (λ (y : Entries). 15 ∷ flat y) (flat_entries (map_entries f x)) ∙ sym z;
        short = let w = ap length z in omega (arith, w, k, j, n);
      }

  there_is_law : (r : List ℕ) → Formed r → 5 * length r ≤ 16384 → There' f r
  there_is_law r h s = there_for (value_row r) r refl h s

-- ---- all made values

abbrev pub words_in : List (List ℕ) → ℕ
words_in [] = 0
words_in (r ∷ rs) = length r + words_in rs

pub words_are : {rs : List (List ℕ)} → Formeds rs → words_in rs ≡ words_of (rows_in rs)
words_are none_formed = refl
words_are (one_formed {r = r} h t) = ap₂ (λ (x y : ℕ). x + y) (row_long r h) (words_are t)

at_middle : {A : Type 0} (pre : List A) (x : A) (rest : List A) → At (pre ++ (x ∷ rest)) (length pre) x
at_middle [] x rest = now
at_middle (y ∷ pre) x rest = later (at_middle pre x rest)

rows_middle : (pre : List (List ℕ)) (r : List ℕ) (rest : List (List ℕ)) → rows_in (pre ++ (r ∷ rest)) ≡ rows_in pre ++ (value_row r ∷ rows_in rest)
rows_middle [] r rest = refl
rows_middle (q ∷ pre) r rest = ap (λ (l : List Row). value_row q ∷ l) (rows_middle pre r rest)

pub here_there : (g : ℕ) (ns : List ℕ) (v : ℕ) → v < g → number_there g ns v ≡ v
unfolding number_there
here_there g ns v h = rw (lt-ltb v g h)

noted : (g : ℕ) (ns : List ℕ) (v : ℕ) → g ≤ v → number_there g ns v ≡ get_or ns (v - g) 0
unfolding number_there
noted g ns v h = rw (le-ltb v g h)

module _ (sheet a₀ : List ℕ) (G : Env) (K : List Content) (given : List (List ℕ)) (mades : List (List ℕ)) (table : Table (rows_in (given ++ mades)) K) where
  abbrev g : ℕ
  g = length given

  -- numbers below m have numbers there
  abbrev Below : ℕ → List ℕ → List Content → Type 0
  Below m ns C = (v : ℕ) (x : Content) → v < m → At K v x → At C (number_there g ns v) x

  pub record Brought (C : List Content) (a : List ℕ) (w n : ℕ) (t : There) : Type 0 where
    pub contents : List Content
    pub keeps : Keeps C contents
    pub stand : Stand sheet a₀ G contents t.words
    pub maps : Maps K (number_there g t.numbers) contents
    pub top : reach t.words ≤ reach a + w
    pub few : get_or t.words MADE 0 ≤ get_or a MADE 0 + n

  -- one row more
  module _ (pre : List (List ℕ)) (r : List ℕ) (rest : List (List ℕ)) (split : mades ≡ pre ++ (r ∷ rest)) (formed : Formed r) (C : List Content) (a ns : List ℕ) (st : Stand sheet a₀ G C a)
      (low : Below (g + length pre) ns C) (space : Space sheet a₀ G (length r) a) (short : 5 * length r ≤ 16384) (long : length pre < length ns) where
    abbrev f : ℕ → ℕ
    f = number_there g ns

    abbrev i : ℕ
    i = length pre

    rows_are : rows_in (given ++ mades) ≡ rows_in (given ++ pre) ++ (value_row r ∷ rows_in rest)
    rows_are = ap (λ (l : List (List ℕ)). rows_in (given ++ l)) split ∙ ap rows_in (sym (append_assoc given pre (r ∷ rest))) ∙ rows_middle (given ++ pre) r rest

    row_at : At (rows_in (given ++ mades)) (g + i) (value_row r)
    row_at =
        let z : length (rows_in (given ++ pre)) ≡ g + i = rows_length (given ++ pre) ∙ length-append given pre in
        subst (λ (l : List Row). At l (g + i) (value_row r)) (sym rows_are) (subst (λ (m : ℕ). At (rows_in (given ++ pre) ++ (value_row r ∷ rows_in rest)) m (value_row r)) z (at_middle (rows_in (given ++ pre)) (value_row r) (rows_in rest)))

    there : There' f r
    there = there_is_law f r formed short

    -- what it stands for
    content : (x : Content) × At K (g + i) x × Denotes C (value_row (row_there f r)) x
    content =
        let (x, a, d) = content_of table row_at in
        let (ρ, b, k) = over_before table a in
        (x, a, subst (λ (q : Row). Denotes C q x) (ap (map_row f) (at_fun b row_at) ∙ sym there.value) (k f C (λ v y lt c. low v y lt c)))

    got : Gets sheet a₀ G C (length r) 1 a (made_of a (row_there f r)) (ok content.0)
    got = gets_made sheet a₀ G C a st (row_there f r) there.formed (length r) space there.short content.2

    number_at : At got.contents (number_of a (row_there f r)) content.0
    unfolding made_of
    number_at = go got.says
      where
        go : {n : ℕ} {x : Content} → Says got.contents (Ok n) (ok x) → At got.contents n x
        go (says_value e) = e

    next_low : Below (g + suc i) (set ns i (number_of a (row_there f r))) got.contents
    next_low v x lt h = go (dec_lt v g) (dec_lt v (g + i))
      where
        go : Dec (v < g) → Dec (v < g + i) → At got.contents (number_there g (set ns i (number_of a (row_there f r))) v) x
        go (yes d) e = rw (here_there g (set ns i (number_of a (row_there f r))) v d) (got.keeps v x (subst (λ (m : ℕ). At C m x) (here_there g ns v d) (low v x (omega (arith, d)) h)))
        go (no d) (yes e) =
            rw (noted g (set ns i (number_of a (row_there f r))) v (omega (arith, d)), get_or-set_other ns i (v - g) (number_of a (row_there f r)) 0 (λ z. omega (arith, z, e, d)))
            (got.keeps (get_or ns (v - g) 0) x (subst (λ (m : ℕ). At C m x) (noted g ns v (omega (arith, d))) (low v x e h)))
        go (no d) (no e) =
            let z : v ≡ g + i = omega (arith, e, lt) in
            let y : v - g ≡ i = omega (arith, z) in
            rw (noted g (set ns i (number_of a (row_there f r))) v (omega (arith, d)), y, get_or-set_same ns i (number_of a (row_there f r)) 0 long)
            (subst (At got.contents (number_of a (row_there f r))) (at_fun content.1 (subst (λ (m : ℕ). At K m x) z h)) number_at)

  pub brought : (pre rest : List (List ℕ)) → mades ≡ pre ++ rest → Formeds rest → (C : List Content) (a ns : List ℕ) → Stand sheet a₀ G C a → Below (g + length pre) ns C → reach a + words_in rest ≤ 16384 → get_or a MADE 0 + length rest ≤ 1024
      → 5 * words_in rest ≤ 16384 → length mades ≤ length ns → Brought C a (words_in rest) (length rest) (carried_from g rest (length pre) a ns)
  unfolding carried_from made_of
  brought pre [] e none_formed C a ns st low top few short long = record {
    contents = C;
    keeps = λ n v h. h;
    stand = st;
    maps = λ v x h. low v x (let z = at_below h in let y = same_length table in let w = rows_length (given ++ mades) in let u = length-append given mades in let t = ap length (e ∙ append-nil pre) in omega (arith, z, y, w, u, t)) h;
    top = omega arith;
    few = omega arith;
  }
  brought pre (r ∷ rest) e (one_formed h t) C a ns st low top few short long =
      let n = ap length e in
      let m = length-append pre (r ∷ rest) in
      let space : Space sheet a₀ G (length r) a = record { top = omega (arith, top); few = omega (arith, few) } in
      let sh : 5 * length r ≤ 16384 = omega (arith, short) in
      let ln : length pre < length ns = omega (arith, long, n, m) in
      let k = got pre r rest e h C a ns st low space sh ln in
      let q : List ℕ = row_there (number_there g ns) r in
      let e₂ : mades ≡ (pre ++ (r ∷ [])) ++ rest = e ∙ sym (append_assoc pre (r ∷ []) rest) in
      let l : length (pre ++ (r ∷ [])) ≡ suc (length pre) = length-append pre (r ∷ []) ∙ omega arith in
      let next : Below (g + length (pre ++ (r ∷ []))) (set ns (length pre) (number_of a q)) k.contents =
      subst (λ (j : ℕ). Below (g + j) (set ns (length pre) (number_of a q)) k.contents) (sym l) (next_low pre r rest e h C a ns st low space sh ln) in
      let b = brought (pre ++ (r ∷ [])) rest e₂ t k.contents (with_value a q) (set ns (length pre) (number_of a q)) k.stand next
      (omega (arith, top, k.top)) (omega (arith, few, k.few)) (omega (arith, short)) (omega (arith, long, length-set ns (length pre) (number_of a q))) in
      subst (λ (j : ℕ). Brought C a (length r + words_in rest) (suc (length rest)) (carried_from g rest j (with_value a q) (set ns (length pre) (number_of a q)))) l
      (record {
        contents = b.contents;
        keeps = λ j v z. b.keeps j v (k.keeps j v z);
        stand = b.stand;
        maps = b.maps;
        top = omega (arith, b.top, k.top);
        few = omega (arith, b.few, k.few);
      })

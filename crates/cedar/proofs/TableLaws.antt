-- In a table of distinct rows equal numbers are equal contents, and equal contents equal numbers.
use mathlib.Core.Path.{◌≡◌, refl, sym, ◌∙◌, ap, ap₂, subst}
use mathlib.Core.Bool.{true}
use mathlib.Core.List.{List, [], ◌∷◌, ◌++◌}
use Prim.Native.Nat.{ℕ, suc, ◌<◌, ◌+◌}
use native.Mathlib.Omega.{arith}
use lib.ListN.{length, length-append}
use Rattle.cedar.specs.Value.{Value, vbool, vlong, vtext, vent, vset, vrec, Values, vnil, vcons, Fields, fnil, fcons, on_text}
use Rattle.cedar.specs.Canonical.{ascending}
use Rattle.cedar.proofs.CanonicalLaws.{same_true, same_refl, Mem, here, there, ascending_in, ascending_out}
use Rattle.cedar.specs.Rows.{entry, stop, Entries, rrec, rlong, rbool, rent, Row, rset, rtext, nums_v, entries_v, row_v, same_row}
use Rattle.cedar.specs.Table.{At, later, now, Least, end, less, Asc, up, Named, dent, name1, dtext, dlong, dset, drec, name0, elem1, elem0, Denotes, Elems, dbool, Table, start, grow}

num : Value → ℕ
num v = on_text 0 v (λ n. n)

nums : Values → List ℕ
nums vnil = []
nums (vcons v vs) = num v ∷ nums vs

entries_of : Fields → Entries
entries_of fnil = stop
entries_of (fcons t v fs) = entry t (num v) (entries_of fs)

row_of_v : Value → Row
row_of_v (vbool b) = rbool b
row_of_v (vlong n) = rlong n
row_of_v (vtext t) = rtext t
row_of_v (vent k t) = rent k t
row_of_v (vset vs) = rset (nums vs)
row_of_v (vrec fs) = rrec (entries_of fs)

nums_back : (l : List ℕ) → nums (nums_v l) ≡ l
unfolding nums num
nums_back [] = refl
nums_back (n ∷ l) = ap (λ k. n ∷ k) (nums_back l)

entries_back : (e : Entries) → entries_of (entries_v e) ≡ e
unfolding entries_of num
entries_back stop = refl
entries_back (entry t n e) = ap (entry t n) (entries_back e)

row_back : (r : Row) → row_of_v (row_v r) ≡ r
unfolding row_of_v
row_back (rbool b) = refl
row_back (rlong n) = refl
row_back (rtext t) = refl
row_back (rent k t) = refl
row_back (rset l) = ap rset (nums_back l)
row_back (rrec e) = ap rrec (entries_back e)

pub same_row_true : (q r : Row) → same_row q r ≡ true → q ≡ r
same_row_true q r e = sym (row_back q) ∙ ap row_of_v (same_true (row_v q) (row_v r) e) ∙ row_back r

pub same_row_refl : (r : Row) → same_row r r ≡ true
same_row_refl r = same_refl (row_v r)

pub data InN (n : ℕ) : List ℕ → Type 0 where
  now' : {l : List ℕ} → InN n (n ∷ l)
  later' : {m : ℕ} {l : List ℕ} → InN n l → InN n (m ∷ l)

-- ascending lists of numbers with the same members are equal

least_in : {m n : ℕ} {l : List ℕ} → Least n l → InN m l → n < m
least_in {m = m} {n = n} Rattle.cedar.specs.Table.end x3 = elim x3 [ ]
least_in (less h g) now' = h
least_in (less h g) (later' i) = least_in g i

heads_n : {m n : ℕ} {k l : List ℕ} → Least m k → Least n l → InN m (n ∷ l) → InN n (m ∷ k) → m ≡ n
heads_n g h now' j = refl
heads_n g h (later' i) now' = refl
heads_n g h (later' i) (later' j) = let p = least_in g j in let q = least_in h i in absurd (omega arith)

tail_n : {m n : ℕ} {k l : List ℕ} → m ≡ n → Least m k → ((x : ℕ) → InN x (m ∷ k) → InN x (n ∷ l)) → (x : ℕ) → InN x k → InN x l
tail_n {m} {n} {k} {l} e g f x i = go (f x (later' i)) refl
  where
    go : {y : ℕ} → InN y (n ∷ l) → y ≡ x → InN x l
    go now' q = let p = least_in g i in absurd (omega (arith, q, e))
    go (later' j) q = subst (λ z. InN z l) q j

pub nowhere : {n : ℕ} {X : Type 0} → InN n [] → X
nowhere i = elim i [ ]

asc_ext : {k l : List ℕ} → Asc k → Asc l → ((x : ℕ) → InN x k → InN x l) → ((x : ℕ) → InN x l → InN x k) → k ≡ l
asc_ext end end f g = refl
asc_ext end (up {n = n} h b) f g = nowhere (g n now')
asc_ext (up {n = n} h a) end f g = nowhere (f n now')
asc_ext (up {n = m} h a) (up {n = n} i b) f g = let e = heads_n h i (f m now') (g n now') in ap₂ ◌∷◌ e (asc_ext a b (tail_n e h f) (tail_n (sym e) i g))

-- contents that are told apart by their numbers
abbrev pub Apart : List Value → Type 0
Apart C = (m n : ℕ) (v : Value) → At C m v → At C n v → m ≡ n

-- over contents that are told apart, rows with one content are one row

module _ {C : List Value} (inj : Apart C) where
  -- a number's content is among the set's, and the other way round
  pub elem_in : {l : List ℕ} {vs : Values} {n : ℕ} → Elems C l vs → InN n l → (v : Value) × At C n v × Mem v vs
  elem_in {n = n} elem0 x4 = elim x4 [ ]
  elem_in (elem1 {v = v} a e) now' = (v, a, here)
  elem_in (elem1 a e) (later' i) = let (v, b, m) = elem_in e i in (v, b, there m)

  pub in_elem : {l : List ℕ} {vs : Values} {v : Value} → Elems C l vs → Mem v vs → (n : ℕ) × At C n v × InN n l
  in_elem {v = v} elem0 x4 = elim x4 [ ]
  in_elem (elem1 {n = n} a e) here = (n, a, now')
  in_elem (elem1 a e) (there m) = let (n, b, i) = in_elem e m in (n, b, later' i)

  set_incl : {k l : List ℕ} {xs ys : Values} → Elems C k xs → Elems C l ys → ascending xs ≡ ascending ys → (n : ℕ) → InN n k → InN n l
  set_incl {l = l} {ys = ys} a b e n i =
      let (v, c, m) = elem_in a i in
      let (p, d, j) = in_elem b (ascending_out ys (subst (Mem v) e (ascending_in m))) in
      subst (λ z. InN z l) (inj p n v d c) j

  named_inj : {d e : Entries} {fs : Fields} → Named C d fs → Named C e fs → d ≡ e
  named_inj name0 name0 = refl
  named_inj (name1 {t = t} {v = v} a p) (name1 b q) = λ i. entry t (inj _ _ v a b i) (named_inj p q i)

  pub row_inj : {q r : Row} {v : Value} → Denotes C q v → Denotes C r v → q ≡ r
  row_inj dbool dbool = refl
  row_inj dlong dlong = refl
  row_inj dtext dtext = refl
  row_inj dent dent = refl
  row_inj (dset a e p) (dset b f q) = ap rset (asc_ext a b (set_incl e f (p ∙ sym q)) (set_incl f e (q ∙ sym p)))
  row_inj (drec p) (drec q) = ap rrec (named_inj p q)

-- growing

pub at_append : {A : Type 0} {l : List A} (m : List A) {n : ℕ} {a : A} → At l n a → At (l ++ m) n a
at_append m now = now
at_append m (later h) = later (at_append m h)

pub at_last : {A : Type 0} (l : List A) (b : A) → At (l ++ (b ∷ [])) (length l) b
at_last [] b = now
at_last (x ∷ l) b = later (at_last l b)

-- an item of a list with one more is an old one, or the new one
pub at_snoc : {A X : Type 0} (l : List A) {b : A} {n : ℕ} {a : A} → At (l ++ (b ∷ [])) n a → (At l n a → X) → (n ≡ length l → a ≡ b → X) → X
at_snoc [] now f g = g refl refl
at_snoc [] (later h) f g = elim h [ ]
at_snoc (x ∷ l) now f g = f now
at_snoc (x ∷ l) (later h) f g = at_snoc l h (λ k. f (later k)) (λ q r. g (ap suc q) r)

module _ (C : List Value) (w : Value) where
  grow_elems : {l : List ℕ} {vs : Values} → Elems C l vs → Elems (C ++ (w ∷ [])) l vs
  grow_elems elem0 = elem0
  grow_elems (elem1 a e) = elem1 (at_append (w ∷ []) a) (grow_elems e)

  grow_named : {e : Entries} {fs : Fields} → Named C e fs → Named (C ++ (w ∷ [])) e fs
  grow_named name0 = name0
  grow_named (name1 a e) = name1 (at_append (w ∷ []) a) (grow_named e)

  pub grow_denotes : {r : Row} {v : Value} → Denotes C r v → Denotes (C ++ (w ∷ [])) r v
  grow_denotes dbool = dbool
  grow_denotes dlong = dlong
  grow_denotes dtext = dtext
  grow_denotes dent = dent
  grow_denotes (dset a e q) = dset a (grow_elems e) q
  grow_denotes (drec e) = drec (grow_named e)

pub same_length : {T : List Row} {C : List Value} → Table T C → length T ≡ length C
same_length start = refl
same_length (grow {T = T} {C = C} {r = r} {v = v} t d h) = length-append T (r ∷ []) ∙ ap (λ n. n + 1) (same_length t) ∙ sym (length-append C (v ∷ []))

-- each content is that of its row
pub row_of_law : {T : List Row} {C : List Value} {n : ℕ} {v : Value} → Table T C → At C n v → (r : Row) × At T n r × Denotes C r v
row_of_law start a = elim a [ ]
row_of_law {n = n} (grow {T = T} {C = C} {r = r} {v = w} t d h) a =
    at_snoc C a (λ b. let (q, c, e) = row_of_law t b in (q, at_append (r ∷ []) c, grow_denotes C w e))
    (λ p q. (r, subst (λ z. At (T ++ (r ∷ [])) z r) (same_length t ∙ sym p) (at_last T r), rw q (grow_denotes C w d)))

grow_inj : {C : List Value} {w : Value} → Apart C → ((n : ℕ) → At C n w → ⊥) → Apart (C ++ (w ∷ []))
grow_inj {C} {w} inj new m n v a b =
    at_snoc C a (λ c. at_snoc C b (λ d. inj m n v c d) (λ q e. absurd (new m (subst (At C m) e c))))
    (λ p e. at_snoc C b (λ d. absurd (new n (subst (At C n) e d))) (λ q f. p ∙ sym q))

-- In a table of distinct rows, equal contents have equal numbers
pub number_inj : {T : List Row} {C : List Value} → Table T C → Apart C
number_inj start = λ m n v a b. elim a [ ]
number_inj (grow {T = T} t d h) = grow_inj (number_inj t) (λ n a. let (q, c, e) = row_of_law t a in h n (subst (At T n) (row_inj (number_inj t) e d) c))

-- and equal numbers equal contents
pub at_fun : {A : Type 0} {l : List A} {n : ℕ} {a b : A} → At l n a → At l n b → a ≡ b
at_fun now now = refl
at_fun (later h) (later k) = at_fun h k

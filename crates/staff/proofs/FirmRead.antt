-- A sheet with the texts of principal and resource filled in is accepted where the sheet is, and has the state with these texts set.
use mathlib.Core.Path.{◌≡◌, refl, sym, ◌∙◌, ap, ap₂, subst}
use mathlib.Core.Bool.{Bool, true, false, cond, ◌||◌}
use mathlib.Core.List.{List, [], ◌∷◌, ◌++◌}
use Prim.Native.Nat.{ℕ, zero, suc, ◌+◌, ◌<◌, ◌≤◌}
use native.Mathlib.Omega.{arith}
use lib.Dec.{ltb, eqb}
use lib.ListN.{length, length-set, length-append}
use lib.Seq.{get_or-set_same}
use Rattle.cedar.proofs.Tools.{no_true}
use Rattle.sheet.specs.Bytes.{same, starts}
use Rattle.sheet.specs.Ascii.{ascii}
use Rattle.sheet.specs.Forms.{partial, row_of, key_of, forms, form_of, TEXT, NODE, no_key, POLICY, ENTITY, PRINCIPAL, RESOURCE}
use Rattle.sheet.specs.State.{State, lines_of, count, before}
use Rattle.sheet.specs.Sheet.{Reading, reads, enough, first_unused, added, more, fault, ending, go_on, reading, entities_fit, before_line, first_unlinked, first_unfit, line_read}
use Rattle.staff.specs.Firm.{Asked, set_text, with_texts}
use Rattle.sheet.proofs.reading.Lines.{zero_not_suc, passed, ended, lines_more, later_empty, entities_passed, line_passed, AllFit}
use Rattle.staff.proofs.FirmState.{Lines, LongRow, Long, listed, fault_with, enough_with, nodes_with, FilledRow, kept, principal, resource, fill_principal, fill_resource, principal_tag, resource_tag, of_text, added_kept, added_principal, added_resource, linked_with, unfit_with}

-- ---- one line

-- what a state keeps: all keys, rows of principal and resource with two items
pub record Fit (s : State) : Type 0 where
  pub keys : length s.lines ≡ no_key
  pub first : Long (lines_of s PRINCIPAL)
  pub second : Long (lines_of s RESOURCE)

-- the text of a row says nothing of its key
key_kept : (T t k x : ℕ) → key_of (set_text t (T ∷ k ∷ x ∷ [])) ≡ key_of (T ∷ k ∷ x ∷ [])
unfolding key_of
key_kept T t k x = of_text T k (λ z. key_of z ≡ key_of (T ∷ k ∷ x ∷ [])) (λ y. refl) t x

more_with : (s : State) (q : Asked) {z y : List ℕ} → length s.lines ≡ no_key → FilledRow q z y → more (with_texts s q) y ≡ with_texts (more s z) q
unfolding more with_texts key_of form_of forms
more_with s q {z} {y} e f = listed s.lines e (λ a0 a1 a2 a3 a4 a5 a6 a7 a8 a9 a10 a11 a12 a13 a14 a15 g.
    subst (λ ls. more (with_texts (record { lines = ls; depths = s.depths; used = s.used }) q) y ≡ with_texts (more (record { lines = ls; depths = s.depths; used = s.used }) z) q) (sym g)
    (go a0 a1 a2 a3 a4 a5 a6 a7 a8 a9 a10 a11 a12 a13 a14 a15 f))
  where
    go : (a0 a1 a2 a3 a4 a5 a6 a7 a8 a9 a10 a11 a12 a13 a14 a15 : Lines) {z y : List ℕ} → FilledRow q z y
        → more (with_texts (record { lines = a0 ∷ a1 ∷ a2 ∷ a3 ∷ a4 ∷ a5 ∷ a6 ∷ a7 ∷ a8 ∷ a9 ∷ a10 ∷ a11 ∷ a12 ∷ a13 ∷ a14 ∷ a15 ∷ []; depths = s.depths; used = s.used }) q) y ≡ with_texts (more (record { lines = a0 ∷ a1 ∷ a2 ∷ a3 ∷ a4 ∷ a5 ∷ a6 ∷ a7 ∷ a8 ∷ a9 ∷ a10 ∷ a11 ∷ a12 ∷ a13 ∷ a14 ∷ a15 ∷ []; depths = s.depths; used = s.used }) z) q
    go a0 a1 a2 a3 a4 a5 a6 a7 a8 a9 a10 a11 a12 a13 a14 a15 (kept {z = z} e f) = added_kept a0 a1 a2 a3 a4 a5 a6 a7 a8 a9 a10 a11 a12 a13 a14 a15 s.depths s.used q (key_of z) z e f
    go a0 a1 a2 a3 a4 a5 a6 a7 a8 a9 a10 a11 a12 a13 a14 a15 (principal {k = k} {x = x}) = ap (λ j. added (with_texts (record { lines = a0 ∷ a1 ∷ a2 ∷ a3 ∷ a4 ∷ a5 ∷ a6 ∷ a7 ∷ a8 ∷ a9 ∷ a10 ∷ a11 ∷ a12 ∷ a13 ∷ a14 ∷ a15 ∷ []; depths = s.depths; used = s.used }) q) j (set_text q.principal (principal_tag ∷ k ∷ x ∷ []))) (key_kept principal_tag q.principal k x) ∙ added_principal a0 a1 a2 a3 a4 a5 a6 a7 a8 a9 a10 a11 a12 a13 a14 a15 s.depths s.used q k x
    go a0 a1 a2 a3 a4 a5 a6 a7 a8 a9 a10 a11 a12 a13 a14 a15 (resource {k = k} {x = x}) = ap (λ j. added (with_texts (record { lines = a0 ∷ a1 ∷ a2 ∷ a3 ∷ a4 ∷ a5 ∷ a6 ∷ a7 ∷ a8 ∷ a9 ∷ a10 ∷ a11 ∷ a12 ∷ a13 ∷ a14 ∷ a15 ∷ []; depths = s.depths; used = s.used }) q) j (set_text q.resource (resource_tag ∷ k ∷ x ∷ []))) (key_kept resource_tag q.resource k x) ∙ added_resource a0 a1 a2 a3 a4 a5 a6 a7 a8 a9 a10 a11 a12 a13 a14 a15 s.depths s.used q k x

-- ---- texts are read before the request

frozen_more : (s : State) (r : List ℕ) (j : ℕ) → 1 < j → 1 ≤ count s j → fault s r ≡ 0 → (count (more s r) TEXT ≡ count s TEXT) × (1 ≤ count (more s r) j)
frozen_more s r j lt h f = (
  lines_more s r TEXT (λ e. ap length e) (λ e g. let z = ap length (later_empty s (key_of r) j (passed s r f).order (omega (arith, e, lt))) in absurd (omega (arith, z, h))),
  lines_more s r j (λ e. let z = ap length e in omega (arith, z, h)) (λ e g. let z = ap length g ∙ length-append (lines_of s j) (r ∷ []) in omega (arith, z, h)),
)

frozen_last : (s : State) (i : ℕ) (b : Bool) → (cond b (ending s i) (reads s 3 i)).number ≡ 0 → count (cond b (ending s i) (reads s 3 i)).state TEXT ≡ count s TEXT
frozen_last s i true e = ap (λ z. count z TEXT) (ended s i e).0
frozen_last s i false e = zero_not_suc e

frozen_on : (s : State) (i : ℕ) (r : List ℕ) (n : ℕ) (rest : State → ℕ → Reading) → ((rest (more s r) (suc i)).number ≡ 0 → count (rest (more s r) (suc i)).state TEXT ≡ count s TEXT) → (go_on s i r n rest).number ≡ 0 → count (go_on s i r n rest).state TEXT ≡ count s TEXT
frozen_on s i r zero rest h e = h e
frozen_on s i r (suc n) rest h e = zero_not_suc e

frozen : (ls : List (List ℕ)) (s : State) (i j : ℕ) → 1 < j → 1 ≤ count s j → (reading partial ls s i).number ≡ 0 → count (reading partial ls s i).state TEXT ≡ count s TEXT
frozen [] s i j lt h e = let p = (entities_passed s (ending s i) e).0 in ap (λ z. count z.state TEXT) p ∙ ap (λ z. count z TEXT) (ended s i (sym (ap (λ z. z.number) p) ∙ e)).0
frozen (l ∷ []) s i j lt h e = let p = line_passed l s (cond (same l []) (ending s i) (reads s 3 i)) e in ap (λ z. count z.state TEXT) p ∙ frozen_last s i (same l []) (sym (ap (λ z. z.number) p) ∙ e)
frozen (l ∷ n ∷ ls) s i j lt h e = let p = line_passed l s (line_read s i (row_of partial l) (reading partial (n ∷ ls))) e in ap (λ z. count z.state TEXT) p ∙ go (fault s (row_of partial l)) refl (sym (ap (λ z. z.number) p) ∙ e) (λ a b. frozen (n ∷ ls) (more s (row_of partial l)) (suc i) j lt a b)
  where
    go : (f : ℕ) → fault s (row_of partial l) ≡ f → (go_on s i (row_of partial l) f (reading partial (n ∷ ls))).number ≡ 0
        → (1 ≤ count (more s (row_of partial l)) j → (reading partial (n ∷ ls) (more s (row_of partial l)) (suc i)).number ≡ 0 → count (reading partial (n ∷ ls) (more s (row_of partial l)) (suc i)).state TEXT ≡ count (more s (row_of partial l)) TEXT)
        → count (go_on s i (row_of partial l) f (reading partial (n ∷ ls))).state TEXT ≡ count s TEXT
    go zero p e ih = let (x, y) = frozen_more s (row_of partial l) j lt h p in ih y e ∙ x
    go (suc f) p e ih = zero_not_suc e

-- ---- what is kept line by line

long_append : (p : Lines) (z : List ℕ) → Long p → LongRow z → Long (p ++ (z ∷ []))
long_append [] z h k = (k, tt)
long_append (r ∷ p) z h k = (h.0, long_append p z h.1 k)

row_long : {q : Asked} {z y : List ℕ} (j : ℕ) → FilledRow q z y → j ≡ key_of z → (eqb j PRINCIPAL || eqb j RESOURCE) ≡ true → LongRow z
row_long j (kept {z = z} a b) e f = no_true (sym (subst (λ i. (eqb i PRINCIPAL || eqb i RESOURCE) ≡ false) (sym e) (ap₂ ◌||◌ a b)) ∙ f)
row_long j principal e f = tt
row_long j resource e f = tt

fit_more : (s : State) {q : Asked} {z y : List ℕ} → Fit s → FilledRow q z y → Fit (more s z)
unfolding more
fit_more s {q} {z} h f = record {
  keys = length-set s.lines (key_of z) (lines_of s (key_of z) ++ (z ∷ [])) ∙ h.keys;
  first = lines_more s z PRINCIPAL (λ e. subst Long (sym e) h.first) (λ e g. subst Long (sym g) (long_append (lines_of s PRINCIPAL) z h.first (row_long PRINCIPAL f e refl)));
  second = lines_more s z RESOURCE (λ e. subst Long (sym e) h.second) (λ e g. subst Long (sym g) (long_append (lines_of s RESOURCE) z h.second (row_long RESOURCE f e refl)));
}

-- the line with the texts filled in passes too
fault_filled : (s : State) (q : Asked) {z y : List ℕ} → FilledRow q z y → (key_of z ≡ PRINCIPAL → ltb q.principal (count s TEXT) ≡ true) → (key_of z ≡ RESOURCE → ltb q.resource (count s TEXT) ≡ true) → fault s z ≡ 0 → fault s y ≡ 0
unfolding key_of form_of forms
fault_filled s q (kept a b) f g e = e
fault_filled s q (principal {k = k} {x = x}) f g e = fill_principal s k q.principal (f refl) x e
fault_filled s q (resource {k = k} {x = x}) f g e = fill_resource s k q.resource (g refl) x e

-- ---- the end

ending_parts : (s : State) (i n m : ℕ) (a b c : Bool) → (cond a (cond b (reads s 5 m) (cond c (reads s 8 n) (reads s 0 0))) (reads s 3 i)).number ≡ 0 → (a ≡ true) × (b ≡ false) × (c ≡ false)
ending_parts s i n m true true c e = zero_not_suc e
ending_parts s i n m true false true e = zero_not_suc e
ending_parts s i n m true false false e = (refl, refl, refl)
ending_parts s i n m false b c e = zero_not_suc e

used_with : (s : State) (q : Asked) → (with_texts s q).used ≡ s.used
unfolding with_texts
used_with s q = refl

ending_with : (s : State) (q : Asked) (i : ℕ) → length s.lines ≡ no_key → (ending s i).number ≡ 0 → ending (with_texts s q) i ≡ reads (with_texts s q) 0 0
ending_with s q i k e =
    let (a, b, c) = ending_parts s i (suc (before s NODE + first_unused s.used)) (suc (before s POLICY + first_unlinked s 0 (lines_of s POLICY))) (enough s no_key) (ltb (first_unlinked s 0 (lines_of s POLICY)) (count s POLICY)) (ltb (first_unused s.used) (count s NODE)) e in
    as_read (with_texts s q) i (sym (enough_with s q k) ∙ a) (sym (linked_with s q k) ∙ b) (ap (ltb (first_unused (with_texts s q).used)) (sym (nodes_with s q k)) ∙ used_same ∙ c)
  where
    used_same : ltb (first_unused (with_texts s q).used) (count s NODE) ≡ ltb (first_unused s.used) (count s NODE)
    used_same = ap (λ u. ltb (first_unused u) (count s NODE)) (used_with s q)

    as_read : (w : State) (i : ℕ) → enough w no_key ≡ true → ltb (first_unlinked w 0 (lines_of w POLICY)) (count w POLICY) ≡ false → ltb (first_unused w.used) (count w NODE) ≡ false → ending w i ≡ reads w 0 0
    as_read w i a b c = rw (a, b, c) refl

-- ---- the reading

-- a line, and the line with the texts filled in
pub record FilledLine (q : Asked) (l n : List ℕ) : Type 0 where
  pub ends : same n [] ≡ same l []
  pub entity : starts (ascii "entity=") n ≡ starts (ascii "entity=") l
  pub rows : (t : ℕ) (xs : List ℕ) → row_of partial l ≡ t ∷ xs → FilledRow q (t ∷ xs) (row_of partial n)

pub data FilledAll (q : Asked) : List (List ℕ) → List (List ℕ) → Type 0 where
  none : FilledAll q [] []
  more_lines : {l n : List ℕ} {ls ns : List (List ℕ)} → FilledLine q l n → FilledAll q ls ns → FilledAll q (l ∷ ls) (n ∷ ns)

-- accepted, in the state with the texts set
abbrev pub With : Asked → Reading → Reading → Type 0
With q a b = (b.number ≡ 0) × (b.state ≡ with_texts a.state q)

end_with : (s : State) (q : Asked) (i : ℕ) → Fit s → (ending s i).number ≡ 0 → With q (ending s i) (ending (with_texts s q) i)
end_with s q i h e = let z = ending_with s q i h.keys e in (ap (λ r. r.number) z, ap (λ r. r.state) z ∙ ap (λ u. with_texts u q) (sym (ended s i e).0))

-- what is asked after the entity lines is the same of both
fit_with : (s : State) (q : Asked) (x : Reading) → length s.lines ≡ no_key → AllFit s → entities_fit (with_texts s q) x ≡ x
fit_with s q x k a = ap (λ b. cond b (reads (with_texts s q) 7 (suc (before (with_texts s q) ENTITY + first_unfit (with_texts s q) (lines_of (with_texts s q) ENTITY)))) x) (sym (unfit_with s q k) ∙ a)

before_with : (s : State) (q : Asked) (l n : List ℕ) (x y : Reading) → length s.lines ≡ no_key → starts (ascii "entity=") n ≡ starts (ascii "entity=") l → (before_line l s x).number ≡ 0 → before_line n (with_texts s q) y ≡ y
before_with s q l n x y k g e = go (starts (ascii "entity=") l) (starts (ascii "entity=") n) g e
  where
    go : (b c : Bool) → c ≡ b → (cond b x (entities_fit s x)).number ≡ 0 → cond c y (entities_fit (with_texts s q) y) ≡ y
    go true true g e = refl
    go true false g e = no_true g
    go false true g e = no_true (sym g)
    go false false g e = fit_with s q y k (entities_passed s x e).1

-- both readings are others
as_others : (q : Asked) {a a' b b' : Reading} → a ≡ a' → b ≡ b' → With q a' b' → With q a b
as_others q {a' = a'} {b = b} e f w = subst (λ z. With q z b) (sym e) (subst (λ z. With q a' z) (sym f) w)

last_with : (s : State) (q : Asked) (i : ℕ) (b c : Bool) → c ≡ b → Fit s → (cond b (ending s i) (reads s 3 i)).number ≡ 0 → With q (cond b (ending s i) (reads s 3 i)) (cond c (ending (with_texts s q) i) (reads (with_texts s q) 3 i))
last_with s q i true true g h e = end_with s q i h e
last_with s q i true false g h e = no_true g
last_with s q i false c g h e = zero_not_suc e

-- the row of a line that passes
taken_row : (s : State) (q : Asked) {l n : List ℕ} → FilledLine q l n → fault s (row_of partial l) ≡ 0 → FilledRow q (row_of partial l) (row_of partial n)
unfolding fault
taken_row s q {l} {n} f e = go (row_of partial l) refl e
  where
    go : (r : List ℕ) → row_of partial l ≡ r → fault s r ≡ 0 → FilledRow q r (row_of partial n)
    go [] p e = zero_not_suc e
    go (t ∷ xs) p e = f.rows t xs p

-- a line of key j was read: that key has one
one_there : (s : State) (z : List ℕ) (j : ℕ) → length s.lines ≡ no_key → j < no_key → key_of z ≡ j → 1 ≤ count (more s z) j
unfolding more
one_there s z j k lt e = let g = ap length (get_or-set_same s.lines (key_of z) (lines_of s (key_of z) ++ (z ∷ [])) [] (omega (arith, k, lt, e))) ∙ length-append (lines_of s (key_of z)) (z ∷ []) in subst (λ i. 1 ≤ count (more s z) i) e (omega (arith, g))

pub reading_with : (q : Asked) (ls ns : List (List ℕ)) → FilledAll q ls ns → (s : State) (i : ℕ) → Fit s → (reading partial ls s i).number ≡ 0
    → ltb q.principal (count (reading partial ls s i).state TEXT) ≡ true → ltb q.resource (count (reading partial ls s i).state TEXT) ≡ true → With q (reading partial ls s i) (reading partial ns (with_texts s q) i)
reading_with q [] [] f s i h e a b = let (p, fit) = entities_passed s (ending s i) e in as_others q p (fit_with s q (ending (with_texts s q) i) h.keys fit) (end_with s q i h (sym (ap (λ z. z.number) p) ∙ e))
reading_with q [] (n ∷ ns) f s i h e a b = elim f [ ]
reading_with q (l ∷ ls) [] f s i h e a b = elim f [ ]
reading_with q (l ∷ []) (n ∷ []) f s i h e a b = go f
  where
    go : FilledAll q (l ∷ []) (n ∷ []) → With q (reading partial (l ∷ []) s i) (reading partial (n ∷ []) (with_texts s q) i)
    go (more_lines x y) =
        let p = line_passed l s (cond (same l []) (ending s i) (reads s 3 i)) e in
        as_others q p (before_with s q l n (cond (same l []) (ending s i) (reads s 3 i)) (cond (same n []) (ending (with_texts s q) i) (reads (with_texts s q) 3 i)) h.keys x.entity e)
        (last_with s q i (same l []) (same n []) x.ends h (sym (ap (λ z. z.number) p) ∙ e))
reading_with q (l ∷ []) (n ∷ m ∷ ns) f s i h e a b = go f
  where
    go : {X : Type 0} → FilledAll q (l ∷ []) (n ∷ m ∷ ns) → X
    go (more_lines x y) = elim y [ ]
reading_with q (l ∷ k ∷ ls) (n ∷ []) f s i h e a b = go f
  where
    go : {X : Type 0} → FilledAll q (l ∷ k ∷ ls) (n ∷ []) → X
    go (more_lines x y) = elim y [ ]
reading_with q (l ∷ k ∷ ls) (n ∷ m ∷ ns) f s i h e a b =
    let (x, y) = parts f in
    let p = line_passed l s (line_read s i (row_of partial l) (reading partial (k ∷ ls))) e in
    as_others q p (before_with s q l n (line_read s i (row_of partial l) (reading partial (k ∷ ls))) (line_read (with_texts s q) i (row_of partial n) (reading partial (m ∷ ns))) h.keys x.entity e)
    (go x (fault s (row_of partial l)) refl (sym (ap (λ z. z.number) p) ∙ e) (sym (ap (λ z. ltb q.principal (count z.state TEXT)) p) ∙ a) (sym (ap (λ z. ltb q.resource (count z.state TEXT)) p) ∙ b)
    (λ g e a b. reading_with q (k ∷ ls) (m ∷ ns) y (more s (row_of partial l)) (suc i) g e a b))
  where
    parts : FilledAll q (l ∷ k ∷ ls) (n ∷ m ∷ ns) → FilledLine q l n × FilledAll q (k ∷ ls) (m ∷ ns)
    parts (more_lines x y) = (x, y)

    go : FilledLine q l n → (c : ℕ) → fault s (row_of partial l) ≡ c → (go_on s i (row_of partial l) c (reading partial (k ∷ ls))).number ≡ 0
        → ltb q.principal (count (go_on s i (row_of partial l) c (reading partial (k ∷ ls))).state TEXT) ≡ true → ltb q.resource (count (go_on s i (row_of partial l) c (reading partial (k ∷ ls))).state TEXT) ≡ true
        → (Fit (more s (row_of partial l)) → (reading partial (k ∷ ls) (more s (row_of partial l)) (suc i)).number ≡ 0 → ltb q.principal (count (reading partial (k ∷ ls) (more s (row_of partial l)) (suc i)).state TEXT) ≡ true → ltb q.resource (count (reading partial (k ∷ ls) (more s (row_of partial l)) (suc i)).state TEXT) ≡ true
        → With q (reading partial (k ∷ ls) (more s (row_of partial l)) (suc i)) (reading partial (m ∷ ns) (with_texts (more s (row_of partial l)) q) (suc i)))
        → With q (go_on s i (row_of partial l) c (reading partial (k ∷ ls))) (go_on (with_texts s q) i (row_of partial n) (fault (with_texts s q) (row_of partial n)) (reading partial (m ∷ ns)))
    go x (suc c) p e a b ih = zero_not_suc e
    go x zero p e a b ih =
        let z = taken_row s q x p in
        let texts : (j : ℕ) → 1 < j → j < no_key → key_of (row_of partial l) ≡ j → count (reading partial (k ∷ ls) (more s (row_of partial l)) (suc i)).state TEXT ≡ count s TEXT = λ j lt hi g.
        frozen (k ∷ ls) (more s (row_of partial l)) (suc i) j lt (one_there s (row_of partial l) j h.keys hi g) e ∙ lines_more s (row_of partial l) TEXT (λ w. ap length w) (λ w v. absurd (omega (arith, w, g, lt))) in
        let free : fault (with_texts s q) (row_of partial n) ≡ 0 = sym (fault_with s q h.keys h.first h.second (row_of partial n))
        ∙ fault_filled s q z (λ g. subst (λ c. ltb q.principal c ≡ true) (texts PRINCIPAL (omega arith) (omega arith) g) a) (λ g. subst (λ c. ltb q.resource c ≡ true) (texts RESOURCE (omega arith) (omega arith) g) b) p in
        subst (λ c. With q (reading partial (k ∷ ls) (more s (row_of partial l)) (suc i)) (go_on (with_texts s q) i (row_of partial n) c (reading partial (m ∷ ns)))) (sym free)
        (subst (λ u. With q (reading partial (k ∷ ls) (more s (row_of partial l)) (suc i)) (reading partial (m ∷ ns) u (suc i))) (sym (more_with s q h.keys z)) (ih (fit_more s h z) e a b))

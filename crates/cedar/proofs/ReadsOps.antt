-- Each operation by number gives what it gives by content. Sets are compared by the numbers of their members.
use mathlib.Core.Path.{◌≡◌, refl, sym, ◌∙◌, subst}
use mathlib.Core.Bool.{Bool, true, false, not, cond, ◌||◌}
use mathlib.Core.Option.{Option, none, some}
use mathlib.Core.List.{List, [], ◌∷◌}
use Prim.Native.Nat.{ℕ}
use lib.Dec.{eqb, T, eqb_refl}
use lib.IntN.{ℤ, neg_ℤ, ◌+ℤ◌, ◌-ℤ◌, ◌*ℤ◌}
use lib.Signed.{lt_z, le_z}
use Rattle.cedar.proofs.Tools.{no_true, eqb_true, or_right, either, both, and_left, and_right, iff}
use Rattle.cedar.specs.Value.{Value, vbool, vlong, vent, vset, vrec, Values, vnil, vcons, Fields, fnil, Result, ok, fail, ok_bool, find, found, pick, on_some, on_long, on_set}
use Rattle.cedar.specs.Canonical.{same, member, ascending}
use Rattle.cedar.proofs.CanonicalLaws.{same_true, same_refl, Mem, here, there, member_mem, mem_member, ascending_in, ascending_out}
use Rattle.cedar.specs.Types.{Schema}
use Rattle.cedar.specs.Residual.{Un, unot, uneg, uempty, uis, ulike, Bin, beq, blt, ble, badd, bsub, bmul, bcontains, ball, bany, Rel, rin, rgettag, rhastag}
use Rattle.cedar.specs.Entities.{PEnv}
use Rattle.cedar.specs.Evaluate.{apply_un, apply_bin, matches, is_nil, is_empty, in_range, ok_long, all_in, any_in, is_ent, all_ent, targets}
use Rattle.cedar.specs.Interpret.{gives, stays, rel_known, in_known, known, on_fields, get_known, has_known}
use Rattle.cedar.specs.Rows.{Entries, stop, Row, rlong, rset, rrec}
use Rattle.cedar.specs.Table.{At, Elems, elem0, elem1, Named, name0, name1, Denotes, dbool, dlong, dtext, dent, dset, drec, Table}
use Rattle.cedar.proofs.TableLaws.{InN, now', later', Apart, number_inj, at_fun, elem_in, in_elem}
use Rattle.cedar.specs.Numbered.{NOut, give, fails, made, NEnv, row_at, give_row, r_long, r_set, r_rec, truly, nlong, mem_n, all_n, any_n, entry_of, pick_n, is_some, or_fail, n_un, n_bin, n_rel, is_rent, all_rent, n_targets, n_in, on_entries, n_get, n_has}
pub use Rattle.cedar.specs.Reads.{RecRead, rec_unknown, rec_known, rec_empty, SetRead, set_unknown, set_known, set_found, GiveRead, give_unknown, give_made, give_old, LineRead, EnvRead}
use Rattle.cedar.proofs.ReadsLaws.{OutReads, omade, oold, ofail, ostay, Keeps, row_denotes, on_bool_law, on_long_law, on_text_law, on_ent_law, on_set_law}
use Rattle.cedar.specs.Numbered as N

-- no ancestors
pub set_empty : {C : List Value} → SetRead C (some (made (rset []))) (some vnil)
unfolding ascending
set_empty = set_found elem0 refl

-- numbers and contents with the same members
record SetRel (C : List Value) (l : List ℕ) (vs : Values) : Type 0 where
  to : (n : ℕ) → InN n l → (v : Value) × At C n v × Mem v vs
  from : (v : Value) → Mem v vs → (n : ℕ) × At C n v × InN n l

eqb_self : (n : ℕ) → eqb n n ≡ true
eqb_self n = go (eqb n n) (eqb_refl n)
  where
    go : (b : Bool) → T b → b ≡ true
    go true h = refl
    go false h = absurd h

in_mem : {n : ℕ} {l : List ℕ} → InN n l → mem_n n l ≡ true
in_mem {n} now' = rw (eqb_self n)
in_mem {n} (later' {m = m} i) = or_right (eqb n m) _ (in_mem i)

mem_in : (n : ℕ) (l : List ℕ) → mem_n n l ≡ true → InN n l
mem_in n [] e = no_true e
mem_in n (m ∷ l) e = go (eqb n m) refl (mem_in n l) e
  where
    go : (b : Bool) → eqb n m ≡ b → (mem_n n l ≡ true → InN n l) → (b || mem_n n l) ≡ true → InN n (m ∷ l)
    go true q f h = subst (λ z. InN n (z ∷ l)) (eqb_true n m q) now'
    go false q f h = later' (f h)

-- all and any, by members

all_to : {n : ℕ} {k : List ℕ} (l : List ℕ) → all_n k l ≡ true → InN n k → mem_n n l ≡ true
all_to {n} l e (now' {l = k}) = and_left (mem_n n l) (all_n k l) e
all_to {n} l e (later' {m = m} {l = k} i) = all_to l (and_right (mem_n m l) (all_n k l) e) i

all_from : (k l : List ℕ) → ((n : ℕ) → InN n k → mem_n n l ≡ true) → all_n k l ≡ true
all_from [] l f = refl
all_from (n ∷ k) l f = both (f n now') (all_from k l (λ m i. f m (later' i)))

all_in_to : {v : Value} {ws : Values} (vs : Values) → all_in ws vs ≡ true → Mem v ws → member v vs ≡ true
all_in_to {v} vs e (here {vs = ws}) = and_left (member v vs) (all_in ws vs) e
all_in_to {v} vs e (there {w = w} {vs = ws} i) = all_in_to vs (and_right (member w vs) (all_in ws vs) e) i

all_in_from : (ws vs : Values) → ((v : Value) → Mem v ws → member v vs ≡ true) → all_in ws vs ≡ true
all_in_from vnil vs f = refl
all_in_from (vcons w ws) vs f = both (f w here) (all_in_from ws vs (λ v i. f v (there i)))

any_to : (k l : List ℕ) → any_n k l ≡ true → (n : ℕ) × InN n k × (mem_n n l ≡ true)
any_to [] l e = no_true e
any_to (n ∷ k) l e = either (mem_n n l) (any_n k l) e (λ q. (n, now', q)) (λ q. let (m, i, h) = any_to k l q in (m, later' i, h))

any_from : {n : ℕ} {k : List ℕ} (l : List ℕ) → InN n k → mem_n n l ≡ true → any_n k l ≡ true
any_from l now' e = rw e
any_from l (later' {m = m} i) e = or_right (mem_n m l) _ (any_from l i e)

any_in_to : (ws vs : Values) → any_in ws vs ≡ true → (v : Value) × Mem v ws × (member v vs ≡ true)
any_in_to vnil vs e = no_true e
any_in_to (vcons w ws) vs e = either (member w vs) (any_in ws vs) e (λ q. (w, here, q)) (λ q. let (v, i, h) = any_in_to ws vs q in (v, there i, h))

any_in_from : {v : Value} {ws : Values} (vs : Values) → Mem v ws → member v vs ≡ true → any_in ws vs ≡ true
any_in_from vs here e = rw e
any_in_from vs (there {w = w} i) e = or_right (member w vs) _ (any_in_from vs i e)

module _ {C : List Value} (inj : Apart C) where
  elems_rel : {l : List ℕ} {xs vs : Values} → Elems C l xs → ascending xs ≡ vs → SetRel C l vs
  elems_rel {xs = xs} e p = record {
    to = λ n i. let (v, b, m) = elem_in inj e i in (v, b, subst (Mem v) p (ascending_in m));
    from = λ v m. in_elem inj e (ascending_out xs (subst (Mem v) (sym p) m));
  }

  set_rel : {l : List ℕ} {vs : Values} → Denotes C (rset l) (vset vs) → SetRel C l vs
  set_rel (dset a e p) = elems_rel e p

  same_eq : {m n : ℕ} {v w : Value} → At C m v → At C n w → eqb m n ≡ same v w
  same_eq {m} {n} {v} {w} a b = iff (eqb m n) (same v w)
      (λ e. subst (λ z. same v z ≡ true) (at_fun (subst (λ z. At C z v) (eqb_true m n e) a) b) (same_refl v))
      (λ e. subst (λ z. eqb m z ≡ true) (inj m n v a (subst (At C n) (sym (same_true v w e)) b)) (eqb_self m))

  module _ {l : List ℕ} {vs : Values} (h : SetRel C l vs) where
    same_mem : {n : ℕ} {v : Value} → At C n v → mem_n n l ≡ member v vs
    same_mem {n} {v} a = iff (mem_n n l) (member v vs)
        (λ e. let (w, b, m) = h.to n (mem_in n l e) in mem_member (subst (λ z. Mem z vs) (at_fun b a) m))
        (λ e. let (k, b, i) = h.from v (member_mem v vs e) in in_mem (subst (λ z. InN z l) (inj k n v b a) i))

    same_nil : is_nil l ≡ is_empty vs
    same_nil = iff (is_nil l) (is_empty vs) (λ e. go vs (λ v m. let (n, a, i) = h.from v m in absurd (no_in l e i))) (λ e. og l (λ n i. let (v, a, m) = h.to n i in absurd (no_mem vs e m)))
      where
        no_in : {n : ℕ} (k : List ℕ) → is_nil k ≡ true → InN n k → ⊥
        no_in [] e i = elim i [ ]
        no_in (x ∷ k) e i = no_true e

        no_mem : {v : Value} (ws : Values) → is_empty ws ≡ true → Mem v ws → ⊥
        no_mem vnil e m = elim m [ ]
        no_mem (vcons w ws) e m = no_true e

        go : (ws : Values) → ((v : Value) → Mem v ws → ⊥) → is_empty ws ≡ true
        go vnil f = refl
        go (vcons w ws) f = absurd (f w here)

        og : (k : List ℕ) → ((n : ℕ) → InN n k → ⊥) → is_nil k ≡ true
        og [] f = refl
        og (x ∷ k) f = absurd (f x now')

  module _ {k l : List ℕ} {ws vs : Values} (g : SetRel C k ws) (h : SetRel C l vs) where
    same_all : all_n k l ≡ all_in ws vs
    same_all = iff (all_n k l) (all_in ws vs)
        (λ e. all_in_from ws vs (λ v m. let (n, a, i) = g.from v m in sym (same_mem h a) ∙ all_to l e i))
        (λ e. all_from k l (λ n i. let (v, a, m) = g.to n i in same_mem h a ∙ all_in_to vs e m))

    same_any : any_n k l ≡ any_in ws vs
    same_any = iff (any_n k l) (any_in ws vs)
        (λ e. let (n, i, q) = any_to k l e in let (v, a, m) = g.to n i in any_in_from vs m (sym (same_mem h a) ∙ q))
        (λ e. let (v, m, q) = any_in_to ws vs e in let (n, a, i) = g.from v m in any_from l i (same_mem h a ∙ q))

-- operations that look at no entity

module _ (C : List Value) where
  abbrev Gives : NOut → Result → Type 0
  Gives x y = OutReads C x (gives y)

  long_reads : (b : Bool) (n : ℤ) → Gives (cond b (give (made (rlong n))) fails) (cond b (ok (vlong n)) fail)
  long_reads true n = omade dlong
  long_reads false n = ofail

  truly_reads : {p q : Bool} → p ≡ q → Gives (truly p) (ok_bool q)
  truly_reads e = rw e (omade dbool)

  pub un_reads : (S : Schema) → Apart C → (u : Un) {r : Row} {v : Value} → Denotes C r v → Gives (n_un S u r) (apply_un S u v)
  un_reads S inj unot d = on_bool_law Gives ofail (λ b. truly (not b)) (λ b. ok_bool (not b)) d (λ b. omade dbool)
  un_reads S inj uneg d = on_long_law Gives ofail (λ n. nlong (neg_ℤ n)) (λ n. ok_long (neg_ℤ n)) d (λ n. long_reads (in_range (neg_ℤ n)) (neg_ℤ n))
  un_reads S inj uempty d = on_set_law Gives ofail (λ l. truly (is_nil l)) (λ vs. ok_bool (is_empty vs)) d (λ l vs e. truly_reads (same_nil inj (set_rel inj e)))
  un_reads S inj (uis k) d = on_ent_law Gives ofail (λ l t. truly (eqb k l)) (λ l t. ok_bool (eqb k l)) d (λ l t e. omade dbool)
  un_reads S inj (ulike p) d = on_text_law Gives ofail (λ t. truly (matches S.bytes p (S.bytes t))) (λ t. ok_bool (matches S.bytes p (S.bytes t))) d (λ t. omade dbool)

  longs : {r s : Row} {v w : Value} (f : ℤ → ℤ → NOut) (g : ℤ → ℤ → Result) → Denotes C r v → Denotes C s w → ((x y : ℤ) → Gives (f x y) (g x y))
      → Gives (r_long fails r (λ x. r_long fails s (λ y. f x y))) (on_long fail v (λ x. on_long fail w (λ y. g x y)))
  longs f g d e h = on_long_law Gives ofail _ _ d (λ x. on_long_law Gives ofail (f x) (g x) e (λ y. h x y))

  sets : {r s : Row} {v w : Value} (f : List ℕ → List ℕ → NOut) (g : Values → Values → Result) → Apart C → Denotes C r v → Denotes C s w → ((l k : List ℕ) (vs ws : Values) → SetRel C l vs → SetRel C k ws → Gives (f l k) (g vs ws))
      → Gives (r_set fails r (λ l. r_set fails s (λ k. f l k))) (on_set fail v (λ vs. on_set fail w (λ ws. g vs ws)))
  sets f g inj d e h = on_set_law Gives ofail _ _ d (λ l vs a. on_set_law Gives ofail (f l) (g vs) e (λ k ws b. h l k vs ws (set_rel inj a) (set_rel inj b)))

  pub bin_reads : Apart C → (o : Bin) {m n : ℕ} {r s : Row} {v w : Value} → At C m v → At C n w → Denotes C r v → Denotes C s w → Gives (n_bin o m n r s) (apply_bin o v w)
  bin_reads inj beq a b d e = truly_reads (same_eq inj a b)
  bin_reads inj blt a b d e = longs (λ x y. truly (lt_z x y)) (λ x y. ok_bool (lt_z x y)) d e (λ x y. omade dbool)
  bin_reads inj ble a b d e = longs (λ x y. truly (le_z x y)) (λ x y. ok_bool (le_z x y)) d e (λ x y. omade dbool)
  bin_reads inj badd a b d e = longs (λ x y. nlong (x +ℤ y)) (λ x y. ok_long (x +ℤ y)) d e (λ x y. long_reads (in_range (x +ℤ y)) (x +ℤ y))
  bin_reads inj bsub a b d e = longs (λ x y. nlong (x -ℤ y)) (λ x y. ok_long (x -ℤ y)) d e (λ x y. long_reads (in_range (x -ℤ y)) (x -ℤ y))
  bin_reads inj bmul a b d e = longs (λ x y. nlong (x *ℤ y)) (λ x y. ok_long (x *ℤ y)) d e (λ x y. long_reads (in_range (x *ℤ y)) (x *ℤ y))
  bin_reads inj bcontains {n = n} {w = w} a b d e = on_set_law Gives ofail (λ l. truly (mem_n n l)) (λ vs. ok_bool (member w vs)) d (λ l vs h. truly_reads (same_mem inj (set_rel inj h) b))
  bin_reads inj ball a b d e = sets (λ l k. truly (all_n k l)) (λ vs ws. ok_bool (all_in ws vs)) inj d e (λ l k vs ws g h. truly_reads (same_all inj h g))
  bin_reads inj bany a b d e = sets (λ l k. truly (any_n k l)) (λ vs ws. ok_bool (any_in ws vs)) inj d e (λ l k vs ws g h. truly_reads (same_any inj h g))

-- entities: known parts by number read as known parts by content

module _ {C D : List Value} (k : Keeps C D) where
  keep_elems : {l : List ℕ} {vs : Values} → Elems C l vs → Elems D l vs
  keep_elems elem0 = elem0
  keep_elems (elem1 {n = n} {v = v} a e) = elem1 (k n v a) (keep_elems e)

  keep_named : {e : Entries} {fs : Fields} → Named C e fs → Named D e fs
  keep_named name0 = name0
  keep_named (name1 {n = n} {v = v} a e) = name1 (k n v a) (keep_named e)

  pub keep_denotes : {r : Row} {v : Value} → Denotes C r v → Denotes D r v
  keep_denotes dbool = dbool
  keep_denotes dlong = dlong
  keep_denotes dtext = dtext
  keep_denotes dent = dent
  keep_denotes (dset a e p) = dset a (keep_elems e) p
  keep_denotes (drec e) = drec (keep_named e)

  keep_rec : {o : Option N.Give} {p : Option Fields} → RecRead C o p → RecRead D o p
  keep_rec rec_unknown = rec_unknown
  keep_rec (rec_known {a = a} {fs = fs} h) = rec_known (k a (vrec fs) h)
  keep_rec rec_empty = rec_empty

  keep_set : {o : Option N.Give} {p : Option Values} → SetRead C o p → SetRead D o p
  keep_set set_unknown = set_unknown
  keep_set (set_known {a = a} {vs = vs} h) = set_known (k a (vset vs) h)
  keep_set (set_found e p) = set_found (keep_elems e) p

  keep_give : {o : Option N.Give} {p : Option Value} → GiveRead C o p → GiveRead D o p
  keep_give give_unknown = give_unknown
  keep_give (give_made d) = give_made (keep_denotes d)
  keep_give (give_old {n = n} {v = v} h) = give_old (k n v h)

  pub keep_env : {M : NEnv} {P : PEnv} → EnvRead C M P → EnvRead D M P
  keep_env e = record { request = λ x. keep_give (e.request x); line = λ i t. record { attrs = keep_rec (e.line i t).attrs; tags = keep_rec (e.line i t).tags; ancestors = keep_set (e.line i t).ancestors } }

-- fields

pub data OptAt (C : List Value) : Option ℕ → Option Value → Type 0 where
  absent : OptAt C none none
  there_at : {n : ℕ} {v : Value} → At C n v → OptAt C (some n) (some v)

pick_at : {C : List Value} (b : Bool) {n : ℕ} {v : Value} {o : Option ℕ} {p : Option Value} → At C n v → OptAt C o p → OptAt C (pick_n b n o) (pick b v p)
pick_at true a h = there_at a
pick_at false a h = h

pub entry_at : {C : List Value} (t : ℕ) {e : Entries} {fs : Fields} → Named C e fs → OptAt C (entry_of t e) (find t fs)
entry_at t name0 = absent
entry_at t (name1 {t = u} a h) = pick_at (eqb t u) a (entry_at t h)

rec_row : {C : List Value} {r : Row} {fs : Fields} → Denotes C r (vrec fs) → (e : Entries) × (r ≡ rrec e) × Named C e fs
rec_row (drec {e = e} h) = (e, refl, h)

set_row : {C : List Value} {r : Row} {vs : Values} → Denotes C r (vset vs) → (l : List ℕ) × (r ≡ rset l) × Denotes C (rset l) (vset vs)
set_row (dset {l = l} a e p) = (l, refl, dset a e p)

module _ {C : List Value} {R : List Row} (t : Table R C) {M : NEnv} {P : PEnv} (env : EnvRead C M P) where
  -- the fields of a value, known or not; Q relates what the two give
  module _ {X Y : Type 0} (Q : X → Y → Type 0) {d : X} {d' : Y} (q : Q d d') (u : ℕ → ℕ → X) (u' : ℕ → ℕ → Y) {f : Entries → X} {g : Fields → Y}
      (h : (e : Entries) (fs : Fields) → Named C e fs → Q (f e) (g fs)) where
    on_known : (k i : ℕ) {o : Option N.Give} {p : Option Fields} → RecRead C o p → Q (u k i) (u' k i) → Q (on_some (u k i) o (λ a. r_rec d (give_row R a) f)) (on_some (u' k i) p g)
    on_known k i rec_unknown x = x
    on_known k i (rec_known {fs = fs} a) x = let (e, p, n) = rec_row (row_denotes t a) in rw p (h e fs n)
    on_known k i rec_empty x = h stop fnil name0

    pub on_fields_law : {r : Row} {v : Value} → Denotes C r v → ((k i : ℕ) → v ≡ vent k i → Q (u k i) (u' k i)) → Q (on_entries M R d u r f) (on_fields P d' u' v g)
    on_fields_law dbool x = q
    on_fields_law dlong x = q
    on_fields_law dtext x = q
    on_fields_law (dent {k = k} {t = i}) x = on_known k i (env.line k i).attrs (x k i refl)
    on_fields_law (dset a e p) x = q
    on_fields_law (drec {e = e} {fs = fs} n) x = h e fs n

  -- get, has

  or_fail_law : {o : Option ℕ} {p : Option Value} → OptAt C o p → OutReads C (or_fail o) (gives (on_some fail p ok))
  or_fail_law absent = ofail
  or_fail_law (there_at a) = oold a

  is_some_law : {o : Option ℕ} {p : Option Value} → OptAt C o p → OutReads C (truly (is_some o)) (gives (ok_bool (found p)))
  is_some_law absent = omade dbool
  is_some_law (there_at a) = omade dbool

  pub get_reads : (i : ℕ) {r : Row} {v : Value} → Denotes C r v → OutReads C (n_get M R i r) (get_known P i v)
  get_reads i d = on_fields_law (OutReads C) ofail (λ k j. N.stays) (λ k j. stays) (λ e fs n. or_fail_law (entry_at i n)) d (λ k j e. ostay)

  pub has_reads : (i : ℕ) {r : Row} {v : Value} → Denotes C r v → OutReads C (n_has M R i r) (has_known P i v)
  has_reads i d = on_fields_law (OutReads C) ofail (λ k j. N.stays) (λ k j. stays) (λ e fs n. is_some_law (entry_at i n)) d (λ k j e. ostay)

  -- gettag, hastag

  tag_reads : {o : Option N.Give} {p : Option Fields} {f : Entries → NOut} {g : Fields → Result} → RecRead C o p → ((e : Entries) (fs : Fields) → Named C e fs → OutReads C (f e) (gives (g fs)))
      → OutReads C (on_some N.stays o (λ a. r_rec fails (give_row R a) f)) (known p g)
  tag_reads rec_unknown h = ostay
  tag_reads (rec_known {fs = fs} a) h = let (e, p, n) = rec_row (row_denotes t a) in rw p (h e fs n)
  tag_reads rec_empty h = h stop fnil name0

  -- in

  ent_row : {r : Row} {v : Value} → Denotes C r v → is_rent r ≡ is_ent v
  ent_row dbool = refl
  ent_row dlong = refl
  ent_row dtext = refl
  ent_row dent = refl
  ent_row (dset a e p) = refl
  ent_row (drec e) = refl

  all_ent_law : {l : List ℕ} {vs : Values} → SetRel C l vs → all_rent R l ≡ all_ent vs
  all_ent_law {l} {vs} h = iff (all_rent R l) (all_ent vs)
      (λ e. from vs (λ v m. let (n, a, i) = h.from v m in sym (ent_row (row_denotes t a)) ∙ to l e i))
      (λ e. form l (λ n i. let (v, a, m) = h.to n i in ent_row (row_denotes t a) ∙ ot vs e m))
    where
      to : {n : ℕ} (k : List ℕ) → all_rent R k ≡ true → InN n k → is_rent (row_at R n) ≡ true
      to [] e i = elim i [ ]
      to (n ∷ k) e now' = and_left (is_rent (row_at R n)) (all_rent R k) e
      to (n ∷ k) e (later' i) = to k (and_right (is_rent (row_at R n)) (all_rent R k) e) i

      form : (k : List ℕ) → ((n : ℕ) → InN n k → is_rent (row_at R n) ≡ true) → all_rent R k ≡ true
      form [] f = refl
      form (n ∷ k) f = both (f n now') (form k (λ m i. f m (later' i)))

      ot : {v : Value} (ws : Values) → all_ent ws ≡ true → Mem v ws → is_ent v ≡ true
      ot vnil e m = elim m [ ]
      ot (vcons w ws) e here = and_left (is_ent w) (all_ent ws) e
      ot (vcons w ws) e (there m) = ot ws (and_right (is_ent w) (all_ent ws) e) m

      from : (ws : Values) → ((v : Value) → Mem v ws → is_ent v ≡ true) → all_ent ws ≡ true
      from vnil f = refl
      from (vcons w ws) f = both (f w here) (from ws (λ v m. f v (there m)))

  data TargetRead : Option (List ℕ) → Option Values → Type 0 where
    no_target : TargetRead none none
    target : {l : List ℕ} {vs : Values} → SetRel C l vs → TargetRead (some l) (some vs)

  one_rel : {n : ℕ} {v : Value} → At C n v → SetRel C (n ∷ []) (vcons v vnil)
  one_rel {n} {v} a = record { to = λ m i. to i; from = λ w m. from m }
    where
      to : {m : ℕ} → InN m (n ∷ []) → (w : Value) × At C m w × Mem w (vcons v vnil)
      to now' = (v, a, here)
      to (later' i) = elim i [ ]

      from : {w : Value} → Mem w (vcons v vnil) → (m : ℕ) × At C m w × InN m (n ∷ [])
      from here = (n, a, now')
      from (there m) = elim m [ ]

  targets_read : {n : ℕ} {s : Row} {w : Value} → At C n w → Denotes C s w → TargetRead (n_targets R n s) (targets w)
  targets_read a dbool = no_target
  targets_read a dlong = no_target
  targets_read a dtext = no_target
  targets_read a dent = target (one_rel a)
  targets_read a (dset {l = l} {vs = vs} b e p) = let h = set_rel (number_inj t) (dset b e p) in rw (all_ent_law h) (go (all_ent vs) h)
    where
      go : (b : Bool) → SetRel C l vs → TargetRead (cond b (some l) none) (cond b (some vs) none)
      go true h = target h
      go false h = no_target
  targets_read a (drec e) = no_target

  in_reads : {m : ℕ} {v : Value} {o : Option N.Give} {p : Option Values} {l : List ℕ} {ts : Values} → At C m v → SetRead C o p → SetRel C l ts → OutReads C (n_in R m o l) (in_known P v p ts)
  in_reads {m} {v} {l = l} {ts = ts} a set_unknown h = rw (same_mem (number_inj t) h a, same_nil (number_inj t) h) (go (member v ts) (is_empty ts))
    where
      go : (b c : Bool) → OutReads C (cond b (truly true) (cond c (truly false) N.stays)) (cond b (gives (ok (vbool true))) (cond c (gives (ok (vbool false))) stays))
      go true c = omade dbool
      go false true = omade dbool
      go false false = ostay
  in_reads a (set_known {vs = vs} b) h =
      let (k, p, d) = set_row (row_denotes t b) in
      rw (p, same_mem (number_inj t) h a, same_any (number_inj t) h (set_rel (number_inj t) d)) (omade dbool)
  in_reads a (set_found e p) h = rw (same_mem (number_inj t) h a, same_any (number_inj t) h (elems_rel (number_inj t) e p)) (omade dbool)

  among_reads : {m : ℕ} {v : Value} {o : Option N.Give} {p : Option Values} {x : Option (List ℕ)} {y : Option Values} → At C m v → SetRead C o p → TargetRead x y → OutReads C (on_some fails x (n_in R m o)) (on_some (gives fail) y (in_known P v p))
  among_reads a b no_target = ofail
  among_reads a b (target h) = in_reads a b h

  pub rel_reads : (o : Rel) {m n : ℕ} {r s : Row} {v w : Value} → At C m v → At C n w → Denotes C r v → Denotes C s w → OutReads C (n_rel M R o m n r s) (rel_known P o v w)
  rel_reads rin {m = m} a b d e = on_ent_law (OutReads C) ofail _ _ d (λ k i q. among_reads (subst (At C m) q a) (env.line k i).ancestors (targets_read b e))
  rel_reads rgettag a b d e = on_ent_law (OutReads C) ofail _ _ d (λ k i q. on_text_law (OutReads C) ofail _ _ e (λ u. tag_reads (env.line k i).tags (λ x fs n. or_fail_law (entry_at u n))))
  rel_reads rhastag a b d e = on_ent_law (OutReads C) ofail _ _ d (λ k i q. on_text_law (OutReads C) ofail _ _ e (λ u. tag_reads (env.line k i).tags (λ x fs n. is_some_law (entry_at u n))))

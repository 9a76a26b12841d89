-- What the strict operations give: whatever holds of every bool and of every long of 64 bits holds of each row that they make.
use mathlib.Core.Path.{◌≡◌, refl}
use mathlib.Core.Bool.{Bool, true, false, cond, not, ◌||◌}
use mathlib.Core.Option.{Option, none, some}
use mathlib.Core.List.{List}
use Prim.Native.Nat.{ℕ}
use lib.Dec.{eqb}
use lib.IntN.{ℤ, neg_ℤ, ◌+ℤ◌, ◌-ℤ◌, ◌*ℤ◌}
use lib.Signed.{lt_z, le_z}
use Rattle.cedar.specs.Value.{on_some}
use Rattle.cedar.specs.Types.{Schema}
use Rattle.cedar.specs.Residual.{Un, unot, uneg, uempty, uis, ulike, Bin, beq, blt, ble, badd, bsub, bmul, bcontains, ball, bany, Rel, rin, rgettag, rhastag}
use Rattle.cedar.specs.Evaluate.{matches, is_nil, in_range}
use Rattle.cedar.specs.Rows.{Entries, Row, rbool, rlong, rtext, rent, rset, rrec}
use Rattle.cedar.specs.Numbered.{Give, made, old, NEnv, nentity, give_row, r_bool, r_long, r_text, r_ent, r_set, r_rec, NOut, give, fails, stays, truly, nlong, mem_n, all_n, any_n, entry_of, is_some, or_fail, n_un, n_bin, n_targets, n_in, n_rel, on_entries, n_get, n_has}

-- a row taken apart
module _ {A : Type 0} (X : A → Type 0) (d : A) (x : X d) where
  pub e_bool : (r : Row) (f : Bool → A) → ((b : Bool) → X (f b)) → X (r_bool d r f)
  e_bool (rbool b) f h = h b
  e_bool (rlong n) f h = x
  e_bool (rtext t) f h = x
  e_bool (rent k t) f h = x
  e_bool (rset l) f h = x
  e_bool (rrec e) f h = x

  pub e_long : (r : Row) (f : ℤ → A) → ((n : ℤ) → X (f n)) → X (r_long d r f)
  e_long (rbool b) f h = x
  e_long (rlong n) f h = h n
  e_long (rtext t) f h = x
  e_long (rent k t) f h = x
  e_long (rset l) f h = x
  e_long (rrec e) f h = x

  pub e_text : (r : Row) (f : ℕ → A) → ((t : ℕ) → X (f t)) → X (r_text d r f)
  e_text (rbool b) f h = x
  e_text (rlong n) f h = x
  e_text (rtext t) f h = h t
  e_text (rent k t) f h = x
  e_text (rset l) f h = x
  e_text (rrec e) f h = x

  pub e_ent : (r : Row) (f : ℕ → ℕ → A) → ((k t : ℕ) → X (f k t)) → X (r_ent d r f)
  e_ent (rbool b) f h = x
  e_ent (rlong n) f h = x
  e_ent (rtext t) f h = x
  e_ent (rent k t) f h = h k t
  e_ent (rset l) f h = x
  e_ent (rrec e) f h = x

  pub e_set : (r : Row) (f : List ℕ → A) → ((l : List ℕ) → X (f l)) → X (r_set d r f)
  e_set (rbool b) f h = x
  e_set (rlong n) f h = x
  e_set (rtext t) f h = x
  e_set (rent k t) f h = x
  e_set (rset l) f h = h l
  e_set (rrec e) f h = x

  pub e_rec : (r : Row) (f : Entries → A) → ((e : Entries) → X (f e)) → X (r_rec d r f)
  e_rec (rbool b) f h = x
  e_rec (rlong n) f h = x
  e_rec (rtext t) f h = x
  e_rec (rent k t) f h = x
  e_rec (rset l) f h = x
  e_rec (rrec e) f h = h e

  pub e_some : {B : Type 0} (o : Option B) (f : B → A) → ((b : B) → X (f b)) → X (on_some d o f)
  e_some none f h = x
  e_some (some b) f h = h b

  pub e_entries : (M : NEnv) (R : List Row) (u : ℕ → ℕ → A) → ((k i : ℕ) → X (u k i)) → (f : Entries → A) → ((e : Entries) → X (f e)) → (r : Row) → X (on_entries M R d u r f)
  e_entries M R u g f h (rbool b) = x
  e_entries M R u g f h (rlong n) = x
  e_entries M R u g f h (rtext t) = x
  e_entries M R u g f h (rent k t) = go (nentity M k t).attrs
    where
      go : (o : Option Give) → X (on_some (u k t) o (λ a. r_rec d (give_row R a) f))
      go none = g k t
      go (some a) = e_rec (give_row R a) f h
  e_entries M R u g f h (rset l) = x
  e_entries M R u g f h (rrec e) = h e

-- Q of a made row
abbrev pub GiveIs : (Row → Type 0) → Give → Type 0
GiveIs Q (made r) = Q r
GiveIs Q (old n) = Unit {0}

abbrev pub OutIs : (Row → Type 0) → NOut → Type 0
OutIs Q (give g) = GiveIs Q g
OutIs Q fails = Unit {0}
OutIs Q stays = Unit {0}

pub record Basic (Q : Row → Type 0) : Type 0 where
  pub bools : (b : Bool) → Q (rbool b)
  pub longs : (z : ℤ) → in_range z ≡ true → Q (rlong z)

module _ {Q : Row → Type 0} (q : Basic Q) where
  made_long : (z : ℤ) → OutIs Q (nlong z)
  made_long z = go (in_range z) refl
    where
      go : (b : Bool) → in_range z ≡ b → OutIs Q (cond b (give (made (rlong z))) fails)
      go true e = q.longs z e
      go false e = tt

  made_old : (o : Option ℕ) → OutIs Q (or_fail o)
  made_old none = tt
  made_old (some n) = tt

  pub made_un : (S : Schema) (u : Un) (r : Row) → OutIs Q (n_un S u r)
  made_un S unot r = e_bool (OutIs Q) fails tt r (λ b. truly (not b)) (λ b. q.bools (not b))
  made_un S uneg r = e_long (OutIs Q) fails tt r (λ n. nlong (neg_ℤ n)) (λ n. made_long (neg_ℤ n))
  made_un S uempty r = e_set (OutIs Q) fails tt r (λ l. truly (is_nil l)) (λ l. q.bools (is_nil l))
  made_un S (uis k) r = e_ent (OutIs Q) fails tt r (λ l t. truly (eqb k l)) (λ l t. q.bools (eqb k l))
  made_un S (ulike p) r = e_text (OutIs Q) fails tt r (λ t. truly (matches S.bytes p (S.bytes t))) (λ t. q.bools (matches S.bytes p (S.bytes t)))

  pub made_bin : (o : Bin) (m n : ℕ) (r s : Row) → OutIs Q (n_bin o m n r s)
  made_bin beq m n r s = q.bools (eqb m n)
  made_bin blt m n r s = e_long (OutIs Q) fails tt r (λ x. r_long fails s (λ y. truly (lt_z x y))) (λ x. e_long (OutIs Q) fails tt s (λ y. truly (lt_z x y)) (λ y. q.bools (lt_z x y)))
  made_bin ble m n r s = e_long (OutIs Q) fails tt r (λ x. r_long fails s (λ y. truly (le_z x y))) (λ x. e_long (OutIs Q) fails tt s (λ y. truly (le_z x y)) (λ y. q.bools (le_z x y)))
  made_bin badd m n r s = e_long (OutIs Q) fails tt r (λ x. r_long fails s (λ y. nlong (x +ℤ y))) (λ x. e_long (OutIs Q) fails tt s (λ y. nlong (x +ℤ y)) (λ y. made_long (x +ℤ y)))
  made_bin bsub m n r s = e_long (OutIs Q) fails tt r (λ x. r_long fails s (λ y. nlong (x -ℤ y))) (λ x. e_long (OutIs Q) fails tt s (λ y. nlong (x -ℤ y)) (λ y. made_long (x -ℤ y)))
  made_bin bmul m n r s = e_long (OutIs Q) fails tt r (λ x. r_long fails s (λ y. nlong (x *ℤ y))) (λ x. e_long (OutIs Q) fails tt s (λ y. nlong (x *ℤ y)) (λ y. made_long (x *ℤ y)))
  made_bin bcontains m n r s = e_set (OutIs Q) fails tt r (λ l. truly (mem_n n l)) (λ l. q.bools (mem_n n l))
  made_bin ball m n r s = e_set (OutIs Q) fails tt r (λ l. r_set fails s (λ k. truly (all_n k l))) (λ l. e_set (OutIs Q) fails tt s (λ k. truly (all_n k l)) (λ k. q.bools (all_n k l)))
  made_bin bany m n r s = e_set (OutIs Q) fails tt r (λ l. r_set fails s (λ k. truly (any_n k l))) (λ l. e_set (OutIs Q) fails tt s (λ k. truly (any_n k l)) (λ k. q.bools (any_n k l)))

  made_in : (R : List Row) (m : ℕ) (o : Option Give) (l : List ℕ) → OutIs Q (n_in R m o l)
  made_in R m none l = go (mem_n m l) (is_nil l)
    where
      go : (x y : Bool) → OutIs Q (cond x (truly true) (cond y (truly false) stays))
      go true y = q.bools true
      go false true = q.bools false
      go false false = tt
  made_in R m (some a) l = e_set (OutIs Q) fails tt (give_row R a) (λ k. truly (mem_n m l || any_n l k)) (λ k. q.bools (mem_n m l || any_n l k))

  module _ (M : NEnv) (R : List Row) where
    pub made_rel : (o : Rel) (m n : ℕ) (r s : Row) → OutIs Q (n_rel M R o m n r s)
    made_rel rin m n r s = e_ent (OutIs Q) fails tt r (λ k t. on_some fails (n_targets R n s) (n_in R m (nentity M k t).ancestors)) (λ k t. e_some (OutIs Q) fails tt (n_targets R n s) (n_in R m (nentity M k t).ancestors) (λ l. made_in R m (nentity M k t).ancestors l))
    made_rel rgettag m n r s = e_ent (OutIs Q) fails tt r (λ k t. r_text fails s (λ u. on_some stays (nentity M k t).tags (λ a. r_rec fails (give_row R a) (λ e. or_fail (entry_of u e))))) (λ k t. e_text (OutIs Q) fails tt s (λ u. on_some stays (nentity M k t).tags (λ a. r_rec fails (give_row R a) (λ e. or_fail (entry_of u e))))
        (λ u. e_some (OutIs Q) stays tt (nentity M k t).tags (λ a. r_rec fails (give_row R a) (λ e. or_fail (entry_of u e))) (λ a. e_rec (OutIs Q) fails tt (give_row R a) (λ e. or_fail (entry_of u e)) (λ e. made_old (entry_of u e)))))
    made_rel rhastag m n r s = e_ent (OutIs Q) fails tt r (λ k t. r_text fails s (λ u. on_some stays (nentity M k t).tags (λ a. r_rec fails (give_row R a) (λ e. truly (is_some (entry_of u e)))))) (λ k t. e_text (OutIs Q) fails tt s (λ u. on_some stays (nentity M k t).tags (λ a. r_rec fails (give_row R a) (λ e. truly (is_some (entry_of u e)))))
        (λ u. e_some (OutIs Q) stays tt (nentity M k t).tags (λ a. r_rec fails (give_row R a) (λ e. truly (is_some (entry_of u e)))) (λ a. e_rec (OutIs Q) fails tt (give_row R a) (λ e. truly (is_some (entry_of u e))) (λ e. q.bools (is_some (entry_of u e))))))

    pub made_get : (t : ℕ) (r : Row) → OutIs Q (n_get M R t r)
    made_get t r = e_entries (OutIs Q) fails tt M R (λ k i. stays) (λ k i. tt) (λ e. or_fail (entry_of t e)) (λ e. made_old (entry_of t e)) r

    pub made_has : (t : ℕ) (r : Row) → OutIs Q (n_has M R t r)
    made_has t r = e_entries (OutIs Q) fails tt M R (λ k i. stays) (λ k i. tt) (λ e. truly (is_some (entry_of t e))) (λ e. q.bools (is_some (entry_of t e))) r

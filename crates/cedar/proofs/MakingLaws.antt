-- Making keeps a table of distinct rows, and a made set stands for the set of its members.
use mathlib.Core.Path.{◌≡◌, refl, sym, ◌∙◌, ap, ap₂, subst}
use mathlib.Core.Bool.{Bool, true, false}
use mathlib.Core.Option.{Option, none, some, some-injective}
use mathlib.Core.List.{List, [], ◌∷◌, ◌++◌}
use Prim.Native.Nat.{ℕ, ◌<◌, compare, Ordering}
use native.Mathlib.Omega.{arith}
use Rattle.cedar.proofs.Tools.{no_some, no_true}
use Rattle.cedar.specs.Value.{Value, vset, vrec, Values, vnil, vcons, Fields, fcons}
use Rattle.cedar.specs.Canonical.{ascending, make_set}
use Rattle.cedar.proofs.CanonicalLaws.{Mem, here, there, ascending_sorted, ascending_in, ascending_out, sorted_ext}
use Rattle.cedar.proofs.OrderLaws.{compare_eq, compare_lt, compare_gt}
use Rattle.cedar.specs.Rows.{Entries, Row, same_row, rset}
use Rattle.cedar.proofs.TableLaws.{same_row_true, same_row_refl, at_append, at_last, at_fun, at_snoc, grow_denotes, same_length}
use Rattle.cedar.specs.Table.{At, now, later, Least, end, less, Asc, up, Elems, elem0, elem1, Named, name0, name1, Denotes, dbool, dlong, dtext, dent, dset, drec, Table, start, grow}
use Rattle.cedar.specs.Making.{one_later, pick_row, find_row, or_add, intern, place_n, insert_n, sort_n}

-- found where it is, not found where it is not

found_at : (r : Row) (T : List Row) (n : ℕ) → find_row r T ≡ some n → At T n r
found_at r [] n e = no_some e
found_at r (q ∷ T) n e = go (same_row q r) refl n (found_at r T) e
  where
    old : (o : Option ℕ) (m : ℕ) → ((k : ℕ) → o ≡ some k → At T k r) → one_later o ≡ some m → At (q ∷ T) m r
    old none m ih f = no_some f
    old (some k) m ih f = subst (λ z. At (q ∷ T) z r) (some-injective _ _ f) (later (ih k refl))

    go : (b : Bool) → same_row q r ≡ b → (m : ℕ) → ((k : ℕ) → find_row r T ≡ some k → At T k r) → pick_row b (find_row r T) ≡ some m → At (q ∷ T) m r
    go true p m ih f = subst (λ x. At (q ∷ T) m x) (same_row_true q r p) (subst (λ z. At (q ∷ T) z q) (some-injective _ _ f) now)
    go false p m ih f = old (find_row r T) m ih f

miss : {T : List Row} {q r : Row} {n : ℕ} → At (q ∷ T) n r → (same_row q r ≡ false) → ((k : ℕ) → At T k r → ⊥) → ⊥
miss {q = q} now p f = no_true (sym p ∙ same_row_refl q)
miss (later {n = n} b) p f = f n b

not_found : (r : Row) (T : List Row) → find_row r T ≡ none → (n : ℕ) → At T n r → ⊥
not_found r [] e n a = elim a [ ]
not_found r (q ∷ T) e n a = go (same_row q r) refl (not_found r T) e
  where
    old : (o : Option ℕ) → (o ≡ none → (k : ℕ) → At T k r → ⊥) → one_later o ≡ none → (k : ℕ) → At T k r → ⊥
    old none ih f = ih refl
    old (some k) ih f = no_some (sym f)

    go : (b : Bool) → same_row q r ≡ b → (find_row r T ≡ none → (k : ℕ) → At T k r → ⊥) → pick_row b (find_row r T) ≡ none → ⊥
    go true p ih f = no_some (sym f)
    go false p ih f = miss a p (old (find_row r T) ih f)

-- a row has one content, and each row has one

module _ {C : List Value} where
  elems_fun : {l : List ℕ} {xs ys : Values} → Elems C l xs → Elems C l ys → xs ≡ ys
  elems_fun elem0 elem0 = refl
  elems_fun (elem1 a e) (elem1 b f) = ap₂ vcons (at_fun a b) (elems_fun e f)

  named_fun : {e : Entries} {fs gs : Fields} → Named C e fs → Named C e gs → fs ≡ gs
  named_fun name0 name0 = refl
  named_fun (name1 {t = t} a e) (name1 b f) = ap₂ (fcons t) (at_fun a b) (named_fun e f)

  denotes_fun : {r : Row} {v w : Value} → Denotes C r v → Denotes C r w → v ≡ w
  denotes_fun dbool dbool = refl
  denotes_fun dlong dlong = refl
  denotes_fun dtext dtext = refl
  denotes_fun dent dent = refl
  denotes_fun (dset a e p) (dset b f q) = ap vset (sym p ∙ ap ascending (elems_fun e f) ∙ q)
  denotes_fun (drec e) (drec f) = ap vrec (named_fun e f)

pub content_of : {T : List Row} {C : List Value} {n : ℕ} {r : Row} → Table T C → At T n r → (v : Value) × At C n v × Denotes C r v
content_of start a = elim a [ ]
content_of {n = n} (grow {T = T} {C = C} {r = q} {v = w} t d h) a =
    at_snoc T a (λ b. let (v, c, e) = content_of t b in (v, at_append (w ∷ []) c, grow_denotes C w e))
    (λ p e. (w, subst (λ z. At (C ++ (w ∷ [])) z w) (sym (same_length t) ∙ sym p) (at_last C w), rw e (grow_denotes C w d)))

-- The table stays one, old numbers keep their contents, and the number given has the content wanted
pub record Made (C : List Value) (T : List Row) (n : ℕ) (v : Value) : Type 0 where
  pub contents : List Value
  pub table : Table T contents
  pub keeps : (m : ℕ) (w : Value) → At C m w → At contents m w
  pub at : At contents n v

pub intern_makes : {T : List Row} {C : List Value} {r : Row} {v : Value} → Table T C → Denotes C r v → Made C (intern T r).rows (intern T r).number v
intern_makes {T} {C} {r} {v} t d = go (find_row r T) refl
  where
    go : (o : Option ℕ) → find_row r T ≡ o → Made C (or_add o T r).rows (or_add o T r).number v
    go (some n) e = let (w, a, f) = content_of t (found_at r T n e) in record { contents = C; table = t; keeps = λ m u b. b; at = subst (At C n) (denotes_fun f d) a }
    go none e = record { contents = C ++ (v ∷ []); table = grow t d (not_found r T e); keeps = λ m u b. at_append (v ∷ []) b; at = subst (λ z. At (C ++ (v ∷ [])) z v) (sym (same_length t)) (at_last C v) }

below_all : {m n : ℕ} {l : List ℕ} → m < n → Least n l → Least m l
below_all h end = end
below_all h (less {m = k} g e) = less {m = k} (omega arith) (below_all h e)

module _ (m n : ℕ) (l r : List ℕ) where
  place_n_asc : (o : Ordering) → compare m n ≡ o → Least n l → Asc l → (n < m → Least n r) → Asc r → Asc (place_n o m n l r)
  place_n_asc Ordering.lt e a s f t = let h = compare_lt m n e in up (less h (below_all h a)) (up a s)
  place_n_asc Ordering.eq e a s f t = up a s
  place_n_asc Ordering.gt e a s f t = up (f (compare_gt m n e)) t

  place_n_least : {k : ℕ} (o : Ordering) → k < m → Least k (n ∷ l) → Least k r → Least k (place_n o m n l r)
  place_n_least Ordering.lt h e f = less h e
  place_n_least Ordering.eq h e f = e
  place_n_least Ordering.gt h (less g e) f = less g f

insert_n_least : (m : ℕ) {k : ℕ} (l : List ℕ) → k < m → Least k l → Least k (insert_n m l)
insert_n_least m [] h e = less h end
insert_n_least m (n ∷ l) h (less g e) = place_n_least m n l (insert_n m l) (compare m n) h (less g e) (insert_n_least m l h e)

insert_n_asc : (m : ℕ) {l : List ℕ} → Asc l → Asc (insert_n m l)
insert_n_asc m end = up end end
insert_n_asc m (up {n = n} {l = l} e a) = place_n_asc m n l (insert_n m l) (compare m n) refl e a (λ h. insert_n_least m l h e) (insert_n_asc m a)

sort_asc : (l : List ℕ) → Asc (sort_n l)
sort_asc [] = end
sort_asc (n ∷ l) = insert_n_asc n (sort_asc l)

-- the same members

pub record SameMem (xs ys : Values) : Type 0 where
  pub to : (v : Value) → Mem v xs → Mem v ys
  pub from : (v : Value) → Mem v ys → Mem v xs

same_rev : {xs ys : Values} → SameMem xs ys → SameMem ys xs
same_rev h = record { to = h.from; from = h.to }

cons_mem : {v : Value} {xs ys : Values} → ((u : Value) → Mem u xs → Mem u ys) → (u : Value) → Mem u (vcons v xs) → Mem u (vcons v ys)
cons_mem f u here = here
cons_mem f u (there m) = there (f u m)

swap_mem : {v w : Value} {xs : Values} (u : Value) → Mem u (vcons w (vcons v xs)) → Mem u (vcons v (vcons w xs))
swap_mem u here = there here
swap_mem u (there here) = here
swap_mem u (there (there m)) = there (there m)

drop_mem : {v w : Value} {xs : Values} → v ≡ w → (u : Value) → Mem u (vcons v (vcons w xs)) → Mem u (vcons w xs)
drop_mem {xs = xs} e u here = subst (λ z. Mem u (vcons z xs)) e here
drop_mem e u (there m) = m

module _ {C : List Value} where
  place_elems : {m n : ℕ} {l r : List ℕ} {v w : Value} {xs ys : Values} (o : Ordering) → compare m n ≡ o → At C m v → At C n w → Elems C l xs → Elems C r ys → SameMem ys (vcons v xs)
      → (zs : Values) × Elems C (place_n o m n l r) zs × SameMem zs (vcons v (vcons w xs))
  place_elems {v = v} {w = w} {xs = xs} Ordering.lt e a b f g h = (vcons v (vcons w xs), elem1 a (elem1 b f), record { to = λ u i. i; from = λ u i. i })
  place_elems {m = m} {n = n} {v = v} {w = w} {xs = xs} Ordering.eq e a b f g h =
      let q : v ≡ w = at_fun (subst (λ z. At C z v) (compare_eq m n e) a) b in
      (vcons w xs, elem1 b f, record { to = λ u i. there i; from = drop_mem q })
  place_elems {v = v} {w = w} {xs = xs} {ys = ys} Ordering.gt e a b f g h =
      (vcons w ys, elem1 b g, record { to = λ u i. swap_mem u (cons_mem h.to u i); from = λ u i. cons_mem h.from u (swap_mem u i) })

  insert_elems : {m : ℕ} {l : List ℕ} {v : Value} {xs : Values} → At C m v → Elems C l xs → (zs : Values) × Elems C (insert_n m l) zs × SameMem zs (vcons v xs)
  insert_elems {v = v} a elem0 = (vcons v vnil, elem1 a elem0, record { to = λ u i. i; from = λ u i. i })
  insert_elems {m = m} a (elem1 {n = n} b f) = let (ys, g, h) = insert_elems a f in place_elems (compare m n) refl a b f g h

  sort_elems : {l : List ℕ} {xs : Values} → Elems C l xs → (zs : Values) × Elems C (sort_n l) zs × SameMem zs xs
  sort_elems elem0 = (vnil, elem0, record { to = λ u i. i; from = λ u i. i })
  sort_elems (elem1 a f) =
      let (ys, g, h) = sort_elems f in
      let (zs, i, j) = insert_elems a g in
      (zs, i, record { to = λ u m. cons_mem h.to u (j.to u m); from = λ u m. j.from u (cons_mem h.from u m) })

  -- a made set: its row's numbers are sorted, its content is the set of the children's contents
  pub set_denotes : {l : List ℕ} {xs : Values} → Elems C l xs → Denotes C (rset (sort_n l)) (make_set xs)
  unfolding make_set
  set_denotes {l} {xs} f =
      let (zs, g, h) = sort_elems f in
      dset (sort_asc l) g (sorted_ext (ascending_sorted zs) (ascending_sorted xs) (λ v m. ascending_in (h.to v (ascending_out zs m))) (λ v m. ascending_in (h.from v (ascending_out xs m))))

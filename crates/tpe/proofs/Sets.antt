-- Sets and records over words are the numbered ones. Assumes nothing.
use mathlib.Core.Path.{◌≡◌, refl, sym, ◌∙◌, ap, subst}
use mathlib.Core.Bool.{Bool, true, false, cond, ◌||◌}
use mathlib.Core.Option.{Option, none, some, some-injective}
use mathlib.Core.List.{List, [], ◌∷◌, ◌++◌}
use Prim.Native.Nat.{ℕ, suc, ◌+◌, ◌*◌, ◌≤◌, ◌<◌, compare, Ordering}
use native.Mathlib.Omega.{arith}
use lib.ListN.{length, get_or, take, drop, length-append}
use lib.Seq.{drop-append_seam}
use Rattle.cedar.specs.Value.{on_some}
use Rattle.cedar.specs.Types.{Ty}
use Rattle.cedar.specs.Residual.{Node, err, set, rec, Stage, value, error, open', view, is_error, any_error, any_error_arg}
use Rattle.cedar.specs.Rows.{Entries, stop, entry, Row, rset, rrec}
use Rattle.cedar.specs.Making.{insert_n, place_n, sort_n}
use Rattle.cedar.specs.Numbered.{out, make, cons_n, numbers, entry_n, entries}
use Rattle.cedar.proofs.Tools.{no_some}
use Rattle.forms.specs.Tags.{SET_VALUE, RECORD_VALUE}
use Rattle.sheet.specs.Forms.{Mode, items, at}
use Rattle.sheet.specs.State.{value_row, entries_of}
use Rattle.value.specs.Made.{values_in, set_row, pairs_of, record_row, written}
use Rattle.value.proofs.Interned.{Formed, formed_set, formed_record}
use Rattle.value.proofs.Fills.{written_is}
use Rattle.residual.specs.Rows.{lit_row}
use Rattle.residual.specs.Trees.{Res, rlit, rerr, rleft, Ress, rnil, rcons, flat, flats, count_res, nodes_of, args_of, left_tree, suits, ty_at, tree_of, trees_of, Whole, whole_left, Wholes, whole_more}
use Rattle.residual.proofs.Blocks.{left_open}
use Rattle.residual.proofs.Meaning.{trees_count, suited}
use Rattle.tpe.specs.Run.{Kids, made_of, err_of, left_of, many_of, set_of, rec_of, all_values, some_error, some_open}
use Rattle.tpe.proofs.Stands.{Room, Spent, tys, nodes, ty, Is, is_as, err_is, left_is, make_is, cut_back}
use Rattle.tpe.proofs.Kids.{Results, bad, vals, join_none, Are}

-- ---- lists of trees as children

any_error_law : (cs : List (Node ℕ)) → any_error (nodes_of cs) ≡ bad cs
any_error_law [] = refl
any_error_law (e ∷ cs) = ap (λ (b : Bool). is_error (view e) || b) (any_error_law cs)

numbers_are : (cs : List (Node ℕ)) → numbers (nodes_of cs) ≡ vals cs
numbers_are [] = refl
numbers_are (e ∷ cs) = ap (cons_n (view e)) (numbers_are cs)

-- texts with values
abbrev zipped : List ℕ → List ℕ → Entries
zipped [] vs = stop
zipped (t ∷ []) vs = stop
zipped (t ∷ n ∷ l) [] = stop
zipped (t ∷ n ∷ l) (v ∷ vs) = entry t v (zipped l vs)

abbrev zipped_if : List ℕ → Option (List ℕ) → Option Entries
zipped_if l none = none
zipped_if l (some vs) = some (zipped l vs)

any_arg : (l : List ℕ) (cs : List (Node ℕ)) → length l ≡ 2 * length cs → any_error_arg (args_of l cs) ≡ bad cs
any_arg [] [] e = refl
any_arg [] (c ∷ cs) e = absurd (omega (arith, e))
any_arg (t ∷ []) [] e = absurd (omega (arith, e))
any_arg (t ∷ []) (c ∷ cs) e = absurd (omega (arith, e))
any_arg (t ∷ n ∷ l) [] e = absurd (omega (arith, e))
any_arg (t ∷ n ∷ l) (c ∷ cs) e = ap (λ (b : Bool). is_error (view c) || b) (any_arg l cs (omega (arith, e)))

entries_are : (l : List ℕ) (cs : List (Node ℕ)) → length l ≡ 2 * length cs → entries (args_of l cs) ≡ zipped_if l (vals cs)
entries_are [] [] e = refl
entries_are [] (c ∷ cs) e = absurd (omega (arith, e))
entries_are (t ∷ []) [] e = absurd (omega (arith, e))
entries_are (t ∷ []) (c ∷ cs) e = absurd (omega (arith, e))
entries_are (t ∷ n ∷ l) [] e = absurd (omega (arith, e))
entries_are (t ∷ n ∷ l) (c ∷ cs) e = ap (entry_n t (view c)) (entries_are l cs (omega (arith, e))) ∙ go (view c) (vals cs)
  where
    go : (s : Stage ℕ) (o : Option (List ℕ)) → entry_n t s (zipped_if l o) ≡ zipped_if (t ∷ n ∷ l) (cons_n s o)
    go (value v) none = refl
    go (value v) (some vs) = refl
    go error o = refl
    go open' o = refl

-- ---- the values of blocks that all are values

cons_some : {X : Type 0} (s : Stage ℕ) (o : Option (List ℕ)) (vs : List ℕ) → cons_n s o ≡ some vs → ((v : ℕ) (l : List ℕ) → s ≡ value v → o ≡ some l → v ∷ l ≡ vs → X) → X
cons_some (value v) none vs e f = no_some e
cons_some (value v) (some l) vs e f = f v l refl refl (some-injective (v ∷ l) vs e)
cons_some error o vs e f = no_some e
cons_some open' o vs e f = no_some e

pub vals_length : (cs : List (Node ℕ)) (vs : List ℕ) → vals cs ≡ some vs → length vs ≡ length cs
vals_length [] vs e = ap length (sym (some-injective [] vs e))
vals_length (c ∷ cs) vs e = cons_some (view c) (vals cs) vs e (λ v l p q z. sym (ap length z) ∙ ap suc (vals_length cs l q))

value_not : {X : Type 0} {v : ℕ} → error ≡ value v → X
value_not {X} e = absurd (subst (λ (s : Stage ℕ). is_e s) e tt)
  where
    is_e : Stage ℕ → Type 0
    is_e (value v) = ⊥
    is_e error = Unit {0}
    is_e open' = ⊥

open_not : {X : Type 0} {v : ℕ} → open' ≡ value v → X
open_not {X} e = absurd (subst (λ (s : Stage ℕ). is_o s) e tt)
  where
    is_o : Stage ℕ → Type 0
    is_o (value v) = ⊥
    is_o error = ⊥
    is_o open' = Unit {0}

value_in : {v w : ℕ} → value v ≡ value w → v ≡ w
value_in {v} e = ap (λ (s : Stage ℕ). got s) e
  where
    got : Stage ℕ → ℕ
    got (value x) = x
    got error = 0
    got open' = 0

module _ (ts : List Ty) (ns : List (List ℕ)) where
  -- a residual that is a value is its row
  lit_flat : {X : Type 0} {d : ℕ} (r : Res) → Whole ts ns d r → (v : ℕ) → view (tree_of ts ns r) ≡ value v → ((y : ℕ) → flat r ≡ lit_row v y → X) → X
  unfolding flat tree_of
  lit_flat (rlit w y) h v e f = f y (ap (λ (x : ℕ). lit_row x y) (value_in e))
  lit_flat (rerr y) h v e f = value_not e
  lit_flat (rleft n k y rs) (whole_left t s ws) v e f = open_not (sym (left_open (get_or ns n []) k (ty_at ts ns y) (trees_of ts ns rs) (suited ts ns n rs s)) ∙ e)

  pub values_in_law : {d : ℕ} (rs : Ress) → Wholes ts ns d rs → (vs : List ℕ) → vals (trees_of ts ns rs) ≡ some vs → values_in (flats rs) ≡ vs
  unfolding values_in flats trees_of
  values_in_law rnil h vs e = some-injective [] vs e
  values_in_law (rcons r rs) (whole_more w ws) vs e = cons_some (view (tree_of ts ns r)) (vals (trees_of ts ns rs)) vs e
      (λ v l p q z. lit_flat r w v p (λ y u. ap (λ (x : List ℕ). values_in (x ++ flats rs)) u ∙ ap (λ (x : List ℕ). v ∷ x) (values_in_law rs ws l q) ∙ z))

  pub pairs_in : {d : ℕ} (rs : Ress) → Wholes ts ns d rs → (l vs : List ℕ) → length l ≡ 2 * count_res rs → vals (trees_of ts ns rs) ≡ some vs → entries_of (pairs_of l (flats rs)) ≡ zipped l vs
  unfolding pairs_of flats trees_of
  pairs_in rnil h [] vs c e = refl
  pairs_in rnil h (t ∷ []) vs c e = absurd (omega (arith, c))
  pairs_in rnil h (t ∷ n ∷ l) vs c e = absurd (omega (arith, c))
  pairs_in (rcons r rs) h [] vs c e = absurd (omega (arith, c))
  pairs_in (rcons r rs) h (t ∷ []) vs c e = absurd (omega (arith, c))
  pairs_in (rcons r rs) (whole_more w ws) (t ∷ n ∷ l) vs c e = cons_some (view (tree_of ts ns r)) (vals (trees_of ts ns rs)) vs e
      (λ v k p q z. lit_flat r w v p (λ y u. ap (λ (x : List ℕ). entries_of (pairs_of (t ∷ n ∷ l) (x ++ flats rs))) u ∙ ap (λ (x : Entries). entry t v x) (pairs_in rs ws l k (omega (arith, c)) q) ∙ ap (zipped (t ∷ n ∷ l)) z))

pairs_short : (l rows : List ℕ) → length (pairs_of l rows) ≤ length l
unfolding pairs_of
pairs_short [] rows = omega arith
pairs_short (t ∷ []) rows = omega arith
pairs_short (t ∷ n ∷ l) [] = omega arith
pairs_short (t ∷ n ∷ l) (a ∷ []) = omega arith
pairs_short (t ∷ n ∷ l) (a ∷ b ∷ []) = omega arith
pairs_short (t ∷ n ∷ l) (a ∷ b ∷ c ∷ []) = omega arith
pairs_short (t ∷ n ∷ l) (a ∷ b ∷ c ∷ d ∷ rows) = let h = pairs_short l rows in omega (arith, h)

insert_short : (m : ℕ) (l : List ℕ) → length (insert_n m l) ≤ suc (length l)
insert_short m [] = omega arith
insert_short m (n ∷ l) = go (compare m n) (insert_short m l)
  where
    go : (o : Ordering) → length (insert_n m l) ≤ suc (length l) → length (place_n o m n l (insert_n m l)) ≤ suc (suc (length l))
    go Ordering.lt h = omega arith
    go Ordering.eq h = omega arith
    go Ordering.gt h = omega (arith, h)

pub sort_short : (l : List ℕ) → length (sort_n l) ≤ length l
sort_short [] = omega arith
sort_short (n ∷ l) = let a = insert_short n (sort_n l) in let b = sort_short l in omega (arith, a, b)

pub drop_two : (r : List ℕ) → drop 2 r ≡ drop 1 (items r)
drop_two [] = refl
drop_two (t ∷ l) = refl

module _ (m : Mode) (sheet a₀ : List ℕ) (P : List Row → Type 0) {d n count : ℕ} {a l : List ℕ} {t : Results} {k : Kids} (h : Are m sheet a₀ P d n a l t all_values count k) (c : ℕ) (r : List ℕ) (typed : at r 0 < length (tys sheet a₀)) (room : Room (suc n) a l) where
  abbrev T : Ty
  T = ty sheet a₀ (at r 0)

  cut : take (length l) k.log ≡ l
  cut = cut_back l (flats h.ress) k.log h.log

  blocks : drop (length l) k.log ≡ flats h.ress
  blocks = ap (drop (length l)) h.log ∙ drop-append_seam l (flats h.ress)

  spent : Spent (suc n) a k.words
  spent = record { top = omega (arith, h.top); few = omega (arith, h.few) }

  many_made : (q : List ℕ) → Formed q → length q ≤ 1 + 2 * count → Is sheet a₀ (suc d) (suc n) a l (make T (value_row q) t.rows) (made_of k.words (take (length l) k.log) (at r 0) (written k.log q))
  many_made q f s =
      rw (cut, ← h.rows, written_is k.log q (omega (arith, room.log, ap length h.log, length-append l (flats h.ress), h.short, h.many, s)))
      (make_is sheet a₀ d (suc n) (omega arith) a l k.words room h.hold (1 + 2 * count) (record { top = omega (arith, h.top); few = omega (arith, h.few) }) q f s (at r 0) typed)

  many_err : Is sheet a₀ (suc d) (suc n) a l (out t.rows (err T)) (err_of k.words (take (length l) k.log) (at r 0))
  many_err = rw (cut, ← h.rows) (err_is sheet a₀ d (suc n) (omega arith) a l k.words room h.hold spent (at r 0) typed)

  module _ (su : suits (get_or (nodes sheet a₀) c []) count ≡ true) (keep : Node ℕ) (e : left_tree (get_or (nodes sheet a₀) c []) 0 T t.trees ≡ keep) where
    many_left : Is sheet a₀ (suc d) (suc n) a l (out t.rows keep) (left_of k.words k.log (length l) c 0 (at r 0))
    many_left =
        rw (← h.rows)
        (left_is sheet a₀ d (suc n) (omega arith) a l k.words room h.hold spent k.log h.ress h.log (omega (arith, h.short)) h.wholes c 0 (at r 0) typed (ap (suits (get_or (nodes sheet a₀) c [])) h.counted ∙ su) keep
        (ap (left_tree (get_or (nodes sheet a₀) c []) 0 T) h.trees ∙ e))

    -- where not all are values
    many_other : (q : List ℕ) (b : Bool) → Is sheet a₀ (suc d) (suc n) a l (out t.rows (cond b (err T) keep)) (many_of q k.words k.log (length l) c (at r 0) (cond b some_error some_open))
    unfolding many_of
    many_other q true = many_err
    many_other q false = many_left

  own_vals : (vs : List ℕ) → vals t.trees ≡ some vs → vals (trees_of (tys sheet a₀) (nodes sheet a₀) h.ress) ≡ some vs
  own_vals vs e = ap vals h.trees ∙ e

  count_is : length t.trees ≡ count
  count_is = sym (ap length h.trees) ∙ trees_count (tys sheet a₀) (nodes sheet a₀) h.ress ∙ h.counted

  -- ---- sets

  module _ (su : suits (get_or (nodes sheet a₀) c []) count ≡ true) (e : left_tree (get_or (nodes sheet a₀) c []) 0 T t.trees ≡ set T (nodes_of t.trees)) where
    set_go : (o : Option (List ℕ)) → vals t.trees ≡ o
        → Is sheet a₀ (suc d) (suc n) a l (on_some (out t.rows (cond (bad t.trees) (err T) (set T (nodes_of t.trees)))) o (λ vs. make T (rset (sort_n vs)) t.rows))
        (many_of (set_row (flats h.ress)) k.words k.log (length l) c (at r 0) (on_some (cond (bad t.trees) 1 2) o (λ vs. all_values)))
    unfolding many_of set_row
    set_go none p = many_other su (set T (nodes_of t.trees)) e (set_row (flats h.ress)) (bad t.trees)
    set_go (some vs) p =
        let z : values_in (flats h.ress) ≡ vs = values_in_law (tys sheet a₀) (nodes sheet a₀) h.ress h.wholes vs (own_vals vs p) in
        is_as sheet a₀
        (many_made (SET_VALUE ∷ sort_n (values_in (flats h.ress))) (formed_set (flats h.ress))
        (omega (arith, sort_short (values_in (flats h.ress)), ap length z, vals_length t.trees vs p, count_is)))
        (ap (λ (x : List ℕ). make T (rset (sort_n x)) t.rows) z)

    pub set_is : Is sheet a₀ (suc d) (suc n) a l
        (on_some (out t.rows (cond (any_error (nodes_of t.trees)) (err T) (set T (nodes_of t.trees)))) (numbers (nodes_of t.trees)) (λ vs. make T (rset (sort_n vs)) t.rows))
        (set_of m sheet (length l) c r k)
    unfolding set_of
    set_is = rw (any_error_law t.trees, numbers_are t.trees, blocks, h.join, join_none t.trees) (set_go (vals t.trees) refl)

  -- ---- records, with the texts of the row

  module _ (su : suits (get_or (nodes sheet a₀) c []) count ≡ true) (even : length (drop 1 (items r)) ≡ 2 * count)
      (e : left_tree (get_or (nodes sheet a₀) c []) 0 T t.trees ≡ rec T (args_of (drop 1 (items r)) t.trees)) where
    abbrev texts : List ℕ
    texts = drop 1 (items r)

    texts_even : length texts ≡ 2 * length t.trees
    texts_even = omega (arith, even, count_is)

    rec_go : (o : Option (List ℕ)) → vals t.trees ≡ o
        → Is sheet a₀ (suc d) (suc n) a l (on_some (out t.rows (cond (bad t.trees) (err T) (rec T (args_of texts t.trees)))) (zipped_if texts o) (λ x. make T (rrec x) t.rows))
        (many_of (record_row r (flats h.ress)) k.words k.log (length l) c (at r 0) (on_some (cond (bad t.trees) 1 2) o (λ vs. all_values)))
    unfolding many_of record_row
    rec_go none p = many_other su (rec T (args_of texts t.trees)) e (record_row r (flats h.ress)) (bad t.trees)
    rec_go (some vs) p =
        let z : entries_of (pairs_of (drop 2 r) (flats h.ress)) ≡ zipped texts vs =
        ap (λ (x : List ℕ). entries_of (pairs_of x (flats h.ress))) (drop_two r) ∙ pairs_in (tys sheet a₀) (nodes sheet a₀) h.ress h.wholes texts vs (even ∙ ap (λ (x : ℕ). 2 * x) (sym h.counted)) (own_vals vs p) in
        is_as sheet a₀
        (many_made (RECORD_VALUE ∷ pairs_of (drop 2 r) (flats h.ress)) (formed_record r (flats h.ress))
        (omega (arith, pairs_short (drop 2 r) (flats h.ress), ap length (drop_two r), even)))
        (ap (λ (x : Entries). make T (rrec x) t.rows) z)

    pub rec_is : Is sheet a₀ (suc d) (suc n) a l
        (on_some (out t.rows (cond (any_error_arg (args_of texts t.trees)) (err T) (rec T (args_of texts t.trees)))) (entries (args_of texts t.trees)) (λ x. make T (rrec x) t.rows))
        (rec_of m sheet (length l) c r k)
    unfolding rec_of
    rec_is = rw (any_arg texts t.trees texts_even, entries_are texts t.trees texts_even, blocks, h.join, join_none t.trees) (rec_go (vals t.trees) refl)

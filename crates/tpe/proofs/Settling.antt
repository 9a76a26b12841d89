-- What a node leaves of its worked operands: the laws of `settle`, `var` and `many`. Assumes nothing.
use mathlib.Core.Path.{◌≡◌, refl, sym, ap, ◌∙◌}
use mathlib.Core.Bool.{Bool}
use mathlib.Core.List.{List, [], ◌∷◌}
use Prim.Native.Nat.{ℕ, zero, suc, ◌-◌, ◌≤◌, ◌<◌}
use native.Mathlib.Omega.{arith}
use borrow.Author.Tests.{eq-eqb, ne_eqb}
use lib.ListN.{get_or, take, drop, length}
use lib.IntN.{ℤ, pos, negsuc}
use lib.Seq.{take-nil, drop-nil}
use Rattle.cedar.specs.Rows.{rlong}
use Rattle.cedar.specs.Types.{context}
use Rattle.forms.specs.Tags.{SET_OF, RECORD_OF, PART_P, PART_A, PART_R}
use Rattle.sheet.specs.Bytes.{long_at}
use Rattle.sheet.specs.Forms.{partial, at, mark, PRINCIPAL, ACTION, RESOURCE, CONTEXT, NODE}
use Rattle.sheet.specs.Content.{var_of, entity_given, n_env}
use Rattle.sheet.proofs.content.ValueRows.{back}
use Rattle.words.specs.Log.{part, Appended, Room}
use Rattle.words.proofs.Logs.{append_holds, holds_from, log_cut, log_length}
use Rattle.table.specs.Layout.{rows_of, held, lines_held}
use Rattle.value.specs.Made.{bool_row, long_row, entity_row, set_row, record_row, written, Made, MadeBeside}
use Rattle.value.proofs.Interned.{long_row_law, formed_long}
use Rattle.residual.specs.Rows.{lit_row, err_row, left_row}
use Rattle.strict.specs.Gives.{out_of}
use Rattle.strict.specs.declared.Given.{Given}
use Rattle.strict.specs.declared.Given.TheVariants.{Bool as Boolᵍ, Long, Old, Fails, Stays}
use Rattle.tpe.specs.Run.{Kids, lit_of, err_of, left_of, made_of, words_of, give_of, settle_of, var_for, env_in, many_of, set_of, rec_of}
use Rattle.tpe.specs.Leaves.{Leaves}
use Rattle.tpe.specs.Joins.{join_in, join_at}
use Rattle.tpe.specs.declared.steps.Joined.{Joined}
use Rattle.tpe.specs.declared.steps.Joined.TheVariants.{Values, Error, Open}
use Rattle.tpe.specs.Steps.{many_at}
use Rattle.tpe.specs.Gives.{context_given, many_row}
use Rattle.tpe.proofs.Ways.{made_pushed}

-- ---- a row more

module _ (a b b' : List ℕ) (start bt e y : ℕ) (room : Room b bt) (le : start ≤ bt) where
  low_room : Room b start
  low_room = record { low = omega (arith, room.low); long = room.long }

  pub value_put : (v : ℕ) → Appended b start (lit_row v y) b' e → Leaves start a b' e (lit_of a (take start (take bt b)) y v)
  unfolding lit_of
  value_put v p = rw (log_cut b bt start le) (record { words = refl; log = append_holds low_room p })

  pub error_put : Appended b start (err_row y) b' e → Leaves start a b' e (err_of a (take start (take bt b)) y)
  unfolding err_of
  error_put p = rw (log_cut b bt start le) (record { words = refl; log = append_holds low_room p })

  pub left_put : (n k : ℕ) → Appended b bt (left_row n k (bt - start) y) b' e → Leaves start a b' e (left_of a (take bt b) start n k y)
  unfolding left_of
  left_put n k p = rw (log_length b bt room) (record { words = refl; log = holds_from (append_holds room p) le })

-- ---- `settle`

same_back : (z : ℤ) → words_of (rlong z) ≡ back (rlong z)
same_back (pos n) = refl
same_back (negsuc n) = refl

pub long_words : (w : ℕ) → words_of (rlong (long_at w)) ≡ long_row w
long_words w = same_back (long_at w) ∙ ap back (sym (long_row_law w)) ∙ formed_long w

module _ (a b b' : List ℕ) (start bt e n y : ℕ) (g : Given) (room : Room b bt) (le : start ≤ bt) where
  pub settle_bool : (a' : List ℕ) (x : Bool) → g ≡ Boolᵍ x → Leaves start a' b' e (made_of a (take start b) y (bool_row x)) → Leaves start a' b' e (settle_of a (take bt b) start n y (out_of g))
  unfolding settle_of give_of
  settle_bool a' x q h = rw (q, log_cut b bt start le) h

  pub settle_long : (a' : List ℕ) (w : ℕ) → g ≡ Long w → Leaves start a' b' e (made_of a (take start b) y (long_row w)) → Leaves start a' b' e (settle_of a (take bt b) start n y (out_of g))
  unfolding settle_of give_of
  settle_long a' w q h = rw (q, long_words w, log_cut b bt start le) h

  pub settle_old : (v : ℕ) → g ≡ Old v → Appended b start (lit_row v y) b' e → Leaves start a b' e (settle_of a (take bt b) start n y (out_of g))
  unfolding settle_of give_of
  settle_old v q p = rw q (value_put a b b' start bt e y room le v p)

  pub settle_fails : g ≡ Fails → Appended b start (err_row y) b' e → Leaves start a b' e (settle_of a (take bt b) start n y (out_of g))
  unfolding settle_of
  settle_fails q p = rw q (error_put a b b' start bt e y room le p)

  pub settle_stays : g ≡ Stays → Appended b bt (left_row n 0 (bt - start) y) b' e → Leaves start a b' e (settle_of a (take bt b) start n y (out_of g))
  unfolding settle_of
  settle_stays q p = rw q (left_put a b b' start bt e y room le n 0 p)

-- ---- `var`

module _ (a b b' : List ℕ) (bt e n y : ℕ) (room : Room b bt) where
  stays_put : Appended b bt (left_row n 0 (bt - bt) y) b' e → Leaves bt a b' e (left_of a (take bt b) (length (take bt b)) n 0 y)
  unfolding left_of
  stays_put p = rw (log_length b bt room) (record { words = refl; log = append_holds room p })

  module _ (k t : ℕ) (r : List ℕ) (er : r ≡ get_or (rows_of a k) 0 []) (et : t ≡ get_or r 2 0) where
    pub entity_unknown : t ≡ mark → Appended b bt (left_row n 0 (bt - bt) y) b' e → Leaves bt a b' e (var_for partial [] a (take bt b) n y (entity_given (get_or (rows_of a k) 0 [])))
    unfolding var_for
    entity_unknown h p = rw (← er, ← et, eq-eqb t mark h) (stays_put p)

    pub entity_known_law : (a' : List ℕ) (j v : ℕ) → (t ≡ mark → ⊥) → j ≡ get_or r 1 0 → Made a (entity_row j t) a' v → Appended b bt (lit_row v y) b' e
        → Leaves bt a' b' e (var_for partial [] a (take bt b) n y (entity_given (get_or (rows_of a k) 0 [])))
    unfolding var_for give_of
    entity_known_law a' j v h ej m p = rw (← er, ← et, ne_eqb t mark h, ← ej) (made_pushed a a' b b' (entity_row j t) bt e y v room m p)

  module _ (t : ℕ) (r : List ℕ) (er : r ≡ get_or (rows_of a CONTEXT) 0 []) (et : t ≡ get_or r 2 0) where
    pub context_unknown : t ≡ mark → Appended b bt (left_row n 0 (bt - bt) y) b' e → Leaves bt a b' e (var_for partial [] a (take bt b) n y (context_given (get_or (rows_of a CONTEXT) 0 [])))
    unfolding var_for
    context_unknown h p = rw (← er, ← et, eq-eqb t mark h) (stays_put p)

    pub context_known : (t ≡ mark → ⊥) → Appended b bt (lit_row t y) b' e → Leaves bt a b' e (var_for partial [] a (take bt b) n y (context_given (get_or (rows_of a CONTEXT) 0 [])))
    unfolding var_for give_of lit_of
    context_known h p = rw (← er, ← et, ne_eqb t mark h) (record { words = refl; log = append_holds room p })

module _ (a a' b b' : List ℕ) (bt e n y x : ℕ) where
  pub var_principal : x ≡ PART_P → Leaves bt a' b' e (var_for partial [] a (take bt b) n y (entity_given (get_or (rows_of a PRINCIPAL) 0 []))) → Leaves bt a' b' e (var_for partial [] a (take bt b) n y ((env_in partial [] a).request (var_of x)))
  unfolding env_in n_env held lines_held
  var_principal q h = rw q h

  pub var_action : x ≡ PART_A → Leaves bt a' b' e (var_for partial [] a (take bt b) n y (entity_given (get_or (rows_of a ACTION) 0 []))) → Leaves bt a' b' e (var_for partial [] a (take bt b) n y ((env_in partial [] a).request (var_of x)))
  unfolding env_in n_env held lines_held
  var_action q h = rw q h

  pub var_resource : x ≡ PART_R → Leaves bt a' b' e (var_for partial [] a (take bt b) n y (entity_given (get_or (rows_of a RESOURCE) 0 []))) → Leaves bt a' b' e (var_for partial [] a (take bt b) n y ((env_in partial [] a).request (var_of x)))
  unfolding env_in n_env held lines_held
  var_resource q h = rw q h

pub var_last : (x : ℕ) → (x ≡ PART_P → ⊥) → (x ≡ PART_A → ⊥) → (x ≡ PART_R → ⊥) → var_of x ≡ context
var_last zero i j k = absurd (i refl)
var_last (suc zero) i j k = absurd (j refl)
var_last (suc (suc zero)) i j k = absurd (k refl)
var_last (suc (suc (suc zero))) i j k = refl
var_last (suc (suc (suc (suc x)))) i j k = refl

pub var_context : (a b b' : List ℕ) (bt e n y x : ℕ) → (x ≡ PART_P → ⊥) → (x ≡ PART_A → ⊥) → (x ≡ PART_R → ⊥) → Leaves bt a b' e (var_for partial [] a (take bt b) n y (context_given (get_or (rows_of a CONTEXT) 0 [])))
    → Leaves bt a b' e (var_for partial [] a (take bt b) n y ((env_in partial [] a).request (var_of x)))
unfolding env_in n_env held lines_held
var_context a b b' bt e n y x i j k h = rw (var_last x i j k) h

-- ---- `many`

module _ (a a' b b' : List ℕ) (start bt n v t : ℕ) where
  pub row_set : t ≤ SET_OF → MadeBeside a a' v bt b b' (set_row (part b start bt)) → MadeBeside a a' v bt b b' (many_row t (get_or (rows_of a NODE) n []) (part b start bt))
  unfolding many_row
  row_set h m = let z : t - SET_OF ≡ 0 = omega arith in rw z m

  pub row_record : SET_OF < t → MadeBeside a a' v bt b b' (record_row (get_or (rows_of a NODE) n []) (part b start bt)) → MadeBeside a a' v bt b b' (many_row t (get_or (rows_of a NODE) n []) (part b start bt))
  unfolding many_row
  row_record h m = let z : t - SET_OF ≡ suc (t - RECORD_OF) = omega arith in rw z m

many_at_law : (j : ℕ) (r : List ℕ) (start n : ℕ) (k : Kids) → get_or (set_of partial [] ∷ []) j (rec_of partial []) start n r k
    ≡ many_of (get_or (set_row (drop start k.log) ∷ []) j (record_row r (drop start k.log))) k.words k.log start n (at r 0) k.join
unfolding set_of rec_of
many_at_law zero r start n k = refl
many_at_law (suc j) r start n k = refl

many_is : (t : ℕ) (r : List ℕ) (start n : ℕ) (k : Kids) → many_at partial [] t start n r k ≡ many_of (many_row t r (drop start k.log)) k.words k.log start n (at r 0) k.join
unfolding many_at many_row
many_is t r start n k = many_at_law (t - SET_OF) r start n k

-- a number above the first two says what some_open does
many_read : (q a l : List ℕ) (start n y c : ℕ) → many_of q a l start n y (join_at c) ≡ many_of q a l start n y c
unfolding many_of
many_read q a l start n y zero = refl
many_read q a l start n y (suc zero) = refl
many_read q a l start n y (suc (suc c)) = refl

pub many_numbered : (t : ℕ) (r : List ℕ) (start n : ℕ) (a l : List ℕ) (j c : ℕ) → j ≡ join_at c
    → many_at partial [] t start n r (record { words = a; log = l; join = j }) ≡ many_at partial [] t start n r (record { words = a; log = l; join = c })
many_numbered t r start n a l j c e =
    many_is t r start n (record { words = a; log = l; join = j })
    ∙ ap (many_of (many_row t r (drop start l)) a l start n (at r 0)) e
    ∙ many_read (many_row t r (drop start l)) a l start n (at r 0) c
    ∙ sym (many_is t r start n (record { words = a; log = l; join = c }))

drop_log : (b : List ℕ) (start bt : ℕ) → drop start (take bt b) ≡ part b start bt
drop_log b start zero = let z : 0 - start ≡ 0 = omega arith in drop-nil start ∙ rw z
drop_log b zero (suc bt) = let z : suc bt - 0 ≡ suc bt = omega arith in rw z
drop_log [] (suc start) (suc bt) = sym (take-nil (suc bt - suc start))
drop_log (x ∷ b) (suc start) (suc bt) = let z : suc bt - suc start ≡ bt - start = omega arith in rw z (drop_log b start bt)

module _ (a b : List ℕ) (start bt n t y : ℕ) (j : Joined) (room : Room b bt) (le : start ≤ bt) (ey : y ≡ at (get_or (rows_of a NODE) n []) 0) where
  abbrev r : List ℕ
  r = get_or (rows_of a NODE) n []

  abbrev Left : List ℕ → List ℕ → ℕ → Type 0
  Left a' b' e = Leaves start a' b' e (many_at partial [] t start n (get_or (rows_of a NODE) n []) (record { words = a; log = take bt b; join = join_in j }))

  as_many : (a' b' : List ℕ) (e : ℕ) → Leaves start a' b' e (many_of (many_row t r (drop start (take bt b))) a (take bt b) start n y (join_in j)) → Left a' b' e
  as_many a' b' e h = rw (many_is t r start n (record { words = a; log = take bt b; join = join_in j }), ← ey) h

  pub many_made : (a' b₁ b' : List ℕ) (e v : ℕ) → j ≡ Values → length b₁ ≡ length b → MadeBeside a a' v bt b b₁ (many_row t (get_or (rows_of a NODE) n []) (part b start bt)) → Appended b₁ start (lit_row v y) b' e → Left a' b' e
  unfolding many_of
  many_made a' b₁ b' e v z el m p =
      let low : Room b₁ start = record { low = omega (arith, room.low); long = omega (arith, room.long) } in
      let cut : take start (take bt b) ≡ take start b₁ = ap (take start) (sym m.log) ∙ log_cut b₁ bt start le in
      as_many a' b' e (rw (z, drop_log b start bt, cut) (made_pushed a a' b₁ b' (written (take bt b) (many_row t (get_or (rows_of a NODE) n []) (part b start bt))) start e y v low m.made p))

  pub many_error : (b' : List ℕ) (e : ℕ) → j ≡ Error → Appended b start (err_row y) b' e → Left a b' e
  unfolding many_of
  many_error b' e z p = as_many a b' e (rw z (error_put a b b' start bt e y room le p))

  pub many_open : (b' : List ℕ) (e : ℕ) → j ≡ Open → Appended b bt (left_row n 0 (bt - start) y) b' e → Left a b' e
  unfolding many_of
  many_open b' e z p = as_many a b' e (rw z (left_put a b b' start bt e y room le n 0 p))

-- What a node over its yields gives is what `eval` gives its tree: the values grow by at most one, and the number yielded stands for the
-- content. The words a₀ hold the complete sheet at the start. Assumes nothing.
use mathlib.Core.Path.{◌≡◌, refl, sym, ◌∙◌, ap, subst}
use mathlib.Core.Bool.{Bool, true, false, cond}
use mathlib.Core.Option.{Option, none, some}
use mathlib.Core.List.{List, []}
use Prim.Native.Nat.{ℕ, ◌+◌, ◌≤◌}
use native.Mathlib.Omega.{arith}
use borrow.Author.Tests.{lt-ltb, le-leb}
use lib.ListN.{length, get_or}
use Rattle.std.specs.Prelude.{Ok}
use Rattle.cedar.specs.Types.{Var}
use Rattle.cedar.specs.Value.{Value as Content, vbool, Result, ok, fail, bind, ok_bool}
use Rattle.cedar.specs.Entities.{Env}
use Rattle.cedar.specs.Evaluate.{bool_of}
use Rattle.cedar.specs.Interpret.{gives}
use Rattle.cedar.specs.Rows.{Row}
use Rattle.cedar.specs.Table.{At, Denotes, dbool, dlong, dtext, dent, dset, drec, Table}
use Rattle.cedar.specs.Numbered.{Give, made, NOut, r_bool}
use Rattle.cedar.specs.Reads.{GiveRead, give_made, give_old}
use Rattle.cedar.proofs.MakingLaws.{intern_makes}
use Rattle.cedar.proofs.ReadsLaws.{Keeps, OutReads, omade, oold, ofail, row_denotes}
use Rattle.cedar.proofs.ReadsOps.{keep_env}
use Rattle.sheet.specs.Forms.{complete}
use Rattle.sheet.specs.State.{State, value_row}
use Rattle.sheet.specs.Content.{n_env, given}
use Rattle.table.specs.Layout.{held, MADE, TOP, heap}
use Rattle.value.specs.Made.{room_for, with_value}
use Rattle.value.proofs.Interned.{Formed, made_is, Interning}
use Rattle.tpe.specs.Run.{words_of}
use Rattle.tpe.proofs.Outcomes.{Fine, words_row, words_formed, words_short}
use Rattle.tpe.proofs.Reach.{reach, asks, reach_most, reach_asked}
use Rattle.tpe.proofs.Stands.{same_sheet, env_is}
use Rattle.evaluator.specs.Run.{failed, Yield, E, yields, made_of, give_of, settle_of, opt_of, on_yield, bool_only, next, env_of}
use Rattle.evaluator.specs.Gave.{as_bool, yield_bool, same_bool}
use Rattle.evaluator.proofs.Gives.{Says, says_value, says_error, Stand}
use Rattle.evaluator.proofs.Steps.{OptFine, request_fine}
use Rattle.yielding.specs.Yields.{lazy_by, lazy_of, branch_by, branch_of}

module _ (sheet a₀ : List ℕ) (G : Env) where
  -- from words a with contents C, o yields r and takes at most w words and c values
  pub record Gets (C : List Content) (w c : ℕ) (a : List ℕ) (o : E) (r : Result) : Type 0 where
    pub contents : List Content
    pub keeps : Keeps C contents
    pub stand : Stand sheet a₀ G contents o.words
    pub says : Says contents o.yield r
    pub top : reach o.words ≤ reach a + w
    pub few : get_or o.words MADE 0 ≤ get_or a MADE 0 + c

  -- room for a value of w words
  pub record Space (w : ℕ) (a : List ℕ) : Type 0 where
    pub top : reach a + w ≤ 16384
    pub few : get_or a MADE 0 + 1 ≤ 1024

  module _ (C : List Content) (a : List ℕ) (s : Stand sheet a₀ G C a) where
    -- nothing is made
    pub gets_as : (w c : ℕ) (y : Yield) (r : Result) → Says C y r → Gets C w c a (yields a y) r
    gets_as w c y r h = record { contents = C; keeps = λ n v e. e; stand = s; says = h; top = omega arith; few = omega arith }

    pub gets_error : (w c : ℕ) → Gets C w c a (yields a failed) fail
    gets_error w c = gets_as w c failed fail says_error

    module _ (q : List ℕ) (f : Formed q) where
      room_for_law : (w : ℕ) → Space w a → length q ≤ w → room_for a (length q) ≡ true
      unfolding room_for
      room_for_law w space sh = rw (lt-ltb (get_or a MADE 0) 1024 (omega (arith, space.few)), le-leb heap (get_or a TOP 0) s.hold.sound.over, le-leb (get_or a TOP 0 + length q) 16384 (omega (arith, space.top, sh))) refl

      made_by : (w u : ℕ) → Interning a q → {x : Content} → Denotes C (value_row q) x → reach (with_value a q) ≤ reach a + u → Gets C u 1 a (made_of a q) (ok x)
      unfolding made_of
      made_by w u i {x} d t =
          let m = intern_makes s.table d in
          record {
            contents = m.contents;
            keeps = m.keeps;
            stand = record {
              hold = record { sound = i.kept.sound; formed = i.formed; same = λ k lt. i.kept.others k lt ∙ s.hold.same k lt; single = s.hold.single };
              table = subst (λ (R : List Row). Table R m.contents) (sym i.rows) m.table;
              env = keep_env m.keeps s.env;
            };
            says = says_value (subst (λ (k : ℕ). At m.contents k x) (sym i.number) m.at);
            top = t;
            few = let z = i.kept.few in omega (arith, z);
          }

      pub gets_made : (w : ℕ) → Space w a → length q ≤ w → {x : Content} → Denotes C (value_row q) x → Gets C w 1 a (made_of a q) (ok x)
      gets_made w space sh d =
          let i = made_is a q s.hold.sound s.hold.formed f (room_for_law w space sh) in
          made_by w w i d (omega (arith, reach_most a q i, sh))

      gets_asked : Space 3 a → length q ≤ 3 → (x : Var) → (asks a).request x ≡ some (made (value_row q)) → {c : Content} → Denotes C (value_row q) c → Gets C 0 1 a (made_of a q) (ok c)
      gets_asked space sh x e d =
          let i = made_is a q s.hold.sound s.hold.formed f (room_for_law 3 space sh) in
          made_by 3 0 i d (let r = reach_asked a q i s.hold.formed f sh x e in omega (arith, r))

    -- what an operation gives
    pub gets_settled : Space 3 a → {x : NOut} {y : Result} → OutReads C x (gives y) → Fine x → Gets C 3 1 a (settle_of a x) y
    unfolding settle_of give_of
    gets_settled space (omade {r = r} {v = v} d) f = gets_made (words_of r) (words_formed r f) 3 space (words_short r f) (subst (λ (q : Row). Denotes C q v) (sym (words_row r f)) d)
    gets_settled space (oold {n = n} h) f = gets_as 3 1 (Ok n) _ (says_value h)
    gets_settled space ofail f = gets_error 3 1

    -- a part of the request
    asked_as : (x : Var) → (asks a).request x ≡ (n_env complete (held [] a₀ [])).request x
    unfolding n_env
    asked_as x = ap (λ (t : State). given t x) (same_sheet [] a₀ a s.hold)

    opt_gets : Space 3 a → {o : Option Give} {v : Content} (x : Var) → (asks a).request x ≡ o → GiveRead C o (some v) → OptFine o → Gets C 0 1 a (opt_of a o) (ok v)
    unfolding opt_of give_of
    opt_gets space x e (give_made {r = r} {v = v} d) f =
        gets_asked (words_of r) (words_formed r f) space (words_short r f) x (e ∙ ap (λ (z : Row). some (made z)) (sym (words_row r f))) (subst (λ (q : Row). Denotes C q v) (sym (words_row r f)) d)
    opt_gets space x e (give_old {n = n} h) f = gets_as 0 1 (Ok n) _ (says_value h)

    pub gets_request : Space 3 a → (x : Var) → Gets C 0 1 a (opt_of a ((env_of a).request x)) (ok (G.request x))
    gets_request space x = rw (env_is complete [] a₀ a s.hold) (opt_gets space x (asked_as x) (s.env.request x) (request_fine (held [] a₀ []) x))

    -- ---- over yields

    pub gets_one : (g : ℕ → NOut) (h : Content → Result) {y : Yield} {r : Result} → Space 3 a → Says C y r → ((v : ℕ) (z : Content) → At C v z → OutReads C (g v) (gives (h z))) → ((v : ℕ) → Fine (g v))
        → Gets C 3 1 a (on_yield a y (λ v. settle_of a (g v))) (bind r h)
    unfolding on_yield
    gets_one g h space (says_value {n = v} {v = z} e) reads fine = gets_settled space (reads v z e) (fine v)
    gets_one g h space says_error reads fine = gets_error 3 1

    pub gets_two : (g : ℕ → ℕ → NOut) (h : Content → Content → Result) {y u : Yield} {r t : Result} → Space 3 a → Says C y r → Says C u t
        → ((v w : ℕ) (z x : Content) → At C v z → At C w x → OutReads C (g v w) (gives (h z x))) → ((v w : ℕ) → Fine (g v w))
        → Gets C 3 1 a (on_yield a y (λ v. on_yield a u (λ w. settle_of a (g v w)))) (bind r (λ z. bind t (λ x. h z x)))
    unfolding on_yield
    gets_two g h space (says_value {n = v} {v = z} e) (says_value {n = w} {v = x} e₂) reads fine = gets_settled space (reads v w z x e e₂) (fine v w)
    gets_two g h space (says_value {n = v} {v = z} e) says_error reads fine = gets_error 3 1
    gets_two g h space says_error k reads fine = gets_error 3 1

    -- ---- a yield as a bool

    -- what a yield says as a bool, and the result
    data Truly : Option Bool → Yield → Result → Type 0 where
      truly_is : {v : ℕ} {b : Bool} → At C v (vbool b) → Truly (some b) (Ok v) (ok_bool b)
      truly_not : {y : Yield} {r : Result} → ((h : Bool → Result) → bool_of r h ≡ fail) → Truly none y r

    truly : {y : Yield} {r : Result} → Says C y r → Truly (yield_bool a y) y r
    unfolding yield_bool as_bool
    truly (says_value {n = n} {v = v} h) = go v h (row_denotes s.table h)
      where
        go : (x : Content) → At C n x → {q : Row} → Denotes C q x → Truly (as_bool q) (Ok n) (ok x)
        go x e dbool = truly_is e
        go x e dlong = truly_not (λ h. refl)
        go x e dtext = truly_not (λ h. refl)
        go x e dent = truly_not (λ h. refl)
        go x e (dset i j k) = truly_not (λ h. refl)
        go x e (drec i) = truly_not (λ h. refl)
    truly says_error = truly_not (λ h. refl)

    -- a bool is left as it is
    bool_says : {u : Yield} {t : Result} → Says C u t → Says C (bool_only (yields a u)).yield (bool_of t ok_bool)
    unfolding bool_only next on_yield
    bool_says (says_value {n = n} {v = v} h) = go v h (row_denotes s.table h)
      where
        go : (x : Content) → At C n x → {q : Row} → Denotes C q x → Says C (r_bool (yields a failed) q (λ b. yields a (Ok n))).yield (bool_of (ok x) ok_bool)
        go x e dbool = says_value e
        go x e dlong = says_error
        go x e dtext = says_error
        go x e dent = says_error
        go x e (dset i j k) = says_error
        go x e (drec i) = says_error
    bool_says says_error = says_error

    pub and_says : {y u : Yield} {r t : Result} → Says C y r → Says C u t → Says C (lazy_of false a y u) (bool_of r (λ b. cond b (bool_of t ok_bool) (ok_bool false)))
    unfolding lazy_of lazy_by same_bool
    and_says {y} {u} {r} {t} h k = go (truly h) h
      where
        go : {o : Option Bool} {y : Yield} {r : Result} → Truly o y r → Says C y r → Says C (lazy_by false a y u o) (bool_of r (λ b. cond b (bool_of t ok_bool) (ok_bool false)))
        go (truly_is {b = true} e) q = bool_says k
        go (truly_is {b = false} e) q = q
        go (truly_not e) q = rw (e (λ b. cond b (bool_of t ok_bool) (ok_bool false))) says_error

    pub or_says : {y u : Yield} {r t : Result} → Says C y r → Says C u t → Says C (lazy_of true a y u) (bool_of r (λ b. cond b (ok_bool true) (bool_of t ok_bool)))
    unfolding lazy_of lazy_by same_bool
    or_says {y} {u} {r} {t} h k = go (truly h) h
      where
        go : {o : Option Bool} {y : Yield} {r : Result} → Truly o y r → Says C y r → Says C (lazy_by true a y u o) (bool_of r (λ b. cond b (ok_bool true) (bool_of t ok_bool)))
        go (truly_is {b = true} e) q = q
        go (truly_is {b = false} e) q = bool_says k
        go (truly_not e) q = rw (e (λ b. cond b (ok_bool true) (bool_of t ok_bool))) says_error

    pub if_says : {y u w : Yield} {r t x : Result} → Says C y r → Says C u t → Says C w x → Says C (branch_of a y u w) (bool_of r (λ b. cond b t x))
    unfolding branch_of branch_by
    if_says {y} {u} {w} {r} {t} {x} h k j = go (truly h)
      where
        go : {o : Option Bool} {y : Yield} {r : Result} → Truly o y r → Says C (branch_by u w o) (bool_of r (λ b. cond b t x))
        go (truly_is {b = true} e) = k
        go (truly_is {b = false} e) = j
        go (truly_not e) = rw (e (λ b. cond b t x)) says_error

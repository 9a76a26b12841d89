-- What evaluation over words yields is what a result by content says: the values grow by those made, and the number yielded stands for
-- the content. The words a₀ hold the sheet at the start. Assumes nothing.
use mathlib.Core.Path.{◌≡◌, refl, sym, subst, ◌∙◌}
use mathlib.Core.Bool.{Bool, true, false}
use mathlib.Core.Option.{Option, none, some}
use mathlib.Core.List.{List, [], ◌∷◌}
use Prim.Native.Nat.{ℕ, suc, ◌+◌, ◌*◌, ◌≤◌}
use native.Mathlib.Omega.{arith}
use lib.ListN.{length, get_or}
use borrow.Author.Tests.{lt-ltb, le-leb}
use Rattle.std.specs.Prelude.{Ok, Err}
use Rattle.cedar.specs.Types.{Var}
use Rattle.cedar.specs.Value.{Value as Content, vbool, vlong, vtext, vent, vset, vrec, Result, ok, fail, bind, ok_bool, find, on_some}
use Rattle.cedar.specs.Residual.{Rel, rin, rgettag, rhastag}
use Rattle.cedar.specs.Entities.{Env, whole, entity, pentity}
use Rattle.cedar.specs.Evaluate.{bool_of, apply_rel, apply_get, apply_has, apply_path, targets, within}
use Rattle.cedar.specs.Interpret.{gives, rel_known, get_known, has_known, in_known}
use Rattle.cedar.specs.Rows.{Row}
use Rattle.cedar.specs.Table.{At, Denotes, dbool, dlong, dtext, dent, dset, drec, Table}
use Rattle.cedar.proofs.MakingLaws.{intern_makes}
use Rattle.cedar.specs.Numbered.{made, NEnv, row_at, r_bool, NOut, fails, stays, truly, is_some, entry_of, n_rel, n_get, n_has}
use Rattle.cedar.proofs.ReadsLaws.{OutReads, omade, oold, ofail, ostay, Keeps, row_denotes, on_bool_law}
use Rattle.cedar.proofs.ReadsOps.{EnvRead, keep_env, rel_reads, get_reads, has_reads, on_fields_law, OptAt, absent, there_at, entry_at}
use Rattle.cedar.proofs.Outcomes.{e_entries}
use Rattle.sheet.specs.Forms.{complete}
use Rattle.sheet.specs.State.{value_row}
use Rattle.sheet.specs.Content.{n_env}
use Rattle.table.specs.Layout.{held, MADE, TOP, heap}
use Rattle.value.specs.Made.{bool_row, room_for}
use Rattle.value.proofs.Interned.{Formed, made_is}
use Rattle.tpe.specs.Run.{words_of}
use Rattle.tpe.proofs.Outcomes.{words_row, words_formed, words_short, Fine}
use Rattle.tpe.proofs.Reach.{reach, asks, reach_asked}
use Rattle.tpe.proofs.Stands.{Hold, Room, Space, Spent, space_spent}
use Rattle.tpe.proofs.Stands as S
use Rattle.evaluator.specs.declared.EvalError.{EvalError}
use Rattle.evaluator.specs.Run.{Yield, failed, E, yields, values, made_of, give_of, settle_of, on_yield, next, on_bool, bool_only, path_out}
use Rattle.cedar.specs.Value as W
use Rattle.cedar.specs.Interpret as I

-- a yield by number and a result by content
pub data Says (C : List Content) : Yield → Result → Type 0 where
  says_value : {n : ℕ} {v : Content} → At C n v → Says C (Ok n) (ok v)
  says_error : {f : EvalError} → Says C (Err f) fail

module _ (sheet a₀ : List ℕ) (G : Env) where
  -- the words hold the sheet, its request and entities, and values of contents C
  pub record Stand (C : List Content) (a : List ℕ) : Type 0 where
    pub hold : Hold a₀ a
    pub table : Table (values a) C
    pub env : EnvRead C (n_env complete (held [] a₀ [])) (whole G)

  -- from words a with contents C, with the room of n nodes, o yields r
  pub record Gives (C : List Content) (n : ℕ) (a : List ℕ) (o : E) (r : Result) : Type 0 where
    pub contents : List Content
    pub keeps : Keeps C contents
    pub stand : Stand contents o.words
    pub says : Says contents o.yield r
    pub top : reach o.words + 2 ≤ reach a + 3 * n
    pub few : get_or o.words MADE 0 ≤ get_or a MADE 0 + n

  -- ---- over words a₁ of contents D, reached from a

  module _ (C D : List Content) (n : ℕ) (a l : List ℕ) (room : Room n a l) (one : 1 ≤ n) (a₁ : List ℕ) (keep : Keeps C D) (s : Stand D a₁) where
    pub is_value : Spent n a a₁ → {v : ℕ} {x : Content} → At D v x → Gives C n a (yields a₁ (Ok v)) (ok x)
    is_value p h = record { contents = D; keeps = keep; stand = s; says = says_value h; top = p.top; few = p.few }

    pub is_error_law : Spent n a a₁ → Gives C n a (yields a₁ failed) fail
    is_error_law p = record { contents = D; keeps = keep; stand = s; says = says_error; top = p.top; few = p.few }

    pub is_made : (w : ℕ) → Space w n a a₁ → (q : List ℕ) → Formed q → length q ≤ w → {x : Content} → Denotes D (value_row q) x → Gives C n a (made_of a₁ q) (ok x)
    unfolding made_of
    is_made w p q f sh {x} d =
        let i = S.made sheet a₀ 0 n one a l a₁ room s.hold w p q f sh in
        let m = intern_makes s.table d in
        record {
          contents = m.contents;
          keeps = λ k v h. m.keeps k v (keep k v h);
          stand = record {
            hold = S.made_hold sheet a₀ 0 n one a l a₁ room s.hold w p q f sh;
            table = subst (λ (R : List Row). Table R m.contents) (sym i.rows) m.table;
            env = keep_env m.keeps s.env;
          };
          says = says_value (subst (λ (k : ℕ). At m.contents k x) (sym i.number) m.at);
          top = S.made_top sheet a₀ 0 n one a l a₁ room s.hold w p q f sh;
          few = S.made_few sheet a₀ 0 n one a l a₁ room s.hold w p q f sh;
        }

    pub is_bool_law : Space 3 n a a₁ → (b : Bool) → Gives C n a (made_of a₁ (bool_row b)) (ok_bool b)
    is_bool_law p true = is_made 3 p (bool_row true) refl (omega arith) dbool
    is_bool_law p false = is_made 3 p (bool_row false) refl (omega arith) dbool

    pub settles : Space 3 n a a₁ → {x : NOut} {y : Result} → OutReads D x (gives y) → Fine x → Gives C n a (settle_of a₁ x) y
    unfolding settle_of give_of
    settles p (omade {r = r} {v = v} d) f = is_made 3 p (words_of r) (words_formed r f) (words_short r f) (subst (λ (q : Row). Denotes D q v) (sym (words_row r f)) d)
    settles p (oold h) f = is_value (space_spent 3 n a a₁ p) h
    settles p ofail f = is_error_law (space_spent 3 n a a₁ p)

  -- ---- a row that is asked, over the words a themselves

  module _ (C : List Content) (n : ℕ) (a l : List ℕ) (room : Room n a l) (one : 1 ≤ n) (s : Stand C a) where
    asked_room : (q : List ℕ) → length q ≤ 3 → room_for a (length q) ≡ true
    unfolding room_for
    asked_room q sh = rw (lt-ltb (get_or a MADE 0) 1024 (omega (arith, room.few, one)), le-leb heap (get_or a TOP 0) s.hold.sound.over, le-leb (get_or a TOP 0 + length q) 16384 (omega (arith, room.top, one, sh))) refl

    pub is_asked : (q : List ℕ) → Formed q → length q ≤ 3 → (x : Var) → (asks a).request x ≡ some (made (value_row q)) → {c : Content} → Denotes C (value_row q) c → Gives C n a (made_of a q) (ok c)
    unfolding made_of
    is_asked q f sh x e {c} d =
        let i = made_is a q s.hold.sound s.hold.formed f (asked_room q sh) in
        let m = intern_makes s.table d in
        record {
          contents = m.contents;
          keeps = m.keeps;
          stand = record {
            hold = record { sound = i.kept.sound; formed = i.formed; same = λ k lt. i.kept.others k lt ∙ s.hold.same k lt; single = s.hold.single };
            table = subst (λ (R : List Row). Table R m.contents) (sym i.rows) m.table;
            env = keep_env m.keeps s.env;
          };
          says = says_value (subst (λ (k : ℕ). At m.contents k c) (sym i.number) m.at);
          top = let r = reach_asked a q i s.hold.formed f sh x e in omega (arith, r, one);
          few = let w = i.kept.few in omega (arith, w, one);
        }

  -- ---- after a first part of p nodes

  abbrev pub after : {C : List Content} {p : ℕ} {a : List ℕ} {o : E} {r : Result} (k : Gives C p a o r) (q n : ℕ) {o₁ : E} {r₁ : Result} → Gives k.contents q o.words o₁ r₁ → p + q ≤ n → Gives C n a o₁ r₁
  after k q n m h = record {
    contents = m.contents;
    keeps = λ j v x. m.keeps j v (k.keeps j v x);
    stand = m.stand;
    says = m.says;
    top = omega (arith, k.top, m.top, h);
    few = omega (arith, k.few, m.few, h);
  }

  pub rest_room : {C : List Content} {p : ℕ} {a : List ℕ} {o : E} {r : Result} (k : Gives C p a o r) (q n : ℕ) (l : List ℕ) → Room n a l → p + q ≤ n → Room q o.words l
  rest_room k q n l room h = record { top = omega (arith, room.top, k.top, h); few = omega (arith, room.few, k.few, h); log = omega (arith, room.log, h) }

  pub some_room : (q n : ℕ) (a l : List ℕ) → Room n a l → q ≤ n → Room q a l
  some_room q n a l room h = record { top = omega (arith, room.top, h); few = omega (arith, room.few, h); log = omega (arith, room.log, h) }

  module _ {C : List Content} {p : ℕ} {a : List ℕ} {o : E} {r : Result} (k : Gives C p a o r) (n : ℕ) (l : List ℕ) (room : Room n a l) (one : 1 ≤ n) where
    spent : p ≤ n → Spent n a o.words
    spent h = record { top = omega (arith, k.top, h); few = omega (arith, k.few, h) }

    space : suc p ≤ n → Space 3 n a o.words
    space h = record { top = omega (arith, k.top, h); few = omega (arith, k.few, h) }

    pub then_error : p ≤ n → Gives C n a (yields o.words failed) fail
    then_error h = is_error_law C k.contents n a l room one o.words k.keeps k.stand (spent h)

    pub then_value : p ≤ n → {v : ℕ} {x : Content} → At k.contents v x → Gives C n a (yields o.words (Ok v)) (ok x)
    then_value h = is_value C k.contents n a l room one o.words k.keeps k.stand (spent h)

    pub then_bool : suc p ≤ n → (b : Bool) → Gives C n a (made_of o.words (bool_row b)) (ok_bool b)
    then_bool h = is_bool_law C k.contents n a l room one o.words k.keeps k.stand (space h)

    pub then_settles : suc p ≤ n → {x : NOut} {y : Result} → OutReads k.contents x (gives y) → Fine x → Gives C n a (settle_of o.words x) y
    then_settles h = is_settled (space h)
      where
        is_settled : Space 3 n a o.words → {x : NOut} {y : Result} → OutReads k.contents x (gives y) → Fine x → Gives C n a (settle_of o.words x) y
        is_settled q d f = settles C k.contents n a l room one o.words k.keeps k.stand q d f

    -- a value goes on
    on_yield_law : {y : Yield} {t : Result} → Says k.contents y t → (g : ℕ → E) (h : Content → Result) → p ≤ n
        → ((v : ℕ) (x : Content) → At k.contents v x → Gives C n a (g v) (h x)) → Gives C n a (on_yield o.words y g) (bind t h)
    unfolding on_yield
    on_yield_law (says_value {n = m} {v = v} e) g h le f = f m v e
    on_yield_law says_error g h le f = then_error le

    pub nexts : p ≤ n → (g : List ℕ → ℕ → E) (h : Content → Result) → ((v : ℕ) (x : Content) → At k.contents v x → Gives C n a (g o.words v) (h x)) → Gives C n a (next o g) (bind r h)
    unfolding next
    nexts le g h f = on_yield_law k.says (g o.words) h le f

    denotes : {v : ℕ} {x : Content} → At k.contents v x → Denotes k.contents (row_at (values o.words) v) x
    denotes e = row_denotes k.stand.table e

    pub bools : p ≤ n → (g : List ℕ → Bool → E) (h : Bool → Result) → ((b : Bool) → Gives C n a (g o.words b) (h b)) → Gives C n a (on_bool o g) (bool_of r h)
    unfolding on_bool
    bools le g h f = nexts le (λ b v. r_bool (yields b failed) (row_at (values b) v) (g b)) (λ v. W.on_bool fail v h)
        (λ v x e. on_bool_law (Gives C n a) (then_error le) (g o.words) h (denotes e) f)

    kept : p ≤ n → {v : ℕ} {x : Content} {q : Row} → At k.contents v x → Denotes k.contents q x
        → Gives C n a (r_bool (yields o.words failed) q (λ b. yields o.words (Ok v))) (W.on_bool fail x ok_bool)
    kept le e dbool = then_value le e
    kept le e dlong = then_error le
    kept le e dtext = then_error le
    kept le e dent = then_error le
    kept le e (dset i j q) = then_error le
    kept le e (drec i) = then_error le

    pub bool_only_law : p ≤ n → Gives C n a (bool_only o) (bool_of r ok_bool)
    unfolding bool_only
    bool_only_law le = nexts le (λ b v. r_bool (yields b failed) (row_at (values b) v) (λ c. yields b (Ok v))) (λ v. W.on_bool fail v ok_bool) (λ v x e. kept le e (denotes e))

-- ---- where all is known, what is known is what evaluation gives

module _ (G : Env) where
  rel_whole : (o : Rel) (v w : Content) → rel_known (whole G) o v w ≡ gives (apply_rel G o v w)
  rel_whole rin (vbool b) w = refl
  rel_whole rin (vlong n) w = refl
  rel_whole rin (vtext t) w = refl
  rel_whole rin (vent k t) w = go (targets w)
    where
      go : (o : Option W.Values) → on_some (gives fail) o (in_known (whole G) (vent k t) (pentity (whole G) k t).ancestors) ≡ gives (on_some fail o (λ ts. ok_bool (within (vent k t) (entity G k t).ancestors ts)))
      go none = refl
      go (some ts) = refl
  rel_whole rin (vset vs) w = refl
  rel_whole rin (vrec fs) w = refl
  rel_whole rgettag (vbool b) w = refl
  rel_whole rgettag (vlong n) w = refl
  rel_whole rgettag (vtext t) w = refl
  rel_whole rgettag (vent k t) w = tags w
    where
      tags : (w : Content) → rel_known (whole G) rgettag (vent k t) w ≡ gives (apply_rel G rgettag (vent k t) w)
      tags (vbool b) = refl
      tags (vlong n) = refl
      tags (vtext u) = refl
      tags (vent i u) = refl
      tags (vset vs) = refl
      tags (vrec fs) = refl
  rel_whole rgettag (vset vs) w = refl
  rel_whole rgettag (vrec fs) w = refl
  rel_whole rhastag (vbool b) w = refl
  rel_whole rhastag (vlong n) w = refl
  rel_whole rhastag (vtext t) w = refl
  rel_whole rhastag (vent k t) w = tags w
    where
      tags : (w : Content) → rel_known (whole G) rhastag (vent k t) w ≡ gives (apply_rel G rhastag (vent k t) w)
      tags (vbool b) = refl
      tags (vlong n) = refl
      tags (vtext u) = refl
      tags (vent i u) = refl
      tags (vset vs) = refl
      tags (vrec fs) = refl
  rel_whole rhastag (vset vs) w = refl
  rel_whole rhastag (vrec fs) w = refl

  get_whole : (t : ℕ) (v : Content) → get_known (whole G) t v ≡ gives (apply_get G t v)
  get_whole t (vbool b) = refl
  get_whole t (vlong n) = refl
  get_whole t (vtext u) = refl
  get_whole t (vent k u) = refl
  get_whole t (vset vs) = refl
  get_whole t (vrec fs) = refl

  has_whole : (t : ℕ) (v : Content) → has_known (whole G) t v ≡ gives (apply_has G t v)
  has_whole t (vbool b) = refl
  has_whole t (vlong n) = refl
  has_whole t (vtext u) = refl
  has_whole t (vent k u) = refl
  has_whole t (vset vs) = refl
  has_whole t (vrec fs) = refl

  -- ---- the operations

  module _ {C : List Content} {R : List Row} (t : Table R C) {M : NEnv} (env : EnvRead C M (whole G)) where
    pub rel_gives : (o : Rel) {m n : ℕ} {v w : Content} → At C m v → At C n w → OutReads C (n_rel M R o m n (row_at R m) (row_at R n)) (gives (apply_rel G o v w))
    rel_gives o {m} {n} {v} {w} a b = subst (OutReads C (n_rel M R o m n (row_at R m) (row_at R n))) (rel_whole o v w) (rel_reads t env o a b (row_denotes t a) (row_denotes t b))

    pub get_gives : (i : ℕ) {n : ℕ} {v : Content} → At C n v → OutReads C (n_get M R i (row_at R n)) (gives (apply_get G i v))
    get_gives i {n} {v} a = subst (OutReads C (n_get M R i (row_at R n))) (get_whole i v) (get_reads t env i (row_denotes t a))

    pub has_gives : (i : ℕ) {n : ℕ} {v : Content} → At C n v → OutReads C (n_has M R i (row_at R n)) (gives (apply_has G i v))
    has_gives i {n} {v} a = subst (OutReads C (n_has M R i (row_at R n))) (has_whole i v) (has_reads t env i (row_denotes t a))

    step_gives : (us : List ℕ) (u : ℕ) → ((n : ℕ) (v : Content) → At C n v → OutReads C (path_out M R us u n) (gives (apply_path G us u v)))
        → {x : Option ℕ} {y : Option Content} → OptAt C x y → OutReads C (on_some (truly false) x (path_out M R us u)) (gives (on_some (ok_bool false) y (apply_path G us u)))
    step_gives us u f absent = omade dbool
    step_gives us u f (there_at {n = n} {v = v} a) = f n v a

    path_known : (us : List ℕ) (u i : ℕ) (v : Content) → I.on_fields (whole G) (gives fail) (λ k j. I.stays) v (λ fs. gives (on_some (ok_bool false) (find i fs) (apply_path G us u))) ≡ gives (apply_path G (u ∷ us) i v)
    path_known us u i (vbool b) = refl
    path_known us u i (vlong n) = refl
    path_known us u i (vtext x) = refl
    path_known us u i (vent k x) = refl
    path_known us u i (vset vs) = refl
    path_known us u i (vrec fs) = refl

    stay_never : (k j : ℕ) → OutReads C stays I.stays
    stay_never k j = ostay

    pub path_gives : (us : List ℕ) (i n : ℕ) (v : Content) → At C n v → OutReads C (path_out M R us i n) (gives (apply_path G us i v))
    unfolding path_out
    path_gives [] i n v a = has_gives i a
    path_gives (u ∷ us) i n v a = subst (OutReads C (path_out M R (u ∷ us) i n)) (path_known us u i v)
        (on_fields_law t env (OutReads C) ofail (λ k j. stays) (λ k j. I.stays) (λ e fs h. step_gives us u (path_gives us u) (entry_at i h)) (row_denotes t a) (λ k j q. stay_never k j))

-- a path makes nothing but bools
module _ (M : NEnv) (R : List Row) where
  pub fine_path : (us : List ℕ) (i n : ℕ) → Fine (path_out M R us i n)
  unfolding path_out
  fine_path [] i n = e_entries Fine fails tt M R (λ k j. stays) (λ k j. tt) (λ e. truly (is_some (entry_of i e))) (λ e. tt) (row_at R n)
  fine_path (u ∷ us) i n = e_entries Fine fails tt M R (λ k j. stays) (λ k j. tt) (λ e. on_some (truly false) (entry_of i e) (path_out M R us u)) (λ e. go (entry_of i e) (fine_path us u)) (row_at R n)
    where
      go : (o : Option ℕ) → ((m : ℕ) → Fine (path_out M R us u m)) → Fine (on_some (truly false) o (path_out M R us u))
      go none f = tt
      go (some m) f = f m

-- One step for each operation yields what `eval` gives the node, where its operands yield what `eval` gives them. Assumes nothing.
use mathlib.Core.Path.{◌≡◌, sym, ◌∙◌, ap, subst}
use mathlib.Core.Bool.{Bool, true, false, cond}
use mathlib.Core.Option.{Option, none, some}
use mathlib.Core.List.{List, []}
use Prim.Native.Nat.{ℕ, suc, ◌+◌, ◌≤◌}
use native.Mathlib.Omega.{arith}
use lib.ListN.{get_or, drop}
use Rattle.std.specs.Prelude.{Ok}
use Rattle.tpe.proofs.Reach.{asks}
use Rattle.cedar.specs.Value.{Value as Content, Result, ok, bind, ok_bool}
use Rattle.cedar.specs.Types.{Ty, Schema, Var, principal, action, resource, context}
use Rattle.cedar.specs.Residual.{Node, Expr, lit, err, var, and, or, ite, un, bin, rel, get, has, haspath, Un, Bin, Rel}
use Rattle.cedar.specs.Entities.{Env}
use Rattle.cedar.specs.Evaluate.{eval, apply_un, apply_bin, apply_rel, apply_get, apply_has, apply_path, bool_of}
use Rattle.cedar.specs.Interpret.{gives}
use Rattle.cedar.specs.Rows.{Row, rent}
use Rattle.cedar.specs.Table.{At, Denotes}
use Rattle.cedar.proofs.TableLaws.{number_inj}
use Rattle.cedar.specs.Numbered.{Give, made, old, row_at, NOut, n_un, n_bin, n_rel, n_get, n_has}
use Rattle.cedar.specs.Reads.{Reads, xlit, xerr, xvar, xand, xor, xite, xun, xbin, xrel, xget, xhas, xpath, GiveRead, give_made, give_old}
use Rattle.cedar.proofs.ReadsLaws.{OutReads, keep_reads, row_denotes}
use Rattle.cedar.proofs.ReadsOps.{un_reads, bin_reads}
use Rattle.cedar.proofs.Outcomes.{made_un, made_bin, made_rel, made_get, made_has}
use Rattle.sheet.specs.Forms.{complete, items, at, PRINCIPAL, ACTION, RESOURCE, CONTEXT, NODE, mark}
use Rattle.sheet.specs.State.{State, line_at}
use Rattle.sheet.specs.Typing.{slot_value}
use Rattle.sheet.specs.Content.{schema, n_env, given, var_of}
use Rattle.sheet.specs.Answer.{size}
use Rattle.table.specs.Layout.{held}
use Rattle.tpe.specs.Run.{words_of}
use Rattle.tpe.proofs.Outcomes.{GiveFine, Fine, words_row, words_formed, words_short, row_fine}
use Rattle.tpe.proofs.Stands.{Hold, Room, Spent, same_sheet, schema_is, env_is, env_at}
use Rattle.lookup.specs.Lookups.{env_by}
use lib.Dec.{eqb}
use Rattle.evaluator.specs.Run.{failed, E, Rec, yields, values, give_of, settle_of, opt_of, next, node_in, side_of, branch_of, path_out, lit_step, err_step, var_step, lazy_step, if_step, one_step, two_step, slot_step, un_out, bin_out, rel_out, get_out, has_out, walk_out, schema_of, env_of}
use Rattle.evaluator.proofs.Gives.{Stand, Gives, is_value, is_error_law, after, rest_room, some_room, then_bool, then_settles, nexts, bools, bool_only_law, rel_gives, get_gives, has_gives, path_gives, fine_path, is_asked}

-- what is asked is an entity or has a number
abbrev pub OptFine : Option Give → Type 0
OptFine none = Unit {0}
OptFine (some g) = GiveFine g

given_fine : (s : State) (x : Var) → OptFine (given s x)
given_fine s principal = go (eqb (at (line_at s PRINCIPAL 0) 1) mark)
  where
    go : (b : Bool) → OptFine (cond b none (some (made (rent (at (line_at s PRINCIPAL 0) 0) (at (line_at s PRINCIPAL 0) 1)))))
    go true = tt
    go false = tt
given_fine s action = go (eqb (at (line_at s ACTION 0) 1) mark)
  where
    go : (b : Bool) → OptFine (cond b none (some (made (rent (at (line_at s ACTION 0) 0) (at (line_at s ACTION 0) 1)))))
    go true = tt
    go false = tt
given_fine s resource = go (eqb (at (line_at s RESOURCE 0) 1) mark)
  where
    go : (b : Bool) → OptFine (cond b none (some (made (rent (at (line_at s RESOURCE 0) 0) (at (line_at s RESOURCE 0) 1)))))
    go true = tt
    go false = tt
given_fine s context = go (eqb (at (line_at s CONTEXT 0) 1) mark)
  where
    go : (b : Bool) → OptFine (cond b none (some (old (at (line_at s CONTEXT 0) 1))))
    go true = tt
    go false = tt

pub request_fine : (s : State) (x : Var) → OptFine ((n_env complete s).request x)
unfolding n_env
request_fine s x = given_fine s x

module _ (sheet a₀ : List ℕ) (G : Env) where
  abbrev pub sch : Schema
  sch = schema (held sheet a₀ [])

  -- whatever the words, g yields what `eval` gives the content of the tree e
  pub record Meets (g : List ℕ → List ℕ → E) (e : Node ℕ) : Type 0 where
    pub run : (a l : List ℕ) (C : List Content) (X : Expr) → Stand sheet a₀ G C a → Room (size e) a l → Reads C e X → Gives sheet a₀ G C (size e) a (g a l) (eval sch G X)

  nothing_spent : (n : ℕ) (a : List ℕ) → 1 ≤ n → Spent n a a
  nothing_spent n a h = record { top = omega (arith, h); few = omega arith }

  -- ---- leaves

  module _ (a l : List ℕ) (C : List Content) (s : Stand sheet a₀ G C a) (room : Room 1 a l) where
    lit_gives : (T : Ty) (v : ℕ) (X : Expr) → Reads C (lit T v) X → Gives sheet a₀ G C 1 a (yields a (Ok v)) (eval sch G X)
    lit_gives T v X (xlit h) = is_value sheet a₀ G C C 1 a l room (omega arith) a (λ n x e. e) s (nothing_spent 1 a (omega arith)) h

    err_gives : (T : Ty) (X : Expr) → Reads C (err T) X → Gives sheet a₀ G C 1 a (yields a failed) (eval sch G X)
    err_gives T X xerr = is_error_law sheet a₀ G C C 1 a l room (omega arith) a (λ n x e. e) s (nothing_spent 1 a (omega arith))

    opt_gives : {o : Option Give} {v : Content} (x : Var) → (asks a).request x ≡ o → GiveRead C o (some v) → OptFine o → Gives sheet a₀ G C 1 a (opt_of a o) (ok v)
    unfolding opt_of give_of
    opt_gives x e (give_made {r = r} {v = v} d) f =
        is_asked sheet a₀ G C 1 a l room (omega arith) s (words_of r) (words_formed r f) (words_short r f) x (e ∙ ap (λ (z : Row). some (made z)) (sym (words_row r f))) (subst (λ (q : Row). Denotes C q v) (sym (words_row r f)) d)
    opt_gives x e (give_old h) f = is_value sheet a₀ G C C 1 a l room (omega arith) a (λ n x e. e) s (nothing_spent 1 a (omega arith)) h

    asked_as : (x : Var) → (asks a).request x ≡ (n_env complete (held [] a₀ [])).request x
    unfolding n_env
    asked_as x = ap (λ (t : State). given t x) (same_sheet [] a₀ a s.hold)

    var_gives : (T : Ty) (x : Var) (X : Expr) → Reads C (var T x) X → Gives sheet a₀ G C 1 a (opt_of a ((env_of a).request x)) (eval sch G X)
    var_gives T x X xvar = rw (env_is complete [] a₀ a s.hold) (opt_gives x (asked_as x) (s.env.request x) (request_fine (held [] a₀ []) x))

  module _ (f : Rec) (m : ℕ) (r : List ℕ) where
    pub lit_meets : (T : Ty) → Meets (λ a l. lit_step f a l m r) (lit T (at r 1))
    unfolding lit_step
    lit_meets T = record { run = λ a l C X s room h. lit_gives a l C s room T (at r 1) X h }

    pub slot_meets : (p q : ℕ) (T : Ty) → Meets (λ a l. slot_step p q f a l m r) (lit T (slot_value p q (at r 1)))
    unfolding slot_step
    slot_meets p q T = record { run = λ a l C X s room h. lit_gives a l C s room T (slot_value p q (at r 1)) X h }

    pub err_meets : (T : Ty) → Meets (λ a l. err_step f a l m r) (err T)
    unfolding err_step
    err_meets T = record { run = λ a l C X s room h. err_gives a l C s room T X h }

    pub var_meets : (T : Ty) → Meets (λ a l. var_step f a l m r) (var T (var_of (at r 1)))
    unfolding var_step
    var_meets T = record { run = λ a l C X s room h. var_gives a l C s room T (var_of (at r 1)) X h }

  -- ---- operands: x and y are worked as the trees d and e

  module _ (f : Rec) {x : ℕ} {d : Node ℕ} (i : Meets (λ a l. f a l x) d) where
    -- the first operand of a node of n nodes
    first : (n : ℕ) → size d ≤ n → (a l : List ℕ) (C : List Content) (D : Expr) → Stand sheet a₀ G C a → Room n a l → Reads C d D → Gives sheet a₀ G C (size d) a (f a l x) (eval sch G D)
    first n h a l C D s room q = i.run a l C D s (some_room sheet a₀ G (size d) n a l room h) q

    -- the next one, after p nodes
    later : {C : List Content} {p : ℕ} {a : List ℕ} {o : E} {t : Result} (k : Gives sheet a₀ G C p a o t) (n : ℕ) (l : List ℕ) → Room n a l → p + size d ≤ n → (D : Expr) → Reads C d D
        → Gives sheet a₀ G k.contents (size d) o.words (f o.words l x) (eval sch G D)
    later k n l room h D q = i.run _ l k.contents D k.stand (rest_room sheet a₀ G k (size d) n l room h) (keep_reads k.keeps q)

    -- ---- one operand

    one_gives : (g : List ℕ → ℕ → NOut) (h : Content → Result) (a l : List ℕ) (C : List Content) (D : Expr) → Stand sheet a₀ G C a → Room (suc (size d)) a l → Reads C d D
        → ((b : List ℕ) → Hold a₀ b → (v : ℕ) → Fine (g b v))
        → ((b : List ℕ) (B : List Content) → Stand sheet a₀ G B b → (v : ℕ) (z : Content) → At B v z → OutReads B (g b v) (gives (h z)))
        → Gives sheet a₀ G C (suc (size d)) a (next (f a l x) (λ b v. settle_of b (g b v))) (bind (eval sch G D) h)
    one_gives g h a l C D s room q fine reads =
        let k = first (suc (size d)) (omega arith) a l C D s room q in
        nexts sheet a₀ G k (suc (size d)) l room (omega arith) (omega arith) (λ b v. settle_of b (g b v)) h
        (λ v z e. then_settles sheet a₀ G k (suc (size d)) l room (omega arith) (omega arith) (reads (f a l x).words k.contents k.stand v z e) (fine (f a l x).words k.stand.hold v))

  -- the sheet's rows stay as they are
  pub same_node : (b : List ℕ) → Hold a₀ b → (m : ℕ) → node_in b m ≡ node_in a₀ m
  same_node b h m = ap (λ (rows : List (List ℕ)). get_or rows m []) (h.same NODE (omega arith))

  module _ (f : Rec) (m : ℕ) (r : List ℕ) (er : node_in a₀ m ≡ r) {d : Node ℕ} (i : Meets (λ a l. f a l (at r 1)) d) where
    again : (b : List ℕ) → Hold a₀ b → node_in b m ≡ r
    again b h = same_node b h m ∙ er

    un_gives : (u : List ℕ → Un) (T : Ty) (a l : List ℕ) (C : List Content) (X : Expr) → Stand sheet a₀ G C a → Room (suc (size d)) a l → Reads C (un T (u r) d) X
        → Gives sheet a₀ G C (suc (size d)) a (one_step (un_out sheet u) f a l m r) (eval sch G X)
    unfolding one_step un_out
    un_gives u T a l C X s room (xun {d = D} q) = one_gives f i (λ b v. n_un (schema_of sheet b) (u (node_in b m)) (row_at (values b) v)) (apply_un sch (u r)) a l C D s room q
        (λ b h v. made_un row_fine (schema_of sheet b) (u (node_in b m)) (row_at (values b) v))
        (λ b B t v z e. rw (again b t.hold, schema_is complete sheet a₀ b t.hold) (un_reads B sch (number_inj t.table) (u r) (row_denotes t.table e)))

    pub un_meets : (u : List ℕ → Un) (T : Ty) → Meets (λ a l. one_step (un_out sheet u) f a l m r) (un T (u r) d)
    un_meets u T = record { run = λ a l C X s room q. un_gives u T a l C X s room q }

    get_in : (T : Ty) (a l : List ℕ) (C : List Content) (X : Expr) → Stand sheet a₀ G C a → Room (suc (size d)) a l → Reads C (get T d (at r 2)) X
        → Gives sheet a₀ G C (suc (size d)) a (one_step (get_out) f a l m r) (eval sch G X)
    unfolding one_step get_out
    get_in T a l C X s room (xget {d = D} q) = one_gives f i (λ b v. n_get (env_by complete b v) (values b) (at (node_in b m) 2) (row_at (values b) v)) (apply_get G (at r 2)) a l C D s room q
        (λ b h v. made_get row_fine (env_by complete b v) (values b) (at (node_in b m) 2) (row_at (values b) v))
        (λ b B t v z e. rw (again b t.hold, env_at complete [] a₀ b t.hold v) (get_gives G t.table t.env (at r 2) e))

    pub get_meets : (T : Ty) → Meets (λ a l. one_step (get_out) f a l m r) (get T d (at r 2))
    get_meets T = record { run = λ a l C X s room q. get_in T a l C X s room q }

    has_in : (T : Ty) (a l : List ℕ) (C : List Content) (X : Expr) → Stand sheet a₀ G C a → Room (suc (size d)) a l → Reads C (has T d (at r 2)) X
        → Gives sheet a₀ G C (suc (size d)) a (one_step (has_out) f a l m r) (eval sch G X)
    unfolding one_step has_out
    has_in T a l C X s room (xhas {d = D} q) = one_gives f i (λ b v. n_has (env_by complete b v) (values b) (at (node_in b m) 2) (row_at (values b) v)) (apply_has G (at r 2)) a l C D s room q
        (λ b h v. made_has row_fine (env_by complete b v) (values b) (at (node_in b m) 2) (row_at (values b) v))
        (λ b B t v z e. rw (again b t.hold, env_at complete [] a₀ b t.hold v) (has_gives G t.table t.env (at r 2) e))

    pub has_meets : (T : Ty) → Meets (λ a l. one_step (has_out) f a l m r) (has T d (at r 2))
    has_meets T = record { run = λ a l C X s room q. has_in T a l C X s room q }

    path_in : (T : Ty) (a l : List ℕ) (C : List Content) (X : Expr) → Stand sheet a₀ G C a → Room (suc (size d)) a l → Reads C (haspath T d (at r 2) (drop 3 (items r))) X
        → Gives sheet a₀ G C (suc (size d)) a (one_step (walk_out) f a l m r) (eval sch G X)
    unfolding one_step walk_out
    path_in T a l C X s room (xpath {d = D} q) = one_gives f i (λ b v. path_out (env_of b) (values b) (drop 3 (items (node_in b m))) (at (node_in b m) 2) v) (apply_path G (drop 3 (items r)) (at r 2)) a l C D s room q
        (λ b h v. fine_path (env_of b) (values b) (drop 3 (items (node_in b m))) (at (node_in b m) 2) v)
        (λ b B t v z e. rw (again b t.hold, env_is complete [] a₀ b t.hold) (path_gives G t.table t.env (drop 3 (items r)) (at r 2) v z e))

    pub path_meets : (T : Ty) → Meets (λ a l. one_step (walk_out) f a l m r) (haspath T d (at r 2) (drop 3 (items r)))
    path_meets T = record { run = λ a l C X s room q. path_in T a l C X s room q }

    -- ---- two operands

    module _ {e : Node ℕ} (j : Meets (λ a l. f a l (at r 2)) e) where
      abbrev n : ℕ
      n = suc (size d + size e)

      two_gives : (g : List ℕ → ℕ → ℕ → NOut) (h : Content → Content → Result) (a l : List ℕ) (C : List Content) (D F : Expr) → Stand sheet a₀ G C a → Room n a l → Reads C d D → Reads C e F
          → ((b : List ℕ) (v w : ℕ) → Fine (g b v w))
          → ((b : List ℕ) (B : List Content) → Stand sheet a₀ G B b → (v w : ℕ) (y z : Content) → At B v y → At B w z → OutReads B (g b v w) (gives (h y z)))
          → Gives sheet a₀ G C n a (next (f a l (at r 1)) (λ b v. next (f b l (at r 2)) (λ c w. settle_of c (g c v w)))) (bind (eval sch G D) (λ y. bind (eval sch G F) (λ z. h y z)))
      two_gives g h a l C D F s room p q fine reads =
          let k = first f i n (omega arith) a l C D s room p in
          let j2 = later f j k n l room (omega arith) F q in
          let o = after sheet a₀ G k (size e) (size d + size e) j2 (omega arith) in
          nexts sheet a₀ G k n l room (omega arith) (omega arith) (λ b v. next (f b l (at r 2)) (λ c w. settle_of c (g c v w))) (λ y. bind (eval sch G F) (λ z. h y z))
          (λ v y u. nexts sheet a₀ G o n l room (omega arith) (omega arith) (λ c w. settle_of c (g c v w)) (λ z. h y z)
          (λ w z t. then_settles sheet a₀ G o n l room (omega arith) (omega arith) (reads _ j2.contents j2.stand v w y z (j2.keeps v y u) t) (fine _ v w)))

      bin_in : (p : Bin) (T : Ty) (a l : List ℕ) (C : List Content) (X : Expr) → Stand sheet a₀ G C a → Room n a l → Reads C (bin T p d e) X
          → Gives sheet a₀ G C n a (two_step (bin_out p) f a l m r) (eval sch G X)
      unfolding two_step bin_out
      bin_in p T a l C X s room (xbin {d = D} {e = F} q t) = two_gives (λ b v w. n_bin p v w (row_at (values b) v) (row_at (values b) w)) (apply_bin p) a l C D F s room q t
          (λ b v w. made_bin row_fine p v w (row_at (values b) v) (row_at (values b) w))
          (λ b B u v w y z c o. bin_reads B (number_inj u.table) p c o (row_denotes u.table c) (row_denotes u.table o))

      pub bin_meets : (p : Bin) (T : Ty) → Meets (λ a l. two_step (bin_out p) f a l m r) (bin T p d e)
      bin_meets p T = record { run = λ a l C X s room q. bin_in p T a l C X s room q }

      rel_in : (p : Rel) (T : Ty) (a l : List ℕ) (C : List Content) (X : Expr) → Stand sheet a₀ G C a → Room n a l → Reads C (rel T p d e) X
          → Gives sheet a₀ G C n a (two_step (rel_out p) f a l m r) (eval sch G X)
      unfolding two_step rel_out
      rel_in p T a l C X s room (xrel {d = D} {e = F} q t) = two_gives (λ b v w. n_rel (env_by complete b v) (values b) p v w (row_at (values b) v) (row_at (values b) w)) (apply_rel G p) a l C D F s room q t
          (λ b v w. made_rel row_fine (env_by complete b v) (values b) p v w (row_at (values b) v) (row_at (values b) w))
          (λ b B u v w y z c o. rw (env_at complete [] a₀ b u.hold v) (rel_gives G u.table u.env p c o))

      pub rel_meets : (p : Rel) (T : Ty) → Meets (λ a l. two_step (rel_out p) f a l m r) (rel T p d e)
      rel_meets p T = record { run = λ a l C X s room q. rel_in p T a l C X s room q }

      -- ---- and, or

      module _ (a l : List ℕ) (C : List Content) (D F : Expr) (s : Stand sheet a₀ G C a) (room : Room n a l) (p : Reads C d D) (q : Reads C e F) where
        test : Gives sheet a₀ G C (size d) a (f a l (at r 1)) (eval sch G D)
        test = first f i n (omega arith) a l C D s room p

        side : Gives sheet a₀ G C (size d + size e) a (f (f a l (at r 1)).words l (at r 2)) (eval sch G F)
        side = after sheet a₀ G test (size e) (size d + size e) (later f j test n l room (omega arith) F q) (omega arith)

        and_side : (b : Bool) → Gives sheet a₀ G C n a (side_of false f l (at r 2) (f a l (at r 1)).words b) (cond b (bool_of (eval sch G F) ok_bool) (ok_bool false))
        unfolding side_of
        and_side true = bool_only_law sheet a₀ G side n l room (omega arith) (omega arith)
        and_side false = then_bool sheet a₀ G test n l room (omega arith) (omega arith) false

        or_side : (b : Bool) → Gives sheet a₀ G C n a (side_of true f l (at r 2) (f a l (at r 1)).words b) (cond b (ok_bool true) (bool_of (eval sch G F) ok_bool))
        unfolding side_of
        or_side true = then_bool sheet a₀ G test n l room (omega arith) (omega arith) true
        or_side false = bool_only_law sheet a₀ G side n l room (omega arith) (omega arith)

        and_gives : Gives sheet a₀ G C n a (lazy_step false f a l m r) (bool_of (eval sch G D) (λ b. cond b (bool_of (eval sch G F) ok_bool) (ok_bool false)))
        unfolding lazy_step
        and_gives = bools sheet a₀ G test n l room (omega arith) (omega arith) (side_of false f l (at r 2)) (λ b. cond b (bool_of (eval sch G F) ok_bool) (ok_bool false)) and_side

        or_gives : Gives sheet a₀ G C n a (lazy_step true f a l m r) (bool_of (eval sch G D) (λ b. cond b (ok_bool true) (bool_of (eval sch G F) ok_bool)))
        unfolding lazy_step
        or_gives = bools sheet a₀ G test n l room (omega arith) (omega arith) (side_of true f l (at r 2)) (λ b. cond b (ok_bool true) (bool_of (eval sch G F) ok_bool)) or_side

      and_in : (T : Ty) (a l : List ℕ) (C : List Content) (X : Expr) → Stand sheet a₀ G C a → Room n a l → Reads C (and T d e) X → Gives sheet a₀ G C n a (lazy_step false f a l m r) (eval sch G X)
      and_in T a l C X s room (xand {d = D} {e = F} p q) = and_gives a l C D F s room p q

      or_in : (T : Ty) (a l : List ℕ) (C : List Content) (X : Expr) → Stand sheet a₀ G C a → Room n a l → Reads C (or T d e) X → Gives sheet a₀ G C n a (lazy_step true f a l m r) (eval sch G X)
      or_in T a l C X s room (xor {d = D} {e = F} p q) = or_gives a l C D F s room p q

      pub and_meets : (T : Ty) → Meets (λ a l. lazy_step false f a l m r) (and T d e)
      and_meets T = record { run = λ a l C X s room q. and_in T a l C X s room q }

      pub or_meets : (T : Ty) → Meets (λ a l. lazy_step true f a l m r) (or T d e)
      or_meets T = record { run = λ a l C X s room q. or_in T a l C X s room q }

      -- ---- if

      module _ {c : Node ℕ} (h : Meets (λ a l. f a l (at r 3)) c) where
        abbrev three : ℕ
        three = suc (size d + size e + size c)

        module _ (a l : List ℕ) (C : List Content) (D F H : Expr) (s : Stand sheet a₀ G C a) (room : Room three a l) (p : Reads C d D) (q : Reads C e F) (t : Reads C c H) where
          asked : Gives sheet a₀ G C (size d) a (f a l (at r 1)) (eval sch G D)
          asked = first f i three (omega arith) a l C D s room p

          branch : (b : Bool) → Gives sheet a₀ G C three a (branch_of f l (at r 2) (at r 3) (f a l (at r 1)).words b) (cond b (eval sch G F) (eval sch G H))
          unfolding branch_of
          branch true = after sheet a₀ G asked (size e) three (later f j asked three l room (omega arith) F q) (omega arith)
          branch false = after sheet a₀ G asked (size c) three (later f h asked three l room (omega arith) H t) (omega arith)

          if_gives : Gives sheet a₀ G C three a (if_step f a l m r) (bool_of (eval sch G D) (λ b. cond b (eval sch G F) (eval sch G H)))
          unfolding if_step
          if_gives = bools sheet a₀ G asked three l room (omega arith) (omega arith) (branch_of f l (at r 2) (at r 3)) (λ b. cond b (eval sch G F) (eval sch G H)) branch

        if_in : (T : Ty) (a l : List ℕ) (C : List Content) (X : Expr) → Stand sheet a₀ G C a → Room three a l → Reads C (ite T d e c) X → Gives sheet a₀ G C three a (if_step f a l m r) (eval sch G X)
        if_in T a l C X s room (xite {f = D} {d = F} {e = H} p q t) = if_gives a l C D F H s room p q t

        pub if_meets : (T : Ty) → Meets (λ a l. if_step f a l m r) (ite T d e c)
        if_meets T = record { run = λ a l C X s room q. if_in T a l C X s room q }

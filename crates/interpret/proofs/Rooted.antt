-- The blocks of a run's policies, one after the other: where each lies, its class and its root's number. Assumes nothing.
use mathlib.Core.Path.{◌≡◌, refl, sym, ap, ◌∙◌}
use mathlib.Core.List.{List, [], ◌∷◌, ◌++◌, append_assoc, append-nil}
use Prim.Native.Nat.{ℕ, zero, suc, ◌+◌, ◌-◌, ◌*◌, ◌/◌, ◌≤◌, ◌<◌}
use native.Mathlib.Omega.{arith}
use lib.ListN.{length, get_or, length-append}
use Rattle.cedar.specs.Types.{Ty, tbool}
use Rattle.cedar.specs.Residual.{Node, err, Stage, value, error, open', view}
use Rattle.cedar.specs.Rows.{Row}
use Rattle.cedar.specs.Numbered.{n_class_of}
use Rattle.cedar.specs.Runs.{NVerdict}
use Rattle.sheet.specs.Content.{rows_in}
use Rattle.sheet.specs.Answer.{size}
use Rattle.sheet.proofs.running.MadeCount.{residual_sizes}
use Rattle.value.specs.Lines.{value_lines}
use Rattle.residual.specs.Rows.{stage_at, start_at}
use Rattle.residual.specs.Classes.{class_number, roots_of}
use Rattle.residual.specs.declared.Stage.{Stage as Stageʳ}
use Rattle.residual.specs.Trees.{Res, Ress, rnil, rcons, flat, flats, count_res, tree_of, trees_of, Whole, Wholes, whole_more}
use Rattle.residual.proofs.Blocks.{res_start}
use Rattle.residual.proofs.Meaning.{stage_for, stage_is, rows_are}
use Rattle.tpe.specs.Run.{class_by}
use Rattle.tpe.proofs.Policies.{roots_of as treesUnder}
use Rattle.interpret.specs.Lines.{classes_of}

-- the first i residuals
pub upto : ℕ → Ress → Ress
upto zero rs = rnil
upto (suc i) rnil = rnil
upto (suc i) (rcons r rs) = rcons r (upto i rs)

-- where they end
abbrev pub end_of : Ress → ℕ → ℕ
end_of rs i = length (flats (upto i rs))

pub end_low : (rs : Ress) (i : ℕ) → end_of rs i ≤ length (flats rs)
unfolding upto flats
end_low rs zero = omega arith
end_low rnil (suc i) = omega arith
end_low (rcons r rs) (suc i) = let z = end_low rs i in omega (arith, z, length-append (flat r) (flats (upto i rs)), length-append (flat r) (flats rs))

pub end_all : (rs : Ress) → end_of rs (count_res rs) ≡ length (flats rs)
unfolding upto flats
end_all rnil = refl
end_all (rcons r rs) = length-append (flat r) (flats (upto (count_res rs) rs)) ∙ ap (λ (n : ℕ). length (flat r) + n) (end_all rs) ∙ sym (length-append (flat r) (flats rs))

module _ (ts : List Ty) (nodes : List (List ℕ)) (d : ℕ) where
  -- residual i of rs, with what stands before and after it
  pub record Block (rs : Ress) (i : ℕ) : Type 0 where
    pub res : Res
    pub rest : List ℕ
    pub log : flats rs ≡ flats (upto i rs) ++ (flat res ++ rest)
    pub end : flats (upto (suc i) rs) ≡ flats (upto i rs) ++ flat res
    pub whole : Whole ts nodes d res
    pub tree : tree_of ts nodes res ≡ get_or (trees_of ts nodes rs) i (err tbool)

  block : (rs : Ress) → Wholes ts nodes d rs → (i : ℕ) → i < count_res rs → Block rs i
  unfolding upto flats trees_of
  block rnil w i h = absurd (omega arith)
  block (rcons r rs) (whole_more w ws) zero h = record { res = r; rest = flats rs; log = refl; end = append-nil (flat r); whole = w; tree = refl }
  block (rcons r rs) (whole_more w ws) (suc i) h =
      let b = block rs ws i (omega arith) in
      record {
        res = b.res;
        rest = b.rest;
        log = ap (λ (x : List ℕ). flat r ++ x) b.log ∙ sym (append_assoc (flat r) (flats (upto i rs)) (flat b.res ++ b.rest));
        end = ap (λ (x : List ℕ). flat r ++ x) b.end ∙ sym (append_assoc (flat r) (flats (upto i rs)) (flat b.res));
        whole = b.whole;
        tree = b.tree;
      }

  module _ (rs : Ress) (w : Wholes ts nodes d rs) (i : ℕ) (h : i < count_res rs) where
    end_is : end_of rs (suc i) ≡ end_of rs i + length (flat (block rs w i h).res)
    end_is = ap length (block rs w i h).end ∙ length-append (flats (upto i rs)) (flat (block rs w i h).res)

    pub start_there : start_at (flats rs) (end_of rs (suc i)) ≡ end_of rs i
    start_there = rw (end_is, (block rs w i h).log) (res_start (flats (upto i rs)) (block rs w i h).res (block rs w i h).rest)

    pub stage_there : stage_at (flats rs) (end_of rs (suc i)) ≡ stage_for (view (get_or (trees_of ts nodes rs) i (err tbool)))
    stage_there =
        rw (end_is, (block rs w i h).log, ← (block rs w i h).tree)
        (stage_is ts nodes (block rs w i h).res (block rs w i h).whole (flats (upto i rs)) (block rs w i h).rest)

-- ---- the lines

class_by_law : (a : List ℕ) (s : Stage ℕ) → class_by a (stage_for s) ≡ n_class_of (rows_in (value_lines a)) s
unfolding class_by
class_by_law a (value v) = refl
class_by_law a error = refl
class_by_law a open' = refl

-- each class is that of its root over the rows R
abbrev pub Stays : List Row → List NVerdict → Type 0
Stays R [] = Unit {0}
Stays R (v ∷ vs) = (n_class_of R (view v.root) ≡ v.class) × Stays R vs

stay_at : (R : List Row) (vs : List NVerdict) → Stays R vs → (i : ℕ) → i < length vs → class_number (n_class_of R (view (get_or (treesUnder vs) i (err tbool)))) ≡ get_or (classes_of vs) i 0
stay_at R [] s i h = absurd (omega arith)
stay_at R (v ∷ vs) s zero h = ap class_number s.0
stay_at R (v ∷ vs) s (suc i) h = stay_at R vs s.1 i (omega arith)

sizes_to : ℕ → List NVerdict → ℕ
sizes_to zero vs = 0
sizes_to (suc i) [] = 0
sizes_to (suc i) (v ∷ vs) = size v.root + sizes_to i vs

root_at : (vs : List NVerdict) (n i : ℕ) → i < length vs → n + sizes_to (suc i) vs - 1 ≡ get_or (roots_of n vs) i 0
unfolding sizes_to
root_at [] n i h = absurd (omega arith)
root_at (v ∷ vs) n zero h = omega arith
root_at (v ∷ vs) n (suc i) h = let z = root_at vs (n + size v.root) i (omega arith) in omega (arith, z)

pub classes_long : (vs : List NVerdict) → length (classes_of vs) ≡ length vs
classes_long [] = refl
classes_long (v ∷ vs) = ap suc (classes_long vs)

pub roots_long : (n : ℕ) (vs : List NVerdict) → length (roots_of n vs) ≡ length vs
roots_long n [] = refl
roots_long n (v ∷ vs) = ap suc (roots_long (n + size v.root) vs)

head_is : {x y : Node ℕ} {xs ys : List (Node ℕ)} → x ∷ xs ≡ y ∷ ys → x ≡ y
head_is e = cc

tail_is : {x y : Node ℕ} {xs ys : List (Node ℕ)} → x ∷ xs ≡ y ∷ ys → xs ≡ ys
tail_is e = cc

sizes_all : (vs : List NVerdict) → sizes_to (length vs) vs ≡ residual_sizes vs
unfolding sizes_to
sizes_all [] = refl
sizes_all (v ∷ vs) = ap (λ (n : ℕ). size v.root + n) (sizes_all vs)

module _ (ts : List Ty) (nodes : List (List ℕ)) where
  pub counted : (rs : Ress) (vs : List NVerdict) → trees_of ts nodes rs ≡ treesUnder vs → count_res rs ≡ length vs
  unfolding trees_of
  counted rnil [] e = refl
  counted rnil (v ∷ vs) e = let z : ◌≡◌ {A = ℕ} 0 1 = cc in absurd (omega arith)
  counted (rcons r rs) [] e = let z : ◌≡◌ {A = ℕ} 0 1 = cc in absurd (omega arith)
  counted (rcons r rs) (v ∷ vs) e = ap suc (counted rs vs (tail_is e))

  ends_are : {d : ℕ} (rs : Ress) (vs : List NVerdict) → Wholes ts nodes d rs → trees_of ts nodes rs ≡ treesUnder vs → (i : ℕ) → end_of rs i ≡ 4 * sizes_to i vs
  unfolding upto flats trees_of sizes_to
  ends_are rs vs w e zero = refl
  ends_are rnil [] w e (suc i) = refl
  ends_are rnil (v ∷ vs) w e (suc i) = let z : ◌≡◌ {A = ℕ} 0 1 = cc in absurd (omega arith)
  ends_are (rcons r rs) [] w e (suc i) = let z : ◌≡◌ {A = ℕ} 0 1 = cc in absurd (omega arith)
  ends_are (rcons r rs) (v ∷ vs) (whole_more w ws) e (suc i) =
      let z = ends_are rs vs ws (tail_is e) i in
      let q : length (flat r) ≡ 4 * size v.root = rows_are ts nodes r w ∙ ap (λ (t : Node ℕ). 4 * size t) (head_is e) in
      omega (arith, z, q, length-append (flat r) (flats (upto i rs)))

  module _ {d : ℕ} (rs : Ress) (vs : List NVerdict) (w : Wholes ts nodes d rs) (e : trees_of ts nodes rs ≡ treesUnder vs) where
    pub all_long : length (flats rs) ≡ 4 * residual_sizes vs
    all_long = sym (end_all rs) ∙ ends_are rs vs w e (count_res rs) ∙ ap (λ (n : ℕ). 4 * n) (ap (λ (n : ℕ). sizes_to n vs) (counted rs vs e) ∙ sizes_all vs)

    pub root_there : (i : ℕ) → i < length vs → end_of rs (suc i) / 4 - 1 ≡ get_or (roots_of 0 vs) i 0
    root_there i h = let z = ends_are rs vs w e (suc i) in let q = root_at vs 0 i h in omega (arith, z, q)

    pub class_there : (a : List ℕ) → Stays (rows_in (value_lines a)) vs → (i : ℕ) → i < length vs → class_number (class_by a (stage_at (flats rs) (end_of rs (suc i)))) ≡ get_or (classes_of vs) i 0
    class_there a s i h =
        let k : i < count_res rs = omega (arith, h, counted rs vs e) in
        ap (λ (x : Stageʳ). class_number (class_by a x)) (stage_there ts nodes d rs w i k ∙ ap (λ (xs : List (Node ℕ)). stage_for (view (get_or xs i (err tbool)))) e)
        ∙ ap class_number (class_by_law a (view (get_or (treesUnder vs) i (err tbool)))) ∙ stay_at (rows_in (value_lines a)) vs s i h

    pub start_at_law : (i : ℕ) → i < length vs → start_at (flats rs) (end_of rs (suc i)) ≡ end_of rs i
    start_at_law i h = start_there ts nodes d rs w i (omega (arith, h, counted rs vs e))

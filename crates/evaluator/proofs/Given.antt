-- The laws of the code's `operands`: what the strict operations give is what the definition says for the node's tag. Assumes nothing.
use mathlib.Core.Path.{◌≡◌, refl, sym, ap, ◌∙◌, fun_ext}
use mathlib.Core.Bool.{Bool, true, false}
use mathlib.Core.List.{List, [], ◌∷◌}
use Prim.Native.Nat.{ℕ, zero, suc, ◌+◌, ◌-◌, ◌≤◌, ◌<◌}
use native.Mathlib.Omega.{arith}
use lib.Dec.{eqb}
use lib.ListN.{length, get_or, take, drop, length-drop, get_or-eq_default, drop_of_length-le}
use lib.Seq.{take-length, drop-drop, drop-cons}
use Rattle.words.specs.Log.{part}
use Rattle.cedar.specs.Value.{on_some}
use Rattle.cedar.specs.Numbered.{fails, stays, truly, is_some}
use Rattle.sheet.specs.Forms.{items, at, NODE}
use Rattle.forms.specs.Tags.{EQ, LT, IN, GETTAG, HASTAG, CONTAINS, ALL, ANY, IF, IS, LIKE, GET, HAS, HASPATH, NOT, NEG, EMPTY, SET_OF}
use Rattle.sheet.specs.Content.{schema}
use Rattle.table.specs.Layout.{rows_of, text_at, held}
use Rattle.table.proofs.Rows.{above}
use Rattle.strict.specs.Gives.{out_of, not_out, neg_out, empty_out, is_out, like_out, arith_out, longs_out, contains_out, all_out, any_out}
use Rattle.lookup.specs.Lookups.{values, value_in, look_attr}
use Rattle.strict.specs.Gives as S
use Rattle.strict.specs.Entities.{in_out, gettag_out, hastag_out}
use Rattle.walk.specs.Walks.{walk_step, walk_from}
use Rattle.strict.specs.Entities as L
use Rattle.strict.specs.declared.Given.{Given}
use Rattle.strict.specs.declared.Given.TheVariants.{Bool as Boolᵍ, Fails, Stays}
use Rattle.lookup.specs.declared.Look.{Look}
use Rattle.lookup.specs.declared.Look.TheVariants.{At as Atˡ, Missing, Unknown as Unknownˡ, Bad}
use Rattle.walk.specs.declared.Walked.{Walked}
use Rattle.walk.specs.declared.Walked.TheVariants.{Holds, Fails as Failsʷ, Left}
use Rattle.strict.proofs.Links.{bytes_link}
use Rattle.strict.proofs.Entities.{look_as, in_value}
use Rattle.tpe.specs.Run.{env_in, schema_in}
use Rattle.evaluator.specs.Run.{node_in, path_out, walked_out, bin_out, rel_out, get_out, has_out, walk_out, two_out, un_out, one_out}

-- ---- words of a node

-- a part up to the end
pub to_end : (i : ℕ) (r : List ℕ) → part r i (length r) ≡ drop i r
to_end i r =
    let h : length r - i ≡ length (drop i r) = sym (length-drop i r) in
    ap (λ (m : ℕ). take m (drop i r)) h ∙ take-length (drop i r)

-- ---- a path

module _ (a : List ℕ) where
  -- the walk is the path
  walk_link : (ts : List ℕ) (t n i : ℕ) → path_out (S.env_in true a) (values a) ts t n ≡ walked_out (walk_from true a n i (t ∷ ts))
  unfolding path_out walk_from look_attr value_in
  walk_link [] t n i = in_value true a fails (λ k. stays) (λ o. truly (is_some o)) t (value_in a n) ∙ go (look_attr true a n t)
    where
      go : (l : Look) → look_as fails (λ k. stays) (λ o. truly (is_some o)) l ≡ walked_out (walk_step n i l true (λ x. walk_from true a x (suc i) []))
      go (Atˡ x) = refl
      go Missing = refl
      go (Unknownˡ k) = refl
      go Bad = refl
  walk_link (u ∷ us) t n i = in_value true a fails (λ k. stays) (λ o. on_some (truly false) o (path_out (S.env_in true a) (values a) us u)) t (value_in a n) ∙ go (look_attr true a n t) (λ x. walk_link us u x (suc i))
    where
      go : (l : Look) → ((x : ℕ) → path_out (S.env_in true a) (values a) us u x ≡ walked_out (walk_from true a x (suc i) (u ∷ us)))
          → look_as fails (λ k. stays) (λ o. on_some (truly false) o (path_out (S.env_in true a) (values a) us u)) l ≡ walked_out (walk_step n i l false (λ x. walk_from true a x (suc i) (u ∷ us)))
      go (Atˡ x) ih = ih x
      go Missing ih = refl
      go (Unknownˡ k) ih = refl
      go Bad ih = refl

  module _ (r : List ℕ) (v : ℕ) (p : List ℕ) (cut : p ≡ part r 3 (length r)) where
    ep : p ≡ drop 3 r
    ep = cut ∙ to_end 3 r

    -- a row without texts
    pub path_none : (g : Given) → length p < 1 → out_of g ≡ walked_out (walk_from true a v 0 (0 ∷ [])) → out_of g ≡ walk_out a r v
    unfolding walk_out env_in S.env_in values
    path_none g h e =
        let len : length r ≤ 3 = omega (arith, h, ap length ep, length-drop 3 r) in
        let few : drop 3 (items r) ≡ [] = drop-drop 3 1 r ∙ drop_of_length-le r {i = 4} (omega (arith, len)) in
        let text : at r 2 ≡ 0 = get_or-eq_default r 0 {n = 3} (omega (arith, len)) in
        e ∙ sym (walk_link [] 0 v 0) ∙ rw (few, text)

    path_is : 1 ≤ length p → walk_out a r v ≡ walked_out (walk_from true a v 0 p)
    unfolding walk_out env_in S.env_in values
    path_is h =
        let len : 3 < length r = omega (arith, h, ap length ep, length-drop 3 r) in
        let c : drop 3 r ≡ at r 2 ∷ drop 4 r = drop-cons r 3 0 len in
        ap (λ (us : List ℕ). path_out (S.env_in true a) (values a) us (at r 2) v) (drop-drop 3 1 r) ∙ walk_link (drop 4 r) (at r 2) v 0 ∙ ap (λ (q : List ℕ). walked_out (walk_from true a v 0 q)) (sym (ep ∙ c))

    pub path_some : (g : Given) → 1 ≤ length p → out_of g ≡ walked_out (walk_from true a v 0 p) → out_of g ≡ walk_out a r v
    path_some g h e = e ∙ sym (path_is h)

-- ---- a tag that is none of those before

below : (t k : ℕ) → t < suc k → (t ≡ k → ⊥) → t < k
below t k h n = omega arith

from_here : (t : ℕ) → LT ≤ t → t ≡ LT + (t - LT)
from_here t h = omega arith

so_many : (t : ℕ) → LT ≤ t → t < IN → LT + (t - LT) < IN
so_many t h l = omega arith

the_last : (t : ℕ) → EMPTY ≤ t → t < SET_OF → EMPTY ≡ t
the_last t h l = omega arith

-- ---- one operand, by the tag

module _ (sheet a r : List ℕ) (t v : ℕ) (g : Given) where
  pub one_is : (x : ℕ) → t ≡ IS → x ≡ get_or r 3 0 → out_of g ≡ is_out x (value_in a v) → out_of g ≡ one_out sheet t a r v
  unfolding one_out un_out is_out values value_in
  one_is x e ex h = h ∙ ap (λ (k : ℕ). is_out k (value_in a v)) ex ∙ ap (λ (s : ℕ). one_out sheet s a r v) (sym e)

  pub one_like : t ≡ LIKE → out_of g ≡ like_out (text_at sheet a) (drop 3 r) (value_in a v) → out_of g ≡ one_out sheet t a r v
  unfolding one_out un_out like_out values value_in schema_in
  one_like e h =
      let bytes : text_at sheet a ≡ (schema (held sheet a [])).bytes = fun_ext (λ (x : ℕ). sym (bytes_link true a sheet [] x)) in
      h ∙ ap (λ (f : ℕ → List ℕ). like_out f (drop 3 r) (value_in a v)) bytes ∙ ap (λ (p : List ℕ). like_out (schema (held sheet a [])).bytes p (value_in a v)) (sym (drop-drop 2 1 r)) ∙ ap (λ (s : ℕ). one_out sheet s a r v) (sym e)

  pub one_get : (x : ℕ) → t ≡ GET → x ≡ get_or r 3 0 → out_of g ≡ L.get_out true a v x → out_of g ≡ one_out sheet t a r v
  unfolding one_out get_out L.get_out values value_in
  one_get x e ex h = h ∙ ap (λ (k : ℕ). L.get_out true a v k) ex ∙ ap (λ (s : ℕ). one_out sheet s a r v) (sym e)

  pub one_has : (x : ℕ) → t ≡ HAS → x ≡ get_or r 3 0 → out_of g ≡ L.has_out true a v x → out_of g ≡ one_out sheet t a r v
  unfolding one_out has_out L.has_out values value_in
  one_has x e ex h = h ∙ ap (λ (k : ℕ). L.has_out true a v k) ex ∙ ap (λ (s : ℕ). one_out sheet s a r v) (sym e)

  pub one_path : (q : List ℕ) → t ≡ HASPATH → q ≡ r → out_of g ≡ walk_out a q v → out_of g ≡ one_out sheet t a r v
  unfolding one_out
  one_path q e er h = h ∙ ap (λ (x : List ℕ). walk_out a x v) er ∙ ap (λ (s : ℕ). one_out sheet s a r v) (sym e)

  pub one_not : t ≡ NOT → out_of g ≡ not_out (value_in a v) → out_of g ≡ one_out sheet t a r v
  unfolding one_out un_out not_out values value_in
  one_not e h = h ∙ ap (λ (s : ℕ). one_out sheet s a r v) (sym e)

  pub one_neg : t ≡ NEG → out_of g ≡ neg_out (value_in a v) → out_of g ≡ one_out sheet t a r v
  unfolding one_out un_out neg_out values value_in
  one_neg e h = h ∙ ap (λ (s : ℕ). one_out sheet s a r v) (sym e)

  pub one_empty : (IS ≤ t) × (t < SET_OF) → (t ≡ IS → ⊥) → (t ≡ LIKE → ⊥) → (t ≡ GET → ⊥) → (t ≡ HAS → ⊥) → (t ≡ HASPATH → ⊥) → (t ≡ NOT → ⊥) → (t ≡ NEG → ⊥)
      → out_of g ≡ empty_out (value_in a v) → out_of g ≡ one_out sheet t a r v
  unfolding one_out un_out empty_out values value_in
  one_empty b n₁ n₂ n₃ n₄ n₅ n₆ n₇ h = let e : EMPTY ≡ t = the_last t (above t NEG (above t NOT (above t HASPATH (above t HAS (above t GET (above t LIKE (above t IS b.0 n₁) n₂) n₃) n₄) n₅) n₆) n₇) b.1 in h ∙ ap (λ (s : ℕ). one_out sheet s a r v) e

-- ---- two operands

module _ (a : List ℕ) (t v w : ℕ) (g : Given) where
  pub two_eq : t ≡ EQ → out_of g ≡ truly (eqb v w) → out_of g ≡ two_out t a v w
  unfolding two_out bin_out
  two_eq e h = h ∙ ap (λ (s : ℕ). two_out s a v w) (sym e)

  pub two_in : t ≡ IN → out_of g ≡ in_out true a v w → out_of g ≡ two_out t a v w
  unfolding two_out rel_out in_out values value_in
  two_in e h = h ∙ ap (λ (s : ℕ). two_out s a v w) (sym e)

  pub two_gettag : t ≡ GETTAG → out_of g ≡ gettag_out true a v w → out_of g ≡ two_out t a v w
  unfolding two_out rel_out gettag_out values value_in
  two_gettag e h = h ∙ ap (λ (s : ℕ). two_out s a v w) (sym e)

  pub two_hastag : t ≡ HASTAG → out_of g ≡ hastag_out true a v w → out_of g ≡ two_out t a v w
  unfolding two_out rel_out hastag_out values value_in
  two_hastag e h = h ∙ ap (λ (s : ℕ). two_out s a v w) (sym e)

  pub two_contains : t ≡ CONTAINS → out_of g ≡ contains_out w (value_in a v) → out_of g ≡ two_out t a v w
  unfolding two_out bin_out contains_out values value_in
  two_contains e h = h ∙ ap (λ (s : ℕ). two_out s a v w) (sym e)

  pub two_all : t ≡ ALL → out_of g ≡ all_out (value_in a v) (value_in a w) → out_of g ≡ two_out t a v w
  unfolding two_out bin_out all_out values value_in
  two_all e h = h ∙ ap (λ (s : ℕ). two_out s a v w) (sym e)

  pub two_any : t ≡ ANY → out_of g ≡ any_out (value_in a v) (value_in a w) → out_of g ≡ two_out t a v w
  unfolding two_out bin_out any_out values value_in
  two_any e h = h ∙ ap (λ (s : ℕ). two_out s a v w) (sym e)

  longs : (i : ℕ) → LT + i < IN → arith_out (LT + i) (value_in a v) (value_in a w) ≡ two_out (LT + i) a v w
  unfolding two_out bin_out arith_out longs_out values value_in
  longs zero h = refl
  longs (suc zero) h = refl
  longs (suc (suc zero)) h = refl
  longs (suc (suc (suc zero))) h = refl
  longs (suc (suc (suc (suc zero)))) h = refl
  longs (suc (suc (suc (suc (suc i))))) h = absurd (omega (arith, h))

  pub two_arith : (EQ ≤ t) × (t < IF) → (t ≡ EQ → ⊥) → (t ≡ IN → ⊥) → (t ≡ GETTAG → ⊥) → (t ≡ HASTAG → ⊥) → (t ≡ CONTAINS → ⊥) → (t ≡ ALL → ⊥) → (t ≡ ANY → ⊥)
      → out_of g ≡ arith_out t (value_in a v) (value_in a w) → out_of g ≡ two_out t a v w
  two_arith b n₁ n₂ n₃ n₄ n₅ n₆ n₇ h =
      let lo = above t EQ b.0 n₁ in
      let hi = below t IN (below t GETTAG (below t HASTAG (below t CONTAINS (below t ALL (below t ANY b.1 n₇) n₆) n₅) n₄) n₃) n₂ in
      let e : t ≡ LT + (t - LT) = from_here t lo in
      h ∙ ap (λ (s : ℕ). arith_out s (value_in a v) (value_in a w)) e ∙ longs (t - LT) (so_many t lo hi) ∙ ap (λ (s : ℕ). two_out s a v w) (sym e)

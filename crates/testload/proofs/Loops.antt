-- The loops over the policies: what is left to print, from the state, the nodes and the policies so far. Assumes nothing.
use Rattle.std.proofs.Common.{◌≡◌, ℕ, suc, ◌+◌, ◌-◌, ◌*◌, ◌<◌, ◌≤◌, List, [], ◌∷◌, ◌++◌, sym, refl, ap, ◌∙◌, append-nil, add-one, arith}
use Rattle.sheet.specs.Bytes.{digits}
use Rattle.sheet.specs.Answer.{concat, printed}
use Rattle.sheet.proofs.answer.LinesBack.{concat_append}
use Rattle.print.specs.declared.Out.{Out}
use Rattle.print.specs.Out.{Prints}
use Rattle.print.proofs.Outs.{prints_as}
use Rattle.print.proofs.Printing.{Printing, printing_start, printing_on, printing_end}
use Rattle.drawn.specs.TestLoad.{Drawn, next, draw, drawn, id_lines, tree_lines, nodes_in, root_after, nodes_from, effect_as, policies_from}
use Rattle.testload.specs.Loaded.{Draws}
use Rattle.testload.proofs.Lines.{root_last, nodes_few}

one_left : (n i : ℕ) → i < n → n - i ≡ suc (n - (i + 1))
one_left n i h = omega arith

none_left : (n i : ℕ) → n ≤ i → n - i ≡ 0
none_left n i h = omega arith

all_left : (n : ℕ) → n ≡ n - 0
all_left n = omega arith

-- ---- ids

-- of a whole that is printed so much is left, into the same buffer
pub record Left (whole left : List ℕ) (o is : Out) : Type 0 where
  pub same : is.buffer.ghost_name ≡ o.buffer.ghost_name
  pub printing : Printing whole left o.buffer.now o.at is.buffer.now is.at

left_all : (whole left : List ℕ) (o : Out) → whole ≡ left → Left whole left o o
left_all whole left o e = record { same = refl; printing = printing_start whole left o.buffer.now o.at e o.countable.0 o.countable.1 }

left_less : {whole left : List ℕ} {o is : Out} → Left whole left o is → (xs rest : List ℕ) (out : Out) → left ≡ xs ++ rest → Prints is xs out → Left whole rest o out
left_less p xs rest out e w = record { same = w.same ∙ p.same; printing = printing_on p.printing xs rest out.buffer.now out.at e w.written }

left_none : {whole left : List ℕ} {o is : Out} → Left whole left o is → left ≡ [] → Prints o whole is
left_none p e = record { same = p.same; written = printing_end p.printing e }

-- i ids are printed
pub record Ids (n : ℕ) (o is : Out) (i : ℕ) : Type 0 where
  pub few : i ≤ n
  pub left : Left (concat (id_lines 0 n)) (concat (id_lines i (n - i))) o is

module _ (n : ℕ) (o is : Out) (i : ℕ) (p : Ids n o is i) where
  pub ids_on : (out : Out) → i < n → Prints is (printed "text" ((112 ∷ digits i) ∷ [])) out → Ids n o out (i + 1)
  ids_on out h w =
      let l = printed "text" ((112 ∷ digits i) ∷ []) in
      let e : concat (id_lines i (n - i)) ≡ l ++ concat (id_lines (i + 1) (n - (i + 1))) = ap (λ m. concat (id_lines i m)) (one_left n i h) ∙ ap (λ j. l ++ concat (id_lines j (n - (i + 1)))) (sym (add-one i)) in
      record { few = omega arith; left = left_less p.left l (concat (id_lines (i + 1) (n - (i + 1)))) out e w }

-- ---- what is drawn

-- lines over the draws that are left: f i node ds for the policies from i on, after so many nodes
module _ (f : ℕ → ℕ → List Drawn → List (List ℕ)) where
  -- i policies are printed: they have at most three nodes each, and the state is that after their draws
  pub record Going (seed n : ℕ) (o is : Out) (state node i : ℕ) : Type 0 where
    pub few : i ≤ n
    pub low : node ≤ 3 * i
    pub left : Left (concat (f 0 0 (drawn seed n))) (concat (f i node (drawn state (n - i)))) o is

  pub going_start : (seed n : ℕ) (o : Out) → Going seed n o o seed 0 0
  going_start seed n o =
      record {
        few = omega arith;
        low = omega arith;
        left = left_all (concat (f 0 0 (drawn seed n))) (concat (f 0 0 (drawn seed (n - 0)))) o (ap (λ m. concat (f 0 0 (drawn seed m))) (all_left n));
      }

  module _ (seed n : ℕ) (o is : Out) (state node i : ℕ) (p : Going seed n o is state node i) where
    -- the lines of the next policy, and the rest
    pub going_on : (lines : ℕ → ℕ → Drawn → List (List ℕ)) → ((i node : ℕ) (d : Drawn) (ds : List Drawn) → f i node (d ∷ ds) ≡ lines i node d ++ f (suc i) (node + nodes_in d.tree) ds)
        → (effect tree after many : ℕ) (out : Out) → i < n → Draws state effect tree after → many ≡ nodes_in tree → Prints is (concat (lines i node (record { effect = effect; tree = tree }))) out
        → Going seed n o out after (node + many) (i + 1)
    going_on lines steps effect tree after many out h d q w =
        let ds = drawn (next (next state)) (n - (i + 1)) in
        let x : Drawn = record { effect = draw (next state) 2; tree = draw (next (next state)) 3 } in
        let a : concat (f i node (drawn state (n - i))) ≡ concat (f i node (x ∷ ds)) = ap (λ m. concat (f i node (drawn state m))) (one_left n i h) in
        let b : concat (f i node (x ∷ ds)) ≡ concat (lines i node x) ++ concat (f (suc i) (node + nodes_in x.tree) ds) = ap concat (steps i node x ds) ∙ concat_append (lines i node x) (f (suc i) (node + nodes_in x.tree) ds) in
        let m : many ≡ nodes_in x.tree = q ∙ ap nodes_in d.tree_is in
        let l = concat (lines i node (record { effect = effect; tree = tree })) in
        let c : l ++ concat (f (i + 1) (node + many) (drawn after (n - (i + 1)))) ≡ concat (lines i node x) ++ concat (f (suc i) (node + nodes_in x.tree) ds)
        = λ j. concat (lines i node (record { effect = d.effect_is j; tree = d.tree_is j })) ++ concat (f (add-one i j) (node + m j) (drawn (d.after_is j) (n - (i + 1)))) in
        let (one, three) = nodes_few tree in
        record { few = omega arith; low = omega (arith, q, three, p.low); left = left_less p.left l (concat (f (i + 1) (node + many) (drawn after (n - (i + 1))))) out (a ∙ b ∙ sym c) w }

    pub going_end : ((i node : ℕ) → f i node [] ≡ []) → n ≤ i → Prints o (concat (f 0 0 (drawn seed n))) is
    going_end none h = left_none p.left (ap (λ m. concat (f i node (drawn state m))) (none_left n i h) ∙ ap concat (none i node))

-- ---- nodes

abbrev pub node_lines : ℕ → ℕ → List Drawn → List (List ℕ)
node_lines i node ds = nodes_from node ds

module _ (seed n : ℕ) (o is : Out) (state node i : ℕ) (p : Going node_lines seed n o is state node i) where
  pub nodes_on : (effect tree after many : ℕ) (out : Out) → i < n → Draws state effect tree after → many ≡ nodes_in tree → Prints is (concat (tree_lines node tree)) out
      → Going node_lines seed n o out after (node + many) (i + 1)
  nodes_on effect tree after many out h d q w = going_on node_lines seed n o is state node i p (λ i node d. tree_lines node d.tree) (λ i node d ds. refl) effect tree after many out h d q w

  pub nodes_end : n ≤ i → Prints o (concat (nodes_from 0 (drawn seed n))) is
  nodes_end h = going_end node_lines seed n o is state node i p (λ i node. refl) h

-- ---- policies

module _ (seed n : ℕ) (o is : Out) (state node i : ℕ) (p : Going policies_from seed n o is state node i) where
  pub policies_on : (effect tree after many : ℕ) (out : Out) → i < n → Draws state effect tree after → many ≡ nodes_in tree
      → Prints is (printed "policy" (digits (5 + i) ∷ effect_as effect ∷ digits (node + many - 1) ∷ [])) out → Going policies_from seed n o out after (node + many) (i + 1)
  policies_on effect tree after many out h d q w =
      let line : ℕ → List ℕ = λ r. printed "policy" (digits (5 + i) ∷ effect_as effect ∷ digits r ∷ []) in
      let r : node + many - 1 ≡ root_after node tree = ap (λ m. node + m - 1) q ∙ root_last node tree in
      going_on policies_from seed n o is state node i p (λ i node d. printed "policy" (digits (5 + i) ∷ effect_as d.effect ∷ digits (root_after node d.tree) ∷ []) ∷ []) (λ i node d ds. refl) effect tree after many out h d q
      (prints_as w (ap line r ∙ sym (append-nil (line (root_after node tree)))))

  pub policies_end : n ≤ i → Prints o (concat (policies_from 0 0 (drawn seed n))) is
  policies_end h = going_end policies_from seed n o is state node i p (λ i node. refl) h

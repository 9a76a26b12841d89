-- Document 02, 2.13, by number: a run over the residuals of a run, over the rows it left, is that run: the same residuals, classes and rows.
use mathlib.Core.Path.{◌≡◌, refl, sym, ◌∙◌, ap, subst}
use mathlib.Core.List.{List, [], ◌∷◌}
use Prim.Native.Nat.{ℕ}
use Rattle.cedar.specs.Value.{Value}
use Rattle.cedar.specs.Types.{Schema}
use Rattle.cedar.specs.Residual.{Node, Expr, Class}
use Rattle.cedar.specs.Response.{Verdict}
use Rattle.cedar.specs.Entities.{PEnv}
use Rattle.cedar.specs.Interpret.{interpret, class}
use Rattle.cedar.specs.Rows.{Row}
use Rattle.cedar.specs.Table.{Table}
use Rattle.cedar.specs.Numbered.{NEnv, out, n_class, n_interpret}
use Rattle.cedar.specs.Reads.{Reads, EnvRead}
use Rattle.cedar.specs.Runs.{Policy, NPolicy, NVerdict, n_run, verdicts}
use Rattle.cedar.specs.ContentRun.{partial_answer}
use Rattle.cedar.proofs.TableLaws.{number_inj}
use Rattle.cedar.proofs.ReadsLaws.{keep_reads, as_is}
use Rattle.again.proofs.ReadsInjective.{reads_inj}
use Rattle.cedar.proofs.Refine.{refine, class_of_law}
use Rattle.cedar.proofs.Again.{again}
use Rattle.cedar.proofs.SettledByNumber.{Residuals}
use Rattle.again.proofs.Quiet.{quiet}
use Rattle.cedar.proofs.SettledByNumber as R

-- the lines of a run as policies: each with its residual
abbrev pub handed_back : List NVerdict → List NPolicy
handed_back [] = []
handed_back (l ∷ ls) = record { effect = l.effect; tree = l.root } ∷ handed_back ls

head_class : Class → List Verdict → Class
head_class c [] = c
head_class c (v ∷ vs) = v.class

tail : List Verdict → List Verdict
tail [] = []
tail (v ∷ vs) = vs

-- lines that are called what the policies are by content: the first, and the rest
module _ (S : Schema) (P : PEnv) (l : NVerdict) (ls : List NVerdict) (p : Policy) (ps : List Policy) (c : verdicts (l ∷ ls) ≡ partial_answer S P (p ∷ ps)) where
  pub first_called : l.class ≡ class (interpret S P p.tree)
  unfolding head_class
  first_called = ap (head_class l.class) c

  pub rest_called : verdicts ls ≡ partial_answer S P ps
  unfolding tail
  rest_called = ap tail c

module _ (S : Schema) (N : NEnv) (P : PEnv) where
  module _ {C : List Value} {Q : List Row} (t : Table Q C) (env : EnvRead C N P) where
    -- A TREE THAT READS AS A RESIDUAL IS LEFT AS IT IS, AND NO VALUE IS MADE
    pub again_tree : (a : Node ℕ) (e : Expr) → Reads C a (interpret S P e) → n_interpret S N a Q ≡ out Q a
    again_tree a e h =
        let k = refine S N P a t env h in
        let q : (n_interpret S N a Q).tree ≡ a = reads_inj (number_inj k.table) (subst (Reads k.contents (n_interpret S N a Q).tree) (again S P e) k.reads) (keep_reads k.keeps h) in
        λ i. record { rows = quiet S N P a (interpret S P e) C Q t env h q i; tree = q i }

    -- it is called what the residual is called
    pub again_class : (a : Node ℕ) (e : Expr) → Reads C a (interpret S P e) → n_class (n_interpret S N a Q) ≡ class (interpret S P e)
    again_class a e h = ap n_class (again_tree a e h) ∙ class_of_law (as_is t h)

    -- THE RUN OVER THE RESIDUALS OF A RUN IS THAT RUN
    pub lines_again : {ls : List NVerdict} {ps : List Policy} → Residuals S N P C ls ps → verdicts ls ≡ partial_answer S P ps → n_run S N (handed_back ls) Q ≡ record { rows = Q; lines = ls }
    lines_again R.none c = refl
    lines_again (R.more {l = l} {ls = ls} {p = p} {ps = ps} h hs) c =
        ap (λ o. record { rows = (n_run S N (handed_back ls) o.rows).rows; lines = record { effect = l.effect; class = n_class o; root = o.tree } ∷ (n_run S N (handed_back ls) o.rows).lines }) (again_tree l.root p.tree h)
        ∙ (λ i. record { rows = (lines_again hs (rest_called S P l ls p ps c) i).rows; lines = record { effect = l.effect; class = (class_of_law (as_is t h) ∙ sym (first_called S P l ls p ps c)) i; root = l.root } ∷ (lines_again hs (rest_called S P l ls p ps c) i).lines })

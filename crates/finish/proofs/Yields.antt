-- What the code makes of the residuals is what the definition says: the classes that they yield, by their numbers. Assumes nothing.
use mathlib.Core.Path.{◌≡◌, refl, sym, ◌∙◌, ap, ap₂}
use mathlib.Core.Bool.{true, false}
use mathlib.Core.List.{List, [], ◌∷◌}
use Prim.Native.Nat.{ℕ, ◌≤◌}
use lib.ListN.{length, get_or}
use Rattle.cedar.specs.Value.{Value, vbool}
use Rattle.cedar.specs.Residual.{Node, Expr}
use Rattle.cedar.specs.Evaluate.{eval}
use Rattle.cedar.specs.Reads.{Reads}
use Rattle.cedar.specs.Runs.{NVerdict, result_class}
use Rattle.sheet.specs.Forms.{partial, complete}
use Rattle.sheet.specs.State.{State}
use Rattle.sheet.specs.Sheet.{read}
use Rattle.sheet.specs.Content.{contents, schema, env}
use Rattle.sheet.specs.Literals.{valued}
use Rattle.sheet.specs.Answer.{run}
use Rattle.sheet.specs.Agreement.{agrees}
use Rattle.sheet.proofs.demand3.Demand3Bytes.{Settles}
use Rattle.sheet.proofs.answer.AnswerRead.{values_of, reads_valued}
use Rattle.table.specs.Layout.{held}
use Rattle.residual.specs.Classes.{class_number}
use Rattle.tpe.specs.Run.{run_of}
use Rattle.tpe.proofs.Policies.{roots_of}
use Rattle.tpe.proofs.Stands.{tys}
use Rattle.evaluator.specs.Run.{class_numbers}
use Rattle.evaluator.proofs.Gives.{Stand}
use Rattle.evaluator.proofs.Complete.{schema_same, complete_stand}
use Rattle.yielding.specs.Yields.{yielded_of}
use Rattle.yielding.proofs.Working.{ReadEach, read_none, read_more}
use Rattle.yielding.proofs.Stacking.{classes_of}
use Rattle.yielding.proofs.Finishing.{settled, readable, yielded_classes}
use Rattle.response.specs.Runs.{Holding}
use Rattle.finished.specs.Finish.{content_of, yields_of, finished_results}
use Rattle.finished.proofs.FinishAgrees.{no_break_agrees}
use Rattle.finish.specs.Parts.{line_of, Stands}

module _ (p c a b d e ns : List ℕ) (s : Stands partial p a b) (g : Stands complete c d e) (z : line_of p c ≡ 0) (long : 1024 ≤ length ns) where
  abbrev P : State
  P = (read partial p).state

  abbrev C : State
  C = (read complete c).state

  agree : agrees P C ≡ true
  agree = no_break_agrees P C z

  -- what the words of both sheets hold
  abbrev h : Holding partial p a b
  h = s.holding

  abbrev k : Holding complete c d e
  k = g.holding

  stand : Stand c d (env C) (contents C) d
  stand = complete_stand c d e k.accepted k.state k.sound k.none k.runs k.fits

  abbrev both : Settles P C
  both = settled p a b s.accepted h.accepted h.state h.sound h.none h.runs h.fits c d e g.accepted k.state k.none k.fits agree stand ns long

  as_content : {x : Node ℕ} {y : Expr} → Reads both.values x y → valued (content_of P) x ≡ y
  as_content {x} r = ap (λ (l : List Value). valued (λ n. get_or l n (vbool false)) x) (values_of p s.accepted both.table) ∙ reads_valued both.values r

  -- the schema that the words hold is the sheet's
  schema_there : schema (held c d []) ≡ schema C
  schema_there = schema_same c d e ∙ ap schema (sym k.state)

  classes_from : (ls : List NVerdict) (Xs : List Expr) → ReadEach c d (env C) both.values (roots_of ls) Xs → classes_of c d (env C) (tys p a) both.values 0 [] Xs ≡ class_numbers (yields_of P C ls)
  classes_from (l ∷ ls) [] x3 = elim x3 [ ]
  classes_from [] (X ∷ Xs) x'' = elim x'' [ ]
  classes_from [] [] read_none = refl
  classes_from (l ∷ ls) (X ∷ Xs) (read_more r rs) =
      ap₂ (λ (x : ℕ) (xs : List ℕ). x ∷ xs) (λ i. class_number (result_class (eval (schema_there i) (env C) (sym (as_content r) i)))) (classes_from ls Xs rs)

  pub yields_results : (yielded_of c (run_of partial p a []).log (run_of partial p a []).words d ns).log ≡ class_numbers (finished_results P C)
  unfolding finished_results
  yields_results =
      let (Xs, r) = readable p a b s.accepted h.accepted h.state h.sound h.none h.runs h.fits c d e g.accepted k.state k.none k.fits agree stand ns long in
      yielded_classes p a b s.accepted h.accepted h.state h.sound h.none h.runs h.fits c d e g.accepted k.state k.none k.fits agree stand ns long Xs r ∙ classes_from (run partial P).lines Xs r

use Rattle.std.proofs.Common.{List, sym, subst}
use Rattle.model.specs.Graph.{Scope}
use Rattle.model.specs.Rules.{KeepsFrom, FirstBroken}
use Rattle.workbook.specs.declared.change.Step.{Step}
use Rattle.workbook.specs.Steps.{stepped, Fits}
use Rattle.workbook.specs.Tables.{graph_of}
use Rattle.workbook.proofs.Undo.{fits, fits_back, restored}
use Rattle.workbook.proofs.book.Workbook.try_step.Goals as goal

pub apply-requires : goal.apply-requires
apply-requires c = fits (graph_of c.args.self.now.tables) c.args.self.now.kept c.args.step c.requires

pub apply-requires-in-Some : goal.apply-requires-in-Some
apply-requires-in-Some c =
    let g = graph_of c.args.self.now.tables in
    let P : Step → Type 0 = λ i. Fits i (stepped c.args.step g) in
    let h = subst P (sym c.inverse-inverse.ensures) (fits_back g c.args.self.now.kept c.args.step c.requires) in
    subst (λ (x : List Scope). Fits c.inverse-inverse.result x) (sym c.apply.ensures) h

pub invariant_of-self : goal.invariant_of-self
invariant_of-self c =
    let g = graph_of c.args.self.now.tables in
    let e = restored g c.args.self.now.kept c.args.step _ _ _ c.requires c.inverse-inverse.ensures c.apply.ensures c.apply-in-Some.ensures in
    record { kept = subst (KeepsFrom 22) (sym e) c.args.self.now.kept }

pub returns-in-Some : goal.returns-in-Some
returns-in-Some c =
    let g = graph_of c.args.self.now.tables in
    let P : List Scope → Type 0 = λ h. FirstBroken h c.in-Some.refusal in
    (subst P c.apply.ensures c.in-Some.ensures, restored g c.args.self.now.kept c.args.step _ _ _ c.requires c.inverse-inverse.ensures c.apply.ensures c.apply-in-Some.ensures)

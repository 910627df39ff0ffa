use Rattle.std.proofs.Common.{refl, arith}
use Rattle.workbook.specs.declared.edit.Edit.TheVariants.{SetPasses}
use Rattle.workbook.specs.Tables.{graph_of}
use Rattle.workbook.proofs.Describing.{at_below, present, described_set, described_nowhere}
use Rattle.workbook.proofs.book.Workbook.set_passes.Goals as goal

pub returns-then-scope-scopes : goal.returns-then-scope-scopes
returns-then-scope-scopes c = let g = graph_of c.args.self.now.tables in described_nowhere g (SetPasses c.args.scope c.args.least c.args.most) g (omega (arith, c.scopes.ensures)) refl

pub returns : goal.returns
returns c =
    let g = graph_of c.args.self.now.tables in
    let w = at_below g c.args.scope (omega (arith, c.scopes.ensures)) in
    described_set g (SetPasses c.args.scope c.args.least c.args.most) (present g c.args.scope w.0 w.1) (λ x o. absurd o) _ _ refl c.try_step.ensures

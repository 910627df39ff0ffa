use Rattle.std.proofs.Common.{Some, sym, refl, ap, ◌∙◌, arith}
use Rattle.workbook.specs.declared.edit.Edit.TheVariants.{SetFigures}
use Rattle.workbook.specs.Tables.{graph_of}
use Rattle.workbook.proofs.Describing.{at_below, present, described_set, described_nowhere, block_own, figures_missing, figures_call}
use Rattle.workbook.proofs.book.Workbook.set_figures.Goals as goal

pub returns-then-scope-scopes : goal.returns-then-scope-scopes
returns-then-scope-scopes c =
    let g = graph_of c.args.self.now.tables in
    described_nowhere g (SetFigures c.args.scope c.args.node c.args.time c.args.stack) g (omega (arith, c.scopes.ensures)) refl

pub returns-in-None : goal.returns-in-None
returns-in-None c =
    let g = graph_of c.args.self.now.tables in
    let w = at_below g c.args.scope (omega (arith, c.scopes.ensures)) in
    figures_missing g c.args.self.now.kept c.args.scope w.0 w.1 c.args.node c.args.time c.args.stack (sym c.in-None.ensures) _ c.no_block-in-None.ensures g refl

pub returns-in-Some-Block : goal.returns-in-Some-Block
returns-in-Some-Block c =
    let g = graph_of c.args.self.now.tables in
    let w = at_below g c.args.scope (omega (arith, c.scopes.ensures)) in
    described_set g (SetFigures c.args.scope c.args.node c.args.time c.args.stack) (present g c.args.scope w.0 w.1)
    (block_own g c.args.self.now.kept c.args.scope w.0 w.1 c.args.node c.args.time c.args.stack _ _ (sym c.in-Some-Block.ensures ∙ ap Some c.in-Some-Block.field-0-is)) _ _ refl c.try_step.ensures

pub returns-in-Some-Call : goal.returns-in-Some-Call
returns-in-Some-Call c =
    let g = graph_of c.args.self.now.tables in
    let w = at_below g c.args.scope (omega (arith, c.scopes.ensures)) in
    figures_call g c.args.self.now.kept c.args.scope w.0 w.1 c.args.node c.args.time c.args.stack _ (sym c.in-Some-Call.ensures ∙ ap Some c.in-Some-Call.field-0-is) _ c.no_block.ensures g refl

use Rattle.std.proofs.Common.{length}
use Rattle.workbook.specs.declared.edit.Edit.TheVariants.{AddBlock}
use Rattle.workbook.specs.Tables.{graph_of}
use Rattle.workbook.proofs.Describing.{described_in}
use Rattle.workbook.proofs.book.Workbook.add_block.Goals as goal

pub returns : goal.returns
returns c =
    let e = c.nodes-count.ensures in
    described_in (graph_of c.args.self.now.tables) c.args.scope (λ x. length x.nodes) (AddBlock c.args.scope c.args.time c.args.stack) _ _ _ e e (λ w. w) (λ w. w) (λ x o. o) c.add.ensures

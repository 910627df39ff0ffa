use Rattle.std.proofs.Common.{length}
use Rattle.workbook.specs.declared.edit.Edit.TheVariants.{AddCall}
use Rattle.workbook.specs.Tables.{graph_of}
use Rattle.workbook.proofs.Describing.{described_in}
use Rattle.workbook.proofs.book.Workbook.add_call.Goals as goal

pub returns : goal.returns
returns c =
    let e = c.nodes-count.ensures in
    described_in (graph_of c.args.self.now.tables) c.args.scope (λ x. length x.nodes) (AddCall c.args.scope c.args.callee) _ _ _ e e (λ w. w) (λ w. w) (λ x o. o) c.add.ensures

use Rattle.std.proofs.Common.{Some, ap}
use Rattle.workbook.specs.declared.edit.Edit.TheVariants.{AddScope}
use Rattle.workbook.specs.Tables.{graph_of}
use Rattle.workbook.proofs.Describing.{described_added}
use Rattle.workbook.proofs.book.Workbook.add_scope.Goals as goal

pub returns : goal.returns
returns c = described_added (graph_of c.args.self.now.tables) (AddScope c.args.least c.args.most) (λ w. w) (λ x w. absurd w) _ _ _ (ap Some c.scopes-count.ensures) c.add.ensures

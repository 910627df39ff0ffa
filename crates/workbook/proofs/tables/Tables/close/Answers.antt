use Rattle.std.proofs.Common.{vec_items}
use Rattle.workbook.proofs.Meanings.{closed}
use Rattle.workbook.proofs.tables.Tables.close.Goals as goal

pub returns : goal.returns
returns c = closed (vec_items c.args.self.now.scopes) _ _ c.take_last-sheet.ensures.items

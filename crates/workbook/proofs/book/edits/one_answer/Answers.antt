use Rattle.workbook.proofs.Once.{one_answer}
use Rattle.workbook.proofs.book.edits.one_answer.Goals as goal

pub returns : goal.returns
returns c = one_answer

use Rattle.std.proofs.Common.{ap, ◌∙◌}
use Rattle.image.specs.Meaning.{reading}
use Rattle.image.specs.Given.{left}
use Rattle.image.proofs.Walks.{first_fault, fault_given}
use Rattle.image.proofs.open.check_records.Goals as goal

pub loop-found-init : goal.loop-found-init
loop-found-init c = ap first_fault (ap left c.into_iter-found-iterator.ensures.into_iter_gives ∙ c.of-found-items.ensures) ∙ fault_given (reading c.args.bytes.now)

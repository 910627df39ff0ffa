use Rattle.std.proofs.Common.{◌≡◌}
use Rattle.image.specs.Meaning.{fault_of, reading}
use Rattle.image.specs.Given.{left}
use Rattle.image.proofs.Walks.{first_fault}
use Rattle.image.proofs.open.check_records.Given as goal

abbrev pub invariant-loop-found : goal.invariant-loop-found
invariant-loop-found l = first_fault (left l.found-iterator) ≡ fault_of (reading l.bytes)

-- What a reader of records gives.
use Rattle.std.specs.Prelude.{List, [], ◌∷◌, Ok, Err, Result}
use Rattle.model.specs.declared.refusal.Refusal.{Refusal}
use Rattle.image.specs.declared.record.Record.{Record}
use Rattle.image.specs.declared.records.Records.{Records}
use Rattle.image.specs.Meaning.{Reading, read}
use Rattle.image.specs.Meaning.Reading.{end, fault, next}

-- each record, and behind the last one the fault that there is
abbrev pub given : Reading → List (Result Record Refusal)
given end = []
given (fault e) = Err e ∷ []
given (next r x) = Ok r ∷ given x

-- what a reader has still to give
abbrev pub left : Records → List (Result Record Refusal)
left s = given (read 0 s.seen s.rest.now)

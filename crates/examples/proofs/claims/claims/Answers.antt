use Rattle.examples.proofs.Checks.{every_example}
use Rattle.examples.proofs.claims.claims.Goals as goal

pub returns : goal.returns
returns c = record { listed = c.noted.ensures; right = every_example }

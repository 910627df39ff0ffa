use Rattle.std.proofs.Common.{rules}
use Rattle.rules.proofs.ByNumber.{lesser_is}
use Rattle.rules.proofs.finding.lower.Goals as goal

pub returns-in-Some-Some : goal.returns-in-Some-Some
returns-in-Some-Some c = let e = lesser_is c.in-Some-Some.x c.in-Some-Some.y in search rules

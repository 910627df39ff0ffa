use Rattle.model.proofs.Powers.{power_add, power_ends_between}
use Rattle.search.proofs.power.power_laws.Goals as goal

pub returns : goal.returns
returns g c = record { splits = power_add g.C.Cost.laws; ends = power_ends_between g.C.Cost.laws }

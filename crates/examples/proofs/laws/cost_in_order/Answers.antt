use Rattle.examples.proofs.Order.{in_order}
use Rattle.examples.proofs.laws.cost_in_order.Goals as goal

pub returns : goal.returns
returns g c = in_order g.C.Cost.measure g.C.Cost.laws

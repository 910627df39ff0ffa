use Rattle.std.proofs.Common.{Some, sym, ap, ◌∙◌}
use Rattle.model.specs.Counts.{powers}
use Rattle.model.proofs.Ranges.{powers_some}
use Rattle.bound.proofs.costs.powers_of.Goals as goal

pub returns : goal.returns
returns g c = ap Some c.power_of.ensures ∙ sym (powers_some g.C.Cost.laws c.in_ok-cost.field-0 c.args.times) ∙ ap (λ o. powers g.C.Cost.measure o c.args.times) (sym c.in_ok-cost.was)

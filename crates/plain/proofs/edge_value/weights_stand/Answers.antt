use Rattle.plain.proofs.Weights.{kept_weights}
use Rattle.plain.proofs.edge_value.weights_stand.Goals as goal

pub returns : goal.returns
returns c = kept_weights

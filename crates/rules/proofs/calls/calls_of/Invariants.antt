use Rattle.std.proofs.Common.{◌≡◌, length}
use Rattle.rules.specs.CallOrders.{RowTo}
use Rattle.rules.proofs.calls.calls_of.Given as goal

abbrev pub invariant-loop-n : goal.invariant-loop-n
invariant-loop-n g l = (length l.called ≡ 16) × RowTo (g.G.ScopeGraph.graph l.graph) l.scope l.n l.called

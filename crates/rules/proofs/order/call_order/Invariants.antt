use Rattle.rules.proofs.Placing.{Placing}
use Rattle.rules.proofs.order.call_order.Given as goal

abbrev pub invariant-loop-k : goal.invariant-loop-k
invariant-loop-k g l = Placing (g.G.ScopeGraph.graph l.graph) l.order l.placed l.k

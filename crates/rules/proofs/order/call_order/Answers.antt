use Rattle.std.proofs.Common.{inr, arith}
use Rattle.rules.proofs.Placing.{placing_next, placing_all, blocked_ring}
use Rattle.rules.proofs.order.call_order.Goals as goal

pub returns-in_err-scope : goal.returns-in_err-scope
returns-in_err-scope g c =
    rw c.from_residual.ensures (inr (blocked_ring (g.G.ScopeGraph.graph c.args.graph.now) c.loop-k.order c.loop-k.placed c.call_table-table.result c.scopes-scopes.result c.loop-k.k c.if-scopes-gt-SCOPES.false (λ i h. c.call_table-table.ensures i (omega arith)) c.loop-k.invariant c.loop-k-test.true c.in_err-scope.ensures))

pub loop-k-preserved : goal.loop-k-preserved
loop-k-preserved g c =
    placing_next (g.G.ScopeGraph.graph c.args.graph.now) c.loop-k.order c.loop-k.placed c.call_table-table.result c.scopes-scopes.result c.loop-k.k c.in_ok-scope.scope c.scopes-scopes.ensures c.if-scopes-gt-SCOPES.false (λ i h. c.call_table-table.ensures i (omega arith)) c.loop-k.invariant c.loop-k-test.true c.in_ok-scope.ensures

pub returns : goal.returns
returns g c =
    placing_all (g.G.ScopeGraph.graph c.args.graph.now) c.loop-k.order c.loop-k.placed c.loop-k.k (omega (arith, c.scopes-scopes.ensures)) c.loop-k.invariant

use Rattle.std.proofs.Common.{rules}
use Rattle.rules.specs.Faults.{scope_finding_lem}
use Rattle.rules.proofs.Judging.{judged_ring, judged_no_ring}
use Rattle.rules.proofs.judge.first_broken.Goals as goal

pub returns-then-has_ring : goal.returns-then-has_ring
returns-then-has_ring g c =
    let G = g.G.ScopeGraph.graph c.args.graph.now in
    judged_ring G c.in_default.ensures c.scopes-scopes.result c.scopes-scopes.ensures c.lowest_of-fault.result (c.lowest_of-fault.ensures (scope_finding_lem G c.scopes-scopes.result) (λ n r p. search rules)) c.if-has_ring.ensures c.lower.result c.lower.ensures

pub returns-else-has_ring : goal.returns-else-has_ring
returns-else-has_ring g c =
    let G = g.G.ScopeGraph.graph c.args.graph.now in
    judged_no_ring G c.in_default.ensures c.scopes-scopes.result c.scopes-scopes.ensures c.lowest_of-fault.result (c.lowest_of-fault.ensures (scope_finding_lem G c.scopes-scopes.result) (λ n r p. search rules)) c.if-has_ring.ensures

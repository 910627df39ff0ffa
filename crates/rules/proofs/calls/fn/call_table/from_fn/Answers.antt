use Rattle.std.proofs.Common.{arith}
use Rattle.rules.proofs.Absent.{absent_row}
use Rattle.rules.proofs.calls.fn.call_table.from_fn.Goals as goal

pub returns-else-scope-scopes : goal.returns-else-scope-scopes
returns-else-scope-scopes g c = absent_row (g.G.ScopeGraph.graph c.captures.graph.now) c.args.scope (omega (arith, c.if-scope-scopes.false, c.requires))

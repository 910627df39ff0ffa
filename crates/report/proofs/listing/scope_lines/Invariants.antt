use Rattle.std.proofs.Common.{◌≡◌, ◌++◌, drop, string_bytes}
use Rattle.report.specs.Lines.{lines}
use Rattle.report.proofs.listing.scope_lines.Given as goal

-- what is written, with the lines of the scopes that are left, is the whole listing
abbrev pub invariant-loop-scope : goal.invariant-loop-scope
invariant-loop-scope g l = string_bytes l.text ++ lines l.scope (drop l.scope (g.G.ScopeGraph.graph l.graph)) ≡ lines 0 (g.G.ScopeGraph.graph l.graph)

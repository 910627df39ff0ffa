use Rattle.std.proofs.Common.{◌≤◌, take}
use Rattle.model.specs.Trail.{IsCut}
use Rattle.search.specs.Flows.{facts_of}
use Rattle.plain.specs.Ranges.{Proper}
use Rattle.plain.proofs.plain_scope.PlainScope.range_end.Given as goal

-- the first facts are looked at
abbrev pub invariant-loop-fact : goal.invariant-loop-fact
invariant-loop-fact l = l.first ≤ l.self.most → Proper (facts_of l.self.flow) → IsCut (take l.fact-index (facts_of l.self.flow)) l.first l.self.most l.end

use Rattle.std.proofs.Common.{◌-◌}
use Rattle.plain.specs.Copies.{scope_of}
use Rattle.bound.specs.Progress.{Stands}
use Rattle.bound.proofs.solve.search_ranges.Given as goal

abbrev pub invariant-loop-progress : goal.invariant-loop-progress
invariant-loop-progress g l = Stands g.C.Cost.measure (scope_of l.search.scope.now) (g.V.EdgeValues.values l.search.values.now) l.progress

abbrev pub decreases-loop-progress : goal.decreases-loop-progress
decreases-loop-progress g l = l.search.scope.now.most - l.progress.done

use Rattle.std.proofs.Common.{◌≡◌, ℕ}
use Rattle.model.specs.Best.{IsBest}
use Rattle.search.specs.Flows.{edges_of}
use Rattle.search.specs.Tables.{cost_of_lem, OnSome, IsStep}
use Rattle.search.specs.Walks.{masked, exit_from}
use Rattle.search.proofs.Steps.{FromBelow}
use Rattle.search.proofs.Chains.{past}
use Rattle.search.proofs.table.Round.best_from.Given as goal

-- the best of the edges below number i, where the next edge out of the node is the first from i on
abbrev pub invariant-loop-exit : goal.invariant-loop-exit
invariant-loop-exit g l =
    let m = g.C.Cost.measure in
    let value = masked (g.V.EdgeValues.values l.self.values.now) l.self.usable in
    let edges = edges_of l.self.flow.now in
    ((i : ℕ) × (l.exit ≡ exit_from edges l.node i) × IsBest m (FromBelow g.C.Cost.laws value edges l.self.ending l.node i) (cost_of_lem l.best))
    × OnSome (IsStep m value edges l.self.ending l.table.costs.now l.choices l.node) l.best

abbrev pub decreases-loop-exit : goal.decreases-loop-exit
decreases-loop-exit g l = past 96 l.exit

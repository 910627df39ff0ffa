use Rattle.std.proofs.Common.{◌≡◌, ℕ, ◌<◌, ◌≤◌, length}
use Rattle.search.specs.Flows.{edges_of}
use Rattle.search.specs.Tables.{IsEntry}
use Rattle.search.specs.Walks.{masked}
use Rattle.search.proofs.table.Round.fill.Given as goal

-- the entries from node k on are right
abbrev pub invariant-loop-k : goal.invariant-loop-k
invariant-loop-k g l =
    (length l.choices ≡ 32)
    × ((j : ℕ) → l.k ≤ j → j < l.self.flow.now.nodes → IsEntry g.C.Cost.measure (masked (g.V.EdgeValues.values l.self.values.now) l.self.usable) (edges_of l.self.flow.now) l.self.ending l.table.costs.now l.choices j)

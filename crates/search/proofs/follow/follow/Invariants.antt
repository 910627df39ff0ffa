use Rattle.search.specs.Flows.{edges_of}
use Rattle.search.specs.Ways.{way_edges}
use Rattle.search.proofs.Followed.{Underway, left_from}
use Rattle.search.proofs.follow.follow.Given as goal

abbrev pub invariant-loop-place : goal.invariant-loop-place
invariant-loop-place l = Underway (edges_of l.flow) l.choices l.flow.nodes l.place (way_edges l.way)

abbrev pub decreases-loop-place : goal.decreases-loop-place
decreases-loop-place l = left_from l.place

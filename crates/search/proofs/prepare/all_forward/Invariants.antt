use Rattle.std.proofs.Common.{◌≡◌, drop}
use Rattle.search.specs.Walks.{all_forward_lem}
use Rattle.search.proofs.prepare.all_forward.Given as goal

abbrev pub invariant-loop-edge : goal.invariant-loop-edge
invariant-loop-edge l = all_forward_lem l.nodes (drop l.edge-index l.edges) ≡ all_forward_lem l.nodes l.edges

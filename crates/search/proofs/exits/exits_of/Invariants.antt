use Rattle.std.proofs.Common.{◌≡◌, length}
use Rattle.search.specs.Exits.{AreExitsFrom}
use Rattle.search.proofs.exits.exits_of.Given as goal

abbrev pub invariant-loop-e : goal.invariant-loop-e
invariant-loop-e l = (length l.first ≡ 32) × (length l.next ≡ 96) × AreExitsFrom l.edges l.e l.first l.next

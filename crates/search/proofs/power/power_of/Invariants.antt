use Rattle.std.proofs.Common.{◌≡◌}
use Rattle.model.specs.Best.{power}
use Rattle.search.proofs.power.power_of.Given as goal

-- what is joined, and what is left, are the whole
abbrev pub invariant-loop-left : goal.invariant-loop-left
invariant-loop-left g l = let m = g.C.Cost.measure in m.join l.sum (power m l.square l.left) ≡ power m l.initial.square l.initial.left

abbrev pub decreases-loop-left : goal.decreases-loop-left
decreases-loop-left g l = l.left

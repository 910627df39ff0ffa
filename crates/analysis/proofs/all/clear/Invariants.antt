use Rattle.std.proofs.Common.{◌≡◌, length, take, replicate}
use Rattle.analysis.proofs.all.clear.Given as goal

abbrev pub invariant-loop-bound : goal.invariant-loop-bound
invariant-loop-bound g l = (length l.bounds ≡ length l.fn.bounds) × (take l.bound-index l.bounds ≡ replicate l.bound-index g.C.Cost.measure.nothing)

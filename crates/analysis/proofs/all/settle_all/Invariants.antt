use Rattle.std.proofs.Common.{◌≡◌, ◌*◌, length, drop}
use Rattle.model.specs.Trail.{size}
use Rattle.analysis.specs.States.{AreSettled}
use Rattle.analysis.proofs.all.settle_all.Given as goal

-- the scopes before this place are settled, and nothing behind the sections is written
abbrev pub invariant-loop-place : goal.invariant-loop-place
invariant-loop-place g l =
    AreSettled g.C.Cost.measure (g.G.ScopeGraph.graph l.graph) l.bounds l.trail l.solved l.order l.place
    × (drop (size * length (g.G.ScopeGraph.graph l.graph)) l.trail ≡ drop (size * length (g.G.ScopeGraph.graph l.graph)) l.initial.trail)

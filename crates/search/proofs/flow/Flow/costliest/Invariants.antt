use Rattle.search.proofs.Rounded.{AreRounds}
use Rattle.search.proofs.flow.Flow.costliest.Given as goal

abbrev pub invariant-loop-round : goal.invariant-loop-round
invariant-loop-round g l = AreRounds g.C.Cost.laws (g.V.EdgeValues.values l.values) l.self l.pass l.ending l.round l.best

use Rattle.std.proofs.Common.{◌+◌, ◌^◌, ◌≤◌, length, sym, subst, arith, rules}
use Rattle.search.specs.Flows.{facts_of}
use Rattle.search.proofs.Rounded.{AreRounds, rounds_skip, rounds_more, rounds_all}
use Rattle.search.proofs.flow.Flow.costliest.Goals as goal
use Rattle.search.proofs.flow.Flow.costliest.Goals.{then-is_useful, else-is_useful}

pub loop-round-preserved : goal.loop-round-preserved
loop-round-preserved g c =
    let laws = g.C.Cost.laws in
    let value = g.V.EdgeValues.values c.args.values.now in
    let f = c.args.self.now in
    let i = c.loop-round.round in
    elim c.if-is_useful.branch [
      | then-is_useful w ↦
          subst (AreRounds laws value f c.args.pass c.args.ending (i + 1)) (search rules)
          (rounds_more laws value f c.args.pass c.args.ending i c.loop-round.best w.round_best-found.result w.if-is_useful.ensures w.round_best-found.ensures c.loop-round.invariant)
      | else-is_useful w ↦
          subst (AreRounds laws value f c.args.pass c.args.ending (i + 1)) (sym w.best-is)
          (rounds_skip laws value f c.args.pass c.args.ending i c.loop-round.best w.if-is_useful.ensures c.loop-round.invariant)
    ]

pub returns : goal.returns
returns g c =
    let f = c.args.self.now in
    let enough : 2 ^ length (facts_of f) ≤ c.loop-round.round = rw (sym c.len.ensures.count) (omega (arith, c.rounds-round-end.ensures, c.loop-round-test.false)) in
    (omega arith, rounds_all g.C.Cost.laws (g.V.EdgeValues.values c.args.values.now) f c.args.pass c.args.ending c.loop-round.round c.loop-round.best enough c.loop-round.invariant)

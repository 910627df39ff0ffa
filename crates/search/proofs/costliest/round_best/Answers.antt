use Rattle.std.proofs.Common.{arith}
use Rattle.search.specs.Walks.{masked}
use Rattle.search.proofs.Rounded.{round_empty, round_none, round_some, entry_there}
use Rattle.search.proofs.Walked.{guided}
use Rattle.search.proofs.costliest.round_best.Goals as goal

pub returns-then-flow-eq0 : goal.returns-then-flow-eq0
returns-then-flow-eq0 g c = round_empty g.C.Cost.laws _ c.args.flow.now c.args.pass c.args.round c.args.ending c.new.result c.if-flow-eq0.true c.new.ensures

pub follow-requires : goal.follow-requires
follow-requires g c = record {
  some = omega arith;
  starts = entry_there c.fill-choices.new.table.costs.now c.fill-choices.result c.in-Some.cost c.in-Some.ensures;
  guides = guided g.C.Cost.laws (masked (g.V.EdgeValues.values c.args.values.now) c.usable_edges.result) c.args.flow.now c.args.ending c.fill-choices.new.table.costs.now c.fill-choices.result c.fill-choices.ensures;
}

pub returns-in-None : goal.returns-in-None
returns-in-None g c =
    round_none g.C.Cost.laws (g.V.EdgeValues.values c.args.values.now) c.args.flow.now c.args.pass c.args.round c.args.ending c.new.result c.usable_edges.result c.usable_edges.ensures
    c.fill-choices.new.table.costs.now c.fill-choices.result c.fill-choices.ensures (omega arith) c.in-None.ensures c.new.ensures

pub returns-in-Some : goal.returns-in-Some
returns-in-Some g c =
    round_some g.C.Cost.laws (g.V.EdgeValues.values c.args.values.now) c.args.flow.now c.args.pass c.args.round c.args.ending c.follow.result c.usable_edges.result c.usable_edges.ensures
    c.fill-choices.new.table.costs.now c.fill-choices.result c.fill-choices.ensures (omega arith) c.in-Some.cost c.in-Some.ensures c.follow.ensures

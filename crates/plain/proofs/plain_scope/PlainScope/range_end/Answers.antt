use Rattle.search.specs.Flows.{facts_of}
use Rattle.plain.proofs.Ends.{cut_more}
use Rattle.plain.proofs.plain_scope.PlainScope.range_end.Goals as goal

pub loop-fact-preserved : goal.loop-fact-preserved
loop-fact-preserved c = λ h proper.
    let facts = facts_of c.args.self.now.flow in
    cut_more facts c.as_slice-fact-items.result.now c.loop-fact.fact-index _ c.args.first c.args.self.now.most c.loop-fact.end c.cut-end.result c.as_slice-fact-items.ensures c.loop-fact-test.true proper (c.loop-fact.invariant h proper) c.cut-end.ensures

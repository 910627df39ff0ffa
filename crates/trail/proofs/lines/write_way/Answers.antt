use Rattle.std.proofs.Common.{sym, ap, ◌∙◌}
use Rattle.std.specs.List.{slice_get}
use Rattle.std.proofs.lemmas.Option.{slice_get-get_or}
use Rattle.search.specs.Ways.{way_edges}
use Rattle.plain.specs.Copies.{scope_of}
use Rattle.trail.proofs.Stepped.{way_step}
use Rattle.trail.proofs.lines.write_way.Goals as goal

pub loop-n-preserved : goal.loop-n-preserved
loop-n-preserved c =
    let es = way_edges c.args.way.now in
    let there = sym (slice_get-get_or c.as_slice-edge-items.result.now c.loop-n.n 0 c.loop-n-test.true) ∙ ap (λ xs. slice_get xs c.loop-n.n) c.as_slice-edge-items.ensures in
    way_step (scope_of c.args.scope.now) c.args.trail.now c.loop-n.trail c.args.at c.loop-n.n es _ _ there c.requires c.edge_line.ensures c.loop-n.invariant

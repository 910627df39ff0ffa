use Rattle.std.proofs.Common.{◌<◌, get_or, pos, sym, subst}
use Rattle.model.specs.declared.graph.Edge.{Edge}
use Rattle.model.specs.declared.graph.Target.TheVariants.{To}
use Rattle.search.specs.Flows.{edges_of}
use Rattle.search.specs.Ways.{way_edges}
use Rattle.search.proofs.Followed.{Underway, left_from, taking, underway_done}
use Rattle.search.proofs.follow.follow.Goals as goal

pub loop-place-smaller : goal.loop-place-smaller
loop-place-smaller c =
    subst (λ xs. left_from (get_or {A = Edge} xs c.in-Some.edge (record { from = 0; to = To 0; effect = pos 0 })).to < left_from c.loop-place.place) (sym c.as_slice-edges.ensures)
    (taking c.args.flow.now c.args.choices.now _ _ _ _ c.requires.guides c.loop-place.invariant c.in-To.is c.in-Some.is (record { from = 0; to = To 0; effect = pos 0 })).1

pub loop-place-preserved : goal.loop-place-preserved
loop-place-preserved c =
    let t = taking c.args.flow.now c.args.choices.now _ _ _ _ c.requires.guides c.loop-place.invariant c.in-To.is c.in-Some.is (record { from = 0; to = To 0; effect = pos 0 }) in
    subst (λ xs. Underway (edges_of c.args.flow.now) c.args.choices.now c.args.flow.now.nodes (get_or {A = Edge} xs c.in-Some.edge (record { from = 0; to = To 0; effect = pos 0 })).to (way_edges c.push.new.self)) (sym c.as_slice-edges.ensures)
    (subst (Underway (edges_of c.args.flow.now) c.args.choices.now c.args.flow.now.nodes _) (sym (c.push.ensures.room t.3)) t.2)

pub returns : goal.returns
returns c = underway_done (edges_of c.args.flow.now) c.args.choices.now c.args.flow.now.nodes c.loop-place.place _ c.in_default.not-To c.loop-place.invariant

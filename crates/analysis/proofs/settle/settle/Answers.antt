use Rattle.std.proofs.Common.{length, refl, subst}
use Rattle.model.specs.Ways.{edge_value_lem}
use Rattle.plain.specs.Copies.{scope_of, Copied}
use Rattle.plain.specs.Values.{bound_at, capped}
use Rattle.bound.specs.Solves.{Solves}
use Rattle.analysis.proofs.Steps.{place_few, copied, stepped_bound, stepped_none, fit}
use Rattle.analysis.proofs.settle.settle.Goals as goal

pub bounds-order-place : goal.bounds-order-place
bounds-order-place g c = place_few (g.G.ScopeGraph.graph c.args.graph.now) c.requires.keeps c.args.place c.requires.within

pub unwrap-scope-requires : goal.unwrap-scope-requires
unwrap-scope-requires g c = copied (g.G.ScopeGraph.graph c.args.graph.now) c.requires.keeps c.args.order.now c.requires.ordered c.args.place c.requires.within c.copy_scope.result c.copy_scope.ensures

pub unwrap-requires : goal.unwrap-requires
unwrap-requires g c =
    let G = g.G.ScopeGraph.graph c.args.graph.now in
    let there = subst (Copied G _) c.unwrap-scope.ensures c.copy_scope.ensures in
    fit g.C.Cost.laws G c.requires.keeps c.args.order.now c.requires.ordered c.args.place c.requires.within (scope_of c.unwrap-scope.result) there c.args.bounds.now c.args.trail.now c.args.trail.now c.args.solved.now c.requires.places c.told-solved (λ j ne. refl) c.requires.sofar _ c.requires.room _ c.solve.ensures

pub returns-in-Some : goal.returns-in-Some
returns-in-Some g c =
    let G = g.G.ScopeGraph.graph c.args.graph.now in
    let m = g.C.Cost.measure in
    let s = scope_of c.unwrap-scope.result in
    let there = subst (Copied G _) c.unwrap-scope.ensures c.copy_scope.ensures in
    let h = subst (Solves m s (edge_value_lem (capped m) (bound_at c.args.bounds.now c.args.solved.now) s) (length c.args.table.now)) c.in-Some.ensures c.solve.ensures in
    let r = stepped_bound g.C.Cost.laws G c.requires.keeps c.args.order.now c.requires.ordered c.args.place c.requires.within s there c.args.bounds.now c.args.trail.now c.write_section.new.trail c.args.solved.now c.requires.places c.told-solved
    c.requires.sofar c.requires.lines c.write_section.result c.write_section.ensures.fits c.in-Some.run' h.0 h.1 c.write_section.ensures.table in
    record { sofar = r.0; rest = r.1 }

pub returns-in-None : goal.returns-in-None
returns-in-None g c =
    let G = g.G.ScopeGraph.graph c.args.graph.now in
    let m = g.C.Cost.measure in
    let s = scope_of c.unwrap-scope.result in
    let there = subst (Copied G _) c.unwrap-scope.ensures c.copy_scope.ensures in
    let h = subst (Solves m s (edge_value_lem (capped m) (bound_at c.args.bounds.now c.args.solved.now) s) (length c.args.table.now)) c.in-None.ensures c.solve.ensures in
    let r = stepped_none g.C.Cost.laws G c.requires.keeps c.args.order.now c.requires.ordered c.args.place c.requires.within s there c.args.bounds.now c.args.trail.now c.clear_section.new.trail c.args.solved.now c.requires.places c.told-solved
    c.requires.sofar c.requires.lines c.clear_section.result c.clear_section.ensures.fits c.nothing.result c.nothing.ensures h c.clear_section.ensures.table in
    record { sofar = r.0; rest = r.1 }

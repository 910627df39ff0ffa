use Rattle.std.proofs.Common.{◌≡◌, suc, ◌<◌, length, get_or, pos, None, sym, ap, ◌∙◌, subst, arith}
use Rattle.model.specs.declared.graph.Target.TheVariants.{To}
use Rattle.model.specs.declared.graph.Edge.{Edge}
use Rattle.std.proofs.lemmas.Option.{slice_get_within}
use Rattle.search.specs.Flows.{edges_of}
use Rattle.search.specs.Tables.{offer, costlier, cost_of_lem, OnSome, IsStep}
use Rattle.search.specs.Walks.{masked, exit_from}
use Rattle.search.proofs.Chains.{past, exit_none}
use Rattle.model.specs.Best.{IsBest}
use Rattle.search.proofs.Steps.{FromBelow, below_all}
use Rattle.search.proofs.Held.{turn_at, turn_to, turn_less, turn_best, turn_linked}
use Rattle.search.proofs.table.Round.best_from.Goals as goal

pub bounds-edges-edge : goal.bounds-edges-edge
bounds-edges-edge g c =
    let t = turn_at c.args.self.now.flow.now c.args.node c.in-Some.e c.loop-exit.exit _ c.loop-exit.invariant.0 c.in-Some.is in
    subst (λ xs. c.in-Some.e < length xs) (sym c.as_slice-edges.ensures) (slice_get_within (edges_of c.args.self.now.flow.now) c.in-Some.e t.exit.edge t.exit.there)

pub bounds-flow-edge : goal.bounds-flow-edge
bounds-flow-edge g c = (turn_at c.args.self.now.flow.now c.args.node c.in-Some.e c.loop-exit.exit _ c.loop-exit.invariant.0 c.in-Some.is).small

pub value-value-requires : goal.value-value-requires
value-value-requires g c = (turn_at c.args.self.now.flow.now c.args.node c.in-Some.e c.loop-exit.exit _ c.loop-exit.invariant.0 c.in-Some.is).small

pub offer_of-offered-requires : goal.offer_of-offered-requires
offer_of-offered-requires g c v h =
    let t = turn_at c.args.self.now.flow.now c.args.node c.in-Some.e c.loop-exit.exit _ c.loop-exit.invariant.0 c.in-Some.is in
    let r = turn_to c.args.self.now.flow.now c.args.node _ c.in-Some.e t v (ap (λ (x : Edge). x.to) (sym (t.item (record { from = 0; to = To 0; effect = pos 0 }))) ∙ ap (λ xs. (get_or {A = Edge} xs c.in-Some.e (record { from = 0; to = To 0; effect = pos 0 })).to) (sym c.as_slice-edges.ensures) ∙ h) in
    let n = c.args.self.now.flow.now.fewnodes in
    let room = c.args.table.now.room in
    (omega (arith, r.1), omega (arith, r.1))

pub loop-exit-smaller : goal.loop-exit-smaller
loop-exit-smaller g c =
    let t = turn_at c.args.self.now.flow.now c.args.node c.in-Some.e c.loop-exit.exit _ c.loop-exit.invariant.0 c.in-Some.is in
    subst (λ o. past 96 (get_or c.args.self.now.flow.now.exits.next c.in-Some.e None) < past 96 o) (sym c.in-Some.is) (turn_less c.args.self.now.flow.now c.args.node _ c.in-Some.e t)

pub loop-exit-preserved : goal.loop-exit-preserved
loop-exit-preserved g c =
    let m = g.C.Cost.measure in
    let flow = c.args.self.now.flow.now in
    let k = c.args.node in
    let e = c.in-Some.e in
    let value = masked (g.V.EdgeValues.values c.args.self.now.values.now) c.args.self.now.usable in
    let table = c.args.table.now.costs.now in
    let choices = c.args.choices.now in
    let best = c.loop-exit.best in
    let t = turn_at flow k e c.loop-exit.exit _ c.loop-exit.invariant.0 c.in-Some.is in
    let read : Edge = get_or c.as_slice-edges.result.now e (record { from = 0; to = To 0; effect = pos 0 }) in
    let item : read ≡ t.exit.edge = ap (λ xs. get_or xs e (record { from = 0; to = To 0; effect = pos 0 })) c.as_slice-edges.ensures ∙ t.item (record { from = 0; to = To 0; effect = pos 0 }) in
    let is : c.costlier_of-best.result ≡ costlier m best (offer m (value e) t.exit.edge.to c.args.self.now.ending table choices) e =
    c.costlier_of-best.ensures ∙ ap (λ o. costlier m best o e) (c.offer_of-offered.ensures ∙ ap (λ v. offer m v read.to c.args.self.now.ending table choices) c.value-value.ensures ∙ ap (λ (x : Edge). offer m (value e) x.to c.args.self.now.ending table choices) item) in (
      (suc e, t.next, subst (λ s. IsBest m (FromBelow g.C.Cost.laws value (edges_of flow) c.args.self.now.ending k (suc e)) (cost_of_lem s)) (sym is) (turn_best g.C.Cost.laws value flow c.args.self.now.ending table choices k _ e t c.requires.above best c.loop-exit.invariant.0.2)),
      subst (OnSome (IsStep m value (edges_of flow) c.args.self.now.ending table choices k)) (sym is) (turn_linked g.C.Cost.laws value flow c.args.self.now.ending table choices k _ e t c.requires.above best c.loop-exit.invariant.1),
    )

pub returns : goal.returns
returns g c =
    let e : exit_from (edges_of c.args.self.now.flow.now) c.args.node c.loop-exit.invariant.0.0 ≡ None = sym c.loop-exit.invariant.0.1 ∙ c.in_default.is in
    record {
      best = below_all g.C.Cost.laws _ (edges_of c.args.self.now.flow.now) c.args.self.now.ending c.args.node c.loop-exit.invariant.0.0 _ (exit_none (edges_of c.args.self.now.flow.now) c.args.node c.loop-exit.invariant.0.0 e) c.loop-exit.invariant.0.2;
      linked = c.loop-exit.invariant.1;
    }

use Rattle.std.proofs.Common.{◌≤◌, length, take, Some, None, refl, subst}
use Rattle.plain.specs.Copies.{scope_of}
use Rattle.search.specs.Tables.{OnSome}
use Rattle.trail.specs.Groups.{groups_of}
use Rattle.bound.specs.Choices.{IsChoice}
use Rattle.bound.proofs.Progressing.{ended_best}
use Rattle.bound.proofs.solve.solve.Goals as goal

pub returns-in-None : goal.returns-in-None
returns-in-None g c =
    ended_best g.C.Cost.laws (scope_of c.args.scope.now) (g.V.EdgeValues.values c.args.values.now) c.search_ranges.result c.search_ranges.ensures.sofar c.search_ranges.ensures.ended None c.in-None.is

pub returns-in-Some : goal.returns-in-Some
returns-in-Some g c =
    let m = g.C.Cost.measure in
    let s = scope_of c.args.scope.now in
    let value = g.V.EdgeValues.values c.args.values.now in
    let p = c.search_ranges.result in
    let gs = groups_of p.groups in
    let x = c.in-Some.choice in
    let so = c.search_ranges.ensures.sofar in
    let stands = subst (OnSome (λ y. IsChoice m s value (take y.whole gs) y × (y.whole ≤ 8) × (y.whole ≤ length gs))) c.in-Some.is so.choice in (
      ended_best g.C.Cost.laws s value p so c.search_ranges.ensures.ended (Some x) c.in-Some.is,
      record {
        fronts = take x.whole gs;
        choice = x;
        stands = stands.0;
        groups = c.groups_of.ensures;
        cost = refl;
        passes = refl;
      },
    )

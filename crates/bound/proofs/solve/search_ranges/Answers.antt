use Rattle.std.proofs.Common.{◌≤◌, length, Some, None, map, sym, ap, subst, arith, length-take}
use Rattle.plain.specs.Copies.{scope_of}
use Rattle.trail.specs.Groups.{group_of, groups_of}
use Rattle.bound.specs.Progress.{IsProgress}
use Rattle.bound.proofs.Progressing.{progress_none}
use Rattle.bound.proofs.solve.search_ranges.Goals as goal

pub loop-progress-init : goal.loop-progress-init
loop-progress-init g c =
    let m = g.C.Cost.measure in
    let s' = c.args.search.now in
    let s = scope_of s'.scope.now in
    let value = g.V.EdgeValues.values s'.values.now in
    let f = s'.scope.now.flow in
    let few : length s.facts ≤ 4 = simp length-take (omega (arith, f.facts.short)) in
    subst (λ o. IsProgress m s value 0 (Some o) (groups_of c.new-2.result) None) (sym c.nothing.ensures) (subst (λ gs. IsProgress m s value 0 (Some m.nothing) gs None) (sym (ap (map group_of) c.new-2.ensures)) (progress_none g.C.Cost.laws s value few s'.some))

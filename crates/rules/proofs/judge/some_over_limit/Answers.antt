use Rattle.std.proofs.Common.{◌≡◌, true, false, refl, rules, arith}
use Rattle.std.specs.List.{slice_get}
use Rattle.std.proofs.lemmas.Iterator.{YieldsList-from_range, cases_from_any}
use Rattle.rules.specs.Faults.{over}
use Rattle.rules.proofs.Places.{any_below}
use Rattle.rules.proofs.judge.some_over_limit.Goals as goal

pub returns : goal.returns
returns g c =
    let G = g.G.ScopeGraph.graph c.args.graph.now in
    any_below c.args.scopes c.any.result (λ k. over (slice_get G k) ≡ true) (λ k. over (slice_get G k) ≡ false)
    (cases_from_any _ _ _ (λ k. over (slice_get G k) ≡ true) (λ k. over (slice_get G k) ≡ false) c.any.ensures.ran (YieldsList-from_range 0 c.args.scopes c.args.scopes refl (omega arith)) (λ x q k. search rules) (λ x q k. search rules))

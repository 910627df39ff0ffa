use Rattle.std.proofs.Common.{◌≡◌, ℕ, Option, ◌∙◌, None, rules, arith}
use Rattle.std.specs.Fn.{Called}
use Rattle.std.proofs.lemmas.Iterator.{YieldsList-from_range, YieldsList-from_map, serves_from_Range}
use Rattle.std.proofs.lemmas.Iterator.Consumers.{fold_from_yields_List}
use Rattle.model.specs.declared.refusal.Refusal.{Refusal}
use Rattle.rules.specs.Faults.{lower}
use Rattle.rules.proofs.Least.{lowest_fold}
use Rattle.rules.proofs.finding.lowest_of.Goals as goal

pub fold-requires-clause-can : goal.fold-requires-clause-can
fold-requires-clause-can g c = (tt, serves_from_Range (λ x q k. search rules) (λ x a b. search rules))

pub returns : goal.returns
returns g c = λ f h.
    let called : (x : ℕ) (r : Option Refusal) (q : g.row.F.Denot) → Called g.F.Fn c.args.finding (x, tt) r q → (q ≡ c.args.finding) × (r ≡ f x) = λ x r q e. (g.met.F.Fn.1.step_stays _ _ _ _ e, h x r ((g.met.F.FnMut.1.post_iff _ _ _).1 (q, e))) in
    fold_from_yields_List _ lower None c.fold.result c.fold.ensures.ran
    (YieldsList-from_map _ f (YieldsList-from_range 0 c.args.count c.args.count c.map.ensures.source (omega arith)) c.map.ensures.closure (λ x r q k. called x r q (record { met = k.met })))
    (λ a x b q k. search rules)
    ∙ lowest_fold f c.args.count

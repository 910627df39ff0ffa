use Rattle.std.proofs.Common.{◌≡◌, suc, ◌-◌, pos, refl, subst, arith, length-set}
use Rattle.std.proofs.lemmas.Option.{slice_get-get_or}
use Rattle.model.specs.declared.graph.Target.TheVariants.{To}
use Rattle.search.specs.Exits.{AreExitsFrom}
use Rattle.search.proofs.Chains.{exits_none, exits_more}
use Rattle.search.proofs.exits.exits_of.Goals as goal

pub loop-e-init : goal.loop-e-init
loop-e-init c = (refl, refl, exits_none c.args.edges.now)

pub bounds-first-from : goal.bounds-first-from
bounds-first-from c = c.requires.starts (c.loop-e.e - 1) _ (slice_get-get_or c.args.edges.now (c.loop-e.e - 1) _ (omega arith))

pub bounds-first-from-in-loop-e : goal.bounds-first-from-in-loop-e
bounds-first-from-in-loop-e c = c.requires.starts (c.loop-e.e - 1) _ (slice_get-get_or c.args.edges.now (c.loop-e.e - 1) _ (omega arith))

pub loop-e-preserved : goal.loop-e-preserved
loop-e-preserved c =
    let edges = c.args.edges.now in
    let e = c.loop-e.e - 1 in
    let same : c.loop-e.e ≡ suc e = omega arith in
    let there = slice_get-get_or edges e (record { from = 0; to = To 0; effect = pos 0 }) (omega arith) in
    let first = c.loop-e.first in
    let next = c.loop-e.next in (
      simp length-set c.loop-e.invariant.0,
      simp length-set c.loop-e.invariant.1,
      exits_more edges first next e _ there (c.requires.starts e _ there) (omega (arith, c.requires.few)) c.loop-e.invariant.0 c.loop-e.invariant.1
          (subst (λ i. AreExitsFrom edges i first next) same c.loop-e.invariant.2),
    )

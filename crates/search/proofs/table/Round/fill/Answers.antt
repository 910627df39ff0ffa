use Rattle.std.proofs.Common.{◌-◌, ◌<◌, length, Some, None, arith, length-set}
use Rattle.search.specs.Walks.{masked}
use Rattle.search.proofs.Fills.{fill_more, write_none, write_some}
use Rattle.search.proofs.table.Round.fill.Goals as goal

pub loop-k-preserved-in-None : goal.loop-k-preserved-in-None
loop-k-preserved-in-None g c =
    let k = c.loop-k.k - 1 in
    let low : k < length c.loop-k.choices = omega (arith, c.loop-k.invariant.0, c.args.self.now.flow.now.fewnodes) in
    let w = write_none c.loop-k.table.costs.now c.loop-k.choices k low in (
      simp length-set c.loop-k.invariant.0,
      fill_more g.C.Cost.measure (masked (g.V.EdgeValues.values c.args.self.now.values.now) c.args.self.now.usable) c.args.self.now.flow.now c.args.self.now.ending c.loop-k.table.costs.now c.loop-k.table.costs.now c.loop-k.choices _ k w.0 None w.1
          c.in-None.ensures.best c.in-None.ensures.linked (λ j h l. c.loop-k.invariant.1 j (omega arith) l),
    )

pub loop-k-preserved : goal.loop-k-preserved
loop-k-preserved g c =
    let k = c.loop-k.k - 1 in
    let low : k < length c.loop-k.choices = omega (arith, c.loop-k.invariant.0, c.args.self.now.flow.now.fewnodes) in
    let wide : k < length c.loop-k.table.costs.now = omega (arith, c.args.self.now.flow.now.fewnodes) in
    let w = write_some c.loop-k.table.costs.now c.loop-k.choices k c.in-Some.step low wide in (
      simp length-set c.loop-k.invariant.0,
      fill_more g.C.Cost.measure (masked (g.V.EdgeValues.values c.args.self.now.values.now) c.args.self.now.usable) c.args.self.now.flow.now c.args.self.now.ending c.loop-k.table.costs.now _ c.loop-k.choices _ k w.0 (Some c.in-Some.step) w.1
          c.in-Some.ensures.best c.in-Some.ensures.linked (λ j h l. c.loop-k.invariant.1 j (omega arith) l),
    )

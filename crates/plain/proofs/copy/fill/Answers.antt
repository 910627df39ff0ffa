use Rattle.std.proofs.Common.{rules}
use Rattle.row.specs.Rows.{items_of}
use Rattle.plain.proofs.Copying.{filled_more}
use Rattle.plain.proofs.copy.fill.Goals as goal

pub loop-i-preserved : goal.loop-i-preserved
loop-i-preserved g c = λ s is.
    filled_more (g.L.Listing.scope c.args.list.now c.args.graph.now) g.L.Listing.list s is c.in_ok-count.count c.loop-i.i c.in_ok-get.field-0 (items_of c.loop-i.row) (items_of c.push.new.self)
    c.in_ok-count.ensures c.loop-i-test.true c.in_ok-get.ensures (c.loop-i.invariant s is) (c.push.ensures.room (search rules))

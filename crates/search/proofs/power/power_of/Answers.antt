use Rattle.std.proofs.Common.{◌/◌, ◌∙◌, arith}
use Rattle.search.proofs.Squares.{even_turn, odd_turn}
use Rattle.search.proofs.power.power_of.Goals as goal
use Rattle.search.proofs.power.power_of.Goals.{then-left-eq1, else-left-eq1}

pub loop-left-preserved : goal.loop-left-preserved
loop-left-preserved g c =
    let laws = g.C.Cost.laws in
    let l = c.loop-left in
    elim c.if-left-eq1.branch [
      | then-left-eq1 w ↦
          rw (w.sum-is, w.join-sum.ensures, c.join-square.ensures)
          (odd_turn laws l.sum l.square l.left (l.left / 2) (omega (arith, w.if-left-eq1.true)) ∙ l.invariant)
      | else-left-eq1 w ↦
          rw (w.sum-is, c.join-square.ensures)
          (even_turn laws l.sum l.square l.left (l.left / 2) (omega (arith, w.if-left-eq1.false)) ∙ l.invariant)
    ]

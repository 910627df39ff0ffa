use Rattle.std.proofs.Common.{sym, rules, arith}
use Rattle.std.proofs.Output.{has_written_of_eq, has_written_append}
use Rattle.bound_report.proofs.Lines.{lines_more}
use Rattle.bound_report.proofs.bounds.BoundsDisplay.fmt.Goals as goal

pub loop-scope-preserved : goal.loop-scope-preserved
loop-scope-preserved g c = λ p.
    has_written_of_eq _ _ _ _ _ (sym (lines_more c.deref-passes-items.result.now c.loop-scope.scope-counter (omega arith)))
    (has_written_append _ _ _ _ _ _ (c.loop-scope.invariant p) (search rules))

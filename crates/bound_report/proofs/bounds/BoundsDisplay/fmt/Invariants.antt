use Rattle.std.proofs.Common.{take}
use Rattle.std.specs.Fmt.{HasWritten, IsPlainFormatter}
use Rattle.bound_report.specs.Text.{scope_lines_lem}
use Rattle.bound_report.proofs.bounds.BoundsDisplay.fmt.Given as goal

-- the lines of the scopes so far are written
abbrev pub invariant-loop-scope : goal.invariant-loop-scope
invariant-loop-scope g l =
    IsPlainFormatter l.initial.f → HasWritten g.W.Write.write_str_gives l.initial.f (scope_lines_lem 0 (take l.scope-counter l.passes-items)) l.f

use Rattle.std.proofs.Common.{string_bytes, sym, ap, ◌∙◌, arith}
use Rattle.report.specs.Lines.{line_of}
use Rattle.report.proofs.Lines.{line_more, has_line}
use Rattle.report.proofs.listing.scope_lines.Goals as goal
use Rattle.report.proofs.listing.scope_lines.Goals.{in-Some+in_ok-writeln, in_default}

pub loop-scope-preserved : goal.loop-scope-preserved
loop-scope-preserved g c =
    elim c.match-scope_line.branch [
      | in-Some+in_ok-writeln w ↦
          line_more (g.G.ScopeGraph.graph c.args.graph.now) c.loop-scope.scope (string_bytes c.loop-scope.text) _ _ w.in-Some.line (sym w.in-Some.ensures) (ap string_bytes w.text-is ∙ w.in_ok-writeln.ensures.bytes) c.loop-scope.invariant
      | in_default w ↦ absurd (has_line (g.G.ScopeGraph.graph c.args.graph.now) c.loop-scope.scope (line_of c.loop-scope.scope) (omega arith) (sym w.in_default.ensures))
    ]

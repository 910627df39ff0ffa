use Rattle.std.proofs.Common.{◌≡◌, take}
use Rattle.model.specs.Trail.{way_lines}
use Rattle.search.specs.Ways.{way_edges}
use Rattle.plain.specs.Copies.{scope_of}
use Rattle.trail.specs.Sections.{written}
use Rattle.trail.proofs.lines.write_way.Given as goal

-- the lines of the first n edges are written
abbrev pub invariant-loop-n : goal.invariant-loop-n
invariant-loop-n l = l.trail ≡ written l.initial.trail l.at (way_lines (scope_of l.scope) (take l.n (way_edges l.way)))

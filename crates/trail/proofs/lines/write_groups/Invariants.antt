use Rattle.std.proofs.Common.{◌≡◌, ◌+◌, length, take}
use Rattle.model.specs.Trail.{group_lines}
use Rattle.plain.specs.Copies.{scope_of}
use Rattle.trail.specs.Groups.{groups_of}
use Rattle.trail.specs.Sections.{written}
use Rattle.trail.proofs.lines.write_groups.Given as goal

-- the lines of the groups so far are written, and end there
abbrev pub invariant-loop-group : goal.invariant-loop-group
invariant-loop-group l =
    (l.end ≡ l.at + length (group_lines (scope_of l.scope) (take l.group-index (groups_of l.groups))))
    × (l.trail ≡ written l.initial.trail l.at (group_lines (scope_of l.scope) (take l.group-index (groups_of l.groups))))

use Rattle.std.proofs.Common.{arith, length-set}
use Rattle.model.specs.Trail.{group_lines}
use Rattle.plain.specs.Copies.{scope_of}
use Rattle.trail.specs.Groups.{groups_of}
use Rattle.trail.proofs.Lengths.{held_short}
use Rattle.trail.proofs.Stepped.{section_made}
use Rattle.trail.proofs.write.write_lines.Goals as goal

pub write_zeros-requires : goal.write_zeros-requires
write_zeros-requires c =
    let a = held_short (scope_of c.args.scope.now) c.args.groups.now in
    omega (arith, length-set c.args.trail.now c.args.at c.head_line.result, c.write_groups-from.ensures.end, c.section_end.ensures, c.requires)

pub returns : goal.returns
returns c =
    let s = scope_of c.args.scope.now in
    section_made c.args.trail.now _ _ c.args.at _ _ _ _ (group_lines s (groups_of c.args.groups.now))
    c.requires (held_short s c.args.groups.now) c.head_line.ensures
    c.write_groups-from.ensures.lines c.write_groups-from.ensures.end c.section_end.ensures c.write_zeros.ensures

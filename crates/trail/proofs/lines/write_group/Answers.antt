use Rattle.std.proofs.Common.{arith, length-set}
use Rattle.plain.specs.Copies.{scope_of}
use Rattle.trail.specs.Groups.{group_of}
use Rattle.trail.proofs.Stepped.{length_group, group_written, group_length}
use Rattle.trail.proofs.lines.write_group.Goals as goal

pub write_way-requires : goal.write_way-requires
write_way-requires c =
    let n = length_group (scope_of c.args.scope.now) (group_of c.args.group.now) in
    omega (arith, length-set c.args.trail.now c.args.at c.group_line.result, c.requires)

pub returns : goal.returns
returns c =
    let s = scope_of c.args.scope.now in
    let g = group_of c.args.group.now in
    let n = length_group s g in
    record {
      lines = group_written s c.args.trail.now _ c.args.at _ g (omega (arith, c.requires)) c.group_line.ensures c.write_way.ensures.lines;
      end = group_length s g c.args.at _ c.write_way.ensures.end;
    }

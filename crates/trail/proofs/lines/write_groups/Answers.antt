use Rattle.std.proofs.Common.{arith}
use Rattle.plain.specs.Copies.{scope_of}
use Rattle.trail.specs.Groups.{group_of, groups_of}
use Rattle.trail.proofs.Held.{held_at}
use Rattle.trail.proofs.Lengths.{held_short}
use Rattle.trail.proofs.Stepped.{group_fits, group_end, group_step}
use Rattle.trail.proofs.lines.write_groups.Goals as goal

pub write_group-end-requires : goal.write_group-end-requires
write_group-end-requires c =
    let s = scope_of c.args.scope.now in
    let a = group_fits s (groups_of c.args.groups.now) c.loop-group.group-index (group_of c.group-item.result) (held_at c.args.groups.now _ c.as_slice-group-items.ensures c.loop-group.group-index c.group-item.result c.loop-group-test.true c.group-item.is) in
    let b = held_short s c.args.groups.now in
    omega (arith, c.loop-group.invariant.0, c.loop-group.auto.trail, c.requires)

pub loop-group-preserved : goal.loop-group-preserved
loop-group-preserved c =
    let s = scope_of c.args.scope.now in
    let gs = groups_of c.args.groups.now in
    let i = c.loop-group.group-index in
    let x = group_of c.group-item.result in
    let there = held_at c.args.groups.now _ c.as_slice-group-items.ensures i c.group-item.result c.loop-group-test.true c.group-item.is in (
      group_end s gs i x c.args.at c.loop-group.end _ there c.loop-group.invariant.0 c.write_group-end.ensures.end,
      group_step s c.args.trail.now c.loop-group.trail _ c.args.at c.loop-group.end gs i x there (omega (arith, c.requires)) c.loop-group.invariant.0 c.loop-group.invariant.1 c.write_group-end.ensures.lines,
    )

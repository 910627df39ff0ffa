use Rattle.std.proofs.Common.{◌+◌, sym, refl, ap, ◌∙◌, arith, rules}
use Rattle.model.specs.Counts.{powers}
use Rattle.plain.specs.Copies.{scope_of}
use Rattle.trail.specs.Groups.{groups_of}
use Rattle.trail.proofs.Held.{held_length}
use Rattle.bound.proofs.LastGroups.{pushed}
use Rattle.bound.proofs.Progressing.{turned}
use Rattle.bound.proofs.turn.turn.Goals as goal

pub returns-clause-sofar : goal.returns-clause-sofar
returns-clause-sofar g c =
    let p = c.args.progress in
    let s = c.args.search.now in
    (turned g.C.Cost.laws (scope_of s.scope.now) (g.V.EdgeValues.values s.values.now) p.done c.range_end-last.result (p.done + 1) c.len.result c.args.front p.front c.joined_of.result c.powers_of-copies.result
    (groups_of p.groups) (groups_of c.push.new.self) p.best c.better_of.result c.choice.result c.costliest-on.result c.costliest-off.result
    c.requires.goes c.requires.sofar c.requires.more refl (c.range_end-last.ensures (omega (arith, c.requires.more)) s.proper)
    c.costliest-on.ensures c.costliest-off.ensures (c.len.ensures.count ∙ sym (held_length p.groups)) c.choice.ensures (pushed p.groups c.push.new.self _ (c.push.ensures.room (search rules)))
    (c.powers_of-copies.ensures ∙ ap (powers g.C.Cost.measure c.costliest-on.result.cost) c.from.ensures) c.joined_of.ensures c.better_of.ensures).1

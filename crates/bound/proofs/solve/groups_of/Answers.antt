use Rattle.std.proofs.Common.{◌≡◌, [], ◌∷◌, ◌++◌, ap, ◌∙◌, rules}
use Rattle.search.specs.Ways.{way_edges}
use Rattle.trail.specs.Groups.{groups_of}
use Rattle.bound.specs.Choices.{group, last_groups}
use Rattle.bound.proofs.LastGroups.{pushed, truncated, ends_cut, ends_alone}
use Rattle.bound.proofs.solve.groups_of.Goals as goal
use Rattle.bound.proofs.solve.groups_of.Goals.{then-choice, else-choice}

pub returns : goal.returns
returns g c =
    let x = c.args.choice in
    let gs = groups_of c.truncate.new.self in
    let all = c.push-2.new.self in
    let on = way_edges x.on in
    let off = way_edges x.off in
    let last = pushed c.if-choice.all all _ (c.push-2.ensures.room (search rules)) in
    let end : groups_of all ≡ gs ++ last_groups x.first x.passes on off = elim c.if-choice.branch [
      | then-choice w ↦ ends_cut gs (groups_of c.if-choice.all) (groups_of all) x.first x.passes on off w.if-choice.true (ap groups_of w.all-is ∙ pushed c.truncate.new.self w.push.new.self _ (w.push.ensures.room (search rules))) last
      | else-choice w ↦ ends_alone gs (groups_of all) x.first x.passes on off w.if-choice.false (last ∙ ap (λ r. groups_of r ++ (group x.passes x.passes off ∷ [])) w.all-is)
    ] in
    end ∙ ap (λ ys. ys ++ last_groups x.first x.passes on off) (truncated c.args.groups c.truncate.new.self x.whole c.truncate.ensures)

use Rattle.std.proofs.Common.{sym, ◌∙◌}
use Rattle.image.specs.Found.{counted_all, counted_none, counted_some}
use Rattle.image.proofs.image.Image.count.Goals as goal
use Rattle.image.proofs.image.Image.count.Goals.{in-Some+in_ok-seek, in_default}

pub returns-in_err-seek : goal.returns-in_err-seek
returns-in_err-seek g c =
    c.from_residual.ensures ∙ sym (g.met.P.Part.counts c.args.list.now c.args.self.now.bytes.now ∙ counted_none (g.P.Part.picks c.args.list.now) _ _ c.args.self.now.bytes.now c.in-Some.ensures c.in_err-seek.ensures)

pub returns : goal.returns
returns g c =
    let f = g.P.Part.picks c.args.list.now in
    let h = g.P.Part.home c.args.list.now in
    let bs = c.args.self.now.bytes.now in
    sym (g.met.P.Part.counts c.args.list.now bs ∙ elim c.match-scope.branch [
      | in-Some+in_ok-seek w ↦ counted_some f h _ _ _ bs w.in-Some.ensures w.in_ok-seek.ensures c.additions.ensures
      | in_default w ↦ counted_all f h bs _ w.in_default.ensures c.additions.ensures
    ])

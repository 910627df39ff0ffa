use Rattle.program.proofs.run.run.Goals as goal

pub returns : goal.returns
returns g c = let w = c.in_ok-said.ensures in (w.0, w.1, c.in_ok-said.said, w.2, c.status-code.ensures)

use Rattle.std.proofs.Common.{◌∙◌, arith}
use Rattle.bound_report.proofs.Sections.{worked_in}
use Rattle.bound_report.proofs.worked.work_out.Goals as goal

pub returns : goal.returns
returns g c =
    let a = c.in_ok-work.ensures.len in
    let b = c.in_ok-trail.ensures.len in
    let d = c.as_mut_slice.ensures.len in
    let e = c.as_mut_slice-2.ensures.len in
    worked_in _ _ _ _ _ _ _ _ _ (omega (arith, a, d)) (omega (arith, b, e)) (c.analyze-answer.auto.trail ∙ e) c.analyze-answer.ensures

use Rattle.std.proofs.Common.{Err, vec_items, Result, subst, inr, arith}
use Rattle.measures.specs.Meanings.{cycles, stack}
use Rattle.measures.specs.declared.cycles.Cycles.{Cycles}
use Rattle.measures.specs.declared.stack.Stack.{Stack}
use Rattle.model.specs.declared.refusal.Refusal.{Refusal}
use Rattle.image.specs.Meaning.{meant}
use Rattle.bound_report.specs.Outcomes.{WorkedOut}
use Rattle.bound_report.proofs.Agree.{bounded_few, refused_alike}
use Rattle.bound_report.proofs.bound_image.bound_image.Goals as goal

pub returns-in-Err-default : goal.returns-in-Err-default
returns-in-Err-default c =
    let G = meant c.in-Ok.image.bytes.now in
    let t = vec_items c.in_ok-in_cycles.in_cycles.trail in
    let u = vec_items c.in_ok-in_stack.in_stack.trail in
    let P : Result Cycles Refusal → Type 0 = λ r. WorkedOut cycles G t r in
    let w : WorkedOut cycles G t (Err c.in-Err-default.refusal) = subst P c.in-Err-default.is-0 c.in_ok-in_cycles.ensures in
    inr (
      G,
      t,
      record {
        opens = c.in-Ok.ensures.1;
        in_cycles = w;
        stack_trail = u;
        in_stack = refused_alike cycles stack G t u c.in-Err-default.refusal c.in_ok-in_stack.in_stack.answer w c.in_ok-in_stack.ensures;
      },
    )

pub returns : goal.returns
returns c =
    let G = meant c.in-Ok.image.bytes.now in
    let t = vec_items c.in_ok-in_cycles.in_cycles.trail in
    let u = vec_items c.in_ok-in_stack.in_stack.trail in
    let Q : Result Stack Refusal → Type 0 = λ r. WorkedOut stack G u r in
    let v : WorkedOut stack G u (Err c.in_default-Err.refusal) = subst Q c.in_default-Err.is-1 c.in_ok-in_stack.ensures in
    inr (
      G,
      t,
      record {
        opens = c.in-Ok.ensures.1;
        in_cycles = refused_alike stack cycles G u t c.in_default-Err.refusal c.in_ok-in_cycles.in_cycles.answer v c.in_ok-in_cycles.ensures;
        stack_trail = u;
        in_stack = v;
      },
    )

pub shown_passes-requires : goal.shown_passes-requires
shown_passes-requires c =
    let G = meant c.in-Ok.image.bytes.now in
    let t = vec_items c.in_ok-in_cycles.in_cycles.trail in
    let P : Result Cycles Refusal → Type 0 = λ r. WorkedOut cycles G t r in
    let h = bounded_few cycles G t c.in-Ok-Ok.cycles (subst P c.in-Ok-Ok.is-0 c.in_ok-in_cycles.ensures) in
    omega (arith, h, c.scopes.ensures)

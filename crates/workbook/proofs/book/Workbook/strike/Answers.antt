use Rattle.std.proofs.Common.{◌<◌, length, sym, refl, ◌∙◌, arith}
use Rattle.workbook.specs.declared.edit.Edit.TheVariants.{Strike}
use Rattle.workbook.specs.Tables.{graph_of}
use Rattle.workbook.proofs.Describing.{there, not_there, present, described_set, described_nowhere, strike_none, strike_own}
use Rattle.workbook.proofs.book.Workbook.strike.Goals as goal

pub returns-in-None : goal.returns-in-None
returns-in-None c =
    let g = graph_of c.args.self.now.tables in
    described_nowhere g (Strike c.args.scope) g (not_there g c.args.scope (λ x. length x.facts) (sym c.in-None.ensures)) refl

pub returns-in-Some-eq0 : goal.returns-in-Some-eq0
returns-in-Some-eq0 c =
    let g = graph_of c.args.self.now.tables in
    let w = there g c.args.scope (λ x. length x.facts) _ (sym c.in-Some-eq0.ensures) in
    strike_none g c.args.self.now.kept c.args.scope w.0 w.1 (w.2 ∙ c.in-Some-eq0.field-0-test) g refl

pub returns-in-Some : goal.returns-in-Some
returns-in-Some c =
    let g = graph_of c.args.self.now.tables in
    let w = there g c.args.scope (λ x. length x.facts) _ (sym c.in-Some.ensures) in
    let h : 0 < length w.0.facts = omega (arith, w.2) in
    described_set g (Strike c.args.scope) (present g c.args.scope w.0 w.1) (strike_own g c.args.self.now.kept c.args.scope w.0 w.1 h) _ _ refl c.try_step.ensures

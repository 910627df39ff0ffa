use Rattle.std.proofs.Common.{Some, vec_items, sym, refl, ap, ◌∙◌}
use Rattle.model.specs.Changes.{figured, with_nodes}
use Rattle.workbook.specs.Sheets.{scope_of}
use Rattle.workbook.proofs.Lists.{change_past, change_at, change_same}
use Rattle.workbook.proofs.Undo.{past}
use Rattle.workbook.proofs.sheet.Sheet.set_figures.Goals as goal

pub returns-in-Some-Block : goal.returns-in-Some-Block
returns-in-Some-Block c =
    let xs = vec_items c.args.self.now.nodes in
    let e = sym c.in-Some-Block.ensures ∙ ap Some c.in-Some-Block.field-0-is in
    ap (λ ns. with_nodes ns (scope_of c.args.self.now)) (sym (change_at c.args.n (figured c.args.time c.args.stack) xs _ e))

pub returns-in-Some-Call : goal.returns-in-Some-Call
returns-in-Some-Call c =
    let xs = vec_items c.args.self.now.nodes in
    let e = sym c.in-Some-Call.ensures ∙ ap Some c.in-Some-Call.field-0-is in
    ap (λ ns. with_nodes ns (scope_of c.args.self.now)) (sym (change_same c.args.n (figured c.args.time c.args.stack) xs _ e refl))

pub returns-in-None : goal.returns-in-None
returns-in-None c =
    let xs = vec_items c.args.self.now.nodes in
    ap (λ ns. with_nodes ns (scope_of c.args.self.now)) (sym (change_past c.args.n (figured c.args.time c.args.stack) xs (past c.args.n xs (sym c.in-None.ensures))))

use Rattle.std.proofs.Common.{◌≤◌, length, vec_items, sym, arith}
use lib.ListN.{length-map}
use Rattle.workbook.specs.Sheets.{scope_of}
use Rattle.workbook.specs.Steps.{apply_to}
use Rattle.workbook.specs.Tables.{graph_of}
use Rattle.workbook.proofs.Lists.{change_past}
use Rattle.workbook.proofs.Meanings.{set_changed}
use Rattle.workbook.proofs.tables.Tables.change.Goals as goal

pub returns-in-Some : goal.returns-in-Some
returns-in-Some c = set_changed (apply_to c.args.change) (vec_items c.args.self.now.scopes) c.args.scope _ c.apply.new.self c.in-Some.ensures.item.3.0 c.in-Some.ensures.value c.apply.ensures

pub returns-in_default : goal.returns-in_default
returns-in_default c =
    let e = length-map (vec_items c.args.self.now.scopes) scope_of in
    let h : length (graph_of c.args.self.now) ≤ c.args.scope = omega (arith, e, c.in_default.ensures.item.3) in
    sym (change_past c.args.scope (apply_to c.args.change) (graph_of c.args.self.now) h)

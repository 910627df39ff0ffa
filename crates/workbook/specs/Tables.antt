-- What the tables of a workbook mean.
use Rattle.std.specs.Prelude.{List, map, vec_items}
use Rattle.model.specs.Graph.{Scope}
use Rattle.workbook.specs.declared.tables.Tables.{Tables}
use Rattle.workbook.specs.Sheets.{scope_of}

abbrev pub graph_of : Tables → List Scope
graph_of t = map scope_of (vec_items t.scopes)

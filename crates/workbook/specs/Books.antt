-- What a workbook means.
use Rattle.std.specs.Prelude.{List}
use Rattle.model.specs.Graph.{Scope}
use Rattle.workbook.specs.declared.book.Workbook.{Workbook}
use Rattle.workbook.specs.Tables.{graph_of}

abbrev pub book_graph : Workbook → List Scope
book_graph w = graph_of w.tables

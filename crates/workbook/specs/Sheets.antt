-- What a sheet means.
use Rattle.std.specs.Prelude.{vec_items}
use Rattle.model.specs.Graph.{Scope}
use Rattle.workbook.specs.declared.sheet.Sheet.{Sheet}

abbrev pub scope_of : Sheet → Scope
scope_of s = record { least = s.least; most = s.most; nodes = vec_items s.nodes; edges = vec_items s.edges; facts = vec_items s.facts }

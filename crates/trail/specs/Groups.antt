-- The groups of passes that are held.
use Rattle.std.specs.Prelude.{List, map}
use Rattle.model.specs.Trail.{Group}
use Rattle.row.specs.declared.row.Row.{Row}
use Rattle.row.specs.Rows.{items_of}
use Rattle.search.specs.Ways.{way_edges}
use Rattle.trail.specs.declared.groups.PassGroup.{PassGroup}

abbrev pub group_of : PassGroup → Group
group_of g = record { first = g.first; last = g.last; way = way_edges g.way }

abbrev pub groups_of : Row PassGroup 10 → List Group
groups_of g = map group_of (items_of g)

use Rattle.std.proofs.Common.{◌≡◌, take, Some}
use Rattle.row.specs.Rows.{items_of}
use Rattle.model.specs.Graph.{Scope}
use Rattle.plain.proofs.copy.fill.Given as goal

abbrev pub invariant-loop-i : goal.invariant-loop-i
invariant-loop-i g l = (s : Scope) → g.L.Listing.scope l.list l.graph ≡ Some s → items_of l.row ≡ take l.i (g.L.Listing.list s)

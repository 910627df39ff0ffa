-- The edges of a way, and a walk that follows choices.
use Rattle.std.specs.Prelude.{◌≡◌, ℕ, ◌<◌, true, List, [], ◌∷◌, is_some, Some, None, Option, slice_index_or}
use Rattle.std.specs.List.{slice_get}
use Rattle.model.specs.declared.graph.Target.{Target}
use Rattle.model.specs.declared.graph.Target.TheVariants.{To, Again, Leave}
use Rattle.model.specs.declared.graph.Edge.{Edge}
use Rattle.row.specs.declared.row.Row.{Row}
use Rattle.row.specs.Rows.{items_of}

abbrev pub way_edges : Row ℕ 32 → List ℕ
way_edges w = items_of w

-- from a target on, each edge is the one chosen at the node where the walk stands, up to an ending
abbrev pub Follows : List Edge → List (Option ℕ) → Target → List ℕ → Type 0
Follows edges choices (To k) [] = ⊥
Follows edges choices (To k) (e ∷ es) = (slice_index_or choices k None ≡ Some e) × ((x : Edge) × (slice_get edges e ≡ Some x) × Follows edges choices x.to es)
Follows edges choices Again [] = Unit {0}
Follows edges choices Again (e ∷ es) = ⊥
Follows edges choices Leave [] = Unit {0}
Follows edges choices Leave (e ∷ es) = ⊥

-- the edge chosen at a node is there, and leads to an ending or to a later one of n nodes with a choice
abbrev pub Guides : List Edge → List (Option ℕ) → ℕ → Type 0
Guides edges choices n =
    (k e : ℕ) → k < n → slice_index_or choices k None ≡ Some e →
    (x : Edge) × (slice_get edges e ≡ Some x) × ((v : ℕ) → x.to ≡ To v → (k < v) × (v < n) × (is_some (slice_index_or choices v None) ≡ true))

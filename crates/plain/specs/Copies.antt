-- The scope that a plain scope holds, and what copies a scope.
use Rattle.std.specs.Prelude.{◌≡◌, ℕ, List, length, Some, None, Option}
use Rattle.std.specs.List.{slice_get}
use Rattle.row.specs.Rows.{items_of}
use Rattle.model.specs.Graph.{Scope}
use Rattle.search.specs.Flows.{edges_of, facts_of, IsFlow}
use Rattle.plain.specs.declared.plain_scope.PlainScope.{PlainScope}

abbrev pub scope_of : PlainScope → Scope
scope_of p = record {
  least = p.least;
  most = p.most;
  nodes = items_of p.nodes;
  edges = edges_of p.flow;
  facts = facts_of p.flow;
}

-- every scope is copied that is there and keeps the limits, and whose edges lead forward
abbrev pub Copied : List Scope → ℕ → Option PlainScope → Type 0
Copied g scope None = (s : Scope) → slice_get g scope ≡ Some s → IsFlow (length s.nodes) s.edges s.facts → ⊥
Copied g scope (Some p) = slice_get g scope ≡ Some (scope_of p)

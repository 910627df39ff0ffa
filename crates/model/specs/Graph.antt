-- The graph that a holder means, and what is asked of it.
use Rattle.std.specs.Prelude.{ℕ, List, length, Some, None, Option}
use Rattle.std.specs.List.{slice_get}
use Rattle.model.specs.declared.graph.Node.{Node}
use Rattle.model.specs.declared.graph.Edge.{Edge}
use Rattle.model.specs.declared.graph.Fact.{Fact}

-- a scope: a loop or a routine with its bounds, nodes, edges and flow facts, each list numbered from 0
pub record Scope : Type 0 where
  pub least : ℕ
  pub most : ℕ
  pub nodes : List Node
  pub edges : List Edge
  pub facts : List Fact

-- what f finds in a scope that is there
abbrev pub in_scope : {A : Type 0} → Option Scope → (Scope → Option A) → Option A
in_scope None f = None
in_scope (Some s) f = f s

-- the questions, of a graph as the list of its scopes: beyond a count the answer is none
abbrev pub passes_at : List Scope → ℕ → Option (ℕ × ℕ)
passes_at g s = in_scope (slice_get g s) (λ x. Some (x.least, x.most))

abbrev pub node_count_lem : List Scope → ℕ → Option ℕ
node_count_lem g s = in_scope (slice_get g s) (λ x. Some (length x.nodes))

abbrev pub edge_count : List Scope → ℕ → Option ℕ
edge_count g s = in_scope (slice_get g s) (λ x. Some (length x.edges))

abbrev pub fact_count_lem : List Scope → ℕ → Option ℕ
fact_count_lem g s = in_scope (slice_get g s) (λ x. Some (length x.facts))

abbrev pub node_at : List Scope → ℕ → ℕ → Option Node
node_at g s n = in_scope (slice_get g s) (λ x. slice_get x.nodes n)

abbrev pub edge_at : List Scope → ℕ → ℕ → Option Edge
edge_at g s n = in_scope (slice_get g s) (λ x. slice_get x.edges n)

abbrev pub fact_at_lem : List Scope → ℕ → ℕ → Option Fact
fact_at_lem g s n = in_scope (slice_get g s) (λ x. slice_get x.facts n)

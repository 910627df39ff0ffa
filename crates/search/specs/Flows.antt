-- What a flow holds, and which edges and facts make one.
use Rattle.std.specs.Prelude.{◌≡◌, ℕ, ◌≤◌, List, length, Some, None, Option}
use Rattle.model.specs.declared.graph.Edge.{Edge}
use Rattle.model.specs.declared.graph.Fact.{Fact}
use Rattle.search.specs.declared.flow.Flow.{Flow}
use Rattle.search.specs.Walks.{Forward}
use Rattle.row.specs.Rows.{items_of}

abbrev pub edges_of : Flow → List Edge
edges_of f = items_of f.edges

abbrev pub facts_of : Flow → List Fact
facts_of f = items_of f.facts

-- the limits of a flow
pub record IsFlow (nodes : ℕ) (edges : List Edge) (facts : List Fact) : Type 0 where
  pub few_nodes : nodes ≤ 32
  pub few_edges : length edges ≤ 96
  pub few_facts : length facts ≤ 4
  pub forward : Forward edges nodes

-- a flow is made of all that keeps the limits, and of nothing else
abbrev pub Prepared : ℕ → List Edge → List Fact → Option Flow → Type 0
Prepared nodes edges facts None = IsFlow nodes edges facts → ⊥
Prepared nodes edges facts (Some f) = (f.nodes ≡ nodes) × (edges_of f ≡ edges) × (facts_of f ≡ facts)

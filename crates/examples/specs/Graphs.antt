-- The worked graphs, and what is claimed of each.
use Rattle.std.specs.Prelude.{ℕ, List, [], ◌∷◌, ℤ, pos, neg_ℤ, Some, None, Option}
use Rattle.std.specs.List.{AllByRecursion}
use Rattle.model.specs.declared.graph.Node.TheVariants.{Block, Call}
use Rattle.model.specs.declared.graph.Target.{Target}
use Rattle.model.specs.declared.graph.Target.TheVariants.{To, Again, Leave}
use Rattle.model.specs.declared.graph.Edge.{Edge}
use Rattle.model.specs.declared.graph.Constraint.{Constraint}
use Rattle.model.specs.declared.graph.Constraint.TheVariants.{Bar, Must, Pair}
use Rattle.model.specs.declared.graph.Fact.{Fact}
use Rattle.model.specs.Graph.{Scope}
use Rattle.model.specs.Runs.{Run, IsRun, IsBound}
use Rattle.measures.specs.Meanings.{cycles, stack, that_many}

-- effects
abbrev plus : ℕ → ℤ
plus n = pos n

abbrev minus : ℕ → ℤ
minus n = neg_ℤ (pos n)

abbrev edge : ℕ → Target → ℤ → Edge
edge from to effect = record { from = from; to = to; effect = effect }

abbrev fact : Constraint → ℕ → ℕ → Fact
fact constraint first last = record { constraint = constraint; first = first; last = last }

-- a loop of four blocks, with a costly branch over node 1 and a cheap one over node 2
abbrev branching : ℕ → ℕ → List Fact → Scope
branching least most facts = record {
  least = least;
  most = most;
  nodes = Block 5 8 ∷ Block 10 40 ∷ Block 3 16 ∷ Block 2 8 ∷ [];
  edges = edge 0 (To 1) (minus 2) ∷ edge 0 (To 2) (plus 0) ∷ edge 1 (To 3) (minus 1) ∷ edge 2 (To 3) (plus 0) ∷ edge 3 Again (minus 1) ∷ edge 3 Leave (plus 0) ∷ [];
  facts = facts;
}

-- the costly way out is barred in the last pass
abbrev early_exit : Scope
early_exit = record {
  least = 1;
  most = 3;
  nodes = Block 1 0 ∷ Block 100 0 ∷ [];
  edges = edge 0 Again (plus 0) ∷ edge 0 (To 1) (plus 0) ∷ edge 1 Leave (plus 0) ∷ edge 0 Leave (plus 0) ∷ [];
  facts = fact (Bar 1) 3 3 ∷ [];
}

-- a node that is reached by a short way and by a longer, costlier one
abbrev detour : Scope
detour = record {
  least = 1;
  most = 1;
  nodes = Block 1 0 ∷ Block 10 0 ∷ Block 10 0 ∷ Block 1 0 ∷ [];
  edges = edge 0 (To 3) (plus 0) ∷ edge 0 (To 1) (plus 0) ∷ edge 1 (To 2) (plus 0) ∷ edge 2 (To 3) (plus 0) ∷ edge 3 Leave (plus 0) ∷ [];
  facts = [];
}

-- a block, and then a call of scope 1
abbrev caller : Scope
caller = record {
  least = 1;
  most = 1;
  nodes = Block 4 24 ∷ Call 1 ∷ [];
  edges = edge 0 (To 1) (minus 1) ∷ edge 1 Leave (plus 2) ∷ [];
  facts = [];
}

-- two passes, each a call of scope 1, whose own passes are counted anew at each entry
abbrev two_calls : Scope
two_calls = record {
  least = 2;
  most = 2;
  nodes = Call 1 ∷ [];
  edges = edge 0 Again (plus 0) ∷ edge 0 Leave (plus 0) ∷ [];
  facts = [];
}

-- a run that costs nothing
abbrev free : Scope
free = record { least = 1; most = 1; nodes = Block 0 0 ∷ []; edges = edge 0 Leave (plus 0) ∷ []; facts = [] }

abbrev empty : Scope
empty = record { least = 1; most = 1; nodes = []; edges = []; facts = [] }

pub record Example : Type 0 where
  pub graph : List Scope
  pub claim : Option (ℕ × ℕ)

abbrev on : List Scope → Option (ℕ × ℕ) → Example
on graph claim = record { graph = graph; claim = claim }

abbrev pub examples : List Example
examples =
    on (branching 1 4 [] ∷ []) (Some (53, 40))
    ∷ on (branching 1 1 [] ∷ []) (Some (14, 40))
    ∷ on (branching 1 4 (fact (Bar 1) 1 2 ∷ []) ∷ []) (Some (45, 40))
    ∷ on (branching 1 4 (fact (Must 2) 1 4 ∷ []) ∷ []) (Some (37, 16))
    ∷ on (branching 1 4 (fact (Pair 1 3) 4 4 ∷ []) ∷ []) (Some (49, 40))
    ∷ on (branching 1 4 (fact (Bar 3) 2 4 ∷ []) ∷ []) (Some (14, 40))
    ∷ on (branching 2 4 (fact (Bar 3) 2 4 ∷ []) ∷ []) None
    ∷ on (early_exit ∷ []) (Some (102, 0))
    ∷ on (detour ∷ []) (Some (22, 0))
    ∷ on (caller ∷ branching 1 4 [] ∷ []) (Some (58, 40))
    ∷ on (two_calls ∷ early_exit ∷ []) (Some (204, 0))
    ∷ on (free ∷ []) (Some (0, 0))
    ∷ on (empty ∷ []) None
    ∷ []

-- what a claim says of a graph: the bound in each measure, or that there is no run
abbrev pub Right : List Scope → Option (ℕ × ℕ) → Type 0
Right g (Some (c, k)) = IsBound cycles g 0 (that_many c) × IsBound stack g 0 (record { bytes = k })
Right g None = (r : Run) → IsRun g 0 r → ⊥

abbrev pub EveryExample : Type 0
EveryExample = AllByRecursion (λ x. Right x.graph x.claim) examples

-- Graphs in which one thing is added, changed or taken away.
use Rattle.std.specs.Prelude.{ℕ, zero, suc, List, [], ◌∷◌, ◌++◌}
use Rattle.model.specs.declared.graph.Node.{Node}
use Rattle.model.specs.declared.graph.Node.TheVariants.{Block, Call}
use Rattle.model.specs.declared.graph.Edge.{Edge}
use Rattle.model.specs.declared.graph.Fact.{Fact}
use Rattle.model.specs.Graph.{Scope}

-- element number n, changed; the list as it is where there is no such element
abbrev pub change : {X : Type 0} → ℕ → (X → X) → List X → List X
change n f [] = []
change zero f (x ∷ xs) = f x ∷ xs
change (suc n) f (x ∷ xs) = x ∷ change n f xs

-- the list without its last element
abbrev pub all_but_last : {X : Type 0} → List X → List X
all_but_last [] = []
all_but_last (x ∷ []) = []
all_but_last (x ∷ (y ∷ ys)) = x ∷ all_but_last (y ∷ ys)

abbrev pub empty_scope : ℕ → ℕ → Scope
empty_scope least most = record { least = least; most = most; nodes = []; edges = []; facts = [] }

abbrev pub with_passes : ℕ → ℕ → Scope → Scope
with_passes least most x = record { least = least; most = most; nodes = x.nodes; edges = x.edges; facts = x.facts }

abbrev pub with_nodes : List Node → Scope → Scope
with_nodes ns x = record { least = x.least; most = x.most; nodes = ns; edges = x.edges; facts = x.facts }

abbrev pub with_edges : List Edge → Scope → Scope
with_edges es x = record { least = x.least; most = x.most; nodes = x.nodes; edges = es; facts = x.facts }

abbrev pub with_facts : List Fact → Scope → Scope
with_facts fs x = record { least = x.least; most = x.most; nodes = x.nodes; edges = x.edges; facts = fs }

abbrev pub with_node : Node → Scope → Scope
with_node n x = with_nodes (x.nodes ++ (n ∷ [])) x

abbrev pub with_edge : Edge → Scope → Scope
with_edge e x = with_edges (x.edges ++ (e ∷ [])) x

abbrev pub with_fact : Fact → Scope → Scope
with_fact f x = with_facts (x.facts ++ (f ∷ [])) x

-- a block with other figures; a call stays
abbrev pub figured : ℕ → ℕ → Node → Node
figured time stack (Block t k) = Block time stack
figured time stack (Call t) = Call t

abbrev pub with_figures : ℕ → ℕ → ℕ → Scope → Scope
with_figures n time stack x = with_nodes (change n (figured time stack) x.nodes) x

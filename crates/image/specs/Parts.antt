-- The parts of a graph, found in the list of the records.
use Rattle.std.specs.Prelude.{ℕ, cond, List, length, Some, None, Option, ◌==◌}
use Rattle.std.specs.List.{slice_get, filter_map}
use Rattle.model.specs.declared.graph.Node.{Node}
use Rattle.model.specs.declared.graph.Edge.{Edge}
use Rattle.model.specs.declared.graph.Fact.{Fact}
use Rattle.image.specs.declared.record.Record.{Record}
use Rattle.image.specs.declared.record.Record.TheVariants.{AddScope, AddNode, AddEdge, AddFact}

-- the passes that a record adds, and the node, the edge and the fact that it adds to scope i
abbrev pub passes_in : Record → Option (ℕ × ℕ)
passes_in (AddScope l m) = Some (l, m)
passes_in (AddNode s n) = None
passes_in (AddEdge s e) = None
passes_in (AddFact s f) = None

abbrev pub node_in : ℕ → Record → Option Node
node_in i (AddScope l m) = None
node_in i (AddNode s n) = cond (s == i) (Some n) None
node_in i (AddEdge s e) = None
node_in i (AddFact s f) = None

abbrev pub edge_in : ℕ → Record → Option Edge
edge_in i (AddScope l m) = None
edge_in i (AddNode s n) = None
edge_in i (AddEdge s e) = cond (s == i) (Some e) None
edge_in i (AddFact s f) = None

abbrev pub fact_in : ℕ → Record → Option Fact
fact_in i (AddScope l m) = None
fact_in i (AddNode s n) = None
fact_in i (AddEdge s e) = None
fact_in i (AddFact s f) = cond (s == i) (Some f) None

-- what is found under passes that are there
abbrev pub under : {A : Type 0} → Option (ℕ × ℕ) → (ℕ × ℕ → Option A) → Option A
under None f = None
under (Some p) f = f p

-- how many parts f finds in a list of the whole graph, or of a scope that is there
abbrev pub count_of : {X : Type 0} → (Record → Option X) → Option ℕ → List Record → Option ℕ
count_of f None rs = Some (length (filter_map f rs))
count_of f (Some s) rs = under (slice_get (filter_map passes_in rs) s) (λ p. Some (length (filter_map f rs)))

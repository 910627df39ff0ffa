-- The steps of a workbook: what each does, and what undoes it.
use Rattle.std.specs.Prelude.{ℕ, ◌-◌, ◌<◌, List, [], ◌∷◌, ◌++◌, length, Some, None, Option}
use Rattle.std.specs.List.{slice_get}
use Rattle.model.specs.declared.graph.Node.{Node}
use Rattle.model.specs.declared.graph.Node.TheVariants.{Block, Call}
use Rattle.model.specs.declared.graph.Fact.{Fact}
use Rattle.model.specs.Changes.{change, all_but_last, empty_scope, with_passes, with_nodes, with_edges, with_facts, with_node, with_edge, with_fact, with_figures}
use Rattle.model.specs.Graph.{Scope}
use Rattle.workbook.specs.declared.change.Change.{Change}
use Rattle.workbook.specs.declared.change.Change.TheVariants.{PushNode, PopNode, PushEdge, PopEdge, PushFact, PopFact, Passes, Figures}
use Rattle.workbook.specs.declared.change.Step.{Step}
use Rattle.workbook.specs.declared.change.Step.TheVariants.{Open, Close, In}

abbrev pub apply_to : Change → Scope → Scope
apply_to (PushNode n) x = with_node n x
apply_to PopNode x = with_nodes (all_but_last x.nodes) x
apply_to (PushEdge e) x = with_edge e x
apply_to PopEdge x = with_edges (all_but_last x.edges) x
apply_to (PushFact f) x = with_fact f x
apply_to PopFact x = with_facts (all_but_last x.facts) x
apply_to (Passes l m) x = with_passes l m x
apply_to (Figures n t k) x = with_figures n t k x

-- there is room for what comes
abbrev pub Room : Change → Scope → Type 0
Room (PushNode n) x = length x.nodes < 33
Room PopNode x = Unit {0}
Room (PushEdge e) x = length x.edges < 97
Room PopEdge x = Unit {0}
Room (PushFact f) x = length x.facts < 5
Room PopFact x = Unit {0}
Room (Passes l m) x = Unit {0}
Room (Figures n t k) x = Unit {0}

-- the figures that a block had; a change of what is no block undoes itself
abbrev pub figured_back : Change → ℕ → Option Node → Change
figured_back ch n None = ch
figured_back ch n (Some (Block t k)) = Figures n t k
figured_back ch n (Some (Call s)) = ch

abbrev pub back_again : Option Fact → Change
back_again None = PopFact
back_again (Some f) = PushFact f

-- what undoes the change of such a scope
abbrev pub inverse_of : Change → Scope → Change
inverse_of (PushNode n) x = PopNode
inverse_of PopNode x = PopNode
inverse_of (PushEdge e) x = PopEdge
inverse_of PopEdge x = PopEdge
inverse_of (PushFact f) x = PopFact
inverse_of PopFact x = back_again (slice_get x.facts (length x.facts - 1))
inverse_of (Passes l m) x = Passes x.least x.most
inverse_of (Figures n t k) x = figured_back (Figures n t k) n (slice_get x.nodes n)

-- the changes that can be undone
abbrev pub Undoable : Change → Scope → Type 0
Undoable (PushNode n) x = Unit {0}
Undoable PopNode x = ⊥
Undoable (PushEdge e) x = Unit {0}
Undoable PopEdge x = ⊥
Undoable (PushFact f) x = Unit {0}
Undoable PopFact x = 0 < length x.facts
Undoable (Passes l m) x = Unit {0}
Undoable (Figures n t k) x = Unit {0}

-- the same in a scope that may not be there
abbrev pub RoomAt : Change → Option Scope → Type 0
RoomAt ch None = Unit {0}
RoomAt ch (Some x) = Room ch x

abbrev pub inverse_at : Change → Option Scope → Change
inverse_at ch None = ch
inverse_at ch (Some x) = inverse_of ch x

abbrev pub UndoableAt : Change → Option Scope → Type 0
UndoableAt ch None = ⊥
UndoableAt ch (Some x) = Undoable ch x

-- the graph after a step
abbrev pub stepped : Step → List Scope → List Scope
stepped (Open l m) g = g ++ (empty_scope l m ∷ [])
stepped Close g = all_but_last g
stepped (In s ch) g = change s (apply_to ch) g

-- there is room for it
abbrev pub Fits : Step → List Scope → Type 0
Fits (Open l m) g = length g < 17
Fits Close g = 0 < length g
Fits (In s ch) g = RoomAt ch (slice_get g s)

-- what undoes the step of such a graph
abbrev pub step_back : Step → List Scope → Step
step_back (Open l m) g = Close
step_back Close g = Close
step_back (In s ch) g = In s (inverse_at ch (slice_get g s))

-- the steps that can be undone
abbrev pub Reversible : Step → List Scope → Type 0
Reversible (Open l m) g = Unit {0}
Reversible Close g = ⊥
Reversible (In s ch) g = UndoableAt ch (slice_get g s)

-- The ways through a scope, as a search sees them: lists of edge numbers, with a value for each edge.
use Rattle.std.specs.Prelude.{◌≡◌, ℕ, suc, List, [], ◌∷◌, Some, None, Option}
use Rattle.model.specs.declared.graph.Node.{Node}
use Rattle.model.specs.declared.graph.Node.TheVariants.{Block, Call}
use Rattle.model.specs.declared.graph.Target.{Target}
use Rattle.model.specs.declared.graph.Target.TheVariants.{To, Again}
use Rattle.model.specs.declared.graph.Edge.{Edge}
use Rattle.model.specs.declared.graph.Fact.{Fact}
use Rattle.std.specs.List.{slice_get}
use Rattle.model.specs.Graph.{Scope}
use Rattle.model.specs.Measures.{Measure}
use Rattle.model.specs.Best.{IsBest, joined}
use Rattle.model.specs.Runs.{Run, Passes, Walk, Inside, IsRun, IsWalk, ArePasses, Meets, executed, way_of, count, weight, run_cost, passes_cost, walk_cost}
use Rattle.model.specs.Runs.Passes.{final, then}
use Rattle.model.specs.Runs.Walk.{done, step}
use Rattle.model.specs.Runs.Inside.{block, call}

-- the way leads from one place to the other: each edge starts where the one before ended
abbrev pub IsWay : List Edge → Target → Target → List ℕ → Type 0
IsWay edges from end [] = from ≡ end
IsWay edges from end (e ∷ es) = (x : Edge) × (slice_get edges e ≡ Some x) × (from ≡ To x.from) × IsWay edges x.to end es

-- the way is one that pass number k may go
abbrev pub IsPassWay : List Edge → List Fact → ℕ → Target → List ℕ → Type 0
IsPassWay edges facts k end es = IsWay edges (To 0) end es × Meets facts k (executed edges es)

-- the values of its edges, joined in their order; absent where an edge has none
abbrev pub way_cost : {C : Type 0} → Measure C → (ℕ → Option C) → List ℕ → Option C
way_cost m value [] = Some m.nothing
way_cost m value (e ∷ es) = joined m (value e) (way_cost m value es)

-- w is pass number k with this end
abbrev pub IsPass : List Scope → Scope → ℕ → Target → Walk → Type 0
IsPass g s k end w = IsWalk g s (To 0) end w × Meets s.facts k (executed s.edges (way_of w))

module _ {C : Type 0} (m : Measure C) (g : List Scope) where
  -- what runs of scope i cost
  abbrev pub RunCost : ℕ → C → Type 0
  RunCost i c = (r : Run) × IsRun g i r × (run_cost m g i r ≡ c)

  -- what passes number k with this end cost
  abbrev pub PassCost : Scope → ℕ → Target → C → Type 0
  PassCost s k end c = (w : Walk) × IsPass g s k end w × (walk_cost m g s w ≡ c)

  -- what p passes from number k on, to the last, cost
  abbrev pub PassesCost : Scope → ℕ → ℕ → C → Type 0
  PassesCost s k p c = (ps : Passes) × (count ps ≡ p) × ArePasses g s k ps × (passes_cost m g s ps ≡ c)

  -- v is the value of an edge out of this node: of a call, the best run of the called scope and then the edge
  abbrev pub IsValue : Edge → Option Node → Option C → Type 0
  IsValue x None v = v ≡ None
  IsValue x (Some (Block time stack)) v = v ≡ Some (m.of (weight (Block time stack) x.effect) stack)
  IsValue x (Some (Call t)) v = (b : Option C) × IsBest m (RunCost t) b × (v ≡ joined m b (Some (m.of (weight (Call t) x.effect) 0)))

  -- each edge of the scope has its value
  abbrev pub AreValues : Scope → (ℕ → Option C) → Type 0
  AreValues s value = (e : ℕ) (x : Edge) → slice_get s.edges e ≡ Some x → IsValue x (slice_get s.nodes x.from) (value e)

-- what ways of pass number k with this end cost
abbrev pub WayCost : {C : Type 0} → Measure C → (ℕ → Option C) → List Edge → List Fact → ℕ → Target → C → Type 0
WayCost m value edges facts k end c = (es : List ℕ) × IsPassWay edges facts k end es × (way_cost m value es ≡ Some c)

-- the value of an edge from what the called scopes cost
abbrev pub value_from_lem : {C : Type 0} → Measure C → (ℕ → Option C) → Edge → Option Node → Option C
value_from_lem m best x None = None
value_from_lem m best x (Some (Block time stack)) = Some (m.of (weight (Block time stack) x.effect) stack)
value_from_lem m best x (Some (Call t)) = joined m (best t) (Some (m.of (weight (Call t) x.effect) 0))

abbrev pub value_of : {C : Type 0} → Measure C → (ℕ → Option C) → Scope → Option Edge → Option C
value_of m best s None = None
value_of m best s (Some x) = value_from_lem m best x (slice_get s.nodes x.from)

abbrev pub edge_value_lem : {C : Type 0} → Measure C → (ℕ → Option C) → Scope → ℕ → Option C
edge_value_lem m best s e = value_of m best s (slice_get s.edges e)

-- the walk along a way that has a chosen run in each call
abbrev pub inside_from : (ℕ → Run) → Option Node → Inside
inside_from chosen None = block
inside_from chosen (Some (Block time stack)) = block
inside_from chosen (Some (Call t)) = call t (chosen t)

abbrev pub inside_of : (ℕ → Run) → Scope → Option Edge → Inside
inside_of chosen s None = block
inside_of chosen s (Some x) = inside_from chosen (slice_get s.nodes x.from)

abbrev pub walk_along : (ℕ → Run) → Scope → List ℕ → Walk
walk_along chosen s [] = done
walk_along chosen s (e ∷ es) = step (inside_of chosen s (slice_get s.edges e)) e (walk_along chosen s es)

-- the chosen run of each scope that s calls and that has one is a best one
abbrev pub AreBest : {C : Type 0} → Measure C → List Scope → Scope → (ℕ → Run) → Type 0
AreBest m g s chosen = (n t : ℕ) (b : _) → slice_get s.nodes n ≡ Some (Call t) → IsBest m (RunCost m g t) (Some b) → IsRun g t (chosen t) × (run_cost m g t (chosen t) ≡ b)

-- the passes along ways, all but the last of which go on
abbrev pub passes_along : (ℕ → Run) → Scope → List (List ℕ) → List ℕ → Passes
passes_along chosen s [] w = final (walk_along chosen s w)
passes_along chosen s (v ∷ vs) w = then (walk_along chosen s v) (passes_along chosen s vs w)

-- the ways are ones that the passes from number k on may go, all of them going on, and cost c together
abbrev pub AreFrontWays : {C : Type 0} → Measure C → (ℕ → Option C) → Scope → ℕ → List (List ℕ) → C → Type 0
AreFrontWays m value s k [] c = c ≡ m.nothing
AreFrontWays m value s k (w ∷ ws) c = (a : _) × (b : _) × IsPassWay s.edges s.facts k Again w × (way_cost m value w ≡ Some a) × AreFrontWays m value s (suc k) ws b × (c ≡ m.join a b)

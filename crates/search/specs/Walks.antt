-- What the walks from a place cost, when only some edges are usable.
use Rattle.std.specs.Prelude.{◌≡◌, ℕ, suc, ◌<◌, Bool, true, false, cond, ◌&&◌, List, [], ◌∷◌, drop, Some, None, Option, ◌==◌, nat_lt, slice_index_or}
use Rattle.std.specs.List.{slice_get}
use Rattle.model.specs.declared.graph.Target.{Target}
use Rattle.model.specs.declared.graph.Target.TheVariants.{To, Again, Leave}
use Rattle.model.specs.declared.graph.Edge.{Edge}
use Rattle.model.specs.Measures.{Measure}
use Rattle.model.specs.Ways.{IsWay, way_cost}

-- what walks from one target to another cost
abbrev pub TailCost : {C : Type 0} → Measure C → (ℕ → Option C) → List Edge → Target → Target → C → Type 0
TailCost m value edges end from c = (es : List ℕ) × IsWay edges from end es × (way_cost m value es ≡ Some c)

-- an edge that is not usable has no value
abbrev pub gate : {C : Type 0} → Bool → Option C → Option C
gate true x = x
gate false x = None

abbrev pub masked : {C : Type 0} → (ℕ → Option C) → List Bool → ℕ → Option C
masked value usable e = gate (slice_index_or usable e false) (value e)

-- every edge starts at one of n nodes, and leads to an ending or to a later one of them
abbrev pub Forward : List Edge → ℕ → Type 0
Forward edges n = (e : ℕ) (x : Edge) → slice_get edges e ≡ Some x → (x.from < n) × ((v : ℕ) → x.to ≡ To v → (x.from < v) × (v < n))

-- the test that an edge leads forward
abbrev pub onward : ℕ → ℕ → Target → Bool
onward nodes from (To v) = nat_lt from v && nat_lt v nodes
onward nodes from Again = true
onward nodes from Leave = true

abbrev pub leads_forward_lem : ℕ → Edge → Bool
leads_forward_lem nodes x = nat_lt x.from nodes && onward nodes x.from x.to

abbrev pub all_forward_lem : ℕ → List Edge → Bool
all_forward_lem nodes [] = true
all_forward_lem nodes (x ∷ xs) = leads_forward_lem nodes x && all_forward_lem nodes xs

-- the first edge from number i on that starts at node k
abbrev pub exit_in : ℕ → ℕ → List Edge → Option ℕ
exit_in k i [] = None
exit_in k i (x ∷ xs) = cond (x.from == k) (Some i) (exit_in k (suc i) xs)

abbrev pub exit_from : List Edge → ℕ → ℕ → Option ℕ
exit_from edges k i = exit_in k i (drop i edges)

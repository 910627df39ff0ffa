-- The table of a search: for each node the cost of the costliest walk on from it and the first edge of that walk.
use Rattle.std.specs.Prelude.{◌≡◌, ℕ, cond, List, Some, None, Option, slice_index_or}
use Rattle.std.specs.List.{slice_get}
use Rattle.model.specs.declared.graph.Target.{Target}
use Rattle.model.specs.declared.graph.Target.TheVariants.{To, Again, Leave}
use Rattle.model.specs.declared.graph.Edge.{Edge}
use Rattle.model.specs.Measures.{Measure}
use Rattle.model.specs.Best.{IsBest, joined}
use Rattle.search.specs.declared.ending.Ending.{Ending}
use Rattle.search.specs.declared.ending.Ending.TheVariants.{Again as Repeat, Leave as Exit}
use Rattle.search.specs.declared.step.Step.{Step}
use Rattle.search.specs.Endings.{stop}
use Rattle.search.specs.Walks.{TailCost}

-- the entry of a node: a cost, if an edge was chosen there
abbrev pub kept_by : {C : Type 0} → Option ℕ → Option C → Option C
kept_by None x = None
kept_by (Some e) x = x

abbrev pub entry : {C : Type 0} → List C → List (Option ℕ) → ℕ → Option C
entry table choices k = kept_by (slice_index_or choices k None) (slice_get table k)

-- what an edge with this value and target offers, once the entries of the later nodes are known
abbrev pub offer : {C : Type 0} → Measure C → Option C → Target → Ending → List C → List (Option ℕ) → Option C
offer m None to end table choices = None
offer m (Some a) (To v) end table choices = joined m (Some a) (entry table choices v)
offer m (Some a) Again Repeat table choices = Some a
offer m (Some a) Again Exit table choices = None
offer m (Some a) Leave Repeat table choices = None
offer m (Some a) Leave Exit table choices = Some a

abbrev pub cost_of_lem : {C : Type 0} → Option (Step C) → Option C
cost_of_lem None = None
cost_of_lem (Some s) = Some s.cost

-- the costlier of the best so far and what edge e offers
abbrev pub costlier : {C : Type 0} → Measure C → Option (Step C) → Option C → ℕ → Option (Step C)
costlier m b None e = b
costlier m None (Some a) e = Some (record { cost = a; edge = e })
costlier m (Some s) (Some a) e = cond (m.leq a s.cost) (Some s) (Some (record { cost = a; edge = e }))

abbrev pub OnSome : {A : Type 0} → (A → Type 0) → Option A → Type 0
OnSome P None = Unit {0}
OnSome P (Some x) = P x

module _ {C : Type 0} (m : Measure C) (value : ℕ → Option C) (edges : List Edge) (end : Ending) where
  -- the step is an edge out of node k, and costs what that edge offers
  abbrev pub IsStep : List C → List (Option ℕ) → ℕ → Step C → Type 0
  IsStep table choices k s = (x : Edge) × (slice_get edges s.edge ≡ Some x) × (x.from ≡ k) × (offer m (value s.edge) x.to end table choices ≡ Some s.cost)

  -- the entry of node k is the best of the walks on from it, and its choice is a step that costs as much
  pub record IsEntry (table : List C) (choices : List (Option ℕ)) (k : ℕ) : Type 0 where
    pub best : IsBest m (TailCost m value edges (stop end) (To k)) (entry table choices k)
    pub linked : (e : ℕ) → slice_index_or choices k None ≡ Some e → (c : C) × (slice_get table k ≡ Some c) × IsStep table choices k (record { cost = c; edge = e })

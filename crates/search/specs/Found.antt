-- What a search gives.
use Rattle.std.specs.Prelude.{◌≡◌, ℕ, ◌<◌, ◌≤◌, cond, List, [], length, Some, None, Option}
use Rattle.model.specs.declared.graph.Edge.{Edge}
use Rattle.model.specs.declared.graph.Fact.{Fact}
use Rattle.model.specs.Measures.{Measure}
use Rattle.model.specs.Best.{IsBest}
use Rattle.model.specs.Ways.{IsPassWay, way_cost, WayCost}
use Rattle.search.specs.declared.ending.Ending.{Ending}
use Rattle.search.specs.declared.found.Costliest.{Costliest}
use Rattle.search.specs.Endings.{stop}
use Rattle.search.specs.Rounds.{RoundCost}
use Rattle.search.specs.Tables.{OnSome}
use Rattle.search.specs.Ways.{way_edges}

module _ {C : Type 0} (m : Measure C) (value : ℕ → Option C) (edges : List Edge) (facts : List Fact) (k : ℕ) (end : Ending) where
  -- the way is one that pass k may go, and costs c
  abbrev pub IsShown : List ℕ → C → Type 0
  IsShown es c = IsPassWay edges facts k (stop end) es × (way_cost m value es ≡ Some c)

  -- the costliest way of pass k with this ending: its cost is the greatest of all ways, its edges are such a way;
  -- where there is no way, there is no cost and there are no edges
  pub record IsCostliest (x : Costliest C) : Type 0 where
    pub best : IsBest m (WayCost m value edges facts k (stop end)) x.cost
    pub shown : OnSome (IsShown (way_edges x.way)) x.cost
    pub blank : x.cost ≡ None → way_edges x.way ≡ []

  -- the same of the ways of one round
  pub record IsRoundBest (r : ℕ) (x : Costliest C) : Type 0 where
    pub best : IsBest m (RoundCost m value edges facts k r (stop end)) x.cost
    pub shown : OnSome (IsShown (way_edges x.way)) x.cost
    pub blank : x.cost ≡ None → way_edges x.way ≡ []

-- the search refuses a table of fewer than 32 places, which it leaves as it is, and else gives the costliest way
abbrev pub Searched : {C : Type 0} → Measure C → (ℕ → Option C) → List Edge → List Fact → ℕ → Ending → List C → List C → Option (Costliest C) → Type 0
Searched m value edges facts k end table table' None = (length table < 32) × (table' ≡ table)
Searched m value edges facts k end table table' (Some x) = (32 ≤ length table) × IsCostliest m value edges facts k end x

-- the costlier of two, by costs of which either may be absent
abbrev pub costlier_by : {C X : Type 0} → Measure C → Option C → Option C → X → X → X
costlier_by m a None x y = x
costlier_by m None (Some b) x y = y
costlier_by m (Some a) (Some b) x y = cond (m.leq b a) x y

abbrev pub costlier_of_lem : {C : Type 0} → Measure C → Costliest C → Costliest C → Costliest C
costlier_of_lem m x y = costlier_by m x.cost y.cost x y

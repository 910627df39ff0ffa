-- The bound of a scope, as it is found.
use Rattle.std.specs.Prelude.{◌≡◌, ℕ, ◌≤◌, ◌⊎◌, List, ◌++◌, Some, None, Option, Ok, Err, Result}
use Rattle.model.specs.Best.{IsBest}
use Rattle.model.specs.Graph.{Scope}
use Rattle.model.specs.Measures.{Measure}
use Rattle.model.specs.Runs.{Run}
use Rattle.model.specs.Trail.{Group}
use Rattle.model.specs.Ways.{RunCost}
use Rattle.plain.specs.Ranges.{Proper}
use Rattle.search.specs.Ways.{way_edges}
use Rattle.trail.specs.Groups.{groups_of}
use Rattle.bound.specs.declared.choice.Choice.{Choice}
use Rattle.bound.specs.declared.solution.Solution.{Solution}
use Rattle.bound.specs.declared.solution.Unfit.{Unfit}
use Rattle.bound.specs.declared.progress.Progress.{Progress}
use Rattle.bound.specs.Choices.{last_groups, IsPlaced, IsChoice}

-- all passes are looked at, or none after them can be gone on to
abbrev pub Ended : {C : Type 0} → Scope → Progress C → Type 0
Ended s p = (s.most ≤ p.done) ⊎ (p.front ≡ None)

-- wherever the scope stands, with these values of its edges, this is the greatest cost of its runs, or it has none
abbrev pub IsRunsBest : {C : Type 0} → Measure C → Scope → (ℕ → Option C) → Option C → Type 0
IsRunsBest m s value x = (g : List Scope) (i : ℕ) (chosen : ℕ → Run) → IsPlaced m s value g i chosen → IsBest m (RunCost m g i) x

-- the groups of a solution are those of a choice of a number of passes
pub record IsSolution {C : Type 0} (m : Measure C) (s : Scope) (value : ℕ → Option C) (x : Solution C) : Type 0 where
  pub fronts : List Group
  pub choice : Choice C
  pub stands : IsChoice m s value fronts choice
  pub groups : groups_of x.groups ≡ fronts ++ last_groups choice.first choice.passes (way_edges choice.on) (way_edges choice.off)
  pub cost : x.cost ≡ choice.cost
  pub passes : x.passes ≡ choice.passes

abbrev pub Solves : {C : Type 0} → Measure C → Scope → (ℕ → Option C) → ℕ → Result (Option (Solution C)) Unfit → Type 0
Solves m s value room (Err e) = 32 ≤ room → Proper s.facts → 1 ≤ s.least → ⊥
Solves m s value room (Ok None) = IsRunsBest m s value None
Solves m s value room (Ok (Some x)) = IsRunsBest m s value (Some x.cost) × IsSolution m s value x

-- Choices of a number of passes.
use Rattle.std.specs.Prelude.{◌≡◌, ℕ, suc, ◌-◌, ◌<◌, ◌≤◌, cond, List, [], ◌∷◌, Some, None, Option, nat_lt}
use Rattle.std.specs.List.{slice_get}
use Rattle.model.specs.declared.graph.Target.TheVariants.{Again, Leave}
use Rattle.model.specs.Best.{power}
use Rattle.model.specs.Graph.{Scope}
use Rattle.model.specs.Measures.{Measure}
use Rattle.model.specs.Runs.{Run}
use Rattle.model.specs.Trail.{Group, AreRanges, IsRange, unrolled}
use Rattle.model.specs.Ways.{AreValues, AreBest, IsPassWay, AreFrontWays, way_cost}
use Rattle.search.specs.Ways.{way_edges}
use Rattle.bound.specs.declared.choice.Choice.{Choice}

abbrev pub group : ℕ → ℕ → List ℕ → Group
group first last way = record { first = first; last = last; way = way }

abbrev pub choice_cost : {C : Type 0} → Option (Choice C) → Option C
choice_cost None = None
choice_cost (Some x) = Some x.cost

-- the costlier of the two, or the one that is there
abbrev pub better_choice : {C : Type 0} → Measure C → Option (Choice C) → Option (Choice C) → Option (Choice C)
better_choice m None y = y
better_choice m (Some x) None = Some x
better_choice m (Some x) (Some y) = cond (m.leq x.cost y.cost) (Some y) (Some x)

-- the scope stands in a graph, its edges have the values that its called scopes' best runs give them, and chosen runs are such
pub record IsPlaced {C : Type 0} (m : Measure C) (s : Scope) (value : ℕ → Option C) (g : List Scope) (i : ℕ) (chosen : ℕ → Run) : Type 0 where
  pub there : slice_get g i ≡ Some s
  pub vals : AreValues m g s value
  pub bests : AreBest m g s chosen

-- what a choice stands for: the groups of the whole ranges before it, then the range of its last pass up to that pass
pub record IsChoice {C : Type 0} (m : Measure C) (s : Scope) (value : ℕ → Option C) (fronts : List Group) (x : Choice C) : Type 0 where
  pub d : ℕ
  pub b : ℕ
  pub front_cost : C
  pub on_cost : C
  pub off_cost : C
  pub begins : x.first ≡ suc d
  pub ranges : AreRanges s 1 d fronts
  pub fronts_cost : AreFrontWays m value s 1 (unrolled fronts) front_cost
  pub range : IsRange s (suc d) b
  pub from : d < x.passes
  pub upto : x.passes ≤ b
  pub goes_on : suc d < x.passes → IsPassWay s.edges s.facts (suc d) Again (way_edges x.on) × (way_cost m value (way_edges x.on) ≡ Some on_cost)
  pub leaves : IsPassWay s.edges s.facts (suc d) Leave (way_edges x.off)
  pub leave_cost : way_cost m value (way_edges x.off) ≡ Some off_cost
  pub costs : x.cost ≡ m.join (m.join front_cost (power m on_cost (x.passes - suc d))) off_cost
  pub least : s.least ≤ x.passes

-- the groups of the range that the last pass stands in: those before it, if there are any, and the pass itself
abbrev pub last_groups : ℕ → ℕ → List ℕ → List ℕ → List Group
last_groups first passes on off =
    cond (nat_lt first passes) (group first (passes - 1) on ∷ group passes passes off ∷ []) (group passes passes off ∷ [])

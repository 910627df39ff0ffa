-- The costs of a run in their order, and that a bound is one.
use Rattle.std.specs.Prelude.{◌≡◌, ℕ, List, [], ◌∷◌, ◌++◌}
use Rattle.model.specs.Graph.{Scope}
use Rattle.model.specs.Measures.{Measure}
use Rattle.model.specs.Runs.{Run, Passes, Walk, Inside, edge_cost, scope_or_empty, run_cost, IsBound}
use Rattle.model.specs.Runs.Run.{run}
use Rattle.model.specs.Runs.Passes.{final, then}
use Rattle.model.specs.Runs.Walk.{done, step}
use Rattle.model.specs.Runs.Inside.{block, call}

abbrev mutual
  -- what a run costs, edge by edge: before an edge out of a call stands what the called run costs
  pub run_costs : {C : Type 0} → Measure C → List Scope → ℕ → Run → List C
  run_costs m g i (run ps) = passes_costs m g (scope_or_empty g i) ps

  pub passes_costs : {C : Type 0} → Measure C → List Scope → Scope → Passes → List C
  passes_costs m g s (final w) = walk_costs m g s w
  passes_costs m g s (then w ps) = walk_costs m g s w ++ passes_costs m g s ps

  pub walk_costs : {C : Type 0} → Measure C → List Scope → Scope → Walk → List C
  walk_costs m g s done = []
  walk_costs m g s (step i e w) = inside_costs m g i ++ (edge_cost m s e ∷ walk_costs m g s w)

  pub inside_costs : {C : Type 0} → Measure C → List Scope → Inside → List C
  inside_costs m g block = []
  inside_costs m g (call t r) = run_costs m g t r

-- costs joined from left to right, onto what there is
abbrev pub joined_onto : {C : Type 0} → Measure C → C → List C → C
joined_onto m c [] = c
joined_onto m c (x ∷ xs) = joined_onto m (m.join c x) xs

abbrev pub JoinedInOrder : {C : Type 0} → Measure C → Type 0
JoinedInOrder m = (g : List Scope) (i : ℕ) (r : Run) → joined_onto m m.nothing (run_costs m g i r) ≡ run_cost m g i r

abbrev pub BoundUnique : {C : Type 0} → Measure C → Type 0
BoundUnique {C} m = (g : List Scope) (i : ℕ) (a b : C) → IsBound m g i a → IsBound m g i b → a ≡ b

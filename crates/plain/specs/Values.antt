-- The values of the edges of a scope, by the bounds of the scopes that have one.
use Rattle.std.specs.Prelude.{◌≡◌, ℕ, suc, ◌-◌, ◌^◌, ◌<◌, min, Bool, false, List, pos, ◌+ℤ◌, Some, None, Option, slice_index_or}
use Rattle.std.specs.List.{slice_get}
use Rattle.model.specs.declared.graph.Edge.{Edge}
use Rattle.model.specs.declared.graph.Node.{Node}
use Rattle.model.specs.declared.graph.Node.TheVariants.{Block, Call}
use Rattle.model.specs.Graph.{Scope}
use Rattle.model.specs.Measures.{Measure}
use Rattle.model.specs.Rules.{KeepsFrom}
use Rattle.model.specs.Runs.{weight}
use Rattle.search.specs.Walks.{gate}

-- the bound of a scope, where it is worked out
abbrev pub bound_at : {C : Type 0} → List C → List Bool → ℕ → Option C
bound_at bounds solved t = gate (slice_index_or solved t false) (slice_get bounds t)

-- the number of the called scope plus 1, or 0 where none is called, as a line of the trail shows it
abbrev pub shown_call : Option ℕ → ℕ
shown_call None = 0
shown_call (Some t) = suc t

-- the greatest weight that has a cost
abbrev pub heaviest : ℕ
heaviest = 2 ^ 32 - 1

-- the measure with weights up to the heaviest
abbrev pub capped : {C : Type 0} → Measure C → Measure C
capped m = record { nothing = m.nothing; of = λ weight stack. m.of (min weight heaviest) stack; join = m.join; leq = m.leq }

-- every weight of the scope fits 32 bits
abbrev pub AllLight : Scope → Type 0
AllLight s = (e : ℕ) (x : Edge) (n : Node) → slice_get s.edges e ≡ Some x → slice_get s.nodes x.from ≡ Some n → weight n x.effect < 2 ^ 32

-- the weights are the sums of time and effect themselves, which are not below 0
pub record WeightsStand (s : Scope) : Type 0 where
  pub light : AllLight s
  pub block : (e time stack : ℕ) (x : Edge) → slice_get s.edges e ≡ Some x → slice_get s.nodes x.from ≡ Some (Block time stack) → pos (weight (Block time stack) x.effect) ≡ pos time +ℤ x.effect
  pub call : (e t : ℕ) (x : Edge) → slice_get s.edges e ≡ Some x → slice_get s.nodes x.from ≡ Some (Call t) → pos (weight (Call t) x.effect) ≡ x.effect

-- so it is in a graph that keeps the rules
abbrev pub KeptWeights : Type 0
KeptWeights = (g : List Scope) → KeepsFrom 22 g → (i : ℕ) (s : Scope) → slice_get g i ≡ Some s → WeightsStand s

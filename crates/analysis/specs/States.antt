-- What the tables say of the scopes that are settled.
use Rattle.std.specs.Prelude.{◌≡◌, ℕ, ◌<◌, Bool, true, false, ◌⊎◌, List, slice_index, slice_index_or}
use Rattle.model.specs.declared.trail.Line.{Line}
use Rattle.model.specs.Analysis.{Solved, Unsolvable}
use Rattle.model.specs.Graph.{Scope}
use Rattle.model.specs.Measures.{Measure}

module _ {C : Type 0} (m : Measure C) (g : List Scope) (work : List C) (trail : List Line) (solved : List Bool) where
  -- scope t is settled: it is marked and its section shows a worst-case run, or it is not marked and has no run
  abbrev pub Settled : ℕ → Type 0
  Settled t = ((slice_index_or solved t false ≡ true) × Solved m g work trail t) ⊎ ((slice_index_or solved t false ≡ false) × Unsolvable m g work trail t)

  -- the first k scopes of the order are settled
  abbrev pub AreSettled : List ℕ → ℕ → Type 0
  AreSettled order k = (l : ℕ) → l < k → Settled (slice_index order l)

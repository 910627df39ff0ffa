-- The values of the edges of a small graph.
use Rattle.std.specs.Prelude.{ℕ, cond, List, Some, None, Option, nat_lt, slice_index_or}
use Rattle.model.specs.Measures.{Measure}

-- the cost of a weight and a stack
abbrev pub cost_of_lem : {C : Type 0} → Measure C → Option (ℕ × ℕ) → Option C
cost_of_lem m None = None
cost_of_lem m (Some x) = Some (m.of x.0 x.1)

-- of the first eight edges
abbrev pub cost_at : {C : Type 0} → Measure C → List (Option (ℕ × ℕ)) → ℕ → Option C
cost_at m items e = cond (nat_lt e 8) (cost_of_lem m (slice_index_or items e None)) None

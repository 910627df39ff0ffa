-- Where a range of passes ends.
use Rattle.std.specs.Prelude.{◌≡◌, ℕ, ◌-◌, ◌≤◌, min, cond, List, Some, nat_le, nat_lt}
use Rattle.std.specs.List.{slice_get}
use Rattle.model.specs.declared.graph.Fact.{Fact}
use Rattle.model.specs.Graph.{Scope}
use Rattle.model.specs.Trail.{IsCut}

-- no fact ends before it begins
abbrev pub Proper : List Fact → Type 0
Proper facts = (j : ℕ) (f : Fact) → slice_get facts j ≡ Some f → f.first ≤ f.last

-- passes a to b of the scope have the same facts in force, and no more after them
abbrev pub RangeEnds : Scope → ℕ → ℕ → Type 0
RangeEnds s a b = a ≤ s.most → Proper s.facts → IsCut s.facts a s.most b

-- the last pass up to b before the fact begins or, where it is in force in pass a, ends
abbrev pub cut_by : Fact → ℕ → ℕ → ℕ
cut_by f a b = cond (nat_lt a f.first) (min b (f.first - 1)) (cond (nat_le a f.last) (min b f.last) b)

-- The ends of the facts that cut the passes of a scope into ranges.
use Rattle.std.specs.Prelude.{ℕ, suc, ◌+◌, cond, List, [], ◌∷◌, nat_lt}
use Rattle.model.specs.declared.graph.Fact.{Fact}

-- how many ends of facts lie behind pass d: the pass before a fact's first, and its last
abbrev pub one_if : ℕ → ℕ → ℕ
one_if a b = cond (nat_lt a b) 1 0

abbrev pub cuts : List Fact → ℕ → ℕ
cuts [] d = 0
cuts (f ∷ fs) d = (one_if (suc d) f.first + one_if d f.last) + cuts fs d

-- What a fact asks of a pass, by the nodes that the pass executes and by the edges that it may use.
use Rattle.std.specs.Prelude.{ℕ, Bool, true, false, cond, not, ◌&&◌, ◌||◌, List, ◌==◌, nat_lt}
use Rattle.model.specs.declared.graph.Target.{Target}
use Rattle.model.specs.declared.graph.Target.TheVariants.{To, Again, Leave}
use Rattle.model.specs.declared.graph.Edge.{Edge}
use Rattle.model.specs.declared.graph.Constraint.{Constraint}
use Rattle.model.specs.declared.graph.Constraint.TheVariants.{Bar, Must, Pair}
use Rattle.model.specs.declared.graph.Fact.{Fact}
use Rattle.model.specs.Runs.{Among}
use Rattle.search.specs.declared.restriction.Restriction.{Restriction}
use Rattle.search.specs.declared.restriction.Restriction.TheVariants.{Free, Avoid, Visit}

-- the pass that executes the nodes ns meets the restriction
abbrev pub Grants : Restriction → List ℕ → Type 0
Grants Free ns = Unit {0}
Grants (Avoid n) ns = Among n ns → ⊥
Grants (Visit n) ns = Among n ns

-- an edge that leads to the node, and one that starts before it and leads past it
abbrev pub hits : Target → ℕ → Bool
hits (To v) n = v == n
hits Again n = false
hits Leave n = false

abbrev pub beyond : Target → ℕ → Bool
beyond (To v) n = nat_lt n v
beyond Again n = true
beyond Leave n = true

abbrev pub passes_by_lem : Edge → ℕ → Bool
passes_by_lem x n = nat_lt x.from n && beyond x.to n

-- the edges that a pass which meets the restriction may use
abbrev pub allows : Restriction → Edge → Bool
allows Free x = true
allows (Avoid n) x = not (n == 0) && not (hits x.to n)
allows (Visit n) x = not (passes_by_lem x n)

-- what a fact asks of a pass that it is in force for; of a pair, one of the two nodes is avoided
abbrev pub asks : Constraint → Bool → Restriction
asks (Bar n) second = Avoid n
asks (Must n) second = Visit n
asks (Pair n m) second = Avoid (cond second m n)

abbrev pub restriction_of_lem : Fact → ℕ → Bool → Restriction
restriction_of_lem f k second = cond (nat_lt k f.first || nat_lt f.last k) Free (asks f.constraint second)

use Rattle.std.proofs.Common.{◌≡◌, ℕ, ◌<◌, false, length, get_or, Some}
use Rattle.std.specs.List.{slice_get}
use Rattle.model.specs.declared.graph.Edge.{Edge}
use Rattle.search.specs.Flows.{edges_of, facts_of}
use Rattle.search.specs.Rounds.{allows_all, restrictions}
use Rattle.search.proofs.usable.usable_edges.Given as goal

abbrev pub invariant-loop-e : goal.invariant-loop-e
invariant-loop-e l =
    (length l.usable ≡ 96)
    × ((i : ℕ) (x : Edge) → i < l.e → slice_get (edges_of l.flow) i ≡ Some x → get_or l.usable i false ≡ allows_all (restrictions (facts_of l.flow) l.pass l.round) x)

-- The chains of the edges out of each node.
use Rattle.std.specs.Prelude.{◌≡◌, ℕ, ◌+◌, ◌<◌, ◌≤◌, Bool, true, false, List, Some, None, Option, ◌==◌, slice_index_or}
use Rattle.std.specs.List.{slice_get}
use Rattle.model.specs.declared.graph.Edge.{Edge}
use Rattle.search.specs.Walks.{exit_from}

-- the first edge out of each node from number i on, and of each edge the next one with the same start
abbrev pub AreFirsts : List Edge → ℕ → List (Option ℕ) → Type 0
AreFirsts edges i first = (k : ℕ) → k < 32 → slice_index_or first k None ≡ exit_from edges k i

abbrev pub AreNexts : List Edge → List (Option ℕ) → Type 0
AreNexts edges next = (e : ℕ) (x : Edge) → slice_get edges e ≡ Some x → slice_index_or next e None ≡ exit_from edges x.from (e + 1)

-- the same as tests, for an invariant of a type
abbrev pub same_exit : Option ℕ → Option ℕ → Bool
same_exit None None = true
same_exit None (Some b) = false
same_exit (Some a) None = false
same_exit (Some a) (Some b) = a == b

abbrev pub FirstsKept : List Edge → List (Option ℕ) → Type 0
FirstsKept edges first = (k : ℕ) → k < 32 → same_exit (slice_index_or first k None) (exit_from edges k 0) ≡ true

abbrev pub NextsKept : List Edge → List (Option ℕ) → Type 0
NextsKept edges next = (e : ℕ) (x : Edge) → slice_get edges e ≡ Some x → same_exit (slice_index_or next e None) (exit_from edges x.from (e + 1)) ≡ true

-- the chains are right for the edges from number i on
abbrev pub AreExitsFrom : List Edge → ℕ → List (Option ℕ) → List (Option ℕ) → Type 0
AreExitsFrom edges i first next =
    AreFirsts edges i first × ((e : ℕ) (x : Edge) → i ≤ e → slice_get edges e ≡ Some x → slice_index_or next e None ≡ exit_from edges x.from (e + 1))

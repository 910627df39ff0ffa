-- What the bytes of an image come to.
use Rattle.std.specs.Prelude.{◌≡◌, ℕ, ◌*◌, ◌<◌, ◌≤◌, ◌⊎◌, List, length, Ok, Err, vec_items, Result, slice_index, slice_index_or}
use Rattle.image.specs.Meaning.{opened}
use Rattle.measures.specs.Meanings.{cycles, stack}
use Rattle.model.specs.declared.refusal.Refusal.{Refusal}
use Rattle.model.specs.declared.trail.Line.{Line}
use Rattle.model.specs.Analysis.{Analyzed}
use Rattle.model.specs.Graph.{Scope}
use Rattle.model.specs.Measures.{Measure}
use Rattle.model.specs.Trail.{section, size, line}
use Rattle.bound_report.specs.declared.bounds.Bounds.{Bounds}

-- the graph, worked out with tables that are long enough for sixteen scopes, answers r and leaves this trail
pub record WorkedOut {C : Type 0} (m : Measure C) (g : List Scope) (trail' : List Line) (r : Result C Refusal) : Type 0 where
  pub work : List C
  pub work' : List C
  pub trail : List Line
  pub room : 128 ≤ length work
  pub lines : size * 16 ≤ length trail
  pub analyzed : Analyzed m g work work' trail trail' r

-- the number of passes in the first line of the section of scope i: 0 where the section is blank
abbrev pub passes_shown : List Line → ℕ → ℕ
passes_shown trail i = (slice_index_or (section trail i) 0 (line 0 0 0)).a

-- the passes that the trail shows for scopes 0 to n - 1
abbrev pub ArePassesShown : List Line → ℕ → List ℕ → Type 0
ArePassesShown trail n ps = (length ps ≡ n) × ((i : ℕ) → i < n → slice_index ps i ≡ passes_shown trail i)

-- the bytes open as a graph that is worked out under both measures with these answers
pub record BothWorkedOut (bytes : List ℕ) (g : List Scope) (trail : List Line) (c : Result _ Refusal) (k : Result _ Refusal) : Type 0 where
  pub opens : opened bytes ≡ Ok g
  pub in_cycles : WorkedOut cycles g trail c
  pub stack_trail : List Line
  pub in_stack : WorkedOut stack g stack_trail k

-- bytes come to bounds, with the passes in the sections of the cycles trail; or to the refusal of opening them,
-- or to the one that working out their graph gives under either measure
abbrev pub ComesTo : List ℕ → Result Bounds Refusal → Type 0
ComesTo bytes (Ok b) = (g : List Scope) × (trail : List Line) × BothWorkedOut bytes g trail (Ok b.cycles) (Ok b.stack) × ArePassesShown trail (length g) (vec_items b.passes)
ComesTo bytes (Err e) = (opened bytes ≡ Err e) ⊎ ((g : List Scope) × (trail : List Line) × BothWorkedOut bytes g trail (Err e) (Err e))

-- What working out a graph answers and leaves in the tables.
use Rattle.std.specs.Prelude.{◌≡◌, ℕ, ◌*◌, ◌<◌, ◌≤◌, T, ◌⊎◌, List, length, get_or, drop, replicate, Ok, Err, Result, slice_index_or}
use Rattle.model.specs.declared.refusal.Refusal.{Refusal}
use Rattle.model.specs.declared.refusal.Refusal.TheVariants.{ShortWork, ShortTrail, NoRun}
use Rattle.model.specs.declared.trail.Line.{Line}
use Rattle.model.specs.Graph.{Scope}
use Rattle.model.specs.Measures.{Measure}
use Rattle.model.specs.Runs.{Run, IsRun, IsBound, run_cost}
use Rattle.model.specs.Rules.{FirstBroken, Keeps}
use Rattle.model.specs.Trail.{Shows, section, size, line}

module _ {C : Type 0} (m : Measure C) (g : List Scope) where
  -- scope i has a run: its section shows one, its place in the work table has what that costs, and no run costs more
  pub record Solved (work : List C) (trail : List Line) (i : ℕ) : Type 0 where
    pub shown : Run
    pub shows : Shows g trail i shown
    pub is_run : IsRun g i shown
    pub costs : run_cost m g i shown ≡ slice_index_or work i m.nothing
    pub worst : (r : Run) → IsRun g i r → T (m.leq (run_cost m g i r) (slice_index_or work i m.nothing))

  -- scope i has no run: nothing is shown
  pub record Unsolvable (work : List C) (trail : List Line) (i : ℕ) : Type 0 where
    pub none : (r : Run) → IsRun g i r → ⊥
    pub nothing : get_or work i m.nothing ≡ m.nothing
    pub blank : section trail i ≡ replicate size (line 0 0 0)

  -- the tables after a bound, and after the answer that scope 0 has no run
  pub record Tabled (trail trail' : List Line) (work' : List C) : Type 0 where
    pub sections : (i : ℕ) → i < length g → Solved work' trail' i ⊎ Unsolvable work' trail' i
    pub rest : drop (size * length g) trail' ≡ drop (size * length g) trail

  -- the refusals that come before any search, in the order of checking
  pub data Early (work trail : ℕ) : Refusal → Type 0 where
    short_work : work < 128 → Early work trail ShortWork
    broken : {x : Refusal} → 128 ≤ work → FirstBroken g x → Early work trail x
    short_trail : 128 ≤ work → Keeps g → trail < size * length g → Early work trail ShortTrail

  -- working out the graph with these tables answers r and leaves these tables
  pub data Analyzed (work work' : List C) (trail trail' : List Line) : Result C Refusal → Type 0 where
    refused : {x : Refusal} → Early (length work) (length trail) x → work' ≡ work → trail' ≡ trail → Analyzed work work' trail trail' (Err x)
    no_run : 128 ≤ length work → Keeps g → size * length g ≤ length trail → ((r : Run) → IsRun g 0 r → ⊥) → Tabled trail trail' work' → Analyzed work work' trail trail' (Err NoRun)
    bound : {c : C} → 128 ≤ length work → Keeps g → size * length g ≤ length trail → c ≡ slice_index_or work' 0 m.nothing → IsBound m g 0 c → Tabled trail trail' work' → Analyzed work work' trail trail' (Ok c)

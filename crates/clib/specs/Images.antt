-- What working out the bytes of an image answers and leaves in the tables.
use Rattle.std.specs.Prelude.{◌≡◌, ℕ, ◌⊎◌, List, Ok, Err, Result}
use Rattle.image.specs.Meaning.{opened}
use Rattle.model.specs.declared.refusal.Refusal.{Refusal}
use Rattle.model.specs.declared.trail.Line.{Line}
use Rattle.model.specs.Analysis.{Analyzed}
use Rattle.model.specs.Graph.{Scope}
use Rattle.model.specs.Measures.{Measure}
use Rattle.model.specs.Numbers.{number}

-- bytes that opening refuses: that refusal, and both tables as they were; else the analysis of the graph that they mean
abbrev pub ImageAnalyzed : {C : Type 0} → Measure C → List ℕ → List C → List C → List Line → List Line → Result C Refusal → Type 0
ImageAnalyzed m bytes work work' trail trail' r =
    ((x : Refusal) × (opened bytes ≡ Err x) × (r ≡ Err x) × (work' ≡ work) × (trail' ≡ trail)) ⊎ ((g : List Scope) × (opened bytes ≡ Ok g) × Analyzed m g work work' trail trail' r)

-- 0 for a bound, else the number of the refusal
abbrev pub status : {C : Type 0} → Result C Refusal → ℕ
status (Ok c) = 0
status (Err x) = number x

-- a bound is written, a refusal leaves what was there
abbrev pub written : {C : Type 0} → (C → ℕ) → Result C Refusal → ℕ → ℕ
written read (Ok c) old = read c
written read (Err x) old = old

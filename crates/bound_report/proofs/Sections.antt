-- The passes that are read off the sections of a trail.
use Rattle.std.proofs.Common.{◌≡◌, ℕ, ◌*◌, ◌≤◌, List, ◌++◌, length, take, drop, Result, sym, ◌∙◌, subst, arith}
use Rattle.std.proofs.lemmas.List.{take_all, take-append-le}
use Rattle.model.specs.declared.refusal.Refusal.{Refusal}
use Rattle.model.specs.Analysis.{Analyzed}
use Rattle.model.specs.Graph.{Scope}
use Rattle.model.specs.Measures.{Measure}
use Rattle.model.specs.declared.trail.Line.{Line}
use Rattle.model.specs.Trail.{size}
use Rattle.bound_report.specs.Outcomes.{WorkedOut}

-- what a lent table holds in the end is what was left in it
pub worked_in : {C : Type 0} (m : Measure C) (g : List Scope) (work work' : List C) (trail last items : List Line) (n : ℕ) (r : Result C Refusal) →
    128 ≤ length work → size * 16 ≤ length trail → length last ≡ n → Analyzed m g work work' trail last r → WorkedOut m g (take n (last ++ drop (length last) items)) r
worked_in m g work work' trail last items n r a b e h =
    let w = drop (length last) items in
    let q : n ≤ length last = omega arith in
    let k : length last ≤ n = omega arith in
    let same : take n (last ++ w) ≡ last = take-append-le n last w q ∙ take_all n last k in
    record { work = work; work' = work'; trail = trail; room = a; lines = b; analyzed = subst (λ (t : List Line). Analyzed m g work work' trail t r) (sym same) h }

-- The range that begins behind a pass.
use Rattle.std.proofs.Common.{◌≡◌, ℕ, suc, ◌-◌, ◌<◌, subst, arith}
use Rattle.model.specs.Graph.{Scope}
use Rattle.model.specs.Trail.{SameFacts, IsRange, IsCut}
use Rattle.model.proofs.Cuts.{range_found}

pub range_from : (s : Scope) (d b : ℕ) → (0 < d → SameFacts s.facts d (suc d) → ⊥) → IsCut s.facts (suc d) s.most b → IsRange s (suc d) b
range_from s d b starts e =
    range_found s (suc d) b (omega arith)
    (λ l t. starts (omega arith) (let q : suc d - 1 ≡ d = omega arith in subst (λ x. SameFacts s.facts x (suc d)) q t)) e

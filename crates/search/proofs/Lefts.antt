-- The edges that are left in a round.
use Rattle.std.proofs.Common.{◌≡◌, ℕ, ◌/◌, ◌&&◌, List, [], ◌∷◌, refl, ap}
use Rattle.model.specs.declared.graph.Edge.{Edge}
use Rattle.model.specs.declared.graph.Fact.{Fact}
use Rattle.search.specs.Restrictions.{allows, restriction_of_lem}
use Rattle.search.specs.Rounds.{odd, restrictions, allows_all, told}

-- the restrictions of a round allow an edge where each fact does
pub told_allows : (fs : List Fact) (k r : ℕ) (x : Edge) → told (λ f second. allows (restriction_of_lem f k second) x) fs r ≡ allows_all (restrictions fs k r) x
told_allows [] k r x = refl
told_allows (f ∷ fs) k r x = ap (λ b. allows (restriction_of_lem f k (odd r)) x && b) (told_allows fs k (r / 2) x)

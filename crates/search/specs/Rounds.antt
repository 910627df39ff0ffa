-- The rounds of a search: of each pair in force one node is avoided, the first or the second.
use Rattle.std.specs.Prelude.{◌≡◌, ℕ, ◌/◌, ◌%◌, Bool, true, false, not, ◌&&◌, ◌||◌, List, [], ◌∷◌, Some, Option, ◌==◌, nat_lt, slice_index_or}
use Rattle.std.specs.List.{slice_get}
use Rattle.model.specs.declared.graph.Target.{Target}
use Rattle.model.specs.declared.graph.Target.TheVariants.{To}
use Rattle.model.specs.declared.graph.Edge.{Edge}
use Rattle.model.specs.declared.graph.Constraint.{Constraint}
use Rattle.model.specs.declared.graph.Constraint.TheVariants.{Bar, Must, Pair}
use Rattle.model.specs.declared.graph.Fact.{Fact}
use Rattle.model.specs.Measures.{Measure}
use Rattle.model.specs.Ways.{IsWay, way_cost}
use Rattle.search.specs.declared.restriction.Restriction.{Restriction}
use Rattle.search.specs.Restrictions.{Grants, allows, restriction_of_lem}

-- the digits of a round's number in base two say which node of each pair is avoided
abbrev pub odd : ℕ → Bool
odd r = r % 2 == 1

abbrev pub restrictions : List Fact → ℕ → ℕ → List Restriction
restrictions [] k r = []
restrictions (f ∷ fs) k r = restriction_of_lem f k (odd r) ∷ restrictions fs k (r / 2)

abbrev pub allows_all : List Restriction → Edge → Bool
allows_all [] x = true
allows_all (d ∷ ds) x = allows d x && allows_all ds x

abbrev pub GrantsAll : List Restriction → List ℕ → Type 0
GrantsAll [] ns = Unit {0}
GrantsAll (d ∷ ds) ns = Grants d ns × GrantsAll ds ns

-- a fact that is a pair, in force in pass k
abbrev pub paired : Constraint → Bool
paired (Bar n) = false
paired (Must n) = false
paired (Pair n m) = true

abbrev pub splits : Fact → ℕ → Bool
splits f k = not (nat_lt k f.first || nat_lt f.last k) && paired f.constraint

-- every fact passes the test, each with its digit
abbrev pub told : (Fact → Bool → Bool) → List Fact → ℕ → Bool
told t [] r = true
told t (f ∷ fs) r = t f (odd r) && told t fs (r / 2)

-- a round in which only pairs in force have the second node avoided: the others would say the same again
abbrev pub useful : List Fact → ℕ → ℕ → Bool
useful fs k r = told (λ f second. splits f k || not second) fs r

-- every edge of the way passes the test
abbrev pub Uses : (Edge → Bool) → List Edge → List ℕ → Type 0
Uses t edges [] = Unit {0}
Uses t edges (e ∷ es) = ((x : Edge) → slice_get edges e ≡ Some x → t x ≡ true) × Uses t edges es

-- what ways cost that use only the edges left in round r
abbrev pub RoundCost : {C : Type 0} → Measure C → (ℕ → Option C) → List Edge → List Fact → ℕ → ℕ → Target → C → Type 0
RoundCost m value edges facts k r end c =
    (es : List ℕ) × IsWay edges (To 0) end es × Uses (allows_all (restrictions facts k r)) edges es × (way_cost m value es ≡ Some c)

-- the table of the edges that are left
abbrev pub AreUsable : List Edge → List Fact → ℕ → ℕ → List Bool → Type 0
AreUsable edges facts k r usable = (e : ℕ) (x : Edge) → slice_get edges e ≡ Some x → slice_index_or usable e false ≡ allows_all (restrictions facts k r) x

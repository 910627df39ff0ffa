-- A step that is tried on a graph: kept where the changed graph keeps the rules, else undone.
use Rattle.std.specs.Prelude.{◌≡◌, ℕ, List, Some, None, Ok, Err, Option, Result, IfOk}
use Rattle.model.specs.declared.refusal.Refusal.{Refusal}
use Rattle.model.specs.declared.refusal.Refusal.TheVariants.{Missing}
use Rattle.model.specs.Graph.{Scope}
use Rattle.model.specs.Rules.{FirstBroken, Keeps}

-- g is the graph before, h the changed one, g' the graph after
abbrev pub Tried : {A : Type 0} → List Scope → List Scope → Result A Refusal → List Scope → Type 0
Tried g h (Ok a) g' = Keeps h × (g' ≡ h)
Tried g h (Err x) g' = FirstBroken h x × (g' ≡ g)

-- an addition that is tried, and its number; there is none where it has no place
abbrev pub Added : List Scope → List Scope → Option ℕ → Result ℕ Refusal → List Scope → Type 0
Added g h None r g' = (r ≡ Err Missing) × (g' ≡ g)
Added g h (Some n) r g' = Tried g h r g' × IfOk r (λ m. m ≡ n)

-- A scope that is not there calls none.
use Rattle.std.proofs.Common.{◌≡◌, ℕ, ◌≤◌, Bool, true, false, length, List, replicate, Some, None, Option, sym, ◌∙◌, arith}
use Rattle.std.specs.List.{slice_get}
use Rattle.std.proofs.lemmas.List.{get_or-replicate}
use Rattle.std.proofs.lemmas.Option.{slice_get_past}
use Rattle.model.specs.declared.graph.Node.{Node}
use Rattle.model.specs.Graph.{Scope, in_scope}
use Rattle.rules.specs.CallOrders.{Row}

no_node : (o : Option Scope) (n : ℕ) (x : Node) → o ≡ None → in_scope o (λ s. slice_get s.nodes n) ≡ Some x → ⊥
no_node None n x a e = let z : ◌≡◌ {A = ℕ} 0 1 = cc in absurd (omega arith)
no_node (Some s) n x a e = let z : ◌≡◌ {A = ℕ} 0 1 = cc in absurd (omega arith)

pub absent_row : (g : List Scope) (i : ℕ) → length g ≤ i → Row g i (replicate 16 false)
absent_row g i h t k =
    (λ e. let z : ◌≡◌ {A = Bool} true false = sym e ∙ get_or-replicate 16 t false false k in let y : ◌≡◌ {A = ℕ} 0 1 = cc in absurd (omega arith), λ c. absurd (no_node (slice_get g i) c.0 _ (slice_get_past g i h) c.1))

-- What the inner functions find in an item, a scope or a graph: the broken rule of the smallest number, if any.
-- The rules themselves are defined in the model; that these findings are theirs is proved.
use Rattle.std.specs.Prelude.{◌≡◌, ℕ, zero, suc, ◌<◌, ◌≤◌, Bool, false, cond, ◌||◌, List, length, ℤ, pos, negsuc, ◌+ℤ◌, Some, None, Option, ◌==◌, ◌≢◌, int_lt, nat_le, nat_lt}
use Rattle.model.specs.declared.graph.Node.{Node}
use Rattle.model.specs.declared.graph.Node.TheVariants.{Block, Call}
use Rattle.model.specs.declared.graph.Target.{Target}
use Rattle.model.specs.declared.graph.Target.TheVariants.{To, Again, Leave}
use Rattle.model.specs.declared.graph.Edge.{Edge}
use Rattle.model.specs.declared.graph.Constraint.{Constraint}
use Rattle.model.specs.declared.graph.Constraint.TheVariants.{Bar, Must, Pair}
use Rattle.model.specs.declared.graph.Fact.{Fact}
use Rattle.model.specs.declared.refusal.Refusal.{Refusal}
use Rattle.model.specs.declared.refusal.Refusal.TheVariants.{BadPasses, BadFigure, Missing, NotForward, NegativeWeight, BadFact}
use Rattle.model.specs.Graph.{Scope, in_scope, node_at, edge_at, fact_at_lem}
use Rattle.model.specs.Numbers.{number}
use Rattle.model.specs.Rules.{FirstBroken}
use Rattle.std.specs.List.{slice_get}

-- the one of the smaller number
abbrev pub lesser : Refusal → Refusal → Refusal
lesser x y = cond (nat_lt (number y) (number x)) y x

abbrev pub lower : Option Refusal → Option Refusal → Option Refusal
lower None b = b
lower (Some x) None = Some x
lower (Some x) (Some y) = Some (lesser x y)

abbrev pub passes_fault_lem : ℕ → ℕ → Option Refusal
passes_fault_lem least most = cond (least == 0 || nat_lt most least) (Some BadPasses) None

abbrev pub node_fault_lem : ℕ → Node → Option Refusal
node_fault_lem scopes (Block time stack) = cond (nat_lt 1000000 time) (Some BadFigure) None
node_fault_lem scopes (Call t) = cond (nat_le scopes t) (Some Missing) None

abbrev pub effect_over_lem : ℤ → Bool
effect_over_lem effect = int_lt effect (negsuc 999999) || int_lt (pos 1000000) effect

abbrev pub leads_beyond_lem : ℕ → Target → Bool
leads_beyond_lem nodes (To n) = nat_le nodes n
leads_beyond_lem nodes Again = false
leads_beyond_lem nodes Leave = false

abbrev pub leads_back_lem : ℕ → Target → Bool
leads_back_lem from (To n) = nat_le n from
leads_back_lem from Again = false
leads_back_lem from Leave = false

abbrev pub weight_below_lem : Option Node → ℤ → Bool
weight_below_lem None effect = false
weight_below_lem (Some (Block time stack)) effect = int_lt (pos time +ℤ effect) (pos 0)
weight_below_lem (Some (Call t)) effect = int_lt effect (pos 0)

-- of an edge, with its start node
abbrev pub edge_fault_lem : ℕ → Option Node → Edge → Option Refusal
edge_fault_lem nodes start e =
    cond (effect_over_lem e.effect) (Some BadFigure)
    (cond (nat_le nodes e.from || leads_beyond_lem nodes e.to) (Some Missing)
    (cond (leads_back_lem e.from e.to) (Some NotForward)
    (cond (weight_below_lem start e.effect) (Some NegativeWeight) None)))

abbrev pub names_beyond_lem : ℕ → Constraint → Bool
names_beyond_lem nodes (Bar n) = nat_le nodes n
names_beyond_lem nodes (Must n) = nat_le nodes n
names_beyond_lem nodes (Pair n m) = nat_le nodes n || nat_le nodes m

abbrev pub names_twice_lem : Constraint → Bool
names_twice_lem (Bar n) = false
names_twice_lem (Must n) = false
names_twice_lem (Pair n m) = n == m

-- of a flow fact in a scope with so many nodes and such a most
abbrev pub fact_fault_lem : ℕ → ℕ → Fact → Option Refusal
fact_fault_lem nodes most f =
    cond (names_beyond_lem nodes f.constraint) (Some Missing)
    (cond (f.first == 0 || (nat_lt f.last f.first || (nat_lt most f.last || names_twice_lem f.constraint))) (Some BadFact) None)

-- what f finds in an item that is there
abbrev pub found : {A : Type 0} → (A → Option Refusal) → Option A → Option Refusal
found f None = None
found f (Some x) = f x

-- the lowest of the first n findings
abbrev pub lowest : (ℕ → Option Refusal) → ℕ → Option Refusal
lowest f zero = None
lowest f (suc n) = lower (lowest f n) (f n)

-- the findings in scope number i, by the numbers of its nodes, edges and facts
abbrev pub node_finding_lem : List Scope → ℕ → ℕ → ℕ → Option Refusal
node_finding_lem g scopes i n = found (node_fault_lem scopes) (node_at g i n)

abbrev pub edge_finding_lem : List Scope → ℕ → ℕ → ℕ → Option Refusal
edge_finding_lem g nodes i n = found (λ e. edge_fault_lem nodes (node_at g i e.from) e) (edge_at g i n)

abbrev pub fact_finding_lem : List Scope → ℕ → ℕ → ℕ → ℕ → Option Refusal
fact_finding_lem g nodes most i n = found (fact_fault_lem nodes most) (fact_at_lem g i n)

abbrev pub scope_fault : List Scope → ℕ → ℕ → Scope → Option Refusal
scope_fault g scopes i s =
    lower (passes_fault_lem s.least s.most)
    (lower (lowest (node_finding_lem g scopes i) (length s.nodes))
    (lower (lowest (edge_finding_lem g (length s.nodes) i) (length s.edges))
    (lowest (fact_finding_lem g (length s.nodes) s.most i) (length s.facts))))

abbrev pub scope_finding_lem : List Scope → ℕ → ℕ → Option Refusal
scope_finding_lem g scopes i = in_scope (slice_get g i) (scope_fault g scopes i)

abbrev pub too_many : Scope → Bool
too_many s = nat_lt 32 (length s.nodes) || (nat_lt 96 (length s.edges) || nat_lt 4 (length s.facts))

-- whether scope number i is there and has more of something than it may have
abbrev pub over : Option Scope → Bool
over None = false
over (Some s) = too_many s

-- the graph has scopes, and no more of anything than it may have
abbrev pub WithinLimits : List Scope → Type 0
WithinLimits g = (length g ≢ 0) × (length g ≤ 16) × ((k : ℕ) → k < length g → over (slice_get g k) ≡ false)

-- the first two rules: a graph breaks one of them, or is within its limits
abbrev pub Sized : List Scope → Option Refusal → Type 0
Sized g None = WithinLimits g
Sized g (Some x) = FirstBroken g x

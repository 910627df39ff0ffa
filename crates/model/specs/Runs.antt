-- The runs of a scope, in the words of the subject, and what a run costs.
use Rattle.std.specs.Prelude.{◌≡◌, ℕ, zero, suc, ◌≤◌, T, ◌⊎◌, List, [], ◌∷◌, ◌++◌, ℤ, pos, negsuc, ◌+ℤ◌, Some, None, Option}
use Rattle.model.specs.declared.graph.Node.{Node}
use Rattle.model.specs.declared.graph.Node.TheVariants.{Block, Call}
use Rattle.model.specs.declared.graph.Target.{Target}
use Rattle.model.specs.declared.graph.Target.TheVariants.{To, Again, Leave}
use Rattle.model.specs.declared.graph.Edge.{Edge}
use Rattle.model.specs.declared.graph.Constraint.{Constraint}
use Rattle.model.specs.declared.graph.Constraint.TheVariants.{Bar, Must, Pair}
use Rattle.model.specs.declared.graph.Fact.{Fact}
use Rattle.std.specs.List.{slice_get}
use Rattle.model.specs.Graph.{Scope}
use Rattle.model.specs.Measures.{Measure}

mutual
  -- a run of a scope, by its passes
  pub data Run : Type 0 where
    run : Passes → Run

  -- the passes from some number on, up to the last
  pub data Passes : Type 0 where
    final : Walk → Passes
    then : Walk → Passes → Passes

  -- the edges of a pass in their order, each with what its start node holds
  pub data Walk : Type 0 where
    done : Walk
    step : Inside → ℕ → Walk → Walk

  -- a block holds nothing; a call of a scope holds a run of it
  pub data Inside : Type 0 where
    block : Inside
    call : ℕ → Run → Inside

abbrev pub count : Passes → ℕ
count (final w) = 1
count (then w ps) = suc (count ps)

-- the way of a walk: the numbers of its edges
abbrev pub way_of : Walk → List ℕ
way_of done = []
way_of (step i e w) = e ∷ way_of w

-- a pass executes node 0 and every node that its way reaches
abbrev pub reached_at : Target → List ℕ
reached_at (To n) = n ∷ []
reached_at Again = []
reached_at Leave = []

abbrev pub reached_by : Option Edge → List ℕ
reached_by None = []
reached_by (Some x) = reached_at x.to

abbrev pub reached : List Edge → List ℕ → List ℕ
reached edges [] = []
reached edges (e ∷ es) = reached_by (slice_get edges e) ++ reached edges es

abbrev pub executed : List Edge → List ℕ → List ℕ
executed edges es = 0 ∷ reached edges es

abbrev pub Among : ℕ → List ℕ → Type 0
Among n [] = ⊥
Among n (m ∷ ms) = (n ≡ m) ⊎ Among n ms

abbrev pub Obeys : Constraint → List ℕ → Type 0
Obeys (Bar n) ns = Among n ns → ⊥
Obeys (Must n) ns = Among n ns
Obeys (Pair n m) ns = Among n ns → Among m ns → ⊥

-- pass number k, which executes the nodes ns, meets the facts
abbrev pub Meets : List Fact → ℕ → List ℕ → Type 0
Meets [] k ns = Unit {0}
Meets (f ∷ fs) k ns = (f.first ≤ k → k ≤ f.last → Obeys f.constraint ns) × Meets fs k ns

abbrev mutual
  -- r is a run of scope number i
  pub IsRun : List Scope → ℕ → Run → Type 0
  IsRun g i (run ps) = (s : Scope) × (slice_get g i ≡ Some s) × (s.least ≤ count ps) × (count ps ≤ s.most) × ArePasses g s 1 ps

  -- the passes from number k on: all but the last end in AGAIN, the last in LEAVE, and each meets the facts of its number
  pub ArePasses : List Scope → Scope → ℕ → Passes → Type 0
  ArePasses g s k (final w) = IsWalk g s (To 0) Leave w × Meets s.facts k (executed s.edges (way_of w))
  ArePasses g s k (then w ps) = (IsWalk g s (To 0) Again w × Meets s.facts k (executed s.edges (way_of w))) × ArePasses g s (suc k) ps

  -- w leads from one place to the other: each edge starts where the one before ended
  pub IsWalk : List Scope → Scope → Target → Target → Walk → Type 0
  IsWalk g s from end done = from ≡ end
  IsWalk g s from end (step i e w) = (x : Edge) × (slice_get s.edges e ≡ Some x) × (from ≡ To x.from) × Holds g s x.from i × IsWalk g s x.to end w

  -- what node n holds while it is executed
  pub Holds : List Scope → Scope → ℕ → Inside → Type 0
  Holds g s n block = (time : ℕ) × (stack : ℕ) × (slice_get s.nodes n ≡ Some (Block time stack))
  Holds g s n (call t r) = (slice_get s.nodes n ≡ Some (Call t)) × IsRun g t r

-- the weight and the stack of an edge, by its start node
abbrev pub nonneg : ℤ → ℕ
nonneg (pos n) = n
nonneg (negsuc n) = 0

abbrev pub weight : Node → ℤ → ℕ
weight (Block time stack) effect = nonneg (pos time +ℤ effect)
weight (Call t) effect = nonneg effect

abbrev pub stack_of : Node → ℕ
stack_of (Block time stack) = stack
stack_of (Call t) = 0

module _ {C : Type 0} (m : Measure C) where
  abbrev pub cost_from : Edge → Option Node → C
  cost_from x None = m.nothing
  cost_from x (Some n) = m.of (weight n x.effect) (stack_of n)

  abbrev pub cost_of_lem : Scope → Option Edge → C
  cost_of_lem s None = m.nothing
  cost_of_lem s (Some x) = cost_from x (slice_get s.nodes x.from)

  abbrev pub edge_cost : Scope → ℕ → C
  edge_cost s e = cost_of_lem s (slice_get s.edges e)

abbrev pub scope_or_empty : List Scope → ℕ → Scope
scope_or_empty [] i = record { least = 0; most = 0; nodes = []; edges = []; facts = [] }
scope_or_empty (s ∷ g) zero = s
scope_or_empty (s ∷ g) (suc i) = scope_or_empty g i

abbrev mutual
  -- the cost of a run joins, from left to right, for each edge what its start node holds and then the edge
  pub run_cost : {C : Type 0} → Measure C → List Scope → ℕ → Run → C
  run_cost m g i (run ps) = passes_cost m g (scope_or_empty g i) ps

  pub passes_cost : {C : Type 0} → Measure C → List Scope → Scope → Passes → C
  passes_cost m g s (final w) = walk_cost m g s w
  passes_cost m g s (then w ps) = m.join (walk_cost m g s w) (passes_cost m g s ps)

  pub walk_cost : {C : Type 0} → Measure C → List Scope → Scope → Walk → C
  walk_cost m g s done = m.nothing
  walk_cost m g s (step i e w) = m.join (m.join (inside_cost m g i) (edge_cost m s e)) (walk_cost m g s w)

  pub inside_cost : {C : Type 0} → Measure C → List Scope → Inside → C
  inside_cost m g block = m.nothing
  inside_cost m g (call t r) = run_cost m g t r

-- c is the bound of scope number i: some run costs c, and every run at most c
pub record IsBound {C : Type 0} (m : Measure C) (g : List Scope) (i : ℕ) (c : C) : Type 0 where
  pub attained : (r : Run) × IsRun g i r × (run_cost m g i r ≡ c)
  pub greatest : (r : Run) → IsRun g i r → T (m.leq (run_cost m g i r) c)

-- The rules that a graph keeps, each in the words of the subject.
use Rattle.std.specs.Prelude.{◌≡◌, ℕ, ◌<◌, ◌≤◌, ◌⊎◌, List, length, ℤ, pos, negsuc, ◌+ℤ◌, ◌<ℤ◌, Some, None, Option}
use Rattle.std.specs.List.{slice_get}
use Rattle.model.specs.declared.graph.Node.{Node}
use Rattle.model.specs.declared.graph.Node.TheVariants.{Block, Call}
use Rattle.model.specs.declared.graph.Target.{Target}
use Rattle.model.specs.declared.graph.Target.TheVariants.{To, Again, Leave}
use Rattle.model.specs.declared.graph.Edge.{Edge}
use Rattle.model.specs.declared.graph.Constraint.{Constraint}
use Rattle.model.specs.declared.graph.Constraint.TheVariants.{Bar, Must, Pair}
use Rattle.model.specs.declared.graph.Fact.{Fact}
use Rattle.model.specs.declared.refusal.Refusal.{Refusal}
use Rattle.model.specs.declared.refusal.Refusal.TheVariants.{TooShort, BadVersion, BadLength, BadRecord, UnknownKind, UnknownScope, NoScope, OverLimit, BadPasses, BadFigure, Missing, NotForward, NegativeWeight, CallRing, BadFact, NotABlock, NoFact, ShortWork, ShortTrail, NoRun}
use Rattle.model.specs.Graph.{Scope, node_at}
use Rattle.model.specs.Numbers.{number}

-- some element of the list, with its number
abbrev pub SomeIn : {A : Type 0} → List A → (A → Type 0) → Type 0
SomeIn {A} xs P = (k : ℕ) × (x : A) × (slice_get xs k ≡ Some x) × P x

-- element number n does not exist
abbrev pub Absent : {A : Type 0} → List A → ℕ → Type 0
Absent xs n = length xs ≤ n

-- more nodes, edges or facts than a scope may have
abbrev pub TooMany : Scope → Type 0
TooMany s = (32 < length s.nodes) ⊎ ((96 < length s.edges) ⊎ (4 < length s.facts))

-- a least of 0, or above the most
abbrev pub PassesWrong : Scope → Type 0
PassesWrong s = (s.least ≡ 0) ⊎ (s.most < s.least)

-- a time above 1,000,000 cycles
abbrev pub TimeOver : Node → Type 0
TimeOver (Block time stack) = 1000000 < time
TimeOver (Call t) = ⊥

-- an effect below -1,000,000 or above 1,000,000 cycles
abbrev pub EffectOver : Edge → Type 0
EffectOver e = (e.effect <ℤ negsuc 999999) ⊎ (pos 1000000 <ℤ e.effect)

-- a call of a scope that does not exist
abbrev pub CalledMissing : List Scope → Node → Type 0
CalledMissing g (Block time stack) = ⊥
CalledMissing g (Call t) = Absent g t

-- an edge to a node that does not exist
abbrev pub TargetMissing : List Node → Target → Type 0
TargetMissing ns (To n) = Absent ns n
TargetMissing ns Again = ⊥
TargetMissing ns Leave = ⊥

-- an edge of which an end does not exist
abbrev pub EndMissing : List Node → Edge → Type 0
EndMissing ns e = Absent ns e.from ⊎ TargetMissing ns e.to

-- a node of a flow fact that does not exist
abbrev pub NodeMissing : List Node → Constraint → Type 0
NodeMissing ns (Bar n) = Absent ns n
NodeMissing ns (Must n) = Absent ns n
NodeMissing ns (Pair n m) = Absent ns n ⊎ Absent ns m

-- an edge from node n to a node not greater than n
abbrev pub Backward : ℕ → Target → Type 0
Backward n (To m) = m ≤ n
Backward n Again = ⊥
Backward n Leave = ⊥

-- the weight of an edge out of the node is below 0
abbrev pub Negative : Node → ℤ → Type 0
Negative (Block time stack) effect = (pos time +ℤ effect) <ℤ pos 0
Negative (Call t) effect = effect <ℤ pos 0

-- the edge starts at a node that is there, and weighs less than 0
abbrev pub WeightBelow : List Node → Edge → Type 0
WeightBelow ns e = (n : Node) × (slice_get ns e.from ≡ Some n) × Negative n e.effect

-- one node, named twice
abbrev pub SameNode : Constraint → Type 0
SameNode (Bar n) = ⊥
SameNode (Must n) = ⊥
SameNode (Pair n m) = n ≡ m

-- first and last pass do not fit each other or the scope, or a pair is of one node
abbrev pub FactWrong : ℕ → Fact → Type 0
FactWrong most f = (f.first ≡ 0) ⊎ ((f.last < f.first) ⊎ ((most < f.last) ⊎ SameNode f.constraint))

-- scope i calls scope j: some node of scope i is a call of j
abbrev pub Calls : List Scope → ℕ → ℕ → Type 0
Calls g i j = (n : ℕ) × (node_at g i n ≡ Some (Call j))

-- scope i reaches scope j through calls
pub data Reaches (g : List Scope) : ℕ → ℕ → Type 0 where
  directly : {i j : ℕ} → Calls g i j → Reaches g i j
  through : {i j k : ℕ} → Calls g i j → Reaches g j k → Reaches g i k

-- some scope reaches itself
abbrev pub Ring : List Scope → Type 0
Ring g = (i : ℕ) × Reaches g i i

-- what breaks the rule of each number; the other refusals are no rules of a graph
abbrev pub Breaks : List Scope → Refusal → Type 0
Breaks g NoScope = length g ≡ 0
Breaks g OverLimit = (16 < length g) ⊎ SomeIn g TooMany
Breaks g BadPasses = SomeIn g PassesWrong
Breaks g BadFigure = SomeIn g (λ s. SomeIn s.nodes TimeOver ⊎ SomeIn s.edges EffectOver)
Breaks g Missing = SomeIn g (λ s. SomeIn s.nodes (CalledMissing g) ⊎ (SomeIn s.edges (EndMissing s.nodes) ⊎ SomeIn s.facts (λ f. NodeMissing s.nodes f.constraint)))
Breaks g NotForward = SomeIn g (λ s. SomeIn s.edges (λ e. Backward e.from e.to))
Breaks g NegativeWeight = SomeIn g (λ s. SomeIn s.edges (WeightBelow s.nodes))
Breaks g CallRing = Ring g
Breaks g BadFact = SomeIn g (λ s. SomeIn s.facts (FactWrong s.most))
Breaks g TooShort = ⊥
Breaks g BadVersion = ⊥
Breaks g BadLength = ⊥
Breaks g BadRecord = ⊥
Breaks g UnknownKind = ⊥
Breaks g UnknownScope = ⊥
Breaks g NotABlock = ⊥
Breaks g NoFact = ⊥
Breaks g ShortWork = ⊥
Breaks g ShortTrail = ⊥
Breaks g NoRun = ⊥

-- no rule is broken
abbrev pub Keeps : List Scope → Type 0
Keeps g = (x : Refusal) → Breaks g x → ⊥

-- no rule of this number or a greater one is broken: from 22 on, all but that there is a scope
abbrev pub KeepsFrom : ℕ → List Scope → Type 0
KeepsFrom n g = (x : Refusal) → n ≤ number x → Breaks g x → ⊥

-- x is broken, and no rule of a smaller number is
pub record FirstBroken (g : List Scope) (x : Refusal) : Type 0 where
  pub broken : Breaks g x
  pub smallest : (y : Refusal) → number y < number x → Breaks g y → ⊥

-- a graph is judged by its broken rule of the smallest number, or keeps them all
abbrev pub Judged : List Scope → Option Refusal → Type 0
Judged g None = Keeps g
Judged g (Some x) = FirstBroken g x

-- What a trail table shows.
use Rattle.std.specs.Prelude.{◌≡◌, ℕ, suc, ◌+◌, ◌-◌, ◌*◌, ◌<◌, ◌≤◌, min, List, [], ◌∷◌, ◌++◌, length, take, drop, replicate, Some, None, Option}
use Rattle.model.specs.declared.graph.Node.{Node}
use Rattle.model.specs.declared.graph.Node.TheVariants.{Block, Call}
use Rattle.model.specs.declared.graph.Edge.{Edge}
use Rattle.model.specs.declared.graph.Fact.{Fact}
use Rattle.model.specs.declared.trail.Line.{Line}
use Rattle.std.specs.List.{slice_get}
use Rattle.model.specs.Graph.{Scope}
use Rattle.model.specs.Runs.{Run, Passes, Walk, Inside, way_of}
use Rattle.model.specs.Runs.Run.{run}
use Rattle.model.specs.Runs.Passes.{final, then}
use Rattle.model.specs.Runs.Walk.{done, step}
use Rattle.model.specs.Runs.Inside.{block, call}

-- a group: passes first to last go the same way
pub record Group : Type 0 where
  pub first : ℕ
  pub last : ℕ
  pub way : List ℕ

abbrev pub line : ℕ → ℕ → ℕ → Line
line k a b = record { kind = k; a = a; b = b }

abbrev pub called_by : Option Node → ℕ
called_by None = 0
called_by (Some n) = elim n [ Block t k ↦ 0 | Call t ↦ suc t ]

abbrev pub called : Scope → Option Edge → ℕ
called s None = 0
called s (Some x) = called_by (slice_get s.nodes x.from)

abbrev pub way_lines : Scope → List ℕ → List Line
way_lines s [] = []
way_lines s (e ∷ es) = line 3 e (called s (slice_get s.edges e)) ∷ way_lines s es

abbrev pub group_lines : Scope → List Group → List Line
group_lines s [] = []
group_lines s (x ∷ xs) = line 2 x.first x.last ∷ (way_lines s x.way ++ group_lines s xs)

abbrev pub section_lines : Scope → ℕ → List Group → List Line
section_lines s p gs = line 1 p (length gs) ∷ group_lines s gs

abbrev pub size : ℕ
size = 331

abbrev pub padded : List Line → List Line
padded ls = ls ++ replicate (size - length ls) (line 0 0 0)

abbrev pub section : List Line → ℕ → List Line
section t i = take size (drop (size * i) t)

-- the same facts are in force in passes j and k
abbrev pub SameFacts : List Fact → ℕ → ℕ → Type 0
SameFacts [] j k = Unit {0}
SameFacts (f ∷ fs) j k = (((f.first ≤ j) × (j ≤ f.last) → (f.first ≤ k) × (k ≤ f.last)) × ((f.first ≤ k) × (k ≤ f.last) → (f.first ≤ j) × (j ≤ f.last))) × SameFacts fs j k

-- passes a to b are a longest stretch with the same facts in force
pub record IsRange (s : Scope) (a b : ℕ) : Type 0 where
  pub some : a ≤ b
  pub within : (1 ≤ a) × (b ≤ s.most)
  pub same : (k : ℕ) → a ≤ k → k ≤ b → SameFacts s.facts a k
  pub no_earlier : (1 < a) → SameFacts s.facts (a - 1) a → ⊥
  pub no_later : (b < s.most) → SameFacts s.facts b (b + 1) → ⊥

-- from pass a to b the facts fs are in force as in a, and b is the last such pass up to top
pub record IsCut (fs : List Fact) (a top b : ℕ) : Type 0 where
  pub low : a ≤ b
  pub high : b ≤ top
  pub same : (k : ℕ) → a ≤ k → k ≤ b → SameFacts fs a k
  pub ends : b < top → SameFacts fs b (b + 1) → ⊥

-- the groups of a run of p passes from pass k on: the ranges, the last cut off before pass p, and then pass p
abbrev pub AreGroups : Scope → ℕ → ℕ → List Group → Type 0
AreGroups s p k [] = ⊥
AreGroups s p k (x ∷ []) = (k ≡ p) × (x.first ≡ p) × (x.last ≡ p)
AreGroups s p k (x ∷ (y ∷ ys)) = (k < p) × (x.first ≡ k) × ((b : ℕ) × IsRange s k b × (x.last ≡ min b (p - 1))) × AreGroups s p (suc x.last) (y ∷ ys)

-- the groups of passes k to d, whole ranges
abbrev pub AreRanges : Scope → ℕ → ℕ → List Group → Type 0
AreRanges s k d [] = k ≡ suc d
AreRanges s k d (x ∷ xs) = (x.first ≡ k) × IsRange s k x.last × AreRanges s (suc x.last) d xs

-- the way of each pass in turn
abbrev pub unrolled : List Group → List (List ℕ)
unrolled [] = []
unrolled (x ∷ xs) = replicate (suc x.last - x.first) x.way ++ unrolled xs

abbrev pub ways_of : Passes → List (List ℕ)
ways_of (final w) = way_of w ∷ []
ways_of (then w ps) = way_of w ∷ ways_of ps

abbrev mutual
  -- the section of scope i shows the run
  pub Shows : List Scope → List Line → ℕ → Run → Type 0
  Shows g t i (run ps) = (s : Scope) × (slice_get g i ≡ Some s) × ((p : ℕ) × (gs : List Group) × (section t i ≡ padded (section_lines s p gs)) × AreGroups s p 1 gs × (ways_of ps ≡ unrolled gs)) × PassesShown g t ps

  -- in each executed call stands the run that the section of the called scope shows
  pub PassesShown : List Scope → List Line → Passes → Type 0
  PassesShown g t (final w) = WalkShown g t w
  PassesShown g t (then w ps) = WalkShown g t w × PassesShown g t ps

  pub WalkShown : List Scope → List Line → Walk → Type 0
  WalkShown g t done = Unit {0}
  WalkShown g t (step i e w) = InsideShown g t i × WalkShown g t w

  pub InsideShown : List Scope → List Line → Inside → Type 0
  InsideShown g t block = Unit {0}
  InsideShown g t (call j r) = Shows g t j r

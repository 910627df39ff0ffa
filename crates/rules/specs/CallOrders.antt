-- An order of the scopes in which every called scope stands before its callers.
use Rattle.std.specs.Prelude.{◌≡◌, ℕ, ◌<◌, Bool, true, false, ◌⊎◌, List, [], length, Some, None, Decides, Option, slice_index, slice_index_or}
use Rattle.model.specs.declared.graph.Node.{Node}
use Rattle.model.specs.declared.graph.Node.TheVariants.{Block, Call}
use Rattle.model.specs.Graph.{Scope, node_at}
use Rattle.model.specs.Rules.{Calls, Ring}

-- the first entries of the order, one for each scope of the graph
pub record CalledFirst (g : List Scope) (order : List ℕ) : Type 0 where
  -- each is the number of a scope
  pub within : (k : ℕ) → k < length g → slice_index order k < length g
  -- each scope has a place
  pub placed : (s : ℕ) → s < length g → (k : ℕ) × (k < length g) × (slice_index order k ≡ s)
  -- and only one
  pub once : (k l : ℕ) → k < length g → l < length g → slice_index order k ≡ slice_index order l → k ≡ l
  -- a scope of the graph that the one at place k calls stands before place k
  pub before : (k t : ℕ) → k < length g → t < length g → Calls g (slice_index order k) t → (l : ℕ) × (l < k) × (slice_index order l ≡ t)

-- there is such an order, except for more than 16 scopes, and where a scope reaches itself
abbrev pub Ordered : List Scope → Option (List ℕ) → Type 0
Ordered g None = (16 < length g) ⊎ Ring g
Ordered g (Some order) = CalledFirst g order

-- the scope that a node calls
abbrev pub callee_of : Option Node → Option ℕ
callee_of None = None
callee_of (Some (Block time stack)) = None
callee_of (Some (Call t)) = Some t

-- the row tells which scopes the first n nodes of scope i call
abbrev pub RowTo : List Scope → ℕ → ℕ → List Bool → Type 0
RowTo g i n row = (t : ℕ) → t < 16 → Decides (slice_index_or row t false) ((m : ℕ) × (m < n) × (node_at g i m ≡ Some (Call t)))

-- the row tells which scopes scope i calls
abbrev pub Row : List Scope → ℕ → List Bool → Type 0
Row g i row = (t : ℕ) → t < 16 → Decides (slice_index_or row t false) (Calls g i t)

-- every scope that the row tells of is placed
abbrev pub Ready : List Bool → List Bool → ℕ → Type 0
Ready row placed n = (t : ℕ) → t < n → slice_index_or row t false ≡ true → slice_index_or placed t false ≡ true

-- some scope that the row tells of is not
abbrev pub Blocked : List Bool → List Bool → ℕ → Type 0
Blocked row placed n = (t : ℕ) × (t < n) × (slice_index_or row t false ≡ true) × (slice_index_or placed t false ≡ false)

-- a scope to be placed next: it is not placed, and those that it calls are; or there is none, and each is placed or blocked
abbrev pub Next : List (List Bool) → List Bool → ℕ → Option ℕ → Type 0
Next table placed n None = (s : ℕ) → s < n → slice_index_or placed s false ≡ false → Blocked (slice_index_or table s []) placed n
Next table placed n (Some s) = (s < n) × (slice_index_or placed s false ≡ false) × Ready (slice_index_or table s []) placed n

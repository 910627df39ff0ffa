-- The layout of one record.
use Rattle.std.specs.Prelude.{◌≡◌, ℕ, ◌+◌, ◌*◌, cond, ◌&&◌, List, [], ◌∷◌, length, Some, None, Ok, Err, Option, Result, MatchResult, ◌==◌, nat_le, nat_lt, slice_index, slice_index_or}
use Rattle.std.specs.Int.{w32}
use Rattle.std.proofs.Common.{to_z}
use Rattle.model.specs.declared.graph.Node.TheVariants.{Block as block, Call as call}
use Rattle.model.specs.declared.graph.Target.{Target}
use Rattle.model.specs.declared.graph.Target.TheVariants.{To, Again, Leave}
use Rattle.model.specs.declared.graph.Constraint.TheVariants.{Bar as bar, Must as must, Pair as pair}
use Rattle.model.specs.declared.refusal.Refusal.{Refusal}
use Rattle.model.specs.declared.refusal.Refusal.TheVariants.{BadRecord, UnknownKind}
use Rattle.image.specs.declared.record.Kind.{Kind}
use Rattle.image.specs.declared.record.Kind.TheVariants.{Scope, Block, Call, Edge, Bar, Must, Pair}
use Rattle.image.specs.declared.record.Record.{Record}
use Rattle.image.specs.declared.record.Record.TheVariants.{AddScope, AddNode, AddEdge, AddFact}

-- the byte at a place, and the numbers of two and four bytes that begin there
abbrev pub one : List ℕ → ℕ → ℕ
one bs i = slice_index bs i

abbrev pub two : List ℕ → ℕ → ℕ
two bs i = slice_index bs i * 256 + slice_index bs (i + 1)

abbrev pub four : List ℕ → ℕ → ℕ
four bs i = slice_index bs i * 16777216 + slice_index bs (i + 1) * 65536 + slice_index bs (i + 2) * 256 + slice_index bs (i + 3)

-- the kinds by their numbers
abbrev pub kinds : List (Option Kind)
kinds = None ∷ Some Scope ∷ Some Block ∷ Some Call ∷ Some Edge ∷ Some Bar ∷ Some Must ∷ Some Pair ∷ []

abbrev pub kind_of : ℕ → Option Kind
kind_of n = slice_index_or kinds n None

-- the answer to a number: its kind, or that there is none
abbrev pub IsKindOf : ℕ → Result Kind Refusal → Type 0
IsKindOf n r = MatchResult r (λ k. kind_of n ≡ Some k) (λ e. (kind_of n ≡ None) × (e ≡ UnknownKind))

-- the whole length of a record of each kind
abbrev pub size_of : Kind → ℕ
size_of Scope = 6
size_of Block = 9
size_of Call = 4
size_of Edge = 9
size_of Bar = 8
size_of Must = 8
size_of Pair = 9

abbrev pub target_of : ℕ → Target
target_of n = cond (n == 254) Again (cond (n == 255) Leave (To n))

-- what the record at the front of the bytes says, by its kind
abbrev pub fields : Kind → List ℕ → Record
fields Scope bs = AddScope (two bs 2) (two bs 4)
fields Block bs = AddNode (one bs 2) (block (four bs 3) (two bs 7))
fields Call bs = AddNode (one bs 2) (call (one bs 3))
fields Edge bs = AddEdge (one bs 2) (record { from = one bs 3; to = target_of (one bs 4); effect = to_z w32 (four bs 5) })
fields Bar bs = AddFact (one bs 2) (record { constraint = bar (one bs 3); first = two bs 4; last = two bs 6 })
fields Must bs = AddFact (one bs 2) (record { constraint = must (one bs 3); first = two bs 4; last = two bs 6 })
fields Pair bs = AddFact (one bs 2) (record { constraint = pair (one bs 3) (one bs 4); first = two bs 5; last = two bs 7 })

-- of the bytes that are left, the record at their front, or why it is faulty
abbrev pub of_kind : Option Kind → List ℕ → Result Record Refusal
of_kind None bs = Err UnknownKind
of_kind (Some k) bs = cond (one bs 0 == size_of k && nat_le (size_of k) (length bs)) (Ok (fields k bs)) (Err BadRecord)

abbrev pub front_of : List ℕ → Result Record Refusal
front_of bs = cond (nat_lt (length bs) 2) (Err BadRecord) (of_kind (kind_of (one bs 1)) bs)

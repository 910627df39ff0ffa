-- The records of an image, and the graph that they describe.
use Rattle.std.specs.Prelude.{ℕ, zero, suc, pred, ◌+◌, Bool, true, cond, not, ◌||◌, List, [], ◌∷◌, ◌++◌, length, drop, Some, None, Ok, Err, Option, Result, ◌==◌, nat_lt}
use Rattle.model.specs.declared.refusal.Refusal.{Refusal}
use Rattle.model.specs.declared.refusal.Refusal.TheVariants.{TooShort, BadVersion, BadLength, UnknownScope}
use Rattle.model.specs.Changes.{change, empty_scope, with_node, with_edge, with_fact}
use Rattle.model.specs.Graph.{Scope}
use Rattle.image.specs.declared.record.Record.{Record}
use Rattle.image.specs.declared.record.Record.TheVariants.{AddScope, AddNode, AddEdge, AddFact}
use Rattle.image.specs.Layout.{one, four, front_of}

-- records one after the other, up to the end of the bytes or the first faulty record
pub data Reading : Type 0 where
  end : Reading
  fault : Refusal → Reading
  next : Record → Reading → Reading

-- after so many scope records: does the record name one of them
abbrev pub placed : ℕ → Record → Bool
placed seen (AddScope l m) = true
placed seen (AddNode s n) = nat_lt s seen
placed seen (AddEdge s e) = nat_lt s seen
placed seen (AddFact s f) = nat_lt s seen

abbrev pub more : ℕ → Record → ℕ
more seen (AddScope l m) = seen + 1
more seen (AddNode s n) = seen
more seen (AddEdge s e) = seen
more seen (AddFact s f) = seen

-- a record, and then what follows it
abbrev pub going : Result Record Refusal → ℕ → (ℕ → Reading) → Reading
going (Err e) seen rest = fault e
going (Ok r) seen rest = cond (placed seen r) (next r (rest (more seen r))) (fault UnknownScope)

-- the records of the bytes that are left, of which the first `skip` belong to the record before
abbrev pub read : ℕ → ℕ → List ℕ → Reading
read skip seen [] = end
read (suc k) seen (b ∷ bs) = read k seen bs
read zero seen (b ∷ bs) = going (front_of (b ∷ bs)) seen (λ n. read (pred b) n bs)

abbrev pub records : Reading → List Record
records end = []
records (fault e) = []
records (next r x) = r ∷ records x

abbrev pub fault_of : Reading → Option Refusal
fault_of end = None
fault_of (fault e) = Some e
fault_of (next r x) = fault_of x

-- a record adds a scope, or a part to a scope
abbrev pub add : List Scope → Record → List Scope
add g (AddScope l m) = g ++ (empty_scope l m ∷ [])
add g (AddNode s n) = change s (with_node n) g
add g (AddEdge s e) = change s (with_edge e) g
add g (AddFact s f) = change s (with_fact f) g

abbrev pub built : List Scope → List Record → List Scope
built g [] = g
built g (r ∷ rs) = built (add g r) rs

-- the records of a whole image stand behind its first five bytes
abbrev pub reading : List ℕ → Reading
reading bs = read 0 0 (drop 5 bs)

-- the graph that an image means
abbrev pub meant : List ℕ → List Scope
meant bs = built [] (records (reading bs))

abbrev pub unless : {X : Type 0} → Option Refusal → X → Result X Refusal
unless None x = Ok x
unless (Some e) x = Err e

-- what opening the bytes answers
abbrev pub opened : List ℕ → Result (List Scope) Refusal
opened bs =
    cond (nat_lt (length bs) 5) (Err TooShort)
    (cond (not (one bs 0 == 1)) (Err BadVersion)
    (cond (not (four bs 1 == length bs) || nat_lt 19109 (length bs)) (Err BadLength)
    (unless (fault_of (reading bs)) (meant bs))))

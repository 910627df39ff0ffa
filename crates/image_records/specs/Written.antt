-- The bytes of records.
use Rattle.std.specs.Prelude.{ℕ, ◌+◌, ◌/◌, ◌%◌, cond, List, [], ◌∷◌, ◌++◌, length, nat_lt}
use Rattle.std.specs.Int.{w32}
use Rattle.std.proofs.Common.{of_z}
use Rattle.image_records.specs.declared.record.Record.{Record}
use Rattle.image_records.specs.declared.record.Record.TheVariants.{Scope, Block, Call, Edge, Bar, Must, Pair}

abbrev pub two : ℕ → List ℕ
two n = (n / 256 % 256) ∷ (n % 256) ∷ []

abbrev pub four : ℕ → List ℕ
four n = (n / 16777216 % 256) ∷ (n / 65536 % 256) ∷ (n / 256 % 256) ∷ (n % 256) ∷ []

-- the bytes with a record behind them
abbrev pub with_record : List ℕ → Record → List ℕ
with_record bs (Scope least most) = ((bs ++ (6 ∷ 1 ∷ [])) ++ two least) ++ two most
with_record bs (Block scope time stack) = ((bs ++ (9 ∷ 2 ∷ scope ∷ [])) ++ four time) ++ two stack
with_record bs (Call scope called) = bs ++ (4 ∷ 3 ∷ scope ∷ called ∷ [])
with_record bs (Edge scope from to effect) = (bs ++ (9 ∷ 4 ∷ scope ∷ from ∷ to ∷ [])) ++ four (of_z w32 effect)
with_record bs (Bar scope node first last) = ((bs ++ (8 ∷ 5 ∷ scope ∷ node ∷ [])) ++ two first) ++ two last
with_record bs (Must scope node first last) = ((bs ++ (8 ∷ 6 ∷ scope ∷ node ∷ [])) ++ two first) ++ two last
with_record bs (Pair scope node other first last) = ((bs ++ (9 ∷ 7 ∷ scope ∷ node ∷ other ∷ [])) ++ two first) ++ two last

abbrev pub with_records : List ℕ → List Record → List ℕ
with_records bs [] = bs
with_records bs (r ∷ rs) = with_records (with_record bs r) rs

-- the length that an image with so many bytes of records states: the greatest number where four bytes are too few
abbrev pub stated : ℕ → ℕ
stated n = cond (nat_lt n 4294967290) (n + 5) 4294967295

-- the image with these bytes of records
abbrev pub headed : List ℕ → List ℕ
headed bs = ((1 ∷ []) ++ four (stated (length bs))) ++ bs

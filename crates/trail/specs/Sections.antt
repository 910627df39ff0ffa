-- A list with a part of it written over.
use Rattle.std.specs.Prelude.{ℕ, ◌+◌, List, ◌++◌, length, take, drop}

-- xs stands from place i on, and the rest is as it was
abbrev pub written : {A : Type 0} → List A → ℕ → List A → List A
written old i xs = take i old ++ (xs ++ drop (i + length xs) old)

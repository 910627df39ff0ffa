-- What the two cost measures are.
use Rattle.std.specs.Prelude.{ℕ, ◌+◌, ◌-◌, ◌^◌, ◌<◌, min, max, leb}
use Rattle.std.proofs.Common.{arith}
use Rattle.model.specs.Measures.{Measure}
use Rattle.measures.specs.declared.cycles.Cycles.{Cycles}
use Rattle.measures.specs.declared.stack.Stack.{Stack}

-- the greatest count stands for that much or more
abbrev pub up_to_most : ℕ → ℕ
up_to_most n = min n (2 ^ 64 - 1)

pub fits_most : (n : ℕ) → up_to_most n < 2 ^ 64
fits_most n = omega arith

abbrev pub that_many : ℕ → Cycles
that_many n = record { count = up_to_most n; fits = fits_most n }

-- cycles: an edge costs its weight, and costs are added
abbrev pub cycles : Measure Cycles
cycles = record {
  nothing = that_many 0;
  of = λ weight stack. that_many weight;
  join = λ a b. that_many (a.count + b.count);
  leq = λ a b. leb a.count b.count;
}

-- stack: an edge costs its stack, and of two costs the greater counts
abbrev pub stack : Measure Stack
stack = record {
  nothing = record { bytes = 0 };
  of = λ weight stack. record { bytes = stack };
  join = λ a b. record { bytes = max a.bytes b.bytes };
  leq = λ a b. leb a.bytes b.bytes;
}

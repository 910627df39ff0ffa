-- What a cost measure is, and its laws.
use Rattle.std.specs.Prelude.{◌≡◌, ℕ, Bool, T, ◌⊎◌}

-- a cost of nothing, the cost of a weight and a stack, the join of two costs, and the order "at most"
pub record Measure (C : Type 0) : Type 0 where
  pub nothing : C
  pub of : ℕ → ℕ → C
  pub join : C → C → C
  pub leq : C → C → Bool

-- the order is total; join is associative, changed by nothing on neither side, and monotone on both.
-- Join need not commute, and nothing need not be the least cost.
pub record Laws {C : Type 0} (m : Measure C) : Type 0 where
  pub total : (a b : C) → T (m.leq a b) ⊎ T (m.leq b a)
  pub trans : (a b c : C) → T (m.leq a b) → T (m.leq b c) → T (m.leq a c)
  pub antisym : (a b : C) → T (m.leq a b) → T (m.leq b a) → a ≡ b
  pub assoc : (a b c : C) → m.join (m.join a b) c ≡ m.join a (m.join b c)
  pub left : (a : C) → m.join m.nothing a ≡ a
  pub right : (a : C) → m.join a m.nothing ≡ a
  pub mono_left : (a b c : C) → T (m.leq a b) → T (m.leq (m.join a c) (m.join b c))
  pub mono_right : (a b c : C) → T (m.leq a b) → T (m.leq (m.join c a) (m.join c b))

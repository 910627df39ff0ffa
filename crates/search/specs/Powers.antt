-- The laws of a cost joined with itself.
use Rattle.std.specs.Prelude.{◌≡◌, ℕ, ◌+◌, ◌≤◌, ◌⊎◌}
use Rattle.model.specs.Measures.{Measure}
use Rattle.model.specs.Best.{AtMost, power}

-- i + j copies are i copies and then j
abbrev pub Splits : {C : Type 0} → Measure C → Type 0
Splits {C} m = (c : C) (i j : ℕ) → power m c (i + j) ≡ m.join (power m c i) (power m c j)

-- between two numbers of copies one of the two ends is the costliest, whatever comes before and after
abbrev pub Ends : {C : Type 0} → Measure C → Type 0
Ends {C} m = (p c l : C) (lo hi : ℕ) →
    ((j : ℕ) → lo ≤ j → j ≤ hi → AtMost m (m.join (m.join p (power m c j)) l) (m.join (m.join p (power m c lo)) l))
    ⊎ ((j : ℕ) → lo ≤ j → j ≤ hi → AtMost m (m.join (m.join p (power m c j)) l) (m.join (m.join p (power m c hi)) l))

-- A scope has at most nine ranges: each ends where a fact begins or ends.
use Rattle.std.proofs.Common.{◌≡◌, ℕ, suc, ◌+◌, ◌*◌, ◌<◌, ◌≤◌, ◌⊎◌, List, [], ◌∷◌, length, refl, inl, inr, ⊎_elim, arith}
use Rattle.std.proofs.lemmas.Bool.{cases_lt, lt-ltb, le-ltb}
use Rattle.model.specs.declared.graph.Fact.{Fact}
use Rattle.model.specs.Trail.{SameFacts}
use Rattle.bound.specs.Ranges.{one_if, cuts}

one : (a b : ℕ) → a < b → one_if a b ≡ 1
one a b h = rw (lt-ltb a b h) refl

none : (a b : ℕ) → b ≤ a → one_if a b ≡ 0
none a b h = rw (le-ltb a b h) refl

one_most : (a b : ℕ) → one_if a b ≤ 1
one_most a b = ⊎_elim (λ h. let q = one a b h in omega arith) (λ h. let q = none a b h in omega arith) (cases_lt a b)

one_falls : (a c b : ℕ) → a ≤ c → one_if c b ≤ one_if a b
one_falls a c b h = ⊎_elim (λ l. let p = one c b l in let q = one a b (omega arith) in omega arith) (λ l. let p = none c b l in omega arith) (cases_lt c b)

pub cuts_most : (fs : List Fact) (d : ℕ) → cuts fs d ≤ 2 * length fs
cuts_most [] d = omega arith
cuts_most (f ∷ fs) d = let a = one_most (suc d) f.first in let b = one_most d f.last in let r = cuts_most fs d in omega arith

cuts_falls : (fs : List Fact) (d e : ℕ) → d ≤ e → cuts fs e ≤ cuts fs d
cuts_falls [] d e h = omega arith
cuts_falls (f ∷ fs) d e h = let a = one_falls (suc d) (suc e) f.first (omega arith) in let b = one_falls d e f.last h in let r = cuts_falls fs d e h in omega arith

-- between passes b and b + 1 a fact stays in force or out of it, or one of its ends is left behind
cut_one : (f : Fact) (d b : ℕ) → d < b → SameFacts (f ∷ []) b (b + 1) ⊎ (one_if (suc b) f.first + one_if b f.last < one_if (suc d) f.first + one_if d f.last)
cut_one f d b h =
    ⊎_elim
    (λ l. ⊎_elim (λ k. inl ((λ t. absurd (omega arith), λ t. absurd (omega arith)), tt)) (λ k. inr (starts l k)) (cases_lt (b + 1) f.first))
    (λ l. ⊎_elim (λ k. inl ((λ t. absurd (omega arith), λ t. absurd (omega arith)), tt)) (λ k. ⊎_elim (λ q. inl ((λ t. (omega arith, omega arith), λ t. (omega arith, omega arith)), tt)) (λ q. inr (ends k q)) (cases_lt b f.last)) (cases_lt f.last b))
    (cases_lt b f.first)
  where
    starts : b < f.first → f.first ≤ b + 1 → one_if (suc b) f.first + one_if b f.last < one_if (suc d) f.first + one_if d f.last
    starts l k = let p = none (suc b) f.first (omega arith) in let q = one (suc d) f.first (omega arith) in let r = one_falls d b f.last (omega arith) in omega arith

    ends : b ≤ f.last → f.last ≤ b → one_if (suc b) f.first + one_if b f.last < one_if (suc d) f.first + one_if d f.last
    ends k q = let p = none b f.last q in let r = one d f.last (omega arith) in let t = one_falls (suc d) (suc b) f.first (omega arith) in omega arith

cuts_step : (fs : List Fact) (d b : ℕ) → d < b → SameFacts fs b (b + 1) ⊎ (cuts fs b < cuts fs d)
cuts_step [] d b h = inl tt
cuts_step (f ∷ fs) d b h =
    ⊎_elim
    (λ p. ⊎_elim (λ q. inl (p.0, q)) (λ q. inr (let a = one_falls (suc d) (suc b) f.first (omega arith) in let c = one_falls d b f.last (omega arith) in omega arith)) (cuts_step fs d b h))
    (λ p. inr (let r = cuts_falls fs d b (omega arith) in omega arith))
    (cut_one f d b h)

pub cuts_fall : (fs : List Fact) (d b : ℕ) → d < b → (SameFacts fs b (b + 1) → ⊥) → cuts fs b < cuts fs d
cuts_fall fs d b h ends = ⊎_elim (λ q. absurd (ends q)) (λ q. q) (cuts_step fs d b h)

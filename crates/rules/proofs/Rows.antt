-- A table that is filled from the front.
use Rattle.std.proofs.Common.{ℕ, ◌+◌, ◌<◌, List, length, get_or, set, sym, subst, inl, inr, arith, get_or-set_other, get_or-set_same}
use Rattle.std.proofs.lemmas.Bool.{cases_eq}

-- what holds of each place below n, one place more
pub filled_more : {A : Type 0} (P : ℕ → A → Type 0) (xs : List A) (n : ℕ) (x d : A) → n < length xs → ((k : ℕ) → k < n → P k (get_or xs k d)) → P n x → (k : ℕ) → k < n + 1 → P k (get_or (set xs n x) k d)
filled_more {A} P xs n x d l h p k b =
    elim (cases_eq k n) [
      | inl e ↦ let Q : ℕ → Type 0 = λ z. P z (get_or (set xs n x) z d) in let R : A → Type 0 = P n in subst Q (sym e) (subst R (sym (get_or-set_same xs n x d l)) p)
      | inr q ↦ let R : A → Type 0 = P k in subst R (sym (get_or-set_other xs n k x d q)) (h k (omega arith))
    ]

-- The lowest of several findings.
use Rattle.std.proofs.Common.{◌≡◌, ℕ, zero, suc, ◌<◌, ◌≤◌, Bool, cond, ltb, ◌⊎◌, [], ◌∷◌, map, fold, Some, None, Decides, Option, sym, refl, ap, ◌∙◌, subst, inl, inr, add-one, arith}
use Rattle.std.specs.List.{range_with_len}
use Rattle.std.proofs.lemmas.List.FromFn.{map-range_with_len_more}
use Rattle.std.proofs.lemmas.List.Sums.{fold-append}
use Rattle.std.proofs.lemmas.Bool.{cond_both, ltb-true, ltb-false, cases_eq}
use Rattle.std.proofs.lemmas.Bool.Decides.{not_from_Decides}
use Rattle.model.specs.declared.refusal.Refusal.{Refusal}
use Rattle.model.specs.Numbers.{number}
use Rattle.rules.specs.Faults.{lower, found, lowest}

-- the findings, joined one after the other
pub lowest_fold : (f : ℕ → Option Refusal) (n : ℕ) → fold lower None (map f (range_with_len 0 n)) ≡ lowest f n
lowest_fold f zero = refl
lowest_fold f (suc n) =
    let xs = map f (range_with_len 0 n) in
    ap (λ k. fold lower None (map f (range_with_len 0 k))) (sym (add-one n)) ∙ ap (fold lower None) (map-range_with_len_more f 0 n n (omega arith)) ∙ fold-append lower None xs (f n ∷ []) ∙ ap (λ z. lower z (f n)) (lowest_fold f n)

-- the refusal of the smallest number of which P holds, or none where it holds of none
abbrev pub Least : (Refusal → Type 0) → Option Refusal → Type 0
Least P None = (x : Refusal) → P x → ⊥
Least P (Some x) = P x × ((y : Refusal) → number y < number x → P y → ⊥)

pub least_like : (P Q : Refusal → Type 0) → ((x : Refusal) → P x → Q x) → ((x : Refusal) → Q x → P x) → (a : Option Refusal) → Least P a → Least Q a
least_like P Q to from None h = λ x q. h x (from x q)
least_like P Q to from (Some x) h = (to x h.0, λ y b q. h.1 y b (from y q))

pub least_join : (P Q : Refusal → Type 0) (a b : Option Refusal) → Least P a → Least Q b → Least (λ x. P x ⊎ Q x) (lower a b)
least_join P Q None None h k = λ x w. elim w [ inl p ↦ h x p | inr q ↦ k x q ]
least_join P Q None (Some y) h k = (inr k.0, λ z b w. elim w [ inl p ↦ h z p | inr q ↦ k.1 z b q ])
least_join P Q (Some x) None h k = (inl h.0, λ z b w. elim w [ inl p ↦ h.1 z b p | inr q ↦ k z q ])
least_join P Q (Some x) (Some y) h k =
    cond_both (ltb (number y) (number x)) y x (λ r. Least (λ z. P z ⊎ Q z) (Some r))
    (λ e. (inr k.0, λ z b w. elim w [ inl p ↦ h.1 z (omega (arith, ltb-true (number y) (number x) e)) p | inr q ↦ k.1 z b q ]))
    (λ e. (inl h.0, λ z b w. elim w [ inl p ↦ h.1 z b p | inr q ↦ k.1 z (omega (arith, ltb-false (number y) (number x) e)) q ]))

pub least_lowest : (f : ℕ → Option Refusal) (P : ℕ → Refusal → Type 0) (n : ℕ) → ((k : ℕ) → Least (P k) (f k)) → Least (λ x. (k : ℕ) × (k < n) × P k x) (lowest f n)
least_lowest f P zero h = λ x w. omega (arith, w.1)
least_lowest f P (suc n) h =
    least_like _ (λ x. (k : ℕ) × (k < suc n) × P k x)
    (λ x w. elim w [ inl p ↦ (p.0, omega (arith, p.1), p.2) | inr q ↦ (n, omega arith, q) ])
    (λ x w. elim (cases_eq w.0 n) [ inl e ↦ inr (let T : ℕ → Type 0 = λ k. P k x in subst T e w.2) | inr e ↦ inl (w.0, omega (arith, w.1), w.2) ])
    _ (least_join (λ x. (k : ℕ) × (k < n) × P k x) (P n) (lowest f n) (f n) (least_lowest f P n h) (h n))

-- in an item that may be there
pub least_found : {A : Type 0} (f : A → Option Refusal) (P : A → Refusal → Type 0) (o : Option A) → ((a : A) → o ≡ Some a → Least (P a) (f a)) → Least (λ x. (a : A) × (o ≡ Some a) × P a x) (found f o)
least_found f P None h = λ x w. let e = w.1 in let z : ◌≡◌ {A = ℕ} 0 1 = cc in omega arith
least_found {A} f P (Some a) h =
    least_like (P a) _ (λ x p. (a, refl, p)) (λ x w. let e = w.1 in let q : w.0 ≡ a = cc in let T : A → Type 0 = λ z. P z x in subst T q w.2) (f a) (h a refl)

-- one test
pub least_if : (b : Bool) (x : Refusal) (B : Type 0) → Decides b B → Least (λ y. (y ≡ x) × B) (cond b (Some x) None)
least_if b x B d =
    cond_both b (Some x) None (Least (λ y. (y ≡ x) × B)) (λ e. ((refl, d.0 e), λ y l w. omega (arith, ap number w.0))) (λ e y w. not_from_Decides b d e w.1)

-- one test before others of greater numbers
pub least_else : (b : Bool) (x : Refusal) (B : Type 0) (Q : Refusal → Type 0) (r : Option Refusal) → Decides b B → ((y : Refusal) → Q y → number x ≤ number y) → Least Q r → Least (λ y. ((y ≡ x) × B) ⊎ Q y) (cond b (Some x) r)
least_else b x B Q r d above h =
    cond_both b (Some x) r (Least (λ y. ((y ≡ x) × B) ⊎ Q y))
    (λ e. (inl (refl, d.0 e), λ y l w. elim w [ inl p ↦ omega (arith, ap number p.0) | inr q ↦ omega (arith, above y q) ]))
    (λ e. least_like Q _ (λ y q. inr q) (λ y w. elim w [ inl p ↦ absurd (not_from_Decides b d e p.1) | inr q ↦ q ]) r h)

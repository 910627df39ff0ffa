-- Lists with an element added at the end, taken off, or changed.
use Rattle.std.proofs.Common.{◌≡◌, ℕ, zero, suc, ◌-◌, ◌<◌, ◌≤◌, List, [], ◌∷◌, ◌++◌, length, take, set, Some, sym, refl, ap, ◌∙◌, sub-one, arith}
use Rattle.std.specs.List.{slice_get}
use Rattle.model.proofs.Bests.{none_some, some_same}
use Rattle.model.specs.Changes.{all_but_last, change}

module _ {A : Type 0} where
  pub all_but_last_push : (xs : List A) (x : A) → all_but_last (xs ++ (x ∷ [])) ≡ xs
  all_but_last_push [] x = refl
  all_but_last_push (y ∷ []) x = refl
  all_but_last_push (y ∷ (z ∷ zs)) x = ap (λ l. y ∷ l) (all_but_last_push (z ∷ zs) x)

  -- what is left after the last is taken off
  taken : (xs : List A) (x : A) → take (length xs) (x ∷ xs) ≡ all_but_last (x ∷ xs)
  taken [] x = refl
  taken (y ∷ ys) x = ap (λ l. x ∷ l) (taken ys y)

  all_but_last_take : (xs : List A) → take (length xs - 1) xs ≡ all_but_last xs
  all_but_last_take [] = refl
  all_but_last_take (x ∷ xs) = rw sub-one (taken xs x)

  -- what a list is after its last element is popped
  pub popped : (xs ys : List A) (n : ℕ) → n ≡ length xs → ys ≡ take (n - 1) xs → ys ≡ all_but_last xs
  popped xs ys n e p = p ∙ ap (λ (m : ℕ). take (m - 1) xs) e ∙ all_but_last_take xs

  last_again : (x : A) (xs : List A) (f : A) → slice_get (x ∷ xs) (length xs) ≡ Some f → all_but_last (x ∷ xs) ++ (f ∷ []) ≡ x ∷ xs
  last_again x [] f e = ap (λ y. y ∷ []) (sym (some_same e))
  last_again x (y ∷ ys) f e = ap (λ l. x ∷ l) (last_again y ys f e)

  pub push_last : (xs : List A) (f : A) → slice_get xs (length xs - 1) ≡ Some f → all_but_last xs ++ (f ∷ []) ≡ xs
  push_last [] f e = absurd (none_some e)
  push_last (x ∷ xs) f e = last_again x xs f (rw sub-one at e)

  -- a list that has something has a last element
  last_there : (x : A) (xs : List A) → (f : A) × (slice_get (x ∷ xs) (length xs) ≡ Some f)
  last_there x [] = (x, refl)
  last_there x (y ∷ ys) = last_there y ys

  pub has_last : (xs : List A) → 0 < length xs → (f : A) × (slice_get xs (length xs - 1) ≡ Some f)
  has_last [] h = absurd (omega arith)
  has_last (x ∷ xs) h = let w = last_there x xs in (w.0, rw sub-one w.1)

  pub change_past : (n : ℕ) (f : A → A) (xs : List A) → length xs ≤ n → change n f xs ≡ xs
  change_past n f [] h = refl
  change_past zero f (x ∷ xs) h = absurd (omega arith)
  change_past (suc n) f (x ∷ xs) h = ap (λ l. x ∷ l) (change_past n f xs (omega arith))

  pub change_at : (n : ℕ) (f : A → A) (xs : List A) (x : A) → slice_get xs n ≡ Some x → change n f xs ≡ set xs n (f x)
  change_at n f [] x e = absurd (none_some e)
  change_at zero f (y ∷ xs) x e = ap (λ z. f z ∷ xs) (some_same e)
  change_at (suc n) f (y ∷ xs) x e = ap (λ l. y ∷ l) (change_at n f xs x e)

  pub change_same : (n : ℕ) (f : A → A) (xs : List A) (x : A) → slice_get xs n ≡ Some x → f x ≡ x → change n f xs ≡ xs
  change_same n f [] x e h = refl
  change_same zero f (y ∷ xs) x e h = let d : y ≡ x = some_same e in ap (λ z. z ∷ xs) (ap f d ∙ h ∙ sym d)
  change_same (suc n) f (y ∷ xs) x e h = ap (λ l. y ∷ l) (change_same n f xs x e h)

  -- a change that is undone
  pub change_back : (n : ℕ) (f h : A → A) (xs : List A) (x : A) → slice_get xs n ≡ Some x → h (f x) ≡ x → change n h (change n f xs) ≡ xs
  change_back n f h [] x e k = refl
  change_back zero f h (y ∷ xs) x e k = let d : y ≡ x = some_same e in ap (λ z. z ∷ xs) (ap (λ z. h (f z)) d ∙ k ∙ sym d)
  change_back (suc n) f h (y ∷ xs) x e k = ap (λ l. y ∷ l) (change_back n f h xs x e k)

  pub length_change : (n : ℕ) (f : A → A) (xs : List A) → length (change n f xs) ≡ length xs
  length_change n f [] = refl
  length_change zero f (x ∷ xs) = refl
  length_change (suc n) f (x ∷ xs) = ap suc (length_change n f xs)

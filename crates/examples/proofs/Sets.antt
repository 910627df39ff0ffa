-- Lists that hold exactly what a property is true of.
use Rattle.std.proofs.Common.{◌≡◌, ℕ, zero, suc, ◌<◌, Bool, true, false, ◌&&◌, ◌||◌, ◌⊎◌, List, [], ◌∷◌, ◌++◌, map, Some, sym, refl, ap, ◌∙◌, subst, inl, inr, ⊎_elim, arith}
use Rattle.std.specs.List.{slice_get, flat_map}
use Rattle.std.proofs.lemmas.Bool.{true≢false, and_parts, or_cases, cases_eq}

abbrev pub In : {X : Type 0} → X → List X → Type 0
In x [] = ⊥
In x (y ∷ ys) = (x ≡ y) ⊎ In x ys

pub record Lists {X : Type 0} (P : X → Type 0) (xs : List X) : Type 0 where
  pub sound : (x : X) → In x xs → P x
  pub complete : (x : X) → P x → In x xs

module _ {X : Type 0} where
  pub in_left : (x : X) (xs ys : List X) → In x xs → In x (xs ++ ys)
  in_left x [] ys h = absurd h
  in_left x (y ∷ xs) ys (inl e) = inl e
  in_left x (y ∷ xs) ys (inr h) = inr (in_left x xs ys h)

  pub in_right : (x : X) (xs ys : List X) → In x ys → In x (xs ++ ys)
  in_right x [] ys h = h
  in_right x (y ∷ xs) ys h = inr (in_right x xs ys h)

  pub in_either : (x : X) (xs ys : List X) → In x (xs ++ ys) → In x xs ⊎ In x ys
  in_either x [] ys h = inr h
  in_either x (y ∷ xs) ys (inl e) = inl (inl e)
  in_either x (y ∷ xs) ys (inr h) = ⊎_elim (λ k. inl (inr k)) (λ k. inr k) (in_either x xs ys h)

pub only : {X : Type 0} (x y : X) → In x (y ∷ []) → x ≡ y
only x y (inl e) = e
only x y (inr h) = absurd h

-- a test first, then the list
abbrev pub when : {X : Type 0} → Bool → List X → List X
when true xs = xs
when false xs = []

pub in_when : {X : Type 0} (x : X) (b : Bool) (xs : List X) → b ≡ true → In x xs → In x (when b xs)
in_when x true xs e h = h
in_when x false xs e h = absurd (true≢false (sym e))

pub when_in : {X : Type 0} (x : X) (b : Bool) (xs : List X) → In x (when b xs) → (b ≡ true) × In x xs
when_in x true xs h = (refl, h)
when_in x false xs h = absurd h

module _ {X Y : Type 0} where
  pub in_map : (f : X → Y) (x : X) (xs : List X) → In x xs → In (f x) (map f xs)
  in_map f x [] h = absurd h
  in_map f x (y ∷ ys) (inl e) = inl (ap f e)
  in_map f x (y ∷ ys) (inr h) = inr (in_map f x ys h)

  pub map_in : (f : X → Y) (y : Y) (xs : List X) → In y (map f xs) → (x : X) × In x xs × (y ≡ f x)
  map_in f y [] h = absurd h
  map_in f y (x ∷ xs) (inl e) = (x, inl refl, e)
  map_in f y (x ∷ xs) (inr h) = let t = map_in f y xs h in (t.0, inr t.1, t.2)

  pub in_joined : (f : X → List Y) (x : X) (y : Y) (xs : List X) → In x xs → In y (f x) → In y (flat_map f xs)
  in_joined f x y [] h k = absurd h
  in_joined f x y (z ∷ zs) (inl e) k = in_left y (f z) (flat_map f zs) (let P : X → Type 0 = λ u. In y (f u) in subst P e k)
  in_joined f x y (z ∷ zs) (inr h) k = in_right y (f z) (flat_map f zs) (in_joined f x y zs h k)

  pub joined_in : (f : X → List Y) (y : Y) (xs : List X) → In y (flat_map f xs) → (x : X) × In x xs × In y (f x)
  joined_in f y [] h = absurd h
  joined_in f y (x ∷ xs) h =
      ⊎_elim (λ k. (x, inl refl, k)) (λ k. let t = joined_in f y xs k in (t.0, inr t.1, t.2)) (in_either y (f x) (flat_map f xs) h)

-- those elements that pass a test
abbrev pub those : {X : Type 0} → (X → Bool) → List X → List X
those p xs = flat_map (λ x. when (p x) (x ∷ [])) xs

pub in_those : {X : Type 0} (p : X → Bool) (x : X) (xs : List X) → p x ≡ true → In x xs → In x (those p xs)
in_those p x xs e h = in_joined (λ y. when (p y) (y ∷ [])) x x xs h (in_when x (p x) (x ∷ []) e (inl refl))

pub those_in : {X : Type 0} (p : X → Bool) (x : X) (xs : List X) → In x (those p xs) → (p x ≡ true) × In x xs
those_in {X} p x xs h =
    let t = joined_in (λ y. when (p y) (y ∷ [])) x xs h in
    let u = when_in x (p t.0) (t.0 ∷ []) t.2 in
    let P : X → Type 0 = λ y. (p y ≡ true) × In y xs in
    subst P (sym (only x t.0 u.1)) (u.0, t.1)

-- the numbers below n
abbrev pub below : ℕ → List ℕ
below zero = []
below (suc n) = n ∷ below n

pub in_below : (k n : ℕ) → k < n → In k (below n)
in_below k zero h = absurd (omega arith)
in_below k (suc n) h = ⊎_elim (λ e. inl e) (λ u. inr (in_below k n (omega arith))) (cases_eq k n)

-- tests of each and of some element
abbrev pub each : {X : Type 0} → (X → Bool) → List X → Bool
each p [] = true
each p (x ∷ xs) = p x && each p xs

abbrev pub some : {X : Type 0} → (X → Bool) → List X → Bool
some p [] = false
some p (x ∷ xs) = p x || some p xs

pub each_in : {X : Type 0} (p : X → Bool) (xs : List X) (x : X) → each p xs ≡ true → In x xs → p x ≡ true
each_in p [] x e h = absurd h
each_in p (y ∷ ys) x e (inl q) = ap p q ∙ (and_parts (p y) (each p ys) e).0
each_in p (y ∷ ys) x e (inr h) = each_in p ys x (and_parts (p y) (each p ys) e).1 h

pub some_in : {X : Type 0} (p : X → Bool) (xs : List X) → some p xs ≡ true → (x : X) × In x xs × (p x ≡ true)
some_in p [] e = absurd (true≢false (sym e))
some_in p (y ∷ ys) e =
    ⊎_elim (λ q. (y, inl refl, q)) (λ q. let t = some_in p ys q in (t.0, inr t.1, t.2)) (or_cases (p y) (some p ys) e)

pub nth_in : {X : Type 0} (xs : List X) (i : ℕ) (x : X) → slice_get xs i ≡ Some x → In x xs
nth_in [] i x e = let z : ◌≡◌ {A = ℕ} 0 1 = cc in absurd (omega arith)
nth_in (y ∷ ys) zero x e = inl (cc)
nth_in (y ∷ ys) (suc i) x e = inr (nth_in ys i x e)

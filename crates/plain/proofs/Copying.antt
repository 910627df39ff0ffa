-- Copying the items of a list one by one.
use Rattle.std.proofs.Common.{◌≡◌, ℕ, ◌+◌, ◌<◌, List, [], ◌∷◌, ◌++◌, length, get_or, take, Some, Option, sym, ap, ◌∙◌, arith}
use Rattle.std.proofs.lemmas.List.{take_more}
use Rattle.std.proofs.lemmas.Option.{slice_get-get_or}
use Rattle.std.specs.List.{slice_get}
use Rattle.model.specs.Graph.{Scope, in_scope}
use Rattle.model.proofs.Bests.{some_same}

-- one item more of a list of a scope that is there
module _ {A : Type 0} (o : Option Scope) (list : Scope → List A) (s : Scope) (is : o ≡ Some s) where
  counted : (count : ℕ) → Some count ≡ in_scope o (λ x. Some (length (list x))) → count ≡ length (list s)
  counted count asked = some_same (asked ∙ ap (λ p. in_scope p (λ x. Some (length (list x)))) is)

  read : (i : ℕ) (x : A) → Some x ≡ in_scope o (λ y. slice_get (list y) i) → i < length (list s) → x ≡ get_or (list s) i x
  read i x asked inside = some_same (asked ∙ ap (λ p. in_scope p (λ y. slice_get (list y) i)) is ∙ slice_get-get_or (list s) i x inside)

  pub filled_more : (count i : ℕ) (x : A) (row row' : List A) → Some count ≡ in_scope o (λ y. Some (length (list y))) → i < count → Some x ≡ in_scope o (λ y. slice_get (list y) i) →
      row ≡ take i (list s) → row' ≡ row ++ (x ∷ []) → row' ≡ take (i + 1) (list s)
  filled_more count i x row row' asked within item old new =
      let inside : i < length (list s) = omega (arith, counted count asked) in
      new ∙ ap (λ ys. ys ++ (x ∷ [])) old ∙ ap (λ y. take i (list s) ++ (y ∷ [])) (read i x item inside) ∙ sym (take_more (list s) i x inside)

-- Where a range ends, with one fact more.
use Rattle.std.proofs.Common.{◌≡◌, ℕ, ◌+◌, ◌-◌, ◌<◌, ◌≤◌, min, List, [], ◌∷◌, ◌++◌, length, get_or, take, sym, ap, ◌∙◌, subst, inl, inr, arith}
use Rattle.std.proofs.lemmas.List.{take_more}
use Rattle.std.proofs.lemmas.Option.{slice_get-get_or}
use Rattle.std.proofs.lemmas.Bool.{cases_lt}
use Rattle.std.proofs.lemmas.Bool.Decides.{nat_tests}
use Rattle.model.specs.declared.graph.Fact.{Fact}
use Rattle.model.specs.Trail.{IsCut}
use Rattle.model.proofs.Cuts.{cut_before, cut_during, cut_after}
use Rattle.plain.specs.Ranges.{Proper, cut_by}

cut_one : (fs : List Fact) (f : Fact) (a top b : ℕ) → IsCut fs a top b → f.first ≤ f.last → IsCut (fs ++ (f ∷ [])) a top (cut_by f a b)
cut_one fs f a top b cut proper =
    elim (cases_lt a f.first) [
      | inl h ↦ let e : min b (f.first - 1) ≡ cut_by f a b = grind (arith, nat_tests) in subst (IsCut (fs ++ (f ∷ [])) a top) e (cut_before fs f a top b cut proper h)
      | inr h ↦
          elim (cases_lt f.last a) [
            | inl k ↦ let e : b ≡ cut_by f a b = grind (arith, nat_tests) in subst (IsCut (fs ++ (f ∷ [])) a top) e (cut_after fs f a top b cut k)
            | inr k ↦ let e : min b f.last ≡ cut_by f a b = grind (arith, nat_tests) in subst (IsCut (fs ++ (f ∷ [])) a top) e (cut_during fs f a top b cut h k)
          ]
    ]

pub cut_more : (facts items : List Fact) (i : ℕ) (d : Fact) (a top b e : ℕ) → items ≡ facts → i < length items → Proper facts → IsCut (take i facts) a top b → e ≡ cut_by (get_or items i d) a b → IsCut (take (i + 1) facts) a top e
cut_more facts items i d a top b e same inside proper cut is =
    let h : i < length facts = omega (arith, ap length same) in
    let f = get_or facts i d in
    let q : take (i + 1) facts ≡ take i facts ++ (f ∷ []) = take_more facts i d h in
    let r : e ≡ cut_by f a b = is ∙ ap (λ (xs : List Fact). cut_by (get_or xs i d) a b) same in
    subst (λ fs. IsCut fs a top e) (sym q) (subst (IsCut (take i facts ++ (f ∷ [])) a top) (sym r) (cut_one (take i facts) f a top b cut (proper i f (slice_get-get_or facts i d h))))

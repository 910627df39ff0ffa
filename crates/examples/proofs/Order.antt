-- The cost of a run from left to right, and that a bound is one.
use Rattle.std.proofs.Common.{◌≡◌, ℕ, T, List, [], ◌∷◌, ◌++◌, sym, refl, ap, ◌∙◌, subst}
use Rattle.model.specs.Graph.{Scope}
use Rattle.model.specs.Measures.{Measure, Laws}
use Rattle.model.specs.Runs.{Run, Passes, Walk, Inside, edge_cost, scope_or_empty, run_cost, passes_cost, walk_cost, inside_cost, IsBound}
use Rattle.model.specs.Runs.Run.{run}
use Rattle.model.specs.Runs.Passes.{final, then}
use Rattle.model.specs.Runs.Walk.{done, step}
use Rattle.model.specs.Runs.Inside.{block, call}
use Rattle.examples.specs.Order.{run_costs, passes_costs, walk_costs, inside_costs, joined_onto, JoinedInOrder, BoundUnique}

module _ {C : Type 0} (m : Measure C) (laws : Laws m) (g : List Scope) where
  onto_append : (c : C) (xs ys : List C) → joined_onto m c (xs ++ ys) ≡ joined_onto m (joined_onto m c xs) ys
  onto_append c [] ys = refl
  onto_append c (x ∷ xs) ys = onto_append (m.join c x) xs ys

  mutual
    onto_run : (c : C) (i : ℕ) (r : Run) → joined_onto m c (run_costs m g i r) ≡ m.join c (run_cost m g i r)
    onto_run c i (run ps) = onto_passes c (scope_or_empty g i) ps

    onto_passes : (c : C) (s : Scope) (ps : Passes) → joined_onto m c (passes_costs m g s ps) ≡ m.join c (passes_cost m g s ps)
    onto_passes c s (final w) = onto_walk c s w
    onto_passes c s (then w ps) =
        onto_append c (walk_costs m g s w) (passes_costs m g s ps)
        ∙ ap (λ x. joined_onto m x (passes_costs m g s ps)) (onto_walk c s w)
        ∙ onto_passes (m.join c (walk_cost m g s w)) s ps
        ∙ laws.assoc c (walk_cost m g s w) (passes_cost m g s ps)

    onto_walk : (c : C) (s : Scope) (w : Walk) → joined_onto m c (walk_costs m g s w) ≡ m.join c (walk_cost m g s w)
    onto_walk c s done = sym (laws.right c)
    onto_walk c s (step i e w) =
        onto_append c (inside_costs m g i) (edge_cost m s e ∷ walk_costs m g s w)
        ∙ ap (λ x. joined_onto m (m.join x (edge_cost m s e)) (walk_costs m g s w)) (onto_inside c i)
        ∙ onto_walk (m.join (m.join c (inside_cost m g i)) (edge_cost m s e)) s w
        ∙ ap (λ x. m.join x (walk_cost m g s w)) (laws.assoc c (inside_cost m g i) (edge_cost m s e))
        ∙ laws.assoc c (m.join (inside_cost m g i) (edge_cost m s e)) (walk_cost m g s w)

    onto_inside : (c : C) (i : Inside) → joined_onto m c (inside_costs m g i) ≡ m.join c (inside_cost m g i)
    onto_inside c block = sym (laws.right c)
    onto_inside c (call t r) = onto_run c t r

pub in_order : {C : Type 0} (m : Measure C) → Laws m → JoinedInOrder m
in_order m laws g i r = onto_run m laws g m.nothing i r ∙ laws.left (run_cost m g i r)

-- a bound is at most any other, since some run costs it
at_most : {C : Type 0} (m : Measure C) (g : List Scope) (i : ℕ) (a b : C) → IsBound m g i a → IsBound m g i b → T (m.leq a b)
at_most {C} m g i a b h k =
    let P : C → Type 0 = λ x. T (m.leq x b) in
    subst P h.attained.2 (k.greatest h.attained.0 h.attained.1)

pub unique : {C : Type 0} (m : Measure C) → Laws m → BoundUnique m
unique m laws g i a b h k = laws.antisym a b (at_most m g i a b h k) (at_most m g i b a k h)

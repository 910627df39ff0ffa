-- A bound, or that there is no run, by a test over all runs of a small graph.
use Rattle.std.proofs.Common.{◌≡◌, ℕ, Bool, true, false, ◌&&◌, T, List, [], ◌∷◌, length, Some, None, Option, sym, refl}
use Rattle.std.specs.List.{AllByRecursion}
use Rattle.std.proofs.lemmas.Bool.{true≢false, and_parts}
use Rattle.model.specs.Graph.{Scope}
use Rattle.model.specs.Measures.{Measure, Laws}
use Rattle.model.specs.Runs.{Run, IsBound, run_cost}
use Rattle.measures.specs.Meanings.{cycles, stack, that_many}
use Rattle.measures.specs.Kept.{cycles_laws, stack_laws}
use Rattle.examples.specs.Graphs.{Right, Example, EveryExample, examples}
use Rattle.examples.proofs.Sets.{In, each, each_in, some, some_in}
use Rattle.examples.proofs.Listing.{runs, covered, runs_list}

is_true : (b : Bool) → b ≡ true → T b
is_true true e = tt
is_true false e = absurd (true≢false (sym e))

-- each call leads to a scope of greater number in these graphs, so none is deeper than there are scopes
abbrev all_runs : List Scope → List Run
all_runs g = runs g (length g) 0

abbrev all_covered : List Scope → Bool
all_covered g = covered g (length g) 0

-- no run of g costs more than c, and some run costs no less
abbrev bound_test : {C : Type 0} → Measure C → List Scope → C → Bool
bound_test m g c = all_covered g && (each (λ r. m.leq (run_cost m g 0 r) c) (all_runs g) && some (λ r. m.leq c (run_cost m g 0 r)) (all_runs g))

bound_by_test : {C : Type 0} (m : Measure C) → Laws m → (g : List Scope) (c : C) → bound_test m g c ≡ true → IsBound m g 0 c
bound_by_test m laws g c e =
    let most : Run → Bool = λ r. m.leq (run_cost m g 0 r) c in
    let least : Run → Bool = λ r. m.leq c (run_cost m g 0 r) in
    let t = and_parts (all_covered g) (each most (all_runs g) && some least (all_runs g)) e in
    let u = and_parts (each most (all_runs g)) (some least (all_runs g)) t.1 in
    let all = runs_list g (length g) 0 t.0 in
    let w = some_in least (all_runs g) u.1 in
    record {
      attained = (w.0, all.sound w.0 w.1, laws.antisym (run_cost m g 0 w.0) c (is_true (most w.0) (each_in most (all_runs g) w.0 u.0 w.1)) (is_true (least w.0) w.2));
      greatest = λ r h. is_true (most r) (each_in most (all_runs g) r u.0 (all.complete r h));
    }

abbrev none : List Run → Bool
none [] = true
none (r ∷ rs) = false

none_in : (rs : List Run) → none rs ≡ true → (r : Run) → In r rs → ⊥
none_in [] e r h = h
none_in (q ∷ rs) e r h = true≢false (sym e)

-- the test of a claim
abbrev right : List Scope → Option (ℕ × ℕ) → Bool
right g (Some (c, k)) = bound_test cycles g (that_many c) && bound_test stack g (record { bytes = k })
right g None = all_covered g && none (all_runs g)

right_by_test : (g : List Scope) (c : Option (ℕ × ℕ)) → right g c ≡ true → Right g c
right_by_test g (Some (c, k)) e =
    let t = and_parts (bound_test cycles g (that_many c)) (bound_test stack g (record { bytes = k })) e in
    (bound_by_test cycles cycles_laws g (that_many c) t.0, bound_by_test stack stack_laws g (record { bytes = k }) t.1)
right_by_test g None e =
    let t = and_parts (all_covered g) (none (all_runs g)) e in
    λ r h. none_in (all_runs g) t.1 r ((runs_list g (length g) 0 t.0).complete r h)

all_by_test : (xs : List Example) → each (λ x. right x.graph x.claim) xs ≡ true → AllByRecursion (λ x. Right x.graph x.claim) xs
all_by_test [] e = tt
all_by_test (x ∷ xs) e =
    let t = and_parts (right x.graph x.claim) (each (λ y. right y.graph y.claim) xs) e in
    (right_by_test x.graph x.claim t.0, all_by_test xs t.1)

pub every_example : EveryExample
every_example = all_by_test examples refl

-- The best run of a scope from the best passes of each number.
use Rattle.std.proofs.Common.{◌≡◌, ℕ, zero, suc, ◌+◌, ◌≤◌, List, [], ◌∷◌, Some, None, Option, sym, refl, ap, ◌∙◌, subst, ap₂, arith}
use Rattle.model.specs.declared.graph.Target.TheVariants.{Again, Leave}
use Rattle.std.specs.List.{slice_get}
use Rattle.model.specs.Graph.{Scope}
use Rattle.model.specs.Measures.{Measure, Laws}
use Rattle.model.specs.Best.{AtMost, IsBest}
use Rattle.model.specs.Runs.{Run, Passes, IsRun, ArePasses, count, run_cost, passes_cost, walk_cost, scope_or_empty, IsBound}
use Rattle.model.specs.Runs.Run.{run}
use Rattle.model.specs.Runs.Passes.{final, then}
use Rattle.model.specs.Ways.{RunCost, PassCost, PassesCost}
use Rattle.model.specs.Counts.{CountedCost, AreEnds, rest_cost, total, Between, RunsBetween}
use Rattle.model.proofs.Bests.{none_some, some_same, best_same, best_join, best_family}

pub count_some : (ps : Passes) → 1 ≤ count ps
count_some (final w) = omega arith
count_some (then w ps) = omega arith

pub scope_there : (g : List Scope) (i : ℕ) (s : Scope) → slice_get g i ≡ Some s → scope_or_empty g i ≡ s
scope_there [] i s e = absurd (none_some e)
scope_there (x ∷ g) zero s e = some_same e
scope_there (x ∷ g) (suc i) s e = scope_there g i s e

-- the passes from number k on: the last alone, or one that goes on and then the rest
module _ {C : Type 0} (m : Measure C) (g : List Scope) (s : Scope) (k : ℕ) (c : C) where
  pub last_alone : PassesCost m g s k 1 c → PassCost m g s k Leave c
  last_alone (final w, n, h, e) = (w, h, e)
  last_alone (then w ps, n, h, e) = absurd (omega (arith, count_some ps))

  pub alone_last : PassCost m g s k Leave c → PassesCost m g s k 1 c
  alone_last (w, h, e) = (final w, refl, h, e)

  pub first_rest : (n : ℕ) → PassesCost m g s k (suc (suc n)) c → (a : C) × (b : C) × PassCost m g s k Again a × PassesCost m g s (suc k) (suc n) b × (c ≡ m.join a b)
  first_rest n (final w, e, h, q) = absurd (omega arith)
  first_rest n (then w ps, e, h, q) = (walk_cost m g s w, passes_cost m g s ps, (w, h.0, refl), (ps, omega arith, h.1, refl), sym q)

  pub rest_first : (n : ℕ) → ((a : C) × (b : C) × PassCost m g s k Again a × PassesCost m g s (suc k) (suc n) b × (c ≡ m.join a b)) → PassesCost m g s k (suc (suc n)) c
  rest_first n (a, b, (w, h, p), (ps, e, t, q), j) = (then w ps, ap suc e, (h, t), ap₂ m.join p q ∙ sym j)

-- the runs of scope i are the passes from number 1 on, as many as the scope allows
module _ (g : List Scope) (s : Scope) (i : ℕ) (there : slice_get g i ≡ Some s) where
  pub is_run : (ps : Passes) → s.least ≤ count ps → count ps ≤ s.most → ArePasses g s 1 ps → IsRun g i (run ps)
  is_run ps lo hi h = (s, there, lo, hi, h)

  pub run_passes : (ps : Passes) → IsRun g i (run ps) → (s.least ≤ count ps) × (count ps ≤ s.most) × ArePasses g s 1 ps
  run_passes ps h =
      subst (λ x. (x.least ≤ count ps) × (count ps ≤ x.most) × ArePasses g x 1 ps) (some_same (sym h.1 ∙ there)) (h.2, h.3, h.4)

  module _ {C : Type 0} (m : Measure C) where
    pub run_cost_is : (ps : Passes) → run_cost m g i (run ps) ≡ passes_cost m g s ps
    run_cost_is ps = ap (λ x. passes_cost m g x ps) (scope_there g i s there)

    pub counted_passes : (p : ℕ) (c : C) → CountedCost m g i p c → PassesCost m g s 1 p c
    counted_passes p c (run ps, r, e, q) = (ps, e, (run_passes ps r).2, sym (run_cost_is ps) ∙ q)

    pub passes_counted : (p : ℕ) (c : C) → (s.least ≤ p) × (p ≤ s.most) → PassesCost m g s 1 p c → CountedCost m g i p c
    passes_counted p c h (ps, e, t, q) = (run ps, is_run ps (omega arith) (omega arith) t, e, run_cost_is ps ∙ q)

    pub no_passes : (c : C) → CountedCost m g i 0 c → ⊥
    no_passes c (run ps, r, n, e) = omega (arith, count_some ps)

    -- each run has a number of passes that the scope allows
    pub run_between : (c : C) → RunCost m g i c → RunsBetween m g i s.least s.most c
    run_between c (run ps, r, q) = let t = run_passes ps r in (count ps, (t.0, t.1), (run ps, r, refl, q))

    pub between_run : (lo hi : ℕ) (c : C) → RunsBetween m g i lo hi c → RunCost m g i c
    between_run lo hi c (p, h, (r, is, n, q)) = (r, is, q)

module _ {C : Type 0} {m : Measure C} (laws : Laws m) (g : List Scope) (s : Scope) (cont leave : ℕ → Option C) (ends : AreEnds m g s cont leave) where
  -- the best of n passes that go on, from number k on, and one that leaves
  pub passes_best : (n k : ℕ) → 1 ≤ k → k + n ≤ s.most → IsBest m (PassesCost m g s k (suc n)) (rest_cost m cont leave k n)
  passes_best zero k some within =
      best_same laws (PassesCost m g s k 1) (PassCost m g s k Leave) (leave k) (last_alone m g s k) (alone_last m g s k) (ends.leaves k some (omega arith))
  passes_best (suc n) k some within =
      best_same laws (PassesCost m g s k (suc (suc n))) _ (rest_cost m cont leave k (suc n)) (λ c. first_rest m g s k c n) (λ c. rest_first m g s k c n)
      (best_join laws _ _ (cont k) _ (ends.conts k some (omega arith)) (passes_best n (suc k) (omega arith) (omega arith)))

  module _ (i : ℕ) (there : slice_get g i ≡ Some s) where
    -- the best of the runs with p passes
    pub counted_best : (p : ℕ) → (s.least ≤ p) × (p ≤ s.most) → IsBest m (CountedCost m g i p) (total m cont leave p)
    counted_best zero h = no_passes g s i there m
    counted_best (suc n) h =
        best_same laws (CountedCost m g i (suc n)) (PassesCost m g s 1 (suc n)) (rest_cost m cont leave 1 n)
        (counted_passes g s i there m (suc n))
        (λ c. passes_counted g s i there m (suc n) c h)
        (passes_best n 1 (omega arith) (omega arith))

    -- the best over all numbers of passes is the best of the runs
    pub runs_best : (x : Option C) → IsBest m (Between (total m cont leave) s.least s.most) x → IsBest m (RunCost m g i) x
    runs_best x h =
        best_same laws (RunCost m g i) (RunsBetween m g i s.least s.most) x (run_between g s i there m) (between_run g s i there m s.least s.most)
        (best_family laws (λ p. (s.least ≤ p) × (p ≤ s.most)) (CountedCost m g i) (total m cont leave) counted_best x h)

-- the bound of a scope is the best of its runs' costs
pub bound_best : {C : Type 0} {m : Measure C} (g : List Scope) (i : ℕ) (c : C) → IsBound m g i c → IsBest m (RunCost m g i) (Some c)
bound_best {m = m} g i c h = (h.attained, λ d t. subst (λ v. AtMost m v c) t.2 (h.greatest t.0 t.1))

pub best_bound : {C : Type 0} {m : Measure C} (g : List Scope) (i : ℕ) (c : C) → IsBest m (RunCost m g i) (Some c) → IsBound m g i c
best_bound {m = m} g i c h = record { attained = h.0; greatest = λ r is. h.1 _ (r, is, refl) }

pub best_no_run : {C : Type 0} {m : Measure C} (g : List Scope) (i : ℕ) → IsBest m (RunCost m g i) None → (r : Run) → IsRun g i r → ⊥
best_no_run {m = m} g i h r is = h (run_cost m g i r) (r, is, refl)

-- the greatest cost over the numbers of passes that there are is the bound of the scope; where there are none, it has no run
module _ {C : Type 0} {m : Measure C} (laws : Laws m) (g : List Scope) (s : Scope) (cont leave : ℕ → Option C) (ends : AreEnds m g s cont leave) (i : ℕ) (there : slice_get g i ≡ Some s) where
  pub bound_found : (c : C) → IsBest m (Between (total m cont leave) s.least s.most) (Some c) → IsBound m g i c
  bound_found c h = best_bound g i c (runs_best laws g s cont leave ends i there (Some c) h)

  pub no_run_found : ((p : ℕ) → s.least ≤ p → p ≤ s.most → total m cont leave p ≡ None) → (r : Run) → IsRun g i r → ⊥
  no_run_found none = best_no_run g i (runs_best laws g s cont leave ends i there None (λ c t. none_some (sym (none t.0 t.1.0 t.1.1) ∙ t.2)))

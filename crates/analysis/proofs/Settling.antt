-- Settling one scope after the other, called scopes first.
use Rattle.std.proofs.Common.{◌≡◌, ℕ, zero, suc, ◌+◌, ◌<◌, Bool, false, ◌⊎◌, List, length, get_or, Some, sym, refl, ◌∙◌, subst, inl, inr, ⊎_elim, arith}
use Rattle.std.specs.List.{slice_get}
use Rattle.std.proofs.lemmas.Option.{slice_get-get_or}
use Rattle.std.proofs.lemmas.Bool.{cases_eq, cases_lt}
use Rattle.model.specs.declared.graph.Node.TheVariants.{Call}
use Rattle.model.specs.declared.trail.Line.{Line}
use Rattle.model.specs.Best.{IsBest}
use Rattle.model.specs.Graph.{Scope}
use Rattle.model.specs.Measures.{Measure, Laws}
use Rattle.model.specs.Runs.{Run, IsRun, run_cost}
use Rattle.model.specs.Runs.Run.{run}
use Rattle.model.specs.Runs.Passes.{final}
use Rattle.model.specs.Runs.Walk.{done}
use Rattle.model.specs.Trail.{Shows, section}
use Rattle.model.specs.Ways.{RunCost, AreBest}
use Rattle.model.proofs.Bests.{some_same, best_one}
use Rattle.model.proofs.Kept.{CallsIn, solved_kept, unsolvable_kept}
use Rattle.model.proofs.Shown.{AreShown}
use Rattle.model.proofs.Tables.{solved_best, unsolvable_best}
use Rattle.rules.specs.CallOrders.{CalledFirst}
use Rattle.search.specs.Walks.{gate}
use Rattle.analysis.specs.States.{Settled, AreSettled}

-- the place of a scope among the first k of the order
find : (order : List ℕ) (t k : ℕ) → ((l : ℕ) × (l < k) × (get_or order l 0 ≡ t)) ⊎ ((l : ℕ) → l < k → get_or order l 0 ≡ t → ⊥)
find order t zero = inr (λ l h q. omega arith)
find order t (suc k) =
    ⊎_elim (λ w. inl (w.0, omega (arith, w.1), w.2))
    (λ w. ⊎_elim (λ q. inl (k, omega arith, q)) (λ q. inr (λ l h e. ⊎_elim (λ p. q (subst (λ z. get_or order z 0 ≡ t) p e)) (λ p. w l (lt l h p) e) (cases_eq l k))) (cases_eq (get_or order k 0) t))
    (find order t k)
  where
    lt : (l : ℕ) → l < suc k → (l ≡ k → ⊥) → l < k
    lt l h p = ⊎_elim (λ q. q) (λ q. absurd (p (omega arith))) (cases_lt l k)

-- a scope that is called by the one at place k
pub called_before : (g : List Scope) (order : List ℕ) → CalledFirst g order → (k : ℕ) (s : Scope) → k < length g → slice_get g (get_or order k 0) ≡ Some s → ((n t : ℕ) → slice_get s.nodes n ≡ Some (Call t) → t < length g) →
    (n t : ℕ) → slice_get s.nodes n ≡ Some (Call t) → (l : ℕ) × (l < k) × (get_or order l 0 ≡ t)
called_before g order first k s within there inside n t q = first.before k t within (inside n t q) (n, rw there q)

module _ {C : Type 0} {m : Measure C} (laws : Laws m) (g : List Scope) (work : List C) (trail : List Line) (solved : List Bool) where
  -- the best runs of a settled scope, as its mark and its place in the work table say
  settled_best : (t : ℕ) → t < length work → Settled m g work trail solved t → IsBest m (RunCost m g t) (gate (get_or solved t false) (slice_get work t))
  settled_best t h (inl (q, w)) = subst (λ o. IsBest m (RunCost m g t) (gate o (slice_get work t))) (sym q) (subst (IsBest m (RunCost m g t)) (sym (slice_get-get_or work t m.nothing h)) (solved_best m g work trail t w))
  settled_best t h (inr (q, w)) = subst (λ o. IsBest m (RunCost m g t) (gate o (slice_get work t))) (sym q) (unsolvable_best m g work trail t w)

  -- the run that is shown for it
  shown_run : (t : ℕ) → Settled m g work trail solved t → Run
  shown_run t (inl (q, w)) = w.shown
  shown_run t (inr (q, w)) = run (final done)

  shown_best : (t : ℕ) (h : Settled m g work trail solved t) (b : C) → IsBest m (RunCost m g t) (Some b) → IsRun g t (shown_run t h) × (run_cost m g t (shown_run t h) ≡ b) × Shows g trail t (shown_run t h)
  unfolding shown_run
  shown_best t (inl (q, w)) b best = (w.is_run, w.costs ∙ some_same (best_one laws (RunCost m g t) _ _ (solved_best m g work trail t w) best), w.shows)
  shown_best t (inr (q, w)) b best = absurd (w.none best.0.0 best.0.1)

  module _ (order : List ℕ) (k : ℕ) (settled : AreSettled m g work trail solved order k) where
    -- the runs shown for the scopes settled so far
    pub chosen : ℕ → Run
    chosen t = ⊎_elim (λ w. shown_run (get_or order w.0 0) (settled w.0 w.1)) (λ w. run (final done)) (find order t k)

    module _ (s : Scope) (called : (n t : ℕ) → slice_get s.nodes n ≡ Some (Call t) → (l : ℕ) × (l < k) × (get_or order l 0 ≡ t)) where
      chosen_best : (n t : ℕ) (b : C) → slice_get s.nodes n ≡ Some (Call t) → IsBest m (RunCost m g t) (Some b) → IsRun g t (chosen t) × (run_cost m g t (chosen t) ≡ b) × Shows g trail t (chosen t)
      unfolding chosen
      chosen_best n t b q best = go (find order t k)
        where
          go : (w : ((l : ℕ) × (l < k) × (get_or order l 0 ≡ t)) ⊎ ((l : ℕ) → l < k → get_or order l 0 ≡ t → ⊥)) →
              let r : Run = ⊎_elim (λ w. shown_run (get_or order w.0 0) (settled w.0 w.1)) (λ w. run (final done)) w in IsRun g t r × (run_cost m g t r ≡ b) × Shows g trail t r
          go (inl (l, h, e)) =
              let x = shown_run (get_or order l 0) (settled l h) in
              subst (λ j. IsRun g j x × (run_cost m g j x ≡ b) × Shows g trail j x) e (shown_best (get_or order l 0) (settled l h) b (subst (λ j. IsBest m (RunCost m g j) (Some b)) (sym e) best))
          go (inr out) = let w = called n t q in absurd (out w.0 w.1 w.2)

      pub are_best : AreBest m g s chosen
      are_best n t b q best = let r = chosen_best n t b q best in (r.0, r.1)

      pub are_shown : AreShown m g trail s chosen
      are_shown n t b q best = (chosen_best n t b q best).2

      -- the bests of the called scopes, as their marks and bounds say
      pub called_best : ((n t : ℕ) → slice_get s.nodes n ≡ Some (Call t) → t < length work) → (n t : ℕ) → slice_get s.nodes n ≡ Some (Call t) → IsBest m (RunCost m g t) (gate (get_or solved t false) (slice_get work t))
      called_best inside n t q = let w = called n t q in settled_best t (inside n t q) (subst (Settled m g work trail solved) w.2 (settled w.0 w.1))

-- one scope more is settled; the tables change only at its number
module _ {C : Type 0} {m : Measure C} (laws : Laws m) (g : List Scope) (order : List ℕ) (first : CalledFirst g order)
    (inside : (j : ℕ) (s : Scope) → slice_get g j ≡ Some s → (n t : ℕ) → slice_get s.nodes n ≡ Some (Call t) → t < length g)
    (work work' : List C) (trail trail' : List Line) (solved solved' : List Bool) (k : ℕ) (within : k < length g)
    (same-section : (j : ℕ) → j < length g → (j ≡ get_or order k 0 → ⊥) → section trail' j ≡ section trail j)
    (same-work : (j : ℕ) → (j ≡ get_or order k 0 → ⊥) → get_or work' j m.nothing ≡ get_or work j m.nothing)
    (same-mark : (j : ℕ) → (j ≡ get_or order k 0 → ⊥) → get_or solved' j false ≡ get_or solved j false)
    (settled : AreSettled m g work trail solved order k) where
  abbrev Before : ℕ → Type 0
  Before t = (l : ℕ) × (l < k) × (get_or order l 0 ≡ t)

  other : (t : ℕ) → Before t → t ≡ get_or order k 0 → ⊥
  other t (l, h, e) q = let z = first.once l k (omega arith) within (e ∙ q) in omega arith

  below : (t : ℕ) → Before t → t < length g
  below t (l, h, e) = subst (λ j. j < length g) e (first.within l (omega arith))

  closed : (i : ℕ) (s : Scope) → Before i → slice_get g i ≡ Some s → CallsIn Before s
  closed i s (l, h, e) there n t q =
      let w = called_before g order first l s (omega arith) (subst (λ j. slice_get g j ≡ Some s) (sym e) there) (inside i s there) n t q in
      (w.0, omega (arith, w.1), w.2)

  pub settled_kept : AreSettled m g work' trail' solved' order k
  settled_kept l h = go (settled l h)
    where
      p : Before (get_or order l 0)
      p = (l, h, refl)

      go : Settled m g work trail solved (get_or order l 0) → Settled m g work' trail' solved' (get_or order l 0)
      go (inl (q, w)) =
          inl (same-mark (get_or order l 0) (other (get_or order l 0) p) ∙ q, solved_kept g trail trail' Before closed (λ j r. same-section j (below j r) (other j r)) m work work' (get_or order l 0) p (same-work (get_or order l 0) (other (get_or order l 0) p)) w)
      go (inr (q, w)) =
          inr (same-mark (get_or order l 0) (other (get_or order l 0) p) ∙ q, unsolvable_kept g trail trail' Before closed (λ j r. same-section j (below j r) (other j r)) m work work' (get_or order l 0) p (same-work (get_or order l 0) (other (get_or order l 0) p)) w)

-- the scope at place k joins them
pub settled_more : {C : Type 0} (m : Measure C) (g : List Scope) (work : List C) (trail : List Line) (solved : List Bool) (order : List ℕ) (k : ℕ) →
    AreSettled m g work trail solved order k → Settled m g work trail solved (get_or order k 0) → AreSettled m g work trail solved order (k + 1)
settled_more m g work trail solved order k old new l h =
    ⊎_elim (λ q. old l q) (λ q. let e : k ≡ l = omega arith in subst (λ j. Settled m g work trail solved (get_or order j 0)) e new) (cases_lt l k)

-- all scopes are settled
pub settled_all : {C : Type 0} (m : Measure C) (g : List Scope) (work : List C) (trail : List Line) (solved : List Bool) (order : List ℕ) → CalledFirst g order →
    AreSettled m g work trail solved order (length g) → (i : ℕ) → i < length g → Settled m g work trail solved i
settled_all m g work trail solved order first settled i h =
    let w = first.placed i h in subst (Settled m g work trail solved) w.2 (settled w.0 w.1)

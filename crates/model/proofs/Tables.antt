-- What the tables say of the scopes worked out so far: their bests, and a best run of each.
use Rattle.std.proofs.Common.{◌≡◌, ℕ, Bool, true, false, T, ◌⊎◌, List, get_or, Some, None, Option, refl, ◌∙◌, subst, inl, inr}
use Rattle.model.specs.declared.graph.Node.TheVariants.{Call}
use Rattle.model.specs.declared.trail.Line.{Line}
use Rattle.std.specs.List.{slice_get}
use Rattle.model.specs.Graph.{Scope}
use Rattle.model.specs.Measures.{Measure, Laws}
use Rattle.model.specs.Best.{AtMost, IsBest}
use Rattle.model.specs.Runs.{Run, IsRun, run_cost}
use Rattle.model.specs.Runs.Run.{run}
use Rattle.model.specs.Runs.Passes.{final}
use Rattle.model.specs.Runs.Walk.{done}
use Rattle.model.specs.Trail.{Shows}
use Rattle.model.specs.Ways.{RunCost, AreBest, AreValues, edge_value_lem}
use Rattle.model.proofs.Shown.{AreShown}
use Rattle.model.proofs.Lifting.{value_right}
use Rattle.model.specs.Analysis.{Solved, Unsolvable}
use Rattle.model.proofs.Bests.{some_same, best_one}

module _ {C : Type 0} (m : Measure C) (g : List Scope) (work : List C) (trail : List Line) where
  pub solved_best : (t : ℕ) → Solved m g work trail t → IsBest m (RunCost m g t) (Some (get_or work t m.nothing))
  solved_best t h = ((h.shown, h.is_run, h.costs), λ d r. subst (λ x. AtMost m x (get_or work t m.nothing)) r.2 (h.worst r.0 r.1))

  pub unsolvable_best : (t : ℕ) → Unsolvable m g work trail t → IsBest m (RunCost m g t) None
  unsolvable_best t h = λ c r. h.none r.0 r.1

  pub best_solved : (t : ℕ) (r : Run) → Shows g trail t r → IsRun g t r → run_cost m g t r ≡ get_or work t m.nothing → IsBest m (RunCost m g t) (Some (get_or work t m.nothing)) → Solved m g work trail t
  best_solved t r shows is costs best = record { shown = r; shows = shows; is_run = is; costs = costs; worst = λ q is-q. best.1 _ (q, is-q, refl) }

  abbrev State : ℕ → Type 0
  State t = Solved m g work trail t ⊎ Unsolvable m g work trail t

  -- of the scopes with a flag, the run that is shown and what it costs
  abbrev run_at : (t : ℕ) (v : Bool) → (T v → State t) → Run
  run_at t true f = elim (f tt) [ inl h ↦ h.shown | inr h ↦ run (final done) ]
  run_at t false f = run (final done)

  abbrev best_at : (t : ℕ) (v : Bool) → (T v → State t) → Option C
  best_at t true f = elim (f tt) [ inl h ↦ Some (get_or work t m.nothing) | inr h ↦ None ]
  best_at t false f = None

  best_at_is : (t : ℕ) (v : Bool) (f : T v → State t) → T v → IsBest m (RunCost m g t) (best_at t v f)
  best_at_is t true f h =
      elim (f tt) as (λ w. IsBest m (RunCost m g t) (elim w [ inl h ↦ Some (get_or work t m.nothing) | inr h ↦ None ])) [ inl h ↦ solved_best t h | inr h ↦ unsolvable_best t h ]
  best_at_is t false f h = absurd h

  module _ (flag : ℕ → Bool) (known : (t : ℕ) → T (flag t) → State t) where
    abbrev pub chosen_run : ℕ → Run
    chosen_run t = run_at t (flag t) (known t)

    abbrev pub table_best : ℕ → Option C
    table_best t = best_at t (flag t) (known t)

    pub table_bests : (t : ℕ) → T (flag t) → IsBest m (RunCost m g t) (table_best t)
    table_bests t h = best_at_is t (flag t) (known t) h

  run_at_best : Laws m → (t : ℕ) (v : Bool) (f : T v → State t) → T v → (b : C) → IsBest m (RunCost m g t) (Some b) → IsRun g t (run_at t v f) × (run_cost m g t (run_at t v f) ≡ b) × Shows g trail t (run_at t v f)
  run_at_best laws t false f h b best = absurd h
  run_at_best laws t true f h b best = go (f tt)
    where
      go : (w : State t) → let r : Run = elim w [ inl h ↦ h.shown | inr h ↦ run (final done) ] in IsRun g t r × (run_cost m g t r ≡ b) × Shows g trail t r
      go (inl w) = (w.is_run, w.costs ∙ some_same (best_one laws (RunCost m g t) _ _ (solved_best t w) best), w.shows)
      go (inr w) = absurd (w.none best.0.0 best.0.1)

  -- where every scope that s calls has a flag
  module _ (laws : Laws m) (flag : ℕ → Bool) (known : (t : ℕ) → T (flag t) → State t) (s : Scope) (ready : (n t : ℕ) → slice_get s.nodes n ≡ Some (Call t) → T (flag t)) where
    pub tables_values : AreValues m g s (edge_value_lem m (table_best flag known) s)
    tables_values = value_right m g s (table_best flag known) (λ n t q. table_bests flag known t (ready n t q))

    pub tables_chosen : AreBest m g s (chosen_run flag known)
    tables_chosen n t b q best = let r = run_at_best laws t (flag t) (known t) (ready n t q) b best in (r.0, r.1)

    pub tables_shown : AreShown m g trail s (chosen_run flag known)
    tables_shown n t b q best = (run_at_best laws t (flag t) (known t) (ready n t q) b best).2

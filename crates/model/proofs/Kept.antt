-- What is shown of the scopes worked out stays shown while other sections are written.
use Rattle.std.proofs.Common.{◌≡◌, ℕ, suc, List, get_or, Some, sym, ◌∙◌, subst}
use Rattle.model.specs.declared.graph.Node.TheVariants.{Call}
use Rattle.model.specs.declared.graph.Target.{Target}
use Rattle.model.specs.declared.trail.Line.{Line}
use Rattle.std.specs.List.{slice_get}
use Rattle.model.specs.Graph.{Scope}
use Rattle.model.specs.Measures.{Measure}
use Rattle.model.specs.Best.{AtMost}
use Rattle.model.specs.Runs.{Run, Passes, Walk, Inside, IsRun, ArePasses, IsWalk, Holds, run_cost}
use Rattle.model.specs.Runs.Run.{run}
use Rattle.model.specs.Runs.Passes.{final, then}
use Rattle.model.specs.Runs.Walk.{done, step}
use Rattle.model.specs.Runs.Inside.{block, call}
use Rattle.model.specs.Trail.{Shows, PassesShown, WalkShown, InsideShown, section}
use Rattle.model.specs.Analysis.{Solved, Unsolvable}

-- every scope that s calls is in P
abbrev pub CallsIn : (ℕ → Type 0) → Scope → Type 0
CallsIn P s = (n t : ℕ) → slice_get s.nodes n ≡ Some (Call t) → P t

module _ (g : List Scope) (old new : List Line) (P : ℕ → Type 0)
    (closed : (i : ℕ) (s : Scope) → P i → slice_get g i ≡ Some s → CallsIn P s)
    (same : (i : ℕ) → P i → section new i ≡ section old i) where
  mutual
    pub shows_kept : (r : Run) (i : ℕ) → P i → IsRun g i r → Shows g old i r → Shows g new i r
    shows_kept (run ps) i p h t =
        (t.0, t.1, (t.2.0, t.2.1, same i p ∙ t.2.2, t.2.3, t.2.4), passes_kept ps h.0 (closed i h.0 p h.1) 1 h.4 t.3)

    passes_kept : (ps : Passes) (s : Scope) → CallsIn P s → (k : ℕ) → ArePasses g s k ps → PassesShown g old ps → PassesShown g new ps
    passes_kept (final w) s ok k h t = walk_kept w s ok _ _ h.0 t
    passes_kept (then w ps) s ok k h t = (walk_kept w s ok _ _ h.0.0 t.0, passes_kept ps s ok (suc k) h.1 t.1)

    walk_kept : (w : Walk) (s : Scope) → CallsIn P s → (from end : Target) → IsWalk g s from end w → WalkShown g old w → WalkShown g new w
    walk_kept done s ok from end h t = tt
    walk_kept (step i e w) s ok from end h t = (inside_kept i s ok h.0.from h.3 t.0, walk_kept w s ok h.0.to end h.4 t.1)

    inside_kept : (i : Inside) (s : Scope) → CallsIn P s → (n : ℕ) → Holds g s n i → InsideShown g old i → InsideShown g new i
    inside_kept block s ok n h t = tt
    inside_kept (call j r) s ok n h t = shows_kept r j (ok n j h.0) h.1 t

  module _ {C : Type 0} (m : Measure C) (work work' : List C) (i : ℕ) (p : P i) (e : get_or work' i m.nothing ≡ get_or work i m.nothing) where
    pub solved_kept : Solved m g work old i → Solved m g work' new i
    solved_kept h = record {
      shown = h.shown;
      shows = shows_kept h.shown i p h.is_run h.shows;
      is_run = h.is_run;
      costs = h.costs ∙ sym e;
      worst = λ r is. subst (λ c. AtMost m (run_cost m g i r) c) (sym e) (h.worst r is);
    }

    pub unsolvable_kept : Unsolvable m g work old i → Unsolvable m g work' new i
    unsolvable_kept h = record { none = h.none; nothing = e ∙ h.nothing; blank = same i p ∙ h.blank }

-- How far the search for the bound of a scope has come.
use Rattle.std.specs.Prelude.{ℕ, suc, ◌+◌, ◌-◌, ◌<◌, ◌≤◌, max, cond, List, length, take, Some, None, Option, nat_lt}
use Rattle.model.specs.Best.{IsBest}
use Rattle.model.specs.Counts.{spread, FrontCost, RunsBetween}
use Rattle.model.specs.Graph.{Scope}
use Rattle.model.specs.Measures.{Measure}
use Rattle.model.specs.Runs.{Run}
use Rattle.model.specs.Trail.{Group, SameFacts, AreRanges, unrolled}
use Rattle.model.specs.Ways.{AreFrontWays}
use Rattle.search.specs.declared.found.Costliest.{Costliest}
use Rattle.search.specs.Tables.{OnSome}
use Rattle.trail.specs.Groups.{groups_of}
use Rattle.bound.specs.declared.choice.Choice.{Choice}
use Rattle.bound.specs.declared.progress.Progress.{Progress}
use Rattle.bound.specs.Choices.{choice_cost, better_choice, IsPlaced, IsChoice}
use Rattle.bound.specs.Ranges.{cuts}

-- the choice of q passes, where the range of pass q begins with `first`
abbrev pub made_choice : {C : Type 0} → Option C → ℕ → ℕ → ℕ → Costliest C → Costliest C → Option (Choice C)
made_choice None q first whole on off = None
made_choice (Some c) q first whole on off = Some (record { cost = c; passes = q; whole = whole; first = first; on = on.way; off = off.way })

abbrev pub choice_of : {C : Type 0} → Measure C → C → Costliest C → Costliest C → ℕ → ℕ → ℕ → Option (Choice C)
choice_of m front on off first whole q = made_choice (spread m (Some front) on.cost off.cost (q - first)) q first whole on off

-- the better of the two ends of a range, if it reaches the least number of passes
abbrev pub range_choice : {C : Type 0} → Measure C → ℕ → C → Costliest C → Costliest C → ℕ → ℕ → ℕ → Option (Choice C)
range_choice m least front on off first last whole =
    cond (nat_lt last least) None (better_choice m (choice_of m front on off first whole (max least first)) (choice_of m front on off first whole last))

-- after the first `done` passes: what they cost if all go on, by which groups, and the best number of passes so far
pub record IsProgress {C : Type 0} (m : Measure C) (s : Scope) (value : ℕ → Option C) (done : ℕ) (front : Option C) (groups : List Group) (best : Option (Choice C)) : Type 0 where
  pub within : done ≤ s.most
  pub starts : 0 < done → done < s.most → SameFacts s.facts done (suc done) → ⊥
  pub few : length groups ≤ 9
  pub room : done < s.most → length groups + cuts s.facts done ≤ 8
  pub fronts : OnSome (λ f. AreRanges s 1 done groups × AreFrontWays m value s 1 (unrolled groups) f) front
  pub front_best : (g : List Scope) (i : ℕ) (chosen : ℕ → Run) → IsPlaced m s value g i chosen → IsBest m (FrontCost m g s done) front
  pub runs_best : (g : List Scope) (i : ℕ) (chosen : ℕ → Run) → IsPlaced m s value g i chosen → IsBest m (RunsBetween m g i s.least done) (choice_cost best)
  pub choice : OnSome (λ x. IsChoice m s value (take x.whole groups) x × (x.whole ≤ 8) × (x.whole ≤ length groups)) best

-- what is known of how far a search has come
abbrev pub Stands : {C : Type 0} → Measure C → Scope → (ℕ → Option C) → Progress C → Type 0
Stands m s value p = IsProgress m s value p.done p.front (groups_of p.groups) p.best

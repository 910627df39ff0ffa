-- One range more of a scope.
use Rattle.std.proofs.Common.{◌≡◌, ℕ, suc, ◌-◌, ◌≤◌, max, Bool, true, false, cond, List, Some, None, Option, refl, arith}
use Rattle.model.specs.declared.graph.Target.TheVariants.{Again, Leave}
use Rattle.model.specs.Graph.{Scope}
use Rattle.model.specs.Measures.{Measure, Laws}
use Rattle.model.specs.Best.{IsBest, joined, better}
use Rattle.model.specs.Counts.{powers, spread, FrontCost, RunsBetween, AreBests}
use Rattle.model.specs.Runs.{Run}
use Rattle.model.specs.Trail.{IsRange}
use Rattle.model.proofs.Facts.{range_bests}
use Rattle.model.proofs.Fronts.{front_next, runs_more}
use Rattle.model.proofs.Lifting.{lifted}
use Rattle.search.specs.declared.ending.Ending.TheVariants.{Again as Repeat, Leave as Exit}
use Rattle.search.specs.declared.found.Costliest.{Costliest}
use Rattle.search.specs.Found.{IsCostliest}
use Rattle.search.specs.Tables.{OnSome}
use Rattle.bound.specs.declared.choice.Choice.{Choice}
use Rattle.bound.specs.Choices.{choice_cost, better_choice, IsPlaced}

pub better_cost : {C : Type 0} (m : Measure C) (x y : Option (Choice C)) → choice_cost (better_choice m x y) ≡ better m (choice_cost x) (choice_cost y)
better_cost m None y = refl
better_cost m (Some x) None = refl
better_cost m (Some x) (Some y) = go (m.leq x.cost y.cost)
  where
    go : (v : Bool) → choice_cost (cond v (Some y) (Some x)) ≡ Some (cond v y.cost x.cost)
    go true = refl
    go false = refl

pub better_one : {C : Type 0} (m : Measure C) (P : Choice C → Type 0) (x y : Option (Choice C)) → OnSome P x → OnSome P y → OnSome P (better_choice m x y)
better_one m P None y p q = q
better_one m P (Some x) None p q = p
better_one m P (Some x) (Some y) p q = go (m.leq x.cost y.cost)
  where
    go : (v : Bool) → OnSome P (cond v (Some y) (Some x))
    go true = q
    go false = p

-- the costliest passes of the first pass of a range are those of each of its passes
module _ {C : Type 0} {m : Measure C} (laws : Laws m) (s : Scope) (value : ℕ → Option C) (d b : ℕ) (range : IsRange s (suc d) b) (on off : Costliest C)
    (again : IsCostliest m value s.edges s.facts (suc d) Repeat on) (leave : IsCostliest m value s.edges s.facts (suc d) Exit off)
    (g : List Scope) (i : ℕ) (chosen : ℕ → Run) (placed : IsPlaced m s value g i chosen) where
  pub turn_bests : AreBests m g s d b on.cost off.cost
  turn_bests =
      range_bests laws g s d b range on.cost off.cost
      (lifted laws g s value placed.vals chosen placed.bests (suc d) Again on.cost again.best)
      (lifted laws g s value placed.vals chosen placed.bests (suc d) Leave off.cost leave.best)

  module _ (front : C) (before : IsBest m (FrontCost m g s d) (Some front)) where
    -- all passes of the range go on
    pub turn_front : IsBest m (FrontCost m g s b) (joined m (Some front) (powers m on.cost (b - d)))
    turn_front = front_next laws g s d b (Some front) on.cost off.cost before turn_bests (let h = range.some in omega (arith, h))

    -- the range reaches the least number of passes: both its ends are tried
    pub turn_runs : s.least ≤ b → (x : Option C) → IsBest m (RunsBetween m g i s.least d) x →
        IsBest m (RunsBetween m g i s.least b) (better m x (better m (spread m (Some front) on.cost off.cost (max s.least (suc d) - suc d)) (spread m (Some front) on.cost off.cost (b - suc d))))
    turn_runs least x h =
        runs_more laws g s d b (Some front) on.cost off.cost before turn_bests i placed.there x (let q = range.some in omega (arith, q)) least range.within.1 h

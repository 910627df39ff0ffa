-- One scope worked out: its section shows a run that costs the bound.
use Rattle.std.proofs.Common.{◌≡◌, ℕ, suc, ◌-◌, ◌<◌, ◌≤◌, List, ◌++◌, get_or, Some, Option, sym, ap, ◌∙◌}
use Rattle.model.specs.declared.graph.Target.TheVariants.{Again, Leave}
use Rattle.model.specs.declared.trail.Line.{Line}
use Rattle.std.specs.List.{slice_get}
use Rattle.model.specs.Graph.{Scope}
use Rattle.model.specs.Measures.{Measure, Laws}
use Rattle.model.specs.Best.{IsBest, power}
use Rattle.model.specs.Runs.{Run}
use Rattle.model.specs.Runs.Run.{run}
use Rattle.model.specs.Trail.{Group, AreRanges, IsRange, unrolled, section, padded, section_lines}
use Rattle.model.specs.Ways.{RunCost, AreValues, AreBest, IsPassWay, AreFrontWays, way_cost}
use Rattle.model.specs.Analysis.{Solved}
use Rattle.model.proofs.Shown.{AreShown, AreLast, group_run}
use Rattle.model.proofs.Tables.{best_solved}

-- the run that a section is to show: whole ranges up to pass d, then the range of pass p up to p
pub record IsPlan {C : Type 0} (m : Measure C) (s : Scope) (value : ℕ → Option C) (p : ℕ) (groups : List Group) (cost : C) : Type 0 where
  pub d : ℕ
  pub b : ℕ
  pub fronts : List Group
  pub lasts : List Group
  pub on : List ℕ
  pub off : List ℕ
  pub front_cost : C
  pub on_cost : C
  pub off_cost : C
  pub parts : groups ≡ fronts ++ lasts
  pub ranges : AreRanges s 1 d fronts
  pub fronts_cost : AreFrontWays m value s 1 (unrolled fronts) front_cost
  pub range : IsRange s (suc d) b
  pub from : d < p
  pub upto : p ≤ b
  pub goes_on : suc d < p → IsPassWay s.edges s.facts (suc d) Again on × (way_cost m value on ≡ Some on_cost)
  pub leaves : IsPassWay s.edges s.facts (suc d) Leave off
  pub leave_cost : way_cost m value off ≡ Some off_cost
  pub last : AreLast s p d on off lasts
  pub costs : cost ≡ m.join (m.join front_cost (power m on_cost (p - suc d))) off_cost

pub scope_solved : {C : Type 0} {m : Measure C} → Laws m → (g : List Scope) (s : Scope) (i : ℕ) → slice_get g i ≡ Some s → (work : List C) (trail : List Line) (value : ℕ → Option C) → AreValues m g s value →
    (chosen : ℕ → Run) → AreBest m g s chosen → AreShown m g trail s chosen → (p : ℕ) (groups : List Group) → s.least ≤ p → p ≤ s.most →
    IsPlan m s value p groups (get_or work i m.nothing) → section trail i ≡ padded (section_lines s p groups) → IsBest m (RunCost m g i) (Some (get_or work i m.nothing)) → Solved m g work trail i
scope_solved {m = m} laws g s i there work trail value vals chosen bests shown p groups least most plan written best =
    let r = group_run laws g s value vals chosen bests i there plan.d plan.b p plan.fronts plan.lasts plan.on plan.off plan.front_cost plan.on_cost plan.off_cost
    plan.ranges plan.fronts_cost plan.range plan.from plan.upto least most plan.goes_on plan.leaves plan.leave_cost plan.last in
    best_solved m g work trail i (run r.0)
    (s, there, (p, plan.fronts ++ plan.lasts, written ∙ ap (λ x. padded (section_lines s p x)) plan.parts, r.3, r.4), r.5 trail shown)
    r.1 (r.2 ∙ sym plan.costs) best

-- A walk and its way: what the walk costs is at most what its way costs, and along each way there is a walk that costs as much.
use Rattle.std.proofs.Common.{◌≡◌, ℕ, List, [], ◌∷◌, Some, None, Option, sym, refl, ap, ◌∙◌, subst, ap₂}
use Rattle.model.specs.declared.graph.Node.{Node}
use Rattle.model.specs.declared.graph.Node.TheVariants.{Block, Call}
use Rattle.model.specs.declared.graph.Target.{Target}
use Rattle.model.specs.declared.graph.Target.TheVariants.{To}
use Rattle.model.specs.declared.graph.Edge.{Edge}
use Rattle.std.specs.List.{slice_get}
use Rattle.model.specs.Graph.{Scope}
use Rattle.model.specs.Measures.{Measure, Laws}
use Rattle.model.specs.Best.{AtMost, IsBest, joined}
use Rattle.model.specs.Runs.{Run, Walk, Inside, IsWalk, Holds, Meets, executed, way_of, weight, stack_of, run_cost, walk_cost, inside_cost, edge_cost}
use Rattle.model.specs.Runs.Walk.{done, step}
use Rattle.model.specs.Runs.Inside.{block, call}
use Rattle.model.specs.Ways.{IsWay, way_cost, RunCost, PassCost, WayCost, IsValue, AreValues, value_from_lem, value_of, edge_value_lem, inside_from, inside_of, walk_along, AreBest}
use Rattle.model.proofs.Powers.{at_most_self, at_most_same, join_at_most}
use Rattle.model.proofs.Bests.{none_some, some_same, joined_both, best_above}

pub edge_cost_at : {C : Type 0} (m : Measure C) (s : Scope) (e : ℕ) (x : Edge) (n : Node) → slice_get s.edges e ≡ Some x → slice_get s.nodes x.from ≡ Some n → edge_cost m s e ≡ m.of (weight n x.effect) (stack_of n)
edge_cost_at m s e x n p q = rw (p, q)

-- the way of a walk leads where the walk leads
pub way_leads : (g : List Scope) (s : Scope) (from end : Target) (w : Walk) → IsWalk g s from end w → IsWay s.edges from end (way_of w)
way_leads g s from end done h = h
way_leads g s from end (step i e w) h = (h.0, h.1, h.2, way_leads g s h.0.to end w h.4)

-- the walk along a way has that way
pub way_along : (chosen : ℕ → Run) (s : Scope) (es : List ℕ) → way_of (walk_along chosen s es) ≡ es
way_along chosen s [] = refl
way_along chosen s (e ∷ es) = ap (λ t. e ∷ t) (way_along chosen s es)

-- the values worked out from the bests of the called scopes
pub value_right : {C : Type 0} (m : Measure C) (g : List Scope) (s : Scope) (best : ℕ → Option C) →
    ((n t : ℕ) → slice_get s.nodes n ≡ Some (Call t) → IsBest m (RunCost m g t) (best t)) → AreValues m g s (edge_value_lem m best s)
value_right {C} m g s best right e x p =
    subst (λ o. IsValue m g x (slice_get s.nodes x.from) (value_of m best s o)) (sym p) (go (slice_get s.nodes x.from) refl)
  where
    go : (n : Option Node) → slice_get s.nodes x.from ≡ n → IsValue m g x n (value_from_lem m best x n)
    go None q = refl
    go (Some (Block time stack)) q = refl
    go (Some (Call t)) q = (best t, right x.from t q, refl)

module _ {C : Type 0} {m : Measure C} (laws : Laws m) (g : List Scope) (s : Scope) where
  -- an edge with what its start node holds costs at most its value
  step_at_most : (i : Inside) (e : ℕ) (x : Edge) (v : Option C) → slice_get s.edges e ≡ Some x → Holds g s x.from i → IsValue m g x (slice_get s.nodes x.from) v →
      (c : C) × (v ≡ Some c) × AtMost m (m.join (inside_cost m g i) (edge_cost m s e)) c
  step_at_most block e x v p h val = (
    _,
    subst (λ n. IsValue m g x n v) h.2 val,
    at_most_same laws (laws.left _ ∙ edge_cost_at m s e x _ p h.2),
  )
  step_at_most (call t r) e x v p h val = go val'.0 val'.1 val'.2
    where
      w : C
      w = m.of (weight (Call t) x.effect) 0

      val' : (b : Option C) × IsBest m (RunCost m g t) b × (v ≡ joined m b (Some w))
      val' = subst (λ n. IsValue m g x n v) h.0 val

      go : (b : Option C) → IsBest m (RunCost m g t) b → v ≡ joined m b (Some w) → (c : C) × (v ≡ Some c) × AtMost m (m.join (run_cost m g t r) (edge_cost m s e)) c
      go None best q = absurd (best (run_cost m g t r) (r, h.1, refl))
      go (Some b) best q = (m.join b w, q, join_at_most laws _ _ _ _ (best.1 _ (r, h.1, refl)) (at_most_same laws (edge_cost_at m s e x (Call t) p h.0)))

  -- a walk costs at most its way
  pub walk_at_most : (value : ℕ → Option C) → AreValues m g s value → (from end : Target) (w : Walk) → IsWalk g s from end w →
      (c : C) × (way_cost m value (way_of w) ≡ Some c) × AtMost m (walk_cost m g s w) c
  walk_at_most value vals from end done h = (m.nothing, refl, at_most_self laws m.nothing)
  walk_at_most value vals from end (step i e w) h =
      let a = step_at_most i e h.0 (value e) h.1 h.3 (vals e h.0 h.1) in
      let b = walk_at_most value vals h.0.to end w h.4 in
      (m.join a.0 b.0, ap₂ (joined m) a.1 b.1, join_at_most laws _ _ _ _ a.2 b.2)

  module _ (chosen : ℕ → Run) (bests : AreBest m g s chosen) where
    -- an edge with the chosen run in its start node costs its value
    step_along : (e : ℕ) (x : Edge) (n : Option Node) (v : Option C) (c : C) → slice_get s.edges e ≡ Some x → slice_get s.nodes x.from ≡ n → IsValue m g x n v → v ≡ Some c →
        Holds g s x.from (inside_from chosen n) × (m.join (inside_cost m g (inside_from chosen n)) (edge_cost m s e) ≡ c)
    step_along e x None v c p q val k = absurd (none_some (sym val ∙ k))
    step_along e x (Some (Block time stack)) v c p q val k =
        ((time, stack, q), laws.left _ ∙ edge_cost_at m s e x _ p q ∙ some_same (sym val ∙ k))
    step_along e x (Some (Call t)) v c p q val k =
        let j = joined_both m val.0 (Some (m.of (weight (Call t) x.effect) 0)) c (sym val.2 ∙ k) in
        let best = bests x.from t j.0 q (subst (IsBest m (RunCost m g t)) j.2 val.1) in
        ((q, best.0), ap₂ m.join best.1 (edge_cost_at m s e x (Call t) p q ∙ some_same j.3) ∙ j.4)

    -- the walk along a way costs what the way costs
    pub along : (value : ℕ → Option C) → AreValues m g s value → (from end : Target) (es : List ℕ) (c : C) → IsWay s.edges from end es → way_cost m value es ≡ Some c →
        IsWalk g s from end (walk_along chosen s es) × (walk_cost m g s (walk_along chosen s es) ≡ c)
    along value vals from end [] c h k = (h, some_same k)
    along value vals from end (e ∷ es) c h k =
        let x = h.0 in
        let j = joined_both m (value e) (way_cost m value es) c k in
        let a = step_along e x (slice_get s.nodes x.from) (value e) j.0 h.1 refl (vals e x h.1) j.2 in
        let b = along value vals x.to end es j.1 h.3 j.3 in
        let a' = subst (λ o. Holds g s x.from (inside_of chosen s o) × (m.join (inside_cost m g (inside_of chosen s o)) (edge_cost m s e) ≡ j.0)) (sym h.1) a in
        ((x, h.1, h.2, a'.0, b.0), ap₂ m.join a'.1 b.1 ∙ j.4)

  -- what is best of the ways of a pass is best of the passes
  pub lifted : (value : ℕ → Option C) → AreValues m g s value → (chosen : ℕ → Run) → AreBest m g s chosen → (k : ℕ) (end : Target) (x : Option C) →
      IsBest m (WayCost m value s.edges s.facts k end) x → IsBest m (PassCost m g s k end) x
  lifted value vals chosen bests k end x h = best_above laws (PassCost m g s k end) (WayCost m value s.edges s.facts k end) x up part h
    where
      up : (c : C) → PassCost m g s k end c → (d : C) × WayCost m value s.edges s.facts k end d × AtMost m c d
      up c t =
          let a = walk_at_most value vals (To 0) end t.0 t.1.0 in
          (a.0, (way_of t.0, (way_leads g s (To 0) end t.0 t.1.0, t.1.1), a.1), subst (λ v. AtMost m v a.0) t.2 a.2)

      part : (c : C) → WayCost m value s.edges s.facts k end c → PassCost m g s k end c
      part c t =
          let a = along chosen bests value vals (To 0) end t.0 c t.1.0 t.2 in
          (walk_along chosen s t.0, (a.0, subst (λ es. Meets s.facts k (executed s.edges es)) (sym (way_along chosen s t.0)) t.1.1), a.1)

-- A number of passes in a range, and the run that it stands for.
use Rattle.std.proofs.Common.{◌≡◌, ℕ, zero, suc, ◌-◌, ◌<◌, ◌≤◌, List, [], ◌∷◌, ◌++◌, Some, None, Option, sym, refl, ap, ◌∙◌, subst, ap₂, ⊎_elim, arith}
use Rattle.std.proofs.lemmas.Bool.{cases_lt, lt-ltb, le-ltb}
use Rattle.model.specs.Graph.{Scope}
use Rattle.model.specs.Measures.{Measure, Laws}
use Rattle.model.specs.Best.{joined, power}
use Rattle.model.specs.Counts.{powers, spread}
use Rattle.model.specs.Trail.{Group, AreRanges, IsRange, unrolled}
use Rattle.model.specs.Ways.{AreFrontWays}
use Rattle.model.proofs.Bests.{none_some, some_same, joined_both}
use Rattle.model.proofs.Ranges.{powers_some}
use Rattle.model.proofs.Scopes.{IsPlan}
use Rattle.model.proofs.Shown.{AreLast, group, last_alone, last_cut}
use Rattle.search.specs.declared.ending.Ending.TheVariants.{Again as Repeat, Leave as Exit}
use Rattle.search.specs.declared.found.Costliest.{Costliest}
use Rattle.search.specs.Found.{IsCostliest}
use Rattle.search.specs.Tables.{OnSome}
use Rattle.search.specs.Ways.{way_edges}
use Rattle.bound.specs.declared.choice.Choice.{Choice}
use Rattle.bound.specs.Choices.{IsChoice, last_groups}

-- the copies in a range: of a cost that is there, or none
copies : {C : Type 0} {m : Measure C} → Laws m → (o : Option C) (j : ℕ) (y : C) → powers m o j ≡ Some y → (c : C) × (y ≡ power m c j) × (0 < j → o ≡ Some c)
copies {m = m} laws None zero y q = (m.nothing, sym (some_same q), λ h. absurd (omega arith))
copies laws None (suc j) y q = absurd (none_some q)
copies laws (Some c) j y q = (c, sym (some_same (sym (powers_some laws c j) ∙ q)), λ h. refl)

on_some : {A : Type 0} (P : A → Type 0) (o : Option A) (a : A) → o ≡ Some a → OnSome P o → P a
on_some P o a q h = subst (OnSome P) q h

module _ {C : Type 0} {m : Measure C} (laws : Laws m) (s : Scope) (value : ℕ → Option C) (d b : ℕ) (range : IsRange s (suc d) b) (on off : Costliest C)
    (again : IsCostliest m value s.edges s.facts (suc d) Repeat on) (leave : IsCostliest m value s.edges s.facts (suc d) Exit off)
    (fronts : List Group) (front : C) (ranges : AreRanges s 1 d fronts) (fronts_cost : AreFrontWays m value s 1 (unrolled fronts) front) where
  pub candidate : (q n : ℕ) (c : C) → d < q → q ≤ b → s.least ≤ q → spread m (Some front) on.cost off.cost (q - suc d) ≡ Some c →
      IsChoice m s value fronts (record { cost = c; passes = q; whole = n; first = suc d; on = on.way; off = off.way })
  candidate q n c lo hi least e =
      let j = joined_both m (joined m (Some front) (powers m on.cost (q - suc d))) off.cost c e in
      let k = joined_both m (Some front) (powers m on.cost (q - suc d)) j.0 j.2 in
      let t = copies laws on.cost (q - suc d) k.1 k.3 in
      let l = on_some _ off.cost j.1 j.3 leave.shown in
      record {
        d = d;
        b = b;
        front_cost = front;
        on_cost = t.0;
        off_cost = j.1;
        begins = refl;
        ranges = ranges;
        fronts_cost = fronts_cost;
        range = range;
        from = lo;
        upto = hi;
        goes_on = λ h. on_some _ on.cost t.0 (t.2 (omega arith)) again.shown;
        leaves = l.0;
        leave_cost = l.1;
        costs = sym (ap₂ (λ x y. m.join (m.join x y) j.1) (some_same k.2) (sym t.1) ∙ ap (λ x. m.join x j.1) k.4 ∙ j.4);
        least = least;
      }

-- the groups of the run that a choice stands for
module _ {C : Type 0} {m : Measure C} (s : Scope) (value : ℕ → Option C) (fronts : List Group) (x : Choice C) (h : IsChoice m s value fronts x) where
  last_right : AreLast s x.passes h.d (way_edges x.on) (way_edges x.off) (last_groups x.first x.passes (way_edges x.on) (way_edges x.off))
  last_right = subst (λ f. AreLast s x.passes h.d (way_edges x.on) (way_edges x.off) (last_groups f x.passes (way_edges x.on) (way_edges x.off))) (sym h.begins) (go x.passes h.from h.upto)
    where
      go : (p : ℕ) → h.d < p → p ≤ h.b → AreLast s p h.d (way_edges x.on) (way_edges x.off) (last_groups (suc h.d) p (way_edges x.on) (way_edges x.off))
      go p lo hi =
          ⊎_elim
          (λ l. rw (lt-ltb (suc h.d) p l) (last_cut s p h.d h.b (way_edges x.on) (way_edges x.off) h.range l hi))
          (λ l. rw (le-ltb (suc h.d) p l) (let e : suc h.d ≡ p = omega arith in subst (λ q. AreLast s q h.d (way_edges x.on) (way_edges x.off) (group q q (way_edges x.off) ∷ [])) e (last_alone s h.d (way_edges x.on) (way_edges x.off))))
          (cases_lt (suc h.d) p)

  pub choice_plan : IsPlan m s value x.passes (fronts ++ last_groups x.first x.passes (way_edges x.on) (way_edges x.off)) x.cost
  choice_plan = record {
    d = h.d;
    b = h.b;
    fronts = fronts;
    lasts = last_groups x.first x.passes (way_edges x.on) (way_edges x.off);
    on = way_edges x.on;
    off = way_edges x.off;
    front_cost = h.front_cost;
    on_cost = h.on_cost;
    off_cost = h.off_cost;
    parts = refl;
    ranges = h.ranges;
    fronts_cost = h.fronts_cost;
    range = h.range;
    from = h.from;
    upto = h.upto;
    goes_on = h.goes_on;
    leaves = h.leaves;
    leave_cost = h.leave_cost;
    last = last_right;
    costs = h.costs;
  }

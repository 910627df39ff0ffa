-- The best walk on from a node, one edge out of it after the other.
use Rattle.std.proofs.Common.{◌≡◌, ℕ, suc, ◌<◌, ◌≤◌, Bool, true, false, cond, ◌⊎◌, List, [], ◌∷◌, Some, None, Option, sym, refl, ap, ◌∙◌, subst, ap₂, inl, inr, ⊎_elim, arith}
use Rattle.std.specs.List.{slice_get}
use Rattle.std.proofs.lemmas.Bool.{cases_eq, cases_lt}
use Rattle.model.specs.declared.graph.Target.{Target}
use Rattle.model.specs.declared.graph.Target.TheVariants.{To, Again, Leave}
use Rattle.model.specs.declared.graph.Edge.{Edge}
use Rattle.model.specs.Measures.{Measure, Laws}
use Rattle.model.specs.Best.{AtMost, IsBest, joined, better}
use Rattle.model.specs.Ways.{IsWay, way_cost}
use Rattle.model.proofs.Bests.{some_same, joined_both, best_same, best_join, best_either, best_only}
use Rattle.model.proofs.Powers.{at_most_same}
use Rattle.search.specs.declared.ending.Ending.{Ending}
use Rattle.search.specs.declared.ending.Ending.TheVariants.{Again as Repeat, Leave as Exit}
use Rattle.search.specs.declared.step.Step.{Step}
use Rattle.search.specs.Endings.{stop}
use Rattle.search.specs.Walks.{TailCost}
use Rattle.search.specs.Tables.{entry, offer, cost_of_lem, costlier, OnSome}

-- the number of a target, to tell targets apart
to_same : {a b : ℕ} → To a ≡ To b → a ≡ b
to_same e = cc

stop_not_to : (end : Ending) (k : ℕ) → To k ≡ stop end → ⊥
stop_not_to Repeat k e = let z : ◌≡◌ {A = ℕ} 0 1 = cc in omega arith
stop_not_to Exit k e = let z : ◌≡◌ {A = ℕ} 0 1 = cc in omega arith

again_leave : Again ≡ Leave → ⊥
again_leave e = let z : ◌≡◌ {A = ℕ} 0 1 = cc in omega arith

not_to : (end : Ending) (k : ℕ) → stop end ≡ To k → ⊥
not_to end k e = stop_not_to end k (sym e)

-- what lies beyond an edge
abbrev tail_of : {C : Type 0} → Measure C → Target → Ending → List C → List (Option ℕ) → Option C
tail_of m (To v) end table choices = entry table choices v
tail_of m Again Repeat table choices = Some m.nothing
tail_of m Again Exit table choices = None
tail_of m Leave Repeat table choices = None
tail_of m Leave Exit table choices = Some m.nothing

offer_is : {C : Type 0} {m : Measure C} (laws : Laws m) (o : Option C) (t : Target) (end : Ending) (table : List C) (choices : List (Option ℕ)) → offer m o t end table choices ≡ joined m o (tail_of m t end table choices)
offer_is laws None t end table choices = refl
offer_is laws (Some a) (To v) end table choices = refl
offer_is laws (Some a) Again Repeat table choices = ap Some (sym (laws.right a))
offer_is laws (Some a) Again Exit table choices = refl
offer_is laws (Some a) Leave Repeat table choices = refl
offer_is laws (Some a) Leave Exit table choices = ap Some (sym (laws.right a))

module _ {C : Type 0} {m : Measure C} (laws : Laws m) (value : ℕ → Option C) (edges : List Edge) (end : Ending) where
  -- what walks cost that begin with edge e
  abbrev pub EdgeCost : ℕ → Edge → C → Type 0
  EdgeCost e x c = (a : C) × (b : C) × (value e ≡ Some a) × TailCost m value edges (stop end) x.to b × (c ≡ m.join a b)

  -- what walks from node k cost whose first edge has a number below i
  abbrev pub FromBelow : ℕ → ℕ → C → Type 0
  FromBelow k i c = (e : ℕ) × (x : Edge) × (e < i) × (slice_get edges e ≡ Some x) × (x.from ≡ k) × EdgeCost e x c

  -- at the ending nothing is left; at the other ending there is no way on
  done_at_most : (d : C) (es : List ℕ) → IsWay edges (stop end) (stop end) es → way_cost m value es ≡ Some d → AtMost m d m.nothing
  done_at_most d [] w q = at_most_same laws (sym (some_same q))
  done_at_most d (e ∷ es) w q = absurd (not_to end w.0.from w.2)

  tail_done : IsBest m (TailCost m value edges (stop end) (stop end)) (Some m.nothing)
  tail_done = (([], refl, refl), λ d t. done_at_most d t.0 t.1 t.2)

  no_way : (t : Target) → (t ≡ stop end → ⊥) → ((k : ℕ) → t ≡ To k → ⊥) → (es : List ℕ) → IsWay edges t (stop end) es → ⊥
  no_way t other nowhere [] w = other w
  no_way t other nowhere (e ∷ es) w = nowhere w.0.from w.2

  module _ (table : List C) (choices : List (Option ℕ)) where
    tail_best : (t : Target) → ((v : ℕ) → t ≡ To v → IsBest m (TailCost m value edges (stop end) (To v)) (entry table choices v)) →
        IsBest m (TailCost m value edges (stop end) t) (tail_of m t end table choices)
    tail_best t above = go t end refl above
      where
        go : (t : Target) (f : Ending) → f ≡ end → ((v : ℕ) → t ≡ To v → IsBest m (TailCost m value edges (stop end) (To v)) (entry table choices v)) →
            IsBest m (TailCost m value edges (stop end) t) (tail_of m t f table choices)
        go (To v) f p h = h v refl
        go Again Repeat p h = subst (λ z. IsBest m (TailCost m value edges (stop end) z) (Some m.nothing)) (ap stop (sym p)) tail_done
        go Again Exit p h = λ c w. no_way Again (λ q. again_leave (q ∙ ap stop (sym p))) (λ k q. not_to Repeat k q) w.0 w.1
        go Leave Repeat p h = λ c w. no_way Leave (λ q. again_leave (ap stop p ∙ sym q)) (λ k q. not_to Exit k q) w.0 w.1
        go Leave Exit p h = subst (λ z. IsBest m (TailCost m value edges (stop end) z) (Some m.nothing)) (ap stop (sym p)) tail_done

    -- what an edge offers is the best of the walks that begin with it
    pub offer_best : (e : ℕ) (x : Edge) → ((v : ℕ) → x.to ≡ To v → IsBest m (TailCost m value edges (stop end) (To v)) (entry table choices v)) →
        IsBest m (EdgeCost e x) (offer m (value e) x.to end table choices)
    offer_best e x above =
        subst (IsBest m (EdgeCost e x)) (sym (offer_is laws (value e) x.to end table choices))
        (best_join laws (λ a. value e ≡ Some a) (TailCost m value edges (stop end) x.to) (value e) (tail_of m x.to end table choices) (best_only laws (value e)) (tail_best x.to above))

  -- no edge yet
  pub below_none : (k : ℕ) → IsBest m (FromBelow k 0) None
  below_none k = λ c t. omega (arith, t.2)

  -- one edge more: those between have another start
  pub below_more : (k i e : ℕ) (x : Edge) (o b : Option C) → i ≤ e → slice_get edges e ≡ Some x → x.from ≡ k → ((j : ℕ) (y : Edge) → i ≤ j → j < e → slice_get edges j ≡ Some y → y.from ≡ k → ⊥) →
      IsBest m (EdgeCost e x) o → IsBest m (FromBelow k i) b → IsBest m (FromBelow k (suc e)) (better m o b)
  below_more k i e x o b low there starts skipped bo bb =
      best_same laws (FromBelow k (suc e)) (λ c. EdgeCost e x c ⊎ FromBelow k i c) (better m o b) to back (best_either laws (EdgeCost e x) (FromBelow k i) o b bo bb)
    where
      to : (c : C) → FromBelow k (suc e) c → EdgeCost e x c ⊎ FromBelow k i c
      to c (j, y, l, n, f, w) =
          ⊎_elim
          (λ h. inr (j, y, h, n, f, w))
          (λ h. ⊎_elim (λ q. inl (subst (λ (z : ℕ × Edge). EdgeCost z.0 z.1 c) (ap₂ (λ p r. (p, r)) q (some_same (sym n ∙ ap (slice_get edges) q ∙ there))) w)) (λ q. absurd (skipped j y h (omega arith) n f)) (cases_eq j e))
          (cases_lt j i)

      back : (c : C) → EdgeCost e x c ⊎ FromBelow k i c → FromBelow k (suc e) c
      back c t = ⊎_elim (λ w. (e, x, omega arith, there, starts, w)) (λ w. (w.0, w.1, omega (arith, w.2), w.3, w.4, w.5)) t

  -- all edges out of the node: the walks on from it
  pub below_all : (k i : ℕ) (b : Option C) → ((j : ℕ) (y : Edge) → i ≤ j → slice_get edges j ≡ Some y → y.from ≡ k → ⊥) → IsBest m (FromBelow k i) b → IsBest m (TailCost m value edges (stop end) (To k)) b
  below_all k i b rest h = best_same laws (TailCost m value edges (stop end) (To k)) (FromBelow k i) b to back h
    where
      to : (c : C) → TailCost m value edges (stop end) (To k) c → FromBelow k i c
      to c ([], w, q) = absurd (stop_not_to end k w)
      to c (e ∷ es, w, q) =
          let j = joined_both m (value e) (way_cost m value es) c q in
          let f : w.0.from ≡ k = sym (to_same w.2) in
          ⊎_elim (λ l. (e, w.0, l, w.1, f, (j.0, j.1, j.2, (es, w.3, j.3), sym j.4))) (λ l. absurd (rest e w.0 l w.1 f)) (cases_lt e i)

      back : (c : C) → FromBelow k i c → TailCost m value edges (stop end) (To k) c
      back c (e, x, l, n, f, (a, b, va, (es, w, q), s)) = (e ∷ es, (x, n, ap To (sym f), w), ap₂ (joined m) va q ∙ ap Some (sym s))

-- the costlier step costs the better of the two
pub costlier_cost : {C : Type 0} (m : Measure C) (b : Option (Step C)) (o : Option C) (e : ℕ) → cost_of_lem (costlier m b o e) ≡ better m o (cost_of_lem b)
costlier_cost m b None e = refl
costlier_cost m None (Some a) e = refl
costlier_cost m (Some s) (Some a) e = go (m.leq a s.cost)
  where
    go : (v : Bool) → cost_of_lem (cond v (Some s) (Some (record { cost = a; edge = e }))) ≡ Some (cond v s.cost a)
    go true = refl
    go false = refl

pub costlier_some : {C : Type 0} (m : Measure C) (P : Step C → Type 0) (b : Option (Step C)) (o : Option C) (e : ℕ) → OnSome P b → ((c : C) → o ≡ Some c → P (record { cost = c; edge = e })) → OnSome P (costlier m b o e)
costlier_some m P b None e h k = h
costlier_some m P None (Some a) e h k = k a refl
costlier_some m P (Some s) (Some a) e h k = go (m.leq a s.cost)
  where
    go : (v : Bool) → OnSome P (cond v (Some s) (Some (record { cost = a; edge = e })))
    go true = h
    go false = k a refl

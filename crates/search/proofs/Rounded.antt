-- A round of the search, and all of them.
use Rattle.std.proofs.Common.{◌≡◌, ℕ, ◌+◌, ◌^◌, ◌<◌, ◌≤◌, Bool, true, false, cond, ◌⊎◌, List, [], ◌∷◌, length, get_or, is_some, Some, None, Option, sym, refl, ap, ◌∙◌, subst, inl, inr, ⊎_elim, arith}
use Rattle.std.proofs.lemmas.Bool.{cases_lt, both_ways}
use Rattle.model.specs.declared.graph.Target.TheVariants.{To}
use Rattle.model.specs.Measures.{Measure, Laws}
use Rattle.model.specs.Best.{IsBest, better}
use Rattle.model.specs.Ways.{IsWay, WayCost}
use Rattle.model.proofs.Bests.{none_some, best_same, best_either}
use Rattle.search.specs.declared.ending.Ending.{Ending}
use Rattle.search.specs.declared.flow.Flow.{Flow}
use Rattle.search.specs.declared.found.Costliest.{Costliest}
use Rattle.row.specs.declared.row.Row.{Row}
use Rattle.search.specs.Endings.{stop}
use Rattle.search.specs.Flows.{edges_of, facts_of}
use Rattle.search.specs.Found.{IsShown, IsCostliest, IsRoundBest, costlier_by, costlier_of_lem}
use Rattle.search.specs.Rounds.{useful, RoundCost, AreUsable}
use Rattle.std.specs.List.{slice_get}
use Rattle.search.specs.Tables.{OnSome, kept_by, entry, IsEntry}
use Rattle.search.specs.Walks.{TailCost, masked}
use Rattle.search.specs.Ways.{way_edges, Follows}
use Rattle.search.proofs.Granted.{to_stop}
use Rattle.search.proofs.Held.{flow_forward}
use Rattle.search.proofs.Splits.{tail_round, round_tail, walk_round, round_way, round_pass, pass_round}
use Rattle.search.proofs.Walked.{followed}

module _ {C : Type 0} {m : Measure C} (laws : Laws m) (value : ℕ → Option C) (f : Flow) (k r : ℕ) (end : Ending) (w : Row ℕ 32) where
  -- without nodes there is no way
  no_way : f.nodes ≡ 0 → (es : List ℕ) → IsWay (edges_of f) (To 0) (stop end) es → ⊥
  no_way none [] v = to_stop end 0 v
  no_way none (e ∷ es) v = let l = (flow_forward f e v.0 v.1).0 in omega (arith, l)

  pub round_empty : f.nodes ≡ 0 → way_edges w ≡ [] → IsRoundBest m value (edges_of f) (facts_of f) k end r (record { cost = None; way = w })
  round_empty none blank = record { best = λ c t. no_way none t.0 t.1; shown = tt; blank = λ q. blank }

  module _ (usable : List Bool) (right : AreUsable (edges_of f) (facts_of f) k r usable) (table : List C) (choices : List (Option ℕ))
      (entries : (j : ℕ) → j < f.nodes → IsEntry m (masked value usable) (edges_of f) end table choices j) (some : 0 < f.nodes) where
    round_best_lem : (o : Option C) → o ≡ entry table choices 0 → IsBest m (RoundCost m value (edges_of f) (facts_of f) k r (stop end)) o
    round_best_lem o q =
        best_same laws (RoundCost m value (edges_of f) (facts_of f) k r (stop end)) (TailCost m (masked value usable) (edges_of f) (stop end) (To 0)) o
        (round_tail m value (edges_of f) (facts_of f) k r usable right (stop end)) (tail_round m value (edges_of f) (facts_of f) k r usable right (stop end))
        (subst (IsBest m (TailCost m (masked value usable) (edges_of f) (stop end) (To 0))) (sym q) (entries 0 some).best)

    pub round_none : None ≡ entry table choices 0 → way_edges w ≡ [] → IsRoundBest m value (edges_of f) (facts_of f) k end r (record { cost = None; way = w })
    round_none q blank = record { best = round_best_lem None q; shown = tt; blank = λ p. blank }

    pub round_some : (c : C) → Some c ≡ entry table choices 0 → Follows (edges_of f) choices (To 0) (way_edges w) → IsRoundBest m value (edges_of f) (facts_of f) k end r (record { cost = Some c; way = w })
    round_some c q follows =
        let v = followed laws (masked value usable) f end table choices entries (way_edges w) 0 some follows c (sym q) in
        let u = walk_round m value (edges_of f) (facts_of f) k r usable right (stop end) (way_edges w) c v.0 v.1 in
        record {
          best = round_best_lem (Some c) q;
          shown = (round_way m value (edges_of f) (facts_of f) k r end (way_edges w) v.0 u.0, u.1);
          blank = λ p. absurd (none_some (sym p));
        }

-- where an entry is there, so is the choice
pub entry_there : {C : Type 0} (table : List C) (choices : List (Option ℕ)) (c : C) → Some c ≡ entry table choices 0 → is_some (get_or choices 0 None) ≡ true
entry_there table choices c q = go (get_or choices 0 None) refl q
  where
    go : (o : Option ℕ) → get_or choices 0 None ≡ o → Some c ≡ entry table choices 0 → is_some o ≡ true
    go None p q = absurd (none_some (sym (q ∙ ap (λ o. kept_by o (slice_get table 0)) p)))
    go (Some e) p q = refl

-- the costlier of two is one of them, and costs the better of their costs
costlier_by_cost : {C : Type 0} (m : Measure C) (x y : Costliest C) (a b : Option C) → x.cost ≡ a → y.cost ≡ b → (costlier_by m a b x y).cost ≡ better m b a
costlier_by_cost m x y a None p q = p
costlier_by_cost m x y None (Some b) p q = q
costlier_by_cost m x y (Some a) (Some b) p q = go (m.leq b a)
  where
    go : (v : Bool) → (cond v x y).cost ≡ Some (cond v a b)
    go true = p
    go false = q

costlier_by_one : {C : Type 0} (m : Measure C) (x y : Costliest C) (a b : Option C) (P : Costliest C → Type 0) → P x → P y → P (costlier_by m a b x y)
costlier_by_one m x y a None P p q = p
costlier_by_one m x y None (Some b) P p q = q
costlier_by_one m x y (Some a) (Some b) P p q = go (m.leq b a)
  where
    go : (v : Bool) → P (cond v x y)
    go true = p
    go false = q

module _ {C : Type 0} {m : Measure C} (laws : Laws m) (value : ℕ → Option C) (f : Flow) (k : ℕ) (end : Ending) where
  -- what the ways of the useful rounds below number i cost
  abbrev pub RoundsBelow : ℕ → C → Type 0
  RoundsBelow i c = (r : ℕ) × (r < i) × (useful (facts_of f) k r ≡ true) × RoundCost m value (edges_of f) (facts_of f) k r (stop end) c

  -- the best of the rounds so far
  pub record AreRounds (i : ℕ) (x : Costliest C) : Type 0 where
    pub best : IsBest m (RoundsBelow i) x.cost
    pub shown : OnSome (IsShown m value (edges_of f) (facts_of f) k end (way_edges x.way)) x.cost
    pub blank : x.cost ≡ None → way_edges x.way ≡ []

  pub rounds_none : (w : Row ℕ 32) → way_edges w ≡ [] → AreRounds 0 (record { cost = None; way = w })
  rounds_none w q = record { best = λ c t. omega (arith, t.1); shown = tt; blank = λ p. q }

  pub rounds_skip : (i : ℕ) (x : Costliest C) → false ≡ useful (facts_of f) k i → AreRounds i x → AreRounds (i + 1) x
  rounds_skip i x out h = record {
    best = best_same laws (RoundsBelow (i + 1)) (RoundsBelow i) x.cost
        (λ c t. (t.0, lt t.0 t.1 t.2, t.2, t.3))
        (λ c t. (t.0, omega (arith, t.1), t.2, t.3)) h.best;
    shown = h.shown;
    blank = h.blank;
  }
    where
      lt : (r : ℕ) → r < i + 1 → useful (facts_of f) k r ≡ true → r < i
      lt r l u = ⊎_elim (λ h. h) (λ h. absurd (let e : r ≡ i = omega arith in both_ways (useful (facts_of f) k i) (sym out) (subst (λ q. useful (facts_of f) k q ≡ true) e u))) (cases_lt r i)

  pub rounds_more : (i : ℕ) (x y : Costliest C) → true ≡ useful (facts_of f) k i → IsRoundBest m value (edges_of f) (facts_of f) k end i y → AreRounds i x → AreRounds (i + 1) (costlier_of_lem m x y)
  rounds_more i x y within new h = record {
    best = subst (IsBest m (RoundsBelow (i + 1))) (sym (costlier_by_cost m x y x.cost y.cost refl refl))
        (best_same laws (RoundsBelow (i + 1)) (λ c. RoundCost m value (edges_of f) (facts_of f) k i (stop end) c ⊎ RoundsBelow i c) (better m y.cost x.cost) to back
        (best_either laws (RoundCost m value (edges_of f) (facts_of f) k i (stop end)) (RoundsBelow i) y.cost x.cost new.best h.best));
    shown = costlier_by_one m x y x.cost y.cost (λ z. OnSome (IsShown m value (edges_of f) (facts_of f) k end (way_edges z.way)) z.cost) h.shown new.shown;
    blank = costlier_by_one m x y x.cost y.cost (λ z. z.cost ≡ None → way_edges z.way ≡ []) h.blank new.blank;
  }
    where
      to : (c : C) → RoundsBelow (i + 1) c → RoundCost m value (edges_of f) (facts_of f) k i (stop end) c ⊎ RoundsBelow i c
      to c (r, l, u, t) = ⊎_elim (λ q. inr (r, q, u, t)) (λ q. inl (let e : r ≡ i = omega arith in subst (λ j. RoundCost m value (edges_of f) (facts_of f) k j (stop end) c) e t)) (cases_lt r i)

      back : (c : C) → RoundCost m value (edges_of f) (facts_of f) k i (stop end) c ⊎ RoundsBelow i c → RoundsBelow (i + 1) c
      back c t = ⊎_elim (λ q. (i, omega arith, sym within, q)) (λ q. (q.0, omega (arith, q.1), q.2, q.3)) t

  pub rounds_all : (i : ℕ) (x : Costliest C) → 2 ^ length (facts_of f) ≤ i → AreRounds i x → IsCostliest m value (edges_of f) (facts_of f) k end x
  rounds_all i x enough h = record {
    best = best_same laws (WayCost m value (edges_of f) (facts_of f) k (stop end)) (RoundsBelow i) x.cost
        (λ c t. let r = pass_round m value (edges_of f) (facts_of f) k f.nodes (flow_forward f) end c t in (r.0, omega (arith, r.1), r.2, r.3))
        (λ c t. round_pass m value (edges_of f) (facts_of f) k t.0 end c t.3) h.best;
    shown = h.shown;
    blank = h.blank;
  }

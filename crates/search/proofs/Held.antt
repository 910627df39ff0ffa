-- What a flow is known to hold, where the search reads it.
use Rattle.std.proofs.Common.{◌≡◌, ℕ, suc, ◌+◌, ◌<◌, List, get_or, Some, None, Option, sym, refl, ap, ◌∙◌, subst, add-one, arith, length-take}
use Rattle.std.proofs.lemmas.Option.{slice_get_within, get_or_from_slice_get}
use Rattle.model.specs.declared.graph.Edge.{Edge}
use Rattle.model.specs.declared.graph.Target.TheVariants.{To}
use Rattle.model.specs.Measures.{Measure, Laws}
use Rattle.model.specs.Best.{IsBest}
use Rattle.search.specs.declared.flow.Flow.{Flow}
use Rattle.search.specs.Flows.{edges_of}
use Rattle.search.specs.Walks.{Forward, TailCost, exit_from}
use Rattle.search.specs.declared.ending.Ending.{Ending}
use Rattle.search.specs.declared.step.Step.{Step}
use Rattle.search.specs.Endings.{stop}
use Rattle.search.specs.Tables.{entry, offer, cost_of_lem, costlier, OnSome, IsStep}
use Rattle.search.proofs.Chains.{IsExit, exit_some, kept_next, past}
use Rattle.search.proofs.Forwards.{forward_is}
use Rattle.search.proofs.Steps.{FromBelow, offer_best, below_more, costlier_cost, costlier_some}

pub flow_forward : (f : Flow) → Forward (edges_of f) f.nodes
flow_forward f = forward_is f.nodes (edges_of f) f.forward

-- the next edge out of node k from number i on
pub record IsTurn (f : Flow) (k i e : ℕ) : Type 0 where
  pub exit : IsExit (edges_of f) k i e
  pub small : e < 96
  pub item : (d : Edge) → get_or (edges_of f) e d ≡ exit.edge
  pub next : get_or f.exits.next e None ≡ exit_from (edges_of f) k (suc e)

pub turn : (f : Flow) (k i e : ℕ) → exit_from (edges_of f) k i ≡ Some e → IsTurn f k i e
turn f k i e h =
    let x = exit_some (edges_of f) k i e h in
    record {
      exit = x;
      small = let r = slice_get_within (edges_of f) e x.edge x.there in omega (arith, simp length-take at r, f.edges.short);
      item = λ d. get_or_from_slice_get (edges_of f) e x.edge d x.there;
      next = kept_next (edges_of f) f.exits.next f.nexts e x.edge x.there ∙ ap (λ j. exit_from (edges_of f) j (e + 1)) x.starts ∙ ap (exit_from (edges_of f) k) (add-one e);
    }

pub turn_at : (f : Flow) (k e : ℕ) (o : Option ℕ) (P : ℕ → Type 0) (w : (i : ℕ) × (o ≡ exit_from (edges_of f) k i) × P i) → o ≡ Some e → IsTurn f k w.0 e
turn_at f k e o P w is = turn f k w.0 e (sym w.1 ∙ is)

-- where the edge of a turn leads
pub turn_to : (f : Flow) (k i e : ℕ) (t : IsTurn f k i e) (v : ℕ) → t.exit.edge.to ≡ To v → (k < v) × (v < f.nodes)
turn_to f k i e t v h =
    let r = (flow_forward f e t.exit.edge t.exit.there).1 v h in
    let s = t.exit.starts in
    (omega (arith, r.0), r.1)

-- the number of edges left falls
pub turn_less : (f : Flow) (k i e : ℕ) → IsTurn f k i e → past 96 (get_or f.exits.next e None) < past 96 (Some e)
turn_less f k i e t = go (get_or f.exits.next e None) refl
  where
    go : (o : Option ℕ) → get_or f.exits.next e None ≡ o → past 96 o < past 96 (Some e)
    go None q = omega (arith, t.small)
    go (Some j) q = let x = exit_some (edges_of f) k (suc e) j (sym t.next ∙ q) in omega (arith, x.from, t.small)

-- one edge more of a node
module _ {C : Type 0} {m : Measure C} (laws : Laws m) (value : ℕ → Option C) (f : Flow) (end : Ending) (table : List C) (choices : List (Option ℕ)) (k i e : ℕ) (t : IsTurn f k i e)
    (above : (v : ℕ) → k < v → v < f.nodes → IsBest m (TailCost m value (edges_of f) (stop end) (To v)) (entry table choices v)) (best : Option (Step C)) where
  pub turn_best : IsBest m (FromBelow laws value (edges_of f) end k i) (cost_of_lem best) →
      IsBest m (FromBelow laws value (edges_of f) end k (suc e)) (cost_of_lem (costlier m best (offer m (value e) t.exit.edge.to end table choices) e))
  turn_best h =
      let x = t.exit in
      subst (IsBest m (FromBelow laws value (edges_of f) end k (suc e))) (sym (costlier_cost m best (offer m (value e) x.edge.to end table choices) e))
      (below_more laws value (edges_of f) end k i e x.edge (offer m (value e) x.edge.to end table choices) (cost_of_lem best) x.from x.there x.starts x.skipped
      (offer_best laws value (edges_of f) end table choices e x.edge (λ v q. let r = turn_to f k i e t v q in above v r.0 r.1)) h)

  pub turn_linked : OnSome (IsStep m value (edges_of f) end table choices k) best →
      OnSome (IsStep m value (edges_of f) end table choices k) (costlier m best (offer m (value e) t.exit.edge.to end table choices) e)
  turn_linked h =
      costlier_some m (IsStep m value (edges_of f) end table choices k) best (offer m (value e) t.exit.edge.to end table choices) e h
      (λ c q. (t.exit.edge, t.exit.there, t.exit.starts, q))

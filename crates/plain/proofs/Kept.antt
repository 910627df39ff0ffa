-- What is known of the scopes of a graph that keeps the rules, where they are copied and used.
use Rattle.std.proofs.Common.{◌≡◌, ℕ, ◌≤◌, List, length, Some, None, Option, sym, refl, ◌∙◌, subst}
use Rattle.std.specs.List.{slice_get}
use Rattle.model.specs.declared.graph.Node.TheVariants.{Call}
use Rattle.model.specs.Best.{IsBest}
use Rattle.model.specs.Graph.{Scope}
use Rattle.model.specs.Measures.{Measure}
use Rattle.model.specs.Rules.{KeepsFrom}
use Rattle.model.specs.Trail.{IsCut}
use Rattle.model.specs.Ways.{RunCost, IsValue, AreValues, edge_value_lem}
use Rattle.model.proofs.Bests.{some_same}
use Rattle.model.proofs.Lifting.{value_right}
use Rattle.rules.proofs.Kept.{few_nodes, few_edges, few_facts, start_there, target_there, leads_forward_lem, first_last}
use Rattle.search.specs.Flows.{IsFlow}
use Rattle.plain.specs.declared.plain_scope.PlainScope.{PlainScope}
use Rattle.plain.specs.Copies.{scope_of, Copied}
use Rattle.plain.specs.Ranges.{RangeEnds}
use Rattle.plain.specs.Values.{capped}
use Rattle.plain.proofs.Weights.{values_same, kept_weights}

module _ (g : List Scope) (kept : KeepsFrom 22 g) (i : ℕ) (s : Scope) (is : slice_get g i ≡ Some s) where
  is_flow : IsFlow (length s.nodes) s.edges s.facts
  is_flow = record {
    few_nodes = few_nodes g kept i s is;
    few_edges = few_edges g kept i s is;
    few_facts = few_facts g kept i s is;
    forward = λ e x q. (start_there g kept i s is e x q, λ v t. (leads_forward_lem g kept i s is e x q v t, target_there g kept i s is e x q v t));
  }

  -- it is copied
  pub copied_there : (r : Option PlainScope) → Copied g i r → (p : PlainScope) × (r ≡ Some p) × (scope_of p ≡ s)
  copied_there None h = absurd (h s is is_flow)
  copied_there (Some p) h = (p, refl, some_same (sym h ∙ is))

  -- the ends of its ranges are found
  pub range_there : (a b : ℕ) → a ≤ s.most → RangeEnds s a b → IsCut s.facts a s.most b
  range_there a b h ends = ends h (λ j f q. first_last g kept i s is j f q)

  -- its edges have their values, where the bests of the called scopes are known
  pub values_right : {C : Type 0} (m : Measure C) (best : ℕ → Option C) → ((n t : ℕ) → slice_get s.nodes n ≡ Some (Call t) → IsBest m (RunCost m g t) (best t)) →
      AreValues m g s (edge_value_lem (capped m) best s)
  values_right m best right e x q =
      subst (IsValue m g x (slice_get s.nodes x.from)) (sym (values_same m best s (kept_weights g kept i s is).light e)) (value_right m g s best right e x q)

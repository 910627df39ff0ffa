-- The scope at place k of the order, worked out and written down, is settled.
use Rattle.std.proofs.Common.{◌≡◌, ℕ, zero, suc, ◌+◌, ◌*◌, ◌<◌, ◌≤◌, Bool, true, false, cond, leb, List, [], ◌∷◌, ◌++◌, length, get_or, drop, set, replicate, is_some, Some, None, Option, Ok, Err, Result, sym, refl, ap, ◌∙◌, subst, inl, inr, arith, get_or-set_other, get_or-set_same}
use lib.ListN.{length-replicate}
use Rattle.std.specs.List.{slice_get}
use Rattle.std.specs.Option.{IsSome}
use Rattle.std.specs.Result.{IsOk}
use Rattle.model.specs.declared.graph.Node.TheVariants.{Call}
use Rattle.model.specs.declared.trail.Line.{Line}
use Rattle.model.specs.Best.{IsBest}
use Rattle.model.specs.Graph.{Scope}
use Rattle.model.specs.Measures.{Measure, Laws}
use Rattle.model.specs.Rules.{KeepsFrom}
use Rattle.model.specs.Runs.{Run}
use Rattle.model.specs.Trail.{section, padded, section_lines, size, line}
use Rattle.model.specs.Ways.{RunCost, AreValues, edge_value_lem}
use Rattle.model.proofs.Passes.{best_no_run}
use Rattle.model.proofs.Scopes.{IsPlan, scope_solved}
use Rattle.plain.specs.Values.{bound_at, capped}
use Rattle.plain.specs.declared.plain_scope.PlainScope.{PlainScope}
use Rattle.plain.specs.Copies.{Copied}
use Rattle.plain.proofs.Kept.{copied_there, values_right}
use Rattle.rules.specs.CallOrders.{CalledFirst}
use Rattle.rules.proofs.Kept.{few_scopes, called_there, least_some, first_last}
use Rattle.search.specs.Ways.{way_edges}
use Rattle.trail.specs.Groups.{groups_of}
use Rattle.trail.specs.Sections.{written}
use Rattle.trail.proofs.Lengths.{length_section}
use Rattle.trail.proofs.Sections.{section_put}
use Rattle.bound.specs.declared.solution.Solution.{Solution}
use Rattle.bound.specs.declared.solution.Unfit.{Unfit}
use Rattle.bound.specs.Choices.{last_groups, IsPlaced}
use Rattle.bound.specs.Solves.{IsRunsBest, IsSolution, Solves}
use Rattle.bound.proofs.Candidates.{choice_plan}
use Rattle.analysis.specs.States.{AreSettled}
use Rattle.analysis.proofs.Settling.{called_before, chosen, are_best, are_shown, called_best, settled_kept, settled_more}

module _ {C : Type 0} {m : Measure C} (laws : Laws m) (g : List Scope) (kept : KeepsFrom 22 g) (order : List ℕ) (first : CalledFirst g order) (k : ℕ) (within : k < length g)
    (s : Scope) (there : slice_get g (get_or order k 0) ≡ Some s) (bounds : List C) (trail trail' : List Line) (solved : List Bool) (few : length bounds ≡ 16) (marks : length solved ≡ 16)
    (others : (j : ℕ) → (j ≡ get_or order k 0 → ⊥) → section trail' j ≡ section trail j) (settled : AreSettled m g bounds trail solved order k) where
  abbrev number : ℕ
  number = get_or order k 0

  abbrev value : ℕ → Option C
  value = edge_value_lem (capped m) (bound_at bounds solved) s

  inside : (j : ℕ) (x : Scope) → slice_get g j ≡ Some x → (n t : ℕ) → slice_get x.nodes n ≡ Some (Call t) → t < length g
  inside j x is n t q = called_there g kept j x is n t q

  below : number < 16
  below = let a = first.within k within in let b = few_scopes g kept in omega arith

  called : (n t : ℕ) → slice_get s.nodes n ≡ Some (Call t) → (l : ℕ) × (l < k) × (get_or order l 0 ≡ t)
  called = called_before g order first k s within there (inside number s there)

  vals : AreValues m g s value
  vals = values_right g kept number s there m (bound_at bounds solved) (called_best laws g bounds trail solved order k settled s called (λ n t q. let a = inside number s there n t q in let b = few_scopes g kept in omega arith))

  -- the tables after the scope is written down with this cost and this mark
  module _ (c : C) (mark : Bool) where
    still : AreSettled m g (set bounds number c) trail' (set solved number mark) order k
    still =
        settled_kept laws g order first inside bounds (set bounds number c) trail trail' solved (set solved number mark) k within
        (λ j h ne. others j ne) (λ j ne. get_or-set_other bounds number j c m.nothing ne) (λ j ne. get_or-set_other solved number j mark false ne) settled

    abbrev runs : ℕ → Run
    runs = chosen laws g (set bounds number c) trail' (set solved number mark) order k still

    placed : IsPlaced m s value g number runs
    placed = record { there = there; vals = vals; bests = are_best laws g (set bounds number c) trail' (set solved number mark) order k still s called }

    cost_there : get_or (set bounds number c) number m.nothing ≡ c
    cost_there = get_or-set_same bounds number c m.nothing (let a = below in omega arith)

    mark_there : get_or (set solved number mark) number false ≡ mark
    mark_there = get_or-set_same solved number mark false (let a = below in omega arith)

    pub no_run_settled : mark ≡ false → c ≡ m.nothing → IsRunsBest m s value None → section trail' number ≡ replicate size (line 0 0 0) → AreSettled m g (set bounds number c) trail' (set solved number mark) order (k + 1)
    no_run_settled off nothing none blank =
        settled_more m g (set bounds number c) trail' (set solved number mark) order k still
        (inr (mark_there ∙ off, record { none = best_no_run g number (none g number runs placed); nothing = cost_there ∙ nothing; blank = blank }))

    pub bound_settled : mark ≡ true → (x : Solution C) → c ≡ x.cost → IsRunsBest m s value (Some x.cost) → IsSolution m s value x → section trail' number ≡ padded (section_lines s x.passes (groups_of x.groups)) →
        AreSettled m g (set bounds number c) trail' (set solved number mark) order (k + 1)
    bound_settled on x cost best sol written =
        settled_more m g (set bounds number c) trail' (set solved number mark) order k still
        (inl (
          mark_there ∙ on,
          scope_solved laws g s number there (set bounds number c) trail' value vals runs placed.bests (are_shown laws g (set bounds number c) trail' (set solved number mark) order k still s called)
              x.passes (groups_of x.groups) (subst (λ p. s.least ≤ p) (sym sol.passes) sol.stands.least) (subst (λ p. p ≤ s.most) (sym sol.passes) (let a = sol.stands.upto in let b = sol.stands.range.within.1 in omega arith))
              plan written (subst (λ v. IsBest m (RunCost m g number) (Some v)) (sym same) (best g number runs placed)),
        ))
      where
        same : get_or (set bounds number c) number m.nothing ≡ x.cost
        same = cost_there ∙ cost

        plan : IsPlan m s value x.passes (groups_of x.groups) (get_or (set bounds number c) number m.nothing)
        plan =
            subst (λ v. IsPlan m s value x.passes (groups_of x.groups) v) (sym (same ∙ sol.cost))
            (subst (λ gs. IsPlan m s value x.passes gs sol.choice.cost) (sym sol.groups)
            (subst (λ p. IsPlan m s value p (sol.fronts ++ last_groups sol.choice.first sol.choice.passes (way_edges sol.choice.on) (way_edges sol.choice.off)) sol.choice.cost) (sym sol.passes) (choice_plan s value sol.fronts sol.choice sol.stands)))

  -- it is fit
  pub fit : (room : ℕ) → 32 ≤ room → (r : Result (Option (Solution C)) Unfit) → Solves m s value room r → IsOk r
  fit room enough (Ok x) h = refl
  fit room enough (Err e) h = absurd (h enough (λ j f q. first_last g kept number s there j f q) (least_some g kept number s there))

-- a scope below the count is there
scope_there : (g : List Scope) (i : ℕ) → i < length g → (s : Scope) × (slice_get g i ≡ Some s)
scope_there [] i h = absurd (omega arith)
scope_there (x ∷ g) zero h = (x, refl)
scope_there (x ∷ g) (suc i) h = scope_there g i (omega arith)

-- it is copied
pub copied : (g : List Scope) → KeepsFrom 22 g → (order : List ℕ) → CalledFirst g order → (k : ℕ) → k < length g → (r : Option PlainScope) → Copied g (get_or order k 0) r → IsSome r
copied g kept order first k within r h =
    let w = scope_there g (get_or order k 0) (first.within k within) in
    let c = copied_there g kept (get_or order k 0) w.0 w.1 r h in ap is_some c.1

-- places and numbers of the order are few
pub place_few : (g : List Scope) → KeepsFrom 22 g → (k : ℕ) → k < length g → k < 16
place_few g kept k within = let b = few_scopes g kept in omega arith

pub number_few : (g : List Scope) → KeepsFrom 22 g → (order : List ℕ) → CalledFirst g order → (k : ℕ) → k < length g → get_or order k 0 < 16
number_few g kept order first k within = let a = first.within k within in let b = few_scopes g kept in omega arith

-- what the calls that write it down leave
module _ {C : Type 0} {m : Measure C} (laws : Laws m) (g : List Scope) (kept : KeepsFrom 22 g) (order : List ℕ) (first : CalledFirst g order) (k : ℕ) (within : k < length g)
    (s : Scope) (there : slice_get g (get_or order k 0) ≡ Some s) (bounds : List C) (trail trail' : List Line) (solved : List Bool) (few : length bounds ≡ 16) (marks : length solved ≡ 16)
    (settled : AreSettled m g bounds trail solved order k) (lines : size * length g ≤ length trail) (done : Bool) (fits : done ≡ leb (size * (get_or order k 0 + 1)) (length trail)) where
  enough : size * (get_or order k 0 + 1) ≤ length trail
  enough = let a = first.within k within in omega arith

  abbrev Stepped : C → Bool → Type 0
  Stepped c mark = AreSettled m g (set bounds (get_or order k 0) c) trail' (set solved (get_or order k 0) mark) order (k + 1) × (drop (size * length g) trail' ≡ drop (size * length g) trail)

  pub stepped_bound : (x : Solution C) → IsRunsBest m s (edge_value_lem (capped m) (bound_at bounds solved) s) (Some x.cost) → IsSolution m s (edge_value_lem (capped m) (bound_at bounds solved) s) x →
      trail' ≡ cond done (written trail (size * get_or order k 0) (padded (section_lines s x.passes (groups_of x.groups)))) trail → Stepped x.cost true
  stepped_bound x best sol table =
      let put = (section_put trail (get_or order k 0) (padded (section_lines s x.passes (groups_of x.groups))) (length_section s x.passes x.groups) enough done trail' fits table).1 in (
        bound_settled laws g kept order first k within s there bounds trail trail' solved few marks put.others settled x.cost true refl x refl best sol put.there,
        put.rest (length g) (first.within k within),
      )

  pub stepped_none : (c : C) → c ≡ m.nothing → IsRunsBest m s (edge_value_lem (capped m) (bound_at bounds solved) s) None →
      trail' ≡ cond done (written trail (size * get_or order k 0) (replicate size (line 0 0 0))) trail → Stepped c false
  stepped_none c nothing none table =
      let put = (section_put trail (get_or order k 0) (replicate size (line 0 0 0)) (length-replicate size (line 0 0 0)) enough done trail' fits table).1 in (
        no_run_settled laws g kept order first k within s there bounds trail trail' solved few marks put.others settled c false refl nothing none put.there,
        put.rest (length g) (first.within k within),
      )

-- From the faults of the items to the judgement of the graph.
use Rattle.std.proofs.Common.{◌≡◌, ℕ, ◌⊎◌, List, length, Some, None, Decides, Option, sym, refl, ap, ◌∙◌, subst, inl, inr, arith}
use Rattle.std.specs.List.{slice_get}
use Rattle.std.proofs.lemmas.Bool.Decides.{Decides-ltb, Decides-or, not_from_Decides}
use Rattle.model.specs.declared.refusal.Refusal.{Refusal}
use Rattle.model.specs.declared.refusal.Refusal.TheVariants.{TooShort, BadVersion, BadLength, BadRecord, UnknownKind, UnknownScope, NoScope, OverLimit, BadPasses, BadFigure, Missing, NotForward, NegativeWeight, CallRing, BadFact, NotABlock, NoFact, ShortWork, ShortTrail, NoRun}
use Rattle.model.specs.Graph.{Scope, in_scope, node_at, edge_at, fact_at_lem}
use Rattle.model.specs.Numbers.{number}
use Rattle.model.specs.Rules.{SomeIn, TooMany, Ring, Breaks, Judged}
use Rattle.rules.specs.Faults.{lower, found, lowest, node_fault_lem, edge_fault_lem, fact_fault_lem, scope_fault, scope_finding_lem, too_many, over, WithinLimits}
use Rattle.rules.proofs.Items.{PassesBreak, NodeBreaks, EdgeBreaks, FactBreaks, least_passes, least_node, least_edge, least_fact}
use Rattle.rules.proofs.Least.{Least, least_like, least_join, least_lowest, least_found}
use Rattle.std.proofs.lemmas.Option.{slice_get_within}

-- what a scope breaks
abbrev pub ScopeBreaks : List Scope → Scope → Refusal → Type 0
ScopeBreaks g s x = PassesBreak s x ⊎ (SomeIn s.nodes (λ n. NodeBreaks g n x) ⊎ (SomeIn s.edges (λ e. EdgeBreaks s.nodes e x) ⊎ SomeIn s.facts (λ f. FactBreaks s.nodes s.most f x)))

-- the findings of a list, by its look-up
least_list : {A : Type 0} (xs : List A) (look : ℕ → Option A) (f : A → Option Refusal) (P : A → Refusal → Type 0) → ((k : ℕ) → look k ≡ slice_get xs k) → ((a : A) → Least (P a) (f a)) → Least (λ x. SomeIn xs (λ a. P a x)) (lowest (λ k. found f (look k)) (length xs))
least_list {A} xs look f P same each =
    least_like _ (λ x. SomeIn xs (λ a. P a x))
    (λ x w. (w.0, w.2.0, sym (same w.0) ∙ w.2.1, w.2.2))
    (λ x w. (w.0, slice_get_within xs w.0 w.1 w.2, (w.1, same w.0 ∙ w.2, w.3)))
    _ (least_lowest (λ k. found f (look k)) (λ k x. (a : A) × (look k ≡ Some a) × P a x) (length xs) (λ k. least_found f P (look k) (λ a e. each a)))

least_scope : (g : List Scope) (i : ℕ) (s : Scope) → slice_get g i ≡ Some s → Least (ScopeBreaks g s) (scope_fault g (length g) i s)
least_scope g i s e =
    let node : (k : ℕ) → node_at g i k ≡ slice_get s.nodes k = λ k. ap (λ o. in_scope o (λ x. slice_get x.nodes k)) e in
    let edge : (k : ℕ) → edge_at g i k ≡ slice_get s.edges k = λ k. ap (λ o. in_scope o (λ x. slice_get x.edges k)) e in
    let fact : (k : ℕ) → fact_at_lem g i k ≡ slice_get s.facts k = λ k. ap (λ o. in_scope o (λ x. slice_get x.facts k)) e in
    least_join _ _ _ _ (least_passes s)
    (least_join _ _ _ _ (least_list s.nodes (node_at g i) (node_fault_lem (length g)) (NodeBreaks g) node (least_node g))
    (least_join _ _ _ _ (least_list s.edges (edge_at g i) (λ x. edge_fault_lem (length s.nodes) (node_at g i x.from) x) (EdgeBreaks s.nodes) edge (λ x. least_edge s.nodes _ x (node x.from)))
    (least_list s.facts (fact_at_lem g i) (fact_fault_lem (length s.nodes) s.most) (FactBreaks s.nodes s.most) fact (least_fact s.nodes s.most))))

least_in : (P : Scope → Refusal → Type 0) (o : Option Scope) (f : Scope → Option Refusal) → ((s : Scope) → o ≡ Some s → Least (P s) (f s)) → Least (λ x. (s : Scope) × (o ≡ Some s) × P s x) (in_scope o f)
least_in P None f h = least_found f P None h
least_in P (Some s) f h = least_found f P (Some s) h

least_scopes : (g : List Scope) → Least (λ x. SomeIn g (λ s. ScopeBreaks g s x)) (lowest (scope_finding_lem g (length g)) (length g))
least_scopes g =
    least_like _ (λ x. SomeIn g (λ s. ScopeBreaks g s x))
    (λ x w. (w.0, w.2.0, w.2.1, w.2.2))
    (λ x w. (w.0, slice_get_within g w.0 w.1 w.2, (w.1, w.2, w.3)))
    _ (least_lowest (scope_finding_lem g (length g)) (λ i x. (s : Scope) × (slice_get g i ≡ Some s) × ScopeBreaks g s x) (length g) (λ i. least_in (ScopeBreaks g) (slice_get g i) (scope_fault g (length g) i) (least_scope g i)))

-- past the first two rules, what is broken is broken in a scope or is a ring
abbrev pub Rest : List Scope → Refusal → Type 0
Rest g x = SomeIn g (λ s. ScopeBreaks g s x) ⊎ ((x ≡ CallRing) × Ring g)

broken_rest : (g : List Scope) → (Breaks g NoScope → ⊥) → (Breaks g OverLimit → ⊥) → (x : Refusal) → Breaks g x → Rest g x
broken_rest g a b NoScope w = absurd (a w)
broken_rest g a b OverLimit w = absurd (b w)
broken_rest g a b BadPasses w = inl (w.0, w.1, w.2, inl (refl, w.3))
broken_rest g a b BadFigure w = inl (
  w.0,
  w.1,
  w.2,
  inr (elim w.3 [
    | inl v ↦ inl (v.0, v.1, v.2, inl (refl, v.3))
    | inr v ↦ inr (inl (v.0, v.1, v.2, inl (refl, v.3)))
  ]),
)
broken_rest g a b Missing w = inl (
  w.0,
  w.1,
  w.2,
  inr (elim w.3 [
    | inl v ↦ inl (v.0, v.1, v.2, inr (refl, v.3))
    | inr u ↦ inr (elim u [ inl v ↦ inl (v.0, v.1, v.2, inr (inl (refl, v.3))) | inr v ↦ inr (v.0, v.1, v.2, inl (refl, v.3)) ])
  ]),
)
broken_rest g a b NotForward w =
    let v = w.3 in inl (w.0, w.1, w.2, inr (inr (inl (v.0, v.1, v.2, inr (inr (inl (refl, v.3)))))))
broken_rest g a b NegativeWeight w =
    let v = w.3 in inl (w.0, w.1, w.2, inr (inr (inl (v.0, v.1, v.2, inr (inr (inr (refl, v.3)))))))
broken_rest g a b CallRing w = inr (refl, w)
broken_rest g a b BadFact w =
    let v = w.3 in inl (w.0, w.1, w.2, inr (inr (inr (v.0, v.1, v.2, inr (refl, v.3)))))
broken_rest g a b TooShort w = absurd w
broken_rest g a b BadVersion w = absurd w
broken_rest g a b BadLength w = absurd w
broken_rest g a b BadRecord w = absurd w
broken_rest g a b UnknownKind w = absurd w
broken_rest g a b UnknownScope w = absurd w
broken_rest g a b NotABlock w = absurd w
broken_rest g a b NoFact w = absurd w
broken_rest g a b ShortWork w = absurd w
broken_rest g a b ShortTrail w = absurd w
broken_rest g a b NoRun w = absurd w

module _ (g : List Scope) (x : Refusal) (i : ℕ) (s : Scope) (e : slice_get g i ≡ Some s) where
  being : (y : Refusal) → x ≡ y → Breaks g y → Breaks g x
  being y q w = subst (Breaks g) (sym q) w

  node_broken : SomeIn s.nodes (λ n. NodeBreaks g n x) → Breaks g x
  node_broken v = elim v.3 [
    | inl p ↦ being BadFigure p.0 (i, s, e, inl (v.0, v.1, v.2, p.1))
    | inr p ↦ being Missing p.0 (i, s, e, inl (v.0, v.1, v.2, p.1))
  ]

  edge_broken : SomeIn s.edges (λ n. EdgeBreaks s.nodes n x) → Breaks g x
  edge_broken v = elim v.3 [
    | inl p ↦ being BadFigure p.0 (i, s, e, inr (v.0, v.1, v.2, p.1))
    | inr u ↦ elim u [
      | inl p ↦ being Missing p.0 (i, s, e, inr (inl (v.0, v.1, v.2, p.1)))
      | inr t ↦ elim t [
        | inl p ↦ being NotForward p.0 (i, s, e, (v.0, v.1, v.2, p.1))
        | inr p ↦ being NegativeWeight p.0 (i, s, e, (v.0, v.1, v.2, p.1))
      ]
    ]
  ]

  fact_broken : SomeIn s.facts (λ n. FactBreaks s.nodes s.most n x) → Breaks g x
  fact_broken v = elim v.3 [
    | inl p ↦ being Missing p.0 (i, s, e, inr (inr (v.0, v.1, v.2, p.1)))
    | inr p ↦ being BadFact p.0 (i, s, e, (v.0, v.1, v.2, p.1))
  ]

  scope_broken : ScopeBreaks g s x → Breaks g x
  scope_broken w = elim w [
    | inl p ↦ being BadPasses p.0 (i, s, e, p.1)
    | inr u ↦ elim u [ inl v ↦ node_broken v | inr t ↦ elim t [ inl v ↦ edge_broken v | inr v ↦ fact_broken v ] ]
  ]

rest_broken : (g : List Scope) (x : Refusal) → Rest g x → Breaks g x
rest_broken g x w = elim w [
  | inl v ↦ scope_broken g x v.0 v.1 v.2 v.3
  | inr v ↦ subst (Breaks g) (sym v.0) v.1
]

judged : (g : List Scope) (r : Option Refusal) → Least (Breaks g) r → Judged g r
judged g None h = h
judged g (Some x) h = record { broken = h.0; smallest = h.1 }

decides_many : (s : Scope) → Decides (too_many s) (TooMany s)
decides_many s =
    Decides-or _ _ (Decides-ltb 32 (length s.nodes)) (Decides-or _ _ (Decides-ltb 96 (length s.edges)) (Decides-ltb 4 (length s.facts)))

-- no limit is broken
under : (g : List Scope) → WithinLimits g → Breaks g OverLimit → ⊥
under g size w = elim w [
  | inl p ↦ (let few = size.1 in omega arith)
  | inr q ↦ not_from_Decides (too_many q.1) (decides_many q.1) (ap over (sym q.2) ∙ size.2 q.0 (slice_get_within g q.0 q.1 q.2)) q.3
]

least_rest : (g : List Scope) → WithinLimits g → (r : Option Refusal) → Least (Rest g) r → Judged g r
least_rest g size r l = judged g r (least_like (Rest g) (Breaks g) (rest_broken g) (broken_rest g size.0 (under g size)) r l)

-- a graph within its limits is judged by its scopes and their calls
module _ (g : List Scope) (size : WithinLimits g) (n : ℕ) (count : n ≡ length g) (fault : Option Refusal) (is : fault ≡ lowest (scope_finding_lem g n) n) where
  least_fault : Least (λ x. SomeIn g (λ s. ScopeBreaks g s x)) fault
  least_fault =
      let P : Option Refusal → Type 0 = Least (λ x. SomeIn g (λ s. ScopeBreaks g s x)) in
      subst P (sym (is ∙ ap (λ m. lowest (scope_finding_lem g m) m) count)) (least_scopes g)

  pub judged_ring : Ring g → (r : Option Refusal) → r ≡ lower fault (Some CallRing) → Judged g r
  judged_ring ring r e =
      let P : Option Refusal → Type 0 = Judged g in
      subst P (sym e) (least_rest g size _ (least_join _ (λ x. (x ≡ CallRing) × Ring g) _ (Some CallRing) least_fault ((refl, ring), λ y l w. omega (arith, ap number w.0))))

  pub judged_no_ring : (Ring g → ⊥) → Judged g fault
  judged_no_ring ring =
      least_rest g size _ (least_like _ (Rest g) (λ x w. inl w) (λ x w. elim w [ inl v ↦ v | inr v ↦ absurd (ring v.1) ]) _ least_fault)

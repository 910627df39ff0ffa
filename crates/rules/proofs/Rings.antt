-- Scopes that reach themselves.
use Rattle.std.proofs.Common.{◌≡◌, ℕ, zero, suc, ◌<◌, ◌≤◌, Bool, true, false, not, MatchBool, List, length, get_or, Some, None, Option, sym, refl, ap, ◌∙◌, subst, inl, inr, arith}
use Rattle.std.specs.List.{slice_get}
use Rattle.std.specs.Option.{is_some}
use Rattle.std.proofs.lemmas.Bool.{cases_eq, cases_Bool, both_ways}
use Rattle.model.specs.declared.graph.Node.{Node}
use Rattle.model.specs.declared.graph.Node.TheVariants.{Call}
use Rattle.model.specs.Graph.{Scope, in_scope}
use Rattle.model.specs.Rules.{Calls, Reaches, directly, through, Ring}
use Rattle.rules.specs.CallOrders.{CalledFirst, Ordered}
use Rattle.std.proofs.lemmas.Option.{slice_get_within}

-- Among the numbers below n that are in U, each leads to another one that is: so some number leads to itself.
-- The greatest is left out: who led to it leads on to where it leads.
pub leads_to_itself : (R : ℕ → ℕ → Type 0) → ((a b c : ℕ) → R a b → R b c → R a c) → (U : ℕ → Bool) (n u : ℕ) → u < n → U u ≡ true → ((a : ℕ) → a < n → U a ≡ true → (b : ℕ) × (b < n) × (U b ≡ true) × R a b) → (i : ℕ) × R i i
leads_to_itself R join U zero u h e next = absurd (omega arith)
leads_to_itself R join U (suc n) u h e next =
    let smaller : (a b : ℕ) → a < suc n → U a ≡ true → U n ≡ false → a < n = λ a b l x y. elim (cases_eq a n) [ inl q ↦ absurd (let z : true ≡ false = sym x ∙ ap U q ∙ y in let w : ◌≡◌ {A = ℕ} 0 1 = cc in omega arith) | inr q ↦ omega arith ] in
    elim (cases_Bool (U n)) [
      | inr out ↦ leads_to_itself R join U n u (smaller u u h e out) e (λ a l x. let w = next a (omega arith) x in (w.0, smaller w.0 a w.1 w.2 out, w.2, w.3))
      | inl in' ↦
          let on = next n (omega arith) in' in
          elim (cases_eq on.0 n) [
            | inl q ↦ (n, let P : ℕ → Type 0 = R n in subst P q on.3)
            | inr q ↦
                leads_to_itself R join U n on.0 (omega (arith, on.1)) on.2 (λ a l x. let w = next a (omega arith) x in elim (cases_eq w.0 n) [
                  | inl p ↦ (on.0, omega (arith, on.1), on.2, join a n on.0 (let P : ℕ → Type 0 = R a in subst P p w.3) on.3)
                  | inr p ↦ (w.0, omega (arith, w.1), w.2, w.3)
                ])
          ]
    ]

pub reaches_join : (g : List Scope) (a b c : ℕ) → Reaches g a b → Reaches g b c → Reaches g a c
reaches_join g a b c (directly p) q = through p q
reaches_join g a b c (through {j = j} p r) q = through p (reaches_join g j b c r q)

-- a scope that calls or reaches another is there
there : (o : Option Scope) (g : List Scope) (i n : ℕ) (x : Node) → slice_get g i ≡ o → in_scope o (λ s. slice_get s.nodes n) ≡ Some x → i < length g
there None g i n x e h = let z : ◌≡◌ {A = ℕ} 0 1 = cc in absurd (omega arith)
there (Some s) g i n x e h = slice_get_within g i s e

pub caller_there : (g : List Scope) (i j : ℕ) → Calls g i j → i < length g
caller_there g i j c = there (slice_get g i) g i c.0 (Call j) refl c.1

pub reacher_there : (g : List Scope) (i j : ℕ) → Reaches g i j → i < length g
reacher_there g i j (directly {j = k} p) = caller_there g i k p
reacher_there g i j (through {j = k} p r) = caller_there g i k p

-- in an order with called scopes first, a scope that is reached stands before
earlier : (g : List Scope) (order : List ℕ) → CalledFirst g order → (i j k : ℕ) → Reaches g i j → j < length g → k < length g → get_or order k 0 ≡ i → (l : ℕ) × (l < k) × (get_or order l 0 ≡ j)
earlier g order o i j k (directly p) h b e =
    let P : ℕ → Type 0 = λ z. Calls g z j in o.before k j b h (subst P (sym e) p)
earlier g order o i j k (through {j = m} p r) h b e =
    let P : ℕ → Type 0 = λ z. Calls g z m in
    let w = o.before k m b (reacher_there g m j r) (subst P (sym e) p) in
    let v = earlier g order o m j w.0 r h (omega (arith, w.1)) w.2 in
    (v.0, omega (arith, w.1, v.1), v.2)

-- so no scope reaches itself
pub no_ring : (g : List Scope) (order : List ℕ) → CalledFirst g order → Ring g → ⊥
no_ring g order o (i, r) =
    let h = reacher_there g i i r in
    let p = o.placed i h in
    let w = earlier g order o i i p.0 r h p.1 p.2 in
    let e = o.once w.0 p.0 (omega (arith, w.1, p.1)) p.1 (w.2 ∙ sym p.2) in
    omega (arith, e, w.1)

-- a small graph has an order or a ring
pub ring_where_none : (g : List Scope) (r : Option (List ℕ)) (b : Bool) → length g ≤ 16 → Ordered g r → is_some r ≡ not b → MatchBool b (Ring g) (Ring g → ⊥)
ring_where_none g None true small o e = elim o [ inl p ↦ absurd (omega arith) | inr p ↦ p ]
ring_where_none g (Some order) false small o e = no_ring g order o
ring_where_none g None false small o e = absurd (both_ways _ refl e)
ring_where_none g (Some order) true small o e = absurd (both_ways _ e refl)

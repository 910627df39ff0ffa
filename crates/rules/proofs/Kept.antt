-- What a graph that keeps the rules has, item by item. Rule 21, that there is a scope, is not used.
use Rattle.std.proofs.Common.{◌≡◌, ℕ, ◌<◌, ◌≤◌, List, length, ℤ, pos, negsuc, ◌+ℤ◌, ◌≤ℤ◌, ◌<ℤ◌, Some, None, Option, sym, refl, subst, inl, inr, arith}
use Rattle.std.specs.List.{slice_get}
use Rattle.std.proofs.lemmas.Int.{by_lt_z}
use Rattle.std.proofs.lemmas.Bool.{cases_lt}
use Rattle.model.specs.declared.graph.Node.TheVariants.{Block, Call}
use Rattle.model.specs.declared.graph.Target.{Target}
use Rattle.model.specs.declared.graph.Target.TheVariants.{To}
use Rattle.model.specs.declared.graph.Edge.{Edge}
use Rattle.model.specs.declared.graph.Constraint.{Constraint}
use Rattle.model.specs.declared.graph.Constraint.TheVariants.{Bar, Must, Pair}
use Rattle.model.specs.declared.graph.Fact.{Fact}
use Rattle.model.specs.declared.refusal.Refusal.TheVariants.{OverLimit, BadPasses, BadFigure, Missing, NotForward, NegativeWeight, CallRing, BadFact}
use Rattle.model.specs.Graph.{Scope}
use Rattle.model.specs.Rules.{TargetMissing, NodeMissing, Backward, SameNode, Ring, Keeps, KeepsFrom}
use Rattle.rules.specs.CallOrders.{CalledFirst, Ordered}

pub keeps_from : (g : List Scope) → Keeps g → KeepsFrom 22 g
keeps_from g h x b w = h x w

below : (a b : ℕ) → (b ≤ a → ⊥) → a < b
below a b h = elim (cases_lt a b) [ inl p ↦ p | inr p ↦ absurd (h p) ]

at_most : (a b : ℕ) → (b < a → ⊥) → a ≤ b
at_most a b h = elim (cases_lt b a) [ inl p ↦ absurd (h p) | inr p ↦ p ]

at_mostZ : (a b : ℤ) → (b <ℤ a → ⊥) → a ≤ℤ b
at_mostZ a b h = by_lt_z b a (λ p. absurd (h p)) (λ p. p)

pub few_scopes : (g : List Scope) → KeepsFrom 22 g → length g ≤ 16
few_scopes g kept = at_most _ _ (λ h. kept OverLimit (omega arith) (inl h))

pub no_rings : (g : List Scope) → KeepsFrom 22 g → Ring g → ⊥
no_rings g kept = kept CallRing (omega arith)

-- there is an order of the scopes with called scopes first
pub order_there : (g : List Scope) → KeepsFrom 22 g → (r : Option (List ℕ)) → Ordered g r → (order : List ℕ) × (r ≡ Some order) × CalledFirst g order
order_there g kept None h = absurd (elim h [ inl p ↦ (let few = few_scopes g kept in omega arith) | inr p ↦ no_rings g kept p ])
order_there g kept (Some order) h = (order, refl, h)

-- of scope number i
module _ (g : List Scope) (kept : KeepsFrom 22 g) (i : ℕ) (s : Scope) (is : slice_get g i ≡ Some s) where
  pub few_nodes : length s.nodes ≤ 32
  few_nodes = at_most _ _ (λ h. kept OverLimit (omega arith) (inr (i, s, is, inl h)))

  pub few_edges : length s.edges ≤ 96
  few_edges = at_most _ _ (λ h. kept OverLimit (omega arith) (inr (i, s, is, inr (inl h))))

  pub few_facts : length s.facts ≤ 4
  few_facts = at_most _ _ (λ h. kept OverLimit (omega arith) (inr (i, s, is, inr (inr h))))

  pub least_some : 1 ≤ s.least
  least_some = below _ _ (λ h. kept BadPasses (omega arith) (i, s, is, inl (omega arith)))

  pub least_most : s.least ≤ s.most
  least_most = at_most _ _ (λ h. kept BadPasses (omega arith) (i, s, is, inr h))

  -- of its node number k
  module _ (k : ℕ) where
    pub time_most : (time stack : ℕ) → slice_get s.nodes k ≡ Some (Block time stack) → time ≤ 1000000
    time_most time stack e = at_most _ _ (λ h. kept BadFigure (omega arith) (i, s, is, inl (k, Block time stack, e, h)))

    pub called_there : (t : ℕ) → slice_get s.nodes k ≡ Some (Call t) → t < length g
    called_there t e = below _ _ (λ h. kept Missing (omega arith) (i, s, is, inl (k, Call t, e, h)))

  -- of its edge number k
  module _ (k : ℕ) (x : Edge) (e : slice_get s.edges k ≡ Some x) where
    pub effect_least : negsuc 999999 ≤ℤ x.effect
    effect_least = at_mostZ _ _ (λ h. kept BadFigure (omega arith) (i, s, is, inr (k, x, e, inl h)))

    pub effect_most : x.effect ≤ℤ pos 1000000
    effect_most = at_mostZ _ _ (λ h. kept BadFigure (omega arith) (i, s, is, inr (k, x, e, inr h)))

    pub start_there : x.from < length s.nodes
    start_there = below _ _ (λ h. kept Missing (omega arith) (i, s, is, inr (inl (k, x, e, inl h))))

    pub target_there : (n : ℕ) → x.to ≡ To n → n < length s.nodes
    target_there n q =
        let P : Target → Type 0 = TargetMissing s.nodes in
        below _ _ (λ h. kept Missing (omega arith) (i, s, is, inr (inl (k, x, e, inr (subst P (sym q) h)))))

    pub leads_forward_lem : (n : ℕ) → x.to ≡ To n → x.from < n
    leads_forward_lem n q =
        let P : Target → Type 0 = Backward x.from in
        below _ _ (λ h. kept NotForward (omega arith) (i, s, is, (k, x, e, subst P (sym q) h)))

    pub block_weight : (time stack : ℕ) → slice_get s.nodes x.from ≡ Some (Block time stack) → pos 0 ≤ℤ (pos time +ℤ x.effect)
    block_weight time stack q = at_mostZ _ _ (λ h. kept NegativeWeight (omega arith) (i, s, is, (k, x, e, (Block time stack, q, h))))

    pub call_weight : (t : ℕ) → slice_get s.nodes x.from ≡ Some (Call t) → pos 0 ≤ℤ x.effect
    call_weight t q = at_mostZ _ _ (λ h. kept NegativeWeight (omega arith) (i, s, is, (k, x, e, (Call t, q, h))))

  -- of its fact number k
  module _ (k : ℕ) (f : Fact) (e : slice_get s.facts k ≡ Some f) where
    pub first_some : 1 ≤ f.first
    first_some = below _ _ (λ h. kept BadFact (omega arith) (i, s, is, (k, f, e, inl (omega arith))))

    pub first_last : f.first ≤ f.last
    first_last = at_most _ _ (λ h. kept BadFact (omega arith) (i, s, is, (k, f, e, inr (inl h))))

    pub last_most : f.last ≤ s.most
    last_most = at_most _ _ (λ h. kept BadFact (omega arith) (i, s, is, (k, f, e, inr (inr (inl h)))))

    named : NodeMissing s.nodes f.constraint → ⊥
    named h = kept Missing (omega arith) (i, s, is, inr (inr (k, f, e, h)))

    pub bar_there : (n : ℕ) → f.constraint ≡ Bar n → n < length s.nodes
    bar_there n q = let P : Constraint → Type 0 = NodeMissing s.nodes in below _ _ (λ h. named (subst P (sym q) h))

    pub must_there : (n : ℕ) → f.constraint ≡ Must n → n < length s.nodes
    must_there n q = let P : Constraint → Type 0 = NodeMissing s.nodes in below _ _ (λ h. named (subst P (sym q) h))

    pub pair_there : (n m : ℕ) → f.constraint ≡ Pair n m → (n < length s.nodes) × (m < length s.nodes)
    pair_there n m q =
        let P : Constraint → Type 0 = NodeMissing s.nodes in
        (below _ _ (λ h. named (subst P (sym q) (inl h))), below _ _ (λ h. named (subst P (sym q) (inr h))))

    pub pair_apart : (n m : ℕ) → f.constraint ≡ Pair n m → n ≡ m → ⊥
    pair_apart n m q h =
        let P : Constraint → Type 0 = SameNode in
        kept BadFact (omega arith) (i, s, is, (k, f, e, inr (inr (inr (subst P (sym q) h)))))

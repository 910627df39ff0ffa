-- The fault of an item is the rule of the smallest number that it breaks.
use Rattle.std.proofs.Common.{◌≡◌, ℕ, ◌<◌, ◌≤◌, Bool, true, false, T, leb, ◌⊎◌, List, length, ℤ, pos, negsuc, ◌+ℤ◌, ◌<ℤ◌, Some, None, Decides, Option, sym, refl, ap, subst, inl, inr, arith}
use lib.Signed.{lt_z}
use Rattle.std.specs.List.{slice_get}
use Rattle.std.proofs.lemmas.Bool.{leb-true, le-leb}
use Rattle.std.proofs.lemmas.Bool.Decides.{Decides-eqb, Decides-ltb, Decides-or}
use Rattle.model.specs.declared.graph.Node.{Node}
use Rattle.model.specs.declared.graph.Node.TheVariants.{Block, Call}
use Rattle.model.specs.declared.graph.Target.{Target}
use Rattle.model.specs.declared.graph.Target.TheVariants.{To, Again, Leave}
use Rattle.model.specs.declared.graph.Edge.{Edge}
use Rattle.model.specs.declared.graph.Constraint.{Constraint}
use Rattle.model.specs.declared.graph.Constraint.TheVariants.{Bar, Must, Pair}
use Rattle.model.specs.declared.graph.Fact.{Fact}
use Rattle.model.specs.declared.refusal.Refusal.{Refusal}
use Rattle.model.specs.declared.refusal.Refusal.TheVariants.{BadPasses, BadFigure, Missing, NotForward, NegativeWeight, BadFact}
use Rattle.model.specs.Graph.{Scope}
use Rattle.model.specs.Numbers.{number}
use Rattle.model.specs.Rules.{PassesWrong, TimeOver, EffectOver, CalledMissing, TargetMissing, EndMissing, NodeMissing, Backward, Negative, WeightBelow, SameNode, FactWrong}
use Rattle.rules.specs.Faults.{passes_fault_lem, node_fault_lem, effect_over_lem, leads_beyond_lem, leads_back_lem, weight_below_lem, edge_fault_lem, names_beyond_lem, names_twice_lem, fact_fault_lem}
use Rattle.rules.proofs.Least.{Least, least_if, least_else, least_like}

decides_leb : (a b : ℕ) → Decides (leb a b) (a ≤ b)
decides_leb a b = (leb-true a b, le-leb a b)

from_T : (b : Bool) → T b → b ≡ true
from_T true t = refl
from_T false t = absurd t

decides_ltZ : (a b : ℤ) → Decides (lt_z a b) (a <ℤ b)
decides_ltZ a b = (λ e. record { lt = subst T (sym e) tt }, λ h. from_T (lt_z a b) h.lt)

decides_never : Decides false ⊥
decides_never = (λ e. let z : ◌≡◌ {A = ℕ} 0 1 = cc in omega arith, λ w. absurd w)

-- what an item breaks
abbrev pub PassesBreak : Scope → Refusal → Type 0
PassesBreak s x = (x ≡ BadPasses) × PassesWrong s

abbrev pub NodeBreaks : List Scope → Node → Refusal → Type 0
NodeBreaks g n x = ((x ≡ BadFigure) × TimeOver n) ⊎ ((x ≡ Missing) × CalledMissing g n)

abbrev pub EdgeBreaks : List Node → Edge → Refusal → Type 0
EdgeBreaks ns e x = ((x ≡ BadFigure) × EffectOver e) ⊎ (((x ≡ Missing) × EndMissing ns e) ⊎ (((x ≡ NotForward) × Backward e.from e.to) ⊎ ((x ≡ NegativeWeight) × WeightBelow ns e)))

abbrev pub FactBreaks : List Node → ℕ → Fact → Refusal → Type 0
FactBreaks ns most f x = ((x ≡ Missing) × NodeMissing ns f.constraint) ⊎ ((x ≡ BadFact) × FactWrong most f)

pub least_passes : (s : Scope) → Least (PassesBreak s) (passes_fault_lem s.least s.most)
least_passes s =
    least_if _ BadPasses _ (Decides-or _ _ (Decides-eqb s.least 0) (Decides-ltb s.most s.least))

pub least_node : (g : List Scope) (n : Node) → Least (NodeBreaks g n) (node_fault_lem (length g) n)
least_node g (Block time stack) =
    least_like _ _ (λ x p. inl p) (λ x w. elim w [ inl p ↦ p | inr q ↦ absurd q.1 ]) _ (least_if _ BadFigure (1000000 < time) (Decides-ltb 1000000 time))
least_node g (Call t) =
    least_like _ _ (λ x p. inr p) (λ x w. elim w [ inl p ↦ absurd p.1 | inr q ↦ q ]) _ (least_if _ Missing (length g ≤ t) (decides_leb (length g) t))

decides_effect : (e : Edge) → Decides (effect_over_lem e.effect) (EffectOver e)
decides_effect e = Decides-or _ _ (decides_ltZ e.effect (negsuc 999999)) (decides_ltZ (pos 1000000) e.effect)

decides_target : (ns : List Node) (t : Target) → Decides (leads_beyond_lem (length ns) t) (TargetMissing ns t)
decides_target ns (To n) = decides_leb (length ns) n
decides_target ns Again = decides_never
decides_target ns Leave = decides_never

decides_back : (n : ℕ) (t : Target) → Decides (leads_back_lem n t) (Backward n t)
decides_back n (To m) = decides_leb m n
decides_back n Again = decides_never
decides_back n Leave = decides_never

decides_negative : (n : Node) (effect : ℤ) → Decides (weight_below_lem (Some n) effect) (Negative n effect)
decides_negative (Block time stack) effect = decides_ltZ (pos time +ℤ effect) (pos 0)
decides_negative (Call t) effect = decides_ltZ effect (pos 0)

decides_weight : (o : Option Node) (effect : ℤ) → Decides (weight_below_lem o effect) ((n : Node) × (o ≡ Some n) × Negative n effect)
decides_weight None effect =
    (λ e. let z : ◌≡◌ {A = ℕ} 0 1 = cc in absurd (omega arith), λ w. let e = w.1 in let z : ◌≡◌ {A = ℕ} 0 1 = cc in absurd (omega arith))
decides_weight (Some n) effect =
    let d = decides_negative n effect in
    (λ e. (n, refl, d.0 e), λ w. let e = w.1 in let q : w.0 ≡ n = cc in d.1 (let P : Node → Type 0 = λ z. Negative z effect in subst P q w.2))

pub least_edge : (ns : List Node) (start : Option Node) (e : Edge) → start ≡ slice_get ns e.from → Least (EdgeBreaks ns e) (edge_fault_lem (length ns) start e)
least_edge ns start e q =
    let P : Option Node → Type 0 = λ o. Least (EdgeBreaks ns e) (edge_fault_lem (length ns) o e) in
    subst P (sym q)
    (least_else _ BadFigure (EffectOver e) _ _ (decides_effect e) (λ y w. elim w [ inl p ↦ omega (arith, ap number p.0) | inr v ↦ elim v [ inl p ↦ omega (arith, ap number p.0) | inr p ↦ omega (arith, ap number p.0) ] ])
    (least_else _ Missing (EndMissing ns e) _ _ (Decides-or _ _ (decides_leb (length ns) e.from) (decides_target ns e.to)) (λ y w. elim w [ inl p ↦ omega (arith, ap number p.0) | inr p ↦ omega (arith, ap number p.0) ])
    (least_else _ NotForward (Backward e.from e.to) _ _ (decides_back e.from e.to) (λ y p. omega (arith, ap number p.0))
    (least_if _ NegativeWeight (WeightBelow ns e) (decides_weight (slice_get ns e.from) e.effect)))))

decides_names : (ns : List Node) (c : Constraint) → Decides (names_beyond_lem (length ns) c) (NodeMissing ns c)
decides_names ns (Bar n) = decides_leb (length ns) n
decides_names ns (Must n) = decides_leb (length ns) n
decides_names ns (Pair n m) = Decides-or _ _ (decides_leb (length ns) n) (decides_leb (length ns) m)

decides_twice : (c : Constraint) → Decides (names_twice_lem c) (SameNode c)
decides_twice (Bar n) = decides_never
decides_twice (Must n) = decides_never
decides_twice (Pair n m) = Decides-eqb n m

pub least_fact : (ns : List Node) (most : ℕ) (f : Fact) → Least (FactBreaks ns most f) (fact_fault_lem (length ns) most f)
least_fact ns most f =
    least_else _ Missing (NodeMissing ns f.constraint) _ _ (decides_names ns f.constraint) (λ y p. omega (arith, ap number p.0))
    (least_if _ BadFact (FactWrong most f) (Decides-or _ _ (Decides-eqb f.first 0) (Decides-or _ _ (Decides-ltb f.last f.first) (Decides-or _ _ (Decides-ltb most f.last) (decides_twice f.constraint)))))

-- The weights of edges, in 32 bits and as sums.
use Rattle.std.proofs.Common.{◌≡◌, ℕ, ◌^◌, ◌<◌, ◌≤◌, min, ℤ, pos, negsuc, ◌+ℤ◌, ◌≤ℤ◌, Some, None, Option, refl, ap, ◌∙◌, arith}
use Rattle.std.proofs.lemmas.Int.{ints}
use Rattle.std.specs.List.{slice_get}
use Rattle.model.specs.declared.graph.Edge.{Edge}
use Rattle.model.specs.declared.graph.Node.{Node}
use Rattle.model.specs.declared.graph.Node.TheVariants.{Block, Call}
use Rattle.model.specs.Best.{joined}
use Rattle.model.specs.Graph.{Scope}
use Rattle.model.specs.Measures.{Measure}
use Rattle.model.specs.Runs.{nonneg}
use Rattle.model.specs.Ways.{value_from_lem, value_of, edge_value_lem}
use Rattle.rules.proofs.Kept.{time_most, effect_most, block_weight, call_weight}
use Rattle.plain.specs.Values.{heaviest, capped, AllLight, KeptWeights}

under : (w : ℕ) → w < 2 ^ 32 → min w heaviest ≡ w
under w h = omega arith

-- where every weight fits 32 bits, the values are those of the measure itself
module _ {C : Type 0} (m : Measure C) (best : ℕ → Option C) (s : Scope) (light : AllLight s) where
  join_same : (b c : Option C) → joined (capped m) b c ≡ joined m b c
  join_same None c = refl
  join_same (Some a) None = refl
  join_same (Some a) (Some b) = refl

  from_same : (e : ℕ) (x : Edge) → slice_get s.edges e ≡ Some x → (n : Option Node) → slice_get s.nodes x.from ≡ n → value_from_lem (capped m) best x n ≡ value_from_lem m best x n
  from_same e x q None p = refl
  from_same e x q (Some (Block time stack)) p = ap (λ w. Some (m.of w stack)) (under _ (light e x (Block time stack) q p))
  from_same e x q (Some (Call t)) p = join_same (best t) _ ∙ ap (λ w. joined m (best t) (Some (m.of w 0))) (under _ (light e x (Call t) q p))

  of_same : (e : ℕ) (o : Option Edge) → slice_get s.edges e ≡ o → value_of (capped m) best s o ≡ value_of m best s o
  of_same e None q = refl
  of_same e (Some x) q = from_same e x q (slice_get s.nodes x.from) refl

  pub values_same : (e : ℕ) → edge_value_lem (capped m) best s e ≡ edge_value_lem m best s e
  values_same e = of_same e (slice_get s.edges e) refl

nonneg_same : (z : ℤ) → pos 0 ≤ℤ z → pos (nonneg z) ≡ z
nonneg_same (pos n) h = refl
nonneg_same (negsuc n) h = absurd (omega (arith, ints))

nonneg_most : (z : ℤ) (n : ℕ) → z ≤ℤ pos n → nonneg z ≤ n
nonneg_most (pos k) n h = omega (arith, ints)
nonneg_most (negsuc k) n h = omega arith

pub kept_weights : KeptWeights
kept_weights g kept i s is = record {
  light = light;
  block = λ e time stack x q p. nonneg_same _ (block_weight g kept i s is e x q time stack p);
  call = λ e t x q p. nonneg_same _ (call_weight g kept i s is e x q t p);
}
  where
    light : AllLight s
    light e x (Block time stack) q p =
        let t = time_most g kept i s is x.from time stack p in
        let f = effect_most g kept i s is e x q in
        let h = nonneg_most (pos time +ℤ x.effect) 2000000 (omega (arith, ints)) in
        omega arith
    light e x (Call t) q p = let h = nonneg_most x.effect 1000000 (effect_most g kept i s is e x q) in omega arith

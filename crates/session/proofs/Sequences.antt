-- One call more.
use Rattle.std.proofs.Common.{◌≡◌, ℕ, ◌+◌, ◌<◌, ◌≤◌, List, [], ◌∷◌, ◌++◌, length, get_or, take, Result, sym, refl, subst}
use Rattle.std.proofs.lemmas.List.{take_more, take_all}
use Rattle.model.specs.declared.refusal.Refusal.{Refusal}
use Rattle.model.specs.declared.trail.Line.{Line}
use Rattle.model.specs.Graph.{Scope}
use Rattle.model.specs.Measures.{Measure}
use Rattle.session.specs.declared.call.Call.{Call}
use Rattle.session.specs.declared.call.Reply.{Reply}
use Rattle.session.specs.Sequences.{Answers, Sequence, Played}

module _ {C : Type 0} (m : Measure C) where
  pub sequence_more : (cs : List Call) (bs : List (Result (Reply C) Refusal)) (c : Call) (a : Result (Reply C) Refusal) (g h k : List Scope) (work w v : List C) (trail t u : List Line) →
      Sequence m cs bs g work trail h w t → Answers m c a h w t k v u → Sequence m (cs ++ (c ∷ [])) (bs ++ (a ∷ [])) g work trail k v u
  sequence_more [] [] c a g h k work w v trail t u (p, q, r) s =
      (k, v, u, subst (λ (x : List Scope). Answers m c a x work trail k v u) p (subst (λ (x : List C). Answers m c a h x trail k v u) q (subst (λ (x : List Line). Answers m c a h w x k v u) r s)), (refl, refl, refl))
  sequence_more [] (b ∷ bs) c a g h k work w v trail t u p s = absurd p
  sequence_more (d ∷ cs) [] c a g h k work w v trail t u p s = absurd p
  sequence_more (d ∷ cs) (b ∷ bs) c a g h k work w v trail t u (g₁, w₁, t₁, p, q) s = (g₁, w₁, t₁, p, sequence_more cs bs c a g₁ h k w₁ w v t₁ t u q s)

  -- the call at place i
  pub sequence_next : (calls : List Call) (i : ℕ) (d : Call) (bs cs : List (Result (Reply C) Refusal)) (a : Result (Reply C) Refusal) (h k : List Scope) (work w v : List C) (trail t u : List Line) → i < length calls → cs ≡ bs ++ (a ∷ []) →
      Sequence m (take i calls) bs [] work trail h w t → Answers m (get_or calls i d) a h w t k v u → Sequence m (take (i + 1) calls) cs [] work trail k v u
  sequence_next calls i d bs cs a h k work w v trail t u l e p s =
      subst (λ (x : List (Result (Reply C) Refusal)). Sequence m (take (i + 1) calls) x [] work trail k v u) (sym e)
      (subst (λ (x : List Call). Sequence m x (bs ++ (a ∷ [])) [] work trail k v u) (sym (take_more calls i d l)) (sequence_more (take i calls) bs (get_or calls i d) a [] h k work w v trail t u p s))

  -- with each call answered, the whole list is played
  pub all_played : (calls : List Call) (i : ℕ) (bs : List (Result (Reply C) Refusal)) (g : List Scope) (work w : List C) (trail t : List Line) → length calls ≤ i → Sequence m (take i calls) bs [] work trail g w t → Played m calls bs work trail w t
  all_played calls i bs g work w trail t h s = (g, subst (λ (cs : List Call). Sequence m cs bs [] work trail g w t) (take_all i calls h) s)

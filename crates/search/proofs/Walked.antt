-- The walk along the choices of a right table costs what the table says.
use Rattle.std.proofs.Common.{◌≡◌, ℕ, ◌<◌, true, List, [], ◌∷◌, get_or, is_some, Some, None, Option, sym, refl, ap, ◌∙◌, subst, ap₂, arith}
use Rattle.std.specs.List.{slice_get}
use Rattle.model.specs.declared.graph.Target.{Target}
use Rattle.model.specs.declared.graph.Target.TheVariants.{To, Again, Leave}
use Rattle.model.specs.declared.graph.Edge.{Edge}
use Rattle.model.specs.Measures.{Measure, Laws}
use Rattle.model.specs.Best.{joined}
use Rattle.model.specs.Ways.{IsWay, way_cost}
use Rattle.model.proofs.Bests.{none_some, some_same, joined_both}
use Rattle.search.specs.declared.ending.Ending.{Ending}
use Rattle.search.specs.declared.ending.Ending.TheVariants.{Again as Repeat, Leave as Exit}
use Rattle.search.specs.declared.flow.Flow.{Flow}
use Rattle.search.specs.Endings.{stop}
use Rattle.search.specs.Flows.{edges_of}
use Rattle.search.specs.Tables.{kept_by, entry, offer, IsEntry}
use Rattle.search.specs.Ways.{Follows, Guides}
use Rattle.search.proofs.Held.{flow_forward}

kept_there : {C : Type 0} (o : Option ℕ) (x : Option C) (c : C) → kept_by o x ≡ Some c → is_some o ≡ true
kept_there None x c q = absurd (none_some q)
kept_there (Some e) x c q = refl

-- what an edge to node v offers, if anything
offer_to : {C : Type 0} (m : Measure C) (o : Option C) (v : ℕ) (end : Ending) (table : List C) (choices : List (Option ℕ)) (c : C) → offer m o (To v) end table choices ≡ Some c →
    (a : C) × (b : C) × (o ≡ Some a) × (entry table choices v ≡ Some b) × (m.join a b ≡ c)
offer_to m None v end table choices c q = absurd (none_some q)
offer_to m (Some a) v end table choices c q = joined_both m (Some a) (entry table choices v) c q

-- an edge to an ending offers its value if it is the right one
offer_end : {C : Type 0} (m : Measure C) (o : Option C) (t : Target) (end : Ending) (table : List C) (choices : List (Option ℕ)) (c : C) → ((v : ℕ) → t ≡ To v → ⊥) → offer m o t end table choices ≡ Some c → (o ≡ Some c) × (t ≡ stop end)
offer_end m None t end table choices c away q = absurd (none_some q)
offer_end m (Some a) (To v) end table choices c away q = absurd (away v refl)
offer_end m (Some a) Again Repeat table choices c away q = (q, refl)
offer_end m (Some a) Again Exit table choices c away q = absurd (none_some q)
offer_end m (Some a) Leave Repeat table choices c away q = absurd (none_some q)
offer_end m (Some a) Leave Exit table choices c away q = (q, refl)

module _ {C : Type 0} {m : Measure C} (laws : Laws m) (value : ℕ → Option C) (f : Flow) (end : Ending) (table : List C) (choices : List (Option ℕ))
    (entries : (k : ℕ) → k < f.nodes → IsEntry m value (edges_of f) end table choices k) where
  pub guided : Guides (edges_of f) choices f.nodes
  guided k e h q =
      let l = (entries k h).linked e q in
      let x = l.2.0 in
      let n = l.2.1 in
      let s = l.2.2 in
      let off = l.2.3 in (
        x,
        n,
        λ v t.
            let w = (flow_forward f e x n).1 v t in
            let o = offer_to m (value e) v end table choices l.0 (subst (λ p. offer m (value e) p end table choices ≡ Some l.0) t off) in
            (omega (arith, w.0), w.1, kept_there (get_or choices v None) (slice_get table v) o.1 o.3),
      )

  chosen_cost : (k e : ℕ) (c : C) → get_or choices k None ≡ Some e → entry table choices k ≡ Some c → slice_get table k ≡ Some c
  chosen_cost k e c q h = sym (ap (λ o. kept_by o (slice_get table k)) q) ∙ h

  pub followed : (es : List ℕ) (k : ℕ) → k < f.nodes → Follows (edges_of f) choices (To k) es → (c : C) → entry table choices k ≡ Some c → IsWay (edges_of f) (To k) (stop end) es × (way_cost m value es ≡ Some c)
  followed [] k h w c q = absurd w
  followed (e ∷ es) k h (chosen, (x, there, rest)) c q =
      let l = (entries k h).linked e chosen in
      let same : l.2.0 ≡ x = some_same (sym l.2.1 ∙ there) in
      let starts : x.from ≡ k = ap (λ (z : Edge). z.from) (sym same) ∙ l.2.2 in
      let cost : l.0 ≡ c = some_same (sym l.1 ∙ chosen_cost k e c chosen q) in
      let off : offer m (value e) x.to end table choices ≡ Some c = ap (λ (z : Edge). offer m (value e) z.to end table choices) (sym same) ∙ l.2.3 ∙ ap Some cost in
      go x.to refl off rest starts (λ v t. followed es v ((flow_forward f e x there).1 v t).1)
    where
      Goal : Type 0
      Goal = IsWay (edges_of f) (To k) (stop end) (e ∷ es) × (way_cost m value (e ∷ es) ≡ Some c)

      ended : (t : Target) → x.to ≡ t → ((v : ℕ) → t ≡ To v → ⊥) → offer m (value e) x.to end table choices ≡ Some c → es ≡ [] → x.from ≡ k → Goal
      ended t p away off none starts =
          let o = offer_end m (value e) x.to end table choices c (λ v q. away v (sym p ∙ q)) off in (
            (x, there, ap To (sym starts), subst (λ ws. IsWay (edges_of f) x.to (stop end) ws) (sym none) o.1),
            ap₂ (joined m) o.0 (ap (way_cost m value) none) ∙ ap Some (laws.right c),
          )

      go : (t : Target) → x.to ≡ t → offer m (value e) x.to end table choices ≡ Some c → Follows (edges_of f) choices t es → x.from ≡ k →
          ((v : ℕ) → x.to ≡ To v → Follows (edges_of f) choices (To v) es → (b : C) → entry table choices v ≡ Some b → IsWay (edges_of f) (To v) (stop end) es × (way_cost m value es ≡ Some b)) → Goal
      go (To v) p off rest starts more =
          let o = offer_to m (value e) v end table choices c (subst (λ q. offer m (value e) q end table choices ≡ Some c) p off) in
          let r = more v p rest o.1 o.3 in (
            (x, there, ap To (sym starts), subst (λ q. IsWay (edges_of f) q (stop end) es) (sym p) r.0),
            ap₂ (joined m) o.2 r.1 ∙ ap Some o.4,
          )
      go Again p off rest starts more = ended Again p (λ v q. let z : ◌≡◌ {A = ℕ} 0 1 = cc in omega arith) off (nothing_more es rest) starts
        where
          nothing_more : (ws : List ℕ) → Follows (edges_of f) choices Again ws → ws ≡ []
          nothing_more [] w = refl
          nothing_more (w ∷ ws) v = absurd v
      go Leave p off rest starts more = ended Leave p (λ v q. let z : ◌≡◌ {A = ℕ} 0 1 = cc in omega arith) off (nothing_more es rest) starts
        where
          nothing_more : (ws : List ℕ) → Follows (edges_of f) choices Leave ws → ws ≡ []
          nothing_more [] w = refl
          nothing_more (w ∷ ws) v = absurd v

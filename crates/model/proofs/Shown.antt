-- The run that goes the ways which a section shows: it is a run, it costs what its ways cost, and the section shows it.
use Rattle.std.proofs.Common.{◌≡◌, ℕ, zero, suc, ◌+◌, ◌-◌, ◌<◌, ◌≤◌, min, List, [], ◌∷◌, ◌++◌, length, replicate, Some, None, Option, sym, refl, ap, ◌∙◌, subst, ap₂, subst₂, append_assoc, append-nil, arith, length-append}
use lib.ListN.{length-replicate}
use Rattle.model.specs.declared.graph.Node.{Node}
use Rattle.model.specs.declared.graph.Node.TheVariants.{Block, Call}
use Rattle.model.specs.declared.graph.Edge.{Edge}
use Rattle.model.specs.declared.graph.Target.{Target}
use Rattle.model.specs.declared.graph.Target.TheVariants.{To, Again, Leave}
use Rattle.model.specs.declared.trail.Line.{Line}
use Rattle.std.specs.List.{slice_get}
use Rattle.model.specs.Graph.{Scope}
use Rattle.model.specs.Measures.{Measure, Laws}
use Rattle.model.specs.Best.{IsBest, power}
use Rattle.model.specs.Runs.{Run, Passes, IsRun, ArePasses, Meets, executed, count, run_cost, passes_cost, walk_cost}
use Rattle.model.specs.Runs.Run.{run}
use Rattle.model.specs.Trail.{Group, Shows, PassesShown, WalkShown, InsideShown, ways_of, unrolled, AreGroups, AreRanges, IsRange}
use Rattle.model.specs.Ways.{IsWay, IsPassWay, IsPass, way_cost, RunCost, IsValue, AreValues, AreBest, inside_from, inside_of, walk_along, passes_along, AreFrontWays}
use Rattle.model.proofs.Bests.{joined_both}
use Rattle.model.proofs.Lifting.{along, way_along}
use Rattle.model.proofs.Passes.{is_run, run_cost_is}
use Rattle.model.proofs.Facts.{range_way}

-- the ways of the passes along ways
pub ways_along : (chosen : ℕ → Run) (s : Scope) (ws : List (List ℕ)) (w : List ℕ) → ways_of (passes_along chosen s ws w) ≡ ws ++ (w ∷ [])
ways_along chosen s [] w = ap (λ v. v ∷ []) (way_along chosen s w)
ways_along chosen s (v ∷ vs) w = ap₂ ◌∷◌ (way_along chosen s v) (ways_along chosen s vs w)

pub count_along : (chosen : ℕ → Run) (s : Scope) (ws : List (List ℕ)) (w : List ℕ) → count (passes_along chosen s ws w) ≡ suc (length ws)
count_along chosen s [] w = refl
count_along chosen s (v ∷ vs) w = ap suc (count_along chosen s vs w)

-- the chosen run of each scope that s calls and that has one is shown
abbrev pub AreShown : {C : Type 0} → Measure C → List Scope → List Line → Scope → (ℕ → Run) → Type 0
AreShown m g trail s chosen = (n t : ℕ) (b : _) → slice_get s.nodes n ≡ Some (Call t) → IsBest m (RunCost m g t) (Some b) → Shows g trail t (chosen t)

-- in each executed call stands the run that is shown
module _ {C : Type 0} (m : Measure C) (g : List Scope) (trail : List Line) (chosen : ℕ → Run) (s : Scope) (shown : AreShown m g trail s chosen) (value : ℕ → Option C) (vals : AreValues m g s value) where
  inside_shown : (x : Edge) (n : Option Node) (v : Option C) (c : C) → slice_get s.nodes x.from ≡ n → IsValue m g x n v → v ≡ Some c → InsideShown g trail (inside_from chosen n)
  inside_shown x None v c q val e = tt
  inside_shown x (Some (Block time stack)) v c q val e = tt
  inside_shown x (Some (Call t)) v c q val e =
      let j = joined_both m val.0 _ c (sym val.2 ∙ e) in
      shown x.from t j.0 q (subst (IsBest m (RunCost m g t)) j.2 val.1)

  pub walk_shown : (from end : Target) (es : List ℕ) (c : C) → IsWay s.edges from end es → way_cost m value es ≡ Some c → WalkShown g trail (walk_along chosen s es)
  walk_shown from end [] c h e = tt
  walk_shown from end (k ∷ es) c h e =
      let j = joined_both m (value k) (way_cost m value es) c e in (
        subst (λ o. InsideShown g trail (inside_of chosen s o)) (sym h.1) (inside_shown h.0 (slice_get s.nodes h.0.from) (value k) j.0 refl (vals k h.0 h.1) j.2),
        walk_shown h.0.to end es j.1 h.3 j.3,
      )

  pub passes_shown : (k n : ℕ) (ws : List (List ℕ)) (w : List ℕ) (a b : C) → AreFrontWays m value s k ws a → IsPassWay s.edges s.facts n Leave w → way_cost m value w ≡ Some b → PassesShown g trail (passes_along chosen s ws w)
  passes_shown k n [] w a b f h e = walk_shown (To 0) Leave w b h.0 e
  passes_shown k n (v ∷ vs) w a b (a₁, a₂, hv, ev, rest, f) h e = (walk_shown (To 0) Again v a₁ hv.0 ev, passes_shown (suc k) n vs w a₂ b rest h e)

module _ {C : Type 0} {m : Measure C} (laws : Laws m) (g : List Scope) (s : Scope) (value : ℕ → Option C) (vals : AreValues m g s value) (chosen : ℕ → Run) (bests : AreBest m g s chosen) where
  -- a pass along its way
  pub pass_along : (k : ℕ) (end : Target) (w : List ℕ) (c : C) → IsPassWay s.edges s.facts k end w → way_cost m value w ≡ Some c →
      IsPass g s k end (walk_along chosen s w) × (walk_cost m g s (walk_along chosen s w) ≡ c)
  pass_along k end w c h e =
      let a = along laws g s chosen bests value vals (To 0) end w c h.0 e in
      ((a.0, subst (λ es. Meets s.facts k (executed s.edges es)) (sym (way_along chosen s w)) h.1), a.1)

  -- passes along their ways
  pub are_passes : (k n : ℕ) (ws : List (List ℕ)) (w : List ℕ) (a b : C) → AreFrontWays m value s k ws a → n ≡ k + length ws → IsPassWay s.edges s.facts n Leave w → way_cost m value w ≡ Some b →
      ArePasses g s k (passes_along chosen s ws w) × (passes_cost m g s (passes_along chosen s ws w) ≡ m.join a b)
  are_passes k n [] w a b f e h q =
      let e' : n ≡ k = omega arith in
      let r = pass_along n Leave w b h q in
      (subst (λ x. IsPass g s x Leave (walk_along chosen s w)) e' r.0, r.1 ∙ sym (laws.left b) ∙ ap (λ x. m.join x b) (sym f))
  are_passes k n (v ∷ vs) w a b (a₁, a₂, hv, ev, rest, f) e h q =
      let p = pass_along k Again v a₁ hv ev in
      let r = are_passes (suc k) n vs w a₂ b rest (omega arith) h q in
      ((p.0, r.0), ap₂ m.join p.1 r.1 ∙ sym (laws.assoc a₁ a₂ b) ∙ ap (λ x. m.join x b) (sym f))

  -- the run along its ways
  pub run_along : (i : ℕ) → slice_get g i ≡ Some s → (ws : List (List ℕ)) (w : List ℕ) (a b : C) → s.least ≤ suc (length ws) → suc (length ws) ≤ s.most →
      AreFrontWays m value s 1 ws a → IsPassWay s.edges s.facts (suc (length ws)) Leave w → way_cost m value w ≡ Some b →
      IsRun g i (run (passes_along chosen s ws w)) × (run_cost m g i (run (passes_along chosen s ws w)) ≡ m.join a b)
  run_along i there ws w a b least most f h q =
      let r = are_passes 1 (suc (length ws)) ws w a b f (omega arith) h q in
      let n = count_along chosen s ws w in
      (is_run g s i there (passes_along chosen s ws w) (omega arith) (omega arith) r.0, run_cost_is g s i there m (passes_along chosen s ws w) ∙ r.1)

-- ways one after the other, and the same way again and again
module _ {C : Type 0} {m : Measure C} (laws : Laws m) (s : Scope) (value : ℕ → Option C) where
  pub front_both : (k n : ℕ) (ws vs : List (List ℕ)) (a b : C) → AreFrontWays m value s k ws a → n ≡ k + length ws → AreFrontWays m value s n vs b → AreFrontWays m value s k (ws ++ vs) (m.join a b)
  front_both k n [] vs a b f e h =
      let e' : n ≡ k = omega arith in
      subst₂ (λ x y. AreFrontWays m value s x vs y) e' (sym (ap (λ x. m.join x b) f ∙ laws.left b)) h
  front_both k n (w ∷ ws) vs a b (a₁, a₂, hw, ew, rest, f) e h =
      (a₁, m.join a₂ b, hw, ew, front_both (suc k) n ws vs a₂ b rest (omega arith) h, ap (λ x. m.join x b) f ∙ laws.assoc a₁ a₂ b)

  pub front_same : (k j : ℕ) (w : List ℕ) (c : C) → way_cost m value w ≡ Some c → ((i : ℕ) → k ≤ i → i < k + j → IsPassWay s.edges s.facts i Again w) → AreFrontWays m value s k (replicate j w) (power m c j)
  front_same k zero w c e h = refl
  front_same k (suc j) w c e h =
      (c, power m c j, h k (omega arith) (omega arith), e, front_same (suc k) j w c e (λ i u v. h i (omega arith) (omega arith)), refl)

-- the ways of groups one after the other
pub unrolled_both : (xs ys : List Group) → unrolled (xs ++ ys) ≡ unrolled xs ++ unrolled ys
unrolled_both [] ys = refl
unrolled_both (x ∷ xs) ys = ap (λ t. replicate (suc x.last - x.first) x.way ++ t) (unrolled_both xs ys) ∙ sym (append_assoc (replicate (suc x.last - x.first) x.way) (unrolled xs) (unrolled ys))

-- ranges k to d have a way for each pass
pub ranges_length : (s : Scope) (k d : ℕ) (xs : List Group) → AreRanges s k d xs → k + length (unrolled xs) ≡ suc d
ranges_length s k d [] h = omega arith
ranges_length s k d (x ∷ xs) h =
    let r = ranges_length s (suc x.last) d xs h.2 in
    simp (length-append, length-replicate) (omega (arith, h.1.some))

abbrev pub group : ℕ → ℕ → List ℕ → Group
group a b w = record { first = a; last = b; way = w }

-- one whole range more, which goes the way v
pub ranges_push : (s : Scope) (k d b : ℕ) (xs : List Group) (v : List ℕ) → AreRanges s k d xs → IsRange s (suc d) b → AreRanges s k b (xs ++ (group (suc d) b v ∷ []))
ranges_push s k d b [] v h r = (sym h, subst (λ x. IsRange s x b) (sym h) r, refl)
ranges_push s k d b (x ∷ xs) v h r = (h.0, h.1, ranges_push s (suc x.last) d b xs v h.2 r)

pub fronts_push : {C : Type 0} {m : Measure C} → Laws m → (s : Scope) (value : ℕ → Option C) (d b : ℕ) (xs : List Group) (v : List ℕ) (a c : C) → AreRanges s 1 d xs → IsRange s (suc d) b →
    AreFrontWays m value s 1 (unrolled xs) a → IsPassWay s.edges s.facts (suc d) Again v → way_cost m value v ≡ Some c →
    AreFrontWays m value s 1 (unrolled (xs ++ (group (suc d) b v ∷ []))) (m.join a (power m c (b - d)))
fronts_push {m = m} laws s value d b xs v a c h r f hv ev =
    let n = ranges_length s 1 d xs h in
    let some = r.some in
    let j : suc b - suc d ≡ b - d = omega arith in
    let same : AreFrontWays m value s (suc d) (replicate (b - d) v) (power m c (b - d)) = front_same laws s value (suc d) (b - d) v c ev (λ k u t. range_way s d b r Again v hv k u (omega arith)) in
    let e : unrolled (xs ++ (group (suc d) b v ∷ [])) ≡ unrolled xs ++ replicate (b - d) v =
    unrolled_both xs (group (suc d) b v ∷ []) ∙ ap (λ t. unrolled xs ++ t) (append-nil (replicate (suc b - suc d) v) ∙ ap (λ k. replicate k v) j) in
    subst (λ ws. AreFrontWays m value s 1 ws (m.join a (power m c (b - d)))) (sym e) (front_both laws s value 1 (suc d) (unrolled xs) (replicate (b - d) v) a (power m c (b - d)) f (sym n) same)

module _ (s : Scope) (p : ℕ) where
  groups_more : (k : ℕ) (x : Group) (ys : List Group) → k < p → x.first ≡ k → ((b : ℕ) × IsRange s k b × (x.last ≡ min b (p - 1))) → AreGroups s p (suc x.last) ys → AreGroups s p k (x ∷ ys)
  groups_more k x [] h f r t = absurd t
  groups_more k x (y ∷ ys) h f r t = (h, f, r, t)

  -- whole ranges before pass p, and then the rest
  pub groups_after : (k d : ℕ) (xs ys : List Group) → AreRanges s k d xs → d < p → AreGroups s p (suc d) ys → AreGroups s p k (xs ++ ys)
  groups_after k d [] ys h lt t = subst (λ x. AreGroups s p x ys) (sym h) t
  groups_after k d (x ∷ xs) ys h lt t =
      let n = ranges_length s (suc x.last) d xs h.2 in
      let some = h.1.some in
      groups_more k x (xs ++ ys) (omega arith) h.0 (x.last, h.1, omega arith) (groups_after (suc x.last) d xs ys h.2 lt t)

-- the groups of the range that pass p stands in: its front before p goes the way v, and p the way w
pub record AreLast (s : Scope) (p d : ℕ) (v w : List ℕ) (ys : List Group) : Type 0 where
  pub groups : AreGroups s p (suc d) ys
  pub ways : unrolled ys ≡ replicate (p - suc d) v ++ (w ∷ [])

pub last_alone : (s : Scope) (d : ℕ) (v w : List ℕ) → AreLast s (suc d) d v w (group (suc d) (suc d) w ∷ [])
last_alone s d v w =
    let one : suc (suc d) - suc d ≡ 1 = omega arith in
    let none : suc d - suc d ≡ 0 = omega arith in
    record { groups = (refl, refl, refl); ways = rw (one, none) refl }

pub last_cut : (s : Scope) (p d b : ℕ) (v w : List ℕ) → IsRange s (suc d) b → suc d < p → p ≤ b → AreLast s p d v w (group (suc d) (p - 1) v ∷ (group p p w ∷ []))
last_cut s p d b v w r lo hi =
    let front : suc (p - 1) - suc d ≡ p - suc d = omega arith in
    let one : suc p - p ≡ 1 = omega arith in
    record { groups = (lo, refl, (b, r, omega arith), (omega arith, refl, refl)); ways = rw (front, one) refl }

module _ {C : Type 0} {m : Measure C} (laws : Laws m) (g : List Scope) (s : Scope) (value : ℕ → Option C) (vals : AreValues m g s value) (chosen : ℕ → Run) (bests : AreBest m g s chosen) where
  -- the run of p passes that goes the ways of the groups
  pub group_run : (i : ℕ) → slice_get g i ≡ Some s → (d b p : ℕ) (xs ys : List Group) (v w : List ℕ) (a c l : C) →
      AreRanges s 1 d xs → AreFrontWays m value s 1 (unrolled xs) a → IsRange s (suc d) b → d < p → p ≤ b → s.least ≤ p → p ≤ s.most →
      (suc d < p → IsPassWay s.edges s.facts (suc d) Again v × (way_cost m value v ≡ Some c)) → IsPassWay s.edges s.facts (suc d) Leave w → way_cost m value w ≡ Some l → AreLast s p d v w ys →
      (ps : Passes) × IsRun g i (run ps) × (run_cost m g i (run ps) ≡ m.join (m.join a (power m c (p - suc d))) l) × AreGroups s p 1 (xs ++ ys) × (ways_of ps ≡ unrolled (xs ++ ys)) ×
      ((trail : List Line) → AreShown m g trail s chosen → PassesShown g trail ps)
  group_run i there d b p xs ys v w a c l ranges front range lo hi least most hv hw el last =
      let ws : List (List ℕ) = unrolled xs ++ replicate (p - suc d) v in
      let e : 1 + length (unrolled xs) ≡ suc d = ranges_length s 1 d xs ranges in
      let n : suc (length ws) ≡ p = simp (length-append, length-replicate) (omega arith) in
      let front' : AreFrontWays m value s 1 ws (m.join a (power m c (p - suc d))) = front_both laws s value 1 (suc d) (unrolled xs) (replicate (p - suc d) v) a (power m c (p - suc d)) front (sym e) (same (p - suc d) (omega arith)) in
      let r = run_along laws g s value vals chosen bests i there ws w (m.join a (power m c (p - suc d))) l (omega arith) (omega arith) front'
      (subst (λ k. IsPassWay s.edges s.facts k Leave w) (sym n) (range_way s d b range Leave w hw p lo hi)) el in (
        passes_along chosen s ws w,
        r.0,
        r.1,
        groups_after s p 1 d xs ys ranges lo last.groups,
        ways_along chosen s ws w ∙ append_assoc (unrolled xs) (replicate (p - suc d) v) (w ∷ []) ∙ ap (λ t. unrolled xs ++ t) (sym last.ways) ∙ sym (unrolled_both xs ys),
        λ trail shown. passes_shown m g trail chosen s shown value vals 1 (suc d) ws w _ l front' hw el,
      )
    where
      same : (j : ℕ) → j ≡ p - suc d → AreFrontWays m value s (suc d) (replicate j v) (power m c j)
      same zero e = refl
      same (suc j) e =
          let h = hv (omega arith) in
          front_same laws s value (suc d) (suc j) v c h.1 (λ k u t. range_way s d b range Again v h.0 k u (omega arith))

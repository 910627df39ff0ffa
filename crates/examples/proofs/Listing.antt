-- All runs of a small graph, listed by the words of the definitions.
use Rattle.std.proofs.Common.{◌≡◌, ℕ, zero, suc, ◌≤◌, Bool, true, false, not, ◌&&◌, ◌||◌, leb, List, [], ◌∷◌, ◌++◌, map, length, Some, None, Option, sym, refl, ◌∙◌, subst, inl, ⊎_elim, arith}
use Rattle.std.specs.List.{slice_get, flat_map}
use Rattle.std.proofs.lemmas.Bool.{true≢false, and_parts, leb-true, le-leb}
use Rattle.model.specs.declared.graph.Node.{Node}
use Rattle.model.specs.declared.graph.Node.TheVariants.{Block, Call}
use Rattle.model.specs.declared.graph.Target.{Target}
use Rattle.model.specs.declared.graph.Target.TheVariants.{To, Again, Leave}
use Rattle.model.specs.declared.graph.Edge.{Edge}
use Rattle.model.specs.Graph.{Scope}
use Rattle.model.specs.Runs.{Run, Passes, Walk, Inside, count, way_of, executed, Meets, IsRun, ArePasses, IsWalk, Holds}
use Rattle.model.specs.Runs.Run.{run}
use Rattle.model.specs.Runs.Passes.{final, then}
use Rattle.model.specs.Runs.Walk.{done, step}
use Rattle.model.specs.Runs.Inside.{block, call}
use Rattle.std.proofs.lemmas.Option.{slice_get_within}
use Rattle.examples.proofs.Sets.{In, Lists, in_left, in_right, in_either, only, when, in_when, when_in, in_map, map_in, in_joined, joined_in, those, in_those, those_in, below, in_below, each, each_in, nth_in}
use Rattle.examples.proofs.Facts.{meets, decides_meets, same_place, place_same, same_from}

-- what a node holds, if the runs of the called scopes are listed
abbrev pub held : (ℕ → List Run) → Option Node → List Inside
held runs_of None = []
held runs_of (Some (Block time stack)) = block ∷ []
held runs_of (Some (Call t)) = map (call t) (runs_of t)

-- the walks that begin with edge number e, if those behind it are listed
abbrev pub along : (ℕ → List Run) → Scope → (Target → List Walk) → Target → ℕ → Option Edge → List Walk
along runs_of s rest from e None = []
along runs_of s rest from e (Some x) = when (same_place from (To x.from)) (flat_map (λ i. map (step i e) (rest x.to)) (held runs_of (slice_get s.nodes x.from)))

-- the walks of fewer than f edges
abbrev pub walks : (ℕ → List Run) → Scope → Target → ℕ → Target → List Walk
walks runs_of s end zero from = []
walks runs_of s end (suc f) from = when (same_place from end) (done ∷ []) ++ flat_map (λ e. along runs_of s (walks runs_of s end f) from e (slice_get s.edges e)) (below (length s.edges))

-- no walk from here has f edges or more
abbrev pub enough : Scope → ℕ → Target → Bool
enough s zero from = false
enough s (suc f) from = each (λ x. not (same_place from (To x.from)) || enough s f x.to) s.edges

if_then : (a b : Bool) → (not a || b) ≡ true → a ≡ true → b ≡ true
if_then true b e h = e
if_then false b e h = absurd (true≢false (sym h))

module _ (g : List Scope) (s : Scope) (runs_of : ℕ → List Run) (called : (n t : ℕ) → slice_get s.nodes n ≡ Some (Call t) → Lists (IsRun g t) (runs_of t)) where
  held_sound : (n : ℕ) (o : Option Node) → slice_get s.nodes n ≡ o → (i : Inside) → In i (held runs_of o) → Holds g s n i
  held_sound n None e i h = absurd h
  held_sound n (Some (Block time stack)) e i h = let P : Inside → Type 0 = λ j. Holds g s n j in subst P (sym (only i block h)) (time, stack, e)
  held_sound n (Some (Call t)) e i h =
      let r = map_in (call t) i (runs_of t) h in
      let P : Inside → Type 0 = λ j. Holds g s n j in
      subst P (sym r.2) (e, (called n t e).sound r.0 r.1)

  held_complete : (n : ℕ) (i : Inside) → Holds g s n i → In i (held runs_of (slice_get s.nodes n))
  held_complete n block h = rw h.2 (inl refl)
  held_complete n (call t r) h = rw h.0 (in_map (call t) r (runs_of t) ((called n t h.0).complete r h.1))

  along_sound : (end from : Target) (rest : Target → List Walk) → ((t : Target) (w : Walk) → In w (rest t) → IsWalk g s t end w) → (e : ℕ) (o : Option Edge) → slice_get s.edges e ≡ o → (w : Walk) → In w (along runs_of s rest from e o) → IsWalk g s from end w
  along_sound end from rest ok e None q w h = absurd h
  along_sound end from rest ok e (Some x) q w h =
      let t = when_in w (same_place from (To x.from)) (flat_map (λ i. map (step i e) (rest x.to)) (held runs_of (slice_get s.nodes x.from))) h in
      let u = joined_in (λ i. map (step i e) (rest x.to)) w (held runs_of (slice_get s.nodes x.from)) t.1 in
      let v = map_in (step u.0 e) w (rest x.to) u.2 in
      let W : Walk → Type 0 = λ z. IsWalk g s from end z in
      subst W (sym v.2) (x, q, place_same from (To x.from) t.0, held_sound x.from (slice_get s.nodes x.from) refl u.0 u.1, ok x.to v.0 v.1)

  pub walks_sound : (f : ℕ) (end from : Target) (w : Walk) → In w (walks runs_of s end f from) → IsWalk g s from end w
  walks_sound zero end from w h = absurd h
  walks_sound (suc f) end from w h =
      let W : Walk → Type 0 = λ v. IsWalk g s from end v in
      let by : ℕ → List Walk = λ e. along runs_of s (walks runs_of s end f) from e (slice_get s.edges e) in
      ⊎_elim
      (λ k. let t = when_in w (same_place from end) (done ∷ []) k in subst W (sym (only w done t.1)) (place_same from end t.0))
      (λ k. let t = joined_in by w (below (length s.edges)) k in along_sound end from (walks runs_of s end f) (walks_sound f end) t.0 (slice_get s.edges t.0) refl w t.2)
      (in_either w (when (same_place from end) (done ∷ [])) (flat_map by (below (length s.edges))) h)

  along_complete : (from : Target) (rest : Target → List Walk) (e : ℕ) (x : Edge) (i : Inside) (w : Walk) → from ≡ To x.from → Holds g s x.from i → In w (rest x.to) → In (step i e w) (along runs_of s rest from e (Some x))
  along_complete from rest e x i w p h k =
      in_when (step i e w) (same_place from (To x.from)) (flat_map (λ j. map (step j e) (rest x.to)) (held runs_of (slice_get s.nodes x.from))) (same_from from (To x.from) p)
      (in_joined (λ j. map (step j e) (rest x.to)) i (step i e w) (held runs_of (slice_get s.nodes x.from)) (held_complete x.from i h) (in_map (step i e) w (rest x.to) k))

  pub walks_complete : (f : ℕ) (end from : Target) → enough s f from ≡ true → (w : Walk) → IsWalk g s from end w → In w (walks runs_of s end f from)
  walks_complete zero end from n w h = absurd (true≢false (sym n))
  walks_complete (suc f) end from n done h =
      in_left done (when (same_place from end) (done ∷ [])) _ (in_when done (same_place from end) (done ∷ []) (same_from from end h) (inl refl))
  walks_complete (suc f) end from n (step i e w) h =
      let x = h.0 in
      let by : ℕ → List Walk = λ a. along runs_of s (walks runs_of s end f) from a (slice_get s.edges a) in
      let on : enough s f x.to ≡ true = if_then (same_place from (To x.from)) (enough s f x.to) (each_in (λ y. not (same_place from (To y.from)) || enough s f y.to) s.edges x n (nth_in s.edges e x h.1)) (same_from from (To x.from) h.2) in
      let P : Option Edge → Type 0 = λ o. In (step i e w) (along runs_of s (walks runs_of s end f) from e o) in
      in_right (step i e w) (when (same_place from end) (done ∷ [])) (flat_map by (below (length s.edges)))
      (in_joined by e (step i e w) (below (length s.edges)) (in_below e (length s.edges) (slice_get_within s.edges e x h.1))
      (subst P (sym h.1) (along_complete from (walks runs_of s end f) e x i w h.2 h.3 (walks_complete f end x.to on w h.4))))

-- more than the edges of any walk, where node numbers rise along edges
abbrev pub most_edges : Scope → ℕ
most_edges s = suc (length s.nodes)

-- the walks of pass number k to an end
abbrev pub allowed : (ℕ → List Run) → Scope → ℕ → Target → List Walk
allowed runs_of s k end = those (λ w. meets s.facts k (executed s.edges (way_of w))) (walks runs_of s end (most_edges s) (To 0))

-- at most f passes, from number k on
abbrev pub passes : (ℕ → List Run) → Scope → ℕ → ℕ → List Passes
passes runs_of s zero k = []
passes runs_of s (suc f) k = map final (allowed runs_of s k Leave) ++ flat_map (λ w. map (then w) (passes runs_of s f (suc k))) (allowed runs_of s k Again)

module _ (g : List Scope) (s : Scope) (runs_of : ℕ → List Run) (called : (n t : ℕ) → slice_get s.nodes n ≡ Some (Call t) → Lists (IsRun g t) (runs_of t)) (short : enough s (most_edges s) (To 0) ≡ true) where
  allowed_list : (k : ℕ) (end : Target) → Lists (λ w. IsWalk g s (To 0) end w × Meets s.facts k (executed s.edges (way_of w))) (allowed runs_of s k end)
  allowed_list k end =
      let test : Walk → Bool = λ w. meets s.facts k (executed s.edges (way_of w)) in
      let all : List Walk = walks runs_of s end (most_edges s) (To 0) in
      record {
        sound = λ w h. let t = those_in test w all h in (walks_sound g s runs_of called (most_edges s) end (To 0) w t.1, (decides_meets s.facts k (executed s.edges (way_of w))).0 t.0);
        complete = λ w h. in_those test w all ((decides_meets s.facts k (executed s.edges (way_of w))).1 h.1) (walks_complete g s runs_of called (most_edges s) end (To 0) short w h.0);
      }

  passes_sound : (f k : ℕ) (ps : Passes) → In ps (passes runs_of s f k) → (count ps ≤ f) × ArePasses g s k ps
  passes_sound zero k ps h = absurd h
  passes_sound (suc f) k ps h =
      let P : Passes → Type 0 = λ qs. (count qs ≤ suc f) × ArePasses g s k qs in
      let more : Walk → List Passes = λ w. map (then w) (passes runs_of s f (suc k)) in
      ⊎_elim
      (λ u. let t = map_in final ps (allowed runs_of s k Leave) u in subst P (sym t.2) (omega arith, (allowed_list k Leave).sound t.0 t.1))
      (λ u. let t = joined_in more ps (allowed runs_of s k Again) u in
      let v = map_in (then t.0) ps (passes runs_of s f (suc k)) t.2 in
      let rest = passes_sound f (suc k) v.0 v.1 in
      subst P (sym v.2) (omega (arith, rest.0), ((allowed_list k Again).sound t.0 t.1, rest.1)))
      (in_either ps (map final (allowed runs_of s k Leave)) (flat_map more (allowed runs_of s k Again)) h)

  passes_complete : (f k : ℕ) (ps : Passes) → count ps ≤ f → ArePasses g s k ps → In ps (passes runs_of s f k)
  passes_complete zero k (final w) c h = absurd (omega arith)
  passes_complete zero k (then w ps) c h = absurd (omega arith)
  passes_complete (suc f) k (final w) c h =
      in_left (final w) (map final (allowed runs_of s k Leave)) _ (in_map final w (allowed runs_of s k Leave) ((allowed_list k Leave).complete w h))
  passes_complete (suc f) k (then w ps) c h =
      in_right (then w ps) (map final (allowed runs_of s k Leave)) _
      (in_joined (λ v. map (then v) (passes runs_of s f (suc k))) w (then w ps) (allowed runs_of s k Again) ((allowed_list k Again).complete w h.0)
      (in_map (then w) ps (passes runs_of s f (suc k)) (passes_complete f (suc k) ps (omega arith) h.1)))

-- the runs of a scope, with calls up to depth n
abbrev pub runs_in : (ℕ → List Run) → Option Scope → List Run
runs_in runs_of None = []
runs_in runs_of (Some s) = map run (those (λ ps. leb s.least (count ps)) (passes runs_of s s.most 1))

abbrev pub runs : List Scope → ℕ → ℕ → List Run
runs g zero i = []
runs g (suc n) i = runs_in (runs g n) (slice_get g i)

-- no walk is longer, and no call is deeper, than what is listed
abbrev pub deep_enough : (ℕ → Bool) → Node → Bool
deep_enough deep (Block time stack) = true
deep_enough deep (Call t) = deep t

abbrev pub covered_in : (ℕ → Bool) → Option Scope → Bool
covered_in deep None = true
covered_in deep (Some s) = enough s (most_edges s) (To 0) && each (deep_enough deep) s.nodes

abbrev pub covered : List Scope → ℕ → ℕ → Bool
covered g zero i = false
covered g (suc n) i = covered_in (covered g n) (slice_get g i)

some_apart : {X : Type 0} (x : X) → None ≡ Some x → ⊥
some_apart x e = let z : ◌≡◌ {A = ℕ} 0 1 = cc in omega arith

some_same : {X : Type 0} (x y : X) → Some x ≡ Some y → x ≡ y
some_same x y e = cc

runs_in_list : (g : List Scope) (runs_of : ℕ → List Run) (deep : ℕ → Bool) → ((t : ℕ) → deep t ≡ true → Lists (IsRun g t) (runs_of t)) → (i : ℕ) (o : Option Scope) → slice_get g i ≡ o → covered_in deep o ≡ true → Lists (IsRun g i) (runs_in runs_of o)
runs_in_list g runs_of deep lists i None e c = record { sound = λ r h. absurd h; complete = none }
  where
    none : (r : Run) → IsRun g i r → ⊥
    none (run ps) h = some_apart h.0 (sym e ∙ h.1)
runs_in_list g runs_of deep lists i (Some s) e c = record { sound = sound; complete = complete }
  where
    both : (enough s (most_edges s) (To 0) ≡ true) × (each (deep_enough deep) s.nodes ≡ true)
    both = and_parts (enough s (most_edges s) (To 0)) (each (deep_enough deep) s.nodes) c

    called : (n t : ℕ) → slice_get s.nodes n ≡ Some (Call t) → Lists (IsRun g t) (runs_of t)
    called n t q = lists t (each_in (deep_enough deep) s.nodes (Call t) both.1 (nth_in s.nodes n (Call t) q))

    long : Passes → Bool
    long ps = leb s.least (count ps)

    all : List Passes
    all = passes runs_of s s.most 1

    sound : (r : Run) → In r (map run (those long all)) → IsRun g i r
    sound r h =
        let t = map_in run r (those long all) h in
        let u = those_in long t.0 all t.1 in
        let v = passes_sound g s runs_of called both.0 s.most 1 t.0 u.1 in
        let P : Run → Type 0 = λ q. IsRun g i q in
        subst P (sym t.2) (s, e, leb-true s.least (count t.0) u.0, v.0, v.1)

    complete : (r : Run) → IsRun g i r → In r (map run (those long all))
    complete (run ps) h =
        let same : h.0 ≡ s = some_same h.0 s (sym h.1 ∙ e) in
        let P : Scope → Type 0 = λ z. (z.least ≤ count ps) × (count ps ≤ z.most) × ArePasses g z 1 ps in
        let t = subst P same (h.2, h.3, h.4) in
        in_map run ps (those long all) (in_those long ps all (le-leb s.least (count ps) t.0) (passes_complete g s runs_of called both.0 s.most 1 ps t.1 t.2))

pub runs_list : (g : List Scope) (n i : ℕ) → covered g n i ≡ true → Lists (IsRun g i) (runs g n i)
runs_list g zero i c = absurd (true≢false (sym c))
runs_list g (suc n) i c = runs_in_list g (runs g n) (covered g n) (runs_list g n) i (slice_get g i) refl c

-- A way that uses only the edges which a restriction allows is one that meets the restriction, and the other way round.
use Rattle.std.proofs.Common.{◌≡◌, ℕ, ◌<◌, ◌≤◌, Bool, true, false, not, ◌&&◌, eqb, ltb, ◌⊎◌, List, [], ◌∷◌, ◌++◌, Some, sym, refl, ap, ◌∙◌, subst, inl, inr, ⊎_elim, arith}
use Rattle.std.specs.List.{slice_get}
use Rattle.std.proofs.lemmas.Bool.{cases_eq, cases_lt, and_parts, eq-eqb, ne_eqb, ltb-false, lt-ltb, le-ltb, both_ways, cases_Bool}
use Rattle.std.proofs.lemmas.Bool.Decides.{nat_tests}
use Rattle.model.specs.declared.graph.Target.{Target}
use Rattle.model.specs.declared.graph.Target.TheVariants.{To, Again, Leave}
use Rattle.model.specs.declared.graph.Edge.{Edge}
use Rattle.model.specs.Runs.{Among, reached_at, reached_by, reached, executed}
use Rattle.model.specs.Ways.{IsWay}
use Rattle.model.proofs.Bests.{some_same}
use Rattle.search.specs.declared.restriction.Restriction.{Restriction}
use Rattle.search.specs.declared.restriction.Restriction.TheVariants.{Free, Avoid, Visit}
use Rattle.search.specs.declared.ending.Ending.{Ending}
use Rattle.search.specs.declared.ending.Ending.TheVariants.{Again as Repeat, Leave as Exit}
use Rattle.search.specs.Restrictions.{Grants, hits, beyond, allows}
use Rattle.search.specs.Endings.{stop}
use Rattle.search.specs.Rounds.{Uses}
use Rattle.search.specs.Walks.{Forward}

pub among_both : (n : ℕ) (xs ys : List ℕ) → Among n (xs ++ ys) → Among n xs ⊎ Among n ys
among_both n [] ys h = inr h
among_both n (x ∷ xs) ys h = ⊎_elim (λ q. inl (inl q)) (λ q. ⊎_elim (λ a. inl (inr a)) inr (among_both n xs ys q)) h

pub among_left : (n : ℕ) (xs ys : List ℕ) → Among n xs → Among n (xs ++ ys)
among_left n [] ys h = absurd h
among_left n (x ∷ xs) ys h = ⊎_elim inl (λ q. inr (among_left n xs ys q)) h

pub among_right : (n : ℕ) (xs ys : List ℕ) → Among n ys → Among n (xs ++ ys)
among_right n [] ys h = h
among_right n (x ∷ xs) ys h = inr (among_right n xs ys h)

to_same : {a b : ℕ} → To a ≡ To b → a ≡ b
to_same e = cc

-- the nodes reached by a way that begins with edge x
reached_first : (edges : List Edge) (e : ℕ) (x : Edge) (es : List ℕ) → slice_get edges e ≡ Some x → reached edges (e ∷ es) ≡ reached_at x.to ++ reached edges es
reached_first edges e x es q = ap (λ o. reached_by o ++ reached edges es) q

both_true : {a b : Bool} → a ≡ true → b ≡ true → (a && b) ≡ true
both_true {a} {b} p q = rw (p, q) refl

-- avoiding a node
avoid_step : (n : ℕ) (x : Edge) → allows (Avoid n) x ≡ true → (n ≡ 0 → ⊥) × (Among n (reached_at x.to) → ⊥)
avoid_step n x h = (λ q. zero_out q, λ a. to_out x.to (and_parts _ _ h).1 a)
  where
    zero_out : n ≡ 0 → ⊥
    zero_out q = let t = (and_parts (not (eqb n 0)) (not (hits x.to n)) h).0 in let u = eq-eqb n 0 q in grind (arith, nat_tests)

    to_out : (t : Target) → not (hits t n) ≡ true → Among n (reached_at t) → ⊥
    to_out (To v) p (inl q) = let u = eq-eqb v n (sym q) in grind (arith, nat_tests)
    to_out (To v) p (inr q) = q
    to_out Again p q = q
    to_out Leave p q = q

step_avoid : (n : ℕ) (x : Edge) → (n ≡ 0 → ⊥) → (Among n (reached_at x.to) → ⊥) → allows (Avoid n) x ≡ true
step_avoid n x some out = both_true (rw (ne_eqb n 0 some) refl) (go x.to out)
  where
    go : (t : Target) → (Among n (reached_at t) → ⊥) → not (hits t n) ≡ true
    go (To v) h = rw (ne_eqb v n (λ q. h (inl (sym q)))) refl
    go Again h = refl
    go Leave h = refl

avoids : (edges : List Edge) (n : ℕ) (from end : Target) (es : List ℕ) → IsWay edges from end es → Uses (allows (Avoid n)) edges es → Among n (reached edges es) → ⊥
avoids edges n from end [] w u a = a
avoids edges n from end (e ∷ es) (x, there, starts, w) u a =
    ⊎_elim (avoid_step n x (u.0 x there)).1 (avoids edges n x.to end es w u.1) (among_both n (reached_at x.to) (reached edges es) (subst (Among n) (reached_first edges e x es there) a))

uses_avoid : (edges : List Edge) (n : ℕ) → (n ≡ 0 → ⊥) → (from end : Target) (es : List ℕ) → IsWay edges from end es → (Among n (reached edges es) → ⊥) → Uses (allows (Avoid n)) edges es
uses_avoid edges n some from end [] w out = tt
uses_avoid edges n some from end (e ∷ es) (x, there, starts, w) out =
    let out' : Among n (reached_at x.to ++ reached edges es) → ⊥ = λ a. out (subst (Among n) (sym (reached_first edges e x es there)) a) in (
      λ y q. subst (λ z. allows (Avoid n) z ≡ true) (some_same (sym there ∙ q)) (step_avoid n x some (λ a. out' (among_left n (reached_at x.to) (reached edges es) a))),
      uses_avoid edges n some x.to end es w (λ a. out' (among_right n (reached_at x.to) (reached edges es) a)),
    )

-- visiting a node: an edge that does not pass it by starts at it or later, or leads to it or before it
visit_step : (n k v : ℕ) (x : Edge) → allows (Visit n) x ≡ true → x.from ≡ k → k < n → x.to ≡ To v → v ≤ n
visit_step n k v x h f low t =
    ⊎_elim (λ l. absurd (let a : ltb x.from n ≡ true = lt-ltb x.from n (omega arith) in let b : beyond x.to n ≡ true = ap (λ p. beyond p n) t ∙ lt-ltb n v l in let c = both_true a b in grind (arith, nat_tests))) (λ l. l) (cases_lt n v)

visit_ends : (n k : ℕ) (x : Edge) → allows (Visit n) x ≡ true → x.from ≡ k → k < n → beyond x.to n ≡ true → ⊥
visit_ends n k x h f low b = let a : ltb x.from n ≡ true = lt-ltb x.from n (omega arith) in let c = both_true a b in grind (arith, nat_tests)

step_visit : (n : ℕ) (x : Edge) → (x.from < n → beyond x.to n ≡ false) → allows (Visit n) x ≡ true
step_visit n x h =
    ⊎_elim (λ l. rw (h l) (not_and (ltb x.from n))) (λ l. rw (le-ltb x.from n l) refl) (cases_lt x.from n)
  where
    not_and : (b : Bool) → not (b && false) ≡ true
    not_and true = refl
    not_and false = refl

-- behind an ending there is nothing
ended_way : (edges : List Edge) (t end : Target) (es : List ℕ) → ((v : ℕ) → t ≡ To v → ⊥) → IsWay edges t end es → es ≡ []
ended_way edges t end [] away w = refl
ended_way edges t end (e ∷ es) away w = absurd (away _ w.2)

again_to : (v : ℕ) → Again ≡ To v → ⊥
again_to v q = let z : ◌≡◌ {A = ℕ} 0 1 = cc in omega arith

leave_to : (v : ℕ) → Leave ≡ To v → ⊥
leave_to v q = let z : ◌≡◌ {A = ℕ} 0 1 = cc in omega arith

-- the nodes that a way reaches are later than the one before it
reaches_later : (edges : List Edge) (m : ℕ) → Forward edges m → (n : ℕ) (end : Target) (es : List ℕ) (t : Target) (k : ℕ) → ((v : ℕ) → t ≡ To v → k < v) → IsWay edges t end es → Among n (reached_at t ++ reached edges es) → k < n
reaches_later edges m fwd n end es Again k up w a = absurd (subst (λ ws. Among n (reached edges ws)) (ended_way edges Again end es again_to w) a)
reaches_later edges m fwd n end es Leave k up w a = absurd (subst (λ ws. Among n (reached edges ws)) (ended_way edges Leave end es leave_to w) a)
reaches_later edges m fwd n end es (To v) k up w (inl q) = let l = up v refl in omega (arith, l)
reaches_later edges m fwd n end [] (To v) k up w (inr a) = absurd a
reaches_later edges m fwd n end (e ∷ es) (To v) k up w (inr a) =
    let x = w.0 in
    let l = up v refl in
    let s : x.from ≡ v = sym (to_same w.2) in
    let r = reaches_later edges m fwd n end es x.to v (λ u q. let f = (fwd e x w.1).1 u q in omega (arith, f.0)) w.3 (subst (Among n) (reached_first edges e x es w.1) a) in
    omega (arith, l, r)

pub to_stop : (end : Ending) (v : ℕ) → To v ≡ stop end → ⊥
to_stop Repeat v q = again_to v (sym q)
to_stop Exit v q = leave_to v (sym q)

-- a way that passes the node by nowhere executes it
visits : (edges : List Edge) (n : ℕ) (end : Ending) (es : List ℕ) (t : Target) → IsWay edges t (stop end) es → beyond t n ≡ false → Uses (allows (Visit n)) edges es → Among n (reached_at t ++ reached edges es)
visits edges n end es Again w low u = absurd (both_ways true low refl)
visits edges n end es Leave w low u = absurd (both_ways true low refl)
visits edges n end [] (To v) w low u = absurd (to_stop end v w)
visits edges n end (e ∷ es) (To v) (x, there, starts, w) low u =
    let s : x.from ≡ v = sym (to_same starts) in
    let h = ltb-false n v low in
    ⊎_elim
    (λ q. inl (sym q))
    (λ q. inr (subst (Among n) (sym (reached_first edges e x es there)) (visits edges n end es x.to w (not_beyond (u.0 x there) s (lt h q)) u.1)))
    (cases_eq v n)
  where
    lt : v ≤ n → (v ≡ n → ⊥) → v < n
    lt h q = ⊎_elim (λ l. l) (λ l. absurd (q (omega arith))) (cases_lt v n)

    not_beyond : allows (Visit n) x ≡ true → x.from ≡ v → v < n → beyond x.to n ≡ false
    not_beyond h s l = ⊎_elim (λ b. absurd (visit_ends n v x h s l b)) (λ b. b) (cases_Bool (beyond x.to n))

-- a way that executes the node passes it by nowhere
uses_visit : (edges : List Edge) (m : ℕ) → Forward edges m → (n : ℕ) (end : Target) (es : List ℕ) (t : Target) → IsWay edges t end es → ((v : ℕ) → t ≡ To v → (n ≤ v) ⊎ Among n (reached edges es)) → Uses (allows (Visit n)) edges es
uses_visit edges m fwd n end [] t w h = tt
uses_visit edges m fwd n end (e ∷ es) t (x, there, starts, w) h = (
  λ y q. subst (λ z. allows (Visit n) z ≡ true) (some_same (sym there ∙ q)) (step_visit n x (λ l. first l x.to refl)),
  uses_visit edges m fwd n end es x.to w (λ v q. rest v q),
)
  where
    on : (n ≤ x.from) ⊎ Among n (reached_at x.to ++ reached edges es)
    on = ⊎_elim inl (λ a. inr (subst (Among n) (reached_first edges e x es there) a)) (h x.from starts)

    first : x.from < n → (u : Target) → x.to ≡ u → beyond u n ≡ false
    first l (To v) q =
        ⊎_elim (λ r. absurd (omega arith))
        (λ a. le-ltb n v (⊎_elim (λ r. absurd (let c = reaches_later edges m fwd n end es x.to n (λ u p. let e : v ≡ u = to_same (sym q ∙ p) in omega arith) w a in omega (arith, c))) (λ r. r) (cases_lt n v))) on
    first l Again q = ⊎_elim (λ r. absurd (omega arith)) (λ a. absurd (subst (λ ws. Among n (reached edges ws)) (ended_way edges x.to end es (λ v p. again_to v (sym q ∙ p)) w) (subst (λ p. Among n (reached_at p ++ reached edges es)) q a))) on
    first l Leave q = ⊎_elim (λ r. absurd (omega arith)) (λ a. absurd (subst (λ ws. Among n (reached edges ws)) (ended_way edges x.to end es (λ v p. leave_to v (sym q ∙ p)) w) (subst (λ p. Among n (reached_at p ++ reached edges es)) q a))) on

    rest : (v : ℕ) → x.to ≡ To v → (n ≤ v) ⊎ Among n (reached edges es)
    rest v q =
        ⊎_elim (λ r. inl (let f = (fwd e x there).1 v q in omega (arith, f.0)))
        (λ a. ⊎_elim (λ p. inl (omega arith)) inr (subst (λ p. Among n (reached_at p ++ reached edges es)) q a)) on

-- the two together, for a pass
pub grants : (edges : List Edge) (d : Restriction) (end : Ending) (es : List ℕ) → IsWay edges (To 0) (stop end) es → Uses (allows d) edges es → Grants d (executed edges es)
grants edges Free end es w u = tt
grants edges (Avoid n) end es w u = λ a. ⊎_elim (some_edge es w u) (avoids edges n (To 0) (stop end) es w u) a
  where
    some_edge : (ws : List ℕ) → IsWay edges (To 0) (stop end) ws → Uses (allows (Avoid n)) edges ws → n ≡ 0 → ⊥
    some_edge [] w u q = to_stop end 0 w
    some_edge (e ∷ ws) w u q = (avoid_step n w.0 (u.0 w.0 w.1)).0 q
grants edges (Visit n) end es w u = visits edges n end es (To 0) w (le-ltb n 0 (omega arith)) u

pub granted : (edges : List Edge) (m : ℕ) → Forward edges m → (d : Restriction) (end : Target) (es : List ℕ) → IsWay edges (To 0) end es → Grants d (executed edges es) → Uses (allows d) edges es
granted edges m fwd Free end es w g = uses_free es
  where
    uses_free : (ws : List ℕ) → Uses (allows Free) edges ws
    uses_free [] = tt
    uses_free (e ∷ ws) = (λ x q. refl, uses_free ws)
granted edges m fwd (Avoid n) end es w g = uses_avoid edges n (λ q. g (inl q)) (To 0) end es w (λ a. g (inr a))
granted edges m fwd (Visit n) end es w g = uses_visit edges m fwd n end es (To 0) w (λ v q. ⊎_elim (λ p. inl (omega arith)) inr g)

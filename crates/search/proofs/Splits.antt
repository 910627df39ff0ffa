-- A pass meets the facts in force exactly if it uses only the edges left in some useful round.
use Rattle.std.proofs.Common.{◌≡◌, ℕ, ◌+◌, ◌*◌, ◌/◌, ◌%◌, ◌^◌, ◌<◌, ◌≤◌, Bool, true, false, cond, not, ◌&&◌, ◌||◌, ltb, ◌⊎◌, List, [], ◌∷◌, length, get_or, Some, Option, sym, refl, ap, ◌∙◌, subst, ap₂, inl, inr, ⊎_elim, pow-suc, arith}
use Rattle.std.proofs.lemmas.Bool.{cases_eq, cases_lt, and_parts, eq-eqb, ne_eqb, lt-ltb, le-ltb}
use Rattle.model.specs.declared.graph.Target.{Target}
use Rattle.model.specs.declared.graph.Target.TheVariants.{To}
use Rattle.model.specs.declared.graph.Edge.{Edge}
use Rattle.model.specs.declared.graph.Constraint.{Constraint}
use Rattle.model.specs.declared.graph.Constraint.TheVariants.{Bar, Must, Pair}
use Rattle.model.specs.declared.graph.Fact.{Fact}
use Rattle.model.specs.Measures.{Measure}
use Rattle.model.specs.Best.{joined}
use Rattle.model.specs.Runs.{Among, Obeys, Meets, executed}
use Rattle.model.specs.Ways.{IsWay, IsPassWay, way_cost, WayCost}
use Rattle.model.proofs.Bests.{none_some, some_same, joined_both}
use Rattle.search.specs.declared.restriction.Restriction.{Restriction}
use Rattle.search.specs.declared.restriction.Restriction.TheVariants.{Free}
use Rattle.search.specs.declared.ending.Ending.{Ending}
use Rattle.search.specs.Restrictions.{Grants, allows, asks, restriction_of_lem}
use Rattle.search.specs.Endings.{stop}
use Rattle.search.specs.Rounds.{odd, restrictions, allows_all, GrantsAll, paired, splits, useful, Uses, RoundCost, AreUsable}
use Rattle.search.specs.Walks.{Forward, TailCost, gate, masked}
use Rattle.search.proofs.Granted.{grants, granted}

-- several restrictions at once
uses_both : (s t : Edge → Bool) (edges : List Edge) (es : List ℕ) → Uses s edges es → Uses t edges es → Uses (λ x. s x && t x) edges es
uses_both s t edges [] a b = tt
uses_both s t edges (e ∷ es) a b = (λ x q. rw (a.0 x q, b.0 x q) refl, uses_both s t edges es a.1 b.1)

uses_left : (s t : Edge → Bool) (edges : List Edge) (es : List ℕ) → Uses (λ x. s x && t x) edges es → Uses s edges es
uses_left s t edges [] a = tt
uses_left s t edges (e ∷ es) a = (λ x q. (and_parts (s x) (t x) (a.0 x q)).0, uses_left s t edges es a.1)

uses_right : (s t : Edge → Bool) (edges : List Edge) (es : List ℕ) → Uses (λ x. s x && t x) edges es → Uses t edges es
uses_right s t edges [] a = tt
uses_right s t edges (e ∷ es) a = (λ x q. (and_parts (s x) (t x) (a.0 x q)).1, uses_right s t edges es a.1)

uses_none : (edges : List Edge) (es : List ℕ) → Uses (λ x. true) edges es
uses_none edges [] = tt
uses_none edges (e ∷ es) = (λ x q. refl, uses_none edges es)

grants_all : (edges : List Edge) (ds : List Restriction) (end : Ending) (es : List ℕ) → IsWay edges (To 0) (stop end) es → Uses (allows_all ds) edges es → GrantsAll ds (executed edges es)
grants_all edges [] end es w u = tt
grants_all edges (d ∷ ds) end es w u = (grants edges d end es w (uses_left (allows d) (allows_all ds) edges es u), grants_all edges ds end es w (uses_right (allows d) (allows_all ds) edges es u))

granted_all : (edges : List Edge) (m : ℕ) → Forward edges m → (ds : List Restriction) (end : Target) (es : List ℕ) → IsWay edges (To 0) end es → GrantsAll ds (executed edges es) → Uses (allows_all ds) edges es
granted_all edges m fwd [] end es w g = uses_none edges es
granted_all edges m fwd (d ∷ ds) end es w g = uses_both (allows d) (allows_all ds) edges es (granted edges m fwd d end es w g.0) (granted_all edges m fwd ds end es w g.1)

-- a fact that is in force asks for one of its restrictions
asks_obeys : (c : Constraint) (b : Bool) (ns : List ℕ) → Grants (asks c b) ns → Obeys c ns
asks_obeys (Bar n) b ns g = g
asks_obeys (Must n) b ns g = g
asks_obeys (Pair n m) true ns g = λ a c. g c
asks_obeys (Pair n m) false ns g = λ a c. g a

in_force : (f : Fact) (k : ℕ) (b : Bool) → f.first ≤ k → k ≤ f.last → restriction_of_lem f k b ≡ asks f.constraint b
in_force f k b low high = rw (le-ltb k f.first low, le-ltb f.last k high) refl

restriction_meets : (f : Fact) (k : ℕ) (b : Bool) (ns : List ℕ) → Grants (restriction_of_lem f k b) ns → f.first ≤ k → k ≤ f.last → Obeys f.constraint ns
restriction_meets f k b ns g low high = asks_obeys f.constraint b ns (subst (λ d. Grants d ns) (in_force f k b low high) g)

pub restrictions_meet : (facts : List Fact) (k r : ℕ) (ns : List ℕ) → GrantsAll (restrictions facts k r) ns → Meets facts k ns
restrictions_meet [] k r ns g = tt
restrictions_meet (f ∷ fs) k r ns g = (λ low high. restriction_meets f k (odd r) ns g.0 low high, restrictions_meet fs k (r / 2) ns g.1)

-- is the node among these
among? : (n : ℕ) (ns : List ℕ) → Among n ns ⊎ (Among n ns → ⊥)
among? n [] = inr (λ a. a)
among? n (x ∷ xs) = ⊎_elim (λ q. inl (inl q)) (λ q. ⊎_elim (λ a. inl (inr a)) (λ a. inr (λ t. ⊎_elim q a t)) (among? n xs)) (cases_eq n x)

-- of what a fact asks, one restriction is met: of a pair the second node is avoided only where the first is executed
obeys_asks : (c : Constraint) (ns : List ℕ) → Obeys c ns → (b : Bool) × Grants (asks c b) ns × ((paired c || not b) ≡ true)
obeys_asks (Bar n) ns h = (false, h, refl)
obeys_asks (Must n) ns h = (false, h, refl)
obeys_asks (Pair n m) ns h = ⊎_elim (λ a. (true, h a, refl)) (λ a. (false, a, refl)) (among? n ns)

meets_restriction : (f : Fact) (k : ℕ) (ns : List ℕ) → (f.first ≤ k → k ≤ f.last → Obeys f.constraint ns) → (b : Bool) × Grants (restriction_of_lem f k b) ns × ((splits f k || not b) ≡ true)
meets_restriction f k ns h =
    ⊎_elim (λ l. (false, rw (lt-ltb k f.first l) tt, or_true (splits f k)))
    (λ low. ⊎_elim (λ l. (false, rw (lt-ltb f.last k l) (or_free (ltb k f.first)), or_true (splits f k)))
    (λ high. let r = obeys_asks f.constraint ns (h low high) in (r.0, subst (λ d. Grants d ns) (sym (in_force f k r.0 low high)) r.1, rw (le-ltb k f.first low, le-ltb f.last k high) r.2))
    (cases_lt f.last k))
    (cases_lt k f.first)
  where
    or_true : (b : Bool) → (b || true) ≡ true
    or_true true = refl
    or_true false = refl

    or_free : (b : Bool) → Grants (cond (b || true) Free (asks f.constraint false)) ns
    or_free true = tt
    or_free false = tt

-- the number of a round from its digits
abbrev digit : Bool → ℕ
digit true = 1
digit false = 0

odd_digit : (b : Bool) (r : ℕ) → odd (2 * r + digit b) ≡ b
odd_digit true r = eq-eqb ((2 * r + 1) % 2) 1 (omega arith)
odd_digit false r = ne_eqb ((2 * r + 0) % 2) 1 (λ q. omega arith)

half_digit : (b : Bool) (r : ℕ) → (2 * r + digit b) / 2 ≡ r
half_digit true r = omega arith
half_digit false r = omega arith

digit_small : (b : Bool) → digit b ≤ 1
digit_small true = omega arith
digit_small false = omega arith

pub meets_round : (facts : List Fact) (k : ℕ) (ns : List ℕ) → Meets facts k ns → (r : ℕ) × (r < 2 ^ length facts) × (useful facts k r ≡ true) × GrantsAll (restrictions facts k r) ns
meets_round [] k ns h = (0, omega arith, refl, tt)
meets_round (f ∷ fs) k ns h =
    let t = meets_round fs k ns h.1 in
    let d = meets_restriction f k ns h.0 in
    let b = d.0 in
    let r = t.0 in
    let small = digit_small b in (
      2 * r + digit b,
      rw pow-suc (omega (arith, t.1, small)),
      rw (odd_digit b r, half_digit b r, d.2) t.2,
      (subst (λ o. Grants (restriction_of_lem f k o) ns) (sym (odd_digit b r)) d.1, subst (λ q. GrantsAll (restrictions fs k q) ns) (sym (half_digit b r)) t.3),
    )

module _ {C : Type 0} (m : Measure C) (value : ℕ → Option C) (edges : List Edge) (facts : List Fact) (k : ℕ) where
  -- a way of a round is a way of the pass
  pub round_way : (r : ℕ) (end : Ending) (es : List ℕ) → IsWay edges (To 0) (stop end) es → Uses (allows_all (restrictions facts k r)) edges es → IsPassWay edges facts k (stop end) es
  round_way r end es w u = (w, restrictions_meet facts k r (executed edges es) (grants_all edges (restrictions facts k r) end es w u))

  pub round_pass : (r : ℕ) (end : Ending) (c : C) → RoundCost m value edges facts k r (stop end) c → WayCost m value edges facts k (stop end) c
  round_pass r end c (es, w, u, q) = (es, round_way r end es w u, q)

  -- a way of the pass is a way of a useful round
  pub pass_round : (n : ℕ) → Forward edges n → (end : Ending) (c : C) → WayCost m value edges facts k (stop end) c → (r : ℕ) × (r < 2 ^ length facts) × (useful facts k r ≡ true) × RoundCost m value edges facts k r (stop end) c
  pass_round n fwd end c (es, (w, h), q) =
      let t = meets_round facts k (executed edges es) h in
      (t.0, t.1, t.2, (es, w, granted_all edges n fwd (restrictions facts k t.0) (stop end) es w t.3, q))

  -- the edges left as a table
  module _ (r : ℕ) (usable : List Bool) (right : AreUsable edges facts k r usable) where
    gate_some : (b : Bool) (o : Option C) (a : C) → gate b o ≡ Some a → (b ≡ true) × (o ≡ Some a)
    gate_some true o a q = (refl, q)
    gate_some false o a q = absurd (none_some q)

    masked_uses : (from end : Target) (es : List ℕ) (c : C) → IsWay edges from end es → way_cost m (masked value usable) es ≡ Some c → Uses (allows_all (restrictions facts k r)) edges es × (way_cost m value es ≡ Some c)
    masked_uses from end [] c w q = (tt, q)
    masked_uses from end (e ∷ es) c (x, there, starts, w) q =
        let j = joined_both m (masked value usable e) (way_cost m (masked value usable) es) c q in
        let g = gate_some (get_or usable e false) (value e) j.0 j.2 in
        let t = masked_uses x.to end es j.1 w j.3 in (
          (λ y p. subst (λ z. allows_all (restrictions facts k r) z ≡ true) (some_same (sym there ∙ p)) (sym (right e x there) ∙ g.0), t.0),
          ap₂ (joined m) g.1 t.1 ∙ ap Some j.4,
        )

    uses_masked : (from end : Target) (es : List ℕ) → IsWay edges from end es → Uses (allows_all (restrictions facts k r)) edges es → way_cost m (masked value usable) es ≡ way_cost m value es
    uses_masked from end [] w u = refl
    uses_masked from end (e ∷ es) (x, there, starts, w) u =
        ap₂ (joined m) (ap (λ b. gate b (value e)) (right e x there ∙ u.0 x there)) (uses_masked x.to end es w u.1)

    pub tail_round : (end : Target) (c : C) → TailCost m (masked value usable) edges end (To 0) c → RoundCost m value edges facts k r end c
    tail_round end c (es, w, q) = let t = masked_uses (To 0) end es c w q in (es, w, t.0, t.1)

    pub round_tail : (end : Target) (c : C) → RoundCost m value edges facts k r end c → TailCost m (masked value usable) edges end (To 0) c
    round_tail end c (es, w, u, q) = (es, w, uses_masked (To 0) end es w u ∙ q)

    pub walk_round : (end : Target) (es : List ℕ) (c : C) → IsWay edges (To 0) end es → way_cost m (masked value usable) es ≡ Some c → Uses (allows_all (restrictions facts k r)) edges es × (way_cost m value es ≡ Some c)
    walk_round end es c w q = masked_uses (To 0) end es c w q

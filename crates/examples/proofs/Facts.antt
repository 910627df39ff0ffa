-- Whether a pass meets the facts, as a test.
use Rattle.std.proofs.Common.{◌≡◌, ℕ, Bool, true, false, not, ◌&&◌, ◌||◌, eqb, leb, List, [], ◌∷◌, Decides, sym, refl, ap}
use Rattle.std.proofs.lemmas.Bool.{true≢false, eqb-true, eq-eqb, leb-true, le-leb}
use Rattle.std.proofs.lemmas.Bool.Decides.{Decides-not, Decides-and, Decides-or}
use Rattle.model.specs.declared.graph.Target.{Target}
use Rattle.model.specs.declared.graph.Target.TheVariants.{To, Again, Leave}
use Rattle.model.specs.declared.graph.Constraint.{Constraint}
use Rattle.model.specs.declared.graph.Constraint.TheVariants.{Bar, Must, Pair}
use Rattle.model.specs.declared.graph.Fact.{Fact}
use Rattle.model.specs.Runs.{Among, Obeys, Meets}

decides_if : {P Q : Type 0} (a b : Bool) → Decides a P → Decides b Q → Decides (not a || b) (P → Q)
decides_if true b p q = (λ e x. q.0 e, λ f. q.1 (f (p.0 refl)))
decides_if false b p q = (λ e x. absurd (true≢false (sym (p.1 x))), λ f. refl)

abbrev pub among : ℕ → List ℕ → Bool
among n [] = false
among n (m ∷ ms) = eqb n m || among n ms

decides_among : (n : ℕ) (ns : List ℕ) → Decides (among n ns) (Among n ns)
decides_among n [] = (λ e. true≢false (sym e), λ h. absurd h)
decides_among n (m ∷ ms) = Decides-or (eqb n m) (among n ms) (eqb-true n m, eq-eqb n m) (decides_among n ms)

abbrev pub obeys : Constraint → List ℕ → Bool
obeys (Bar n) ns = not (among n ns)
obeys (Must n) ns = among n ns
obeys (Pair n m) ns = not (among n ns) || not (among m ns)

decides_obeys : (c : Constraint) (ns : List ℕ) → Decides (obeys c ns) (Obeys c ns)
decides_obeys (Bar n) ns = Decides-not (among n ns) (decides_among n ns)
decides_obeys (Must n) ns = decides_among n ns
decides_obeys (Pair n m) ns = decides_if (among n ns) (not (among m ns)) (decides_among n ns) (Decides-not (among m ns) (decides_among m ns))

abbrev pub meets : List Fact → ℕ → List ℕ → Bool
meets [] k ns = true
meets (f ∷ fs) k ns = (not (leb f.first k) || (not (leb k f.last) || obeys f.constraint ns)) && meets fs k ns

pub decides_meets : (fs : List Fact) (k : ℕ) (ns : List ℕ) → Decides (meets fs k ns) (Meets fs k ns)
decides_meets [] k ns = (λ e. tt, λ h. refl)
decides_meets (f ∷ fs) k ns =
    let c = not (leb k f.last) || obeys f.constraint ns in
    Decides-and (not (leb f.first k) || c) (meets fs k ns)
    (decides_if (leb f.first k) c (leb-true f.first k, le-leb f.first k)
    (decides_if (leb k f.last) (obeys f.constraint ns) (leb-true k f.last, le-leb k f.last) (decides_obeys f.constraint ns)))
    (decides_meets fs k ns)

-- whether two places are the same
abbrev pub same_place : Target → Target → Bool
same_place (To n) (To m) = eqb n m
same_place (To n) Again = false
same_place (To n) Leave = false
same_place Again (To m) = false
same_place Again Again = true
same_place Again Leave = false
same_place Leave (To m) = false
same_place Leave Again = false
same_place Leave Leave = true

pub place_same : (a b : Target) → same_place a b ≡ true → a ≡ b
place_same (To n) (To m) e = ap To (eqb-true n m e)
place_same (To n) Again e = absurd (true≢false (sym e))
place_same (To n) Leave e = absurd (true≢false (sym e))
place_same Again (To m) e = absurd (true≢false (sym e))
place_same Again Again e = refl
place_same Again Leave e = absurd (true≢false (sym e))
place_same Leave (To m) e = absurd (true≢false (sym e))
place_same Leave Again e = absurd (true≢false (sym e))
place_same Leave Leave e = refl

same_self : (a : Target) → same_place a a ≡ true
same_self (To n) = eq-eqb n n refl
same_self Again = refl
same_self Leave = refl

pub same_from : (a b : Target) → a ≡ b → same_place a b ≡ true
same_from a b e = rw (sym e) (same_self a)

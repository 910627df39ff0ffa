-- The test that all edges lead forward.
use Rattle.std.proofs.Common.{◌≡◌, ℕ, zero, suc, ◌<◌, Bool, true, false, ◌&&◌, ltb, List, [], ◌∷◌, refl, subst, arith}
use Rattle.std.proofs.lemmas.Bool.{and_parts, ltb-true, lt-ltb}
use Rattle.model.specs.declared.graph.Target.{Target}
use Rattle.model.specs.declared.graph.Target.TheVariants.{To, Again, Leave}
use Rattle.model.specs.declared.graph.Edge.{Edge}
use Rattle.model.proofs.Bests.{none_some, some_same}
use Rattle.search.specs.Walks.{Forward, onward, leads_forward_lem, all_forward_lem}

leads_is : (n : ℕ) (x : Edge) → leads_forward_lem n x ≡ true → (x.from < n) × ((v : ℕ) → x.to ≡ To v → (x.from < v) × (v < n))
leads_is n x h = (ltb-true _ _ (and_parts _ _ h).0, λ v e. go v (subst (λ t. onward n x.from t ≡ true) e (and_parts _ _ h).1))
  where
    go : (v : ℕ) → (ltb x.from v && ltb v n) ≡ true → (x.from < v) × (v < n)
    go v t = let k = and_parts (ltb x.from v) (ltb v n) t in (ltb-true x.from v k.0, ltb-true v n k.1)

pub forward_is : (n : ℕ) (edges : List Edge) → all_forward_lem n edges ≡ true → Forward edges n
forward_is n [] h e x p = absurd (none_some p)
forward_is n (y ∷ ys) h zero x p = leads_is n x (subst (λ z. leads_forward_lem n z ≡ true) (some_same p) (and_parts _ _ h).0)
forward_is n (y ∷ ys) h (suc e) x p = forward_is n ys (and_parts _ _ h).1 e x p

both : {a b : Bool} → a ≡ true → b ≡ true → (a && b) ≡ true
both {a} {b} p q = rw (p, q) refl

onward_holds : (n from : ℕ) (t : Target) → ((v : ℕ) → t ≡ To v → (from < v) × (v < n)) → onward n from t ≡ true
onward_holds n from (To v) h = let k = h v refl in both (lt-ltb from v k.0) (lt-ltb v n k.1)
onward_holds n from Again h = refl
onward_holds n from Leave h = refl

pub is_forward : (n : ℕ) (edges : List Edge) → Forward edges n → all_forward_lem n edges ≡ true
is_forward n [] h = refl
is_forward n (y ∷ ys) h =
    let k = h 0 y refl in both (both (lt-ltb y.from n k.0) (onward_holds n y.from y.to k.1)) (is_forward n ys (λ e x p. h (suc e) x p))

pub not_forward : (n : ℕ) (edges : List Edge) → all_forward_lem n edges ≡ false → Forward edges n → ⊥
not_forward n edges h f = let t = is_forward n edges f in let z : ◌≡◌ {A = ℕ} 0 1 = cc in omega arith

-- The chains of edges out of a node.
use Rattle.std.proofs.Common.{◌≡◌, ℕ, zero, suc, ◌+◌, ◌-◌, ◌<◌, ◌≤◌, Bool, true, false, cond, eqb, List, [], ◌∷◌, length, get_or, drop, set, replicate, Some, None, Option, sym, refl, ap, ◌∙◌, subst, ⊎_elim, add-zero, suc-add, zero-add, add-one, arith, get_or-set_other, get_or-set_same}
use lib.ListN.{get_or-replicate}
use Rattle.std.specs.List.{slice_get}
use Rattle.std.proofs.lemmas.Bool.{cases_Bool, cases_eq, eqb-true, eq-eqb, ne_eqb}
use Rattle.std.proofs.lemmas.Bool.Decides.{nat_tests}
use Rattle.std.proofs.lemmas.List.{drop_all}
use Rattle.std.proofs.lemmas.Option.{slice_get_past}
use Rattle.model.specs.declared.graph.Edge.{Edge}
use Rattle.search.specs.Walks.{exit_in, exit_from}
use Rattle.search.specs.Exits.{AreExitsFrom, AreFirsts, AreNexts, FirstsKept, NextsKept, same_exit}

-- an element that is there is the first of the rest
pub drop_at : {A : Type 0} (xs : List A) (i : ℕ) (x : A) → slice_get xs i ≡ Some x → drop i xs ≡ x ∷ drop (suc i) xs
drop_at [] i x e = let z : ◌≡◌ {A = ℕ} 0 1 = cc in absurd (omega arith)
drop_at (y ∷ xs) zero x e = let h : y ≡ x = cc in ap (λ z. z ∷ xs) h
drop_at (y ∷ xs) (suc i) x e = drop_at xs i x e

pub exit_step : (edges : List Edge) (k i : ℕ) (x : Edge) → slice_get edges i ≡ Some x → exit_from edges k i ≡ cond (eqb x.from k) (Some i) (exit_from edges k (suc i))
exit_step edges k i x e = ap (exit_in k i) (drop_at edges i x e)

pub exit_here : (edges : List Edge) (k i : ℕ) (x : Edge) → slice_get edges i ≡ Some x → x.from ≡ k → exit_from edges k i ≡ Some i
exit_here edges k i x e f = exit_step edges k i x e ∙ rw (eq-eqb x.from k f) refl

pub exit_past : (edges : List Edge) (k i : ℕ) (x : Edge) → slice_get edges i ≡ Some x → (x.from ≡ k → ⊥) → exit_from edges k i ≡ exit_from edges k (suc i)
exit_past edges k i x e f = exit_step edges k i x e ∙ rw (ne_eqb x.from k f) refl

-- what the first exit is
pub record IsExit (edges : List Edge) (k i e : ℕ) : Type 0 where
  pub from : i ≤ e
  pub edge : Edge
  pub there : slice_get edges e ≡ Some edge
  pub starts : edge.from ≡ k
  pub skipped : (j : ℕ) (y : Edge) → i ≤ j → j < e → slice_get edges j ≡ Some y → y.from ≡ k → ⊥

none_some : {A : Type 0} {a : A} → ◌≡◌ {A = Option A} None (Some a) → ⊥
none_some e = let z : ◌≡◌ {A = ℕ} 0 1 = cc in omega arith

some_same : {A : Type 0} {a b : A} → ◌≡◌ {A = Option A} (Some a) (Some b) → a ≡ b
some_same e = cc

-- over a list whose first edge has number i
in_none : (k i : ℕ) (xs : List Edge) → exit_in k i xs ≡ None → (j : ℕ) (y : Edge) → slice_get xs j ≡ Some y → y.from ≡ k → ⊥
in_none k i [] h j y n f = none_some n
in_none k i (x ∷ xs) h zero y n f =
    let q : eqb x.from k ≡ true = eq-eqb x.from k (ap (λ (z : Edge). z.from) (some_same n) ∙ f) in
    let h' : Some i ≡ None = rw q at h in
    none_some (sym h')
in_none k i (x ∷ xs) h (suc j) y n f =
    ⊎_elim (λ t. let h' : Some i ≡ None = rw t at h in none_some (sym h')) (λ t. in_none k (suc i) xs (rw t at h) j y n f) (cases_Bool (eqb x.from k))

pub nth_drop : {A : Type 0} (xs : List A) (i j : ℕ) → slice_get (drop i xs) j ≡ slice_get xs (i + j)
nth_drop xs zero j = ap (slice_get xs) (sym (zero-add j))
nth_drop [] (suc i) j = refl
nth_drop (x ∷ xs) (suc i) j = nth_drop xs i j ∙ sym (ap (slice_get (x ∷ xs)) (suc-add i j))

pub exit_none : (edges : List Edge) (k i : ℕ) → exit_from edges k i ≡ None → (j : ℕ) (y : Edge) → i ≤ j → slice_get edges j ≡ Some y → y.from ≡ k → ⊥
exit_none edges k i h j y l n f =
    let e : i + (j - i) ≡ j = omega arith in
    in_none k i (drop i edges) h (j - i) y (nth_drop edges i (j - i) ∙ ap (slice_get edges) e ∙ n) f

in_some : (k i e : ℕ) (xs : List Edge) → exit_in k i xs ≡ Some e → (d : ℕ) × (e ≡ i + d) × (x : Edge) × (slice_get xs d ≡ Some x) × (x.from ≡ k) × ((j : ℕ) (y : Edge) → j < d → slice_get xs j ≡ Some y → y.from ≡ k → ⊥)
in_some k i e [] h = absurd (none_some h)
in_some k i e (x ∷ xs) h =
    ⊎_elim (λ t. let h' : Some i ≡ Some e = rw t at h in (0, sym (some_same h') ∙ sym (add-zero i), x, refl, eqb-true x.from k t, λ j y l n f. omega arith))
    (λ t. go t (in_some k (suc i) e xs (rw t at h))) (cases_Bool (eqb x.from k))
  where
    go : eqb x.from k ≡ false → ((d : ℕ) × (e ≡ suc i + d) × (z : Edge) × (slice_get xs d ≡ Some z) × (z.from ≡ k) × ((j : ℕ) (y : Edge) → j < d → slice_get xs j ≡ Some y → y.from ≡ k → ⊥)) → (d : ℕ) × (e ≡ i + d) × (z : Edge) × (slice_get (x ∷ xs) d ≡ Some z) × (z.from ≡ k) × ((j : ℕ) (y : Edge) → j < d → slice_get (x ∷ xs) j ≡ Some y → y.from ≡ k → ⊥)
    go t (d, p, z, n, f, out) = (suc d, omega arith, z, n, f, before)
      where
        before : (j : ℕ) (y : Edge) → j < suc d → slice_get (x ∷ xs) j ≡ Some y → y.from ≡ k → ⊥
        before zero y l q f' = let e' : x.from ≡ k = ap (λ (w : Edge). w.from) (some_same q) ∙ f' in let q : eqb x.from k ≡ true = eq-eqb x.from k e' in grind (arith, nat_tests)
        before (suc j) y l q f' = out j y (omega arith) q f'

pub exit_some : (edges : List Edge) (k i e : ℕ) → exit_from edges k i ≡ Some e → IsExit edges k i e
exit_some edges k i e h = go (in_some k i e (drop i edges) h)
  where
    go : ((d : ℕ) × (e ≡ i + d) × (x : Edge) × (slice_get (drop i edges) d ≡ Some x) × (x.from ≡ k) × ((j : ℕ) (y : Edge) → j < d → slice_get (drop i edges) j ≡ Some y → y.from ≡ k → ⊥)) → IsExit edges k i e
    go (d, p, x, n, f, out) = record {
      from = omega arith;
      edge = x;
      there = ap (slice_get edges) p ∙ sym (nth_drop edges i d) ∙ n;
      starts = f;
      skipped = λ j y l u q w. let r : i + (j - i) ≡ j = omega arith in out (j - i) y (omega arith) (nth_drop edges i (j - i) ∙ ap (slice_get edges) r ∙ q) w;
    }

-- the chains, filled from the last edge down
pub exits_none : (edges : List Edge) → AreExitsFrom edges (length edges) (replicate 32 None) (replicate 96 None)
exits_none edges = (
  λ k h. get_or-replicate 32 k None None h ∙ sym (ap (exit_in k (length edges)) (drop_all (length edges) edges (omega arith))),
  λ e x h n. absurd (none_some (sym (slice_get_past edges e h) ∙ n)),
)

module _ (edges : List Edge) (first next : List (Option ℕ)) (e : ℕ) (x : Edge) (there : slice_get edges e ≡ Some x) (low : x.from < 32) (few : e < 96)
    (long : length first ≡ 32) (wide : length next ≡ 96) (exits : AreExitsFrom edges (suc e) first next) where
  first_more : (k : ℕ) → k < 32 → get_or (set first x.from (Some e)) k None ≡ exit_from edges k e
  first_more k h =
      ⊎_elim
      (λ q. subst (λ j. get_or (set first x.from (Some e)) j None ≡ exit_from edges j e) q
      (get_or-set_same first x.from (Some e) None (omega arith) ∙ sym (exit_here edges x.from e x there refl)))
      (λ q. get_or-set_other first x.from k (Some e) None (λ z. q (sym z)) ∙ exits.0 k h ∙ sym (exit_past edges k e x there q))
      (cases_eq x.from k)

  next_more : (j : ℕ) (y : Edge) → e ≤ j → slice_get edges j ≡ Some y → get_or (set next e (get_or first x.from None)) j None ≡ exit_from edges y.from (j + 1)
  next_more j y h n =
      ⊎_elim
      (λ q. subst (λ i. slice_get edges i ≡ Some y → get_or (set next e (get_or first x.from None)) i None ≡ exit_from edges y.from (i + 1)) q here n)
      (λ q. get_or-set_other next e j (get_or first x.from None) None (λ z. q (sym z)) ∙ exits.1 j y (omega arith) n)
      (cases_eq e j)
    where
      here : slice_get edges e ≡ Some y → get_or (set next e (get_or first x.from None)) e None ≡ exit_from edges y.from (e + 1)
      here n =
          let q : x ≡ y = some_same (sym there ∙ n) in
          get_or-set_same next e (get_or first x.from None) None (omega arith) ∙ exits.0 x.from low ∙ ap (λ (z : Edge). exit_from edges z.from (suc e)) q ∙ ap (exit_from edges y.from) (sym (add-one e))

  pub exits_more : AreExitsFrom edges e (set first x.from (Some e)) (set next e (get_or first x.from None))
  exits_more = (first_more, next_more)

-- the chains as tests, and back
false_true : ◌≡◌ {A = Bool} false true → ⊥
false_true h = let z : ◌≡◌ {A = ℕ} 0 1 = cc in omega arith

exit_same : (o : Option ℕ) → same_exit o o ≡ true
exit_same None = refl
exit_same (Some a) = eq-eqb a a refl

same_is : (o p : Option ℕ) → same_exit o p ≡ true → o ≡ p
same_is None None h = refl
same_is None (Some b) h = absurd (false_true h)
same_is (Some a) None h = absurd (false_true h)
same_is (Some a) (Some b) h = ap Some (eqb-true a b h)

pub keep_firsts : (edges : List Edge) (first : List (Option ℕ)) → AreFirsts edges 0 first → FirstsKept edges first
keep_firsts edges first h k l = subst (λ o. same_exit (get_or first k None) o ≡ true) (h k l) (exit_same (get_or first k None))

pub keep_nexts : (edges : List Edge) (next : List (Option ℕ)) → AreNexts edges next → NextsKept edges next
keep_nexts edges next h e x n = subst (λ o. same_exit (get_or next e None) o ≡ true) (h e x n) (exit_same (get_or next e None))

pub kept_first : (edges : List Edge) (first : List (Option ℕ)) → FirstsKept edges first → AreFirsts edges 0 first
kept_first edges first h k l = same_is _ _ (h k l)

pub kept_next : (edges : List Edge) (next : List (Option ℕ)) → NextsKept edges next → AreNexts edges next
kept_next edges next h e x n = same_is _ _ (h e x n)

-- how many numbers below n are left from the next edge on
abbrev pub past : ℕ → Option ℕ → ℕ
past n None = 0
past n (Some e) = n - e

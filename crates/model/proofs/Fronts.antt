-- The best run of a scope, one range of passes after another.
use Rattle.std.proofs.Common.{◌≡◌, ℕ, zero, suc, ◌+◌, ◌-◌, ◌<◌, ◌≤◌, max, List, Some, None, Option, sym, refl, ap, ◌∙◌, subst, add-zero, add-suc, arith}
use Rattle.model.specs.declared.graph.Target.TheVariants.{Again, Leave}
use Rattle.std.specs.List.{slice_get}
use Rattle.model.specs.Graph.{Scope}
use Rattle.model.specs.Measures.{Measure, Laws}
use Rattle.model.specs.Best.{IsBest, joined, better}
use Rattle.model.specs.Ways.{RunCost, PassCost, PassesCost}
use Rattle.model.specs.Counts.{CountedCost, powers, spread, FrontCost, RunsBetween, AreBests}
use Rattle.model.proofs.Powers.{at_most_same}
use Rattle.model.proofs.Bests.{best_same, best_join, best_family}
use Rattle.model.proofs.Passes.{last_alone, alone_last, first_rest, rest_first, counted_passes, passes_counted, run_between, between_run}
use Rattle.model.proofs.Ranges.{joined_right, joined_assoc, powers_more, spread_ends, ends_best, over_none, over_both, over_stopped}

-- the first k passes, and then n that go on and one that leaves
abbrev Mixed : {C : Type 0} → Measure C → List Scope → Scope → ℕ → ℕ → C → Type 0
Mixed m g s k n c = (a : _) × (b : _) × FrontCost m g s k a × PassesCost m g s (suc k) (suc n) b × (c ≡ m.join a b)

module _ {C : Type 0} {m : Measure C} (laws : Laws m) (g : List Scope) (s : Scope) where
  onward : (c : C) (n k q : ℕ) → k + n ≡ q → Mixed m g s k n c → Mixed m g s q 0 c
  onward c zero k q e t = subst (λ x. Mixed m g s x 0 c) (omega arith) t
  onward c (suc n) k q e (a, b, f, ps, h) =
      let r = first_rest m g s (suc k) b n ps in
      onward c n (suc k) q (omega arith) (m.join a r.0, r.1, (a, r.0, f, r.2, refl), r.3, h ∙ ap (m.join a) r.4 ∙ sym (laws.assoc a r.0 r.1))

  back : (c : C) (n k q : ℕ) → k + n ≡ q → Mixed m g s q 0 c → Mixed m g s k n c
  back c zero k q e t = subst (λ x. Mixed m g s x 0 c) (omega arith) t
  back c (suc n) k q e t = shift (back c n (suc k) q (omega arith) t)
    where
      shift : Mixed m g s (suc k) n c → Mixed m g s k (suc n) c
      shift (a, b, (a₁, a₂, f, h, p), r, h') =
          (a₁, m.join a₂ b, f, rest_first m g s (suc k) (m.join a₂ b) n (a₂, b, h, r, refl), h' ∙ ap (λ v. m.join v b) p ∙ laws.assoc a₁ a₂ b)

  -- the passes of a run: those before the last, and the last
  to_front : (n : ℕ) (c : C) → PassesCost m g s 1 (suc n) c → (a : C) × (b : C) × FrontCost m g s n a × PassCost m g s (suc n) Leave b × (c ≡ m.join a b)
  to_front n c t =
      let r = onward c n 0 n (omega arith) (m.nothing, c, refl, t, sym (laws.left c)) in
      (r.0, r.1, r.2, last_alone m g s (suc n) r.1 r.3, r.4)

  from_front : (n : ℕ) (c : C) → ((a : C) × (b : C) × FrontCost m g s n a × PassCost m g s (suc n) Leave b × (c ≡ m.join a b)) → PassesCost m g s 1 (suc n) c
  from_front n c (a, b, f, h, e) = ends (back c n 0 n (omega arith) (a, b, f, alone_last m g s (suc n) b h, e))
    where
      ends : Mixed m g s 0 n c → PassesCost m g s 1 (suc n) c
      ends (a, b, f, ps, e) = subst (PassesCost m g s 1 (suc n)) (sym (e ∙ ap (λ v. m.join v b) f ∙ laws.left b)) ps

  -- the best of the first passes, where all of them go on
  pub front_none : IsBest m (FrontCost m g s 0) (Some m.nothing)
  front_none = (refl, λ d e. at_most_same laws e)

  pub front_more : (n : ℕ) (p c : Option C) → IsBest m (FrontCost m g s n) p → IsBest m (PassCost m g s (suc n) Again) c → IsBest m (FrontCost m g s (suc n)) (joined m p c)
  front_more n p c h k = best_join laws (FrontCost m g s n) (PassCost m g s (suc n) Again) p c h k

  module _ (d b : ℕ) (p c l : Option C) (front : IsBest m (FrontCost m g s d) p) (bests : AreBests m g s d b c l) where
    pub front_range : (j : ℕ) → d + j ≤ b → IsBest m (FrontCost m g s (d + j)) (joined m p (powers m c j))
    front_range zero h = rw (add-zero, joined_right laws) front
    front_range (suc j) h =
        let more = front_more (d + j) (joined m p (powers m c j)) c (front_range j (omega arith)) (bests.conts (suc (d + j)) (omega arith) (omega arith)) in
        rw (add-suc, ← powers_more laws, ← joined_assoc laws) more

    -- the first passes up to the end of the range
    pub front_next : d ≤ b → IsBest m (FrontCost m g s b) (joined m p (powers m c (b - d)))
    front_next h =
        let e : d + (b - d) ≡ b = omega arith in
        subst (λ x. IsBest m (FrontCost m g s x) (joined m p (powers m c (b - d)))) e (front_range (b - d) (omega arith))

    module _ (i : ℕ) (there : slice_get g i ≡ Some s) where
      -- the best of the runs with q passes, where number q stands in the range
      pub counted_range : (q : ℕ) → (s.least ≤ q) × (q ≤ s.most) → d < q → q ≤ b → IsBest m (CountedCost m g i q) (spread m p c l (q - suc d))
      counted_range zero h lo hi = absurd (omega arith)
      counted_range (suc n) h lo hi =
          let e : d + (suc n - suc d) ≡ n = omega arith in
          let front' : IsBest m (FrontCost m g s n) (joined m p (powers m c (suc n - suc d))) = subst (λ x. IsBest m (FrontCost m g s x) (joined m p (powers m c (suc n - suc d)))) e (front_range (suc n - suc d) (omega arith)) in
          best_same laws (CountedCost m g i (suc n)) _ (spread m p c l (suc n - suc d))
          (λ x t. to_front n x (counted_passes g s i there m (suc n) x t))
          (λ x t. passes_counted g s i there m (suc n) x h (from_front n x t))
          (best_join laws (FrontCost m g s n) (PassCost m g s (suc n) Leave) (joined m p (powers m c (suc n - suc d))) l front' (bests.leaves (suc n) lo hi))

      -- the best of the runs whose number of passes stands in the range: the better of the two ends
      pub runs_range : (lo hi : ℕ) → d < lo → lo ≤ hi → hi ≤ b → s.least ≤ lo → hi ≤ s.most →
          IsBest m (RunsBetween m g i lo hi) (better m (spread m p c l (lo - suc d)) (spread m p c l (hi - suc d)))
      runs_range lo hi h k within least most =
          best_family laws (λ q. (lo ≤ q) × (q ≤ hi)) (CountedCost m g i) (λ q. spread m p c l (q - suc d))
          (λ q t. counted_range q (omega arith) (omega arith) (omega arith))
          (better m (spread m p c l (lo - suc d)) (spread m p c l (hi - suc d)))
          (ends_best laws (λ q. spread m p c l (q - suc d)) lo hi k
          (λ j u v. spread_ends laws p c l (lo - suc d) (hi - suc d) (j - suc d) (omega arith) (omega arith)))

      -- one range more
      pub runs_more : (x : Option C) → d < b → s.least ≤ b → b ≤ s.most → IsBest m (RunsBetween m g i s.least d) x →
          IsBest m (RunsBetween m g i s.least b) (better m x (better m (spread m p c l (max s.least (suc d) - suc d)) (spread m p c l (b - suc d))))
      runs_more x some least most h =
          over_both laws (CountedCost m g i) s.least d b (omega arith) x _ h
          (runs_range (max s.least (suc d)) b (omega arith) (omega arith) (omega arith) (omega arith) most)

  module _ (i : ℕ) (there : slice_get g i ≡ Some s) where
    -- before the first range, and while no range reaches the least number of passes
    pub runs_none : (d : ℕ) → d < s.least → IsBest m (RunsBetween m g i s.least d) None
    runs_none d h = over_none laws (CountedCost m g i) s.least d h

    front_shorter : (j d : ℕ) (c : C) → FrontCost m g s (d + j) c → (a : C) × FrontCost m g s d a
    front_shorter zero d c t = (c, rw add-zero at t)
    front_shorter (suc j) d c t = let t' : FrontCost m g s (suc (d + j)) c = rw add-suc at t in front_shorter j d t'.0 t'.2

    -- no way to go on: no more numbers of passes
    pub runs_stopped : (d : ℕ) → IsBest m (FrontCost m g s d) None → d ≤ s.most → (x : Option C) → IsBest m (RunsBetween m g i s.least d) x → IsBest m (RunsBetween m g i s.least s.most) x
    runs_stopped d front within x h = over_stopped laws (CountedCost m g i) s.least d s.most within none x h
      where
        none : (q : ℕ) → d < q → q ≤ s.most → (c : C) → CountedCost m g i q c → ⊥
        none zero u v c t = omega arith
        none (suc n) u v c t =
            let f = to_front n c (counted_passes g s i there m (suc n) c t) in
            let e : n ≡ d + (n - d) = omega arith in
            let a = front_shorter (n - d) d f.0 (subst (λ k. FrontCost m g s k f.0) e f.2) in
            front a.0 a.1

    -- after the last range
    pub runs_all : (x : Option C) → IsBest m (RunsBetween m g i s.least s.most) x → IsBest m (RunCost m g i) x
    runs_all x h = best_same laws (RunCost m g i) (RunsBetween m g i s.least s.most) x (run_between g s i there m) (between_run g s i there m s.least s.most) h

-- One range more in the search for the bound of a scope.
use Rattle.std.proofs.Common.{◌≡◌, ℕ, zero, suc, ◌+◌, ◌-◌, ◌<◌, ◌≤◌, max, List, [], ◌∷◌, ◌++◌, length, take, Some, None, Option, sym, refl, ap, ◌∙◌, subst, ap₂, inl, inr, ⊎_elim, add-one, arith, length-append}
use Rattle.std.proofs.lemmas.List.{take-append-le, take_at}
use Rattle.std.proofs.lemmas.Bool.{cases_lt, lt-ltb, le-ltb}
use Rattle.model.specs.Graph.{Scope}
use Rattle.model.specs.Measures.{Measure, Laws}
use Rattle.model.specs.Best.{IsBest, joined, better}
use Rattle.model.specs.Counts.{powers, spread, RunsBetween}
use Rattle.model.specs.Runs.{Run}
use Rattle.model.specs.Trail.{Group, SameFacts, AreRanges, IsRange, IsCut, unrolled}
use Rattle.model.specs.Ways.{RunCost, AreFrontWays}
use Rattle.model.proofs.Bests.{none_some, best_one}
use Rattle.model.proofs.Fronts.{front_none, runs_none, runs_stopped, runs_all}
use Rattle.model.proofs.Ranges.{powers_some}
use Rattle.model.proofs.Shown.{ranges_push, fronts_push}
use Rattle.search.specs.declared.ending.Ending.TheVariants.{Again as Repeat, Leave as Exit}
use Rattle.search.specs.declared.found.Costliest.{Costliest}
use Rattle.search.specs.Found.{IsCostliest}
use Rattle.search.specs.Tables.{OnSome}
use Rattle.search.specs.Ways.{way_edges}
use Rattle.bound.specs.declared.choice.Choice.{Choice}
use Rattle.bound.specs.Choices.{group, choice_cost, better_choice, IsPlaced, IsChoice}
use Rattle.bound.specs.Progress.{made_choice, choice_of, range_choice, IsProgress}
use Rattle.bound.specs.Solves.{Ended, IsRunsBest}
use Rattle.bound.specs.declared.progress.Progress.{Progress}
use Rattle.trail.specs.Groups.{groups_of}
use Rattle.bound.proofs.Candidates.{candidate}
use Rattle.bound.proofs.CutCounts.{cuts_most, cuts_fall}
use Rattle.bound.proofs.RangeEnds.{range_from}
use Rattle.bound.proofs.Turns.{better_cost, better_one, turn_front, turn_runs}

made_cost : {C : Type 0} (o : Option C) (q first whole : ℕ) (on off : Costliest C) → choice_cost (made_choice o q first whole on off) ≡ o
made_cost None q first whole on off = refl
made_cost (Some c) q first whole on off = refl

choice_of_cost : {C : Type 0} (m : Measure C) (front : C) (on off : Costliest C) (first whole q : ℕ) → choice_cost (choice_of m front on off first whole q) ≡ spread m (Some front) on.cost off.cost (q - first)
choice_of_cost m front on off first whole q = made_cost (spread m (Some front) on.cost off.cost (q - first)) q first whole on off

made_some : {C : Type 0} (P : Choice C → Type 0) (o : Option C) (q first whole : ℕ) (on off : Costliest C) →
    ((c : C) → o ≡ Some c → P (record { cost = c; passes = q; whole = whole; first = first; on = on.way; off = off.way })) → OnSome P (made_choice o q first whole on off)
made_some P None q first whole on off h = tt
made_some P (Some c) q first whole on off h = h c refl

on_some_map : {A : Type 0} (P Q : A → Type 0) → ((x : A) → P x → Q x) → (o : Option A) → OnSome P o → OnSome Q o
on_some_map P Q f None h = tt
on_some_map P Q f (Some x) h = f x h

module _ {C : Type 0} {m : Measure C} (laws : Laws m) (s : Scope) (value : ℕ → Option C) where
  -- at the start
  pub progress_none : length s.facts ≤ 4 → 1 ≤ s.least → IsProgress m s value 0 (Some m.nothing) [] None
  progress_none few least = record {
    within = omega arith;
    starts = λ h l t. omega arith;
    few = omega arith;
    room = λ h. let c = cuts_most s.facts 0 in omega (arith, c);
    fronts = (refl, refl);
    front_best = λ g i chosen p. front_none laws g s;
    runs_best = λ g i chosen p. runs_none laws g s i p.there 0 (omega arith);
    choice = tt;
  }

  module _ (done b : ℕ) (f : C) (groups : List Group) (best : Option (Choice C)) (on off : Costliest C) (h : IsProgress m s value done (Some f) groups best) (more : done < s.most)
      (e : IsCut s.facts (suc done) s.most b)
      (again : IsCostliest m value s.edges s.facts (suc done) Repeat on) (leave : IsCostliest m value s.edges s.facts (suc done) Exit off) where
    range : IsRange s (suc done) b
    range = range_from s done b (λ z. h.starts z more) e

    few' : length groups ≤ 8
    few' = let r = h.room more in omega (arith, r)

    abbrev last_group : Group
    last_group = group (suc done) b (way_edges on.way)

    longer : length (groups ++ (last_group ∷ [])) ≡ suc (length groups)
    longer = length-append groups (last_group ∷ []) ∙ add-one (length groups)

    abbrev new_choice : Option (Choice C)
    new_choice = range_choice m s.least f on off (suc done) b (length groups)

    abbrev AreFronts : C → Type 0
    AreFronts x = AreRanges s 1 b (groups ++ (last_group ∷ [])) × AreFrontWays m value s 1 (unrolled (groups ++ (last_group ∷ []))) x

    no_front : (j : ℕ) → 0 < j → OnSome AreFronts (joined m (Some f) (powers m None j))
    no_front zero l = absurd (omega arith)
    no_front (suc j) l = tt

    fronts_at : (o : Option C) → on.cost ≡ o → OnSome AreFronts (joined m (Some f) (powers m o (b - done)))
    fronts_at None q = no_front (b - done) (let l = e.low in omega arith)
    fronts_at (Some c) q =
        let w = subst (OnSome _) q again.shown in
        subst (λ o. OnSome AreFronts (joined m (Some f) o)) (sym (powers_some laws c (b - done)))
        (ranges_push s 1 done b groups (way_edges on.way) h.fronts.0 range, fronts_push laws s value done b groups (way_edges on.way) f c h.fronts.0 range h.fronts.1 w.0 w.1)

    -- what the better of the two ends costs
    choice_costs : s.least ≤ b → choice_cost new_choice ≡ better m (spread m (Some f) on.cost off.cost (max s.least (suc done) - suc done)) (spread m (Some f) on.cost off.cost (b - suc done))
    choice_costs l =
        rw (le-ltb b s.least l)
        (better_cost m (choice_of m f on off (suc done) (length groups) (max s.least (suc done))) (choice_of m f on off (suc done) (length groups) b)
        ∙ ap₂ (better m) (choice_of_cost m f on off (suc done) (length groups) (max s.least (suc done))) (choice_of_cost m f on off (suc done) (length groups) b))

    no_choice : b < s.least → new_choice ≡ None
    no_choice l = rw (lt-ltb b s.least l) refl

    runs_at : (g : List Scope) (i : ℕ) (chosen : ℕ → Run) → IsPlaced m s value g i chosen → IsBest m (RunsBetween m g i s.least b) (choice_cost (better_choice m best new_choice))
    runs_at g i chosen p =
        ⊎_elim
        (λ l. subst (IsBest m (RunsBetween m g i s.least b)) (sym (better_cost m best new_choice ∙ ap (λ o. better m (choice_cost best) (choice_cost o)) (no_choice l) ∙ better_none (choice_cost best) (none_yet l))) (runs_none laws g s i p.there b l))
        (λ l. subst (IsBest m (RunsBetween m g i s.least b)) (sym (better_cost m best new_choice ∙ ap (better m (choice_cost best)) (choice_costs l)))
        (turn_runs laws s value done b range on off again leave g i chosen p f (h.front_best g i chosen p) l (choice_cost best) (h.runs_best g i chosen p)))
        (cases_lt b s.least)
      where
        better_none : (o : Option C) → None ≡ o → better m o None ≡ None
        better_none None q = refl
        better_none (Some c) q = absurd (none_some q)

        none_yet : b < s.least → None ≡ choice_cost best
        none_yet l = best_one laws (RunsBetween m g i s.least done) None (choice_cost best) (runs_none laws g s i p.there done (let q = e.low in omega arith)) (h.runs_best g i chosen p)

    -- a choice stays one when a group is added
    choice_kept : (x : Choice C) → (IsChoice m s value (take x.whole groups) x × (x.whole ≤ 8) × (x.whole ≤ length groups)) →
        IsChoice m s value (take x.whole (groups ++ (last_group ∷ []))) x × (x.whole ≤ 8) × (x.whole ≤ length (groups ++ (last_group ∷ [])))
    choice_kept x (c, w, l) = (subst (λ gs. IsChoice m s value gs x) (sym (take-append-le x.whole groups (last_group ∷ []) l)) c, w, let q = longer in omega arith)

    choice_new : (q : ℕ) → done < q → q ≤ b → s.least ≤ q →
        OnSome (λ x. IsChoice m s value (take x.whole (groups ++ (last_group ∷ []))) x × (x.whole ≤ 8) × (x.whole ≤ length (groups ++ (last_group ∷ [])))) (choice_of m f on off (suc done) (length groups) q)
    choice_new q lo hi least =
        made_some _ (spread m (Some f) on.cost off.cost (q - suc done)) q (suc done) (length groups) on off
        (λ c r. (
          subst (λ gs. IsChoice m s value gs (record { cost = c; passes = q; whole = length groups; first = suc done; on = on.way; off = off.way })) (sym (take_at groups (last_group ∷ []) (length groups) refl))
              (candidate laws s value done b range on off again leave groups f h.fronts.0 h.fronts.1 q (length groups) c lo hi least r),
          few',
          let z = longer in omega arith,
        ))

    choice_at_lem : OnSome (λ x. IsChoice m s value (take x.whole (groups ++ (last_group ∷ []))) x × (x.whole ≤ 8) × (x.whole ≤ length (groups ++ (last_group ∷ [])))) new_choice
    choice_at_lem =
        ⊎_elim
        (λ l. rw (lt-ltb b s.least l) tt)
        (λ l. rw (le-ltb b s.least l) (better_one m _ (choice_of m f on off (suc done) (length groups) (max s.least (suc done))) (choice_of m f on off (suc done) (length groups) b)
        (choice_new (max s.least (suc done)) (omega arith) (let q = e.low in omega arith) (omega arith)) (choice_new b (let q = e.low in omega arith) (omega arith) l)))
        (cases_lt b s.least)

    -- the range is done
    pub progress_more : IsProgress m s value b (joined m (Some f) (powers m on.cost (b - done))) (groups ++ (last_group ∷ [])) (better_choice m best new_choice)
    progress_more = record {
      within = e.high;
      starts = λ z l t. e.ends l (subst (λ x. SameFacts s.facts b x) (sym (add-one b)) t);
      few = let q = longer in let r = few' in omega arith;
      room = λ l. let q = longer in let r = h.room more in let c = cuts_fall s.facts done b (let w = e.low in omega arith) (λ t. e.ends l t) in omega arith;
      fronts = fronts_at on.cost refl;
      front_best = λ g i chosen p. turn_front laws s value done b range on off again leave g i chosen p f (h.front_best g i chosen p);
      runs_best = runs_at;
      choice = better_one m _ best new_choice (on_some_map _ _ choice_kept best h.choice) choice_at_lem;
    }

  -- nothing goes on, or the most number of passes is reached
  pub progress_stopped : (done : ℕ) (groups : List Group) (best : Option (Choice C)) → IsProgress m s value done None groups best → (g : List Scope) (i : ℕ) (chosen : ℕ → Run) → IsPlaced m s value g i chosen →
      IsBest m (RunCost m g i) (choice_cost best)
  progress_stopped done groups best h g i chosen p =
      runs_all laws g s i p.there (choice_cost best) (runs_stopped laws g s i p.there done (h.front_best g i chosen p) h.within (choice_cost best) (h.runs_best g i chosen p))

  pub progress_all : (done : ℕ) (front : Option C) (groups : List Group) (best : Option (Choice C)) → s.most ≤ done → IsProgress m s value done front groups best → (g : List Scope) (i : ℕ) (chosen : ℕ → Run) → IsPlaced m s value g i chosen →
      IsBest m (RunCost m g i) (choice_cost best)
  progress_all done front groups best all h g i chosen p =
      let e : done ≡ s.most = (let w = h.within in omega arith) in
      runs_all laws g s i p.there (choice_cost best) (subst (λ k. IsBest m (RunsBetween m g i s.least k) (choice_cost best)) e (h.runs_best g i chosen p))

-- a turn of the search, from what its calls answer
pub turned : {C : Type 0} {m : Measure C} → Laws m → (s : Scope) (value : ℕ → Option C) (done b first whole : ℕ) (f : C) (front front' copies : Option C) (groups groups' : List Group) (best best' found : Option (Choice C)) (on off : Costliest C) →
    front ≡ Some f → IsProgress m s value done front groups best → done < s.most → first ≡ done + 1 → IsCut s.facts first s.most b →
    IsCostliest m value s.edges s.facts first Repeat on → IsCostliest m value s.edges s.facts first Exit off →
    whole ≡ length groups → found ≡ range_choice m s.least f on off first b whole →
    groups' ≡ groups ++ (group first b (way_edges on.way) ∷ []) →
    copies ≡ powers m on.cost (b - done) → front' ≡ joined m (Some f) copies → best' ≡ better_choice m best found →
    (done < b) × IsProgress m s value b front' groups' best'
turned {C} {m} laws s value done b first whole f front front' copies groups groups' best best' found on off goes h more next cut again leave count fo gr co fr be =
    let e : first ≡ suc done = next ∙ add-one done in
    let cut' : IsCut s.facts (suc done) s.most b = subst (λ a. IsCut s.facts a s.most b) e cut in
    let again' : IsCostliest m value s.edges s.facts (suc done) Repeat on = subst (λ a. IsCostliest m value s.edges s.facts a Repeat on) e again in
    let leave' : IsCostliest m value s.edges s.facts (suc done) Exit off = subst (λ a. IsCostliest m value s.edges s.facts a Exit off) e leave in
    let h' : IsProgress m s value done (Some f) groups best = subst (λ o. IsProgress m s value done o groups best) goes h in
    let p = progress_more laws s value done b f groups best on off h' more cut' again' leave' in
    let gs : groups' ≡ groups ++ (group (suc done) b (way_edges on.way) ∷ []) = gr ∙ ap (λ a. groups ++ (group a b (way_edges on.way) ∷ [])) e in
    let fs : front' ≡ joined m (Some f) (powers m on.cost (b - done)) = fr ∙ ap (joined m (Some f)) co in
    let bs : best' ≡ better_choice m best (range_choice m s.least f on off (suc done) b (length groups)) = be ∙ ap (better_choice m best) (fo ∙ ap₂ (λ a w. range_choice m s.least f on off a b w) e count) in (
      (let w = cut'.low in omega arith),
      subst (λ o. IsProgress m s value b o groups' best') (sym fs) (subst (λ o. IsProgress m s value b (joined m (Some f) (powers m on.cost (b - done))) o best') (sym gs)
          (subst (λ o. IsProgress m s value b (joined m (Some f) (powers m on.cost (b - done))) (groups ++ (group (suc done) b (way_edges on.way) ∷ [])) o) (sym bs) p)),
    )

-- the search is at its end
pub ended_best : {C : Type 0} {m : Measure C} → Laws m → (s : Scope) (value : ℕ → Option C) (p : Progress C) → IsProgress m s value p.done p.front (groups_of p.groups) p.best → Ended s p → (x : Option (Choice C)) → p.best ≡ x → IsRunsBest m s value (choice_cost x)
ended_best {m = m} laws s value p h (inl l) x q g i chosen placed = subst (λ o. IsBest m (RunCost m g i) (choice_cost o)) q (progress_all laws s value p.done p.front (groups_of p.groups) p.best l h g i chosen placed)
ended_best {m = m} laws s value p h (inr e) x q g i chosen placed =
    subst (λ o. IsBest m (RunCost m g i) (choice_cost o)) q
    (progress_stopped laws s value p.done (groups_of p.groups) p.best (subst (λ o. IsProgress m s value p.done o (groups_of p.groups) p.best) e h) g i chosen placed)

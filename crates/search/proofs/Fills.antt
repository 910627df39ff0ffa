-- The table with one entry more.
use Rattle.std.proofs.Common.{◌≡◌, ℕ, zero, suc, ◌<◌, ◌≤◌, List, [], ◌∷◌, length, get_or, set, Some, None, Option, sym, refl, ap, ◌∙◌, subst, ap₂, ⊎_elim, arith, get_or-set_other, get_or-set_same}
use Rattle.std.specs.List.{slice_get}
use Rattle.std.proofs.lemmas.Bool.{cases_eq, cases_lt}
use Rattle.model.specs.declared.graph.Target.{Target}
use Rattle.model.specs.declared.graph.Target.TheVariants.{To, Again, Leave}
use Rattle.model.specs.Measures.{Measure}
use Rattle.model.specs.Best.{IsBest, joined}
use Rattle.model.proofs.Bests.{none_some, some_same}
use Rattle.search.specs.declared.ending.Ending.{Ending}
use Rattle.search.specs.declared.ending.Ending.TheVariants.{Again as Repeat, Leave as Exit}
use Rattle.search.specs.declared.flow.Flow.{Flow}
use Rattle.search.specs.declared.step.Step.{Step}
use Rattle.search.specs.Endings.{stop}
use Rattle.search.specs.Flows.{edges_of}
use Rattle.search.specs.Tables.{kept_by, entry, offer, cost_of_lem, OnSome, IsStep, IsEntry}
use Rattle.search.specs.Walks.{TailCost}
use Rattle.search.proofs.Held.{flow_forward}

-- a write to a list
pub nth_set_same : {A : Type 0} (xs : List A) (i : ℕ) (a : A) → i < length xs → slice_get (set xs i a) i ≡ Some a
nth_set_same [] i a h = absurd (omega arith)
nth_set_same (x ∷ xs) zero a h = refl
nth_set_same (x ∷ xs) (suc i) a h = nth_set_same xs i a (omega arith)

pub nth_set_other : {A : Type 0} (xs : List A) (i j : ℕ) (a : A) → (j ≡ i → ⊥) → slice_get (set xs i a) j ≡ slice_get xs j
nth_set_other [] i j a h = refl
nth_set_other (x ∷ xs) zero zero a h = absurd (h refl)
nth_set_other (x ∷ xs) zero (suc j) a h = refl
nth_set_other (x ∷ xs) (suc i) zero a h = refl
nth_set_other (x ∷ xs) (suc i) (suc j) a h = nth_set_other xs i j a (λ q. h (ap suc q))

-- what an edge offers depends on the entry of its target alone
offer_kept : {C : Type 0} (m : Measure C) (o : Option C) (t : Target) (end : Ending) (table table' : List C) (choices choices' : List (Option ℕ)) →
    ((v : ℕ) → t ≡ To v → entry table' choices' v ≡ entry table choices v) → offer m o t end table' choices' ≡ offer m o t end table choices
offer_kept m None t end table table' choices choices' h = refl
offer_kept m (Some a) (To v) end table table' choices choices' h = ap (joined m (Some a)) (h v refl)
offer_kept m (Some a) Again Repeat table table' choices choices' h = refl
offer_kept m (Some a) Again Exit table table' choices choices' h = refl
offer_kept m (Some a) Leave Repeat table table' choices choices' h = refl
offer_kept m (Some a) Leave Exit table table' choices choices' h = refl

-- the entry of node k is written, those above it stay
pub record IsWrite {C : Type 0} (table table' : List C) (choices choices' : List (Option ℕ)) (k : ℕ) : Type 0 where
  pub costs : (j : ℕ) → k < j → slice_get table' j ≡ slice_get table j
  pub edges : (j : ℕ) → k < j → get_or choices' j None ≡ get_or choices j None

abbrev pub IsWritten : {C : Type 0} → List C → List (Option ℕ) → ℕ → Option (Step C) → Type 0
IsWritten table choices k None = get_or choices k None ≡ None
IsWritten table choices k (Some s) = (get_or choices k None ≡ Some s.edge) × (slice_get table k ≡ Some s.cost)

module _ {C : Type 0} (m : Measure C) (value : ℕ → Option C) (f : Flow) (end : Ending) (table table' : List C) (choices choices' : List (Option ℕ)) (k : ℕ) (write : IsWrite table table' choices choices' k) where
  entry_kept : (j : ℕ) → k < j → entry table' choices' j ≡ entry table choices j
  entry_kept j h = ap₂ kept_by (write.edges j h) (write.costs j h)

  step_kept : (j : ℕ) (s : Step C) → k ≤ j → IsStep m value (edges_of f) end table choices j s → IsStep m value (edges_of f) end table' choices' j s
  step_kept j s h (x, there, starts, q) =
      (x, there, starts, offer_kept m (value s.edge) x.to end table table' choices choices' (λ v t. entry_kept v (let r = (flow_forward f s.edge x there).1 v t in omega (arith, r.0))) ∙ q)

  pub entries_kept : (j : ℕ) → k < j → IsEntry m value (edges_of f) end table choices j → IsEntry m value (edges_of f) end table' choices' j
  entries_kept j h old = record {
    best = subst (IsBest m (TailCost m value (edges_of f) (stop end) (To j))) (sym (entry_kept j h)) old.best;
    linked = λ e q. let r = old.linked e (sym (write.edges j h) ∙ q) in (r.0, write.costs j h ∙ r.1, step_kept j (record { cost = r.0; edge = e }) (omega arith) r.2);
  }

  pub entry_new : (r : Option (Step C)) → IsWritten table' choices' k r → IsBest m (TailCost m value (edges_of f) (stop end) (To k)) (cost_of_lem r) → OnSome (IsStep m value (edges_of f) end table choices k) r →
      IsEntry m value (edges_of f) end table' choices' k
  entry_new None w best linked = record {
    best = subst (IsBest m (TailCost m value (edges_of f) (stop end) (To k))) (sym (ap (λ o. kept_by o (slice_get table' k)) w)) best;
    linked = λ e q. absurd (none_some (sym w ∙ q));
  }
  entry_new (Some s) w best linked = record {
    best = subst (IsBest m (TailCost m value (edges_of f) (stop end) (To k))) (sym (ap (λ o. kept_by o (slice_get table' k)) w.0 ∙ w.1)) best;
    linked = λ e q. (s.cost, w.1, subst (λ i. IsStep m value (edges_of f) end table' choices' k (record { cost = s.cost; edge = i })) (some_same (sym w.0 ∙ q)) (step_kept k s (omega arith) linked));
  }

  -- all entries from node k on
  pub fill_more : (r : Option (Step C)) → IsWritten table' choices' k r → IsBest m (TailCost m value (edges_of f) (stop end) (To k)) (cost_of_lem r) → OnSome (IsStep m value (edges_of f) end table choices k) r →
      ((j : ℕ) → k < j → j < f.nodes → IsEntry m value (edges_of f) end table choices j) → (j : ℕ) → k ≤ j → j < f.nodes → IsEntry m value (edges_of f) end table' choices' j
  fill_more r w best linked above j low high =
      ⊎_elim
      (λ q. subst (IsEntry m value (edges_of f) end table' choices') q (entry_new r w best linked))
      (λ q. let h : k < j = le_lt low q in entries_kept j h (above j h high))
      (cases_eq k j)
    where
      le_lt : k ≤ j → (k ≡ j → ⊥) → k < j
      le_lt l q = ⊎_elim (λ h. h) (λ h. absurd (q (omega arith))) (cases_lt k j)

-- the two ways of writing
pub write_none : {C : Type 0} (table : List C) (choices : List (Option ℕ)) (k : ℕ) → k < length choices →
    IsWrite table table choices (set choices k None) k × IsWritten {C = C} table (set choices k None) k None
write_none table choices k h = (
  record { costs = λ j l. refl; edges = λ j l. get_or-set_other choices k j None None (λ q. omega arith) },
  get_or-set_same choices k None None h,
)

pub write_some : {C : Type 0} (table : List C) (choices : List (Option ℕ)) (k : ℕ) (s : Step C) → k < length choices → k < length table →
    IsWrite table (set table k s.cost) choices (set choices k (Some s.edge)) k × IsWritten (set table k s.cost) (set choices k (Some s.edge)) k (Some s)
write_some table choices k s h l = (
  record { costs = λ j q. nth_set_other table k j s.cost (λ e. omega arith); edges = λ j q. get_or-set_other choices k j (Some s.edge) None (λ e. omega arith) },
  (get_or-set_same choices k (Some s.edge) None h, nth_set_same table k s.cost l),
)

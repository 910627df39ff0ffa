-- What the settled scopes come to.
use Rattle.std.proofs.Common.{◌≡◌, ℕ, ◌*◌, ◌<◌, ◌≤◌, Bool, true, false, List, ◌++◌, length, get_or, drop, Ok, Err, sym, ◌∙◌, subst, inl, inr, arith}
use Rattle.model.specs.declared.refusal.Refusal.TheVariants.{NoScope, NoRun}
use Rattle.model.specs.declared.trail.Line.{Line}
use Rattle.model.specs.Analysis.{Solved, Tabled, Analyzed}
use Rattle.model.specs.Analysis.Analyzed.{no_run, bound}
use Rattle.model.specs.Graph.{Scope}
use Rattle.model.specs.Measures.{Measure}
use Rattle.model.specs.Rules.{Keeps}
use Rattle.model.specs.Runs.{IsBound}
use Rattle.model.specs.Trail.{size}
use Rattle.std.proofs.lemmas.Bool.{true≢false, cases_lt}
use Rattle.std.proofs.lemmas.List.{get_or_append_left}
use Rattle.std.proofs.lemmas.Option.{slice_get-get_or}
use Rattle.model.proofs.Bests.{some_same}
use Rattle.analysis.specs.States.{Settled}

some_scope : (g : List Scope) → Keeps g → 0 < length g
some_scope g kept = elim (cases_lt 0 (length g)) [ inl h ↦ h | inr h ↦ absurd (kept NoScope (omega arith)) ]

-- all scopes are settled, and the work table begins with their bounds
module _ {C : Type 0} (m : Measure C) (g : List Scope) (kept : Keeps g) (bounds table work : List C) (trail trail' : List Line) (solved : List Bool)
    (settled : (i : ℕ) → i < length g → Settled m g bounds trail' solved i) (few : length g ≤ length bounds)
    (rest : drop (size * length g) trail' ≡ drop (size * length g) trail) (room : 128 ≤ length work) (lines : size * length g ≤ length trail) where
  same : (i : ℕ) → i < length g → get_or (bounds ++ table) i m.nothing ≡ get_or bounds i m.nothing
  same i h = get_or_append_left bounds table m.nothing i (omega arith)

  moved : (i : ℕ) → get_or (bounds ++ table) i m.nothing ≡ get_or bounds i m.nothing → Settled m g bounds trail' solved i → Settled m g (bounds ++ table) trail' solved i
  moved i e (inl (q, w)) = inl (q, record { shown = w.shown; shows = w.shows; is_run = w.is_run; costs = w.costs ∙ sym e; worst = λ r is. rw e (w.worst r is) })
  moved i e (inr (q, w)) = inr (q, record { none = w.none; nothing = e ∙ w.nothing; blank = w.blank })

  now : (i : ℕ) → i < length g → Settled m g (bounds ++ table) trail' solved i
  now i h = moved i (same i h) (settled i h)

  tabled : Tabled m g trail trail' (bounds ++ table)
  tabled = record { sections = λ i h. elim (now i h) [ inl w ↦ inl w.1 | inr w ↦ inr w.1 ]; rest = rest }

  is_bound : Solved m g (bounds ++ table) trail' 0 → IsBound m g 0 (get_or (bounds ++ table) 0 m.nothing)
  is_bound w = record { attained = (w.shown, w.is_run, w.costs); greatest = w.worst }

  -- work' is the work table at the end: any list that equals the bounds with the rest of the table behind them
  pub answered_bound : get_or solved 0 false ≡ true → (work' : List C) (c : C) → work' ≡ bounds ++ table → c ≡ get_or bounds 0 c → Analyzed m g work work' trail trail' (Ok c)
  answered_bound q work' c all is = rw all (go (now 0 (some_scope g kept)))
    where
      inside : 0 < length bounds
      inside = let h = some_scope g kept in omega arith

      e : c ≡ get_or (bounds ++ table) 0 m.nothing
      e = is ∙ some_same (sym (slice_get-get_or bounds 0 c inside) ∙ slice_get-get_or bounds 0 m.nothing inside) ∙ sym (same 0 (some_scope g kept))

      go : Settled m g (bounds ++ table) trail' solved 0 → Analyzed m g work (bounds ++ table) trail trail' (Ok c)
      go (inl (p, w)) = bound room kept lines e (subst (IsBound m g 0) (sym e) (is_bound w)) tabled
      go (inr (p, w)) = absurd (true≢false (sym q ∙ p))

  pub answered_none : get_or solved 0 false ≡ false → (work' : List C) → work' ≡ bounds ++ table → Analyzed m g work work' trail trail' (Err NoRun)
  answered_none q work' all = rw all (go (now 0 (some_scope g kept)))
    where
      go : Settled m g (bounds ++ table) trail' solved 0 → Analyzed m g work (bounds ++ table) trail trail' (Err NoRun)
      go (inl (p, w)) = absurd (true≢false (sym p ∙ q))
      go (inr (p, w)) = no_run room kept lines w.none tabled

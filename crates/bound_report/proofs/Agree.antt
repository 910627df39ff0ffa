-- What a graph is refused with does not depend on the measure.
use Rattle.std.proofs.Common.{◌≡◌, ℕ, ◌*◌, ◌≤◌, ◌⊎◌, List, length, Ok, Err, Result, sym, refl, ◌∙◌, subst, inl, inr, arith}
use Rattle.model.specs.declared.refusal.Refusal.{Refusal}
use Rattle.model.specs.declared.refusal.Refusal.TheVariants.{NoRun}
use Rattle.model.specs.declared.trail.Line.{Line}
use Rattle.model.specs.Analysis.{Analyzed, Early}
use Rattle.model.specs.Analysis.Analyzed.{refused, no_run, bound}
use Rattle.model.specs.Analysis.Early.{short_work, broken, short_trail}
use Rattle.model.specs.Graph.{Scope}
use Rattle.model.specs.Measures.{Measure}
use Rattle.model.proofs.Numbers.{smallest_one}
use Rattle.model.specs.Rules.{Breaks, FirstBroken, Keeps}
use Rattle.model.specs.Runs.{Run, IsRun}
use Rattle.model.specs.Trail.{size}
use Rattle.rules.proofs.Kept.{keeps_from, few_scopes}
use Rattle.bound_report.specs.Outcomes.{WorkedOut}

-- there is one first broken rule
first_one : (g : List Scope) (x y : Refusal) → FirstBroken g x → FirstBroken g y → x ≡ y
first_one g x y p q = smallest_one (Breaks g) x y p.broken q.broken p.smallest q.smallest

-- why a graph is refused where the tables are long enough
abbrev Reason : List Scope → Refusal → Type 0
Reason g e = FirstBroken g e ⊎ (Keeps g × (((r : Run) → IsRun g 0 r → ⊥) × (e ≡ NoRun)))

one_reason : (g : List Scope) (x y : Refusal) → Reason g x → Reason g y → x ≡ y
one_reason g x y (inl p) (inl q) = first_one g x y p q
one_reason g x y (inl p) (inr q) = absurd (q.0 x p.broken)
one_reason g x y (inr p) (inl q) = absurd (p.0 y q.broken)
one_reason g x y (inr p) (inr q) = p.1.1 ∙ sym q.1.1

-- what an answer says of the graph where the tables are long enough
abbrev Says : {C : Type 0} → List Scope → Result C Refusal → Type 0
Says g (Ok c) = Keeps g × ((r : Run) × IsRun g 0 r)
Says g (Err e) = Reason g e

module _ {C : Type 0} (m : Measure C) (g : List Scope) where
  early : (w t : ℕ) (e : Refusal) → 128 ≤ w → size * 16 ≤ t → Early m g w t e → Reason g e
  early w t e h k (short_work s) = absurd (omega arith)
  early w t e h k (broken s b) = inl b
  early w t e h k (short_trail s b l) = let f = few_scopes g (keeps_from g b) in absurd (omega arith)

  said : {r : Result C Refusal} (work work' : List C) (trail trail' : List Line) → 128 ≤ length work → size * 16 ≤ length trail → Analyzed m g work work' trail trail' r → Says g r
  said work work' trail trail' h k (refused {x} a p q) = early (length work) (length trail) x h k a
  said work work' trail trail' h k (no_run a b l n q) = inr (b, (n, refl))
  said work work' trail trail' h k (bound a b l e i q) = (b, (i.attained.0, i.attained.1))

  says : (t : List Line) (r : Result C Refusal) → WorkedOut m g t r → Says g r
  says t r w = said w.work w.work' w.trail t w.room w.lines w.analyzed

  -- a bound comes only of a graph that keeps the rules
  pub bounded_few : (t : List Line) (c : C) → WorkedOut m g t (Ok c) → length g ≤ 16
  bounded_few t c w = few_scopes g (keeps_from g (says t (Ok c) w).0)

no_reason : (g : List Scope) (e : Refusal) → Keeps g × ((r : Run) × IsRun g 0 r) → Reason g e → ⊥
no_reason g e (k, r) (inl p) = k e p.broken
no_reason g e (k, r) (inr p) = p.1.0 r.0 r.1

module _ {C D : Type 0} (m : Measure C) (n : Measure D) (g : List Scope) (t u : List Line) where
  -- where one measure gives a bound, the other does not refuse
  pub not_refused : (c : C) (e : Refusal) → WorkedOut m g t (Ok c) → WorkedOut n g u (Err e) → ⊥
  not_refused c e w v = no_reason g e (says m g t (Ok c) w) (says n g u (Err e) v)

  -- where one refuses, the other does with the same number
  pub refused_alike : (e : Refusal) (r : Result D Refusal) → WorkedOut m g t (Err e) → WorkedOut n g u r → WorkedOut n g u (Err e)
  refused_alike e (Ok d) w v = absurd (no_reason g e (says n g u (Ok d) v) (says m g t (Err e) w))
  refused_alike e (Err x) w v = subst (λ (y : Refusal). WorkedOut n g u (Err y)) (one_reason g x e (says n g u (Err x) v) (says m g t (Err e) w)) v

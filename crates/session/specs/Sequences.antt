-- Calls on a workbook, one after the other.
use Rattle.std.specs.Prelude.{◌≡◌, ℕ, List, [], ◌∷◌, Some, None, Ok, Err, Option, Result}
use Rattle.model.specs.declared.refusal.Refusal.{Refusal}
use Rattle.model.specs.declared.trail.Line.{Line}
use Rattle.model.specs.Analysis.{Analyzed}
use Rattle.model.specs.Graph.{Scope}
use Rattle.model.specs.Measures.{Measure}
use Rattle.workbook.specs.Calls.{Described}
use Rattle.session.specs.declared.call.Call.{Call}
use Rattle.session.specs.declared.call.Call.TheVariants.{Edit, WorkOut}
use Rattle.session.specs.declared.call.Reply.{Reply}
use Rattle.session.specs.declared.call.Reply.TheVariants.{Number, Done, Bound}

-- what a change that is taken answers: the number that it gives, or that it is done
abbrev pub reply_to : {C : Type 0} → Option ℕ → Reply C
reply_to (Some n) = Number n
reply_to None = Done

-- the answer to a change, and to a working out
abbrev pub edit_answer : {C : Type 0} → Result (Option ℕ) Refusal → Result (Reply C) Refusal
edit_answer (Ok n) = Ok (reply_to n)
edit_answer (Err x) = Err x

abbrev pub bound_answer : {C : Type 0} → Result C Refusal → Result (Reply C) Refusal
bound_answer (Ok c) = Ok (Bound c)
bound_answer (Err x) = Err x

module _ {C : Type 0} (m : Measure C) where
  -- the call answers a on the described graph g and the tables work and trail, and leaves g', work' and trail':
  -- a change is answered as described, and leaves the tables; a working out keeps the promise of the analysis for
  -- just this graph and these tables, and leaves the graph
  abbrev pub Answers : Call → Result (Reply C) Refusal → List Scope → List C → List Line → List Scope → List C → List Line → Type 0
  Answers (Edit e) a g work trail g' work' trail' = (r : Result (Option ℕ) Refusal) × Described g e r g' × (a ≡ edit_answer r) × (work' ≡ work) × (trail' ≡ trail)
  Answers WorkOut a g work trail g' work' trail' = (r : Result C Refusal) × Analyzed m g work work' trail trail' r × (a ≡ bound_answer r) × (g' ≡ g)

  -- each call in turn is answered on the graph and the tables that the one before left
  abbrev pub Sequence : List Call → List (Result (Reply C) Refusal) → List Scope → List C → List Line → List Scope → List C → List Line → Type 0
  Sequence [] [] g work trail g' work' trail' = (g' ≡ g) × (work' ≡ work) × (trail' ≡ trail)
  Sequence [] (a ∷ bs) g work trail g' work' trail' = ⊥
  Sequence (c ∷ cs) [] g work trail g' work' trail' = ⊥
  Sequence (c ∷ cs) (a ∷ bs) g work trail g' work' trail' = (h : List Scope) × (w : List C) × (t : List Line) × Answers c a g work trail h w t × Sequence cs bs h w t g' work' trail'

  -- the calls, on a workbook straight from its making, which has no scope
  abbrev pub Played : List Call → List (Result (Reply C) Refusal) → List C → List Line → List C → List Line → Type 0
  Played calls answers work trail work' trail' = (g : List Scope) × Sequence calls answers [] work trail g work' trail'

-- The calls that change a workbook: what each answers and which graph follows, by its arguments and the graph before alone.
use Rattle.std.specs.Prelude.{◌≡◌, ℕ, ◌<◌, ◌⊎◌, List, [], ◌∷◌, ◌++◌, length, Some, None, Ok, Err, Option, Result}
use Rattle.model.specs.declared.graph.Node.TheVariants.{Block, Call}
use Rattle.model.specs.declared.refusal.Refusal.{Refusal}
use Rattle.model.specs.declared.refusal.Refusal.TheVariants.{BadFigure, Missing, NotABlock, NoFact}
use Rattle.model.specs.Changes.{change, all_but_last, empty_scope, with_passes, with_facts, with_node, with_edge, with_fact, with_figures}
use Rattle.model.specs.Graph.{Scope, node_at, node_count_lem, edge_count, fact_count_lem}
use Rattle.model.specs.Numbers.{number}
use Rattle.model.specs.Rules.{Absent, Breaks}
use Rattle.workbook.specs.declared.edit.Edit.{Edit}
use Rattle.workbook.specs.declared.edit.Edit.TheVariants.{AddScope, AddBlock, AddCall, AddEdge, AddFact, SetPasses, SetFigures, Strike}

-- the graph with the change made: additions stand at the end of their list, settings in the place of the old,
-- and a strike takes the last fact away
abbrev pub changed : List Scope → Edit → List Scope
changed g (AddScope l m) = g ++ (empty_scope l m ∷ [])
changed g (AddBlock s t k) = change s (with_node (Block t k)) g
changed g (AddCall s c) = change s (with_node (Call c)) g
changed g (AddEdge s e) = change s (with_edge e) g
changed g (AddFact s f) = change s (with_fact f) g
changed g (SetPasses s l m) = change s (with_passes l m) g
changed g (SetFigures s n t k) = change s (with_figures n t k) g
changed g (Strike s) = change s (λ x. with_facts (all_but_last x.facts) x) g

-- the call names a scope that does not exist
abbrev pub Nowhere : List Scope → Edit → Type 0
Nowhere g (AddScope l m) = ⊥
Nowhere g (AddBlock s t k) = Absent g s
Nowhere g (AddCall s c) = Absent g s
Nowhere g (AddEdge s e) = Absent g s
Nowhere g (AddFact s f) = Absent g s
Nowhere g (SetPasses s l m) = Absent g s
Nowhere g (SetFigures s n t k) = Absent g s
Nowhere g (Strike s) = Absent g s

-- what a call meets besides the rules of the changed graph. Of setting figures: a time above 1,000,000, on whatever node;
-- a node that does not exist; a call. Of a strike: that there is no fact
abbrev pub Own : List Scope → Edit → Refusal → Type 0
Own g (AddScope l m) x = ⊥
Own g (AddBlock s t k) x = ⊥
Own g (AddCall s c) x = ⊥
Own g (AddEdge s e) x = ⊥
Own g (AddFact s f) x = ⊥
Own g (SetPasses s l m) x = ⊥
Own g (SetFigures s n t k) x = ((x ≡ BadFigure) × (1000000 < t)) ⊎ (((x ≡ Missing) × (node_at g s n ≡ None)) ⊎ ((x ≡ NotABlock) × ((c : ℕ) × (node_at g s n ≡ Some (Call c)))))
Own g (Strike s) x = (x ≡ NoFact) × (fact_count_lem g s ≡ Some 0)

abbrev pub Meets : List Scope → Edit → Refusal → Type 0
Meets g e x = Breaks (changed g e) x ⊎ Own g e x

-- x is met, and nothing of a smaller number
pub record FirstMet (g : List Scope) (e : Edit) (x : Refusal) : Type 0 where
  pub met : Meets g e x
  pub smallest : (y : Refusal) → number y < number x → Meets g e y → ⊥

-- an addition answers the number given, the count of its list before the call; a setting and a strike answer none
abbrev pub number_given : List Scope → Edit → Option ℕ
number_given g (AddScope l m) = Some (length g)
number_given g (AddBlock s t k) = node_count_lem g s
number_given g (AddCall s c) = node_count_lem g s
number_given g (AddEdge s e) = edge_count g s
number_given g (AddFact s f) = fact_count_lem g s
number_given g (SetPasses s l m) = None
number_given g (SetFigures s n t k) = None
number_given g (Strike s) = None

-- what the call answers on the graph g, and the graph after it
pub data Described (g : List Scope) (e : Edit) : Result (Option ℕ) Refusal → List Scope → Type 0 where
  nowhere : Nowhere g e → Described g e (Err Missing) g
  refused : {x : Refusal} → (Nowhere g e → ⊥) → FirstMet g e x → Described g e (Err x) g
  taken : (Nowhere g e → ⊥) → ((x : Refusal) → Meets g e x → ⊥) → Described g e (Ok (number_given g e)) (changed g e)

-- an answer with a number, and one without
abbrev pub numbered : Result ℕ Refusal → Result (Option ℕ) Refusal
numbered (Ok n) = Ok (Some n)
numbered (Err x) = Err x

abbrev pub unnumbered : Result (Unit {0}) Refusal → Result (Option ℕ) Refusal
unnumbered (Ok u) = Ok None
unnumbered (Err x) = Err x

-- each call has one answer and leads to one graph
abbrev pub OneAnswer : Type 0
OneAnswer = (g : List Scope) (e : Edit) (r r' : Result (Option ℕ) Refusal) (h h' : List Scope) → Described g e r h → Described g e r' h' → (r ≡ r') × (h ≡ h')

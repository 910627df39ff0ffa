-- Following the choices of the table.
use Rattle.std.proofs.Common.{◌≡◌, ℕ, ◌-◌, ◌<◌, ◌≤◌, true, List, [], ◌∷◌, ◌++◌, length, get_or, is_some, Some, None, Option, sym, refl, ap, ◌∙◌, subst, append_assoc, arith, length-append}
use Rattle.std.specs.List.{slice_get}
use Rattle.std.proofs.lemmas.List.{append-nil}
use Rattle.std.proofs.lemmas.Option.{slice_get_within, get_or_from_slice_get}
use Rattle.model.specs.declared.graph.Target.{Target}
use Rattle.model.specs.declared.graph.Target.TheVariants.{To, Again, Leave}
use Rattle.model.specs.declared.graph.Edge.{Edge}
use Rattle.model.proofs.Bests.{some_same}
use Rattle.search.specs.declared.flow.Flow.{Flow}
use Rattle.search.specs.Flows.{edges_of}
use Rattle.search.specs.Ways.{Follows, Guides}

-- how many nodes are left to come
abbrev pub left_from : Target → ℕ
left_from (To k) = 32 - k
left_from Again = 0
left_from Leave = 0

-- at a node: it has a choice, and no more edges were taken than nodes lie below it
abbrev pub OnNode : List (Option ℕ) → ℕ → Target → List ℕ → Type 0
OnNode choices n (To k) es = (k < n) × (is_some (get_or choices k None) ≡ true) × (length es ≤ k)
OnNode choices n Again es = Unit {0}
OnNode choices n Leave es = Unit {0}

-- the walk so far: whatever follows from where it stands completes it
pub record Underway (edges : List Edge) (choices : List (Option ℕ)) (n : ℕ) (place : Target) (es : List ℕ) : Type 0 where
  pub node : OnNode choices n place es
  pub whole : (rest : List ℕ) → Follows edges choices place rest → Follows edges choices (To 0) (es ++ rest)

pub underway_none : (edges : List Edge) (choices : List (Option ℕ)) (n : ℕ) → 0 < n → is_some (get_or choices 0 None) ≡ true → Underway edges choices n (To 0) []
underway_none edges choices n some there = record { node = (some, there, omega arith); whole = λ rest h. h }

-- one edge more
pub underway_more : (edges : List Edge) (choices : List (Option ℕ)) (n k e : ℕ) (es : List ℕ) (x : Edge) → Guides edges choices n → get_or choices k None ≡ Some e → slice_get edges e ≡ Some x →
    Underway edges choices n (To k) es → Underway edges choices n x.to (es ++ (e ∷ []))
underway_more edges choices n k e es x guides chosen there h = record { node = on x.to refl; whole = λ rest f. subst (Follows edges choices (To 0)) (sym (append_assoc es (e ∷ []) rest)) (h.whole (e ∷ rest) (chosen, (x, there, f))) }
  where
    on : (t : Target) → x.to ≡ t → OnNode choices n t (es ++ (e ∷ []))
    on (To v) q =
        let r = guides k e h.node.0 chosen in
        let y : r.0 ≡ x = some_same (sym r.1 ∙ there) in
        let s = r.2 v (ap (λ (z : Edge). z.to) y ∙ q) in
        let l = length-append es (e ∷ []) in
        (s.1, s.2, omega (arith, h.node.2, s.0))
    on Again q = tt
    on Leave q = tt

pub underway_done : (edges : List Edge) (choices : List (Option ℕ)) (n : ℕ) (place : Target) (es : List ℕ) → ((k : ℕ) → place ≡ To k → ⊥) → Underway edges choices n place es → Follows edges choices (To 0) es
underway_done edges choices n (To k) es away h = absurd (away k refl)
underway_done edges choices n Again es away h = subst (Follows edges choices (To 0)) (append-nil es) (h.whole [] tt)
underway_done edges choices n Leave es away h = subst (Follows edges choices (To 0)) (append-nil es) (h.whole [] tt)

-- a turn of the loop: the edge that is taken at node k
pub taking : (f : Flow) (choices : List (Option ℕ)) (place : Target) (es : List ℕ) (k e : ℕ) → Guides (edges_of f) choices f.nodes → Underway (edges_of f) choices f.nodes place es → place ≡ To k → get_or choices k None ≡ Some e →
    (d : Edge) → (e < length (edges_of f)) × (left_from (get_or (edges_of f) e d).to < left_from place) × Underway (edges_of f) choices f.nodes (get_or (edges_of f) e d).to (es ++ (e ∷ [])) × (length es < 32)
taking f choices place es k e guides under is chosen d = (
  slice_get_within (edges_of f) e g.0 g.1,
  subst (λ (y : Edge). left_from y.to < left_from place) (sym r) (subst (λ p. left_from x.to < left_from p) (sym is) (falls x.to refl)),
  subst (λ (y : Edge). Underway (edges_of f) choices f.nodes y.to (es ++ (e ∷ []))) (sym r) (underway_more (edges_of f) choices f.nodes k e es x guides chosen g.1 here),
  omega (arith, here.node.0, here.node.2, f.fewnodes),
)
  where
    here : Underway (edges_of f) choices f.nodes (To k) es
    here = subst (λ p. Underway (edges_of f) choices f.nodes p es) is under

    g : (x : Edge) × (slice_get (edges_of f) e ≡ Some x) × ((v : ℕ) → x.to ≡ To v → (k < v) × (v < f.nodes) × (is_some (get_or choices v None) ≡ true))
    g = guides k e here.node.0 chosen

    x : Edge
    x = g.0

    r : get_or (edges_of f) e d ≡ g.0
    r = get_or_from_slice_get (edges_of f) e g.0 d g.1

    falls : (t : Target) → g.0.to ≡ t → left_from t < left_from (To k)
    falls (To v) q = let s = g.2 v q in omega (arith, s.0, s.1, f.fewnodes)
    falls Again q = omega (arith, here.node.0, f.fewnodes)
    falls Leave q = omega (arith, here.node.0, f.fewnodes)

-- Look-ups in the graph that the records describe.
use Rattle.std.specs.Prelude.{◌≡◌, ℕ, zero, suc, pred, ◌+◌, ◌≤◌, Bool, true, cond, List, [], ◌∷◌, length, drop, Some, None, Ok, Err, Option, Result, refl}
use Rattle.std.proofs.Common.{sym, ap, subst, ◌∙◌, ⊎_elim, arith, add-zero, zero-add}
use Rattle.std.proofs.lemmas.Bool.{cases_Bool}
use Rattle.std.proofs.lemmas.Bool.Decides.{nat_tests}
use Rattle.model.specs.declared.refusal.Refusal.{Refusal}
use Rattle.model.specs.declared.refusal.Refusal.TheVariants.{UnknownScope}
use Rattle.std.specs.List.{slice_get, filter_map}
use Rattle.model.specs.Graph.{Scope, in_scope}
use Rattle.image.specs.declared.record.Record.{Record}
use Rattle.image.specs.declared.record.Record.TheVariants.{AddScope, AddNode, AddEdge, AddFact}
use Rattle.image.specs.Layout.{front_of}
use Rattle.image.specs.Meaning.{Reading, read, going, placed, more, records, reading}
use Rattle.image.specs.Parts.{under, passes_in, node_in, edge_in, fact_in}
use Rattle.image.specs.Meaning.Reading.{fault, next}

-- scope number i
abbrev pub scope_of : ℕ → ℕ × ℕ → List Record → Scope
scope_of i p rs = record { least = p.0; most = p.1; nodes = filter_map (node_in i) rs; edges = filter_map (edge_in i) rs; facts = filter_map (fact_in i) rs }

-- the scopes from number i on
abbrev pub scopes_from : ℕ → List (ℕ × ℕ) → List Record → List Scope
scopes_from i [] rs = []
scopes_from i (p ∷ ps) rs = scope_of i p rs ∷ scopes_from (suc i) ps rs

abbrev pub graph_of : List Record → List Scope
graph_of rs = scopes_from 0 (filter_map passes_in rs) rs

pub scopes_length : (i : ℕ) (ps : List (ℕ × ℕ)) (rs : List Record) → length (scopes_from i ps rs) ≡ length ps
scopes_length i [] rs = refl
scopes_length i (p ∷ ps) rs = ap suc (scopes_length (suc i) ps rs)

-- what is asked of scope number s is asked of what the records say of it
pub scope_at : {A : Type 0} (f : Scope → Option A) (i s : ℕ) (ps : List (ℕ × ℕ)) (rs : List Record) → in_scope (slice_get (scopes_from i ps rs) s) f ≡ under (slice_get ps s) (λ p. f (scope_of (i + s) p rs))
scope_at f i s [] rs = refl
scope_at f i zero (p ∷ ps) rs = ap (λ (k : ℕ). f (scope_of k p rs)) (sym (add-zero i))
scope_at f i (suc s) (p ∷ ps) rs =
    scope_at f (suc i) s ps rs ∙ ap (λ (k : ℕ). under (slice_get ps s) (λ q. f (scope_of k q rs))) (omega arith)

pub under_some : (o : Option (ℕ × ℕ)) → under o Some ≡ o
under_some None = refl
under_some (Some p) = refl

-- each record names a scope before it
abbrev pub Placed : ℕ → List Record → Type 0
Placed seen [] = Unit {0}
Placed seen (r ∷ rs) = (placed seen r ≡ true) × Placed (more seen r) rs

pub placed_going : (x : Result Record Refusal) (seen : ℕ) (rest : ℕ → Reading) → ((n : ℕ) → Placed n (records (rest n))) → Placed seen (records (going x seen rest))
placed_going (Err e) seen rest h = tt
placed_going (Ok r) seen rest h =
    ⊎_elim (λ t. let P : Bool → Type 0 = λ b. Placed seen (records (cond b (next r (rest (more seen r))) (fault UnknownScope))) in subst P (sym t) (t, h (more seen r)))
    (λ t. let P : Bool → Type 0 = λ b. Placed seen (records (cond b (next r (rest (more seen r))) (fault UnknownScope))) in subst P (sym t) tt) (cases_Bool (placed seen r))

pub placed_read : (k seen : ℕ) (bs : List ℕ) → Placed seen (records (read k seen bs))
placed_read k seen [] = tt
placed_read (suc k) seen (b ∷ bs) = placed_read k seen bs
placed_read zero seen (b ∷ bs) = placed_going (front_of (b ∷ bs)) seen (λ n. read (pred b) n bs) (λ n. placed_read (pred b) n bs)

pub count_more : (seen : ℕ) (r : Record) (rs : List Record) → more seen r + length (filter_map passes_in rs) ≡ seen + length (filter_map passes_in (r ∷ rs))
count_more seen (AddScope l m) rs = omega arith
count_more seen (AddNode s n) rs = refl
count_more seen (AddEdge s e) rs = refl
count_more seen (AddFact s f) rs = refl

-- no record has a part of a scope that there is not
pub none_past : {X : Type 0} (f : Record → Option X) (s : ℕ) → ((seen : ℕ) (r : Record) → placed seen r ≡ true → seen ≤ s → f r ≡ None) → (seen : ℕ) (rs : List Record) → Placed seen rs → seen + length (filter_map passes_in rs) ≤ s → filter_map f rs ≡ []
none_past f s out seen [] w h = refl
none_past f s out seen (r ∷ rs) w h =
    let c = count_more seen r rs in
    rw (out seen r w.0 (omega arith)) (none_past f s out (more seen r) rs w.1 (omega arith))

pub scope_at_zero : {A : Type 0} (f : Scope → Option A) (s : ℕ) (rs : List Record) → in_scope (slice_get (graph_of rs) s) f ≡ under (slice_get (filter_map passes_in rs) s) (λ p. f (scope_of s p rs))
scope_at_zero f s rs =
    scope_at f 0 s (filter_map passes_in rs) rs ∙ ap (λ (k : ℕ). under (slice_get (filter_map passes_in rs) s) (λ p. f (scope_of k p rs))) (zero-add s)

nth_none : {A : Type 0} (xs : List A) (s : ℕ) → slice_get xs s ≡ None → length xs ≤ s
nth_none [] s e = omega arith
nth_none (x ∷ xs) zero e = let z : ◌≡◌ {A = ℕ} 0 1 = cc in absurd (omega arith)
nth_none (x ∷ xs) (suc s) e = let h = nth_none xs s e in omega arith

under_same : {X : Type 0} (o : Option (ℕ × ℕ)) (v : Option X) → (o ≡ None → v ≡ None) → under o (λ p. v) ≡ v
under_same None v h = sym (h refl)
under_same (Some p) v h = refl

-- a part of scope number s is a part that the records have for it
pub part_found : {X : Type 0} (f : Record → Option X) (s n : ℕ) → ((seen : ℕ) (r : Record) → placed seen r ≡ true → seen ≤ s → f r ≡ None) → (bs : List ℕ) → under (slice_get (filter_map passes_in (records (reading bs))) s) (λ p. slice_get (filter_map f (records (reading bs))) n) ≡ slice_get (filter_map f (records (reading bs))) n
part_found f s n out bs =
    under_same (slice_get (filter_map passes_in (records (reading bs))) s) (slice_get (filter_map f (records (reading bs))) n)
    (λ e. let h = nth_none (filter_map passes_in (records (reading bs))) s e in
    let z : filter_map f (records (reading bs)) ≡ [] = none_past f s out 0 (records (reading bs)) (placed_read 0 0 (drop 5 bs)) (omega arith) in rw z)

pub node_out : (s seen : ℕ) (r : Record) → placed seen r ≡ true → seen ≤ s → node_in s r ≡ None
node_out s seen (AddScope l m) p h = refl
node_out s seen (AddNode t n) p h = grind (arith, nat_tests)
node_out s seen (AddEdge t e) p h = refl
node_out s seen (AddFact t f) p h = refl

pub edge_out : (s seen : ℕ) (r : Record) → placed seen r ≡ true → seen ≤ s → edge_in s r ≡ None
edge_out s seen (AddScope l m) p h = refl
edge_out s seen (AddNode t n) p h = refl
edge_out s seen (AddEdge t e) p h = grind (arith, nat_tests)
edge_out s seen (AddFact t f) p h = refl

pub fact_out : (s seen : ℕ) (r : Record) → placed seen r ≡ true → seen ≤ s → fact_in s r ≡ None
fact_out s seen (AddScope l m) p h = refl
fact_out s seen (AddNode t n) p h = refl
fact_out s seen (AddEdge t e) p h = refl
fact_out s seen (AddFact t f) p h = grind (arith, nat_tests)

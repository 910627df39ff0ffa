-- The graph built record by record is the graph read off the list of the records.
use Rattle.std.specs.Prelude.{◌≡◌, ℕ, zero, suc, ◌+◌, ◌≤◌, true, List, [], ◌∷◌, ◌++◌, length, drop, Some, None, Option, ◌≢◌, refl}
use Rattle.std.proofs.Common.{sym, ap, subst, ◌∙◌, arith, zero-add, add-zero}
use Rattle.std.proofs.lemmas.List.{append-nil, append_assoc, length-append}
use Rattle.std.proofs.lemmas.List.Elements.{filter_map-append}
use Rattle.std.proofs.lemmas.Bool.{ne_eqb, eq-eqb}
use Rattle.std.specs.List.{filter_map}
use Rattle.model.specs.declared.graph.Node.{Node}
use Rattle.model.specs.declared.graph.Edge.{Edge}
use Rattle.model.specs.declared.graph.Fact.{Fact}
use Rattle.model.specs.Graph.{Scope}
use Rattle.image.specs.declared.record.Record.{Record}
use Rattle.image.specs.declared.record.Record.TheVariants.{AddScope, AddNode, AddEdge, AddFact}
use Rattle.image.specs.Meaning.{placed, more, records, reading, add, built, meant}
use Rattle.model.specs.Changes.{change, with_node, with_edge, with_fact}
use Rattle.image.specs.Parts.{passes_in, node_in, edge_in, fact_in}
use Rattle.image.specs.Graphs.{scope_of, scopes_from, graph_of, Placed, placed_read, count_more, none_past, node_out, edge_out, fact_out}

found_same : {X : Type 0} (f : Record → Option X) (rs : List Record) (r : Record) → f r ≡ None → filter_map f (rs ++ (r ∷ [])) ≡ filter_map f rs
found_same f rs r e = filter_map-append f rs (r ∷ []) ∙ (rw e (append-nil (filter_map f rs)))

found_more : {X : Type 0} (f : Record → Option X) (rs : List Record) (r : Record) (x : X) → f r ≡ Some x → filter_map f (rs ++ (r ∷ [])) ≡ filter_map f rs ++ (x ∷ [])
found_more f rs r x e = filter_map-append f rs (r ∷ []) ∙ (rw e refl)

abbrev whole : ℕ × ℕ → List Node → List Edge → List Fact → Scope
whole p ns es fs = record { least = p.0; most = p.1; nodes = ns; edges = es; facts = fs }

same_scope : (p : ℕ × ℕ) (ns ns' : List Node) (es es' : List Edge) (fs fs' : List Fact) → ns ≡ ns' → es ≡ es' → fs ≡ fs' → whole p ns es fs ≡ whole p ns' es' fs'
same_scope p ns ns' es es' fs fs' a b c = ap (λ x. whole p x es fs) a ∙ ap (λ x. whole p ns' x fs) b ∙ ap (λ x. whole p ns' es' x) c

-- a record that says nothing of scope i leaves it
untouched : (rs : List Record) (r : Record) (i : ℕ) (p : ℕ × ℕ) → node_in i r ≡ None → edge_in i r ≡ None → fact_in i r ≡ None → scope_of i p (rs ++ (r ∷ [])) ≡ scope_of i p rs
untouched rs r i p a b c = same_scope p _ _ _ _ _ _ (found_same (node_in i) rs r a) (found_same (edge_in i) rs r b) (found_same (fact_in i) rs r c)

all_same : (rs : List Record) (r : Record) (i : ℕ) (ps : List (ℕ × ℕ)) → ((k : ℕ) (p : ℕ × ℕ) → i ≤ k → scope_of k p (rs ++ (r ∷ [])) ≡ scope_of k p rs) → scopes_from i ps (rs ++ (r ∷ [])) ≡ scopes_from i ps rs
all_same rs r i [] h = refl
all_same rs r i (p ∷ ps) h = ap (λ x. x ∷ scopes_from (suc i) ps (rs ++ (r ∷ []))) (h i p (omega arith)) ∙ ap (λ xs. scope_of i p rs ∷ xs) (all_same rs r (suc i) ps (λ k q l. h k q (omega arith)))

changed : (rs : List Record) (r : Record) (F : Scope → Scope) (s i d : ℕ) (ps : List (ℕ × ℕ)) → s ≡ i + d → ((k : ℕ) (p : ℕ × ℕ) → (s ≢ k) → scope_of k p (rs ++ (r ∷ [])) ≡ scope_of k p rs) → ((p : ℕ × ℕ) → scope_of s p (rs ++ (r ∷ [])) ≡ F (scope_of s p rs)) → scopes_from i ps (rs ++ (r ∷ [])) ≡ change d F (scopes_from i ps rs)
changed rs r F s i d [] e out here = refl
changed rs r F s i zero (p ∷ ps) e out here =
    let z : s ≡ i = omega arith in
    let P : ℕ → Type 0 = λ k. scope_of k p (rs ++ (r ∷ [])) ≡ F (scope_of k p rs) in
    ap (λ x. x ∷ scopes_from (suc i) ps (rs ++ (r ∷ []))) (subst P z (here p)) ∙ ap (λ xs. F (scope_of i p rs) ∷ xs) (all_same rs r (suc i) ps (λ k q l. out k q (λ w. omega arith)))
changed rs r F s i (suc d) (p ∷ ps) e out here =
    ap (λ x. x ∷ scopes_from (suc i) ps (rs ++ (r ∷ []))) (out i p (λ w. omega arith)) ∙ ap (λ xs. scope_of i p rs ∷ xs) (changed rs r F s (suc i) d ps (omega arith) out here)

scopes_push : (i : ℕ) (ps : List (ℕ × ℕ)) (p : ℕ × ℕ) (rs : List Record) → scopes_from i (ps ++ (p ∷ [])) rs ≡ scopes_from i ps rs ++ (scope_of (i + length ps) p rs ∷ [])
scopes_push i [] p rs = ap (λ k. scope_of k p rs ∷ []) (sym (add-zero i))
scopes_push i (q ∷ ps) p rs = ap (λ xs. scope_of i q rs ∷ xs) (scopes_push (suc i) ps p rs ∙ ap (λ k. scopes_from (suc i) ps rs ++ (scope_of k p rs ∷ [])) (omega arith))

opened_scope : (done : List Record) (l m : ℕ) → Placed 0 done → graph_of (done ++ (AddScope l m ∷ [])) ≡ add (graph_of done) (AddScope l m)
opened_scope done l m w =
    let ps = filter_map passes_in done in
    let c : (0 + length ps) ≤ length ps = omega arith in
    let a = none_past (node_in (0 + length ps)) (0 + length ps) (node_out (0 + length ps)) 0 done w (omega arith) in
    let b = none_past (edge_in (0 + length ps)) (0 + length ps) (edge_out (0 + length ps)) 0 done w (omega arith) in
    let d = none_past (fact_in (0 + length ps)) (0 + length ps) (fact_out (0 + length ps)) 0 done w (omega arith) in
    all_same done (AddScope l m) 0 (filter_map passes_in (done ++ (AddScope l m ∷ []))) (λ k p h. untouched done (AddScope l m) k p refl refl refl)
    ∙ ap (λ qs. scopes_from 0 qs done) (found_more passes_in done (AddScope l m) (l, m) refl)
    ∙ scopes_push 0 ps (l, m) done
    ∙ ap (λ x. scopes_from 0 ps done ++ (x ∷ [])) (same_scope (l, m) _ [] _ [] _ [] a b d)

node_other : (s k : ℕ) (n : Node) → (s ≢ k) → node_in k (AddNode s n) ≡ None
node_other s k n h = rw (ne_eqb s k h) refl

edge_other : (s k : ℕ) (e : Edge) → (s ≢ k) → edge_in k (AddEdge s e) ≡ None
edge_other s k e h = rw (ne_eqb s k h) refl

fact_other : (s k : ℕ) (f : Fact) → (s ≢ k) → fact_in k (AddFact s f) ≡ None
fact_other s k f h = rw (ne_eqb s k h) refl

add_record : (done : List Record) (r : Record) → Placed 0 done → graph_of (done ++ (r ∷ [])) ≡ add (graph_of done) r
add_record done (AddScope l m) w = opened_scope done l m w
add_record done (AddNode s n) w =
    ap (λ qs. scopes_from 0 qs (done ++ (AddNode s n ∷ []))) (found_same passes_in done (AddNode s n) refl)
    ∙ changed done (AddNode s n) (with_node n) s 0 s (filter_map passes_in done) (omega arith)
    (λ k p h. untouched done (AddNode s n) k p (node_other s k n h) refl refl)
    (λ p. same_scope p _ _ _ _ _ _ (found_more (node_in s) done (AddNode s n) n (rw (eq-eqb s s refl) refl)) (found_same (edge_in s) done (AddNode s n) refl) (found_same (fact_in s) done (AddNode s n) refl))
add_record done (AddEdge s e) w =
    ap (λ qs. scopes_from 0 qs (done ++ (AddEdge s e ∷ []))) (found_same passes_in done (AddEdge s e) refl)
    ∙ changed done (AddEdge s e) (with_edge e) s 0 s (filter_map passes_in done) (omega arith)
    (λ k p h. untouched done (AddEdge s e) k p refl (edge_other s k e h) refl)
    (λ p. same_scope p _ _ _ _ _ _ (found_same (node_in s) done (AddEdge s e) refl) (found_more (edge_in s) done (AddEdge s e) e (rw (eq-eqb s s refl) refl)) (found_same (fact_in s) done (AddEdge s e) refl))
add_record done (AddFact s f) w =
    ap (λ qs. scopes_from 0 qs (done ++ (AddFact s f ∷ []))) (found_same passes_in done (AddFact s f) refl)
    ∙ changed done (AddFact s f) (with_fact f) s 0 s (filter_map passes_in done) (omega arith)
    (λ k p h. untouched done (AddFact s f) k p refl refl (fact_other s k f h))
    (λ p. same_scope p _ _ _ _ _ _ (found_same (node_in s) done (AddFact s f) refl) (found_same (edge_in s) done (AddFact s f) refl) (found_more (fact_in s) done (AddFact s f) f (rw (eq-eqb s s refl) refl)))

placed_push : (seen : ℕ) (done : List Record) (r : Record) → Placed seen done → placed (seen + length (filter_map passes_in done)) r ≡ true → Placed seen (done ++ (r ∷ []))
placed_push seen [] r w h = (rw add-zero at h, tt)
placed_push seen (x ∷ done) r w h = (w.0, placed_push (more seen x) done r w.1 (rw (count_more seen x done) h))

count_push : (done : List Record) (r : Record) → more (length (filter_map passes_in done)) r ≡ length (filter_map passes_in (done ++ (r ∷ [])))
count_push done (AddScope l m) = let e = ap length (found_more passes_in done (AddScope l m) (l, m) refl) in let k = length-append (filter_map passes_in done) ((l, m) ∷ []) in omega arith
count_push done (AddNode s n) = ap length (sym (found_same passes_in done (AddNode s n) refl))
count_push done (AddEdge s e) = ap length (sym (found_same passes_in done (AddEdge s e) refl))
count_push done (AddFact s f) = ap length (sym (found_same passes_in done (AddFact s f) refl))

built_from : (done rs : List Record) → Placed 0 done → Placed (length (filter_map passes_in done)) rs → built (graph_of done) rs ≡ graph_of (done ++ rs)
built_from done [] w v = ap graph_of (sym (append-nil done))
built_from done (r ∷ rs) w v =
    let P : ℕ → Type 0 = λ k. Placed k rs in
    let Q : ℕ → Type 0 = λ k. placed k r ≡ true in
    ap (λ g. built g rs) (sym (add_record done r w))
    ∙ built_from (done ++ (r ∷ [])) rs (placed_push 0 done r w (subst Q (sym (zero-add (length (filter_map passes_in done)))) v.0)) (subst P (count_push done r) v.1)
    ∙ ap graph_of (append_assoc done (r ∷ []) rs)

-- the meant graph is the fold of the records
pub is_built : (bs : List ℕ) → meant bs ≡ graph_of (records (reading bs))
is_built bs = (built_from [] (records (reading bs)) tt (placed_read 0 0 (drop 5 bs)))

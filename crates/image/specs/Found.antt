-- Each look-up in the meant graph, as it is found in the records.
use Rattle.std.specs.Prelude.{◌≡◌, ℕ, List, length, Some, None, Option, refl}
use Rattle.std.proofs.Common.{sym, ap, ◌∙◌}
use Rattle.std.specs.List.{slice_get, filter_map}
use Rattle.model.specs.Graph.{passes_at, node_count_lem, edge_count, fact_count_lem, node_at, edge_at, fact_at_lem}
use Rattle.image.specs.declared.record.Record.{Record}
use Rattle.image.specs.Meaning.{records, reading, meant}
use Rattle.image.specs.Parts.{under, passes_in, node_in, edge_in, fact_in, count_of}
use Rattle.image.specs.Graphs.{under_some, scope_at_zero, scopes_length, part_found, node_out, edge_out, fact_out}
use Rattle.image.specs.Folds.{is_built}

pub scopes_found : (bs : List ℕ) → length (meant bs) ≡ length (filter_map passes_in (records (reading bs)))
scopes_found bs = ap length (is_built bs) ∙ scopes_length 0 (filter_map passes_in (records (reading bs))) (records (reading bs))

pub passes_found : (bs : List ℕ) (s : ℕ) → passes_at (meant bs) s ≡ slice_get (filter_map passes_in (records (reading bs))) s
passes_found bs s = ap (λ g. passes_at g s) (is_built bs) ∙ scope_at_zero (λ x. Some (x.least, x.most)) s (records (reading bs)) ∙ under_some (slice_get (filter_map passes_in (records (reading bs))) s)

pub node_found : (bs : List ℕ) (s n : ℕ) → node_at (meant bs) s n ≡ slice_get (filter_map (node_in s) (records (reading bs))) n
node_found bs s n = ap (λ g. node_at g s n) (is_built bs) ∙ scope_at_zero (λ x. slice_get x.nodes n) s (records (reading bs)) ∙ part_found (node_in s) s n (node_out s) bs

pub edge_found : (bs : List ℕ) (s n : ℕ) → edge_at (meant bs) s n ≡ slice_get (filter_map (edge_in s) (records (reading bs))) n
edge_found bs s n = ap (λ g. edge_at g s n) (is_built bs) ∙ scope_at_zero (λ x. slice_get x.edges n) s (records (reading bs)) ∙ part_found (edge_in s) s n (edge_out s) bs

pub fact_found : (bs : List ℕ) (s n : ℕ) → fact_at_lem (meant bs) s n ≡ slice_get (filter_map (fact_in s) (records (reading bs))) n
fact_found bs s n = ap (λ g. fact_at_lem g s n) (is_built bs) ∙ scope_at_zero (λ x. slice_get x.facts n) s (records (reading bs)) ∙ part_found (fact_in s) s n (fact_out s) bs

pub nodes_found : (bs : List ℕ) (s : ℕ) → node_count_lem (meant bs) s ≡ count_of (node_in s) (Some s) (records (reading bs))
nodes_found bs s = ap (λ g. node_count_lem g s) (is_built bs) ∙ scope_at_zero (λ x. Some (length x.nodes)) s (records (reading bs))

pub edges_found : (bs : List ℕ) (s : ℕ) → edge_count (meant bs) s ≡ count_of (edge_in s) (Some s) (records (reading bs))
edges_found bs s = ap (λ g. edge_count g s) (is_built bs) ∙ scope_at_zero (λ x. Some (length x.edges)) s (records (reading bs))

pub facts_found : (bs : List ℕ) (s : ℕ) → fact_count_lem (meant bs) s ≡ count_of (fact_in s) (Some s) (records (reading bs))
facts_found bs s = ap (λ g. fact_count_lem g s) (is_built bs) ∙ scope_at_zero (λ x. Some (length x.facts)) s (records (reading bs))

-- the three ways of counting
pub counted_all : {X : Type 0} (f : Record → Option X) (h : Option ℕ) (bs : List ℕ) (n : ℕ) → None ≡ h → n ≡ length (filter_map f (records (reading bs))) → count_of f h (records (reading bs)) ≡ Some n
counted_all f h bs n e l = rw (← e, l) refl

pub counted_none : {X : Type 0} (f : Record → Option X) (h : Option ℕ) (s : ℕ) (bs : List ℕ) → Some s ≡ h → None ≡ passes_at (meant bs) s → count_of f h (records (reading bs)) ≡ None
counted_none f h s bs e p = rw (← e) (ap (λ o. under o (λ q. Some (length (filter_map f (records (reading bs)))))) (sym (p ∙ passes_found bs s)))

pub counted_some : {X : Type 0} (f : Record → Option X) (h : Option ℕ) (s n : ℕ) (q : ℕ × ℕ) (bs : List ℕ) → Some s ≡ h → Some q ≡ passes_at (meant bs) s → n ≡ length (filter_map f (records (reading bs))) → count_of f h (records (reading bs)) ≡ Some n
counted_some f h s n q bs e p l = rw (← e) (ap (λ o. under o (λ q. Some (length (filter_map f (records (reading bs)))))) (sym (p ∙ passes_found bs s)) ∙ ap Some (sym l))

-- One line more of a listing.
use Rattle.std.proofs.Common.{◌≡◌, ℕ, zero, suc, ◌+◌, ◌<◌, ◌≤◌, List, [], ◌∷◌, ◌++◌, length, drop, Some, None, codes, Option, sym, refl, ap, ◌∙◌, append_assoc, add-one, arith}
use Rattle.std.specs.List.{slice_get}
use Rattle.std.proofs.lemmas.List.{append-nil, drop_all}
use Rattle.model.specs.Graph.{Scope, in_scope}
use Rattle.report.specs.declared.scope_line.ScopeLine.{ScopeLine}
use Rattle.report.specs.Lines.{line_of, line_text, lines}

some_scope : (o : Option Scope) (i : ℕ) (l : ScopeLine) → in_scope o (λ x. Some (line_of i x)) ≡ Some l → (x : Scope) × (o ≡ Some x) × (l ≡ line_of i x)
some_scope None i l e = let z : ◌≡◌ {A = ℕ} 0 1 = cc in absurd (omega arith)
some_scope (Some x) i l e = (x, refl, cc)

drop_at : {A : Type 0} (g : List A) (i : ℕ) (x : A) → slice_get g i ≡ Some x → drop i g ≡ x ∷ drop (suc i) g
drop_at [] i x e = let z : ◌≡◌ {A = ℕ} 0 1 = cc in absurd (omega arith)
drop_at (y ∷ g) zero x e = let h : y ≡ x = cc in ap (λ z. z ∷ g) h
drop_at (y ∷ g) (suc i) x e = drop_at g i x e

-- the line of scope i goes from what is left to what is written
pub line_more : (g : List Scope) (i : ℕ) (old new all : List ℕ) (l : ScopeLine) → in_scope (slice_get g i) (λ x. Some (line_of i x)) ≡ Some l → new ≡ old ++ (line_text l ++ codes "\n") → old ++ lines i (drop i g) ≡ all → new ++ lines (i + 1) (drop (i + 1) g) ≡ all
line_more g i old new all l f e h =
    let w = some_scope (slice_get g i) i l f in
    let d = drop_at g i w.0 w.1 in
    rw (add-one, e) (append_assoc old (line_text l ++ codes "\n") (lines (suc i) (drop (suc i) g)) ∙ ap (λ z. old ++ ((line_text z ++ codes "\n") ++ lines (suc i) (drop (suc i) g))) w.2 ∙ ap (λ z. old ++ lines i z) (sym d) ∙ h)

-- a scope below the count has a line
pub has_line : (g : List Scope) (i : ℕ) (f : Scope → ScopeLine) → i < length g → in_scope (slice_get g i) (λ x. Some (f x)) ≡ None → ⊥
has_line [] i f h e = omega arith
has_line (x ∷ g) zero f h e = let z : ◌≡◌ {A = ℕ} 0 1 = cc in omega arith
has_line (x ∷ g) (suc i) f h e = has_line g i f (omega arith) e

-- behind the last scope nothing is left
pub all_lines : (g : List Scope) (i : ℕ) (text all : List ℕ) → length g ≤ i → text ++ lines i (drop i g) ≡ all → text ≡ all
all_lines g i text all h e = sym (append-nil text) ∙ ap (λ z. text ++ lines i z) (sym (drop_all i g h)) ∙ e

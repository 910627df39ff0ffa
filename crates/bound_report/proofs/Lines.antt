-- One line more of a report.
use Rattle.std.proofs.Common.{◌≡◌, ℕ, zero, suc, ◌+◌, ◌<◌, List, [], ◌∷◌, ◌++◌, length, get_or, take, sym, ap, ◌∙◌, append_assoc, add-one, arith}
use Rattle.std.proofs.lemmas.List.{append-nil}
use Rattle.bound_report.specs.Text.{scope_line_lem, scope_lines_lem}

lines_next : (i : ℕ) (ps : List ℕ) (k j : ℕ) → i + k ≡ j → k < length ps → scope_lines_lem i (take (suc k) ps) ≡ scope_lines_lem i (take k ps) ++ scope_line_lem j (get_or ps k 0)
lines_next i [] k j e h = absurd (omega arith)
lines_next i (p ∷ ps) zero j e h = let q : i ≡ j = omega arith in append-nil (scope_line_lem i p) ∙ ap (λ (n : ℕ). scope_line_lem n p) q
lines_next i (p ∷ ps) (suc k) j e h =
    ap (λ z. scope_line_lem i p ++ z) (lines_next (suc i) ps k j (omega arith) (omega arith)) ∙ sym (append_assoc (scope_line_lem i p) (scope_lines_lem (suc i) (take k ps)) (scope_line_lem j (get_or ps k 0)))

-- the line of scope k follows those of the scopes before it
pub lines_more : (ps : List ℕ) (k : ℕ) → k < length ps → scope_lines_lem 0 (take (k + 1) ps) ≡ scope_lines_lem 0 (take k ps) ++ scope_line_lem k (get_or ps k 0)
lines_more ps k h = ap (λ n. scope_lines_lem 0 (take n ps)) (add-one k) ∙ lines_next 0 ps k k (omega arith) h

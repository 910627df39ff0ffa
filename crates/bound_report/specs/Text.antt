-- What is said of an image, as text.
use Rattle.std.specs.Prelude.{◌≡◌, ℕ, suc, Bool, List, [], ◌∷◌, ◌++◌, is_err, Ok, Err, vec_items, codes, decimal, Result}
use Rattle.model.specs.declared.refusal.Refusal.{Refusal}
use Rattle.model.specs.Numbers.{refused_text}
use Rattle.bound_report.specs.Outcomes.{ComesTo}
use Rattle.bound_report.specs.declared.bounds.Bounds.{Bounds}

abbrev pub scope_line_lem : ℕ → ℕ → List ℕ
scope_line_lem i passes = codes "scope " ++ (decimal i ++ (codes " passes " ++ (decimal passes ++ codes "\n")))

-- the lines of the scopes from number i on
abbrev pub scope_lines_lem : ℕ → List ℕ → List ℕ
scope_lines_lem i [] = []
scope_lines_lem i (p ∷ ps) = scope_line_lem i p ++ scope_lines_lem (suc i) ps

abbrev pub head_text : ℕ → ℕ → List ℕ
head_text cycles stack = codes "cycles " ++ (decimal cycles ++ (codes "\nstack " ++ (decimal stack ++ codes "\n")))

abbrev pub bounds_text_lem : Bounds → List ℕ
bounds_text_lem b = head_text b.cycles.count b.stack.bytes ++ scope_lines_lem 0 (vec_items b.passes)

-- bounds are said with the passes of each scope, and a refusal by its number
abbrev pub outcome_text : Result Bounds Refusal → List ℕ
outcome_text (Ok b) = bounds_text_lem b
outcome_text (Err e) = refused_text e ++ codes "\n"

-- the text is what is said of what the bytes come to, and says whether that is a refusal
abbrev pub Says : List ℕ → List ℕ → Bool → Type 0
Says bytes text refused = (o : Result Bounds Refusal) × ComesTo bytes o × (text ≡ outcome_text o) × (refused ≡ is_err o)

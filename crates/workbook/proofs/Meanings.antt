-- The scopes that sheets mean, one by one.
use Rattle.std.proofs.Common.{◌≡◌, ℕ, zero, suc, ◌<◌, ◌≤◌, List, [], ◌∷◌, ◌++◌, map, length, get_or, set, Some, None, sym, refl, ap, ◌∙◌, arith}
use Rattle.std.specs.List.{slice_get}
use Rattle.std.proofs.lemmas.List.{map_push}
use Rattle.model.specs.Changes.{change, all_but_last}
use Rattle.model.specs.Graph.{Scope}
use Rattle.workbook.specs.declared.sheet.Sheet.{Sheet}
use Rattle.workbook.specs.Sheets.{scope_of}
use Rattle.workbook.proofs.Lists.{all_but_last_push}

pub nth_map_past : (xs : List Sheet) (i : ℕ) → length xs ≤ i → slice_get (map scope_of xs) i ≡ None
nth_map_past [] i h = refl
nth_map_past (x ∷ xs) zero h = absurd (omega arith)
nth_map_past (x ∷ xs) (suc i) h = nth_map_past xs i (omega arith)

pub nth_map_at : (xs : List Sheet) (i : ℕ) (x : Sheet) → i < length xs → x ≡ get_or xs i x → slice_get (map scope_of xs) i ≡ Some (scope_of x)
nth_map_at [] i x h e = absurd (omega arith)
nth_map_at (y ∷ xs) zero x h e = ap (λ s. Some (scope_of s)) (sym e)
nth_map_at (y ∷ xs) (suc i) x h e = nth_map_at xs i x (omega arith) e

-- a sheet that is changed
pub set_changed : (f : Scope → Scope) (xs : List Sheet) (i : ℕ) (x y : Sheet) → i < length xs → x ≡ get_or xs i x → scope_of y ≡ f (scope_of x) → map scope_of (set xs i y) ≡ change i f (map scope_of xs)
set_changed f [] i x y h e k = refl
set_changed f (z ∷ xs) zero x y h e k = ap (λ s. s ∷ map scope_of xs) (k ∙ ap (λ s. f (scope_of s)) e)
set_changed f (z ∷ xs) (suc i) x y h e k = ap (λ l. scope_of z ∷ l) (set_changed f xs i x y (omega arith) e k)

pub closed : (xs ys : List Sheet) (y : Sheet) → xs ≡ ys ++ (y ∷ []) → map scope_of ys ≡ all_but_last (map scope_of xs)
closed xs ys y e = sym (all_but_last_push (map scope_of ys) (scope_of y)) ∙ ap all_but_last (sym (ap (map scope_of) e ∙ map_push scope_of ys y))

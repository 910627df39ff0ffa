-- The groups of a run, put together.
use Rattle.std.proofs.Common.{◌≡◌, ℕ, ◌-◌, ◌<◌, ◌≤◌, List, [], ◌∷◌, ◌++◌, map, take, sym, ap, ◌∙◌, append_assoc}
use Rattle.std.proofs.lemmas.Bool.{lt-ltb, le-ltb}
use Rattle.std.proofs.lemmas.List.{map-append, take-map}
use Rattle.row.specs.declared.row.Row.{Row}
use Rattle.row.specs.Rows.{items_of}
use Rattle.model.specs.Trail.{Group}
use Rattle.trail.specs.declared.groups.PassGroup.{PassGroup}
use Rattle.trail.specs.Groups.{group_of, groups_of}
use Rattle.bound.specs.Choices.{group, last_groups}

-- one group more
pub pushed : (r r' : Row PassGroup 10) (x : PassGroup) → items_of r' ≡ items_of r ++ (x ∷ []) → groups_of r' ≡ groups_of r ++ (group_of x ∷ [])
pushed r r' x e = ap (map group_of) e ∙ map-append group_of (items_of r) (x ∷ [])

-- the first groups alone
pub truncated : (r r' : Row PassGroup 10) (n : ℕ) → items_of r' ≡ take n (items_of r) → groups_of r' ≡ take n (groups_of r)
truncated r r' n e = ap (map group_of) e ∙ sym (take-map group_of n (items_of r))

pub ends_cut : (gs mid new : List Group) (first passes : ℕ) (on off : List ℕ) → first < passes → mid ≡ gs ++ (group first (passes - 1) on ∷ []) → new ≡ mid ++ (group passes passes off ∷ []) →
    new ≡ gs ++ last_groups first passes on off
ends_cut gs mid new first passes on off low m n =
    rw (lt-ltb first passes low) (n ∙ ap (λ xs. xs ++ (group passes passes off ∷ [])) m ∙ append_assoc gs (group first (passes - 1) on ∷ []) (group passes passes off ∷ []))

pub ends_alone : (gs new : List Group) (first passes : ℕ) (on off : List ℕ) → passes ≤ first → new ≡ gs ++ (group passes passes off ∷ []) → new ≡ gs ++ last_groups first passes on off
ends_alone gs new first passes on off high n = rw (le-ltb first passes high) n

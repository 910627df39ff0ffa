-- What a list of groups holds.
use Rattle.std.proofs.Common.{◌≡◌, ℕ, zero, suc, ◌<◌, List, [], ◌∷◌, map, length, get_or, Some, sym, refl, ap, ◌∙◌}
use lib.ListN.{length-map}
use Rattle.std.proofs.lemmas.Option.{slice_get_read}
use Rattle.std.specs.List.{slice_get}
use Rattle.std.specs.Option.{option_map}
use Rattle.row.specs.declared.row.Row.{Row}
use Rattle.row.specs.Rows.{items_of}
use Rattle.trail.specs.declared.groups.PassGroup.{PassGroup}
use Rattle.trail.specs.Groups.{group_of, groups_of}

nth_map : {A B : Type 0} (f : A → B) (xs : List A) (i : ℕ) → slice_get (map f xs) i ≡ option_map f (slice_get xs i)
nth_map f [] i = refl
nth_map f (x ∷ xs) zero = refl
nth_map f (x ∷ xs) (suc i) = nth_map f xs i

pub held_length : (g : Row PassGroup 10) → length (groups_of g) ≡ length (items_of g)
held_length g = simp length-map refl

-- a group that was read off the items
pub held_at : (g : Row PassGroup 10) (xs : List PassGroup) → xs ≡ items_of g → (i : ℕ) (x : PassGroup) → i < length xs → x ≡ get_or xs i x → Some (group_of x) ≡ slice_get (groups_of g) i
held_at g xs e i x h r =
    ap (option_map group_of) (sym (slice_get_read xs (length xs) i x refl h r)) ∙ sym (nth_map group_of xs i) ∙ ap (λ ys. slice_get (map group_of ys) i) e

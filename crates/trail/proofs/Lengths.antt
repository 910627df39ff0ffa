-- How many lines a section has.
use Rattle.std.proofs.Common.{◌≡◌, ℕ, suc, ◌*◌, ◌≤◌, List, [], ◌∷◌, ◌++◌, map, length, take, sym, refl, ap, ◌∙◌, arith, length-append, length-take}
use lib.ListN.{length-replicate}
use Rattle.std.proofs.lemmas.List.{append_assoc}
use Rattle.model.specs.Graph.{Scope}
use Rattle.model.specs.Trail.{Group, line, way_lines, group_lines, section_lines, padded, size}
use Rattle.row.specs.declared.row.Row.{Row}
use Rattle.search.specs.Ways.{way_edges}
use Rattle.trail.specs.declared.groups.PassGroup.{PassGroup}
use Rattle.trail.specs.Groups.{group_of, groups_of}

pub length_way : (s : Scope) (es : List ℕ) → length (way_lines s es) ≡ length es
length_way s [] = refl
length_way s (e ∷ es) = ap suc (length_way s es)

pub way_short : (w : Row ℕ 32) → length (way_edges w) ≤ 32
way_short w = simp length-take (omega (arith, w.short))

pub way_lines_more : (s : Scope) (xs ys : List ℕ) → way_lines s (xs ++ ys) ≡ way_lines s xs ++ way_lines s ys
way_lines_more s [] ys = refl
way_lines_more s (x ∷ xs) ys = rw (way_lines_more s xs ys)

pub group_lines_more : (s : Scope) (xs ys : List Group) → group_lines s (xs ++ ys) ≡ group_lines s xs ++ group_lines s ys
group_lines_more s [] ys = refl
group_lines_more s (x ∷ xs) ys =
    ap (λ l. line 2 x.first x.last ∷ (way_lines s x.way ++ l)) (group_lines_more s xs ys)
    ∙ ap (λ l. line 2 x.first x.last ∷ l) (sym (append_assoc (way_lines s x.way) (group_lines s xs) (group_lines s ys)))

pub groups_short : (s : Scope) (xs : List PassGroup) → length (group_lines s (map group_of xs)) ≤ 33 * length xs
groups_short s [] = omega arith
groups_short s (x ∷ xs) =
    let a = groups_short s xs in
    let b = way_short x.way in
    let d = length_way s (way_edges x.way) in
    let e = length-append (way_lines s (way_edges x.way)) (group_lines s (map group_of xs)) in
    omega arith

pub held_short : (s : Scope) (g : Row PassGroup 10) → length (group_lines s (groups_of g)) ≤ 330
held_short s g =
    let a = groups_short s (take g.len g.items) in
    let b = length-take g.len g.items in
    omega (arith, g.short)

pub section_short : (s : Scope) (p : ℕ) (g : Row PassGroup 10) → length (section_lines s p (groups_of g)) ≤ size
section_short s p g = let a = held_short s g in omega arith

pub length_section : (s : Scope) (p : ℕ) (g : Row PassGroup 10) → length (padded (section_lines s p (groups_of g))) ≡ size
length_section s p g = let a = held_short s g in simp (length-append, length-replicate) (omega arith)

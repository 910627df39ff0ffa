-- The lines written so far, one step on.
use Rattle.std.proofs.Common.{◌≡◌, ℕ, zero, suc, ◌+◌, ◌-◌, ◌<◌, ◌≤◌, List, [], ◌∷◌, ◌++◌, length, take, drop, set, replicate, Some, sym, ap, ◌∙◌, add-one, arith, length-append, length-take}
use Rattle.std.proofs.lemmas.List.{append-nil, take-append-drop}
use Rattle.std.specs.List.{slice_get}
use Rattle.std.proofs.lemmas.Option.{slice_get_within}
use Rattle.model.specs.declared.trail.Line.{Line}
use Rattle.model.specs.Graph.{Scope}
use Rattle.model.specs.Trail.{Group, line, called, way_lines, group_lines, padded, size}
use Rattle.model.proofs.Bests.{none_some, some_same}
use Rattle.trail.specs.Sections.{written}
use Rattle.trail.proofs.Lengths.{length_way, way_lines_more, group_lines_more}
use Rattle.trail.proofs.Written.{written_one, written_more, written_next}

take_next : {A : Type 0} (xs : List A) (i : ℕ) (x : A) → Some x ≡ slice_get xs i → take (suc i) xs ≡ take i xs ++ (x ∷ [])
take_next [] i x h = absurd (none_some (sym h))
take_next (y ∷ ys) zero x h = ap (λ z. z ∷ []) (some_same (sym h))
take_next (y ∷ ys) (suc i) x h = ap (λ l. y ∷ l) (take_next ys i x h)

pub take_nth : {A : Type 0} (xs : List A) (i : ℕ) (x : A) → Some x ≡ slice_get xs i → take (i + 1) xs ≡ take i xs ++ (x ∷ [])
take_nth xs i x h = ap (λ n. take n xs) (add-one i) ∙ take_next xs i x h

-- the line of one edge more
pub way_step : (s : Scope) (old now : List Line) (at n : ℕ) (es : List ℕ) (e : ℕ) (x : Line) →
    Some e ≡ slice_get es n → at + length es ≤ length old → x ≡ line 3 e (called s (slice_get s.edges e)) → now ≡ written old at (way_lines s (take n es)) →
    set now (at + n) x ≡ written old at (way_lines s (take (n + 1) es))
way_step s old now at n es e x h l is w =
    let ls = way_lines s (take n es) in
    let inside = slice_get_within es n e (sym h) in
    let m : length ls ≡ n = length_way s (take n es) ∙ length-take n es ∙ omega arith in
    ap (λ t. set t (at + n) x) w
    ∙ ap (λ k. set (written old at ls) (at + k) x) (sym m)
    ∙ written_next old at ls x (omega arith)
    ∙ ap (λ y. written old at (ls ++ (y ∷ []))) is
    ∙ ap (written old at) (sym (way_lines_more s (take n es) (e ∷ [])))
    ∙ ap (λ k. written old at (way_lines s k)) (sym (take_nth es n e h))

-- a line with others behind it
pub line_then : (old : List Line) (at : ℕ) (x : Line) (ls : List Line) → at < length old → written (set old at x) (at + 1) ls ≡ written old at (x ∷ ls)
line_then old at x ls h =
    ap (λ t. written t (at + 1) ls) (written_one old at x h) ∙ written_more old at (x ∷ []) ls (omega arith)

pub group_written : (s : Scope) (old after : List Line) (at : ℕ) (x : Line) (g : Group) →
    at < length old → x ≡ line 2 g.first g.last → after ≡ written (set old at x) (at + 1) (way_lines s g.way) →
    after ≡ written old at (group_lines s (g ∷ []))
group_written s old after at x g h is w =
    w ∙ line_then old at x (way_lines s g.way) h
    ∙ ap (λ y. written old at (y ∷ way_lines s g.way)) is
    ∙ ap (λ l. written old at (line 2 g.first g.last ∷ l)) (sym (append-nil (way_lines s g.way)))

pub length_group : (s : Scope) (g : Group) → length (group_lines s (g ∷ [])) ≡ 1 + length g.way
length_group s g =
    let a = length_way s g.way in
    let b = length-append (way_lines s g.way) [] in
    omega arith

pub group_length : (s : Scope) (g : Group) (at end : ℕ) → end ≡ at + 1 + length g.way → end ≡ at + length (group_lines s (g ∷ []))
group_length s g at end e = let a = length_group s g in omega arith

-- the lines of one group more
pub group_next : (s : Scope) (gs : List Group) (i : ℕ) (x : Group) → Some x ≡ slice_get gs i → group_lines s (take (i + 1) gs) ≡ group_lines s (take i gs) ++ group_lines s (x ∷ [])
group_next s gs i x h = ap (group_lines s) (take_nth gs i x h) ∙ group_lines_more s (take i gs) (x ∷ [])

pub group_fits : (s : Scope) (gs : List Group) (i : ℕ) (x : Group) → Some x ≡ slice_get gs i → length (group_lines s (take i gs)) + length (group_lines s (x ∷ [])) ≤ length (group_lines s gs)
group_fits s gs i x h =
    let a = ap length (group_next s gs i x h) ∙ length-append (group_lines s (take i gs)) (group_lines s (x ∷ [])) in
    let b = ap (λ l. length (group_lines s l)) (sym (take-append-drop (i + 1) gs)) ∙ ap length (group_lines_more s (take (i + 1) gs) (drop (i + 1) gs)) ∙ length-append (group_lines s (take (i + 1) gs)) (group_lines s (drop (i + 1) gs)) in
    omega arith

pub group_end : (s : Scope) (gs : List Group) (i : ℕ) (x : Group) (at end after : ℕ) → Some x ≡ slice_get gs i →
    end ≡ at + length (group_lines s (take i gs)) → after ≡ end + length (group_lines s (x ∷ [])) → after ≡ at + length (group_lines s (take (i + 1) gs))
group_end s gs i x at end after h e f =
    let a = ap length (group_next s gs i x h) ∙ length-append (group_lines s (take i gs)) (group_lines s (x ∷ [])) in
    omega arith

pub group_step : (s : Scope) (old now after : List Line) (at end : ℕ) (gs : List Group) (i : ℕ) (x : Group) →
    Some x ≡ slice_get gs i → at ≤ length old → end ≡ at + length (group_lines s (take i gs)) → now ≡ written old at (group_lines s (take i gs)) → after ≡ written now end (group_lines s (x ∷ [])) →
    after ≡ written old at (group_lines s (take (i + 1) gs))
group_step s old now after at end gs i x h l e w f =
    let ls = group_lines s (take i gs) in
    f
    ∙ ap (λ t. written t end (group_lines s (x ∷ []))) w
    ∙ ap (λ k. written (written old at ls) k (group_lines s (x ∷ []))) e
    ∙ written_more old at ls (group_lines s (x ∷ [])) l
    ∙ ap (written old at) (sym (group_next s gs i x h))

-- the head, the lines of the groups, and zeros up to the end of the section
pub section_made : (old front after : List Line) (at from end : ℕ) (x y : Line) (ls : List Line) →
    at + size ≤ length old → length ls ≤ 330 → x ≡ y →
    front ≡ written (set old at x) (at + 1) ls → from ≡ at + 1 + length ls → end ≡ at + size →
    after ≡ written front from (replicate (end - from) (line 0 0 0)) →
    after ≡ written old at (padded (y ∷ ls))
section_made old front after at from end x y ls h short is w f e z =
    let n : end - from ≡ size - length (x ∷ ls) = omega arith in
    let m : from ≡ at + length (x ∷ ls) = omega arith in
    z
    ∙ ap (λ k. written front from (replicate k (line 0 0 0))) n
    ∙ ap (λ k. written front k (replicate (size - length (x ∷ ls)) (line 0 0 0))) m
    ∙ ap (λ t. written t (at + length (x ∷ ls)) (replicate (size - length (x ∷ ls)) (line 0 0 0))) (w ∙ line_then old at x ls (omega arith))
    ∙ written_more old at (x ∷ ls) (replicate (size - length (x ∷ ls)) (line 0 0 0)) (omega arith)
    ∙ ap (λ v. written old at (padded (v ∷ ls))) is

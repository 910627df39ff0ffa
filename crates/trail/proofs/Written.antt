-- A list written over in parts.
use Rattle.std.proofs.Common.{◌≡◌, ℕ, ◌+◌, ◌-◌, ◌<◌, ◌≤◌, List, [], ◌∷◌, ◌++◌, length, take, drop, set, sym, ap, ◌∙◌, add-one, arith, length-append, length-drop, length-take}
use Rattle.std.proofs.lemmas.List.{append_assoc, take_at, drop_at, drop-drop, set_split}
use Rattle.trail.specs.Sections.{written}

pub written_one : {A : Type 0} (old : List A) (i : ℕ) (x : A) → i < length old → set old i x ≡ written old i (x ∷ [])
written_one old i x h = set_split old i x h ∙ ap (λ n. take i old ++ (x ∷ drop n old)) (sym (add-one i))

pub length_written : {A : Type 0} (old : List A) (i : ℕ) (xs : List A) → i + length xs ≤ length old → length (written old i xs) ≡ length old
length_written old i xs h = simp (length-append, length-take, length-drop) (omega arith)

-- what was written, and what stands before and behind it
pub written_front : {A : Type 0} (old : List A) (i : ℕ) (xs : List A) → i ≤ length old → take (i + length xs) (written old i xs) ≡ take i old ++ xs
written_front old i xs h =
    ap (take (i + length xs)) (sym (append_assoc (take i old) xs (drop (i + length xs) old)))
    ∙ take_at (take i old ++ xs) (drop (i + length xs) old) (i + length xs) (simp (length-append, length-take) (omega arith))

pub written_rest : {A : Type 0} (old : List A) (i : ℕ) (xs : List A) → i ≤ length old → drop (i + length xs) (written old i xs) ≡ drop (i + length xs) old
written_rest old i xs h =
    ap (drop (i + length xs)) (sym (append_assoc (take i old) xs (drop (i + length xs) old)))
    ∙ drop_at (take i old ++ xs) (drop (i + length xs) old) (i + length xs) (simp (length-append, length-take) (omega arith))

pub written_past : {A : Type 0} (old : List A) (i : ℕ) (xs : List A) (n : ℕ) → i ≤ length old → i + length xs ≤ n → drop n (written old i xs) ≡ drop n old
written_past old i xs n h l =
    let m = n - (i + length xs) in
    let e : i + length xs + m ≡ n = omega arith in
    ap (λ k. drop k (written old i xs)) (sym e)
    ∙ sym (drop-drop m (i + length xs) (written old i xs))
    ∙ ap (drop m) (written_rest old i xs h)
    ∙ drop-drop m (i + length xs) old
    ∙ ap (λ k. drop k old) e

-- to write xs and then ys behind it is to write xs ++ ys
pub written_more : {A : Type 0} (old : List A) (i : ℕ) (xs ys : List A) → i ≤ length old → written (written old i xs) (i + length xs) ys ≡ written old i (xs ++ ys)
written_more old i xs ys h =
    let e : i + length xs + length ys ≡ i + length (xs ++ ys) = simp length-append (omega arith) in
    ap (λ l. l ++ (ys ++ drop (i + length xs + length ys) (written old i xs))) (written_front old i xs h)
    ∙ ap (λ l. (take i old ++ xs) ++ (ys ++ l)) (written_past old i xs (i + length xs + length ys) h (omega arith))
    ∙ ap (λ n. (take i old ++ xs) ++ (ys ++ drop n old)) e
    ∙ simp append_assoc

-- one place more
pub written_next : {A : Type 0} (old : List A) (i : ℕ) (xs : List A) (x : A) → i + length xs < length old → set (written old i xs) (i + length xs) x ≡ written old i (xs ++ (x ∷ []))
written_next old i xs x h =
    let n = length_written old i xs (omega arith) in
    written_one (written old i xs) (i + length xs) x (omega arith) ∙ written_more old i xs (x ∷ []) (omega arith)

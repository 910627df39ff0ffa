-- The sections of a table after lines are written in the place of one of them.
use Rattle.std.proofs.Common.{◌≡◌, ℕ, ◌+◌, ◌-◌, ◌*◌, ◌<◌, ◌≤◌, Bool, true, false, cond, leb, List, ◌++◌, length, take, drop, sym, ap, ◌∙◌, inl, inr, arith, length-drop}
use Rattle.std.proofs.lemmas.List.{take_at, drop_at, take-take, take-append-le, drop-append-le, length-take-le}
use Rattle.std.proofs.lemmas.Slice.{between_is}
use Rattle.std.proofs.lemmas.Bool.{cases_lt, le-leb, lt-leb, cond-true, cond-false}
use Rattle.model.specs.declared.trail.Line.{Line}
use Rattle.model.specs.Trail.{size, section}
use Rattle.trail.specs.Sections.{written}
use Rattle.trail.proofs.Written.{written_past, length_written}

-- these lines are the section of that number, and all else is as it was
pub record SectionPut (old : List Line) (number : ℕ) (ls new : List Line) : Type 0 where
  pub long : length new ≡ length old
  pub there : section new number ≡ ls
  pub others : (j : ℕ) → (j ≡ number → ⊥) → section new j ≡ section old j
  pub rest : (s : ℕ) → number < s → drop (size * s) new ≡ drop (size * s) old

module _ (old : List Line) (number : ℕ) (ls : List Line) (whole : length ls ≡ size) (fits : size * (number + 1) ≤ length old) where
  -- what stands before the section, the lines, and what stands behind it
  pub written_parts : written old (size * number) ls ≡ take (size * number) old ++ (ls ++ drop (size * (number + 1)) old)
  written_parts =
      let e : size * number + length ls ≡ size * (number + 1) = omega arith in
      ap (λ n. take (size * number) old ++ (ls ++ drop n old)) e

  pub table_length : length (written old (size * number) ls) ≡ length old
  table_length = length_written old (size * number) ls (omega arith)

  -- the section of that number is what was written
  pub section_written : section (written old (size * number) ls) number ≡ ls
  section_written =
      let rest = drop (size * number + length ls) old in
      ap (take size) (drop_at (take (size * number) old) (ls ++ rest) (size * number) (length-take-le (size * number) old (omega arith)))
      ∙ take_at ls rest size whole

  -- what stands behind the section is as it was
  pub rest_kept : (s : ℕ) → number < s → drop (size * s) (written old (size * number) ls) ≡ drop (size * s) old
  rest_kept s h = written_past old (size * number) ls (size * s) (omega arith) (omega arith)

  before : (j : ℕ) → j < number → section (written old (size * number) ls) j ≡ section old j
  before j h =
      let front = take (size * number) old in
      let rest = ls ++ drop (size * number + length ls) old in
      let n : length front ≡ size * number = length-take-le (size * number) old (omega arith) in
      let e : size * j + size - size * j ≡ size = omega arith in
      ap (take size) (drop-append-le (size * j) front rest (omega arith))
      ∙ take-append-le size (drop (size * j) front) rest (simp length-drop (omega arith))
      ∙ ap (λ k. take k (drop (size * j) front)) (sym e)
      ∙ between_is front (size * j) (size * j + size)
      ∙ ap (drop (size * j)) (take-take (size * j + size) (size * number) old (omega arith))
      ∙ sym (between_is old (size * j) (size * j + size))
      ∙ ap (λ k. take k (drop (size * j) old)) e

  -- each other section is as it was
  pub section_other : (j : ℕ) → (j ≡ number → ⊥) → section (written old (size * number) ls) j ≡ section old j
  section_other j ne =
      elim (cases_lt j number) [
        | inl h ↦ before j h
        | inr h ↦ ap (take size) (rest_kept j (omega arith))
      ]

  -- what a caller learns of a table in which the section was put
  pub section_put : (done : Bool) (new : List Line) → done ≡ leb (size * (number + 1)) (length old) → new ≡ cond done (written old (size * number) ls) old → (done ≡ true) × SectionPut old number ls new
  section_put done new d n =
      let yes : done ≡ true = d ∙ le-leb _ _ fits in
      let is : new ≡ written old (size * number) ls = n ∙ cond-true done _ _ yes in (
        yes,
        record {
          long = ap length is ∙ table_length;
          there = ap (λ t. section t number) is ∙ section_written;
          others = λ j ne. ap (λ t. section t j) is ∙ section_other j ne;
          rest = λ s h. ap (drop (size * s)) is ∙ rest_kept s h;
        },
      )

-- a table that is too short for the section stays as it was
pub section_absent : (old : List Line) (number : ℕ) (ls : List Line) (done : Bool) (new : List Line) → length old < size * (number + 1) → done ≡ leb (size * (number + 1)) (length old) → new ≡ cond done (written old (size * number) ls) old → (done ≡ false) × (new ≡ old)
section_absent old number ls done new short d n = let no : done ≡ false = d ∙ lt-leb _ _ short in (no, n ∙ cond-false done _ _ no)

-- What chains over numbers and over the rows of a table find, by the numbers that were looked at.
use Rattle.std.proofs.Common.{◌≡◌, ℕ, ◌<◌, ◌≤◌, Bool, true, false, List, [], length, get_or, take, Some, None, Option, MatchBool, MatchOption, ◌∙◌, subst, arith}
use Rattle.std.proofs.lemmas.List.{get_or-take, length-take-le}
use Rattle.std.specs.List.{range_with_len, zip, HoldsAt, AllWithin}
use Rattle.std.proofs.lemmas.List.FromFn.{length-range_with_len, get_or-range_with_len}
use Rattle.std.proofs.lemmas.Slice.Zip.{get_or-zip, length-zip}
use Rattle.rules.specs.CallOrders.{Ready, Blocked, Next}

nth : (n k : ℕ) → k < n → get_or (range_with_len 0 n) k 0 ≡ k
nth n k h = get_or-range_with_len 0 n k 0 h ∙ omega arith

pub any_below : (n : ℕ) (r : Bool) (P Q : ℕ → Type 0) → MatchBool r ((k : ℕ) × (k < length (range_with_len 0 n)) × HoldsAt P (range_with_len 0 n) k) (AllWithin Q (range_with_len 0 n) 0 (length (range_with_len 0 n))) → MatchBool r ((k : ℕ) × (k < n) × P k) ((k : ℕ) → k < n → Q k)
any_below n true P Q h =
    let b : h.0 < n = omega (arith, h.1, length-range_with_len 0 n) in (h.0, b, subst P (nth n h.0 b) (h.2 0))
any_below n false P Q h = λ k b. subst Q (nth n k b) (h k 0 (omega arith) (omega (arith, length-range_with_len 0 n)))

-- the rows of a table with what is placed: the first of them that is not placed and ready
module _ (table : List (List Bool)) (placed : List Bool) (n : ℕ) (few : n ≤ length table) (enough : n ≤ length placed) where
  abbrev rows : List (List Bool × Bool)
  rows = take n (zip table placed)

  abbrev Waits : List Bool × Bool → Type 0
  Waits x = x.1 ≡ false → Blocked x.0 placed n

  abbrev Goes : List Bool × Bool → Type 0
  Goes x = (x.1 ≡ false) × Ready x.0 placed n

  long : length rows ≡ n
  long = length-take-le n (zip table placed) (omega (arith, length-zip table placed))

  row_at : (s : ℕ) → s < n → get_or rows s ([], false) ≡ (get_or table s [], get_or placed s false)
  row_at s h = get_or-take n (zip table placed) s ([], false) h ∙ get_or-zip table placed s ([], false) (omega arith) (omega arith)

  pub next_of : (r : Option ℕ) → MatchOption r (AllWithin Waits rows 0 (length rows)) (λ i. (i < length rows) × HoldsAt Goes rows i × AllWithin Waits rows 0 i) → Next table placed n r
  next_of None h = λ s l. subst Waits (row_at s l) (h s ([], false) (omega arith) (omega (arith, long)))
  next_of (Some i) h =
      let l : i < n = omega (arith, h.0, long) in
      let w = subst Goes (row_at i l) (h.1 ([], false)) in (l, w.0, w.1)

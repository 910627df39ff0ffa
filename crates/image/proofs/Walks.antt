-- Records read one after the other.
use Rattle.std.proofs.Common.{◌≡◌, ℕ, zero, suc, pred, ◌<◌, ◌≤◌, true, ltb, List, [], ◌∷◌, length, drop, Some, None, Ok, Err, Option, Result, refl, ap, ◌∙◌, ⊎_elim, arith}
use Rattle.std.proofs.lemmas.Bool.{cases_Bool}
use Rattle.std.proofs.lemmas.Bool.Decides.{nat_tests}
use Rattle.std.specs.List.{slice_get, cons_option, filter_map}
use Rattle.model.specs.declared.refusal.Refusal.{Refusal}
use Rattle.model.specs.declared.refusal.Refusal.TheVariants.{BadRecord}
use Rattle.image.specs.declared.record.Kind.{Kind}
use Rattle.image.specs.declared.record.Kind.TheVariants.{Scope, Block, Call, Edge, Bar, Must, Pair}
use Rattle.image.specs.declared.record.Record.{Record}
use Rattle.image.specs.Layout.{one, size_of, kind_of, of_kind, front_of}
use Rattle.image.specs.Meaning.{Reading, read, going, placed, more, records, fault_of}
use Rattle.image.specs.Meaning.Reading.{end, fault, next}
use Rattle.image.specs.Given.{given}

pub size_positive : (k : Kind) → 1 ≤ size_of k
size_positive Scope = omega arith
size_positive Block = omega arith
size_positive Call = omega arith
size_positive Edge = omega arith
size_positive Bar = omega arith
size_positive Must = omega arith
size_positive Pair = omega arith

-- a record that is read has a length of one at least, and does not pass the end
pub of_kind_size : (k : Option Kind) (bs : List ℕ) (r : Record) → of_kind k bs ≡ Ok r → (1 ≤ one bs 0) × (one bs 0 ≤ length bs)
of_kind_size None bs r e = let z : ◌≡◌ {A = ℕ} 0 1 = cc in absurd (omega arith)
of_kind_size (Some k) bs r e = let p = size_positive k in grind (arith, nat_tests)

pub front_size : (bs : List ℕ) (r : Record) → front_of bs ≡ Ok r → (1 ≤ one bs 0) × (one bs 0 ≤ length bs)
front_size bs r e =
    ⊎_elim (λ t. let z : ◌≡◌ {A = ℕ} 0 1 = (let e' : Err BadRecord ≡ Ok r = rw t at e in cc) in absurd (omega arith)) (λ t. of_kind_size (kind_of (one bs 1)) bs r (rw t at e)) (cases_Bool (ltb (length bs) 2))

-- what is skipped is dropped
read_skip : (k seen : ℕ) (bs : List ℕ) → read k seen bs ≡ read 0 seen (drop k bs)
read_skip zero seen bs = refl
read_skip (suc k) seen [] = refl
read_skip (suc k) seen (b ∷ bs) = read_skip k seen bs

past_record : (b seen : ℕ) (bs : List ℕ) → 1 ≤ b → read (pred b) seen bs ≡ read 0 seen (drop b (b ∷ bs))
past_record zero seen bs h = absurd (omega arith)
past_record (suc k) seen bs h = read_skip k seen bs

-- a record that is faulty, and one that is well formed
pub is_fault : (bs : List ℕ) (seen : ℕ) (e : Refusal) → 0 < length bs → front_of bs ≡ Err e → read 0 seen bs ≡ fault e
is_fault [] seen e h f = absurd (omega arith)
is_fault (b ∷ bs) seen e h f = ap (λ (x : Result Record Refusal). going x seen (λ n. read (pred b) n bs)) f

pub is_next : (bs : List ℕ) (seen : ℕ) (r : Record) → 0 < length bs → front_of bs ≡ Ok r → placed seen r ≡ true → read 0 seen bs ≡ next r (read 0 (more seen r) (drop (one bs 0) bs))
is_next [] seen r h f p = absurd (omega arith)
is_next (b ∷ bs) seen r h f p =
    ap (λ (x : Result Record Refusal). going x seen (λ n. read (pred b) n bs)) f ∙ rw p (ap (next r) (past_record b (more seen r) bs (front_size (b ∷ bs) r f).0))

-- what f finds in a record that was read
abbrev pub found : {X : Type 0} → (Record → Option X) → Result Record Refusal → Option X
found f (Ok r) = f r
found f (Err e) = None

-- what f finds in the records is what it finds in what a reader gives
pub found_given : {X : Type 0} (f : Record → Option X) (x : Reading) → filter_map (found f) (given x) ≡ filter_map f (records x)
found_given f end = refl
found_given f (fault e) = refl
found_given f (next r x) = ap (cons_option (f r)) (found_given f x)

-- the first fault of what a reader gives is the fault of the records
abbrev pub first_fault : List (Result Record Refusal) → Option Refusal
first_fault [] = None
first_fault (Ok r ∷ xs) = first_fault xs
first_fault (Err e ∷ xs) = Some e

pub fault_given : (x : Reading) → first_fault (given x) ≡ fault_of x
fault_given end = refl
fault_given (fault e) = refl
fault_given (next r x) = fault_given x

-- what stands at a place of a list, by another name of both
pub at_place : {X : Type 0} (xs ys : List X) (i n : ℕ) (r : Option X) → r ≡ slice_get xs i → xs ≡ ys → i ≡ n → r ≡ slice_get ys n
at_place xs ys i n r e p q = e ∙ ap (λ zs. slice_get zs i) p ∙ ap (λ k. slice_get ys k) q

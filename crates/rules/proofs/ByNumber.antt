-- Refusals are ordered by their numbers.
use Rattle.std.proofs.Common.{◌≡◌, Bool, true, false, cond, nat_lt, [], ◌∷◌, get_or, ℤ, pos, refl, ap, ◌∙◌}
use Rattle.std.specs.declared.cmp.Ordering.TheVariants.{Less, Equal, Greater}
use Rattle.std.specs.Ordering.{int_cmp, is_lt, ord_min}
use Rattle.model.specs.declared.refusal.Refusal.{Refusal}
use Rattle.model.specs.declared.refusal.Refusal.TheVariants.{TooShort, BadVersion, BadLength, BadRecord, UnknownKind, UnknownScope, NoScope, OverLimit, BadPasses, BadFigure, Missing, NotForward, NegativeWeight, CallRing, BadFact, NotABlock, NoFact, ShortWork, ShortTrail, NoRun}
use Rattle.model.specs.Numbers.{number}
use Rattle.model.specs.contracts.refusal.Refusal.{the_type}
use Rattle.model.specs.contracts.refusal.RefusalOrd.TheImpl.{cmp-value}
use Rattle.rules.specs.Faults.{lesser}
use denote.Enum.Declared.{tag_of}

abbrev key : Refusal → ℤ
key x = get_or (pos 11 ∷ pos 12 ∷ pos 13 ∷ pos 14 ∷ pos 15 ∷ pos 16 ∷ pos 21 ∷ pos 22 ∷ pos 23 ∷ pos 24 ∷ pos 25 ∷ pos 26 ∷ pos 27 ∷ pos 28 ∷ pos 29 ∷ pos 30 ∷ pos 31 ∷ pos 41 ∷ pos 42 ∷ pos 43 ∷ []) (tag_of the_type x) (pos 0)

key_number : (x : Refusal) → key x ≡ pos (number x)
key_number TooShort = refl
key_number BadVersion = refl
key_number BadLength = refl
key_number BadRecord = refl
key_number UnknownKind = refl
key_number UnknownScope = refl
key_number NoScope = refl
key_number OverLimit = refl
key_number BadPasses = refl
key_number BadFigure = refl
key_number Missing = refl
key_number NotForward = refl
key_number NegativeWeight = refl
key_number CallRing = refl
key_number BadFact = refl
key_number NotABlock = refl
key_number NoFact = refl
key_number ShortWork = refl
key_number ShortTrail = refl
key_number NoRun = refl

less : (p q : Bool) → is_lt (cond p Less (cond q Greater Equal)) ≡ p
less true q = refl
less false true = refl
less false false = refl

by_number : (x y : Refusal) → is_lt (cmp-value.it x y) ≡ nat_lt (number x) (number y)
by_number x y =
    ap (λ (k : ℤ). is_lt (int_cmp k (key y))) (key_number x) ∙ ap (λ (k : ℤ). is_lt (int_cmp (pos (number x)) k)) (key_number y) ∙ less (nat_lt (number x) (number y)) (nat_lt (number y) (number x))

pub lesser_is : (x y : Refusal) → ord_min cmp-value.it x y ≡ lesser x y
lesser_is x y = ap (λ (b : Bool). cond b y x) (by_number y x)

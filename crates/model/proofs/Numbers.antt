-- A refusal is known by its number.
use Rattle.std.proofs.Common.{◌≡◌, ℕ, ◌-◌, ◌<◌, List, [], ◌∷◌, ◌++◌, get_or, replicate, sym, refl, ap, ◌∙◌, arith}
use Rattle.model.specs.declared.refusal.Refusal.{Refusal}
use Rattle.model.specs.declared.refusal.Refusal.TheVariants.{TooShort, BadVersion, BadLength, BadRecord, UnknownKind, UnknownScope, NoScope, OverLimit, BadPasses, BadFigure, Missing, NotForward, NegativeWeight, CallRing, BadFact, NotABlock, NoFact, ShortWork, ShortTrail, NoRun}
use Rattle.model.specs.Numbers.{number}

-- the refusals by their numbers, from 11 on
by_number : List Refusal
by_number =
    (TooShort ∷ (BadVersion ∷ (BadLength ∷ (BadRecord ∷ (UnknownKind ∷ (UnknownScope ∷ [])))))) ++ (replicate 4 NoRun
    ++ ((NoScope ∷ (OverLimit ∷ (BadPasses ∷ (BadFigure ∷ (Missing ∷ (NotForward ∷ (NegativeWeight ∷ (CallRing ∷ (BadFact ∷ (NotABlock ∷ (NoFact ∷ [])))))))))))
    ++ (replicate 9 NoRun ++ (ShortWork ∷ (ShortTrail ∷ (NoRun ∷ []))))))

named : ℕ → Refusal
unfolding by_number
named n = get_or by_number (n - 11) NoRun

named_back : (x : Refusal) → named (number x) ≡ x
unfolding named by_number
named_back TooShort = refl
named_back BadVersion = refl
named_back BadLength = refl
named_back BadRecord = refl
named_back UnknownKind = refl
named_back UnknownScope = refl
named_back NoScope = refl
named_back OverLimit = refl
named_back BadPasses = refl
named_back BadFigure = refl
named_back Missing = refl
named_back NotForward = refl
named_back NegativeWeight = refl
named_back CallRing = refl
named_back BadFact = refl
named_back NotABlock = refl
named_back NoFact = refl
named_back ShortWork = refl
named_back ShortTrail = refl
named_back NoRun = refl

-- of two refusals with a property, neither of which has a smaller number than any other with it, both are one
pub smallest_one : (P : Refusal → Type 0) (x y : Refusal) → P x → P y → ((z : Refusal) → number z < number x → P z → ⊥) → ((z : Refusal) → number z < number y → P z → ⊥) → x ≡ y
smallest_one P x y p q least-x least-y =
    let a : number x < number y → ⊥ = λ h. least-y x h p in
    let b : number y < number x → ⊥ = λ h. least-x y h q in
    let e : number x ≡ number y = omega arith in
    sym (named_back x) ∙ ap named e ∙ named_back y

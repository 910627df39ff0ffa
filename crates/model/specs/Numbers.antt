-- The number of each refusal: the one definition that every promise refers to.
use Rattle.std.specs.Prelude.{ℕ, List, ◌++◌, codes, decimal}
use Rattle.model.specs.declared.refusal.Refusal.{Refusal}
use Rattle.model.specs.declared.refusal.Refusal.TheVariants.{TooShort, BadVersion, BadLength, BadRecord, UnknownKind, UnknownScope, NoScope, OverLimit, BadPasses, BadFigure, Missing, NotForward, NegativeWeight, CallRing, BadFact, NotABlock, NoFact, ShortWork, ShortTrail, NoRun}

abbrev pub number : Refusal → ℕ
number TooShort = 11
number BadVersion = 12
number BadLength = 13
number BadRecord = 14
number UnknownKind = 15
number UnknownScope = 16
number NoScope = 21
number OverLimit = 22
number BadPasses = 23
number BadFigure = 24
number Missing = 25
number NotForward = 26
number NegativeWeight = 27
number CallRing = 28
number BadFact = 29
number NotABlock = 30
number NoFact = 31
number ShortWork = 41
number ShortTrail = 42
number NoRun = 43

-- what is said of a refusal
abbrev pub refused_text : Refusal → List ℕ
refused_text r = codes "refused " ++ decimal (number r)

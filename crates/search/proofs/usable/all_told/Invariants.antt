use Rattle.std.proofs.Common.{◌≡◌, Bool, drop}
use Rattle.model.specs.declared.graph.Fact.{Fact}
use Rattle.search.specs.Rounds.{told}
use Rattle.search.proofs.usable.all_told.Given as goal

-- what is left to tell
abbrev pub invariant-loop-fact : goal.invariant-loop-fact
invariant-loop-fact g l =
    goal.F-IsAlwaysCallable g l.test
    × ((t : Fact → Bool → Bool) → ((f : Fact) (b r : Bool) → goal.F-post g l.test f b r → r ≡ t f b) → told t (drop l.fact-index l.facts) l.digits ≡ told t l.facts l.round)

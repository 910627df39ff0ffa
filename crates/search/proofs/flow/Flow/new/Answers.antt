use Rattle.std.proofs.Common.{sym, arith}
use Rattle.search.proofs.Forwards.{forward_is, not_forward}
use Rattle.search.proofs.flow.Flow.new.Goals as goal

pub returns-then-not-all_forward : goal.returns-then-not-all_forward
returns-then-not-all_forward c = λ h. not_forward c.args.nodes c.args.edges.now (sym c.if-not-all_forward.ensures) h.forward

pub exits_of-requires-clause-starts : goal.exits_of-requires-clause-starts
exits_of-requires-clause-starts c e x n = let h = forward_is c.args.nodes c.args.edges.now (sym c.if-not-all_forward.ensures) e x n in omega arith

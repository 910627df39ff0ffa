use Rattle.std.proofs.Common.{◌≡◌, false, subst, rules, tests}
use Rattle.std.proofs.lemmas.Iterator.{YieldsList-from_slice, YieldsList-from_zip, YieldsList-from_take, IsFirst-from_position}
use Rattle.rules.specs.CallOrders.{Ready, Blocked, Next}
use Rattle.rules.proofs.Places.{next_of}
use Rattle.rules.proofs.order.next_ready.Goals as goal

pub returns : goal.returns
returns c =
    let placed = c.args.placed.now in
    let n = c.args.scopes in
    subst (Next c.args.table.now placed n) (search rules) (next_of c.args.table.now placed n (search rules) (search rules) c.position.result
    (IsFirst-from_position c.position.new.self _ _ (λ x. (x.1 ≡ false) × Ready x.0 placed n) (λ x. x.1 ≡ false → Blocked x.0 placed n) c.position.ensures.ran
    (YieldsList-from_take n (YieldsList-from_zip (YieldsList-from_slice c.args.table.now (search rules)) (YieldsList-from_slice placed (search rules))) (search rules))
    (λ x q k. search (rules, tests)) (λ x q k. search (rules, tests))))

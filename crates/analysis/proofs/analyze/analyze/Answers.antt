use Rattle.std.proofs.Common.{is_some, refl, ap, subst, arith, rules}
use Rattle.std.proofs.lemmas.List.{set-get_or}
use Rattle.model.specs.Analysis.Early.{short_work, broken, short_trail}
use Rattle.model.specs.Analysis.Analyzed.{refused}
use Rattle.rules.specs.CallOrders.{Ordered}
use Rattle.rules.proofs.Kept.{keeps_from, few_scopes, order_there}
use Rattle.analysis.proofs.Settling.{settled_all}
use Rattle.analysis.proofs.Answering.{answered_bound, answered_none}
use Rattle.analysis.proofs.analyze.analyze.Goals as goal

pub returns-then-work-lt-WORK : goal.returns-then-work-lt-WORK
returns-then-work-lt-WORK g c = refused (short_work (omega arith)) refl refl

pub returns-in-Some : goal.returns-in-Some
returns-in-Some g c = refused (broken (omega arith) c.in-Some.ensures) refl refl

pub overflow_mul-scopes : goal.overflow_mul-scopes
overflow_mul-scopes g c =
    let G = g.G.ScopeGraph.graph c.args.graph.now in
    let few = few_scopes G (keeps_from G c.in_default.ensures) in
    omega (arith, few, c.scopes.ensures)

pub returns-then-trail-scopes : goal.returns-then-trail-scopes
returns-then-trail-scopes g c = refused (short_trail (omega arith) c.in_default.ensures (omega (arith, c.scopes.ensures, c.if-trail-scopes.true))) refl refl

pub unwrap-order-requires : goal.unwrap-order-requires
unwrap-order-requires g c =
    let G = g.G.ScopeGraph.graph c.args.graph.now in
    ap is_some (order_there G (keeps_from G c.in_default.ensures) _ c.call_order.ensures).1

-- the work table and the bound by equations that are searched, not read off one form of the code; `set-get_or`: a place that gets its own value back changes nothing
pub returns-then-solved : goal.returns-then-solved
returns-then-solved g c =
    let G = g.G.ScopeGraph.graph c.args.graph.now in
    let m = g.C.Cost.measure in
    let kept = c.in_default.ensures in
    let few = few_scopes G (keeps_from G kept) in
    let bounds = c.settle_all-solved.new.bounds in
    let solved = c.settle_all-solved.result in
    let last = c.settle_all-solved.new.trail in
    answered_bound m G kept bounds c.settle_all-solved.new.table c.args.work.now c.args.trail.now last solved (settled_all m G bounds last solved c.unwrap-order.result (subst (Ordered G) c.unwrap-order.ensures c.call_order.ensures) c.settle_all-solved.ensures.settled)
    (omega arith) c.settle_all-solved.ensures.rest (omega arith) (omega (arith, c.scopes.ensures, c.if-trail-scopes.false)) c.if-solved.true _ _ (search (rules, set-get_or)) (search rules)

pub returns-else-solved : goal.returns-else-solved
returns-else-solved g c =
    let G = g.G.ScopeGraph.graph c.args.graph.now in
    let m = g.C.Cost.measure in
    let kept = c.in_default.ensures in
    let few = few_scopes G (keeps_from G kept) in
    let bounds = c.settle_all-solved.new.bounds in
    let solved = c.settle_all-solved.result in
    let last = c.settle_all-solved.new.trail in
    answered_none m G kept bounds c.settle_all-solved.new.table c.args.work.now c.args.trail.now last solved (settled_all m G bounds last solved c.unwrap-order.result (subst (Ordered G) c.unwrap-order.ensures c.call_order.ensures) c.settle_all-solved.ensures.settled)
    (omega arith) c.settle_all-solved.ensures.rest (omega arith) (omega (arith, c.scopes.ensures, c.if-trail-scopes.false)) c.if-solved.false _ (search (rules, set-get_or))

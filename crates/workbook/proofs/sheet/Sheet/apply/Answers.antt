use Rattle.std.proofs.Common.{vec_items, sym, ap, ◌∙◌}
use Rattle.model.specs.Changes.{with_nodes, with_edges, with_facts}
use Rattle.workbook.specs.Sheets.{scope_of}
use Rattle.workbook.specs.Steps.{apply_to}
use Rattle.workbook.proofs.Lists.{popped}
use Rattle.workbook.proofs.sheet.Sheet.apply.Goals as goal

pub returns-in-PopNode : goal.returns-in-PopNode
returns-in-PopNode c =
    let v = c.args.self.now.nodes in
    ap (λ xs. with_nodes xs (scope_of c.args.self.now)) (popped (vec_items v) _ _ v.ok.0 c.pop.ensures.rest)
    ∙ sym (ap (λ ch. apply_to ch (scope_of c.args.self.now)) c.in-PopNode.is)

pub returns-in-PopEdge : goal.returns-in-PopEdge
returns-in-PopEdge c =
    let v = c.args.self.now.edges in
    ap (λ xs. with_edges xs (scope_of c.args.self.now)) (popped (vec_items v) _ _ v.ok.0 c.pop-in-PopEdge.ensures.rest)
    ∙ sym (ap (λ ch. apply_to ch (scope_of c.args.self.now)) c.in-PopEdge.is)

pub returns-in-PopFact : goal.returns-in-PopFact
returns-in-PopFact c =
    let v = c.args.self.now.facts in
    ap (λ xs. with_facts xs (scope_of c.args.self.now)) (popped (vec_items v) _ _ v.ok.0 c.pop-in-PopFact.ensures.rest)
    ∙ sym (ap (λ ch. apply_to ch (scope_of c.args.self.now)) c.in-PopFact.is)

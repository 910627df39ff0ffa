use Rattle.std.proofs.Common.{Bool, ap, ◌∙◌, rules}
use Rattle.model.specs.declared.graph.Fact.{Fact}
use Rattle.search.specs.Flows.{facts_of}
use Rattle.search.specs.Restrictions.{allows, restriction_of_lem}
use Rattle.search.specs.Rounds.{told}
use Rattle.search.proofs.Lefts.{told_allows}
use Rattle.search.proofs.usable.is_left.Goals as goal

pub returns : goal.returns
returns c =
    let t : Fact → Bool → Bool = λ f second. allows (restriction_of_lem f c.args.pass second) c.args.edge in
    c.all_told.ensures t (λ f b r e. search rules) ∙ ap (λ fs. told t fs c.args.round) c.as_slice.ensures ∙ told_allows (facts_of c.args.flow.now) c.args.pass c.args.round c.args.edge

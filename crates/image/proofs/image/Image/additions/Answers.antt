use Rattle.std.proofs.Common.{length, ap, ◌∙◌, rules}
use Rattle.std.proofs.lemmas.Iterator.Consumers.{count_from_yields_List, YieldsList-at, YieldsList-from_first, YieldsList-from_filter_map}
use Rattle.image.specs.Meaning.{reading}
use Rattle.image.specs.Given.{left}
use Rattle.image.proofs.Walks.{found, found_given}
use Rattle.image.proofs.image.Image.additions.Goals as goal

pub returns : goal.returns
returns g c =
    let f = g.P.Part.picks c.args.list.now in
    count_from_yields_List c.filter_map.result _ c.count.ensures.ran
    (YieldsList-from_filter_map _ (found f) (YieldsList-at c.filter_map.ensures.source (YieldsList-from_first (λ x. x) left {s = c.of.result} _ c.of.ensures)) c.filter_map.ensures.closure (λ x r q k. search rules))
    ∙ ap length (found_given f (reading c.args.self.now.bytes.now))

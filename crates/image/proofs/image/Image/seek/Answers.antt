use Rattle.std.proofs.Common.{sym, ◌∙◌, rules}
use Rattle.std.proofs.lemmas.Iterator.Adapters.{option_map_id}
use Rattle.std.proofs.lemmas.Iterator.Consumers.{nth_from_yields_List, YieldsList-at, YieldsList-from_first, YieldsList-from_filter_map}
use Rattle.image.specs.Meaning.{reading}
use Rattle.image.specs.Given.{left}
use Rattle.image.proofs.Walks.{at_place, found, found_given}
use Rattle.image.proofs.image.Image.seek.Goals as goal

pub returns : goal.returns
returns g c =
    let f = g.P.Part.picks c.args.list.now in
    let walked = nth_from_yields_List {s = c.filter_map.result} c.nth.result c.nth.new.self _ c.nth.ensures.ran
    (YieldsList-from_filter_map _ (found f) (YieldsList-at c.filter_map.ensures.source (YieldsList-from_first (λ x. x) left {s = c.of.result} _ c.of.ensures)) c.filter_map.ensures.closure (λ x r q k. search rules)) in
    at_place _ _ _ c.args.n _ (sym (option_map_id _) ∙ walked) (found_given f (reading c.args.self.now.bytes.now)) (search rules) ∙ sym (g.met.P.Part.finds c.args.list.now c.args.self.now.bytes.now c.args.n)

use Rattle.std.proofs.Common.{length, drop, ap, ◌∙◌}
use Rattle.std.proofs.Math.Nat.{min_comm}
use Rattle.std.proofs.lemmas.List.{drop_min}
use Rattle.image.specs.Meaning.{read}
use Rattle.image.specs.Given.{given}
use Rattle.image.proofs.records.Records.of.Goals as goal

pub returns : goal.returns
returns c =
    let bs = c.args.image.now in
    ap (λ xs. given (read 0 0 xs)) (c.split_at.ensures.back ∙ ap (λ n. drop n bs) (c.min.ensures ∙ min_comm (length bs) 5) ∙ drop_min 5 bs)

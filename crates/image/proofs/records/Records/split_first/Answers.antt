use Rattle.std.proofs.Common.{◌∷◌, length, Ok, sym, ap, ap₂, ◌∙◌, arith}
use Rattle.std.proofs.lemmas.List.{length-drop}
use Rattle.std.proofs.lemmas.Result.{err_from_is_err_and}
use Rattle.image.specs.Layout.{one}
use Rattle.image.specs.Meaning.{read}
use Rattle.image.specs.Given.{given}
use Rattle.image.proofs.Walks.{is_fault, is_next, front_size}
use Rattle.image.proofs.records.Records.split_first.Goals as goal

pub returns-in_err-record : goal.returns-in_err-record
returns-in_err-record c =
    let p = err_from_is_err_and c.from_residual.result c.from_residual.ensures.1 in
    rw (p.1, p.2) (ap given (is_fault _ c.args.self.now.seen _ c.requires c.in_err-record.ensures))

pub returns : goal.returns
returns c =
    let old = c.args.self.now in
    let s = front_size old.rest.now c.in_ok-record.record c.in_ok-record.ensures.0 in
    let l = length-drop (one old.rest.now 0) old.rest.now in
    let e = ap length c.in_ok-record.ensures.1 in
    let n = is_next _ old.seen _ c.requires c.in_ok-record.ensures.0 (sym c.if-not-names_scope.ensures) in
    (ap given n ∙ ap (λ x. Ok c.in_ok-record.record ∷ given x) (ap₂ (read 0) (sym c.seen_after-seen.ensures) (sym c.in_ok-record.ensures.1)), omega arith)

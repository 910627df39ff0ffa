use Rattle.std.proofs.Common.{◌≡◌, ◌≤◌, [], length, take, vec_items, vec_len, vec_capacity}
use Rattle.workbook.specs.Books.{book_graph}
use Rattle.session.specs.Sequences.{Sequence}
use Rattle.session.proofs.play.play.Given as goal

-- the calls so far have their answers, and there is room for the others
abbrev pub invariant-loop-call : goal.invariant-loop-call
invariant-loop-call g l =
    Sequence g.C.Cost.measure (take l.call-index l.calls) (vec_items l.answers) [] l.initial.work l.initial.trail (book_graph l.book) l.work l.trail × (vec_len l.answers ≡ l.call-index) × (length l.calls ≤ vec_capacity l.answers)

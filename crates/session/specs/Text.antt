-- The text of a call, and what is said of a reply.
use Rattle.std.specs.Prelude.{ℕ, List, Some, Option, codes, decimal}
use Rattle.session.specs.declared.call.Call.{Call}
use Rattle.session.specs.declared.call.Call.TheVariants.{Edit, WorkOut}
use Rattle.session.specs.declared.call.Reply.{Reply}
use Rattle.session.specs.declared.call.Reply.TheVariants.{Number, Done, Bound}
use Rattle.workbook.specs.Text.{edit_text}

abbrev pub call_text : Call → List ℕ
call_text (Edit e) = edit_text e
call_text WorkOut = codes "work out"

-- an addition by its number, a setting and a strike by a word, a bound as its cost is displayed
abbrev pub reply_output : {C : Type 0} → (C → Option (List ℕ)) → Reply C → Option (List ℕ)
reply_output cost-output (Number n) = Some (decimal n)
reply_output cost-output Done = Some (codes "done")
reply_output cost-output (Bound c) = cost-output c

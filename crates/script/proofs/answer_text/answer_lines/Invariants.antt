use Rattle.std.proofs.Common.{◌≡◌, ◌++◌, drop, string_bytes}
use Rattle.script.specs.Text.{answers_text}
use Rattle.script.proofs.answer_text.answer_lines.Given as goal

-- what is written, with the lines of the answers that are left, is the whole text
abbrev pub invariant-loop-answer : goal.invariant-loop-answer
invariant-loop-answer g l = string_bytes l.text ++ answers_text g.C.CostText.said (drop l.answer-index l.answers) ≡ answers_text g.C.CostText.said l.answers

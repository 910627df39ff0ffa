-- The text of the answers to calls.
use Rattle.std.specs.Prelude.{ℕ, List, [], ◌∷◌, ◌++◌, Ok, Err, Result, codes, decimal}
use Rattle.model.specs.declared.refusal.Refusal.{Refusal}
use Rattle.model.specs.Numbers.{number}
use Rattle.session.specs.declared.call.Reply.{Reply}
use Rattle.session.specs.declared.call.Reply.TheVariants.{Number, Done, Bound}

module _ {C : Type 0} (cost-text : C → List ℕ) where
  -- an addition by its number, a setting and a strike by a word, a refusal by its number, a bound by its measure
  abbrev pub answer_text_lem : Result (Reply C) Refusal → List ℕ
  answer_text_lem (Ok (Number n)) = decimal n ++ codes "\n"
  answer_text_lem (Ok Done) = codes "done\n"
  answer_text_lem (Ok (Bound c)) = cost-text c ++ codes "\n"
  answer_text_lem (Err x) = codes "refused " ++ (decimal (number x) ++ codes "\n")

  -- one line for each answer
  abbrev pub answers_text : List (Result (Reply C) Refusal) → List ℕ
  answers_text [] = []
  answers_text (a ∷ bs) = answer_text_lem a ++ answers_text bs

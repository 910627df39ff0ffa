-- One answer more.
use Rattle.std.proofs.Common.{◌≡◌, ℕ, suc, ◌+◌, ◌<◌, List, ◌++◌, length, get_or, drop, Result, sym, ap, ◌∙◌, append_assoc, add-one, drop-cons}
use Rattle.model.specs.declared.refusal.Refusal.{Refusal}
use Rattle.session.specs.declared.call.Reply.{Reply}
use Rattle.script.specs.Text.{answer_text_lem, answers_text}

module _ {C : Type 0} (said : C → List ℕ) where
  -- the line of answer i goes from what is left to what is written
  pub line_more : (bs : List (Result (Reply C) Refusal)) (i : ℕ) (a : Result (Reply C) Refusal) (old new all : List ℕ) → i < length bs → a ≡ get_or bs i a → new ≡ old ++ answer_text_lem said a → old ++ answers_text said (drop i bs) ≡ all → new ++ answers_text said (drop (i + 1) bs) ≡ all
  line_more bs i a old new all h is e k =
      let rest = answers_text said (drop (suc i) bs) in
      rw (add-one, e) (append_assoc old (answer_text_lem said a) rest ∙ ap (λ z. old ++ (answer_text_lem said z ++ rest)) is ∙ ap (λ z. old ++ answers_text said z) (sym (drop-cons bs i a h)) ∙ k)

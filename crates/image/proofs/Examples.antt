-- An image by its bytes, and the graph that it means.
use Rattle.std.proofs.Common.{◌≡◌, ℕ, List, [], ◌∷◌, negsuc, Ok, Err, refl}
use Rattle.model.specs.declared.graph.Node.TheVariants.{Block, Call}
use Rattle.model.specs.declared.graph.Target.TheVariants.{Leave}
use Rattle.model.specs.declared.graph.Constraint.TheVariants.{Bar, Must, Pair}
use Rattle.model.specs.declared.refusal.Refusal.TheVariants.{UnknownScope}
use Rattle.image.specs.Meaning.{opened}

abbrev whole : List ℕ
whole = 1 ∷ 0 ∷ 0 ∷ 0 ∷ 58 ∷ 6 ∷ 1 ∷ 0 ∷ 1 ∷ 0 ∷ 3 ∷ 9 ∷ 2 ∷ 0 ∷ 0 ∷ 0 ∷ 0 ∷ 10 ∷ 0 ∷ 32 ∷ 4 ∷ 3 ∷ 0 ∷ 0 ∷ 9 ∷ 4 ∷ 0 ∷ 1 ∷ 255 ∷ 255 ∷ 255 ∷ 255 ∷ 254 ∷ 8 ∷ 5 ∷ 0 ∷ 1 ∷ 0 ∷ 1 ∷ 0 ∷ 2 ∷ 8 ∷ 6 ∷ 0 ∷ 0 ∷ 1 ∷ 0 ∷ 2 ∷ 0 ∷ 9 ∷ 7 ∷ 0 ∷ 0 ∷ 1 ∷ 0 ∷ 1 ∷ 0 ∷ 2 ∷ []

means : opened whole ≡ Ok (record { least = 1; most = 3; nodes = Block 10 32 ∷ Call 0 ∷ []; edges = record { from = 1; to = Leave; effect = negsuc 1 } ∷ []; facts = record { constraint = Bar 1; first = 1; last = 2 } ∷ record { constraint = Must 0; first = 256; last = 512 } ∷ record { constraint = Pair 0 1; first = 1; last = 2 } ∷ [] } ∷ [])
means = refl

refused : opened (1 ∷ 0 ∷ 0 ∷ 0 ∷ 9 ∷ 4 ∷ 3 ∷ 0 ∷ 0 ∷ []) ≡ Err UnknownScope
refused = refl

-- What the bytes of an image come to, and what is said of it.
use Rattle.std.specs.Prelude.{◌≡◌, ℕ, Bool, ◌⊎◌, List, is_err, Ok, Err, Result}
use Rattle.model.specs.declared.refusal.Refusal.{Refusal}
use Rattle.model.specs.Graph.{Scope}
use Rattle.model.specs.Rules.{FirstBroken, Keeps}
use Rattle.image.specs.declared.image.Image.{Image}
use Rattle.image.specs.Meaning.{opened, meant}
use Rattle.report.specs.Lines.{listed}

-- the graph of an image, or the refusal
abbrev pub graph_of : Result Image Refusal → Result (List Scope) Refusal
graph_of (Ok i) = Ok (meant i.bytes.now)
graph_of (Err e) = Err e

-- bytes come to the graph that they open as, where it keeps the rules;
-- to a refusal, where opening gives it, or where it is the first broken rule of that graph
abbrev pub ComesTo : List ℕ → Result (List Scope) Refusal → Type 0
ComesTo bytes (Ok g) = (opened bytes ≡ Ok g) × Keeps g
ComesTo bytes (Err e) = (opened bytes ≡ Err e) ⊎ ((g : List Scope) × (opened bytes ≡ Ok g) × FirstBroken g e)

-- the text is the listing of what the bytes come to, and says whether that is a refusal
abbrev pub Says : List ℕ → List ℕ → Bool → Type 0
Says bytes text refused = (x : Result (List Scope) Refusal) × ComesTo bytes x × (text ≡ listed x) × (refused ≡ is_err x)

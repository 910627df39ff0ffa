-- The line of a scope in a listing.
use Rattle.std.specs.Prelude.{ℕ, suc, List, [], ◌∷◌, ◌++◌, length, Ok, Err, codes, decimal, Result}
use Rattle.model.specs.declared.refusal.Refusal.{Refusal}
use Rattle.model.specs.Graph.{Scope}
use Rattle.model.specs.Numbers.{refused_text}
use Rattle.report.specs.declared.scope_line.ScopeLine.{ScopeLine}

abbrev pub line_of : ℕ → Scope → ScopeLine
line_of i s = record { scope = i; least = s.least; most = s.most; nodes = length s.nodes; edges = length s.edges; facts = length s.facts }

abbrev pub line_text : ScopeLine → List ℕ
line_text l =
    codes "scope " ++ (decimal l.scope ++ (codes " passes " ++ (decimal l.least ++ (codes "-" ++ (decimal l.most
    ++ (codes " nodes " ++ (decimal l.nodes ++ (codes " edges " ++ (decimal l.edges ++ (codes " facts " ++ decimal l.facts))))))))))

-- the lines of the scopes from number i on
abbrev pub lines : ℕ → List Scope → List ℕ
lines i [] = []
lines i (s ∷ g) = (line_text (line_of i s) ++ codes "\n") ++ lines (suc i) g

-- a graph is listed by its scopes, and a refusal by its number
abbrev pub listed : Result (List Scope) Refusal → List ℕ
listed (Ok g) = lines 0 g
listed (Err e) = refused_text e ++ codes "\n"

-- The text of a call that changes a workbook.
use Rattle.std.specs.Prelude.{ℕ, List, ◌++◌, codes, decimal}
use Rattle.std.specs.Fmt.{signed_decimal}
use Rattle.model.specs.declared.graph.Constraint.{Constraint}
use Rattle.model.specs.declared.graph.Constraint.TheVariants.{Bar, Must, Pair}
use Rattle.model.specs.declared.graph.Edge.{Edge}
use Rattle.model.specs.declared.graph.Fact.{Fact}
use Rattle.model.specs.declared.graph.Target.{Target}
use Rattle.model.specs.declared.graph.Target.TheVariants.{To, Again, Leave}
use Rattle.workbook.specs.declared.edit.Edit.{Edit}
use Rattle.workbook.specs.declared.edit.Edit.TheVariants.{AddScope, AddBlock, AddCall, AddEdge, AddFact, SetPasses, SetFigures, Strike}

abbrev pub target_text : Target → List ℕ
target_text (To n) = decimal n
target_text Again = codes "again"
target_text Leave = codes "leave"

-- of scope s
abbrev pub edge_text : ℕ → Edge → List ℕ
edge_text s e = codes "add edge " ++ (decimal s ++ (codes " " ++ (decimal e.from ++ (codes " " ++ (target_text e.to ++ (codes " " ++ signed_decimal e.effect))))))

-- in force from pass a to pass b
abbrev pub fact_words : ℕ → Constraint → ℕ → ℕ → List ℕ
fact_words s (Bar n) a b = codes "add bar " ++ (decimal s ++ (codes " " ++ (decimal n ++ (codes " " ++ (decimal a ++ (codes " " ++ decimal b))))))
fact_words s (Must n) a b = codes "add must " ++ (decimal s ++ (codes " " ++ (decimal n ++ (codes " " ++ (decimal a ++ (codes " " ++ decimal b))))))
fact_words s (Pair n m) a b = codes "add pair " ++ (decimal s ++ (codes " " ++ (decimal n ++ (codes " " ++ (decimal m ++ (codes " " ++ (decimal a ++ (codes " " ++ decimal b))))))))

abbrev pub fact_text : ℕ → Fact → List ℕ
fact_text s f = fact_words s f.constraint f.first f.last

abbrev pub edit_text : Edit → List ℕ
edit_text (AddScope l m) = codes "add scope " ++ (decimal l ++ (codes " " ++ decimal m))
edit_text (AddBlock s t k) = codes "add block " ++ (decimal s ++ (codes " " ++ (decimal t ++ (codes " " ++ decimal k))))
edit_text (AddCall s c) = codes "add call " ++ (decimal s ++ (codes " " ++ decimal c))
edit_text (AddEdge s e) = edge_text s e
edit_text (AddFact s f) = fact_text s f
edit_text (SetPasses s l m) = codes "set passes " ++ (decimal s ++ (codes " " ++ (decimal l ++ (codes " " ++ decimal m))))
edit_text (SetFigures s n t k) = codes "set figures " ++ (decimal s ++ (codes " " ++ (decimal n ++ (codes " " ++ (decimal t ++ (codes " " ++ decimal k))))))
edit_text (Strike s) = codes "strike " ++ decimal s

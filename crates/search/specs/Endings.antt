-- The targets in which a pass ends.
use Rattle.model.specs.declared.graph.Target.{Target}
use Rattle.model.specs.declared.graph.Target.TheVariants.{Again, Leave}
use Rattle.search.specs.declared.ending.Ending.{Ending}
use Rattle.search.specs.declared.ending.Ending.TheVariants.{Again as Repeat, Leave as Exit}

abbrev pub stop : Ending → Target
stop Repeat = Again
stop Exit = Leave

-- The items of a row.
use Rattle.std.specs.Prelude.{ℕ, List, take}
use Rattle.row.specs.declared.row.Row.{Row}

abbrev pub items_of : {T : Type 0} {N : ℕ} → Row T N → List T
items_of r = take r.len r.items

-- What a table means. Assumes nothing.
use Rattle.plans.specs.Cablings.{Cabling}
use Rattle.plans.specs.declared.table.Table.{Table}
use Rattle.std.specs.Prelude.{vec_items}

-- the size, the root and the links of the table
abbrev pub cabling_of : Table → Cabling
cabling_of t = record { size = t.size; root = t.root; links = vec_items t.links }

-- The arrows of a list of ports that code holds. Assumes nothing.
use Rattle.std.specs.Prelude.{ℕ, List, vec_items, Vec}
use Rattle.std.specs.Global.{Global}
use Rattle.model.specs.Arrows.{Cells}
use Rattle.model.specs.Filed.{filed_cells}
use Rattle.sources.specs.declared.filed.Filed.{Filed}
use Rattle.sources.specs.declared.listing.Listing.{Listing}

-- the cells of ports that are listed so
abbrev pub listed : Listing → List ℕ → Cells
listed l ports = filed_cells l.size l.root l.depth ports

-- the cells of its size, root, depth and ports
abbrev pub filed_of : Filed (Vec ℕ Global) → Cells
filed_of f = listed f.listing (vec_items f.ports)

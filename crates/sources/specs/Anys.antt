-- Arrows of either kind. Assumes nothing.
use Rattle.model.specs.Arrows.{Cells}
use Rattle.model.specs.Caps.{capped}
use Rattle.sources.specs.Lists.{filed_of}
use Rattle.model.specs.Seeds.{seeded_cells}
use Rattle.sources.specs.declared.any.AnyArrows.{AnyArrows}
use Rattle.sources.specs.declared.any.AnyArrows.TheVariants.{Filed, Seeded}

-- the cells of the source that it is
abbrev pub any_cells : AnyArrows → Cells
any_cells (Filed f) = filed_of f
any_cells (Seeded c) = capped c.depth (seeded_cells c.below.seed)

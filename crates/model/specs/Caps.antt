-- Arrows down to a depth. Assumes nothing.
use Rattle.std.specs.Prelude.{ℕ, cond, None, nat_lt}
use Rattle.model.specs.Arrows.{Cells}

-- the cells at an index below the depth, none from there on
abbrev pub capped : ℕ → Cells → Cells
capped depth a v k d = cond (nat_lt k depth) (a v k d) None

-- The depths down to which cells are listed. Assumes nothing.
use Rattle.std.specs.Prelude.{ℕ, ◌-◌, ◌*◌, Bool, cond, ◌&&◌, Some, None, Option, nat_le}
use Rattle.model.specs.declared.fault.DrawFault.{DrawFault}
use Rattle.model.specs.declared.fault.DrawFault.TheVariants.{Limit}

-- the number of cells of n vertices, one of them the root, down to a depth
abbrev pub cells_to : ℕ → ℕ → ℕ
cells_to n depth = (n - 1) * depth

-- a depth is 1 to 4,096
abbrev pub depth_fits : ℕ → Bool
depth_fits depth = nat_le 1 depth && nat_le depth 4096

-- and there are at most 4,096 cells
abbrev pub cells_fit : ℕ → ℕ → Bool
cells_fit n depth = depth_fits depth && nat_le (cells_to n depth) 4096

-- the fault of what is outside its limits
abbrev pub limit_unless : Bool → Option DrawFault
limit_unless fits = cond fits None (Some Limit)

abbrev pub depth_fault : ℕ → Option DrawFault
depth_fault depth = limit_unless (depth_fits depth)

abbrev pub cells_fault : ℕ → ℕ → Option DrawFault
cells_fault n depth = limit_unless (cells_fit n depth)

-- The limits of a plan's size and root. Assumes nothing.
use Rattle.std.specs.Prelude.{ℕ, cond, ◌||◌, Some, None, Option, nat_lt}
use Rattle.model.specs.declared.fault.DrawFault.{DrawFault}
use Rattle.model.specs.declared.fault.DrawFault.TheVariants.{Limit, Root}

-- why there is no plan of this size and root: fewer than 1 or more than 1,024 vertices, then a root that is no vertex
abbrev pub plan_fault : ℕ → ℕ → Option DrawFault
plan_fault n r = cond (nat_lt n 1 || nat_lt 1024 n) (Some Limit) (cond (nat_lt r n) None (Some Root))

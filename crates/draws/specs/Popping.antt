-- Popping a cycle into a list that may be full. Assumes nothing.
use Rattle.std.specs.Prelude.{ℕ, cond, List, length, Result, nat_lt}
use Rattle.model.specs.declared.draw.Tried.{Tried}
use Rattle.model.specs.declared.fault.DrawFault.{DrawFault}
use Rattle.model.specs.declared.fault.DrawFault.TheVariants as fault
use Rattle.theory.specs.Calls.{After, refused, pops_cycle}
use Rattle.theory.specs.Draws.{Held}

-- the cycle is popped if the list has room for its record, else refused
abbrev pub popping : Held → List ℕ → After (Result Tried DrawFault)
popping h c = cond (nat_lt h.draw.pops (length h.list)) (pops_cycle h c) (refused h fault.ListFull)

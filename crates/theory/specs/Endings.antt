-- What asking an ended draw for its tree answers and writes. Assumes nothing.
use Rattle.std.specs.Prelude.{ℕ, not, List, [], ◌∷◌, ◌++◌, map, length, drop, Some, None, Ok, Err, Option, Result, nat_lt}
use Rattle.std.specs.List.{range_with_len}
use Rattle.std.specs.Option.{unwrap_or, option_or}
use Rattle.model.specs.Arrows.{Cells, visible, is_dry}
use Rattle.theory.specs.Calls.{first_fault, none_open}
use Rattle.theory.specs.Cycles.{Heights}
use Rattle.theory.specs.Draws.{State, is_of, height_of}
use Rattle.model.specs.Layouts.{Layout}
use Rattle.model.specs.Picks.{lowest}
use Rattle.model.specs.declared.fault.DrawFault.{DrawFault}
use Rattle.model.specs.declared.fault.DrawFault.TheVariants as fault

-- the visible port of v at the heights, 65,535 where there is none, as at the root
abbrev pub port_shown : Layout → Cells → Heights → ℕ → ℕ
port_shown p a h v = unwrap_or (visible p a v (h v)) 65535

-- the visible port of each vertex at the heights, 65,535 where there is none, as at the root
abbrev pub ports_at : Layout → Cells → Heights → List ℕ
ports_at p a h = map (port_shown p a h) (range_with_len 0 p.size)

-- the lowest dry vertex at the heights
abbrev pub lowest_dry : Layout → Cells → Heights → Option ℕ
lowest_dry p a h = lowest (λ v. is_dry p a v (h v)) p.size

-- the answer and the buffer: the ports in front, and nothing changed behind them; a refusal changes nothing
abbrev pub written : Option DrawFault → List ℕ → List ℕ → Result (Unit {0}) DrawFault × List ℕ
written None ports new = (Ok tt, new)
written (Some e) ports new = (Err e, ports)

-- the fault of a dry vertex
abbrev pub dry_fault : Option ℕ → Option DrawFault
dry_fault None = None
dry_fault (Some v) = Some (fault.Dry v)

-- why there is no tree: a vertex is open still, or the draw ended with a dry one
abbrev pub end_fault : Layout → Cells → State → Option DrawFault
end_fault p a d = option_or (first_fault ((not (none_open d.entries), fault.StillOpen) ∷ [])) (dry_fault (lowest_dry p a (height_of d.entries)))

-- the first reason why there is no tree in the buffer
abbrev pub tree_fault : Layout → Cells → State → List ℕ → Option DrawFault
tree_fault p a d ports = option_or (first_fault ((not (is_of p d), fault.OtherPlan) ∷ (nat_lt (length ports) p.size, fault.Short) ∷ [])) (end_fault p a d)

-- tree, with a buffer for the ports
abbrev pub trees : Layout → Cells → State → List ℕ → Result (Unit {0}) DrawFault × List ℕ
trees p a d ports = written (tree_fault p a d ports) ports (ports_at p a (height_of d.entries) ++ drop p.size ports)

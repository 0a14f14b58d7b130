use Rattle.std.proofs.Common.{◌≡◌, ◌++◌, map, drop}
use Rattle.std.specs.List.{range_with_len}
use Rattle.theory.specs.Draws.{height_of}
use Rattle.theory.specs.Endings.{port_shown}
use Rattle.draws.specs.States.{state_of}
use Rattle.endings.proofs.ended.End.write_ports.Given as goal

abbrev pub invariant-loop-v : goal.invariant-loop-v
invariant-loop-v g l =
    l.ports ≡ map (port_shown (g.P.Plan.layout l.self.plan.now) (g.S.ArrowSource.cells l.self.arrows.now) (height_of (state_of l.self.draw.now).entries)) (range_with_len 0 l.v) ++ drop l.v l.initial.ports

use Rattle.std.proofs.Common.{◌-◌}
use Rattle.draws.specs.States.{held_of}
use Rattle.draws.proofs.Running.{Running}
use Rattle.draws.proofs.draw.Draw.run.Given as goal

abbrev pub invariant-loop-tries : goal.invariant-loop-tries
invariant-loop-tries g l =
    Running g.O.Order.picks g.O.Order.tells g.O.Order.lawful (g.P.Plan.layout l.plan) (g.S.ArrowSource.cells l.arrows) (g.P.Plan.sound l.plan)
    l.budget l.initial.order (held_of l.initial.self l.initial.list) l.order l.tries (held_of l.self l.list)

abbrev pub decreases-loop-tries : goal.decreases-loop-tries
decreases-loop-tries g l = l.budget - l.tries

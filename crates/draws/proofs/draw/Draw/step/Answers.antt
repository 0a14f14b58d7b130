use Rattle.std.proofs.Common.{sym}
use Rattle.draws.specs.States.{held_of}
use Rattle.draws.proofs.Running.{steps_at, steps_nowhere}
use Rattle.draws.proofs.draw.Draw.step.Goals as goal

pub returns-in_default : goal.returns-in_default
returns-in_default g c =
    steps_nowhere g.O.Order.picks g.O.Order.tells g.O.Order.lawful (g.P.Plan.layout c.args.plan.now) (g.S.ArrowSource.cells c.args.arrows.now) (g.P.Plan.sound c.args.plan.now)
    c.args.order.now (held_of c.args.self.now c.args.list.now) (sym c.if-not-is_of.ensures) (sym c.in_default.ensures)

pub returns : goal.returns
returns g c =
    steps_at g.O.Order.picks g.O.Order.tells g.O.Order.lawful (g.P.Plan.layout c.args.plan.now) (g.S.ArrowSource.cells c.args.arrows.now) (g.P.Plan.sound c.args.plan.now)
    c.args.order.now (held_of c.args.self.now c.args.list.now) _ _ _ c.in-Some.v (sym c.if-not-is_of.ensures) (sym c.in-Some.ensures) c.follow.ensures.held c.follow.ensures.answer c.follow.ensures.order

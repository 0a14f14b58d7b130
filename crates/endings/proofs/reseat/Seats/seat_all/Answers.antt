use Rattle.std.proofs.Common.{arith}
use Rattle.theory.specs.Draws.{height_of}
use Rattle.draws.specs.States.{state_of}
use Rattle.endings.proofs.Seating.{seats_more}
use Rattle.endings.proofs.reseat.Seats.seat_all.Goals as goal

pub loop-v-preserved : goal.loop-v-preserved
loop-v-preserved g c =
    seats_more (g.P.Plan.layout c.args.self.now.plan.now) c.args.self.now.depth (height_of (state_of c.args.self.now.draw.now).entries) c.args.self.now.ports.now c.loop-v.v c.loop-v.cells c.seat.new.cells _
    (omega (arith, c.size-v-end.ensures)) c.seat.ensures c.loop-v.invariant

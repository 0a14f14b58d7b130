use Rattle.std.proofs.Common.{◌≡◌}
use Rattle.theory.specs.Draws.{height_of}
use Rattle.theory.specs.Reseats.{reseated}
use Rattle.draws.specs.States.{state_of}
use Rattle.endings.proofs.Seating.{seats_from}
use Rattle.endings.proofs.reseat.Seats.seat_all.Given as goal

abbrev pub invariant-loop-v : goal.invariant-loop-v
invariant-loop-v g l =
    let p = g.P.Plan.layout l.self.plan.now in
    let h = height_of (state_of l.self.draw.now).entries in
    seats_from p l.self.depth h l.self.ports.now l.v l.cells ≡ reseated p l.self.depth h l.self.ports.now l.initial.cells

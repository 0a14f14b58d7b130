use Rattle.std.proofs.Common.{arith}
use Rattle.endings.proofs.Seating.{placed_below}
use Rattle.endings.proofs.reseat.Seats.seat.Goals as goal

pub bounds-cells-at : goal.bounds-cells-at
bounds-cells-at g c = omega (
  arith,
  c.requires.seats.room,
  placed_below (g.P.Plan.layout c.args.self.now.plan.now) (g.P.Plan.sound c.args.self.now.plan.now) c.listing.result c.args.self.now.depth c.args.v _ c.in-Some.at c.listing.ensures c.in-Some.ensures,
)

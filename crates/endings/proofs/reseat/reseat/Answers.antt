use Rattle.std.proofs.Common.{rules}
use Rattle.model.proofs.Answers.{no_fault}
use Rattle.draws.specs.States.{state_of}
use Rattle.endings.proofs.Seating.{ready, refused, reseats_all}
use Rattle.endings.proofs.reseat.reseat.Goals as goal

pub seat_all-requires : goal.seat_all-requires
seat_all-requires g c =
    ready (g.P.Plan.layout c.args.plan.now) (g.P.Plan.sound c.args.plan.now) (state_of c.args.draw.now) c.args.depth c.args.cells.now c.args.ports.now (no_fault _ _ _ c.in_ok-check.ensures)

pub returns-in_err-check : goal.returns-in_err-check
returns-in_err-check g c = refused _ _ _ _ _ (search rules) c.in_err-check.ensures

pub returns : goal.returns
returns g c =
    reseats_all (g.P.Plan.layout c.args.plan.now) (g.P.Plan.sound c.args.plan.now) (state_of c.args.draw.now) c.args.depth c.args.cells.now c.args.ports.now
    c.seat_all.new.cells (no_fault _ _ _ c.in_ok-check.ensures) c.seat_all.ensures

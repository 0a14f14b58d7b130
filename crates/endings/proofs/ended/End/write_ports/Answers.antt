use Rattle.std.proofs.Common.{arith}
use Rattle.theory.specs.Draws.{height_of}
use Rattle.theory.specs.Endings.{port_shown}
use Rattle.draws.specs.States.{state_of}
use Rattle.endings.proofs.Writing.{one_more}
use Rattle.endings.proofs.ended.End.write_ports.Goals as goal

pub loop-v-preserved : goal.loop-v-preserved
loop-v-preserved g c =
    one_more (port_shown (g.P.Plan.layout c.args.self.now.plan.now) (g.S.ArrowSource.cells c.args.self.now.arrows.now) (height_of (state_of c.args.self.now.draw.now).entries)) c.loop-v.v c.port_shown.result c.loop-v.ports c.args.ports.now
    (omega (arith, c.requires, c.loop-v-test.true, c.size-v-end.ensures)) c.loop-v.invariant c.port_shown.ensures

use Rattle.desk.proofs.Called.{ran_as}
use Rattle.desk.proofs.running.Running.run.Goals as goal

pub returns : goal.returns
returns g c =
    ran_as (g.P.Plan.layout c.args.plan.now) (g.S.ArrowSource.cells c.args.arrows.now) c.args.self.now c.run.new.self c.as_mut_slice.result.now c.run.new.list
    c.as_mut_slice.ensures.value c.run.auto.list c.args.budget c.run.new.order c.run.result c.run.ensures.held c.run.ensures.answer c.run.ensures.order

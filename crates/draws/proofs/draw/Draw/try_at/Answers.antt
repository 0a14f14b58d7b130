use Rattle.std.proofs.Common.{vec_items, sym, arith}
use Rattle.draws.specs.States.{held_of}
use Rattle.draws.proofs.Tried.{goes_straight, cycle_there, pops_there, settles_there}
use Rattle.draws.proofs.draw.Draw.try_at.Goals as goal

pub pop-requires : goal.pop-requires
pop-requires g c = record {
  of_plan = sym c.if-not-is_of.ensures;
  cycle =
      cycle_there (g.P.Plan.layout c.args.plan.now) (g.S.ArrowSource.cells c.args.arrows.now) (g.P.Plan.sound c.args.plan.now)
      (held_of c.args.self.now c.args.list.now) c.args.v (sym c.if-not-is_of.ensures) (omega (arith, c.size.ensures, c.if-v-size.false)) (sym c.if-settled.ensures)
      c.in-Some.on c.in-Some.ensures;
}

pub settle-requires : goal.settle-requires
settle-requires g c = record {
  of_plan = sym c.if-not-is_of.ensures;
  within = omega (arith, c.size.ensures, c.if-v-size.false);
  straight =
      goes_straight (g.P.Plan.layout c.args.plan.now) (g.S.ArrowSource.cells c.args.arrows.now) (g.P.Plan.sound c.args.plan.now)
      (vec_items c.args.self.now.entries.list) c.args.v (omega (arith, c.size.ensures, c.if-v-size.false)) (sym c.if-settled.ensures) c.in-None.ensures;
}

pub returns-in-Some : goal.returns-in-Some
returns-in-Some g c =
    pops_there (g.P.Plan.layout c.args.plan.now) (g.S.ArrowSource.cells c.args.arrows.now) (g.P.Plan.sound c.args.plan.now)
    (held_of c.args.self.now c.args.list.now) c.args.v (sym c.if-not-is_of.ensures) (omega (arith, c.size.ensures, c.if-v-size.false)) (sym c.if-settled.ensures)
    c.in-Some.on c.in-Some.ensures _ _ c.pop.ensures

pub returns-in-None : goal.returns-in-None
returns-in-None g c =
    settles_there (g.P.Plan.layout c.args.plan.now) (g.S.ArrowSource.cells c.args.arrows.now) (g.P.Plan.sound c.args.plan.now)
    (held_of c.args.self.now c.args.list.now) c.args.v (sym c.if-not-is_of.ensures) (omega (arith, c.size.ensures, c.if-v-size.false)) (sym c.if-settled.ensures)
    c.in-None.ensures _ _ (c.settle.ensures.after c.args.list.now) c.settle.ensures.count

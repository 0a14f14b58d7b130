use Rattle.std.proofs.Common.{vec_items, sym, arith}
use Rattle.draws.proofs.Rounding.{met, walks_on, came_round}
use Rattle.draws.proofs.Shown.{open_to}
use Rattle.draws.proofs.sight.Sight.comes_round.Goals as goal

pub returns-then-next-mark : goal.returns-then-next-mark
returns-then-next-mark g c = met _ _ _ _ _ c.loop-gone.invariant c.in_ok-next.next (sym c.in_ok-next.ensures) c.if-next-mark.true

pub loop-gone-preserved : goal.loop-gone-preserved
loop-gone-preserved g c = walks_on _ _ _ _ _ c.loop-gone.invariant c.in_ok-next.next c.passed-mark.result.vertex (sym c.in_ok-next.ensures) c.passed-mark.ensures

pub returns : goal.returns
returns g c =
    let p = g.P.Plan.layout c.args.self.now.plan.now in
    let list = c.args.self.now.entries.now.list in
    came_round _ _ _ _ _ c.loop-gone.invariant p.size
    (open_to p (g.S.ArrowSource.cells c.args.self.now.arrows.now) (g.P.Plan.sound c.args.self.now.plan.now) (vec_items list))
    c.requires
    (omega (arith, c.size-gone-end.ensures, c.loop-gone-test.false))

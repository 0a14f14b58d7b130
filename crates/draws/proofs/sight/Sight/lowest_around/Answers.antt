use Rattle.std.proofs.Common.{ℕ, ◌+◌, ◌∷◌, vec_items, sym, ◌∙◌, subst, arith}
use Rattle.theory.specs.Draws.{shown}
use Rattle.draws.proofs.Lowering.{Lowering, begins, not_out, all_round, back_at_start, goes_on}
use Rattle.draws.proofs.Shown.{cycle_few}
use Rattle.draws.proofs.sight.Sight.lowest_around.Goals as goal

pub loop-gone-init : goal.loop-gone-init
loop-gone-init g c m rest cyc on =
    let p = g.P.Plan.layout c.args.self.now.plan.now in
    begins _ p.size c.args.start m rest cyc on
    (cycle_few p (g.S.ArrowSource.cells c.args.self.now.arrows.now) (g.P.Plan.sound c.args.self.now.plan.now) (vec_items c.args.self.now.entries.now.list) (m ∷ rest) cyc)

pub returns-in_default : goal.returns-in_default
returns-in_default g c m rest cyc on = absurd (not_out _ _ _ m rest cyc _ _ _ (c.loop-gone.invariant m rest cyc on) (sym c.in_default.ensures))

pub returns-then-next-start : goal.returns-then-next-start
returns-then-next-start g c m rest cyc on =
    c.min-low.ensures ∙ back_at_start _ _ _ m rest cyc _ _ _ (c.loop-gone.invariant m rest cyc on) c.in-Some.next (sym c.in-Some.ensures) c.if-next-start.true

pub loop-gone-preserved : goal.loop-gone-preserved
loop-gone-preserved g c m rest cyc on =
    let p = g.P.Plan.layout c.args.self.now.plan.now in
    let arrow = shown p (g.S.ArrowSource.cells c.args.self.now.arrows.now) (vec_items c.args.self.now.entries.now.list) in
    subst (λ (low : ℕ). Lowering arrow p.size c.args.start m rest cyc c.in-Some.next low (c.loop-gone._gone + 1)) (sym c.min-low.ensures)
    (goes_on arrow p.size c.args.start m rest cyc _ _ _ (c.loop-gone.invariant m rest cyc on) c.in-Some.next (sym c.in-Some.ensures))

pub returns : goal.returns
returns g c m rest cyc on =
    let list = c.args.self.now.entries.now.list in
    all_round _ _ _ m rest cyc _ _ _ (c.loop-gone.invariant m rest cyc on) (omega (arith, c.size-gone-end.ensures, c.loop-gone-test.false))

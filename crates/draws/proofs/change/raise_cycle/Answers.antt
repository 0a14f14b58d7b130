use Rattle.std.proofs.Common.{◌+◌, vec_items, sym, ◌∙◌}
use Rattle.draws.proofs.Raising.{Raises, begins, not_out, finished, goes_on, ready}
use Rattle.draws.proofs.change.raise_cycle.Goals as goal

pub loop-next-init : goal.loop-next-init
loop-next-init g c =
    let p = g.P.Plan.layout c.args.plan.now in
    let a = g.S.ArrowSource.cells c.args.arrows.now in
    let start = vec_items c.args.entries.now.list in
    let low = c.args.low in
    let raises : Raises p a start low low 0 start = λ rest cyc. begins _ _ _ rest cyc in
    (ready p a (g.P.Plan.sound c.args.plan.now) start c.requires.sized low c.requires.cycle low 0 start raises, raises)

pub returns-in_default : goal.returns-in_default
returns-in_default g c rest cyc = absurd (not_out _ _ _ rest cyc _ _ _ (c.loop-next.invariant.1 rest cyc) (sym c.loop-next.invariant.0.shown_now ∙ sym c.in_default.ensures))

pub returns-then-next-low : goal.returns-then-next-low
returns-then-next-low g c rest cyc =
    finished _ _ _ rest cyc _ _ _ (c.loop-next.invariant.1 rest cyc) c.loop-next.invariant.0.within _ c.raise_at.ensures
    c.in-Some.next (sym c.loop-next.invariant.0.shown_now ∙ sym c.in-Some.ensures) c.if-next-low.true

pub loop-next-preserved : goal.loop-next-preserved
loop-next-preserved g c =
    let p = g.P.Plan.layout c.args.plan.now in
    let a = g.S.ArrowSource.cells c.args.arrows.now in
    let start = vec_items c.args.entries.now.list in
    let low = c.args.low in
    let after = vec_items c.raise_at.new.entries.list in
    let raises : Raises p a start low c.in-Some.next (c.loop-next.count + 1) after = λ rest cyc.
    goes_on _ _ _ rest cyc _ _ _ (c.loop-next.invariant.1 rest cyc) c.loop-next.invariant.0.within after c.raise_at.ensures c.in-Some.next (sym c.loop-next.invariant.0.shown_now ∙ sym c.in-Some.ensures) c.if-next-low.false in
    (ready p a (g.P.Plan.sound c.args.plan.now) start c.requires.sized low c.requires.cycle c.in-Some.next (c.loop-next.count + 1) after raises, raises)

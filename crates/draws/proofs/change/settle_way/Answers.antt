use Rattle.std.proofs.Common.{◌≡◌, ℕ, suc, ◌<◌, [], length, Some, None, vec_items, sym, ap, ◌∙◌, arith}
use Rattle.theory.specs.Draws.{shown, trail, trail_on, is_settled}
use Rattle.draws.proofs.Settling.{begins, most, as_long, stops, falls, ends_dry, goes_on, shown_still}
use Rattle.draws.proofs.Shown.{shown_to}
use Rattle.draws.proofs.change.settle_way.Goals as goal

pub loop-sight-init : goal.loop-sight-init
loop-sight-init g c =
    let p = g.P.Plan.layout c.args.plan.now in
    let a = g.S.ArrowSource.cells c.args.arrows.now in
    let start = vec_items c.args.entries.now.list in
    begins (shown p a start) start (trail p a start c.args.start) c.args.start (omega (arith, c.requires.within, c.requires.sized))
    (ap (λ (n : ℕ). trail_on (shown p a start) (is_settled start) (suc n) [] c.args.start) c.requires.sized)

pub settle_at-requires : goal.settle_at-requires
settle_at-requires g c = omega (arith, c.loop-sight.invariant.low, as_long _ _ _ _ _ _ c.loop-sight.invariant, c.loop-sight.entries.list.ok.0)

pub overflow_add-count : goal.overflow_add-count
overflow_add-count g c = omega (arith, most _ _ _ _ _ _ c.loop-sight.invariant, c.args.entries.now.few, c.args.entries.now.list.ok.0)

pub returns-in_default : goal.returns-in_default
returns-in_default g c =
    let p = g.P.Plan.layout c.args.plan.now in
    let a = g.S.ArrowSource.cells c.args.arrows.now in
    let start = vec_items c.args.entries.now.list in
    let inv = c.loop-sight.invariant in
    let none : shown p a start c.loop-sight.here ≡ None = sym (shown_still p a start _ _ _ _ inv) ∙ sym c.in_default.ensures in
    ends_dry _ _ _ _ _ _ inv (sym c.if-settled.ensures) _ c.settle_at.ensures none

pub loop-sight-smaller : goal.loop-sight-smaller
loop-sight-smaller g c = falls _ _ _ _ _ _ c.loop-sight.invariant (sym c.if-settled.ensures) _ c.settle_at.ensures

pub loop-sight-preserved : goal.loop-sight-preserved
loop-sight-preserved g c =
    let p = g.P.Plan.layout c.args.plan.now in
    let a = g.S.ArrowSource.cells c.args.arrows.now in
    let start = vec_items c.args.entries.now.list in
    let here = c.loop-sight.here in
    let inv = c.loop-sight.invariant in
    let some : shown p a start here ≡ Some c.in-Some.next = sym (shown_still p a start _ _ _ _ inv) ∙ sym c.in-Some.ensures in
    let low : c.in-Some.next < length start = omega (arith, shown_to p a (g.P.Plan.sound c.args.plan.now) start here c.in-Some.next some, c.requires.sized) in
    goes_on _ _ _ _ _ _ inv (sym c.if-settled.ensures) _ c.settle_at.ensures c.in-Some.next low some

pub returns-then-settled : goal.returns-then-settled
returns-then-settled g c = stops _ _ _ _ _ _ c.loop-sight.invariant c.requires.straight (sym c.if-settled.ensures)

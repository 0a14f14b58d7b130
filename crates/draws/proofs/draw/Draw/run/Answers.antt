use Rattle.std.proofs.Common.{not, is_ok, sym, ap, ◌∙◌}
use Rattle.draws.proofs.Running.{stops_ended, ended_at, spent_at, stops_full, goes_on}
use Rattle.draws.proofs.draw.Draw.run.Goals as goal

pub returns-in_default : goal.returns-in_default
returns-in_default g c = stops_ended g.O.Order.picks g.O.Order.tells g.O.Order.lawful _ _ (g.P.Plan.sound c.args.plan.now) _ _ _ _ _ _ c.loop-tries.invariant (sym c.if-not-is_of.ensures) (sym c.in_default.ensures)

pub returns-then-is_err : goal.returns-then-is_err
returns-then-is_err g c =
    stops_full g.O.Order.picks g.O.Order.tells g.O.Order.lawful _ _ (g.P.Plan.sound c.args.plan.now) _ _ _ _ _ _ c.loop-tries.invariant (sym c.if-not-is_of.ensures) c.in-Some.v (sym c.in-Some.ensures)
    c.loop-tries-test.true _ (c.is_err.ensures.negation ∙ ap not c.if-is_err.true) c.follow.ensures.answer _ _ c.follow.ensures.order c.follow.ensures.held

pub loop-tries-preserved : goal.loop-tries-preserved
loop-tries-preserved g c =
    goes_on g.O.Order.picks g.O.Order.tells g.O.Order.lawful _ _ (g.P.Plan.sound c.args.plan.now) _ _ _ _ _ _ c.loop-tries.invariant (sym c.if-not-is_of.ensures) c.in-Some.v (sym c.in-Some.ensures)
    c.loop-tries-test.true (ap (λ t. is_ok t) (sym c.follow.ensures.answer) ∙ c.is_err.ensures.negation ∙ ap not c.if-is_err.false) _ _ c.follow.ensures.order c.follow.ensures.held

pub returns-in-Some-pick : goal.returns-in-Some-pick
returns-in-Some-pick g c = spent_at g.O.Order.picks g.O.Order.tells g.O.Order.lawful _ _ (g.P.Plan.sound c.args.plan.now) _ _ _ _ _ _ c.loop-tries.invariant (sym c.if-not-is_of.ensures) c.in-Some-pick.field-0 (sym c.in-Some-pick.ensures) c.loop-tries-test.false

pub returns-in-None : goal.returns-in-None
returns-in-None g c = ended_at g.O.Order.picks g.O.Order.tells g.O.Order.lawful _ _ (g.P.Plan.sound c.args.plan.now) _ _ _ _ _ _ c.loop-tries.invariant (sym c.if-not-is_of.ensures) c.loop-tries-test.false (sym c.in-None.ensures)

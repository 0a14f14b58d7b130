use Rattle.std.proofs.Common.{◌+◌, ◌*◌, ◌<◌, drop, sym, ap, ◌∙◌, arith}
use Rattle.std.proofs.lemmas.Bool.{eqb-false}
use Rattle.tokens.proofs.Readings.{from_start, one_digit, no_digit, too_large, at_end}
use Rattle.tokens.proofs.number.decimal_reading.Goals as goal

pub loop-b-init : goal.loop-b-init
loop-b-init c = (omega arith, from_start _ _ _ (eqb-false _ 0 (sym c.if-is_empty.ensures)))

pub returns-in_err-digit : goal.returns-in_err-digit
returns-in_err-digit c =
    c.from_residual.ensures ∙ no_digit _ c.loop-b.value _ c.loop-b.b-index _ _ c.loop-b-test.true c.from.ensures c.in_err-digit.ensures.value ∙ c.loop-b.invariant.1

pub returns-then-value-limit : goal.returns-then-value-limit
returns-then-value-limit c =
    let above : c.args.most < c.loop-b.value * 10 + c.from-in-loop-b.result = omega (arith, c.from-limit.ensures) in
    sym (too_large _ _ _ (drop (c.loop-b.b-index + 1) c.args.word.now) (omega arith) above)
    ∙ one_digit _ c.loop-b.value _ c.loop-b.b-index _ _ c.loop-b-test.true c.from.ensures _ _ c.in_ok-digit.ensures.value (ap (λ k. c.loop-b.value * 10 + k) c.from-in-loop-b.ensures)
    ∙ c.loop-b.invariant.1

pub loop-b-preserved : goal.loop-b-preserved
loop-b-preserved c = (
  omega (arith, c.from-limit.ensures),
  one_digit _ c.loop-b.value _ c.loop-b.b-index _ _ c.loop-b-test.true c.from.ensures _ _ c.in_ok-digit.ensures.value (ap (λ k. c.loop-b.value * 10 + k) c.from-in-loop-b.ensures)
      ∙ c.loop-b.invariant.1,
)

pub returns : goal.returns
returns c = at_end _ _ _ c.loop-b.b-index _ c.loop-b.invariant.0 c.loop-b-test.false ∙ c.loop-b.invariant.1

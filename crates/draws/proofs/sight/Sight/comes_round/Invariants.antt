use Rattle.std.proofs.Common.{vec_items}
use Rattle.theory.specs.Laws.{open_arrows}
use Rattle.draws.proofs.Rounding.{Walking}
use Rattle.draws.proofs.sight.Sight.comes_round.Given as goal

abbrev pub invariant-loop-gone : goal.invariant-loop-gone
invariant-loop-gone g l = Walking (open_arrows (g.P.Plan.layout l.self.plan.now) (g.S.ArrowSource.cells l.self.arrows.now) (vec_items l.self.entries.now.list)) l.v l.mark.vertex l.here l._gone

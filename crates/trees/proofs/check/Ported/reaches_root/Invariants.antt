use Rattle.trees.proofs.Walks.{Walking, blanks}
use Rattle.trees.proofs.check.Ported.reaches_root.Given as goal

abbrev pub invariant-loop-here : goal.invariant-loop-here
invariant-loop-here g l = Walking (g.P.Plan.layout l.self.plan.now) l.self.ports.now l.start l.marks l.here

abbrev pub decreases-loop-here : goal.decreases-loop-here
decreases-loop-here g l = blanks l.marks

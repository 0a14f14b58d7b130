use Rattle.std.proofs.Common.{ℕ, ◌<◌}
use Rattle.model.specs.Trees.{Reaches}
use Rattle.trees.specs.Marks.{Marked}
use Rattle.trees.proofs.check.Ported.check.Given as goal

abbrev pub invariant-loop-v : goal.invariant-loop-v
invariant-loop-v g l = let p = g.P.Plan.layout l.self.plan.now in Marked p l.self.ports.now l.v l.marks × ((u : ℕ) → u < l.v → Reaches p l.self.ports.now u)

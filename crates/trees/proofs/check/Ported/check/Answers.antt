use Rattle.std.proofs.Common.{arith, below_more}
use Rattle.std.proofs.lemmas.Bool.Decides.{when_true}
use Rattle.trees.proofs.Walks.{unmarked}
use Rattle.trees.proofs.check.Ported.check.Goals as goal

pub loop-v-init : goal.loop-v-init
loop-v-init g c = (unmarked (g.P.Plan.layout c.args.self.now.plan.now) c.args.self.now.ports.now 1024, λ u below. absurd (omega arith))

pub loop-v-preserved : goal.loop-v-preserved
loop-v-preserved g c =
    let reached = c.if-not-reaches_root.false in
    let judged = c.reaches_root.ensures in
    (judged.marked reached, below_more _ _ c.loop-v.invariant.1 (when_true _ _ reached judged.verdict))

pub returns : goal.returns
returns g c = record {
  enough = c.args.self.now.enough;
  all_reach = λ v within. c.loop-v.invariant.1 v (omega (arith, c.size-v-end.ensures, c.loop-v-test.false));
}

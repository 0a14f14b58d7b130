use Rattle.std.proofs.Common.{sym, subst}
use Rattle.model.specs.Trees.{TreeLaw}
use Rattle.model.proofs.Trees.{tree_law}
use Rattle.trees.proofs.Walks.{found_is}
use Rattle.trees.proofs.check.check_tree.Goals as goal

pub returns : goal.returns
returns g c =
    let p = g.P.Plan.layout c.args.plan.now in
    let sound = g.P.Plan.sound c.args.plan.now in
    let ports = c.args.ports.now in
    let answer = found_is p sound ports _ c.check.ensures in
    record { answer = answer; law = subst (TreeLaw p ports) (sym answer) (tree_law p sound ports) }

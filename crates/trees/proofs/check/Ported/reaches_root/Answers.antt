use Rattle.std.proofs.Common.{◌<◌, length, sym, ◌∙◌, arith}
use Rattle.trees.proofs.Walks.{lost, at_mark, nowhere, walks_on, blanks_fall}
use Rattle.trees.proofs.check.Ported.reaches_root.Given as given
use Rattle.trees.proofs.check.Ported.reaches_root.Goals as goal
use Rattle.trees.proofs.check.Ported.reaches_root.Goals.{In-Some-target}

pub returns-in-Some : goal.returns-in-Some
returns-in-Some g c = at_mark _ _ _ (g.P.Plan.sound c.args.self.now.plan.now) _ _ c.loop-here.invariant _ c.in-Some.is

pub returns-in_default-target : goal.returns-in_default-target
returns-in_default-target g c =
    lost _ _ _ _ (nowhere _ _ _ (g.P.Plan.sound c.args.self.now.plan.now) _ _ c.loop-here.invariant
    (λ same. c.loop-here-test.true (same ∙ sym c.root-root.ensures))
    (sym c.target.ensures ∙ c.in_default-target.is))

inside : (g : given.Over) (c : In-Some-target g) → c.loop-here.here < length c.loop-here.marks
inside g c = omega (arith, c.requires.room, c.loop-here.invariant.in_plan)

pub loop-here-smaller : goal.loop-here-smaller
loop-here-smaller g c = blanks_fall _ _ _ (inside g c) c.in_default.is

pub loop-here-preserved : goal.loop-here-preserved
loop-here-preserved g c =
    walks_on _ _ _ (g.P.Plan.sound c.args.self.now.plan.now) _ _ c.loop-here.invariant
    (λ same. c.loop-here-test.true (same ∙ sym c.root-root.ensures))
    _ (inside g c) c.in_default.is (sym c.target.ensures ∙ c.in-Some-target.is)

use Rattle.std.proofs.Common.{Ok, Err, arith}
use Rattle.std.proofs.lemmas.Grind.{common_steps}
use Rattle.commands.proofs.Askings.{at_word}
use Rattle.commands.proofs.args.list.Goals as goal

pub returns-in_err-n : goal.returns-in_err-n
returns-in_err-n g c = λ f computes.
    let before = c.loop-word.invariant f computes in
    let here = at_word g.F.Fn c.args.read f c.args.args.now c.loop-word.word-index (Err c.in_err-n.field-0.0) computes c.in_err-n.ensures in grind (arith, common_steps)

pub loop-word-preserved : goal.loop-word-preserved
loop-word-preserved g c = λ f computes.
    let before = c.loop-word.invariant f computes in
    let here = at_word g.F.Fn c.args.read f c.args.args.now c.loop-word.word-index (Ok c.in_ok-n.n) computes c.in_ok-n.ensures in grind (arith, common_steps)

pub returns : goal.returns
returns g c = λ f computes. let before = c.loop-word.invariant f computes in grind (arith, common_steps)

use Rattle.std.proofs.Common.{sym, ap, ◌∙◌, arith}
use Rattle.std.proofs.lemmas.Grind.{common_steps}
use Rattle.std.specs.Option.{option_copied}
use Rattle.session.proofs.Desking.{renews, renews_not}
use Rattle.session.proofs.session.Session.renewal.Goals as goal

pub returns-in_err-renewed : goal.returns-in_err-renewed
returns-in_err-renewed c =
    let is_x = sym c.as_ref.ensures.value ∙ ap option_copied c.in_ok-running.ensures.ok_part in
    renews_not c.args.self.now _ _ _ c.in_ok-plan.ensures.0 c.in_ok-plan.ensures.1 is_x c.in-Filed.filed c.in-Filed.is c.args.ports.now _ c.in_err-renewed.ensures _ (grind (arith, common_steps))

pub returns : goal.returns
returns c =
    let is_x = sym c.as_ref.ensures.value ∙ ap option_copied c.in_ok-running.ensures.ok_part in
    renews c.args.self.now _ _ _ c.in_ok-plan.ensures.0 c.in_ok-plan.ensures.1 is_x c.in-Filed.filed c.in-Filed.is c.args.ports.now _ c.in_ok-renewed.ensures

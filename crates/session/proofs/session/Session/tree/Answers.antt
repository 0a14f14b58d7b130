use Rattle.std.proofs.Common.{sym, ap, ◌∙◌, inl, arith}
use Rattle.std.proofs.lemmas.Grind.{common_steps}
use Rattle.std.specs.Option.{option_copied}
use Rattle.session.proofs.Desking.{tree_told, no_tree_told}
use Rattle.session.proofs.session.Session.tree.Goals as goal

pub returns-in_err-tree : goal.returns-in_err-tree
returns-in_err-tree c =
    let is_x = sym c.as_ref.ensures.value ∙ ap option_copied c.in_ok-running.ensures.ok_part in
    no_tree_told c.args.self.now _ _ _ c.in_ok-plan.ensures.0 c.in_ok-plan.ensures.1 is_x _ c.in_err-tree.ensures _ (grind (arith, common_steps))

pub returns : goal.returns
returns c =
    let is_x = sym c.as_ref.ensures.value ∙ ap option_copied c.in_ok-running.ensures.ok_part in
    inl (tree_told c.args.self.now _ _ _ c.in_ok-plan.ensures.0 c.in_ok-plan.ensures.1 is_x _ c.in_ok-tree.ensures)

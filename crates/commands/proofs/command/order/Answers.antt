use Rattle.std.proofs.Common.{◌≡◌, ap, ◌∙◌, subst, arith}
use Rattle.std.proofs.lemmas.Bool.{ltb-true, ltb-false}
use Rattle.std.specs.Str.{bytes_eq}
use Rattle.commands.proofs.Askings.{order_by_word, order_by_words}
use Rattle.commands.proofs.command.order.Goals as goal
use Rattle.commands.proofs.command.order.Goals.{in_default-via-in-len1+else-eq, in_default-via-else-args-lt2}
use Rattle.commands.specs.Answers.{asked}
use Rattle.commands.specs.Args.{Reads}
use Rattle.commands.specs.Commands.{listed_of, order_of}
use Rattle.tokens.specs.Words.{bytes}

pub returns-in_default : goal.returns-in_default
returns-in_default c =
    let ws = c.args.args.now in
    let same : listed_of (bytes ws) ≡ order_of (bytes ws) = elim c.in_default.branch [
      | in_default-via-in-len1+else-eq w ↦ order_by_word ws _ (omega (arith, ltb-true, ltb-false)) (w.if-eq.ensures ∙ ap (bytes_eq _) w.as_slice.ensures)
      | in_default-via-else-args-lt2 w ↦ order_by_words ws (omega (arith, ltb-true, ltb-false))
    ] in
    subst (Reads asked c.listed.result) same c.listed.ensures

use Rattle.std.proofs.Common.{◌∙◌}
use Rattle.commands.proofs.Names.{no_keyword}
use Rattle.tokens.proofs.Readings.{refused}
use Rattle.commands.proofs.keyword.keyword_of.Goals as goal

pub returns-in_err-word : goal.returns-in_err-word
returns-in_err-word c = c.from_residual.ensures ∙ no_keyword _ (refused _ _ _ c.from_utf8.ensures.cases c.in_err-word.ensures.value).1.0 c.args.scope

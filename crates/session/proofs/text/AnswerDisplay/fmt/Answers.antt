use Rattle.std.proofs.Common.{arith}
use Rattle.std.proofs.lemmas.Grind.{common_steps}
use Rattle.std.specs.Prelude.{decimal}
use Rattle.session.specs.Texts.{port_word}
use Rattle.session.proofs.text.AnswerDisplay.fmt.Goals as goal

pub returns-in-Heights-clause-writes : goal.returns-in-Heights-clause-writes
returns-in-Heights-clause-writes g c = rw (c.in-Heights.is, ← c.as_slice.ensures.value) (c.list.ensures decimal (λ x d is. grind (arith, common_steps)))

pub returns-in-Open-clause-writes : goal.returns-in-Open-clause-writes
returns-in-Open-clause-writes g c = rw (c.in-Open.is, ← c.as_slice-in-Open.ensures.value) (c.list-in-Open.ensures decimal (λ x d is. grind (arith, common_steps)))

pub returns-in-Tree-clause-writes : goal.returns-in-Tree-clause-writes
returns-in-Tree-clause-writes g c = rw (c.in-Tree.is, ← c.as_slice-in-Tree.ensures.value) (c.list-in-Tree.ensures port_word (λ x d is. grind (arith, common_steps)))

pub returns-in-Cells-clause-writes : goal.returns-in-Cells-clause-writes
returns-in-Cells-clause-writes g c = rw (c.in-Cells.is, ← c.as_slice-in-Cells.ensures.value) (c.list-in-Cells.ensures decimal (λ x d is. grind (arith, common_steps)))

use Rattle.std.proofs.Common.{◌≡◌, ℕ, List, Result, drop, vec_items}
use Rattle.commands.proofs.Askings.{behind}
use Rattle.commands.proofs.args.list.Given as goal
use Rattle.commands.specs.Args.{Computes, list_of}
use Rattle.commands.specs.declared.command.Mistake.{Mistake}
use Rattle.tokens.specs.Words.{bytes}

abbrev pub invariant-loop-word : goal.invariant-loop-word
invariant-loop-word g l = (f : List ℕ → Result ℕ Mistake) → Computes g.F.Fn l.read f → behind (vec_items l.numbers) (list_of f (bytes (drop l.word-index l.args))) ≡ list_of f (bytes l.args)

-- The text of each mistake. Assumes nothing.
use Rattle.std.specs.Prelude.{ℕ, List, codes}
use Rattle.commands.specs.declared.command.Mistake.{Mistake}
use Rattle.commands.specs.declared.command.Mistake.TheVariants.{Unknown, Count, Root, Depth, Number}

-- what a reader of the sheet is told
abbrev pub told : Mistake → List ℕ
told Unknown = codes "no such command"
told Count = codes "wrong number of words"
told Root = codes "the word `root` is missing"
told Depth = codes "the word `depth` is missing"
told Number = codes "a number is wrong or too large"

use Rattle.std.proofs.Common.{◌≡◌, ◌≤◌, drop}
use Rattle.tokens.proofs.Readings.{reading_after}
use Rattle.tokens.proofs.number.decimal_reading.Given as goal
use Rattle.tokens.specs.Numbers.{reading_of}

abbrev pub invariant-loop-b : goal.invariant-loop-b
invariant-loop-b l = (l.value ≤ l.most) × (reading_after 10 l.value l.most (drop l.b-index l.word) ≡ reading_of 10 l.most l.word)

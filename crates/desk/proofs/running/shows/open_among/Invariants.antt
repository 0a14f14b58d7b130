use Rattle.std.proofs.Common.{◌≡◌, ◌++◌, drop, vec_items}
use Rattle.desk.specs.Drawings.{open_among}
use Rattle.desk.proofs.running.shows.open_among.Given as goal

abbrev pub invariant-loop-v : goal.invariant-loop-v
invariant-loop-v l = vec_items l.vertices ++ open_among l.v (drop l.v l.entries) ≡ open_among 0 l.entries

use Rattle.std.proofs.Common.{vec_items}
use Rattle.theory.specs.Calls.{open_count}
use Rattle.theory.specs.Draws.{shown, trail}
use Rattle.draws.proofs.Settling.{Settling}
use Rattle.draws.proofs.change.settle_way.Given as goal

abbrev pub invariant-loop-sight : goal.invariant-loop-sight
invariant-loop-sight g l =
    let p = g.P.Plan.layout l.plan in
    let a = g.S.ArrowSource.cells l.arrows in
    let start = vec_items l.initial.entries.list in
    Settling (shown p a start) start (trail p a start l.start) l.here l.count (vec_items l.entries.list)

abbrev pub decreases-loop-sight : goal.decreases-loop-sight
decreases-loop-sight g l = open_count (vec_items l.entries.list)

use Rattle.std.proofs.Common.{◌-◌, length, vec_items}
use Rattle.draws.proofs.Raising.{Ready, Raises}
use Rattle.draws.proofs.change.raise_cycle.Given as goal

abbrev pub invariant-loop-next : goal.invariant-loop-next
invariant-loop-next g l =
    let p = g.P.Plan.layout l.plan in
    let a = g.S.ArrowSource.cells l.arrows in
    let start = vec_items l.initial.entries.list in
    Ready p a start l.here l.count (vec_items l.entries.list) × Raises p a start l.low l.here l.count (vec_items l.entries.list)

abbrev pub decreases-loop-next : goal.decreases-loop-next
decreases-loop-next g l = length (vec_items l.initial.entries.list) - l.count

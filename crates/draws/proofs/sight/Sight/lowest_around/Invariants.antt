use Rattle.std.proofs.Common.{◌≡◌, ℕ, true, List, ◌∷◌, vec_items}
use Rattle.theory.specs.Cycles.{among, Cycle}
use Rattle.theory.specs.Draws.{shown}
use Rattle.draws.proofs.Lowering.{Lowering}
use Rattle.draws.proofs.sight.Sight.lowest_around.Given as goal

abbrev pub invariant-loop-gone : goal.invariant-loop-gone
invariant-loop-gone g l =
    let p = g.P.Plan.layout l.self.plan.now in
    let arrow = shown p (g.S.ArrowSource.cells l.self.arrows.now) (vec_items l.self.entries.now.list) in
    (m : ℕ) (rest : List ℕ) (cyc : Cycle arrow (m ∷ rest)) → among l.start (m ∷ rest) ≡ true → Lowering arrow p.size l.start m rest cyc l.here l.low l._gone

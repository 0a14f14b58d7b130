use Rattle.std.proofs.Common.{◌≡◌, ℕ, ◌≤◌, true, List, [], ◌∷◌, vec_items, sym, subst}
use Rattle.std.proofs.lemmas.Bool.{and_parts, eqb-true}
use Rattle.model.specs.declared.draw.Entry.{Entry}
use Rattle.theory.specs.Cycles.{among, Cycle}
use Rattle.theory.specs.Draws.{height_of, shown}
use Rattle.draws.proofs.Tried.{raised_low}
use Rattle.draws.proofs.draw.Draw.pop.Goals as goal

pub invariant_of-self : goal.invariant_of-self
invariant_of-self g c = record { low = low c.requires.cycle }
  where
    low : (x : List ℕ) × Cycle (shown (g.P.Plan.layout c.args.plan.now) (g.S.ArrowSource.cells c.args.arrows.now) (vec_items c.args.self.now.entries.list)) x × (among c.args.on x ≡ true)
        → (v : ℕ) → height_of (vec_items c.raise_cycle-length.new.entries.list) v ≤ 4096
    low ([], cyc, on) v = absurd cyc
    low (m ∷ rest, cyc, on) v =
        let p = g.P.Plan.layout c.args.plan.now in
        let a = g.S.ArrowSource.cells c.args.arrows.now in
        let es = vec_items c.args.self.now.entries.list in
        let cyc2 : Cycle (shown p a es) (c.lowest_around-vertex.result ∷ rest) = subst (λ (x : ℕ). Cycle (shown p a es) (x ∷ rest)) (sym (c.lowest_around-vertex.ensures m rest cyc on)) cyc in
        subst (λ (l : List Entry). height_of l v ≤ 4096) (sym (c.raise_cycle-length.ensures rest cyc2).0)
        (raised_low p a (g.P.Plan.sound c.args.plan.now) es (eqb-true _ _ (and_parts _ _ c.requires.of_plan).0) (c.lowest_around-vertex.result ∷ rest) cyc2 c.args.self.now.low v)

use Rattle.std.proofs.Common.{ℕ, ◌≤◌, List, sym, subst}
use Rattle.model.specs.declared.draw.Entry.{Entry}
use Rattle.theory.specs.Draws.{height_of}
use Rattle.theory.proofs.Entries.{settled_heights}
use Rattle.draws.proofs.draw.Draw.settle.Goals as goal

-- settling moves no height
pub invariant_of-self : goal.invariant_of-self
invariant_of-self g c = record {
  low = λ v. subst (λ (es : List Entry). height_of es v ≤ 4096) (sym c.settle_way.ensures.after) (subst (λ (k : ℕ). k ≤ 4096) (sym (settled_heights _ _ v)) (c.args.self.now.low v));
}

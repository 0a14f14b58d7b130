use Rattle.std.proofs.Common.{◌≤◌, List, length, sym, ap, subst, arith}
use Rattle.std.proofs.lemmas.List.FromFn.{length-map-range_with_len}
use Rattle.model.specs.declared.draw.Entry.{Entry}
use Rattle.theory.proofs.Entries.{opened_heights}
use Rattle.theory.proofs.OneEnd.{one_end_by_calls}
use Rattle.theory.specs.Draws.{height_of, fresh_entry}
use Rattle.draws.proofs.draw.Draw.open.Goals as goal

pub returns-in_err-list-clause-theorem : goal.returns-in_err-list-clause-theorem
returns-in_err-list-clause-theorem g c = one_end_by_calls

pub invariant_of-result : goal.invariant_of-result
invariant_of-result g c =
    let p = g.P.Plan.layout c.args.plan.now in
    record { few = omega (arith, c.in_ok-list.list.ok.0, ap length c.in_ok-list.ensures, length-map-range_with_len (fresh_entry p) 0 p.size, (g.P.Plan.sound c.args.plan.now).size_most) }

-- every height of a fresh draw is 0
pub invariant_of-result-2 : goal.invariant_of-result-2
invariant_of-result-2 g c = record {
  low = λ v. subst (λ (es : List Entry). height_of es v ≤ 4096) (sym c.in_ok-list.ensures) (omega (arith, opened_heights (g.P.Plan.layout c.args.plan.now) v));
}

pub returns-clause-theorem : goal.returns-clause-theorem
returns-clause-theorem g c = one_end_by_calls

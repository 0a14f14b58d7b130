use Rattle.std.proofs.Common.{◌≡◌, ℕ, List, length, Ok, Err, vec_items, sym, refl, ap, ◌∙◌, arith}
use Rattle.std.proofs.lemmas.Grind.{common_steps}
use Rattle.std.proofs.lemmas.List.{with_items_is}
use Rattle.std.specs.Vec.{with_items}
use Rattle.theory.specs.Reseats.{reseats_to}
use Rattle.plans.specs.Anys.{any_layout}
use Rattle.desk.specs.Drawings.{drawing_of}
use Rattle.session.proofs.session.drawing.renewed.Goals as goal

pub returns-in_err-reseat : goal.returns-in_err-reseat
returns-in_err-reseat c =
    let lent : c.as_mut_slice.result.now ≡ vec_items c.args.filed.now.ports = grind (arith, common_steps) in
    let fault : (reseats_to (any_layout c.args.plan.now) (drawing_of c.args.running.now).held.draw c.args.filed.now.listing.depth (vec_items c.args.filed.now.ports) c.args.ports.now).0 ≡ Err c.in_err-reseat.field-0.0 =
    rw (← lent) (sym (ap (λ x. x.0) c.in_err-reseat.ensures)) in
    grind (arith, common_steps)

pub returns : goal.returns
returns c =
    let lent : c.as_mut_slice.result.now ≡ vec_items c.args.filed.now.ports = grind (arith, common_steps) in
    let back : vec_items (with_items c.in_ok-cells.cells c.reseat.new.cells) ≡ c.reseat.new.cells =
    with_items_is c.in_ok-cells.cells _ (c.reseat.auto.cells ∙ ap length c.as_mut_slice.ensures.value ∙ sym c.in_ok-cells.cells.ok.0) in
    record {
      cells = rw (← lent) (sym c.in_ok-reseat.ensures ∙ ap (λ (l : List ℕ). (Ok tt, l)) (sym back));
      same_listing = refl;
      shown = grind (arith, common_steps);
      fresh = c.in_ok-running.ensures;
    }

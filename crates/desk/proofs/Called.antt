-- What a run of a draw leaves, as a run of a drawing leaves it. Assumes nothing.
use Rattle.std.proofs.Common.{◌≡◌, ℕ, List, length, vec_items, Result, sym, ap, ◌∙◌}
use Rattle.std.proofs.lemmas.List.{with_items_is}
use Rattle.std.specs.Vec.{with_items}
use Rattle.model.specs.Arrows.{Cells}
use Rattle.model.specs.Layouts.{Layout}
use Rattle.model.specs.declared.draw.Pop.{Pop}
use Rattle.model.specs.declared.draw.Stop.{Stop}
use Rattle.model.specs.declared.fault.DrawFault.{DrawFault}
use Rattle.orders.specs.Anys.{any_pick, any_told}
use Rattle.orders.specs.declared.any.AnyOrder.{AnyOrder}
use Rattle.theory.specs.Calls.{After, runs, told_all, strategy_of}
use Rattle.draws.specs.States.{held_of}
use Rattle.draws.specs.declared.draw.Draw.{Draw}
use Rattle.desk.specs.Drawings.{Drawing, ordering_of, ordering_tells, plays, called, ran, drawing_of}
use Rattle.desk.specs.declared.running.Running.{Running}
use Rattle.desk.proofs.Orderings.{told_as, plays_as}

-- a running draw r, whose list was lent to a run of the draw, and what is then d, the slice and the order
pub ran_as : (p : Layout) (a : Cells) (r : Running) (d : Draw) (lent back : List Pop) → lent ≡ vec_items r.list → length back ≡ length lent → (budget : ℕ) (o : AnyOrder) (answer : Result (ℕ × Stop) DrawFault)
    → let x = runs p a (strategy_of any_pick any_told r.order) budget (held_of r.draw lent) in held_of d back ≡ x.held → answer ≡ x.answer → o ≡ told_all any_told r.order x.told
    → ◌≡◌ {A = Result (ℕ × Stop) DrawFault × Drawing} (answer, drawing_of (record { draw = d; list = with_items r.list back; order = o })) (ran p a budget (drawing_of r))
ran_as p a r d lent back is_lent long budget o answer held is order =
    let x = runs p a (strategy_of any_pick any_told r.order) budget (held_of r.draw lent) in
    let came_back : vec_items (with_items r.list back) ≡ back = with_items_is r.list back (long ∙ ap length is_lent ∙ sym r.list.ok.0) in
    let left : held_of d (vec_items (with_items r.list back)) ≡ x.held = ap (λ (ps : List Pop). held_of d ps) came_back ∙ held in
    let told : ordering_of o ≡ told_all ordering_tells (ordering_of r.order) x.told = ap (λ (z : AnyOrder). ordering_of z) order ∙ told_as r.order x.told in
    let same : x ≡ runs p a (plays (ordering_of r.order)) budget (held_of r.draw (vec_items r.list)) = λ i. runs p a (plays_as r.order i) budget (held_of r.draw (is_lent i)) in
    let after : ◌≡◌ {A = Result (ℕ × Stop) DrawFault × Drawing} (answer, drawing_of (record { draw = d; list = with_items r.list back; order = o })) (called (ordering_of r.order) x) = λ i. (is i, record { held = left i; order = told i }) in
    after ∙ ap (λ (z : After (Result (ℕ × Stop) DrawFault)). called (ordering_of r.order) z) same

-- The orders of the code do what their orderings do. Assumes nothing.
use Rattle.std.proofs.Common.{◌≡◌, ℕ, Bool, List, [], ◌∷◌, vec_items, refl, ap, ◌∙◌}
use mathlib.Core.Path.{fun_ext}
use Rattle.model.specs.Walks.{next_place}
use Rattle.orders.specs.Anys.{any_pick, any_told}
use Rattle.orders.specs.declared.any.AnyOrder.{AnyOrder}
use Rattle.orders.specs.declared.any.AnyOrder.TheVariants.{Walk, Listed}
use Rattle.theory.specs.Calls.{told_all, strategy_of}
use Rattle.desk.specs.Drawings.{Ordering, listed, ordering_picks, ordering_tells, ordering_of, plays}

picks_as : (o : AnyOrder) (marks : List Bool) → any_pick o marks ≡ ordering_picks (ordering_of o) marks
picks_as (Walk w) marks = refl
picks_as (Listed o) marks = refl

once_told_as : (o : AnyOrder) (v : ℕ) → ordering_of (any_told o v) ≡ ordering_tells (ordering_of o) v
once_told_as (Walk w) v = refl
once_told_as (Listed o) v = ap (λ (n : ℕ). listed (vec_items o.vertices) (next_place n o.place)) o.vertices.ok.0

pub told_as : (o : AnyOrder) (vs : List ℕ) → ordering_of (told_all any_told o vs) ≡ told_all ordering_tells (ordering_of o) vs
told_as o [] = refl
told_as o (v ∷ vs) = told_as (any_told o v) vs ∙ ap (λ (x : Ordering). told_all ordering_tells x vs) (once_told_as o v)

pub plays_as : (o : AnyOrder) → strategy_of any_pick any_told o ≡ plays (ordering_of o)
plays_as o = fun_ext (λ told. fun_ext (λ marks. picks_as (told_all any_told o told) marks ∙ ap (λ (x : Ordering). ordering_picks x marks) (told_as o told)))

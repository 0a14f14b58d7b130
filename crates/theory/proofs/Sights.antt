-- The arrows of a sound plan stay within it, whatever the cells are. Assumes nothing.
use Rattle.std.proofs.Common.{◌≡◌, ℕ, ◌<◌, Bool, true, false, cond, ◌&&◌, ltb, Some, None, Option, refl, ap, ◌∙◌, subst, ⊎_elim, arith}
use Rattle.std.proofs.lemmas.Bool.{ltb-true, lt-ltb, and_parts, and_from, cases_lt}
use Rattle.model.specs.Arrows.{Cells, counts, visible, sight}
use Rattle.model.specs.Layouts.{Layout, Sound, is_root}
use Rattle.model.specs.Picks.{then}
use Rattle.theory.proofs.Ends.{Within}
use Rattle.model.proofs.Trees.{target_below}
use Rattle.model.proofs.Ways.{none_some, same_some}

-- what there is goes on from something
pub then_some : {A B : Type 0} (o : Option A) (f : A → Option B) (y : B) → then o f ≡ Some y → (x : A) × (o ≡ Some x) × (f x ≡ Some y)
then_some None f y is = absurd (none_some None y refl is)
then_some (Some x) f y is = (x, refl, is)

counts_some : (d k port q : ℕ) → counts d k port ≡ Some q → (k < 4096) × (port < d) × (port ≡ q)
counts_some d k port q is = by (ltb k 4096 && ltb port d) refl is
  where
    by : (b : Bool) → (ltb k 4096 && ltb port d) ≡ b → cond b (Some port) None ≡ Some q → (k < 4096) × (port < d) × (port ≡ q)
    by true both some = let (low, small) = and_parts (ltb k 4096) (ltb port d) both in (ltb-true k 4096 low, ltb-true port d small, same_some (Some port) port q refl some)
    by false neither none = absurd (none_some None q refl none)

-- a visible port stands at a vertex other than the root, at a height below 4,096, and is below the degree
pub record SeenPort (p : Layout) (a : Cells) (v k q : ℕ) : Type 0 where
  pub not_root : is_root p v ≡ false
  pub low : k < 4096
  pub small : q < p.degree v
  pub cell : a v k (p.degree v) ≡ Some q

pub visible_some : (p : Layout) (a : Cells) (v k q : ℕ) → visible p a v k ≡ Some q → SeenPort p a v k q
visible_some p a v k q is = by (is_root p v) refl is
  where
    by : (b : Bool) → is_root p v ≡ b → cond b None (then (a v k (p.degree v)) (counts (p.degree v) k)) ≡ Some q → SeenPort p a v k q
    by true root none = absurd (none_some None q refl none)
    by false other some =
        let (port, cell, counted) = then_some (a v k (p.degree v)) (counts (p.degree v) k) q some in
        let (low, small, same) = counts_some (p.degree v) k port q counted in
        record { not_root = other; low = low; small = subst (λ x. x < p.degree v) same small; cell = cell ∙ ap Some same }

-- a cell with a port below the degree, at a height below 4,096, is visible at a vertex other than the root
pub visible_cell : (p : Layout) (a : Cells) (v k q : ℕ) → is_root p v ≡ false → k < 4096 → q < p.degree v → a v k (p.degree v) ≡ Some q → visible p a v k ≡ Some q
visible_cell p a v k q other low small cell =
    ap (λ b. cond b None (then (a v k (p.degree v)) (counts (p.degree v) k))) other
    ∙ ap (λ o. then o (counts (p.degree v) k)) cell
    ∙ ap (λ b. cond b (Some q) None) (and_from _ _ (lt-ltb k 4096 low) (lt-ltb q (p.degree v) small))

vertex_below : (p : Layout) → Sound p → (v q : ℕ) → q < p.degree v → v < p.size
vertex_below p sound v q small = ⊎_elim (λ lt. lt) (λ ge. absurd (let none : p.degree v ≡ 0 = sound.degree_none v ge in omega arith)) (cases_lt v p.size)

pub sight_within : (p : Layout) (a : Cells) → Sound p → Within (sight p a) p.size 4096
sight_within p a sound = record {
  from = λ v k w is. let (q, port, target) = then_some (visible p a v k) (p.target v) w is in vertex_below p sound v q (visible_some p a v k q port).small;
  under = λ v k w is. let (q, port, target) = then_some (visible p a v k) (p.target v) w is in (visible_some p a v k q port).low;
  to = λ v k w is. let (q, port, target) = then_some (visible p a v k) (p.target v) w is in target_below p sound v q w target;
}

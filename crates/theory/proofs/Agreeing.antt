-- Arrows that agree below the heights that a popping sequence reaches have that sequence in common; and where a tree stands no cycle is left. Assumes nothing.
use Rattle.std.proofs.Common.{◌≡◌, ℕ, suc, ◌<◌, ◌≤◌, List, [], ◌∷◌, arith}
use Rattle.model.specs.Arrows.{Arrows}
use Rattle.theory.specs.Cycles.{Heights, seen, Cycle, Coloured, raise, Pops}
use Rattle.model.specs.Layouts.{Layout, Sound}
use Rattle.model.specs.Trees.{follow, IsTree}
use Rattle.theory.proofs.Cycles.{cycle_same, raise_on, raise_up}
use Rattle.theory.proofs.Ends.{Stays, cycle_below}
use Rattle.model.proofs.Trees.{root_ends, follow_below, follow_from}
use Rattle.model.proofs.Ways.{no_loop}

-- pops only raise
pops_up : (arrows : Arrows) (h : Heights) (ks : List Coloured) (h2 : Heights) → Pops arrows h ks h2 → (v : ℕ) → h v ≤ h2 v
pops_up arrows h [] h2 same v = let e : h v ≡ h2 v = same v in omega arith
pops_up arrows h (k ∷ ks) h2 (c, cyc, is, rest) v =
    let up : h v ≤ raise c h v = raise_up c h v in
    let more : raise c h v ≤ h2 v = pops_up arrows (raise c h) ks h2 rest v in
    omega arith

-- a popping sequence looks at no arrow at or above the heights that it comes to
pub pops_agree : (arrows others : Arrows) (h : Heights) (ks : List Coloured) (h2 : Heights) → ((v k : ℕ) → k < h2 v → others v k ≡ arrows v k) → Pops arrows h ks h2 → Pops others h ks h2
pops_agree arrows others h [] h2 agree same = same
pops_agree arrows others h (k ∷ ks) h2 agree (c, cyc, is, rest) = (
  c,
  cycle_same (seen arrows h) (seen others h) c (λ y on. agree y (h y) (let e : raise c h y ≡ suc (h y) = raise_on c h y on in let up : raise c h y ≤ h2 y = pops_up arrows (raise c h) ks h2 rest y in omega arith)) cyc,
  is,
  pops_agree arrows others (raise c h) ks h2 agree rest,
)

-- following a tree there is no cycle
pub tree_no_cycle : (p : Layout) → Sound p → (ports : List ℕ) → IsTree p ports → (c : List ℕ) → Cycle (follow p ports) c → ⊥
tree_no_cycle p sound ports tree [] cyc = cyc
tree_no_cycle p sound ports tree (v ∷ vs) (way, low) =
    let stays : Stays (follow p ports) p.size = record { from = follow_from p sound ports; to = follow_below p sound ports } in
    let within : v < p.size = (cycle_below (follow p ports) p.size stays (v ∷ vs) (way, low)).0 in
    no_loop (follow p ports) p.root (root_ends p sound ports) v vs way (tree.all_reach v within)

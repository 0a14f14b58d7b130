-- The visible arrows of a draw of the plan stay among its vertices. Assumes nothing.
use Rattle.std.proofs.Common.{◌≡◌, ℕ, ◌<◌, ◌≤◌, true, List, length, get_or, Some, ap}
use Rattle.model.specs.Arrows.{Cells, sight}
use Rattle.model.specs.Layouts.{Layout, Sound}
use Rattle.model.specs.declared.draw.Entry.{Entry}
use Rattle.model.proofs.Pigeons.{pigeons}
use Rattle.theory.specs.Cycles.{among, Cycle}
use Rattle.theory.specs.Draws.{no_entry, height_of, is_settled, shown}
use Rattle.theory.specs.Laws.{open_arrows}
use Rattle.theory.proofs.Cycles.{among_all, cycle_arrow, cycle_distinct}
use Rattle.theory.proofs.Drawing.{shown_stays, inside}
use Rattle.theory.proofs.Ends.{cycle_below}
use Rattle.theory.proofs.Sights.{sight_within}
use Rattle.theory.proofs.TryLaw.{arrow_open}

module _ (p : Layout) (a : Cells) (sound : Sound p) (es : List Entry) where
  pub shown_to : (u w : ℕ) → shown p a es u ≡ Some w → w < p.size
  shown_to u w is = (shown_stays p a sound es).to u w is

  pub open_to : (u w : ℕ) → open_arrows p a es u ≡ Some w → w < p.size
  open_to u w is = shown_to u w (arrow_open (shown p a es) (is_settled es) u w is).1

  module _ (c : List ℕ) (cyc : Cycle (shown p a es) c) where
    pub cycle_few : length c ≤ p.size
    cycle_few = pigeons p.size c (cycle_below (shown p a es) p.size (shown_stays p a sound es) c cyc) (cycle_distinct (shown p a es) c cyc)

    -- a vertex of a cycle has an entry, and can be raised
    pub cycle_within : length es ≡ p.size → (v : ℕ) → among v c ≡ true → v < length es
    cycle_within sized v on = among_all (λ x. x < length es) v c (inside p a sound es sized c cyc) on

    pub cycle_under : (v : ℕ) → among v c ≡ true → height_of es v < 4096
    cycle_under v on = let (w, arrow) = cycle_arrow (shown p a es) c v cyc on in (sight_within p a sound).under v (height_of es v) w arrow

-- a vertex whose entry is the same shows the same
pub same_shown : (p : Layout) (a : Cells) (es fs : List Entry) (v : ℕ) → get_or es v no_entry ≡ get_or fs v no_entry → shown p a es v ≡ shown p a fs v
same_shown p a es fs v is = ap (λ e. sight p a v e.height) is

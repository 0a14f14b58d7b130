-- Reseating one vertex at a time. Assumes nothing.
use Rattle.std.specs.Prelude.{◌≡◌, ℕ, ◌<◌, ◌≤◌, false, cond, List, length, slice_index, slice_set}
use Rattle.model.specs.Layouts.{Layout, is_root}
use Rattle.theory.specs.Cycles.{Heights}
use Rattle.theory.specs.Draws.{State, height_of}
use Rattle.theory.specs.Fillings.{cell_count, cell_place}

-- unless v is the root, the cell at its height becomes its port in the tree u
abbrev pub seat : Layout → ℕ → Heights → List ℕ → ℕ → List ℕ → List ℕ
seat p depth h u v F = cond (is_root p v) F (slice_set F (cell_place p depth v (h v)) (slice_index u v))

-- every vertex has its entry and its new port, and every one but the root its cell at its height
pub record HasSeats (p : Layout) (d : State) (depth : ℕ) (cells ports : List ℕ) : Type 0 where
  pub entered : length d.entries ≡ p.size
  pub shallow : (v : ℕ) → v < p.size → is_root p v ≡ false → height_of d.entries v < depth
  pub room : cell_count p depth ≤ length cells
  pub enough : p.size ≤ length ports

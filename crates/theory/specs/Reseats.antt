-- Reseating a filling to another tree: the cells that are visible at the heights become the tree's ports. Assumes nothing.
use Rattle.std.specs.Prelude.{◌≡◌, ℕ, ◌<◌, Bool, true, false, not, List, [], ◌∷◌, ◌++◌, length, take, drop, Some, Ok, Err, Option, Result, nat_lt, slice_index, slice_set}
use Rattle.std.specs.Option.{option_or}
use Rattle.model.specs.Arrows.{Cells, visible}
use Rattle.model.specs.Depths.{cells_to, cells_fault}
use Rattle.theory.specs.Calls.{first_fault}
use Rattle.theory.specs.Cycles.{Heights}
use Rattle.theory.specs.Draws.{State, is_of, height_of}
use Rattle.theory.specs.Endings.{end_fault, written}
use Rattle.model.specs.Filed.{filed_cells}
use Rattle.theory.specs.Fillings.{drained, cell_count, cell_place}
use Rattle.model.specs.Layouts.{Layout, is_root}
use Rattle.model.specs.Trees.{tree_check}
use Rattle.model.specs.declared.fault.DrawFault.{DrawFault}
use Rattle.model.specs.declared.fault.DrawFault.TheVariants as fault
use Rattle.model.specs.declared.tree.TreeCheck.{TreeCheck}
use Rattle.model.specs.declared.tree.TreeCheck.TheVariants.{Tree, Lost}

-- the arrows of a filed list on a plan
abbrev pub cells_of : Layout → ℕ → List ℕ → Cells
cells_of p depth F = filed_cells p.size p.root depth F

-- for each of the vertices, the cell at its height becomes its port in the tree u
abbrev pub seats : Layout → ℕ → Heights → List ℕ → List ℕ → List ℕ → List ℕ
seats p depth h u [] F = F
seats p depth h u (v ∷ vs) F = seats p depth h u vs (slice_set F (cell_place p depth v (h v)) (slice_index u v))

-- the same for every vertex but the root
abbrev pub reseated : Layout → ℕ → Heights → List ℕ → List ℕ → List ℕ
reseated p depth h u F = seats p depth h u (drained p) F

-- at the heights every vertex but the root shows its port in the tree t
abbrev pub Shows : Layout → Cells → Heights → List ℕ → Type 0
Shows p a h t = (v : ℕ) → v < p.size → is_root p v ≡ false → visible p a v (h v) ≡ Some (slice_index t v)

-- ---- the call

-- whether the check of a tree says yes
abbrev pub says_yes : Result TreeCheck DrawFault → Bool
says_yes (Ok Tree) = true
says_yes (Ok (Lost v)) = false
says_yes (Err e) = false

-- why there are no cells to reseat: the depth is outside its limits, or the cells or the ports are too few
abbrev pub room_fault : ℕ → ℕ → ℕ → ℕ → Option DrawFault
room_fault n depth cells ports = option_or (cells_fault n depth) (first_fault ((nat_lt cells (cells_to n depth), fault.Short) ∷ (nat_lt ports n, fault.Short) ∷ []))

-- the first reason why a draw does not reseat cells to ports: there is no room; the draw is another plan's, or did not end in a tree over these very cells; the ports are no tree
abbrev pub reseat_fault : Layout → State → ℕ → List ℕ → List ℕ → Option DrawFault
reseat_fault p d depth cells ports =
    option_or (room_fault p.size depth (length cells) (length ports))
    (option_or (first_fault ((not (is_of p d), fault.OtherPlan) ∷ []))
    (option_or (end_fault p (cells_of p depth (take (cell_count p depth) cells)) d)
    (first_fault ((not (says_yes (tree_check p ports)), fault.NoTree) ∷ []))))

-- reseat: the cells that the depth asks for are reseated at the draw's heights, and those behind them stay; a refusal changes nothing
abbrev pub reseats_to : Layout → State → ℕ → List ℕ → List ℕ → Result (Unit {0}) DrawFault × List ℕ
reseats_to p d depth cells ports =
    written (reseat_fault p d depth cells ports) cells
    (reseated p depth (height_of d.entries) ports (take (cell_count p depth) cells) ++ drop (cell_count p depth) cells)

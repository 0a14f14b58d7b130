-- Fillings: lists of ports that give every vertex but the root a port of its own at each index below a depth. Assumes nothing.
use Rattle.std.specs.Prelude.{◌≡◌, ℕ, ◌+◌, ◌*◌, ◌/◌, ◌<◌, not, List, [], ◌∷◌, map, length, replicate, filter, slice_index}
use Rattle.std.specs.List.{range_with_len, AllZip, flat_map}
use Rattle.model.specs.Depths.{cells_to}
use Rattle.model.specs.Filed.{rank}
use Rattle.model.specs.Layouts.{Layout, is_root}

-- all vertices but the root, rising
abbrev pub drained : Layout → List ℕ
drained p = filter (λ v. not (is_root p v)) (range_with_len 0 p.size)

-- the number of cells down to a depth
abbrev pub cell_count : Layout → ℕ → ℕ
cell_count p depth = cells_to p.size depth

-- where the cell of v and index k stands among them
abbrev pub cell_place : Layout → ℕ → ℕ → ℕ → ℕ
cell_place p depth v k = rank p.root v * depth + k

-- the vertex of the cell that stands at i
abbrev pub vertex_at : Layout → ℕ → ℕ → ℕ
vertex_at p depth i = slice_index (drained p) (i / depth)

-- the degree of the vertex of each cell, in order
abbrev pub bounds : Layout → ℕ → List ℕ
bounds p depth = flat_map (λ v. replicate depth (p.degree v)) (drained p)

-- as many ports as bounds, each below its bound
abbrev pub WithinBounds : List ℕ → List ℕ → Type 0
WithinBounds ports bs = AllZip (λ port b. port < b) ports bs

-- the ports fill the cells down to a depth
abbrev pub Filling : Layout → ℕ → List ℕ → Type 0
Filling p depth ports = WithinBounds ports (bounds p depth)

-- the same by places: one port for each cell, and each is a port of the vertex of its cell
abbrev pub Fills : Layout → ℕ → List ℕ → Type 0
Fills p depth ports = (length ports ≡ cell_count p depth) × ((i : ℕ) → i < cell_count p depth → slice_index ports i < p.degree (vertex_at p depth i))

-- all lists of ports within the bounds: every port below the first bound before every such list for the rest
abbrev pub lists_within : List ℕ → List (List ℕ)
lists_within [] = [] ∷ []
lists_within (b ∷ bs) = flat_map (λ port. map (λ ports. port ∷ ports) (lists_within bs)) (range_with_len 0 b)

-- all fillings down to a depth
abbrev pub fillings : Layout → ℕ → List (List ℕ)
fillings p depth = lists_within (bounds p depth)

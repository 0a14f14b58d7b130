-- What a plan is: vertices below a size, one of them the root, and at each vertex ports that lead to vertices. Assumes nothing.
use Rattle.std.specs.Prelude.{◌≡◌, ℕ, ◌<◌, ◌≤◌, Bool, List, length, Some, None, Option, ◌==◌}
use Rattle.std.specs.List.{slice_get}

-- a plan by its answers; degree v is the number of ports of v, and target v i where port i of v leads
pub record Layout : Type 0 where
  pub size : ℕ
  pub root : ℕ
  pub degree : ℕ → ℕ
  pub target : ℕ → ℕ → Option ℕ

-- whether v is the root
abbrev pub is_root : Layout → ℕ → Bool
is_root p v = v == p.root

-- what every plan keeps: 1 to 1,024 vertices, the root among them, at most 1,023 ports at a vertex and none at a vertex that it lacks,
-- and a target among the vertices exactly at the ports that there are
pub record Sound (p : Layout) : Type 0 where
  pub size_least : 1 ≤ p.size
  pub size_most : p.size ≤ 1024
  pub root_below : p.root < p.size
  pub degree_most : (v : ℕ) → p.degree v ≤ 1023
  pub degree_none : (v : ℕ) → p.size ≤ v → p.degree v ≡ 0
  pub target_some : (v i : ℕ) → i < p.degree v → (w : ℕ) × (p.target v i ≡ Some w) × (w < p.size)
  pub target_none : (v i : ℕ) → p.degree v ≤ i → p.target v i ≡ None

-- the plan whose ports at v lead, in their order, to the vertices that `ports v` lists
abbrev pub from_ports : ℕ → ℕ → (ℕ → List ℕ) → Layout
from_ports n r ports = record { size = n; root = r; degree = λ v. length (ports v); target = λ v i. slice_get (ports v) i }

-- Ways along arrows: an arrow function gives for a vertex the vertex that its arrow leads to, or none. Assumes nothing.
use Rattle.std.specs.Prelude.{◌≡◌, ℕ, ◌⊎◌, List, [], ◌∷◌, Some, Option}

-- the arrows f lead from u through the vertices xs to w, by at least one arrow
abbrev pub Way : (ℕ → Option ℕ) → ℕ → List ℕ → ℕ → Type 0
Way f u [] w = f u ≡ Some w
Way f u (x ∷ xs) w = (f u ≡ Some x) × Way f x xs w

-- u is w, or some way along the arrows f leads from u to w
abbrev pub Leads : (ℕ → Option ℕ) → ℕ → ℕ → Type 0
Leads f u w = (u ≡ w) ⊎ ((xs : List ℕ) × Way f u xs w)

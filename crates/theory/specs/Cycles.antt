-- Cycles of arrows, and popping them. An arrow has a vertex and a height: `arrows v k` is where the arrow of v at height k leads. Assumes nothing.
use Rattle.std.specs.Prelude.{◌≡◌, ℕ, suc, ◌<◌, Bool, false, cond, ◌||◌, List, [], ◌∷◌, map, Option, ◌==◌}
use Rattle.std.specs.List.{AllByRecursion}
use Rattle.model.specs.Arrows.{Arrows}
use Rattle.model.specs.Ways.{Way}

-- the height of each vertex
abbrev pub Heights : Type 0
Heights = ℕ → ℕ

abbrev pub flat : Heights
flat v = 0

-- the arrows that are visible at the heights
abbrev pub seen : Arrows → Heights → ℕ → Option ℕ
seen arrows h v = arrows v (h v)

-- whether v is among xs
abbrev pub among : ℕ → List ℕ → Bool
among v [] = false
among v (x ∷ xs) = v == x || among v xs

-- a cycle of the arrows f: from its lowest vertex along the arrows back to it
abbrev pub Cycle : (ℕ → Option ℕ) → List ℕ → Type 0
Cycle f [] = ⊥
Cycle f (v ∷ vs) = Way f v vs v × AllByRecursion (λ x. v < x) vs

-- a coloured cycle: the vertices of a cycle, each with its height
abbrev pub Coloured : Type 0
Coloured = List (ℕ × ℕ)

abbrev pub coloured : Heights → List ℕ → Coloured
coloured h c = map (λ v. (v, h v)) c

-- popping the cycle c: each of its vertices gains 1 height
abbrev pub raise : List ℕ → Heights → Heights
raise c h v = cond (among v c) (suc (h v)) (h v)

-- popping the coloured cycles in their turn leads from the heights h to h2
abbrev pub Pops : Arrows → Heights → List Coloured → Heights → Type 0
Pops arrows h [] h2 = (v : ℕ) → h v ≡ h2 v
Pops arrows h (k ∷ ks) h2 = (c : List ℕ) × Cycle (seen arrows h) c × (k ≡ coloured h c) × Pops arrows (raise c h) ks h2

-- no cycle is left
abbrev pub Final : Arrows → Heights → Type 0
Final arrows h = (c : List ℕ) → Cycle (seen arrows h) c → ⊥

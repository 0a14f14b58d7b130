-- The end of arrows: what stands when the cycle with the lowest vertex was popped again and again, until none was left. Assumes nothing.
use Rattle.std.specs.Prelude.{◌≡◌, ℕ, zero, suc, ◌≤◌, true, cond, List, [], ◌∷◌, Some, None, Option, ◌==◌, nat_lt}
use Rattle.std.specs.Option.{option_map}
use Rattle.model.specs.Arrows.{Arrows}
use Rattle.theory.specs.Cycles.{Heights, seen, among, Cycle, Coloured, coloured, raise}
use Rattle.model.specs.Picks.{then, first}

-- the way from u back to v over vertices above v, by at most k arrows: its vertices before v
abbrev pub closes : (ℕ → Option ℕ) → ℕ → ℕ → ℕ → Option (List ℕ)
closes f v zero u = None
closes f v (suc k) u = then (f u) (λ w. cond (w == v) (Some (u ∷ [])) (cond (nat_lt v w) (option_map (λ xs. u ∷ xs) (closes f v k w)) None))

-- of the cycles over vertices below n, the one that holds the lowest vertex on any
abbrev pub lowest_cycle : (ℕ → Option ℕ) → ℕ → Option (List ℕ)
lowest_cycle f n = first (λ v. closes f v n v) n

-- heights, and the coloured cycles that were popped in their turn
pub record End : Type 0 where
  pub heights : Heights
  pub cycles : List Coloured

abbrev pub noting : Coloured → End → End
noting k e = record { heights = e.heights; cycles = k ∷ e.cycles }

abbrev pub if_some : {A B : Type 0} → Option A → B → (A → B) → B
if_some None b f = b
if_some (Some x) b f = f x

-- pops the cycle with the lowest vertex, at most k times
abbrev pub popped_out : Arrows → ℕ → ℕ → Heights → End
popped_out arrows n zero h = record { heights = h; cycles = [] }
popped_out arrows n (suc k) h = if_some (lowest_cycle (seen arrows h) n) (record { heights = h; cycles = [] }) (λ c. noting (coloured h c) (popped_out arrows n k (raise c h)))

-- c holds the lowest vertex on any cycle of f
abbrev pub HoldsLowest : (ℕ → Option ℕ) → List ℕ → Type 0
HoldsLowest f c = (v : ℕ) × (among v c ≡ true) × ((d : List ℕ) (x : ℕ) → Cycle f d → among x d ≡ true → v ≤ x)

-- a popping sequence in which each cycle holds the lowest vertex on any cycle then
abbrev pub LowestPops : Arrows → Heights → List Coloured → Heights → Type 0
LowestPops arrows h [] h2 = (v : ℕ) → h v ≡ h2 v
LowestPops arrows h (k ∷ ks) h2 = (c : List ℕ) × Cycle (seen arrows h) c × HoldsLowest (seen arrows h) c × (k ≡ coloured h c) × LowestPops arrows (raise c h) ks h2

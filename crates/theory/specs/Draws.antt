-- Draws: what one holds, the trail of a vertex, and what trying a vertex does. Assumes nothing.
use Rattle.std.specs.Prelude.{ℕ, zero, suc, min, Bool, true, false, cond, ◌&&◌, List, [], ◌∷◌, ◌++◌, map, length, Some, None, Option, ◌==◌, slice_index_or}
use Rattle.std.specs.List.{range_with_len}
use Rattle.model.specs.Arrows.{Cells, sight}
use Rattle.theory.specs.Cycles.{Heights, seen, among, Coloured}
use Rattle.theory.specs.Ends.{if_some}
use Rattle.model.specs.Layouts.{Layout, is_root}
use Rattle.model.specs.declared.draw.Entry.{Entry}
use Rattle.model.specs.declared.draw.Pop.{Pop}

-- ---- entries

-- what a place past the last entry reads as
abbrev pub no_entry : Entry
no_entry = record { height = 0; settled = false }

abbrev pub height_of : List Entry → Heights
height_of entries v = (slice_index_or entries v no_entry).height

abbrev pub is_settled : List Entry → ℕ → Bool
is_settled entries v = (slice_index_or entries v no_entry).settled

-- f at each vertex among c, and every other entry as it is; i is the vertex of the first entry
abbrev pub changed_from : (Entry → Entry) → List ℕ → ℕ → List Entry → List Entry
changed_from f c i [] = []
changed_from f c i (e ∷ es) = cond (among i c) (f e) e ∷ changed_from f c (suc i) es

abbrev pub changed : (Entry → Entry) → List ℕ → List Entry → List Entry
changed f c es = changed_from f c 0 es

-- one height more
abbrev pub higher : Entry → Entry
higher e = record { height = suc e.height; settled = e.settled }

abbrev pub shut : Entry → Entry
shut e = record { height = e.height; settled = true }

-- ---- what a draw holds

-- one entry for each vertex, the root, and the number of pops
pub record State : Type 0 where
  pub entries : List Entry
  pub root : ℕ
  pub pops : ℕ

-- a draw and the list of records that belongs to it
pub record Held : Type 0 where
  pub draw : State
  pub list : List Pop

-- the entry of v in a fresh draw: its height is 0, and only the root is settled
abbrev pub fresh_entry : Layout → ℕ → Entry
fresh_entry p v = record { height = 0; settled = is_root p v }

-- a fresh draw: every height and the pops are 0, the root is settled and all others are open
abbrev pub opened : Layout → State
opened p = record { entries = map (fresh_entry p) (range_with_len 0 p.size); root = p.root; pops = 0 }

-- the draw's size and root are the plan's
abbrev pub is_of : Layout → State → Bool
is_of p d = length d.entries == p.size && d.root == p.root

-- the arrows that are visible at a draw's heights
abbrev pub shown : Layout → Cells → List Entry → ℕ → Option ℕ
shown p a entries = seen (sight p a) (height_of entries)

-- ---- the trail of a vertex

-- the vertices that a trail passed, all open, in their order; and where it came to one of them again, the stretch from that one on
pub record Trail : Type 0 where
  pub path : List ℕ
  pub loop : Option (List ℕ)

-- the part of xs from v on
abbrev pub from_on : ℕ → List ℕ → List ℕ
from_on v [] = []
from_on v (x ∷ xs) = cond (v == x) (x ∷ xs) (from_on v xs)

-- the part of xs before v
abbrev pub up_to : ℕ → List ℕ → List ℕ
up_to v [] = []
up_to v (x ∷ xs) = cond (v == x) [] (x ∷ up_to v xs)

-- goes on at v after the path, by at most k vertices: it stops at a settled vertex, on coming to a vertex already on it, and behind a vertex without an arrow
abbrev pub trail_on : (ℕ → Option ℕ) → (ℕ → Bool) → ℕ → List ℕ → ℕ → Trail
trail_on f settled zero path v = record { path = path; loop = None }
trail_on f settled (suc k) path v =
    cond (settled v) (record { path = path; loop = None })
    (cond (among v path) (record { path = path; loop = Some (from_on v path) })
    (if_some (f v) (record { path = path ++ v ∷ []; loop = None }) (λ w. trail_on f settled k (path ++ v ∷ []) w)))

-- the trail of v: no more vertices than there are can be on it
abbrev pub trail : Layout → Cells → List Entry → ℕ → Trail
trail p a entries v = trail_on (shown p a entries) (is_settled entries) (suc p.size) [] v

-- the lowest of v and xs
abbrev pub least : ℕ → List ℕ → ℕ
least v [] = v
least v (x ∷ xs) = least (min v x) xs

-- a loop from its lowest vertex on
abbrev pub turned : List ℕ → List ℕ
turned [] = []
turned (x ∷ xs) = from_on (least x xs) (x ∷ xs) ++ up_to (least x xs) (x ∷ xs)

-- the record of a popped cycle: its lowest vertex, the height there before, and its length
abbrev pub record_of : Coloured → Pop
record_of [] = record { vertex = 0; height = 0; length = 0 }
record_of ((v, k) ∷ more) = record { vertex = v; height = k; length = suc (length more) }

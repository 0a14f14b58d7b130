-- Every way of working a draw comes to one end, and no tree is favoured: the statement. Assumes nothing.
use Rattle.std.specs.Prelude.{◌≡◌, ℕ, ◌+◌, ◌≤◌, Bool, true, ◌&&◌, List, [], ◌∷◌, ◌++◌, map, length, take, drop, None, Ok, count_by, Result, nat_eq, nat_lt, slice_index}
use Rattle.std.specs.Option.{option_or}
use Rattle.std.specs.List.Sorted.{IsPermutation}
use Rattle.model.specs.Arrows.{Cells, visible, sight, is_dry}
use Rattle.theory.specs.Calls.{Strategy, Call, run, does, worked, popped_by, start, none_open, first_fault}
use Rattle.theory.specs.Cycles.{Heights, flat, Coloured, Final}
use Rattle.model.specs.Depths.{cells_fault}
use Rattle.model.specs.Distinct.{In, Distinct}
use Rattle.theory.specs.Draws.{Held, height_of, record_of}
use Rattle.theory.specs.Endings.{ports_at, lowest_dry, dry_fault, written, trees}
use Rattle.theory.specs.Ends.{LowestPops}
use Rattle.theory.specs.Fillings.{drained, Fills, fillings}
use Rattle.model.specs.Layouts.{Layout, Sound}
use Rattle.theory.specs.Outcomes.{end_of, sum_below, lengths_of, Lawful}
use Rattle.model.specs.Picks.{passes}
use Rattle.theory.specs.Reseats.{cells_of, reseated, reseats_to, Shows}
use Rattle.model.specs.Trees.{tree_check}
use Rattle.model.specs.declared.draw.Pop.{Pop}
use Rattle.model.specs.declared.draw.Stop.TheVariants.{Ended}
use Rattle.model.specs.declared.fault.DrawFault.{DrawFault}
use Rattle.model.specs.declared.fault.DrawFault.TheVariants as fault
use Rattle.model.specs.declared.tree.TreeCheck.TheVariants.{Tree}

-- no vertex is open
abbrev pub Over : Held → Type 0
Over h = none_open h.draw.entries ≡ true

-- the check of trees says yes
abbrev pub SaysTree : Layout → List ℕ → Type 0
SaysTree p ports = tree_check p ports ≡ Ok Tree

abbrev pub heights_of : Held → Heights
heights_of h = height_of h.draw.entries

-- what asking for the tree answers and writes at the end of a plan and its arrows: only the buffer may be too short
abbrev pub end_tree : Layout → Cells → List ℕ → Result (Unit {0}) DrawFault × List ℕ
end_tree p a ports =
    written (option_or (first_fault ((nat_lt (length ports) p.size, fault.Short) ∷ [])) (dry_fault (lowest_dry p a (end_of p a).heights)))
    ports (ports_at p a (end_of p a).heights ++ drop p.size ports)

-- with no vertex open, what stands is the end's: heights, popped cycles, each once in any turn, visible ports, dry vertices, and what asking for the tree answers
pub record AtEnd (p : Layout) (a : Cells) (h : Held) (cs : List Coloured) : Type 0 where
  pub heights : (v : ℕ) → heights_of h v ≡ (end_of p a).heights v
  pub cycles : IsPermutation (end_of p a).cycles cs
  pub ports : (v : ℕ) → visible p a v (heights_of h v) ≡ visible p a v ((end_of p a).heights v)
  pub dry : (v : ℕ) → is_dry p a v (heights_of h v) ≡ is_dry p a v ((end_of p a).heights v)
  pub tree : (buffer : List ℕ) → trees p a h.draw buffer ≡ end_tree p a buffer

-- a run of any lawful order that comes next stops as ended with nothing open, given budget and room
abbrev pub Finishes : Layout → Cells → List Pop → Held → Type 0
Finishes p a l h = (s : Strategy) (budget : ℕ) → Lawful s → length (end_of p a).cycles + p.size ≤ budget → length (end_of p a).cycles ≤ length l
    → (k : ℕ) × ((does p a (run s budget) h).answer ≡ Ok (k, Ended)) × Over (does p a (run s budget) h).held

-- after any calls, from any list l: the popped cycles are among the end's, none twice; pops is their number; the list holds their records in turn, and beyond
-- them what it held; the recorded lengths add up to the sum of the heights
pub record OnTheWay (p : Layout) (a : Cells) (l : List Pop) (h : Held) (cs : List Coloured) : Type 0 where
  pub among_end : (rs : List Coloured) × IsPermutation (end_of p a).cycles (cs ++ rs)
  pub once : Distinct cs
  pub counted : h.draw.pops ≡ length cs
  pub listed : h.list ≡ map record_of cs ++ drop h.draw.pops l
  pub sums : lengths_of (take h.draw.pops h.list) ≡ sum_below (heights_of h) p.size
  pub finishes : Finishes p a l h

-- two draws with nothing open agree
pub record Agree (p : Layout) (a : Cells) (g h : Held) (bs cs : List Coloured) : Type 0 where
  pub heights : (v : ℕ) → heights_of g v ≡ heights_of h v
  pub cycles : IsPermutation bs cs
  pub ports : (v : ℕ) → visible p a v (heights_of g v) ≡ visible p a v (heights_of h v)
  pub dry : (v : ℕ) → is_dry p a v (heights_of g v) ≡ is_dry p a v (heights_of h v)
  pub tree : (buffer : List ℕ) → trees p a g.draw buffer ≡ trees p a h.draw buffer

-- what reseating F to the tree u gives, where a draw over F ended at heights h in the tree t and popped cs: a filling; any draw over it that has ended popped the same cycles, shows
-- the tree u, and gives back every cell when it reseats to t; and there is such a draw
pub record Reseats (p : Layout) (depth : ℕ) (F t u : List ℕ) (h : Heights) (cs : List Coloured) : Type 0 where
  pub filling : In (reseated p depth h u F) (fillings p depth)
  pub any : (l : List Pop) (calls : List Call) → let a = cells_of p depth (reseated p depth h u F) in let w = worked p a calls (start p l) in Over w
      → IsPermutation cs (popped_by p a calls (start p l)) × Shows p a (heights_of w) u × (reseated p depth (heights_of w) t (reseated p depth h u F) ≡ F)
  pub some : (l : List Pop) × (calls : List Call) × Over (worked p (cells_of p depth (reseated p depth h u F)) calls (start p l))

-- each of the vertices shows its port in t at the heights
abbrev pub all_show : Layout → Cells → Heights → List ℕ → List ℕ → Bool
all_show p a h t [] = true
all_show p a h t (v ∷ vs) = passes (visible p a v (h v)) (λ q. nat_eq q (slice_index t v)) && all_show p a h t vs

-- the filling F ends in the tree t
abbrev pub ends_in : Layout → ℕ → List ℕ → List ℕ → Bool
ends_in p depth t F = let a = cells_of p depth F in all_show p a (end_of p a).heights t (drained p)

-- every way of working a draw comes to one end, and at each depth as many fillings end in each tree as in every other
pub record OneEnd : Type 0 where
  -- the end is popped from height 0 by cycles that hold the lowest vertex on any, with none left after; and it is the only such sequence
  pub end_law : (p : Layout) (a : Cells) → Sound p → LowestPops (sight p a) flat (end_of p a).cycles (end_of p a).heights × Final (sight p a) (end_of p a).heights
  pub end_only : (p : Layout) (a : Cells) (cs : List Coloured) (h : Heights) → Sound p → LowestPops (sight p a) flat cs h → Final (sight p a) h → (cs ≡ (end_of p a).cycles) × ((v : ℕ) → h v ≡ (end_of p a).heights v)
  pub ends : (p : Layout) (a : Cells) (l : List Pop) (calls : List Call) → Sound p → Over (worked p a calls (start p l)) → AtEnd p a (worked p a calls (start p l)) (popped_by p a calls (start p l))
  pub on_the_way : (p : Layout) (a : Cells) (l : List Pop) (calls : List Call) → Sound p → OnTheWay p a l (worked p a calls (start p l)) (popped_by p a calls (start p l))
  pub agree : (p : Layout) (a : Cells) (l m : List Pop) (calls others : List Call) → Sound p → Over (worked p a calls (start p l)) → Over (worked p a others (start p m))
      → Agree p a (worked p a calls (start p l)) (worked p a others (start p m)) (popped_by p a calls (start p l)) (popped_by p a others (start p m))
  pub reseats : (p : Layout) (depth : ℕ) (F t u : List ℕ) (l : List Pop) (calls : List Call) → Sound p → depth ≤ 4096 → In F (fillings p depth) → SaysTree p u
      → let a = cells_of p depth F in let w = worked p a calls (start p l) in Over w → Shows p a (heights_of w) t → Reseats p depth F t u (heights_of w) (popped_by p a calls (start p l))
  -- the fillings are listed, each once
  pub are_fillings : (p : Layout) (depth : ℕ) (F : List ℕ) → Sound p → (In F (fillings p depth) → Fills p depth F) × (Fills p depth F → In F (fillings p depth))
  pub each_once : (p : Layout) (depth : ℕ) → Distinct (fillings p depth)
  -- ending in a tree is what every draw over the filling does that has ended
  pub in_tree : (p : Layout) (depth : ℕ) (F t : List ℕ) (l : List Pop) (calls : List Call) → Sound p → let a = cells_of p depth F in let w = worked p a calls (start p l) in Over w
      → (ends_in p depth t F ≡ true → Shows p a (heights_of w) t) × (Shows p a (heights_of w) t → ends_in p depth t F ≡ true)
  pub as_many : (p : Layout) (depth : ℕ) (t u : List ℕ) → Sound p → depth ≤ 4096 → SaysTree p t → SaysTree p u → count_by (ends_in p depth t) (fillings p depth) ≡ count_by (ends_in p depth u) (fillings p depth)

-- and what reseating to the tree u gives, where a draw over F ended in the tree t, is what the call of reseating gives, at every depth within the limits
pub record OneEndByCalls : Type 0 where
  pub one_end : OneEnd
  pub reseat_gives : (p : Layout) (depth : ℕ) (F t u : List ℕ) (l : List Pop) (calls : List Call) → Sound p → depth ≤ 4096 → In F (fillings p depth) → SaysTree p u
      → let a = cells_of p depth F in let w = worked p a calls (start p l) in Over w → Shows p a (heights_of w) t → cells_fault p.size depth ≡ None
      → reseats_to p w.draw depth F u ≡ (Ok tt, reseated p depth (heights_of w) u F)

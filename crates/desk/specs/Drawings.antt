-- A draw with its list of records and its order. Assumes nothing.
use Rattle.std.specs.Prelude.{ℕ, suc, Bool, cond, List, [], ◌∷◌, map, length, take, replicate, Ok, Err, vec_items, Option, Result}
use Rattle.model.specs.Arrows.{Cells}
use Rattle.model.specs.Layouts.{Layout}
use Rattle.model.specs.Walks.{walk_picks, filed_picks, next_place}
use Rattle.model.specs.declared.draw.Entry.{Entry}
use Rattle.model.specs.declared.draw.Pop.{Pop}
use Rattle.model.specs.declared.draw.Stop.{Stop}
use Rattle.model.specs.declared.draw.Tried.{Tried}
use Rattle.model.specs.declared.fault.DrawFault.{DrawFault}
use Rattle.orders.specs.declared.any.AnyOrder.{AnyOrder}
use Rattle.orders.specs.declared.any.AnyOrder.TheVariants.{Walk, Listed}
use Rattle.theory.specs.Calls.{Strategy, After, does, try_at, step, run, told_all, strategy_of, start}
use Rattle.theory.specs.Draws.{Held}
use Rattle.theory.specs.Endings.{trees}
use Rattle.draws.specs.States.{held_of}
use Rattle.desk.specs.declared.running.Running.{Running}

-- ---- orders

-- an order by what it holds: a walk the vertex last told, a listed order its vertices and its place among them
pub data Ordering : Type 0 where
  walk : (last : ℕ) → Ordering
  listed : (vertices : List ℕ) (place : ℕ) → Ordering

-- its pick, given one open mark for each vertex
abbrev pub ordering_picks : Ordering → List Bool → Option ℕ
ordering_picks (walk last) marks = walk_picks last marks
ordering_picks (listed vertices place) marks = filed_picks vertices place marks

-- the order after it was told a vertex
abbrev pub ordering_tells : Ordering → ℕ → Ordering
ordering_tells (walk last) v = walk v
ordering_tells (listed vertices place) v = listed vertices (next_place (length vertices) place)

-- what the order does from now on
abbrev pub plays : Ordering → Strategy
plays o = strategy_of ordering_picks ordering_tells o

abbrev pub ordering_of : AnyOrder → Ordering
ordering_of (Walk w) = walk w.last
ordering_of (Listed o) = listed (vec_items o.vertices) o.place

-- ---- drawings

-- a draw with its list of records, and the order
pub record Drawing : Type 0 where
  pub held : Held
  pub order : Ordering

abbrev pub drawing_of : Running → Drawing
drawing_of r = record { held = held_of r.draw (vec_items r.list); order = ordering_of r.order }

-- what stands in the list where no cycle was recorded yet
abbrev pub blank : Pop
blank = record { vertex = 0; height = 0; length = 0 }

-- a fresh draw, a list with room for so many records, and a fresh walk
abbrev pub begun : Layout → ℕ → Drawing
begun p room = record { held = start p (replicate room blank); order = walk 0 }

-- the same with another order
abbrev pub reordered : Ordering → Drawing → Drawing
reordered o d = record { held = d.held; order = o }

-- ---- calls

-- the answer of a call, and the drawing after it: its order was told what the call told
abbrev pub called : {A : Type 0} → Ordering → After A → A × Drawing
called o x = (x.answer, record { held = x.held; order = told_all ordering_tells o x.told })

-- a try at v, of which no order is told
abbrev pub tried : Layout → Cells → ℕ → Drawing → Result Tried DrawFault × Drawing
tried p a v d = let x = does p a (try_at v) d.held in (x.answer, record { held = x.held; order = d.order })

-- a step by the order
abbrev pub stepped : Layout → Cells → Drawing → Result Tried DrawFault × Drawing
stepped p a d = called d.order (does p a (step (plays d.order)) d.held)

-- a run by the order, with a budget of tries
abbrev pub ran : Layout → Cells → ℕ → Drawing → Result (ℕ × Stop) DrawFault × Drawing
ran p a budget d = called d.order (does p a (run (plays d.order) budget) d.held)

-- ---- what is shown

-- the height of each vertex
abbrev pub heights_shown : Drawing → List ℕ
heights_shown d = map (λ e. e.height) d.held.draw.entries

-- the open vertices by their entries, rising; v is the vertex of the first
abbrev pub open_among : ℕ → List Entry → List ℕ
open_among v [] = []
open_among v (e ∷ es) = cond e.settled (open_among (suc v) es) (v ∷ open_among (suc v) es)

abbrev pub open_shown : Drawing → List ℕ
open_shown d = open_among 0 d.held.draw.entries

-- the records of the popped cycles, in turn
abbrev pub records_shown : Drawing → List Pop
records_shown d = take d.held.draw.pops d.held.list

-- what was written to a buffer, or the fault
abbrev pub written_or_fault : Result (Unit {0}) DrawFault × List ℕ → Result (List ℕ) DrawFault
written_or_fault (Ok u, ports) = Ok ports
written_or_fault (Err e, ports) = Err e

-- the ports of the tree, one for each vertex, or why there is none
abbrev pub tree_shown : Layout → Cells → Drawing → Result (List ℕ) DrawFault
tree_shown p a d = written_or_fault (trees p a d.held.draw (replicate p.size 0))

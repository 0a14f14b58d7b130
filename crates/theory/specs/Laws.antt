-- What a try and a run do, in words of ways along arrows and of steps in a row. Assumes nothing.
use Rattle.std.specs.Prelude.{◌≡◌, ℕ, zero, suc, ◌+◌, ◌<◌, ◌≤◌, Bool, true, false, cond, List, length, is_ok, Some, None, Ok, Err, Option, Result, slice_set}
use Rattle.model.specs.Arrows.{Cells}
use Rattle.model.specs.Layouts.{Layout}
use Rattle.model.specs.Orders.{open_marks, PicksOpen}
use Rattle.model.specs.Ways.{Way, Leads}
use Rattle.model.specs.declared.draw.Entry.{Entry}
use Rattle.model.specs.declared.draw.Pop.{Pop}
use Rattle.model.specs.declared.draw.Stop.{Stop}
use Rattle.model.specs.declared.draw.Stop.TheVariants.{Ended, Spent, Full}
use Rattle.model.specs.declared.draw.Tried.{Tried}
use Rattle.model.specs.declared.draw.Tried.TheVariants.{Popped, Settled}
use Rattle.model.specs.declared.fault.DrawFault.{DrawFault}
use Rattle.model.specs.declared.fault.DrawFault.TheVariants as fault
use Rattle.theory.specs.Calls.{Strategy, steps, none_open, open_count, all_told}
use Rattle.theory.specs.Cycles.{among, Cycle, coloured, raise}
use Rattle.theory.specs.Draws.{Held, is_of, height_of, is_settled, shown, record_of}

-- ---- try

-- the arrows f of the vertices that are not settled: a way along them ends at a settled vertex, and at a vertex without an arrow
abbrev pub onward : (ℕ → Option ℕ) → (ℕ → Bool) → ℕ → Option ℕ
onward f settled v = cond (settled v) None (f v)

-- a way along the arrows g leads from u back to u
abbrev pub Loops : (ℕ → Option ℕ) → ℕ → Type 0
Loops g u = (xs : List ℕ) × Way g u xs u

-- the way from v comes to c, which is on a loop
abbrev pub Rounds : (ℕ → Option ℕ) → ℕ → ℕ → Type 0
Rounds g v c = Leads g v c × Loops g c

-- the way from v comes to a vertex without an arrow
abbrev pub RunsOut : (ℕ → Option ℕ) → ℕ → Type 0
RunsOut g v = (y : ℕ) × Leads g v y × (g y ≡ None)

-- the way from v along the arrows g comes to the cycle c
abbrev pub Closes : (ℕ → Option ℕ) → ℕ → List ℕ → Type 0
Closes g v c = Cycle g c × ((x : ℕ) × (among x c ≡ true) × Leads g v x)

-- the visible arrows of the open vertices of a draw
abbrev pub open_arrows : Layout → Cells → List Entry → ℕ → Option ℕ
open_arrows p a entries = onward (shown p a entries) (is_settled entries)

abbrev pub heights_in : Held → ℕ → ℕ
heights_in h = height_of h.draw.entries

abbrev pub settled_in : Held → ℕ → Bool
settled_in h = is_settled h.draw.entries

-- the cycle c was popped: exactly its vertices gained 1 height, nothing was settled, and the record r of its lowest vertex, the height there before and its length
-- went into the list at the index that equals the pops before
pub record PoppedOff (before after : Held) (c : List ℕ) (r : Pop) : Type 0 where
  pub heights : (u : ℕ) → heights_in after u ≡ raise c (heights_in before) u
  pub marks : (u : ℕ) → settled_in after u ≡ settled_in before u
  pub its_record : r ≡ record_of (coloured (heights_in before) c)
  pub listed : after.list ≡ slice_set before.list before.draw.pops r
  pub counted : after.draw.pops ≡ suc before.draw.pops

-- exactly the open vertices of the way from v along the arrows g were settled, k of them, and no height moved
pub record SettledAlong (g : ℕ → Option ℕ) (v : ℕ) (before after : Held) (k : ℕ) : Type 0 where
  pub heights : (u : ℕ) → heights_in after u ≡ heights_in before u
  pub now_settled : (u : ℕ) → settled_in before u ≡ false → Leads g v u → settled_in after u ≡ true
  pub only_those : (u : ℕ) → settled_in before u ≡ false → settled_in after u ≡ true → Leads g v u
  pub still_settled : (u : ℕ) → settled_in before u ≡ true → settled_in after u ≡ true
  pub how_many : open_count before.draw.entries ≡ k + open_count after.draw.entries
  pub listed : after.list ≡ before.list
  pub counted : after.draw.pops ≡ before.draw.pops

-- the law of a try at v: popped exactly if the way along visible arrows from v closes before a settled or dry vertex, unless the list is full; settled exactly if it does not;
-- and refused, it changed nothing
pub record TryLaw (p : Layout) (a : Cells) (v : ℕ) (before after : Held) (answer : Result Tried DrawFault) : Type 0 where
  pub popped : (r : Pop) → answer ≡ Ok (Popped r) → (c : List ℕ) × Closes (open_arrows p a before.draw.entries) v c × PoppedOff before after c r
  pub settled : (k : ℕ) → answer ≡ Ok (Settled k) → ((c : List ℕ) → Closes (open_arrows p a before.draw.entries) v c → ⊥) × SettledAlong (open_arrows p a before.draw.entries) v before after k
  pub full : answer ≡ Err fault.ListFull → (c : List ℕ) × Closes (open_arrows p a before.draw.entries) v c × (length before.list ≤ before.draw.pops)
  pub unchanged : (e : DrawFault) → answer ≡ Err e → after ≡ before

-- ---- step

-- the law of a step by an order that picks so: the pick is an open vertex, and a try is made there; there is none only where no vertex is open
pub record StepLaw (p : Layout) (a : Cells) (pick : Option ℕ) (before after : Held) (answer : Result Tried DrawFault) : Type 0 where
  pub picks_open : PicksOpen (open_marks before.draw.entries) pick
  pub tried : (v : ℕ) → is_of p before.draw ≡ true → pick ≡ Some v → TryLaw p a v before after answer
  pub none_left : is_of p before.draw ≡ true → pick ≡ None → (none_open before.draw.entries ≡ true) × (answer ≡ Err fault.NothingOpen) × (after ≡ before)

-- ---- run

-- what an order would do next, and what is held
pub record Position : Type 0 where
  pub order : Strategy
  pub held : Held

-- one step on
abbrev pub stepped : Layout → Cells → Position → Position
stepped p a x = let y = steps p a x.order x.held in record { order = all_told x.order y.told; held = y.held }

-- k steps in a row
abbrev pub in_a_row : Layout → Cells → ℕ → Position → Position
in_a_row p a zero x = x
in_a_row p a (suc k) x = in_a_row p a k (stepped p a x)

-- what the next step would answer
abbrev pub next_answer : Layout → Cells → Position → Result Tried DrawFault
next_answer p a x = (steps p a x.order x.held).answer

-- after k tries a run goes on: a vertex is open, the tries do not equal the budget, and the step is not refused
pub record GoesOn (p : Layout) (a : Cells) (budget k : ℕ) (x : Position) : Type 0 where
  pub some_open : none_open x.held.draw.entries ≡ false
  pub not_spent : k < budget
  pub has_room : is_ok (next_answer p a x) ≡ true

-- it stops: as ended if no vertex is open, else as spent if the tries equal the budget, else as full if the step would find the list full
abbrev pub Stops : Layout → Cells → ℕ → ℕ → Position → Stop → Type 0
Stops p a budget k x Ended = none_open x.held.draw.entries ≡ true
Stops p a budget k x Spent = (none_open x.held.draw.entries ≡ false) × (k ≡ budget)
Stops p a budget k x Full = (none_open x.held.draw.entries ≡ false) × (k < budget) × (next_answer p a x ≡ Err fault.ListFull)

-- the law of a run: its tries are that many steps in a row, before each of which it went on, and then it stopped for that reason
pub record RunLaw (p : Layout) (a : Cells) (s : Strategy) (budget : ℕ) (before after : Held) (tries : ℕ) (why : Stop) : Type 0 where
  pub steps_made : (in_a_row p a tries (record { order = s; held = before })).held ≡ after
  pub went_on : (k : ℕ) → k < tries → GoesOn p a budget k (in_a_row p a k (record { order = s; held = before }))
  pub stopped_for : Stops p a budget tries (in_a_row p a tries (record { order = s; held = before })) why

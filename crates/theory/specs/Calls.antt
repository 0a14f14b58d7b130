-- What the calls of a draw do: try, step and run, and lists of them. Assumes nothing.
use Rattle.std.specs.Prelude.{ℕ, zero, suc, Bool, true, false, cond, not, List, [], ◌∷◌, ◌++◌, length, is_ok, Some, None, Ok, Err, Option, Result, nat_lt, slice_set}
use Rattle.model.specs.Arrows.{Cells}
use Rattle.theory.specs.Cycles.{Coloured, coloured}
use Rattle.theory.specs.Draws.{Held, Trail, opened, is_of, is_settled, height_of, trail, turned, changed, higher, shut, record_of}
use Rattle.theory.specs.Ends.{if_some}
use Rattle.model.specs.Layouts.{Layout}
use Rattle.model.specs.Orders.{open_marks}
use Rattle.model.specs.declared.draw.Entry.{Entry}
use Rattle.model.specs.declared.draw.Pop.{Pop}
use Rattle.model.specs.declared.draw.Stop.{Stop}
use Rattle.model.specs.declared.draw.Stop.TheVariants.{Ended, Spent, Full}
use Rattle.model.specs.declared.draw.Tried.{Tried}
use Rattle.model.specs.declared.draw.Tried.TheVariants.{Popped, Settled}
use Rattle.model.specs.declared.fault.DrawFault.{DrawFault}
use Rattle.model.specs.declared.fault.DrawFault.TheVariants as fault

-- what an order does from some value on: given the vertices that it was told since, in turn, and the open marks now, its pick
abbrev pub Strategy : Type 0
Strategy = List ℕ → List Bool → Option ℕ

-- the strategy that is left after v was told
abbrev pub once_told : Strategy → ℕ → Strategy
once_told s v told marks = s (v ∷ told) marks

-- an order after it was told the vertices in turn
abbrev pub told_all : {O : Type 0} → (O → ℕ → O) → O → List ℕ → O
told_all tells o [] = o
told_all tells o (v ∷ vs) = told_all tells (tells o v) vs

-- the strategy of an order in the value o, by what it picks and what being told makes of it
abbrev pub strategy_of : {O : Type 0} → (O → List Bool → Option ℕ) → (O → ℕ → O) → O → Strategy
strategy_of picks tells o told marks = picks (told_all tells o told) marks

-- what is held after a call, its answer, the coloured cycles that it popped and the vertices that it told the order, each in turn
pub record After (A : Type 0) : Type 0 where
  pub held : Held
  pub answer : A
  pub popped : List Coloured
  pub told : List ℕ

-- the first fault of which the test holds
abbrev pub first_fault : List (Bool × DrawFault) → Option DrawFault
first_fault [] = None
first_fault ((t, e) ∷ more) = cond t (Some e) (first_fault more)

-- a refusal changes nothing
abbrev pub refused : {A : Type 0} → Held → DrawFault → After (Result A DrawFault)
refused h e = record { held = h; answer = Err e; popped = []; told = [] }

-- pops the cycle c: its vertices gain 1 height, its record goes into the list at the index that equals the pops so far, and the pops gain 1
abbrev pub pops_cycle : Held → List ℕ → After (Result Tried DrawFault)
pops_cycle h c =
    let d = h.draw in
    let k = coloured (height_of d.entries) c in
    record {
      held = record {
        draw = record { entries = changed higher c d.entries; root = d.root; pops = suc d.pops };
        list = slice_set h.list d.pops (record_of k);
      };
      answer = Ok (Popped (record_of k));
      popped = k ∷ [];
      told = [];
    }

-- settles the open vertices of a trail
abbrev pub settles : Held → List ℕ → After (Result Tried DrawFault)
settles h path =
    let d = h.draw in
    record {
      held = record { draw = record { entries = changed shut path d.entries; root = d.root; pops = d.pops }; list = h.list };
      answer = Ok (Settled (length path));
      popped = [];
      told = [];
    }

-- a trail that came round is popped if the list has room; one that did not is settled
abbrev pub by_trail : Held → Trail → After (Result Tried DrawFault)
by_trail h t = if_some t.loop (settles h t.path) (λ l. cond (nat_lt h.draw.pops (length h.list)) (pops_cycle h (turned l)) (refused h fault.ListFull))

-- try at v
abbrev pub tries : Layout → Cells → ℕ → Held → After (Result Tried DrawFault)
tries p a v h =
    if_some (first_fault ((not (is_of p h.draw), fault.OtherPlan) ∷ (not (nat_lt v p.size), fault.Vertex v) ∷ (is_settled h.draw.entries v, fault.AlreadySettled v) ∷ []))
    (by_trail h (trail p a h.draw.entries v))
    (λ e. refused h e)

-- the order is told the vertex of a try that was not refused
abbrev pub telling : ℕ → After (Result Tried DrawFault) → After (Result Tried DrawFault)
telling v x = record { held = x.held; answer = x.answer; popped = x.popped; told = cond (is_ok x.answer) (v ∷ []) [] }

-- step: the vertex that is picked is tried; no pick is the fault that nothing is open
abbrev pub steps : Layout → Cells → Strategy → Held → After (Result Tried DrawFault)
steps p a s h =
    cond (is_of p h.draw)
    (if_some (s [] (open_marks h.draw.entries)) (refused h fault.NothingOpen) (λ v. telling v (tries p a v h)))
    (refused h fault.OtherPlan)

-- whether no vertex is open
abbrev pub none_open : List Entry → Bool
none_open [] = true
none_open (e ∷ es) = cond e.settled (none_open es) false

-- how many vertices are open
abbrev pub open_count : List Entry → ℕ
open_count [] = 0
open_count (e ∷ es) = cond e.settled (open_count es) (suc (open_count es))

-- the run stopped after so many tries
abbrev pub stopped : Held → ℕ → Stop → After (Result (ℕ × Stop) DrawFault)
stopped h tries why = record { held = h; answer = Ok (tries, why); popped = []; told = [] }

-- what went before a part of a run
abbrev pub preceded : {A : Type 0} → List Coloured → List ℕ → After A → After A
preceded cs vs x = record { held = x.held; answer = x.answer; popped = cs ++ x.popped; told = vs ++ x.told }

-- the strategy after the vertices vs were told in turn
abbrev pub all_told : Strategy → List ℕ → Strategy
all_told s [] = s
all_told s (v ∷ vs) = all_told (once_told s v) vs

-- one turn of a run: it stops as ended where no vertex is open; else as spent where nothing of the budget is left;
-- else as full where the step is refused, as only a full list can make it, since an order picks an open vertex; else it goes on
abbrev pub runs_on : Layout → Cells → Strategy → ℕ → ℕ → Held → After (Result (ℕ × Stop) DrawFault)
runs_on p a s zero made h = cond (none_open h.draw.entries) (stopped h made Ended) (stopped h made Spent)
runs_on p a s (suc left) made h =
    cond (none_open h.draw.entries) (stopped h made Ended)
    (let x = steps p a s h in
    cond (is_ok x.answer) (preceded x.popped x.told (runs_on p a (all_told s x.told) left (suc made) x.held)) (stopped h made Full))

-- run with a budget
abbrev pub runs : Layout → Cells → Strategy → ℕ → Held → After (Result (ℕ × Stop) DrawFault)
runs p a s budget h = cond (is_of p h.draw) (runs_on p a s budget 0 h) (refused h fault.OtherPlan)

-- ---- lists of calls

pub data Call : Type 0 where
  try_at : ℕ → Call
  step : Strategy → Call
  run : Strategy → ℕ → Call

abbrev pub Answer : Call → Type 0
Answer (try_at v) = Result Tried DrawFault
Answer (step s) = Result Tried DrawFault
Answer (run s b) = Result (ℕ × Stop) DrawFault

-- what a call does: the only definition of these calls
abbrev pub does : Layout → Cells → (c : Call) → Held → After (Answer c)
does p a (try_at v) h = tries p a v h
does p a (step s) h = steps p a s h
does p a (run s b) h = runs p a s b h

-- what is held after a list of calls
abbrev pub worked : Layout → Cells → List Call → Held → Held
worked p a [] h = h
worked p a (c ∷ cs) h = worked p a cs (does p a c h).held

-- the coloured cycles that it popped, in turn
abbrev pub popped_by : Layout → Cells → List Call → Held → List Coloured
popped_by p a [] h = []
popped_by p a (c ∷ cs) h = (does p a c h).popped ++ popped_by p a cs (does p a c h).held

-- a fresh draw with a lent list
abbrev pub start : Layout → List Pop → Held
start p l = record { draw = opened p; list = l }

-- What the desk has in hand, and what each command does with it. Assumes nothing.
use Rattle.std.specs.Prelude.{◌≡◌, ℕ, Bool, true, false, cond, not, ◌⊎◌, List, ◌++◌, length, is_some, Some, None, Ok, Err, vec_items, Option, Result, ◌==◌, nat_lt}
use Rattle.std.specs.Option.{option_map}
use Rattle.model.specs.Arrows.{Cells}
use Rattle.model.specs.Caps.{capped}
use Rattle.model.specs.Depths.{cells_to, depth_fault, cells_fault}
use Rattle.model.specs.Filed.{filed_cells}
use Rattle.model.specs.Layouts.{Layout}
use Rattle.model.specs.Seeds.{seeded_cells}
use Rattle.model.specs.Trees.{tree_check}
use Rattle.model.specs.declared.fault.DrawFault.{DrawFault}
use Rattle.model.specs.declared.fault.DrawFault.TheVariants.{NoMemory}
use Rattle.theory.specs.Ends.{if_some}
use Rattle.theory.specs.Reseats.{reseats_to}
use Rattle.plans.specs.Cablings.{Cabling, cabled, unlinked, linked}
use Rattle.plans.specs.Completes as plan
use Rattle.plans.specs.Limits.{plan_fault}
use Rattle.plans.specs.Tables.{cabling_of}
use Rattle.plans.specs.declared.any.AnyPlan.{AnyPlan}
use Rattle.plans.specs.declared.any.AnyPlan.TheVariants as any
use Rattle.sources.specs.declared.any.AnyArrows.{AnyArrows}
use Rattle.sources.specs.declared.any.AnyArrows.TheVariants as source
use Rattle.commands.specs.Commands as commands
use Rattle.desk.specs.Drawings.{Drawing, drawing_of, Ordering, walk, listed, begun, tried, stepped, ran, heights_shown, open_shown, records_shown, tree_shown}
use Rattle.session.specs.Said as said
use Rattle.session.specs.Said.{Said}
use Rattle.session.specs.declared.answer.Due.{Due}
use Rattle.session.specs.declared.answer.Due.TheVariants as due
use Rattle.session.specs.declared.answer.Misplaced.{Misplaced}
use Rattle.session.specs.declared.answer.Misplaced.TheVariants as misplaced
use Rattle.session.specs.declared.answer.Refusal.{Refusal}
use Rattle.session.specs.declared.answer.Refusal.TheVariants as refusal
use Rattle.session.specs.declared.hall.Hall.{Hall}
use Rattle.session.specs.declared.hall.Pending as hall_of
use Rattle.session.specs.declared.hall.Hall.TheVariants as hall
use Rattle.session.specs.declared.session.Session.{Session}

-- ---- what the desk has

-- a plan of either kind
pub data Planned : Type 0 where
  completed : (size root : ℕ) → Planned
  tabled : Cabling → Planned

abbrev pub layout_of : Planned → Layout
layout_of (completed n r) = plan.complete n r
layout_of (tabled c) = cabled c

-- filed arrows that lack cells still: the line at which they began, their depth, and the cells so far
pub record Pending : Type 0 where
  pub line : ℕ
  pub depth : ℕ
  pub ports : List ℕ

-- no plan; a table to which links may still be added; a plan with filed arrows that lack cells; a plan
pub data Place : Type 0 where
  empty : Place
  linking : Cabling → Place
  filing : Planned → Pending → Place
  ready : Planned → Place

pub data Arrowed : Type 0 where
  filed : (size root depth : ℕ) (ports : List ℕ) → Arrowed
  seeded : (seed depth : ℕ) → Arrowed

abbrev pub cells_at : Arrowed → Cells
cells_at (filed n r depth ports) = filed_cells n r depth ports
cells_at (seeded seed depth) = capped depth (seeded_cells seed)

-- the hall, the arrows, the draw, and the room for records of the next draw
pub record Desk : Type 0 where
  pub place : Place
  pub arrows : Option Arrowed
  pub drawing : Option Drawing
  pub room : ℕ

-- a desk with nothing on it
abbrev pub bare : Desk
bare = record { place = empty; arrows = None; drawing = None; room = 4096 }

abbrev pub takes_cells : Place → Bool
takes_cells empty = false
takes_cells (linking c) = false
takes_cells (filing p q) = true
takes_cells (ready p) = false

-- a hall alone: no filed arrows that lack cells, no arrows and no draw
abbrev pub hall_alone : Place → Option Arrowed → Option Drawing → Bool
hall_alone x a y = cond (takes_cells x) false (cond (is_some a) false (not (is_some y)))

abbrev pub has_hall_alone : Desk → Bool
has_hall_alone d = hall_alone d.place d.arrows d.drawing

-- ---- what the code has

abbrev pub planned_of : AnyPlan → Planned
planned_of (any.Complete p) = completed p.size p.root
planned_of (any.Table t) = tabled (cabling_of t)

abbrev pub pending_of : hall_of.Pending → Pending
pending_of q = record { line = q.line; depth = q.depth; ports = vec_items q.ports }

abbrev pub place_of : Hall → Place
place_of hall.Empty = empty
place_of (hall.Linking t) = linking (cabling_of t)
place_of (hall.Planned p None) = ready (planned_of p)
place_of (hall.Planned p (Some q)) = filing (planned_of p) (pending_of q)

abbrev pub arrowed_of : AnyArrows → Arrowed
arrowed_of (source.Filed f) = filed f.listing.size f.listing.root f.listing.depth (vec_items f.ports)
arrowed_of (source.Seeded c) = seeded c.below.seed c.depth

abbrev pub desk_of : Session → Desk
desk_of s = record { place = place_of s.hall; arrows = option_map arrowed_of s.arrows; drawing = option_map drawing_of s.running; room = s.room }

-- ---- what is due before a command

-- ends the links of a table, or filed arrows that lack cells: what is then due, and the place after
abbrev pub closing : Place → Option Due × Place
closing empty = (None, empty)
closing (linking c) = (Some (due.Table c.size c.root (length c.links)), ready (tabled c))
closing (filing p q) = (Some (due.FewCells q.line), ready p)
closing (ready p) = (None, ready p)

-- the desk with another place
abbrev pub put_at : Desk → Place → Desk
put_at d x = record { place = x; arrows = d.arrows; drawing = d.drawing; room = d.room }

abbrev pub closes : Desk → Option Due × Desk
closes d = ((closing d.place).0, put_at d (closing d.place).1)

abbrev pub takes_links : Place → Bool
takes_links empty = false
takes_links (linking c) = true
takes_links (filing p q) = false
takes_links (ready p) = false

-- whether the command goes on with what is under way: a link of a table, or cells of filed arrows
abbrev pub goes_on : commands.Asked → Place → Bool
goes_on (commands.complete n r) x = false
goes_on (commands.table n r) x = false
goes_on (commands.link a b) x = takes_links x
goes_on (commands.check ports) x = false
goes_on (commands.filed depth ports) x = false
goes_on (commands.cells ports) x = takes_cells x
goes_on (commands.seeded seed depth) x = false
goes_on (commands.room k) x = false
goes_on commands.begin x = false
goes_on commands.walk x = false
goes_on (commands.listed vertices) x = false
goes_on (commands.try_at v) x = false
goes_on commands.step x = false
goes_on (commands.run budget) x = false
goes_on commands.heights x = false
goes_on commands.open_vertices x = false
goes_on commands.records x = false
goes_on commands.tree x = false
goes_on (commands.reseat ports) x = false
goes_on (commands.help scope) x = false

-- what is due before a command is done
abbrev pub before : commands.Asked → Desk → Option Due × Desk
before c d = cond (goes_on c d.place) (None, d) (closes d)

-- ---- what commands do: the answer, and the desk after

abbrev pub Done : Type 0
Done = Result Said Refusal × Desk

-- the command is out of place: nothing changes
abbrev pub misplaced_at : Misplaced → Desk → Done
misplaced_at m d = (Err (refusal.Misplaced m), d)

-- a fault changes nothing
abbrev pub unless_fault : Option DrawFault → Desk → Done → Done
unless_fault None d x = x
unless_fault (Some e) d x = (Err (refusal.Fault e), d)

-- what the library gives as an answer, or its fault as a refusal
abbrev pub told : {A : Type 0} → (A → Said) → Result A DrawFault → Result Said Refusal
told f (Ok x) = Ok (f x)
told f (Err e) = Err (refusal.Fault e)

-- the plan, unless it is not told whole
abbrev pub plan_at : Place → Option Planned
plan_at empty = None
plan_at (linking c) = None
plan_at (filing p q) = None
plan_at (ready p) = Some p

-- what needs a plan
abbrev pub with_plan : Desk → (Planned → Done) → Done
with_plan d f = if_some (plan_at d.place) (misplaced_at misplaced.NoPlan d) f

-- what needs a plan, arrows and a draw
abbrev pub with_draw : Desk → (Planned → Arrowed → Drawing → Done) → Done
with_draw d f = if_some (plan_at d.place) (misplaced_at misplaced.NoDraw d) (λ p. if_some d.arrows (misplaced_at misplaced.NoDraw d) (λ a. if_some d.drawing (misplaced_at misplaced.NoDraw d) (f p a)))

-- another plan: arrows and draw are forgotten
abbrev pub new_plan : Desk → Place → Desk
new_plan d x = record { place = x; arrows = None; drawing = None; room = d.room }

-- other arrows: the draw is forgotten
abbrev pub new_arrows : Desk → Arrowed → Desk
new_arrows d a = record { place = d.place; arrows = Some a; drawing = None; room = d.room }

abbrev pub new_drawing : Desk → Drawing → Desk
new_drawing d x = record { place = d.place; arrows = d.arrows; drawing = Some x; room = d.room }

-- `complete N root R`
abbrev pub begins_complete : Desk → ℕ → ℕ → Done
begins_complete d n r = unless_fault (plan_fault n r) d (Ok (said.complete n r), new_plan d (ready (completed n r)))

-- `table N root R`
abbrev pub begins_table : Desk → ℕ → ℕ → Done
begins_table d n r = unless_fault (plan_fault n r) d (Ok said.silent, new_plan d (linking (unlinked n r)))

-- a table is begun, or it is at no fault and finds no memory
abbrev pub BeginsTable : Desk → ℕ → ℕ → Result Said Refusal → Desk → Type 0
BeginsTable d n r x after = ((x, after) ≡ begins_table d n r) ⊎ ((plan_fault n r ≡ None) × (x ≡ Err (refusal.Fault NoMemory)) × (after ≡ d))

-- `link A B`: only a table whose links have not ended takes it
abbrev pub linking_at : Place → ℕ → ℕ → Result Said Refusal × Place
linking_at empty a b = (Err (refusal.Misplaced misplaced.NoTable), empty)
linking_at (linking c) a b = (told (λ _. said.silent) (linked c a b).0, linking (linked c a b).1)
linking_at (filing p q) a b = (Err (refusal.Misplaced misplaced.NoTable), filing p q)
linking_at (ready p) a b = (Err (refusal.Misplaced misplaced.NoTable), ready p)

abbrev pub adds_link : Desk → ℕ → ℕ → Done
adds_link d a b = ((linking_at d.place a b).0, put_at d (linking_at d.place a b).1)

-- `check P P ..`
abbrev pub checks : Desk → List ℕ → Done
checks d ports = with_plan d (λ p. (told said.checked (tree_check (layout_of p) ports), d))

-- the filed arrows that lack cells
abbrev pub pending_at : Place → Option (Planned × Pending)
pending_at empty = None
pending_at (linking c) = None
pending_at (filing p q) = Some (p, q)
pending_at (ready p) = None

-- how many cells the pending arrows are to have
abbrev pub wanted : Planned → Pending → ℕ
wanted p q = cells_to (layout_of p).size q.depth

-- with their last cell the filed arrows are taken
abbrev pub finishes : Desk → Planned → Pending → Said × Desk
finishes d p q =
    cond (length q.ports == wanted p q)
    (said.filed q.depth, new_arrows (put_at d (ready p)) (filed (layout_of p).size (layout_of p).root q.depth q.ports))
    (said.silent, put_at d (filing p q))

-- filed arrows with these cells so far: more than they have are out of place
abbrev pub gathers : Desk → Planned → Pending → Done
gathers d p q = cond (nat_lt (wanted p q) (length q.ports)) (misplaced_at misplaced.TooMany d) (Ok (finishes d p q).0, (finishes d p q).1)

-- the same by the place of the desk
abbrev pub finishing : Desk → Said × Desk
finishing d = if_some (pending_at d.place) (said.silent, d) (λ x. finishes d x.0 x.1)

-- from now on cells are told
abbrev pub starting : Desk → Pending → Desk
starting d q = if_some (plan_at d.place) d (λ p. put_at d (filing p q))

-- `filed D P P ..`, at this line
abbrev pub begins_filed : Desk → ℕ → ℕ → List ℕ → Done
begins_filed d line depth ports =
    with_plan d (λ p. unless_fault (cells_fault (layout_of p).size depth) d (gathers d p (record { line = line; depth = depth; ports = ports })))

-- more cells
abbrev pub extended : Pending → List ℕ → Pending
extended q ports = record { line = q.line; depth = q.depth; ports = q.ports ++ ports }

-- `cells P P ..`
abbrev pub adds_cells : Desk → List ℕ → Done
adds_cells d ports = if_some (pending_at d.place) (misplaced_at misplaced.NoFiled d) (λ x. gathers d x.0 (extended x.1 ports))

-- `seeded S depth D`
abbrev pub takes_seed : Desk → ℕ → ℕ → Done
takes_seed d seed depth = with_plan d (λ p. unless_fault (depth_fault depth) d (Ok (said.seeded seed depth), new_arrows d (seeded seed depth)))

-- `room K`
abbrev pub makes_room : Desk → ℕ → Done
makes_room d k = (Ok said.silent, record { place = d.place; arrows = d.arrows; drawing = d.drawing; room = k })

-- `open`
abbrev pub opens : Desk → Done
opens d = with_plan d (λ p. if_some d.arrows (misplaced_at misplaced.NoArrows d) (λ a. (Ok (said.begun (layout_of p).size (layout_of p).root), new_drawing d (begun (layout_of p) d.room))))

-- `order walk` and `order V V ..`
abbrev pub orders_by : Desk → Ordering → Done
orders_by d o = if_some d.drawing (misplaced_at misplaced.NoDraw d) (λ x. (Ok said.silent, new_drawing d (record { held = x.held; order = o })))

-- `try V`
abbrev pub tries_at : Desk → ℕ → Done
tries_at d v = with_draw d (λ p a x. (told said.tried (tried (layout_of p) (cells_at a) v x).0, new_drawing d (tried (layout_of p) (cells_at a) v x).1))

-- `step`
abbrev pub steps_on : Desk → Done
steps_on d = with_draw d (λ p a x. (told said.tried (stepped (layout_of p) (cells_at a) x).0, new_drawing d (stepped (layout_of p) (cells_at a) x).1))

-- `run B`
abbrev pub runs_for : Desk → ℕ → Done
runs_for d budget = with_draw d (λ p a x. (told (λ y. said.ran y.0 y.1) (ran (layout_of p) (cells_at a) budget x).0, new_drawing d (ran (layout_of p) (cells_at a) budget x).1))

-- `heights`, `open?` and `records`
abbrev pub shows : Desk → (Drawing → Said) → Done
shows d f = if_some d.drawing (misplaced_at misplaced.NoDraw d) (λ x. (Ok (f x), d))

-- `tree`
abbrev pub shows_tree : Desk → Done
shows_tree d = with_draw d (λ p a x. (told said.tree (tree_shown (layout_of p) (cells_at a) x), d))

-- the new cells are the arrows from now on, with a fresh draw over them
abbrev pub reseated_desk : Desk → Planned → ℕ → ℕ → ℕ → Result (Unit {0}) DrawFault × List ℕ → Done
reseated_desk d p n r depth (Ok x, cells) = (Ok (said.cells cells), new_drawing (new_arrows d (filed n r depth cells)) (begun (layout_of p) d.room))
reseated_desk d p n r depth (Err e, cells) = (Err (refusal.Fault e), d)

-- only filed arrows can be reseated
abbrev pub reseats_arrows : Desk → Planned → Arrowed → Drawing → List ℕ → Done
reseats_arrows d p (filed n r depth cells) x ports = reseated_desk d p n r depth (reseats_to (layout_of p) x.held.draw depth cells ports)
reseats_arrows d p (seeded seed depth) x ports = misplaced_at misplaced.NotFiled d

-- `reseat P P ..`
abbrev pub reseats : Desk → List ℕ → Done
reseats d ports = with_draw d (λ p a x. reseats_arrows d p a x ports)

-- what the command at this line does
abbrev pub does : Desk → ℕ → commands.Asked → Done
does d line (commands.complete n r) = begins_complete d n r
does d line (commands.table n r) = begins_table d n r
does d line (commands.link a b) = adds_link d a b
does d line (commands.check ports) = checks d ports
does d line (commands.filed depth ports) = begins_filed d line depth ports
does d line (commands.cells ports) = adds_cells d ports
does d line (commands.seeded seed depth) = takes_seed d seed depth
does d line (commands.room k) = makes_room d k
does d line commands.begin = opens d
does d line commands.walk = orders_by d (walk 0)
does d line (commands.listed vertices) = orders_by d (listed vertices 0)
does d line (commands.try_at v) = tries_at d v
does d line commands.step = steps_on d
does d line (commands.run budget) = runs_for d budget
does d line commands.heights = shows d (λ x. said.heights (heights_shown x))
does d line commands.open_vertices = shows d (λ x. said.open_vertices (open_shown x))
does d line commands.records = shows d (λ x. said.records (records_shown x))
does d line commands.tree = shows_tree d
does d line (commands.reseat ports) = reseats d ports
does d line (commands.help scope) = (Ok (said.commands scope), d)

-- ---- want of memory

-- whether the command asks for memory: a table at no fault, cells, a draw, and what is shown as a list
abbrev pub wants_memory : commands.Asked → Bool
wants_memory (commands.complete n r) = false
wants_memory (commands.table n r) = not (is_some (plan_fault n r))
wants_memory (commands.link a b) = false
wants_memory (commands.check ports) = false
wants_memory (commands.filed depth ports) = false
wants_memory (commands.cells ports) = true
wants_memory (commands.seeded seed depth) = false
wants_memory (commands.room k) = false
wants_memory commands.begin = true
wants_memory commands.walk = false
wants_memory (commands.listed vertices) = false
wants_memory (commands.try_at v) = false
wants_memory commands.step = false
wants_memory (commands.run budget) = false
wants_memory commands.heights = true
wants_memory commands.open_vertices = true
wants_memory commands.records = true
wants_memory commands.tree = true
wants_memory (commands.reseat ports) = true
wants_memory (commands.help scope) = false

-- the command found no memory: it is refused, and the desk is as it was
pub record LacksMemory (d : Desk) (c : commands.Asked) (r : Result Said Refusal) (after : Desk) : Type 0 where
  pub wants : wants_memory c ≡ true
  pub refused : r ≡ Err (refusal.Fault NoMemory)
  pub same : after ≡ d

-- the command does what it does, or finds no memory
abbrev pub Takes : Desk → ℕ → commands.Asked → Result Said Refusal → Desk → Type 0
Takes d line c r after = ((r, after) ≡ does d line c) ⊎ LacksMemory d c r after

-- the same of one command
abbrev pub DoesOrNoMemory : Desk → Done → Result Said Refusal → Desk → Type 0
DoesOrNoMemory d x r after = ((r, after) ≡ x) ⊎ ((r ≡ Err (refusal.Fault NoMemory)) × (after ≡ d))

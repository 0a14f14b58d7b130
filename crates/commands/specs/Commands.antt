-- What a line's words ask for. Assumes nothing.
use Rattle.std.specs.Prelude.{ℕ, Bool, true, false, cond, List, [], ◌∷◌, Some, None, Ok, Err, codes, Option, Result}
use Rattle.std.specs.Option.{option_or}
use Rattle.std.specs.Str.{bytes_eq}
use Rattle.commands.specs.Args.{and_then, or_mistake, small_of, port_of, list_of, pair_of, single_of, two_of, around_of}
use Rattle.tokens.specs.Numbers.{number_of}
use Rattle.tokens.specs.Seeds.{seed_of}
use Rattle.commands.specs.declared.command.Mistake.{Mistake}
use Rattle.commands.specs.declared.command.Mistake.TheVariants.{Unknown, Count, Root, Depth}
use Rattle.commands.specs.declared.keyword.Keyword.{Keyword}
use Rattle.commands.specs.declared.keyword.Keyword.TheVariants as keyword
use Rattle.commands.specs.declared.scope.Scope.{Scope}
use Rattle.commands.specs.declared.scope.Scope.TheVariants.{Halls, Draws}

-- what a line asks for: a seed has 64 bits, a budget 32, and each other number is at most 65,535
pub data Asked : Type 0 where
  complete : (size root : ℕ) → Asked
  table : (size root : ℕ) → Asked
  link : (from to : ℕ) → Asked
  check : (ports : List ℕ) → Asked
  filed : (depth : ℕ) (ports : List ℕ) → Asked
  cells : (ports : List ℕ) → Asked
  seeded : (seed depth : ℕ) → Asked
  room : (records : ℕ) → Asked
  begin : Asked
  walk : Asked
  listed : (vertices : List ℕ) → Asked
  try_at : (vertex : ℕ) → Asked
  step : Asked
  run : (budget : ℕ) → Asked
  heights : Asked
  open_vertices : Asked
  records : Asked
  tree : Asked
  reseat : (ports : List ℕ) → Asked
  help : (scope : Scope) → Asked

-- the command on plans and trees that a first word names, or `help`
abbrev pub hall_keyword : List ℕ → Option Keyword
hall_keyword word =
    cond (bytes_eq word (codes "complete")) (Some keyword.Complete)
    (cond (bytes_eq word (codes "table")) (Some keyword.Table)
    (cond (bytes_eq word (codes "link")) (Some keyword.Link)
    (cond (bytes_eq word (codes "check")) (Some keyword.Check)
    (cond (bytes_eq word (codes "help")) (Some keyword.Help) None))))

-- the command on arrows and draws that a first word names
abbrev pub draw_keyword : List ℕ → Option Keyword
draw_keyword word =
    cond (bytes_eq word (codes "filed")) (Some keyword.Filed)
    (cond (bytes_eq word (codes "cells")) (Some keyword.Cells)
    (cond (bytes_eq word (codes "seeded")) (Some keyword.Seeded)
    (cond (bytes_eq word (codes "room")) (Some keyword.Room)
    (cond (bytes_eq word (codes "open")) (Some keyword.Open)
    (cond (bytes_eq word (codes "order")) (Some keyword.Order)
    (cond (bytes_eq word (codes "try")) (Some keyword.Try)
    (cond (bytes_eq word (codes "step")) (Some keyword.Step)
    (cond (bytes_eq word (codes "run")) (Some keyword.Run)
    (cond (bytes_eq word (codes "heights")) (Some keyword.Heights)
    (cond (bytes_eq word (codes "open?")) (Some keyword.OpenVertices)
    (cond (bytes_eq word (codes "records")) (Some keyword.Records)
    (cond (bytes_eq word (codes "tree")) (Some keyword.Tree)
    (cond (bytes_eq word (codes "reseat")) (Some keyword.Reseat) None)))))))))))))

-- the command that a first word names, among those that a sheet of this scope may hold
abbrev pub keyword_of : Scope → List ℕ → Option Keyword
keyword_of Halls word = hall_keyword word
keyword_of Draws word = option_or (hall_keyword word) (draw_keyword word)

-- a command that takes no further words
abbrev pub alone_of : Asked → List (List ℕ) → Result Asked Mistake
alone_of what [] = Ok what
alone_of what (w ∷ ws) = Err Count

-- `N root R`: the size and the root
abbrev pub sized_of : List (List ℕ) → Result (ℕ × ℕ) Mistake
sized_of ws = and_then (around_of (codes "root") Root ws) (λ words. pair_of words.0 words.1)

-- `complete N root R`
abbrev pub complete_of : List (List ℕ) → Result Asked Mistake
complete_of ws = and_then (sized_of ws) (λ plan. Ok (complete plan.0 plan.1))

-- `table N root R`
abbrev pub table_of : List (List ℕ) → Result Asked Mistake
table_of ws = and_then (sized_of ws) (λ plan. Ok (table plan.0 plan.1))

-- `link A B`
abbrev pub link_of : List (List ℕ) → Result Asked Mistake
link_of ws = and_then (two_of ws) (λ words. and_then (pair_of words.0 words.1) (λ ends. Ok (link ends.0 ends.1)))

-- `check P P ..`
abbrev pub check_of : List (List ℕ) → Result Asked Mistake
check_of ws = and_then (list_of port_of ws) (λ ports. Ok (check ports))

-- `filed D P P ..`
abbrev pub filed_of : List (List ℕ) → Result Asked Mistake
filed_of [] = Err Count
filed_of (w ∷ ws) = and_then (small_of w) (λ depth. and_then (list_of small_of ws) (λ ports. Ok (filed depth ports)))

-- `cells P P ..`
abbrev pub cells_of : List (List ℕ) → Result Asked Mistake
cells_of ws = and_then (list_of small_of ws) (λ ports. Ok (cells ports))

-- the seed and the depth
abbrev pub seed_and_depth_of : List ℕ → List ℕ → Result Asked Mistake
seed_and_depth_of left right = and_then (or_mistake (seed_of left)) (λ s. and_then (small_of right) (λ depth. Ok (seeded s depth)))

-- `seeded S depth D`
abbrev pub seeded_of : List (List ℕ) → Result Asked Mistake
seeded_of ws = and_then (around_of (codes "depth") Depth ws) (λ words. seed_and_depth_of words.0 words.1)

-- `room K`
abbrev pub room_of : List (List ℕ) → Result Asked Mistake
room_of ws = and_then (single_of ws) (λ word. and_then (small_of word) (λ count. Ok (room count)))

-- an order by its vertices
abbrev pub listed_of : List (List ℕ) → Result Asked Mistake
listed_of ws = and_then (list_of small_of ws) (λ vertices. Ok (listed vertices))

-- `order walk` or `order V V ..`
abbrev pub order_of : List (List ℕ) → Result Asked Mistake
order_of [] = Err Count
order_of (w ∷ []) = cond (bytes_eq w (codes "walk")) (Ok walk) (listed_of (w ∷ []))
order_of (w ∷ v ∷ ws) = listed_of (w ∷ v ∷ ws)

-- `try V`
abbrev pub try_of : List (List ℕ) → Result Asked Mistake
try_of ws = and_then (single_of ws) (λ word. and_then (small_of word) (λ vertex. Ok (try_at vertex)))

-- `run B`
abbrev pub run_of : List (List ℕ) → Result Asked Mistake
run_of ws = and_then (single_of ws) (λ word. and_then (or_mistake (number_of word 4294967295)) (λ budget. Ok (run budget)))

-- `reseat P P ..`
abbrev pub reseat_of : List (List ℕ) → Result Asked Mistake
reseat_of ws = and_then (list_of port_of ws) (λ ports. Ok (reseat ports))

-- a command by its name and the words after it, in a sheet of this scope
abbrev pub further_of : Scope → Option Keyword → List (List ℕ) → Result Asked Mistake
further_of scope None ws = Err Unknown
further_of scope (Some keyword.Complete) ws = complete_of ws
further_of scope (Some keyword.Table) ws = table_of ws
further_of scope (Some keyword.Link) ws = link_of ws
further_of scope (Some keyword.Check) ws = check_of ws
further_of scope (Some keyword.Filed) ws = filed_of ws
further_of scope (Some keyword.Cells) ws = cells_of ws
further_of scope (Some keyword.Seeded) ws = seeded_of ws
further_of scope (Some keyword.Room) ws = room_of ws
further_of scope (Some keyword.Open) ws = alone_of begin ws
further_of scope (Some keyword.Order) ws = order_of ws
further_of scope (Some keyword.Try) ws = try_of ws
further_of scope (Some keyword.Step) ws = alone_of step ws
further_of scope (Some keyword.Run) ws = run_of ws
further_of scope (Some keyword.Heights) ws = alone_of heights ws
further_of scope (Some keyword.OpenVertices) ws = alone_of open_vertices ws
further_of scope (Some keyword.Records) ws = alone_of records ws
further_of scope (Some keyword.Tree) ws = alone_of tree ws
further_of scope (Some keyword.Reseat) ws = reseat_of ws
further_of scope (Some keyword.Help) ws = alone_of (help scope) ws

-- what the words of a line ask for, in a sheet of this scope
abbrev pub command_of : Scope → List (List ℕ) → Result Asked Mistake
command_of scope [] = Err Unknown
command_of scope (w ∷ ws) = further_of scope (keyword_of scope w) ws

-- ---- the commands on halls

-- whether it is a command on plans and trees, or `help`
abbrev pub on_halls : Asked → Bool
on_halls (complete n r) = true
on_halls (table n r) = true
on_halls (link a b) = true
on_halls (check ports) = true
on_halls (filed depth ports) = false
on_halls (cells ports) = false
on_halls (seeded s depth) = false
on_halls (room k) = false
on_halls begin = false
on_halls walk = false
on_halls (listed vertices) = false
on_halls (try_at v) = false
on_halls step = false
on_halls (run budget) = false
on_halls heights = false
on_halls open_vertices = false
on_halls records = false
on_halls tree = false
on_halls (reseat ports) = false
on_halls (help scope) = true

-- whether a line that asks for this asks for nothing but halls: a mistake asks for nothing
abbrev pub asks_halls : Result Asked Mistake → Bool
asks_halls (Ok c) = on_halls c
asks_halls (Err m) = true

-- How answers are worded. Assumes nothing.
use Rattle.std.specs.Prelude.{ℕ, cond, List, [], ◌++◌, codes, decimal, ◌==◌}
use Rattle.std.specs.List.{flat_map}
use Rattle.commands.specs.declared.scope.Scope.{Scope}
use Rattle.commands.specs.declared.scope.Scope.TheVariants.{Halls, Draws}
use Rattle.model.specs.Words.{check_words, pop_words, tried_words, stop_word}
use Rattle.model.specs.declared.draw.Pop.{Pop}
use Rattle.tokens.specs.Seeds.{seed_text}
use Rattle.session.specs.Said as says
use Rattle.session.specs.Said.{Said}
use Rattle.session.specs.declared.answer.Due.{Due}
use Rattle.session.specs.declared.answer.Due.TheVariants.{Table, FewCells}
use Rattle.session.specs.declared.answer.Misplaced.{Misplaced}
use Rattle.session.specs.declared.answer.Misplaced.TheVariants.{NoPlan, NoTable, NoFiled, TooMany, NoArrows, NoDraw, NotFiled}

-- a port; 65535 is the root's and is written `-`
abbrev pub port_word : ℕ → List ℕ
port_word x = cond (x == 65535) (codes "-") (decimal x)

-- a line with a list of numbers behind its first word
abbrev pub list_text : List ℕ → (ℕ → List ℕ) → List ℕ → List ℕ
list_text word shown xs = word ++ (flat_map (λ x. codes " " ++ shown x) xs ++ codes "\n")

-- the record of a popped cycle as a line
abbrev pub record_text : Pop → List ℕ
record_text p = codes "record " ++ (pop_words p ++ codes "\n")

-- a line for each record
abbrev pub records_text : List Pop → List ℕ
records_text ps = flat_map record_text ps

-- a line for each command on plans and trees
abbrev pub hall_commands : List ℕ
hall_commands =
    codes "complete N root R   the plan in which every unit is cabled to every other\n" ++ (
    codes "table N root R      a plan that is told link by link; its links follow\n" ++ (
    codes "link A B            one more link of the table, from A to B\n" ++ (
    codes "check P P ..        whether the ports, by rising unit, lead every unit to the root; - for the root's port\n")))

-- a line for each command on arrows and draws
abbrev pub draw_commands : List ℕ
draw_commands =
    codes "filed D P P ..      arrows of depth D from a list of ports, by rising unit without the root\n" ++ (
    codes "cells P P ..        more ports of that list\n" ++ (
    codes "seeded S depth D    arrows from the seed S, in hexadecimal, down to depth D\n" ++ (
    codes "room K              how many records the next draws have room for; 4096 unless said\n" ++ (
    codes "open                a draw over the plan and the arrows, with a fresh walk\n" ++ (
    codes "order walk          from now on a fresh walk round the units\n" ++ (
    codes "order V V ..        from now on these units in turn\n" ++ (
    codes "try V               tries the unit V\n" ++ (
    codes "step                tries the unit that the order picks\n" ++ (
    codes "run B               at most B steps\n" ++ (
    codes "heights             the height of each unit\n" ++ (
    codes "open?               the units that are open\n" ++ (
    codes "records             the popped cycles: lowest unit, its height before, how many units\n" ++ (
    codes "tree                the port of each unit, where the draw ended in a tree\n" ++ (
    codes "reseat P P ..       another tree for the filed arrows, and a draw over them\n"))))))))))))))

-- a line for each command that a sheet of this scope may hold
abbrev pub commands_text : Scope → List ℕ
commands_text Halls = hall_commands ++ codes "help                these lines\n"
commands_text Draws = hall_commands ++ (draw_commands ++ codes "help                these lines\n")

-- what an answer writes: its lines with their newlines, no bytes where there is nothing to write
abbrev pub answer_text : Said → List ℕ
answer_text says.silent = []
answer_text (says.complete n r) = codes "plan complete " ++ (decimal n ++ (codes " root " ++ (decimal r ++ codes "\n")))
answer_text (says.checked t) = check_words t ++ codes "\n"
answer_text (says.filed d) = codes "arrows filed " ++ (decimal d ++ codes "\n")
answer_text (says.seeded s d) = codes "arrows seeded " ++ (seed_text s ++ (codes " depth " ++ (decimal d ++ codes "\n")))
answer_text (says.begun n r) = codes "opened " ++ (decimal n ++ (codes " root " ++ (decimal r ++ codes "\n")))
answer_text (says.tried t) = tried_words t ++ codes "\n"
answer_text (says.ran tries why) = codes "ran " ++ (decimal tries ++ (codes " " ++ (stop_word why ++ codes "\n")))
answer_text (says.heights hs) = list_text (codes "heights") decimal hs
answer_text (says.open_vertices vs) = list_text (codes "open") decimal vs
answer_text (says.records ps) = records_text ps
answer_text (says.tree ports) = list_text (codes "tree") port_word ports
answer_text (says.cells ports) = list_text (codes "cells") decimal ports
answer_text (says.commands scope) = commands_text scope

-- what is wrong with a line, by its number
abbrev pub line_text : ℕ → List ℕ → List ℕ
line_text i why = codes "line " ++ (decimal i ++ (codes ": " ++ (why ++ codes "\n")))

abbrev pub misplaced_word : Misplaced → List ℕ
misplaced_word NoPlan = codes "there is no plan yet"
misplaced_word NoTable = codes "a link follows its table"
misplaced_word NoFiled = codes "cells follow filed arrows that lack some"
misplaced_word TooMany = codes "there are too many cells"
misplaced_word NoArrows = codes "there are no arrows yet"
misplaced_word NoDraw = codes "there is no draw yet"
misplaced_word NotFiled = codes "only filed arrows can be reseated"

-- what is written of a plan or of filed arrows when they end
abbrev pub due_text : Due → List ℕ
due_text (Table n r l) = codes "plan table " ++ (decimal n ++ (codes " root " ++ (decimal r ++ (codes " links " ++ (decimal l ++ codes "\n")))))
due_text (FewCells i) = line_text i (codes "there are too few cells")

-- What an answer of the code says. Assumes nothing.
use Rattle.std.specs.Prelude.{vec_items, Result}
use Rattle.commands.specs.Args.{meant}
use Rattle.commands.specs.Commands as asks
use Rattle.commands.specs.Commands.{Asked}
use Rattle.commands.specs.declared.command.Command.{Command}
use Rattle.commands.specs.declared.command.Command.TheVariants.{Complete, Table, Link, Check, Filed, Cells, Seeded, Room, Open, Walk, Listed, Try, Step, Run, Heights, OpenVertices, Records, Tree, Reseat, Help}
use Rattle.commands.specs.declared.command.Mistake.{Mistake}

-- what a command asks for
abbrev pub asked : Command → Asked
asked (Complete size root) = asks.complete size root
asked (Table size root) = asks.table size root
asked (Link from to) = asks.link from to
asked (Check ports) = asks.check (vec_items ports)
asked (Filed depth ports) = asks.filed depth (vec_items ports)
asked (Cells ports) = asks.cells (vec_items ports)
asked (Seeded seed depth) = asks.seeded seed depth
asked (Room records) = asks.room records
asked Open = asks.begin
asked Walk = asks.walk
asked (Listed vertices) = asks.listed (vec_items vertices)
asked (Try vertex) = asks.try_at vertex
asked Step = asks.step
asked (Run budget) = asks.run budget
asked Heights = asks.heights
asked OpenVertices = asks.open_vertices
asked Records = asks.records
asked Tree = asks.tree
asked (Reseat ports) = asks.reseat (vec_items ports)
asked (Help scope) = asks.help scope

-- the same of a command or a mistake
abbrev pub answer : Result Command Mistake → Result Asked Mistake
answer r = meant asked r

-- The number, layer and place of each fault. Assumes nothing.
use Rattle.std.specs.Prelude.{ℕ}
use Rattle.model.specs.declared.fault.DrawFault.{DrawFault}
use Rattle.model.specs.declared.fault.DrawFault.TheVariants.{NoMemory, Limit, Link, Root, Short, NoTree, Vertex, OtherPlan, AlreadySettled, ListFull, NothingOpen, StillOpen, Dry}
use Rattle.model.specs.declared.fault.Layer.{Layer}
use Rattle.model.specs.declared.fault.Layer.TheVariants.{Draw}

abbrev pub number_of : DrawFault → ℕ
number_of NoMemory = 0
number_of Limit = 4
number_of Link = 5
number_of Root = 8
number_of Short = 9
number_of NoTree = 10
number_of (Vertex v) = 8
number_of OtherPlan = 21
number_of (AlreadySettled v) = 22
number_of ListFull = 23
number_of NothingOpen = 24
number_of StillOpen = 25
number_of (Dry v) = 26

-- every fault of a plan or a draw is of the layer draw
abbrev pub layer_of : DrawFault → Layer
layer_of e = Draw

-- the vertex that the fault speaks of, 0 where it speaks of none
abbrev pub place_of : DrawFault → ℕ
place_of NoMemory = 0
place_of Limit = 0
place_of Link = 0
place_of Root = 0
place_of Short = 0
place_of NoTree = 0
place_of (Vertex v) = v
place_of OtherPlan = 0
place_of (AlreadySettled v) = v
place_of ListFull = 0
place_of NothingOpen = 0
place_of StillOpen = 0
place_of (Dry v) = v

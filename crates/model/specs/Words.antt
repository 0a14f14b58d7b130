-- How faults, checks and what draws do are worded. Assumes nothing.
use Rattle.std.specs.Prelude.{List, ◌++◌, codes, decimal, ℕ}
use Rattle.model.specs.Faults.{number_of, layer_of, place_of}
use Rattle.model.specs.declared.draw.Pop.{Pop}
use Rattle.model.specs.declared.draw.Stop.{Stop}
use Rattle.model.specs.declared.draw.Stop.TheVariants.{Ended, Spent, Full}
use Rattle.model.specs.declared.draw.Tried.{Tried}
use Rattle.model.specs.declared.draw.Tried.TheVariants.{Popped, Settled}
use Rattle.model.specs.declared.fault.DrawFault.{DrawFault}
use Rattle.model.specs.declared.fault.Layer.{Layer}
use Rattle.model.specs.declared.fault.Layer.TheVariants.{Record, Filing, Draw}
use Rattle.model.specs.declared.tree.TreeCheck.{TreeCheck}
use Rattle.model.specs.declared.tree.TreeCheck.TheVariants.{Tree, Lost}

abbrev pub layer_word : Layer → List ℕ
layer_word Record = codes "record"
layer_word Filing = codes "filing"
layer_word Draw = codes "draw"

-- the number, the layer and the place
abbrev pub fault_words : DrawFault → List ℕ
fault_words e = decimal (number_of e) ++ (codes " " ++ (layer_word (layer_of e) ++ (codes " " ++ decimal (place_of e))))

abbrev pub check_words : TreeCheck → List ℕ
check_words Tree = codes "tree"
check_words (Lost v) = codes "no tree: " ++ (decimal v ++ codes " does not reach the root")

-- the vertex, the height and the length
abbrev pub pop_words : Pop → List ℕ
pop_words p = decimal p.vertex ++ (codes " " ++ (decimal p.height ++ (codes " " ++ decimal p.length)))

abbrev pub tried_words : Tried → List ℕ
tried_words (Popped p) = codes "popped " ++ pop_words p
tried_words (Settled count) = codes "settled " ++ decimal count

-- why a run stopped
abbrev pub stop_word : Stop → List ℕ
stop_word Ended = codes "ended"
stop_word Spent = codes "spent"
stop_word Full = codes "full"

-- What the marks of the tree check stand for. Assumes nothing.
use Rattle.std.specs.Prelude.{◌≡◌, ℕ, ◌+◌, ◌<◌, Bool, true, List, Some, None, MatchBool, Option, slice_index_or}
use Rattle.model.specs.Layouts.{Layout}
use Rattle.model.specs.Trees.{Reaches, IsTree, IsLost}
use Rattle.model.specs.declared.tree.TreeCheck.{TreeCheck}
use Rattle.model.specs.declared.tree.TreeCheck.TheVariants.{Tree, Lost}

-- each marked vertex was passed by a walk from below v, and reaches the root
abbrev pub Marked : Layout → List ℕ → ℕ → List (Option ℕ) → Type 0
Marked p ports v marks = (u start : ℕ) → slice_index_or marks u None ≡ Some start → (start < v) × Reaches p ports u

-- a walk's answer is right, and where it is yes, its marks are as good as the older ones
pub record Judged (p : Layout) (ports : List ℕ) (v : ℕ) (marks : List (Option ℕ)) (r : Bool) : Type 0 where
  pub verdict : MatchBool r (Reaches p ports v) (Reaches p ports v → ⊥)
  pub marked : r ≡ true → Marked p ports (v + 1) marks

-- the answer is the right one for these ports, of which there are enough
abbrev pub Finds : Layout → List ℕ → TreeCheck → Type 0
Finds p ports Tree = IsTree p ports
Finds p ports (Lost v) = IsLost p ports v

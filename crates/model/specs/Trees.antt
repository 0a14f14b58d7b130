-- Trees toward the root: one port for each vertex, and whether following the ports reaches the root. Assumes nothing.
use Rattle.std.specs.Prelude.{◌≡◌, ℕ, zero, suc, ◌<◌, ◌≤◌, Bool, cond, not, ◌||◌, List, length, Some, None, Ok, Err, Option, Result, ◌==◌, nat_lt, slice_index}
use Rattle.model.specs.Layouts.{Layout, is_root}
use Rattle.model.specs.Picks.{passes, lowest}
use Rattle.model.specs.Ways.{Leads}
use Rattle.model.specs.declared.fault.DrawFault.{DrawFault}
use Rattle.model.specs.declared.fault.DrawFault.TheVariants.{Short}
use Rattle.model.specs.declared.tree.TreeCheck.{TreeCheck}
use Rattle.model.specs.declared.tree.TreeCheck.TheVariants.{Tree, Lost}

-- where the listed port of v leads; nowhere from the root, whose entry is not read, nor by a port that v lacks
abbrev pub follow : Layout → List ℕ → ℕ → Option ℕ
follow p ports v = cond (is_root p v) None (p.target v (slice_index ports v))

-- whether at most k arrows lead from v to w
abbrev pub comes_to : (ℕ → Option ℕ) → ℕ → ℕ → ℕ → Bool
comes_to f w zero v = v == w
comes_to f w (suc k) v = v == w || passes (f v) (λ u. comes_to f w k u)

-- the lowest vertex from which the ports do not lead to the root; a way that meets no vertex twice has fewer arrows than there are vertices
abbrev pub lowest_lost : Layout → List ℕ → Option ℕ
lowest_lost p ports = lowest (λ v. not (comes_to (follow p ports) p.root p.size v)) p.size

-- the answer of the check by the lowest vertex that does not reach the root: yes where there is none
abbrev pub verdict : Option ℕ → TreeCheck
verdict None = Tree
verdict (Some v) = Lost v

-- what checking the ports answers: refused where they are fewer than the vertices, else the verdict
abbrev pub tree_check : Layout → List ℕ → Result TreeCheck DrawFault
tree_check p ports = cond (nat_lt (length ports) p.size) (Err Short) (Ok (verdict (lowest_lost p ports)))

-- from v a way along the ports leads to the root
abbrev pub Reaches : Layout → List ℕ → ℕ → Type 0
Reaches p ports v = Leads (follow p ports) v p.root

-- the ports are as many as the vertices at least, and from every vertex they lead to the root
pub record IsTree (p : Layout) (ports : List ℕ) : Type 0 where
  pub enough : p.size ≤ length ports
  pub all_reach : (v : ℕ) → v < p.size → Reaches p ports v

-- v is the lowest vertex from which they do not
pub record IsLost (p : Layout) (ports : List ℕ) (v : ℕ) : Type 0 where
  pub enough : p.size ≤ length ports
  pub within : v < p.size
  pub no_way : Reaches p ports v → ⊥
  pub lower_reach : (u : ℕ) → u < v → Reaches p ports u

-- the law of the check, in words of ways: each answer comes exactly where it is right
pub record TreeLaw (p : Layout) (ports : List ℕ) (r : Result TreeCheck DrawFault) : Type 0 where
  pub yes : r ≡ Ok Tree → IsTree p ports
  pub only_yes : IsTree p ports → r ≡ Ok Tree
  pub named : (v : ℕ) → r ≡ Ok (Lost v) → IsLost p ports v
  pub only_named : (v : ℕ) → IsLost p ports v → r ≡ Ok (Lost v)
  pub short : (e : DrawFault) → r ≡ Err e → (length ports < p.size) × (e ≡ Short)
  pub only_short : length ports < p.size → r ≡ Err Short

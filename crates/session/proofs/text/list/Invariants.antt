use Rattle.std.proofs.Common.{◌≡◌, ℕ, List, ◌++◌, Some, codes, take}
use Rattle.std.specs.Fmt.{HasWritten, IsPlainFormatter}
use Rattle.std.specs.List.{flat_map}
use Rattle.session.proofs.text.list.Given as goal

abbrev pub invariant-loop-x : goal.invariant-loop-x
invariant-loop-x g l =
    (text : ℕ → List ℕ) → ((x : ℕ) (d : g.row.D.Denot) → g.F.Fn.post l.shown (x, tt) d → g.D.Display.output d ≡ Some (text x))
    → IsPlainFormatter l.initial.f → HasWritten g.W.Write.write_str_gives l.initial.f (flat_map (λ x. codes " " ++ text x) (take l.x-index l.numbers)) l.f

-- When a plan that is given by the list of each vertex's targets keeps the limits of every plan. Assumes nothing.
use Rattle.std.proofs.Common.{◌≡◌, ℕ, ◌<◌, ◌≤◌, List, [], length, get_or, ap}
use Rattle.std.specs.List.{AllByRecursion}
use Rattle.std.proofs.ByRecursion.{All-get_or}
use Rattle.std.proofs.lemmas.Option.{slice_get-get_or, slice_get_past}
use Rattle.model.specs.Layouts.{Sound, from_ports}

-- few targets at each vertex, all of them vertices, and none at a vertex that there is not
pub sound_from_ports : (n r : ℕ) (ports : ℕ → List ℕ) → 1 ≤ n → n ≤ 1024 → r < n → ((v : ℕ) → length (ports v) ≤ 1023) → ((v : ℕ) → n ≤ v → ports v ≡ []) → ((v : ℕ) → AllByRecursion (λ w. w < n) (ports v)) → Sound (from_ports n r ports)
sound_from_ports n r ports least most root few none below = record {
  size_least = least;
  size_most = most;
  root_below = root;
  degree_most = few;
  degree_none = λ v past. ap length (none v past);
  target_some = λ v i there. (get_or (ports v) i 0, slice_get-get_or (ports v) i 0 there, All-get_or (λ w. w < n) (ports v) i 0 there (below v));
  target_none = λ v i past. slice_get_past (ports v) i past;
}

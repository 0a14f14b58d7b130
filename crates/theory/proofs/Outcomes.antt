-- What any calls come to: the end's cycles, each once, and its heights. Assumes nothing.
use Rattle.std.proofs.Common.{◌≡◌, ℕ, zero, suc, ◌+◌, ◌-◌, ◌*◌, ◌≤◌, true, List, ◌++◌, length, sym, ap, ◌∙◌, subst, append-nil, suc-mul, zero-mul, arith, length-append}
use Rattle.std.specs.List.Sorted.{IsPermutation}
use Rattle.std.proofs.lemmas.List.Sorted.{length_permutation}
use Rattle.model.specs.Arrows.{Cells, sight}
use Rattle.theory.specs.Calls.{none_open}
use Rattle.theory.specs.Cycles.{Heights, flat, Coloured, Pops, Final}
use Rattle.model.specs.Distinct.{Distinct}
use Rattle.theory.specs.Draws.{Held, height_of}
use Rattle.theory.specs.Ends.{LowestPops}
use Rattle.model.specs.Layouts.{Layout, Sound}
use Rattle.theory.specs.Outcomes.{end_of}
use Rattle.model.specs.declared.draw.Pop.{Pop}
use Rattle.theory.proofs.Drawing.{Good, ended_final}
use Rattle.theory.proofs.Ends.{room, popped_out_law, end_one, lowest_pops}
use Rattle.theory.proofs.Popping.{abelian, none_left, pops_distinct}
use Rattle.theory.proofs.Sights.{sight_within}

room_flat : (top n : ℕ) → room top flat n ≡ n * top
room_flat top zero = sym (zero-mul top)
room_flat top (suc n) = ap (λ x. (top - 0) + x) (room_flat top n) ∙ omega (arith, suc-mul n top)

module _ (p : Layout) (a : Cells) (sound : Sound p) where
  -- the end is popped by lowest cycles from height 0, and none is left
  pub end_law : LowestPops (sight p a) flat (end_of p a).cycles (end_of p a).heights × Final (sight p a) (end_of p a).heights
  end_law = popped_out_law (sight p a) p.size 4096 (sight_within p a sound) (suc (p.size * 4096)) flat (let e : room 4096 flat p.size ≡ p.size * 4096 = room_flat 4096 p.size in omega arith)

  pub end_pops : Pops (sight p a) flat (end_of p a).cycles (end_of p a).heights
  end_pops = lowest_pops (sight p a) flat (end_of p a).cycles (end_of p a).heights end_law.0

  -- it is the only such sequence
  pub end_only : (ks : List Coloured) (h : Heights) → LowestPops (sight p a) flat ks h → Final (sight p a) h → (ks ≡ (end_of p a).cycles) × ((v : ℕ) → h v ≡ (end_of p a).heights v)
  end_only ks h low fin = end_one (sight p a) flat ks (end_of p a).cycles h (end_of p a).heights low end_law.0 fin end_law.1

  -- any popping sequence from height 0 is a part of the end's
  pub pops_among : (ks : List Coloured) (h : Heights) → Pops (sight p a) flat ks h → (rs : List Coloured) × IsPermutation (end_of p a).cycles (ks ++ rs) × Pops (sight p a) h rs (end_of p a).heights
  pops_among ks h pops = abelian (sight p a) ks (end_of p a).cycles flat h (end_of p a).heights pops end_pops end_law.1

  pub pops_few : (ks : List Coloured) (h : Heights) → Pops (sight p a) flat ks h → length ks ≤ length (end_of p a).cycles
  pops_few ks h pops =
      let (rs, shuffled, rest) = pops_among ks h pops in
      omega (arith, length_permutation (end_of p a).cycles (ks ++ rs) shuffled, length-append ks rs)

  -- a sequence to heights at which no cycle is left is the end's, whatever its turn
  pub to_end : (ks : List Coloured) (h : Heights) → Pops (sight p a) flat ks h → Final (sight p a) h → IsPermutation (end_of p a).cycles ks × ((v : ℕ) → h v ≡ (end_of p a).heights v)
  to_end ks h pops fin =
      let (rs, shuffled, rest) = pops_among ks h pops in
      let (nothing, same) = none_left (sight p a) rs h (end_of p a).heights rest fin in
      (subst (λ x. IsPermutation (end_of p a).cycles x) (ap (λ x. ks ++ x) nothing ∙ append-nil ks) shuffled, same)

  module _ (l : List Pop) (h : Held) (cs : List Coloured) (good : Good p a sound l h cs) where
    pub popped_once : Distinct cs
    popped_once = pops_distinct (sight p a) flat cs (height_of h.draw.entries) good.popped

    -- with nothing open it is all that the end popped
    pub ended_at : none_open h.draw.entries ≡ true → IsPermutation (end_of p a).cycles cs × ((v : ℕ) → height_of h.draw.entries v ≡ (end_of p a).heights v)
    ended_at none = to_end cs (height_of h.draw.entries) good.popped (ended_final p a sound l h cs good none)

-- The abelian property: legal popping sequences that end have the same cycles, whatever their turn, and the same heights. Assumes nothing.
use Rattle.std.proofs.Common.{◌≡◌, ℕ, suc, ◌≤◌, ◌⊎◌, List, [], ◌∷◌, ◌++◌, sym, refl, ap, ◌∙◌, subst, inl, inr, arith}
use mathlib.Core.Path.{fun_ext}
use Rattle.std.specs.List.{AllByRecursion}
use Rattle.std.specs.List.Sorted.{IsPermutation}
use Rattle.std.proofs.ByRecursion.{All-weaker}
use Rattle.std.proofs.lemmas.List.Sorted.{IsPermutation-refl, IsPermutation-cons, IsPermutation-trans, IsPermutation-swap}
use Rattle.model.specs.Arrows.{Arrows}
use Rattle.theory.specs.Cycles.{Heights, seen, Cycle, Coloured, coloured, raise, Pops, Final}
use Rattle.model.specs.Distinct.{Distinct}
use Rattle.theory.proofs.Cycles.{among_here, raise_on, raise_up, Apart, apart_sym, same_or_apart, cycle_kept, colours_kept, raise_comm}

pub swap_heads : {X : Type 0} (a b : X) (xs : List X) → IsPermutation (a ∷ b ∷ xs) (b ∷ a ∷ xs)
swap_heads a b xs = IsPermutation-swap (a ∷ b ∷ xs) (b ∷ a ∷ xs) 0 1 (omega arith) (omega arith) refl

module _ (arrows : Arrows) where
  pops_at : (h g : Heights) (ks : List Coloured) (h2 : Heights) → h ≡ g → Pops arrows h ks h2 → Pops arrows g ks h2
  pops_at h g ks h2 e pops = subst (λ x. Pops arrows x ks h2) e pops

  pub final_at : (h g : Heights) → ((v : ℕ) → h v ≡ g v) → Final arrows g → Final arrows h
  final_at h g same fin = subst (Final arrows) (sym (fun_ext same)) fin

  -- a cycle that stands now is popped by every sequence that ends, and might as well come first
  pub pull : (ds : List Coloured) (h h2 : Heights) (c : List ℕ) → Pops arrows h ds h2 → Final arrows h2 → Cycle (seen arrows h) c
      → (es : List Coloured) × IsPermutation ds (coloured h c ∷ es) × Pops arrows (raise c h) es h2
  pull [] h h2 c same fin cyc = absurd (final_at h h2 same fin c cyc)
  pull (k ∷ ds) h h2 c (d, cyc_d, k_is, rest) fin cyc = by (same_or_apart (seen arrows h) c d cyc cyc_d) (pull ds (raise d h) h2 c rest fin)
    where
      Goal : Type 0
      Goal = (es : List Coloured) × IsPermutation (k ∷ ds) (coloured h c ∷ es) × Pops arrows (raise c h) es h2

      by : (c ≡ d) ⊎ Apart c d
          → (Cycle (seen arrows (raise d h)) c → (es : List Coloured) × IsPermutation ds (coloured (raise d h) c ∷ es) × Pops arrows (raise c (raise d h)) es h2)
          → Goal
      by (inl e) later = (ds, subst (λ x. IsPermutation (k ∷ ds) (x ∷ ds)) (k_is ∙ ap (coloured h) (sym e)) (IsPermutation-refl (k ∷ ds)), pops_at (raise d h) (raise c h) ds h2 (ap (λ x. raise x h) (sym e)) rest)
      by (inr apart) later =
          let (es, shuffled, pops) = later (cycle_kept arrows h c d apart cyc) in
          let first : IsPermutation ds (coloured h c ∷ es) = subst (λ x. IsPermutation ds (x ∷ es)) (colours_kept h c d apart) shuffled in
          let back = apart_sym c d apart in (
            k ∷ es,
            IsPermutation-trans (k ∷ ds) (k ∷ coloured h c ∷ es) (coloured h c ∷ k ∷ es) (IsPermutation-cons k ds (coloured h c ∷ es) first) (swap_heads k (coloured h c) es),
            (d, cycle_kept arrows h d c back cyc_d, k_is ∙ sym (colours_kept h d c back), pops_at (raise c (raise d h)) (raise d (raise c h)) es h2 (raise_comm c d h) pops),
          )

  -- what was popped on the way is a part of what an ended sequence popped
  pub abelian : (cs ds : List Coloured) (h h1 h2 : Heights) → Pops arrows h cs h1 → Pops arrows h ds h2 → Final arrows h2
      → (rs : List Coloured) × IsPermutation ds (cs ++ rs) × Pops arrows h1 rs h2
  abelian [] ds h h1 h2 same pops fin = (ds, IsPermutation-refl ds, pops_at h h1 ds h2 (fun_ext same) pops)
  abelian (k ∷ cs) ds h h1 h2 (c, cyc, k_is, rest) pops fin =
      let (es, first, pops2) = pull ds h h2 c pops fin cyc in
      let (rs, later, pops3) = abelian cs es (raise c h) h1 h2 rest pops2 fin in
      (rs, subst (λ x. IsPermutation ds (x ∷ (cs ++ rs))) (sym k_is) (IsPermutation-trans ds (coloured h c ∷ es) (coloured h c ∷ (cs ++ rs)) first (IsPermutation-cons (coloured h c) es (cs ++ rs) later)), pops3)

  -- where no cycle is left nothing is popped
  pub none_left : (ks : List Coloured) (h h2 : Heights) → Pops arrows h ks h2 → Final arrows h → (ks ≡ []) × ((v : ℕ) → h v ≡ h2 v)
  none_left [] h h2 same fin = (refl, same)
  none_left (k ∷ ks) h h2 (c, cyc, k_is, rest) fin = absurd (fin c cyc)

  pub pops_join : (cs ds : List Coloured) (h h1 h2 : Heights) → Pops arrows h cs h1 → Pops arrows h1 ds h2 → Pops arrows h (cs ++ ds) h2
  pops_join [] ds h h1 h2 same rest = pops_at h1 h ds h2 (sym (fun_ext same)) rest
  pops_join (k ∷ cs) ds h h1 h2 (c, cyc, k_is, more) rest = (c, cyc, k_is, pops_join cs ds (raise c h) h1 h2 more rest)

-- ---- no coloured cycle is popped twice

-- the heights of k are at or above h
abbrev Above : Heights → Coloured → Type 0
Above h k = AllByRecursion (λ (x : ℕ × ℕ). h x.0 ≤ x.1) k

above_self : (h : Heights) (c : List ℕ) → Above h (coloured h c)
above_self h [] = tt
above_self h (v ∷ vs) = (omega arith, above_self h vs)

above_lower : (h g : Heights) → ((v : ℕ) → h v ≤ g v) → (k : Coloured) → Above g k → Above h k
above_lower h g up [] all = tt
above_lower h g up ((v, n) ∷ more) (here, all) = (let le : h v ≤ g v = up v in omega arith, above_lower h g up more all)

module _ (arrows : Arrows) where
  pops_above : (h : Heights) (ks : List Coloured) (h2 : Heights) → Pops arrows h ks h2 → AllByRecursion (Above h) ks
  pops_above h [] h2 same = tt
  pops_above h (k ∷ ks) h2 (c, cyc, is, rest) = (
    subst (Above h) (sym is) (above_self h c),
    All-weaker (Above (raise c h)) (Above h) (λ y above. above_lower h (raise c h) (raise_up c h) y above) ks (pops_above (raise c h) ks h2 rest),
  )

  -- after the pop the lowest vertex of c is above the height that its colour has
  popped_apart : (h : Heights) (c : List ℕ) (y : Coloured) → Cycle (seen arrows h) c → Above (raise c h) y → coloured h c ≡ y → ⊥
  popped_apart h [] y cyc above same = cyc
  popped_apart h (v ∷ vs) y cyc above same =
      let high : Above (raise (v ∷ vs) h) (coloured h (v ∷ vs)) = subst (Above (raise (v ∷ vs) h)) (sym same) above in
      let up : raise (v ∷ vs) h v ≡ suc (h v) = raise_on (v ∷ vs) h v (among_here v vs) in
      omega (arith, high.0)

  pub pops_distinct : (h : Heights) (ks : List Coloured) (h2 : Heights) → Pops arrows h ks h2 → Distinct ks
  pops_distinct h [] h2 same = tt
  pops_distinct h (k ∷ ks) h2 (c, cyc, is, rest) = (
    All-weaker (Above (raise c h)) (λ y. k ≡ y → ⊥) (λ y above same. popped_apart h c y cyc above (sym is ∙ same)) ks (pops_above (raise c h) ks h2 rest),
    pops_distinct (raise c h) ks h2 rest,
  )

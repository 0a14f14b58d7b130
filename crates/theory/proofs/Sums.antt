-- The recorded lengths add up to the sum of the heights. Assumes nothing.
use Rattle.std.proofs.Common.{◌≡◌, ℕ, zero, suc, ◌+◌, ◌<◌, Bool, true, false, cond, ◌||◌, eqb, ltb, List, [], ◌∷◌, map, length, take, drop, sym, refl, ap, ◌∙◌, ⊎_elim, arith}
use mathlib.Core.Path.{fun_ext}
use Rattle.std.specs.List.{AllByRecursion}
use Rattle.std.proofs.lemmas.List.{length-map, take_at}
use Rattle.std.proofs.lemmas.Bool.{eqb-true, eqb-false, lt-ltb, le-ltb, ltb-true, ltb-false, cases_Bool}
use Rattle.model.specs.Arrows.{Arrows, Cells, sight}
use Rattle.theory.specs.Cycles.{Heights, flat, seen, among, Coloured, raise, Pops}
use Rattle.model.specs.Distinct.{Fresh, Distinct}
use Rattle.theory.specs.Draws.{Held, height_of, record_of}
use Rattle.model.specs.Layouts.{Layout, Sound}
use Rattle.theory.specs.Outcomes.{sum_below, lengths_of}
use Rattle.model.specs.declared.draw.Pop.{Pop}
use Rattle.theory.proofs.Cycles.{among_all, cycle_distinct}
use Rattle.theory.proofs.Drawing.{Good}
use Rattle.theory.proofs.Ends.{Within, stays, cycle_below}
use Rattle.theory.proofs.Sights.{sight_within}

-- how many numbers below n are among c
abbrev on_below : List ℕ → ℕ → ℕ
on_below c zero = 0
on_below c (suc n) = cond (among n c) 1 0 + on_below c n

sum_raise : (c : List ℕ) (h : Heights) (n : ℕ) → sum_below (raise c h) n ≡ sum_below h n + on_below c n
sum_raise c h zero = refl
sum_raise c h (suc n) = by (among n c) (sum_raise c h n)
  where
    by : (b : Bool) → sum_below (raise c h) n ≡ sum_below h n + on_below c n → cond b (suc (h n)) (h n) + sum_below (raise c h) n ≡ (h n + sum_below h n) + (cond b 1 0 + on_below c n)
    by true rest = omega arith
    by false rest = omega arith

on_none : (n : ℕ) → on_below [] n ≡ 0
on_none zero = refl
on_none (suc n) = omega (arith, on_none n)

-- one vertex more, which was not among them
on_more : (v : ℕ) (vs : List ℕ) → Fresh v vs → (n : ℕ) → on_below (v ∷ vs) n ≡ on_below vs n + cond (ltb v n) 1 0
on_more v vs fresh zero = omega (arith, ap (λ b. cond {A = ℕ} b 1 0) (le-ltb v 0 (omega arith)))
on_more v vs fresh (suc n) = by (eqb n v) refl (on_more v vs fresh n)
  where
    by : (b : Bool) → eqb n v ≡ b → on_below (v ∷ vs) n ≡ on_below vs n + cond (ltb v n) 1 0 → cond (b || among n vs) 1 0 + on_below (v ∷ vs) n ≡ (cond (among n vs) 1 0 + on_below vs n) + cond (ltb v (suc n)) 1 0
    by true is rest =
        let e : n ≡ v = eqb-true n v is in
        let off : among n vs ≡ false = ⊎_elim (λ on. absurd (among_all (λ y. v ≡ y → ⊥) n vs fresh on (sym e))) (λ no_on. no_on) (cases_Bool (among n vs)) in
        let here : cond {A = ℕ} (ltb v (suc n)) 1 0 ≡ 1 = ap (λ b. cond {A = ℕ} b 1 0) (lt-ltb v (suc n) (omega arith)) in
        let past : cond {A = ℕ} (ltb v n) 1 0 ≡ 0 = ap (λ b. cond {A = ℕ} b 1 0) (le-ltb v n (omega arith)) in
        let none : cond {A = ℕ} (among n vs) 1 0 ≡ 0 = ap (λ b. cond {A = ℕ} b 1 0) off in
        omega arith
    by false is rest =
        let apart : n ≡ v → ⊥ = eqb-false n v is in
        let same : cond {A = ℕ} (ltb v (suc n)) 1 0 ≡ cond (ltb v n) 1 0 = ap (λ b. cond {A = ℕ} b 1 0) (⊎_elim
        (λ lt. lt-ltb v (suc n) (let l = ltb-true v n lt in omega arith) ∙ sym lt)
        (λ ge. le-ltb v (suc n) (let g = ltb-false v n ge in omega arith) ∙ sym ge)
        (cases_Bool (ltb v n))) in
        omega arith

on_length : (c : List ℕ) (n : ℕ) → Distinct c → AllByRecursion (λ v. v < n) c → on_below c n ≡ length c
on_length [] n d low = on_none n
on_length (v ∷ vs) n (fresh, d) (here, low) =
    let one : cond {A = ℕ} (ltb v n) 1 0 ≡ 1 = ap (λ b. cond {A = ℕ} b 1 0) (lt-ltb v n here) in
    omega (arith, on_more v vs fresh n, on_length vs n d low)

record_length : (k : Coloured) → (record_of k).length ≡ length k
record_length [] = refl
record_length ((v, h) ∷ more) = refl

pops_sum : (arrows : Arrows) (n top : ℕ) → Within arrows n top → (h : Heights) (ks : List Coloured) (h2 : Heights) → Pops arrows h ks h2 → sum_below h2 n ≡ sum_below h n + lengths_of (map record_of ks)
pops_sum arrows n top within h [] h2 same = ap (λ g. sum_below g n) (sym (fun_ext same)) ∙ omega arith
pops_sum arrows n top within h (k ∷ ks) h2 (c, cyc, is, rest) =
    let long : (record_of k).length ≡ length c = record_length k ∙ ap length is ∙ length-map c (λ v. (v, h v)) in
    let more : on_below c n ≡ length c = on_length c n (cycle_distinct (seen arrows h) c cyc) (cycle_below (seen arrows h) n (stays arrows n top within h) c cyc) in
    omega (arith, pops_sum arrows n top within (raise c h) ks h2 rest, sum_raise c h n)

sum_flat : (n : ℕ) → sum_below flat n ≡ 0
sum_flat zero = refl
sum_flat (suc n) = omega (arith, sum_flat n)

-- the list's first `pops` records have the sum of the heights for their lengths
pub lengths_sum : (p : Layout) (a : Cells) (sound : Sound p) (l : List Pop) (h : Held) (cs : List Coloured) → Good p a sound l h cs
    → lengths_of (take h.draw.pops h.list) ≡ sum_below (height_of h.draw.entries) p.size
lengths_sum p a sound l h cs good =
    let taken : take h.draw.pops h.list ≡ map record_of cs = ap (take h.draw.pops) good.listed ∙ take_at (map record_of cs) (drop (length cs) l) h.draw.pops (length-map cs record_of ∙ sym good.counted) in
    let whole = pops_sum (sight p a) p.size 4096 (sight_within p a sound) flat cs (height_of h.draw.entries) good.popped in
    ap lengths_of taken ∙ omega (arith, whole, sum_flat p.size)

-- The vertices of a plan but the root, and where each stands among them. Assumes nothing.
use Rattle.std.proofs.Common.{◌≡◌, ℕ, zero, suc, ◌+◌, ◌-◌, ◌<◌, ◌≤◌, cond, not, eqb, ◌⊎◌, List, ◌∷◌, length, get_or, filter, sym, refl, ap, ◌∙◌, subst, inl, inr, ⊎_elim, arith}
use Rattle.std.specs.List.{range_with_len}
use Rattle.std.proofs.lemmas.List.FromFn.{length-range_with_len, get_or-range_with_len}
use Rattle.std.proofs.lemmas.Bool.{cases_lt, cases_eq, eq-eqb, ne_eqb, lt-ltb, le-ltb}
use Rattle.model.specs.Filed.{rank}
use Rattle.theory.specs.Fillings.{drained}
use Rattle.model.specs.Layouts.{Layout, Sound}

module _ (r : ℕ) where
  -- n numbers from a on, without the root
  abbrev others : ℕ → ℕ → List ℕ
  others a n = filter (λ v. not (eqb v r)) (range_with_len a n)

  step_other : (a n : ℕ) → (a ≡ r → ⊥) → others a (suc n) ≡ a ∷ others (a + 1) n
  step_other a n apart = ap (λ b. cond (not b) (a ∷ others (a + 1) n) (others (a + 1) n)) (ne_eqb a r apart)

  step_root : (a n : ℕ) → a ≡ r → others a (suc n) ≡ others (a + 1) n
  step_root a n here = ap (λ b. cond (not b) (a ∷ others (a + 1) n) (others (a + 1) n)) (eq-eqb a r here)

  -- past the root all are left
  past_root : (a n : ℕ) → r < a → others a n ≡ range_with_len a n
  past_root a zero past = refl
  past_root a (suc n) past = step_other a n (omega arith) ∙ ap (λ xs. a ∷ xs) (past_root (a + 1) n (omega arith))

  -- the root among them, one is left out
  others_long : (a n : ℕ) → a ≤ r → r < a + n → suc (length (others a n)) ≡ n
  others_long a zero low high = absurd (omega arith)
  others_long a (suc n) low high = at (cases_eq a r) (others_long (a + 1) n)
    where
      at : (a ≡ r) ⊎ (a ≡ r → ⊥) → (a + 1 ≤ r → r < a + 1 + n → suc (length (others (a + 1) n)) ≡ n) → suc (length (others a (suc n))) ≡ suc n
      at (inl here) on = ap (λ xs. suc (length xs)) (step_root a n here ∙ past_root (a + 1) n (omega arith)) ∙ ap suc (length-range_with_len (a + 1) n)
      at (inr apart) on = ap (λ xs. suc (length xs)) (step_other a n apart) ∙ ap suc (on (omega arith) (omega arith))

  -- below the root each stands at its own number
  below_root : (a n j : ℕ) → a + j < r → j < n → get_or (others a n) j 0 ≡ a + j
  below_root a zero j low within = absurd (omega arith)
  below_root a (suc n) zero low within = ap (λ xs. get_or xs zero 0) (step_other a n (omega arith)) ∙ omega arith
  below_root a (suc n) (suc j) low within = ap (λ xs. get_or xs (suc j) 0) (step_other a n (omega arith)) ∙ below_root (a + 1) n j (omega arith) (omega arith) ∙ omega arith

  -- above it each stands one lower
  above_root : (a n j : ℕ) → a ≤ r → r ≤ a + j → suc j < n → get_or (others a n) j 0 ≡ a + j + 1
  above_root a zero j low high within = absurd (omega arith)
  above_root a (suc n) j low high within = at (cases_eq a r) j high within (above_root (a + 1) n)
    where
      at : (a ≡ r) ⊎ (a ≡ r → ⊥) → (i : ℕ) → r ≤ a + i → suc i < suc n → ((m : ℕ) → a + 1 ≤ r → r ≤ a + 1 + m → suc m < n → get_or (others (a + 1) n) m 0 ≡ a + 1 + m + 1) → get_or (others a (suc n)) i 0 ≡ a + i + 1
      at (inl here) i far short on = ap (λ xs. get_or xs i 0) (step_root a n here ∙ past_root (a + 1) n (omega arith)) ∙ get_or-range_with_len (a + 1) n i 0 (omega arith) ∙ omega arith
      at (inr apart) zero far short on = absurd (omega arith)
      at (inr apart) (suc i) far short on = ap (λ xs. get_or xs (suc i) 0) (step_other a n apart) ∙ on i (omega arith) (omega arith) (omega arith) ∙ omega arith

module _ (p : Layout) (sound : Sound p) where
  -- one less than all vertices
  pub drained_long : length (drained p) ≡ p.size - 1
  drained_long = let e : suc (length (drained p)) ≡ p.size = others_long p.root 0 p.size (omega arith) (omega (arith, sound.root_below)) in omega arith

  -- every vertex but the root stands at its rank
  pub drained_at : (v : ℕ) → (v ≡ p.root → ⊥) → v < p.size → get_or (drained p) (rank p.root v) 0 ≡ v
  drained_at v apart within = ⊎_elim
      (λ low. ap (λ b. get_or (drained p) (cond b v (v - 1)) 0) (lt-ltb v p.root low) ∙ below_root p.root 0 p.size v (omega arith) within ∙ omega arith)
      (λ high. ap (λ b. get_or (drained p) (cond b v (v - 1)) 0) (le-ltb v p.root high) ∙ above_root p.root 0 p.size (v - 1) (omega arith) (omega arith) (omega arith) ∙ omega arith)
      (cases_lt v p.root)

  -- the rank is below their number
  pub rank_below : (v : ℕ) → (v ≡ p.root → ⊥) → v < p.size → rank p.root v < p.size - 1
  rank_below v apart within = ⊎_elim
      (λ low. subst (λ b. cond b v (v - 1) < p.size - 1) (sym (lt-ltb v p.root low)) (omega (arith, sound.root_below)))
      (λ high. subst (λ b. cond b v (v - 1) < p.size - 1) (sym (le-ltb v p.root high)) (omega arith))
      (cases_lt v p.root)
